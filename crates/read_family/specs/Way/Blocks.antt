-- What is left of the maps and models of a text while its family is read: told by what is open, by the state and by the
-- lines that are left. What is staged and what is left is the whole.
-- Assumes nothing.
use Rattle.std.specs.Prelude.{ℕ, ◌+◌, ◌-◌, ◌*◌, ◌≤◌, ◌≡◌, Bool, true, false, not, List, ◌∷◌, length, eqb}
use Rattle.base.specs.If.{provided◌then◌else◌, both, either}
use Rattle.lex_keyword.specs.Bracket.{bracket_of}
use Rattle.line_place.specs.Place.{is_in_model}
use Rattle.line_place.specs.Place as place
use Rattle.line_head.specs.declared.Head.{Head}
use Rattle.line_keyword.specs.Way.Bounded.{NoneYet}
use Rattle.line_keyword.specs.declared.State.{State}
use Rattle.table_layout.specs.Layout.{map_width, pin_width}
use Rattle.table_record.specs.Records.{map_words}
use Rattle.table_record.specs.Way.Stage.{put_at, Held, staged_model_width, staged_model_words, staged_step_width}
use Rattle.table_record.specs.declared.stage.StagedModel.{StagedModel}
use Rattle.table_record.specs.declared.MapRecord.{MapRecord}
use Rattle.read_line.specs.Reading.{argument_from}
use Rattle.doc.specs.Lines.{Line, argument_in, significant, gather, up_to}
use Rattle.doc.specs.Document.{step_of, steps_in, head_in, says_sgr, sgr_in, in_model, model_at, grid_in, in_map, pin_at, map_at, section_at, document_of}
use Rattle.doc.specs.Records.{map_records}
use Rattle.doc.specs.Way.Staged.{staged_models, step_staged, pin_staged}
use Rattle.read_family.specs.declared.Open.{Open}

-- ---- maps

unfoldable pub is_in_map : ℕ → Bool
is_in_map p = either (eqb p place.map_head) (eqb p place.pin_list)

-- the record of the open map, of which these lines are left
unfoldable pub map_open : Open → State → List Line → MapRecord
map_open o s body =
    record {
      start = o.start;
      size = o.size;
      order = (grid_in s.map body).order - 1;
      rows = (grid_in s.map body).rows;
      columns = (grid_in s.map body).columns;
      first = o.first;
      pins = s.counts.pins + length (gather pin_at body) - o.first;
    }

-- the maps after the open one
unfoldable pub maps_behind : State → List Line → List MapRecord
maps_behind s ls = map_records (s.counts.pins + length (gather pin_at (up_to in_map ls))) (gather map_at ls)

-- no map is open
abbrev pub MapsOutside : List MapRecord → List ℕ → State → List Line → Type 0
MapsOutside whole maps s ls = Held map_words map_width whole maps s.counts.maps (map_records s.counts.pins (gather map_at ls))

-- a map is open: it is counted, but not staged
pub record MapsInside (whole : List MapRecord) (maps : List ℕ) (o : Open) (s : State) (ls : List Line) : Type 0 where
  pub some : 1 ≤ s.counts.maps
  pub held : Held map_words map_width whole maps (s.counts.maps - 1) (map_open o s (up_to in_map ls) ∷ maps_behind s ls)

pub record MapsHeld (whole : List MapRecord) (maps : List ℕ) (o : Open) (s : State) (ls : List Line) : Type 0 where
  pub outside : is_in_map s.place ≡ false → MapsOutside whole maps s ls
  pub inside : is_in_map s.place ≡ true → MapsInside whole maps o s ls

-- ---- models

-- the open model, of which these lines are left
unfoldable pub model_open : Open → State → List Line → StagedModel
model_open o s body =
    record {
      model =
          record {
            start = o.start;
            size = o.size;
            kind = (head_in s.head body).kind - 1;
            first = o.first;
            steps = s.counts.steps + length (steps_in body) - o.first;
          };
      sgr = sgr_in o.sgr body;
    }

-- the models after the open one
unfoldable pub models_behind : State → List Line → List StagedModel
models_behind s ls = staged_models (s.counts.steps + length (steps_in (up_to in_model ls))) (gather model_at ls)

-- no model is open
abbrev pub ModelsOutside : List StagedModel → List ℕ → State → List Line → Type 0
ModelsOutside whole models s ls =
    Held staged_model_words staged_model_width whole models s.counts.models (staged_models s.counts.steps (gather model_at ls))

-- a model is open: it is counted, but not staged
pub record ModelsInside (whole : List StagedModel) (models : List ℕ) (o : Open) (s : State) (ls : List Line) : Type 0 where
  pub some : 1 ≤ s.counts.models
  pub held : Held staged_model_words staged_model_width whole models (s.counts.models - 1) (model_open o s (up_to in_model ls) ∷ models_behind s ls)

pub record ModelsHeld (whole : List StagedModel) (models : List ℕ) (o : Open) (s : State) (ls : List Line) : Type 0 where
  pub outside : is_in_model s.place ≡ false → ModelsOutside whole models s ls
  pub inside : is_in_model s.place ≡ true → ModelsInside whole models o s ls

-- ---- all of the family

-- the text has been read up to these lines, and its records are staged as far as they are known
pub record Carries (t : List ℕ) (ls : List Line) (s : State) (o : Open) (model_stage step_stage map_stage pin_stage : List ℕ) : Type 0 where
  pub models : ModelsHeld (staged_models 0 (document_of t).models) model_stage o s ls
  pub steps : Held step_staged staged_step_width (gather step_of (significant t)) step_stage s.counts.steps (gather step_of ls)
  pub maps : MapsHeld (map_records 0 (document_of t).maps) map_stage o s ls
  pub pins : Held pin_staged pin_width (gather pin_at (significant t)) pin_stage s.counts.pins (gather pin_at ls)
  pub sections : gather section_at ls ≡ (document_of t).sections
  pub none_yet : NoneYet s.counts
  pub early : s.place ≤ place.after

-- ---- what a line does that is read alone

-- the open map or model, as it is known at the line that closes it
abbrev pub map_closed : Open → State → MapRecord
map_closed o s =
    record {
      start = o.start;
      size = o.size;
      order = s.map.order - 1;
      rows = s.map.rows;
      columns = s.map.columns;
      first = o.first;
      pins = s.counts.pins - o.first;
    }

abbrev pub model_closed : Open → State → StagedModel
model_closed o s =
    record {
      model =
          record {
            start = o.start;
            size = o.size;
            kind = s.head.kind - 1;
            first = o.first;
            steps = s.counts.steps - o.first;
          };
      sgr = o.sgr;
    }

-- the staged maps after a line that is read alone: below a Pin_list it has a keyword, which closes the map
unfoldable pub maps_after : Open → State → List ℕ → List ℕ
maps_after o s maps =
    provided eqb s.place place.pin_list then put_at (map_width * (s.counts.maps - 1)) (map_words (map_closed o s)) maps else maps

-- the staged models after a line that leads to the place p
unfoldable pub models_after : Open → State → ℕ → List ℕ → List ℕ
models_after o s p models =
    provided both (is_in_model s.place) (not (is_in_model p))
    then put_at (staged_model_width * (s.counts.models - 1)) (staged_model_words (model_closed o s)) models
    else models

-- the block that a line at an offset opens, with the index of its first step or pin
abbrev pub opening : ℕ → List ℕ → ℕ → Open
opening at content first =
    record {
      start = at + argument_in (bracket_of content);
      size = length (argument_from content (argument_in (bracket_of content)));
      first = first;
      sgr = 0;
    }

-- a line leads into the head of a block from elsewhere
unfoldable pub enters : ℕ → ℕ → ℕ → Bool
enters head p q = both (eqb q head) (not (eqb p head))

-- the open block with the line of its SGR
abbrev pub with_sgr : ℕ → Open → Open
with_sgr line o = record { start = o.start; size = o.size; first = o.first; sgr = line }

-- the head tells of a line that breaks no rule whether it says SGR: it has one after the line, and had none before it
unfoldable pub sgr_after : ℕ → Head → Head → Open → Open
sgr_after line before after o = provided both after.sgr (not before.sgr) then with_sgr line o else o

-- the open block after a line that leads to the place p and to the head h
unfoldable pub open_after : ℕ → ℕ → List ℕ → State → ℕ → Head → Open → Open
open_after line at content s p h o =
    provided enters place.head s.place p then opening at content s.counts.steps else
    provided enters place.map_head s.place p then opening at content s.counts.pins else sgr_after line s.head h o

-- the open block after a line of the document that opens none
abbrev pub sgr_taken : Line → Open → Open
sgr_taken l o = with_sgr (provided says_sgr l then l.line else o.sgr) o
