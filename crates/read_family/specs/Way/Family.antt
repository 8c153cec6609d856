-- What the walk over the header and the family promises: the reading goes on as it began, and the records of the family
-- are staged.
-- Assumes nothing.
use Rattle.std.specs.Prelude.{ℕ, ◌≤◌, ◌<◌, ◌≡◌, List, ◌++◌, length, eqb}
use Rattle.base.specs.If.{provided◌then◌else◌}
use Rattle.lex_line.specs.Way.LineEnds.{content_at}
use Rattle.line_place.specs.Place.{list, pin_list, after}
use Rattle.line_keyword.specs.Way.Bounded.{NoneYet}
use Rattle.line_keyword.specs.declared.State.{State}
use Rattle.table_layout.specs.Layout.{map_width, pin_width}
use Rattle.table_record.specs.Records.{map_words}
use Rattle.table_record.specs.Way.Stage.{Whole, staged_model_width, staged_model_words, staged_step_width}
use Rattle.read_line.specs.Reading.{reading_of}
use Rattle.read_line.specs.Way.Walk.{resume, Onward, ResumesText, Opens, BracketOrLineByLine, with_path, with_pinned}
use Rattle.read_line.specs.declared.Walk.{Walk}
use Rattle.read_path.specs.declared.PathWalk.{PathWalk}
use Rattle.doc.specs.Lines.{Line, lines_at, significant, gather}
use Rattle.doc.specs.Document.{step_of, listed_at, pin_at, section_at, document_of}
use Rattle.doc.specs.Records.{map_records}
use Rattle.doc.specs.Way.Staged.{staged_models, step_staged, pin_staged, ListsFrom}
use Rattle.doc.specs.declared.Cursor.{Cursor}
use Rattle.read_family.specs.Way.Blocks.{Carries}
use Rattle.read_family.specs.declared.Open.{Open}
use Rattle.read_family.specs.declared.FamilyWalk.{FamilyWalk}
use Rattle.read_family.specs.declared.pins.PinWalk.{PinWalk}

-- ---- some lines of the family

-- a line may be read alone: in a path or below a Pin_list it has a bracket
pub record Alone (t : List ℕ) (at p : ℕ) : Type 0 where
  pub bracket : BracketOrLineByLine (content_at t at) p
  pub pins : p ≡ pin_list → Opens (content_at t at)

abbrev pub walk_of : FamilyWalk → Walk
walk_of w = record { rule = w.rule; at = w.at; line = w.line; state = w.state }

-- the lines are first some that are read in place p, and then the rest; there are names of the model list among them only
-- in its place
pub record Passes (p : ℕ) (ls rest : List Line) : Type 0 where
  pub passed : List Line
  pub all : ls ≡ passed ++ rest
  pub unlisted : (p ≡ list → ⊥) → gather listed_at ls ≡ gather listed_at rest

-- lines of the family are read, and their records staged
pub record Continues (t : List ℕ) (at line : ℕ) (s : State) (o : Open) (models steps maps pins : List ℕ) (w : FamilyWalk) (models' steps' maps' pins' : List ℕ) : Type 0 where
  pub resumes : ResumesText t at line s (walk_of w)
  pub passes : w.rule ≡ 0 → Passes s.place (lines_at t line at s.place) (lines_at t w.line w.at w.state.place)
  pub carries :
      w.rule ≡ 0 → Carries t (lines_at t line at s.place) s o models steps maps pins →
      Carries t (lines_at t w.line w.at w.state.place) w.state w.block models' steps' maps' pins'

-- the walk after lines of a path
abbrev pub after_steps : State → Open → PathWalk → FamilyWalk
after_steps s o w =
    record { rule = w.part.rule; at = w.at; line = w.line; state = with_path w.part.path w.part.steps s; block = o }

-- the walk after lines of a pin list
abbrev pub after_pins : State → Open → PinWalk → FamilyWalk
after_pins s o w =
    record { rule = w.part.rule; at = w.at; line = w.line; state = with_pinned w.part.map w.part.pins s; block = o }

-- ---- the place of the model list

-- a cursor that goes along with the reading, and stays where it reaches the model list
unfoldable pub followed : Cursor → Cursor → Cursor
followed c here = provided eqb c.place list then c else here

pub record Follows (t : List ℕ) (c here : Cursor) : Type 0 where
  pub lists : ListsFrom t c
  pub above : (c.place ≡ list → ⊥) → c ≡ here

-- ---- the whole family

-- all records of the family are staged, as far as they fit; the sections come behind it
pub record FamilyStaged (t : List ℕ) (line at : ℕ) (s : State) (model_stage step_stage map_stage pin_stage : List ℕ) : Type 0 where
  pub models : Whole staged_model_words staged_model_width (staged_models 0 (document_of t).models) model_stage
  pub steps : Whole step_staged staged_step_width (gather step_of (significant t)) step_stage
  pub maps : Whole map_words map_width (map_records 0 (document_of t).maps) map_stage
  pub pins : Whole pin_staged pin_width (gather pin_at (significant t)) pin_stage
  pub sections : gather section_at (lines_at t line at after) ≡ (document_of t).sections
  pub none_yet : NoneYet s.counts

-- the lines up to [End ICM Family] are read
pub record FamilyRead (t : List ℕ) (w : Walk) (c : Cursor) (models steps maps pins : List ℕ) : Type 0 where
  pub same : resume t w ≡ reading_of t
  pub lists : w.rule ≡ 0 → ListsFrom t c
  pub early : w.rule ≡ 0 → w.state.place ≤ after
  pub onward : w.rule ≡ 0 → Onward t w.at w.line w.state
  pub place : w.rule ≡ 0 → w.at < length t → w.state.place ≡ after
  pub staged : w.rule ≡ 0 → w.state.place ≡ after → FamilyStaged t w.line w.at w.state models steps maps pins
