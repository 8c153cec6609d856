-- The third demand. "Over an accepted file, a walk from the start of any model is never refused, shows each path line
-- in turn as written, closes every fork and is done after exactly as many steps as the path has; at every section
-- passed all four matrices answer at every row and column, alike when exchanged, with the number written or zero.
-- Another accepted file that differs only in matrix forms giving the same numbers, comments, blank lines or blanks
-- between words gives the same answers but for lines and offsets."
-- Assumes nothing.
use Rattle.std.specs.Prelude.{ℕ, zero, suc, ◌+◌, ◌≤◌, ◌<◌, min, max, ◌≡◌, true, false, List, [], ◌∷◌, ◌++◌, map, length, get_or, eqb}
use Rattle.table_record.specs.Records.{Records, records_of, no_section, no_map}
use Rattle.table_layout.specs.Codes.{end_kind, section_kind, fork_kind, endfork_kind}
use Rattle.base.specs.If.{provided◌then◌else◌}
use Rattle.lex_number.specs.ValueWord.{zero_word}
use Rattle.doc.specs.Lines.{Line, key_of, significant, up_to}
use Rattle.doc.specs.Document.{Step, Model, Matrix, Section, document_of, conductors_of, kind_of, matrix_of, opens_matrix_at, in_matrix}
use Rattle.doc.specs.Holds.{Each}
use Rattle.table_name.specs.Name.{name_at}
use Rattle.intake.specs.declared.Answer.TheVariants.{Accepted}
use Rattle.intake.specs.Verdict.{Conforms}
use Rattle.ask_walk.specs.Walk as walk
use Rattle.ask_walk.specs.Walk.{WalkWords, count_kind}
use Rattle.ask_walk.specs.declared.Place.{Place}
use Rattle.table_record.specs.declared.StepRecord.{StepRecord}
use Rattle.ask_entry.specs.Entry as entry
use Rattle.ask_entry.specs.Entry.{found_with}
use Rattle.law_alike.specs.Written.{written_at}
use Rattle.law_alike.specs.Alike.{form_at, Alike}
use Rattle.law_third.specs.PathWritten.{PathWrittenBy}

-- a text that the intake accepts, and the table that the intake leaves
pub record AcceptedTable (t table : List ℕ) : Type 0 where
  pub before : List ℕ
  pub words : ℕ
  pub conforms : Conforms t before (Accepted words) table

-- ---- (a) the walk

-- the place of a walk that began at the start of a model; the last argument is the number of steps made
unfoldable pub walked_to : List ℕ → List ℕ → ℕ → ℕ → Place
walked_to t table model zero = record { model = model; step = 0; depth = 0 }
walked_to t table model (suc k) = (walk.walk_answer t table (walked_to t table model k)).next

-- the bytes of the name that a step refers to by its target, a map or a section; forks have no name
unfoldable pub name_through : List ℕ → Records → StepRecord → List ℕ
name_through t r w =
    provided eqb w.kind end_kind then name_at t (get_or r.maps w.target no_map).start (get_or r.maps w.target no_map).size else
    provided eqb w.kind section_kind then name_at t (get_or r.sections w.target no_section).start (get_or r.sections w.target no_section).size else []

-- the bytes of the step's side
unfoldable pub side_of : List ℕ → StepRecord → List ℕ
side_of t w = name_at t w.side w.side_size

-- the target of a Section step is the index of a section of the document that has the step's name
pub record PassesSection (t : List ℕ) (s : Step) (target : ℕ) : Type 0 where
  pub before : List Section
  pub behind : List Section
  pub section : Section
  pub stands : (document_of t).sections ≡ before ++ (section ∷ behind)
  pub named : section.name.text ≡ s.name.text
  pub there : target ≡ length before

-- an answer that shows a path line as written
pub record Shown (t table : List ℕ) (s : Step) (w : WalkWords) : Type 0 where
  pub answered : w.answered ≡ true
  pub goes_on : w.done ≡ false
  pub kind : w.step.kind ≡ s.kind
  pub name : name_through t (records_of table) w.step ≡ s.name.text
  pub passes : s.kind ≡ section_kind → PassesSection t s w.step.target
  pub amount : w.step.amount ≡ s.amount
  pub side : side_of t w.step ≡ s.side.text
  pub line : w.step.line ≡ s.line

abbrev pub step_kinds : List Step → List ℕ
step_kinds steps = map (λ (s : Step). s.kind) steps

-- the walk of model m, which has the index i: lines of the text write the steps of m, and it shows each path line in
-- turn; the depth is opens less closes; after the last line it is done, and every fork is closed
pub record WalkShown (t table : List ℕ) (i : ℕ) (m : Model) : Type 0 where
  pub by_lines : PathWrittenBy t m
  pub shows :
      (above below : List Step) (s : Step) → m.steps ≡ above ++ (s ∷ below) →
      Shown t table s (walk.walk_answer t table (walked_to t table i (length above)))
  pub deep :
      (above below : List Step) → m.steps ≡ above ++ below →
      (walked_to t table i (length above)).depth + count_kind endfork_kind (step_kinds above) ≡ count_kind fork_kind (step_kinds above)
  pub ends : walk.walk_answer t table (walked_to t table i (length m.steps)) ≡ walk.done_at (record { model = i; step = length m.steps; depth = 0 })

-- ---- (b) the entries

-- the lines of the text that write a matrix
pub record WrittenBy (t : List ℕ) (m : Matrix) : Type 0 where
  pub before : List Line
  pub line : Line
  pub after : List Line
  pub stands : significant t ≡ before ++ (line ∷ after)
  pub opens : opens_matrix_at line ≡ true
  pub same : m ≡ matrix_of line (form_at line) (up_to in_matrix after)

-- the entries of section x, which has the index i: all four kinds answer at every row and column, with the number that
-- the matrix writes there, or zero; row and column may be exchanged
pub record Entered (t table : List ℕ) (i : ℕ) (x : Section) : Type 0 where
  pub answers :
      (kind row column : ℕ) → kind < 4 → 1 ≤ row → row ≤ conductors_of x.matrices → 1 ≤ column →
      column ≤ conductors_of x.matrices → (entry.entry_answer t table i kind row column).found ≡ true
  pub by_lines : (above below : List Matrix) (m : Matrix) → x.matrices ≡ above ++ (m ∷ below) → WrittenBy t m
  pub written :
      (before after : List Line) (line : Line) → significant t ≡ before ++ (line ∷ after) → opens_matrix_at line ≡ true →
      (above below : List Matrix) → x.matrices ≡ above ++ (matrix_of line (form_at line) (up_to in_matrix after) ∷ below) →
      (row column : ℕ) → 1 ≤ row → row ≤ conductors_of x.matrices → 1 ≤ column → column ≤ conductors_of x.matrices →
      entry.entry_answer t table i (kind_of (key_of line)) row column
      ≡ found_with (written_at (form_at line) (up_to in_matrix after) (min row column) (max row column))
  pub not_given :
      (kind : ℕ) → kind < 4 → Each (λ (m : Matrix). m.kind ≡ kind → ⊥) x.matrices → (row column : ℕ) → 1 ≤ row →
      row ≤ conductors_of x.matrices → 1 ≤ column → column ≤ conductors_of x.matrices →
      entry.entry_answer t table i kind row column ≡ found_with zero_word
  pub exchanged : (kind row column : ℕ) → entry.entry_answer t table i kind row column ≡ entry.entry_answer t table i kind column row

-- ---- (c) alike texts

-- two answers of a walk that are the same except for lines and offsets
pub record SameAnswer (t table u other : List ℕ) (v w : WalkWords) : Type 0 where
  pub answered : v.answered ≡ w.answered
  pub rule : v.rule ≡ w.rule
  pub done : v.done ≡ w.done
  pub kind : v.step.kind ≡ w.step.kind
  pub target : v.step.target ≡ w.step.target
  pub amount : v.step.amount ≡ w.step.amount
  pub name : name_through t (records_of table) v.step ≡ name_through u (records_of other) w.step
  pub side : side_of t v.step ≡ side_of u w.step
  pub next : v.next ≡ w.next

pub record SameAnswers (t table u other : List ℕ) : Type 0 where
  pub walks : (p : Place) → SameAnswer t table u other (walk.walk_answer t table p) (walk.walk_answer u other p)
  pub entries : (section kind row column : ℕ) → entry.entry_answer t table section kind row column ≡ entry.entry_answer u other section kind row column

-- ---- the whole

pub record Third (t table : List ℕ) : Type 0 where
  pub walks : (before behind : List Model) (m : Model) → (document_of t).models ≡ before ++ (m ∷ behind) → WalkShown t table (length before) m
  pub entries : (before behind : List Section) (x : Section) → (document_of t).sections ≡ before ++ (x ∷ behind) → Entered t table (length before) x
  pub others : (u other : List ℕ) → AcceptedTable u other → Alike t u → SameAnswers t table u other
