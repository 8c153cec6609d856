-- What is left of sections and matrices while lines are read: told by the section that is open, how far the walk has
-- come, and the lines that are left. What is staged, and that, is the whole.
-- Assumes nothing.
use Rattle.std.specs.Prelude.{ℕ, ◌+◌, ◌-◌, ◌*◌, ◌≤◌, ◌≡◌, Bool, true, not, List, [], ◌∷◌, ◌++◌, length, get_or, set, replicate, eqb, None, Some, unwrap_or}
use Rattle.std.specs.Option.{option_or}
use Rattle.base.specs.If.{provided◌then◌else◌, both, either}
use Rattle.lex_keyword.specs.Bracket.{bracket_of}
use Rattle.line_place.specs.Place as place
use Rattle.line_keyword.specs.declared.State.{State}
use Rattle.table_layout.specs.Codes.{resistance_kind, inductance_kind, conductance_kind, capacitance_kind, matrix_kinds}
use Rattle.table_layout.specs.Layout.{section_width, matrix_width}
use Rattle.table_record.specs.Records.{section_words, matrix_words}
use Rattle.table_record.specs.Way.Stage.{put_at, Held}
use Rattle.table_record.specs.declared.SectionRecord.{SectionRecord}
use Rattle.table_record.specs.declared.MatrixRecord.{MatrixRecord}
use Rattle.read_line.specs.Reading.{argument_from}
use Rattle.doc.specs.Lines.{Line, key_at, argument_in, gather, up_to}
use Rattle.doc.specs.Document.{Matrix, Section, kind_of, in_matrix, values_from, bandwidth_in, conductors_in, matrix_at, in_section, method_in, section_at, conductors_of}
use Rattle.doc.specs.Records.{index_of_kind, section_records, matrix_records, matrices_of, values_of}
use Rattle.read_numbers.specs.Way.Staging.{HeldValues}
use Rattle.read_sections.specs.declared.OpenSection.{OpenSection}

-- ---- what a section's record takes from its matrices

-- of each kind the first matrix counts
unfoldable pub kinds_with : List ℕ → ℕ → ℕ → List ℕ
kinds_with kinds kind index = provided eqb (get_or kinds kind 0) 0 then set kinds kind index else kinds

-- the matrix that counts so far, if there is one, else the one that the rest gives
unfoldable pub kept_or : ℕ → ℕ → ℕ
kept_or kept rest = provided eqb kept 0 then rest else kept

-- ---- how far the walk has come

-- of the state only this matters here; the next line is line n
pub record Reached : Type 0 where
  pub place : ℕ
  pub method : ℕ
  pub form : ℕ
  pub sections : ℕ
  pub matrices : ℕ
  pub values : ℕ
  pub line : ℕ

abbrev pub reached_in : ℕ → State → ℕ → Reached
reached_in p s n =
    record {
      place = p;
      method = s.section.method;
      form = s.matrix.form;
      sections = s.counts.sections;
      matrices = s.counts.matrices;
      values = s.counts.values;
      line = n;
    }

-- a place inside a section
unfoldable pub is_in_section : ℕ → Bool
is_in_section p = either (eqb p place.section_head) (either (eqb p place.section) (eqb p place.matrix))

-- how many are closed, and so staged
unfoldable pub closed_sections : Reached → ℕ
closed_sections w = provided is_in_section w.place then w.sections - 1 else w.sections

unfoldable pub closed_matrices : Reached → ℕ
closed_matrices w = provided eqb w.place place.matrix then w.matrices - 1 else w.matrices

-- ---- what is left

-- a matrix that has just been opened, by the line above
unfoldable pub open_matrix : OpenSection → Reached → List Line → Matrix
open_matrix o w ls =
    record {
      kind = o.kind;
      form = w.form;
      bandwidth = bandwidth_in (up_to in_matrix ls);
      conductors = conductors_in w.form (up_to in_matrix ls);
      values = values_from w.form 1 1 (up_to in_matrix ls);
      line = w.line - 1;
    }

unfoldable pub open_matrices : OpenSection → Reached → List Line → List Matrix
open_matrices o w ls = provided eqb w.place place.matrix then open_matrix o w ls ∷ [] else []

-- the matrices of the open section that are left
unfoldable pub own_matrices : OpenSection → Reached → List Line → List Matrix
own_matrices o w ls = open_matrices o w ls ++ gather matrix_at (up_to in_section ls)

unfoldable pub matrices_left : OpenSection → Reached → List Line → List Matrix
matrices_left o w ls = open_matrices o w ls ++ gather matrix_at ls

unfoldable pub method_left : Reached → List Line → ℕ
method_left w ls = provided eqb w.place place.section_head then method_in (up_to in_section ls) else w.method

-- the record that the open section will have
abbrev pub record_with : OpenSection → ℕ → ℕ → (ℕ → ℕ) → SectionRecord
record_with o method conductors kinds =
    record {
      start = o.start;
      size = o.size;
      method = method;
      conductors = conductors;
      resistance = kinds resistance_kind;
      inductance = kinds inductance_kind;
      conductance = kinds conductance_kind;
      capacitance = kinds capacitance_kind;
    }

unfoldable pub open_record : OpenSection → Reached → List Line → SectionRecord
open_record o w ls =
    record_with o (method_left w ls) (unwrap_or o.conductors (conductors_of (own_matrices o w ls)))
    (λ (k : ℕ). kept_or (get_or o.kinds k 0) (index_of_kind k (closed_matrices w) (own_matrices o w ls)))

unfoldable pub open_records : OpenSection → Reached → List Line → List SectionRecord
open_records o w ls = provided is_in_section w.place then open_record o w ls ∷ [] else []

unfoldable pub sections_left : OpenSection → Reached → List Line → List SectionRecord
sections_left o w ls = open_records o w ls ++ section_records (closed_matrices w + length (own_matrices o w ls)) (gather section_at ls)

-- what is staged, and what is left, is the whole
pub record Stands (ss : List Section) (o : OpenSection) (w : Reached) (ls : List Line) (table section_stage matrix_stage : List ℕ) : Type 0 where
  pub sections : Held section_words section_width (section_records 0 ss) section_stage (closed_sections w) (sections_left o w ls)
  pub matrices : Held matrix_words matrix_width (matrix_records 0 (matrices_of ss)) matrix_stage (closed_matrices w) (matrix_records w.values (matrices_left o w ls))
  pub values : HeldValues (values_of (matrices_of ss)) table w.values (values_of (matrices_left o w ls))
  pub all_kinds : length o.kinds ≡ matrix_kinds
  pub begun : is_in_section w.place ≡ true → 1 ≤ w.sections
  pub opened : w.place ≡ place.matrix → 1 ≤ w.matrices

-- ---- what the code does at a line that leads from one place to another

abbrev pub no_section : OpenSection
no_section = record { start = 0; size = 0; conductors = None; kinds = replicate matrix_kinds 0; kind = 0 }

-- a section opens: its name is the argument of the keyword
abbrev pub beginning : ℕ → List ℕ → OpenSection
beginning at content =
    record {
      start = at + argument_in (bracket_of content);
      size = length (argument_from content (argument_in (bracket_of content)));
      conductors = None;
      kinds = replicate matrix_kinds 0;
      kind = 0;
    }

abbrev pub with_kind : ℕ → OpenSection → OpenSection
with_kind kind o = record { start = o.start; size = o.size; conductors = o.conductors; kinds = o.kinds; kind = kind }

unfoldable pub open_after : ℕ → List ℕ → ℕ → ℕ → OpenSection → OpenSection
open_after at content before after o =
    provided eqb after place.matrix then with_kind (kind_of (key_at content)) o else
    provided eqb after place.section_head then (provided eqb before place.section_head then o else beginning at content) else o

-- a section closes: its record is staged
abbrev pub closed_record : OpenSection → State → SectionRecord
closed_record o s = record_with o s.section.method (unwrap_or o.conductors 0) (λ (k : ℕ). get_or o.kinds k 0)

unfoldable pub sections_after : OpenSection → State → ℕ → ℕ → List ℕ → List ℕ
sections_after o s before after sections =
    provided both (eqb after place.after) (not (eqb before place.after))
    then put_at (section_width * (s.counts.sections - 1)) (section_words (closed_record o s)) sections
    else sections

-- a matrix closes: its record is staged, and the section knows it
unfoldable pub matrix_closed : ℕ → ℕ → ℕ → ℕ → ℕ → MatrixRecord
matrix_closed form bandwidth first values line = record { form = form; bandwidth = bandwidth; first = first; values = values - first; line = line - 1 }

unfoldable pub section_with : ℕ → ℕ → OpenSection → OpenSection
section_with conductors index o =
    record {
      start = o.start;
      size = o.size;
      conductors = option_or o.conductors (Some conductors);
      kinds = kinds_with o.kinds o.kind index;
      kind = o.kind;
    }
