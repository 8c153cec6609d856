-- What a walk over the lines promises: reading on from where the walk ends gives the same result as reading from where
-- it started. So a walk may read any number of lines at once, a whole fork block too.
-- Assumes nothing.
use Rattle.std.specs.Prelude.{ℕ, ◌+◌, ◌≤◌, ◌<◌, ◌≡◌, true, false, List, length, drop, eqb}
use Rattle.table_layout.specs.Bounds.{deepest, most_steps}
use Rattle.base.specs.If.{provided◌then◌else◌}
use Rattle.lex_line.specs.Lines.{is_blank_line, comment_byte, contents}
use Rattle.lex_line.specs.Way.LineEnds.{line_at, content_at}
use Rattle.lex_keyword.specs.Bracket.{bracket_of}
use Rattle.lex_keyword.specs.declared.Bracket.TheVariants.{Plain}
use Rattle.line_place.specs.Place as place
use Rattle.line_path.specs.declared.Path.{Path}
use Rattle.line_map.specs.declared.Map.{Map}
use Rattle.line_matrix.specs.declared.Matrix.{Matrix}
use Rattle.line_keyword.specs.Way.Bounded.{BoundedState}
use Rattle.line_keyword.specs.declared.Counts.{Counts}
use Rattle.line_keyword.specs.declared.State.{State}
use Rattle.read_line.specs.Reading.{breaks, line_result, read_from}
use Rattle.read_line.specs.declared.LineResult.{LineResult}
use Rattle.read_line.specs.declared.Front.{Front}
use Rattle.read_line.specs.declared.Front.TheVariants.{Blanks, Words, Opening}
use Rattle.read_line.specs.declared.Walk.{Walk}
use Rattle.read_line.specs.declared.LineRead.{LineRead}
use Rattle.read_line.specs.declared.Reading.{Reading}
use Rattle.read_line.specs.declared.Reading.TheVariants.{Refused}

-- the result of reading on from where a walk ends
unfoldable pub resume : List ℕ → Walk → Reading
resume t w = provided eqb w.rule 0 then read_from w.line (contents (drop w.at t)) w.state else Refused w.rule w.line

-- where a walk that broke no rule goes on: the offset lies within the text, and the state is within its bounds
pub record Onward (t : List ℕ) (at line : ℕ) (s : State) : Type 0 where
  pub within : at ≤ length t
  pub counted : line ≤ at + 1
  pub kept : BoundedState line s

-- a walk from offset `at` has come to w: the result is the same from there, and it has gone on unless a rule is broken
pub record ResumesText (t : List ℕ) (at line : ℕ) (s : State) (w : Walk) : Type 0 where
  pub same : resume t w ≡ read_from line (contents (drop at t)) s
  pub further : w.rule ≡ 0 → at < w.at
  pub onward : w.rule ≡ 0 → Onward t w.at w.line w.state

-- ---- lines read with only a part of the state

-- Lines from offset `at` to offset `further` are read. `fits` are the states in which they may be read, and `put` gives
-- the state after them: reading on from there gives the same result. A line that breaks a rule is the last.
pub record ResumesPart (t : List ℕ) (at line : ℕ) (fits : State → Type 0) (put : State → State) (rule further last : ℕ) : Type 0 where
  pub same : (s : State) → fits s → resume t (record { rule = rule; at = further; line = last; state = put s }) ≡ read_from line (contents (drop at t)) s
  pub kept : rule ≡ 0 → (s : State) → fits s → BoundedState line s → BoundedState last (put s)
  pub onward : at ≤ further
  pub within : further ≤ length t
  pub raised : line ≤ last
  pub counted : last + at ≤ line + further

-- lines that change nothing, in any state with this place
abbrev pub ResumesIdle : List ℕ → ℕ → ℕ → ℕ → ℕ → ℕ → Type 0
ResumesIdle t at line here further last = ResumesPart t at line (λ (s : State). s.place ≡ here) (λ (s : State). s) 0 further last

-- the state has this place, and its part is the one that `put` puts in
abbrev pub HoldsPart : ℕ → (State → State) → State → Type 0
HoldsPart here put s = (s.place ≡ here) × (s ≡ put s)

-- in this place the part that `put` puts in decides which rule a line breaks, and which part comes after it
abbrev pub Decides : ℕ → (State → State) → (State → LineResult) → ℕ → (State → State) → Type 0
Decides here put step rule next = (s : State) → s.place ≡ here → step (put s) ≡ breaks rule (next s)

-- the line has a bracket at its front
abbrev pub Opens : List ℕ → Type 0
Opens content = bracket_of content ≡ Plain → ⊥

-- a place whose lines are read one by one, not several together
pub record ReadLineByLine (p : ℕ) : Type 0 where
  pub matrix : p ≡ place.matrix → ⊥
  pub path : p ≡ place.path → ⊥
  pub pins : p ≡ place.pin_list → ⊥

-- a line that is not blank and has no bracket is in a place that is read line by line
abbrev pub BracketOrLineByLine : List ℕ → ℕ → Type 0
BracketOrLineByLine content p = is_blank_line content ≡ false → bracket_of content ≡ Plain → ReadLineByLine p

-- a walk that has made no progress is at a line with a bracket
abbrev pub NoProgressMeansBracket : List ℕ → ℕ → ℕ → Type 0
NoProgressMeansBracket t at further = further ≡ at → at < length t → Opens (content_at t at)

-- a single line is read: the walk behind it, and the line itself
pub record ReadsLine (t : List ℕ) (at line : ℕ) (s : State) (r : LineRead) : Type 0 where
  pub resumes : ResumesText t at line s (record { rule = r.rule; at = r.at; line = r.line; state = r.state })
  pub result : record { rule = r.rule; state = r.state } ≡ line_result (content_at t at) s
  pub next_is : r.at ≡ (line_at comment_byte t at).next
  pub line_is : r.rule ≡ 0 → r.line ≡ line + 1
  pub end_is : r.end ≡ (line_at comment_byte t at).content
  pub bracket_is : r.bracket ≡ bracket_of (content_at t at)

-- what is at the front of a line
abbrev pub Fronted : List ℕ → Front → Type 0
Fronted content Blanks = is_blank_line content ≡ true
Fronted content Words = (is_blank_line content ≡ false) × (bracket_of content ≡ Plain)
Fronted content Opening = (is_blank_line content ≡ false) × Opens content

-- ---- the parts

abbrev with_steps : ℕ → Counts → Counts
with_steps n c =
    record { models = c.models; steps = n; maps = c.maps; pins = c.pins; sections = c.sections; matrices = c.matrices; values = c.values }

-- the state with this path and this count of steps
abbrev pub with_path : Path → ℕ → State → State
with_path p n s =
    record {
      place = s.place;
      seen = s.seen;
      head = s.head;
      path = p;
      map = s.map;
      section = s.section;
      matrix = s.matrix;
      counts = with_steps n s.counts;
    }

-- depth and count within their bounds, so that one more can be counted
pub record Stepping (p : Path) (n : ℕ) : Type 0 where
  pub depth : p.depth ≤ deepest
  pub steps : n ≤ most_steps

abbrev with_pins : ℕ → Counts → Counts
with_pins n c =
    record { models = c.models; steps = c.steps; maps = c.maps; pins = n; sections = c.sections; matrices = c.matrices; values = c.values }

-- the state with this pin map and this count of pins
abbrev pub with_pinned : Map → ℕ → State → State
with_pinned m n s =
    record {
      place = s.place;
      seen = s.seen;
      head = s.head;
      path = s.path;
      map = m;
      section = s.section;
      matrix = s.matrix;
      counts = with_pins n s.counts;
    }

abbrev with_values : ℕ → Counts → Counts
with_values n c =
    record { models = c.models; steps = c.steps; maps = c.maps; pins = c.pins; sections = c.sections; matrices = c.matrices; values = n }

-- the state with this matrix and this count of values
abbrev pub with_matrix : Matrix → ℕ → State → State
with_matrix m n s =
    record {
      place = s.place;
      seen = s.seen;
      head = s.head;
      path = s.path;
      map = s.map;
      section = s.section;
      matrix = m;
      counts = with_values n s.counts;
    }
