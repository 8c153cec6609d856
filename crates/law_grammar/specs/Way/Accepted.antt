-- The reading of a path's lines, one by one: no line breaks a rule where it is met, and the keyword that closes the path
-- breaks none by it. And what is asked of each line by itself.
-- Assumes nothing.
use Rattle.std.specs.Prelude.{ℕ, suc, ◌+◌, ◌≤◌, ◌≡◌, true, false, List, [], ◌∷◌}
use Rattle.table_layout.specs.Bounds.{most_steps}
use Rattle.base.specs.If.{provided◌then◌else◌}
use Rattle.base.specs.Broken.{first_broken}
use Rattle.line_path.specs.Path.{path_line_of, path_rules, path_next, is_step_line, path_open, path_lacks}
use Rattle.line_path.specs.declared.Path.{Path}
use Rattle.line_path.specs.declared.PathLine.{PathLine}
use Rattle.law_grammar.specs.Way.Grammar.{IsPath}

-- a step more is counted, but for a Side
unfoldable pub steps_after : PathLine → ℕ → ℕ
steps_after l steps = provided is_step_line l then steps + 1 else steps

-- the lines are accepted from a path and a count of steps on. At the end "closing with one open" (15) and a missing part
-- (9) are what the closing keyword could break
pub data Accepts : Path → ℕ → List PathLine → Type 0 where
  closes : {p : Path} {steps : ℕ} → path_open p ≡ false → path_lacks p ≡ false → Accepts p steps []
  reads :
      {p : Path} {steps : ℕ} {l : PathLine} {ls : List PathLine} → first_broken (path_rules l p steps) ≡ 0 →
      Accepts (path_next l p) (steps_after l steps) ls → Accepts p steps (l ∷ ls)

-- what the lines say
unfoldable pub sayings : List PathLine → List ℕ
sayings [] = []
sayings (l ∷ ls) = l.says ∷ sayings ls

-- how many of the lines are steps
unfoldable pub steps_in : List PathLine → ℕ
steps_in [] = 0
steps_in (l ∷ ls) = provided is_step_line l then suc (steps_in ls) else steps_in ls

-- a line is right in itself: its rest is (11), its amount is a number (13), and the number is within its bounds (14)
pub record IsRight (l : PathLine) : Type 0 where
  pub right : l.right ≡ true
  pub formed : l.formed ≡ true
  pub bounded : l.bounded ≡ true

pub data AreRight : List PathLine → Type 0 where
  none : AreRight []
  more : {l : PathLine} {ls : List PathLine} → IsRight l → AreRight ls → AreRight (l ∷ ls)

-- the lines with these contents
unfoldable pub lines_of : List (List ℕ) → List PathLine
lines_of [] = []
lines_of (content ∷ contents) = path_line_of content ∷ lines_of contents

-- the lines with these contents are a path, where the models before have so many steps: each line is right in itself, what
-- they say is a path of the grammar, and there is room for their steps (17)
pub record ArePath (steps : ℕ) (contents : List (List ℕ)) : Type 0 where
  pub right : AreRight (lines_of contents)
  pub grammar : IsPath (sayings (lines_of contents))
  pub room : steps + steps_in (lines_of contents) ≤ most_steps
