-- The lines of a text as the forward reading reaches them: each with the state before it, up to the first line that
-- breaks a rule. The laws of the reading are stated over these.
-- Assumes nothing.
use Rattle.std.specs.Prelude.{ℕ, ◌+◌, ◌≡◌, List, [], ◌∷◌, eqb}
use Rattle.base.specs.If.{provided◌then◌else◌}
use Rattle.lex_line.specs.Lines.{Said}
use Rattle.line_keyword.specs.declared.State.{State}
use Rattle.read_line.specs.Reading.{line_result}

-- a line that is reached: which line it is, its content, and the state before it
pub record Meeting : Type 0 where
  pub line : ℕ
  pub content : List ℕ
  pub state : State

-- the rule that the line breaks, 0 for none
abbrev pub broken_at : Meeting → ℕ
broken_at m = (line_result m.content m.state).rule

-- the state after it
abbrev pub afterwards : Meeting → State
afterwards m = (line_result m.content m.state).state

abbrev pub meeting_of : ℕ → Said → State → Meeting
meeting_of n l s = record { line = n; content = l.content; state = s }

-- the lines that are reached; the last may break a rule
unfoldable pub meetings : ℕ → List Said → State → List Meeting
meetings n [] s = []
meetings n (l ∷ ls) s =
    meeting_of n l s ∷ (provided eqb (broken_at (meeting_of n l s)) 0 then meetings (n + 1) ls (afterwards (meeting_of n l s)) else [])

-- the state after all lines of the list
unfoldable pub state_after : ℕ → List Said → State → State
state_after n [] s = s
state_after n (l ∷ ls) s = state_after (n + 1) ls (afterwards (meeting_of n l s))

-- no line that is reached breaks a rule
pub data AllGo : List Meeting → Type 0 where
  none : AllGo []
  more : {m : Meeting} {ms : List Meeting} → broken_at m ≡ 0 → AllGo ms → AllGo (m ∷ ms)

-- the last line that is reached is line n; it breaks rule k, and no line above it breaks any
pub data FirstBroken : ℕ → ℕ → List Meeting → Type 0 where
  here : {m : Meeting} → (broken_at m ≡ 0 → ⊥) → FirstBroken (broken_at m) m.line (m ∷ [])
  later : {m : Meeting} {ms : List Meeting} {k n : ℕ} → broken_at m ≡ 0 → FirstBroken k n ms → FirstBroken k n (m ∷ ms)
