-- The layout of an answer in the words that a host lends: this is the one place where it is written down. A truth value is 1
-- or 0. The rest are the paper's words, as `answer_words`, `entry_words`, `walk_words` and `whole_words` give them for each case.
-- Assumes nothing.
use Rattle.std.specs.Prelude.{ℕ, Bool, List, [], ◌∷◌, length, replicate, leb, Float, Option, Some, None}
use Rattle.std.proofs.lemmas.List.Edits.{sets}
use Rattle.std.specs.Float.{binary64}
use Rattle.std.specs.Float.Ieee.{to_bits}
use Rattle.base.specs.If.{provided◌then◌else◌}
use Rattle.intake.specs.Verdict.{Outcome}
use Rattle.ask_entry.specs.Entry.{EntryWords}
use Rattle.ask_walk.specs.Walk.{WalkWords}
use Rattle.ask_walk.specs.declared.Place.{Place}
use Rattle.table_record.specs.declared.StepRecord.{StepRecord}
use Rattle.ask_entry.specs.WholeMatrix.{MatrixWords}

unfoldable pub flag : Bool → ℕ
flag truth = provided truth then 1 else 0

-- intake: accepted, rule, line, words used
unfoldable pub intake_layout : Outcome → List ℕ
intake_layout o = flag o.accepted ∷ o.rule ∷ o.line ∷ o.used ∷ []

-- entry: found, rule, line, value word
unfoldable pub entry_layout : EntryWords → List ℕ
entry_layout e = flag e.found ∷ e.rule ∷ e.line ∷ e.word ∷ []

-- a step and the next place: kind, target, amount, side start, side length, line; model, step, depth
unfoldable pub step_layout : StepRecord → Place → List ℕ
step_layout s p =
    s.kind ∷ s.target ∷ s.amount ∷ s.side ∷ s.side_size ∷ s.line ∷ p.model ∷ p.step ∷ p.depth ∷ []

-- walk: answered, rule, line, done, then the step and the next place
unfoldable pub walk_layout : WalkWords → List ℕ
walk_layout w = flag w.answered ∷ w.rule ∷ w.line ∷ flag w.done ∷ step_layout w.step w.next

-- whole matrix: found, rule, line, N
unfoldable pub matrix_layout : MatrixWords → List ℕ
matrix_layout m = flag m.found ∷ m.rule ∷ m.line ∷ m.conductors ∷ []

-- double: drawn, 0 for the rule, 0 for the line, the double's bits; all 0 if the word is outside
unfoldable pub double_layout : Option Float → List ℕ
double_layout (Some x) = 1 ∷ 0 ∷ 0 ∷ to_bits binary64 x ∷ []
double_layout None = 0 ∷ 0 ∷ 0 ∷ 0 ∷ []

-- pair: the same, with the bits of two doubles: the frequency's and the value's
unfoldable pub pair_layout : Option (Float × Float) → List ℕ
pair_layout (Some (x, y)) = 1 ∷ 0 ∷ 0 ∷ to_bits binary64 x ∷ to_bits binary64 y ∷ []
pair_layout None = 0 ∷ 0 ∷ 0 ∷ 0 ∷ 0 ∷ []

-- the lent words are enough for an answer of `many` words
unfoldable pub is_room : ℕ → List ℕ → Bool
is_room many lent = leb many (length lent)

-- the lent words after the answer: its words from the start on, and the rest unchanged; all unchanged if they are too few
unfoldable pub answered : List ℕ → List ℕ → List ℕ
answered words lent = provided is_room (length words) lent then sets lent 0 words else lent

-- the lent table after the intake. If there are too few words for an answer, the intake counts as refused: "A
-- refused intake zeroes the table"
unfoldable pub table_after : List ℕ → List ℕ → List ℕ → List ℕ
table_after answer taken table = provided is_room 4 answer then taken else replicate (length table) 0

-- the lent values after a whole matrix; unchanged if there are too few words for an answer
unfoldable pub values_after : List ℕ → List ℕ → List ℕ → List ℕ
values_after answer filled values = provided is_room 4 answer then filled else values
