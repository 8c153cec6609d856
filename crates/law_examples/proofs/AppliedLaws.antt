-- The demands applied: the third demand holds for the paper's example, and two alike texts give the same answers.
-- Assumes nothing.
use mathlib.Core.Path.{◌≡◌, refl, sym, ◌∙◌, ap}
use mathlib.Core.List.{List}
use Prim.Native.Nat.{ℕ}
use lib.ListN.{length, replicate, length-replicate}
use Rattle.intake.specs.Verdict.{accepted_with, verdict_of, table_for}
use Rattle.law_third.specs.Third.{AcceptedTable, SameAnswers, Third}
use Rattle.law_third.proofs.ThirdLaws.{third}
use Rattle.law_examples.proofs.ExampleLaws.{example, first, second, example_accepted, first_accepted, second_accepted, first_second}

-- a lent table of 8,192 zeros, and what an accepted text leaves in it
abbrev lent : List ℕ
lent = replicate 8_192 0

abbrev left : List ℕ → ℕ → List ℕ
left t words = table_for t (length lent) (accepted_with words)

taken_of : (t : List ℕ) (words : ℕ) → verdict_of t 8_192 ≡ accepted_with words → AcceptedTable t (left t words)
taken_of t words e =
    record {
      before = lent;
      words = words;
      conforms = record { answers = sym (ap (verdict_of t) (length-replicate {A = ℕ} 8_192 0) ∙ e); leaves = refl };
    }

pub example_kept : Third example (left example 92)
example_kept = third example (left example 92) (taken_of example 92 example_accepted)

pub others_same : SameAnswers first (left first 125) second (left second 125)
others_same = (third first (left first 125) (taken_of first 125 first_accepted)).others second (left second 125) (taken_of second 125 second_accepted) first_second
