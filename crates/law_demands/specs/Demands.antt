-- The first and the second demand on the intake: what the answer and the lent table must be, for every text and every
-- table.
-- Assumes nothing.
use Rattle.std.specs.Prelude.{ℕ, ◌-◌, ◌≡◌, List, ◌++◌, length, replicate}
use Rattle.doc.specs.Records.{table_of}
use Rattle.intake.specs.declared.Answer.{Answer}
use Rattle.intake.specs.declared.Answer.TheVariants.{Accepted, Refused}
use Rattle.law_demands.specs.RuleBook.{Broken, First}

-- "A file is accepted exactly when no listed rule is broken; the table then holds what the text says .. otherwise the
-- answer is the rule and line that the stated order puts first", and "a refused intake leaves the lent table all zeros"
pub record Demanded (t before : List ℕ) (answer : Answer) (after : List ℕ) : Type 0 where
  pub accepted_unbroken : (words : ℕ) → answer ≡ Accepted words → (g rule line : ℕ) → Broken t (length before) g rule line → ⊥
  pub unbroken_accepted : ((g rule line : ℕ) → Broken t (length before) g rule line → ⊥) → answer ≡ Accepted (length (table_of t))
  pub refused_first : (rule line : ℕ) → answer ≡ Refused rule line → (g : ℕ) × First t (length before) g rule line
  pub refused_zeros : (rule line : ℕ) → answer ≡ Refused rule line → after ≡ replicate (length before) 0
  pub accepted_holds : (words : ℕ) → answer ≡ Accepted words → after ≡ table_of t ++ replicate (length before - length (table_of t)) 0
  pub words_used : (words : ℕ) → answer ≡ Accepted words → words ≡ length (table_of t)
