-- All three demands, of one answer and the table that is left with it.
-- Assumes nothing.
use Rattle.std.specs.Prelude.{ℕ, ◌≡◌, List}
use Rattle.intake.specs.declared.Answer.{Answer}
use Rattle.intake.specs.declared.Answer.TheVariants.{Accepted}
use Rattle.law_demands.specs.Demands.{Demanded}
use Rattle.law_third.specs.Third.{Third}

pub record AllDemands (t before : List ℕ) (answer : Answer) (after : List ℕ) : Type 0 where
  pub first_and_second : Demanded t before answer after
  pub third : (words : ℕ) → answer ≡ Accepted words → Third t after
