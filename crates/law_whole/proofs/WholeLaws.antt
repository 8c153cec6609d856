-- What the intake promises is all that is demanded.
-- Assumes nothing.
use Prim.Native.Nat.{ℕ}
use mathlib.Core.Path.{subst}
use mathlib.Core.List.{List}
use Rattle.intake.specs.Verdict.{Conforms}
use Rattle.intake.specs.declared.Answer.{Answer}
use Rattle.law_demands.proofs.DemandLaws.{demanded}
use Rattle.law_third.proofs.ThirdLaws.{third}
use Rattle.law_whole.specs.Whole.{AllDemands}

pub all_demanded : (t before : List ℕ) (answer : Answer) (after : List ℕ) → Conforms t before answer after → AllDemands t before answer after
all_demanded t before answer after conforms =
    record {
      first_and_second = demanded t before answer after conforms;
      third = λ words e. third t after (record { before = before; words = words; conforms = subst (λ (a : Answer). Conforms t before a after) e conforms });
    }
