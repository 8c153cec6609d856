use mathlib.Core.Path.{refl}
use Rattle.store_table.proofs.StoringLaws.{storing_start, storing_done, from_inside, to_inside, storing_on}
use borrow.Author.Rules.{rules}
use Rattle.store_table.proofs.put_steps.Goals as goal

pub loop-i-init : goal.loop-i-init
loop-i-init c = search storing_start

pub at-step-requires : goal.at-step-requires
at-step-requires c = search from_inside

pub put_step-requires : goal.put_step-requires
put_step-requires c = (search rules, search to_inside)

pub loop-i-preserved : goal.loop-i-preserved
loop-i-preserved c = storing_on _ _ _ _ _ _ _ _ _ c.loop-i.invariant (search rules) (λ x. refl) _
    c.at-step.ensures _ c.put_step.ensures

pub returns : goal.returns
returns c = search storing_done
