use mathlib.Core.Path.{refl}
use Rattle.store_table.proofs.StoringLaws.{storing_start, storing_done, from_inside, to_inside, storing_on}
use Rattle.store_table.proofs.FrontLaws.{models_put}
use borrow.Author.Rules.{rules}
use Rattle.store_table.proofs.put_models.Goals as goal

pub loop-i-init : goal.loop-i-init
loop-i-init c = search storing_start

pub at-staged-requires : goal.at-staged-requires
at-staged-requires c = search from_inside

pub put_at-requires : goal.put_at-requires
put_at-requires c = search (rules, to_inside)

pub loop-i-preserved : goal.loop-i-preserved
loop-i-preserved c = storing_on _ _ _ _ _ _ _ _ _ c.loop-i.invariant (search rules) (λ x. refl) _
    c.at-staged.ensures _ c.put_at.ensures

pub returns : goal.returns
returns c = search (models_put, storing_done)
