-- `cross_models::owner_of` meets its contract.
-- Assumes nothing.
use Rattle.cross_models.proofs.ModelLaws.{steps_asked, owner_told}
use borrow.Author.Rules.{rules}
use Rattle.cross_models.proofs.owner_of.Goals as goal

pub first_target-requires : goal.first_target-requires
first_target-requires c = search (rules, steps_asked)

pub returns : goal.returns
returns c = search owner_told
