-- `ask_walk::walk_on` meets its contract.
-- Assumes nothing.
use Rattle.ask_walk.proofs.StepLaws.{on_done, on_over}
use borrow.Author.Rules.{rules}
use Rattle.ask_walk.proofs.PlaceLaws.{model_has, shallow, few_steps, index_fits, index_inside}
use Rattle.ask_walk.proofs.walk_on.Goals as goal

pub nth-model-requires : goal.nth-model-requires
nth-model-requires c = search (rules, model_has)

pub returns-then-place-model : goal.returns-then-place-model
returns-then-place-model c = search on_done

pub overflow_add-index : goal.overflow_add-index
overflow_add-index c = search index_fits

pub nth-requires : goal.nth-requires
nth-requires c = search (rules, index_inside)

pub walk_over-requires : goal.walk_over-requires
walk_over-requires c = search (rules, few_steps, shallow)

pub returns : goal.returns
returns c = search on_over
