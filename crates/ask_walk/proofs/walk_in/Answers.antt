-- `ask_walk::walk_in` meets its contract.
-- Assumes nothing.
use Rattle.ask_walk.proofs.StepLaws.{from_none, from_place}
use borrow.Author.Rules.{rules}
use Rattle.ask_walk.proofs.StepLaws.{in_place}
use Rattle.ask_walk.proofs.walk_in.Goals as goal

pub returns-then-not-is_place : goal.returns-then-not-is_place
returns-then-not-is_place c = search from_none

pub walk_on-requires : goal.walk_on-requires
walk_on-requires c = search (rules, in_place)

pub returns : goal.returns
returns c = search from_place
