-- `read_family::follow` meets its contract: the cursor stays at the model list.
-- Assumes nothing.
use borrow.Author.Tests.{eq-eqb, ne_eqb}
use Rattle.base.proofs.IfLaws.{if_true, if_false}
use Rattle.read_family.specs.Way.Family.{followed}
use Rattle.read_family.proofs.follow.Goals as goal

pub returns-then-list-eq-LIST : goal.returns-then-list-eq-LIST
unfolding followed
returns-then-list-eq-LIST c = rw (if_true _ _ (eq-eqb _ _ c.if-list-eq-LIST.true))

pub returns : goal.returns
unfolding followed
returns c = rw (if_false _ _ (ne_eqb _ _ c.if-list-eq-LIST.false))
