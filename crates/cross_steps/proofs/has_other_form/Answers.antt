-- `cross_steps::has_other_form` meets its contract.
-- Assumes nothing.
use Rattle.cross_steps.proofs.RuleLaws.{forms_ordered, forms_room, forms_told}
use borrow.Author.Rules.{rules}
use Rattle.cross_steps.proofs.has_other_form.Goals as goal

pub overflow_sub-next : goal.overflow_sub-next
overflow_sub-next c = search forms_ordered

pub is_other_in-requires : goal.is_other_in-requires
is_other_in-requires c = search (rules, forms_room)

pub returns : goal.returns
returns c = search forms_told
