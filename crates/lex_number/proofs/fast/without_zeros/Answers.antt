use borrow.Author.Rules.{rules}
use Rattle.lex_number.proofs.TrimLaws.{zeros_few, zeros_fit, trim_start, trim_on, trim_left, trim_done}
use Rattle.lex_number.proofs.fast.without_zeros.Goals as goal

pub loop-size-init : goal.loop-size-init
loop-size-init c = search (rules, trim_start)

pub overflow_add-zeros : goal.overflow_add-zeros
overflow_add-zeros c = search zeros_fit

pub loop-size-smaller : goal.loop-size-smaller
loop-size-smaller c = search (rules, zeros_few, trim_done)

pub loop-size-preserved : goal.loop-size-preserved
loop-size-preserved c = search (rules, trim_on, trim_left)

pub returns : goal.returns
returns c = search (rules, zeros_few, trim_done)
