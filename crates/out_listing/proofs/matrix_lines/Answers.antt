use Rattle.out_listing.proofs.LoopLaws.{end_fits, values_start, values_on, values_done}
use borrow.Author.Rules.{rules}
use Rattle.out_listing.proofs.matrix_lines.Goals as goal

pub overflow_add-end : goal.overflow_add-end
overflow_add-end c = search (rules, end_fits)

pub loop-i-init : goal.loop-i-init
loop-i-init c = search values_start

pub loop-i-preserved : goal.loop-i-preserved
loop-i-preserved c = search values_on

pub returns : goal.returns
returns c = search values_done
