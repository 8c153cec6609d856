use Rattle.read_matrix.proofs.RunLaws.{numbers_start, numbers_row, numbers_column, numbers_few, numbers_end, numbers_leave, numbers_less, numbers_next}
use borrow.Author.Rules.{rules}
use Rattle.read_matrix.proofs.pass_numbers.Goals as goal

pub loop-here-init : goal.loop-here-init
loop-here-init c = search numbers_start

pub take_numbers-next-requires : goal.take_numbers-next-requires
take_numbers-next-requires c = search (rules, numbers_row, numbers_column, numbers_few)

pub returns-then-not-next : goal.returns-then-not-next
returns-then-not-next c = search numbers_leave

pub loop-here-smaller : goal.loop-here-smaller
loop-here-smaller c = search numbers_less

pub loop-here-preserved : goal.loop-here-preserved
loop-here-preserved c = search numbers_next

pub returns : goal.returns
returns c = search numbers_end
