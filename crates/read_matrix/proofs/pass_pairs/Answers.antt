use Rattle.read_matrix.proofs.RunLaws.{pairs_start, pairs_row, pairs_end, pairs_leave, pairs_values, pairs_column, pairs_less, pairs_next}
use borrow.Author.Rules.{rules}
use Rattle.read_matrix.proofs.pass_pairs.Goals as goal

pub loop-here-init : goal.loop-here-init
loop-here-init c = search pairs_start

pub take_pair-next-requires : goal.take_pair-next-requires
take_pair-next-requires c = search (rules, pairs_row)

pub returns-then-not-next : goal.returns-then-not-next
returns-then-not-next c = pairs_leave _ _ _ _ _ _ _ _ _ _ _ _ _ c.loop-here.invariant _ _ c.take_pair-next.ensures
    c.loop-here-test.true c.requires.fact_2 c.if-not-next.true _ c.pairs_matrix-reached.ensures _
    c.pairs_passed.ensures

pub overflow_add-values : goal.overflow_add-values
overflow_add-values c = search pairs_values

pub overflow_add-least : goal.overflow_add-least
overflow_add-least c = search pairs_column

pub loop-here-smaller : goal.loop-here-smaller
loop-here-smaller c = search pairs_less

pub loop-here-preserved : goal.loop-here-preserved
loop-here-preserved c = search pairs_next

pub returns : goal.returns
returns c = search pairs_end
