-- `ask_walk::is_depth` meets its contract. The loop's invariant: the steps left bring both counts to those of all.
-- Assumes nothing.
use Rattle.ask_walk.proofs.PlaceLaws.{CountLeft}
use Rattle.ask_walk.proofs.is_depth.Given as goal

abbrev pub invariant-loop-i : goal.invariant-loop-i
invariant-loop-i l = CountLeft l.table l.from l.many l.opens l.closes l.i
