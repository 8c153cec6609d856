-- `out_listing::matrix_lines` meets its contract. The loop's invariant: the lines left, written from the next place on, give all of them.
-- Assumes nothing.
use Rattle.out_listing.proofs.LoopLaws.{ValuesLeft}
use Rattle.out_listing.proofs.matrix_lines.Given as goal

abbrev pub invariant-loop-i : goal.invariant-loop-i
invariant-loop-i l = ValuesLeft l.text l.table l.initial.out l.at l.index l.out l.next l.section l.kind l.end l.i
