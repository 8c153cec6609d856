-- `ask_entry::word_at` meets its contract. The loop's invariant: what is asked for lies in the part left, or nowhere.
-- Assumes nothing.
use Prim.Native.Nat.{◌-◌}
use Rattle.ask_entry.proofs.SearchLaws.{Lies}
use Rattle.ask_entry.proofs.word_at.Given as goal

abbrev pub invariant-loop-low : goal.invariant-loop-low
invariant-loop-low l = Lies l.table l.from l.many l.row l.column l.low l.high

abbrev pub decreases-loop-low : goal.decreases-loop-low
decreases-loop-low l = l.high - l.low
