-- `ask_sound::are_records` meets its contract. The loop's invariant: the records left give what all of them give.
-- Assumes nothing.
use Rattle.ask_sound.proofs.LoopLaws.{PartLeft}
use Rattle.ask_sound.proofs.are_records.Given as goal

abbrev pub invariant-loop-i : goal.invariant-loop-i
invariant-loop-i l = PartLeft l.bytes l.table l.view l.part l.i
