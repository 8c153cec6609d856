-- `ask_sound::are_parts` meets its contract. The loop's invariant: the parts left give what all of them give.
-- Assumes nothing.
use Rattle.ask_sound.proofs.LoopLaws.{PartsLeft}
use Rattle.ask_sound.proofs.are_parts.Given as goal

abbrev pub invariant-loop-part : goal.invariant-loop-part
invariant-loop-part l = PartsLeft l.bytes l.table l.view l.part
