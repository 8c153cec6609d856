-- `ask_sound::find_reaches` meets its contract. The loop's invariant: the reach is found of every 64th value that is gone over.
-- Assumes nothing.
use Rattle.ask_sound.proofs.ReachLaws.{Found}
use Rattle.ask_sound.proofs.find_reaches.Given as goal

abbrev pub invariant-loop-i : goal.invariant-loop-i
invariant-loop-i l = Found l.table l.from l.count l.blocks l.reach l.i
