use Rattle.ask_sound.proofs.LoopLaws.{parts_start, parts_end, parts_refused, parts_on}
use Rattle.ask_sound.proofs.are_parts.Goals as goal

pub loop-part-init : goal.loop-part-init
loop-part-init c = search parts_start

pub returns-then-not-are_records : goal.returns-then-not-are_records
returns-then-not-are_records c = search parts_refused

pub loop-part-preserved : goal.loop-part-preserved
loop-part-preserved c = search parts_on

pub returns : goal.returns
returns c = search parts_end
