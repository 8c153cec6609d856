use Rattle.ask_sound.proofs.LoopLaws.{part_starts, part_ends, record_room, part_refused, part_on}
use Rattle.ask_sound.proofs.are_records.Goals as goal

pub loop-i-init : goal.loop-i-init
loop-i-init c = search part_starts

pub is_record-requires : goal.is_record-requires
is_record-requires c = record_room _ _ _ _ _ c.loop-i.invariant c.requires.0 c.requires.2 c.loop-i-test.true _ c.requires.1

pub returns-then-not-is_record : goal.returns-then-not-is_record
returns-then-not-is_record c = search part_refused

pub loop-i-preserved : goal.loop-i-preserved
loop-i-preserved c = search part_on

pub returns : goal.returns
returns c = search part_ends
