use Rattle.cross_names.proofs.UsedLaws.{raised_start, slot_in, raised_on, raised_done}
use Rattle.cross_names.proofs.sections.used_sections.Goals as goal

pub loop-i-init : goal.loop-i-init
loop-i-init c = search raised_start

pub bounds-used-slot : goal.bounds-used-slot
bounds-used-slot c = search slot_in

pub loop-i-preserved : goal.loop-i-preserved
loop-i-preserved c = search raised_on

pub returns : goal.returns
returns c = search raised_done
