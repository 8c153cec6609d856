-- `cross_names::sections::slot_of` meets its contract.
-- Assumes nothing.
use Rattle.base.proofs.IfLaws.{chain}
use Rattle.cross_names.specs.Way.Used.{slot_of}
use Rattle.cross_names.proofs.sections.slot_of.Goals as goal

pub returns-then-step-ne-SECTION : goal.returns-then-step-ne-SECTION
unfolding slot_of
returns-then-step-ne-SECTION c = search chain

pub returns-then-target-ge-SECTIONS : goal.returns-then-target-ge-SECTIONS
unfolding slot_of
returns-then-target-ge-SECTIONS c = search chain

pub returns : goal.returns
unfolding slot_of
returns c = search chain
