-- `store_table::target_of` meets its contract: by the kind of the step.
-- Assumes nothing.
use Rattle.store_table.proofs.TargetLaws.{end_found, section_found, none_found}
use Rattle.store_table.proofs.target_of.Goals as goal

pub returns-then-step-eq-END : goal.returns-then-step-eq-END
returns-then-step-eq-END c = search end_found

pub returns-then-step-eq-SECTION : goal.returns-then-step-eq-SECTION
returns-then-step-eq-SECTION c = search section_found

pub returns : goal.returns
returns c = search none_found
