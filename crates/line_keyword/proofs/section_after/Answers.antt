-- `line_keyword::section_after` meets its contract: by the keyword.
-- Assumes nothing.
use Rattle.base.proofs.IfLaws.{chain}
use Rattle.line_keyword.specs.State.{new_section}
use Rattle.line_keyword.specs.Keywords.{section_after}
use Rattle.line_keyword.proofs.BlockLaws.{method_set, section_kept}
use Rattle.line_keyword.proofs.section_after.Goals as goal

pub returns-then-key-eq-BEGIN_ICM_SECTION : goal.returns-then-key-eq-BEGIN_ICM_SECTION
unfolding section_after new_section
returns-then-key-eq-BEGIN_ICM_SECTION c = search chain

pub returns-then-key-eq-DERIVATION_METHOD : goal.returns-then-key-eq-DERIVATION_METHOD
returns-then-key-eq-DERIVATION_METHOD c = search method_set

pub returns : goal.returns
returns c = search section_kept
