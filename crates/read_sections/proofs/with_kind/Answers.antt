-- `read_sections::with_kind` meets its contract.
-- Assumes nothing.
use Rattle.read_sections.proofs.KindLaws.{kind_new, kind_kept}
use Rattle.read_sections.proofs.with_kind.Goals as goal

pub returns-then-kinds-kind-eq0 : goal.returns-then-kinds-kind-eq0
returns-then-kinds-kind-eq0 c = search kind_new

pub returns : goal.returns
returns c = search kind_kept
