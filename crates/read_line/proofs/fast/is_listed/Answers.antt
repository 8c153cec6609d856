-- `read_line::fast::is_listed` meets its contract: by the first byte, or by a look at the whole line.
-- Assumes nothing.
use Rattle.read_line.proofs.ListedLaws.{free_listed}
use Rattle.read_line.proofs.fast.is_listed.Goals as goal

pub returns-then-is_free : goal.returns-then-is_free
returns-then-is_free c = λ e. free_listed _ _ _ c.byte_at.ensures c.is_free.ensures c.if-is_free.true
