-- `ask_sound::record::is_range` meets its contract.
-- Assumes nothing.
use Rattle.ask_sound.proofs.RangeLaws.{range_short, range_told}
use Rattle.ask_sound.proofs.record.is_range.Goals as goal

pub returns-then-all-many : goal.returns-then-all-many
returns-then-all-many c = search range_short

pub returns : goal.returns
returns c = search range_told
