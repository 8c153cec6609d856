-- `read_path::side_after` meets its contract.
-- Assumes nothing.
use Rattle.read_path.proofs.SideLaws.{side_none, side_line, side_next}
use Rattle.read_path.proofs.side_after.Goals as goal

pub returns-then-not-line : goal.returns-then-not-line
returns-then-not-line c = search side_none

pub side_in-requires : goal.side_in-requires
side_in-requires c = search side_line

pub returns : goal.returns
returns c = search side_next
