-- `read_numbers::pass_number` meets its contract.
-- Assumes nothing.
use Rattle.read_numbers.proofs.pass_number.Goals as goal

pub returns : goal.returns
returns c = cc
