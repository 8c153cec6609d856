-- `read_numbers::read_numbers` meets its contract: what is stored is what the document says.
-- Assumes nothing.
use Rattle.read_numbers.proofs.StagingLaws.{numbers_staged}
use Rattle.read_numbers.proofs.read_numbers.Goals as goal

pub returns : goal.returns
returns c = search numbers_staged
