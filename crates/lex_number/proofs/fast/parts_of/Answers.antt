-- `lex_number::fast::parts_of` meets its contract: each part from where the one before it ends.
-- Assumes nothing.
use Rattle.lex_number.proofs.FrontLaws.{parts_read}
use Rattle.lex_number.proofs.fast.parts_of.Goals as goal

pub returns : goal.returns
returns c = search parts_read
