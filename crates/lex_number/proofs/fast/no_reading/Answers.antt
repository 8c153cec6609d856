-- `lex_number::fast::no_reading` meets its contract: what is no exponent, and the byte as it is.
-- Assumes nothing.
use Rattle.lex_number.proofs.PlainLaws.{none_read}
use Rattle.lex_number.proofs.fast.no_reading.Goals as goal

pub returns : goal.returns
returns c = search none_read
