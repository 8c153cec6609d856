-- `lex_number::well_formed` meets its contract: each result by the tests that led there.
-- Assumes nothing.
use Rattle.lex_number.proofs.ValueLaws.{formed_none, formed_letters}
use Rattle.lex_number.proofs.well_formed.Goals as goal

pub returns-then-d : goal.returns-then-d
returns-then-d c = search formed_letters

pub returns-else-d : goal.returns-else-d
returns-else-d c = search formed_none
