-- `lex_keyword::is_name_of` meets its contract: the keyword's letters stand where the table says.
-- Assumes nothing.
use Rattle.lex_keyword.proofs.LookupLaws.{name_room, name_stands}
use Rattle.lex_keyword.proofs.is_name_of.Goals as goal

pub stands_at-requires : goal.stands_at-requires
stands_at-requires c = search name_room

pub returns : goal.returns
returns c = search name_stands
