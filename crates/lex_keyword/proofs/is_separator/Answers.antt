use Rattle.base.proofs.IfLaws.{ifs, either_rest}
use Rattle.lex_keyword.specs.Bracket.{is_separator}
use Rattle.lex_keyword.proofs.is_separator.Goals as goal

pub returns-then-b-eq32 : goal.returns-then-b-eq32
unfolding is_separator
returns-then-b-eq32 c = search ifs

pub returns-else-b-eq32 : goal.returns-else-b-eq32
unfolding is_separator
returns-else-b-eq32 c = search (ifs, either_rest)
