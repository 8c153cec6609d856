use Rattle.base.proofs.IfLaws.{ifs, either_rest}
use Rattle.lex_line.specs.Way.LineFeeds.{is_line_byte}
use Rattle.lex_line.proofs.fast.LineByteByteClass.contains.Goals as goal

pub returns-then-b-eq-LINE_FEED : goal.returns-then-b-eq-LINE_FEED
unfolding is_line_byte
returns-then-b-eq-LINE_FEED c = search ifs

pub returns-else-b-eq-LINE_FEED : goal.returns-else-b-eq-LINE_FEED
unfolding is_line_byte
returns-else-b-eq-LINE_FEED c = search (ifs, either_rest)
