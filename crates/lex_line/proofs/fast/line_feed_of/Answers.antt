use Rattle.lex_line.proofs.FeedLaws.{feed_from}
use Rattle.lex_line.proofs.fast.line_feed_of.Goals as goal

pub returns : goal.returns
returns c = search feed_from
