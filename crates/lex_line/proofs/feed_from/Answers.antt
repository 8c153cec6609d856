-- `lex_line::feed_from` meets its contract: an LF right here or behind the next byte, or the end of the run of other bytes.
-- Assumes nothing.
use mathlib.Core.Path.{refl}
use Rattle.lex_line.proofs.LineLaws.{feed_ended, feed_here, feed_next}
use Rattle.lex_line.proofs.feed_from.Goals as goal

pub returns-then-text-from : goal.returns-then-text-from
returns-then-text-from c = search feed_ended

pub returns-then-text-from-eq-LINE_FEED : goal.returns-then-text-from-eq-LINE_FEED
returns-then-text-from-eq-LINE_FEED c = feed_here _ _ _ refl c.if-text-from-eq-LINE_FEED.true

pub returns-then-byte_at-eq-LINE_FEED : goal.returns-then-byte_at-eq-LINE_FEED
returns-then-byte_at-eq-LINE_FEED c = feed_next _ _ _ _ c.if-text-from.false refl c.if-text-from-eq-LINE_FEED.false c.byte_at.ensures c.if-byte_at-eq-LINE_FEED.true
