-- `lex_line::terminator_at` meets its contract: each `return` by the bytes that it saw.
-- Assumes nothing.
use Rattle.lex_line.proofs.ByteLaws.{terminator_feed, terminator_other, terminator_pair, terminator_lone}
use Rattle.lex_line.proofs.terminator_at.Goals as goal

pub returns-then-b-eq-LINE_FEED : goal.returns-then-b-eq-LINE_FEED
returns-then-b-eq-LINE_FEED c = search terminator_feed

pub returns-then-b-ne-CARRIAGE_RETURN : goal.returns-then-b-ne-CARRIAGE_RETURN
returns-then-b-ne-CARRIAGE_RETURN c = search terminator_other

pub returns-then-byte_at-eq-LINE_FEED : goal.returns-then-byte_at-eq-LINE_FEED
returns-then-byte_at-eq-LINE_FEED c = search terminator_pair

pub returns : goal.returns
returns c = search terminator_lone
