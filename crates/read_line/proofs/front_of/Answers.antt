-- `read_line::front_of` meets its contract: by the first byte that is no blank.
-- Assumes nothing.
use Rattle.read_line.proofs.QuietLaws.{front_blanks, front_words, front_opens}
use Rattle.read_line.proofs.front_of.Goals as goal

pub returns-then-front-content : goal.returns-then-front-content
returns-then-front-content c = front_blanks _ _ c.past_blanks-front.ensures c.if-front-content.true

pub returns-then-byte_at-eq-OPENING : goal.returns-then-byte_at-eq-OPENING
returns-then-byte_at-eq-OPENING c = front_opens _ _ c.past_blanks-front.ensures c.if-front-content.false _ c.byte_at.ensures c.if-byte_at-eq-OPENING.true

pub returns : goal.returns
returns c = front_words _ _ c.past_blanks-front.ensures c.if-front-content.false _ c.byte_at.ensures c.if-byte_at-eq-OPENING.false
