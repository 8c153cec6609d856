-- `lex_number::past_sign` meets its contract: each result by the tests that led there.
-- Assumes nothing.
use Rattle.lex_number.proofs.SignLaws.{sign_past, sign_there, sign_none}
use Rattle.lex_number.proofs.past_sign.Goals.{else-from-s-via-then-from-s+else-is_sign, else-from-s-via-else-from-s}
use Rattle.lex_number.proofs.past_sign.Goals as goal

pub returns-then-is_sign : goal.returns-then-is_sign
returns-then-is_sign c = search sign_there

pub returns-else-from-s : goal.returns-else-from-s
returns-else-from-s c =
    elim c.else-from-s.branch [
      | else-from-s-via-then-from-s+else-is_sign w ↦ sign_none _ _ _ w.is_sign.ensures w.if-is_sign.false
      | else-from-s-via-else-from-s w ↦ sign_past _ _ w.if-from-s.false
    ]
