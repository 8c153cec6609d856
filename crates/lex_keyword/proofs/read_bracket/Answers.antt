-- `lex_keyword::read_bracket` meets its contract: each `return` by what the calls before it answered.
-- Assumes nothing.
use Prim.Native.Nat.{◌<◌}
use native.Mathlib.Omega.{arith}
use Rattle.lex_keyword.proofs.BracketLaws.{opens_column, reads_plain, reads_indented}
use Rattle.lex_keyword.proofs.read_bracket.Goals as goal

pub returns-then-byte_at-ne91 : goal.returns-then-byte_at-ne91
returns-then-byte_at-ne91 c = search reads_plain

pub returns-then-front-gt0 : goal.returns-then-front-gt0
returns-then-front-gt0 c = let h : 0 < c.past_blanks-front.result = omega arith in search (reads_indented, h)

pub opened_bracket-requires : goal.opened_bracket-requires
opened_bracket-requires c = opens_column _ _ _ c.past_blanks-front.ensures c.byte_at.ensures c.if-byte_at-ne91.false (omega arith)
