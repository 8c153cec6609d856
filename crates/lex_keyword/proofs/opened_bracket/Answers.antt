-- `lex_keyword::opened_bracket` meets its contract: each `return` by what the calls before it answered.
-- Assumes nothing.
use native.Mathlib.Omega.{arith}
use Rattle.lex_keyword.proofs.BracketLaws.{closes_before, closes_within, reads_bad, reads_name}
use Rattle.lex_keyword.proofs.RowLaws.{reads_row}
use borrow.Author.Rules.{rules}
use Rattle.lex_keyword.proofs.opened_bracket.Goals as goal

pub returns-then-is_row : goal.returns-then-is_row
returns-then-is_row c = search reads_row

pub returns-then-not-closes_at : goal.returns-then-not-closes_at
returns-then-not-closes_at c = search (rules, reads_bad)

pub overflow_add-end : goal.overflow_add-end
overflow_add-end c = omega (arith, closes_before _ _ _ c.closes_at.ensures c.if-not-closes_at.false-raw)

pub slice_bounds-says_name-end : goal.slice_bounds-says_name-end
slice_bounds-says_name-end c = search closes_within

pub returns : goal.returns
returns c = search (rules, reads_name)
