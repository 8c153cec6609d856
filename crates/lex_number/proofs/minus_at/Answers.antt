-- `lex_number::minus_at` meets its contract: each result by the tests that led there.
-- Assumes nothing.
use borrow.Author.Rules.{rules}
use Rattle.lex_number.specs.Number.{is_minus}
use Rattle.lex_number.proofs.SignLaws.{minus_past}
use Rattle.lex_number.proofs.minus_at.Goals as goal

pub returns-then-at-s : goal.returns-then-at-s
unfolding is_minus
returns-then-at-s c = search rules

pub returns-else-at-s : goal.returns-else-at-s
returns-else-at-s c = search minus_past
