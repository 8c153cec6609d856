-- `read_numbers::read_pair` meets its contract: a column, and one number behind it.
-- Assumes nothing.
use Rattle.read_numbers.proofs.StagingLaws.{pair_blank, column_unformed, column_unbounded, pair_stages, column_few, word_starts, word_inside}
use borrow.Author.Rules.{rules}
use Rattle.read_numbers.proofs.read_pair.Goals as goal

pub returns-then-not-is_word_at : goal.returns-then-not-is_word_at
returns-then-not-is_word_at c = search pair_blank

pub slice_bounds-read_integer-end : goal.slice_bounds-read_integer-end
slice_bounds-read_integer-end c = search (rules, word_starts, word_inside)

pub returns-in_default : goal.returns-in_default
returns-in_default c = search (rules, column_unformed, c.in_default.ensures)

pub returns-then-not-is_within : goal.returns-then-not-is_within
returns-then-not-is_within c = search (rules, column_unbounded, c.in-Some.ensures)

pub store_numbers-numbers-requires-clause-fact_2 : goal.store_numbers-numbers-requires-clause-fact_2
store_numbers-numbers-requires-clause-fact_2 c = search (rules, column_few, c.in-Some.ensures)

pub returns : goal.returns
returns c = search (rules, pair_stages, c.in-Some.ensures)
