-- `read_matrix::plain_numbers` meets its contract: by what was read, and how many values there are.
-- Assumes nothing.
use Rattle.read_matrix.proofs.RunLaws.{numbers_broken, numbers_many, numbers_taken}
use Rattle.read_matrix.proofs.plain_numbers.Goals as goal

pub returns-then-not-numbers : goal.returns-then-not-numbers
returns-then-not-numbers c = search numbers_broken

pub returns-then-values-numbers : goal.returns-then-values-numbers
returns-then-values-numbers c = search numbers_many

pub returns : goal.returns
returns c = search numbers_taken
