-- `read_matrix::plain_pair` meets its contract: by what was read.
-- Assumes nothing.
use Rattle.read_matrix.proofs.RunLaws.{pair_full, pair_broken, pair_taken}
use Rattle.read_matrix.proofs.plain_pair.Goals as goal

pub returns-then-values-ge-VALUES : goal.returns-then-values-ge-VALUES
returns-then-values-ge-VALUES c = search pair_full

pub returns-then-not-pair : goal.returns-then-not-pair
returns-then-not-pair c = search pair_broken

pub returns : goal.returns
returns c = search pair_taken
