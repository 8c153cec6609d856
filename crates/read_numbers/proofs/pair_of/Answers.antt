-- `read_numbers::pair_of` meets its contract: staged where there is one number.
-- Assumes nothing.
use Rattle.read_numbers.proofs.StagingLaws.{pair_untold, pair_other, pair_told}
use Rattle.read_numbers.proofs.pair_of.Goals as goal

pub returns-then-not-numbers : goal.returns-then-not-numbers
returns-then-not-numbers c = search pair_untold

pub returns-then-numbers-ne1 : goal.returns-then-numbers-ne1
returns-then-numbers-ne1 c = search pair_other

pub returns : goal.returns
returns c = search pair_told
