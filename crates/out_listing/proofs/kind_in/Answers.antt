-- `out_listing::kind_in` meets its contract: each `return` by the words compared so far.
-- Assumes nothing.
use Rattle.base.proofs.IfLaws.{chain}
use Rattle.out_listing.specs.Shown.{kind_in}
use Rattle.out_listing.proofs.kind_in.Goals as goal

pub returns-then-has_matrix : goal.returns-then-has_matrix
unfolding kind_in
returns-then-has_matrix c = search chain depth 12

pub returns-then-has_matrix-2 : goal.returns-then-has_matrix-2
unfolding kind_in
returns-then-has_matrix-2 c = search chain depth 12

pub returns-then-has_matrix-3 : goal.returns-then-has_matrix-3
unfolding kind_in
returns-then-has_matrix-3 c = search chain depth 12

pub returns-then-has_matrix-4 : goal.returns-then-has_matrix-4
unfolding kind_in
returns-then-has_matrix-4 c = search chain depth 12

pub returns-else-has_matrix-4 : goal.returns-else-has_matrix-4
unfolding kind_in
returns-else-has_matrix-4 c = search chain depth 12
