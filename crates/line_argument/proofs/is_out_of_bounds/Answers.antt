-- `line_argument::is_out_of_bounds` meets its contract: each `return` by the keywords it was compared with.
-- Assumes nothing.
use Rattle.base.proofs.IfLaws.{chain}
use Rattle.line_argument.specs.Argument.{is_out_of_bounds}
use Rattle.line_argument.proofs.ArgumentLaws.{off_rows, wide_band}
use Rattle.line_argument.proofs.is_out_of_bounds.Goals as goal

pub returns-then-key-eq-ROW : goal.returns-then-key-eq-ROW
unfolding is_out_of_bounds
returns-then-key-eq-ROW c = search (chain, off_rows, wide_band) depth 12

pub returns-then-key-eq-BANDWIDTH : goal.returns-then-key-eq-BANDWIDTH
unfolding is_out_of_bounds
returns-then-key-eq-BANDWIDTH c = search (chain, off_rows, wide_band) depth 12

pub returns : goal.returns
unfolding is_out_of_bounds
returns c = search (chain, off_rows, wide_band) depth 12
