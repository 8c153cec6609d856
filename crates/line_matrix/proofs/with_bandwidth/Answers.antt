-- `line_matrix::with_bandwidth` meets its contract: a band of one number more than the bandwidth.
-- Assumes nothing.
use Rattle.line_matrix.specs.Matrix.{with_bandwidth}
use Rattle.base.specs.If.{either, both, provided◌then◌else◌}
use Rattle.base.specs.Bytes.{within}
use Rattle.std.proofs.Common.{arith}
use Rattle.std.proofs.lemmas.Bool.Decides.{nat_tests}
use Rattle.line_matrix.proofs.with_bandwidth.Goals as goal

pub returns : goal.returns
unfolding with_bandwidth either both within provided◌then◌else◌
returns c = grind (arith, nat_tests)
