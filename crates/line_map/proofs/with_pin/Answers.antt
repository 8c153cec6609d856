-- `line_map::with_pin` meets its contract: one pin more, and all else as it is.
-- Assumes nothing.
use Rattle.line_map.specs.PinMap.{with_pin}
use Rattle.base.specs.If.{either, both, provided◌then◌else◌}
use Rattle.base.specs.Bytes.{within}
use Rattle.std.proofs.Common.{arith}
use Rattle.std.proofs.lemmas.Bool.Decides.{nat_tests}
use Rattle.line_map.proofs.with_pin.Goals as goal

pub returns : goal.returns
unfolding with_pin either both within provided◌then◌else◌
returns c = grind (arith, nat_tests)
