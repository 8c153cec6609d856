-- `line_map::map_next` meets its contract: each field by what the line gives for it.
-- Assumes nothing.
use Rattle.line_map.specs.PinMap.{map_next}
use Rattle.base.specs.If.{either, both, provided◌then◌else◌}
use Rattle.base.specs.Bytes.{within}
use Rattle.std.proofs.Common.{arith}
use Rattle.std.proofs.lemmas.Bool.Decides.{nat_tests}
use Rattle.line_map.proofs.map_next.Goals as goal

pub returns : goal.returns
unfolding map_next either both within provided◌then◌else◌
returns c = grind (arith, nat_tests)
