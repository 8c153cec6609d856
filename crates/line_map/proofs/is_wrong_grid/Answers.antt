-- `line_map::is_wrong_grid` meets its contract: the product of two sizes of at most 256 does not wrap.
-- Assumes nothing.
use native.Mathlib.Omega.{arith}
use Rattle.base.proofs.IfLaws.{chain}
use Rattle.line_map.specs.PinMap.{is_wrong_grid}
use Rattle.line_map.proofs.MapLaws.{grid_most}
use Rattle.line_map.proofs.is_wrong_grid.Goals as goal

pub overflow_mul-result : goal.overflow_mul-result
overflow_mul-result c = omega (arith, grid_most _ c.requires)

pub returns-then-is_ordered : goal.returns-then-is_ordered
unfolding is_wrong_grid
returns-then-is_ordered c = search chain

pub returns : goal.returns
unfolding is_wrong_grid
returns c = search chain
