-- `read_path::pass_block` meets its contract. It calls itself with a greater depth, which is at most 8.
-- Assumes nothing.
use Prim.Native.Nat.{◌+◌, ◌-◌, ◌≤◌}
use lib.ListN.{length}
use Rattle.read_path.proofs.PathLaws.{Gone}
use Rattle.read_path.proofs.BlockLaws.{Level, cursor_at}
use Rattle.table_layout.specs.Bounds.{deepest}
use Rattle.read_path.proofs.+pass_block.Given as goal

abbrev pub decreases-pass_block : goal.decreases-pass_block
decreases-pass_block l = deepest - l.path.depth

abbrev pub invariant-loop-path : goal.invariant-loop-path
invariant-loop-path l = (l.line ≤ l.at + 1) × Gone l.text l.at l.line l.path l.steps l.initial.stage l.here l.line_here l.part l.stage × Level l.text (record { at = l.at; line = l.line; path = l.path; steps = l.steps }) (cursor_at l.here l.line_here l.part)

abbrev pub decreases-loop-path : goal.decreases-loop-path
decreases-loop-path l = length l.text - l.here
