-- `read_path::pass_path` meets its contract: each way out by the lines gone over so far.
-- Assumes nothing.
use Rattle.read_path.proofs.PathLaws.{Gone}
use Rattle.read_path.proofs.BlockLaws.{Level, cursor_at}
use lib.ListN.{length}
use Prim.Native.Nat.{◌+◌, ◌-◌, ◌≤◌}
use Rattle.read_path.proofs.pass_path.Given as goal

abbrev pub invariant-loop-here : goal.invariant-loop-here
invariant-loop-here l = (l.line ≤ l.at + 1) × Gone l.text l.at l.line l.initial.part.path l.initial.part.steps l.initial.stage l.here l.line_here l.part l.stage × Level l.text (cursor_at l.at l.line l.initial.part) (cursor_at l.here l.line_here l.part)

abbrev pub decreases-loop-here : goal.decreases-loop-here
decreases-loop-here l = length l.text - l.here
