-- `doc::idle::skip_idle` meets its contract. The loop's invariant: the lines from the start to here are skipped.
-- Assumes nothing.
use Prim.Native.Nat.{◌+◌, ◌-◌, ◌≤◌}
use lib.ListN.{length}
use Rattle.doc.specs.Way.Idle.{SkipsIdle}
use Rattle.doc.proofs.idle.skip_idle.Given as goal

abbrev pub invariant-loop-here : goal.invariant-loop-here
invariant-loop-here l = (l.line ≤ l.at + 1) × SkipsIdle l.text l.at l.line l.place (record { at = l.here; line = l.line_here })

abbrev pub decreases-loop-here : goal.decreases-loop-here
decreases-loop-here l = length l.text - l.here
