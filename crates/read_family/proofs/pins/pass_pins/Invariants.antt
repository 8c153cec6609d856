-- `read_family::pins::pass_pins` meets its contract. The loop's invariant: no rule is broken, reading on gives the same
-- result, and what is staged with what the lines from there give is the whole.
-- Assumes nothing.
use Prim.Native.Nat.{◌+◌, ◌-◌, ◌≤◌}
use lib.ListN.{length}
use Rattle.read_family.proofs.PinLaws.{Gone}
use Rattle.read_family.proofs.pins.pass_pins.Given as goal

abbrev pub invariant-loop-here : goal.invariant-loop-here
invariant-loop-here l = (l.line ≤ l.at + 1) × Gone l.text l.at l.line l.initial.part.map l.initial.part.pins l.initial.stage l.here l.line_here l.part l.stage

abbrev pub decreases-loop-here : goal.decreases-loop-here
decreases-loop-here l = length l.text - l.here
