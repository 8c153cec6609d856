-- `read_family::read_family` meets its contract. The loop's invariant: the lines from here on give the result of the whole
-- text, and what is staged with what these lines give is the whole.
-- Assumes nothing.
use mathlib.Core.Path.{◌≡◌}
use Prim.Native.Nat.{◌-◌}
use lib.ListN.{length, drop}
use Rattle.lex_line.specs.Lines.{contents}
use Rattle.read_line.specs.Reading.{read_from, reading_of}
use Rattle.read_line.specs.Way.Walk.{Onward}
use Rattle.doc.specs.Lines.{lines_at}
use Rattle.read_family.specs.Way.Blocks.{Carries}
use Rattle.read_family.specs.Way.Family.{Follows}
use Rattle.read_family.proofs.read_family.Given as goal

abbrev pub invariant-loop-at : goal.invariant-loop-at
invariant-loop-at l = Onward l.text l.at l.line l.s
    × (read_from l.line (contents (drop l.at l.text)) l.s ≡ reading_of l.text)
    × Carries l.text (lines_at l.text l.line l.at l.s.place) l.s l.block l.models l.steps l.maps l.pins
    × Follows l.text l.list (record { at = l.at; line = l.line; place = l.s.place })
    × (length l.models ≡ length l.initial.models)
    × (length l.steps ≡ length l.initial.steps)
    × (length l.maps ≡ length l.initial.maps)
    × (length l.pins ≡ length l.initial.pins)

abbrev pub decreases-loop-at : goal.decreases-loop-at
decreases-loop-at l = length l.text - l.at
