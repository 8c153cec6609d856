-- `read_sections::read_sections` meets its contract. The loop's invariant: how far the lines are judged and staged.
-- Assumes nothing.
use Prim.Native.Nat.{◌-◌}
use lib.ListN.{length, drop}
use Rattle.lex_line.specs.Lines.{contents}
use Rattle.read_line.specs.Reading.{read_from}
use Rattle.read_sections.proofs.WalkLaws.{Going}
use Rattle.read_sections.proofs.read_sections.Given as goal

abbrev pub invariant-loop-at : goal.invariant-loop-at
invariant-loop-at l = Going l.text l.initial.at l.initial.line (read_from l.initial.line (contents (drop l.initial.at l.text)) l.initial.s) l.initial.table l.initial.sections l.initial.matrices l.at l.line l.s l.block l.table l.sections l.matrices

abbrev pub decreases-loop-at : goal.decreases-loop-at
decreases-loop-at l = length l.text - l.at
