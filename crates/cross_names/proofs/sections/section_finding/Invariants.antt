-- `cross_names::sections::section_finding` meets its contract. The loop's invariant: what the sections left give is what all of them give.
-- Assumes nothing.
use Rattle.cross_names.proofs.SectionLaws.{SectionsLeft}
use Rattle.cross_names.proofs.sections.section_finding.Given as goal

abbrev pub invariant-loop-i : goal.invariant-loop-i
invariant-loop-i l = SectionsLeft l.text l.i
