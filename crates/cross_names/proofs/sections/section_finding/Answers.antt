use borrow.Author.Rules.{rules}
use Rattle.cross_rules.proofs.TableLaws.{text_rooms}
use Rattle.cross_names.proofs.SectionLaws.{sections_start, finding_none, finding_here, finding_later}
use Rattle.cross_names.proofs.sections.section_finding.Goals as goal

pub used_sections-used-requires : goal.used_sections-used-requires
used_sections-used-requires c = search text_rooms

pub loop-i-init : goal.loop-i-init
loop-i-init c = search sections_start

pub section_rule-rule-requires : goal.section_rule-rule-requires
section_rule-rule-requires c = search (rules, text_rooms)

pub returns-then-rule-ne0 : goal.returns-then-rule-ne0
returns-then-rule-ne0 c = search finding_here

pub loop-i-preserved : goal.loop-i-preserved
loop-i-preserved c = search finding_later

pub returns : goal.returns
returns c = search finding_none
