-- `cross_names::sections::section_rule` meets its contract.
-- Assumes nothing.
use Rattle.base.proofs.BrokenLaws.{rule_list}
use Rattle.cross_names.specs.Way.Used.{rule_of}
use Rattle.cross_names.proofs.sections.section_rule.Goals as goal

pub returns-then-is_repeated_name : goal.returns-then-is_repeated_name
unfolding rule_of
returns-then-is_repeated_name c = search rule_list

pub returns-then-not-used-at : goal.returns-then-not-used-at
unfolding rule_of
returns-then-not-used-at c = search rule_list

pub returns : goal.returns
unfolding rule_of
returns c = search rule_list
