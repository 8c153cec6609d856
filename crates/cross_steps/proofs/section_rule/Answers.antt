-- `cross_steps::section_rule` meets its contract.
-- Assumes nothing.
use Rattle.cross_steps.proofs.RuleLaws.{section_none, section_wrong, section_kind_lem, section_differs, section_kept}
use Rattle.cross_steps.proofs.section_rule.Goals as goal

pub returns-then-counts-own : goal.returns-then-counts-own
returns-then-counts-own c = search section_none

pub returns-then-is_wrong_method : goal.returns-then-is_wrong_method
returns-then-is_wrong_method c = search section_wrong

pub returns-then-is_kind_broken : goal.returns-then-is_kind_broken
returns-then-is_kind_broken c = search section_kind_lem

pub returns-then-differs : goal.returns-then-differs
returns-then-differs c = search section_differs

pub returns : goal.returns
returns c = search section_kept
