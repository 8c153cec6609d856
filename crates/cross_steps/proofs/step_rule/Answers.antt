-- `cross_steps::step_rule` meets its contract.
-- Assumes nothing.
use Rattle.base.proofs.IfLaws.{chain}
use Rattle.cross_steps.specs.Way.StepWords.{step_rule_at}
use Rattle.cross_steps.proofs.MarkLaws.{other_marked}
use borrow.Author.Rules.{rules}
use Rattle.cross_steps.proofs.step_rule.Goals as goal

pub returns-then-own-eq-END : goal.returns-then-own-eq-END
unfolding step_rule_at
returns-then-own-eq-END c = record { told = search chain; marked = search rules }

pub returns-then-own-eq-SECTION : goal.returns-then-own-eq-SECTION
unfolding step_rule_at
returns-then-own-eq-SECTION c = record { told = search chain; marked = search other_marked }

pub returns : goal.returns
unfolding step_rule_at
returns c = record { told = search chain; marked = search other_marked }
