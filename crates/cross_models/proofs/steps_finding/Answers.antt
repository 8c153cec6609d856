use Rattle.cross_steps.proofs.JoinLaws.{step_rooms}
use Rattle.cross_rules.proofs.TableLaws.{text_rooms}
use Rattle.cross_models.proofs.StepsLaws.{room_there, steps_start, steps_end, place_fits, staged_inside, below_here, step_breaks, steps_on}
use borrow.Author.Rules.{rules}
use Rattle.cross_models.proofs.steps_finding.Goals as goal

pub owner_of-owner-requires : goal.owner_of-owner-requires
owner_of-owner-requires c = search room_there

pub loop-i-init : goal.loop-i-init
loop-i-init c = search steps_start

pub overflow_add-here : goal.overflow_add-here
overflow_add-here c = search place_fits

pub nth-own-requires : goal.nth-own-requires
nth-own-requires c = search (rules, text_rooms)

pub is_mult-mult-requires : goal.is_mult-mult-requires
is_mult-mult-requires c = search staged_inside

pub step_rule-rule-requires : goal.step_rule-rule-requires
step_rule-rule-requires c = search (step_rooms, below_here)

pub returns-then-rule-ne0 : goal.returns-then-rule-ne0
returns-then-rule-ne0 c = (search step_breaks, λ z. (c.step_rule-rule.ensures.marked z).whole)

pub loop-i-preserved : goal.loop-i-preserved
loop-i-preserved c = search steps_on

pub returns : goal.returns
returns c = (search steps_end, λ z. c.loop-i.invariant.marked.whole)
