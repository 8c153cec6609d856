-- `line_map::pin_rule` meets its contract: each `return` by the rules that are kept before it.
-- Assumes nothing.
use mathlib.Core.Path.{sym}
use Rattle.base.proofs.BrokenLaws.{firsts}
use Rattle.line_map.specs.Way.Rule.{pin_rule}
use Rattle.line_map.proofs.LineLaws.{pin_short, pin_long}
use Rattle.line_map.proofs.pin_rule.Goals as goal

pub returns-then-few-gt2 : goal.returns-then-few-gt2
unfolding pin_rule
returns-then-few-gt2 c = sym (search (firsts, pin_short, pin_long))

pub returns-then-m-ge-MAP_PINS : goal.returns-then-m-ge-MAP_PINS
unfolding pin_rule
returns-then-m-ge-MAP_PINS c = sym (search (firsts, pin_short, pin_long))

pub returns-then-total-ge-PINS : goal.returns-then-total-ge-PINS
unfolding pin_rule
returns-then-total-ge-PINS c = sym (search (firsts, pin_short, pin_long))

pub returns : goal.returns
unfolding pin_rule
returns c = sym (search (firsts, pin_short, pin_long))
