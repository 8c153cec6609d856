-- `read_family::pins::pin_line` meets its contract: the rule, then the record of the pin.
-- Assumes nothing.
use native.Mathlib.Omega.{arith}
use Rattle.read_line.proofs.StepLaws.{pins_small, pins_room}
use Rattle.read_family.proofs.PinLaws.{pin_refused, pin_staged_lem}
use Rattle.read_family.proofs.pins.pin_line.Goals as goal

pub returns-then-rule-ne0 : goal.returns-then-rule-ne0
returns-then-rule-ne0 c = search pin_refused

pub with_pin-requires : goal.with_pin-requires
with_pin-requires c = search pins_small

pub overflow_add-result : goal.overflow_add-result
overflow_add-result c = let h = pins_room _ _ _ _ c.pin_rule-rule.ensures c.if-rule-ne0.false in
    omega (arith, h)

pub returns : goal.returns
returns c = search pin_staged_lem
