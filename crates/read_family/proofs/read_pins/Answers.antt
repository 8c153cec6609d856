-- `read_family::read_pins` meets its contract: lines of a pin list, or the line with a bracket that comes first.
-- Assumes nothing.
use native.Mathlib.Omega.{arith}
use Rattle.read_family.proofs.FamilyLaws.{alone_stays, list_stops, list_goes, list_waits}
use borrow.Author.Rules.{rules}
use Rattle.read_family.proofs.read_pins.Goals as goal

pub returns-then-part-ne0 : goal.returns-then-part-ne0
returns-then-part-ne0 c = λ steps.
    list_stops _ _ _ _ c.requires.1 c.requires.2 _ _ _ c.pass_pins-walk.ensures _ _ steps _
    c.if-part-ne0.true _ c.after_pins.ensures

pub returns-then-at-walk : goal.returns-then-at-walk
returns-then-at-walk c = λ steps.
    list_goes _ _ _ _ c.requires.1 c.requires.2 _ _ _ c.pass_pins-walk.ensures _ _ steps _
    c.if-at-walk.true _ c.after_pins-then-at-walk.ensures

pub read_alone-requires : goal.read_alone-requires
read_alone-requires c = (search rules, search rules, omega arith, search alone_stays)

pub returns : goal.returns
returns c = λ steps.
    list_waits _ _ _ _ c.requires.1 c.requires.2 _ _ _ c.pass_pins-walk.ensures _ _ steps _
    c.if-part-ne0.false c.if-at-walk.false _ _ _ c.read_alone.ensures
