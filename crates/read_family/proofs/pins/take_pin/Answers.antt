-- `read_family::pins::take_pin` meets its contract: by the front of the line.
-- Assumes nothing.
use Rattle.read_family.proofs.PinLaws.{take_blank, take_opens, take_words}
use Rattle.read_family.proofs.pins.take_pin.Goals as goal

pub returns-in-Blanks : goal.returns-in-Blanks
returns-in-Blanks c = take_blank _ _ c.front_of.ensures _ _ _ _ c.in-Blanks.is

pub returns-in-Words : goal.returns-in-Words
returns-in-Words c = search take_words

pub returns-in-Opening : goal.returns-in-Opening
returns-in-Opening c = take_opens _ _ c.front_of.ensures _ _ _ _ c.in-Opening.is
