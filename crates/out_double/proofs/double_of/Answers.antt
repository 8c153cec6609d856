-- `out_double::double_of` meets its contract: the double of a word that is drawn, and else nothing.
-- Assumes nothing.
use Rattle.out_double.proofs.DrawLaws.{drawn, outside}
use Rattle.out_double.proofs.double_of.Goals as goal

pub double-requires : goal.double-requires
double-requires c = cc

pub returns-then-is_drawn : goal.returns-then-is_drawn
returns-then-is_drawn c = search drawn

pub returns-else-is_drawn : goal.returns-else-is_drawn
returns-else-is_drawn c = search outside
