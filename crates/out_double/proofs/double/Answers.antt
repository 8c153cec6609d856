-- `out_double::double` meets its contract: a word that is drawn has an m and a k that the operation takes, and then its sign.
-- Assumes nothing.
use Rattle.out_double.proofs.DrawLaws.{exact_size, not_too_low, not_too_high, negated, kept}
use Rattle.out_double.proofs.double.Goals as goal

pub scaled-size-requires : goal.scaled-size-requires
scaled-size-requires c = search (exact_size, not_too_low, not_too_high)

pub returns-then-parts : goal.returns-then-parts
returns-then-parts c = search negated

pub returns-else-parts : goal.returns-else-parts
returns-else-parts c = search kept
