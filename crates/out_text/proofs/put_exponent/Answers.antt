-- `out_text::put_exponent` meets its contract.
-- Assumes nothing.
use Rattle.out_text.proofs.ValueLaws.{exponent_below, exponent_above}
use Rattle.out_text.proofs.put_exponent.Goals as goal

pub returns-then-shifted-lt64 : goal.returns-then-shifted-lt64
returns-then-shifted-lt64 c = search exponent_below

pub returns-else-shifted-lt64 : goal.returns-else-shifted-lt64
returns-else-shifted-lt64 c = search exponent_above
