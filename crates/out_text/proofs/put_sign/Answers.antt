-- `out_text::put_sign` meets its contract.
-- Assumes nothing.
use Rattle.out_text.proofs.ValueLaws.{sign_written, sign_none}
use Rattle.out_text.proofs.put_sign.Goals as goal

pub returns-then-negative : goal.returns-then-negative
returns-then-negative c = search sign_written

pub returns-else-negative : goal.returns-else-negative
returns-else-negative c = search sign_none
