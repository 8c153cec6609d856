-- `out_text::put_value` meets its contract: its four parts, one after the other.
-- Assumes nothing.
use Rattle.out_text.proofs.ValueLaws.{value_written}
use Rattle.out_text.proofs.put_value.Goals as goal

pub returns : goal.returns
returns c = search value_written
