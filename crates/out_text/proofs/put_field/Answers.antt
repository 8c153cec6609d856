-- `out_text::put_field` meets its contract: the byte stands behind the field.
-- Assumes nothing.
use Rattle.out_text.proofs.WrittenLaws.{written_more}
use Rattle.out_text.proofs.put_field.Goals as goal

pub returns : goal.returns
returns c = search written_more
