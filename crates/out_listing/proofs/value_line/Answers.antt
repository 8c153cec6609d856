-- `out_listing::value_line` meets its contract: its five fields, one after the other.
-- Assumes nothing.
use Rattle.out_text.proofs.LineLaws.{line_five}
use Rattle.out_listing.specs.Listing.{listed_value}
use Rattle.out_listing.proofs.TextLaws.{field_told}
use Rattle.out_listing.proofs.value_line.Goals as goal

pub returns : goal.returns
unfolding listed_value
returns c = line_five _ _ _ _ _ _ _ _ _ _ _ _ _ _ _ _ _ c.put_name-second.ensures (field_told _ c.kind_word.ensures c.put_field-third.ensures) c.put_decimal-fourth.ensures c.put_decimal-fifth.ensures c.put_value.ensures
