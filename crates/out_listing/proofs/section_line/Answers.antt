-- `out_listing::section_line` meets its contract.
-- Assumes nothing.
use Rattle.out_text.proofs.LineLaws.{line_three}
use Rattle.out_listing.specs.Listing.{listed_section}
use Rattle.out_listing.proofs.TextLaws.{field_told}
use Rattle.out_listing.proofs.section_line.Goals as goal

pub returns : goal.returns
unfolding listed_section
returns c = line_three _ _ _ _ _ _ _ _ _ _ _ c.put_name-second.ensures (field_told _ c.method_word.ensures c.put_field-third.ensures) c.put_decimal.ensures
