-- `out_listing::put_parts` meets its contract: the four parts, one after the other.
-- Assumes nothing.
use Rattle.out_listing.proofs.TextLaws.{parts_written}
use Rattle.out_listing.proofs.ShownLaws.{models_shown, steps_shown, maps_shown, sections_shown}
use Rattle.out_listing.proofs.put_parts.Goals as goal

pub returns : goal.returns
returns c = parts_written _ _ _ _ _ _ _ _ _ _ _ _ _ _ c.put_part-steps.ensures c.put_part-maps.ensures c.put_part-sections.ensures _ _ c.put_part.ensures (models_shown _ _ c.requires) (steps_shown _ _ c.requires) (maps_shown _ _ c.requires) (sections_shown _ _ c.requires)
