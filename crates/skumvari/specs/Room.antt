-- How long a table must be to suffice for every text: it has as many records of each part as the paper's bounds allow.
-- Assumes nothing.
use Rattle.std.specs.Prelude.{ℕ}
use Rattle.table_layout.specs.Layout.{widths, needed}
use Rattle.table_layout.specs.Bounds.{bounds}

unfoldable pub most_words : ℕ
most_words = needed widths bounds
