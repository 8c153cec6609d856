-- The bounds of a map while no rule is broken, so that the product of its sizes does not wrap.
-- Assumes nothing.
use Rattle.std.specs.Prelude.{◌≤◌}
use Rattle.line_map.specs.declared.Map.{Map}
use Rattle.table_layout.specs.Bounds.{most_map_pins}

-- while no rule is broken no line gives a size above 256
pub record BoundedMap (m : Map) : Type 0 where
  pub few_rows : m.rows ≤ most_map_pins
  pub few_columns : m.columns ≤ most_map_pins
