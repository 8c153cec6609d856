-- The number of the first rule that a line of a pin map breaks, 0 for none, as code tells it.
-- Assumes nothing.
use Rattle.std.specs.Prelude.{ℕ, List}
use Rattle.base.specs.Broken.{first_broken}
use Rattle.line_map.specs.PinMap.{map_rules, pin_rules}
use Rattle.line_map.specs.declared.Map.{Map}
use Rattle.line_map.specs.declared.MapLine.{MapLine}

unfoldable pub map_rule : MapLine → Map → ℕ
map_rule l m = first_broken (map_rules l m)

unfoldable pub pin_rule : List ℕ → Map → ℕ → ℕ
pin_rule content m total = first_broken (pin_rules content m total)
