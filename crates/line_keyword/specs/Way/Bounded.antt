-- What stays true in the forward reading while no rule is broken: every count is within its bound, so that no sum can
-- wrap. n is how many lines have been read. No rule bounds the matrices, but each takes a line, so there are at most n.
-- Assumes nothing.
use Rattle.std.specs.Prelude.{ℕ, ◌^◌, ◌≤◌, ◌<◌, ◌≡◌}
use Rattle.table_layout.specs.Bounds.{most_models, most_maps, most_sections, most_pins, most_values, deepest, most_steps}
use Rattle.line_map.specs.Way.Bounded.{BoundedMap}
use Rattle.line_keyword.specs.declared.Counts.{Counts}
use Rattle.line_keyword.specs.declared.State.{State}

-- a text has at most this many lines, since a slice has fewer than 2^63 bytes
abbrev pub most_lines : ℕ
most_lines = 9_223_372_036_854_775_807

-- every count that a keyword raises can be raised by one
pub record Countable (c : Counts) : Type 0 where
  pub models : c.models < 2 ^ 63
  pub maps : c.maps < 2 ^ 63
  pub sections : c.sections < 2 ^ 63
  pub matrices : c.matrices < 2 ^ 63

pub record BoundedState (n : ℕ) (s : State) : Type 0 where
  pub models : s.counts.models ≤ most_models
  pub steps : s.counts.steps ≤ most_steps
  pub maps : s.counts.maps ≤ most_maps
  pub pins : s.counts.pins ≤ most_pins
  pub sections : s.counts.sections ≤ most_sections
  pub matrices : s.counts.matrices ≤ n
  pub values : s.counts.values ≤ most_values
  pub depth : s.path.depth ≤ deepest
  pub grid : BoundedMap s.map

-- no section, matrix or value is read yet
pub record NoneYet (c : Counts) : Type 0 where
  pub sections : c.sections ≡ 0
  pub matrices : c.matrices ≡ 0
  pub values : c.values ≡ 0
