-- What the rules of lines guarantee of a model's type, of a pin map and of a step: each word is within the bounds of a
-- sound table. Of a map they also guarantee how many pins it has.
-- Assumes nothing.
use mathlib.Core.Path.{◌≡◌}
use mathlib.Core.Bool.{true, false}
use Prim.Native.Nat.{◌*◌, ◌≤◌, ◌<◌}
use lib.ListN.{length}
use Rattle.table_layout.specs.Codes.{end_kind, section_kind}
use Rattle.base.specs.Bytes.{within}
use Rattle.doc.specs.Lines.{no_word}
use Rattle.doc.specs.Document.{Step, Model, Map, Document}
use Rattle.doc.specs.Holds.{Each}
use Rattle.ask_sound.specs.Tests.{is_length_word, is_grid}
use Rattle.table_layout.specs.Bounds.{most_mult, most_map_pins}

-- "amount: Mult, the Len value word, or 0; side start and length or 0 0"
pub record RightStep (s : Step) : Type 0 where
  pub kind : s.kind < 4
  pub mult : s.kind ≡ section_kind → s.mult ≡ true → within 1 most_mult s.amount ≡ true
  pub long : s.kind ≡ section_kind → s.mult ≡ false → is_length_word s.amount ≡ true
  pub amountless : (s.kind ≡ section_kind → ⊥) → s.amount ≡ 0
  pub sideless : (s.kind ≡ end_kind → ⊥) → s.side ≡ no_word

pub record RightMap (m : Map) : Type 0 where
  pub order : m.order < 3
  pub grid : is_grid m.order m.rows m.columns ≡ true
  pub pins : length m.pins ≤ most_map_pins
  pub some : 1 ≤ length m.pins
  -- an ordered map: Row_ordered is 0, Column_ordered 1
  pub fits : m.order < 2 → length m.pins ≤ m.rows * m.columns

pub record Bounded (d : Document) : Type 0 where
  pub types : Each (λ (m : Model). m.type < 3) d.models
  pub steps : Each (λ (m : Model). Each RightStep m.steps) d.models
  pub maps : Each RightMap d.maps
