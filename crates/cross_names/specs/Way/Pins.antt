-- "19 TWICE: second of one name within .. maps .. or one map's pins", by the records of the table: the findings of one map's
-- pins.
-- Assumes nothing.
use Rattle.std.specs.Prelude.{ℕ, zero, suc, ◌+◌, ◌*◌, List, [], ◌∷◌}
use Rattle.base.specs.Broken.{◌when◌, first_broken}
use Rattle.base.specs.Refusal as refusal
use Rattle.table_layout.specs.Layout.{pins, pin_width}
use Rattle.table_layout.specs.declared.View.{View}
use Rattle.table_record.specs.Way.Standing.{base_of}
use Rattle.table_record.specs.declared.MapRecord.{MapRecord}
use Rattle.doc.specs.Lines.{significant}
use Rattle.cross_rules.specs.Way.Nth.{nth_line}
use Rattle.cross_rules.specs.Way.Repeated.{is_repeated}
use Rattle.cross_rules.specs.declared.Finding.{Finding}

-- the finding of pin i of a map. The record of the map's first pin begins at word `base`; its index among all pins is `first`.
unfoldable pub pin_finding : List ℕ → List ℕ → ℕ → ℕ → ℕ → Finding
pin_finding t table base first i =
    record { rule = first_broken (refusal.twice when is_repeated t table base pin_width i ∷ []); line = nth_line pins (first + i) (significant t) }

-- the findings of the next pins of that map, from pin i on; the last argument is their number
unfoldable pub pins_from : List ℕ → List ℕ → ℕ → ℕ → ℕ → ℕ → List Finding
pins_from t table base first i zero = []
pins_from t table base first i (suc n) = pin_finding t table base first i ∷ pins_from t table base first (i + 1) n

-- all pins of a map
unfoldable pub pins_of_map : List ℕ → List ℕ → View → MapRecord → List Finding
pins_of_map t table v m = pins_from t table (base_of v pins + pin_width * m.first) m.first 0 m.pins
