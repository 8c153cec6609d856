-- Document 01, "The table": "Parts in this order, each after its count, records in text order". A part is the list of
-- its records, a record the list of its words. `layout` and `parts_in` work for any number of parts.
-- Assumes nothing.
use Rattle.std.specs.Prelude.{ℕ, zero, suc, ◌+◌, ◌*◌, List, [], ◌∷◌, ◌++◌, length, take, drop, get_or}

-- the parts, in the paper's order
abbrev pub models : ℕ
models = 0

abbrev pub steps : ℕ
steps = 1

abbrev pub maps : ℕ
maps = 2

abbrev pub pins : ℕ
pins = 3

abbrev pub sections : ℕ
sections = 4

abbrev pub matrices : ℕ
matrices = 5

abbrev pub values : ℕ
values = 6

abbrev pub part_count : ℕ
part_count = 7

-- how many words a record of each part has
abbrev pub model_width : ℕ
model_width = 5

abbrev pub step_width : ℕ
step_width = 6

abbrev pub map_width : ℕ
map_width = 7

abbrev pub pin_width : ℕ
pin_width = 2

abbrev pub section_width : ℕ
section_width = 8

abbrev pub matrix_width : ℕ
matrix_width = 5

abbrev pub value_width : ℕ
value_width = 3

abbrev pub widths : List ℕ
widths = model_width ∷ step_width ∷ map_width ∷ pin_width ∷ section_width ∷ matrix_width ∷ value_width ∷ []

unfoldable pub joined : List (List ℕ) → List ℕ
joined [] = []
joined (r ∷ rs) = r ++ joined rs

-- "each after its count"
unfoldable pub layout : List (List (List ℕ)) → List ℕ
layout [] = []
layout (records ∷ parts) = (length records ∷ joined records) ++ layout parts

-- the words that parts of these widths need, given how many records each has
unfoldable pub needed : List ℕ → List ℕ → ℕ
needed [] counts = 0
needed (w ∷ ws) [] = 0
needed (w ∷ ws) (c ∷ cs) = 1 + w * c + needed ws cs

-- ---- a table taken apart

-- n records of w words each, one after another
unfoldable pub chopped : ℕ → ℕ → List ℕ → List (List ℕ)
chopped w zero t = []
chopped w (suc n) t = take w t ∷ chopped w n (drop w t)

-- the parts that a table holds, by the counts that it gives itself
unfoldable pub parts_in : List ℕ → List ℕ → List (List (List ℕ))
parts_in [] t = []
parts_in (w ∷ ws) t = chopped w (get_or t 0 0) (drop 1 t) ∷ parts_in ws (drop (1 + w * get_or t 0 0) t)
