-- Document 01, "Pin maps": the lines above Pin_list, and the pins below it.
--
-- What is remembered of a map is the struct `Map` of src/lib.rt: `order`, the number of its Pin_order plus 1; `rows` and
-- `columns`, each 0 while it has not been given; and how many `pins` have been read. What a line says is a `MapLine`:
-- `says`, which of the four it is; whether its rest is `right`; whether its number is `formed` and `bounded`, true of a
-- line without one; and the `value` that it gives.
-- Assumes nothing.
use Rattle.std.specs.Prelude.{ℕ, ◌+◌, ◌*◌, Bool, true, false, not, List, [], ◌∷◌, length, leb, ltb, eqb, is_some, unwrap_or}
use Rattle.table_layout.specs.Bounds.{most_pins, most_map_pins}
use Rattle.base.specs.If.{provided◌then◌else◌, both, either}
use Rattle.base.specs.Bytes.{bytes, within}
use Rattle.base.specs.Runs.{same}
use Rattle.base.specs.Broken.{Rule, ◌when◌}
use Rattle.base.specs.Refusal as refusal
use Rattle.lex_line.specs.Words.{words, first_of, second_of, has_equals, left_of, right_of}
use Rattle.lex_number.specs.Integer.{whole_of, is_whole_within}
use Rattle.line_map.specs.declared.Map.{Map}
use Rattle.line_map.specs.declared.MapLine.{MapLine}
use Rattle.table_layout.specs.Codes.{row_ordered, column_ordered, un_ordered}

-- what a line above Pin_list says
abbrev pub says_nothing : ℕ
says_nothing = 0

abbrev pub says_order : ℕ
says_order = 1

abbrev pub says_columns : ℕ
says_columns = 2

abbrev pub says_rows : ℕ
says_rows = 3

abbrev pub says_pin_list : ℕ
says_pin_list = 4

-- "Row_ordered, Column_ordered or Un_ordered": the number in the table plus 1; 0 for any other word
unfoldable pub order_of : List ℕ → ℕ
order_of w =
    provided same w (bytes "Row_ordered") then row_ordered + 1 else
    provided same w (bytes "Column_ordered") then column_ordered + 1 else
    provided same w (bytes "Un_ordered") then un_ordered + 1 else 0

unfoldable pub wrong_map_line : ℕ → MapLine
wrong_map_line says = record { says = says; right = false; formed = true; bounded = true; value = 0 }

unfoldable pub order_line : List (List ℕ) → MapLine
order_line ws =
    provided both (eqb (length ws) 2) (not (eqb (order_of (second_of ws)) 0))
    then record { says = says_order; right = true; formed = true; bounded = true; value = order_of (second_of ws) }
    else wrong_map_line says_order

unfoldable pub list_line : List (List ℕ) → MapLine
list_line ws =
    provided eqb (length ws) 1 then record { says = says_pin_list; right = true; formed = true; bounded = true; value = 0 } else wrong_map_line says_pin_list

-- "`Num_of_columns = c` and `Num_of_rows = r`", "Num_of_rows, Num_of_columns .. 1 to 256"
unfoldable pub size_line : ℕ → List ℕ → MapLine
size_line says content =
    provided both (has_equals content) (both (eqb (length (left_of content)) 1) (eqb (length (right_of content)) 1))
    then
    record {
      says = says;
      right = true;
      formed = is_some (whole_of (first_of (right_of content)));
      bounded = is_whole_within 1 most_map_pins (whole_of (first_of (right_of content)));
      value = unwrap_or (whole_of (first_of (right_of content))) 0;
    }
    else wrong_map_line says

unfoldable pub map_line_of : List ℕ → MapLine
map_line_of content =
    provided same (first_of (words content)) (bytes "Pin_order") then order_line (words content) else
    provided same (first_of (words content)) (bytes "Pin_list") then list_line (words content) else
    provided same (first_of (left_of content)) (bytes "Num_of_columns") then size_line says_columns content else
    provided same (first_of (left_of content)) (bytes "Num_of_rows") then size_line says_rows content else
    record { says = says_nothing; right = true; formed = true; bounded = true; value = 0 }

unfoldable pub new_map : Map
new_map = record { order = 0; rows = 0; columns = 0; pins = 0 }

-- Row_ordered or Column_ordered
unfoldable pub is_ordered : Map → Bool
is_ordered m = within (row_ordered + 1) (column_ordered + 1) m.order

-- "`Pin_order` ..; for the ordered two `Num_of_columns = c` and `Num_of_rows = r`, either first; then `Pin_list`"
unfoldable pub is_map_out_of_order : MapLine → Map → Bool
is_map_out_of_order l m =
    provided eqb l.says says_order then not (eqb m.order 0) else
    provided eqb l.says says_columns then either (not (is_ordered m)) (not (eqb m.columns 0)) else
    provided eqb l.says says_rows then either (not (is_ordered m)) (not (eqb m.rows 0)) else
    provided eqb l.says says_pin_list then either (eqb m.order 0) (both (is_ordered m) (either (eqb m.rows 0) (eqb m.columns 0))) else true

abbrev pub map_rules : MapLine → Map → List Rule
map_rules l m =
    refusal.argument when not l.right
    ∷ refusal.line when is_map_out_of_order l m
    ∷ refusal.number when not l.formed
    ∷ refusal.range when not l.bounded
    ∷ []

unfoldable pub map_next : MapLine → Map → Map
map_next l m =
    record {
      order = provided eqb l.says says_order then l.value else m.order;
      rows = provided eqb l.says says_rows then l.value else m.rows;
      columns = provided eqb l.says says_columns then l.value else m.columns;
      pins = m.pins;
    }

-- "at least one pin, one a line": the name of the pin, perhaps a signal name, which is not read, and no third word
unfoldable pub is_pin_line : List (List ℕ) → Bool
is_pin_line ws = ltb (length ws) 3

-- `total` is how many pins all maps have before the line
abbrev pub pin_rules : List ℕ → Map → ℕ → List Rule
pin_rules content m total =
    refusal.argument when not (is_pin_line (words content))
    ∷ refusal.limit when either (leb most_map_pins m.pins) (leb most_pins total)
    ∷ []

unfoldable pub with_pin : Map → Map
with_pin m = record { order = m.order; rows = m.rows; columns = m.columns; pins = m.pins + 1 }

-- "at least one pin"; it is 9 if there is none
unfoldable pub pins_lack : Map → Bool
pins_lack m = eqb m.pins 0

-- request 3: "an ordered map has at least one and at most rows times columns pins", "16 on a map is given only above the product"
unfoldable pub is_wrong_grid : Map → Bool
is_wrong_grid m = both (is_ordered m) (ltb (m.rows * m.columns) m.pins)
