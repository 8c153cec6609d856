-- The line of a record: the number of the line that writes it. Steps need no search, the table holds their lines.
-- Assumes nothing.
use Rattle.std.specs.Prelude.{ℕ, ◌-◌, Bool, List, [], ◌∷◌, eqb}
use Rattle.base.specs.If.{provided◌then◌else◌, both}
use Rattle.lex_keyword.specs.Names.{begin_icm_model, icm_pin_map, begin_icm_section}
use Rattle.line_place.specs.Place.{is_in_family}
use Rattle.line_place.specs.Place as place
use Rattle.table_layout.specs.Layout.{models, maps, sections}
use Rattle.doc.specs.Lines.{Line, plain, key_of}

-- whether a line with this keyword, read in this place, writes a record of the part: the opening line of a
-- model, map or section, or a pin line
unfoldable pub writes_at : ℕ → ℕ → ℕ → Bool
writes_at part p key =
    provided eqb part models then both (is_in_family p) (eqb key begin_icm_model) else
    provided eqb part maps then both (is_in_family p) (eqb key icm_pin_map) else
    provided eqb part sections then both (eqb p place.after) (eqb key begin_icm_section) else
    both (eqb p place.pin_list) (eqb key plain)

unfoldable pub writes_part : ℕ → Line → Bool
writes_part part l = writes_at part l.place (key_of l)

-- the number of the line that writes record i (from 0) of the part; 0 if the part has fewer records
unfoldable pub nth_line : ℕ → ℕ → List Line → ℕ
nth_line part i [] = 0
nth_line part i (l ∷ ls) =
    provided writes_part part l then (provided eqb i 0 then l.line else nth_line part (i - 1) ls) else nth_line part i ls
