-- Document 01, "Sound": "counts within bounds (matrices 1,024) and the table long enough". A view gives where the
-- records of each part begin in a table, and how many there are, by the counts that the table itself gives.
-- Assumes nothing.
use Rattle.std.specs.Prelude.{ℕ, ◌+◌, ◌*◌, Bool, false, Option, Some, None, List, [], ◌∷◌, length, get_or, leb}
use Rattle.base.specs.If.{provided◌then◌else◌, both}
use Rattle.table_layout.specs.Layout.{widths}
use Rattle.table_layout.specs.Bounds.{bounds}
use Rattle.table_layout.specs.declared.View.{View}

-- from the part on whose count is at `at`: each count is within its bound, and the last record lies inside the table
unfoldable pub are_within : List ℕ → List ℕ → List ℕ → ℕ → Bool
are_within [] bs t at = leb at (length t)
are_within (w ∷ ws) [] t at = false
are_within (w ∷ ws) (b ∷ bs) t at = both (leb (get_or t at 0) b) (are_within ws bs t (at + 1 + w * get_or t at 0))

-- where the records of each part begin
unfoldable pub bases_at : List ℕ → List ℕ → ℕ → List ℕ
bases_at [] t at = []
bases_at (w ∷ ws) t at = (at + 1) ∷ bases_at ws t (at + 1 + w * get_or t at 0)

-- how many there are
unfoldable pub counts_at : List ℕ → List ℕ → ℕ → List ℕ
counts_at [] t at = []
counts_at (w ∷ ws) t at = get_or t at 0 ∷ counts_at ws t (at + 1 + w * get_or t at 0)

-- where the records of the last part end
unfoldable pub end_at : List ℕ → List ℕ → ℕ → ℕ
end_at [] t at = at
end_at (w ∷ ws) t at = end_at ws t (at + 1 + w * get_or t at 0)

-- where the counts of a table place its parts, whether or not they fit
abbrev pub placed : List ℕ → View
placed t = record { bases = bases_at widths t 0; counts = counts_at widths t 0; end = end_at widths t 0 }

-- the view of a table that fits
unfoldable pub view_of : List ℕ → Option View
view_of t = provided are_within widths bounds t 0 then Some (placed t) else None
