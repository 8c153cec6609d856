-- Where the parts of a table are and how many words they need, by counts.
-- Assumes nothing.
use Rattle.std.specs.Prelude.{ℕ, zero, suc, ◌+◌, ◌*◌, ◌≡◌, List, [], ◌∷◌, length, get_or}

-- every record has as many words as the records of its part have
pub data AllLong (w : ℕ) : List (List ℕ) → Type 0 where
  none : AllLong w []
  more : {r : List ℕ} {rs : List (List ℕ)} → length r ≡ w → AllLong w rs → AllLong w (r ∷ rs)

pub data Wide : List ℕ → List (List (List ℕ)) → Type 0 where
  none : Wide [] []
  more : {w : ℕ} {ws : List ℕ} {records : List (List ℕ)} {parts : List (List (List ℕ))} → AllLong w records → Wide ws parts → Wide (w ∷ ws) (records ∷ parts)

-- where the count of a part is: after the records of the part before it
unfoldable pub count_at : List ℕ → List ℕ → ℕ → ℕ
count_at ws t zero = 0
count_at ws t (suc p) = count_at ws t p + 1 + get_or ws p 0 * get_or t (count_at ws t p) 0

-- where the records of a part begin
unfoldable pub begins_in : List ℕ → List ℕ → ℕ → ℕ
begins_in ws t p = count_at ws t p + 1
