-- Names in a table's records: a name is given by the offset where it starts in the text and by its length. Two names
-- are equal when their bytes are (K13).
-- Assumes nothing.
use Rattle.std.specs.Prelude.{ℕ, List, take, drop}

-- the bytes of a name
unfoldable pub name_at : List ℕ → ℕ → ℕ → List ℕ
name_at t start size = take size (drop start t)
