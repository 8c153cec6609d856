-- The number that a list of values gives at a row and a column.
-- Assumes nothing.
use Rattle.std.specs.Prelude.{ℕ, List, [], ◌∷◌, eqb}
use Rattle.table_record.specs.declared.Value.{Value}
use Rattle.base.specs.If.{provided◌then◌else◌, both}
use Rattle.lex_number.specs.ValueWord.{zero_word}

-- the word of the first value with this row and this column; zero if there is none
unfoldable pub found_at : ℕ → ℕ → List Value → ℕ
found_at i j [] = zero_word
found_at i j (v ∷ vs) = provided both (eqb v.row i) (eqb v.column j) then v.word else found_at i j vs
