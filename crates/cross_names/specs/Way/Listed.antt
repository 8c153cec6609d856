-- "20 LIST": which models the list names. A list line names the first model of its name.
-- Assumes nothing.
use Rattle.std.specs.Prelude.{ℕ, ◌+◌, ◌<◌, ◌≡◌, Bool, false, List, length, get_or, eqb}
use Rattle.table_layout.specs.Bounds.{most_models}
use Rattle.doc.specs.Document.{Named, Model, Document}
use Rattle.doc.specs.Records.{index_of}
use Rattle.cross_rules.specs.Rules.{any, same_word}

-- the index of the first model that has the name of the list line
unfoldable pub model_named : Document → Named → ℕ
model_named d n = index_of (λ (m : Model). same_word n.name m.name) d.models

-- some list line names model i
unfoldable pub is_listed : Document → ℕ → Bool
is_listed d i = any (λ (n : Named). eqb (model_named d n) i) d.listed

-- a flag for each of the most models, and one more
pub record Listed (d : Document) (listed : List Bool) : Type 0 where
  pub long : length listed ≡ most_models + 1
  pub told : (i : ℕ) → i < most_models → get_or listed i false ≡ is_listed d i
