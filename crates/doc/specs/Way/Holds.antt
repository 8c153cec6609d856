-- Further facts on the document of every text that reads to its end: its counts, the depth along a path, and its names.
-- No promise rests on them.
-- Assumes nothing.
use Rattle.std.specs.Prelude.{ℕ, ◌+◌, ◌-◌, ◌≤◌, ◌≡◌, Bool, List, [], ◌∷◌, length, take, drop, ltb, eqb}
use Rattle.table_layout.specs.Codes.{fork_kind, endfork_kind}
use Rattle.table_layout.specs.Bounds.{deepest, longest_name}
use Rattle.base.specs.If.{provided◌then◌else◌, both}
use Rattle.lex_line.specs.Words.{Word}
use Rattle.line_keyword.specs.declared.Counts.{Counts}
use Rattle.doc.specs.Document.{Step}

-- the counts of the forward reading, in the order of the parts
unfoldable pub counts_of : Counts → List ℕ
counts_of c = c.models ∷ c.steps ∷ c.maps ∷ c.pins ∷ c.sections ∷ c.matrices ∷ c.values ∷ []

unfoldable pub depth_of_steps : ℕ → List Step → Bool
depth_of_steps d [] = eqb d 0
depth_of_steps d (s ∷ ss) =
    provided eqb s.kind fork_kind then both (ltb d deepest) (depth_of_steps (d + 1) ss) else
    provided eqb s.kind endfork_kind then both (ltb 0 d) (depth_of_steps (d - 1) ss) else depth_of_steps d ss

-- the bytes of a word are those of the text at its offset
pub record Stands (t : List ℕ) (w : Word) : Type 0 where
  pub inside : w.start + length w.text ≤ length t
  pub bytes : take (length w.text) (drop w.start t) ≡ w.text

-- "every name 1 to 120 bytes inside the text"
pub record IsName (t : List ℕ) (w : Word) : Type 0 where
  pub stands : Stands t w
  pub some : 1 ≤ length w.text
  pub few : length w.text ≤ longest_name
