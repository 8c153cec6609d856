-- What a printing function leaves in lent room. It writes `bytes` from offset `at` on and returns the next offset. What is past
-- the end is dropped, and the next offset is then the end. `sets` drops it too: it stores nothing past the end of a list.
-- Assumes nothing.
use Rattle.std.specs.Prelude.{ℕ, ◌+◌, min, ◌≡◌, List, length}
use Rattle.std.proofs.lemmas.List.Edits.{sets}

pub record Written (before after : List ℕ) (at next : ℕ) (bytes : List ℕ) : Type 0 where
  pub image : after ≡ sets before at bytes
  pub place : next ≡ min (at + length bytes) (length before)
