-- Document 01, "Paths", as a grammar. A path is given by what each of its lines says, blank lines and comments left out.
-- The definitions name nothing of what the reading remembers: `GrammarLaws` shows that it takes exactly these paths.
-- Assumes nothing.
use Rattle.std.specs.Prelude.{ℕ, suc, List, [], ◌∷◌, ◌++◌}
use Rattle.table_layout.specs.Bounds.{deepest}
use Rattle.line_path.specs.Path.{says_end, says_side, says_section, says_fork, says_endfork}

-- "An end is `Model_pinmap name`, perhaps with `Side name` as the next line read."
pub data IsEnd : List ℕ → Type 0 where
  alone : IsEnd (says_end ∷ [])
  sided : IsEnd (says_end ∷ says_side ∷ [])

-- "perhaps one end as last"
pub data MayBeEnd : List ℕ → Type 0 where
  without : MayBeEnd []
  one : {end : List ℕ} → IsEnd end → MayBeEnd end

-- "Items are `Section Mult=n name`, `Section Len=v name` .. and fork blocks: Fork, zero or more items, perhaps one end as
-- last, Endfork. A block may hold further blocks": `AreItems deep` are zero or more items whose blocks are nested at most
-- `deep` deep
pub data AreItems : ℕ → List ℕ → Type 0 where
  none : {deep : ℕ} → AreItems deep []
  section : {deep : ℕ} {later : List ℕ} → AreItems deep later → AreItems deep (says_section ∷ later)
  block :
      {deep : ℕ} {inside end later : List ℕ} → AreItems deep inside → MayBeEnd end → AreItems (suc deep) later →
      AreItems (suc deep) (says_fork ∷ (inside ++ (end ++ (says_endfork ∷ later))))

-- "End, items, end. .. The first item is a Section." "to a depth of 8"; "The end at depth 0 closes the path."
pub data IsPath : List ℕ → Type 0 where
  path :
      {first later last : List ℕ} → IsEnd first → AreItems deepest later → IsEnd last →
      IsPath (first ++ (says_section ∷ (later ++ last)))
