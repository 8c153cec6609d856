-- "27 UNUSED: section no step uses", by the records of the steps: the target of a Section step is the first section of its name.
-- Assumes nothing.
use Rattle.std.specs.Prelude.{ℕ, ◌+◌, ◌<◌, ◌≡◌, Bool, false, not, List, [], ◌∷◌, length, get_or, leb, eqb}
use Rattle.base.specs.If.{provided◌then◌else◌, both}
use Rattle.base.specs.Broken.{◌when◌, first_broken}
use Rattle.base.specs.Refusal as refusal
use Rattle.table_layout.specs.Bounds.{most_sections}
use Rattle.table_layout.specs.Codes.{section_kind}
use Rattle.table_record.specs.declared.StepRecord.{StepRecord}
use Rattle.cross_rules.specs.Rules.{any}

-- a Section step whose target is section i
unfoldable pub points_at : ℕ → StepRecord → Bool
points_at i s = both (eqb s.kind section_kind) (eqb s.target i)

unfoldable pub used_in : ℕ → List StepRecord → Bool
used_in i steps = any (points_at i) steps

-- the flag after those of the sections
abbrev pub no_slot : ℕ
no_slot = most_sections

-- a flag for each of the most sections, and one more
pub record Flags (used : List Bool) (steps : List StepRecord) : Type 0 where
  pub long : length used ≡ no_slot + 1
  pub told : (i : ℕ) → i < no_slot → get_or used i false ≡ used_in i steps

-- the flag that a step sets: that of its section, or the one that no section has
unfoldable pub slot_of : StepRecord → ℕ
slot_of s = provided not (eqb s.kind section_kind) then no_slot else provided leb no_slot s.target then no_slot else s.target

-- "19" and "27" of a section: an earlier section has its name; no step uses it
unfoldable pub rule_of : Bool → Bool → ℕ
rule_of twice used = first_broken (refusal.twice when twice ∷ refusal.unused when not used ∷ [])
