-- Each model of a sound table is right: its steps lie inside, and its depth stays 0 to 8 and ends at 0.
-- Assumes nothing.
use mathlib.Core.Path.{◌≡◌}
use mathlib.Core.Bool.{Bool, true}
use mathlib.Core.List.{List, [], ◌∷◌}
use Prim.Native.Nat.{ℕ, zero, suc, ◌+◌, ◌≤◌, ◌<◌}
use native.Mathlib.Nat.{le_of_suc-le-suc, not-suc-le-zero}
use lib.ListN.{length, get_or}
use Rattle.base.proofs.IfLaws.{both_first, both_second}
use Rattle.table_record.specs.declared.ModelRecord.{ModelRecord}
use Rattle.table_record.specs.Records.{Records, records_of, no_model, range}
use Rattle.ask_sound.proofs.RangeLaws.{range_inside}
use Rattle.ask_sound.specs.Sound.{every, depth_holds, is_model, record_kinds, are_sound, is_sound}

every_at : {A : Type 0} (test : A → Bool) (none : A) (xs : List A) (i : ℕ) → every test xs ≡ true → i < length xs → test (get_or xs i none) ≡ true
unfolding every
every_at test none [] i e h = absurd (not-suc-le-zero h)
every_at test none (x ∷ xs) zero e h = both_first _ _ e
every_at test none (x ∷ xs) (suc i) e h = every_at test none xs i (both_second _ _ e) (le_of_suc-le-suc h)

pub record RightModel (r : Records) (i : ℕ) : Type 0 where
  pub inside : (get_or r.models i no_model).first + (get_or r.models i no_model).steps ≤ length (record_kinds r.steps)
  pub depth : depth_holds 0 (range (get_or r.models i no_model).first (get_or r.models i no_model).steps (record_kinds r.steps)) ≡ true

model_right : (bytes : ℕ) (kinds : List ℕ) (m : ModelRecord) → is_model bytes kinds m ≡ true → (m.first + m.steps ≤ length kinds) × (depth_holds 0 (range m.first m.steps kinds) ≡ true)
unfolding is_model
model_right bytes kinds m e =
    let rest : _ = both_second _ _ (both_second _ _ e) in
    (range_inside m.first m.steps (length kinds) (both_first _ _ rest), both_second _ _ rest)

module _ (bytes : ℕ) (r : Records) (sound : are_sound bytes r ≡ true) where
  models_sound : every (is_model bytes (record_kinds r.steps)) r.models ≡ true
  unfolding are_sound
  models_sound = both_first _ _ sound

  pub right_of : (i : ℕ) → i < length r.models → RightModel r i
  right_of i h =
      let right : _ = model_right bytes (record_kinds r.steps) _ (every_at _ no_model r.models i models_sound h) in
      record { inside = right.0; depth = right.1 }

pub right_model : (t table : List ℕ) → is_sound t table ≡ true → (i : ℕ) → i < length (records_of table).models → RightModel (records_of table) i
unfolding is_sound
right_model t table sound = right_of (length t) (records_of table) (both_second _ _ (both_second _ _ sound))
