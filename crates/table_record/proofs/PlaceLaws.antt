-- Laws of the words where records begin: how many there are, those of a range, and the record at each of them.
-- Assumes nothing.
use mathlib.Core.Path.{◌≡◌, refl, sym, ◌∙◌, ap}
use mathlib.Core.List.{List, [], ◌∷◌, map}
use Prim.Native.Nat.{ℕ, zero, suc, ◌+◌, ◌*◌, ◌≤◌, ◌<◌}
use native.Mathlib.Nat.{add-zero, mul-zero, mul-suc, le_of_suc-le-suc, not-suc-le-zero}
use native.Mathlib.Omega.{arith}
use lib.ListN.{length, take, drop, get_or, length-map}
use Rattle.table_record.specs.Records.{range}
use Rattle.table_record.specs.Way.Standing.{places, step_at, section_at, value_at, base_of, count_of, kinds_from, values_from, kinds_at, methods_at, values_at}
use Rattle.table_layout.specs.Layout.{steps, sections, values, step_width, section_width, value_width}
use Rattle.table_layout.specs.declared.View.{View}

-- ---- places

module _ (w : ℕ) where
  pub places_long : (from n : ℕ) → length (places w from n) ≡ n
  unfolding places
  places_long from zero = refl
  places_long from (suc n) = ap suc (places_long (from + w) n)

  later : (from i : ℕ) → from + w + w * i ≡ from + w * suc i
  later from i =
      let m : w * suc i ≡ w * i + w = mul-suc w i in
      omega arith

  first_place : (from : ℕ) → from ≡ from + w * 0
  first_place from = sym (ap (λ (k : ℕ). from + k) (mul-zero w) ∙ add-zero from)

  pub places_front : (from many n : ℕ) → many ≤ n → take many (places w from n) ≡ places w from many
  unfolding places
  places_front from zero n h = refl
  places_front from (suc many) zero h = absurd (not-suc-le-zero h)
  places_front from (suc many) (suc n) h = ap (λ (ps : List ℕ). from ∷ ps) (places_front (from + w) many n (le_of_suc-le-suc h))

  -- the records of a range
  pub places_range : (from first many n : ℕ) → first + many ≤ n → range first many (places w from n) ≡ places w (from + w * first) many
  unfolding places
  places_range from zero many n h =
      let k : many ≤ n = omega arith in
      places_front from many n k ∙ ap (λ (p : ℕ). places w p many) (first_place from)
  places_range from (suc first) many zero h = absurd (omega arith)
  places_range from (suc first) many (suc n) h =
      let k : first + many ≤ n = omega arith in
      places_range (from + w) first many n k ∙ ap (λ (p : ℕ). places w p many) (later from first)

  -- where record i begins
  module _ (f : ℕ → ℕ) where
    place_at : (from i n : ℕ) → i < n → get_or (map f (places w from n)) i 0 ≡ f (from + w * i)
    unfolding places
    place_at from i zero h = absurd (not-suc-le-zero h)
    place_at from zero (suc n) h = ap f (first_place from)
    place_at from (suc i) (suc n) h = place_at (from + w) i n (le_of_suc-le-suc h) ∙ ap f (later from i)

module _ {A B : Type 0} (f : A → B) where
  take_map : (n : ℕ) (xs : List A) → take n (map f xs) ≡ map f (take n xs)
  take_map zero xs = refl
  take_map (suc n) [] = refl
  take_map (suc n) (x ∷ xs) = ap (λ (ys : List B). f x ∷ ys) (take_map n xs)

  drop_map : (n : ℕ) (xs : List A) → drop n (map f xs) ≡ map f (drop n xs)
  drop_map zero xs = refl
  drop_map (suc n) [] = refl
  drop_map (suc n) (x ∷ xs) = drop_map n xs

  pub range_map : (first many : ℕ) (xs : List A) → range first many (map f xs) ≡ map f (range first many xs)
  range_map first many xs = ap (take many) (drop_map first xs) ∙ take_map many (drop first xs)

-- ---- the kinds of steps, the methods of sections, and the values

module _ (table : List ℕ) (v : View) where
  pub kinds_long : length (kinds_at table v) ≡ count_of v steps
  unfolding kinds_at kinds_from
  kinds_long = length-map (places step_width (base_of v steps) (count_of v steps)) (λ (at : ℕ). (step_at table at).kind) ∙ places_long step_width _ _

  pub kinds_range : (first many : ℕ) → first + many ≤ count_of v steps → range first many (kinds_at table v) ≡ kinds_from table (base_of v steps + step_width * first) many
  unfolding kinds_at kinds_from
  kinds_range first many h =
      range_map (λ (at : ℕ). (step_at table at).kind) first many _
      ∙ ap (map (λ (at : ℕ). (step_at table at).kind)) (places_range step_width (base_of v steps) first many (count_of v steps) h)

  pub methods_long : length (methods_at table v) ≡ count_of v sections
  unfolding methods_at
  methods_long = length-map (places section_width (base_of v sections) (count_of v sections)) (λ (at : ℕ). (section_at table at).method) ∙ places_long section_width _ _

  pub method_word : (i : ℕ) → i < count_of v sections → get_or (methods_at table v) i 0 ≡ (section_at table (base_of v sections + section_width * i)).method
  unfolding methods_at
  method_word i h = place_at section_width (λ (at : ℕ). (section_at table at).method) (base_of v sections) i (count_of v sections) h

  pub values_long : length (values_at table v) ≡ count_of v values
  unfolding values_at values_from
  values_long = length-map (places value_width (base_of v values) (count_of v values)) (value_at table) ∙ places_long value_width _ _

  pub values_range : (first many : ℕ) → first + many ≤ count_of v values → range first many (values_at table v) ≡ values_from table (base_of v values + value_width * first) many
  unfolding values_at values_from
  values_range first many h = range_map (value_at table) first many _ ∙ ap (map (value_at table)) (places_range value_width (base_of v values) first many (count_of v values) h)
