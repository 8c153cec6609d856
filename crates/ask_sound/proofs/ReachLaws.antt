-- Laws of the reach: a matrix's values rise exactly if they are no more than the reach of the first. It is stored for every 64th value.
-- Assumes nothing.
use mathlib.Core.Path.{◌≡◌, refl, sym, ◌∙◌, ap}
use mathlib.Core.Bool.{Bool, true, false, not}
use mathlib.Core.List.{List}
use Prim.Native.Nat.{ℕ, zero, suc, ◌+◌, ◌-◌, ◌*◌, ◌/◌, ◌%◌, ◌^◌, ◌≤◌, ◌<◌, zero-le, suc-le-suc}
use native.Mathlib.Nat.{le_refl, not-suc-le-zero}
use native.Mathlib.Omega.{arith}
use mir.Syntax.{w64}
use mir.Val.{Fits}
use lib.ListN.{length, get_or, set, length-set}
use lib.Seq.{get_or-set_same, get_or-set_other}
use lib.Dec.{leb, eqb}
use borrow.Author.Tests.{le-leb, lt-leb, leb-true, leb-false, eqb-true, eqb-false, not-true, not-false}
use Rattle.ask_sound.specs.Way.Judging.{reach, reach_at, block_values, most_blocks, Reaches}
use Rattle.table_record.specs.declared.Value.{Value}
use Rattle.table_record.specs.Way.Standing.{places, value_at, values_from}
use Rattle.table_layout.specs.Layout.{value_width}
use Rattle.table_layout.specs.Bounds.{most_conductors, most_values}
use Rattle.base.specs.If.{provided◌then◌else◌, both}
use Rattle.base.proofs.IfLaws.{if_true, if_false, by_test, by_cases}
use Rattle.doc.specs.Holds.{is_in_upper_half, comes_before, rises}
use Rattle.ask_sound.proofs.LoopLaws.{no_values, RiseLeft}

leb_suc : (x y : ℕ) → leb x y ≡ leb (suc x) (suc y)
leb_suc x y =
    by_cases _ (leb x y)
    (λ (e : leb x y ≡ true). e ∙ sym (le-leb (suc x) (suc y) (suc-le-suc (leb-true x y e))))
    (λ (e : leb x y ≡ false). e ∙ sym (lt-leb (suc x) (suc y) (suc-le-suc (leb-false x y e))))

-- the reach by the first value, and by the first two
one_rises : (a : Bool) → a ≡ leb 1 (provided a then 1 else 0)
unfolding provided◌then◌else◌
one_rises true = refl
one_rises false = refl

first_rises : (a b : Bool) (r : ℕ) → a ≡ leb 1 (provided a then provided b then suc r else 1 else 0)
unfolding provided◌then◌else◌
first_rises true true r = sym (le-leb 1 (suc r) (suc-le-suc zero-le))
first_rises true false r = refl
first_rises false b r = refl

more_rise : (a b : Bool) (k r : ℕ) → both a (both b (leb (suc k) r)) ≡ leb (suc (suc k)) (provided a then provided b then suc r else 1 else 0)
unfolding both provided◌then◌else◌
more_rise true true k r = leb_suc (suc k) r
more_rise true false k r = sym (lt-leb (suc (suc k)) 1 (suc-le-suc (suc-le-suc zero-le)))
more_rise false b k r = sym (lt-leb (suc (suc k)) 0 (suc-le-suc zero-le))

module _ (table : List ℕ) where
  abbrev inside : ℕ → Bool
  inside at = is_in_upper_half most_conductors (value_at table at)

  abbrev before : ℕ → Bool
  before at = comes_before (value_at table at) (value_at table (at + value_width))

  abbrev reaches : ℕ → ℕ → ℕ
  reaches at n = reach most_conductors (values_from table at n)

  no_reach : (at : ℕ) → reaches at zero ≡ 0
  unfolding values_from places reach
  no_reach at = refl

  reach_one : (at : ℕ) → reaches at (suc zero) ≡ (provided inside at then 1 else 0)
  unfolding values_from places reach
  reach_one at = refl

  reach_two : (at n : ℕ) → reaches at (suc (suc n)) ≡ (provided inside at then provided before at then suc (reaches (at + value_width) (suc n)) else 1 else 0)
  unfolding values_from places reach
  reach_two at n = refl

  rises_one : (at : ℕ) → rises most_conductors (values_from table at (suc zero)) ≡ inside at
  unfolding values_from places rises
  rises_one at = refl

  rises_two : (at n : ℕ) → rises most_conductors (values_from table at (suc (suc n))) ≡ both (inside at) (both (before at) (rises most_conductors (values_from table (at + value_width) (suc n))))
  unfolding values_from places rises
  rises_two at n = refl

  reach_few : (at n : ℕ) → reaches at n ≤ n
  reach_few at zero = rw (no_reach at) zero-le
  reach_few at (suc zero) = rw (reach_one at) (by_test (λ (r : ℕ). r ≤ 1) (inside at) 1 0 (λ (e : inside at ≡ true). le_refl 1) (λ (e : inside at ≡ false). zero-le))
  reach_few at (suc (suc n)) = rw (reach_two at n) (few (inside at) (before at) (reaches (at + value_width) (suc n)) (reach_few (at + value_width) (suc n)))
    where
      few : (a b : Bool) (r : ℕ) → r ≤ suc n → (provided a then provided b then suc r else 1 else 0) ≤ suc (suc n)
      few a b r h =
          by_test (λ (k : ℕ). k ≤ suc (suc n)) a (provided b then suc r else 1) 0
          (λ (e : a ≡ true). by_test (λ (k : ℕ). k ≤ suc (suc n)) b (suc r) 1 (λ (f : b ≡ true). suc-le-suc h) (λ (f : b ≡ false). suc-le-suc zero-le))
          (λ (e : a ≡ false). zero-le)

  -- the first n values rise exactly if n is at most the reach
  rises_reach : (at n m : ℕ) → n ≤ m → rises most_conductors (values_from table at n) ≡ leb n (reaches at m)
  rises_reach at zero m h = sym (no_values table at) ∙ sym (le-leb 0 (reaches at m) zero-le)
  rises_reach at (suc n) zero h = absurd (not-suc-le-zero h)
  rises_reach at (suc zero) (suc zero) h = rises_one at ∙ one_rises (inside at) ∙ ap (leb 1) (sym (reach_one at))
  rises_reach at (suc zero) (suc (suc m)) h = rises_one at ∙ first_rises (inside at) (before at) (reaches (at + value_width) (suc m)) ∙ ap (leb 1) (sym (reach_two at m))
  rises_reach at (suc (suc n)) (suc zero) h = absurd (omega arith)
  rises_reach at (suc (suc n)) (suc (suc m)) h =
      let k : suc n ≤ suc m = omega arith in
      rises_two at n ∙ ap (λ (b : Bool). both (inside at) (both (before at) b)) (rises_reach (at + value_width) (suc n) (suc m) k)
      ∙ more_rise (inside at) (before at) n (reaches (at + value_width) (suc m))
      ∙ ap (leb (suc (suc n))) (sym (reach_two at m))

  -- ---- one value more in front

  module _ (at many : ℕ) (some : 1 ≤ many) (v : Value) (here : v ≡ value_at table at) (is : Bool) (by_value : is ≡ is_in_upper_half most_conductors v) where
    told : is ≡ inside at
    told = by_value ∙ ap (is_in_upper_half most_conductors) here

    pub reach_outside : not is ≡ true → 0 ≡ reach most_conductors (values_from table at many)
    reach_outside e = outside many some (sym told ∙ not-true is e)
      where
        outside : (n : ℕ) → 1 ≤ n → inside at ≡ false → 0 ≡ reaches at n
        outside zero h f = absurd (not-suc-le-zero h)
        outside (suc zero) h f = sym (reach_one at ∙ if_false _ _ f)
        outside (suc (suc n)) h f = sym (reach_two at n ∙ if_false _ _ f)

    module _ (e : not is ≡ false) where
      pub reach_last : many ≡ 1 → 1 ≡ reach most_conductors (values_from table at many)
      reach_last one = rw one (sym (reach_one at ∙ if_true _ _ (sym told ∙ not-false is e)))

      module _ (more : many ≡ 1 → ⊥) (w : Value) (there : w ≡ value_at table (at + value_width)) (comes : Bool) (by_values : comes ≡ comes_before v w) where
        is_before_lem : comes ≡ before at
        is_before_lem = by_values ∙ (λ j. comes_before (here j) (there j))

        pub reach_stops : not comes ≡ true → 1 ≡ reach most_conductors (values_from table at many)
        reach_stops f = stops many some more
          where
            stops : (n : ℕ) → 1 ≤ n → (n ≡ 1 → ⊥) → 1 ≡ reaches at n
            stops zero h k = absurd (not-suc-le-zero h)
            stops (suc zero) h k = absurd (k refl)
            stops (suc (suc n)) h k = sym (reach_two at n ∙ if_true _ _ (sym told ∙ not-false is e) ∙ if_false _ _ (sym is_before_lem ∙ not-true comes f))

        pub reach_goes : not comes ≡ false → (behind : ℕ) → behind ≡ reach most_conductors (values_from table (at + value_width) (many - 1)) → behind + 1 ≡ reach most_conductors (values_from table at many)
        reach_goes f behind known = goes many some more known
          where
            goes : (n : ℕ) → 1 ≤ n → (n ≡ 1 → ⊥) → behind ≡ reaches (at + value_width) (n - 1) → behind + 1 ≡ reaches at n
            goes zero h k j = absurd (not-suc-le-zero h)
            goes (suc zero) h k j = absurd (k refl)
            goes (suc (suc n)) h k j =
                let l : suc (suc n) - 1 ≡ suc n = omega arith in
                let m : behind ≡ reaches (at + value_width) (suc n) = j ∙ ap (reaches (at + value_width)) l in
                let p : behind + 1 ≡ suc behind = omega arith in
                p ∙ ap suc m ∙ sym (reach_two at n ∙ if_true _ _ (sym told ∙ not-false is e) ∙ if_true _ _ (sym is_before_lem ∙ not-false comes f))

  pub behind_fits : (at many behind : ℕ) → 1 ≤ many → at + value_width * many ≤ length table → length table * 8 < 2 ^ 63 → behind ≡ reach most_conductors (values_from table (at + value_width) (many - 1)) → Fits w64 (behind + 1)
  behind_fits at many behind some room h known =
      let f : behind ≤ many - 1 = rw known (reach_few (at + value_width) (many - 1)) in
      omega arith

reach_is : (table : List ℕ) (from count i : ℕ) → reach_at table from count i ≡ reach most_conductors (values_from table (from + value_width * i) (count - i))
unfolding reach_at
reach_is table from count i = refl

none_behind : (table : List ℕ) (from count : ℕ) → 0 ≡ reach_at table from count count
none_behind table from count =
    let z : count - count ≡ 0 = omega arith in
    sym (reach_is table from count count ∙ ap (λ (n : ℕ). reach most_conductors (values_from table (from + value_width * count) n)) z ∙ no_reach table (from + value_width * count))

-- ---- the reach of every 64th value, found from the last value to the first

pub record Found (table : List ℕ) (from count : ℕ) (blocks : List ℕ) (reached i : ℕ) : Type 0 where
  pub most : i ≤ count
  pub long : length blocks ≡ most_blocks
  pub here : reached ≡ reach_at table from count i
  pub told : (block : ℕ) → i ≤ block_values * block → block_values * block < count → get_or blocks block 0 ≡ reach_at table from count (block_values * block)

module _ (table : List ℕ) (from count : ℕ) (blocks : List ℕ) where
  pub found_starts : length blocks ≡ most_blocks → Found table from count blocks 0 count
  found_starts long =
      record { most = le_refl count; long = long; here = nothing; told = λ (block : ℕ) (h : count ≤ block_values * block) (k : block_values * block < count). absurd (omega arith) }
    where
      nothing : 0 ≡ reach_at table from count count
      nothing = none_behind table from count

  module _ (reached i : ℕ) (found : Found table from count blocks reached i) where
    pub found_ends : i ≤ 0 → Reaches table from count blocks
    found_ends h = record { long = found.long; told = λ (block : ℕ) (k : block_values * block < count). found.told block (omega arith) k }

    module _ (h : 0 < i) where
      found_behind : reached ≡ reach most_conductors (values_from table (from + value_width * (i - 1) + value_width) (count - (i - 1) - 1))
      found_behind =
          let a : from + value_width * i ≡ from + value_width * (i - 1) + value_width = omega arith in
          let m : i ≤ count = found.most in
          let n : count - i ≡ count - (i - 1) - 1 = omega arith in
          found.here ∙ reach_is table from count i ∙ (λ j. reach most_conductors (values_from table (a j) (n j)))

      pub found_ready :
          from + value_width * count ≤ length table →
          (from + value_width * (i - 1) + value_width * (count - (i - 1)) ≤ length table) × (1 ≤ count - (i - 1)) × (reached ≡ reach most_conductors (values_from table (from + value_width * (i - 1) + value_width) (count - (i - 1) - 1)))
      found_ready room =
          let m : i ≤ count = found.most in
          (omega arith, omega arith, found_behind)

      pub found_on : count ≤ most_values → (next : ℕ) → next ≡ reach most_conductors (values_from table (from + value_width * (i - 1)) (count - (i - 1))) → Found table from count (set blocks ((i - 1) / block_values) next) next (i - 1)
      found_on few next is =
          record {
            most = omega (arith, found.most);
            long = length-set blocks ((i - 1) / block_values) next ∙ found.long;
            here = is_next;
            told = λ (block : ℕ) (k : i - 1 ≤ block_values * block) (l : block_values * block < count). by_cases _ (eqb block ((i - 1) / block_values)) (stored block k l) (kept block k l);
          }
        where
          is_next : next ≡ reach_at table from count (i - 1)
          is_next = is ∙ sym (reach_is table from count (i - 1))

          stored : (block : ℕ) → i - 1 ≤ block_values * block → block_values * block < count → eqb block ((i - 1) / block_values) ≡ true → get_or (set blocks ((i - 1) / block_values) next) block 0 ≡ reach_at table from count (block_values * block)
          stored block k l e =
              let b : block ≡ (i - 1) / block_values = eqb-true block ((i - 1) / block_values) e in
              let n : i - 1 ≡ block_values * block = omega arith in
              let g : length blocks ≡ most_blocks = found.long in
              let m : i ≤ count = found.most in
              let s : (i - 1) / block_values < length blocks = omega arith in
              ap (λ (p : ℕ). get_or (set blocks ((i - 1) / block_values) next) p 0) b ∙ get_or-set_same blocks ((i - 1) / block_values) next 0 s ∙ is_next ∙ ap (reach_at table from count) n

          kept : (block : ℕ) → i - 1 ≤ block_values * block → block_values * block < count → eqb block ((i - 1) / block_values) ≡ false → get_or (set blocks ((i - 1) / block_values) next) block 0 ≡ reach_at table from count (block_values * block)
          kept block k l e =
              let b : block ≡ (i - 1) / block_values → ⊥ = eqb-false block ((i - 1) / block_values) e in
              let n : i ≤ block_values * block = omega arith in
              get_or-set_other blocks ((i - 1) / block_values) block next 0 b ∙ found.told block n l

-- ---- a matrix's values: one by one to the next 64th

module _ (table blocks : List ℕ) (base count first many i : ℕ) (left : RiseLeft table (base + value_width * first) many i) (h : i < many) (inside : first + many ≤ count) where
  pub rise_known : Reaches table base count blocks → (first + i) % block_values ≡ 0 → leb (many - i) (get_or blocks ((first + i) / block_values) 0) ≡ rises most_conductors (values_from table (base + value_width * first) many)
  rise_known known even =
      let e : block_values * ((first + i) / block_values) ≡ first + i = omega arith in
      let l : block_values * ((first + i) / block_values) < count = omega arith in
      let a : base + value_width * (first + i) ≡ base + value_width * first + value_width * i = omega arith in
      let n : many - i ≤ count - (first + i) = omega arith in
      let b : get_or blocks ((first + i) / block_values) 0 ≡ reach most_conductors (values_from table (base + value_width * first + value_width * i) (count - (first + i))) =
      known.told ((first + i) / block_values) l ∙ ap (reach_at table base count) e ∙ reach_is table base count (first + i)
      ∙ ap (λ (q : ℕ). reach most_conductors (values_from table q (count - (first + i)))) a in
      ap (leb (many - i)) b ∙ sym (rises_reach table (base + value_width * first + value_width * i) (many - i) (count - (first + i)) n) ∙ left.same
