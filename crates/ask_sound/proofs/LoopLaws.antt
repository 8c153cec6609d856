-- Laws of the loops over records that follow each other: the records that are left give the result of all.
-- Assumes nothing.
use mathlib.Core.Path.{◌≡◌, refl, sym, ◌∙◌, ap}
use mathlib.Core.Bool.{Bool, true, false, not}
use mathlib.Core.List.{List, [], ◌∷◌, map}
use Prim.Native.Nat.{ℕ, zero, suc, ◌+◌, ◌-◌, ◌*◌, ◌≤◌, ◌<◌, zero-le}
use native.Mathlib.Nat.{le_of_suc-le-suc, add-zero, sub-zero, mul-zero, mul-suc, mul-le-mul, le_refl, not-suc-le-zero}
use native.Mathlib.Numerals.{add-one}
use native.Mathlib.Omega.{arith}
use lib.ListN.{length, get_or}
use lib.Dec.{eqb}
use borrow.Author.Tests.{eq-eqb, eqb-true, ltb-true, not-true, not-false}
use Rattle.ask_sound.specs.Way.Judging.{goes_on, is_record, are_records, are_parts, ValueReaches}
use Rattle.table_record.specs.Way.Standing.{places, step_at, value_at, base_of, count_of, places_of, Rooms, kinds_from, values_from}
use Rattle.table_record.specs.declared.StepRecord.{StepRecord}
use Rattle.table_record.specs.declared.Value.{Value}
use Rattle.table_layout.specs.Codes.{fork_kind, endfork_kind}
use Rattle.base.specs.If.{provided◌then◌else◌, both}
use Rattle.base.proofs.IfLaws.{if_true, if_false, by_cases, both_true, both_first, both_second, both_rest, both_not_left}
use Rattle.std.specs.Prelude.{IsTrue, ◌↔◌}
use Rattle.std.specs.List.{All}
use Rattle.table_layout.specs.Layout.{widths, part_count, step_width, value_width}
use Rattle.table_layout.specs.Bounds.{deepest, most_conductors}
use Rattle.table_layout.specs.declared.View.{View}
use Rattle.doc.specs.Holds.{is_in_upper_half, comes_before, rises}
use Rattle.ask_sound.specs.Sound.{every, depth_stays, depth_after, depth_holds, are_zeros}

-- a loop's invariant: after i of `many` records of w words, the rest gives the result of all
pub record Left {A : Type 0} (w from many : ℕ) (over : ℕ → ℕ → A) (whole : A) (i : ℕ) : Type 0 where
  pub most : i ≤ many
  pub same : over (from + w * i) (many - i) ≡ whole

left_starts : {A : Type 0} (w from many : ℕ) (over : ℕ → ℕ → A) → Left w from many over (over from many) 0
left_starts w from many over =
    let p : from + w * 0 ≡ from = rw (mul-zero w) (add-zero from) in
    record { most = zero-le; same = λ i. over (p i) (sub-zero many i) }

module _ {A : Type 0} (w from many : ℕ) (over : ℕ → ℕ → A) (whole : A) (i : ℕ) (left : Left w from many over whole i) where
  abbrev next : ℕ
  next = from + w * i

  left_ends : many ≤ i → over next zero ≡ whole
  left_ends h =
      let e : many - i ≡ 0 = omega arith in
      rw e at left.same

  module _ (h : i < many) where
    left_here : over next (suc (many - (i + 1))) ≡ whole
    left_here =
        let e : many - i ≡ suc (many - (i + 1)) = omega arith in
        rw e at left.same

    left_on : (test : ℕ → ℕ → A) → test (next + w) (many - (i + 1)) ≡ whole → Left w from many test whole (i + 1)
    left_on test e =
        let m : w * (i + 1) ≡ w * i + w = rw (add-one i) (mul-suc w i) in
        let p : from + w * (i + 1) ≡ next + w = omega arith in
        record { most = omega arith; same = ap (λ (n : ℕ). test n (many - (i + 1))) p ∙ e }

-- ---- the depth along a model's steps

-- none is open, so none can be closed
pub none_closed : (d : ℕ) → d ≡ 0 → 0 ≡ d - 1
none_closed d e = omega arith

-- the depth never exceeds the deepest
pub stays_within : (d kind : ℕ) → d ≤ deepest → depth_stays d kind ≡ true → depth_after d kind ≤ deepest
unfolding depth_stays depth_after
stays_within d kind h e = by_cases _ (eqb kind fork_kind) fork other
  where
    fork : eqb kind fork_kind ≡ true → depth_after d kind ≤ deepest
    fork f =
        let l : d < deepest = ltb-true d deepest (sym (if_true _ _ f) ∙ e) in
        let k : d + 1 ≤ deepest = omega arith in
        rw (if_true {b = eqb kind fork_kind} (d + 1) (provided eqb kind endfork_kind then d - 1 else d) f) k

    other : eqb kind fork_kind ≡ false → depth_after d kind ≤ deepest
    other f = rw (if_false {b = eqb kind fork_kind} (d + 1) (provided eqb kind endfork_kind then d - 1 else d) f) (by_cases _ (eqb kind endfork_kind) closes stays)
      where
        closes : eqb kind endfork_kind ≡ true → (provided eqb kind endfork_kind then d - 1 else d) ≤ deepest
        closes g =
            let k : d - 1 ≤ deepest = omega arith in
            rw (if_true {b = eqb kind endfork_kind} (d - 1) d g) k

        stays : eqb kind endfork_kind ≡ false → (provided eqb kind endfork_kind then d - 1 else d) ≤ deepest
        stays g = rw (if_false {b = eqb kind endfork_kind} (d - 1) d g) h

nothing_left : (d : ℕ) (table : List ℕ) (at : ℕ) → eqb d 0 ≡ depth_holds d (kinds_from table at zero)
unfolding depth_holds kinds_from places
nothing_left d table at = refl

depth_cons :
    (d : ℕ) (table : List ℕ) (at n : ℕ) →
    depth_holds d (kinds_from table at (suc n)) ≡ both (depth_stays d (step_at table at).kind) (depth_holds (depth_after d (step_at table at).kind) (kinds_from table (at + step_width) n))
unfolding depth_holds kinds_from places
depth_cons d table at n = refl

pub record DepthLeft (table : List ℕ) (from many depth i : ℕ) : Type 0 where
  pub deep : depth ≤ deepest
  pub most : i ≤ many
  pub same : depth_holds depth (kinds_from table (from + step_width * i) (many - i)) ≡ depth_holds 0 (kinds_from table from many)

pub depth_starts : (table : List ℕ) (from many : ℕ) → DepthLeft table from many 0 0
depth_starts table from many =
    let l = left_starts step_width from many (λ (p n : ℕ). depth_holds 0 (kinds_from table p n)) in
    record { deep = zero-le; most = zero-le; same = l.same }

module _ (table : List ℕ) (from many depth i : ℕ) (left : DepthLeft table from many depth i) where
  abbrev step_place : ℕ
  step_place = from + step_width * i

  depth_left : Left step_width from many (λ (p n : ℕ). depth_holds depth (kinds_from table p n)) (depth_holds 0 (kinds_from table from many)) i
  depth_left = record { most = left.most; same = left.same }

  pub depth_ends : many ≤ i → eqb depth 0 ≡ depth_holds 0 (kinds_from table from many)
  depth_ends h = nothing_left depth table step_place ∙ left_ends step_width from many _ _ i depth_left h

  module _ (h : i < many) (s : StepRecord) (here : s ≡ step_at table step_place) (stays : Bool) (by_step : stays ≡ depth_stays depth s.kind) where
    told : stays ≡ depth_stays depth (step_at table step_place).kind
    told = by_step ∙ ap (λ (x : StepRecord). depth_stays depth x.kind) here

    pub depth_refused : not stays ≡ true → false ≡ depth_holds 0 (kinds_from table from many)
    depth_refused e =
        sym (both_not_left _ _ (sym told ∙ not-true stays e)) ∙ sym (depth_cons depth table step_place (many - (i + 1))) ∙ left_here step_width from many _ _ i depth_left h

    pub depth_on : not stays ≡ false → (after : ℕ) → after ≡ depth_after depth s.kind → DepthLeft table from many after (i + 1)
    depth_on e after is = rw (is ∙ ap (λ (x : StepRecord). depth_after depth x.kind) here) on
      where
        kept : depth_stays depth (step_at table step_place).kind ≡ true
        kept = sym told ∙ not-false stays e

        goes : depth_holds (depth_after depth (step_at table step_place).kind) (kinds_from table (step_place + step_width) (many - (i + 1))) ≡ depth_holds 0 (kinds_from table from many)
        goes = sym (both_rest _ _ kept) ∙ sym (depth_cons depth table step_place (many - (i + 1))) ∙ left_here step_width from many _ _ i depth_left h

        next : Left step_width from many (λ (p n : ℕ). depth_holds (depth_after depth (step_at table step_place).kind) (kinds_from table p n)) (depth_holds 0 (kinds_from table from many)) (i + 1)
        next = left_on step_width from many _ _ i depth_left h _ goes

        on : DepthLeft table from many (depth_after depth (step_at table step_place).kind) (i + 1)
        on = record { deep = stays_within depth (step_at table step_place).kind left.deep kept; most = next.most; same = next.same }

-- ---- the values of a matrix

rises_cons : (n : ℕ) (v : Value) (vs : List Value) → rises n (v ∷ vs) ≡ both (goes_on n (v ∷ vs)) (rises n vs)
unfolding rises goes_on both
rises_cons n v [] = both_last (is_in_upper_half n v)
  where
    both_last : (b : Bool) → b ≡ both b true
    both_last true = refl
    both_last false = refl
rises_cons n v (w ∷ vs) = both_first (is_in_upper_half n v) (comes_before v w) (rises n (w ∷ vs))
  where
    both_first : (a b c : Bool) → both a (both b c) ≡ both (both a b) c
    both_first true b c = refl
    both_first false b c = refl

values_cons :
    (table : List ℕ) (at n : ℕ) →
    rises most_conductors (values_from table at (suc n)) ≡ both (goes_on most_conductors (values_from table at (suc n))) (rises most_conductors (values_from table (at + value_width) n))
unfolding values_from places
values_cons table at n = rises_cons most_conductors (value_at table at) (map (value_at table) (places value_width (at + value_width) n))

pub no_values : (table : List ℕ) (at : ℕ) → true ≡ rises most_conductors (values_from table at zero)
unfolding values_from places rises
no_values table at = refl

goes_one : (table : List ℕ) (at : ℕ) → goes_on most_conductors (values_from table at (suc zero)) ≡ is_in_upper_half most_conductors (value_at table at)
unfolding values_from places goes_on
goes_one table at = refl

goes_two :
    (table : List ℕ) (at n : ℕ) →
    goes_on most_conductors (values_from table at (suc (suc n))) ≡ both (is_in_upper_half most_conductors (value_at table at)) (comes_before (value_at table at) (value_at table (at + value_width)))
unfolding values_from places goes_on
goes_two table at n = refl

module _ (table : List ℕ) (at many : ℕ) (some : 1 ≤ many) (v : Value) (here : v ≡ value_at table at) (inside : Bool) (by_value : inside ≡ is_in_upper_half most_conductors v) where
  told_inside : inside ≡ is_in_upper_half most_conductors (value_at table at)
  told_inside = by_value ∙ ap (is_in_upper_half most_conductors) here

  pub goes_outside : not inside ≡ true → false ≡ goes_on most_conductors (values_from table at many)
  goes_outside e = outside many some (sym told_inside ∙ not-true inside e)
    where
      outside : (n : ℕ) → 1 ≤ n → is_in_upper_half most_conductors (value_at table at) ≡ false → false ≡ goes_on most_conductors (values_from table at n)
      outside zero h f = absurd (not-suc-le-zero h)
      outside (suc zero) h f = sym (goes_one table at ∙ f)
      outside (suc (suc n)) h f = sym (goes_two table at n ∙ both_not_left _ _ f)

  module _ (e : not inside ≡ false) where
    pub goes_last : many ≡ 1 → true ≡ goes_on most_conductors (values_from table at many)
    goes_last one = rw one (sym (goes_one table at ∙ sym told_inside ∙ not-false inside e))

    pub goes_before : (many ≡ 1 → ⊥) → (w : Value) → w ≡ value_at table (at + value_width) → (before : Bool) → before ≡ comes_before v w → before ≡ goes_on most_conductors (values_from table at many)
    goes_before more w there before is = next many some more
      where
        next : (n : ℕ) → 1 ≤ n → (n ≡ 1 → ⊥) → before ≡ goes_on most_conductors (values_from table at n)
        next zero h k = absurd (not-suc-le-zero h)
        next (suc zero) h k = absurd (k refl)
        next (suc (suc n)) h k = is ∙ (λ j. comes_before (here j) (there j)) ∙ sym (goes_two table at n ∙ both_rest _ _ (sym told_inside ∙ not-false inside e))

abbrev pub RiseLeft : List ℕ → ℕ → ℕ → ℕ → Type 0
RiseLeft table from many i = Left value_width from many (λ (p n : ℕ). rises most_conductors (values_from table p n)) (rises most_conductors (values_from table from many)) i

pub rise_starts : (table : List ℕ) (from many : ℕ) → RiseLeft table from many 0
rise_starts table from many = left_starts value_width from many (λ (p n : ℕ). rises most_conductors (values_from table p n))

module _ (table : List ℕ) (from many i : ℕ) (left : RiseLeft table from many i) where
  abbrev value_place : ℕ
  value_place = from + value_width * i

  pub rise_ends : many ≤ i → true ≡ rises most_conductors (values_from table from many)
  rise_ends h = no_values table value_place ∙ left_ends value_width from many _ _ i left h

  module _ (h : i < many) (goes : Bool) (told : goes ≡ goes_on most_conductors (values_from table value_place (many - i))) where
    goes_here : goes ≡ goes_on most_conductors (values_from table value_place (suc (many - (i + 1))))
    goes_here =
        let e : many - i ≡ suc (many - (i + 1)) = omega arith in
        rw e at told

    pub rise_refused : not goes ≡ true → false ≡ rises most_conductors (values_from table from many)
    rise_refused e = sym (both_not_left _ _ (sym goes_here ∙ not-true goes e)) ∙ sym (values_cons table value_place (many - (i + 1))) ∙ left_here value_width from many _ _ i left h

    pub rise_on : not goes ≡ false → RiseLeft table from many (i + 1)
    rise_on e = left_on value_width from many _ _ i left h _ (sym (both_rest _ _ (sym goes_here ∙ not-false goes e)) ∙ sym (values_cons table value_place (many - (i + 1))) ∙ left_here value_width from many _ _ i left h)

-- ---- the records of a part

-- the loop's invariant: after i records, the test of the rest gives the test of all
pub record PartLeft (bytes : ℕ) (table : List ℕ) (v : View) (part i : ℕ) : Type 0 where
  pub most : i ≤ count_of v part
  pub same : every (is_record bytes table v part) (places (get_or widths part 0) (base_of v part + get_or widths part 0 * i) (count_of v part - i)) ≡ are_records bytes table v part

module _ (bytes : ℕ) (table : List ℕ) (v : View) (part : ℕ) where
  abbrev test : ℕ → Bool
  test = is_record bytes table v part

  abbrev width : ℕ
  width = get_or widths part 0

  none_left : (at : ℕ) → true ≡ every test (places width at zero)
  unfolding every places
  none_left at = refl

  one_more : (at n : ℕ) → every test (places width at (suc n)) ≡ both (test at) (every test (places width (at + width) n))
  unfolding every places
  one_more at n = refl

  pub part_starts : PartLeft bytes table v part 0
  unfolding are_records places_of
  part_starts =
      let l : Left width (base_of v part) (count_of v part) (λ (p n : ℕ). every test (places width p n)) (are_records bytes table v part) 0 =
      left_starts width (base_of v part) (count_of v part) (λ (p n : ℕ). every test (places width p n)) in
      record { most = l.most; same = l.same }

  module _ (i : ℕ) (left : PartLeft bytes table v part i) where
    abbrev record_place : ℕ
    record_place = base_of v part + width * i

    part_left : Left width (base_of v part) (count_of v part) (λ (p n : ℕ). every test (places width p n)) (are_records bytes table v part) i
    part_left = record { most = left.most; same = left.same }

    pub part_ends : count_of v part ≤ i → true ≡ are_records bytes table v part
    part_ends h = none_left record_place ∙ left_ends width (base_of v part) (count_of v part) _ _ i part_left h

    -- the current record lies inside the table
    module _ (rooms : Rooms table v) (p : part < part_count) (h : i < count_of v part) where
      reaches : record_place + width ≤ length table
      reaches =
          let m : width * suc i ≤ width * count_of v part = mul-le-mul (le_refl width) h in
          let s : width * suc i ≡ width * i + width = mul-suc width i in
          let r : base_of v part + width * count_of v part ≤ length table = rooms.room part p in
          omega arith

      pub record_room : (blocks : List ℕ) → ValueReaches table v blocks → Rooms table v × ValueReaches table v blocks × (part < part_count) × (record_place + width ≤ length table)
      record_room blocks known = (rooms, known, p, reaches)

    module _ (h : i < count_of v part) (sound : Bool) (told : sound ≡ is_record bytes table v part record_place) where
      part_here : both (test record_place) (every test (places width (record_place + width) (count_of v part - (i + 1)))) ≡ are_records bytes table v part
      part_here = sym (one_more record_place (count_of v part - (i + 1))) ∙ left_here width (base_of v part) (count_of v part) _ _ i part_left h

      pub part_refused : not sound ≡ true → false ≡ are_records bytes table v part
      part_refused e = sym (both_not_left _ _ (sym told ∙ not-true sound e)) ∙ part_here

      pub part_on : not sound ≡ false → PartLeft bytes table v part (i + 1)
      part_on e =
          let l : Left width (base_of v part) (count_of v part) (λ (p n : ℕ). every test (places width p n)) (are_records bytes table v part) (i + 1) =
          left_on width (base_of v part) (count_of v part) _ _ i part_left h _ (sym (both_rest _ _ (sym told ∙ not-false sound e)) ∙ part_here) in
          record { most = l.most; same = l.same }

-- ---- the parts

pub record PartsLeft (bytes : ℕ) (table : List ℕ) (v : View) (part : ℕ) : Type 0 where
  pub most : part ≤ part_count
  pub same : are_parts bytes table v part (part_count - part) ≡ are_parts bytes table v 0 part_count

none_of : (bytes : ℕ) (table : List ℕ) (v : View) (part : ℕ) → true ≡ are_parts bytes table v part zero
unfolding are_parts
none_of bytes table v part = refl

parts_cons :
    (bytes : ℕ) (table : List ℕ) (v : View) (part n : ℕ) →
    are_parts bytes table v part (suc n) ≡ both (are_records bytes table v part) (are_parts bytes table v (part + 1) n)
unfolding are_parts
parts_cons bytes table v part n = refl

module _ (bytes : ℕ) (table : List ℕ) (v : View) where
  pub parts_start : PartsLeft bytes table v 0
  parts_start = record { most = zero-le; same = refl }

  module _ (part : ℕ) (left : PartsLeft bytes table v part) where
    pub parts_end : part_count ≤ part → true ≡ are_parts bytes table v 0 part_count
    parts_end h =
        let e : part_count - part ≡ 0 = omega arith in
        no_parts ∙ ap (are_parts bytes table v part) (sym e) ∙ left.same
      where
        no_parts : true ≡ are_parts bytes table v part zero
        no_parts = none_of bytes table v part

    module _ (h : part < part_count) (sound : Bool) (told : sound ≡ are_records bytes table v part) where
      parts_here : both (are_records bytes table v part) (are_parts bytes table v (part + 1) (part_count - (part + 1))) ≡ are_parts bytes table v 0 part_count
      parts_here =
          let e : part_count - part ≡ suc (part_count - (part + 1)) = omega arith in
          sym (parts_cons bytes table v part (part_count - (part + 1))) ∙ ap (are_parts bytes table v part) (sym e) ∙ left.same

      pub parts_refused : not sound ≡ true → false ≡ are_parts bytes table v 0 part_count
      parts_refused e = sym (both_not_left _ _ (sym told ∙ not-true sound e)) ∙ parts_here

      pub parts_on : not sound ≡ false → PartsLeft bytes table v (part + 1)
      parts_on e = record { most = omega arith; same = sym (both_rest _ _ (sym told ∙ not-false sound e)) ∙ parts_here }

-- ---- the words after the last part

zeros_all : (ws : List ℕ) → All (λ w. w ≡ 0) ws → are_zeros ws ≡ true
unfolding are_zeros every
zeros_all [] h = refl
zeros_all (w ∷ ws) h = both_true _ _ (eq-eqb w 0 (h 0 0 (omega arith))) (zeros_all ws (λ k d (l : k < length ws). h (suc k) d (omega arith)))

all_zeros : (ws : List ℕ) → are_zeros ws ≡ true → All (λ w. w ≡ 0) ws
unfolding are_zeros every
all_zeros [] e k d l = absurd (not-suc-le-zero l)
all_zeros (w ∷ ws) e zero d l = eqb-true w 0 (both_first _ _ e)
all_zeros (w ∷ ws) e (suc k) d l = all_zeros ws (both_second _ _ e) k d (le_of_suc-le-suc l)

pub zeros_told : (zeros : Bool) (ws : List ℕ) → (IsTrue zeros ↔ All (λ w. w ≡ 0) ws) → zeros ≡ are_zeros ws
zeros_told true ws h = sym (zeros_all ws (h.0 refl))
zeros_told false ws h = by_cases _ (are_zeros ws) (λ (e : are_zeros ws ≡ true). h.1 (all_zeros ws e) ∙ sym e) (λ (e : are_zeros ws ≡ false). sym e)
