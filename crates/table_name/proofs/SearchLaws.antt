-- Laws of the bytes of a name, and of the loop that searches for the first record of a name.
-- Assumes nothing.
use mathlib.Core.Path.{◌≡◌, sym, ◌∙◌, ap}
use mathlib.Core.Bool.{Bool, true, false}
use mathlib.Core.List.{List, [], ◌∷◌}
use Prim.Native.Nat.{ℕ, suc, ◌+◌, ◌-◌, ◌*◌, ◌^◌, ◌≤◌, ◌<◌}
use native.Mathlib.Nat.{add-zero, zero-add, mul-zero, mul-suc, sub-zero, mul-le-mul_left}
use native.Mathlib.Numerals.{add-one}
use native.Mathlib.Omega.{arith}
use mir.Syntax.{w64}
use mir.Val.{Fits}
use lib.ListN.{length, take, drop, length-drop, drop_of_length-le}
use lib.Seq.{take_all, take-nil, drop-drop}
use borrow.Author.Tests.{le-leb, lt-leb}
use Rattle.base.specs.Runs.{same}
use Rattle.base.proofs.IfLaws.{if_true, if_false, both_rest, both_not_left}
use Rattle.table_layout.specs.Layout.{chopped}
use Rattle.table_record.specs.Way.Standing.{name_record_at, name_width}
use Rattle.table_record.specs.declared.NameRecord.{NameRecord}
use Rattle.table_record.proofs.RecordLaws.{name_here}
use Rattle.doc.specs.Records.{index_of}
use Rattle.table_name.specs.Name.{name_at}
use Rattle.table_name.specs.Way.Search.{has_name, is_named, find_in}

-- ---- the bytes of a name

module _ (t : List ℕ) (start size : ℕ) where
  pub name_none : length t ≤ start → [] ≡ name_at t start size
  unfolding name_at
  name_none h = rw (drop_of_length-le t h) (sym (take-nil size))

  -- as far as the text goes
  pub name_cut : length t - start ≤ size → take (length t - start) (drop start t) ≡ name_at t start size
  unfolding name_at
  name_cut h =
      let l : length (drop start t) ≡ length t - start = length-drop start t in
      take_all (length t - start) (drop start t) (omega arith) ∙ sym (take_all size (drop start t) (omega arith))

  pub name_whole : take (start + size - start) (drop start t) ≡ name_at t start size
  unfolding name_at
  name_whole =
      let e : start + size - start ≡ size = omega arith in
      rw e

-- ---- the name of a record

module _ (t name : List ℕ) (after : ℕ) (r : NameRecord) where
  pub name_before : r.start < after → false ≡ has_name t name after r
  unfolding has_name
  name_before l = sym (both_not_left _ _ (lt-leb _ _ l))

  pub name_told : after ≤ r.start → (is : Bool) → is ≡ same name (name_at t r.start r.size) → is ≡ has_name t name after r
  unfolding has_name
  name_told l is e = e ∙ sym (both_rest _ _ (le-leb _ _ l))

-- ---- the search

-- the record at position `at`
abbrev record_at : List ℕ → ℕ → ℕ → List ℕ
record_at table width at = take width (drop at table)

-- the index of the record among those that are left after i records
abbrev found_in : List ℕ → List ℕ → ℕ → ℕ → List ℕ → ℕ → ℕ → ℕ → ℕ
found_in t table width count name after i at = index_of (is_named t name after) (chopped width (count - i) (drop at table))

-- none of the first i records is it
pub record Searching (t table : List ℕ) (base width count : ℕ) (name : List ℕ) (after i : ℕ) : Type 0 where
  pub within : i ≤ count
  pub same : i + found_in t table width count name after i (base + width * i) ≡ find_in t table base width count name after

module _ (t table : List ℕ) (base width count : ℕ) (name : List ℕ) (after : ℕ) where
  pub search_starts : Searching t table base width count name after 0
  unfolding find_in
  search_starts =
      let place : base + width * 0 ≡ base = rw (mul-zero width) (add-zero base) in
      record {
        within = omega arith;
        same = rw (sub-zero count, place) (zero-add (index_of (is_named t name after) (chopped width count (drop base table))));
      }

  module _ (i : ℕ) (s : Searching t table base width count name after i) where
    pub search_ends : count ≤ i → count ≡ find_in t table base width count name after
    unfolding chopped index_of
    search_ends h =
        let w : i ≤ count = s.within in
        let e : count - i ≡ 0 = omega arith in
        let z : found_in t table width count name after i (base + width * i) ≡ 0 = rw e in
        let k : i + found_in t table width count name after i (base + width * i) ≡ find_in t table base width count name after =
        s.same in
        omega arith

    module _ (room : base + width * count ≤ length table) (wide : name_width ≤ width) (h : i < count) where
      -- where the next record begins
      next_place : base + width * i + width ≡ base + width * (i + 1)
      next_place =
          let m : width * (i + 1) ≡ width * i + width = rw (add-one i) (mul-suc width i) in
          omega arith

      record_inside : base + width * i + width ≤ length table
      record_inside =
          let m : width * suc i ≤ width * count = mul-le-mul_left width h in
          let k : width * suc i ≡ width * i + width = mul-suc width i in
          omega arith

      pub name_inside : base + width * i + name_width ≤ length table
      name_inside = omega (arith, record_inside)

      pub place_fits : length table * 8 < 2 ^ 63 → Fits w64 (base + width * i)
      place_fits l = omega (arith, record_inside)

      -- the records that are left, the next one taken off
      one_off : chopped width (count - i) (drop (base + width * i) table)
          ≡ record_at table width (base + width * i) ∷ chopped width (count - (i + 1)) (drop (base + width * (i + 1)) table)
      unfolding chopped
      one_off =
          let e : count - i ≡ suc (count - (i + 1)) = omega arith in
          rw (e, ← next_place, ← drop-drop width (base + width * i) table)

      -- the next one
      module _ (own : NameRecord) (here : own ≡ name_record_at table (base + width * i)) (is : Bool) (told : is ≡ has_name t name after own) where
        told_here : is ≡ is_named t name after (record_at table width (base + width * i))
        told_here = told ∙ ap (has_name t name after) (here ∙ sym (name_here table width (base + width * i) wide))

        pub search_finds : is ≡ true → i ≡ find_in t table base width count name after
        unfolding index_of
        search_finds e =
            let z : found_in t table width count name after i (base + width * i) ≡ 0 = rw one_off (if_true _ _ (sym told_here ∙ e)) in
            let k : i + found_in t table width count name after i (base + width * i) ≡ find_in t table base width count name after = s.same in
            omega arith

        pub search_on : is ≡ false → Searching t table base width count name after (i + 1)
        unfolding index_of
        search_on e =
            let z : found_in t table width count name after i (base + width * i) ≡ suc (found_in t table width count name after (i + 1) (base + width * (i + 1))) =
            rw one_off (if_false _ _ (sym told_here ∙ e)) in
            let k : i + found_in t table width count name after i (base + width * i) ≡ find_in t table base width count name after = s.same in
            record { within = omega arith; same = omega arith }
