-- The third demand, its entries: accepted texts whose documents are the same except for lines, offsets and the forms of
-- matrices give the same entries.
-- Assumes nothing.
use Prim.Native.Nat.{ℕ, zero, suc, ◌+◌, ◌≤◌, ◌<◌, min, max}
use mathlib.Core.Path.{◌≡◌, refl, sym, ◌∙◌, ap}
use mathlib.Core.Bool.{true, false}
use mathlib.Core.List.{List, [], ◌∷◌, ◌++◌}
use native.Mathlib.Omega.{arith}
use lib.ListN.{length, get_or}
use lib.Dec.{ltb, eqb}
use borrow.Author.Tests.{ltb-true, leb-true, eqb-true, eqb-false}
use Rattle.table_record.specs.Records.{no_section}
use Rattle.table_record.specs.declared.SectionRecord.{SectionRecord}
use Rattle.base.specs.If.{both}
use Rattle.base.specs.Bytes.{within}
use Rattle.base.proofs.IfLaws.{by_cases, both_first, both_second}
use Rattle.doc.specs.Document.{Matrix, Section, Document, document_of, conductors_of}
use Rattle.doc.specs.Records.{section_record, section_records, flatten}
use Rattle.doc.specs.Holds.{Each}
use Rattle.doc.proofs.MatrixLaws.{RightMatrix}
use Rattle.doc.proofs.SectionLaws.{RightSection, text_sections}
use Rattle.cross_rules.proofs.RisingLaws.{each_at}
use Rattle.law_demands.proofs.AcceptedLaws as accepted
use Rattle.ask_entry.specs.Entry.{found_with, matrix_index, entry_of, is_in_range, entry_from, entry_answer}
use Rattle.law_alike.specs.Way.Same.{All2, SameMatrix, SameSection, SameDocument}
use Rattle.law_third.specs.Third.{AcceptedTable}
use Rattle.law_third.proofs.EntryRecordLaws.{given_at, given_here, given_later, flat_sections, section_given, section_conductors_lem}
use Rattle.law_third.proofs.EntryLaws.{answer_over, over_inside, over_outside, least, ordered, greatest}
use Rattle.doc.proofs.CountLaws.{sections_long_lem}
use Rattle.law_third.proofs.TakenLaws.{taken_passed}

-- ---- matrices and sections at the same index

all_long : {A B : Type 0} {Rel : A → B → Type 0} {xs : List A} {ys : List B} → All2 Rel xs ys → length xs ≡ length ys
all_long All2.none = refl
all_long (All2.more h hs) = ap suc (all_long hs)

conductors_same : {ms ns : List Matrix} → All2 SameMatrix ms ns → conductors_of ms ≡ conductors_of ns
conductors_same All2.none = refl
conductors_same (All2.more h hs) = h.conductors

-- the same number at every row and column of matrices of n conductors
module _ (kind i j n : ℕ) (low : 1 ≤ i) (le : i ≤ j) (high : j ≤ n) where
  given_first :
      (m m' : Matrix) (ms ns : List Matrix) → RightMatrix n m → SameMatrix m m' → given_at kind i j ms ≡ given_at kind i j ns →
      given_at kind i j (m ∷ ms) ≡ given_at kind i j (m' ∷ ns)
  given_first m m' ms ns right same later =
      by_cases (given_at kind i j (m ∷ ms) ≡ given_at kind i j (m' ∷ ns)) (eqb m.kind kind)
      (λ (e : eqb m.kind kind ≡ true).
      let c : m.conductors ≡ n = right.conductors in
      let k : j ≤ m.conductors = omega arith in
      given_here kind i j m ms (eqb-true _ _ e) ∙ same.numbers i j low le k
      ∙ sym (given_here kind i j m' ns (sym same.kind ∙ eqb-true _ _ e)))
      (λ (e : eqb m.kind kind ≡ false).
      given_later kind i j m ms (eqb-false _ _ e) ∙ later
      ∙ sym (given_later kind i j m' ns (λ (f : m'.kind ≡ kind). eqb-false _ _ e (same.kind ∙ f))))

  given_same : {ms ns : List Matrix} → Each (RightMatrix n) ms → All2 SameMatrix ms ns → given_at kind i j ms ≡ given_at kind i j ns
  given_same Each.none All2.none = refl
  given_same (Each.more r rs) (All2.more {x = m} {y = m'} {xs = ms} {ys = ns} h hs) = given_first m m' ms ns r h (given_same rs hs)

-- the two sections of one index
record Pair (xs ys : List Section) (n : ℕ) : Type 0 where
  before : List Section
  behind : List Section
  one : Section
  above : List Section
  below : List Section
  other : Section
  left : xs ≡ before ++ (one ∷ behind)
  right : ys ≡ above ++ (other ∷ below)
  left_at : length before ≡ n
  right_at : length above ≡ n
  same : SameSection one other

pair_more : (x y : Section) (xs ys : List Section) (n : ℕ) → Pair xs ys n → Pair (x ∷ xs) (y ∷ ys) (suc n)
pair_more x y xs ys n p =
    record {
      before = x ∷ p.before;
      behind = p.behind;
      one = p.one;
      above = y ∷ p.above;
      below = p.below;
      other = p.other;
      left = ap (λ (zs : List Section). x ∷ zs) p.left;
      right = ap (λ (zs : List Section). y ∷ zs) p.right;
      left_at = ap suc p.left_at;
      right_at = ap suc p.right_at;
      same = p.same;
    }

pair_at : {xs ys : List Section} → All2 SameSection xs ys → (n : ℕ) → n < length xs → Pair xs ys n
pair_at All2.none n h = absurd (omega (arith, h))
pair_at (All2.more {x = x} {y = y} {xs = xs} {ys = ys} s ss) zero h =
    record {
      before = [];
      behind = xs;
      one = x;
      above = [];
      below = ys;
      other = y;
      left = refl;
      right = refl;
      left_at = refl;
      right_at = refl;
      same = s;
    }
pair_at (All2.more {x = x} {y = y} {xs = xs} {ys = ys} s ss) (suc n) h =
    let k : n < length xs = omega (arith, h) in
    pair_more x y xs ys n (pair_at ss n k)

-- ---- two documents

-- N by the records, also for an index past the last section
conductors_at_lem :
    (first second : ℕ) {xs ys : List Section} → All2 SameSection xs ys → (n : ℕ) →
    (get_or (section_records first xs) n no_section).conductors ≡ (get_or (section_records second ys) n no_section).conductors
unfolding section_records section_record
conductors_at_lem first second All2.none n = refl
conductors_at_lem first second (All2.more s ss) zero = conductors_same s.matrices
conductors_at_lem first second (All2.more {x = x} {y = y} s ss) (suc n) =
    conductors_at_lem (first + length x.matrices) (second + length y.matrices) ss n

module _ (d e : Document) (same : All2 SameSection d.sections e.sections) (section kind row column : ℕ) where
  many_same : length (flatten d).sections ≡ length (flatten e).sections
  many_same =
      ap length (flat_sections d) ∙ sections_long_lem 0 d.sections ∙ all_long same ∙ sym (sections_long_lem 0 e.sections)
      ∙ ap length (sym (flat_sections e))

  wide_same : (get_or (flatten d).sections section no_section).conductors ≡ (get_or (flatten e).sections section no_section).conductors
  wide_same =
      ap (λ (rs : List SectionRecord). (get_or rs section no_section).conductors) (flat_sections d) ∙ conductors_at_lem 0 0 same section
      ∙ ap (λ (rs : List SectionRecord). (get_or rs section no_section).conductors) (sym (flat_sections e))

  range_same : is_in_range (flatten d) section kind row column ≡ is_in_range (flatten e) section kind row column
  unfolding is_in_range
  range_same =
      λ i. both (ltb section (many_same i)) (both (ltb kind 4) (both (within 1 (wide_same i) row) (within 1 (wide_same i) column)))

  -- in range
  module _ (inside : is_in_range (flatten d) section kind row column ≡ true) where
    section_few : section < length d.sections
    unfolding is_in_range
    section_few =
        let h : section < length (flatten d).sections = ltb-true _ _ (both_first _ _ inside) in
        let n : length (flatten d).sections ≡ length d.sections = ap length (flat_sections d) ∙ sections_long_lem 0 d.sections in
        omega arith

    kind_few : kind < 4
    unfolding is_in_range
    kind_few = ltb-true _ _ (both_first _ _ (both_second _ _ inside))

    abbrev wide : ℕ
    wide = (get_or (flatten d).sections section no_section).conductors

    row_within : within 1 wide row ≡ true
    unfolding is_in_range
    row_within = both_first _ _ (both_second _ _ (both_second _ _ inside))

    column_within : within 1 wide column ≡ true
    unfolding is_in_range
    column_within = both_second _ _ (both_second _ _ (both_second _ _ inside))

    low : (n : ℕ) → within 1 wide n ≡ true → 1 ≤ n
    unfolding within
    low n h = leb-true _ _ (both_first _ _ h)

    high : (n : ℕ) → within 1 wide n ≡ true → n ≤ wide
    unfolding within
    high n h = leb-true _ _ (both_second _ _ h)

    module _ (right : Each RightSection d.sections) (p : Pair d.sections e.sections section) where
      abbrev i : ℕ
      i = min row column

      abbrev j : ℕ
      j = max row column

      one_given :
          entry_of (flatten d) (matrix_index (get_or (flatten d).sections section no_section) kind) row column
          ≡ given_at kind i j p.one.matrices
      one_given =
          ap (λ (n : ℕ). entry_of (flatten d) (matrix_index (get_or (flatten d).sections n no_section) kind) row column) (sym p.left_at)
          ∙ section_given d p.before p.behind p.one p.left kind row column kind_few

      other_given :
          entry_of (flatten e) (matrix_index (get_or (flatten e).sections section no_section) kind) row column
          ≡ given_at kind i j p.other.matrices
      other_given =
          ap (λ (n : ℕ). entry_of (flatten e) (matrix_index (get_or (flatten e).sections n no_section) kind) row column) (sym p.right_at)
          ∙ section_given e p.above p.below p.other p.right kind row column kind_few

      one_wide : wide ≡ conductors_of p.one.matrices
      one_wide =
          ap (λ (n : ℕ). (get_or (flatten d).sections n no_section).conductors) (sym p.left_at)
          ∙ section_conductors_lem d p.before p.behind p.one p.left

      one_right : RightSection p.one
      one_right =
          let all : Each RightSection (p.before ++ (p.one ∷ p.behind)) = rw p.left at right in
          each_at p.before p.behind p.one all

      both_given : given_at kind i j p.one.matrices ≡ given_at kind i j p.other.matrices
      both_given =
          let a : 1 ≤ row = low row row_within in
          let b : row ≤ wide = high row row_within in
          let c : 1 ≤ column = low column column_within in
          let f : column ≤ wide = high column column_within in
          let g : j ≤ wide = greatest row column wide a b c f in
          let h : wide ≡ conductors_of p.one.matrices = one_wide in
          let k : j ≤ conductors_of p.one.matrices = omega arith in
          given_same kind i j (conductors_of p.one.matrices) (least row column wide a b c f) (ordered row column wide a b c f) k
          one_right.matrices p.same.matrices

      found_same : entry_from (flatten d) section kind row column ≡ entry_from (flatten e) section kind row column
      found_same =
          over_inside (flatten d) section kind row column inside ∙ ap found_with (one_given ∙ both_given ∙ sym other_given)
          ∙ sym (over_inside (flatten e) section kind row column (sym range_same ∙ inside))

  pub over_same : Each RightSection d.sections → entry_from (flatten d) section kind row column ≡ entry_from (flatten e) section kind row column
  over_same right =
      by_cases (entry_from (flatten d) section kind row column ≡ entry_from (flatten e) section kind row column)
      (is_in_range (flatten d) section kind row column)
      (λ (h : is_in_range (flatten d) section kind row column ≡ true). found_same h right (pair_at same section (section_few h)))
      (λ (h : is_in_range (flatten d) section kind row column ≡ false).
      over_outside (flatten d) section kind row column h
      ∙ sym (over_outside (flatten e) section kind row column (sym range_same ∙ h)))

-- ---- two accepted texts

pub entries_same :
    (t table u other : List ℕ) → AcceptedTable t table → AcceptedTable u other → SameDocument (document_of t) (document_of u) →
    (section kind row column : ℕ) → entry_answer t table section kind row column ≡ entry_answer u other section kind row column
entries_same t table u other one two same section kind row column =
    let k : accepted.Taken t (length one.before) = taken_passed t table one in
    answer_over t table one section kind row column
    ∙ over_same (document_of t) (document_of u) same.sections section kind row column (text_sections t k.counts k.reads)
    ∙ sym (answer_over u other two section kind row column)
