-- The records of maps, sections and matrices of a document: pins, methods and conductors by their index, and the matrices of a section.
-- Assumes nothing.
use mathlib.Core.Path.{◌≡◌, refl, sym, ◌∙◌, ap}
use mathlib.Core.Bool.{true, false, not}
use mathlib.Core.List.{List, [], ◌∷◌, ◌++◌}
use Prim.Native.Nat.{ℕ, zero, suc, ◌+◌, ◌-◌, ◌≤◌, ◌<◌}
use native.Mathlib.Nat.{not-suc-le-zero, le_of_suc-le-suc, le_refl}
use native.Mathlib.Omega.{arith}
use lib.ListN.{length, take, drop, get_or, length-append}
use lib.Seq.{drop-drop}
use lib.Dec.{ltb, eqb}
use borrow.Author.Tests.{eq-eqb, ne_eqb, eqb-true, eqb-false, le-ltb, ltb-false}
use Rattle.base.specs.If.{either}
use Rattle.base.proofs.IfLaws.{if_true, if_false, by_cases, by_test}
use Rattle.table_layout.specs.Codes.{diagonal, resistance_kind, inductance_kind, conductance_kind, capacitance_kind}
use Rattle.table_record.specs.Records.{range, no_map, no_section}
use Rattle.table_record.specs.declared.MatrixRecord.{MatrixRecord}
use Rattle.doc.specs.Document.{Map, Matrix, Section}
use Rattle.doc.specs.Records.{map_record, map_records, index_of_kind, section_record, section_records, matrices_of, matrix_record, matrix_records}
use Rattle.doc.specs.Holds.{Each}
use Rattle.doc.specs.Holds as holds
use Rattle.doc.proofs.SectionLaws.{RightSection}
use Rattle.doc.proofs.MatrixLaws.{RightMatrix}
use Rattle.cross_rules.specs.Rules.{any, pins_at, conductors_at, method_at, is_other_form, has_other_form}
use Rattle.cross_steps.specs.Way.StepWords.{lesser_given, least_of, other_in}

-- ---- maps and sections by their index

pub pins_word : (first : ℕ) (ms : List Map) (i : ℕ) → (get_or (map_records first ms) i no_map).pins ≡ pins_at ms i
unfolding map_records map_record pins_at
pins_word first [] i = refl
pins_word first (m ∷ ms) zero = refl
pins_word first (m ∷ ms) (suc i) = pins_word (first + length m.pins) ms i

pub method_word : (first : ℕ) (ss : List Section) (i : ℕ) → (get_or (section_records first ss) i no_section).method ≡ method_at ss i
unfolding section_records section_record method_at
method_word first [] i = refl
method_word first (s ∷ ss) zero = refl
method_word first (s ∷ ss) (suc i) = method_word (first + length s.matrices) ss i

pub conductors_word : (first : ℕ) (ss : List Section) (i : ℕ) → (get_or (section_records first ss) i no_section).conductors ≡ conductors_at ss i
unfolding section_records section_record conductors_at
conductors_word first [] i = refl
conductors_word first (s ∷ ss) zero = refl
conductors_word first (s ∷ ss) (suc i) = conductors_word (first + length s.matrices) ss i

-- ---- where the matrices of a section begin

-- the index of the first matrix of section i; `first` is that of section 0
unfoldable pub start_of : ℕ → List Section → ℕ → ℕ
start_of first [] i = first
start_of first (s ∷ ss) zero = first
start_of first (s ∷ ss) (suc i) = start_of (first + length s.matrices) ss i

start_first : (first : ℕ) (ss : List Section) → start_of first ss zero ≡ first
unfolding start_of
start_first first [] = refl
start_first first (s ∷ ss) = refl

pub start_last : (first : ℕ) (ss : List Section) (i : ℕ) → length ss ≤ i → start_of first ss i ≡ first + length (matrices_of ss)
unfolding start_of matrices_of
start_last first [] i h = omega arith
start_last first (s ∷ ss) zero h = absurd (not-suc-le-zero h)
start_last first (s ∷ ss) (suc i) h =
    let e : start_of (first + length s.matrices) ss i ≡ first + length s.matrices + length (matrices_of ss) =
    start_last (first + length s.matrices) ss i (le_of_suc-le-suc h) in
    let l : length (s.matrices ++ matrices_of ss) ≡ length s.matrices + length (matrices_of ss) = length-append s.matrices (matrices_of ss) in
    omega arith

pub start_rises : (first : ℕ) (ss : List Section) (i : ℕ) → i < length ss → start_of first ss i ≤ start_of first ss (suc i)
unfolding start_of
start_rises first [] i h = absurd (not-suc-le-zero h)
start_rises first (s ∷ ss) zero h = let e : start_of (first + length s.matrices) ss zero ≡ first + length s.matrices = start_first _ ss in omega arith
start_rises first (s ∷ ss) (suc i) h = start_rises (first + length s.matrices) ss i (le_of_suc-le-suc h)

pub start_within : (first : ℕ) (ss : List Section) (i : ℕ) → start_of first ss i ≤ first + length (matrices_of ss)
unfolding start_of matrices_of
start_within first [] i = omega arith
start_within first (s ∷ ss) zero = omega arith
start_within first (s ∷ ss) (suc i) =
    let e : start_of (first + length s.matrices) ss i ≤ first + length s.matrices + length (matrices_of ss) = start_within (first + length s.matrices) ss i in
    let l : length (s.matrices ++ matrices_of ss) ≡ length s.matrices + length (matrices_of ss) = length-append s.matrices (matrices_of ss) in
    omega arith

-- ---- the least of the four words

-- 0, or at least `low`
pub data OrMore (low : ℕ) : ℕ → Type 0 where
  lacks : OrMore low 0
  stands : {n : ℕ} → low ≤ n → OrMore low n

place_low : (kind low first : ℕ) (ms : List Matrix) → low ≤ first + 1 → OrMore low (index_of_kind kind first ms)
unfolding index_of_kind
place_low kind low first [] h = lacks
place_low kind low first (m ∷ ms) h =
    by_test (OrMore low) (eqb m.kind kind) _ _ (λ (e : eqb m.kind kind ≡ true). stands h)
    (λ (e : eqb m.kind kind ≡ false). place_low kind low (first + 1) ms (omega arith))

place_first : (kind first : ℕ) (m : Matrix) (ms : List Matrix) → m.kind ≡ kind → index_of_kind kind first (m ∷ ms) ≡ first + 1
unfolding index_of_kind
place_first kind first m ms e = if_true _ _ (eq-eqb _ _ e)

zero_low : {low n : ℕ} → low ≤ n → n ≡ 0 → low ≡ 0
zero_low h z = omega arith

only : {low n : ℕ} → low ≤ n → n ≤ low → low ≡ n
only h k = omega arith

module _ (low : ℕ) where
  lesser_low : {a b : ℕ} → OrMore low a → OrMore low b → OrMore low (lesser_given a b)
  unfolding lesser_given
  lesser_low {a} {b} h k =
      by_test (OrMore low) (eqb a 0) _ _ (λ e. k) (λ e. by_test (OrMore low) (eqb b 0) _ _ (λ f. h) (λ f. by_test (OrMore low) (ltb b a) _ _ (λ g. k) (λ g. h)))

  -- a number below all others is the least
  lesser_left : {b : ℕ} → (low ≡ 0 → ⊥) → OrMore low b → lesser_given low b ≡ low
  unfolding lesser_given
  lesser_left n lacks = if_false _ _ (ne_eqb _ _ n) ∙ if_true _ _ (eq-eqb 0 0 refl)
  lesser_left {b} n (stands h) =
      if_false _ _ (ne_eqb _ _ n)
      ∙ if_false _ _ (ne_eqb b 0 (λ (z : b ≡ 0). n (zero_low h z)))
      ∙ if_false _ _ (le-ltb _ _ h)

  lesser_right : {a : ℕ} → (low ≡ 0 → ⊥) → OrMore low a → lesser_given a low ≡ low
  unfolding lesser_given
  lesser_right n lacks = if_true _ _ (eq-eqb 0 0 refl)
  lesser_right {a} n (stands h) =
      if_false _ _ (ne_eqb a 0 (λ (z : a ≡ 0). n (zero_low h z)))
      ∙ if_false _ _ (ne_eqb _ _ n)
      ∙ by_cases _ (ltb low a) (λ (e : ltb low a ≡ true). if_true _ _ e)
      (λ (e : ltb low a ≡ false). if_false _ _ e ∙ sym (only h (ltb-false low a e)))

  abbrev least : ℕ → ℕ → ℕ → ℕ → ℕ
  least a b c d = lesser_given (lesser_given a b) (lesser_given c d)

  module _ (n : low ≡ 0 → ⊥) {a b c d : ℕ} (p : OrMore low a) (q : OrMore low b) (r : OrMore low c) (s : OrMore low d) where
    least_first : a ≡ low → least a b c d ≡ low
    least_first e =
        let f : lesser_given a b ≡ low = rw e (lesser_left n q) in
        rw f (lesser_left n (lesser_low r s))

    least_second : b ≡ low → least a b c d ≡ low
    least_second e =
        let f : lesser_given a b ≡ low = rw e (lesser_right n p) in
        rw f (lesser_left n (lesser_low r s))

    least_third : c ≡ low → least a b c d ≡ low
    least_third e =
        let f : lesser_given c d ≡ low = rw e (lesser_left n s) in
        rw f (lesser_right n (lesser_low p q))

    least_fourth : d ≡ low → least a b c d ≡ low
    least_fourth e =
        let f : lesser_given c d ≡ low = rw e (lesser_right n r) in
        rw f (lesser_right n (lesser_low p q))

-- the first matrix has one of the four kinds
module _ (first : ℕ) (m : Matrix) (ms : List Matrix) (known : m.kind ≤ capacitance_kind) where
  abbrev word : ℕ → ℕ
  word kind = index_of_kind kind first (m ∷ ms)

  low : (kind : ℕ) → OrMore (first + 1) (word kind)
  low kind = place_low kind (first + 1) first (m ∷ ms) (le_refl (first + 1))

  some : first + 1 ≡ 0 → ⊥
  some e = omega arith

  least_is : least (first + 1) (word resistance_kind) (word inductance_kind) (word conductance_kind) (word capacitance_kind) ≡ first + 1
  least_is =
      by_cases _ (eqb m.kind resistance_kind)
      (λ (e : eqb m.kind resistance_kind ≡ true).
      least_first (first + 1) some (low resistance_kind) (low inductance_kind) (low conductance_kind) (low capacitance_kind) (place_first resistance_kind first m ms (eqb-true _ _ e)))
      (λ (e : eqb m.kind resistance_kind ≡ false).
      by_cases _ (eqb m.kind inductance_kind)
      (λ (f : eqb m.kind inductance_kind ≡ true).
      least_second (first + 1) some (low resistance_kind) (low inductance_kind) (low conductance_kind) (low capacitance_kind) (place_first inductance_kind first m ms (eqb-true _ _ f)))
      (λ (f : eqb m.kind inductance_kind ≡ false).
      by_cases _ (eqb m.kind conductance_kind)
      (λ (g : eqb m.kind conductance_kind ≡ true).
      least_third (first + 1) some (low resistance_kind) (low inductance_kind) (low conductance_kind) (low capacitance_kind) (place_first conductance_kind first m ms (eqb-true _ _ g)))
      (λ (g : eqb m.kind conductance_kind ≡ false).
      least_fourth (first + 1) some (low resistance_kind) (low inductance_kind) (low conductance_kind) (low capacitance_kind)
      (place_first capacitance_kind first m ms (last (eqb-false _ _ e) (eqb-false _ _ f) (eqb-false _ _ g))))))
    where
      last : (m.kind ≡ resistance_kind → ⊥) → (m.kind ≡ inductance_kind → ⊥) → (m.kind ≡ conductance_kind → ⊥) → m.kind ≡ capacitance_kind
      last e f g = omega (arith, known)

least_of_lem : (first : ℕ) (ms : List Matrix) {n : ℕ} → 1 ≤ length ms → Each (RightMatrix n) ms →
    least (first + 1) (index_of_kind resistance_kind first ms) (index_of_kind inductance_kind first ms) (index_of_kind conductance_kind first ms) (index_of_kind capacitance_kind first ms) ≡ first + 1
least_of_lem first [] h holds.Each.none = absurd (not-suc-le-zero h)
least_of_lem first (m ∷ ms) h (holds.Each.more r rs) = least_is first m ms r.kind

section_least : (first : ℕ) (s : Section) → RightSection s → least_of (section_record first s) ≡ first + 1
unfolding least_of section_record
section_least first s right = least_of_lem first s.matrices right.some right.matrices

pub least_word : (first : ℕ) (ss : List Section) (i : ℕ) → Each RightSection ss → i < length ss → least_of (get_or (section_records first ss) i no_section) ≡ start_of first ss i + 1
unfolding section_records start_of
least_word first [] i right k = absurd (not-suc-le-zero k)
least_word first (s ∷ ss) zero (holds.Each.more r rs) k = section_least first s r
least_word first (s ∷ ss) (suc i) (holds.Each.more r rs) k = least_word (first + length s.matrices) ss i rs (le_of_suc-le-suc k)

-- ---- the matrices of a section

other_any : (values : ℕ) (ms : List Matrix) → other_in (matrix_records values ms) ≡ any is_other_form ms
unfolding matrix_records matrix_record other_in any is_other_form
other_any values [] = refl
other_any values (m ∷ ms) = ap (either (not (eqb m.form diagonal))) (other_any (values + length m.values) ms)

-- the matrices of a section come first, the rest after them
matrices_front : (values : ℕ) (front rest : List Matrix) → take (length front) (matrix_records values (front ++ rest)) ≡ matrix_records values front
unfolding matrix_records
matrices_front values [] rest = refl
matrices_front values (m ∷ front) rest =
    ap (λ (rs : List MatrixRecord). matrix_record values m ∷ rs) (matrices_front (values + length m.values) front rest)

matrices_behind : (values : ℕ) (front rest : List Matrix) → (later : ℕ) × (drop (length front) (matrix_records values (front ++ rest)) ≡ matrix_records later rest)
unfolding matrix_records
matrices_behind values [] rest = (values, refl)
matrices_behind values (m ∷ front) rest = matrices_behind (values + length m.values) front rest

start_above : (first : ℕ) (ss : List Section) (i : ℕ) → first ≤ start_of first ss i
unfolding start_of
start_above first [] i = le_refl first
start_above first (s ∷ ss) zero = le_refl first
start_above first (s ∷ ss) (suc i) =
    let k : first + length s.matrices ≤ start_of (first + length s.matrices) ss i = start_above (first + length s.matrices) ss i in
    omega arith

pub forms_words : (first values : ℕ) (ss : List Section) (i : ℕ) → i < length ss →
    other_in (range (start_of first ss i - first) (start_of first ss (suc i) - start_of first ss i) (matrix_records values (matrices_of ss))) ≡ has_other_form ss i
unfolding start_of matrices_of has_other_form
forms_words first values [] i k = absurd (not-suc-le-zero k)
forms_words first values (s ∷ ss) zero k =
    let b : start_of (first + length s.matrices) ss zero ≡ first + length s.matrices = start_first (first + length s.matrices) ss in
    let z : first - first ≡ 0 = omega arith in
    let e : start_of (first + length s.matrices) ss zero - first ≡ length s.matrices = omega arith in
    rw (z, e) (ap other_in (matrices_front values s.matrices (matrices_of ss)) ∙ other_any values s.matrices)
forms_words first values (s ∷ ss) (suc i) k =
    let (later, behind) = matrices_behind values s.matrices (matrices_of ss) in
    let h : first + length s.matrices ≤ start_of (first + length s.matrices) ss i = start_above (first + length s.matrices) ss i in
    let e : start_of (first + length s.matrices) ss i - first ≡ length s.matrices + (start_of (first + length s.matrices) ss i - (first + length s.matrices)) =
    omega arith in
    let f : drop (start_of (first + length s.matrices) ss i - first) (matrix_records values (s.matrices ++ matrices_of ss))
    ≡ drop (start_of (first + length s.matrices) ss i - (first + length s.matrices)) (matrix_records later (matrices_of ss)) =
    ap (λ (n : ℕ). drop n (matrix_records values (s.matrices ++ matrices_of ss))) e
    ∙ sym (drop-drop (start_of (first + length s.matrices) ss i - (first + length s.matrices)) (length s.matrices) (matrix_records values (s.matrices ++ matrices_of ss)))
    ∙ ap (drop (start_of (first + length s.matrices) ss i - (first + length s.matrices))) behind in
    ap (λ (rs : List MatrixRecord). other_in (take (start_of (first + length s.matrices) ss (suc i) - start_of (first + length s.matrices) ss i) rs)) f
    ∙ forms_words (first + length s.matrices) later ss i (le_of_suc-le-suc k)
