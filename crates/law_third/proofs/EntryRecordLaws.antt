-- The entry that the matrices of a section give; the records of the document give the same one.
-- Assumes nothing.
use Prim.Native.Nat.{ℕ, suc, ◌+◌, ◌-◌, ◌≤◌, ◌<◌, min, max}
use mathlib.Core.Path.{◌≡◌, refl, sym, ◌∙◌, ap}
use mathlib.Core.Bool.{true, false}
use mathlib.Core.List.{List, [], ◌∷◌, ◌++◌, append_assoc}
use native.Mathlib.Nat.{add-zero}
use native.Mathlib.Omega.{arith}
use lib.ListN.{length, get_or, length-append}
use lib.Dec.{eqb}
use borrow.Author.Tests.{eq-eqb, ne_eqb, eqb-true, eqb-false, lt-ltb, le-leb}
use Rattle.table_record.specs.Records.{no_section, no_matrix, range}
use Rattle.table_record.specs.declared.Value.{Value}
use Rattle.table_record.specs.declared.MatrixRecord.{MatrixRecord}
use Rattle.table_record.specs.declared.SectionRecord.{SectionRecord}
use Rattle.base.specs.If.{provided◌then◌else◌, both}
use Rattle.base.specs.Bytes.{within}
use Rattle.base.proofs.IfLaws.{if_true, if_false, by_cases, both_true}
use Rattle.lex_number.specs.ValueWord.{zero_word}
use Rattle.doc.specs.Document.{Matrix, Section, Document, conductors_of}
use Rattle.doc.specs.Records.{index_of_kind, section_record, section_records, matrices_of, matrix_record, matrix_records, flatten}
use Rattle.doc.specs.Records as records
use Rattle.doc.specs.Holds.{Each}
use Rattle.law_sound.proofs.EveryLaws.{range_middle}
use Rattle.ask_entry.specs.Entry.{matrix_index, word_at, entry_of, is_in_range}
use Rattle.ask_entry.specs.Entry as entry
use Rattle.law_alike.specs.Way.Found.{found_at}
use Rattle.doc.proofs.CountLaws.{sections_long_lem}

-- ---- what matrices give

-- what the first matrix of a kind gives; zero if there is none
unfoldable pub given_at : ℕ → ℕ → ℕ → List Matrix → ℕ
given_at kind i j [] = zero_word
given_at kind i j (m ∷ ms) = provided eqb m.kind kind then found_at i j m.values else given_at kind i j ms

module _ (kind i j : ℕ) where
  pub given_none : given_at kind i j [] ≡ zero_word
  unfolding given_at
  given_none = refl

  module _ (m : Matrix) (ms : List Matrix) where
    pub given_here : m.kind ≡ kind → given_at kind i j (m ∷ ms) ≡ found_at i j m.values
    unfolding given_at
    given_here e = if_true _ _ (eq-eqb _ _ e)

    pub given_later : (m.kind ≡ kind → ⊥) → given_at kind i j (m ∷ ms) ≡ given_at kind i j ms
    unfolding given_at
    given_later h = if_false _ _ (ne_eqb _ _ h)

  -- if the matrices before it have other kinds
  pub given_past :
      {above : List Matrix} (m : Matrix) (below : List Matrix) → Each (λ (a : Matrix). a.kind ≡ kind → ⊥) above → m.kind ≡ kind →
      given_at kind i j (above ++ (m ∷ below)) ≡ found_at i j m.values
  given_past m below Each.none e = given_here m below e
  given_past m below (Each.more {x = a} {xs = above} h hs) e = given_later a (above ++ (m ∷ below)) h ∙ given_past m below hs e

  -- if all matrices have other kinds
  pub given_not : {ms : List Matrix} → Each (λ (a : Matrix). a.kind ≡ kind → ⊥) ms → given_at kind i j ms ≡ zero_word
  given_not Each.none = given_none
  given_not (Each.more {x = a} {xs = ms} h hs) = given_later a ms h ∙ given_not hs

-- the question looks values up as the document does
word_found : (i j : ℕ) (vs : List Value) → word_at i j vs ≡ found_at i j vs
unfolding word_at found_at
word_found i j [] = refl
word_found i j (v ∷ vs) =
    ap (λ (n : ℕ). provided both (eqb v.row i) (eqb v.column j) then v.word else n) (word_found i j vs)

-- ---- records by their index

section_here :
    (first : ℕ) (before behind : List Section) (x : Section) →
    get_or (section_records first (before ++ (x ∷ behind))) (length before) no_section
    ≡ section_record (first + length (matrices_of before)) x
unfolding section_records matrices_of
section_here first [] behind x = ap (λ (n : ℕ). section_record n x) (sym (add-zero first))
section_here first (b ∷ before) behind x =
    let n : length (b.matrices ++ matrices_of before) ≡ length b.matrices + length (matrices_of before) =
    length-append b.matrices (matrices_of before) in
    let e : first + length b.matrices + length (matrices_of before) ≡ first + length (b.matrices ++ matrices_of before) =
    omega arith in
    section_here (first + length b.matrices) before behind x ∙ ap (λ (k : ℕ). section_record k x) e

pub matrices_split :
    (before behind : List Section) (x : Section) →
    matrices_of (before ++ (x ∷ behind)) ≡ matrices_of before ++ (x.matrices ++ matrices_of behind)
unfolding matrices_of
matrices_split [] behind x = refl
matrices_split (b ∷ before) behind x =
    ap (λ (ms : List Matrix). b.matrices ++ ms) (matrices_split before behind x)
    ∙ sym (append_assoc b.matrices (matrices_of before) (x.matrices ++ matrices_of behind))

matrix_here :
    (first : ℕ) (above below : List Matrix) (m : Matrix) →
    get_or (matrix_records first (above ++ (m ∷ below))) (length above) no_matrix ≡ matrix_record (first + length (records.values_of above)) m
unfolding matrix_records records.values_of
matrix_here first [] below m = ap (λ (n : ℕ). matrix_record n m) (sym (add-zero first))
matrix_here first (a ∷ above) below m =
    let n : length (a.values ++ records.values_of above) ≡ length a.values + length (records.values_of above) =
    length-append a.values (records.values_of above) in
    let e : first + length a.values + length (records.values_of above) ≡ first + length (a.values ++ records.values_of above) =
    omega arith in
    matrix_here (first + length a.values) above below m ∙ ap (λ (k : ℕ). matrix_record k m) e

values_split :
    (above below : List Matrix) (m : Matrix) →
    records.values_of (above ++ (m ∷ below)) ≡ records.values_of above ++ (m.values ++ records.values_of below)
unfolding records.values_of
values_split [] below m = refl
values_split (a ∷ above) below m =
    ap (λ (vs : List Value). a.values ++ vs) (values_split above below m)
    ∙ sym (append_assoc a.values (records.values_of above) (m.values ++ records.values_of below))

-- ---- one entry over the records of a document

module _ (d : Document) where
  pub flat_sections : (flatten d).sections ≡ section_records 0 d.sections
  unfolding flatten
  flat_sections = refl

  flat_matrices : (flatten d).matrices ≡ matrix_records 0 (matrices_of d.sections)
  unfolding flatten
  flat_matrices = refl

  flat_values : (flatten d).values ≡ records.values_of (matrices_of d.sections)
  unfolding flatten
  flat_values = refl

  -- the record of a matrix leads to its own values
  own_values :
      (above below : List Matrix) (m : Matrix) → matrices_of d.sections ≡ above ++ (m ∷ below) →
      entry.matrix_values (flatten d) (get_or (flatten d).matrices (length above) no_matrix) ≡ m.values
  unfolding entry.matrix_values matrix_record
  own_values above below m e =
      let r : get_or (flatten d).matrices (length above) no_matrix ≡ matrix_record (0 + length (records.values_of above)) m =
      ap (λ (xs : List MatrixRecord). get_or xs (length above) no_matrix) (flat_matrices ∙ ap (matrix_records 0) e) ∙ matrix_here 0 above below m in
      let v : (flatten d).values ≡ records.values_of above ++ (m.values ++ records.values_of below) =
      flat_values ∙ ap records.values_of e ∙ values_split above below m in
      let z : length (records.values_of above) ≡ 0 + length (records.values_of above) = omega arith in
      (λ i. range (r i).first (r i).values (v i))
      ∙ range_middle (records.values_of above) m.values (records.values_of below) (0 + length (records.values_of above))
      (length m.values) z refl

  entry_none : (row column : ℕ) → entry_of (flatten d) 0 row column ≡ zero_word
  unfolding entry_of
  entry_none row column = if_true _ _ refl

  entry_here :
      (above below : List Matrix) (m : Matrix) → matrices_of d.sections ≡ above ++ (m ∷ below) → (index : ℕ) →
      index ≡ length above + 1 → (row column : ℕ) →
      entry_of (flatten d) index row column ≡ found_at (min row column) (max row column) m.values
  unfolding entry_of
  entry_here above below m e index at row column =
      let n : index - 1 ≡ length above = omega arith in
      if_false _ _ (ne_eqb index 0 (λ (z : index ≡ 0). omega arith))
      ∙ word_found (min row column) (max row column) (entry.matrix_values (flatten d) (get_or (flatten d).matrices (index - 1) no_matrix))
      ∙ ap (λ (k : ℕ). found_at (min row column) (max row column) (entry.matrix_values (flatten d) (get_or (flatten d).matrices k no_matrix))) n
      ∙ ap (found_at (min row column) (max row column)) (own_values above below m e)

  place_none : (kind first : ℕ) → index_of_kind kind first [] ≡ 0
  unfolding index_of_kind
  place_none kind first = refl

  module _ (kind first : ℕ) (m : Matrix) (ms : List Matrix) where
    place_here : m.kind ≡ kind → index_of_kind kind first (m ∷ ms) ≡ first + 1
    unfolding index_of_kind
    place_here e = if_true _ _ (eq-eqb _ _ e)

    place_later : (m.kind ≡ kind → ⊥) → index_of_kind kind first (m ∷ ms) ≡ index_of_kind kind (first + 1) ms
    unfolding index_of_kind
    place_later h = if_false _ _ (ne_eqb _ _ h)

  -- the index of a kind leads to what the matrices give
  pub given_place :
      (kind row column : ℕ) (above ms below : List Matrix) (first : ℕ) → length above ≡ first →
      matrices_of d.sections ≡ above ++ (ms ++ below) →
      entry_of (flatten d) (index_of_kind kind first ms) row column ≡ given_at kind (min row column) (max row column) ms
  given_place kind row column above [] below first at e =
      ap (λ (n : ℕ). entry_of (flatten d) n row column) (place_none kind first) ∙ entry_none row column
      ∙ sym (given_none kind (min row column) (max row column))
  given_place kind row column above (m ∷ ms) below first at e =
      by_cases
      (entry_of (flatten d) (index_of_kind kind first (m ∷ ms)) row column ≡ given_at kind (min row column) (max row column) (m ∷ ms))
      (eqb m.kind kind)
      (λ (h : eqb m.kind kind ≡ true).
      let n : first + 1 ≡ length above + 1 = omega arith in
      ap (λ (k : ℕ). entry_of (flatten d) k row column) (place_here kind first m ms (eqb-true _ _ h))
      ∙ entry_here above (ms ++ below) m e (first + 1) n row column
      ∙ sym (given_here kind (min row column) (max row column) m ms (eqb-true _ _ h)))
      (λ (h : eqb m.kind kind ≡ false).
      let n : length (above ++ (m ∷ [])) ≡ length above + 1 = length-append above (m ∷ []) in
      let on : length (above ++ (m ∷ [])) ≡ first + 1 = omega arith in
      ap (λ (k : ℕ). entry_of (flatten d) k row column) (place_later kind first m ms (eqb-false _ _ h))
      ∙ given_place kind row column (above ++ (m ∷ [])) ms below (first + 1) on (e ∙ sym (append_assoc above (m ∷ []) (ms ++ below)))
      ∙ sym (given_later kind (min row column) (max row column) m ms (eqb-false _ _ h)))

-- "R L G C each matrix index plus 1 or 0"
kind_place : (first : ℕ) (x : Section) (kind : ℕ) → kind < 4 → matrix_index (section_record first x) kind ≡ index_of_kind kind first x.matrices
unfolding matrix_index section_record
kind_place first x kind few =
    by_cases _ (eqb kind 0)
    (λ (a : eqb kind 0 ≡ true). if_true _ _ a ∙ at 0 (sym (eqb-true _ _ a)))
    (λ (a : eqb kind 0 ≡ false).
    by_cases _ (eqb kind 1)
    (λ (b : eqb kind 1 ≡ true). if_false _ _ a ∙ if_true _ _ b ∙ at 1 (sym (eqb-true _ _ b)))
    (λ (b : eqb kind 1 ≡ false).
    by_cases _ (eqb kind 2)
    (λ (c : eqb kind 2 ≡ true). if_false _ _ a ∙ if_false _ _ b ∙ if_true _ _ c ∙ at 2 (sym (eqb-true _ _ c)))
    (λ (c : eqb kind 2 ≡ false).
    let na : kind ≡ 0 → ⊥ = eqb-false _ _ a in
    let nb : kind ≡ 1 → ⊥ = eqb-false _ _ b in
    let nc : kind ≡ 2 → ⊥ = eqb-false _ _ c in
    let e : 3 ≡ kind = omega arith in
    if_false _ _ a ∙ if_false _ _ b ∙ if_false _ _ c ∙ at 3 e)))
  where
    at : (k : ℕ) → k ≡ kind → index_of_kind k first x.matrices ≡ index_of_kind kind first x.matrices
    at k e = ap (λ (n : ℕ). index_of_kind n first x.matrices) e

-- ---- one section of a document

module _ (d : Document) (before behind : List Section) (x : Section) (here : d.sections ≡ before ++ (x ∷ behind)) where
  record_here : get_or (flatten d).sections (length before) no_section ≡ section_record (0 + length (matrices_of before)) x
  record_here =
      ap (λ (xs : List SectionRecord). get_or xs (length before) no_section) (flat_sections d ∙ ap (section_records 0) here)
      ∙ section_here 0 before behind x

  pub section_given :
      (kind row column : ℕ) → kind < 4 →
      entry_of (flatten d) (matrix_index (get_or (flatten d).sections (length before) no_section) kind) row column
      ≡ given_at kind (min row column) (max row column) x.matrices
  section_given kind row column few =
      let z : length (matrices_of before) ≡ 0 + length (matrices_of before) = omega arith in
      ap (λ (r : SectionRecord). entry_of (flatten d) (matrix_index r kind) row column) record_here
      ∙ ap (λ (n : ℕ). entry_of (flatten d) n row column) (kind_place (0 + length (matrices_of before)) x kind few)
      ∙ given_place d kind row column (matrices_of before) x.matrices (matrices_of behind) (0 + length (matrices_of before)) z
      (ap matrices_of here ∙ matrices_split before behind x)

  pub section_conductors_lem : (get_or (flatten d).sections (length before) no_section).conductors ≡ conductors_of x.matrices
  unfolding section_record
  section_conductors_lem = ap (λ (r : SectionRecord). r.conductors) record_here

  section_inside : length before < length (flatten d).sections
  section_inside =
      let n : length (before ++ (x ∷ behind)) ≡ length before + suc (length behind) = length-append before (x ∷ behind) in
      let m : length (flatten d).sections ≡ length (before ++ (x ∷ behind)) =
      ap length (flat_sections d) ∙ sections_long_lem 0 d.sections ∙ ap length here in
      omega arith

  -- "section, kind, row, column (1 to N)"
  pub section_range :
      (kind row column : ℕ) → kind < 4 → 1 ≤ row → row ≤ conductors_of x.matrices → 1 ≤ column →
      column ≤ conductors_of x.matrices → is_in_range (flatten d) (length before) kind row column ≡ true
  unfolding is_in_range within
  section_range kind row column few low high left right =
      let n : ℕ = (get_or (flatten d).sections (length before) no_section).conductors in
      let h : row ≤ n = rw section_conductors_lem high in
      let r : column ≤ n = rw section_conductors_lem right in
      both_true _ _ (lt-ltb _ _ section_inside)
      (both_true _ _ (lt-ltb _ _ few)
      (both_true _ _ (both_true _ _ (le-leb _ _ low) (le-leb _ _ h))
      (both_true _ _ (le-leb _ _ left) (le-leb _ _ r))))
