-- Each word of a whole matrix is the entry of its row and column: the answer of `entry`.
-- Assumes nothing.
use mathlib.Core.Path.{◌≡◌, refl, sym, ◌∙◌, ap}
use mathlib.Core.Bool.{true, false, not, true≢false}
use mathlib.Core.List.{List, ◌++◌}
use Prim.Native.Nat.{ℕ, zero, suc, ◌+◌, ◌-◌, ◌*◌, ◌≤◌, ◌<◌}
use native.Mathlib.Nat.{add-zero, zero-mul, suc-mul, le_of_suc-le-suc}
use native.Mathlib.Omega.{arith}
use lib.ListN.{length, get_or, get_or-append}
use lib.Seq.{get_or-append-add}
use lib.Dec.{ltb}
use borrow.Author.Tests.{le-leb}
use Rattle.table_record.specs.Records.{Records, records_of, no_section}
use Rattle.base.specs.If.{provided◌then◌else◌, both}
use Rattle.base.specs.Bytes.{within}
use Rattle.base.specs.Refusal as refusal
use Rattle.table_layout.specs.Codes.{matrix_kinds}
use Rattle.base.proofs.IfLaws.{if_true, if_false, both_true, both_first, both_second, not_via, not_not_via, by_cases}
use Rattle.ask_sound.specs.Sound.{is_sound}
use Rattle.ask_entry.specs.Entry.{found_with, matrix_index, entry_of, is_in_range, entry_from, entry_answer}
use Rattle.ask_entry.proofs.RowLaws.{row_long}
use Rattle.ask_entry.specs.WholeMatrix.{MatrixWords, found_of, short_of, matrix_refused, row_from, rows_from, square_of, section_conductors, matrix_from, matrix_answer}

module _ (r : Records) (index : ℕ) where
  row_at : (row column many k : ℕ) → k < many → get_or (row_from r index row column many) k 0 ≡ entry_of r index row (column + k)
  unfolding row_from
  row_at row column zero k h = absurd (omega arith)
  row_at row column (suc many) zero h = ap (entry_of r index row) (sym (add-zero column))
  row_at row column (suc many) (suc k) h =
      let e : column + 1 + k ≡ column + suc k = omega arith in
      row_at row (column + 1) many k (le_of_suc-le-suc h) ∙ ap (entry_of r index row) e

  rows_at : (conductors row many i k : ℕ) → i < many → k < conductors → get_or (rows_from r index conductors row many) (i * conductors + k) 0 ≡ entry_of r index (row + i) (1 + k)
  unfolding rows_from
  rows_at conductors row zero i k h g = absurd (omega arith)
  rows_at conductors row (suc many) zero k h g =
      let l : length (row_from r index row 1 conductors) ≡ conductors = row_long r index row 1 conductors in
      let w : k < length (row_from r index row 1 conductors) = omega arith in
      let z : 0 * conductors ≡ 0 = zero-mul conductors in
      let n : 0 * conductors + k ≡ k = omega arith in
      ap (λ (n : ℕ). get_or (row_from r index row 1 conductors ++ rows_from r index conductors (row + 1) many) n 0) n
      ∙ get_or-append (row_from r index row 1 conductors) (rows_from r index conductors (row + 1) many) 0 k w
      ∙ row_at row 1 conductors k g
      ∙ ap (λ (n : ℕ). entry_of r index n (1 + k)) (sym (add-zero row))
  rows_at conductors row (suc many) (suc i) k h g =
      let l : length (row_from r index row 1 conductors) ≡ conductors = row_long r index row 1 conductors in
      let m : suc i * conductors ≡ i * conductors + conductors = suc-mul i conductors in
      let p : suc i * conductors + k ≡ length (row_from r index row 1 conductors) + (i * conductors + k) = omega arith in
      let n : row + 1 + i ≡ row + suc i = omega arith in
      ap (λ (x : ℕ). get_or (row_from r index row 1 conductors ++ rows_from r index conductors (row + 1) many) x 0) p
      ∙ get_or-append-add (row_from r index row 1 conductors) (rows_from r index conductors (row + 1) many) (i * conductors + k) 0
      ∙ rows_at conductors (row + 1) many i k (le_of_suc-le-suc h) g
      ∙ ap (λ (x : ℕ). entry_of r index x (1 + k)) n

  square_at : (conductors row column : ℕ) → 1 ≤ row → row ≤ conductors → 1 ≤ column → column ≤ conductors →
      get_or (square_of r index conductors) ((row - 1) * conductors + (column - 1)) 0 ≡ entry_of r index row column
  unfolding square_of
  square_at conductors row column a b c d =
      let i : row - 1 < conductors = omega arith in
      let k : column - 1 < conductors = omega arith in
      let e : 1 + (row - 1) ≡ row = omega arith in
      let f : 1 + (column - 1) ≡ column = omega arith in
      rows_at conductors 1 conductors (row - 1) (column - 1) i k ∙ rw (e, f) refl

-- ---- what holds if the matrix was found

inside : (low high x : ℕ) → low ≤ x → x ≤ high → within low high x ≡ true
unfolding within
inside low high x h k = both_true _ _ (le-leb low x h) (le-leb x high k)

module _ (t table : List ℕ) (section kind room conductors : ℕ) (found : matrix_answer t table section kind room ≡ found_of conductors) where
  -- the three tests of `matrix_answer`, one after the other
  sound_first : is_sound t table ≡ true
  unfolding matrix_answer
  sound_first =
      by_cases _ (is_sound t table)
      (λ (e : is_sound t table ≡ true). e)
      (λ (e : is_sound t table ≡ false). absurd (true≢false (sym (ap (λ (w : MatrixWords). w.found) found) ∙ ap (λ (w : MatrixWords). w.found) (if_true _ _ (not_via e)))))

  past_sound : (provided not (is_in_range (records_of table) section kind 1 1) then matrix_refused refusal.no_such else
      provided ltb room (section_conductors (records_of table) section * section_conductors (records_of table) section) then short_of (section_conductors (records_of table) section)
      else found_of (section_conductors (records_of table) section)) ≡ found_of conductors
  unfolding matrix_answer matrix_from
  past_sound = sym (if_false _ _ (not_not_via sound_first)) ∙ found

  range_then : is_in_range (records_of table) section kind 1 1 ≡ true
  range_then =
      by_cases _ (is_in_range (records_of table) section kind 1 1)
      (λ (e : is_in_range (records_of table) section kind 1 1 ≡ true). e)
      (λ (e : is_in_range (records_of table) section kind 1 1 ≡ false). absurd (true≢false (sym (ap (λ (w : MatrixWords). w.found) past_sound) ∙ ap (λ (w : MatrixWords). w.found) (if_true _ _ (not_via e)))))

  past_range : (provided ltb room (section_conductors (records_of table) section * section_conductors (records_of table) section) then short_of (section_conductors (records_of table) section)
      else found_of (section_conductors (records_of table) section)) ≡ found_of conductors
  past_range = sym (if_false _ _ (not_not_via range_then)) ∙ past_sound

  pub conductors_told : section_conductors (records_of table) section ≡ conductors
  conductors_told =
      by_cases _ (ltb room (section_conductors (records_of table) section * section_conductors (records_of table) section))
      (λ (e : ltb room (section_conductors (records_of table) section * section_conductors (records_of table) section) ≡ true). ap (λ (w : MatrixWords). w.conductors) (sym (if_true _ _ e) ∙ past_range))
      (λ (e : ltb room (section_conductors (records_of table) section * section_conductors (records_of table) section) ≡ false). ap (λ (w : MatrixWords). w.conductors) (sym (if_false _ _ e) ∙ past_range))

  in_range_lem : (row column : ℕ) → 1 ≤ row → row ≤ conductors → 1 ≤ column → column ≤ conductors → is_in_range (records_of table) section kind row column ≡ true
  unfolding is_in_range section_conductors
  in_range_lem row column a b c d =
      let rest : both (ltb kind matrix_kinds) (both (within 1 (section_conductors (records_of table) section) 1) (within 1 (section_conductors (records_of table) section) 1)) ≡ true = both_second _ _ range_then in
      both_true _ _ (both_first _ _ range_then)
      (both_true _ _ (both_first _ _ rest)
      (rw conductors_told (both_true _ _ (inside 1 conductors row a b) (inside 1 conductors column c d))))

  -- `entry` answers with the word at its row and column
  pub square_entry : (row column : ℕ) → 1 ≤ row → row ≤ conductors → 1 ≤ column → column ≤ conductors →
      entry_answer t table section kind row column
      ≡ found_with (get_or (square_of (records_of table) (matrix_index (get_or (records_of table).sections section no_section) kind) conductors) ((row - 1) * conductors + (column - 1)) 0)
  unfolding entry_answer entry_from
  square_entry row column a b c d =
      if_false _ _ (not_not_via sound_first)
      ∙ if_false _ _ (not_not_via (in_range_lem row column a b c d))
      ∙ ap found_with (sym (square_at (records_of table) (matrix_index (get_or (records_of table).sections section no_section) kind) conductors row column a b c d))
