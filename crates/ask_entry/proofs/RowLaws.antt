-- Laws of the entries stored row by row: storing the rest gives the whole matrix.
-- Assumes nothing.
use mathlib.Core.Path.{◌≡◌, refl, sym, ◌∙◌, ap}
use mathlib.Core.List.{List}
use Prim.Native.Nat.{ℕ, zero, suc, ◌+◌, ◌-◌, ◌*◌, ◌≤◌, ◌<◌}
use native.Mathlib.Nat.{suc-mul, zero-mul, add-zero, sub-zero, mul-le-mul, le_refl}
use native.Mathlib.Numerals.{add-one}
use mir.Syntax.{w64}
use mir.Val.{Fits}
use Rattle.table_layout.specs.Bounds.{most_conductors}
use native.Mathlib.Omega.{arith}
use lib.ListN.{length, set, length-set}
use lib.Seq.{sets, length-sets}
use Rattle.table_record.specs.Records.{Records}
use Rattle.ask_entry.specs.Entry.{entry_of}
use Rattle.ask_entry.specs.WholeMatrix.{row_from, rows_from, square_of}
use Rattle.base.proofs.StoreLaws.{sets_append}

-- ---- stores

-- ---- one row

module _ (r : Records) (index row : ℕ) where
  pub row_long : (column many : ℕ) → length (row_from r index row column many) ≡ many
  unfolding row_from
  row_long column zero = refl
  row_long column (suc many) = ap suc (row_long (column + 1) many)

  -- the loop's invariant: the entries behind the first `column` are still to be stored
  pub record RowLeft (conductors : ℕ) (values₀ : List ℕ) (at : ℕ) (values : List ℕ) (column : ℕ) : Type 0 where
    pub high : column ≤ conductors
    pub long : length values ≡ length values₀
    pub image : sets values (at + column) (row_from r index row (column + 1) (conductors - column)) ≡ sets values₀ at (row_from r index row 1 conductors)

  pub row_starts : (conductors : ℕ) (values : List ℕ) (at : ℕ) → RowLeft conductors values at values 0
  row_starts conductors values at =
      record {
        high = omega arith;
        long = refl;
        image = λ k. sets values (add-zero at k) (row_from r index row 1 (sub-zero conductors k));
      }

  module _ (conductors : ℕ) (values₀ : List ℕ) (at : ℕ) (values : List ℕ) (column : ℕ) (left : RowLeft conductors values₀ at values column) where
    pub row_on : column < conductors → (word : ℕ) → word ≡ entry_of r index row (column + 1) → RowLeft conductors values₀ at (set values (at + column) word) (column + 1)
    unfolding row_from
    row_on h word e =
        let n : conductors - column ≡ suc (conductors - (column + 1)) = omega arith in
        let s : at + (column + 1) ≡ suc (at + column) = omega arith in
        let i : sets values (at + column) (row_from r index row (column + 1) (conductors - column)) ≡ sets values₀ at (row_from r index row 1 conductors) = left.image in
        record {
          high = omega arith;
          long = length-set values (at + column) word ∙ left.long;
          image = (λ k. sets (set values (at + column) (e k)) (s k) (row_from r index row (column + 1 + 1) (conductors - (column + 1)))) ∙ (rw n at i);
        }

    pub row_done : conductors ≤ column → values ≡ sets values₀ at (row_from r index row 1 conductors)
    unfolding row_from
    row_done h =
        let n : conductors - column ≡ 0 = omega arith in
        let i : sets values (at + column) (row_from r index row (column + 1) (conductors - column)) ≡ sets values₀ at (row_from r index row 1 conductors) = left.image in
        rw n at i

    pub row_room : column < conductors → at + conductors ≤ length values₀ → at + column < length values
    row_room h k = omega (arith, left.long)

-- ---- all rows

module _ (r : Records) (index conductors : ℕ) where
  -- the loop's invariant: the rows below the first `row` are still to be stored
  pub record RowsLeft (values₀ values : List ℕ) (row : ℕ) : Type 0 where
    pub high : row ≤ conductors
    pub long : length values ≡ length values₀
    pub image : sets values (row * conductors) (rows_from r index conductors (row + 1) (conductors - row)) ≡ sets values₀ 0 (square_of r index conductors)

  pub rows_start : (values : List ℕ) → RowsLeft values values 0
  unfolding square_of
  rows_start values =
      record {
        high = omega arith;
        long = refl;
        image = λ k. sets values (zero-mul conductors k) (rows_from r index conductors 1 (sub-zero conductors k));
      }

  -- where the next row begins
  next_row : (row : ℕ) → (row + 1) * conductors ≡ row * conductors + conductors
  next_row row = rw (add-one row) (suc-mul row conductors)

  module _ (values₀ values : List ℕ) (row : ℕ) (left : RowsLeft values₀ values row) where
    row_ends : row < conductors → row * conductors + conductors ≤ conductors * conductors
    row_ends h =
        let k : row + 1 ≤ conductors = omega arith in
        let m : (row + 1) * conductors ≤ conductors * conductors = mul-le-mul k (le_refl conductors) in
        omega (arith, next_row row)

    pub rows_fit : row < conductors → conductors ≤ most_conductors → Fits w64 (row * conductors)
    rows_fit h few =
        let k : row ≤ most_conductors = omega arith in
        let m : row * conductors ≤ most_conductors * most_conductors = mul-le-mul k few in
        omega arith

    pub rows_room : row < conductors → conductors * conductors ≤ length values₀ → row * conductors + conductors ≤ length values
    rows_room h k = omega (arith, left.long, row_ends h)

    pub rows_on : row < conductors → (after : List ℕ) → after ≡ sets values (row * conductors) (row_from r index (row + 1) 1 conductors) → RowsLeft values₀ after (row + 1)
    unfolding rows_from
    rows_on h after e =
        let n : conductors - row ≡ suc (conductors - (row + 1)) = omega arith in
        let l : length (row_from r index (row + 1) 1 conductors) ≡ conductors = row_long r index (row + 1) 1 conductors in
        let p : (row + 1) * conductors ≡ row * conductors + length (row_from r index (row + 1) 1 conductors) = next_row row ∙ ap (λ (k : ℕ). row * conductors + k) (sym l) in
        let i : sets values (row * conductors) (rows_from r index conductors (row + 1) (conductors - row)) ≡ sets values₀ 0 (square_of r index conductors) = left.image in
        record {
          high = omega arith;
          long = ap length e ∙ length-sets values (row * conductors) (row_from r index (row + 1) 1 conductors) ∙ left.long;
          image =
              (λ k. sets (e k) (p k) (rows_from r index conductors (row + 1 + 1) (conductors - (row + 1))))
              ∙ sym (sets_append values (row * conductors) (row_from r index (row + 1) 1 conductors) (rows_from r index conductors (row + 1 + 1) (conductors - (row + 1))))
              ∙ (rw n at i);
        }

    pub rows_done : conductors ≤ row → values ≡ sets values₀ 0 (square_of r index conductors)
    unfolding rows_from
    rows_done h =
        let n : conductors - row ≡ 0 = omega arith in
        let i : sets values (row * conductors) (rows_from r index conductors (row + 1) (conductors - row)) ≡ sets values₀ 0 (square_of r index conductors) = left.image in
        rw n at i
