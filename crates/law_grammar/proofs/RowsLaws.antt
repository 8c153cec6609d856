-- Full_matrix and Banded_matrix: the reading compares each row with the one above it, and the last with one number. So it
-- finds a set right exactly when every row has the paper's length for its N.
-- Assumes nothing.
use Prim.Native.Nat.{ℕ, zero, suc, ◌+◌, ◌-◌, ◌≤◌, ◌<◌, min}
use mathlib.Core.Path.{◌≡◌, refl, sym, ◌∙◌, ap}
use mathlib.Core.Bool.{Bool, true, false, not}
use mathlib.Core.List.{List, [], ◌∷◌}
use native.Mathlib.Nat.{add-zero, add_assoc}
use native.Mathlib.Omega.{arith}
use lib.ListN.{length, get_or}
use lib.Dec.{eqb, ltb}
use borrow.Author.Tests.{eq-eqb, ne_eqb, eqb-true, ltb-false, le-ltb, not-false}
use Rattle.table_layout.specs.Codes.{diagonal, sparse}
use Rattle.table_layout.specs.Bounds.{most_conductors}
use Rattle.base.specs.If.{both, either}
use Rattle.base.proofs.IfLaws.{
  if_false,
  by_cases,
  both_true,
  both_first,
  both_second,
  either_left,
  either_right,
  either_false,
  either_rest,
  either_none_second,
  not_not_via,
}
use Rattle.line_matrix.specs.declared.Matrix.{Matrix}
use Rattle.line_matrix.specs.Matrix.{is_wrong_row, in_row, stands_above, still_fits, with_row, is_shaped, shape_conductors}
use Rattle.law_grammar.specs.Way.Shape.{Row, no_row, row_at, AreRows}
use Rattle.law_grammar.specs.Way.Closing.{rows_count, after_rows, RowsInOrder}

-- a form whose rows have fixed lengths, behind the [Bandwidth] if it has one
pub record Fixed (m : Matrix) : Type 0 where
  pub not_down : m.form ≡ diagonal → ⊥
  pub not_sparse : m.form ≡ sparse → ⊥
  pub some : 1 ≤ m.band

pub fixed_row : (i : ℕ) (m : Matrix) (v : ℕ) → Fixed m → Fixed (with_row i m v)
unfolding with_row
fixed_row i m v k = record { not_down = k.not_down; not_sparse = k.not_sparse; some = k.some }

-- ---- "[Row] 1 to N in order"

module _ (i : ℕ) (m : Matrix) (k : Fixed m) where
  row_test : is_wrong_row i m ≡ either (eqb m.band 0) (not (eqb i (m.rows.row + 1)))
  unfolding is_wrong_row
  row_test = if_false _ _ (ne_eqb _ _ k.not_down) ∙ if_false _ _ (ne_eqb _ _ k.not_sparse)

  row_next : is_wrong_row i m ≡ false → i ≡ m.rows.row + 1
  row_next e = eqb-true _ _ (not-false _ (either_none_second _ _ (sym row_test ∙ e)))

  pub row_right : i ≡ m.rows.row + 1 → is_wrong_row i m ≡ false
  row_right e =
      let some : 1 ≤ m.band = k.some in
      row_test ∙ either_false _ _ (ne_eqb m.band 0 (λ (z : m.band ≡ 0). omega arith)) (not_not_via (eq-eqb _ _ e))

-- ---- what the rows leave as it is

pub after_form : (rs : List Row) (m : Matrix) (v : ℕ) → (after_rows rs m v).form ≡ m.form
unfolding after_rows with_row
after_form [] m v = refl
after_form (r ∷ rs) m v = after_form rs (with_row r.number m v) (v + r.count)

pub after_first : (rs : List Row) (m : Matrix) (v : ℕ) → (after_rows rs m v).first ≡ m.first
unfolding after_rows with_row
after_first [] m v = refl
after_first (r ∷ rs) m v = after_first rs (with_row r.number m v) (v + r.count)

-- the last [Row]
pub after_row : (rs : List Row) (m : Matrix) (v : ℕ) → Fixed m → RowsInOrder m v rs → (after_rows rs m v).rows.row ≡ m.rows.row + length rs
unfolding after_rows with_row
after_row [] m v k o = omega arith
after_row (r ∷ rs) m v k (RowsInOrder.more e b o) =
    let next : r.number ≡ m.rows.row + 1 = row_next r.number m k e in
    let ih : (after_rows rs (with_row r.number m v) (v + r.count)).rows.row ≡ r.number + length rs =
    after_row rs (with_row r.number m v) (v + r.count) (fixed_row r.number m v k) o in
    omega arith

-- ---- one row

module _ (m : Matrix) (v : ℕ) where
  above_told : stands_above m v ≡ true → 2 ≤ m.rows.row → m.rows.above ≡ min m.band (in_row m v + 1)
  unfolding stands_above
  above_told h g = eqb-true _ _ (sym (either_rest _ _ (le-ltb _ _ g)) ∙ h)

  above_right : (2 ≤ m.rows.row → m.rows.above ≡ min m.band (in_row m v + 1)) → stands_above m v ≡ true
  unfolding stands_above
  above_right h =
      by_cases _ (ltb m.rows.row 2) (λ (e : ltb m.rows.row 2 ≡ true). either_left _ _ e)
      (λ (e : ltb m.rows.row 2 ≡ false). either_right _ _ (eq-eqb _ _ (h (ltb-false m.rows.row 2 e))))

  module _ (k : Fixed m) where
    pub shape_test : is_shaped m v ≡ both m.rows.fits (both (stands_above m v) (eqb (in_row m v) 1))
    unfolding is_shaped
    shape_test = if_false _ _ (ne_eqb _ _ k.not_down) ∙ if_false _ _ (ne_eqb _ _ k.not_sparse)

    fits_test : still_fits m v ≡ both m.rows.fits (stands_above m v)
    unfolding still_fits
    fits_test = ap (λ (b : Bool). both m.rows.fits b) (either_rest _ _ (ne_eqb _ _ k.not_sparse))

  -- how many numbers a row has at its end
  row_count : (i c : ℕ) → in_row (with_row i m v) (v + c) ≡ c
  unfolding in_row with_row
  row_count i c = omega arith

-- the row above row j has one number more, or as many as the band
one_more : (band n i j c q : ℕ) → i < n → j ≡ i + 1 → c ≡ min band (n - j + 1) → q ≡ min band (c + 1) → q ≡ min band (n - i + 1)
one_more band n i j c q h e f g = omega arith

one_less : (band n i j c q : ℕ) → i < n → j ≡ i + 1 → c ≡ min band (n - j + 1) → q ≡ min band (n - i + 1) → q ≡ min band (c + 1)
one_less band n i j c q h e f g = omega arith

-- ---- all the rows from one on

-- the rows from row i on have the lengths that a band and N give
pub data LongFrom (band n : ℕ) : ℕ → List Row → Type 0 where
  none : {i : ℕ} → LongFrom band n i []
  more : {i : ℕ} {r : Row} {rs : List Row} → r.count ≡ min band (n - i + 1) → LongFrom band n (i + 1) rs → LongFrom band n i (r ∷ rs)

-- the row being read, with all its numbers, and the rows below it
record Fits (n : ℕ) (m : Matrix) (v : ℕ) (rs : List Row) : Type 0 where
  fits : m.rows.fits ≡ true
  above : 2 ≤ m.rows.row → m.rows.above ≡ min m.band (in_row m v + 1)
  here : in_row m v ≡ min m.band (n - m.rows.row + 1)
  below : LongFrom m.band n (m.rows.row + 1) rs

module _ (m : Matrix) (v n : ℕ) (k : Fixed m) where
  -- the last row
  last_told : n ≡ m.rows.row → is_shaped m v ≡ true → Fits n m v []
  last_told e h =
      let all : both m.rows.fits (both (stands_above m v) (eqb (in_row m v) 1)) ≡ true = sym (shape_test m v k) ∙ h in
      let one : in_row m v ≡ 1 = eqb-true _ _ (both_second _ _ (both_second _ _ all)) in
      let some : 1 ≤ m.band = k.some in
      record {
        fits = both_first _ _ all;
        above = above_told m v (both_first _ _ (both_second _ _ all));
        here = omega arith;
        below = LongFrom.none;
      }

  last_right : n ≡ m.rows.row → Fits n m v [] → is_shaped m v ≡ true
  last_right e h =
      let some : 1 ≤ m.band = k.some in
      let here : in_row m v ≡ min m.band (n - m.rows.row + 1) = h.here in
      let one : in_row m v ≡ 1 = omega arith in
      shape_test m v k ∙ both_true _ _ h.fits (both_true _ _ (above_right m v h.above) (eq-eqb _ _ one))

  module _ (r : Row) (rs : List Row) (low : 1 ≤ m.rows.row) (high : m.rows.row < n) (next : r.number ≡ m.rows.row + 1) where
    -- a row above the others
    row_told : Fits n (with_row r.number m v) (v + r.count) rs → Fits n m v (r ∷ rs)
    unfolding with_row
    row_told h =
        let fit : both m.rows.fits (stands_above m v) ≡ true = sym (fits_test m v k) ∙ h.fits in
        let count : in_row (with_row r.number m v) (v + r.count) ≡ r.count = row_count m v r.number r.count in
        let mine : in_row m v ≡ min m.band (in_row (with_row r.number m v) (v + r.count) + 1) = h.above (omega arith) in
        let its : in_row (with_row r.number m v) (v + r.count) ≡ min m.band (n - r.number + 1) = h.here in
        let later : LongFrom m.band n (r.number + 1) rs = h.below in
        let counted : r.count ≡ min m.band (n - r.number + 1) = sym count ∙ its in
        record {
          fits = both_first _ _ fit;
          above = above_told m v (both_second _ _ fit);
          here = one_more m.band n m.rows.row r.number _ (in_row m v) high next its mine;
          below = LongFrom.more (rw next at counted) (rw next at later);
        }

    row_fits : Fits n m v (r ∷ rs) → Fits n (with_row r.number m v) (v + r.count) rs
    unfolding with_row
    row_fits h = below_fits h.below
      where
        below_fits : LongFrom m.band n (m.rows.row + 1) (r ∷ rs) → Fits n (with_row r.number m v) (v + r.count) rs
        below_fits (LongFrom.more e later) =
            let count : in_row (with_row r.number m v) (v + r.count) ≡ r.count = row_count m v r.number r.count in
            let counted : r.count ≡ min m.band (n - r.number + 1) = rw next e in
            let its : in_row (with_row r.number m v) (v + r.count) ≡ min m.band (n - r.number + 1) = count ∙ counted in
            record {
              fits = fits_test m v k ∙ both_true _ _ h.fits (above_right m v h.above);
              above = λ (g : 2 ≤ r.number). one_less m.band n m.rows.row r.number _ (in_row m v) high next its h.here;
              here = its;
              below = rw next later;
            }

fits_told :
    (rs : List Row) (m : Matrix) (v n : ℕ) → Fixed m → 1 ≤ m.rows.row → n ≡ m.rows.row + length rs → RowsInOrder m v rs →
    is_shaped (after_rows rs m v) (v + rows_count rs) ≡ true → Fits n m v rs
unfolding after_rows rows_count with_row
fits_told [] m v n k low size o h = last_told m v n k (omega arith) (rw (add-zero v) at h)
fits_told (r ∷ rs) m v n k low size (RowsInOrder.more e b o) h =
    let next : r.number ≡ m.rows.row + 1 = row_next r.number m k e in
    let ih : Fits n (with_row r.number m v) (v + r.count) rs =
    fits_told rs (with_row r.number m v) (v + r.count) n (fixed_row r.number m v k) (omega arith) (omega arith) o
    (rw (← add_assoc v r.count (rows_count rs)) at h) in
    row_told m v n k r rs low (omega arith) next ih

fits_shaped :
    (rs : List Row) (m : Matrix) (v n : ℕ) → Fixed m → 1 ≤ m.rows.row → n ≡ m.rows.row + length rs → RowsInOrder m v rs →
    Fits n m v rs → is_shaped (after_rows rs m v) (v + rows_count rs) ≡ true
unfolding after_rows rows_count with_row
fits_shaped [] m v n k low size o h = rw (add-zero v) (last_right m v n k (omega arith) h)
fits_shaped (r ∷ rs) m v n k low size (RowsInOrder.more e b o) h =
    let next : r.number ≡ m.rows.row + 1 = row_next r.number m k e in
    rw (← add_assoc v r.count (rows_count rs))
    (fits_shaped rs (with_row r.number m v) (v + r.count) n (fixed_row r.number m v k) (omega arith) (omega arith) o
    (row_fits m v n k r rs low (omega arith) next h))

-- ---- all the rows

-- a matrix before its first [Row] and number
pub record Unread (m : Matrix) (v : ℕ) : Type 0 where
  pub no_row_lem : m.rows.row ≡ 0
  pub no_number : m.rows.from ≡ v
  pub nothing_wrong : m.rows.fits ≡ true

module _ (m : Matrix) (v : ℕ) (k : Fixed m) (u : Unread m v) where
  none_wrong : is_shaped m v ≡ true → ⊥
  unfolding in_row
  none_wrong h =
      let one : v - m.rows.from ≡ 1 = eqb-true _ _ (both_second _ _ (both_second _ _ (sym (shape_test m v k) ∙ h))) in
      let z : m.rows.from ≡ v = u.no_number in
      omega arith

  module _ (r : Row) (rs : List Row) (next : r.number ≡ m.rows.row + 1) where
    first_number : r.number ≡ 1
    first_number = let z : m.rows.row ≡ 0 = u.no_row_lem in omega arith

    first_told_lem : (n : ℕ) → Fits n (with_row r.number m v) (v + r.count) rs → LongFrom m.band n 1 (r ∷ rs)
    unfolding with_row
    first_told_lem n h =
        let count : in_row (with_row r.number m v) (v + r.count) ≡ r.count = row_count m v r.number r.count in
        let counted : r.count ≡ min m.band (n - r.number + 1) = sym count ∙ h.here in
        let later : LongFrom m.band n (r.number + 1) rs = h.below in
        LongFrom.more (rw first_number at counted) (rw first_number at later)

    first_fits : (n : ℕ) → LongFrom m.band n 1 (r ∷ rs) → Fits n (with_row r.number m v) (v + r.count) rs
    unfolding with_row
    first_fits n (LongFrom.more e later) =
        let count : in_row (with_row r.number m v) (v + r.count) ≡ r.count = row_count m v r.number r.count in
        let counted : r.count ≡ min m.band (n - r.number + 1) = rw first_number e in
        let one : r.number ≡ 1 = first_number in
        let z : m.rows.row ≡ 0 = u.no_row_lem in
        record {
          fits = fits_test m v k ∙ both_true _ _ u.nothing_wrong (above_right m v (λ (g : 2 ≤ m.rows.row). absurd (omega arith)));
          above = λ (g : 2 ≤ r.number). absurd (omega arith);
          here = count ∙ counted;
          below = rw first_number later;
        }

-- a set of rows in order is found right exactly when each has the length that the band and N give
start_told :
    (rs : List Row) (m : Matrix) (v : ℕ) → Fixed m → Unread m v → RowsInOrder m v rs →
    is_shaped (after_rows rs m v) (v + rows_count rs) ≡ true → (1 ≤ length rs) × LongFrom m.band (length rs) 1 rs
unfolding after_rows rows_count with_row
start_told [] m v k u o h = absurd (none_wrong m v k u (rw (add-zero v) at h))
start_told (r ∷ rs) m v k u (RowsInOrder.more e b o) h =
    let next : r.number ≡ m.rows.row + 1 = row_next r.number m k e in
    let one : r.number ≡ 1 = first_number m v k u r rs next in
    let fit : Fits (suc (length rs)) (with_row r.number m v) (v + r.count) rs =
    fits_told rs (with_row r.number m v) (v + r.count) (suc (length rs)) (fixed_row r.number m v k) (omega arith) (omega arith) o
    (rw (← add_assoc v r.count (rows_count rs)) at h) in
    (omega arith, first_told_lem m v k u r rs next (suc (length rs)) fit)

start_shaped :
    (rs : List Row) (m : Matrix) (v : ℕ) → Fixed m → Unread m v → RowsInOrder m v rs → 1 ≤ length rs →
    LongFrom m.band (length rs) 1 rs → is_shaped (after_rows rs m v) (v + rows_count rs) ≡ true
unfolding after_rows rows_count with_row
start_shaped [] m v k u o some h = absurd (omega arith)
start_shaped (r ∷ rs) m v k u (RowsInOrder.more e b o) some h =
    let next : r.number ≡ m.rows.row + 1 = row_next r.number m k e in
    let one : r.number ≡ 1 = first_number m v k u r rs next in
    rw (← add_assoc v r.count (rows_count rs))
    (fits_shaped rs (with_row r.number m v) (v + r.count) (suc (length rs)) (fixed_row r.number m v k) (omega arith) (omega arith) o
    (first_fits m v k u r rs next (suc (length rs)) h))

-- the rows have a number
long_some : (band n : ℕ) (rs : List Row) → 1 ≤ band → 1 ≤ length rs → LongFrom band n 1 rs → 1 ≤ rows_count rs
unfolding rows_count
long_some band n [] h some l = absurd (omega arith)
long_some band n (r ∷ rs) h some (LongFrom.more e l) = omega arith

-- ---- row by row

long_at : {band n i : ℕ} {rs : List Row} → LongFrom band n i rs → (j : ℕ) → j < length rs → (get_or rs j no_row).count ≡ min band (n - (i + j) + 1)
long_at LongFrom.none j h = absurd (omega arith)
long_at {band} {n} {i} (LongFrom.more {r} {rs} e l) zero h =
    let same : i ≡ i + 0 = sym (add-zero i) in
    rw same at e
long_at {band} {n} {i} (LongFrom.more {r} {rs} e l) (suc j) h =
    let ih : (get_or rs j no_row).count ≡ min band (n - (i + 1 + j) + 1) = long_at l j (omega arith) in
    let same : i + 1 + j ≡ i + suc j = omega arith in
    rw same at ih

at_long :
    (band n i : ℕ) (rs : List Row) → ((j : ℕ) → j < length rs → (get_or rs j no_row).count ≡ min band (n - (i + j) + 1)) → LongFrom band n i rs
at_long band n i [] h = LongFrom.none
at_long band n i (r ∷ rs) h =
    let first : r.count ≡ min band (n - (i + 0) + 1) = h 0 (omega arith) in
    LongFrom.more (rw (add-zero i) at first)
    (at_long band n (i + 1) rs
    (λ (j : ℕ) (g : j < length rs).
    let same : i + suc j ≡ i + 1 + j = omega arith in
    let next : (get_or rs j no_row).count ≡ min band (n - (i + suc j) + 1) = h (suc j) (omega arith) in
    rw same at next))

order_at :
    (rs : List Row) (m : Matrix) (v : ℕ) → Fixed m → RowsInOrder m v rs → (j : ℕ) → j < length rs →
    (get_or rs j no_row).number ≡ m.rows.row + 1 + j
unfolding with_row
order_at [] m v k o j h = absurd (omega arith)
order_at (r ∷ rs) m v k (RowsInOrder.more e b o) zero h =
    let next : r.number ≡ m.rows.row + 1 = row_next r.number m k e in
    omega arith
order_at (r ∷ rs) m v k (RowsInOrder.more e b o) (suc j) h =
    let next : r.number ≡ m.rows.row + 1 = row_next r.number m k e in
    let ih : (get_or rs j no_row).number ≡ r.number + 1 + j =
    order_at rs (with_row r.number m v) (v + r.count) (fixed_row r.number m v k) o j (omega arith) in
    omega arith

at_order :
    (rs : List Row) (m : Matrix) (v : ℕ) → Fixed m → ((j : ℕ) → j < length rs → (get_or rs j no_row).number ≡ m.rows.row + 1 + j) →
    m.rows.row + length rs ≤ most_conductors → RowsInOrder m v rs
unfolding with_row
at_order [] m v k h most = RowsInOrder.none
at_order (r ∷ rs) m v k h most =
    let first : r.number ≡ m.rows.row + 1 + 0 = h 0 (omega arith) in
    RowsInOrder.more (row_right r.number m k (omega arith)) (omega arith)
    (at_order rs (with_row r.number m v) (v + r.count) (fixed_row r.number m v k)
    (λ (j : ℕ) (g : j < length rs).
    let next : (get_or rs j no_row).number ≡ m.rows.row + 1 + suc j = h (suc j) (omega arith) in
    omega arith)
    (omega arith))

order_most :
    (rs : List Row) (m : Matrix) (v : ℕ) → Fixed m → RowsInOrder m v rs → m.rows.row ≤ most_conductors →
    m.rows.row + length rs ≤ most_conductors
unfolding with_row
order_most [] m v k o h = omega arith
order_most (r ∷ rs) m v k (RowsInOrder.more e b o) h =
    let next : r.number ≡ m.rows.row + 1 = row_next r.number m k e in
    let ih : r.number + length rs ≤ most_conductors =
    order_most rs (with_row r.number m v) (v + r.count) (fixed_row r.number m v k) o b in
    omega arith

-- a fact of every row from 1 on, and of every place from 0 on
module _ (rows : List Row) where
  row_here : (j : ℕ) → row_at (j + 1) rows ≡ get_or rows j no_row
  unfolding row_at
  row_here j =
      let same : j + 1 - 1 ≡ j = omega arith in
      ap (λ (x : ℕ). get_or rows x no_row) same

  row_there : (i : ℕ) → get_or rows (i - 1) no_row ≡ row_at i rows
  unfolding row_at
  row_there i = refl

-- what the order alone tells
module _ (m : Matrix) (v : ℕ) (k : Fixed m) (u : Unread m v) (rows : List Row) where
  -- rows in the paper's order are in order for the reading
  pub rows_order : (wanted : ℕ → ℕ → ℕ) (n : ℕ) → AreRows wanted n rows → n ≤ most_conductors → RowsInOrder m v rows
  rows_order wanted n h most =
      let size : length rows ≡ n = h.size in
      let z : m.rows.row ≡ 0 = u.no_row_lem in
      at_order rows m v k
      (λ (j : ℕ) (g : j < length rows).
      let at : (row_at (j + 1) rows).number ≡ j + 1 = h.order (j + 1) (omega arith) (omega arith) in
      let same : (row_at (j + 1) rows).number ≡ (get_or rows j no_row).number = ap (λ (r : Row). r.number) (row_here rows j) in
      omega arith)
      (omega arith)

  module _ (o : RowsInOrder m v rows) where
    pub rows_named : (i : ℕ) → 1 ≤ i → i ≤ length rows → (row_at i rows).number ≡ i
    rows_named i a b =
        let z : m.rows.row ≡ 0 = u.no_row_lem in
        let at : (get_or rows (i - 1) no_row).number ≡ m.rows.row + 1 + (i - 1) = order_at rows m v k o (i - 1) (omega arith) in
        let same : (get_or rows (i - 1) no_row).number ≡ (row_at i rows).number = ap (λ (r : Row). r.number) (row_there rows i) in
        omega arith

    pub rows_most : length rows ≤ most_conductors
    rows_most =
        let z : m.rows.row ≡ 0 = u.no_row_lem in
        let most : m.rows.row + length rows ≤ most_conductors = order_most rows m v k o (omega arith) in
        omega arith

    pub rows_conductors : shape_conductors (after_rows rows m v) (v + rows_count rows) ≡ length rows
    unfolding shape_conductors
    rows_conductors =
        let form : (after_rows rows m v).form ≡ m.form = after_form rows m v in
        let row : (after_rows rows m v).rows.row ≡ m.rows.row + length rows = after_row rows m v k o in
        let z : m.rows.row ≡ 0 = u.no_row_lem in
        let last : (after_rows rows m v).rows.row ≡ length rows = omega arith in
        if_false _ _ (ne_eqb _ _ (λ (e : (after_rows rows m v).form ≡ diagonal). k.not_down (sym form ∙ e)))
        ∙ if_false _ _ (ne_eqb _ _ (λ (e : (after_rows rows m v).form ≡ sparse). k.not_sparse (sym form ∙ e)))
        ∙ last

module _
    (wanted : ℕ → ℕ → ℕ)
    (m : Matrix)
    (v : ℕ)
    (k : Fixed m)
    (u : Unread m v)
    (rows : List Row)
    (agree : (i : ℕ) → 1 ≤ i → i ≤ length rows → wanted (length rows) i ≡ min m.band (length rows - i + 1)) where
  long_rows : LongFrom m.band (length rows) 1 rows → (i : ℕ) → 1 ≤ i → i ≤ length rows → (row_at i rows).count ≡ wanted (length rows) i
  long_rows l i a b =
      let at : (get_or rows (i - 1) no_row).count ≡ min m.band (length rows - (1 + (i - 1)) + 1) = long_at l (i - 1) (omega arith) in
      let same : 1 + (i - 1) ≡ i = omega arith in
      ap (λ (r : Row). r.count) (sym (row_there rows i)) ∙ at ∙ ap (λ (x : ℕ). min m.band (length rows - x + 1)) same
      ∙ sym (agree i a b)

  rows_long : ((i : ℕ) → 1 ≤ i → i ≤ length rows → (row_at i rows).count ≡ wanted (length rows) i) → LongFrom m.band (length rows) 1 rows
  rows_long h =
      at_long m.band (length rows) 1 rows
      (λ (j : ℕ) (g : j < length rows).
      let same : j + 1 ≡ 1 + j = omega arith in
      let at : (row_at (j + 1) rows).count ≡ wanted (length rows) (j + 1) = h (j + 1) (omega arith) (omega arith) in
      ap (λ (r : Row). r.count) (sym (row_here rows j)) ∙ at ∙ agree (j + 1) (omega arith) (omega arith)
      ∙ ap (λ (x : ℕ). min m.band (length rows - x + 1)) same)

  module _ (o : RowsInOrder m v rows) where
    pub rows_told : is_shaped (after_rows rows m v) (v + rows_count rows) ≡ true → AreRows wanted (length rows) rows
    rows_told h =
        let told : (1 ≤ length rows) × LongFrom m.band (length rows) 1 rows = start_told rows m v k u o h in
        record {
          some = told.0;
          size = refl;
          order = rows_named m v k u rows o;
          lengths = long_rows told.1;
        }

    pub rows_shaped : (n : ℕ) → AreRows wanted n rows → is_shaped (after_rows rows m v) (v + rows_count rows) ≡ true
    rows_shaped n h =
        let size : length rows ≡ n = h.size in
        let some : 1 ≤ n = h.some in
        start_shaped rows m v k u o (omega arith) (rows_long (rw (← size) at h.lengths))

    pub rows_some : (n : ℕ) → AreRows wanted n rows → 1 ≤ rows_count rows
    rows_some n h =
        let size : length rows ≡ n = h.size in
        let some : 1 ≤ n = h.some in
        long_some m.band (length rows) rows k.some (omega arith) (rows_long (rw (← size) at h.lengths))
