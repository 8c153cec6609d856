-- Full_matrix and Banded_matrix, the forms whose rows have fixed lengths: each row fits the next and the last has one
-- number, so that row i has the paper's "N-i+1 numbers, diagonal first", or "1+min(B, N-i)".
-- Assumes nothing.
use Prim.Native.Nat.{ℕ, suc, ◌+◌, ◌-◌, ◌≤◌, ◌<◌, min}
use mathlib.Core.Path.{◌≡◌, refl, sym, ◌∙◌, ap}
use mathlib.Core.Bool.{true, false}
use mathlib.Core.List.{List, [], ◌∷◌, ◌++◌}
use native.Mathlib.Nat.{add-zero, zero-add}
use native.Mathlib.Omega.{arith}
use lib.ListN.{length}
use lib.Dec.{eqb}
use borrow.Author.Tests.{eq-eqb, ne_eqb, eqb-true, eqb-false, le-ltb}
use Rattle.table_record.specs.declared.Value.{Value}
use Rattle.table_layout.specs.Codes.{diagonal, banded, sparse}
use Rattle.base.specs.If.{provided◌then◌else◌, both, either}
use Rattle.base.proofs.IfLaws.{if_true, if_false, by_cases, both_first, both_second, either_rest}
use Rattle.lex_line.specs.Words.{words}
use Rattle.line_matrix.specs.declared.Matrix.{Matrix}
use Rattle.line_matrix.specs.Matrix.{with_bandwidth, stands_above, still_fits, with_row}
use Rattle.line_matrix.specs.Matrix as matrix
use Rattle.doc.specs.Lines.{Line}
use Rattle.doc.specs.Document.{numbers_at, values_from, given_by, bandwidth_in}
use Rattle.doc.proofs.RiseLaws.{
  From,
  Rising,
  rising_below,
  number_at,
  numbers_none,
  numbers_along,
  along_rises,
  values_none,
  values_row,
  values_width,
  values_along,
}
use Rattle.doc.proofs.ShapeLaws.{LastRow, Body}
use Rattle.doc.proofs.ShapeLaws.Body.{closes, numbers, pair, starts, widens}
use Rattle.doc.proofs.FormLaws.{width_here}

-- ---- how many of the values are in row i

unfoldable pub in_row : ℕ → List Value → ℕ
in_row i [] = 0
in_row i (v ∷ vs) = provided eqb v.row i then suc (in_row i vs) else in_row i vs

row_none : (i : ℕ) → in_row i [] ≡ 0
unfolding in_row
row_none i = refl

row_here : (i : ℕ) (v : Value) (vs : List Value) → v.row ≡ i → in_row i (v ∷ vs) ≡ suc (in_row i vs)
unfolding in_row
row_here i v vs e = if_true _ _ (eq-eqb _ _ e)

row_other : (i : ℕ) (v : Value) (vs : List Value) → (v.row ≡ i → ⊥) → in_row i (v ∷ vs) ≡ in_row i vs
unfolding in_row
row_other i v vs e = if_false _ _ (ne_eqb _ _ e)

-- none is in a row above where they start
row_above : {n r c : ℕ} {vs : List Value} (i : ℕ) → i < r → Rising n r c vs → in_row i vs ≡ 0
row_above i h Rising.none = row_none i
row_above i h (Rising.more v vs (From.below g) j t) = row_other i v vs (λ (e : v.row ≡ i). omega arith) ∙ row_above i (omega arith) t
row_above i h (Rising.more v vs (From.along q g) j t) = row_other i v vs (λ (e : v.row ≡ i). omega arith) ∙ row_above i (omega arith) t

module _ (form r : ℕ) (d : form ≡ diagonal → ⊥) (vs : List Value) where
  numbers_here : (c : ℕ) (ws : List (List ℕ)) → in_row r (numbers_at form r c ws ++ vs) ≡ length ws + in_row r vs
  numbers_here c [] = rw (numbers_none form r c) (omega arith)
  numbers_here c (w ∷ ws) =
      let ih : in_row r (numbers_at form r (c + 1) ws ++ vs) ≡ length ws + in_row r vs = numbers_here (c + 1) ws in
      rw (numbers_along form r c w ws d, row_here r (number_at r c w) (numbers_at form r (c + 1) ws ++ vs) refl) (omega arith)

  numbers_other : (i : ℕ) → (r ≡ i → ⊥) → (c : ℕ) (ws : List (List ℕ)) → in_row i (numbers_at form r c ws ++ vs) ≡ in_row i vs
  numbers_other i h c [] = rw (numbers_none form r c)
  numbers_other i h c (w ∷ ws) =
      rw (numbers_along form r c w ws d, row_other i (number_at r c w) (numbers_at form r (c + 1) ws ++ vs) h) (numbers_other i h (c + 1) ws)

-- ---- the rows from the one being read on, of which q numbers are read

record Lengths (n q : ℕ) (m : Matrix) (vs : List Value) : Type 0 where
  fits : m.rows.fits ≡ true
  last : m.rows.row ≤ n
  above : 2 ≤ m.rows.row → m.rows.above ≡ min m.band (min m.band (n - m.rows.row + 1) + 1)
  here : in_row m.rows.row vs + q ≡ min m.band (n - m.rows.row + 1)
  below : (i : ℕ) → m.rows.row < i → i ≤ n → in_row i vs ≡ min m.band (n - i + 1)
  rises : Rising n m.rows.row (m.rows.row + q) vs

-- the row above row i has one number more, or as many as the band
one_more : (band n i r : ℕ) → i ≤ n → i ≡ r + 1 → min band (min band (n - i + 1) + 1) ≡ min band (n - r + 1)
one_more band n i r h e = omega arith

further : (i j r : ℕ) → i ≡ r + 1 → r < j → (i ≡ j → ⊥) → i < j
further i j r e h g = omega arith

module _ (m : Matrix) (v q : ℕ) (count : v ≡ m.rows.from + q) where
  count_told : matrix.in_row m v ≡ q
  unfolding matrix.in_row
  count_told = omega arith

  above_told : stands_above m v ≡ true → 2 ≤ m.rows.row → m.rows.above ≡ min m.band (q + 1)
  unfolding stands_above
  above_told h g =
      let e : m.rows.above ≡ min m.band (matrix.in_row m v + 1) = eqb-true _ _ (sym (either_rest _ _ (le-ltb _ _ g)) ∙ h) in
      rw count_told at e

  module _ (n : ℕ) (some : m.band ≡ 0 → ⊥) where
    -- at the end
    lengths_last : LastRow n m v → Lengths n q m []
    lengths_last h =
        let last : m.rows.row ≡ n = h.last in
        let one : q ≡ 1 = sym count_told ∙ h.one in
        record {
          fits = h.fits;
          last = omega arith;
          above = λ (g : 2 ≤ m.rows.row). let e : m.rows.above ≡ min m.band (q + 1) = above_told h.above g in omega arith;
          here = rw (row_none m.rows.row) (omega arith);
          below = λ (i : ℕ) (a : m.rows.row < i) (b : i ≤ n). absurd (omega arith);
          rises = Rising.none;
        }

    -- a line of numbers in front
    lengths_numbers :
        (d : m.form ≡ diagonal → ⊥) → 1 ≤ m.rows.row → (ws : List (List ℕ)) (vs : List Value) → Lengths n (q + length ws) m vs →
        Lengths n q m (numbers_at m.form m.rows.row (m.rows.row + q) ws ++ vs)
    lengths_numbers d low ws vs ih =
        let here : in_row m.rows.row vs + (q + length ws) ≡ min m.band (n - m.rows.row + 1) = ih.here in
        let last : m.rows.row ≤ n = ih.last in
        record {
          fits = ih.fits;
          last = last;
          above = ih.above;
          here = rw (numbers_here m.form m.rows.row d vs (m.rows.row + q) ws) (omega arith);
          below =
              λ (i : ℕ) (a : m.rows.row < i) (b : i ≤ n).
              numbers_other m.form m.rows.row d vs i (λ (e : m.rows.row ≡ i). omega arith) (m.rows.row + q) ws ∙ ih.below i a b;
          rises =
              along_rises m.form n m.rows.row (m.rows.row + q) (m.rows.row + (q + length ws)) ws vs d low
              (omega arith) (omega arith) (omega arith) ih.rises;
        }

    -- a [Row] in front
    lengths_row :
        (f : m.form ≡ sparse → ⊥) → 1 ≤ m.rows.row → (i : ℕ) → i ≡ m.rows.row + 1 → (vs : List Value) →
        Lengths n 0 (with_row i m v) vs → Lengths n q m vs
    unfolding with_row still_fits
    lengths_row f low i next vs ih =
        let fit : both m.rows.fits (either (eqb m.form sparse) (stands_above m v)) ≡ true = ih.fits in
        let stand : stands_above m v ≡ true = sym (either_rest _ _ (ne_eqb _ _ f)) ∙ both_second _ _ fit in
        let last : i ≤ n = ih.last in
        let told : matrix.in_row m v ≡ min m.band (min m.band (n - i + 1) + 1) = ih.above (omega arith) in
        let mine : q ≡ min m.band (n - m.rows.row + 1) = sym count_told ∙ told ∙ one_more m.band n i m.rows.row last next in
        let none : in_row m.rows.row vs ≡ 0 = row_above m.rows.row (omega arith) ih.rises in
        let first : in_row i vs ≡ min m.band (n - i + 1) = sym (add-zero (in_row i vs)) ∙ ih.here in
        record {
          fits = both_first _ _ fit;
          last = omega arith;
          above = λ (g : 2 ≤ m.rows.row). above_told stand g ∙ ap (λ (x : ℕ). min m.band (x + 1)) mine;
          here = ap (λ (x : ℕ). x + q) none ∙ zero-add q ∙ mine;
          below =
              λ (j : ℕ) (a : m.rows.row < j) (b : j ≤ n).
              by_cases (in_row j vs ≡ min m.band (n - j + 1)) (eqb i j)
              (λ (e : eqb i j ≡ true). rw (← eqb-true i j e) first)
              (λ (e : eqb i j ≡ false). ih.below j (further i j m.rows.row next a (eqb-false i j e)) b);
          rises = rising_below m.rows.row (m.rows.row + q) (omega arith) ih.rises;
        }

module _ (known n w : ℕ) where
  lengths :
      {m : Matrix} {v : ℕ} {ls : List Line} → Body known n w m v ls → (m.form ≡ diagonal → ⊥) → (m.form ≡ sparse → ⊥) →
      (m.band ≡ 0 → ⊥) → 1 ≤ m.rows.row → (q : ℕ) → v ≡ m.rows.from + q →
      Lengths n q m (values_from m.form m.rows.row (m.rows.row + q) ls)
  unfolding with_row
  lengths (closes m v h e) d f some low q count =
      rw (values_none m.form m.rows.row (m.rows.row + q)) (lengths_last m v q count n some (h.rows d f))
  lengths (numbers m v l ls k s p h b) d f some low q count =
      let size : ℕ = length (words l.content) in
      let ih : Lengths n (q + size) m (values_from m.form m.rows.row (m.rows.row + (q + size)) ls) =
      lengths b d f some low (q + size) (omega arith) in
      let e : m.rows.row + (q + size) ≡ m.rows.row + q + size = omega arith in
      rw (values_along m.form m.rows.row (m.rows.row + q) l ls k d f)
      (lengths_numbers m v q count n some d low (words l.content) _ (rw e at ih))
  lengths (pair m v l ls k s p h b) d f some low q count = absurd (f s)
  lengths (starts m v l ls k h b) d f some low q count =
      let ih : Lengths n 0 (with_row (given_by l) m v) (values_from m.form (given_by l) (given_by l + 0) ls) =
      lengths b d f some h.low 0 (sym (add-zero v)) in
      rw (values_row m.form m.rows.row (m.rows.row + q) l ls k)
      (lengths_row m v q count n some f low (given_by l) (h.next f) _ (rw (add-zero (given_by l)) at ih))
  lengths (widens m v l ls k h b) d f some low q count =
      let g : m.rows.row ≡ 0 = h.above in
      absurd (omega arith)

-- ---- all the rows

pub record Rowed (n band : ℕ) (vs : List Value) : Type 0 where
  pub rises : Rising n 1 1 vs
  pub lengths : (i : ℕ) → 1 ≤ i → i ≤ n → in_row i vs ≡ min band (n - i + 1)

module _ (n band : ℕ) where
  rowed_none : n ≡ 0 → Rowed n band []
  rowed_none e = record { rises = Rising.none; lengths = λ (i : ℕ) (a : 1 ≤ i) (b : i ≤ n). absurd (omega arith) }

  -- from [Row] 1 on
  rowed_first : (m : Matrix) (v i : ℕ) (vs : List Value) → m.band ≡ band → i ≡ 1 → Lengths n 0 (with_row i m v) vs → Rowed n band vs
  unfolding with_row
  rowed_first m v i vs same first h =
      let one : in_row i vs ≡ min m.band (n - i + 1) = sym (add-zero (in_row i vs)) ∙ h.here in
      let start : Rising n i i vs = rw (add-zero i) at h.rises in
      record {
        rises = rw first at start;
        lengths =
            λ (j : ℕ) (a : 1 ≤ j) (b : j ≤ n).
            by_cases (in_row j vs ≡ min band (n - j + 1)) (eqb i j)
            (λ (e : eqb i j ≡ true). rw (← eqb-true i j e, ← same) one)
            (λ (e : eqb i j ≡ false). let g : i ≡ j → ⊥ = eqb-false i j e in rw (← same) (h.below j (omega arith) b));
      }

module _ (known n w : ℕ) where
  pub rows_lengths :
      {m : Matrix} {v : ℕ} {ls : List Line} → Body known n w m v ls → (m.form ≡ diagonal → ⊥) → (m.form ≡ sparse → ⊥) →
      (m.band ≡ 0 → ⊥) → m.rows.row ≡ 0 → Rowed n m.band (values_from m.form 1 1 ls)
  unfolding with_row
  rows_lengths (closes m v h e) d f some z =
      let last : m.rows.row ≡ n = (h.rows d f).last in
      rw (values_none m.form 1 1) (rowed_none n m.band (omega arith))
  rows_lengths (numbers m v l ls k s p h b) d f some z = absurd (p d z)
  rows_lengths (pair m v l ls k s p h b) d f some z = absurd (f s)
  rows_lengths (starts m v l ls k h b) d f some z =
      let next : given_by l ≡ m.rows.row + 1 = h.next f in
      let ih : Lengths n 0 (with_row (given_by l) m v) (values_from m.form (given_by l) (given_by l + 0) ls) =
      lengths known n w b d f some h.low 0 (sym (add-zero v)) in
      rw (values_row m.form 1 1 l ls k) (rowed_first n m.band m v (given_by l) _ refl (omega arith) (rw (add-zero (given_by l)) at ih))
  rows_lengths (widens m v l ls k h b) d f some z = absurd (some h.once)

  -- "[Bandwidth] B, then [Row] 1 to N"
  pub banded_lengths :
      {m : Matrix} {v : ℕ} {ls : List Line} → Body known n w m v ls → m.form ≡ banded → m.band ≡ 0 → m.rows.row ≡ 0 →
      Rowed n (bandwidth_in ls + 1) (values_from m.form 1 1 ls)
  unfolding with_bandwidth
  banded_lengths (closes m v h e) f none z =
      let last : m.rows.row ≡ n = (h.rows (λ (d : m.form ≡ diagonal). omega arith) (λ (s : m.form ≡ sparse). omega arith)).last in
      rw (values_none m.form 1 1) (rowed_none n (bandwidth_in [] + 1) (omega arith))
  banded_lengths (numbers m v l ls k s p h b) f none z = absurd (p (λ (d : m.form ≡ diagonal). omega arith) z)
  banded_lengths (pair m v l ls k s p h b) f none z = absurd (omega (arith, s))
  banded_lengths (starts m v l ls k h b) f none z = absurd (h.banded (λ (s : m.form ≡ sparse). omega arith) none)
  banded_lengths (widens m v l ls k h b) f none z =
      rw (values_width m.form 1 1 l ls k, width_here l ls k)
      (rows_lengths b (λ (d : m.form ≡ diagonal). omega arith) (λ (s : m.form ≡ sparse). omega arith)
      (λ (e : given_by l + 1 ≡ 0). omega arith) z)
