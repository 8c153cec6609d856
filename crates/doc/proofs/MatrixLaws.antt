-- Every matrix of every section of a text that reads to its end is right: its numbers rise and lie within its
-- conductors, which are those of the section, and its rows have the lengths that the paper says.
-- Assumes nothing.
use Prim.Native.Nat.{ℕ, ◌+◌, ◌-◌, ◌≤◌, ◌<◌, min, max}
use mathlib.Core.Path.{◌≡◌, refl, sym, subst}
use mathlib.Core.Bool.{true, false}
use mathlib.Core.List.{List}
use native.Mathlib.Omega.{arith}
use lib.ListN.{length}
use lib.Dec.{eqb}
use borrow.Author.Tests.{eq-eqb, eqb-true, eqb-false}
use Rattle.table_record.specs.declared.Value.{Value}
use Rattle.table_layout.specs.Codes.{diagonal, banded, sparse, full}
use Rattle.base.specs.If.{provided◌then◌else◌}
use Rattle.base.proofs.IfLaws.{if_true, by_test, by_cases}
use Rattle.lex_number.specs.ValueWord.{is_value_word}
use Rattle.line_matrix.specs.Matrix.{new_matrix}
use Rattle.doc.specs.Lines.{Line, key_of}
use Rattle.doc.specs.Document.{Matrix, kind_of, bandwidth_in, values_from, greatest_in, conductors_in, matrix_of}
use Rattle.doc.specs.Holds.{Each, rises}
use Rattle.doc.proofs.RiseLaws.{Inside, Rising, rising_rises, rising_inside}
use Rattle.doc.proofs.ShapeLaws.{Body}
use Rattle.doc.proofs.FormLaws.{
  HasWord,
  body_counts,
  body_words,
  body_some,
  body_width,
  body_narrow,
  sparse_named,
  rows_named,
  diagonal_named,
  body_most,
  diagonal_rises,
  sparse_rises,
}
use Rattle.doc.proofs.RowLaws.{in_row, Rowed, rows_lengths, banded_lengths}
use Rattle.table_layout.specs.Bounds.{most_conductors, most_bandwidth}

-- ---- what is right

-- a value of a matrix of n conductors
pub record RightValue (n : ℕ) (v : Value) : Type 0 where
  pub row : 1 ≤ v.row
  pub column : 1 ≤ v.column
  pub order : v.row ≤ v.column
  pub inside : v.column ≤ n
  pub word : is_value_word v.word ≡ true

pub record RightMatrix (n : ℕ) (m : Matrix) : Type 0 where
  pub rising : rises m.conductors m.values ≡ true
  pub conductors : m.conductors ≡ n
  pub some : 1 ≤ n
  pub few : n ≤ most_conductors
  pub form : m.form ≤ 3
  pub kind : m.kind ≤ 3
  pub bandwidth : m.bandwidth ≤ most_bandwidth
  pub unbanded : (m.form ≡ banded → ⊥) → m.bandwidth ≡ 0
  pub values : Each (RightValue n) m.values
  pub filled : 1 ≤ length m.values

-- "Diagonal_matrix: N numbers", "Full_matrix: .. row i has N-i+1 numbers, diagonal first", "Banded_matrix: .. row i has 1+min(B, N-i)"
pub record RightRows (m : Matrix) : Type 0 where
  pub diagonal : m.form ≡ diagonal → length m.values ≡ m.conductors
  pub full : m.form ≡ full → (i : ℕ) → 1 ≤ i → i ≤ m.conductors → in_row i m.values ≡ m.conductors - i + 1
  pub banded : m.form ≡ banded → (i : ℕ) → 1 ≤ i → i ≤ m.conductors → in_row i m.values ≡ 1 + min m.bandwidth (m.conductors - i)

-- ---- from its lines

kind_most : (k : ℕ) → kind_of k ≤ 3
unfolding kind_of
kind_most k =
    by_test (λ (n : ℕ). n ≤ 3) _ _ _ (λ e. omega arith)
    (λ e. by_test (λ (n : ℕ). n ≤ 3) _ _ _ (λ e. omega arith) (λ e. by_test (λ (n : ℕ). n ≤ 3) _ _ _ (λ e. omega arith) (λ e. omega arith)))

rising_some : {n r c : ℕ} {vs : List Value} → Rising n r c vs → 1 ≤ length vs → 1 ≤ n
rising_some Rising.none h = absurd (omega arith)
rising_some (Rising.more v vs f i t) h = omega (arith, i.low, i.right, i.high)

value_right : (n : ℕ) (v : Value) → Inside n v → HasWord v → RightValue n v
value_right n v i w =
    let a : 1 ≤ v.row = i.low in
    let b : v.row ≤ v.column = i.right in
    record { row = a; column = omega arith; order = b; inside = i.high; word = w }

each_right : {n : ℕ} {vs : List Value} → Each (Inside n) vs → Each HasWord vs → Each (RightValue n) vs
each_right Each.none Each.none = Each.none
each_right (Each.more i is) (Each.more w ws) = Each.more (value_right _ _ i w) (each_right is ws)

-- by its form
by_form : (P : ℕ → Type 0) → P diagonal → P banded → P sparse → P full → (form : ℕ) → form ≤ 3 → P form
by_form P a b c d form h =
    by_cases (P form) (eqb form diagonal) (λ (e : eqb form diagonal ≡ true). subst P (sym (eqb-true form diagonal e)) a)
    (λ (e : eqb form diagonal ≡ false).
    by_cases (P form) (eqb form banded) (λ (f : eqb form banded ≡ true). subst P (sym (eqb-true form banded f)) b)
    (λ (f : eqb form banded ≡ false).
    by_cases (P form) (eqb form sparse) (λ (g : eqb form sparse ≡ true). subst P (sym (eqb-true form sparse g)) c)
    (λ (g : eqb form sparse ≡ false).
    let x : form ≡ diagonal → ⊥ = eqb-false _ _ e in
    let y : form ≡ banded → ⊥ = eqb-false _ _ f in
    let z : form ≡ sparse → ⊥ = eqb-false _ _ g in
    let q : form ≡ full = omega arith in
    subst P (sym q) d)))

module _ (known n w v : ℕ) (body : List Line) where
  new_diagonal : Body known n w (new_matrix diagonal v) v body → Rising n 1 1 (values_from diagonal 1 1 body)
  unfolding new_matrix
  new_diagonal b = diagonal_rises known n w b refl 1 refl (omega arith)

  new_sparse : Body known n w (new_matrix sparse v) v body → Rising n 1 1 (values_from sparse 1 1 body)
  unfolding new_matrix
  new_sparse b = sparse_rises known n w b refl refl

  new_banded : Body known n w (new_matrix banded v) v body → Rowed n (bandwidth_in body + 1) (values_from banded 1 1 body)
  unfolding new_matrix provided◌then◌else◌
  new_banded b = banded_lengths known n w b refl refl refl

  new_full : Body known n w (new_matrix full v) v body → Rowed n most_conductors (values_from full 1 1 body)
  unfolding new_matrix provided◌then◌else◌
  new_full b =
      rows_lengths known n w b (λ (e : full ≡ diagonal). omega arith) (λ (e : full ≡ sparse). omega arith)
      (λ (e : most_conductors ≡ 0). omega arith) refl

  new_rises : (form : ℕ) → form ≤ 3 → Body known n w (new_matrix form v) v body → Rising n 1 1 (values_from form 1 1 body)
  new_rises =
      by_form (λ (form : ℕ). Body known n w (new_matrix form v) v body → Rising n 1 1 (values_from form 1 1 body))
      new_diagonal
      (λ (b : Body known n w (new_matrix banded v) v body). (new_banded b).rises)
      new_sparse
      (λ (b : Body known n w (new_matrix full v) v body). (new_full b).rises)

  module _ (form : ℕ) (b : Body known n w (new_matrix form v) v body) where
    new_counts : v + length (values_from form 1 1 body) ≡ w
    unfolding new_matrix
    new_counts = body_counts known n w b 1 1

    new_words : Each HasWord (values_from form 1 1 body)
    unfolding new_matrix
    new_words = body_words known n w b 1 1

    new_filled : 1 ≤ length (values_from form 1 1 body)
    unfolding new_matrix
    new_filled =
        let a : v < w = body_some known n w b in
        let c : v + length (values_from form 1 1 body) ≡ w = new_counts in
        omega arith

    new_width : (form ≡ banded → ⊥) → bandwidth_in body ≡ 0
    unfolding new_matrix
    new_width f = body_width known n w b f

    new_most : n ≤ most_conductors
    unfolding new_matrix
    new_most = body_most known n w b (omega arith) (omega arith)

    new_conductors : conductors_in form body ≡ n
    unfolding conductors_in new_matrix
    new_conductors =
        by_test (λ (x : ℕ). x ≡ n) (eqb form diagonal) _ _
        (λ (e : eqb form diagonal ≡ true).
        let d : w - v ≡ n = diagonal_named known n w b (eqb-true _ _ e) in
        let c : v + length (values_from form 1 1 body) ≡ w = new_counts in
        omega arith)
        (λ (e : eqb form diagonal ≡ false).
        by_cases (greatest_in form body ≡ n) (eqb form sparse)
        (λ (f : eqb form sparse ≡ true).
        let g : max 0 (greatest_in form body) ≡ n = sparse_named known n w b (eqb-true _ _ f) in
        omega arith)
        (λ (f : eqb form sparse ≡ false).
        let g : max 0 (greatest_in form body) ≡ n = rows_named known n w b (eqb-false _ _ e) (eqb-false _ _ f) in
        omega arith))

    pub new_some : form ≤ 3 → 1 ≤ n
    new_some f = rising_some (new_rises form f b) new_filled

    pub new_right : (l : Line) → form ≤ 3 → RightMatrix n (matrix_of l form body)
    unfolding matrix_of
    new_right l f =
        let t : Rising n 1 1 (values_from form 1 1 body) = new_rises form f b in
        record {
          rising = rw new_conductors (rising_rises t);
          conductors = new_conductors;
          some = new_some f;
          few = new_most;
          form = f;
          kind = kind_most (key_of l);
          bandwidth = body_narrow known n w b;
          unbanded = new_width;
          values = each_right (rising_inside t) new_words;
          filled = new_filled;
        }

    -- the rows, by the form
    diagonal_long : form ≡ diagonal → length (values_from form 1 1 body) ≡ conductors_in form body
    unfolding conductors_in
    diagonal_long e = sym (if_true _ _ (eq-eqb _ _ e))

    full_lengths : form ≡ full → (i : ℕ) → 1 ≤ i → i ≤ n → in_row i (values_from form 1 1 body) ≡ n - i + 1
    full_lengths e i low high =
        let r : Rowed n most_conductors (values_from full 1 1 body) = new_full (rw e at b) in
        let g : in_row i (values_from full 1 1 body) ≡ min most_conductors (n - i + 1) = r.lengths i low high in
        let h : n ≤ most_conductors = new_most in
        rw e (omega arith)

    band_lengths : form ≡ banded → (i : ℕ) → 1 ≤ i → i ≤ n → in_row i (values_from form 1 1 body) ≡ 1 + min (bandwidth_in body) (n - i)
    band_lengths e i low high =
        let r : Rowed n (bandwidth_in body + 1) (values_from banded 1 1 body) = new_banded (rw e at b) in
        let g : in_row i (values_from banded 1 1 body) ≡ min (bandwidth_in body + 1) (n - i + 1) = r.lengths i low high in
        rw e (omega arith)

    pub new_rows : (l : Line) → RightRows (matrix_of l form body)
    unfolding matrix_of
    new_rows l = record { diagonal = diagonal_long; full = rw new_conductors full_lengths; banded = rw new_conductors band_lengths }
