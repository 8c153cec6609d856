-- The lines of a matrix that breaks no rule, and what follows for its numbers, form by form. The rules of
-- each line are taken apart once; the laws go by induction over the lines, from the state of the forward
-- reading at a line to the keyword that closes the matrix.
-- Assumes nothing.
use Rattle.std.proofs.Common.{is_some, unwrap_or}
use Prim.Native.Nat.{ℕ, ◌+◌, ◌-◌, ◌≤◌, ◌<◌}
use mathlib.Core.Path.{◌≡◌, refl, sym, ◌∙◌, ap}
use mathlib.Core.Bool.{Bool, true, false, not, true≢false}
use mathlib.Core.List.{List, [], ◌∷◌}
use mathlib.Core.Logic.{◌⊎◌, inl, inr}
use native.Mathlib.Omega.{arith}
use lib.ListN.{length, get_or}
use lib.Dec.{eqb}
use borrow.Author.Tests.{eq-eqb, ne_eqb, eqb-true, eqb-false, leb-true, leb-false, ltb-false, not-false}
use Rattle.table_layout.specs.Codes.{diagonal, banded, sparse}
use Rattle.table_layout.specs.Bounds.{most_conductors, most_bandwidth}
use Rattle.base.specs.If.{both, either}
use Rattle.base.specs.Bytes.{within}
use Rattle.base.specs.Broken.{Rule, ◌when◌}
use Rattle.base.proofs.IfLaws.{
  if_true,
  if_false,
  by_cases,
  both_first,
  both_second,
  both_rest,
  either_none_first,
  either_none_second,
  not_via,
}
use Rattle.base.proofs.BrokenLaws.{sound, all_kept}
use Rattle.lex_line.specs.Words.{words, first_of, second_of}
use Rattle.lex_number.specs.Integer.{whole_of, is_whole_within}
use Rattle.lex_number.proofs.IntegerLaws.{whole_within}
use Rattle.lex_keyword.specs.Names.{row, bandwidth}
use Rattle.line_matrix.specs.declared.Matrix.{Matrix}
use Rattle.line_matrix.specs.declared.DataLine.{DataLine}
use Rattle.line_matrix.specs.Matrix.{is_wrong_bandwidth, is_wrong_row, with_bandwidth, in_row, stands_above, with_row, number_check, are_formed, are_bounded, numbers_line, sparse_line, data_line_of, is_data_out_of_order, are_too_many, with_column, data_next, shape_conductors, is_shaped, is_wrong_shape, is_too_wide}
use Rattle.line_matrix.specs.Way.Rule.{data_rule}
use Rattle.doc.specs.Lines.{Line, plain, key_of}
use Rattle.doc.specs.Document.{given_by}

-- ---- what the rules of a line give

-- a data line is below a [Row], if the form has rows
abbrev Placed : Matrix → Type 0
Placed m = (m.form ≡ diagonal → ⊥) → m.rows.row ≡ 0 → ⊥

-- a line of numbers
pub record Numbers (l : Line) : Type 0 where
  pub formed : are_formed (words l.content) ≡ true
  pub bounded : are_bounded (words l.content) ≡ true

abbrev pub column_of : Line → ℕ
column_of l = unwrap_or (whole_of (first_of (words l.content))) 0

-- "column value"
pub record Pair (l : Line) : Type 0 where
  pub low : 1 ≤ column_of l
  pub high : column_of l ≤ most_conductors
  pub formed : (number_check (second_of (words l.content))).formed ≡ true
  pub bounded : (number_check (second_of (words l.content))).bounded ≡ true

-- [Row] i
pub record Follows (m : Matrix) (i : ℕ) : Type 0 where
  pub low : 1 ≤ i
  pub high : i ≤ most_conductors
  pub rowed : m.form ≡ diagonal → ⊥
  pub rises : m.form ≡ sparse → m.rows.row < i
  pub banded : (m.form ≡ sparse → ⊥) → m.band ≡ 0 → ⊥
  pub next : (m.form ≡ sparse → ⊥) → i ≡ m.rows.row + 1

-- [Bandwidth] b
pub record Widens (m : Matrix) (b : ℕ) : Type 0 where
  pub form : m.form ≡ banded
  pub once : m.band ≡ 0
  pub above : m.rows.row ≡ 0
  pub high : b ≤ most_bandwidth

-- the rows at the keyword that closes a form with rows
pub record LastRow (n : ℕ) (m : Matrix) (v : ℕ) : Type 0 where
  pub fits : m.rows.fits ≡ true
  pub above : stands_above m v ≡ true
  pub one : in_row m v ≡ 1
  pub last : m.rows.row ≡ n

-- the keyword that closes a matrix of n conductors; `known` are those of the matrices before it
pub record Closed (known n : ℕ) (m : Matrix) (v : ℕ) : Type 0 where
  pub some : m.first < v
  pub same : (known ≡ 0) ⊎ (known ≡ n)
  pub down : m.form ≡ diagonal → v - m.first ≡ n
  pub narrow : m.form ≡ diagonal → n ≤ most_conductors
  pub fits : m.form ≡ sparse → m.rows.fits ≡ true
  pub named : m.form ≡ sparse → m.rows.greatest ≡ n
  pub rows : (m.form ≡ diagonal → ⊥) → (m.form ≡ sparse → ⊥) → LastRow n m v

-- the lines of a matrix from a state of it on; v values are read there, and w at its end
pub data Body (known n w : ℕ) : Matrix → ℕ → List Line → Type 0 where
  closes : (m : Matrix) (v : ℕ) → Closed known n m v → v ≡ w → Body known n w m v []
  numbers :
      (m : Matrix) (v : ℕ) (l : Line) (ls : List Line) →
      key_of l ≡ plain → (m.form ≡ sparse → ⊥) → Placed m → Numbers l →
      Body known n w m (v + length (words l.content)) ls → Body known n w m v (l ∷ ls)
  pair :
      (m : Matrix) (v : ℕ) (l : Line) (ls : List Line) →
      key_of l ≡ plain → m.form ≡ sparse → Placed m → Pair l →
      Body known n w (with_column (column_of l) m) (v + 1) ls → Body known n w m v (l ∷ ls)
  starts :
      (m : Matrix) (v : ℕ) (l : Line) (ls : List Line) →
      key_of l ≡ row → Follows m (given_by l) →
      Body known n w (with_row (given_by l) m v) v ls → Body known n w m v (l ∷ ls)
  widens :
      (m : Matrix) (v : ℕ) (l : Line) (ls : List Line) →
      key_of l ≡ bandwidth → Widens m (given_by l) →
      Body known n w (with_bandwidth (given_by l) m) v ls → Body known n w m v (l ∷ ls)

-- one of two tests holds
one_of : (a b : Bool) → both (not a) (not b) ≡ false → (a ≡ true) ⊎ (b ≡ true)
unfolding both
one_of true b e = inl refl
one_of false true e = inr refl
one_of false false e = absurd (true≢false e)

module _ (known : ℕ) (m : Matrix) (v : ℕ) (wrong : is_wrong_shape m known v ≡ false) (wide : is_too_wide m v ≡ false) where
  closed_shape : either (not (is_shaped m v)) (both (not (eqb known 0)) (not (eqb known (shape_conductors m v)))) ≡ false
  unfolding is_wrong_shape
  closed_shape = either_none_second _ _ wrong

  closed_shaped : is_shaped m v ≡ true
  closed_shaped = not-false _ (either_none_first _ _ closed_shape)

  closed_some : m.first < v
  unfolding is_wrong_shape
  closed_some = leb-false v m.first (either_none_first _ _ wrong)

  closed_same : (known ≡ 0) ⊎ (known ≡ shape_conductors m v)
  closed_same = told (one_of (eqb known 0) (eqb known (shape_conductors m v)) (either_none_second _ _ closed_shape))
    where
      told : (eqb known 0 ≡ true) ⊎ (eqb known (shape_conductors m v) ≡ true) → (known ≡ 0) ⊎ (known ≡ shape_conductors m v)
      told (inl e) = inl (eqb-true _ _ e)
      told (inr e) = inr (eqb-true _ _ e)

  closed_narrow : m.form ≡ diagonal → shape_conductors m v ≤ most_conductors
  unfolding is_too_wide
  closed_narrow d = ltb-false most_conductors (shape_conductors m v) (sym (both_rest _ _ (eq-eqb _ _ d)) ∙ wide)

  closed_down : m.form ≡ diagonal → v - m.first ≡ shape_conductors m v
  unfolding shape_conductors
  closed_down d = sym (if_true _ _ (eq-eqb _ _ d))

  module _ (f : m.form ≡ sparse) where
    sparse_rowed : eqb m.form diagonal ≡ false
    sparse_rowed = ap (λ (x : ℕ). eqb x diagonal) f

    closed_fits : m.rows.fits ≡ true
    unfolding is_shaped
    closed_fits = sym (if_false _ _ sparse_rowed ∙ if_true _ _ (eq-eqb _ _ f)) ∙ closed_shaped

    closed_named : m.rows.greatest ≡ shape_conductors m v
    unfolding shape_conductors
    closed_named = sym (if_false _ _ sparse_rowed ∙ if_true _ _ (eq-eqb _ _ f))

  module _ (d : m.form ≡ diagonal → ⊥) (f : m.form ≡ sparse → ⊥) where
    closed_lengths : both m.rows.fits (both (stands_above m v) (eqb (in_row m v) 1)) ≡ true
    unfolding is_shaped
    closed_lengths = sym (if_false _ _ (ne_eqb _ _ d) ∙ if_false _ _ (ne_eqb _ _ f)) ∙ closed_shaped

    closed_last : m.rows.row ≡ shape_conductors m v
    unfolding shape_conductors
    closed_last = sym (if_false _ _ (ne_eqb _ _ d) ∙ if_false _ _ (ne_eqb _ _ f))

    closed_rows : LastRow (shape_conductors m v) m v
    closed_rows =
        record {
          fits = both_first _ _ closed_lengths;
          above = both_first _ _ (both_second _ _ closed_lengths);
          one = eqb-true _ _ (both_second _ _ (both_second _ _ closed_lengths));
          last = closed_last;
        }

  pub closed_told : Closed known (shape_conductors m v) m v
  closed_told =
      record {
        some = closed_some;
        same = closed_same;
        down = closed_down;
        narrow = closed_narrow;
        fits = closed_fits;
        named = closed_named;
        rows = closed_rows;
      }

-- [Row] and [Bandwidth]
module _ (m : Matrix) (i : ℕ) (wrong : is_wrong_row i m ≡ false) where
  row_rowed : m.form ≡ diagonal → ⊥
  unfolding is_wrong_row
  row_rowed d = true≢false (sym (if_true _ _ (eq-eqb _ _ d)) ∙ wrong)

  row_rises : m.form ≡ sparse → m.rows.row < i
  unfolding is_wrong_row
  row_rises f = leb-false i m.rows.row (sym (if_false _ _ (ne_eqb _ _ row_rowed) ∙ if_true _ _ (eq-eqb _ _ f)) ∙ wrong)

  module _ (f : m.form ≡ sparse → ⊥) where
    row_rest : either (eqb m.band 0) (not (eqb i (m.rows.row + 1))) ≡ false
    unfolding is_wrong_row
    row_rest = sym (if_false _ _ (ne_eqb _ _ row_rowed) ∙ if_false _ _ (ne_eqb _ _ f)) ∙ wrong

    row_banded : m.band ≡ 0 → ⊥
    row_banded = eqb-false _ _ (either_none_first _ _ row_rest)

    row_next : i ≡ m.rows.row + 1
    row_next = eqb-true _ _ (not-false _ (either_none_second _ _ row_rest))

  pub row_told : 1 ≤ i → i ≤ most_conductors → Follows m i
  row_told a b = record { low = a; high = b; rowed = row_rowed; rises = row_rises; banded = row_banded; next = row_next }

pub width_told : (m : Matrix) (b : ℕ) → is_wrong_bandwidth m ≡ false → b ≤ most_bandwidth → Widens m b
unfolding is_wrong_bandwidth
width_told m b wrong h =
    let rest : either (not (eqb m.band 0)) (not (eqb m.rows.row 0)) ≡ false = either_none_second _ _ wrong in
    record {
      form = eqb-true _ _ (not-false _ (either_none_first _ _ wrong));
      once = eqb-true _ _ (not-false _ (either_none_first _ _ rest));
      above = eqb-true _ _ (not-false _ (either_none_second _ _ rest));
      high = h;
    }

-- ---- data lines

module _ (d : DataLine) (m : Matrix) (v : ℕ) (kept : data_rule d m v ≡ 0) where
  -- the tests of its rules, in their order
  abbrev data_tests : List Rule
  data_tests =
      12 when is_data_out_of_order d m ∷ 13 when not d.formed ∷ 14 when not d.bounded ∷ 17 when are_too_many v d.numbers ∷ []

  data_test : (i : ℕ) → (get_or data_tests i sound).broken ≡ false
  unfolding data_rule
  data_test i = all_kept data_tests (omega arith, (omega arith, (omega arith, (omega arith, tt)))) kept i

  data_right : d.right ≡ true
  unfolding is_data_out_of_order
  data_right = not-false _ (either_none_first _ _ (data_test 0))

  data_placed : Placed m
  unfolding is_data_out_of_order
  data_placed f e =
      true≢false
      (sym (eq-eqb m.rows.row 0 e)
      ∙ sym (both_rest _ _ (not_via (ne_eqb m.form diagonal f)))
      ∙ either_none_second _ _ (data_test 0))

  data_formed : d.formed ≡ true
  data_formed = not-false _ (data_test 1)

  data_bounded : d.bounded ≡ true
  data_bounded = not-false _ (data_test 2)

-- a line of numbers
numbers_told : (m : Matrix) (v : ℕ) (l : Line) → data_rule (numbers_line (words l.content)) m v ≡ 0 → Numbers l
unfolding numbers_line
numbers_told m v l kept = record { formed = data_formed _ m v kept; bounded = data_bounded _ m v kept }

pub numbers_count : (ws : List (List ℕ)) → (numbers_line ws).numbers ≡ length ws
unfolding numbers_line
numbers_count ws = refl

-- a line of two words
abbrev pair_line : List (List ℕ) → DataLine
pair_line ws =
    record {
      numbers = 1;
      column = unwrap_or (whole_of (first_of ws)) 0;
      right = true;
      formed = both (is_some (whole_of (first_of ws))) (number_check (second_of ws)).formed;
      bounded = both (is_whole_within 1 most_conductors (whole_of (first_of ws))) (number_check (second_of ws)).bounded;
    }

sparse_two : (ws : List (List ℕ)) → (sparse_line ws).right ≡ true → sparse_line ws ≡ pair_line ws
unfolding sparse_line
sparse_two ws h =
    by_cases (sparse_line ws ≡ pair_line ws) (eqb (length ws) 2)
    (λ (e : eqb (length ws) 2 ≡ true). if_true _ _ e)
    (λ (e : eqb (length ws) 2 ≡ false). absurd (true≢false (sym h ∙ ap (λ (d : DataLine). d.right) (if_false _ _ e))))

pair_told : (m : Matrix) (v : ℕ) (l : Line) → data_rule (pair_line (words l.content)) m v ≡ 0 → Pair l
unfolding within
pair_told m v l kept =
    let f : both (is_some (whole_of (first_of (words l.content)))) (number_check (second_of (words l.content))).formed ≡ true =
    data_formed _ m v kept in
    let b : both (is_whole_within 1 most_conductors (whole_of (first_of (words l.content)))) (number_check (second_of (words l.content))).bounded ≡ true = data_bounded _ m v kept in
    let c : within 1 most_conductors (column_of l) ≡ true = sym (whole_within 1 most_conductors _ (both_first _ _ f)) ∙ both_first _ _ b in
    record {
      low = leb-true 1 (column_of l) (both_first _ _ c);
      high = leb-true (column_of l) most_conductors (both_second _ _ c);
      formed = both_second _ _ f;
      bounded = both_second _ _ b;
    }

module _ (known n w : ℕ) (m : Matrix) (v : ℕ) (l : Line) (ls : List Line) (k : key_of l ≡ plain) where
  module _ (f : m.form ≡ sparse → ⊥) where
    numbers_line_lem : data_line_of m.form l.content ≡ numbers_line (words l.content)
    unfolding data_line_of
    numbers_line_lem = if_false _ _ (ne_eqb _ _ f)

    numbers_next : (d : DataLine) → data_next d m ≡ m
    unfolding data_next
    numbers_next d = if_false _ _ (ne_eqb _ _ f)

    numbers_body :
        data_rule (numbers_line (words l.content)) m v ≡ 0 →
        Body known n w m (v + (numbers_line (words l.content)).numbers) ls → Body known n w m v (l ∷ ls)
    numbers_body kept b =
        numbers m v l ls k f (data_placed _ m v kept) (numbers_told m v l kept) (rw (numbers_count (words l.content)) at b)

  module _ (f : m.form ≡ sparse) where
    sparse_line_lem : data_line_of m.form l.content ≡ sparse_line (words l.content)
    unfolding data_line_of
    sparse_line_lem = if_true _ _ (eq-eqb _ _ f)

    sparse_next : (d : DataLine) → data_next d m ≡ with_column d.column m
    unfolding data_next
    sparse_next d = if_true _ _ (eq-eqb _ _ f)

    pair_body :
        data_rule (pair_line (words l.content)) m v ≡ 0 →
        Body known n w (with_column (column_of l) m) (v + 1) ls → Body known n w m v (l ∷ ls)
    pair_body kept b = pair m v l ls k f (data_placed _ m v kept) (pair_told m v l kept) b

  -- a data line that breaks no rule
  pub data_body :
      data_rule (data_line_of m.form l.content) m v ≡ 0 →
      Body known n w (data_next (data_line_of m.form l.content) m) (v + (data_line_of m.form l.content).numbers) ls →
      Body known n w m v (l ∷ ls)
  data_body kept b =
      by_cases (Body known n w m v (l ∷ ls)) (eqb m.form sparse)
      (λ (e : eqb m.form sparse ≡ true).
      let f : m.form ≡ sparse = eqb-true _ _ e in
      let s : data_line_of m.form l.content ≡ pair_line (words l.content) =
      sparse_line_lem f ∙ sparse_two (words l.content) (data_right (sparse_line (words l.content)) m v (rw (sparse_line_lem f) at kept)) in
      pair_body f (rw s at kept) (rw (s, sparse_next f (pair_line (words l.content))) at b))
      (λ (e : eqb m.form sparse ≡ false).
      let f : m.form ≡ sparse → ⊥ = eqb-false _ _ e in
      numbers_body f (rw (numbers_line_lem f) at kept) (rw (numbers_line_lem f, numbers_next f (numbers_line (words l.content))) at b))
