-- The lines of one set, read one by one, leave what its rows leave. So 16 at the closing keyword is judged by the set that
-- the lines write.
-- Assumes nothing.
use Rattle.std.proofs.Common.{unwrap_or}
use Prim.Native.Nat.{ℕ, suc, ◌+◌, ◌≤◌}
use mathlib.Core.Path.{◌≡◌, refl, sym, ◌∙◌, ap}
use mathlib.Core.Bool.{true, false, true≢false}
use mathlib.Core.List.{List, [], ◌∷◌}
use mathlib.Core.Logic.{◌⊎◌}
use native.Mathlib.Nat.{add-zero, le_refl}
use native.Mathlib.Omega.{arith}
use lib.ListN.{length}
use lib.Dec.{eqb}
use borrow.Author.Tests.{eq-eqb, ne_eqb, eqb-true, le-leb, not-false}
use Rattle.table_layout.specs.Codes.{diagonal, banded, sparse, full}
use Rattle.base.specs.If.{provided◌then◌else◌, either}
use Rattle.base.specs.Broken.{first_broken}
use Rattle.base.proofs.IfLaws.{if_true, if_false, by_cases, both_rest, either_left, either_none_first, either_none_second, not_via}
use Rattle.base.proofs.BrokenLaws.{all_kept}
use Rattle.lex_line.specs.Words.{words, first_of}
use Rattle.lex_number.specs.Integer.{whole_of}
use Rattle.line_matrix.specs.declared.Matrix.{Matrix}
use Rattle.line_matrix.specs.declared.DataLine.{DataLine}
use Rattle.line_matrix.specs.Matrix.{
  new_matrix,
  is_wrong_bandwidth,
  is_wrong_row,
  with_bandwidth,
  with_row,
  numbers_line,
  sparse_line,
  data_line_of,
  is_data_out_of_order,
  data_rules,
  with_column,
  data_next,
  shape_conductors,
  is_wrong_shape,
}
use Rattle.law_grammar.specs.Way.Shape.{Row, full_length, banded_length, AreRows, sparse_count, LineSet, HasShape, WrongRow}
use Rattle.law_grammar.specs.Way.Shape.LineSet.{diagonal_set, full_set, banded_set, sparse_set}
use Rattle.law_grammar.specs.Way.Closing.{
  rows_count,
  numbers_in,
  after_rows,
  after_columns,
  after_sparse,
  closing,
  RowsInOrder,
  SparseInOrder,
  InOrder,
  IsWhole,
  FailsWith,
}
use Rattle.law_grammar.specs.Way.Lines.{Entry, numbers_above, rows_of, width_of, columns_above, sparse_rows_of, set_of, Leads, IsForm}
use Rattle.law_grammar.proofs.RowsLaws.{Fixed, fixed_row}
use Rattle.law_grammar.proofs.ShapeLaws.{full_fixed, banded_fixed, shape_conductors_lem, shape_judged, full_wrong_row, banded_wrong_row}

-- ---- one line

module _ (m : Matrix) (h : is_wrong_bandwidth m ≡ false) where
  width_form : m.form ≡ banded
  unfolding is_wrong_bandwidth
  width_form = eqb-true _ _ (not-false _ (either_none_first _ _ h))

  width_once : m.band ≡ 0
  unfolding is_wrong_bandwidth
  width_once = eqb-true _ _ (not-false _ (either_none_first _ _ (either_none_second _ _ h)))

module _ (l : DataLine) (m : Matrix) (v : ℕ) (kept : first_broken (data_rules l m v) ≡ 0) where
  data_order : is_data_out_of_order l m ≡ false
  data_order = all_kept (data_rules l m v) (omega arith, (omega arith, (omega arith, (omega arith, tt)))) kept 0

  data_right : l.right ≡ true
  unfolding is_data_out_of_order
  data_right = not-false _ (either_none_first _ _ data_order)

  -- "a data line above the first [Row] of a form with rows .. is 12"
  data_placed : (m.form ≡ diagonal → ⊥) → m.rows.row ≡ 0 → ⊥
  unfolding is_data_out_of_order
  data_placed f e =
      true≢false
      (sym (eq-eqb m.rows.row 0 e) ∙ sym (both_rest _ _ (not_via (ne_eqb m.form diagonal f))) ∙ either_none_second _ _ data_order)

module _ (m : Matrix) (content : List ℕ) where
  module _ (f : m.form ≡ sparse → ⊥) where
    numbers_count : (data_line_of m.form content).numbers ≡ length (words content)
    unfolding data_line_of numbers_line
    numbers_count = ap (λ (l : DataLine). l.numbers) (if_false _ _ (ne_eqb _ _ f))

    numbers_same : data_next (data_line_of m.form content) m ≡ m
    unfolding data_next
    numbers_same = if_false _ _ (ne_eqb _ _ f)

  module _ (f : m.form ≡ sparse) (right : (data_line_of m.form content).right ≡ true) where
    pair_line : data_line_of m.form content ≡ sparse_line (words content)
    unfolding data_line_of
    pair_line = if_true _ _ (eq-eqb _ _ f)

    -- a sparse line is of two words
    pair_words : eqb (length (words content)) 2 ≡ true
    unfolding sparse_line
    pair_words =
        by_cases _ (eqb (length (words content)) 2) (λ (e : eqb (length (words content)) 2 ≡ true). e)
        (λ (e : eqb (length (words content)) 2 ≡ false).
        absurd (true≢false (sym right ∙ ap (λ (l : DataLine). l.right) (pair_line ∙ if_false _ _ e))))

    pair_count : (data_line_of m.form content).numbers ≡ 1
    unfolding sparse_line
    pair_count = ap (λ (l : DataLine). l.numbers) (pair_line ∙ if_true _ _ pair_words)

    pair_column : (data_line_of m.form content).column ≡ unwrap_or (whole_of (first_of (words content))) 0
    unfolding sparse_line
    pair_column = ap (λ (l : DataLine). l.column) (pair_line ∙ if_true _ _ pair_words)

    pair_next : data_next (data_line_of m.form content) m ≡ with_column (unwrap_or (whole_of (first_of (words content))) 0) m
    unfolding data_next
    pair_next = if_true _ _ (eq-eqb _ _ f) ∙ ap (λ (c : ℕ). with_column c m) pair_column

-- ---- the lines of a form with rows of fixed lengths

-- no number stands above the first [Row]
none_above :
    {last : Matrix} {end : ℕ} (entries : List Entry) (m : Matrix) (v : ℕ) → (m.form ≡ diagonal → ⊥) → m.rows.row ≡ 0 →
    Leads last end m v entries → numbers_above entries ≡ 0
unfolding numbers_above with_bandwidth
none_above [] m v d z r = refl
none_above (Entry.row_entry i ∷ entries) m v d z r = refl
none_above (Entry.bandwidth_entry b ∷ entries) m v d z (Leads.bandwidth w r) = none_above entries (with_bandwidth b m) v d z r
none_above (Entry.data_entry content ∷ entries) m v d z (Leads.numbers kept r) =
    absurd (data_placed (data_line_of m.form content) m v kept d z)

-- from within a row on
record RowsRead (last : Matrix) (end : ℕ) (m : Matrix) (v : ℕ) (entries : List Entry) : Type 0 where
  ends : end ≡ v + numbers_above entries + rows_count (rows_of entries)
  leaves : last ≡ after_rows (rows_of entries) m (v + numbers_above entries)
  order : RowsInOrder m (v + numbers_above entries) (rows_of entries)

rows_further :
    (last : Matrix) (end : ℕ) (m : Matrix) (v : ℕ) (content : List ℕ) (entries : List Entry) →
    RowsRead last end m (v + length (words content)) entries → RowsRead last end m v (Entry.data_entry content ∷ entries)
unfolding numbers_above rows_of
rows_further last end m v content entries h =
    let same : v + length (words content) + numbers_above entries ≡ v + (length (words content) + numbers_above entries) = omega arith in
    let ends : end ≡ v + length (words content) + numbers_above entries + rows_count (rows_of entries) = h.ends in
    record { ends = rw same at ends; leaves = rw same at h.leaves; order = rw same at h.order }

rows_read :
    {last : Matrix} {end : ℕ} (entries : List Entry) (m : Matrix) (v : ℕ) → Fixed m → Leads last end m v entries →
    RowsRead last end m v entries
unfolding numbers_above rows_of rows_count after_rows
rows_read [] m v k Leads.over = record { ends = omega arith; leaves = refl; order = RowsInOrder.none }
rows_read (Entry.row_entry i ∷ entries) m v k (Leads.row e b r) =
    let ih : RowsRead _ _ (with_row i m v) v entries = rows_read entries (with_row i m v) v (fixed_row i m v k) r in
    let ends : _ ≡ v + numbers_above entries + rows_count (rows_of entries) = ih.ends in
    record { ends = omega arith; leaves = rw (add-zero v) ih.leaves; order = rw (add-zero v) (RowsInOrder.more e b ih.order) }
rows_read (Entry.bandwidth_entry b ∷ entries) m v k (Leads.bandwidth w r) =
    let none : m.band ≡ 0 = width_once m w in
    let some : 1 ≤ m.band = k.some in
    absurd (omega arith)
rows_read (Entry.data_entry content ∷ entries) m v k (Leads.numbers kept r) =
    let next : Leads _ _ m (v + length (words content)) entries =
    rw (numbers_same m content k.not_sparse, numbers_count m content k.not_sparse) at r in
    let ih : RowsRead _ _ m (v + length (words content)) entries = rows_read entries m (v + length (words content)) k next in
    rows_further _ _ m v content entries ih

-- ---- the lines of a Sparse_matrix

record SparseRead (last : Matrix) (end : ℕ) (m : Matrix) (v : ℕ) (entries : List Entry) : Type 0 where
  ends : end ≡ v + length (columns_above entries) + sparse_count (sparse_rows_of entries)
  leaves : last ≡ after_sparse (sparse_rows_of entries) (after_columns (columns_above entries) m) (v + length (columns_above entries))
  order : SparseInOrder (after_columns (columns_above entries) m) (v + length (columns_above entries)) (sparse_rows_of entries)

pair_further :
    (last : Matrix) (end : ℕ) (m : Matrix) (v : ℕ) (content : List ℕ) (entries : List Entry) →
    SparseRead last end (with_column (unwrap_or (whole_of (first_of (words content))) 0) m) (v + 1) entries →
    SparseRead last end m v (Entry.data_entry content ∷ entries)
unfolding columns_above sparse_rows_of after_columns
pair_further last end m v content entries h =
    let same : v + 1 + length (columns_above entries) ≡ v + suc (length (columns_above entries)) = omega arith in
    let ends : end ≡ v + 1 + length (columns_above entries) + sparse_count (sparse_rows_of entries) = h.ends in
    record { ends = rw same at ends; leaves = rw same at h.leaves; order = rw same at h.order }

sparse_read :
    {last : Matrix} {end : ℕ} (entries : List Entry) (m : Matrix) (v : ℕ) → m.form ≡ sparse → Leads last end m v entries →
    SparseRead last end m v entries
unfolding columns_above sparse_rows_of sparse_count after_columns after_sparse with_row with_column
sparse_read [] m v f Leads.over = record { ends = omega arith; leaves = refl; order = SparseInOrder.none }
sparse_read (Entry.row_entry i ∷ entries) m v f (Leads.row e b r) =
    let ih : SparseRead _ _ (with_row i m v) v entries = sparse_read entries (with_row i m v) v f r in
    let ends : _ ≡ v + length (columns_above entries) + sparse_count (sparse_rows_of entries) = ih.ends in
    record { ends = omega arith; leaves = rw (add-zero v) ih.leaves; order = rw (add-zero v) (SparseInOrder.more e b ih.order) }
sparse_read (Entry.bandwidth_entry b ∷ entries) m v f (Leads.bandwidth w r) =
    let g : m.form ≡ banded = width_form m w in
    absurd (omega arith)
sparse_read (Entry.data_entry content ∷ entries) m v f (Leads.numbers kept r) =
    let right : (data_line_of m.form content).right ≡ true = data_right (data_line_of m.form content) m v kept in
    let next : Leads _ _ (with_column (unwrap_or (whole_of (first_of (words content))) 0) m) (v + 1) entries =
    rw (pair_next m content f right, pair_count m content f right) at r in
    pair_further _ _ m v content entries (sparse_read entries (with_column (unwrap_or (whole_of (first_of (words content))) 0) m) (v + 1) f next)

-- no line stands above the first [Row]
none_column :
    {last : Matrix} {end : ℕ} (entries : List Entry) (m : Matrix) (v : ℕ) → m.form ≡ sparse → m.rows.row ≡ 0 →
    Leads last end m v entries → columns_above entries ≡ []
unfolding columns_above
none_column [] m v f z r = refl
none_column (Entry.row_entry i ∷ entries) m v f z r = refl
none_column (Entry.bandwidth_entry b ∷ entries) m v f z (Leads.bandwidth w r) =
    let g : m.form ≡ banded = width_form m w in
    absurd (omega arith)
none_column (Entry.data_entry content ∷ entries) m v f z (Leads.numbers kept r) =
    absurd (data_placed (data_line_of m.form content) m v kept (λ (d : m.form ≡ diagonal). omega arith) z)

-- ---- the lines of a Diagonal_matrix

-- a [Row] there is out of order
no_row_lem : (i : ℕ) (m : Matrix) → m.form ≡ diagonal → is_wrong_row i m ≡ true
unfolding is_wrong_row
no_row_lem i m d = if_true _ _ (eq-eqb _ _ d)

diagonal_read :
    {last : Matrix} {end : ℕ} (entries : List Entry) (m : Matrix) (v : ℕ) → m.form ≡ diagonal → Leads last end m v entries →
    (end ≡ v + numbers_above entries) × (last ≡ m)
unfolding numbers_above
diagonal_read [] m v d Leads.over = (omega arith, refl)
diagonal_read (Entry.row_entry i ∷ entries) m v d (Leads.row e b r) = absurd (true≢false (sym (no_row_lem i m d) ∙ e))
diagonal_read (Entry.bandwidth_entry b ∷ entries) m v d (Leads.bandwidth w r) =
    let g : m.form ≡ banded = width_form m w in
    absurd (omega arith)
diagonal_read (Entry.data_entry content ∷ entries) m v d (Leads.numbers kept r) =
    let f : m.form ≡ sparse → ⊥ = λ (g : m.form ≡ sparse). omega arith in
    let next : Leads _ _ m (v + length (words content)) entries = rw (numbers_same m content f, numbers_count m content f) at r in
    let ih : (_ ≡ v + length (words content) + numbers_above entries) × (_ ≡ m) = diagonal_read entries m (v + length (words content)) d next in
    let ends : _ ≡ v + length (words content) + numbers_above entries = ih.0 in
    (omega arith, ih.1)

-- ---- one set of lines

-- the lines leave what the set leaves
pub record SetRead (last : Matrix) (end v : ℕ) (s : LineSet) : Type 0 where
  pub ends : end ≡ v + numbers_in s
  pub leaves : last ≡ closing s v
  pub order : InOrder v s

module _ (last : Matrix) (end v : ℕ) (entries : List Entry) where
  full_set_lem : Leads last end (new_matrix full v) v entries → SetRead last end v (full_set (rows_of entries))
  unfolding closing numbers_in new_matrix
  full_set_lem r =
      let h : RowsRead last end (new_matrix full v) v entries = rows_read entries (new_matrix full v) v (full_fixed v []) r in
      let none : numbers_above entries ≡ 0 = none_above entries (new_matrix full v) v (λ (d : full ≡ diagonal). omega arith) refl r in
      let same : v + numbers_above entries ≡ v = omega arith in
      record { ends = rw same at h.ends; leaves = rw same at h.leaves; order = InOrder.full_order (rw same at h.order) }

  sparse_set_lem : Leads last end (new_matrix sparse v) v entries → SetRead last end v (sparse_set (sparse_rows_of entries))
  unfolding closing numbers_in new_matrix after_columns
  sparse_set_lem r =
      let h : SparseRead last end (new_matrix sparse v) v entries = sparse_read entries (new_matrix sparse v) v refl r in
      let none : columns_above entries ≡ [] = none_column entries (new_matrix sparse v) v refl refl r in
      let ends : end ≡ v + 0 + sparse_count (sparse_rows_of entries) = rw none at h.ends in
      let leaves : last ≡ after_sparse (sparse_rows_of entries) (new_matrix sparse v) (v + 0) = rw none at h.leaves in
      let order : SparseInOrder (new_matrix sparse v) (v + 0) (sparse_rows_of entries) = rw none at h.order in
      record { ends = rw (add-zero v) at ends; leaves = rw (add-zero v) at leaves; order = InOrder.sparse_order (rw (add-zero v) at order) }

  diagonal_set_lem : Leads last end (new_matrix diagonal v) v entries → SetRead last end v (diagonal_set (numbers_above entries))
  unfolding closing numbers_in new_matrix
  diagonal_set_lem r =
      let h : (end ≡ v + numbers_above entries) × (last ≡ new_matrix diagonal v) = diagonal_read entries (new_matrix diagonal v) v refl r in
      record { ends = h.0; leaves = h.1; order = InOrder.diagonal_order }

-- a Banded_matrix may lack its [Bandwidth]; then it has no [Row] and no number either
data BandedRead (last : Matrix) (end v : ℕ) (entries : List Entry) : Type 0 where
  missing : last ≡ new_matrix banded v → end ≡ v → rows_of entries ≡ [] → BandedRead last end v entries
  given : SetRead last end v (banded_set (width_of entries) (rows_of entries)) → BandedRead last end v entries

no_band : (i v : ℕ) → is_wrong_row i (new_matrix banded v) ≡ true
unfolding is_wrong_row new_matrix provided◌then◌else◌ either
no_band i v = refl

banded_set_lem : {last : Matrix} {end : ℕ} (entries : List Entry) (v : ℕ) → Leads last end (new_matrix banded v) v entries → BandedRead last end v entries
unfolding closing numbers_in rows_of width_of new_matrix with_bandwidth
banded_set_lem [] v Leads.over = BandedRead.missing refl refl refl
banded_set_lem (Entry.row_entry i ∷ entries) v (Leads.row e b r) = absurd (true≢false (sym (no_band i v) ∙ e))
banded_set_lem (Entry.bandwidth_entry b ∷ entries) v (Leads.bandwidth w r) =
    let h : RowsRead _ _ (with_bandwidth b (new_matrix banded v)) v entries =
    rows_read entries (with_bandwidth b (new_matrix banded v)) v (banded_fixed v b []) r in
    let none : numbers_above entries ≡ 0 =
    none_above entries (with_bandwidth b (new_matrix banded v)) v (λ (d : banded ≡ diagonal). omega arith) refl r in
    let same : v + numbers_above entries ≡ v = omega arith in
    BandedRead.given
    (record { ends = rw same at h.ends; leaves = rw same at h.leaves; order = InOrder.banded_order w (rw same at h.order) })
banded_set_lem (Entry.data_entry content ∷ entries) v (Leads.numbers kept r) =
    absurd (data_placed (data_line_of banded content) (new_matrix banded v) v kept (λ (d : banded ≡ diagonal). omega arith) refl)

-- ---- the law

module _ (last : Matrix) (end v : ℕ) (s : LineSet) (h : SetRead last end v s) where
  set_judged : (known : ℕ) → FailsWith (is_wrong_shape last known end) (IsWhole known s)
  set_judged known = rw (h.leaves, h.ends) (shape_judged s v h.order known)

  set_conductors : {n : ℕ} → HasShape n s → shape_conductors last end ≡ n
  set_conductors shape = rw (h.leaves, h.ends) (shape_conductors_lem s v h.order shape)

-- no rows have no shape
no_rows : (wanted : ℕ → ℕ → ℕ) (n : ℕ) → AreRows wanted n [] → ⊥
no_rows wanted n h =
    let size : 0 ≡ n = h.size in
    let some : 1 ≤ n = h.some in
    omega arith

no_banded : {n b : ℕ} (rs : List Row) → rs ≡ [] → HasShape n (banded_set b rs) → ⊥
no_banded [] e (HasShape.banded_shape {b} {n} h) = no_rows (banded_length b) n h
no_banded (r ∷ rs) e h = let z : suc (length rs) ≡ 0 = ap length e in omega arith

no_number : (known v : ℕ) → is_wrong_shape (new_matrix banded v) known v ≡ true
unfolding is_wrong_shape new_matrix
no_number known v = either_left _ _ (le-leb v v (le_refl v))

module _ (last : Matrix) (end v : ℕ) (entries : List Entry) where
  banded_judged :
      (known : ℕ) → BandedRead last end v entries → FailsWith (is_wrong_shape last known end) (IsWhole known (banded_set (width_of entries) (rows_of entries)))
  banded_judged known (BandedRead.given h) = set_judged last end v _ h known
  banded_judged known (BandedRead.missing e f g) =
      record {
        right =
            λ (h : is_wrong_shape last known end ≡ false).
            let wrong : is_wrong_shape last known end ≡ true = rw (e, f) (no_number known v) in
            absurd (true≢false (sym wrong ∙ h));
        wrong =
            λ (h : is_wrong_shape last known end ≡ true) (w : IsWhole known (banded_set (width_of entries) (rows_of entries))).
            no_banded (rows_of entries) g w.shape;
      }

  banded_conductors : {n : ℕ} → BandedRead last end v entries → HasShape n (banded_set (width_of entries) (rows_of entries)) → shape_conductors last end ≡ n
  banded_conductors (BandedRead.given h) shape = set_conductors last end v _ h shape
  banded_conductors (BandedRead.missing e f g) shape = absurd (no_banded (rows_of entries) g shape)

-- lines that break no rule on the way get 16 at the closing keyword exactly when the set that they write has not the shape
-- of its form, or another N than is known
pub lines_judged :
    {form : ℕ} (last : Matrix) (end v : ℕ) (entries : List Entry) → IsForm form → Leads last end (new_matrix form v) v entries → (known : ℕ) →
    FailsWith (is_wrong_shape last known end) (IsWhole known (set_of form entries))
unfolding set_of provided◌then◌else◌
lines_judged last end v entries IsForm.is_diagonal r known = set_judged last end v _ (diagonal_set_lem last end v entries r) known
lines_judged last end v entries IsForm.is_banded r known = banded_judged last end v entries known (banded_set_lem entries v r)
lines_judged last end v entries IsForm.is_sparse r known = set_judged last end v _ (sparse_set_lem last end v entries r) known
lines_judged last end v entries IsForm.is_full r known = set_judged last end v _ (full_set_lem last end v entries r) known

-- and the reading's N is the N of that shape
pub lines_conductors :
    {form n : ℕ} (last : Matrix) (end v : ℕ) (entries : List Entry) → IsForm form → Leads last end (new_matrix form v) v entries →
    HasShape n (set_of form entries) → shape_conductors last end ≡ n
unfolding set_of provided◌then◌else◌
lines_conductors last end v entries IsForm.is_diagonal r h = set_conductors last end v _ (diagonal_set_lem last end v entries r) h
lines_conductors last end v entries IsForm.is_banded r h = banded_conductors last end v entries (banded_set_lem entries v r) h
lines_conductors last end v entries IsForm.is_sparse r h = set_conductors last end v _ (sparse_set_lem last end v entries r) h
lines_conductors last end v entries IsForm.is_full r h = set_conductors last end v _ (full_set_lem last end v entries r) h

-- lines of a form with rows of fixed lengths that get 16, where N is not another than is known: a row has a wrong length
module _ (last : Matrix) (end v known : ℕ) (entries : List Entry) (some : 1 ≤ length (rows_of entries)) where
  pub full_lines_row :
      (known ≡ 0) ⊎ (known ≡ length (rows_of entries)) → Leads last end (new_matrix full v) v entries → is_wrong_shape last known end ≡ true →
      WrongRow full_length (rows_of entries)
  full_lines_row same r h =
      let set : SetRead last end v (full_set (rows_of entries)) = full_set_lem last end v entries r in
      full_wrong_row (rows_of entries) v known some same set.order (rw (set.leaves, set.ends) at h)

  pub banded_lines_row :
      (known ≡ 0) ⊎ (known ≡ length (rows_of entries)) → Leads last end (new_matrix banded v) v entries → is_wrong_shape last known end ≡ true →
      WrongRow (banded_length (width_of entries)) (rows_of entries)
  banded_lines_row same r h = told (banded_set_lem entries v r)
    where
      told : BandedRead last end v entries → WrongRow (banded_length (width_of entries)) (rows_of entries)
      told (BandedRead.given set) =
          banded_wrong_row (rows_of entries) v known some same (width_of entries) set.order (rw (set.leaves, set.ends) at h)
      told (BandedRead.missing e f g) = let none : length (rows_of entries) ≡ 0 = ap length g in absurd (omega arith)
