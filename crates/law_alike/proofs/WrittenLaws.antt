-- The number that the lines of a matrix write at a row and a column is the one that its values give there. This holds
-- for every matrix of a text that breaks no rule of the reading, in each of the four forms.
-- Assumes nothing.
use Prim.Native.Nat.{ℕ, zero, suc, ◌+◌, ◌-◌, ◌≤◌, ◌<◌}
use mathlib.Core.Path.{◌≡◌, refl, sym, ◌∙◌, ap}
use mathlib.Core.Bool.{true, false, true≢false}
use mathlib.Core.List.{List, [], ◌∷◌, ◌++◌, append_assoc}
use native.Mathlib.Omega.{arith}
use lib.ListN.{length}
use lib.Dec.{eqb}
use borrow.Author.Tests.{eq-eqb, ne_eqb, eqb-true, eqb-false}
use Rattle.table_record.specs.declared.Value.{Value}
use Rattle.table_layout.specs.Codes.{diagonal, banded, sparse}
use Rattle.base.specs.If.{provided◌then◌else◌, either}
use Rattle.base.proofs.IfLaws.{if_true, if_false, by_test, by_cases, both_true, both_first, both_not_left, both_not_right, either_rest}
use Rattle.lex_line.specs.Words.{words}
use Rattle.lex_number.specs.Number.{number_of, word_in}
use Rattle.lex_number.specs.ValueWord.{zero_word}
use Rattle.lex_keyword.specs.Names.{row, bandwidth}
use Rattle.line_place.specs.Place.{opens_matrix, is_row_or_bandwidth, done}
use Rattle.line_place.specs.Place as place
use Rattle.line_matrix.specs.declared.Matrix as forward
use Rattle.line_matrix.specs.Matrix.{new_matrix, with_row, with_column, with_bandwidth, shape_conductors}
use Rattle.line_keyword.specs.declared.State.{State}
use Rattle.line_keyword.specs.declared.Counts.{Counts}
use Rattle.line_keyword.specs.State.{start_state}
use Rattle.line_keyword.specs.Keywords.{keyword_next}
use Rattle.line_keyword.proofs.InsideLaws.{opens_closes}
use Rattle.line_keyword.specs.Way.Rule.{keyword_rule}
use Rattle.read_line.specs.Reading.{line_next, reading_of}
use Rattle.read_line.specs.declared.Reading.TheVariants.{Read}
use Rattle.read_line.specs.Way.Steps.{line_rule}
use Rattle.doc.specs.Lines.{Line, plain, key_of, argument_of, gather, up_to, significant}
use Rattle.doc.specs.Document.{Matrix, Section, next_row, numbers_at, sparse_at, values_from, given_by, opens_matrix_at, in_matrix, matrix_of, matrix_at, opens_section, in_section, section_of, section_at, document_in, document_of}
use Rattle.doc.specs.Holds.{Each}
use Rattle.doc.proofs.RiseLaws.{
  number_at,
  numbers_none,
  numbers_more,
  numbers_along,
  row_after,
  values_none,
  values_row,
  values_width,
  values_sparse,
  values_down,
  values_along,
}
use Rattle.doc.proofs.ShapeLaws.{Follows, Body, column_of, data_body}
use Rattle.doc.proofs.ShapeLaws.Body.{closes, numbers, pair, starts, widens}
use Rattle.doc.proofs.SpanLaws.{matrix_plain, matrix_kept, matrix_left, matrices_open, plain_opens, row_keeps, width_keeps, end_closes, opening_key}
use Rattle.doc.proofs.Goes.{Moves, Goes, Ends, idle_outside, text_ends}
use Rattle.doc.proofs.Goes.Idle.{ended, waits}
use Rattle.doc.proofs.Goes.Moves.{idle, plainly, keyed}
use Rattle.doc.proofs.BodyLaws.{
  keyword_closes,
  row_follows,
  width_widens,
  Onward,
  onward_body,
  data_rule_lem,
  data_onward,
  row_onward,
  width_onward,
  next_onward,
  first_onward,
  MatrixKey,
  matrix_key,
  matrix_leads,
}
use Rattle.doc.proofs.SectionLaws.{section_matrices, section_open, section_skip}
use Rattle.doc.proofs.GatherLaws.{gather_more, gather_none, up_in, up_none, up_out}
use Rattle.law_alike.specs.Written.{is_plain, row_lines, numbers_of, word_of, sparse_word, written_at}
use Rattle.law_alike.specs.Way.Found.{found_at}
use Rattle.law_alike.specs.Alike.{form_at}

-- ---- one value after another

found_none : (i j : ℕ) → found_at i j [] ≡ zero_word
unfolding found_at
found_none i j = refl

module _ (i j : ℕ) (v : Value) (vs : List Value) where
  found_here : v.row ≡ i → v.column ≡ j → found_at i j (v ∷ vs) ≡ v.word
  unfolding found_at
  found_here r c = if_true _ _ (both_true _ _ (eq-eqb _ _ r) (eq-eqb _ _ c))

  found_below : (v.row ≡ i → ⊥) → found_at i j (v ∷ vs) ≡ found_at i j vs
  unfolding found_at
  found_below r = if_false _ _ (both_not_left _ _ (ne_eqb _ _ r))

  found_aside : (v.column ≡ j → ⊥) → found_at i j (v ∷ vs) ≡ found_at i j vs
  unfolding found_at
  found_aside c = if_false _ _ (both_not_right _ _ (ne_eqb _ _ c))

-- ---- the words of the lines

word_none : (k : ℕ) → word_of k [] ≡ zero_word
unfolding word_of
word_none k = refl

module _ (w : List ℕ) (ws : List (List ℕ)) where
  word_first : word_of zero (w ∷ ws) ≡ word_in (number_of w)
  unfolding word_of
  word_first = refl

  word_later : (k : ℕ) → word_of (suc k) (w ∷ ws) ≡ word_of k ws
  unfolding word_of
  word_later k = refl

pub plain_is : (l : Line) → key_of l ≡ plain → is_plain l ≡ true
unfolding is_plain
plain_is l k = eq-eqb _ _ k

pub row_is_not : (l : Line) → key_of l ≡ row → is_plain l ≡ false
unfolding is_plain
row_is_not l k = ap (λ (x : ℕ). eqb x plain) k

pub numbers_of_none : numbers_of [] ≡ []
unfolding numbers_of
numbers_of_none = refl

pub numbers_of_plain : (l : Line) (ls : List Line) → key_of l ≡ plain → numbers_of (l ∷ ls) ≡ words l.content ++ numbers_of ls
unfolding numbers_of
numbers_of_plain l ls k = ap (λ (ws : List (List ℕ)). ws ++ numbers_of ls) (if_true _ _ (plain_is l k))

module _ (j : ℕ) (l : Line) (ls : List Line) where
  pub sparse_here : column_of l ≡ j → sparse_word j (l ∷ ls) ≡ (sparse_at 0 (words l.content)).word
  unfolding sparse_word sparse_at
  sparse_here e = if_true _ _ (eq-eqb _ _ e)

  pub sparse_later : (column_of l ≡ j → ⊥) → sparse_word j (l ∷ ls) ≡ sparse_word j ls
  unfolding sparse_word
  sparse_later e = if_false _ _ (ne_eqb _ _ e)

-- the lines below [Row] i
pub lines_none : (i : ℕ) → row_lines i [] ≡ []
unfolding row_lines
lines_none i = refl

module _ (i : ℕ) (l : Line) (ls : List Line) where
  pub lines_here : key_of l ≡ row → given_by l ≡ i → row_lines i (l ∷ ls) ≡ up_to is_plain ls
  unfolding row_lines
  lines_here k e = if_true _ _ (both_true _ _ (eq-eqb _ _ k) (eq-eqb _ _ e))

  pub lines_other : (given_by l ≡ i → ⊥) → row_lines i (l ∷ ls) ≡ row_lines i ls
  unfolding row_lines
  lines_other e = if_false _ _ (both_not_right _ _ (ne_eqb _ _ e))

  pub lines_past : eqb (key_of l) row ≡ false → row_lines i (l ∷ ls) ≡ row_lines i ls
  unfolding row_lines
  lines_past k = if_false _ _ (both_not_left _ _ k)

-- what the lines of a row write for column j; the next number is k columns before it
abbrev in_lines : ℕ → ℕ → ℕ → List Line → ℕ
in_lines form k j ls = provided eqb form sparse then sparse_word j ls else word_of k (numbers_of ls)

lines_nothing : (form k j : ℕ) → in_lines form k j [] ≡ zero_word
unfolding sparse_word
lines_nothing form k j =
    by_test (λ (x : ℕ). x ≡ zero_word) (eqb form sparse) _ _ (λ (e : eqb form sparse ≡ true). refl)
    (λ (e : eqb form sparse ≡ false). ap (word_of k) numbers_of_none ∙ word_none k)

-- ---- the numbers of one line

module _ (form : ℕ) where
  row_now : (r : ℕ) → row_after form r 0 ≡ r
  row_now r = by_test (λ (x : ℕ). x ≡ r) (eqb form diagonal) _ _ (λ (e : eqb form diagonal ≡ true). omega arith) (λ (e : eqb form diagonal ≡ false). refl)

  row_next : (r k : ℕ) → row_after form (next_row form r) k ≡ row_after form r (suc k)
  unfolding next_row
  row_next r k =
      by_cases (row_after form (next_row form r) k ≡ row_after form r (suc k)) (eqb form diagonal)
      (λ (e : eqb form diagonal ≡ true).
      let g : (r + 1) + k ≡ r + suc k = omega arith in
      if_true _ _ e ∙ ap (λ (x : ℕ). x + k) (if_true _ _ e) ∙ g ∙ sym (if_true _ _ e))
      (λ (e : eqb form diagonal ≡ false). if_false _ _ e ∙ if_false _ _ e ∙ sym (if_false _ _ e))

  -- down the diagonal or along a row: the number k columns after the first, if its row is x and its column j
  numbers_found :
      (x j : ℕ) (vs : List Value) (rest : List (List ℕ)) (r c : ℕ) (ws : List (List ℕ)) (k : ℕ) →
      c + k ≡ j → row_after form r k ≡ x →
      (length ws ≤ k → found_at x j vs ≡ word_of (k - length ws) rest) →
      found_at x j (numbers_at form r c ws ++ vs) ≡ word_of k (ws ++ rest)
  numbers_found x j vs rest r c [] k q p h =
      let e : k - 0 ≡ k = omega arith in
      let g : found_at x j vs ≡ word_of (k - 0) rest = h (omega arith) in
      rw (numbers_none form r c) (rw e at g)
  numbers_found x j vs rest r c (w ∷ ws) zero q p h =
      rw (numbers_more form r c w ws)
      (found_here x j (number_at r c w) (numbers_at form (next_row form r) (c + 1) ws ++ vs) (sym (row_now r) ∙ p) (omega arith)
      ∙ sym (word_first w (ws ++ rest)))
  numbers_found x j vs rest r c (w ∷ ws) (suc k) q p h =
      rw (numbers_more form r c w ws)
      (found_aside x j (number_at r c w) (numbers_at form (next_row form r) (c + 1) ws ++ vs) (λ (e : c ≡ j). omega arith)
      ∙ numbers_found x j vs rest (next_row form r) (c + 1) ws k (omega arith) (row_next r k ∙ p)
      (λ (g : length ws ≤ k).
      let e : suc k - suc (length ws) ≡ k - length ws = omega arith in
      let f : found_at x j vs ≡ word_of (suc k - suc (length ws)) rest = h (omega arith) in
      rw e at f)
      ∙ sym (word_later w (ws ++ rest) k))

  -- those of another row
  numbers_below :
      (form ≡ diagonal → ⊥) → (x j : ℕ) (vs : List Value) (r c : ℕ) (ws : List (List ℕ)) → (r ≡ x → ⊥) →
      found_at x j (numbers_at form r c ws ++ vs) ≡ found_at x j vs
  numbers_below d x j vs r c [] h = rw (numbers_none form r c)
  numbers_below d x j vs r c (w ∷ ws) h =
      rw (numbers_along form r c w ws d)
      (found_below x j (number_at r c w) (numbers_at form r (c + 1) ws ++ vs) h ∙ numbers_below d x j vs r (c + 1) ws h)

  -- no number of a diagonal is off the diagonal
  numbers_off :
      form ≡ diagonal → (x j : ℕ) → (x ≡ j → ⊥) → (vs : List Value) (r : ℕ) (ws : List (List ℕ)) →
      found_at x j (numbers_at form r r ws ++ vs) ≡ found_at x j vs
  unfolding next_row
  numbers_off d x j h vs r [] = rw (numbers_none form r r)
  numbers_off d x j h vs r (w ∷ ws) =
      let e : next_row form r ≡ r + 1 = if_true _ _ (eq-eqb _ _ d) in
      rw (numbers_more form r r w ws, e)
      (by_cases _ (eqb r x)
      (λ (g : eqb r x ≡ true).
      let f : r ≡ x = eqb-true r x g in
      found_aside x j (number_at r r w) (numbers_at form (r + 1) (r + 1) ws ++ vs) (λ (q : r ≡ j). h (sym f ∙ q)))
      (λ (g : eqb r x ≡ false). found_below x j (number_at r r w) (numbers_at form (r + 1) (r + 1) ws ++ vs) (eqb-false r x g))
      ∙ numbers_off d x j h vs (r + 1) ws)

-- ---- the lines of a matrix

-- rows rise
follows_rises : (m : forward.Matrix) (i : ℕ) → Follows m i → m.rows.row < i
follows_rises m i h =
    by_cases (m.rows.row < i) (eqb m.form sparse) (λ (e : eqb m.form sparse ≡ true). h.rises (eqb-true _ _ e))
    (λ (e : eqb m.form sparse ≡ false).
    let g : i ≡ m.rows.row + 1 = h.next (eqb-false _ _ e) in
    omega arith)

-- a line `column value`
module _ (r j : ℕ) (l : Line) (vs : List Value) where
  pair_row : (sparse_at r (words l.content)).row ≡ r
  unfolding sparse_at
  pair_row = refl

  pair_column : (sparse_at r (words l.content)).column ≡ column_of l
  unfolding sparse_at
  pair_column = refl

  pair_word : (sparse_at r (words l.content)).word ≡ (sparse_at 0 (words l.content)).word
  unfolding sparse_at
  pair_word = refl

  pair_found : (ls : List Line) → found_at r j vs ≡ sparse_word j ls → found_at r j (sparse_at r (words l.content) ∷ vs) ≡ sparse_word j (l ∷ ls)
  pair_found ls h =
      by_cases _ (eqb (column_of l) j)
      (λ (e : eqb (column_of l) j ≡ true).
      found_here r j (sparse_at r (words l.content)) vs pair_row (pair_column ∙ eqb-true _ _ e) ∙ pair_word ∙ sym (sparse_here j l ls (eqb-true _ _ e)))
      (λ (e : eqb (column_of l) j ≡ false).
      found_aside r j (sparse_at r (words l.content)) vs (λ (g : (sparse_at r (words l.content)).column ≡ j). eqb-false _ _ e (sym pair_column ∙ g))
      ∙ h ∙ sym (sparse_later j l ls (eqb-false _ _ e)))

  pair_below : (x : ℕ) → (r ≡ x → ⊥) → found_at x j (sparse_at r (words l.content) ∷ vs) ≡ found_at x j vs
  pair_below x h = found_below x j (sparse_at r (words l.content)) vs (λ (e : (sparse_at r (words l.content)).row ≡ x). h (sym pair_row ∙ e))

module _ (known n w : ℕ) where
  -- no row above the current one comes again
  above_none :
      {m : forward.Matrix} {v : ℕ} {ls : List Line} → Body known n w m v ls → (m.form ≡ diagonal → ⊥) → (x j : ℕ) → x < m.rows.row →
      (c : ℕ) → found_at x j (values_from m.form m.rows.row c ls) ≡ zero_word
  unfolding with_row with_column with_bandwidth
  above_none (closes m v h e) d x j low c = rw (values_none m.form m.rows.row c) (found_none x j)
  above_none (numbers m v l ls k s p h b) d x j low c =
      rw (values_along m.form m.rows.row c l ls k d s)
      (numbers_below m.form d x j _ m.rows.row c (words l.content) (λ (e : m.rows.row ≡ x). omega arith)
      ∙ above_none b d x j low (c + length (words l.content)))
  above_none (pair m v l ls k s p h b) d x j low c =
      rw (values_sparse m.form m.rows.row c l ls k s)
      (pair_below m.rows.row j l _ x (λ (e : m.rows.row ≡ x). omega arith) ∙ above_none b d x j low c)
  above_none (starts m v l ls k h b) d x j low c =
      let g : m.rows.row < given_by l = follows_rises m (given_by l) h in
      rw (values_row m.form m.rows.row c l ls k) (above_none b d x j (omega arith) (given_by l))
  above_none (widens m v l ls k h b) d x j low c = rw (values_width m.form m.rows.row c l ls k) (above_none b d x j low c)

  -- the current row goes up to the next keyword
  row_found :
      {m : forward.Matrix} {v : ℕ} {ls : List Line} → Body known n w m v ls → (m.form ≡ diagonal → ⊥) → 1 ≤ m.rows.row →
      (c k j : ℕ) → c + k ≡ j →
      found_at m.rows.row j (values_from m.form m.rows.row c ls) ≡ in_lines m.form k j (up_to is_plain ls)
  unfolding with_row with_column with_bandwidth
  row_found (closes m v h e) d low c k j q =
      rw (values_none m.form m.rows.row c, up_none is_plain) (found_none m.rows.row j ∙ sym (lines_nothing m.form k j))
  row_found (numbers m v l ls key s p h b) d low c k j q =
      let size : ℕ = length (words l.content) in
      let later : List Line = up_to is_plain ls in
      let ih : size ≤ k → found_at m.rows.row j (values_from m.form m.rows.row (c + size) ls) ≡ word_of (k - size) (numbers_of later) =
      λ (g : size ≤ k). row_found b d low (c + size) (k - size) j (omega arith) ∙ if_false _ _ (ne_eqb _ _ s) in
      rw (values_along m.form m.rows.row c l ls key d s, up_in is_plain l ls (plain_is l key))
      (numbers_found m.form m.rows.row j _ (numbers_of later) m.rows.row c (words l.content) k q (if_false _ _ (ne_eqb _ _ d)) ih
      ∙ ap (word_of k) (sym (numbers_of_plain l later key)) ∙ sym (if_false _ _ (ne_eqb _ _ s)))
  row_found (pair m v l ls key s p h b) d low c k j q =
      let later : List Line = up_to is_plain ls in
      let ih : found_at m.rows.row j (values_from m.form m.rows.row c ls) ≡ sparse_word j later =
      row_found b d low c k j q ∙ if_true _ _ (eq-eqb _ _ s) in
      rw (values_sparse m.form m.rows.row c l ls key s, up_in is_plain l ls (plain_is l key))
      (pair_found m.rows.row j l _ later ih ∙ sym (if_true _ _ (eq-eqb _ _ s)))
  row_found (starts m v l ls key h b) d low c k j q =
      rw (values_row m.form m.rows.row c l ls key, up_out is_plain l ls (row_is_not l key))
      (above_none b d m.rows.row j (follows_rises m (given_by l) h) (given_by l) ∙ sym (lines_nothing m.form k j))
  row_found (widens m v l ls key h b) d low c k j q =
      let g : m.rows.row ≡ 0 = h.above in
      absurd (omega arith)

  -- the first [Row] i is the only one
  rows_found :
      {m : forward.Matrix} {v : ℕ} {ls : List Line} → Body known n w m v ls → (m.form ≡ diagonal → ⊥) → (i j : ℕ) → i ≤ j →
      (r c : ℕ) → ((m.rows.row ≡ 0 → ⊥) → r ≡ i → ⊥) →
      found_at i j (values_from m.form r c ls) ≡ in_lines m.form (j - i) j (row_lines i ls)
  unfolding with_row with_column with_bandwidth
  rows_found (closes m v h e) d i j le r c other =
      rw (values_none m.form r c, lines_none i) (found_none i j ∙ sym (lines_nothing m.form (j - i) j))
  rows_found (numbers m v l ls k s p h b) d i j le r c other =
      rw (values_along m.form r c l ls k d s, lines_past i l ls (ap (λ (x : ℕ). eqb x row) k))
      (numbers_below m.form d i j _ r c (words l.content) (other (p d)) ∙ rows_found b d i j le r (c + length (words l.content)) other)
  rows_found (pair m v l ls k s p h b) d i j le r c other =
      rw (values_sparse m.form r c l ls k s, lines_past i l ls (ap (λ (x : ℕ). eqb x row) k))
      (pair_below r j l _ i (other (p d)) ∙ rows_found b d i j le r c other)
  rows_found (starts m v l ls k h b) d i j le r c other =
      by_cases _ (eqb (given_by l) i)
      (λ (e : eqb (given_by l) i ≡ true).
      let g : given_by l ≡ i = eqb-true _ _ e in
      let f : found_at (given_by l) j (values_from m.form (given_by l) (given_by l) ls) ≡ in_lines m.form (j - i) j (up_to is_plain ls) =
      row_found b d h.low (given_by l) (j - i) j (omega arith) in
      rw (values_row m.form r c l ls k, lines_here i l ls k g) (ap (λ (x : ℕ). found_at x j (values_from m.form (given_by l) (given_by l) ls)) (sym g) ∙ f))
      (λ (e : eqb (given_by l) i ≡ false).
      rw (values_row m.form r c l ls k, lines_other i l ls (eqb-false _ _ e))
      (rows_found b d i j le (given_by l) (given_by l) (λ (z : given_by l ≡ 0 → ⊥). eqb-false _ _ e)))
  rows_found (widens m v l ls k h b) d i j le r c other =
      rw (values_width m.form r c l ls k, lines_past i l ls (ap (λ (x : ℕ). eqb x row) k)) (rows_found b d i j le r c other)

  -- "Diagonal_matrix: N numbers, no [Row]"
  diagonal_found :
      {m : forward.Matrix} {v : ℕ} {ls : List Line} → Body known n w m v ls → m.form ≡ diagonal → (i r k : ℕ) → r + k ≡ i →
      found_at i i (values_from m.form r r ls) ≡ word_of k (numbers_of ls)
  diagonal_found (closes m v h e) d i r k q = rw (values_none m.form r r, numbers_of_none) (found_none i i ∙ sym (word_none k))
  diagonal_found (numbers m v l ls key s p h b) d i r k q =
      let size : ℕ = length (words l.content) in
      rw (values_down m.form r r l ls key d, numbers_of_plain l ls key)
      (numbers_found m.form i i _ (numbers_of ls) r r (words l.content) k q (if_true _ _ (eq-eqb _ _ d) ∙ q)
      (λ (g : size ≤ k). diagonal_found b d i (r + size) (k - size) (omega arith)))
  diagonal_found (pair m v l ls key s p h b) d i r k q = absurd (omega (arith, s, d))
  diagonal_found (starts m v l ls key h b) d i r k q = absurd (h.rowed d)
  diagonal_found (widens m v l ls key h b) d i r k q =
      let g : m.form ≡ banded = h.form in
      absurd (omega arith)

  diagonal_none :
      {m : forward.Matrix} {v : ℕ} {ls : List Line} → Body known n w m v ls → m.form ≡ diagonal → (i j : ℕ) → (i ≡ j → ⊥) → (r : ℕ) →
      found_at i j (values_from m.form r r ls) ≡ zero_word
  diagonal_none (closes m v h e) d i j off r = rw (values_none m.form r r) (found_none i j)
  diagonal_none (numbers m v l ls key s p h b) d i j off r =
      rw (values_down m.form r r l ls key d)
      (numbers_off m.form d i j off _ r (words l.content) ∙ diagonal_none b d i j off (r + length (words l.content)))
  diagonal_none (pair m v l ls key s p h b) d i j off r = absurd (omega (arith, s, d))
  diagonal_none (starts m v l ls key h b) d i j off r = absurd (h.rowed d)
  diagonal_none (widens m v l ls key h b) d i j off r =
      let g : m.form ≡ banded = h.form in
      absurd (omega arith)

-- ---- by its form

-- the lines of a matrix write what its values give
abbrev pub Found : ℕ → List Line → Type 0
Found form body = (i j : ℕ) → 1 ≤ i → i ≤ j → written_at form body i j ≡ found_at i j (values_from form 1 1 body)

module _ (known n w v form : ℕ) (body : List Line) (b : Body known n w (new_matrix form v) v body) where
  on_diagonal : form ≡ diagonal → (i : ℕ) → 1 ≤ i → found_at i i (values_from form 1 1 body) ≡ word_of (i - 1) (numbers_of body)
  unfolding new_matrix
  on_diagonal d i low = diagonal_found known n w b d i 1 (i - 1) (omega arith)

  off_diagonal : form ≡ diagonal → (i j : ℕ) → (i ≡ j → ⊥) → found_at i j (values_from form 1 1 body) ≡ zero_word
  unfolding new_matrix
  off_diagonal d i j off = diagonal_none known n w b d i j off 1

  in_rows : (form ≡ diagonal → ⊥) → (i j : ℕ) → i ≤ j → found_at i j (values_from form 1 1 body) ≡ in_lines form (j - i) j (row_lines i body)
  unfolding new_matrix
  in_rows d i j le = rows_found known n w b d i j le 1 1 (λ (h : 0 ≡ 0 → ⊥) (e : 1 ≡ i). h refl)

  pub body_found : Found form body
  unfolding written_at
  body_found i j low le =
      by_test (λ (x : ℕ). x ≡ found_at i j (values_from form 1 1 body)) (eqb form diagonal) _ _
      (λ (d : eqb form diagonal ≡ true).
      by_test (λ (x : ℕ). x ≡ found_at i j (values_from form 1 1 body)) (eqb i j) _ _
      (λ (e : eqb i j ≡ true). sym (on_diagonal (eqb-true _ _ d) i low) ∙ ap (λ (x : ℕ). found_at i x (values_from form 1 1 body)) (eqb-true i j e))
      (λ (e : eqb i j ≡ false). sym (off_diagonal (eqb-true _ _ d) i j (eqb-false i j e))))
      (λ (d : eqb form diagonal ≡ false). sym (in_rows (eqb-false _ _ d) i j le))

matrix_values_lem : (l : Line) (form : ℕ) (body : List Line) → (matrix_of l form body).values ≡ values_from form 1 1 body
unfolding matrix_of
matrix_values_lem l form body = refl

-- ---- the lines from a line of a matrix on, in the forward reading

record Rest (s : State) (ls : List Line) : Type 0 where
  conductors : ℕ
  last : ℕ
  body : Body s.section.conductors conductors last s.matrix s.counts.values (up_to in_matrix ls)

-- the state after a keyword
abbrev next : Line → State → State
next l s = keyword_next (key_of l) (argument_of l).text s

-- the line breaks no rule
abbrev Kept : Line → State → Type 0
Kept l s = keyword_rule (key_of l) (argument_of l).text s ≡ 0

module _ (l : Line) (ls : List Line) (s : State) (q : l.place ≡ place.matrix) (p : s.place ≡ place.matrix) where
  rest_plain : key_of l ≡ plain → line_rule l.content s ≡ 0 → Rest (line_next l.content s) ls → Rest s (l ∷ ls)
  rest_plain k kept r =
      record {
        conductors = r.conductors;
        last = r.last;
        body =
            rw (up_in in_matrix l ls (matrix_plain l q k))
            (data_body s.section.conductors r.conductors r.last s.matrix s.counts.values l (up_to in_matrix ls) k
            (sym (data_rule_lem l.content s p) ∙ kept)
            (onward_body (line_next l.content s) _ _ _ _ _ (up_to in_matrix ls) (data_onward l.content s p) r.body));
      }

  rest_row :
      key_of l ≡ row → keyword_rule row (argument_of l).text s ≡ 0 → Rest (keyword_next row (argument_of l).text s) ls →
      Rest s (l ∷ ls)
  unfolding given_by
  rest_row k kept r =
      record {
        conductors = r.conductors;
        last = r.last;
        body =
            rw (up_in in_matrix l ls (matrix_kept l q (row_keeps l k)))
            (starts s.matrix s.counts.values l (up_to in_matrix ls) k (row_follows (argument_of l).text s kept p)
            (onward_body _ _ _ _ _ _ (up_to in_matrix ls) (row_onward (argument_of l).text s p) r.body));
      }

  rest_width :
      key_of l ≡ bandwidth → keyword_rule bandwidth (argument_of l).text s ≡ 0 →
      Rest (keyword_next bandwidth (argument_of l).text s) ls → Rest s (l ∷ ls)
  unfolding given_by
  rest_width k kept r =
      record {
        conductors = r.conductors;
        last = r.last;
        body =
            rw (up_in in_matrix l ls (matrix_kept l q (width_keeps l k)))
            (widens s.matrix s.counts.values l (up_to in_matrix ls) k (width_widens (argument_of l).text s kept p)
            (onward_body _ _ _ _ _ _ (up_to in_matrix ls) (width_onward (argument_of l).text s p) r.body));
      }

  rest_closed : eqb (key_of l) plain ≡ false → is_row_or_bandwidth (key_of l) ≡ false → Kept l s → Rest s (l ∷ ls)
  rest_closed k shut kept =
      record {
        conductors = shape_conductors s.matrix s.counts.values;
        last = s.counts.values;
        body =
            rw (up_out in_matrix l ls (matrix_left l k shut))
            (closes s.matrix s.counts.values (keyword_closes (key_of l) (argument_of l).text s kept p shut) refl);
      }

  rest_keyed :
      eqb (key_of l) plain ≡ false → Kept l s → MatrixKey (key_of l) →
      ((next l s).place ≡ place.matrix → Rest (next l s) ls) → Rest s (l ∷ ls)
  rest_keyed k kept (MatrixKey.is_row i) ih =
      let a : List ℕ = (argument_of l).text in
      let r : (keyword_next row a s).place ≡ place.matrix → Rest (keyword_next row a s) ls = rw i at ih in
      rest_row i (rw i at kept) (r (row_onward a s p).place)
  rest_keyed k kept (MatrixKey.is_width i) ih =
      let a : List ℕ = (argument_of l).text in
      let r : (keyword_next bandwidth a s).place ≡ place.matrix → Rest (keyword_next bandwidth a s) ls = rw i at ih in
      rest_width i (rw i at kept) (r (width_onward a s p).place)
  rest_keyed k kept (MatrixKey.opens h) ih = rest_closed k (opens_closes (key_of l) h) kept
  rest_keyed k kept (MatrixKey.leaves i) ih = rest_closed k (end_closes l i) kept

  rest_step : (s' : State) → Moves l s s' → (s'.place ≡ place.matrix → Rest s' ls) → Rest s (l ∷ ls)
  rest_step s' (idle (ended x)) ih = absurd (omega arith)
  rest_step s' (idle (waits x k)) ih = absurd (omega arith)
  rest_step s' (plainly k kept) ih = rest_plain k kept (ih (data_onward l.content s p).place)
  rest_step s' (keyed k kept) ih =
      rest_keyed k kept (matrix_key (key_of l) (matrix_leads (key_of l) (argument_of l).text s kept p)) ih

rest : {s e : State} {ls : List Line} → Goes s ls e → e.place ≡ done → s.place ≡ place.matrix → Rest s ls
rest Goes.none d p = absurd (omega arith)
rest (Goes.more {s = s} {s' = s'} {l = l} {ls = ls} q blank mv g) d p =
    rest_step l ls s (q ∙ p) p s' mv (λ (h : s'.place ≡ place.matrix). rest g d h)

-- ---- the lines of a text that breaks no rule of the reading

-- for each line that opens a matrix, with the lines after it
pub data EachOpening : List Line → Type 0 where
  none : EachOpening []
  more :
      {l : Line} {ls : List Line} → (opens_matrix_at l ≡ true → Found (form_at l) (up_to in_matrix ls)) → EachOpening ls →
      EachOpening (l ∷ ls)

module _ (l : Line) (ls : List Line) (s e : State) (d : e.place ≡ done) (q : l.place ≡ s.place) where
  opens_place : opens_matrix_at l ≡ true → either (eqb l.place place.section) (eqb l.place place.matrix) ≡ true
  unfolding opens_matrix_at
  opens_place h = both_first _ _ h

  -- the state after it is that of a new matrix
  onward_found :
      (known : ℕ) → Onward (next l s) known (new_matrix (form_at l) s.counts.values) s.counts.values → Goes (next l s) ls e →
      Found (form_at l) (up_to in_matrix ls)
  onward_found known o g =
      let r : Rest (next l s) ls = rest g d o.place in
      body_found known r.conductors r.last s.counts.values (form_at l) (up_to in_matrix ls)
      (onward_body (next l s) _ _ _ _ _ (up_to in_matrix ls) o r.body)

  keyed_found : opens_matrix_at l ≡ true → Goes (next l s) ls e → Found (form_at l) (up_to in_matrix ls)
  keyed_found h g =
      let k : opens_matrix (key_of l) ≡ true = opening_key l h in
      by_cases (Found (form_at l) (up_to in_matrix ls)) (eqb l.place place.section)
      (λ (a : eqb l.place place.section ≡ true).
      onward_found _ (first_onward (key_of l) k (argument_of l).text s (sym q ∙ eqb-true _ _ a)) g)
      (λ (a : eqb l.place place.section ≡ false).
      onward_found _ (next_onward (key_of l) k (argument_of l).text s (sym q ∙ eqb-true _ _ (sym (either_rest _ _ a) ∙ opens_place h))) g)

  opening_found : (s' : State) → Moves l s s' → Goes s' ls e → opens_matrix_at l ≡ true → Found (form_at l) (up_to in_matrix ls)
  unfolding either
  opening_found s' (idle i) g h =
      absurd
      (true≢false
      (sym (opens_place h)
      ∙ idle_outside (λ (x : ℕ). either (eqb x place.section) (eqb x place.matrix)) refl refl l s q i))
  opening_found s' (plainly k kept) g h = absurd (true≢false (sym (opening_key l h) ∙ plain_opens l k))
  opening_found s' (keyed k kept) g h = keyed_found h g

goes_openings : {s e : State} {ls : List Line} → Goes s ls e → e.place ≡ done → EachOpening ls
goes_openings Goes.none d = none
goes_openings (Goes.more {s = s} {s' = s'} {e = e} {l = l} {ls = ls} q blank mv g) d =
    more (opening_found l ls s e d q s' mv g) (goes_openings g d)

-- every matrix that a line of the text opens
pub text_openings : (t : List ℕ) (c : Counts) → reading_of t ≡ Read c → EachOpening (significant t)
text_openings t c h =
    let e : Ends start_state (significant t) c = text_ends t c h in
    goes_openings e.goes e.done

-- ---- the matrices of its document

-- a matrix of a document: the line of the text that opens it, and the lines after that
pub record FoundMatrix (t : List ℕ) (m : Matrix) : Type 0 where
  pub before : List Line
  pub line : Line
  pub after : List Line
  pub stands : significant t ≡ before ++ (line ∷ after)
  pub opens : opens_matrix_at line ≡ true
  pub same : m ≡ matrix_of line (form_at line) (up_to in_matrix after)
  pub found :
      (i j : ℕ) → 1 ≤ i → i ≤ j → written_at (form_at line) (up_to in_matrix after) i j ≡ found_at i j m.values

module _ (l : Line) (ls : List Line) where
  matrices_pass :
      in_section l ≡ true → opens_matrix_at l ≡ false →
      gather matrix_at (up_to in_section (l ∷ ls)) ≡ gather matrix_at (up_to in_section ls)
  unfolding matrix_at
  matrices_pass i h =
      ap (gather matrix_at) (up_in in_section l ls i) ∙ gather_more matrix_at l (up_to in_section ls)
      ∙ ap (λ (xs : List Matrix). xs ++ gather matrix_at (up_to in_section ls)) (if_false _ _ h)

-- one line more before
module _ (t : List ℕ) (before : List Line) (l : Line) (ls : List Line) (here : significant t ≡ before ++ (l ∷ ls)) where
  one_more : significant t ≡ (before ++ (l ∷ [])) ++ ls
  one_more = here ∙ sym (append_assoc before (l ∷ []) ls)

  opened_matrix : opens_matrix_at l ≡ true → Found (form_at l) (up_to in_matrix ls) → FoundMatrix t (matrix_of l (form_at l) (up_to in_matrix ls))
  opened_matrix h f =
      record {
        before = before;
        line = l;
        after = ls;
        stands = here;
        opens = h;
        same = refl;
        found =
            λ (i j : ℕ) (low : 1 ≤ i) (le : i ≤ j).
            f i j low le ∙ ap (found_at i j) (sym (matrix_values_lem l (form_at l) (up_to in_matrix ls)));
      }

  matrices_step :
      (opens_matrix_at l ≡ true → Found (form_at l) (up_to in_matrix ls)) → Each (FoundMatrix t) (gather matrix_at (up_to in_section ls)) →
      Each (FoundMatrix t) (gather matrix_at (up_to in_section (l ∷ ls)))
  matrices_step f later =
      by_cases (Each (FoundMatrix t) (gather matrix_at (up_to in_section (l ∷ ls)))) (in_section l)
      (λ (i : in_section l ≡ true).
      by_cases (Each (FoundMatrix t) (gather matrix_at (up_to in_section (l ∷ ls)))) (opens_matrix_at l)
      (λ (h : opens_matrix_at l ≡ true). rw (matrices_open l ls i h) (Each.more (opened_matrix h (f h)) later))
      (λ (h : opens_matrix_at l ≡ false). rw (matrices_pass l ls i h) later))
      (λ (i : in_section l ≡ false). rw (up_out in_section l ls i, gather_none matrix_at) Each.none)

  sections_step :
      Each (FoundMatrix t) (gather matrix_at (up_to in_section ls)) →
      Each (λ (x : Section). Each (FoundMatrix t) x.matrices) (gather section_at ls) →
      Each (λ (x : Section). Each (FoundMatrix t) x.matrices) (gather section_at (l ∷ ls))
  sections_step inside later =
      by_cases (Each (λ (x : Section). Each (FoundMatrix t) x.matrices) (gather section_at (l ∷ ls))) (opens_section l)
      (λ (h : opens_section l ≡ true).
      let all : Each (FoundMatrix t) (section_of l (up_to in_section ls)).matrices = rw (section_matrices l (up_to in_section ls)) inside in
      rw (gather_more section_at l ls, section_open l ls h) (Each.more all later))
      (λ (h : opens_section l ≡ false). rw (gather_more section_at l ls, section_skip l ls h) later)

matrices_found :
    (t : List ℕ) (before ls : List Line) → significant t ≡ before ++ ls → EachOpening ls →
    Each (FoundMatrix t) (gather matrix_at (up_to in_section ls))
matrices_found t before [] here none = rw (up_none in_section, gather_none matrix_at) Each.none
matrices_found t before (l ∷ ls) here (more f later) =
    matrices_step t before l ls here f (matrices_found t (before ++ (l ∷ [])) ls (one_more t before l ls here) later)

sections_found :
    (t : List ℕ) (before ls : List Line) → significant t ≡ before ++ ls → EachOpening ls →
    Each (λ (x : Section). Each (FoundMatrix t) x.matrices) (gather section_at ls)
sections_found t before [] here none = rw (gather_none section_at) Each.none
sections_found t before (l ∷ ls) here (more f later) =
    let on : significant t ≡ (before ++ (l ∷ [])) ++ ls = one_more t before l ls here in
    sections_step t before l ls here (matrices_found t (before ++ (l ∷ [])) ls on later) (sections_found t (before ++ (l ∷ [])) ls on later)

-- for every matrix of every section of a text that breaks no rule of the reading
pub text_found :
    (t : List ℕ) (c : Counts) → reading_of t ≡ Read c →
    Each (λ (x : Section). Each (FoundMatrix t) x.matrices) (document_of t).sections
unfolding document_of document_in
text_found t c h = sections_found t [] (significant t) refl (text_openings t c h)
