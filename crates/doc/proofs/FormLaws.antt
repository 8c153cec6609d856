-- The numbers of a matrix that breaks no rule, form by form: how many there are, at which rows
-- and columns, and how many conductors they give.
-- Assumes nothing.
use Prim.Native.Nat.{ℕ, ◌+◌, ◌-◌, ◌≤◌, ◌<◌, max}
use mathlib.Core.Path.{◌≡◌, refl, sym, ◌∙◌, ap}
use mathlib.Core.Bool.{true, false, true≢false}
use mathlib.Core.List.{List, [], ◌∷◌, ◌++◌}
use mathlib.Core.Logic.{◌⊎◌}
use native.Mathlib.Nat.{le_refl}
use native.Mathlib.Omega.{arith}
use lib.ListN.{length, length-append}
use lib.Dec.{eqb}
use borrow.Author.Tests.{eq-eqb, ne_eqb, eqb-true, eqb-false, leb-true}
use Rattle.table_record.specs.declared.Value.{Value}
use Rattle.table_layout.specs.Codes.{diagonal, banded, sparse}
use Rattle.base.proofs.IfLaws.{if_true, if_false, by_cases, both_true, both_not_left, both_not_right, both_first, both_second}
use Rattle.lex_line.specs.Words.{words, second_of}
use Rattle.lex_number.specs.Number.{number_of, is_formed, is_bounded, word_in, Number}
use Rattle.lex_number.specs.ValueWord.{is_value_word}
use Rattle.std.proofs.Common.{Ok, Err}
use Rattle.lex_number.specs.declared.NumberError.TheVariants.{Malformed, Range}
use Rattle.lex_number.proofs.NumberLaws.{number_word}
use Rattle.lex_keyword.specs.Names.{row, bandwidth}
use Rattle.line_matrix.specs.declared.Matrix.{Matrix}
use Rattle.line_matrix.specs.Matrix.{with_bandwidth, still_fits, with_row, number_check, are_formed, are_bounded, with_column}
use Rattle.doc.specs.Lines.{Line, plain, key_of}
use Rattle.doc.specs.Document.{next_row, numbers_at, sparse_at, values_from, given_by, bandwidth_in, named_by, greatest_in}
use Rattle.doc.specs.Holds.{Each}
use Rattle.doc.proofs.RiseLaws.{
  From,
  Rising,
  rising_below,
  numbers_none,
  numbers_more,
  numbers_length,
  down_rises,
  values_none,
  row_after,
  values_row,
  values_width,
  values_sparse,
  values_numbers,
  values_down,
}
use Rattle.doc.proofs.ShapeLaws.{Pair, column_of, Closed, Body}
use Rattle.doc.proofs.ShapeLaws.Body.{closes, numbers, pair, starts, widens}
use Rattle.table_layout.specs.Bounds.{most_conductors, most_bandwidth}

-- ---- number words

told_word : (w : List ℕ) (x : Number) → number_of w ≡ x → is_formed x ≡ true → is_bounded x ≡ true → is_value_word (word_in x) ≡ true
told_word w (Ok v) e f b = number_word w v e
told_word w (Err Malformed) e f b = absurd (true≢false (sym f))
told_word w (Err Range) e f b = absurd (true≢false (sym b))

-- a number within its bounds writes a value word
number_told : (w : List ℕ) → (number_check w).formed ≡ true → (number_check w).bounded ≡ true → is_value_word (word_in (number_of w)) ≡ true
unfolding number_check
number_told w f b = told_word w (number_of w) refl f b

abbrev pub HasWord : Value → Type 0
HasWord v = is_value_word v.word ≡ true

numbers_words : (form r c : ℕ) (ws : List (List ℕ)) → are_formed ws ≡ true → are_bounded ws ≡ true → Each HasWord (numbers_at form r c ws)
unfolding are_formed are_bounded
numbers_words form r c [] f b = rw (numbers_none form r c) Each.none
numbers_words form r c (w ∷ ws) f b =
    rw (numbers_more form r c w ws)
    (Each.more (number_told w (both_first _ _ f) (both_first _ _ b))
    (numbers_words form (next_row form r) (c + 1) ws (both_second _ _ f) (both_second _ _ b)))

sparse_word_lem : (r : ℕ) (l : Line) → Pair l → HasWord (sparse_at r (words l.content))
unfolding sparse_at
sparse_word_lem r l h = number_told (second_of (words l.content)) h.formed h.bounded

each_append : {A : Type 0} {P : A → Type 0} {xs : List A} (ys : List A) → Each P xs → Each P ys → Each P (xs ++ ys)
each_append ys Each.none k = k
each_append ys (Each.more h hs) k = Each.more h (each_append ys hs k)

-- ---- what holds of every form

module _ (known n w : ℕ) where
  -- one value for each number read
  pub body_counts :
      {m : Matrix} {v : ℕ} {ls : List Line} → Body known n w m v ls → (r c : ℕ) → v + length (values_from m.form r c ls) ≡ w
  unfolding with_row with_column with_bandwidth
  body_counts (closes m v h e) r c = rw (values_none m.form r c) (omega arith)
  body_counts (numbers m v l ls k f p h b) r c =
      let count : ℕ = length (words l.content) in
      let ih : v + count + length (values_from m.form (row_after m.form r count) (c + count) ls) ≡ w = body_counts b _ _ in
      rw (values_numbers m.form r c l ls k f, length-append, numbers_length) (omega arith)
  body_counts (pair m v l ls k f p h b) r c =
      let ih : v + 1 + length (values_from m.form r c ls) ≡ w = body_counts b r c in
      rw (values_sparse m.form r c l ls k f) (omega arith)
  body_counts (starts m v l ls k h b) r c = rw (values_row m.form r c l ls k) (body_counts b (given_by l) (given_by l))
  body_counts (widens m v l ls k h b) r c = rw (values_width m.form r c l ls k) (body_counts b r c)

  pub body_words :
      {m : Matrix} {v : ℕ} {ls : List Line} → Body known n w m v ls → (r c : ℕ) → Each HasWord (values_from m.form r c ls)
  unfolding with_row with_column with_bandwidth
  body_words (closes m v h e) r c = rw (values_none m.form r c) Each.none
  body_words (numbers m v l ls k f p h b) r c =
      rw (values_numbers m.form r c l ls k f)
      (each_append _ (numbers_words m.form r c (words l.content) h.formed h.bounded) (body_words b _ _))
  body_words (pair m v l ls k f p h b) r c = rw (values_sparse m.form r c l ls k f) (Each.more (sparse_word_lem r l h) (body_words b r c))
  body_words (starts m v l ls k h b) r c = rw (values_row m.form r c l ls k) (body_words b (given_by l) (given_by l))
  body_words (widens m v l ls k h b) r c = rw (values_width m.form r c l ls k) (body_words b r c)

  -- the matrix has a number, and as many conductors as those before it
  pub body_same : {m : Matrix} {v : ℕ} {ls : List Line} → Body known n w m v ls → (known ≡ 0) ⊎ (known ≡ n)
  body_same (closes m v h e) = h.same
  body_same (numbers m v l ls k f p h b) = body_same b
  body_same (pair m v l ls k f p h b) = body_same b
  body_same (starts m v l ls k h b) = body_same b
  body_same (widens m v l ls k h b) = body_same b

  pub body_some : {m : Matrix} {v : ℕ} {ls : List Line} → Body known n w m v ls → m.first < w
  unfolding with_row with_column with_bandwidth
  body_some (closes m v h e) = omega (arith, h.some)
  body_some (numbers m v l ls k f p h b) = body_some b
  body_some (pair m v l ls k f p h b) = body_some b
  body_some (starts m v l ls k h b) = body_some b
  body_some (widens m v l ls k h b) = body_some b

-- ---- [Bandwidth]

width_none : bandwidth_in [] ≡ 0
unfolding bandwidth_in
width_none = refl

module _ (l : Line) (ls : List Line) where
  pub width_here : key_of l ≡ bandwidth → bandwidth_in (l ∷ ls) ≡ given_by l
  unfolding bandwidth_in
  width_here k = if_true _ _ (eq-eqb _ _ k)

  width_plain : key_of l ≡ plain → bandwidth_in (l ∷ ls) ≡ bandwidth_in ls
  unfolding bandwidth_in
  width_plain k = if_false _ _ (ap (λ (x : ℕ). eqb x bandwidth) k)

  width_row : key_of l ≡ row → bandwidth_in (l ∷ ls) ≡ bandwidth_in ls
  unfolding bandwidth_in
  width_row k = if_false _ _ (ap (λ (x : ℕ). eqb x bandwidth) k)

module _ (known n w : ℕ) where
  -- "bandwidth or 0"
  pub body_width : {m : Matrix} {v : ℕ} {ls : List Line} → Body known n w m v ls → (m.form ≡ banded → ⊥) → bandwidth_in ls ≡ 0
  unfolding with_row with_column
  body_width (closes m v h e) f = width_none
  body_width (numbers m v l ls k s p h b) f = width_plain l ls k ∙ body_width b f
  body_width (pair m v l ls k s p h b) f = width_plain l ls k ∙ body_width b f
  body_width (starts m v l ls k h b) f = width_row l ls k ∙ body_width b f
  body_width (widens m v l ls k h b) f = absurd (f h.form)

  pub body_narrow : {m : Matrix} {v : ℕ} {ls : List Line} → Body known n w m v ls → bandwidth_in ls ≤ most_bandwidth
  body_narrow (closes m v h e) = omega (arith, width_none)
  body_narrow (numbers m v l ls k s p h b) = rw (width_plain l ls k) (body_narrow b)
  body_narrow (pair m v l ls k s p h b) = rw (width_plain l ls k) (body_narrow b)
  body_narrow (starts m v l ls k h b) = rw (width_row l ls k) (body_narrow b)
  body_narrow (widens m v l ls k h b) = rw (width_here l ls k) h.high

-- ---- the conductors

greatest_none : (form : ℕ) → greatest_in form [] ≡ 0
unfolding greatest_in
greatest_none form = refl

module _ (form : ℕ) (l : Line) (ls : List Line) where
  greatest_more : greatest_in form (l ∷ ls) ≡ max (named_by form l) (greatest_in form ls)
  unfolding greatest_in
  greatest_more = refl

  named_row : key_of l ≡ row → named_by form l ≡ given_by l
  unfolding named_by
  named_row k = if_true _ _ (eq-eqb _ _ k)

  named_column : key_of l ≡ plain → form ≡ sparse → named_by form l ≡ column_of l
  unfolding named_by
  named_column k f =
      if_false _ _ (ap (λ (x : ℕ). eqb x row) k) ∙ if_true _ _ (both_true _ _ (eq-eqb _ _ f) (eq-eqb _ _ k))

  named_nothing : key_of l ≡ plain → (form ≡ sparse → ⊥) → named_by form l ≡ 0
  unfolding named_by
  named_nothing k f = if_false _ _ (ap (λ (x : ℕ). eqb x row) k) ∙ if_false _ _ (both_not_left _ _ (ne_eqb _ _ f))

  named_width : key_of l ≡ bandwidth → named_by form l ≡ 0
  unfolding named_by
  named_width k =
      if_false _ _ (ap (λ (x : ℕ). eqb x row) k) ∙ if_false _ _ (both_not_right _ _ (ap (λ (x : ℕ). eqb x plain) k))

module _ (known n w : ℕ) where
  -- "the greatest row or column named"
  pub sparse_named :
      {m : Matrix} {v : ℕ} {ls : List Line} → Body known n w m v ls → m.form ≡ sparse →
      max m.rows.greatest (greatest_in m.form ls) ≡ n
  unfolding with_row with_column
  sparse_named (closes m v h e) f =
      let g : m.rows.greatest ≡ n = h.named f in
      rw (greatest_none m.form) (omega arith)
  sparse_named (numbers m v l ls k s p h b) f = absurd (s f)
  sparse_named (pair m v l ls k s p h b) f =
      let ih : max (max m.rows.greatest (column_of l)) (greatest_in m.form ls) ≡ n = sparse_named b f in
      rw (greatest_more m.form l ls, named_column m.form l ls k f) (omega arith)
  sparse_named (starts m v l ls k h b) f =
      let ih : max (max m.rows.greatest (given_by l)) (greatest_in m.form ls) ≡ n = sparse_named b f in
      rw (greatest_more m.form l ls, named_row m.form l ls k) (omega arith)
  sparse_named (widens m v l ls k h b) f =
      let g : m.form ≡ banded = h.form in
      absurd (omega arith)

  -- "[Row] 1 to N"
  pub rows_named :
      {m : Matrix} {v : ℕ} {ls : List Line} → Body known n w m v ls → (m.form ≡ diagonal → ⊥) → (m.form ≡ sparse → ⊥) →
      max m.rows.row (greatest_in m.form ls) ≡ n
  unfolding with_row with_bandwidth
  rows_named (closes m v h e) d f =
      let g : m.rows.row ≡ n = (h.rows d f).last in
      rw (greatest_none m.form) (omega arith)
  rows_named (numbers m v l ls k s p h b) d f =
      let ih : max m.rows.row (greatest_in m.form ls) ≡ n = rows_named b d f in
      rw (greatest_more m.form l ls, named_nothing m.form l ls k f) (omega arith)
  rows_named (pair m v l ls k s p h b) d f = absurd (f s)
  rows_named (starts m v l ls k h b) d f =
      let ih : max (given_by l) (greatest_in m.form ls) ≡ n = rows_named b d f in
      let g : given_by l ≡ m.rows.row + 1 = h.next f in
      rw (greatest_more m.form l ls, named_row m.form l ls k) (omega arith)
  rows_named (widens m v l ls k h b) d f =
      let ih : max m.rows.row (greatest_in m.form ls) ≡ n = rows_named b d f in
      rw (greatest_more m.form l ls, named_width m.form l ls k) (omega arith)

  -- "Diagonal_matrix: N numbers"
  pub diagonal_named : {m : Matrix} {v : ℕ} {ls : List Line} → Body known n w m v ls → m.form ≡ diagonal → w - m.first ≡ n
  diagonal_named (closes m v h e) d =
      let g : v - m.first ≡ n = h.down d in
      omega arith
  diagonal_named (numbers m v l ls k s p h b) d = diagonal_named b d
  diagonal_named (pair m v l ls k s p h b) d = absurd (omega (arith, s))
  diagonal_named (starts m v l ls k h b) d = absurd (h.rowed d)
  diagonal_named (widens m v l ls k h b) d =
      let g : m.form ≡ banded = h.form in
      absurd (omega arith)

  -- "[Row] .. 1 to 256", "a diagonal over 256 (17)"
  closed_most : (m : Matrix) (v : ℕ) → Closed known n m v → m.rows.row ≤ most_conductors → m.rows.greatest ≤ most_conductors → n ≤ most_conductors
  closed_most m v h a g =
      by_cases (n ≤ most_conductors) (eqb m.form diagonal)
      (λ (d : eqb m.form diagonal ≡ true). h.narrow (eqb-true _ _ d))
      (λ (d : eqb m.form diagonal ≡ false).
      by_cases (n ≤ most_conductors) (eqb m.form sparse)
      (λ (f : eqb m.form sparse ≡ true). let e : m.rows.greatest ≡ n = h.named (eqb-true _ _ f) in omega arith)
      (λ (f : eqb m.form sparse ≡ false). let e : m.rows.row ≡ n = (h.rows (eqb-false _ _ d) (eqb-false _ _ f)).last in omega arith))

  pub body_most : {m : Matrix} {v : ℕ} {ls : List Line} → Body known n w m v ls → m.rows.row ≤ most_conductors → m.rows.greatest ≤ most_conductors → n ≤ most_conductors
  unfolding with_row with_column with_bandwidth
  body_most (closes m v h e) a g = closed_most m v h a g
  body_most (numbers m v l ls k s p h b) a g = body_most b a g
  body_most (pair m v l ls k s p h b) a g =
      let c : column_of l ≤ most_conductors = h.high in
      body_most b a (omega arith)
  body_most (starts m v l ls k h b) a g =
      let c : given_by l ≤ most_conductors = h.high in
      body_most b c (omega arith)
  body_most (widens m v l ls k h b) a g = body_most b a g

-- ---- Diagonal_matrix: the next number is at (p, p)

module _ (known n w : ℕ) where
  pub diagonal_rises :
      {m : Matrix} {v : ℕ} {ls : List Line} → Body known n w m v ls → m.form ≡ diagonal → (p : ℕ) → v + 1 ≡ m.first + p →
      1 ≤ p → Rising n p p (values_from m.form p p ls)
  diagonal_rises (closes m v h e) d p a c = rw (values_none m.form p p) Rising.none
  diagonal_rises (numbers m v l ls k s q h b) d p a c =
      let count : ℕ = length (words l.content) in
      let next : Rising n (p + count) (p + count) (values_from m.form (p + count) (p + count) ls) =
      diagonal_rises b d (p + count) (omega arith) (omega arith) in
      let end : w - m.first ≡ n = diagonal_named known n w b d in
      let all : v + count + length (values_from m.form 1 1 ls) ≡ w = body_counts known n w b 1 1 in
      rw (values_down m.form p p l ls k d) (down_rises m.form n p (p + count) (words l.content) _ d c refl (omega arith) next)
  diagonal_rises (pair m v l ls k s q h b) d p a c = absurd (omega (arith, s))
  diagonal_rises (starts m v l ls k h b) d p a c = absurd (h.rowed d)
  diagonal_rises (widens m v l ls k h b) d p a c =
      let g : m.form ≡ banded = h.form in
      absurd (omega arith)

-- ---- Sparse_matrix: the next number is in the row being read, not before the least column

from_one : (n i : ℕ) (vs : List Value) → 1 ≤ i → Rising n i i vs → Rising n 1 1 vs
from_one n i vs h t =
    by_cases (Rising n 1 1 vs) (eqb i 1)
    (λ (e : eqb i 1 ≡ true). rw (eqb-true i 1 e) at t)
    (λ (e : eqb i 1 ≡ false). let g : i ≡ 1 → ⊥ = eqb-false i 1 e in rising_below 1 1 (omega arith) t)

module _ (known n w : ℕ) where
  -- a shape that is right at the end was right all along
  sparse_fits : {m : Matrix} {v : ℕ} {ls : List Line} → Body known n w m v ls → m.form ≡ sparse → m.rows.fits ≡ true
  unfolding with_row still_fits with_column
  sparse_fits (closes m v h e) f = h.fits f
  sparse_fits (numbers m v l ls k s p h b) f = absurd (s f)
  sparse_fits (pair m v l ls k s p h b) f = both_first _ _ (sparse_fits b f)
  sparse_fits (starts m v l ls k h b) f = both_first _ _ (sparse_fits b f)
  sparse_fits (widens m v l ls k h b) f =
      let g : m.form ≡ banded = h.form in
      absurd (omega arith)

  module _
      (m : Matrix)
      (v : ℕ)
      (l : Line)
      (ls : List Line)
      (f : m.form ≡ sparse)
      (b : Body known n w (with_column (column_of l) m) (v + 1) ls) where
    column_least : m.rows.least ≤ column_of l
    unfolding with_column
    column_least = leb-true _ _ (both_second _ _ (sparse_fits b f))

    column_high : column_of l ≤ n
    unfolding with_column
    column_high =
        let e : max (max m.rows.greatest (column_of l)) (greatest_in m.form ls) ≡ n = sparse_named known n w b f in
        omega arith

    column_rises :
        (r : ℕ) (vs : List Value) → 1 ≤ r → r ≤ m.rows.least → Rising n r (column_of l + 1) vs →
        Rising n r m.rows.least (sparse_at r (words l.content) ∷ vs)
    unfolding sparse_at
    column_rises r vs a c t =
        let e : m.rows.least ≤ column_of l = column_least in
        Rising.more (sparse_at r (words l.content)) vs (From.along refl e) (record { low = a; right = omega arith; high = column_high }) t

  columns_rise :
      {m : Matrix} {v : ℕ} {ls : List Line} → Body known n w m v ls → m.form ≡ sparse → 1 ≤ m.rows.row → m.rows.row ≤ m.rows.least →
      (c : ℕ) → Rising n m.rows.row m.rows.least (values_from m.form m.rows.row c ls)
  unfolding with_row with_column
  columns_rise (closes m v h e) f a d c = rw (values_none m.form m.rows.row c) Rising.none
  columns_rise (numbers m v l ls k s p h b) f a d c = absurd (s f)
  columns_rise (pair m v l ls k s p h b) f a d c =
      let e : m.rows.least ≤ column_of l = column_least m v l ls f b in
      let g : m.rows.row ≤ column_of l + 1 = omega arith in
      rw (values_sparse m.form m.rows.row c l ls k f) (column_rises m v l ls f b m.rows.row _ a d (columns_rise b f a g c))
  columns_rise (starts m v l ls k h b) f a d c =
      rw (values_row m.form m.rows.row c l ls k)
      (rising_below m.rows.row m.rows.least (h.rises f) (columns_rise b f h.low (le_refl (given_by l)) (given_by l)))
  columns_rise (widens m v l ls k h b) f a d c =
      let g : m.form ≡ banded = h.form in
      absurd (omega arith)

  -- from its first [Row] on
  pub sparse_rises :
      {m : Matrix} {v : ℕ} {ls : List Line} → Body known n w m v ls → m.form ≡ sparse → m.rows.row ≡ 0 →
      Rising n 1 1 (values_from m.form 1 1 ls)
  unfolding with_row
  sparse_rises (closes m v h e) f z = rw (values_none m.form 1 1) Rising.none
  sparse_rises (numbers m v l ls k s p h b) f z = absurd (s f)
  sparse_rises (pair m v l ls k s p h b) f z = absurd (p (λ (d : m.form ≡ diagonal). omega arith) z)
  sparse_rises (starts m v l ls k h b) f z =
      rw (values_row m.form 1 1 l ls k)
      (from_one n (given_by l) _ h.low (columns_rise b f h.low (le_refl (given_by l)) (given_by l)))
  sparse_rises (widens m v l ls k h b) f z =
      let g : m.form ≡ banded = h.form in
      absurd (omega arith)
