-- Laws of what one line of a matrix gives, by its kind: [Row], [Bandwidth], a line of numbers, and one of a Sparse_matrix.
-- Assumes nothing.
use Rattle.std.proofs.Common.{unwrap_or, Option, Some, None}
use Rattle.std.specs.Option.{option_or}
use mathlib.Core.Path.{◌≡◌, refl, sym, ◌∙◌, ap}
use mathlib.Core.Bool.{true, false}
use mathlib.Core.List.{List, ◌∷◌, ◌++◌}
use Prim.Native.Nat.{ℕ, suc, ◌+◌, ◌≤◌, ◌<◌, max}
use native.Mathlib.Omega.{arith}
use lib.ListN.{length}
use lib.Dec.{eqb}
use borrow.Author.Tests.{eq-eqb, ne_eqb}
use Rattle.table_layout.specs.Codes.{sparse, diagonal}
use Rattle.base.proofs.IfLaws.{if_true, if_false, by_cases, both_true, both_not_left, both_not_right, not_via, not_not_via}
use Rattle.lex_line.specs.Words.{words, first_of}
use Rattle.lex_number.specs.Integer.{is_integer, whole_of}
use Rattle.lex_number.proofs.IntegerLaws.{integer_below}
use Rattle.lex_keyword.specs.Names.{row, bandwidth}
use Rattle.doc.specs.Lines.{Line, plain, key_of}
use Rattle.doc.specs.Document.{given_by, bandwidth_in, next_row, numbers_at, sparse_at, values_from, named_by, greatest_in}
use Rattle.read_numbers.specs.Way.Numbers.{most_given, row_after}

-- ---- values of which the first counts

-- the first value given counts, whatever the rest gives
pub told_first : (f : Option ℕ) (n m : ℕ) → unwrap_or (option_or f (Some n)) m ≡ unwrap_or f n
told_first None n m = refl
told_first (Some v) n m = refl

-- ---- integers

pub whole_below : (s : List ℕ) → unwrap_or (whole_of s) 0 < most_given
unfolding whole_of
whole_below s =
    by_cases _ (is_integer s)
    (λ (e : is_integer s ≡ true). rw (if_true {A = Option ℕ} _ _ e) (integer_below s e))
    (λ (e : is_integer s ≡ false). rw (if_false {A = Option ℕ} _ _ e) (omega arith))

-- ---- the row of the next number

pub row_on : (form r n : ℕ) → row_after form (next_row form r) n ≡ row_after form r (suc n)
unfolding next_row
row_on form r n =
    by_cases _ (eqb form diagonal)
    (λ (e : eqb form diagonal ≡ true).
    let s : next_row form r ≡ r + 1 = if_true _ _ e in
    let k : next_row form r + n ≡ r + suc n = omega arith in
    if_true _ _ e ∙ k ∙ sym (if_true _ _ e))
    (λ (e : eqb form diagonal ≡ false). if_false _ _ e ∙ if_false _ _ e ∙ sym (if_false _ _ e))

pub row_same : (form r n : ℕ) → n ≡ 0 → row_after form r n ≡ r
row_same form r n z =
    by_cases _ (eqb form diagonal)
    (λ (e : eqb form diagonal ≡ true). let k : r + n ≡ r = omega arith in if_true _ _ e ∙ k)
    (λ (e : eqb form diagonal ≡ false). if_false _ _ e)

pub row_most : (form r : ℕ) → next_row form r ≤ r + 1
unfolding next_row
row_most form r =
    by_cases _ (eqb form diagonal)
    (λ (e : eqb form diagonal ≡ true). let s : next_row form r ≡ r + 1 = if_true _ _ e in omega arith)
    (λ (e : eqb form diagonal ≡ false). let s : next_row form r ≡ r = if_false _ _ e in omega arith)

-- ---- what a line adds

-- [Row]
module _ (form : ℕ) (l : Line) (ls : List Line) (is_row : key_of l ≡ row) where
  pub row_values : (r c : ℕ) → values_from form r c (l ∷ ls) ≡ values_from form (given_by l) (given_by l) ls
  unfolding values_from
  row_values r c = if_true _ _ (eq-eqb _ _ is_row)

  pub row_bandwidth : bandwidth_in (l ∷ ls) ≡ bandwidth_in ls
  unfolding bandwidth_in
  row_bandwidth = if_false _ _ (rw is_row (ne_eqb row bandwidth (λ (e : row ≡ bandwidth). omega arith)))

  pub row_greatest : greatest_in form (l ∷ ls) ≡ max (given_by l) (greatest_in form ls)
  unfolding greatest_in named_by
  row_greatest = ap (λ (n : ℕ). max n (greatest_in form ls)) (if_true _ _ (eq-eqb _ _ is_row))

-- a line with another keyword has no value
keyed_values : (form r c : ℕ) (l : Line) (ls : List Line) → eqb (key_of l) row ≡ false → eqb (key_of l) plain ≡ false →
    values_from form r c (l ∷ ls) ≡ values_from form r c ls
unfolding values_from
keyed_values form r c l ls not_row not_plain = if_false _ _ not_row ∙ if_true _ _ (not_via not_plain)

-- [Bandwidth]
module _ (form : ℕ) (l : Line) (ls : List Line) (is_bandwidth_lem : key_of l ≡ bandwidth) where
  not_row : eqb (key_of l) row ≡ false
  not_row = rw is_bandwidth_lem (ne_eqb bandwidth row (λ (e : bandwidth ≡ row). omega arith))

  not_plain : eqb (key_of l) plain ≡ false
  not_plain = rw is_bandwidth_lem (ne_eqb bandwidth plain (λ (e : bandwidth ≡ plain). omega arith))

  pub bandwidth_values : (r c : ℕ) → values_from form r c (l ∷ ls) ≡ values_from form r c ls
  bandwidth_values r c = keyed_values form r c l ls not_row not_plain

  pub bandwidth_told : bandwidth_in (l ∷ ls) ≡ given_by l
  unfolding bandwidth_in
  bandwidth_told = if_true _ _ (eq-eqb _ _ is_bandwidth_lem)

  pub bandwidth_greatest : greatest_in form (l ∷ ls) ≡ max 0 (greatest_in form ls)
  unfolding greatest_in named_by
  bandwidth_greatest = ap (λ (n : ℕ). max n (greatest_in form ls)) (if_false _ _ not_row ∙ if_false _ _ (both_not_right _ _ not_plain))

-- a line without a keyword
module _ (form : ℕ) (l : Line) (ls : List Line) (is_plain : key_of l ≡ plain) where
  plain_not_row : eqb (key_of l) row ≡ false
  plain_not_row = rw is_plain (ne_eqb plain row (λ (e : plain ≡ row). omega arith))

  pub plain_bandwidth : bandwidth_in (l ∷ ls) ≡ bandwidth_in ls
  unfolding bandwidth_in
  plain_bandwidth = if_false _ _ (rw is_plain (ne_eqb plain bandwidth (λ (e : plain ≡ bandwidth). omega arith)))

  module _ (is_sparse : form ≡ sparse) where
    pub sparse_values : (r c : ℕ) → values_from form r c (l ∷ ls) ≡ sparse_at r (words l.content) ∷ values_from form r c ls
    unfolding values_from
    sparse_values r c = if_false _ _ plain_not_row ∙ if_false _ _ (not_not_via (eq-eqb _ _ is_plain)) ∙ if_true _ _ (eq-eqb _ _ is_sparse)

    pub sparse_greatest : greatest_in form (l ∷ ls) ≡ max (unwrap_or (whole_of (first_of (words l.content))) 0) (greatest_in form ls)
    unfolding greatest_in named_by
    sparse_greatest =
        ap (λ (n : ℕ). max n (greatest_in form ls))
        (if_false _ _ plain_not_row ∙ if_true _ _ (both_true _ _ (eq-eqb _ _ is_sparse) (eq-eqb _ _ is_plain)))

  module _ (not_sparse : form ≡ sparse → ⊥) where
    pub numbers_values :
        (r c : ℕ) →
        values_from form r c (l ∷ ls)
        ≡ numbers_at form r c (words l.content)
        ++ values_from form (row_after form r (length (words l.content))) (c + length (words l.content)) ls
    unfolding values_from
    numbers_values r c =
        if_false _ _ plain_not_row ∙ if_false _ _ (not_not_via (eq-eqb _ _ is_plain)) ∙ if_false _ _ (ne_eqb _ _ not_sparse)

    pub numbers_greatest : greatest_in form (l ∷ ls) ≡ max 0 (greatest_in form ls)
    unfolding greatest_in named_by
    numbers_greatest =
        ap (λ (n : ℕ). max n (greatest_in form ls)) (if_false _ _ plain_not_row ∙ if_false _ _ (both_not_left _ _ (ne_eqb _ _ not_sparse)))

pub most_of : (g n m x y : ℕ) → x ≡ max n y → m ≡ max g n → max m y ≡ max g x
most_of g n m x y e f = omega arith
