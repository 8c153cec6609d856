-- Values that rise: in a form that can be built line by line, and where the lines of a matrix put their numbers.
-- Assumes nothing.
use Prim.Native.Nat.{ℕ, suc, ◌+◌, ◌≤◌, ◌<◌}
use mathlib.Core.Path.{◌≡◌, refl, ◌∙◌, ap}
use mathlib.Core.Bool.{true, not}
use mathlib.Core.List.{List, [], ◌∷◌, ◌++◌}
use native.Mathlib.Nat.{le_refl}
use native.Mathlib.Omega.{arith}
use lib.ListN.{length}
use lib.Dec.{eqb}
use borrow.Author.Tests.{eq-eqb, ne_eqb, le-leb, lt-ltb}
use Rattle.table_record.specs.declared.Value.{Value}
use Rattle.table_layout.specs.Codes.{diagonal, sparse}
use Rattle.base.specs.If.{provided◌then◌else◌}
use Rattle.base.proofs.IfLaws.{if_true, if_false, both_true, either_left, either_right}
use Rattle.lex_line.specs.Words.{words}
use Rattle.lex_number.specs.Number.{number_of, word_in}
use Rattle.lex_keyword.specs.Names.{row, bandwidth}
use Rattle.doc.specs.Lines.{Line, plain, key_of}
use Rattle.doc.specs.Document.{next_row, numbers_at, sparse_at, values_from, given_by}
use Rattle.doc.specs.Holds.{Each, comes_before, is_in_upper_half, rises}

-- ---- values that rise

pub record Inside (n : ℕ) (v : Value) : Type 0 where
  pub low : 1 ≤ v.row
  pub right : v.row ≤ v.column
  pub high : v.column ≤ n

-- a value at (r, c) or after it, row first
pub data From (r c : ℕ) (v : Value) : Type 0 where
  below : r < v.row → From r c v
  along : r ≡ v.row → c ≤ v.column → From r c v

-- the first value is at (r, c) or after it, each other one after the one before it, and all inside n
pub data Rising (n : ℕ) : ℕ → ℕ → List Value → Type 0 where
  none : {r c : ℕ} → Rising n r c []
  more :
      {r c : ℕ} (v : Value) (vs : List Value) → From r c v → Inside n v → Rising n v.row (v.column + 1) vs →
      Rising n r c (v ∷ vs)

inside_told : (n : ℕ) (v : Value) → Inside n v → is_in_upper_half n v ≡ true
unfolding is_in_upper_half
inside_told n v h = both_true _ _ (le-leb _ _ h.low) (both_true _ _ (le-leb _ _ h.right) (le-leb _ _ h.high))

before_told : (v w : Value) → From v.row (v.column + 1) w → comes_before v w ≡ true
unfolding comes_before
before_told v w (below h) = either_left _ _ (lt-ltb _ _ h)
before_told v w (along e h) = either_right _ _ (both_true _ _ (eq-eqb _ _ e) (lt-ltb v.column w.column (omega arith)))

rises_more :
    {n : ℕ} {v : Value} {vs : List Value} → Inside n v → Rising n v.row (v.column + 1) vs → rises n vs ≡ true →
    rises n (v ∷ vs) ≡ true
unfolding rises
rises_more {n} {v} i none e = inside_told n v i
rises_more {n} {v} i (more w ws f j t) e = both_true _ _ (inside_told n v i) (both_true _ _ (before_told v w f) e)

-- it is what `rises` tests
pub rising_rises : {n r c : ℕ} {vs : List Value} → Rising n r c vs → rises n vs ≡ true
unfolding rises
rising_rises none = refl
rising_rises (more v vs f i t) = rises_more i t (rising_rises t)

pub rising_inside : {n r c : ℕ} {vs : List Value} → Rising n r c vs → Each (Inside n) vs
rising_inside none = Each.none
rising_inside (more v vs f i t) = Each.more i (rising_inside t)

-- it holds from any earlier row
pub rising_below : {n r c : ℕ} {vs : List Value} (q d : ℕ) → q < r → Rising n r c vs → Rising n q d vs
rising_below q d h none = none
rising_below q d h (more v vs (below g) i t) = more {r = q} v vs (below (omega arith)) i t
rising_below q d h (more v vs (along e g) i t) = more {r = q} v vs (below (omega arith)) i t

-- ---- the rows and columns of the numbers of a line

pub numbers_none : (form r c : ℕ) → numbers_at form r c [] ≡ []
unfolding numbers_at
numbers_none form r c = refl

-- the number that a word writes, at (r, c)
abbrev pub number_at : ℕ → ℕ → List ℕ → Value
number_at r c w = record { row = r; column = c; word = word_in (number_of w) }

module _ (form r c : ℕ) (w : List ℕ) (ws : List (List ℕ)) where
  pub numbers_more : numbers_at form r c (w ∷ ws) ≡ number_at r c w ∷ numbers_at form (next_row form r) (c + 1) ws
  unfolding numbers_at
  numbers_more = refl

  numbers_down : form ≡ diagonal → numbers_at form r c (w ∷ ws) ≡ number_at r c w ∷ numbers_at form (r + 1) (c + 1) ws
  unfolding next_row
  numbers_down d = numbers_more ∙ ap (λ (q : ℕ). number_at r c w ∷ numbers_at form q (c + 1) ws) (if_true _ _ (eq-eqb _ _ d))

  pub numbers_along : (form ≡ diagonal → ⊥) → numbers_at form r c (w ∷ ws) ≡ number_at r c w ∷ numbers_at form r (c + 1) ws
  unfolding next_row
  numbers_along d = numbers_more ∙ ap (λ (q : ℕ). number_at r c w ∷ numbers_at form q (c + 1) ws) (if_false _ _ (ne_eqb _ _ d))

pub numbers_length : (form r c : ℕ) (ws : List (List ℕ)) → length (numbers_at form r c ws) ≡ length ws
numbers_length form r c [] = ap length (numbers_none form r c)
numbers_length form r c (w ∷ ws) = ap length (numbers_more form r c w ws) ∙ ap suc (numbers_length form (next_row form r) (c + 1) ws)

-- down the diagonal; e is the row of the number after them
pub down_rises :
    (form n r e : ℕ) (ws : List (List ℕ)) (vs : List Value) → form ≡ diagonal → 1 ≤ r → r + length ws ≡ e → e ≤ n + 1 →
    Rising n e e vs → Rising n r r (numbers_at form r r ws ++ vs)
down_rises form n r e [] vs d h a b t =
    let q : e ≡ r = omega arith in
    rw (numbers_none form r r) (rw q at t)
down_rises form n r e (w ∷ ws) vs d h a b t =
    let next : Rising n (r + 1) (r + 1) (numbers_at form (r + 1) (r + 1) ws ++ vs) =
    down_rises form n (r + 1) e ws vs d (omega arith) (omega arith) b t in
    rw (numbers_down form r r w ws d)
    (more (number_at r r w) (numbers_at form (r + 1) (r + 1) ws ++ vs) (along refl (le_refl r))
    (record { low = h; right = le_refl r; high = omega arith })
    (rising_below r (r + 1) (omega arith) next))

-- along the row
pub along_rises :
    (form n r c e : ℕ) (ws : List (List ℕ)) (vs : List Value) → (form ≡ diagonal → ⊥) → 1 ≤ r → r ≤ c → c + length ws ≡ e →
    e ≤ n + 1 → Rising n r e vs → Rising n r c (numbers_at form r c ws ++ vs)
along_rises form n r c e [] vs d h g a b t =
    let q : e ≡ c = omega arith in
    rw (numbers_none form r c) (rw q at t)
along_rises form n r c e (w ∷ ws) vs d h g a b t =
    let next : Rising n r (c + 1) (numbers_at form r (c + 1) ws ++ vs) =
    along_rises form n r (c + 1) e ws vs d h (omega arith) (omega arith) b t in
    rw (numbers_along form r c w ws d)
    (more (number_at r c w) (numbers_at form r (c + 1) ws ++ vs) (along refl (le_refl c))
    (record { low = h; right = g; high = omega arith }) next)

-- ---- the rows and columns of the numbers of several lines

pub values_none : (form r c : ℕ) → values_from form r c [] ≡ []
unfolding values_from
values_none form r c = refl

-- the row of the number after a line of `count` numbers, the first of which is in row r
abbrev pub row_after : ℕ → ℕ → ℕ → ℕ
row_after form r count = provided eqb form diagonal then r + count else r

module _ (form r c : ℕ) (l : Line) (ls : List Line) where
  pub values_row : key_of l ≡ row → values_from form r c (l ∷ ls) ≡ values_from form (given_by l) (given_by l) ls
  unfolding values_from
  values_row k = if_true _ _ (eq-eqb _ _ k)

  pub values_width : key_of l ≡ bandwidth → values_from form r c (l ∷ ls) ≡ values_from form r c ls
  unfolding values_from
  values_width k = if_false _ _ (ap (λ (x : ℕ). eqb x row) k) ∙ if_true _ _ (ap (λ (x : ℕ). not (eqb x plain)) k)

  module _ (k : key_of l ≡ plain) where
    values_plain :
        values_from form r c (l ∷ ls)
        ≡ (provided eqb form sparse then sparse_at r (words l.content) ∷ values_from form r c ls else
        numbers_at form r c (words l.content) ++
        values_from form (row_after form r (length (words l.content))) (c + length (words l.content)) ls)
    unfolding values_from
    values_plain = if_false _ _ (ap (λ (x : ℕ). eqb x row) k) ∙ if_false _ _ (ap (λ (x : ℕ). not (eqb x plain)) k)

    pub values_sparse : form ≡ sparse → values_from form r c (l ∷ ls) ≡ sparse_at r (words l.content) ∷ values_from form r c ls
    values_sparse f = values_plain ∙ if_true _ _ (eq-eqb _ _ f)

    -- a line of numbers, of any form that has them
    pub values_numbers :
        (form ≡ sparse → ⊥) →
        values_from form r c (l ∷ ls)
        ≡ numbers_at form r c (words l.content) ++
        values_from form (row_after form r (length (words l.content))) (c + length (words l.content)) ls
    values_numbers f = values_plain ∙ if_false _ _ (ne_eqb _ _ f)

    values_next :
        (form ≡ sparse → ⊥) →
        (q : ℕ) →
        row_after form r (length (words l.content)) ≡ q →
        values_from form r c (l ∷ ls) ≡ numbers_at form r c (words l.content) ++ values_from form q (c + length (words l.content)) ls
    values_next f q e =
        values_numbers f
        ∙ ap (λ (x : ℕ). numbers_at form r c (words l.content) ++ values_from form x (c + length (words l.content)) ls) e

    pub values_down :
        form ≡ diagonal →
        values_from form r c (l ∷ ls)
        ≡ numbers_at form r c (words l.content) ++ values_from form (r + length (words l.content)) (c + length (words l.content)) ls
    values_down d = values_next (λ (f : form ≡ sparse). omega arith) _ (if_true _ _ (eq-eqb _ _ d))

    pub values_along :
        (form ≡ diagonal → ⊥) →
        (form ≡ sparse → ⊥) →
        values_from form r c (l ∷ ls) ≡ numbers_at form r c (words l.content) ++ values_from form r (c + length (words l.content)) ls
    values_along d f = values_next f _ (if_false _ _ (ne_eqb _ _ d))
