-- Laws of the value of a number: only letters at the end, the power of ten, and that no cap changes an answer.
-- Assumes nothing.
use mathlib.Core.Path.{◌≡◌, refl, sym, ◌∙◌}
use mathlib.Core.Bool.{Bool, true, false}
use mathlib.Core.List.{List}
use mathlib.Core.Logic.{◌⊎◌, inl, inr, ⊎_elim}
use Prim.Native.Nat.{ℕ, ◌+◌, ◌-◌, ◌≤◌, ◌<◌, min}
use mir.Syntax.{w64}
use mir.Val.{Fits}
use native.Mathlib.Omega.{arith}
use lib.ListN.{length, drop}
use lib.Dec.{eqb}
use borrow.Author.Tests.{eq-eqb, ne_eqb, eqb-true, eqb-false, le-leb, leb-true, lt-ltb, ltb-true}
use Rattle.base.specs.Bytes.{is_letter}
use Rattle.base.specs.Runs.{run}
use Rattle.base.proofs.IfLaws.{if_true, if_false, by_cases, by_test, both_true, both_rest, both_not_left, both_first, both_second}
use Rattle.lex_number.specs.declared.Digits.{Digits}
use Rattle.lex_number.specs.declared.Exponent.{Exponent}
use Rattle.lex_number.specs.declared.Scale.{Scale}
use Rattle.lex_number.specs.Number.{Number, raised, lowered, in_range, value_as, well_formed}
use Rattle.std.proofs.Common.{Ok, Err}
use Rattle.lex_number.specs.declared.NumberError.TheVariants.{Range}
use Rattle.lex_number.specs.ValueWord.{zero_word, value_word}
use Rattle.lex_number.specs.Way.Capped.{size_cap, exponent_cap, raising, lowering, BoundedNumber}
use Rattle.lex_number.proofs.AllLaws.{all_from}

module _ (s : List ℕ) (d : Digits) (x : Exponent) where
  pub formed_none : d.some ≡ false → d.some ≡ well_formed s d x
  unfolding well_formed
  formed_none e = e ∙ sym (both_not_left _ _ e)

  pub formed_letters : (end : ℕ) → x.end ≤ length s → d.some ≡ true → end ≡ x.end + run is_letter (drop x.end s) → eqb end (length s) ≡ well_formed s d x
  unfolding well_formed
  formed_letters end h e f = all_from is_letter s x.end end h f ∙ sym (both_rest _ _ e)

-- a number within its bounds: at most 15 digits, k from -60 to 60
pub record Stands (m up down : ℕ) : Type 0 where
  pub small : m < size_cap
  pub low : down ≤ up + 60
  pub high : up ≤ down + 60

pub stands_told : (m up down : ℕ) → in_range m up down ≡ true → Stands m up down
unfolding in_range
stands_told m up down e = record { small = ltb-true m size_cap (both_first _ _ e); low = leb-true down (up + 60) (both_first _ _ (both_second _ _ e)); high = leb-true up (down + 60) (both_second _ _ (both_second _ _ e)) }

stands_range : (m up down : ℕ) → Stands m up down → in_range m up down ≡ true
unfolding in_range
stands_range m up down k = both_true _ _ (lt-ltb m size_cap k.small) (both_true _ _ (le-leb down (up + 60) k.low) (le-leb up (down + 60) k.high))

pub value_zero : (negative : Bool) (m up down : ℕ) → m ≡ 0 → value_as negative m up down ≡ Ok zero_word
unfolding value_as
value_zero negative m up down e = if_true _ _ (eq-eqb m 0 e)

pub value_inside : (negative : Bool) (m up down : ℕ) → (m ≡ 0 → ⊥) → in_range m up down ≡ true → value_as negative m up down ≡ Ok (value_word negative m (up + 64 - down))
unfolding value_as
value_inside negative m up down n e = if_false _ _ (ne_eqb m 0 n) ∙ if_true _ _ e

pub value_outside : (negative : Bool) (m up down : ℕ) → (m ≡ 0 → ⊥) → in_range m up down ≡ false → value_as negative m up down ≡ Err Range
unfolding value_as
value_outside negative m up down n e = if_false _ _ (ne_eqb m 0 n) ∙ if_false _ _ e

pub value_stands : (negative : Bool) (m up down w : ℕ) → (m ≡ 0 → ⊥) → m < size_cap → down ≤ up + 60 → up ≤ down + 60 → w ≡ value_word negative m (up + 64 - down) → Ok w ≡ value_as negative m up down
value_stands negative m up down w n a b c e = rw e (sym (value_inside negative m up down n (stands_range m up down (record { small = a; low = b; high = c }))))

-- two descriptions of a number agree: they are zero together, and if either is within its bounds they are equal
pub record Agree (m up down k raise lower : ℕ) : Type 0 where
  pub zero_to : m ≡ 0 → k ≡ 0
  pub zero_from_lem : k ≡ 0 → m ≡ 0
  pub stands_to : Stands m up down → (m ≡ k) × (up ≡ raise) × (down ≡ lower)
  pub stands_from : Stands k raise lower → (m ≡ k) × (up ≡ raise) × (down ≡ lower)

pub value_agree : (negative : Bool) (m up down k raise lower : ℕ) → Agree m up down k raise lower → value_as negative m up down ≡ value_as negative k raise lower
value_agree negative m up down k raise lower a =
    by_cases _ (eqb m 0)
    (λ (e : eqb m 0 ≡ true). value_zero negative m up down (eqb-true m 0 e) ∙ sym (value_zero negative k raise lower (a.zero_to (eqb-true m 0 e))))
    (λ (e : eqb m 0 ≡ false). other (eqb-false m 0 e))
  where
    same : ((m ≡ k) × (up ≡ raise) × (down ≡ lower)) → value_as negative m up down ≡ value_as negative k raise lower
    same h = rw (h.0, h.1, h.2)

    other : (m ≡ 0 → ⊥) → value_as negative m up down ≡ value_as negative k raise lower
    other n =
        by_cases _ (in_range m up down)
        (λ (e : in_range m up down ≡ true). same (a.stands_to (stands_told m up down e)))
        (λ (e : in_range m up down ≡ false).
        by_cases _ (in_range k raise lower)
        (λ (f : in_range k raise lower ≡ true). same (a.stands_from (stands_told k raise lower f)))
        (λ (f : in_range k raise lower ≡ false). value_outside negative m up down n e ∙ sym (value_outside negative k raise lower (λ (z : k ≡ 0). n (a.zero_from_lem z)) f)))

-- the power of ten as the code computes it, with capped sums, is within its bounds exactly when the exact one is
module _ (negative : Bool) (d : Digits) (x : Exponent) (c : Scale) (bound : BoundedNumber d x c) (p q up down : ℕ) (add : p ≡ raising x) (take : q ≡ lowering x) (raise : up ≡ min (d.zeros + p) exponent_cap + c.up) (lower : down ≡ min (d.fraction + q) exponent_cap + c.down) where
  one_way : ((p ≡ 0) × (q ≡ x.size)) ⊎ ((p ≡ x.size) × (q ≡ 0))
  unfolding raising lowering
  one_way = by_cases _ x.negative (λ e. inl (add ∙ if_true _ _ e, take ∙ if_true _ _ e)) (λ e. inr (add ∙ if_false _ _ e, take ∙ if_false _ _ e))

  raised_is : raised d x c ≡ d.zeros + p + c.up
  unfolding raised raising
  raised_is = rw add

  lowered_is : lowered d x c ≡ d.fraction + q + c.down
  unfolding lowered lowering
  lowered_is = rw take

  power_agree : Agree d.size up down d.size (d.zeros + p + c.up) (d.fraction + q + c.down)
  power_agree =
      ⊎_elim
      (λ (w : (p ≡ 0) × (q ≡ x.size)). record { zero_to = λ e. e; zero_from_lem = λ e. e; stands_to = λ k. (refl, omega arith, omega arith); stands_from = λ k. (refl, omega arith, omega arith) })
      (λ (w : (p ≡ x.size) × (q ≡ 0)). record { zero_to = λ e. e; zero_from_lem = λ e. e; stands_to = λ k. (refl, omega arith, omega arith); stands_from = λ k. (refl, omega arith, omega arith) })
      one_way

  pub value_formed : (r : Number) → r ≡ value_as negative d.size up down → r ≡ value_as negative d.size (raised d x c) (lowered d x c)
  value_formed r e = rw (raised_is, lowered_is) (e ∙ value_agree negative d.size up down d.size (d.zeros + p + c.up) (d.fraction + q + c.down) power_agree)

pub raising_cut : (x : Exponent) (p : ℕ) → x.size ≤ exponent_cap → p ≡ raising x → p ≤ exponent_cap
unfolding raising
raising_cut x p h e = rw e (by_test (λ (n : ℕ). n ≤ exponent_cap) x.negative _ _ (λ t. omega arith) (λ t. h))

pub lowering_cut : (x : Exponent) (q : ℕ) → x.size ≤ exponent_cap → q ≡ lowering x → q ≤ exponent_cap
unfolding lowering
lowering_cut x q h e = rw e (by_test (λ (n : ℕ). n ≤ exponent_cap) x.negative _ _ (λ t. h) (λ t. omega arith))

-- a number out of its bounds, for whatever reason
pub value_fails : (negative : Bool) (m up down : ℕ) → (m ≡ 0 → ⊥) → (m < size_cap → down ≤ up + 60 → up ≤ down + 60 → ⊥) → Err Range ≡ value_as negative m up down
value_fails negative m up down n f =
    by_cases _ (in_range m up down)
    (λ (e : in_range m up down ≡ true).
    let k : Stands m up down = stands_told m up down e in
    absurd (f k.small k.low k.high))
    (λ (e : in_range m up down ≡ false). sym (value_outside negative m up down n e))

-- if the exponent and the counts are small, no sum is capped
module _ (x : Exponent) (p : ℕ) (small : x.size < 1_000_000_000) (add : p ≡ raising x) where
  raising_small : p < 1_000_000_000
  unfolding raising
  raising_small = rw add (by_test (λ (n : ℕ). n < 1_000_000_000) x.negative _ _ (λ t. omega arith) (λ t. small))

  pub up_fits : (zeros : ℕ) → zeros < 20 → Fits w64 (zeros + p)
  up_fits zeros h =
      let k : p < 1_000_000_000 = raising_small in
      omega arith

  pub up_fits_whole : (zeros up : ℕ) → zeros < 20 → up ≤ 15 → Fits w64 (zeros + p + up)
  up_fits_whole zeros up h g =
      let k : p < 1_000_000_000 = raising_small in
      omega arith

  pub up_capped : (zeros up : ℕ) → zeros < 20 → up ≤ 15 → zeros + p + up ≤ exponent_cap + 15
  up_capped zeros up h g =
      let k : p < 1_000_000_000 = raising_small in
      omega arith

module _ (x : Exponent) (q : ℕ) (small : x.size < 1_000_000_000) (take : q ≡ lowering x) where
  lowering_small : q < 1_000_000_000
  unfolding lowering
  lowering_small = rw take (by_test (λ (n : ℕ). n < 1_000_000_000) x.negative _ _ (λ t. small) (λ t. omega arith))

  pub down_fits : (fraction : ℕ) → fraction ≤ 19 → Fits w64 (fraction + q)
  down_fits fraction h =
      let k : q < 1_000_000_000 = lowering_small in
      omega arith

  pub down_fits_whole : (fraction down : ℕ) → fraction ≤ 19 → down ≤ 15 → Fits w64 (fraction + q + down)
  down_fits_whole fraction down h g =
      let k : q < 1_000_000_000 = lowering_small in
      omega arith

  pub down_capped : (fraction down : ℕ) → fraction ≤ 19 → down ≤ 15 → fraction + q + down ≤ exponent_cap + 15
  down_capped fraction down h g =
      let k : q < 1_000_000_000 = lowering_small in
      omega arith
