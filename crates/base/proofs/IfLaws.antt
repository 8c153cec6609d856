-- Laws of the conditional, of `both` and of `either`. The rule set `ifs` proves most small predicates.
-- Assumes nothing.
use mathlib.Core.Path.{◌≡◌, refl, sym, ◌∙◌, ap}
use mathlib.Core.Bool.{Bool, true, false, not, true≢false, ◌&&◌, ◌||◌}
use Prim.Native.Nat.{ℕ, ◌≤◌, ◌<◌}
use lib.Dec.{leb, ltb, eqb}
use borrow.Author.Tests.{le-leb, lt-leb, eq-eqb, ne_eqb, lt-ltb, le-ltb, not-true, not-false}
use Rattle.base.specs.If.{provided◌then◌else◌, both, either}

pub if_true : {A : Type 0} {b : Bool} (x y : A) → b ≡ true → (provided b then x else y) ≡ x
unfolding provided◌then◌else◌
if_true x y e = rw e

pub if_false : {A : Type 0} {b : Bool} (x y : A) → b ≡ false → (provided b then x else y) ≡ y
unfolding provided◌then◌else◌
if_false x y e = rw e

-- a case split on the test of a conditional
pub by_test : {A : Type 0} (P : A → Type 0) (b : Bool) (x y : A) → (b ≡ true → P x) → (b ≡ false → P y) → P (provided b then x else y)
unfolding provided◌then◌else◌
by_test P true x y h k = h refl
by_test P false x y h k = k refl

-- a case split on a test, for any fact that follows in both cases
pub by_cases : (P : Type 0) (b : Bool) → (b ≡ true → P) → (b ≡ false → P) → P
by_cases P true h k = h refl
by_cases P false h k = k refl

pub both_assoc : (a b c : Bool) → both (both a b) c ≡ both a (both b c)
unfolding both
both_assoc true b c = refl
both_assoc false b c = refl

-- the same as the operators of the library
pub both_and : (a b : Bool) → both a b ≡ (a && b)
unfolding both
both_and true b = refl
both_and false b = refl

pub either_or : (a b : Bool) → either a b ≡ (a || b)
unfolding either
either_or true b = refl
either_or false b = refl

pub both_true : (a b : Bool) → a ≡ true → b ≡ true → both a b ≡ true
unfolding both
both_true a b e f = rw (e, f)

pub both_not_left : (a b : Bool) → a ≡ false → both a b ≡ false
unfolding both
both_not_left a b e = rw e

pub both_not_right : (a b : Bool) → b ≡ false → both a b ≡ false
unfolding both
both_not_right true b f = f
both_not_right false b f = refl

pub either_left : (a b : Bool) → a ≡ true → either a b ≡ true
unfolding either
either_left a b e = rw e

pub either_right : (a b : Bool) → b ≡ true → either a b ≡ true
unfolding either
either_right true b f = refl
either_right false b f = f

pub either_false : (a b : Bool) → a ≡ false → b ≡ false → either a b ≡ false
unfolding either
either_false a b e f = rw (e, f)

pub both_rest : (a b : Bool) → a ≡ true → both a b ≡ b
unfolding both
both_rest a b e = rw e

pub either_rest : (a b : Bool) → a ≡ false → either a b ≡ b
unfolding either
either_rest a b e = rw e

pub either_comes : (a b : Bool) → b ≡ false → either a b ≡ a
unfolding either
either_comes true b e = refl
either_comes false b e = e

pub both_first : (a b : Bool) → both a b ≡ true → a ≡ true
unfolding both
both_first true b e = refl
both_first false b e = e

pub both_second : (a b : Bool) → both a b ≡ true → b ≡ true
unfolding both
both_second true b e = e
both_second false b e = absurd (true≢false (sym e))

pub either_none_first : (a b : Bool) → either a b ≡ false → a ≡ false
unfolding either
either_none_first true b e = e
either_none_first false b e = refl

pub either_none_second : (a b : Bool) → either a b ≡ false → b ≡ false
unfolding either
either_none_second true b e = absurd (true≢false e)
either_none_second false b e = e

pub not_via : {b : Bool} → b ≡ false → not b ≡ true
not_via e = rw e

pub not_not_via : {b : Bool} → b ≡ true → not b ≡ false
not_not_via e = rw e

pub ruleset ifs = (refl, if_true, if_false, both_true, both_not_left, both_not_right, either_left, either_right, either_false, not_via, not_not_via, le-leb, lt-leb, eq-eqb, ne_eqb, lt-ltb, le-ltb)

-- ---- code that makes one test after another

-- `Yes` says that a test of a definition holds, `No` that it does not. They are records so that a search tries the
-- laws of tests only where a test has to be decided.
pub record Yes (a : Bool) : Type 0 where
  pub holds : a ≡ true

pub record No (a : Bool) : Type 0 where
  pub fails : a ≡ false

-- decided by a comparison of numbers in the code
module _ (m n : ℕ) where
  pub yes_eq : m ≡ n → Yes (eqb m n)
  yes_eq h = record { holds = eq-eqb m n h }

  pub no_ne : (m ≡ n → ⊥) → No (eqb m n)
  no_ne h = record { fails = ne_eqb m n h }

  pub yes_le : m ≤ n → Yes (leb m n)
  yes_le h = record { holds = le-leb m n h }

  pub no_gt : n < m → No (leb m n)
  no_gt h = record { fails = lt-leb m n h }

  pub yes_lt : m < n → Yes (ltb m n)
  yes_lt h = record { holds = lt-ltb m n h }

  pub no_ge : n ≤ m → No (ltb m n)
  no_ge h = record { fails = le-ltb m n h }

-- decided by a bool of the code, or by its negation
module _ (a : Bool) where
  pub yes_is : a ≡ true → Yes a
  yes_is h = record { holds = h }

  pub no_is : a ≡ false → No a
  no_is h = record { fails = h }

  pub yes_turned : not a ≡ false → Yes a
  yes_turned h = record { holds = not-false a h }

  pub no_turned : not a ≡ true → No a
  no_turned h = record { fails = not-true a h }

  pub yes_not : No a → Yes (not a)
  yes_not h = record { holds = not_via h.fails }

  pub no_not : Yes a → No (not a)
  no_not h = record { fails = not_not_via h.holds }

  pub yes_both : (b : Bool) → Yes a → Yes b → Yes (both a b)
  yes_both b h k = record { holds = both_true a b h.holds k.holds }

  pub no_either : (b : Bool) → No a → No b → No (either a b)
  no_either b h k = record { fails = either_false a b h.fails k.fails }

-- decided by the result r of a call whose contract says that r equals the test
module _ (a r : Bool) (told : r ≡ a) where
  pub yes_told : r ≡ true → Yes a
  yes_told h = record { holds = sym told ∙ h }

  pub no_told : r ≡ false → No a
  no_told h = record { fails = sym told ∙ h }

  pub yes_told_turned : not r ≡ false → Yes a
  yes_told_turned h = record { holds = sym told ∙ not-false r h }

  pub no_told_turned : not r ≡ true → No a
  no_told_turned h = record { fails = sym told ∙ not-true r h }

-- decided by the number n of a call whose contract says that n equals the compared number
module _ (number n m : ℕ) (told : n ≡ number) where
  pub yes_eq_told : n ≡ m → Yes (eqb number m)
  yes_eq_told h = record { holds = eq-eqb number m (sym told ∙ h) }

  pub no_ne_told : (n ≡ m → ⊥) → No (eqb number m)
  no_ne_told h = record { fails = ne_eqb number m (λ (k : number ≡ m). h (told ∙ k)) }

pub ruleset tests = (yes_eq_told, no_ne_told, yes_eq, no_ne, yes_le, no_gt, yes_lt, no_ge, yes_is, no_is, yes_turned, no_turned, yes_told, no_told, yes_told_turned, no_told_turned, yes_not, no_not, yes_both, no_either)

-- `search chain` proves every `return` of an if-chain that makes the tests of its definition in the same order
module _ (a b : Bool) where
  pub found_yes : Yes a → true ≡ either a b
  found_yes h = sym (either_left a b h.holds)

  pub found_no : (answer : Bool) → No a → answer ≡ b → answer ≡ either a b
  found_no answer h k = k ∙ sym (either_rest a b h.fails)

  pub refused_no : No a → false ≡ both a b
  refused_no h = sym (both_not_left a b h.fails)

  pub refused_yes : (answer : Bool) → Yes a → answer ≡ b → answer ≡ both a b
  refused_yes answer h k = k ∙ sym (both_rest a b h.holds)

module _ {A : Type 0} (b : Bool) (x y answer : A) where
  pub chosen_yes : Yes b → answer ≡ x → answer ≡ (provided b then x else y)
  chosen_yes h k = k ∙ sym (if_true x y h.holds)

  pub chosen_no : No b → answer ≡ y → answer ≡ (provided b then x else y)
  chosen_no h k = k ∙ sym (if_false x y h.fails)

-- for a last test that is itself the answer
pub answer_yes : (a : Bool) → Yes a → true ≡ a
answer_yes a h = sym h.holds

pub answer_no : (a : Bool) → No a → false ≡ a
answer_no a h = sym h.fails

-- for a last test that is the negated result of a call, or a result compared with a number
pub turned : (a r : Bool) → r ≡ a → not r ≡ not a
turned a r e = ap not e

pub compared : (number n m : ℕ) → n ≡ number → eqb n m ≡ eqb number m
compared number n m e = ap (λ (k : ℕ). eqb k m) e

pub ruleset chain = (refl, turned, compared, found_yes, found_no, refused_no, refused_yes, chosen_yes, chosen_no, answer_yes, answer_no, tests)
