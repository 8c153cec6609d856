-- Laws of rules as data. `first_broken` is 0 exactly when every test is false. In a list whose numbers rise it is the
-- least number of a broken rule. The rule set `firsts` proves code that makes the tests of a list in the same order.
-- Assumes nothing.
use mathlib.Core.Path.{◌≡◌, refl, sym, ◌∙◌, ap}
use mathlib.Core.Bool.{Bool, true, false}
use mathlib.Core.List.{List, [], ◌∷◌}
use Prim.Native.Nat.{ℕ, zero, suc, ◌<◌}
use native.Mathlib.Omega.{arith}
use lib.ListN.{get_or}
use borrow.Author.Tests.{le-leb, lt-leb, eq-eqb, ne_eqb, lt-ltb, le-ltb}
use Rattle.base.specs.If.{provided◌then◌else◌}
use Rattle.base.specs.Broken.{Rule, ◌when◌, first, first_broken}
use Rattle.base.proofs.IfLaws.{if_true, if_false, by_cases, not_via, not_not_via, both_true, both_not_left, both_not_right, either_left, either_right, either_false, Yes, No, tests}

pub first_broken_lem : (b : Bool) (n later : ℕ) → b ≡ true → first b n later ≡ n
unfolding first
first_broken_lem b n later e = rw e

pub first_kept : (b : Bool) (n later found : ℕ) → b ≡ false → later ≡ found → first b n later ≡ found
unfolding first
first_kept b n later found e h = rw e h

pub ruleset firsts = (refl, first_broken_lem, first_kept, both_true, both_not_left, both_not_right, either_left, either_right, either_false, not_via, not_not_via, le-leb, lt-leb, eq-eqb, ne_eqb, lt-ltb, le-ltb)

-- what is read past the end of a list: a rule that is not broken
abbrev pub sound : Rule
sound = 0 when false

-- no rule of the list has the number 0, because 0 means that no rule is broken
abbrev pub Numbered : List Rule → Type 0
Numbered [] = Unit {0}
Numbered (r ∷ rs) = (0 < r.number) × Numbered rs

-- if every test is false, the answer is 0
pub none_broken : (rs : List Rule) → ((i : ℕ) → (get_or rs i sound).broken ≡ false) → first_broken rs ≡ 0
none_broken [] h = refl
none_broken (r ∷ rs) h = first_kept _ _ _ _ (h zero) (none_broken rs (λ (i : ℕ). h (suc i)))

-- if the answer is 0, every test is false
pub all_kept : (rs : List Rule) → Numbered rs → first_broken rs ≡ 0 → (i : ℕ) → (get_or rs i sound).broken ≡ false
all_kept [] n e i = refl
all_kept (r ∷ rs) n e i = by_cases _ r.broken (λ (b : r.broken ≡ true). never b) (λ (b : r.broken ≡ false). kept (all_kept rs n.1) b i)
  where
    never : r.broken ≡ true → (get_or (r ∷ rs) i sound).broken ≡ false
    never b =
        let z : r.number ≡ 0 = sym (first_broken_lem _ _ _ b) ∙ e in
        let p : 0 < r.number = n.0 in
        absurd (omega arith)

    kept : (first_broken rs ≡ 0 → (j : ℕ) → (get_or rs j sound).broken ≡ false) → r.broken ≡ false → (j : ℕ) → (get_or (r ∷ rs) j sound).broken ≡ false
    kept later b zero = b
    kept later b (suc j) = later (sym (first_kept _ _ _ _ b refl) ∙ e) j

-- ---- code that makes one test after another: premises are what it knows at a `return`, the conclusion its contract

module _ (b : Bool) (n later : ℕ) where
  pub gives_first : b ≡ true → n ≡ first b n later
  gives_first e = sym (first_broken_lem b n later e)

  pub gives_later : (found : ℕ) → b ≡ false → found ≡ later → found ≡ first b n later
  gives_later found e h = sym (first_kept b n later found e (sym h))

  pub is_broken : Yes b → n ≡ first b n later
  is_broken h = gives_first h.holds

  pub is_kept : (found : ℕ) → No b → found ≡ later → found ≡ first b n later
  is_kept found h k = gives_later found h.fails k

-- a choice between two lists
module _ (b : Bool) (x y : List Rule) where
  pub lists_yes : b ≡ true → first_broken (provided b then x else y) ≡ first_broken x
  lists_yes e = ap first_broken (if_true x y e)

  pub lists_no : b ≡ false → first_broken (provided b then x else y) ≡ first_broken y
  lists_no e = ap first_broken (if_false x y e)

  pub list_chosen : (found : ℕ) → Yes b → found ≡ first_broken x → found ≡ first_broken (provided b then x else y)
  list_chosen found h k = k ∙ sym (lists_yes h.holds)

  pub list_passed : (found : ℕ) → No b → found ≡ first_broken y → found ≡ first_broken (provided b then x else y)
  list_passed found h k = k ∙ sym (lists_no h.fails)

-- `search rule_list` proves every `return` of a function that makes the tests of a list in the list's order
pub ruleset rule_list = (refl, is_broken, is_kept, list_chosen, list_passed, tests)
