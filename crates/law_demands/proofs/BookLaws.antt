-- Laws of looks (lines with their rules) in order: no rule is broken exactly if no look gives one. Otherwise the first
-- look that gives one is on the earliest line, line 0 last, and its rule is the lowest that is broken there.
-- Assumes nothing.
use mathlib.Core.Path.{◌≡◌, refl, sym, ◌∙◌, ap, subst}
use mathlib.Core.Bool.{true, false}
use mathlib.Core.List.{List, [], ◌∷◌}
use Prim.Native.Nat.{ℕ, ◌≤◌, ◌<◌}
use native.Mathlib.Omega.{arith}
use lib.Dec.{eqb}
use borrow.Author.Tests.{eq-eqb, ne_eqb, eqb-true, eqb-false}
use Rattle.base.specs.If.{provided◌then◌else◌}
use Rattle.base.specs.Broken.{Rule, ◌when◌, first_broken}
use Rattle.base.proofs.IfLaws.{if_true, if_false, by_cases}
use Rattle.base.proofs.BrokenLaws.{Numbered}
use Rattle.doc.specs.Holds.{Each}
use Rattle.doc.specs.Holds.Each.{none, more}
use Rattle.cross_rules.specs.Listed.{RulesAtLine, Among, BrokenIn}
use Rattle.cross_rules.specs.Listed.Among.{front, further}
use Rattle.cross_rules.proofs.AmongLaws.{broken_kept, broken_found, broken_least, Ascends}
use Rattle.cross_rules.proofs.RisingLaws.{each_one}
use Rattle.law_demands.specs.RuleBook.{rank}

-- ---- the rules of one line

pub record Ranked (g : ℕ) (rules : List Rule) : Type 0 where
  pub numbered : Numbered rules
  pub ascends : Ascends (rank g) 0 rules

-- ---- the first look with a broken rule

pub record Given : Type 0 where
  pub rule : ℕ
  pub line : ℕ

unfoldable pub given_by : List RulesAtLine → Given
given_by [] = record { rule = 0; line = 0 }
given_by (x ∷ xs) = provided eqb (first_broken x.rules) 0 then given_by xs else record { rule = first_broken x.rules; line = x.line }

module _ (x : RulesAtLine) (xs : List RulesAtLine) where
  pub given_later : first_broken x.rules ≡ 0 → given_by (x ∷ xs) ≡ given_by xs
  unfolding given_by
  given_later e = if_true _ _ (eq-eqb _ _ e)

  pub given_here : (first_broken x.rules ≡ 0 → ⊥) → given_by (x ∷ xs) ≡ record { rule = first_broken x.rules; line = x.line }
  unfolding given_by
  given_here n = if_false _ _ (ne_eqb _ _ n)

pub empty_gives : (given_by []).rule ≡ 0
unfolding given_by
empty_gives = refl

-- a look with a broken rule, or without one
by_look : (P : Type 0) (x : RulesAtLine) → (first_broken x.rules ≡ 0 → P) → ((first_broken x.rules ≡ 0 → ⊥) → P) → P
by_look P x h k = by_cases P (eqb (first_broken x.rules) 0) (λ (e : eqb (first_broken x.rules) 0 ≡ true). h (eqb-true _ _ e)) (λ (e : eqb (first_broken x.rules) 0 ≡ false). k (eqb-false _ _ e))

-- ---- looks whose rules are ranked and whose lines are in order

-- one look comes before another: on an earlier line, line 0 last
pub record Before (x y : RulesAtLine) : Type 0 where
  pub above : 0 < y.line → (0 < x.line) × (x.line < y.line)
  pub apart : x.line ≡ y.line → ⊥

pub data InOrder : List RulesAtLine → Type 0 where
  last : InOrder []
  followed : {x : RulesAtLine} {xs : List RulesAtLine} → Each (Before x) xs → InOrder xs → InOrder (x ∷ xs)

abbrev pub AllRanked : ℕ → List RulesAtLine → Type 0
AllRanked g looks = Each (λ (x : RulesAtLine). Ranked g x.rules) looks

broken_further : (x : RulesAtLine) {xs : List RulesAtLine} {number line : ℕ} → BrokenIn xs number line → BrokenIn (x ∷ xs) number line
broken_further x b = record { rules = b.rules; listed = further b.listed; broken = b.broken }

abbrev pub NotEmpty : List RulesAtLine → Type 0
NotEmpty [] = ⊥
NotEmpty (x ∷ xs) = Unit {0}

pub among_some : {x : RulesAtLine} {xs : List RulesAtLine} → Among x xs → NotEmpty xs
among_some front = tt
among_some (further m) = tt

-- an element of a list is its first element or one of the rest
pub data Where (x : RulesAtLine) (xs : List RulesAtLine) (y : RulesAtLine) : Type 0 where
  at_front : y ≡ x → Where x xs y
  behind : Among y xs → Where x xs y

pub where_is : {x y : RulesAtLine} {xs : List RulesAtLine} → Among y (x ∷ xs) → Where x xs y
where_is front = at_front refl
where_is (further m) = behind m

module _ (g : ℕ) where
  -- rule 0 is given exactly if no rule is broken
  kept_look : (x : RulesAtLine) → Ranked g x.rules → first_broken x.rules ≡ 0 → {number : ℕ} → Among (number when true) x.rules → ⊥
  kept_look x r e b = broken_kept b r.numbered e

  -- if the first look has no broken rule, what is broken is in the rest
  broken_behind : (x : RulesAtLine) (xs : List RulesAtLine) → Ranked g x.rules → first_broken x.rules ≡ 0 → (number line : ℕ) →
      BrokenIn (x ∷ xs) number line → BrokenIn xs number line
  broken_behind x xs r z number line b = there (where_is b.listed)
    where
      there : Where x xs (record { line = line; rules = b.rules }) → BrokenIn xs number line
      there (at_front q) = absurd (kept_look x r z (subst (λ (y : RulesAtLine). Among (number when true) y.rules) q b.broken))
      there (behind m) = record { rules = b.rules; listed = m; broken = b.broken }

  pub given_none : (xs : List RulesAtLine) → AllRanked g xs → (given_by xs).rule ≡ 0 → (number line : ℕ) → BrokenIn xs number line → ⊥
  given_none [] none e number line b = among_some b.listed
  given_none (x ∷ xs) (more r rs) e number line b =
      by_look ⊥ x
      (λ (z : first_broken x.rules ≡ 0).
      given_none xs rs (ap (λ (h : Given). h.rule) (sym (given_later x xs z)) ∙ e) number line (broken_behind x xs r z number line b))
      (λ n. n (ap (λ (h : Given). h.rule) (sym (given_here x xs n)) ∙ e))

  -- the rule is broken on the line, which is the earliest, and it is the lowest there
  pub record Found (xs : List RulesAtLine) (number line : ℕ) : Type 0 where
    pub found : BrokenIn xs number line
    pub earliest : (other_number other_line : ℕ) → BrokenIn xs other_number other_line → 0 < other_line → (0 < line) × (line ≤ other_line)
    pub lowest : (other_number : ℕ) → BrokenIn xs other_number line → rank g number ≤ rank g other_number

  found_front : (x : RulesAtLine) (xs : List RulesAtLine) → (first_broken x.rules ≡ 0 → ⊥) → BrokenIn (x ∷ xs) (first_broken x.rules) x.line
  found_front x xs n = record { rules = x.rules; listed = front; broken = broken_found x.rules n }

  earliest_front : (x : RulesAtLine) (xs : List RulesAtLine) → Each (Before x) xs → (number line : ℕ) → BrokenIn (x ∷ xs) number line → 0 < line → (0 < x.line) × (x.line ≤ line)
  earliest_front x xs h number line b p = there (where_is b.listed)
    where
      there : Where x xs (record { line = line; rules = b.rules }) → (0 < x.line) × (x.line ≤ line)
      there (at_front q) =
          let e : line ≡ x.line = ap (λ (w : RulesAtLine). w.line) q in
          (omega arith, omega arith)
      there (behind m) =
          let k : (0 < x.line) × (x.line < line) = (each_one h m).above p in
          let a : x.line < line = k.1 in
          (k.0, omega arith)

  lowest_front : (x : RulesAtLine) (xs : List RulesAtLine) → Ranked g x.rules → Each (Before x) xs → (number : ℕ) → BrokenIn (x ∷ xs) number x.line → rank g (first_broken x.rules) ≤ rank g number
  lowest_front x xs r h number b = there (where_is b.listed)
    where
      there : Where x xs (record { line = x.line; rules = b.rules }) → rank g (first_broken x.rules) ≤ rank g number
      there (at_front q) = broken_least (rank g) (subst (λ (y : RulesAtLine). Among (number when true) y.rules) q b.broken) 0 r.ascends
      there (behind m) = absurd ((each_one h m).apart refl)

  -- if the first look has no broken rule, the rest gives the result
  found_behind : (x : RulesAtLine) (xs : List RulesAtLine) (number line : ℕ) → Ranked g x.rules → first_broken x.rules ≡ 0 → Found xs number line → Found (x ∷ xs) number line
  found_behind x xs number line r z f =
      record {
        found = broken_further x f.found;
        earliest = λ other_number other_line b. f.earliest other_number other_line (broken_behind x xs r z other_number other_line b);
        lowest = λ other_number b. f.lowest other_number (broken_behind x xs r z other_number line b);
      }

  pub given_first : (xs : List RulesAtLine) → AllRanked g xs → InOrder xs → ((given_by xs).rule ≡ 0 → ⊥) → Found xs (given_by xs).rule (given_by xs).line
  given_first [] none last n = absurd (n empty_gives)
  given_first (x ∷ xs) (more r rs) (followed h o) n =
      by_look _ x
      (λ (z : first_broken x.rules ≡ 0).
      let e : given_by (x ∷ xs) ≡ given_by xs = given_later x xs z in
      rw e (found_behind x xs (given_by xs).rule (given_by xs).line r z (given_first xs rs o (rw e at n))))
      (λ m. rw (given_here x xs m) record { found = found_front x xs m; earliest = earliest_front x xs h; lowest = lowest_front x xs r h })

  pub given_some : (xs : List RulesAtLine) → AllRanked g xs → ((number line : ℕ) → BrokenIn xs number line → ⊥) → (given_by xs).rule ≡ 0
  given_some [] none h = empty_gives
  given_some (x ∷ xs) (more r rs) h =
      by_look _ x
      (λ (z : first_broken x.rules ≡ 0). ap (λ (k : Given). k.rule) (given_later x xs z) ∙ given_some xs rs (λ number line b. h number line (broken_further x b)))
      (λ n. absurd (h _ _ (found_front x xs n)))
