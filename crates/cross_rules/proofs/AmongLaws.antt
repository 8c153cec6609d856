-- Laws of a list of rules, by what is among it: what its first broken rule is.
-- Assumes nothing.
use mathlib.Core.Path.{◌≡◌, refl, sym, ◌∙◌, subst}
use mathlib.Core.Bool.{true, false}
use mathlib.Core.List.{List, [], ◌∷◌, map}
use Prim.Native.Nat.{ℕ, ◌≤◌, ◌<◌}
use native.Mathlib.Nat.{le_refl, le_trans}
use native.Mathlib.Omega.{arith}
use Rattle.base.specs.Broken.{Rule, ◌when◌, first_broken}
use Rattle.base.proofs.IfLaws.{by_cases}
use Rattle.base.proofs.BrokenLaws.{Numbered, first_broken_lem, first_kept}
use Rattle.cross_rules.specs.Listed.{Among}
use Rattle.cross_rules.specs.Listed.Among.{front, further}

-- if the answer is 0, no broken rule is in the list
pub broken_kept : {n : ℕ} {rules : List Rule} → Among (n when true) rules → Numbered rules → first_broken rules ≡ 0 → ⊥
broken_kept {n} (front {xs = rs}) h e =
    let z : n ≡ 0 = sym (first_broken_lem true n (first_broken rs) refl) ∙ e in
    let p : 0 < n = h.0 in
    omega arith
broken_kept (further {y = r} {xs = rs} m) h e =
    by_cases ⊥ r.broken
    (λ (t : r.broken ≡ true).
    let z : r.number ≡ 0 = sym (first_broken_lem r.broken r.number (first_broken rs) t) ∙ e in
    let p : 0 < r.number = h.0 in
    omega arith)
    (λ (t : r.broken ≡ false).
    broken_kept m h.1 (sym (first_kept r.broken r.number (first_broken rs) (first_broken rs) t refl) ∙ e))

-- an answer other than 0 is the number of a broken rule of the list
pub broken_found : (rules : List Rule) → (first_broken rules ≡ 0 → ⊥) → Among (first_broken rules when true) rules
broken_found [] n = absurd (n refl)
broken_found (r ∷ rs) n =
    by_cases _ r.broken
    (λ (t : r.broken ≡ true).
    let e : first_broken (r ∷ rs) ≡ r.number = first_broken_lem r.broken r.number (first_broken rs) t in
    let same : (r.number when true) ≡ r = λ i. record { number = r.number; broken = sym t i } in
    rw e (subst (λ (q : Rule). Among q (r ∷ rs)) (sym same) front))
    (λ (t : r.broken ≡ false).
    let e : first_broken (r ∷ rs) ≡ first_broken rs = first_kept r.broken r.number (first_broken rs) (first_broken rs) t refl in
    rw e (further (broken_found rs (λ (z : first_broken rs ≡ 0). n (e ∙ z)))))

module _ (rank : ℕ → ℕ) where
  -- the ranks of the rules never fall from front to back, and none is below `least`
  abbrev pub Ascends : ℕ → List Rule → Type 0
  Ascends least [] = Unit {0}
  Ascends least (r ∷ rs) = (least ≤ rank r.number) × Ascends (rank r.number) rs

  ascends_least : {r : Rule} {rules : List Rule} → Among r rules → (least : ℕ) → Ascends least rules → least ≤ rank r.number
  ascends_least front least h = h.0
  ascends_least (further {y = q} m) least h = le_trans h.0 (ascends_least m (rank q.number) h.1)

  -- in such a list the answer ranks at most as high as any broken rule
  pub broken_least : {n : ℕ} {rules : List Rule} → Among (n when true) rules → (least : ℕ) → Ascends least rules → rank (first_broken rules) ≤ rank n
  broken_least {n} (front {xs = rs}) least h = rw (first_broken_lem true n (first_broken rs) refl) (le_refl (rank n))
  broken_least (further {y = r} {xs = rs} m) least h =
      by_cases _ r.broken
      (λ (t : r.broken ≡ true). rw (first_broken_lem r.broken r.number (first_broken rs) t) (ascends_least m (rank r.number) h.1))
      (λ (t : r.broken ≡ false).
      rw (first_kept r.broken r.number (first_broken rs) (first_broken rs) t refl) (broken_least m (rank r.number) h.1))

-- ---- lists made of another list

-- an element of a mapped list comes from an element of the list
pub record Source {A B : Type 0} (f : A → B) (xs : List A) (y : B) : Type 0 where
  pub source : A
  pub among : Among source xs
  pub gives : f source ≡ y

module _ {A B : Type 0} (f : A → B) where
  pub source_of : (xs : List A) {y : B} → Among y (map f xs) → Source f xs y
  source_of (x ∷ xs) front = record { source = x; among = front; gives = refl }
  source_of (x ∷ xs) (further m) = longer (source_of xs m)
    where
      longer : {y : B} → Source f xs y → Source f (x ∷ xs) y
      longer s = record { source = s.source; among = further s.among; gives = s.gives }
  source_of [] {y = y} x' = elim x' [ ]

  pub among_mapped : {x : A} {xs : List A} → Among x xs → Among (f x) (map f xs)
  among_mapped front = front
  among_mapped (further m) = further (among_mapped m)
