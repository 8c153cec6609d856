-- Laws of the depth along steps of given kinds: opens less closes, at most 8 and never below 0.
-- Assumes nothing.
use mathlib.Core.Path.{◌≡◌, refl, sym, ◌∙◌, ap}
use mathlib.Core.Bool.{Bool, true, false}
use mathlib.Core.List.{List, [], ◌∷◌}
use Prim.Native.Nat.{ℕ, zero, suc, ◌+◌, ◌-◌, ◌≤◌, ◌<◌, zero-le}
use native.Mathlib.Nat.{le_of_suc-le-suc, not-suc-le-zero}
use native.Mathlib.Omega.{arith}
use lib.ListN.{length, take, drop, get_or}
use lib.Dec.{eqb}
use borrow.Author.Tests.{ne_eqb, eqb-true, ltb-true}
use Rattle.table_layout.specs.Codes.{fork_kind, endfork_kind}
use Rattle.table_layout.specs.Bounds.{deepest}
use Rattle.base.specs.If.{provided◌then◌else◌}
use Rattle.base.proofs.IfLaws.{if_true, if_false, by_cases, both_first, both_second}
use Rattle.ask_sound.specs.Sound.{depth_stays, depth_after, depth_holds}
use Rattle.ask_sound.proofs.LoopLaws.{stays_within}
use Rattle.ask_walk.specs.Walk.{count_kind, is_depth}

-- ---- one step that is allowed at its depth

fork_not_endfork : (kind : ℕ) → eqb kind fork_kind ≡ true → eqb kind endfork_kind ≡ false
fork_not_endfork kind e =
    let k : kind ≡ 2 = eqb-true kind 2 e in
    ne_eqb _ _ (λ (f : kind ≡ 3). omega arith)

endfork_not_fork : (kind : ℕ) → eqb kind endfork_kind ≡ true → eqb kind fork_kind ≡ false
endfork_not_fork kind e =
    let k : kind ≡ 3 = eqb-true kind 3 e in
    ne_eqb _ _ (λ (f : kind ≡ 2). omega arith)

-- a step of this kind changes the depth by its opens less its closes, whatever other steps open and close
abbrev pub Moves : ℕ → ℕ → ℕ → ℕ → Type 0
Moves d kind opens closes =
    depth_after d kind + (provided eqb kind endfork_kind then closes + 1 else closes) + opens ≡ d + (provided eqb kind fork_kind then opens + 1 else opens) + closes

module _ (d kind : ℕ) (stays : depth_stays d kind ≡ true) where
  -- if the step is a fork, the depth is below 8
  pub fork_below : eqb kind fork_kind ≡ true → d < deepest
  unfolding depth_stays
  fork_below f = ltb-true d deepest (sym (if_true _ _ f) ∙ stays)

  -- if the step is an endfork, the depth is above 0
  pub endfork_above : eqb kind endfork_kind ≡ true → 0 < d
  unfolding depth_stays
  endfork_above g = ltb-true 0 d (sym (if_false _ _ (endfork_not_fork kind g) ∙ if_true _ _ g) ∙ stays)

  pub moves : (opens closes : ℕ) → Moves d kind opens closes
  unfolding depth_after
  moves opens closes = by_cases _ (eqb kind fork_kind) fork other
    where
      fork : eqb kind fork_kind ≡ true → Moves d kind opens closes
      fork f =
          let a : depth_after d kind ≡ d + 1 = if_true _ _ f in
          let o : (provided eqb kind fork_kind then opens + 1 else opens) ≡ opens + 1 = if_true _ _ f in
          let c : (provided eqb kind endfork_kind then closes + 1 else closes) ≡ closes = if_false _ _ (fork_not_endfork kind f) in
          omega arith

      other : eqb kind fork_kind ≡ false → Moves d kind opens closes
      other f = by_cases _ (eqb kind endfork_kind) endfork neither
        where
          endfork : eqb kind endfork_kind ≡ true → Moves d kind opens closes
          endfork g =
              let l : 0 < d = endfork_above g in
              let a : depth_after d kind ≡ d - 1 = if_false _ _ f ∙ if_true _ _ g in
              let o : (provided eqb kind fork_kind then opens + 1 else opens) ≡ opens = if_false _ _ f in
              let c : (provided eqb kind endfork_kind then closes + 1 else closes) ≡ closes + 1 = if_true _ _ g in
              omega arith

          neither : eqb kind endfork_kind ≡ false → Moves d kind opens closes
          neither g =
              let a : depth_after d kind ≡ d = if_false _ _ f ∙ if_false _ _ g in
              let o : (provided eqb kind fork_kind then opens + 1 else opens) ≡ opens = if_false _ _ f in
              let c : (provided eqb kind endfork_kind then closes + 1 else closes) ≡ closes = if_false _ _ g in
              omega arith

  -- the depth e at the end is the same whether it is counted from before the step or from after it
  moves_on :
      (opens closes e : ℕ) → e + (provided eqb kind endfork_kind then closes + 1 else closes) ≡ d + (provided eqb kind fork_kind then opens + 1 else opens) →
      e + closes ≡ depth_after d kind + opens
  moves_on opens closes e h =
      let m : Moves d kind opens closes = moves opens closes in
      omega arith

-- ---- the first n steps, where the depth holds from d on; e is the depth after them

still_holds :
    (n : ℕ) (ks : List ℕ) (d e : ℕ) → depth_holds d ks ≡ true → e + count_kind endfork_kind (take n ks) ≡ d + count_kind fork_kind (take n ks) →
    depth_holds e (drop n ks) ≡ true
unfolding depth_holds count_kind
still_holds zero ks d e h k =
    let s : e ≡ d = omega arith in
    rw s h
still_holds (suc n) [] d e h k =
    let s : e ≡ d = omega arith in
    rw s h
still_holds (suc n) (kind ∷ ks) d e h k =
    still_holds n ks (depth_after d kind) e (both_second _ _ h)
    (moves_on d kind (both_first _ _ h) (count_kind fork_kind (take n ks)) (count_kind endfork_kind (take n ks)) e k)

still_shallow :
    (n : ℕ) (ks : List ℕ) (d e : ℕ) → d ≤ deepest → depth_holds d ks ≡ true → e + count_kind endfork_kind (take n ks) ≡ d + count_kind fork_kind (take n ks) →
    e ≤ deepest
unfolding depth_holds count_kind
still_shallow zero ks d e l h k = omega arith
still_shallow (suc n) [] d e l h k = omega arith
still_shallow (suc n) (kind ∷ ks) d e l h k =
    still_shallow n ks (depth_after d kind) e (stays_within d kind l (both_first _ _ h)) (both_second _ _ h)
    (moves_on d kind (both_first _ _ h) (count_kind fork_kind (take n ks)) (count_kind endfork_kind (take n ks)) e k)

closes_few :
    (n : ℕ) (ks : List ℕ) (d : ℕ) → depth_holds d ks ≡ true → count_kind endfork_kind (take n ks) ≤ d + count_kind fork_kind (take n ks)
unfolding depth_holds count_kind
closes_few zero ks d h = zero-le
closes_few (suc n) [] d h = zero-le
closes_few (suc n) (kind ∷ ks) d h =
    let few : count_kind endfork_kind (take n ks) ≤ depth_after d kind + count_kind fork_kind (take n ks) = closes_few n ks (depth_after d kind) (both_second _ _ h) in
    let m : Moves d kind (count_kind fork_kind (take n ks)) (count_kind endfork_kind (take n ks)) = moves d kind (both_first _ _ h) _ _ in
    omega arith

may_come : (d : ℕ) (ks : List ℕ) (n : ℕ) → n < length ks → depth_holds d (drop n ks) ≡ true → depth_stays d (get_or ks n 0) ≡ true
unfolding depth_holds
may_come d [] n h e = absurd (not-suc-le-zero h)
may_come d (k ∷ ks) zero h e = both_first _ _ e
may_come d (k ∷ ks) (suc n) h e = may_come d ks n (le_of_suc-le-suc h) e

-- ---- the first n steps of a path whose depth holds

module _ (ks : List ℕ) (holds : depth_holds 0 ks ≡ true) (n : ℕ) where
  -- they close no more forks than they open
  pub closes_most : count_kind endfork_kind (take n ks) ≤ count_kind fork_kind (take n ks)
  closes_most =
      let few : count_kind endfork_kind (take n ks) ≤ 0 + count_kind fork_kind (take n ks) = closes_few n ks 0 holds in
      omega arith

  module _ (depth : ℕ) (right : is_depth depth (take n ks) ≡ true) where
    -- "the depth is opens less closes"
    pub depth_counts : depth + count_kind endfork_kind (take n ks) ≡ count_kind fork_kind (take n ks)
    unfolding is_depth
    depth_counts = eqb-true (depth + count_kind endfork_kind (take n ks)) (count_kind fork_kind (take n ks)) right

    from_none : depth + count_kind endfork_kind (take n ks) ≡ 0 + count_kind fork_kind (take n ks)
    from_none = omega (arith, depth_counts)

    -- after them the depth is at most 8
    pub depth_most : depth ≤ deepest
    depth_most = still_shallow n ks 0 depth zero-le holds from_none

    -- the step after them is allowed at its depth
    pub step_may_come : n < length ks → depth_stays depth (get_or ks n 0) ≡ true
    step_may_come h = may_come depth ks n h (still_holds n ks 0 depth holds from_none)

-- ---- one step more is counted

counts_swap :
    (b c : Bool) (x : ℕ) →
    (provided b then (provided c then x + 1 else x) + 1 else (provided c then x + 1 else x)) ≡ (provided c then (provided b then x + 1 else x) + 1 else (provided b then x + 1 else x))
unfolding provided◌then◌else◌
counts_swap true true x = refl
counts_swap true false x = refl
counts_swap false true x = refl
counts_swap false false x = refl

pub count_next :
    (kind : ℕ) (ks : List ℕ) (n : ℕ) → n < length ks →
    count_kind kind (take (suc n) ks) ≡ (provided eqb (get_or ks n 0) kind then count_kind kind (take n ks) + 1 else count_kind kind (take n ks))
unfolding count_kind
count_next kind [] n h = absurd (not-suc-le-zero h)
count_next kind (k ∷ ks) zero h = refl
count_next kind (k ∷ ks) (suc n) h =
    ap (λ (c : ℕ). provided eqb k kind then c + 1 else c) (count_next kind ks n (le_of_suc-le-suc h))
    ∙ counts_swap (eqb k kind) (eqb (get_or ks n 0) kind) (count_kind kind (take n ks))
