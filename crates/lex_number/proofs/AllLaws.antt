-- Laws of `all`: every byte passes exactly when the run goes to the end, which is what code tests.
-- Assumes nothing.
use mathlib.Core.Path.{◌≡◌, sym, ◌∙◌}
use mathlib.Core.Bool.{Bool, true, false}
use mathlib.Core.List.{List, [], ◌∷◌}
use Prim.Native.Nat.{ℕ, suc, ◌+◌, ◌-◌, ◌≤◌}
use native.Mathlib.Omega.{arith}
use lib.ListN.{length, drop, length-drop}
use lib.Dec.{eqb}
use borrow.Author.Tests.{eq-eqb, ne_eqb, eqb-true, eqb-false}
use Rattle.base.specs.Runs.{run, all}
use Rattle.base.proofs.IfLaws.{by_cases, both_rest, both_not_left}
use Rattle.base.proofs.RunLaws.{run_goes, run_stops, run_nil}

-- two equality tests agree if each implies the other
pub eqb_alike : (a b c d : ℕ) → (a ≡ b → c ≡ d) → (c ≡ d → a ≡ b) → eqb a b ≡ eqb c d
eqb_alike a b c d to from =
    by_cases _ (eqb a b)
    (λ (e : eqb a b ≡ true). e ∙ sym (eq-eqb c d (to (eqb-true a b e))))
    (λ (e : eqb a b ≡ false). e ∙ sym (ne_eqb c d (λ (h : c ≡ d). eqb-false a b e (from h))))

pub all_run : (p : ℕ → Bool) (s : List ℕ) → all p s ≡ eqb (run p s) (length s)
unfolding all
all_run p [] = sym (eq-eqb (run p []) 0 (run_nil p))
all_run p (b ∷ s) = by_cases _ (p b) (λ e. goes (all_run p s) e) (λ e. stops e)
  where
    stops : p b ≡ false → all p (b ∷ s) ≡ eqb (run p (b ∷ s)) (length (b ∷ s))
    stops e =
        let z : run p (b ∷ s) ≡ 0 = run_stops p b s e in
        both_not_left _ _ e ∙ sym (ne_eqb (run p (b ∷ s)) (suc (length s)) (λ (h : run p (b ∷ s) ≡ suc (length s)). omega arith))

    goes : all p s ≡ eqb (run p s) (length s) → p b ≡ true → all p (b ∷ s) ≡ eqb (run p (b ∷ s)) (length (b ∷ s))
    goes later e =
        let n : run p (b ∷ s) ≡ suc (run p s) = run_goes p b s e in
        both_rest _ _ e ∙ later ∙ eqb_alike (run p s) (length s) (run p (b ∷ s)) (suc (length s)) (λ (h : run p s ≡ length s). omega arith) (λ (h : run p (b ∷ s) ≡ suc (length s)). omega arith)

-- the same for the bytes from a position on, with the result of `skip`
pub all_from : (p : ℕ → Bool) (s : List ℕ) (from end : ℕ) → from ≤ length s → end ≡ from + run p (drop from s) → eqb end (length s) ≡ all p (drop from s)
all_from p s from end h e =
    let n : length (drop from s) ≡ length s - from = length-drop from s in
    sym (all_run p (drop from s) ∙ eqb_alike (run p (drop from s)) (length (drop from s)) end (length s) (λ (k : run p (drop from s) ≡ length (drop from s)). omega arith) (λ (k : end ≡ length s). omega arith))
