-- Laws of runs: the three that a loop over bytes needs (go on, stop, past the end), and which bytes are in a run.
-- Assumes nothing.
use mathlib.Core.Path.{◌≡◌, refl, sym, ◌∙◌, ap}
use mathlib.Core.Bool.{Bool, true, false, not, true≢false, ◌&&◌}
use mathlib.Core.List.{List, [], ◌∷◌, ◌++◌}
use Prim.Native.Nat.{ℕ, zero, suc, ◌+◌, ◌-◌, ◌*◌, ◌^◌, ◌≤◌, ◌<◌, zero-le, suc-le-suc}
use mir.Syntax.{w64}
use mir.Val.{Fits}
use native.Mathlib.Nat.{le_of_suc-le-suc, zero-add, suc-add, le_refl}
use native.Mathlib.Numerals.{add-one}
use native.Mathlib.Omega.{arith}
use lib.ListN.{length, take, drop, get_or, drop_of_length-le, length-drop}
use lib.Seq.{drop-cons, drop-drop, get_or-drop, length-take-le}
use lib.Dec.{eqb}
use borrow.Author.Tests.{eqb-true, eq-eqb, not-true, not-false}
use Rattle.base.specs.If.{provided◌then◌else◌, both}
use Rattle.base.specs.Runs.{run, all, same}
use Rattle.std.specs.Bool.{MatchBool}
use Rattle.std.specs.List.{AllWithin, HoldsAt}
use Rattle.base.specs.Way.Class.{run_end, RunsOn}
use Rattle.base.proofs.IfLaws.{if_true, if_false, by_test, by_cases, both_true, both_not_right, both_first, both_second, both_assoc, both_and}

pub run_cons : (p : ℕ → Bool) (b : ℕ) (s : List ℕ) → run p (b ∷ s) ≡ (provided p b then suc (run p s) else zero)
unfolding run
run_cons p b s = refl

pub run_nil : (p : ℕ → Bool) → run p [] ≡ zero
unfolding run
run_nil p = refl

pub run_goes : (p : ℕ → Bool) (b : ℕ) (s : List ℕ) → p b ≡ true → run p (b ∷ s) ≡ suc (run p s)
run_goes p b s e = run_cons p b s ∙ if_true _ _ e

pub run_stops : (p : ℕ → Bool) (b : ℕ) (s : List ℕ) → p b ≡ false → run p (b ∷ s) ≡ 0
run_stops p b s e = run_cons p b s ∙ if_false _ _ e

pub run_goes_on : (p : ℕ → Bool) (b : ℕ) (s : List ℕ) → p b ≡ true → run p (b ∷ s) ≡ run p s + 1
run_goes_on p b s e = rw (add-one) (run_goes p b s e)

module _ (p : ℕ → Bool) (s : List ℕ) (i : ℕ) where
  pub run_on : i < length s → p (get_or s i 0) ≡ true → run p (drop i s) ≡ suc (run p (drop (i + 1) s))
  run_on h e = rw (add-one, drop-cons s i 0 h) (run_goes p (get_or s i 0) (drop (suc i) s) e)

  pub run_stop : i < length s → p (get_or s i 0) ≡ false → run p (drop i s) ≡ 0
  run_stop h e = rw (drop-cons s i 0 h) (run_stops p (get_or s i 0) (drop (suc i) s) e)

  pub run_past : length s ≤ i → run p (drop i s) ≡ 0
  run_past h = rw (drop_of_length-le s h) (run_nil p)

-- the invariant of a loop over bytes: from its position i the run ends at `end`
module _ (p : ℕ → Bool) (s : List ℕ) (i : ℕ) (end : ℕ) (inv : i + run p (drop i s) ≡ end) where
  pub reach_on_lem : i < length s → p (get_or s i 0) ≡ true → i + 1 + run p (drop (i + 1) s) ≡ end
  reach_on_lem h e =
      let k : run p (drop i s) ≡ suc (run p (drop (i + 1) s)) = run_on p s i h e in
      omega arith

  pub reach_stop : i < length s → p (get_or s i 0) ≡ false → i ≡ end
  reach_stop h e =
      let k : run p (drop i s) ≡ 0 = run_stop p s i h e in
      omega arith

  pub reach_past : length s ≤ i → i ≡ end
  reach_past h =
      let k : run p (drop i s) ≡ 0 = run_past p s i h in
      omega arith

pub run_le : (p : ℕ → Bool) (s : List ℕ) → run p s ≤ length s
run_le p [] = rw run_nil zero-le
run_le p (b ∷ s) = rw run_cons (by_test (λ (n : ℕ). n ≤ suc (length s)) (p b) _ _ (λ e. suc-le-suc (run_le p s)) (λ e. zero-le))

-- every byte of the run passes
pub run_all : (p : ℕ → Bool) (s : List ℕ) (k : ℕ) → k < run p s → p (get_or s k 0) ≡ true
run_all p [] k h =
    let e : run p [] ≡ 0 = run_nil p in
    absurd (omega arith)
run_all p (b ∷ s) k h = by_cases _ (p b) (λ e. inside (run_all p s) k h e) (λ e. outside e)
  where
    outside : p b ≡ false → p (get_or (b ∷ s) k 0) ≡ true
    outside e =
        let z : run p (b ∷ s) ≡ 0 = run_stops p b s e in
        absurd (omega arith)

    inside : ((j : ℕ) → j < run p s → p (get_or s j 0) ≡ true) → (j : ℕ) → j < run p (b ∷ s) → p b ≡ true → p (get_or (b ∷ s) j 0) ≡ true
    inside later zero g e = e
    inside later (suc j) g e = later j (le_of_suc-le-suc (rw (run_goes p b s e) at g))

-- the byte after the run, if there is one, does not pass
pub run_end_lem : (p : ℕ → Bool) (s : List ℕ) → run p s < length s → p (get_or s (run p s) 0) ≡ false
run_end_lem p [] h = absurd (native.Mathlib.Nat.not-suc-le-zero h)
run_end_lem p (b ∷ s) h =
    by_cases _ (p b)
    (λ (e : p b ≡ true). rw (run_goes p b s e) (run_end_lem p s (le_of_suc-le-suc (rw (run_goes p b s e) at h))))
    (λ (e : p b ≡ false). rw (run_stops p b s e) e)

-- the length of a run is determined: all bytes before n pass, and the byte at n does not
pub run_is : (p : ℕ → Bool) (s : List ℕ) (n : ℕ) → n ≤ length s → ((k : ℕ) → k < n → p (get_or s k 0) ≡ true) → (n < length s → p (get_or s n 0) ≡ false) → run p s ≡ n
run_is p [] zero h a e = run_nil p
run_is p [] (suc n) h a e = absurd (native.Mathlib.Nat.not-suc-le-zero h)
run_is p (b ∷ s) zero h a e = run_stops p b s (e (suc-le-suc zero-le))
run_is p (b ∷ s) (suc n) h a e =
    run_goes p b s (a zero (suc-le-suc zero-le))
    ∙ ap suc (run_is p s n (le_of_suc-le-suc h) (λ (k : ℕ) (g : k < n). a (suc k) (suc-le-suc g)) (λ (g : n < length s). e (suc-le-suc g)))

pub same_refl : (s : List ℕ) → same s s ≡ true
unfolding same
same_refl [] = refl
same_refl (b ∷ s) = both_true _ _ (eq-eqb b b refl) (same_refl s)

pub same_equal : (s t : List ℕ) → same s t ≡ true → s ≡ t
unfolding same
same_equal [] [] e = refl
same_equal [] (c ∷ t) e = absurd (true≢false (sym e))
same_equal (b ∷ s) [] e = absurd (true≢false (sym e))
same_equal (b ∷ s) (c ∷ t) e =
    let h : b ≡ c = eqb-true b c (both_first _ _ e) in
    let k : s ≡ t = same_equal s t (both_second _ _ e) in
    cc

-- the laws of going on and stopping, with the result t of a call in place of the test, as a loop of code has it
module _ (p : ℕ → Bool) (s : List ℕ) (i end : ℕ) (t : Bool) (inv : i + run p (drop i s) ≡ end) (h : i < length s) (told : t ≡ p (get_or s i 0)) where
  pub tested_on : not t ≡ false → i + 1 + run p (drop (i + 1) s) ≡ end
  tested_on e = reach_on_lem p s i end inv h (sym told ∙ not-false t e)

  pub tested_stop : not t ≡ true → i ≡ end
  tested_stop e = reach_stop p s i end inv h (sym told ∙ not-true t e)

-- if every byte that passes p passes q, a run of q goes on past a run of p
run_split : (p q : ℕ → Bool) → ((b : ℕ) → p b ≡ true → q b ≡ true) → (s : List ℕ) → run q s ≡ run p s + run q (drop (run p s) s)
run_split p q h [] = rw (run_nil p, run_nil q)
run_split p q h (b ∷ s) = by_cases _ (p b) (λ (e : p b ≡ true). goes e (run_split p q h s)) (λ (e : p b ≡ false). rw (run_stops p b s e) (sym (zero-add (run q (b ∷ s)))))
  where
    goes : p b ≡ true → run q s ≡ run p s + run q (drop (run p s) s) → run q (b ∷ s) ≡ run p (b ∷ s) + run q (drop (run p (b ∷ s)) (b ∷ s))
    goes e k = rw (run_goes p b s e, run_goes q b s (h b e), suc-add) (ap suc k)

pub run_through : (p q : ℕ → Bool) → ((b : ℕ) → p b ≡ true → q b ≡ true) → (s : List ℕ) (at : ℕ) → run_end q s (run_end p s at) ≡ run_end q s at
run_through p q h s at =
    let k : run q (drop at s) ≡ run p (drop at s) + run q (drop (run p (drop at s)) (drop at s)) = run_split p q h (drop at s) in
    let d : drop (run p (drop at s)) (drop at s) ≡ drop (at + run p (drop at s)) s = drop-drop (run p (drop at s)) at s in
    let m : run q (drop at s) ≡ run p (drop at s) + run q (drop (at + run p (drop at s)) s) = rw d at k in
    omega arith

-- a wider test never stops earlier
pub run_wider : (p q : ℕ → Bool) → ((b : ℕ) → p b ≡ true → q b ≡ true) → (s : List ℕ) → run p s ≤ run q s
run_wider p q h s =
    let k : run q s ≡ run p s + run q (drop (run p s) s) = run_split p q h s in
    omega arith

-- a run that ends within the first n bytes is the same in those n bytes
pub run_take : (p : ℕ → Bool) (s : List ℕ) (n : ℕ) → run p s ≤ n → run p (take n s) ≡ run p s
run_take p [] zero h = refl
run_take p [] (suc n) h = refl
run_take p (b ∷ s) zero h =
    let e : run p (b ∷ s) ≡ 0 = omega arith in
    run_nil p ∙ sym e
run_take p (b ∷ s) (suc n) h = by_cases _ (p b) (λ (e : p b ≡ true). goes e (run_take p s n)) (λ (e : p b ≡ false). rw (run_stops p b s e) (run_stops p b (take n s) e))
  where
    goes : p b ≡ true → (run p s ≤ n → run p (take n s) ≡ run p s) → run p (b ∷ take n s) ≡ run p (b ∷ s)
    goes e k = rw (run_goes p b s e, run_goes p b (take n s) e) (ap suc (k (le_of_suc-le-suc (rw (run_goes p b s e) at h))))

-- the byte at the end of a run does not pass
pub run_end_at : (p : ℕ → Bool) (s : List ℕ) (from : ℕ) → run_end p s from < length s → p (get_or s (run_end p s from) 0) ≡ false
run_end_at p s from h =
    let l : length (drop from s) ≡ length s - from = length-drop from s in
    let g : run p (drop from s) < length (drop from s) = omega arith in
    rw (get_or-drop from s (run p (drop from s)) 0) at (run_end_lem p (drop from s) g)

pub all_nil : (p : ℕ → Bool) → all p [] ≡ true
unfolding all
all_nil p = refl

pub all_cons : (p : ℕ → Bool) (b : ℕ) (s : List ℕ) → all p (b ∷ s) ≡ both (p b) (all p s)
unfolding all
all_cons p b s = refl

-- every byte passes exactly when the run goes to the end
pub all_run : (p : ℕ → Bool) (s : List ℕ) → all p s ≡ true → run p s ≡ length s
all_run p [] e = run_nil p
all_run p (b ∷ s) e =
    let f : both (p b) (all p s) ≡ true = rw (all_cons p b s) at e in
    run_goes p b s (both_first _ _ f) ∙ ap suc (all_run p s (both_second _ _ f))

pub run_whole : (p : ℕ → Bool) (s : List ℕ) → run p s ≡ length s → all p s ≡ true
run_whole p [] e = all_nil p
run_whole p (b ∷ s) e = by_cases _ (p b) (λ (f : p b ≡ true). goes f (run_whole p s)) (λ (f : p b ≡ false). stops f)
  where
    goes : p b ≡ true → (run p s ≡ length s → all p s ≡ true) → all p (b ∷ s) ≡ true
    goes f k =
        let g : suc (run p s) ≡ suc (length s) = sym (run_goes p b s f) ∙ e in
        let h : run p s ≡ length s = omega arith in
        all_cons p b s ∙ both_true _ _ f (k h)

    stops : p b ≡ false → all p (b ∷ s) ≡ true
    stops f =
        let g : 0 ≡ suc (length s) = sym (run_stops p b s f) ∙ e in
        absurd (omega arith)

pub run_short : (p : ℕ → Bool) (s : List ℕ) → run p s < length s → all p s ≡ false
run_short p s h = by_cases (all p s ≡ false) (all p s) (λ (e : all p s ≡ true). let k : run p s ≡ length s = all_run p s e in absurd (omega arith)) (λ (e : all p s ≡ false). e)

-- the bytes of a run all pass
pub all_take : (p : ℕ → Bool) (s : List ℕ) → all p (take (run p s) s) ≡ true
all_take p s =
    let r : run p (take (run p s) s) ≡ run p s = run_take p s (run p s) (le_refl (run p s)) in
    let l : length (take (run p s) s) ≡ run p s = length-take-le (run p s) s (run_le p s) in
    run_whole p (take (run p s) s) (r ∙ sym l)

-- if all of x passes and b does not, the run ends right after x
pub run_append : (p : ℕ → Bool) (x : List ℕ) (b : ℕ) (y : List ℕ) → all p x ≡ true → p b ≡ false → run p (x ++ (b ∷ y)) ≡ length x
run_append p [] b y e f = run_stops p b y f
run_append p (a ∷ x) b y e f =
    let g : both (p a) (all p x) ≡ true = rw (all_cons p a x) at e in
    run_goes p a (x ++ (b ∷ y)) (both_first _ _ g) ∙ ap suc (run_append p x b y (both_second _ _ g) f)

-- ---- two lists compared

pub same_nil : same [] [] ≡ true
unfolding same
same_nil = refl

same_cons : (b c : ℕ) (s t : List ℕ) → same (b ∷ s) (c ∷ t) ≡ both (eqb b c) (same s t)
unfolding same
same_cons b c s t = refl

pub same_longer : (s t : List ℕ) → (length s ≡ length t → ⊥) → same s t ≡ false
unfolding same
same_longer [] [] h = absurd (h refl)
same_longer [] (c ∷ t) h = refl
same_longer (b ∷ s) [] h = refl
same_longer (b ∷ s) (c ∷ t) h = both_not_right _ _ (same_longer s t (λ (e : length s ≡ length t). h (ap suc e)))

-- ---- from run to run: the result of `skip` is within the list, and the position after it is further on

module _ (p : ℕ → Bool) (s : List ℕ) (at end : ℕ) (within : at < length s) (told : end ≡ run_end p s at) where
  pub run_starts : at ≤ end
  run_starts = omega arith

  pub run_ends : end ≤ length s
  run_ends =
      let h : run p (drop at s) ≤ length (drop at s) = run_le p (drop at s) in
      let n : length (drop at s) ≡ length s - at = length-drop at s in
      omega arith

  pub next_fits : length s * 1 < 2 ^ 63 → Fits w64 (end + 1)
  next_fits h = omega (arith, run_ends)

-- ---- blocks: several bytes tested at once

-- if the first n bytes all pass, the run goes on after them
pub run_block : (p : ℕ → Bool) (n : ℕ) (x : List ℕ) → n ≤ length x → all p (take n x) ≡ true → run p x ≡ n + run p (drop n x)
run_block p zero x h e = sym (zero-add (run p x))
run_block p (suc n) [] h e = absurd (native.Mathlib.Nat.not-suc-le-zero h)
run_block p (suc n) (b ∷ x) h e =
    let f : both (p b) (all p (take n x)) ≡ true = rw (all_cons p b (take n x)) at e in
    rw (suc-add) (run_goes p b x (both_first _ _ f) ∙ ap suc (run_block p n x (le_of_suc-le-suc h) (both_second _ _ f)))

both_last : (a : Bool) → a ≡ both a true
unfolding both
both_last true = refl
both_last false = refl

-- the invariant of a loop that tests each byte: what it has found and the bytes that are left give the whole
module _ (p : ℕ → Bool) (s : List ℕ) (i : ℕ) (whole goal : Bool) (inv : both whole (all p (drop i s)) ≡ goal) where
  pub tested_goes : (t : Bool) → i < length s → t ≡ p (get_or s i 0) → both (whole && t) (all p (drop (i + 1) s)) ≡ goal
  tested_goes t h told =
      let d : all p (drop i s) ≡ both (p (get_or s i 0)) (all p (drop (suc i) s)) = rw (drop-cons s i 0 h) (all_cons p (get_or s i 0) (drop (suc i) s)) in
      rw (add-one i, sym (both_and whole t), told) (both_assoc whole (p (get_or s i 0)) (all p (drop (suc i) s)) ∙ rw d at inv)

  pub tested_done : length s ≤ i → whole ≡ goal
  tested_done h = both_last whole ∙ rw (drop_of_length-le s h, all_nil p) at inv

-- what a search for the first byte that fails tells of all bytes
pub all_told : (p : ℕ → Bool) (s : List ℕ) → ((k : ℕ) → k < length s → p (get_or s k 0) ≡ true) → all p s ≡ true
all_told p s pass = run_whole p s (run_is p s (length s) (le_refl (length s)) pass (λ (h : length s < length s). absurd (omega arith)))

pub all_fails : (p : ℕ → Bool) (s : List ℕ) (k : ℕ) → k < length s → p (get_or s k 0) ≡ false → all p s ≡ false
all_fails p s k h e =
    by_cases (all p s ≡ false) (all p s)
    (λ (f : all p s ≡ true). let r : run p s ≡ length s = all_run p s f in absurd (true≢false (sym (run_all p s k (rw r h)) ∙ e)))
    (λ (f : all p s ≡ false). f)

pub all_by_cases : (p : ℕ → Bool) (s : List ℕ) (r : Bool) → MatchBool r (AllWithin (λ (b : ℕ). p b ≡ true) s 0 (length s)) ((k : ℕ) × (k < length s) × HoldsAt (λ (b : ℕ). p b ≡ false) s k) → r ≡ all p s
all_by_cases p s true told = sym (all_told p s (λ (k : ℕ) (h : k < length s). told k 0 zero-le h))
all_by_cases p s false told = sym (all_fails p s told.0 told.1 (told.2 0))

-- behind a block that passes the run goes on
pub runs_block : (p : ℕ → Bool) (n : ℕ) (s rest block behind : List ℕ) → RunsOn p s rest → n ≤ length rest → block ≡ take n rest → behind ≡ drop n rest → all p block ≡ true → RunsOn p s behind
runs_block p n s rest block behind on room is_block is_behind e =
    let k : run p rest ≡ n + run p (drop n rest) = run_block p n rest room (rw is_block at e) in
    let l : length (drop n rest) ≡ length rest - n = length-drop n rest in
    let place : length s - length rest + n ≡ length s - length (drop n rest) = omega (arith, on.inside) in
    let d : drop n rest ≡ drop (length s - length (drop n rest)) s = ap (drop n) on.ends ∙ drop-drop n (length s - length rest) s ∙ ap (λ (i : ℕ). drop i s) place in
    rw is_behind (record { inside = omega (arith, on.inside); ends = d; reaches = omega (arith, on.inside, on.reaches) })
