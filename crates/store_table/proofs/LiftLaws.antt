-- Laws of words that are moved up in a table, the last word first.
-- Assumes nothing.
use mathlib.Core.Path.{◌≡◌, refl, sym, ◌∙◌, ap}
use mathlib.Core.List.{List, [], ◌∷◌, ◌++◌, append_assoc}
use Prim.Native.Nat.{ℕ, suc, ◌+◌, ◌-◌, ◌≤◌, ◌<◌}
use native.Mathlib.Omega.{arith}
use lib.ListN.{length, take, get_or, set, replicate}
use lib.Seq.{sets, length-sets, take-suc, take-set-le, set_comm, length-take-le}
use Rattle.base.proofs.StoreLaws.{sets_append}
use Rattle.table_record.proofs.StageLaws.{take_stored}

-- one store before a run
set_sets : (t : List ℕ) (i k v : ℕ) (vs : List ℕ) → i < k → set (sets t k vs) i v ≡ sets (set t i v) k vs
set_sets t i k v [] h = refl
set_sets t i k v (x ∷ vs) h =
    let l : i < suc k = omega arith in
    let other : k ≡ i → ⊥ = λ (e : k ≡ i). omega arith in
    set_sets (set t k x) i (suc k) v vs l ∙ ap (λ (u : List ℕ). sets u (suc k) vs) (set_comm t k i x v other)

-- a run before another
sets_apart : (t : List ℕ) (i k : ℕ) (ws vs : List ℕ) → i + length ws ≤ k → sets (sets t k vs) i ws ≡ sets (sets t i ws) k vs
sets_apart t i k [] vs h = refl
sets_apart t i k (w ∷ ws) vs h =
    let l : i < k = omega arith in
    let n : suc i + length ws ≤ k = omega arith in
    ap (λ (u : List ℕ). sets u (suc i) ws) (set_sets t i k w vs l) ∙ sets_apart (set t i w) (suc i) k ws vs n

-- the last of the words that are left is moved
pub move_on : (t entry : List ℕ) (up i count : ℕ) → 0 < i → i ≤ count → length t ≡ length entry → up + count ≤ length entry →
    sets t up (take i t) ≡ sets entry up (take count entry) →
    sets (set t (up + (i - 1)) (get_or t (i - 1) 0)) up (take (i - 1) (set t (up + (i - 1)) (get_or t (i - 1) 0))) ≡ sets entry up (take count entry)
move_on t entry up i count some below same room e =
    let j : ℕ = i - 1 in
    let v : ℕ = get_or t j 0 in
    let s : i ≡ suc j = omega arith in
    let k : j < length t = omega arith in
    let a : take j (set t (up + j) v) ≡ take j t = take-set-le j t (up + j) v (omega arith) in
    let l : length (take j t) ≡ j = length-take-le j t (omega arith) in
    let b : up + length (take j t) ≤ up + j = omega arith in
    let n : take i t ≡ take j t ++ (v ∷ []) = ap (λ (m : ℕ). take m t) s ∙ take-suc t j 0 k in
    let p : sets t up (take i t) ≡ sets (sets t up (take j t)) (up + j) (v ∷ []) =
    ap (sets t up) n ∙ sets_append t up (take j t) (v ∷ []) ∙ ap (λ (m : ℕ). sets (sets t up (take j t)) (up + m) (v ∷ [])) l in
    ap (sets (set t (up + j) v) up) a ∙ sets_apart t up (up + j) (take j t) (v ∷ []) b ∙ sym p ∙ e

pub move_done : (t : List ℕ) (up i : ℕ) (goal : List ℕ) → i ≤ 0 → sets t up (take i t) ≡ goal → t ≡ goal
move_done t up i goal h e =
    let z : i ≡ 0 = omega arith in
    rw z at e

pub lifted : (t moved t' : List ℕ) (count up : ℕ) → up + count ≤ length t → moved ≡ sets t up (take count t) →
    t' ≡ take (up + count) moved ++ replicate (length moved - (up + count)) 0 →
    t' ≡ take up t ++ (take count t ++ replicate (length t - (up + count)) 0)
lifted t moved t' count up h m e =
    let l : length (take count t) ≡ count = length-take-le count t (omega arith) in
    let n : length moved ≡ length t = ap length m ∙ length-sets t up (take count t) in
    let front : take (up + count) moved ≡ take up t ++ take count t =
    ap (take (up + count)) m ∙ ap (λ (k : ℕ). take (up + k) (sets t up (take count t))) (sym l) ∙ take_stored up (take count t) t (omega arith) in
    e ∙ (λ i. front i ++ replicate (n i - (up + count)) 0) ∙ append_assoc (take up t) (take count t) (replicate (length t - (up + count)) 0)
