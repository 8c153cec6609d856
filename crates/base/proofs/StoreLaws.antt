-- Laws of stores into a lent table: several words stored one by one, and zeros up to the end.
-- Assumes nothing.
use mathlib.Core.Path.{◌≡◌, sym, ◌∙◌}
use mathlib.Core.List.{List, [], ◌∷◌, ◌++◌, append_assoc}
use Prim.Native.Nat.{ℕ, suc, ◌+◌, ◌-◌, ◌≤◌}
use native.Mathlib.Nat.{add-zero}
use native.Mathlib.Omega.{arith}
use lib.ListN.{length, take, drop, set}
use lib.Seq.{sets, sets-eq}
use borrow.Rule.Slice.PartMut.{put_mid, Post-is}

-- a part of a table that holds these words now
pub put_sets : (t vs ws : List ℕ) (at : ℕ) → at + length ws ≤ length t → vs ≡ ws → put_mid at (at + length ws - at) t vs ≡ sets t at ws
put_sets t vs ws at room e =
    rw (e, Post-is at (at + length ws) t (omega arith)) (sym (append_assoc (take at t) ws (drop (at + length ws) t)) ∙ sym (sets-eq ws t at room))

-- a run and what is stored behind it
pub sets_append : (t : List ℕ) (i : ℕ) (vs ws : List ℕ) → sets t i (vs ++ ws) ≡ sets (sets t i vs) (i + length vs) ws
sets_append t i [] ws = rw (add-zero i)
sets_append t i (v ∷ vs) ws =
    let n : suc i + length vs ≡ i + suc (length vs) = omega arith in
    rw n at (sets_append (set t i v) (suc i) vs ws)
