-- Laws of a flag as a number, 1 if it is set.
-- Assumes nothing.
use mathlib.Core.Path.{◌≡◌, refl}
use mathlib.Core.Bool.{Bool, true, false}
use Prim.Native.Nat.{ℕ, ◌+◌}
use native.Mathlib.Nat.{add-zero}
use mir.Val.{bool_byte}
use Rattle.base.specs.If.{provided◌then◌else◌}

pub flag_is : (b : Bool) → bool_byte b ≡ (provided b then 1 else 0)
unfolding provided◌then◌else◌
flag_is true = refl
flag_is false = refl

-- one more if the flag is set
pub one_more : (n more : ℕ) (b : Bool) → more ≡ bool_byte b → n + more ≡ (provided b then n + 1 else n)
unfolding provided◌then◌else◌
one_more n more true e = rw e
one_more n more false e = rw (e, add-zero n)
