-- Laws of the sign, the e and the scale letter, as the code uses them. Past the end of a word there is none of these.
-- Assumes nothing.
use mathlib.Core.Path.{◌≡◌, refl, sym, ◌∙◌}
use mathlib.Core.Bool.{Bool, true, false}
use mathlib.Core.List.{List}
use Prim.Native.Nat.{ℕ, ◌+◌, ◌≤◌}
use lib.ListN.{length, get_or, get_or-eq_default}
use lib.Dec.{ltb}
use borrow.Author.Tests.{le-ltb}
use Rattle.base.specs.If.{either}
use Rattle.base.proofs.IfLaws.{if_true, if_false}
use Rattle.lex_number.specs.declared.Scale.{Scale}
use Rattle.lex_number.specs.Number.{is_sign, is_minus, past_sign, scale_of}

-- there is no sign past the end
pub sign_past : (s : List ℕ) (from : ℕ) → length s ≤ from → from ≡ past_sign s from
unfolding past_sign is_sign either
sign_past s from h = sym (if_false _ _ (rw (get_or-eq_default s 0 h) refl))

pub minus_past : (s : List ℕ) (at : ℕ) → length s ≤ at → ltb at (length s) ≡ is_minus (get_or s at 0)
unfolding is_minus
minus_past s at h = le-ltb at (length s) h ∙ rw (get_or-eq_default s 0 h) refl

module _ (s : List ℕ) (from : ℕ) (t : Bool) (told : t ≡ is_sign (get_or s from 0)) where
  pub sign_there : t ≡ true → from + 1 ≡ past_sign s from
  unfolding past_sign
  sign_there e = sym (if_true _ _ (sym told ∙ e))

  pub sign_none : t ≡ false → from ≡ past_sign s from
  unfolding past_sign
  sign_none e = sym (if_false _ _ (sym told ∙ e))
