-- Laws of single bytes: how the tests of the code decide the definitions.
-- Assumes nothing.
use mathlib.Core.Path.{◌≡◌, refl, sym, ◌∙◌}
use mathlib.Core.Bool.{Bool, true, false}
use Prim.Native.Nat.{ℕ}
use native.Mathlib.Omega.{arith}
use lib.Dec.{leb}
use Rattle.std.specs.Char.{to_ascii_lowercase}
use borrow.Author.Tests.{ne_eqb, leb-true, leb-false, lt-ltb, le-ltb}
use Rattle.base.specs.Bytes.{small, is_capital, is_letter, is_digit, within}
use Rattle.base.proofs.IfLaws.{by_cases, if_true, if_false, both_true, both_not_left, both_not_right, either_left, either_rest}
use Rattle.lex_keyword.specs.Names.{folded}
use Rattle.lex_keyword.specs.Bracket.{is_plain_byte}

-- the library's small letter
pub fold_small : (b : ℕ) → (b ≡ 95 → ⊥) → to_ascii_lowercase b ≡ folded b
unfolding folded small is_capital within
fold_small b h =
    rw (if_false _ _ (ne_eqb b 95 h)) (by_cases _ (leb 65 b)
    (λ (e : leb 65 b ≡ true).
    by_cases _ (leb b 90)
    (λ (f : leb b 90 ≡ true). let p = leb-true 65 b e in let q = leb-true b 90 f in
    rw (le-ltb b 65 p, lt-ltb b 91 (omega arith), if_true _ _ (both_true _ _ e f)) refl)
    (λ (f : leb b 90 ≡ false). let p = leb-true 65 b e in let q = leb-false b 90 f in
    rw (le-ltb b 65 p, le-ltb b 91 (omega arith), if_false _ _ (both_not_right _ _ f)) refl))
    (λ (e : leb 65 b ≡ false). let p = leb-false 65 b e in
    rw (lt-ltb b 65 (omega arith), if_false _ _ (both_not_left _ _ e)) refl))

-- t is the result of the test for a letter
module _ (b : ℕ) (t : Bool) (told : t ≡ is_letter b) where
  pub plain_letter : t ≡ true → true ≡ is_plain_byte b
  unfolding is_plain_byte
  plain_letter e = sym (either_left (is_letter b) (is_digit b) (sym told ∙ e))

  pub plain_digit : (r : Bool) → t ≡ false → r ≡ is_digit b → r ≡ is_plain_byte b
  unfolding is_plain_byte
  plain_digit r e h = h ∙ sym (either_rest (is_letter b) (is_digit b) (sym told ∙ e))
