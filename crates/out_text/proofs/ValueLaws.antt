-- Laws of a printed value: sign, size, `e` and exponent, one after the other.
-- Assumes nothing.
use mathlib.Core.Path.{◌≡◌, sym, ◌∙◌, ap}
use mathlib.Core.Bool.{Bool, true, false}
use mathlib.Core.List.{List, [], ◌∷◌, ◌++◌, append_assoc}
use Prim.Native.Nat.{ℕ, ◌-◌, ◌≤◌, ◌<◌, min}
use Prim.Native.Char.{code}
use lib.ListN.{length}
use borrow.Author.Tests.{lt-ltb, le-ltb}
use Rattle.base.proofs.IfLaws.{if_true, if_false}
use Rattle.lex_number.specs.ValueWord.{decimal_of}
use Rattle.lex_number.specs.declared.Decimal.{Decimal}
use Rattle.out_text.specs.Printing.{decimal, sign_text, exponent_text, decimal_text, value_text}
use Rattle.out_text.specs.Written.{Written}
use Rattle.out_text.proofs.WrittenLaws.{written_is, written_none, written_more}

module _ (a b : List ℕ) (at next : ℕ) (negative : Bool) where
  pub sign_written : negative ≡ true → Written a b at next (code "-" ∷ []) → Written a b at next (sign_text negative)
  unfolding sign_text
  sign_written e w = written_is (sym (if_true _ _ e)) w

  pub sign_none : negative ≡ false → next ≡ min at (length a) → Written a a at next (sign_text negative)
  unfolding sign_text
  sign_none e h = written_is (sym (if_false _ _ e)) (written_none a at next h)

module _ (a b : List ℕ) (at m shifted after : ℕ) where
  pub exponent_below : shifted < 64 → Written a b at m (code "-" ∷ []) → (c : List ℕ) (n : ℕ) →
      Written b c m n (decimal (64 - shifted) ++ (after ∷ [])) → Written a c at n (exponent_text shifted ++ (after ∷ []))
  unfolding exponent_text
  exponent_below h w c n v =
      written_is (ap (λ (xs : List ℕ). xs ++ (after ∷ [])) (sym (if_true _ _ (lt-ltb shifted 64 h)))) (written_more a b at m (code "-" ∷ []) w c n _ v)

  pub exponent_above : 64 ≤ shifted → Written a b at m (decimal (shifted - 64) ++ (after ∷ [])) → Written a b at m (exponent_text shifted ++ (after ∷ []))
  unfolding exponent_text
  exponent_above h w = written_is (ap (λ (xs : List ℕ). xs ++ (after ∷ [])) (sym (if_false _ _ (le-ltb shifted 64 h)))) w

parts_join : (d : Decimal) (after : ℕ) →
    sign_text d.negative ++ ((decimal d.size ++ (code "e" ∷ [])) ++ (exponent_text d.shifted ++ (after ∷ []))) ≡ decimal_text d ++ (after ∷ [])
unfolding decimal_text
parts_join d after = simp append_assoc

pub value_written : (word after : ℕ) (d : Decimal) → d ≡ decimal_of word → (a b : List ℕ) (at m : ℕ) → Written a b at m (sign_text d.negative) →
    (c : List ℕ) (n : ℕ) → Written b c m n (decimal d.size ++ (code "e" ∷ [])) →
    (e : List ℕ) (r : ℕ) → Written c e n r (exponent_text d.shifted ++ (after ∷ [])) → Written a e at r (value_text word ++ (after ∷ []))
unfolding value_text
value_written word after d told a b at m sign c n size e r power =
    written_is (parts_join d after ∙ ap (λ (x : Decimal). decimal_text x ++ (after ∷ [])) told)
    (written_more a b at m _ sign e r _ (written_more b c m n _ size e r _ power))
