-- What has to be shown at each `return` of the code, given the results of its tests and calls.
-- Assumes nothing.
use mathlib.Core.Path.{◌≡◌, refl, sym, ◌∙◌}
use mathlib.Core.Bool.{Bool, true, false}
use mathlib.Core.Logic.{⊎_elim}
use Prim.Native.Nat.{ℕ, ◌+◌, ◌-◌, ◌^◌, ◌≤◌, ◌<◌}
use native.Mathlib.Nat.{le_trans}
use lib.Dec.{T, leb, lit≤, le→leb}
use lib.IntN.{pos}
use lib.Ieee.{Float, binary64, of_int, in_float, mul, div, neg}
use borrow.Author.Tests.{lt-ltb, le-ltb, le-leb, lt-leb, leb-true}
use Rattle.std.proofs.Common.{Option, Some, None}
use Rattle.std.specs.Option.{option_zip}
use Rattle.base.specs.If.{both}
use Rattle.base.specs.Bytes.{within}
use Rattle.base.proofs.IfLaws.{if_true, if_false, both_first, both_second, both_rest, both_true, both_not_left, both_not_right}
use Rattle.lex_number.specs.ValueWord.{zero_word, decimal_of, is_value_word}
use Rattle.lex_number.specs.declared.Decimal.{Decimal}
use Rattle.lex_number.proofs.WordLaws.{Written, word_says, decoded}
use Rattle.out_double.specs.Double.{span, as_double, scaled, signed, double, is_drawn, drawn_of, paired}

-- ---- the one operation

-- an m up to 2 ^ 53 is converted without loss
pub holds : (n : ℕ) → n ≤ 2 ^ 53 → T (in_float binary64 (pos n))
unfolding in_float
holds n h = le→leb n (2 ^ 53) h

module _ (size shifted : ℕ) (power : Float) where
  pub divided : power ≡ as_double (10 ^ (64 - shifted)) → shifted < 64 → div binary64 (of_int binary64 (pos size)) power ≡ scaled size shifted
  unfolding scaled as_double
  divided e h = rw (e, lt-ltb _ _ h) (sym (if_true _ _ refl))

  pub multiplied : power ≡ as_double (10 ^ (shifted - 64)) → 64 ≤ shifted → mul binary64 (of_int binary64 (pos size)) power ≡ scaled size shifted
  unfolding scaled as_double
  multiplied e h = rw (e, le-ltb _ _ h) (sym (if_false _ _ refl))

-- ---- the sign

module _ (w : ℕ) (d : Decimal) (x : Float) (parts : d ≡ decimal_of w) (told : x ≡ scaled d.size d.shifted) where
  pub negated : d.negative ≡ true → neg x ≡ double (decimal_of w)
  unfolding double signed
  negated t = rw (← parts, told) (sym (if_true _ _ t))

  pub kept : d.negative ≡ false → x ≡ double (decimal_of w)
  unfolding double signed
  kept t = rw (← parts, told) (sym (if_false _ _ t))

-- ---- which words are drawn

-- the parts of a word that is drawn: m has at most 15 digits, and k is from -22 to 22
pub record Spanned (d : Decimal) : Type 0 where
  pub few : d.size ≤ 999_999_999_999_999
  pub low : 64 - span ≤ d.shifted
  pub high : d.shifted ≤ 64 + span

zero_few : (decimal_of zero_word).size ≤ 999_999_999_999_999
unfolding decimal_of
zero_few = lit≤ tt

word_few : (w : ℕ) → is_value_word w ≡ true → (decimal_of w).size ≤ 999_999_999_999_999
word_few w e =
    ⊎_elim
    (λ (z : w ≡ zero_word). rw z zero_few)
    (λ (k : Written w). rw (decoded w k) k.few)
    (word_says w e)

pub spanned : (w : ℕ) → is_drawn w ≡ true → Spanned (decimal_of w)
unfolding is_drawn within
spanned w e =
    let inside : both (leb (64 - span) (decimal_of w).shifted) (leb (decimal_of w).shifted (64 + span)) ≡ true = both_second _ _ e in
    record {
      few = word_few w (both_first _ _ e);
      low = leb-true _ _ (both_first _ _ inside);
      high = leb-true _ _ (both_second _ _ inside);
    }

-- what the operation requires of its operands
module _ (w : ℕ) (d : Decimal) (told : d ≡ decimal_of w) (drawn : is_drawn w ≡ true) where
  pub exact_size : d.size ≤ 2 ^ 53
  exact_size = rw told (le_trans (spanned w drawn).few (lit≤ tt))

  pub not_too_low : 64 - span ≤ d.shifted
  not_too_low = rw told (spanned w drawn).low

  pub not_too_high : d.shifted ≤ 64 + span
  not_too_high = rw told (spanned w drawn).high

-- by the tests of the code: a call's result, and the span
module _ (w : ℕ) (b : Bool) (tested : b ≡ is_value_word w) where
  pub no_word : b ≡ false → b ≡ is_drawn w
  unfolding is_drawn
  no_word t = t ∙ sym (both_not_left _ _ (sym tested ∙ t))

  module _ (d : Decimal) (told : d ≡ decimal_of w) (word : b ≡ true) where
    pub span_is : within (64 - span) (64 + span) d.shifted ≡ is_drawn w
    unfolding is_drawn
    span_is = rw (← told) (sym (both_rest _ _ (sym tested ∙ word)))

    pub in_span : 64 - span ≤ d.shifted → d.shifted ≤ 64 + span → true ≡ is_drawn w
    unfolding within
    in_span low high = sym (both_true _ _ (le-leb (64 - span) d.shifted low) (le-leb d.shifted (64 + span) high)) ∙ span_is

    pub too_low : d.shifted < 64 - span → false ≡ is_drawn w
    unfolding within
    too_low h = sym (both_not_left _ _ (lt-leb (64 - span) d.shifted h)) ∙ span_is

    pub too_high : 64 + span < d.shifted → false ≡ is_drawn w
    unfolding within
    too_high h = sym (both_not_right _ _ (lt-leb d.shifted (64 + span) h)) ∙ span_is

-- ---- the answers

module _ (w : ℕ) (b : Bool) (tested : b ≡ is_drawn w) where
  pub drawn : (x : Float) → b ≡ true → x ≡ double (decimal_of w) → Some x ≡ drawn_of w
  unfolding drawn_of
  drawn x t e = rw e (sym (if_true _ _ (sym tested ∙ t)))

  pub outside : b ≡ false → None ≡ drawn_of w
  unfolding drawn_of
  outside t = sym (if_false _ _ (sym tested ∙ t))

-- the library's zip pairs two answers as the definition does
pub zip_is : (p q : Option Float) → option_zip p q ≡ paired p q
unfolding paired
zip_is (Some x) (Some y) = refl
zip_is (Some x) None = refl
zip_is None q = refl

pub zip_same : (f v p q : Option Float) → f ≡ p → v ≡ q → (made : Option (Float × Float)) → made ≡ option_zip f v → made ≡ paired p q
zip_same f v p q a b made e = let z = zip_is f v in cc
