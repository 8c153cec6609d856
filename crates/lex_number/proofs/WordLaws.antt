-- Laws of value words: decoding and building are inverse, and which words are value words.
-- Assumes nothing.
use mathlib.Core.Path.{◌≡◌, sym, ◌∙◌, ap}
use mathlib.Core.Bool.{Bool, true, false, not}
use mathlib.Core.Logic.{◌⊎◌, inl, inr, ⊎_elim}
use Prim.Native.Nat.{ℕ, ◌+◌, ◌*◌, ◌/◌, ◌%◌, ◌^◌, ◌≤◌, ◌<◌}
use native.Mathlib.Omega.{arith}
use lib.Dec.{eqb, leb}
use borrow.Author.Tests.{ne_eqb, eq-eqb, eqb-true, eqb-false, leb-true, not-true}
use Rattle.base.specs.If.{provided◌then◌else◌, both}
use Rattle.base.specs.Bytes.{within}
use Rattle.base.proofs.IfLaws.{ifs, by_test, by_cases, both_first, both_second, either_left, either_right, either_rest}
use Rattle.lex_number.specs.declared.Decimal.{Decimal}
use Rattle.lex_number.specs.ValueWord.{zero_word, value_word, decimal_of, is_decimal, is_value_word}

-- the last return of `is_value_word`: the word is not that of zero, and its parts are tested
pub word_tested : (w : ℕ) (d : Decimal) (t : Bool) → (w ≡ zero_word → ⊥) → d ≡ decimal_of w → t ≡ is_decimal d → t ≡ is_value_word w
unfolding is_value_word
word_tested w d t n e f = f ∙ ap is_decimal e ∙ sym (either_rest _ _ (ne_eqb w zero_word n))

-- a word's sign is its lowest bit
sign_read : (negative : Bool) (n : ℕ) → n % 2 ≡ (provided negative then 1 else 0) → eqb (n % 2) 1 ≡ negative
unfolding provided◌then◌else◌
sign_read true n e = eq-eqb (n % 2) 1 e
sign_read false n e = ne_eqb (n % 2) 1 (λ (h : n % 2 ≡ 1). omega arith)

sign_small : (negative : Bool) → (provided negative then 1 else 0) ≤ 1
sign_small negative = by_test (λ (n : ℕ). n ≤ 1) negative _ _ (λ e. omega arith) (λ e. omega arith)

-- decoding a word that was built gives back what it was built of
pub decode_build : (negative : Bool) (size shifted : ℕ) → shifted < 128 → decimal_of (value_word negative size shifted) ≡ record { negative = negative; size = size; shifted = shifted }
unfolding decimal_of value_word
decode_build negative size shifted h =
    let b : (provided negative then 1 else 0) ≤ 1 = sign_small negative in
    let e : (256 * size + 2 * shifted + (provided negative then 1 else 0)) % 2 ≡ (provided negative then 1 else 0) = omega arith in
    let f : (256 * size + 2 * shifted + (provided negative then 1 else 0)) / 256 ≡ size = omega arith in
    let q : (256 * size + 2 * shifted + (provided negative then 1 else 0)) / 2 ≡ 128 * size + shifted = omega arith in
    let r : (128 * size + shifted) % 128 ≡ shifted = omega arith in
    let g : (256 * size + 2 * shifted + (provided negative then 1 else 0)) / 2 % 128 ≡ shifted = rw q r in
    λ i. record { negative = sign_read negative (256 * size + 2 * shifted + (provided negative then 1 else 0)) e i; size = f i; shifted = g i }

sign_build : (n : ℕ) → (provided eqb (n % 2) 1 then 1 else 0) ≡ n % 2
sign_build n =
    by_test (λ (m : ℕ). m ≡ n % 2) (eqb (n % 2) 1) _ _
    (λ (e : eqb (n % 2) 1 ≡ true). let h : n % 2 ≡ 1 = eqb-true (n % 2) 1 e in omega arith)
    (λ (e : eqb (n % 2) 1 ≡ false). let h : n % 2 ≡ 1 → ⊥ = eqb-false (n % 2) 1 e in omega arith)

-- building from what a word decodes to gives the word, whatever it is
pub build_decode : (w : ℕ) → value_word (decimal_of w).negative (decimal_of w).size (decimal_of w).shifted ≡ w
unfolding decimal_of value_word
build_decode w =
    let b : (provided eqb (w % 2) 1 then 1 else 0) ≡ w % 2 = sign_build w in
    omega arith

-- the word of a non-zero number: "at most 15 digits in m, k from -60 to 60", "m not ending in 0", with either sign
pub record Written (w : ℕ) : Type 0 where
  pub negative : Bool
  pub size : ℕ
  pub shifted : ℕ
  pub word : w ≡ value_word negative size shifted
  pub some : 1 ≤ size
  pub few : size ≤ 999_999_999_999_999
  pub trimmed : size % 10 ≡ 0 → ⊥
  pub low : 4 ≤ shifted
  pub high : shifted ≤ 124

-- the word of such a number decodes to its parts
pub decoded : (w : ℕ) (k : Written w) → decimal_of w ≡ record { negative = k.negative; size = k.size; shifted = k.shifted }
decoded w k =
    let s : k.shifted < 128 = omega (arith, k.high) in
    ap decimal_of k.word ∙ decode_build k.negative k.size k.shifted s

decimal_parts : (d : Decimal) → is_decimal d ≡ true → (1 ≤ d.size) × (d.size ≤ 999_999_999_999_999) × (d.size % 10 ≡ 0 → ⊥) × (4 ≤ d.shifted) × (d.shifted ≤ 124)
unfolding is_decimal within
decimal_parts d e =
    let a : both (leb 1 d.size) (leb d.size 999_999_999_999_999) ≡ true = both_first _ _ e in
    let r : both (not (eqb (d.size % 10) 0)) (both (leb 4 d.shifted) (leb d.shifted 124)) ≡ true = both_second _ _ e in
    let b : both (leb 4 d.shifted) (leb d.shifted 124) ≡ true = both_second _ _ r in (
      leb-true 1 d.size (both_first _ _ a),
      leb-true d.size 999_999_999_999_999 (both_second _ _ a),
      eqb-false (d.size % 10) 0 (not-true (eqb (d.size % 10) 0) (both_first _ _ r)),
      leb-true 4 d.shifted (both_first _ _ b),
      leb-true d.shifted 124 (both_second _ _ b),
    )

decimal_made : (d : Decimal) → 1 ≤ d.size → d.size ≤ 999_999_999_999_999 → (d.size % 10 ≡ 0 → ⊥) → 4 ≤ d.shifted → d.shifted ≤ 124 → is_decimal d ≡ true
unfolding is_decimal within
decimal_made d a b n c e = search ifs

-- a value word is the word of zero ("zero is m 0, k 0") or of such a number
pub word_says : (w : ℕ) → is_value_word w ≡ true → (w ≡ zero_word) ⊎ Written w
unfolding is_value_word
word_says w e =
    by_cases _ (eqb w zero_word)
    (λ (z : eqb w zero_word ≡ true). inl (eqb-true w zero_word z))
    (λ (z : eqb w zero_word ≡ false).
    let p : (1 ≤ (decimal_of w).size) × ((decimal_of w).size ≤ 999_999_999_999_999) × ((decimal_of w).size % 10 ≡ 0 → ⊥) × (4 ≤ (decimal_of w).shifted) × ((decimal_of w).shifted ≤ 124) = decimal_parts (decimal_of w) (sym (either_rest _ _ z) ∙ e) in
    inr (record { negative = (decimal_of w).negative; size = (decimal_of w).size; shifted = (decimal_of w).shifted; word = sym (build_decode w); some = p.0; few = p.1; trimmed = p.2; low = p.3; high = p.4 }))

pub word_zero : (w : ℕ) → w ≡ zero_word → is_value_word w ≡ true
unfolding is_value_word
word_zero w e = either_left _ _ (eq-eqb w zero_word e)

-- the word of every such number is a value word
pub word_written : (w : ℕ) → Written w → is_value_word w ≡ true
unfolding is_value_word
word_written w k =
    either_right _ _ (ap is_decimal (decoded w k) ∙ decimal_made (record { negative = k.negative; size = k.size; shifted = k.shifted }) k.some k.few k.trimmed k.low k.high)

pub word_told : (w : ℕ) → ((w ≡ zero_word) ⊎ Written w) → is_value_word w ≡ true
word_told w k = ⊎_elim (word_zero w) (word_written w) k

written_below : (w : ℕ) → Written w → w < 2 ^ 58
unfolding value_word
written_below w k =
    let b : (provided k.negative then 1 else 0) ≤ 1 = sign_small k.negative in
    let v : w ≡ 256 * k.size + 2 * k.shifted + (provided k.negative then 1 else 0) = k.word in
    omega (arith, k.few, k.high)

-- so no value word uses the upper six bits
pub word_below : (w : ℕ) → is_value_word w ≡ true → w < 2 ^ 58
word_below w e = ⊎_elim (λ (z : w ≡ zero_word). omega arith) (written_below w) (word_says w e)
