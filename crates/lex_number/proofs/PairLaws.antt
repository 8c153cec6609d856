-- Laws of numbers side by side in one word: which bytes are digits, by their high halves, and the number that digits
-- write, by combining them in pairs. Each law is over a list, so that it serves four digits and eight.
-- Assumes nothing.
use mathlib.Core.Path.{◌≡◌, refl, sym, ◌∙◌, ap, ap₂}
use mathlib.Core.Bool.{Bool, true, false, true≢false}
use mathlib.Core.List.{List, [], ◌∷◌}
use Prim.Native.Nat.{ℕ, zero, suc, ◌+◌, ◌-◌, ◌*◌, ◌/◌, ◌%◌, ◌^◌, ◌≤◌, ◌<◌}
use native.Mathlib.Nat.{mod-lt, mod-le, mod-eq_of_lt, lt_of_lt_of_le, le-add_right, mul-le-mul_left, mul-le-mul_right, pow-suc}
use mir.Syntax.{w64}
use mir.Val.{Fits}
use native.Mathlib.Omega.{arith}
use lib.Bits.{bit_and, and_block, and_mask, and_high, and_le_r, and_zero_r}
use lib.Pow.{pow_pos, pow_mono, pow-add, split, high, low, mod-mod-pow, ones_lt}
use lib.ListN.{length}
use lib.Dec.{eqb}
use borrow.Author.Tests.{eqb-true, le-leb, leb-true}
use Rattle.base.specs.Bytes.{is_digit, within}
use Rattle.base.specs.Runs.{all}
use Rattle.base.specs.Way.Joined.{joined, is_byte, Joins}
use Rattle.base.proofs.IfLaws.{both_true, both_first, both_second}
use Rattle.base.proofs.RunLaws.{all_nil, all_cons}
use Rattle.base.proofs.JoinedLaws.{joined_nil, joined_cons, byte_below}
use Rattle.lex_number.specs.Integer.{value_of}
use Rattle.lex_number.specs.Way.Block.{bytes_of, AreDigits, paired_digits}
use Rattle.lex_number.proofs.DigitLaws.{digit_from, digit_to}

-- ---- the bytes of a word

all_first : (p : ℕ → Bool) (b : ℕ) (s : List ℕ) → all p (b ∷ s) ≡ true → p b ≡ true
all_first p b s e = both_first _ _ (sym (all_cons p b s) ∙ e)

all_rest : (p : ℕ → Bool) (b : ℕ) (s : List ℕ) → all p (b ∷ s) ≡ true → all p s ≡ true
all_rest p b s e = both_second _ _ (sym (all_cons p b s) ∙ e)

all_more : (p : ℕ → Bool) (b : ℕ) (s : List ℕ) → p b ≡ true → all p s ≡ true → all p (b ∷ s) ≡ true
all_more p b s e f = all_cons p b s ∙ both_true _ _ e f

-- bytes that are joined are the bytes of the word
bytes_joined : (s : List ℕ) → all is_byte s ≡ true → bytes_of (length s) (joined s) ≡ s
unfolding bytes_of
bytes_joined [] small = refl
bytes_joined (b ∷ s) small =
    let h : b < 256 = byte_below b (all_first is_byte b s small) in
    let low : (b + 256 * joined s) % 256 ≡ b = omega arith in
    let high : (b + 256 * joined s) / 256 ≡ joined s = omega arith in
    rw (joined_cons b s, low, high) (ap (λ (r : List ℕ). b ∷ r) (bytes_joined s (all_rest is_byte b s small)))

pub bytes_are : (n word : ℕ) (s : List ℕ) → length s ≡ n → Joins s word → bytes_of n word ≡ s
bytes_are n word s long joins = rw (← long, joins.word) (bytes_joined s joins.bytes)

-- a word of n bytes is the number that its bytes make
joined_bytes : (n word : ℕ) → word < 256 ^ n → joined (bytes_of n word) ≡ word
unfolding bytes_of
joined_bytes zero word h = joined_nil ∙ (let e : 0 ≡ word = omega arith in e)
joined_bytes (suc n) word h =
    let p : 256 ^ suc n ≡ 256 ^ n * 256 = pow-suc 256 n in
    let e : joined (bytes_of n (word / 256)) ≡ word / 256 = joined_bytes n (word / 256) (omega arith) in
    joined_cons (word % 256) (bytes_of n (word / 256)) ∙ (let f : word % 256 + 256 * joined (bytes_of n (word / 256)) ≡ word = omega arith in f)

-- ---- digits by their halves

-- a word whose bytes are all the same
unfoldable alike : ℕ → ℕ → ℕ
alike zero b = 0
alike (suc n) b = b + 256 * alike n b

-- a byte whose high half is 3
three_high : (b : ℕ) → b < 256 → bit_and b 240 ≡ 48 → within 48 63 b ≡ true
unfolding within
three_high b h e =
    let k : bit_and b 240 ≡ b / 16 % 16 * 16 = and_high b 4 4 in
    let m : b / 16 % 16 * 16 ≡ 48 = sym k ∙ e in
    let few : b / 16 < 16 = omega arith in
    let three : b / 16 ≡ 3 = omega (arith, mod-eq_of_lt few) in
    let low : 48 ≤ b = omega arith in
    let high : b ≤ 63 = omega arith in
    both_true _ _ (le-leb 48 b low) (le-leb b 63 high)

-- bytes whose high halves are all 3
threes_high : (n word : ℕ) → bit_and word (alike n 240) ≡ alike n 48 → all (within 48 63) (bytes_of n word) ≡ true
unfolding bytes_of alike
threes_high zero word e = all_nil (within 48 63)
threes_high (suc n) word e =
    let parts : bit_and word (240 + 256 * alike n 240) ≡ bit_and (word / 256) (alike n 240) * 256 + bit_and (word % 256) 240 = by_byte word (alike n 240) in
    let top : bit_and (word % 256) 240 ≤ 240 = and_le_r (word % 256) 240 in
    let same : bit_and (word / 256) (alike n 240) * 256 + bit_and (word % 256) 240 ≡ 48 + 256 * alike n 48 = sym parts ∙ e in
    let first : bit_and (word % 256) 240 ≡ 48 = omega arith in
    let rest : bit_and (word / 256) (alike n 240) ≡ alike n 48 = omega arith in
    all_more (within 48 63) (word % 256) (bytes_of n (word / 256)) (three_high (word % 256) (omega arith) first) (threes_high n (word / 256) rest)
  where
    by_byte : (word mask : ℕ) → bit_and word (240 + 256 * mask) ≡ bit_and (word / 256) mask * 256 + bit_and (word % 256) 240
    by_byte word mask =
        let a : word ≡ word / 256 * 256 + word % 256 = omega arith in
        let m : 240 + 256 * mask ≡ mask * 256 + 240 = omega arith in
        ap₂ bit_and a m ∙ and_block 8 (word / 256) mask (word % 256) 240 (omega arith) (omega arith)

module _ (b : ℕ) where
  within_low : within 48 63 b ≡ true → 48 ≤ b
  unfolding within
  within_low e = leb-true 48 b (both_first _ _ e)

  within_high : within 48 63 b ≡ true → b ≤ 63
  unfolding within
  within_high e = leb-true b 63 (both_second _ _ e)

  is_digit_lem : 48 ≤ b → b ≤ 57 → is_digit b ≡ true
  unfolding is_digit within
  is_digit_lem h k = both_true _ _ (le-leb 48 b h) (le-leb b 57 k)

-- bytes whose high halves are 3, also after 6 is added, are digits
six_more : (n word : ℕ) → all (within 48 63) (bytes_of n word) ≡ true → all (within 48 63) (bytes_of n (word + alike n 6)) ≡ true → all is_digit (bytes_of n word) ≡ true
unfolding bytes_of alike
six_more zero word e f = all_nil is_digit
six_more (suc n) word e f =
    let low : 48 ≤ word % 256 = within_low (word % 256) (all_first (within 48 63) (word % 256) (bytes_of n (word / 256)) e) in
    let most : word % 256 ≤ 63 = within_high (word % 256) (all_first (within 48 63) (word % 256) (bytes_of n (word / 256)) e) in
    let first : (word + (6 + 256 * alike n 6)) % 256 ≡ word % 256 + 6 = omega arith in
    let rest : (word + (6 + 256 * alike n 6)) / 256 ≡ word / 256 + alike n 6 = omega arith in
    let g : all (within 48 63) ((word % 256 + 6) ∷ bytes_of n (word / 256 + alike n 6)) ≡ true = rw (first, rest) at f in
    let less : word % 256 + 6 ≤ 63 = within_high (word % 256 + 6) (all_first (within 48 63) (word % 256 + 6) (bytes_of n (word / 256 + alike n 6)) g) in
    all_more is_digit (word % 256) (bytes_of n (word / 256)) (is_digit_lem (word % 256) low (omega arith)) (six_more n (word / 256) (all_rest (within 48 63) (word % 256) (bytes_of n (word / 256)) e) (all_rest (within 48 63) (word % 256 + 6) (bytes_of n (word / 256 + alike n 6)) g))

-- bytes of at most 63 each make a word of at most that many bytes of 63
most_alike : (n word : ℕ) → all (within 48 63) (bytes_of n word) ≡ true → word < 256 ^ n → word ≤ alike n 63
unfolding bytes_of alike
most_alike zero word e h = omega arith
most_alike (suc n) word e h =
    let p : 256 ^ suc n ≡ 256 ^ n * 256 = pow-suc 256 n in
    let most : word % 256 ≤ 63 = within_high (word % 256) (all_first (within 48 63) (word % 256) (bytes_of n (word / 256)) e) in
    let k : word / 256 ≤ alike n 63 = most_alike n (word / 256) (all_rest (within 48 63) (word % 256) (bytes_of n (word / 256)) e) (omega arith) in
    omega arith

-- ---- numbers side by side

-- numbers side by side in one word, each `width` bits wide
unfoldable side : ℕ → List ℕ → ℕ
side width [] = 0
side width (x ∷ s) = x + 2 ^ width * side width s

-- the numbers combined in pairs
unfoldable pairs : ℕ → List ℕ → List ℕ
pairs factor [] = []
pairs factor (x ∷ []) = []
pairs factor (x ∷ (y ∷ s)) = (factor * x + y) ∷ pairs factor s

-- the mask that keeps every other number, beginning with the first
unfoldable evens : ℕ → List ℕ → ℕ
evens width [] = 0
evens width (x ∷ []) = 0
evens width (x ∷ (y ∷ s)) = evens width s * 2 ^ (width + width) + (2 ^ width - 1)

-- none of them is greater than m
data Small (m : ℕ) : List ℕ → Type 0 where
  small_none : Small m []
  small_more : (x : ℕ) (s : List ℕ) → x ≤ m → Small m s → Small m (x ∷ s)

unfoldable fill : ℕ → List ℕ → List ℕ
fill m [] = []
fill m (x ∷ s) = m ∷ fill m s

side_most : (width m : ℕ) {s : List ℕ} → Small m s → side width s ≤ side width (fill m s)
unfolding side fill
side_most width m small_none = omega arith
side_most width m (small_more x s h k) =
    let e : 2 ^ width * side width s ≤ 2 ^ width * side width (fill m s) = mul-le-mul_left (2 ^ width) (side_most width m k) in
    omega arith

-- the mask's lowest number keeps the low bits of a word, and the rest of the mask meets the rest of the word
low_field : (k y e : ℕ) → bit_and y (e * 2 ^ (k + k) + (2 ^ k - 1)) ≡ bit_and (y / 2 ^ (k + k)) e * 2 ^ (k + k) + y % 2 ^ k
low_field k y e =
    ap (λ (n : ℕ). bit_and n (e * 2 ^ (k + k) + (2 ^ k - 1))) (sym (split y (k + k)))
    ∙ and_block (k + k) (y / 2 ^ (k + k)) e (y % 2 ^ (k + k)) (2 ^ k - 1) (mod-lt y (pow_pos (k + k))) (lt_of_lt_of_le (ones_lt k) (pow_mono (le-add_right k k)))
    ∙ ap (λ (n : ℕ). bit_and (y / 2 ^ (k + k)) e * 2 ^ (k + k) + n) (and_mask (y % 2 ^ (k + k)) k ∙ mod-mod-pow y k k)

-- sums of products, by what they are of a number and its square
sum_low : (f x y j t b : ℕ) → t ≡ y + b * j → f * (x + b * t) + t ≡ (f * t + j) * b + (f * x + y)
sum_low f x y j t b e = omega arith

sum_high : (f x y j q r b : ℕ) → j ≡ q * b + r → f * (x + b * (y + b * j)) + (y + b * j) ≡ (f * j + q) * (b * b) + ((f * y + r) * b + (f * x + y))
sum_high f x y j q r b e = omega (arith, ap (λ (n : ℕ). b * n) e)

below_square : (a r b : ℕ) → a < b → r < b → a * b + r < b * b
below_square a r b h k =
    let e : suc a * b ≤ b * b = mul-le-mul_right b h in
    omega arith

-- what a width has to satisfy: for numbers up to m, the first times the factor plus the second still fits
record Width (width factor m top : ℕ) : Type 0 where
  fits : m < 2 ^ width
  most : (x y : ℕ) → x ≤ m → y ≤ m → factor * x + y ≤ top
  below : top < 2 ^ width

width_ones : Width 8 10 9 99
width_ones = record { fits = omega arith; most = λ x y h k. omega arith; below = omega arith }

width_twos : Width 16 100 99 9_999
width_twos = record { fits = omega arith; most = λ x y h k. omega arith; below = omega arith }

width_fours : Width 32 10_000 9_999 99_999_999
width_fours = record { fits = omega arith; most = λ x y h k. omega arith; below = omega arith }

module _ (width factor m top : ℕ) (w : Width width factor m top) where
  -- the first of them, and the others
  first_of : (x j : ℕ) → x ≤ m → (x + 2 ^ width * j) % 2 ^ width ≡ x
  first_of x j h =
      let k : m < 2 ^ width = w.fits in
      let e : x + 2 ^ width * j ≡ j * 2 ^ width + x = omega arith in
      rw e (low j width (omega arith))

  others_of : (x j : ℕ) → x ≤ m → (x + 2 ^ width * j) / 2 ^ width ≡ j
  others_of x j h =
      let k : m < 2 ^ width = w.fits in
      let e : x + 2 ^ width * j ≡ j * 2 ^ width + x = omega arith in
      rw e (high j width (omega arith))

  pair_fits : (x y : ℕ) → x ≤ m → y ≤ m → factor * x + y < 2 ^ width
  pair_fits x y h k =
      let a : factor * x + y ≤ top = w.most x y h k in
      let b : top < 2 ^ width = w.below in
      omega arith

  module _ (x y j : ℕ) (h : x ≤ m) (k : y ≤ m) where
    sum_first : (factor * (x + 2 ^ width * (y + 2 ^ width * j)) + (x + 2 ^ width * (y + 2 ^ width * j)) / 2 ^ width) % 2 ^ width ≡ factor * x + y
    sum_first =
        rw (others_of x (y + 2 ^ width * j) h, sum_low factor x y j (y + 2 ^ width * j) (2 ^ width) refl)
        (low (factor * (y + 2 ^ width * j) + j) width (pair_fits x y h k))

    sum_others : j % 2 ^ width ≤ m → (factor * (x + 2 ^ width * (y + 2 ^ width * j)) + (x + 2 ^ width * (y + 2 ^ width * j)) / 2 ^ width) / 2 ^ (width + width) ≡ factor * j + j / 2 ^ width
    sum_others l =
        let e : factor * (x + 2 ^ width * (y + 2 ^ width * j)) + (y + 2 ^ width * j) ≡ (factor * j + j / 2 ^ width) * (2 ^ width * 2 ^ width) + ((factor * y + j % 2 ^ width) * 2 ^ width + (factor * x + y)) = sum_high factor x y j (j / 2 ^ width) (j % 2 ^ width) (2 ^ width) (sym (split j width)) in
        let p : 2 ^ (width + width) ≡ 2 ^ width * 2 ^ width = pow-add 2 width width in
        let s : (factor * y + j % 2 ^ width) * 2 ^ width + (factor * x + y) < 2 ^ width * 2 ^ width = below_square (factor * y + j % 2 ^ width) (factor * x + y) (2 ^ width) (pair_fits y (j % 2 ^ width) k l) (pair_fits x y h k) in
        rw (others_of x (y + 2 ^ width * j) h, e, ← p) (high (factor * j + j / 2 ^ width) (width + width) (rw p s))

  side_first : {s : List ℕ} → Small m s → side width s % 2 ^ width ≤ m
  unfolding side
  side_first small_none = omega (arith, mod-le 0 (2 ^ width))
  side_first (small_more x s h k) = rw (first_of x (side width s) h) h

  pairs_small : {s : List ℕ} → Small m s → Small top (pairs factor s)
  unfolding pairs
  pairs_small small_none = small_none
  pairs_small (small_more x s h small_none) = small_none
  pairs_small (small_more x s h (small_more y t k l)) = small_more (factor * x + y) (pairs factor t) (w.most x y h k) (pairs_small l)

  pairs_are : {s : List ℕ} → Small m s → bit_and (factor * side width s + side width s / 2 ^ width) (evens width s) ≡ side (width + width) (pairs factor s)
  unfolding side pairs evens
  pairs_are small_none = and_zero_r (factor * 0 + 0 / 2 ^ width)
  pairs_are (small_more x s h small_none) = and_zero_r (factor * (x + 2 ^ width * 0) + (x + 2 ^ width * 0) / 2 ^ width)
  pairs_are (small_more x s h (small_more y t k l)) =
      low_field width (factor * (x + 2 ^ width * (y + 2 ^ width * side width t)) + (x + 2 ^ width * (y + 2 ^ width * side width t)) / 2 ^ width) (evens width t)
      ∙ ap₂ (λ (a b : ℕ). a * 2 ^ (width + width) + b) (ap (λ (n : ℕ). bit_and n (evens width t)) (sum_others x y (side width t) h k (side_first l)) ∙ pairs_are l) (sum_first x y (side width t) h k)
      ∙ turned (side (width + width) (pairs factor t)) (2 ^ (width + width)) (factor * x + y)
    where
      turned : (a b c : ℕ) → a * b + c ≡ c + b * a
      turned a b c = omega arith

-- ---- the number that digits write

-- the value of each digit
unfoldable ones : List ℕ → List ℕ
ones [] = []
ones (b ∷ s) = (b - 48) ∷ ones s

ones_small : (s : List ℕ) → all is_digit s ≡ true → Small 9 (ones s)
unfolding ones
ones_small [] e = small_none
ones_small (b ∷ s) e =
    let h : b ≤ 57 = digit_to b (all_first is_digit b s e) in
    small_more (b - 48) (ones s) (omega arith) (ones_small s (all_rest is_digit b s e))

-- a word of digits is a word of bytes `0` plus the values of the digits
digits_joined : (s : List ℕ) → all is_digit s ≡ true → joined s ≡ alike (length s) 48 + side 8 (ones s)
unfolding alike side ones
digits_joined [] e = joined_nil
digits_joined (b ∷ s) e =
    let h : 48 ≤ b = digit_from b (all_first is_digit b s e) in
    let k : joined s ≡ alike (length s) 48 + side 8 (ones s) = digits_joined s (all_rest is_digit b s e) in
    joined_cons b s ∙ (let f : b + 256 * joined s ≡ 48 + 256 * alike (length s) 48 + (b - 48 + 256 * side 8 (ones s)) = omega arith in f)

bytes_length : (n word : ℕ) → length (bytes_of n word) ≡ n
unfolding bytes_of
bytes_length zero word = refl
bytes_length (suc n) word = ap suc (bytes_length n (word / 256))

digits_word : (n word : ℕ) → word < 256 ^ n → all is_digit (bytes_of n word) ≡ true → word ≡ alike n 48 + side 8 (ones (bytes_of n word))
digits_word n word h e = sym (joined_bytes n word h) ∙ digits_joined (bytes_of n word) e ∙ ap (λ (k : ℕ). alike k 48 + side 8 (ones (bytes_of n word))) (bytes_length n word)

-- the steps of the code, for numbers s side by side in a word
module _ (s : List ℕ) (small : Small 9 s) where
  twos_small : Small 99 (pairs 10 s)
  twos_small = pairs_small 8 10 9 99 width_ones small

  fours_small : Small 9_999 (pairs 100 (pairs 10 s))
  fours_small = pairs_small 16 100 99 9_999 width_twos twos_small

  module _ (a : ℕ) (one : a ≡ side 8 s) where
    ones_most : a ≤ side 8 (fill 9 s)
    ones_most = rw one (side_most 8 9 small)

    module _ (b : ℕ) (two : b ≡ paired_digits a 8 10 (evens 8 s)) where
      twos_are : b ≡ side 16 (pairs 10 s)
      unfolding paired_digits
      twos_are = two ∙ ap (λ (n : ℕ). bit_and (10 * n + n / 2 ^ 8) (evens 8 s)) one ∙ pairs_are 8 10 9 99 width_ones small

      twos_most : b ≤ side 16 (fill 99 (pairs 10 s))
      twos_most = rw twos_are (side_most 16 99 twos_small)

      module _ (c : ℕ) (four : c ≡ paired_digits b 16 100 (evens 16 (pairs 10 s))) where
        fours_are : c ≡ side 32 (pairs 100 (pairs 10 s))
        unfolding paired_digits
        fours_are = four ∙ ap (λ (n : ℕ). bit_and (100 * n + n / 2 ^ 16) (evens 16 (pairs 10 s))) twos_are ∙ pairs_are 16 100 99 9_999 width_twos twos_small

        fours_most : c ≤ side 32 (fill 9_999 (pairs 100 (pairs 10 s)))
        fours_most = rw fours_are (side_most 32 9_999 fours_small)

        module _ (d : ℕ) (eight : d ≡ paired_digits c 32 10_000 (evens 32 (pairs 100 (pairs 10 s)))) where
          eights_are : d ≡ side 64 (pairs 10_000 (pairs 100 (pairs 10 s)))
          unfolding paired_digits
          eights_are = eight ∙ ap (λ (n : ℕ). bit_and (10_000 * n + n / 2 ^ 32) (evens 32 (pairs 100 (pairs 10 s)))) fours_are ∙ pairs_are 32 10_000 9_999 99_999_999 width_fours fours_small

          eights_most : d ≤ side 64 (fill 99_999_999 (pairs 10_000 (pairs 100 (pairs 10 s))))
          eights_most = rw eights_are (side_most 64 99_999_999 (pairs_small 32 10_000 9_999 99_999_999 width_fours fours_small))

-- ---- as `are_eight`, `eight_value`, `are_four` and `four_value` use them

module _ (word : ℕ) (threes : bit_and word 0xf0f0_f0f0_f0f0_f0f0 ≡ 0x3030_3030_3030_3030) where
  eight_high : all (within 48 63) (bytes_of 8 word) ≡ true
  unfolding alike
  eight_high = threes_high 8 word threes

  pub eight_sum : word < 2 ^ 64 → Fits w64 (word + 0x0606_0606_0606_0606)
  unfolding alike
  eight_sum h =
      let k : word ≤ 0x3f3f_3f3f_3f3f_3f3f = most_alike 8 word eight_high h in
      omega arith

  pub eight_digits : AreDigits 8 word (eqb (bit_and (word + 0x0606_0606_0606_0606) 0xf0f0_f0f0_f0f0_f0f0) 0x3030_3030_3030_3030)
  unfolding alike
  eight_digits = record { are_digits = λ (e : eqb (bit_and (word + 0x0606_0606_0606_0606) 0xf0f0_f0f0_f0f0_f0f0) 0x3030_3030_3030_3030 ≡ true). six_more 8 word eight_high (threes_high 8 (word + 0x0606_0606_0606_0606) (eqb-true (bit_and (word + 0x0606_0606_0606_0606) 0xf0f0_f0f0_f0f0_f0f0) 0x3030_3030_3030_3030 e)) }

module _ (word : ℕ) (threes : bit_and word 0xf0f0_f0f0 ≡ 0x3030_3030) where
  pub four_digits : AreDigits 4 word (eqb (bit_and (word + 0x0606_0606) 0xf0f0_f0f0) 0x3030_3030)
  unfolding alike
  four_digits = record { are_digits = λ (e : eqb (bit_and (word + 0x0606_0606) 0xf0f0_f0f0) 0x3030_3030 ≡ true). six_more 4 word (threes_high 4 word threes) (threes_high 4 (word + 0x0606_0606) (eqb-true (bit_and (word + 0x0606_0606) 0xf0f0_f0f0) 0x3030_3030 e)) }

eight_number : (a b c d e f g h : ℕ) → 10 * (10 * (10 * (10 * (10 * (10 * (10 * (10 * 0 + a) + b) + c) + d) + e) + f) + g) + h ≡ 10_000 * (100 * (10 * a + b) + (10 * c + d)) + (100 * (10 * e + f) + (10 * g + h)) + 2 ^ 64 * 0
eight_number a b c d e f g h = omega arith

four_number : (a b c d : ℕ) → 10 * (10 * (10 * (10 * 0 + a) + b) + c) + d ≡ 100 * (10 * a + b) + (10 * c + d) + 2 ^ 32 * 0
four_number a b c d = omega arith

module _ (word : ℕ) (digits : all is_digit (bytes_of 8 word) ≡ true) (fits : word < 2 ^ 64) where
  eight_is : word ≡ 0x3030_3030_3030_3030 + side 8 (ones (bytes_of 8 word))
  unfolding alike
  eight_is = digits_word 8 word fits digits

  eight_ones : word - 0x3030_3030_3030_3030 ≡ side 8 (ones (bytes_of 8 word))
  eight_ones =
      let e : word ≡ 0x3030_3030_3030_3030 + side 8 (ones (bytes_of 8 word)) = eight_is in
      omega arith

  eight_small : Small 9 (ones (bytes_of 8 word))
  eight_small = ones_small (bytes_of 8 word) digits

  pub eight_above : 0x3030_3030_3030_3030 ≤ word
  eight_above =
      let e : word ≡ 0x3030_3030_3030_3030 + side 8 (ones (bytes_of 8 word)) = eight_is in
      omega arith

  pub eight_ones_fit : 10 * (word - 0x3030_3030_3030_3030) + (word - 0x3030_3030_3030_3030) / 2 ^ 8 < 18_446_744_073_709_551_616
  unfolding bytes_of ones fill side
  eight_ones_fit =
      let e : word - 0x3030_3030_3030_3030 ≤ 0x0909_0909_0909_0909 = ones_most (ones (bytes_of 8 word)) eight_small (word - 0x3030_3030_3030_3030) eight_ones in
      omega arith

  module _ (twos : ℕ) (two : twos ≡ paired_digits (word - 0x3030_3030_3030_3030) 8 10 0x00ff_00ff_00ff_00ff) where
    pub eight_twos_fit : 100 * twos + twos / 2 ^ 16 < 18_446_744_073_709_551_616
    unfolding bytes_of ones pairs evens fill side
    eight_twos_fit =
        let e : twos ≤ 0x0063_0063_0063_0063 = twos_most (ones (bytes_of 8 word)) eight_small (word - 0x3030_3030_3030_3030) eight_ones twos two in
        omega arith

    module _ (fours : ℕ) (four : fours ≡ paired_digits twos 16 100 0x0000_ffff_0000_ffff) where
      pub eight_fours_fit : 10_000 * fours + fours / 2 ^ 32 < 18_446_744_073_709_551_616
      unfolding bytes_of ones pairs evens fill side
      eight_fours_fit =
          let e : fours ≤ 0x0000_270f_0000_270f = fours_most (ones (bytes_of 8 word)) eight_small (word - 0x3030_3030_3030_3030) eight_ones twos two fours four in
          omega arith

      module _ (r : ℕ) (eight : r ≡ paired_digits fours 32 10_000 0xffff_ffff) where
        pub eight_value_lem : r ≡ value_of 0 (bytes_of 8 word)
        unfolding bytes_of ones pairs evens side value_of
        eight_value_lem = eights_are (ones (bytes_of 8 word)) eight_small (word - 0x3030_3030_3030_3030) eight_ones twos two fours four r eight ∙ sym (eight_number _ _ _ _ _ _ _ _)

        pub eight_few : r < 100_000_000
        unfolding bytes_of ones pairs evens fill side
        eight_few =
            let e : r ≤ 99_999_999 = eights_most (ones (bytes_of 8 word)) eight_small (word - 0x3030_3030_3030_3030) eight_ones twos two fours four r eight in
            omega arith

module _ (word : ℕ) (digits : all is_digit (bytes_of 4 word) ≡ true) (fits : word < 2 ^ 32) where
  four_is : word ≡ 0x3030_3030 + side 8 (ones (bytes_of 4 word))
  unfolding alike
  four_is = digits_word 4 word fits digits

  four_ones : word - 0x3030_3030 ≡ side 8 (ones (bytes_of 4 word))
  four_ones =
      let e : word ≡ 0x3030_3030 + side 8 (ones (bytes_of 4 word)) = four_is in
      omega arith

  four_small : Small 9 (ones (bytes_of 4 word))
  four_small = ones_small (bytes_of 4 word) digits

  pub four_above : 0x3030_3030 ≤ word
  four_above =
      let e : word ≡ 0x3030_3030 + side 8 (ones (bytes_of 4 word)) = four_is in
      omega arith

  module _ (twos : ℕ) (two : twos ≡ paired_digits (word - 0x3030_3030) 8 10 0x00ff_00ff) where
    pub four_twos_fit : 100 * twos + twos / 2 ^ 16 < 18_446_744_073_709_551_616
    unfolding bytes_of ones pairs evens fill side
    four_twos_fit =
        let e : twos ≤ 0x0063_0063 = twos_most (ones (bytes_of 4 word)) four_small (word - 0x3030_3030) four_ones twos two in
        omega arith

    module _ (r : ℕ) (four : r ≡ paired_digits twos 16 100 0xffff) where
      pub four_value_lem : r ≡ value_of 0 (bytes_of 4 word)
      unfolding bytes_of ones pairs evens side value_of
      four_value_lem = fours_are (ones (bytes_of 4 word)) four_small (word - 0x3030_3030) four_ones twos two r four ∙ sym (four_number _ _ _ _)

      pub four_few : r < 10_000
      unfolding bytes_of ones pairs evens fill side
      four_few =
          let e : r ≤ 9_999 = fours_most (ones (bytes_of 4 word)) four_small (word - 0x3030_3030) four_ones twos two r four in
          omega arith
