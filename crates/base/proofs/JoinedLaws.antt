-- Laws of several bytes as one number. The main one: equally many bytes that make the same number are the same bytes.
-- Assumes nothing.
use mathlib.Core.Path.{◌≡◌, refl, sym, ◌∙◌, ap}
use mathlib.Core.Bool.{Bool, true}
use mathlib.Core.List.{List, [], ◌∷◌, ◌++◌}
use Prim.Native.Nat.{ℕ, suc, ◌+◌, ◌*◌, ◌^◌, ◌≤◌, ◌<◌}
use native.Mathlib.Nat.{mul-add, mul_assoc, mul_comm, pow-suc}
use native.Mathlib.Omega.{arith}
use native.Mathlib.Numerals.{add-one}
use lib.ListN.{length, take, drop, get_or, length-drop, take-append-drop}
use lib.Seq.{drop-cons, drop-drop, length-take-le, take-append-add}
use borrow.Author.Tests.{lt-ltb, ltb-true}
use Rattle.base.specs.If.{both}
use Rattle.base.specs.Runs.{all}
use Rattle.base.specs.Way.Joined.{joined, is_byte, Joins}
use Rattle.base.proofs.IfLaws.{both_true, both_first, both_second}
use Rattle.base.proofs.RunLaws.{all_nil, all_cons}

pub joined_nil : joined [] ≡ 0
unfolding joined
joined_nil = refl

pub joined_cons : (b : ℕ) (s : List ℕ) → joined (b ∷ s) ≡ b + 256 * joined s
unfolding joined
joined_cons b s = refl

pub byte_below : (b : ℕ) → is_byte b ≡ true → b < 256
unfolding is_byte
byte_below b e = ltb-true b 256 e

pub below_byte : (b : ℕ) → b < 256 → is_byte b ≡ true
unfolding is_byte
below_byte b h = lt-ltb b 256 h

-- no bytes, and one byte in front of others
pub joins_nil : Joins [] 0
joins_nil = record { word = sym joined_nil; bytes = all_nil is_byte }

pub joins_cons : (b : ℕ) (s : List ℕ) (r : ℕ) → b < 256 → Joins s r → Joins (b ∷ s) (b + 256 * r)
joins_cons b s r h inner =
    record {
      word = ap (λ (k : ℕ). b + 256 * k) inner.word ∙ sym (joined_cons b s);
      bytes = all_cons is_byte b s ∙ both_true _ _ (below_byte b h) inner.bytes;
    }

-- the first bytes of a rest: one byte, then the first bytes of the next rest
take_on : (n : ℕ) (s : List ℕ) (i : ℕ) → i < length s → take (suc n) (drop i s) ≡ get_or s i 0 ∷ take n (drop (i + 1) s)
take_on n s i h = rw (add-one, drop-cons s i 0 h) refl

joins_on : (n : ℕ) (s : List ℕ) (i b r : ℕ) → i < length s → b ≡ get_or s i 0 → b < 256 → Joins (take n (drop (i + 1) s)) r →
    Joins (take (suc n) (drop i s)) (b + 256 * r)
joins_on n s i b r h e small inner = rw (take_on n s i h, sym e) (joins_cons b (take n (drop (i + 1) s)) r small inner)

four_parts : (a b c d : ℕ) → a + 256 * (b + 256 * (c + 256 * (d + 256 * 0))) ≡ a + 256 * b + 65_536 * (c + 256 * d)
four_parts a b c d = omega arith

pub four_joined : (s : List ℕ) (at a b c d : ℕ) → at + 4 ≤ length s → a ≡ get_or s at 0 → a < 256 → b ≡ get_or s (at + 1) 0 → b < 256 →
    c ≡ get_or s (at + 2) 0 → c < 256 → d ≡ get_or s (at + 3) 0 → d < 256 →
    Joins (take 4 (drop at s)) (a + 256 * b + 65_536 * (c + 256 * d))
four_joined s at a b c d room is_a small_a is_b small_b is_c small_c is_d small_d =
    let two : at + 1 + 1 ≡ at + 2 = omega arith in
    let three : at + 2 + 1 ≡ at + 3 = omega arith in
    let one_on : Joins (take 1 (drop (at + 3) s)) (d + 256 * 0) = joins_on 0 s (at + 3) d 0 (omega arith) is_d small_d joins_nil in
    let two_on : Joins (take 2 (drop (at + 2) s)) (c + 256 * (d + 256 * 0)) =
    joins_on 1 s (at + 2) c (d + 256 * 0) (omega arith) is_c small_c (rw three one_on) in
    let three_on : Joins (take 3 (drop (at + 1) s)) (b + 256 * (c + 256 * (d + 256 * 0))) =
    joins_on 2 s (at + 1) b (c + 256 * (d + 256 * 0)) (omega arith) is_b small_b (rw two two_on) in
    let four_on : Joins (take 4 (drop at s)) (a + 256 * (b + 256 * (c + 256 * (d + 256 * 0)))) =
    joins_on 3 s at a (b + 256 * (c + 256 * (d + 256 * 0))) (omega arith) is_a small_a three_on in
    rw (four_parts a b c d) at four_on

-- ---- bytes followed by bytes

all_append : (p : ℕ → Bool) (xs ys : List ℕ) → all p xs ≡ true → all p ys ≡ true → all p (xs ++ ys) ≡ true
all_append p [] ys e g = g
all_append p (x ∷ xs) ys e g =
    let h : both (p x) (all p xs) ≡ true = sym (all_cons p x xs) ∙ e in
    all_cons p x (xs ++ ys) ∙ both_true _ _ (both_first _ _ h) (all_append p xs ys (both_second _ _ h) g)

shifted : (b j n k : ℕ) → b + 256 * (j + n * k) ≡ b + 256 * j + 256 * n * k
shifted b j n k = ap (λ (m : ℕ). b + m) (mul-add 256 j (n * k)) ∙ add_assoc_to b j n k
  where
    add_assoc_to : (b j n k : ℕ) → b + (256 * j + 256 * (n * k)) ≡ b + 256 * j + 256 * n * k
    add_assoc_to b j n k =
        let e : 256 * (n * k) ≡ 256 * n * k = sym (mul_assoc 256 n k) in
        omega (arith, e)

joined_append : (xs ys : List ℕ) → joined (xs ++ ys) ≡ joined xs + 256 ^ length xs * joined ys
joined_append [] ys =
    let e : joined [] ≡ 0 = joined_nil in
    rw e (omega arith)
joined_append (x ∷ xs) ys =
    joined_cons x (xs ++ ys) ∙ ap (λ (k : ℕ). x + 256 * k) (joined_append xs ys) ∙ shifted x (joined xs) (256 ^ length xs) (joined ys)
    ∙ ap (λ (k : ℕ). k + 256 * 256 ^ length xs * joined ys) (sym (joined_cons x xs))
    ∙ ap (λ (k : ℕ). joined (x ∷ xs) + k * joined ys) (mul_comm 256 (256 ^ length xs) ∙ sym (pow-suc 256 (length xs)))

pub eight_joined : (s : List ℕ) (at a b : ℕ) → at + 8 ≤ length s → Joins (take 4 (drop at s)) a → Joins (take 4 (drop (at + 4) s)) b →
    Joins (take 8 (drop at s)) (a + 4_294_967_296 * b)
eight_joined s at a b room first second =
    let long : length (take 4 (drop at s)) ≡ 4 = length-take-le 4 (drop at s) (rw (length-drop at s) (omega arith)) in
    let parts : take 8 (drop at s) ≡ take 4 (drop at s) ++ take 4 (drop (at + 4) s) = take_both s at long in
    rw parts
    (record {
      word = sums first.word second.word ∙ sym (joined_append (take 4 (drop at s)) (take 4 (drop (at + 4) s)) ∙ raised long);
      bytes = all_append is_byte (take 4 (drop at s)) (take 4 (drop (at + 4) s)) first.bytes second.bytes;
    })
  where
    sums : a ≡ joined (take 4 (drop at s)) → b ≡ joined (take 4 (drop (at + 4) s)) →
        a + 4_294_967_296 * b ≡ joined (take 4 (drop at s)) + 4_294_967_296 * joined (take 4 (drop (at + 4) s))
    sums e g = rw (e, g) refl

    raised : length (take 4 (drop at s)) ≡ 4 →
        joined (take 4 (drop at s)) + 256 ^ length (take 4 (drop at s)) * joined (take 4 (drop (at + 4) s))
        ≡ joined (take 4 (drop at s)) + 4_294_967_296 * joined (take 4 (drop (at + 4) s))
    raised e = ap (λ (n : ℕ). joined (take 4 (drop at s)) + 256 ^ n * joined (take 4 (drop (at + 4) s))) e

    take_both : (s : List ℕ) (at : ℕ) → length (take 4 (drop at s)) ≡ 4 → take 8 (drop at s) ≡ take 4 (drop at s) ++ take 4 (drop (at + 4) s)
    take_both s at long =
        ap (take 8) (sym (take-append-drop 4 (drop at s)))
        ∙ ap (λ (n : ℕ). take n (take 4 (drop at s) ++ drop 4 (drop at s))) (ap (λ (k : ℕ). k + 4) (sym long))
        ∙ take-append-add (take 4 (drop at s)) (drop 4 (drop at s)) 4
        ∙ ap (λ (r : List ℕ). take 4 (drop at s) ++ take 4 r) (drop-drop 4 at s)

-- ---- the same number, the same bytes

pub joined_same : (xs ys : List ℕ) → length xs ≡ length ys → all is_byte xs ≡ true → all is_byte ys ≡ true → joined xs ≡ joined ys → xs ≡ ys
joined_same [] [] long small_x small_y e = refl
joined_same [] (y ∷ ys) long small_x small_y e = absurd (let z : 0 ≡ suc (length ys) = long in omega arith)
joined_same (x ∷ xs) [] long small_x small_y e = absurd (let z : suc (length xs) ≡ 0 = long in omega arith)
joined_same (x ∷ xs) (y ∷ ys) long small_x small_y e =
    let hx : both (is_byte x) (all is_byte xs) ≡ true = sym (all_cons is_byte x xs) ∙ small_x in
    let hy : both (is_byte y) (all is_byte ys) ≡ true = sym (all_cons is_byte y ys) ∙ small_y in
    let bx : x < 256 = byte_below x (both_first _ _ hx) in
    let by : y < 256 = byte_below y (both_first _ _ hy) in
    let both_sides : x + 256 * joined xs ≡ y + 256 * joined ys = sym (joined_cons x xs) ∙ e ∙ joined_cons y ys in
    let first : x ≡ y = omega arith in
    let rest : joined xs ≡ joined ys = omega arith in
    let shorter : length xs ≡ length ys = less_one long in
    rw first (ap (λ (r : List ℕ). y ∷ r) (joined_same xs ys shorter (both_second _ _ hx) (both_second _ _ hy) rest))
  where
    less_one : suc (length xs) ≡ suc (length ys) → length xs ≡ length ys
    less_one h = omega arith
