-- Laws of eight bytes in one number. One bit of doubt for each byte is clear only if the byte is content. The zeros
-- below the lowest bit of doubt count how many bytes at the front are content.
-- Assumes nothing.
use mathlib.Core.Path.{◌≡◌, refl, sym, ◌∙◌, ap}
use mathlib.Core.Bool.{true, false}
use mathlib.Core.List.{List, [], ◌∷◌}
use Prim.Native.Nat.{ℕ, zero, suc, ◌+◌, ◌-◌, ◌*◌, ◌/◌, ◌%◌, ◌^◌, ◌≤◌, ◌<◌}
use native.Mathlib.Nat.{zero-add, suc-add, pow-suc, mul_comm, mul_assoc}
use native.Mathlib.Omega.{arith}
use lib.ListN.{length, take, drop, length-drop}
use lib.Seq.{length-take-le, drop-drop, take-take}
use lib.Bits.{bit_and, bit_or, and_block, or_block, and_le_l, and_le_r, and_mask, and_high, or_add_and, or_lt}
use lib.Count.{count_trailing_zeros, trailing_le, under}
use lib.Dec.{ltb}
use borrow.Author.Tests.{ne_eqb, ltb-true, ltb-false}
use Rattle.base.specs.If.{both}
use Rattle.base.specs.Runs.{run, all}
use Rattle.base.specs.Way.Class.{run_end}
use Rattle.base.specs.Bytes.{is_before, is_content}
use Rattle.base.specs.Way.Joined.{joined, is_byte, Joins}
use Rattle.base.proofs.IfLaws.{by_cases, both_true, both_first, both_second, not_via}
use Rattle.base.proofs.RunLaws.{all_nil, all_cons, run_block}
use Rattle.base.proofs.JoinedLaws.{joined_cons, byte_below}
use Rattle.lex_line.specs.Lines.{comment_byte}

-- ---- a byte in front of others

and_pair : (r a s b : ℕ) → r < 256 → s < 256 → bit_and (r + 256 * a) (s + 256 * b) ≡ bit_and r s + 256 * bit_and a b
and_pair r a s b hr hs =
    let x : r + 256 * a ≡ a * 256 + r = omega arith in
    let y : s + 256 * b ≡ b * 256 + s = omega arith in
    let e : bit_and (a * 256 + r) (b * 256 + s) ≡ bit_and a b * 256 + bit_and r s = and_block 8 a b r s hr hs in
    ap (λ (n : ℕ). bit_and n (s + 256 * b)) x ∙ ap (bit_and (a * 256 + r)) y ∙ e ∙ omega arith

or_pair : (r a s b : ℕ) → r < 256 → s < 256 → bit_or (r + 256 * a) (s + 256 * b) ≡ bit_or r s + 256 * bit_or a b
or_pair r a s b hr hs =
    let x : r + 256 * a ≡ a * 256 + r = omega arith in
    let y : s + 256 * b ≡ b * 256 + s = omega arith in
    let e : bit_or (a * 256 + r) (b * 256 + s) ≡ bit_or a b * 256 + bit_or r s = or_block 8 a b r s hr hs in
    ap (λ (n : ℕ). bit_or n (s + 256 * b)) x ∙ ap (bit_or (a * 256 + r)) y ∙ e ∙ omega arith

-- ---- the bit of doubt

-- the bits of doubt of a number, by the masks of its width
abbrev pub doubt_by : ℕ → ℕ → ℕ → ℕ → ℕ → ℕ
doubt_by low high least beyond w = bit_or (high - bit_and (bit_and w low + least) high) (bit_and (bit_and w low + beyond) high)

-- the bit of doubt of one byte, and the bits of n bytes in one number
doubt_of : ℕ → ℕ
doubt_of b = doubt_by 127 128 114 4 b

mask : ℕ → ℕ → ℕ
mask zero c = 0
mask (suc n) c = c + 256 * mask n c

doubts : ℕ → ℕ → ℕ
doubts n w = doubt_by (mask n 127) (mask n 128) (mask n 114) (mask n 4) w

low_small : (b : ℕ) → bit_and b 127 ≤ 127
low_small b = and_le_r b 127

-- a byte in front of others: its own bit, then theirs
doubt_pair : (b w low high least beyond : ℕ) → b < 256 →
    doubt_by (127 + 256 * low) (128 + 256 * high) (114 + 256 * least) (4 + 256 * beyond) (b + 256 * w)
    ≡ doubt_by 127 128 114 4 b + 256 * doubt_by low high least beyond w
doubt_pair b w low high least beyond h =
    let l : bit_and (b + 256 * w) (127 + 256 * low) ≡ bit_and b 127 + 256 * bit_and w low = and_pair b w 127 low h (omega arith) in
    let small : bit_and b 127 ≤ 127 = low_small b in
    let f : bit_and (b + 256 * w) (127 + 256 * low) + (114 + 256 * least) ≡ bit_and b 127 + 114 + 256 * (bit_and w low + least) = omega arith in
    let g : bit_and (b + 256 * w) (127 + 256 * low) + (4 + 256 * beyond) ≡ bit_and b 127 + 4 + 256 * (bit_and w low + beyond) = omega arith in
    let a : bit_and (bit_and (b + 256 * w) (127 + 256 * low) + (114 + 256 * least)) (128 + 256 * high)
    ≡ bit_and (bit_and b 127 + 114) 128 + 256 * bit_and (bit_and w low + least) high =
    ap (λ (n : ℕ). bit_and n (128 + 256 * high)) f ∙ and_pair (bit_and b 127 + 114) (bit_and w low + least) 128 high (omega arith) (omega arith) in
    let c : bit_and (bit_and (b + 256 * w) (127 + 256 * low) + (4 + 256 * beyond)) (128 + 256 * high)
    ≡ bit_and (bit_and b 127 + 4) 128 + 256 * bit_and (bit_and w low + beyond) high =
    ap (λ (n : ℕ). bit_and n (128 + 256 * high)) g ∙ and_pair (bit_and b 127 + 4) (bit_and w low + beyond) 128 high (omega arith) (omega arith) in
    let p : bit_and (bit_and b 127 + 114) 128 ≤ 128 = and_le_r (bit_and b 127 + 114) 128 in
    let q : bit_and (bit_and w low + least) high ≤ high = and_le_r (bit_and w low + least) high in
    let r : bit_and (bit_and b 127 + 4) 128 ≤ 128 = and_le_r (bit_and b 127 + 4) 128 in
    let s : 128 + 256 * high - bit_and (bit_and (b + 256 * w) (127 + 256 * low) + (114 + 256 * least)) (128 + 256 * high)
    ≡ 128 - bit_and (bit_and b 127 + 114) 128 + 256 * (high - bit_and (bit_and w low + least) high) = omega arith in
    ap (λ (n : ℕ). bit_or n (bit_and (bit_and (b + 256 * w) (127 + 256 * low) + (4 + 256 * beyond)) (128 + 256 * high))) s
    ∙ ap (bit_or (128 - bit_and (bit_and b 127 + 114) 128 + 256 * (high - bit_and (bit_and w low + least) high))) c
    ∙ or_pair (128 - bit_and (bit_and b 127 + 114) 128) (high - bit_and (bit_and w low + least) high) (bit_and (bit_and b 127 + 4) 128)
    (bit_and (bit_and w low + beyond) high) (omega arith) (omega arith)

doubts_more : (n b w : ℕ) → b < 256 → doubts (suc n) (b + 256 * w) ≡ doubt_of b + 256 * doubts n w
unfolding doubts mask doubt_of
doubts_more n b w h = doubt_pair b w (mask n 127) (mask n 128) (mask n 114) (mask n 4) h

-- ---- a byte without doubt

none_of : (a b : ℕ) → bit_or a b ≡ 0 → (a ≡ 0) × (b ≡ 0)
none_of a b e =
    let s : bit_or a b + bit_and a b ≡ a + b = or_add_and a b in
    let l : bit_and a b ≤ a = and_le_l a b in
    let r : bit_and a b ≤ b = and_le_r a b in
    (omega arith, omega arith)

high_bit : (n : ℕ) → bit_and n 128 ≡ n / 128 % 2 * 128
high_bit n = and_high n 1 7

before_other : (stop b : ℕ) → (b ≡ stop → ⊥) → is_before stop b ≡ true
unfolding is_before
before_other stop b h = not_via (ne_eqb b stop h)

between : (b l : ℕ) → b < 256 → l ≡ b % 128 → 14 ≤ l → l < 124 → is_content comment_byte b ≡ true
unfolding is_content
between b l h e f g =
    both_true _ _ (before_other 124 b (λ (z : b ≡ 124). omega arith))
    (both_true _ _ (before_other 10 b (λ (z : b ≡ 10). omega arith)) (before_other 13 b (λ (z : b ≡ 13). omega arith)))

not_beyond : (l : ℕ) → l ≤ 127 → (l + 4) / 128 % 2 * 128 ≡ 0 → l < 124
not_beyond l h e =
    by_cases _ (ltb l 124) (λ (f : ltb l 124 ≡ true). ltb-true _ _ f)
    (λ (f : ltb l 124 ≡ false).
    let g : 124 ≤ l = ltb-false _ _ f in
    let d : (l + 4) / 128 ≡ 1 = omega arith in
    let z : (l + 4) / 128 % 2 * 128 ≡ 128 = ap (λ (k : ℕ). k % 2 * 128) d in
    absurd (omega arith))

doubt_small : (b : ℕ) → doubt_of b < 256
unfolding doubt_of
doubt_small b =
    let r : bit_and (bit_and b 127 + 4) 128 ≤ 128 = and_le_r (bit_and b 127 + 4) 128 in
    or_lt 8 (128 - bit_and (bit_and b 127 + 114) 128) (bit_and (bit_and b 127 + 4) 128) (omega arith) (omega arith)

sure_content : (b : ℕ) → b < 256 → doubt_of b ≡ 0 → is_content comment_byte b ≡ true
unfolding doubt_of
sure_content b h e =
    let l : bit_and b 127 ≡ b % 128 = and_mask b 7 in
    let small : bit_and b 127 ≤ 127 = low_small b in
    let x : bit_and (bit_and b 127 + 114) 128 ≡ (bit_and b 127 + 114) / 128 % 2 * 128 = high_bit (bit_and b 127 + 114) in
    let y : bit_and (bit_and b 127 + 4) 128 ≡ (bit_and b 127 + 4) / 128 % 2 * 128 = high_bit (bit_and b 127 + 4) in
    let k : (128 - bit_and (bit_and b 127 + 114) 128 ≡ 0) × (bit_and (bit_and b 127 + 4) 128 ≡ 0) = none_of (128 - bit_and (bit_and b 127 + 114) 128) (bit_and (bit_and b 127 + 4) 128) e in
    let p : 128 - bit_and (bit_and b 127 + 114) 128 ≡ 0 = k.0 in
    let q : bit_and (bit_and b 127 + 4) 128 ≡ 0 = k.1 in
    between b (bit_and b 127) h l (omega arith) (not_beyond (bit_and b 127) small (sym y ∙ q))

-- ---- zeros below the lowest bit

record Shifted (j k n : ℕ) : Type 0 where
  rest : ℕ
  whole : n ≡ 2 ^ j * rest
  zeros : count_trailing_zeros (j + k) n ≡ j + count_trailing_zeros k rest

tz_one : (k n : ℕ) → 0 < count_trailing_zeros (suc k) n → (n % 2 ≡ 0) × (count_trailing_zeros (suc k) n ≡ suc (count_trailing_zeros k (n / 2)))
unfolding count_trailing_zeros
tz_one k n h = go (n % 2) refl h
  where
    go : (r : ℕ) → n % 2 ≡ r → 0 < under r (count_trailing_zeros k (n / 2)) → (n % 2 ≡ 0) × (under r (count_trailing_zeros k (n / 2)) ≡ suc (count_trailing_zeros k (n / 2)))
    go zero e g = (e, refl)
    go (suc r) e g = absurd (omega arith)

tz_many : (j k n : ℕ) → j ≤ count_trailing_zeros (j + k) n → Shifted j k n
tz_many zero k n h =
    record {
      rest = n;
      whole = let e : 1 * n ≡ n = omega arith in sym e;
      zeros = ap (λ (i : ℕ). count_trailing_zeros i n) (zero-add k) ∙ sym (zero-add (count_trailing_zeros k n));
    }
tz_many (suc j) k n h =
    let e : suc j + k ≡ suc (j + k) = suc-add j k in
    let t : count_trailing_zeros (suc j + k) n ≡ count_trailing_zeros (suc (j + k)) n = ap (λ (i : ℕ). count_trailing_zeros i n) e in
    let g : 0 < count_trailing_zeros (suc (j + k)) n = omega arith in
    let o : (n % 2 ≡ 0) × (count_trailing_zeros (suc (j + k)) n ≡ suc (count_trailing_zeros (j + k) (n / 2))) = tz_one (j + k) n g in
    let o_even : n % 2 ≡ 0 = o.0 in
    let o_more : count_trailing_zeros (suc (j + k)) n ≡ suc (count_trailing_zeros (j + k) (n / 2)) = o.1 in
    let s : Shifted j k (n / 2) = tz_many j k (n / 2) (omega arith) in
    let w : n / 2 ≡ 2 ^ j * s.rest = s.whole in
    let z : count_trailing_zeros (j + k) (n / 2) ≡ j + count_trailing_zeros k s.rest = s.zeros in
    let d : n ≡ 2 * (n / 2) = omega arith in
    record {
      rest = s.rest;
      whole = d ∙ ap (λ (i : ℕ). 2 * i) w ∙ sym (mul_assoc 2 (2 ^ j) s.rest) ∙ ap (λ (i : ℕ). i * s.rest) (mul_comm 2 (2 ^ j) ∙ sym (pow-suc 2 j));
      zeros = omega arith;
    }

-- r whole bytes of zeros mean r bytes of content at the front
sure_run : (s : List ℕ) → all is_byte s ≡ true → (r : ℕ) → 8 * r ≤ count_trailing_zeros (8 * length s) (doubts (length s) (joined s)) →
    all (is_content comment_byte) (take r s) ≡ true
sure_run [] small zero h = all_nil (is_content comment_byte)
sure_run [] small (suc r) h = all_nil (is_content comment_byte)
sure_run (b ∷ s) small zero h = all_nil (is_content comment_byte)
sure_run (b ∷ s) small (suc r) h =
    let hb : both (is_byte b) (all is_byte s) ≡ true = sym (all_cons is_byte b s) ∙ small in
    let bb : b < 256 = byte_below b (both_first _ _ hb) in
    let e : doubts (suc (length s)) (joined (b ∷ s)) ≡ doubt_of b + 256 * doubts (length s) (joined s) =
    ap (doubts (suc (length s))) (joined_cons b s) ∙ doubts_more (length s) b (joined s) bb in
    let l : 8 * suc (length s) ≡ 8 + 8 * length s = omega arith in
    let g : 8 * suc r ≤ count_trailing_zeros (8 + 8 * length s) (doubt_of b + 256 * doubts (length s) (joined s)) = rw (e, l) at h in
    let m : Shifted 8 (8 * length s) (doubt_of b + 256 * doubts (length s) (joined s)) = tz_many 8 (8 * length s) _ (omega arith) in
    let w : doubt_of b + 256 * doubts (length s) (joined s) ≡ 256 * m.rest = m.whole in
    let k : doubt_of b < 256 = doubt_small b in
    let z : doubt_of b ≡ 0 = omega arith in
    let q : m.rest ≡ doubts (length s) (joined s) = omega arith in
    let v : count_trailing_zeros (8 + 8 * length s) (doubt_of b + 256 * doubts (length s) (joined s)) ≡ 8 + count_trailing_zeros (8 * length s) m.rest = m.zeros in
    let u : count_trailing_zeros (8 * length s) m.rest ≡ count_trailing_zeros (8 * length s) (doubts (length s) (joined s)) =
    ap (count_trailing_zeros (8 * length s)) q in
    all_cons (is_content comment_byte) b (take r s)
    ∙ both_true _ _ (sure_content b bb z) (sure_run s (both_second _ _ hb) r (omega arith))

-- ---- eight bytes of a text

abbrev pub eight_doubts : ℕ → ℕ
eight_doubts w = doubt_by 0x7f7f_7f7f_7f7f_7f7f 0x8080_8080_8080_8080 0x7272_7272_7272_7272 0x0404_0404_0404_0404 w

eight_doubts_lem : (w : ℕ) → doubts 8 w ≡ eight_doubts w
unfolding doubts mask
eight_doubts_lem w = refl

module _ (t : List ℕ) (at w r : ℕ) (room : at + 8 ≤ length t) (joins : Joins (take 8 (drop at t)) w)
    (told : r ≡ count_trailing_zeros 64 (eight_doubts w) / 8) where
  sure_few : r ≤ 8
  sure_few =
      let l : count_trailing_zeros 64 (eight_doubts w) ≤ 64 = trailing_le 64 (eight_doubts w) in
      omega arith

  sure_all : all (is_content comment_byte) (take r (drop at t)) ≡ true
  sure_all =
      let d : length (drop at t) ≡ length t - at = length-drop at t in
      let n : length (take 8 (drop at t)) ≡ 8 = length-take-le 8 (drop at t) (omega arith) in
      let e : doubts (length (take 8 (drop at t))) (joined (take 8 (drop at t))) ≡ doubts 8 w =
      ap (λ (k : ℕ). doubts k (joined (take 8 (drop at t)))) n ∙ ap (doubts 8) (sym joins.word) in
      let g : count_trailing_zeros (8 * length (take 8 (drop at t))) (doubts (length (take 8 (drop at t))) (joined (take 8 (drop at t))))
      ≡ count_trailing_zeros 64 (eight_doubts w) =
      ap (λ (k : ℕ). count_trailing_zeros (8 * k) (doubts (length (take 8 (drop at t))) (joined (take 8 (drop at t))))) n
      ∙ ap (count_trailing_zeros 64) (e ∙ eight_doubts_lem w) in
      let h : all (is_content comment_byte) (take r (take 8 (drop at t))) ≡ true =
      sure_run (take 8 (drop at t)) joins.bytes r (omega arith) in
      ap (all (is_content comment_byte)) (sym (take-take r 8 (drop at t) sure_few)) ∙ h

  pub sure_told : (r ≤ 8) × (all (is_content comment_byte) (take r (drop at t)) ≡ true)
  sure_told = (sure_few, sure_all)

-- a loop that skips r bytes of content stays in the content
pub sure_on : (t : List ℕ) (i r end : ℕ) → 8 ≤ length t - i → i ≤ length t → r ≤ 8 → all (is_content comment_byte) (take r (drop i t)) ≡ true →
    run_end (is_content comment_byte) t i ≡ end → run_end (is_content comment_byte) t (i + r) ≡ end
sure_on t i r end room h few a inv =
    let l : length (drop i t) ≡ length t - i = length-drop i t in
    let g : r ≤ length (drop i t) = omega arith in
    let k : run (is_content comment_byte) (drop i t) ≡ r + run (is_content comment_byte) (drop r (drop i t)) = run_block (is_content comment_byte) r (drop i t) g a in
    let d : drop r (drop i t) ≡ drop (i + r) t = drop-drop r i t in
    let m : run (is_content comment_byte) (drop i t) ≡ r + run (is_content comment_byte) (drop (i + r) t) = rw d at k in
    omega arith

-- the same for all eight bytes: r is 8 if it is not less
pub sure_whole : (t : List ℕ) (i r end : ℕ) → 8 ≤ length t - i → i ≤ length t → r ≤ 8 → 8 ≤ r → all (is_content comment_byte) (take r (drop i t)) ≡ true →
    run_end (is_content comment_byte) t i ≡ end → run_end (is_content comment_byte) t (i + 8) ≡ end
sure_whole t i r end room h few many a inv =
    let e : r ≡ 8 = omega arith in
    ap (λ (k : ℕ). run_end (is_content comment_byte) t (i + k)) (sym e) ∙ sure_on t i r end room h few a inv

-- the same for what is left of a text, whose first eight bytes they are
module _ (t rest eight : List ℕ) (r end : ℕ) (inside : length rest ≤ length t) (ends : rest ≡ drop (length t - length rest) t) (room : 8 ≤ length rest)
    (is : eight ≡ take 8 rest) (few : r ≤ 8) (a : all (is_content comment_byte) (take r eight) ≡ true)
    (inv : run_end (is_content comment_byte) t (length t - length rest) ≡ end) where
  surely_there : all (is_content comment_byte) (take r (drop (length t - length rest) t)) ≡ true
  surely_there =
      let front : take r eight ≡ take r (drop (length t - length rest) t) = ap (take r) is ∙ take-take r 8 rest few ∙ ap (take r) ends in
      rw front at a

  pub rest_on : run_end (is_content comment_byte) t (length t - length rest + r) ≡ end
  rest_on = sure_on t (length t - length rest) r end (omega arith) (omega arith) few surely_there inv

  pub rest_behind : (behind : List ℕ) → behind ≡ drop 8 rest → 8 ≤ r →
      (length behind ≤ length t) × (behind ≡ drop (length t - length behind) t) × (run_end (is_content comment_byte) t (length t - length behind) ≡ end)
  rest_behind behind is_behind many =
      let l : length behind ≡ length rest - 8 = ap length is_behind ∙ length-drop 8 rest in
      let place : length t - length rest + 8 ≡ length t - length behind = omega arith in
      let d : behind ≡ drop (length t - length behind) t = is_behind ∙ ap (drop 8) ends ∙ drop-drop 8 (length t - length rest) t ∙ ap (λ (i : ℕ). drop i t) place in
      (omega arith, d, rw place at (sure_whole t (length t - length rest) r end (omega arith) (omega arith) few many surely_there inv))

pub zeros_fit : (w : ℕ) → count_trailing_zeros 64 (eight_doubts w) ≤ 64
zeros_fit w = trailing_le 64 (eight_doubts w)
