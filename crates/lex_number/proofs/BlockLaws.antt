-- Laws of digits read in blocks: n steps of a run at once. Each law holds for any n.
-- Assumes nothing.
use mathlib.Core.Path.{◌≡◌, refl, sym, ◌∙◌, ap}
use mathlib.Core.Bool.{Bool, true, false}
use mathlib.Core.List.{List, [], ◌∷◌}
use Prim.Native.Nat.{ℕ, zero, suc, ◌+◌, ◌-◌, ◌*◌, ◌^◌, ◌≤◌, ◌<◌}
use mir.Syntax.{w64}
use mir.Val.{Fits}
use native.Mathlib.Nat.{pow-suc}
use native.Mathlib.Omega.{arith}
use lib.ListN.{length, take, drop, get_or, length-drop}
use lib.Seq.{drop-drop, length-take-le}
use Rattle.base.specs.If.{both}
use Rattle.base.specs.Bytes.{is_digit}
use Rattle.base.specs.Runs.{run, all}
use Rattle.base.specs.Way.Joined.{Joins}
use Rattle.base.proofs.IfLaws.{both_first, both_second}
use Rattle.base.proofs.RunLaws.{all_cons, run_block}
use Rattle.lex_number.specs.declared.fast.Run.{Run}
use Rattle.lex_number.specs.Integer.{value_of}
use Rattle.lex_number.specs.Way.Capped.{exponent_cap}
use Rattle.lex_number.specs.Way.At.{run_from, weight, RunRead}
use Rattle.lex_number.specs.Way.Block.{bytes_of, AreDigits}
use Rattle.lex_number.proofs.SizeLaws.{size_on, size_goes}
use Rattle.lex_number.proofs.PlainLaws.{runs_same, weight_above, weight_more}
use Rattle.lex_number.proofs.TrimLaws.{power_some}
use Rattle.lex_number.proofs.PairLaws.{bytes_are}

-- ---- the number that a block of digits writes

block_step : (p v d : ℕ) → p * (10 * v + d) ≡ p * 10 * v + p * d
block_step p v d = omega arith

-- the number of earlier digits is multiplied by ten for each digit that follows
value_from : (s : List ℕ) (v : ℕ) → value_of v s ≡ 10 ^ length s * v + value_of 0 s
unfolding value_of
value_from [] v = omega arith
value_from (b ∷ s) v =
    let e : value_of (10 * v + (b - 48)) s ≡ 10 ^ length s * (10 * v + (b - 48)) + value_of 0 s = value_from s (10 * v + (b - 48)) in
    let f : value_of (10 * 0 + (b - 48)) s ≡ 10 ^ length s * (10 * 0 + (b - 48)) + value_of 0 s = value_from s (10 * 0 + (b - 48)) in
    let p : 10 ^ suc (length s) ≡ 10 ^ length s * 10 = pow-suc 10 (length s) in
    let g : 10 ^ length s * (10 * v + (b - 48)) ≡ 10 ^ length s * 10 * v + 10 ^ length s * (b - 48) = block_step (10 ^ length s) v (b - 48) in
    let k : 10 ^ length s * (10 * 0 + (b - 48)) ≡ 10 ^ length s * 10 * 0 + 10 ^ length s * (b - 48) = block_step (10 ^ length s) 0 (b - 48) in
    rw p (sums (value_of (10 * v + (b - 48)) s) (value_of (10 * 0 + (b - 48)) s) (10 ^ length s * 10) v (10 ^ length s * (b - 48)) (value_of 0 s) (e ∙ ap (λ (n : ℕ). n + value_of 0 s) g) (f ∙ ap (λ (n : ℕ). n + value_of 0 s) k))
  where
    sums : (a c p v q r : ℕ) → a ≡ p * v + q + r → c ≡ p * 0 + q + r → a ≡ p * v + c
    sums a c p v q r e f = omega arith

-- after n digits the run goes on with the number read so far
size_block : (n : ℕ) (x : List ℕ) (v : ℕ) → n ≤ length x → all is_digit (take n x) ≡ true → size_on x v ≡ size_on (drop n x) (value_of v (take n x))
unfolding value_of
size_block zero x v h e = refl
size_block (suc n) [] v h e = absurd (omega arith)
size_block (suc n) (b ∷ x) v h e =
    let k : both (is_digit b) (all is_digit (take n x)) ≡ true = sym (all_cons is_digit b (take n x)) ∙ e in
    size_goes b x v (both_first _ _ k) ∙ size_block n x (10 * v + (b - 48)) (omega arith) (both_second _ _ k)

module _ (n : ℕ) (s : List ℕ) (from before : ℕ) (room : from + n ≤ length s) (digits : all is_digit (take n (drop from s)) ≡ true) where
  rest_room : n ≤ length (drop from s)
  rest_room =
      let l : length (drop from s) ≡ length s - from = length-drop from s in
      omega arith

  block_value : value_of before (take n (drop from s)) ≡ 10 ^ n * before + value_of 0 (take n (drop from s))
  block_value = value_from (take n (drop from s)) before ∙ ap (λ (k : ℕ). 10 ^ k * before + value_of 0 (take n (drop from s))) (length-take-le n (drop from s) rest_room)

  block_run : run is_digit (drop from s) ≡ n + run is_digit (drop (from + n) s)
  block_run = run_block is_digit n (drop from s) rest_room digits ∙ ap (λ (x : List ℕ). n + run is_digit x) (drop-drop n from s)

  run_later : run_from s (from + n) (10 ^ n * before + value_of 0 (take n (drop from s))) ≡ run_from s from before
  unfolding run_from size_on
  run_later =
      let e : from + n + run is_digit (drop (from + n) s) ≡ from + run is_digit (drop from s) = omega (arith, block_run) in
      runs_same _ _
      (sym (size_block n (drop from s) before rest_room digits
      ∙ ap (λ (x : List ℕ). size_on x (value_of before (take n (drop from s)))) (drop-drop n from s)
      ∙ ap (size_on (drop (from + n) s)) block_value))
      e
      (ap (λ (k : ℕ). get_or s k 0) e)

-- ---- as `read_part` and `read_four` use them

module _ (n from stop before value : ℕ) (inside : from + n ≤ stop) (few : value < 10 ^ n) where
  block_light : weight (10 ^ n * before + value) (from + n) stop ≤ weight before from stop
  block_light = weight_more before from stop n value inside few

  module _ (room : weight before from stop ≤ exponent_cap) where
    pub block_room : weight (10 ^ n * before + value) (from + n) stop ≤ exponent_cap
    block_room =
        let a : weight (10 ^ n * before + value) (from + n) stop ≤ weight before from stop = block_light in
        omega arith

    pub block_fits : Fits w64 (10 ^ n * before + value)
    block_fits =
        let a : weight (10 ^ n * before + value) (from + n) stop ≤ exponent_cap = block_room in
        let b : 10 ^ n * before + value < weight (10 ^ n * before + value) (from + n) stop = weight_above (10 ^ n * before + value) (from + n) stop in
        omega arith

  pub block_read : (s : List ℕ) (word : ℕ) (t : Bool) (r : Run) → stop < length s → Joins (take n (drop from s)) word → AreDigits n word t → t ≡ true → value ≡ value_of 0 (bytes_of n word) → RunRead s (from + n) stop (10 ^ n * before + value) r → RunRead s from stop before r
  block_read s word t r short joins told on is read =
      let l : length (drop from s) ≡ length s - from = length-drop from s in
      let same : bytes_of n word ≡ take n (drop from s) = bytes_are n word (take n (drop from s)) (length-take-le n (drop from s) (omega arith)) joins in
      let digits : all is_digit (take n (drop from s)) ≡ true = rw same at (told.are_digits on) in
      let v : value ≡ value_of 0 (take n (drop from s)) = rw same at is in
      let w : run_from s (from + n) (10 ^ n * before + value) ≡ run_from s from before = rw v (run_later n s from before (omega arith) digits) in
      let a : weight r.value r.end stop ≤ weight (10 ^ n * before + value) (from + n) stop = read.run_light in
      let b : weight (10 ^ n * before + value) (from + n) stop ≤ weight before from stop = block_light in
      let c : from + n ≤ r.end = read.run_forward in
      let d : r.end - (from + n) ≤ stop - (from + n) = read.run_short in
      record {
        run_next = read.run_next;
        run_whole = λ (e : is_digit r.next ≡ false). read.run_whole e ∙ w;
        run_full = read.run_full;
        run_light = omega arith;
        run_forward = omega arith;
        run_short = omega arith;
      }

pub block_told : (n word : ℕ) (t : Bool) → AreDigits n word t → t ≡ true → all is_digit (bytes_of n word) ≡ true
block_told n word t told on = told.are_digits on

pub before_fits : (n from stop before : ℕ) → from + n ≤ stop → weight before from stop ≤ exponent_cap → Fits w64 (10 ^ n * before)
before_fits n from stop before inside room =
    let a : Fits w64 (10 ^ n * before + 0) = block_fits n from stop before 0 inside (power_some n) room in
    omega arith
