-- Laws of digits read run by run: a run of digits, another run if a point follows, and the exponent. The bytes are so
-- few that nothing is capped.
-- Assumes nothing.
use mathlib.Core.Path.{◌≡◌, refl, sym, ◌∙◌, ap}
use mathlib.Core.Bool.{Bool, true, false, not, true≢false}
use mathlib.Core.List.{List, [], ◌∷◌}
use Prim.Native.Nat.{ℕ, zero, suc, ◌+◌, ◌-◌, ◌*◌, ◌^◌, ◌≤◌, ◌<◌, max}
use mir.Syntax.{w64}
use mir.Val.{Fits}
use native.Mathlib.Nat.{add-zero, add-suc, le_refl, mul-one, mul-add, mul_assoc, mul_comm, mul-le-mul_right, pow-suc, pow-le-pow_right, zero-lt-suc}
use native.Mathlib.Numerals.{add-one}
use native.Mathlib.Omega.{arith}
use lib.ListN.{length, drop, get_or, drop_of_length-le}
use lib.Seq.{drop-cons, drop-drop}
use lib.Dec.{eqb, ltb, leb}
use borrow.Author.Tests.{eq-eqb, ne_eqb, lt-ltb, le-ltb, leb-true, leb-false, ltb-true, ltb-false, not-true, not-false}
use Rattle.base.specs.If.{provided◌then◌else◌, both, either}
use Rattle.base.specs.Bytes.{is_digit, within}
use Rattle.base.specs.Runs.{run}
use Rattle.base.specs.Way.Class.{run_end}
use Rattle.base.proofs.IfLaws.{if_true, if_false, by_cases, by_test, both_not_left, both_not_right, both_rest, either_left, either_right, either_rest, either_false}
use Rattle.base.proofs.RunLaws.{run_goes, run_stops, run_nil, run_end_at, run_on, run_stop, run_past}
use Rattle.lex_number.specs.declared.Digits.{Digits}
use Rattle.lex_number.specs.declared.Exponent.{Exponent}
use Rattle.lex_number.specs.declared.fast.Plain.{Plain}
use Rattle.lex_number.specs.declared.fast.Run.{Run}
use Rattle.lex_number.specs.declared.fast.Reading.{Reading}
use Rattle.lex_number.specs.Number.{is_e, is_sign, is_minus, is_point, past_sign, no_digits, digits_go_on, with_point, with_digit, with_byte, scan, no_exponent, exponent_at, exponent_of}
use Rattle.lex_number.specs.Way.At.{run_from, plain_at, no_reading, reading_at, weight, RunRead, DigitsRead, ExponentRead}
use Rattle.lex_number.specs.Way.Capped.{exponent_cap}
use Rattle.lex_number.proofs.CappedLaws.{scan_goes, scan_stops, scan_ends}
use Rattle.lex_number.proofs.DigitLaws.{digit_from, digit_to}
use Rattle.lex_number.proofs.SizeLaws.{size_on, size_goes, size_stops, size_ends}
use Rattle.lex_number.proofs.ReadLaws.{inside}
use Rattle.lex_number.proofs.TrimLaws.{power_some}

-- ---- the loop over a run of digits

power_more : (m n : ℕ) → m ≤ n → 10 ^ m ≤ 10 ^ n
power_more m n h = pow-le-pow_right (zero-lt-suc 9) h

-- ---- how great a number can become up to `stop`

powers_add : (m n : ℕ) → 10 ^ (m + n) ≡ 10 ^ m * 10 ^ n
powers_add m zero = rw (add-zero m) (sym (mul-one (10 ^ m)))
powers_add m (suc n) = rw (add-suc m n) (pow-suc 10 (m + n) ∙ ap (λ (x : ℕ). x * 10) (powers_add m n) ∙ mul_assoc (10 ^ m) (10 ^ n) 10 ∙ ap (λ (x : ℕ). 10 ^ m * x) (sym (pow-suc 10 n)))

weight_step : (value more m k : ℕ) → more < m → (m * value + more + 1) * k ≤ (value + 1) * (m * k)
weight_step value more m k h =
    let a : (value + 1) * m ≡ m * value + m * 1 = mul_comm (value + 1) m ∙ mul-add m value 1 in
    let b : m * value + more + 1 ≤ (value + 1) * m = omega arith in
    let c : (m * value + more + 1) * k ≤ (value + 1) * m * k = mul-le-mul_right k b in
    rw (mul_assoc (value + 1) m k) at c

module _ (value i stop : ℕ) where
  pub weight_above : value < weight value i stop
  unfolding weight
  weight_above =
      let p : 1 ≤ 10 ^ (stop - i) = power_some (stop - i) in
      let m : 1 * (value + 1) ≤ 10 ^ (stop - i) * (value + 1) = mul-le-mul_right (value + 1) p in
      let c : (value + 1) * 10 ^ (stop - i) ≡ 10 ^ (stop - i) * (value + 1) = mul_comm (value + 1) (10 ^ (stop - i)) in
      omega arith

  -- n more digits
  pub weight_more : (n more : ℕ) → i + n ≤ stop → more < 10 ^ n → weight (10 ^ n * value + more) (i + n) stop ≤ weight value i stop
  unfolding weight
  weight_more n more h k =
      let e : stop - i ≡ n + (stop - (i + n)) = omega arith in
      rw (e, powers_add n (stop - (i + n))) (weight_step value more (10 ^ n) (10 ^ (stop - (i + n))) k)

  weight_on : (digit : ℕ) → i < stop → digit ≤ 9 → weight (10 * value + digit) (i + 1) stop ≤ weight value i stop
  weight_on digit h k = weight_more 1 digit (omega arith) (omega arith)

  -- the point uses one position
  weight_past : weight value (i + 1) stop ≤ weight value i stop
  unfolding weight
  weight_past =
      let p : 10 ^ (stop - (i + 1)) ≤ 10 ^ (stop - i) = power_more (stop - (i + 1)) (stop - i) (omega arith) in
      let m : 10 ^ (stop - (i + 1)) * (value + 1) ≤ 10 ^ (stop - i) * (value + 1) = mul-le-mul_right (value + 1) p in
      rw (mul_comm (value + 1) (10 ^ (stop - (i + 1))), mul_comm (value + 1) (10 ^ (stop - i))) m

weight_first : (from stop n : ℕ) → stop ≤ from + n → weight 0 from stop ≤ 10 ^ n
unfolding weight
weight_first from stop n h =
    let p : 10 ^ (stop - from) ≤ 10 ^ n = power_more (stop - from) n (omega arith) in
    omega arith

pub weight_few : (from n : ℕ) → n ≤ 19 → weight 0 from (from + n) ≤ exponent_cap
weight_few from n h = weight_first from (from + n) 19 (omega arith)

-- one more digit does not wrap
module _ (value i stop before from : ℕ) (room : weight before from stop ≤ exponent_cap) (light : weight value i stop ≤ weight before from stop) (h : i < stop) where
  pub run_digit : (digit : ℕ) → digit ≤ 9 → Fits w64 (10 * value + digit)
  run_digit digit k =
      let a : 10 * value + digit < weight (10 * value + digit) (i + 1) stop = weight_above (10 * value + digit) (i + 1) stop in
      let b : weight (10 * value + digit) (i + 1) stop ≤ weight value i stop = weight_on value i stop digit h k in
      omega arith

  pub run_times : Fits w64 (10 * value)
  run_times =
      let a : Fits w64 (10 * value + 0) = run_digit 0 (omega arith) in
      omega arith

  pub run_lighter : (digit : ℕ) → digit ≤ 9 → weight (10 * value + digit) (i + 1) stop ≤ weight before from stop
  run_lighter digit k =
      let b : weight (10 * value + digit) (i + 1) stop ≤ weight value i stop = weight_on value i stop digit h k in
      omega arith

pub runs_same : (r e : Run) → r.value ≡ e.value → r.end ≡ e.end → r.next ≡ e.next → r ≡ e
runs_same r e a b c = λ i. record { value = a i; end = b i; next = c i }

-- the state of the loop at position i, and how the whole run follows from it
pub record Runs (s : List ℕ) (i value : ℕ) (whole : Run) : Type 0 where
  pub value_left : size_on (drop i s) value ≡ whole.value
  pub end_left : i + run is_digit (drop i s) ≡ whole.end
  pub next_left : get_or s (i + run is_digit (drop i s)) 0 ≡ whole.next

pub runs_start : (s : List ℕ) (from before : ℕ) → Runs s from before (run_from s from before)
unfolding run_from size_on
runs_start s from before = record { value_left = refl; end_left = refl; next_left = refl }

module _ (s : List ℕ) (i value : ℕ) (whole : Run) (inv : Runs s i value whole) where
  runs_done : size_on (drop i s) value ≡ value → run is_digit (drop i s) ≡ 0 → record { value = value; end = i; next = get_or s i 0 } ≡ whole
  runs_done v n =
      let m : i + run is_digit (drop i s) ≡ i = rw n (add-zero i) in
      let e : i ≡ whole.end = sym m ∙ inv.end_left in
      let f : get_or s i 0 ≡ whole.next = ap (λ (k : ℕ). get_or s k 0) (sym m) ∙ inv.next_left in
      runs_same _ _ (sym v ∙ inv.value_left) e f

  runs_past : length s ≤ i → record { value = value; end = i; next = get_or s i 0 } ≡ whole
  runs_past h = runs_done (rw (drop_of_length-le s h) (size_ends value)) (run_past is_digit s i h)

  runs_stop : i < length s → is_digit (get_or s i 0) ≡ false → record { value = value; end = i; next = get_or s i 0 } ≡ whole
  runs_stop h e = runs_done (rw (drop-cons s i 0 h) (size_stops (get_or s i 0) (drop (suc i) s) value e)) (run_stop is_digit s i h e)

  -- also past the end
  runs_none : is_digit (get_or s i 0) ≡ false → record { value = value; end = i; next = get_or s i 0 } ≡ whole
  runs_none e =
      by_cases _ (leb (length s) i)
      (λ (t : leb (length s) i ≡ true). runs_past (leb-true (length s) i t))
      (λ (t : leb (length s) i ≡ false). runs_stop (omega (arith, leb-false (length s) i t)) e)

  -- one digit more
  pub runs_digit : is_digit (get_or s i 0) ≡ true → Runs s (i + 1) (10 * value + (get_or s i 0 - 48)) whole
  unfolding is_digit within both
  runs_digit d =
      let h : i < length s = inside is_digit s i refl d in
      let f : size_on (drop i s) value ≡ size_on (drop (suc i) s) (10 * value + (get_or s i 0 - 48)) = rw (drop-cons s i 0 h) (size_goes (get_or s i 0) (drop (suc i) s) value d) in
      let r : run is_digit (drop i s) ≡ suc (run is_digit (drop (i + 1) s)) = run_on is_digit s i h d in
      let m : i + 1 + run is_digit (drop (i + 1) s) ≡ i + run is_digit (drop i s) = omega arith in
      record {
        value_left = rw (add-one i) (sym f ∙ inv.value_left);
        end_left = m ∙ inv.end_left;
        next_left = ap (λ (n : ℕ). get_or s n 0) m ∙ inv.next_left;
      }

  pub runs_on : (t : Bool) (w : ℕ) → t ≡ is_digit (get_or s i 0) → not t ≡ false → w ≡ get_or s i 0 → Runs s (i + 1) (10 * value + (w - 48)) whole
  runs_on t w told on same = rw same (runs_digit (sym told ∙ not-false t on))

-- the end of the loop
module _ (s : List ℕ) (from stop before i value : ℕ) (start : from ≤ i) (short : i - from ≤ stop - from) (light : weight value i stop ≤ weight before from stop) (inv : Runs s i value (run_from s from before)) where
  read_halt : (next : ℕ) → next ≡ get_or s i 0 → (is_digit next ≡ true → stop ≤ i) → RunRead s from stop before (record { value = value; end = i; next = next })
  read_halt next e full =
      record {
        run_next = e;
        run_whole = λ (t : is_digit next ≡ false). rw (← e) at (runs_none s i value (run_from s from before) inv (rw e at t));
        run_full = full;
        run_light = light;
        run_forward = start;
        run_short = short;
      }

  read_other : is_digit (get_or s i 0) ≡ false → RunRead s from stop before (record { value = value; end = i; next = get_or s i 0 })
  read_other t = read_halt (get_or s i 0) refl (λ (u : is_digit (get_or s i 0) ≡ true). absurd (true≢false (sym u ∙ t)))

  pub read_stop : (t : Bool) → t ≡ is_digit (get_or s i 0) → not t ≡ true → RunRead s from stop before (record { value = value; end = i; next = get_or s i 0 })
  read_stop t told off = read_other (sym told ∙ not-true t off)

  pub read_last : (next : ℕ) → next ≡ get_or s i 0 → stop ≤ i → RunRead s from stop before (record { value = value; end = i; next = next })
  read_last next e h = read_halt next e (λ (u : is_digit next ≡ true). h)

  -- the loop ends at the later of its two bounds
  pub read_end : (end next : ℕ) → end ≡ max from stop → next ≡ get_or s end 0 → stop ≤ i → RunRead s from stop before (record { value = value; end = end; next = next })
  read_end end next at e h =
      let m : end ≡ i = omega arith in
      rw m (read_last next (rw m at e) h)

-- a run of no digit
pub read_nothing : (s : List ℕ) (from stop before : ℕ) (t : Bool) → t ≡ is_digit (get_or s from 0) → not t ≡ true →
    RunRead s from stop before (record { value = before; end = from; next = get_or s from 0 })
read_nothing s from stop before t told e =
    read_other s from stop before from before (omega arith) (omega arith) (le_refl (weight before from stop)) (runs_start s from before)
    (sym told ∙ not-true t e)

-- two comparisons agree if each implies the other
pub ltb_alike : (a b c d : ℕ) → (a < b → c < d) → (c < d → a < b) → ltb a b ≡ ltb c d
ltb_alike a b c d to from =
    by_cases _ (ltb a b)
    (λ (e : ltb a b ≡ true). e ∙ sym (lt-ltb c d (to (ltb-true a b e))))
    (λ (e : ltb a b ≡ false).
    by_cases _ (ltb c d)
    (λ (f : ltb c d ≡ true). e ∙ absurd_not a b e (from (ltb-true c d f)))
    (λ (f : ltb c d ≡ false). e ∙ sym f))
  where
    absurd_not : (a b : ℕ) → ltb a b ≡ false → a < b → false ≡ ltb c d
    absurd_not a b e h =
        let k : b ≤ a = ltb-false a b e in
        absurd (omega arith)

either_counts : (m n c d : ℕ) → (0 < m + n → c < d) → (c < d → 0 < m + n) → either (ltb 0 m) (ltb 0 n) ≡ ltb c d
either_counts m n c d to from =
    by_cases _ (ltb 0 m)
    (λ (e : ltb 0 m ≡ true).
    let h : 0 < m = ltb-true 0 m e in
    either_left _ _ e ∙ sym (lt-ltb c d (to (omega arith))))
    (λ (e : ltb 0 m ≡ false).
    let h : m ≤ 0 = ltb-false 0 m e in
    either_rest _ _ e ∙ ltb_alike 0 n c d (λ (k : 0 < n). to (omega arith)) (λ (k : c < d). let l : 0 < m + n = from k in omega arith))

both_not_right' : (a : Bool) {b : Bool} → b ≡ false → both a b ≡ false
both_not_right' a e = both_not_right a _ e

-- ---- digits run by run

-- the digits d with the run of digits at the front of s added
unfoldable pub digits_run : List ℕ → Digits → Digits
digits_run [] d = d
digits_run (b ∷ s) d = provided is_digit b then digits_run s (with_digit d (b - 48)) else d

digit_no_point : (b : ℕ) → is_digit b ≡ true → is_point b ≡ false
unfolding is_point
digit_no_point b e =
    let h : 48 ≤ b = digit_from b e in
    ne_eqb b 46 (λ (k : b ≡ 46). omega arith)

digit_goes : (d : Digits) (b : ℕ) → is_digit b ≡ true → digits_go_on d b ≡ true
unfolding digits_go_on
digit_goes d b e = either_left _ _ e

digit_with : (d : Digits) (b : ℕ) → is_digit b ≡ true → with_byte d b ≡ with_digit d (b - 48)
unfolding with_byte
digit_with d b e = if_false _ _ (digit_no_point b e)

scan_run : (s : List ℕ) (d : Digits) → scan s d ≡ scan (drop (run is_digit s) s) (digits_run s d)
unfolding digits_run
scan_run [] d = rw (run_nil is_digit)
scan_run (b ∷ s) d = by_cases _ (is_digit b) (λ (e : is_digit b ≡ true). goes e (scan_run s (with_digit d (b - 48)))) (λ (e : is_digit b ≡ false). rw (run_stops is_digit b s e, if_false (digits_run s (with_digit d (b - 48))) d e))
  where
    goes : is_digit b ≡ true → scan s (with_digit d (b - 48)) ≡ scan (drop (run is_digit s) s) (digits_run s (with_digit d (b - 48))) → scan (b ∷ s) d ≡ scan (drop (run is_digit (b ∷ s)) (b ∷ s)) (digits_run (b ∷ s) d)
    goes e k = rw (run_goes is_digit b s e, if_true (digits_run s (with_digit d (b - 48))) d e) (scan_goes b s d (digit_goes d b e) ∙ ap (scan s) (digit_with d b e) ∙ k)

-- how a run of digits changes the digits d before it
record Ran (s : List ℕ) (d r : Digits) : Type 0 where
  all_ran : r.all ≡ size_on s d.all
  fraction_ran : r.fraction ≡ (provided d.point then d.fraction + run is_digit s else d.fraction)
  some_ran : r.some ≡ either d.some (ltb 0 (run is_digit s))
  point_ran : r.point ≡ d.point
  end_ran : r.end ≡ d.end + run is_digit s

either_none : (a : Bool) → a ≡ either a false
unfolding either
either_none true = refl
either_none false = refl

either_all : (a : Bool) → either a true ≡ true
unfolding either
either_all true = refl
either_all false = refl

same_either : (t : Bool) (n : ℕ) → n ≡ (provided t then n + 0 else n)
same_either t n = by_cases _ t (λ (e : t ≡ true). sym (if_true (n + 0) n e ∙ add-zero n)) (λ (e : t ≡ false). sym (if_false (n + 0) n e))

ran_none : (s : List ℕ) (d : Digits) → run is_digit s ≡ 0 → size_on s d.all ≡ d.all → Ran s d d
ran_none s d n v =
    record {
      all_ran = sym v;
      fraction_ran = rw n (same_either d.point d.fraction);
      some_ran = rw (n, le-ltb 0 0 (omega arith)) (either_none d.some);
      point_ran = refl;
      end_ran = rw n (sym (add-zero d.end));
    }

counted_on : (t : Bool) (n k : ℕ) → (provided t then (provided t then n + 1 else n) + k else (provided t then n + 1 else n)) ≡ (provided t then n + suc k else n)
unfolding provided◌then◌else◌
counted_on true n k = omega arith
counted_on false n k = refl

ran_more : (b : ℕ) (s : List ℕ) (d r : Digits) → is_digit b ≡ true → Ran s (with_digit d (b - 48)) r → Ran (b ∷ s) d r
unfolding with_digit
ran_more b s d r e k =
    record {
      all_ran = k.all_ran ∙ sym (size_goes b s d.all e);
      fraction_ran = rw (run_goes is_digit b s e) (k.fraction_ran ∙ counted_on d.point d.fraction (run is_digit s));
      some_ran = rw (run_goes is_digit b s e, lt-ltb 0 (suc (run is_digit s)) (omega arith)) (k.some_ran ∙ either_left true _ refl ∙ sym (either_all d.some));
      point_ran = k.point_ran;
      end_ran = rw (run_goes is_digit b s e) (k.end_ran ∙ (let m : d.end + 1 + run is_digit s ≡ d.end + suc (run is_digit s) = omega arith in m));
    }

run_ran : (s : List ℕ) (d : Digits) → Ran s d (digits_run s d)
unfolding digits_run
run_ran [] d = ran_none [] d (run_nil is_digit) (size_ends d.all)
run_ran (b ∷ s) d =
    by_cases _ (is_digit b)
    (λ (e : is_digit b ≡ true). rw (if_true (digits_run s (with_digit d (b - 48))) d e) (ran_more b s d (digits_run s (with_digit d (b - 48))) e (run_ran s (with_digit d (b - 48)))))
    (λ (e : is_digit b ≡ false). rw (if_false (digits_run s (with_digit d (b - 48))) d e) (ran_none (b ∷ s) d (run_stops is_digit b s e) (size_stops b s d.all e)))

-- digits stop at a byte that is neither a digit nor a point that they may have
halts : (s : List ℕ) (i : ℕ) (d : Digits) → (i < length s → is_digit (get_or s i 0) ≡ false) → both (is_point (get_or s i 0)) (not d.point) ≡ false → scan (drop i s) d ≡ d
unfolding digits_go_on
halts s i d n p =
    by_cases _ (leb (length s) i)
    (λ (t : leb (length s) i ≡ true). rw (drop_of_length-le s (leb-true (length s) i t)) (scan_ends d))
    (λ (t : leb (length s) i ≡ false).
    let h : i < length s = omega (arith, leb-false (length s) i t) in
    rw (drop-cons s i 0 h) (scan_stops (get_or s i 0) (drop (suc i) s) d (either_false _ _ (n h) p)))

-- digits go on past a point that they may have
point_passed : (s : List ℕ) (i : ℕ) (d : Digits) → d.point ≡ false → is_point (get_or s i 0) ≡ true → scan (drop i s) d ≡ scan (drop (suc i) s) (with_point d)
unfolding digits_go_on with_byte is_point
point_passed s i d n p =
    let h : i < length s = inside is_point s i none p in
    let g : both (is_point (get_or s i 0)) (not d.point) ≡ true = both_rest _ _ p ∙ ap not n in
    rw (drop-cons s i 0 h) (scan_goes (get_or s i 0) (drop (suc i) s) d (either_right _ _ g) ∙ ap (scan (drop (suc i) s)) (if_true (with_point d) (with_digit d (get_or s i 0 - 48)) p))
  where
    none : is_point 0 ≡ false
    none = refl

-- the digits at `from`: one run, or two with a point between them, as the code reads them
module _ (s : List ℕ) (from : ℕ) where
  first_run : Digits
  first_run = digits_run (drop from s) (no_digits from)

  first_ran : Ran (drop from s) (no_digits from) first_run
  unfolding first_run
  first_ran = run_ran (drop from s) (no_digits from)

  to_first : scan (drop from s) (no_digits from) ≡ scan (drop (run_end is_digit s from) s) first_run
  unfolding first_run
  to_first = scan_run (drop from s) (no_digits from) ∙ ap (λ (x : List ℕ). scan x (digits_run (drop from s) (no_digits from))) (drop-drop (run is_digit (drop from s)) from s)

  first_point : first_run.point ≡ false
  unfolding no_digits
  first_point = first_ran.point_ran

  one_run : is_point (get_or s (run_end is_digit s from) 0) ≡ false → scan (drop from s) (no_digits from) ≡ first_run
  one_run p = to_first ∙ halts s (run_end is_digit s from) first_run (run_end_at is_digit s from) (both_not_left _ _ p)

  -- the second run, after the point
  second_run : ℕ → Digits
  second_run at = digits_run (drop at s) (with_point first_run)

  second_ran : (at : ℕ) → Ran (drop at s) (with_point first_run) (second_run at)
  unfolding second_run
  second_ran at = run_ran (drop at s) (with_point first_run)

  second_point : (at : ℕ) → (second_run at).point ≡ true
  unfolding with_point
  second_point at = (second_ran at).point_ran

  to_second : (at : ℕ) → is_point (get_or s (run_end is_digit s from) 0) ≡ true → at ≡ suc (run_end is_digit s from) → scan (drop from s) (no_digits from) ≡ scan (drop (run_end is_digit s at) s) (second_run at)
  unfolding second_run
  to_second at p e =
      let q : scan (drop (run_end is_digit s from) s) first_run ≡ scan (drop at s) (with_point first_run) = rw e (point_passed s (run_end is_digit s from) first_run first_point p) in
      to_first ∙ q ∙ scan_run (drop at s) (with_point first_run) ∙ ap (λ (x : List ℕ). scan x (digits_run (drop at s) (with_point first_run))) (drop-drop (run is_digit (drop at s)) at s)

  two_runs : (at : ℕ) → is_point (get_or s (run_end is_digit s from) 0) ≡ true → at ≡ suc (run_end is_digit s from) → scan (drop from s) (no_digits from) ≡ second_run at
  two_runs at p e = to_second at p e ∙ halts s (run_end is_digit s at) (second_run at) (run_end_at is_digit s at) (stop (is_point (get_or s (run_end is_digit s at) 0)))
    where
      stop : (t : Bool) → both t (not (second_run at).point) ≡ false
      stop t = both_not_right' t (ap not (second_point at))

-- ---- as `plain_digits` uses them at its returns

pub plains_same : (r e : Plain) → r.all ≡ e.all → r.fraction ≡ e.fraction → r.some ≡ e.some → r.end ≡ e.end → r.next ≡ e.next → r ≡ e
plains_same r e a b c d f = λ i. record { all = a i; fraction = b i; some = c i; end = d i; next = f i }

module _ (s : List ℕ) (from : ℕ) (whole : Run) (read : whole ≡ run_from s from 0) where
  end_is : whole.end ≡ run_end is_digit s from
  unfolding run_from
  end_is = ap (λ (r : Run). r.end) read

  value_is : whole.value ≡ size_on (drop from s) 0
  unfolding run_from size_on
  value_is = ap (λ (r : Run). r.value) read

  next_is : whole.next ≡ get_or s (run_end is_digit s from) 0
  unfolding run_from
  next_is = ap (λ (r : Run). r.next) read

  plain_one : (whole.next ≡ 46 → ⊥) → record { all = whole.value; fraction = 0; some = ltb from whole.end; end = whole.end; next = whole.next } ≡ plain_at s (scan (drop from s) (no_digits from))
  unfolding plain_at no_digits is_point
  plain_one n =
      let k : Ran (drop from s) (no_digits from) (first_run s from) = first_ran s from in
      let m : whole.end ≡ from + run is_digit (drop from s) = end_is in
      let p : is_point (get_or s (run_end is_digit s from) 0) ≡ false = ne_eqb (get_or s (run_end is_digit s from) 0) 46 (λ (h : get_or s (run_end is_digit s from) 0 ≡ 46). n (next_is ∙ h)) in
      rw (one_run s from p)
      (plains_same _ _
      (value_is ∙ sym k.all_ran)
      (sym (k.fraction_ran ∙ if_false _ _ refl))
      (sym (k.some_ran ∙ either_rest false _ refl ∙ ltb_alike 0 (run is_digit (drop from s)) from whole.end (λ (h : 0 < run is_digit (drop from s)). omega arith) (λ (h : from < whole.end). omega arith)))
      (end_is ∙ sym k.end_ran)
      (next_is ∙ ap (λ (i : ℕ). get_or s i 0) (sym k.end_ran)))

  module _ (dot : whole.next ≡ 46) where
    dot_byte : get_or s (run_end is_digit s from) 0 ≡ 46
    dot_byte = sym next_is ∙ dot

    module _ (part : Run) (more : part ≡ run_from s (whole.end + 1) whole.value) where
      last_is : part.end ≡ run_end is_digit s (whole.end + 1)
      unfolding run_from
      last_is = ap (λ (r : Run). r.end) more

      all_is : part.value ≡ size_on (drop (whole.end + 1) s) whole.value
      unfolding run_from size_on
      all_is = ap (λ (r : Run). r.value) more

      next_last : part.next ≡ get_or s (run_end is_digit s (whole.end + 1)) 0
      unfolding run_from
      next_last = ap (λ (r : Run). r.next) more

      plain_two : record { all = part.value; fraction = part.end - (whole.end + 1); some = ltb (from + 1) part.end; end = part.end; next = part.next } ≡ plain_at s (scan (drop from s) (no_digits from))
      unfolding plain_at no_digits with_point is_point
      plain_two =
          let k : Ran (drop from s) (no_digits from) (first_run s from) = first_ran s from in
          let l : Ran (drop (whole.end + 1) s) (with_point (first_run s from)) (second_run s from (whole.end + 1)) = second_ran s from (whole.end + 1) in
          let m : whole.end ≡ from + run is_digit (drop from s) = end_is in
          let n : part.end ≡ whole.end + 1 + run is_digit (drop (whole.end + 1) s) = last_is in
          let h : whole.end + 1 ≡ suc (run_end is_digit s from) = omega arith in
          let f : (first_run s from).fraction ≡ 0 = k.fraction_ran ∙ if_false _ _ refl in
          let g : (second_run s from (whole.end + 1)).fraction ≡ (first_run s from).fraction + run is_digit (drop (whole.end + 1) s) = l.fraction_ran ∙ if_true _ _ refl in
          let e : (second_run s from (whole.end + 1)).end ≡ (first_run s from).end + 1 + run is_digit (drop (whole.end + 1) s) = l.end_ran in
          let d : (first_run s from).end ≡ from + run is_digit (drop from s) = k.end_ran in
          let o : (first_run s from).some ≡ ltb 0 (run is_digit (drop from s)) = k.some_ran ∙ either_rest false _ refl in
          let a : part.end ≡ (second_run s from (whole.end + 1)).end = omega arith in
          rw (two_runs s from (whole.end + 1) (eq-eqb (get_or s (run_end is_digit s from) 0) 46 dot_byte) h)
          (plains_same _ _
          (all_is ∙ ap (size_on (drop (whole.end + 1) s)) (value_is ∙ sym k.all_ran) ∙ sym l.all_ran)
          (omega arith)
          (sym (l.some_ran ∙ ap (λ (b : Bool). either b (ltb 0 (run is_digit (drop (whole.end + 1) s)))) o ∙ either_counts (run is_digit (drop from s)) (run is_digit (drop (whole.end + 1) s)) (from + 1) part.end (λ (w : 0 < run is_digit (drop from s) + run is_digit (drop (whole.end + 1) s)). omega arith) (λ (w : from + 1 < part.end). omega arith)))
          a
          (next_last ∙ ap (λ (i : ℕ). get_or s i 0) (sym last_is ∙ a)))

-- digits that are read up to `stop`
module _ (s : List ℕ) (from : ℕ) (whole : Run) (read : RunRead s from (from + 19) 0 whole) where
  pub whole_short : whole.end ≤ from + 19
  whole_short =
      let a : whole.end - from ≤ from + 19 - from = read.run_short in
      let b : from ≤ whole.end = read.run_forward in
      omega arith

  pub digits_one : (whole.next ≡ 46 → ⊥) → DigitsRead s from (record { all = whole.value; fraction = 0; some = ltb from whole.end; end = whole.end; next = whole.next })
  digits_one n =
      record {
        digits_next = read.run_next;
        digits_whole = λ (e : is_digit whole.next ≡ false). plain_one s from whole (read.run_whole e) n;
        digits_short = omega (arith, whole_short);
        fraction_few = omega arith;
      }

  pub dot_light : weight whole.value (whole.end + 1) (from + 19) ≤ exponent_cap
  dot_light =
      let a : weight whole.value (whole.end + 1) (from + 19) ≤ weight whole.value whole.end (from + 19) = weight_past whole.value whole.end (from + 19) in
      let b : weight whole.value whole.end (from + 19) ≤ weight 0 from (from + 19) = read.run_light in
      let c : weight 0 from (from + 19) ≤ exponent_cap = weight_few from 19 (omega arith) in
      omega arith

  pub digits_two : (part : Run) → whole.next ≡ 46 → RunRead s (whole.end + 1) (from + 19) whole.value part → DigitsRead s from (record { all = part.value; fraction = part.end - (whole.end + 1); some = ltb (from + 1) part.end; end = part.end; next = part.next })
  unfolding is_digit within both
  digits_two part dot more =
      let a : part.end - (whole.end + 1) ≤ from + 19 - (whole.end + 1) = more.run_short in
      let b : from ≤ whole.end = read.run_forward in
      let c : whole.end + 1 ≤ part.end = more.run_forward in
      let d : whole.end ≤ from + 19 = whole_short in
      record {
        digits_next = more.run_next;
        digits_whole = λ (e : is_digit part.next ≡ false). plain_two s from whole (read.run_whole (rw dot)) dot part (more.run_whole e);
        digits_short = omega arith;
        fraction_few = omega arith;
      }

-- ---- as `plain_exponent` uses them

e_no_digit : (b : ℕ) → is_e b ≡ true → is_digit b ≡ false
unfolding is_e
e_no_digit b e =
    by_cases _ (is_digit b)
    (λ (t : is_digit b ≡ true).
    let h : b ≤ 57 = digit_to b t in
    absurd (true≢false (sym e ∙ either_false _ _ (ne_eqb b 101 (λ (k : b ≡ 101). omega arith)) (ne_eqb b 69 (λ (k : b ≡ 69). omega arith)))))
    (λ (t : is_digit b ≡ false). t)

module _ (s : List ℕ) (from b : ℕ) (t : Bool) (byte : b ≡ get_or s from 0) (told : t ≡ is_e b) where
  e_told : t ≡ is_e (get_or s from 0)
  e_told = rw byte at told

  none_reading : (r : Reading) → exponent_of s from ≡ no_exponent from → r ≡ no_reading from b → r ≡ reading_at s (exponent_of s from)
  unfolding reading_at no_reading no_exponent
  none_reading r n e = rw (n, e, byte)

  none_told : (r : Reading) → exponent_of s from ≡ no_exponent from → r ≡ no_reading from b → ExponentRead s from b r
  unfolding no_reading no_exponent
  none_told r n e =
      record {
        exponent_next = rw e byte;
        exponent_whole = λ (k : is_digit r.next ≡ false). none_reading r n e;
        exponent_after = λ (k : is_digit r.next ≡ false). rw e at k;
        exponent_short = rw e (omega arith);
        exponent_few = rw e (omega arith);
      }

  pub exponent_none : (r : Reading) → not t ≡ true → r ≡ no_reading from b → ExponentRead s from b r
  unfolding exponent_of
  exponent_none r off e = none_told r (if_false _ _ (sym e_told ∙ not-true t off)) e

  module _ (on : not t ≡ false) where
    module _ (sign digits : ℕ) (is : sign ≡ get_or s (from + 1) 0) (start : digits ≡ (provided is_sign sign then from + 1 + 1 else from + 1)) where
      start_is : digits ≡ past_sign s (from + 1)
      unfolding past_sign
      start_is = rw is at start

      start_near : digits ≤ from + 2
      start_near = rw start (by_test (λ (n : ℕ). n ≤ from + 2) (is_sign sign) _ _ (λ e. omega arith) (λ e. omega arith))

      module _ (x : Run) (read : x ≡ run_from s digits 0) where
        at_digits : exponent_of s from ≡ exponent_at s from digits
        unfolding exponent_of
        at_digits = if_true _ _ (sym e_told ∙ not-false t on) ∙ ap (exponent_at s from) (sym start_is)

        digits_end_at : x.end ≡ digits + run is_digit (drop digits s)
        unfolding run_from
        digits_end_at = ap (λ (y : Run). y.end) read

        bare_plain : x.end ≡ digits → exponent_of s from ≡ no_exponent from
        unfolding exponent_at
        bare_plain same =
            let n : run is_digit (drop digits s) ≡ 0 = omega (arith, digits_end_at) in
            at_digits ∙ if_true _ _ (eq-eqb (run is_digit (drop digits s)) 0 n)

        read_exponent_is : (x.end ≡ digits → ⊥) → record { size = x.value; negative = eqb sign 45; end = x.end } ≡ exponent_of s from
        unfolding exponent_at run_from is_minus
        read_exponent_is other =
            let n : run is_digit (drop digits s) ≡ 0 → ⊥ = λ (z : run is_digit (drop digits s) ≡ 0). other (omega (arith, digits_end_at)) in
            rw (is, read) (sym (at_digits ∙ if_false _ _ (ne_eqb (run is_digit (drop digits s)) 0 n)))

        next_read : x.next ≡ get_or s x.end 0
        unfolding run_from
        next_read = ap (λ (y : Run). y.next) read ∙ ap (λ (i : ℕ). get_or s i 0) (sym digits_end_at)

        read_plain : (x.end ≡ digits → ⊥) → record { exponent = record { size = x.value; negative = eqb sign 45; end = x.end }; next = x.next } ≡ reading_at s (exponent_of s from)
        unfolding reading_at
        read_plain other = rw (← read_exponent_is other, next_read)

      module _ (x : Run) (read : RunRead s digits (digits + 9) 0 x) where
        -- if no digit is read, there is none
        bare_next : x.end ≡ digits → is_digit x.next ≡ false
        bare_next same =
            by_cases _ (is_digit x.next)
            (λ (t : is_digit x.next ≡ true).
            let h : digits + 9 ≤ x.end = read.run_full t in
            absurd (omega arith))
            (λ (t : is_digit x.next ≡ false). t)

        pub exponent_bare : (r : Reading) → x.end ≡ digits → r ≡ no_reading from b → ExponentRead s from b r
        exponent_bare r same e = none_told r (bare_plain x (read.run_whole (bare_next same)) same) e

        value_small : x.value < 1_000_000_000
        value_small =
            let a : x.value < weight x.value x.end (digits + 9) = weight_above x.value x.end (digits + 9) in
            let b : weight x.value x.end (digits + 9) ≤ weight 0 digits (digits + 9) = read.run_light in
            let c : weight 0 digits (digits + 9) ≤ 10 ^ 9 = weight_first digits (digits + 9) 9 (omega arith) in
            omega arith

        value_near : x.end ≤ from + 11
        value_near =
            let a : x.end - digits ≤ digits + 9 - digits = read.run_short in
            let b : digits ≤ x.end = read.run_forward in
            omega (arith, start_near)

        pub exponent_told : (x.end ≡ digits → ⊥) → ExponentRead s from b (record { exponent = record { size = x.value; negative = eqb sign 45; end = x.end }; next = x.next })
        exponent_told other =
            record {
              exponent_next = read.run_next;
              exponent_whole = λ (e : is_digit x.next ≡ false). read_plain x (read.run_whole e) other;
              exponent_after = λ (e : is_digit x.next ≡ false). e_no_digit b (sym told ∙ not-false t on);
              exponent_short = value_near;
              exponent_few = value_small;
            }

pub none_read : (from b : ℕ) (x : Exponent) → x ≡ no_exponent from → record { exponent = x; next = b } ≡ no_reading from b
unfolding no_reading
none_read from b x e = rw e
