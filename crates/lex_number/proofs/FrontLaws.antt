-- Laws of the word at the front of a text: reading the text gives the same as reading the word alone, since no byte
-- that numbers are written with ends a word. They hold for every class of word bytes that includes those bytes.
-- Assumes nothing.
use mathlib.Core.Path.{◌≡◌, refl, sym, ◌∙◌, ap}
use mathlib.Core.Bool.{Bool, true, false, not, true≢false}
use mathlib.Core.List.{List, [], ◌∷◌}
use mathlib.Core.Logic.{◌⊎◌, inl, inr, ⊎_elim}
use Prim.Native.Nat.{ℕ, zero, suc, ◌+◌, ◌-◌, ◌≤◌, ◌<◌}
use native.Mathlib.Nat.{zero-add, add-zero}
use native.Mathlib.Omega.{arith}
use lib.ListN.{length, take, drop, get_or, length-drop, get_or-eq_default}
use lib.Seq.{length-take-le, get_or-take, get_or-drop, drop-drop, take-take}
use lib.Dec.{eqb, ltb, leb}
use borrow.Author.Tests.{eq-eqb, ne_eqb, lt-leb, ltb-true, ltb-false, leb-true, leb-false, not-false}
use Rattle.base.specs.If.{provided◌then◌else◌, both, either}
use Rattle.base.specs.Bytes.{is_digit, is_capital, is_small, is_letter, within}
use Rattle.base.specs.Runs.{run, all}
use Rattle.base.specs.Way.Class.{run_end}
use Rattle.base.proofs.IfLaws.{if_true, if_false, by_cases, by_test, both_true, both_not_left, either_false, either_none_first, either_none_second}
use Rattle.base.proofs.RunLaws.{run_goes, run_stops, run_nil, run_on, run_le, run_all, run_end_lem, run_past, run_stop, run_take, run_wider}
use Rattle.lex_number.specs.declared.Digits.{Digits}
use Rattle.lex_number.specs.declared.Exponent.{Exponent}
use Rattle.lex_number.specs.declared.Scale.{Scale}
use Rattle.lex_number.specs.Number.{Number, is_sign, is_minus, is_point, is_e, past_sign, no_digits, digits_go_on, with_byte, scan, exponent_at, exponent_of, power_in, scale_by, scale_of, raised, lowered, value_as, well_formed, number_from, digits_of, exponent_from, number_of}
use Rattle.lex_number.specs.declared.fast.Plain.{Plain}
use Rattle.lex_number.specs.declared.fast.Reading.{Reading}
use Rattle.lex_number.specs.declared.fast.Parts.{Parts}
use Rattle.lex_number.specs.Way.In.{is_spelling}
use Rattle.lex_number.specs.Way.At.{plain_at, reading_at, parts_at, DigitsRead, ExponentRead, PartsRead, Says}
use Rattle.lex_number.proofs.CappedLaws.{scan_goes, scan_stops, scan_ends}
use Rattle.lex_number.proofs.AllLaws.{all_from}
use Rattle.lex_number.proofs.ReadLaws.{inside, sign_within, scan_end, exponent_within}
use Rattle.lex_number.proofs.DigitLaws.{digit_to}
use Rattle.lex_number.proofs.ScaleLaws.{outside_gives_nothing}
use Rattle.lex_number.proofs.NumberLaws.{Shaped, digits_shaped}

-- ---- bytes that numbers are not written with

-- a function with the same value for 0 and for every byte that numbers are not written with
record Blind {A : Type 0} (f : ℕ → A) : Type 0 where
  blind : (b : ℕ) → is_spelling b ≡ false → f b ≡ f 0

module _ (b : ℕ) (none : is_spelling b ≡ false) where
  none_digit : is_digit b ≡ false
  unfolding is_spelling
  none_digit = either_none_first _ _ none

  pub none_letter : is_letter b ≡ false
  unfolding is_spelling
  none_letter = either_none_first _ _ (either_none_second _ _ none)

  none_sign : is_sign b ≡ false
  unfolding is_spelling
  none_sign = either_none_first _ _ (either_none_second _ _ (either_none_second _ _ none))

  none_point : is_point b ≡ false
  unfolding is_spelling is_point
  none_point = either_none_second _ _ (either_none_second _ _ (either_none_second _ _ none))

  none_minus : is_minus b ≡ false
  unfolding is_sign is_minus
  none_minus = either_none_second _ _ none_sign

  -- a byte that is a letter is another
  no_letter : (c : ℕ) → is_letter c ≡ true → eqb b c ≡ false
  no_letter c e = ne_eqb b c (λ (h : b ≡ c). true≢false (sym e ∙ ap is_letter (sym h) ∙ none_letter))

  none_e : is_e b ≡ false
  unfolding is_e is_letter is_capital is_small within both either
  none_e = either_false _ _ (no_letter 101 refl) (no_letter 69 refl)

  none_goes : (d : Digits) → digits_go_on d b ≡ false
  unfolding digits_go_on
  none_goes d = either_false _ _ none_digit (both_not_left _ _ none_point)

  none_scaled : scale_of b ≡ record { up = 0; down = 0 }
  unfolding all is_letter is_capital is_small within both either
  none_scaled = outside_gives_nothing is_letter b refl none_letter

blind_sign : Blind is_sign
unfolding is_sign either
blind_sign = record { blind = none_sign }

blind_minus : Blind is_minus
unfolding is_minus
blind_minus = record { blind = none_minus }

blind_e : Blind is_e
unfolding is_e either
blind_e = record { blind = none_e }

blind_scale : Blind scale_of
unfolding scale_of scale_by power_in provided◌then◌else◌
blind_scale = record { blind = none_scaled }

blind_digit : Blind is_digit
unfolding is_digit within both
blind_digit = record { blind = none_digit }

blind_letter : Blind is_letter
unfolding is_letter is_capital is_small within both either
blind_letter = record { blind = none_letter }

-- ---- the word at the front of a text, for bytes of a class

unfoldable pub word : (ℕ → Bool) → List ℕ → List ℕ
word class s = take (run class s) s

-- the word does not go on at a position: there is no byte, or one that is not of the class
abbrev Over : (ℕ → Bool) → List ℕ → ℕ → Type 0
Over class s at = (length s ≤ at) ⊎ (class (get_or s at 0) ≡ false)

letter_no_digit : (b : ℕ) → is_letter b ≡ true → is_digit b ≡ false
unfolding is_letter is_capital is_small within
letter_no_digit b e =
    by_cases _ (is_digit b)
    (λ (t : is_digit b ≡ true).
    let h : b ≤ 57 = digit_to b t in
    absurd (true≢false (sym e ∙ either_false _ _ (both_not_left _ _ (lt-leb 65 b (omega arith))) (both_not_left _ _ (lt-leb 97 b (omega arith))))))
    (λ (t : is_digit b ≡ false). t)

-- ---- the parts as they are read

module _ (s : List ℕ) (first start : ℕ) (byte : first ≡ get_or s 0 0) (past : start ≡ (provided is_sign first then 0 + 1 else 0)) where
  start_is : start ≡ past_sign s 0
  unfolding past_sign
  start_is = rw byte at past

  start_near : start ≤ 1
  start_near = rw past (by_test (λ (n : ℕ). n ≤ 1) (is_sign first) _ _ (λ e. omega arith) (λ e. omega arith))

  module _ (d : Plain) (x : Reading) (digits : d ≡ plain_at s (scan (drop start s) (no_digits start))) (read : x ≡ reading_at s (exponent_of s d.end)) where
    parts_are : record { negative = eqb first 45; digits = d; exponent = x.exponent; next = x.next } ≡ parts_at s
    unfolding parts_at digits_of exponent_from plain_at reading_at is_minus
    parts_are = rw (read, digits, start_is, byte)

  -- the parts as they are read
  pub parts_read : (d : Plain) (x : Reading) → DigitsRead s start d → ExponentRead s d.end d.next x → PartsRead s (record { negative = eqb first 45; digits = d; exponent = x.exponent; next = x.next })
  parts_read d x digits read =
      record {
        parts_next = read.exponent_next;
        parts_whole = λ (e : is_digit x.next ≡ false). parts_are d x (digits.digits_whole (read.exponent_after e)) (read.exponent_whole e);
        parts_short = short;
        parts_few = record { fraction_few = digits.fraction_few; exponent_few = read.exponent_few };
      }
    where
      short : x.exponent.end ≤ 32
      short =
          let a : d.end ≤ start + 20 = digits.digits_short in
          let b : x.exponent.end ≤ d.end + 11 = read.exponent_short in
          omega (arith, start_near)

module _ (class : ℕ → Bool) (out : (b : ℕ) → class b ≡ false → is_spelling b ≡ false) where
  -- a byte is of the class if it passes a test that 0 does not pass
  in_by : (f : ℕ → Bool) → Blind f → f 0 ≡ false → (b : ℕ) → f b ≡ true → class b ≡ true
  in_by f k none b t =
      by_cases _ (class b)
      (λ (e : class b ≡ true). e)
      (λ (e : class b ≡ false). absurd (true≢false (sym t ∙ k.blind b (out b e) ∙ none)))

  digit_in : (b : ℕ) → is_digit b ≡ true → class b ≡ true
  unfolding is_digit within both
  digit_in b t = in_by is_digit blind_digit refl b t

  letter_in : (b : ℕ) → is_letter b ≡ true → class b ≡ true
  unfolding is_letter is_capital is_small within both either
  letter_in b t = in_by is_letter blind_letter refl b t

  goes_in : (d : Digits) (b : ℕ) → digits_go_on d b ≡ true → class b ≡ true
  goes_in d b t =
      by_cases _ (class b)
      (λ (e : class b ≡ true). e)
      (λ (e : class b ≡ false). absurd (true≢false (sym t ∙ none_goes b (out b e) d)))

  word_nil : word class [] ≡ []
  unfolding word run
  word_nil = refl

  word_goes : (b : ℕ) (s : List ℕ) → class b ≡ true → word class (b ∷ s) ≡ b ∷ word class s
  unfolding word
  word_goes b s e = rw (run_goes class b s e)

  word_stops : (b : ℕ) (s : List ℕ) → class b ≡ false → word class (b ∷ s) ≡ []
  unfolding word
  word_stops b s e = rw (run_stops class b s e)

  word_length : (s : List ℕ) → length (word class s) ≡ run class s
  unfolding word
  word_length s = length-take-le (run class s) s (run_le class s)

  -- the rest of the word from a position on is the word at that position
  word_drop : (s : List ℕ) (p : ℕ) → p ≤ run class s → (drop p (word class s) ≡ word class (drop p s)) × (run class s ≡ p + run class (drop p s))
  word_drop s zero h = (refl, sym (zero-add (run class s)))
  word_drop [] (suc p) h =
      let e : run class [] ≡ 0 = run_nil class in
      absurd (omega arith)
  word_drop (b ∷ s) (suc p) h = by_cases _ (class b) (λ (e : class b ≡ true). goes e (word_drop s p)) (λ (e : class b ≡ false). stops e)
    where
      goes : class b ≡ true → (p ≤ run class s → (drop p (word class s) ≡ word class (drop p s)) × (run class s ≡ p + run class (drop p s))) → (drop (suc p) (word class (b ∷ s)) ≡ word class (drop p s)) × (run class (b ∷ s) ≡ suc p + run class (drop p s))
      goes e later =
          let n : run class (b ∷ s) ≡ suc (run class s) = run_goes class b s e in
          let k : (drop p (word class s) ≡ word class (drop p s)) × (run class s ≡ p + run class (drop p s)) = later (omega arith) in
          (ap (drop (suc p)) (word_goes b s e) ∙ k.0, omega (arith, k.1))

      stops : class b ≡ false → (drop (suc p) (word class (b ∷ s)) ≡ word class (drop p s)) × (run class (b ∷ s) ≡ suc p + run class (drop p s))
      stops e =
          let n : run class (b ∷ s) ≡ 0 = run_stops class b s e in
          absurd (omega arith)

  -- a run of bytes of the class is the same in the word
  run_word : (q : ℕ → Bool) → ((b : ℕ) → q b ≡ true → class b ≡ true) → (x : List ℕ) → run q (word class x) ≡ run q x
  unfolding word
  run_word q h x = run_take q x (run class x) (run_wider q class h x)

  take_word : (q : ℕ → Bool) → ((b : ℕ) → q b ≡ true → class b ≡ true) → (x : List ℕ) → take (run q x) (word class x) ≡ take (run q x) x
  unfolding word
  take_word q h x = take-take (run q x) (run class x) x (run_wider q class h x)

  scan_word : (x : List ℕ) (d : Digits) → scan (word class x) d ≡ scan x d
  scan_word [] d = rw (word_nil)
  scan_word (b ∷ x) d = by_cases _ (digits_go_on d b) (λ (e : digits_go_on d b ≡ true). goes e (scan_word x (with_byte d b))) (λ (e : digits_go_on d b ≡ false). stops e)
    where
      goes : digits_go_on d b ≡ true → scan (word class x) (with_byte d b) ≡ scan x (with_byte d b) → scan (word class (b ∷ x)) d ≡ scan (b ∷ x) d
      goes e k = rw (word_goes b x (goes_in d b e)) (scan_goes b (word class x) d e ∙ k ∙ sym (scan_goes b x d e))

      stops : digits_go_on d b ≡ false → scan (word class (b ∷ x)) d ≡ scan (b ∷ x) d
      stops e =
          by_cases _ (class b)
          (λ (f : class b ≡ true). rw (word_goes b x f) (scan_stops b (word class x) d e ∙ sym (scan_stops b x d e)))
          (λ (f : class b ≡ false). rw (word_stops b x f) (scan_ends d ∙ sym (scan_stops b x d e)))

  -- ---- reading the text gives the same as reading the word

  module _ (s : List ℕ) where
    byte_before : (p : ℕ) → p < run class s → get_or (word class s) p 0 ≡ get_or s p 0
    unfolding word
    byte_before p h = get_or-take (run class s) s p 0 h

    byte_after : (p : ℕ) → p ≡ run class s → p < length s → class (get_or s p 0) ≡ false
    byte_after p e h = rw e (run_end_lem class s (omega arith))

    -- the byte at a position of the word, or at its end
    byte_word : {A : Type 0} (f : ℕ → A) → Blind f → (p : ℕ) → p ≤ run class s → f (get_or (word class s) p 0) ≡ f (get_or s p 0)
    byte_word f k p h =
        by_cases _ (leb (run class s) p)
        (λ (t : leb (run class s) p ≡ true). at_end_lem (leb-true (run class s) p t))
        (λ (t : leb (run class s) p ≡ false). ap f (byte_before p (omega (arith, leb-false (run class s) p t))))
      where
        at_end_lem : run class s ≤ p → f (get_or (word class s) p 0) ≡ f (get_or s p 0)
        at_end_lem g =
            let n : length (word class s) ≤ p = omega (arith, word_length s) in
            let e : p ≡ run class s = omega arith in
            ap f (get_or-eq_default (word class s) 0 n)
            ∙ by_cases _ (leb (length s) p)
            (λ (t : leb (length s) p ≡ true). ap f (sym (get_or-eq_default s 0 (leb-true (length s) p t))))
            (λ (t : leb (length s) p ≡ false). sym (k.blind (get_or s p 0) (out (get_or s p 0) (byte_after p e (omega (arith, leb-false (length s) p t))))))

    sign_word : (p : ℕ) → p ≤ run class s → past_sign (word class s) p ≡ past_sign s p
    unfolding past_sign
    sign_word p h = rw (byte_word is_sign blind_sign p h)

    sign_inside : (p : ℕ) → p ≤ run class s → past_sign s p ≤ run class s
    sign_inside p h =
        let k : past_sign (word class s) p ≤ length (word class s) = sign_within (word class s) p (omega (arith, word_length s)) in
        let e : past_sign (word class s) p ≡ past_sign s p = sign_word p h in
        omega (arith, word_length s)

    digits_word : digits_of (word class s) ≡ digits_of s
    unfolding digits_of
    digits_word =
        let e : past_sign (word class s) 0 ≡ past_sign s 0 = sign_word 0 (omega arith) in
        rw (e, (word_drop s (past_sign s 0) (sign_inside 0 (omega arith))).0) (scan_word (drop (past_sign s 0) s) (no_digits (past_sign s 0)))

    digits_inside : (digits_of s).end ≤ run class s
    unfolding digits_of no_digits
    digits_inside =
        let h : past_sign s 0 ≤ run class s = sign_inside 0 (omega arith) in
        let e : drop (past_sign s 0) (word class s) ≡ word class (drop (past_sign s 0) s) = (word_drop s (past_sign s 0) h).0 in
        let q : run class s ≡ past_sign s 0 + run class (drop (past_sign s 0) s) = (word_drop s (past_sign s 0) h).1 in
        let l : length (word class (drop (past_sign s 0) s)) ≡ run class (drop (past_sign s 0) s) = word_length (drop (past_sign s 0) s) in
        let k : (scan (word class (drop (past_sign s 0) s)) (no_digits (past_sign s 0))).end ≤ past_sign s 0 + length (word class (drop (past_sign s 0) s)) = scan_end (word class (drop (past_sign s 0) s)) (no_digits (past_sign s 0)) in
        let n : (scan (word class (drop (past_sign s 0) s)) (no_digits (past_sign s 0))).end ≡ (scan (drop (past_sign s 0) s) (no_digits (past_sign s 0))).end = ap (λ (d : Digits). d.end) (scan_word (drop (past_sign s 0) s) (no_digits (past_sign s 0))) in
        omega arith

    -- the exponent
    exponent_at_word : (from digits : ℕ) → from + 1 ≤ run class s → digits ≤ run class s → exponent_at (word class s) from digits ≡ exponent_at s from digits
    unfolding exponent_at
    exponent_at_word from digits h g =
        let x : drop digits (word class s) ≡ word class (drop digits s) = (word_drop s digits g).0 in
        let r : run is_digit (word class (drop digits s)) ≡ run is_digit (drop digits s) = run_word is_digit digit_in (drop digits s) in
        let t : take (run is_digit (drop digits s)) (word class (drop digits s)) ≡ take (run is_digit (drop digits s)) (drop digits s) = take_word is_digit digit_in (drop digits s) in
        rw (x, r, t, byte_word is_minus blind_minus (from + 1) h)

    e_inside : (from : ℕ) → from ≤ run class s → is_e (get_or s from 0) ≡ true → from + 1 ≤ run class s
    unfolding is_e either
    e_inside from h t =
        let k : from < length (word class s) = inside is_e (word class s) from refl (byte_word is_e blind_e from h ∙ t) in
        omega (arith, word_length s)

    exponent_word : (from : ℕ) → from ≤ run class s → exponent_of (word class s) from ≡ exponent_of s from
    unfolding exponent_of
    exponent_word from h =
        rw (byte_word is_e blind_e from h)
        (by_cases _ (is_e (get_or s from 0))
        (λ (t : is_e (get_or s from 0) ≡ true).
        let g : from + 1 ≤ run class s = e_inside from h t in
        let p : past_sign (word class s) (from + 1) ≡ past_sign s (from + 1) = sign_word (from + 1) g in
        let e : exponent_at (word class s) from (past_sign s (from + 1)) ≡ exponent_at s from (past_sign s (from + 1)) = exponent_at_word from (past_sign s (from + 1)) g (sign_inside (from + 1) g) in
        rw (p, e))
        (λ (t : is_e (get_or s from 0) ≡ false). if_false _ _ t ∙ sym (if_false _ _ t)))

    exponent_inside : (from : ℕ) → from ≤ run class s → (exponent_of s from).end ≤ run class s
    exponent_inside from h =
        let l : length (word class s) ≡ run class s = word_length s in
        let k : (exponent_of (word class s) from).end ≤ length (word class s) = exponent_within (word class s) from (omega arith) in
        let e : (exponent_of (word class s) from).end ≡ (exponent_of s from).end = ap (λ (x : Exponent). x.end) (exponent_word from h) in
        omega arith

    -- only letters up to the end of the word
    letters_word : (at end : ℕ) → at ≤ run class s → end ≡ run_end is_letter s at → all is_letter (drop at (word class s)) ≡ eqb end (run class s)
    letters_word at end h e =
        let x : drop at (word class s) ≡ word class (drop at s) = (word_drop s at h).0 in
        let r : run is_letter (word class (drop at s)) ≡ run is_letter (drop at s) = run_word is_letter letter_in (drop at s) in
        let l : length (word class s) ≡ run class s = word_length s in
        let k : eqb end (length (word class s)) ≡ all is_letter (drop at (word class s)) = all_from is_letter (word class s) at end (omega arith) (rw (x, r) e) in
        sym (rw l at k)

    letters_inside : (at end : ℕ) → at ≤ run class s → end ≡ run_end is_letter s at → end ≤ run class s
    letters_inside at end h e =
        let q : run class s ≡ at + run class (drop at s) = (word_drop s at h).1 in
        let w : run is_letter (drop at s) ≤ run class (drop at s) = run_wider is_letter class letter_in (drop at s) in
        omega arith

    -- where the word does not go on, it ends
    over_ends : (end : ℕ) → end ≤ run class s → Over class s end → end ≡ run class s
    over_ends end h t =
        by_cases _ (leb (run class s) end)
        (λ (g : leb (run class s) end ≡ true).
        let k : run class s ≤ end = leb-true (run class s) end g in
        omega arith)
        (λ (g : leb (run class s) end ≡ false).
        let k : end < run class s = omega (arith, leb-false (run class s) end g) in
        let n : end < length s = omega (arith, run_le class s) in
        absurd (⊎_elim (λ (m : length s ≤ end). omega arith) (λ (m : class (get_or s end 0) ≡ false). true≢false (sym (run_all class s end k) ∙ m)) t))

  -- where the word does not go on, there is no letter
  module _ (s : List ℕ) (from : ℕ) (stop : Over class s from) where
    over_byte : (length s ≤ from) ⊎ ((from < length s) × (class (get_or s from 0) ≡ false))
    over_byte =
        by_cases _ (ltb from (length s))
        (λ (e : ltb from (length s) ≡ true).
        let h : from < length s = ltb-true from (length s) e in
        inr (h, ⊎_elim (λ (m : length s ≤ from). absurd (omega arith)) (λ (m : class (get_or s from 0) ≡ false). m) stop))
        (λ (e : ltb from (length s) ≡ false). inl (ltb-false from (length s) e))

    over_letters : run is_letter (drop from s) ≡ 0
    over_letters =
        ⊎_elim
        (λ (h : length s ≤ from). run_past is_letter s from h)
        (λ (h : (from < length s) × (class (get_or s from 0) ≡ false)). run_stop is_letter s from h.0 (none_letter (get_or s from 0) (out (get_or s from 0) h.1)))
        over_byte

    over_scale : record { up = 0; down = 0 } ≡ scale_of (get_or s from 0)
    unfolding scale_of scale_by power_in provided◌then◌else◌
    over_scale =
        ⊎_elim
        (λ (h : length s ≤ from). ap scale_of (sym (get_or-eq_default s 0 h)))
        (λ (h : (from < length s) × (class (get_or s from 0) ≡ false)). sym (none_scaled (get_or s from 0) (out (get_or s from 0) h.1)))
        over_byte

    over_end : from ≡ run_end is_letter s from
    over_end = rw over_letters (sym (add-zero from))

  module _ (s : List ℕ) (p : Parts) (read : p ≡ parts_at s) where
    plain_is : p.digits ≡ plain_at s (digits_of s)
    unfolding parts_at
    plain_is = ap (λ (q : Parts). q.digits) read

    some_same : p.digits.some ≡ (digits_of s).some
    unfolding plain_at
    some_same = ap (λ (q : Plain). q.some) plain_is

    all_same : (digits_of s).all ≡ p.digits.all
    unfolding plain_at
    all_same = sym (ap (λ (q : Plain). q.all) plain_is)

    fraction_same : (digits_of s).fraction ≡ p.digits.fraction
    unfolding plain_at
    fraction_same = sym (ap (λ (q : Plain). q.fraction) plain_is)

    exponent_is : p.exponent ≡ exponent_from s (digits_of s)
    unfolding parts_at
    exponent_is = ap (λ (q : Parts). q.exponent) read

    exponent_same : exponent_from (word class s) (digits_of (word class s)) ≡ p.exponent
    unfolding exponent_from
    exponent_same = rw (digits_word s) (exponent_word s (digits_of s).end (digits_inside s) ∙ sym exponent_is)

    x_inside : p.exponent.end ≤ run class s
    unfolding exponent_from
    x_inside = rw exponent_is (exponent_inside s (digits_of s).end (digits_inside s))

    minus_is : is_minus (get_or (word class s) 0 0) ≡ p.negative
    unfolding parts_at
    minus_is = byte_word s is_minus blind_minus 0 (omega arith) ∙ sym (ap (λ (q : Parts). q.negative) read)

    module _ (scale : Scale) (end : ℕ) (told : scale ≡ scale_of (get_or s p.exponent.end 0)) (ends : end ≡ run_end is_letter s p.exponent.end) where
      end_inside : end ≤ run class s
      end_inside = letters_inside s p.exponent.end end x_inside ends

      formed_is : well_formed (word class s) (digits_of (word class s)) (exponent_from (word class s) (digits_of (word class s))) ≡ both p.digits.some (eqb end (run class s))
      unfolding well_formed
      formed_is = rw (exponent_same, digits_word s, ← some_same, letters_word s p.exponent.end end x_inside ends)

      -- the value of the parts is the number of the word, if its letters go to the end of the word
      value_is : (r : Number) → end ≡ run class s → not p.digits.some ≡ false → Says p scale r → r ≡ number_of (word class s)
      unfolding number_of number_from
      value_is r t n v =
          let k : Shaped (digits_of s) = digits_shaped s in
          let a : r ≡ value_as p.negative (digits_of s).size (raised (digits_of s) p.exponent scale) (lowered (digits_of s) p.exponent scale) = v.says (digits_of s) all_same fraction_same k.whole k.trimmed in
          let c : scale_of (get_or (word class s) p.exponent.end 0) ≡ scale = byte_word s scale_of blind_scale p.exponent.end x_inside ∙ sym told in
          let f : both p.digits.some (eqb end (run class s)) ≡ true = both_true _ _ (not-false p.digits.some n) (eq-eqb end (run class s) t) in
          a ∙ sym (if_true _ _ (formed_is ∙ f) ∙ (rw (exponent_same, digits_word s, minus_is, c)))

  over_drop : (s : List ℕ) (from e : ℕ) → from < length s → Over class s (from + e) → Over class (drop from s) e
  over_drop s from e h t =
      let n : length (drop from s) ≡ length s - from = length-drop from s in
      let b : get_or (drop from s) e 0 ≡ get_or s (from + e) 0 = get_or-drop from s e 0 in
      ⊎_elim (λ (m : length s ≤ from + e). inl (omega arith)) (λ (m : class (get_or s (from + e) 0) ≡ false). inr (rw b m)) t

  -- ---- the number at a position of a text

  module _ (s : List ℕ) (from : ℕ) (h : from < length s) (p : Parts) (read : PartsRead (drop from s) p) where
    byte_here : p.next ≡ get_or s (from + p.exponent.end) 0
    byte_here = read.parts_next ∙ get_or-drop from s p.exponent.end 0

    -- the value of the parts is the number at `from`, if the word ends after its letters
    here : (scale : Scale) (end : ℕ) (r : Number) → is_digit p.next ≡ false → scale ≡ scale_of (get_or (drop from s) p.exponent.end 0) → end ≡ run_end is_letter (drop from s) p.exponent.end → Over class s (from + end) → not p.digits.some ≡ false → Says p scale r → (r ≡ number_of (word class (drop from s))) × (from + end ≡ run_end class s from)
    here scale end r none told ends off n v =
        let w : p ≡ parts_at (drop from s) = read.parts_whole none in
        let g : end ≤ run class (drop from s) = end_inside (drop from s) p w scale end told ends in
        let a : end ≡ run class (drop from s) = over_ends (drop from s) end g (over_drop s from end h off) in
        (value_is (drop from s) p w scale end told ends r a n v, ap (λ (k : ℕ). from + k) a)

    -- no letter follows the parts
    pub plain_here : (r : Number) → class p.next ≡ false → not p.digits.some ≡ false → Says p (record { up = 0; down = 0 }) r → (r ≡ number_of (word class (drop from s))) × (from + p.exponent.end ≡ run_end class s from)
    plain_here r stop n v =
        let o : Over class s (from + p.exponent.end) = inr (rw byte_here at stop) in
        let d : Over class (drop from s) p.exponent.end = over_drop s from p.exponent.end h o in
        here (record { up = 0; down = 0 }) p.exponent.end r (none_digit p.next (out p.next stop)) (over_scale (drop from s) p.exponent.end d) (over_end (drop from s) p.exponent.end d) o n v

    -- letters follow them, the first of which scales
    module _ (letter : is_letter p.next ≡ true) where
      letter_there : from + p.exponent.end < length s
      unfolding is_letter is_capital is_small within both either
      letter_there = inside is_letter s (from + p.exponent.end) refl (rw byte_here at letter)

      -- the letters after the first one end where all of them end
      letters_end : run_end is_letter s (from + p.exponent.end + 1) ≡ from + run_end is_letter (drop from s) p.exponent.end
      letters_end =
          let k : run is_letter (drop (from + p.exponent.end) s) ≡ suc (run is_letter (drop (from + p.exponent.end + 1) s)) = run_on is_letter s (from + p.exponent.end) letter_there (rw byte_here at letter) in
          let d : drop p.exponent.end (drop from s) ≡ drop (from + p.exponent.end) s = drop-drop p.exponent.end from s in
          rw d (omega arith)

      pub scaled_here : (end : ℕ) (scale : Scale) (r : Number) → end ≡ run_end is_letter s (from + p.exponent.end + 1) → Over class s end → scale ≡ scale_of p.next → not p.digits.some ≡ false → Says p scale r → (r ≡ number_of (word class (drop from s))) × (end ≡ run_end class s from)
      scaled_here end scale r ends off told n v =
          let e : end ≡ from + run_end is_letter (drop from s) p.exponent.end = ends ∙ letters_end in
          rw e (here scale (run_end is_letter (drop from s) p.exponent.end) r (letter_no_digit p.next letter) (rw read.parts_next at told) refl (rw e at off) n v)
