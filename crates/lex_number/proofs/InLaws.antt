-- Laws of a number inside a whole text, whose lines have not been found yet.
-- Assumes nothing.
use mathlib.Core.Path.{◌≡◌, refl, sym, ◌∙◌, ap}
use mathlib.Core.Bool.{Bool, true, false, not, true≢false}
use mathlib.Core.List.{List}
use mathlib.Core.Logic.{◌⊎◌, inl, inr}
use Prim.Native.Nat.{ℕ, suc, ◌+◌, ◌-◌, ◌≤◌, ◌<◌}
use native.Mathlib.Nat.{add-zero}
use native.Mathlib.Omega.{arith}
use Rattle.std.proofs.Common.{Some, Err}
use lib.ListN.{length, take, drop, get_or, length-drop, drop_of_length-le}
use lib.Seq.{take_all}
use lib.Dec.{eqb, ltb}
use borrow.Author.Tests.{ne_eqb, lt-ltb, le-ltb, ltb-false, not-true, not-false}
use Rattle.base.specs.If.{provided◌then◌else◌, both, either}
use Rattle.base.specs.Bytes.{is_blank, is_digit, is_capital, is_small, is_letter, within, is_filled, is_before, is_content}
use Rattle.base.specs.Runs.{run}
use Rattle.base.specs.Way.Class.{run_end}
use Rattle.base.proofs.IfLaws.{if_true, if_false, by_cases, both_true, both_not_left, both_rest, either_false}
use Rattle.base.proofs.RunLaws.{run_on, run_stop}
use Rattle.lex_number.specs.Number.{Number, is_sign, scale_of, number_of}
use Rattle.lex_number.specs.declared.NumberError.TheVariants.{Malformed}
use Rattle.lex_number.specs.declared.NumberAt.{NumberAt}
use Rattle.lex_number.specs.declared.fast.Parts.{Parts}
use Rattle.lex_number.specs.declared.Scale.{Scale}
use Rattle.lex_number.specs.Way.At.{PartsRead, Says}
use Rattle.lex_number.specs.Way.In.{is_word, is_spelling, number_in, Knows}
use Rattle.lex_number.proofs.FrontLaws.{word, none_letter, plain_here, scaled_here}
use Rattle.lex_number.proofs.InLineLaws.{number_nothing}

pub no_content : (comment b : ℕ) (t : Bool) → t ≡ is_content comment b → t ≡ false → t ≡ is_word comment b
unfolding is_word
no_content comment b t told e = e ∙ sym (both_not_left _ _ (sym told ∙ e))

pub content_filled : (comment b : ℕ) (t r : Bool) → t ≡ is_content comment b → t ≡ true → r ≡ is_filled b → r ≡ is_word comment b
unfolding is_word
content_filled comment b t r told e filled = filled ∙ sym (both_rest _ _ (sym told ∙ e))

pub no_word : (s : List ℕ) (at comment : ℕ) → length s ≤ at → ltb at (length s) ≡ both (ltb at (length s)) (is_word comment (get_or s at 0))
no_word s at comment h = le-ltb at (length s) h ∙ sym (both_not_left _ _ (le-ltb at (length s) h))

pub word_there : (s : List ℕ) (at comment : ℕ) (r : Bool) → at < length s → r ≡ is_word comment (get_or s at 0) →
    r ≡ both (ltb at (length s)) (is_word comment (get_or s at 0))
word_there s at comment r h e = e ∙ sym (both_rest _ _ (lt-ltb at (length s) h))

pub in_past : (comment : ℕ) (s : List ℕ) (from : ℕ) → length s ≤ from → record { number = Err Malformed; end = from } ≡ number_in comment s from
unfolding number_in run
in_past comment s from h = rw (drop_of_length-le s h, add-zero from, number_nothing)

pub in_is : (comment : ℕ) (s : List ℕ) (from end : ℕ) (number : Number) → end ≡ run_end (is_word comment) s from →
    number ≡ number_of (take (end - from) (drop from s)) → record { number = number; end = end } ≡ number_in comment s from
unfolding number_in
in_is comment s from end number e f =
    let n : end - from ≡ run (is_word comment) (drop from s) = omega arith in
    rw (rw n at f, e)

-- ---- no byte that numbers are written with ends a word

other : (b c : ℕ) → is_spelling b ≡ true → is_spelling c ≡ false → is_before c b ≡ true
unfolding is_before
other b c some none = ap not (ne_eqb b c (λ (h : b ≡ c). true≢false (sym some ∙ ap is_spelling h ∙ none)))

spelling_word : (comment b : ℕ) → is_spelling comment ≡ false → is_spelling b ≡ true → is_word comment b ≡ true
unfolding is_word is_content is_filled is_blank is_before is_spelling is_digit is_letter is_capital is_small is_sign within both either
spelling_word comment b none some = both_true _ _ (both_true _ _ (other b comment some none) (both_true _ _ (other b 10 some refl) (other b 13 some refl))) filled
  where
    filled : is_filled b ≡ true
    filled = ap not (either_false _ _ (not-true (eqb b 32) (other b 32 some refl)) (not-true (eqb b 9) (other b 9 some refl)))

outside : (comment b : ℕ) → is_spelling comment ≡ false → is_word comment b ≡ false → is_spelling b ≡ false
outside comment b none over =
    by_cases _ (is_spelling b)
    (λ (e : is_spelling b ≡ true). absurd (true≢false (sym (spelling_word comment b none e) ∙ over)))
    (λ (e : is_spelling b ≡ false). e)

-- ---- after one letter

module _ (s : List ℕ) (at near : ℕ) (there : at < length s) (past : near ≡ (provided is_letter (get_or s at 0) then at + 1 else at)) where
  past_near : near ≤ at + 1
  past_near =
      by_cases _ (is_letter (get_or s at 0))
      (λ (e : is_letter (get_or s at 0) ≡ true). let k : near ≡ at + 1 = past ∙ if_true _ _ e in omega arith)
      (λ (e : is_letter (get_or s at 0) ≡ false). let k : near ≡ at = past ∙ if_false _ _ e in omega arith)

  -- the letters from there on have the same end
  past_more : run_end is_letter s near ≡ run_end is_letter s at
  past_more =
      by_cases _ (is_letter (get_or s at 0))
      (λ (e : is_letter (get_or s at 0) ≡ true).
      let k : near ≡ at + 1 = past ∙ if_true _ _ e in
      let r : run is_letter (drop at s) ≡ suc (run is_letter (drop (at + 1) s)) = run_on is_letter s at there e in
      rw k (omega arith))
      (λ (e : is_letter (get_or s at 0) ≡ false). ap (run_end is_letter s) (past ∙ if_false _ _ e))

  -- if there is no letter, they end there
  past_all : near < length s → is_letter (get_or s near 0) ≡ false → near ≡ run_end is_letter s at
  past_all h e =
      let r : run is_letter (drop near s) ≡ 0 = run_stop is_letter s near h e in
      let m : near + run is_letter (drop near s) ≡ run_end is_letter s at = past_more in
      omega arith

-- ---- as `short_number` and `scaled_in` use them

module _ (comment : ℕ) (s : List ℕ) (from : ℕ) (quiet : is_spelling comment ≡ false) (inside : from < length s) (room : 40 ≤ length s - from) (p : Parts) (read : PartsRead (take (length s - from) (drop from s)) p) where
  rest_read : PartsRead (drop from s) p
  rest_read =
      let n : length (drop from s) ≡ length s - from = length-drop from s in
      let e : take (length s - from) (drop from s) ≡ drop from s = take_all (length s - from) (drop from s) (omega arith) in
      rw e at read

  known : (number : Number) (end : ℕ) → (number ≡ number_of (word (is_word comment) (drop from s))) × (end ≡ run_end (is_word comment) s from) → Knows comment s from (Some (record { number = number; end = end }))
  unfolding number_in word
  known number end e = rw (e.0, e.1)

  pub number_plain : (t : Bool) (r : Number) → t ≡ is_word comment p.next → t ≡ false → not p.digits.some ≡ false → Says p (record { up = 0; down = 0 }) r → Knows comment s from (Some (record { number = r; end = from + p.exponent.end }))
  number_plain t r told off n v =
      known r (from + p.exponent.end) (plain_here (is_word comment) (λ (b : ℕ) (e : is_word comment b ≡ false). outside comment b quiet e) s from (omega arith) p rest_read r (sym told ∙ off) n v)

  module _ (b : Bool) (letter : b ≡ is_letter p.next) (on : not b ≡ false) (near : ℕ) (past : near ≡ (provided is_letter (get_or s (from + p.exponent.end + 1) 0) then from + p.exponent.end + 1 + 1 else from + p.exponent.end + 1)) where
    behind : from + p.exponent.end + 1 < length s
    behind =
        let k : p.exponent.end ≤ 32 = read.parts_short in
        omega arith

    near_there : near < length s
    near_there =
        let k : p.exponent.end ≤ 32 = read.parts_short in
        let l : near ≤ from + p.exponent.end + 1 + 1 = past_near s (from + p.exponent.end + 1) near behind past in
        omega arith

    scaled : (end : ℕ) (scale : Scale) (r : Number) → end ≡ run_end is_letter s (from + p.exponent.end + 1) → ((length s ≤ end) ⊎ (is_word comment (get_or s end 0) ≡ false)) → scale ≡ scale_of p.next → not p.digits.some ≡ false → Says p scale r → Knows comment s from (Some (record { number = r; end = end }))
    scaled end scale r ends over told n v =
        known r end (scaled_here (is_word comment) (λ (c : ℕ) (e : is_word comment c ≡ false). outside comment c quiet e) s from (omega arith) p rest_read (sym letter ∙ not-false b on) end scale r ends over told n v)

    -- the word ends after one letter or two
    pub scaled_short : (t : Bool) (scale : Scale) (r : Number) → t ≡ is_word comment (get_or s near 0) → not t ≡ true → scale ≡ scale_of p.next → not p.digits.some ≡ false → Says p scale r → Knows comment s from (Some (record { number = r; end = near }))
    scaled_short t scale r is over told n v =
        let o : is_word comment (get_or s near 0) ≡ false = sym is ∙ not-true t over in
        scaled near scale r (past_all s (from + p.exponent.end + 1) near behind past near_there (none_letter (get_or s near 0) (outside comment (get_or s near 0) quiet o))) (inr o) told n v

    -- the word ends after more letters
    pub scaled_long : (end : ℕ) (t : Bool) (scale : Scale) (r : Number) → end ≡ run_end is_letter s near → t ≡ both (ltb end (length s)) (is_word comment (get_or s end 0)) → t ≡ false → scale ≡ scale_of p.next → not p.digits.some ≡ false → Says p scale r → Knows comment s from (Some (record { number = r; end = end }))
    scaled_long end t scale r ends is over told n v = scaled end scale r (ends ∙ past_more s (from + p.exponent.end + 1) near behind past) stop told n v
      where
        stop : (length s ≤ end) ⊎ (is_word comment (get_or s end 0) ≡ false)
        stop =
            by_cases _ (ltb end (length s))
            (λ (e : ltb end (length s) ≡ true). inr (sym (both_rest _ _ e) ∙ sym is ∙ over))
            (λ (e : ltb end (length s) ≡ false). inl (ltb-false end (length s) e))
