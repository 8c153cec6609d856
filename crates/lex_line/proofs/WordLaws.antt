-- Laws of words: the word found at a position, and the list of words from there on.
-- Assumes nothing.
use mathlib.Core.Path.{◌≡◌, refl, sym, ◌∙◌, ap}
use mathlib.Core.Bool.{Bool, true, false}
use mathlib.Core.List.{List, [], ◌∷◌, map, reverse, reverse-append}
use Prim.Native.Nat.{ℕ, suc, ◌+◌, ◌-◌, ◌≤◌, ◌<◌, min, zero-le}
use native.Mathlib.Nat.{not-suc-le-zero, add-zero, add-suc, suc-add, le_refl}
use native.Mathlib.Numerals.{add-one}
use native.Mathlib.Omega.{arith}
use lib.ListN.{length, take, drop, get_or, length-drop, drop_of_length-le}
use lib.Seq.{drop-drop, get_or-drop, take-suc, take-nil, take_all}
use lib.Dec.{ltb}
use borrow.Author.Tests.{ltb-true, ltb-false}
use Rattle.base.specs.If.{provided◌then◌else◌}
use Rattle.base.specs.Bytes.{is_blank, is_filled}
use Rattle.base.specs.Runs.{run}
use Rattle.base.specs.Way.Class.{run_end}
use Rattle.base.proofs.IfLaws.{if_true, if_false, by_cases, not_via, not_not_via}
use Rattle.base.proofs.RunLaws.{run_nil, run_goes, run_stops, run_le, run_on, run_end_at}
use Rattle.lex_line.specs.Words.{Word, word_goes_on, grown, words_from, back_run, words, first_of, second_of}
use Rattle.lex_line.specs.Way.Spans.{word_span, first_two_of, marked_by}
use Rattle.lex_line.specs.declared.Span.{Span}
use Rattle.lex_line.specs.declared.FirstTwo.{FirstTwo}

filled_not : (b : ℕ) → is_blank b ≡ true → is_filled b ≡ false
unfolding is_filled
filled_not b e = not_not_via e

blank_not : (b : ℕ) → is_blank b ≡ false → is_filled b ≡ true
unfolding is_filled
blank_not b e = not_via e

words_cons : (a b : ℕ) (s : List ℕ) → words_from a (b ∷ s) ≡ (provided is_blank b then words_from (suc a) s else provided word_goes_on s then grown a b (words_from (suc a) s) else record { start = a; text = b ∷ [] } ∷ words_from (suc a) s)
unfolding words_from
words_cons a b s = refl

words_nil : (a : ℕ) → words_from a [] ≡ []
unfolding words_from
words_nil a = refl

-- blanks in front do not count
words_blanks : (a : ℕ) (s : List ℕ) → words_from a s ≡ words_from (a + run is_blank s) (drop (run is_blank s) s)
words_blanks a [] = rw (run_nil is_blank) (words_nil a ∙ sym (words_nil (a + 0)))
words_blanks a (b ∷ s) =
    by_cases (words_from a (b ∷ s) ≡ words_from (a + run is_blank (b ∷ s)) (drop (run is_blank (b ∷ s)) (b ∷ s))) (is_blank b)
    (λ (e : is_blank b ≡ true). rw (run_goes is_blank b s e, add-suc, ← suc-add) (words_cons a b s ∙ if_true _ _ e ∙ words_blanks (suc a) s))
    (λ (e : is_blank b ≡ false). rw (run_stops is_blank b s e, add-zero))

-- the word in front, and the words after it
abbrev word_of : ℕ → List ℕ → List Word
word_of a s = record { start = a; text = take (run is_filled s) s } ∷ words_from (a + run is_filled s) (drop (run is_filled s) s)

word_goes : (a b : ℕ) (s : List ℕ) → is_blank b ≡ false → word_goes_on s ≡ true → words_from (suc a) s ≡ word_of (suc a) s → words_from a (b ∷ s) ≡ word_of a (b ∷ s)
unfolding grown
word_goes a b s e g k =
    rw (run_goes is_filled b s (blank_not b e), add-suc, ← suc-add) (words_cons a b s ∙ if_false _ _ e ∙ if_true _ _ g ∙ ap (grown a b) k)

word_stops : (a b : ℕ) (s : List ℕ) → is_blank b ≡ false → word_goes_on s ≡ false → run is_filled s ≡ 0 → words_from a (b ∷ s) ≡ word_of a (b ∷ s)
word_stops a b s e g z =
    let r : run is_filled (b ∷ s) ≡ 1 = run_goes is_filled b s (blank_not b e) ∙ ap suc z in
    let o : a + 1 ≡ suc a = omega arith in
    rw (r, o) (words_cons a b s ∙ if_false _ _ e ∙ if_false _ _ g)

words_word : (a b : ℕ) (s : List ℕ) → is_blank b ≡ false → words_from a (b ∷ s) ≡ word_of a (b ∷ s)
unfolding word_goes_on
words_word a b [] e = word_stops a b [] e refl (run_nil is_filled)
words_word a b (c ∷ s) e =
    by_cases (words_from a (b ∷ c ∷ s) ≡ word_of a (b ∷ c ∷ s)) (is_blank c)
    (λ (f : is_blank c ≡ true). word_stops a b (c ∷ s) e (filled_not c f) (run_stops is_filled c s (filled_not c f)))
    (λ (f : is_blank c ≡ false). word_goes a b (c ∷ s) e (blank_not c f) (words_word (suc a) c s f))

words_of : (a : ℕ) (s : List ℕ) → 0 < length s → is_blank (get_or s 0 0) ≡ false → words_from a s ≡ word_of a s
words_of a [] h e = absurd (not-suc-le-zero h)
words_of a (b ∷ s) h e = words_word a b s e

module _ (o : ℕ) (s : List ℕ) (from : ℕ) where
  -- blanks at `from` may be skipped
  words_past : words_from (o + from) (drop from s) ≡ words_from (o + run_end is_blank s from) (drop (run_end is_blank s from) s)
  words_past =
      let d : drop (run is_blank (drop from s)) (drop from s) ≡ drop (from + run is_blank (drop from s)) s = drop-drop _ from s in
      let n : o + from + run is_blank (drop from s) ≡ o + (from + run is_blank (drop from s)) = omega arith in
      words_blanks (o + from) (drop from s) ∙ rw (d, n)

  word_placed : (st : ℕ) → word_of (o + st) (drop st s) ≡ record { start = o + st; text = take (run_end is_filled s st - st) (drop st s) } ∷ words_from (o + run_end is_filled s st) (drop (run_end is_filled s st) s)
  word_placed st =
      let n : run_end is_filled s st - st ≡ run is_filled (drop st s) = omega arith in
      let m : o + st + run is_filled (drop st s) ≡ o + (st + run is_filled (drop st s)) = omega arith in
      let d : drop (run is_filled (drop st s)) (drop st s) ≡ drop (st + run is_filled (drop st s)) s = drop-drop _ st s in
      rw (n, m, d)

  -- no word is left
  pub words_none : length s ≤ (word_span s from).start → words_from (o + from) (drop from s) ≡ []
  unfolding word_span
  words_none h = words_past ∙ rw (drop_of_length-le s h) (words_nil (o + run_end is_blank s from))

  -- the word that `word_span` finds, and the words from its end on
  pub words_at : (word_span s from).start < length s → words_from (o + from) (drop from s) ≡ record { start = o + (word_span s from).start; text = take ((word_span s from).end - (word_span s from).start) (drop (word_span s from).start s) } ∷ words_from (o + (word_span s from).end) (drop (word_span s from).end s)
  unfolding word_span
  words_at h =
      let st : ℕ = run_end is_blank s from in
      let l : length (drop st s) ≡ length s - st = length-drop st s in
      let p : 0 < length (drop st s) = omega arith in
      let z : st + 0 ≡ st = add-zero st in
      let b : is_blank (get_or (drop st s) 0 0) ≡ false = rw (get_or-drop st s 0 0, z) (run_end_at is_blank s from h) in
      words_past ∙ words_of (o + st) (drop st s) p b ∙ word_placed st

-- ---- runs counted backwards

back_cons : (p : ℕ → Bool) (s : List ℕ) (j : ℕ) → j < length s → back_run p s (suc j) ≡ run p (get_or s j 0 ∷ reverse (take j s))
unfolding back_run
back_cons p s j h = rw (take-suc s j 0 h, reverse-append (take j s) (get_or s j 0 ∷ []))

-- one byte further on
module _ (p : ℕ → Bool) (s : List ℕ) (j : ℕ) (h : j < length s) where
  pub back_grows : p (get_or s j 0) ≡ true → back_run p s (j + 1) ≡ back_run p s j + 1
  unfolding back_run
  back_grows e = rw (add-one j) (back_cons p s j h ∙ run_goes p _ _ e ∙ sym (add-one _))

  pub back_ends : p (get_or s j 0) ≡ false → back_run p s (j + 1) ≡ 0
  back_ends e = rw (add-one j) (back_cons p s j h ∙ run_stops p _ _ e)

pub back_zero : (p : ℕ → Bool) (s : List ℕ) → back_run p s 0 ≡ 0
unfolding back_run
back_zero p s = run_nil p

-- the run before the end of all bytes, and before a position as before the end of the bytes up to there
pub back_whole : (p : ℕ → Bool) (s : List ℕ) → run p (reverse s) ≡ back_run p s (length s)
unfolding back_run
back_whole p s = ap (λ (u : List ℕ). run p (reverse u)) (sym (take_all (length s) s (le_refl (length s))))

pub back_front : (p : ℕ → Bool) (s : List ℕ) (from : ℕ) → back_run p (take from s) (length (take from s)) ≡ back_run p s from
unfolding back_run
back_front p s from = sym (back_whole p (take from s))

-- ---- the words of a line, as their bytes

-- the words from a position on
abbrev pub words_after : List ℕ → ℕ → List (List ℕ)
words_after s from = map (λ (w : Word). w.text) (words_from (0 + from) (drop from s))

words_whole : (s : List ℕ) → words_after s 0 ≡ words s
words_whole s = refl

pub after_at : (s : List ℕ) (from : ℕ) → (word_span s from).start < length s → words_after s from ≡ marked_by s (word_span s from) ∷ words_after s (word_span s from).end
after_at s from h = ap (map (λ (w : Word). w.text)) (words_at 0 s from h)

pub after_none : (s : List ℕ) (from : ℕ) → length s ≤ (word_span s from).start → words_after s from ≡ []
after_none s from h = ap (map (λ (w : Word). w.text)) (words_none 0 s from h)

-- if no word is left, the span is empty
part_none : (s : List ℕ) (from : ℕ) → length s ≤ (word_span s from).start → marked_by s (word_span s from) ≡ []
unfolding word_span
part_none s from h =
    let n : ℕ = run_end is_filled s (run_end is_blank s from) - run_end is_blank s from in
    ap (take n) (drop_of_length-le s h) ∙ take-nil n

first_after : (s : List ℕ) (from : ℕ) → first_of (words_after s from) ≡ marked_by s (word_span s from)
first_after s from =
    by_cases _ (ltb (word_span s from).start (length s)) (λ (e : ltb (word_span s from).start (length s) ≡ true). ap first_of (after_at s from (ltb-true _ _ e)))
    (λ (e : ltb (word_span s from).start (length s) ≡ false). ap first_of (after_none s from (ltb-false _ _ e)) ∙ sym (part_none s from (ltb-false _ _ e)))

pub start_on : (s : List ℕ) (from : ℕ) → from ≤ (word_span s from).start
unfolding word_span
start_on s from = omega arith

end_on : (s : List ℕ) (from : ℕ) → (word_span s from).start ≤ (word_span s from).end
unfolding word_span
end_on s from = omega arith

-- the bytes of the spans of the first two words of a line
pub few_first : (s : List ℕ) → marked_by s (first_two_of s).first ≡ first_of (words s)
unfolding first_two_of
few_first s = sym (first_after s 0)

pub few_second : (s : List ℕ) → marked_by s (first_two_of s).second ≡ second_of (words s)
unfolding first_two_of
few_second s =
    let one : ℕ = (word_span s 0).end in
    let a : (word_span s 0).start ≤ one = end_on s 0 in
    let b : one ≤ (word_span s one).start = start_on s one in
    by_cases (marked_by s (word_span s one) ≡ second_of (words s)) (ltb (word_span s 0).start (length s))
    (λ (e : ltb (word_span s 0).start (length s) ≡ true). sym (ap second_of (after_at s 0 (ltb-true _ _ e)) ∙ first_after s one))
    (λ (e : ltb (word_span s 0).start (length s) ≡ false).
    let g : length s ≤ (word_span s 0).start = ltb-false _ _ e in
    part_none s one (omega arith) ∙ sym (ap second_of (after_none s 0 g)))

-- the spans of the first two words of a line lie within it
within_line : (s : List ℕ) (from : ℕ) → from ≤ length s → (word_span s from).end ≤ length s
unfolding word_span
within_line s from h =
    let st : ℕ = run_end is_blank s from in
    let a : run is_blank (drop from s) ≤ length (drop from s) = run_le is_blank (drop from s) in
    let b : length (drop from s) ≡ length s - from = length-drop from s in
    let c : run is_filled (drop st s) ≤ length (drop st s) = run_le is_filled (drop st s) in
    let d : length (drop st s) ≡ length s - st = length-drop st s in
    omega arith

module _ (s : List ℕ) (few : FirstTwo) (told : few ≡ first_two_of s) where
  pub first_ordered : few.first.start ≤ few.first.end
  unfolding first_two_of
  first_ordered = rw told (end_on s 0)

  pub first_within : few.first.end ≤ length s
  unfolding first_two_of
  first_within = rw told (within_line s 0 zero-le)

  pub second_ordered : few.second.start ≤ few.second.end
  unfolding first_two_of
  second_ordered = rw told (end_on s (word_span s 0).end)

  pub second_within : few.second.end ≤ length s
  unfolding first_two_of
  second_within = rw told (within_line s (word_span s 0).end (within_line s 0 zero-le))

  pub first_marked : marked_by s few.first ≡ first_of (words s)
  first_marked = rw told (few_first s)

  pub second_marked : marked_by s few.second ≡ second_of (words s)
  second_marked = rw told (few_second s)

-- the count of words, by the first position at which no word is left
module _ (s : List ℕ) (first second : Span) (third : ℕ) (one : first ≡ word_span s 0) (two : second ≡ word_span s first.end) (three : third ≡ run_end is_blank s second.end) where
  few_counted : (n : ℕ) → min 3 (length (words s)) ≡ n → record { count = n; first = first; second = second } ≡ first_two_of s
  unfolding first_two_of
  few_counted n e =
      let f : second ≡ word_span s (word_span s 0).end = two ∙ ap (λ (w : Span). word_span s w.end) one in
      λ i. record { count = sym e i; first = one i; second = f i }

  pub few_none : length s ≤ first.start → record { count = 0; first = first; second = second } ≡ first_two_of s
  few_none h =
      let w : words s ≡ [] = after_none s 0 (rw one at h) in
      let l : length (words s) ≡ 0 = ap length w in
      few_counted 0 (omega arith)

  first_there : first.start < length s → words s ≡ marked_by s first ∷ words_after s first.end
  first_there h = rw one (after_at s 0 (rw one at h))

  second_there : second.start < length s → words_after s first.end ≡ marked_by s second ∷ words_after s second.end
  second_there h = rw two (after_at s first.end (rw two at h))

  pub few_one : first.start < length s → length s ≤ second.start → record { count = 1; first = first; second = second } ≡ first_two_of s
  few_one h k =
      let n : length (words_after s first.end) ≡ 0 = ap length (after_none s first.end (rw two at k)) in
      let l : length (words s) ≡ suc (length (words_after s first.end)) = ap length (first_there h) in
      few_counted 1 (omega arith)

  -- only the start of the third word is looked for
  third_starts : third ≡ (word_span s second.end).start
  unfolding word_span
  third_starts = three

  pub few_two : first.start < length s → second.start < length s → length s ≤ third → record { count = 2; first = first; second = second } ≡ first_two_of s
  few_two h g k =
      let n : length (words_after s second.end) ≡ 0 = ap length (after_none s second.end (rw third_starts at k)) in
      let m : length (words_after s first.end) ≡ suc (length (words_after s second.end)) = ap length (second_there g) in
      let l : length (words s) ≡ suc (length (words_after s first.end)) = ap length (first_there h) in
      few_counted 2 (omega arith)

  third_there : third < length s → words_after s second.end ≡ marked_by s (word_span s second.end) ∷ words_after s (word_span s second.end).end
  third_there h = after_at s second.end (rw third_starts at h)

  pub few_three : first.start < length s → second.start < length s → third < length s → record { count = 3; first = first; second = second } ≡ first_two_of s
  few_three h g k =
      let n : length (words_after s second.end) ≡ suc (length (words_after s (word_span s second.end).end)) = ap length (third_there k) in
      let m : length (words_after s first.end) ≡ suc (length (words_after s second.end)) = ap length (second_there g) in
      let l : length (words s) ≡ suc (length (words_after s first.end)) = ap length (first_there h) in
      few_counted 3 (omega arith)

-- past the end of a line there is no word; a word that is there has a byte, and lies within the line
pub after_past : (s : List ℕ) (from : ℕ) → length s ≤ from → words_after s from ≡ []
after_past s from h =
    let a : from ≤ (word_span s from).start = start_on s from in
    after_none s from (omega arith)

pub end_past : (s : List ℕ) (from : ℕ) (word : Span) → word ≡ word_span s from → word.start < length s → from < word.end
unfolding word_span
end_past s from word e h =
    let st : ℕ = run_end is_blank s from in
    let g : st < length s = rw e at h in
    let b : is_blank (get_or s st 0) ≡ false = run_end_at is_blank s from g in
    let r : run is_filled (drop st s) ≡ suc (run is_filled (drop (st + 1) s)) = run_on is_filled s st g (blank_not _ b) in
    rw e (omega arith)

pub word_ordered : (s : List ℕ) (from : ℕ) (word : Span) → word ≡ word_span s from → word.start ≤ word.end
word_ordered s from word e = rw e (end_on s from)

pub word_within : (s : List ℕ) (from : ℕ) (word : Span) → word ≡ word_span s from → from ≤ length s → word.end ≤ length s
word_within s from word e h = rw e (within_line s from h)

pub first_at : (s : List ℕ) (word : Span) (part : List ℕ) → word ≡ word_span s 0 → part ≡ marked_by s word → part ≡ first_of (words s)
first_at s word part e h = h ∙ ap (marked_by s) e ∙ sym (first_after s 0)
