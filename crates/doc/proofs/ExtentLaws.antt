-- Laws of the words of a line and their offsets in the text: what a span marks is the word of the definition.
-- Assumes nothing.
use mathlib.Core.Path.{◌≡◌, refl, sym, ◌∙◌, ap}
use mathlib.Core.Bool.{true, false}
use mathlib.Core.List.{List, []}
use Prim.Native.Nat.{ℕ, ◌+◌, ◌-◌, ◌≤◌, ◌<◌}
use native.Mathlib.Nat.{add-zero}
use native.Mathlib.Omega.{arith}
use lib.ListN.{length, take, drop, length-drop}
use lib.Seq.{length-take-le}
use lib.Dec.{leb}
use borrow.Author.Tests.{le-leb, lt-leb, leb-true, leb-false}
use Rattle.base.proofs.IfLaws.{if_true, if_false, by_cases}
use Rattle.lex_line.specs.Words.{Word, words_from}
use Rattle.lex_line.specs.Way.Spans.{word_span}
use Rattle.lex_line.specs.declared.Span.{Span}
use Rattle.lex_line.proofs.WordLaws.{words_none, words_at, word_ordered, word_within, start_on}
use Rattle.lex_keyword.specs.Bracket.{bracket_of}
use Rattle.lex_keyword.specs.declared.Bracket.{Bracket}
use Rattle.lex_keyword.specs.declared.Bracket.TheVariants.{Plain, Indented, Bad, Unknown, Later, Keyword}
use Rattle.lex_keyword.proofs.AnswerLaws.{keyword_known}
use Rattle.doc.specs.Lines.{argument_in, no_word, first_word, second_word}
use Rattle.doc.specs.Way.Found.{extent_of, extent_at, content_in, Located}
use Rattle.doc.specs.declared.Found.{Found}
use Rattle.doc.specs.declared.Extent.{Extent}

module _ (s : List ℕ) (offset : ℕ) (word : Span) where
  pub mark_none : length s ≤ word.start → record { start = 0; size = 0 } ≡ extent_at s offset word
  unfolding extent_at
  mark_none h = sym (if_true _ _ (le-leb _ _ h))

  pub mark_some : word.start < length s → record { start = offset + word.start; size = word.end - word.start } ≡ extent_at s offset word
  unfolding extent_at
  mark_some h = sym (if_false _ _ (lt-leb _ _ h))

-- ---- the first word and the second

marked_at : (s : List ℕ) (start : ℕ) (word : Span) → word.start ≤ word.end → word.end ≤ length s → record { start = start; size = word.end - word.start } ≡ extent_of (record { start = start; text = take (word.end - word.start) (drop word.start s) })
unfolding extent_of
marked_at s start word h k =
    let l : length (drop word.start s) ≡ length s - word.start = length-drop word.start s in
    let m : length (take (word.end - word.start) (drop word.start s)) ≡ word.end - word.start = length-take-le _ (drop word.start s) (omega arith) in
    λ i. record { start = start; size = sym m i }

no_mark : extent_of no_word ≡ record { start = 0; size = 0 }
unfolding extent_of no_word
no_mark = refl

-- the first of the words from an offset of s on
module _ (s : List ℕ) (offset from : ℕ) (h : from ≤ length s) where
  mark_first : extent_at s offset (word_span s from) ≡ extent_of (first_word (words_from (offset + from) (drop from s)))
  mark_first =
      by_cases _ (leb (length s) (word_span s from).start)
      (λ (e : leb (length s) (word_span s from).start ≡ true).
      let z : words_from (offset + from) (drop from s) ≡ [] = words_none offset s from (leb-true _ _ e) in
      rw z (sym (mark_none s offset (word_span s from) (leb-true _ _ e)) ∙ sym no_mark))
      (λ (e : leb (length s) (word_span s from).start ≡ false).
      rw (words_at offset s from (leb-false _ _ e)) (sym (mark_some s offset (word_span s from) (leb-false _ _ e)) ∙ marked))
    where
      marked : record { start = offset + (word_span s from).start; size = (word_span s from).end - (word_span s from).start } ≡ extent_of (record { start = offset + (word_span s from).start; text = take ((word_span s from).end - (word_span s from).start) (drop (word_span s from).start s) })
      marked = marked_at s (offset + (word_span s from).start) (word_span s from) (word_ordered s from (word_span s from) refl) (word_within s from (word_span s from) refl h)

module _ (s : List ℕ) (offset : ℕ) (first : Span) (is_first : first ≡ word_span s 0) (r : Extent) where
  pub first_marked : r ≡ extent_at s offset first → r ≡ extent_of (first_word (words_from offset s))
  first_marked e =
      e ∙ ap (extent_at s offset) is_first ∙ mark_first s offset 0 (omega arith)
      ∙ ap (λ (o : ℕ). extent_of (first_word (words_from o s))) (add-zero offset)

  pub second_marked : (second : Span) → second ≡ word_span s first.end → r ≡ extent_at s offset second → r ≡ extent_of (second_word (words_from offset s))
  second_marked second is_second e =
      let w : second ≡ word_span s (word_span s 0).end = is_second ∙ ap (λ (x : Span). word_span s x.end) is_first in
      let z : words_from (offset + 0) (drop 0 s) ≡ words_from offset s = ap (λ (o : ℕ). words_from o s) (add-zero offset) in
      e ∙ ap (extent_at s offset) w
      ∙ by_cases (extent_at s offset (word_span s (word_span s 0).end) ≡ extent_of (second_word (words_from offset s))) (leb (length s) (word_span s 0).start)
      (λ (b : leb (length s) (word_span s 0).start ≡ true). none_second (leb-true _ _ b) (sym z ∙ words_none offset s 0 (leb-true _ _ b)))
      (λ (b : leb (length s) (word_span s 0).start ≡ false).
      mark_first s offset (word_span s 0).end (word_within s 0 (word_span s 0) refl (omega arith)) ∙ ap (λ (ws : List Word). extent_of (second_word ws)) (sym (words_at offset s 0 (leb-false _ _ b)) ∙ z))
    where
      none_second : length s ≤ (word_span s 0).start → words_from offset s ≡ [] → extent_at s offset (word_span s (word_span s 0).end) ≡ extent_of (second_word (words_from offset s))
      none_second h z =
          let o : (word_span s 0).start ≤ (word_span s 0).end = word_ordered s 0 (word_span s 0) refl in
          let k : (word_span s 0).end ≤ (word_span s (word_span s 0).end).start = start_on s (word_span s 0).end in
          rw z (sym (mark_none s offset (word_span s (word_span s 0).end) (omega arith)) ∙ sym no_mark)

-- ---- arguments

pub argument_in_line : (content : List ℕ) (b : Bracket) → bracket_of content ≡ b → argument_in b ≤ length content
argument_in_line content Plain e = omega arith
argument_in_line content Indented e = omega arith
argument_in_line content Bad e = omega arith
argument_in_line content Unknown e = omega arith
argument_in_line content Later e = omega arith
argument_in_line content (Keyword k start) e = (keyword_known k start content e).inside

module _ (t : List ℕ) (f : Found) (located : Located t f) where
  content_long : length (content_in t f) ≡ f.end - f.at
  content_long =
      let l : length (drop f.at t) ≡ length t - f.at = length-drop f.at t in
      let w : f.end ≤ length t = located.within in
      length-take-le _ (drop f.at t) (omega arith)

  pub argument_within : f.at + f.argument ≤ length t
  argument_within =
      let l : length (content_in t f) ≡ f.end - f.at = content_long in
      let a : argument_in (bracket_of (content_in t f)) ≤ length (content_in t f) = argument_in_line (content_in t f) _ refl in
      let e : f.argument ≡ argument_in (bracket_of (content_in t f)) = located.argument_is in
      let w : f.end ≤ length t = located.within in
      let o : f.at ≤ f.end = located.ordered in
      omega arith
