-- Laws of lines: the line at a position, where the next line starts, and the list of lines from there on.
-- Assumes nothing.
use mathlib.Core.Path.{◌≡◌, refl, sym, ◌∙◌, ap}
use mathlib.Core.Bool.{Bool, true, false, not}
use mathlib.Core.List.{List, [], ◌∷◌, map}
use Prim.Native.Nat.{ℕ, suc, ◌+◌, ◌-◌, ◌≤◌, ◌<◌, zero-le, suc-le-suc}
use native.Mathlib.Nat.{not-suc-le-zero}
use native.Mathlib.Omega.{arith}
use lib.ListN.{length, take, drop, get_or, length-drop, drop_of_length-le, get_or-eq_default}
use lib.Seq.{drop-drop, take-take, length-take-le}
use lib.Dec.{ltb, eqb, leb-suc-suc}
use borrow.Author.Tests.{not-true, ne_eqb, lt-ltb, le-ltb, ltb-true, ltb-false}
use Rattle.base.specs.If.{provided◌then◌else◌}
use Rattle.base.specs.Bytes.{line_feed, is_before, is_content}
use Rattle.base.specs.Runs.{run}
use Rattle.base.specs.Way.Class.{run_end}
use Rattle.base.proofs.IfLaws.{if_true, if_false, by_cases, both_first, both_second, not_via, not_not_via}
use Rattle.base.proofs.RunLaws.{run_nil, run_goes, run_stops, run_on, run_stop, run_past, run_le, run_through, run_wider, run_take}
use Rattle.lex_line.specs.Lines.{Raw, pushed, lines, content_of, comment_byte, Said, said, contents}
use Rattle.lex_line.specs.Way.LineEnds.{past_feed, line_at, said_at}

pub content_before_feed : (comment b : ℕ) → is_content comment b ≡ true → is_before line_feed b ≡ true
unfolding is_content
content_before_feed comment b e = both_first _ _ (both_second _ _ e)

feed_past : (t : List ℕ) (end : ℕ) → end < length t → past_feed t end ≡ end + 1
unfolding past_feed
feed_past t end h = if_true _ _ (lt-ltb _ _ h)

feed_none : (t : List ℕ) (end : ℕ) → length t ≤ end → past_feed t end ≡ end
unfolding past_feed
feed_none t end h = if_false _ _ (le-ltb _ _ h)

-- at an LF the search ends at once
pub feed_here : (t : List ℕ) (from b : ℕ) → b ≡ get_or t from 0 → b ≡ 10 → from ≡ run_end (is_before line_feed) t from
unfolding is_before
feed_here t from b told e =
    let stops : is_before line_feed (get_or t from 0) ≡ false = ap (is_before line_feed) (sym told ∙ e) in
    let k : run (is_before line_feed) (drop from t) ≡ 0 = by_cases _ (ltb from (length t)) (λ (h : ltb from (length t) ≡ true). run_stop (is_before line_feed) t from (ltb-true _ _ h) stops) (λ (h : ltb from (length t) ≡ false). run_past (is_before line_feed) t from (ltb-false _ _ h)) in
    omega arith

-- past the end of the text the search ends at once too
pub feed_ended : (t : List ℕ) (from : ℕ) → length t ≤ from → from ≡ run_end (is_before line_feed) t from
feed_ended t from h =
    let k : run (is_before line_feed) (drop from t) ≡ 0 = run_past (is_before line_feed) t from h in
    omega arith

-- the LF is one byte further on
pub feed_next : (t : List ℕ) (from a b : ℕ) → from < length t → a ≡ get_or t from 0 → (a ≡ 10 → ⊥) → b ≡ get_or t (from + 1) 0 → b ≡ 10 → from + 1 ≡ run_end (is_before line_feed) t from
unfolding is_before
feed_next t from a b h told other next e =
    let goes : is_before line_feed (get_or t from 0) ≡ true = not_via (ne_eqb _ _ (λ (z : get_or t from 0 ≡ line_feed). other (told ∙ z))) in
    let r : run (is_before line_feed) (drop from t) ≡ suc (run (is_before line_feed) (drop (from + 1) t)) = run_on (is_before line_feed) t from h goes in
    let s : from + 1 ≡ run_end (is_before line_feed) t (from + 1) = feed_here t (from + 1) b next e in
    omega arith

-- the LF of a line is the same whether it is looked for from the line's start or from the end of its content
module _ (comment : ℕ) (t : List ℕ) (at content end : ℕ) (e : content ≡ run_end (is_content comment) t at) (f : end ≡ run_end (is_before line_feed) t content) where
  feed_through : end ≡ run_end (is_before line_feed) t at
  feed_through =
      f ∙ ap (run_end (is_before line_feed) t) e ∙ run_through (is_content comment) (is_before line_feed) (content_before_feed comment) t at

  line_next_lem : (next : ℕ) → past_feed t end ≡ next → record { content = content; next = next } ≡ line_at comment t at
  unfolding line_at
  line_next_lem next h =
      let k : next ≡ past_feed t (run_end (is_before line_feed) t at) = sym h ∙ ap (past_feed t) feed_through in
      λ i. record { content = e i; next = k i }

  pub line_ended : end < length t → record { content = content; next = end + 1 } ≡ line_at comment t at
  line_ended h = line_next_lem (end + 1) (feed_past t end h)

  pub line_unended : length t ≤ end → record { content = content; next = end } ≡ line_at comment t at
  line_unended h = line_next_lem end (feed_none t end h)

-- a line without content, and a line part of whose content is already skipped
module _ (comment : ℕ) (t : List ℕ) (at : ℕ) where
  pub content_none : length t ≤ at → at ≡ run_end (is_content comment) t at
  content_none h =
      let k : run (is_content comment) (drop at t) ≡ 0 = run_past (is_content comment) t at h in
      omega arith

  pub content_stops : (is : Bool) → at < length t → is ≡ is_content comment (get_or t at 0) → not is ≡ true → at ≡ run_end (is_content comment) t at
  content_stops is h told e =
      let k : run (is_content comment) (drop at t) ≡ 0 = run_stop (is_content comment) t at h (sym told ∙ not-true is e) in
      omega arith

  pub content_through : (mid content : ℕ) → comment ≡ 124 → content ≡ run_end (is_content comment_byte) t mid →
      run_end (is_content comment_byte) t mid ≡ run_end (is_content comment_byte) t at → content ≡ run_end (is_content comment) t at
  content_through mid content e f g = f ∙ g ∙ ap (λ (b : ℕ). run_end (is_content b) t at) (sym e)

-- a position with an LF is inside the text
pub feed_inside : (t : List ℕ) (i b : ℕ) → b ≡ get_or t i 0 → b ≡ 10 → i < length t
feed_inside t i b told e =
    by_cases _ (ltb i (length t)) (λ (h : ltb i (length t) ≡ true). ltb-true _ _ h)
    (λ (h : ltb i (length t) ≡ false).
    let z : get_or t i 0 ≡ 0 = get_or-eq_default t 0 (ltb-false _ _ h) in
    absurd (omega arith))

-- a line whose LF is right where its content ends
pub line_here_lem : (comment : ℕ) (t : List ℕ) (at content b : ℕ) → content ≡ run_end (is_content comment) t at → b ≡ get_or t content 0 → b ≡ 10 →
    record { content = content; next = content + 1 } ≡ line_at comment t at
line_here_lem comment t at content b is told e =
    line_ended comment t at content content is (feed_here t content b told e) (feed_inside t content b told e)

-- and where the next line starts, seen from there
pub next_here : (comment : ℕ) (t : List ℕ) (end b : ℕ) → b ≡ get_or t end 0 → b ≡ 10 → end + 1 ≡ (line_at comment t end).next
unfolding line_at
next_here comment t end b told e = sym (ap (past_feed t) (sym (feed_here t end b told e)) ∙ feed_past t end (feed_inside t end b told e))

-- ---- the first line of a text

feed_is : (b : ℕ) → eqb b line_feed ≡ true → is_before line_feed b ≡ false
unfolding is_before
feed_is b e = not_not_via e

feed_not : (b : ℕ) → eqb b line_feed ≡ false → is_before line_feed b ≡ true
unfolding is_before
feed_not b e = not_via e

-- the bytes of the first line, and whether it has an LF
abbrev pub first_of : List ℕ → Raw
first_of u = record { bytes = take (run (is_before line_feed) u) u; ended = ltb (run (is_before line_feed) u) (length u) }

abbrev rest_of : List ℕ → List ℕ
rest_of u = drop (suc (run (is_before line_feed) u)) u

lines_cons : (b : ℕ) (v : List ℕ) → lines (b ∷ v) ≡ (provided eqb b line_feed then record { bytes = []; ended = true } ∷ lines v else pushed b (lines v))
unfolding lines
lines_cons b v = refl

pub lines_nil : lines [] ≡ []
unfolding lines
lines_nil = refl

lines_feed : (b : ℕ) (v : List ℕ) → eqb b line_feed ≡ true → lines (b ∷ v) ≡ first_of (b ∷ v) ∷ lines (rest_of (b ∷ v))
lines_feed b v e =
    let r : run (is_before line_feed) (b ∷ v) ≡ 0 = run_stops _ b v (feed_is b e) in
    let l : ltb 0 (suc (length v)) ≡ true = lt-ltb 0 (suc (length v)) (suc-le-suc zero-le) in
    rw (r, l) (lines_cons b v ∙ if_true _ _ e)

lines_grow : (b : ℕ) (v : List ℕ) → eqb b line_feed ≡ false → lines v ≡ first_of v ∷ lines (rest_of v) → lines (b ∷ v) ≡ first_of (b ∷ v) ∷ lines (rest_of (b ∷ v))
unfolding pushed
lines_grow b v e k =
    let r : run (is_before line_feed) (b ∷ v) ≡ suc (run (is_before line_feed) v) = run_goes _ b v (feed_not b e) in
    let l : ltb (suc (run (is_before line_feed) v)) (suc (length v)) ≡ ltb (run (is_before line_feed) v) (length v) = leb-suc-suc (suc (run (is_before line_feed) v)) (length v) in
    rw (r, l) (lines_cons b v ∙ if_false _ _ e ∙ ap (pushed b) k)

lines_last : (b : ℕ) → eqb b line_feed ≡ false → lines (b ∷ []) ≡ first_of (b ∷ []) ∷ lines (rest_of (b ∷ []))
unfolding pushed
lines_last b e =
    let r : run (is_before line_feed) (b ∷ []) ≡ 1 = run_goes _ b [] (feed_not b e) ∙ ap suc (run_nil _) in
    rw (r, lines_nil) (lines_cons b [] ∙ if_false _ _ e ∙ ap (pushed b) lines_nil)

pub lines_first : (b : ℕ) (v : List ℕ) → lines (b ∷ v) ≡ first_of (b ∷ v) ∷ lines (rest_of (b ∷ v))
lines_first b [] = by_cases _ (eqb b line_feed) (lines_feed b []) (lines_last b)
lines_first b (c ∷ v) = by_cases _ (eqb b line_feed) (lines_feed b (c ∷ v)) (λ (e : eqb b line_feed ≡ false). lines_grow b (c ∷ v) e (lines_first c v))

lines_of : (u : List ℕ) → 0 < length u → lines u ≡ first_of u ∷ lines (rest_of u)
lines_of [] h = absurd (not-suc-le-zero h)
lines_of (b ∷ v) h = lines_first b v

-- ---- the line at a position of a text

module _ (comment : ℕ) (t : List ℕ) (at : ℕ) (h : at < length t) where
  rest_at : rest_of (drop at t) ≡ drop (line_at comment t at).next t
  unfolding line_at
  rest_at =
      let n : ℕ = run (is_before line_feed) (drop at t) in
      let d : drop (suc n) (drop at t) ≡ drop (at + suc n) t = drop-drop (suc n) at t in
      d ∙ by_cases (drop (at + suc n) t ≡ drop (past_feed t (at + n)) t) (ltb (at + n) (length t)) (λ (e : ltb (at + n) (length t) ≡ true). ended e) (λ (e : ltb (at + n) (length t) ≡ false). unended e)
    where
      ended : ltb (at + run (is_before line_feed) (drop at t)) (length t) ≡ true → drop (at + suc (run (is_before line_feed) (drop at t))) t ≡ drop (past_feed t (at + run (is_before line_feed) (drop at t))) t
      ended e =
          let s : at + suc (run (is_before line_feed) (drop at t)) ≡ at + run (is_before line_feed) (drop at t) + 1 = omega arith in
          let p : past_feed t (at + run (is_before line_feed) (drop at t)) ≡ at + run (is_before line_feed) (drop at t) + 1 = feed_past t _ (ltb-true _ _ e) in
          ap (λ (k : ℕ). drop k t) (s ∙ sym p)

      unended : ltb (at + run (is_before line_feed) (drop at t)) (length t) ≡ false → drop (at + suc (run (is_before line_feed) (drop at t))) t ≡ drop (past_feed t (at + run (is_before line_feed) (drop at t))) t
      unended e =
          let g : length t ≤ at + run (is_before line_feed) (drop at t) = ltb-false _ _ e in
          let l : length t ≤ at + suc (run (is_before line_feed) (drop at t)) = omega arith in
          drop_of_length-le t l ∙ sym (drop_of_length-le t g) ∙ ap (λ (k : ℕ). drop k t) (sym (feed_none t _ g))

  -- the lines from `at` on are the line there and the lines from its `next` on
  pub lines_at : lines (drop at t) ≡ first_of (drop at t) ∷ lines (drop (line_at comment t at).next t)
  lines_at =
      let l : length (drop at t) ≡ length t - at = length-drop at t in
      let p : 0 < length (drop at t) = omega arith in
      lines_of (drop at t) p ∙ ap (λ (r : List ℕ). first_of (drop at t) ∷ lines r) rest_at

  -- the next line starts further on, and within the text
  pub next_on : at < (line_at comment t at).next
  unfolding line_at
  next_on =
      by_cases (at < past_feed t (run_end (is_before line_feed) t at)) (ltb (run_end (is_before line_feed) t at) (length t))
      (λ (e : ltb (run_end (is_before line_feed) t at) (length t) ≡ true). let p : past_feed t (run_end (is_before line_feed) t at) ≡ run_end (is_before line_feed) t at + 1 = feed_past t _ (ltb-true _ _ e) in omega arith)
      (λ (e : ltb (run_end (is_before line_feed) t at) (length t) ≡ false). let g : length t ≤ run_end (is_before line_feed) t at = ltb-false _ _ e in let p : past_feed t (run_end (is_before line_feed) t at) ≡ run_end (is_before line_feed) t at = feed_none t _ g in omega arith)

  pub next_within : (line_at comment t at).next ≤ length t
  unfolding line_at
  next_within =
      let l : length (drop at t) ≡ length t - at = length-drop at t in
      let m : run (is_before line_feed) (drop at t) ≤ length (drop at t) = run_le _ (drop at t) in
      by_cases (past_feed t (run_end (is_before line_feed) t at) ≤ length t) (ltb (run_end (is_before line_feed) t at) (length t))
      (λ (e : ltb (run_end (is_before line_feed) t at) (length t) ≡ true). let f : run_end (is_before line_feed) t at < length t = ltb-true _ _ e in let p : past_feed t (run_end (is_before line_feed) t at) ≡ run_end (is_before line_feed) t at + 1 = feed_past t _ f in omega arith)
      (λ (e : ltb (run_end (is_before line_feed) t at) (length t) ≡ false). let g : length t ≤ run_end (is_before line_feed) t at = ltb-false _ _ e in let p : past_feed t (run_end (is_before line_feed) t at) ≡ run_end (is_before line_feed) t at = feed_none t _ g in omega arith)

  -- the next line starts right after the LF
  pub next_ended : (first_of (drop at t)).ended ≡ true → (line_at comment t at).next ≡ at + suc (run (is_before line_feed) (drop at t))
  unfolding line_at
  next_ended e =
      let l : length (drop at t) ≡ length t - at = length-drop at t in
      let k : run (is_before line_feed) (drop at t) < length (drop at t) = ltb-true _ _ e in
      let g : at + run (is_before line_feed) (drop at t) < length t = omega arith in
      let s : at + suc (run (is_before line_feed) (drop at t)) ≡ at + run (is_before line_feed) (drop at t) + 1 = omega arith in
      feed_past t (at + run (is_before line_feed) (drop at t)) g ∙ sym s

  -- or at the end of the text, if the line has no LF
  pub next_unended : (first_of (drop at t)).ended ≡ false → length t ≤ (line_at comment t at).next
  unfolding line_at
  next_unended e =
      let l : length (drop at t) ≡ length t - at = length-drop at t in
      let k : length (drop at t) ≤ run (is_before line_feed) (drop at t) = ltb-false _ _ e in
      let g : length t ≤ at + run (is_before line_feed) (drop at t) = omega arith in
      rw (feed_none t (at + run (is_before line_feed) (drop at t)) g) g

-- ---- the content of the line at a position

content_of_lem : (comment : ℕ) (u : List ℕ) → content_of comment (take (run (is_before line_feed) u) u) ≡ take (run (is_content comment) u) u
unfolding content_of
content_of_lem comment u =
    let w : run (is_content comment) u ≤ run (is_before line_feed) u = run_wider (is_content comment) (is_before line_feed) (content_before_feed comment) u in
    rw (run_take (is_content comment) u (run (is_before line_feed) u) w) (take-take _ _ u w)

-- the content of a line is the text from the start of the line to the end of its content
pub content_at_lem : (comment : ℕ) (t : List ℕ) (at : ℕ) → content_of comment (first_of (drop at t)).bytes ≡ take ((line_at comment t at).content - at) (drop at t)
unfolding line_at
content_at_lem comment t at =
    let k : at + run (is_content comment) (drop at t) - at ≡ run (is_content comment) (drop at t) = omega arith in
    rw k (content_of_lem comment (drop at t))

-- ---- what the lines from a position on say

contents_first : (u : List ℕ) (l : Raw) (v : List ℕ) → lines u ≡ l ∷ lines v → contents u ≡ said l ∷ contents v
unfolding contents
contents_first u l v e = ap (map said) e

said_at_lem : (t : List ℕ) (at : ℕ) → said (first_of (drop at t)) ≡ said_at t at
unfolding said
said_at_lem t at =
    let k : length (take (run (is_before line_feed) (drop at t)) (drop at t)) ≡ run (is_before line_feed) (drop at t) = length-take-le _ _ (run_le _ (drop at t)) in
    λ i. record { size = k i; content = content_at_lem comment_byte t at i }

-- the line there, and then the lines from its `next` on
pub contents_at : (t : List ℕ) (at : ℕ) → at < length t → contents (drop at t) ≡ said_at t at ∷ contents (drop (line_at comment_byte t at).next t)
contents_at t at h =
    contents_first _ _ _ (lines_at comment_byte t at h) ∙ ap (λ (s : Said). s ∷ contents (drop (line_at comment_byte t at).next t)) (said_at_lem t at)

-- there is none at the end of the text
pub contents_none : (t : List ℕ) (at : ℕ) → length t ≤ at → contents (drop at t) ≡ []
unfolding contents
contents_none t at h = ap (λ (u : List ℕ). map said (lines u)) (drop_of_length-le t h) ∙ ap (map said) lines_nil
