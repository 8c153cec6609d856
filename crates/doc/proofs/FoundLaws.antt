-- Laws of the lines from an offset on: blank lines that are skipped, the line that is found, and the end of the text.
-- Assumes nothing.
use mathlib.Core.Path.{◌≡◌, refl, sym, ◌∙◌, ap}
use mathlib.Core.Bool.{Bool, true, false, not, true≢false}
use mathlib.Core.List.{List, [], ◌∷◌}
use Prim.Native.Nat.{ℕ, suc, ◌+◌, ◌-◌, ◌≤◌, ◌<◌}
use native.Mathlib.Omega.{arith}
use lib.ListN.{length, take, drop, length-drop}
use borrow.Author.Tests.{not-true, not-false, eq-eqb, ne_eqb}
use Rattle.base.specs.Bytes.{line_feed, is_before, is_content}
use Rattle.base.specs.Runs.{run}
use Rattle.base.proofs.IfLaws.{by_cases, if_true, if_false}
use Rattle.base.proofs.RunLaws.{run_le}
use Rattle.lex_line.specs.Lines.{is_blank_line, comment_byte, contents}
use Rattle.lex_line.specs.Way.LineEnds.{line_at, content_at, said_at}
use Rattle.lex_line.specs.declared.Line as text
use Rattle.lex_line.proofs.LineLaws.{first_of, contents_at, contents_none, next_on, next_within, next_ended, next_unended}
use Rattle.lex_line.specs.Words.{words, first_of as first_word_of}
use Rattle.line_place.specs.Place.{moved, moved_by_line, map_head}
use Rattle.lex_keyword.specs.Bracket.{bracket_of}
use Rattle.lex_keyword.specs.declared.Bracket.{Bracket}
use Rattle.doc.specs.Lines.{Line, plain, lines_from, lines_at, place_after, key_in, argument_in, key_at}
use Rattle.doc.specs.Way.Found.{content_in, Located, FindsLine, cursor_past}
use Rattle.doc.specs.declared.Cursor.{Cursor}
use Rattle.doc.specs.declared.Found.{Found}
use Rattle.doc.proofs.Goes.{lines_blank, lines_said, lines_none}

module _ (t : List ℕ) (at : ℕ) (h : at < length t) where
  -- where the next line starts: after the LF, or at the end if nothing follows
  rest_same : (m q : ℕ) → lines_from m (at + (said_at t at).size + 1) q (contents (drop (line_at comment_byte t at).next t)) ≡ lines_at t m (line_at comment_byte t at).next q
  unfolding lines_at
  rest_same m q =
      by_cases _ (first_of (drop at t)).ended
      (λ (e : (first_of (drop at t)).ended ≡ true).
      let n : (line_at comment_byte t at).next ≡ at + suc (run (is_before line_feed) (drop at t)) = next_ended comment_byte t at h e in
      let o : at + run (is_before line_feed) (drop at t) + 1 ≡ (line_at comment_byte t at).next = omega arith in
      ap (λ (x : ℕ). lines_from m x q (contents (drop (line_at comment_byte t at).next t))) o)
      (λ (e : (first_of (drop at t)).ended ≡ false).
      rw (contents_none t _ (next_unended comment_byte t at h e)) (lines_none m _ q ∙ sym (lines_none m _ q)))

  module _ (n : ℕ) (ends : text.Line) (told : ends ≡ line_at comment_byte t at) where
    -- what the code cuts out is the line's content
    cut_content : take (ends.content - at) (drop at t) ≡ content_at t at
    cut_content = ap (λ (l : text.Line). take (l.content - at) (drop at t)) told

    -- a blank line is skipped
    pub pass_over : is_blank_line (take (ends.content - at) (drop at t)) ≡ true → (p : ℕ) → lines_at t n at p ≡ lines_at t (n + 1) ends.next p
    unfolding lines_at
    pass_over b p =
        ap (lines_from n at p) (contents_at t at h)
        ∙ lines_blank n at p (said_at t at) (contents (drop (line_at comment_byte t at).next t)) (ap is_blank_line (sym cut_content) ∙ b)
        ∙ rest_same (n + 1) p
        ∙ ap (λ (l : text.Line). lines_at t (n + 1) l.next p) (sym told)

    -- a significant line is the first of the lines from there
    pub stop_here : is_blank_line (take (ends.content - at) (drop at t)) ≡ false → (p : ℕ) →
        lines_at t n at p ≡ record { line = n; at = at; place = p; content = take (ends.content - at) (drop at t) } ∷ lines_at t (n + 1) ends.next (place_after p (take (ends.content - at) (drop at t)))
    unfolding lines_at
    stop_here b p =
        ap (lines_from n at p) (contents_at t at h)
        ∙ lines_said n at p (said_at t at) (contents (drop (line_at comment_byte t at).next t)) (ap is_blank_line (sym cut_content) ∙ b)
        ∙ ap (λ (ls : List Line). record { line = n; at = at; place = p; content = content_at t at } ∷ ls) (rest_same (n + 1) (place_after p (content_at t at)))
        ∙ (λ i. record { line = n; at = at; place = p; content = sym cut_content i } ∷ lines_at t (n + 1) (sym told i).next (place_after p (sym cut_content i)))

    pub next_further : at < ends.next
    next_further = rw told (next_on comment_byte t at h)

    pub search_less : length t - ends.next < length t - at
    search_less = let f : at < ends.next = next_further in omega arith

    pub next_inside : ends.next ≤ length t
    next_inside = rw told (next_within comment_byte t at h)

    pub content_ordered : at ≤ ends.content
    unfolding line_at
    content_ordered = rw told (omega arith)

    pub content_inside : ends.content ≤ length t
    unfolding line_at
    content_inside =
        let l : length (drop at t) ≡ length t - at = length-drop at t in
        let m : run (is_content comment_byte) (drop at t) ≤ length (drop at t) = run_le _ (drop at t) in
        rw told (omega arith)

-- nothing follows the end
pub nothing_left : (t : List ℕ) (n at p : ℕ) → length t ≤ at → lines_at t n at p ≡ []
unfolding lines_at
nothing_left t n at p h = ap (lines_from n at p) (contents_none t at h) ∙ lines_none n at p

-- ---- the invariant of the search for a line, and what it finds

-- the lines from where the search began are those from where it is now
pub record Onward (t : List ℕ) (n₀ at₀ n at : ℕ) : Type 0 where
  pub within : at ≤ length t
  pub counted : n ≤ at + 1
  pub behind : at₀ ≤ at
  pub same : (p : ℕ) → lines_at t n₀ at₀ p ≡ lines_at t n at p

pub search_starts : (t : List ℕ) (n at : ℕ) → at ≤ length t → n ≤ at + 1 → Onward t n at n at
search_starts t n at h k = record { within = h; counted = k; behind = omega arith; same = λ (p : ℕ). refl }

module _ (t : List ℕ) (n₀ at₀ n at : ℕ) (on : Onward t n₀ at₀ n at) where
  pub search_ends : length t ≤ at → FindsLine t n₀ at₀ (record { there = false; line = n; at = at; end = at; next = at; key = 41; argument = 0 })
  search_ends h =
      record {
        located = λ (e : false ≡ true). absurd (true≢false (sym e));
        behind = λ (e : false ≡ true). absurd (true≢false (sym e));
        same_there = λ (e : false ≡ true). absurd (true≢false (sym e));
        same_none = λ (e : false ≡ false) (p : ℕ). on.same p ∙ nothing_left t n at p h;
      }

  module _ (h : at < length t) (ends : text.Line) (told : ends ≡ line_at comment_byte t at) (blank : Bool) (is_blank_lem : blank ≡ is_blank_line (take (ends.content - at) (drop at t))) where
    pub search_on : not blank ≡ false → Onward t n₀ at₀ (n + 1) ends.next
    search_on b =
        let f : at < ends.next = next_further t at h n ends told in
        let c : n ≤ at + 1 = on.counted in
        let a : at₀ ≤ at = on.behind in
        record {
          within = next_inside t at h n ends told;
          counted = omega arith;
          behind = omega arith;
          same = λ (p : ℕ). on.same p ∙ pass_over t at h n ends told (sym is_blank_lem ∙ not-false blank b) p;
        }

    pub search_finds :
        not blank ≡ true → (bracket : Bracket) → bracket ≡ bracket_of (take (ends.content - at) (drop at t)) → (key : ℕ) → key ≡ key_in bracket → (argument : ℕ) → argument ≡ argument_in bracket →
        FindsLine t n₀ at₀ (record { there = true; line = n; at = at; end = ends.content; next = ends.next; key = key; argument = argument })
    unfolding key_at
    search_finds b bracket is_bracket key is_key argument is_argument =
        record {
          located =
              λ (e : true ≡ true).
              record {
                ordered = content_ordered t at h n ends told;
                within = content_inside t at h n ends told;
                further = next_further t at h n ends told;
                next_within = next_inside t at h n ends told;
                counted = on.counted;
                key_is = is_key ∙ ap key_in is_bracket;
                argument_is = is_argument ∙ ap argument_in is_bracket;
              };
          behind = λ (e : true ≡ true). on.behind;
          same_there = λ (e : true ≡ true) (p : ℕ). on.same p ∙ stop_here t at h n ends told (sym is_blank_lem ∙ not-true blank b) p;
          same_none = λ (e : true ≡ false). absurd (true≢false e);
        }

-- ---- the place after a line

module _ (t : List ℕ) (f : Found) (located : Located t f) (p : ℕ) where
  pub place_plain : f.key ≡ plain → (first : List ℕ) → first ≡ first_word_of (words (content_in t f)) → (r : ℕ) → r ≡ moved_by_line p first → r ≡ place_after p (content_in t f)
  unfolding place_after
  place_plain k first is_first r e = e ∙ ap (moved_by_line p) is_first ∙ sym (if_true _ _ (eq-eqb _ _ (sym located.key_is ∙ k)))

  pub place_stays : f.key ≡ plain → (p ≡ map_head → ⊥) → p ≡ place_after p (content_in t f)
  unfolding place_after moved_by_line
  place_stays k h = sym (if_true _ _ (eq-eqb _ _ (sym located.key_is ∙ k)) ∙ if_false _ _ (ne_eqb p map_head h))

  pub place_keyed : (f.key ≡ plain → ⊥) → (r : ℕ) → r ≡ moved p f.key → r ≡ place_after p (content_in t f)
  unfolding place_after
  place_keyed k r e = e ∙ ap (moved p) located.key_is ∙ sym (if_false _ _ (ne_eqb _ _ (λ (x : key_at (content_in t f) ≡ plain). k (located.key_is ∙ x))))

pub past_is : (t : List ℕ) (c : Cursor) (f : Found) (place : ℕ) → place ≡ place_after c.place (content_in t f) →
    record { at = f.next; line = f.line + 1; place = place } ≡ cursor_past t c f
unfolding cursor_past
past_is t c f place e = λ i. record { at = f.next; line = f.line + 1; place = e i }
