-- Laws of the step of a line: what is staged of it by the parts of the line is the step of the document.
-- Assumes nothing.
use mathlib.Core.Path.{◌≡◌, refl, sym, ◌∙◌, ap}
use mathlib.Core.List.{List}
use Prim.Native.Nat.{ℕ, ◌+◌, ◌-◌, ◌≤◌, ◌<◌}
use native.Mathlib.Nat.{add-zero}
use native.Mathlib.Omega.{arith}
use lib.ListN.{length, take, drop, length-drop}
use lib.Seq.{length-take-le}
use borrow.Author.Tests.{eq-eqb, ne_eqb}
use Rattle.base.proofs.IfLaws.{if_true, if_false, either_left}
use Rattle.table_layout.specs.Codes.{end_kind, section_kind, fork_kind, endfork_kind}
use Rattle.table_record.specs.declared.stage.StagedStep.{StagedStep}
use Rattle.lex_line.specs.Words.{words_from, to_equals}
use Rattle.lex_line.specs.Way.Spans.{word_span, first_two_of}
use Rattle.lex_line.specs.Way.LineEnds.{line_at, content_at}
use Rattle.lex_line.specs.declared.Line as text
use Rattle.lex_line.specs.declared.Span.{Span}
use Rattle.lex_line.proofs.WordLaws.{second_ordered, second_within}
use Rattle.lex_line.specs.Lines.{comment_byte}
use Rattle.line_place.specs.Place as place
use Rattle.line_path.specs.Path.{says_end, says_section, says_fork}
use Rattle.line_path.specs.Way.Parts.{SecondWord, ParsesName, ParsesSection, ParsesLine}
use Rattle.line_path.specs.declared.PathParts.{PathParts}
use Rattle.doc.specs.Lines.{lines_at, words_of, right_words_of, no_word, second_word}
use Rattle.doc.specs.Document.{side_in}
use Rattle.doc.specs.Way.Found.{extent_of, extent_at}
use Rattle.doc.specs.Way.Staged.{mult_word, staged_step}
use Rattle.doc.specs.declared.Extent.{Extent}
use Rattle.doc.proofs.ExtentLaws.{mark_some, second_marked}
use Rattle.doc.proofs.FoundLaws.{next_further, next_inside, content_ordered, content_inside}
use Rattle.read_path.specs.Way.Path.{line_here, end_step, section_step, fork_step, step_said, named_step, Starts, Parsed}

-- ---- the name

extent_is : (a b c d : ℕ) → a ≡ c → b ≡ d → ◌≡◌ {A = Extent} (record { start = a; size = b }) (record { start = c; size = d })
extent_is a b c d e f = λ i. record { start = e i; size = f i }

module _ (content : List ℕ) (from : ℕ) (name : Span) (second : SecondWord content from name) where
  abbrev part : List ℕ
  part = drop from content

  abbrev word : Span
  word = (first_two_of part).second

  start_is : name.start ≡ from + word.start
  start_is = ap (λ (w : Span). w.start) second.span_is

  end_is : name.end ≡ from + word.end
  end_is = ap (λ (w : Span). w.end) second.span_is

  name_ordered : name.start ≤ name.end
  name_ordered =
      let a : name.start ≡ from + word.start = start_is in
      let b : name.end ≡ from + word.end = end_is in
      let c : word.start ≤ word.end = second_ordered part (first_two_of part) refl in
      omega arith

  name_within : name.end ≤ length content
  name_within =
      let b : name.end ≡ from + word.end = end_is in
      let c : word.end ≤ length part = second_within part (first_two_of part) refl in
      let d : length part ≡ length content - from = length-drop from content in
      let e : word.start < length part = second.there in
      omega arith

  -- the name is the second word of the words from there on
  marked_second : (offset : ℕ) (r : Extent) → r ≡ extent_at part offset word → r ≡ extent_of (second_word (words_from offset part))
  unfolding first_two_of
  marked_second offset r e = second_marked part offset (word_span part 0) refl r word refl e

  name_extent : (at : ℕ) → record { start = at + name.start; size = name.end - name.start } ≡ extent_of (second_word (words_from (at + from) part))
  name_extent at =
      let a : name.start ≡ from + word.start = start_is in
      let b : name.end ≡ from + word.end = end_is in
      extent_is (at + name.start) (name.end - name.start) (at + from + word.start) (word.end - word.start) (omega arith) (omega arith)
      ∙ marked_second (at + from) _ (mark_some part (at + from) word second.there)

-- ---- the line

module _ (t : List ℕ) (n at : ℕ) (ends : text.Line) (starts : Starts t n at ends) where
  pub line_ordered : at ≤ ends.content
  line_ordered = content_ordered t at starts.there n ends starts.ends_is

  pub line_within : ends.content ≤ length t
  line_within = content_inside t at starts.there n ends starts.ends_is

  pub next_within : ends.next ≤ length t
  next_within = next_inside t at starts.there n ends starts.ends_is

  pub next_counted : n + 1 ≤ ends.next + 1
  next_counted =
      let a : at < ends.next = next_further t at starts.there n ends starts.ends_is in
      let b : n ≤ at + 1 = starts.counted in
      omega arith

  pub cut_is : take (ends.content - at) (drop at t) ≡ content_at t at
  cut_is = ap (λ (l : text.Line). take (l.content - at) (drop at t)) starts.ends_is

  pub cut_parses : (parts : PathParts) → ParsesLine (take (ends.content - at) (drop at t)) parts → ParsesLine (content_at t at) parts
  cut_parses parts h = rw cut_is at h

  content_long : at + length (content_at t at) ≤ length t
  content_long =
      let d : length (drop at t) ≡ length t - at = length-drop at t in
      let a : at ≤ ends.content = line_ordered in
      let b : ends.content ≤ length t = line_within in
      let l : length (take (ends.content - at) (drop at t)) ≡ ends.content - at = length-take-le _ (drop at t) (omega arith) in
      let m : length (content_at t at) ≡ ends.content - at = rw cut_is at l in
      omega arith

  name_inside : (from : ℕ) (name : Span) → SecondWord (content_at t at) from name → at + name.end ≤ length t
  name_inside from name second =
      let a : name.end ≤ length (content_at t at) = name_within (content_at t at) from name second in
      let b : at + length (content_at t at) ≤ length t = content_long in
      omega arith

-- ---- the step

module _ (t : List ℕ) (n at : ℕ) (ends : text.Line) (parts : PathParts) (parsed : Parsed t n at ends parts) where
  abbrev content : List ℕ
  content = content_at t at

  abbrev says : ℕ
  says = parts.line.says

  pub side_within : ends.next ≤ length t
  side_within = next_within t n at ends parsed.starts

  pub side_counted : n + 1 ≤ ends.next + 1
  side_counted = next_counted t n at ends parsed.starts

  module _ (is : says ≡ says_end) where
    end_parsed : ParsesName content parts
    end_parsed = parsed.parses.named parsed.right (either_left _ _ (eq-eqb _ _ is))

    pub end_ordered : parts.name.start ≤ parts.name.end
    end_ordered = name_ordered content 0 parts.name end_parsed.name_is

    pub end_inside : at + parts.name.end ≤ length t
    end_inside = name_inside t n at ends parsed.starts 0 parts.name end_parsed.name_is

    end_name : record { start = at + parts.name.start; size = parts.name.end - parts.name.start } ≡ extent_of (second_word (words_of (line_here t n at)))
    unfolding words_of
    end_name =
        name_extent content 0 parts.name end_parsed.name_is at
        ∙ ap (λ (o : ℕ). extent_of (second_word (words_from o content))) (add-zero at)

    end_staged : (side : Extent) → side ≡ extent_of (side_in (lines_at t (n + 1) ends.next place.path)) → named_step end_kind at n parts side ≡ staged_step (end_step t n at)
    unfolding staged_step extent_of
    end_staged side is_side_lem =
        let p : ParsesName content parts = end_parsed in
        let s : side ≡ extent_of (side_in (lines_at t (n + 1) (line_at comment_byte t at).next place.path)) =
        is_side_lem ∙ ap (λ (l : text.Line). extent_of (side_in (lines_at t (n + 1) l.next place.path))) parsed.starts.ends_is in
        λ i.
        record {
          kind = end_kind;
          name = (end_name i).start;
          name_size = (end_name i).size;
          amount = p.no_amount i;
          mult = mult_word (p.no_mult i);
          side = (s i).start;
          side_size = (s i).size;
          line = n;
        }

    pub end_told : (side : Extent) → side ≡ extent_of (side_in (lines_at t (n + 1) ends.next place.path)) → (r : StagedStep) → r ≡ named_step end_kind at n parts side →
        r ≡ staged_step (step_said t n at says)
    unfolding step_said
    end_told side is_side_lem r e = e ∙ end_staged side is_side_lem ∙ ap staged_step (sym (if_true _ _ (eq-eqb _ _ is)))

  module _ (is : says ≡ says_section) where
    section_parsed : ParsesSection content parts
    section_parsed = parsed.parses.section parsed.right is

    pub section_ordered : parts.name.start ≤ parts.name.end
    section_ordered = name_ordered content (to_equals content + 1) parts.name section_parsed.name_is

    pub section_inside : at + parts.name.end ≤ length t
    section_inside = name_inside t n at ends parsed.starts (to_equals content + 1) parts.name section_parsed.name_is

    section_name_lem : record { start = at + parts.name.start; size = parts.name.end - parts.name.start } ≡ extent_of (second_word (right_words_of (line_here t n at)))
    unfolding right_words_of
    section_name_lem = name_extent content (to_equals content + 1) parts.name section_parsed.name_is at

    section_staged : named_step section_kind at n parts (record { start = 0; size = 0 }) ≡ staged_step (section_step t n at)
    unfolding staged_step extent_of no_word
    section_staged =
        let p : ParsesSection content parts = section_parsed in
        λ i.
        record {
          kind = section_kind;
          name = (section_name_lem i).start;
          name_size = (section_name_lem i).size;
          amount = p.amount_is i;
          mult = mult_word (p.mult_is i);
          side = 0;
          side_size = 0;
          line = n;
        }

  module _ (not_end : says ≡ says_end → ⊥) where
    pub section_told : says ≡ says_section → (r : StagedStep) → r ≡ named_step section_kind at n parts (record { start = 0; size = 0 }) → r ≡ staged_step (step_said t n at says)
    unfolding step_said
    section_told is r e = e ∙ section_staged is ∙ ap staged_step (sym (if_false _ _ (ne_eqb _ _ not_end) ∙ if_true _ _ (eq-eqb _ _ is)))

    module _ (not_section : says ≡ says_section → ⊥) where
      pub fork_told : says ≡ says_fork → (r : StagedStep) → r ≡ staged_step (fork_step fork_kind n) → r ≡ staged_step (step_said t n at says)
      unfolding step_said
      fork_told is r e = e ∙ ap staged_step (sym (if_false _ _ (ne_eqb _ _ not_end) ∙ if_false _ _ (ne_eqb _ _ not_section) ∙ if_true _ _ (eq-eqb _ _ is)))

      pub endfork_told : (says ≡ says_fork → ⊥) → (r : StagedStep) → r ≡ staged_step (fork_step endfork_kind n) → r ≡ staged_step (step_said t n at says)
      unfolding step_said
      endfork_told not_fork r e = e ∙ ap staged_step (sym (if_false _ _ (ne_eqb _ _ not_end) ∙ if_false _ _ (ne_eqb _ _ not_section) ∙ if_false _ _ (ne_eqb _ _ not_fork)))

pub fork_staged : (kind n : ℕ) →
    record { kind = kind; name = 0; name_size = 0; amount = 0; mult = 0; side = 0; side_size = 0; line = n } ≡ staged_step (fork_step kind n)
unfolding staged_step no_word
fork_staged kind n = refl
