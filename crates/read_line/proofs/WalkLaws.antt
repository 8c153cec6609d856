-- Laws of the walk over the lines: what one line does, what a line that breaks nothing preserves, and how walks join.
-- Assumes nothing.
use mathlib.Core.Path.{◌≡◌, refl, sym, ◌∙◌, ap}
use mathlib.Core.Bool.{Bool, true, false}
use mathlib.Core.List.{List, ◌∷◌}
use Prim.Native.Nat.{ℕ, ◌+◌, ◌-◌, ◌≤◌, ◌<◌, zero-le}
use native.Mathlib.Omega.{arith}
use lib.ListN.{length, take, drop, length-drop}
use lib.Dec.{eqb}
use borrow.Author.Tests.{eq-eqb, ne_eqb, eqb-true, eqb-false}
use Rattle.base.specs.Runs.{run as run'}
use Rattle.base.specs.If.{provided◌then◌else◌}
use Rattle.base.specs.Refusal as refusal
use Rattle.base.specs.Bytes.{is_content}
use Rattle.base.proofs.IfLaws.{if_true, if_false, by_cases}
use Rattle.base.proofs.RunLaws.{run_le}
use Rattle.lex_line.specs.Lines.{comment_byte, Said, contents, is_blank_line}
use Rattle.lex_line.specs.Way.LineEnds.{line_at, content_at, said_at}
use Rattle.lex_line.specs.declared.Line.{Line}
use Rattle.lex_line.proofs.LineLaws.{contents_at, next_on, next_within}
use Rattle.line_keyword.specs.Way.Bounded.{BoundedState}
use Rattle.line_keyword.proofs.KeptLaws.{start_kept, keyword_kept, kept_more}
use Rattle.line_keyword.specs.State.{start_state}
use Rattle.line_keyword.specs.Keywords.{keyword_next, one_more_if}
use Rattle.line_keyword.specs.declared.State.{State}
use Rattle.line_keyword.specs.Way.Rule.{keyword_rule}
use Rattle.lex_keyword.specs.Names.{begin_header}
use Rattle.lex_keyword.specs.Bracket.{bracket_of}
use Rattle.lex_keyword.specs.declared.Bracket.{Bracket}
use Rattle.lex_keyword.specs.declared.Bracket.TheVariants.{Plain, Indented, Bad, Unknown, Later, Keyword}
use Rattle.line_place.specs.Place.{is_text, before, done}
use Rattle.read_line.specs.Reading.{goes, breaks, judged, line_next, argument_from, line_result, onward, read_from, reading_of}
use Rattle.read_line.specs.Way.Steps.{line_step, keyword_step, bracket_step, before_step, line_rule}
use Rattle.read_line.specs.Way.Walk.{resume, Onward, ResumesText, ReadsLine}
use Rattle.read_line.specs.declared.LineResult.{LineResult}
use Rattle.read_line.proofs.KeptLaws.{line_kept}
use Rattle.read_line.proofs.ResultLaws.{result_steps}

-- ---- what a line that breaks nothing preserves

-- the state after the line is within its bounds
abbrev Keeps : ℕ → LineResult → Type 0
Keeps n step = step.rule ≡ 0 → BoundedState (n + 1) step.state

keeps_goes : (n : ℕ) (s : State) → BoundedState n s → Keeps n (goes s)
unfolding goes
keeps_goes n s k z = kept_more n (n + 1) s k (omega arith)

keeps_breaks : (n k : ℕ) (s : State) → 0 < k → Keeps n (breaks k s)
unfolding breaks
keeps_breaks n k s h z = absurd (omega arith)

keeps_judged : (n k : ℕ) (next s : State) → (k ≡ 0 → BoundedState (n + 1) next) → Keeps n (judged k next s)
unfolding judged goes breaks
keeps_judged n k next s h =
    by_cases (Keeps n (judged k next s)) (eqb k 0)
    (λ (e : eqb k 0 ≡ true). rw (if_true {b = eqb k 0} (goes next) (breaks k s) e) (λ (z : ◌≡◌ {A = ℕ} 0 0). h (eqb-true _ _ e)))
    (λ (e : eqb k 0 ≡ false). rw (if_false {b = eqb k 0} (goes next) (breaks k s) e) (λ (z : k ≡ 0). absurd (eqb-false k 0 e z)))

keeps_line : (n : ℕ) (content : List ℕ) (s : State) → BoundedState n s → Keeps n (line_step content s)
unfolding line_step
keeps_line n content s k = keeps_judged n (line_rule content s) (line_next content s) s (line_kept n content s k)

keeps_keyword : (n k : ℕ) (argument : List ℕ) (s : State) → BoundedState n s → Keeps n (keyword_step k argument s)
unfolding keyword_step
keeps_keyword n k argument s kept = keeps_judged n (keyword_rule k argument s) (keyword_next k argument s) s (keyword_kept n k argument s kept)

-- whichever of two results a test chooses
keeps_if : (n : ℕ) (b : Bool) (x y : LineResult) → Keeps n x → Keeps n y → Keeps n (provided b then x else y)
unfolding provided◌then◌else◌
keeps_if n true x y h k = h
keeps_if n false x y h k = k

keeps_bracket : (n : ℕ) (b : Bracket) (content : List ℕ) (s : State) → BoundedState n s → Keeps n (bracket_step b content s)
keeps_bracket n Plain content s k = keeps_line n content s k
keeps_bracket n Indented content s k = keeps_if n (is_text s.place) _ _ (keeps_line n content s k) (keeps_breaks n refusal.keyword s (omega arith))
keeps_bracket n Bad content s k = keeps_breaks n refusal.keyword s (omega arith)
keeps_bracket n Unknown content s k = keeps_breaks n refusal.unknown s (omega arith)
keeps_bracket n Later content s k = keeps_breaks n refusal.later s (omega arith)
keeps_bracket n (Keyword key start) content s k = keeps_keyword n key (argument_from content start) s k

keeps_before : (n : ℕ) (b : Bracket) (content : List ℕ) (s : State) → BoundedState n s → Keeps n (before_step b content s)
keeps_before n Plain content s k = keeps_goes n s k
keeps_before n Indented content s k = keeps_goes n s k
keeps_before n Bad content s k = keeps_goes n s k
keeps_before n Unknown content s k = keeps_goes n s k
keeps_before n Later content s k = keeps_goes n s k
keeps_before n (Keyword key start) content s k = keeps_if n (eqb key begin_header) _ _ (keeps_keyword n key (argument_from content start) s k) (keeps_goes n s k)

pub step_kept : (n : ℕ) (content : List ℕ) (s : State) → BoundedState n s → Keeps n (line_result content s)
step_kept n content s k =
    rw (result_steps content s)
    (keeps_if n (is_blank_line content) _ _ (keeps_goes n s k)
    (keeps_if n (eqb s.place done) _ _ (keeps_goes n s k)
    (keeps_if n (eqb s.place before) _ _ (keeps_before n (bracket_of content) content s k) (keeps_bracket n (bracket_of content) content s k))))

-- ---- one line

run_cons : (n : ℕ) (l : Said) (ls : List Said) (s : State) → read_from n (l ∷ ls) s ≡ onward (line_result l.content s) n (read_from (n + 1) ls)
unfolding read_from
run_cons n l ls s = refl

module _ (t : List ℕ) (at line : ℕ) (s : State) (h : at < length t) (here : Line) (found : here ≡ line_at comment_byte t at) where
  module _ (step : LineResult) (taken : step ≡ line_result (take (here.content - at) (drop at t)) s) where
    step_told : step ≡ line_result (content_at t at) s
    step_told = taken ∙ ap (λ (l : Line). line_result (take (l.content - at) (drop at t)) s) found

    pub line_run : read_from line (contents (drop at t)) s ≡ onward step line (read_from (line + 1) (contents (drop here.next t)))
    line_run =
        ap (λ (ls : List Said). read_from line ls s) (contents_at t at h)
        ∙ run_cons line (said_at t at) (contents (drop (line_at comment_byte t at).next t)) s
        ∙ (λ i. onward (sym step_told i) line (read_from (line + 1) (contents (drop (sym found i).next t))))

module _ (t : List ℕ) (at line : ℕ) (s : State) (h : at < length t) (on : Onward t at line s) (here : Line) (found : here ≡ line_at comment_byte t at) where
  module _ (step : LineResult) (taken : step ≡ line_result (take (here.content - at) (drop at t)) s) where
    line_broken : (step.rule ≡ 0 → ⊥) → ResumesText t at line s (record { rule = step.rule; at = here.next; line = line; state = step.state })
    unfolding resume onward
    line_broken z =
        record {
          same = if_false _ _ (ne_eqb _ _ z) ∙ sym (line_run t at line s h here found step taken ∙ if_false _ _ (ne_eqb _ _ z));
          further = λ (e : step.rule ≡ 0). absurd (z e);
          onward = λ (e : step.rule ≡ 0). absurd (z e);
        }

    line_taken : step.rule ≡ 0 → ResumesText t at line s (record { rule = step.rule; at = here.next; line = line + 1; state = step.state })
    unfolding resume onward
    line_taken z =
        let f : at < here.next = rw found (next_on comment_byte t at h) in
        let w : here.next ≤ length t = rw found (next_within comment_byte t at h) in
        let c : line ≤ at + 1 = on.counted in
        record {
          same = if_true _ _ (eq-eqb _ _ z) ∙ sym (line_run t at line s h here found step taken ∙ if_true _ _ (eq-eqb _ _ z));
          further = λ (e : step.rule ≡ 0). f;
          onward = λ (e : step.rule ≡ 0). record { within = w; counted = omega arith; kept = bounded_next z };
        }
      where
        bounded_next : step.rule ≡ 0 → BoundedState (line + 1) step.state
        bounded_next z = rw taken (step_kept line (take (here.content - at) (drop at t)) s on.kept (rw taken at z))

    -- the next line is the one after it, unless it breaks a rule
    pub line_reached : (after : ℕ) → after ≡ one_more_if (eqb step.rule 0) line → ResumesText t at line s (record { rule = step.rule; at = here.next; line = after; state = step.state })
    unfolding one_more_if
    line_reached after count =
        by_cases _ (eqb step.rule 0)
        (λ (e : eqb step.rule 0 ≡ true). rw (count ∙ if_true _ _ e) (line_taken (eqb-true _ _ e)))
        (λ (e : eqb step.rule 0 ≡ false). rw (count ∙ if_false _ _ e) (line_broken (eqb-false _ _ e)))

    -- and the line itself is the one that is there
    pub line_read : (after : ℕ) → after ≡ one_more_if (eqb step.rule 0) line → (bracket : Bracket) → bracket ≡ bracket_of (take (here.content - at) (drop at t)) →
        ReadsLine t at line s (record { rule = step.rule; at = here.next; line = after; state = step.state; end = here.content; bracket = bracket })
    unfolding one_more_if
    line_read after count bracket is_bracket =
        record {
          resumes = line_reached after count;
          result = taken ∙ ap (λ (l : Line). line_result (take (l.content - at) (drop at t)) s) found;
          next_is = ap (λ (l : Line). l.next) found;
          line_is = λ (z : step.rule ≡ 0). count ∙ if_true _ _ (eq-eqb _ _ z);
          end_is = ap (λ (l : Line). l.content) found;
          bracket_is = is_bracket ∙ ap (λ (l : Line). bracket_of (take (l.content - at) (drop at t))) found;
        }

-- ---- the part of the text that is a line's content

module _ (t : List ℕ) (at : ℕ) (here : Line) (found : here ≡ line_at comment_byte t at) where
  pub content_start : at ≤ here.content
  unfolding line_at
  content_start = rw found (omega arith)

  pub content_within : at < length t → here.content ≤ length t
  unfolding line_at
  content_within h =
      let l : length (drop at t) ≡ length t - at = length-drop at t in
      let r : run' (is_content comment_byte) (drop at t) ≤ length (drop at t) = run_le (is_content comment_byte) (drop at t) in
      rw found (omega arith)

-- ---- the whole text

pub reading_starts : (t : List ℕ) (s : State) → s ≡ start_state → Onward t 0 1 s
reading_starts t s e = record { within = zero-le; counted = omega arith; kept = rw e (kept_more 0 1 start_state start_kept (omega arith)) }

pub reading_whole : (t : List ℕ) (s : State) → s ≡ start_state → read_from 1 (contents (drop 0 t)) s ≡ reading_of t
unfolding reading_of
reading_whole t s e = ap (read_from 1 (contents t)) e
