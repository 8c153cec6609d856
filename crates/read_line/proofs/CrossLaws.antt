-- Laws of lines that are read with only a part of the state: no line yet, one line more, a line
-- that breaks a rule, and the walk over all of them.
-- Assumes nothing.
use mathlib.Core.Path.{◌≡◌, refl, sym, ◌∙◌, ap, subst}
use mathlib.Core.List.{List}
use Prim.Native.Nat.{ℕ, ◌+◌, ◌-◌, ◌≤◌, ◌<◌}
use native.Mathlib.Nat.{le_refl}
use native.Mathlib.Omega.{arith}
use lib.ListN.{length, take, drop}
use borrow.Author.Tests.{eq-eqb, ne_eqb}
use Rattle.base.proofs.IfLaws.{if_true, if_false}
use Rattle.lex_line.specs.Lines.{comment_byte, contents}
use Rattle.lex_line.specs.Way.LineEnds.{line_at, content_at}
use Rattle.lex_line.specs.declared.Line.{Line}
use Rattle.lex_line.proofs.LineLaws.{next_on, next_within}
use Rattle.line_keyword.specs.Way.Bounded.{BoundedState}
use Rattle.line_keyword.specs.declared.State.{State}
use Rattle.read_line.specs.Reading.{breaks, line_result, onward, read_from}
use Rattle.read_line.specs.Way.Walk.{resume, Onward, ResumesText, ResumesPart, Opens, BracketOrLineByLine, NoProgressMeansBracket}
use Rattle.read_line.specs.declared.LineResult.{LineResult}
use Rattle.read_line.specs.declared.Reading.{Reading}
use Rattle.read_line.specs.declared.Reading.TheVariants.{Refused}
use Rattle.read_line.proofs.WalkLaws.{step_kept, line_run}

onward_goes : (s : State) (n : ℕ) (more : State → Reading) → onward (breaks 0 s) n more ≡ more s
unfolding onward breaks
onward_goes s n more = if_true _ _ (eq-eqb 0 0 refl)

onward_stops : (k : ℕ) (s : State) (n : ℕ) (more : State → Reading) → (k ≡ 0 → ⊥) → onward (breaks k s) n more ≡ Refused k n
unfolding onward breaks
onward_stops k s n more h = if_false _ _ (ne_eqb _ _ h)

module _ (t : List ℕ) (at line : ℕ) (fits : State → Type 0) where
  pub crossed_none : (put : State → State) → at ≤ length t → ((s : State) → fits s → s ≡ put s) → ResumesPart t at line fits put 0 at line
  unfolding resume
  crossed_none put h same =
      record {
        same = λ (s : State) (f : fits s). if_true _ _ (eq-eqb 0 0 refl) ∙ ap (read_from line (contents (drop at t))) (sym (same s f));
        kept = λ (z : ◌≡◌ {A = ℕ} 0 0) (s : State) (f : fits s) (k : BoundedState line s). rw (sym (same s f)) k;
        onward = le_refl at;
        within = h;
        raised = le_refl line;
        counted = le_refl (line + at);
      }

  module _ (put : State → State) (broken here number : ℕ) (whole : broken ≡ 0) (crossed : ResumesPart t at line fits put broken here number) where
    -- one line more: what the part of the state decides for it
    module _ (h : here < length t) (found : Line) (told : found ≡ line_at comment_byte t here) (next : State → State) (k : ℕ) (decided : (s : State) → fits s → line_result (take (found.content - here) (drop here t)) (put s) ≡ breaks k (next s)) where
      over : (s : State) → fits s → onward (breaks k (next s)) number (read_from (number + 1) (contents (drop found.next t))) ≡ read_from line (contents (drop at t)) s
      unfolding resume
      over s f =
          sym (line_run t here number (put s) h found told (breaks k (next s)) (sym (decided s f)))
          ∙ sym (if_true _ _ (eq-eqb _ _ whole))
          ∙ crossed.same s f

      ahead : here < found.next
      ahead = rw told (next_on comment_byte t here h)

      inside : found.next ≤ length t
      inside = rw told (next_within comment_byte t here h)

      on_kept : k ≡ 0 → (s : State) → fits s → BoundedState line s → BoundedState (number + 1) (next s)
      unfolding breaks
      on_kept z s f kept =
          subst (λ (x : LineResult). x.rule ≡ 0 → BoundedState (number + 1) x.state) (decided s f)
          (step_kept number (take (found.content - here) (drop here t)) (put s) (crossed.kept whole s f kept)) z

      on_same : k ≡ 0 → (s : State) → fits s → read_from (number + 1) (contents (drop found.next t)) (next s) ≡ read_from line (contents (drop at t)) s
      on_same z s f =
          sym (onward_goes (next s) number (read_from (number + 1) (contents (drop found.next t))))
          ∙ ap (λ (n : ℕ). onward (breaks n (next s)) number (read_from (number + 1) (contents (drop found.next t)))) (sym z)
          ∙ over s f

      pub crossed_on : k ≡ 0 → ResumesPart t at line fits next k found.next (number + 1)
      unfolding resume
      crossed_on z =
          let a : here < found.next = ahead in
          let o : at ≤ here = crossed.onward in
          let r : line ≤ number = crossed.raised in
          let c : number + at ≤ line + here = crossed.counted in
          record {
            same = λ (s : State) (f : fits s). if_true _ _ (eq-eqb _ _ z) ∙ on_same z s f;
            kept = λ (e : k ≡ 0) (s : State) (f : fits s) (kept : BoundedState line s). on_kept z s f kept;
            onward = omega arith;
            within = inside;
            raised = omega arith;
            counted = omega arith;
          }

      pub crossed_stops : (k ≡ 0 → ⊥) → ResumesPart t at line fits next k found.next number
      unfolding resume
      crossed_stops z =
          let a : here < found.next = ahead in
          let o : at ≤ here = crossed.onward in
          let r : line ≤ number = crossed.raised in
          let c : number + at ≤ line + here = crossed.counted in
          record {
            same = λ (s : State) (f : fits s). if_false _ _ (ne_eqb _ _ z) ∙ sym (onward_stops k (next s) number _ z) ∙ over s f;
            kept = λ (e : k ≡ 0) (s : State) (f : fits s) (kept : BoundedState line s). absurd (z e);
            onward = omega arith;
            within = inside;
            raised = r;
            counted = omega arith;
          }

pub crossed_less : (t : List ℕ) (here : ℕ) (found : Line) → here < length t → found ≡ line_at comment_byte t here → length t - found.next < length t - here
crossed_less t here found h told =
    let f : here < found.next = rw told (next_on comment_byte t here h) in
    omega arith

pub crossed_reached : (t : List ℕ) (at line : ℕ) (fits : State → Type 0) (put : State → State) (number further last : ℕ) → ResumesPart t at line fits put number further last →
    (s : State) → fits s → Onward t at line s → at < further → ResumesText t at line s (record { rule = number; at = further; line = last; state = put s })
crossed_reached t at line fits put number further last crossed s f on h =
    let c : line ≤ at + 1 = on.counted in
    let k : last + at ≤ line + further = crossed.counted in
    record {
      same = crossed.same s f;
      further = λ (e : number ≡ 0). h;
      onward = λ (e : number ≡ 0). record { within = crossed.within; counted = omega arith; kept = crossed.kept e s f on.kept };
    }

-- ---- a walk that has made no progress

module _ (t : List ℕ) (at here : ℕ) where
  pub stays_opens : (found : Line) → found ≡ line_at comment_byte t here → Opens (take (found.content - here) (drop here t)) → NoProgressMeansBracket t at here
  stays_opens found told opens e h =
      subst (λ (n : ℕ). Opens (content_at t n)) e (subst (λ (l : Line). Opens (take (l.content - here) (drop here t))) told opens)

  pub stays_moved : (found : Line) → found ≡ line_at comment_byte t here → here < length t → at ≤ here → NoProgressMeansBracket t at found.next
  stays_moved found told h o e l =
      let a : here < found.next = rw told (next_on comment_byte t here h) in
      absurd (omega arith)

  pub stays_ended : length t ≤ here → NoProgressMeansBracket t at here
  stays_ended h e l = absurd (omega arith)

  pub stays_elsewhere : (p : ℕ) → NoProgressMeansBracket t at here → at ≤ here → here ≤ at → at < length t → BracketOrLineByLine (content_at t at) p
  stays_elsewhere p stays o n h filled plain =
      let e : here ≡ at = omega arith in
      absurd (stays e h plain)

pub elsewhere_here : (t : List ℕ) (at p : ℕ) (found : Line) → found ≡ line_at comment_byte t at → BracketOrLineByLine (content_at t at) p → BracketOrLineByLine (take (found.content - at) (drop at t)) p
elsewhere_here t at p found told there = subst (λ (l : Line). BracketOrLineByLine (take (l.content - at) (drop at t)) p) (sym told) there
