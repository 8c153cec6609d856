-- Laws of lines of a path one after another, and of one walk after another: each way out of the loops.
-- Assumes nothing.
use mathlib.Core.Path.{◌≡◌, refl, sym, ◌∙◌, ap, subst}
use mathlib.Core.Bool.{true, false, not}
use mathlib.Core.List.{List}
use Prim.Native.Nat.{ℕ, ◌+◌, ◌-◌, ◌≤◌, ◌<◌}
use native.Mathlib.Omega.{arith}
use lib.ListN.{length, take, drop}
use borrow.Author.Tests.{eq-eqb, not-true}
use Rattle.base.proofs.IfLaws.{if_true}
use Rattle.table_record.specs.Way.Stage.{staged_step_width, Held}
use Rattle.lex_line.specs.Lines.{comment_byte, contents}
use Rattle.lex_line.specs.Way.LineEnds.{line_at, content_at}
use Rattle.lex_line.specs.declared.Line as text
use Rattle.line_place.specs.Place as place
use Rattle.line_path.specs.declared.Path.{Path}
use Rattle.line_keyword.specs.Way.Bounded.{BoundedState}
use Rattle.line_keyword.specs.declared.State.{State}
use Rattle.read_line.specs.Reading.{breaks, line_result, read_from}
use Rattle.read_line.specs.Way.Walk.{resume, ResumesPart, HoldsPart, Opens, Stepping, with_path}
use Rattle.read_path.specs.declared.Stepped.{Stepped}
use Rattle.read_path.specs.declared.PathWalk.{PathWalk}
use Rattle.read_line.proofs.CrossLaws.{crossed_none, crossed_on, crossed_stops, stays_opens, stays_moved, stays_ended}
use Rattle.doc.specs.Lines.{lines_at, gather}
use Rattle.doc.specs.Document.{Step, step_of}
use Rattle.doc.specs.Way.Staged.{step_staged}
use Rattle.doc.proofs.PlainLaws.{plainly_none, plainly_join}
use Rattle.read_path.specs.Way.Path.{next_at, Starts, StagesSteps, TakesStep, GoesPath}

-- ---- lines gone over

stages_start : (t : List ℕ) (at n steps : ℕ) (stage : List ℕ) → StagesSteps t at n steps stage at n steps stage
stages_start t at n steps stage =
    record {
      plain = plainly_none place.path (lines_at t n at place.path);
      staged = λ (whole : List Step) (held : Held step_staged staged_step_width whole stage steps (gather step_of (lines_at t n at place.path))). held;
    }

stages_then :
    (t : List ℕ) (at n steps : ℕ) (stage : List ℕ) (at' n' steps' : ℕ) (stage' : List ℕ) (at'' n'' steps'' : ℕ) (stage'' : List ℕ) →
    StagesSteps t at n steps stage at' n' steps' stage' → StagesSteps t at' n' steps' stage' at'' n'' steps'' stage'' →
    StagesSteps t at n steps stage at'' n'' steps'' stage''
stages_then t at n steps stage at' n' steps' stage' at'' n'' steps'' stage'' first second =
    record {
      plain = plainly_join place.path _ _ _ first.plain second.plain;
      staged =
          λ (whole : List Step) (held : Held step_staged staged_step_width whole stage steps (gather step_of (lines_at t n at place.path))).
          second.staged whole (first.staged whole held);
    }

-- lines of a path have been gone over from offset `at` to offset `here`, and none breaks a rule
pub record Gone (t : List ℕ) (at line : ℕ) (p : Path) (steps : ℕ) (stage₀ : List ℕ) (here line_here_lem : ℕ) (part : Stepped) (stage : List ℕ) : Type 0 where
  pub whole : part.rule ≡ 0
  pub crossed : ResumesPart t at line (HoldsPart place.path (with_path p steps)) (with_path part.path part.steps) part.rule here line_here_lem
  pub stepping : Stepping part.path part.steps
  pub long : length stage ≡ length stage₀
  pub stages : StagesSteps t at line steps stage₀ here line_here_lem part.steps stage

pub gone_start : (t : List ℕ) (at line : ℕ) (p : Path) (steps : ℕ) (stage : List ℕ) → at ≤ length t → Stepping p steps →
    Gone t at line p steps stage at line (record { taken = true; rule = 0; path = p; steps = steps }) stage
gone_start t at line p steps stage h stepping =
    record {
      whole = refl;
      crossed =
          crossed_none t at line (HoldsPart place.path (with_path p steps)) (with_path p steps) h
          (λ (s : State) (f : HoldsPart place.path (with_path p steps) s). f.1);
      stepping = stepping;
      long = refl;
      stages = stages_start t at line steps stage;
    }

module _ (t : List ℕ) (at line : ℕ) (p : Path) (steps : ℕ) (stage₀ : List ℕ) (here line_here_lem : ℕ) (part : Stepped) (stage : List ℕ)
    (gone : Gone t at line p steps stage₀ here line_here_lem part stage) where
  abbrev fits : State → Type 0
  fits = HoldsPart place.path (with_path p steps)

  abbrev put : State → State
  put = with_path part.path part.steps

  pub gone_counted : line ≤ at + 1 → line_here_lem ≤ here + 1
  gone_counted h =
      let c : line_here_lem + at ≤ line + here = gone.crossed.counted in
      let o : at ≤ here = gone.crossed.onward in
      omega arith

  pub gone_within : here ≤ length t
  gone_within = gone.crossed.within

  pub gone_ends : length t ≤ here → GoesPath t at line p steps stage₀ (record { at = here; line = line_here_lem; part = part }) stage
  gone_ends h =
      record {
        blocked = record { crossed = gone.crossed; stays = stays_ended t at here h; stepping = gone.stepping };
        long = gone.long;
        plain = λ (z : part.rule ≡ 0). gone.stages.plain;
        staged = λ (z : part.rule ≡ 0). gone.stages.staged;
      }

  -- one line more
  module _ (h : here < length t) (ends : text.Line) (is_found : ends ≡ line_at comment_byte t here) where
    pub line_starts : line ≤ at + 1 → Starts t line_here_lem here ends
    line_starts few = record { there = h; counted = gone_counted few; ends_is = is_found }

    module _ (next : Stepped) (stage' : List ℕ) (takes : TakesStep t here line_here_lem part.path part.steps stage next stage') where
      pub gone_leaves : not next.taken ≡ true → GoesPath t at line p steps stage₀ (record { at = here; line = line_here_lem; part = part }) stage'
      gone_leaves is_left =
          let left : next.taken ≡ false = not-true next.taken is_left in
          rw (takes.kept left)
          (record {
            blocked =
                record {
                  crossed = gone.crossed;
                  stays = stays_opens t at here (line_at comment_byte t here) refl (takes.opens left);
                  stepping = gone.stepping;
                };
            long = gone.long;
            plain = λ (z : part.rule ≡ 0). gone.stages.plain;
            staged = λ (z : part.rule ≡ 0). gone.stages.staged;
          })

      module _ (taken : next.taken ≡ true) where
        decided : (s : State) → fits s → line_result (take (ends.content - here) (drop here t)) (put s) ≡ breaks next.rule (with_path next.path next.steps s)
        decided s f = ap (λ (l : text.Line). line_result (take (l.content - here) (drop here t)) (put s)) is_found ∙ takes.decides taken s f.0

        pub gone_stops : (next.rule ≡ 0 → ⊥) → GoesPath t at line p steps stage₀ (record { at = ends.next; line = line_here_lem; part = next }) stage'
        gone_stops broken =
            record {
              blocked =
                  record {
                    crossed =
                        crossed_stops t at line fits put part.rule here line_here_lem gone.whole gone.crossed h ends is_found (with_path next.path next.steps)
                        next.rule decided broken;
                    stays = stays_moved t at here ends is_found h gone.crossed.onward;
                    stepping = takes.stepping;
                  };
              long = takes.long ∙ gone.long;
              plain = λ (z : next.rule ≡ 0). absurd (broken z);
              staged = λ (z : next.rule ≡ 0). absurd (broken z);
            }

        module _ (z : next.rule ≡ 0) where
          stages_on : StagesSteps t at line steps stage₀ ends.next (line_here_lem + 1) next.steps stage'
          stages_on =
              subst (λ (l : text.Line). StagesSteps t at line steps stage₀ l.next (line_here_lem + 1) next.steps stage') (sym is_found)
              (stages_then t at line steps stage₀ here line_here_lem part.steps stage (next_at t here) (line_here_lem + 1) next.steps stage' gone.stages (takes.stages taken z))

          pub gone_on : Gone t at line p steps stage₀ ends.next (line_here_lem + 1) next stage'
          gone_on =
              record {
                whole = z;
                crossed =
                    crossed_on t at line fits put part.rule here line_here_lem gone.whole gone.crossed h ends is_found (with_path next.path next.steps)
                    next.rule decided z;
                stepping = takes.stepping;
                long = takes.long ∙ gone.long;
                stages = stages_on;
              }

          pub gone_turns : GoesPath t at line p steps stage₀ (record { at = ends.next; line = line_here_lem + 1; part = next }) stage'
          gone_turns =
              record {
                blocked = record { crossed = gone_on.crossed; stays = stays_moved t at here ends is_found h gone.crossed.onward; stepping = takes.stepping };
                long = gone_on.long;
                plain = λ (y : next.rule ≡ 0). stages_on.plain;
                staged = λ (y : next.rule ≡ 0). stages_on.staged;
              }

-- ---- one walk after another

module _ (t : List ℕ) (at line : ℕ) (p : Path) (n : ℕ) (stage₀ : List ℕ) (here line_here_lem : ℕ) (part : Stepped) (stage : List ℕ)
    (gone : Gone t at line p n stage₀ here line_here_lem part stage) (v : PathWalk) (stage' : List ℕ)
    (second : GoesPath t here line_here_lem part.path part.steps stage v stage') where
  come : (s : State) → HoldsPart place.path (with_path p n) s →
      read_from line_here_lem (contents (drop here t)) (with_path part.path part.steps s) ≡ read_from line (contents (drop at t)) s
  unfolding resume
  come s f = sym (if_true _ _ (eq-eqb _ _ gone.whole)) ∙ gone.crossed.same s f

  stages_behind : v.part.rule ≡ 0 → StagesSteps t at line n stage₀ v.at v.line v.part.steps stage'
  stages_behind z =
      stages_then t at line n stage₀ here line_here_lem part.steps stage v.at v.line v.part.steps stage' gone.stages
      (record { plain = second.plain z; staged = second.staged z })

  pub goes_after : GoesPath t at line p n stage₀ v stage'
  goes_after =
      let a : at ≤ here = gone.crossed.onward in
      let b : here ≤ v.at = second.blocked.crossed.onward in
      let c : line_here_lem + at ≤ line + here = gone.crossed.counted in
      let d : v.line + here ≤ line_here_lem + v.at = second.blocked.crossed.counted in
      let g : line ≤ line_here_lem = gone.crossed.raised in
      let h : line_here_lem ≤ v.line = second.blocked.crossed.raised in
      record {
        blocked =
            record {
              crossed =
                  record {
                    same = λ (s : State) (f : HoldsPart place.path (with_path p n) s). second.blocked.crossed.same (with_path part.path part.steps s) (f.0, refl) ∙ come s f;
                    kept =
                        λ (z : v.part.rule ≡ 0) (s : State) (f : HoldsPart place.path (with_path p n) s) (k : BoundedState line s).
                        second.blocked.crossed.kept z (with_path part.path part.steps s) (f.0, refl) (gone.crossed.kept gone.whole s f k);
                    onward = omega arith;
                    within = second.blocked.crossed.within;
                    raised = omega arith;
                    counted = omega arith;
                  };
              stays = λ (e : v.at ≡ at) (k : at < length t). subst (λ (x : ℕ). Opens (content_at t x)) (omega arith) (second.blocked.stays (omega arith) (omega arith));
              stepping = second.blocked.stepping;
            };
        long = second.long ∙ gone.long;
        plain = λ (z : v.part.rule ≡ 0). (stages_behind z).plain;
        staged = λ (z : v.part.rule ≡ 0). (stages_behind z).staged;
      }

  pub gone_after : v.part.rule ≡ 0 → Gone t at line p n stage₀ v.at v.line v.part stage'
  gone_after z =
      record { whole = z; crossed = goes_after.blocked.crossed; stepping = goes_after.blocked.stepping; long = goes_after.long; stages = stages_behind z }

  pub after_counted : line ≤ at + 1 → v.line ≤ v.at + 1
  after_counted h =
      let c : v.line + at ≤ line + v.at = goes_after.blocked.crossed.counted in
      let o : at ≤ v.at = goes_after.blocked.crossed.onward in
      omega arith

-- an inner block behind it
module _ (t : List ℕ) (at line : ℕ) (p : Path) (n : ℕ) (stage₀ : List ℕ) (here line_here_lem : ℕ) (part : Stepped) (stage : List ℕ)
    (gone : Gone t at line p n stage₀ here line_here_lem part stage) (v : PathWalk) (stage' : List ℕ)
    (second : GoesPath t here line_here_lem part.path part.steps stage v stage') (z : v.part.rule ≡ 0) (u : PathWalk) (stage'' : List ℕ)
    (third : GoesPath t v.at v.line v.part.path v.part.steps stage' u stage'') where
  outer : Gone t at line p n stage₀ v.at v.line v.part stage'
  outer = gone_after t at line p n stage₀ here line_here_lem part stage gone v stage' second z

  pub goes_inner : GoesPath t at line p n stage₀ u stage''
  goes_inner = goes_after t at line p n stage₀ v.at v.line v.part stage' outer u stage'' third

  pub gone_inner : u.part.rule ≡ 0 → Gone t at line p n stage₀ u.at u.line u.part stage''
  gone_inner y = gone_after t at line p n stage₀ v.at v.line v.part stage' outer u stage'' third y

  pub inner_less : here < v.at → length t - u.at < length t - here
  inner_less h =
      let o : v.at ≤ u.at = third.blocked.crossed.onward in
      let a : u.at ≤ length t = third.blocked.crossed.within in
      omega arith
