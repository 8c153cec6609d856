-- Laws of the walk over the header and the family: lines of a path, of a pin list and lines that change nothing, which are
-- read together; the start, and the end of the walk.
-- Assumes nothing.
use mathlib.Core.Path.{◌≡◌, refl, sym, ◌∙◌, ap, subst}
use mathlib.Core.Bool.{true, false, true≢false}
use mathlib.Core.List.{List, []}
use Prim.Native.Nat.{ℕ, ◌+◌, ◌-◌, ◌≤◌, ◌<◌}
use native.Mathlib.Omega.{arith}
use lib.ListN.{length, drop}
use lib.Dec.{eqb}
use borrow.Author.Tests.{eq-eqb, eqb-true, eqb-false}
use Rattle.base.specs.If.{either}
use Rattle.base.proofs.IfLaws.{if_true, by_cases}
use Rattle.lex_line.specs.Lines.{contents}
use Rattle.line_place.specs.Place.{is_in_model}
use Rattle.line_place.specs.Place as place
use Rattle.line_keyword.specs.State.{start_state, no_counts}
use Rattle.line_keyword.specs.declared.State.{State}
use Rattle.table_layout.specs.Layout.{map_width, pin_width}
use Rattle.table_record.specs.Records.{map_words}
use Rattle.table_record.specs.Way.Stage.{Held, staged_model_width, staged_model_words, staged_step_width}
use Rattle.table_record.proofs.StageLaws.{held_start, held_same, held_all}
use Rattle.read_line.specs.Reading.{read_from, reading_of}
use Rattle.read_line.specs.Way.Walk.{resume, Onward, ResumesText, ResumesPart, NoProgressMeansBracket, HoldsPart, with_path, with_pinned}
use Rattle.read_line.specs.declared.Walk.{Walk}
use Rattle.read_path.specs.declared.PathWalk.{PathWalk}
use Rattle.lex_line.specs.declared.fast.Past.{Past}
use Rattle.read_line.proofs.CrossLaws.{crossed_reached, stays_elsewhere}
use Rattle.doc.specs.Lines.{Line, lines_at, significant, gather}
use Rattle.doc.specs.Document.{step_of, model_at, pin_at, map_at, section_at, document_in, document_of}
use Rattle.doc.specs.Records.{map_records}
use Rattle.doc.specs.Way.Staged.{staged_models, step_staged, pin_staged}
use Rattle.doc.specs.declared.Cursor.{Cursor}
use Rattle.doc.specs.Way.Found.{IsPlain}
use Rattle.doc.proofs.PlainLaws.{plainly_quiet}
use Rattle.read_path.specs.Way.Path.{GoesPath}
use Rattle.read_family.specs.Way.Pins.{GoesPins}
use Rattle.doc.specs.Way.Idle.{SkipsIdle}
use Rattle.read_family.specs.Way.Blocks.{is_in_map, Carries}
use Rattle.read_family.specs.Way.Family.{Alone, walk_of, Passes, Continues, after_steps, after_pins, followed, Follows, FamilyStaged, FamilyRead}
use Rattle.read_family.specs.declared.Open.{Open}
use Rattle.read_family.specs.declared.FamilyWalk.{FamilyWalk}
use Rattle.read_family.specs.declared.pins.PinWalk.{PinWalk}
use Rattle.read_family.proofs.LateLaws.{late_quiet, late_map, late_model, late_pin, late_step}
use Rattle.read_family.proofs.BodyLaws.{plain_no_step, plain_no_pin}
use Rattle.read_family.proofs.ListedLaws.{passes_plainly, passes_none, follows_on}
use Rattle.read_family.proofs.PinLaws.{grid_same}
use Rattle.read_family.proofs.RunLaws.{Stays, carries_run, carries_quiet}

-- ---- a walk that has made no progress

module _ (t : List ℕ) (at here p : ℕ) where
  -- it is at a line with a bracket, which is read alone
  pub alone_stays : NoProgressMeansBracket t at here → at ≤ here → here ≤ at → at < length t → Alone t at p
  alone_stays stays o n h =
      record {
        bracket = stays_elsewhere t at here p stays o n h;
        pins = λ (e : p ≡ place.pin_list). stays (omega arith) h;
      }

-- the lines are the same still
still_line : {t : List ℕ} {at line : ℕ} {fits : State → Type 0} {put : State → State} {rule further last : ℕ} → ResumesPart t at line fits put rule further last →
    further ≤ at → (further ≡ at) × (last ≡ line)
still_line crossed h =
    let a = crossed.onward in
    let b = crossed.raised in
    let c = crossed.counted in
    (omega arith, omega arith)

-- and so are the records that are left, so as many are staged
still_held :
    {A : Type 0} (words : A → List ℕ) (width : ℕ) (whole : List A) (stage stage' : List ℕ) (k k' : ℕ) (left left' : List A) →
    Held words width whole stage k left → Held words width whole stage' k' left' → left' ≡ left → Held words width whole stage' k left
still_held words width whole stage stage' k k' left left' before after same =
    let a : k + length left ≡ length whole = before.count in
    let b : k' + length left' ≡ length whole = after.count in
    let c : length left' ≡ length left = ap length same in
    let d : k' ≡ k = omega arith in
    rw d at (rw same at after)

-- lines read with a part of the state, as a walk
reached :
    (t : List ℕ) (at line : ℕ) (fits : State → Type 0) (put : State → State) (rule further last : ℕ) → ResumesPart t at line fits put rule further last →
    (s : State) → fits s → Onward t at line s → (rule ≡ 0 → at < further) →
    ResumesText t at line s (record { rule = rule; at = further; line = last; state = put s })
reached t at line fits put rule further last crossed s f on ahead =
    let c : line ≤ at + 1 = on.counted in
    let k : last + at ≤ line + further = crossed.counted in
    record {
      same = crossed.same s f;
      further = ahead;
      onward = λ (e : rule ≡ 0). record { within = crossed.within; counted = omega arith; kept = crossed.kept e s f on.kept };
    }

-- ---- lines of a path

module _ (t : List ℕ) (at line : ℕ) (s : State) (on : Onward t at line s) (there : s.place ≡ place.path) (w : PathWalk) (steps steps' : List ℕ)
    (goes : GoesPath t at line s.path s.counts.steps steps w steps') (o : Open) (models maps pins : List ℕ) where
  abbrev s_path : State
  s_path = with_path w.part.path w.part.steps s

  path_stays : Stays place.path s s_path
  path_stays =
      record {
        here = there;
        there = there;
        head = refl;
        grid = grid_same s.map;
        models = refl;
        maps = refl;
        none_yet = λ n. record { sections = n.sections; matrices = n.matrices; values = n.values };
      }

  path_carries :
      w.part.rule ≡ 0 → Carries t (lines_at t line at s.place) s o models steps maps pins →
      Carries t (lines_at t w.line w.at s.place) s_path o models steps' maps pins
  path_carries z carries =
      let begun : Carries t (lines_at t line at place.path) s o models steps maps pins =
      subst (λ (p : ℕ). Carries t (lines_at t line at p) s o models steps maps pins) there carries in
      subst (λ (p : ℕ). Carries t (lines_at t w.line w.at p) s_path o models steps' maps pins) (sym there)
      (carries_run place.path _ _ (goes.plain z) s s_path path_stays o t models steps maps pins begun
      (λ (e : place.path ≡ place.head). omega arith) (λ (e : place.path ≡ place.map_head). omega arith) steps' pins
      (goes.staged z _ begun.steps)
      (held_same pin_staged pin_width _ pins s.counts.pins _ begun.pins _
      (plainly_quiet place.path pin_at
      (λ (l : Line) (after : List Line) (h : IsPlain place.path l).
      plain_no_pin place.path l h (λ (e : place.path ≡ place.pin_list). omega arith) after) _ _ (goes.plain z))))

  path_walk : (w.part.rule ≡ 0 → at < w.at) → (r : FamilyWalk) → r ≡ after_steps s o w → Continues t at line s o models steps maps pins r models steps' maps pins
  path_walk ahead r e =
      rw e
      (record {
        resumes = reached t at line (HoldsPart place.path (with_path s.path s.counts.steps)) (with_path w.part.path w.part.steps) w.part.rule w.at w.line goes.blocked.crossed s (there, refl) on ahead;
        passes =
            λ (z : w.part.rule ≡ 0).
            subst (λ (p : ℕ). Passes p (lines_at t line at p) (lines_at t w.line w.at p)) (sym there) (passes_plainly place.path _ _ (goes.plain z));
        carries = path_carries;
      })

  pub path_stops : (w.part.rule ≡ 0 → ⊥) → (r : FamilyWalk) → r ≡ after_steps s o w → Continues t at line s o models steps maps pins r models steps' maps pins
  path_stops broken = path_walk (λ (z : w.part.rule ≡ 0). absurd (broken z))

  pub path_goes : at < w.at → (r : FamilyWalk) → r ≡ after_steps s o w → Continues t at line s o models steps maps pins r models steps' maps pins
  path_goes ahead = path_walk (λ (z : w.part.rule ≡ 0). ahead)

  -- no line of a path is there: what is staged is as good as before
  pub path_waits :
      w.part.rule ≡ 0 → w.at ≤ at → (r : FamilyWalk) (models' maps' : List ℕ) →
      ((step_stage pin_stage : List ℕ) → Continues t at line s o models step_stage maps pin_stage r models' step_stage maps' pin_stage) →
      Continues t at line s o models steps maps pins r models' steps' maps' pins
  path_waits z still r models' maps' alone =
      record {
        resumes = (alone steps' pins).resumes;
        passes = (alone steps' pins).passes;
        carries = λ (e : r.rule ≡ 0) carries. (alone steps' pins).carries e (waits carries);
      }
    where
      same : lines_at t w.line w.at place.path ≡ lines_at t line at s.place
      same =
          let k : (w.at ≡ at) × (w.line ≡ line) = still_line goes.blocked.crossed still in
          λ i. lines_at t (k.1 i) (k.0 i) (sym there i)

      waits : Carries t (lines_at t line at s.place) s o models steps maps pins → Carries t (lines_at t line at s.place) s o models steps' maps pins
      waits carries =
          record {
            models = carries.models;
            steps =
                still_held step_staged staged_step_width _ steps steps' s.counts.steps w.part.steps _ _ carries.steps
                (goes.staged z _
                (subst (λ (p : ℕ). Held step_staged staged_step_width (gather step_of (significant t)) steps s.counts.steps (gather step_of (lines_at t line at p))) there
                carries.steps))
                (ap (gather step_of) same);
            maps = carries.maps;
            pins = carries.pins;
            sections = carries.sections;
            none_yet = carries.none_yet;
            early = carries.early;
          }

-- ---- lines of a pin list

module _ (t : List ℕ) (at line : ℕ) (s : State) (on : Onward t at line s) (there : s.place ≡ place.pin_list) (w : PinWalk) (pins pins' : List ℕ)
    (goes : GoesPins t at line s.map s.counts.pins pins w pins') (o : Open) (models steps maps : List ℕ) where
  abbrev s_pins : State
  s_pins = with_pinned w.part.map w.part.pins s

  list_stays : Stays place.pin_list s s_pins
  list_stays =
      record {
        here = there;
        there = there;
        head = refl;
        grid = goes.grid;
        models = refl;
        maps = refl;
        none_yet = λ n. record { sections = n.sections; matrices = n.matrices; values = n.values };
      }

  list_carries :
      w.part.rule ≡ 0 → Carries t (lines_at t line at s.place) s o models steps maps pins →
      Carries t (lines_at t w.line w.at s.place) s_pins o models steps maps pins'
  list_carries z carries =
      let begun : Carries t (lines_at t line at place.pin_list) s o models steps maps pins =
      subst (λ (p : ℕ). Carries t (lines_at t line at p) s o models steps maps pins) there carries in
      subst (λ (p : ℕ). Carries t (lines_at t w.line w.at p) s_pins o models steps maps pins') (sym there)
      (carries_run place.pin_list _ _ (goes.plain z) s s_pins list_stays o t models steps maps pins begun
      (λ (e : place.pin_list ≡ place.head). omega arith) (λ (e : place.pin_list ≡ place.map_head). omega arith) steps pins'
      (held_same step_staged staged_step_width _ steps s.counts.steps _ begun.steps _
      (plainly_quiet place.pin_list step_of
      (λ (l : Line) (after : List Line) (h : IsPlain place.pin_list l).
      plain_no_step place.pin_list l h (λ (e : place.pin_list ≡ place.path). omega arith) after) _ _ (goes.plain z)))
      (goes.staged z _ begun.pins))

  list_walk : (w.part.rule ≡ 0 → at < w.at) → (r : FamilyWalk) → r ≡ after_pins s o w → Continues t at line s o models steps maps pins r models steps maps pins'
  list_walk ahead r e =
      rw e
      (record {
        resumes = reached t at line (HoldsPart place.pin_list (with_pinned s.map s.counts.pins)) (with_pinned w.part.map w.part.pins) w.part.rule w.at w.line goes.crossed s (there, refl) on ahead;
        passes =
            λ (z : w.part.rule ≡ 0).
            subst (λ (p : ℕ). Passes p (lines_at t line at p) (lines_at t w.line w.at p)) (sym there) (passes_plainly place.pin_list _ _ (goes.plain z));
        carries = list_carries;
      })

  pub list_stops : (w.part.rule ≡ 0 → ⊥) → (r : FamilyWalk) → r ≡ after_pins s o w → Continues t at line s o models steps maps pins r models steps maps pins'
  list_stops broken = list_walk (λ (z : w.part.rule ≡ 0). absurd (broken z))

  pub list_goes : at < w.at → (r : FamilyWalk) → r ≡ after_pins s o w → Continues t at line s o models steps maps pins r models steps maps pins'
  list_goes ahead = list_walk (λ (z : w.part.rule ≡ 0). ahead)

  -- no pin is there: what is staged is as good as before
  pub list_waits :
      w.part.rule ≡ 0 → w.at ≤ at → (r : FamilyWalk) (models' maps' : List ℕ) →
      ((step_stage pin_stage : List ℕ) → Continues t at line s o models step_stage maps pin_stage r models' step_stage maps' pin_stage) →
      Continues t at line s o models steps maps pins r models' steps maps' pins'
  list_waits z still r models' maps' alone =
      record {
        resumes = (alone steps pins').resumes;
        passes = (alone steps pins').passes;
        carries = λ (e : r.rule ≡ 0) carries. (alone steps pins').carries e (waits carries);
      }
    where
      same : lines_at t w.line w.at place.pin_list ≡ lines_at t line at s.place
      same =
          let k : (w.at ≡ at) × (w.line ≡ line) = still_line goes.crossed still in
          λ i. lines_at t (k.1 i) (k.0 i) (sym there i)

      waits : Carries t (lines_at t line at s.place) s o models steps maps pins → Carries t (lines_at t line at s.place) s o models steps maps pins'
      waits carries =
          record {
            models = carries.models;
            steps = carries.steps;
            maps = carries.maps;
            pins =
                still_held pin_staged pin_width _ pins pins' s.counts.pins w.part.pins _ _ carries.pins
                (goes.staged z _
                (subst (λ (p : ℕ). Held pin_staged pin_width (gather pin_at (significant t)) pins s.counts.pins (gather pin_at (lines_at t line at p))) there
                carries.pins))
                (ap (gather pin_at) same);
            sections = carries.sections;
            none_yet = carries.none_yet;
            early = carries.early;
          }

-- ---- lines that change nothing

module _ (t : List ℕ) (at line : ℕ) (s : State) (on : Onward t at line s) (r : Past) (skips : SkipsIdle t at line s.place r) (o : Open)
    (models steps maps pins : List ℕ) where
  idle_stays : s.place ≡ place.list → Stays place.list s s
  idle_stays there =
      record { here = there; there = there; head = refl; grid = grid_same s.map; models = refl; maps = refl; none_yet = λ n. n }

  idle_carries : Carries t (lines_at t line at s.place) s o models steps maps pins → Carries t (lines_at t r.line r.at s.place) s o models steps maps pins
  idle_carries carries =
      by_cases _ (eqb s.place place.list)
      (λ (e : eqb s.place place.list ≡ true).
      let there : s.place ≡ place.list = eqb-true _ _ e in
      subst (λ (p : ℕ). Carries t (lines_at t r.line r.at p) s o models steps maps pins) (sym there)
      (carries_quiet place.list _ _ (skips.listed there) s s (idle_stays there) o t models steps maps pins
      (subst (λ (p : ℕ). Carries t (lines_at t line at p) s o models steps maps pins) there carries)
      (λ (z : place.list ≡ place.head). omega arith) (λ (z : place.list ≡ place.map_head). omega arith)
      (λ (z : place.list ≡ place.path). omega arith) (λ (z : place.list ≡ place.pin_list). omega arith) refl refl))
      (λ (e : eqb s.place place.list ≡ false).
      subst (λ (ls : List Line). Carries t ls s o models steps maps pins) (skips.blank (eqb-false _ _ e)) carries)

  idle_passes : Passes s.place (lines_at t line at s.place) (lines_at t r.line r.at s.place)
  idle_passes =
      by_cases _ (eqb s.place place.list)
      (λ (e : eqb s.place place.list ≡ true).
      let there : s.place ≡ place.list = eqb-true _ _ e in
      subst (λ (p : ℕ). Passes p (lines_at t line at p) (lines_at t r.line r.at p)) (sym there) (passes_plainly place.list _ _ (skips.listed there)))
      (λ (e : eqb s.place place.list ≡ false). passes_none _ _ _ (skips.blank (eqb-false _ _ e)))

  pub idle_goes :
      at < r.at → Continues t at line s o models steps maps pins (record { rule = 0; at = r.at; line = r.line; state = s; block = o }) models steps maps pins
  idle_goes ahead =
      record {
        resumes = crossed_reached t at line (λ (x : State). x.place ≡ s.place) (λ (x : State). x) 0 r.at r.line skips.resumes s refl on ahead;
        passes = λ e. idle_passes;
        carries = λ e. idle_carries;
      }

-- ---- the start

module _ (t : List ℕ) (s : State) (is_start : s ≡ start_state) (o : Open) (models steps maps pins : List ℕ) where
  start_carries : Carries t (lines_at t 1 0 start_state.place) start_state o models steps maps pins
  unfolding start_state no_counts significant document_of document_in is_in_model is_in_map either
  start_carries =
      record {
        models =
            record {
              outside = λ e. held_start staged_model_words staged_model_width _ models;
              inside = λ (e : false ≡ true). absurd (true≢false (sym e));
            };
        steps = held_start step_staged staged_step_width _ steps;
        maps =
            record {
              outside = λ e. held_start map_words map_width _ maps;
              inside = λ (e : false ≡ true). absurd (true≢false (sym e));
            };
        pins = held_start pin_staged pin_width _ pins;
        sections = refl;
        none_yet = record { sections = refl; matrices = refl; values = refl };
        early = omega arith;
      }

  pub family_starts : Carries t (lines_at t 1 0 s.place) s o models steps maps pins
  family_starts = subst (λ (x : State). Carries t (lines_at t 1 0 x.place) x o models steps maps pins) (sym is_start) start_carries

-- ---- the end

module _ (t : List ℕ) (line at : ℕ) (s : State) (o : Open) (models steps maps pins : List ℕ) (carries : Carries t (lines_at t line at s.place) s o models steps maps pins) where
  module _ (there : s.place ≡ place.after) where
    late : place.after ≤ s.place
    late = omega arith

    no_models : staged_models s.counts.steps (gather model_at (lines_at t line at s.place)) ≡ []
    unfolding staged_models
    no_models = ap (staged_models s.counts.steps) (late_quiet model_at late_model t line at s.place late)

    no_maps : map_records s.counts.pins (gather map_at (lines_at t line at s.place)) ≡ []
    unfolding map_records
    no_maps = ap (map_records s.counts.pins) (late_quiet map_at late_map t line at s.place late)

    out_of_models : is_in_model s.place ≡ false
    unfolding is_in_model either
    out_of_models = rw there

    out_of_maps : is_in_map s.place ≡ false
    unfolding is_in_map either
    out_of_maps = rw there

    family_staged : FamilyStaged t line at s models steps maps pins
    family_staged =
        record {
          models = held_all staged_model_words staged_model_width _ models s.counts.models _ (carries.models.outside out_of_models) no_models;
          steps = held_all step_staged staged_step_width _ steps s.counts.steps _ carries.steps (late_quiet step_of late_step t line at s.place late);
          maps = held_all map_words map_width _ maps s.counts.maps _ (carries.maps.outside out_of_maps) no_maps;
          pins = held_all pin_staged pin_width _ pins s.counts.pins _ carries.pins (late_quiet pin_at late_pin t line at s.place late);
          sections = subst (λ (p : ℕ). gather section_at (lines_at t line at p) ≡ (document_of t).sections) there carries.sections;
          none_yet = carries.none_yet;
        }

  module _ (on : Onward t at line s) (same : read_from line (contents (drop at t)) s ≡ reading_of t) where
    abbrev walk : Walk
    walk = record { rule = 0; at = at; line = line; state = s }

    same_walk : resume t walk ≡ reading_of t
    unfolding resume
    same_walk = if_true _ _ (eq-eqb 0 0 refl) ∙ same

    module _ (c : Cursor) (follows : Follows t c (record { at = at; line = line; place = s.place })) where
      pub family_after : s.place ≡ place.after → FamilyRead t walk c models steps maps pins
      family_after there =
          record {
            same = same_walk;
            lists = λ z. follows.lists;
            early = λ z. carries.early;
            onward = λ z. on;
            place = λ z h. there;
            staged = λ z e. family_staged e;
          }

      pub family_ends : length t ≤ at → FamilyRead t walk c models steps maps pins
      family_ends h =
          record {
            same = same_walk;
            lists = λ z. follows.lists;
            early = λ z. carries.early;
            onward = λ z. on;
            place = λ z (k : at < length t). absurd (omega arith);
            staged = λ z e. family_staged e;
          }

-- a line breaks a rule
pub family_stops :
    (t : List ℕ) (at line : ℕ) (s : State) → read_from line (contents (drop at t)) s ≡ reading_of t → (o : Open) (models steps maps pins : List ℕ) (w : FamilyWalk)
    (models' steps' maps' pins' : List ℕ) → Continues t at line s o models steps maps pins w models' steps' maps' pins' → (w.rule ≡ 0 → ⊥) →
    (c : Cursor) → FamilyRead t (walk_of w) c models' steps' maps' pins'
family_stops t at line s same o models steps maps pins w models' steps' maps' pins' continues broken c =
    record {
      same = continues.resumes.same ∙ same;
      lists = λ z. absurd (broken z);
      early = λ z. absurd (broken z);
      onward = λ z. absurd (broken z);
      place = λ z. absurd (broken z);
      staged = λ z. absurd (broken z);
    }

-- ---- from line to line

pub family_early :
    (t : List ℕ) (ls : List Line) (s : State) (o : Open) (models steps maps pins : List ℕ) → Carries t ls s o models steps maps pins →
    (s.place ≡ place.after → ⊥) → s.place < place.after
family_early t ls s o models steps maps pins carries away =
    let e : s.place ≤ place.after = carries.early in
    omega arith

module _ (t : List ℕ) (at line : ℕ) (s : State) (o : Open) (models steps maps pins : List ℕ) (w : FamilyWalk) (models' steps' maps' pins' : List ℕ)
    (continues : Continues t at line s o models steps maps pins w models' steps' maps' pins') (z : w.rule ≡ 0) where
  pub family_less : at < length t → length t - w.at < length t - at
  family_less h =
      let f : at < w.at = continues.resumes.further z in
      omega arith

  pub family_on : Onward t w.at w.line w.state
  family_on = continues.resumes.onward z

  pub family_same : read_from line (contents (drop at t)) s ≡ reading_of t → read_from w.line (contents (drop w.at t)) w.state ≡ reading_of t
  unfolding resume
  family_same same = sym (if_true _ _ (eq-eqb _ _ z)) ∙ continues.resumes.same ∙ same

  pub family_carries :
      Carries t (lines_at t line at s.place) s o models steps maps pins →
      Carries t (lines_at t w.line w.at w.state.place) w.state w.block models' steps' maps' pins'
  family_carries = continues.carries z

  pub family_follows :
      (c : Cursor) → Follows t c (record { at = at; line = line; place = s.place }) → (c' : Cursor) →
      c' ≡ followed c (record { at = w.at; line = w.line; place = w.state.place }) →
      Follows t c' (record { at = w.at; line = w.line; place = w.state.place })
  family_follows c follows = follows_on t c _ _ follows (continues.passes z) family_on.within family_on.counted
