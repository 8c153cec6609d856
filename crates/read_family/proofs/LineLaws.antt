-- A line that is read alone: what is staged and what is left stays the whole. A blank line changes nothing.
-- Assumes nothing.
use mathlib.Core.Path.{◌≡◌, refl, sym, ◌∙◌, ap, subst}
use mathlib.Core.Bool.{true, false}
use mathlib.Core.List.{List, [], ◌∷◌}
use Prim.Native.Nat.{ℕ, ◌+◌, ◌-◌, ◌*◌, ◌^◌, ◌≤◌, ◌<◌}
use lib.ListN.{length, take, drop, get_or}
use lib.Dec.{eqb}
use borrow.Author.Tests.{ne_eqb}
use native.Mathlib.Nat.{le_refl}
use lib.ListN.{get_or-eq_default}
use Rattle.base.specs.Bytes.{is_blank}
use Rattle.base.specs.Runs.{run}
use Rattle.base.proofs.IfLaws.{if_true, if_false, by_cases, not_via}
use Rattle.base.proofs.RunLaws.{all_run}
use Rattle.lex_line.specs.Lines.{is_blank_line, comment_byte}
use Rattle.lex_line.specs.Way.LineEnds.{line_at, content_at}
use Rattle.lex_keyword.specs.Bracket.{bracket_of, is_open}
use Rattle.lex_keyword.specs.declared.Bracket.TheVariants.{Plain}
use Rattle.line_place.specs.Place.{is_in_model}
use Rattle.line_place.specs.Place as place
use Rattle.line_keyword.specs.Way.Bounded.{most_lines}
use Rattle.line_keyword.specs.declared.State.{State}
use Rattle.table_record.proofs.StageLaws.{held_same}
use Rattle.read_line.specs.Reading.{goes, line_result}
use Rattle.read_line.specs.Way.Walk.{ResumesText, ReadsLine}
use Rattle.read_line.specs.declared.LineRead.{LineRead}
use Rattle.read_line.specs.declared.LineResult.{LineResult}
use Rattle.read_line.proofs.QuietLaws.{quiet_blank}
use Rattle.doc.specs.Lines.{Line, lines_at, gather, up_to}
use Rattle.doc.specs.Document.{step_of, in_model, pin_at, section_at}
use Rattle.doc.proofs.FoundLaws.{pass_over, stop_here, content_ordered, content_inside}
use Rattle.doc.proofs.GatherLaws.{gather_quiet}
use Rattle.read_family.specs.Way.Blocks.{Carries, maps_after, models_after, enters, open_after}
use Rattle.read_family.specs.Way.Family.{Alone, Passes, Continues}
use Rattle.read_family.specs.declared.Open.{Open}
use Rattle.read_family.proofs.ListedLaws.{passes_none, passes_line}
use Rattle.read_family.proofs.PinLaws.{content_few}
use Rattle.read_family.proofs.BodyLaws.{models_outside}
use Rattle.read_family.proofs.TakeLaws.{Takes, line_takes}
use Rattle.read_family.proofs.GivenLaws.{Given, line_gives, not_self, sgr_unchanged}
use Rattle.read_family.proofs.ModelLaws.{models_line}
use Rattle.read_family.proofs.MapLaws.{maps_line}

-- ---- a line that is not blank

module _ (t : List ℕ) (l : Line) (rest : List Line) (s s' : State) (takes : Takes l s s') (early : s.place < place.after)
    (nothing : is_in_model s'.place ≡ false → up_to in_model rest ≡ []) (o : Open) (models steps maps pins : List ℕ) where
  abbrev o' : Open
  o' = open_after l.line l.at l.content s s'.place s'.head o

  given : Given l s s' o o'
  given = line_gives l s s' takes early o

  carries_line : Carries t (l ∷ rest) s o models steps maps pins → Carries t rest s' o' (models_after o s s'.place models) steps (maps_after o s maps) pins
  carries_line carries =
      record {
        models = models_line l rest s s' takes o o' given models _ nothing carries.models;
        steps =
            rw takes.steps
            (held_same _ _ _ steps s.counts.steps _ carries.steps (gather step_of rest) (gather_quiet step_of l rest (given.no_steps rest)));
        maps = maps_line l rest s s' takes o o' given maps _ carries.maps;
        pins =
            rw takes.pins
            (held_same _ _ _ pins s.counts.pins _ carries.pins (gather pin_at rest) (gather_quiet pin_at l rest (given.no_pins rest)));
        sections = sym (gather_quiet section_at l rest (given.no_sections rest)) ∙ carries.sections;
        none_yet = takes.none_yet carries.none_yet;
        early = takes.early;
      }

-- ---- a blank line

blank_plain : (content : List ℕ) → is_blank_line content ≡ true → bracket_of content ≡ Plain
unfolding is_blank_line bracket_of is_open
blank_plain content b =
    let past : get_or content (run is_blank content) 0 ≡ 0 =
    ap (λ (n : ℕ). get_or content n 0) (all_run is_blank content b) ∙ get_or-eq_default content 0 (le_refl (length content)) in
    if_true _ _ (not_via (ap (λ (c : ℕ). eqb c 91) past))

-- the place stays
module _ (o : Open) (s : State) where
  open_kept : (line at : ℕ) (content : List ℕ) → open_after line at content s s.place s.head o ≡ o
  unfolding open_after enters
  open_kept line at content =
      if_false _ _ (not_self (eqb s.place place.head)) ∙ if_false _ _ (not_self (eqb s.place place.map_head))
      ∙ sgr_unchanged line s.head s.head o refl

  models_kept : (models : List ℕ) → models_after o s s.place models ≡ models
  unfolding models_after
  models_kept models = if_false _ _ (not_self (is_in_model s.place))

  maps_kept : (s.place ≡ place.pin_list → ⊥) → (maps : List ℕ) → maps_after o s maps ≡ maps
  unfolding maps_after
  maps_kept away maps = if_false _ _ (ne_eqb _ _ away)

-- ---- the line that is read

module _ (t : List ℕ) (at line : ℕ) (s : State) (h : at < length t) (early : s.place < place.after) (alone : Alone t at s.place) (r : LineRead)
    (reads : ReadsLine t at line s r) where
  pub alone_start : at ≤ r.end
  alone_start = rw reads.end_is (content_ordered t at h line (line_at comment_byte t at) refl)

  pub alone_within : r.end ≤ length t
  alone_within = rw reads.end_is (content_inside t at h line (line_at comment_byte t at) refl)

  pub alone_few : length t * 1 < 2 ^ 63 → at + length (take (r.end - at) (drop at t)) ≤ most_lines
  alone_few few = rw reads.end_is (content_few t at (line_at comment_byte t at) refl h few)

  pub alone_bracket : r.bracket ≡ bracket_of (take (r.end - at) (drop at t))
  alone_bracket = rw reads.end_is reads.bracket_is

  pub alone_stops :
      (r.rule ≡ 0 → ⊥) → (o : Open) (models maps steps pins : List ℕ) →
      Continues t at line s o models steps maps pins (record { rule = r.rule; at = r.at; line = r.line; state = r.state; block = o }) models steps maps pins
  alone_stops broken o models maps steps pins = record { resumes = reads.resumes; passes = λ (z : r.rule ≡ 0). absurd (broken z); carries = λ (z : r.rule ≡ 0). absurd (broken z) }

  module _ (z : r.rule ≡ 0) (o : Open) (models steps maps pins : List ℕ) where
    abbrev content : List ℕ
    content = content_at t at

    abbrev next : ℕ
    next = (line_at comment_byte t at).next

    -- what a line does that leads to the state s'
    abbrev Goes : State → Type 0
    Goes s' =
        Passes s.place (lines_at t line at s.place) (lines_at t (line + 1) next s'.place)
        × (Carries t (lines_at t line at s.place) s o models steps maps pins →
        Carries t (lines_at t (line + 1) next s'.place) s' (open_after line at content s s'.place s'.head o) (models_after o s s'.place models) steps (maps_after o s maps) pins)

    kept : (line_result content s).rule ≡ 0
    kept = sym (ap (λ (x : LineResult). x.rule) reads.result) ∙ z

    by_blank : is_blank_line content ≡ true → Goes s
    by_blank blank =
        let away : s.place ≡ place.pin_list → ⊥ = λ (e : s.place ≡ place.pin_list). alone.pins e (blank_plain content blank) in
        let same : lines_at t line at s.place ≡ lines_at t (line + 1) next s.place =
        pass_over t at h line (line_at comment_byte t at) refl blank s.place in (
          passes_none _ _ _ same,
          λ carries.
              rw (open_kept o s line at content, models_kept o s models, maps_kept o s away maps)
              (subst (λ (ls : List Line). Carries t ls s o models steps maps pins) same carries),
        )

    by_filled : is_blank_line content ≡ false → Goes (line_result content s).state
    by_filled filled =
        let l : Line = record { line = line; at = at; place = s.place; content = content } in
        let s' : State = (line_result content s).state in
        let takes : Takes l s s' = line_takes l s refl early filled kept alone.bracket in
        let lines : lines_at t line at s.place ≡ l ∷ lines_at t (line + 1) next s'.place =
        stop_here t at h line (line_at comment_byte t at) refl filled s.place
        ∙ ap (λ (p : ℕ). l ∷ lines_at t (line + 1) next p) (sym takes.there) in (
          passes_line _ _ _ l refl lines,
          λ carries.
              carries_line t l (lines_at t (line + 1) next s'.place) s s' takes early (models_outside t (line + 1) next s'.place) o models steps maps pins
              (subst (λ (ls : List Line). Carries t ls s o models steps maps pins) lines carries),
        )

    blank_same : is_blank_line content ≡ true → s ≡ (line_result content s).state
    unfolding goes
    blank_same blank = sym (ap (λ (x : LineResult). x.state) (quiet_blank content true (sym blank) refl s))

    goes_on : Goes r.state
    goes_on =
        subst Goes (sym (ap (λ (x : LineResult). x.state) reads.result))
        (by_cases _ (is_blank_line content) (λ (b : is_blank_line content ≡ true). subst Goes (blank_same b) (by_blank b)) by_filled)

pub alone_goes :
    (t : List ℕ) (at line : ℕ) (s : State) → at < length t → s.place < place.after → Alone t at s.place → (r : LineRead) → ReadsLine t at line s r →
    r.rule ≡ 0 → (o : Open) (models maps : List ℕ) (maps' : List ℕ) → maps' ≡ maps_after o s maps → (models' : List ℕ) →
    models' ≡ models_after o s r.state.place models → (o' : Open) →
    o' ≡ open_after line at (take (r.end - at) (drop at t)) s r.state.place r.state.head o → (steps pins : List ℕ) →
    Continues t at line s o models steps maps pins (record { rule = 0; at = r.at; line = r.line; state = r.state; block = o' }) models' steps maps' pins
alone_goes t at line s h early alone r reads z o models maps maps' is_maps models' is_models o' is_o steps pins =
    record {
      resumes = subst (λ (k : ℕ). ResumesText t at line s (record { rule = k; at = r.at; line = r.line; state = r.state })) z reads.resumes;
      passes = λ (e : ◌≡◌ {A = ℕ} 0 0). rw (reads.line_is z, reads.next_is) (goes_on t at line s h early alone r reads z o models steps maps pins).0;
      carries =
          λ (e : ◌≡◌ {A = ℕ} 0 0) carries.
          rw (is_maps, is_models, is_o, reads.end_is, reads.line_is z, reads.next_is)
          ((goes_on t at line s h early alone r reads z o models steps maps pins).1 carries);
    }
