-- Laws of the walk over the lines behind the family: a line read alone, blank lines, a matrix with the line that ends it,
-- and the walk as a whole.
-- Assumes nothing.
use Rattle.std.proofs.Common.{unwrap_or}
use mathlib.Core.Path.{◌≡◌, refl, sym, ◌∙◌, ap}
use mathlib.Core.Bool.{true, false, true≢false}
use mathlib.Core.List.{List, [], ◌∷◌, ◌++◌}
use Prim.Native.Nat.{ℕ, ◌+◌, ◌-◌, ◌*◌, ◌^◌, ◌≤◌, ◌<◌, max}
use native.Mathlib.Nat.{le_refl}
use native.Mathlib.Omega.{arith}
use lib.ListN.{length, take, drop, length-drop}
use lib.Seq.{length-take-le}
use lib.Dec.{eqb, ltb}
use borrow.Author.Tests.{eq-eqb, ne_eqb, eqb-true, ltb-true, ltb-false}
use Rattle.base.specs.If.{provided◌then◌else◌}
use Rattle.base.specs.Broken.{first}
use Rattle.base.specs.Refusal as refusal
use Rattle.base.proofs.IfLaws.{if_true, if_false, by_test, by_cases, both_not_right, either_false}
use Rattle.lex_line.specs.Lines.{is_blank_line, comment_byte, contents}
use Rattle.lex_line.specs.Way.LineEnds.{line_at, content_at}
use Rattle.lex_line.proofs.LineLaws.{contents_none}
use Rattle.lex_keyword.specs.Bracket.{bracket_of}
use Rattle.line_place.specs.Place as place
use Rattle.line_keyword.specs.Way.Bounded.{NoneYet, most_lines}
use Rattle.line_keyword.specs.declared.Counts.{Counts}
use Rattle.line_keyword.specs.declared.State.{State}
use Rattle.table_layout.specs.Codes.{diagonal, matrix_kinds}
use Rattle.table_layout.specs.Layout.{section_width, matrix_width, value_width}
use Rattle.table_record.specs.Records.{section_words, matrix_words, value_words}
use Rattle.table_record.specs.Way.Stage.{put_at}
use Rattle.table_record.specs.declared.Value.{Value}
use Rattle.table_record.proofs.StageLaws.{put_long, held_start, held_all}
use Rattle.read_line.specs.Reading.{goes, line_result, read_from, at_end}
use Rattle.read_line.specs.Way.Walk.{resume, Onward, ResumesText, ReadsLine, BracketOrLineByLine, HoldsPart, with_matrix}
use Rattle.read_line.specs.declared.LineRead.{LineRead}
use Rattle.read_line.specs.declared.LineResult.{LineResult}
use Rattle.read_line.specs.declared.Reading.{Reading}
use Rattle.read_line.specs.declared.Reading.TheVariants.{Read, Refused}
use Rattle.lex_line.specs.declared.fast.Past.{Past}
use Rattle.read_line.proofs.ResultLaws.{refused_not_read, end_done}
use Rattle.read_line.proofs.QuietLaws.{quiet_blank}
use Rattle.read_line.proofs.CrossLaws.{crossed_reached}
use Rattle.doc.specs.Lines.{Line, key_at, key_of, lines_at, gather, up_to}
use Rattle.doc.specs.Document.{Section, in_matrix, values_from, bandwidth_in, greatest_in}
use Rattle.doc.specs.Records.{section_records, matrix_records, matrices_of, values_of}
use Rattle.doc.proofs.BlockLaws.{Follow, lines_follow}
use Rattle.doc.proofs.FoundLaws.{pass_over, stop_here, nothing_left, content_ordered, content_inside}
use Rattle.doc.proofs.GatherLaws.{up_out}
use Rattle.doc.proofs.Goes.{Moved, line_moves, moves_place}
use Rattle.doc.specs.Way.Idle.{SkipsIdle}
use Rattle.read_numbers.specs.Way.Staging.{HeldValues}
use Rattle.read_matrix.specs.Way.Body.{body_lines, Ends, Left, ResumesMatrix}
use Rattle.read_matrix.specs.declared.BodyWalk.{BodyWalk}
use Rattle.read_sections.specs.declared.OpenSection.{OpenSection}
use Rattle.read_sections.specs.declared.SectionWalk.{SectionWalk}
use Rattle.read_sections.specs.Way.Open.{reached_in, Stands, no_section, open_after, sections_after, matrix_closed, section_with}
use Rattle.read_sections.specs.Way.Sections.{sections_behind, SectionsStaged, Late, outside_matrix, EndsKeyed, StandsAt, Continues}
use Rattle.read_sections.proofs.KindLaws.{kind_small}
use Rattle.read_sections.proofs.LeftLaws.{stands_blank, stands_closed, stands_start, whole_sections, whole_matrices, whole_values}
use Rattle.read_sections.proofs.LineLaws.{ends_keyed, open_same, staged_same, outside_not, Steps, moves_steps}

text_follow : (t : List ℕ) (n at p : ℕ) → Follow p (lines_at t n at p)
unfolding lines_at
text_follow t n at p = lines_follow n at p (contents (drop at t))

-- the kind of the open matrix is known
open_kind : (at : ℕ) (content : List ℕ) (before after : ℕ) (o : OpenSection) → o.kind < matrix_kinds → (open_after at content before after o).kind < matrix_kinds
unfolding open_after
open_kind at content before after o h =
    by_test (λ (x : OpenSection). x.kind < matrix_kinds) (eqb after place.matrix) _ _ (λ (e : eqb after place.matrix ≡ true). kind_small (key_at content))
    (λ (e : eqb after place.matrix ≡ false).
    by_test (λ (x : OpenSection). x.kind < matrix_kinds) (eqb after place.section_head) _ _
    (λ (f : eqb after place.section_head ≡ true).
    by_test (λ (x : OpenSection). x.kind < matrix_kinds) (eqb before place.section_head) _ _ (λ (g : eqb before place.section_head ≡ true). h)
    (λ (g : eqb before place.section_head ≡ false). omega arith))
    (λ (f : eqb after place.section_head ≡ false). h))

sections_kept : (o : OpenSection) (s : State) (before after : ℕ) (sections : List ℕ) → length (sections_after o s before after sections) ≡ length sections
unfolding sections_after
sections_kept o s before after sections =
    by_test (λ (x : List ℕ). length x ≡ length sections) _ _ _ (λ e. put_long _ _ sections) (λ e. refl)

-- the same, told by another offset, line and state
stands_there :
    (ss : List Section) (t : List ℕ) (from : ℕ) (content : List ℕ) (before : ℕ) (o : OpenSection) (s₀ : State) (table sections matrices : List ℕ) (at at' line line' : ℕ) (s s' : State) →
    at ≡ at' → line ≡ line' → s ≡ s' →
    StandsAt ss t at line s.place s (open_after from content before s.place o) table (sections_after o s₀ before s.place sections) matrices →
    StandsAt ss t at' line' s'.place s' (open_after from content before s'.place o) table (sections_after o s₀ before s'.place sections) matrices
stands_there ss t from content before o s₀ table sections matrices at at' line line' s s' a b c h = rw (a, b, c) at h

-- ---- a line read alone

module _ (t : List ℕ) (at line : ℕ) (s : State) (h : at < length t) (late : Late s.place) (ends : s.place ≡ place.matrix → Ends (content_at t at)) where
  -- its place is one whose lines are read one by one, or it has a bracket
  pub alone_asked : BracketOrLineByLine (content_at t at) s.place
  alone_asked filled plain =
      let from : place.after ≤ s.place = late.from in
      record {
        matrix = λ (e : s.place ≡ place.matrix). (ends e).opens plain;
        path = λ (e : s.place ≡ place.path). omega arith;
        pins = λ (e : s.place ≡ place.pin_list). omega arith;
      }

  module _ (r : LineRead) (reads : ReadsLine t at line s r) where
    alone_broken : (r.rule ≡ 0 → ⊥) → (o : OpenSection) (table sections matrices : List ℕ) →
        Continues t at line (outside_matrix s.place) s o table sections matrices
        (record { rule = r.rule; at = r.at; line = r.line; state = r.state; block = o }) table sections matrices
    alone_broken broken o table sections matrices =
        record {
          same = reads.resumes.same;
          further = λ (z : r.rule ≡ 0). absurd (broken z);
          onward = λ (z : r.rule ≡ 0). absurd (broken z);
          late = λ (z : r.rule ≡ 0). absurd (broken z);
          kind = λ (z : r.rule ≡ 0). absurd (broken z);
          stands = λ (z : r.rule ≡ 0). absurd (broken z);
          table_long = refl;
          sections_long = refl;
          matrices_long = refl;
        }

    pub alone_stops : (r.rule ≡ 0 → ⊥) → (o : OpenSection) (sections : List ℕ) →
        ((table matrices : List ℕ) → Continues t at line (outside_matrix s.place) s o table sections matrices
        (record { rule = r.rule; at = r.at; line = r.line; state = r.state; block = o }) table sections matrices)
        × (r.rule ≡ 0 → s.place ≡ place.matrix → EndsKeyed (content_at t at))
    alone_stops broken o sections = (
      λ (table matrices : List ℕ). alone_broken broken o table sections matrices,
      λ (z : r.rule ≡ 0). absurd (broken z),
    )

    -- what is cut out of the text is the line's content
    pub alone_start : at ≤ r.end
    alone_start = rw reads.end_is (content_ordered t at h line (line_at comment_byte t at) refl)

    pub alone_within : r.end ≤ length t
    alone_within = rw reads.end_is (content_inside t at h line (line_at comment_byte t at) refl)

    pub alone_few : length t * 1 < 2 ^ 63 → at + length (take (r.end - at) (drop at t)) ≤ most_lines
    alone_few few =
        let a : at ≤ r.end = alone_start in
        let b : r.end ≤ length t = alone_within in
        let d : length (drop at t) ≡ length t - at = length-drop at t in
        let e : length (take (r.end - at) (drop at t)) ≡ r.end - at = length-take-le (r.end - at) (drop at t) (omega arith) in
        omega arith

    pub alone_bracket : r.bracket ≡ bracket_of (take (r.end - at) (drop at t))
    alone_bracket = rw reads.end_is reads.bracket_is

    module _ (z : r.rule ≡ 0) where
      abbrev content : List ℕ
      content = content_at t at

      state_is : r.state ≡ (line_result (content_at t at) s).state
      state_is = ap (λ (x : LineResult). x.state) reads.result

      kept : (line_result (content_at t at) s).rule ≡ 0
      kept = sym (ap (λ (x : LineResult). x.rule) reads.result) ∙ z

      abbrev l : Line
      l = record { line = line; at = at; place = s.place; content = content_at t at }

      -- a line with words
      module _ (filled : is_blank_line (content_at t at) ≡ false) where
        moved : Moved l s
        moved = line_moves l s filled kept

        abbrev ls : List Line
        ls = lines_at t (line + 1) (line_at comment_byte t at).next moved.next.place

        lines_are : lines_at t line at s.place ≡ l ∷ ls
        lines_are =
            stop_here t at h line (line_at comment_byte t at) refl filled s.place
            ∙ ap (λ (p : ℕ). l ∷ lines_at t (line + 1) (line_at comment_byte t at).next p) (sym (moves_place l s moved.next moved.moves))

        steps : Steps l ls s line moved.next
        steps =
            moves_steps l ls s line refl refl late (λ (e : s.place ≡ place.matrix). ends_keyed (content_at t at) s e (ends e) kept) moved.next moved.moves moved.met
            (text_follow t (line + 1) (line_at comment_byte t at).next moved.next.place)

        filled_late : Late r.state.place
        filled_late = rw (state_is ∙ moved.is_next) steps.late

        filled_stands : (ss : List Section) (o : OpenSection) (table sections matrices : List ℕ) → StandsAt ss t at line (outside_matrix s.place) s o table sections matrices →
            StandsAt ss t r.at r.line r.state.place r.state (open_after at (content_at t at) s.place r.state.place o) table
            (sections_after o s s.place r.state.place sections) matrices
        filled_stands ss o table sections matrices g =
            stands_there ss t at (content_at t at) s.place o s table sections matrices (line_at comment_byte t at).next r.at (line + 1) r.line moved.next r.state
            (sym reads.next_is) (sym (reads.line_is z)) (sym (state_is ∙ moved.is_next)) (steps.stands ss o table sections matrices (rw lines_are at g))

      -- a blank line
      module _ (blank : is_blank_line (content_at t at) ≡ true) where
        same_state : r.state ≡ s
        unfolding goes
        same_state = state_is ∙ ap (λ (x : LineResult). x.state) (quiet_blank (content_at t at) true (sym blank) refl s)

        away : eqb s.place place.matrix ≡ false
        away = ne_eqb _ _ (λ (e : s.place ≡ place.matrix). true≢false (sym blank ∙ (ends e).filled))

        lines_same : lines_at t line at s.place ≡ lines_at t (line + 1) (line_at comment_byte t at).next s.place
        lines_same = pass_over t at h line (line_at comment_byte t at) refl blank s.place

        blank_stands : (ss : List Section) (o : OpenSection) (table sections matrices : List ℕ) → StandsAt ss t at line (outside_matrix s.place) s o table sections matrices →
            StandsAt ss t r.at r.line r.state.place r.state (open_after at (content_at t at) s.place r.state.place o) table
            (sections_after o s s.place r.state.place sections) matrices
        blank_stands ss o table sections matrices g =
            stands_there ss t at (content_at t at) s.place o s table sections matrices (line_at comment_byte t at).next r.at (line + 1) r.line s r.state
            (sym reads.next_is) (sym (reads.line_is z)) (sym same_state)
            (rw (
              open_same at (content_at t at) o s.place s.place away (λ (e : eqb s.place place.section_head ≡ true). eqb-true _ _ e),
              staged_same o s sections s.place s.place (λ (e : eqb s.place place.after ≡ true). eqb-true _ _ e),
            )
            (stands_blank ss o s.place s.section.method s.matrix.form s.counts.sections s.counts.matrices s.counts.values line (line + 1) away _ table sections matrices
            (rw (lines_same, outside_not s.place away) at g)))

      alone_late : Late r.state.place
      alone_late =
          by_cases _ (is_blank_line (content_at t at)) (λ (b : is_blank_line (content_at t at) ≡ true). rw (same_state b) late)
          (λ (b : is_blank_line (content_at t at) ≡ false). filled_late b)

      alone_keyed : s.place ≡ place.matrix → EndsKeyed (content_at t at)
      alone_keyed e = ends_keyed (content_at t at) s e (ends e) kept

      alone_goes :
          (o : OpenSection) → o.kind < matrix_kinds → (sections sections' : List ℕ) → sections' ≡ sections_after o s s.place r.state.place sections → (part : List ℕ) →
          part ≡ take (r.end - at) (drop at t) → (o' : OpenSection) → o' ≡ open_after at part s.place r.state.place o → (table matrices : List ℕ) →
          Continues t at line (outside_matrix s.place) s o table sections matrices
          (record { rule = 0; at = r.at; line = r.line; state = r.state; block = o' }) table sections' matrices
      alone_goes o kind sections sections' stored part cut o' opened table matrices =
          let here : part ≡ content_at t at = cut ∙ ap (λ (e : ℕ). take (e - at) (drop at t)) reads.end_is in
          let is : o' ≡ open_after at (content_at t at) s.place r.state.place o = opened ∙ ap (λ (x : List ℕ). open_after at x s.place r.state.place o) here in
          record {
            same = ap (λ (x : ℕ). resume t (record { rule = x; at = r.at; line = r.line; state = r.state })) (sym z) ∙ reads.resumes.same;
            further = λ (e : ◌≡◌ {A = ℕ} 0 0). reads.resumes.further z;
            onward = λ (e : ◌≡◌ {A = ℕ} 0 0). reads.resumes.onward z;
            late = λ (e : ◌≡◌ {A = ℕ} 0 0). alone_late;
            kind = λ (e : ◌≡◌ {A = ℕ} 0 0). rw is (open_kind at (content_at t at) s.place r.state.place o kind);
            stands = λ (e : ◌≡◌ {A = ℕ} 0 0) (ss : List Section) (g : StandsAt ss t at line (outside_matrix s.place) s o table sections matrices).
                rw (is, stored)
                (by_cases _ (is_blank_line (content_at t at)) (λ (b : is_blank_line (content_at t at) ≡ true). blank_stands b ss o table sections matrices g)
                (λ (b : is_blank_line (content_at t at) ≡ false). filled_stands b ss o table sections matrices g));
            table_long = refl;
            sections_long = ap length stored ∙ sections_kept o s s.place r.state.place sections;
            matrices_long = refl;
          }

      pub alone_taken :
          (o : OpenSection) → o.kind < matrix_kinds → (sections sections' : List ℕ) → sections' ≡ sections_after o s s.place r.state.place sections → (part : List ℕ) →
          part ≡ take (r.end - at) (drop at t) → (o' : OpenSection) → o' ≡ open_after at part s.place r.state.place o →
          ((table matrices : List ℕ) → Continues t at line (outside_matrix s.place) s o table sections matrices
          (record { rule = 0; at = r.at; line = r.line; state = r.state; block = o' }) table sections' matrices)
          × (◌≡◌ {A = ℕ} 0 0 → s.place ≡ place.matrix → EndsKeyed (content_at t at))
      alone_taken o kind sections sections' stored part cut o' opened = (
        alone_goes o kind sections sections' stored part cut o' opened,
        λ (e : ◌≡◌ {A = ℕ} 0 0). alone_keyed,
      )

-- ---- blank lines

module _ (t : List ℕ) (at line : ℕ) (s : State) (on : Onward t at line s) (late : Late s.place) (away : s.place ≡ place.matrix → ⊥) (o : OpenSection) (kind : o.kind < matrix_kinds)
    (table sections matrices : List ℕ) where
  off_list : s.place ≡ place.list → ⊥
  off_list e = let behind : place.after ≤ s.place = late.from in omega arith

  pub blank_continues : (r : Past) → SkipsIdle t at line s.place r → at < r.at →
      Continues t at line s.place s o table sections matrices (record { rule = 0; at = r.at; line = r.line; state = s; block = o }) table sections matrices
  blank_continues r skips h =
      let reached : ResumesText t at line s (record { rule = 0; at = r.at; line = r.line; state = s }) =
      crossed_reached t at line (λ (x : State). x.place ≡ s.place) (λ (x : State). x) 0 r.at r.line skips.resumes s refl on h in
      record {
        same = reached.same;
        further = reached.further;
        onward = reached.onward;
        late = λ (z : ◌≡◌ {A = ℕ} 0 0). late;
        kind = λ (z : ◌≡◌ {A = ℕ} 0 0). kind;
        stands = λ (z : ◌≡◌ {A = ℕ} 0 0) (ss : List Section) (g : StandsAt ss t at line s.place s o table sections matrices).
            stands_blank ss o s.place s.section.method s.matrix.form s.counts.sections s.counts.matrices s.counts.values line r.line (ne_eqb _ _ away) _
            table sections matrices (rw (skips.blank off_list) at g);
        table_long = refl;
        sections_long = refl;
        matrices_long = refl;
      }

  pub alone_continues : (r : SectionWalk) (sections' : List ℕ) →
      ((table matrices : List ℕ) → Continues t at line (outside_matrix s.place) s o table sections matrices r table sections' matrices) →
      Continues t at line s.place s o table sections matrices r table sections' matrices
  alone_continues r sections' goes_on = rw (outside_not s.place (ne_eqb _ _ away)) at (goes_on table matrices)

-- ---- a matrix, and the line that ends it

-- what that line requires
module _ (t : List ℕ) (at line : ℕ) (s : State) (on : Onward t at line s) (here : s.place ≡ place.matrix) (table : List ℕ) (w : BodyWalk) (table' : List ℕ)
    (passed : ResumesMatrix t at line s.matrix s.counts.values table w table') (z : w.part.rule ≡ 0) where
  pub data_onward : Onward t w.at w.line (with_matrix w.part.matrix w.part.values s)
  data_onward =
      let c : line ≤ at + 1 = on.counted in
      let d : w.line + at ≤ line + w.at = passed.crossed.counted in
      record { within = passed.crossed.within; counted = omega arith; kept = passed.crossed.kept z s (here, refl) on.kept }

  pub data_last : w.at < length t → Ends (content_at t w.at)
  data_last h = passed.ends z h

pub data_late : (p : ℕ) → p ≡ place.matrix → Late p
data_late p here = rw here (record { from = omega arith; upto = omega arith })

pub data_kind : (conductors index : ℕ) (o o' : OpenSection) → o' ≡ section_with conductors index o → o.kind < matrix_kinds → o'.kind < matrix_kinds
unfolding section_with
data_kind conductors index o o' closed kind = rw closed kind

module _ (t : List ℕ) (at line : ℕ) (s : State) (on : Onward t at line s) (here : s.place ≡ place.matrix) (o : OpenSection) (table sections matrices : List ℕ) (w : BodyWalk) (table' : List ℕ)
    (passed : ResumesMatrix t at line s.matrix s.counts.values table w table') where
  abbrev reached : State
  reached = with_matrix w.part.matrix w.part.values s

  holds : HoldsPart place.matrix (with_matrix s.matrix s.counts.values) s
  holds = (here, refl)

  pub data_broken : (w.part.rule ≡ 0 → ⊥) →
      Continues t at line s.place s o table sections matrices
      (record { rule = w.part.rule; at = w.at; line = w.line; state = with_matrix w.part.matrix w.part.values s; block = o }) table' sections matrices
  data_broken broken =
      record {
        same = passed.crossed.same s holds;
        further = λ (z : w.part.rule ≡ 0). absurd (broken z);
        onward = λ (z : w.part.rule ≡ 0). absurd (broken z);
        late = λ (z : w.part.rule ≡ 0). absurd (broken z);
        kind = λ (z : w.part.rule ≡ 0). absurd (broken z);
        stands = λ (z : w.part.rule ≡ 0). absurd (broken z);
        table_long = passed.long;
        sections_long = refl;
        matrices_long = refl;
      }

  module _ (z : w.part.rule ≡ 0) where
    run_on : read_from w.line (contents (drop w.at t)) (with_matrix w.part.matrix w.part.values s) ≡ read_from line (contents (drop at t)) s
    unfolding resume
    run_on = sym (if_true _ _ (eq-eqb _ _ z)) ∙ passed.crossed.same s holds

    ends_matrix : at_end (with_matrix w.part.matrix w.part.values s) ≡ Refused refusal.end 0
    unfolding at_end first provided◌then◌else◌
    ends_matrix = rw here

    -- "10 END: text stops before [End] (line 0)"
    pub data_ends : length t ≤ w.at →
        Continues t at line s.place s o table sections matrices
        (record { rule = refusal.end; at = w.at; line = 0; state = with_matrix w.part.matrix w.part.values s; block = o }) table' sections matrices
    unfolding resume read_from
    data_ends h =
        let none : read_from w.line (contents (drop w.at t)) (with_matrix w.part.matrix w.part.values s) ≡ at_end (with_matrix w.part.matrix w.part.values s) =
        rw (contents_none t w.at h) in
        record {
          same = if_false _ _ (ne_eqb refusal.end 0 (λ (e : refusal.end ≡ 0). omega arith)) ∙ sym ends_matrix ∙ sym none ∙ run_on;
          further = λ (e : refusal.end ≡ 0). absurd (omega arith);
          onward = λ (e : refusal.end ≡ 0). absurd (omega arith);
          late = λ (e : refusal.end ≡ 0). absurd (omega arith);
          kind = λ (e : refusal.end ≡ 0). absurd (omega arith);
          stands = λ (e : refusal.end ≡ 0). absurd (omega arith);
          table_long = passed.long;
          sections_long = refl;
          matrices_long = refl;
        }

    module _ (h : w.at < length t) where
      module _ (kind : o.kind < matrix_kinds) (matrices' : List ℕ)
          (stored : matrices' ≡ put_at (matrix_width * (s.counts.matrices - 1))
          (matrix_words (matrix_closed s.matrix.form (unwrap_or w.part.staging.bandwidth 0) s.counts.values w.part.values line)) matrices)
          (o' : OpenSection)
          (closed : o' ≡ section_with (provided eqb s.matrix.form diagonal then w.part.values - s.counts.values else w.part.staging.greatest) s.counts.matrices o) where
        module _ (r : SectionWalk) (sections' : List ℕ)
            (alone : (table matrices : List ℕ) → Continues t w.at w.line (outside_matrix s.place) (with_matrix w.part.matrix w.part.values s) o' table sections matrices r table sections' matrices)
            (last : r.rule ≡ 0 → s.place ≡ place.matrix → EndsKeyed (content_at t w.at)) where
          after : Continues t w.at w.line (outside_matrix s.place) (with_matrix w.part.matrix w.part.values s) o' table' sections matrices' r table' sections' matrices'
          after = alone table' matrices'

          left : Left t line at s.matrix.form table s.counts.values w.line w.at table' w.part.values w.part.staging
          left = passed.left z

          -- the lines of the matrix end here
          module _ (kept : r.rule ≡ 0) where
            outside : (p : ℕ) → in_matrix (record { line = w.line; at = w.at; place = p; content = content_at t w.at }) ≡ false
            unfolding in_matrix key_of
            outside p = both_not_right _ _ (either_false _ _ (ne_eqb _ _ (last kept here).keyed) (last kept here).leaves)

            body_done : body_lines t w.line w.at ≡ []
            body_done =
                ap (up_to in_matrix) (stop_here t w.at h w.line (line_at comment_byte t w.at) refl (passed.ends z h).filled place.matrix) ∙ up_out in_matrix _ _ (outside place.matrix)

            lines_all : lines_at t line at place.matrix ≡ body_lines t line at ++ lines_at t w.line w.at place.matrix
            lines_all = left.rest (lines_at t w.line w.at place.matrix) (ap (λ (x : List Line). x ++ lines_at t w.line w.at place.matrix) (sym body_done))

            bandwidth_done : unwrap_or w.part.staging.bandwidth 0 ≡ bandwidth_in (body_lines t line at)
            unfolding bandwidth_in
            bandwidth_done = rw body_done at left.bandwidth

            greatest_done : w.part.staging.greatest ≡ greatest_in s.matrix.form (body_lines t line at)
            unfolding greatest_in
            greatest_done =
                let g : max w.part.staging.greatest 0 ≡ greatest_in s.matrix.form (body_lines t line at) = rw body_done at left.greatest in
                omega arith

            held_done : (whole rest : List Value) → HeldValues whole table s.counts.values (values_from s.matrix.form 1 1 (body_lines t line at) ++ rest) →
                HeldValues whole table' w.part.values rest
            unfolding values_from
            held_done whole rest g = rw body_done at (left.held whole rest g)

            data_stands : (ss : List Section) → StandsAt ss t at line s.place s o table sections matrices →
                StandsAt ss t w.at w.line (outside_matrix s.place) (with_matrix w.part.matrix w.part.values s) o' table' sections matrices'
            unfolding outside_matrix provided◌then◌else◌
            data_stands ss g =
                rw here
                (stands_closed o s.section.method s.matrix.form s.counts.sections s.counts.matrices s.counts.values line (lines_at t line at place.matrix)
                (lines_at t w.line w.at place.matrix) lines_all ss table sections matrices table' w.part.values held_done (rw here at g)
                (unwrap_or w.part.staging.bandwidth 0) w.part.staging.greatest bandwidth_done greatest_done kind o' closed matrices' stored w.part.matrix.form w.line)

          pub data_goes : Continues t at line s.place s o table sections matrices r table' sections' matrices'
          data_goes =
              record {
                same = after.same ∙ run_on;
                further = λ (e : r.rule ≡ 0).
                    let a : w.at < r.at = after.further e in
                    let b : at ≤ w.at = passed.crossed.onward in
                    omega arith;
                onward = after.onward;
                late = after.late;
                kind = after.kind;
                stands = λ (e : r.rule ≡ 0) (ss : List Section) (g : StandsAt ss t at line s.place s o table sections matrices). after.stands e ss (data_stands e ss g);
                table_long = passed.long;
                sections_long = after.sections_long;
                matrices_long = ap length stored ∙ put_long _ _ matrices;
              }

-- ---- the walk as a whole

pub record Going (t : List ℕ) (at₀ line₀ : ℕ) (answer : Reading) (table₀ sections₀ matrices₀ : List ℕ) (at line : ℕ) (s : State) (o : OpenSection) (table sections matrices : List ℕ) : Type 0 where
  pub rest : read_from line (contents (drop at t)) s ≡ answer
  pub onward : Onward t at line s
  pub behind : at₀ ≤ at
  pub kind : o.kind < matrix_kinds
  -- of an empty rest of a text nothing is known
  pub late : at₀ < length t → Late s.place
  pub stands : at₀ < length t → StandsAt (sections_behind t line₀ at₀) t at line s.place s o table sections matrices
  pub table_long : length table ≡ length table₀
  pub sections_long : length sections ≡ length sections₀
  pub matrices_long : length matrices ≡ length matrices₀

pub going_start :
    (t : List ℕ) (at line : ℕ) (s : State) (table sections matrices : List ℕ) → Onward t at line s → (at < length t → s.place ≡ place.after) → NoneYet s.counts → (o : OpenSection) →
    o ≡ no_section → Going t at line (read_from line (contents (drop at t)) s) table sections matrices at line s o table sections matrices
going_start t at line s table sections matrices on behind none o new =
    rw new
    (record {
      rest = refl;
      onward = on;
      behind = le_refl at;
      kind = omega arith;
      late = λ (h : at < length t). rw (behind h) (record { from = omega arith; upto = omega arith });
      stands = λ (h : at < length t).
          rw (behind h)
          (stands_start (lines_at t line at place.after) (text_follow t line at place.after) no_section s.section.method s.matrix.form s.counts.sections s.counts.matrices
          s.counts.values line table sections matrices none.sections none.matrices none.values refl);
      table_long = refl;
      sections_long = refl;
      matrices_long = refl;
    })

module _ (t : List ℕ) (at₀ line₀ : ℕ) (answer : Reading) (table₀ sections₀ matrices₀ : List ℕ) (at line : ℕ) (s : State) (o : OpenSection) (table sections matrices : List ℕ)
    (going : Going t at₀ line₀ answer table₀ sections₀ matrices₀ at line s o table sections matrices) where
  pub going_late : at < length t → Late s.place
  going_late h =
      let b : at₀ ≤ at = going.behind in
      going.late (omega arith)

  module _ (r : SectionWalk) (table' sections' matrices' : List ℕ) (more : Continues t at line s.place s o table sections matrices r table' sections' matrices') where
    pub going_stops : (r.rule ≡ 0 → ⊥) → (Refused r.rule r.line ≡ answer) × ((c : Counts) → Refused r.rule r.line ≡ Read c → SectionsStaged t line₀ at₀ table' sections' matrices')
    unfolding resume
    going_stops broken = (
      sym (if_false _ _ (ne_eqb _ _ broken)) ∙ more.same ∙ going.rest,
      λ (c : Counts) (e : Refused r.rule r.line ≡ Read c). absurd (refused_not_read r.rule r.line c e),
    )

    pub going_table : length table' ≡ length table₀
    going_table = more.table_long ∙ going.table_long

    pub going_sections : length sections' ≡ length sections₀
    going_sections = more.sections_long ∙ going.sections_long

    pub going_matrices : length matrices' ≡ length matrices₀
    going_matrices = more.matrices_long ∙ going.matrices_long

    module _ (z : r.rule ≡ 0) where
      pub going_less : length t - r.at < length t - at
      going_less =
          let f : at < r.at = more.further z in
          let w : r.at ≤ length t = (more.onward z).within in
          omega arith

      pub going_on : at < length t → Going t at₀ line₀ answer table₀ sections₀ matrices₀ r.at r.line r.state r.block table' sections' matrices'
      unfolding resume
      going_on h =
          let b : at₀ ≤ at = going.behind in
          let f : at < r.at = more.further z in
          record {
            rest = sym (if_true _ _ (eq-eqb _ _ z)) ∙ more.same ∙ going.rest;
            onward = more.onward z;
            behind = omega arith;
            kind = more.kind z;
            late = λ (k : at₀ < length t). more.late z;
            stands = λ (k : at₀ < length t). more.stands z (sections_behind t line₀ at₀) (going.stands k);
            table_long = going_table;
            sections_long = going_sections;
            matrices_long = going_matrices;
          }

  -- the text ends
  module _ (h : length t ≤ at) where
    none_left : lines_at t line at s.place ≡ []
    none_left = nothing_left t line at s.place h

    staged_some : at₀ < length t → s.place ≡ place.done → SectionsStaged t line₀ at₀ table sections matrices
    staged_some k e =
        let g : Stands (sections_behind t line₀ at₀) o (reached_in place.done s line) [] table sections matrices = rw (none_left, e) at (going.stands k) in
        record {
          sections = whole_sections (sections_behind t line₀ at₀) o s.section.method s.matrix.form s.counts.sections s.counts.matrices s.counts.values line table sections matrices g;
          matrices = whole_matrices (sections_behind t line₀ at₀) o s.section.method s.matrix.form s.counts.sections s.counts.matrices s.counts.values line table sections matrices g;
          values = whole_values (sections_behind t line₀ at₀) o s.section.method s.matrix.form s.counts.sections s.counts.matrices s.counts.values line table sections matrices g;
        }

    staged_none : length t ≤ at₀ → SectionsStaged t line₀ at₀ table sections matrices
    unfolding section_records matrix_records matrices_of values_of gather
    staged_none k =
        let e : lines_at t line₀ at₀ place.after ≡ [] = nothing_left t line₀ at₀ place.after k in
        record {
          sections = rw e (held_all section_words section_width [] sections 0 [] (held_start section_words section_width [] sections) refl);
          matrices = rw e (held_all matrix_words matrix_width [] matrices 0 [] (held_start matrix_words matrix_width [] matrices) refl);
          values = rw e (held_all value_words value_width [] table 0 [] (held_start value_words value_width [] table) refl);
        }

    pub going_ends : (r : Reading) → r ≡ at_end s → (r ≡ answer) × ((c : Counts) → r ≡ Read c → SectionsStaged t line₀ at₀ table sections matrices)
    unfolding read_from
    going_ends r e = (
      e ∙ rw (contents_none t at h) at going.rest,
      λ (c : Counts) (f : r ≡ Read c).
          by_cases _ (ltb at₀ (length t))
          (λ (k : ltb at₀ (length t) ≡ true). staged_some (ltb-true _ _ k) (end_done s c (sym e ∙ f)).0)
          (λ (k : ltb at₀ (length t) ≡ false). staged_none (ltb-false _ _ k)),
    )
