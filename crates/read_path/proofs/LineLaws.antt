-- Laws of one line of a path that is judged and staged: a blank line, a line with words, a line with a bracket.
-- Assumes nothing.
use mathlib.Core.Path.{◌≡◌, refl, sym, ◌∙◌, ap}
use mathlib.Core.Bool.{true, false, true≢false}
use mathlib.Core.List.{List, [], ◌∷◌, ◌++◌}
use Prim.Native.Nat.{ℕ, ◌+◌, ◌-◌, ◌*◌}
use native.Mathlib.Omega.{arith}
use lib.ListN.{length, take, drop}
use lib.Dec.{eqb}
use borrow.Author.Tests.{eq-eqb, ne_eqb}
use Rattle.base.specs.If.{provided◌then◌else◌}
use Rattle.base.proofs.IfLaws.{if_true, if_false, by_cases, not_via, not_not_via}
use Rattle.table_record.specs.Way.Stage.{put_at, staged_step_width, staged_step_words, Held}
use Rattle.table_record.specs.declared.stage.StagedStep.{StagedStep}
use Rattle.table_record.proofs.StageLaws.{put_long, held_same, held_one}
use Rattle.lex_line.specs.Lines.{is_blank_line, comment_byte}
use Rattle.lex_line.specs.Way.LineEnds.{line_at, content_at}
use Rattle.lex_line.specs.declared.Line as text
use Rattle.lex_keyword.specs.Bracket.{bracket_of}
use Rattle.lex_keyword.specs.declared.Bracket.TheVariants.{Plain}
use Rattle.line_place.specs.Place as place
use Rattle.line_path.specs.Path.{says_end, says_side, says_section, says_fork, says_endfork, path_next, is_step_line}
use Rattle.line_path.specs.Way.Parts.{ParsesLine}
use Rattle.line_path.specs.declared.Path.{Path}
use Rattle.line_path.specs.declared.PathLine.{PathLine}
use Rattle.line_path.specs.declared.PathParts.{PathParts}
use Rattle.line_path.proofs.PartLaws.{right_kept}
use Rattle.line_path.specs.Way.Rule.{path_rule}
use Rattle.line_keyword.specs.Keywords.{one_more_if}
use Rattle.line_keyword.specs.declared.State.{State}
use Rattle.read_line.specs.Reading.{line_result}
use Rattle.read_line.specs.Way.Walk.{Fronted, Decides, Stepping, with_path}
use Rattle.read_line.specs.declared.Front.{Front}
use Rattle.read_line.specs.declared.Front.TheVariants.{Blanks, Words, Opening}
use Rattle.read_line.proofs.StepLaws.{path_stops, path_goes, stepping_on}
use Rattle.read_line.proofs.QuietLaws.{blanks_front, words_front, opening_opens, blanks_decide, words_decide}
use Rattle.doc.specs.Lines.{plain, key_in, key_at, key_of, lines_at, gather}
use Rattle.doc.specs.Document.{Step, saying_at, step_of}
use Rattle.doc.specs.Way.Found.{Plainly}
use Rattle.doc.specs.Way.Staged.{staged_step, step_staged}
use Rattle.doc.proofs.FoundLaws.{pass_over, stop_here}
use Rattle.doc.proofs.GatherLaws.{gather_more, gather_quiet}
use Rattle.doc.proofs.PlainLaws.{plain_stays, plainly_none, plainly_one, plainly_same}
use Rattle.doc.proofs.StepLaws.{saying_there, path_says}
use Rattle.read_path.specs.Way.Path.{line_here, next_at, lines_following, step_said, rule_of_line, path_after_line, steps_after_line, Starts, Parsed, Worded, JudgesLine, StagesSteps, TakesStep}
use Rattle.read_path.proofs.StepLaws.{cut_is, cut_parses}

wide : (s : Step) → length (step_staged s) ≡ staged_step_width
wide s = refl

-- ---- a line with words

module _ (t : List ℕ) (n at : ℕ) (ends : text.Line) (worded : Worded t n at ends) where
  abbrev content : List ℕ
  content = content_at t at

  key_plain : key_at content ≡ plain
  unfolding key_at
  key_plain = ap key_in worded.plainly

  lines_here : lines_at t n at place.path ≡ line_here t n at ∷ lines_following t n at
  lines_here =
      stop_here t at worded.starts.there n (line_at comment_byte t at) refl worded.filled place.path
      ∙ ap (λ (p : ℕ). line_here t n at ∷ lines_at t (n + 1) (next_at t at) p)
      (plain_stays place.path content key_plain (λ (e : place.path ≡ place.map_head). omega arith))

  line_plain : Plainly place.path (lines_at t n at place.path) (lines_following t n at)
  unfolding key_of
  line_plain = rw lines_here (plainly_one place.path (line_here t n at) (lines_following t n at) (record { place_is = refl; key_is = key_plain }))

  -- the line gives no step
  stages_none : (steps : ℕ) (stage : List ℕ) → step_of (line_here t n at) (lines_following t n at) ≡ [] → StagesSteps t at n steps stage (next_at t at) (n + 1) steps stage
  stages_none steps stage e =
      record {
        plain = line_plain;
        staged =
            λ (whole : List Step) (held : Held step_staged staged_step_width whole stage steps (gather step_of (lines_at t n at place.path))).
            held_same step_staged staged_step_width whole stage steps _ held _
            (ap (gather step_of) lines_here ∙ gather_quiet step_of (line_here t n at) (lines_following t n at) e);
      }

  -- the line gives one, which is stored
  stages_one : (steps : ℕ) (stage : List ℕ) (s : Step) → step_of (line_here t n at) (lines_following t n at) ≡ s ∷ [] →
      (stage' : List ℕ) → stage' ≡ put_at (staged_step_width * steps) (step_staged s) stage → StagesSteps t at n steps stage (next_at t at) (n + 1) (steps + 1) stage'
  stages_one steps stage s e stage' stored =
      record {
        plain = line_plain;
        staged =
            λ (whole : List Step) (held : Held step_staged staged_step_width whole stage steps (gather step_of (lines_at t n at place.path))).
            held_one step_staged staged_step_width whole stage steps _ held wide s (gather step_of (lines_following t n at))
            (ap (gather step_of) lines_here ∙ gather_more step_of (line_here t n at) (lines_following t n at)
            ∙ ap (λ (xs : List Step). xs ++ gather step_of (lines_following t n at)) e)
            stage' stored;
      }

  fronted : Fronted content Words
  fronted = (worded.filled, worded.plainly)

  module _ (p : Path) (steps : ℕ) (stepping : Stepping p steps) (parts : PathParts) (cut : ParsesLine (take (ends.content - at) (drop at t)) parts)
      (k : ℕ) (rule : k ≡ path_rule parts.line p steps) where
    parses : ParsesLine content parts
    parses = cut_parses t n at ends worded.starts parts cut

    told_rule : k ≡ rule_of_line content p steps
    unfolding rule_of_line
    told_rule = rule ∙ ap (λ (l : PathLine). path_rule l p steps) parses.line_is ∙ sym (if_false _ _ worded.filled)

    pub line_refused : (stage : List ℕ) → (k ≡ 0 → ⊥) → TakesStep t at n p steps stage (record { taken = true; rule = k; path = p; steps = steps }) stage
    line_refused stage broken =
        record {
          decides =
              λ (e : true ≡ true).
              words_decide content Words fronted place.path (with_path p steps) refl (λ (s : State). refl) (λ (z : place.path ≡ place.done). omega arith)
              (λ (z : place.path ≡ place.before). omega arith) k (with_path p steps) (path_stops content p steps parts.line parses.line_is k rule broken);
          judges =
              λ (e : true ≡ true).
              record {
                plainly = λ (f : is_blank_line content ≡ false). worded.plainly;
                rule_is = told_rule;
                path_is = λ (z : k ≡ 0). absurd (broken z);
                steps_is = λ (z : k ≡ 0). absurd (broken z);
              };
          opens = λ (f : true ≡ false). absurd (true≢false f);
          stepping = stepping;
          kept = λ (f : true ≡ false). refl;
          long = refl;
          stages = λ (e : true ≡ true) (z : k ≡ 0). absurd (broken z);
        }

    module _ (z : k ≡ 0) (next : Path) (told : next ≡ path_next parts.line p) where
      abbrev says : ℕ
      says = parts.line.says

      kept_rule : path_rule parts.line p steps ≡ 0
      kept_rule = sym rule ∙ z

      says_here : saying_at (line_here t n at) ≡ says
      unfolding key_of
      says_here = saying_there (line_here t n at) refl key_plain ∙ sym (ap (λ (l : PathLine). l.says) parses.line_is)

      goes_on : (more : ℕ) → more ≡ one_more_if (is_step_line parts.line) steps → Decides place.path (with_path p steps) (line_result content) 0 (with_path next more)
      goes_on more count =
          words_decide content Words fronted place.path (with_path p steps) refl (λ (s : State). refl) (λ (e : place.path ≡ place.done). omega arith)
          (λ (e : place.path ≡ place.before). omega arith) 0 (with_path next more)
          (path_goes content p steps parts.line parses.line_is k rule z (is_step_line parts.line) refl more count next told)

      judges_on : (more : ℕ) → more ≡ one_more_if (is_step_line parts.line) steps →
          JudgesLine content p steps (record { taken = true; rule = 0; path = next; steps = more })
      unfolding path_after_line steps_after_line
      judges_on more count =
          record {
            plainly = λ (f : is_blank_line content ≡ false). worded.plainly;
            rule_is = sym z ∙ told_rule;
            path_is = λ (y : ◌≡◌ {A = ℕ} 0 0). told ∙ ap (λ (l : PathLine). path_next l p) parses.line_is ∙ sym (if_false _ _ worded.filled);
            steps_is =
                λ (y : ◌≡◌ {A = ℕ} 0 0).
                count ∙ ap (λ (l : PathLine). one_more_if (is_step_line l) steps) parses.line_is ∙ sym (if_false _ _ worded.filled);
          }

      steps_on : (more : ℕ) → more ≡ one_more_if (is_step_line parts.line) steps → Stepping next more
      steps_on more count = stepping_on parts.line p steps k rule z stepping (is_step_line parts.line) refl more count next told

      -- a Side is part of the step above it
      module _ (is : says ≡ says_side) where
        side_count : steps ≡ one_more_if (is_step_line parts.line) steps
        unfolding one_more_if is_step_line
        side_count = sym (if_false _ _ (not_not_via (eq-eqb _ _ is)))

        side_none : step_of (line_here t n at) (lines_following t n at) ≡ []
        unfolding step_of provided◌then◌else◌
        side_none = rw (says_here ∙ is)

        pub line_side : (stage : List ℕ) → TakesStep t at n p steps stage (record { taken = true; rule = 0; path = next; steps = steps }) stage
        line_side stage =
            record {
              decides = λ (e : true ≡ true). goes_on steps side_count;
              judges = λ (e : true ≡ true). judges_on steps side_count;
              opens = λ (f : true ≡ false). absurd (true≢false f);
              stepping = steps_on steps side_count;
              kept = λ (f : true ≡ false). refl;
              long = refl;
              stages = λ (e : true ≡ true) (y : ◌≡◌ {A = ℕ} 0 0). stages_none steps stage side_none;
            }

      -- any other line is a step
      module _ (other : says ≡ says_side → ⊥) where
        is_step_lem : is_step_line parts.line ≡ true
        unfolding is_step_line
        is_step_lem = not_via (ne_eqb _ _ other)

        step_count : steps + 1 ≡ one_more_if (is_step_line parts.line) steps
        unfolding one_more_if
        step_count = sym (if_true _ _ is_step_lem)

        pub line_parsed : Parsed t n at ends parts
        line_parsed = record { starts = worded.starts; parses = parses; right = right_kept parts.line p steps kept_rule other }

        -- the five that a line may say
        one_step : step_of (line_here t n at) (lines_following t n at) ≡ step_said t n at says ∷ []
        unfolding step_of step_said
        one_step =
            by_cases _ (eqb says says_end)
            (λ (a : eqb says says_end ≡ true). if_true _ _ (said says_end ∙ a) ∙ one (if_true _ _ a))
            (λ (a : eqb says says_end ≡ false).
            by_cases _ (eqb says says_section)
            (λ (b : eqb says says_section ≡ true). if_false _ _ (said says_end ∙ a) ∙ if_true _ _ (said says_section ∙ b) ∙ one (if_false _ _ a ∙ if_true _ _ b))
            (λ (b : eqb says says_section ≡ false).
            by_cases _ (eqb says says_fork)
            (λ (c : eqb says says_fork ≡ true).
            if_false _ _ (said says_end ∙ a) ∙ if_false _ _ (said says_section ∙ b) ∙ if_true _ _ (said says_fork ∙ c) ∙ one (if_false _ _ a ∙ if_false _ _ b ∙ if_true _ _ c))
            (λ (c : eqb says says_fork ≡ false).
            by_cases _ (eqb says says_endfork)
            (λ (d : eqb says says_endfork ≡ true).
            if_false _ _ (said says_end ∙ a) ∙ if_false _ _ (said says_section ∙ b) ∙ if_false _ _ (said says_fork ∙ c) ∙ if_true _ _ (said says_endfork ∙ d)
            ∙ one (if_false _ _ a ∙ if_false _ _ b ∙ if_false _ _ c))
            (λ (d : eqb says says_endfork ≡ false). absurd (path_says parts.line p steps kept_rule (ne_eqb _ _ other) b c a d)))))
          where
            said : (v : ℕ) → eqb (saying_at (line_here t n at)) v ≡ eqb says v
            said v = ap (λ (w : ℕ). eqb w v) says_here

            one : {s r : Step} → r ≡ s → s ∷ [] ≡ r ∷ []
            one e = ap (λ (x : Step). x ∷ []) (sym e)

        pub line_staged : (stage : List ℕ) (step : StagedStep) → step ≡ staged_step (step_said t n at says) → (stage' : List ℕ) →
            stage' ≡ put_at (staged_step_width * steps) (staged_step_words step) stage →
            TakesStep t at n p steps stage (record { taken = true; rule = 0; path = next; steps = steps + 1 }) stage'
        line_staged stage step is_step' stage' stored =
            let put : stage' ≡ put_at (staged_step_width * steps) (step_staged (step_said t n at says)) stage =
            stored ∙ ap (λ (s : StagedStep). put_at (staged_step_width * steps) (staged_step_words s) stage) is_step' in
            record {
              decides = λ (e : true ≡ true). goes_on (steps + 1) step_count;
              judges = λ (e : true ≡ true). judges_on (steps + 1) step_count;
              opens = λ (f : true ≡ false). absurd (true≢false f);
              stepping = steps_on (steps + 1) step_count;
              kept = λ (f : true ≡ false). absurd (true≢false f);
              long = ap length stored ∙ put_long (staged_step_width * steps) (staged_step_words step) stage;
              stages = λ (e : true ≡ true) (y : ◌≡◌ {A = ℕ} 0 0). stages_one steps stage (step_said t n at says) one_step stage' put;
            }

-- ---- any line, by its front

module _ (t : List ℕ) (n at : ℕ) (ends : text.Line) (starts : Starts t n at ends) (front : Front) (cut : Fronted (take (ends.content - at) (drop at t)) front)
    (p : Path) (steps : ℕ) (stepping : Stepping p steps) where
  told : Fronted (content_at t at) front
  told = rw (cut_is t n at ends starts) at cut

  blank_over : is_blank_line (content_at t at) ≡ true → lines_at t n at place.path ≡ lines_following t n at
  blank_over b = pass_over t at starts.there n (line_at comment_byte t at) refl b place.path

  judges_blank : is_blank_line (content_at t at) ≡ true → JudgesLine (content_at t at) p steps (record { taken = true; rule = 0; path = p; steps = steps })
  unfolding rule_of_line path_after_line steps_after_line
  judges_blank b =
      record {
        plainly = λ (f : is_blank_line (content_at t at) ≡ false). absurd (true≢false (sym b ∙ f));
        rule_is = sym (if_true _ _ b);
        path_is = λ (z : ◌≡◌ {A = ℕ} 0 0). sym (if_true _ _ b);
        steps_is = λ (z : ◌≡◌ {A = ℕ} 0 0). sym (if_true _ _ b);
      }

  pub take_blank : (stage : List ℕ) → front ≡ Blanks → TakesStep t at n p steps stage (record { taken = true; rule = 0; path = p; steps = steps }) stage
  take_blank stage e =
      let over : lines_at t n at place.path ≡ lines_following t n at = blank_over (blanks_front (content_at t at) front told e) in
      record {
        decides = λ (y : true ≡ true). blanks_decide (content_at t at) front told place.path (with_path p steps) e;
        judges = λ (y : true ≡ true). judges_blank (blanks_front (content_at t at) front told e);
        opens = λ (f : true ≡ false). absurd (true≢false f);
        stepping = stepping;
        kept = λ (f : true ≡ false). refl;
        long = refl;
        stages =
            λ (y : true ≡ true) (z : ◌≡◌ {A = ℕ} 0 0).
            record {
              plain = plainly_same place.path _ _ _ (plainly_none place.path _) over;
              staged =
                  λ (whole : List Step) (held : Held step_staged staged_step_width whole stage steps (gather step_of (lines_at t n at place.path))).
                  held_same step_staged staged_step_width whole stage steps _ held _ (ap (gather step_of) over);
            };
      }

  pub take_opens : (stage : List ℕ) → front ≡ Opening → TakesStep t at n p steps stage (record { taken = false; rule = 0; path = p; steps = steps }) stage
  take_opens stage e =
      record {
        decides = λ (y : false ≡ true). absurd (true≢false (sym y));
        judges = λ (y : false ≡ true). absurd (true≢false (sym y));
        opens = λ (f : false ≡ false). opening_opens (content_at t at) front told e;
        stepping = stepping;
        kept = λ (f : false ≡ false). refl;
        long = refl;
        stages = λ (y : false ≡ true). absurd (true≢false (sym y));
      }

  pub take_worded : front ≡ Words → Worded t n at ends
  take_worded e =
      let w : (is_blank_line (content_at t at) ≡ false) × (bracket_of (content_at t at) ≡ Plain) = words_front (content_at t at) front told e in
      record { starts = starts; filled = w.0; plainly = w.1 }
