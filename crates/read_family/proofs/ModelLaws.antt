-- A line that is read alone, and the models: it closes a model, opens one, stands in one or in none. What is staged and
-- what is left stays the whole.
-- Assumes nothing.
use mathlib.Core.Path.{◌≡◌, refl, sym, ◌∙◌, ap, subst}
use mathlib.Core.Bool.{true, false, not, true≢false}
use mathlib.Core.List.{List, [], ◌∷◌, ◌++◌}
use Prim.Native.Nat.{ℕ, ◌+◌, ◌-◌, ◌*◌, ◌≤◌}
use native.Mathlib.Omega.{arith}
use lib.ListN.{length}
use borrow.Author.Tests.{ne_eqb}
use Rattle.base.specs.If.{both, either}
use Rattle.base.proofs.IfLaws.{if_true, if_false, by_cases, both_true, both_not_left, both_not_right, not_via, not_not_via}
use Rattle.line_place.specs.Place.{is_in_model}
use Rattle.line_place.specs.Place as place
use Rattle.line_head.specs.Head.{new_head}
use Rattle.line_head.specs.declared.Head.{Head}
use Rattle.line_keyword.specs.Keywords.{one_more_if}
use Rattle.line_keyword.specs.declared.State.{State}
use Rattle.table_record.specs.Way.Stage.{put_at, Held, staged_model_width, staged_model_words}
use Rattle.table_record.specs.declared.stage.StagedModel.{StagedModel}
use Rattle.table_record.proofs.StageLaws.{held_same, held_one}
use Rattle.doc.specs.Lines.{Line, plain, key_of, argument_of, place_after, stands_in, gather, up_to}
use Rattle.doc.specs.Document.{Model, step_of, steps_in, head_in, sgr_in, opens_model, in_model, model_of, model_at, opens_map}
use Rattle.doc.specs.Records.{model_record}
use Rattle.doc.specs.Way.Staged.{staged_model, staged_models}
use Rattle.doc.proofs.GatherLaws.{gather_more, gather_none, gather_quiet, up_in}
use Rattle.doc.proofs.LeadLaws.{model_entered}
use Rattle.doc.proofs.PlainLaws.{plain_stays}
use Rattle.read_family.specs.Way.Blocks.{model_open, models_behind, ModelsOutside, ModelsInside, ModelsHeld, model_closed, models_after, sgr_taken}
use Rattle.read_family.specs.declared.Open.{Open}
use Rattle.read_family.proofs.BodyLaws.{added, head_more, head_none, head_skip, sgr_more, sgr_none, sgr_skip}
use Rattle.read_family.proofs.PlaceLaws.{model_leads, model_shut}
use Rattle.read_family.proofs.TakeLaws.{Takes}
use Rattle.read_family.proofs.GivenLaws.{Given}

module _ (l : Line) (rest : List Line) (s s' : State) (takes : Takes l s s') (o o' : Open) (given : Given l s s' o o') where
  steps_same : (ls : List Line) → s.counts.steps + length (steps_in (l ∷ ls)) ≡ s'.counts.steps + length (steps_in ls)
  unfolding steps_in
  steps_same ls = λ i. sym takes.steps i + length (gather_quiet step_of l ls (given.no_steps ls) i)

  module _ (models : List ℕ) (whole : List StagedModel) where
    abbrev models' : List ℕ
    models' = models_after o s s'.place models

    models_kept : both (is_in_model s.place) (not (is_in_model s'.place)) ≡ false → models' ≡ models
    unfolding models_after
    models_kept h = if_false _ _ h

    module _ (shut : opens_model l ≡ false) where
      no_model_lem : gather model_at (l ∷ rest) ≡ gather model_at rest
      unfolding model_at
      no_model_lem = gather_quiet model_at l rest (if_false _ _ shut)

      models_same : s'.counts.models ≡ s.counts.models
      unfolding one_more_if
      models_same = takes.models ∙ if_false _ _ shut

    -- in a model
    module _ (into : is_in_model s.place ≡ true) (held : ModelsInside whole models o s (l ∷ rest)) where
      shut : opens_model l ≡ false
      shut = given.model_is ∙ (model_shut s.place l.content into).0

      no_map_here : opens_map l ≡ false
      no_map_here = given.map_is ∙ (model_shut s.place l.content into).1

      body : up_to in_model (l ∷ rest) ≡ l ∷ up_to in_model rest
      unfolding in_model
      body = up_in in_model l rest (ap is_in_model takes.here ∙ into)

      head_told : (ls : List Line) → head_in s.head (l ∷ ls) ≡ head_in s'.head ls
      head_told ls = head_more s.head l ls ∙ ap (λ (h : Head). head_in h ls) (sym (takes.head ∙ if_false _ _ shut))

      steps_told : s.counts.steps + length (steps_in (up_to in_model (l ∷ rest))) ≡ s'.counts.steps + length (steps_in (up_to in_model rest))
      steps_told = ap (λ (ls : List Line). s.counts.steps + length (steps_in ls)) body ∙ steps_same (up_to in_model rest)

      further : models_behind s (l ∷ rest) ≡ models_behind s' rest
      unfolding models_behind
      further = λ i. staged_models (steps_told i) (no_model_lem shut i)

      -- and after the line
      model_stays : model_open o s (up_to in_model (l ∷ rest)) ≡ model_open (sgr_taken l o) s' (up_to in_model rest)
      unfolding model_open
      model_stays =
          let h : head_in s.head (up_to in_model (l ∷ rest)) ≡ head_in s'.head (up_to in_model rest) =
          ap (head_in s.head) body ∙ head_told (up_to in_model rest) in
          let g : sgr_in o.sgr (up_to in_model (l ∷ rest)) ≡ sgr_in (sgr_taken l o).sgr (up_to in_model rest) =
          ap (sgr_in o.sgr) body ∙ sgr_more o.sgr l (up_to in_model rest) in
          λ i.
          record {
            model = record { start = o.start; size = o.size; kind = (h i).kind - 1; first = o.first; steps = steps_told i - o.first };
            sgr = g i;
          }

      models_stay : is_in_model s'.place ≡ true → ModelsInside whole models' o' s' rest
      models_stay still =
          let same : models' ≡ models = models_kept (both_not_right _ _ (not_not_via still)) in
          rw (same, given.open_same shut no_map_here)
          (record {
            some = rw (models_same shut) held.some;
            held =
                subst (λ (n : ℕ). Held staged_model_words staged_model_width whole models (n - 1) (model_open (sgr_taken l o) s' (up_to in_model rest) ∷ models_behind s' rest)) (sym (models_same shut))
                (held_same staged_model_words staged_model_width whole models (s.counts.models - 1) _ held.held _ (λ i. model_stays i ∷ further i));
          })

      -- and not after it: the model is closed
      module _ (out : is_in_model s'.place ≡ false) (nothing : up_to in_model rest ≡ []) where
        not_plain : key_of l ≡ plain → ⊥
        unfolding key_of is_in_model either
        not_plain k =
            let stays : place_after s.place l.content ≡ s.place =
            plain_stays s.place l.content k (λ (z : s.place ≡ place.map_head). true≢false (sym into ∙ ap is_in_model z)) in
            true≢false (sym into ∙ ap is_in_model (sym (takes.there ∙ stays)) ∙ out)

        no_head : stands_in place.head l ≡ false
        unfolding stands_in
        no_head = both_not_right _ _ (ne_eqb _ _ not_plain)

        model_closed_lem : model_open o s (up_to in_model (l ∷ rest)) ≡ model_closed o s
        unfolding model_open steps_in
        model_closed_lem =
            let last : up_to in_model (l ∷ rest) ≡ l ∷ [] = body ∙ ap (λ (ls : List Line). l ∷ ls) nothing in
            let h : head_in s.head (l ∷ []) ≡ s.head = head_skip s.head l [] no_head ∙ head_none s.head in
            let z : length (gather step_of (l ∷ [])) ≡ 0 = ap length (gather_quiet step_of l [] (given.no_steps []) ∙ gather_none step_of) in
            let n : s.counts.steps + length (gather step_of (l ∷ [])) ≡ s.counts.steps = omega arith in
            let g : sgr_in o.sgr (l ∷ []) ≡ o.sgr = sgr_skip o.sgr l [] no_head ∙ sgr_none o.sgr in
            ap (model_open o s) last
            ∙ (λ i.
            record {
              model = record { start = o.start; size = o.size; kind = (h i).kind - 1; first = o.first; steps = n i - o.first };
              sgr = g i;
            })

        none_behind : models_behind s (l ∷ rest) ≡ staged_models s'.counts.steps (gather model_at rest)
        unfolding models_behind steps_in
        none_behind =
            let z : length (gather step_of (up_to in_model rest)) ≡ 0 = ap length (ap (gather step_of) nothing ∙ gather_none step_of) in
            let n : s'.counts.steps + length (gather step_of (up_to in_model rest)) ≡ s'.counts.steps = omega arith in
            further ∙ ap (λ (m : ℕ). staged_models m (gather model_at rest)) n

        stored : models' ≡ put_at (staged_model_width * (s.counts.models - 1)) (staged_model_words (model_closed o s)) models
        unfolding models_after
        stored = if_true _ _ (both_true _ _ into (not_via out))

        models_close : ModelsOutside whole models' s' rest
        models_close =
            let m : 1 ≤ s.counts.models = held.some in
            let e : s'.counts.models ≡ s.counts.models = models_same shut in
            let n : s.counts.models - 1 + 1 ≡ s'.counts.models = omega arith in
            subst (λ (k : ℕ). Held staged_model_words staged_model_width whole models' k (staged_models s'.counts.steps (gather model_at rest))) n
            (held_one staged_model_words staged_model_width whole models (s.counts.models - 1) _ held.held (λ (x : StagedModel). refl) (model_closed o s)
            (staged_models s'.counts.steps (gather model_at rest)) (λ i. model_closed_lem i ∷ none_behind i) models' stored)

    -- in no model
    module _ (out : is_in_model s.place ≡ false) (held : ModelsOutside whole models s (l ∷ rest)) where
      kept : models' ≡ models
      kept = models_kept (both_not_left _ _ out)

      models_pass : is_in_model s'.place ≡ false → ModelsOutside whole models' s' rest
      unfolding is_in_model either
      models_pass still =
          rw kept
          (subst (λ (k : ℕ). Held staged_model_words staged_model_width whole models k (staged_models s'.counts.steps (gather model_at rest))) (sym (models_same no_opening))
          (held_same staged_model_words staged_model_width whole models s.counts.models _ held _
          (λ i. staged_models (sym takes.steps i) (no_model_lem no_opening i))))
        where
          no_opening : opens_model l ≡ false
          no_opening =
              by_cases _ (opens_model l)
              (λ (h : opens_model l ≡ true).
              let e : s'.place ≡ place.head = takes.there ∙ model_leads s.place l.content (sym given.model_is ∙ h) in
              absurd (true≢false (sym (ap is_in_model e) ∙ still)))
              (λ (h : opens_model l ≡ false). h)

      module _ (into : is_in_model s'.place ≡ true) where
        opens : opens_model l ≡ true
        opens =
            by_cases _ (opens_model l) (λ (h : opens_model l ≡ true). h)
            (λ (h : opens_model l ≡ false).
            absurd
            (true≢false (sym into ∙ ap is_in_model takes.there ∙ model_entered s.place l.content out (sym given.model_is ∙ h))))

        new_head_lem : s'.head ≡ new_head
        new_head_lem = takes.head ∙ if_true _ _ opens

        one_model : gather model_at (l ∷ rest) ≡ model_of l (up_to in_model rest) ∷ gather model_at rest
        unfolding model_at
        one_model = gather_more model_at l rest ∙ ap (λ (ms : List Model). ms ++ gather model_at rest) (if_true _ _ opens)

        model_opens : staged_model s.counts.steps (model_of l (up_to in_model rest)) ≡ model_open o' s' (up_to in_model rest)
        unfolding model_open model_record model_of argument_of
        model_opens =
            let n : length (steps_in (up_to in_model rest)) ≡ s.counts.steps + length (steps_in (up_to in_model rest)) - s.counts.steps =
            sym (added s.counts.steps (length (steps_in (up_to in_model rest)))) in
            (λ i.
            record {
              model =
                  record {
                    start = (sym (given.open_model opens) i).start;
                    size = (sym (given.open_model opens) i).size;
                    kind = (head_in (sym new_head_lem i) (up_to in_model rest)).kind - 1;
                    first = (sym (given.open_model opens) i).first;
                    steps = n i;
                  };
              sgr = sgr_in (sym (given.open_model opens) i).sgr (up_to in_model rest);
            })
            ∙ (λ i.
            record {
              model =
                  record {
                    start = o'.start;
                    size = o'.size;
                    kind = (head_in s'.head (up_to in_model rest)).kind - 1;
                    first = o'.first;
                    steps = sym takes.steps i + length (steps_in (up_to in_model rest)) - (sym (given.open_model opens) i).first;
                  };
              sgr = sgr_in o'.sgr (up_to in_model rest);
            })

        models_told : staged_models s.counts.steps (gather model_at (l ∷ rest)) ≡ model_open o' s' (up_to in_model rest) ∷ models_behind s' rest
        unfolding staged_models models_behind model_of
        models_told =
            ap (staged_models s.counts.steps) one_model
            ∙ (λ i. model_opens i ∷ staged_models (sym takes.steps i + length (steps_in (up_to in_model rest))) (gather model_at rest))

        models_open : ModelsInside whole models' o' s' rest
        unfolding one_more_if
        models_open =
            let e : s'.counts.models ≡ s.counts.models + 1 = takes.models ∙ if_true _ _ opens in
            let n : s.counts.models ≡ s'.counts.models - 1 = omega arith in
            rw kept
            (record {
              some = omega arith;
              held =
                  subst (λ (k : ℕ). Held staged_model_words staged_model_width whole models k (model_open o' s' (up_to in_model rest) ∷ models_behind s' rest)) n
                  (held_same staged_model_words staged_model_width whole models s.counts.models _ held _ models_told);
            })

    -- whichever it is
    pub models_line : (is_in_model s'.place ≡ false → up_to in_model rest ≡ []) → ModelsHeld whole models o s (l ∷ rest) → ModelsHeld whole models' o' s' rest
    models_line nothing held =
        record {
          outside =
              λ (e : is_in_model s'.place ≡ false).
              by_cases _ (is_in_model s.place)
              (λ (into : is_in_model s.place ≡ true). models_close into (held.inside into) e (nothing e))
              (λ (out : is_in_model s.place ≡ false). models_pass out (held.outside out) e);
          inside =
              λ (e : is_in_model s'.place ≡ true).
              by_cases _ (is_in_model s.place) (λ (into : is_in_model s.place ≡ true). models_stay into (held.inside into) e)
              (λ (out : is_in_model s.place ≡ false). models_open out (held.outside out) e);
        }
