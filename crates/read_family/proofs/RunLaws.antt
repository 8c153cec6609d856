-- Laws of lines without a keyword that are read together: what is left of the open block, and what is staged, after them.
-- Assumes nothing.
use mathlib.Core.Path.{◌≡◌, sym, ◌∙◌, ap, subst}
use mathlib.Core.Bool.{true, false, true≢false}
use mathlib.Core.List.{List, ◌∷◌, ◌++◌}
use Prim.Native.Nat.{ℕ, ◌+◌, ◌-◌}
use native.Mathlib.Omega.{arith}
use lib.ListN.{length}
use lib.Dec.{eqb}
use borrow.Author.Tests.{eq-eqb, eqb-true}
use Rattle.base.proofs.IfLaws.{by_cases, either_left, either_right, either_rest}
use Rattle.line_place.specs.Place.{is_in_model}
use Rattle.line_place.specs.Place as place
use Rattle.line_head.specs.declared.Head.{Head}
use Rattle.line_keyword.specs.Way.Bounded.{NoneYet}
use Rattle.line_keyword.specs.declared.State.{State}
use Rattle.table_layout.specs.Layout.{map_width, pin_width}
use Rattle.table_record.specs.Records.{map_words}
use Rattle.table_record.specs.Way.Stage.{Held, staged_model_width, staged_model_words, staged_step_width}
use Rattle.table_record.specs.declared.stage.StagedModel.{StagedModel}
use Rattle.table_record.specs.declared.MapRecord.{MapRecord}
use Rattle.table_record.proofs.StageLaws.{held_same}
use Rattle.doc.specs.Lines.{Line, significant, gather, up_to}
use Rattle.doc.specs.Document.{step_of, steps_in, head_in, sgr_in, in_model, model_at, grid_in, in_map, pin_at, map_at, section_at}
use Rattle.doc.specs.Records.{map_records}
use Rattle.doc.specs.Way.Staged.{staged_models, step_staged, pin_staged}
use Rattle.doc.specs.Way.Found.{IsPlain, Plainly}
use Rattle.doc.proofs.PlainLaws.{plain_map, plain_model, plain_section, plainly_quiet}
use Rattle.read_family.specs.Way.Pins.{SameGrid}
use Rattle.read_family.specs.Way.Blocks.{
  is_in_map,
  map_open,
  maps_behind,
  MapsInside,
  MapsHeld,
  model_open,
  models_behind,
  ModelsInside,
  ModelsHeld,
  Carries,
}
use Rattle.read_family.specs.declared.Open.{Open}
use Rattle.read_family.proofs.BodyLaws.{
  many_front,
  steps_even,
  pins_even,
  up_front,
  plain_there,
  plain_no_step,
  plain_no_pin,
  head_front,
  sgr_front,
  grid_front,
  grid_lines,
}

-- what lines in a place leave as it is, however many there are
pub record Stays (p : ℕ) (s s' : State) : Type 0 where
  pub here : s.place ≡ p
  pub there : s'.place ≡ p
  pub head : s'.head ≡ s.head
  pub grid : SameGrid s.map s'.map
  pub models : s'.counts.models ≡ s.counts.models
  pub maps : s'.counts.maps ≡ s.counts.maps
  pub none_yet : NoneYet s.counts → NoneYet s'.counts

module _ (p : ℕ) (ls rest : List Line) (plainly : Plainly p ls rest) (s s' : State) (stays : Stays p s s') (o : Open) where
  -- ---- models

  module _ (out_of_head : p ≡ place.head → ⊥)
      (steps : s.counts.steps + length (gather step_of ls) ≡ s'.counts.steps + length (gather step_of rest)) where
    models_quiet : gather model_at ls ≡ gather model_at rest
    models_quiet =
        plainly_quiet p model_at (λ (l : Line) (after : List Line) (h : IsPlain p l). plain_model l after h.key_is) ls rest plainly

    steps_same : (p ≡ place.path → ⊥) → s.counts.steps ≡ s'.counts.steps
    steps_same away =
        let e : length (gather step_of ls) ≡ length (gather step_of rest) =
        ap length (plainly_quiet p step_of (λ (l : Line) (after : List Line) (h : IsPlain p l). plain_no_step p l h away after) ls rest plainly) in
        omega arith

    body_front : is_in_model p ≡ true → up_to in_model ls ≡ plainly.before ++ up_to in_model rest
    unfolding in_model
    body_front into =
        ap (up_to in_model) plainly.all
        ∙ up_front in_model (IsPlain p) (λ (l : Line) (h : IsPlain p l). ap is_in_model h.place_is ∙ into) plainly.each rest

    steps_front :
        is_in_model p ≡ true →
        s.counts.steps + length (steps_in (up_to in_model ls)) ≡ s'.counts.steps + length (steps_in (up_to in_model rest))
    unfolding steps_in
    steps_front into =
        rw (body_front into)
        (many_front step_of steps_even s.counts.steps s'.counts.steps plainly.before rest (up_to in_model rest)
        (rw plainly.all at steps))

    head_same : is_in_model p ≡ true → head_in s.head (up_to in_model ls) ≡ head_in s'.head (up_to in_model rest)
    head_same into =
        ap (head_in s.head) (body_front into)
        ∙ head_front p out_of_head s.head plainly.each (up_to in_model rest)
        ∙ ap (λ (h : Head). head_in h (up_to in_model rest)) (sym stays.head)

    sgr_same : is_in_model p ≡ true → sgr_in o.sgr (up_to in_model ls) ≡ sgr_in o.sgr (up_to in_model rest)
    sgr_same into = ap (sgr_in o.sgr) (body_front into) ∙ sgr_front p out_of_head o.sgr plainly.each (up_to in_model rest)

    model_same : is_in_model p ≡ true → model_open o s (up_to in_model ls) ≡ model_open o s' (up_to in_model rest)
    unfolding model_open
    model_same into =
        λ i.
        record {
          model =
              record {
                start = o.start;
                size = o.size;
                kind = (head_same into i).kind - 1;
                first = o.first;
                steps = steps_front into i - o.first;
              };
          sgr = sgr_same into i;
        }

    behind_same : is_in_model p ≡ true → models_behind s ls ≡ models_behind s' rest
    unfolding models_behind
    behind_same into = λ i. staged_models (steps_front into i) (models_quiet i)

    not_path : is_in_model p ≡ false → p ≡ place.path → ⊥
    unfolding is_in_model
    not_path out e = true≢false (sym (either_right _ _ (either_left _ _ (eq-eqb _ _ e))) ∙ out)

    pub models_run : (whole : List StagedModel) (stage : List ℕ) → ModelsHeld whole stage o s ls → ModelsHeld whole stage o s' rest
    models_run whole stage held =
        record {
          outside =
              λ (e : is_in_model s'.place ≡ false).
              let out : is_in_model p ≡ false = ap is_in_model (sym stays.there) ∙ e in
              rw stays.models
              (held_same staged_model_words staged_model_width whole stage s.counts.models _ (held.outside (ap is_in_model stays.here ∙ out)) _
              (λ i. staged_models (steps_same (not_path out) i) (models_quiet i)));
          inside =
              λ (e : is_in_model s'.place ≡ true).
              let into : is_in_model p ≡ true = ap is_in_model (sym stays.there) ∙ e in
              let open_here : ModelsInside whole stage o s ls = held.inside (ap is_in_model stays.here ∙ into) in
              record {
                some = rw stays.models open_here.some;
                held =
                    subst (λ (n : ℕ). Held staged_model_words staged_model_width whole stage (n - 1) (model_open o s' (up_to in_model rest) ∷ models_behind s' rest)) (sym stays.models)
                    (held_same staged_model_words staged_model_width whole stage (s.counts.models - 1) _ open_here.held _
                    (λ i. model_same into i ∷ behind_same into i));
              };
        }

  -- ---- maps

  module _ (out_of_head : p ≡ place.map_head → ⊥)
      (pins : s.counts.pins + length (gather pin_at ls) ≡ s'.counts.pins + length (gather pin_at rest)) where
    maps_quiet : gather map_at ls ≡ gather map_at rest
    maps_quiet =
        plainly_quiet p map_at (λ (l : Line) (after : List Line) (h : IsPlain p l). plain_map l after h.key_is) ls rest plainly

    pins_same : (p ≡ place.pin_list → ⊥) → s.counts.pins ≡ s'.counts.pins
    pins_same away =
        let e : length (gather pin_at ls) ≡ length (gather pin_at rest) =
        ap length (plainly_quiet p pin_at (λ (l : Line) (after : List Line) (h : IsPlain p l). plain_no_pin p l h away after) ls rest plainly) in
        omega arith

    below_list : is_in_map p ≡ true → p ≡ place.pin_list
    unfolding is_in_map
    below_list into =
        by_cases _ (eqb p place.map_head) (λ (e : eqb p place.map_head ≡ true). absurd (out_of_head (eqb-true _ _ e)))
        (λ (e : eqb p place.map_head ≡ false). eqb-true _ _ (sym (either_rest _ _ e) ∙ into))

    in_list : is_in_map p ≡ true → (l : Line) → IsPlain p l → in_map l ≡ true
    unfolding in_map
    in_list into l h = either_right _ _ (rw (below_list into) at (plain_there p l h))

    lines_front : is_in_map p ≡ true → up_to in_map ls ≡ plainly.before ++ up_to in_map rest
    lines_front into = ap (up_to in_map) plainly.all ∙ up_front in_map (IsPlain p) (in_list into) plainly.each rest

    pins_front :
        is_in_map p ≡ true →
        s.counts.pins + length (gather pin_at (up_to in_map ls)) ≡ s'.counts.pins + length (gather pin_at (up_to in_map rest))
    pins_front into =
        rw (lines_front into)
        (many_front pin_at pins_even s.counts.pins s'.counts.pins plainly.before rest (up_to in_map rest)
        (rw plainly.all at pins))

    grid_same : is_in_map p ≡ true → SameGrid (grid_in s.map (up_to in_map ls)) (grid_in s'.map (up_to in_map rest))
    grid_same into =
        rw (lines_front into, grid_front p out_of_head s.map plainly.each (up_to in_map rest)) (grid_lines stays.grid (up_to in_map rest))

    map_same : is_in_map p ≡ true → map_open o s (up_to in_map ls) ≡ map_open o s' (up_to in_map rest)
    unfolding map_open
    map_same into =
        λ i.
        record {
          start = o.start;
          size = o.size;
          order = (grid_same into).order i - 1;
          rows = (grid_same into).rows i;
          columns = (grid_same into).columns i;
          first = o.first;
          pins = pins_front into i - o.first;
        }

    further_same : is_in_map p ≡ true → maps_behind s ls ≡ maps_behind s' rest
    unfolding maps_behind
    further_same into = λ i. map_records (pins_front into i) (maps_quiet i)

    not_list : is_in_map p ≡ false → p ≡ place.pin_list → ⊥
    unfolding is_in_map
    not_list out e = true≢false (sym (either_right _ _ (eq-eqb _ _ e)) ∙ out)

    pub maps_run : (whole : List MapRecord) (stage : List ℕ) → MapsHeld whole stage o s ls → MapsHeld whole stage o s' rest
    maps_run whole stage held =
        record {
          outside =
              λ (e : is_in_map s'.place ≡ false).
              let out : is_in_map p ≡ false = ap is_in_map (sym stays.there) ∙ e in
              rw stays.maps
              (held_same map_words map_width whole stage s.counts.maps _ (held.outside (ap is_in_map stays.here ∙ out)) _
              (λ i. map_records (pins_same (not_list out) i) (maps_quiet i)));
          inside =
              λ (e : is_in_map s'.place ≡ true).
              let into : is_in_map p ≡ true = ap is_in_map (sym stays.there) ∙ e in
              let open_here : MapsInside whole stage o s ls = held.inside (ap is_in_map stays.here ∙ into) in
              record {
                some = rw stays.maps open_here.some;
                held =
                    subst (λ (n : ℕ). Held map_words map_width whole stage (n - 1) (map_open o s' (up_to in_map rest) ∷ maps_behind s' rest)) (sym stays.maps)
                    (held_same map_words map_width whole stage (s.counts.maps - 1) _ open_here.held _
                    (λ i. map_same into i ∷ further_same into i));
              };
        }

  -- ---- all of it

  sections_quiet : gather section_at ls ≡ gather section_at rest
  sections_quiet =
      plainly_quiet p section_at (λ (l : Line) (after : List Line) (h : IsPlain p l). plain_section l after h.key_is) ls rest plainly

  module _ (t : List ℕ) (models steps maps pins : List ℕ) (carries : Carries t ls s o models steps maps pins) where
    pub carries_run :
        (p ≡ place.head → ⊥) → (p ≡ place.map_head → ⊥) → (steps' pins' : List ℕ) →
        Held step_staged staged_step_width (gather step_of (significant t)) steps' s'.counts.steps (gather step_of rest) →
        Held pin_staged pin_width (gather pin_at (significant t)) pins' s'.counts.pins (gather pin_at rest) →
        Carries t rest s' o models steps' maps pins'
    carries_run no_head no_map_head steps' pins' held_steps held_pins =
        record {
          models = models_run no_head (carries.steps.count ∙ sym held_steps.count) _ models carries.models;
          steps = held_steps;
          maps = maps_run no_map_head (carries.pins.count ∙ sym held_pins.count) _ maps carries.maps;
          pins = held_pins;
          sections = sym sections_quiet ∙ carries.sections;
          none_yet = stays.none_yet carries.none_yet;
          early = rw (stays.there ∙ sym stays.here) carries.early;
        }

    -- lines that give neither a step nor a pin
    pub carries_quiet :
        (p ≡ place.head → ⊥) → (p ≡ place.map_head → ⊥) → (p ≡ place.path → ⊥) → (p ≡ place.pin_list → ⊥) →
        s'.counts.steps ≡ s.counts.steps → s'.counts.pins ≡ s.counts.pins → Carries t rest s' o models steps maps pins
    carries_quiet no_head no_map_head no_path no_list same_steps same_pins =
        carries_run no_head no_map_head steps pins
        (rw same_steps (held_same step_staged staged_step_width _ steps s.counts.steps _ carries.steps (gather step_of rest)
        (plainly_quiet p step_of (λ (l : Line) (after : List Line) (h : IsPlain p l). plain_no_step p l h no_path after) ls rest plainly)))
        (rw same_pins (held_same pin_staged pin_width _ pins s.counts.pins _ carries.pins (gather pin_at rest)
        (plainly_quiet p pin_at (λ (l : Line) (after : List Line) (h : IsPlain p l). plain_no_pin p l h no_list after) ls rest plainly)))
