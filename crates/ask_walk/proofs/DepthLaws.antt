-- The depth of a place in range of a sound table is 0 to 8. So a walk never meets a Fork at depth 8 or an Endfork at
-- depth 0, and needs no refusal for them.
-- Assumes nothing.
use mathlib.Core.Path.{◌≡◌, refl, ◌∙◌}
use mathlib.Core.Bool.{true}
use mathlib.Core.List.{List, [], ◌∷◌, map}
use Prim.Native.Nat.{ℕ, zero, suc, ◌+◌, ◌-◌, ◌≤◌, ◌<◌}
use native.Mathlib.Omega.{arith}
use lib.ListN.{length, take, drop, get_or, length-drop}
use lib.Seq.{get_or-drop, get_or-take, length-take-le}
use borrow.Author.Tests.{eq-eqb, le-leb, lt-ltb, ltb-true}
use Rattle.table_record.specs.Records.{Records, records_of, no_step, range}
use Rattle.table_record.specs.declared.StepRecord.{StepRecord}
use Rattle.table_layout.specs.Codes.{fork_kind, endfork_kind}
use Rattle.table_layout.specs.Bounds.{deepest}
use Rattle.base.proofs.IfLaws.{both_true, both_first, both_second}
use Rattle.ask_sound.specs.Sound.{depth_stays, record_kinds, is_sound}
use Rattle.ask_walk.specs.declared.Place.{Place}
use Rattle.ask_walk.specs.Walk.{model_at_place, step_at_place, count_kind, is_depth, kinds_before, is_place}
use Rattle.ask_walk.proofs.KindLaws.{fork_below, endfork_above, closes_most, depth_counts, depth_most, step_may_come}
use Rattle.ask_walk.proofs.ReadyLaws.{RightModel, right_model}

kind_at : (ss : List StepRecord) (i : ℕ) → get_or (map (λ (s : StepRecord). s.kind) ss) i 0 ≡ (get_or ss i no_step).kind
kind_at [] i = refl
kind_at (s ∷ ss) zero = refl
kind_at (s ∷ ss) (suc i) = kind_at ss i

-- the kinds of all steps of the model that a place names
abbrev pub path_kinds : Records → Place → List ℕ
path_kinds r p = range (model_at_place r p).first (model_at_place r p).steps (record_kinds r.steps)

module _ (t table : List ℕ) (sound : is_sound t table ≡ true) where
  abbrev r : Records
  r = records_of table

  module _ (p : Place) (has : p.model < length r.models) where
    right : RightModel r p.model
    right = right_model t table sound p.model has

    -- before any step of a model no more forks are closed than are opened
    pub never_below : count_kind endfork_kind (kinds_before r p) ≤ count_kind fork_kind (kinds_before r p)
    unfolding kinds_before
    never_below = closes_most (path_kinds r p) right.depth p.step

    -- so each step of the model has a depth that is in range: opens less closes
    pub has_depth :
        p.step ≤ (model_at_place r p).steps →
        is_place r (record { model = p.model; step = p.step; depth = count_kind fork_kind (kinds_before r p) - count_kind endfork_kind (kinds_before r p) }) ≡ true
    unfolding is_place is_depth kinds_before
    has_depth h =
        let few : count_kind endfork_kind (kinds_before r p) ≤ count_kind fork_kind (kinds_before r p) = never_below in
        let e : count_kind fork_kind (kinds_before r p) - count_kind endfork_kind (kinds_before r p) + count_kind endfork_kind (kinds_before r p) ≡ count_kind fork_kind (kinds_before r p) = omega arith in
        both_true _ _ (lt-ltb _ _ has) (both_true _ _ (le-leb _ _ h) (eq-eqb _ _ e))

  module _ (p : Place) (in_range_lem : is_place r p ≡ true) where
    pub has_model : p.model < length r.models
    unfolding is_place
    has_model = ltb-true p.model (length r.models) (both_first _ _ in_range_lem)

    abbrev kinds : List ℕ
    kinds = path_kinds r p

    depth_right : is_depth p.depth (take p.step kinds) ≡ true
    unfolding is_place kinds_before
    depth_right = both_second _ _ (both_second _ _ in_range_lem)

    -- "the depth is opens less closes before it"
    pub its_depth : p.depth + count_kind endfork_kind (take p.step kinds) ≡ count_kind fork_kind (take p.step kinds)
    its_depth = depth_counts kinds (right p has_model).depth p.step p.depth depth_right

    -- no place in range is deeper than 8
    pub at_most : p.depth ≤ deepest
    at_most = depth_most kinds (right p has_model).depth p.step p.depth depth_right

    module _ (more : p.step < (model_at_place r p).steps) where
      its_steps : length kinds ≡ (model_at_place r p).steps
      its_steps =
          let i : (model_at_place r p).first + (model_at_place r p).steps ≤ length (record_kinds r.steps) = (right p has_model).inside in
          let l : length (drop (model_at_place r p).first (record_kinds r.steps)) ≡ length (record_kinds r.steps) - (model_at_place r p).first = length-drop (model_at_place r p).first (record_kinds r.steps) in
          let h : (model_at_place r p).steps ≤ length (drop (model_at_place r p).first (record_kinds r.steps)) = omega arith in
          length-take-le _ _ h

      pub has_step : p.step < length kinds
      has_step = rw its_steps more

      pub step_kind : get_or kinds p.step 0 ≡ (step_at_place r p).kind
      unfolding step_at_place record_kinds
      step_kind =
          get_or-take (model_at_place r p).steps (drop (model_at_place r p).first (record_kinds r.steps)) p.step 0 more
          ∙ get_or-drop (model_at_place r p).first (record_kinds r.steps) p.step 0 ∙ kind_at r.steps ((model_at_place r p).first + p.step)

      pub may_be_here : depth_stays p.depth (step_at_place r p).kind ≡ true
      may_be_here = rw step_kind at (step_may_come kinds (right p has_model).depth p.step p.depth depth_right has_step)

      -- if the step is a Fork, the depth is below 8
      pub fork_opens : (step_at_place r p).kind ≡ fork_kind → p.depth < deepest
      fork_opens e = fork_below p.depth (step_at_place r p).kind may_be_here (eq-eqb _ _ e)

      -- if the step is an Endfork, the depth is above 0
      pub endfork_closes : (step_at_place r p).kind ≡ endfork_kind → 0 < p.depth
      endfork_closes e = endfork_above p.depth (step_at_place r p).kind may_be_here (eq-eqb _ _ e)
