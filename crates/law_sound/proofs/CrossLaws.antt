-- What the rules 19 to 29 guarantee of the steps of a document that breaks none of them.
-- Assumes nothing.
use mathlib.Core.Path.{◌≡◌, sym, ◌∙◌}
use mathlib.Core.Bool.{true, false}
use mathlib.Core.List.{List, [], ◌∷◌, ◌++◌, map}
use Prim.Native.Nat.{◌<◌}
use native.Mathlib.Omega.{arith}
use lib.ListN.{length}
use lib.Dec.{eqb}
use borrow.Author.Tests.{eq-eqb, ne_eqb, ltb-true, not-false}
use Rattle.table_layout.specs.Codes.{end_kind, section_kind}
use Rattle.base.proofs.IfLaws.{if_true, if_false, both_rest}
use Rattle.doc.specs.Document.{Step, Model, Document}
use Rattle.doc.specs.Holds.{Each}
use Rattle.doc.specs.Holds.Each.{none, more}
use Rattle.cross_rules.specs.Rules.{map_index, section_index, has_map, has_section, is_wrong_method, cross_rule}
use Rattle.cross_rules.specs.Way.Findings.{end_rule, section_step_rule, step_rule, list_findings, step_findings, model_findings, sgr_findings, map_findings, section_findings, findings}
use Rattle.cross_rules.specs.declared.Finding.{Finding}
use Rattle.cross_rules.proofs.FirstLaws.{end_tests, section_step_tests, all_kept}

-- ---- parts of a list

module _ {A : Type 0} {P : A → Type 0} where
  pub each_front : (xs ys : List A) → Each P (xs ++ ys) → Each P xs
  each_front [] ys h = none
  each_front (x ∷ xs) ys (more h hs) = more h (each_front xs ys hs)

  pub each_behind : (xs ys : List A) → Each P (xs ++ ys) → Each P ys
  each_behind [] ys h = h
  each_behind (x ∷ xs) ys (more h hs) = each_behind xs ys hs

  each_source : {B : Type 0} (f : B → A) (xs : List B) → Each P (map f xs) → Each (λ (x : B). P (f x)) xs
  each_source f [] h = none
  each_source f (x ∷ xs) (more h hs) = more h (each_source f xs hs)

-- ---- every step

module _ (d : Document) where
  -- no step of the model breaks a rule
  abbrev Kept : Model → Type 0
  Kept m = Each (λ (s : Step). step_rule d m s ≡ 0) m.steps

  steps_kept : (ms : List Model) → Each (λ (f : Finding). f.rule ≡ 0) (model_findings d ms) → Each Kept ms
  unfolding model_findings step_findings
  steps_kept [] h = none
  steps_kept (m ∷ ms) (more h hs) =
      more (each_source (λ (s : Step). record { rule = step_rule d m s; line = s.line }) m.steps (each_front (step_findings d m) (model_findings d ms) hs))
      (steps_kept ms (each_behind (step_findings d m) (model_findings d ms) hs))

  pub all_steps_kept : (cross_rule d).rule ≡ 0 → Each (λ (m : Model). Each (λ (s : Step). step_rule d m s ≡ 0) m.steps) d.models
  unfolding findings
  all_steps_kept e =
      steps_kept d.models
      (each_front (model_findings d d.models) (sgr_findings d.models ++ (map_findings d d.maps ++ section_findings d 0 d.sections))
      (each_behind (list_findings d) _ (all_kept d e)))

-- ---- one step

module _ (d : Document) (m : Model) (s : Step) (kept : step_rule d m s ≡ 0) where
  -- 21: the map of an end exists
  pub end_found : s.kind ≡ end_kind → map_index d s < length d.maps
  unfolding step_rule has_map
  end_found k =
      let e : end_rule d m s ≡ 0 = sym (if_true _ _ (eq-eqb _ _ k)) ∙ kept in
      ltb-true _ _ (not-false _ (end_tests d m s e 0))

  module _ (k : s.kind ≡ section_kind) where
    step_kept : section_step_rule d m s ≡ 0
    unfolding step_rule
    step_kept =
        let n : eqb s.kind end_kind ≡ false = ne_eqb _ _ (λ (z : s.kind ≡ end_kind). omega arith) in
        sym (if_false _ _ n ∙ if_true _ _ (eq-eqb _ _ k)) ∙ kept

    has_section_lem : has_section d s ≡ true
    has_section_lem = not-false _ (section_step_tests d m s step_kept 0)

    -- 23: its section exists
    pub section_found : section_index d s < length d.sections
    unfolding has_section
    section_found = ltb-true _ _ has_section_lem

    -- 24: and its method fits the step
    pub method_right : is_wrong_method d s ≡ false
    method_right = sym (both_rest _ _ has_section_lem) ∙ section_step_tests d m s step_kept 1
