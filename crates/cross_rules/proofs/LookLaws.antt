-- What holds of the rules of every line of a document: it is enough that it holds for each kind of line.
-- Assumes nothing.
use mathlib.Core.Path.{◌≡◌}
use mathlib.Core.Bool.{false}
use mathlib.Core.List.{List, [], ◌∷◌, map}
use Prim.Native.Nat.{ℕ, ◌+◌}
use lib.Dec.{eqb}
use borrow.Author.Tests.{eqb-false}
use Rattle.base.proofs.IfLaws.{by_test}
use Rattle.doc.specs.Document.{Named, Step, Model, Map, Section, Document}
use Rattle.doc.specs.Holds.{Each}
use Rattle.doc.specs.Holds.Each.{none, more}
use Rattle.doc.proofs.StandsLaws.{each_append}
use Rattle.cross_rules.specs.Listed.{RulesAtLine, Among}
use Rattle.cross_rules.specs.Rules.{
  list_name_rules,
  model_rules,
  sgr_rules,
  map_name_rules,
  pin_name_rules,
  section_rules,
  step_rules,
  list_rules_at_lines,
  step_rules_at_lines,
  model_rules_at_lines,
  sgr_rules_at_lines,
  pin_rules_at_lines,
  map_rules_at_lines,
  section_rules_at_lines,
  all_rules_at_lines,
}
use Rattle.cross_rules.proofs.RisingLaws.{each_among}

module _ (P : RulesAtLine → Type 0) where
  mapped : {A : Type 0} (look : A → RulesAtLine) → ((x : A) → P (look x)) → (xs : List A) → Each P (map look xs)
  mapped look all [] = none
  mapped look all (x ∷ xs) = more (all x) (mapped look all xs)

module _ (d : Document) (P : RulesAtLine → Type 0)
    (of_list : (n : Named) → P (record { line = n.line; rules = list_name_rules d n }))
    (of_model_lem : (m : Model) → P (record { line = m.line; rules = model_rules d m }))
    (of_step : (m : Model) (s : Step) → P (record { line = s.line; rules = step_rules d m s }))
    (of_sgr : (m : Model) → Among m d.models → (m.sgr ≡ 0 → ⊥) → P (record { line = m.sgr; rules = sgr_rules m }))
    (of_map : (m : Map) → P (record { line = m.line; rules = map_name_rules d m }))
    (of_pin_lem : (m : Map) (p : Named) → P (record { line = p.line; rules = pin_name_rules m p }))
    (of_section_lem : (i : ℕ) (s : Section) → P (record { line = s.line; rules = section_rules d i s })) where
  models_hold : (ms : List Model) → Each P (model_rules_at_lines d ms)
  unfolding model_rules_at_lines step_rules_at_lines
  models_hold [] = none
  models_hold (m ∷ ms) = more (of_model_lem m) (each_append (mapped P _ (of_step m) m.steps) (models_hold ms))

  sgrs_hold : {ms : List Model} → Each (λ (m : Model). Among m d.models) ms → Each P (sgr_rules_at_lines d ms)
  unfolding sgr_rules_at_lines
  sgrs_hold none = none
  sgrs_hold (more {x = m} h hs) =
      by_test (Each P) (eqb m.sgr 0) _ _ (λ e. sgrs_hold hs)
      (λ (e : eqb m.sgr 0 ≡ false). more (of_sgr m h (eqb-false _ _ e)) (sgrs_hold hs))

  maps_hold : (ms : List Map) → Each P (map_rules_at_lines d ms)
  unfolding map_rules_at_lines pin_rules_at_lines
  maps_hold [] = none
  maps_hold (m ∷ ms) = more (of_map m) (each_append (mapped P _ (of_pin_lem m) m.pins) (maps_hold ms))

  sections_hold : (i : ℕ) (ss : List Section) → Each P (section_rules_at_lines d i ss)
  unfolding section_rules_at_lines
  sections_hold i [] = none
  sections_hold i (s ∷ ss) = more (of_section_lem i s) (sections_hold (i + 1) ss)

  pub all_hold : Each P (all_rules_at_lines d)
  unfolding all_rules_at_lines list_rules_at_lines
  all_hold =
      each_append (mapped P _ of_list d.listed)
      (each_append (models_hold d.models)
      (each_append (sgrs_hold (each_among d.models)) (each_append (maps_hold d.maps) (sections_hold 0 d.sections))))
