-- The findings by kinds of lines are those of all lines with their rules, so `cross_rule` is the earliest of them.
-- Assumes nothing.
use mathlib.Core.Path.{◌≡◌, refl, sym, ◌∙◌, ap}
use mathlib.Core.Bool.{Bool, true, false}
use mathlib.Core.List.{List, [], ◌∷◌, ◌++◌, map, map-append}
use Prim.Native.Nat.{ℕ, ◌+◌}
use lib.Dec.{eqb}
use Rattle.table_layout.specs.Codes.{end_kind, section_kind}
use Rattle.base.specs.If.{provided◌then◌else◌}
use Rattle.base.proofs.IfLaws.{if_true, if_false, by_cases}
use Rattle.base.specs.Broken.{Rule, first_broken}
use Rattle.doc.specs.Document.{Named, Step, Model, Map, Section, Document}
use Rattle.cross_rules.specs.Listed.{RulesAtLine}
use Rattle.cross_rules.specs.Rules.{
  end_step_rules,
  section_step_rules,
  step_rules,
  list_rules_at_lines,
  step_rules_at_lines,
  model_rules_at_lines,
  sgr_rules_at_lines,
  pin_rules_at_lines,
  map_rules_at_lines,
  section_rules_at_lines,
  all_rules_at_lines,
  finding_of,
  earliest,
  cross_rule,
}
use Rattle.cross_rules.specs.Way.Findings.{
  list_name_rule,
  model_rule,
  sgr_rule,
  map_name_rule,
  pin_name_rule,
  section_rule,
  end_rule,
  section_step_rule,
  step_rule,
  list_findings,
  step_findings,
  model_findings,
  sgr_findings,
  pin_findings,
  map_findings,
  section_findings,
  findings,
}
use Rattle.cross_rules.specs.declared.Finding.{Finding}

-- ---- the rule of a step

chosen : (b : Bool) (x y : List Rule) (n : ℕ) → n ≡ first_broken y → (provided b then first_broken x else n) ≡ first_broken (provided b then x else y)
unfolding provided◌then◌else◌
chosen true x y n e = refl
chosen false x y n e = e

module _ (d : Document) where
  pub step_given : (m : Model) (s : Step) → step_rule d m s ≡ first_broken (step_rules d m s)
  unfolding step_rule end_rule section_step_rule
  step_given m s =
      chosen (eqb s.kind end_kind) (end_step_rules d m s) _ _ (chosen (eqb s.kind section_kind) (section_step_rules d m s) [] 0 refl)

-- ---- the findings

-- each finding is the finding of one line with its rules
mapped_found :
    {A : Type 0} (finding : A → Finding) (look : A → RulesAtLine) → ((x : A) → finding x ≡ finding_of (look x)) → (xs : List A) →
    map finding xs ≡ map finding_of (map look xs)
mapped_found finding look same [] = refl
mapped_found finding look same (x ∷ xs) = λ i. same x i ∷ mapped_found finding look same xs i

module _ (d : Document) where
  list_looked : list_findings d ≡ map finding_of (list_rules_at_lines d)
  unfolding list_findings list_rules_at_lines list_name_rule
  list_looked = mapped_found _ _ (λ (n : Named). refl) d.listed

  step_looked : (m : Model) → step_findings d m ≡ map finding_of (step_rules_at_lines d m)
  unfolding step_findings step_rules_at_lines
  step_looked m = mapped_found _ _ (λ (s : Step). ap (λ (n : ℕ). record { rule = n; line = s.line }) (step_given d m s)) m.steps

  pin_looked : (m : Map) → pin_findings m ≡ map finding_of (pin_rules_at_lines d m)
  unfolding pin_findings pin_rules_at_lines pin_name_rule
  pin_looked m = mapped_found _ _ (λ (p : Named). refl) m.pins

  model_looked : (ms : List Model) → model_findings d ms ≡ map finding_of (model_rules_at_lines d ms)
  unfolding model_findings model_rules_at_lines model_rule
  model_looked [] = refl
  model_looked (m ∷ ms) =
      ap (λ (fs : List Finding). record { rule = model_rule d m; line = m.line } ∷ fs)
      ((λ i. step_looked m i ++ model_looked ms i) ∙ sym (map-append finding_of (step_rules_at_lines d m) (model_rules_at_lines d ms)))

  sgr_looked : (ms : List Model) → sgr_findings ms ≡ map finding_of (sgr_rules_at_lines d ms)
  unfolding sgr_findings sgr_rules_at_lines sgr_rule
  sgr_looked [] = refl
  sgr_looked (m ∷ ms) =
      by_cases _ (eqb m.sgr 0)
      (λ (e : eqb m.sgr 0 ≡ true). if_true _ _ e ∙ sgr_looked ms ∙ sym (ap (map finding_of) (if_true _ _ e)))
      (λ (e : eqb m.sgr 0 ≡ false).
      if_false _ _ e
      ∙ ap (λ (fs : List Finding). record { rule = sgr_rule m; line = m.sgr } ∷ fs) (sgr_looked ms)
      ∙ sym (ap (map finding_of) (if_false _ _ e)))

  map_looked : (ms : List Map) → map_findings d ms ≡ map finding_of (map_rules_at_lines d ms)
  unfolding map_findings map_rules_at_lines map_name_rule
  map_looked [] = refl
  map_looked (m ∷ ms) =
      ap (λ (fs : List Finding). record { rule = map_name_rule d m; line = m.line } ∷ fs)
      ((λ i. pin_looked m i ++ map_looked ms i) ∙ sym (map-append finding_of (pin_rules_at_lines d m) (map_rules_at_lines d ms)))

  section_looked : (n : ℕ) (ss : List Section) → section_findings d n ss ≡ map finding_of (section_rules_at_lines d n ss)
  unfolding section_findings section_rules_at_lines section_rule
  section_looked n [] = refl
  section_looked n (s ∷ ss) =
      ap (λ (fs : List Finding). record { rule = section_rule d n s; line = s.line } ∷ fs) (section_looked (n + 1) ss)

  pub findings_looked : findings d ≡ map finding_of (all_rules_at_lines d)
  unfolding findings all_rules_at_lines
  findings_looked =
      rw (
        map-append finding_of (list_rules_at_lines d),
        map-append finding_of (model_rules_at_lines d d.models),
        map-append finding_of (sgr_rules_at_lines d d.models),
        map-append finding_of (map_rules_at_lines d d.maps),
      )
      (λ i.
      list_looked i
      ++ (model_looked d.models i ++ (sgr_looked d.models i ++ (map_looked d.maps i ++ section_looked 0 d.sections i))))

  pub cross_findings : cross_rule d ≡ earliest (findings d)
  unfolding cross_rule
  cross_findings = ap earliest (sym findings_looked)
