-- Rule 29, both ways: it is broken on a line exactly when the line is the SGR line of a model that is not SLM_general.
-- Assumes nothing.
use mathlib.Core.Path.{◌≡◌, refl, sym, ◌∙◌, subst}
use mathlib.Core.Bool.{Bool, true, false, not, true≢false}
use mathlib.Core.List.{List, [], ◌∷◌, ◌++◌}
use Prim.Native.Nat.{ℕ, ◌<◌}
use native.Mathlib.Omega.{arith}
use lib.Dec.{eqb}
use borrow.Author.Tests.{eq-eqb, ne_eqb}
use Rattle.table_layout.specs.Codes.{slm_general, end_kind, section_kind}
use Rattle.base.specs.Broken.{Rule, ◌when◌}
use Rattle.base.specs.Refusal as refusal
use Rattle.base.proofs.IfLaws.{if_false, by_test, not_via, not_not_via}
use Rattle.doc.specs.Document.{Named, Step, Model, Map, Section, Document}
use Rattle.doc.specs.Holds.{Each}
use Rattle.cross_rules.specs.Listed.{RulesAtLine, Among, BrokenIn}
use Rattle.cross_rules.specs.Listed.Among.{front, further}
use Rattle.cross_rules.specs.Rules.{
  list_name_rules,
  model_rules,
  sgr_rules,
  map_name_rules,
  pin_name_rules,
  section_rules,
  step_rules,
  list_rules_at_lines,
  model_rules_at_lines,
  sgr_rules_at_lines,
  all_rules_at_lines,
  cross_rule,
}
use Rattle.cross_rules.specs.Way.Sgr.{WrongSgr}
use Rattle.cross_rules.proofs.RisingLaws.{each_one}
use Rattle.cross_rules.proofs.LookLaws.{all_hold}
use Rattle.cross_rules.proofs.FirstLaws.{none_breaks}

-- ---- rules of other numbers

-- every rule of the list has a number below 29
abbrev Lower : List Rule → Type 0
Lower [] = Unit {0}
Lower (r ∷ rs) = (r.number < refusal.sgr) × Lower rs

lower_none : {rules : List Rule} → Lower rules → Among (refusal.sgr when true) rules → ⊥
lower_none h front =
    let k : refusal.sgr < refusal.sgr = h.0 in
    omega arith
lower_none h (further m) = lower_none h.1 m

one_rule : (b : Bool) → b ≡ false → Among (refusal.sgr when true) (refusal.sgr when b ∷ []) → ⊥
one_rule b e front = true≢false e
one_rule b e (further m) = nothing_in m
  where
    nothing_in : Among (refusal.sgr when true) [] → ⊥
    nothing_in = elim [ ]

-- ---- what a broken 29 tells

module _ (d : Document) where
  -- a rule 29 that is broken among the rules of a line is that of an SGR line
  abbrev Told : RulesAtLine → Type 0
  Told look = Among (refusal.sgr when true) look.rules → WrongSgr d look.line

  lower_told : (look : RulesAtLine) → Lower look.rules → Told look
  lower_told look h m = absurd (lower_none h m)

  step_lower : (m : Model) (s : Step) → Lower (step_rules d m s)
  step_lower m s =
      by_test Lower (eqb s.kind end_kind) _ _ (λ e. (omega arith, (omega arith, (omega arith, tt))))
      (λ e.
      by_test Lower (eqb s.kind section_kind) _ _ (λ f. (omega arith, (omega arith, (omega arith, (omega arith, tt))))) (λ f. tt))

  list_lower : (n : Named) → Lower (list_name_rules d n)
  list_lower n = (omega arith, (omega arith, tt))

  pin_lower : (m : Map) (p : Named) → Lower (pin_name_rules m p)
  pin_lower m p = (omega arith, tt)

  model_lower : (m : Model) → Lower (model_rules d m)
  model_lower m = (omega arith, (omega arith, tt))

  map_lower : (m : Map) → Lower (map_name_rules d m)
  map_lower m = (omega arith, tt)

  section_lower : (i : ℕ) (s : Section) → Lower (section_rules d i s)
  section_lower i s = (omega arith, (omega arith, tt))

  sgr_told : (m : Model) → Among m d.models → (m.sgr ≡ 0 → ⊥) → Told (record { line = m.sgr; rules = sgr_rules m })
  sgr_told m among some found =
      record { model = m; among = among; there = refl; some = some; other = λ (e : m.type ≡ slm_general). one_rule _ (not_not_via (eq-eqb _ _ e)) found }

  all_told : Each Told (all_rules_at_lines d)
  all_told =
      all_hold d Told (λ (n : Named). lower_told _ (list_lower n)) (λ (m : Model). lower_told _ (model_lower m))
      (λ (m : Model) (s : Step). lower_told _ (step_lower m s)) sgr_told (λ (m : Map). lower_told _ (map_lower m))
      (λ (m : Map) (p : Named). lower_told _ (pin_lower m p)) (λ (i : ℕ) (s : Section). lower_told _ (section_lower i s))

  pub breaks_wrong : (line : ℕ) → BrokenIn (all_rules_at_lines d) refusal.sgr line → WrongSgr d line
  breaks_wrong line b = each_one all_told b.listed b.broken

-- ---- and back

among_left : {A : Type 0} {x : A} {xs : List A} (ys : List A) → Among x xs → Among x (xs ++ ys)
among_left ys front = front
among_left ys (further m) = further (among_left ys m)

among_right : {A : Type 0} {x : A} (xs : List A) {ys : List A} → Among x ys → Among x (xs ++ ys)
among_right [] m = m
among_right (y ∷ xs) m = further (among_right xs m)

module _ (d : Document) where
  sgr_listed : (m : Model) {ms : List Model} → Among m ms → (m.sgr ≡ 0 → ⊥) → Among (record { line = m.sgr; rules = sgr_rules m }) (sgr_rules_at_lines d ms)
  unfolding sgr_rules_at_lines
  sgr_listed m (front {xs = ms}) some =
      rw (if_false (sgr_rules_at_lines d ms) _ (ne_eqb _ _ some)) front
  sgr_listed m (further {y = n} {xs = ms} found) some =
      by_test (Among (record { line = m.sgr; rules = sgr_rules m })) (eqb n.sgr 0) _ _ (λ e. sgr_listed m found some)
      (λ e. further (sgr_listed m found some))

  pub wrong_breaks : (line : ℕ) → WrongSgr d line → BrokenIn (all_rules_at_lines d) refusal.sgr line
  unfolding all_rules_at_lines
  wrong_breaks line w =
      let m : Model = w.model in
      let t : true ≡ not (eqb m.type slm_general) = sym (not_via (ne_eqb _ _ w.other)) in
      subst (BrokenIn (all_rules_at_lines d) refusal.sgr) w.there
      (record {
        rules = sgr_rules m;
        listed =
            among_right (list_rules_at_lines d)
            (among_right (model_rules_at_lines d d.models)
            (among_left _ (sgr_listed m w.among (λ (z : m.sgr ≡ 0). w.some (sym w.there ∙ z)))));
        broken = subst (λ (b : Bool). Among (refusal.sgr when true) (refusal.sgr when b ∷ [])) t front;
      })

  -- in a file that breaks none of the rules 19 to 29, a model that is not SLM_general has no SGR
  pub kept_sgr : (cross_rule d).rule ≡ 0 → (line : ℕ) → WrongSgr d line → ⊥
  kept_sgr e line w = none_breaks d e refusal.sgr line (wrong_breaks line w)
