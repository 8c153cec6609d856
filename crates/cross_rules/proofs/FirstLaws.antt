-- Rules 19 to 27 and 29 over a document: `cross_rule` gives rule 0 exactly if no line breaks a rule. Otherwise it gives the
-- first line that breaks one, and the lowest rule that is broken there.
-- Assumes nothing.
use mathlib.Core.Path.{◌≡◌, refl, sym, ◌∙◌, ap, subst}
use mathlib.Core.Bool.{true, false}
use mathlib.Core.List.{List, [], ◌∷◌}
use Prim.Native.Nat.{ℕ, ◌≤◌}
use native.Mathlib.Nat.{le_trans}
use native.Mathlib.Omega.{arith}
use lib.ListN.{get_or}
use lib.Dec.{eqb}
use borrow.Author.Tests.{eqb-true, eqb-false}
use Rattle.table_layout.specs.Codes.{end_kind, section_kind}
use Rattle.base.specs.Broken.{Rule, first_broken}
use Rattle.base.proofs.IfLaws.{by_test, by_cases}
use Rattle.base.proofs.BrokenLaws.{sound, Numbered, all_kept as tests_kept}
use Rattle.doc.specs.Document.{Named, Step, Model, Map, Section, Document, document_of}
use Rattle.doc.specs.Holds.{Each}
use Rattle.doc.specs.Holds.Each.{none, more}
use Rattle.cross_rules.specs.Rules.{
  list_name_rules,
  model_rules,
  sgr_rules,
  map_name_rules,
  pin_name_rules,
  section_rules,
  end_step_rules,
  section_step_rules,
  step_rules,
  all_rules_at_lines,
  finding_of,
  no_finding,
  earliest,
  cross_rule,
}
use Rattle.cross_rules.specs.Way.Findings.{map_name_rule, end_rule, section_step_rule, findings}
use Rattle.cross_rules.specs.Listed.{RulesAtLine, Among, BrokenIn}
use Rattle.cross_rules.specs.Listed.Among.{front, further}
use Rattle.cross_rules.specs.declared.Finding.{Finding}
use Rattle.cross_rules.proofs.AmongLaws.{broken_kept, broken_found, broken_least, Ascends, Source, source_of, among_mapped}
use Rattle.cross_rules.proofs.RisingLaws.{each_one}
use Rattle.cross_rules.proofs.FindingLaws.{findings_looked, cross_findings}
use Rattle.cross_rules.proofs.KindLaws.{earlier_second, earlier_one, earlier_other, earlier_breaks, earlier_line}
use Rattle.cross_rules.proofs.ApartLaws.{one_finding}
use Rattle.cross_rules.proofs.LookLaws.{all_hold}

-- ---- what a list of rules gives

-- the numbers of the rules rise, and none is 0
record Ranked (rules : List Rule) : Type 0 where
  numbered : Numbered rules
  ascending : Ascends (λ (n : ℕ). n) 1 rules

module _ (d : Document) where
  list_ranked : (n : Named) → Ranked (list_name_rules d n)
  list_ranked n = record { numbered = (omega arith, (omega arith, tt)); ascending = (omega arith, (omega arith, tt)) }

  model_ranked : (m : Model) → Ranked (model_rules d m)
  model_ranked m = record { numbered = (omega arith, (omega arith, tt)); ascending = (omega arith, (omega arith, tt)) }

  map_ranked : (m : Map) → Ranked (map_name_rules d m)
  map_ranked m = record { numbered = (omega arith, tt); ascending = (omega arith, tt) }

  section_ranked : (i : ℕ) (s : Section) → Ranked (section_rules d i s)
  section_ranked i s = record { numbered = (omega arith, (omega arith, tt)); ascending = (omega arith, (omega arith, tt)) }

  end_ranked : (m : Model) (s : Step) → Ranked (end_step_rules d m s)
  end_ranked m s =
      record {
        numbered = (omega arith, (omega arith, (omega arith, tt)));
        ascending = (omega arith, (omega arith, (omega arith, tt)));
      }

  section_step_ranked : (m : Model) (s : Step) → Ranked (section_step_rules d m s)
  section_step_ranked m s =
      record {
        numbered = (omega arith, (omega arith, (omega arith, (omega arith, tt))));
        ascending = (omega arith, (omega arith, (omega arith, (omega arith, tt))));
      }

  step_ranked : (m : Model) (s : Step) → Ranked (step_rules d m s)
  step_ranked m s =
      by_test Ranked (eqb s.kind end_kind) _ _ (λ e. end_ranked m s)
      (λ e.
      by_test Ranked (eqb s.kind section_kind) _ _ (λ f. section_step_ranked m s) (λ f. record { numbered = tt; ascending = tt }))

sgr_ranked : (m : Model) → Ranked (sgr_rules m)
sgr_ranked m = record { numbered = (omega arith, tt); ascending = (omega arith, tt) }

pin_ranked : (m : Map) (p : Named) → Ranked (pin_name_rules m p)
pin_ranked m p = record { numbered = (omega arith, tt); ascending = (omega arith, tt) }

-- ---- a line that breaks no rule: every test is false

module _ (d : Document) where
  pub map_tests : (m : Map) → map_name_rule d m ≡ 0 → (i : ℕ) → (get_or (map_name_rules d m) i sound).broken ≡ false
  unfolding map_name_rule
  map_tests m e = tests_kept (map_name_rules d m) (map_ranked d m).numbered e

  pub end_tests : (m : Model) (s : Step) → end_rule d m s ≡ 0 → (i : ℕ) → (get_or (end_step_rules d m s) i sound).broken ≡ false
  unfolding end_rule
  end_tests m s e = tests_kept (end_step_rules d m s) (end_ranked d m s).numbered e

  pub section_step_tests : (m : Model) (s : Step) → section_step_rule d m s ≡ 0 → (i : ℕ) → (get_or (section_step_rules d m s) i sound).broken ≡ false
  unfolding section_step_rule
  section_step_tests m s e = tests_kept (section_step_rules d m s) (section_step_ranked d m s).numbered e

-- ---- the earliest of many

none_earliest : {fs : List Finding} → Each (λ (f : Finding). f.rule ≡ 0) fs → (earliest fs).rule ≡ 0
unfolding earliest no_finding
none_earliest none = refl
none_earliest (more {x = f} {xs = fs} h hs) = ap (λ (g : Finding). g.rule) (earlier_second f (earliest fs) h) ∙ none_earliest hs

kept_earliest : (fs : List Finding) → (earliest fs).rule ≡ 0 → Each (λ (f : Finding). f.rule ≡ 0) fs
unfolding earliest
kept_earliest [] e = none
kept_earliest (f ∷ fs) e =
    by_cases _ (eqb f.rule 0)
    (λ (h : eqb f.rule 0 ≡ true).
    more (eqb-true _ _ h) (kept_earliest fs (rw (earlier_second f (earliest fs) (eqb-true _ _ h)) at e)))
    (λ (h : eqb f.rule 0 ≡ false). absurd (earlier_breaks f (earliest fs) (eqb-false _ _ h) e))

found_earliest : (fs : List Finding) → ((earliest fs).rule ≡ 0 → ⊥) → Among (earliest fs) fs
unfolding earliest no_finding
found_earliest [] n = absurd (n refl)
found_earliest (f ∷ fs) n =
    earlier_one (λ (g : Finding). (g.rule ≡ 0 → ⊥) → Among g (f ∷ fs)) f (earliest fs) (λ m. front)
    (λ m. further (found_earliest fs m)) n

low_earliest : {g : Finding} {fs : List Finding} → Among g fs → (g.rule ≡ 0 → ⊥) → (earliest fs).line ≤ g.line
unfolding earliest
low_earliest {g} (front {xs = fs}) n = earlier_line g (earliest fs) n
low_earliest (further {y = f} {xs = fs} m) n =
    le_trans (earlier_other f (earliest fs) (λ (e : (earliest fs).rule ≡ 0). n (each_one (kept_earliest fs e) m))) (low_earliest m n)

-- ---- the whole document, by its findings

-- "In each group the earliest line counts"
pub record First (d : Document) : Type 0 where
  pub found : Among (cross_rule d) (findings d)
  pub lowest : (f : Finding) → Among f (findings d) → (f.rule ≡ 0 → ⊥) → (cross_rule d).line ≤ f.line

module _ (d : Document) where
  pub none_broken : Each (λ (f : Finding). f.rule ≡ 0) (findings d) → (cross_rule d).rule ≡ 0
  none_broken h = rw (cross_findings d) (none_earliest h)

  pub all_kept : (cross_rule d).rule ≡ 0 → Each (λ (f : Finding). f.rule ≡ 0) (findings d)
  all_kept e = kept_earliest (findings d) (rw (cross_findings d) at e)

  pub first_found : ((cross_rule d).rule ≡ 0 → ⊥) → First d
  first_found n =
      record {
        found = rw (cross_findings d) (found_earliest (findings d) (rw (cross_findings d) at n));
        lowest = λ f m k. rw (cross_findings d) (low_earliest m k);
      }

-- ---- the whole document, by its lines and their rules

-- the rules of the line are ranked
abbrev LookRanked : RulesAtLine → Type 0
LookRanked x = Ranked x.rules

module _ (d : Document) where
  look_ranked : {x : RulesAtLine} → Among x (all_rules_at_lines d) → Ranked x.rules
  look_ranked m =
      each_one
      (all_hold d LookRanked (list_ranked d) (model_ranked d) (step_ranked d) (λ (m : Model) among some. sgr_ranked m) (map_ranked d) pin_ranked
      (section_ranked d)) m

  look_found : {x : RulesAtLine} → Among x (all_rules_at_lines d) → Among (finding_of x) (findings d)
  look_found m = rw (findings_looked d) (among_mapped finding_of m)

  -- the document breaks a rule of this number on this line
  abbrev Breaks : ℕ → ℕ → Type 0
  Breaks number line = BrokenIn (all_rules_at_lines d) number line

  -- a line that breaks a rule has a finding other than 0
  breaks_found : {number line : ℕ} (b : Breaks number line) → first_broken b.rules ≡ 0 → ⊥
  breaks_found b e = broken_kept b.broken (look_ranked b.listed).numbered e

  pub none_breaks : (cross_rule d).rule ≡ 0 → (number line : ℕ) → Breaks number line → ⊥
  none_breaks e number line b = breaks_found b (each_one (all_kept d e) (look_found b.listed))

  look_breaks : (x : RulesAtLine) → Among x (all_rules_at_lines d) → (first_broken x.rules ≡ 0 → ⊥) → Breaks (first_broken x.rules) x.line
  look_breaks x m n = record { rules = x.rules; listed = m; broken = broken_found x.rules n }

  source_breaks : {f : Finding} → Source finding_of (all_rules_at_lines d) f → (f.rule ≡ 0 → ⊥) → Breaks f.rule f.line
  source_breaks s n =
      subst (λ (g : Finding). Breaks g.rule g.line) s.gives
      (look_breaks s.source s.among
      (λ (e : first_broken s.source.rules ≡ 0). n (ap (λ (g : Finding). g.rule) (sym s.gives) ∙ e)))

  -- the rule that `cross_rule` gives is broken on the line that it gives
  pub given_breaks : ((cross_rule d).rule ≡ 0 → ⊥) → Breaks (cross_rule d).rule (cross_rule d).line
  given_breaks n = source_breaks (source_of finding_of (all_rules_at_lines d) (rw (findings_looked d) at (first_found d n).found)) n

  pub unbroken : ((number line : ℕ) → Breaks number line → ⊥) → (cross_rule d).rule ≡ 0
  unbroken h =
      by_cases ((cross_rule d).rule ≡ 0) (eqb (cross_rule d).rule 0) (λ (e : eqb (cross_rule d).rule 0 ≡ true). eqb-true _ _ e)
      (λ (e : eqb (cross_rule d).rule 0 ≡ false). absurd (h _ _ (given_breaks (eqb-false _ _ e))))

  pub lowest_line : (number line : ℕ) → Breaks number line → (cross_rule d).line ≤ line
  lowest_line number line b =
      let n : (cross_rule d).rule ≡ 0 → ⊥ = λ (e : (cross_rule d).rule ≡ 0). none_breaks e number line b in
      (first_found d n).lowest (finding_of (record { line = line; rules = b.rules })) (look_found b.listed) (breaks_found b)

-- "on one line the lowest number"; holds for every text, a refused one too
pub lowest_rule :
    (t : List ℕ) (number : ℕ) → BrokenIn (all_rules_at_lines (document_of t)) number (cross_rule (document_of t)).line → (cross_rule (document_of t)).rule ≤ number
lowest_rule t number b =
    let d : Document = document_of t in
    let n : (cross_rule d).rule ≡ 0 → ⊥ = λ (e : (cross_rule d).rule ≡ 0). none_breaks d e number (cross_rule d).line b in
    let own : Finding = finding_of (record { line = (cross_rule d).line; rules = b.rules }) in
    let same : own ≡ cross_rule d = one_finding t own (cross_rule d) (look_found d b.listed) (first_found d n).found refl in
    let e : first_broken b.rules ≡ (cross_rule d).rule = ap (λ (f : Finding). f.rule) same in
    let l : first_broken b.rules ≤ number = broken_least (λ (n : ℕ). n) b.broken 1 (look_ranked d b.listed).ascending in
    omega (arith, e, l)
