-- The earliest finding of a document is the earliest of five: the first finding of the model list, of the models and
-- their steps, of the SGR lines, of the maps and their pins, and of the sections.
-- Assumes nothing.
use mathlib.Core.Path.{◌≡◌, refl, sym, ◌∙◌, ap}
use mathlib.Core.Bool.{true, false}
use mathlib.Core.List.{List, [], ◌∷◌, ◌++◌}
use Prim.Native.Nat.{ℕ, ◌+◌, ◌≤◌, ◌<◌}
use native.Mathlib.Nat.{le_refl, le_trans, le_of_lt, lt_trans}
use native.Mathlib.Omega.{arith}
use lib.Dec.{ltb, eqb}
use borrow.Author.Tests.{eq-eqb, ne_eqb, eqb-true, eqb-false, lt-ltb, le-ltb, ltb-true, ltb-false}
use Rattle.base.proofs.IfLaws.{if_true, if_false, by_cases}
use Rattle.doc.specs.Document.{Document, document_of}
use Rattle.cross_rules.specs.Rules.{earlier, no_finding, earliest, cross_rule}
use Rattle.cross_rules.specs.Way.Findings.{list_findings, model_findings, sgr_findings, map_findings, section_findings, findings}
use Rattle.cross_rules.specs.Way.First.{first_in}
use Rattle.cross_rules.specs.declared.Finding.{Finding}
use Rattle.cross_rules.proofs.FindingLaws.{cross_findings}
use Rattle.cross_rules.proofs.RisingLaws.{Rising}
use Rattle.cross_rules.proofs.RisingLaws.Rising.{rise}
use Rattle.cross_rules.proofs.OrderLaws.{finding_lines, Ordered, in_order}

-- ---- the earlier of two findings

module _ (a b : Finding) where
  pub earlier_second : a.rule ≡ 0 → earlier a b ≡ b
  unfolding earlier
  earlier_second e = if_true _ _ (eq-eqb _ _ e)

  -- a finding that breaks a rule is the earlier one, unless the other breaks a rule on an earlier line
  pub earlier_first : (a.rule ≡ 0 → ⊥) → ((b.rule ≡ 0 → ⊥) → a.line ≤ b.line) → earlier a b ≡ a
  unfolding earlier
  earlier_first n h =
      if_false _ _ (ne_eqb _ _ n)
      ∙ by_cases _ (eqb b.rule 0) (λ (e : eqb b.rule 0 ≡ true). if_true _ _ e)
      (λ (e : eqb b.rule 0 ≡ false). if_false _ _ e ∙ if_false _ _ (le-ltb b.line a.line (h (eqb-false _ _ e))))

  pub earlier_lower : (a.rule ≡ 0 → ⊥) → (b.rule ≡ 0 → ⊥) → b.line < a.line → earlier a b ≡ b
  unfolding earlier
  earlier_lower n m h = if_false _ _ (ne_eqb _ _ n) ∙ if_false _ _ (ne_eqb _ _ m) ∙ if_true _ _ (lt-ltb _ _ h)

-- which of its two arguments `earlier` gives
data Which (a b : Finding) : Finding → Type 0 where
  silent : a.rule ≡ 0 → Which a b b
  stands : (a.rule ≡ 0 → ⊥) → ((b.rule ≡ 0 → ⊥) → a.line ≤ b.line) → Which a b a
  passed : (a.rule ≡ 0 → ⊥) → (b.rule ≡ 0 → ⊥) → b.line < a.line → Which a b b

which : (a b : Finding) → Which a b (earlier a b)
which a b =
    by_cases _ (eqb a.rule 0) (λ (e : eqb a.rule 0 ≡ true). rw (earlier_second a b (eqb-true _ _ e)) (silent (eqb-true _ _ e)))
    (λ (e : eqb a.rule 0 ≡ false).
    by_cases _ (eqb b.rule 0)
    (λ (f : eqb b.rule 0 ≡ true).
    let h : (b.rule ≡ 0 → ⊥) → a.line ≤ b.line = λ n. absurd (n (eqb-true _ _ f)) in
    rw (earlier_first a b (eqb-false _ _ e) h) (stands (eqb-false _ _ e) h))
    (λ (f : eqb b.rule 0 ≡ false).
    by_cases _ (ltb b.line a.line)
    (λ (l : ltb b.line a.line ≡ true).
    rw (earlier_lower a b (eqb-false _ _ e) (eqb-false _ _ f) (ltb-true _ _ l))
    (passed (eqb-false _ _ e) (eqb-false _ _ f) (ltb-true _ _ l)))
    (λ (l : ltb b.line a.line ≡ false).
    let h : (b.rule ≡ 0 → ⊥) → a.line ≤ b.line = λ n. ltb-false _ _ l in
    rw (earlier_first a b (eqb-false _ _ e) h) (stands (eqb-false _ _ e) h))))

-- if one of two findings breaks a rule, so does the earlier one, on that line or before it
breaks_by : {a b c : Finding} → Which a b c → (a.rule ≡ 0 → ⊥) → c.rule ≡ 0 → ⊥
breaks_by (silent e) n = absurd (n e)
breaks_by (stands m h) n = n
breaks_by (passed m o l) n = o

line_by : {a b c : Finding} → Which a b c → (a.rule ≡ 0 → ⊥) → c.line ≤ a.line
line_by (silent e) n = absurd (n e)
line_by {a} (stands m h) n = le_refl a.line
line_by (passed m o l) n = le_of_lt l

other_by : {a b c : Finding} → Which a b c → (b.rule ≡ 0 → ⊥) → c.line ≤ b.line
other_by {b = b} (silent e) n = le_refl b.line
other_by (stands m h) n = h n
other_by {b = b} (passed m o l) n = le_refl b.line

pub earlier_other : (a b : Finding) → (b.rule ≡ 0 → ⊥) → (earlier a b).line ≤ b.line
earlier_other a b n = other_by (which a b) n

one_by : (P : Finding → Type 0) {a b c : Finding} → Which a b c → P a → P b → P c
one_by P (silent e) p q = q
one_by P (stands m h) p q = p
one_by P (passed m o l) p q = q

-- `earlier` gives one of its two arguments
pub earlier_one : (P : Finding → Type 0) (a b : Finding) → P a → P b → P (earlier a b)
earlier_one P a b p q = one_by P (which a b) p q

module _ (a b : Finding) (n : a.rule ≡ 0 → ⊥) where
  pub earlier_breaks : (earlier a b).rule ≡ 0 → ⊥
  earlier_breaks = breaks_by (which a b) n

  pub earlier_line : (earlier a b).line ≤ a.line
  earlier_line = line_by (which a b) n

apart :
    (x y z : Finding) {xy yz : Finding} → Which x y xy → earlier x y ≡ xy → Which y z yz → earlier y z ≡ yz → earlier xy z ≡ earlier x yz
apart x y z {yz = yz} (silent e) p w q = q ∙ sym (earlier_second x yz e)
apart x y z (stands n h) p (silent e) q = refl
apart x y z (stands n h) p (stands m k) q = earlier_first x z n (λ o. le_trans (h m) (k o)) ∙ sym p
apart x y z (stands n h) p (passed m o k) q = refl
apart x y z (passed n m l) p (silent e) q = absurd (m e)
apart x y z (passed n m l) p (stands o k) q = q ∙ sym p
apart x y z (passed n m l) p (passed o r k) q = q ∙ sym (earlier_lower x z n r (lt_trans k l))

pub earlier_assoc : (x y z : Finding) → earlier (earlier x y) z ≡ earlier x (earlier y z)
earlier_assoc x y z = apart x y z (which x y) refl (which y z) refl

-- ---- the earliest of many

pub earliest_append : (xs ys : List Finding) → earliest (xs ++ ys) ≡ earlier (earliest xs) (earliest ys)
unfolding earliest no_finding
earliest_append [] ys = sym (earlier_second no_finding (earliest ys) refl)
earliest_append (x ∷ xs) ys = ap (earlier x) (earliest_append xs ys) ∙ sym (earlier_assoc x (earliest xs) (earliest ys))

-- ---- the first of many whose lines rise

module _ (f : Finding) (fs : List Finding) where
  pub first_here : (f.rule ≡ 0 → ⊥) → first_in (f ∷ fs) ≡ f
  unfolding first_in
  first_here n = if_false _ _ (ne_eqb _ _ n)

  pub first_later : f.rule ≡ 0 → first_in (f ∷ fs) ≡ first_in fs
  unfolding first_in
  first_later e = if_true _ _ (eq-eqb _ _ e)

pub first_low : {least : ℕ} (fs : List Finding) → Rising least (finding_lines fs) → ((first_in fs).rule ≡ 0 → ⊥) → least ≤ (first_in fs).line
unfolding first_in no_finding
first_low [] h n = absurd (n refl)
first_low {least = least} (f ∷ fs) (rise h rest) n =
    by_cases _ (eqb f.rule 0)
    (λ (e : eqb f.rule 0 ≡ true).
    let l : first_in (f ∷ fs) ≡ first_in fs = first_later f fs (eqb-true _ _ e) in
    let k : f.line + 1 ≤ (first_in fs).line = first_low {least = f.line + 1} fs rest (rw l at n) in
    rw l (omega arith))
    (λ (e : eqb f.rule 0 ≡ false). rw (first_here f fs (eqb-false _ _ e)) h)

pub first_earliest : {least : ℕ} (fs : List Finding) → Rising least (finding_lines fs) → first_in fs ≡ earliest fs
unfolding earliest first_in
first_earliest [] h = refl
first_earliest {least = least} (f ∷ fs) (rise h rest) =
    by_cases _ (eqb f.rule 0)
    (λ (e : eqb f.rule 0 ≡ true).
    first_later f fs (eqb-true _ _ e) ∙ first_earliest {least = f.line + 1} fs rest ∙ sym (earlier_second f (earliest fs) (eqb-true _ _ e)))
    (λ (e : eqb f.rule 0 ≡ false).
    first_here f fs (eqb-false _ _ e)
    ∙ sym (earlier_first f (first_in fs) (eqb-false _ _ e) (λ n. below n (first_low fs rest)))
    ∙ ap (earlier f) (first_earliest fs rest))
  where
    below : ((first_in fs).rule ≡ 0 → ⊥) → (((first_in fs).rule ≡ 0 → ⊥) → f.line + 1 ≤ (first_in fs).line) → f.line ≤ (first_in fs).line
    below n k =
        let l : f.line + 1 ≤ (first_in fs).line = k n in
        omega arith

-- ---- by kinds

module _ (d : Document) where
  pub kinds_of :
      Ordered d →
      cross_rule d
      ≡ earlier (first_in (list_findings d))
      (earlier (first_in (model_findings d d.models))
      (earlier (first_in (sgr_findings d.models))
      (earlier (first_in (map_findings d d.maps)) (first_in (section_findings d 0 d.sections)))))
  unfolding findings
  kinds_of o =
      rw (
        cross_findings d,
        first_earliest (list_findings d) o.in_list,
        first_earliest (model_findings d d.models) o.in_models,
        first_earliest (sgr_findings d.models) o.in_sgrs,
        first_earliest (map_findings d d.maps) o.in_maps,
        first_earliest (section_findings d 0 d.sections) o.in_sections,
        earliest_append (list_findings d) _,
        earliest_append (model_findings d d.models) _,
        earliest_append (sgr_findings d.models) _,
        earliest_append (map_findings d d.maps) _,
      )

pub by_kinds :
    (t : List ℕ) →
    cross_rule (document_of t)
    ≡ earlier (first_in (list_findings (document_of t)))
    (earlier (first_in (model_findings (document_of t) (document_of t).models))
    (earlier (first_in (sgr_findings (document_of t).models))
    (earlier (first_in (map_findings (document_of t) (document_of t).maps))
    (first_in (section_findings (document_of t) 0 (document_of t).sections)))))
by_kinds t = kinds_of (document_of t) (in_order t)
