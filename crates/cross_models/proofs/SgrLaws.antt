-- Laws of the SGR lines gone over: the staged models that are left give the first wrong one of all; and the first wrong one
-- that is staged is the first finding of the document.
-- Assumes nothing.
use mathlib.Core.Path.{◌≡◌, refl, sym, ◌∙◌, ap}
use mathlib.Core.Bool.{Bool, true, false, not}
use mathlib.Core.List.{List, [], ◌∷◌}
use Prim.Native.Nat.{ℕ, suc, ◌+◌, ◌-◌, ◌*◌, ◌≤◌, ◌<◌}
use native.Mathlib.Nat.{sub-zero}
use native.Mathlib.Omega.{arith}
use lib.ListN.{length}
use lib.Dec.{eqb}
use borrow.Author.Tests.{eq-eqb, ne_eqb}
use Rattle.base.specs.Refusal as refusal
use Rattle.base.proofs.BrokenLaws.{first_broken_lem, first_kept}
use Rattle.base.proofs.IfLaws.{if_true, if_false, by_cases, both_true, both_not_left, both_not_right, both_rest, not_via, not_not_via}
use Rattle.table_layout.specs.Codes.{slm_general}
use Rattle.table_record.specs.Way.Stage.{staged_from, staged_model_width, staged_model_at}
use Rattle.table_record.specs.declared.stage.StagedModel.{StagedModel}
use Rattle.doc.specs.Document.{Model}
use Rattle.doc.specs.Records.{model_record}
use Rattle.doc.specs.Way.Staged.{staged_models}
use Rattle.cross_rules.specs.Rules.{no_finding}
use Rattle.cross_rules.specs.Way.Findings.{sgr_rule, sgr_findings}
use Rattle.cross_rules.specs.Way.First.{first_in}
use Rattle.cross_rules.specs.declared.Finding.{Finding}
use Rattle.cross_rules.proofs.KindLaws.{first_here, first_later}
use Rattle.cross_models.specs.Way.Models.{is_wrong_sgr, first_sgr}

-- ---- one model

module _ (m : StagedModel) where
  pub none_right : m.sgr ≡ 0 → false ≡ is_wrong_sgr m
  unfolding is_wrong_sgr
  none_right e = sym (both_not_left _ _ (not_not_via (eq-eqb _ _ e)))

  pub told_by_type : (m.sgr ≡ 0 → ⊥) → not (eqb m.model.kind slm_general) ≡ is_wrong_sgr m
  unfolding is_wrong_sgr
  told_by_type n = sym (both_rest _ _ (not_via (ne_eqb _ _ n)))

-- ---- one model after another

pub record SgrLeft (models : List ℕ) (count i : ℕ) : Type 0 where
  pub within : i ≤ count
  pub same :
      first_sgr (staged_from (staged_model_at models) staged_model_width i (count - i))
      ≡ first_sgr (staged_from (staged_model_at models) staged_model_width 0 count)

pub sgr_start : (models : List ℕ) (count : ℕ) → SgrLeft models count 0
sgr_start models count =
    record {
      within = omega arith;
      same = ap (λ (n : ℕ). first_sgr (staged_from (staged_model_at models) staged_model_width 0 n)) (sub-zero count);
    }

module _ (models : List ℕ) (count i : ℕ) (left : SgrLeft models count i) where
  pub sgr_end : count ≤ i → record { rule = 0; line = 0 } ≡ first_sgr (staged_from (staged_model_at models) staged_model_width 0 count)
  unfolding first_sgr staged_from no_finding
  sgr_end h =
      let z : count - i ≡ 0 = omega arith in
      rw z at left.same

  module _ (h : i < count) where
    pub sgr_inside : staged_model_width * count ≤ length models → staged_model_width * i + staged_model_width ≤ length models
    sgr_inside k = omega arith

    module _ (m : StagedModel) (is_m : m ≡ staged_model_at models (staged_model_width * i)) (wrong : Bool) (is_wrong : wrong ≡ is_wrong_sgr m) where
      abbrev behind : List StagedModel
      behind = staged_from (staged_model_at models) staged_model_width (i + 1) (count - (i + 1))

      here : first_sgr (m ∷ behind) ≡ first_sgr (staged_from (staged_model_at models) staged_model_width 0 count)
      unfolding staged_from
      here =
          let n : count - i ≡ suc (count - (i + 1)) = omega arith in
          sym
          (ap (λ (k : ℕ). first_sgr (staged_from (staged_model_at models) staged_model_width i k)) n
          ∙ ap (λ (x : StagedModel). first_sgr (x ∷ behind)) (sym is_m))
          ∙ left.same

      pub sgr_breaks : wrong ≡ true → record { rule = refusal.sgr; line = m.sgr } ≡ first_sgr (staged_from (staged_model_at models) staged_model_width 0 count)
      unfolding first_sgr
      sgr_breaks e = sym (if_true _ _ (sym is_wrong ∙ e)) ∙ here

      pub sgr_on : wrong ≡ false → SgrLeft models count (i + 1)
      unfolding first_sgr
      sgr_on e =
          record { within = omega arith; same = sym (if_false _ _ (sym is_wrong ∙ e)) ∙ here }

-- ---- the document

pub sgr_first : (first : ℕ) (ms : List Model) → first_sgr (staged_models first ms) ≡ first_in (sgr_findings ms)
unfolding first_sgr staged_models sgr_findings sgr_rule is_wrong_sgr model_record first_in no_finding
sgr_first first [] = refl
sgr_first first (m ∷ ms) =
    let rest : first_sgr (staged_models (first + length m.steps) ms) ≡ first_in (sgr_findings ms) = sgr_first (first + length m.steps) ms in
    by_cases _ (eqb m.sgr 0)
    (λ (e : eqb m.sgr 0 ≡ true).
    if_false _ _ (both_not_left _ _ (not_not_via e)) ∙ rest ∙ sym (ap first_in (if_true _ _ e)))
    (λ (e : eqb m.sgr 0 ≡ false).
    let own : Finding = record { rule = sgr_rule m; line = m.sgr } in
    let shown : first_in (sgr_findings (m ∷ ms)) ≡ first_in (own ∷ sgr_findings ms) = ap first_in (if_false _ _ e) in
    by_cases _ (eqb m.type slm_general)
    (λ (g : eqb m.type slm_general ≡ true).
    if_false _ _ (both_not_right _ _ (not_not_via g)) ∙ rest ∙ sym (shown ∙ first_later own (sgr_findings ms) (first_kept _ _ _ _ (not_not_via g) refl)))
    (λ (g : eqb m.type slm_general ≡ false).
    let r : sgr_rule m ≡ refusal.sgr = first_broken_lem _ _ _ (not_via g) in
    if_true _ _ (both_true _ _ (not_via e) (not_via g))
    ∙ (λ i. record { rule = sym r i; line = m.sgr })
    ∙ sym (shown ∙ first_here own (sgr_findings ms) (λ (z : sgr_rule m ≡ 0). let y : refusal.sgr ≡ 0 = sym r ∙ z in omega arith))))
