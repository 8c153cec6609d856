-- Laws of the models gone over: those that are left give what all of them break first.
-- Assumes nothing.
use mathlib.Core.Path.{◌≡◌, refl, sym, ◌∙◌, ap}
use mathlib.Core.Bool.{Bool}
use mathlib.Core.List.{List, [], ◌∷◌, map}
use Prim.Native.Nat.{ℕ, ◌+◌, ◌≤◌, ◌<◌}
use native.Mathlib.Omega.{arith}
use mir.Syntax.{w64}
use mir.Val.{Fits}
use lib.ListN.{length, drop, get_or, drop_of_length-le}
use Rattle.cross_rules.specs.Way.Findings.{model_rule, model_findings}
use Rattle.table_layout.specs.Layout.{models}
use Rattle.std.specs.Prelude.{Some}
use Rattle.table_layout.specs.View.{view_of}
use Rattle.table_layout.specs.declared.View.{View}
use Rattle.table_record.specs.Way.Standing.{count_of}
use Rattle.doc.specs.Lines.{significant}
use Rattle.doc.specs.Document.{Model, Document, document_of}
use Rattle.cross_rules.specs.Rules.{no_finding}
use Rattle.cross_rules.specs.Way.First.{first_in}
use Rattle.cross_rules.specs.Way.HoldsText.{HoldsText}
use Rattle.cross_rules.specs.Way.Nth.{nth_line}
use Rattle.cross_rules.specs.declared.Finding.{Finding}
use Rattle.cross_rules.proofs.KindLaws.{first_here, first_later}
use Rattle.cross_rules.proofs.NthLaws.{model_line_lem}
use Rattle.cross_rules.proofs.NamesLaws.{mapped_here}
use Rattle.cross_rules.proofs.TableLaws.{text_rooms, many_models}
use Rattle.cross_names.specs.Way.Listed.{Listed}
use Rattle.table_name.specs.Way.Hash.{marks_many}
use Rattle.cross_models.specs.Way.Models.{model_rule_at, below_first, StepsTold}
use Rattle.cross_models.proofs.StepsLaws.{Split, drop_to, model_here, rule_there}

pub record ModelsLeft (t marks : List ℕ) (i : ℕ) : Type 0 where
  pub same :
      first_in (model_findings (document_of t) (drop i (document_of t).models)) ≡ first_in (model_findings (document_of t) (document_of t).models)
  pub whole : length marks ≡ marks_many

pub models_start : (t marks : List ℕ) → length marks ≡ marks_many → ModelsLeft t marks 0
models_start t marks whole = record { same = refl; whole = whole }

module _ (t table : List ℕ) (filled : HoldsText t table) (v : View) (is_view : Some v ≡ view_of table) (marks : List ℕ) (i : ℕ) (left : ModelsLeft t marks i) where
  abbrev d : Document
  d = document_of t

  pub models_end : count_of v models ≤ i → record { rule = 0; line = 0 } ≡ first_in (model_findings d d.models)
  unfolding first_in no_finding model_findings
  models_end h =
      let k : length d.models ≤ i = rw (many_models t table filled v is_view) at h in
      let e : drop i d.models ≡ [] = drop_of_length-le d.models k in
      rw e at left.same

  module _ (h : i < count_of v models) where
    pub there : i < length d.models
    there = rw (many_models t table filled v is_view) at h

    abbrev here : Split d.models i
    here = model_here t table filled v is_view i there

    abbrev m : Model
    m = here.one

    abbrev own : Finding
    own = record { rule = model_rule d m; line = m.line }

    findings_here : model_findings d (drop i d.models) ≡ own ∷ below_first d (drop i d.models)
    unfolding model_findings below_first
    findings_here =
        let e : drop i d.models ≡ m ∷ here.behind = drop_to d.models i here in
        rw e

    same_here : first_in (own ∷ below_first d (drop i d.models)) ≡ first_in (model_findings d d.models)
    same_here = ap first_in (sym findings_here) ∙ left.same

    pub index_fits : Fits w64 (i + 1)
    index_fits = omega (arith, (text_rooms t table filled v is_view).few_models)

    module _ (listed : List Bool) (names : Listed d listed) (rule : ℕ) (is_rule : rule ≡ model_rule_at t table v listed i) where
      rule_is : rule ≡ model_rule d m
      rule_is = is_rule ∙ rule_there t table filled v is_view i there listed names

      pub model_breaks : (rule ≡ 0 → ⊥) → (line : ℕ) → line ≡ nth_line models i (significant t) → record { rule = rule; line = line } ≡ first_in (model_findings d d.models)
      model_breaks n line is_line =
          let l : line ≡ m.line =
          is_line ∙ model_line_lem t i ∙ (λ j. get_or (map (λ (x : Model). x.line) (here.all j)) (here.place j) 0) ∙ mapped_here (λ (x : Model). x.line) here.before here.behind m 0 in
          (λ j. record { rule = rule_is j; line = l j }) ∙ sym (first_here own _ (λ (z : model_rule d m ≡ 0). n (rule_is ∙ z))) ∙ same_here

      module _ (kept : rule ≡ 0) where
        below_same : first_in (below_first d (drop i d.models)) ≡ first_in (model_findings d d.models)
        below_same = sym (first_later own _ (sym rule_is ∙ kept)) ∙ same_here

        module _ (found : Finding) (told : StepsTold t i found) where
          pub steps_break : (found.rule ≡ 0 → ⊥) → found ≡ first_in (model_findings d d.models)
          steps_break n = told.broken n ∙ below_same

          pub models_on : found.rule ≡ 0 → (after : List ℕ) → (found.rule ≡ 0 → length after ≡ marks_many) → ModelsLeft t after (i + 1)
          models_on z after whole = record { same = told.kept z ∙ below_same; whole = whole z }
