-- The findings of all kinds of lines, put together: with the list first if it breaks a rule, without it if not.
-- Assumes nothing.
use mathlib.Core.Path.{◌≡◌, sym, ◌∙◌, ap}
use mathlib.Core.List.{List}
use Prim.Native.Nat.{ℕ, ◌*◌, ◌≤◌, ◌<◌}
use lib.ListN.{length}
use Rattle.table_layout.specs.Layout.{models}
use Rattle.std.specs.Prelude.{Some}
use Rattle.table_layout.specs.View.{view_of}
use Rattle.table_layout.specs.declared.View.{View}
use Rattle.table_record.specs.Way.Standing.{count_of}
use Rattle.table_record.specs.Way.Stage.{staged_from, staged_model_width, staged_model_at}
use Rattle.doc.specs.Document.{document_of}
use Rattle.doc.specs.Way.Staged.{ModelsStaged}
use Rattle.doc.proofs.CountLaws.{many_models as text_models}
use Rattle.doc.proofs.StagedLaws.{models_inside, models_staged}
use Rattle.cross_rules.specs.Rules.{earlier, cross_rule}
use Rattle.cross_rules.specs.Way.Findings.{list_findings, model_findings, sgr_findings, map_findings, section_findings}
use Rattle.cross_rules.specs.Way.First.{first_in}
use Rattle.cross_rules.specs.Way.HoldsText.{HoldsText}
use Rattle.cross_rules.specs.declared.Finding.{Finding}
use Rattle.cross_rules.proofs.KindLaws.{by_kinds, earlier_second, earlier_first, earlier_lower}
use Rattle.cross_rules.proofs.ListLaws.{list_first}
use Rattle.cross_rules.proofs.TableLaws.{many_models as table_models}
use Rattle.cross_models.specs.Way.Models.{first_sgr}
use Rattle.cross_models.proofs.SgrLaws.{sgr_first}

module _ (a b : Finding) where
  pub second_stays : a.rule ≡ 0 → b ≡ earlier a b
  second_stays e = sym (earlier_second a b e)

  module _ (n : a.rule ≡ 0 → ⊥) where
    pub first_alone : b.rule ≡ 0 → a ≡ earlier a b
    first_alone e = sym (earlier_first a b n (λ m. absurd (m e)))

    pub second_above : (b.rule ≡ 0 → ⊥) → b.line < a.line → b ≡ earlier a b
    second_above m l = sym (earlier_lower a b n m l)

    pub first_above : a.line ≤ b.line → a ≡ earlier a b
    first_above l = sym (earlier_first a b n (λ m. l))

-- the staged models, by the table's count of them
module _ (t table : List ℕ) (filled : HoldsText t table) (v : View) (is_view : Some v ≡ view_of table) (stage : List ℕ) (staged : ModelsStaged t stage) where
  counted : count_of v models ≡ filled.counts.models
  counted = table_models t table filled v is_view ∙ text_models t filled.counts filled.reads

  pub models_there : staged_model_width * count_of v models ≤ length stage
  models_there = rw counted (models_inside t filled.counts filled.reads stage staged)

  pub sgr_told :
      (r : Finding) → r ≡ first_sgr (staged_from (staged_model_at stage) staged_model_width 0 (count_of v models)) → r ≡ first_in (sgr_findings (document_of t).models)
  sgr_told r e =
      e ∙ ap (λ (n : ℕ). first_sgr (staged_from (staged_model_at stage) staged_model_width 0 n)) counted
      ∙ ap first_sgr (models_staged t filled.counts filled.reads stage staged)
      ∙ sgr_first 0 (document_of t).models

module _ (t table : List ℕ) (filled : HoldsText t table) (number line : ℕ) (maps : Finding)
    (list_is : record { rule = number; line = line } ≡ first_in (list_findings (document_of t)))
    (maps_are : maps ≡ first_in (map_findings (document_of t) (document_of t).maps)) where
  abbrev list : Finding
  list = record { rule = number; line = line }

  number_is : number ≡ (first_in (list_findings (document_of t))).rule
  number_is = ap (λ (f : Finding). f.rule) list_is

  pub with_the_list : (number ≡ 0 → ⊥) → (r : Finding) → r ≡ earlier list maps → r ≡ cross_rule (document_of t)
  with_the_list n r e =
      e ∙ (λ i. earlier (list_is i) (maps_are i))
      ∙ sym (list_first t filled.counts filled.reads (λ (z : (first_in (list_findings (document_of t))).rule ≡ 0). n (number_is ∙ z)))

  pub without_the_list :
      number ≡ 0 → (models sgrs sections below behind r : Finding) →
      models ≡ first_in (model_findings (document_of t) (document_of t).models) →
      sgrs ≡ first_in (sgr_findings (document_of t).models) →
      sections ≡ first_in (section_findings (document_of t) 0 (document_of t).sections) → below ≡ earlier maps sections →
      behind ≡ earlier sgrs below → r ≡ earlier models behind → r ≡ cross_rule (document_of t)
  without_the_list z models sgrs sections below behind r models_are sgrs_are sections_are below_is behind_is e =
      e ∙ ap (earlier models) (behind_is ∙ ap (earlier sgrs) below_is)
      ∙ (λ i. earlier (models_are i) (earlier (sgrs_are i) (earlier (maps_are i) (sections_are i))))
      ∙ sym (earlier_second (first_in (list_findings (document_of t))) _ (sym number_is ∙ z)) ∙ sym (by_kinds t)
