-- The table of a text that breaks no rule is sound, if the words of its models, maps and steps are within their bounds.
-- Assumes nothing.
use mathlib.Core.Path.{◌≡◌, ◌∙◌, ap}
use mathlib.Core.Bool.{true}
use mathlib.Core.List.{List}
use Prim.Native.Nat.{ℕ, ◌<◌}
use lib.ListN.{length}
use Rattle.base.proofs.IfLaws.{both_true}
use Rattle.lex_line.specs.ByteRules.{byte_rules}
use Rattle.lex_line.specs.declared.Checked.TheVariants.{Fine}
use Rattle.doc.specs.Document.{Model, Document, document_of}
use Rattle.doc.specs.Records.{flatten}
use Rattle.doc.specs.Holds.{Each}
use Rattle.doc.specs.Way.Holds as holds
use Rattle.doc.proofs.NamedLaws.{ModelNamed, AllNamed, all_named}
use Rattle.doc.proofs.DepthLaws.{read_deep}
use Rattle.doc.proofs.SectionLaws.{RightSection, text_sections}
use Rattle.cross_rules.specs.Rules.{cross_rule}
use Rattle.cross_rules.specs.Way.HoldsText.{HoldsText}
use Rattle.std.specs.Prelude.{is_some}
use Rattle.cross_rules.proofs.TableLaws.{view_fits}
use Rattle.ask_sound.specs.Sound.{are_sound, is_sound}
use Rattle.law_sound.proofs.EndLaws.{filled_zeros, filled_records}
use Rattle.law_sound.proofs.Bounds.{Bounded}
use Rattle.law_sound.proofs.PartLaws.{
  SoundModel,
  models_sound,
  maps_sound,
  pins_sound,
  sections_sound,
  matrices_right,
  matrices_sound,
  values_sound,
}
use Rattle.law_sound.proofs.CrossLaws.{all_steps_kept}
use Rattle.law_sound.proofs.StepLaws.{steps_sound}

models_asked :
    (t : List ℕ) {ms : List Model} → Each (ModelNamed t) ms → Each (λ (m : Model). m.type < 3) ms →
    Each (λ (m : Model). holds.depth_of_steps 0 m.steps ≡ true) ms → Each (SoundModel t) ms
models_asked t Each.none Each.none Each.none = Each.none
models_asked t (Each.more n ns) (Each.more h hs) (Each.more k ks) =
    Each.more (record { name = n.name; type = h; deep = k }) (models_asked t ns hs ks)

-- the records of a document whose names lie in the text
records_sound :
    (t : List ℕ) (d : Document) → AllNamed t d → Bounded d → Each (λ (m : Model). holds.depth_of_steps 0 m.steps ≡ true) d.models →
    Each RightSection d.sections → (cross_rule d).rule ≡ 0 → are_sound (length t) (flatten d) ≡ true
unfolding are_sound flatten
records_sound t d names bounds deep sections kept =
    both_true _ _ (models_sound t d.maps d.sections (models_asked t names.models bounds.types deep))
    (both_true _ _ (steps_sound t d sections bounds.steps names.models (all_steps_kept d kept))
    (both_true _ _ (maps_sound t names.maps bounds.maps)
    (both_true _ _ (pins_sound t names.maps)
    (both_true _ _ (sections_sound t names.sections sections)
    (both_true _ _ (matrices_sound (matrices_right sections)) (values_sound (matrices_right sections)))))))

pub bounded_sound :
    (t table : List ℕ) → byte_rules t ≡ Fine → HoldsText t table → Bounded (document_of t) → (cross_rule (document_of t)).rule ≡ 0 →
    is_sound t table ≡ true
unfolding is_sound
bounded_sound t table fine filled bounds kept =
    let records : are_sound (length t) (flatten (document_of t)) ≡ true =
    records_sound t (document_of t) (all_named t fine filled.counts filled.reads) bounds
    (read_deep t filled.counts filled.reads) (text_sections t filled.counts filled.reads) kept in
    both_true _ _ (ap is_some (view_fits t table filled))
    (both_true _ _ (filled_zeros t table filled) (ap (are_sound (length t)) (filled_records t table filled) ∙ records))
