-- `intake::cross::cross_finding` meets its contract.
-- Assumes nothing.
use mathlib.Core.Path.{sym, ◌∙◌, ap}
use Rattle.std.specs.Prelude.{is_some}
use Rattle.cross_rules.proofs.TableLaws.{view_fits}
use Rattle.intake.proofs.CrossLaws.{models_there, sgr_told, with_the_list, without_the_list}
use Rattle.intake.proofs.cross.cross_finding.Goals as goal

pub unwrap-view-requires : goal.unwrap-view-requires
unwrap-view-requires c = ap is_some (c.view_of.ensures ∙ view_fits _ _ c.requires.0)

pub list_finding-list-requires : goal.list_finding-list-requires
list_finding-list-requires c = (c.requires.0, sym c.unwrap-view.ensures ∙ c.view_of.ensures, c.requires.3)

pub map_finding-maps-requires : goal.map_finding-maps-requires
map_finding-maps-requires c = (c.requires.0, sym c.unwrap-view.ensures ∙ c.view_of.ensures)

pub returns-then-list-ne0 : goal.returns-then-list-ne0
returns-then-list-ne0 c = with_the_list _ _ c.requires.0 _ _ _ c.list_finding-list.ensures.0 c.map_finding-maps.ensures c.if-list-ne0.true _ c.earlier_of.ensures

pub model_finding-paths-requires : goal.model_finding-paths-requires
model_finding-paths-requires c =
    (c.requires.0, sym c.unwrap-view.ensures ∙ c.view_of.ensures, c.requires.2, c.list_finding-list.ensures.1 c.if-list-ne0.false)

pub sgr_finding-sgr-requires : goal.sgr_finding-sgr-requires
sgr_finding-sgr-requires c = models_there _ _ c.requires.0 _ (sym c.unwrap-view.ensures ∙ c.view_of.ensures) _ c.requires.1

pub section_finding-sections-requires : goal.section_finding-sections-requires
section_finding-sections-requires c = (c.requires.0, sym c.unwrap-view.ensures ∙ c.view_of.ensures)

pub returns : goal.returns
returns c = without_the_list _ _ c.requires.0 _ _ _ c.list_finding-list.ensures.0 c.map_finding-maps.ensures c.if-list-ne0.false _ _ _ _ _ _
    c.model_finding-paths.ensures
    (sgr_told _ _ c.requires.0 _ (sym c.unwrap-view.ensures ∙ c.view_of.ensures) _ c.requires.1 _ c.sgr_finding-sgr.ensures)
    c.section_finding-sections.ensures c.earlier_of-2.ensures c.earlier_of-3.ensures c.earlier_of-4.ensures
