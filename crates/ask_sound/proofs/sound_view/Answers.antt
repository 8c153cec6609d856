-- `ask_sound::sound_view` meets its contract.
-- Assumes nothing.
use mathlib.Core.Path.{◌≡◌, sym, ◌∙◌}
use lib.ListN.{length-replicate}
use borrow.Author.Rules.{rules}
use Rattle.std.specs.Prelude.{Some}
use Rattle.table_layout.specs.View.{view_of}
use Rattle.ask_sound.proofs.LoopLaws.{zeros_told}
use Rattle.ask_sound.proofs.SoundLaws.{sound_unfit, sound_not_zero, sound_end, sound_rooms, sound_value_room, sound_few_values, sound_parts_fail, sound_parts}
use Rattle.ask_sound.proofs.sound_view.Goals as goal

pub returns-in_err-view : goal.returns-in_err-view
returns-in_err-view c = c.from_residual.ensures ∙ sound_unfit _ _ (sym c.in_err-view.was ∙ c.view_of.ensures)

pub zeros_from-requires : goal.zeros_from-requires
zeros_from-requires c = sound_end _ _ (sym c.in_ok-view.was ∙ c.view_of.ensures)

pub returns-then-not-zeros_from : goal.returns-then-not-zeros_from
returns-then-not-zeros_from c =
    let v : Some c.in_ok-view.view ≡ view_of c.args.table.now = sym c.in_ok-view.was ∙ c.view_of.ensures in
    let told = zeros_told _ _ c.zeros_from.ensures in
    search (sound_not_zero _ _ v)

pub find_reaches-requires : goal.find_reaches-requires
find_reaches-requires c =
    let v : Some c.in_ok-view.view ≡ view_of c.args.table.now = sym c.in_ok-view.was ∙ c.view_of.ensures in
    search (rules, sound_value_room, sound_few_values, length-replicate)

pub are_parts-requires : goal.are_parts-requires
are_parts-requires c =
    let v : Some c.in_ok-view.view ≡ view_of c.args.table.now = sym c.in_ok-view.was ∙ c.view_of.ensures in
    search (rules, sound_rooms)

pub returns-then-not-are_parts : goal.returns-then-not-are_parts
returns-then-not-are_parts c =
    let v : Some c.in_ok-view.view ≡ view_of c.args.table.now = sym c.in_ok-view.was ∙ c.view_of.ensures in
    let told = zeros_told _ _ c.zeros_from.ensures in
    search (sound_parts_fail _ _ v)

pub returns : goal.returns
returns c =
    let v : Some c.in_ok-view.view ≡ view_of c.args.table.now = sym c.in_ok-view.was ∙ c.view_of.ensures in
    let told = zeros_told _ _ c.zeros_from.ensures in
    search (sound_parts _ _ v)
