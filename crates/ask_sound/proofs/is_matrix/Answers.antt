-- `ask_sound::is_matrix` meets its contract.
-- Assumes nothing.
use Rattle.base.proofs.IfLaws.{chain}
use Rattle.ask_sound.specs.Sound.{is_matrix}
use Rattle.ask_sound.proofs.RecordLaws.{matrix_outside, values_within, matrix_rises}
use borrow.Author.Rules.{rules}
use Rattle.ask_sound.proofs.is_matrix.Goals as goal

pub returns-then-matrix-ge-FORMS : goal.returns-then-matrix-ge-FORMS
unfolding is_matrix
returns-then-matrix-ge-FORMS c = search chain

pub returns-then-not-is_bandwidth : goal.returns-then-not-is_bandwidth
unfolding is_matrix
returns-then-not-is_bandwidth c = search chain

pub returns-then-not-is_range : goal.returns-then-not-is_range
returns-then-not-is_range c = search matrix_outside

pub values_rise-requires : goal.values_rise-requires
values_rise-requires c = search (rules, values_within)

pub returns : goal.returns
returns c = search matrix_rises
