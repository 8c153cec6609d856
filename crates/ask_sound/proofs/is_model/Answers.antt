-- `ask_sound::is_model` meets its contract.
-- Assumes nothing.
use Rattle.base.proofs.IfLaws.{chain}
use Rattle.ask_sound.specs.Sound.{is_model}
use Rattle.ask_sound.proofs.RecordLaws.{model_outside, steps_product, steps_sum, steps_room, model_depth}
use Rattle.ask_sound.proofs.RecordLaws.{steps_product, steps_sum}
use Rattle.ask_sound.proofs.is_model.Goals as goal

pub returns-then-not-is_name_in : goal.returns-then-not-is_name_in
unfolding is_model
returns-then-not-is_name_in c = search chain

pub returns-then-model-ge-TYPES : goal.returns-then-model-ge-TYPES
unfolding is_model
returns-then-model-ge-TYPES c = search chain

pub returns-then-not-is_range : goal.returns-then-not-is_range
returns-then-not-is_range c = search model_outside

pub overflow_mul-from : goal.overflow_mul-from
overflow_mul-from c = search steps_product

pub overflow_add-from : goal.overflow_add-from
overflow_add-from c = search steps_sum

pub depth_holds-requires : goal.depth_holds-requires
depth_holds-requires c = search steps_room

pub returns : goal.returns
returns c = search model_depth
