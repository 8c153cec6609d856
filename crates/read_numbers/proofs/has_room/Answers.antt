-- `read_numbers::has_room` meets its contract.
-- Assumes nothing.
use Rattle.read_numbers.proofs.StagingLaws.{no_room, some_room}
use Rattle.read_numbers.proofs.has_room.Goals as goal

pub returns-then-words-place : goal.returns-then-words-place
returns-then-words-place c = search no_room

pub returns : goal.returns
returns c = search some_room
