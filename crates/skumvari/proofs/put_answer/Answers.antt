-- `skumvari::put_answer` meets its contract: the words where there is room.
-- Assumes nothing.
use Rattle.skumvari.proofs.AnswerLaws.{room_none, room_there, answer_left, answer_front}
use Rattle.skumvari.proofs.put_answer.Goals as goal

pub returns-then-words-answer-clause-room : goal.returns-then-words-answer-clause-room
returns-then-words-answer-clause-room c = search room_there

pub returns-then-words-answer-clause-written : goal.returns-then-words-answer-clause-written
returns-then-words-answer-clause-written c = search answer_front

pub returns-else-words-answer-clause-room : goal.returns-else-words-answer-clause-room
returns-else-words-answer-clause-room c = search room_none

pub returns-else-words-answer-clause-written : goal.returns-else-words-answer-clause-written
returns-else-words-answer-clause-written c = search answer_left
