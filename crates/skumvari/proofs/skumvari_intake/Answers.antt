-- `skumvari::skumvari_intake` meets its contract: the words of the answer, case by case, and the table.
-- Assumes nothing.
use Rattle.std.proofs.Common.{◌≡◌, length, replicate, rules}
use Rattle.skumvari.proofs.AnswerLaws.{room_none, intake_left, intake_accepted, intake_refused, table_zeros, table_kept}
use Rattle.skumvari.proofs.skumvari_intake.Goals as goal

pub returns-then-answer-lt-ANSWER_WORDS-clause-value : goal.returns-then-answer-lt-ANSWER_WORDS-clause-value
returns-then-answer-lt-ANSWER_WORDS-clause-value c = search room_none

pub returns-then-answer-lt-ANSWER_WORDS-clause-answer_after : goal.returns-then-answer-lt-ANSWER_WORDS-clause-answer_after
returns-then-answer-lt-ANSWER_WORDS-clause-answer_after c = search intake_left

pub returns-then-answer-lt-ANSWER_WORDS-clause-table_after : goal.returns-then-answer-lt-ANSWER_WORDS-clause-table_after
returns-then-answer-lt-ANSWER_WORDS-clause-table_after c =
    let zeros : c.fill.new.self ≡ replicate (length c.args.table.now) 0 = c.fill.ensures.after (λ y h. search rules) in
    search table_zeros

pub returns-in-Accepted-clause-answer_after : goal.returns-in-Accepted-clause-answer_after
returns-in-Accepted-clause-answer_after c = search intake_accepted

pub returns-in-Accepted-clause-table_after : goal.returns-in-Accepted-clause-table_after
returns-in-Accepted-clause-table_after c = search table_kept

pub returns-in-Refused-clause-answer_after : goal.returns-in-Refused-clause-answer_after
returns-in-Refused-clause-answer_after c = search intake_refused

pub returns-in-Refused-clause-table_after : goal.returns-in-Refused-clause-table_after
returns-in-Refused-clause-table_after c = search table_kept
