use Rattle.read_numbers.proofs.StagingLaws.{left_start, left_broken, left_movable, left_done, left_less, left_on, room_there, passes_start, passes_done, passes_broken, passes_movable, passes_less, passes_on, word_there, pipe_spells_nothing}
use Rattle.read_numbers.proofs.store_numbers.Goals as goal

pub loop-start-init : goal.loop-start-init
loop-start-init c = search left_start

pub returns-then-not-is_word_at : goal.returns-then-not-is_word_at
returns-then-not-is_word_at c = search left_done

pub number_in-read-requires : goal.number_in-read-requires
number_in-read-requires c = pipe_spells_nothing

pub returns-then-is_err : goal.returns-then-is_err
returns-then-is_err c = search left_broken

pub put_number-cursor-requires-clause-fact_1 : goal.put_number-cursor-requires-clause-fact_1
put_number-cursor-requires-clause-fact_1 c = search left_movable

pub put_number-cursor-requires-clause-fact_2 : goal.put_number-cursor-requires-clause-fact_2
put_number-cursor-requires-clause-fact_2 c = search room_there

pub loop-start-smaller : goal.loop-start-smaller
loop-start-smaller c = search left_less

pub loop-start-preserved : goal.loop-start-preserved
loop-start-preserved c = search left_on

pub loop-cursor-init : goal.loop-cursor-init
loop-cursor-init c = search passes_start

pub returns-then-not-is_word_at-2 : goal.returns-then-not-is_word_at-2
returns-then-not-is_word_at-2 c = search passes_done

pub plain_number-read-requires : goal.plain_number-read-requires
plain_number-read-requires c = search (word_there, c.is_word_at-in-loop-cursor.ensures, c.if-not-is_word_at-2.false-raw)

pub returns-then-is_err-2 : goal.returns-then-is_err-2
returns-then-is_err-2 c = search passes_broken

pub pass_number-cursor-requires : goal.pass_number-cursor-requires
pass_number-cursor-requires c = search passes_movable

pub loop-cursor-smaller : goal.loop-cursor-smaller
loop-cursor-smaller c = search passes_less

pub loop-cursor-preserved : goal.loop-cursor-preserved
loop-cursor-preserved c = search passes_on
