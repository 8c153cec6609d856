-- `lex_number::fast::plain_value` meets its contract: one size and one count of zeros make a number.
-- Assumes nothing.
use Rattle.lex_number.proofs.TrimLaws.{says_zero, says_value}
use Rattle.lex_number.proofs.ValueLaws.{up_fits, up_fits_whole, up_capped, down_fits, down_fits_whole, down_capped}
use Rattle.lex_number.proofs.fast.plain_value.Goals as goal

pub returns-then-d-eq0 : goal.returns-then-d-eq0
returns-then-d-eq0 c = search says_zero

pub overflow_add-up : goal.overflow_add-up
overflow_add-up c = search up_fits

pub overflow_add-up-2 : goal.overflow_add-up-2
overflow_add-up-2 c = search up_fits_whole

pub overflow_add-down : goal.overflow_add-down
overflow_add-down c = search down_fits

pub overflow_add-down-2 : goal.overflow_add-down-2
overflow_add-down-2 c = search down_fits_whole

pub judged-requires-clause-fact_1 : goal.judged-requires-clause-fact_1
judged-requires-clause-fact_1 c = search up_capped

pub judged-requires-clause-fact_2 : goal.judged-requires-clause-fact_2
judged-requires-clause-fact_2 c = search down_capped

pub returns : goal.returns
returns c = search says_value
