-- `lex_number::fast::eight_value` meets its contract: ones make twos, twos fours, and fours the whole.
-- Assumes nothing.
use Rattle.lex_number.proofs.PairLaws.{eight_above, eight_ones_fit, eight_twos_fit, eight_fours_fit, eight_value_lem, eight_few}
use borrow.Author.Rules.{rules}
use Rattle.lex_number.proofs.fast.eight_value.Goals as goal

pub overflow_sub-ones : goal.overflow_sub-ones
overflow_sub-ones c = search (rules, eight_above)

pub paired-twos-requires-clause-fact_2 : goal.paired-twos-requires-clause-fact_2
paired-twos-requires-clause-fact_2 c = search (rules, eight_ones_fit)

pub paired-fours-requires-clause-fact_2 : goal.paired-fours-requires-clause-fact_2
paired-fours-requires-clause-fact_2 c = search (rules, eight_twos_fit)

pub paired-requires-clause-fact_2 : goal.paired-requires-clause-fact_2
paired-requires-clause-fact_2 c = search (rules, eight_fours_fit)

pub returns-clause-fact_1 : goal.returns-clause-fact_1
returns-clause-fact_1 c = search (rules, eight_value_lem)

pub returns-clause-fact_2 : goal.returns-clause-fact_2
returns-clause-fact_2 c = search (rules, eight_few)
