-- `lex_number::fast::four_value` meets its contract: ones make twos, and twos the whole.
-- Assumes nothing.
use Rattle.lex_number.proofs.PairLaws.{four_above, four_twos_fit, four_value_lem, four_few}
use borrow.Author.Rules.{rules}
use Rattle.lex_number.proofs.fast.four_value.Goals as goal

pub overflow_sub-ones : goal.overflow_sub-ones
overflow_sub-ones c = search (rules, four_above)

pub paired-requires-clause-fact_2 : goal.paired-requires-clause-fact_2
paired-requires-clause-fact_2 c = search (rules, four_twos_fit)

pub returns-clause-fact_1 : goal.returns-clause-fact_1
returns-clause-fact_1 c = search (rules, four_value_lem)

pub returns-clause-fact_2 : goal.returns-clause-fact_2
returns-clause-fact_2 c = search (rules, four_few)
