-- `lex_number::read_number` meets its contract: what is read, cut, has the value of the exact definition.
-- Assumes nothing.
use Rattle.lex_number.proofs.ReadLaws.{sign_within, number_within, number_bounded, number_malformed, number_value}
use Rattle.std.proofs.Common.{arith}
use borrow.Author.Rules.{rules}
use Rattle.lex_number.proofs.read_number.Goals as goal

pub read_digits-d-requires : goal.read_digits-d-requires
read_digits-d-requires c = rw c.past_sign.ensures (sign_within _ _ (omega arith))

pub well_formed-requires : goal.well_formed-requires
well_formed-requires c = search (rules, number_within)

pub returns-then-not-well_formed : goal.returns-then-not-well_formed
returns-then-not-well_formed c = search number_malformed

pub value_of-requires : goal.value_of-requires
value_of-requires c = search (rules, number_bounded)

pub returns : goal.returns
returns c = search number_value
