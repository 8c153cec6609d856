-- `lex_number::value_word` meets its contract: the flag as a number.
-- Assumes nothing.
use Rattle.std.proofs.Common.{◌+◌, ◌*◌, ◌∙◌, ap}
use Rattle.lex_number.proofs.FlagLaws.{flag_is}
use Rattle.lex_number.specs.ValueWord.{value_word}
use Rattle.lex_number.proofs.value_word.Goals as goal

pub returns : goal.returns
unfolding value_word
returns c = ap (λ n. 256 * c.args.size + 2 * c.args.shifted + n) (c.from.ensures ∙ flag_is c.args.negative)
