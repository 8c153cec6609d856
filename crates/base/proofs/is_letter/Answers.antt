use Rattle.base.specs.Bytes.{is_letter, is_capital, is_small, within}
use Rattle.base.proofs.IfLaws.{both_and, either_or}
use Rattle.base.proofs.is_letter.Goals as goal

pub returns : goal.returns
unfolding is_letter is_capital is_small within
returns c = rw (either_or, both_and, both_and) c.is_ascii_alphabetic.ensures.value
