use Rattle.base.specs.Bytes.{is_digit, within}
use Rattle.base.proofs.IfLaws.{both_and}
use Rattle.base.proofs.is_digit.Goals as goal

pub returns : goal.returns
unfolding is_digit within
returns c = rw both_and c.is_ascii_digit.ensures.value
