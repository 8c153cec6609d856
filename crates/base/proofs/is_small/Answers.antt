use Rattle.base.specs.Bytes.{is_small, within}
use Rattle.base.proofs.IfLaws.{both_and}
use Rattle.base.proofs.is_small.Goals as goal

pub returns : goal.returns
unfolding is_small within
returns c = rw both_and c.is_ascii_lowercase.ensures.value
