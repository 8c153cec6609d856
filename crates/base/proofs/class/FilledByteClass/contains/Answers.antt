use Rattle.base.specs.Bytes.{is_filled}
use Rattle.base.proofs.class.FilledByteClass.contains.Goals as goal

pub returns : goal.returns
unfolding is_filled
returns c = cc
