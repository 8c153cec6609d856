use Rattle.base.specs.Bytes.{is_before}
use Rattle.base.proofs.class.BeforeByteClass.contains.Goals as goal

pub returns : goal.returns
unfolding is_before
returns c = cc
