use Rattle.base.proofs.JoinedLaws.{eight_joined}
use Rattle.base.proofs.fast.eight_at.Goals as goal

pub returns : goal.returns
returns c = search eight_joined
