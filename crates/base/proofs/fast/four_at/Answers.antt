use Rattle.base.proofs.JoinedLaws.{four_joined}
use Rattle.base.proofs.fast.four_at.Goals as goal

pub returns-clause-joins : goal.returns-clause-joins
returns-clause-joins c = search four_joined
