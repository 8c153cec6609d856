use Rattle.base.specs.Bytes.{is_blank}
use Rattle.base.proofs.IfLaws.{ifs, either_rest}
use Rattle.base.proofs.is_blank.Goals as goal

pub returns-then-b-eq32 : goal.returns-then-b-eq32
unfolding is_blank
returns-then-b-eq32 c = search ifs

pub returns-else-b-eq32 : goal.returns-else-b-eq32
unfolding is_blank
returns-else-b-eq32 c = search (ifs, either_rest)
