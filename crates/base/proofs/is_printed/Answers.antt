use Rattle.base.specs.Bytes.{is_printed, within}
use Rattle.base.proofs.IfLaws.{ifs, both_rest, either_comes}
use Rattle.base.proofs.is_printed.Goals as goal

pub returns-then-b-eq9 : goal.returns-then-b-eq9
unfolding is_printed within
returns-then-b-eq9 c = search ifs

pub returns-then-b-ge32 : goal.returns-then-b-ge32
unfolding is_printed within
returns-then-b-ge32 c = search (ifs, both_rest, either_comes)

pub returns-else-b-ge32 : goal.returns-else-b-ge32
unfolding is_printed within
returns-else-b-ge32 c = search ifs
