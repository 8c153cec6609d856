use Rattle.base.specs.Bytes.{is_content, is_before}
use Rattle.base.proofs.IfLaws.{ifs, both_rest}
use Rattle.base.proofs.class.ContentByteClass.contains.Goals as goal

pub returns-then-b-self : goal.returns-then-b-self
unfolding is_content is_before
returns-then-b-self c = search ifs

pub returns-then-b-ne10 : goal.returns-then-b-ne10
unfolding is_content is_before
returns-then-b-ne10 c = search (ifs, both_rest)

pub returns-else-b-ne10 : goal.returns-else-b-ne10
unfolding is_content is_before
returns-else-b-ne10 c = search ifs
