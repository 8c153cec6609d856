-- `line_head::kind_of` meets its contract: each `return` by the words compared so far.
-- Assumes nothing.
use Rattle.base.proofs.IfLaws.{chain}
use Rattle.line_head.specs.Head.{model_type_of}
use Rattle.line_head.proofs.kind_of.Goals as goal

pub returns-then-same_bytes : goal.returns-then-same_bytes
unfolding model_type_of
returns-then-same_bytes c = search chain depth 12

pub returns-then-same_bytes-2 : goal.returns-then-same_bytes-2
unfolding model_type_of
returns-then-same_bytes-2 c = search chain depth 12

pub returns-then-same_bytes-3 : goal.returns-then-same_bytes-3
unfolding model_type_of
returns-then-same_bytes-3 c = search chain depth 12

pub returns : goal.returns
unfolding model_type_of
returns c = search chain depth 12
