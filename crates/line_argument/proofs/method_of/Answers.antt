-- `line_argument::method_of` meets its contract: each `return` by the words compared so far.
-- Assumes nothing.
use Rattle.base.proofs.IfLaws.{chain}
use Rattle.line_argument.specs.Argument.{method_of}
use Rattle.line_argument.proofs.method_of.Goals as goal

pub returns-then-same_bytes : goal.returns-then-same_bytes
unfolding method_of
returns-then-same_bytes c = search chain depth 12

pub returns-then-same_bytes-2 : goal.returns-then-same_bytes-2
unfolding method_of
returns-then-same_bytes-2 c = search chain depth 12

pub returns : goal.returns
unfolding method_of
returns c = search chain depth 12
