-- `line_path::saying_of` meets its contract: each `return` by the words compared so far.
-- Assumes nothing.
use Rattle.base.proofs.IfLaws.{chain}
use Rattle.line_path.specs.Path.{saying_of}
use Rattle.line_path.proofs.saying_of.Goals as goal

pub returns-then-same_bytes : goal.returns-then-same_bytes
unfolding saying_of
returns-then-same_bytes c = search chain depth 12

pub returns-then-same_bytes-2 : goal.returns-then-same_bytes-2
unfolding saying_of
returns-then-same_bytes-2 c = search chain depth 12

pub returns-then-same_bytes-3 : goal.returns-then-same_bytes-3
unfolding saying_of
returns-then-same_bytes-3 c = search chain depth 12

pub returns-then-same_bytes-4 : goal.returns-then-same_bytes-4
unfolding saying_of
returns-then-same_bytes-4 c = search chain depth 12

pub returns-then-same_bytes-5 : goal.returns-then-same_bytes-5
unfolding saying_of
returns-then-same_bytes-5 c = search chain depth 12

pub returns : goal.returns
unfolding saying_of
returns c = search chain depth 12
