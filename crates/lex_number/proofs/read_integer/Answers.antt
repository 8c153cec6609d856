-- `lex_number::read_integer` meets its contract: each result by the tests that led there.
-- Assumes nothing.
use Rattle.std.proofs.Common.{arith}
use Rattle.lex_number.proofs.IntegerLaws.{integer_fails, integer_empty, some_bytes, integer_other, integer_told, integer_value, whole_is, whole_not}
use Rattle.lex_number.proofs.read_integer.Goals.{then-is_empty-via-then-is_empty, then-is_empty-via-else-is_empty+then-s-gt9}
use Rattle.lex_number.proofs.read_integer.Goals as goal

pub returns-then-is_empty : goal.returns-then-is_empty
returns-then-is_empty c =
    whole_not
    _
    (elim c.then-is_empty.branch [
      | then-is_empty-via-then-is_empty w ↦ integer_empty _ _ c.is_empty.ensures w.if-is_empty.true
      | then-is_empty-via-else-is_empty+then-s-gt9 w ↦ integer_fails _ (omega arith)
    ])

pub returns-then-x-s : goal.returns-then-x-s
returns-then-x-s c = search (whole_is, integer_told, integer_value, some_bytes)

pub returns-else-x-s : goal.returns-else-x-s
returns-else-x-s c = search (whole_not, integer_other)
