-- `lex_number::judged` meets its contract: each `return` by the tests that led there.
-- Assumes nothing.
use Rattle.std.proofs.Common.{arith}
use Rattle.base.proofs.IfLaws.{ifs}
use Rattle.lex_number.specs.Number.{value_as}
use Rattle.lex_number.proofs.ValueLaws.{value_fails, value_stands}
use Rattle.lex_number.proofs.judged.Goals.{then-size-ge1000000000000000-via-then-size-ge1000000000000000, then-size-ge1000000000000000-via-else-size-ge1000000000000000+then-down-up, then-size-ge1000000000000000-via-else-size-ge1000000000000000+else-down-up+then-up-down}
use Rattle.lex_number.proofs.judged.Goals as goal

pub returns-then-size-eq0 : goal.returns-then-size-eq0
unfolding value_as
returns-then-size-eq0 c = search ifs

pub returns-then-size-ge1000000000000000 : goal.returns-then-size-ge1000000000000000
returns-then-size-ge1000000000000000 c =
    value_fails
    _
    _
    _
    _
    (omega arith)
    (elim c.then-size-ge1000000000000000.branch [
      | then-size-ge1000000000000000-via-then-size-ge1000000000000000 w ↦ omega arith
      | then-size-ge1000000000000000-via-else-size-ge1000000000000000+then-down-up w ↦ omega arith
      | then-size-ge1000000000000000-via-else-size-ge1000000000000000+else-down-up+then-up-down w ↦ omega arith
    ])

pub returns : goal.returns
returns c = search value_stands
