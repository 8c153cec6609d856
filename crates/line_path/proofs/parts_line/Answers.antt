-- `line_path::parts_line` meets its contract: each `return` by what the calls before it answered.
-- Assumes nothing.
use Rattle.lex_line.proofs.WordLaws.{second_within}
use native.Mathlib.Omega.{arith}
use Rattle.lex_line.proofs.FormLaws.{marks}
use Rattle.line_path.proofs.SectionLaws.{second_starts, parts_before, parts_after, parts_reserved, parts_right}
use borrow.Author.Rules.{rules}
use Rattle.line_path.proofs.parts_line.Goals as goal

pub returns-then-before-ne2 : goal.returns-then-before-ne2
returns-then-before-ne2 c = search parts_before

pub returns-then-after-ne2 : goal.returns-then-after-ne2
returns-then-after-ne2 c = search parts_after

pub marked-requires : goal.marked-requires
marked-requires c = search (rules, marks)

pub returns-then-is_reserved : goal.returns-then-is_reserved
returns-then-is_reserved c = search parts_reserved

pub marked-requires-2 : goal.marked-requires-2
marked-requires-2 c = search (rules, marks)

pub marked-requires-3 : goal.marked-requires-3
marked-requires-3 c = search (rules, marks)

pub overflow_add-from : goal.overflow_add-from
overflow_add-from c = omega (arith, second_starts)

pub overflow_add-from-2 : goal.overflow_add-from-2
overflow_add-from-2 c = omega (arith, second_within)

pub returns : goal.returns
returns c = search parts_right
