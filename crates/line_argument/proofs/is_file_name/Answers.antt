-- `line_argument::is_file_name` meets its contract: each `return` by where the base ends and which byte stands there.
-- Assumes nothing.
use Prim.Native.Nat.{◌+◌, ◌≤◌}
use native.Mathlib.Omega.{arith}
use lib.ListN.{length}
use Rattle.line_argument.proofs.ArgumentLaws.{no_base, no_period, past_period, file_name_lem}
use borrow.Author.Rules.{rules}
use Rattle.line_argument.proofs.is_file_name.Goals as goal

pub returns-then-period-lt1 : goal.returns-then-period-lt1
returns-then-period-lt1 c = search no_base

pub returns-then-byte_at-ne46 : goal.returns-then-byte_at-ne46
returns-then-byte_at-ne46 c = search no_period

pub overflow_add-after : goal.overflow_add-after
overflow_add-after c = let h : c.skip-period.result + 1 ≤ length c.args.s.now = search past_period in omega arith

pub slice_bounds-is_extension-count : goal.slice_bounds-is_extension-count
slice_bounds-is_extension-count c = search past_period

pub slice_bounds-is_extension-start : goal.slice_bounds-is_extension-start
slice_bounds-is_extension-start c = search (rules, past_period)

pub returns : goal.returns
returns c = search file_name_lem
