-- `table_name::fast::ends_otherwise` meets its contract: if the last bytes differ, the name is not there, whatever its
-- length.
-- Assumes nothing.
use mathlib.Core.Path.{sym}
use mathlib.Core.Bool.{true≢false}
use Rattle.table_name.proofs.TailLaws.{other_last, other_tail}
use Rattle.table_name.proofs.fast.ends_otherwise.Goals as goal

pub returns-then-text-long : goal.returns-then-text-long
returns-then-text-long c = λ e. absurd (true≢false (sym e))

pub returns-then-text-long-2 : goal.returns-then-text-long-2
returns-then-text-long-2 c = λ e. absurd (true≢false (sym e))

pub returns-then-long-ge-TAIL : goal.returns-then-long-ge-TAIL
returns-then-long-ge-TAIL c = search other_tail

pub returns-then-long-lt1 : goal.returns-then-long-lt1
returns-then-long-lt1 c = λ e. absurd (true≢false (sym e))

pub returns : goal.returns
returns c = search other_last
