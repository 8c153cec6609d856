-- `lex_number::fast::read_run` meets its contract: each goal by a law of the loop.
-- Assumes nothing.
use borrow.Author.Rules.{rules}
use Rattle.lex_number.proofs.SizeLaws.{told_from, told_to}
use Rattle.lex_number.proofs.PlainLaws.{runs_start, read_stop, read_end, run_times, run_digit, run_lighter, runs_on}
use Rattle.lex_number.proofs.fast.read_run.Goals as goal

pub loop-i-init : goal.loop-i-init
loop-i-init c = search (rules, runs_start)

pub returns-then-not-is_digit : goal.returns-then-not-is_digit
returns-then-not-is_digit c = search read_stop

pub overflow_sub-value : goal.overflow_sub-value
overflow_sub-value c = search told_from

pub overflow_mul-value : goal.overflow_mul-value
overflow_mul-value c = search run_times

pub overflow_add-value : goal.overflow_add-value
overflow_add-value c = search (run_digit, told_to)

pub loop-i-preserved : goal.loop-i-preserved
loop-i-preserved c = (search rules, search rules, search rules, search (run_lighter, told_to), search runs_on)

pub returns : goal.returns
returns c = search read_end
