-- `read_matrix::pass_run` meets its contract. By the form.
-- Assumes nothing.
use Rattle.read_matrix.proofs.RunLaws.{run_none, runs_now}
use borrow.Author.Rules.{rules}
use Rattle.read_matrix.proofs.pass_run.Goals as goal

pub returns-then-not-is_ordered : goal.returns-then-not-is_ordered
returns-then-not-is_ordered c = search run_none

pub pass_pairs-requires : goal.pass_pairs-requires
pass_pairs-requires c = search (rules, runs_now)

pub pass_numbers-requires : goal.pass_numbers-requires
pass_numbers-requires c = search (rules, runs_now)
