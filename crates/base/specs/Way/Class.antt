-- Where a run of bytes ends.
-- Assumes nothing.
use Rattle.std.specs.Prelude.{ℕ, ◌+◌, ◌-◌, ◌≡◌, ◌≤◌, Bool, List, length, drop}
use Rattle.base.specs.Runs.{run}

-- where the run that starts at `from` ends
abbrev pub run_end : (ℕ → Bool) → List ℕ → ℕ → ℕ
run_end p s from = from + run p (drop from s)

-- `rest` is the end of these bytes, and all bytes before it pass the test, so that the run goes on there
pub record RunsOn (p : ℕ → Bool) (s rest : List ℕ) : Type 0 where
  pub inside : length rest ≤ length s
  pub ends : rest ≡ drop (length s - length rest) s
  pub reaches : length s - length rest + run p rest ≡ run p s
