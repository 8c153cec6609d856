-- `out_listing::record_line` meets its contract: each arm by the parts told apart so far.
-- Assumes nothing.
use mathlib.Core.Path.{◌≡◌}
use native.Mathlib.Omega.{arith}
use Rattle.out_listing.proofs.TextLaws.{model_listed, step_listed, map_listed, section_listed}
use Rattle.out_listing.proofs.record_line.Goals as goal

pub returns-in-0 : goal.returns-in-0
returns-in-0 c = search model_listed

pub returns-in-1 : goal.returns-in-1
returns-in-1 c =
    let not_0 : c.args.part ≡ 0 → ⊥ = omega arith in
    search step_listed

pub returns-in-2 : goal.returns-in-2
returns-in-2 c =
    let not_0 : c.args.part ≡ 0 → ⊥ = omega arith in
    let not_1 : c.args.part ≡ 1 → ⊥ = omega arith in
    search map_listed

pub returns-in_default : goal.returns-in_default
returns-in_default c = search section_listed
