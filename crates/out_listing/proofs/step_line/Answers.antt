-- `out_listing::step_line` meets its contract: each arm by the kinds told apart so far.
-- Assumes nothing.
use mathlib.Core.Path.{◌≡◌}
use native.Mathlib.Omega.{arith}
use Rattle.base.proofs.IfLaws.{tests}
use Rattle.out_listing.specs.Listing.{listed_step}
use Rattle.out_listing.proofs.TextLaws.{line_yes, line_no}
use Rattle.out_listing.proofs.step_line.Goals as goal

pub returns-in-0 : goal.returns-in-0
unfolding listed_step
returns-in-0 c = search (line_yes, line_no, tests) depth 12

pub returns-in-1 : goal.returns-in-1
unfolding listed_step
returns-in-1 c =
    let not_0 : c.args.step.kind ≡ 0 → ⊥ = omega arith in
    search (line_yes, line_no, tests) depth 12

pub returns-in-2 : goal.returns-in-2
unfolding listed_step
returns-in-2 c =
    let not_0 : c.args.step.kind ≡ 0 → ⊥ = omega arith in
    let not_1 : c.args.step.kind ≡ 1 → ⊥ = omega arith in
    search (line_yes, line_no, tests) depth 12

pub returns-in_default : goal.returns-in_default
unfolding listed_step
returns-in_default c = search (line_yes, line_no, tests) depth 12
