-- `out_listing::type_word` meets its contract: each arm by the tests that led there.
-- Assumes nothing.
use mathlib.Core.Path.{◌≡◌}
use native.Mathlib.Omega.{arith}
use Rattle.base.proofs.IfLaws.{chain}
use Rattle.out_listing.specs.Listing.{type_text}
use Rattle.out_listing.proofs.type_word.Goals as goal

pub returns-in-0 : goal.returns-in-0
unfolding type_text
returns-in-0 c = search chain depth 12

pub returns-in-1 : goal.returns-in-1
unfolding type_text
returns-in-1 c =
    let not_0 : c.args.number ≡ 0 → ⊥ = omega arith in
    search chain depth 12

pub returns-in-2 : goal.returns-in-2
unfolding type_text
returns-in-2 c =
    let not_0 : c.args.number ≡ 0 → ⊥ = omega arith in
    let not_1 : c.args.number ≡ 1 → ⊥ = omega arith in
    search chain depth 12

pub returns-in_default : goal.returns-in_default
unfolding type_text
returns-in_default c = search chain depth 12
