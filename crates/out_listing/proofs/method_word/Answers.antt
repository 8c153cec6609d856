-- `out_listing::method_word` meets its contract: each arm by the tests that led there.
-- Assumes nothing.
use mathlib.Core.Path.{◌≡◌}
use native.Mathlib.Omega.{arith}
use Rattle.base.proofs.IfLaws.{chain}
use Rattle.out_listing.specs.Listing.{method_text}
use Rattle.out_listing.proofs.method_word.Goals as goal

pub returns-in-0 : goal.returns-in-0
unfolding method_text
returns-in-0 c = search chain depth 12

pub returns-in-1 : goal.returns-in-1
unfolding method_text
returns-in-1 c =
    let not_0 : c.args.number ≡ 0 → ⊥ = omega arith in
    search chain depth 12

pub returns-in_default : goal.returns-in_default
unfolding method_text
returns-in_default c = search chain depth 12
