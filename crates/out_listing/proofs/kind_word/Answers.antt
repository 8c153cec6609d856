-- `out_listing::kind_word` meets its contract: each arm by the tests that led there.
-- Assumes nothing.
use mathlib.Core.Path.{◌≡◌}
use native.Mathlib.Omega.{arith}
use Rattle.base.proofs.IfLaws.{chain}
use Rattle.out_listing.specs.Listing.{kind_text}
use Rattle.out_listing.proofs.kind_word.Goals as goal

pub returns-in-0 : goal.returns-in-0
unfolding kind_text
returns-in-0 c = search chain depth 12

pub returns-in-1 : goal.returns-in-1
unfolding kind_text
returns-in-1 c =
    let not_0 : c.args.kind ≡ 0 → ⊥ = omega arith in
    search chain depth 12

pub returns-in-2 : goal.returns-in-2
unfolding kind_text
returns-in-2 c =
    let not_0 : c.args.kind ≡ 0 → ⊥ = omega arith in
    let not_1 : c.args.kind ≡ 1 → ⊥ = omega arith in
    search chain depth 12

pub returns-in-3 : goal.returns-in-3
unfolding kind_text
returns-in-3 c =
    let not_0 : c.args.kind ≡ 0 → ⊥ = omega arith in
    let not_1 : c.args.kind ≡ 1 → ⊥ = omega arith in
    let not_2 : c.args.kind ≡ 2 → ⊥ = omega arith in
    search chain depth 12

pub returns-in_default : goal.returns-in_default
unfolding kind_text
returns-in_default c = search chain depth 12
