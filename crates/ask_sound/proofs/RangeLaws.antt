-- Laws of ranges: the code compares a difference, as a sum might wrap.
-- Assumes nothing.
use mathlib.Core.Path.{◌≡◌, sym, ◌∙◌}
use mathlib.Core.Bool.{true, false}
use Prim.Native.Nat.{ℕ, ◌+◌, ◌-◌, ◌≤◌, ◌<◌}
use native.Mathlib.Omega.{arith}
use lib.Dec.{leb}
use borrow.Author.Tests.{le-leb, lt-leb, leb-true, leb-false}
use Rattle.base.proofs.IfLaws.{by_cases}
use Rattle.ask_sound.specs.Tests.{is_range}

module _ (first many all : ℕ) where
  pub range_short : all < many → false ≡ is_range first many all
  unfolding is_range
  range_short h =
      let k : all < first + many = omega arith in
      sym (lt-leb _ _ k)

  pub range_told : many ≤ all → leb first (all - many) ≡ is_range first many all
  unfolding is_range
  range_told h = by_cases _ (leb first (all - many)) inside outside
    where
      inside : leb first (all - many) ≡ true → leb first (all - many) ≡ leb (first + many) all
      inside e =
          let l : first ≤ all - many = leb-true first (all - many) e in
          let k : first + many ≤ all = omega arith in
          e ∙ sym (le-leb _ _ k)

      outside : leb first (all - many) ≡ false → leb first (all - many) ≡ leb (first + many) all
      outside e =
          let l : all - many < first = leb-false first (all - many) e in
          let k : all < first + many = omega arith in
          e ∙ sym (lt-leb _ _ k)

  -- a range that is inside ends inside
  pub range_inside : is_range first many all ≡ true → first + many ≤ all
  unfolding is_range
  range_inside e = leb-true (first + many) all e
