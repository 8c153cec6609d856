-- The pins of a map at the keyword that ends it, in both directions. It breaks no rule there exactly when it has at
-- least one pin and, if it is ordered, at most rows times columns pins. Without pins it breaks 9. It breaks 16 exactly
-- when it is ordered and has more than rows times columns pins.
-- Assumes nothing.
use mathlib.Core.Path.{◌≡◌, sym, ◌∙◌}
use mathlib.Core.Bool.{true, false}
use Prim.Native.Nat.{◌*◌, ◌≤◌, ◌<◌}
use native.Mathlib.Omega.{arith}
use borrow.Author.Tests.{lt-ltb, le-ltb, ltb-true, ltb-false, ne_eqb, eqb-false}
use Rattle.base.proofs.IfLaws.{by_cases, both_true, both_first, both_second, both_not_left, both_not_right, both_rest}
use Rattle.line_map.specs.declared.Map.{Map}
use Rattle.line_map.specs.PinMap.{is_ordered, pins_lack, is_wrong_grid}

-- positions of the grid may be empty, but not all, and no pin is outside it
pub record Fits (m : Map) : Type 0 where
  pub some : 1 ≤ m.pins
  pub few : is_ordered m ≡ true → m.pins ≤ m.rows * m.columns

pub fits_only : (m : Map) → pins_lack m ≡ false → is_wrong_grid m ≡ false → Fits m
unfolding pins_lack is_wrong_grid
fits_only m lack wrong =
    let n : m.pins ≡ 0 → ⊥ = eqb-false _ _ lack in
    record {
      some = omega arith;
      few = λ (o : is_ordered m ≡ true). ltb-false _ _ (sym (both_rest _ _ o) ∙ wrong);
    }

module _ (m : Map) (fits : Fits m) where
  pub fits_some : pins_lack m ≡ false
  unfolding pins_lack
  fits_some =
      let h : 1 ≤ m.pins = fits.some in
      ne_eqb _ _ (λ (z : m.pins ≡ 0). omega arith)

  pub fits_grid : is_wrong_grid m ≡ false
  unfolding is_wrong_grid
  fits_grid =
      by_cases _ (is_ordered m) (λ (o : is_ordered m ≡ true). both_not_right _ _ (le-ltb _ _ (fits.few o)))
      (λ (o : is_ordered m ≡ false). both_not_left _ _ o)

-- what it means to break 16
pub record Passes (m : Map) : Type 0 where
  pub ordered : is_ordered m ≡ true
  pub more : m.rows * m.columns < m.pins

pub passes_only : (m : Map) → is_wrong_grid m ≡ true → Passes m
unfolding is_wrong_grid
passes_only m wrong = record { ordered = both_first _ _ wrong; more = ltb-true _ _ (both_second _ _ wrong) }

pub passes_when : (m : Map) → Passes m → is_wrong_grid m ≡ true
unfolding is_wrong_grid
passes_when m passes = both_true _ _ passes.ordered (lt-ltb _ _ passes.more)
