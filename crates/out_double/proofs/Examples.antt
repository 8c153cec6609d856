-- Words of hosts/vectors/doubles.txt, whose bits were computed apart from this project. The definition computes the same.
-- Assumes nothing.
use mathlib.Core.Path.{◌≡◌, refl}
use mathlib.Core.List.{List, [], ◌∷◌, map}
use Prim.Native.Nat.{ℕ}
use lib.Ieee.{binary64, round, of_int, to_bits, mul, div, neg}
use Rattle.std.proofs.Common.{Float, Option, Some, None}
use Rattle.base.specs.If.{both, either, provided◌then◌else◌}
use Rattle.base.specs.Bytes.{within}
use Rattle.lex_number.specs.ValueWord.{decimal_of, is_decimal, is_value_word}
use Rattle.out_double.specs.Double.{as_double, scaled, signed, double, is_drawn, drawn_of}

-- the bits of a double; none where nothing is drawn
abbrev bits : Option Float → List ℕ
bits (Some x) = to_bits binary64 x ∷ []
bits None = []

-- 0e0, 45e-10, -45e-10, 1e22, 1e-22, 999999999999999e0, 999999999999999e22, -999999999999999e-22, 5e15, 9e15
drawn :
    map (λ (w : ℕ). bits (drawn_of w)) (128 ∷ 11628 ∷ 11629 ∷ 428 ∷ 340 ∷ 255999999999999872 ∷ 255999999999999916 ∷ 255999999999999829 ∷ 1438 ∷ 2462 ∷ [])
    ≡ (0x0000000000000000 ∷ [])
    ∷ (0x3e3353cd652bb167 ∷ [])
    ∷ (0xbe3353cd652bb167 ∷ [])
    ∷ (0x4480f0cf064dd592 ∷ [])
    ∷ (0x3b5e392010175ee6 ∷ [])
    ∷ (0x430c6bf52633fff8 ∷ [])
    ∷ (0x479e17b843576913 ∷ [])
    ∷ (0xbe7ad7f29abcaf41 ∷ [])
    ∷ (0x4331c37937e08000 ∷ [])
    ∷ (0x433ff973cafa8000 ∷ [])
    ∷ []
unfolding drawn_of is_drawn is_value_word is_decimal decimal_of within double scaled signed as_double both either provided◌then◌else◌ of_int to_bits mul div neg round
drawn = refl

-- 1e23 and 1e-23, a zero with a sign, zeros and a one with k -64, 10e0, an m of 16 digits, the greatest word
outside :
    map drawn_of (430 ∷ 338 ∷ 129 ∷ 0 ∷ 1 ∷ 256 ∷ 2688 ∷ 2305843009213694080 ∷ 18446744073709551615 ∷ [])
    ≡ None ∷ None ∷ None ∷ None ∷ None ∷ None ∷ None ∷ None ∷ None ∷ []
unfolding drawn_of is_drawn is_value_word is_decimal decimal_of within both either provided◌then◌else◌
outside = refl
