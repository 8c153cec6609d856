-- What the code computes in place of the exact definitions: numbers too great to matter are capped, so that they fit a
-- word of 64 bits. `proofs/CappedLaws` and `proofs/ReadLaws` show that this changes no answer.
-- Assumes nothing.
use Rattle.std.specs.Prelude.{ℕ, ◌+◌, ◌≤◌, ◌<◌, min, Bool, List, take, drop}
use Rattle.base.specs.If.{provided◌then◌else◌}
use Rattle.base.specs.Bytes.{is_digit}
use Rattle.base.specs.Runs.{run}
use Rattle.lex_number.specs.Integer.{value_of}
use Rattle.lex_number.specs.declared.Digits.{Digits}
use Rattle.lex_number.specs.declared.Exponent.{Exponent}
use Rattle.lex_number.specs.declared.Scale.{Scale}

-- the least number with more digits than m may have, which is 15
abbrev pub size_cap : ℕ
size_cap = 1_000_000_000_000_000

-- an exponent of this size is out of range whatever the digits: a slice has fewer than 2 ^ 63 bytes to offset it
abbrev pub exponent_cap : ℕ
exponent_cap = 10_000_000_000_000_000_000

-- more bytes than any slice has
abbrev pub count_cap : ℕ
count_cap = 9_223_372_036_854_775_808

unfoldable pub capped_digits : Digits → Digits
capped_digits d =
    record {
      all = min d.all size_cap;
      size = min d.size size_cap;
      zeros = d.zeros;
      fraction = d.fraction;
      some = d.some;
      point = d.point;
      end = d.end;
    }

unfoldable pub capped_exponent : Exponent → Exponent
capped_exponent x = record { size = min x.size exponent_cap; negative = x.negative; end = x.end }

-- the run of digits at `digits`, read as an exponent with the given sign
unfoldable pub size_at : List ℕ → ℕ → Bool → Exponent
size_at s digits negative =
    record {
      size = value_of 0 (take (run is_digit (drop digits s)) (drop digits s));
      negative = negative;
      end = digits + run is_digit (drop digits s);
    }

-- what the exponent adds to the power of ten, and what it subtracts
unfoldable pub raising : Exponent → ℕ
raising x = provided x.negative then 0 else x.size

unfoldable pub lowering : Exponent → ℕ
lowering x = provided x.negative then x.size else 0

-- digits whose numbers are capped, and whose counts are at most the position where they end
pub record CutDigits (d : Digits) : Type 0 where
  pub all_cut : d.all ≤ size_cap
  pub size_cut : d.size ≤ size_cap
  pub zeros_within : d.zeros ≤ d.end
  pub fraction_within : d.fraction ≤ d.end

-- what the reader passes on: numbers and counts so small that every sum of them fits
pub record BoundedNumber (d : Digits) (x : Exponent) (c : Scale) : Type 0 where
  pub size_cut : d.size ≤ size_cap
  pub zeros_below : d.zeros < count_cap
  pub fraction_below : d.fraction < count_cap
  pub exponent_cut : x.size ≤ exponent_cap
  pub up_small : c.up ≤ 15
  pub down_small : c.down ≤ 15
