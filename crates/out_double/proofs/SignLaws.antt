-- A double with a sign: it is rounded, has its value and fits as without the sign.
-- Assumes nothing.
use mathlib.Core.Path.{◌≡◌, refl, sym, ap, ◌∙◌}
use mathlib.Core.Bool.{Bool, true, false, not, cond}
use Prim.Native.Nat.{ℕ, zero, suc, ◌+◌, ◌*◌, ◌^◌}
use lib.Dec.{T, ltb}
use lib.Ieee.{Float, nan, inf, fin, Format, binary64, prec, emax, low, odd, units, round, neg, fits}
use lib.Ieee.Exact.{HasValue}
use lib.Ieee.Fits.{neg-fits, round_is}
use Rattle.out_double.specs.Double.{signed}
use Rattle.base.specs.If.{provided◌then◌else◌}

neg_odd : (d q k l : ℕ) → neg (odd d false q k l) ≡ odd d true q k l
unfolding neg odd
neg_odd d zero k l = refl
neg_odd d (suc q) k l = refl

neg_units : (f : Format) (q k : ℕ) → neg (units f false q k) ≡ units f true q k
unfolding neg units
neg_units f q k = go (ltb (q * 2 ^ k) (2 ^ (low f + suc (emax f))))
  where
    go : (b : Bool) → neg (cond b (odd (suc (prec f)) false q k (low f)) (inf false)) ≡ cond b (odd (suc (prec f)) true q k (low f)) (inf true)
    go true = neg_odd (suc (prec f)) q k (low f)
    go false = refl

neg_round : (f : Format) (a c : ℕ) → neg (round f false a c) ≡ round f true a c
neg_round f a c = ap neg (round_is f false a c) ∙ neg_units f _ _ ∙ sym (round_is f true a c)

neg_value : (x : Float) (a c : ℕ) → HasValue x false a c → HasValue (neg x) true a c
unfolding neg
neg_value nan a c h = h
neg_value (inf s) a c h = h
neg_value (fin s m e) a c h = (ap not h.0, h.1)

-- a negative number is rounded as its absolute value is
pub signed_round : (s : Bool) (a c : ℕ) → signed s (round binary64 false a c) ≡ round binary64 s a c
unfolding signed provided◌then◌else◌
signed_round true a c = neg_round binary64 a c
signed_round false a c = refl

pub signed_value : (s : Bool) (x : Float) (a c : ℕ) → HasValue x false a c → HasValue (signed s x) s a c
unfolding signed provided◌then◌else◌
signed_value true x a c h = neg_value x a c h
signed_value false x a c h = h

pub signed_fits : (s : Bool) (x : Float) → T (fits binary64 x) → T (fits binary64 (signed s x))
unfolding signed provided◌then◌else◌
signed_fits true x h = neg-fits binary64 x h
signed_fits false x h = h
