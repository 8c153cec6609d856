-- Laws of the letters that scale a number: what each of the nine gives, that any other byte gives nothing, and that the
-- search of the code finds what the definition finds.
-- Assumes nothing.
use mathlib.Core.Path.{◌≡◌, refl, sym, ◌∙◌, ap}
use mathlib.Core.Bool.{Bool, true, false, not, true≢false}
use mathlib.Core.List.{List, [], ◌∷◌, map}
use Prim.Native.Nat.{ℕ, zero, suc, ◌-◌, ◌≤◌, ◌<◌}
use native.Mathlib.Omega.{arith}
use lib.IntN.{ℤ, pos, negsuc, neg_ℤ, nat_abs, ◌-ℤ◌, +ℤ_idl}
use lib.Signed.{mag, lt_z, non_neg}
use lib.ListN.{length, drop, get_or}
use lib.Seq.{drop-cons}
use lib.Dec.{T, eqb, ltb}
use mir.Syntax.{w8, w64}
use mir.Val.{Fits, SFits, to_z, of_z}
use mir.Facts.{Fits-nat_abs, to_z-of_z}
use borrow.Author.Tests.{eq-eqb, ne_eqb, ltb-true}
use Rattle.base.specs.If.{provided◌then◌else◌, both}
use Rattle.base.specs.Bytes.{bytes}
use Rattle.base.specs.Runs.{all}
use Rattle.base.proofs.IfLaws.{if_true, if_false, by_test, both_first, both_second}
use Rattle.lex_number.specs.declared.Scaling.{Scaling}
use Rattle.lex_number.specs.declared.Scale.{Scale}
use Rattle.lex_number.specs.Number.{scalings, power_in, above_zero, scale_by, scale_of}

-- ---- what the letters give

abbrev up : ℕ → Scale
up n = record { up = n; down = 0 }

abbrev down : ℕ → Scale
down n = record { up = 0; down = n }

abbrev nothing : Scale
nothing = record { up = 0; down = 0 }

-- each of the nine
pub nine_give :
    map scale_of (bytes "TGMkmunpf")
    ≡ up 12 ∷ up 9 ∷ up 6 ∷ up 3 ∷ down 3 ∷ down 6 ∷ down 9 ∷ down 12 ∷ down 15 ∷ []
unfolding provided◌then◌else◌ power_in scale_by scale_of
nine_give = refl

abbrev letters : List Scaling → List ℕ
letters l = map (λ (s : Scaling). s.0) l

-- a byte outside a class that includes all letters of a list has the power 0
outside : (class : ℕ → Bool) (b : ℕ) (l : List Scaling) → all class (letters l) ≡ true → class b ≡ false → power_in l b ≡ pos 0
unfolding all power_in
outside class b [] e out = refl
outside class b (s ∷ l) e out =
    if_false _ _ (ne_eqb b s.0 (λ (h : b ≡ s.0). true≢false (sym (both_first _ _ e) ∙ ap class (sym h) ∙ out)))
    ∙ outside class b l (both_second _ _ e) out

pub outside_gives_nothing : (class : ℕ → Bool) (b : ℕ) → all class (bytes "TGMkmunpf") ≡ true → class b ≡ false → scale_of b ≡ nothing
unfolding scale_by scale_of
outside_gives_nothing class b e out = ap scale_by (outside class b scalings e out)

-- "any other letter by nothing"
pub others_give_nothing : (b : ℕ) → all (λ (c : ℕ). not (eqb b c)) (bytes "TGMkmunpf") ≡ true → scale_of b ≡ nothing
others_give_nothing b e = outside_gives_nothing (λ (c : ℕ). not (eqb b c)) b e (ap not (eq-eqb b b refl))

-- ---- no letter scales by more than 15

-- every power of a list is from -15 to 14
unfoldable little : List Scaling → Bool
little [] = true
little (s ∷ l) = both (ltb (mag s.1) 15) (little l)

little_in : (l : List Scaling) (b : ℕ) → little l ≡ true → mag (power_in l b) < 15
unfolding little power_in
little_in [] b e = omega arith
little_in (s ∷ l) b e =
    by_test (λ (z : ℤ). mag z < 15) (eqb b s.0) s.1 (power_in l b)
    (λ h. ltb-true _ _ (both_first _ _ e))
    (λ h. little_in l b (both_second _ _ e))

power_little : (b : ℕ) → mag (power_in scalings b) < 15
unfolding little both
power_little b = little_in scalings b refl

negated_little : (z : ℤ) → mag z < 15 → mag (neg_ℤ z) < 16
negated_little (pos zero) h = omega arith
negated_little (pos (suc n)) h = omega arith
negated_little (negsuc n) h = omega arith

above_little : (z : ℤ) → mag z < 16 → above_zero z ≤ 15
above_little (pos n) h = omega arith
above_little (negsuc n) h = omega arith

pub scale_up : (c : Scale) (b : ℕ) → c ≡ scale_of b → c.up ≤ 15
unfolding scale_by scale_of
scale_up c b e =
    let h : mag (power_in scalings b) < 15 = power_little b in
    rw e (above_little (power_in scalings b) (omega arith))

pub scale_down : (c : Scale) (b : ℕ) → c ≡ scale_of b → c.down ≤ 15
unfolding scale_by scale_of
scale_down c b e = rw e (above_little (neg_ℤ (power_in scalings b)) (negated_little (power_in scalings b) (power_little b)))

-- such a power fits eight bits
power_fits : (b : ℕ) → SFits w8 (power_in scalings b)
power_fits b =
    let h : mag (power_in scalings b) < 15 = power_little b in
    record { sfits = omega arith }

-- what is read past the end of the table
abbrev past : Scaling
past = (0, pos 0)

-- the power by the entries from i on: that of entry i if it has the letter, else that by the later entries
power_from : (l : List Scaling) (i b : ℕ) → i < length l → power_in (drop i l) b ≡ (provided eqb b (get_or l i past).0 then (get_or l i past).1 else power_in (drop (suc i) l) b)
unfolding power_in
power_from l i b h = rw (drop-cons l i past h) refl

module _ (i b : ℕ) (some : 0 < i) (within : i ≤ 9) where
  pub search_found : b ≡ (get_or scalings (i - 1) past).0 → (get_or scalings (i - 1) past).1 ≡ power_in (drop (i - 1) scalings) b
  search_found same = sym (power_from scalings (i - 1) b (omega arith) ∙ if_true _ _ (eq-eqb b (get_or scalings (i - 1) past).0 same))

  pub search_other : (power : ℤ) → (b ≡ (get_or scalings (i - 1) past).0 → ⊥) → power ≡ power_in (drop i scalings) b → power ≡ power_in (drop (i - 1) scalings) b
  search_other power other inv =
      let next : i ≡ suc (i - 1) = omega arith in
      inv
      ∙ ap (λ (k : ℕ). power_in (drop k scalings) b) next
      ∙ sym (power_from scalings (i - 1) b (omega arith) ∙ if_false _ _ (ne_eqb b (get_or scalings (i - 1) past).0 other))

pub search_done : (i b : ℕ) (power : ℤ) → i ≤ 0 → power ≡ power_in (drop i scalings) b → power ≡ power_in scalings b
search_done i b power done inv =
    let e : i ≡ 0 = omega arith in
    rw e at inv

-- ---- by how much a power is above zero

not_above_at : (z : ℤ) → lt_z z (pos 0) ≡ true → 0 ≡ above_zero z
not_above_at (pos n) e =
    let h : n < 0 = ltb-true n 0 e in
    omega arith
not_above_at (negsuc n) e = refl

above_at : (z : ℤ) → lt_z z (pos 0) ≡ false → T (non_neg z) × (nat_abs z ≡ above_zero z)
above_at (pos n) e = (tt, refl)
above_at (negsuc n) e = absurd (true≢false e)

-- ---- by how much a letter raises and lowers

module _ (b : ℕ) (power : ℤ) (told : power ≡ power_in scalings b) where
  read_back : to_z w8 (of_z w8 power) ≡ power_in scalings b
  read_back = rw told (to_z-of_z (power_fits b))

  from_zero : pos 0 -ℤ to_z w8 (of_z w8 power) ≡ neg_ℤ (power_in scalings b)
  from_zero = rw read_back (+ℤ_idl (neg_ℤ (power_in scalings b)))

  pub negated_fits : SFits w8 (pos 0 -ℤ to_z w8 (of_z w8 power))
  negated_fits =
      let h : mag (neg_ℤ (power_in scalings b)) < 16 = negated_little (power_in scalings b) (power_little b) in
      let k : SFits w8 (neg_ℤ (power_in scalings b)) = record { sfits = omega arith } in
      rw from_zero k

  pub scale_told : (up down : ℕ) → up ≡ above_zero (to_z w8 (of_z w8 power)) → down ≡ above_zero (to_z w8 (of_z w8 (pos 0 -ℤ to_z w8 (of_z w8 power)))) → record { up = up; down = down } ≡ scale_of b
  unfolding scale_of scale_by
  scale_told up down raises lowers =
      let e : up ≡ above_zero (power_in scalings b) = raises ∙ ap above_zero read_back in
      let f : down ≡ above_zero (neg_ℤ (power_in scalings b)) = lowers ∙ ap above_zero (to_z-of_z negated_fits ∙ from_zero) in
      rw (e, f) refl
