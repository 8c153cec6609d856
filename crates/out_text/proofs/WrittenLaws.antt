-- Laws of what is written into lent room: writing one piece after another writes the pieces joined; and the
-- invariant of a loop that writes.
-- Assumes nothing.
use mathlib.Core.Path.{◌≡◌, refl, sym, ◌∙◌, ap}
use mathlib.Core.Bool.{true, false}
use mathlib.Core.List.{List, [], ◌∷◌, ◌++◌}
use Prim.Native.Nat.{ℕ, suc, ◌+◌, ◌-◌, ◌≤◌, ◌<◌, min}
use native.Mathlib.Nat.{min-eq_left, le_of_lt}
use native.Mathlib.Numerals.{add-one}
use native.Mathlib.Omega.{arith}
use lib.ListN.{take, length, drop, get_or, set, length-append, length-take, take-append-drop}
use lib.Seq.{sets-eq, take-append_seam, take_all, take-suc, sets, length-sets, set_out}
use lib.Dec.{leb}
use borrow.Author.Tests.{leb-true, leb-false}
use Rattle.base.proofs.IfLaws.{by_cases}
use Rattle.out_text.specs.Written.{Written}
use Rattle.base.proofs.StoreLaws.{sets_append}

-- ---- runs of stores

-- past the end nothing is stored
sets_out : (l : List ℕ) (at : ℕ) (xs : List ℕ) → length l ≤ at → sets l at xs ≡ l
sets_out l at [] h = refl
sets_out l at (x ∷ xs) h =
    let e : set l at x ≡ l = set_out l at x h in
    let k : length l ≤ suc at = omega arith in
    rw e (sets_out l (suc at) xs k)

-- so any offset past the end may be replaced by the end
sets_cut : (l : List ℕ) (at : ℕ) (xs : List ℕ) → sets l (min at (length l)) xs ≡ sets l at xs
sets_cut l at xs =
    by_cases _ (leb at (length l))
    (λ (e : leb at (length l) ≡ true). ap (λ (k : ℕ). sets l k xs) (min-eq_left (leb-true at (length l) e)))
    (λ (e : leb at (length l) ≡ false). beyond (leb-false at (length l) e))
  where
    beyond : length l < at → sets l (min at (length l)) xs ≡ sets l at xs
    beyond h =
        let k : length l ≤ min at (length l) = omega arith in
        sets_out l (min at (length l)) xs k ∙ sym (sets_out l at xs (le_of_lt h))

-- ---- pieces

pub written_is : {a b : List ℕ} {at next : ℕ} {xs ys : List ℕ} → xs ≡ ys → Written a b at next xs → Written a b at next ys
written_is e w = rw e at w

pub written_none : (a : List ℕ) (at next : ℕ) → next ≡ min at (length a) → Written a a at next []
written_none a at next e = record { image = refl; place = omega arith }

module _ (a b : List ℕ) (at m : ℕ) (xs : List ℕ) (first : Written a b at m xs) where
  pub written_long : length b ≡ length a
  written_long = ap length first.image ∙ length-sets a at xs

  pub written_inside : m ≤ length b
  written_inside =
      let e : m ≡ min (at + length xs) (length a) = first.place in
      let l : length b ≡ length a = written_long in
      omega arith

  -- storing from the next offset on is storing after the bytes
  written_on : (ys : List ℕ) → sets b m ys ≡ sets a at (xs ++ ys)
  written_on ys =
      let e : m ≡ min (at + length xs) (length b) = first.place ∙ ap (min (at + length xs)) (sym written_long) in
      ap (λ (k : ℕ). sets b k ys) e
      ∙ sets_cut b (at + length xs) ys
      ∙ ap (λ (l : List ℕ). sets l (at + length xs) ys) first.image
      ∙ sym (sets_append a at xs ys)

  module _ (c : List ℕ) (n : ℕ) (ys : List ℕ) (second : Written b c m n ys) where
    pub written_more : Written a c at n (xs ++ ys)
    written_more =
        let l : length b ≡ length a = written_long in
        let e : m ≡ min (at + length xs) (length a) = first.place in
        let f : n ≡ min (m + length ys) (length b) = second.place in
        let k : length (xs ++ ys) ≡ length xs + length ys = length-append xs ys in
        record { image = second.image ∙ written_on ys; place = omega arith }

-- ---- a loop

-- the loop's invariant: writing the rest from offset `next` on gives the same as writing the whole from offset `at` on
pub record Rest (out₀ : List ℕ) (at : ℕ) (whole out : List ℕ) (next : ℕ) (left : List ℕ) : Type 0 where
  pub image : sets out next left ≡ sets out₀ at whole
  pub place : min (next + length left) (length out) ≡ min (at + length whole) (length out₀)
  pub inside : next ≤ length out
  pub long : length out ≡ length out₀

pub rest_starts : (out : List ℕ) (at : ℕ) (whole : List ℕ) (next : ℕ) → next ≡ min at (length out) → Rest out at whole out next whole
rest_starts out at whole next e =
    record {
      image = ap (λ (k : ℕ). sets out k whole) e ∙ sets_cut out at whole;
      place = omega arith;
      inside = omega arith;
      long = refl;
    }

module _ (out₀ : List ℕ) (at : ℕ) (whole out : List ℕ) (next : ℕ) where
  pub rest_on : (piece left : List ℕ) → Rest out₀ at whole out next (piece ++ left) → (out' : List ℕ) (next' : ℕ) →
      Written out out' next next' piece → Rest out₀ at whole out' next' left
  rest_on piece left rest out' next' written =
      let l : length out' ≡ length out = written_long out out' next next' piece written in
      let e : next' ≡ min (next + length piece) (length out) = written.place in
      let f : min (next + length (piece ++ left)) (length out) ≡ min (at + length whole) (length out₀) = rest.place in
      let k : length (piece ++ left) ≡ length piece + length left = length-append piece left in
      let g : length out ≡ length out₀ = rest.long in
      record {
        image = written_on out out' next next' piece written left ∙ rest.image;
        place = omega arith;
        inside = written_inside out out' next next' piece written;
        long = omega arith;
      }

  pub rest_done : Rest out₀ at whole out next [] → Written out₀ out at next whole
  rest_done rest =
      let f : min (next + 0) (length out) ≡ min (at + length whole) (length out₀) = rest.place in
      let h : next ≤ length out = rest.inside in
      record { image = rest.image; place = omega arith }

-- ---- a byte, and bytes

-- storing what fits is storing all: the rest is past the end
sets_fitting : (out bytes : List ℕ) (start size : ℕ) → start ≤ length out → size ≡ min (length bytes) (length out - start) →
    sets out start (take size bytes) ≡ sets out start bytes
sets_fitting out bytes start size h e =
    by_cases _ (leb (length bytes) (length out - start))
    (λ (t : leb (length bytes) (length out - start) ≡ true).
    let k : length bytes ≤ length out - start = leb-true _ _ t in
    let m : length bytes ≤ size = omega arith in
    ap (sets out start) (take_all size bytes m))
    (λ (t : leb (length bytes) (length out - start) ≡ false).
    let k : length out - start < length bytes = leb-false _ _ t in
    let l : length (take size bytes) ≡ min size (length bytes) = length-take size bytes in
    let m : length (sets out start (take size bytes)) ≤ start + length (take size bytes) = rw (length-sets out start (take size bytes)) (omega arith) in
    sym (sets_out (sets out start (take size bytes)) (start + length (take size bytes)) (drop size bytes) m)
    ∙ sym (sets_append out start (take size bytes) (drop size bytes))
    ∙ ap (sets out start) (take-append-drop size bytes))

-- one more byte stored
pub stored_on : (out bytes now : List ℕ) (start size i : ℕ) → now ≡ sets out start (take i bytes) → i < size → size ≡ min (length bytes) (length out - start) →
    set now (start + i) (get_or bytes i 0) ≡ sets out start (take (i + 1) bytes)
stored_on out bytes now start size i e h s =
    let k : i < length bytes = omega arith in
    let l : length (take i bytes) ≡ i = length-take i bytes ∙ min-eq_left (le_of_lt k) in
    rw (e, add-one i, take-suc bytes i 0 k, sets_append out start (take i bytes) (get_or bytes i 0 ∷ []), l) refl

pub fitting_written : (out bytes now : List ℕ) (at start size : ℕ) → start ≡ min at (length out) → size ≡ min (length bytes) (length out - start) →
    now ≡ sets out start (take size bytes) → Written out now at (start + size) bytes
fitting_written out bytes now at start size s e p =
    let h : start ≤ length out = omega arith in
    record {
      image = p ∙ sets_fitting out bytes start size h e ∙ ap (λ (k : ℕ). sets out k bytes) s ∙ sets_cut out at bytes;
      place = omega arith;
    }

-- ---- what a program prints: the part that was written

module _ (a b : List ℕ) (next : ℕ) (bytes : List ℕ) (written : Written a b 0 next bytes) where
  -- all bytes, if there is room
  pub written_whole : length bytes ≤ length a → take next b ≡ bytes
  written_whole h =
      let e : next ≡ min (0 + length bytes) (length a) = written.place in
      let k : next ≡ length bytes = omega arith in
      let f : 0 + length bytes ≤ length a = omega arith in
      (λ i. take (k i) (written.image i)) ∙ ap (take (length bytes)) (sets-eq bytes a 0 f) ∙ front
    where
      front : take (length bytes) ((take 0 a ++ bytes) ++ drop (0 + length bytes) a) ≡ bytes
      front = take-append_seam bytes (drop (0 + length bytes) a)
