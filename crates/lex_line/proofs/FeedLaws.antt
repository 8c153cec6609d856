-- Laws of counting LFs among some bytes, byte by byte and in a loop.
-- Assumes nothing.
use mathlib.Core.Path.{◌≡◌, refl, sym, ◌∙◌, ap}
use mathlib.Core.Bool.{true, false}
use mathlib.Core.List.{List, [], ◌∷◌}
use Prim.Native.Nat.{ℕ, ◌+◌, ◌≤◌, ◌<◌}
use native.Mathlib.Numerals.{add-one}
use native.Mathlib.Omega.{arith}
use lib.ListN.{length, drop, get_or, drop_of_length-le}
use Rattle.std.specs.Int.{from_bool}
use lib.Seq.{drop-cons}
use lib.Dec.{eqb}
use borrow.Author.Tests.{eq-eqb, ne_eqb, eqb-true, eqb-false}
use Rattle.base.proofs.IfLaws.{if_true, if_false, by_cases}
use Rattle.lex_line.specs.Way.LineFeeds.{line_feed_of, line_feeds}

pub feed_one : (b : ℕ) → b ≡ 10 → 1 ≡ line_feed_of b
unfolding line_feed_of
feed_one b e = sym (if_true _ _ (eq-eqb b 10 e))

pub feed_none : (b : ℕ) → (b ≡ 10 → ⊥) → 0 ≡ line_feed_of b
unfolding line_feed_of
feed_none b e = sym (if_false _ _ (ne_eqb b 10 e))

feed_small : (b : ℕ) → line_feed_of b ≤ 1
feed_small b =
    by_cases _ (eqb b 10)
    (λ (e : eqb b 10 ≡ true). omega (arith, feed_one b (eqb-true _ _ e)))
    (λ (e : eqb b 10 ≡ false). omega (arith, feed_none b (eqb-false _ _ e)))

pub feed_told : (b f : ℕ) → f ≡ line_feed_of b → f ≤ 1
feed_told b f e = omega (arith, e, feed_small b)

pub feeds_none : line_feeds [] ≡ 0
unfolding line_feeds
feeds_none = refl

pub feeds_more : (b : ℕ) (s : List ℕ) → line_feeds (b ∷ s) ≡ line_feed_of b + line_feeds s
unfolding line_feeds
feeds_more b s = refl

-- the conversion of a test counts
pub feed_from : (b : ℕ) (n : ℕ) → n ≡ from_bool (eqb b 10) → n ≡ line_feed_of b
feed_from b n e =
    by_cases _ (eqb b 10)
    (λ (t : eqb b 10 ≡ true). e ∙ ap from_bool t ∙ feed_one b (eqb-true _ _ t))
    (λ (t : eqb b 10 ≡ false). e ∙ ap from_bool t ∙ feed_none b (eqb-false _ _ t))

-- ---- the loop that counts the LFs of some bytes: what it has counted plus the LFs of the rest is the whole count

module _ (t : List ℕ) (i count goal : ℕ) (inv : count + line_feeds (drop i t) ≡ goal) where
  pub feeds_on : i < length t → (f : ℕ) → f ≡ line_feed_of (get_or t i 0) → count + f + line_feeds (drop (i + 1) t) ≡ goal
  feeds_on h f e =
      let d : drop i t ≡ get_or t i 0 ∷ drop (i + 1) t = drop-cons t i 0 h ∙ ap (λ (j : ℕ). get_or t i 0 ∷ drop j t) (sym (add-one i)) in
      let a : line_feeds (drop i t) ≡ line_feed_of (get_or t i 0) + line_feeds (drop (i + 1) t) = ap line_feeds d ∙ feeds_more (get_or t i 0) (drop (i + 1) t) in
      omega arith

  pub feeds_done : length t ≤ i → count ≡ goal
  feeds_done h =
      let z : line_feeds (drop i t) ≡ 0 = ap line_feeds (drop_of_length-le t h) ∙ feeds_none in
      omega arith
