-- Laws of the loop that makes a view: the parts that are left complete what the parts so far give.
-- Assumes nothing.
use mathlib.Core.Path.{◌≡◌, refl, sym, ◌∙◌}
use mathlib.Core.List.{List, [], ◌∷◌}
use Prim.Native.Nat.{ℕ, suc, ◌+◌, ◌*◌, ◌≤◌, ◌<◌}
use native.Mathlib.Nat.{mul-le-mul}
use native.Mathlib.Numerals.{add-one}
use native.Mathlib.Omega.{arith}
use lib.ListN.{length, drop, get_or, set, replicate, drop_of_length-le}
use lib.Seq.{sets, drop-cons}
use borrow.Author.Tests.{le-leb, lt-leb}
use Rattle.table_layout.specs.Bounds.{bounds, most_values}
use Rattle.base.proofs.IfLaws.{if_true, if_false, both_rest, both_not_left}
use Rattle.table_layout.specs.Layout.{widths, part_count}
use Rattle.table_layout.proofs.StoreLaws.{widest, most_part_words, widths_small, bounds_small}
use Rattle.table_layout.specs.View.{are_within, bases_at, counts_at, end_at, view_of}
use Rattle.std.specs.Prelude.{Some, None}

pub record ViewLeft (t bases counts : List ℕ) (at part : ℕ) : Type 0 where
  pub below : part ≤ part_count
  pub near : at ≤ most_part_words * part
  pub begun : sets bases part (bases_at (drop part widths) t at) ≡ bases_at widths t 0
  pub counted : sets counts part (counts_at (drop part widths) t at) ≡ counts_at widths t 0
  pub ends : end_at (drop part widths) t at ≡ end_at widths t 0
  pub within : are_within (drop part widths) (drop part bounds) t at ≡ are_within widths bounds t 0

pub view_starts : (t : List ℕ) → ViewLeft t (replicate part_count 0) (replicate part_count 0) 0 0
unfolding bases_at counts_at
view_starts t = record { below = omega arith; near = omega arith; begun = refl; counted = refl; ends = refl; within = refl }

module _ (t bases counts : List ℕ) (at part : ℕ) (left : ViewLeft t bases counts at part) where
  pub view_short : part_count ≤ part → length t < at → None ≡ view_of t
  unfolding view_of are_within
  view_short h s =
      let e : drop part widths ≡ [] = drop_of_length-le widths h in
      let w : are_within [] (drop part bounds) t at ≡ are_within widths bounds t 0 = rw e at left.within in
      sym (if_false _ _ (sym w ∙ lt-leb _ _ s))

  pub view_done : part_count ≤ part → at ≤ length t → Some (record { bases = bases; counts = counts; end = at }) ≡ view_of t
  unfolding view_of are_within bases_at counts_at end_at
  view_done h s =
      let e : drop part widths ≡ [] = drop_of_length-le widths h in
      let w : are_within [] (drop part bounds) t at ≡ are_within widths bounds t 0 = rw e at left.within in
      let b : bases ≡ bases_at widths t 0 = rw e at left.begun in
      let c : counts ≡ counts_at widths t 0 = rw e at left.counted in
      let n : at ≡ end_at widths t 0 = rw e at left.ends in
      (λ i. Some (record { bases = b i; counts = c i; end = n i })) ∙ sym (if_true _ _ (sym w ∙ le-leb _ _ s))

  module _ (h : part < part_count) (count : ℕ) (is_count : count ≡ get_or t at 0) where
    on_widths : drop part widths ≡ get_or widths part 0 ∷ drop (suc part) widths
    on_widths = drop-cons widths part 0 h

    on_bounds : drop part bounds ≡ get_or bounds part 0 ∷ drop (suc part) bounds
    on_bounds = drop-cons bounds part 0 h

    within_here : are_within (get_or widths part 0 ∷ drop (suc part) widths) (get_or bounds part 0 ∷ drop (suc part) bounds) t at ≡ are_within widths bounds t 0
    within_here = rw (on_widths, on_bounds) at left.within

    pub view_fails : get_or bounds part 0 < count → None ≡ view_of t
    unfolding view_of are_within
    view_fails b =
        let k : get_or bounds part 0 < get_or t at 0 = rw is_count at b in
        sym (if_false _ _ (sym within_here ∙ both_not_left _ _ (lt-leb _ _ k)))

    module _ (few : count ≤ get_or bounds part 0) where
      product_small : get_or widths part 0 * count ≤ widest * most_values
      product_small = let b : get_or bounds part 0 ≤ most_values = bounds_small part in let k : count ≤ most_values = omega arith in mul-le-mul (widths_small part) k

      pub view_on : ViewLeft t (set bases part (at + 1)) (set counts part count) (at + 1 + get_or widths part 0 * count) (part + 1)
      unfolding bases_at counts_at end_at are_within
      view_on =
          let n : at ≤ most_part_words * part = left.near in
          let p : get_or widths part 0 * count ≤ widest * most_values = product_small in
          let k : get_or t at 0 ≤ get_or bounds part 0 = rw is_count at few in
          rw (add-one part, is_count)
          (record {
            below = h;
            near = near_on n p;
            begun = rw on_widths at left.begun;
            counted = rw on_widths at left.counted;
            ends = rw on_widths at left.ends;
            within = sym (both_rest _ _ (le-leb _ _ k)) ∙ within_here;
          })
        where
          near_on : at ≤ most_part_words * part → get_or widths part 0 * count ≤ widest * most_values → at + 1 + get_or widths part 0 * get_or t at 0 ≤ most_part_words * suc part
          near_on n p = let q : get_or widths part 0 * get_or t at 0 ≤ widest * most_values = rw is_count at p in omega arith
