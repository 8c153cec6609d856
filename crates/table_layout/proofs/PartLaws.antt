-- What a view gives: the records of each part are those that the table holds, all inside it, and there are not too
-- many.
-- Assumes nothing.
use mathlib.Core.Path.{◌≡◌, sym, ◌∙◌, ap}
use mathlib.Core.Bool.{true, false, true≢false}
use mathlib.Core.List.{List, [], ◌∷◌}
use Prim.Native.Nat.{ℕ, zero, suc, ◌+◌, ◌*◌, ◌≤◌, ◌<◌}
use native.Mathlib.Nat.{not-suc-le-zero, le_of_suc-le-suc, add-zero}
use native.Mathlib.Omega.{arith}
use lib.ListN.{length, drop, get_or}
use lib.Seq.{drop-drop, get_or-drop}
use borrow.Author.Tests.{leb-true}
use Rattle.table_layout.specs.Bounds.{bounds}
use Rattle.base.proofs.IfLaws.{if_true, if_false, by_cases, both_first, both_second}
use Rattle.table_layout.specs.Layout.{widths, chopped, parts_in, part_count}
use Rattle.table_layout.specs.View.{are_within, bases_at, counts_at, end_at, placed, view_of}
use Rattle.std.specs.Prelude.{Option, Some, is_some, unwrap_or}
use Rattle.table_layout.specs.declared.View.{View}

pub record Viewed (t : List ℕ) (v : View) : Type 0 where
  pub records : (p : ℕ) → p < part_count → chopped (get_or widths p 0) (get_or v.counts p 0) (drop (get_or v.bases p 0) t) ≡ get_or (parts_in widths t) p []
  pub inside : (p : ℕ) → p < part_count → get_or v.bases p 0 + get_or widths p 0 * get_or v.counts p 0 ≤ length t
  pub few : (p : ℕ) → p < part_count → get_or v.counts p 0 ≤ get_or bounds p 0
  pub ends : v.end ≤ length t

parts_at : (ws t : List ℕ) (at p : ℕ) → p < length ws → chopped (get_or ws p 0) (get_or (counts_at ws t at) p 0) (drop (get_or (bases_at ws t at) p 0) t) ≡ get_or (parts_in ws (drop at t)) p []
unfolding counts_at bases_at parts_in
parts_at [] t at p h = absurd (not-suc-le-zero h)
parts_at (w ∷ ws) t at zero h =
    let c : get_or (drop at t) 0 0 ≡ get_or t at 0 = get_or-drop at t 0 0 ∙ ap (λ (n : ℕ). get_or t n 0) (add-zero at) in
    let d : drop 1 (drop at t) ≡ drop (at + 1) t = drop-drop 1 at t in
    rw (c, d)
parts_at (w ∷ ws) t at (suc p) h =
    let c : get_or (drop at t) 0 0 ≡ get_or t at 0 = get_or-drop at t 0 0 ∙ ap (λ (n : ℕ). get_or t n 0) (add-zero at) in
    let e : at + (1 + w * get_or t at 0) ≡ at + 1 + w * get_or t at 0 = omega arith in
    let d : drop (1 + w * get_or (drop at t) 0 0) (drop at t) ≡ drop (at + 1 + w * get_or t at 0) t = ap (λ (n : ℕ). drop (1 + w * n) (drop at t)) c ∙ drop-drop (1 + w * get_or t at 0) at t ∙ ap (λ (n : ℕ). drop n t) e in
    rw d (parts_at ws t (at + 1 + w * get_or t at 0) p (le_of_suc-le-suc h))

-- if no count is too great and the last record lies inside
within_here : (ws bs t : List ℕ) (at : ℕ) → are_within ws bs t at ≡ true → at ≤ length t
unfolding are_within
within_here [] bs t at e = leb-true _ _ e
within_here (w ∷ ws) [] t at e = absurd (true≢false (sym e))
within_here (w ∷ ws) (b ∷ bs) t at e =
    let r : at + 1 + w * get_or t at 0 ≤ length t = within_here ws bs t (at + 1 + w * get_or t at 0) (both_second _ _ e) in
    omega arith

inside_at : (ws bs t : List ℕ) (at p : ℕ) → are_within ws bs t at ≡ true → p < length ws → get_or (bases_at ws t at) p 0 + get_or ws p 0 * get_or (counts_at ws t at) p 0 ≤ length t
unfolding are_within bases_at counts_at
inside_at [] bs t at p e h = absurd (not-suc-le-zero h)
inside_at (w ∷ ws) [] t at p e h = absurd (true≢false (sym e))
inside_at (w ∷ ws) (b ∷ bs) t at zero e h = within_here ws bs t (at + 1 + w * get_or t at 0) (both_second _ _ e)
inside_at (w ∷ ws) (b ∷ bs) t at (suc p) e h = inside_at ws bs t (at + 1 + w * get_or t at 0) p (both_second _ _ e) (le_of_suc-le-suc h)

few_at : (ws bs t : List ℕ) (at p : ℕ) → are_within ws bs t at ≡ true → p < length ws → get_or (counts_at ws t at) p 0 ≤ get_or bs p 0
unfolding are_within counts_at
few_at [] bs t at p e h = absurd (not-suc-le-zero h)
few_at (w ∷ ws) [] t at p e h = absurd (true≢false (sym e))
few_at (w ∷ ws) (b ∷ bs) t at zero e h = leb-true _ _ (both_first _ _ e)
few_at (w ∷ ws) (b ∷ bs) t at (suc p) e h = few_at ws bs t (at + 1 + w * get_or t at 0) p (both_second _ _ e) (le_of_suc-le-suc h)

ends_at : (ws bs t : List ℕ) (at : ℕ) → are_within ws bs t at ≡ true → end_at ws t at ≤ length t
unfolding are_within end_at
ends_at [] bs t at e = leb-true _ _ e
ends_at (w ∷ ws) [] t at e = absurd (true≢false (sym e))
ends_at (w ∷ ws) (b ∷ bs) t at e = ends_at ws bs t (at + 1 + w * get_or t at 0) (both_second _ _ e)

-- ---- the view of a table

-- a table has a view exactly where its counts fit
module _ (t : List ℕ) (v : View) (is_view : Some v ≡ view_of t) where
  view_within : are_within widths bounds t 0 ≡ true
  unfolding view_of
  view_within =
      by_cases _ (are_within widths bounds t 0)
      (λ (h : are_within widths bounds t 0 ≡ true). h)
      (λ (h : are_within widths bounds t 0 ≡ false). absurd (true≢false (ap is_some (is_view ∙ if_false _ _ h))))

  pub view_placed : v ≡ placed t
  unfolding view_of
  view_placed = ap (λ (o : Option View). unwrap_or o v) (is_view ∙ if_true _ _ view_within)

  pub viewed : Viewed t v
  viewed =
      rw view_placed
      (record {
        records = parts_at widths t 0;
        inside = λ (p : ℕ). inside_at widths bounds t 0 p view_within;
        few = λ (p : ℕ). few_at widths bounds t 0 p view_within;
        ends = ends_at widths bounds t 0 view_within;
      })
