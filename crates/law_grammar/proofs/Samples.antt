-- Samples: what the paper's example writes is a path and has a shape, and what breaks one sentence of the paper is none.
-- Assumes nothing.
use Prim.Native.Nat.{ℕ, zero, suc, ◌+◌, ◌≤◌, ◌<◌}
use mathlib.Core.Path.{◌≡◌, refl}
use mathlib.Core.Bool.{Bool}
use mathlib.Core.List.{List, [], ◌∷◌, ◌++◌, append_assoc}
use mathlib.Core.Logic.{◌⊎◌, inl, inr}
use native.Mathlib.Omega.{arith}
use lib.ListN.{length}
use Rattle.table_layout.specs.Codes.{banded, full}
use Rattle.table_layout.specs.Bounds.{deepest, most_conductors}
use Rattle.base.specs.If.{provided◌then◌else◌, both, either}
use Rattle.line_path.specs.Path.{says_end, says_side, says_section, says_fork, says_endfork}
use Rattle.line_matrix.specs.declared.Matrix.{Matrix}
use Rattle.line_matrix.specs.Matrix.{new_matrix, is_wrong_bandwidth, with_bandwidth, in_row, stands_above, still_fits, with_row, is_shaped, is_wrong_shape, shape_conductors}
use Rattle.law_grammar.specs.Way.Shape.{Row, SparseRow, Rising, RisingRows, greatest_column, greatest_named, sparse_count, AreSparse, HasShape}
use Rattle.law_grammar.specs.Way.Shape.LineSet.{full_set, banded_set, sparse_set}
use Rattle.law_grammar.specs.Way.Closing.{rows_count, numbers_in, after_rows, closing, RowsInOrder, InOrder, IsWhole}
use Rattle.law_grammar.specs.Way.Grammar.{IsEnd, MayBeEnd, AreItems, IsPath}
use Rattle.law_grammar.proofs.StandLaws.{Stand, Moves}
use Rattle.law_grammar.proofs.StandLaws.Stand.{fresh, begun, among, ended, done}
use Rattle.law_grammar.proofs.GrammarLaws.{Reads, path_reads}
use Rattle.law_grammar.proofs.GrammarLaws.Reads.{on}
use Rattle.law_grammar.proofs.ShapeLaws.{full_fixed, banded_fixed, shape_judged, shape_alone}
use Rattle.law_grammar.proofs.RowsLaws.{Fixed, fixed_row, row_right}

-- ---- paths

-- lines 13 to 18 of the paper's example
pub example_path : IsPath (says_end ∷ says_section ∷ says_fork ∷ says_section ∷ says_endfork ∷ says_end ∷ [])
example_path =
    IsPath.path IsEnd.alone (AreItems.block (AreItems.section AreItems.none) MayBeEnd.without AreItems.none) IsEnd.alone

-- what may be said where the reading stands
begun_says : {side : Bool} {says : ℕ} {t : Stand} → Moves (begun side) says t → (says ≡ says_side) ⊎ (says ≡ says_section)
begun_says Moves.first_side = inl refl
begun_says Moves.first_section = inr refl

among_says : {depth says : ℕ} {t : Stand} → Moves (among depth) says t → says ≡ says_side → ⊥
among_says Moves.section e = omega arith
among_says (Moves.fork h) e = omega arith
among_says Moves.endfork e = omega arith
among_says Moves.block_end e = omega arith
among_says Moves.last_end e = omega arith

ended_says : {depth says : ℕ} {side : Bool} {t : Stand} → Moves (ended depth side) says t → (says ≡ says_side) ⊎ (says ≡ says_endfork)
ended_says Moves.block_side = inl refl
ended_says Moves.block_endfork = inr refl

done_says : {side : Bool} {says : ℕ} {t : Stand} → Moves (done side) says t → says ≡ says_side
done_says Moves.last_side = refl

neither : {n a b : ℕ} → (n ≡ a → ⊥) → (n ≡ b → ⊥) → (n ≡ a) ⊎ (n ≡ b) → ⊥
neither f g (inl e) = f e
neither f g (inr e) = g e

-- "The first item is a Section."
fork_first : Reads fresh (says_end ∷ says_fork ∷ says_endfork ∷ says_section ∷ says_end ∷ []) → ⊥
fork_first (on Moves.first_end_lem (on m r)) =
    neither (λ (e : says_fork ≡ says_side). omega arith) (λ (e : says_fork ≡ says_section). omega arith) (begun_says m)

pub no_fork_first : IsPath (says_end ∷ says_fork ∷ says_endfork ∷ says_section ∷ says_end ∷ []) → ⊥
no_fork_first h = fork_first (path_reads h)

-- "perhaps one end as last": no item behind it, and not two
item_behind : Reads fresh (says_end ∷ says_section ∷ says_fork ∷ says_end ∷ says_section ∷ says_endfork ∷ says_end ∷ []) → ⊥
item_behind (on Moves.first_end_lem (on Moves.first_section (on (Moves.fork h) (on Moves.block_end (on m r))))) =
    neither (λ (e : says_section ≡ says_side). omega arith) (λ (e : says_section ≡ says_endfork). omega arith) (ended_says m)

pub no_item_behind : IsPath (says_end ∷ says_section ∷ says_fork ∷ says_end ∷ says_section ∷ says_endfork ∷ says_end ∷ []) → ⊥
no_item_behind h = item_behind (path_reads h)

second_end : Reads fresh (says_end ∷ says_section ∷ says_fork ∷ says_end ∷ says_end ∷ says_endfork ∷ says_end ∷ []) → ⊥
second_end (on Moves.first_end_lem (on Moves.first_section (on (Moves.fork h) (on Moves.block_end (on m r))))) =
    neither (λ (e : says_end ≡ says_side). omega arith) (λ (e : says_end ≡ says_endfork). omega arith) (ended_says m)

pub no_second_end : IsPath (says_end ∷ says_section ∷ says_fork ∷ says_end ∷ says_end ∷ says_endfork ∷ says_end ∷ []) → ⊥
no_second_end h = second_end (path_reads h)

-- "perhaps with `Side name` as the next line read"
late_side : Reads fresh (says_end ∷ says_section ∷ says_side ∷ says_end ∷ []) → ⊥
late_side (on Moves.first_end_lem (on Moves.first_section (on m r))) = among_says m refl

pub no_late_side : IsPath (says_end ∷ says_section ∷ says_side ∷ says_end ∷ []) → ⊥
no_late_side h = late_side (path_reads h)

-- "The end at depth 0 closes the path."
line_behind : Reads fresh (says_end ∷ says_section ∷ says_end ∷ says_section ∷ says_end ∷ []) → ⊥
line_behind (on Moves.first_end_lem (on Moves.first_section (on Moves.last_end (on m r)))) =
    let e : says_section ≡ says_side = done_says m in
    omega arith

pub no_line_behind : IsPath (says_end ∷ says_section ∷ says_end ∷ says_section ∷ says_end ∷ []) → ⊥
no_line_behind h = line_behind (path_reads h)

-- "A block may hold further blocks, to a depth of 8.": blocks one in another
unfoldable pub nested : ℕ → List ℕ
nested zero = []
nested (suc n) = says_fork ∷ (nested n ++ (says_endfork ∷ []))

nested_items : (n : ℕ) → AreItems n (nested n)
unfolding nested
nested_items zero = AreItems.none
nested_items (suc n) = AreItems.block (nested_items n) MayBeEnd.without AreItems.none

pub eight_deep : IsPath (says_end ∷ says_section ∷ (nested 8 ++ (says_end ∷ [])))
eight_deep = IsPath.path IsEnd.alone (nested_items 8) IsEnd.alone

nested_reads : (n depth : ℕ) (later : List ℕ) → depth ≤ deepest → Reads (among depth) (nested n ++ later) → depth + n ≤ deepest
unfolding nested
nested_reads zero depth later b r = omega arith
nested_reads (suc n) depth later b (on (Moves.fork h) r) =
    let inner : Reads (among (suc depth)) (nested n ++ (says_endfork ∷ later)) = rw (append_assoc (nested n) (says_endfork ∷ []) later) at r in
    let ih : suc depth + n ≤ deepest = nested_reads n (suc depth) (says_endfork ∷ later) h inner in
    omega arith

too_deep : (n : ℕ) → Reads fresh (says_end ∷ says_section ∷ (nested n ++ (says_end ∷ []))) → n ≤ deepest
too_deep n (on Moves.first_end_lem (on Moves.first_section r)) =
    let h : 0 + n ≤ deepest = nested_reads n 0 (says_end ∷ []) (omega arith) r in
    omega arith

pub no_nine_deep : IsPath (says_end ∷ says_section ∷ (nested 9 ++ (says_end ∷ []))) → ⊥
no_nine_deep h =
    let most : 9 ≤ deepest = too_deep 9 (path_reads h) in
    omega arith

-- ---- shapes

-- rows of these lengths, from [Row] 1 on
abbrev pub rows_from : ℕ → List ℕ → List Row
rows_from i [] = []
rows_from i (count ∷ counts) = record { number = i; count = count } ∷ rows_from (suc i) counts

rows_ordered :
    (counts : List ℕ) (i : ℕ) (m : Matrix) (v : ℕ) → Fixed m → i ≡ m.rows.row + 1 → m.rows.row + length counts ≤ most_conductors →
    RowsInOrder m v (rows_from i counts)
unfolding with_row
rows_ordered [] i m v k e h = RowsInOrder.none
rows_ordered (count ∷ counts) i m v k e h =
    let low : i ≤ most_conductors = omega arith in
    RowsInOrder.more (row_right i m k e) low
    (rows_ordered counts (suc i) (with_row i m v) (v + count) (fixed_row i m v k) (omega arith) (omega arith))

module _ (counts : List ℕ) (h : length counts ≤ most_conductors) where
  full_ordered : InOrder 0 (full_set (rows_from 1 counts))
  unfolding new_matrix
  full_ordered = InOrder.full_order (rows_ordered counts 1 (new_matrix full 0) 0 (full_fixed 0 []) refl (omega arith))

  banded_ordered : (b : ℕ) → InOrder 0 (banded_set b (rows_from 1 counts))
  unfolding new_matrix with_bandwidth is_wrong_bandwidth provided◌then◌else◌ either
  banded_ordered b =
      InOrder.banded_order refl (rows_ordered counts 1 (with_bandwidth b (new_matrix banded 0)) 0 (banded_fixed 0 b []) refl (omega arith))

-- the inductance matrix of the paper's example has rows of two numbers and of one: N is 2
pub example_shape : HasShape 2 (full_set (rows_from 1 (2 ∷ 1 ∷ [])))
unfolding closing numbers_in after_rows rows_count new_matrix with_row in_row stands_above still_fits is_shaped is_wrong_shape shape_conductors provided◌then◌else◌ both either
example_shape = (shape_alone (full_set (rows_from 1 (2 ∷ 1 ∷ []))) 0 (full_ordered (2 ∷ 1 ∷ []) (omega arith))).right refl

-- "row i has N-i+1 numbers": a row that is one short has no shape
pub no_short_row : IsWhole 0 (full_set (rows_from 1 (1 ∷ 1 ∷ []))) → ⊥
unfolding closing numbers_in after_rows rows_count new_matrix with_row in_row stands_above still_fits is_shaped is_wrong_shape shape_conductors provided◌then◌else◌ both either
no_short_row = (shape_judged (full_set (rows_from 1 (1 ∷ 1 ∷ []))) 0 (full_ordered (1 ∷ 1 ∷ []) (omega arith)) 0).wrong refl

-- "row i has 1+min(B, N-i)": for B 1 and N 3 two, two and one
pub band_shape : HasShape 3 (banded_set 1 (rows_from 1 (2 ∷ 2 ∷ 1 ∷ [])))
unfolding closing numbers_in after_rows rows_count new_matrix with_bandwidth with_row in_row stands_above still_fits is_shaped is_wrong_shape shape_conductors provided◌then◌else◌ both either
band_shape = (shape_alone (banded_set 1 (rows_from 1 (2 ∷ 2 ∷ 1 ∷ []))) 0 (banded_ordered (2 ∷ 2 ∷ 1 ∷ []) (omega arith) 1)).right refl

-- a wrong reading of the paper's list: "bandwidth as row width"
pub no_row_width : IsWhole 0 (banded_set 1 (rows_from 1 (1 ∷ 1 ∷ 1 ∷ []))) → ⊥
unfolding closing numbers_in after_rows rows_count new_matrix with_bandwidth with_row in_row stands_above still_fits is_shaped is_wrong_shape shape_conductors provided◌then◌else◌ both either
no_row_width = (shape_judged (banded_set 1 (rows_from 1 (1 ∷ 1 ∷ 1 ∷ []))) 0 (banded_ordered (1 ∷ 1 ∷ 1 ∷ []) (omega arith) 1) 0).wrong refl

-- "columns rising and not below the row. N is the greatest row or column named.": N is 3
abbrev pub sparse_rows : List SparseRow
sparse_rows = record { number = 1; columns = 1 ∷ 3 ∷ [] } ∷ record { number = 2; columns = 2 ∷ [] } ∷ []

sparse_rises : RisingRows 0 sparse_rows
sparse_rises =
    let a : 0 < 1 = omega arith in
    let b : 1 ≤ 1 = omega arith in
    let c : 1 + 1 ≤ 3 = omega arith in
    let d : 1 < 2 = omega arith in
    let e : 2 ≤ 2 = omega arith in
    RisingRows.more a (Rising.more b (Rising.more c Rising.none)) (RisingRows.more d (Rising.more e Rising.none) RisingRows.none)

pub sparse_sample : HasShape 3 (sparse_set sparse_rows)
unfolding sparse_count greatest_named greatest_column
sparse_sample =
    let h : AreSparse 3 sparse_rows = record { some = omega arith; rises = sparse_rises; greatest = refl } in
    HasShape.sparse_shape h

first_columns : {above : ℕ} {r : SparseRow} {rs : List SparseRow} → RisingRows above (r ∷ rs) → Rising r.number r.columns
first_columns (RisingRows.more a c s) = c

first_column : {least c : ℕ} {cs : List ℕ} → Rising least (c ∷ cs) → least ≤ c
first_column (Rising.more h r) = h

abbrev pub row_below : List SparseRow
row_below = record { number = 2; columns = 1 ∷ [] } ∷ []

pub no_column_below : {n : ℕ} → HasShape n (sparse_set row_below) → ⊥
no_column_below (HasShape.sparse_shape h) =
    let below : 2 ≤ 1 = first_column (first_columns h.rises) in
    omega arith
