-- The grid of a pin map, line by line above its Pin_list: while no rule is broken its sizes are within their bounds, and when Pin_list is
-- read an ordered map has both and an Un_ordered one neither.
-- Assumes nothing.
use mathlib.Core.Path.{◌≡◌, refl, sym, ◌∙◌, ap}
use mathlib.Core.Bool.{Bool, true, false, not, true≢false}
use mathlib.Core.List.{List, [], ◌∷◌}
use Prim.Native.Nat.{ℕ, ◌-◌, ◌≤◌, ◌<◌, ◌+◌}
use native.Mathlib.Omega.{arith}
use lib.ListN.{get_or}
use lib.Dec.{eqb}
use borrow.Author.Tests.{eq-eqb, ne_eqb, eqb-true, eqb-false, not-false}
use Rattle.base.specs.If.{provided◌then◌else◌, both, either}
use Rattle.base.specs.Bytes.{bytes, within}
use Rattle.base.specs.Runs.{same}
use Rattle.base.specs.Broken.{Rule, ◌when◌}
use Rattle.base.proofs.IfLaws.{if_true, if_false, by_test, by_cases, both_true, both_rest, either_none_first, either_none_second}
use Rattle.base.proofs.BrokenLaws.{sound, all_kept}
use Rattle.base.proofs.RunLaws.{same_equal}
use Rattle.lex_line.specs.Words.{words, first_of, second_of, right_of}
use Rattle.lex_number.proofs.IntegerLaws.{whole_most}
use Rattle.line_map.specs.PinMap.{says_order, says_columns, says_rows, says_pin_list, order_of, wrong_map_line, order_line, list_line, size_line, map_line_of, new_map, is_ordered, is_map_out_of_order, map_next}
use Rattle.line_map.specs.declared.Map.{Map}
use Rattle.line_map.specs.declared.MapLine.{MapLine}
use Rattle.line_map.specs.Way.Rule.{map_rule}
use Rattle.ask_sound.specs.Tests.{is_grid}
use Rattle.law_sound.proofs.PartLaws.{within_is}
use Rattle.table_layout.specs.Bounds.{most_map_pins}
use Rattle.table_layout.specs.Codes.{map_orders, un_ordered}

-- ---- what a line gives

record Told (l : MapLine) : Type 0 where
  order : l.says ≡ says_order → l.value ≤ 3
  size : l.bounded ≡ true → l.value ≤ most_map_pins

-- a line that gives nothing
nothing_told : (l : MapLine) → l.value ≡ 0 → Told l
nothing_told l e = record { order = λ (s : l.says ≡ says_order). omega arith; size = λ (b : l.bounded ≡ true). omega arith }

wrong_told : (says : ℕ) → Told (wrong_map_line says)
unfolding wrong_map_line
wrong_told says = nothing_told _ refl

order_most : (w : List ℕ) → order_of w ≤ map_orders
unfolding order_of
order_most w =
    by_test (λ (n : ℕ). n ≤ 3) _ _ _ (λ e. omega arith)
    (λ e. by_test (λ (n : ℕ). n ≤ 3) _ _ _ (λ f. omega arith) (λ f. by_test (λ (n : ℕ). n ≤ 3) _ _ _ (λ g. omega arith) (λ g. omega arith)))

order_told : (ws : List (List ℕ)) → Told (order_line ws)
unfolding order_line
order_told ws =
    by_test Told _ _ _
    (λ e.
    let h : order_of (second_of ws) ≤ map_orders = order_most (second_of ws) in
    record { order = λ s. h; size = λ b. omega arith })
    (λ e. wrong_told says_order)

list_told : (ws : List (List ℕ)) → Told (list_line ws)
unfolding list_line
list_told ws = by_test Told _ _ _ (λ e. nothing_told _ refl) (λ e. wrong_told says_pin_list)

size_told : (says : ℕ) (content : List ℕ) → (says ≡ says_order → ⊥) → Told (size_line says content)
unfolding size_line
size_told says content n =
    by_test Told _ _ _
    (λ e.
    record {
      order = λ (s : says ≡ says_order). absurd (n s);
      size = whole_most 1 most_map_pins (first_of (right_of content));
    })
    (λ e. wrong_told says)

line_told : (content : List ℕ) → Told (map_line_of content)
unfolding map_line_of
line_told content =
    by_test Told _ _ _ (λ e. order_told (words content))
    (λ e.
    by_test Told _ _ _ (λ f. list_told (words content))
    (λ f.
    by_test Told _ _ _ (λ g. size_told says_columns content (λ (z : says_columns ≡ says_order). omega arith))
    (λ g. by_test Told _ _ _ (λ h. size_told says_rows content (λ (z : says_rows ≡ says_order). omega arith)) (λ h. nothing_told _ refl))))

-- the line that leads to the pins says Pin_list
list_says : (ws : List (List ℕ)) → (list_line ws).says ≡ says_pin_list
unfolding list_line wrong_map_line
list_says ws = by_test (λ (l : MapLine). l.says ≡ says_pin_list) _ _ _ (λ e. refl) (λ e. refl)

names_apart : same (bytes "Pin_list") (bytes "Pin_order") ≡ false
unfolding same both
names_apart = refl

pub pins_said : (content : List ℕ) → same (first_of (words content)) (bytes "Pin_list") ≡ true → (map_line_of content).says ≡ says_pin_list
unfolding map_line_of
pins_said content e =
    let w : first_of (words content) ≡ bytes "Pin_list" = same_equal _ _ e in
    let n : same (first_of (words content)) (bytes "Pin_order") ≡ false = ap (λ (x : List ℕ). same x (bytes "Pin_order")) w ∙ names_apart in
    ap (λ (l : MapLine). l.says) (if_false _ _ n ∙ if_true _ _ e) ∙ list_says (words content)

-- ---- the map as far as it is read

pub record Growing (m : Map) : Type 0 where
  pub order : m.order ≤ 3
  pub rows : m.rows ≤ most_map_pins
  pub columns : m.columns ≤ most_map_pins
  pub rowless : is_ordered m ≡ false → m.rows ≡ 0
  pub columnless : is_ordered m ≡ false → m.columns ≡ 0
  pub pins : m.pins ≡ 0

pub new_growing : Growing new_map
unfolding new_map
new_growing =
    record {
      order = omega arith;
      rows = omega arith;
      columns = omega arith;
      rowless = λ (h : is_ordered (record { order = 0; rows = 0; columns = 0; pins = 0 }) ≡ false). refl;
      columnless = λ (h : is_ordered (record { order = 0; rows = 0; columns = 0; pins = 0 }) ≡ false). refl;
      pins = refl;
    }

unordered : (m : Map) → m.order ≡ 0 → is_ordered m ≡ false
unfolding is_ordered within both
unordered m e = rw e

third_unordered : (m : Map) → m.order ≡ un_ordered + 1 → is_ordered m ≡ false
unfolding is_ordered within both
third_unordered m e = rw e

ordered : (m : Map) → 1 ≤ m.order → m.order ≤ 2 → is_ordered m ≡ true
unfolding is_ordered
ordered m h k = within_is 1 2 m.order h k

module _ (l : MapLine) (m : Map) where
  order_taken : l.says ≡ says_order → map_next l m ≡ record { order = l.value; rows = m.rows; columns = m.columns; pins = m.pins }
  unfolding map_next provided◌then◌else◌
  order_taken e = rw e

  rows_taken : l.says ≡ says_rows → map_next l m ≡ record { order = m.order; rows = l.value; columns = m.columns; pins = m.pins }
  unfolding map_next provided◌then◌else◌
  rows_taken e = rw e

  columns_taken : l.says ≡ says_columns → map_next l m ≡ record { order = m.order; rows = m.rows; columns = l.value; pins = m.pins }
  unfolding map_next provided◌then◌else◌
  columns_taken e = rw e

  none_taken : eqb l.says says_order ≡ false → eqb l.says says_rows ≡ false → eqb l.says says_columns ≡ false → map_next l m ≡ m
  unfolding map_next
  none_taken a b c =
      λ i.
      record {
        order = if_false l.value m.order a i;
        rows = if_false l.value m.rows b i;
        columns = if_false l.value m.columns c i;
        pins = m.pins;
      }

  module _ (kept : map_rule l m ≡ 0) where
    abbrev tests : List Rule
    tests = 11 when not l.right ∷ 12 when is_map_out_of_order l m ∷ 13 when not l.formed ∷ 14 when not l.bounded ∷ []

    test_kept : (i : ℕ) → (get_or tests i sound).broken ≡ false
    unfolding map_rule
    test_kept i = all_kept tests (omega arith, (omega arith, (omega arith, (omega arith, tt)))) kept i

    in_order : is_map_out_of_order l m ≡ false
    in_order = test_kept 1

    bounded : l.bounded ≡ true
    bounded = not-false _ (test_kept 3)

    -- "repeated or out of order 12"
    order_first : l.says ≡ says_order → m.order ≡ 0
    unfolding is_map_out_of_order provided◌then◌else◌
    order_first e =
        let z : not (eqb m.order 0) ≡ false = rw e at in_order in
        eqb-true _ _ (not-false _ z)

    rows_ordered : l.says ≡ says_rows → is_ordered m ≡ true
    unfolding is_map_out_of_order provided◌then◌else◌
    rows_ordered e =
        let z : either (not (is_ordered m)) (not (eqb m.rows 0)) ≡ false = rw e at in_order in
        not-false _ (either_none_first _ _ z)

    columns_ordered : l.says ≡ says_columns → is_ordered m ≡ true
    unfolding is_map_out_of_order provided◌then◌else◌
    columns_ordered e =
        let z : either (not (is_ordered m)) (not (eqb m.columns 0)) ≡ false = rw e at in_order in
        not-false _ (either_none_first _ _ z)

    list_ready : l.says ≡ says_pin_list → either (eqb m.order 0) (both (is_ordered m) (either (eqb m.rows 0) (eqb m.columns 0))) ≡ false
    unfolding is_map_out_of_order provided◌then◌else◌
    list_ready e = rw e at in_order

    module _ (told : Told l) (g : Growing m) where
      order_growing : l.says ≡ says_order → Growing (map_next l m)
      order_growing e =
          let u : is_ordered m ≡ false = unordered m (order_first e) in
          rw (order_taken e)
          (record {
            order = told.order e;
            rows = g.rows;
            columns = g.columns;
            rowless = λ h. g.rowless u;
            columnless = λ h. g.columnless u;
            pins = g.pins;
          })

      rows_growing : l.says ≡ says_rows → Growing (map_next l m)
      unfolding is_ordered
      rows_growing e =
          rw (rows_taken e)
          (record {
            order = g.order;
            rows = told.size bounded;
            columns = g.columns;
            rowless = λ h. absurd (true≢false (sym (rows_ordered e) ∙ h));
            columnless = λ h. absurd (true≢false (sym (rows_ordered e) ∙ h));
            pins = g.pins;
          })

      columns_growing : l.says ≡ says_columns → Growing (map_next l m)
      unfolding is_ordered
      columns_growing e =
          rw (columns_taken e)
          (record {
            order = g.order;
            rows = g.rows;
            columns = told.size bounded;
            rowless = λ h. absurd (true≢false (sym (columns_ordered e) ∙ h));
            columnless = λ h. absurd (true≢false (sym (columns_ordered e) ∙ h));
            pins = g.pins;
          })

      growing : Growing (map_next l m)
      growing =
          by_cases _ (eqb l.says says_order) (λ (a : eqb l.says says_order ≡ true). order_growing (eqb-true _ _ a))
          (λ (a : eqb l.says says_order ≡ false).
          by_cases _ (eqb l.says says_rows) (λ (b : eqb l.says says_rows ≡ true). rows_growing (eqb-true _ _ b))
          (λ (b : eqb l.says says_rows ≡ false).
          by_cases _ (eqb l.says says_columns) (λ (c : eqb l.says says_columns ≡ true). columns_growing (eqb-true _ _ c))
          (λ (c : eqb l.says says_columns ≡ false). rw (none_taken a b c) g)))

-- ---- at Pin_list

pub record Grid (m : Map) : Type 0 where
  pub order : m.order - 1 < 3
  pub grid : is_grid (m.order - 1) m.rows m.columns ≡ true
  pub ordered : m.order - 1 < 2 → is_ordered m ≡ true

module _ (m : Map) (g : Growing m) (ready : either (eqb m.order 0) (both (is_ordered m) (either (eqb m.rows 0) (eqb m.columns 0))) ≡ false) where
  some_order : m.order ≡ 0 → ⊥
  some_order = eqb-false _ _ (either_none_first _ _ ready)

  module _ (o : is_ordered m ≡ true) where
    sizes_ready : either (eqb m.rows 0) (eqb m.columns 0) ≡ false
    sizes_ready = sym (both_rest _ _ o) ∙ either_none_second _ _ ready

    some_rows : m.rows ≡ 0 → ⊥
    some_rows = eqb-false _ _ (either_none_first _ _ sizes_ready)

    some_columns : m.columns ≡ 0 → ⊥
    some_columns = eqb-false _ _ (either_none_second _ _ sizes_ready)

    sizes_within : both (within 1 most_map_pins m.rows) (within 1 most_map_pins m.columns) ≡ true
    sizes_within =
        let r : m.rows ≡ 0 → ⊥ = some_rows in
        let c : m.columns ≡ 0 → ⊥ = some_columns in
        let a : 1 ≤ m.rows = omega arith in
        let b : 1 ≤ m.columns = omega arith in
        both_true _ _ (within_is 1 most_map_pins m.rows a g.rows) (within_is 1 most_map_pins m.columns b g.columns)

  ready_grid : Grid m
  unfolding is_grid
  ready_grid =
      let n : m.order ≡ 0 → ⊥ = some_order in
      let h : m.order ≤ 3 = g.order in
      let k : m.order - 1 < 3 = omega arith in
      record {
        order = k;
        grid =
            by_test (λ (b : Bool). b ≡ true) (eqb (m.order - 1) 2) _ _
            (λ (e : eqb (m.order - 1) 2 ≡ true).
            let f : m.order - 1 ≡ un_ordered = eqb-true _ _ e in
            let o : m.order ≡ un_ordered + 1 = omega arith in
            both_true _ _ (eq-eqb _ _ (g.rowless (third_unordered m o))) (eq-eqb _ _ (g.columnless (third_unordered m o))))
            (λ (e : eqb (m.order - 1) 2 ≡ false).
            let f : m.order - 1 ≡ un_ordered → ⊥ = eqb-false _ _ e in
            let a : 1 ≤ m.order = omega arith in
            let b : m.order ≤ 2 = omega arith in
            sizes_within (ordered m a b));
        ordered = λ (f : m.order - 1 < 2).
            let a : 1 ≤ m.order = omega arith in
            let b : m.order ≤ 2 = omega arith in
            ordered m a b;
      }

-- ---- one line above Pin_list

module _ (content : List ℕ) (m : Map) (kept : map_rule (map_line_of content) m ≡ 0) (g : Growing m) where
  pub next_growing : Growing (map_next (map_line_of content) m)
  next_growing = growing (map_line_of content) m kept (line_told content) g

  module _ (list : same (first_of (words content)) (bytes "Pin_list") ≡ true) where
    list_says_so : (map_line_of content).says ≡ says_pin_list
    list_says_so = pins_said content list

    -- Pin_list itself changes nothing
    pub list_keeps : map_next (map_line_of content) m ≡ m
    list_keeps =
        let e : (map_line_of content).says ≡ says_pin_list = list_says_so in
        none_taken (map_line_of content) m (ne_eqb _ _ (λ (z : (map_line_of content).says ≡ says_order). omega arith))
        (ne_eqb _ _ (λ (z : (map_line_of content).says ≡ says_rows). omega arith)) (ne_eqb _ _ (λ (z : (map_line_of content).says ≡ says_columns). omega arith))

    pub list_grid : Grid m
    list_grid = ready_grid m g (list_ready (map_line_of content) m kept list_says_so)
