-- Laws of a map while it is read: how the tests of the code decide its rules, and that its sizes are at most 256 while
-- no rule is broken.
-- Assumes nothing.
use mathlib.Core.Path.{◌≡◌, sym, ◌∙◌}
use mathlib.Core.Bool.{Bool, true, false}
use mathlib.Core.List.{List}
use Prim.Native.Nat.{ℕ, ◌*◌, ◌≤◌, ◌<◌}
use native.Mathlib.Nat.{mul-le-mul}
use native.Mathlib.Omega.{arith}
use lib.Dec.{eqb, leb}
use borrow.Author.Tests.{not-false, leb-false}
use Rattle.table_layout.specs.Bounds.{most_pins, most_map_pins}
use Rattle.base.specs.If.{provided◌then◌else◌, both, either}
use Rattle.base.specs.Bytes.{bytes}
use Rattle.base.specs.Runs.{same}
use Rattle.base.proofs.IfLaws.{by_test, either_none_first}
use Rattle.base.proofs.BrokenLaws.{all_kept}
use Rattle.lex_line.specs.Words.{words, first_of, second_of, right_of}
use Rattle.lex_number.proofs.IntegerLaws.{whole_most}
use Rattle.line_map.specs.declared.Map.{Map}
use Rattle.line_map.specs.declared.MapLine.{MapLine}
use Rattle.line_map.specs.PinMap.{says_order, says_columns, says_rows, order_of, wrong_map_line, order_line, list_line, size_line, map_line_of, new_map, is_map_out_of_order, map_rules, map_next, pin_rules, with_pin}
use Rattle.line_map.specs.Way.Bounded.{BoundedMap}
use Rattle.line_map.specs.Way.Rule.{map_rule, pin_rule}

-- t says whether the line is out of order
module _ (l : MapLine) (m : Map) (t : Bool) (told : t ≡ is_map_out_of_order l m) where
  pub out_of_order : t ≡ true → is_map_out_of_order l m ≡ true
  out_of_order h = sym told ∙ h

  pub in_order : t ≡ false → is_map_out_of_order l m ≡ false
  in_order h = sym told ∙ h

pub next_map : (l : MapLine) (m : Map) (o r k : ℕ) → o ≡ (provided eqb l.says says_order then l.value else m.order) → r ≡ (provided eqb l.says says_rows then l.value else m.rows) → k ≡ (provided eqb l.says says_columns then l.value else m.columns) → record { order = o; rows = r; columns = k; pins = m.pins } ≡ map_next l m
unfolding map_next
next_map l m o r k e f g = λ i. record { order = e i; rows = f i; columns = g i; pins = m.pins }

-- a grid of at most 256 by 256
pub grid_most : (m : Map) → BoundedMap m → m.rows * m.columns ≤ most_map_pins * most_map_pins
grid_most m b = mul-le-mul b.few_rows b.few_columns

-- ---- what stays true from line to line

-- no line gives more than 256
abbrev Small : MapLine → Type 0
Small l = l.bounded ≡ true → l.value ≤ most_map_pins

order_most : (w : List ℕ) → order_of w ≤ most_map_pins
unfolding order_of
order_most w =
    by_test (λ (n : ℕ). n ≤ most_map_pins) (same w (bytes "Row_ordered")) _ _ (λ e. omega arith)
    (λ e. by_test (λ (n : ℕ). n ≤ most_map_pins) (same w (bytes "Column_ordered")) _ _ (λ f. omega arith)
    (λ f. by_test (λ (n : ℕ). n ≤ most_map_pins) (same w (bytes "Un_ordered")) _ _ (λ g. omega arith) (λ g. omega arith)))

wrong_small : (says : ℕ) → Small (wrong_map_line says)
unfolding wrong_map_line
wrong_small says b = omega arith

order_small : (ws : List (List ℕ)) → Small (order_line ws)
unfolding order_line
order_small ws = by_test Small (both _ _) _ _ (λ e b. order_most (second_of ws)) (λ e. wrong_small says_order)

list_small : (ws : List (List ℕ)) → Small (list_line ws)
unfolding list_line
list_small ws = by_test Small _ _ _ (λ e b. omega arith) (λ e. wrong_small _)

size_small : (says : ℕ) (content : List ℕ) → Small (size_line says content)
unfolding size_line
size_small says content = by_test Small _ _ _ (λ e b. whole_most 1 most_map_pins (first_of (right_of content)) b) (λ e. wrong_small says)

line_small : (content : List ℕ) → Small (map_line_of content)
unfolding map_line_of
line_small content =
    by_test Small _ _ _ (λ e. order_small (words content))
    (λ e. by_test Small _ _ _ (λ f. list_small (words content))
    (λ f. by_test Small _ _ _ (λ g. size_small says_columns content)
    (λ g. by_test Small _ _ _ (λ h. size_small says_rows content) (λ h b. omega arith))))

-- the number of a line that breaks no rule is within its bounds
kept_bounded : (l : MapLine) (m : Map) → map_rule l m ≡ 0 → l.bounded ≡ true
unfolding map_rule
kept_bounded l m e = not-false l.bounded (all_kept (map_rules l m) (omega arith, (omega arith, (omega arith, (omega arith, tt)))) e 3)

pub new_bounded : BoundedMap new_map
unfolding new_map
new_bounded = record { few_rows = omega arith; few_columns = omega arith }

pub pin_bounded : (m : Map) → BoundedMap m → BoundedMap (with_pin m)
unfolding with_pin
pin_bounded m b = record { few_rows = b.few_rows; few_columns = b.few_columns }

-- after a line that breaks no rule the sizes are still at most 256
pub next_bounded : (content : List ℕ) (l : MapLine) (m : Map) → l ≡ map_line_of content → map_rule l m ≡ 0 → BoundedMap m → BoundedMap (map_next l m)
unfolding map_next
next_bounded content l m told e b =
    let k : (map_line_of content).bounded ≡ true = rw told at (kept_bounded l m e) in
    let h : l.value ≤ most_map_pins = rw told (line_small content k) in
    record {
      few_rows = by_test (λ (n : ℕ). n ≤ most_map_pins) (eqb l.says says_rows) _ _ (λ f. h) (λ f. b.few_rows);
      few_columns = by_test (λ (n : ℕ). n ≤ most_map_pins) (eqb l.says says_columns) _ _ (λ f. h) (λ f. b.few_columns);
    }

-- a pin that breaks no rule is at most the 256th
pub pin_fits : (content : List ℕ) (m : Map) (total : ℕ) → pin_rule content m total ≡ 0 → m.pins < most_map_pins
unfolding pin_rule
pin_fits content m total e =
    let k : either (leb most_map_pins m.pins) (leb most_pins total) ≡ false = all_kept (pin_rules content m total) (omega arith, (omega arith, tt)) e 1 in
    omega (arith, leb-false most_map_pins m.pins (either_none_first _ _ k))
