-- The bounds of the state hold after each line without a keyword that breaks no rule: rule 17 is checked for every
-- count that such a line raises. And what each update requires: the sizes that it adds to are small.
-- Assumes nothing.
use Rattle.std.proofs.Common.{unwrap_or, Option}
use mathlib.Core.Path.{◌≡◌, refl, sym, ◌∙◌}
use mathlib.Core.Bool.{true, false}
use mathlib.Core.List.{List}
use Prim.Native.Nat.{ℕ, ◌+◌, ◌≤◌, ◌<◌}
use native.Mathlib.Omega.{arith}
use lib.Dec.{leb, eqb}
use borrow.Author.Tests.{eqb-true, eqb-false, leb-false, ltb-false, not-true}
use Rattle.table_layout.specs.Codes.{sparse}
use Rattle.table_layout.specs.Bounds.{most_pins, most_values, deepest, most_steps}
use Rattle.base.specs.If.{both}
use Rattle.base.specs.Refusal as refusal
use Rattle.base.proofs.IfLaws.{by_test, by_cases, both_first, both_second, both_rest, either_none_second}
use Rattle.base.proofs.BrokenLaws.{all_kept}
use Rattle.lex_line.specs.Words.{words, first_of}
use Rattle.lex_number.specs.Integer.{value_of, is_integer, whole_of}
use Rattle.lex_number.proofs.IntegerLaws.{integer_below}
use Rattle.line_place.specs.Place as place
use Rattle.line_path.specs.Path.{says_side, closed, path_line_of, is_step_line, open_rules}
use Rattle.line_path.specs.declared.Path.{Path}
use Rattle.line_path.specs.declared.PathLine.{PathLine}
use Rattle.line_path.proofs.RuleLaws.{closed_other, path_closed, path_open_lem}
use Rattle.line_path.proofs.DepthLaws.{depth_within}
use Rattle.line_path.specs.Way.Rule.{open_rule, path_rule}
use Rattle.line_map.specs.PinMap.{map_line_of, pin_rules}
use Rattle.line_map.specs.Way.Bounded.{BoundedMap}
use Rattle.line_map.specs.declared.Map.{Map}
use Rattle.line_map.proofs.MapLaws.{next_bounded, pin_bounded}
use Rattle.line_map.specs.Way.Rule.{pin_rule}
use Rattle.line_matrix.specs.Matrix.{sparse_line, numbers_line, data_line_of, are_too_many, data_rules}
use Rattle.line_matrix.specs.declared.Matrix.{Matrix}
use Rattle.line_matrix.specs.declared.DataLine.{DataLine}
use Rattle.line_matrix.specs.Way.Rule.{data_rule}
use Rattle.line_keyword.specs.Way.Bounded.{BoundedState}
use Rattle.line_keyword.specs.declared.State.{State}
use Rattle.line_keyword.proofs.KeptLaws.{more_within}
use Rattle.read_line.specs.Reading.{counts_after_line, line_next}
use Rattle.read_line.specs.Way.Steps.{line_rule}
use Rattle.read_line.proofs.ResultLaws.{rule_matrix, rule_path, rule_pins, rule_map}

-- ---- 17 in each place

-- a data line that breaks nothing exceeds no bound
pub data_fits : (l : DataLine) (m : Matrix) (values : ℕ) → data_rule l m values ≡ 0 → values + l.numbers ≤ most_values
unfolding data_rule are_too_many
data_fits l m values kept =
    ltb-false most_values (values + l.numbers)
    (all_kept
    (data_rules l m values)
    (omega arith, (omega arith, (omega arith, (omega arith, tt)))) kept 3)

-- before a pin line that breaks nothing there is room for one pin more
pub pin_total : (content : List ℕ) (m : Map) (total : ℕ) → pin_rule content m total ≡ 0 → total < most_pins
unfolding pin_rule
pin_total content m total kept =
    leb-false most_pins total
    (either_none_second _ _
    (all_kept (pin_rules content m total)
    (omega arith, (omega arith, tt)) kept 1))

module _ (l : PathLine) (p : Path) (steps : ℕ) where
  no_over : open_rule l p steps ≡ 0 → both (is_step_line l) (leb most_steps steps) ≡ false
  unfolding open_rule
  no_over kept =
      all_kept
      (open_rules l p steps)
      (omega arith, (omega arith, (omega arith, (omega arith, (omega arith, (omega arith, tt)))))) kept 5

  open_room : open_rule l p steps ≡ 0 → is_step_line l ≡ true → steps < most_steps
  open_room kept step = leb-false most_steps steps (sym (both_rest _ _ step) ∙ no_over kept)

  step_other : is_step_line l ≡ true → (l.says ≡ says_side → ⊥)
  unfolding is_step_line
  step_other step = eqb-false l.says says_side (not-true _ step)

  -- the same for a step that breaks nothing; a closed path takes none
  pub step_room : path_rule l p steps ≡ 0 → is_step_line l ≡ true → steps < most_steps
  step_room kept step =
      by_cases _ (eqb p.stage closed)
      (λ (e : eqb p.stage closed ≡ true).
      let z : refusal.line ≡ 0 = closed_other l p (step_other step) ∙ sym (path_closed l p steps e) ∙ kept in
      absurd (omega arith))
      (λ (e : eqb p.stage closed ≡ false). open_room (sym (path_open_lem l p steps e) ∙ kept) step)

-- ---- what the updates require, and the room of each count

pub grid_bounded : (n : ℕ) (s : State) → BoundedState n s → BoundedMap s.map
grid_bounded n s h = h.grid

module _ (content : List ℕ) (s : State) where
  pins_room : s.place ≡ place.pin_list → line_rule content s ≡ 0 → s.counts.pins < most_pins
  pins_room e kept = pin_total content s.map s.counts.pins (sym (rule_pins content s e) ∙ kept)

  steps_room : s.place ≡ place.path → line_rule content s ≡ 0 → is_step_line (path_line_of content) ≡ true → s.counts.steps < most_steps
  steps_room e kept step = step_room (path_line_of content) s.path s.counts.steps (sym (rule_path content s e) ∙ kept) step

  values_fit : s.place ≡ place.matrix → line_rule content s ≡ 0 → s.counts.values + (data_line_of s.matrix.form content).numbers ≤ most_values
  values_fit e kept = data_fits (data_line_of s.matrix.form content) s.matrix s.counts.values (sym (rule_matrix content s e) ∙ kept)

-- an integer has at most 9 digits
pub whole_most : (w : List ℕ) → unwrap_or (whole_of w) 0 ≤ 999_999_999
unfolding whole_of
whole_most w =
    by_test (λ (x : Option ℕ). unwrap_or x 0 ≤ 999_999_999) (is_integer w) _ _
    (λ (e : is_integer w ≡ true). let h : value_of 0 w < 1_000_000_000 = integer_below w e in omega arith)
    (λ (e : is_integer w ≡ false). omega arith)

-- the column that a line names fits into 32 bits
abbrev Narrow : DataLine → Type 0
Narrow l = l.column < 4_294_967_296

sparse_narrow : (ws : List (List ℕ)) → Narrow (sparse_line ws)
unfolding sparse_line
sparse_narrow ws =
    by_test Narrow _ _ _ (λ e. let h : unwrap_or (whole_of (first_of ws)) 0 ≤ 999_999_999 = whole_most (first_of ws) in omega arith) (λ e. omega arith)

numbers_narrow : (ws : List (List ℕ)) → Narrow (numbers_line ws)
unfolding numbers_line
numbers_narrow ws = omega arith

line_narrow : (form : ℕ) (content : List ℕ) → Narrow (data_line_of form content)
unfolding data_line_of
line_narrow form content =
    by_test Narrow (eqb form sparse) _ _ (λ e. sparse_narrow (words content)) (λ e. numbers_narrow (words content))

pub column_small : (form : ℕ) (content : List ℕ) (l : DataLine) → l ≡ data_line_of form content → l.column < 4_294_967_296
column_small form content l told = rw told (line_narrow form content)

-- ---- one line more

module _ (n : ℕ) (content : List ℕ) (s : State) (h : BoundedState n s) (kept : line_rule content s ≡ 0) where
  steps_kept : (counts_after_line content s).steps ≤ most_steps
  unfolding counts_after_line
  steps_kept =
      more_within _ _ most_steps
      (λ (b : both (eqb s.place place.path) (is_step_line (path_line_of content)) ≡ true).
      steps_room content s (eqb-true s.place place.path (both_first _ _ b)) kept (both_second _ _ b)) h.steps

  pins_kept : (counts_after_line content s).pins ≤ most_pins
  unfolding counts_after_line
  pins_kept =
      more_within _ _ most_pins
      (λ (b : eqb s.place place.pin_list ≡ true). pins_room content s (eqb-true s.place place.pin_list b) kept) h.pins

  values_kept : (counts_after_line content s).values ≤ most_values
  unfolding counts_after_line
  values_kept =
      by_test (λ (v : ℕ). v ≤ most_values) (eqb s.place place.matrix) _ _
      (λ (b : eqb s.place place.matrix ≡ true). values_fit content s (eqb-true s.place place.matrix b) kept)
      (λ (b : eqb s.place place.matrix ≡ false). h.values)

  depth_kept : (line_next content s).path.depth ≤ deepest
  unfolding line_next
  depth_kept =
      by_test (λ (p : Path). p.depth ≤ deepest) (eqb s.place place.path) _ _
      (λ (b : eqb s.place place.path ≡ true).
      depth_within (path_line_of content) s.path s.counts.steps (sym (rule_path content s (eqb-true s.place place.path b)) ∙ kept) h.depth)
      (λ (b : eqb s.place place.path ≡ false). h.depth)

  grid_kept : BoundedMap (line_next content s).map
  unfolding line_next
  grid_kept =
      by_test (λ (m : Map). BoundedMap m) (eqb s.place place.map_head) _ _
      (λ (b : eqb s.place place.map_head ≡ true).
      next_bounded content (map_line_of content) s.map refl (sym (rule_map content s (eqb-true s.place place.map_head b)) ∙ kept) h.grid)
      (λ (b : eqb s.place place.map_head ≡ false).
      by_test (λ (m : Map). BoundedMap m) (eqb s.place place.pin_list) _ _
      (λ (c : eqb s.place place.pin_list ≡ true). pin_bounded s.map h.grid)
      (λ (c : eqb s.place place.pin_list ≡ false). h.grid))

  pub line_kept : BoundedState (n + 1) (line_next content s)
  unfolding line_next counts_after_line
  line_kept =
      let m : s.counts.matrices ≤ n = h.matrices in
      record {
        models = h.models;
        steps = steps_kept;
        maps = h.maps;
        pins = pins_kept;
        sections = h.sections;
        matrices = omega arith;
        values = values_kept;
        depth = depth_kept;
        grid = grid_kept;
      }
