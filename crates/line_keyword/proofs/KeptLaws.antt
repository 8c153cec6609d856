-- The bounds of the state hold before the first line and after each keyword that breaks no rule. Rule 17 bounds every
-- count that a keyword raises, except that of the matrices, of which a line opens at most one.
-- Assumes nothing.
use mathlib.Core.Path.{◌≡◌, sym, ◌∙◌}
use mathlib.Core.Bool.{Bool, true, false}
use mathlib.Core.List.{List}
use Prim.Native.Nat.{ℕ, ◌+◌, ◌^◌, ◌≤◌, ◌<◌}
use native.Mathlib.Nat.{le_trans, lt_of_le_of_lt}
use native.Mathlib.Omega.{arith}
use lib.Dec.{eqb}
use borrow.Author.Tests.{eqb-true, ne_eqb, leb-false}
use Rattle.table_layout.specs.Bounds.{most_models, most_maps, most_sections, deepest}
use Rattle.base.proofs.IfLaws.{if_true, if_false, by_test, either_none_second}
use Rattle.base.proofs.BrokenLaws.{Numbered, all_kept}
use Rattle.lex_keyword.specs.Names.{begin_icm_model, icm_pin_map, begin_icm_section, tree_path_description}
use Rattle.line_place.specs.Place.{opens_matrix}
use Rattle.line_argument.specs.Argument.{is_out_of_bounds}
use Rattle.line_path.specs.Path.{new_path}
use Rattle.line_path.specs.declared.Path.{Path}
use Rattle.line_path.proofs.DepthLaws.{new_outside}
use Rattle.line_map.specs.Way.Bounded.{BoundedMap}
use Rattle.line_map.specs.declared.Map.{Map}
use Rattle.line_map.proofs.MapLaws.{new_bounded}
use Rattle.line_keyword.specs.declared.Counts.{Counts}
use Rattle.line_keyword.specs.declared.State.{State}
use Rattle.line_keyword.specs.State.{start_state, no_counts}
use Rattle.line_keyword.specs.Way.Bounded.{Countable, BoundedState}
use Rattle.line_keyword.specs.Keywords.{is_full, is_past_bound, keyword_rules, path_after, map_after, one_more_if, counts_after, keyword_next}
use Rattle.line_keyword.specs.Way.Rule.{keyword_rule}

-- a new path is outside every fork block
new_shallow : new_path.depth ≤ deepest
new_shallow =
    let e : new_path.depth ≡ 0 = new_outside in
    omega arith

pub start_kept : BoundedState 0 start_state
unfolding start_state no_counts
start_kept =
    record {
      models = omega arith;
      steps = omega arith;
      maps = omega arith;
      pins = omega arith;
      sections = omega arith;
      matrices = omega arith;
      values = omega arith;
      depth = new_shallow;
      grid = new_bounded;
    }

-- ---- the rules of a keyword that breaks none

module _ (k : ℕ) (argument : List ℕ) (s : State) where
  numbered : Numbered (keyword_rules k argument s)
  numbered = (omega arith, (omega arith, (omega arith, (omega arith, (omega arith, (omega arith, (omega arith, tt)))))))

  module _ (kept : keyword_rule k argument s ≡ 0) where
    pub keyword_bounds : is_out_of_bounds k argument ≡ false
    unfolding keyword_rule
    keyword_bounds = all_kept (keyword_rules k argument s) numbered kept 4

    keyword_few : is_past_bound k s ≡ false
    unfolding keyword_rule
    keyword_few = all_kept (keyword_rules k argument s) numbered kept 6

    keyword_room : is_full k s.counts ≡ false
    unfolding is_past_bound
    keyword_room = either_none_second _ _ keyword_few

-- ---- the counts

-- a count that is raised only when it is below its bound
pub more_within : (b : Bool) (count most : ℕ) → (b ≡ true → count < most) → count ≤ most → one_more_if b count ≤ most
unfolding one_more_if
more_within b count most room within =
    by_test (λ (n : ℕ). n ≤ most) b _ _
    (λ (e : b ≡ true). let h : count < most = room e in omega arith)
    (λ (e : b ≡ false). within)

-- a count that no rule bounds
more_counted : (b : Bool) (count n : ℕ) → count ≤ n → one_more_if b count ≤ n + 1
unfolding one_more_if
more_counted b count n within =
    by_test (λ (m : ℕ). m ≤ n + 1) b _ _ (λ (e : b ≡ true). omega arith) (λ (e : b ≡ false). omega arith)

module _ (k : ℕ) (c : Counts) (room : is_full k c ≡ false) where
  models_room : eqb k begin_icm_model ≡ true → c.models < most_models
  unfolding is_full
  models_room e = leb-false most_models c.models (sym (if_true _ _ e) ∙ room)

  maps_room : eqb k icm_pin_map ≡ true → c.maps < most_maps
  unfolding is_full
  maps_room e =
      let f : k ≡ icm_pin_map = eqb-true k icm_pin_map e in
      let n : eqb k begin_icm_model ≡ false = ne_eqb k begin_icm_model (λ (g : k ≡ begin_icm_model). omega arith) in
      leb-false most_maps c.maps (sym (if_false _ _ n ∙ if_true _ _ e) ∙ room)

  sections_room : eqb k begin_icm_section ≡ true → c.sections < most_sections
  unfolding is_full
  sections_room e =
      let f : k ≡ begin_icm_section = eqb-true k begin_icm_section e in
      let n : eqb k begin_icm_model ≡ false = ne_eqb k begin_icm_model (λ (g : k ≡ begin_icm_model). omega arith) in
      let m : eqb k icm_pin_map ≡ false = ne_eqb k icm_pin_map (λ (g : k ≡ icm_pin_map). omega arith) in
      leb-false most_sections c.sections (sym (if_false _ _ n ∙ if_false _ _ m ∙ if_true _ _ e) ∙ room)

-- ---- the path and the map

path_shallow : (k : ℕ) (p : Path) → p.depth ≤ deepest → (path_after k p).depth ≤ deepest
unfolding path_after
path_shallow k p h =
    by_test (λ (q : Path). q.depth ≤ deepest) (eqb k tree_path_description) _ _
    (λ (e : eqb k tree_path_description ≡ true). new_shallow)
    (λ (e : eqb k tree_path_description ≡ false). h)

map_bounded : (k : ℕ) (m : Map) → BoundedMap m → BoundedMap (map_after k m)
unfolding map_after
map_bounded k m h =
    by_test (λ (q : Map). BoundedMap q) (eqb k icm_pin_map) _ _
    (λ (e : eqb k icm_pin_map ≡ true). new_bounded)
    (λ (e : eqb k icm_pin_map ≡ false). h)

-- ---- one more line

pub keyword_kept : (n k : ℕ) (argument : List ℕ) (s : State) → BoundedState n s → keyword_rule k argument s ≡ 0 → BoundedState (n + 1) (keyword_next k argument s)
unfolding keyword_next counts_after
keyword_kept n k argument s h e =
    let room : is_full k s.counts ≡ false = keyword_room k argument s e in
    record {
      models = more_within _ _ most_models (models_room k s.counts room) h.models;
      steps = h.steps;
      maps = more_within _ _ most_maps (maps_room k s.counts room) h.maps;
      pins = h.pins;
      sections = more_within _ _ most_sections (sections_room k s.counts room) h.sections;
      matrices = more_counted (opens_matrix k) s.counts.matrices n h.matrices;
      values = h.values;
      depth = path_shallow k s.path h.depth;
      grid = map_bounded k s.map h.grid;
    }

-- ---- what follows from it

-- the four counts that a keyword raises are below 2 ^ 63, if fewer lines than that have been read
pub kept_countable : (n : ℕ) (s : State) → BoundedState n s → n < 2 ^ 63 → Countable s.counts
kept_countable n s h b =
    record {
      models = lt_of_le_of_lt h.models (omega arith);
      maps = lt_of_le_of_lt h.maps (omega arith);
      sections = lt_of_le_of_lt h.sections (omega arith);
      matrices = lt_of_le_of_lt h.matrices b;
    }

-- the bounds hold for any greater number of lines too
pub kept_more : (n m : ℕ) (s : State) → BoundedState n s → n ≤ m → BoundedState m s
kept_more n m s h b =
    record {
      models = h.models;
      steps = h.steps;
      maps = h.maps;
      pins = h.pins;
      sections = h.sections;
      matrices = le_trans h.matrices b;
      values = h.values;
      depth = h.depth;
      grid = h.grid;
    }
