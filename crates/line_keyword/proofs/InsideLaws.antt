-- [Row] and [Bandwidth] inside a matrix: the rules they break and what is remembered after them depend on the matrix
-- alone. So a matrix can be judged without the rest of the state.
-- Assumes nothing.
use mathlib.Core.Path.{◌≡◌, refl, sym, ◌∙◌, ap}
use mathlib.Core.Bool.{true, false, true≢false}
use mathlib.Core.List.{List}
use Prim.Native.Nat.{ℕ}
use lib.Dec.{eqb}
use borrow.Author.Tests.{eqb-true, ne_eqb}
use Rattle.base.specs.If.{both, either, provided◌then◌else◌}
use Rattle.base.specs.Broken.{first}
use Rattle.base.proofs.IfLaws.{by_cases, either_rest, either_false}
use Rattle.lex_keyword.specs.Names.{row, bandwidth}
use Rattle.line_place.specs.Place.{moved, leads_in_matrix, opens_matrix, is_row_or_bandwidth, stands_in_header, opens_header_text}
use Rattle.line_place.specs.Place as place
use Rattle.line_keyword.specs.declared.State.{State}
use Rattle.line_keyword.specs.Keywords.{is_once, is_lacking, is_unclosed, is_repeated, is_misplaced, is_fork_open, is_matrix_broken, is_shape_broken, closes_too_wide, is_full, is_past_bound, seen_after, head_after, path_after, map_after, conductors_after, section_after, matrix_after, one_more_if, counts_after, keyword_next, is_too_late}
use Rattle.line_keyword.specs.Way.Row.{matrix_keyword_rule, matrix_keyword_next}
use Rattle.line_keyword.specs.Way.Rule.{keyword_rule}

-- a keyword that does not end a matrix is one of two
kept_by : (P : ℕ → Type 0) (k : ℕ) → is_row_or_bandwidth k ≡ true → P row → P bandwidth → P k
unfolding is_row_or_bandwidth
kept_by P k keeps r b =
    by_cases (P k) (eqb k row)
    (λ (e : eqb k row ≡ true). let f : k ≡ row = eqb-true k row e in rw f r)
    (λ (e : eqb k row ≡ false). let f : k ≡ bandwidth = eqb-true k bandwidth (sym (either_rest _ _ e) ∙ keeps) in rw f b)

-- a keyword that opens a matrix is neither of them
pub opens_closes : (k : ℕ) → opens_matrix k ≡ true → is_row_or_bandwidth k ≡ false
unfolding is_row_or_bandwidth opens_matrix either
opens_closes k opens =
    let other : (j : ℕ) → opens_matrix j ≡ false → eqb k j ≡ false =
    λ (j : ℕ) (g : opens_matrix j ≡ false). ne_eqb k j (λ (e : k ≡ j). true≢false (sym opens ∙ ap opens_matrix e ∙ g)) in
    either_false _ _ (other row refl) (other bandwidth refl)

-- the state after a keyword with which the matrix goes on
abbrev pub goes_on : ℕ → List ℕ → State → State
goes_on k argument s =
    record {
      place = s.place;
      seen = s.seen;
      head = s.head;
      path = s.path;
      map = s.map;
      section = s.section;
      matrix = matrix_keyword_next k argument s.matrix s.counts.values;
      counts = s.counts;
    }

module _ (argument : List ℕ) (s : State) (inside : s.place ≡ place.matrix) where
  row_rule : keyword_rule row argument s ≡ matrix_keyword_rule row argument s.matrix
  unfolding keyword_rule matrix_keyword_rule first is_fork_open is_misplaced moved leads_in_matrix is_row_or_bandwidth is_unclosed is_repeated is_once stands_in_header opens_header_text opens_matrix is_lacking is_too_late is_shape_broken is_matrix_broken is_past_bound closes_too_wide is_full provided◌then◌else◌ both either
  row_rule = rw inside

  bandwidth_rule : keyword_rule bandwidth argument s ≡ matrix_keyword_rule bandwidth argument s.matrix
  unfolding keyword_rule matrix_keyword_rule first is_fork_open is_misplaced moved leads_in_matrix is_row_or_bandwidth is_unclosed is_repeated is_once stands_in_header opens_header_text opens_matrix is_lacking is_too_late is_shape_broken is_matrix_broken is_past_bound closes_too_wide is_full provided◌then◌else◌ both either
  bandwidth_rule = rw inside

  row_next : keyword_next row argument s ≡ goes_on row argument s
  unfolding keyword_next matrix_keyword_next moved leads_in_matrix is_row_or_bandwidth opens_matrix seen_after head_after path_after map_after section_after conductors_after matrix_after counts_after one_more_if provided◌then◌else◌ either
  row_next = rw inside

  bandwidth_next : keyword_next bandwidth argument s ≡ goes_on bandwidth argument s
  unfolding keyword_next matrix_keyword_next moved leads_in_matrix is_row_or_bandwidth opens_matrix seen_after head_after path_after map_after section_after conductors_after matrix_after counts_after one_more_if provided◌then◌else◌ either
  bandwidth_next = rw inside

  module _ (k : ℕ) (keeps : is_row_or_bandwidth k ≡ true) where
    pub matrix_keyword_rule_is : keyword_rule k argument s ≡ matrix_keyword_rule k argument s.matrix
    matrix_keyword_rule_is = kept_by (λ (j : ℕ). keyword_rule j argument s ≡ matrix_keyword_rule j argument s.matrix) k keeps row_rule bandwidth_rule

    pub matrix_keyword_next_is : keyword_next k argument s ≡ goes_on k argument s
    matrix_keyword_next_is = kept_by (λ (j : ℕ). keyword_next j argument s ≡ goes_on j argument s) k keeps row_next bandwidth_next
