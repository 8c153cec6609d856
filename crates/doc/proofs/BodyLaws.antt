-- A matrix as the forward reading reaches it: what a line in the place of a matrix does if it breaks no rule, and so
-- what the lines from a state on are, up to the end of the section.
-- Assumes nothing.
use Rattle.std.proofs.Common.{is_some, unwrap_or}
use Prim.Native.Nat.{ℕ, ◌+◌, ◌≤◌}
use mathlib.Core.Path.{◌≡◌, refl, sym, ◌∙◌, ap}
use mathlib.Core.Bool.{true, false, true≢false}
use mathlib.Core.List.{List, [], ◌∷◌}
use native.Mathlib.Omega.{arith}
use lib.ListN.{get_or}
use lib.Dec.{eqb}
use borrow.Author.Tests.{eq-eqb, ne_eqb, eqb-true, eqb-false, leb-true, ltb-false, not-false}
use Rattle.base.specs.If.{provided◌then◌else◌, both, either}
use Rattle.base.specs.Bytes.{within}
use Rattle.base.specs.Broken.{Rule, ◌when◌}
use Rattle.base.proofs.IfLaws.{
  if_true,
  if_false,
  by_test,
  by_cases,
  both_first,
  both_second,
  both_rest,
  either_false,
  either_none_first,
  not_via,
  not_not_via,
}
use Rattle.base.proofs.BrokenLaws.{sound, all_kept}
use Rattle.lex_number.specs.Integer.{whole_of}
use Rattle.lex_number.proofs.IntegerLaws.{whole_within}
use Rattle.lex_keyword.specs.Names.{row, bandwidth, end_icm_section, derivation_method, begin_icm_section}
use Rattle.line_place.specs.Place.{dead, opens_matrix, is_row_or_bandwidth, moved, moved_by_line, leads_in_section, leads_in_matrix, is_in_model, is_in_family, is_in_header}
use Rattle.line_place.specs.Place as place
use Rattle.line_argument.specs.Argument.{form_of, is_bad_argument, is_bad_integer, is_out_of_bounds}
use Rattle.line_matrix.specs.declared.Matrix.{Matrix}
use Rattle.line_matrix.specs.Matrix.{new_matrix, is_wrong_row, is_wrong_bandwidth, is_wrong_shape, is_too_wide, with_row, with_bandwidth, data_line_of, data_next, shape_conductors}
use Rattle.line_matrix.specs.Way.Rule.{data_rule}
use Rattle.line_keyword.specs.declared.State.{State}
use Rattle.line_keyword.proofs.InsideLaws.{opens_closes}
use Rattle.line_keyword.specs.declared.Section.{Section}
use Rattle.line_keyword.specs.Keywords.{is_fork_open, is_misplaced, is_shape_broken, is_past_bound, is_matrix_broken, is_wrong_in_matrix, closes_too_wide, conductors_after, section_after, matrix_after, counts_after, keyword_next}
use Rattle.line_keyword.specs.Way.Rule.{keyword_rule}
use Rattle.read_line.specs.Reading.{line_next, counts_after_line}
use Rattle.read_line.proofs.ResultLaws.{rule_matrix}
use Rattle.read_line.specs.Way.Steps.{line_rule}
use Rattle.doc.specs.Lines.{Line}
use Rattle.doc.proofs.ShapeLaws.{Follows, Widens, Closed, Body, closed_told, row_told, width_told}
use Rattle.table_layout.specs.Bounds.{most_conductors, most_bandwidth}
use Rattle.table_layout.specs.Codes.{matrix_forms}

-- ---- a line without a keyword

module _ (content : List ℕ) (s : State) (p : s.place ≡ place.matrix) where
  pub data_rule_lem : line_rule content s ≡ data_rule (data_line_of s.matrix.form content) s.matrix s.counts.values
  data_rule_lem = rule_matrix content s p

  data_place : (line_next content s).place ≡ place.matrix
  unfolding line_next moved_by_line provided◌then◌else◌
  data_place = rw p

  data_conductors : (line_next content s).section.conductors ≡ s.section.conductors
  unfolding line_next
  data_conductors = refl

  data_matrix : (line_next content s).matrix ≡ data_next (data_line_of s.matrix.form content) s.matrix
  unfolding line_next
  data_matrix = if_true _ _ (eq-eqb _ _ p)

  data_values : (line_next content s).counts.values ≡ s.counts.values + (data_line_of s.matrix.form content).numbers
  unfolding line_next counts_after_line
  data_values = if_true _ _ (eq-eqb _ _ p)

-- ---- a keyword that breaks no rule

module _ (k : ℕ) (argument : List ℕ) (s : State) (kept : keyword_rule k argument s ≡ 0) where
  -- the tests of its rules, in their order
  abbrev tests : List Rule
  tests =
      15 when is_fork_open s
      ∷ 9 when is_misplaced k s
      ∷ 11 when is_bad_argument k argument
      ∷ 13 when is_bad_integer k argument
      ∷ 14 when is_out_of_bounds k argument
      ∷ 16 when is_shape_broken k argument s
      ∷ 17 when is_past_bound k s
      ∷ []

  test_kept : (i : ℕ) → (get_or tests i sound).broken ≡ false
  unfolding keyword_rule
  test_kept i =
      all_kept tests (omega arith, (omega arith, (omega arith, (omega arith, (omega arith, (omega arith, (omega arith, tt))))))) kept i

  pub keyword_argument : is_bad_argument k argument ≡ false
  keyword_argument = test_kept 2

  keyword_integer : is_bad_integer k argument ≡ false
  keyword_integer = test_kept 3

  pub keyword_bounds : is_out_of_bounds k argument ≡ false
  keyword_bounds = test_kept 4

  pub keyword_misplaced : is_misplaced k s ≡ false
  keyword_misplaced = test_kept 1

  pub keyword_shaped : is_shape_broken k argument s ≡ false
  keyword_shaped = test_kept 5

  -- it leads to some place
  pub keyword_leads : moved s.place k ≡ dead → ⊥
  unfolding is_misplaced
  keyword_leads = eqb-false _ _ (either_none_first _ _ keyword_misplaced)

  module _ (p : s.place ≡ place.matrix) where
    matrix_kept : is_matrix_broken k argument s ≡ false
    unfolding is_shape_broken
    matrix_kept = sym (if_true _ _ (eq-eqb _ _ p)) ∙ keyword_shaped

    module _ (keeps : is_row_or_bandwidth k ≡ true) where
      inside_kept : is_wrong_in_matrix k (whole_of argument) s.matrix ≡ false
      unfolding is_matrix_broken
      inside_kept = sym (if_true _ _ keeps) ∙ matrix_kept

    module _ (closes : is_row_or_bandwidth k ≡ false) where
      shape_kept : is_wrong_shape s.matrix s.section.conductors s.counts.values ≡ false
      unfolding is_matrix_broken
      shape_kept = sym (if_false _ _ closes) ∙ matrix_kept

      wide_kept : is_too_wide s.matrix s.counts.values ≡ false
      unfolding is_past_bound closes_too_wide
      wide_kept =
          sym (both_rest _ _ (eq-eqb _ _ p) ∙ both_rest _ _ (not_via closes)) ∙ either_none_first _ _ (test_kept 6)

      pub keyword_closes :
          Closed s.section.conductors (shape_conductors s.matrix s.counts.values) s.matrix s.counts.values
      keyword_closes = closed_told s.section.conductors s.matrix s.counts.values shape_kept wide_kept

-- [Row]
module _ (argument : List ℕ) (s : State) (kept : keyword_rule row argument s ≡ 0) (p : s.place ≡ place.matrix) where
  row_formed : is_some (whole_of argument) ≡ true
  unfolding is_bad_integer is_row_or_bandwidth either both
  row_formed = not-false _ (keyword_integer row argument s kept)

  row_within : within 1 most_conductors (unwrap_or (whole_of argument) 0) ≡ true
  unfolding is_out_of_bounds provided◌then◌else◌
  row_within = sym (whole_within 1 most_conductors (whole_of argument) row_formed) ∙ not-false _ (keyword_bounds row argument s kept)

  row_right : is_wrong_row (unwrap_or (whole_of argument) 0) s.matrix ≡ false
  unfolding is_wrong_in_matrix is_row_or_bandwidth either provided◌then◌else◌
  row_right = sym (both_rest _ _ row_formed) ∙ inside_kept row argument s kept p refl

  pub row_follows : Follows s.matrix (unwrap_or (whole_of argument) 0)
  unfolding within
  row_follows =
      row_told s.matrix (unwrap_or (whole_of argument) 0) row_right (leb-true _ _ (both_first _ _ row_within))
      (leb-true _ _ (both_second _ _ row_within))

-- [Bandwidth]
module _ (argument : List ℕ) (s : State) (kept : keyword_rule bandwidth argument s ≡ 0) (p : s.place ≡ place.matrix) where
  width_most : unwrap_or (whole_of argument) 0 ≤ most_bandwidth
  unfolding is_out_of_bounds provided◌then◌else◌
  width_most = ltb-false _ _ (keyword_bounds bandwidth argument s kept)

  width_right : is_wrong_bandwidth s.matrix ≡ false
  unfolding is_wrong_in_matrix is_row_or_bandwidth either provided◌then◌else◌
  width_right = inside_kept bandwidth argument s kept p refl

  pub width_widens : Widens s.matrix (unwrap_or (whole_of argument) 0)
  width_widens = width_told s.matrix (unwrap_or (whole_of argument) 0) width_right width_most

-- ---- the state after a line that keeps the matrix open, or opens one

pub record Onward (s : State) (known : ℕ) (m : Matrix) (v : ℕ) : Type 0 where
  pub place : s.place ≡ place.matrix
  pub conductors : s.section.conductors ≡ known
  pub matrix : s.matrix ≡ m
  pub values : s.counts.values ≡ v

pub onward_body :
    (s : State) (known n w : ℕ) (m : Matrix) (v : ℕ) (ls : List Line) →
    Onward s known m v → Body s.section.conductors n w s.matrix s.counts.values ls → Body known n w m v ls
onward_body s known n w m v ls o b = rw (o.conductors, o.matrix, o.values) at b

pub data_onward :
    (content : List ℕ) (s : State) → s.place ≡ place.matrix →
    Onward (line_next content s) s.section.conductors (data_next (data_line_of s.matrix.form content) s.matrix)
    (s.counts.values + (data_line_of s.matrix.form content).numbers)
data_onward content s p =
    record {
      place = data_place content s p;
      conductors = data_conductors content s p;
      matrix = data_matrix content s p;
      values = data_values content s p;
    }

pub row_onward :
    (argument : List ℕ) (s : State) → s.place ≡ place.matrix →
    Onward (keyword_next row argument s) s.section.conductors (with_row (unwrap_or (whole_of argument) 0) s.matrix s.counts.values)
    s.counts.values
unfolding keyword_next moved leads_in_matrix section_after conductors_after matrix_after counts_after is_row_or_bandwidth opens_matrix either provided◌then◌else◌
row_onward argument s p = record { place = rw p; conductors = rw p; matrix = refl; values = refl }

pub width_onward :
    (argument : List ℕ) (s : State) → s.place ≡ place.matrix →
    Onward (keyword_next bandwidth argument s) s.section.conductors (with_bandwidth (unwrap_or (whole_of argument) 0) s.matrix)
    s.counts.values
unfolding keyword_next moved leads_in_matrix section_after conductors_after matrix_after counts_after is_row_or_bandwidth opens_matrix either provided◌then◌else◌
width_onward argument s p = record { place = rw p; conductors = rw p; matrix = refl; values = refl }

-- a keyword that opens a matrix is none of the others
kind_other : (k : ℕ) → opens_matrix k ≡ true → (j : ℕ) → opens_matrix j ≡ false → eqb k j ≡ false
kind_other k h j g = ne_eqb k j (λ (e : k ≡ j). true≢false (sym h ∙ ap opens_matrix e ∙ g))

module _ (k : ℕ) (opens : opens_matrix k ≡ true) where
  opens_section_lem : eqb k begin_icm_section ≡ false
  unfolding opens_matrix either
  opens_section_lem = kind_other k opens begin_icm_section refl

  opens_method : eqb k derivation_method ≡ false
  unfolding opens_matrix either
  opens_method = kind_other k opens derivation_method refl

  open_leads : leads_in_section k ≡ place.matrix
  unfolding leads_in_section
  open_leads = if_true _ _ opens

  module _ (argument : List ℕ) (s : State) where
    open_conductors : (keyword_next k argument s).section.conductors ≡ conductors_after k s
    unfolding keyword_next section_after
    open_conductors = ap (λ (x : Section). x.conductors) (if_false _ _ opens_section_lem ∙ if_false _ _ opens_method)

    open_matrix_lem : (keyword_next k argument s).matrix ≡ new_matrix (form_of argument) s.counts.values
    unfolding keyword_next matrix_after
    open_matrix_lem = if_true _ _ opens

    open_values : (keyword_next k argument s).counts.values ≡ s.counts.values
    unfolding keyword_next counts_after
    open_values = refl

    module _ (p : s.place ≡ place.matrix) where
      next_place : (keyword_next k argument s).place ≡ place.matrix
      unfolding keyword_next moved leads_in_matrix
      next_place = if_true _ _ (eq-eqb _ _ p) ∙ if_false _ _ (opens_closes k opens) ∙ open_leads

      next_conductors : conductors_after k s ≡ shape_conductors s.matrix s.counts.values
      unfolding conductors_after
      next_conductors = if_false _ _ (not_not_via (eq-eqb _ _ p)) ∙ if_false _ _ (opens_closes k opens)

      -- in the place of a matrix, which it closes
      pub next_onward :
          Onward (keyword_next k argument s) (shape_conductors s.matrix s.counts.values)
          (new_matrix (form_of argument) s.counts.values) s.counts.values
      next_onward =
          record { place = next_place; conductors = open_conductors ∙ next_conductors; matrix = open_matrix_lem; values = open_values }

    module _ (p : s.place ≡ place.section) where
      first_place : (keyword_next k argument s).place ≡ place.matrix
      unfolding keyword_next moved is_in_model is_in_family is_in_header either provided◌then◌else◌
      first_place = rw p open_leads

      first_conductors : conductors_after k s ≡ s.section.conductors
      unfolding conductors_after
      first_conductors = if_true _ _ (not_via (ap (λ (x : ℕ). eqb x place.matrix) p))

      -- the first of a section
      pub first_onward :
          Onward (keyword_next k argument s) s.section.conductors (new_matrix (form_of argument) s.counts.values) s.counts.values
      first_onward =
          record { place = first_place; conductors = open_conductors ∙ first_conductors; matrix = open_matrix_lem; values = open_values }

-- ---- the forms and the keys

form_known : (argument : List ℕ) → form_of argument ≤ matrix_forms
unfolding form_of
form_known argument =
    by_test (λ (n : ℕ). n ≤ 4) _ _ _ (λ e. omega arith)
    (λ e. by_test (λ (n : ℕ). n ≤ 4) _ _ _ (λ e. omega arith)
    (λ e. by_test (λ (n : ℕ). n ≤ 4) _ _ _ (λ e. omega arith)
    (λ e. by_test (λ (n : ℕ). n ≤ 4) _ _ _ (λ e. omega arith) (λ e. omega arith))))

-- a matrix that opens has one of the four forms
pub open_form : (k : ℕ) (argument : List ℕ) → opens_matrix k ≡ true → is_bad_argument k argument ≡ false → form_of argument ≤ 3
unfolding is_bad_argument
open_form k argument opens h =
    let e : form_of argument ≡ matrix_forms → ⊥ = eqb-false _ _ (sym (if_false _ _ (opens_closes k opens) ∙ if_true _ _ opens) ∙ h) in
    let g : form_of argument ≤ matrix_forms = form_known argument in
    omega arith

-- the keywords that are allowed in a matrix
pub data MatrixKey (k : ℕ) : Type 0 where
  is_row : k ≡ row → MatrixKey k
  is_width : k ≡ bandwidth → MatrixKey k
  opens : opens_matrix k ≡ true → MatrixKey k
  leaves : k ≡ end_icm_section → MatrixKey k

-- those that are allowed in a section before its first matrix
pub data SectionKey (k : ℕ) : Type 0 where
  opens : opens_matrix k ≡ true → SectionKey k
  leaves : k ≡ end_icm_section → SectionKey k

pub section_key : (k : ℕ) → (leads_in_section k ≡ dead → ⊥) → SectionKey k
unfolding leads_in_section
section_key k h =
    by_cases (SectionKey k) (opens_matrix k) (λ (e : opens_matrix k ≡ true). SectionKey.opens e)
    (λ (e : opens_matrix k ≡ false).
    by_cases (SectionKey k) (eqb k end_icm_section) (λ (f : eqb k end_icm_section ≡ true). SectionKey.leaves (eqb-true _ _ f))
    (λ (f : eqb k end_icm_section ≡ false). absurd (h (if_false _ _ e ∙ if_false _ _ f))))

matrix_else : (k : ℕ) → SectionKey k → MatrixKey k
matrix_else k (SectionKey.opens h) = MatrixKey.opens h
matrix_else k (SectionKey.leaves h) = MatrixKey.leaves h

pub matrix_key : (k : ℕ) → (leads_in_matrix k ≡ dead → ⊥) → MatrixKey k
unfolding leads_in_matrix is_row_or_bandwidth
matrix_key k h =
    by_cases (MatrixKey k) (eqb k row) (λ (e : eqb k row ≡ true). is_row (eqb-true _ _ e))
    (λ (e : eqb k row ≡ false).
    by_cases (MatrixKey k) (eqb k bandwidth) (λ (f : eqb k bandwidth ≡ true). is_width (eqb-true _ _ f))
    (λ (f : eqb k bandwidth ≡ false).
    matrix_else k (section_key k (λ (g : leads_in_section k ≡ dead). h (if_false _ _ (either_false _ _ e f) ∙ g)))))

pub matrix_leads :
    (k : ℕ) (argument : List ℕ) (s : State) → keyword_rule k argument s ≡ 0 → s.place ≡ place.matrix → leads_in_matrix k ≡ dead → ⊥
unfolding moved
matrix_leads k argument s kept p e = keyword_leads k argument s kept (if_true _ _ (eq-eqb _ _ p) ∙ e)

pub section_leads :
    (k : ℕ) (argument : List ℕ) (s : State) → keyword_rule k argument s ≡ 0 → s.place ≡ place.section → leads_in_section k ≡ dead → ⊥
unfolding moved is_in_model is_in_family is_in_header either provided◌then◌else◌
section_leads k argument s kept p e = keyword_leads k argument s kept (rw p e)

-- [End ICM Section] leads out of the section
pub end_leads : (argument : List ℕ) (s : State) → s.place ≡ place.matrix → (keyword_next end_icm_section argument s).place ≡ place.after
unfolding keyword_next moved leads_in_matrix leads_in_section is_row_or_bandwidth opens_matrix either provided◌then◌else◌
end_leads argument s p = rw p
