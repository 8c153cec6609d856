-- The reading of a text goes by what the laws of this crate are about: in the place of a path its lines pass exactly when
-- they are a path of the grammar; in the place of a matrix the keyword that closes it gets 16 exactly when the set of lines
-- has not the shape of its form, or another N than the section.
-- Assumes nothing.
use Rattle.std.proofs.Common.{is_some, unwrap_or}
use Prim.Native.Nat.{ℕ, ◌+◌, ◌≤◌}
use mathlib.Core.Path.{◌≡◌, refl, sym, ◌∙◌, ap}
use mathlib.Core.Bool.{Bool, true, false}
use mathlib.Core.List.{List, [], ◌∷◌}
use native.Mathlib.Omega.{arith}
use lib.ListN.{get_or}
use lib.Dec.{eqb}
use borrow.Author.Tests.{eq-eqb, not-false}
use Rattle.table_layout.specs.Bounds.{most_conductors}
use Rattle.base.specs.If.{provided◌then◌else◌, both, either}
use Rattle.base.specs.Broken.{first_broken}
use Rattle.base.proofs.IfLaws.{if_true, if_false, both_rest, not_not_via}
use Rattle.base.proofs.BrokenLaws.{sound, all_kept}
use Rattle.lex_line.specs.Words.{words, first_of}
use Rattle.lex_number.specs.Integer.{whole_of}
use Rattle.lex_number.proofs.IntegerLaws.{whole_most}
use Rattle.lex_keyword.specs.Names.{row, bandwidth, tree_path_description}
use Rattle.line_place.specs.Place.{is_text, moved_by_line, moved, leads_in_matrix, is_row_or_bandwidth, opens_matrix}
use Rattle.line_place.specs.Place as place
use Rattle.line_argument.specs.Argument.{form_of, is_bad_integer, is_out_of_bounds}
use Rattle.line_path.specs.Path.{new_path, path_line_of, path_rules, path_next, path_open, path_lacks}
use Rattle.line_matrix.specs.Matrix.{new_matrix, is_wrong_row, is_wrong_bandwidth, with_row, with_bandwidth, data_line_of, data_rules, data_next, is_wrong_shape}
use Rattle.line_keyword.specs.Keywords.{
  is_unclosed,
  is_fork_open,
  is_wrong_in_matrix,
  is_matrix_broken,
  is_shape_broken,
  keyword_rules,
  path_after,
  conductors_after,
  section_after,
  matrix_after,
  one_more_if,
  counts_after,
  keyword_next,
}
use Rattle.line_keyword.specs.declared.State.{State}
use Rattle.read_line.specs.Reading.{line_rules, counts_after_line, line_next}
use Rattle.law_grammar.specs.Way.Accepted.{steps_after, Accepts, lines_of, ArePath}
use Rattle.law_grammar.specs.Way.Closing.{IsWhole, FailsWith}
use Rattle.law_grammar.specs.Way.Lines.{set_of, Leads, IsForm}
use Rattle.law_grammar.specs.Way.Passing.{Passes, MatrixLine, entries_of, SetPasses}
use Rattle.law_grammar.proofs.GrammarLaws.{path_read, read_path_lem}
use Rattle.law_grammar.proofs.LinesLaws.{lines_judged}

-- ---- in a path

module _ (content : List ℕ) (s : State) (at : s.place ≡ place.path) where
  path_rules_lem : line_rules content s ≡ path_rules (path_line_of content) s.path s.counts.steps
  unfolding is_text either
  path_rules_lem =
      if_false _ _ (ap is_text at) ∙ if_false _ _ (ap (λ (p : ℕ). eqb p place.matrix) at) ∙ if_true _ _ (eq-eqb _ _ at)

  path_place : (line_next content s).place ≡ place.path
  unfolding line_next moved_by_line provided◌then◌else◌
  path_place = ap (λ (p : ℕ). moved_by_line p (first_of (words content))) at

  path_path : (line_next content s).path ≡ path_next (path_line_of content) s.path
  unfolding line_next
  path_path = if_true _ _ (eq-eqb _ _ at)

  path_steps : (line_next content s).counts.steps ≡ steps_after (path_line_of content) s.counts.steps
  unfolding line_next counts_after_line one_more_if steps_after
  path_steps = ap (λ (b : Bool). provided b then s.counts.steps + 1 else s.counts.steps) (both_rest _ _ (eq-eqb _ _ at))

module _ (s : State) (at : s.place ≡ place.path) where
  fork_told : is_fork_open s ≡ path_open s.path
  unfolding is_fork_open
  fork_told = both_rest _ _ (eq-eqb _ _ at)

  unclosed_told : is_unclosed s ≡ path_lacks s.path
  unfolding is_unclosed
  unclosed_told = if_false _ _ (ap (λ (p : ℕ). eqb p place.head) at) ∙ if_true _ _ (eq-eqb _ _ at)

passes_accepts :
    (contents : List (List ℕ)) (s : State) → s.place ≡ place.path → Passes s contents → Accepts s.path s.counts.steps (lines_of contents)
unfolding lines_of
passes_accepts [] s at (Passes.closes f u) = Accepts.closes (sym (fork_told s at) ∙ f) (sym (unclosed_told s at) ∙ u)
passes_accepts (content ∷ contents) s at (Passes.reads kept p) =
    let ih : Accepts (line_next content s).path (line_next content s).counts.steps (lines_of contents) =
    passes_accepts contents (line_next content s) (path_place content s at) p in
    Accepts.reads (ap first_broken (sym (path_rules_lem content s at)) ∙ kept) (rw (path_path content s at, path_steps content s at) at ih)

accepts_passes :
    (contents : List (List ℕ)) (s : State) → s.place ≡ place.path → Accepts s.path s.counts.steps (lines_of contents) → Passes s contents
unfolding lines_of
accepts_passes [] s at (Accepts.closes f u) = Passes.closes (fork_told s at ∙ f) (unclosed_told s at ∙ u)
accepts_passes (content ∷ contents) s at (Accepts.reads kept a) =
    let next : Accepts (line_next content s).path (line_next content s).counts.steps (lines_of contents) =
    rw (path_path content s at, path_steps content s at) a in
    Passes.reads (ap first_broken (path_rules_lem content s at) ∙ kept) (accepts_passes contents (line_next content s) (path_place content s at) next)

-- what [Tree Path Description] leaves
pub opens_path : (argument : List ℕ) (s : State) → (keyword_next tree_path_description argument s).path ≡ new_path
unfolding keyword_next path_after provided◌then◌else◌
opens_path argument s = refl

-- from such a state on the lines pass exactly when they are a path
module _ (contents : List (List ℕ)) (s : State) (at : s.place ≡ place.path) (start : s.path ≡ new_path) where
  pub passes_path : Passes s contents → ArePath s.counts.steps contents
  passes_path p =
      let a : Accepts s.path s.counts.steps (lines_of contents) = passes_accepts contents s at p in
      path_read s.counts.steps contents (rw start at a)

  pub path_passes : ArePath s.counts.steps contents → Passes s contents
  path_passes p =
      let a : Accepts new_path s.counts.steps (lines_of contents) = read_path_lem s.counts.steps contents p in
      accepts_passes contents s at (rw start a)

-- ---- in a matrix

-- what the reading keeps from line to line: its place and the N of the section
record Stays (s t : State) : Type 0 where
  place_is : t.place ≡ place.matrix
  same_conductors : t.section.conductors ≡ s.section.conductors

module _ (content : List ℕ) (s : State) (at : s.place ≡ place.matrix) where
  data_rules_lem : line_rules content s ≡ data_rules (data_line_of s.matrix.form content) s.matrix s.counts.values
  unfolding is_text either
  data_rules_lem = if_false _ _ (ap is_text at) ∙ if_true _ _ (eq-eqb _ _ at)

  data_stays : Stays s (line_next content s)
  unfolding line_next moved_by_line provided◌then◌else◌
  data_stays = record { place_is = ap (λ (p : ℕ). moved_by_line p (first_of (words content))) at; same_conductors = refl }

  data_matrix : (line_next content s).matrix ≡ data_next (data_line_of s.matrix.form content) s.matrix
  unfolding line_next
  data_matrix = if_true _ _ (eq-eqb _ _ at)

  data_values : (line_next content s).counts.values ≡ s.counts.values + (data_line_of s.matrix.form content).numbers
  unfolding line_next counts_after_line
  data_values = if_true _ _ (eq-eqb _ _ at)

module _ (argument : List ℕ) (s : State) (at : s.place ≡ place.matrix) where
  inside_conductors : (k : ℕ) → is_row_or_bandwidth k ≡ true → conductors_after k s ≡ s.section.conductors
  unfolding conductors_after
  inside_conductors k e = if_false _ _ (not_not_via (eq-eqb _ _ at)) ∙ if_true _ _ e

  row_stays : Stays s (keyword_next row argument s)
  unfolding keyword_next moved leads_in_matrix is_row_or_bandwidth section_after provided◌then◌else◌ either
  row_stays = record { place_is = ap (λ (p : ℕ). moved p row) at; same_conductors = inside_conductors row refl }

  width_stays : Stays s (keyword_next bandwidth argument s)
  unfolding keyword_next moved leads_in_matrix is_row_or_bandwidth section_after provided◌then◌else◌ either
  width_stays = record { place_is = ap (λ (p : ℕ). moved p bandwidth) at; same_conductors = inside_conductors bandwidth refl }

  row_matrix : (keyword_next row argument s).matrix ≡ with_row (unwrap_or (whole_of argument) 0) s.matrix s.counts.values
  unfolding keyword_next matrix_after opens_matrix provided◌then◌else◌ either
  row_matrix = refl

  row_values : (keyword_next row argument s).counts.values ≡ s.counts.values
  unfolding keyword_next counts_after
  row_values = refl

  width_matrix : (keyword_next bandwidth argument s).matrix ≡ with_bandwidth (unwrap_or (whole_of argument) 0) s.matrix
  unfolding keyword_next matrix_after opens_matrix provided◌then◌else◌ either
  width_matrix = refl

  width_values : (keyword_next bandwidth argument s).counts.values ≡ s.counts.values
  unfolding keyword_next counts_after
  width_values = refl

  module _ (kept : first_broken (keyword_rules row argument s) ≡ 0) where
    row_kept : (i : ℕ) → (get_or (keyword_rules row argument s) i sound).broken ≡ false
    row_kept i =
        all_kept (keyword_rules row argument s)
        (omega arith, (omega arith, (omega arith, (omega arith, (omega arith, (omega arith, (omega arith, tt))))))) kept i

    row_formed : is_some (whole_of argument) ≡ true
    unfolding is_bad_integer is_row_or_bandwidth both either
    row_formed = not-false _ (row_kept 3)

    row_high : unwrap_or (whole_of argument) 0 ≤ most_conductors
    unfolding is_out_of_bounds provided◌then◌else◌
    row_high = whole_most 1 most_conductors argument (not-false _ (row_kept 4))

    row_judged : is_shape_broken row argument s ≡ both (is_some (whole_of argument)) (is_wrong_row (unwrap_or (whole_of argument) 0) s.matrix)
    unfolding is_shape_broken is_matrix_broken is_wrong_in_matrix is_row_or_bandwidth provided◌then◌else◌ either
    row_judged = if_true _ _ (eq-eqb _ _ at)

    row_ordered_lem : is_wrong_row (unwrap_or (whole_of argument) 0) s.matrix ≡ false
    row_ordered_lem = sym (row_judged ∙ both_rest _ _ row_formed) ∙ row_kept 5

  module _ (kept : first_broken (keyword_rules bandwidth argument s) ≡ 0) where
    width_kept : (i : ℕ) → (get_or (keyword_rules bandwidth argument s) i sound).broken ≡ false
    width_kept i =
        all_kept (keyword_rules bandwidth argument s)
        (omega arith, (omega arith, (omega arith, (omega arith, (omega arith, (omega arith, (omega arith, tt))))))) kept i

    width_judged : is_shape_broken bandwidth argument s ≡ is_wrong_bandwidth s.matrix
    unfolding is_shape_broken is_matrix_broken is_wrong_in_matrix is_row_or_bandwidth provided◌then◌else◌ either
    width_judged = if_true _ _ (eq-eqb _ _ at)

    width_ordered : is_wrong_bandwidth s.matrix ≡ false
    width_ordered = sym width_judged ∙ width_kept 5

-- the lines of a set lead from matrix to matrix as the laws of lines say
record SetLed (last s : State) (lines : List MatrixLine) : Type 0 where
  stays : Stays s last
  leads : Leads last.matrix last.counts.values s.matrix s.counts.values (entries_of lines)

later_stays : {s t last : State} → Stays s t → Stays t last → Stays s last
later_stays a b = record { place_is = b.place_is; same_conductors = b.same_conductors ∙ a.same_conductors }

set_led : {last : State} (lines : List MatrixLine) (s : State) → s.place ≡ place.matrix → SetPasses last s lines → SetLed last s lines
unfolding entries_of
set_led [] s at SetPasses.over = record { stays = record { place_is = at; same_conductors = refl }; leads = Leads.over }
set_led (MatrixLine.row_line argument ∷ lines) s at (SetPasses.row_passes kept p) =
    let stay : Stays s (keyword_next row argument s) = row_stays argument s at in
    let ih : SetLed _ (keyword_next row argument s) lines = set_led lines (keyword_next row argument s) stay.place_is p in
    record {
      stays = later_stays stay ih.stays;
      leads =
          Leads.row (row_ordered_lem argument s at kept) (row_high argument s at kept)
          (rw (row_matrix argument s at, row_values argument s at) at ih.leads);
    }
set_led (MatrixLine.bandwidth_line argument ∷ lines) s at (SetPasses.bandwidth_passes kept p) =
    let stay : Stays s (keyword_next bandwidth argument s) = width_stays argument s at in
    let ih : SetLed _ (keyword_next bandwidth argument s) lines = set_led lines (keyword_next bandwidth argument s) stay.place_is p in
    record {
      stays = later_stays stay ih.stays;
      leads = Leads.bandwidth (width_ordered argument s at kept) (rw (width_matrix argument s at, width_values argument s at) at ih.leads);
    }
set_led (MatrixLine.data_line content ∷ lines) s at (SetPasses.data_passes kept p) =
    let stay : Stays s (line_next content s) = data_stays content s at in
    let ih : SetLed _ (line_next content s) lines = set_led lines (line_next content s) stay.place_is p in
    record {
      stays = later_stays stay ih.stays;
      leads =
          Leads.numbers (ap first_broken (sym (data_rules_lem content s at)) ∙ kept)
          (rw (data_matrix content s at, data_values content s at) at ih.leads);
    }

-- the keyword that closes a matrix
closing_judged :
    (k : ℕ) (argument : List ℕ) (s : State) → s.place ≡ place.matrix → is_row_or_bandwidth k ≡ false →
    is_shape_broken k argument s ≡ is_wrong_shape s.matrix s.section.conductors s.counts.values
unfolding is_shape_broken is_matrix_broken
closing_judged k argument s at e = if_true _ _ (eq-eqb _ _ at) ∙ if_false _ _ e

-- what the keyword of a matrix leaves
pub opens_matrix_lem :
    (k : ℕ) (argument : List ℕ) (s : State) → opens_matrix k ≡ true →
    (keyword_next k argument s).matrix ≡ new_matrix (form_of argument) (keyword_next k argument s).counts.values
unfolding keyword_next matrix_after counts_after
opens_matrix_lem k argument s e = if_true _ _ e

-- from such a state on: the first keyword that is no [Row] and no [Bandwidth] breaks 16 exactly when the lines before it
-- have not the shape of their form, or another N than the section
pub closing_passes :
    {form : ℕ} (k : ℕ) (argument : List ℕ) (lines : List MatrixLine) (s last : State) → IsForm form → s.place ≡ place.matrix →
    s.matrix ≡ new_matrix form s.counts.values → SetPasses last s lines → is_row_or_bandwidth k ≡ false →
    FailsWith (is_shape_broken k argument last) (IsWhole s.section.conductors (set_of form (entries_of lines)))
closing_passes k argument lines s last f at start p other =
    let h : SetLed last s lines = set_led lines s at p in
    let r : Leads last.matrix last.counts.values (new_matrix _ s.counts.values) s.counts.values (entries_of lines) =
    rw start at h.leads in
    rw (closing_judged k argument last h.stays.place_is other, h.stays.same_conductors)
    (lines_judged last.matrix last.counts.values s.counts.values (entries_of lines) f r s.section.conductors)
