-- Every count of a text that reads to its end is within its bound. The bounds hold after each line, so also after the
-- last, and the counts in the result are those of the last state.
-- Assumes nothing.
use mathlib.Core.Path.{◌≡◌, refl, sym, ◌∙◌, ap, subst}
use mathlib.Core.Bool.{Bool, true, false}
use mathlib.Core.List.{List, [], ◌∷◌}
use Prim.Native.Nat.{ℕ, zero, suc, ◌+◌, ◌*◌, ◌≤◌, ◌<◌, zero-le}
use native.Mathlib.Omega.{arith}
use lib.ListN.{length, get_or, set, length-set}
use lib.Seq.{get_or-set_same, get_or-set_other}
use lib.Dec.{eqb, ltb}
use borrow.Author.Tests.{ne_eqb, eqb-true, eqb-false, ltb-true, ltb-false}
use Rattle.base.specs.If.{provided◌then◌else◌, either}
use Rattle.base.specs.Runs.{same}
use Rattle.base.specs.Bytes.{bytes}
use Rattle.base.proofs.IfLaws.{
  if_true,
  if_false,
  by_test,
  by_cases,
  both_rest,
  either_rest,
  either_left,
  either_right,
  either_none_first,
  either_none_second,
}
use Rattle.lex_line.specs.Words.{words, first_of}
use Rattle.lex_line.specs.Lines.{contents}
use Rattle.lex_keyword.specs.Names.{
  icm_ver,
  begin_header,
  begin_icm_model,
  begin_icm_family,
  resistance_matrix,
  inductance_matrix,
  begin_icm_section,
  conductance_matrix,
  capacitance_matrix,
  tree_path_description,
  icm_model_description,
}
use Rattle.line_place.specs.Place.{
  before,
  opened,
  between,
  map_head,
  after,
  section_head,
  section,
  matrix,
  done,
  dead,
  opens_header_text,
  stands_in_header,
  leads_in_header,
  leads_in_family,
  leads_in_model,
  opens_matrix,
  is_row_or_bandwidth,
  leads_after_family,
  is_in_header,
  is_in_family,
  is_in_model,
  moved,
  moved_by_line,
}
use Rattle.line_place.specs.Place as place
use Rattle.line_keyword.specs.Way.Bounded.{BoundedState}
use Rattle.line_keyword.specs.Keywords.{is_seen, is_once, is_repeated, is_misplaced, seen_after, one_more_if, counts_after, keyword_next}
use Rattle.line_keyword.specs.State.{no_counts, none_seen, start_state}
use Rattle.line_keyword.specs.declared.Counts.{Counts}
use Rattle.line_keyword.specs.declared.State.{State}
use Rattle.line_keyword.proofs.InsideLaws.{opens_closes}
use Rattle.line_keyword.proofs.KeptLaws.{start_kept, kept_more}
use Rattle.line_keyword.specs.Way.Rule.{keyword_rule}
use Rattle.read_line.specs.Reading.{line_result, counts_after_line, line_next, reading_of}
use Rattle.read_line.specs.Way.Trace.{state_after}
use Rattle.read_line.specs.declared.Reading.TheVariants.{Read}
use Rattle.read_line.specs.Way.Steps.{line_rule}
use Rattle.read_line.proofs.WalkLaws.{step_kept}
use Rattle.read_line.proofs.ReadingLaws.{reads_only, reads_when, reads_done}
use Rattle.read_line.proofs.OutsideLaws.{along_counted, along, Met, step_holds, keyword_placed}
use Rattle.table_layout.specs.Bounds.{most_models, most_steps, most_maps, most_pins, most_sections, most_values, most_matrices}

pub read_kept : (t : List ℕ) (c : Counts) → reading_of t ≡ Read c → BoundedState (1 + length (contents t)) (state_after 1 (contents t) start_state)
read_kept t c e =
    along_counted (λ (m : ℕ) (s : State). BoundedState m s) step_kept 1 1 (contents t) start_state (kept_more 0 1 start_state start_kept (omega arith)) (reads_only t c e)

-- a text has one result
same_counts : (c d : Counts) → Read c ≡ Read d → c ≡ d
same_counts c d e = cc

-- the counts in the result are those of the last state
pub reads_counts : (t : List ℕ) (c : Counts) → reading_of t ≡ Read c → c ≡ (state_after 1 (contents t) start_state).counts
reads_counts t c e = same_counts _ _ (sym e ∙ reads_when t (reads_only t c e) (reads_done t c e))

-- "64 models", "4,096 steps", "64 maps", "4,096 pins", "256 sections", "65,536 values"
pub record Within (c : Counts) : Type 0 where
  pub models : c.models ≤ most_models
  pub steps : c.steps ≤ most_steps
  pub maps : c.maps ≤ most_maps
  pub pins : c.pins ≤ most_pins
  pub sections : c.sections ≤ most_sections
  pub values : c.values ≤ most_values

kept_within : (n : ℕ) (s : State) → BoundedState n s → Within s.counts
kept_within n s h =
    record { models = h.models; steps = h.steps; maps = h.maps; pins = h.pins; sections = h.sections; values = h.values }

pub read_within : (t : List ℕ) (c : Counts) → reading_of t ≡ Read c → Within c
read_within t c e = rw (reads_counts t c e) (kept_within _ _ (read_kept t c e))

-- ---- the kinds of matrix that a section has: which of the four keywords have been read

-- 1 for a keyword that has been read, else 0
unfoldable flag : List Bool → ℕ → ℕ
flag seen k = provided get_or seen k false then 1 else 0

unfoldable kinds : List Bool → ℕ
kinds seen = flag seen resistance_matrix + flag seen inductance_matrix + flag seen conductance_matrix + flag seen capacitance_matrix

flag_most : (seen : List Bool) (k : ℕ) → flag seen k ≤ 1
unfolding flag
flag_most seen k = by_test (λ (n : ℕ). n ≤ 1) (get_or seen k false) 1 0 (λ e. omega arith) (λ e. omega arith)

flag_off : (seen : List Bool) (k : ℕ) → get_or seen k false ≡ false → flag seen k ≡ 0
unfolding flag
flag_off seen k e = if_false _ _ e

flag_same : (seen : List Bool) (k : ℕ) → k < length seen → flag (set seen k true) k ≡ 1
unfolding flag
flag_same seen k h = if_true _ _ (get_or-set_same seen k true false h)

flag_other : (seen : List Bool) (k j : ℕ) (a : Bool) → (j ≡ k → ⊥) → flag (set seen k a) j ≡ flag seen j
unfolding flag
flag_other seen k j a h = ap (λ (b : Bool). provided b then 1 else 0) (get_or-set_other seen k j a false h)

kinds_most : (seen : List Bool) → kinds seen ≤ 4
unfolding kinds
kinds_most seen =
    let a : flag seen resistance_matrix ≤ 1 = flag_most seen resistance_matrix in
    let b : flag seen inductance_matrix ≤ 1 = flag_most seen inductance_matrix in
    let c : flag seen conductance_matrix ≤ 1 = flag_most seen conductance_matrix in
    let d : flag seen capacitance_matrix ≤ 1 = flag_most seen capacitance_matrix in
    omega arith

-- what holds of each of the four keywords holds of any keyword that opens a matrix
by_kind : (P : ℕ → Type 0) → P resistance_matrix → P inductance_matrix → P conductance_matrix → P capacitance_matrix → (k : ℕ) → opens_matrix k ≡ true → P k
unfolding opens_matrix
by_kind P r l g c k e =
    by_cases (P k) (eqb k resistance_matrix)
    (λ (a : eqb k resistance_matrix ≡ true). subst P (sym (eqb-true k resistance_matrix a)) r)
    (λ (a : eqb k resistance_matrix ≡ false).
    by_cases (P k) (eqb k inductance_matrix)
    (λ (b : eqb k inductance_matrix ≡ true). subst P (sym (eqb-true k inductance_matrix b)) l)
    (λ (b : eqb k inductance_matrix ≡ false).
    by_cases (P k) (eqb k conductance_matrix)
    (λ (d : eqb k conductance_matrix ≡ true). subst P (sym (eqb-true k conductance_matrix d)) g)
    (λ (d : eqb k conductance_matrix ≡ false).
    let f : eqb k capacitance_matrix ≡ true = sym (either_rest _ _ a ∙ either_rest _ _ b ∙ either_rest _ _ d) ∙ e in
    subst P (sym (eqb-true k capacitance_matrix f)) c)))

-- one kind more
kinds_more : (seen : List Bool) → length seen ≡ 40 → (k : ℕ) → opens_matrix k ≡ true → get_or seen k false ≡ false → kinds (set seen k true) ≡ kinds seen + 1
unfolding kinds
kinds_more seen long =
    by_kind (λ (k : ℕ). get_or seen k false ≡ false → kinds (set seen k true) ≡ kinds seen + 1)
    (λ (e : get_or seen resistance_matrix false ≡ false).
    let z : flag seen resistance_matrix ≡ 0 = flag_off seen resistance_matrix e in
    let a : flag (set seen resistance_matrix true) resistance_matrix ≡ 1 = flag_same seen resistance_matrix (omega arith) in
    let b : flag (set seen resistance_matrix true) inductance_matrix ≡ flag seen inductance_matrix = flag_other seen resistance_matrix inductance_matrix true (λ (g : inductance_matrix ≡ resistance_matrix). omega arith) in
    let c : flag (set seen resistance_matrix true) conductance_matrix ≡ flag seen conductance_matrix = flag_other seen resistance_matrix conductance_matrix true (λ (g : conductance_matrix ≡ resistance_matrix). omega arith) in
    let d : flag (set seen resistance_matrix true) capacitance_matrix ≡ flag seen capacitance_matrix = flag_other seen resistance_matrix capacitance_matrix true (λ (g : capacitance_matrix ≡ resistance_matrix). omega arith) in
    omega arith)
    (λ (e : get_or seen inductance_matrix false ≡ false).
    let z : flag seen inductance_matrix ≡ 0 = flag_off seen inductance_matrix e in
    let a : flag (set seen inductance_matrix true) inductance_matrix ≡ 1 = flag_same seen inductance_matrix (omega arith) in
    let b : flag (set seen inductance_matrix true) resistance_matrix ≡ flag seen resistance_matrix = flag_other seen inductance_matrix resistance_matrix true (λ (g : resistance_matrix ≡ inductance_matrix). omega arith) in
    let c : flag (set seen inductance_matrix true) conductance_matrix ≡ flag seen conductance_matrix = flag_other seen inductance_matrix conductance_matrix true (λ (g : conductance_matrix ≡ inductance_matrix). omega arith) in
    let d : flag (set seen inductance_matrix true) capacitance_matrix ≡ flag seen capacitance_matrix = flag_other seen inductance_matrix capacitance_matrix true (λ (g : capacitance_matrix ≡ inductance_matrix). omega arith) in
    omega arith)
    (λ (e : get_or seen conductance_matrix false ≡ false).
    let z : flag seen conductance_matrix ≡ 0 = flag_off seen conductance_matrix e in
    let a : flag (set seen conductance_matrix true) conductance_matrix ≡ 1 = flag_same seen conductance_matrix (omega arith) in
    let b : flag (set seen conductance_matrix true) resistance_matrix ≡ flag seen resistance_matrix = flag_other seen conductance_matrix resistance_matrix true (λ (g : resistance_matrix ≡ conductance_matrix). omega arith) in
    let c : flag (set seen conductance_matrix true) inductance_matrix ≡ flag seen inductance_matrix = flag_other seen conductance_matrix inductance_matrix true (λ (g : inductance_matrix ≡ conductance_matrix). omega arith) in
    let d : flag (set seen conductance_matrix true) capacitance_matrix ≡ flag seen capacitance_matrix = flag_other seen conductance_matrix capacitance_matrix true (λ (g : capacitance_matrix ≡ conductance_matrix). omega arith) in
    omega arith)
    (λ (e : get_or seen capacitance_matrix false ≡ false).
    let z : flag seen capacitance_matrix ≡ 0 = flag_off seen capacitance_matrix e in
    let a : flag (set seen capacitance_matrix true) capacitance_matrix ≡ 1 = flag_same seen capacitance_matrix (omega arith) in
    let b : flag (set seen capacitance_matrix true) resistance_matrix ≡ flag seen resistance_matrix = flag_other seen capacitance_matrix resistance_matrix true (λ (g : resistance_matrix ≡ capacitance_matrix). omega arith) in
    let c : flag (set seen capacitance_matrix true) inductance_matrix ≡ flag seen inductance_matrix = flag_other seen capacitance_matrix inductance_matrix true (λ (g : inductance_matrix ≡ capacitance_matrix). omega arith) in
    let d : flag (set seen capacitance_matrix true) conductance_matrix ≡ flag seen conductance_matrix = flag_other seen capacitance_matrix conductance_matrix true (λ (g : conductance_matrix ≡ capacitance_matrix). omega arith) in
    omega arith)

-- a keyword of another kind changes none of the four
kinds_same : (seen : List Bool) (k : ℕ) (a : Bool) → opens_matrix k ≡ false → kinds (set seen k a) ≡ kinds seen
unfolding kinds opens_matrix
kinds_same seen k a e =
    let f : either (eqb k inductance_matrix) (either (eqb k conductance_matrix) (eqb k capacitance_matrix)) ≡ false = either_none_second _ _ e in
    let g : either (eqb k conductance_matrix) (eqb k capacitance_matrix) ≡ false = either_none_second _ _ f in
    let r : flag (set seen k a) resistance_matrix ≡ flag seen resistance_matrix = flag_other seen k resistance_matrix a (λ (z : resistance_matrix ≡ k). eqb-false k resistance_matrix (either_none_first _ _ e) (sym z)) in
    let l : flag (set seen k a) inductance_matrix ≡ flag seen inductance_matrix = flag_other seen k inductance_matrix a (λ (z : inductance_matrix ≡ k). eqb-false k inductance_matrix (either_none_first _ _ f) (sym z)) in
    let c : flag (set seen k a) conductance_matrix ≡ flag seen conductance_matrix = flag_other seen k conductance_matrix a (λ (z : conductance_matrix ≡ k). eqb-false k conductance_matrix (either_none_first _ _ g) (sym z)) in
    let d : flag (set seen k a) capacitance_matrix ≡ flag seen capacitance_matrix = flag_other seen k capacitance_matrix a (λ (z : capacitance_matrix ≡ k). eqb-false k capacitance_matrix (either_none_second _ _ g) (sym z)) in
    omega arith

-- a keyword that is forgotten counts as not read, whatever is forgotten after it
pub forgotten : (seen : List Bool) (k : ℕ) → get_or (set seen k false) k false ≡ false
forgotten [] k = refl
forgotten (b ∷ seen) zero = refl
forgotten (b ∷ seen) (suc k) = forgotten seen k

flag_forgotten : (seen : List Bool) (k : ℕ) → flag (set seen k false) k ≡ 0
flag_forgotten seen k = flag_off (set seen k false) k (forgotten seen k)

-- all four forgotten, one after the other
kinds_forgotten : (seen one two three four : List Bool) → one ≡ set seen resistance_matrix false → two ≡ set one inductance_matrix false → three ≡ set two conductance_matrix false → four ≡ set three capacitance_matrix false → kinds four ≡ 0
unfolding kinds
kinds_forgotten seen one two three four h i j k =
    let r₁ : flag one resistance_matrix ≡ 0 = rw h (flag_forgotten seen resistance_matrix) in
    let r₂ : flag two resistance_matrix ≡ flag one resistance_matrix = rw i (flag_other one inductance_matrix resistance_matrix false (λ (g : resistance_matrix ≡ inductance_matrix). omega arith)) in
    let r₃ : flag three resistance_matrix ≡ flag two resistance_matrix = rw j (flag_other two conductance_matrix resistance_matrix false (λ (g : resistance_matrix ≡ conductance_matrix). omega arith)) in
    let r₄ : flag four resistance_matrix ≡ flag three resistance_matrix = rw k (flag_other three capacitance_matrix resistance_matrix false (λ (g : resistance_matrix ≡ capacitance_matrix). omega arith)) in
    let l₂ : flag two inductance_matrix ≡ 0 = rw i (flag_forgotten one inductance_matrix) in
    let l₃ : flag three inductance_matrix ≡ flag two inductance_matrix = rw j (flag_other two conductance_matrix inductance_matrix false (λ (g : inductance_matrix ≡ conductance_matrix). omega arith)) in
    let l₄ : flag four inductance_matrix ≡ flag three inductance_matrix = rw k (flag_other three capacitance_matrix inductance_matrix false (λ (g : inductance_matrix ≡ capacitance_matrix). omega arith)) in
    let g₃ : flag three conductance_matrix ≡ 0 = rw j (flag_forgotten two conductance_matrix) in
    let g₄ : flag four conductance_matrix ≡ flag three conductance_matrix = rw k (flag_other three capacitance_matrix conductance_matrix false (λ (g : conductance_matrix ≡ capacitance_matrix). omega arith)) in
    let c₄ : flag four capacitance_matrix ≡ 0 = rw k (flag_forgotten three capacitance_matrix) in
    omega arith

-- ---- how a keyword changes them

description_other : opens_matrix icm_model_description ≡ false
unfolding opens_matrix either
description_other = refl

path_other : opens_matrix tree_path_description ≡ false
unfolding opens_matrix either
path_other = refl

section_other : opens_matrix begin_icm_section ≡ false
unfolding opens_matrix either
section_other = refl

section_keeps : is_row_or_bandwidth begin_icm_section ≡ false
unfolding is_row_or_bandwidth either
section_keeps = refl

module _ (k : ℕ) (seen : List Bool) where
  seen_long : length (seen_after k seen) ≡ length seen
  unfolding seen_after
  seen_long =
      by_test (λ (l : List Bool). length l ≡ length seen) (is_row_or_bandwidth k) _ _
      (λ (g : is_row_or_bandwidth k ≡ true). refl)
      (λ (g : is_row_or_bandwidth k ≡ false).
      by_test (λ (l : List Bool). length l ≡ length seen) (eqb k begin_icm_model) _ _
      (λ (e : eqb k begin_icm_model ≡ true). length-set (set seen tree_path_description false) icm_model_description false ∙ length-set seen tree_path_description false)
      (λ (e : eqb k begin_icm_model ≡ false).
      by_test (λ (l : List Bool). length l ≡ length seen) (eqb k begin_icm_section) _ _
      (λ (f : eqb k begin_icm_section ≡ true).
      length-set (set (set (set seen resistance_matrix false) inductance_matrix false) conductance_matrix false) capacitance_matrix false
      ∙ length-set (set (set seen resistance_matrix false) inductance_matrix false) conductance_matrix false
      ∙ length-set (set seen resistance_matrix false) inductance_matrix false
      ∙ length-set seen resistance_matrix false)
      (λ (f : eqb k begin_icm_section ≡ false). length-set seen k true)))

  kinds_matrix : eqb k begin_icm_model ≡ false → eqb k begin_icm_section ≡ false → length seen ≡ 40 → opens_matrix k ≡ true → get_or seen k false ≡ false → kinds (seen_after k seen) ≡ kinds seen + 1
  unfolding seen_after
  kinds_matrix n e long m new = ap kinds (if_false _ _ (opens_closes k m) ∙ if_false _ _ n ∙ if_false _ _ e) ∙ kinds_more seen long k m new

  kinds_else : eqb k begin_icm_section ≡ false → opens_matrix k ≡ false → kinds (seen_after k seen) ≡ kinds seen
  unfolding seen_after
  kinds_else e m =
      by_test (λ (l : List Bool). kinds l ≡ kinds seen) (is_row_or_bandwidth k) _ _
      (λ (g : is_row_or_bandwidth k ≡ true). refl)
      (λ (g : is_row_or_bandwidth k ≡ false).
      by_test (λ (l : List Bool). kinds l ≡ kinds seen) (eqb k begin_icm_model) _ _
      (λ (n : eqb k begin_icm_model ≡ true).
      kinds_same (set seen tree_path_description false) icm_model_description false description_other ∙ kinds_same seen tree_path_description false path_other)
      (λ (n : eqb k begin_icm_model ≡ false). ap kinds (if_false _ _ e) ∙ kinds_same seen k true m))

module _ (k : ℕ) (c : Counts) where
  matrices_more : opens_matrix k ≡ true → (counts_after k c).matrices ≡ c.matrices + 1
  unfolding counts_after one_more_if
  matrices_more e = if_true _ _ e

  matrices_same : opens_matrix k ≡ false → (counts_after k c).matrices ≡ c.matrices
  unfolding counts_after one_more_if
  matrices_same e = if_false _ _ e

  sections_more : eqb k begin_icm_section ≡ true → (counts_after k c).sections ≡ c.sections + 1
  unfolding counts_after one_more_if
  sections_more e = if_true _ _ e

  sections_same : eqb k begin_icm_section ≡ false → (counts_after k c).sections ≡ c.sections
  unfolding counts_after one_more_if
  sections_same e = if_false _ _ e

-- ---- the places of a section

-- a place outside sections
abbrev Away : ℕ → Type 0
Away p = after < p → p < done → ⊥

away_low : (p : ℕ) → p ≤ after → Away p
away_low p h a b = omega arith

away_high : (p : ℕ) → done ≤ p → Away p
away_high p h a b = omega arith

away_if : (b : Bool) (x y : ℕ) → Away x → Away y → Away (provided b then x else y)
unfolding provided◌then◌else◌
away_if true x y h k = h
away_if false x y h k = k

away_model : (k : ℕ) → Away (leads_in_model k)
unfolding leads_in_model
away_model k =
    away_if _ _ _ (away_low _ (omega arith))
    (away_if _ _ _ (away_low _ (omega arith)) (away_if _ _ _ (away_low _ (omega arith)) (away_high _ (omega arith))))

away_family : (k : ℕ) → Away (leads_in_family k)
unfolding leads_in_family
away_family k =
    away_if _ _ _ (away_low _ (omega arith))
    (away_if _ _ _ (away_low _ (omega arith))
    (away_if _ _ _ (away_low _ (omega arith))
    (away_if _ _ _ (away_low _ (omega arith))
    (away_if _ _ _ (away_low _ (omega arith)) (away_if _ _ _ (away_low _ (omega arith)) (away_high _ (omega arith)))))))

away_header : (k : ℕ) → Away (leads_in_header k)
unfolding leads_in_header
away_header k =
    away_if _ _ _ (away_low _ (omega arith))
    (away_if _ _ _ (away_low _ (omega arith)) (away_if _ _ _ (away_low _ (omega arith)) (away_high _ (omega arith))))

away_after : (k : ℕ) → eqb k begin_icm_section ≡ false → Away (leads_after_family k)
unfolding leads_after_family
away_after k e =
    by_test Away (eqb k begin_icm_section) _ _
    (λ (f : eqb k begin_icm_section ≡ true). absurd (eqb-false k begin_icm_section e (eqb-true k begin_icm_section f)))
    (λ (f : eqb k begin_icm_section ≡ false). away_if _ _ _ (away_high _ (omega arith)) (away_high _ (omega arith)))

-- only [Begin ICM Section] leads into a section
away_moved : (p k : ℕ) → Away p → eqb k begin_icm_section ≡ false → Away (moved p k)
unfolding moved
away_moved p k out e =
    by_test Away (eqb p matrix) _ _ (λ (f : eqb p matrix ≡ true). absurd (inside matrix (eqb-true p matrix f) (omega arith) (omega arith)))
    (λ (f : eqb p matrix ≡ false).
    away_if _ _ _ (away_model k)
    (away_if _ _ _ (away_family k)
    (away_if _ _ _ (away_header k)
    (by_test Away (eqb p section) _ _ (λ (g : eqb p section ≡ true). absurd (inside section (eqb-true p section g) (omega arith) (omega arith)))
    (λ (g : eqb p section ≡ false).
    away_if _ _ _ (away_after k e)
    (away_if _ _ _ (away_if _ _ _ (away_low _ (omega arith)) (away_high _ (omega arith)))
    (away_if _ _ _ (away_if _ _ _ (away_low _ (omega arith)) (away_high _ (omega arith)))
    (by_test Away (eqb p section_head) _ _ (λ (h : eqb p section_head ≡ true). absurd (inside section_head (eqb-true p section_head h) (omega arith) (omega arith)))
    (λ (h : eqb p section_head ≡ false). away_if _ _ _ (away_if _ _ _ (away_low _ (omega arith)) (away_low _ (omega arith))) out)))))))))
  where
    inside : (q : ℕ) → p ≡ q → after < q → q < done → ⊥
    inside q s a b = out (omega arith) (omega arith)

-- a keyword that opens a matrix is allowed nowhere outside a section
record Strange (k : ℕ) : Type 0 where
  model : leads_in_model k ≡ dead
  family : leads_in_family k ≡ dead
  header : leads_in_header k ≡ dead
  after : leads_after_family k ≡ dead
  opened : eqb k icm_ver ≡ false
  between : eqb k begin_icm_family ≡ false
  other : k ≡ begin_header → ⊥
  model_other : eqb k begin_icm_model ≡ false
  section_other : eqb k begin_icm_section ≡ false

strange : (k : ℕ) → opens_matrix k ≡ true → Strange k
unfolding leads_in_model leads_in_family leads_in_header leads_after_family stands_in_header opens_header_text either provided◌then◌else◌
strange =
    by_kind Strange
    (record { model = refl; family = refl; header = refl; after = refl; opened = refl; between = refl; other = λ (e : resistance_matrix ≡ begin_header). omega arith; model_other = refl; section_other = refl })
    (record { model = refl; family = refl; header = refl; after = refl; opened = refl; between = refl; other = λ (e : inductance_matrix ≡ begin_header). omega arith; model_other = refl; section_other = refl })
    (record { model = refl; family = refl; header = refl; after = refl; opened = refl; between = refl; other = λ (e : conductance_matrix ≡ begin_header). omega arith; model_other = refl; section_other = refl })
    (record { model = refl; family = refl; header = refl; after = refl; opened = refl; between = refl; other = λ (e : capacitance_matrix ≡ begin_header). omega arith; model_other = refl; section_other = refl })

-- a number above all places: no line leads on from it
abbrev Past : ℕ → Type 0
Past p = done < p

past_dead : (p : ℕ) → p ≡ dead → Past p
past_dead p e = omega arith

-- a number that is none of the places is above them
up : (n p : ℕ) → n ≤ p → eqb p n ≡ false → n < p
up n p h e =
    let z : p ≡ n → ⊥ = eqb-false p n e in
    omega arith

record Nowhere (p : ℕ) : Type 0 where
  matrix : eqb p place.matrix ≡ false
  model : is_in_model p ≡ false
  family : is_in_family p ≡ false
  header : is_in_header p ≡ false
  section : eqb p place.section ≡ false
  after : eqb p place.after ≡ false
  opened : eqb p place.opened ≡ false
  between : eqb p place.between ≡ false
  section_head : eqb p place.section_head ≡ false
  before : eqb p place.before ≡ false

nowhere_past : (p : ℕ) → Nowhere p → (p ≡ done → ⊥) → Past p
unfolding is_in_model is_in_family is_in_header
nowhere_past p n on =
    let family_text : either (eqb p place.family_text) (either (eqb p place.list) (either (eqb p place.map_head) (eqb p place.pin_list))) ≡ false = either_none_second _ _ n.family in
    let list : either (eqb p place.list) (either (eqb p place.map_head) (eqb p place.pin_list)) ≡ false = either_none_second _ _ family_text in
    let map : either (eqb p place.map_head) (eqb p place.pin_list) ≡ false = either_none_second _ _ list in
    let model : either (eqb p place.path) (eqb p place.model_text) ≡ false = either_none_second _ _ n.model in
    up place.done p
    (up place.matrix p
    (up place.section p
    (up place.section_head p
    (up place.after p
    (up place.pin_list p
    (up place.map_head p
    (up place.model_text p
    (up place.path p
    (up place.head p
    (up place.list p
    (up place.family_text p
    (up place.family p
    (up place.between p
    (up place.header_text p
    (up place.header p (up place.opened p (up place.before p zero-le n.before) n.opened) (either_none_first _ _ n.header))
    (either_none_second _ _ n.header))
    n.between)
    (either_none_first _ _ n.family))
    (either_none_first _ _ family_text))
    (either_none_first _ _ list))
    (either_none_first _ _ n.model))
    (either_none_first _ _ model))
    (either_none_second _ _ model))
    (either_none_first _ _ map))
    (either_none_second _ _ map))
    n.after)
    n.section_head)
    n.section)
    n.matrix)
    (ne_eqb p done on)

past_moved : (p k : ℕ) → Away p → (p ≡ done → ⊥) → (p ≡ before → ⊥) → Strange k → Past (moved p k)
unfolding moved
past_moved p k out on started s =
    by_test Past (eqb p matrix) _ _ (λ (f : eqb p matrix ≡ true). absurd (inside matrix (eqb-true p matrix f) (omega arith) (omega arith)))
    (λ (f : eqb p matrix ≡ false).
    by_test Past (is_in_model p) _ _ (λ (m : is_in_model p ≡ true). past_dead _ s.model)
    (λ (m : is_in_model p ≡ false).
    by_test Past (is_in_family p) _ _ (λ (y : is_in_family p ≡ true). past_dead _ s.family)
    (λ (y : is_in_family p ≡ false).
    by_test Past (is_in_header p) _ _ (λ (r : is_in_header p ≡ true). past_dead _ s.header)
    (λ (r : is_in_header p ≡ false).
    by_test Past (eqb p section) _ _ (λ (g : eqb p section ≡ true). absurd (inside section (eqb-true p section g) (omega arith) (omega arith)))
    (λ (g : eqb p section ≡ false).
    by_test Past (eqb p after) _ _ (λ (a : eqb p after ≡ true). past_dead _ s.after)
    (λ (a : eqb p after ≡ false).
    by_test Past (eqb p opened) _ _ (λ (o : eqb p opened ≡ true). past_dead _ (if_false _ _ s.opened))
    (λ (o : eqb p opened ≡ false).
    by_test Past (eqb p between) _ _ (λ (t : eqb p between ≡ true). past_dead _ (if_false _ _ s.between))
    (λ (t : eqb p between ≡ false).
    by_test Past (eqb p section_head) _ _ (λ (h : eqb p section_head ≡ true). absurd (inside section_head (eqb-true p section_head h) (omega arith) (omega arith)))
    (λ (h : eqb p section_head ≡ false).
    by_test Past (eqb p before) _ _ (λ (b : eqb p before ≡ true). absurd (started (eqb-true p before b)))
    (λ (b : eqb p before ≡ false).
    nowhere_past p
    (record { matrix = f; model = m; family = y; header = r; section = g; after = a; opened = o; between = t; section_head = h; before = b }) on))))))))))
  where
    inside : (q : ℕ) → p ≡ q → after < q → q < done → ⊥
    inside q s a b = out (omega arith) (omega arith)

-- no keyword leads back from there
stays_past : (p k : ℕ) → done < p → moved p k ≡ p
unfolding moved is_in_model is_in_family is_in_header either provided◌then◌else◌
stays_past p k h =
    rw (
      far place.matrix (omega arith),
      far place.head (omega arith),
      far place.path (omega arith),
      far place.model_text (omega arith),
      far place.family (omega arith),
      far place.family_text (omega arith),
      far place.list (omega arith),
      far place.map_head (omega arith),
      far place.pin_list (omega arith),
      far place.header (omega arith),
      far place.header_text (omega arith),
      far place.section (omega arith),
      far place.after (omega arith),
      far place.opened (omega arith),
      far place.between (omega arith),
      far place.section_head (omega arith),
      far place.before (omega arith),
    )
  where
    far : (n : ℕ) → n ≤ done → eqb p n ≡ false
    far n g = ne_eqb p n (λ (e : p ≡ n). omega arith)

moved_within : (p k : ℕ) → moved p k ≤ done → p ≤ done
moved_within p k h =
    by_cases (p ≤ done) (ltb done p)
    (λ (e : ltb done p ≡ true).
    let g : done < p = ltb-true done p e in
    let f : moved p k ≡ p = stays_past p k g in
    absurd (omega arith))
    (λ (e : ltb done p ≡ false). ltb-false done p e)

-- two cases: a place of a section, or one outside
by_away : (P : Type 0) (p : ℕ) → (after < p → p < done → P) → (Away p → P) → P
by_away P p h k =
    by_cases P (ltb after p)
    (λ (a : ltb after p ≡ true).
    by_cases P (ltb p done) (λ (b : ltb p done ≡ true). h (ltb-true after p a) (ltb-true p done b))
    (λ (b : ltb p done ≡ false). k (away_high p (ltb-false p done b))))
    (λ (a : ltb after p ≡ false). k (away_low p (ltb-false after p a)))

-- ---- four matrices a section

-- in a section there is room for the kinds that it lacks
record Tally (s : State) : Type 0 where
  long : length s.seen ≡ 40
  all : s.place ≤ done → s.counts.matrices ≤ 4 * s.counts.sections
  inside : after < s.place → s.place < done → s.counts.matrices + 4 ≤ 4 * s.counts.sections + kinds s.seen

start_tally : Tally start_state
unfolding start_state none_seen no_counts
start_tally =
    record {
      long = refl;
      all = λ (h : before ≤ done). omega arith;
      inside = λ (a : after < before) (b : before < done). absurd (omega arith);
    }

-- a line without a keyword leads into no section
line_inside : (p : ℕ) (first : List ℕ) → after < moved_by_line p first → moved_by_line p first ≡ p
unfolding moved_by_line
line_inside p first =
    by_test (λ (n : ℕ). after < n → n ≡ p) (eqb p map_head) _ _
    (λ (e : eqb p map_head ≡ true).
    by_test (λ (n : ℕ). after < n → n ≡ p) (same first (bytes "Pin_list")) _ _
    (λ (f : same first (bytes "Pin_list") ≡ true) (h : after < place.pin_list). absurd (omega arith))
    (λ (f : same first (bytes "Pin_list") ≡ false) (h : after < map_head). absurd (omega arith)))
    (λ (e : eqb p map_head ≡ false) (h : after < p). refl)

-- and from a number above all places it leads to none of them
line_within : (p : ℕ) (first : List ℕ) → moved_by_line p first ≤ done → p ≤ done
unfolding moved_by_line
line_within p first =
    by_test (λ (n : ℕ). n ≤ done → p ≤ done) (eqb p map_head) _ _
    (λ (e : eqb p map_head ≡ true) h. let f : p ≡ map_head = eqb-true p map_head e in omega arith)
    (λ (e : eqb p map_head ≡ false) (h : p ≤ done). h)

line_tally : (content : List ℕ) (s : State) → Tally s → line_rule content s ≡ 0 → Tally (line_next content s)
unfolding line_next counts_after_line
line_tally content s t kept =
    record {
      long = t.long;
      all = λ (h : moved_by_line s.place (first_of (words content)) ≤ done). t.all (line_within s.place (first_of (words content)) h);
      inside = λ (a : after < moved_by_line s.place (first_of (words content))) (b : moved_by_line s.place (first_of (words content)) < done).
          let e : moved_by_line s.place (first_of (words content)) ≡ s.place = line_inside s.place (first_of (words content)) a in
          t.inside (omega arith) (omega arith);
    }

-- each kind once
kind_new : (k : ℕ) (argument : List ℕ) (s : State) → opens_matrix k ≡ true → keyword_rule k argument s ≡ 0 → get_or s.seen k false ≡ false
unfolding is_misplaced is_repeated is_once is_seen
kind_new k argument s m kept =
    let repeated : is_repeated k s ≡ false = either_none_first _ _ (either_none_second _ _ (either_none_second _ _ (keyword_placed k argument s kept))) in
    let once : is_once k ≡ true = either_right _ _ (either_right _ _ (either_left _ _ m)) in
    sym (both_rest _ _ once) ∙ repeated

module _ (k : ℕ) (argument : List ℕ) (s : State) (met : Met k s) (t : Tally s) (kept : keyword_rule k argument s ≡ 0) where
  long_next : length (seen_after k s.seen) ≡ 40
  long_next = seen_long k s.seen ∙ t.long

  -- [Begin ICM Section] makes room for four
  begin_inside : eqb k begin_icm_section ≡ true → moved s.place k ≤ done → (counts_after k s.counts).matrices + 4 ≤ 4 * (counts_after k s.counts).sections + kinds (seen_after k s.seen)
  begin_inside e h =
      let o : opens_matrix k ≡ false = ap opens_matrix (eqb-true k begin_icm_section e) ∙ section_other in
      let m : (counts_after k s.counts).matrices ≡ s.counts.matrices = matrices_same k s.counts o in
      let c : (counts_after k s.counts).sections ≡ s.counts.sections + 1 = sections_more k s.counts e in
      let b : s.counts.matrices ≤ 4 * s.counts.sections = t.all (moved_within s.place k h) in
      omega arith

  -- a matrix uses the room of its kind
  matrix_inside : opens_matrix k ≡ true → moved s.place k ≤ done → (counts_after k s.counts).matrices + 4 ≤ 4 * (counts_after k s.counts).sections + kinds (seen_after k s.seen)
  matrix_inside o h =
      let other : Strange k = strange k o in
      let m : (counts_after k s.counts).matrices ≡ s.counts.matrices + 1 = matrices_more k s.counts o in
      let c : (counts_after k s.counts).sections ≡ s.counts.sections = sections_same k s.counts other.section_other in
      let n : kinds (seen_after k s.seen) ≡ kinds s.seen + 1 = kinds_matrix k s.seen other.model_other other.section_other t.long o (kind_new k argument s o kept) in
      by_away _ s.place
      (λ (a : after < s.place) (b : s.place < done).
      let i : s.counts.matrices + 4 ≤ 4 * s.counts.sections + kinds s.seen = t.inside a b in
      omega arith)
      (λ (out : Away s.place).
      let p : done < moved s.place k = past_moved s.place k out met.on (λ (f : s.place ≡ before). other.other (met.first f)) other in
      absurd (omega arith))

  -- any other keyword changes none of it
  else_inside : eqb k begin_icm_section ≡ false → opens_matrix k ≡ false → after < moved s.place k → moved s.place k < done → (counts_after k s.counts).matrices + 4 ≤ 4 * (counts_after k s.counts).sections + kinds (seen_after k s.seen)
  else_inside e o g h =
      let m : (counts_after k s.counts).matrices ≡ s.counts.matrices = matrices_same k s.counts o in
      let c : (counts_after k s.counts).sections ≡ s.counts.sections = sections_same k s.counts e in
      let n : kinds (seen_after k s.seen) ≡ kinds s.seen = kinds_else k s.seen e o in
      by_away _ s.place
      (λ (a : after < s.place) (b : s.place < done).
      let i : s.counts.matrices + 4 ≤ 4 * s.counts.sections + kinds s.seen = t.inside a b in
      omega arith)
      (λ (out : Away s.place). absurd (away_moved s.place k out e g h))

  else_all : eqb k begin_icm_section ≡ false → opens_matrix k ≡ false → moved s.place k ≤ done → (counts_after k s.counts).matrices ≤ 4 * (counts_after k s.counts).sections
  else_all e o h =
      let m : (counts_after k s.counts).matrices ≡ s.counts.matrices = matrices_same k s.counts o in
      let c : (counts_after k s.counts).sections ≡ s.counts.sections = sections_same k s.counts e in
      let b : s.counts.matrices ≤ 4 * s.counts.sections = t.all (moved_within s.place k h) in
      omega arith

  -- so there are at most four matrices a section
  room_all : (counts_after k s.counts).matrices + 4 ≤ 4 * (counts_after k s.counts).sections + kinds (seen_after k s.seen) → (counts_after k s.counts).matrices ≤ 4 * (counts_after k s.counts).sections
  room_all h =
      let f : kinds (seen_after k s.seen) ≤ 4 = kinds_most (seen_after k s.seen) in
      omega arith

  inside_next : after < moved s.place k → moved s.place k < done → (counts_after k s.counts).matrices + 4 ≤ 4 * (counts_after k s.counts).sections + kinds (seen_after k s.seen)
  inside_next a b =
      let h : moved s.place k ≤ done = omega arith in
      by_cases _ (eqb k begin_icm_section) (λ (e : eqb k begin_icm_section ≡ true). begin_inside e h)
      (λ (e : eqb k begin_icm_section ≡ false).
      by_cases _ (opens_matrix k) (λ (o : opens_matrix k ≡ true). matrix_inside o h) (λ (o : opens_matrix k ≡ false). else_inside e o a b))

  all_next : moved s.place k ≤ done → (counts_after k s.counts).matrices ≤ 4 * (counts_after k s.counts).sections
  all_next h =
      by_cases _ (eqb k begin_icm_section) (λ (e : eqb k begin_icm_section ≡ true). room_all (begin_inside e h))
      (λ (e : eqb k begin_icm_section ≡ false).
      by_cases _ (opens_matrix k) (λ (o : opens_matrix k ≡ true). room_all (matrix_inside o h)) (λ (o : opens_matrix k ≡ false). else_all e o h))

  keyword_tally : Tally (keyword_next k argument s)
  unfolding keyword_next
  keyword_tally = record { long = long_next; all = all_next; inside = inside_next }

step_tally : (content : List ℕ) (s : State) → Tally s → (line_result content s).rule ≡ 0 → Tally (line_result content s).state
step_tally content s t z = step_holds Tally line_tally keyword_tally content s t z

-- over all sections there are at most four matrices each
pub read_fours : (t : List ℕ) (c : Counts) → reading_of t ≡ Read c → c.matrices ≤ 4 * c.sections
read_fours t c e =
    let y : Tally (state_after 1 (contents t) start_state) = along Tally step_tally 1 (contents t) start_state start_tally (reads_only t c e) in
    let d : (state_after 1 (contents t) start_state).place ≡ done = reads_done t c e in
    let f : (state_after 1 (contents t) start_state).counts.matrices ≤ 4 * (state_after 1 (contents t) start_state).counts.sections = y.all (omega arith) in
    rw (reads_counts t c e) f

-- so no rule needs to count the matrices
pub read_matrices : (t : List ℕ) (c : Counts) → reading_of t ≡ Read c → c.matrices ≤ most_matrices
read_matrices t c e =
    let f : c.matrices ≤ 4 * c.sections = read_fours t c e in
    let g : c.sections ≤ most_sections = (read_within t c e).sections in
    omega arith
