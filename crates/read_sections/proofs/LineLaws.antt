-- One line that is not part of a matrix and breaks no rule: what it does to the state, and that what is staged and what is
-- left stays the whole.
-- Assumes nothing.
use mathlib.Core.Path.{◌≡◌, refl, sym, ◌∙◌, ap}
use mathlib.Core.Bool.{true, false, true≢false}
use mathlib.Core.List.{List, ◌∷◌}
use Prim.Native.Nat.{ℕ, ◌+◌, ◌-◌, ◌*◌, ◌≤◌, ◌<◌}
use native.Mathlib.Omega.{arith}
use lib.ListN.{length}
use lib.Dec.{eqb}
use borrow.Author.Tests.{eq-eqb, ne_eqb, eqb-true, eqb-false}
use Rattle.base.specs.If.{provided◌then◌else◌, either}
use Rattle.base.specs.Broken.{first}
use Rattle.base.specs.Refusal as refusal
use Rattle.base.proofs.IfLaws.{if_true, if_false, by_test, by_cases, both_not_left, both_not_right, both_true, either_left, either_right, either_rest, either_comes, not_via, not_not_via}
use Rattle.lex_keyword.specs.Names.{the_end, begin_icm_section, derivation_method, end_icm_section}
use Rattle.lex_keyword.specs.Bracket.{bracket_of}
use Rattle.lex_keyword.specs.declared.Bracket.{Bracket}
use Rattle.lex_keyword.specs.declared.Bracket.TheVariants.{Plain, Indented, Bad, Unknown, Later, Keyword}
use Rattle.lex_keyword.proofs.AnswerLaws.{keyword_known}
use Rattle.line_place.specs.Place.{opens_matrix, is_row_or_bandwidth, is_text, is_in_model, is_in_family, is_in_header, moved, leads_after_family, leads_in_matrix, leads_in_section}
use Rattle.line_place.specs.Place as place
use Rattle.line_argument.specs.Argument.{form_of, method_of}
use Rattle.line_matrix.specs.Matrix.{new_matrix}
use Rattle.line_matrix.specs.declared.Matrix as matrix
use Rattle.line_keyword.specs.Keywords.{one_more_if, counts_after, section_after, matrix_after, keyword_next}
use Rattle.line_keyword.specs.declared.Section as kept
use Rattle.line_keyword.proofs.InsideLaws.{opens_closes}
use Rattle.line_keyword.specs.declared.State.{State}
use Rattle.line_keyword.specs.Way.Rule.{keyword_rule}
use Rattle.table_layout.specs.Layout.{section_width}
use Rattle.table_record.specs.Records.{section_words}
use Rattle.table_record.specs.Way.Stage.{put_at}
use Rattle.read_line.specs.Reading.{line_result, breaks}
use Rattle.read_line.specs.Way.Steps.{bracket_step, line_rule}
use Rattle.read_line.specs.declared.LineResult.{LineResult}
use Rattle.read_line.proofs.ResultLaws.{result_steps}
use Rattle.read_line.proofs.OutsideLaws.{Met}
use Rattle.doc.specs.Lines.{Line, plain, key_in, key_at, key_of, argument_of}
use Rattle.doc.specs.Document.{Section, kind_of, opens_section}
use Rattle.doc.proofs.BlockLaws.{Follow}
use Rattle.doc.proofs.BodyLaws.{keyword_leads, SectionKey, section_key, section_leads, matrix_leads}
use Rattle.doc.proofs.Goes.{Moves, MetBy}
use Rattle.doc.proofs.Goes.Idle.{ended, waits}
use Rattle.doc.proofs.Goes.Moves.{idle, plainly, keyed}
use Rattle.read_matrix.specs.Way.Body.{Ends}
use Rattle.read_sections.specs.declared.OpenSection.{OpenSection}
use Rattle.read_sections.specs.Way.Open.{Reached, reached_in, is_in_section, Stands, beginning, with_kind, open_after, closed_record, sections_after}
use Rattle.read_sections.specs.Way.Sections.{Late, outside_matrix, EndsKeyed}
use Rattle.read_sections.proofs.LeftLaws.{after_out, done_out, follow_out, stands_outside, stands_begun, stands_method, stands_matrix, stands_ended}

-- what the walk has reached, by what is known of the state
reached_is : (s : State) (p m f c k v n : ℕ) → s.place ≡ p → s.section.method ≡ m → s.matrix.form ≡ f → s.counts.sections ≡ c → s.counts.matrices ≡ k →
    s.counts.values ≡ v → reached_in s.place s n ≡ record { place = p; method = m; form = f; sections = c; matrices = k; values = v; line = n }
reached_is s p m f c k v n a b d e g h =
    λ i. record { place = a i; method = b i; form = d i; sections = e i; matrices = g i; values = h i; line = n }

-- ---- which lines there are

-- outside matrices no line behind the family is without a keyword
module _ (content : List ℕ) (s : State) (late : Late s.place) (away : s.place ≡ place.matrix → ⊥) where
  rule_always : (p : ℕ) → s.place ≡ p → place.after ≤ p → p ≤ place.done → (p ≡ place.matrix → ⊥) → line_rule content s ≡ refusal.line
  unfolding line_rule first is_text either provided◌then◌else◌
  rule_always p e h k n =
      rw e
      (rw (
        eqb_no p place.header_text (λ (z : p ≡ place.header_text). omega arith),
        eqb_no p place.family_text (λ (z : p ≡ place.family_text). omega arith),
        eqb_no p place.model_text (λ (z : p ≡ place.model_text). omega arith),
        eqb_no p place.matrix n,
        eqb_no p place.path (λ (z : p ≡ place.path). omega arith),
        eqb_no p place.pin_list (λ (z : p ≡ place.pin_list). omega arith),
        eqb_no p place.map_head (λ (z : p ≡ place.map_head). omega arith),
        eqb_no p place.head (λ (z : p ≡ place.head). omega arith),
        eqb_no p place.list (λ (z : p ≡ place.list). omega arith),
      ))
    where
      eqb_no : (a b : ℕ) → (a ≡ b → ⊥) → eqb a b ≡ false
      eqb_no a b h = ne_eqb a b h

  plain_broken : line_rule content s ≡ 0 → ⊥
  plain_broken kept =
      let e : line_rule content s ≡ refusal.line = rule_always s.place refl late.from late.upto away in
      let z : refusal.line ≡ 0 = sym e ∙ kept in
      omega arith

module _ (content : List ℕ) (s : State) (here : s.place ≡ place.matrix) (ends : Ends content) (kept : (line_result content s).rule ≡ 0) where
  by_step : line_result content s ≡ bracket_step (bracket_of content) content s
  by_step =
      result_steps content s ∙ if_false _ _ ends.filled ∙ if_false _ _ (ne_eqb _ _ (λ (z : s.place ≡ place.done). omega arith))
      ∙ if_false _ _ (ne_eqb _ _ (λ (z : s.place ≡ place.before). omega arith))

  never : (b : Bracket) → bracket_of content ≡ b → (k : ℕ) → bracket_step b content s ≡ breaks k s → (k ≡ 0 → ⊥) → ⊥
  unfolding breaks
  never b is k e h = h (sym (ap (λ (r : LineResult). r.rule) (by_step ∙ ap (λ (x : Bracket). bracket_step x content s) is ∙ e)) ∙ kept)

  by_bracket : (b : Bracket) → bracket_of content ≡ b → EndsKeyed content
  unfolding key_at is_text either
  by_bracket Plain b = absurd (ends.opens b)
  by_bracket Indented b = absurd (never Indented b refusal.keyword (if_false _ _ (rw here)) (λ (z : refusal.keyword ≡ 0). omega arith))
  by_bracket Bad b = absurd (never Bad b refusal.keyword refl (λ (z : refusal.keyword ≡ 0). omega arith))
  by_bracket Unknown b = absurd (never Unknown b refusal.unknown refl (λ (z : refusal.unknown ≡ 0). omega arith))
  by_bracket Later b = absurd (never Later b refusal.later refl (λ (z : refusal.later ≡ 0). omega arith))
  by_bracket (Keyword k start) b =
      let h : k < 40 = (keyword_known k start content b).known in
      let e : key_in (bracket_of content) ≡ k = ap key_in b in
      record {
        keyed = λ (z : key_in (bracket_of content) ≡ plain). omega arith;
        leaves = ap is_row_or_bandwidth e ∙ ends.leaves k start b;
      }

  pub ends_keyed : EndsKeyed content
  ends_keyed = by_bracket (bracket_of content) refl

-- the keywords behind the family
data AfterKey (k : ℕ) : Type 0 where
  begins : k ≡ begin_icm_section → AfterKey k
  finishes : k ≡ the_end → AfterKey k

module _ (k : ℕ) (argument : List ℕ) (s : State) (kept : keyword_rule k argument s ≡ 0) where
  after_key : s.place ≡ place.after → AfterKey k
  unfolding moved leads_after_family is_in_model is_in_family is_in_header either provided◌then◌else◌
  after_key p =
      by_cases (AfterKey k) (eqb k begin_icm_section) (λ (e : eqb k begin_icm_section ≡ true). begins (eqb-true _ _ e))
      (λ (e : eqb k begin_icm_section ≡ false).
      by_cases (AfterKey k) (eqb k the_end) (λ (f : eqb k the_end ≡ true). finishes (eqb-true _ _ f))
      (λ (f : eqb k the_end ≡ false). absurd (keyword_leads k argument s kept (rw (p, e, f)))))

  head_key : s.place ≡ place.section_head → k ≡ derivation_method
  unfolding moved is_in_model is_in_family is_in_header either provided◌then◌else◌
  head_key p =
      by_cases (k ≡ derivation_method) (eqb k derivation_method) (λ (e : eqb k derivation_method ≡ true). eqb-true _ _ e)
      (λ (e : eqb k derivation_method ≡ false). absurd (keyword_leads k argument s kept (rw (p, e))))

  inside_key : either (eqb s.place place.section) (eqb s.place place.matrix) ≡ true → (s.place ≡ place.matrix → is_row_or_bandwidth k ≡ false) → SectionKey k
  unfolding leads_in_matrix
  inside_key inside leaves =
      by_cases (SectionKey k) (eqb s.place place.section)
      (λ (e : eqb s.place place.section ≡ true). section_key k (section_leads k argument s kept (eqb-true _ _ e)))
      (λ (e : eqb s.place place.section ≡ false).
      let p : s.place ≡ place.matrix = eqb-true _ _ (sym (either_rest _ _ e) ∙ inside) in
      section_key k (λ (z : leads_in_section k ≡ place.dead). matrix_leads k argument s kept p (if_false _ _ (leaves p) ∙ z)))

-- ---- the state after a keyword

module _ (argument : List ℕ) (s : State) where
  -- [Begin ICM Section]
  module _ (p : s.place ≡ place.after) where
    begun_place : (keyword_next begin_icm_section argument s).place ≡ place.section_head
    unfolding keyword_next moved leads_after_family is_in_model is_in_family is_in_header either provided◌then◌else◌
    begun_place = rw p

    begun_sections : (keyword_next begin_icm_section argument s).counts.sections ≡ s.counts.sections + 1
    unfolding keyword_next counts_after one_more_if provided◌then◌else◌
    begun_sections = refl

    begun_matrices : (keyword_next begin_icm_section argument s).counts.matrices ≡ s.counts.matrices
    unfolding keyword_next counts_after one_more_if opens_matrix either provided◌then◌else◌
    begun_matrices = refl

    begun_values : (keyword_next begin_icm_section argument s).counts.values ≡ s.counts.values
    unfolding keyword_next counts_after
    begun_values = refl

  -- [End]
  module _ (p : s.place ≡ place.after) where
    ended_place : (keyword_next the_end argument s).place ≡ place.done
    unfolding keyword_next moved leads_after_family is_in_model is_in_family is_in_header either provided◌then◌else◌
    ended_place = rw p

    ended_method : (keyword_next the_end argument s).section.method ≡ s.section.method
    unfolding keyword_next section_after provided◌then◌else◌
    ended_method = refl

    ended_form : (keyword_next the_end argument s).matrix.form ≡ s.matrix.form
    unfolding keyword_next matrix_after opens_matrix either provided◌then◌else◌
    ended_form = refl

    ended_sections : (keyword_next the_end argument s).counts.sections ≡ s.counts.sections
    unfolding keyword_next counts_after one_more_if provided◌then◌else◌
    ended_sections = refl

    ended_matrices : (keyword_next the_end argument s).counts.matrices ≡ s.counts.matrices
    unfolding keyword_next counts_after one_more_if opens_matrix either provided◌then◌else◌
    ended_matrices = refl

    ended_values : (keyword_next the_end argument s).counts.values ≡ s.counts.values
    unfolding keyword_next counts_after
    ended_values = refl

  -- [Derivation Method]
  module _ (p : s.place ≡ place.section_head) where
    method_place : (keyword_next derivation_method argument s).place ≡ place.section
    unfolding keyword_next moved is_in_model is_in_family is_in_header either provided◌then◌else◌
    method_place = rw p

    method_told : (keyword_next derivation_method argument s).section.method ≡ method_of argument
    unfolding keyword_next section_after provided◌then◌else◌
    method_told = refl

    method_sections : (keyword_next derivation_method argument s).counts.sections ≡ s.counts.sections
    unfolding keyword_next counts_after one_more_if provided◌then◌else◌
    method_sections = refl

    method_matrices : (keyword_next derivation_method argument s).counts.matrices ≡ s.counts.matrices
    unfolding keyword_next counts_after one_more_if opens_matrix either provided◌then◌else◌
    method_matrices = refl

    method_values : (keyword_next derivation_method argument s).counts.values ≡ s.counts.values
    unfolding keyword_next counts_after
    method_values = refl

  -- [End ICM Section]
  module _ (inside : either (eqb s.place place.section) (eqb s.place place.matrix) ≡ true) where
    left_place : (keyword_next end_icm_section argument s).place ≡ place.after
    unfolding keyword_next moved leads_in_matrix leads_in_section is_row_or_bandwidth opens_matrix is_in_model is_in_family is_in_header either provided◌then◌else◌
    left_place =
        by_cases _ (eqb s.place place.section)
        (λ (e : eqb s.place place.section ≡ true). rw (eqb-true s.place place.section e))
        (λ (e : eqb s.place place.section ≡ false). rw (eqb-true s.place place.matrix (sym (either_rest _ _ e) ∙ inside)))

    left_method : (keyword_next end_icm_section argument s).section.method ≡ s.section.method
    unfolding keyword_next section_after provided◌then◌else◌
    left_method = refl

    left_sections : (keyword_next end_icm_section argument s).counts.sections ≡ s.counts.sections
    unfolding keyword_next counts_after one_more_if provided◌then◌else◌
    left_sections = refl

    left_matrices : (keyword_next end_icm_section argument s).counts.matrices ≡ s.counts.matrices
    unfolding keyword_next counts_after one_more_if opens_matrix either provided◌then◌else◌
    left_matrices = refl

    left_values : (keyword_next end_icm_section argument s).counts.values ≡ s.counts.values
    unfolding keyword_next counts_after
    left_values = refl

  -- a keyword that opens a matrix
  module _ (k : ℕ) (opens : opens_matrix k ≡ true) (inside : either (eqb s.place place.section) (eqb s.place place.matrix) ≡ true) where
    other : (j : ℕ) → opens_matrix j ≡ false → eqb k j ≡ false
    other j h = ne_eqb k j (λ (e : k ≡ j). true≢false (sym opens ∙ ap opens_matrix e ∙ h))

    other_begin : eqb k begin_icm_section ≡ false
    unfolding opens_matrix either
    other_begin = other begin_icm_section refl

    other_method : eqb k derivation_method ≡ false
    unfolding opens_matrix either
    other_method = other derivation_method refl

    opened_place : (keyword_next k argument s).place ≡ place.matrix
    unfolding keyword_next moved leads_in_matrix leads_in_section is_in_model is_in_family is_in_header either provided◌then◌else◌
    opened_place =
        by_cases _ (eqb s.place place.section)
        (λ (e : eqb s.place place.section ≡ true). rw (eqb-true s.place place.section e, opens))
        (λ (e : eqb s.place place.section ≡ false).
        rw (eqb-true s.place place.matrix (sym (either_rest _ _ e) ∙ inside), opens_closes k opens, opens))

    opened_method : (keyword_next k argument s).section.method ≡ s.section.method
    unfolding keyword_next section_after
    opened_method = ap (λ (x : kept.Section). x.method) (if_false _ _ other_begin ∙ if_false _ _ other_method)

    opened_form : (keyword_next k argument s).matrix.form ≡ form_of argument
    unfolding keyword_next matrix_after new_matrix
    opened_form = ap (λ (x : matrix.Matrix). x.form) (if_true _ _ opens)

    opened_sections : (keyword_next k argument s).counts.sections ≡ s.counts.sections
    unfolding keyword_next counts_after one_more_if
    opened_sections = if_false _ _ other_begin

    opened_matrices : (keyword_next k argument s).counts.matrices ≡ s.counts.matrices + 1
    unfolding keyword_next counts_after one_more_if
    opened_matrices = if_true _ _ opens

    opened_values : (keyword_next k argument s).counts.values ≡ s.counts.values
    unfolding keyword_next counts_after
    opened_values = refl

-- ---- what is staged, and what is left

stands_told :
    (ss : List Section) (o o' : OpenSection) (w w' : Reached) (ls : List Line) (table sections sections' matrices : List ℕ) → o ≡ o' → w ≡ w' → sections ≡ sections' →
    Stands ss o w ls table sections matrices → Stands ss o' w' ls table sections' matrices
stands_told ss o o' w w' ls table sections sections' matrices a b c h = rw (a, b, c) at h

-- what the code keeps and stages, by the places
module _ (at : ℕ) (content : List ℕ) (o : OpenSection) where
  pub open_same : (before after : ℕ) → eqb after place.matrix ≡ false → (eqb after place.section_head ≡ true → before ≡ place.section_head) → open_after at content before after o ≡ o
  unfolding open_after
  open_same before after a b =
      if_false _ _ a
      ∙ by_test (λ (x : OpenSection). x ≡ o) (eqb after place.section_head) _ _ (λ (e : eqb after place.section_head ≡ true). if_true _ _ (eq-eqb _ _ (b e)))
      (λ (e : eqb after place.section_head ≡ false). refl)

  open_begun : open_after at content place.after place.section_head o ≡ beginning at content
  unfolding open_after provided◌then◌else◌
  open_begun = refl

  open_keyed : (before : ℕ) → open_after at content before place.matrix o ≡ with_kind (kind_of (key_at content)) o
  unfolding open_after provided◌then◌else◌
  open_keyed before = refl

module _ (o : OpenSection) (s : State) (sections : List ℕ) where
  pub staged_same : (before after : ℕ) → (eqb after place.after ≡ true → before ≡ place.after) → sections_after o s before after sections ≡ sections
  unfolding sections_after
  staged_same before after h =
      by_cases _ (eqb after place.after)
      (λ (e : eqb after place.after ≡ true). if_false _ _ (both_not_right _ _ (not_not_via (eq-eqb _ _ (h e)))))
      (λ (e : eqb after place.after ≡ false). if_false _ _ (both_not_left _ _ e))

  staged_ended : (before : ℕ) → eqb before place.after ≡ false → sections_after o s before place.after sections
      ≡ put_at (section_width * (s.counts.sections - 1)) (section_words (closed_record o s)) sections
  unfolding sections_after
  staged_ended before h = if_true _ _ (both_true _ _ refl (not_via h))

pub outside_not : (p : ℕ) → eqb p place.matrix ≡ false → outside_matrix p ≡ p
unfolding outside_matrix
outside_not p h = if_false _ _ h

outside_inside : (p : ℕ) → either (eqb p place.section) (eqb p place.matrix) ≡ true → outside_matrix p ≡ place.section
unfolding outside_matrix
outside_inside p h =
    by_cases _ (eqb p place.matrix) (λ (e : eqb p place.matrix ≡ true). if_true _ _ e)
    (λ (e : eqb p place.matrix ≡ false). if_false _ _ e ∙ eqb-true p place.section (sym (either_comes _ _ e) ∙ h))

-- the name of a section that begins
start_is : (l : Line) → (beginning l.at l.content).start ≡ (argument_of l).start
unfolding argument_of
start_is l = refl

size_is : (l : Line) → (beginning l.at l.content).size ≡ length (argument_of l).text
unfolding argument_of
size_is l = refl

-- after a line that leads from one place to another
module _ (l : Line) (ls : List Line) (s : State) (n : ℕ) where
  pub record Steps (s' : State) : Type 0 where
    pub late : Late s'.place
    pub stands : (ss : List Section) (o : OpenSection) (table sections matrices : List ℕ) →
        Stands ss o (reached_in (outside_matrix s.place) s n) (l ∷ ls) table sections matrices →
        Stands ss (open_after l.at l.content s.place s'.place o) (reached_in s'.place s' (n + 1)) ls table (sections_after o s s.place s'.place sections) matrices

  abbrev m : ℕ
  m = s.section.method

  abbrev f : ℕ
  f = s.matrix.form

  abbrev c : ℕ
  c = s.counts.sections

  abbrev k : ℕ
  k = s.counts.matrices

  abbrev v : ℕ
  v = s.counts.values

  abbrev now : ℕ → Reached
  now p = record { place = p; method = m; form = f; sections = c; matrices = k; values = v; line = n }

  -- by what is known of the place before, and of what is reached after
  steps_by : (s' : State) (p p' : ℕ) (w' : Reached) → outside_matrix s.place ≡ p → s'.place ≡ p' → place.after ≤ p' → p' ≤ place.done →
      reached_in s'.place s' (n + 1) ≡ w' →
      ((ss : List Section) (o : OpenSection) (table sections matrices : List ℕ) → Stands ss o (now p) (l ∷ ls) table sections matrices →
      Stands ss (open_after l.at l.content s.place p' o) w' ls table (sections_after o s s.place p' sections) matrices) → Steps s'
  steps_by s' p p' w' a b from upto d steps =
      record {
        late = rw b (record { from = from; upto = upto });
        stands = λ (ss : List Section) (o : OpenSection) (table sections matrices : List ℕ) (h : Stands ss o (reached_in (outside_matrix s.place) s n) (l ∷ ls) table sections matrices).
            stands_told ss _ _ w' (reached_in s'.place s' (n + 1)) ls table _ _ matrices
            (ap (λ (q : ℕ). open_after l.at l.content s.place q o) (sym b)) (sym d) (ap (λ (q : ℕ). sections_after o s s.place q sections) (sym b))
            (steps ss o table sections matrices (stands_told ss o o _ (now p) (l ∷ ls) table sections sections matrices refl (ap now a) refl h));
      }

  module _ (here : l.place ≡ s.place) (line_is : l.line ≡ n) where
    -- outside sections
    module _ (s' : State) (p p' : ℕ) (is_p : s.place ≡ p) (out : is_in_section p ≡ false) (out' : is_in_section p' ≡ false) (away : eqb p place.matrix ≡ false)
        (away' : eqb p' place.matrix ≡ false) (not_head : eqb p' place.section_head ≡ false) (still : eqb p' place.after ≡ true → p ≡ place.after)
        (shut : opens_section l ≡ false) (follow : Follow p' ls) where
      steps_outside : s'.place ≡ p' → place.after ≤ p' → p' ≤ place.done →
          reached_in s'.place s' (n + 1) ≡ record { place = p'; method = m; form = f; sections = c; matrices = k; values = v; line = n + 1 } → Steps s'
      steps_outside is_p' from upto reached =
          steps_by s' p p' _ (ap outside_matrix is_p ∙ outside_not p away) is_p' from upto reached
          (λ (ss : List Section) (o : OpenSection) (table sections matrices : List ℕ) (h : Stands ss o (now p) (l ∷ ls) table sections matrices).
          stands_told ss o _ _ _ ls table sections _ matrices
          (sym (open_same l.at l.content o s.place p' away' (λ (e : eqb p' place.section_head ≡ true). absurd (true≢false (sym e ∙ not_head))))) refl
          (sym (staged_same o s sections s.place p' (λ (e : eqb p' place.after ≡ true). is_p ∙ still e)))
          (stands_outside o m f c k v n l ls ss table sections matrices p p' out out' away away' (here ∙ is_p) shut (follow_out follow out') (n + 1) h))

    -- behind [End]
    steps_done : s.place ≡ place.done → Follow s.place ls → Steps s
    unfolding opens_section
    steps_done p follow =
        let g : Follow place.done ls = rw p at follow in
        steps_outside s place.done place.done p done_out done_out refl refl refl (λ (e : false ≡ true). absurd (true≢false (sym e)))
        (both_not_left _ _ (rw (here ∙ p))) g p (omega arith) (omega arith) (ap (λ (q : ℕ). reached_in q s (n + 1)) p)

    module _ (a : List ℕ) (is_a : (argument_of l).text ≡ a) where
      -- [End]
      steps_end : s.place ≡ place.after → key_of l ≡ the_end → Follow (keyword_next the_end a s).place ls → Steps (keyword_next the_end a s)
      unfolding opens_section
      steps_end p key follow =
          steps_outside (keyword_next the_end a s) place.after place.done p after_out done_out refl refl refl (λ (e : false ≡ true). absurd (true≢false (sym e)))
          (both_not_right _ _ (rw key)) (rw (ended_place a s p) at follow) (ended_place a s p) (omega arith) (omega arith)
          (reached_is (keyword_next the_end a s) place.done m f c k v (n + 1) (ended_place a s p) (ended_method a s p) (ended_form a s p) (ended_sections a s p) (ended_matrices a s p)
          (ended_values a s p))

      -- [Begin ICM Section]
      steps_begin : s.place ≡ place.after → key_of l ≡ begin_icm_section → Steps (keyword_next begin_icm_section a s)
      steps_begin p key =
          let s' : State = keyword_next begin_icm_section a s in
          steps_by s' place.after place.section_head _ (ap outside_matrix p ∙ outside_not place.after refl) (begun_place a s p) (omega arith) (omega arith)
          (reached_is s' place.section_head s'.section.method s'.matrix.form (c + 1) k v (n + 1) (begun_place a s p) refl refl (begun_sections a s p) (begun_matrices a s p)
          (begun_values a s p))
          (λ (ss : List Section) (o : OpenSection) (table sections matrices : List ℕ) (h : Stands ss o (now place.after) (l ∷ ls) table sections matrices).
          stands_told ss (beginning l.at l.content) _ _ _ ls table sections _ matrices
          (sym (ap (λ (q : ℕ). open_after l.at l.content q place.section_head o) p ∙ open_begun l.at l.content o)) refl
          (sym (staged_same o s sections s.place place.section_head (λ (e : false ≡ true). absurd (true≢false (sym e)))))
          (stands_begun o m f c k v n l ls ss table sections matrices (here ∙ p) key (beginning l.at l.content) (start_is l) (size_is l) refl refl s'.section.method s'.matrix.form (n + 1) h))

      -- [Derivation Method]
      steps_method : s.place ≡ place.section_head → key_of l ≡ derivation_method → Steps (keyword_next derivation_method a s)
      steps_method p key =
          let s' : State = keyword_next derivation_method a s in
          steps_by s' place.section_head place.section _ (ap outside_matrix p ∙ outside_not place.section_head refl) (method_place a s p) (omega arith) (omega arith)
          (reached_is s' place.section s'.section.method s'.matrix.form c k v (n + 1) (method_place a s p) refl refl (method_sections a s p) (method_matrices a s p)
          (method_values a s p))
          (λ (ss : List Section) (o : OpenSection) (table sections matrices : List ℕ) (h : Stands ss o (now place.section_head) (l ∷ ls) table sections matrices).
          stands_told ss o _ _ _ ls table sections _ matrices
          (sym (open_same l.at l.content o s.place place.section refl (λ (e : false ≡ true). absurd (true≢false (sym e))))) refl
          (sym (staged_same o s sections s.place place.section (λ (e : false ≡ true). absurd (true≢false (sym e)))))
          (stands_method o m f c k v n l ls ss table sections matrices (here ∙ p) key s'.section.method s'.matrix.form (n + 1) (method_told a s p ∙ ap method_of (sym is_a)) h))

      -- in a section
      module _ (inside : either (eqb s.place place.section) (eqb s.place place.matrix) ≡ true) where
        in_line : either (eqb l.place place.section) (eqb l.place place.matrix) ≡ true
        in_line = rw here inside

        -- a matrix opens
        steps_opens : (key : ℕ) → key_of l ≡ key → opens_matrix key ≡ true → Steps (keyword_next key a s)
        unfolding key_of
        steps_opens key key_is opens =
            let s' : State = keyword_next key a s in
            steps_by s' place.section place.matrix _ (outside_inside s.place inside) (opened_place a s key opens inside) (omega arith) (omega arith)
            (reached_is s' place.matrix m s'.matrix.form c (k + 1) v (n + 1) (opened_place a s key opens inside) (opened_method a s key opens inside) refl
            (opened_sections a s key opens inside) (opened_matrices a s key opens inside) (opened_values a s key opens inside))
            (λ (ss : List Section) (o : OpenSection) (table sections matrices : List ℕ) (h : Stands ss o (now place.section) (l ∷ ls) table sections matrices).
            stands_told ss (with_kind (kind_of (key_of l)) o) _ _ _ ls table sections _ matrices (sym (open_keyed l.at l.content o s.place)) refl
            (sym (staged_same o s sections s.place place.matrix (λ (e : false ≡ true). absurd (true≢false (sym e)))))
            (stands_matrix o m f c k v n l ls ss table sections matrices in_line (rw key_is opens) s'.matrix.form
            (opened_form a s key opens inside ∙ ap form_of (sym is_a)) line_is h))

        -- the section ends
        steps_leaves : key_of l ≡ end_icm_section → Follow (keyword_next end_icm_section a s).place ls → Steps (keyword_next end_icm_section a s)
        unfolding either
        steps_leaves key follow =
            let s' : State = keyword_next end_icm_section a s in
            let g : Follow place.after ls = rw (left_place a s inside) at follow in
            let away : eqb s.place place.after ≡ false = ne_eqb _ _ (λ (e : s.place ≡ place.after). true≢false (sym inside ∙ rw e)) in
            steps_by s' place.section place.after _ (outside_inside s.place inside) (left_place a s inside) (omega arith) (omega arith)
            (reached_is s' place.after m s'.matrix.form c k v (n + 1) (left_place a s inside) (left_method a s inside) refl (left_sections a s inside) (left_matrices a s inside)
            (left_values a s inside))
            (λ (ss : List Section) (o : OpenSection) (table sections matrices : List ℕ) (h : Stands ss o (now place.section) (l ∷ ls) table sections matrices).
            stands_told ss o _ _ _ ls table _ _ matrices
            (sym (open_same l.at l.content o s.place place.after refl (λ (e : false ≡ true). absurd (true≢false (sym e))))) refl
            (sym (staged_ended o s sections s.place away))
            (stands_ended o m f c k v n l ls ss table sections matrices in_line key (follow_out g after_out) _ refl s'.matrix.form (n + 1) h))

-- ---- a line that breaks no rule

module _ (l : Line) (ls : List Line) (s : State) (n : ℕ) (here : l.place ≡ s.place) (line_is : l.line ≡ n) (late : Late s.place)
    (ends : s.place ≡ place.matrix → EndsKeyed l.content) where
  module _ (kept : keyword_rule (key_of l) (argument_of l).text s ≡ 0) (follow : Follow (keyword_next (key_of l) (argument_of l).text s).place ls) where
    abbrev next : ℕ → State
    next key = keyword_next key (argument_of l).text s

    from_after : s.place ≡ place.after → AfterKey (key_of l) → Steps l ls s n (next (key_of l))
    from_after p (begins e) = rw e (steps_begin l ls s n here line_is (argument_of l).text refl p e)
    from_after p (finishes e) = rw e (steps_end l ls s n here line_is (argument_of l).text refl p e (rw e at follow))

    from_head : s.place ≡ place.section_head → key_of l ≡ derivation_method → Steps l ls s n (next (key_of l))
    from_head p e = rw e (steps_method l ls s n here line_is (argument_of l).text refl p e)

    from_inside : either (eqb s.place place.section) (eqb s.place place.matrix) ≡ true → SectionKey (key_of l) → Steps l ls s n (next (key_of l))
    from_inside inside (SectionKey.opens e) = steps_opens l ls s n here line_is (argument_of l).text refl inside (key_of l) refl e
    from_inside inside (SectionKey.leaves e) = rw e (steps_leaves l ls s n here line_is (argument_of l).text refl inside e (rw e at follow))

    leaves_inside : s.place ≡ place.matrix → is_row_or_bandwidth (key_of l) ≡ false
    unfolding key_of
    leaves_inside p = (ends p).leaves

    steps_keyed : Met (key_of l) s → Steps l ls s n (next (key_of l))
    steps_keyed met =
        by_cases _ (eqb s.place place.after)
        (λ (e : eqb s.place place.after ≡ true).
        from_after (eqb-true _ _ e) (after_key (key_of l) (argument_of l).text s kept (eqb-true _ _ e)))
        (λ (e : eqb s.place place.after ≡ false).
        by_cases _ (eqb s.place place.section_head)
        (λ (f : eqb s.place place.section_head ≡ true).
        from_head (eqb-true _ _ f) (head_key (key_of l) (argument_of l).text s kept (eqb-true _ _ f)))
        (λ (f : eqb s.place place.section_head ≡ false).
        let inside : either (eqb s.place place.section) (eqb s.place place.matrix) ≡ true =
        rest (eqb-false _ _ e) (eqb-false _ _ f) met.on late.from late.upto in
        from_inside inside (inside_key (key_of l) (argument_of l).text s kept inside leaves_inside)))
      where
        rest : (s.place ≡ place.after → ⊥) → (s.place ≡ place.section_head → ⊥) → (s.place ≡ place.done → ⊥) → place.after ≤ s.place → s.place ≤ place.done →
            either (eqb s.place place.section) (eqb s.place place.matrix) ≡ true
        rest a b c from upto =
            by_cases _ (eqb s.place place.section) (λ (e : eqb s.place place.section ≡ true). either_left _ _ e)
            (λ (e : eqb s.place place.section ≡ false).
            let d : s.place ≡ place.section → ⊥ = eqb-false _ _ e in
            let m : s.place ≡ place.matrix = omega arith in
            either_right _ _ (eq-eqb s.place place.matrix m))

  steps_plainly : key_of l ≡ plain → line_rule l.content s ≡ 0 → ⊥
  unfolding key_of
  steps_plainly key kept =
      by_cases ⊥ (eqb s.place place.matrix) (λ (e : eqb s.place place.matrix ≡ true). (ends (eqb-true _ _ e)).keyed key)
      (λ (e : eqb s.place place.matrix ≡ false). plain_broken l.content s late (eqb-false _ _ e) kept)

  pub moves_steps : (s' : State) (mv : Moves l s s') → MetBy mv → Follow s'.place ls → Steps l ls s n s'
  moves_steps s' (idle (ended e)) met follow = steps_done l ls s n here line_is e follow
  moves_steps s' (idle (waits e key)) met follow =
      let h : place.after ≤ s.place = late.from in
      absurd (omega (arith, e, h))
  moves_steps s' (plainly key kept) met follow = absurd (steps_plainly key kept)
  moves_steps s' (keyed key kept) met follow = steps_keyed kept follow met
