-- Every section of a text that reads to its end has a matrix and a method, and its matrices are right, all with the
-- same conductors. The proof follows the sections line by line, as the forward reading does.
-- Assumes nothing.
use Prim.Native.Nat.{ℕ, zero, suc, ◌≤◌, zero-le, suc-le-suc}
use mathlib.Core.Path.{◌≡◌, refl, sym, ◌∙◌, ap, subst}
use mathlib.Core.Bool.{Bool, true, false, true≢false}
use mathlib.Core.List.{List, [], ◌∷◌}
use mathlib.Core.Logic.{◌⊎◌, inl, inr}
use native.Mathlib.Omega.{arith}
use lib.ListN.{length, get_or, set}
use lib.Seq.{get_or-set_other}
use lib.Dec.{eqb}
use borrow.Author.Tests.{eq-eqb, eqb-true, eqb-false}
use Rattle.base.specs.If.{provided◌then◌else◌, either}
use Rattle.base.specs.Broken.{first}
use Rattle.base.proofs.IfLaws.{
  if_true,
  if_false,
  by_test,
  by_cases,
  both_true,
  both_first,
  both_second,
  either_none_first,
  either_none_second,
  not_via,
}
use Rattle.lex_keyword.specs.Names.{
  row,
  bandwidth,
  end_icm_section,
  derivation_method,
  resistance_matrix,
  inductance_matrix,
  begin_icm_section,
  conductance_matrix,
  capacitance_matrix,
}
use Rattle.line_place.specs.Place.{opens_matrix, is_row_or_bandwidth, done, moved, leads_after_family, is_text, is_in_model, is_in_family, is_in_header}
use Rattle.line_place.specs.Place as place
use Rattle.line_argument.specs.Argument.{form_of, method_of, takes_nothing, takes_free_text, takes_name, is_bad_form, is_bad_argument}
use Rattle.line_matrix.specs.Matrix.{new_matrix}
use Rattle.line_matrix.specs.Matrix as matrix
use Rattle.line_keyword.specs.declared.State.{State}
use Rattle.line_keyword.specs.Keywords.{is_seen, has_no_kind, kinds_lack, is_lacking, is_misplaced, seen_after, keyword_next}
use Rattle.line_keyword.specs.declared.Counts.{Counts}
use Rattle.line_keyword.specs.State.{start_state}
use Rattle.line_keyword.proofs.InsideLaws.{opens_closes}
use Rattle.line_keyword.specs.Way.Rule.{keyword_rule}
use Rattle.read_line.specs.Reading.{line_next, reading_of}
use Rattle.read_line.specs.declared.Reading.TheVariants.{Read}
use Rattle.doc.specs.Lines.{Line, plain, key_of, argument_of, gather, up_to, significant}
use Rattle.doc.specs.Document.{
  Matrix,
  Section,
  matrix_of,
  matrix_at,
  opens_matrix_at,
  in_matrix,
  given_by,
  in_section,
  opens_section,
  method_in,
  section_of,
  section_at,
  conductors_of,
  document_in,
  document_of,
}
use Rattle.doc.specs.Holds.{Each}
use Rattle.doc.proofs.StandsLaws.{each_map}
use Rattle.doc.proofs.Goes.{Idle, Moves, Goes, Ends, text_ends}
use Rattle.doc.proofs.Goes.Idle.{ended, waits}
use Rattle.doc.proofs.Goes.Moves.{idle, plainly, keyed}
use Rattle.doc.proofs.ShapeLaws.{Body, data_body}
use Rattle.doc.proofs.FormLaws.{body_same}
use Rattle.doc.proofs.BodyLaws.{
  keyword_argument,
  keyword_misplaced,
  keyword_leads,
  keyword_closes,
  row_follows,
  width_widens,
  Onward,
  onward_body,
  data_rule_lem,
  data_onward,
  row_onward,
  width_onward,
  next_onward,
  first_onward,
  open_form,
  MatrixKey,
  SectionKey,
  matrix_key,
  section_key,
  matrix_leads,
  section_leads,
  end_leads,
}
use Rattle.doc.proofs.SpanLaws.{matrix_plain, matrix_kept, matrix_left, section_head_lem, section_first, section_matrix, section_left, matrices_skip, matrices_open, opens_next, opens_first, plain_opens, row_opens, width_opens, end_opens, method_opens, row_keeps, width_keeps, end_closes}
use Rattle.doc.proofs.MatrixLaws.{RightMatrix, RightRows, new_some, new_right, new_rows}
use Rattle.doc.proofs.GatherLaws.{gather_more, gather_none, up_in, up_none, up_out}
use Rattle.read_line.proofs.CountLaws.{forgotten}
use Rattle.read_line.specs.Way.Steps.{line_rule}
use Rattle.table_layout.specs.Codes.{section_methods}

-- ---- a matrix as it is written

-- a matrix of n conductors whose lines break no rule
pub record Written (n : ℕ) (m : Matrix) : Type 0 where
  pub line : Line
  pub form : ℕ
  pub body : List Line
  pub known : ℕ
  pub last : ℕ
  pub first : ℕ
  pub read : Body known n last (new_matrix form first) first body
  pub formed : form ≤ 3
  pub same : m ≡ matrix_of line form body

-- the lines from a line of a matrix on: the rest of its body, and the matrices after it
record Rest (s : State) (ls : List Line) : Type 0 where
  conductors : ℕ
  last : ℕ
  body : Body s.section.conductors conductors last s.matrix s.counts.values (up_to in_matrix ls)
  later : 1 ≤ conductors → Each (Written conductors) (gather matrix_at (up_to in_section ls))

-- past the end of a section
outside : {s e : State} {ls : List Line} → Goes s ls e → s.place ≡ place.after → up_to in_section ls ≡ []
outside Goes.none p = up_none in_section
outside (Goes.more {l = l} {ls = ls} q blank mv g) p = up_out in_section l ls (section_left l (q ∙ p))

-- ---- one line in front

-- the state after a keyword
abbrev next : Line → State → State
next l s = keyword_next (key_of l) (argument_of l).text s

-- the line breaks no rule
abbrev Kept : Line → State → Type 0
Kept l s = keyword_rule (key_of l) (argument_of l).text s ≡ 0

-- the conductors of a matrix that closes here
abbrev closing : State → ℕ
closing s = matrix.shape_conductors s.matrix s.counts.values

-- a matrix opens, with this count of conductors known
module _
    (l : Line)
    (ls : List Line)
    (s : State)
    (known : ℕ)
    (opens : opens_matrix (key_of l) ≡ true)
    (kept : Kept l s)
    (onward : Onward (next l s) known (new_matrix (form_of (argument_of l).text) s.counts.values) s.counts.values)
    (r : Rest (next l s) ls) where
  opened_read :
      Body known r.conductors r.last (new_matrix (form_of (argument_of l).text) s.counts.values) s.counts.values
      (up_to in_matrix ls)
  opened_read = onward_body _ _ _ _ _ _ (up_to in_matrix ls) onward r.body

  opened_form : form_of (argument_of l).text ≤ 3
  opened_form = open_form (key_of l) (argument_of l).text opens (keyword_argument (key_of l) (argument_of l).text s kept)

  opened_written :
      in_section l ≡ true → opens_matrix_at l ≡ true → Each (Written r.conductors) (gather matrix_at (up_to in_section (l ∷ ls)))
  opened_written i a =
      rw (matrices_open l ls i a)
      (Each.more
      (record {
        line = l;
        form = form_of (argument_of l).text;
        body = up_to in_matrix ls;
        known = known;
        last = r.last;
        first = s.counts.values;
        read = opened_read;
        formed = opened_form;
        same = refl;
      })
      (r.later (new_some _ _ _ _ _ _ opened_read opened_form)))

module _ (l : Line) (ls : List Line) (s : State) (q : l.place ≡ place.matrix) (p : s.place ≡ place.matrix) where
  rest_plain : key_of l ≡ plain → line_rule l.content s ≡ 0 → Rest (line_next l.content s) ls → Rest s (l ∷ ls)
  rest_plain k kept r =
      record {
        conductors = r.conductors;
        last = r.last;
        body =
            rw (up_in in_matrix l ls (matrix_plain l q k))
            (data_body s.section.conductors r.conductors r.last s.matrix s.counts.values l (up_to in_matrix ls) k
            (sym (data_rule_lem l.content s p) ∙ kept)
            (onward_body (line_next l.content s) _ _ _ _ _ (up_to in_matrix ls) (data_onward l.content s p) r.body));
        later = λ (h : 1 ≤ r.conductors). rw (matrices_skip l ls (section_matrix l q) (plain_opens l k)) (r.later h);
      }

  rest_row :
      key_of l ≡ row → keyword_rule row (argument_of l).text s ≡ 0 → Rest (keyword_next row (argument_of l).text s) ls →
      Rest s (l ∷ ls)
  unfolding given_by
  rest_row k kept r =
      record {
        conductors = r.conductors;
        last = r.last;
        body =
            rw (up_in in_matrix l ls (matrix_kept l q (row_keeps l k)))
            (Body.starts s.matrix s.counts.values l (up_to in_matrix ls) k (row_follows (argument_of l).text s kept p)
            (onward_body _ _ _ _ _ _ (up_to in_matrix ls) (row_onward (argument_of l).text s p) r.body));
        later = λ (h : 1 ≤ r.conductors). rw (matrices_skip l ls (section_matrix l q) (row_opens l k)) (r.later h);
      }

  rest_width :
      key_of l ≡ bandwidth → keyword_rule bandwidth (argument_of l).text s ≡ 0 →
      Rest (keyword_next bandwidth (argument_of l).text s) ls → Rest s (l ∷ ls)
  unfolding given_by
  rest_width k kept r =
      record {
        conductors = r.conductors;
        last = r.last;
        body =
            rw (up_in in_matrix l ls (matrix_kept l q (width_keeps l k)))
            (Body.widens s.matrix s.counts.values l (up_to in_matrix ls) k (width_widens (argument_of l).text s kept p)
            (onward_body _ _ _ _ _ _ (up_to in_matrix ls) (width_onward (argument_of l).text s p) r.body));
        later = λ (h : 1 ≤ r.conductors). rw (matrices_skip l ls (section_matrix l q) (width_opens l k)) (r.later h);
      }

  rest_closed :
      eqb (key_of l) plain ≡ false → is_row_or_bandwidth (key_of l) ≡ false → Kept l s →
      Body s.section.conductors (closing s) s.counts.values s.matrix s.counts.values (up_to in_matrix (l ∷ ls))
  rest_closed k closes kept =
      rw (up_out in_matrix l ls (matrix_left l k closes))
      (Body.closes s.matrix s.counts.values (keyword_closes (key_of l) (argument_of l).text s kept p closes) refl)

  -- a keyword that closes it and opens the next
  module _ (opens : opens_matrix (key_of l) ≡ true) (kept : Kept l s) (r : Rest (next l s) ls) where
    next_same : 1 ≤ closing s → r.conductors ≡ closing s
    next_same h =
        told (body_same _ _ _ (opened_read l ls s (closing s) opens kept (next_onward (key_of l) opens (argument_of l).text s p) r))
      where
        told : (closing s ≡ 0) ⊎ (closing s ≡ r.conductors) → r.conductors ≡ closing s
        told (inl e) = absurd (omega arith)
        told (inr e) = sym e

    next_written : Each (Written r.conductors) (gather matrix_at (up_to in_section (l ∷ ls)))
    next_written =
        opened_written l ls s (closing s) opens kept (next_onward (key_of l) opens (argument_of l).text s p) r (section_matrix l q)
        (opens_next l ls q opens)

    rest_open : eqb (key_of l) plain ≡ false → Rest s (l ∷ ls)
    rest_open k =
        record {
          conductors = closing s;
          last = s.counts.values;
          body = rest_closed k (opens_closes (key_of l) opens) kept;
          later =
              λ (h : 1 ≤ closing s).
              subst (λ (n : ℕ). Each (Written n) (gather matrix_at (up_to in_section (l ∷ ls)))) (next_same h) next_written;
        }

  rest_leave : eqb (key_of l) plain ≡ false → key_of l ≡ end_icm_section → Kept l s → up_to in_section ls ≡ [] → Rest s (l ∷ ls)
  rest_leave k end kept e =
      record {
        conductors = closing s;
        last = s.counts.values;
        body = rest_closed k (end_closes l end) kept;
        later =
            λ (h : 1 ≤ closing s).
            rw (matrices_skip l ls (section_matrix l q) (end_opens l end), e, gather_none matrix_at) Each.none;
      }

module _ (l : Line) (ls : List Line) (s e : State) (q : l.place ≡ place.matrix) (p : s.place ≡ place.matrix) where
  rest_keyed :
      eqb (key_of l) plain ≡ false → Kept l s → MatrixKey (key_of l) → Goes (next l s) ls e →
      ((next l s).place ≡ place.matrix → Rest (next l s) ls) → Rest s (l ∷ ls)
  rest_keyed k kept (MatrixKey.is_row i) g ih =
      let a : List ℕ = (argument_of l).text in
      let r : (keyword_next row a s).place ≡ place.matrix → Rest (keyword_next row a s) ls = rw i at ih in
      rest_row l ls s q p i (rw i at kept) (r (row_onward a s p).place)
  rest_keyed k kept (MatrixKey.is_width i) g ih =
      let a : List ℕ = (argument_of l).text in
      let r : (keyword_next bandwidth a s).place ≡ place.matrix → Rest (keyword_next bandwidth a s) ls = rw i at ih in
      rest_width l ls s q p i (rw i at kept) (r (width_onward a s p).place)
  rest_keyed k kept (MatrixKey.opens h) g ih =
      rest_open l ls s q p h kept (ih (next_onward (key_of l) h (argument_of l).text s p).place) k
  rest_keyed k kept (MatrixKey.leaves i) g ih =
      let a : List ℕ = (argument_of l).text in
      rest_leave l ls s q p k i kept (outside g (ap (λ (x : ℕ). (keyword_next x a s).place) i ∙ end_leads a s p))

  rest_step : (s' : State) → Moves l s s' → Goes s' ls e → (s'.place ≡ place.matrix → Rest s' ls) → Rest s (l ∷ ls)
  rest_step s' (idle (ended x)) g ih = absurd (omega arith)
  rest_step s' (idle (waits x k)) g ih = absurd (omega arith)
  rest_step s' (plainly k kept) g ih = rest_plain l ls s q p k kept (ih (data_onward l.content s p).place)
  rest_step s' (keyed k kept) g ih =
      rest_keyed k kept (matrix_key (key_of l) (matrix_leads (key_of l) (argument_of l).text s kept p)) g ih

-- in the place of a matrix
rest : {s e : State} {ls : List Line} → Goes s ls e → e.place ≡ done → s.place ≡ place.matrix → Rest s ls
rest Goes.none d p = absurd (omega arith)
rest (Goes.more {s = s} {s' = s'} {e = e} {l = l} {ls = ls} q blank mv g) d p =
    rest_step l ls s e (q ∙ p) p s' mv g (λ (h : s'.place ≡ place.matrix). rest g d h)

-- ---- the section before its first matrix

record NoKind (seen : List Bool) : Type 0 where
  resistance : get_or seen resistance_matrix false ≡ false
  inductance : get_or seen inductance_matrix false ≡ false
  conductance : get_or seen conductance_matrix false ≡ false
  capacitance : get_or seen capacitance_matrix false ≡ false

no_kind : (s : State) → NoKind s.seen → has_no_kind s ≡ true
unfolding has_no_kind is_seen
no_kind s h =
    both_true _ _ (not_via h.resistance)
    (both_true _ _ (not_via h.inductance) (both_true _ _ (not_via h.conductance) (not_via h.capacitance)))

-- and what is forgotten after it changes nothing
still_forgotten : (seen : List Bool) (k j : ℕ) → get_or seen j false ≡ false → get_or (set seen k false) j false ≡ false
still_forgotten [] k j h = refl
still_forgotten (b ∷ seen) zero zero h = refl
still_forgotten (b ∷ seen) zero (suc j) h = h
still_forgotten (b ∷ seen) (suc k) zero h = h
still_forgotten (b ∷ seen) (suc k) (suc j) h = still_forgotten seen k j h

-- all four forgotten
kinds_forgotten :
    (seen : List Bool) →
    NoKind (set (set (set (set seen resistance_matrix false) inductance_matrix false) conductance_matrix false) capacitance_matrix false)
kinds_forgotten seen =
    let one : List Bool = set seen resistance_matrix false in
    let two : List Bool = set one inductance_matrix false in
    let three : List Bool = set two conductance_matrix false in
    record {
      resistance =
          still_forgotten three capacitance_matrix resistance_matrix
          (still_forgotten two conductance_matrix resistance_matrix
          (still_forgotten one inductance_matrix resistance_matrix (forgotten seen resistance_matrix)));
      inductance =
          still_forgotten three capacitance_matrix inductance_matrix
          (still_forgotten two conductance_matrix inductance_matrix (forgotten one inductance_matrix));
      conductance = still_forgotten three capacitance_matrix conductance_matrix (forgotten two conductance_matrix);
      capacitance = forgotten three capacitance_matrix;
    }

-- another keyword is read
still_not : (seen : List Bool) (k j : ℕ) → eqb j k ≡ false → get_or seen j false ≡ false → get_or (set seen k true) j false ≡ false
still_not seen k j apart h = get_or-set_other seen k j true false (eqb-false j k apart) ∙ h

module _ (argument : List ℕ) (s : State) where
  begin_kinds : NoKind (keyword_next begin_icm_section argument s).seen
  unfolding keyword_next seen_after is_row_or_bandwidth either provided◌then◌else◌
  begin_kinds = kinds_forgotten s.seen

  begin_leads : s.place ≡ place.after → (keyword_next begin_icm_section argument s).place ≡ place.section_head
  unfolding keyword_next moved leads_after_family is_in_model is_in_family is_in_header either provided◌then◌else◌
  begin_leads p = rw p

  method_kinds : NoKind s.seen → NoKind (keyword_next derivation_method argument s).seen
  unfolding keyword_next seen_after is_row_or_bandwidth either provided◌then◌else◌
  method_kinds h =
      record {
        resistance = still_not s.seen derivation_method resistance_matrix refl h.resistance;
        inductance = still_not s.seen derivation_method inductance_matrix refl h.inductance;
        conductance = still_not s.seen derivation_method conductance_matrix refl h.conductance;
        capacitance = still_not s.seen derivation_method capacitance_matrix refl h.capacitance;
      }

  method_leads : s.place ≡ place.section_head → (keyword_next derivation_method argument s).place ≡ place.section
  unfolding keyword_next moved is_in_model is_in_family is_in_header either provided◌then◌else◌
  method_leads p = rw p

  -- "at least one matrix"
  end_lacks : keyword_rule end_icm_section argument s ≡ 0 → has_no_kind s ≡ false
  unfolding is_misplaced is_lacking kinds_lack provided◌then◌else◌
  end_lacks kept =
      either_none_first _ _
      (either_none_first _ _ (either_none_second _ _ (either_none_second _ _ (either_none_second _ _ (keyword_misplaced end_icm_section argument s kept)))))

head_key : (k : ℕ) (argument : List ℕ) (s : State) → keyword_rule k argument s ≡ 0 → s.place ≡ place.section_head → k ≡ derivation_method
unfolding moved is_in_model is_in_family is_in_header either provided◌then◌else◌
head_key k argument s kept p =
    by_cases (k ≡ derivation_method) (eqb k derivation_method) (λ (e : eqb k derivation_method ≡ true). eqb-true _ _ e)
    (λ (e : eqb k derivation_method ≡ false). absurd (keyword_leads k argument s kept (rw (p, e))))

-- neither place takes a line without a keyword
module _ (content : List ℕ) (s : State) (kept : line_rule content s ≡ 0) where
  section_refuses : s.place ≡ place.section → ⊥
  unfolding line_rule first is_text either provided◌then◌else◌
  section_refuses p =
      let z : ◌≡◌ {A = ℕ} 12 0 = rw p at kept in
      omega arith

  head_refuses : s.place ≡ place.section_head → ⊥
  unfolding line_rule first is_text either provided◌then◌else◌
  head_refuses p =
      let z : ◌≡◌ {A = ℕ} 12 0 = rw p at kept in
      omega arith

-- ---- the matrices of a section

record Filled (ls : List Line) : Type 0 where
  conductors : ℕ
  all : Each (Written conductors) (gather matrix_at (up_to in_section ls))
  some : 1 ≤ length (gather matrix_at (up_to in_section ls))

-- the first matrix opens
module _ (l : Line) (ls : List Line) (s : State) (q : l.place ≡ place.section) (p : s.place ≡ place.section) where
  first_filled : opens_matrix (key_of l) ≡ true → Kept l s → Rest (next l s) ls → Filled (l ∷ ls)
  first_filled opens kept r =
      record {
        conductors = r.conductors;
        all =
            opened_written l ls s s.section.conductors opens kept (first_onward (key_of l) opens (argument_of l).text s p) r
            (section_first l q) (opens_first l ls q opens);
        some = rw (matrices_open l ls (section_first l q) (opens_first l ls q opens)) (suc-le-suc zero-le);
      }

module _ (l : Line) (ls : List Line) (s e : State) (d : e.place ≡ done) where
  module _ (q : l.place ≡ place.section) (p : s.place ≡ place.section) (h : NoKind s.seen) where
    first_keyed : Kept l s → SectionKey (key_of l) → Goes (next l s) ls e → Filled (l ∷ ls)
    first_keyed kept (SectionKey.opens k) g =
        first_filled l ls s q p k kept (rest g d (first_onward (key_of l) k (argument_of l).text s p).place)
    first_keyed kept (SectionKey.leaves k) g =
        absurd (true≢false (sym (no_kind s h) ∙ end_lacks (argument_of l).text s (rw k at kept)))

    first_step : (s' : State) → Moves l s s' → Goes s' ls e → Filled (l ∷ ls)
    first_step s' (idle (ended x)) g = absurd (omega arith)
    first_step s' (idle (waits x k)) g = absurd (omega arith)
    first_step s' (plainly k kept) g = absurd (section_refuses l.content s kept p)
    first_step s' (keyed k kept) g =
        first_keyed kept (section_key (key_of l) (section_leads (key_of l) (argument_of l).text s kept p)) g

-- in the place of a section, before its first matrix
section_filled :
    {s e : State} {ls : List Line} → Goes s ls e → e.place ≡ done → s.place ≡ place.section → NoKind s.seen → Filled ls
section_filled Goes.none d p h = absurd (omega arith)
section_filled (Goes.more {s = s} {s' = s'} {e = e} {l = l} {ls = ls} q blank mv g) d p h = first_step l ls s e d (q ∙ p) p h s' mv g

skip_filled : (l : Line) (ls : List Line) → in_section l ≡ true → opens_matrix (key_of l) ≡ false → Filled ls → Filled (l ∷ ls)
skip_filled l ls s k f =
    record { conductors = f.conductors; all = rw (matrices_skip l ls s k) f.all; some = rw (matrices_skip l ls s k) f.some }

module _ (l : Line) (ls : List Line) (s e : State) (d : e.place ≡ done) where
  module _ (q : l.place ≡ place.section_head) (p : s.place ≡ place.section_head) (h : NoKind s.seen) where
    head_keyed : key_of l ≡ derivation_method → Goes (next l s) ls e → Filled (l ∷ ls)
    head_keyed k g =
        skip_filled l ls (section_head_lem l q) (method_opens l k)
        (section_filled (rw k at g) d (method_leads (argument_of l).text s p) (method_kinds (argument_of l).text s h))

    head_step : (s' : State) → Moves l s s' → Goes s' ls e → Filled (l ∷ ls)
    head_step s' (idle (ended x)) g = absurd (omega arith)
    head_step s' (idle (waits x k)) g = absurd (omega arith)
    head_step s' (plainly k kept) g = absurd (head_refuses l.content s kept p)
    head_step s' (keyed k kept) g = head_keyed (head_key (key_of l) (argument_of l).text s kept p) g

-- in the place above [Derivation Method]
head_filled :
    {s e : State} {ls : List Line} → Goes s ls e → e.place ≡ done → s.place ≡ place.section_head → NoKind s.seen → Filled ls
head_filled Goes.none d p h = absurd (omega arith)
head_filled (Goes.more {s = s} {s' = s'} {e = e} {l = l} {ls = ls} q blank mv g) d p h =
    head_step l ls s e d (q ∙ p) p h s' mv g

-- ---- the method

method_most : (argument : List ℕ) → method_of argument ≤ section_methods
unfolding method_of
method_most argument =
    by_test (λ (n : ℕ). n ≤ 2) _ _ _ (λ e. omega arith)
    (λ e. by_test (λ (n : ℕ). n ≤ 2) _ _ _ (λ e. omega arith) (λ e. omega arith))

method_told : (argument : List ℕ) → is_bad_argument derivation_method argument ≡ false → method_of argument ≤ 1
unfolding is_bad_argument is_row_or_bandwidth opens_matrix takes_nothing takes_name takes_free_text is_bad_form either provided◌then◌else◌
method_told argument h =
    let e : method_of argument ≡ section_methods → ⊥ = eqb-false _ _ h in
    let g : method_of argument ≤ section_methods = method_most argument in
    omega arith

method_none : method_in [] ≤ 1
unfolding method_in
method_none = omega arith

module _ (l : Line) (ls : List Line) where
  method_here : key_of l ≡ derivation_method → method_in (l ∷ ls) ≡ method_of (argument_of l).text
  unfolding method_in
  method_here k = if_true _ _ (eq-eqb _ _ k)

  method_later : eqb (key_of l) derivation_method ≡ false → method_in (l ∷ ls) ≡ method_in ls
  unfolding method_in
  method_later k = if_false _ _ k

-- a line that is skipped is in no section
idle_outside : (l : Line) (s : State) → l.place ≡ s.place → Idle l s → in_section l ≡ false
unfolding in_section either
idle_outside l s q (ended e) = rw (q, e)
idle_outside l s q (waits e k) = rw (q, e)

method_moves :
    (l : Line) (s s' : State) → l.place ≡ s.place → Moves l s s' → in_section l ≡ true → key_of l ≡ derivation_method →
    method_of (argument_of l).text ≤ 1
method_moves l s s' q (idle i) h k = absurd (true≢false (sym h ∙ idle_outside l s q i))
method_moves l s s' q (plainly j kept) h k = absurd (omega arith)
method_moves l s s' q (keyed j kept) h k =
    method_told (argument_of l).text (rw k at (keyword_argument (key_of l) (argument_of l).text s kept))

method_within : {s e : State} {ls : List Line} → Goes s ls e → method_in (up_to in_section ls) ≤ 1
method_within Goes.none = rw (up_none in_section) method_none
method_within (Goes.more {s = s} {s' = s'} {l = l} {ls = ls} q blank mv g) = step l ls s s' q mv (method_within g)
  where
    step :
        (l : Line) (ls : List Line) (s s' : State) → l.place ≡ s.place → Moves l s s' → method_in (up_to in_section ls) ≤ 1 →
        method_in (up_to in_section (l ∷ ls)) ≤ 1
    step l ls s s' q mv ih =
        by_cases (method_in (up_to in_section (l ∷ ls)) ≤ 1) (in_section l)
        (λ (h : in_section l ≡ true).
        by_cases (method_in (up_to in_section (l ∷ ls)) ≤ 1) (eqb (key_of l) derivation_method)
        (λ (k : eqb (key_of l) derivation_method ≡ true).
        rw (up_in in_section l ls h, method_here l (up_to in_section ls) (eqb-true _ _ k)) (method_moves l s s' q mv h (eqb-true _ _ k)))
        (λ (k : eqb (key_of l) derivation_method ≡ false). rw (up_in in_section l ls h, method_later l (up_to in_section ls) k) ih))
        (λ (h : in_section l ≡ false). rw (up_out in_section l ls h) method_none)

-- ---- the sections

-- a section whose lines break no rule
pub record WrittenSection (x : Section) : Type 0 where
  pub conductors : ℕ
  pub matrices : Each (Written conductors) x.matrices
  pub some : 1 ≤ length x.matrices
  pub method : x.method ≤ 1

section_at_lem :
    (l : Line) (ls : List Line) (s e : State) → e.place ≡ done → s.place ≡ place.after → key_of l ≡ begin_icm_section →
    Goes (keyword_next (key_of l) (argument_of l).text s) ls e → WrittenSection (section_of l (up_to in_section ls))
unfolding section_of
section_at_lem l ls s e d p k g =
    let f : Filled ls = head_filled (rw k at g) d (begin_leads (argument_of l).text s p) (begin_kinds (argument_of l).text s) in
    record { conductors = f.conductors; matrices = f.all; some = f.some; method = method_within g }

module _ (l : Line) (ls : List Line) (s e : State) (d : e.place ≡ done) (q : l.place ≡ s.place) (h : opens_section l ≡ true) where
  opens_place : s.place ≡ place.after
  unfolding opens_section
  opens_place = sym q ∙ eqb-true _ _ (both_first _ _ h)

  opens_key : key_of l ≡ begin_icm_section
  unfolding opens_section
  opens_key = eqb-true _ _ (both_second _ _ h)

  section_step_lem : (s' : State) → Moves l s s' → Goes s' ls e → WrittenSection (section_of l (up_to in_section ls))
  section_step_lem s' (idle (ended x)) g =
      let p : s.place ≡ place.after = opens_place in
      absurd (omega arith)
  section_step_lem s' (idle (waits x k)) g =
      let p : s.place ≡ place.after = opens_place in
      absurd (omega arith)
  section_step_lem s' (plainly k kept) g =
      let p : key_of l ≡ begin_icm_section = opens_key in
      absurd (omega arith)
  section_step_lem s' (keyed k kept) g = section_at_lem l ls s e d opens_place opens_key g

module _ (l : Line) (ls : List Line) where
  pub section_matrices : (section_of l ls).matrices ≡ gather matrix_at ls
  unfolding section_of
  section_matrices = refl

  pub section_open : opens_section l ≡ true → section_at l ls ≡ section_of l (up_to in_section ls) ∷ []
  unfolding section_at
  section_open h = if_true _ _ h

  pub section_skip : opens_section l ≡ false → section_at l ls ≡ []
  unfolding section_at
  section_skip h = if_false _ _ h

  sections_step :
      (s s' e : State) → e.place ≡ done → l.place ≡ s.place → Moves l s s' → Goes s' ls e →
      Each WrittenSection (gather section_at ls) → Each WrittenSection (gather section_at (l ∷ ls))
  sections_step s s' e d q mv g ih =
      by_cases (Each WrittenSection (gather section_at (l ∷ ls))) (opens_section l)
      (λ (h : opens_section l ≡ true).
      rw (gather_more section_at l ls, section_open h) (Each.more (section_step_lem l ls s e d q h s' mv g) ih))
      (λ (h : opens_section l ≡ false). rw (gather_more section_at l ls, section_skip h) ih)

sections_written : {s e : State} {ls : List Line} → Goes s ls e → e.place ≡ done → Each WrittenSection (gather section_at ls)
sections_written Goes.none d = rw (gather_none section_at) Each.none
sections_written (Goes.more {s = s} {s' = s'} {e = e} {l = l} {ls = ls} q blank mv g) d =
    sections_step l ls s s' e d q mv g (sections_written g d)

-- ---- the document of a text that reads to its end

pub text_written : (t : List ℕ) (c : Counts) → reading_of t ≡ Read c → Each WrittenSection (document_of t).sections
unfolding document_of document_in
text_written t c h =
    let e : Ends start_state (significant t) c = text_ends t c h in
    sections_written e.goes e.done

written_right : (n : ℕ) (m : Matrix) → Written n m → RightMatrix n m
written_right n m w = rw w.same (new_right w.known n w.last w.first w.body w.form w.read w.line w.formed)

written_rows : (n : ℕ) (m : Matrix) → Written n m → RightRows m
written_rows n m w = rw w.same (new_rows w.known n w.last w.first w.body w.form w.read w.line)

-- "N is the conductor count, the same for a section's matrices"
section_conductors_lem : (n : ℕ) (ms : List Matrix) → Each (RightMatrix n) ms → 1 ≤ length ms → conductors_of ms ≡ n
section_conductors_lem n [] Each.none h = absurd (omega arith)
section_conductors_lem n (m ∷ ms) (Each.more r rs) h = r.conductors

pub record RightSection (x : Section) : Type 0 where
  pub matrices : Each (RightMatrix (conductors_of x.matrices)) x.matrices
  pub some : 1 ≤ length x.matrices
  pub method : x.method ≤ 1

section_right : (x : Section) → WrittenSection x → RightSection x
section_right x w =
    let r : Each (RightMatrix w.conductors) x.matrices = each_map (written_right w.conductors) w.matrices in
    let e : conductors_of x.matrices ≡ w.conductors = section_conductors_lem w.conductors x.matrices r w.some in
    record { matrices = subst (λ (n : ℕ). Each (RightMatrix n) x.matrices) (sym e) r; some = w.some; method = w.method }

-- every section of a text that reads to its end is right
pub text_sections : (t : List ℕ) (c : Counts) → reading_of t ≡ Read c → Each RightSection (document_of t).sections
text_sections t c h = each_map section_right (text_written t c h)

-- and the rows of its matrices have the lengths that the paper says
pub text_rows :
    (t : List ℕ) (c : Counts) → reading_of t ≡ Read c →
    Each (λ (x : Section). Each RightRows x.matrices) (document_of t).sections
text_rows t c h =
    each_map (λ (x : Section) (w : WrittenSection x). each_map (written_rows w.conductors) w.matrices) (text_written t c h)
