-- How many values a text that reads to its end writes: each line of a matrix adds as many as it has numbers, which
-- depends on the form.
-- Assumes nothing.
use mathlib.Core.Path.{◌≡◌, refl, sym, ◌∙◌, ap}
use mathlib.Core.Bool.{true, false, not, true≢false}
use mathlib.Core.List.{List, [], ◌∷◌, ◌++◌, append-nil}
use Prim.Native.Nat.{ℕ, ◌+◌}
use native.Mathlib.Omega.{arith}
use lib.ListN.{length, length-append}
use lib.Dec.{eqb}
use borrow.Author.Tests.{eq-eqb, ne_eqb, eqb-true, not-false, not-true}
use Rattle.table_record.specs.declared.Value.{Value}
use Rattle.table_layout.specs.Codes.{diagonal, sparse}
use Rattle.base.specs.If.{provided◌then◌else◌, either}
use Rattle.base.specs.Broken.{Rule, ◌when◌}
use Rattle.base.proofs.IfLaws.{
  if_true,
  if_false,
  by_test,
  by_cases,
  both_true,
  both_first,
  both_second,
  both_not_left,
  both_not_right,
  either_left,
  either_rest,
  either_none_first,
}
use Rattle.base.proofs.BrokenLaws.{Numbered, all_kept}
use Rattle.lex_line.specs.Words.{words}
use Rattle.lex_keyword.specs.Names.{row, bandwidth}
use Rattle.line_place.specs.Place.{opens_matrix, is_row_or_bandwidth}
use Rattle.line_place.specs.Place as place
use Rattle.line_argument.specs.Argument.{form_of}
use Rattle.line_matrix.specs.Matrix.{new_matrix, with_row, with_bandwidth, with_column, sparse_line, data_line_of, is_data_out_of_order, are_too_many, data_next}
use Rattle.line_matrix.specs.declared.Matrix as matrix
use Rattle.line_matrix.specs.declared.DataLine.{DataLine}
use Rattle.line_matrix.specs.Way.Rule.{data_rule}
use Rattle.line_keyword.specs.Keywords.{matrix_after, counts_after, keyword_next}
use Rattle.line_keyword.specs.declared.State.{State}
use Rattle.read_line.specs.Reading.{line_next, counts_after_line}
use Rattle.read_line.proofs.ResultLaws.{rule_matrix}
use Rattle.read_line.specs.Way.Steps.{line_rule}
use Rattle.doc.specs.Lines.{Line, plain, place_after, key_of, argument_of, gather, up_to}
use Rattle.doc.specs.Document.{Matrix, given_by, numbers_at, values_from, opens_matrix_at, in_matrix, matrix_of, matrix_at}
use Rattle.doc.proofs.Goes.{Moves, idle, plainly, keyed, Goes, none, more, idle_outside, moves_place}
use Rattle.doc.proofs.LeadLaws.{matrix_entered}
use Rattle.doc.proofs.BlockLaws.{joined, joined_append, Outside}
use Rattle.doc.proofs.GatherLaws.{gather_more, gather_none, up_in, up_none, up_out}
use Rattle.doc.proofs.RiseLaws.{numbers_length}
use Rattle.doc.proofs.ShapeLaws.{numbers_count}

-- ---- the numbers of a matrix, by its lines

numbers_by : ℕ → List ℕ → ℕ
numbers_by form content = provided eqb form sparse then 1 else length (words content)

numbers_on : ℕ → Line → ℕ
numbers_on form l = provided eqb (key_of l) plain then numbers_by form l.content else 0

numbers_in : ℕ → List Line → ℕ
numbers_in form [] = 0
numbers_in form (l ∷ ls) = numbers_on form l + numbers_in form ls

module _ (form : ℕ) (l : Line) where
  number_none : eqb (key_of l) plain ≡ false → numbers_on form l ≡ 0
  unfolding numbers_on
  number_none k = if_false _ _ k

  number_sparse : eqb (key_of l) plain ≡ true → eqb form sparse ≡ true → numbers_on form l ≡ 1
  unfolding numbers_on numbers_by
  number_sparse k e = if_true _ _ k ∙ if_true _ _ e

  number_words : eqb (key_of l) plain ≡ true → eqb form sparse ≡ false → numbers_on form l ≡ length (words l.content)
  unfolding numbers_on numbers_by
  number_words k e = if_true _ _ k ∙ if_false _ _ e

values_long : (form r c : ℕ) (ls : List Line) → length (values_from form r c ls) ≡ numbers_in form ls
unfolding values_from numbers_in
values_long form r c [] = refl
values_long form r c (l ∷ ls) =
    by_test (λ (vs : List Value). length vs ≡ numbers_on form l + numbers_in form ls) (eqb (key_of l) row) _ _
    (λ (e : eqb (key_of l) row ≡ true).
    let k : key_of l ≡ row = eqb-true _ _ e in
    let z : numbers_on form l ≡ 0 = number_none form l (ne_eqb _ _ (λ (h : key_of l ≡ plain). omega arith)) in
    let h : length (values_from form (given_by l) (given_by l) ls) ≡ numbers_in form ls = values_long form (given_by l) (given_by l) ls in
    omega arith)
    (λ (e : eqb (key_of l) row ≡ false).
    by_test (λ (vs : List Value). length vs ≡ numbers_on form l + numbers_in form ls) (not (eqb (key_of l) plain)) _ _
    (λ (f : not (eqb (key_of l) plain) ≡ true).
    let z : numbers_on form l ≡ 0 = number_none form l (not-true _ f) in
    let h : length (values_from form r c ls) ≡ numbers_in form ls = values_long form r c ls in
    omega arith)
    (λ (f : not (eqb (key_of l) plain) ≡ false).
    by_test (λ (vs : List Value). length vs ≡ numbers_on form l + numbers_in form ls) (eqb form sparse) _ _
    (λ (g : eqb form sparse ≡ true).
    let z : numbers_on form l ≡ 1 = number_sparse form l (not-false _ f) g in
    let h : length (values_from form r c ls) ≡ numbers_in form ls = values_long form r c ls in
    omega arith)
    (λ (g : eqb form sparse ≡ false).
    let z : numbers_on form l ≡ length (words l.content) = number_words form l (not-false _ f) g in
    let a : length (numbers_at form r c (words l.content)) ≡ length (words l.content) = numbers_length form r c (words l.content) in
    along (numbers_at form r c (words l.content)) _
    (values_long form (provided eqb form diagonal then r + length (words l.content) else r) (c + length (words l.content)) ls)
    (a ∙ sym z))))
  where
    along :
        (xs ys : List Value) → length ys ≡ numbers_in form ls → length xs ≡ numbers_on form l →
        length (xs ++ ys) ≡ numbers_on form l + numbers_in form ls
    along xs ys h k = length-append xs ys ∙ (λ i. k i + h i)

-- ---- a data line that breaks no rule

data_ruled :
    (content : List ℕ) (s : State) → s.place ≡ place.matrix → line_rule content s ≡ 0 →
    data_rule (data_line_of s.matrix.form content) s.matrix s.counts.values ≡ 0
data_ruled content s e h = sym (rule_matrix content s e) ∙ h

module _ (l : DataLine) (m : matrix.Matrix) (values : ℕ) where
  abbrev data_rules : List Rule
  data_rules =
      12 when is_data_out_of_order l m
      ∷ 13 when not l.formed
      ∷ 14 when not l.bounded
      ∷ 17 when are_too_many values l.numbers
      ∷ []

  numbered : Numbered data_rules
  numbered = (omega arith, (omega arith, (omega arith, (omega arith, tt))))

  data_right : data_rule l m values ≡ 0 → l.right ≡ true
  unfolding data_rule is_data_out_of_order
  data_right h = not-false _ (either_none_first _ _ (all_kept data_rules numbered h 0))

sparse_one : (ws : List (List ℕ)) → (sparse_line ws).right ≡ true → (sparse_line ws).numbers ≡ 1
unfolding sparse_line
sparse_one ws =
    by_test (λ (d : DataLine). d.right ≡ true → d.numbers ≡ 1) (eqb (length ws) 2) _ _
    (λ (e : eqb (length ws) 2 ≡ true) (h : true ≡ true). refl)
    (λ (e : eqb (length ws) 2 ≡ false) (h : false ≡ true). absurd (true≢false (sym h)))

-- it has as many numbers as it writes values
data_numbers :
    (form : ℕ) (content : List ℕ) → (data_line_of form content).right ≡ true → (data_line_of form content).numbers ≡ numbers_by form content
unfolding data_line_of numbers_by
data_numbers form content =
    by_cases ((data_line_of form content).right ≡ true → (data_line_of form content).numbers ≡ numbers_by form content) (eqb form sparse)
    (λ (e : eqb form sparse ≡ true) (h : (data_line_of form content).right ≡ true).
    let f : data_line_of form content ≡ sparse_line (words content) = if_true _ _ e in
    ap (λ (d : DataLine). d.numbers) f ∙ sparse_one (words content) (ap (λ (d : DataLine). d.right) (sym f) ∙ h) ∙ sym (if_true _ _ e))
    (λ (e : eqb form sparse ≡ false) (h : (data_line_of form content).right ≡ true).
    ap (λ (d : DataLine). d.numbers) (if_false _ _ e) ∙ numbers_count (words content) ∙ sym (if_false _ _ e))

-- ---- how a line changes the count of values and the form

keeps_not_opens : (k : ℕ) → is_row_or_bandwidth k ≡ true → opens_matrix k ≡ false
unfolding is_row_or_bandwidth opens_matrix either
keeps_not_opens k h =
    by_cases (opens_matrix k ≡ false) (eqb k row) (λ (e : eqb k row ≡ true). rw (eqb-true k row e))
    (λ (e : eqb k row ≡ false).
    let f : eqb k bandwidth ≡ true = rw e at h in
    rw (eqb-true k bandwidth f))

plain_not_opens : (k : ℕ) → k ≡ plain → opens_matrix k ≡ false
unfolding opens_matrix either
plain_not_opens k e = rw e

inside_not_opens : (l : Line) → in_matrix l ≡ true → opens_matrix_at l ≡ false
unfolding in_matrix opens_matrix_at
inside_not_opens l e =
    both_not_right _ _
    (by_cases (opens_matrix (key_of l) ≡ false) (eqb (key_of l) plain)
    (λ (k : eqb (key_of l) plain ≡ true). plain_not_opens (key_of l) (eqb-true _ _ k))
    (λ (k : eqb (key_of l) plain ≡ false). keeps_not_opens (key_of l) (sym (either_rest _ _ k) ∙ both_second _ _ e)))

data_form : (l : DataLine) (m : matrix.Matrix) → (data_next l m).form ≡ m.form
unfolding data_next with_column
data_form l m =
    by_test (λ (x : matrix.Matrix). x.form ≡ m.form) (eqb m.form sparse) _ _ (λ (e : eqb m.form sparse ≡ true). refl)
    (λ (e : eqb m.form sparse ≡ false). refl)

keyword_form : (k : ℕ) (argument : List ℕ) (s : State) → opens_matrix k ≡ false → (matrix_after k argument s).form ≡ s.matrix.form
unfolding matrix_after with_row with_bandwidth
keyword_form k argument s o =
    by_test (λ (x : matrix.Matrix). x.form ≡ s.matrix.form) (opens_matrix k) _ _
    (λ (e : opens_matrix k ≡ true). absurd (true≢false (sym e ∙ o)))
    (λ (e : opens_matrix k ≡ false).
    by_test (λ (x : matrix.Matrix). x.form ≡ s.matrix.form) (eqb k row) _ _ (λ (f : eqb k row ≡ true). refl)
    (λ (f : eqb k row ≡ false).
    by_test (λ (x : matrix.Matrix). x.form ≡ s.matrix.form) (eqb k bandwidth) _ _ (λ (g : eqb k bandwidth ≡ true). refl)
    (λ (g : eqb k bandwidth ≡ false). refl)))

opened_form : (k : ℕ) (argument : List ℕ) (s : State) → opens_matrix k ≡ true → (matrix_after k argument s).form ≡ form_of argument
unfolding matrix_after new_matrix
opened_form k argument s o = ap (λ (x : matrix.Matrix). x.form) (if_true _ _ o)

-- in a matrix: its form is unchanged, and the line's numbers are added
record Grows (l : Line) (s s' : State) : Type 0 where
  form : s'.matrix.form ≡ s.matrix.form
  values : s'.counts.values ≡ s.counts.values + numbers_on s.matrix.form l

line_grows :
    (l : Line) (s : State) → s.place ≡ place.matrix → key_of l ≡ plain → line_rule l.content s ≡ 0 → Grows l s (line_next l.content s)
unfolding line_next counts_after_line numbers_on
line_grows l s e k h =
    let right : (data_line_of s.matrix.form l.content).right ≡ true = data_right _ _ _ (data_ruled l.content s e h) in
    record {
      form = ap (λ (x : matrix.Matrix). x.form) (if_true _ _ (eq-eqb _ _ e))
          ∙ data_form (data_line_of s.matrix.form l.content) s.matrix;
      values = if_true _ _ (eq-eqb _ _ e)
          ∙ ap (λ (n : ℕ). s.counts.values + n) (data_numbers s.matrix.form l.content right ∙ sym (if_true _ _ (eq-eqb _ _ k)));
    }

keyword_grows :
    (l : Line) (argument : List ℕ) (s : State) → eqb (key_of l) plain ≡ false → opens_matrix (key_of l) ≡ false →
    Grows l s (keyword_next (key_of l) argument s)
unfolding keyword_next counts_after
keyword_grows l argument s k o =
    let z : numbers_on s.matrix.form l ≡ 0 = number_none s.matrix.form l k in
    record { form = keyword_form (key_of l) argument s o; values = omega arith }

module _ (l : Line) (s : State) (e : l.place ≡ s.place) where
  inside_grows : (s' : State) → Moves l s s' → in_matrix l ≡ true → Grows l s s'
  unfolding in_matrix opens_matrix_at
  inside_grows s' (idle i) t =
      absurd (true≢false (sym (both_first _ _ t) ∙ idle_outside (λ (p : ℕ). eqb p place.matrix) refl refl l s e i))
  inside_grows s' (plainly k h) t = line_grows l s (sym e ∙ eqb-true _ _ (both_first _ _ t)) k h
  inside_grows s' (keyed k h) t =
      keyword_grows l (argument_of l).text s k (keeps_not_opens (key_of l) (sym (either_rest _ _ k) ∙ both_second _ _ t))

  outside_keeps : (s' : State) → Moves l s s' → in_matrix l ≡ false → s'.counts.values ≡ s.counts.values
  unfolding line_next counts_after_line keyword_next counts_after in_matrix
  outside_keeps s' (idle i) t = refl
  outside_keeps s' (plainly k h) t =
      if_false _ _
      (ne_eqb _ _
      (λ (z : s.place ≡ place.matrix). true≢false (sym (both_true _ _ (eq-eqb _ _ (e ∙ z)) (either_left _ _ (eq-eqb _ _ k))) ∙ t)))
  outside_keeps s' (keyed k h) t = refl

  opens_form : (s' : State) → Moves l s s' → opens_matrix_at l ≡ true → s'.matrix.form ≡ form_of (argument_of l).text
  unfolding opens_matrix_at keyword_next either
  opens_form s' (idle i) t =
      absurd
      (true≢false
      (sym (both_first _ _ t) ∙ idle_outside (λ (p : ℕ). either (eqb p place.section) (eqb p place.matrix)) refl refl l s e i))
  opens_form s' (plainly k h) t = absurd (true≢false (sym (both_second _ _ t) ∙ plain_not_opens (key_of l) k))
  opens_form s' (keyed k h) t = opened_form (key_of l) (argument_of l).text s (both_second _ _ t)

-- ---- all lines

values_in : List Line → ℕ
values_in ls = length (joined (λ (m : Matrix). m.values) (gather matrix_at ls))

values_none : values_in [] ≡ 0
unfolding values_in joined
values_none = ap (λ (ms : List Matrix). length (joined (λ (m : Matrix). m.values) ms)) (gather_none matrix_at)

values_more : (l : Line) (ls : List Line) → values_in (l ∷ ls) ≡ length (joined (λ (m : Matrix). m.values) (matrix_at l ls)) + values_in ls
unfolding values_in
values_more l ls =
    ap (λ (ms : List Matrix). length (joined (λ (m : Matrix). m.values) ms)) (gather_more matrix_at l ls)
    ∙ ap length (joined_append (λ (m : Matrix). m.values) (matrix_at l ls) (gather matrix_at ls))
    ∙ length-append (joined (λ (m : Matrix). m.values) (matrix_at l ls)) (joined (λ (m : Matrix). m.values) (gather matrix_at ls))

opens_values :
    (l : Line) (ls : List Line) → opens_matrix_at l ≡ true →
    length (joined (λ (m : Matrix). m.values) (matrix_at l ls)) ≡ numbers_in (form_of (argument_of l).text) (up_to in_matrix ls)
unfolding matrix_at joined matrix_of
opens_values l ls o =
    ap (λ (ms : List Matrix). length (joined (λ (m : Matrix). m.values) ms)) (if_true _ _ o)
    ∙ ap length (append-nil (values_from (form_of (argument_of l).text) 1 1 (up_to in_matrix ls)))
    ∙ values_long (form_of (argument_of l).text) 1 1 (up_to in_matrix ls)

shut_values : (l : Line) (ls : List Line) → opens_matrix_at l ≡ false → length (joined (λ (m : Matrix). m.values) (matrix_at l ls)) ≡ 0
unfolding matrix_at joined
shut_values l ls o = ap (λ (ms : List Matrix). length (joined (λ (m : Matrix). m.values) ms)) (if_false _ _ o)

-- inside a matrix: the rest of it and the matrices after it; outside: the matrices
record Tallied (s : State) (ls : List Line) (e : State) : Type 0 where
  within : e.counts.values ≡ s.counts.values + numbers_in s.matrix.form (up_to in_matrix ls) + values_in ls
  without : Outside in_matrix ls → e.counts.values ≡ s.counts.values + values_in ls

next_outside : {s e : State} (ls : List Line) → Goes s ls e → eqb s.place place.matrix ≡ false → Outside in_matrix ls
unfolding in_matrix
next_outside [] none h = tt
next_outside (l ∷ ls) (more p b m g) h = both_not_left _ _ (ap (λ (q : ℕ). eqb q place.matrix) p ∙ h)

module _ {s s' e : State} (l : Line) (ls : List Line) (p : l.place ≡ s.place) (m : Moves l s s') (g : Goes s' ls e)
    (later : Tallied s' ls e) where
  left_outside : in_matrix l ≡ false → opens_matrix_at l ≡ false → Outside in_matrix ls
  unfolding in_matrix opens_matrix_at key_of
  left_outside t o =
      next_outside ls g
      (ap (λ (q : ℕ). eqb q place.matrix) (moves_place l s s' m ∙ (λ i. place_after (sym p i) l.content))
      ∙ matrix_entered l.place l.content t o)

  tally_outside : in_matrix l ≡ false → e.counts.values ≡ s.counts.values + values_in (l ∷ ls)
  tally_outside t =
      let same : s'.counts.values ≡ s.counts.values = outside_keeps l s p s' m t in
      let all : values_in (l ∷ ls) ≡ length (joined (λ (x : Matrix). x.values) (matrix_at l ls)) + values_in ls = values_more l ls in
      by_cases (e.counts.values ≡ s.counts.values + values_in (l ∷ ls)) (opens_matrix_at l)
      (λ (o : opens_matrix_at l ≡ true).
      let here : length (joined (λ (x : Matrix). x.values) (matrix_at l ls)) ≡ numbers_in (form_of (argument_of l).text) (up_to in_matrix ls) =
      opens_values l ls o in
      let rest : e.counts.values ≡ s'.counts.values + numbers_in (form_of (argument_of l).text) (up_to in_matrix ls) + values_in ls =
      rw (opens_form l s p s' m o) at later.within in
      omega arith)
      (λ (o : opens_matrix_at l ≡ false).
      let here : length (joined (λ (x : Matrix). x.values) (matrix_at l ls)) ≡ 0 = shut_values l ls o in
      let rest : e.counts.values ≡ s'.counts.values + values_in ls = later.without (left_outside t o) in
      omega arith)

  tally_inside :
      in_matrix l ≡ true → e.counts.values ≡ s.counts.values + numbers_in s.matrix.form (up_to in_matrix (l ∷ ls)) + values_in (l ∷ ls)
  unfolding numbers_in
  tally_inside t =
      let grows : Grows l s s' = inside_grows l s p s' m t in
      let added : s'.counts.values ≡ s.counts.values + numbers_on s.matrix.form l = grows.values in
      let all : values_in (l ∷ ls) ≡ length (joined (λ (x : Matrix). x.values) (matrix_at l ls)) + values_in ls = values_more l ls in
      let here : length (joined (λ (x : Matrix). x.values) (matrix_at l ls)) ≡ 0 = shut_values l ls (inside_not_opens l t) in
      let body :
      numbers_in s.matrix.form (up_to in_matrix (l ∷ ls))
      ≡ numbers_on s.matrix.form l + numbers_in s.matrix.form (up_to in_matrix ls) =
      ap (numbers_in s.matrix.form) (up_in in_matrix l ls t) in
      let rest : e.counts.values ≡ s'.counts.values + numbers_in s.matrix.form (up_to in_matrix ls) + values_in ls =
      rw grows.form at later.within in
      omega arith

  tally_left :
      in_matrix l ≡ false →
      e.counts.values ≡ s.counts.values + numbers_in s.matrix.form (up_to in_matrix (l ∷ ls)) + values_in (l ∷ ls)
  unfolding numbers_in
  tally_left t =
      let z : numbers_in s.matrix.form (up_to in_matrix (l ∷ ls)) ≡ 0 = ap (numbers_in s.matrix.form) (up_out in_matrix l ls t) in
      let rest : e.counts.values ≡ s.counts.values + values_in (l ∷ ls) = tally_outside t in
      omega arith

tallied : {s e : State} (ls : List Line) → Goes s ls e → Tallied s ls e
unfolding numbers_in
tallied {s} [] none =
    let a : values_in [] ≡ 0 = values_none in
    let b : numbers_in s.matrix.form (up_to in_matrix []) ≡ 0 = ap (numbers_in s.matrix.form) (up_none in_matrix) in
    record { within = omega arith; without = λ (o : Unit {0}). omega arith }
tallied {s = s} {e = e} (l ∷ ls) (more {s' = s'} p b m g) =
    record {
      within = by_cases _ (in_matrix l) (tally_inside l ls p m g (tallied {s = s'} ls g)) (tally_left l ls p m g (tallied {s = s'} ls g));
      without = tally_outside l ls p m g (tallied {s = s'} ls g);
    }

-- the count rises by as many values as the matrices of the lines have
pub values_counted :
    {s e : State} (ls : List Line) → Goes s ls e → Outside in_matrix ls →
    e.counts.values ≡ s.counts.values + length (joined (λ (m : Matrix). m.values) (gather matrix_at ls))
unfolding values_in
values_counted ls g out = (tallied ls g).without out
