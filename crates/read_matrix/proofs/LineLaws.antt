-- Laws of one line of a matrix that is judged and staged: a line of numbers, [Row] and [Bandwidth], and a line that
-- ends the matrix.
-- Assumes nothing.
use Rattle.std.proofs.Common.{unwrap_or, Option, Some}
use Rattle.std.specs.Option.{option_or}
use mathlib.Core.Path.{◌≡◌, refl, sym, ◌∙◌, ap}
use mathlib.Core.Bool.{Bool, true, false, true≢false}
use mathlib.Core.List.{List, ◌∷◌, ◌++◌}
use Prim.Native.Nat.{ℕ, ◌+◌, ◌≤◌, ◌<◌, max}
use native.Mathlib.Omega.{arith}
use lib.Dec.{eqb}
use borrow.Author.Tests.{eq-eqb, ne_eqb, eqb-true}
use Rattle.table_record.specs.Records.{value_words}
use Rattle.table_record.specs.declared.Value.{Value}
use Rattle.table_record.proofs.StageLaws.{held_same}
use Rattle.table_layout.specs.Layout.{value_width}
use Rattle.table_layout.specs.Codes.{sparse}
use Rattle.table_layout.specs.Bounds.{most_values}
use Rattle.base.proofs.IfLaws.{if_true, if_false, by_cases, both_true, either_left, either_right, either_rest}
use Rattle.lex_line.specs.Lines.{is_blank_line}
use Rattle.lex_number.specs.Integer.{whole_of}
use Rattle.lex_keyword.specs.Names.{row, bandwidth}
use Rattle.lex_keyword.specs.Bracket.{bracket_of}
use Rattle.lex_keyword.specs.declared.Bracket.{Bracket}
use Rattle.lex_keyword.specs.declared.Bracket.TheVariants.{Plain, Indented, Bad, Unknown, Later, Keyword}
use Rattle.line_place.specs.Place.{is_row_or_bandwidth}
use Rattle.line_place.specs.Place as place
use Rattle.line_matrix.specs.Matrix.{data_line_of, data_next, with_column, with_row, with_bandwidth}
use Rattle.line_matrix.specs.declared.Matrix.{Matrix}
use Rattle.line_matrix.specs.declared.DataLine.{DataLine}
use Rattle.line_matrix.specs.Way.Rule.{data_rule}
use Rattle.line_keyword.specs.Way.Row.{matrix_keyword_rule, matrix_keyword_next}
use Rattle.line_keyword.specs.declared.State.{State}
use Rattle.line_keyword.proofs.InsideLaws.{matrix_keyword_rule_is, matrix_keyword_next_is}
use Rattle.line_keyword.specs.Way.Rule.{keyword_rule}
use Rattle.read_line.specs.Reading.{argument_from, goes, breaks, line_result}
use Rattle.read_line.specs.Way.Steps.{bracket_step, keyword_step}
use Rattle.read_line.proofs.ResultLaws.{result_steps}
use Rattle.read_line.specs.Way.Walk.{Decides, Opens, with_matrix}
use Rattle.read_line.specs.declared.Front.TheVariants.{Words}
use Rattle.read_line.proofs.StepLaws.{data_stops, data_goes, keyword_stops, keyword_goes}
use Rattle.read_line.proofs.QuietLaws.{words_decide, quiet_blank}
use Rattle.doc.specs.Lines.{Line, plain, key_in, key_at, key_of, argument_in, argument_of}
use Rattle.doc.specs.Document.{in_matrix, given_by, bandwidth_in, greatest_in, values_from}
use Rattle.read_numbers.specs.Way.Numbers.{most_given}
use Rattle.read_numbers.specs.declared.Staging.{Staging}
use Rattle.read_numbers.specs.Way.Staging.{HeldValues, BoundedStaging, Adds}
use Rattle.read_numbers.proofs.GivenLaws.{told_first, whole_below, most_of, row_values, row_bandwidth, row_greatest, bandwidth_values, bandwidth_told, bandwidth_greatest}
use Rattle.read_matrix.specs.declared.Data.{Data}
use Rattle.read_matrix.specs.Way.Body.{new_staging, keyword_staging, TakesKeyword, IsData, BrokenLine, Extends, Ends, Takes, TakesAlone}

pub no_bounded : (values : ℕ) → BoundedStaging new_staging values
no_bounded values = record { row = omega arith; column = omega arith }

-- ---- a line of numbers

plain_key : (content : List ℕ) → bracket_of content ≡ Plain → (l : Line) → l.content ≡ content → key_of l ≡ plain
unfolding key_of key_at
plain_key content p l e = ap (λ (c : List ℕ). key_in (bracket_of c)) e ∙ ap key_in p

plain_inside : (l : Line) → l.place ≡ place.matrix → key_of l ≡ plain → in_matrix l ≡ true
unfolding in_matrix
plain_inside l e k = both_true _ _ (eq-eqb _ _ e) (either_left _ _ (eq-eqb _ _ k))

next_form : (l : DataLine) (m : Matrix) → (data_next l m).form ≡ m.form
unfolding data_next with_column
next_form l m =
    by_cases _ (eqb m.form sparse)
    (λ (e : eqb m.form sparse ≡ true). ap (λ (x : Matrix). x.form) (if_true _ _ e))
    (λ (e : eqb m.form sparse ≡ false). ap (λ (x : Matrix). x.form) (if_false _ _ e))

module _ (content : List ℕ) (filled : is_blank_line content ≡ false) (plainly : bracket_of content ≡ Plain) (m : Matrix) (values : ℕ) (line : DataLine)
    (read : line ≡ data_line_of m.form content) (k : ℕ) (rule : k ≡ data_rule line m values) where
  -- what the line does to a state
  steps_on : k ≡ 0 → (next : Matrix) → next ≡ data_next line m →
      Decides place.matrix (with_matrix m values) (line_result content) 0 (with_matrix next (values + line.numbers))
  steps_on z next next_is =
      words_decide content Words (filled, plainly) place.matrix (with_matrix m values) refl (λ (s : State). refl)
      (λ (z : place.matrix ≡ place.done). omega arith) (λ (z : place.matrix ≡ place.before). omega arith) 0
      (with_matrix next (values + line.numbers)) (data_goes content m values line read k rule z next next_is)

  steps_not : (k ≡ 0 → ⊥) → Decides place.matrix (with_matrix m values) (line_result content) k (with_matrix m values)
  steps_not h =
      words_decide content Words (filled, plainly) place.matrix (with_matrix m values) refl (λ (s : State). refl)
      (λ (z : place.matrix ≡ place.done). omega arith) (λ (z : place.matrix ≡ place.before). omega arith) k
      (with_matrix m values) (data_stops content m values line read k rule h)

  form_on : (next : Matrix) → next ≡ data_next line m → next.form ≡ m.form
  form_on next next_is = ap (λ (x : Matrix). x.form) next_is ∙ next_form line m

  -- a line that breaks a rule
  pub data_broken : BrokenLine content m values → (a : Staging) → BoundedStaging a values →
      TakesAlone content m values a (record { taken = true; rule = k; matrix = m; values = values; staging = a })
  data_broken broken a bound =
      let h : k ≡ 0 → ⊥ = λ (z : k ≡ 0). broken (filled, plainly) (ap (λ (l : DataLine). data_rule l m values) (sym read) ∙ sym rule ∙ z) in
      record {
        takes = λ (table : List ℕ).
            record {
              decides = λ (e : true ≡ true). steps_not h;
              ends = λ (e : true ≡ false). absurd (true≢false e);
              form = refl;
              few = λ (f : values ≤ most_values). f;
              bounded = bound;
              extends = λ (e : true ≡ true) (z : k ≡ 0). absurd (h z);
            };
        other = λ (z : k ≡ 0) (d : IsData content). absurd (h z);
      }

  -- a line that is staged
  module _ (a b : Staging) (table table' : List ℕ) (few : values + line.numbers ≤ most_values)
      (adds : (l : Line) → l.content ≡ content → key_of l ≡ plain → Adds m.form l table values a table' (values + line.numbers) b) where
    -- some line with these words, wherever it is
    abbrev here : Line
    here = record { line = 0; at = 0; place = place.matrix; content = content }

    extended : Extends content m.form table values a table' (values + line.numbers) b
    extended =
        record {
          blank = λ (e : is_blank_line content ≡ true). absurd (true≢false (sym e ∙ filled));
          filled = λ (e : is_blank_line content ≡ false) (l : Line) (p : l.place ≡ place.matrix) (c : l.content ≡ content).
              (plain_inside l p (plain_key content plainly l c), adds l c (plain_key content plainly l c));
        }

    pub stage_goes : k ≡ 0 → (next : Matrix) → next ≡ data_next line m →
        Takes content m values a table
        (record { taken = true; rule = 0; matrix = next; values = values + line.numbers; staging = b }) table'
    stage_goes z next next_is =
        record {
          decides = λ (e : true ≡ true). steps_on z next next_is;
          ends = λ (e : true ≡ false). absurd (true≢false e);
          form = form_on next next_is;
          few = λ (f : values ≤ most_values). few;
          bounded = (adds here refl (plain_key content plainly here refl)).bounded;
          extends = λ (e : true ≡ true) (y : ◌≡◌ {A = ℕ} 0 0). extended;
        }

-- ---- a blank line

pub blank_takes : (content : List ℕ) (m : Matrix) (values : ℕ) (a : Staging) → is_blank_line content ≡ true → BoundedStaging a values →
    TakesAlone content m values a (record { taken = true; rule = 0; matrix = m; values = values; staging = a })
unfolding breaks goes
blank_takes content m values a blank bound =
    record {
      takes = λ (table : List ℕ).
          record {
            decides = λ (e : true ≡ true) (s : State) (p : s.place ≡ place.matrix). quiet_blank content true (sym blank) refl (with_matrix m values s);
            ends = λ (e : true ≡ false). absurd (true≢false e);
            form = refl;
            few = λ (f : values ≤ most_values). f;
            bounded = bound;
            extends = λ (e : true ≡ true) (z : ◌≡◌ {A = ℕ} 0 0).
                record {
                  blank = λ (b : is_blank_line content ≡ true). (refl, refl, refl);
                  filled = λ (f : is_blank_line content ≡ false). absurd (true≢false (sym blank ∙ f));
                };
          };
      other = λ (z : ◌≡◌ {A = ℕ} 0 0) (d : IsData content). true≢false (sym blank ∙ d.0);
    }

-- ---- a line that is not taken

left_takes : (content : List ℕ) (m : Matrix) (values : ℕ) (a : Staging) → Ends content → BoundedStaging a values → (r : Data) →
    r ≡ record { taken = false; rule = 0; matrix = m; values = values; staging = a } → TakesAlone content m values a r
left_takes content m values a ends bound r told =
    rw told
    (record {
      takes = λ (table : List ℕ).
          record {
            decides = λ (e : false ≡ true). absurd (true≢false (sym e));
            ends = λ (e : false ≡ false). ends;
            form = refl;
            few = λ (f : values ≤ most_values). f;
            bounded = bound;
            extends = λ (e : false ≡ true). absurd (true≢false (sym e));
          };
      other = λ (z : ◌≡◌ {A = ℕ} 0 0) (d : IsData content). ends.opens d.1;
    })

-- a bracket without a keyword that is known
abbrev is_named : Bracket → Bool
is_named Plain = false
is_named Indented = false
is_named Bad = false
is_named Unknown = false
is_named Later = false
is_named (Keyword k start) = true

pub unnamed_takes : (content : List ℕ) (m : Matrix) (values : ℕ) (a : Staging) → is_blank_line content ≡ false → Opens content → BoundedStaging a values → (b c : Bracket) →
    b ≡ bracket_of content → b ≡ c → is_named c ≡ false → (r : Data) → r ≡ record { taken = false; rule = 0; matrix = m; values = values; staging = a } → TakesAlone content m values a r
unnamed_takes content m values a filled opens bound b c told same unnamed r is =
    left_takes content m values a
    (record {
      filled = filled;
      opens = opens;
      leaves = λ (k start : ℕ) (e : bracket_of content ≡ Keyword k start). absurd (true≢false (ap is_named (sym (told ∙ e) ∙ same) ∙ unnamed));
    }) bound r is

-- ---- keywords

module _ (content : List ℕ) (k start : ℕ) (is : bracket_of content ≡ Keyword k start) where
  pub keyed_opens : Opens content
  keyed_opens p = absurd (apart (ap kind (sym is ∙ p)))
    where
      kind : Bracket → Bool
      kind Plain = true
      kind Indented = false
      kind Bad = false
      kind Unknown = false
      kind Later = false
      kind (Keyword k start) = false

      apart : false ≡ true → ⊥
      apart e = true≢false (sym e)

  keyed : (l : Line) → l.content ≡ content → key_of l ≡ k
  unfolding key_of key_at
  keyed l e = ap (λ (c : List ℕ). key_in (bracket_of c)) e ∙ ap key_in is

  given : (l : Line) → l.content ≡ content → given_by l ≡ unwrap_or (whole_of (argument_from content start)) 0
  unfolding given_by argument_of
  given l e =
      ap (λ (c : List ℕ). unwrap_or (whole_of (argument_from c (argument_in (bracket_of c)))) 0) e
      ∙ ap (λ (b : Bracket). unwrap_or (whole_of (argument_from content (argument_in b))) 0) is

-- [Row] and [Bandwidth] leave the form as it is
kept_form : (k : ℕ) (argument : List ℕ) (m : Matrix) (values : ℕ) → (matrix_keyword_next k argument m values).form ≡ m.form
unfolding matrix_keyword_next with_row with_bandwidth
kept_form k argument m values =
    by_cases _ (eqb k row)
    (λ (e : eqb k row ≡ true). ap (λ (x : Matrix). x.form) (if_true _ _ e))
    (λ (e : eqb k row ≡ false). ap (λ (x : Matrix). x.form) (if_false _ _ e))

-- rows and columns stay within their bounds
kept_bounded : (k value : ℕ) (a : Staging) (values : ℕ) → value < most_given → BoundedStaging a values → BoundedStaging (keyword_staging k value a) values
unfolding keyword_staging
kept_bounded k value a values small bound =
    by_cases _ (eqb k row)
    (λ (e : eqb k row ≡ true). rw (if_true {A = Staging} _ _ e) (record { row = omega arith; column = omega arith }))
    (λ (e : eqb k row ≡ false). rw (if_false {A = Staging} _ _ e) (record { row = bound.row; column = bound.column }))

module _ (k : ℕ) (argument : List ℕ) (m : Matrix) (values : ℕ) (a : Staging) (keeps : is_row_or_bandwidth k ≡ true) (bound : BoundedStaging a values) (n : ℕ) (rule : n ≡ matrix_keyword_rule k argument m) where
  rule_here : (s : State) → s.place ≡ place.matrix → n ≡ keyword_rule k argument (with_matrix m values s)
  rule_here s p = rule ∙ sym (matrix_keyword_rule_is argument (with_matrix m values s) p k keeps)

  pub keeps_stop : (n ≡ 0 → ⊥) → TakesKeyword k argument m values a (record { taken = true; rule = n; matrix = m; values = values; staging = a })
  keeps_stop h =
      record {
        taken = refl;
        decides = λ (s : State) (p : s.place ≡ place.matrix). sym (keyword_stops k argument (with_matrix m values s) n (rule_here s p) (breaks n (with_matrix m values s)) h refl);
        form = refl;
        same = refl;
        staging = λ (z : n ≡ 0). absurd (h z);
        bounded = bound;
      }

  pub keeps_go : n ≡ 0 → (whole : Option ℕ) → whole ≡ whole_of argument → (value : ℕ) → value ≡ unwrap_or whole 0 → (next : Matrix) → next ≡ matrix_keyword_next k argument m values → (b : Staging) → b ≡ keyword_staging k value a →
      TakesKeyword k argument m values a (record { taken = true; rule = 0; matrix = next; values = values; staging = b })
  unfolding goes breaks
  keeps_go z whole whole_is value value_is next next_is b b_is =
      let v : value ≡ unwrap_or (whole_of argument) 0 = value_is ∙ ap (λ (x : Option ℕ). unwrap_or x 0) whole_is in
      let small : value < most_given = rw v (whole_below argument) in
      record {
        taken = refl;
        decides = λ (s : State) (p : s.place ≡ place.matrix).
            sym (keyword_goes k argument (with_matrix m values s) n (rule_here s p) (goes (with_matrix next values s)) z (with_matrix next values s)
            (ap (λ (x : Matrix). with_matrix x values s) next_is ∙ sym (matrix_keyword_next_is argument (with_matrix m values s) p k keeps)) refl);
        form = ap (λ (x : Matrix). x.form) next_is ∙ kept_form k argument m values;
        same = refl;
        staging = λ (y : ◌≡◌ {A = ℕ} 0 0). b_is ∙ ap (λ (x : ℕ). keyword_staging k x a) v;
        bounded = rw b_is (kept_bounded k value a values small bound);
      }

abbrev rowed : Staging → ℕ → Staging
rowed a n = record { row = n; column = n; bandwidth = a.bandwidth; greatest = max a.greatest n }

abbrev banded : Staging → ℕ → Staging
banded a n = record { row = a.row; column = a.column; bandwidth = option_or a.bandwidth (Some n); greatest = a.greatest }

-- what [Row] or [Bandwidth] adds
kept_adds : (form : ℕ) (k : ℕ) (l : Line) (table : List ℕ) (values : ℕ) (a : Staging) → is_row_or_bandwidth k ≡ true → key_of l ≡ k → BoundedStaging (keyword_staging k (given_by l) a) values →
    Adds form l table values a table values (keyword_staging k (given_by l) a)
unfolding keyword_staging is_row_or_bandwidth
kept_adds form k l table values a keeps key bound =
    by_cases _ (eqb k row) on_row on_bandwidth
  where
    on_row : eqb k row ≡ true → Adds form l table values a table values (keyword_staging k (given_by l) a)
    on_row e =
        let is_row : key_of l ≡ row = key ∙ eqb-true k row e in
        let f : keyword_staging k (given_by l) a ≡ rowed a (given_by l) = if_true {A = Staging} (rowed a (given_by l)) (banded a (given_by l)) e in
        rw f
        (record {
          held = λ (ls : List Line) (whole rest : List Value) (h : HeldValues whole table values (values_from form a.row a.column (l ∷ ls) ++ rest)).
              held_same value_words value_width whole table values _ h _ (ap (λ (vs : List Value). vs ++ rest) (row_values form l ls is_row a.row a.column));
          bandwidth = λ (ls : List Line). ap (unwrap_or a.bandwidth) (sym (row_bandwidth form l ls is_row));
          greatest = λ (ls : List Line). most_of a.greatest (given_by l) _ _ (greatest_in form ls) (row_greatest form l ls is_row) refl;
          bounded = rw f at bound;
        })

    on_bandwidth : eqb k row ≡ false → Adds form l table values a table values (keyword_staging k (given_by l) a)
    on_bandwidth e =
        let is : key_of l ≡ bandwidth = key ∙ eqb-true k bandwidth (sym (either_rest _ _ e) ∙ keeps) in
        let f : keyword_staging k (given_by l) a ≡ banded a (given_by l) = if_false {A = Staging} (rowed a (given_by l)) (banded a (given_by l)) e in
        rw f
        (record {
          held = λ (ls : List Line) (whole rest : List Value) (h : HeldValues whole table values (values_from form a.row a.column (l ∷ ls) ++ rest)).
              held_same value_words value_width whole table values _ h _ (ap (λ (vs : List Value). vs ++ rest) (bandwidth_values form l ls is a.row a.column));
          bandwidth = λ (ls : List Line). told_first a.bandwidth (given_by l) (bandwidth_in ls) ∙ ap (unwrap_or a.bandwidth) (sym (bandwidth_told form l ls is));
          greatest = λ (ls : List Line). most_of a.greatest 0 a.greatest _ (greatest_in form ls) (bandwidth_greatest form l ls is) (omega arith);
          bounded = rw f at bound;
        })

module _ (content : List ℕ) (filled : is_blank_line content ≡ false) (k start : ℕ) (is : bracket_of content ≡ Keyword k start) (m : Matrix) (values : ℕ) (a : Staging) where
  step_keyed : (s : State) → (s.place ≡ place.done → ⊥) → (s.place ≡ place.before → ⊥) → line_result content s ≡ keyword_step k (argument_from content start) s
  step_keyed s d b =
      result_steps content s ∙ if_false _ _ filled ∙ if_false _ _ (ne_eqb _ _ d) ∙ if_false _ _ (ne_eqb _ _ b) ∙ ap (λ (x : Bracket). bracket_step x content s) is

  keyed_inside : is_row_or_bandwidth k ≡ true → (l : Line) → l.place ≡ place.matrix → l.content ≡ content → in_matrix l ≡ true
  unfolding in_matrix
  keyed_inside keeps l p e = both_true _ _ (eq-eqb _ _ p) (either_right _ _ (ap is_row_or_bandwidth (keyed content k start is l e) ∙ keeps))

  -- one that keeps the matrix open
  pub keeps_takes : is_row_or_bandwidth k ≡ true → (argument : List ℕ) → argument ≡ argument_from content start → (r : Data) → TakesKeyword k argument m values a r → TakesAlone content m values a r
  keeps_takes keeps argument argument_is r kept =
      record { takes = taken; other = λ (z : r.rule ≡ 0) (d : IsData content). keyed_opens content k start is d.1 }
    where
      apart : (other : ℕ) → (place.matrix ≡ other → ⊥) → (s : State) → s.place ≡ place.matrix → s.place ≡ other → ⊥
      apart other h s p z = h (sym p ∙ z)

      added : (table : List ℕ) → r.rule ≡ 0 → (l : Line) → l.content ≡ content → Adds m.form l table values a table r.values r.staging
      added table z l c =
          let g : unwrap_or (whole_of argument) 0 ≡ given_by l = ap (λ (x : List ℕ). unwrap_or (whole_of x) 0) argument_is ∙ sym (given content k start is l c) in
          let n : r.staging ≡ keyword_staging k (given_by l) a = kept.staging z ∙ ap (λ (x : ℕ). keyword_staging k x a) g in
          let b : BoundedStaging (keyword_staging k (given_by l) a) values = rw n at kept.bounded in
          rw (kept.same, n)
          (kept_adds m.form k l table values a keeps (keyed content k start is l c) b)

      taken : (table : List ℕ) → Takes content m values a table r table
      taken table =
          record {
            decides = λ (e : r.taken ≡ true) (s : State) (p : s.place ≡ place.matrix).
                step_keyed (with_matrix m values s) (λ (z : s.place ≡ place.done). apart place.done (λ (y : place.matrix ≡ place.done). omega arith) s p z)
                (λ (z : s.place ≡ place.before). apart place.before (λ (y : place.matrix ≡ place.before). omega arith) s p z)
                ∙ ap (λ (x : List ℕ). keyword_step k x (with_matrix m values s)) (sym argument_is) ∙ kept.decides s p;
            ends = λ (e : r.taken ≡ false). absurd (true≢false (sym kept.taken ∙ e));
            form = kept.form;
            few = λ (f : values ≤ most_values). rw kept.same f;
            bounded = rw kept.same kept.bounded;
            extends = λ (e : r.taken ≡ true) (z : r.rule ≡ 0).
                record {
                  blank = λ (b : is_blank_line content ≡ true). absurd (true≢false (sym b ∙ filled));
                  filled = λ (b : is_blank_line content ≡ false) (l : Line) (p : l.place ≡ place.matrix) (c : l.content ≡ content). (keyed_inside keeps l p c, added table z l c);
                };
          }

  -- one that ends it
  pub leaves_takes : (b : Bool) → b ≡ is_row_or_bandwidth k → b ≡ false → BoundedStaging a values → (r : Data) →
      r ≡ record { taken = false; rule = 0; matrix = m; values = values; staging = a } → TakesAlone content m values a r
  leaves_takes b keeps leaves bound r told =
      left_takes content m values a
      (record {
        filled = filled;
        opens = keyed_opens content k start is;
        leaves = λ (j at : ℕ) (e : bracket_of content ≡ Keyword j at). ap is_row_or_bandwidth (same_key (sym e ∙ is)) ∙ sym keeps ∙ leaves;
      }) bound r told
    where
      same_key : {i j a b : ℕ} → Keyword i a ≡ Keyword j b → i ≡ j
      same_key e = ap key_in e

-- how the code changes a staging at [Row] and at [Bandwidth]
module _ (k value : ℕ) (a : Staging) where
  pub row_staged : (g : ℕ) → g ≡ max a.greatest value → k ≡ 1 → record { row = value; column = value; bandwidth = a.bandwidth; greatest = g } ≡ keyword_staging k value a
  unfolding keyword_staging
  row_staged g told e = ap (λ (x : ℕ). record { row = value; column = value; bandwidth = a.bandwidth; greatest = x }) told ∙ sym (if_true {A = Staging} _ _ (eq-eqb _ _ e))

  pub bandwidth_staged : (b : Option ℕ) → b ≡ option_or a.bandwidth (Some value) → (k ≡ 1 → ⊥) → record { row = a.row; column = a.column; bandwidth = b; greatest = a.greatest } ≡ keyword_staging k value a
  unfolding keyword_staging
  bandwidth_staged b told h = ap (λ (x : Option ℕ). record { row = a.row; column = a.column; bandwidth = x; greatest = a.greatest }) told ∙ sym (if_false {A = Staging} _ _ (ne_eqb _ _ h))

-- what was read of a bracket
pub bracket_told : (content : List ℕ) (b c : Bracket) → b ≡ bracket_of content → b ≡ c → bracket_of content ≡ c
bracket_told content b c told e = sym told ∙ e
