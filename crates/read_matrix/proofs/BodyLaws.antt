-- Laws of the lines of a matrix, read one after another: no line yet, one line more, a line that breaks a rule, and the
-- line that ends the matrix.
-- Assumes nothing.
use mathlib.Core.Path.{◌≡◌, refl, sym, ◌∙◌, ap, subst}
use mathlib.Core.Bool.{true, false}
use mathlib.Core.List.{List, ◌∷◌, ◌++◌}
use Prim.Native.Nat.{ℕ, ◌+◌, ◌-◌, ◌≤◌, ◌<◌}
use native.Mathlib.Omega.{arith}
use lib.ListN.{length, take, drop}
use lib.Dec.{eqb}
use Rattle.table_record.specs.declared.Value.{Value}
use Rattle.table_layout.specs.Bounds.{most_values}
use Rattle.base.specs.If.{either}
use Rattle.base.proofs.IfLaws.{if_true, if_false, by_cases, both_second, either_rest}
use Rattle.lex_line.specs.Lines.{is_blank_line, comment_byte}
use Rattle.lex_line.specs.Way.LineEnds.{line_at, content_at}
use Rattle.lex_line.specs.declared.Line as text
use Rattle.line_place.specs.Place.{is_row_or_bandwidth, moved, moved_by_line}
use Rattle.line_place.specs.Place as place
use Rattle.line_matrix.specs.declared.Matrix.{Matrix}
use Rattle.line_keyword.specs.declared.State.{State}
use Rattle.read_line.specs.Reading.{breaks, line_result}
use Rattle.read_line.specs.Way.Walk.{HoldsPart, with_matrix}
use Rattle.read_line.proofs.CrossLaws.{crossed_none, crossed_on, crossed_stops}
use Rattle.doc.specs.Lines.{Line, plain, key_at, key_of, place_after, lines_at, up_to}
use Rattle.doc.specs.Document.{in_matrix, values_from}
use Rattle.doc.proofs.FoundLaws.{pass_over, stop_here}
use Rattle.doc.proofs.GatherLaws.{up_in}
use Rattle.read_numbers.specs.declared.Staging.{Staging}
use Rattle.read_numbers.specs.Way.Staging.{HeldValues, Adds}
use Rattle.read_matrix.specs.declared.Data.{Data}
use Rattle.read_matrix.specs.Way.Body.{body_lines, new_staging, Ends, Takes, Left, ResumesMatrix}
use Rattle.read_matrix.specs.Way.Run.{Gone, LeftPart}
use Rattle.read_matrix.proofs.LineLaws.{no_bounded}

-- ---- a line of a matrix leads to a line that is read in the matrix too

module _ (content : List ℕ) where
  plain_stays : eqb (key_at content) plain ≡ true → place_after place.matrix content ≡ place.matrix
  unfolding place_after moved_by_line
  plain_stays e = if_true _ _ e ∙ if_false _ _ refl

  key_stays : eqb (key_at content) plain ≡ false → is_row_or_bandwidth (key_at content) ≡ true → place_after place.matrix content ≡ place.matrix
  unfolding place_after moved place.leads_in_matrix
  key_stays e k = if_false _ _ e ∙ if_true _ _ refl ∙ if_true _ _ k

  matrix_stays : either (eqb (key_at content) plain) (is_row_or_bandwidth (key_at content)) ≡ true → place_after place.matrix content ≡ place.matrix
  matrix_stays h =
      by_cases _ (eqb (key_at content) plain)
      (λ (e : eqb (key_at content) plain ≡ true). plain_stays e)
      (λ (e : eqb (key_at content) plain ≡ false). key_stays e (sym (either_rest _ _ e) ∙ h))

  inside_stays : (n at : ℕ) → in_matrix (record { line = n; at = at; place = place.matrix; content = content }) ≡ true → place_after place.matrix content ≡ place.matrix
  unfolding in_matrix key_of
  inside_stays n at e = matrix_stays (both_second _ _ e)

-- ---- the lines that are left

module _ (t : List ℕ) (n₀ at₀ form : ℕ) (table₀ : List ℕ) (values₀ n at n' at' : ℕ) (table : List ℕ) (values : ℕ) (a : Staging) where
  -- the same lines, given by another line and offset
  left_same : lines_at t n at place.matrix ≡ lines_at t n' at' place.matrix → Left t n₀ at₀ form table₀ values₀ n at table values a → Left t n₀ at₀ form table₀ values₀ n' at' table values a
  left_same lines left =
      let body : body_lines t n at ≡ body_lines t n' at' = ap (up_to in_matrix) lines in
      record {
        held = rw body at left.held;
        bandwidth = rw body at left.bandwidth;
        greatest = rw body at left.greatest;
        rest = λ (ls : List Line) (e : lines_at t n' at' place.matrix ≡ body_lines t n' at' ++ ls). left.rest ls (lines ∙ e ∙ ap (λ (x : List Line). x ++ ls) (sym body));
      }

  -- one line less
  module _ (l : Line) (lines : lines_at t n at place.matrix ≡ l ∷ lines_at t n' at' place.matrix) (inside : in_matrix l ≡ true) (left : Left t n₀ at₀ form table₀ values₀ n at table values a) where
    body_on : body_lines t n at ≡ l ∷ body_lines t n' at'
    body_on = ap (up_to in_matrix) lines ∙ up_in in_matrix l (lines_at t n' at' place.matrix) inside

    left_on : (table' : List ℕ) (values' : ℕ) (b : Staging) → Adds form l table values a table' values' b → Left t n₀ at₀ form table₀ values₀ n' at' table' values' b
    left_on table' values' b adds =
        record {
          held = λ (whole rest : List Value) (h : HeldValues whole table₀ values₀ (values_from form 1 1 (body_lines t n₀ at₀) ++ rest)).
              adds.held (body_lines t n' at') whole rest (rw body_on at (left.held whole rest h));
          bandwidth = adds.bandwidth (body_lines t n' at') ∙ rw body_on at left.bandwidth;
          greatest = adds.greatest (body_lines t n' at') ∙ rw body_on at left.greatest;
          rest = λ (ls : List Line) (e : lines_at t n' at' place.matrix ≡ body_lines t n' at' ++ ls).
              left.rest ls (lines ∙ ap (λ (x : List Line). l ∷ x) e ∙ ap (λ (x : List Line). x ++ ls) (sym body_on));
        }

-- ---- no line yet

module _ (t : List ℕ) (at line : ℕ) (m : Matrix) (values : ℕ) (a : Staging) (new : a ≡ new_staging) where
  abbrev none : Data
  none = record { taken = true; rule = 0; matrix = m; values = values; staging = a }

  pub gone_start : at ≤ length t → values ≤ most_values → Gone t at line m values at line (record { taken = true; rule = 0; matrix = m; values = values; staging = a })
  gone_start h few =
      record {
        whole = refl;
        crossed = crossed_none t at line (HoldsPart place.matrix (with_matrix m values)) (with_matrix m values) h (λ (s : State) (f : HoldsPart place.matrix (with_matrix m values) s). f.1);
        form = refl;
        few = few;
        bounded = rw new (no_bounded values);
      }

  pub left_start : (table : List ℕ) → LeftPart t line at m.form table values line at (record { taken = true; rule = 0; matrix = m; values = values; staging = a }) table
  left_start table =
      rw new
      (record {
        held = λ (whole rest : List Value) (h : HeldValues whole table values (values_from m.form 1 1 (body_lines t line at) ++ rest)). h;
        bandwidth = refl;
        greatest = omega arith;
        rest = λ (ls : List Line) (e : lines_at t line at place.matrix ≡ body_lines t line at ++ ls). e;
      })

-- ---- one line more

module _ (t : List ℕ) (here number : ℕ) (part : Data) (table : List ℕ) (h : here < length t) (found : text.Line) (is_found : found ≡ line_at comment_byte t here) (next : Data) (table' : List ℕ)
    (takes : Takes (take (found.content - here) (drop here t)) part.matrix part.values part.staging table next table') where
  abbrev content : List ℕ
  content = take (found.content - here) (drop here t)

  abbrev l : Line
  l = record { line = number; at = here; place = place.matrix; content = take (found.content - here) (drop here t) }

  pub ends_here : next.taken ≡ false → Ends (content_at t here)
  ends_here left = subst (λ (x : text.Line). Ends (take (x.content - here) (drop here t))) is_found (takes.ends left)

  module _ (taken : next.taken ≡ true) (z : next.rule ≡ 0) (n₀ at₀ : ℕ) (table₀ : List ℕ) (values₀ : ℕ)
      (left : LeftPart t n₀ at₀ part.matrix.form table₀ values₀ number here part table) where
    on_blank : is_blank_line content ≡ true → LeftPart t n₀ at₀ part.matrix.form table₀ values₀ (number + 1) found.next next table'
    on_blank blank =
        let e : (table' ≡ table) × (next.values ≡ part.values) × (next.staging ≡ part.staging) = (takes.extends taken z).blank blank in
        let lines : lines_at t number here place.matrix ≡ lines_at t (number + 1) found.next place.matrix = pass_over t here h number found is_found blank place.matrix in
        rw (e.0, e.1, e.2) (left_same t n₀ at₀ part.matrix.form table₀ values₀ number here (number + 1) found.next table part.values part.staging lines left)

    on_filled : is_blank_line content ≡ false → LeftPart t n₀ at₀ part.matrix.form table₀ values₀ (number + 1) found.next next table'
    on_filled filled =
        let e : (in_matrix l ≡ true) × Adds part.matrix.form l table part.values part.staging table' next.values next.staging = (takes.extends taken z).filled filled l refl refl in
        let lines : lines_at t number here place.matrix ≡ l ∷ lines_at t (number + 1) found.next place.matrix =
        stop_here t here h number found is_found filled place.matrix ∙ ap (λ (p : ℕ). l ∷ lines_at t (number + 1) found.next p) (inside_stays content number here e.0) in
        left_on t n₀ at₀ part.matrix.form table₀ values₀ number here (number + 1) found.next table part.values part.staging l lines e.0 left table' next.values next.staging e.1

    pub left_next : LeftPart t n₀ at₀ part.matrix.form table₀ values₀ (number + 1) found.next next table'
    left_next = by_cases _ (is_blank_line content) on_blank on_filled

  module _ (taken : next.taken ≡ true) (at line : ℕ) (m : Matrix) (values : ℕ) (gone : Gone t at line m values here number part) where
    decided : (s : State) → HoldsPart place.matrix (with_matrix m values) s → line_result content (with_matrix part.matrix part.values s) ≡ breaks next.rule (with_matrix next.matrix next.values s)
    decided s f = takes.decides taken s f.0

    pub gone_next : next.rule ≡ 0 → Gone t at line m values found.next (number + 1) next
    gone_next z =
        record {
          whole = z;
          crossed =
              crossed_on t at line (HoldsPart place.matrix (with_matrix m values)) (with_matrix part.matrix part.values) part.rule here number gone.whole gone.crossed h found is_found
              (with_matrix next.matrix next.values) next.rule decided z;
          form = takes.form ∙ gone.form;
          few = takes.few gone.few;
          bounded = takes.bounded;
        }

    -- a line that breaks a rule
    pub gone_stops : (next.rule ≡ 0 → ⊥) → (table₀ : List ℕ) → length table' ≡ length table₀ →
        ResumesMatrix t at line m values table₀ (record { at = found.next; line = number; part = next }) table'
    gone_stops broken table₀ long =
        record {
          crossed =
              crossed_stops t at line (HoldsPart place.matrix (with_matrix m values)) (with_matrix part.matrix part.values) part.rule here number gone.whole gone.crossed h found is_found
              (with_matrix next.matrix next.values) next.rule decided broken;
          long = long;
          ends = λ (z : next.rule ≡ 0). absurd (broken z);
          left = λ (z : next.rule ≡ 0). absurd (broken z);
        }
