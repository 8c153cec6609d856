-- Laws of runs of plain lines inside a matrix: one line of a run, and how far a run has come.
-- Assumes nothing.
use mathlib.Core.Path.{◌≡◌, refl, sym, ◌∙◌, ap, subst}
use mathlib.Core.Bool.{Bool, true, false, not, true≢false, ◌&&◌}
use mathlib.Core.List.{List}
use Prim.Native.Nat.{ℕ, ◌+◌, ◌-◌, ◌*◌, ◌^◌, ◌≤◌, ◌<◌, max}
use mir.Syntax.{w64}
use mir.Val.{Fits}
use native.Mathlib.Nat.{le_refl}
use native.Mathlib.Omega.{arith}
use lib.ListN.{length, take, drop, get_or}
use lib.Dec.{eqb, leb}
use borrow.Author.Tests.{eq-eqb, ne_eqb, not-true, not-false, le-ltb, ltb-false}
use Rattle.table_layout.specs.Codes.{diagonal, sparse}
use Rattle.table_layout.specs.Bounds.{most_values}
use Rattle.base.specs.If.{both}
use Rattle.base.proofs.IfLaws.{if_true, if_false, by_test, both_true, both_not_left, both_rest, either_false, either_none_first, either_none_second, not_via, not_not_via, both_and}
use Rattle.base.proofs.BrokenLaws.{sound, gives_later, all_kept}
use Rattle.base.specs.Bytes.{line_feed, is_before, is_content}
use Rattle.base.specs.Way.Class.{run_end}
use Rattle.base.proofs.RunLaws.{run_through}
use Rattle.lex_line.specs.Lines.{is_blank_line, comment_byte}
use Rattle.lex_line.specs.Words.{words}
use Rattle.lex_line.specs.Way.LineEnds.{past_feed, line_at, content_at}
use Rattle.lex_line.specs.declared.Line as text
use Rattle.lex_line.proofs.LineLaws.{next_on, content_before_feed}
use Rattle.lex_keyword.specs.Bracket.{bracket_of}
use Rattle.lex_keyword.specs.declared.Bracket.TheVariants.{Plain}
use Rattle.line_matrix.specs.Matrix.{data_line_of, sparse_line, is_data_out_of_order, are_too_many, data_rules, with_column, data_next}
use Rattle.line_matrix.specs.declared.Matrix.{Matrix}
use Rattle.line_matrix.specs.declared.DataLine.{DataLine}
use Rattle.line_matrix.specs.Way.Rule.{data_rule}
use Rattle.read_line.specs.Way.Walk.{Fronted}
use Rattle.read_line.specs.declared.Front.{Front}
use Rattle.read_line.specs.declared.Front.TheVariants.{Blanks, Opening}
use Rattle.read_line.proofs.QuietLaws.{blanks_front, opening_opens}
use Rattle.read_line.proofs.KeptLaws.{column_small}
use Rattle.doc.specs.Lines.{Line, plain, key_of}
use Rattle.read_numbers.specs.Way.Numbers.{most_given}
use Rattle.read_numbers.specs.declared.Staging.{Staging}
use Rattle.read_numbers.specs.declared.Numbers.{Numbers}
use Rattle.read_numbers.specs.declared.Pair.{Pair}
use Rattle.read_numbers.specs.Way.Staging.{BoundedStaging, Adds, BrokenData, moved_to, named_to, StagesNumbers, StagesPair}
use Rattle.read_matrix.specs.declared.Data.{Data}
use Rattle.read_matrix.specs.declared.BodyWalk.{BodyWalk}
use Rattle.read_matrix.specs.declared.TakenNumbers.{TakenNumbers}
use Rattle.read_matrix.specs.declared.TakenPair.{TakenPair}
use Rattle.read_matrix.specs.Way.Body.{new_staging, IsData, BrokenLine, Ends, Takes, TakesAlone, ResumesMatrix}
use Rattle.read_matrix.specs.Way.Run.{Gone, LeftPart, ResumesRun, is_ordered, Runs, numbers_part, TakesNumbers, pairs_matrix, pairs_part, TakesPair}
use Rattle.read_matrix.proofs.LineLaws.{stage_goes}
use Rattle.read_matrix.proofs.BodyLaws.{gone_start, left_start, ends_here, left_next, gone_next, gone_stops}

-- ---- the rules of a line of data

module _ (m : Matrix) where
  pub diagonal_ordered : m.form ≡ diagonal → true ≡ is_ordered m
  unfolding is_ordered
  diagonal_ordered e = sym (not_via (both_not_left _ _ (not_not_via (eq-eqb _ _ e))))

  pub rowed_ordered : (m.form ≡ diagonal → ⊥) → not (eqb m.rows.row 0) ≡ is_ordered m
  unfolding is_ordered
  rowed_ordered e = ap not (sym (both_rest _ _ (not_via (ne_eqb _ _ e))))

  in_order : is_ordered m ≡ true → both (not (eqb m.form diagonal)) (eqb m.rows.row 0) ≡ false
  unfolding is_ordered
  in_order e = not-true _ e

rule_kept : (l : DataLine) (m : Matrix) (values : ℕ) → l.right ≡ true → is_ordered m ≡ true → l.formed ≡ true → l.bounded ≡ true →
    values + l.numbers ≤ most_values → 0 ≡ data_rule l m values
unfolding data_rule is_data_out_of_order are_too_many
rule_kept l m values right ordered formed bounded few =
    let out : is_data_out_of_order l m ≡ false = either_false _ _ (not_not_via right) (in_order m ordered) in
    let many : are_too_many values l.numbers ≡ false = le-ltb _ _ few in
    gives_later _ _ _ 0 out
    (gives_later _ _ _ 0 (not_not_via formed) (gives_later _ _ _ 0 (not_not_via bounded) (gives_later _ _ _ 0 many refl)))

-- a line that breaks none
module _ (l : DataLine) (m : Matrix) (values : ℕ) (kept : data_rule l m values ≡ 0) where
  rule_holds : (i : ℕ) → (get_or (data_rules l m values) i sound).broken ≡ false
  unfolding data_rule
  rule_holds i = all_kept (data_rules l m values) (omega arith, (omega arith, (omega arith, (omega arith, tt)))) kept i

  kept_right : l.right ≡ true
  unfolding is_data_out_of_order
  kept_right = not-false l.right (either_none_first _ _ (rule_holds 0))

  kept_ordered : is_ordered m ≡ true
  unfolding is_data_out_of_order is_ordered
  kept_ordered = not_via (either_none_second _ _ (rule_holds 0))

  kept_sound : both l.right (both l.formed l.bounded) ≡ true
  kept_sound = both_true _ _ kept_right (both_true _ _ (not-false l.formed (rule_holds 1)) (not-false l.bounded (rule_holds 2)))

  kept_few : values + l.numbers ≤ most_values
  unfolding are_too_many
  kept_few = ltb-false most_values (values + l.numbers) (rule_holds 3)

-- so these break one
pub unordered_broken : (m : Matrix) → (b : Bool) → b ≡ is_ordered m → not b ≡ true → (content : List ℕ) (values : ℕ) → BrokenLine content m values
unordered_broken m b told tested content values is_data kept =
    true≢false (sym (kept_ordered (data_line_of m.form content) m values kept) ∙ sym told ∙ not-true b tested)

data_broken : (form : ℕ) (content : List ℕ) (values : ℕ) → BrokenData (data_line_of form content) → (m : Matrix) → m.form ≡ form → BrokenLine content m values
data_broken form content values bad m form_is is_data kept =
    true≢false (sym (kept_sound (data_line_of m.form content) m values kept) ∙ rw form_is bad)

many_broken : (form : ℕ) (content : List ℕ) (values : ℕ) (line : DataLine) → line ≡ data_line_of form content → most_values < values + line.numbers → (m : Matrix) → m.form ≡ form →
    BrokenLine content m values
many_broken form content values line is many m form_is is_data kept =
    let few : values + (data_line_of m.form content).numbers ≤ most_values = kept_few (data_line_of m.form content) m values kept in
    let same : (data_line_of m.form content).numbers ≡ line.numbers = ap (λ (x : DataLine). x.numbers) (ap (λ (f : ℕ). data_line_of f content) form_is ∙ sym is) in
    omega arith

right_single : (content : List ℕ) → (data_line_of sparse content).right ≡ true → (data_line_of sparse content).numbers ≡ 1
unfolding data_line_of sparse_line
right_single content =
    rw (if_true {A = DataLine} _ _ (eq-eqb sparse sparse refl))
    (by_test (λ (l : DataLine). l.right ≡ true → l.numbers ≡ 1) (eqb (length (words content)) 2) _ _
    (λ (e : eqb (length (words content)) 2 ≡ true) (r : true ≡ true). refl)
    (λ (e : eqb (length (words content)) 2 ≡ false) (r : false ≡ true). absurd (true≢false (sym r))))

-- where there is no room for one value more, a line of a Sparse_matrix breaks one too
full_broken : (content : List ℕ) (values : ℕ) → most_values ≤ values → (m : Matrix) → m.form ≡ sparse → BrokenLine content m values
full_broken content values full m form_is is_data kept =
    let few : values + (data_line_of m.form content).numbers ≤ most_values = kept_few (data_line_of m.form content) m values kept in
    let one : (data_line_of sparse content).numbers ≡ 1 = right_single content (rw form_is at (kept_right (data_line_of m.form content) m values kept)) in
    let same : (data_line_of m.form content).numbers ≡ 1 = ap (λ (f : ℕ). (data_line_of f content).numbers) form_is ∙ one in
    omega arith

-- ---- a line that is no line of data

module _ (content : List ℕ) (front : Front) (told : Fronted content front) where
  blank_other : front ≡ Blanks → IsData content → ⊥
  blank_other e d = true≢false (sym (blanks_front content front told e) ∙ d.0)

  opened_other : front ≡ Opening → IsData content → ⊥
  opened_other e d = opening_opens content front told e d.1

-- ---- one line of numbers

next_of : (t : List ℕ) (here end next : ℕ) → end ≡ (line_at comment_byte t here).content → next ≡ (line_at comment_byte t end).next →
    next ≡ (line_at comment_byte t here).next
unfolding line_at
next_of t here end next e f =
    f ∙ ap (past_feed t)
    (ap (run_end (is_before line_feed) t) e
    ∙ run_through (is_content comment_byte) (is_before line_feed) (content_before_feed comment_byte) t here)

module _ (t : List ℕ) (here form values row column : ℕ) (table : List ℕ) where
  -- a line that is not taken
  passed_by_lem : (table' : List ℕ) → length table' ≡ length table → ((IsData (content_at t here) → ⊥) → table' ≡ table) →
      ((m : Matrix) → m.form ≡ form → BrokenLine (content_at t here) m values) → (r : TakenNumbers) →
      r ≡ record { taken = false; values = values; row = row; column = column; next = 0 } → TakesNumbers t here form values row column table r table'
  passed_by_lem table' long kept broken r e =
      rw e
      (record {
        long = long;
        kept = λ (z : false ≡ false). kept;
        broken = λ (z : false ≡ false). broken;
        few = λ (z : false ≡ true). absurd (true≢false (sym z));
        onward = λ (z : false ≡ true). absurd (true≢false (sym z));
        takes = λ (z : false ≡ true). absurd (true≢false (sym z));
      })

  numbers_left : (IsData (content_at t here) → ⊥) → (r : TakenNumbers) → r ≡ record { taken = false; values = values; row = row; column = column; next = 0 } →
      TakesNumbers t here form values row column table r table
  numbers_left other r e =
      passed_by_lem table refl (λ (n : IsData (content_at t here) → ⊥). refl)
      (λ (m : Matrix) (f : m.form ≡ form) (d : IsData (content_at t here)). absurd (other d)) r e

  module _ (front : Front) (told : Fronted (content_at t here) front) where
    pub numbers_blank : front ≡ Blanks → (r : TakenNumbers) → r ≡ record { taken = false; values = values; row = row; column = column; next = 0 } →
        TakesNumbers t here form values row column table r table
    numbers_blank e = numbers_left (blank_other (content_at t here) front told e)

    pub numbers_opened : front ≡ Opening → (r : TakenNumbers) → r ≡ record { taken = false; values = values; row = row; column = column; next = 0 } →
        TakesNumbers t here form values row column table r table
    numbers_opened e = numbers_left (opened_other (content_at t here) front told e)

  module _ (table' : List ℕ) (numbers : Numbers) (read : StagesNumbers form t here table values row column table' numbers) where
    module _ (filled : is_blank_line (content_at t here) ≡ false) (plainly : bracket_of (content_at t here) ≡ Plain) where
      pub numbers_broken : not numbers.staged ≡ true → (r : TakenNumbers) → r ≡ record { taken = false; values = values; row = row; column = column; next = 0 } →
          TakesNumbers t here form values row column table r table'
      numbers_broken bad r e =
          passed_by_lem table' read.long (λ (n : IsData (content_at t here) → ⊥). absurd (n (filled, plainly)))
          (data_broken form (content_at t here) values (read.broken (not-true numbers.staged bad))) r e

      pub numbers_many : not numbers.staged ≡ false → values ≤ most_values → most_values - values < numbers.count → (r : TakenNumbers) →
          r ≡ record { taken = false; values = values; row = row; column = column; next = 0 } → TakesNumbers t here form values row column table r table'
      numbers_many staged few many r e =
          passed_by_lem table' read.long (λ (n : IsData (content_at t here) → ⊥). absurd (n (filled, plainly)))
          (many_broken form (content_at t here) values _ (read.line_is (not-false numbers.staged staged)) (omega arith)) r e

      module _ (not_sparse : form ≡ sparse → ⊥) (staged : numbers.staged ≡ true) (few : values + numbers.count ≤ most_values) where
        abbrev line : DataLine
        line = record { numbers = numbers.count; column = 0; right = true; formed = true; bounded = true }

        module _ (m : Matrix) (form_is : m.form ≡ form) (ordered : is_ordered m ≡ true) (a : Staging) (row_is : a.row ≡ row)
            (column_is : a.column ≡ column) where
          line_read : line ≡ data_line_of m.form (content_at t here)
          line_read = rw form_is (read.line_is staged)

          line_adds : (l : Line) → l.content ≡ content_at t here → key_of l ≡ plain →
              Adds m.form l table values a table' (values + numbers.count) (moved_to numbers.row numbers.column a)
          line_adds l same is_plain = rw form_is (read.adds staged a row_is column_is l same is_plain)

          matrix_stays : m ≡ data_next line m
          unfolding data_next
          matrix_stays = sym (if_false _ _ (ne_eqb _ _ (λ (e : m.form ≡ sparse). not_sparse (sym form_is ∙ e))))

          line_taken : Takes (content_at t here) m values a table
              (record { taken = true; rule = 0; matrix = m; values = values + numbers.count; staging = moved_to numbers.row numbers.column a }) table'
          line_taken =
              stage_goes (content_at t here) filled plainly m values line line_read 0 (rule_kept line m values refl ordered refl refl few) a
              (moved_to numbers.row numbers.column a) table table' few line_adds refl m matrix_stays

        all_taken : (next : ℕ) → next ≡ (line_at comment_byte t numbers.end).next →
            TakesNumbers t here form values row column table
            (record { taken = true; values = values + numbers.count; row = numbers.row; column = numbers.column; next = next }) table'
        all_taken next on =
            record {
              long = read.long;
              kept = λ (z : true ≡ false). absurd (true≢false z);
              broken = λ (z : true ≡ false). absurd (true≢false z);
              few = λ (z : true ≡ true). few;
              onward = λ (z : true ≡ true). next_of t here numbers.end next (read.ends staged) on;
              takes = λ (z : true ≡ true). line_taken;
            }

      pub numbers_taken : (form ≡ sparse → ⊥) → values ≤ most_values → not numbers.staged ≡ false → numbers.count ≤ most_values - values → (next : ℕ) →
          next ≡ (line_at comment_byte t numbers.end).next →
          TakesNumbers t here form values row column table
          (record { taken = true; values = values + numbers.count; row = numbers.row; column = numbers.column; next = next }) table'
      numbers_taken not_sparse most staged few next on = all_taken not_sparse (not-false numbers.staged staged) (omega arith) next on

-- ---- one line of a column and a value

module _ (t : List ℕ) (here values row : ℕ) (table : List ℕ) where
  pair_passed : (table' : List ℕ) → length table' ≡ length table → ((IsData (content_at t here) → ⊥) → table' ≡ table) →
      ((m : Matrix) → m.form ≡ sparse → BrokenLine (content_at t here) m values) → (r : TakenPair) → r ≡ record { taken = false; column = 0; next = 0 } →
      TakesPair t here values row table r table'
  pair_passed table' long kept broken r e =
      rw e
      (record {
        long = long;
        kept = λ (z : false ≡ false). kept;
        broken = λ (z : false ≡ false). broken;
        few = λ (z : false ≡ true). absurd (true≢false (sym z));
        narrow = λ (z : false ≡ true). absurd (true≢false (sym z));
        onward = λ (z : false ≡ true). absurd (true≢false (sym z));
        takes = λ (z : false ≡ true). absurd (true≢false (sym z));
      })

  pair_left : (IsData (content_at t here) → ⊥) → (r : TakenPair) → r ≡ record { taken = false; column = 0; next = 0 } → TakesPair t here values row table r table
  pair_left other r e =
      pair_passed table refl (λ (n : IsData (content_at t here) → ⊥). refl)
      (λ (m : Matrix) (f : m.form ≡ sparse) (d : IsData (content_at t here)). absurd (other d)) r e

  module _ (front : Front) (told : Fronted (content_at t here) front) where
    pub pair_blank : front ≡ Blanks → (r : TakenPair) → r ≡ record { taken = false; column = 0; next = 0 } → TakesPair t here values row table r table
    pair_blank e = pair_left (blank_other (content_at t here) front told e)

    pub pair_opened : front ≡ Opening → (r : TakenPair) → r ≡ record { taken = false; column = 0; next = 0 } → TakesPair t here values row table r table
    pair_opened e = pair_left (opened_other (content_at t here) front told e)

  pub pair_full : most_values ≤ values → (r : TakenPair) → r ≡ record { taken = false; column = 0; next = 0 } → TakesPair t here values row table r table
  pair_full full r e = pair_passed table refl (λ (n : IsData (content_at t here) → ⊥). refl) (full_broken (content_at t here) values full) r e

  module _ (table' : List ℕ) (pair : Pair) (read : StagesPair t here table values row table' pair) (filled : is_blank_line (content_at t here) ≡ false)
      (plainly : bracket_of (content_at t here) ≡ Plain) where
    pub pair_broken : not pair.staged ≡ true → (r : TakenPair) → r ≡ record { taken = false; column = 0; next = 0 } → TakesPair t here values row table r table'
    pair_broken bad r e =
        pair_passed table' read.long (λ (n : IsData (content_at t here) → ⊥). absurd (n (filled, plainly)))
        (data_broken sparse (content_at t here) values (read.broken (not-true pair.staged bad))) r e

    module _ (staged : pair.staged ≡ true) (few : values < most_values) where
      abbrev pair_line : DataLine
      pair_line = record { numbers = 1; column = pair.column; right = true; formed = true; bounded = true }

      module _ (m : Matrix) (form_is : m.form ≡ sparse) (ordered : is_ordered m ≡ true) (a : Staging) (bound : BoundedStaging a values) (row_is : a.row ≡ row) where
        pair_read : pair_line ≡ data_line_of m.form (content_at t here)
        pair_read = rw form_is (read.line_is staged)

        pair_adds : (l : Line) → l.content ≡ content_at t here → key_of l ≡ plain →
            Adds m.form l table values a table' (values + 1) (named_to pair.column a)
        pair_adds l same is_plain = rw form_is (read.adds staged a bound row_is l same is_plain)

        matrix_moves : with_column pair.column m ≡ data_next pair_line m
        unfolding data_next
        matrix_moves = sym (if_true _ _ (eq-eqb _ _ form_is))

        pair_taken_here : Takes (content_at t here) m values a table
            (record { taken = true; rule = 0; matrix = with_column pair.column m; values = values + 1; staging = named_to pair.column a }) table'
        pair_taken_here =
            stage_goes (content_at t here) filled plainly m values pair_line pair_read 0
            (rule_kept pair_line m values refl ordered refl refl (omega arith)) a (named_to pair.column a) table table' (omega arith) pair_adds refl
            (with_column pair.column m) matrix_moves

    pub pair_taken : not pair.staged ≡ false → values < most_values → (next : ℕ) → next ≡ (line_at comment_byte t pair.end).next →
        TakesPair t here values row table (record { taken = true; column = pair.column; next = next }) table'
    pair_taken staged few next on =
        let is_staged : pair.staged ≡ true = not-false pair.staged staged in
        record {
          long = read.long;
          kept = λ (z : true ≡ false). absurd (true≢false z);
          broken = λ (z : true ≡ false). absurd (true≢false z);
          few = λ (z : true ≡ true). few;
          narrow = λ (z : true ≡ true). column_small sparse (content_at t here) _ (read.line_is is_staged);
          onward = λ (z : true ≡ true). next_of t here pair.end next (read.ends is_staged) on;
          takes = λ (z : true ≡ true). pair_taken_here is_staged few;
        }

-- ---- how far a run has come

pub record On (t : List ℕ) (at line : ℕ) (part : Data) (table₀ : List ℕ) (here number : ℕ) (reached : Data) (table : List ℕ) : Type 0 where
  pub gone : (at₀ line₀ : ℕ) (m : Matrix) (values : ℕ) → Gone t at₀ line₀ m values at line part → Gone t at₀ line₀ m values here number reached
  pub left : (n₀ at₀ : ℕ) (first : List ℕ) (values₀ : ℕ) → LeftPart t n₀ at₀ part.matrix.form first values₀ line at part table₀ →
      LeftPart t n₀ at₀ part.matrix.form first values₀ number here reached table
  pub form : reached.matrix.form ≡ part.matrix.form
  pub onward : at ≤ here
  pub long : length table ≡ length table₀
  pub counted : number ≤ here + 1
  pub bounded : BoundedStaging reached.staging reached.values
  pub few : reached.values ≤ most_values

pub runs_now : (t : List ℕ) (at line : ℕ) (part : Data) → at ≤ length t → line ≤ at + 1 → BoundedStaging part.staging part.values →
    part.values ≤ most_values → (b : Bool) → b ≡ is_ordered part.matrix → not b ≡ false → Runs t at line part
runs_now t at line part within counted bounded few b ordered tested =
    record { within = within; counted = counted; bounded = bounded; few = few; ordered = sym ordered ∙ not-false b tested }

-- a run that is not entered: a line of data would break a rule
pub run_none : (t : List ℕ) (at line : ℕ) (part : Data) (table : List ℕ) (b : Bool) → b ≡ is_ordered part.matrix → not b ≡ true →
    ResumesRun t at line part table (record { at = at; line = line; part = part }) table
run_none t at line part table b told tested =
    record {
      gone = λ (at₀ line₀ : ℕ) (m : Matrix) (values : ℕ) (g : Gone t at₀ line₀ m values at line part). g;
      left = λ (other : at < length t → IsData (content_at t at) → ⊥) (n₀ at₀ : ℕ) (first : List ℕ) (values₀ : ℕ)
          (l : LeftPart t n₀ at₀ part.matrix.form first values₀ line at part table). l;
      broken = λ (h : at < length t). unordered_broken part.matrix b told tested (content_at t at) part.values;
      onward = le_refl at;
      long = refl;
    }

-- the state of a run, given by its fields
module _ (t : List ℕ) (at line : ℕ) (part : Data) (table : List ℕ) (runs : Runs t at line part) (reached : Data) (broken : reached.rule ≡ 0)
    (matrix : reached.matrix ≡ part.matrix) (values : reached.values ≡ part.values) (staging : reached.staging ≡ part.staging) where
  again : (at₀ line₀ : ℕ) (m : Matrix) (values₀ : ℕ) → Gone t at₀ line₀ m values₀ at line part → Gone t at₀ line₀ m values₀ at line reached
  again at₀ line₀ m values₀ g =
      record {
        whole = broken;
        crossed = rw (broken, matrix, values) (rw g.whole at g.crossed);
        form = rw matrix g.form;
        few = rw values g.few;
        bounded = rw (staging, values) g.bounded;
      }

  on_start : On t at line part table at line reached table
  on_start =
      record {
        gone = again;
        left = λ (n₀ at₀ : ℕ) (first : List ℕ) (values₀ : ℕ) (l : LeftPart t n₀ at₀ part.matrix.form first values₀ line at part table).
            rw (values, staging) l;
        form = ap (λ (m : Matrix). m.form) matrix;
        onward = le_refl at;
        long = refl;
        counted = runs.counted;
        bounded = rw (staging, values) runs.bounded;
        few = rw values runs.few;
      }

module _ (t : List ℕ) (at line : ℕ) (part : Data) (table₀ : List ℕ) (here number : ℕ) (reached : Data) (table : List ℕ)
    (on : On t at line part table₀ here number reached table) where
  -- one line more
  module _ (h : here < length t) (found : text.Line) (is_found : found ≡ line_at comment_byte t here) (next : Data) (table' : List ℕ)
      (takes : Takes (take (found.content - here) (drop here t)) reached.matrix reached.values reached.staging table next table')
      (taken : next.taken ≡ true) (kept : next.rule ≡ 0) (few : next.values ≤ most_values) (long : length table' ≡ length table) where
    on_next : On t at line part table₀ found.next (number + 1) next table'
    on_next =
        let f : here < found.next = rw is_found (next_on comment_byte t here h) in
        let c : number ≤ here + 1 = on.counted in
        let o : at ≤ here = on.onward in
        record {
          gone = λ (at₀ line₀ : ℕ) (m : Matrix) (values : ℕ) (g : Gone t at₀ line₀ m values at line part).
              gone_next t here number reached table h found is_found next table' takes taken at₀ line₀ m values (on.gone at₀ line₀ m values g) kept;
          left = λ (n₀ at₀ : ℕ) (first : List ℕ) (values₀ : ℕ) (l : LeftPart t n₀ at₀ part.matrix.form first values₀ line at part table₀).
              rw on.form at
              (left_next t here number reached table h found is_found next table' takes taken kept n₀ at₀ first values₀ (rw on.form (on.left n₀ at₀ first values₀ l)));
          form = takes.form ∙ on.form;
          onward = omega arith;
          long = long ∙ on.long;
          counted = omega arith;
          bounded = takes.bounded;
          few = few;
        }

  -- the end of the text
  ended : length t ≤ here → ResumesRun t at line part table₀ (record { at = here; line = number; part = reached }) table
  ended h =
      record {
        gone = on.gone;
        left = λ (other : here < length t → IsData (content_at t here) → ⊥). on.left;
        broken = λ (l : here < length t). absurd (omega arith);
        onward = on.onward;
        long = on.long;
      }

  -- a line that is not part of the run: only a line of data has changed the table
  left_by : (table' : List ℕ) → length table' ≡ length table → ((IsData (content_at t here) → ⊥) → table' ≡ table) →
      BrokenLine (content_at t here) reached.matrix reached.values → here < length t →
      ResumesRun t at line part table₀ (record { at = here; line = number; part = reached }) table'
  left_by table' long kept broken h =
      record {
        gone = on.gone;
        left = λ (other : here < length t → IsData (content_at t here) → ⊥) (n₀ at₀ : ℕ) (first : List ℕ) (values₀ : ℕ)
            (l : LeftPart t n₀ at₀ part.matrix.form first values₀ line at part table₀).
            rw (kept (other h)) (on.left n₀ at₀ first values₀ l);
        broken = λ (l : here < length t). broken;
        onward = on.onward;
        long = long ∙ on.long;
      }

-- ---- a run of lines of numbers

module _ (t : List ℕ) (at line : ℕ) (part : Data) (table₀ : List ℕ) where
  pub numbers_start : Runs t at line part →
      On t at line part table₀ at line (numbers_part part part.values part.staging.row part.staging.column) table₀
  unfolding numbers_part
  numbers_start runs = on_start t at line part table₀ runs _ refl refl refl refl

  module _ (here number values row column : ℕ) (table : List ℕ)
      (on : On t at line part table₀ here number (numbers_part part values row column) table) where
    -- no sum wraps at the line
    pub numbers_row : row ≤ most_given + values
    unfolding numbers_part
    numbers_row = on.bounded.row

    pub numbers_column : column ≤ most_given + values
    unfolding numbers_part
    numbers_column = on.bounded.column

    pub numbers_few : values ≤ most_values
    unfolding numbers_part
    numbers_few = on.few

    pub numbers_end : length t ≤ here → (r : BodyWalk) → r ≡ record { at = here; line = number; part = numbers_part part values row column } →
        ResumesRun t at line part table₀ r table
    numbers_end h r e = rw e (ended t at line part table₀ here number (numbers_part part values row column) table on h)

    module _ (next : TakenNumbers) (table' : List ℕ)
        (takes : TakesNumbers t here part.matrix.form values row column table next table') where
      pub numbers_leave : here < length t → not next.taken ≡ true → (r : BodyWalk) →
          r ≡ record { at = here; line = number; part = numbers_part part values row column } → ResumesRun t at line part table₀ r table'
      unfolding numbers_part
      numbers_leave h left r e =
          rw e
          (left_by t at line part table₀ here number _ table on table' takes.long (takes.kept (not-true next.taken left))
          (takes.broken (not-true next.taken left) part.matrix refl) h)

      pub numbers_less : here < length t → not next.taken ≡ false → length t - next.next < length t - here
      numbers_less h left =
          let f : here < next.next = rw (takes.onward (not-false next.taken left)) (next_on comment_byte t here h) in
          omega arith

      pub numbers_next : here < length t → not next.taken ≡ false → is_ordered part.matrix ≡ true →
          On t at line part table₀ next.next (number + 1) (numbers_part part next.values next.row next.column) table'
      unfolding numbers_part
      numbers_next h left ordered =
          let taken : next.taken ≡ true = not-false next.taken left in
          rw (takes.onward taken)
          (on_next t at line part table₀ here number _ table on h (line_at comment_byte t here) refl _ table'
          (takes.takes taken part.matrix refl ordered (numbers_part part values row column).staging refl refl) refl refl (takes.few taken) takes.long)

-- ---- a run of lines of a Sparse_matrix

module _ (t : List ℕ) (at line : ℕ) (part : Data) (table₀ : List ℕ) where
  abbrev reached_pairs : ℕ → ℕ → ℕ → Bool → ℕ → Data
  reached_pairs values least greatest fits named = pairs_part part values (pairs_matrix part.matrix least greatest fits) named

  pub pairs_start : Runs t at line part →
      On t at line part table₀ at line
      (pairs_part part part.values
      (pairs_matrix part.matrix part.matrix.rows.least part.matrix.rows.greatest part.matrix.rows.fits) part.staging.greatest)
      table₀
  unfolding pairs_part pairs_matrix
  pairs_start runs = on_start t at line part table₀ runs _ refl refl refl refl

  module _ (here number values least greatest : ℕ) (fits : Bool) (named : ℕ) (table : List ℕ)
      (on : On t at line part table₀ here number (pairs_part part values (pairs_matrix part.matrix least greatest fits) named) table) where
    pub pairs_row : part.staging.row ≤ most_given + values
    unfolding pairs_part
    pairs_row = on.bounded.row

    pub pairs_end : length t ≤ here → (m : Matrix) → m ≡ pairs_matrix part.matrix least greatest fits → (r : BodyWalk) →
        r ≡ record { at = here; line = number; part = pairs_part part values m named } → ResumesRun t at line part table₀ r table
    pairs_end h m is r e = rw (e, is) (ended t at line part table₀ here number _ table on h)

    module _ (next : TakenPair) (table' : List ℕ) (takes : TakesPair t here values part.staging.row table next table') where
      pub pairs_long : length table' ≡ length table₀
      pairs_long = takes.long ∙ on.long

      pub pairs_leave : here < length t → part.matrix.form ≡ sparse → not next.taken ≡ true → (m : Matrix) → m ≡ pairs_matrix part.matrix least greatest fits →
          (r : BodyWalk) → r ≡ record { at = here; line = number; part = pairs_part part values m named } → ResumesRun t at line part table₀ r table'
      unfolding pairs_part pairs_matrix
      pairs_leave h form_is left m is r e =
          rw (e, is)
          (left_by t at line part table₀ here number _ table on table' takes.long (takes.kept (not-true next.taken left))
          (takes.broken (not-true next.taken left) (pairs_matrix part.matrix least greatest fits) form_is) h)

      module _ (left : not next.taken ≡ false) where
        -- no sum wraps after the line
        pub pairs_values : Fits w64 (values + 1)
        pairs_values = let few : values < most_values = takes.few (not-false next.taken left) in omega arith

        pub pairs_column : Fits w64 (next.column + 1)
        pairs_column = let narrow : next.column < 4_294_967_296 = takes.narrow (not-false next.taken left) in omega arith

        pub pairs_less : here < length t → length t - next.next < length t - here
        pairs_less h =
            let f : here < next.next = rw (takes.onward (not-false next.taken left)) (next_on comment_byte t here h) in
            omega arith

        moved : part.matrix.form ≡ sparse → is_ordered part.matrix ≡ true → here < length t →
            On t at line part table₀ next.next (number + 1)
            (pairs_part part (values + 1)
            (pairs_matrix part.matrix (next.column + 1) (max greatest next.column) (both fits (leb least next.column)))
            (max named next.column)) table'
        unfolding pairs_part pairs_matrix with_column is_ordered
        moved form_is ordered h =
            let taken : next.taken ≡ true = not-false next.taken left in
            let few : values < most_values = takes.few taken in
            let more : values + 1 ≤ most_values = omega arith in
            rw (takes.onward taken)
            (on_next t at line part table₀ here number _ table on h (line_at comment_byte t here) refl _ table'
            (takes.takes taken (pairs_matrix part.matrix least greatest fits) form_is ordered (reached_pairs values least greatest fits named
            ).staging on.bounded refl) refl refl more takes.long)

        pub pairs_next : part.matrix.form ≡ sparse → is_ordered part.matrix ≡ true → here < length t →
            (greatest' : ℕ) → greatest' ≡ max greatest next.column →
            (named' : ℕ) → named' ≡ max named next.column →
            On t at line part table₀ next.next (number + 1)
            (pairs_part part (values + 1) (pairs_matrix part.matrix (next.column + 1) greatest' (fits && leb least next.column)) named') table'
        pairs_next form_is ordered h greatest' g named' n = rw (sym (both_and fits (leb least next.column)), g, n) (moved form_is ordered h)

-- ---- a run, and the line after it

-- how far the lines of a matrix are judged and staged
pub record Passed (t : List ℕ) (at line : ℕ) (m : Matrix) (values : ℕ) (table₀ : List ℕ) (here number : ℕ) (part : Data) (table : List ℕ) : Type 0 where
  pub gone : Gone t at line m values here number part
  pub left : LeftPart t line at m.form table₀ values number here part table
  pub long : length table ≡ length table₀
  pub began : line ≤ at + 1

pub passed_start : (t : List ℕ) (at line : ℕ) (m : Matrix) (values : ℕ) (table : List ℕ) → at ≤ length t → line ≤ at + 1 → values ≤ most_values → (a : Staging) → a ≡ new_staging →
    Passed t at line m values table at line (record { taken = true; rule = 0; matrix = m; values = values; staging = a }) table
passed_start t at line m values table within began few a new =
    record { gone = gone_start t at line m values a new within few; left = left_start t at line m values a new table; long = refl; began = began }

module _ (t : List ℕ) (at line : ℕ) (m : Matrix) (values : ℕ) (table₀ : List ℕ) (here number : ℕ) (part : Data) (table : List ℕ)
    (passed : Passed t at line m values table₀ here number part table) where
  pub passed_counted : number ≤ here + 1
  passed_counted =
      let c : number + at ≤ line + here = passed.gone.crossed.counted in
      let b : line ≤ at + 1 = passed.began in
      omega arith

  pub passed_ends : length t ≤ here → ResumesMatrix t at line m values table₀ (record { at = here; line = number; part = part }) table
  passed_ends h =
      record {
        crossed = passed.gone.crossed;
        long = passed.long;
        ends = λ (z : part.rule ≡ 0) (l : here < length t). absurd (omega arith);
        left = λ (z : part.rule ≡ 0). passed.left;
      }

  module _ (r : BodyWalk) (table₁ : List ℕ) (leads : ResumesRun t here number part table r table₁) where
    run_gone : Gone t at line m values r.at r.line r.part
    run_gone = leads.gone at line m values passed.gone

    pub run_long : length table₁ ≡ length table₀
    run_long = leads.long ∙ passed.long

    -- one line more can be counted
    pub run_fits : r.at < length t → length t * 1 < 2 ^ 63 → Fits w64 (r.line + 1)
    run_fits h small =
        let c : r.line + at ≤ line + r.at = run_gone.crossed.counted in
        let b : line ≤ at + 1 = passed.began in
        omega arith

    pub run_bounded : BoundedStaging r.part.staging r.part.values
    run_bounded = run_gone.bounded

    run_left : (r.at < length t → IsData (content_at t r.at) → ⊥) → LeftPart t line at m.form table₀ values r.line r.at r.part table₁
    run_left other = rw passed.gone.form at (leads.left other line at table₀ values (rw passed.gone.form passed.left))

    pub run_ends : length t ≤ r.at → ResumesMatrix t at line m values table₀ (record { at = r.at; line = r.line; part = r.part }) table₁
    run_ends h =
        record {
          crossed = run_gone.crossed;
          long = run_long;
          ends = λ (z : r.part.rule ≡ 0) (l : r.at < length t). absurd (omega arith);
          left = λ (z : r.part.rule ≡ 0). run_left (λ (l : r.at < length t) (d : IsData (content_at t r.at)). absurd (omega arith));
        }

    module _ (h : r.at < length t) (found : text.Line) (is_found : found ≡ line_at comment_byte t r.at) where
      pub run_less : length t - found.next < length t - here
      run_less =
          let f : r.at < found.next = rw is_found (next_on comment_byte t r.at h) in
          let o : here ≤ r.at = leads.onward in
          omega arith

      -- if it is a line of data, it breaks a rule
      pub run_broken : BrokenLine (take (found.content - r.at) (drop r.at t)) r.part.matrix r.part.values
      run_broken = subst (λ (x : text.Line). BrokenLine (take (x.content - r.at) (drop r.at t)) r.part.matrix r.part.values) (sym is_found) (leads.broken h)

      module _ (next : Data)
          (takes : TakesAlone (take (found.content - r.at) (drop r.at t)) r.part.matrix r.part.values r.part.staging next) where
        others : next.rule ≡ 0 → r.at < length t → IsData (content_at t r.at) → ⊥
        others z l = subst (λ (x : text.Line). IsData (take (x.content - r.at) (drop r.at t)) → ⊥) is_found (takes.other z)

        pub run_leaves : not next.taken ≡ true → ResumesMatrix t at line m values table₀ (record { at = r.at; line = r.line; part = r.part }) table₁
        run_leaves left =
            let e : Ends (content_at t r.at) =
            ends_here t r.at r.line r.part table₁ h found is_found next table₁ (takes.takes table₁) (not-true next.taken left) in
            record {
              crossed = run_gone.crossed;
              long = run_long;
              ends = λ (z : r.part.rule ≡ 0) (l : r.at < length t). e;
              left = λ (z : r.part.rule ≡ 0). run_left (λ (l : r.at < length t) (d : IsData (content_at t r.at)). e.opens d.1);
            }

        module _ (taken : not next.taken ≡ false) where
          pub run_stops : (next.rule ≡ 0 → ⊥) → ResumesMatrix t at line m values table₀ (record { at = found.next; line = r.line; part = next }) table₁
          run_stops broken =
              gone_stops t r.at r.line r.part table₁ h found is_found next table₁ (takes.takes table₁) (not-false next.taken taken)
              at line m values run_gone broken table₀ run_long

          pub run_on : next.rule ≡ 0 → Passed t at line m values table₀ found.next (r.line + 1) next table₁
          run_on kept =
              record {
                gone = gone_next t r.at r.line r.part table₁ h found is_found next table₁ (takes.takes table₁) (not-false next.taken taken)
                    at line m values run_gone kept;
                left = rw run_gone.form at
                    (left_next t r.at r.line r.part table₁ h found is_found next table₁ (takes.takes table₁) (not-false next.taken taken) kept
                    line at table₀ values (rw run_gone.form (run_left (others kept))));
                long = run_long;
                began = passed.began;
              }
