-- Laws of one line that is staged: its numbers are stored as the document says, whatever lines come after it.
-- Assumes nothing.
use Rattle.std.proofs.Common.{is_some, unwrap_or, Option, None, Some, Ok, Err, is_err}
use mathlib.Core.Path.{◌≡◌, refl, sym, ◌∙◌, ap}
use mathlib.Core.Bool.{Bool, true, false, not, true≢false}
use mathlib.Core.List.{List, [], ◌∷◌, ◌++◌, append_assoc}
use Prim.Native.Nat.{ℕ, suc, ◌+◌, ◌-◌, ◌*◌, ◌^◌, ◌≤◌, ◌<◌, max}
use mir.Syntax.{w64}
use mir.Val.{Fits}
use native.Mathlib.Nat.{add_assoc}
use native.Mathlib.Omega.{arith}
use lib.ListN.{length, take, drop, get_or}
use lib.Seq.{sets, length-sets}
use lib.Dec.{ltb, leb, eqb}
use borrow.Author.Tests.{eq-eqb, ne_eqb, eqb-true, leb-true, leb-false, le-leb, lt-leb, ltb-true, not-true, not-false}
use Rattle.table_record.specs.Records.{value_words}
use Rattle.table_record.specs.Way.Stage.{put_at}
use Rattle.table_record.specs.declared.Value.{Value}
use Rattle.table_record.proofs.StageLaws.{held_same, held_one}
use Rattle.table_layout.specs.Codes.{sparse}
use Rattle.table_layout.specs.Layout.{value_width}
use Rattle.table_layout.specs.Bounds.{most_values, most_conductors}
use Rattle.base.specs.If.{both, either}
use Rattle.base.specs.Bytes.{is_blank, is_digit, is_capital, is_small, is_letter, within}
use Rattle.base.specs.Runs.{run}
use Rattle.base.specs.Way.Class.{run_end}
use Rattle.base.proofs.IfLaws.{if_true, if_false, by_cases, by_test, both_true, both_first, both_second, both_not_left, both_not_right}
use Rattle.base.proofs.RunLaws.{run_ends}
use Rattle.lex_line.specs.Way.LineEnds.{line_at, content_at}
use Rattle.lex_line.specs.Words.{words, first_of, second_of}
use Rattle.lex_line.specs.Lines.{comment_byte}
use Rattle.lex_number.specs.Number.{is_sign, number_of, is_formed, is_bounded, word_in, Number}
use Rattle.lex_number.specs.Integer.{whole_of, is_whole_within}
use Rattle.lex_number.specs.Way.In.{is_word, is_spelling, is_good_number, number_in}
use Rattle.lex_number.specs.declared.NumberError.TheVariants.{Malformed, Range}
use Rattle.lex_number.specs.declared.NumberAt.{NumberAt}
use Rattle.line_matrix.specs.Matrix.{number_check, are_formed, are_bounded, numbers_line, sparse_line, data_line_of}
use Rattle.line_matrix.specs.declared.DataLine.{DataLine}
use Rattle.doc.specs.Lines.{Line, plain, key_of}
use Rattle.doc.specs.Document.{next_row, numbers_at, sparse_at, values_from, bandwidth_in, greatest_in}
use Rattle.read_numbers.specs.declared.Cursor.{Cursor}
use Rattle.read_numbers.specs.declared.Staging.{Staging}
use Rattle.read_numbers.specs.declared.Numbers.{Numbers}
use Rattle.read_numbers.specs.declared.Pair.{Pair}
use Rattle.read_numbers.specs.Way.Numbers.{most_given, value_of, row_after, Points, PutsValue, Movable, PutsNumber, passed_by}
use Rattle.read_numbers.specs.Way.Staging.{HeldValues, BoundedStaging, Adds, BrokenData, moved_to, named_to, StagesNumbers, StagesPair}
use Rattle.read_numbers.specs.Way.Steps.{numbers_result, Stored, Stores, pair_of}
use Rattle.read_numbers.proofs.InTextLaws.{ends_here, no_words, one_word, same_end, word_on}
use Rattle.read_numbers.proofs.GivenLaws.{
  row_on,
  row_same,
  row_most,
  plain_bandwidth,
  sparse_values,
  sparse_greatest,
  numbers_values,
  numbers_greatest,
  most_of,
  whole_below,
}

-- ---- a line that gives these values, and leads on to the values of the next lines

module _ (table : List ℕ) (values : ℕ) (table' : List ℕ) (vs : List Value) (count : ℕ)
    (stored : (whole rest : List Value) → HeldValues whole table values (vs ++ rest) → HeldValues whole table' (values + count) rest)
    (form : ℕ) (a b : Staging) (told : b.bandwidth ≡ a.bandwidth) (bounded : BoundedStaging b (values + count)) where
  added : (l : Line) → key_of l ≡ plain →
      ((ls : List Line) → values_from form a.row a.column (l ∷ ls) ≡ vs ++ values_from form b.row b.column ls) →
      ((ls : List Line) → max b.greatest (greatest_in form ls) ≡ max a.greatest (greatest_in form (l ∷ ls))) →
      Adds form l table values a table' (values + count) b
  added l is_plain more greatest =
      record {
        held = λ (ls : List Line) (whole rest : List Value) (h : HeldValues whole table values (values_from form a.row a.column (l ∷ ls) ++ rest)).
            stored whole (values_from form b.row b.column ls ++ rest)
            (held_same value_words value_width whole table values _ h _
            (ap (λ (x : List Value). x ++ rest) (more ls) ∙ append_assoc vs (values_from form b.row b.column ls) rest));
        bandwidth = λ (ls : List Line). ap (λ (f : Option ℕ). unwrap_or f (bandwidth_in ls)) told
            ∙ ap (unwrap_or a.bandwidth) (sym (plain_bandwidth form l ls is_plain));
        greatest = greatest;
        bounded = bounded;
      }

-- ---- one value

value_wide : (v : Value) → length (value_words v) ≡ value_width
value_wide v = refl

-- no room
value_none : (place : ℕ) (v : Value) (table : List ℕ) → length table < place + value_width → PutsValue place v table place table
unfolding put_at
value_none place v table h =
    record {
      long = refl;
      stored = λ (n : ℕ) (p : Points (length table) n place).
          let f : place ≤ value_width * n = p.few in
          sym (if_false _ _ (lt-leb (value_width * n + value_width) (length table) (omega arith)));
      points = λ (n : ℕ) (p : Points (length table) n place).
          let f : place ≤ value_width * n = p.few in
          record { few = omega arith; exact = λ (r : place + value_width ≤ length table). absurd (omega arith) };
    }

-- whether there is room is asked before
pub room_there : (place size : ℕ) (free : Bool) → free ≡ leb (place + value_width) size → free ≡ true → place + value_width ≤ size
room_there place size free told e = leb-true (place + value_width) size (sym told ∙ e)

module _ (place : ℕ) (table : List ℕ) (h : place + value_width ≤ length table) where
  pub value_fits : length table * 8 < 2 ^ 63 → Fits w64 (place + value_width)
  value_fits small = omega arith

  value_some : (v : Value) (table' : List ℕ) → table' ≡ sets table place (value_words v) → PutsValue place v table (place + value_width) table'
  unfolding put_at
  value_some v table' stored =
      record {
        long = ap length stored ∙ length-sets table place (value_words v);
        stored = λ (n : ℕ) (p : Points (length table) n place).
            let e : place ≡ value_width * n = p.exact h in
            stored ∙ ap (λ (k : ℕ). sets table k (value_words v)) e
            ∙ sym (if_true _ _ (le-leb (value_width * n + value_width) (length table) (omega arith)));
        points = λ (n : ℕ) (p : Points (length table) n place).
            let e : place ≡ value_width * n = p.exact h in
            record { few = omega arith; exact = λ (r : place + value_width + value_width ≤ length table). omega arith };
      }

-- ---- one number

module _ (form : ℕ) (number : Number) (table : List ℕ) (c : Cursor) (word : ℕ) (word_is : word ≡ word_in number) where
  pub number_put : c.place + value_width ≤ length table → (table' : List ℕ) →
      table' ≡ sets table c.place (value_words (record { row = c.row; column = c.column; word = word })) → (row : ℕ) → row ≡ next_row form c.row →
      PutsNumber form number table c (record { row = row; column = c.column + 1; count = c.count + 1; place = c.place + value_width }) table'
  number_put room table' stored row is_row =
      record { row_is = is_row; column_is = refl; count_is = refl; puts = rw word_is at (value_some c.place table room _ table' stored) }

step_left : (form row column : ℕ) (w : List ℕ) (ws : List (List ℕ)) (rest : List Value) (number : Number) → number ≡ number_of w →
    numbers_at form row column (w ∷ ws) ++ rest ≡ value_of row column number ∷ (numbers_at form (next_row form row) (column + 1) ws ++ rest)
unfolding numbers_at
step_left form row column w ws rest number e =
    ap (λ (x : Number). value_of row column x ∷ (numbers_at form (next_row form row) (column + 1) ws ++ rest)) (sym e)

none_left : (form row column : ℕ) (rest : List Value) → numbers_at form row column [] ++ rest ≡ rest
unfolding numbers_at
none_left form row column rest = refl

-- no number is written with the comment byte
pub pipe_spells_nothing : is_spelling comment_byte ≡ false
unfolding is_spelling is_digit is_letter is_capital is_small is_sign within both either
pipe_spells_nothing = refl

-- ---- room

pub no_room : (place words : ℕ) → words < place → false ≡ leb (place + value_width) words
no_room place words h = sym (lt-leb (place + value_width) words (omega arith))

pub some_room : (place words : ℕ) → place ≤ words → leb value_width (words - place) ≡ leb (place + value_width) words
some_room place words h =
    by_cases _ (leb value_width (words - place))
    (λ (e : leb value_width (words - place) ≡ true).
    let k : value_width ≤ words - place = leb-true value_width (words - place) e in
    e ∙ sym (le-leb (place + value_width) words (omega arith)))
    (λ (e : leb value_width (words - place) ≡ false).
    let k : words - place < value_width = leb-false value_width (words - place) e in
    e ∙ sym (lt-leb (place + value_width) words (omega arith)))

-- ---- the numbers of a line, one after another

formed_on : (w : List ℕ) (ws : List (List ℕ)) → is_formed (number_of w) ≡ true → are_formed (w ∷ ws) ≡ are_formed ws
unfolding are_formed number_check both
formed_on w ws e = rw e refl

bounded_on : (w : List ℕ) (ws : List (List ℕ)) → is_bounded (number_of w) ≡ true → are_bounded (w ∷ ws) ≡ are_bounded ws
unfolding are_bounded number_check both
bounded_on w ws e = rw e refl

none_formed : are_formed [] ≡ true
unfolding are_formed
none_formed = refl

none_bounded : are_bounded [] ≡ true
unfolding are_bounded
none_bounded = refl

-- a number is an error or within its bounds
error_told : (n : Number) (error : Bool) → error ≡ is_err n → error ≡ true → is_good_number n ≡ false
error_told (Ok w) error told e = absurd (true≢false (sym e ∙ told))
error_told (Err why) error told e = refl

value_told : (n : Number) (error : Bool) → error ≡ is_err n → error ≡ false → is_good_number n ≡ true
value_told (Ok w) error told e = refl
value_told (Err why) error told e = absurd (true≢false (sym told ∙ e))

value_formed : (n : Number) → is_good_number n ≡ true → is_formed n ≡ true
value_formed (Ok w) e = refl
value_formed (Err Malformed) e = e
value_formed (Err Range) e = refl

value_bounded : (n : Number) → is_good_number n ≡ true → is_bounded n ≡ true
value_bounded (Ok w) e = refl
value_bounded (Err Malformed) e = refl
value_bounded (Err Range) e = e

-- a word that is no value: the line is not formed, or not within its bounds
not_value : (n : Number) → is_good_number n ≡ false → both (is_formed n) (is_bounded n) ≡ false
unfolding both
not_value (Ok w) e = absurd (true≢false e)
not_value (Err Malformed) e = refl
not_value (Err Range) e = refl

both_down : (a b c d : Bool) → both a c ≡ false → both (both a b) (both c d) ≡ false
unfolding both
both_down true b true d e = absurd (true≢false e)
both_down true b false d e = both_not_right b false refl
both_down false b c d e = refl

not_formed_on : (w : List ℕ) (ws : List (List ℕ)) → both (is_formed (number_of w)) (is_bounded (number_of w)) ≡ false →
    both (are_formed (w ∷ ws)) (are_bounded (w ∷ ws)) ≡ false
unfolding are_formed are_bounded number_check
not_formed_on w ws e = both_down (is_formed (number_of w)) (are_formed ws) (is_bounded (number_of w)) (are_bounded ws) e

-- from `from` on some numbers are read, and the cursor has come to `at`: the numbers that are left give what all of them
-- give
pub record Left (form : ℕ) (t : List ℕ) (from : ℕ) (table₀ : List ℕ) (values row₀ column₀ at : ℕ) (c : Cursor) (table : List ℕ) : Type 0 where
  pub counted : c.count + length (words (content_at t at)) ≡ length (words (content_at t from))
  pub formed : are_formed (words (content_at t at)) ≡ are_formed (words (content_at t from))
  pub bounded : are_bounded (words (content_at t at)) ≡ are_bounded (words (content_at t from))
  pub held : (whole rest : List Value) →
      HeldValues whole table₀ values (numbers_at form row₀ column₀ (words (content_at t from)) ++ rest) →
      HeldValues whole table (values + c.count) (numbers_at form c.row c.column (words (content_at t at)) ++ rest)
  pub row : row_after form c.row (length (words (content_at t at))) ≡ row_after form row₀ (length (words (content_at t from)))
  pub row_few : c.row ≤ row₀ + c.count
  pub column : c.column ≡ column₀ + c.count
  pub points : Points (length table) (values + c.count) c.place
  pub long : length table ≡ length table₀
  -- each number takes a byte, so that no count wraps
  pub taken : c.count + from ≤ at
  pub ends : (line_at comment_byte t at).content ≡ (line_at comment_byte t from).content

pub left_start : (form : ℕ) (t : List ℕ) (from : ℕ) (table : List ℕ) (values row column : ℕ) →
    Left form t from table values row column from (record { row = row; column = column; count = 0; place = value_width * values }) table
left_start form t from table values row column =
    let z : values + 0 ≡ values = omega arith in
    record {
      counted = omega arith;
      formed = refl;
      bounded = refl;
      held = λ (whole rest : List Value) (h : HeldValues whole table values (numbers_at form row column (words (content_at t from)) ++ rest)). rw z h;
      row = refl;
      row_few = omega arith;
      column = omega arith;
      points = record { few = omega arith; exact = λ (r : value_width * values + value_width ≤ length table). omega arith };
      long = refl;
      taken = omega arith;
      ends = refl;
    }

module _ (form : ℕ) (t : List ℕ) (from : ℕ) (table₀ : List ℕ) (values row column at : ℕ) (c : Cursor) (table : List ℕ)
    (left : Left form t from table₀ values row column at c table) where
  module _ (start : ℕ) (begins : start ≡ run_end is_blank t at) (there : Bool)
      (told_there : there ≡ both (ltb start (length t)) (is_word comment_byte (get_or t start 0))) where
    -- the line ends here
    module _ (tested : not there ≡ true) where
      none : both (ltb start (length t)) (is_word comment_byte (get_or t start 0)) ≡ false
      none = sym told_there ∙ not-true there tested

      none_words : words (content_at t at) ≡ []
      none_words = no_words t at start begins none

      none_length : length (words (content_at t at)) ≡ 0
      none_length = ap length none_words

      all_counted : c.count ≡ length (words (content_at t from))
      all_counted =
          let a : c.count + length (words (content_at t at)) ≡ length (words (content_at t from)) = left.counted in
          let z : length (words (content_at t at)) ≡ 0 = none_length in
          omega arith

      all_held : (whole rest : List Value) → HeldValues whole table₀ values (numbers_at form row column (words (content_at t from)) ++ rest) →
          HeldValues whole table (values + c.count) rest
      all_held whole rest h =
          held_same value_words value_width whole table (values + c.count) _ (left.held whole rest h) rest
          (ap (λ (ws : List (List ℕ)). numbers_at form c.row c.column ws ++ rest) none_words ∙ none_left form c.row c.column rest)

      all_told : Stored form (words (content_at t from)) table₀ values row column table (record {
        staged = true;
        count = c.count;
        row = c.row;
        column = c.column;
        end = start;
      })
      all_told =
          record {
            counted = all_counted;
            formed = sym left.formed ∙ ap are_formed none_words ∙ none_formed;
            bounded = sym left.bounded ∙ ap are_bounded none_words ∙ none_bounded;
            held = all_held;
            row_is = sym (row_same form c.row _ none_length) ∙ left.row;
            column_is = left.column ∙ ap (λ (k : ℕ). column + k) all_counted;
            row_few = left.row_few;
          }

      pub left_done : (r : Numbers) → r ≡ numbers_result true c start → Stores form t from table₀ values row column table r
      unfolding numbers_result
      left_done r e =
          rw e
          (record {
            long = left.long;
            ends = λ (w : true ≡ true). ends_here t at start begins none ∙ left.ends;
            told = λ (w : true ≡ true). all_told;
            broken = λ (w : true ≡ false). absurd (true≢false w);
          })

    -- one number more
    module _ (tested : not there ≡ false) (read : NumberAt) (told : read ≡ number_in comment_byte t start) where
      stands : both (ltb start (length t)) (is_word comment_byte (get_or t start 0)) ≡ true
      stands = sym told_there ∙ not-false there tested

      end_is : read.end ≡ run_end (is_word comment_byte) t start
      unfolding number_in
      end_is = ap (λ (r : NumberAt). r.end) told

      abbrev word : List ℕ
      word = take (read.end - start) (drop start t)

      number_is : read.number ≡ number_of word
      unfolding number_in
      number_is =
          let e : read.end ≡ run_end (is_word comment_byte) t start = end_is in
          let n : read.end - start ≡ run (is_word comment_byte) (drop start t) = omega arith in
          rw n (ap (λ (r : NumberAt). r.number) told)

      here : words (content_at t at) ≡ word ∷ words (content_at t read.end)
      here = one_word t at start begins stands read.end end_is

      pub left_less : length t - read.end < length t - at
      left_less =
          let h : at < read.end = word_on t at start begins stands read.end end_is in
          let g : start < length t = ltb-true start (length t) (both_first _ _ stands) in
          omega arith

      -- no sum wraps
      pub left_movable : row ≤ most_given + values → column ≤ most_given + values → values ≤ most_values → length t * 1 < 2 ^ 63 → Movable c
      left_movable row_few column_few few small =
          let f : start < length t = ltb-true start (length t) (both_first _ _ stands) in
          let g : c.row ≤ row + c.count = left.row_few in
          let k : c.column ≡ column + c.count = left.column in
          let p : c.count + from ≤ at = left.taken in
          record { row_few = omega arith; column_few = omega arith; count_few = omega arith }

      module _ (error : Bool) (told_error : error ≡ is_err read.number) where
        -- a word that is no value
        pub left_broken : error ≡ true → (r : Numbers) → r ≡ numbers_result false c start → Stores form t from table₀ values row column table r
        unfolding numbers_result
        left_broken bad r e =
            rw e
            (record {
              long = left.long;
              ends = λ (w : false ≡ true). absurd (true≢false (sym w));
              told = λ (w : false ≡ true). absurd (true≢false (sym w));
              broken = λ (w : false ≡ false).
                  rw (sym left.formed, sym left.bounded, here)
                  (not_formed_on word (words (content_at t read.end))
                  (rw number_is at (not_value read.number (error_told read.number error told_error bad))));
            })

        module _ (fine : error ≡ false) (c' : Cursor) (table' : List ℕ) (put : PutsNumber form read.number table c c' table') where
          is_value_lem : is_good_number read.number ≡ true
          is_value_lem = value_told read.number error told_error fine

          one_held : (whole rest : List Value) →
              HeldValues whole table₀ values (numbers_at form row column (words (content_at t from)) ++ rest) →
              HeldValues whole table' (values + (c.count + 1)) (numbers_at form (next_row form c.row) (c.column + 1) (words (content_at t read.end)) ++ rest)
          one_held whole rest h =
              rw (sym (add_assoc values c.count 1))
              (held_one value_words value_width whole table (values + c.count) _ (left.held whole rest h) value_wide
              (value_of c.row c.column read.number) _
              (ap (λ (ws : List (List ℕ)). numbers_at form c.row c.column ws ++ rest) here
              ∙ step_left form c.row c.column word (words (content_at t read.end)) rest read.number number_is)
              table' (put.puts.stored (values + c.count) left.points))

          pub left_on : Left form t from table₀ values row column read.end c' table'
          left_on =
              let f : c.row ≤ row + c.count = left.row_few in
              let g : next_row form c.row ≤ c.row + 1 = row_most form c.row in
              let h : c.column ≡ column + c.count = left.column in
              let n : length (words (content_at t at)) ≡ suc (length (words (content_at t read.end))) = ap length here in
              let m : c.count + length (words (content_at t at)) ≡ length (words (content_at t from)) = left.counted in
              let o : at < read.end = word_on t at start begins stands read.end end_is in
              let p : c.count + from ≤ at = left.taken in
              let x : c'.row ≡ next_row form c.row = put.row_is in
              let y : c'.column ≡ c.column + 1 = put.column_is in
              let z : c'.count ≡ c.count + 1 = put.count_is in
              record {
                counted = omega arith;
                formed =
                    sym (formed_on word (words (content_at t read.end)) (rw number_is at (value_formed read.number is_value_lem)))
                    ∙ sym (ap are_formed here) ∙ left.formed;
                bounded =
                    sym (bounded_on word (words (content_at t read.end)) (rw number_is at (value_bounded read.number is_value_lem)))
                    ∙ sym (ap are_bounded here) ∙ left.bounded;
                held = rw (x, y, z) one_held;
                row = ap (λ (k : ℕ). row_after form k (length (words (content_at t read.end)))) x ∙ row_on form c.row _
                    ∙ ap (row_after form c.row) (sym n) ∙ left.row;
                row_few = omega arith;
                column = omega arith;
                points = rw (put.puts.long, z, sym (add_assoc values c.count 1)) (put.puts.points (values + c.count) left.points);
                long = put.puts.long ∙ left.long;
                taken = omega arith;
                ends = same_end t at start begins stands read.end end_is ∙ left.ends;
              }

-- ---- a number read in two passes

pub plain_is : (t : List ℕ) (start end : ℕ) → end ≡ run_end (is_word comment_byte) t start → (read : Number) → read ≡ number_of (take (end - start) (drop start t)) →
    record { number = read; end = end } ≡ number_in comment_byte t start
unfolding number_in
plain_is t start end ends read is =
    let n : end - start ≡ run (is_word comment_byte) (drop start t) = omega arith in
    let same : read ≡ number_of (take (run (is_word comment_byte) (drop start t)) (drop start t)) = is ∙ ap (λ (k : ℕ). number_of (take k (drop start t))) n in
    λ i. record { number = same i; end = ends i }

pub word_there : (t : List ℕ) (start : ℕ) (there : Bool) → there ≡ both (ltb start (length t)) (is_word comment_byte (get_or t start 0)) → not there ≡ false → start < length t
word_there t start there told tested = ltb-true start (length t) (both_first _ _ (sym told ∙ not-false there tested))

-- ---- from the first number on that finds no room

-- a number that is left out
number_passed : (form : ℕ) (number : Number) (table : List ℕ) (c : Cursor) → length table < c.place + value_width → PutsNumber form number table c (passed_by form c) table
number_passed form number table c full = record { row_is = refl; column_is = refl; count_is = refl; puts = value_none c.place _ table full }

-- each number takes a byte, so that no sum wraps
pub record Countable (t : List ℕ) (at : ℕ) (c : Cursor) : Type 0 where
  pub row : at < length t → c.row + (length t - at) < 18_446_744_073_709_551_615
  pub column : at < length t → c.column + (length t - at) < 18_446_744_073_709_551_615
  pub count : at < length t → c.count + (length t - at) < 18_446_744_073_709_551_615

-- from the cursor c₀ at `at₀` on, without room, the numbers up to `at` are judged
pub record Passes (form : ℕ) (t : List ℕ) (at₀ : ℕ) (c₀ : Cursor) (at : ℕ) (c : Cursor) : Type 0 where
  pub on : (from : ℕ) (table₀ table : List ℕ) (values row column : ℕ) → Left form t from table₀ values row column at₀ c₀ table →
      length table < c₀.place + value_width → Left form t from table₀ values row column at c table
  pub stays : c.place ≡ c₀.place
  pub countable : Countable t at c

-- the numbers that are left are so few that no sum wraps, wherever they begin
left_countable : (form : ℕ) (t : List ℕ) (from : ℕ) (table₀ : List ℕ) (values row column at : ℕ) (c : Cursor) (table : List ℕ) →
    Left form t from table₀ values row column at c table → row ≤ most_given + values → column ≤ most_given + values → values ≤ most_values → length t * 1 < 2 ^ 63 →
    Countable t at c
left_countable form t from table₀ values row column at c table left row_few column_few few small =
    let g : c.row ≤ row + c.count = left.row_few in
    let k : c.column ≡ column + c.count = left.column in
    let p : c.count + from ≤ at = left.taken in
    record { row = λ (o : at < length t). omega arith; column = λ (o : at < length t). omega arith; count = λ (o : at < length t). omega arith }

module _ (form : ℕ) (t : List ℕ) (from : ℕ) (table₀ : List ℕ) (values row column at₀ : ℕ) (c₀ : Cursor) (table : List ℕ)
    (left : Left form t from table₀ values row column at₀ c₀ table) where
  pub passes_start : row ≤ most_given + values → column ≤ most_given + values → values ≤ most_values → length t * 1 < 2 ^ 63 → Passes form t at₀ c₀ at₀ c₀
  passes_start row_few column_few few small =
      record {
        on = λ from' table' table values' row' column' left' full. left';
        stays = refl;
        countable = left_countable form t from table₀ values row column at₀ c₀ table left row_few column_few few small;
      }

  module _ (free : Bool) (room : free ≡ leb (c₀.place + value_width) (length table)) (gone : free ≡ false) (at : ℕ) (c : Cursor)
      (passes : Passes form t at₀ c₀ at c) (start : ℕ) (begins : start ≡ run_end is_blank t at) (there : Bool)
      (told_there : there ≡ both (ltb start (length t)) (is_word comment_byte (get_or t start 0))) where
    left_here : Left form t from table₀ values row column at c table
    left_here = passes.on from table₀ table values row column left (leb-false (c₀.place + value_width) (length table) (sym room ∙ gone))

    pub passes_done : not there ≡ true → (r : Numbers) → r ≡ numbers_result true c start → Stores form t from table₀ values row column table r
    passes_done tested r e = left_done form t from table₀ values row column at c table left_here start begins there told_there tested r e

    pub passes_broken : not there ≡ false → (read : NumberAt) → read ≡ number_in comment_byte t start → (error : Bool) → error ≡ is_err read.number →
        error ≡ true → (r : Numbers) → r ≡ numbers_result false c start → Stores form t from table₀ values row column table r
    passes_broken tested read told error told_error bad r e =
        left_broken form t from table₀ values row column at c table left_here start begins there told_there tested read told error told_error bad r e

module _ (form : ℕ) (t : List ℕ) (at₀ : ℕ) (c₀ : Cursor) (at : ℕ) (c : Cursor) (passes : Passes form t at₀ c₀ at c) (start : ℕ)
    (begins : start ≡ run_end is_blank t at) (there : Bool)
    (told_there : there ≡ both (ltb start (length t)) (is_word comment_byte (get_or t start 0))) (tested : not there ≡ false) where
  inside : start < length t
  inside = word_there t start there told_there tested

  early : at < length t
  early = let o : start < length t = inside in omega arith

  pub passes_movable : Movable c
  passes_movable =
      let o : at < length t = early in
      let a : c.row + (length t - at) < 18_446_744_073_709_551_615 = passes.countable.row o in
      let b : c.column + (length t - at) < 18_446_744_073_709_551_615 = passes.countable.column o in
      let d : c.count + (length t - at) < 18_446_744_073_709_551_615 = passes.countable.count o in
      record { row_few = omega arith; column_few = omega arith; count_few = omega arith }

  module _ (read : NumberAt) (told : read ≡ number_in comment_byte t start) where
    further : at < read.end
    unfolding number_in
    further = word_on t at start begins (sym told_there ∙ not-false there tested) read.end (ap (λ (r : NumberAt). r.end) told)

    pub passes_less : length t - read.end < length t - at
    passes_less =
        let f : at < read.end = further in
        let o : start < length t = inside in
        omega arith

    next_countable : Countable t read.end (passed_by form c)
    next_countable =
        let f : at < read.end = further in
        let o : at < length t = early in
        let k : next_row form c.row ≤ c.row + 1 = row_most form c.row in
        let a : c.row + (length t - at) < 18_446_744_073_709_551_615 = passes.countable.row o in
        let b : c.column + (length t - at) < 18_446_744_073_709_551_615 = passes.countable.column o in
        let d : c.count + (length t - at) < 18_446_744_073_709_551_615 = passes.countable.count o in
        record {
          row = λ (g : read.end < length t). omega arith;
          column = λ (g : read.end < length t). omega arith;
          count = λ (g : read.end < length t). omega arith;
        }

    pub passes_on : (error : Bool) → error ≡ is_err read.number → error ≡ false → (c' : Cursor) → c' ≡ passed_by form c → Passes form t at₀ c₀ read.end c'
    passes_on error told_error fine c' e =
        rw e
        (record {
          on = λ from table₀ table values row column left full.
              left_on form t from table₀ values row column at c table (passes.on from table₀ table values row column left full) start begins there told_there
              tested read told error told_error fine (passed_by form c) table (number_passed form read.number table c (rw passes.stays full));
          stays = passes.stays;
          countable = next_countable;
        })

-- ---- a line of numbers

module _ (form : ℕ) (t : List ℕ) (here : ℕ) (table : List ℕ) (values row column : ℕ) (table' : List ℕ) (r : Numbers)
    (stores : Stores form t here table values row column table' r) where
  module _ (row_few : row ≤ most_given + values) (column_few : column ≤ most_given + values) (not_sparse : form ≡ sparse → ⊥)
      (staged : r.staged ≡ true) where
    abbrev content : List ℕ
    content = content_at t here

    told : Stored form (words content) table values row column table' r
    told = stores.told staged

    line_told : record { numbers = r.count; column = 0; right = true; formed = true; bounded = true } ≡ data_line_of form content
    unfolding data_line_of numbers_line
    line_told =
        (λ i.
        record {
          numbers = told.counted i;
          column = 0;
          right = true;
          formed = sym told.formed i;
          bounded = sym told.bounded i;
        })
        ∙ sym (if_false _ _ (ne_eqb form sparse not_sparse))

    more_after : (l : Line) → l.content ≡ content → key_of l ≡ plain → (ls : List Line) →
        values_from form row column (l ∷ ls) ≡ numbers_at form row column (words content) ++ values_from form r.row r.column ls
    more_after l same is_plain ls =
        rw (told.row_is, told.column_is, sym same) (numbers_values form l ls is_plain not_sparse row column)

    bounded_after : (a : Staging) → BoundedStaging (moved_to r.row r.column a) (values + r.count)
    bounded_after a =
        let f : r.row ≤ row + r.count = told.row_few in
        let g : r.column ≡ column + length (words content) = told.column_is in
        let h : r.count ≡ length (words content) = told.counted in
        let p : row ≤ most_given + values = row_few in
        let q : column ≤ most_given + values = column_few in
        record { row = omega arith; column = omega arith }

    adds_after : (a : Staging) → a.row ≡ row → a.column ≡ column → (l : Line) → l.content ≡ content → key_of l ≡ plain →
        Adds form l table values a table' (values + r.count) (moved_to r.row r.column a)
    adds_after a row_is column_is l same is_plain =
        added table values table' (numbers_at form row column (words content)) r.count told.held form a (moved_to r.row r.column a) refl
        (bounded_after a) l is_plain
        (λ (ls : List Line). rw (row_is, column_is) (more_after l same is_plain ls))
        (λ (ls : List Line).
        most_of a.greatest 0 a.greatest _ (greatest_in form ls) (numbers_greatest form l ls is_plain not_sparse) (omega arith))

  line_broken : (form ≡ sparse → ⊥) → r.staged ≡ false → BrokenData (data_line_of form (content_at t here))
  unfolding data_line_of numbers_line
  line_broken not_sparse unstaged = rw (if_false {A = DataLine} _ _ (ne_eqb form sparse not_sparse)) (both_not_right true _ (stores.broken unstaged))

  pub numbers_staged : row ≤ most_given + values → column ≤ most_given + values → (form ≡ sparse → ⊥) →
      StagesNumbers form t here table values row column table' r
  numbers_staged row_few column_few not_sparse =
      record {
        long = stores.long;
        ends = stores.ends;
        line_is = line_told row_few column_few not_sparse;
        adds = adds_after row_few column_few not_sparse;
        broken = line_broken not_sparse;
      }

-- ---- a line of a Sparse_matrix

pub pair_untold : (column : ℕ) (n : Numbers) → not n.staged ≡ true → (r : Pair) → r ≡ record { staged = false; column = 0; end = n.end } →
    r ≡ pair_of column n
unfolding pair_of
pair_untold column n e r is = is ∙ sym (if_false _ _ (both_not_left _ _ (not-true n.staged e)))

pub pair_other : (column : ℕ) (n : Numbers) → (n.count ≡ 1 → ⊥) → (r : Pair) → r ≡ record { staged = false; column = 0; end = n.end } →
    r ≡ pair_of column n
unfolding pair_of
pair_other column n e r is = is ∙ sym (if_false _ _ (both_not_right _ _ (ne_eqb _ _ e)))

pub pair_told : (column : ℕ) (n : Numbers) → not n.staged ≡ false → n.count ≡ 1 → record { staged = true; column = column; end = n.end } ≡ pair_of column n
unfolding pair_of
pair_told column n e f = sym (if_true _ _ (both_true _ _ (not-false n.staged e) (eq-eqb _ _ f)))

-- a line that is not staged
unstaged : (t : List ℕ) (here : ℕ) (table : List ℕ) (values row : ℕ) (table' : List ℕ) → length table' ≡ length table → BrokenData (data_line_of sparse (content_at t here)) →
    (end : ℕ) → StagesPair t here table values row table' (record { staged = false; column = 0; end = end })
unstaged t here table values row table' long broken end =
    record {
      long = long;
      ends = λ (w : false ≡ true). absurd (true≢false (sym w));
      line_is = λ (w : false ≡ true). absurd (true≢false (sym w));
      adds = λ (w : false ≡ true). absurd (true≢false (sym w));
      broken = λ (w : false ≡ false). broken;
    }

-- it breaks a rule: it has not two words, or one of the two is no number within its bounds
line_bad :
    (content : List ℕ) (ws : List (List ℕ)) → words content ≡ ws →
    (length ws ≡ 2 →
    both (both (is_some (whole_of (first_of ws))) (number_check (second_of ws)).formed) (both (is_whole_within 1 most_conductors (whole_of (first_of ws))) (number_check (second_of ws)).bounded) ≡ false) →
    BrokenData (data_line_of sparse content)
unfolding data_line_of sparse_line
line_bad content ws are bad =
    rw (if_true {A = DataLine} _ _ (eq-eqb sparse sparse refl), are)
    (by_test BrokenData (eqb (length ws) 2) _ _
    (λ (e : eqb (length ws) 2 ≡ true). both_not_right true _ (bad (eqb-true (length ws) 2 e)))
    (λ (e : eqb (length ws) 2 ≡ false). both_not_left false _ refl))

pub pair_blank :
    (t : List ℕ) (here : ℕ) (table : List ℕ) (values row start : ℕ) → start ≡ run_end is_blank t here → (there : Bool) →
    there ≡ both (ltb start (length t)) (is_word comment_byte (get_or t start 0)) → not there ≡ true → (end : ℕ) (r : Pair) →
    r ≡ record { staged = false; column = 0; end = end } → StagesPair t here table values row table r
pair_blank t here table values row start begins there told tested end r e =
    rw e
    (unstaged t here table values row table refl
    (line_bad (content_at t here) [] (no_words t here start begins (sym told ∙ not-true there tested)) (λ (z : ◌≡◌ {A = ℕ} 0 2). absurd (omega arith))) end)

both_last : (a b c d : Bool) → both (both b true) (both d true) ≡ false → both (both a b) (both c d) ≡ false
unfolding both
both_last false b c d e = refl
both_last true false c d e = refl
both_last true true false d e = refl
both_last true true true false e = refl
both_last true true true true e = absurd (true≢false e)

last_bad : (column : Option ℕ) (ws : List (List ℕ)) → suc (length ws) ≡ 2 → (length ws ≡ 1 → both (are_formed ws) (are_bounded ws) ≡ false) →
    both (both (is_some column) (number_check (first_of ws)).formed) (both (is_whole_within 1 most_conductors column) (number_check (first_of ws)).bounded) ≡ false
unfolding are_formed are_bounded
last_bad column [] e b = absurd (let z : 1 ≡ 2 = e in omega arith)
last_bad column (w ∷ []) e b = both_last _ (number_check w).formed _ (number_check w).bounded (b refl)
last_bad column (w ∷ v ∷ ws) e b = absurd (let z : suc (suc (suc (length ws))) ≡ 2 = e in omega arith)

module _ (t : List ℕ) (here start : ℕ) (begins : start ≡ run_end is_blank t here) (there : Bool)
    (told_there : there ≡ both (ltb start (length t)) (is_word comment_byte (get_or t start 0))) (tested : not there ≡ false) (end : ℕ)
    (ends : end ≡ run_end (is_word comment_byte) t start) where
  stands_there : both (ltb start (length t)) (is_word comment_byte (get_or t start 0)) ≡ true
  stands_there = sym told_there ∙ not-false there tested

  pub word_inside : end ≤ length t
  word_inside =
      let g : start < length t = ltb-true start (length t) (both_first _ _ stands_there) in
      run_ends (is_word comment_byte) t start end g ends

  pub word_starts : start ≤ end
  word_starts = omega arith

  module _ (part : List ℕ) (cut : part ≡ take (end - start) (drop start t)) where
    -- its first word is the column
    behind_column : words (content_at t here) ≡ part ∷ words (content_at t end)
    behind_column = one_word t here start begins stands_there end ends ∙ ap (λ (w : List ℕ). w ∷ words (content_at t end)) (sym cut)

    column_bad : both (is_some (whole_of part)) (is_whole_within 1 most_conductors (whole_of part)) ≡ false → BrokenData (data_line_of sparse (content_at t here))
    column_bad bad =
        line_bad (content_at t here) (part ∷ words (content_at t end)) behind_column
        (λ (e : length (part ∷ words (content_at t end)) ≡ 2). both_down (is_some (whole_of part)) _ (is_whole_within 1 most_conductors (whole_of part)) _ bad)

    pub column_unformed : None ≡ whole_of part → (table : List ℕ) (values row stop : ℕ) (r : Pair) → r ≡ record { staged = false; column = 0; end = stop } →
        StagesPair t here table values row table r
    column_unformed none table values row stop r e =
        rw e (unstaged t here table values row table refl (column_bad (both_not_left _ _ (ap is_some (sym none)))) stop)

    module _ (column : ℕ) (is_column : Some column ≡ whole_of part) where
      pub column_few : (values : ℕ) → column ≤ most_given + values
      column_few values =
          let h : unwrap_or (whole_of part) 0 < most_given = whole_below part in
          let k : column < most_given = rw (← is_column) at h in
          omega arith

      -- the integer is within its bounds where its value is
      within_is : (fits : Bool) → fits ≡ within 1 most_conductors column → fits ≡ is_whole_within 1 most_conductors (whole_of part)
      within_is fits told = rw (← is_column) told

      pub column_unbounded : (fits : Bool) → fits ≡ within 1 most_conductors column → not fits ≡ true → (table : List ℕ) (values row stop : ℕ) (r : Pair) →
          r ≡ record { staged = false; column = 0; end = stop } → StagesPair t here table values row table r
      column_unbounded fits told bad table values row stop r e =
          rw e (unstaged t here table values row table refl (column_bad (both_not_right _ _ (sym (within_is fits told) ∙ not-true fits bad))) stop)

      module _ (table : List ℕ) (values row : ℕ) (table' : List ℕ) (n : Numbers)
          (stores : Stores sparse t end table values row column table' n) where
        module _ (staged : n.staged ≡ true) (one : n.count ≡ 1) where
          behind : Stored sparse (words (content_at t end)) table values row column table' n
          behind = stores.told staged

          single : words (content_at t end) ≡ first_of (words (content_at t end)) ∷ []
          single = alone (words (content_at t end)) (sym behind.counted ∙ one)
            where
              alone : (ws : List (List ℕ)) → length ws ≡ 1 → ws ≡ first_of ws ∷ []
              alone [] e = absurd (let z : 0 ≡ 1 = e in omega arith)
              alone (w ∷ []) e = refl
              alone (w ∷ v ∷ ws) e = absurd (let z : suc (suc (length ws)) ≡ 1 = e in omega arith)

          abbrev value : List ℕ
          value = first_of (words (content_at t end))

          two : words (content_at t here) ≡ part ∷ value ∷ []
          two = behind_column ∙ ap (λ (ws : List (List ℕ)). part ∷ ws) single

          value_formed_here : (number_check value).formed ≡ true
          unfolding are_formed
          value_formed_here = both_first _ _ (sym (ap are_formed single) ∙ behind.formed)

          value_bounded_here : (number_check value).bounded ≡ true
          unfolding are_bounded
          value_bounded_here = both_first _ _ (sym (ap are_bounded single) ∙ behind.bounded)

          pair_value : numbers_at sparse row column (words (content_at t end)) ≡ sparse_at row (words (content_at t here)) ∷ []
          unfolding numbers_at sparse_at
          pair_value = rw (single, two) (λ i. record { row = row; column = unwrap_or (is_column i) 0; word = word_in (number_of value) } ∷ [])

          pair_held : (whole rest : List Value) → HeldValues whole table values ((sparse_at row (words (content_at t here)) ∷ []) ++ rest) →
              HeldValues whole table' (values + 1) rest
          pair_held whole rest h =
              rw one at
              (behind.held whole rest (held_same value_words value_width whole table values _ h _ (ap (λ (vs : List Value). vs ++ rest) (sym pair_value))))

          named_here : column ≡ unwrap_or (whole_of (first_of (words (content_at t here)))) 0
          named_here = rw two (ap (λ (w : Option ℕ). unwrap_or w 0) is_column)

          pair_bounded : (a : Staging) → BoundedStaging a values → BoundedStaging (named_to column a) (values + 1)
          pair_bounded a bound =
              let f : a.row ≤ most_given + values = bound.row in
              let g : a.column ≤ most_given + values = bound.column in
              record { row = omega arith; column = omega arith }

          pair_adds : (a : Staging) → BoundedStaging a values → a.row ≡ row → (l : Line) → l.content ≡ content_at t here → key_of l ≡ plain →
              Adds sparse l table values a table' (values + 1) (named_to column a)
          pair_adds a bound row_is l same is_plain =
              added table values table' (sparse_at row (words (content_at t here)) ∷ []) 1 pair_held sparse a (named_to column a) refl
              (pair_bounded a bound) l is_plain
              (λ (ls : List Line). rw (sym row_is, sym same) (sparse_values sparse l ls is_plain refl a.row a.column))
              (λ (ls : List Line).
              most_of a.greatest column _ _ (greatest_in sparse ls)
              (rw (named_here, sym same) (sparse_greatest sparse l ls is_plain refl)) refl)

          module _ (bounded : within 1 most_conductors column ≡ true) where
            pair_line : record { numbers = 1; column = column; right = true; formed = true; bounded = true } ≡ data_line_of sparse (content_at t here)
            unfolding data_line_of sparse_line
            pair_line =
                sym
                (if_true _ _ (eq-eqb sparse sparse refl)
                ∙ rw two
                (if_true _ _ refl
                ∙ rw (sym is_column)
                (λ i.
                record {
                  numbers = 1;
                  column = column;
                  right = true;
                  formed = both_true _ _ refl value_formed_here i;
                  bounded = both_true _ _ bounded value_bounded_here i;
                })))

            pair_staged : StagesPair t here table values row table' (record { staged = true; column = column; end = n.end })
            pair_staged =
                record {
                  long = stores.long;
                  ends = λ (w : true ≡ true). stores.ends staged ∙ same_end t here start begins stands_there end ends;
                  line_is = λ (w : true ≡ true). pair_line;
                  adds = λ (w : true ≡ true). pair_adds;
                  broken = λ (w : true ≡ false). absurd (true≢false w);
                }

        -- the words behind the column are not one value
        value_bad : (length (words (content_at t end)) ≡ 1 → both (are_formed (words (content_at t end))) (are_bounded (words (content_at t end))) ≡ false) →
            StagesPair t here table values row table' (record { staged = false; column = 0; end = n.end })
        value_bad bad =
            unstaged t here table values row table' stores.long
            (line_bad (content_at t here) (part ∷ words (content_at t end)) behind_column
            (λ (e : suc (length (words (content_at t end))) ≡ 2). last_bad (whole_of part) (words (content_at t end)) e bad)) n.end

        pair_lost : both n.staged (eqb n.count 1) ≡ false → StagesPair t here table values row table' (record { staged = false; column = 0; end = n.end })
        pair_lost lost =
            by_cases _ n.staged
            (λ (w : n.staged ≡ true).
            value_bad (λ (e : length (words (content_at t end)) ≡ 1).
            absurd (true≢false (sym (both_true _ _ w (eq-eqb _ _ ((stores.told w).counted ∙ e))) ∙ lost))))
            (λ (w : n.staged ≡ false). value_bad (λ (e : length (words (content_at t end)) ≡ 1). stores.broken w))

        pub pair_stages : (fits : Bool) → fits ≡ within 1 most_conductors column → not fits ≡ false → (r : Pair) →
            r ≡ pair_of column n → StagesPair t here table values row table' r
        unfolding pair_of
        pair_stages fits told tested r e =
            rw e
            (by_test (λ (x : Pair). StagesPair t here table values row table' x) (both n.staged (eqb n.count 1)) _ _
            (λ (w : both n.staged (eqb n.count 1) ≡ true).
            pair_staged (both_first _ _ w) (eqb-true _ _ (both_second _ _ w)) (sym told ∙ not-false fits tested))
            (λ (w : both n.staged (eqb n.count 1) ≡ false). pair_lost w))
