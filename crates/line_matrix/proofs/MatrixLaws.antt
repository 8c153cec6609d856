-- Laws of matrices by which the code of this crate is proved: the premises of a law are what the code knows there.
-- Assumes nothing.
use Rattle.std.proofs.Common.{Option}
use mathlib.Core.Path.{◌≡◌, refl, sym, ◌∙◌, ap}
use mathlib.Core.Bool.{Bool, true, false, not, ◌&&◌}
use mathlib.Core.List.{List, [], ◌∷◌}
use Prim.Native.Nat.{ℕ, suc, ◌+◌, ◌-◌, ◌≤◌, ◌<◌, max}
use native.Mathlib.Omega.{arith}
use lib.ListN.{length, drop}
use lib.Dec.{leb, ltb}
use borrow.Author.Tests.{ltb-true, ltb-false}
use Rattle.base.specs.If.{both}
use Rattle.base.proofs.IfLaws.{if_true, if_false, by_cases, both_rest, both_assoc, both_and}
use Rattle.line_matrix.specs.declared.Matrix.{Matrix}
use Rattle.line_matrix.specs.declared.DataLine.{DataLine}
use Rattle.line_matrix.specs.declared.NumberCheck.{NumberCheck}
use Rattle.base.specs.Bytes.{is_blank, is_filled}
use Rattle.base.specs.Runs.{run}
use Rattle.base.specs.Way.Class.{run_end}
use Rattle.lex_number.specs.Way.At.{word_from, number_at}
use Rattle.lex_number.specs.declared.NumberAt.{NumberAt}
use Rattle.lex_number.specs.Number.{number_of, is_formed, is_bounded}
use Rattle.lex_number.specs.Integer.{whole_of}
use Rattle.lex_line.specs.Words.{words, first_of, second_of}
use Rattle.lex_line.specs.Way.Spans.{marked_by, word_span, first_two_of}
use Rattle.lex_line.specs.declared.Span.{Span}
use Rattle.lex_line.specs.declared.FirstTwo.{FirstTwo}
use Rattle.lex_line.proofs.FormLaws.{counted, counted_not}
use Rattle.lex_line.proofs.WordLaws.{words_after, after_at, after_none, end_past, word_ordered, word_within, first_marked, second_marked, few_none, few_one, few_two, few_three}
use Rattle.line_matrix.specs.Matrix.{in_row, still_fits, with_row, number_check, are_formed, are_bounded, numbers_line, pair_line, sparse_line, with_column}

-- ---- rows

pub row_added : (row : ℕ) (m : Matrix) (values above greatest : ℕ) (fits : Bool) → above ≡ in_row m values → greatest ≡ max m.rows.greatest row → fits ≡ still_fits m values → record { form = m.form; band = m.band; first = m.first; rows = record { row = row; above = above; from = values; least = row; greatest = greatest; fits = fits } } ≡ with_row row m values
unfolding with_row
row_added row m values above greatest fits a g f =
    λ i. record { form = m.form; band = m.band; first = m.first; rows = record { row = row; above = a i; from = values; least = row; greatest = g i; fits = f i } }

-- ---- data lines

formed_nil : are_formed [] ≡ true
unfolding are_formed
formed_nil = refl

bounded_nil : are_bounded [] ≡ true
unfolding are_bounded
bounded_nil = refl

formed_cons : (w : List ℕ) (ws : List (List ℕ)) → are_formed (w ∷ ws) ≡ both (number_check w).formed (are_formed ws)
unfolding are_formed
formed_cons w ws = refl

bounded_cons : (w : List ℕ) (ws : List (List ℕ)) → are_bounded (w ∷ ws) ≡ both (number_check w).bounded (are_bounded ws)
unfolding are_bounded
bounded_cons w ws = refl

both_whole : (a : Bool) → both a true ≡ a
unfolding both
both_whole true = refl
both_whole false = refl

-- a number that is read in place is the next word of the line
module _ (s : List ℕ) (at start : ℕ) (read : NumberAt) (begins : start ≡ run_end is_blank s at) (told : read ≡ number_at s start) where
  pub placed_end : read.end ≡ run_end is_filled s start
  unfolding number_at
  placed_end = ap (λ (r : NumberAt). r.end) told

  pub placed_found : record { start = start; end = read.end } ≡ word_span s at
  unfolding word_span
  placed_found = rw (placed_end, begins)

  pub placed_number : read.number ≡ number_of (marked_by s (record { start = start; end = read.end }))
  unfolding number_at word_from
  placed_number =
      let e : read.end ≡ start + run is_filled (drop start s) = placed_end in
      let n : read.end - start ≡ run is_filled (drop start s) = omega arith in
      rw n (ap (λ (r : NumberAt). r.number) told)

  pub placed_past : start < length s → at < read.end
  placed_past h = end_past s at (record { start = start; end = read.end }) placed_found h

  pub line_less : start < length s → at < length s → length s - read.end < length s - at
  line_less h g =
      let k : at < read.end = placed_past h in
      omega arith

  pub placed_within : at ≤ length s → read.end ≤ length s
  placed_within h = word_within s at (record { start = start; end = read.end }) placed_found h

-- the state of the loop: what has been read of a line, together with its words from `at` on, gives the whole line
pub record Pending (s : List ℕ) (at numbers : ℕ) (formed bounded : Bool) : Type 0 where
  pub counted : numbers + length (words_after s at) ≡ length (words s)
  pub well_formed : both formed (are_formed (words_after s at)) ≡ are_formed (words s)
  pub in_bounds : both bounded (are_bounded (words_after s at)) ≡ are_bounded (words s)
  pub short : numbers ≤ at

pub line_starts : (s : List ℕ) → Pending s 0 0 true true
line_starts s =
    record {
      counted = omega arith;
      well_formed = both_rest true (are_formed (words s)) refl;
      in_bounds = both_rest true (are_bounded (words s)) refl;
      short = omega arith;
    }

module _ (s : List ℕ) (at numbers : ℕ) (formed bounded : Bool) (pending : Pending s at numbers formed bounded) where
  line_done : words_after s at ≡ [] → record { numbers = numbers; column = 0; right = true; formed = formed; bounded = bounded } ≡ numbers_line (words s)
  unfolding numbers_line
  line_done e =
      let c : numbers + length (words_after s at) ≡ length (words s) = pending.counted in
      let z : length (words_after s at) ≡ 0 = ap length e in
      let n : numbers ≡ length (words s) = omega arith in
      let f : formed ≡ are_formed (words s) = sym (ap (both formed) (ap are_formed e ∙ formed_nil) ∙ both_whole formed) ∙ pending.well_formed in
      let b : bounded ≡ are_bounded (words s) = sym (ap (both bounded) (ap are_bounded e ∙ bounded_nil) ∙ both_whole bounded) ∙ pending.in_bounds in
      λ i. record { numbers = n i; column = 0; right = true; formed = f i; bounded = b i }

  module _ (word : Span) (found : word ≡ word_span s at) where
    line_ends : length s ≤ word.start → record { numbers = numbers; column = 0; right = true; formed = formed; bounded = bounded } ≡ numbers_line (words s)
    line_ends h = line_done (after_none s at (rw found at h))

    line_goes : word.start < length s → (t : NumberCheck) → t ≡ number_check (marked_by s word) → (f b : Bool) → f ≡ both formed t.formed → b ≡ both bounded t.bounded → Pending s word.end (numbers + 1) f b
    line_goes h t told f b ef eb =
        let e : words_after s at ≡ marked_by s word ∷ words_after s word.end = rw found (after_at s at (rw found at h)) in
        let c : numbers + length (words_after s at) ≡ length (words s) = pending.counted in
        let l : length (words_after s at) ≡ suc (length (words_after s word.end)) = ap length e in
        let g : at < word.end = end_past s at word found h in
        let k : numbers ≤ at = pending.short in
        record {
          counted = omega arith;
          well_formed = ap (λ (x : Bool). both x (are_formed (words_after s word.end))) (ef ∙ ap (λ (x : NumberCheck). both formed x.formed) told) ∙ both_assoc _ _ _ ∙ ap (both formed) (sym (formed_cons _ _) ∙ ap are_formed (sym e)) ∙ pending.well_formed;
          in_bounds = ap (λ (x : Bool). both x (are_bounded (words_after s word.end))) (eb ∙ ap (λ (x : NumberCheck). both bounded x.bounded) told) ∙ both_assoc _ _ _ ∙ ap (both bounded) (sym (bounded_cons _ _) ∙ ap are_bounded (sym e)) ∙ pending.in_bounds;
          short = omega arith;
        }

  module _ (start : ℕ) (begins : start ≡ run_end is_blank s at) where
    pub line_blank : length s ≤ start → record { numbers = numbers; column = 0; right = true; formed = formed; bounded = bounded } ≡ numbers_line (words s)
    unfolding word_span
    line_blank h = line_ends (word_span s at) refl (rw begins at h)

    pub line_number : (read : NumberAt) → read ≡ number_at s start → start < length s → (fits holds : Bool) → fits ≡ is_formed read.number → holds ≡ is_bounded read.number → Pending s read.end (numbers + 1) (formed && fits) (bounded && holds)
    unfolding number_check
    line_number read told h fits holds ef eb =
        let k : read.number ≡ number_of (marked_by s (record { start = start; end = read.end })) = placed_number s at start read begins told in
        line_goes (record { start = start; end = read.end }) (placed_found s at start read begins told) h (record { formed = is_formed read.number; bounded = is_bounded read.number }) (λ i. record { formed = is_formed (k i); bounded = is_bounded (k i) }) (formed && fits) (bounded && holds) (sym (both_and formed fits) ∙ ap (both formed) ef) (sym (both_and bounded holds) ∙ ap (both bounded) eb)

-- a line of a Sparse_matrix: its first word, and the number after it
module _ (s : List ℕ) (first : Span) (one : first ≡ word_span s 0) (start : ℕ) (begins : start ≡ run_end is_blank s first.end) where
  other_line : (n : ℕ) → (first_two_of s).count ≡ n → (n ≡ 2 → ⊥) → record { numbers = 0; column = 0; right = false; formed = true; bounded = true } ≡ sparse_line (words s)
  unfolding sparse_line
  other_line n e h = sym (if_false _ _ (counted_not s (first_two_of s) refl 2 (omega arith) (λ (k : (first_two_of s).count ≡ 2). h (sym e ∙ k))))

  second_found : record { start = start; end = run_end is_filled s start } ≡ word_span s first.end
  unfolding word_span
  second_found = rw begins

  pub sparse_short : length s ≤ start → (r : DataLine) → r ≡ record { numbers = 0; column = 0; right = false; formed = true; bounded = true } → r ≡ sparse_line (words s)
  sparse_short h r told =
      by_cases (r ≡ sparse_line (words s)) (ltb first.start (length s))
      (λ (e : ltb first.start (length s) ≡ true).
      told ∙ other_line 1 (sym (ap (λ (f : FirstTwo). f.count) (few_one s first _ _ one second_found refl (ltb-true _ _ e) h))) (λ (k : 1 ≡ 2). omega arith))
      (λ (e : ltb first.start (length s) ≡ false).
      told ∙ other_line 0 (sym (ap (λ (f : FirstTwo). f.count) (few_none s first _ _ one second_found refl (ltb-false _ _ e)))) (λ (k : 0 ≡ 2). omega arith))

  module _ (there : start < length s) (read : NumberAt) (told : read ≡ number_at s start) (third : ℕ) (after : third ≡ run_end is_blank s read.end) where
    second : Span
    second = record { start = start; end = read.end }

    is_second : second ≡ word_span s first.end
    unfolding second
    is_second = placed_found s first.end start read begins told

    -- the first word is there, since a second one follows it
    first_stands : first.start < length s
    first_stands =
        by_cases (first.start < length s) (ltb first.start (length s)) (ltb-true _ _)
        (λ (e : ltb first.start (length s) ≡ false).
        let h : length s ≤ first.start = ltb-false _ _ e in
        let k : first.start ≤ first.end = word_ordered s 0 first one in
        let g : first.end ≤ start = omega arith in
        absurd (omega arith))

    pub sparse_long : third < length s → (r : DataLine) → r ≡ record { numbers = 0; column = 0; right = false; formed = true; bounded = true } → r ≡ sparse_line (words s)
    unfolding second
    sparse_long h r is =
        is ∙ other_line 3 (sym (ap (λ (f : FirstTwo). f.count) (few_three s first second third one is_second after first_stands there h))) (λ (k : 3 ≡ 2). omega arith)

    pub sparse_pair :
        length s ≤ third → (part : List ℕ) → part ≡ marked_by s first → (column : Option ℕ) → column ≡ whole_of part → (t : NumberCheck) →
        t ≡ record { formed = is_formed read.number; bounded = is_bounded read.number } → (r : DataLine) → r ≡ pair_line column t → r ≡ sparse_line (words s)
    unfolding second sparse_line number_check
    sparse_pair h part cut column whole t is r pair =
        let two : record { count = 2; first = first; second = second } ≡ first_two_of s = few_two s first second third one is_second after first_stands there h in
        let w : column ≡ whole_of (first_of (words s)) = whole ∙ ap whole_of (cut ∙ first_marked s _ two) in
        let n : read.number ≡ number_of (second_of (words s)) = placed_number s first.end start read begins told ∙ ap number_of (second_marked s _ two) in
        let v : t ≡ number_check (second_of (words s)) = is ∙ (λ i. record { formed = is_formed (n i); bounded = is_bounded (n i) }) in
        pair ∙ (λ i. pair_line (w i) (v i)) ∙ sym (if_true _ _ (counted s _ two 2 (omega arith) refl))

-- ---- the rule of a data line

pub column_added : (c : ℕ) (m : Matrix) (greatest : ℕ) (fits : Bool) → greatest ≡ max m.rows.greatest c → fits ≡ both m.rows.fits (leb m.rows.least c) → record { form = m.form; band = m.band; first = m.first; rows = record { row = m.rows.row; above = m.rows.above; from = m.rows.from; least = c + 1; greatest = greatest; fits = fits } } ≡ with_column c m
unfolding with_column
column_added c m greatest fits g f =
    λ i. record { form = m.form; band = m.band; first = m.first; rows = record { row = m.rows.row; above = m.rows.above; from = m.rows.from; least = c + 1; greatest = g i; fits = f i } }
