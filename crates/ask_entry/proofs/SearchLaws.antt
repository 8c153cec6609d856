-- Laws of the binary search in a matrix's values, which rise. The values before one that is too early do not match, nor
-- do those after one that is too late. So the value asked for is in the part that is left, or not written.
-- Assumes nothing.
use mathlib.Core.Path.{◌≡◌, refl, sym, ◌∙◌, ap}
use mathlib.Core.Bool.{Bool, true, false}
use mathlib.Core.List.{List}
use Prim.Native.Nat.{ℕ, zero, suc, ◌+◌, ◌-◌, ◌*◌, ◌/◌, ◌≤◌, ◌<◌, zero-le}
use native.Mathlib.Nat.{le_refl, le_of_suc-le-suc, not-suc-le-zero}
use native.Mathlib.Omega.{arith}
use lib.Dec.{eqb}
use borrow.Author.Tests.{eq-eqb}
use Rattle.ask_entry.specs.Way.Asked.{asked}
use Rattle.table_layout.specs.Layout.{value_width}
use Rattle.table_layout.specs.Bounds.{most_conductors}
use Rattle.table_record.specs.Way.Standing.{places, value_at, values_from}
use Rattle.table_record.specs.declared.Value.{Value}
use Rattle.base.specs.If.{provided◌then◌else◌, both}
use Rattle.base.proofs.IfLaws.{if_true, if_false, both_true, both_first, both_second}
use Rattle.lex_number.specs.ValueWord.{zero_word}
use Rattle.doc.specs.Holds.{is_in_upper_half, comes_before, rises}
use Rattle.ask_sound.proofs.LoopLaws.{no_values}
use Rattle.ask_entry.specs.Entry.{word_at}
use Rattle.ask_entry.proofs.OrderLaws.{Before, before_is, before_before, before_other, behind_other, same_row, same_column}

-- ---- values that rise

module _ (table : List ℕ) where
  abbrev Rising : ℕ → ℕ → Type 0
  Rising at n = rises most_conductors (values_from table at n) ≡ true

  abbrev here : ℕ → Value
  here at = value_at table at

  rises_one : (at : ℕ) → rises most_conductors (values_from table at (suc zero)) ≡ is_in_upper_half most_conductors (here at)
  unfolding values_from places rises
  rises_one at = refl

  rises_two :
      (at n : ℕ) →
      rises most_conductors (values_from table at (suc (suc n))) ≡ both (is_in_upper_half most_conductors (here at)) (both (comes_before (here at) (here (at + value_width))) (rises most_conductors (values_from table (at + value_width) (suc n))))
  unfolding values_from places rises
  rises_two at n = refl

  rises_first : (at n : ℕ) → Rising at (suc n) → is_in_upper_half most_conductors (here at) ≡ true
  rises_first at zero e = sym (rises_one at) ∙ e
  rises_first at (suc n) e = both_first _ _ (sym (rises_two at n) ∙ e)

  rises_comes : (at n : ℕ) → Rising at (suc (suc n)) → comes_before (here at) (here (at + value_width)) ≡ true
  rises_comes at n e = both_first _ _ (both_second _ _ (sym (rises_two at n) ∙ e))

  rises_next : (at n : ℕ) → Rising at (suc (suc n)) → Before (here at) (here (at + value_width))
  rises_next at n e = before_is _ _ (rises_comes at n e)

  rises_tail : (at n : ℕ) → Rising at (suc n) → Rising (at + value_width) n
  rises_tail at zero e = sym (no_values table (at + value_width))
  rises_tail at (suc n) e = both_second _ _ (both_second _ _ (sym (rises_two at n) ∙ e))

  rises_front : (at m n : ℕ) → m ≤ n → Rising at n → Rising at m
  rises_front at zero n h e = sym (no_values table at)
  rises_front at (suc m) zero h e = absurd (not-suc-le-zero h)
  rises_front at (suc zero) (suc n) h e = rises_one at ∙ rises_first at n e
  rises_front at (suc (suc m)) (suc zero) h e = absurd (not-suc-le-zero (le_of_suc-le-suc h))
  rises_front at (suc (suc m)) (suc (suc n)) h e =
      rises_two at m
      ∙ both_true _ _ (rises_first at (suc n) e) (both_true _ _ (rises_comes at n e) (rises_front (at + value_width) (suc m) (suc n) (le_of_suc-le-suc h) (rises_tail at (suc n) e)))

  rises_behind : (at m n : ℕ) → m ≤ n → Rising at n → Rising (at + value_width * m) (n - m)
  rises_behind at zero n h e =
      let p : at + value_width * 0 ≡ at = omega arith in
      let q : n - 0 ≡ n = omega arith in
      rw (p, q) e
  rises_behind at (suc m) zero h e = absurd (not-suc-le-zero h)
  rises_behind at (suc m) (suc n) h e =
      let p : at + value_width * suc m ≡ at + value_width + value_width * m = omega arith in
      let q : suc n - suc m ≡ n - m = omega arith in
      rw (p, q) (rises_behind (at + value_width) m n (le_of_suc-le-suc h) (rises_tail at n e))

  -- the first value comes before each of the others
  rises_later : (at m n : ℕ) → m < n → Rising at (suc n) → Before (here at) (here (at + value_width * suc m))
  rises_later at m zero h e = absurd (not-suc-le-zero h)
  rises_later at zero (suc n) h e =
      let p : at + value_width * 1 ≡ at + value_width = omega arith in
      rw p (rises_next at n e)
  rises_later at (suc m) (suc n) h e =
      let p : at + value_width * suc (suc m) ≡ at + value_width + value_width * suc m = omega arith in
      rw p (before_before _ _ _ (rises_next at n e) (rises_later (at + value_width) m n (le_of_suc-le-suc h) (rises_tail at (suc n) e)))

  -- ---- the value asked for

  module _ (row column : ℕ) where
    abbrev word : ℕ → ℕ → ℕ
    word at n = word_at row column (values_from table at n)

    abbrev matches : Value → Bool
    matches v = both (eqb v.row row) (eqb v.column column)

    pub word_none : (at : ℕ) → zero_word ≡ word_at row column (values_from table at zero)
    unfolding word_at values_from places
    word_none at = refl

    word_more : (at n : ℕ) → word at (suc n) ≡ (provided matches (here at) then (here at).word else word (at + value_width) n)
    unfolding word_at values_from places
    word_more at n = refl

    passed : (at n : ℕ) → matches (here at) ≡ false → word at (suc n) ≡ word (at + value_width) n
    passed at n e = word_more at n ∙ if_false _ _ e

    too_early : (at n : ℕ) → Before (here at) (asked row column) → word at (suc n) ≡ word (at + value_width) n
    too_early at n b = passed at n (before_other _ _ b)

    word_behind : (at m n : ℕ) → m < n → Rising at n → Before (here (at + value_width * m)) (asked row column) → word at n ≡ word (at + value_width * suc m) (n - suc m)
    word_behind at m zero h e b = absurd (not-suc-le-zero h)
    word_behind at zero (suc n) h e b =
        let p : at + value_width * 0 ≡ at = omega arith in
        let q : at + value_width * 1 ≡ at + value_width = omega arith in
        let r : suc n - 1 ≡ n = omega arith in
        rw (q, r) (too_early at n (rw p at b))
    word_behind at (suc m) (suc n) h e b =
        let p : at + value_width * suc m ≡ at + value_width + value_width * m = omega arith in
        let q : at + value_width * suc (suc m) ≡ at + value_width + value_width * suc m = omega arith in
        let r : suc n - suc (suc m) ≡ n - suc m = omega arith in
        let first : word at (suc n) ≡ word (at + value_width) n = too_early at n (before_before _ _ _ (rises_later at m n (le_of_suc-le-suc h) e) b) in
        rw (q, r) (first ∙ word_behind (at + value_width) m n (le_of_suc-le-suc h) (rises_tail at n e) (rw p at b))

    all_late : (at n : ℕ) → Rising at (suc n) → Before (asked row column) (here at) → word at (suc n) ≡ zero_word
    all_late at zero e b = passed at zero (behind_other _ _ b) ∙ sym (word_none (at + value_width))
    all_late at (suc n) e b = passed at (suc n) (behind_other _ _ b) ∙ all_late (at + value_width) n (rises_tail at (suc n) e) (before_before _ _ _ b (rises_next at n e))

    word_front : (at m n : ℕ) → m < n → Rising at n → Before (asked row column) (here (at + value_width * m)) → word at n ≡ word at m
    word_front at m zero h e b = absurd (not-suc-le-zero h)
    word_front at zero (suc n) h e b =
        let p : at + value_width * 0 ≡ at = omega arith in
        all_late at n e (rw p at b) ∙ word_none at
    word_front at (suc m) (suc n) h e b =
        let p : at + value_width * suc m ≡ at + value_width + value_width * m = omega arith in
        let rest : word (at + value_width) n ≡ word (at + value_width) m = word_front (at + value_width) m n (le_of_suc-le-suc h) (rises_tail at n e) (rw p at b) in
        word_more at n ∙ ap (λ (w : ℕ). provided matches (here at) then (here at).word else w) rest ∙ sym (word_more at m)

    before_asked : (u v : Value) → Before u v → v.row ≡ row → v.column ≡ column → Before u (asked row column)
    before_asked u v (Before.rows h) r c = Before.rows (omega arith)
    before_asked u v (Before.columns e h) r c = Before.columns (e ∙ r) (omega arith)

    word_here : (at m n : ℕ) → m < n → Rising at n → (here (at + value_width * m)).row ≡ row → (here (at + value_width * m)).column ≡ column → word at n ≡ (here (at + value_width * m)).word
    word_here at m zero h e r c = absurd (not-suc-le-zero h)
    word_here at zero (suc n) h e r c =
        let p : at ≡ at + value_width * 0 = omega arith in
        let f : matches (here at) ≡ true = rw p (both_true _ _ (eq-eqb _ _ r) (eq-eqb _ _ c)) in
        word_more at n ∙ if_true _ _ f ∙ ap (λ (q : ℕ). (here q).word) p
    word_here at (suc m) (suc n) h e r c =
        let p : at + value_width * suc m ≡ at + value_width + value_width * m = omega arith in
        let first : word at (suc n) ≡ word (at + value_width) n = too_early at n (before_asked _ _ (rises_later at m n (le_of_suc-le-suc h) e) r c) in
        first ∙ rw p (word_here (at + value_width) m n (le_of_suc-le-suc h) (rises_tail at n e) (rw p at r) (rw p at c))

-- ---- the search: the value asked for is between `low` and `high` (not `high` itself), or not written

pub record Lies (table : List ℕ) (from many row column low high : ℕ) : Type 0 where
  pub order : low ≤ high
  pub most : high ≤ many
  pub rising : rises most_conductors (values_from table (from + value_width * low) (high - low)) ≡ true
  pub same : word_at row column (values_from table (from + value_width * low) (high - low)) ≡ word_at row column (values_from table from many)

module _ (table : List ℕ) (from many row column : ℕ) where
  pub lies_starts : rises most_conductors (values_from table from many) ≡ true → Lies table from many row column 0 many
  lies_starts e =
      let p : from + value_width * 0 ≡ from = omega arith in
      let q : many - 0 ≡ many = omega arith in
      record { order = zero-le; most = le_refl many; rising = rw (p, q) e; same = λ i. word_at row column (values_from table (p i) (q i)) }

  module _ (low high : ℕ) (lies : Lies table from many row column low high) where
    pub lies_nowhere : high ≤ low → zero_word ≡ word_at row column (values_from table from many)
    lies_nowhere h =
        let z : high - low ≡ 0 = omega arith in
        word_none table row column (from + value_width * low) ∙ (rw z at lies.same)

    -- the value in the middle is compared with what is asked for
    module _ (go : low < high) where
      abbrev middle : ℕ
      middle = low + (high - low) / 2

      abbrev there : Value
      there = value_at table (from + value_width * middle)

      low_middle : low ≤ middle
      low_middle = omega arith

      middle_high : middle < high
      middle_high = omega arith

      at_middle : from + value_width * middle ≡ from + value_width * low + value_width * (middle - low)
      at_middle = omega arith

      inside : middle - low < high - low
      inside = omega arith

      module _ (x : Value) (met : x ≡ value_at table (from + value_width * (low + (high - low) / 2))) (early : Bool) (by_value : early ≡ comes_before x (asked row column)) where
        is_early : early ≡ comes_before there (asked row column)
        is_early = by_value ∙ ap (λ (y : Value). comes_before y (asked row column)) met

        pub lies_behind : early ≡ true → Lies table from many row column (low + (high - low) / 2 + 1) high
        lies_behind e =
            let b : Before (value_at table (from + value_width * low + value_width * (middle - low))) (asked row column) = rw at_middle at (before_is there (asked row column) (sym is_early ∙ e)) in
            let p : from + value_width * low + value_width * suc (middle - low) ≡ from + value_width * (middle + 1) = omega arith in
            let q : high - low - suc (middle - low) ≡ high - (middle + 1) = omega arith in
            let k : suc (middle - low) ≤ high - low = inside in
            let w : word_at row column (values_from table (from + value_width * low) (high - low)) ≡ word_at row column (values_from table (from + value_width * (middle + 1)) (high - (middle + 1))) =
            rw (p, q) at (word_behind table row column (from + value_width * low) (middle - low) (high - low) inside lies.rising b) in
            record {
              order = omega arith;
              most = lies.most;
              rising = rw (p, q) at (rises_behind table (from + value_width * low) (suc (middle - low)) (high - low) k lies.rising);
              same = sym w ∙ lies.same;
            }

        module _ (not_early : early ≡ false) (late : Bool) (by_value_too : late ≡ comes_before (asked row column) x) where
          is_late : late ≡ comes_before (asked row column) there
          is_late = by_value_too ∙ ap (comes_before (asked row column)) met

          pub lies_front : late ≡ true → Lies table from many row column low (low + (high - low) / 2)
          lies_front e =
              let b : Before (asked row column) (value_at table (from + value_width * low + value_width * (middle - low))) = rw at_middle at (before_is (asked row column) there (sym is_late ∙ e)) in
              let k : middle - low ≤ high - low = omega arith in
              let m : high ≤ many = lies.most in
              record {
                order = low_middle;
                most = omega arith;
                rising = rises_front table (from + value_width * low) (middle - low) (high - low) k lies.rising;
                same = sym (word_front table row column (from + value_width * low) (middle - low) (high - low) inside lies.rising b) ∙ lies.same;
              }

          pub lies_here : late ≡ false → x.word ≡ word_at row column (values_from table from many)
          lies_here e =
              let r : (value_at table (from + value_width * low + value_width * (middle - low))).row ≡ row = rw at_middle at (same_row there (asked row column) (sym is_early ∙ not_early) (sym is_late ∙ e)) in
              let c : (value_at table (from + value_width * low + value_width * (middle - low))).column ≡ column = rw at_middle at (same_column there (asked row column) (sym is_early ∙ not_early) (sym is_late ∙ e)) in
              ap (λ (y : Value). y.word) met ∙ ap (λ (q : ℕ). (value_at table q).word) at_middle ∙ sym (word_here table row column (from + value_width * low) (middle - low) (high - low) inside lies.rising r c) ∙ lies.same
