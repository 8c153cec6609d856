-- Laws of the answers to hosts: lent words that are too few are left unchanged, and the words of each case are those of the layout.
-- Assumes nothing.
use mathlib.Core.Path.{◌≡◌, refl, sym, ◌∙◌, ap}
use mathlib.Core.Bool.{true, false, not}
use mathlib.Core.List.{List, [], ◌∷◌, ◌++◌}
use Prim.Native.Nat.{ℕ, ◌+◌, ◌≤◌, ◌<◌}
use native.Mathlib.Nat.{zero-add}
use native.Mathlib.Omega.{arith}
use lib.ListN.{length, replicate, drop}
use lib.Seq.{sets, sets-eq}
use lib.Dec.{T}
use lib.Ieee.{Float, binary64, to_bits, is_nan}
use borrow.Author.Tests.{le-leb, lt-leb}
use Rattle.std.proofs.Common.{Option, Some, None}
use Rattle.base.proofs.IfLaws.{if_true, if_false}
use Rattle.intake.specs.Verdict as verdicts
use Rattle.intake.specs.declared.Answer as intake
use Rattle.intake.specs.declared.Answer.TheVariants as verdict
use Rattle.ask_entry.specs.Entry as entries
use Rattle.std.specs.Prelude.{Result, Ok, Err}
use Rattle.ask_walk.specs.Walk as walks
use Rattle.ask_walk.specs.declared.Place.{Place}
use Rattle.table_record.specs.declared.StepRecord.{StepRecord}
use Rattle.table_record.specs.Records.{no_step}
use Rattle.ask_walk.specs.declared.Walked.{Walked}
use Rattle.ask_walk.specs.declared.Walked.TheVariants as walked
use Rattle.ask_entry.specs.WholeMatrix as matrices
use Rattle.ask_entry.specs.declared.WholeAnswer.{WholeAnswer}
use Rattle.ask_entry.specs.declared.WholeAnswer.TheVariants as whole
use Rattle.out_double.specs.Double.{drawn_of, paired}
use Rattle.out_double.proofs.CurveLaws.{never_nan, pair_frequency, pair_value}
use Rattle.skumvari.specs.Words.{flag, intake_layout, entry_layout, step_layout, walk_layout, matrix_layout, double_layout, pair_layout, is_room, answered, table_after, values_after}

-- ---- the lent words

module _ (many : ℕ) (lent : List ℕ) where
  pub room_none : length lent < many → false ≡ is_room many lent
  unfolding is_room
  room_none h = sym (lt-leb many (length lent) h)

  pub room_there : many ≤ length lent → true ≡ is_room many lent
  unfolding is_room
  room_there h = sym (le-leb many (length lent) h)

module _ (words lent : List ℕ) where
  pub answer_left : length lent < length words → lent ≡ answered words lent
  unfolding answered
  answer_left h = sym (if_false _ _ (sym (room_none (length words) lent h)))

  pub answer_put : length words ≤ length lent → (after : List ℕ) → after ≡ sets lent 0 words → after ≡ answered words lent
  unfolding answered
  answer_put h after e = e ∙ sym (if_true _ _ (sym (room_there (length words) lent h)))

  -- the words at the start, and what stood behind them
  pub answer_front : length words ≤ length lent → (part : List ℕ) → part ≡ words → part ++ drop (length words) lent ≡ answered words lent
  answer_front h part e =
      let k : 0 + length words ≤ length lent = omega arith in
      answer_put h _
      (ap (λ (xs : List ℕ). xs ++ drop (length words) lent) e
      ∙ ap (λ (n : ℕ). words ++ drop n lent) (sym (zero-add (length words)))
      ∙ sym (sets-eq words lent 0 k))

-- words that are equal may be exchanged
pub answer_same : (words others lent after : List ℕ) → words ≡ others → after ≡ answered words lent → after ≡ answered others lent
answer_same words others lent after e h = h ∙ ap (λ (ws : List ℕ). answered ws lent) e

module _ (answer : List ℕ) where
  pub table_zeros : length answer < 4 → (taken table after : List ℕ) → after ≡ replicate (length table) 0 → after ≡ table_after answer taken table
  unfolding table_after
  table_zeros h taken table after e = e ∙ sym (if_false _ _ (sym (room_none 4 answer h)))

  pub table_taken : 4 ≤ length answer → (taken table after : List ℕ) → after ≡ taken → after ≡ table_after answer taken table
  unfolding table_after
  table_taken h taken table after e = e ∙ sym (if_true _ _ (sym (room_there 4 answer h)))

  pub values_left : length answer < 4 → (filled values : List ℕ) → values ≡ values_after answer filled values
  unfolding values_after
  values_left h filled values = sym (if_false _ _ (sym (room_none 4 answer h)))

  pub values_filled : 4 ≤ length answer → (filled values after : List ℕ) → after ≡ filled → after ≡ values_after answer filled values
  unfolding values_after
  values_filled h filled values after e = e ∙ sym (if_true _ _ (sym (room_there 4 answer h)))

-- ---- the words of each case

flag_true : 1 ≡ flag true
unfolding flag
flag_true = sym (if_true _ _ refl)

flag_false : 0 ≡ flag false
unfolding flag
flag_false = sym (if_false _ _ refl)

module _ (lent after : List ℕ) where
  module _ (answer : intake.Answer) (outcome : verdicts.Outcome) (is : verdicts.answer_words answer ≡ outcome) where
    pub intake_accepted : (used : ℕ) → answer ≡ verdict.Accepted used → after ≡ answered (1 ∷ 0 ∷ 0 ∷ used ∷ []) lent → after ≡ answered (intake_layout outcome) lent
    unfolding intake_layout
    intake_accepted used e h =
        answer_same _ _ lent after
        ((λ i. flag_true i ∷ 0 ∷ 0 ∷ used ∷ []) ∙ (λ i. intake_layout (verdicts.answer_words (sym e i))) ∙ ap intake_layout is) h

    pub intake_refused : (number line : ℕ) → answer ≡ verdict.Refused number line → after ≡ answered (0 ∷ number ∷ line ∷ 0 ∷ []) lent →
        after ≡ answered (intake_layout outcome) lent
    unfolding intake_layout
    intake_refused number line e h =
        answer_same _ _ lent after
        ((λ i. flag_false i ∷ number ∷ line ∷ 0 ∷ []) ∙ (λ i. intake_layout (verdicts.answer_words (sym e i))) ∙ ap intake_layout is) h

  module _ (answer : Result ℕ ℕ) where
    pub entry_found : (word : ℕ) → answer ≡ Ok word → after ≡ answered (1 ∷ 0 ∷ 0 ∷ word ∷ []) lent → after ≡ answered (entry_layout (entries.entry_words answer)) lent
    unfolding entry_layout
    entry_found word e h =
        answer_same _ _ lent after ((λ i. flag_true i ∷ 0 ∷ 0 ∷ word ∷ []) ∙ (λ i. entry_layout (entries.entry_words (sym e i)))) h

    pub entry_refused_lem : (number : ℕ) → answer ≡ Err number → after ≡ answered (0 ∷ number ∷ 0 ∷ 0 ∷ []) lent → after ≡ answered (entry_layout (entries.entry_words answer)) lent
    unfolding entry_layout
    entry_refused_lem number e h =
        answer_same _ _ lent after ((λ i. flag_false i ∷ number ∷ 0 ∷ 0 ∷ []) ∙ (λ i. entry_layout (entries.entry_words (sym e i)))) h

    pub entry_said : (words : entries.EntryWords) → entries.entry_words answer ≡ words → after ≡ answered (entry_layout (entries.entry_words answer)) lent → after ≡ answered (entry_layout words) lent
    entry_said words is h = answer_same _ _ lent after (ap entry_layout is) h

  module _ (answer : Walked) where
    pub walk_stepped : (step : StepRecord) (next : Place) → answer ≡ walked.Step step next → (words : List ℕ) → words ≡ 1 ∷ 0 ∷ 0 ∷ 0 ∷ step_layout step next → after ≡ answered words lent →
        after ≡ answered (walk_layout (walks.walk_words answer)) lent
    unfolding walk_layout
    walk_stepped step next e words told h =
        answer_same _ _ lent after
        (told
        ∙ (λ i. flag_true i ∷ 0 ∷ 0 ∷ flag_false i ∷ step_layout step next) ∙ (λ i. walk_layout (walks.walk_words (sym e i)))) h

    module _ (none : StepRecord) (is_none : none ≡ no_step) where
      pub walk_done : (place : Place) → answer ≡ walked.Done place → (words : List ℕ) → words ≡ 1 ∷ 0 ∷ 0 ∷ 1 ∷ step_layout none place → after ≡ answered words lent →
          after ≡ answered (walk_layout (walks.walk_words answer)) lent
      unfolding walk_layout
      walk_done place e words told h =
          answer_same _ _ lent after
          (told
          ∙ (λ i. flag_true i ∷ 0 ∷ 0 ∷ flag_true i ∷ step_layout (is_none i) place) ∙ (λ i. walk_layout (walks.walk_words (sym e i)))) h

      pub walk_refused : (number : ℕ) → answer ≡ walked.Refused number →
          (words : List ℕ) → words ≡ 0 ∷ number ∷ 0 ∷ 0 ∷ step_layout none (record { model = 0; step = 0; depth = 0 }) → after ≡ answered words lent →
          after ≡ answered (walk_layout (walks.walk_words answer)) lent
      unfolding walk_layout
      walk_refused number e words told h =
          answer_same _ _ lent after
          (told
          ∙ (λ i. flag_false i ∷ number ∷ 0 ∷ flag_false i ∷ step_layout (is_none i) (record { model = 0; step = 0; depth = 0 }))
          ∙ (λ i. walk_layout (walks.walk_words (sym e i)))) h

    pub walk_said : (words : walks.WalkWords) → walks.walk_words answer ≡ words → after ≡ answered (walk_layout (walks.walk_words answer)) lent → after ≡ answered (walk_layout words) lent
    walk_said words is h = answer_same _ _ lent after (ap walk_layout is) h

  module _ (answer : WholeAnswer) where
    pub matrix_found : (conductors : ℕ) → answer ≡ whole.Found conductors → after ≡ answered (1 ∷ 0 ∷ 0 ∷ conductors ∷ []) lent → after ≡ answered (matrix_layout (matrices.whole_words answer)) lent
    unfolding matrix_layout
    matrix_found conductors e h =
        answer_same _ _ lent after ((λ i. flag_true i ∷ 0 ∷ 0 ∷ conductors ∷ []) ∙ (λ i. matrix_layout (matrices.whole_words (sym e i)))) h

    pub matrix_short : (conductors : ℕ) → answer ≡ whole.Short conductors → after ≡ answered (0 ∷ 0 ∷ 0 ∷ conductors ∷ []) lent → after ≡ answered (matrix_layout (matrices.whole_words answer)) lent
    unfolding matrix_layout
    matrix_short conductors e h =
        answer_same _ _ lent after ((λ i. flag_false i ∷ 0 ∷ 0 ∷ conductors ∷ []) ∙ (λ i. matrix_layout (matrices.whole_words (sym e i)))) h

    pub matrix_refused_lem : (number : ℕ) → answer ≡ whole.Refused number → after ≡ answered (0 ∷ number ∷ 0 ∷ 0 ∷ []) lent → after ≡ answered (matrix_layout (matrices.whole_words answer)) lent
    unfolding matrix_layout
    matrix_refused_lem number e h =
        answer_same _ _ lent after ((λ i. flag_false i ∷ number ∷ 0 ∷ 0 ∷ []) ∙ (λ i. matrix_layout (matrices.whole_words (sym e i)))) h

    pub matrix_said : (words : matrices.MatrixWords) → matrices.whole_words answer ≡ words → after ≡ answered (matrix_layout (matrices.whole_words answer)) lent → after ≡ answered (matrix_layout words) lent
    matrix_said words is h = answer_same _ _ lent after (ap matrix_layout is) h

  module _ (answer told : Option Float) (is : answer ≡ told) where
    pub double_drawn : (x : Float) → answer ≡ Some x → after ≡ answered (1 ∷ 0 ∷ 0 ∷ to_bits binary64 x ∷ []) lent → after ≡ answered (double_layout told) lent
    unfolding double_layout
    double_drawn x e h = rw (← is, e) h

    pub double_outside : answer ≡ None → after ≡ answered (0 ∷ 0 ∷ 0 ∷ 0 ∷ []) lent → after ≡ answered (double_layout told) lent
    unfolding double_layout
    double_outside e h = rw (← is, e) h

  module _ (answer told : Option (Float × Float)) (is : answer ≡ told) where
    pub pair_drawn : (x y : Float) → answer ≡ Some (x, y) → after ≡ answered (1 ∷ 0 ∷ 0 ∷ to_bits binary64 x ∷ to_bits binary64 y ∷ []) lent → after ≡ answered (pair_layout told) lent
    unfolding pair_layout
    pair_drawn x y e h = rw (← is, e) h

    pub pair_outside : answer ≡ None → after ≡ answered (0 ∷ 0 ∷ 0 ∷ 0 ∷ 0 ∷ []) lent → after ≡ answered (pair_layout told) lent
    unfolding pair_layout
    pair_outside e h = rw (← is, e) h

-- a double that is drawn has bits: it is not a NaN
pub double_bits : (answer : Option Float) (word : ℕ) (x : Float) → answer ≡ drawn_of word → answer ≡ Some x → T (not (is_nan x))
double_bits answer word x is e = never_nan word x (sym is ∙ e)

module _ (answer : Option (Float × Float)) (frequency value : ℕ) (x y : Float) (is : answer ≡ paired (drawn_of frequency) (drawn_of value)) (e : answer ≡ Some (x, y)) where
  pub frequency_bits : T (not (is_nan x))
  frequency_bits = never_nan frequency x (pair_frequency frequency value x y (sym is ∙ e))

  pub value_bits : T (not (is_nan y))
  value_bits = never_nan value y (pair_value frequency value x y (sym is ∙ e))

-- lent words that are too few are left unchanged, whatever the answer
module _ (lent : List ℕ) (short : length lent < 4) where
  pub intake_left : (outcome : verdicts.Outcome) → lent ≡ answered (intake_layout outcome) lent
  unfolding intake_layout
  intake_left outcome = answer_left _ lent short

  pub matrix_left : (words : matrices.MatrixWords) → lent ≡ answered (matrix_layout words) lent
  unfolding matrix_layout
  matrix_left words = answer_left _ lent short

-- ---- what else is lent: the table and the values

module _ (answer : List ℕ) (room : 4 ≤ length answer) where
  pub table_kept : (t table after : List ℕ) (size : ℕ) (given outcome : verdicts.Outcome) → given ≡ outcome → after ≡ verdicts.table_for t size given →
      after ≡ table_after answer (verdicts.table_for t size outcome) table
  table_kept t table after size given outcome e h = table_taken answer room _ table after (h ∙ ap (verdicts.table_for t size) e)

  pub values_kept : (table values after : List ℕ) (section kind : ℕ) (given words : matrices.MatrixWords) → given ≡ words →
      after ≡ matrices.room_after table section kind given values → after ≡ values_after answer (matrices.room_after table section kind words values) values
  values_kept table values after section kind given words e h =
      values_filled answer room _ values after (h ∙ ap (λ (w : matrices.MatrixWords). matrices.room_after table section kind w values) e)

-- the default of a step is the step of no index
pub no_step_is : (x : StepRecord) → (x.kind ≡ 0) × ((x.target ≡ 0) × ((x.amount ≡ 0) × ((x.side ≡ 0) × ((x.side_size ≡ 0) × (x.line ≡ 0))))) → x ≡ no_step
no_step_is x h = λ i. record { kind = h.0 i; target = h.1.0 i; amount = h.1.1.0 i; side = h.1.1.1.0 i; side_size = h.1.1.1.1.0 i; line = h.1.1.1.1.1 i }
