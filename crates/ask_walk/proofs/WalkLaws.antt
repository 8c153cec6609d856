-- What a walk promises: exactly one answer; no refusals but 30 and 31, in this order; and a next place that is in range
-- again, beginning with the first place of each model.
-- Assumes nothing.
use mathlib.Core.Path.{◌≡◌, refl, sym, ◌∙◌, ap}
use mathlib.Core.Bool.{Bool, true, false, not}
use mathlib.Core.List.{List}
use Prim.Native.Nat.{ℕ, ◌+◌, ◌≤◌, ◌<◌, zero-le}
use native.Mathlib.Numerals.{add-one}
use native.Mathlib.Omega.{arith}
use lib.ListN.{length, take, get_or}
use lib.Dec.{eqb}
use borrow.Author.Tests.{eq-eqb, le-leb, lt-ltb}
use Rattle.table_record.specs.Records.{Records, records_of, no_model}
use Rattle.table_layout.specs.Codes.{fork_kind, endfork_kind}
use Rattle.base.specs.If.{provided◌then◌else◌, both}
use Rattle.base.specs.Refusal as refusal
use Rattle.base.proofs.IfLaws.{by_test, both_true}
use Rattle.ask_sound.specs.Sound.{depth_after, is_sound}
use Rattle.ask_walk.specs.declared.Place.{Place}
use Rattle.ask_walk.specs.declared.Walked.{Walked}
use Rattle.ask_walk.specs.declared.Walked.TheVariants.{Step, Done, Refused}
use Rattle.ask_walk.specs.Walk.{WalkWords, walk_words, walk_refused, model_at_place, step_at_place, count_kind, is_depth, kinds_before, is_place, next_of, walk_over, walk_on, walk_from, walk_answer}
use Rattle.ask_walk.proofs.KindLaws.{Moves, moves, count_next}
use Rattle.ask_walk.proofs.DepthLaws.{path_kinds, has_model, its_depth, has_step, step_kind, may_be_here}

-- ---- one answer

-- the case of an answer, found from its words
abbrev cased : Bool → Bool → WalkWords → Walked
cased true true w = Done w.next
cased true false w = Step w.step w.next
cased false done w = Refused w.rule

walked : WalkWords → Walked
walked w = cased w.answered w.done w

walked_words : (r : Walked) → walked (walk_words r) ≡ r
unfolding walked
walked_words (Step words next) = refl
walked_words (Done place) = refl
walked_words (Refused number) = refl

-- the words determine the answer
pub one_answer : (r s : Walked) (w : WalkWords) → walk_words r ≡ w → walk_words s ≡ w → r ≡ s
one_answer r s w e f = sym (walked_words r) ∙ ap walked (e ∙ sym f) ∙ walked_words s

-- ---- the place handed back

module _ (t table : List ℕ) (sound : is_sound t table ≡ true) (p : Place) (in_range_lem : is_place (records_of table) p ≡ true) where
  abbrev r : Records
  r = records_of table

  abbrev its_kinds : List ℕ
  its_kinds = path_kinds r p

  module _ (more : p.step < (model_at_place r p).steps) where
    counted : (kind : ℕ) → count_kind kind (take (p.step + 1) its_kinds) ≡ (provided eqb (step_at_place r p).kind kind then count_kind kind (take p.step its_kinds) + 1 else count_kind kind (take p.step its_kinds))
    counted kind = rw (add-one p.step) (rw (step_kind t table sound p in_range_lem more) at (count_next kind its_kinds p.step (has_step t table sound p in_range_lem more)))

    next_depth :
        depth_after p.depth (step_at_place r p).kind + count_kind endfork_kind (take (p.step + 1) its_kinds) ≡ count_kind fork_kind (take (p.step + 1) its_kinds)
    next_depth =
        let now : p.depth + count_kind endfork_kind (take p.step its_kinds) ≡ count_kind fork_kind (take p.step its_kinds) = its_depth t table sound p in_range_lem in
        let c : count_kind endfork_kind (take (p.step + 1) its_kinds) ≡ (provided eqb (step_at_place r p).kind endfork_kind then count_kind endfork_kind (take p.step its_kinds) + 1 else count_kind endfork_kind (take p.step its_kinds)) = counted endfork_kind in
        let o : count_kind fork_kind (take (p.step + 1) its_kinds) ≡ (provided eqb (step_at_place r p).kind fork_kind then count_kind fork_kind (take p.step its_kinds) + 1 else count_kind fork_kind (take p.step its_kinds)) = counted fork_kind in
        let m : Moves p.depth (step_at_place r p).kind (count_kind fork_kind (take p.step its_kinds)) (count_kind endfork_kind (take p.step its_kinds)) =
        moves p.depth (step_at_place r p).kind (may_be_here t table sound p in_range_lem more) _ _ in
        omega arith

    -- the next place is in range again
    pub next_place : is_place r (next_of p (step_at_place r p).kind) ≡ true
    unfolding is_place is_depth kinds_before next_of
    next_place =
        let h : p.step + 1 ≤ (model_at_place r p).steps = omega (arith, more) in
        both_true _ _ (lt-ltb _ _ (has_model t table sound p in_range_lem)) (both_true _ _ (le-leb _ _ h) (eq-eqb _ _ next_depth))

-- the first place of any model is in range
pub first_place : (r : Records) (i : ℕ) → i < length r.models → is_place r (record { model = i; step = 0; depth = 0 }) ≡ true
unfolding is_place is_depth kinds_before count_kind
first_place r i h = both_true _ _ (lt-ltb _ _ h) (both_true _ _ (le-leb 0 (get_or r.models i no_model).steps zero-le) refl)

-- ---- refusals

-- a place in range of a sound table is answered
on_answers : (r : Records) (p : Place) → ((walk_on r p).answered ≡ true) × ((walk_on r p).rule ≡ 0)
unfolding walk_on walk_over
on_answers r p =
    by_test (λ (w : WalkWords). (w.answered ≡ true) × (w.rule ≡ 0)) (eqb p.step (model_at_place r p).steps) _ _ (λ e. (refl, refl)) (λ e. (refl, refl))

module _ (on : WalkWords) (answers : (on.answered ≡ true) × (on.rule ≡ 0)) where
  two_numbers :
      (sound place : Bool) →
      (provided not sound then walk_refused refusal.table else provided not place then walk_refused refusal.no_such else on).rule
      ≡ (provided not sound then refusal.table else provided not place then refusal.no_such else 0)
  unfolding provided◌then◌else◌
  two_numbers true true = answers.1
  two_numbers true false = refl
  two_numbers false place = refl

  two_refuse :
      (sound place : Bool) → (provided not sound then walk_refused refusal.table else provided not place then walk_refused refusal.no_such else on).answered ≡ both sound place
  unfolding provided◌then◌else◌ both
  two_refuse true true = answers.0
  two_refuse true false = refl
  two_refuse false place = refl

module _ (t table : List ℕ) (p : Place) where
  -- "Questions: 30, 31"
  pub refused_by_lem : (walk_answer t table p).rule ≡ (provided not (is_sound t table) then refusal.table else provided not (is_place (records_of table) p) then refusal.no_such else 0)
  unfolding walk_answer walk_from
  refused_by_lem = two_numbers (walk_on (records_of table) p) (on_answers (records_of table) p) (is_sound t table) (is_place (records_of table) p)

  -- a walk is answered from every place in range of every sound table, and from no other
  pub answered_when : (walk_answer t table p).answered ≡ both (is_sound t table) (is_place (records_of table) p)
  unfolding walk_answer walk_from
  answered_when = two_refuse (walk_on (records_of table) p) (on_answers (records_of table) p) (is_sound t table) (is_place (records_of table) p)
