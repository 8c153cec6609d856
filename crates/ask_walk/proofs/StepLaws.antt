-- Laws of one step: what is known at each `return` gives the definition.
-- Assumes nothing.
use mathlib.Core.Path.{◌≡◌, sym, ◌∙◌, ap}
use mathlib.Core.Bool.{Bool, true, false, not}
use mathlib.Core.List.{List}
use Prim.Native.Nat.{ℕ, ◌+◌}
use lib.ListN.{get_or}
use borrow.Author.Tests.{eq-eqb, ne_eqb, not-false}
use Rattle.base.specs.Refusal as refusal
use Rattle.base.proofs.IfLaws.{if_true, if_false, not_via, not_not_via}
use Rattle.table_record.specs.declared.StepRecord.{StepRecord}
use Rattle.table_record.specs.declared.ModelRecord.{ModelRecord}
use Rattle.table_record.specs.Records.{Records, records_of, no_step}
use Rattle.std.specs.Prelude.{None}
use Rattle.ask_sound.specs.Sound.{depth_after, is_sound, sound_view}
use Rattle.ask_sound.proofs.SoundLaws.{told_unsound}
use Rattle.ask_walk.specs.declared.Place.{Place}
use Rattle.ask_walk.specs.Walk.{WalkWords, stepped, done_at, walk_refused, model_at_place, step_at_place, is_place, next_of, walk_over, walk_on, walk_from, walk_answer}

pub next_is :
    (p : Place) (kind depth : ℕ) → depth ≡ depth_after p.depth kind →
    ◌≡◌ {A = Place} (record { model = p.model; step = p.step + 1; depth = depth }) (next_of p kind)
unfolding next_of
next_is p kind depth e = ap (λ (d : ℕ). record { model = p.model; step = p.step + 1; depth = d }) e

pub over_steps : (s : StepRecord) (p next : Place) → next ≡ next_of p s.kind → stepped s next ≡ walk_over s p
unfolding walk_over
over_steps s p next e = ap (stepped s) e

-- ---- from a place that is in range

module _ (r : Records) (p : Place) (m : ModelRecord) (here : m ≡ model_at_place r p) where
  pub on_done : p.step ≡ m.steps → done_at p ≡ walk_on r p
  unfolding walk_on
  on_done e = sym (if_true _ _ (eq-eqb _ _ (e ∙ ap (λ (x : ModelRecord). x.steps) here)))

  pub on_over : (p.step ≡ m.steps → ⊥) → (s : StepRecord) → s ≡ get_or r.steps (m.first + p.step) no_step → (answer : WalkWords) → answer ≡ walk_over s p → answer ≡ walk_on r p
  unfolding walk_on step_at_place
  on_over n s there answer e =
      e ∙ ap (λ (x : StepRecord). walk_over x p) (there ∙ ap (λ (x : ModelRecord). get_or r.steps (x.first + p.step) no_step) here)
      ∙ sym (if_false _ _ (ne_eqb _ _ (λ (f : p.step ≡ (model_at_place r p).steps). n (f ∙ ap (λ (x : ModelRecord). x.steps) (sym here)))))

-- ---- 31 and 30

module _ (r : Records) (p : Place) (is : Bool) (told : is ≡ is_place r p) where
  pub from_none : not is ≡ true → walk_refused refusal.no_such ≡ walk_from r p
  unfolding walk_from
  from_none e = sym (if_true _ _ (ap not (sym told) ∙ e))

  pub in_place : not is ≡ false → is_place r p ≡ true
  in_place e = sym told ∙ not-false is e

  pub from_place : not is ≡ false → (answer : WalkWords) → answer ≡ walk_on r p → answer ≡ walk_from r p
  unfolding walk_from
  from_place e answer f = f ∙ sym (if_false _ _ (ap not (sym told) ∙ e))

-- where the table is known to be sound and the place to be in range
pub walk_known : (t table : List ℕ) (p : Place) → is_sound t table ≡ true → is_place (records_of table) p ≡ true →
    (answer : WalkWords) → answer ≡ walk_on (records_of table) p → answer ≡ walk_answer t table p
unfolding walk_answer walk_from
walk_known t table p sound there answer f = f ∙ sym (if_false _ _ (not_not_via sound) ∙ if_false _ _ (not_not_via there))

module _ (t table : List ℕ) (p : Place) where
  pub walk_unsound : None ≡ sound_view t table → walk_refused refusal.table ≡ walk_answer t table p
  unfolding walk_answer
  walk_unsound none = sym (if_true _ _ (not_via (told_unsound t table none)))

  pub walk_sound : is_sound t table ≡ true → (answer : WalkWords) → answer ≡ walk_from (records_of table) p → answer ≡ walk_answer t table p
  unfolding walk_answer
  walk_sound sound answer f = f ∙ sym (if_false _ _ (not_not_via sound))
