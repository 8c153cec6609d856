-- Laws of a step that is stored: its target, and its record.
-- Assumes nothing.
use mathlib.Core.Path.{◌≡◌, sym, ◌∙◌, ap}
use mathlib.Core.List.{List}
use Prim.Native.Nat.{ℕ}
use lib.Seq.{sets}
use borrow.Author.Tests.{eq-eqb, ne_eqb}
use Rattle.base.proofs.IfLaws.{if_true, if_false}
use Rattle.table_layout.specs.Codes.{end_kind, section_kind}
use Rattle.table_layout.specs.Layout.{map_width, section_width}
use Rattle.table_record.specs.Records.{step_words}
use Rattle.table_record.specs.declared.stage.StagedStep.{StagedStep}
use Rattle.table_name.specs.Name.{name_at}
use Rattle.table_name.specs.Way.Search.{find_in}
use Rattle.store_table.specs.Way.Targets.{Targets, target_found, record_found}

-- ---- one step

module _ (t : List ℕ) (x : Targets) (s : StagedStep) (name : List ℕ) (is_name : name ≡ name_at t s.name s.name_size) (r : ℕ) where
  pub end_found : s.kind ≡ end_kind → r ≡ find_in t x.maps 0 map_width x.map_count name s.name → r ≡ target_found t x s
  unfolding target_found
  end_found k e =
      e ∙ ap (λ (n : List ℕ). find_in t x.maps 0 map_width x.map_count n s.name) is_name ∙ sym (if_true _ _ (eq-eqb _ _ k))

  pub section_found : (s.kind ≡ end_kind → ⊥) → s.kind ≡ section_kind → r ≡ find_in t x.sections 0 section_width x.section_count name 0 →
      r ≡ target_found t x s
  unfolding target_found
  section_found n k e =
      e ∙ ap (λ (m : List ℕ). find_in t x.sections 0 section_width x.section_count m 0) is_name
      ∙ sym (if_false _ _ (ne_eqb _ _ n) ∙ if_true _ _ (eq-eqb _ _ k))

pub none_found : (t : List ℕ) (x : Targets) (s : StagedStep) → (s.kind ≡ end_kind → ⊥) → (s.kind ≡ section_kind → ⊥) → 0 ≡ target_found t x s
unfolding target_found
none_found t x s n m = sym (if_false _ _ (ne_eqb _ _ n) ∙ if_false _ _ (ne_eqb _ _ m))

pub record_found_lem : (t : List ℕ) (x : Targets) (s : StagedStep) (target : ℕ) → target ≡ target_found t x s → (table table' : List ℕ) (at : ℕ) →
    table' ≡ sets table at (step_words (record { kind = s.kind; target = target; amount = s.amount; side = s.side; side_size = s.side_size; line = s.line })) →
    table' ≡ sets table at (step_words (record_found t x s))
unfolding record_found
record_found_lem t x s target e table table' at h = rw e at h
