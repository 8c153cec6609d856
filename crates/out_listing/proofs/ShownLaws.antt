-- Laws of the records that a table shows: those that its view locates; none if the table does not fit.
-- Assumes nothing.
use mathlib.Core.Path.{◌≡◌, refl, sym, ◌∙◌, ap}
use mathlib.Core.Bool.{true, false, true≢false}
use mathlib.Core.List.{List, []}
use Prim.Native.Nat.{ℕ, zero, suc, ◌-◌, ◌≤◌, ◌<◌, min}
use native.Mathlib.Omega.{arith}
use lib.ListN.{length, get_or, replicate, get_or-eq_default}
use Rattle.base.proofs.IfLaws.{if_true, if_false, by_cases}
use Rattle.table_layout.specs.Layout.{models, steps, maps, sections, matrices, values, part_count}
use Rattle.table_layout.specs.Bounds.{most_values}
use Rattle.table_layout.specs.View.{view_of}
use Rattle.std.specs.Prelude.{Option, Some, None, is_some, unwrap_or}
use Rattle.base.specs.If.{provided◌then◌else◌}
use Rattle.table_layout.specs.declared.View.{View}
use Rattle.table_record.specs.declared.MatrixRecord.{MatrixRecord}
use Rattle.table_record.specs.Records.{Records, records_of, no_records, no_model, no_step, no_map, no_section, no_matrix, no_value}
use Rattle.table_record.specs.Way.Standing.{count_of, Rooms}
use Rattle.table_record.proofs.RecordLaws.{view_rooms, models_long, steps_long, maps_long, sections_long_lem, matrices_long, values_long}
use Rattle.out_listing.specs.Shown.{shown, values_in}
use Rattle.out_listing.specs.Way.View.{no_view, shown_view}

zeros_at : (n p : ℕ) → get_or {A = ℕ} (replicate n 0) p 0 ≡ 0
zeros_at zero p = refl
zeros_at (suc n) zero = refl
zeros_at (suc n) (suc p) = zeros_at n p

none_counted : (part : ℕ) → get_or no_view.counts part 0 ≡ 0
none_counted part = zeros_at part_count part

-- the view that is shown is the table's own, or it has no record
either_view : (table : List ℕ) (P : View → Option View → Type 0) → ((v : View) → P v (Some v)) → P no_view None → P (shown_view table) (view_of table)
either_view table P some none = elim (view_of table) as (λ o. P (unwrap_or o no_view) o) [ Some v ↦ some v | None ↦ none ]

module _ (table : List ℕ) (v : View) (is_view : v ≡ shown_view table) where
  has_view : (part i : ℕ) → i < get_or v.counts part 0 → Some v ≡ view_of table
  has_view part i h =
      rw is_view
      (either_view table (λ w o. i < get_or w.counts part 0 → Some w ≡ o) (λ w k. refl)
      (λ (k : i < get_or no_view.counts part 0). let z = none_counted part in absurd (omega arith))
      (rw is_view at h))

  pub has_rooms : (part i : ℕ) → i < get_or v.counts part 0 → Rooms table v
  has_rooms part i h = view_rooms table v (has_view part i h)

  module _ {A : Type 0} (of : Records → List A) (none : A) (part : ℕ) (empty : of no_records ≡ []) (long : Rooms table v → length (of (records_of table)) ≡ count_of v part) where
    -- how many are shown
    shown_long : get_or v.counts part 0 ≡ length (of (shown table))
    unfolding shown
    shown_long =
        by_cases _ (is_some (view_of table))
        (λ (e : is_some (view_of table) ≡ true). sym (ap (λ (r : Records). length (of r)) (if_true _ _ e) ∙ long (view_rooms table v (fitting e))))
        (λ (e : is_some (view_of table) ≡ false).
        counts_none e ∙ sym (ap (λ (r : Records). length (of r)) (if_false _ _ e) ∙ ap length empty))
      where
        fitting : is_some (view_of table) ≡ true → Some v ≡ view_of table
        fitting e = rw is_view (either_view table (λ w o. is_some o ≡ true → Some w ≡ o) (λ w k. refl) (λ (k : false ≡ true). absurd (true≢false (sym k))) e)

        counts_none : is_some (view_of table) ≡ false → get_or v.counts part 0 ≡ 0
        counts_none e = rw is_view (either_view table (λ w o. is_some o ≡ false → get_or w.counts part 0 ≡ 0) (λ w (k : true ≡ false). absurd (true≢false k)) (λ k. none_counted part) e)

    pub shown_none : (i : ℕ) → get_or v.counts part 0 ≤ i → (x : A) → x ≡ none → x ≡ get_or (of (shown table)) i none
    shown_none i h x is =
        let l : get_or v.counts part 0 ≡ length (of (shown table)) = shown_long in
        let k : length (of (shown table)) ≤ i = omega arith in
        is ∙ sym (get_or-eq_default (of (shown table)) none k)

    pub shown_there : (i : ℕ) → i < get_or v.counts part 0 → (x : A) → x ≡ get_or (of (records_of table)) i none → x ≡ get_or (of (shown table)) i none
    unfolding shown
    shown_there i h x is =
        is ∙ ap (λ (r : Records). get_or (of r) i none) (sym (if_true _ _ (sym (ap is_some (has_view part i h)))))

  pub models_shown : get_or v.counts models 0 ≡ length (shown table).models
  models_shown = shown_long (λ (r : Records). r.models) no_model models refl (models_long table v)

  pub steps_shown : get_or v.counts steps 0 ≡ length (shown table).steps
  steps_shown = shown_long (λ (r : Records). r.steps) no_step steps refl (steps_long table v)

  pub maps_shown : get_or v.counts maps 0 ≡ length (shown table).maps
  maps_shown = shown_long (λ (r : Records). r.maps) no_map maps refl (maps_long table v)

  pub sections_shown : get_or v.counts sections 0 ≡ length (shown table).sections
  sections_shown = shown_long (λ (r : Records). r.sections) no_section sections refl (sections_long_lem table v)

  pub matrices_shown : get_or v.counts matrices 0 ≡ length (shown table).matrices
  matrices_shown = shown_long (λ (r : Records). r.matrices) no_matrix matrices refl (matrices_long table v)

  pub values_shown : get_or v.counts values 0 ≡ length (shown table).values
  values_shown = shown_long (λ (r : Records). r.values) no_value values refl (values_long table v)

-- "65,536 values"
pub values_few : (table : List ℕ) → length (shown table).values ≤ most_values
unfolding shown
values_few table =
    either_view table (λ w o. (is : o ≡ view_of table) → length (provided is_some o then records_of table else no_records).values ≤ most_values)
    (λ w is. rw (if_true (records_of table) no_records refl, values_long table w (view_rooms table w is)) (view_rooms table w is).few_values)
    (λ is. rw (if_false (records_of table) no_records refl) (omega arith)) refl

-- how many values of a matrix are shown
pub values_told : (table : List ℕ) (v : View) → v ≡ shown_view table → (m : MatrixRecord) (rest few : ℕ) → rest ≡ get_or v.counts values 0 - m.first → few ≡ min m.values rest → few ≡ values_in (shown table) m
unfolding values_in
values_told table v is_view m rest few is_rest is =
    is ∙ ap (min m.values) (is_rest ∙ ap (λ (k : ℕ). k - m.first) (values_shown table v is_view))
