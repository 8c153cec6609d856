-- Laws of the parts that are stored before the values.
-- Assumes nothing.
use mathlib.Core.Path.{◌≡◌, refl, sym, ◌∙◌, ap}
use mathlib.Core.List.{List, [], ◌∷◌, ◌++◌}
use Prim.Native.Nat.{ℕ, ◌+◌, ◌*◌, ◌≤◌}
use native.Mathlib.Omega.{arith}
use lib.ListN.{length, take, length-append}
use lib.Seq.{sets, length-sets, length-take-le}
use Rattle.base.proofs.StoreLaws.{sets_append}
use Rattle.table_layout.specs.Layout.{model_width, step_width, map_width, pin_width, section_width, matrix_width}
use Rattle.table_record.specs.Way.Stage.{words_of, staged_from, staged_model_width, staged_model_at, staged_step_width, staged_step_at}
use Rattle.table_record.specs.declared.stage.StagedModel.{StagedModel}
use Rattle.table_record.specs.declared.stage.StagedStep.{StagedStep}
use Rattle.line_keyword.specs.declared.Counts.{Counts}
use Rattle.store_table.specs.Way.Targets.{Targets}
use Rattle.store_table.proofs.StoringLaws.{stored_long}
use Rattle.store_table.specs.Way.Front.{part_words, targets_of, model_stored, step_stored, models_words, steps_words, family_words, family_long, FamilyThere, sections_words, sections_long}

-- ---- one part

put_kept : (table table' : List ℕ) (at : ℕ) (ws : List ℕ) → table' ≡ sets table at ws → length table' ≡ length table
put_kept table table' at ws e = ap length e ∙ length-sets table at ws

module _ (table table' : List ℕ) (at width count : ℕ) (stage : List ℕ) (h : width * count ≤ length stage) where
  pub words_there : width * count ≡ length (take (width * count) stage)
  words_there = sym (length-take-le (width * count) stage h)

  module _ (counted : List ℕ) (first : counted ≡ sets table at (count ∷ [])) where
    pub words_room : at + 1 + width * count ≤ length table → at + 1 + length (take (width * count) stage) ≤ length counted
    words_room k =
        let l : length counted ≡ length table = put_kept table counted at (count ∷ []) first in
        let m : length (take (width * count) stage) ≡ width * count = sym words_there in
        omega arith

    module _ (second : table' ≡ sets counted (at + 1) (take (width * count) stage)) where
      pub part_put : table' ≡ sets table at (part_words width count stage)
      unfolding part_words
      part_put = second ∙ ap (λ (u : List ℕ). sets u (at + 1) (take (width * count) stage)) first ∙ sym (sets_append table at (count ∷ []) (take (width * count) stage))

part_long : (width count : ℕ) (stage : List ℕ) → width * count ≤ length stage → length (part_words width count stage) ≡ 1 + width * count
unfolding part_words
part_long width count stage h = let l : length (take (width * count) stage) ≡ width * count = length-take-le (width * count) stage h in omega arith

-- ---- sections and matrices

module _ (c : Counts) (sections matrices : List ℕ) (sections_there : section_width * c.sections ≤ length sections) (matrices_there : matrix_width * c.matrices ≤ length matrices)
    (t₀ t₁ t₂ : List ℕ) (at a b : ℕ)
    (first : (a ≡ at + 1 + section_width * c.sections) × (t₁ ≡ sets t₀ at (part_words section_width c.sections sections)))
    (second : (b ≡ a + 1 + matrix_width * c.matrices) × (t₂ ≡ sets t₁ a (part_words matrix_width c.matrices matrices))) where
  pub sections_put : (t₃ : List ℕ) → t₃ ≡ sets t₂ b (c.values ∷ []) → t₃ ≡ sets t₀ at (sections_words c sections matrices)
  unfolding sections_words
  sections_put t₃ third =
      let p : List ℕ = part_words section_width c.sections sections in
      let q : List ℕ = part_words matrix_width c.matrices matrices in
      let l : length p ≡ 1 + section_width * c.sections = part_long section_width c.sections sections sections_there in
      let m : length q ≡ 1 + matrix_width * c.matrices = part_long matrix_width c.matrices matrices matrices_there in
      let e : a ≡ at + 1 + section_width * c.sections = first.0 in
      let f : b ≡ a + 1 + matrix_width * c.matrices = second.0 in
      let x : at + length p ≡ a = omega arith in
      let y : a + length q ≡ b = omega arith in
      sym (sets_append t₀ at p (q ++ (c.values ∷ []))
      ∙ (λ i. sets (sym first.1 i) (x i) (q ++ (c.values ∷ [])))
      ∙ sets_append t₁ a q (c.values ∷ [])
      ∙ (λ i. sets (sym second.1 i) (y i) (c.values ∷ []))
      ∙ sym third)

-- ---- the family

models_long : (count : ℕ) (models : List ℕ) → length (models_words count models) ≡ 1 + model_width * count
unfolding models_words
models_long count models =
    let n : length (words_of model_stored (staged_from (staged_model_at models) staged_model_width 0 count)) ≡ model_width * count =
    stored_long (staged_model_at models) staged_model_width model_stored model_width (λ (x : StagedModel). refl) count in
    omega arith

-- the models behind their count
pub models_put : (count : ℕ) (models t₀ counted t₁ : List ℕ) → counted ≡ sets t₀ 0 (count ∷ []) →
    t₁ ≡ sets counted 1 (words_of model_stored (staged_from (staged_model_at models) staged_model_width 0 count)) → t₁ ≡ sets t₀ 0 (models_words count models)
unfolding models_words
models_put count models t₀ counted t₁ first second =
    let ws : List ℕ = words_of model_stored (staged_from (staged_model_at models) staged_model_width 0 count) in
    second ∙ ap (λ (u : List ℕ). sets u 1 ws) first ∙ sym (sets_append t₀ 0 (count ∷ []) ws)

steps_long : (t : List ℕ) (x : Targets) (count : ℕ) (steps : List ℕ) → length (steps_words t x count steps) ≡ 1 + step_width * count
unfolding steps_words
steps_long t x count steps =
    let n : length (words_of (step_stored t x) (staged_from (staged_step_at steps) staged_step_width 0 count)) ≡ step_width * count =
    stored_long (staged_step_at steps) staged_step_width (step_stored t x) step_width (λ (s : StagedStep). refl) count in
    omega arith

module _ (t : List ℕ) (c : Counts) (models steps maps pins sections : List ℕ) (there : FamilyThere c models steps maps pins sections)
    (t₀ t₁ : List ℕ) (a : ℕ) (first : (a ≡ 1 + model_width * c.models) × (t₁ ≡ sets t₀ 0 (models_words c.models models)))
    (counted t₂ : List ℕ) (count : counted ≡ sets t₁ a (c.steps ∷ []))
    (second : t₂ ≡ sets counted (a + 1) (words_of (step_stored t (targets_of c maps sections)) (staged_from (staged_step_at steps) staged_step_width 0 c.steps))) where
  abbrev models_words_lem : List ℕ
  models_words_lem = models_words c.models models

  abbrev steps_words_lem : List ℕ
  steps_words_lem = steps_words t (targets_of c maps sections) c.steps steps

  steps_put : t₂ ≡ sets t₁ a steps_words_lem
  unfolding steps_words
  steps_put =
      let ws : List ℕ = words_of (step_stored t (targets_of c maps sections)) (staged_from (staged_step_at steps) staged_step_width 0 c.steps) in
      second ∙ ap (λ (u : List ℕ). sets u (a + 1) ws) count ∙ sym (sets_append t₁ a (c.steps ∷ []) ws)

  pub steps_kept : length t₂ ≡ length t₀
  steps_kept = put_kept t₁ t₂ a steps_words_lem steps_put ∙ put_kept t₀ t₁ 0 models_words_lem first.1

  module _ (t₃ : List ℕ) (d : ℕ)
      (third : (d ≡ a + 1 + step_width * c.steps + 1 + map_width * c.maps) × (t₃ ≡ sets t₂ (a + 1 + step_width * c.steps) (part_words map_width c.maps maps))) where
    pub maps_kept : length t₃ ≡ length t₀
    maps_kept = put_kept t₂ t₃ (a + 1 + step_width * c.steps) (part_words map_width c.maps maps) third.1 ∙ steps_kept

    module _ (t₄ : List ℕ) (e : ℕ) (fourth : (e ≡ d + 1 + pin_width * c.pins) × (t₄ ≡ sets t₃ d (part_words pin_width c.pins pins))) where
      pub family_put : (e ≡ family_long c) × (t₄ ≡ sets t₀ 0 (family_words t c models steps maps pins sections))
      unfolding family_words
      family_put =
          let p : List ℕ = models_words_lem in
          let q : List ℕ = steps_words_lem in
          let r : List ℕ = part_words map_width c.maps maps in
          let s : List ℕ = part_words pin_width c.pins pins in
          let l : length p ≡ 1 + model_width * c.models = models_long c.models models in
          let m : length q ≡ 1 + step_width * c.steps = steps_long t (targets_of c maps sections) c.steps steps in
          let n : length r ≡ 1 + map_width * c.maps = part_long map_width c.maps maps there.maps_there in
          let f : a ≡ 1 + model_width * c.models = first.0 in
          let g : d ≡ a + 1 + step_width * c.steps + 1 + map_width * c.maps = third.0 in
          let h : e ≡ d + 1 + pin_width * c.pins = fourth.0 in
          let x : 0 + length p ≡ a = omega arith in
          let y : a + length q ≡ a + 1 + step_width * c.steps = omega arith in
          let z : a + 1 + step_width * c.steps + length r ≡ d = omega arith in (
            omega arith,
            sym (sets_append t₀ 0 p (q ++ (r ++ s))
                ∙ (λ i. sets (sym first.1 i) (x i) (q ++ (r ++ s)))
                ∙ sets_append t₁ a q (r ++ s)
                ∙ (λ i. sets (sym steps_put i) (y i) (r ++ s))
                ∙ sets_append t₂ (a + 1 + step_width * c.steps) r s
                ∙ (λ i. sets (sym third.1 i) (z i) s)
                ∙ sym fourth.1),
          )

-- ---- how many words there are

pub family_long_lem : (t : List ℕ) (c : Counts) (models steps maps pins sections : List ℕ) → FamilyThere c models steps maps pins sections →
    length (family_words t c models steps maps pins sections) ≡ family_long c
unfolding family_words
family_long_lem t c models steps maps pins sections there =
    let p : List ℕ = models_words c.models models in
    let q : List ℕ = steps_words t (targets_of c maps sections) c.steps steps in
    let r : List ℕ = part_words map_width c.maps maps in
    let s : List ℕ = part_words pin_width c.pins pins in
    let a : length p ≡ 1 + model_width * c.models = models_long c.models models in
    let b : length q ≡ 1 + step_width * c.steps = steps_long t (targets_of c maps sections) c.steps steps in
    let d : length r ≡ 1 + map_width * c.maps = part_long map_width c.maps maps there.maps_there in
    let e : length s ≡ 1 + pin_width * c.pins = part_long pin_width c.pins pins there.pins_there in
    let f : length (p ++ (q ++ (r ++ s))) ≡ length p + length (q ++ (r ++ s)) = length-append p (q ++ (r ++ s)) in
    let g : length (q ++ (r ++ s)) ≡ length q + length (r ++ s) = length-append q (r ++ s) in
    let h : length (r ++ s) ≡ length r + length s = length-append r s in
    omega arith

pub sections_length : (c : Counts) (sections matrices : List ℕ) → section_width * c.sections ≤ length sections → matrix_width * c.matrices ≤ length matrices →
    length (sections_words c sections matrices) ≡ sections_long c
unfolding sections_words
sections_length c sections matrices there also =
    let p : List ℕ = part_words section_width c.sections sections in
    let q : List ℕ = part_words matrix_width c.matrices matrices in
    let a : length p ≡ 1 + section_width * c.sections = part_long section_width c.sections sections there in
    let b : length q ≡ 1 + matrix_width * c.matrices = part_long matrix_width c.matrices matrices also in
    let f : length (p ++ (q ++ (c.values ∷ []))) ≡ length p + length (q ++ (c.values ∷ [])) = length-append p (q ++ (c.values ∷ [])) in
    let g : length (q ++ (c.values ∷ [])) ≡ length q + 1 = length-append q (c.values ∷ []) in
    omega arith
