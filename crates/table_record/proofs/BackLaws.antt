-- Laws of the records as words: each is as wide as its part requires, and their layout, taken apart, gives them back.
-- Assumes nothing.
use mathlib.Core.Path.{◌≡◌, refl}
use mathlib.Core.List.{List, [], ◌∷◌, ◌++◌, map}
use Prim.Native.Nat.{ℕ}
use lib.ListN.{length, replicate}
use Rattle.table_layout.specs.Layout.{widths, layout, model_width, step_width, map_width, pin_width, section_width, matrix_width, value_width}
use Rattle.table_layout.specs.Way.Parts.{AllLong, Wide}
use Rattle.table_layout.proofs.LayoutLaws.{taken_apart}
use Rattle.table_record.specs.Records.{Records, model_words, step_words, map_words, pin_words, section_words, matrix_words, value_words, to_model, to_step, to_map, to_pin, to_section, to_matrix, to_value, parts_of, records_in, records_of}
use Rattle.table_record.specs.declared.ModelRecord.{ModelRecord}
use Rattle.table_record.specs.declared.StepRecord.{StepRecord}
use Rattle.table_record.specs.declared.MapRecord.{MapRecord}
use Rattle.table_record.specs.declared.PinRecord.{PinRecord}
use Rattle.table_record.specs.declared.SectionRecord.{SectionRecord}
use Rattle.table_record.specs.declared.MatrixRecord.{MatrixRecord}
use Rattle.table_record.specs.declared.Value.{Value}

-- ---- records of any one kind

module _ {A : Type 0} (words : A → List ℕ) where
  pub all_wide : (w : ℕ) → ((x : A) → length (words x) ≡ w) → (xs : List A) → AllLong w (map words xs)
  all_wide w wide [] = AllLong.none
  all_wide w wide (x ∷ xs) = AllLong.more (wide x) (all_wide w wide xs)

  all_back : (back : List ℕ → A) → ((x : A) → back (words x) ≡ x) → (xs : List A) → map back (map words xs) ≡ xs
  all_back back same [] = refl
  all_back back same (x ∷ xs) = λ i. same x i ∷ all_back back same xs i

-- ---- all of them

pub records_wide : (r : Records) → Wide widths (parts_of r)
unfolding parts_of
records_wide r =
    Wide.more (all_wide model_words model_width (λ (x : ModelRecord). refl) r.models)
    (Wide.more (all_wide step_words step_width (λ (x : StepRecord). refl) r.steps)
    (Wide.more (all_wide map_words map_width (λ (x : MapRecord). refl) r.maps)
    (Wide.more (all_wide pin_words pin_width (λ (x : PinRecord). refl) r.pins)
    (Wide.more (all_wide section_words section_width (λ (x : SectionRecord). refl) r.sections)
    (Wide.more (all_wide matrix_words matrix_width (λ (x : MatrixRecord). refl) r.matrices)
    (Wide.more (all_wide value_words value_width (λ (x : Value). refl) r.values) Wide.none))))))

parts_back : (r : Records) → records_in (parts_of r) ≡ r
unfolding parts_of records_in
parts_back r =
    λ i.
    record {
      models = all_back model_words to_model (λ (x : ModelRecord). refl) r.models i;
      steps = all_back step_words to_step (λ (x : StepRecord). refl) r.steps i;
      maps = all_back map_words to_map (λ (x : MapRecord). refl) r.maps i;
      pins = all_back pin_words to_pin (λ (x : PinRecord). refl) r.pins i;
      sections = all_back section_words to_section (λ (x : SectionRecord). refl) r.sections i;
      matrices = all_back matrix_words to_matrix (λ (x : MatrixRecord). refl) r.matrices i;
      values = all_back value_words to_value (λ (x : Value). refl) r.values i;
    }

-- a table that holds records, with any zeros after them, gives these records back
pub records_back : (r : Records) (z : ℕ) → records_of (layout (parts_of r) ++ replicate z 0) ≡ r
unfolding records_of
records_back r z = rw (taken_apart widths (parts_of r) z (records_wide r)) (parts_back r)
