-- Records that are staged: stored one behind another while the lines that write them are judged, before it is known where
-- their part begins. What is staged and what is left is the whole.
-- Assumes nothing.
use Rattle.std.specs.Prelude.{ℕ, zero, suc, ◌+◌, ◌*◌, ◌≤◌, ◌≡◌, List, [], ◌∷◌, ◌++◌, map, length, take, get_or, leb}
use Rattle.std.proofs.lemmas.List.Edits.{sets}
use Rattle.base.specs.If.{provided◌then◌else◌}
use Rattle.table_layout.specs.Layout.{model_width, joined}
use Rattle.table_record.specs.Records.{model_words}
use Rattle.table_record.specs.Way.Standing.{model_at}
use Rattle.table_record.specs.declared.stage.StagedModel.{StagedModel}
use Rattle.table_record.specs.declared.stage.StagedStep.{StagedStep}

-- the words of records, one record after another
unfoldable pub words_of : {A : Type 0} → (A → List ℕ) → List A → List ℕ
words_of words xs = joined (map words xs)

-- words are stored where they fit, else nothing is
unfoldable pub put_at : ℕ → List ℕ → List ℕ → List ℕ
put_at at words stage = provided leb (at + length words) (length stage) then sets stage at words else stage

-- the first k records are staged, and with those that are left they are the whole, if the whole fits
pub record Held {A : Type 0} (words : A → List ℕ) (width : ℕ) (whole : List A) (stage : List ℕ) (k : ℕ) (left : List A) : Type 0 where
  pub image : width * length whole ≤ length stage → take (width * k) stage ++ words_of words left ≡ words_of words whole
  pub count : k + length left ≡ length whole

-- all records are staged, if they fit
pub record Whole {A : Type 0} (words : A → List ℕ) (width : ℕ) (whole : List A) (stage : List ℕ) : Type 0 where
  pub all : width * length whole ≤ length stage → take (width * length whole) stage ≡ words_of words whole

-- so many staged records, from the i-th on; `item` gives the one whose words begin at a word
unfoldable pub staged_from : {A : Type 0} → (ℕ → A) → ℕ → ℕ → ℕ → List A
staged_from item width i zero = []
staged_from item width i (suc n) = item (width * i) ∷ staged_from item width (i + 1) n

-- ---- a model, with the line of its SGR

abbrev pub staged_model_width : ℕ
staged_model_width = model_width + 1

abbrev pub staged_model_words : StagedModel → List ℕ
staged_model_words m = model_words m.model ++ (m.sgr ∷ [])

-- the staged model whose words begin at a word
abbrev pub staged_model_at : List ℕ → ℕ → StagedModel
staged_model_at stage at = record { model = model_at stage at; sgr = get_or stage (at + model_width) 0 }

-- ---- a step, before its target is known

abbrev pub staged_step_width : ℕ
staged_step_width = 8

abbrev pub staged_step_words : StagedStep → List ℕ
staged_step_words s =
    s.kind ∷ s.name ∷ s.name_size ∷ s.amount ∷ s.mult ∷ s.side ∷ s.side_size ∷ s.line ∷ []

-- the staged step whose words begin at a word
abbrev pub staged_step_at : List ℕ → ℕ → StagedStep
staged_step_at stage at =
    record {
      kind = get_or stage at 0;
      name = get_or stage (at + 1) 0;
      name_size = get_or stage (at + 2) 0;
      amount = get_or stage (at + 3) 0;
      mult = get_or stage (at + 4) 0;
      side = get_or stage (at + 5) 0;
      side_size = get_or stage (at + 6) 0;
      line = get_or stage (at + 7) 0;
    }
