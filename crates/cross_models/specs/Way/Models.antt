-- What is asked of the record of a model, what the steps of a model give, and what is asked of a staged model.
-- Assumes nothing.
use Rattle.std.specs.Prelude.{ℕ, ◌+◌, ◌*◌, ◌≤◌, ◌<◌, ◌≡◌, Bool, false, not, List, [], ◌∷◌, ◌++◌, length, drop, get_or, eqb}
use Rattle.cross_rules.specs.Way.Findings.{step_findings, model_findings}
use Rattle.base.specs.If.{provided◌then◌else◌, both}
use Rattle.base.specs.Broken.{◌when◌, first_broken}
use Rattle.base.specs.Refusal as refusal
use Rattle.table_layout.specs.Codes.{slm_general}
use Rattle.table_layout.specs.Layout.{models, steps, model_width}
use Rattle.table_layout.specs.declared.View.{View}
use Rattle.table_record.specs.Records.{Records, records_of, range, no_model}
use Rattle.table_record.specs.Way.Standing.{base_of, count_of, Rooms}
use Rattle.table_record.specs.Way.Stage.{staged_step_width, staged_step_at}
use Rattle.table_record.specs.declared.ModelRecord.{ModelRecord}
use Rattle.table_record.specs.declared.stage.StagedModel.{StagedModel}
use Rattle.doc.specs.Document.{Model, Document, document_of}
use Rattle.cross_rules.specs.Rules.{no_finding}
use Rattle.cross_rules.specs.Way.First.{first_in}
use Rattle.cross_rules.specs.Way.Repeated.{is_repeated}
use Rattle.cross_rules.specs.declared.Finding.{Finding}
use Rattle.cross_steps.specs.Way.StepWords.{first_target}
use Rattle.cross_steps.specs.declared.Owner.{Owner}

-- ---- by the records of the table

abbrev pub model_of : Records → ℕ → ModelRecord
model_of r i = get_or r.models i no_model

-- the records of the model and of its steps are there
pub record ModelRoom (table : List ℕ) (v : View) (i : ℕ) : Type 0 where
  pub rooms : Rooms table v
  pub there : i < count_of v models
  pub inside : (model_of (records_of table) i).first + (model_of (records_of table) i).steps ≤ count_of v steps

unfoldable pub owner_at : Records → ℕ → Owner
owner_at r i =
    record {
      kind = (model_of r i).kind;
      from = (model_of r i).first;
      many = (model_of r i).steps;
      first = first_target (length r.maps) (range (model_of r i).first (model_of r i).steps r.steps);
      stamp = i;
    }

unfoldable pub model_rule_at : List ℕ → List ℕ → View → List Bool → ℕ → ℕ
model_rule_at t table v listed i =
    first_broken
    (refusal.twice when is_repeated t table (base_of v models) model_width i
    ∷ refusal.list when not (get_or listed i false)
    ∷ [])

-- the amount of the staged step at an index is a Mult
unfoldable pub mult_at : List ℕ → ℕ → Bool
mult_at steps index = eqb (staged_step_at steps (staged_step_width * index)).mult 1

-- ---- by the staged models

unfoldable pub is_wrong_sgr : StagedModel → Bool
is_wrong_sgr m = both (not (eqb m.sgr 0)) (not (eqb m.model.kind slm_general))

-- the first SGR line that a model has and should not have
unfoldable pub first_sgr : List StagedModel → Finding
first_sgr [] = no_finding
first_sgr (m ∷ ms) = provided is_wrong_sgr m then record { rule = refusal.sgr; line = m.sgr } else first_sgr ms

-- ---- by the document

-- what the models from one on break, but for that model's own line
unfoldable pub below_first : Document → List Model → List Finding
below_first d [] = []
below_first d (m ∷ ms) = step_findings d m ++ model_findings d ms

-- what they break is what all that is left breaks first; where they break nothing, the models behind give it
pub record StepsTold (t : List ℕ) (index : ℕ) (r : Finding) : Type 0 where
  pub broken : (r.rule ≡ 0 → ⊥) → r ≡ first_in (below_first (document_of t) (drop index (document_of t).models))
  pub kept :
      r.rule ≡ 0 →
      first_in (model_findings (document_of t) (drop (index + 1) (document_of t).models))
      ≡ first_in (below_first (document_of t) (drop index (document_of t).models))
