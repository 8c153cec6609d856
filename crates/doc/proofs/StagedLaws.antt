-- Laws of the staged models and steps of a text: each is found again at its index.
-- Assumes nothing.
use mathlib.Core.Path.{◌≡◌, refl, sym, ◌∙◌, ap}
use mathlib.Core.List.{List, [], ◌∷◌, ◌++◌, map}
use Prim.Native.Nat.{ℕ, suc, ◌+◌, ◌*◌, ◌≤◌}
use native.Mathlib.Nat.{mul-le-mul, le_refl, le_trans}
use native.Mathlib.Omega.{arith}
use lib.ListN.{length, take, drop, length-append}
use lib.Seq.{drop_at}
use Rattle.table_record.specs.Way.Stage.{words_of, staged_from, staged_model_width, staged_model_words, staged_model_at, staged_step_width, staged_step_at}
use Rattle.table_record.specs.declared.ModelRecord.{ModelRecord}
use Rattle.table_record.specs.declared.stage.StagedModel.{StagedModel}
use Rattle.table_record.proofs.StageLaws.{words_append, words_cons, words_long, drop_taken, model_back, step_back, staged_back}
use Rattle.line_keyword.specs.declared.Counts.{Counts}
use Rattle.read_line.specs.Reading.{reading_of}
use Rattle.read_line.specs.declared.Reading.TheVariants.{Read}
use Rattle.doc.specs.Lines.{significant, gather}
use Rattle.doc.specs.Document.{Step, Model, step_of, document_of}
use Rattle.doc.specs.Records.{model_records}
use Rattle.doc.specs.Way.Holds.{counts_of}
use Rattle.doc.specs.Way.Staged.{staged_model, staged_models, ModelsStaged, staged_step, step_staged, StepsStaged}
use Rattle.doc.proofs.PassLaws.{steps_of_text}
use Rattle.doc.proofs.CountLaws.{many_models, many_steps, counts_bounded}

-- ---- models

pub models_told : (first : ℕ) (ms : List Model) → map (λ (x : StagedModel). x.model) (staged_models first ms) ≡ model_records first ms
unfolding staged_models model_records
models_told first [] = refl
models_told first (m ∷ ms) = ap (λ (rs : List ModelRecord). (staged_model first m).model ∷ rs) (models_told (first + length m.steps) ms)

pub staged_models_long : (first : ℕ) (ms : List Model) → length (staged_models first ms) ≡ length ms
unfolding staged_models
staged_models_long first [] = refl
staged_models_long first (m ∷ ms) = ap suc (staged_models_long (first + length m.steps) ms)

-- of a text that reads to its end
module _ (t : List ℕ) (c : Counts) (reads : reading_of t ≡ Read c) (stage : List ℕ) (staged : ModelsStaged t stage) where
  pub models_inside : staged_model_width * c.models ≤ length stage
  unfolding counts_of
  models_inside = le_trans (mul-le-mul (le_refl staged_model_width) (counts_bounded t c reads 0)) staged.room

  pub models_staged : staged_from (staged_model_at stage) staged_model_width 0 c.models ≡ staged_models 0 (document_of t).models
  models_staged =
      let ms : List StagedModel = staged_models 0 (document_of t).models in
      let n : length ms ≡ c.models = staged_models_long 0 (document_of t).models ∙ many_models t c reads in
      let fits : staged_model_width * length ms ≤ length stage = rw n models_inside in
      ap (staged_from (staged_model_at stage) staged_model_width 0) (sym n)
      ∙ staged_back staged_model_words staged_model_width (λ (x : StagedModel). refl) staged_model_at model_back ms stage 0 (staged.whole.all fits)

-- ---- steps

-- the step behind so many others
staged_at : (pre post : List Step) (s : Step) (stage : List ℕ) →
    take (staged_step_width * length (pre ++ (s ∷ post))) stage ≡ words_of step_staged (pre ++ (s ∷ post)) → staged_step_at stage (staged_step_width * length pre) ≡ staged_step s
staged_at pre post s stage e =
    let front : ℕ = staged_step_width * length pre in
    let l : length (pre ++ (s ∷ post)) ≡ length pre + suc (length post) = length-append pre (s ∷ post) in
    let n : staged_step_width * length (pre ++ (s ∷ post)) ≡ front + (staged_step_width + staged_step_width * length post) = omega arith in
    let w : length (words_of step_staged pre) ≡ front = words_long step_staged staged_step_width (λ (x : Step). refl) pre in
    let words : words_of step_staged (pre ++ (s ∷ post)) ≡ words_of step_staged pre ++ (step_staged s ++ words_of step_staged post) =
    words_append step_staged pre (s ∷ post) ∙ ap (λ (r : List ℕ). words_of step_staged pre ++ r) (words_cons step_staged s post) in
    let behind : take (staged_step_width + staged_step_width * length post) (drop front stage) ≡ step_staged s ++ words_of step_staged post =
    sym (drop_taken front (staged_step_width + staged_step_width * length post) stage)
    ∙ ap (λ (k : ℕ). drop front (take k stage)) (sym n)
    ∙ ap (drop front) (e ∙ words)
    ∙ drop_at (words_of step_staged pre) (step_staged s ++ words_of step_staged post) front w in
    step_back (staged_step s) (words_of step_staged post) stage front (staged_step_width + staged_step_width * length post) (omega arith) behind

-- of a text that reads to its end
module _ (t : List ℕ) (c : Counts) (reads : reading_of t ≡ Read c) (stage : List ℕ) (staged : StepsStaged t stage) where
  pub steps_inside : staged_step_width * c.steps ≤ length stage
  unfolding counts_of
  steps_inside = le_trans (mul-le-mul (le_refl staged_step_width) (counts_bounded t c reads 1)) staged.room

  pub step_staged_lem : (pre post : List Step) (s : Step) → gather step_of (significant t) ≡ pre ++ (s ∷ post) →
      staged_step_at stage (staged_step_width * length pre) ≡ staged_step s
  step_staged_lem pre post s e =
      let n : length (gather step_of (significant t)) ≡ c.steps = ap length (sym (steps_of_text t)) ∙ many_steps t c reads in
      let fits : staged_step_width * length (gather step_of (significant t)) ≤ length stage = rw n steps_inside in
      staged_at pre post s stage (rw e at (staged.whole.all fits))
