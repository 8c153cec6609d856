-- Where the records of a model and of its steps are among those of a document.
-- Assumes nothing.
use mathlib.Core.Path.{◌≡◌, refl, sym, ◌∙◌, ap}
use mathlib.Core.List.{List, [], ◌∷◌, ◌++◌, map, map-append, append_assoc}
use Prim.Native.Nat.{ℕ, ◌+◌, ◌<◌}
use native.Mathlib.Nat.{zero-add}
use native.Mathlib.Omega.{arith}
use lib.ListN.{length, get_or, length-append, length-map}
use lib.Seq.{get_or_at, get_or-append-add}
use Rattle.table_record.specs.Records.{no_model, no_step, range}
use Rattle.table_record.specs.declared.StepRecord.{StepRecord}
use Rattle.doc.specs.Document.{Step, Model, Map, Section, Document}
use Rattle.doc.specs.Records.{step_record, step_records, model_record, model_records, flatten}
use Rattle.ask_sound.specs.Sound as sound
use Rattle.law_sound.proofs.EveryLaws.{range_middle}
use Rattle.law_sound.proofs.PartLaws.{kinds_more}
use Rattle.law_third.specs.Third.{step_kinds}
use Rattle.doc.proofs.CountLaws.{models_long}

module _ (maps : List Map) (sections : List Section) where
  steps_append : (before ms : List Model) → step_records maps sections (before ++ ms) ≡ step_records maps sections before ++ step_records maps sections ms
  unfolding step_records
  steps_append [] ms = refl
  steps_append (b ∷ before) ms =
      ap (λ (ss : List StepRecord). map (step_record maps sections) b.steps ++ ss) (steps_append before ms)
      ∙ sym (append_assoc (map (step_record maps sections) b.steps) (step_records maps sections before) (step_records maps sections ms))

  steps_more : (m : Model) (ms : List Model) → step_records maps sections (m ∷ ms) ≡ map (step_record maps sections) m.steps ++ step_records maps sections ms
  unfolding step_records
  steps_more m ms = refl

  steps_none : length (step_records maps sections []) ≡ 0
  unfolding step_records
  steps_none = refl

  steps_many : (m : Model) (ms : List Model) → length (step_records maps sections (m ∷ ms)) ≡ length m.steps + length (step_records maps sections ms)
  steps_many m ms =
      ap length (steps_more m ms) ∙ length-append (map (step_record maps sections) m.steps) (step_records maps sections ms)
      ∙ ap (λ (n : ℕ). n + length (step_records maps sections ms)) (length-map m.steps (step_record maps sections))

  -- its first step comes after the steps of the models before it
  model_at_lem :
      (first : ℕ) (before behind : List Model) (m : Model) →
      get_or (model_records first (before ++ (m ∷ behind))) (length before) no_model ≡ model_record (first + length (step_records maps sections before)) m
  unfolding model_records
  model_at_lem first [] behind m =
      let n : length (step_records maps sections []) ≡ 0 = steps_none in
      let e : first ≡ first + length (step_records maps sections []) = omega arith in
      ap (λ (k : ℕ). model_record k m) e
  model_at_lem first (b ∷ before) behind m =
      let n : length (step_records maps sections (b ∷ before)) ≡ length b.steps + length (step_records maps sections before) = steps_many b before in
      let e : first + length b.steps + length (step_records maps sections before) ≡ first + length (step_records maps sections (b ∷ before)) = omega arith in
      model_at_lem (first + length b.steps) before behind m ∙ ap (λ (k : ℕ). model_record k m) e

module _ (d : Document) (before behind : List Model) (m : Model) (stands : d.models ≡ before ++ (m ∷ behind)) where
  abbrev own : List Step → List StepRecord
  own steps = map (step_record d.maps d.sections) steps

  abbrev records_before : List StepRecord
  records_before = step_records d.maps d.sections before

  abbrev records_behind : List StepRecord
  records_behind = step_records d.maps d.sections behind

  pub its_model : get_or (flatten d).models (length before) no_model ≡ model_record (length records_before) m
  unfolding flatten
  its_model =
      ap (λ (ms : List Model). get_or (model_records 0 ms) (length before) no_model) stands ∙ model_at_lem d.maps d.sections 0 before behind m
      ∙ ap (λ (n : ℕ). model_record n m) (zero-add (length records_before))

  pub its_place : length before < length (flatten d).models
  unfolding flatten
  its_place =
      let l : length (model_records 0 d.models) ≡ length before + length (m ∷ behind) =
      models_long 0 d.models ∙ ap length stands ∙ length-append before (m ∷ behind) in
      omega arith

  its_steps : (flatten d).steps ≡ records_before ++ (own m.steps ++ records_behind)
  unfolding flatten
  its_steps =
      ap (step_records d.maps d.sections) stands ∙ steps_append d.maps d.sections before (m ∷ behind)
      ∙ ap (λ (ss : List StepRecord). records_before ++ ss) (steps_more d.maps d.sections m behind)

  -- each of its steps
  pub its_step :
      (above below : List Step) (s : Step) → m.steps ≡ above ++ (s ∷ below) →
      get_or (flatten d).steps (length records_before + length above) no_step ≡ step_record d.maps d.sections s
  its_step above below s e =
      ap (λ (ss : List StepRecord). get_or ss (length records_before + length above) no_step) its_steps
      ∙ get_or-append-add records_before (own m.steps ++ records_behind) (length above) no_step
      ∙ ap (λ (ss : List StepRecord). get_or ss (length above) no_step) split
      ∙ get_or_at (own above) (step_record d.maps d.sections s) (own below ++ records_behind) no_step (length above) (length-map above (step_record d.maps d.sections))
    where
      split : own m.steps ++ records_behind ≡ own above ++ (step_record d.maps d.sections s ∷ (own below ++ records_behind))
      split =
          ap (λ (ss : List Step). own ss ++ records_behind) e
          ∙ ap (λ (ss : List StepRecord). ss ++ records_behind) (map-append (step_record d.maps d.sections) above (s ∷ below))
          ∙ append_assoc (own above) (own (s ∷ below)) records_behind

  -- the kinds of its steps
  kinds_split : sound.record_kinds (flatten d).steps ≡ sound.record_kinds records_before ++ sound.record_kinds (step_records d.maps d.sections (m ∷ behind))
  unfolding sound.record_kinds flatten
  kinds_split =
      ap (map (λ (s : StepRecord). s.kind)) (ap (step_records d.maps d.sections) stands ∙ steps_append d.maps d.sections before (m ∷ behind))
      ∙ map-append (λ (s : StepRecord). s.kind) records_before (step_records d.maps d.sections (m ∷ behind))

  kinds_long : length (sound.record_kinds records_before) ≡ length records_before
  unfolding sound.record_kinds
  kinds_long = length-map records_before (λ (s : StepRecord). s.kind)

  pub its_kinds : range (length records_before) (length m.steps) (sound.record_kinds (flatten d).steps) ≡ step_kinds m.steps
  its_kinds =
      ap (range (length records_before) (length m.steps))
      (kinds_split ∙ ap (λ (ks : List ℕ). sound.record_kinds records_before ++ ks) (kinds_more d.maps d.sections m behind))
      ∙ range_middle (sound.record_kinds records_before) (step_kinds m.steps) (sound.record_kinds records_behind) (length records_before) (length m.steps) kinds_long
      (length-map m.steps (λ (s : Step). s.kind))
