-- Laws of the record of a model: what it says for its steps, and its rules by the records of the table, which are those of the
-- document.
-- Assumes nothing.
use mathlib.Core.Path.{◌≡◌, refl, sym, ◌∙◌, ap}
use mathlib.Core.Bool.{Bool, true, false, not, true≢false}
use mathlib.Core.List.{List, [], ◌∷◌, ◌++◌, map, append_assoc}
use Prim.Native.Nat.{ℕ, suc, ◌+◌, ◌≤◌, ◌<◌}
use native.Mathlib.Nat.{add-zero, zero-add}
use native.Mathlib.Omega.{arith}
use lib.ListN.{length, take, get_or, length-map, length-append}
use lib.Seq.{drop-append_seam, take_at}
use lib.Dec.{eqb}
use borrow.Author.Tests.{eq-eqb, ne_eqb}
use Rattle.cross_rules.specs.Way.Findings.{model_rule}
use Rattle.base.specs.Broken.{first}
use Rattle.base.specs.Refusal as refusal
use Rattle.base.specs.Runs.{same}
use Rattle.base.proofs.IfLaws.{if_true, if_false, by_cases, either_none_first, either_none_second}
use Rattle.base.proofs.RunLaws.{same_refl, same_equal}
use Rattle.base.proofs.BrokenLaws.{first_broken_lem, first_kept}
use Rattle.table_layout.specs.Layout.{models, steps, maps, model_width}
use Rattle.std.specs.Prelude.{Some}
use Rattle.table_layout.specs.View.{view_of}
use Rattle.table_layout.specs.declared.View.{View}
use Rattle.table_record.specs.Records.{records_of, range, no_model}
use Rattle.table_record.specs.Way.Standing.{base_of, count_of, Rooms}
use Rattle.table_record.specs.declared.ModelRecord.{ModelRecord}
use Rattle.table_record.specs.declared.StepRecord.{StepRecord}
use Rattle.table_record.proofs.RecordLaws.{maps_long}
use Rattle.doc.specs.Document.{Named, Model, Map, Section, Document, document_of}
use Rattle.doc.specs.Records.{index_of, step_record, step_records, model_record, model_records, flatten}
use Rattle.doc.proofs.BlockLaws.{joined}
use Rattle.doc.proofs.PassLaws.{steps_joined}
use Rattle.cross_rules.specs.Rules.{any, same_word, is_twice, is_there, model_name}
use Rattle.cross_rules.specs.Way.HoldsText.{HoldsText}
use Rattle.cross_rules.specs.Way.Repeated.{is_repeated}
use Rattle.cross_rules.proofs.OrderLaws.{in_order}
use Rattle.cross_rules.proofs.TwiceLaws.{model_twice}
use Rattle.cross_rules.proofs.TableLaws.{text_records, text_rooms, many_steps}
use Rattle.cross_rules.proofs.NamesLaws.{same_comm, mapped_here, model_repeated}
use Rattle.cross_names.specs.Way.Listed.{model_named, is_listed, Listed}
use Rattle.cross_names.proofs.NamedLaws.{any_by, texts, first_has, first as first_named}
use Rattle.cross_steps.specs.Way.StepWords.{first_target}
use Rattle.cross_steps.proofs.JoinLaws.{Owns}
use Rattle.cross_models.specs.Way.Models.{model_of, ModelRoom, owner_at, model_rule_at}

-- ---- what a model says for its steps

-- its steps are there
pub steps_asked : (table : List ℕ) (v : View) (i : ℕ) → ModelRoom table v i → (m : ModelRecord) → m ≡ get_or (records_of table).models i no_model → m.first + m.steps ≤ count_of v steps
steps_asked table v i room m here = rw here room.inside

pub owner_told :
    (table : List ℕ) (v : View) (rooms : Rooms table v) (i : ℕ) (m : ModelRecord) → m ≡ get_or (records_of table).models i no_model → (first : ℕ) →
    first ≡ first_target (count_of v maps) (range m.first m.steps (records_of table).steps) →
    record { kind = m.kind; from = m.first; many = m.steps; first = first; stamp = i } ≡ owner_at (records_of table) i
unfolding owner_at
owner_told table v rooms i m here first is =
    let f : first ≡ first_target (length (records_of table).maps) (range (model_of (records_of table) i).first (model_of (records_of table) i).steps (records_of table).steps) =
    is ∙ (λ j. first_target (sym (maps_long table v rooms) j) (range (here j).first (here j).steps (records_of table).steps)) in
    λ j. record { kind = (here j).kind; from = (here j).first; many = (here j).steps; first = f j; stamp = i }

-- the record of a model, and those of its steps, behind those of the models before it
module _ (ms : List Map) (ss : List Section) where
  abbrev steps_of : List Model → List StepRecord
  steps_of xs = step_records ms ss xs

  steps_many : (m : Model) (xs : List Model) → length (steps_of (m ∷ xs)) ≡ length m.steps + length (steps_of xs)
  unfolding step_records
  steps_many m xs =
      length-append (map (step_record ms ss) m.steps) (steps_of xs) ∙ ap (λ (n : ℕ). n + length (steps_of xs)) (length-map m.steps (step_record ms ss))

  model_at_lem :
      (first : ℕ) (before : List Model) (m : Model) (behind : List Model) →
      get_or (model_records first (before ++ (m ∷ behind))) (length before) no_model ≡ model_record (first + length (steps_of before)) m
  unfolding model_records step_records
  model_at_lem first [] m behind = ap (λ (k : ℕ). model_record k m) (sym (add-zero first))
  model_at_lem first (b ∷ before) m behind =
      let l : length (steps_of (b ∷ before)) ≡ length b.steps + length (steps_of before) = steps_many b before in
      let e : first + length b.steps + length (steps_of before) ≡ first + length (steps_of (b ∷ before)) = omega arith in
      model_at_lem (first + length b.steps) before m behind ∙ ap (λ (k : ℕ). model_record k m) e

  steps_split : (before : List Model) (m : Model) (behind : List Model) →
      steps_of (before ++ (m ∷ behind)) ≡ steps_of before ++ (map (step_record ms ss) m.steps ++ steps_of behind)
  unfolding step_records
  steps_split [] m behind = refl
  steps_split (b ∷ before) m behind =
      ap (λ (rs : List StepRecord). map (step_record ms ss) b.steps ++ rs) (steps_split before m behind)
      ∙ sym (append_assoc (map (step_record ms ss) b.steps) (steps_of before) (map (step_record ms ss) m.steps ++ steps_of behind))

  module _ (before : List Model) (m : Model) (behind : List Model) where
    steps_at : range (length (steps_of before)) (length m.steps) (steps_of (before ++ (m ∷ behind))) ≡ map (step_record ms ss) m.steps
    steps_at =
        ap (range (length (steps_of before)) (length m.steps)) (steps_split before m behind)
        ∙ ap (take (length m.steps)) (drop-append_seam (steps_of before) (map (step_record ms ss) m.steps ++ steps_of behind))
        ∙ take_at (map (step_record ms ss) m.steps) (steps_of behind) (length m.steps) (length-map m.steps (step_record ms ss))

    steps_within : length (steps_of before) + length m.steps ≤ length (steps_of (before ++ (m ∷ behind)))
    steps_within =
        let l : length (steps_of (before ++ (m ∷ behind))) ≡ length (steps_of before) + length (map (step_record ms ss) m.steps ++ steps_of behind) =
        ap length (steps_split before m behind) ∙ length-append (steps_of before) (map (step_record ms ss) m.steps ++ steps_of behind) in
        let k : length (map (step_record ms ss) m.steps ++ steps_of behind) ≡ length (map (step_record ms ss) m.steps) + length (steps_of behind) =
        length-append (map (step_record ms ss) m.steps) (steps_of behind) in
        let n : length (map (step_record ms ss) m.steps) ≡ length m.steps = length-map m.steps (step_record ms ss) in
        omega arith

-- ---- the model that a line of the list names

-- the first of its name
first_is : (before : List Model) (m : Model) (behind : List Model) → is_there (map model_name before) (model_name m) ≡ false →
    first_named m.name.text (before ++ (m ∷ behind)) ≡ length before
unfolding is_there any index_of same_word
first_is [] m behind h = if_true _ _ (same_refl m.name.text)
first_is (x ∷ before) m behind h =
    if_false _ _ (same_comm m.name.text x.name.text ∙ either_none_first _ _ h) ∙ ap suc (first_is before m behind (either_none_second _ _ h))

module _ (d : Document) (before : List Model) (m : Model) (behind : List Model) (split : d.models ≡ before ++ (m ∷ behind))
    (once : is_there (map model_name before) (model_name m) ≡ false) where
  place_is : first_named m.name.text d.models ≡ length before
  place_is = rw split (first_is before m behind once)

  before_end : length before < length d.models
  before_end =
      let l : length (before ++ (m ∷ behind)) ≡ length before + suc (length behind) = length-append before (m ∷ behind) in
      rw split (omega arith)

  name_finds : (n : Named) → same_word n.name m.name ≡ eqb (model_named d n) (length before)
  unfolding same_word model_named
  name_finds n =
      by_cases _ (same n.name.text m.name.text)
      (λ (e : same n.name.text m.name.text ≡ true).
      e ∙ sym (eq-eqb _ _ (ap (λ (s : List ℕ). first_named s d.models) (same_equal _ _ e) ∙ place_is)))
      (λ (e : same n.name.text m.name.text ≡ false).
      e
      ∙ sym (ne_eqb _ _
      (λ (z : first_named n.name.text d.models ≡ length before).
      let k : first_named n.name.text d.models < length d.models = rw z before_end in
      let f : get_or (texts d.models) (length before) [] ≡ n.name.text =
      ap (λ (i : ℕ). get_or (texts d.models) i []) (sym z) ∙ first_has n.name.text d.models k in
      let g : get_or (texts d.models) (length before) [] ≡ m.name.text = rw split (mapped_here (λ (x : Model). x.name.text) before behind m []) in
      true≢false (sym (rw (sym f ∙ g) (same_refl m.name.text)) ∙ e))))

  -- its flag is raised where the list has its name
  listed_is : is_there d.listed (model_name m) ≡ is_listed d (length before)
  unfolding is_there is_listed
  listed_is = any_by _ _ name_finds d.listed

-- ---- the model that stands behind so many others

module _ (d : Document) (before : List Model) (m : Model) (behind : List Model) (split : d.models ≡ before ++ (m ∷ behind)) where
  abbrev first_step : ℕ
  first_step = length (steps_of d.maps d.sections before)

  record_here : model_of (flatten d) (length before) ≡ model_record first_step m
  unfolding flatten
  record_here =
      ap (λ (ms : List Model). get_or (model_records 0 ms) (length before) no_model) split
      ∙ model_at_lem d.maps d.sections 0 before m behind
      ∙ ap (λ (k : ℕ). model_record k m) (zero-add first_step)

  steps_here : range first_step (length m.steps) (flatten d).steps ≡ map (step_record d.maps d.sections) m.steps
  unfolding flatten
  steps_here =
      ap (λ (ms : List Model). range first_step (length m.steps) (step_records d.maps d.sections ms)) split
      ∙ steps_at d.maps d.sections before m behind

  first_is_here : (model_of (flatten d) (length before)).first ≡ first_step
  unfolding model_record
  first_is_here = ap (λ (r : ModelRecord). r.first) record_here

  many_is_here : (model_of (flatten d) (length before)).steps ≡ length m.steps
  unfolding model_record
  many_is_here = ap (λ (r : ModelRecord). r.steps) record_here

  steps_inside : (model_of (flatten d) (length before)).first + (model_of (flatten d) (length before)).steps ≤ length (step_records d.maps d.sections d.models)
  steps_inside = rw (first_is_here, many_is_here, split) (steps_within d.maps d.sections before m behind)

  pub owns_here : Owns d (owner_at (flatten d) (length before)) m
  unfolding owner_at model_record
  owns_here =
      record {
        kind = ap (λ (r : ModelRecord). r.kind) record_here;
        steps = ap (λ (k : ℕ). range k (length m.steps) (flatten d).steps) first_is_here ∙ steps_here;
        first =
            ap (first_target (length (flatten d).maps))
            ((λ j. range (first_is_here j) (many_is_here j) (flatten d).steps) ∙ steps_here);
      }

  -- its first step stands behind those of the models before it
  pub owner_from_lem : (owner_at (flatten d) (length before)).from ≡ length (joined (λ (x : Model). x.steps) before)
  unfolding owner_at
  owner_from_lem =
      first_is_here ∙ ap length (steps_joined d.maps d.sections before)
      ∙ length-map (joined (λ (x : Model). x.steps) before) (step_record d.maps d.sections)

  pub owner_many : (owner_at (flatten d) (length before)).many ≡ length m.steps
  unfolding owner_at
  owner_many = many_is_here

module _ (t table : List ℕ) (filled : HoldsText t table) (v : View) (is_view : Some v ≡ view_of table) (before : List Model) (m : Model) (behind : List Model)
    (split : (document_of t).models ≡ before ++ (m ∷ behind)) (h : length before < count_of v models) where
  abbrev d : Document
  d = document_of t

  pub room_here : ModelRoom table v (length before)
  room_here =
      record {
        rooms = text_rooms t table filled v is_view;
        there = h;
        inside = rw (text_records t table filled, many_steps t table filled v is_view) (steps_inside d before m behind split);
      }

  twice_here : is_repeated t table (base_of v models) model_width (length before) ≡ is_there (map model_name before) (model_name m)
  twice_here = model_repeated t table filled v is_view before behind m split

  module _ (listed : List Bool) (names : Listed d listed) where
    flag_here : is_there (map model_name before) (model_name m) ≡ false → get_or listed (length before) false ≡ is_there d.listed (model_name m)
    flag_here once =
        names.told (length before) (omega (arith, (text_rooms t table filled v is_view).few_models)) ∙ sym (listed_is d before m behind split once)

    pub rule_here : model_rule_at t table v listed (length before) ≡ model_rule d m
    unfolding model_rule_at model_rule
    rule_here =
        let twice : is_twice (map model_name d.models) (model_name m) ≡ is_there (map model_name before) (model_name m) =
        model_twice d (in_order t) before behind m split in
        by_cases _ (is_there (map model_name before) (model_name m))
        (λ (e : is_there (map model_name before) (model_name m) ≡ true).
        first_broken_lem _ refusal.twice _ (twice_here ∙ e) ∙ sym (first_broken_lem _ refusal.twice _ (twice ∙ e)))
        (λ (e : is_there (map model_name before) (model_name m) ≡ false).
        first_kept _ refusal.twice _ _ (twice_here ∙ e) refl
        ∙ ap (λ (b : Bool). first (not b) refusal.list 0) (flag_here e)
        ∙ sym (first_kept _ refusal.twice _ _ (twice ∙ e) refl))
