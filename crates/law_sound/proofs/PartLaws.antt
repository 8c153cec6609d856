-- The records of all parts but the steps are sound: names in the text, ranges and indexes inside, words within their bounds.
-- Assumes nothing.
use mathlib.Core.Path.{◌≡◌, refl, sym, ◌∙◌, ap}
use mathlib.Core.Bool.{Bool, true, false}
use mathlib.Core.List.{List, [], ◌∷◌, ◌++◌, map, map-append, append_assoc}
use Prim.Native.Nat.{ℕ, ◌+◌, ◌≤◌, ◌<◌}
use native.Mathlib.Nat.{le_trans}
use native.Mathlib.Omega.{arith}
use lib.ListN.{length, length-append, length-map}
use lib.Dec.{eqb}
use borrow.Author.Tests.{le-leb, lt-ltb, eq-eqb, leb-true, eqb-false}
use Rattle.table_record.specs.Records.{range}
use Rattle.table_record.specs.declared.Value.{Value}
use Rattle.table_record.specs.declared.StepRecord.{StepRecord}
use Rattle.table_layout.specs.Codes.{banded}
use Rattle.table_layout.specs.Bounds.{most_conductors, longest_name}
use Rattle.base.specs.Bytes.{within}
use Rattle.base.proofs.IfLaws.{by_test, both_true, both_first, both_second}
use Rattle.lex_line.specs.Words.{Word}
use Rattle.doc.specs.Document.{Named, Step, Model, Map, Matrix, Section, conductors_of}
use Rattle.doc.specs.Records.{step_record, step_records, model_record, model_records, pin_record, pin_records, map_record, map_records, index_of_kind, section_record, section_records, matrices_of, matrix_record, matrix_records, values_of}
use Rattle.doc.specs.Holds.{Each, is_in_upper_half, rises}
use Rattle.doc.specs.Way.Holds.{IsName}
use Rattle.doc.specs.Way.Holds as holds
use Rattle.doc.specs.Holds.Each.{none, more}
use Rattle.doc.proofs.StandsLaws.{each_append}
use Rattle.doc.proofs.NamedLaws.{MapNamed}
use Rattle.doc.proofs.MatrixLaws.{RightValue, RightMatrix}
use Rattle.doc.proofs.SectionLaws.{RightSection}
use Rattle.cross_rules.proofs.RisingLaws.{each_by}
use Rattle.ask_sound.specs.Tests.{is_range, is_name_in, is_bandwidth}
use Rattle.ask_sound.specs.Sound.{every, depth_holds, is_model, is_map, is_pin, are_matrices, is_section, is_matrix, is_value, record_kinds}
use Rattle.ask_sound.proofs.DepthLaws.{depth_same}
use Rattle.law_sound.proofs.EveryLaws.{every_none, every_more, every_append, every_map, each_every, range_middle}
use Rattle.law_sound.proofs.Bounds.{RightMap}
use Rattle.doc.proofs.CountLaws.{matrices_long}

-- ---- words

pub range_is : (first many all : ℕ) → first + many ≤ all → is_range first many all ≡ true
unfolding is_range
range_is first many all h = le-leb _ _ h

pub within_is : (low high n : ℕ) → low ≤ n → n ≤ high → within low high n ≡ true
unfolding within
within_is low high n h k = both_true _ _ (le-leb _ _ h) (le-leb _ _ k)

pub name_is : (t : List ℕ) (w : Word) → IsName t w → is_name_in (length t) w.start (length w.text) ≡ true
unfolding is_name_in
name_is t w n = both_true _ _ (within_is 1 longest_name _ n.some n.few) (range_is _ _ _ n.stands.inside)

-- ---- models

-- the kinds of a model's steps
abbrev kinds : List Step → List ℕ
kinds ss = map (λ (s : Step). s.kind) ss

module _ (maps : List Map) (sections : List Section) where
  kinds_same : (ss : List Step) → map (λ (s : StepRecord). s.kind) (map (step_record maps sections) ss) ≡ kinds ss
  unfolding step_record
  kinds_same [] = refl
  kinds_same (s ∷ ss) = ap (λ (ns : List ℕ). s.kind ∷ ns) (kinds_same ss)

  pub kinds_more : (m : Model) (ms : List Model) →
      record_kinds (step_records maps sections (m ∷ ms)) ≡ kinds m.steps ++ record_kinds (step_records maps sections ms)
  unfolding record_kinds step_records
  kinds_more m ms =
      map-append (λ (s : StepRecord). s.kind) (map (step_record maps sections) m.steps) (step_records maps sections ms)
      ∙ ap (λ (ns : List ℕ). ns ++ map (λ (s : StepRecord). s.kind) (step_records maps sections ms)) (kinds_same m.steps)

-- what a sound model needs, besides the range of its steps
pub record SoundModel (t : List ℕ) (m : Model) : Type 0 where
  pub name : IsName t m.name
  pub type : m.type < 3
  pub deep : holds.depth_of_steps 0 m.steps ≡ true

module _ (t : List ℕ) (maps : List Map) (sections : List Section) where
  model_is :
      (m : Model) (before after : List ℕ) (first : ℕ) → SoundModel t m → length before ≡ first →
      is_model (length t) (before ++ (kinds m.steps ++ after)) (model_record first m) ≡ true
  unfolding is_model model_record
  model_is m before after first s e =
      let k : length (kinds m.steps) ≡ length m.steps = length-map m.steps (λ (x : Step). x.kind) in
      let n : length (before ++ (kinds m.steps ++ after)) ≡ length before + length (kinds m.steps ++ after) =
      length-append before (kinds m.steps ++ after) in
      let o : length (kinds m.steps ++ after) ≡ length (kinds m.steps) + length after =
      length-append (kinds m.steps) after in
      let inside : first + length m.steps ≤ length (before ++ (kinds m.steps ++ after)) = omega arith in
      let stands : range first (length m.steps) (before ++ (kinds m.steps ++ after)) ≡ kinds m.steps =
      range_middle before (kinds m.steps) after first (length m.steps) e k in
      both_true _ _ (name_is t m.name s.name)
      (both_true _ _ (lt-ltb _ _ s.type)
      (both_true _ _ (range_is _ _ _ inside)
      (ap (depth_holds 0) stands ∙ sym (depth_same 0 m.steps) ∙ s.deep)))

  models_are :
      {ms : List Model} (before all : List ℕ) (first : ℕ) → Each (SoundModel t) ms → length before ≡ first →
      all ≡ before ++ record_kinds (step_records maps sections ms) →
      every (is_model (length t) all) (model_records first ms) ≡ true
  unfolding model_records
  models_are before all first none e f = every_none _
  models_are before all first (more {x = m} {xs = ms} h hs) e f =
      let rest : List ℕ = record_kinds (step_records maps sections ms) in
      let g : all ≡ before ++ (kinds m.steps ++ rest) = f ∙ ap (λ (ns : List ℕ). before ++ ns) (kinds_more maps sections m ms) in
      let k : length (kinds m.steps) ≡ length m.steps = length-map m.steps (λ (x : Step). x.kind) in
      let n : length (before ++ kinds m.steps) ≡ length before + length (kinds m.steps) = length-append before (kinds m.steps) in
      let one : is_model (length t) all (model_record first m) ≡ true =
      ap (λ (ns : List ℕ). is_model (length t) ns (model_record first m)) g ∙ model_is m before rest first h e in
      let place : length (before ++ kinds m.steps) ≡ first + length m.steps = omega arith in
      every_more _ _ _ one
      (models_are (before ++ kinds m.steps) all (first + length m.steps) hs place
      (g ∙ sym (append_assoc before (kinds m.steps) rest)))

  pub models_sound :
      {ms : List Model} → Each (SoundModel t) ms →
      every (is_model (length t) (record_kinds (step_records maps sections ms))) (model_records 0 ms) ≡ true
  models_sound hs = models_are [] _ 0 hs refl refl

-- ---- maps and pins

module _ (t : List ℕ) where
  map_is :
      (m : Map) (first all : ℕ) → IsName t m.name → RightMap m → first + length m.pins ≤ all →
      is_map (length t) all (map_record first m) ≡ true
  unfolding is_map map_record
  map_is m first all n r h =
      both_true _ _ (name_is t m.name n)
      (both_true _ _ (lt-ltb _ _ r.order) (both_true _ _ r.grid (both_true _ _ (range_is _ _ _ h) (le-leb _ _ r.pins))))

  pins_more : (m : Map) (ms : List Map) → length (pin_records (m ∷ ms)) ≡ length m.pins + length (pin_records ms)
  unfolding pin_records
  pins_more m ms =
      length-append (map pin_record m.pins) (pin_records ms)
      ∙ ap (λ (n : ℕ). n + length (pin_records ms)) (length-map m.pins pin_record)

  maps_are :
      {ms : List Map} (first all : ℕ) → Each (MapNamed t) ms → Each RightMap ms → first + length (pin_records ms) ≡ all →
      every (is_map (length t) all) (map_records first ms) ≡ true
  unfolding map_records
  maps_are first all none none e = every_none _
  maps_are first all (more {x = m} {xs = ms} n ns) (more r rs) e =
      let k : length (pin_records (m ∷ ms)) ≡ length m.pins + length (pin_records ms) = pins_more m ms in
      let h : first + length m.pins ≤ all = omega arith in
      let f : first + length m.pins + length (pin_records ms) ≡ all = omega arith in
      every_more _ _ _ (map_is m first all n.name r h) (maps_are (first + length m.pins) all ns rs f)

  pub maps_sound :
      {ms : List Map} → Each (MapNamed t) ms → Each RightMap ms →
      every (is_map (length t) (length (pin_records ms))) (map_records 0 ms) ≡ true
  maps_sound {ms} ns rs =
      let e : 0 + length (pin_records ms) ≡ length (pin_records ms) = omega arith in
      maps_are 0 (length (pin_records ms)) ns rs e

  pin_is : (p : Named) → IsName t p.name → is_pin (length t) (pin_record p) ≡ true
  unfolding is_pin pin_record
  pin_is p n = name_is t p.name n

  pub pins_sound : {ms : List Map} → Each (MapNamed t) ms → every (is_pin (length t)) (pin_records ms) ≡ true
  unfolding pin_records
  pins_sound none = every_none _
  pins_sound (more {x = m} {xs = ms} n ns) =
      every_append _ (map pin_record m.pins) (pin_records ms)
      (every_map (is_pin (length t)) pin_record (each_by pin_is n.pins)) (pins_sound ns)

-- ---- sections

place_is : (kind first all : ℕ) (ms : List Matrix) → first + length ms ≤ all → index_of_kind kind first ms ≤ all
unfolding index_of_kind
place_is kind first all [] h = omega arith
place_is kind first all (m ∷ ms) h =
    by_test (λ (n : ℕ). n ≤ all) (eqb m.kind kind) _ _ (λ (e : eqb m.kind kind ≡ true). omega arith)
    (λ (e : eqb m.kind kind ≡ false).
    let k : first + 1 + length ms ≤ all = omega arith in
    place_is kind (first + 1) all ms k)

conductors_within :
    (ms : List Matrix) → Each (RightMatrix (conductors_of ms)) ms → 1 ≤ length ms → within 1 most_conductors (conductors_of ms) ≡ true
conductors_within [] none h = absurd (omega arith)
conductors_within (m ∷ ms) (more r rs) h = within_is 1 most_conductors _ r.some r.few

module _ (t : List ℕ) where
  section_is :
      (s : Section) (first all : ℕ) → IsName t s.name → RightSection s → first + length s.matrices ≤ all →
      is_section (length t) all (section_record first s) ≡ true
  unfolding is_section section_record are_matrices
  section_is s first all n r h =
      let m : s.method ≤ 1 = r.method in
      let k : s.method < 2 = omega arith in
      both_true _ _ (name_is t s.name n)
      (both_true _ _ (lt-ltb _ _ k)
      (both_true _ _ (conductors_within s.matrices r.matrices r.some)
      (both_true _ _ (le-leb _ _ (place_is 0 first all s.matrices h))
      (both_true _ _ (le-leb _ _ (place_is 1 first all s.matrices h))
      (both_true _ _ (le-leb _ _ (place_is 2 first all s.matrices h)) (le-leb _ _ (place_is 3 first all s.matrices h)))))))

  matrices_more : (s : Section) (ss : List Section) → length (matrices_of (s ∷ ss)) ≡ length s.matrices + length (matrices_of ss)
  unfolding matrices_of
  matrices_more s ss = length-append s.matrices (matrices_of ss)

  sections_are :
      {ss : List Section} (first all : ℕ) → Each (λ (s : Section). IsName t s.name) ss → Each RightSection ss →
      first + length (matrices_of ss) ≡ all → every (is_section (length t) all) (section_records first ss) ≡ true
  unfolding section_records
  sections_are first all none none e = every_none _
  sections_are first all (more {x = s} {xs = ss} n ns) (more r rs) e =
      let k : length (matrices_of (s ∷ ss)) ≡ length s.matrices + length (matrices_of ss) = matrices_more s ss in
      let h : first + length s.matrices ≤ all = omega arith in
      let f : first + length s.matrices + length (matrices_of ss) ≡ all = omega arith in
      every_more _ _ _ (section_is s first all n r h) (sections_are (first + length s.matrices) all ns rs f)

  pub sections_sound :
      {ss : List Section} → Each (λ (s : Section). IsName t s.name) ss → Each RightSection ss →
      every (is_section (length t) (length (matrix_records 0 (matrices_of ss)))) (section_records 0 ss) ≡ true
  sections_sound {ss} ns rs =
      let k : length (matrix_records 0 (matrices_of ss)) ≡ length (matrices_of ss) = matrices_long 0 (matrices_of ss) in
      let e : 0 + length (matrices_of ss) ≡ length (matrix_records 0 (matrices_of ss)) = omega arith in
      sections_are 0 (length (matrix_records 0 (matrices_of ss))) ns rs e

-- ---- matrices and values

-- a matrix of any number of conductors
pub record SoundMatrix (m : Matrix) : Type 0 where
  pub conductors : ℕ
  pub right : RightMatrix conductors m

pub matrices_right : {ss : List Section} → Each RightSection ss → Each SoundMatrix (matrices_of ss)
unfolding matrices_of
matrices_right none = none
matrices_right (more {x = s} r rs) =
    each_append
    (each_by (λ (m : Matrix) (x : RightMatrix (conductors_of s.matrices) m). record { conductors = conductors_of s.matrices; right = x })
    r.matrices)
    (matrices_right rs)

inside_wider : (n : ℕ) (v : Value) → n ≤ most_conductors → is_in_upper_half n v ≡ true → is_in_upper_half most_conductors v ≡ true
unfolding is_in_upper_half
inside_wider n v h e =
    let k : v.column ≤ n = leb-true _ _ (both_second _ _ (both_second _ _ e)) in
    both_true _ _ (both_first _ _ e)
    (both_true _ _ (both_first _ _ (both_second _ _ e)) (le-leb _ _ (le_trans k h)))

rises_wider : (n : ℕ) (vs : List Value) → n ≤ most_conductors → rises n vs ≡ true → rises most_conductors vs ≡ true
unfolding rises
rises_wider n [] h e = refl
rises_wider n (v ∷ []) h e = inside_wider n v h e
rises_wider n (v ∷ w ∷ vs) h e =
    both_true _ _ (inside_wider n v h (both_first _ _ e))
    (both_true _ _ (both_first _ _ (both_second _ _ e)) (rises_wider n (w ∷ vs) h (both_second _ _ (both_second _ _ e))))

bandwidth_is : (n : ℕ) (m : Matrix) → RightMatrix n m → is_bandwidth m.form m.bandwidth ≡ true
unfolding is_bandwidth
bandwidth_is n m r =
    by_test (λ (b : Bool). b ≡ true) (eqb m.form banded) _ _ (λ (e : eqb m.form banded ≡ true). le-leb _ _ r.bandwidth)
    (λ (e : eqb m.form banded ≡ false). eq-eqb _ _ (r.unbanded (eqb-false _ _ e)))

matrix_is :
    (m : Matrix) (before after : List Value) (first : ℕ) → SoundMatrix m → length before ≡ first →
    is_matrix (before ++ (m.values ++ after)) (matrix_record first m) ≡ true
unfolding is_matrix matrix_record
matrix_is m before after first s e =
    let n : length (before ++ (m.values ++ after)) ≡ length before + length (m.values ++ after) =
    length-append before (m.values ++ after) in
    let o : length (m.values ++ after) ≡ length m.values + length after = length-append m.values after in
    let inside : first + length m.values ≤ length (before ++ (m.values ++ after)) = omega arith in
    let f : m.form ≤ 3 = s.right.form in
    let g : m.form < 4 = omega arith in
    let c : m.conductors ≡ s.conductors = s.right.conductors in
    let few : s.conductors ≤ most_conductors = s.right.few in
    let k : m.conductors ≤ most_conductors = omega arith in
    both_true _ _ (lt-ltb _ _ g)
    (both_true _ _ (bandwidth_is s.conductors m s.right)
    (both_true _ _ (range_is _ _ _ inside)
    (ap (rises most_conductors) (range_middle before m.values after first (length m.values) e refl)
    ∙ rises_wider m.conductors m.values k s.right.rising)))

values_more : (m : Matrix) (ms : List Matrix) → values_of (m ∷ ms) ≡ m.values ++ values_of ms
unfolding values_of
values_more m ms = refl

matrices_are :
    {ms : List Matrix} (before all : List Value) (first : ℕ) → Each SoundMatrix ms → length before ≡ first →
    all ≡ before ++ values_of ms → every (is_matrix all) (matrix_records first ms) ≡ true
unfolding matrix_records
matrices_are before all first none e f = every_none _
matrices_are before all first (more {x = m} {xs = ms} h hs) e f =
    let g : all ≡ before ++ (m.values ++ values_of ms) = f ∙ ap (λ (vs : List Value). before ++ vs) (values_more m ms) in
    let n : length (before ++ m.values) ≡ length before + length m.values = length-append before m.values in
    let one : is_matrix all (matrix_record first m) ≡ true =
    ap (λ (vs : List Value). is_matrix vs (matrix_record first m)) g ∙ matrix_is m before (values_of ms) first h e in
    let place : length (before ++ m.values) ≡ first + length m.values = omega arith in
    every_more _ _ _ one
    (matrices_are (before ++ m.values) all (first + length m.values) hs place (g ∙ sym (append_assoc before m.values (values_of ms))))

pub matrices_sound : {ms : List Matrix} → Each SoundMatrix ms → every (is_matrix (values_of ms)) (matrix_records 0 ms) ≡ true
matrices_sound hs = matrices_are [] _ 0 hs refl refl

value_is : (n : ℕ) (v : Value) → RightValue n v → is_value v ≡ true
unfolding is_value
value_is n v r = r.word

pub values_sound : {ms : List Matrix} → Each SoundMatrix ms → every is_value (values_of ms) ≡ true
unfolding values_of
values_sound none = every_none _
values_sound (more {x = m} {xs = ms} h hs) =
    every_append _ m.values (values_of ms) (each_every is_value (each_by (value_is h.conductors) h.right.values))
    (values_sound hs)
