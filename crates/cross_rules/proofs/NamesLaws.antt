-- The names of a table's records: a record has the name of an earlier one exactly if an earlier element of the document has
-- the name of its element.
-- Assumes nothing.
use mathlib.Core.Path.{◌≡◌, refl, sym, ◌∙◌, ap}
use mathlib.Core.Bool.{Bool, true, false}
use mathlib.Core.List.{List, [], ◌∷◌, ◌++◌, map, map-append}
use Prim.Native.Nat.{ℕ, zero, suc, ◌+◌, ◌*◌, ◌<◌}
use native.Mathlib.Nat.{le_of_lt}
use native.Mathlib.Omega.{arith}
use lib.ListN.{length, get_or, take, length-append, length-map}
use lib.Seq.{take_at}
use lib.Dec.{eqb}
use borrow.Author.Tests.{eq-eqb, ne_eqb, eqb-true, eqb-false}
use Rattle.base.specs.If.{both, either}
use Rattle.base.specs.Runs.{same}
use Rattle.base.proofs.IfLaws.{by_cases}
use Rattle.lex_line.specs.Words.{Word}
use Rattle.table_layout.specs.Layout.{models, maps, sections, model_width, map_width, section_width}
use Rattle.std.specs.Prelude.{Some}
use Rattle.table_layout.specs.View.{view_of}
use Rattle.table_layout.specs.declared.View.{View}
use Rattle.table_record.specs.Way.Standing.{places, model_at, map_at, section_at, base_of, count_of}
use Rattle.table_record.specs.declared.ModelRecord.{ModelRecord}
use Rattle.table_record.specs.declared.MapRecord.{MapRecord}
use Rattle.table_record.specs.declared.PinRecord.{PinRecord}
use Rattle.table_record.specs.declared.SectionRecord.{SectionRecord}
use Rattle.table_record.proofs.PlaceLaws.{places_long, places_front}
use Rattle.table_record.proofs.RecordLaws.{record_at_lem}
use Rattle.doc.specs.Document.{Named, Model, Map, Section, Document, document_of}
use Rattle.doc.specs.Records.{model_record, model_records, map_record, map_records, pin_record, section_record, section_records}
use Rattle.doc.specs.Holds.{Each}
use Rattle.doc.specs.Way.Holds.{Stands}
use Rattle.doc.specs.Holds.Each.{none, more}
use Rattle.doc.proofs.StandsLaws.{ModelStands, MapStands, all_stand}
use Rattle.table_name.specs.Name.{name_at}
use Rattle.cross_rules.specs.Rules.{any, same_word, is_there, model_name, map_name, section_name}
use Rattle.cross_rules.specs.Way.HoldsText.{HoldsText}
use Rattle.cross_rules.specs.Way.Repeated.{own_name, is_repeated}
use Rattle.cross_rules.proofs.TableLaws.{models_here, maps_here, sections_here}

-- ---- sameness is symmetric

eqb_comm : (a b : ℕ) → eqb a b ≡ eqb b a
eqb_comm a b =
    by_cases _ (eqb a b)
    (λ (e : eqb a b ≡ true). e ∙ sym (eq-eqb b a (sym (eqb-true _ _ e))))
    (λ (e : eqb a b ≡ false). e ∙ sym (ne_eqb b a (λ (h : b ≡ a). eqb-false _ _ e (sym h))))

pub same_comm : (s t : List ℕ) → same s t ≡ same t s
unfolding same
same_comm [] [] = refl
same_comm [] (c ∷ t) = refl
same_comm (b ∷ s) [] = refl
same_comm (b ∷ s) (c ∷ t) = λ i. both (eqb_comm b c i) (same_comm s t i)

-- ---- lists

module _ {A B : Type 0} (f : A → B) where
  pub mapped_here : (above below : List A) (x : A) (other : B) → get_or (map f (above ++ (x ∷ below))) (length above) other ≡ f x
  mapped_here [] below x other = refl
  mapped_here (y ∷ above) below x other = mapped_here above below x other

  take_map : (i : ℕ) (xs : List A) → take i (map f xs) ≡ map f (take i xs)
  take_map zero xs = refl
  take_map (suc i) [] = refl
  take_map (suc i) (x ∷ xs) = ap (λ (ys : List B). f x ∷ ys) (take_map i xs)

  any_map : (test : B → Bool) (xs : List A) → any (λ (x : A). test (f x)) xs ≡ any test (map f xs)
  unfolding any
  any_map test [] = refl
  any_map test (x ∷ xs) = ap (either (test (f x))) (any_map test xs)

pub map_by_lem : {A B C : Type 0} (f : A → C) (g : B → C) (h : A → B) → ((x : A) → f x ≡ g (h x)) → (xs : List A) → map f xs ≡ map g (map h xs)
map_by_lem f g h e [] = refl
map_by_lem f g h e (x ∷ xs) = λ i. e x i ∷ map_by_lem f g h e xs i

-- ---- by the bytes of names alone

abbrev pub texts : List Named → List (List ℕ)
texts names = map (λ (m : Named). m.name.text) names

there_bytes : (names : List Named) (n : Named) → is_there names n ≡ any (same n.name.text) (texts names)
unfolding is_there any same_word
there_bytes [] n = refl
there_bytes (m ∷ names) n = λ i. either (same_comm m.name.text n.name.text i) (there_bytes names n i)

-- records that have the names of a list
module _ (t table : List ℕ) (w base n : ℕ) (names : List Named) (told : map (own_name t table) (places w base n) ≡ texts names) where
  module _ (above below : List Named) (x : Named) (all : names ≡ above ++ (x ∷ below)) where
    inside : length above < n
    inside =
        let l : n ≡ length names =
        sym (length-map (places w base n) (own_name t table) ∙ places_long w base n) ∙ ap length told ∙ length-map names (λ (m : Named). m.name.text) in
        let k : length names ≡ length above + suc (length below) = ap length all ∙ length-append above (x ∷ below) in
        omega arith

    own_is : own_name t table (base + w * length above) ≡ x.name.text
    own_is =
        sym (record_at_lem w (own_name t table) [] base (length above) n inside)
        ∙ ap (λ (ns : List (List ℕ)). get_or ns (length above) []) (told ∙ ap texts all)
        ∙ mapped_here (λ (m : Named). m.name.text) above below x []

    above_are : map (own_name t table) (places w base (length above)) ≡ texts above
    above_are =
        ap (map (own_name t table)) (sym (places_front w base (length above) n (le_of_lt inside)))
        ∙ sym (take_map (own_name t table) (length above) (places w base n))
        ∙ ap (take (length above)) (told ∙ ap texts all ∙ map-append (λ (m : Named). m.name.text) above (x ∷ below))
        ∙ take_at (texts above) (texts (x ∷ below)) (length above) (length-map above (λ (m : Named). m.name.text))

    pub repeated_name : is_repeated t table base w (length above) ≡ is_there above x
    unfolding is_repeated
    repeated_name =
        any_map (own_name t table) (same (own_name t table (base + w * length above))) (places w base (length above))
        ∙ (λ i. any (same (own_is i)) (above_are i))
        ∙ sym (there_bytes above x)

-- the same of elements that have names
module _ {A : Type 0} (name : A → Named) (t table : List ℕ) (w base n : ℕ) (xs : List A) (told : map (own_name t table) (places w base n) ≡ texts (map name xs)) where
  repeated_of : (above below : List A) (x : A) → xs ≡ above ++ (x ∷ below) → is_repeated t table base w (length above) ≡ is_there (map name above) (name x)
  repeated_of above below x all =
      ap (is_repeated t table base w) (sym (length-map above name))
      ∙ repeated_name t table w base n (map name xs) told (map name above) (map name below) (name x) (ap (map name) all ∙ map-append name above (x ∷ below))

-- ---- the names of each part's records

name_here : (t : List ℕ) (w : Word) → Stands t w → name_at t w.start (length w.text) ≡ w.text
unfolding name_at
name_here t w h = h.bytes

module _ (t : List ℕ) where
  abbrev of_model : ModelRecord → List ℕ
  of_model r = name_at t r.start r.size

  abbrev of_map : MapRecord → List ℕ
  of_map r = name_at t r.start r.size

  abbrev of_section : SectionRecord → List ℕ
  of_section r = name_at t r.start r.size

  abbrev pub of_pin : PinRecord → List ℕ
  of_pin r = name_at t r.start r.size

  model_names : (first : ℕ) {ms : List Model} → Each (ModelStands t) ms → map of_model (model_records first ms) ≡ texts (map model_name ms)
  unfolding model_records model_record
  model_names first none = refl
  model_names first (more {x = m} h hs) = λ i. name_here t m.name h.name i ∷ model_names (first + length m.steps) hs i

  map_names : (first : ℕ) {ms : List Map} → Each (MapStands t) ms → map of_map (map_records first ms) ≡ texts (map map_name ms)
  unfolding map_records map_record
  map_names first none = refl
  map_names first (more {x = m} h hs) = λ i. name_here t m.name h.name i ∷ map_names (first + length m.pins) hs i

  section_names : (first : ℕ) {xs : List Section} → Each (λ (x : Section). Stands t x.name) xs → map of_section (section_records first xs) ≡ texts (map section_name xs)
  unfolding section_records section_record
  section_names first none = refl
  section_names first (more {x = x} h hs) = λ i. name_here t x.name h i ∷ section_names (first + length x.matrices) hs i

  pub pin_names : {ps : List Named} → Each (λ (p : Named). Stands t p.name) ps → map of_pin (map pin_record ps) ≡ texts ps
  unfolding pin_record
  pin_names none = refl
  pin_names (more {x = p} h hs) = λ i. name_here t p.name h i ∷ pin_names hs i

-- ---- in the table of a text

module _ (t table : List ℕ) (filled : HoldsText t table) (v : View) (is_view : Some v ≡ view_of table) where
  abbrev d : Document
  d = document_of t

  pub models_named : map (own_name t table) (places model_width (base_of v models) (count_of v models)) ≡ texts (map model_name d.models)
  unfolding own_name
  models_named =
      map_by_lem (own_name t table) (of_model t) (model_at table) (λ (at : ℕ). refl) (places model_width (base_of v models) (count_of v models))
      ∙ ap (map (of_model t)) (models_here t table filled v is_view)
      ∙ model_names t 0 (all_stand t).models

  pub model_repeated : (above below : List Model) (m : Model) → d.models ≡ above ++ (m ∷ below) →
      is_repeated t table (base_of v models) model_width (length above) ≡ is_there (map model_name above) (model_name m)
  model_repeated = repeated_of model_name t table model_width (base_of v models) (count_of v models) d.models models_named

  pub map_repeated : (above below : List Map) (m : Map) → d.maps ≡ above ++ (m ∷ below) →
      is_repeated t table (base_of v maps) map_width (length above) ≡ is_there (map map_name above) (map_name m)
  unfolding own_name
  map_repeated =
      repeated_of map_name t table map_width (base_of v maps) (count_of v maps) d.maps
      (map_by_lem (own_name t table) (of_map t) (map_at table) (λ (at : ℕ). refl) (places map_width (base_of v maps) (count_of v maps))
      ∙ ap (map (of_map t)) (maps_here t table filled v is_view) ∙ map_names t 0 (all_stand t).maps)

  pub section_repeated : (above below : List Section) (x : Section) → d.sections ≡ above ++ (x ∷ below) →
      is_repeated t table (base_of v sections) section_width (length above) ≡ is_there (map section_name above) (section_name x)
  unfolding own_name
  section_repeated =
      repeated_of section_name t table section_width (base_of v sections) (count_of v sections) d.sections
      (map_by_lem (own_name t table) (of_section t) (section_at table) (λ (at : ℕ). refl) (places section_width (base_of v sections) (count_of v sections))
      ∙ ap (map (of_section t)) (sections_here t table filled v is_view) ∙ section_names t 0 (all_stand t).sections)
