-- The records of maps and of their pins: a name is repeated in the table exactly if it is in the document.
-- Assumes nothing.
use mathlib.Core.Path.{◌≡◌, refl, sym, ◌∙◌, ap}
use mathlib.Core.Bool.{Bool}
use mathlib.Core.List.{List, [], ◌∷◌, ◌++◌, map, map-append, append_assoc}
use Prim.Native.Nat.{ℕ, ◌+◌, ◌*◌, ◌≤◌}
use native.Mathlib.Nat.{add-zero, zero-add, suc-add}
use native.Mathlib.Omega.{arith}
use lib.ListN.{length, take, drop, get_or, length-append, length-map}
use lib.Seq.{take_at, drop_at}
use Rattle.cross_rules.specs.Way.Findings.{map_name_rule, pin_name_rule, pin_findings}
use Rattle.base.specs.Broken.{◌when◌, first_broken}
use Rattle.base.specs.Refusal as refusal
use Rattle.table_layout.specs.Layout.{maps, pins, map_width, pin_width}
use Rattle.std.specs.Prelude.{Some}
use Rattle.table_layout.specs.View.{view_of}
use Rattle.table_layout.specs.declared.View.{View}
use Rattle.table_record.specs.Records.{Records, records_of, range, no_map}
use Rattle.table_record.specs.Way.Standing.{places, pin_at, base_of, count_of}
use Rattle.table_record.specs.declared.MapRecord.{MapRecord}
use Rattle.table_record.specs.declared.PinRecord.{PinRecord}
use Rattle.table_record.proofs.PlaceLaws.{places_range, range_map}
use Rattle.doc.specs.Lines.{significant}
use Rattle.doc.specs.Document.{Named, Map, Document, document_of}
use Rattle.doc.specs.Records.{map_record, map_records, pin_record, pin_records, flatten}
use Rattle.doc.proofs.BlockLaws.{joined, joined_append}
use Rattle.doc.proofs.PassLaws.{pins_of_text}
use Rattle.doc.proofs.StandsLaws.{MapStands, all_stand}
use Rattle.cross_rules.specs.Rules.{is_twice, map_name}
use Rattle.cross_rules.specs.Way.HoldsText.{HoldsText}
use Rattle.cross_rules.specs.Way.Nth.{nth_line}
use Rattle.cross_rules.specs.Way.Repeated.{own_name, is_repeated}
use Rattle.cross_rules.proofs.RisingLaws.{each_at}
use Rattle.cross_rules.proofs.OrderLaws.{in_order}
use Rattle.cross_rules.proofs.TwiceLaws.{map_twice, pin_twice}
use Rattle.cross_rules.proofs.TableLaws.{text_records, pins_here, many_pins}
use Rattle.cross_rules.proofs.NthLaws.{map_line_lem, pin_line_lem}
use Rattle.cross_rules.proofs.NamesLaws.{mapped_here, map_by_lem, texts, of_pin, pin_names, repeated_name, map_repeated}
use Rattle.cross_names.specs.Way.Pins.{pin_finding, pins_from, pins_of_map}

-- ---- lists

module _ {A B : Type 0} (f : A → B) where
  -- an element of the middle one of three lists
  mapped_middle :
      (front above below behind : List A) (x : A) (other : B) →
      get_or (map f (front ++ ((above ++ (x ∷ below)) ++ behind))) (length front + length above) other ≡ f x
  mapped_middle [] above below behind x other =
      ap (λ (k : ℕ). get_or (map f ((above ++ (x ∷ below)) ++ behind)) k other) (zero-add (length above))
      ∙ ap (λ (xs : List A). get_or (map f xs) (length above) other) (append_assoc above (x ∷ below) behind)
      ∙ mapped_here f above (below ++ behind) x other
  mapped_middle (y ∷ front) above below behind x other =
      ap (λ (k : ℕ). get_or (map f ((y ∷ front) ++ ((above ++ (x ∷ below)) ++ behind))) k other) (suc-add (length front) (length above))
      ∙ mapped_middle front above below behind x other

  -- the middle one of three lists
  middle : (xs ys zs : List A) → take (length ys) (drop (length xs) (map f (xs ++ (ys ++ zs)))) ≡ map f ys
  middle xs ys zs =
      let e : map f (xs ++ (ys ++ zs)) ≡ map f xs ++ (map f ys ++ map f zs) =
      map-append f xs (ys ++ zs) ∙ ap (λ (r : List B). map f xs ++ r) (map-append f ys zs) in
      ap (λ (r : List B). take (length ys) (drop (length xs) r)) e
      ∙ ap (take (length ys)) (drop_at (map f xs) (map f ys ++ map f zs) (length xs) (length-map xs f))
      ∙ take_at (map f ys) (map f zs) (length ys) (length-map ys f)

-- ---- the records of maps and pins

abbrev pins_of : List Map → List Named
pins_of ms = joined (λ (m : Map). m.pins) ms

pin_records_lem : (ms : List Map) → pin_records ms ≡ map pin_record (pins_of ms)
unfolding pin_records joined
pin_records_lem [] = refl
pin_records_lem (m ∷ ms) =
    ap (λ (rs : List PinRecord). map pin_record m.pins ++ rs) (pin_records_lem ms) ∙ sym (map-append pin_record m.pins (pins_of ms))

-- its first pin comes after the pins of the maps before it
record_here :
    (first : ℕ) (above below : List Map) (m : Map) →
    get_or (map_records first (above ++ (m ∷ below))) (length above) no_map ≡ map_record (first + length (pins_of above)) m
unfolding map_records joined
record_here first [] below m = ap (λ (k : ℕ). map_record k m) (sym (add-zero first))
record_here first (y ∷ above) below m =
    let l : length (y.pins ++ pins_of above) ≡ length y.pins + length (pins_of above) = length-append y.pins (pins_of above) in
    let e : first + length y.pins + length (pins_of above) ≡ first + length (y.pins ++ pins_of above) = omega arith in
    record_here (first + length y.pins) above below m ∙ ap (λ (k : ℕ). map_record k m) e

module _ (t table : List ℕ) (filled : HoldsText t table) (v : View) (is_view : Some v ≡ view_of table) where
  abbrev d : Document
  d = document_of t

  all_pins : count_of v pins ≡ length (pins_of d.maps)
  all_pins = many_pins t table filled v is_view ∙ ap length (pin_records_lem d.maps) ∙ length-map (pins_of d.maps) pin_record

  -- a map, with the maps before it and after it
  module _ (above below : List Map) (m : Map) (split : d.maps ≡ above ++ (m ∷ below)) where
    twice_here : is_repeated t table (base_of v maps) map_width (length above) ≡ is_twice (map map_name d.maps) (map_name m)
    twice_here = map_repeated t table filled v is_view above below m split ∙ sym (map_twice d (in_order t) above below m split)

    pub rule_here : first_broken (refusal.twice when is_repeated t table (base_of v maps) map_width (length above) ∷ []) ≡ map_name_rule d m
    unfolding map_name_rule
    rule_here = ap (λ (b : Bool). first_broken (refusal.twice when b ∷ [])) twice_here

    pub line_here_lem : nth_line maps (length above) (significant t) ≡ m.line
    line_here_lem =
        map_line_lem t (length above)
        ∙ ap (λ (ms : List Map). get_or (map (λ (x : Map). x.line) ms) (length above) 0) split
        ∙ mapped_here (λ (x : Map). x.line) above below m 0

    abbrev first : ℕ
    first = length (pins_of above)

    record_is : get_or (records_of table).maps (length above) no_map ≡ map_record first m
    unfolding flatten
    record_is =
        ap (λ (r : Records). get_or r.maps (length above) no_map) (text_records t table filled)
        ∙ ap (λ (ms : List Map). get_or (map_records 0 ms) (length above) no_map) split
        ∙ record_here 0 above below m
        ∙ ap (λ (k : ℕ). map_record k m) (zero-add first)

    pins_split : pins_of d.maps ≡ pins_of above ++ (m.pins ++ pins_of below)
    unfolding joined
    pins_split = ap pins_of split ∙ joined_append (λ (x : Map). x.pins) above (m ∷ below)

    in_pins : first + length m.pins ≤ count_of v pins
    in_pins =
        let k : count_of v pins ≡ length (pins_of d.maps) = all_pins in
        let l : length (pins_of d.maps) ≡ first + length (m.pins ++ pins_of below) = ap length pins_split ∙ length-append (pins_of above) (m.pins ++ pins_of below) in
        let n : length (m.pins ++ pins_of below) ≡ length m.pins + length (pins_of below) = length-append m.pins (pins_of below) in
        omega arith

    abbrev own_base : ℕ
    own_base = base_of v pins + pin_width * first

    own_pins : map (pin_at table) (places pin_width own_base (length m.pins)) ≡ map pin_record m.pins
    own_pins =
        ap (map (pin_at table)) (sym (places_range pin_width (base_of v pins) first (length m.pins) (count_of v pins) in_pins))
        ∙ sym (range_map (pin_at table) first (length m.pins) (places pin_width (base_of v pins) (count_of v pins)))
        ∙ ap (range first (length m.pins)) (pins_here t table filled v is_view ∙ pin_records_lem d.maps ∙ ap (map pin_record) pins_split)
        ∙ middle pin_record (pins_of above) m.pins (pins_of below)

    map_stands : MapStands t m
    map_stands = each_at above below m (rw split at (all_stand t).maps)

    own_names : map (own_name t table) (places pin_width own_base (length m.pins)) ≡ texts m.pins
    unfolding own_name
    own_names =
        map_by_lem (own_name t table) (of_pin t) (pin_at table) (λ (at : ℕ). refl) (places pin_width own_base (length m.pins))
        ∙ ap (map (of_pin t)) own_pins
        ∙ pin_names t map_stands.pins

    -- a pin of the map, with the pins before it and after it
    module _ (front behind : List Named) (p : Named) (own : m.pins ≡ front ++ (p ∷ behind)) where
      pin_twice_here : is_repeated t table own_base pin_width (length front) ≡ is_twice m.pins p
      pin_twice_here =
          repeated_name t table pin_width own_base (length m.pins) m.pins own_names front behind p own
          ∙ sym (pin_twice d (in_order t) above below m split front behind p own)

      pin_line_here : nth_line pins (first + length front) (significant t) ≡ p.line
      pin_line_here =
          pin_line_lem t (first + length front)
          ∙ ap (λ (ps : List Named). get_or (map (λ (q : Named). q.line) ps) (first + length front) 0)
          (sym (pins_of_text t) ∙ pins_split ∙ ap (λ (ps : List Named). pins_of above ++ (ps ++ pins_of below)) own)
          ∙ mapped_middle (λ (q : Named). q.line) (pins_of above) front behind (pins_of below) p 0

      pin_here : pin_finding t table own_base first (length front) ≡ record { rule = pin_name_rule m p; line = p.line }
      unfolding pin_finding pin_name_rule
      pin_here = λ k. record { rule = first_broken (refusal.twice when pin_twice_here k ∷ []); line = pin_line_here k }

    pins_there :
        (front behind : List Named) → m.pins ≡ front ++ behind →
        pins_from t table own_base first (length front) (length behind) ≡ map (λ (p : Named). record { rule = pin_name_rule m p; line = p.line }) behind
    unfolding pins_from
    pins_there front [] own = refl
    pins_there front (p ∷ behind) own =
        let l : length (front ++ (p ∷ [])) ≡ length front + 1 = length-append front (p ∷ []) in
        let later : pins_from t table own_base first (length front + 1) (length behind) ≡ map (λ (q : Named). record { rule = pin_name_rule m q; line = q.line }) behind =
        ap (λ (k : ℕ). pins_from t table own_base first k (length behind)) (sym l)
        ∙ pins_there (front ++ (p ∷ [])) behind (own ∙ sym (append_assoc front (p ∷ []) behind)) in
        λ k. pin_here front behind p own k ∷ later k

    -- the record of the map that the code has read
    module _ (x : MapRecord) (here : x ≡ get_or (records_of table).maps (length above) no_map) where
      pub room_here : x.first + x.pins ≤ count_of v pins
      unfolding map_record
      room_here = rw (here ∙ record_is) in_pins

      pub own_here : pins_of_map t table v x ≡ pin_findings m
      unfolding map_record pins_of_map pin_findings
      own_here = ap (pins_of_map t table v) (here ∙ record_is) ∙ pins_there [] m.pins refl
