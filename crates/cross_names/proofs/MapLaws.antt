-- Laws of the loop over the maps: the maps that are left give the first finding of all maps and their pins.
-- Assumes nothing.
use mathlib.Core.Path.{◌≡◌, refl, sym, ◌∙◌, ap}
use mathlib.Core.Bool.{Bool, true, false}
use mathlib.Core.List.{List, [], ◌∷◌, ◌++◌, append_assoc}
use Prim.Native.Nat.{ℕ, ◌+◌, ◌*◌, ◌≤◌, ◌<◌}
use native.Mathlib.Nat.{not-suc-le-zero}
use native.Mathlib.Omega.{arith}
use mir.Syntax.{w8, w64}
use mir.Val.{Fits}
use lib.ListN.{length, get_or, length-append}
use lib.Dec.{eqb}
use borrow.Author.Tests.{eqb-true, eqb-false}
use Rattle.base.specs.Broken.{◌when◌, first_broken}
use Rattle.base.proofs.IfLaws.{by_cases}
use Rattle.base.proofs.BrokenLaws.{first_broken_lem, first_kept}
use Rattle.base.specs.Refusal as refusal
use Rattle.table_layout.specs.Layout.{maps, pins, map_width}
use Rattle.std.specs.Prelude.{Some}
use Rattle.table_layout.specs.View.{view_of}
use Rattle.table_layout.specs.declared.View.{View}
use Rattle.table_record.specs.Records.{records_of, no_map}
use Rattle.table_record.specs.Way.Standing.{base_of, count_of}
use Rattle.table_record.specs.declared.MapRecord.{MapRecord}
use Rattle.doc.specs.Lines.{significant}
use Rattle.doc.specs.Document.{Map, Document, document_of}
use Rattle.cross_rules.specs.Rules.{no_finding}
use Rattle.cross_rules.specs.Way.Findings.{map_name_rule, pin_findings, map_findings}
use Rattle.cross_rules.specs.Way.First.{first_in}
use Rattle.cross_rules.specs.Way.HoldsText.{HoldsText}
use Rattle.cross_rules.specs.Way.Nth.{nth_line}
use Rattle.cross_rules.specs.Way.Repeated.{is_repeated}
use Rattle.cross_rules.specs.declared.Finding.{Finding}
use Rattle.cross_rules.proofs.KindLaws.{first_here, first_later}
use Rattle.cross_rules.proofs.TableLaws.{text_rooms, many_maps}
use Rattle.cross_names.specs.Way.Pins.{pins_of_map}
use Rattle.cross_names.proofs.TableLaws.{rule_here, line_here_lem, room_here, own_here}

-- ---- the first finding of two lists

none_first : (first_in []).rule ≡ 0
unfolding first_in no_finding
none_first = refl

abbrev number_of : Finding → ℕ
number_of f = f.rule

first_front : (fs gs : List Finding) → ((first_in fs).rule ≡ 0 → ⊥) → first_in (fs ++ gs) ≡ first_in fs
first_front [] gs n = absurd (n none_first)
first_front (f ∷ fs) gs n =
    by_cases _ (eqb f.rule 0)
    (λ (e : eqb f.rule 0 ≡ true).
    let s : first_in (f ∷ fs) ≡ first_in fs = first_later f fs (eqb-true _ _ e) in
    first_later f (fs ++ gs) (eqb-true _ _ e) ∙ first_front fs gs (λ (z : (first_in fs).rule ≡ 0). n (ap number_of s ∙ z)) ∙ sym s)
    (λ (e : eqb f.rule 0 ≡ false). first_here f (fs ++ gs) (eqb-false _ _ e) ∙ sym (first_here f fs (eqb-false _ _ e)))

first_behind : (fs gs : List Finding) → (first_in fs).rule ≡ 0 → first_in (fs ++ gs) ≡ first_in gs
first_behind [] gs z = refl
first_behind (f ∷ fs) gs z =
    by_cases _ (eqb f.rule 0)
    (λ (e : eqb f.rule 0 ≡ true).
    first_later f (fs ++ gs) (eqb-true _ _ e) ∙ first_behind fs gs (ap number_of (sym (first_later f fs (eqb-true _ _ e))) ∙ z))
    (λ (e : eqb f.rule 0 ≡ false). absurd (eqb-false _ _ e (ap number_of (sym (first_here f fs (eqb-false _ _ e))) ∙ z)))

-- ---- the maps that are left

pub record MapsLeft (t : List ℕ) (i : ℕ) : Type 0 where
  pub above : List Map
  pub below : List Map
  pub all : (document_of t).maps ≡ above ++ below
  pub place : length above ≡ i
  pub same : first_in (map_findings (document_of t) below) ≡ first_in (map_findings (document_of t) (document_of t).maps)

pub maps_start : (t : List ℕ) → MapsLeft t 0
maps_start t = record { above = []; below = (document_of t).maps; all = refl; place = refl; same = refl }

record Front (ms : List Map) : Type 0 where
  one : Map
  others : List Map
  whole : ms ≡ one ∷ others

front_of : (ms : List Map) → 0 < length ms → Front ms
front_of [] h = absurd (not-suc-le-zero h)
front_of (m ∷ ms) h = record { one = m; others = ms; whole = refl }

no_more : (ms : List Map) → length ms ≤ 0 → ms ≡ []
no_more [] h = refl
no_more (m ∷ ms) h = absurd (not-suc-le-zero h)

abbrev own_line : Document → Map → Finding
own_line d m = record { rule = map_name_rule d m; line = m.line }

none_found : (d : Document) → first_in (map_findings d []) ≡ record { rule = 0; line = 0 }
unfolding map_findings first_in no_finding
none_found d = refl

findings_on : (d : Document) (m : Map) (ms : List Map) → map_findings d (m ∷ ms) ≡ own_line d m ∷ (pin_findings m ++ map_findings d ms)
unfolding map_findings
findings_on d m ms = refl

module _ (t table : List ℕ) (filled : HoldsText t table) (v : View) (is_view : Some v ≡ view_of table) (i : ℕ) (left : MapsLeft t i) where
  abbrev d : Document
  d = document_of t

  abbrev base : ℕ
  base = base_of v maps

  left_many : count_of v maps ≡ i + length left.below
  left_many =
      many_maps t table filled v is_view ∙ ap length left.all ∙ length-append left.above left.below
      ∙ ap (λ (k : ℕ). k + length left.below) left.place

  pub maps_end : count_of v maps ≤ i → record { rule = 0; line = 0 } ≡ first_in (map_findings d d.maps)
  maps_end h =
      let n : count_of v maps ≡ i + length left.below = left_many in
      let z : left.below ≡ [] = no_more left.below (omega arith) in
      sym (none_found d) ∙ ap (λ (ms : List Map). first_in (map_findings d ms)) (sym z) ∙ left.same

  module _ (h : i < count_of v maps) where
    front : Front left.below
    front =
        let n : count_of v maps ≡ i + length left.below = left_many in
        front_of left.below (omega arith)

    abbrev m : Map
    m = front.one

    abbrev behind : List Map
    behind = front.others

    split : d.maps ≡ left.above ++ (m ∷ behind)
    split = left.all ∙ ap (λ (ms : List Map). left.above ++ ms) front.whole

    pub name_room : base + map_width * i + map_width ≤ length table
    name_room = omega (arith, (text_rooms t table filled v is_view).map_room)

    pub stamp_fits : Fits w8 i
    stamp_fits = omega (arith, (text_rooms t table filled v is_view).few_maps)

    pub index_fits : Fits w64 (i + 1)
    index_fits = omega (arith, (text_rooms t table filled v is_view).few_maps)

    same_here : first_in (own_line d m ∷ (pin_findings m ++ map_findings d behind)) ≡ first_in (map_findings d d.maps)
    same_here =
        ap first_in (sym (findings_on d m behind)) ∙ ap (λ (ms : List Map). first_in (map_findings d ms)) (sym front.whole) ∙ left.same

    module _ (twice : Bool) (is_repeated_lem : twice ≡ is_repeated t table base map_width i) where
      rule_is : first_broken (refusal.twice when twice ∷ []) ≡ map_name_rule d m
      rule_is =
          ap (λ (b : Bool). first_broken (refusal.twice when b ∷ [])) (is_repeated_lem ∙ ap (is_repeated t table base map_width) (sym left.place))
          ∙ rule_here t table filled v is_view left.above behind m split

      pub map_breaks : twice ≡ true → (line : ℕ) → line ≡ nth_line maps i (significant t) → record { rule = refusal.twice; line = line } ≡ first_in (map_findings d d.maps)
      map_breaks e line is_line =
          let n : refusal.twice ≡ map_name_rule d m = sym (first_broken_lem twice refusal.twice 0 e) ∙ rule_is in
          let l : line ≡ m.line =
          is_line ∙ ap (λ (k : ℕ). nth_line maps k (significant t)) (sym left.place) ∙ line_here_lem t table filled v is_view left.above behind m split in
          let f : record { rule = refusal.twice; line = line } ≡ own_line d m = λ j. record { rule = n j; line = l j } in
          f ∙ sym (first_here (own_line d m) _ (λ (z : map_name_rule d m ≡ 0). omega arith)) ∙ same_here

      module _ (kept : twice ≡ false) where
        below_same : first_in (pin_findings m ++ map_findings d behind) ≡ first_in (map_findings d d.maps)
        below_same = sym (first_later (own_line d m) _ (sym rule_is ∙ first_kept twice refusal.twice 0 0 kept refl)) ∙ same_here

        -- the record of the map
        module _ (x : MapRecord) (here : x ≡ get_or (records_of table).maps i no_map) where
          here_is : x ≡ get_or (records_of table).maps (length left.above) no_map
          here_is = here ∙ ap (λ (k : ℕ). get_or (records_of table).maps k no_map) (sym left.place)

          pub pins_room : x.first + x.pins ≤ count_of v pins
          pins_room = room_here t table filled v is_view left.above behind m split x here_is

          module _ (found : Finding) (is_found : found ≡ first_in (pins_of_map t table v x)) where
            found_is : found ≡ first_in (pin_findings m)
            found_is = is_found ∙ ap first_in (own_here t table filled v is_view left.above behind m split x here_is)

            pub pins_break : (found.rule ≡ 0 → ⊥) → found ≡ first_in (map_findings d d.maps)
            pins_break n =
                found_is ∙ sym (first_front (pin_findings m) (map_findings d behind) (λ (z : (first_in (pin_findings m)).rule ≡ 0). n (ap number_of found_is ∙ z)))
                ∙ below_same

            pub maps_on : found.rule ≡ 0 → MapsLeft t (i + 1)
            maps_on z =
                record {
                  above = left.above ++ (m ∷ []);
                  below = behind;
                  all = split ∙ sym (append_assoc left.above (m ∷ []) behind);
                  place = length-append left.above (m ∷ []) ∙ ap (λ (k : ℕ). k + 1) left.place;
                  same = sym (first_behind (pin_findings m) (map_findings d behind) (ap number_of (sym found_is) ∙ z)) ∙ below_same;
                }
