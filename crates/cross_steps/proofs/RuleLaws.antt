-- Laws of the rules of a step by the records of the table: what is known at each `return` of the functions implies the contract.
-- Assumes nothing.
use mathlib.Core.Path.{◌≡◌, refl, sym, ◌∙◌, ap}
use mathlib.Core.Bool.{Bool, true, false, not}
use mathlib.Core.List.{List}
use Prim.Native.Nat.{ℕ, ◌+◌, ◌-◌, ◌≤◌, ◌<◌}
use native.Mathlib.Omega.{arith}
use lib.ListN.{length, get_or}
use lib.Dec.{ltb, eqb}
use borrow.Author.Tests.{ne_eqb, lt-ltb, le-ltb}
use Rattle.base.specs.Refusal as refusal
use Rattle.base.specs.Runs.{same}
use Rattle.base.proofs.IfLaws.{if_true, if_false, both_true, both_rest, both_not_left, both_not_right, either_rest, not_via, not_not_via}
use Rattle.base.proofs.BrokenLaws.{gives_first, gives_later}
use Rattle.table_layout.specs.Codes.{mlm}
use Rattle.table_layout.specs.Layout.{maps, sections, matrices}
use Rattle.table_layout.specs.declared.View.{View}
use Rattle.table_record.specs.Records.{Records, records_of, range, no_map, no_section}
use Rattle.table_record.specs.Way.Standing.{count_of, Rooms}
use Rattle.table_record.specs.declared.StepRecord.{StepRecord}
use Rattle.table_record.specs.declared.MapRecord.{MapRecord}
use Rattle.table_record.specs.declared.SectionRecord.{SectionRecord}
use Rattle.table_record.proofs.RecordLaws.{maps_long, sections_long_lem, matrices_long}
use Rattle.table_name.specs.Name.{name_at}
use Rattle.cross_steps.specs.Way.StepWords.{
  StepRooms,
  side_of,
  clashing,
  meets_above,
  differs_from,
  lesser_given,
  least_of,
  first_matrix,
  other_in,
  other_form,
  kind_broken,
  wrong_method,
  end_rule_at,
  section_rule_at,
}
use Rattle.cross_steps.specs.declared.Owner.{Owner}

-- two ends that both have a Side
pub sides_told :
    (t : List ℕ) (other own : StepRecord) → (other.side_size ≡ 0 → ⊥) → (own.side_size ≡ 0 → ⊥) →
    (a : List ℕ) → a ≡ name_at t other.side other.side_size → (b : List ℕ) → b ≡ name_at t own.side own.side_size →
    (r : Bool) → r ≡ same a b → r ≡ clashing t other own
unfolding clashing side_of
sides_told t other own h k a e b f r is = is ∙ (λ i. same (e i) (f i)) ∙ sym (either_rest _ _ (ne_eqb _ _ h) ∙ either_rest _ _ (ne_eqb _ _ k))

-- ---- the matrices of a section

pub least_told :
    (s : SectionRecord) (a : ℕ) → a ≡ lesser_given s.resistance s.inductance → (b : ℕ) → b ≡ lesser_given s.conductance s.capacitance →
    (r : ℕ) → r ≡ lesser_given a b → r ≡ least_of s
unfolding least_of
least_told s a e b f r is = is ∙ (λ i. lesser_given (e i) (f i))

module _ (table : List ℕ) (v : View) (rooms : Rooms table v) (i : ℕ) where
  pub first_behind : count_of v sections ≤ i → count_of v matrices ≡ first_matrix (records_of table) i
  unfolding first_matrix
  first_behind h =
      let k : length (records_of table).sections ≤ i = rw (sections_long_lem table v rooms) h in
      sym (if_false _ _ (le-ltb _ _ k) ∙ matrices_long table v rooms)

  pub first_least :
      i < count_of v sections → (s : SectionRecord) → s ≡ get_or (records_of table).sections i no_section → (word : ℕ) → word ≡ least_of s →
      (r : ℕ) → r ≡ word - 1 → r ≡ first_matrix (records_of table) i
  unfolding first_matrix
  first_least h s here word told r is =
      let k : i < length (records_of table).sections = rw (sections_long_lem table v rooms) h in
      is ∙ ap (λ (n : ℕ). n - 1) (told ∙ ap least_of here) ∙ sym (if_true _ _ (lt-ltb _ _ k))

module _ (table : List ℕ) (v : View) (rooms : StepRooms table v) (i : ℕ) (h : i < count_of v sections) (first : ℕ) (is_first : first ≡ first_matrix (records_of table) i)
    (next : ℕ) (is_next : next ≡ first_matrix (records_of table) (i + 1)) where
  pub forms_ordered : first ≤ next
  forms_ordered = rw (is_first, is_next) (rooms.ordered i h)

  pub forms_room : first + (next - first) ≤ count_of v matrices
  forms_room =
      let o : first ≤ next = forms_ordered in
      let b : next ≤ count_of v matrices = rw is_next (rooms.bounded i h) in
      omega arith

  pub forms_told : (r : Bool) → r ≡ other_in (range first (next - first) (records_of table).matrices) → r ≡ other_form (records_of table) i
  unfolding other_form
  forms_told r is = is ∙ (λ j. other_in (range (is_first j) (is_next j - is_first j) (records_of table).matrices))

module _ (r : Records) (kind i : ℕ) where
  pub kind_other : mlm ≤ kind → false ≡ kind_broken r kind i
  unfolding kind_broken
  kind_other h = sym (both_not_left _ _ (le-ltb _ _ h))

  pub kind_single : kind < mlm → (is : Bool) → is ≡ other_form r i → is ≡ kind_broken r kind i
  unfolding kind_broken
  kind_single h is e = e ∙ sym (both_rest _ _ (lt-ltb _ _ h))

module _ (table : List ℕ) (v : View) (rooms : Rooms table v) where
  -- a target that there is, or is not
  map_there : (i : ℕ) → i < count_of v maps → ltb i (length (records_of table).maps) ≡ true
  map_there i h = ap (ltb i) (maps_long table v rooms) ∙ lt-ltb i (count_of v maps) h

  map_lacks : (i : ℕ) → count_of v maps ≤ i → ltb i (length (records_of table).maps) ≡ false
  map_lacks i h = ap (ltb i) (maps_long table v rooms) ∙ le-ltb i (count_of v maps) h

  section_there : (i : ℕ) → i < count_of v sections → ltb i (length (records_of table).sections) ≡ true
  section_there i h = ap (ltb i) (sections_long_lem table v rooms) ∙ lt-ltb i (count_of v sections) h

  section_lacks : (i : ℕ) → count_of v sections ≤ i → ltb i (length (records_of table).sections) ≡ false
  section_lacks i h = ap (ltb i) (sections_long_lem table v rooms) ∙ le-ltb i (count_of v sections) h

  -- ---- the pins of the first map

  module _ (first many : ℕ) where
    pub differs_none : count_of v maps ≤ first → false ≡ differs_from (records_of table) first many
    unfolding differs_from
    differs_none h = sym (both_not_left _ _ (map_lacks first h))

    pub differs_some :
        first < count_of v maps → (m : MapRecord) → m ≡ get_or (records_of table).maps first no_map → not (eqb many m.pins) ≡ differs_from (records_of table) first many
    unfolding differs_from
    differs_some h m here = ap (λ (x : MapRecord). not (eqb many x.pins)) here ∙ sym (both_rest _ _ (map_there first h))

  -- ---- an end

  module _ (t : List ℕ) (o : Owner) (own : StepRecord) (above : ℕ) where
    pub end_none : count_of v maps ≤ own.target → refusal.no_map ≡ end_rule_at t (records_of table) o own above
    unfolding end_rule_at
    end_none h = gives_first _ _ _ (not_via (map_lacks own.target h))

    module _ (h : own.target < count_of v maps) (clashes : Bool) (is_clashing_lem : clashes ≡ meets_above t own (range o.from above (records_of table).steps)) where
      pub end_clashes : clashes ≡ true → refusal.side ≡ end_rule_at t (records_of table) o own above
      unfolding end_rule_at
      end_clashes e =
          gives_later _ _ _ _ (not_not_via (map_there own.target h))
          (gives_first _ _ _ (both_true _ _ (map_there own.target h) (sym is_clashing_lem ∙ e)))

      module _ (e : clashes ≡ false) (m : MapRecord) (here : m ≡ get_or (records_of table).maps own.target no_map) (other : Bool)
          (is_other_lem : other ≡ differs_from (records_of table) o.first m.pins) where
        is_different : other ≡ differs_from (records_of table) o.first (get_or (records_of table).maps own.target no_map).pins
        is_different = is_other_lem ∙ ap (λ (x : MapRecord). differs_from (records_of table) o.first x.pins) here

        pub end_differs : other ≡ true → refusal.count ≡ end_rule_at t (records_of table) o own above
        unfolding end_rule_at
        end_differs f =
            gives_later _ _ _ _ (not_not_via (map_there own.target h))
            (gives_later _ _ _ _ (both_not_right _ _ (sym is_clashing_lem ∙ e))
            (gives_first _ _ _ (both_true _ _ (map_there own.target h) (sym is_different ∙ f))))

        pub end_kept : other ≡ false → 0 ≡ end_rule_at t (records_of table) o own above
        unfolding end_rule_at
        end_kept f =
            gives_later _ _ _ _ (not_not_via (map_there own.target h))
            (gives_later _ _ _ _ (both_not_right _ _ (sym is_clashing_lem ∙ e)) (gives_later _ _ _ _ (both_not_right _ _ (sym is_different ∙ f)) refl))

  -- ---- a step over a section

  module _ (o : Owner) (own : StepRecord) (mult : Bool) where
    pub section_none : count_of v sections ≤ own.target → refusal.no_section ≡ section_rule_at (records_of table) o own mult
    unfolding section_rule_at
    section_none h = gives_first _ _ _ (not_via (section_lacks own.target h))

    module _ (h : own.target < count_of v sections) (s : SectionRecord) (here : s ≡ get_or (records_of table).sections own.target no_section) (wrong : Bool)
        (told : wrong ≡ wrong_method mult s.method) where
      is_wrong : wrong ≡ wrong_method mult (get_or (records_of table).sections own.target no_section).method
      is_wrong = told ∙ ap (λ (x : SectionRecord). wrong_method mult x.method) here

      pub section_wrong : wrong ≡ true → refusal.method ≡ section_rule_at (records_of table) o own mult
      unfolding section_rule_at
      section_wrong e =
          gives_later _ _ _ _ (not_not_via (section_there own.target h))
          (gives_first _ _ _ (both_true _ _ (section_there own.target h) (sym is_wrong ∙ e)))

      module _ (e : wrong ≡ false) (broken : Bool) (is_broken : broken ≡ kind_broken (records_of table) o.kind own.target) where
        pub section_kind_lem : broken ≡ true → refusal.kind ≡ section_rule_at (records_of table) o own mult
        unfolding section_rule_at
        section_kind_lem f =
            gives_later _ _ _ _ (not_not_via (section_there own.target h))
            (gives_later _ _ _ _ (both_not_right _ _ (sym is_wrong ∙ e))
            (gives_first _ _ _ (both_true _ _ (section_there own.target h) (sym is_broken ∙ f))))

        module _ (f : broken ≡ false) (other : Bool) (is_told : other ≡ differs_from (records_of table) o.first s.conductors) where
          is_other_lem : other ≡ differs_from (records_of table) o.first (get_or (records_of table).sections own.target no_section).conductors
          is_other_lem = is_told ∙ ap (λ (x : SectionRecord). differs_from (records_of table) o.first x.conductors) here

          pub section_differs : other ≡ true → refusal.count ≡ section_rule_at (records_of table) o own mult
          unfolding section_rule_at
          section_differs g =
              gives_later _ _ _ _ (not_not_via (section_there own.target h))
              (gives_later _ _ _ _ (both_not_right _ _ (sym is_wrong ∙ e))
              (gives_later _ _ _ _ (both_not_right _ _ (sym is_broken ∙ f))
              (gives_first _ _ _ (both_true _ _ (section_there own.target h) (sym is_other_lem ∙ g)))))

          pub section_kept : other ≡ false → 0 ≡ section_rule_at (records_of table) o own mult
          unfolding section_rule_at
          section_kept g =
              gives_later _ _ _ _ (not_not_via (section_there own.target h))
              (gives_later _ _ _ _ (both_not_right _ _ (sym is_wrong ∙ e))
              (gives_later _ _ _ _ (both_not_right _ _ (sym is_broken ∙ f)) (gives_later _ _ _ _ (both_not_right _ _ (sym is_other_lem ∙ g)) refl)))
