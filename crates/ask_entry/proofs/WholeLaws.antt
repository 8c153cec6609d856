-- Laws of the question for a whole matrix: what is known at each `return`.
-- Assumes nothing.
use mathlib.Core.Path.{◌≡◌, refl, sym, ◌∙◌, ap}
use mathlib.Core.Bool.{Bool, true, false, not}
use mathlib.Core.List.{List}
use Prim.Native.Nat.{ℕ, ◌*◌, ◌≤◌, ◌<◌}
use native.Mathlib.Nat.{mul-le-mul}
use native.Mathlib.Omega.{arith}
use mir.Syntax.{w64}
use mir.Val.{Fits}
use lib.ListN.{get_or}
use lib.Seq.{sets}
use borrow.Author.Tests.{lt-ltb, le-ltb, not-true, not-false}
use Rattle.base.specs.Refusal as refusal
use Rattle.base.proofs.IfLaws.{if_true, if_false, not_via, not_not_via}
use Rattle.table_layout.specs.Bounds.{most_conductors}
use Rattle.table_record.specs.declared.SectionRecord.{SectionRecord}
use Rattle.table_record.specs.Records.{Records, records_of, no_section}
use Rattle.std.specs.Prelude.{None}
use Rattle.ask_sound.specs.Sound.{is_sound, sound_view}
use Rattle.ask_sound.proofs.SoundLaws.{told_unsound}
use Rattle.ask_entry.specs.Entry.{matrix_index, is_in_range}
use Rattle.ask_entry.specs.WholeMatrix.{found_of, short_of, whole_words, square_of, section_conductors, matrix_from, matrix_answer, room_after}
use Rattle.ask_entry.specs.declared.WholeAnswer.{WholeAnswer}
use Rattle.ask_entry.specs.declared.WholeAnswer.TheVariants.{Found, Short, Refused}

-- ---- the words

module _ (r : Records) (section kind room : ℕ) (inside : Bool) (is_inside_lem : inside ≡ is_in_range r section kind 1 1) where
  pub whole_no_such : not inside ≡ true → whole_words (Refused refusal.no_such) ≡ matrix_from r section kind room
  unfolding matrix_from
  whole_no_such e = sym (if_true _ _ (not_via (sym is_inside_lem ∙ not-true inside e)))

  module _ (there : not inside ≡ false) (s : SectionRecord) (here : s ≡ get_or r.sections section no_section) where
    in_range_lem : is_in_range r section kind 1 1 ≡ true
    in_range_lem = sym is_inside_lem ∙ not-false inside there

    conductors_are : s.conductors ≡ section_conductors r section
    unfolding section_conductors
    conductors_are = ap (λ (x : SectionRecord). x.conductors) here

    abbrev square : ℕ
    square = section_conductors r section * section_conductors r section

    square_is : s.conductors * s.conductors ≡ square
    square_is = λ i. conductors_are i * conductors_are i

    pub whole_short : room < s.conductors * s.conductors → whole_words (Short s.conductors) ≡ matrix_from r section kind room
    unfolding matrix_from
    whole_short h =
        let k : room < square = rw square_is at h in
        ap short_of conductors_are ∙ sym (if_false _ _ (not_not_via in_range_lem) ∙ if_true _ _ (lt-ltb room square k))

    pub whole_found : s.conductors * s.conductors ≤ room → whole_words (Found s.conductors) ≡ matrix_from r section kind room
    unfolding matrix_from
    whole_found h =
        let k : square ≤ room = rw square_is at h in
        ap found_of conductors_are ∙ sym (if_false _ _ (not_not_via in_range_lem) ∙ if_false _ _ (le-ltb room square k))

-- ---- the room

module _ (table : List ℕ) (section kind : ℕ) (values : List ℕ) where
  pub room_refused : (rule : ℕ) → values ≡ room_after table section kind (whole_words (Refused rule)) values
  unfolding room_after
  room_refused rule = sym (if_false _ _ refl)

  pub room_short : (conductors : ℕ) → values ≡ room_after table section kind (whole_words (Short conductors)) values
  unfolding room_after
  room_short conductors = sym (if_false _ _ refl)

  module _ (s : SectionRecord) (here : s ≡ get_or (records_of table).sections section no_section) (index : ℕ) (is_index : index ≡ matrix_index s kind) where
    pub room_filled : (conductors : ℕ) (after : List ℕ) → after ≡ sets values 0 (square_of (records_of table) index conductors) → after ≡ room_after table section kind (whole_words (Found conductors)) values
    unfolding room_after
    room_filled conductors after e =
        e ∙ ap (λ (n : ℕ). sets values 0 (square_of (records_of table) n conductors)) (is_index ∙ ap (λ (x : SectionRecord). matrix_index x kind) here) ∙ sym (if_true _ _ refl)

-- ---- a table that is judged, or known to be sound

module _ (t table : List ℕ) (section kind room : ℕ) where
  pub whole_known : is_sound t table ≡ true → (a : WholeAnswer) → whole_words a ≡ matrix_from (records_of table) section kind room → whole_words a ≡ matrix_answer t table section kind room
  unfolding matrix_answer
  whole_known sound a e = e ∙ sym (if_false _ _ (not_not_via sound))

  pub whole_unsound : None ≡ sound_view t table → whole_words (Refused refusal.table) ≡ matrix_answer t table section kind room
  unfolding matrix_answer
  whole_unsound none = sym (if_true _ _ (not_via (told_unsound t table none)))

pub square_fits : (conductors : ℕ) → conductors ≤ most_conductors → Fits w64 (conductors * conductors)
square_fits conductors few =
    let m : conductors * conductors ≤ most_conductors * most_conductors = mul-le-mul few few in
    omega arith
