-- Laws of the question "entry": row and column may be exchanged, and the definition leaves exactly one answer.
-- Assumes nothing.
use mathlib.Core.Path.{◌≡◌, refl, sym, ◌∙◌, ap}
use mathlib.Core.Bool.{Bool, true, false, not, true≢false}
use mathlib.Core.List.{List}
use Prim.Native.Nat.{ℕ, ◌-◌, ◌<◌, ◌≤◌}
use native.Mathlib.Nat.{min_comm, max_comm}
use lib.ListN.{length, get_or}
use lib.Dec.{eqb, ltb}
use borrow.Author.Tests.{not-true, not-false}
use Rattle.table_record.specs.Way.Standing.{count_of, Rooms}
use Rattle.table_record.specs.Records.{Records, records_of, no_section, no_matrix}
use Rattle.base.specs.If.{provided◌then◌else◌, both}
use Rattle.base.specs.Refusal as refusal
use Rattle.table_layout.specs.Codes.{matrix_kinds}
use Rattle.table_layout.specs.Bounds.{most_conductors}
use Rattle.table_record.specs.declared.SectionRecord.{SectionRecord}
use Rattle.base.proofs.IfLaws.{if_true, if_false, not_via, not_not_via}
use Rattle.lex_number.specs.ValueWord.{zero_word}
use Rattle.table_layout.specs.Layout.{sections, matrices}
use Rattle.table_layout.specs.declared.View.{View}
use Rattle.std.specs.Prelude.{None, Result, Ok, Err}
use Rattle.ask_sound.specs.Sound.{is_sound, sound_view}
use Rattle.ask_sound.specs.Way.Judged.{SoundRecords}
use Rattle.ask_sound.proofs.SoundLaws.{told_unsound}
use Rattle.ask_entry.specs.Entry.{EntryWords, found_with, entry_refused, entry_words, matrix_index, word_at, matrix_values, entry_of, is_in_range, entry_from, entry_answer}
use Rattle.ask_entry.proofs.ReadyLaws.{range_section, matrix_few, conductors_few}

-- ---- "entry (j,i) is entry (i,j)"

both_swap : (a b : Bool) → both a b ≡ both b a
unfolding both
both_swap true true = refl
both_swap true false = refl
both_swap false true = refl
both_swap false false = refl

entry_exchange : (r : Records) (index row column : ℕ) → entry_of r index row column ≡ entry_of r index column row
unfolding entry_of
entry_exchange r index row column =
    λ i.
    provided eqb index 0
    then zero_word
    else word_at (min_comm row column i) (max_comm row column i) (matrix_values r (get_or r.matrices (index - 1) no_matrix))

range_exchange : (r : Records) (section kind row column : ℕ) → is_in_range r section kind row column ≡ is_in_range r section kind column row
unfolding is_in_range
range_exchange r section kind row column =
    ap (λ (b : Bool). both (ltb section (length r.sections)) (both (ltb kind matrix_kinds) b)) (both_swap _ _)

from_exchange : (r : Records) (section kind row column : ℕ) → entry_from r section kind row column ≡ entry_from r section kind column row
unfolding entry_from
from_exchange r section kind row column =
    λ i.
    provided not (range_exchange r section kind row column i) then entry_refused refusal.no_such else
    found_with (entry_exchange r (matrix_index (get_or r.sections section no_section) kind) row column i)

pub exchange : (t table : List ℕ) (section kind row column : ℕ) → entry_answer t table section kind row column ≡ entry_answer t table section kind column row
unfolding entry_answer
exchange t table section kind row column =
    λ i. provided not (is_sound t table) then entry_refused refusal.table else from_exchange (records_of table) section kind row column i

-- ---- one answer

pub one_answer : (a b : Result ℕ ℕ) → entry_words a ≡ entry_words b → a ≡ b
one_answer (Ok x) (Ok y) e = ap (λ (w : EntryWords). Ok w.word) e
one_answer (Ok x) (Err y) e = absurd (true≢false (ap (λ (w : EntryWords). w.found) e))
one_answer (Err x) (Ok y) e = absurd (true≢false (sym (ap (λ (w : EntryWords). w.found) e)))
one_answer (Err x) (Err y) e = ap (λ (w : EntryWords). Err w.rule) e

-- any two answers that satisfy the contract are equal
pub unique : (t table : List ℕ) (section kind row column : ℕ) (a b : Result ℕ ℕ) →
    entry_words a ≡ entry_answer t table section kind row column → entry_words b ≡ entry_answer t table section kind row column → a ≡ b
unique t table section kind row column a b e f = one_answer a b (e ∙ sym f)

-- ---- what is known at each `return`

module _ (table : List ℕ) (section kind row column : ℕ) (inside : Bool) (is_inside_lem : inside ≡ is_in_range (records_of table) section kind row column) where
  pub from_no_such : not inside ≡ true → entry_words (Err refusal.no_such) ≡ entry_from (records_of table) section kind row column
  unfolding entry_from
  from_no_such e = sym (if_true _ _ (not_via (sym is_inside_lem ∙ not-true inside e)))

  module _ (there : not inside ≡ false) (s : SectionRecord) (here : s ≡ get_or (records_of table).sections section no_section) (index : ℕ) (is_index : index ≡ matrix_index s kind) where
    pub from_found : (word : ℕ) → word ≡ entry_of (records_of table) index row column → entry_words (Ok word) ≡ entry_from (records_of table) section kind row column
    unfolding entry_from
    from_found word e =
        ap found_with (e ∙ ap (λ (n : ℕ). entry_of (records_of table) n row column) (is_index ∙ ap (λ (x : SectionRecord). matrix_index x kind) here))
        ∙ sym (if_false _ _ (not_not_via (sym is_inside_lem ∙ not-false inside there)))

module _ (t table : List ℕ) (section kind row column : ℕ) where
  pub answer_known : is_sound t table ≡ true → (a : Result ℕ ℕ) → entry_words a ≡ entry_from (records_of table) section kind row column → entry_words a ≡ entry_answer t table section kind row column
  unfolding entry_answer
  answer_known sound a e = e ∙ sym (if_false _ _ (not_not_via sound))

  pub answer_unsound : None ≡ sound_view t table → entry_words (Err refusal.table) ≡ entry_answer t table section kind row column
  unfolding entry_answer
  answer_unsound none = sym (if_true _ _ (not_via (told_unsound t table none)))

-- what the functions below ask for
module _ (table : List ℕ) (v : View) (rooms : Rooms table v) (records : SoundRecords table) (section kind row column : ℕ)
    (inside : Bool) (is_inside_lem : inside ≡ is_in_range (records_of table) section kind row column) (there : not inside ≡ false) where
  pub from_section_lem : section < count_of v sections
  from_section_lem = range_section table v rooms section kind row column inside is_inside_lem there

  module _ (s : SectionRecord) (here : s ≡ get_or (records_of table).sections section no_section) where
    pub from_matrix : (other index : ℕ) → index ≡ matrix_index s other → index ≤ count_of v matrices
    from_matrix = matrix_few table v rooms section records from_section_lem s here

    pub from_few : s.conductors ≤ most_conductors
    from_few = conductors_few table v rooms section records from_section_lem s here
