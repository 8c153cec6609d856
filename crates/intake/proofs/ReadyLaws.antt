-- The contracts of the code that stores a text: each call finds what it requires, and in the end the table is the
-- text's.
-- Assumes nothing.
use mathlib.Core.Path.{◌≡◌, sym, ◌∙◌, ap}
use mathlib.Core.List.{List}
use Prim.Native.Nat.{ℕ, ◌*◌, ◌≤◌, ◌<◌}
use native.Mathlib.Nat.{le_trans}
use native.Mathlib.Omega.{arith}
use lib.ListN.{length, replicate, length-replicate}
use borrow.Author.Tests.{lt-ltb, le-ltb}
use Rattle.base.specs.Refusal as refusal
use Rattle.table_layout.specs.Layout.{map_width, pin_width, section_width, matrix_width, widths, needed}
use Rattle.table_layout.specs.Bounds.{most_models, most_steps, most_maps, most_pins, most_sections, most_matrices}
use Rattle.table_record.specs.Way.Stage.{Whole, staged_model_width, staged_model_words, staged_step_width}
use Rattle.table_layout.specs.Way.Bases.{BoundedCounts}
use Rattle.table_layout.proofs.StoreLaws.{bounds_small}
use Rattle.line_keyword.specs.declared.Counts.{Counts}
use Rattle.read_line.specs.Reading.{reading_of}
use Rattle.read_line.specs.declared.Reading.{Reading}
use Rattle.read_line.specs.declared.Reading.TheVariants as reading
use Rattle.doc.specs.Records.{table_of}
use Rattle.doc.specs.Way.Holds.{counts_of}
use Rattle.doc.specs.Lines.{significant, gather}
use Rattle.doc.specs.Document.{step_of, document_of}
use Rattle.doc.specs.Way.Staged.{staged_models, ModelsStaged, step_staged, StepsStaged}
use Rattle.doc.proofs.CountLaws.{counts_agree, counts_bounded, table_long}
use Rattle.store_table.specs.Way.Targets.{Roomy}
use Rattle.intake.specs.Stored.{after_reading, store_answer}
use Rattle.intake.specs.declared.store.StoreAnswer.{StoreAnswer}
use Rattle.intake.specs.declared.store.StoreAnswer.TheVariants.{Stored, Refused}
use Rattle.intake.specs.Verdict.{Outcome, after_storing, table_for}
use Rattle.intake.proofs.RoomLaws.{room_there, room_short}
use Rattle.intake.proofs.IntakeLaws.{Reads, stored_reads}

-- ---- room

-- the words needed are the words used
pub needed_is : (t : List ℕ) (c : Counts) → reading_of t ≡ reading.Read c → needed widths (counts_of c) ≡ length (table_of t)
needed_is t c reads = sym (table_long t ∙ ap (needed widths) (counts_agree t c reads))

module _ (t : List ℕ) (c : Counts) (reads : reading_of t ≡ reading.Read c) (many : List ℕ) (is_many : many ≡ counts_of c) where
  -- no count is above the bound of values
  pub many_few : BoundedCounts many
  many_few = rw is_many (record { few = λ (p : ℕ). le_trans (counts_bounded t c reads p) (bounds_small p) })

  module _ (size words : ℕ) (is_words : words ≡ needed widths many) where
    words_for : words ≡ needed widths (counts_of c)
    words_for = is_words ∙ ap (needed widths) is_many

    words_are : words ≡ length (table_of t)
    words_are = words_for ∙ needed_is t c reads

    pub store_refused : size < words → Refused refusal.room 0 ≡ store_answer t size
    unfolding store_answer
    store_refused h = sym (ap (after_reading t size) reads ∙ room_short t size c (lt-ltb _ _ (rw words_are at h)))

    pub store_stored : words ≤ size → Stored words ≡ store_answer t size
    unfolding store_answer
    store_stored h = ap Stored words_are ∙ sym (ap (after_reading t size) reads ∙ room_there t size c (le-ltb _ _ (rw words_are at h)))

    pub store_room : words ≤ size → needed widths (counts_of c) ≤ size
    store_room h = rw words_for at h

-- ---- the answer of the reading

module _ (t : List ℕ) (answer : Reading) (told : answer ≡ reading_of t) where
  pub not_read : (size number line : ℕ) → answer ≡ reading.Refused number line → Refused number line ≡ store_answer t size
  unfolding store_answer
  not_read size number line e = ap (after_reading t size) (sym e ∙ told)

  pub store_ready : {P Q : Type 0} → ((c : Counts) → answer ≡ reading.Read c → P) → Q → (c : Counts) → answer ≡ reading.Read c → (reading_of t ≡ reading.Read c) × P × Q
  store_ready given roomy c e = (sym told ∙ e, given c e, roomy)

  -- what holds of a text that is read to its end holds of one that is stored
  pub told_stored : {P : Type 0} → ((c : Counts) → answer ≡ reading.Read c → P) → (size : ℕ) (r : StoreAnswer) → r ≡ store_answer t size → (words : ℕ) → r ≡ Stored words → P
  told_stored given size r is words e =
      let read : Reads t size words = stored_reads t size words (sym is ∙ e) in
      given read.counts (told ∙ read.reads)

-- and the table is as long as before
module _ (size before : ℕ) (same : size ≡ before) where
  pub taken_before : (t table : List ℕ) (o : Outcome) → (o ≡ after_storing t (store_answer t size)) × (table ≡ table_for t size o) →
      (o ≡ after_storing t (store_answer t before)) × (table ≡ table_for t before o)
  taken_before t table o e = rw same at e

-- ---- the stages

-- a stage has the room that it was made with
room_kept : (n : ℕ) (stage before : List ℕ) → before ≡ replicate n 0 → length stage ≡ length before → n ≤ length stage
room_kept n stage before is same =
    let k : length before ≡ n = ap length is ∙ length-replicate n 0 in
    omega arith

pub models_staged :
    (t models models' : List ℕ) → Whole staged_model_words staged_model_width (staged_models 0 (document_of t).models) models' →
    models ≡ replicate (staged_model_width * most_models) 0 → length models' ≡ length models → ModelsStaged t models'
models_staged t models models' whole is same = record { whole = whole; room = room_kept (staged_model_width * most_models) models' models is same }

pub steps_staged :
    (t steps steps' : List ℕ) → Whole step_staged staged_step_width (gather step_of (significant t)) steps' →
    steps ≡ replicate (staged_step_width * most_steps) 0 → length steps' ≡ length steps → StepsStaged t steps'
steps_staged t steps steps' whole is same = record { whole = whole; room = room_kept (staged_step_width * most_steps) steps' steps is same }

pub roomy :
    {models steps maps pins sections matrices models' steps' maps' pins' sections' matrices' : List ℕ} →
    models ≡ replicate (staged_model_width * most_models) 0 → length models' ≡ length models →
    steps ≡ replicate (staged_step_width * most_steps) 0 → length steps' ≡ length steps →
    maps ≡ replicate (map_width * most_maps) 0 → length maps' ≡ length maps →
    pins ≡ replicate (pin_width * most_pins) 0 → length pins' ≡ length pins →
    sections ≡ replicate (section_width * most_sections) 0 → length sections' ≡ length sections →
    matrices ≡ replicate (matrix_width * most_matrices) 0 → length matrices' ≡ length matrices →
    Roomy models' steps' maps' pins' sections' matrices'
roomy {models} {steps} {maps} {pins} {sections} {matrices} {models'} {steps'} {maps'} {pins'} {sections'} {matrices'} a a' b b' d d' e e' f f' g g' =
    record {
      models_fit = room_kept (staged_model_width * most_models) models' models a a';
      steps_fit = room_kept (staged_step_width * most_steps) steps' steps b b';
      maps_fit = room_kept (map_width * most_maps) maps' maps d d';
      pins_fit = room_kept (pin_width * most_pins) pins' pins e e';
      sections_fit = room_kept (section_width * most_sections) sections' sections f f';
      matrices_fit = room_kept (matrix_width * most_matrices) matrices' matrices g g';
    }
