-- A table of `most_words` words or more is long enough for every text: the verdict is the same as for `most_words` words, and never 18.
-- Assumes nothing.
use mathlib.Core.Path.{◌≡◌, refl, sym, ◌∙◌, ap}
use mathlib.Core.List.{List}
use Prim.Native.Nat.{ℕ, ◌≤◌}
use native.Mathlib.Nat.{le_refl}
use native.Mathlib.Omega.{arith}
use lib.ListN.{length}
use lib.Dec.{eqb}
use borrow.Author.Tests.{le-ltb}
use Rattle.base.specs.Refusal as refusal
use Rattle.base.proofs.IfLaws.{by_test}
use Rattle.lex_line.specs.ByteRules.{byte_rules}
use Rattle.lex_line.specs.declared.Checked.{Checked}
use Rattle.lex_line.specs.declared.Checked.TheVariants as bytes
use Rattle.table_layout.specs.Layout.{widths, needed}
use Rattle.line_keyword.specs.declared.Counts.{Counts}
use Rattle.read_line.specs.Reading.{reading_of}
use Rattle.read_line.specs.declared.Reading.{Reading}
use Rattle.read_line.specs.declared.Reading.TheVariants as reading
use Rattle.doc.specs.Document.{document_of}
use Rattle.doc.specs.Records.{table_of}
use Rattle.doc.specs.Way.Holds.{counts_of}
use Rattle.intake.specs.Stored.{after_reading, store_answer}
use Rattle.intake.specs.declared.store.StoreAnswer.TheVariants.{Stored}
use Rattle.intake.proofs.RoomLaws.{room_there}
use Rattle.intake.proofs.ReadyLaws.{needed_is}
use Rattle.cross_rules.specs.Rules.{cross_rule}
use Rattle.intake.specs.Verdict.{Outcome, crossed, after_storing, after_bytes, verdict_of}
use Rattle.skumvari.specs.Room.{most_words}
use Rattle.skumvari.proofs.NumberLaws.{Other, other, OtherBytes, bytes_other, OtherReading, reading_other, cross_other}
use Rattle.table_layout.specs.Bounds.{bounds}
use Rattle.doc.proofs.CountLaws.{counts_bounded, counts_parts}
use Rattle.table_layout.proofs.StoreLaws.{needed_more}

module _ (t : List ℕ) where
  words_fit : (c : Counts) → reading_of t ≡ reading.Read c → length (table_of t) ≤ most_words
  unfolding most_words
  words_fit c e =
      let n : needed widths (counts_of c) ≡ length (table_of t) = needed_is t c e in
      let m : needed widths (counts_of c) ≤ needed widths bounds = needed_more widths (counts_of c) bounds (counts_parts c) (counts_bounded t c e) in
      omega arith

  module _ (size : ℕ) (enough : most_words ≤ size) where
    read_stored : (c : Counts) → reading_of t ≡ reading.Read c → after_reading t size (reading.Read c) ≡ Stored (length (table_of t))
    read_stored c e =
        let f : length (table_of t) ≤ most_words = words_fit c e in
        let l : length (table_of t) ≤ size = omega arith in
        room_there t size c (le-ltb size (length (table_of t)) l)

  filled_alike : (answer : Reading) → reading_of t ≡ answer → (size : ℕ) → most_words ≤ size → after_reading t size answer ≡ after_reading t most_words answer
  filled_alike (reading.Read c) e size enough = read_stored size enough c e ∙ sym (read_stored most_words (le_refl _) c e)
  filled_alike (reading.Refused number line) e size enough = refl

  filled_same : (size : ℕ) → most_words ≤ size → store_answer t size ≡ store_answer t most_words
  unfolding store_answer
  filled_same size enough = filled_alike (reading_of t) refl size enough

  bytes_alike : (checked : Checked) (size : ℕ) → most_words ≤ size → after_bytes t size checked ≡ after_bytes t most_words checked
  bytes_alike bytes.Fine size enough = ap (after_storing t) (filled_same size enough)
  bytes_alike (bytes.Refused number line) size enough = refl

  -- ---- the room always suffices

  crossed_other : (words : ℕ) → Other (crossed words (cross_rule (document_of t))).rule
  crossed_other words =
      by_test (λ (o : Outcome). Other o.rule) (eqb (cross_rule (document_of t)).rule 0) _ _ (λ e. other 0 refl) (λ e. cross_other (document_of t))

  module _ (size : ℕ) (enough : most_words ≤ size) where
    reading_number : (answer : Reading) → reading_of t ≡ answer → OtherReading answer → Other (after_storing t (after_reading t size answer)).rule
    reading_number (reading.Read c) e h =
        rw (read_stored size enough c e) (crossed_other (length (table_of t)))
    reading_number (reading.Refused number line) e h = h

    filling_number : Other (after_storing t (store_answer t size)).rule
    unfolding store_answer
    filling_number = reading_number (reading_of t) refl (reading_other t)

    bytes_number : (checked : Checked) → OtherBytes checked → Other (after_bytes t size checked).rule
    bytes_number bytes.Fine h = filling_number
    bytes_number (bytes.Refused number line) h = h

-- the verdict does not change if the table is longer than `most_words`
pub suffices : (t : List ℕ) (size : ℕ) → most_words ≤ size → verdict_of t size ≡ verdict_of t most_words
unfolding verdict_of
suffices t size enough = bytes_alike t (byte_rules t) size enough

-- and "18 ROOM: table shorter than the words needed" is not given
pub never_short : (t : List ℕ) (size : ℕ) → most_words ≤ size → (verdict_of t size).rule ≡ refusal.room → ⊥
unfolding verdict_of
never_short t size enough = (bytes_number t size enough (byte_rules t) (bytes_other t)).apart
