-- What is known of an accepted text: it has passed every stage of the intake.
-- Assumes nothing.
use mathlib.Core.Path.{◌≡◌, refl, sym, ◌∙◌, ap}
use mathlib.Core.Bool.{true, false, true≢false}
use mathlib.Core.List.{List}
use Prim.Native.Nat.{ℕ, ◌≤◌}
use lib.ListN.{length}
use lib.Dec.{ltb, eqb}
use borrow.Author.Tests.{eqb-true, ltb-false}
use Rattle.base.proofs.IfLaws.{if_false, by_cases}
use Rattle.lex_line.specs.ByteRules.{byte_rules}
use Rattle.lex_line.specs.declared.Checked.{Checked}
use Rattle.lex_line.specs.declared.Checked.TheVariants as bytes
use Rattle.line_keyword.specs.declared.Counts.{Counts}
use Rattle.read_line.specs.Reading.{reading_of}
use Rattle.read_line.specs.declared.Reading.{Reading}
use Rattle.read_line.specs.declared.Reading.TheVariants as reading
use Rattle.doc.specs.Document.{document_of}
use Rattle.doc.specs.Records.{table_of}
use Rattle.intake.specs.Stored.{store_answer, after_reading}
use Rattle.intake.specs.declared.store.StoreAnswer.{StoreAnswer}
use Rattle.intake.proofs.RoomLaws.{room_there, room_short}
use Rattle.cross_rules.specs.Rules.{cross_rule}
use Rattle.intake.specs.Verdict.{Outcome, crossed, after_storing, after_bytes, verdict_of}

-- no rule of 1 to 4 and of 5 to 17 is broken, the table has room, and no rule of 19 to 29 is broken
pub record Taken (t : List ℕ) (size : ℕ) : Type 0 where
  pub counts : Counts
  pub fine : byte_rules t ≡ bytes.Fine
  pub reads : reading_of t ≡ reading.Read counts
  pub room : length (table_of t) ≤ size
  pub kept : (cross_rule (document_of t)).rule ≡ 0

module _ (t : List ℕ) (size : ℕ) (fine : byte_rules t ≡ bytes.Fine) where
  taken_crossed : (c : Counts) → reading_of t ≡ reading.Read c → length (table_of t) ≤ size → (crossed (length (table_of t)) (cross_rule (document_of t))).accepted ≡ true → Taken t size
  taken_crossed c r l a =
      by_cases _ (eqb (cross_rule (document_of t)).rule 0)
      (λ (e : eqb (cross_rule (document_of t)).rule 0 ≡ true). record { counts = c; fine = fine; reads = r; room = l; kept = eqb-true _ _ e })
      (λ (e : eqb (cross_rule (document_of t)).rule 0 ≡ false). absurd (true≢false (sym a ∙ ap (λ (o : Outcome). o.accepted) (if_false _ _ e))))

  taken_room : (c : Counts) → reading_of t ≡ reading.Read c → (after_storing t (after_reading t size (reading.Read c))).accepted ≡ true → Taken t size
  taken_room c r a =
      by_cases _ (ltb size (length (table_of t)))
      (λ (e : ltb size (length (table_of t)) ≡ true). absurd (true≢false (sym a ∙ ap (λ (f : StoreAnswer). (after_storing t f).accepted) (room_short t size c e))))
      (λ (e : ltb size (length (table_of t)) ≡ false). taken_crossed c r (ltb-false _ _ e) (ap (λ (f : StoreAnswer). (after_storing t f).accepted) (sym (room_there t size c e)) ∙ a))

  taken_reading : (answer : Reading) → reading_of t ≡ answer → (after_storing t (after_reading t size answer)).accepted ≡ true → Taken t size
  taken_reading (reading.Read c) r a = taken_room c r a
  taken_reading (reading.Refused number line) r a = absurd (true≢false (sym a))

  taken_filled : (after_storing t (store_answer t size)).accepted ≡ true → Taken t size
  unfolding store_answer
  taken_filled a = taken_reading (reading_of t) refl a

taken_bytes : (t : List ℕ) (size : ℕ) (answer : Checked) → byte_rules t ≡ answer → (after_bytes t size answer).accepted ≡ true → Taken t size
taken_bytes t size bytes.Fine e a = taken_filled t size e a
taken_bytes t size (bytes.Refused number line) e a = absurd (true≢false (sym a))

pub accepted_taken : (t : List ℕ) (size : ℕ) → (verdict_of t size).accepted ≡ true → Taken t size
unfolding verdict_of
accepted_taken t size a = taken_bytes t size (byte_rules t) refl a
