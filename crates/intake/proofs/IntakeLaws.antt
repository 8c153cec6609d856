-- The groups of rules, one after another: what the answer of each group means for the outcome and for the table.
-- Assumes nothing.
use mathlib.Core.Path.{◌≡◌, refl, sym, ◌∙◌, ap}
use mathlib.Core.Bool.{true, false}
use mathlib.Core.List.{List, ◌++◌}
use Prim.Native.Nat.{ℕ, ◌+◌, ◌-◌, ◌≤◌}
use native.Mathlib.Omega.{arith}
use lib.ListN.{length, replicate, length-append, length-replicate}
use lib.Dec.{ltb}
use borrow.Author.Tests.{eq-eqb, ne_eqb, ltb-false}
use Rattle.base.proofs.IfLaws.{if_true, if_false, by_cases}
use Rattle.line_keyword.specs.declared.Counts.{Counts}
use Rattle.lex_line.specs.ByteRules.{byte_rules}
use Rattle.lex_line.specs.declared.Checked as text
use Rattle.lex_line.specs.declared.Checked.TheVariants as bytes
use Rattle.read_line.specs.Reading.{reading_of}
use Rattle.read_line.specs.declared.Reading.{Reading}
use Rattle.read_line.specs.declared.Reading.TheVariants as reading
use Rattle.doc.specs.Document.{document_of}
use Rattle.doc.specs.Records.{table_of}
use Rattle.intake.specs.Way.Stored.{table_after_storing}
use Rattle.intake.specs.Stored.{after_reading, store_answer}
use Rattle.intake.specs.declared.store.StoreAnswer as storing
use Rattle.intake.specs.declared.store.StoreAnswer.TheVariants.{Stored, Refused}
use Rattle.cross_rules.specs.Rules.{cross_rule}
use Rattle.cross_rules.specs.Way.HoldsText.{HoldsText}
use Rattle.cross_rules.specs.declared.Finding.{Finding}
use Rattle.intake.specs.Verdict.{Outcome, accepted_with, refused_by, crossed, after_storing, after_bytes, verdict_of, table_for}
use Rattle.intake.proofs.RoomLaws.{room_there, room_short}

-- ---- the table

module _ (t : List ℕ) (size : ℕ) where
  pub zeros_refused : (number line : ℕ) → table_for t size (refused_by number line) ≡ replicate size 0
  unfolding table_for
  zeros_refused number line = if_false _ _ refl

  pub layout_accepted : (words : ℕ) → table_for t size (accepted_with words) ≡ table_of t ++ replicate (size - length (table_of t)) 0
  unfolding table_for
  layout_accepted words = if_true _ _ refl

-- ---- 19 to 29

module _ (t : List ℕ) (words : ℕ) (finding : Finding) (is : finding ≡ cross_rule (document_of t)) where
  pub crossed_broken : (finding.rule ≡ 0 → ⊥) → refused_by finding.rule finding.line ≡ crossed words (cross_rule (document_of t))
  crossed_broken n = sym (if_false _ _ (ne_eqb _ _ n)) ∙ ap (crossed words) is

  pub crossed_kept : finding.rule ≡ 0 → accepted_with words ≡ crossed words (cross_rule (document_of t))
  crossed_kept e = sym (if_true _ _ (eq-eqb _ _ e)) ∙ ap (crossed words) is

pub table_kept : (t table : List ℕ) → HoldsText t table → (words : ℕ) → table ≡ table_for t (length table) (accepted_with words)
table_kept t table filled words = filled.words ∙ sym (layout_accepted t (length table) words)

pub table_cleared : (t table after : List ℕ) (number line : ℕ) → after ≡ replicate (length table) 0 → after ≡ table_for t (length table) (refused_by number line)
table_cleared t table after number line e = e ∙ sym (zeros_refused t (length table) number line)

-- ---- 5 to 18

pub record Reads (t : List ℕ) (size words : ℕ) : Type 0 where
  pub counts : Counts
  pub reads : reading_of t ≡ reading.Read counts
  pub room : length (table_of t) ≤ size
  pub long : words ≡ length (table_of t)

-- which case it is, and the words of a text that is stored
abbrev is_stored : storing.StoreAnswer → ℕ
is_stored (Stored words) = 1
is_stored (Refused number line) = 0

abbrev words_of : storing.StoreAnswer → ℕ
words_of (Stored words) = words
words_of (Refused number line) = 0

not_stored : (number line words : ℕ) → Refused number line ≡ Stored words → ⊥
not_stored number line words e = let z : ◌≡◌ {A = ℕ} 0 1 = ap is_stored e in omega arith

module _ (t : List ℕ) (size words : ℕ) where
  reads_by : (counts : Counts) → reading_of t ≡ reading.Read counts → after_reading t size (reading.Read counts) ≡ Stored words → Reads t size words
  reads_by counts r e =
      by_cases _ (ltb size (length (table_of t)))
      (λ (h : ltb size (length (table_of t)) ≡ true). absurd (not_stored _ 0 words (sym (room_short t size counts h) ∙ e)))
      (λ (h : ltb size (length (table_of t)) ≡ false).
      record { counts = counts; reads = r; room = ltb-false _ _ h; long = sym (ap words_of (sym (room_there t size counts h) ∙ e)) })

  stored_by : (answer : Reading) → reading_of t ≡ answer → after_reading t size answer ≡ Stored words → Reads t size words
  stored_by (reading.Read counts) r e = reads_by counts r e
  stored_by (reading.Refused number line) r e = absurd (not_stored number line words e)

  pub stored_reads : store_answer t size ≡ Stored words → Reads t size words
  unfolding store_answer
  stored_reads e = stored_by (reading_of t) refl e

module _ (t table : List ℕ) (size : ℕ) (answer : storing.StoreAnswer) (is : answer ≡ store_answer t size) (holds : table ≡ table_after_storing t size answer) where
  module _ (words : ℕ) (e : answer ≡ Stored words) where
    reads : Reads t size words
    reads = stored_reads t size words (sym is ∙ e)

    laid : table ≡ table_of t ++ replicate (size - length (table_of t)) 0
    laid = holds ∙ ap (table_after_storing t size) e

    pub long : length table ≡ size
    long =
        let r : length (table_of t) ≤ size = reads.room in
        let n : length table ≡ length (table_of t) + (size - length (table_of t)) = ap length laid ∙ length-append (table_of t) _ ∙ ap (λ (k : ℕ). length (table_of t) + k) (length-replicate (size - length (table_of t)) 0) in
        omega arith

    pub stored_holds : HoldsText t table
    stored_holds = record { counts = reads.counts; reads = reads.reads; words = rw long laid }

    pub stored_outcome : (o : Outcome) → o ≡ crossed words (cross_rule (document_of t)) → o ≡ after_storing t (store_answer t size)
    stored_outcome o h = h ∙ ap (after_storing t) (sym e ∙ is)

    pub stored_table : (after : List ℕ) (o : Outcome) → after ≡ table_for t (length table) o → after ≡ table_for t size o
    stored_table after o h = h ∙ ap (λ (n : ℕ). table_for t n o) long

  module _ (number line : ℕ) (e : answer ≡ Refused number line) where
    pub refused_outcome : refused_by number line ≡ after_storing t (store_answer t size)
    refused_outcome = ap (after_storing t) (sym e ∙ is)

    pub refused_table : table ≡ table_for t size (refused_by number line)
    refused_table = holds ∙ ap (table_after_storing t size) e ∙ sym (zeros_refused t size number line)

-- ---- 1 to 4

module _ (t : List ℕ) (size : ℕ) (checked : text.Checked) (is : checked ≡ byte_rules t) where
  pub fine_outcome : checked ≡ bytes.Fine → (o : Outcome) → o ≡ after_storing t (store_answer t size) → o ≡ verdict_of t size
  unfolding verdict_of
  fine_outcome e o h = h ∙ ap (after_bytes t size) (sym e ∙ is)

  pub bytes_outcome : (number line : ℕ) → checked ≡ bytes.Refused number line → refused_by number line ≡ verdict_of t size
  unfolding verdict_of
  bytes_outcome number line e = ap (after_bytes t size) (sym e ∙ is)
