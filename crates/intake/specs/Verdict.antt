-- Document 01: the outcome of the intake for a text and a lent table of a given length, and what the table then holds.
-- "Order: 1; 2 to 4 over all lines; 5 to 17 reading forward; 18; 19 to 27 over all lines." Document 02 of the last: "the
-- order there is 19 to 27, 28 if present, 29."
-- Assumes nothing.
use Rattle.std.specs.Prelude.{ℕ, ◌-◌, ◌≡◌, Bool, true, false, List, ◌++◌, length, replicate, eqb}
use Rattle.base.specs.If.{provided◌then◌else◌}
use Rattle.lex_line.specs.ByteRules.{byte_rules}
use Rattle.lex_line.specs.declared.Checked.{Checked}
use Rattle.lex_line.specs.declared.Checked.TheVariants as bytes
use Rattle.doc.specs.Document.{document_of}
use Rattle.doc.specs.Records.{table_of}
use Rattle.intake.specs.Stored.{store_answer}
use Rattle.intake.specs.declared.store.StoreAnswer.{StoreAnswer}
use Rattle.intake.specs.declared.store.StoreAnswer.TheVariants as storing
use Rattle.cross_rules.specs.Rules.{cross_rule}
use Rattle.cross_rules.specs.declared.Finding.{Finding}
use Rattle.intake.specs.declared.Answer.{Answer}
use Rattle.intake.specs.declared.Answer.TheVariants.{Accepted, Refused}

-- "accepted with words used, or number and line"
pub record Outcome : Type 0 where
  pub accepted : Bool
  pub rule : ℕ
  pub line : ℕ
  pub used : ℕ

abbrev pub accepted_with : ℕ → Outcome
accepted_with words = record { accepted = true; rule = 0; line = 0; used = words }

abbrev pub refused_by : ℕ → ℕ → Outcome
refused_by rule line = record { accepted = false; rule = rule; line = line; used = 0 }

-- the paper's number, line and words used for each case of the answer
abbrev pub answer_words : Answer → Outcome
answer_words (Accepted words) = accepted_with words
answer_words (Refused rule line) = refused_by rule line

-- rules 19 to 29: the text is stored in `words` words, and `finding` is what it breaks first, if anything
abbrev pub crossed : ℕ → Finding → Outcome
crossed words finding = provided eqb finding.rule 0 then accepted_with words else refused_by finding.rule finding.line

-- the outcome, given the result of rules 5 to 18
abbrev pub after_storing : List ℕ → StoreAnswer → Outcome
after_storing t (storing.Stored words) = crossed words (cross_rule (document_of t))
after_storing t (storing.Refused rule line) = refused_by rule line

-- the outcome, given the result of rules 1 to 4
abbrev pub after_bytes : List ℕ → ℕ → Checked → Outcome
after_bytes t size bytes.Fine = after_storing t (store_answer t size)
after_bytes t size (bytes.Refused rule line) = refused_by rule line

-- for a table of `size` words
unfoldable pub verdict_of : List ℕ → ℕ → Outcome
verdict_of t size = after_bytes t size (byte_rules t)

-- "A refused intake zeroes the table, an accepted one the words past those used": the layout of the document and then zeros
unfoldable pub table_for : List ℕ → ℕ → Outcome → List ℕ
table_for t size outcome =
    provided outcome.accepted then table_of t ++ replicate (size - length (table_of t)) 0 else replicate size 0

-- what the intake promises of its answer and of the lent table, before and after
pub record Conforms (t before : List ℕ) (answer : Answer) (after : List ℕ) : Type 0 where
  pub answers : answer_words answer ≡ verdict_of t (length before)
  pub leaves : after ≡ table_for t (length before) (answer_words answer)
