-- What is known of an accepted text and its table: the table is sound and holds the records of the document, which
-- breaks no rule of 19 to 29.
-- Assumes nothing.
use mathlib.Core.Path.{◌≡◌, refl, sym, ◌∙◌, ap}
use mathlib.Core.Bool.{true}
use mathlib.Core.List.{List, ◌++◌}
use Prim.Native.Nat.{ℕ, ◌-◌}
use lib.ListN.{length, replicate}
use Rattle.table_record.specs.Records.{records_of}
use Rattle.doc.specs.Document.{document_of}
use Rattle.doc.specs.Records.{flatten, table_of}
use Rattle.table_record.proofs.BackLaws.{records_back}
use Rattle.cross_rules.specs.Rules.{cross_rule}
use Rattle.ask_sound.specs.Sound.{is_sound}
use Rattle.intake.specs.Verdict.{Outcome}
use Rattle.intake.specs.declared.Answer.TheVariants.{Accepted}
use Rattle.law_demands.proofs.AcceptedLaws.{accepted_taken, Taken as Passed}
use Rattle.law_demands.proofs.DemandLaws.{demanded}
use Rattle.law_sound.proofs.IntakeLaws.{intake_sound}
use Rattle.law_third.specs.Third.{AcceptedTable}

module _ (t table : List ℕ) (taken : AcceptedTable t table) where
  pub taken_passed : Passed t (length taken.before)
  taken_passed = accepted_taken t (length taken.before) (ap (λ (o : Outcome). o.accepted) (sym taken.conforms.answers))

  pub taken_kept : (cross_rule (document_of t)).rule ≡ 0
  taken_kept = taken_passed.kept

  pub taken_sound : is_sound t table ≡ true
  taken_sound = intake_sound t taken.before (Accepted taken.words) table taken.conforms taken.words refl

  taken_holds : table ≡ table_of t ++ replicate (length taken.before - length (table_of t)) 0
  taken_holds = (demanded t taken.before (Accepted taken.words) table taken.conforms).accepted_holds taken.words refl

  pub taken_records : records_of table ≡ flatten (document_of t)
  unfolding table_of
  taken_records = ap records_of taken_holds ∙ records_back (flatten (document_of t)) (length taken.before - length (table_of t))
