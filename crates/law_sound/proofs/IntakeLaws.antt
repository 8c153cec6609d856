-- The same by the contract of the intake: if it accepts a text, the lent table is sound.
-- Assumes nothing.
use mathlib.Core.Path.{◌≡◌, sym, ◌∙◌, ap}
use mathlib.Core.Bool.{true}
use mathlib.Core.List.{List, ◌++◌}
use Prim.Native.Nat.{ℕ, ◌+◌, ◌-◌, ◌≤◌}
use native.Mathlib.Omega.{arith}
use lib.ListN.{length, replicate, length-append, length-replicate}
use Rattle.doc.specs.Records.{table_of}
use Rattle.cross_rules.specs.Way.HoldsText.{HoldsText}
use Rattle.ask_sound.specs.Sound.{is_sound}
use Rattle.intake.specs.Verdict.{Outcome, answer_words, Conforms}
use Rattle.intake.specs.declared.Answer.{Answer}
use Rattle.intake.specs.declared.Answer.TheVariants.{Accepted}
use Rattle.law_demands.proofs.AcceptedLaws.{Taken, accepted_taken}
use Rattle.law_demands.proofs.DemandLaws.{demanded}
use Rattle.law_sound.proofs.SoundnessLaws.{accepted_sound}

-- a text that has passed every stage, and its table of `size` words
module _ (t table : List ℕ) (size : ℕ) (taken : Taken t size) (holds : table ≡ table_of t ++ replicate (size - length (table_of t)) 0) where
  table_size : length table ≡ size
  table_size =
      let r : length (table_of t) ≤ size = taken.room in
      let n : length table ≡ length (table_of t) + (size - length (table_of t)) =
      ap length holds ∙ length-append (table_of t) _
      ∙ ap (λ (k : ℕ). length (table_of t) + k) (length-replicate (size - length (table_of t)) 0) in
      omega arith

  taken_filled : HoldsText t table
  taken_filled = record { counts = taken.counts; reads = taken.reads; words = rw table_size holds }

  taken_sound : is_sound t table ≡ true
  taken_sound = accepted_sound t table taken.fine taken_filled taken.kept

module _ (t before : List ℕ) (answer : Answer) (after : List ℕ) (conforms : Conforms t before answer after) (words : ℕ) (accepted : answer ≡ Accepted words) where
  answer_taken : Taken t (length before)
  answer_taken =
      accepted_taken t (length before)
      (ap (λ (o : Outcome). o.accepted) (sym conforms.answers ∙ ap answer_words accepted))

  -- the table of an accepted text is sound, so questions about it have answers
  pub intake_sound : is_sound t after ≡ true
  intake_sound =
      taken_sound t after (length before) answer_taken ((demanded t before answer after conforms).accepted_holds words accepted)
