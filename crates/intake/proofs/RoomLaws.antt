-- Rule 18: the answer for a text that breaks no rule before it, by whether the table has room.
-- Assumes nothing.
use mathlib.Core.Path.{◌≡◌, refl, sym, ◌∙◌, ap}
use mathlib.Core.Bool.{true, false}
use mathlib.Core.List.{List}
use Prim.Native.Nat.{ℕ}
use native.Mathlib.Omega.{arith}
use lib.ListN.{length}
use lib.Dec.{ltb}
use borrow.Author.Tests.{eq-eqb, ne_eqb}
use Rattle.base.specs.Broken.{first_broken}
use Rattle.base.specs.Refusal as refusal
use Rattle.base.proofs.IfLaws.{if_true, if_false}
use Rattle.base.proofs.BrokenLaws.{first_broken_lem, first_kept}
use Rattle.line_keyword.specs.declared.Counts.{Counts}
use Rattle.read_line.specs.declared.Reading.TheVariants as reading
use Rattle.doc.specs.Records.{table_of}
use Rattle.intake.specs.Stored.{room_rules, after_reading}
use Rattle.intake.specs.declared.store.StoreAnswer.TheVariants.{Stored, Refused}

module _ (t : List ℕ) (size : ℕ) (c : Counts) where
  pub room_there : ltb size (length (table_of t)) ≡ false → after_reading t size (reading.Read c) ≡ Stored (length (table_of t))
  room_there e = if_true _ _ (eq-eqb _ _ (first_kept _ _ _ _ e refl))

  pub room_short : ltb size (length (table_of t)) ≡ true → after_reading t size (reading.Read c) ≡ Refused refusal.room 0
  room_short e =
      let k : first_broken (room_rules t size) ≡ refusal.room = first_broken_lem _ _ _ e in
      if_false _ _ (ne_eqb _ _ (λ (z : first_broken (room_rules t size) ≡ 0). let y : refusal.room ≡ 0 = sym k ∙ z in omega arith))
      ∙ ap (λ (n : ℕ). Refused n 0) k
