-- `lex_number::is_decimal` meets its contract: each result by the tests that led there.
-- Assumes nothing.
use Rattle.std.proofs.Common.{sym, ◌∙◌, true≢false}
use Rattle.base.proofs.IfLaws.{both_rest, both_not_left, both_not_right}
use Rattle.lex_number.specs.ValueWord.{is_decimal}
use Rattle.lex_number.proofs.is_decimal.Goals.{then-is_within, else-is_within}
use Rattle.lex_number.proofs.is_decimal.Goals as goal

pub returns-then-d-ne0 : goal.returns-then-d-ne0
unfolding is_decimal
returns-then-d-ne0 c =
    elim c.if-is_within.branch [
      | then-is_within w ↦ c.is_within-then-d-ne0.ensures ∙ sym (both_rest _ _ (sym c.is_within.ensures ∙ w.if-is_within.true) ∙ both_rest _ _ (sym w.value-is ∙ c.if-d-ne0.true))
      | else-is_within w ↦ absurd (true≢false (sym c.if-d-ne0.true ∙ w.value-is ∙ w.if-is_within.false))
    ]

pub returns-else-d-ne0 : goal.returns-else-d-ne0
unfolding is_decimal
returns-else-d-ne0 c =
    elim c.if-is_within.branch [
      | then-is_within w ↦ c.if-d-ne0.false ∙ sym (both_not_right _ _ (both_not_left _ _ (sym w.value-is ∙ c.if-d-ne0.false)))
      | else-is_within w ↦ c.if-d-ne0.false ∙ sym (both_not_left _ _ (sym c.is_within.ensures ∙ w.if-is_within.false))
    ]
