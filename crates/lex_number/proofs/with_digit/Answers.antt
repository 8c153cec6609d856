-- `lex_number::with_digit` meets its contract: each field by the law of that field.
-- Assumes nothing.
use Rattle.std.proofs.Common.{refl, sym, ◌∙◌, eq-eqb}
use borrow.Author.Tests.{ne_eqb}
use Rattle.base.proofs.IfLaws.{if_true, if_false}
use Rattle.lex_number.specs.Number.{with_digit}
use Rattle.lex_number.specs.Way.Capped.{capped_digits}
use Rattle.lex_number.proofs.DigitLaws.{digits_same, size_stays, size_grows}
use Rattle.lex_number.proofs.FlagLaws.{one_more}
use Rattle.lex_number.proofs.with_digit.Goals.{then-frozen, else-frozen, then-frozen-2, else-frozen-2}
use Rattle.lex_number.proofs.with_digit.Goals as goal

pub returns : goal.returns
unfolding with_digit capped_digits
returns c =
    digits_same
    _
    _
    c.extended-all.ensures
    (elim c.if-frozen.branch [
      | then-frozen w ↦ w.result-is ∙ size_stays _ _ _ w.if-frozen.true c.requires.fact_1.size_cut
      | else-frozen w ↦ w.result-is ∙ size_grows _ _ _ _ w.if-frozen.false c.extended-all.ensures
    ])
    (elim c.if-frozen-2.branch [
      | then-frozen-2 w ↦ w.result-is ∙ sym (if_true _ _ (eq-eqb _ _ w.if-frozen-2.true))
      | else-frozen-2 w ↦ w.result-is ∙ sym (if_false _ _ (ne_eqb _ _ w.if-frozen-2.false))
    ])
    (one_more _ _ _ c.from.ensures)
    refl
    refl
    refl
