-- `lex_line::fast::has_other_end` meets its contract: words that differ at a place are not the same.
-- Assumes nothing.
use mathlib.Core.Path.{refl, sym}
use mathlib.Core.Bool.{true≢false}
use borrow.Author.Tests.{ne_eqb}
use Rattle.base.proofs.IfLaws.{not_via}
use Rattle.lex_line.proofs.SameLaws.{same_apart}
use Rattle.lex_line.proofs.fast.has_other_end.Goals as goal

pub returns-then-a-lt3 : goal.returns-then-a-lt3
returns-then-a-lt3 c = λ e. absurd (true≢false (sym e))

pub returns-then-a-last : goal.returns-then-a-last
returns-then-a-last c = λ e. same_apart _ _ _ _ refl (not_via (ne_eqb _ _ c.if-a-last.true))

pub returns-then-a-last-2 : goal.returns-then-a-last-2
returns-then-a-last-2 c = λ e. same_apart _ _ _ _ refl (not_via (ne_eqb _ _ c.if-a-last-2.true))

pub returns : goal.returns
returns c = same_apart _ _ _ _ refl
