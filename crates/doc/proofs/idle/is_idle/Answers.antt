-- `doc::idle::is_idle` meets its contract: a blank line, or a good line of the model list.
-- Assumes nothing.
use mathlib.Core.Path.{sym}
use mathlib.Core.Bool.{true≢false}
use Rattle.doc.proofs.IdleLaws.{idle_blank, idle_listed}
use borrow.Author.Rules.{rules}
use Rattle.doc.proofs.idle.is_idle.Goals as goal

pub returns-then-is_blank_line : goal.returns-then-is_blank_line
returns-then-is_blank_line c = λ e. search idle_blank

pub returns-then-place-eq-LIST : goal.returns-then-place-eq-LIST
returns-then-place-eq-LIST c = λ e. idle_listed _ _ (search rules) (c.is_listed.ensures e)

pub returns : goal.returns
returns c = λ e. absurd (true≢false (sym e))
