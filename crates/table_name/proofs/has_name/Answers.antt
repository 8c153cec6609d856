-- `table_name::has_name` meets its contract.
-- Assumes nothing.
use Rattle.table_name.proofs.SearchLaws.{name_before, name_told}
use mathlib.Core.Path.{sym, ◌∙◌, ap}
use Rattle.base.specs.Runs.{same}
use borrow.Author.Rules.{rules}
use Rattle.table_name.proofs.has_name.Goals as goal

pub returns-then-start-after : goal.returns-then-start-after
returns-then-start-after c = search name_before

pub returns-then-ends_otherwise : goal.returns-then-ends_otherwise
returns-then-ends_otherwise c = name_told _ _ _ _ (search rules) _ (sym (c.ends_otherwise.ensures c.if-ends_otherwise.true _))

pub returns : goal.returns
returns c = name_told _ _ _ _ (search rules) _ (c.same_bytes.ensures ∙ ap (same _) c.name_at.ensures)
