-- `lex_keyword::first_of` meets its contract: the table is what the rule lists, which the checker computes.
-- Assumes nothing.
use mathlib.Core.Path.{◌∙◌}
use Rattle.base.proofs.TableLaws.{listed_at}
use Rattle.lex_keyword.specs.Way.Lookup.{shorter, first_of_size}
use borrow.Author.Rules.{rules}
use Rattle.base.specs.If.{provided◌then◌else◌}
use Rattle.lex_keyword.proofs.first_of.Goals as goal

pub returns : goal.returns
unfolding first_of_size shorter provided◌then◌else◌
returns c = c.from.ensures ∙ listed_at first_of_size 0 24 c.args.size (search rules)
