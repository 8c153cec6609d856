-- `lex_keyword::start_of` meets its contract: the table is what the rule lists, which the checker computes.
-- Assumes nothing.
use mathlib.Core.Path.{◌∙◌}
use Rattle.base.proofs.TableLaws.{listed_at}
use Rattle.lex_keyword.specs.Way.Lookup.{joined_names, start_of}
use borrow.Author.Rules.{rules}
use Rattle.lex_keyword.proofs.start_of.Goals as goal

pub returns : goal.returns
unfolding start_of joined_names
returns c = c.from.ensures ∙ listed_at start_of 0 40 c.args.key (search rules)
