-- `lex_keyword::all_letters` meets its contract: the table is the list of letters, which the checker computes.
-- Assumes nothing.
use mathlib.Core.Path.{refl}
use Rattle.base.specs.If.{both, provided◌then◌else◌}
use Rattle.base.specs.Bytes.{small, is_capital, within}
use Rattle.lex_keyword.specs.Names.{folded}
use Rattle.lex_keyword.specs.Way.Lookup.{joined_names, letters}
use Rattle.lex_keyword.proofs.all_letters.Goals as goal

pub returns : goal.returns
unfolding letters joined_names folded provided◌then◌else◌ small is_capital within both
returns c = refl
