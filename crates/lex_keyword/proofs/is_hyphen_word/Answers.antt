-- `lex_keyword::is_hyphen_word` meets its contract: the letters are those of the word, which the checker computes.
-- Assumes nothing.
use mathlib.Core.Path.{refl}
use Rattle.base.specs.If.{both, provided◌then◌else◌}
use Rattle.base.specs.Bytes.{small, is_capital, within}
use Rattle.lex_keyword.specs.Names.{folded}
use Rattle.lex_keyword.proofs.WordLaws.{not_hyphen, hyphen_stands}
use Rattle.lex_keyword.proofs.is_hyphen_word.Goals as goal

pub returns-then-word-ne11 : goal.returns-then-word-ne11
returns-then-word-ne11 c = search not_hyphen

pub returns : goal.returns
unfolding folded provided◌then◌else◌ small is_capital within both
returns c = search (hyphen_stands, refl)
