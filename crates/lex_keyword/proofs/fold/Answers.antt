use Rattle.std.proofs.Common.{◌∙◌}
use Rattle.base.proofs.IfLaws.{ifs}
use Rattle.lex_keyword.specs.Names.{folded}
use Rattle.lex_keyword.proofs.ByteLaws.{fold_small}
use Rattle.lex_keyword.proofs.fold.Goals as goal

pub returns-then-b-eq95 : goal.returns-then-b-eq95
unfolding folded
returns-then-b-eq95 c = search ifs

pub returns : goal.returns
returns c = c.to_ascii_lowercase.ensures.value ∙ fold_small _ c.if-b-eq95.false
