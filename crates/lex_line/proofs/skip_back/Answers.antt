use Rattle.std.proofs.Common.{rules}
use Rattle.lex_line.proofs.WordLaws.{back_front}
use Rattle.lex_line.proofs.skip_back.Goals as goal

pub returns : goal.returns
returns g c = search (rules, back_front)
