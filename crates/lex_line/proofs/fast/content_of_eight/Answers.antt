use Rattle.std.proofs.Common.{rules, refl}
use Rattle.lex_line.proofs.SureLaws.{sure_told}
use Rattle.lex_line.proofs.fast.content_of_eight.Goals as goal

-- no sum of bytes reaches the next one, and the zeros behind the first bit of doubt tell
pub returns : goal.returns
returns c = sure_told c.args.eight.now 0 c.eight_at-low.result _ (search rules) c.eight_at-low.ensures refl
