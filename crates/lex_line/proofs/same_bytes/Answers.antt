use Rattle.std.proofs.Common.{sym}
use Rattle.base.proofs.RunLaws.{same_longer}
use Rattle.lex_line.proofs.same_bytes.Goals as goal

pub returns-then-a-b : goal.returns-then-a-b
returns-then-a-b c = sym (same_longer _ _ c.if-a-b.true)
