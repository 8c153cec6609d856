use native.Mathlib.Omega.{arith}
use Rattle.base.proofs.RunLaws.{run_past}
use Rattle.base.proofs.fast.skip_far.Goals as goal

pub returns-then-s-from : goal.returns-then-s-from
returns-then-s-from g c = let past = run_past (g.C.ByteClass.holds c.args.class) c.args.s.now c.args.from c.if-s-from.true in omega (arith, past)
