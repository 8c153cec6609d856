use Rattle.std.proofs.Common.{arith}
use Rattle.base.proofs.RunLaws.{run_past, tested_on, tested_stop, reach_past}
use Rattle.base.proofs.skip.Goals as goal

pub returns-then-s-from : goal.returns-then-s-from
returns-then-s-from g c = let past = run_past (g.C.ByteClass.holds c.args.class) c.args.s.now c.args.from c.if-s-from.true in omega (arith, past)

pub returns-then-not-contains : goal.returns-then-not-contains
returns-then-not-contains g c = search tested_stop

pub loop-i-preserved : goal.loop-i-preserved
loop-i-preserved g c = (omega arith, search tested_on)

pub returns : goal.returns
returns g c =
    let past = reach_past (g.C.ByteClass.holds c.args.class) c.args.s.now c.loop-i.i _ c.loop-i.invariant.1 c.loop-i-test.false in
    omega (arith, past)
