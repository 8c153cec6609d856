use Rattle.std.proofs.Common.{arith, ◌≡◌}
use Rattle.out_text.proofs.WrittenLaws.{stored_on, fitting_written}
use Rattle.out_text.proofs.put_bytes.Goals as goal

pub loop-i-preserved : goal.loop-i-preserved
loop-i-preserved c = record { inside = omega arith; stored = search stored_on }

pub returns : goal.returns
returns c =
    let all : c.loop-i.i ≡ c.min-size.result = omega (arith, c.loop-i.invariant.inside, c.loop-i-test.false) in
    search (fitting_written, all, c.loop-i.invariant.stored)
