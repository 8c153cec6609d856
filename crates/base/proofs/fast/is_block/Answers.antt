use Rattle.std.proofs.Common.{rules, refl, length, ◌≤◌}
use Rattle.base.proofs.IfLaws.{both_rest}
use Rattle.base.proofs.RunLaws.{tested_goes, tested_done}
use Rattle.base.proofs.fast.is_block.Goals as goal

pub loop-b-init : goal.loop-b-init
loop-b-init g c = both_rest _ _ refl

pub loop-b-preserved : goal.loop-b-preserved
loop-b-preserved g c = search (rules, tested_goes)

pub returns : goal.returns
returns g c =
    let past : length c.args.block.now ≤ c.loop-b.b-index = search rules in
    tested_done _ _ _ _ _ c.loop-b.invariant past
