use Rattle.std.proofs.Common.{rules, refl, ◌≡◌, ◌≤◌, length}
use Rattle.base.proofs.IfLaws.{both_rest}
use Rattle.lex_line.proofs.SameLaws.{within_goes, within_done}
use Rattle.lex_line.proofs.fast.same_block.Goals as goal

pub loop-i-init : goal.loop-i-init
loop-i-init c = both_rest _ _ refl

pub loop-i-preserved : goal.loop-i-preserved
loop-i-preserved c = search (rules, within_goes)

pub returns : goal.returns
returns c =
    let long : length c.args.a.now ≡ length c.args.b.now = search rules in
    let past : length c.args.a.now ≤ c.loop-i.i = search rules in
    within_done _ _ _ _ _ long c.loop-i.invariant past
