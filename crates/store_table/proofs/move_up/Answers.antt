use Rattle.store_table.proofs.LiftLaws.{move_on, move_done}
use borrow.Author.Rules.{rules}
use Rattle.store_table.proofs.move_up.Goals as goal

pub loop-i-preserved : goal.loop-i-preserved
loop-i-preserved c = search (rules, move_on)

pub returns : goal.returns
returns c = search move_done
