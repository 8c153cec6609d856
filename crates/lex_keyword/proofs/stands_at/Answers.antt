use Rattle.std.proofs.Common.{rules}
use Rattle.lex_keyword.proofs.LookupLaws.{stands_first, stands_on, stands_stop, stands_past}
use Rattle.lex_keyword.proofs.stands_at.Goals as goal

pub loop-i-init : goal.loop-i-init
loop-i-init c = search stands_first

pub returns-then-fold-table : goal.returns-then-fold-table
returns-then-fold-table c = search stands_stop

pub loop-i-preserved : goal.loop-i-preserved
loop-i-preserved c = search (rules, stands_on)

pub returns : goal.returns
returns c = search stands_past
