use borrow.Author.Rules.{rules}
use Rattle.lex_number.specs.Number.{power_in}
use Rattle.lex_number.proofs.ScaleLaws.{search_found, search_other, search_done}
use Rattle.lex_number.proofs.power_of.Goals as goal

pub loop-i-init : goal.loop-i-init
unfolding power_in
loop-i-init c = search rules

pub loop-i-preserved-then-b-scaling : goal.loop-i-preserved-then-b-scaling
loop-i-preserved-then-b-scaling c = search (rules, search_found)

pub loop-i-preserved : goal.loop-i-preserved
loop-i-preserved c = search (rules, search_other)

pub returns : goal.returns
returns c = search (rules, search_done)
