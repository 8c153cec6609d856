use Rattle.cross_rules.proofs.NthLaws.{count_starts, count_ends, found, count_found, count_on, count_less}
use Rattle.cross_rules.proofs.nth_line.Goals as goal

pub loop-cursor-init : goal.loop-cursor-init
loop-cursor-init c = search count_starts

pub returns-then-not-line : goal.returns-then-not-line
returns-then-not-line c = search count_ends

pub returns-then-is_last : goal.returns-then-is_last
returns-then-is_last c = search count_found

pub past-cursor-requires : goal.past-cursor-requires
past-cursor-requires c = search found

pub loop-cursor-smaller : goal.loop-cursor-smaller
loop-cursor-smaller c = search count_less

pub loop-cursor-preserved : goal.loop-cursor-preserved
loop-cursor-preserved c = search count_on
