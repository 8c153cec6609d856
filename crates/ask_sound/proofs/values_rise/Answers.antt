use Rattle.ask_sound.proofs.LoopLaws.{rise_starts, rise_ends, rise_refused, rise_on}
use Rattle.ask_sound.proofs.ReachLaws.{rise_known}
use Rattle.ask_sound.proofs.values_rise.Goals as goal

pub loop-i-init : goal.loop-i-init
loop-i-init c = search rise_starts

pub returns-then-place-eq0 : goal.returns-then-place-eq0
returns-then-place-eq0 c = search rise_known

pub returns-then-not-goes_on : goal.returns-then-not-goes_on
returns-then-not-goes_on c = search rise_refused

pub loop-i-preserved : goal.loop-i-preserved
loop-i-preserved c = search rise_on

pub returns : goal.returns
returns c = search rise_ends
