use Rattle.ask_sound.proofs.ReachLaws.{found_starts, found_ends, found_ready, found_on}
use Rattle.ask_sound.proofs.find_reaches.Goals as goal

pub loop-i-init : goal.loop-i-init
loop-i-init c = search found_starts

pub reach_on-reach-requires : goal.reach_on-reach-requires
reach_on-reach-requires c = found_ready _ _ _ _ _ _ c.loop-i.invariant c.loop-i-test.true c.requires.0

pub loop-i-preserved : goal.loop-i-preserved
loop-i-preserved c = search found_on

pub returns : goal.returns
returns c = search found_ends
