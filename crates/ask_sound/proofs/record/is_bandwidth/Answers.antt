-- `ask_sound::record::is_bandwidth` meets its contract: each `return` by the tests that led there.
-- Assumes nothing.
use Rattle.base.proofs.IfLaws.{chain}
use Rattle.ask_sound.specs.Tests.{is_bandwidth}
use Rattle.ask_sound.proofs.record.is_bandwidth.Goals as goal

pub returns-then-form-eq-BANDED : goal.returns-then-form-eq-BANDED
unfolding is_bandwidth
returns-then-form-eq-BANDED c = search chain

pub returns : goal.returns
unfolding is_bandwidth
returns c = search chain
