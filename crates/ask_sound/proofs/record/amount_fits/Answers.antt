-- `ask_sound::record::amount_fits` meets its contract: each `return` by the tests that led there.
-- Assumes nothing.
use Rattle.base.proofs.IfLaws.{chain}
use Rattle.ask_sound.specs.Tests.{amount_fits}
use Rattle.ask_sound.proofs.record.amount_fits.Goals as goal

pub returns-then-method-eq-LUMPED : goal.returns-then-method-eq-LUMPED
unfolding amount_fits
returns-then-method-eq-LUMPED c = search chain

pub returns : goal.returns
unfolding amount_fits
returns c = search chain
