-- `ask_sound::are_matrices` meets its contract: each `return` by the tests that led there.
-- Assumes nothing.
use Rattle.base.proofs.IfLaws.{chain}
use Rattle.ask_sound.specs.Sound.{are_matrices}
use Rattle.ask_sound.proofs.are_matrices.Goals as goal

pub returns-then-matrices-section : goal.returns-then-matrices-section
unfolding are_matrices
returns-then-matrices-section c = search chain

pub returns-then-matrices-section-2 : goal.returns-then-matrices-section-2
unfolding are_matrices
returns-then-matrices-section-2 c = search chain

pub returns-then-matrices-section-3 : goal.returns-then-matrices-section-3
unfolding are_matrices
returns-then-matrices-section-3 c = search chain

pub returns : goal.returns
unfolding are_matrices
returns c = search chain
