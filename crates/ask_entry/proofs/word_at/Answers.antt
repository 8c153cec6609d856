use Rattle.ask_entry.proofs.SearchLaws.{lies_starts, lies_nowhere, lies_behind, lies_front, lies_here}
use Rattle.ask_entry.proofs.word_at.Goals as goal

pub loop-low-init : goal.loop-low-init
loop-low-init c = search lies_starts

pub loop-low-preserved-then-comes_before : goal.loop-low-preserved-then-comes_before
loop-low-preserved-then-comes_before c = search lies_behind

pub loop-low-preserved : goal.loop-low-preserved
loop-low-preserved c = search lies_front

pub returns-in-loop-low : goal.returns-in-loop-low
returns-in-loop-low c = search lies_here

pub returns : goal.returns
returns c = search lies_nowhere
