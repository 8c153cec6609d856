use mathlib.Core.Path.{refl}
use Rattle.out_text.proofs.DigitLaws.{found_none, found_on, last_written, all_written}
use Rattle.out_text.proofs.put_decimal.Goals as goal

pub loop-from-init : goal.loop-from-init
loop-from-init c = record { found = found_none _; unwritten = refl }

pub returns-then-left-lt10 : goal.returns-then-left-lt10
returns-then-left-lt10 c = rw (← c.loop-from.invariant.unwritten) (search last_written)

pub loop-from-preserved : goal.loop-from-preserved
loop-from-preserved c = record { found = search found_on; unwritten = c.loop-from.invariant.unwritten }

pub returns : goal.returns
returns c = rw (← c.loop-from.invariant.unwritten) (search all_written)
