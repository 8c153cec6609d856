use native.Mathlib.Omega.{arith}
use Rattle.lex_line.proofs.ByteLaws.{size_refused, check_past}
use Rattle.lex_line.proofs.ShortLaws.{checking_starts, checking_stops, checking_asks, checking_on, checking_less}
use Rattle.lex_line.proofs.check_bytes.Goals as goal

pub returns-then-text-gt-MOST_BYTES : goal.returns-then-text-gt-MOST_BYTES
returns-then-text-gt-MOST_BYTES c = search size_refused

pub loop-at-init : goal.loop-at-init
loop-at-init c = search checking_starts

pub returns-then-check-ne0 : goal.returns-then-check-ne0
returns-then-check-ne0 c = search checking_stops

pub overflow_sub-check : goal.overflow_sub-check
overflow_sub-check c = omega (arith, c.line_check-check.ensures.on c.if-check-ne0.false)

pub past_more-past-requires : goal.past_more-past-requires
past_more-past-requires c = checking_asks _ _ _ c.loop-at.invariant _ _ c.line_check-check.ensures c.if-check-ne0.false

pub loop-at-smaller : goal.loop-at-smaller
loop-at-smaller c = search checking_less

pub loop-at-preserved : goal.loop-at-preserved
loop-at-preserved c = search checking_on

pub returns : goal.returns
returns c = search check_past
