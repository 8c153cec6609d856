-- `lex_number::read_exponent` meets its contract: each result by the tests that led there.
-- Assumes nothing.
use Rattle.std.proofs.Common.{not, ap, arith}
use Rattle.lex_number.proofs.ExponentLaws.{exponent_past, exponent_none, exponent_bare, exponent_read}
use Rattle.lex_number.proofs.ReadLaws.{sign_within}
use Rattle.lex_number.proofs.read_exponent.Goals.{then-s-from-via-then-s-from, then-s-from-via-else-s-from+then-not-is_e}
use Rattle.lex_number.proofs.read_exponent.Goals as goal

pub returns-then-s-from : goal.returns-then-s-from
returns-then-s-from c =
    elim c.then-s-from.branch [
      | then-s-from-via-then-s-from w ↦ exponent_past _ _ _ w.if-s-from.true c.no_exponent.ensures
      | then-s-from-via-else-s-from+then-not-is_e w ↦ exponent_none _ _ _ _ w.is_e.ensures (ap not w.if-not-is_e.true) c.no_exponent.ensures
    ]

pub read_size-x-requires : goal.read_size-x-requires
read_size-x-requires c = rw c.past_sign-digits.ensures (sign_within _ _ (omega arith))

pub returns-then-x-digits : goal.returns-then-x-digits
returns-then-x-digits c = search exponent_bare

pub returns-else-x-digits : goal.returns-else-x-digits
returns-else-x-digits c = search exponent_read
