-- The invariant of the loop of `lex_number::read_digits`: reading on with the digits so far gives the whole.
-- Assumes nothing.
use Rattle.std.proofs.Common.{◌≡◌, ◌+◌, drop}
use Rattle.lex_number.specs.Number.{no_digits, scan}
use Rattle.lex_number.specs.Way.Capped.{capped_digits, CutDigits}
use Rattle.lex_number.proofs.read_digits.Given as goal

abbrev pub invariant-loop-b : goal.invariant-loop-b
invariant-loop-b l = CutDigits l.d × (l.d.end ≡ l.from + l.b-index) × (capped_digits (scan (drop l.b-index l.b-items) l.d) ≡ capped_digits (scan (drop l.from l.s) (no_digits l.from)))
