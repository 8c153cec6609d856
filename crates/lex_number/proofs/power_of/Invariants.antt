-- `lex_number::power_of` meets its contract. The loop's invariant: what is found so far is what the entries from i on give.
-- Assumes nothing.
use mathlib.Core.Path.{◌≡◌}
use lib.ListN.{drop}
use Rattle.lex_number.specs.Number.{scalings, power_in}
use Rattle.lex_number.proofs.power_of.Given as goal

abbrev pub invariant-loop-i : goal.invariant-loop-i
invariant-loop-i l = l.power ≡ power_in (drop l.i scalings) l.b
