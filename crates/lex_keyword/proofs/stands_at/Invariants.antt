use Rattle.std.proofs.Common.{◌≡◌}
use Rattle.lex_keyword.specs.Way.Lookup.{stands_at}
use Rattle.lex_keyword.proofs.LookupLaws.{stands_from}
use Rattle.lex_keyword.proofs.stands_at.Given as goal

-- what is left of the name stands there if the whole does
abbrev pub invariant-loop-i : goal.invariant-loop-i
invariant-loop-i l = stands_from l.table l.name l.start l.i ≡ stands_at l.table l.name l.start
