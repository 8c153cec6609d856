-- `lex_keyword::key_of` meets its contract. The loop's invariant: from the keyword it has come to, what is left gives the whole.
-- Assumes nothing.
use Rattle.lex_keyword.proofs.KeyLaws.{Searching}
use Rattle.lex_keyword.proofs.key_of.Given as goal

abbrev pub invariant-loop-key : goal.invariant-loop-key
invariant-loop-key l = Searching l.name l.key
