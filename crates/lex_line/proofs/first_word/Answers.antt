-- `lex_line::first_word` meets its contract: the first word's span lies within the line and marks it.
-- Assumes nothing.
use Prim.Native.Nat.{zero-le}
use Rattle.lex_line.proofs.WordLaws.{word_ordered, word_within, first_at}
use Rattle.lex_line.proofs.first_word.Goals as goal

pub marked-requires : goal.marked-requires
marked-requires c = search (word_ordered, word_within, zero-le)

pub returns : goal.returns
returns c = search first_at
