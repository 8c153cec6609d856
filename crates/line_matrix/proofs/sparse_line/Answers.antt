-- `line_matrix::sparse_line` meets its contract: two words, or none that it takes.
-- Assumes nothing.
use Prim.Native.Nat.{zero-le}
use Rattle.lex_line.proofs.WordLaws.{word_ordered, word_within}
use Rattle.line_matrix.proofs.MatrixLaws.{sparse_short, sparse_long, sparse_pair}
use Rattle.line_matrix.proofs.sparse_line.Goals as goal

pub returns-then-content-start : goal.returns-then-content-start
returns-then-content-start c = search sparse_short

pub returns-then-past_blanks-content : goal.returns-then-past_blanks-content
returns-then-past_blanks-content c = search sparse_long

pub marked-requires : goal.marked-requires
marked-requires c = search (word_ordered, word_within, zero-le)

pub returns : goal.returns
returns c = search sparse_pair
