-- `doc::first_extent` meets its contract.
-- Assumes nothing.
use Rattle.lex_line.proofs.WordLaws.{word_ordered, word_within}
use Rattle.doc.proofs.ExtentLaws.{first_marked}
use borrow.Author.Rules.{rules}
use Rattle.doc.proofs.first_extent.Goals as goal

pub extent_of-requires : goal.extent_of-requires
extent_of-requires c = search (rules, word_ordered, word_within)

pub returns : goal.returns
returns c = search first_marked
