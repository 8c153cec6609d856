-- `doc::second_extent` meets its contract.
-- Assumes nothing.
use Rattle.lex_line.proofs.WordLaws.{word_ordered, word_within}
use Rattle.doc.proofs.ExtentLaws.{second_marked}
use borrow.Author.Rules.{rules}
use Rattle.doc.proofs.second_extent.Goals as goal

pub extent_of-requires : goal.extent_of-requires
extent_of-requires c = search (rules, word_ordered, word_within)

pub returns : goal.returns
returns c = search second_marked
