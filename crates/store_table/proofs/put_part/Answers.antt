-- `store_table::put_part` meets its contract.
-- Assumes nothing.
use Rattle.store_table.proofs.FrontLaws.{words_there, words_room, part_put}
use borrow.Author.Rules.{rules}
use Rattle.store_table.proofs.put_part.Goals as goal

pub slice_bounds-put_words-end : goal.slice_bounds-put_words-end
slice_bounds-put_words-end c = search words_there

pub put_words-requires : goal.put_words-requires
put_words-requires c = search words_room

pub returns : goal.returns
returns c = (search rules, search part_put)
