-- `ask_entry::matrix_from` meets its contract: 31, then a room that is too short, then the entries.
-- Assumes nothing.
use borrow.Author.Rules.{rules}
use Rattle.ask_entry.proofs.WholeLaws.{whole_no_such, whole_short, whole_found, room_refused, room_short, room_filled, square_fits}
use Rattle.ask_entry.proofs.EntryLaws.{from_section_lem, from_matrix, from_few}
use Rattle.ask_entry.proofs.matrix_from.Goals as goal

pub returns-then-not-is_in_range : goal.returns-then-not-is_in_range
returns-then-not-is_in_range c = (search whole_no_such, search room_refused)

pub nth-record-requires : goal.nth-record-requires
nth-record-requires c = search (rules, from_section_lem)

pub overflow_mul-conductors : goal.overflow_mul-conductors
overflow_mul-conductors c = search (square_fits, from_few)

pub returns-then-values-conductors : goal.returns-then-values-conductors
returns-then-values-conductors c = (search whole_short, search room_short)

pub put_rows-requires : goal.put_rows-requires
put_rows-requires c = search (rules, from_matrix, from_few)

pub returns : goal.returns
returns c = (search whole_found, search room_filled)
