-- `ask_entry::entry_from` meets its contract: 31, or the entry.
-- Assumes nothing.
use borrow.Author.Rules.{rules}
use Rattle.ask_entry.proofs.EntryLaws.{from_no_such, from_found, from_section_lem, from_matrix}
use Rattle.ask_entry.proofs.entry_from.Goals as goal

pub returns-then-not-is_in_range : goal.returns-then-not-is_in_range
returns-then-not-is_in_range c = search from_no_such

pub nth-record-requires : goal.nth-record-requires
nth-record-requires c = search (rules, from_section_lem)

pub entry_in-requires : goal.entry_in-requires
entry_in-requires c = search (rules, from_matrix)

pub returns : goal.returns
returns c = search from_found
