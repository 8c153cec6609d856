-- `ask_entry::is_in_range` meets its contract: each `return` by the tests that led there.
-- Assumes nothing.
use Rattle.ask_entry.proofs.ReadyLaws.{range_no_section, range_no_kind, range_no_row, range_column}
use Rattle.ask_entry.proofs.is_in_range.Goals as goal

pub returns-then-counts-section : goal.returns-then-counts-section
returns-then-counts-section c = search range_no_section

pub returns-then-kind-ge-MATRIX_KINDS : goal.returns-then-kind-ge-MATRIX_KINDS
returns-then-kind-ge-MATRIX_KINDS c = search range_no_kind

pub returns-then-not-is_within : goal.returns-then-not-is_within
returns-then-not-is_within c = search range_no_row

pub returns : goal.returns
returns c = search range_column
