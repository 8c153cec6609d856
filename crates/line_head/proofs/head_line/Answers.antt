-- `line_head::head_line` meets its contract: each `return` by the words compared so far.
-- Assumes nothing.
use Rattle.lex_line.proofs.FormLaws.{marks}
use Rattle.line_head.proofs.LineLaws.{says_type, says_sgr_lem, says_impedance_lem, says_nothing_lem}
use borrow.Author.Rules.{rules}
use Rattle.line_head.proofs.head_line.Goals as goal

pub marked-word-requires : goal.marked-word-requires
marked-word-requires c = search (rules, marks)

pub returns-then-same_bytes : goal.returns-then-same_bytes
returns-then-same_bytes c = search says_type

pub returns-then-same_bytes-2 : goal.returns-then-same_bytes-2
returns-then-same_bytes-2 c = search says_sgr_lem

pub returns-then-is_impedance : goal.returns-then-is_impedance
returns-then-is_impedance c = search says_impedance_lem

pub returns : goal.returns
returns c = search says_nothing_lem
