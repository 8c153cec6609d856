-- `line_path::line_saying` meets its contract: each `return` by what the line says.
-- Assumes nothing.
use Rattle.base.proofs.IfLaws.{chain}
use Rattle.line_path.specs.Way.Parts.{said_parts}
use Rattle.line_path.proofs.LineLaws.{says_alone, says_name_lem, says_nothing_lem}
use Rattle.line_path.proofs.line_saying.Goals as goal

pub returns-then-says-eq-SECTION : goal.returns-then-says-eq-SECTION
unfolding said_parts
returns-then-says-eq-SECTION c = search chain depth 12

pub returns-then-stands_alone : goal.returns-then-stands_alone
returns-then-stands_alone c = search says_alone

pub returns-then-takes_name : goal.returns-then-takes_name
returns-then-takes_name c = search says_name_lem

pub returns : goal.returns
returns c = search says_nothing_lem
