-- `line_path::path_line` meets its contract: a line as it is mostly written is known at once.
-- Assumes nothing.
use Rattle.line_path.proofs.UsualLaws.{fork_parsed, usual_in}
use Rattle.line_path.proofs.PartLaws.{parses}
use Rattle.line_path.proofs.path_line.Goals as goal

pub usual_line-requires : goal.usual_line-requires
usual_line-requires c = search usual_in

pub returns-then-end-ne0 : goal.returns-then-end-ne0
returns-then-end-ne0 c = search parses

pub returns-then-fork-ne-NOTHING : goal.returns-then-fork-ne-NOTHING
returns-then-fork-ne-NOTHING c = search fork_parsed

pub returns : goal.returns
returns c = search parses
