-- `read_line::bracket_step` meets its contract: by what the bracket says.
-- Assumes nothing.
use Rattle.read_line.proofs.StepLaws.{bracket_told}
use Rattle.read_line.proofs.bracket_step.Goals as goal

pub line_step-requires : goal.line_step-requires
line_step-requires c = c.requires.2 c.in-Plain.is

pub returns-in-Plain : goal.returns-in-Plain
returns-in-Plain c = search bracket_told

pub returns-in-Indented : goal.returns-in-Indented
returns-in-Indented c = search bracket_told

pub returns-in-Bad : goal.returns-in-Bad
returns-in-Bad c = search bracket_told

pub returns-in-Unknown : goal.returns-in-Unknown
returns-in-Unknown c = search bracket_told

pub returns-in-Later : goal.returns-in-Later
returns-in-Later c = search bracket_told

pub returns-in-Keyword : goal.returns-in-Keyword
returns-in-Keyword c = search bracket_told
