-- `read_line::before_step` meets its contract: by what the bracket says.
-- Assumes nothing.
use Rattle.read_line.proofs.StepLaws.{before_told}
use Rattle.read_line.proofs.before_step.Goals as goal

pub returns-in-Plain : goal.returns-in-Plain
returns-in-Plain c = search before_told

pub returns-in-Indented : goal.returns-in-Indented
returns-in-Indented c = search before_told

pub returns-in-Bad : goal.returns-in-Bad
returns-in-Bad c = search before_told

pub returns-in-Unknown : goal.returns-in-Unknown
returns-in-Unknown c = search before_told

pub returns-in-Later : goal.returns-in-Later
returns-in-Later c = search before_told

pub returns-in-Keyword : goal.returns-in-Keyword
returns-in-Keyword c = search before_told
