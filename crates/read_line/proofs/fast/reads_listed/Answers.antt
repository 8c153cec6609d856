-- `read_line::fast::reads_listed` meets its contract: a line without a bracket whose first word is not reserved.
-- Assumes nothing.
use mathlib.Core.Path.{sym}
use mathlib.Core.Bool.{true≢false}
use Rattle.read_line.proofs.QuietLaws.{listed_free}
use Rattle.read_line.proofs.fast.reads_listed.Goals as goal

pub returns-in-Plain : goal.returns-in-Plain
returns-in-Plain c = λ e. listed_free _ _ _ _ c.read_bracket.ensures c.in-Plain.is c.first_word.ensures c.is_reserved.ensures e

pub returns-in-Indented : goal.returns-in-Indented
returns-in-Indented c = λ e. absurd (true≢false (sym e))

pub returns-in-Bad : goal.returns-in-Bad
returns-in-Bad c = λ e. absurd (true≢false (sym e))

pub returns-in-Unknown : goal.returns-in-Unknown
returns-in-Unknown c = λ e. absurd (true≢false (sym e))

pub returns-in-Later : goal.returns-in-Later
returns-in-Later c = λ e. absurd (true≢false (sym e))

pub returns-in-Keyword : goal.returns-in-Keyword
returns-in-Keyword c = λ e. absurd (true≢false (sym e))
