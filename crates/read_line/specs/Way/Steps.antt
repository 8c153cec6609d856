-- The result of a line by its kind, as the code comes to it: without a keyword, with one, by what its bracket says.
-- Assumes nothing.
use Rattle.std.specs.Prelude.{ℕ, List, eqb}
use Rattle.base.specs.If.{provided◌then◌else◌}
use Rattle.base.specs.Broken.{first_broken}
use Rattle.base.specs.Refusal as refusal
use Rattle.lex_line.specs.Lines.{is_blank_line}
use Rattle.lex_keyword.specs.Names.{begin_header}
use Rattle.lex_keyword.specs.Bracket.{bracket_of}
use Rattle.lex_keyword.specs.declared.Bracket.{Bracket}
use Rattle.lex_keyword.specs.declared.Bracket.TheVariants.{Plain, Indented, Bad, Unknown, Later, Keyword}
use Rattle.line_place.specs.Place.{is_text, before, done}
use Rattle.line_keyword.specs.Keywords.{keyword_next}
use Rattle.line_keyword.specs.declared.State.{State}
use Rattle.line_keyword.specs.Way.Rule.{keyword_rule}
use Rattle.read_line.specs.Reading.{line_next, argument_from, RulesAndNext, goes, breaks, judged, line_rules}
use Rattle.read_line.specs.declared.LineResult.{LineResult}

-- the rule that a line without a keyword breaks, 0 for none
unfoldable pub line_rule : List ℕ → State → ℕ
line_rule content s = first_broken (line_rules content s)

-- the result of a line with these rules and this state after it
abbrev pub result_of : RulesAndNext → State → LineResult
result_of line s = judged (first_broken line.rules) line.next s

unfoldable pub line_step : List ℕ → State → LineResult
line_step content s = judged (line_rule content s) (line_next content s) s

unfoldable pub keyword_step : ℕ → List ℕ → State → LineResult
keyword_step k argument s = judged (keyword_rule k argument s) (keyword_next k argument s) s

abbrev pub bracket_step : Bracket → List ℕ → State → LineResult
bracket_step Plain content s = line_step content s
bracket_step Indented content s = provided is_text s.place then line_step content s else breaks refusal.keyword s
bracket_step Bad content s = breaks refusal.keyword s
bracket_step Unknown content s = breaks refusal.unknown s
bracket_step Later content s = breaks refusal.later s
bracket_step (Keyword k start) content s = keyword_step k (argument_from content start) s

abbrev pub before_step : Bracket → List ℕ → State → LineResult
before_step Plain content s = goes s
before_step Indented content s = goes s
before_step Bad content s = goes s
before_step Unknown content s = goes s
before_step Later content s = goes s
before_step (Keyword k start) content s = provided eqb k begin_header then keyword_step k (argument_from content start) s else goes s

abbrev pub step_of : List ℕ → State → LineResult
step_of content s =
    provided is_blank_line content then goes s else
    provided eqb s.place done then goes s else
    provided eqb s.place before then before_step (bracket_of content) content s else bracket_step (bracket_of content) content s
