-- The forward reading: which rule each line breaks in its place, the state after it, and the result of the whole text.
-- Assumes nothing.
use Rattle.std.specs.Prelude.{ℕ, ◌+◌, ◌-◌, true, not, List, [], ◌∷◌, take, drop, eqb}
use Rattle.base.specs.If.{provided◌then◌else◌, both}
use Rattle.base.specs.Broken.{Rule, ◌when◌, first_broken}
use Rattle.base.specs.Refusal as refusal
use Rattle.lex_line.specs.Lines.{Said, is_blank_line, contents}
use Rattle.lex_line.specs.Words.{words, first_of, last_end}
use Rattle.lex_keyword.specs.Names.{begin_header}
use Rattle.lex_keyword.specs.Bracket.{bracket_of}
use Rattle.lex_keyword.specs.declared.Bracket.{Bracket}
use Rattle.lex_keyword.specs.declared.Bracket.TheVariants.{Plain, Indented, Bad, Unknown, Later, Keyword}
use Rattle.line_place.specs.Place.{moved_by_line, is_text, before, done}
use Rattle.line_place.specs.Place as place
use Rattle.line_argument.specs.Argument.{is_reserved}
use Rattle.line_head.specs.Head.{head_line_of, head_rules, head_next}
use Rattle.line_path.specs.Path.{path_line_of, path_rules, path_next, is_step_line}
use Rattle.line_map.specs.PinMap.{map_line_of, map_rules, map_next, pin_rules, with_pin}
use Rattle.line_matrix.specs.Matrix.{data_line_of, data_rules, data_next}
use Rattle.line_keyword.specs.Keywords.{keyword_rules, keyword_next, one_more_if}
use Rattle.line_keyword.specs.State.{start_state}
use Rattle.line_keyword.specs.declared.Counts.{Counts}
use Rattle.line_keyword.specs.declared.State.{State}
use Rattle.read_line.specs.declared.LineResult.{LineResult}
use Rattle.read_line.specs.declared.Reading.{Reading}
use Rattle.read_line.specs.declared.Reading.TheVariants.{Read, Refused}

-- ---- lines without a keyword

-- "one model per line, first word the name", which is never a reserved word
abbrev pub list_rules : List ℕ → List Rule
list_rules content = refusal.argument when is_reserved (first_of (words content)) ∷ []

-- "12 LINE: other line that its place does not take"; a text block takes any line
abbrev pub line_rules : List ℕ → State → List Rule
line_rules content s =
    provided is_text s.place then [] else
    provided eqb s.place place.matrix then data_rules (data_line_of s.matrix.form content) s.matrix s.counts.values else
    provided eqb s.place place.path then path_rules (path_line_of content) s.path s.counts.steps else
    provided eqb s.place place.pin_list then pin_rules content s.map s.counts.pins else
    provided eqb s.place place.map_head then map_rules (map_line_of content) s.map else
    provided eqb s.place place.head then head_rules (head_line_of content) s.head else
    provided eqb s.place place.list then list_rules content else refusal.line when true ∷ []

-- the counts after a line without a keyword
unfoldable pub counts_after_line : List ℕ → State → Counts
counts_after_line content s =
    record {
      models = s.counts.models;
      steps = one_more_if (both (eqb s.place place.path) (is_step_line (path_line_of content))) s.counts.steps;
      maps = s.counts.maps;
      pins = one_more_if (eqb s.place place.pin_list) s.counts.pins;
      sections = s.counts.sections;
      matrices = s.counts.matrices;
      values = provided eqb s.place place.matrix then s.counts.values + (data_line_of s.matrix.form content).numbers else s.counts.values;
    }

-- the state after a line without a keyword
unfoldable pub line_next : List ℕ → State → State
line_next content s =
    record {
      place = moved_by_line s.place (first_of (words content));
      seen = s.seen;
      head = provided eqb s.place place.head then head_next (head_line_of content) s.head else s.head;
      path = provided eqb s.place place.path then path_next (path_line_of content) s.path else s.path;
      map =
          provided eqb s.place place.map_head then map_next (map_line_of content) s.map else
          provided eqb s.place place.pin_list then with_pin s.map else s.map;
      section = s.section;
      matrix = provided eqb s.place place.matrix then data_next (data_line_of s.matrix.form content) s.matrix else s.matrix;
      counts = counts_after_line content s;
    }

-- ---- one line

-- the argument of a keyword, without the blanks at its ends
unfoldable pub argument_from : List ℕ → ℕ → List ℕ
argument_from content start = take (last_end content - start) (drop start content)

-- the rules that a line is checked for, and the state after it if it breaks none of them
pub record RulesAndNext : Type 0 where
  pub rules : List Rule
  pub next : State

-- a line that is checked for no rule and changes nothing
abbrev pub passed_over : State → RulesAndNext
passed_over s = record { rules = []; next = s }

-- a line that breaks rule k in every state
abbrev pub always_breaks : ℕ → State → RulesAndNext
always_breaks k s = record { rules = k when true ∷ []; next = s }

abbrev pub plain_rules_and_next : List ℕ → State → RulesAndNext
plain_rules_and_next content s = record { rules = line_rules content s; next = line_next content s }

abbrev pub keyword_rules_and_next : ℕ → List ℕ → State → RulesAndNext
keyword_rules_and_next k argument s = record { rules = keyword_rules k argument s; next = keyword_next k argument s }

-- a bad bracket is 6, a keyword not of 000 is 7, a later keyword is 8; these come before every other rule of the line
abbrev pub bracket_rules_and_next : Bracket → List ℕ → State → RulesAndNext
bracket_rules_and_next Plain content s = plain_rules_and_next content s
bracket_rules_and_next Indented content s = provided is_text s.place then plain_rules_and_next content s else always_breaks refusal.keyword s
bracket_rules_and_next Bad content s = always_breaks refusal.keyword s
bracket_rules_and_next Unknown content s = always_breaks refusal.unknown s
bracket_rules_and_next Later content s = always_breaks refusal.later s
bracket_rules_and_next (Keyword k start) content s = keyword_rules_and_next k (argument_from content start) s

-- "Lines before [Begin Header] .. are read only for 2, 3, 4": only that keyword, well formed and in column 1, counts
abbrev pub before_rules_and_next : Bracket → List ℕ → State → RulesAndNext
before_rules_and_next Plain content s = passed_over s
before_rules_and_next Indented content s = passed_over s
before_rules_and_next Bad content s = passed_over s
before_rules_and_next Unknown content s = passed_over s
before_rules_and_next Later content s = passed_over s
before_rules_and_next (Keyword k start) content s = provided eqb k begin_header then keyword_rules_and_next k (argument_from content start) s else passed_over s

-- "lines left blank are skipped"; a line after [End] breaks none of these rules
unfoldable pub rules_and_next : List ℕ → State → RulesAndNext
rules_and_next content s =
    provided is_blank_line content then passed_over s else
    provided eqb s.place done then passed_over s else
    provided eqb s.place before then before_rules_and_next (bracket_of content) content s else bracket_rules_and_next (bracket_of content) content s

-- the line breaks no rule; s is the state after it
unfoldable pub goes : State → LineResult
goes s = record { rule = 0; state = s }

-- the line breaks rule k
unfoldable pub breaks : ℕ → State → LineResult
breaks k s = record { rule = k; state = s }

-- the result of a line that breaks rule k, 0 for none
unfoldable pub judged : ℕ → State → State → LineResult
judged k next s = provided eqb k 0 then goes next else breaks k s

unfoldable pub line_result : List ℕ → State → LineResult
line_result content s = judged (first_broken (rules_and_next content s).rules) (rules_and_next content s).next s

-- ---- the whole text

-- "5 HEADER: no [Begin Header] line (line 0)", "10 END: text stops before [End] (line 0)"
abbrev pub end_of_text_rules : State → List Rule
end_of_text_rules s = refusal.header when eqb s.place before ∷ refusal.end when not (eqb s.place done) ∷ []

unfoldable pub at_end : State → Reading
at_end s = provided eqb (first_broken (end_of_text_rules s)) 0 then Read s.counts else Refused (first_broken (end_of_text_rules s)) 0

-- "5 to 17 reading forward .. the earliest line counts"
unfoldable pub onward : LineResult → ℕ → (State → Reading) → Reading
onward step n more = provided eqb step.rule 0 then more step.state else Refused step.rule n

-- the result of the lines from line n on, read in state s
unfoldable pub read_from : ℕ → List Said → State → Reading
read_from n [] s = at_end s
read_from n (l ∷ ls) s = onward (line_result l.content s) n (read_from (n + 1) ls)

-- the result of rules 5 to 17 for a text that breaks none of rules 1 to 4
unfoldable pub reading_of : List ℕ → Reading
reading_of t = read_from 1 (contents t) start_state
