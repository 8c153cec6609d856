-- What the functions that read the lines of a path promise: the lines are judged, and their steps are staged behind those
-- that are staged already.
-- Assumes nothing.
use Rattle.std.specs.Prelude.{ℕ, ◌+◌, ◌-◌, ◌≤◌, ◌<◌, ◌≡◌, true, false, List, length, eqb}
use Rattle.base.specs.If.{provided◌then◌else◌}
use Rattle.table_layout.specs.Codes.{end_kind, section_kind, fork_kind, endfork_kind}
use Rattle.table_record.specs.Way.Stage.{staged_step_width, Held}
use Rattle.table_record.specs.declared.stage.StagedStep.{StagedStep}
use Rattle.lex_line.specs.Lines.{is_blank_line, comment_byte}
use Rattle.lex_line.specs.Way.LineEnds.{line_at, content_at}
use Rattle.lex_line.specs.declared.Line as text
use Rattle.lex_keyword.specs.Bracket.{bracket_of}
use Rattle.lex_keyword.specs.declared.Bracket.TheVariants.{Plain}
use Rattle.line_place.specs.Place as place
use Rattle.line_path.specs.Path.{says_end, says_section, says_fork, is_mult, amount_of, path_line_of, path_next, is_step_line}
use Rattle.line_path.specs.Way.Parts.{ParsesLine}
use Rattle.line_path.specs.Way.Rule.{path_rule}
use Rattle.line_path.specs.declared.Path.{Path}
use Rattle.line_path.specs.declared.PathParts.{PathParts}
use Rattle.line_keyword.specs.Keywords.{one_more_if}
use Rattle.read_line.specs.Reading.{line_result}
use Rattle.read_line.specs.Way.Walk.{ResumesPart, HoldsPart, NoProgressMeansBracket, Decides, Opens, Stepping, with_path}
use Rattle.read_path.specs.declared.Stepped.{Stepped}
use Rattle.read_path.specs.declared.PathWalk.{PathWalk}
use Rattle.doc.specs.Lines.{Line, lines_at, words_of, right_words_of, no_word, second_word, gather}
use Rattle.doc.specs.Document.{Step, side_in, step_of}
use Rattle.doc.specs.Way.Found.{Plainly}
use Rattle.doc.specs.Way.Staged.{mult_word, step_staged}
use Rattle.doc.specs.declared.Extent.{Extent}

-- ---- the step of a line

-- the line that starts at offset `at`, read in a path, where the next one starts, and the lines behind it
abbrev pub line_here : List ℕ → ℕ → ℕ → Line
line_here t n at = record { line = n; at = at; place = place.path; content = content_at t at }

abbrev pub next_at : List ℕ → ℕ → ℕ
next_at t at = (line_at comment_byte t at).next

abbrev pub lines_following : List ℕ → ℕ → ℕ → List Line
lines_following t n at = lines_at t (n + 1) (next_at t at) place.path

abbrev pub end_step : List ℕ → ℕ → ℕ → Step
end_step t n at =
    record {
      kind = end_kind;
      name = second_word (words_of (line_here t n at));
      mult = false;
      amount = 0;
      side = side_in (lines_following t n at);
      line = n;
    }

abbrev pub section_step : List ℕ → ℕ → ℕ → Step
section_step t n at =
    record {
      kind = section_kind;
      name = second_word (right_words_of (line_here t n at));
      mult = is_mult (content_at t at);
      amount = amount_of (content_at t at);
      side = no_word;
      line = n;
    }

-- a fork or an endfork
abbrev pub fork_step : ℕ → ℕ → Step
fork_step kind n = record { kind = kind; name = no_word; mult = false; amount = 0; side = no_word; line = n }

-- the step by what its line says
unfoldable pub step_said : List ℕ → ℕ → ℕ → ℕ → Step
step_said t n at says =
    provided eqb says says_end then end_step t n at else
    provided eqb says says_section then section_step t n at else
    provided eqb says says_fork then fork_step fork_kind n else fork_step endfork_kind n

-- what is staged of an end or a section, by the parts of its line and its Side
abbrev pub named_step : ℕ → ℕ → ℕ → PathParts → Extent → StagedStep
named_step kind at n parts side =
    record {
      kind = kind;
      name = at + parts.name.start;
      name_size = parts.name.end - parts.name.start;
      amount = parts.amount;
      mult = mult_word parts.mult;
      side = side.start;
      side_size = side.size;
      line = n;
    }

-- ---- one line

-- a line that starts at offset `at`: there are no more lines than bytes
pub record Starts (t : List ℕ) (n at : ℕ) (ends : text.Line) : Type 0 where
  pub there : at < length t
  pub counted : n ≤ at + 1
  pub ends_is : ends ≡ line_at comment_byte t at

-- it has been parsed, and its rest is right
pub record Parsed (t : List ℕ) (n at : ℕ) (ends : text.Line) (parts : PathParts) : Type 0 where
  pub starts : Starts t n at ends
  pub parses : ParsesLine (content_at t at) parts
  pub right : parts.line.right ≡ true

-- it has words and no bracket at its front
pub record Worded (t : List ℕ) (n at : ℕ) (ends : text.Line) : Type 0 where
  pub starts : Starts t n at ends
  pub filled : is_blank_line (content_at t at) ≡ false
  pub plainly : bracket_of (content_at t at) ≡ Plain

-- the number of the first rule that a line without a bracket breaks in a path, 0 for none; a blank line breaks none
unfoldable pub rule_of_line : List ℕ → Path → ℕ → ℕ
rule_of_line content p steps = provided is_blank_line content then 0 else path_rule (path_line_of content) p steps

-- the path and the count of steps after a line that breaks no rule; a blank line leaves them as they are
unfoldable pub path_after_line : List ℕ → Path → Path
path_after_line content p = provided is_blank_line content then p else path_next (path_line_of content) p

unfoldable pub steps_after_line : List ℕ → ℕ → ℕ
steps_after_line content steps = provided is_blank_line content then steps else one_more_if (is_step_line (path_line_of content)) steps

-- a line that is taken has no bracket; its rule, and the path and the count of steps after it, are those of the definitions
pub record JudgesLine (content : List ℕ) (p : Path) (steps : ℕ) (r : Stepped) : Type 0 where
  pub plainly : is_blank_line content ≡ false → bracket_of content ≡ Plain
  pub rule_is : r.rule ≡ rule_of_line content p steps
  pub path_is : r.rule ≡ 0 → r.path ≡ path_after_line content p
  pub steps_is : r.rule ≡ 0 → r.steps ≡ steps_after_line content steps

-- lines are gone over, the next being line n' at offset at': their steps are staged behind those that were
pub record StagesSteps (t : List ℕ) (at n steps : ℕ) (stage : List ℕ) (at' n' steps' : ℕ) (stage' : List ℕ) : Type 0 where
  pub plain : Plainly place.path (lines_at t n at place.path) (lines_at t n' at' place.path)
  pub staged : (whole : List Step) → Held step_staged staged_step_width whole stage steps (gather step_of (lines_at t n at place.path)) →
      Held step_staged staged_step_width whole stage' steps' (gather step_of (lines_at t n' at' place.path))

-- a line of a path is judged and staged; one with a bracket is not taken
pub record TakesStep (t : List ℕ) (at n : ℕ) (p : Path) (steps : ℕ) (stage : List ℕ) (r : Stepped) (stage' : List ℕ) : Type 0 where
  pub decides : r.taken ≡ true → Decides place.path (with_path p steps) (line_result (content_at t at)) r.rule (with_path r.path r.steps)
  pub judges : r.taken ≡ true → JudgesLine (content_at t at) p steps r
  pub opens : r.taken ≡ false → Opens (content_at t at)
  pub stepping : Stepping r.path r.steps
  pub kept : r.taken ≡ false → stage' ≡ stage
  pub long : length stage' ≡ length stage
  pub stages : r.taken ≡ true → r.rule ≡ 0 → StagesSteps t at n steps stage (next_at t at) (n + 1) r.steps stage'

-- ---- lines of a path

-- lines of a path are read, from a line above which the path was p and n steps were read
pub record Blocked (t : List ℕ) (at line : ℕ) (p : Path) (n : ℕ) (w : PathWalk) : Type 0 where
  pub crossed : ResumesPart t at line (HoldsPart place.path (with_path p n)) (with_path w.part.path w.part.steps) w.part.rule w.at w.line
  pub stays : NoProgressMeansBracket t at w.at
  pub stepping : Stepping w.part.path w.part.steps

-- they are judged; if they break no rule they are without a keyword, and their steps are staged: what is staged and what is
-- left is the whole, as it was before
pub record GoesPath (t : List ℕ) (at line : ℕ) (p : Path) (steps : ℕ) (stage : List ℕ) (w : PathWalk) (stage' : List ℕ) : Type 0 where
  pub blocked : Blocked t at line p steps w
  pub long : length stage' ≡ length stage
  pub plain : w.part.rule ≡ 0 → Plainly place.path (lines_at t line at place.path) (lines_at t w.line w.at place.path)
  pub staged : w.part.rule ≡ 0 → (whole : List Step) → Held step_staged staged_step_width whole stage steps (gather step_of (lines_at t line at place.path)) →
      Held step_staged staged_step_width whole stage' w.part.steps (gather step_of (lines_at t w.line w.at place.path))
