-- The lines of a path and of one set of a matrix as the reading of a text meets them: the rules of each line in its place,
-- and the state after it. Blank lines are left out.
-- Assumes nothing.
use Rattle.std.specs.Prelude.{ℕ, ◌≡◌, false, List, [], ◌∷◌, unwrap_or}
use Rattle.base.specs.Broken.{first_broken}
use Rattle.lex_number.specs.Integer.{whole_of}
use Rattle.lex_keyword.specs.Names.{row, bandwidth}
use Rattle.line_keyword.specs.Keywords.{is_unclosed, is_fork_open, keyword_rules, keyword_next}
use Rattle.line_keyword.specs.declared.State.{State}
use Rattle.read_line.specs.Reading.{line_rules, line_next}
use Rattle.law_grammar.specs.Way.Lines.{Entry}

-- no line breaks a rule, and nor does the keyword behind them for what it closes: 15, and 9
pub data Passes : State → List (List ℕ) → Type 0 where
  closes : {s : State} → is_fork_open s ≡ false → is_unclosed s ≡ false → Passes s []
  reads :
      {s : State} {content : List ℕ} {contents : List (List ℕ)} → first_broken (line_rules content s) ≡ 0 →
      Passes (line_next content s) contents → Passes s (content ∷ contents)

-- [Row] and [Bandwidth] with their arguments, and lines of data by their contents
pub data MatrixLine : Type 0 where
  row_line : List ℕ → MatrixLine
  bandwidth_line : List ℕ → MatrixLine
  data_line : List ℕ → MatrixLine

-- what the lines write
unfoldable pub entries_of : List MatrixLine → List Entry
entries_of [] = []
entries_of (MatrixLine.row_line argument ∷ lines) = Entry.row_entry (unwrap_or (whole_of argument) 0) ∷ entries_of lines
entries_of (MatrixLine.bandwidth_line argument ∷ lines) = Entry.bandwidth_entry (unwrap_or (whole_of argument) 0) ∷ entries_of lines
entries_of (MatrixLine.data_line content ∷ lines) = Entry.data_entry content ∷ entries_of lines

-- no line breaks a rule; they lead to the state `last`
pub data SetPasses (last : State) : State → List MatrixLine → Type 0 where
  over : SetPasses last last []
  row_passes :
      {s : State} {argument : List ℕ} {lines : List MatrixLine} → first_broken (keyword_rules row argument s) ≡ 0 →
      SetPasses last (keyword_next row argument s) lines → SetPasses last s (MatrixLine.row_line argument ∷ lines)
  bandwidth_passes :
      {s : State} {argument : List ℕ} {lines : List MatrixLine} → first_broken (keyword_rules bandwidth argument s) ≡ 0 →
      SetPasses last (keyword_next bandwidth argument s) lines → SetPasses last s (MatrixLine.bandwidth_line argument ∷ lines)
  data_passes :
      {s : State} {content : List ℕ} {lines : List MatrixLine} → first_broken (line_rules content s) ≡ 0 →
      SetPasses last (line_next content s) lines → SetPasses last s (MatrixLine.data_line content ∷ lines)
