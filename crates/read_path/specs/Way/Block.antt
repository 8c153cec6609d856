-- Where the reading of a fork block ends. Begun at a depth, it ends at the Endfork that closes the block, or at the line that
-- breaks a rule, or at a keyword or the end of the text. Before that the depth never falls below the one it was begun at.
-- Assumes nothing.
use Rattle.std.specs.Prelude.{ℕ, ◌+◌, ◌≤◌, ◌<◌, ◌≡◌, false, List, length}
use Rattle.lex_line.specs.Lines.{is_blank_line}
use Rattle.lex_line.specs.Way.LineEnds.{content_at}
use Rattle.lex_keyword.specs.Bracket.{bracket_of}
use Rattle.lex_keyword.specs.declared.Bracket.TheVariants.{Plain}
use Rattle.line_path.specs.Path.{says_endfork, path_line_of}
use Rattle.line_path.specs.declared.Path.{Path}
use Rattle.read_line.specs.Way.Walk.{Opens}
use Rattle.read_path.specs.Way.Path.{next_at, rule_of_line, path_after_line, steps_after_line}
use Rattle.read_path.specs.declared.PathWalk.{PathWalk}

-- ---- one line

-- where the reading of a path stands: the offset and the number of the next line, and the path and the count of steps
-- above it
pub record PathCursor : Type 0 where
  pub at : ℕ
  pub line : ℕ
  pub path : Path
  pub steps : ℕ

-- where a walk has come
abbrev pub reached : PathWalk → PathCursor
reached w = record { at = w.at; line = w.line; path = w.part.path; steps = w.part.steps }

-- the content of the next line
abbrev pub content_from : List ℕ → PathCursor → List ℕ
content_from t c = content_at t c.at

-- the next line is there and has no bracket
pub record Meets (t : List ℕ) (c : PathCursor) : Type 0 where
  pub there : c.at < length t
  pub plainly : is_blank_line (content_from t c) ≡ false → bracket_of (content_from t c) ≡ Plain

-- the rule that it breaks, 0 for none
abbrev pub rule_from : List ℕ → PathCursor → ℕ
rule_from t c = rule_of_line (content_from t c) c.path c.steps

-- where the reading stands behind it, if it breaks none
abbrev pub behind : List ℕ → PathCursor → PathCursor
behind t c =
    record {
      at = next_at t c.at;
      line = c.line + 1;
      path = path_after_line (content_from t c) c.path;
      steps = steps_after_line (content_from t c) c.steps;
    }

-- ---- lines one after another

-- from one place to another by lines that break no rule, each of which leaves a depth of at least d
pub data PassesAbove (t : List ℕ) (d : ℕ) (from : PathCursor) : PathCursor → Type 0 where
  none : PassesAbove t d from from
  more : {c : PathCursor} → PassesAbove t d from c → Meets t c → rule_from t c ≡ 0 → d ≤ (behind t c).path.depth → PassesAbove t d from (behind t c)

-- ---- where a block ends

-- the Endfork that closes the block: the first line that leaves less than the depth that the block was begun at
pub record ClosesBlock (t : List ℕ) (from : PathCursor) (w : PathWalk) : Type 0 where
  pub last : PathCursor
  pub inside : PassesAbove t from.path.depth from last
  pub meets : Meets t last
  pub kept : rule_from t last ≡ 0
  pub says : (path_line_of (content_from t last)).says ≡ says_endfork
  pub ends : reached w ≡ behind t last
  pub closed : w.part.path.depth + 1 ≡ from.path.depth
  pub whole : w.part.rule ≡ 0

-- the line that breaks a rule
pub record BreaksRule (t : List ℕ) (from : PathCursor) (w : PathWalk) : Type 0 where
  pub last : PathCursor
  pub inside : PassesAbove t from.path.depth from last
  pub meets : Meets t last
  pub rule_is : w.part.rule ≡ rule_from t last
  pub line_is : w.line ≡ last.line
  pub broken : w.part.rule ≡ 0 → ⊥

-- a line with a bracket, or the end of the text
pub record ComesToBracket (t : List ℕ) (from : PathCursor) (w : PathWalk) : Type 0 where
  pub inside : PassesAbove t from.path.depth from (reached w)
  pub opens : w.at < length t → Opens (content_at t w.at)
  pub whole : w.part.rule ≡ 0

-- the reading of a block that was begun at `from` ends at one of the three
pub data EndsBlock (t : List ℕ) (from : PathCursor) (w : PathWalk) : Type 0 where
  at_endfork : ClosesBlock t from w → EndsBlock t from w
  at_broken_rule : BreaksRule t from w → EndsBlock t from w
  at_bracket : ComesToBracket t from w → EndsBlock t from w

-- ---- where lines of a level end

-- a line that opens a block or closes one; above it the depth is the one that the lines were begun at
pub record TurnsDepth (t : List ℕ) (from : PathCursor) (w : PathWalk) : Type 0 where
  pub last : PathCursor
  pub inside : PassesAbove t from.path.depth from last
  pub level : last.path.depth ≡ from.path.depth
  pub meets : Meets t last
  pub kept : rule_from t last ≡ 0
  pub ends : reached w ≡ behind t last
  pub turned : w.part.path.depth ≡ from.path.depth → ⊥
  pub whole : w.part.rule ≡ 0

-- lines of a level, from `from` on, end behind such a line, or at one that breaks a rule, or at a bracket with the depth
-- that they were begun at
pub data EndsLevel (t : List ℕ) (from : PathCursor) (w : PathWalk) : Type 0 where
  turns : TurnsDepth t from w → EndsLevel t from w
  breaks : BreaksRule t from w → EndsLevel t from w
  stops : ComesToBracket t from w → w.part.path.depth ≡ from.path.depth → EndsLevel t from w
