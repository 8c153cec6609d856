-- Document 000, section 3, and document 01, "Lines and keywords": the lines of a text, and the content of each.
-- Assumes nothing.
use Rattle.std.specs.Prelude.{ℕ, Bool, true, false, List, [], ◌∷◌, map, length, take, eqb}
use Prim.Native.Char.{code}
use Rattle.base.specs.If.{provided◌then◌else◌}
use Rattle.base.specs.Bytes.{line_feed, is_blank, is_content}
use Rattle.base.specs.Runs.{run, all}

-- a line of the text: its bytes before the LF, and whether it has an LF
pub record Raw : Type 0 where
  pub bytes : List ℕ
  pub ended : Bool

-- the byte b put in front of the first of these lines; if there are none, it is a last line without LF
unfoldable pub pushed : ℕ → List Raw → List Raw
pushed b [] = record { bytes = b ∷ []; ended = false } ∷ []
pushed b (l ∷ ls) = record { bytes = b ∷ l.bytes; ended = l.ended } ∷ ls

-- the lines of a text, each up to its LF; the empty text has none
unfoldable pub lines : List ℕ → List Raw
lines [] = []
lines (b ∷ t) = provided eqb b line_feed then record { bytes = []; ended = true } ∷ lines t else pushed b (lines t)

-- "From `|` on, a line is comment"
abbrev pub comment_byte : ℕ
comment_byte = code "|"

-- the bytes before the comment byte or the CR of the terminator, if there is one
unfoldable pub content_of : ℕ → List ℕ → List ℕ
content_of comment bytes = take (run (is_content comment) bytes) bytes

-- what a line says: its content, and how many bytes come before its LF, which tells where the next line starts
pub record Said : Type 0 where
  pub size : ℕ
  pub content : List ℕ

unfoldable pub said : Raw → Said
said l = record { size = length l.bytes; content = content_of comment_byte l.bytes }

-- what the lines of a text say, in turn; the reading, the document and the rule book know a text by this alone
unfoldable pub contents : List ℕ → List Said
contents t = map said (lines t)

-- "lines left blank are skipped"
unfoldable pub is_blank_line : List ℕ → Bool
is_blank_line content = all is_blank content
