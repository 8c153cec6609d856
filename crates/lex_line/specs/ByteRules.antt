-- Document 01, "Numbers of refusal": rules 1 to 4, judged over all lines of a text.
-- Assumes nothing.
use Rattle.std.specs.Prelude.{ℕ, ◌+◌, not, List, [], ◌∷◌, length, ltb, eqb}
use Rattle.base.specs.If.{provided◌then◌else◌}
use Rattle.base.specs.Bytes.{carriage_return, is_printed}
use Rattle.base.specs.Runs.{all}
use Rattle.base.specs.Broken.{Rule, ◌when◌, first_broken}
use Rattle.base.specs.Refusal as refusal
use Rattle.lex_line.specs.Lines.{Raw, lines}
use Rattle.lex_line.specs.declared.Checked.{Checked}
use Rattle.lex_line.specs.declared.Checked.TheVariants.{Fine, Refused}

-- "1 SIZE: text over 1,048,576 bytes"
abbrev pub most_bytes : ℕ
most_bytes = 1_048_576

-- "3 LONG: line over 120 characters without its terminator"
abbrev pub most_characters : ℕ
most_characters = 120

-- the bytes without a CR at their end
unfoldable pub without_return : List ℕ → List ℕ
without_return [] = []
without_return (b ∷ []) = provided eqb b carriage_return then [] else b ∷ []
without_return (b ∷ c ∷ s) = b ∷ without_return (c ∷ s)

-- the characters of a line: its bytes without the terminator, "LF, or CR right before LF"
unfoldable pub characters : Raw → List ℕ
characters l = provided l.ended then without_return l.bytes else l.bytes

-- a byte that no line may contain, a long line, a last line without LF
abbrev pub character_rules : Raw → List Rule
character_rules l =
    refusal.byte when not (all is_printed (characters l))
    ∷ refusal.long when ltb most_characters (length (characters l))
    ∷ refusal.unended when not l.ended
    ∷ []

unfoldable pub raw_line_rule : Raw → ℕ
raw_line_rule l = first_broken (character_rules l)

-- refused with rule k at line n; if k is 0, the result of the later lines
unfoldable pub refused_or : ℕ → ℕ → Checked → Checked
refused_or k n later = provided eqb k 0 then later else Refused k n

-- "2 to 4 over all lines .. the earliest line counts; on one line the lowest number"
unfoldable pub lines_rule : ℕ → List Raw → Checked
lines_rule n [] = Fine
lines_rule n (l ∷ ls) = refused_or (raw_line_rule l) n (lines_rule (n + 1) ls)

abbrev pub size_rules : List ℕ → List Rule
size_rules t = refusal.size when ltb most_bytes (length t) ∷ []

-- rules 1 to 4: 1 first, at line 0
unfoldable pub byte_rules : List ℕ → Checked
byte_rules t = refused_or (first_broken (size_rules t)) 0 (lines_rule 1 (lines t))
