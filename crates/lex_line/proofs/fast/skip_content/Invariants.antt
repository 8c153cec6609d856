use Rattle.std.proofs.Common.{◌≡◌, ◌≤◌, ◌-◌, length, drop}
use Rattle.base.specs.Bytes.{is_content}
use Rattle.base.specs.Way.Class.{run_end}
use Rattle.lex_line.specs.Lines.{comment_byte}
use Rattle.lex_line.proofs.fast.skip_content.Given as goal

-- what is left is the end of the text, and from there the content has the same end
abbrev pub invariant-loop-eight : goal.invariant-loop-eight
invariant-loop-eight l =
    (length l.rest ≤ length l.text) × (l.rest ≡ drop (length l.text - length l.rest) l.text)
    × (run_end (is_content comment_byte) l.text (length l.text - length l.rest) ≡ run_end (is_content comment_byte) l.text l.from)

abbrev pub decreases-loop-eight : goal.decreases-loop-eight
decreases-loop-eight l = length l.rest
