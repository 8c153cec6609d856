-- Laws of the front of a line that is not cut out of its text.
-- Assumes nothing.
use mathlib.Core.Path.{◌≡◌, sym, ◌∙◌}
use mathlib.Core.Bool.{Bool, true, false, not}
use mathlib.Core.List.{List}
use Prim.Native.Nat.{ℕ, ◌+◌, ◌*◌, ◌^◌, ◌<◌}
use native.Mathlib.Omega.{arith}
use mir.Syntax.{w64}
use mir.Val.{Fits}
use lib.ListN.{length, get_or}
use lib.Dec.{ltb}
use borrow.Author.Tests.{not-true, not-false}
use Rattle.base.specs.If.{both}
use Rattle.base.specs.Bytes.{is_blank}
use Rattle.base.specs.Way.Class.{run_end}
use Rattle.lex_line.specs.Lines.{comment_byte}
use Rattle.lex_line.specs.Way.LineEnds.{content_at}
use Rattle.lex_line.proofs.LineLaws.{feed_inside}
use Rattle.lex_number.specs.Way.In.{is_word}
use Rattle.read_line.specs.Way.Walk.{Fronted}
use Rattle.read_line.specs.declared.Front.TheVariants.{Blanks, Words, Opening}
use Rattle.read_line.proofs.QuietLaws.{front_blanks, front_words, front_opens}
use Rattle.read_numbers.proofs.InTextLaws.{blanks, blanks_are, front_ends, front_inside, front_byte}

module _ (t : List ℕ) (here start : ℕ) (begins : start ≡ run_end is_blank t here) (there : Bool)
    (told : there ≡ both (ltb start (length t)) (is_word comment_byte (get_or t start 0))) where
  pub text_blanks : not there ≡ true → Fronted (content_at t here) Blanks
  text_blanks e =
      front_blanks (content_at t here) (blanks t here start begins) (sym (blanks_are t here start begins))
      (front_ends t here start begins (sym told ∙ not-true there e))

  module _ (e : not there ≡ false) (first : ℕ) (is : first ≡ get_or t start 0) where
    stands : both (ltb start (length t)) (is_word comment_byte (get_or t start 0)) ≡ true
    stands = sym told ∙ not-false there e

    pub text_opens : first ≡ 91 → Fronted (content_at t here) Opening
    text_opens =
        front_opens (content_at t here) (blanks t here start begins) (sym (blanks_are t here start begins)) (front_inside t here start begins stands)
        first (is ∙ sym (front_byte t here start begins stands))

    pub text_words : (first ≡ 91 → ⊥) → Fronted (content_at t here) Words
    text_words =
        front_words (content_at t here) (blanks t here start begins) (sym (blanks_are t here start begins)) (front_inside t here start begins stands)
        first (is ∙ sym (front_byte t here start begins stands))

-- the place behind an LF can be counted
pub next_fits : (t : List ℕ) (end b : ℕ) → b ≡ get_or t end 0 → b ≡ 10 → length t * 1 < 2 ^ 63 → Fits w64 (end + 1)
next_fits t end b told e small = let h : end < length t = feed_inside t end b told e in omega arith
