-- Laws of lines of the model list by their first byte: that byte starts the first word, so no bracket comes before it.
-- Assumes nothing.
use mathlib.Core.Path.{◌≡◌, refl, sym, ◌∙◌, ap}
use mathlib.Core.Bool.{Bool, true, false}
use mathlib.Core.List.{List, [], ◌∷◌, map}
use Prim.Native.Nat.{ℕ, ◌<◌}
use native.Mathlib.Omega.{arith}
use lib.ListN.{get_or}
use borrow.Author.Tests.{ne_eqb, eqb-false, ltb-true, not-true}
use Rattle.base.specs.Bytes.{is_blank}
use Rattle.base.specs.Runs.{run}
use Rattle.base.specs.Way.Class.{run_end}
use Rattle.base.proofs.IfLaws.{if_false, by_test, both_first, both_second, either_false}
use Rattle.base.proofs.RunLaws.{run_stops}
use Rattle.lex_line.specs.Words.{Word, word_goes_on, grown, words_from, words, first_of}
use Rattle.lex_keyword.specs.Bracket.{bracket_of}
use Rattle.lex_keyword.specs.declared.Bracket.TheVariants.{Plain}
use Rattle.lex_keyword.proofs.BracketLaws.{reads_plain}
use Rattle.line_argument.specs.Argument.{is_reserved}
use Rattle.line_argument.specs.Way.Reserved.{starts_reserved}
use Rattle.line_argument.proofs.ArgumentLaws.{not_reserved}
use Rattle.read_line.specs.Way.Listed.{is_free}

-- what such a byte is not
record Unlike (b : ℕ) : Type 0 where
  high : 32 < b
  bracket : b ≡ 91 → ⊥
  starts : starts_reserved b ≡ false

unlike : (b : ℕ) → is_free b ≡ true → Unlike b
unfolding is_free
unlike b e =
    record {
      high = ltb-true 32 b (both_first _ _ e);
      bracket = eqb-false b 91 (not-true _ (both_first _ _ (both_second _ _ e)));
      starts = not-true _ (both_second _ _ (both_second _ _ e));
    }

not_blank : (b : ℕ) → 32 < b → is_blank b ≡ false
unfolding is_blank
not_blank b h = either_false _ _ (ne_eqb b 32 (λ (e : b ≡ 32). omega arith)) (ne_eqb b 9 (λ (e : b ≡ 9). omega arith))

abbrev is_taken : List Word → Bool
is_taken ws = is_reserved (first_of (map (λ (w : Word). w.text) ws))

grown_free : (b : ℕ) (ws : List Word) → Unlike b → is_taken (grown 0 b ws) ≡ false
unfolding grown
grown_free b [] u = not_reserved b [] u.starts
grown_free b (w ∷ ws) u = not_reserved b w.text u.starts

first_free : (b : ℕ) (s : List ℕ) → Unlike b → is_taken (words_from 0 (b ∷ s)) ≡ false
unfolding words_from
first_free b s u =
    ap is_taken (if_false _ _ (not_blank b u.high))
    ∙ by_test (λ (ws : List Word). is_taken ws ≡ false) (word_goes_on s) _ _ (λ e. grown_free b (words_from 1 s) u) (λ e. not_reserved b [] u.starts)

starts_plain : (b : ℕ) (s : List ℕ) → Unlike b → bracket_of (b ∷ s) ≡ Plain
starts_plain b s u =
    let r : run is_blank (b ∷ s) ≡ 0 = run_stops is_blank b s (not_blank b u.high) in
    let front : 0 ≡ run_end is_blank (b ∷ s) 0 = omega arith in
    sym (reads_plain (b ∷ s) 0 b front refl u.bracket)

pub free_listed : (content : List ℕ) (b : ℕ) (is : Bool) → b ≡ get_or content 0 0 → is ≡ is_free b → is ≡ true →
    (bracket_of content ≡ Plain) × (is_reserved (first_of (words content)) ≡ false)
free_listed [] b is told free e =
    let u : 32 < b = (unlike b (sym free ∙ e)).high in
    absurd (omega arith)
free_listed (c ∷ s) b is told free e =
    let u : Unlike c = unlike c (ap is_free (sym told) ∙ sym free ∙ e) in
    (starts_plain c s u, first_free c s u)
