-- Laws of lines by their front: a blank line, one without a bracket, a line of the model list. And how the part of the
-- state that decides such a line decides its result.
-- Assumes nothing.
use mathlib.Core.Path.{◌≡◌, refl, sym, ◌∙◌, ap}
use mathlib.Core.Bool.{Bool, true, false, not, true≢false}
use mathlib.Core.List.{List}
use Prim.Native.Nat.{ℕ}
use native.Mathlib.Nat.{zero-add}
use native.Mathlib.Omega.{arith}
use lib.ListN.{length, get_or}
use lib.Dec.{ltb, eqb}
use borrow.Author.Tests.{eq-eqb, ne_eqb, not-true}
use Rattle.base.specs.If.{provided◌then◌else◌}
use Rattle.base.specs.Bytes.{is_blank}
use Rattle.base.specs.Runs.{run}
use Rattle.base.specs.Way.Class.{run_end}
use Rattle.base.proofs.IfLaws.{if_true, if_false, by_test, by_cases}
use Rattle.lex_line.specs.Lines.{is_blank_line}
use Rattle.lex_line.specs.Words.{words, first_of}
use Rattle.lex_keyword.specs.Names.{unknown, is_later, keyword_of}
use Rattle.lex_keyword.specs.Bracket.{is_open, is_good_bracket, name_of, argument_at, named_as, bracket_of}
use Rattle.lex_keyword.specs.declared.Bracket.{Bracket}
use Rattle.lex_keyword.specs.declared.Bracket.TheVariants.{Plain, Indented, Bad, Unknown, Later, Keyword}
use Rattle.lex_keyword.proofs.BracketLaws.{reads_plain}
use Rattle.line_place.specs.Place as place
use Rattle.line_argument.specs.Argument.{is_reserved}
use Rattle.line_keyword.specs.declared.State.{State}
use Rattle.read_line.specs.Reading.{goes, breaks, line_result}
use Rattle.read_line.specs.Way.Steps.{line_step, bracket_step}
use Rattle.read_line.specs.Way.Walk.{Opens, Decides, Fronted}
use Rattle.read_line.specs.declared.Front.{Front}
use Rattle.read_line.specs.declared.Front.TheVariants.{Blanks, Words, Opening}
use Rattle.read_line.proofs.ResultLaws.{result_steps}
use Rattle.read_line.proofs.StepLaws.{list_goes, blank_told}

-- ---- blank lines, and those without a bracket

pub quiet_blank : (content : List ℕ) (b : Bool) → b ≡ is_blank_line content → b ≡ true → (s : State) → line_result content s ≡ goes s
quiet_blank content b told e s = result_steps content s ∙ if_true _ _ (sym told ∙ e)

plain_step : (content : List ℕ) → is_blank_line content ≡ false → bracket_of content ≡ Plain → (s : State) → (s.place ≡ place.done → ⊥) → (s.place ≡ place.before → ⊥) → line_result content s ≡ line_step content s
plain_step content filled plain s d b =
    result_steps content s ∙ if_false _ _ filled ∙ if_false _ _ (ne_eqb _ _ d) ∙ if_false _ _ (ne_eqb _ _ b) ∙ ap (λ (x : Bracket). bracket_step x content s) plain

-- ---- lines with a bracket

abbrev is_plain : Bracket → Bool
is_plain Plain = true
is_plain Indented = false
is_plain Bad = false
is_plain Unknown = false
is_plain Later = false
is_plain (Keyword k start) = false

named_other : (k start : ℕ) → is_plain (named_as k start) ≡ false
unfolding named_as
named_other k start =
    by_test (λ (b : Bracket). is_plain b ≡ false) (eqb k unknown) _ _
    (λ e. refl)
    (λ e. by_test (λ (b : Bracket). is_plain b ≡ false) (is_later k) _ _ (λ f. refl) (λ f. refl))

-- a line whose first byte after the blanks is `[` has a bracket
opened_other : (content : List ℕ) → is_open (get_or content (run is_blank content) 0) ≡ true → Opens content
unfolding bracket_of
opened_other content opens plain = true≢false (sym (ap is_plain plain) ∙ ap is_plain (if_false _ _ (ap not opens)) ∙ other)
  where
    other : is_plain (provided ltb 0 (run is_blank content) then Indented else provided not (is_good_bracket content) then Bad else named_as (keyword_of (name_of content)) (argument_at content)) ≡ false
    other =
        by_test (λ (b : Bracket). is_plain b ≡ false) (ltb 0 (run is_blank content)) _ _
        (λ e. refl)
        (λ e. by_test (λ (b : Bracket). is_plain b ≡ false) (not (is_good_bracket content)) _ _ (λ f. refl) (λ f. named_other (keyword_of (name_of content)) (argument_at content)))

-- ---- the front of a line

module _ (content : List ℕ) (front : ℕ) (told : front ≡ run_end is_blank content 0) where
  pub front_blanks : front ≡ length content → Fronted content Blanks
  front_blanks e = sym (blank_told content front told) ∙ eq-eqb _ _ e

  filled : (front ≡ length content → ⊥) → is_blank_line content ≡ false
  filled n = sym (blank_told content front told) ∙ ne_eqb _ _ n

  pub front_words : (front ≡ length content → ⊥) → (first : ℕ) → first ≡ get_or content front 0 → (first ≡ 91 → ⊥) → Fronted content Words
  front_words n first there h = (filled n, sym (reads_plain content front first told there h))

  pub front_opens : (front ≡ length content → ⊥) → (first : ℕ) → first ≡ get_or content front 0 → first ≡ 91 → Fronted content Opening
  unfolding is_open
  front_opens n first there e = (filled n, opened_other content (rw (sym (told ∙ zero-add (run is_blank content)), sym there) (eq-eqb first 91 e)))

-- what each front means for the line
module _ (content : List ℕ) (front : Front) (told : Fronted content front) where
  pub blanks_front : front ≡ Blanks → is_blank_line content ≡ true
  blanks_front e = rw e at told

  pub words_front : front ≡ Words → (is_blank_line content ≡ false) × (bracket_of content ≡ Plain)
  words_front e = rw e at told

  pub opening_front : front ≡ Opening → (is_blank_line content ≡ false) × Opens content
  opening_front e = rw e at told

  pub opening_opens : front ≡ Opening → Opens content
  opening_opens e = (opening_front e).1

-- ---- lines that change nothing

pub quiet_listed : (content : List ℕ) (here : ℕ) → here ≡ place.list → bracket_of content ≡ Plain → is_reserved (first_of (words content)) ≡ false → (s : State) → s.place ≡ here → line_result content s ≡ goes s
quiet_listed content here is plain free s at =
    by_cases _ (is_blank_line content)
    (λ (e : is_blank_line content ≡ true). quiet_blank content true (sym e) refl s)
    (λ (e : is_blank_line content ≡ false).
    plain_step content e plain s (apart place.done (λ (k : place.list ≡ place.done). omega arith)) (apart place.before (λ (k : place.list ≡ place.before). omega arith))
    ∙ sym (list_goes content s (goes s) (at ∙ is) (first_of (words content)) refl (is_reserved (first_of (words content))) refl free refl))
  where
    apart : (other : ℕ) → (place.list ≡ other → ⊥) → s.place ≡ other → ⊥
    apart other k e = k (sym (at ∙ is) ∙ e)

pub listed_free : (content word : List ℕ) (bracket : Bracket) (b : Bool) → bracket ≡ bracket_of content → bracket ≡ Plain → word ≡ first_of (words content) → b ≡ is_reserved word → not b ≡ true → (bracket_of content ≡ Plain) × (is_reserved (first_of (words content)) ≡ false)
listed_free content word bracket b told is first reserved e = (sym told ∙ is, ap is_reserved (sym first) ∙ sym reserved ∙ not-true b e)

-- ---- lines decided by a part of the state

goes_breaks : (s : State) → goes s ≡ breaks 0 s
unfolding goes breaks
goes_breaks s = refl

pub quiet_decides : (content : List ℕ) (here : ℕ) → ((s : State) → s.place ≡ here → line_result content s ≡ goes s) → Decides here (λ (s : State). s) (line_result content) 0 (λ (s : State). s)
quiet_decides content here quiet s at = quiet s at ∙ goes_breaks s

module _ (content : List ℕ) (front : Front) (told : Fronted content front) (here : ℕ) (put : State → State) where
  pub blanks_decide : front ≡ Blanks → Decides here put (line_result content) 0 put
  blanks_decide e s at = quiet_blank content true (sym (blanks_front content front told e)) refl (put s) ∙ goes_breaks (put s)

  pub words_decide : front ≡ Words → ((s : State) → (put s).place ≡ s.place) → (here ≡ place.done → ⊥) → (here ≡ place.before → ⊥) → (k : ℕ) (next : State → State) → Decides here put (line_step content) k next →
      Decides here put (line_result content) k next
  words_decide e same d b k next decides s at =
      plain_step content (words_front content front told e).0 (words_front content front told e).1 (put s)
      (λ (z : (put s).place ≡ place.done). d (sym (same s ∙ at) ∙ z)) (λ (z : (put s).place ≡ place.before). b (sym (same s ∙ at) ∙ z))
      ∙ decides s at
