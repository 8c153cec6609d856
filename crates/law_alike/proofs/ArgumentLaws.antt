-- The argument of a keyword: its words are those behind the bracket, and a keyword that does not take free text takes
-- one word or none.
-- Assumes nothing.
use mathlib.Core.Path.{◌≡◌, refl, sym, ◌∙◌, ap, subst}
use mathlib.Core.Bool.{Bool, true, false, not, true≢false}
use mathlib.Core.List.{List, [], ◌∷◌, ◌++◌}
use Prim.Native.Nat.{ℕ, zero, suc, ◌+◌, ◌-◌, ◌≤◌, ◌<◌}
use Prim.Native.Char.{code}
use native.Mathlib.Omega.{arith}
use native.Mathlib.Numerals.{add-one}
use lib.ListN.{length, take, drop, get_or, length-append, length-drop}
use lib.Seq.{drop-drop, get_or-take, get_or-drop, length-take-le}
use lib.Dec.{leb, ltb, eqb}
use borrow.Author.Tests.{ne_eqb, eqb-true, eqb-false, le-leb, lt-leb, lt-ltb, ltb-false, not-true, not-false}
use Rattle.base.specs.If.{provided◌then◌else◌, both, either}
use Rattle.base.specs.Bytes.{bytes, is_blank, is_filled, within, is_digit, is_small, space, tab}
use Rattle.base.specs.Runs.{run, all, same}
use Rattle.base.proofs.IfLaws.{if_true, if_false, by_test, by_cases, both_true, both_first, both_second, either_left, either_right, either_rest, either_false}
use Rattle.base.proofs.RunLaws.{run_goes, run_stops, run_nil, run_append, run_end_at, all_nil, all_cons, same_equal}
use Rattle.table_layout.specs.Codes.{matrix_forms, section_methods}
use Rattle.lex_line.specs.Words.{word_goes_on, words, first_of, back_run, last_end}
use Rattle.lex_line.proofs.WordLaws.{back_grows, back_ends}
use Rattle.lex_keyword.specs.Names.{date, icm_ver, file_name, derivation_method, is_later, keyword_of, unknown}
use Rattle.lex_keyword.specs.Bracket.{bracket_of, is_open, is_not_closing, is_good_name, name_length, name_of, is_closed, is_good_bracket, argument_at, named_as}
use Rattle.lex_keyword.specs.declared.Bracket.{Bracket}
use Rattle.lex_keyword.specs.declared.Bracket.TheVariants.{Bad, Unknown, Later, Keyword}
use Rattle.lex_keyword.proofs.AnswerLaws.{Known, key_most, keyword_known}
use Rattle.line_place.specs.Place.{opens_matrix, is_row_or_bandwidth, opens_header_text}
use Rattle.line_argument.specs.Argument.{is_one_word, is_name, is_file_byte, is_extension, is_file_name, form_of, method_of, takes_nothing, takes_free_text, takes_name, is_bad_form, is_bad_argument}
use Rattle.read_line.specs.Reading.{argument_from}
use Rattle.doc.specs.Lines.{plain, key_in, argument_in, key_at}
use Rattle.law_alike.specs.Alike.{takes_text, argument_text}
use Rattle.law_alike.proofs.SidesLaws.{grow, bare, filled, words_bare, bare_blank, bare_last, bare_on}
use Rattle.law_alike.proofs.SqueezedLaws.{goes_blank, goes_byte}
use Rattle.law_alike.proofs.WideLaws.{bare_choice, take_front}

-- ---- one word or none

filled_byte : (b : ℕ) → is_filled b ≡ true → is_blank b ≡ false
unfolding is_filled
filled_byte b e = not-true (is_blank b) e

-- bytes without a blank are one word, or none if there are none
filled_bare : (s : List ℕ) → all is_filled s ≡ true → bare s ≡ filled s []
unfolding bare filled grow all word_goes_on
filled_bare [] e = refl
filled_bare (b ∷ []) e = bare_last b [] (filled_byte b (both_first _ _ e)) refl
filled_bare (b ∷ c ∷ s) e =
    bare_on b (c ∷ s) (filled_byte b (both_first _ _ e)) (both_first _ _ (both_second _ _ e)) ∙ ap (grow b) (filled_bare (c ∷ s) (both_second _ _ e))

filled_first : (s : List ℕ) → first_of (filled s []) ≡ s
unfolding filled
filled_first [] = refl
filled_first (b ∷ s) = refl

pub one_word_same : (s t : List ℕ) → all is_filled s ≡ true → all is_filled t ≡ true → words s ≡ words t → s ≡ t
one_word_same s t e f w =
    sym (filled_first s) ∙ ap first_of (sym (filled_bare s e) ∙ sym (words_bare 0 s) ∙ w ∙ words_bare 0 t ∙ filled_bare t f) ∙ filled_first t

-- ---- the arguments that break no rule

none_filled : (s : List ℕ) → ltb 0 (length s) ≡ false → all is_filled s ≡ true
none_filled [] e = all_nil is_filled
none_filled (b ∷ s) e = let h : suc (length s) ≤ 0 = ltb-false 0 (suc (length s)) e in absurd (omega arith)

-- one of some words that have no blank
module _ (s : List ℕ) where
  word_filled : (w : List ℕ) → all is_filled w ≡ true → same s w ≡ true → all is_filled s ≡ true
  word_filled w f e = ap (all is_filled) (same_equal s w e) ∙ f

  one_word_filled : is_one_word s ≡ true → all is_filled s ≡ true
  unfolding is_one_word
  one_word_filled e = both_second _ _ e

  name_filled : is_name s ≡ true → all is_filled s ≡ true
  unfolding is_name
  name_filled e = one_word_filled (both_first _ _ e)

  form_filled : eqb (form_of s) matrix_forms ≡ false → all is_filled s ≡ true
  unfolding form_of all is_filled is_blank both either
  form_filled e =
      by_cases _ (same s (bytes "Diagonal_matrix")) (word_filled (bytes "Diagonal_matrix") refl)
      (λ (a : same s (bytes "Diagonal_matrix") ≡ false).
      by_cases _ (same s (bytes "Banded_matrix")) (word_filled (bytes "Banded_matrix") refl)
      (λ (b : same s (bytes "Banded_matrix") ≡ false).
      by_cases _ (same s (bytes "Sparse_matrix")) (word_filled (bytes "Sparse_matrix") refl)
      (λ (c : same s (bytes "Sparse_matrix") ≡ false).
      by_cases _ (same s (bytes "Full_matrix")) (word_filled (bytes "Full_matrix") refl)
      (λ (d : same s (bytes "Full_matrix") ≡ false). absurd (eqb-false _ _ e (if_false _ _ a ∙ if_false _ _ b ∙ if_false _ _ c ∙ if_false _ _ d))))))

  method_filled : eqb (method_of s) section_methods ≡ false → all is_filled s ≡ true
  unfolding method_of all is_filled is_blank both either
  method_filled e =
      by_cases _ (same s (bytes "Lumped")) (word_filled (bytes "Lumped") refl)
      (λ (a : same s (bytes "Lumped") ≡ false).
      by_cases _ (same s (bytes "Distributed")) (word_filled (bytes "Distributed") refl)
      (λ (b : same s (bytes "Distributed") ≡ false). absurd (eqb-false _ _ e (if_false _ _ a ∙ if_false _ _ b))))

  version_filled : same s (bytes "1.1") ≡ true → all is_filled s ≡ true
  unfolding all is_filled is_blank both either
  version_filled e = word_filled (bytes "1.1") refl e

-- the bytes of a file name are no blanks
space_no_file : is_file_byte space ≡ false
unfolding is_file_byte is_small is_digit within both either
space_no_file = refl

tab_no_file : is_file_byte tab ≡ false
unfolding is_file_byte is_small is_digit within both either
tab_no_file = refl

file_byte_filled : (b : ℕ) → is_file_byte b ≡ true → is_filled b ≡ true
unfolding is_filled is_blank
file_byte_filled b e =
    ap not
    (either_false _ _ (ne_eqb b space (λ (q : b ≡ space). true≢false (sym e ∙ ap is_file_byte q ∙ space_no_file)))
    (ne_eqb b tab (λ (q : b ≡ tab). true≢false (sym e ∙ ap is_file_byte q ∙ tab_no_file))))

files_filled : (s : List ℕ) → all is_file_byte s ≡ true → all is_filled s ≡ true
unfolding all
files_filled [] e = refl
files_filled (b ∷ s) e = both_true _ _ (file_byte_filled b (both_first _ _ e)) (files_filled s (both_second _ _ e))

period_filled : is_filled (code ".") ≡ true
unfolding is_filled is_blank either
period_filled = refl

parts_filled : (s : List ℕ) → eqb (get_or s (run is_file_byte s) 0) (code ".") ≡ true → all is_file_byte (drop (run is_file_byte s + 1) s) ≡ true → all is_filled s ≡ true
parts_filled [] e f = all_nil is_filled
parts_filled (b ∷ s) e f =
    by_cases _ (is_file_byte b)
    (λ (h : is_file_byte b ≡ true).
    let r : run is_file_byte (b ∷ s) ≡ suc (run is_file_byte s) = run_goes is_file_byte b s h in
    let n : suc (run is_file_byte s) + 1 ≡ suc (run is_file_byte s + 1) = omega arith in
    let e' : eqb (get_or s (run is_file_byte s) 0) (code ".") ≡ true = ap (λ (k : ℕ). eqb (get_or (b ∷ s) k 0) (code ".")) (sym r) ∙ e in
    let f' : all is_file_byte (drop (run is_file_byte s + 1) s) ≡ true = ap (λ (k : ℕ). all is_file_byte (drop k (b ∷ s))) (sym n ∙ ap (λ (k : ℕ). k + 1) (sym r)) ∙ f in
    all_cons is_filled b s ∙ both_true _ _ (file_byte_filled b h) (parts_filled s e' f'))
    (λ (h : is_file_byte b ≡ false).
    let r : run is_file_byte (b ∷ s) ≡ 0 = run_stops is_file_byte b s h in
    let p : b ≡ code "." = eqb-true _ _ (ap (λ (k : ℕ). eqb (get_or (b ∷ s) k 0) (code ".")) (sym r) ∙ e) in
    let f' : all is_file_byte s ≡ true = ap (λ (k : ℕ). all is_file_byte (drop (k + 1) (b ∷ s))) (sym r) ∙ f in
    all_cons is_filled b s ∙ both_true _ _ (ap is_filled p ∙ period_filled) (files_filled s f'))

file_filled : (s : List ℕ) → is_file_name s ≡ true → all is_filled s ≡ true
unfolding is_file_name is_extension
file_filled s e = parts_filled s (both_first _ _ (both_second _ _ e)) (both_second _ _ (both_second _ _ (both_second _ _ e)))

-- ---- every keyword, by computation

unfoldable all_below : (ℕ → Bool) → ℕ → Bool
all_below test zero = true
all_below test (suc n) = both (test n) (all_below test n)

below_all : (test : ℕ → Bool) (n : ℕ) → all_below test n ≡ true → (k : ℕ) → k < n → test k ≡ true
unfolding all_below
below_all test zero e k h = absurd (omega arith)
below_all test (suc n) e k h =
    by_cases _ (eqb k n)
    (λ (q : eqb k n ≡ true). ap test (eqb-true k n q) ∙ both_first _ _ e)
    (λ (q : eqb k n ≡ false). let d : k ≡ n → ⊥ = eqb-false k n q in below_all test n (both_second _ _ e) k (omega arith))

-- a keyword of 000 that is not a later one takes free text, or else an argument without blanks
abbrev is_classed : ℕ → Bool
is_classed k =
    either (is_later k)
    (either (takes_text k)
    (either (is_row_or_bandwidth k)
    (either (opens_matrix k)
    (either (takes_nothing k)
    (either (takes_name k) (either (eqb k icm_ver) (either (eqb k file_name) (eqb k derivation_method))))))))

every_classed : all_below is_classed 40 ≡ true
unfolding all_below is_later takes_text is_row_or_bandwidth opens_matrix takes_nothing takes_name opens_header_text both either
every_classed = refl

-- "Other arguments are non-empty text"
every_free : all_below (λ (k : ℕ). either (not (takes_free_text k)) (takes_text k)) 40 ≡ true
unfolding all_below takes_free_text takes_text opens_header_text both either
every_free = refl

date_free : takes_text date ≡ true
unfolding takes_text opens_header_text either
date_free = refl

module _ (k : ℕ) (known : k < 40) (read : is_later k ≡ false) (no_text : takes_text k ≡ false) (s : List ℕ) where
  not_free : takes_free_text k ≡ true → ⊥
  unfolding either
  not_free e = true≢false (sym (below_all (λ (n : ℕ). either (not (takes_free_text n)) (takes_text n)) 40 every_free k known) ∙ (λ i. either (not (e i)) (no_text i)))

  own_form :
      is_row_or_bandwidth k ≡ false → opens_matrix k ≡ false → takes_nothing k ≡ false → takes_name k ≡ false → is_bad_form k s ≡ false →
      all is_filled s ≡ true
  unfolding is_bad_form
  own_form r o n m =
      by_test (λ (h : Bool). h ≡ false → all is_filled s ≡ true) (eqb k icm_ver) _ _ (λ a b. version_filled s (not-false _ b))
      (λ (a : eqb k icm_ver ≡ false).
      by_test (λ (h : Bool). h ≡ false → all is_filled s ≡ true) (eqb k file_name) _ _ (λ b c. file_filled s (not-false _ c))
      (λ (b : eqb k file_name ≡ false).
      by_test (λ (h : Bool). h ≡ false → all is_filled s ≡ true) (eqb k date) _ _
      (λ (c : eqb k date ≡ true) d. absurd (true≢false (sym date_free ∙ ap takes_text (sym (eqb-true k date c)) ∙ no_text)))
      (λ (c : eqb k date ≡ false).
      by_test (λ (h : Bool). h ≡ false → all is_filled s ≡ true) (eqb k derivation_method) _ _ (λ d e. method_filled s e)
      (λ (d : eqb k derivation_method ≡ false) e.
      absurd
      (true≢false
      (sym (below_all is_classed 40 every_classed k known)
      ∙ either_false _ _ read (either_false _ _ no_text (either_false _ _ r (either_false _ _ o (either_false _ _ n (either_false _ _ m (either_false _ _ a (either_false _ _ b d)))))))))))))

  -- an argument that such a keyword takes has no blank
  pub argument_filled : is_bad_argument k s ≡ false → all is_filled s ≡ true
  unfolding is_bad_argument
  argument_filled =
      by_test (λ (h : Bool). h ≡ false → all is_filled s ≡ true) (is_row_or_bandwidth k) _ _ (λ a e. one_word_filled s (not-false _ e))
      (λ (a : is_row_or_bandwidth k ≡ false).
      by_test (λ (h : Bool). h ≡ false → all is_filled s ≡ true) (opens_matrix k) _ _ (λ b e. form_filled s e)
      (λ (b : opens_matrix k ≡ false).
      by_test (λ (h : Bool). h ≡ false → all is_filled s ≡ true) (takes_nothing k) _ _ (λ c e. none_filled s e)
      (λ (c : takes_nothing k ≡ false).
      by_test (λ (h : Bool). h ≡ false → all is_filled s ≡ true) (takes_name k) _ _ (λ d e. name_filled s (not-false _ e))
      (λ (d : takes_name k ≡ false).
      by_test (λ (h : Bool). h ≡ false → all is_filled s ≡ true) (takes_free_text k) _ _ (λ (f : takes_free_text k ≡ true) e. absurd (not_free f))
      (λ f e. own_form a b c d e)))))

-- ---- the words behind a bracket

past_blanks_lem : (s : List ℕ) → bare (drop (run is_blank s) s) ≡ bare s
past_blanks_lem [] = ap (λ (n : ℕ). bare (drop n [])) (run_nil is_blank)
past_blanks_lem (b ∷ s) =
    by_cases _ (is_blank b)
    (λ (e : is_blank b ≡ true). ap (λ (n : ℕ). bare (drop n (b ∷ s))) (run_goes is_blank b s e) ∙ past_blanks_lem s ∙ sym (bare_blank b s e))
    (λ (e : is_blank b ≡ false). ap (λ (n : ℕ). bare (drop n (b ∷ s))) (run_stops is_blank b s e))

blanks_none : (s : List ℕ) → all is_blank s ≡ true → bare s ≡ []
unfolding all bare
blanks_none [] e = refl
blanks_none (b ∷ s) e = if_true _ _ (both_first _ _ e) ∙ blanks_none s (both_second _ _ e)

blanks_stop : (s : List ℕ) → all is_blank s ≡ true → word_goes_on s ≡ false
unfolding all word_goes_on is_filled
blanks_stop [] e = refl
blanks_stop (b ∷ s) e = ap not (both_first _ _ e)

-- blanks at the end may be left out
front_goes : (s : List ℕ) (n : ℕ) → all is_blank (drop n s) ≡ true → word_goes_on (take n s) ≡ word_goes_on s
unfolding word_goes_on
front_goes s zero e = sym (blanks_stop s e)
front_goes [] (suc n) e = refl
front_goes (b ∷ s) (suc n) e = refl

front_bare : (s : List ℕ) (n : ℕ) → all is_blank (drop n s) ≡ true → bare (take n s) ≡ bare s
unfolding bare
front_bare s zero e = sym (blanks_none s e)
front_bare [] (suc n) e = refl
front_bare (b ∷ s) (suc n) e = bare_choice b (take n s) s (front_goes s n e) (front_bare s n e)

-- behind the last end of a line there are only blanks
back_blank : (p : ℕ → Bool) (s : List ℕ) (j : ℕ) → j ≤ length s → (i : ℕ) → j - back_run p s j ≤ i → i < j → p (get_or s i 0) ≡ true
back_blank p s zero h i low high = absurd (omega arith)
back_blank p s (suc j) h i low high =
    by_cases _ (p (get_or s j 0))
    (λ (e : p (get_or s j 0) ≡ true).
    by_cases _ (eqb i j)
    (λ (q : eqb i j ≡ true). ap (λ (k : ℕ). p (get_or s k 0)) (eqb-true i j q) ∙ e)
    (λ (q : eqb i j ≡ false).
    let d : i ≡ j → ⊥ = eqb-false i j q in
    let r : back_run p s (suc j) ≡ back_run p s j + 1 = ap (back_run p s) (sym (add-one j)) ∙ back_grows p s j (omega arith) e in
    back_blank p s j (omega arith) i (omega arith) (omega arith)))
    (λ (e : p (get_or s j 0) ≡ false).
    let r : back_run p s (suc j) ≡ 0 = ap (back_run p s) (sym (add-one j)) ∙ back_ends p s j (omega arith) e in
    absurd (omega arith))

all_from : (p : ℕ → Bool) (s : List ℕ) (n : ℕ) → ((i : ℕ) → n ≤ i → i < length s → p (get_or s i 0) ≡ true) → all p (drop n s) ≡ true
all_from p [] zero h = all_nil p
all_from p [] (suc n) h = all_nil p
all_from p (b ∷ s) zero h =
    all_cons p b s
    ∙ both_true _ _ (h 0 (omega arith) (omega arith)) (all_from p s zero (λ (i : ℕ) (l : 0 ≤ i) (m : i < length s). h (suc i) (omega arith) (omega arith)))
all_from p (b ∷ s) (suc n) h = all_from p s n (λ (i : ℕ) (l : n ≤ i) (m : i < length s). h (suc i) (omega arith) (omega arith))

last_blank : (s : List ℕ) (i : ℕ) → last_end s ≤ i → i < length s → is_blank (get_or s i 0) ≡ true
unfolding last_end
last_blank s i low high = back_blank is_blank s (length s) (omega arith) i low high

-- the words of an argument are the words from its start on
from_words : (c : List ℕ) (start : ℕ) → words (argument_from c start) ≡ words (drop start c)
unfolding argument_from
from_words c start =
    words_bare 0 (take (last_end c - start) (drop start c))
    ∙ front_bare (drop start c) (last_end c - start)
    (ap (all is_blank) (drop-drop (last_end c - start) start c) ∙ all_from is_blank c (start + (last_end c - start)) (λ (i : ℕ) (l : start + (last_end c - start) ≤ i) (m : i < length c). last_blank c i (omega arith) m))
    ∙ sym (words_bare 0 (drop start c))

-- and those behind the bracket
pub argument_words : (c : List ℕ) (k start : ℕ) → bracket_of c ≡ Keyword k start → words (argument_text c) ≡ words (drop (name_length c + 2) c)
unfolding argument_at
argument_words c k start e =
    let p : start ≡ argument_at c = (keyword_known k start c e).placed in
    ap (λ (b : Bracket). words (argument_from c (argument_in b))) e ∙ from_words c start ∙ ap (λ (n : ℕ). words (drop n c)) p
    ∙ ap words (sym (drop-drop (run is_blank (drop (name_length c + 2) c)) (name_length c + 2) c))
    ∙ words_bare 0 (drop (run is_blank (drop (name_length c + 2) c)) (drop (name_length c + 2) c)) ∙ past_blanks_lem (drop (name_length c + 2) c) ∙ sym (words_bare 0 (drop (name_length c + 2) c))

-- ---- an argument has no blanks at its ends

-- counted backwards, the byte before the blanks is none
back_filled : (p : ℕ → Bool) (s : List ℕ) (j : ℕ) → j ≤ length s → 1 ≤ j - back_run p s j → p (get_or s (j - back_run p s j - 1) 0) ≡ false
back_filled p s zero h some = absurd (omega arith)
back_filled p s (suc j) h some =
    by_cases _ (p (get_or s j 0))
    (λ (e : p (get_or s j 0) ≡ true).
    let r : back_run p s (suc j) ≡ back_run p s j + 1 = ap (back_run p s) (sym (add-one j)) ∙ back_grows p s j (omega arith) e in
    let n : suc j - back_run p s (suc j) - 1 ≡ j - back_run p s j - 1 = omega arith in
    ap (λ (k : ℕ). p (get_or s k 0)) n ∙ back_filled p s j (omega arith) (omega arith))
    (λ (e : p (get_or s j 0) ≡ false).
    let r : back_run p s (suc j) ≡ 0 = ap (back_run p s) (sym (add-one j)) ∙ back_ends p s j (omega arith) e in
    let n : suc j - back_run p s (suc j) - 1 ≡ j = omega arith in
    ap (λ (k : ℕ). p (get_or s k 0)) n ∙ e)

last_filled : (s : List ℕ) → 1 ≤ last_end s → is_blank (get_or s (last_end s - 1) 0) ≡ false
unfolding last_end
last_filled s some = back_filled is_blank s (length s) (omega arith) some

last_inside : (s : List ℕ) → last_end s ≤ length s
unfolding last_end
last_inside s = omega arith

-- bytes that begin and end with a byte that is not blank
pub record Trimmed (s : List ℕ) : Type 0 where
  pub first : 1 ≤ length s → is_blank (get_or s 0 0) ≡ false
  pub last : 1 ≤ length s → is_blank (get_or s (length s - 1) 0) ≡ false

abbrev pub is_two : List (List ℕ) → Bool
is_two [] = false
is_two (v ∷ []) = false
is_two (v ∷ w ∷ ws) = true

abbrev is_some : List (List ℕ) → Bool
is_some [] = false
is_some (w ∷ ws) = true

grow_some : (b : ℕ) (ws : List (List ℕ)) → is_some (grow b ws) ≡ true
unfolding grow
grow_some b [] = refl
grow_some b (w ∷ ws) = refl

grow_two : (b : ℕ) (ws : List (List ℕ)) → is_two (grow b ws) ≡ is_two ws
unfolding grow
grow_two b [] = refl
grow_two b (w ∷ []) = refl
grow_two b (w ∷ v ∷ ws) = refl

two_some : (w : List ℕ) (ws : List (List ℕ)) → is_two (w ∷ ws) ≡ is_some ws
two_some w [] = refl
two_some w (v ∷ ws) = refl

filled_some : (b : ℕ) (s : List ℕ) → is_blank b ≡ false → is_some (bare (b ∷ s)) ≡ true
filled_some b s e =
    by_cases _ (word_goes_on s) (λ (g : word_goes_on s ≡ true). ap is_some (bare_on b s e g) ∙ grow_some b (bare s))
    (λ (g : word_goes_on s ≡ false). ap is_some (bare_last b s e g))

-- a byte that is not blank is in a word
byte_some : (s : List ℕ) (n : ℕ) → n < length s → is_blank (get_or s n 0) ≡ false → is_some (bare s) ≡ true
byte_some [] n h e = absurd (omega arith)
byte_some (b ∷ s) zero h e = filled_some b s e
byte_some (b ∷ s) (suc n) h e =
    by_cases _ (is_blank b) (λ (f : is_blank b ≡ true). ap is_some (bare_blank b s f) ∙ byte_some s n (omega arith) e) (λ (f : is_blank b ≡ false). filled_some b s f)

one_filled : (b : ℕ) (s : List ℕ) → is_blank b ≡ false → is_blank (get_or (b ∷ s) (length s) 0) ≡ false → is_two (bare (b ∷ s)) ≡ false → all is_filled (b ∷ s) ≡ true
unfolding is_filled
one_filled b [] e l o = all_cons is_filled b [] ∙ both_true _ _ (ap not e) (all_nil is_filled)
one_filled b (c ∷ s) e l o =
    by_cases _ (is_blank c)
    (λ (f : is_blank c ≡ true).
    absurd
    (true≢false
    (sym (ap is_two (bare_last b (c ∷ s) e (goes_blank c s f)) ∙ two_some (b ∷ []) (bare (c ∷ s)) ∙ byte_some (c ∷ s) (length s) (omega arith) l) ∙ o)))
    (λ (f : is_blank c ≡ false).
    all_cons is_filled b (c ∷ s)
    ∙ both_true _ _ (ap not e) (one_filled c s f l (sym (ap is_two (bare_on b (c ∷ s) e (goes_byte c s f)) ∙ grow_two b (bare (c ∷ s))) ∙ o)))

filled_one : (s : List ℕ) → is_two (filled s []) ≡ false
unfolding filled
filled_one [] = refl
filled_one (b ∷ s) = refl

trimmed_filled : (s : List ℕ) → Trimmed s → is_two (bare s) ≡ false → all is_filled s ≡ true
trimmed_filled [] t o = all_nil is_filled
trimmed_filled (b ∷ s) t o =
    let n : suc (length s) - 1 ≡ length s = omega arith in
    one_filled b s (t.first (omega arith)) (ap (λ (k : ℕ). is_blank (get_or (b ∷ s) k 0)) (sym n) ∙ t.last (omega arith)) o

-- trimmed bytes with the words of a single word are that word
pub word_same : (s t : List ℕ) → all is_filled s ≡ true → Trimmed t → words s ≡ words t → s ≡ t
word_same s t e trimmed w =
    one_word_same s t e
    (trimmed_filled t trimmed (ap is_two (sym (words_bare 0 t) ∙ sym w ∙ words_bare 0 s ∙ filled_bare s e) ∙ filled_one s)) w

from_trimmed : (c : List ℕ) (from : ℕ) → Trimmed (argument_from c (from + run is_blank (drop from c)))
unfolding argument_from
from_trimmed c from =
    let start : ℕ = from + run is_blank (drop from c) in
    let end : ℕ = last_end c in
    let most : end ≤ length c = last_inside c in
    let size : length (take (end - start) (drop start c)) ≡ end - start =
    length-take-le (end - start) (drop start c) (rw (length-drop start c) (omega (arith, most))) in
    record {
      first =
          λ (some : 1 ≤ length (take (end - start) (drop start c))).
          let n : start + 0 ≡ start = omega arith in
          ap is_blank (get_or-take (end - start) (drop start c) 0 0 (omega (arith, some, size)) ∙ get_or-drop start c 0 0 ∙ ap (λ (k : ℕ). get_or c k 0) n)
          ∙ run_end_at is_blank c from (omega (arith, some, size, most));
      last =
          λ (some : 1 ≤ length (take (end - start) (drop start c))).
          let n : start + (end - start - 1) ≡ end - 1 = omega (arith, some, size) in
          ap (λ (k : ℕ). is_blank (get_or (take (end - start) (drop start c)) (k - 1) 0)) size
          ∙ ap is_blank (get_or-take (end - start) (drop start c) (end - start - 1) 0 (omega (arith, some, size)) ∙ get_or-drop start c (end - start - 1) 0 ∙ ap (λ (k : ℕ). get_or c k 0) n)
          ∙ last_filled c (omega (arith, some, size));
    }

pub argument_trimmed : (c : List ℕ) (k start : ℕ) → bracket_of c ≡ Keyword k start → Trimmed (argument_text c)
unfolding argument_at
argument_trimmed c k start e =
    let p : start ≡ argument_at c = (keyword_known k start c e).placed in
    subst Trimmed (sym (ap (λ (b : Bracket). argument_from c (argument_in b)) e ∙ ap (argument_from c) p)) (from_trimmed c (name_length c + 2))

-- a line that opens with a bracket: the bytes in it, and those behind it
abbrev pub bracketed : List ℕ → List ℕ → List ℕ
bracketed name x = code "[" ∷ (name ++ (code "]" ∷ x))

module _ (name x : List ℕ) (inside : all is_not_closing name ≡ true) where
  closing_stops : is_not_closing (code "]") ≡ false
  unfolding is_not_closing
  closing_stops = refl

  pub bracket_length : name_length (bracketed name x) ≡ length name
  unfolding name_length
  bracket_length = run_append is_not_closing name (code "]") x inside closing_stops

  past_name : (n : List ℕ) → drop (length n + 1) (n ++ (code "]" ∷ x)) ≡ x
  past_name [] = refl
  past_name (b ∷ n) = let e : length (b ∷ n) + 1 ≡ suc (length n + 1) = omega arith in ap (λ (k : ℕ). drop k (b ∷ (n ++ (code "]" ∷ x)))) e ∙ past_name n

  behind_bracket_lem : drop (name_length (bracketed name x) + 2) (bracketed name x) ≡ x
  behind_bracket_lem =
      let e : name_length (bracketed name x) + 2 ≡ suc (length name + 1) = ap (λ (k : ℕ). k + 2) bracket_length ∙ omega arith in
      ap (λ (k : ℕ). drop k (bracketed name x)) e ∙ past_name name

  pub bracketed_words : (k start : ℕ) → bracket_of (bracketed name x) ≡ Keyword k start → words (argument_text (bracketed name x)) ≡ words x
  bracketed_words k start e = argument_words (bracketed name x) k start e ∙ ap words behind_bracket_lem

-- ---- the bracket stays

-- a blank or the end stands behind the bracket
unfoldable pub is_parted : List ℕ → Bool
is_parted [] = true
is_parted (b ∷ x) = is_blank b

module _ (name x : List ℕ) (inside : all is_not_closing name ≡ true) where
  open_byte : is_open (code "[") ≡ true
  unfolding is_open
  open_byte = refl

  open_filled : is_blank (code "[") ≡ false
  unfolding is_blank either
  open_filled = refl

  first_column : run is_blank (bracketed name x) ≡ 0
  first_column = run_stops is_blank (code "[") _ open_filled

  bracket_name : name_of (bracketed name x) ≡ name
  unfolding name_of
  bracket_name = ap (λ (n : ℕ). take n (name ++ (code "]" ∷ x))) (bracket_length name x inside) ∙ take_front name (code "]" ∷ x)

  bracket_size : length (bracketed name x) ≡ length name + 2 + length x
  bracket_size = let e : length (name ++ (code "]" ∷ x)) ≡ length name + suc (length x) = length-append name (code "]" ∷ x) in omega (arith, e)

  next_byte : (n : List ℕ) → get_or (n ++ (code "]" ∷ x)) (length n + 1) 0 ≡ get_or x 0 0
  next_byte [] = refl
  next_byte (b ∷ n) = let e : length (b ∷ n) + 1 ≡ suc (length n + 1) = omega arith in ap (λ (k : ℕ). get_or (b ∷ (n ++ (code "]" ∷ x))) k 0) e ∙ next_byte n

  bracket_next : get_or (bracketed name x) (length name + 2) 0 ≡ get_or x 0 0
  bracket_next = let e : length name + 2 ≡ suc (length name + 1) = omega arith in ap (λ (k : ℕ). get_or (bracketed name x) k 0) e ∙ next_byte name

  parted_ends : (y : List ℕ) (m n : ℕ) → n ≡ m + length y → is_parted y ≡ true → either (leb n m) (is_blank (get_or y 0 0)) ≡ true
  unfolding is_parted
  parted_ends [] m n e h = either_left _ _ (le-leb n m (omega arith))
  parted_ends (b ∷ y) m n e h = either_right _ _ h

  bracket_closed : is_parted x ≡ true → is_closed (bracketed name x) ≡ true
  unfolding is_closed
  bracket_closed h =
      let n : name_length (bracketed name x) ≡ length name = bracket_length name x inside in
      rw n
      (both_true _ _ (lt-ltb (length name + 1) (length (bracketed name x)) (omega (arith, bracket_size)))
      (rw bracket_next (parted_ends x (length name + 2) (length (bracketed name x)) bracket_size h)))

  -- a good name in the first column, with a blank or the end behind its bracket, is the keyword that it names
  bracket_read :
      (k : ℕ) → is_good_name name ≡ true → is_parted x ≡ true → k ≡ keyword_of name → k < 40 → is_later k ≡ false →
      bracket_of (bracketed name x) ≡ Keyword k (argument_at (bracketed name x))
  unfolding bracket_of is_good_bracket named_as
  bracket_read k good parted named known read =
      if_false _ _ (ap (λ (n : ℕ). not (is_open (get_or (bracketed name x) n 0))) first_column ∙ ap not open_byte)
      ∙ if_false _ _ (ap (ltb 0) first_column)
      ∙ if_false _ _ (ap not (both_true _ _ (bracket_closed parted) (ap is_good_name bracket_name ∙ good)))
      ∙ ap (λ (n : ℕ). named_as n (argument_at (bracketed name x))) (ap keyword_of bracket_name ∙ sym named)
      ∙ if_false _ _ (ne_eqb k unknown (λ (q : k ≡ unknown). omega arith)) ∙ if_false _ _ read

-- other bytes behind a bracket, a blank first or none, leave the keyword
pub bracket_kept :
    (name x y : List ℕ) → all is_not_closing name ≡ true → (k start : ℕ) → bracket_of (bracketed name x) ≡ Keyword k start →
    is_parted y ≡ true → bracket_of (bracketed name y) ≡ Keyword k (argument_at (bracketed name y))
unfolding is_good_bracket
bracket_kept name x y inside k start e parted =
    let known : Known (bracketed name x) k start = keyword_known k start (bracketed name x) e in
    bracket_read name y inside k (ap is_good_name (sym (bracket_name name x inside)) ∙ both_second _ _ known.good) parted
    (known.named ∙ ap keyword_of (bracket_name name x inside)) known.known known.now_read

is_parted_lem : (y : List ℕ) (m n : ℕ) → n ≡ m + length y → either (leb n m) (is_blank (get_or y 0 0)) ≡ true → is_parted y ≡ true
unfolding is_parted
is_parted_lem [] m n q h = refl
is_parted_lem (b ∷ y) m n q h = sym (either_rest _ _ (lt-leb n m (omega arith))) ∙ h

closed_ends : (name x : List ℕ) → all is_not_closing name ≡ true → is_closed (bracketed name x) ≡ true → is_parted x ≡ true
unfolding is_closed
closed_ends name x inside h =
    let n : name_length (bracketed name x) ≡ length name = bracket_length name x inside in
    let c : either (leb (length (bracketed name x)) (length name + 2)) (is_blank (get_or (bracketed name x) (length name + 2) 0)) ≡ true = rw n at (both_second _ _ h) in
    is_parted_lem x (length name + 2) (length (bracketed name x)) (bracket_size name x inside) (rw (bracket_next name x inside) at c)

-- behind a bracket that is read a blank stands, or the end
pub bracket_parted : (name x : List ℕ) → all is_not_closing name ≡ true → (k start : ℕ) → bracket_of (bracketed name x) ≡ Keyword k start → is_parted x ≡ true
unfolding is_good_bracket
bracket_parted name x inside k start e = closed_ends name x inside (both_first _ _ (keyword_known k start (bracketed name x) e).good)

-- ---- the keyword that a bracket names

-- whether the bracket is closed rightly is told by the byte behind it
closed_parted : (name x : List ℕ) → all is_not_closing name ≡ true → is_closed (bracketed name x) ≡ is_parted x
closed_parted name x inside =
    by_cases _ (is_parted x) (λ (e : is_parted x ≡ true). bracket_closed name x inside e ∙ sym e)
    (λ (e : is_parted x ≡ false).
    by_cases _ (is_closed (bracketed name x)) (λ (c : is_closed (bracketed name x) ≡ true). absurd (true≢false (sym (closed_ends name x inside c) ∙ e)))
    (λ (c : is_closed (bracketed name x) ≡ false). c ∙ sym e))

-- the keyword of a line that opens with a bracket
abbrev key_by : Bool → List ℕ → ℕ
key_by parted name = provided not (both parted (is_good_name name)) then unknown else provided eqb (keyword_of name) unknown then unknown else provided is_later (keyword_of name) then unknown else keyword_of name

key_choice : (t : Bool) (x y : Bracket) (m n : ℕ) → key_in x ≡ m → key_in y ≡ n → key_in (provided t then x else y) ≡ (provided t then m else n)
unfolding provided◌then◌else◌
key_choice true x y m n e f = e
key_choice false x y m n e f = f

bracket_key : (name x : List ℕ) → all is_not_closing name ≡ true → key_at (bracketed name x) ≡ key_by (is_parted x) name
unfolding key_at bracket_of is_good_bracket named_as
bracket_key name x inside =
    ap key_in
    (if_false _ _ (ap (λ (n : ℕ). not (is_open (get_or (bracketed name x) n 0))) (first_column name x inside) ∙ ap not (open_byte name x inside))
    ∙ if_false _ _ (ap (ltb 0) (first_column name x inside)))
    ∙ key_choice (not (is_good_bracket (bracketed name x))) Bad (named_as (keyword_of (name_of (bracketed name x))) (argument_at (bracketed name x))) unknown _ refl
    (key_choice (eqb (keyword_of (name_of (bracketed name x))) unknown) Unknown _ unknown _ refl (key_choice (is_later (keyword_of (name_of (bracketed name x)))) Later _ unknown _ refl refl))
    ∙ (λ i.
    provided not (both (closed_parted name x inside i) (is_good_name (bracket_name name x inside i))) then unknown else
    provided eqb (keyword_of (bracket_name name x inside i)) unknown then unknown else
    provided is_later (keyword_of (bracket_name name x inside i)) then unknown else keyword_of (bracket_name name x inside i))

-- it does not depend on what stands behind the byte that follows the bracket
pub bracket_key_same : (name x y : List ℕ) → all is_not_closing name ≡ true → is_parted x ≡ is_parted y → key_at (bracketed name x) ≡ key_at (bracketed name y)
bracket_key_same name x y inside e = bracket_key name x inside ∙ ap (λ (t : Bool). key_by t name) e ∙ sym (bracket_key name y inside)

key_low : (t : Bool) (m n k : ℕ) → m ≤ k → n ≤ k → (provided t then m else n) ≤ k
unfolding provided◌then◌else◌
key_low true m n k h j = h
key_low false m n k h j = j

-- and a line that opens with a bracket in column 1 has a keyword, known or not
pub bracket_keyed : (name x : List ℕ) → all is_not_closing name ≡ true → key_at (bracketed name x) ≡ plain → ⊥
bracket_keyed name x inside e =
    let h : key_by (is_parted x) name ≤ 40 =
    key_low (not (both (is_parted x) (is_good_name name))) unknown _ 40 (omega arith) (key_low (eqb (keyword_of name) unknown) unknown _ 40 (omega arith) (key_low (is_later (keyword_of name)) unknown (keyword_of name) 40 (omega arith) (key_most name))) in
    let z : key_by (is_parted x) name ≡ 41 = sym (bracket_key name x inside) ∙ e in
    omega (arith, h, z)
