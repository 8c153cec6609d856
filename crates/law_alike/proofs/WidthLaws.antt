-- The relation is wide enough, line by line: which two lines say the same, for every kind of line and every place.
-- `SqueezedLaws` tells which lines differ in blanks alone.
-- Assumes nothing.
use mathlib.Core.Path.{◌≡◌, refl, sym, ◌∙◌, ap}
use mathlib.Core.Bool.{true, false, not, true≢false}
use mathlib.Core.List.{List, [], ◌∷◌, ◌++◌}
use Prim.Native.Nat.{ℕ, ◌<◌}
use Prim.Native.Char.{code}
use native.Mathlib.Omega.{arith}
use lib.ListN.{get_or}
use borrow.Author.Tests.{ne_eqb}
use Rattle.base.specs.If.{provided◌then◌else◌, both, either}
use Rattle.base.specs.Bytes.{bytes, is_blank, is_before, is_filled, within, small, is_digit, is_capital, is_small, is_letter}
use Rattle.base.specs.Runs.{run, all, same}
use Rattle.base.proofs.IfLaws.{if_true, by_cases, both_true, either_left, either_right, not_via}
use Rattle.base.proofs.RunLaws.{same_refl}
use Rattle.lex_line.specs.Words.{word_goes_on, grown, words_from, words, first_of, has_equals, left_of}
use Rattle.lex_keyword.specs.Names.{begin_header, folded, same_name, name_index, keyword_of, is_later}
use Rattle.lex_keyword.specs.Bracket.{bracket_of, is_open, is_not_closing, is_separator, is_plain_byte, push, parted, is_hyphen_word, is_good_word, are_good_words, is_good_name, name_length, name_of, is_closed, is_good_bracket, argument_at, named_as}
use Rattle.lex_keyword.specs.declared.Bracket.TheVariants.{Keyword}
use Rattle.lex_keyword.proofs.AnswerLaws.{keyword_known}
use Rattle.line_place.specs.Place as place
use Rattle.line_argument.specs.Argument.{is_bad_argument}
use Rattle.doc.specs.Lines.{plain, key_in, key_at}
use Rattle.law_alike.specs.Alike.{takes_equals, takes_text, argument_text, is_unread, SameSaying, same_words, same_sides, same_argument, same_text, same_unread}
use Rattle.law_alike.specs.Way.Squeezed.{squeezed}
use Rattle.law_alike.proofs.SidesLaws.{is_other, has_sign, before_sign, filled, cut_left, blank_is_other, left_on, left_sign, left_by_words}
use Rattle.law_alike.proofs.LineLaws.{some_bytes}
use Rattle.law_alike.proofs.WideLaws.{sides_of}
use Rattle.law_alike.proofs.SqueezedLaws.{squeezed_words, same_squeezed, squeezed_first, squeezed_all, first_kept}
use Rattle.law_alike.proofs.ArgumentLaws.{is_two, word_same, argument_filled, argument_trimmed, bracketed, bracketed_words}

-- ---- lines that are not read

unread_above : (c : List ℕ) → (key_at c ≡ begin_header → ⊥) → is_unread place.before c ≡ true
unfolding is_unread either both
unread_above c n = ap not (ne_eqb _ _ n)

-- "Lines before [Begin Header] .. are read only for 2, 3, 4"
pub above_header : (a b : List ℕ) → (key_at a ≡ begin_header → ⊥) → (key_at b ≡ begin_header → ⊥) → SameSaying place.before a b
above_header a b e f = same_unread (unread_above a e) (unread_above b f)

-- "Lines .. after [End] are read only for 2, 3, 4"
pub below_end : (a b : List ℕ) → SameSaying place.done a b
unfolding is_unread either
below_end a b = same_unread refl refl

-- by computation: a blank more behind a bracket that no keyword of 000 stands in, and [End] against words
pub record Unread : Type 0 where
  pub other_bracket : SameSaying place.before (bytes "[Foo]  x") (bytes "[Foo] x")
  pub later_keyword : SameSaying place.before (bytes "[Frequency]") (bytes "free text")
  pub ended : SameSaying place.done (bytes "[Begin Header] x") (bytes "free text")

pub unread : Unread
unfolding is_unread key_at bracket_of is_open is_not_closing is_separator is_plain_byte push parted is_hyphen_word is_good_word are_good_words is_good_name name_length name_of is_closed is_good_bracket argument_at named_as folded same_name name_index keyword_of is_later run all same provided◌then◌else◌ both either is_blank within small is_digit is_capital is_small is_letter
unread =
    record {
      other_bracket = same_unread refl refl;
      later_keyword = same_unread refl refl;
      ended = same_unread refl refl;
    }

-- ---- lines without a keyword

-- a line whose first byte that is not blank is no `[` has no keyword
pub no_bracket : (c : List ℕ) → is_open (get_or (squeezed c) 0 0) ≡ false → key_at c ≡ plain
unfolding key_at bracket_of
no_bracket c e = ap key_in (if_true _ _ (not_via (ap is_open (squeezed_first c) ∙ e)))

-- in every place: only the blanks between the words, in front and at the end differ
pub plain_lines : (p : ℕ) (a b : List ℕ) → key_at a ≡ plain → key_at b ≡ plain → squeezed a ≡ squeezed b → SameSaying p a b
plain_lines p a b e f s = same_words e f (same_squeezed a b s)

-- the same for a line that opens no bracket: that it has no keyword need not be said
pub unbracketed_lines : (p : ℕ) (a b : List ℕ) → is_open (get_or (squeezed a) 0 0) ≡ false → squeezed a ≡ squeezed b → SameSaying p a b
unbracketed_lines p a b o s = plain_lines p a b (no_bracket a o) (no_bracket b (ap (λ (c : List ℕ). is_open (get_or c 0 0)) (sym s) ∙ o)) s

-- ---- "Blanks are .. optional about `=`"

-- the line that has these bytes before the sign and behind it
abbrev pub signed : List ℕ → List ℕ → List ℕ
signed x y = x ++ (code "=" ∷ y)

-- in a form that has a `=`, blanks on either side of it may differ
pub sides_lines :
    (p : ℕ) (x y u v : List ℕ) → all is_other x ≡ true → all is_other u ≡ true → squeezed x ≡ squeezed u → squeezed y ≡ squeezed v →
    key_at (signed x y) ≡ plain → key_at (signed u v) ≡ plain → takes_equals p (signed x y) ≡ true → takes_equals p (signed u v) ≡ true →
    SameSaying p (signed x y) (signed u v)
sides_lines p x y u v o q left right k l f g =
    same_sides k l f g ((sides_of x y o).0 ∙ same_squeezed x u left ∙ sym (sides_of u v q).0) ((sides_of x y o).1 ∙ same_squeezed y v right ∙ sym (sides_of u v q).1)

-- the form is told by what stands before the sign
record Form (p : ℕ) (name : List ℕ) : Type 0 where
  others : all is_other name ≡ true
  opens : is_open (get_or name 0 0) ≡ false
  some : name ≡ [] → ⊥
  takes : (a : List ℕ) → has_equals a ≡ true → left_of a ≡ words name → takes_equals p a ≡ true

module _ (p : ℕ) (name : List ℕ) (f : Form p name) where
  module _ (x y : List ℕ) (e : squeezed x ≡ name) where
    form_others : all is_other x ≡ true
    form_others = sym (squeezed_all is_other blank_is_other x) ∙ ap (all is_other) e ∙ f.others

    form_plain : key_at (signed x y) ≡ plain
    form_plain =
        no_bracket (signed x y)
        (ap is_open (first_kept x (code "=" ∷ y) (λ (h : squeezed x ≡ []). f.some (sym e ∙ h)) ∙ ap (λ (c : List ℕ). get_or c 0 0) e) ∙ f.opens)

    form_takes : takes_equals p (signed x y) ≡ true
    form_takes = f.takes (signed x y) (sides_of x y form_others).2 ((sides_of x y form_others).0 ∙ sym (squeezed_words x) ∙ ap words e)

  form_lines : (x y u v : List ℕ) → squeezed x ≡ name → squeezed u ≡ name → squeezed y ≡ squeezed v → SameSaying p (signed x y) (signed u v)
  form_lines x y u v e g right =
      sides_lines p x y u v (form_others x y e) (form_others u v g) (e ∙ sym g) right (form_plain x y e) (form_plain u v g) (form_takes x y e) (form_takes u v g)

-- the first word of a line, if two words stand before its sign
one_side : (w : List ℕ) → is_two (filled w []) ≡ false
unfolding filled
one_side [] = refl
one_side (b ∷ w) = refl

two_left : (ws : List (List ℕ)) (v w : List ℕ) (vs : List (List ℕ)) → cut_left ws ≡ v ∷ w ∷ vs → first_of ws ≡ v
unfolding cut_left
two_left [] v w vs e = ap first_of e
two_left (u ∷ ws) v w vs e =
    by_cases _ (has_sign u)
    (λ (h : has_sign u ≡ true). absurd (true≢false (sym (ap is_two e) ∙ ap is_two (left_sign u ws h) ∙ one_side (before_sign u))))
    (λ (h : has_sign u ≡ false). ap first_of (sym (left_on u ws h) ∙ e))

-- the words before the sign of each form
impedance_word : first_of (words (bytes "Ref_impedance")) ≡ bytes "Ref_impedance"
unfolding words_from grown word_goes_on is_filled is_blank either provided◌then◌else◌
impedance_word = refl

rows_word : first_of (words (bytes "Num_of_rows")) ≡ bytes "Num_of_rows"
unfolding words_from grown word_goes_on is_filled is_blank either provided◌then◌else◌
rows_word = refl

columns_word : first_of (words (bytes "Num_of_columns")) ≡ bytes "Num_of_columns"
unfolding words_from grown word_goes_on is_filled is_blank either provided◌then◌else◌
columns_word = refl

mult_words : words (bytes "Section Mult") ≡ bytes "Section" ∷ bytes "Mult" ∷ []
unfolding words_from grown word_goes_on is_filled is_blank either provided◌then◌else◌
mult_words = refl

len_words : words (bytes "Section Len") ≡ bytes "Section" ∷ bytes "Len" ∷ []
unfolding words_from grown word_goes_on is_filled is_blank either provided◌then◌else◌
len_words = refl

is_word_lem : (w v : List ℕ) → w ≡ v → same w v ≡ true
is_word_lem w v e = ap (λ (x : List ℕ). same x v) e ∙ same_refl v

module _ (a : List ℕ) (signs : has_equals a ≡ true) where
  takes_impedance : left_of a ≡ words (bytes "Ref_impedance") → takes_equals place.head a ≡ true
  unfolding takes_equals
  takes_impedance e = both_true _ _ signs (either_left _ _ (both_true _ _ refl (is_word_lem _ _ (ap first_of e ∙ impedance_word))))

  takes_section : (name : List ℕ) → left_of a ≡ bytes "Section" ∷ name ∷ [] → takes_equals place.path a ≡ true
  unfolding takes_equals
  takes_section name e =
      both_true _ _ signs (either_right _ _ (either_left _ _ (both_true _ _ refl (is_word_lem _ _ (two_left (words a) (bytes "Section") name [] (sym (left_by_words a) ∙ e))))))

  takes_columns : left_of a ≡ words (bytes "Num_of_columns") → takes_equals place.map_head a ≡ true
  unfolding takes_equals
  takes_columns e = both_true _ _ signs (either_right _ _ (either_right _ _ (both_true _ _ refl (either_left _ _ (is_word_lem _ _ (ap first_of e ∙ columns_word))))))

  takes_rows : left_of a ≡ words (bytes "Num_of_rows") → takes_equals place.map_head a ≡ true
  unfolding takes_equals
  takes_rows e = both_true _ _ signs (either_right _ _ (either_right _ _ (both_true _ _ refl (either_right _ _ (is_word_lem _ _ (ap first_of e ∙ rows_word))))))

mult_form : Form place.path (bytes "Section Mult")
unfolding all is_before is_open both
mult_form =
    record {
      others = refl;
      opens = refl;
      some = some_bytes;
      takes = λ (a : List ℕ) (h : has_equals a ≡ true) (e : left_of a ≡ words (bytes "Section Mult")). takes_section a h (bytes "Mult") (e ∙ mult_words);
    }

len_form : Form place.path (bytes "Section Len")
unfolding all is_before is_open both
len_form =
    record {
      others = refl;
      opens = refl;
      some = some_bytes;
      takes = λ (a : List ℕ) (h : has_equals a ≡ true) (e : left_of a ≡ words (bytes "Section Len")). takes_section a h (bytes "Len") (e ∙ len_words);
    }

rows_form : Form place.map_head (bytes "Num_of_rows")
unfolding all is_before is_open both
rows_form = record { others = refl; opens = refl; some = some_bytes; takes = takes_rows }

columns_form : Form place.map_head (bytes "Num_of_columns")
unfolding all is_before is_open both
columns_form = record { others = refl; opens = refl; some = some_bytes; takes = takes_columns }

impedance_form : Form place.head (bytes "Ref_impedance")
unfolding all is_before is_open both
impedance_form = record { others = refl; opens = refl; some = some_bytes; takes = takes_impedance }

-- `Ref_impedance=` in a model's head
pub impedance_lines :
    (x y u v : List ℕ) → squeezed x ≡ bytes "Ref_impedance" → squeezed u ≡ bytes "Ref_impedance" → squeezed y ≡ squeezed v →
    SameSaying place.head (signed x y) (signed u v)
impedance_lines = form_lines place.head (bytes "Ref_impedance") impedance_form

-- `Section Mult=` and `Section Len=` in a path
pub mult_lines :
    (x y u v : List ℕ) → squeezed x ≡ bytes "Section Mult" → squeezed u ≡ bytes "Section Mult" → squeezed y ≡ squeezed v →
    SameSaying place.path (signed x y) (signed u v)
mult_lines = form_lines place.path (bytes "Section Mult") mult_form

pub len_lines :
    (x y u v : List ℕ) → squeezed x ≡ bytes "Section Len" → squeezed u ≡ bytes "Section Len" → squeezed y ≡ squeezed v →
    SameSaying place.path (signed x y) (signed u v)
len_lines = form_lines place.path (bytes "Section Len") len_form

-- `Num_of_rows =` and `Num_of_columns =` in a map's head
pub rows_lines :
    (x y u v : List ℕ) → squeezed x ≡ bytes "Num_of_rows" → squeezed u ≡ bytes "Num_of_rows" → squeezed y ≡ squeezed v →
    SameSaying place.map_head (signed x y) (signed u v)
rows_lines = form_lines place.map_head (bytes "Num_of_rows") rows_form

pub columns_lines :
    (x y u v : List ℕ) → squeezed x ≡ bytes "Num_of_columns" → squeezed u ≡ bytes "Num_of_columns" → squeezed y ≡ squeezed v →
    SameSaying place.map_head (signed x y) (signed u v)
columns_lines = form_lines place.map_head (bytes "Num_of_columns") columns_form

-- ---- keyword lines

module _ (p : ℕ) (a b : List ℕ) (k start other : ℕ) (e : bracket_of a ≡ Keyword k start) (f : bracket_of b ≡ Keyword k other) where
  keyword_is : (c : List ℕ) (n : ℕ) → bracket_of c ≡ Keyword k n → key_at c ≡ k
  unfolding key_at
  keyword_is c n h = ap key_in h

  not_plain : key_at a ≡ plain → ⊥
  not_plain q =
      let h : k < 40 = (keyword_known k start a e).known in
      let z : k ≡ 41 = sym (keyword_is a start e) ∙ q in
      omega arith

  same_keyword : key_at a ≡ key_at b
  same_keyword = keyword_is a start e ∙ sym (keyword_is b other f)

  -- in every place and for every keyword that the reading takes: lines of one keyword whose arguments have the same
  -- words, and one of which does not break 11
  pub keyword_lines : is_bad_argument k (argument_text a) ≡ false → words (argument_text a) ≡ words (argument_text b) → SameSaying p a b
  keyword_lines good w =
      let known : k < 40 = (keyword_known k start a e).known in
      let read : is_later k ≡ false = (keyword_known k start a e).now_read in
      by_cases _ (takes_text k)
      (λ (t : takes_text k ≡ true). same_text not_plain same_keyword (ap takes_text (keyword_is a start e) ∙ t) w)
      (λ (t : takes_text k ≡ false).
      same_argument not_plain same_keyword
      (word_same (argument_text a) (argument_text b) (argument_filled k known read t (argument_text a) good) (argument_trimmed b k other f) w))

-- only the blanks behind the bracket, in the argument and at the end differ; the two may write the keyword in two ways
pub keyword_blanks :
    (p : ℕ) (name other x y : List ℕ) → all is_not_closing name ≡ true → all is_not_closing other ≡ true →
    (k start there : ℕ) → bracket_of (bracketed name x) ≡ Keyword k start → bracket_of (bracketed other y) ≡ Keyword k there →
    is_bad_argument k (argument_text (bracketed name x)) ≡ false → squeezed x ≡ squeezed y →
    SameSaying p (bracketed name x) (bracketed other y)
keyword_blanks p name other x y inside also k start there e f good s =
    keyword_lines p (bracketed name x) (bracketed other y) k start there e f good
    (bracketed_words name x inside k start e ∙ same_squeezed x y s ∙ sym (bracketed_words other y also k there f))
