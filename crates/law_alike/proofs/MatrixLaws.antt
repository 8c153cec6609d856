-- The matrices and sections of alike lines: the same kinds, conductors and numbers at every row and column.
-- Assumes nothing.
use Rattle.std.proofs.Common.{unwrap_or}
use mathlib.Core.Path.{◌≡◌, refl, sym, ◌∙◌, ap, subst}
use mathlib.Core.Bool.{Bool, true, false, not, true≢false}
use mathlib.Core.List.{List, [], ◌∷◌, ◌++◌}
use Prim.Native.Nat.{ℕ, ◌+◌, ◌-◌, max}
use native.Mathlib.Omega.{arith}
use lib.ListN.{length}
use lib.Dec.{eqb}
use borrow.Author.Tests.{eq-eqb, ne_eqb, eqb-true, eqb-false}
use Rattle.table_record.specs.declared.Value.{Value}
use Rattle.table_layout.specs.Codes.{diagonal, sparse}
use Rattle.base.specs.If.{provided◌then◌else◌, both, either}
use Rattle.base.proofs.IfLaws.{if_true, if_false, by_test, by_cases, both_first, both_second, both_not_left, both_not_right, either_right, either_false}
use Rattle.lex_line.specs.Words.{words, first_of, second_of}
use Rattle.lex_number.specs.Number.{number_of, word_in}
use Rattle.lex_number.specs.Integer.{whole_of}
use Rattle.lex_number.specs.ValueWord.{zero_word}
use Rattle.lex_keyword.specs.Names.{row, bandwidth, derivation_method, resistance_matrix, inductance_matrix, conductance_matrix, capacitance_matrix, begin_icm_section}
use Rattle.line_place.specs.Place.{opens_matrix, is_row_or_bandwidth, opens_header_text}
use Rattle.line_place.specs.Place as place
use Rattle.line_argument.specs.Argument.{form_of, method_of}
use Rattle.line_keyword.specs.declared.Counts.{Counts}
use Rattle.read_line.specs.Reading.{reading_of}
use Rattle.read_line.specs.declared.Reading.TheVariants.{Read}
use Rattle.doc.specs.Lines.{Line, plain, key_of, argument_of, gather, up_to}
use Rattle.doc.specs.Document.{Matrix, Section, opens_matrix_at, in_matrix, given_by, numbers_at, sparse_at, values_from, named_by, greatest_in, conductors_in, matrix_of, matrix_at, opens_section, in_section, method_in, section_of, section_at, kind_of, document_in, document_of}
use Rattle.doc.specs.Holds.{Each}
use Rattle.doc.specs.Holds.Each.{none as Each_none, more as each_more}
use Rattle.doc.proofs.GatherLaws.{gather_none, up_in, up_none, up_out}
use Rattle.law_alike.specs.Written.{is_plain, row_lines, numbers_of, word_of, sparse_word, written_at}
use Rattle.law_alike.specs.Alike.{takes_text, SameLine, form_at, SameNumbers, AlikeLines, Alike}
use Rattle.law_alike.specs.Alike.AlikeLines.{none, line, matrix}
use Rattle.law_alike.specs.Way.Same.{All2, SameMatrix, SameSection, SameDocument}
use Rattle.law_alike.specs.Way.Same.All2.{none as all2_none, more as all2_more}
use Rattle.law_alike.proofs.LineLaws.{Reads, inner_reads, plain_same, words_same}
use Rattle.law_alike.proofs.GatherLaws.{all2_append, keys_same, tests_same, up_block, is_deep, opening_deep, body_place, body_key, body_deep, block_inside, up_inside, other_opens, section_alike}
use Rattle.law_alike.proofs.FamilyLaws.{all2_choice, named_same, deep_place, listed_alike, models_alike, maps_alike}
use Rattle.law_alike.proofs.WrittenLaws.{Found, EachOpening, text_openings}
use Rattle.law_alike.proofs.WrittenLaws.EachOpening.{none as opening_none, more as opening_more}
use Rattle.doc.proofs.SpanLaws.{opening_key}

-- ---- lines of a matrix that say the same

-- two lines of a matrix that are read alike
pub record SameBody (l m : Line) : Type 0 where
  pub key : key_of l ≡ key_of m
  pub said : key_of l ≡ plain → words l.content ≡ words m.content
  pub given : key_of l ≡ row → given_by l ≡ given_by m

module _ (l m : Line) (s : SameLine l m) (h : in_matrix l ≡ true) where
  body_reads : Reads l.place
  body_reads = inner_reads (λ (p : ℕ). eqb p place.matrix) refl refl l.place (eq-eqb _ _ (body_place l h))

  body_words : key_of l ≡ plain → words l.content ≡ words m.content
  unfolding key_of
  body_words e =
      let p : l.place ≡ place.matrix = body_place l h in
      words_same l.place l.content m.content (plain_same l.content m.content s.saying body_reads e)
      (λ (q : l.place ≡ place.head). omega arith) (λ (q : l.place ≡ place.path). omega arith) (λ (q : l.place ≡ place.map_head). omega arith)

  body_given : key_of l ≡ row → given_by l ≡ given_by m
  unfolding given_by takes_text opens_header_text either
  body_given e = ap (λ (w : List ℕ). unwrap_or (whole_of w) 0) (named_same l m s body_reads row e (λ (q : row ≡ plain). omega arith) refl)

  pub same_body : SameBody l m
  same_body = record { key = keys_same l m s body_reads; said = body_words; given = body_given }

-- ---- what they write

module _ (form : ℕ) where
  -- the numbers of one line, and those of the lines after it
  unfoldable plain_values : ℕ → ℕ → List (List ℕ) → (ℕ → ℕ → List Value) → List Value
  plain_values r c ws rest =
      provided eqb form sparse then sparse_at r ws ∷ rest r c else
      numbers_at form r c ws ++ rest (provided eqb form diagonal then r + length ws else r) (c + length ws)

  rest_same : (r c : ℕ) (ws : List (List ℕ)) (f g : ℕ → ℕ → List Value) → ((i j : ℕ) → f i j ≡ g i j) → plain_values r c ws f ≡ plain_values r c ws g
  unfolding plain_values
  rest_same r c ws f g e =
      by_cases _ (eqb form sparse)
      (λ (h : eqb form sparse ≡ true). if_true _ _ h ∙ ap (λ (vs : List Value). sparse_at r ws ∷ vs) (e r c) ∙ sym (if_true _ _ h))
      (λ (h : eqb form sparse ≡ false). if_false _ _ h ∙ ap (λ (vs : List Value). numbers_at form r c ws ++ vs) (e (provided eqb form diagonal then r + length ws else r) (c + length ws)) ∙ sym (if_false _ _ h))

  module _ (r c : ℕ) (l : Line) (ls : List Line) where
    values_row : key_of l ≡ row → values_from form r c (l ∷ ls) ≡ values_from form (given_by l) (given_by l) ls
    unfolding values_from
    values_row e = if_true _ _ (eq-eqb _ _ e)

    values_plain : key_of l ≡ plain → values_from form r c (l ∷ ls) ≡ plain_values r c (words l.content) (λ (i j : ℕ). values_from form i j ls)
    unfolding values_from plain_values
    values_plain e = if_false _ _ (ap (λ (k : ℕ). eqb k row) e) ∙ if_false _ _ (ap (λ (k : ℕ). not (eqb k plain)) e)

    values_other : (key_of l ≡ row → ⊥) → (key_of l ≡ plain → ⊥) → values_from form r c (l ∷ ls) ≡ values_from form r c ls
    unfolding values_from
    values_other e f = if_false _ _ (ne_eqb _ _ e) ∙ if_true _ _ (ap not (ne_eqb _ _ f))

  -- the cases of a line by its keyword
  by_key : (P : Type 0) (l : Line) → (key_of l ≡ row → P) → (key_of l ≡ plain → P) → ((key_of l ≡ row → ⊥) → (key_of l ≡ plain → ⊥) → P) → P
  by_key P l f g h =
      by_cases P (eqb (key_of l) row) (λ (e : eqb (key_of l) row ≡ true). f (eqb-true _ _ e))
      (λ (e : eqb (key_of l) row ≡ false).
      by_cases P (eqb (key_of l) plain) (λ (k : eqb (key_of l) plain ≡ true). g (eqb-true _ _ k)) (λ (k : eqb (key_of l) plain ≡ false). h (eqb-false _ _ e) (eqb-false _ _ k)))

  values_same : (r c : ℕ) {bs cs : List Line} → All2 SameBody bs cs → values_from form r c bs ≡ values_from form r c cs
  values_same r c all2_none = refl
  values_same r c (all2_more {x = l} {y = m} {xs = bs} {ys = cs} s a) =
      by_key _ l
      (λ (e : key_of l ≡ row). values_row r c l bs e ∙ ap (λ (n : ℕ). values_from form n n bs) (s.given e) ∙ values_same (given_by m) (given_by m) a ∙ sym (values_row r c m cs (sym s.key ∙ e)))
      (λ (e : key_of l ≡ plain).
      values_plain r c l bs e ∙ ap (λ (ws : List (List ℕ)). plain_values r c ws (λ (i j : ℕ). values_from form i j bs)) (s.said e)
      ∙ rest_same r c (words m.content) (λ (i j : ℕ). values_from form i j bs) (λ (i j : ℕ). values_from form i j cs) (λ (i j : ℕ). values_same i j a) ∙ sym (values_plain r c m cs (sym s.key ∙ e)))
      (λ (e : key_of l ≡ row → ⊥) (f : key_of l ≡ plain → ⊥).
      values_other r c l bs e f ∙ values_same r c a ∙ sym (values_other r c m cs (λ (q : key_of m ≡ row). e (s.key ∙ q)) (λ (q : key_of m ≡ plain). f (s.key ∙ q))))

  named_by_same : (l m : Line) → SameBody l m → named_by form l ≡ named_by form m
  unfolding named_by
  named_by_same l m s =
      by_key _ l
      (λ (e : key_of l ≡ row). if_true _ _ (eq-eqb _ _ e) ∙ s.given e ∙ sym (if_true _ _ (eq-eqb _ _ (sym s.key ∙ e))))
      (λ (e : key_of l ≡ plain). ap (λ (ws : List (List ℕ)). name_by (key_of l) (given_by l) ws) (s.said e) ∙ row_less (given_by l) (given_by m) e ∙ ap (λ (k : ℕ). name_by k (given_by m) (words m.content)) s.key)
      (λ (e : key_of l ≡ row → ⊥) (f : key_of l ≡ plain → ⊥). neither l e f ∙ sym (neither m (λ (q : key_of m ≡ row). e (s.key ∙ q)) (λ (q : key_of m ≡ plain). f (s.key ∙ q))))
    where
      name_by : ℕ → ℕ → List (List ℕ) → ℕ
      name_by k given ws = provided eqb k row then given else provided both (eqb form sparse) (eqb k plain) then unwrap_or (whole_of (first_of ws)) 0 else 0

      row_less : (a b : ℕ) → key_of l ≡ plain → name_by (key_of l) a (words m.content) ≡ name_by (key_of l) b (words m.content)
      row_less a b e = if_false _ _ (ap (λ (k : ℕ). eqb k row) e) ∙ sym (if_false _ _ (ap (λ (k : ℕ). eqb k row) e))

      neither : (x : Line) → (key_of x ≡ row → ⊥) → (key_of x ≡ plain → ⊥) → (provided eqb (key_of x) row then given_by x else provided both (eqb form sparse) (eqb (key_of x) plain) then unwrap_or (whole_of (first_of (words x.content))) 0 else 0) ≡ 0
      neither x e f = if_false _ _ (ne_eqb _ _ e) ∙ if_false _ _ (both_not_right _ _ (ne_eqb _ _ f))

  greatest_same : {bs cs : List Line} → All2 SameBody bs cs → greatest_in form bs ≡ greatest_in form cs
  unfolding greatest_in
  greatest_same all2_none = refl
  greatest_same (all2_more {x = l} {y = m} s a) = λ i. max (named_by_same l m s i) (greatest_same a i)

  pub conductors_same : {bs cs : List Line} → All2 SameBody bs cs → conductors_in form bs ≡ conductors_in form cs
  unfolding conductors_in
  conductors_same a = λ i. provided eqb form diagonal then length (values_same 1 1 a i) else greatest_same a i

  -- ---- the numbers by the form

  plains_same : (l m : Line) → SameBody l m → is_plain l ≡ is_plain m
  unfolding is_plain
  plains_same l m s = ap (λ (k : ℕ). eqb k plain) s.key

  plain_up : {bs cs : List Line} → All2 SameBody bs cs → All2 SameBody (up_to is_plain bs) (up_to is_plain cs)
  plain_up all2_none = rw (up_none is_plain) all2_none
  plain_up (all2_more {x = l} {y = m} {xs = bs} {ys = cs} s a) =
      by_cases _ (is_plain l)
      (λ (e : is_plain l ≡ true). rw (up_in is_plain l bs e, up_in is_plain m cs (sym (plains_same l m s) ∙ e)) (all2_more s (plain_up a)))
      (λ (e : is_plain l ≡ false). rw (up_out is_plain l bs e, up_out is_plain m cs (sym (plains_same l m s) ∙ e)) all2_none)

  opens_row : (l m : Line) → SameBody l m → (i : ℕ) → both (eqb (key_of l) row) (eqb (given_by l) i) ≡ both (eqb (key_of m) row) (eqb (given_by m) i)
  opens_row l m s i =
      by_cases _ (eqb (key_of l) row)
      (λ (e : eqb (key_of l) row ≡ true). λ k. both (eqb (s.key k) row) (eqb (s.given (eqb-true _ _ e) k) i))
      (λ (e : eqb (key_of l) row ≡ false). both_not_left _ _ e ∙ sym (both_not_left _ _ (ap (λ (k : ℕ). eqb k row) (sym s.key) ∙ e)))

  rows_same : (i : ℕ) {bs cs : List Line} → All2 SameBody bs cs → All2 SameBody (row_lines i bs) (row_lines i cs)
  unfolding row_lines
  rows_same i all2_none = all2_none
  rows_same i (all2_more {x = l} {y = m} {xs = bs} {ys = cs} s a) =
      all2_choice (both (eqb (key_of l) row) (eqb (given_by l) i)) (both (eqb (key_of m) row) (eqb (given_by m) i)) (opens_row l m s i) _ _ _ _ (λ e. plain_up a) (λ e. rows_same i a)

  said_same : (l m : Line) → SameBody l m → (provided is_plain l then words l.content else []) ≡ (provided is_plain m then words m.content else [])
  unfolding is_plain
  said_same l m s =
      by_cases _ (eqb (key_of l) plain)
      (λ (e : eqb (key_of l) plain ≡ true). if_true _ _ e ∙ s.said (eqb-true _ _ e) ∙ sym (if_true _ _ (ap (λ (k : ℕ). eqb k plain) (sym s.key) ∙ e)))
      (λ (e : eqb (key_of l) plain ≡ false). if_false _ _ e ∙ sym (if_false _ _ (ap (λ (k : ℕ). eqb k plain) (sym s.key) ∙ e)))

  numbers_same : {bs cs : List Line} → All2 SameBody bs cs → numbers_of bs ≡ numbers_of cs
  unfolding numbers_of
  numbers_same all2_none = refl
  numbers_same (all2_more {x = l} {y = m} s a) = λ i. said_same l m s i ++ numbers_same a i

  rows_plain : (i : ℕ) (bs : List Line) → Each (λ (l : Line). is_plain l ≡ true) (row_lines i bs)
  unfolding row_lines
  rows_plain i [] = Each_none
  rows_plain i (l ∷ bs) = by_test (Each (λ (x : Line). is_plain x ≡ true)) (both (eqb (key_of l) row) (eqb (given_by l) i)) _ _ (λ e. up_inside is_plain bs) (λ e. rows_plain i bs)

  is_plain_lem : (l : Line) → is_plain l ≡ true → key_of l ≡ plain
  unfolding is_plain
  is_plain_lem l e = eqb-true _ _ e

  sparse_same : (j : ℕ) {bs cs : List Line} → All2 SameBody bs cs → Each (λ (l : Line). is_plain l ≡ true) bs → sparse_word j bs ≡ sparse_word j cs
  unfolding sparse_word
  sparse_same j all2_none Each_none = refl
  sparse_same j (all2_more {x = l} {y = m} {xs = bs} {ys = cs} s a) (each_more p ps) =
      ap (λ (ws : List (List ℕ)). provided eqb (unwrap_or (whole_of (first_of ws)) 0) j then word_in (number_of (second_of ws)) else sparse_word j bs) (s.said (is_plain_lem l p))
      ∙ ap (λ (n : ℕ). provided eqb (unwrap_or (whole_of (first_of (words m.content))) 0) j then word_in (number_of (second_of (words m.content))) else n) (sparse_same j a ps)

  pub written_same : (i j : ℕ) {bs cs : List Line} → All2 SameBody bs cs → written_at form bs i j ≡ written_at form cs i j
  unfolding written_at
  written_same i j {bs} {cs} a =
      let d : numbers_of bs ≡ numbers_of cs = numbers_same a in
      let p : sparse_word j (row_lines i bs) ≡ sparse_word j (row_lines i cs) = sparse_same j (rows_same i a) (rows_plain i bs) in
      let r : numbers_of (row_lines i bs) ≡ numbers_of (row_lines i cs) = numbers_same (rows_same i a) in
      λ k. provided eqb form diagonal then (provided eqb i j then word_of (i - 1) (d k) else zero_word) else provided eqb form sparse then p k else word_of (j - i) (r k)

-- ---- matrices

gathered : {A : Type 0} (here : Line → List Line → List A) (l : Line) (ls : List Line) → gather here (l ∷ ls) ≡ here l ls ++ gather here ls
unfolding gather
gathered here l ls = refl

-- neither a line without a keyword, nor [Row], nor [Bandwidth] opens a matrix
pub body_keys : (k : ℕ) → either (eqb k plain) (is_row_or_bandwidth k) ≡ true → opens_matrix k ≡ false
unfolding opens_matrix is_row_or_bandwidth either
body_keys k e =
    by_cases _ (eqb k plain) (λ (h : eqb k plain ≡ true). ap opens_matrix (eqb-true k plain h))
    (λ (h : eqb k plain ≡ false).
    by_cases _ (eqb k row) (λ (r : eqb k row ≡ true). ap opens_matrix (eqb-true k row r))
    (λ (r : eqb k row ≡ false).
    by_cases _ (eqb k bandwidth) (λ (b : eqb k bandwidth ≡ true). ap opens_matrix (eqb-true k bandwidth b))
    (λ (b : eqb k bandwidth ≡ false). absurd (true≢false (sym e ∙ either_false _ _ h (either_false _ _ r b))))))

opens_text : (k : ℕ) → opens_matrix k ≡ true → takes_text k ≡ false
unfolding opens_matrix takes_text opens_header_text either
opens_text k e =
    by_cases _ (eqb k resistance_matrix) (λ (h : eqb k resistance_matrix ≡ true). ap takes_text (eqb-true k resistance_matrix h))
    (λ (h : eqb k resistance_matrix ≡ false).
    by_cases _ (eqb k inductance_matrix) (λ (r : eqb k inductance_matrix ≡ true). ap takes_text (eqb-true k inductance_matrix r))
    (λ (r : eqb k inductance_matrix ≡ false).
    by_cases _ (eqb k conductance_matrix) (λ (b : eqb k conductance_matrix ≡ true). ap takes_text (eqb-true k conductance_matrix b))
    (λ (b : eqb k conductance_matrix ≡ false).
    by_cases _ (eqb k capacitance_matrix) (λ (c : eqb k capacitance_matrix ≡ true). ap takes_text (eqb-true k capacitance_matrix c))
    (λ (c : eqb k capacitance_matrix ≡ false). absurd (true≢false (sym e ∙ either_false _ _ h (either_false _ _ r (either_false _ _ b c))))))))

-- a line of a matrix opens none
body_opens : (b : Line) → in_matrix b ≡ true → opens_matrix_at b ≡ false
unfolding opens_matrix_at
body_opens b e = both_not_right _ _ (body_keys (key_of b) (body_key b e))

matrix_body : (bs ls : List Line) → Each (λ (l : Line). in_matrix l ≡ true) bs → gather matrix_at (bs ++ ls) ≡ gather matrix_at ls
unfolding gather matrix_at
matrix_body [] ls Each_none = refl
matrix_body (b ∷ bs) ls (each_more h hs) = ap (λ (xs : List Matrix). xs ++ gather matrix_at (bs ++ ls)) (if_false _ _ (body_opens b h)) ∙ matrix_body bs ls hs

pub opening_out : (l : Line) → opens_matrix_at l ≡ true → in_matrix l ≡ false
opening_out l e = by_cases _ (in_matrix l) (λ (h : in_matrix l ≡ true). absurd (true≢false (sym e ∙ body_opens l h))) (λ (h : in_matrix l ≡ false). h)

pub in_matrix_same : (l m : Line) → SameLine l m → in_matrix l ≡ in_matrix m
unfolding in_matrix
in_matrix_same l m s = tests_same l m s (λ (p : ℕ). eqb p place.matrix) refl refl (λ (k : ℕ). either (eqb k plain) (is_row_or_bandwidth k))

bodies_same : {ls ms : List Line} → AlikeLines ls ms → All2 SameBody (up_to in_matrix ls) (up_to in_matrix ms)
bodies_same none = rw (up_none in_matrix) all2_none
bodies_same (line {l = l} {m = m} {ls = ls} {ms = ms} s a) =
    by_cases _ (in_matrix l)
    (λ (e : in_matrix l ≡ true). rw (up_in in_matrix l ls e, up_in in_matrix m ms (sym (in_matrix_same l m s) ∙ e)) (all2_more (same_body l m s e) (bodies_same a)))
    (λ (e : in_matrix l ≡ false). rw (up_out in_matrix l ls e, up_out in_matrix m ms (sym (in_matrix_same l m s) ∙ e)) all2_none)
bodies_same (matrix {l = l} {m = m} {ls = ls} {ms = ms} bs cs n p q a) =
    rw (up_out in_matrix l (bs ++ ls) (opening_out l n.opens), up_out in_matrix m (cs ++ ms) (opening_out m (other_opens l bs m cs n))) all2_none

-- a place of a section, below its method
abbrev is_below_method : ℕ → Bool
is_below_method p = either (eqb p place.section) (eqb p place.matrix)

method_begun : is_below_method place.before ≡ false
unfolding either
method_begun = refl

method_open : is_below_method place.done ≡ false
unfolding either
method_open = refl

pub opens_alike : (l m : Line) → SameLine l m → opens_matrix_at l ≡ opens_matrix_at m
unfolding opens_matrix_at
opens_alike l m s = tests_same l m s is_below_method method_begun method_open opens_matrix

opening_reads : (l : Line) → opens_matrix_at l ≡ true → Reads l.place
unfolding opens_matrix_at
opening_reads l e = inner_reads is_below_method method_begun method_open l.place (both_first _ _ e)

-- the keyword of a matrix takes a form
matrix_key : (k : ℕ) → opens_matrix k ≡ true → (k ≡ plain → ⊥) × (takes_text k ≡ false)
unfolding opens_matrix takes_text opens_header_text either
matrix_key k e = (λ (q : k ≡ plain). true≢false (sym e ∙ ap opens_matrix q), opens_text k e)

forms_same : (l m : Line) → SameLine l m → opens_matrix_at l ≡ true → form_at l ≡ form_at m
forms_same l m s e = ap form_of (named_same l m s (opening_reads l e) (key_of l) refl (matrix_key (key_of l) (opening_key l e)).0 (matrix_key (key_of l) (opening_key l e)).1)

pub lines_numbers : (l m : Line) (ls ms : List Line) → SameLine l m → AlikeLines ls ms → opens_matrix_at l ≡ true → SameNumbers l (up_to in_matrix ls) m (up_to in_matrix ms)
lines_numbers l m ls ms s a e =
    let f : form_at l ≡ form_at m = forms_same l m s e in
    record {
      opens = e;
      place = s.place;
      kind = keys_same l m s (opening_reads l e);
      conductors = conductors_same (form_at l) (bodies_same a) ∙ ap (λ (k : ℕ). conductors_in k (up_to in_matrix ms)) f;
      numbers = λ i j h k n. written_same (form_at l) i j (bodies_same a) ∙ ap (λ (x : ℕ). written_at x (up_to in_matrix ms) i j) f;
    }

-- two matrices that write the same give the same values
written_alike : (l : Line) (bs : List Line) (m : Line) (cs : List Line) → SameNumbers l bs m cs → Found (form_at l) bs → Found (form_at m) cs → SameMatrix (matrix_of l (form_at l) bs) (matrix_of m (form_at m) cs)
unfolding matrix_of
written_alike l bs m cs n f g =
    record {
      kind = ap kind_of n.kind;
      conductors = n.conductors;
      numbers = λ i j h k most. sym (f i j h k) ∙ n.numbers i j h k most ∙ g i j h k;
    }

matrix_same : (l m : Line) (ls ms : List Line) → SameLine l m → AlikeLines ls ms → (opens_matrix_at l ≡ true → Found (form_at l) (up_to in_matrix ls)) → (opens_matrix_at m ≡ true → Found (form_at m) (up_to in_matrix ms)) → All2 SameMatrix (matrix_at l ls) (matrix_at m ms)
unfolding matrix_at
matrix_same l m ls ms s a f g =
    all2_choice (opens_matrix_at l) (opens_matrix_at m) (opens_alike l m s) _ _ _ _
    (λ (e : opens_matrix_at l ≡ true). all2_more (written_alike l (up_to in_matrix ls) m (up_to in_matrix ms) (lines_numbers l m ls ms s a e) (f e) (g (sym (opens_alike l m s) ∙ e))) all2_none)
    (λ e. all2_none)

module _ (l : Line) (bs ls : List Line) (o : opens_matrix_at l ≡ true) (e : up_to in_matrix (bs ++ ls) ≡ bs) where
  matrix_block : gather matrix_at (l ∷ (bs ++ ls)) ≡ matrix_of l (form_at l) bs ∷ gather matrix_at ls
  unfolding gather matrix_at
  matrix_block = (λ i. (if_true {A = List Matrix} (matrix_of l (form_at l) (e i) ∷ []) [] o i) ++ matrix_body bs ls (block_inside bs ls e) i)

-- what holds at each opening also holds without the first lines
openings_behind : (bs ls : List Line) → EachOpening (bs ++ ls) → EachOpening ls
openings_behind [] ls o = o
openings_behind (b ∷ bs) ls (opening_more f o) = openings_behind bs ls o

pub matrices_alike : {ls ms : List Line} → AlikeLines ls ms → EachOpening ls → EachOpening ms → All2 SameMatrix (gather matrix_at ls) (gather matrix_at ms)
matrices_alike none o p = rw (gather_none matrix_at) all2_none
matrices_alike (line {l = l} {m = m} {ls = ls} {ms = ms} s a) (opening_more f o) (opening_more g p) =
    rw (gathered matrix_at l ls, gathered matrix_at m ms) (all2_append (matrix_same l m ls ms s a f g) (matrices_alike a o p))
matrices_alike (matrix {l = l} {m = m} {ls = ls} {ms = ms} bs cs n p q a) (opening_more f o) (opening_more g r) =
    rw (matrix_block l bs ls n.opens p, matrix_block m cs ms (other_opens l bs m cs n) q)
    (all2_more (written_alike l bs m cs n (subst (Found (form_at l)) p (f n.opens)) (subst (Found (form_at m)) q (g (other_opens l bs m cs n)))) (matrices_alike a (openings_behind bs ls o) (openings_behind cs ms r)))

-- ---- sections

matrix_inside : (l : Line) → in_matrix l ≡ true → in_section l ≡ true
unfolding in_section
matrix_inside l e = either_right _ _ (either_right _ _ (eq-eqb _ _ (body_place l e)))

-- a matrix ends at the same line if the lines are cut at the end of the section
matrix_cut : (ls : List Line) → up_to in_matrix (up_to in_section ls) ≡ up_to in_matrix ls
matrix_cut [] = ap (up_to in_matrix) (up_none in_section)
matrix_cut (l ∷ ls) =
    by_cases _ (in_matrix l)
    (λ (e : in_matrix l ≡ true). ap (up_to in_matrix) (up_in in_section l ls (matrix_inside l e)) ∙ up_in in_matrix l (up_to in_section ls) e ∙ ap (λ (xs : List Line). l ∷ xs) (matrix_cut ls) ∙ sym (up_in in_matrix l ls e))
    (λ (e : in_matrix l ≡ false).
    by_cases _ (in_section l)
    (λ (k : in_section l ≡ true). ap (up_to in_matrix) (up_in in_section l ls k) ∙ up_out in_matrix l (up_to in_section ls) e ∙ sym (up_out in_matrix l ls e))
    (λ (k : in_section l ≡ false). ap (up_to in_matrix) (up_out in_section l ls k) ∙ up_none in_matrix ∙ sym (up_out in_matrix l ls e)))

openings_cut : {ls : List Line} → EachOpening ls → EachOpening (up_to in_section ls)
openings_cut opening_none = rw (up_none in_section) opening_none
openings_cut (opening_more {l = l} {ls = ls} f o) =
    by_cases _ (in_section l)
    (λ (k : in_section l ≡ true). rw (up_in in_section l ls k) (opening_more (λ (e : opens_matrix_at l ≡ true). subst (Found (form_at l)) (sym (matrix_cut ls)) (f e)) (openings_cut o)))
    (λ (k : in_section l ≡ false). rw (up_out in_section l ls k) opening_none)

-- the method is given by the first line that has one; no line of a matrix does
methods_same : (l m : Line) → SameLine l m → Reads l.place → key_of l ≡ derivation_method → method_of (argument_of l).text ≡ method_of (argument_of m).text
unfolding takes_text opens_header_text either
methods_same l m s r e = ap method_of (named_same l m s r derivation_method e (λ (q : derivation_method ≡ plain). omega arith) refl)

method_on : (l : Line) (ls : List Line) → (key_of l ≡ derivation_method → ⊥) → method_in (l ∷ ls) ≡ method_in ls
unfolding method_in
method_on l ls n = if_false _ _ (ne_eqb _ _ n)

method_here : (l : Line) (ls : List Line) → key_of l ≡ derivation_method → method_in (l ∷ ls) ≡ method_of (argument_of l).text
unfolding method_in
method_here l ls e = if_true _ _ (eq-eqb _ _ e)

opening_no_method : (l : Line) → opens_matrix_at l ≡ true → key_of l ≡ derivation_method → ⊥
unfolding opens_matrix either
opening_no_method l o e = true≢false (sym (opening_key l o) ∙ ap opens_matrix e)

body_no_method : (l : Line) → in_matrix l ≡ true → key_of l ≡ derivation_method → ⊥
unfolding is_row_or_bandwidth either
body_no_method l h e = true≢false (sym (body_key l h) ∙ ap (λ (k : ℕ). either (eqb k plain) (is_row_or_bandwidth k)) e)

method_body : (bs ls : List Line) → Each (λ (l : Line). in_matrix l ≡ true) bs → method_in (bs ++ ls) ≡ method_in ls
method_body [] ls Each_none = refl
method_body (b ∷ bs) ls (each_more h hs) = method_on b (bs ++ ls) (body_no_method b h) ∙ method_body bs ls hs

-- a line of a section is read
abbrev is_in_section : ℕ → Bool
is_in_section p = either (eqb p place.section_head) (either (eqb p place.section) (eqb p place.matrix))

section_begun : is_in_section place.before ≡ false
unfolding either
section_begun = refl

section_open : is_in_section place.done ≡ false
unfolding either
section_open = refl

section_reads : (l : Line) → in_section l ≡ true → Reads l.place
unfolding in_section
section_reads l e = inner_reads is_in_section section_begun section_open l.place e

section_stays : (l m : Line) → SameLine l m → in_section l ≡ in_section m
unfolding in_section
section_stays l m s = ap is_in_section s.place

-- in the lines of a section
module _ (l m : Line) (ls ms : List Line) (s : SameLine l m) where
  method_in_lem : in_section l ≡ true → method_in (up_to in_section ls) ≡ method_in (up_to in_section ms) → method_in (up_to in_section (l ∷ ls)) ≡ method_in (up_to in_section (m ∷ ms))
  method_in_lem h later =
      let r : Reads l.place = section_reads l h in
      rw (up_in in_section l ls h, up_in in_section m ms (sym (section_stays l m s) ∙ h))
      (by_cases _ (eqb (key_of l) derivation_method)
      (λ (e : eqb (key_of l) derivation_method ≡ true). method_here l _ (eqb-true _ _ e) ∙ methods_same l m s r (eqb-true _ _ e) ∙ sym (method_here m _ (sym (keys_same l m s r) ∙ eqb-true _ _ e)))
      (λ (e : eqb (key_of l) derivation_method ≡ false). method_on l _ (eqb-false _ _ e) ∙ later ∙ sym (method_on m _ (λ (q : key_of m ≡ derivation_method). eqb-false _ _ e (keys_same l m s r ∙ q)))))

  method_out : in_section l ≡ false → method_in (up_to in_section (l ∷ ls)) ≡ method_in (up_to in_section (m ∷ ms))
  method_out h = rw (up_out in_section l ls h, up_out in_section m ms (sym (section_stays l m s) ∙ h))

method_alike : {ls ms : List Line} → AlikeLines ls ms → method_in (up_to in_section ls) ≡ method_in (up_to in_section ms)
method_alike none = refl
method_alike (line {l = l} {m = m} {ls = ls} {ms = ms} s a) = by_cases _ (in_section l) (λ (h : in_section l ≡ true). method_in_lem l m ls ms s h (method_alike a)) (method_out l m ls ms s)
method_alike (matrix {l = l} {m = m} {ls = ls} {ms = ms} bs cs n p q a) =
    rw (up_block l bs ls n.opens p, up_block m cs ms (other_opens l bs m cs n) q)
    (method_on l _ (opening_no_method l n.opens) ∙ method_body bs _ (block_inside bs ls p) ∙ method_alike a
    ∙ sym (method_on m _ (opening_no_method m (other_opens l bs m cs n)) ∙ method_body cs _ (block_inside cs ms q)))

section_opens_same : (l m : Line) → SameLine l m → opens_section l ≡ opens_section m
unfolding opens_section
section_opens_same l m s = tests_same l m s (λ (p : ℕ). eqb p place.after) refl refl (λ (k : ℕ). eqb k begin_icm_section)

section_opens_key : (l : Line) → opens_section l ≡ true → key_of l ≡ begin_icm_section
unfolding opens_section
section_opens_key l e = eqb-true _ _ (both_second _ _ e)

section_opens_reads : (l : Line) → opens_section l ≡ true → Reads l.place
unfolding opens_section
section_opens_reads l e = inner_reads (λ (p : ℕ). eqb p place.after) refl refl l.place (both_first _ _ e)

one_section_same : (l m : Line) (ls ms : List Line) → SameLine l m → AlikeLines ls ms → EachOpening ls → EachOpening ms → All2 SameSection (section_at l ls) (section_at m ms)
unfolding section_at section_of takes_text opens_header_text either
one_section_same l m ls ms s a o p =
    all2_choice (opens_section l) (opens_section m) (section_opens_same l m s) _ _ _ _
    (λ (e : opens_section l ≡ true).
    let b : AlikeLines (up_to in_section ls) (up_to in_section ms) = section_alike a in
    all2_more
    (record {
      name = named_same l m s (section_opens_reads l e) begin_icm_section (section_opens_key l e) (λ (q : begin_icm_section ≡ plain). omega arith) refl;
      method = method_alike a;
      matrices = matrices_alike b (openings_cut o) (openings_cut p);
    })
    all2_none)
    (λ e. all2_none)

deep_after : (l : Line) → is_deep l ≡ true → opens_section l ≡ false
unfolding opens_section
deep_after l e = both_not_left _ _ (deep_place l e (λ (p : ℕ). eqb p place.after ≡ false) refl refl)

section_body : (bs ls : List Line) → Each (λ (l : Line). in_matrix l ≡ true) bs → gather section_at (bs ++ ls) ≡ gather section_at ls
unfolding gather section_at
section_body [] ls Each_none = refl
section_body (b ∷ bs) ls (each_more h hs) = ap (λ (xs : List Section). xs ++ gather section_at (bs ++ ls)) (if_false _ _ (deep_after b (body_deep b h))) ∙ section_body bs ls hs

section_block : (l : Line) (bs ls : List Line) → opens_matrix_at l ≡ true → up_to in_matrix (bs ++ ls) ≡ bs → gather section_at (l ∷ (bs ++ ls)) ≡ gather section_at ls
unfolding gather section_at
section_block l bs ls o e = ap (λ (xs : List Section). xs ++ gather section_at (bs ++ ls)) (if_false _ _ (deep_after l (opening_deep l o))) ∙ section_body bs ls (block_inside bs ls e)

pub sections_alike : {ls ms : List Line} → AlikeLines ls ms → EachOpening ls → EachOpening ms → All2 SameSection (gather section_at ls) (gather section_at ms)
sections_alike none o p = rw (gather_none section_at) all2_none
sections_alike (line {l = l} {m = m} {ls = ls} {ms = ms} s a) (opening_more f o) (opening_more g p) =
    rw (gathered section_at l ls, gathered section_at m ms) (all2_append (one_section_same l m ls ms s a o p) (sections_alike a o p))
sections_alike (matrix {l = l} {m = m} {ls = ls} {ms = ms} bs cs n p q a) (opening_more f o) (opening_more g r) =
    rw (section_block l bs ls n.opens p, section_block m cs ms (other_opens l bs m cs n) q) (sections_alike a (openings_behind bs ls o) (openings_behind cs ms r))

-- ---- the whole

pub documents_alike : (t u : List ℕ) (c e : Counts) → reading_of t ≡ Read c → reading_of u ≡ Read e → Alike t u → SameDocument (document_of t) (document_of u)
unfolding document_of document_in
documents_alike t u c e h k a =
    record {
      listed = listed_alike a;
      models = models_alike a;
      maps = maps_alike a;
      sections = sections_alike a (text_openings t c h) (text_openings u e k);
    }
