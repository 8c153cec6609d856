-- The relation is wide enough. Each of these changes gives an alike text: comment lines and blank lines added or left
-- out; comments at a line's end; blanks between words, about `=` and at the ends; matrices in other forms.
-- Assumes nothing.
use mathlib.Core.Path.{◌≡◌, refl, sym, ◌∙◌, ap, subst}
use mathlib.Core.Bool.{Bool, true, false, not, true≢false}
use mathlib.Core.List.{List, [], ◌∷◌, ◌++◌, map, map-append}
use Prim.Native.Nat.{ℕ, suc, ◌+◌, ◌<◌}
use Prim.Native.Char.{code}
use native.Mathlib.Omega.{arith}
use lib.ListN.{length, take, drop, length-append}
use lib.Dec.{ltb, eqb}
use borrow.Author.Tests.{eq-eqb, ne_eqb, eqb-true, eqb-false, lt-ltb, not-true}
use Rattle.base.specs.If.{provided◌then◌else◌, both, either}
use Rattle.base.specs.Bytes.{is_blank, line_feed, is_before, is_filled, is_content}
use Rattle.base.specs.Runs.{run, all}
use Rattle.base.proofs.IfLaws.{if_true, if_false, by_test, by_cases, both_first, both_second, either_rest}
use Rattle.lex_line.specs.Lines.{Raw, pushed, lines, content_of, comment_byte, Said, said, contents, is_blank_line}
use Rattle.lex_line.specs.Words.{word_goes_on, words, first_of, to_equals, has_equals, left_of, right_of}
use Rattle.lex_keyword.specs.Names.{begin_header}
use Rattle.line_place.specs.Place.{before, moved, moved_by_line, is_in_model, is_in_family, is_in_header}
use Rattle.line_place.specs.Place as place
use Rattle.doc.specs.Lines.{Line, plain, key_at, place_after, lines_from, lines_at, significant, up_to}
use Rattle.doc.specs.Document.{in_matrix}
use Rattle.doc.specs.Holds.{Each}
use Rattle.doc.specs.Holds.Each.{none as Each_none, more as each_more}
use Rattle.doc.proofs.StandsLaws.{each_append}
use Rattle.doc.proofs.Goes.{lines_blank, lines_said}
use Rattle.law_alike.specs.Alike.{takes_equals, is_unread, SameSaying, same_words, same_sides, same_argument, same_text, same_unread, SameNumbers, AlikeLines, Alike}
use Rattle.law_alike.specs.Alike.AlikeLines.{none, line, matrix}
use Rattle.law_alike.proofs.SidesLaws.{bare, grow, is_other, words_bare, bare_blank}
use Rattle.law_alike.proofs.LineLaws.{other_lists}

-- ---- the place after a line

-- a line says the same as itself
pub same_self : (p : ℕ) (a : List ℕ) → SameSaying p a a
same_self p a =
    by_cases _ (eqb (key_at a) plain)
    (λ (e : eqb (key_at a) plain ≡ true). same_words (eqb-true _ _ e) (eqb-true _ _ e) refl)
    (λ (e : eqb (key_at a) plain ≡ false). same_argument (eqb-false _ _ e) refl refl)

place_plain : (p : ℕ) (a : List ℕ) → key_at a ≡ plain → place_after p a ≡ moved_by_line p (first_of (words a))
unfolding place_after
place_plain p a e = if_true _ _ (eq-eqb _ _ e)

place_key : (p : ℕ) (a : List ℕ) → (key_at a ≡ plain → ⊥) → place_after p a ≡ moved p (key_at a)
unfolding place_after
place_key p a n = if_false _ _ (ne_eqb _ _ n)

-- a line of a form with `=` does not change the place
stays : (p : ℕ) (a : List ℕ) → takes_equals p a ≡ true → moved_by_line p (first_of (words a)) ≡ p
unfolding moved_by_line
stays p a e =
    by_cases _ (eqb p place.map_head)
    (λ (h : eqb p place.map_head ≡ true). if_true _ _ h ∙ if_false _ _ (other_lists p a e (eqb-true _ _ h)) ∙ sym (eqb-true _ _ h))
    (λ (h : eqb p place.map_head ≡ false). if_false _ _ h)

-- nor does a line that is not read
keyword_ended : (k : ℕ) → moved place.done k ≡ place.done
unfolding moved is_in_model is_in_family is_in_header either provided◌then◌else◌
keyword_ended k = refl

keyword_before : (k : ℕ) → eqb k begin_header ≡ false → moved before k ≡ before
unfolding moved is_in_model is_in_family is_in_header either provided◌then◌else◌
keyword_before k e = ap (λ (h : Bool). provided h then place.opened else before) e

either_stays : (p : ℕ) (a : List ℕ) → eqb p place.map_head ≡ false → moved p (key_at a) ≡ p → place_after p a ≡ p
unfolding place_after moved_by_line
either_stays p a n e = by_test (λ (q : ℕ). q ≡ p) (eqb (key_at a) plain) _ _ (λ (k : eqb (key_at a) plain ≡ true). if_false _ _ n) (λ (k : eqb (key_at a) plain ≡ false). e)

stays_unread : (p : ℕ) (a : List ℕ) → is_unread p a ≡ true → place_after p a ≡ p
unfolding is_unread
stays_unread p a e =
    by_cases _ (eqb p place.done)
    (λ (h : eqb p place.done ≡ true). subst (λ (q : ℕ). place_after q a ≡ q) (sym (eqb-true _ _ h)) (either_stays place.done a refl (keyword_ended (key_at a))))
    (λ (h : eqb p place.done ≡ false).
    let w : both (eqb p before) (not (eqb (key_at a) begin_header)) ≡ true = sym (either_rest _ _ h) ∙ e in
    subst (λ (q : ℕ). place_after q a ≡ q) (sym (eqb-true _ _ (both_first _ _ w))) (either_stays before a refl (keyword_before (key_at a) (not-true _ (both_second _ _ w)))))

pub place_same : (p : ℕ) (a b : List ℕ) → SameSaying p a b → place_after p a ≡ place_after p b
place_same p a b (same_words e f w) = place_plain p a e ∙ ap (λ (ws : List (List ℕ)). moved_by_line p (first_of ws)) w ∙ sym (place_plain p b f)
place_same p a b (same_sides e f x y l r) = place_plain p a e ∙ stays p a x ∙ sym (stays p b y) ∙ sym (place_plain p b f)
place_same p a b (same_argument n k t) = place_key p a n ∙ ap (moved p) k ∙ sym (place_key p b (λ (q : key_at b ≡ plain). n (k ∙ q)))
place_same p a b (same_text n k x t) = place_key p a n ∙ ap (moved p) k ∙ sym (place_key p b (λ (q : key_at b ≡ plain). n (k ∙ q)))
place_same p a b (same_unread u v) = stays_unread p a u ∙ sym (stays_unread p b v)

-- ---- lines of two texts, read from the same place

-- the place after some lines that are read from place p
unfoldable pub place_behind : ℕ → List Said → ℕ
place_behind p [] = p
place_behind p (r ∷ rs) = place_behind (provided is_blank_line r.content then p else place_after p r.content) rs

abbrev pub line_as : ℕ → ℕ → ℕ → Said → Line
line_as n at p r = record { line = n; at = at; place = p; content = r.content }

-- the lines bs, read from place p, are all lines of a matrix: the first line of rs is outside
pub record Ends (p : ℕ) (bs rs : List Said) : Type 0 where
  pub stops : (n at m to : ℕ) → up_to in_matrix (lines_from n at p bs ++ lines_from m to (place_behind p bs) rs) ≡ lines_from n at p bs

-- either text may have blank lines, with a comment or without; the other lines say the same
pub data SameContents : ℕ → List Said → List Said → Type 0 where
  ended : {p : ℕ} → SameContents p [] []
  blank : {p : ℕ} {r : Said} {rs qs : List Said} → is_blank_line r.content ≡ true → SameContents p rs qs → SameContents p (r ∷ rs) qs
  other_blank : {p : ℕ} {q : Said} {rs qs : List Said} → is_blank_line q.content ≡ true → SameContents p rs qs → SameContents p rs (q ∷ qs)
  says :
      {p : ℕ} {r q : Said} {rs qs : List Said} → is_blank_line r.content ≡ false → is_blank_line q.content ≡ false →
      SameSaying p r.content q.content → SameContents (place_after p r.content) rs qs → SameContents p (r ∷ rs) (q ∷ qs)
  -- a matrix in another form; bs and cs are all lines of the two matrices, up to the first line outside
  block :
      {p : ℕ} {r q : Said} {rs qs : List Said} (bs cs : List Said) → is_blank_line r.content ≡ false → is_blank_line q.content ≡ false →
      ((n at m to : ℕ) → SameNumbers (line_as n at p r) (lines_from (n + 1) (at + r.size + 1) (place_after p r.content) bs) (line_as m to p q) (lines_from (m + 1) (to + q.size + 1) (place_after p q.content) cs)) →
      Ends (place_after p r.content) bs rs → Ends (place_after p q.content) cs qs →
      place_behind (place_after p r.content) bs ≡ place_behind (place_after p q.content) cs →
      SameContents (place_behind (place_after p r.content) bs) rs qs → SameContents p (r ∷ (bs ++ rs)) (q ∷ (cs ++ qs))

no_lines : (n at p : ℕ) → lines_from n at p [] ≡ []
unfolding lines_from
no_lines n at p = refl

module _ (p : ℕ) (r : Said) (bs : List Said) where
  place_on : is_blank_line r.content ≡ true → place_behind p bs ≡ place_behind p (r ∷ bs)
  unfolding place_behind
  place_on e = ap (λ (k : ℕ). place_behind k bs) (sym (if_true _ _ e))

  place_said : is_blank_line r.content ≡ false → place_behind (place_after p r.content) bs ≡ place_behind p (r ∷ bs)
  unfolding place_behind
  place_said e = ap (λ (k : ℕ). place_behind k bs) (sym (if_false _ _ e))

unfoldable size_of : List Said → ℕ
size_of [] = 0
size_of (r ∷ rs) = r.size + 1 + size_of rs

-- the significant lines of two lists of lines, joined
lines_append : (n at p : ℕ) (bs rs : List Said) → lines_from n at p (bs ++ rs) ≡ lines_from n at p bs ++ lines_from (n + length bs) (at + size_of bs) (place_behind p bs) rs
unfolding place_behind size_of
lines_append n at p [] rs =
    let a : n ≡ n + 0 = omega arith in
    let b : at ≡ at + 0 = omega arith in
    (λ i. lines_from (a i) (b i) p rs) ∙ ap (λ (ls : List Line). ls ++ lines_from (n + 0) (at + 0) p rs) (sym (no_lines n at p))
lines_append n at p (r ∷ bs) rs =
    let a : n + 1 + length bs ≡ n + suc (length bs) = omega arith in
    let b : at + r.size + 1 + size_of bs ≡ at + (r.size + 1 + size_of bs) = omega arith in
    by_cases _ (is_blank_line r.content)
    (λ (e : is_blank_line r.content ≡ true).
    lines_blank n at p r (bs ++ rs) e ∙ lines_append (n + 1) (at + r.size + 1) p bs rs
    ∙ (λ i. sym (lines_blank n at p r bs e) i ++ lines_from (a i) (b i) (place_on p r bs e i) rs))
    (λ (e : is_blank_line r.content ≡ false).
    lines_said n at p r (bs ++ rs) e ∙ ap (λ (ls : List Line). line_as n at p r ∷ ls) (lines_append (n + 1) (at + r.size + 1) (place_after p r.content) bs rs)
    ∙ (λ i. sym (lines_said n at p r bs e) i ++ lines_from (a i) (b i) (place_said p r bs e i) rs))

block_lines : (p : ℕ) (r : Said) (bs rs : List Said) → is_blank_line r.content ≡ false → (n at : ℕ) →
    lines_from n at p (r ∷ (bs ++ rs)) ≡ line_as n at p r ∷ (lines_from (n + 1) (at + r.size + 1) (place_after p r.content) bs ++ lines_from (n + 1 + length bs) (at + r.size + 1 + size_of bs) (place_behind (place_after p r.content) bs) rs)
block_lines p r bs rs e n at = lines_said n at p r (bs ++ rs) e ∙ ap (λ (ls : List Line). line_as n at p r ∷ ls) (lines_append (n + 1) (at + r.size + 1) (place_after p r.content) bs rs)

pub contents_alike : {p : ℕ} {rs qs : List Said} → SameContents p rs qs → (n at m to : ℕ) → AlikeLines (lines_from n at p rs) (lines_from m to p qs)
contents_alike {p} ended n at m to = rw (no_lines n at p, no_lines m to p) none
contents_alike {p} (blank {r = r} {rs = rs} e s) n at m to = rw (lines_blank n at p r rs e) (contents_alike s (n + 1) (at + r.size + 1) m to)
contents_alike {p} (other_blank {q = q} {qs = qs} e s) n at m to = rw (lines_blank m to p q qs e) (contents_alike s n at (m + 1) (to + q.size + 1))
contents_alike {p} (says {r = r} {q = q} {rs = rs} {qs = qs} e f s more_lines) n at m to =
    rw (lines_said n at p r rs e, lines_said m to p q qs f, sym (place_same p r.content q.content s))
    (line (record { place = refl; saying = s }) (contents_alike more_lines (n + 1) (at + r.size + 1) (m + 1) (to + q.size + 1)))
contents_alike {p} (block {r = r} {q = q} {rs = rs} {qs = qs} bs cs e f numbers ends others same more_lines) n at m to =
    rw (block_lines p r bs rs e n at, block_lines p q cs qs f m to)
    (matrix (lines_from (n + 1) (at + r.size + 1) (place_after p r.content) bs) (lines_from (m + 1) (to + q.size + 1) (place_after p q.content) cs) (numbers n at m to) (ends.stops _ _ _ _) (others.stops _ _ _ _)
    (subst (λ (k : ℕ). AlikeLines (lines_from (n + 1 + length bs) (at + r.size + 1 + size_of bs) (place_behind (place_after p r.content) bs) rs) (lines_from (m + 1 + length cs) (to + q.size + 1 + size_of cs) k qs)) same
    (contents_alike more_lines (n + 1 + length bs) (at + r.size + 1 + size_of bs) (m + 1 + length cs) (to + q.size + 1 + size_of cs))))

-- texts whose lines say the same are alike
pub texts_alike : (t u : List ℕ) → SameContents before (contents t) (contents u) → Alike t u
unfolding significant lines_at
texts_alike t u s = contents_alike s 1 0 1 0

-- ---- texts written line by line

-- each line's bytes and an LF
unfoldable pub text_of : List (List ℕ) → List ℕ
text_of [] = []
text_of (c ∷ cs) = c ++ (line_feed ∷ text_of cs)

-- a line holds no LF
pub record Whole (c : List ℕ) : Type 0 where
  pub no_feed : all (is_before line_feed) c ≡ true

abbrev raw_of : List ℕ → Raw
raw_of c = record { bytes = c; ended = true }

push_line : (b : ℕ) (l : Raw) (ls : List Raw) → pushed b (l ∷ ls) ≡ record { bytes = b ∷ l.bytes; ended = l.ended } ∷ ls
unfolding pushed
push_line b l ls = refl

other_byte : (b : ℕ) → is_before line_feed b ≡ true → eqb b line_feed ≡ false
unfolding is_before
other_byte b e = by_cases _ (eqb b line_feed) (λ (h : eqb b line_feed ≡ true). absurd (true≢false (sym e ∙ ap not h))) (λ (h : eqb b line_feed ≡ false). h)

line_first : (c s : List ℕ) → all (is_before line_feed) c ≡ true → lines (c ++ (line_feed ∷ s)) ≡ raw_of c ∷ lines s
unfolding lines all
line_first [] s e = if_true _ _ (eq-eqb line_feed line_feed refl)
line_first (b ∷ c) s e =
    if_false _ _ (other_byte b (both_first _ _ e)) ∙ ap (pushed b) (line_first c s (both_second _ _ e)) ∙ grown_line b c s
  where
    grown_line : (x : ℕ) (y z : List ℕ) → pushed x (raw_of y ∷ lines z) ≡ raw_of (x ∷ y) ∷ lines z
    grown_line x y z = push_line x (raw_of y) (lines z)

-- what a line of these bytes says
abbrev pub said_of : List ℕ → Said
said_of c = record { size = length c; content = content_of comment_byte c }

said_first : (c s : List ℕ) → all (is_before line_feed) c ≡ true → contents (c ++ (line_feed ∷ s)) ≡ said_of c ∷ contents s
unfolding contents said
said_first c s e = ap (map said) (line_first c s e)

pub text_contents : (cs : List (List ℕ)) → Each Whole cs → contents (text_of cs) ≡ map said_of cs
unfolding text_of contents lines
text_contents [] Each_none = refl
text_contents (c ∷ cs) (each_more w ws) = said_first c (text_of cs) w.no_feed ∙ ap (λ (rs : List Said). said_of c ∷ rs) (text_contents cs ws)

-- ---- the same lines, a line more, a line changed

pub contents_self : (p : ℕ) (rs : List Said) → SameContents p rs rs
contents_self p [] = ended
contents_self p (r ∷ rs) =
    by_cases _ (is_blank_line r.content)
    (λ (e : is_blank_line r.content ≡ true). blank e (other_blank e (contents_self p rs)))
    (λ (e : is_blank_line r.content ≡ false). says e e (same_self p r.content) (contents_self (place_after p r.content) rs))

module _ (rs qs : List Said) where
  -- the same lines may be put in front of both
  pub contents_front : (p : ℕ) (xs : List Said) → SameContents (place_behind p xs) rs qs → SameContents p (xs ++ rs) (xs ++ qs)
  unfolding place_behind
  contents_front p [] s = s
  contents_front p (x ∷ xs) s =
      by_cases _ (is_blank_line x.content)
      (λ (e : is_blank_line x.content ≡ true). blank e (other_blank e (contents_front p xs (rw (if_true {A = ℕ} p (place_after p x.content) e) at s))))
      (λ (e : is_blank_line x.content ≡ false). says e e (same_self p x.content) (contents_front (place_after p x.content) xs (rw (if_false {A = ℕ} p (place_after p x.content) e) at s)))

module _ (xs ys : List (List ℕ)) (xs_whole : Each Whole xs) (ys_whole : Each Whole ys) where
  abbrev behind : ℕ
  behind = place_behind before (map said_of xs)

  joined_contents : (zs : List (List ℕ)) → Each Whole zs → contents (text_of (xs ++ zs)) ≡ map said_of xs ++ map said_of zs
  joined_contents zs w = text_contents (xs ++ zs) (each_append xs_whole w) ∙ map-append said_of xs zs

  -- "comments, blank lines": a line whose content is blank, put in anywhere
  pub line_put_in : (c : List ℕ) → Whole c → is_blank_line (content_of comment_byte c) ≡ true → Alike (text_of (xs ++ ys)) (text_of (xs ++ (c ∷ ys)))
  line_put_in c w e =
      texts_alike _ _
      (rw (joined_contents ys ys_whole, joined_contents (c ∷ ys) (each_more w ys_whole))
      (contents_front (map said_of ys) (said_of c ∷ map said_of ys) before (map said_of xs) (other_blank e (contents_self behind (map said_of ys)))))

  -- a line replaced by one that says the same in its place
  pub line_changed :
      (a b : List ℕ) → Whole a → Whole b → is_blank_line (content_of comment_byte a) ≡ false → is_blank_line (content_of comment_byte b) ≡ false →
      SameSaying behind (content_of comment_byte a) (content_of comment_byte b) → Alike (text_of (xs ++ (a ∷ ys))) (text_of (xs ++ (b ∷ ys)))
  line_changed a b v w e f s =
      texts_alike _ _
      (rw (joined_contents (a ∷ ys) (each_more v ys_whole), joined_contents (b ∷ ys) (each_more w ys_whole))
      (contents_front (said_of a ∷ map said_of ys) (said_of b ∷ map said_of ys) before (map said_of xs) (says e f s (contents_self (place_after behind (content_of comment_byte a)) (map said_of ys)))))

-- ---- small laws of lists of bytes

run_whole : (p : ℕ → Bool) (c : List ℕ) → all p c ≡ true → run p c ≡ length c
unfolding run all
run_whole p [] e = refl
run_whole p (b ∷ c) e = if_true _ _ (both_first _ _ e) ∙ ap suc (run_whole p c (both_second _ _ e))

run_stopped : (p : ℕ → Bool) (c x : List ℕ) (b : ℕ) → p b ≡ false → all p c ≡ true → run p (c ++ (b ∷ x)) ≡ length c
unfolding run all
run_stopped p [] x b n e = if_false _ _ n
run_stopped p (d ∷ c) x b n e = if_true _ _ (both_first _ _ e) ∙ ap suc (run_stopped p c x b n (both_second _ _ e))

run_cut : (c x : List ℕ) → all (is_content comment_byte) c ≡ true → run (is_content comment_byte) (c ++ (comment_byte ∷ x)) ≡ length c
unfolding is_content is_before both
run_cut c x e = run_stopped (is_content comment_byte) c x comment_byte refl e

run_sign : (x y : List ℕ) → all is_other x ≡ true → to_equals (x ++ (code "=" ∷ y)) ≡ length x
unfolding is_before
run_sign x y e = run_stopped is_other x y (code "=") refl e

pub take_front : (c x : List ℕ) → take (length c) (c ++ x) ≡ c
take_front [] x = refl
take_front (b ∷ c) x = ap (λ (s : List ℕ). b ∷ s) (take_front c x)

take_whole : (c : List ℕ) → take (length c) c ≡ c
take_whole [] = refl
take_whole (b ∷ c) = ap (λ (s : List ℕ). b ∷ s) (take_whole c)

drop_front : (c : List ℕ) (b : ℕ) (x : List ℕ) → drop (length c + 1) (c ++ (b ∷ x)) ≡ x
drop_front [] b x = refl
drop_front (d ∷ c) b x = let n : suc (length c) + 1 ≡ suc (length c + 1) = omega arith in ap (λ (k : ℕ). drop k (d ∷ (c ++ (b ∷ x)))) n ∙ drop_front c b x

front_shorter : (c x : List ℕ) (b : ℕ) (y : List ℕ) → x ≡ b ∷ y → length c < length (c ++ x)
front_shorter c x b y e = let n : length (c ++ x) ≡ length c + suc (length y) = length-append c x ∙ ap (λ (s : List ℕ). length c + length s) e in omega arith

-- whether a word goes on depends only on the first byte
goes_first : (x y z : List ℕ) (b : ℕ) → word_goes_on (x ++ (b ∷ y)) ≡ word_goes_on (x ++ (b ∷ z))
unfolding word_goes_on
goes_first [] y z b = refl
goes_first (d ∷ x) y z b = refl

pub bare_choice : (d : ℕ) (s t : List ℕ) → word_goes_on s ≡ word_goes_on t → bare s ≡ bare t → bare (d ∷ s) ≡ bare (d ∷ t)
unfolding bare
bare_choice d s t g e = λ i. provided is_blank d then e i else provided g i then grow d (e i) else (d ∷ []) ∷ e i

bare_doubled : (x y : List ℕ) (b c : ℕ) → is_blank b ≡ true → is_blank c ≡ true → bare (x ++ (b ∷ c ∷ y)) ≡ bare (x ++ (b ∷ y))
bare_doubled [] y b c e f = bare_blank b (c ∷ y) e ∙ bare_blank c y f ∙ sym (bare_blank b y e)
bare_doubled (d ∷ x) y b c e f = bare_choice d (x ++ (b ∷ c ∷ y)) (x ++ (b ∷ y)) (goes_first x (c ∷ y) y b) (bare_doubled x y b c e f)

goes_end : (s : List ℕ) (b : ℕ) → is_blank b ≡ true → word_goes_on (s ++ (b ∷ [])) ≡ word_goes_on s
unfolding word_goes_on is_filled
goes_end [] b e = ap not e
goes_end (d ∷ s) b e = refl

bare_end : (s : List ℕ) (b : ℕ) → is_blank b ≡ true → bare (s ++ (b ∷ [])) ≡ bare s
bare_end [] b e = bare_blank b [] e
bare_end (d ∷ s) b e = bare_choice d (s ++ (b ∷ [])) s (goes_end s b e) (bare_end s b e)

-- ---- comments at a line's end

-- "From `|` on, a line is comment"
pub comment_cut : (c x : List ℕ) → all (is_content comment_byte) c ≡ true → content_of comment_byte (c ++ (comment_byte ∷ x)) ≡ content_of comment_byte c
unfolding content_of
comment_cut c x e = ap (λ (n : ℕ). take n (c ++ (comment_byte ∷ x))) (run_cut c x e) ∙ take_front c (comment_byte ∷ x) ∙ sym (ap (λ (n : ℕ). take n c) (run_whole (is_content comment_byte) c e) ∙ take_whole c)

-- ---- blanks

-- a blank next to a blank
pub blank_doubled : (x y : List ℕ) (b c : ℕ) → is_blank b ≡ true → is_blank c ≡ true → words (x ++ (b ∷ c ∷ y)) ≡ words (x ++ (b ∷ y))
blank_doubled x y b c e f = words_bare 0 (x ++ (b ∷ c ∷ y)) ∙ bare_doubled x y b c e f ∙ sym (words_bare 0 (x ++ (b ∷ y)))

-- a blank in front, and at the end
pub blank_front : (b : ℕ) (s : List ℕ) → is_blank b ≡ true → words (b ∷ s) ≡ words s
blank_front b s e = words_bare 0 (b ∷ s) ∙ bare_blank b s e ∙ sym (words_bare 0 s)

pub blank_end : (s : List ℕ) (b : ℕ) → is_blank b ≡ true → words (s ++ (b ∷ [])) ≡ words s
blank_end s b e = words_bare 0 (s ++ (b ∷ [])) ∙ bare_end s b e ∙ sym (words_bare 0 s)

-- the two sides of `=` are the words before it and after it
pub sides_of : (x y : List ℕ) → all is_other x ≡ true → (left_of (x ++ (code "=" ∷ y)) ≡ words x) × (right_of (x ++ (code "=" ∷ y)) ≡ words y) × (has_equals (x ++ (code "=" ∷ y)) ≡ true)
unfolding left_of right_of has_equals
sides_of x y e =
    let n : to_equals (x ++ (code "=" ∷ y)) ≡ length x = run_sign x y e in (
      ap (λ (k : ℕ). words (take k (x ++ (code "=" ∷ y)))) n ∙ ap words (take_front x (code "=" ∷ y)),
      ap (λ (k : ℕ). words (drop (k + 1) (x ++ (code "=" ∷ y)))) n ∙ ap words (drop_front x (code "=") y),
      ap (λ (k : ℕ). ltb k (length (x ++ (code "=" ∷ y)))) n ∙ lt-ltb _ _ (front_shorter x (code "=" ∷ y) (code "=") y refl),
    )

content_same : (p : ℕ) (a b : List ℕ) (rs : List Said) → content_of comment_byte a ≡ content_of comment_byte b → SameContents p (said_of a ∷ rs) (said_of b ∷ rs)
content_same p a b rs e =
    by_cases _ (is_blank_line (content_of comment_byte a))
    (λ (h : is_blank_line (content_of comment_byte a) ≡ true). blank h (other_blank (ap is_blank_line (sym e) ∙ h) (contents_self p rs)))
    (λ (h : is_blank_line (content_of comment_byte a) ≡ false).
    says h (ap is_blank_line (sym e) ∙ h) (subst (SameSaying p (content_of comment_byte a)) e (same_self p (content_of comment_byte a))) (contents_self (place_after p (content_of comment_byte a)) rs))

-- ---- edits of one line of a text

module _ (xs ys : List (List ℕ)) (xs_whole : Each Whole xs) (ys_whole : Each Whole ys) where
  -- a line replaced by one of the same content
  pub content_kept : (a b : List ℕ) → Whole a → Whole b → content_of comment_byte a ≡ content_of comment_byte b → Alike (text_of (xs ++ (a ∷ ys))) (text_of (xs ++ (b ∷ ys)))
  content_kept a b v w e =
      texts_alike _ _
      (rw (joined_contents xs ys xs_whole ys_whole (a ∷ ys) (each_more v ys_whole), joined_contents xs ys xs_whole ys_whole (b ∷ ys) (each_more w ys_whole))
      (contents_front (said_of a ∷ map said_of ys) (said_of b ∷ map said_of ys) before (map said_of xs) (content_same (place_behind before (map said_of xs)) a b (map said_of ys) e)))

  -- "a comment added at a line's end"
  pub comment_added : (c x : List ℕ) → Whole c → Whole (c ++ (comment_byte ∷ x)) → all (is_content comment_byte) c ≡ true → Alike (text_of (xs ++ (c ∷ ys))) (text_of (xs ++ ((c ++ (comment_byte ∷ x)) ∷ ys)))
  comment_added c x v w e = content_kept c (c ++ (comment_byte ∷ x)) v w (sym (comment_cut c x e))

-- "blanks between words": a blank beside a blank of a line without a keyword
pub blank_added : (p : ℕ) (x y : List ℕ) (b c : ℕ) → is_blank b ≡ true → is_blank c ≡ true → key_at (x ++ (b ∷ y)) ≡ plain → key_at (x ++ (b ∷ c ∷ y)) ≡ plain → SameSaying p (x ++ (b ∷ y)) (x ++ (b ∷ c ∷ y))
blank_added p x y b c e f k l = same_words k l (sym (blank_doubled x y b c e f))

-- "blanks .. about `=`": one before the sign, one after it
module _ (p : ℕ) (x y : List ℕ) (b : ℕ) (e : is_blank b ≡ true) (o : all is_other x ≡ true) (plain_line_lem : key_at (x ++ (code "=" ∷ y)) ≡ plain) (form : takes_equals p (x ++ (code "=" ∷ y)) ≡ true) where
  pub blank_before_sign :
      all is_other (x ++ (b ∷ [])) ≡ true → key_at ((x ++ (b ∷ [])) ++ (code "=" ∷ y)) ≡ plain → takes_equals p ((x ++ (b ∷ [])) ++ (code "=" ∷ y)) ≡ true →
      SameSaying p (x ++ (code "=" ∷ y)) ((x ++ (b ∷ [])) ++ (code "=" ∷ y))
  blank_before_sign q k f =
      same_sides plain_line_lem k form f ((sides_of x y o).0 ∙ sym ((sides_of (x ++ (b ∷ [])) y q).0 ∙ blank_end x b e)) ((sides_of x y o).1 ∙ sym (sides_of (x ++ (b ∷ [])) y q).1)

  pub blank_after_sign :
      key_at (x ++ (code "=" ∷ b ∷ y)) ≡ plain → takes_equals p (x ++ (code "=" ∷ b ∷ y)) ≡ true → SameSaying p (x ++ (code "=" ∷ y)) (x ++ (code "=" ∷ b ∷ y))
  blank_after_sign k f =
      same_sides plain_line_lem k form f ((sides_of x y o).0 ∙ sym (sides_of x (b ∷ y) o).0) ((sides_of x y o).1 ∙ sym ((sides_of x (b ∷ y) o).1 ∙ blank_front b y e))
