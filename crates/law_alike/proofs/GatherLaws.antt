-- What is gathered from alike lines: lists of one length whose elements correspond. Matrices have their own laws.
-- Assumes nothing.
use mathlib.Core.Path.{◌≡◌, refl, sym, ◌∙◌, ap, subst}
use mathlib.Core.Bool.{Bool, true, false, true≢false}
use mathlib.Core.List.{List, [], ◌∷◌, ◌++◌}
use Prim.Native.Nat.{ℕ}
use lib.Dec.{eqb}
use borrow.Author.Tests.{eq-eqb, eqb-true}
use Rattle.base.specs.If.{both, either}
use Rattle.base.proofs.IfLaws.{if_true, if_false, by_cases, both_first, both_second, both_not_left, either_right}
use Rattle.line_place.specs.Place as place
use Rattle.line_place.specs.Place.{opens_matrix, is_row_or_bandwidth}
use Rattle.doc.specs.Lines.{Line, plain, key_of, stands_in, gather, up_to}
use Rattle.doc.specs.Document.{opens_matrix_at, in_matrix, in_section}
use Rattle.doc.specs.Holds.{Each}
use Rattle.doc.specs.Holds.Each.{none as Each_none, more as each_more}
use Rattle.doc.proofs.GatherLaws.{up_in, up_none, up_out}
use Rattle.law_alike.specs.Alike.{SameLine, SameNumbers, AlikeLines}
use Rattle.law_alike.specs.Alike.AlikeLines.{none, line, matrix}
use Rattle.law_alike.specs.Way.Same.{All2}
use Rattle.law_alike.specs.Way.Same.All2.{none as all2_none, more as all2_more}
use Rattle.law_alike.proofs.LineLaws.{Reads, inner_reads, key_same}

-- ---- lists whose elements correspond

module _ {A B : Type 0} {Rel : A → B → Type 0} where
  pub all2_append : {xs ys : List A} {us vs : List B} → All2 Rel xs us → All2 Rel ys vs → All2 Rel (xs ++ ys) (us ++ vs)
  all2_append all2_none k = k
  all2_append (all2_more h hs) k = all2_more h (all2_append hs k)

-- ---- two lines that say the same

module _ (l m : Line) (s : SameLine l m) where
  pub keys_same : Reads l.place → key_of l ≡ key_of m
  unfolding key_of
  keys_same r = key_same l.content m.content s.saying r

  -- a test of the place that lines which are not read do not pass, and one of the keyword
  module _ (test : ℕ → Bool) (begun : test place.before ≡ false) (unended : test place.done ≡ false) where
    pub keys_in : test l.place ≡ true → key_of l ≡ key_of m
    keys_in e = keys_same (inner_reads test begun unended l.place e)

    pub tests_same : (key : ℕ → Bool) → both (test l.place) (key (key_of l)) ≡ both (test m.place) (key (key_of m))
    tests_same key =
        by_cases _ (test l.place)
        (λ (e : test l.place ≡ true). λ i. both (test (s.place i)) (key (keys_in e i)))
        (λ (e : test l.place ≡ false). both_not_left _ _ e ∙ sym (both_not_left _ _ (ap test (sym s.place) ∙ e)))

  pub stands_same : (p : ℕ) → eqb place.before p ≡ false → eqb place.done p ≡ false → stands_in p l ≡ stands_in p m
  unfolding stands_in
  stands_same p begun unended = tests_same (λ (x : ℕ). eqb x p) begun unended (λ (k : ℕ). eqb k plain)

-- ---- lines of matrices

-- a line below a section's method: the opening line of a matrix, or one of its lines
unfoldable pub is_deep : Line → Bool
is_deep l = either (eqb l.place place.section) (eqb l.place place.matrix)

pub opening_deep : (l : Line) → opens_matrix_at l ≡ true → is_deep l ≡ true
unfolding opens_matrix_at is_deep
opening_deep l e = both_first _ _ e

pub body_place : (l : Line) → in_matrix l ≡ true → l.place ≡ place.matrix
unfolding in_matrix
body_place l e = eqb-true _ _ (both_first _ _ e)

pub body_key : (l : Line) → in_matrix l ≡ true → either (eqb (key_of l) plain) (is_row_or_bandwidth (key_of l)) ≡ true
unfolding in_matrix
body_key l e = both_second _ _ e

pub body_deep : (l : Line) → in_matrix l ≡ true → is_deep l ≡ true
unfolding is_deep
body_deep l e = either_right _ _ (eq-eqb _ _ (body_place l e))

-- the other line opens a matrix too
pub other_opens : (l : Line) (bs : List Line) (m : Line) (cs : List Line) → SameNumbers l bs m cs → opens_matrix_at m ≡ true
unfolding opens_matrix_at
other_opens l bs m cs n = sym (λ i. both (either (eqb (n.place i) place.section) (eqb (n.place i) place.matrix)) (opens_matrix (n.kind i))) ∙ n.opens

-- all lines that `up_to` gives are inside
pub up_inside : (inside : Line → Bool) (ls : List Line) → Each (λ (l : Line). inside l ≡ true) (up_to inside ls)
unfolding up_to
up_inside inside [] = Each_none
up_inside inside (l ∷ ls) =
    by_cases _ (inside l)
    (λ (e : inside l ≡ true). rw (if_true {A = List Line} (l ∷ up_to inside ls) [] e) (each_more e (up_inside inside ls)))
    (λ (e : inside l ≡ false). rw (if_false {A = List Line} (l ∷ up_to inside ls) [] e) Each_none)

pub block_inside : (bs ls : List Line) → up_to in_matrix (bs ++ ls) ≡ bs → Each (λ (l : Line). in_matrix l ≡ true) bs
block_inside bs ls e = subst (Each (λ (l : Line). in_matrix l ≡ true)) e (up_inside in_matrix (bs ++ ls))

-- ---- what gathers nothing from the lines of matrices

module _ {A : Type 0} (here : Line → List Line → List A) (silent : (l : Line) (ls : List Line) → is_deep l ≡ true → here l ls ≡ []) where
  gather_body : (bs ls : List Line) → Each (λ (l : Line). in_matrix l ≡ true) bs → gather here (bs ++ ls) ≡ gather here ls
  unfolding gather
  gather_body [] ls Each_none = refl
  gather_body (b ∷ bs) ls (each_more h hs) = ap (λ (xs : List A). xs ++ gather here (bs ++ ls)) (silent b (bs ++ ls) (body_deep b h)) ∙ gather_body bs ls hs

  gather_block : (l : Line) (bs ls : List Line) → opens_matrix_at l ≡ true → up_to in_matrix (bs ++ ls) ≡ bs → gather here (l ∷ (bs ++ ls)) ≡ gather here ls
  unfolding gather
  gather_block l bs ls o e = ap (λ (xs : List A). xs ++ gather here (bs ++ ls)) (silent l (bs ++ ls) (opening_deep l o)) ∙ gather_body bs ls (block_inside bs ls e)

  module _ (Rel : A → A → Type 0) (on_line : (l m : Line) (ls ms : List Line) → SameLine l m → AlikeLines ls ms → All2 Rel (here l ls) (here m ms)) where
    pub gather_alike : {ls ms : List Line} → AlikeLines ls ms → All2 Rel (gather here ls) (gather here ms)
    unfolding gather
    gather_alike none = all2_none
    gather_alike (line {l = l} {m = m} {ls = ls} {ms = ms} s a) = all2_append (on_line l m ls ms s a) (gather_alike a)
    gather_alike (matrix {l = l} {m = m} {ls = ls} {ms = ms} bs cs n p q a) =
        rw (gather_block l bs ls n.opens p, gather_block m cs ms (other_opens l bs m cs n) q) (gather_alike a)

-- ---- blocks

-- a block that holds no matrix
module _ (inside : Line → Bool) (same : (l m : Line) → SameLine l m → inside l ≡ inside m) (outside : (l : Line) → is_deep l ≡ true → inside l ≡ false) where
  pub up_alike : {ls ms : List Line} → AlikeLines ls ms → AlikeLines (up_to inside ls) (up_to inside ms)
  unfolding up_to
  up_alike none = none
  up_alike (line {l = l} {m = m} {ls = ls} {ms = ms} s a) =
      by_cases _ (inside l)
      (λ (e : inside l ≡ true). rw (if_true {A = List Line} (l ∷ up_to inside ls) [] e, if_true {A = List Line} (m ∷ up_to inside ms) [] (sym (same l m s) ∙ e)) (line s (up_alike a)))
      (λ (e : inside l ≡ false). rw (if_false {A = List Line} (l ∷ up_to inside ls) [] e, if_false {A = List Line} (m ∷ up_to inside ms) [] (sym (same l m s) ∙ e)) none)
  up_alike (matrix {l = l} {m = m} {ls = ls} {ms = ms} bs cs n p q a) =
      rw (if_false {A = List Line} (l ∷ up_to inside (bs ++ ls)) [] (outside l (opening_deep l n.opens)), if_false {A = List Line} (m ∷ up_to inside (cs ++ ms)) [] (outside m (opening_deep m (other_opens l bs m cs n)))) none

-- a section's lines
deep_inside : (l : Line) → is_deep l ≡ true → in_section l ≡ true
unfolding in_section is_deep
deep_inside l e = either_right _ _ e

section_same : (l m : Line) → SameLine l m → in_section l ≡ in_section m
unfolding in_section
section_same l m s = λ i. either (eqb (s.place i) place.section_head) (either (eqb (s.place i) place.section) (eqb (s.place i) place.matrix))

up_body : (bs ls : List Line) → Each (λ (l : Line). in_matrix l ≡ true) bs → up_to in_section (bs ++ ls) ≡ bs ++ up_to in_section ls
unfolding up_to
up_body [] ls Each_none = refl
up_body (b ∷ bs) ls (each_more h hs) = if_true _ _ (deep_inside b (body_deep b h)) ∙ ap (λ (xs : List Line). b ∷ xs) (up_body bs ls hs)

pub up_block : (l : Line) (bs ls : List Line) → opens_matrix_at l ≡ true → up_to in_matrix (bs ++ ls) ≡ bs → up_to in_section (l ∷ (bs ++ ls)) ≡ l ∷ (bs ++ up_to in_section ls)
unfolding up_to
up_block l bs ls o e = if_true _ _ (deep_inside l (opening_deep l o)) ∙ ap (λ (xs : List Line). l ∷ xs) (up_body bs ls (block_inside bs ls e))

abbrev tail_of : List Line → List Line
tail_of [] = []
tail_of (l ∷ ls) = ls

abbrev is_empty : List Line → Bool
is_empty [] = true
is_empty (l ∷ ls) = false

-- a line that ends a matrix also ends it if the lines are cut at the end of the section
stop_kept : (ls : List Line) → up_to in_matrix ls ≡ [] → up_to in_matrix (up_to in_section ls) ≡ []
unfolding up_to
stop_kept [] e = refl
stop_kept (x ∷ ls) e =
    by_cases _ (in_matrix x)
    (λ (h : in_matrix x ≡ true). absurd (true≢false (sym (ap is_empty (sym (if_true _ _ h) ∙ e)))))
    (λ (h : in_matrix x ≡ false).
    by_cases _ (in_section x)
    (λ (k : in_section x ≡ true). ap (up_to in_matrix) (if_true _ _ k) ∙ if_false _ _ h)
    (λ (k : in_section x ≡ false). ap (up_to in_matrix) (if_false _ _ k)))

block_kept : (bs ls : List Line) → up_to in_matrix (bs ++ ls) ≡ bs → up_to in_matrix (bs ++ up_to in_section ls) ≡ bs
unfolding up_to
block_kept [] ls e = stop_kept ls e
block_kept (b ∷ bs) ls e =
    by_cases _ (in_matrix b)
    (λ (h : in_matrix b ≡ true). if_true _ _ h ∙ ap (λ (xs : List Line). b ∷ xs) (block_kept bs ls (ap tail_of (sym (if_true _ _ h) ∙ e))))
    (λ (h : in_matrix b ≡ false). absurd (true≢false (ap is_empty (sym (if_false _ _ h) ∙ e))))

pub section_alike : {ls ms : List Line} → AlikeLines ls ms → AlikeLines (up_to in_section ls) (up_to in_section ms)
section_alike none = rw (up_none in_section) none
section_alike (line {l = l} {m = m} {ls = ls} {ms = ms} s a) =
    by_cases _ (in_section l)
    (λ (e : in_section l ≡ true). rw (up_in in_section l ls e, up_in in_section m ms (sym (section_same l m s) ∙ e)) (line s (section_alike a)))
    (λ (e : in_section l ≡ false). rw (up_out in_section l ls e, up_out in_section m ms (sym (section_same l m s) ∙ e)) none)
section_alike (matrix {l = l} {m = m} {ls = ls} {ms = ms} bs cs n p q a) =
    rw (up_block l bs ls n.opens p, up_block m cs ms (other_opens l bs m cs n) q) (matrix bs cs n (block_kept bs ls p) (block_kept cs ms q) (section_alike a))
