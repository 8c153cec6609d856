-- Squeezing the blanks of a line changes neither its words nor its first byte that is not blank, and it leaves no
-- trace of how many blanks there were, or whether they were spaces or TABs.
-- Assumes nothing.
use mathlib.Core.Path.{◌≡◌, refl, sym, ◌∙◌, ap}
use mathlib.Core.Bool.{Bool, true, false, not}
use mathlib.Core.List.{List, [], ◌∷◌, ◌++◌, append-nil}
use Prim.Native.Nat.{ℕ}
use lib.ListN.{get_or}
use lib.Dec.{eqb}
use borrow.Author.Tests.{eqb-true}
use Rattle.base.specs.If.{provided◌then◌else◌, both, either}
use Rattle.base.specs.Bytes.{is_blank, space, tab, is_filled}
use Rattle.base.specs.Runs.{run, all}
use Rattle.base.proofs.IfLaws.{if_true, if_false, by_cases, both_rest}
use Rattle.base.proofs.RunLaws.{run_goes, run_stops, run_nil, all_cons}
use Rattle.lex_line.specs.Words.{word_goes_on, words}
use Rattle.law_alike.specs.Way.Squeezed.{spaced, squeezed_after, squeezed, doubled, tabbed}
use Rattle.law_alike.proofs.SidesLaws.{bare, grow, words_bare, bare_blank, bare_last, bare_on}

-- ---- one byte more

module _ (b : ℕ) (s : List ℕ) where
  behind_blank : is_blank b ≡ true → squeezed_after true (b ∷ s) ≡ spaced (squeezed_after false s)
  unfolding squeezed_after
  behind_blank e = if_true _ _ e ∙ if_true _ _ refl

  front_blank : is_blank b ≡ true → squeezed_after false (b ∷ s) ≡ squeezed_after false s
  unfolding squeezed_after
  front_blank e = if_true _ _ e ∙ if_false _ _ refl

  squeezed_byte : (word : Bool) → is_blank b ≡ false → squeezed_after word (b ∷ s) ≡ b ∷ squeezed_after true s
  unfolding squeezed_after
  squeezed_byte word e = if_false _ _ e

squeezed_none : (word : Bool) → squeezed_after word [] ≡ []
unfolding squeezed_after
squeezed_none word = refl

pub space_blank : is_blank space ≡ true
unfolding is_blank either
space_blank = refl

pub tab_blank : is_blank tab ≡ true
unfolding is_blank either
tab_blank = refl

-- ---- the words

pub goes_blank : (b : ℕ) (s : List ℕ) → is_blank b ≡ true → word_goes_on (b ∷ s) ≡ false
unfolding word_goes_on is_filled
goes_blank b s e = ap not e

pub goes_byte : (b : ℕ) (s : List ℕ) → is_blank b ≡ false → word_goes_on (b ∷ s) ≡ true
unfolding word_goes_on is_filled
goes_byte b s e = ap not e

-- a space ends the word before it
spaced_words : (b : ℕ) (x : List ℕ) → is_blank b ≡ false → bare (b ∷ spaced x) ≡ (b ∷ []) ∷ bare x
unfolding spaced word_goes_on
spaced_words b [] e = bare_last b [] e refl
spaced_words b (d ∷ x) e = bare_last b (space ∷ d ∷ x) e (goes_blank space (d ∷ x) space_blank) ∙ ap (λ (ws : List (List ℕ)). (b ∷ []) ∷ ws) (bare_blank space (d ∷ x) space_blank)

-- the words stay, in front and behind a byte of a word
record Kept (s : List ℕ) : Type 0 where
  front : bare (squeezed_after false s) ≡ bare s
  behind : (b : ℕ) → is_blank b ≡ false → bare (b ∷ squeezed_after true s) ≡ bare (b ∷ s)

kept : (s : List ℕ) → Kept s
kept [] = record { front = ap bare (squeezed_none false); behind = λ (b : ℕ) (e : is_blank b ≡ false). ap (λ (x : List ℕ). bare (b ∷ x)) (squeezed_none true) }
kept (c ∷ s) =
    by_cases (Kept (c ∷ s)) (is_blank c)
    (λ (f : is_blank c ≡ true).
    record {
      front = ap bare (front_blank c s f) ∙ (kept s).front ∙ sym (bare_blank c s f);
      behind =
          λ (b : ℕ) (e : is_blank b ≡ false).
          ap (λ (x : List ℕ). bare (b ∷ x)) (behind_blank c s f) ∙ spaced_words b (squeezed_after false s) e
          ∙ ap (λ (ws : List (List ℕ)). (b ∷ []) ∷ ws) ((kept s).front ∙ sym (bare_blank c s f)) ∙ sym (bare_last b (c ∷ s) e (goes_blank c s f));
    })
    (λ (f : is_blank c ≡ false).
    record {
      front = ap bare (squeezed_byte c s false f) ∙ (kept s).behind c f;
      behind =
          λ (b : ℕ) (e : is_blank b ≡ false).
          ap (λ (x : List ℕ). bare (b ∷ x)) (squeezed_byte c s true f) ∙ bare_on b (c ∷ squeezed_after true s) e (goes_byte c _ f)
          ∙ ap (grow b) ((kept s).behind c f) ∙ sym (bare_on b (c ∷ s) e (goes_byte c s f));
    })

-- the words of a line do not change when its blanks are squeezed
pub squeezed_words : (c : List ℕ) → words (squeezed c) ≡ words c
unfolding squeezed
squeezed_words c = words_bare 0 (squeezed_after false c) ∙ (kept c).front ∙ sym (words_bare 0 c)

-- lines that differ in blanks alone have the same words
pub same_squeezed : (a b : List ℕ) → squeezed a ≡ squeezed b → words a ≡ words b
same_squeezed a b e = sym (squeezed_words a) ∙ ap words e ∙ squeezed_words b

-- ---- the first byte that is not blank

pub squeezed_first : (c : List ℕ) → get_or c (run is_blank c) 0 ≡ get_or (squeezed c) 0 0
unfolding squeezed
squeezed_first [] = ap (λ (n : ℕ). get_or [] n 0) (run_nil is_blank) ∙ ap (λ (s : List ℕ). get_or s 0 0) (sym (squeezed_none false))
squeezed_first (b ∷ c) =
    by_cases _ (is_blank b)
    (λ (e : is_blank b ≡ true). ap (λ (n : ℕ). get_or (b ∷ c) n 0) (run_goes is_blank b c e) ∙ squeezed_first c ∙ ap (λ (s : List ℕ). get_or s 0 0) (sym (front_blank b c e)))
    (λ (e : is_blank b ≡ false). ap (λ (n : ℕ). get_or (b ∷ c) n 0) (run_stops is_blank b c e) ∙ ap (λ (s : List ℕ). get_or s 0 0) (sym (squeezed_byte b c false e)))

-- nor do bytes behind it change it, if there is one
pub first_kept : (x z : List ℕ) → (squeezed x ≡ [] → ⊥) → get_or (squeezed (x ++ z)) 0 0 ≡ get_or (squeezed x) 0 0
unfolding squeezed
first_kept [] z n = absurd (n (squeezed_none false))
first_kept (b ∷ x) z n =
    by_cases _ (is_blank b)
    (λ (e : is_blank b ≡ true).
    ap (λ (s : List ℕ). get_or s 0 0) (front_blank b (x ++ z) e) ∙ first_kept x z (λ (h : squeezed_after false x ≡ []). n (front_blank b x e ∙ h)) ∙ ap (λ (s : List ℕ). get_or s 0 0) (sym (front_blank b x e)))
    (λ (e : is_blank b ≡ false). ap (λ (s : List ℕ). get_or s 0 0) (squeezed_byte b (x ++ z) false e) ∙ ap (λ (s : List ℕ). get_or s 0 0) (sym (squeezed_byte b x false e)))

-- ---- bytes that are not blank

-- a test that blanks pass
module _ (test : ℕ → Bool) (passes : (b : ℕ) → is_blank b ≡ true → test b ≡ true) where
  spaced_all : (x : List ℕ) → all test (spaced x) ≡ all test x
  unfolding spaced
  spaced_all [] = refl
  spaced_all (b ∷ x) = all_cons test space (b ∷ x) ∙ ap (λ (h : Bool). both h (all test (b ∷ x))) (passes space space_blank) ∙ true_both (all test (b ∷ x))
    where
      true_both : (h : Bool) → both true h ≡ h
      true_both h = both_rest true h refl

  blank_all : (word : Bool) (b : ℕ) (s : List ℕ) → is_blank b ≡ true → all test (squeezed_after false s) ≡ all test s → all test (squeezed_after word (b ∷ s)) ≡ all test s
  blank_all true b s e later = ap (all test) (behind_blank b s e) ∙ spaced_all (squeezed_after false s) ∙ later
  blank_all false b s e later = ap (all test) (front_blank b s e) ∙ later

  after_all : (word : Bool) (s : List ℕ) → all test (squeezed_after word s) ≡ all test s
  after_all word [] = ap (all test) (squeezed_none word)
  after_all word (b ∷ s) =
      by_cases _ (is_blank b)
      (λ (e : is_blank b ≡ true). blank_all word b s e (after_all false s) ∙ sym (all_cons test b s ∙ both_rest _ _ (passes b e)))
      (λ (e : is_blank b ≡ false). ap (all test) (squeezed_byte b s word e) ∙ all_cons test b (squeezed_after true s) ∙ ap (both (test b)) (after_all true s) ∙ sym (all_cons test b s))

  -- a test of every byte tells the same of the squeezed line
  pub squeezed_all : (s : List ℕ) → all test (squeezed s) ≡ all test s
  unfolding squeezed
  squeezed_all s = after_all false s

-- ---- which blanks, and how many

-- what leaves the same behind a word and behind none
record Same (a b : List ℕ) : Type 0 where
  after : (word : Bool) → squeezed_after word a ≡ squeezed_after word b

same_byte : (d : ℕ) (a b : List ℕ) → Same a b → Same (d ∷ a) (d ∷ b)
unfolding squeezed_after
same_byte d a b h = record { after = λ (word : Bool). λ i. provided is_blank d then (provided word then spaced (h.after false i) else h.after false i) else d ∷ h.after true i }

same_front : (x a b : List ℕ) → Same a b → Same (x ++ a) (x ++ b)
same_front [] a b h = h
same_front (d ∷ x) a b h = same_byte d (x ++ a) (x ++ b) (same_front x a b h)

same_is : (a b : List ℕ) → Same a b → squeezed a ≡ squeezed b
unfolding squeezed
same_is a b h = h.after false

module _ (b : ℕ) (e : is_blank b ≡ true) where
  other_after : (c : ℕ) → is_blank c ≡ true → (y : List ℕ) (word : Bool) → squeezed_after word (b ∷ y) ≡ squeezed_after word (c ∷ y)
  other_after c f y true = behind_blank b y e ∙ sym (behind_blank c y f)
  other_after c f y false = front_blank b y e ∙ sym (front_blank c y f)

  twice_after : (c : ℕ) → is_blank c ≡ true → (y : List ℕ) (word : Bool) → squeezed_after word (b ∷ c ∷ y) ≡ squeezed_after word (b ∷ y)
  twice_after c f y true = behind_blank b (c ∷ y) e ∙ ap spaced (front_blank c y f) ∙ sym (behind_blank b y e)
  twice_after c f y false = front_blank b (c ∷ y) e ∙ front_blank c y f ∙ sym (front_blank b y e)

  end_after : (word : Bool) → squeezed_after word (b ∷ []) ≡ squeezed_after word []
  unfolding spaced
  end_after true = behind_blank b [] e ∙ ap spaced (squeezed_none false) ∙ sym (squeezed_none true)
  end_after false = front_blank b [] e

  -- "Blanks are space and TAB": one in place of the other
  pub blank_other : (c : ℕ) → is_blank c ≡ true → (x y : List ℕ) → squeezed (x ++ (b ∷ y)) ≡ squeezed (x ++ (c ∷ y))
  blank_other c f x y = same_is _ _ (same_front x (b ∷ y) (c ∷ y) (record { after = other_after c f y }))

  -- a blank beside a blank
  pub blank_beside : (c : ℕ) → is_blank c ≡ true → (x y : List ℕ) → squeezed (x ++ (b ∷ c ∷ y)) ≡ squeezed (x ++ (b ∷ y))
  blank_beside c f x y = same_is _ _ (same_front x (b ∷ c ∷ y) (b ∷ y) (record { after = twice_after c f y }))

  -- a blank in front, and one at the end
  pub blank_leading : (s : List ℕ) → squeezed (b ∷ s) ≡ squeezed s
  unfolding squeezed
  blank_leading s = front_blank b s e

  pub blank_trailing : (s : List ℕ) → squeezed (s ++ (b ∷ [])) ≡ squeezed s
  blank_trailing s = same_is _ _ (same_front s (b ∷ []) [] (record { after = end_after })) ∙ ap squeezed (append-nil s)

-- a TAB in place of a space
pub tab_for_space : (x y : List ℕ) → squeezed (x ++ (tab ∷ y)) ≡ squeezed (x ++ (space ∷ y))
tab_for_space x y = blank_other tab tab_blank space space_blank x y

pub double_blank : (b : ℕ) (s : List ℕ) → is_blank b ≡ true → doubled (b ∷ s) ≡ b ∷ b ∷ doubled s
unfolding doubled
double_blank b s e = if_true _ _ e

pub double_byte : (b : ℕ) (s : List ℕ) → is_blank b ≡ false → doubled (b ∷ s) ≡ b ∷ doubled s
unfolding doubled
double_byte b s e = if_false _ _ e

doubled_same : (s : List ℕ) → Same (doubled s) s
unfolding doubled
doubled_same [] = record { after = λ (word : Bool). refl }
doubled_same (b ∷ s) =
    by_cases (Same (doubled (b ∷ s)) (b ∷ s)) (is_blank b)
    (λ (e : is_blank b ≡ true). rw (double_blank b s e) record { after = λ (word : Bool). twice_after b e b e (doubled s) word ∙ (same_byte b (doubled s) s (doubled_same s)).after word })
    (λ (e : is_blank b ≡ false). rw (double_byte b s e) (same_byte b (doubled s) s (doubled_same s)))

-- every blank written twice
pub doubled_squeezed : (s : List ℕ) → squeezed (doubled s) ≡ squeezed s
doubled_squeezed s = same_is _ _ (doubled_same s)

pub tab_byte : (b : ℕ) (s : List ℕ) → eqb b space ≡ false → tabbed (b ∷ s) ≡ b ∷ tabbed s
unfolding tabbed
tab_byte b s e = ap (λ (c : ℕ). c ∷ tabbed s) (if_false _ _ e)

pub tab_space : (b : ℕ) (s : List ℕ) → eqb b space ≡ true → tabbed (b ∷ s) ≡ tab ∷ tabbed s
unfolding tabbed
tab_space b s e = ap (λ (c : ℕ). c ∷ tabbed s) (if_true _ _ e)

tabbed_same : (s : List ℕ) → Same (tabbed s) s
unfolding tabbed
tabbed_same [] = record { after = λ (word : Bool). refl }
tabbed_same (b ∷ s) =
    by_cases (Same (tabbed (b ∷ s)) (b ∷ s)) (eqb b space)
    (λ (e : eqb b space ≡ true).
    let blank : is_blank b ≡ true = ap is_blank (eqb-true b space e) ∙ space_blank in
    rw (tab_space b s e) record { after = λ (word : Bool). other_after tab tab_blank b blank (tabbed s) word ∙ (same_byte b (tabbed s) s (tabbed_same s)).after word })
    (λ (e : eqb b space ≡ false). rw (tab_byte b s e) (same_byte b (tabbed s) s (tabbed_same s)))

-- a TAB for every space
pub tabbed_squeezed : (s : List ℕ) → squeezed (tabbed s) ≡ squeezed s
tabbed_squeezed s = same_is _ _ (tabbed_same s)
