-- Texts whose lines say the same, each line of the one and its line of the other, are alike. So all lines of a text may
-- change at once: every LF a CR LF, every blank two, a TAB for every space.
-- Assumes nothing.
use mathlib.Core.Path.{◌≡◌, refl, sym, ◌∙◌, ap, subst}
use mathlib.Core.Bool.{Bool, true, false}
use mathlib.Core.List.{List, [], ◌∷◌, ◌++◌, map}
use Prim.Native.Nat.{ℕ}
use Prim.Native.Char.{code}
use lib.ListN.{take, get_or}
use lib.Dec.{eqb}
use borrow.Author.Tests.{eqb-true}
use Rattle.base.specs.If.{provided◌then◌else◌, both, either}
use Rattle.base.specs.Bytes.{space, tab, is_blank, is_before, is_content, line_feed, carriage_return}
use Rattle.base.specs.Runs.{all}
use Rattle.base.proofs.IfLaws.{if_true, if_false, by_cases, both_true, both_first, both_second, both_not_left, either_rest}
use Rattle.base.proofs.RunLaws.{run_goes, run_stops, run_nil, all_nil, all_cons}
use Rattle.lex_line.specs.Lines.{content_of, comment_byte, is_blank_line}
use Rattle.lex_keyword.specs.Bracket.{bracket_of, is_open, is_not_closing, argument_at}
use Rattle.lex_keyword.specs.declared.Bracket.TheVariants.{Keyword}
use Rattle.line_place.specs.Place.{before}
use Rattle.line_argument.specs.Argument.{is_bad_argument}
use Rattle.doc.specs.Lines.{place_after}
use Rattle.doc.specs.Holds.{Each}
use Rattle.law_alike.specs.Alike.{argument_text, SameSaying, Alike}
use Rattle.law_alike.specs.Way.Same.{All2}
use Rattle.law_alike.specs.Way.Squeezed.{squeezed, doubled, tabbed}
use Rattle.law_alike.proofs.WideLaws.{same_self, SameContents, ended, blank, other_blank, says, texts_alike, text_of, Whole, said_of, text_contents}
use Rattle.law_alike.proofs.SqueezedLaws.{squeezed_all, space_blank, tab_blank, double_blank, double_byte, doubled_squeezed, tab_byte, tab_space, tabbed_squeezed}
use Rattle.law_alike.proofs.ArgumentLaws.{bracketed, is_parted, bracket_kept, bracket_parted}
use Rattle.law_alike.proofs.WidthLaws.{unbracketed_lines, keyword_blanks}

-- ---- every line of a text

-- what a line says: its bytes before the comment and the terminator
abbrev pub content : List ℕ → List ℕ
content c = content_of comment_byte c

-- two contents: both are blank, or they say the same in place p
pub data SaysIn (p : ℕ) (a b : List ℕ) : Type 0 where
  both_blank : is_blank_line a ≡ true → is_blank_line b ≡ true → SaysIn p a b
  says_same : is_blank_line a ≡ false → is_blank_line b ≡ false → SameSaying p a b → SaysIn p a b

-- the lines of two texts, the first of them in place p
pub data EachSays : ℕ → List (List ℕ) → List (List ℕ) → Type 0 where
  none : {p : ℕ} → EachSays p [] []
  more :
      {p : ℕ} {a b : List ℕ} {ls ms : List (List ℕ)} → SaysIn p (content a) (content b) →
      EachSays (provided is_blank_line (content a) then p else place_after p (content a)) ls ms → EachSays p (a ∷ ls) (b ∷ ms)

each_contents : {p : ℕ} {ls ms : List (List ℕ)} → EachSays p ls ms → SameContents p (map said_of ls) (map said_of ms)
each_contents none = ended
each_contents (more {p = p} {a = a} {ls = ls} {ms = ms} (both_blank e f) s) =
    blank e (other_blank f (subst (λ (q : ℕ). SameContents q (map said_of ls) (map said_of ms)) (if_true _ _ e) (each_contents s)))
each_contents (more {p = p} {a = a} {ls = ls} {ms = ms} (says_same e f h) s) =
    says e f h (subst (λ (q : ℕ). SameContents q (map said_of ls) (map said_of ms)) (if_false _ _ e) (each_contents s))

-- texts whose lines say the same, line by line
pub each_alike : (ls ms : List (List ℕ)) → Each Whole ls → Each Whole ms → EachSays before ls ms → Alike (text_of ls) (text_of ms)
each_alike ls ms v w s = texts_alike (text_of ls) (text_of ms) (rw (text_contents ls v, text_contents ms w) (each_contents s))

-- the same where the lines say the same in every place
pub data Everywhere (a b : List ℕ) : Type 0 where
  everywhere : ((p : ℕ) → SaysIn p (content a) (content b)) → Everywhere a b

everywhere_each : {ls ms : List (List ℕ)} → All2 Everywhere ls ms → (p : ℕ) → EachSays p ls ms
everywhere_each All2.none p = none
everywhere_each (All2.more {x = a} (everywhere h) s) p = more (h p) (everywhere_each s (provided is_blank_line (content a) then p else place_after p (content a)))

pub everywhere_alike : (ls ms : List (List ℕ)) → Each Whole ls → Each Whole ms → All2 Everywhere ls ms → Alike (text_of ls) (text_of ms)
everywhere_alike ls ms v w s = each_alike ls ms v w (everywhere_each s before)

-- ---- lines of the same content

pub content_says : (p : ℕ) (a b : List ℕ) → a ≡ b → SaysIn p a b
content_says p a b e =
    by_cases (SaysIn p a b) (is_blank_line a) (λ (h : is_blank_line a ≡ true). both_blank h (ap is_blank_line (sym e) ∙ h))
    (λ (h : is_blank_line a ≡ false). says_same h (ap is_blank_line (sym e) ∙ h) (subst (SameSaying p a) e (same_self p a)))

-- the content ends at a byte that is no content
module _ (stop : ℕ) (x : List ℕ) (stops : is_content comment_byte stop ≡ false) where
  content_cut : (c : List ℕ) → content (c ++ (stop ∷ x)) ≡ content c
  unfolding content_of
  content_cut [] = ap (λ (n : ℕ). take n (stop ∷ x)) (run_stops (is_content comment_byte) stop x stops) ∙ sym (ap (λ (n : ℕ). take n []) (run_nil (is_content comment_byte)))
  content_cut (b ∷ c) =
      by_cases _ (is_content comment_byte b)
      (λ (e : is_content comment_byte b ≡ true).
      ap (λ (n : ℕ). take n (b ∷ (c ++ (stop ∷ x)))) (run_goes (is_content comment_byte) b (c ++ (stop ∷ x)) e) ∙ ap (λ (s : List ℕ). b ∷ s) (content_cut c)
      ∙ sym (ap (λ (n : ℕ). take n (b ∷ c)) (run_goes (is_content comment_byte) b c e)))
      (λ (e : is_content comment_byte b ≡ false).
      ap (λ (n : ℕ). take n (b ∷ (c ++ (stop ∷ x)))) (run_stops (is_content comment_byte) b (c ++ (stop ∷ x)) e) ∙ sym (ap (λ (n : ℕ). take n (b ∷ c)) (run_stops (is_content comment_byte) b c e)))

return_stops : is_content comment_byte carriage_return ≡ false
unfolding is_content is_before both
return_stops = refl

return_unfed : is_before line_feed carriage_return ≡ true
unfolding is_before
return_unfed = refl

all_joined : (p : ℕ → Bool) (x y : List ℕ) → all p x ≡ true → all p y ≡ true → all p (x ++ y) ≡ true
all_joined p [] y e f = f
all_joined p (b ∷ x) y e f = all_cons p b (x ++ y) ∙ both_true _ _ (both_first _ _ (sym (all_cons p b x) ∙ e)) (all_joined p x y (both_second _ _ (sym (all_cons p b x) ∙ e)) f)

-- a line with a CR before its LF
abbrev pub with_return : List ℕ → List ℕ
with_return c = c ++ (carriage_return ∷ [])

return_whole : {c : List ℕ} → Whole c → Whole (with_return c)
return_whole {c} w =
    record { no_feed = all_joined (is_before line_feed) c (carriage_return ∷ []) w.no_feed (all_cons (is_before line_feed) carriage_return [] ∙ both_true _ _ return_unfed (all_nil (is_before line_feed))) }

returns_whole : {ls : List (List ℕ)} → Each Whole ls → Each Whole (map with_return ls)
returns_whole Each.none = Each.none
returns_whole (Each.more w ws) = Each.more (return_whole w) (returns_whole ws)

returns_say : (ls : List (List ℕ)) → All2 Everywhere ls (map with_return ls)
returns_say [] = All2.none
returns_say (c ∷ ls) = All2.more (everywhere (λ (p : ℕ). content_says p (content c) (content (with_return c)) (sym (content_cut carriage_return [] return_stops c)))) (returns_say ls)

-- "LF, or CR right before LF": every LF of a text a CR LF
pub returns_alike : (ls : List (List ℕ)) → Each Whole ls → Alike (text_of ls) (text_of (map with_return ls))
returns_alike ls w = everywhere_alike ls (map with_return ls) w (returns_whole w) (returns_say ls)

-- ---- lines that differ in blanks alone

pub blank_same : (a b : List ℕ) → squeezed a ≡ squeezed b → is_blank_line a ≡ is_blank_line b
unfolding is_blank_line
blank_same a b s = sym (squeezed_all is_blank (λ (c : ℕ) (e : is_blank c ≡ true). e) a) ∙ ap (all is_blank) s ∙ squeezed_all is_blank (λ (c : ℕ) (e : is_blank c ≡ true). e) b

words_say : (p : ℕ) (a b : List ℕ) → is_open (get_or (squeezed a) 0 0) ≡ false → squeezed a ≡ squeezed b → SaysIn p a b
words_say p a b o s =
    by_cases (SaysIn p a b) (is_blank_line a) (λ (h : is_blank_line a ≡ true). both_blank h (sym (blank_same a b s) ∙ h))
    (λ (h : is_blank_line a ≡ false). says_same h (sym (blank_same a b s) ∙ h) (unbracketed_lines p a b o s))

pub bracket_filled : is_blank (code "[") ≡ false
unfolding is_blank either
bracket_filled = refl

pub bracket_not_blank : (name x : List ℕ) → is_blank_line (bracketed name x) ≡ false
unfolding is_blank_line
bracket_not_blank name x = all_cons is_blank (code "[") _ ∙ both_not_left _ _ bracket_filled

-- what two lines of a text have in their contents, if they differ in blanks, comments and terminators alone
pub data BlanksApart (a b : List ℕ) : Type 0 where
  -- the same bytes before the comment
  unchanged : content a ≡ content b → BlanksApart a b
  -- a line that opens no bracket: the blanks between its words, in front and at the end
  by_words : is_open (get_or (squeezed (content a)) 0 0) ≡ false → squeezed (content a) ≡ squeezed (content b) → BlanksApart a b
  -- a keyword that takes the argument: the blanks behind the bracket
  by_argument :
      (name other x y : List ℕ) → content a ≡ bracketed name x → content b ≡ bracketed other y → all is_not_closing name ≡ true →
      all is_not_closing other ≡ true → (k start there : ℕ) → bracket_of (bracketed name x) ≡ Keyword k start →
      bracket_of (bracketed other y) ≡ Keyword k there → is_bad_argument k (argument_text (bracketed name x)) ≡ false →
      squeezed x ≡ squeezed y → BlanksApart a b

apart_says : {a b : List ℕ} → BlanksApart a b → Everywhere a b
apart_says {a} {b} (unchanged e) = everywhere (λ (p : ℕ). content_says p (content a) (content b) e)
apart_says {a} {b} (by_words o s) = everywhere (λ (p : ℕ). words_say p (content a) (content b) o s)
apart_says {a} {b} (by_argument name other x y ea eb inside also k start there e f good s) =
    everywhere
    (λ (p : ℕ). rw (ea, eb) (says_same (bracket_not_blank name x) (bracket_not_blank other y) (keyword_blanks p name other x y inside also k start there e f good s)))

aparts_say : {ls ms : List (List ℕ)} → All2 BlanksApart ls ms → All2 Everywhere ls ms
aparts_say All2.none = All2.none
aparts_say (All2.more h hs) = All2.more (apart_says h) (aparts_say hs)

-- "comments .. or blanks between words": texts whose lines differ in these alone, all lines at once
pub blanks_alike : (ls ms : List (List ℕ)) → Each Whole ls → Each Whole ms → All2 BlanksApart ls ms → Alike (text_of ls) (text_of ms)
blanks_alike ls ms v w s = everywhere_alike ls ms v w (aparts_say s)

-- ---- every blank of a text written otherwise

pub content_none : content [] ≡ []
unfolding content_of
content_none = ap (λ (n : ℕ). take n []) (run_nil (is_content comment_byte))

module _ (b : ℕ) (s : List ℕ) where
  pub content_more : is_content comment_byte b ≡ true → content (b ∷ s) ≡ b ∷ content s
  unfolding content_of
  content_more e = ap (λ (n : ℕ). take n (b ∷ s)) (run_goes (is_content comment_byte) b s e)

  pub content_ends : is_content comment_byte b ≡ false → content (b ∷ s) ≡ []
  unfolding content_of
  content_ends e = ap (λ (n : ℕ). take n (b ∷ s)) (run_stops (is_content comment_byte) b s e)

space_content : is_content comment_byte space ≡ true
unfolding is_content is_before both
space_content = refl

tab_content : is_content comment_byte tab ≡ true
unfolding is_content is_before both
tab_content = refl

pub opening_content : is_content comment_byte (code "[") ≡ true
unfolding is_content is_before both
opening_content = refl

closing_content : is_content comment_byte (code "]") ≡ true
unfolding is_content is_before both
closing_content = refl

blank_content : (b : ℕ) → is_blank b ≡ true → is_content comment_byte b ≡ true
unfolding is_blank
blank_content b e =
    by_cases _ (eqb b space) (λ (h : eqb b space ≡ true). ap (is_content comment_byte) (eqb-true b space h) ∙ space_content)
    (λ (h : eqb b space ≡ false). ap (is_content comment_byte) (eqb-true b tab (sym (either_rest _ _ h) ∙ e)) ∙ tab_content)

-- a way to write the blanks of a line otherwise; a byte that is no blank stays
pub record Respells (f : List ℕ → List ℕ) : Type 0 where
  pub squeezes : (s : List ℕ) → squeezed (f s) ≡ squeezed s
  pub contents : (s : List ℕ) → content (f s) ≡ f (content s)
  pub parts : (s : List ℕ) → is_parted (f s) ≡ is_parted s
  pub unfed : (s : List ℕ) → all (is_before line_feed) s ≡ true → all (is_before line_feed) (f s) ≡ true

-- a line, and the same line with its blanks written otherwise; of a keyword's line those behind the bracket
pub data Respelled (f : List ℕ → List ℕ) : List ℕ → List ℕ → Type 0 where
  plainly : (c : List ℕ) → is_open (get_or (squeezed (content c)) 0 0) ≡ false → Respelled f c (f c)
  keyed :
      (name x : List ℕ) → all is_not_closing name ≡ true → all (is_content comment_byte) name ≡ true →
      (k start : ℕ) → bracket_of (bracketed name (content x)) ≡ Keyword k start →
      is_bad_argument k (argument_text (bracketed name (content x))) ≡ false → Respelled f (bracketed name x) (bracketed name (f x))

content_name : (name x : List ℕ) → all (is_content comment_byte) name ≡ true → content (name ++ (code "]" ∷ x)) ≡ name ++ (code "]" ∷ content x)
unfolding all
content_name [] x e = content_more (code "]") x closing_content
content_name (b ∷ name) x e = content_more b (name ++ (code "]" ∷ x)) (both_first _ _ e) ∙ ap (λ (s : List ℕ). b ∷ s) (content_name name x (both_second _ _ e))

pub content_bracket : (name x : List ℕ) → all (is_content comment_byte) name ≡ true → content (bracketed name x) ≡ bracketed name (content x)
content_bracket name x e = content_more (code "[") (name ++ (code "]" ∷ x)) opening_content ∙ ap (λ (s : List ℕ). code "[" ∷ s) (content_name name x e)

module _ (f : List ℕ → List ℕ) (r : Respells f) where
  respelled_apart : {a b : List ℕ} → Respelled f a b → BlanksApart a b
  respelled_apart (plainly c o) = by_words o (sym (r.squeezes (content c)) ∙ ap squeezed (sym (r.contents c)))
  respelled_apart (keyed name x inside shown k start e good) =
      by_argument name name (content x) (f (content x)) (content_bracket name x shown)
      (content_bracket name (f x) shown ∙ ap (bracketed name) (r.contents x)) inside inside k start (argument_at (bracketed name (f (content x)))) e
      (bracket_kept name (content x) (f (content x)) inside k start e (r.parts (content x) ∙ bracket_parted name (content x) inside k start e)) good
      (sym (r.squeezes (content x)))

  respelled_aparts : {ls ms : List (List ℕ)} → All2 (Respelled f) ls ms → All2 BlanksApart ls ms
  respelled_aparts All2.none = All2.none
  respelled_aparts (All2.more h hs) = All2.more (respelled_apart h) (respelled_aparts hs)

  -- all lines of a text at once
  pub respelled_alike : (ls ms : List (List ℕ)) → Each Whole ls → Each Whole ms → All2 (Respelled f) ls ms → Alike (text_of ls) (text_of ms)
  respelled_alike ls ms v w s = blanks_alike ls ms v w (respelled_aparts s)

doubled_contents : (s : List ℕ) → content (doubled s) ≡ doubled (content s)
unfolding doubled
doubled_contents [] = content_none ∙ sym (ap doubled content_none)
doubled_contents (b ∷ s) =
    by_cases _ (is_blank b)
    (λ (e : is_blank b ≡ true).
    let c : is_content comment_byte b ≡ true = blank_content b e in
    ap content (double_blank b s e) ∙ content_more b (b ∷ doubled s) c ∙ ap (λ (x : List ℕ). b ∷ x) (content_more b (doubled s) c ∙ ap (λ (x : List ℕ). b ∷ x) (doubled_contents s))
    ∙ sym (ap doubled (content_more b s c) ∙ double_blank b (content s) e))
    (λ (e : is_blank b ≡ false).
    ap content (double_byte b s e)
    ∙ by_cases _ (is_content comment_byte b)
    (λ (c : is_content comment_byte b ≡ true). content_more b (doubled s) c ∙ ap (λ (x : List ℕ). b ∷ x) (doubled_contents s) ∙ sym (ap doubled (content_more b s c) ∙ double_byte b (content s) e))
    (λ (c : is_content comment_byte b ≡ false). content_ends b (doubled s) c ∙ sym (ap doubled (content_ends b s c))))

doubled_parts : (s : List ℕ) → is_parted (doubled s) ≡ is_parted s
unfolding doubled is_parted
doubled_parts [] = refl
doubled_parts (b ∷ s) =
    by_cases _ (is_blank b) (λ (e : is_blank b ≡ true). ap is_parted (double_blank b s e)) (λ (e : is_blank b ≡ false). ap is_parted (double_byte b s e))

doubled_unfed : (s : List ℕ) → all (is_before line_feed) s ≡ true → all (is_before line_feed) (doubled s) ≡ true
unfolding doubled
doubled_unfed [] h = h
doubled_unfed (b ∷ s) h =
    let p : both (is_before line_feed b) (all (is_before line_feed) s) ≡ true = sym (all_cons (is_before line_feed) b s) ∙ h in
    let one : all (is_before line_feed) (b ∷ doubled s) ≡ true = all_cons (is_before line_feed) b (doubled s) ∙ both_true _ _ (both_first _ _ p) (doubled_unfed s (both_second _ _ p)) in
    by_cases _ (is_blank b)
    (λ (e : is_blank b ≡ true). ap (all (is_before line_feed)) (double_blank b s e) ∙ all_cons (is_before line_feed) b (b ∷ doubled s) ∙ both_true _ _ (both_first _ _ p) one)
    (λ (e : is_blank b ≡ false). ap (all (is_before line_feed)) (double_byte b s e) ∙ one)

-- every blank two
pub doubled_respells : Respells doubled
doubled_respells = record { squeezes = doubled_squeezed; contents = doubled_contents; parts = doubled_parts; unfed = doubled_unfed }

tabbed_contents : (s : List ℕ) → content (tabbed s) ≡ tabbed (content s)
unfolding tabbed
tabbed_contents [] = content_none ∙ sym (ap tabbed content_none)
tabbed_contents (b ∷ s) =
    by_cases _ (eqb b space)
    (λ (e : eqb b space ≡ true).
    let c : is_content comment_byte b ≡ true = ap (is_content comment_byte) (eqb-true b space e) ∙ space_content in
    ap content (tab_space b s e) ∙ content_more tab (tabbed s) tab_content ∙ ap (λ (x : List ℕ). tab ∷ x) (tabbed_contents s) ∙ sym (ap tabbed (content_more b s c) ∙ tab_space b (content s) e))
    (λ (e : eqb b space ≡ false).
    ap content (tab_byte b s e)
    ∙ by_cases _ (is_content comment_byte b)
    (λ (c : is_content comment_byte b ≡ true). content_more b (tabbed s) c ∙ ap (λ (x : List ℕ). b ∷ x) (tabbed_contents s) ∙ sym (ap tabbed (content_more b s c) ∙ tab_byte b (content s) e))
    (λ (c : is_content comment_byte b ≡ false). content_ends b (tabbed s) c ∙ sym (ap tabbed (content_ends b s c))))

tabbed_parts : (s : List ℕ) → is_parted (tabbed s) ≡ is_parted s
unfolding tabbed is_parted
tabbed_parts [] = refl
tabbed_parts (b ∷ s) =
    by_cases _ (eqb b space) (λ (h : eqb b space ≡ true). ap is_parted (tab_space b s h) ∙ tab_blank ∙ sym (ap is_blank (eqb-true b space h) ∙ space_blank))
    (λ (h : eqb b space ≡ false). ap is_parted (tab_byte b s h))

tab_unfed : is_before line_feed tab ≡ true
unfolding is_before
tab_unfed = refl

tabbed_unfed : (s : List ℕ) → all (is_before line_feed) s ≡ true → all (is_before line_feed) (tabbed s) ≡ true
unfolding tabbed
tabbed_unfed [] h = h
tabbed_unfed (b ∷ s) h =
    let p : both (is_before line_feed b) (all (is_before line_feed) s) ≡ true = sym (all_cons (is_before line_feed) b s) ∙ h in
    let later : all (is_before line_feed) (tabbed s) ≡ true = tabbed_unfed s (both_second _ _ p) in
    by_cases _ (eqb b space)
    (λ (e : eqb b space ≡ true). ap (all (is_before line_feed)) (tab_space b s e) ∙ all_cons (is_before line_feed) tab (tabbed s) ∙ both_true _ _ tab_unfed later)
    (λ (e : eqb b space ≡ false). ap (all (is_before line_feed)) (tab_byte b s e) ∙ all_cons (is_before line_feed) b (tabbed s) ∙ both_true _ _ (both_first _ _ p) later)

-- a TAB for every space
pub tabbed_respells : Respells tabbed
tabbed_respells = record { squeezes = tabbed_squeezed; contents = tabbed_contents; parts = tabbed_parts; unfed = tabbed_unfed }
