-- Every text that breaks no rule of the reading stays alike when all its blanks are written otherwise at once, those
-- inside brackets left as they are: every blank two, or a TAB for every space. No premise on its lines is left.
-- Assumes nothing.
use mathlib.Core.Path.{◌≡◌, refl, sym, ◌∙◌, ap, subst}
use mathlib.Core.Bool.{true, false, not, true≢false}
use mathlib.Core.List.{List, [], ◌∷◌, ◌++◌, map}
use Prim.Native.Nat.{ℕ, ◌+◌, ◌≤◌}
use Prim.Native.Char.{code}
use native.Mathlib.Omega.{arith}
use lib.ListN.{get_or}
use lib.Dec.{ltb, eqb}
use borrow.Author.Tests.{eq-eqb, ne_eqb, eqb-true, eqb-false, ltb-false, not-false}
use Rattle.base.specs.If.{provided◌then◌else◌, both}
use Rattle.base.specs.Bytes.{line_feed, is_blank, is_before, is_content}
use Rattle.base.specs.Runs.{run, all}
use Rattle.base.proofs.IfLaws.{if_true, if_false, by_cases, both_true, both_first, both_second, both_not_left, both_rest, either_left, either_right, not_via}
use Rattle.base.proofs.RunLaws.{run_stops, all_nil, all_cons}
use Rattle.lex_line.specs.Lines.{comment_byte, Said, is_blank_line}
use Rattle.lex_keyword.specs.Names.{begin_header}
use Rattle.lex_keyword.specs.Bracket.{bracket_of, is_open, is_not_closing, argument_at}
use Rattle.lex_keyword.specs.declared.Bracket.{Bracket}
use Rattle.lex_keyword.specs.declared.Bracket.TheVariants.{Plain, Indented, Bad, Unknown, Later, Keyword}
use Rattle.line_place.specs.Place.{before, done}
use Rattle.line_argument.specs.Argument.{is_bad_argument}
use Rattle.line_keyword.specs.State.{start_state}
use Rattle.line_keyword.specs.declared.Counts.{Counts}
use Rattle.line_keyword.specs.declared.State.{State}
use Rattle.read_line.specs.Reading.{argument_from, goes, breaks, judged, line_result, onward, read_from, reading_of}
use Rattle.read_line.specs.Way.Steps.{keyword_step, bracket_step, before_step}
use Rattle.read_line.specs.declared.LineResult.{LineResult}
use Rattle.read_line.specs.declared.Reading.TheVariants.{Read}
use Rattle.read_line.proofs.ResultLaws.{result_steps, refused_not_read}
use Rattle.doc.specs.Lines.{Line, plain, key_in, argument_in, key_at, place_after}
use Rattle.doc.specs.Holds.{Each}
use Rattle.doc.proofs.BodyLaws.{keyword_argument}
use Rattle.doc.proofs.Goes.{Moved, line_moves, moves_place}
use Rattle.law_alike.specs.Alike.{argument_text, is_unread, SameSaying, same_words, same_unread, Alike}
use Rattle.law_alike.specs.Way.Squeezed.{doubled, tabbed, behind_bracket, respelt}
use Rattle.law_alike.proofs.WideLaws.{text_of, Whole, said_of, text_contents}
use Rattle.law_alike.proofs.RelationLaws.{unread_same}
use Rattle.law_alike.proofs.SqueezedLaws.{same_squeezed, squeezed_first}
use Rattle.law_alike.proofs.ArgumentLaws.{bracketed, is_parted, bracket_kept, bracket_parted, bracket_key_same, bracket_keyed}
use Rattle.law_alike.proofs.WidthLaws.{no_bracket, keyword_blanks}
use Rattle.law_alike.proofs.EachLineLaws.{content, SaysIn, both_blank, says_same, EachSays, each_alike, content_says, blank_same, bracket_filled, bracket_not_blank, content_none, content_more, content_ends, content_bracket, opening_content, Respells, doubled_respells, tabbed_respells}

-- ---- what a line that breaks no rule says

data Told (p : ℕ) (c : List ℕ) : Type 0 where
  passed : is_unread p c ≡ true → Told p c
  worded : key_at c ≡ plain → Told p c
  keyed : (k start : ℕ) → bracket_of c ≡ Keyword k start → is_bad_argument k (argument_text c) ≡ false → Told p c

judged_zero : (k : ℕ) (next s : State) → (judged k next s).rule ≡ 0 → k ≡ 0
unfolding judged breaks
judged_zero k next s =
    by_cases ((judged k next s).rule ≡ 0 → k ≡ 0) (eqb k 0)
    (λ (e : eqb k 0 ≡ true) (h : (judged k next s).rule ≡ 0). eqb-true _ _ e)
    (λ (e : eqb k 0 ≡ false) (h : (judged k next s).rule ≡ 0). ap (λ (x : LineResult). x.rule) (sym (if_false (goes next) (breaks k s) e)) ∙ h)

module _ (c : List ℕ) (s : State) where
  unread_done : s.place ≡ done → is_unread s.place c ≡ true
  unfolding is_unread
  unread_done e = either_left _ _ (eq-eqb _ _ e)

  unread_before : s.place ≡ before → (k : ℕ) → key_at c ≡ k → (k ≡ begin_header → ⊥) → is_unread s.place c ≡ true
  unfolding is_unread
  unread_before e k q n = either_right _ _ (both_true _ _ (eq-eqb _ _ e) (not_via (ne_eqb _ _ (λ (h : key_at c ≡ begin_header). n (sym q ∙ h)))))

  key_told : (k start : ℕ) → bracket_of c ≡ Keyword k start → (keyword_step k (argument_from c start) s).rule ≡ 0 → Told s.place c
  unfolding keyword_step
  key_told k start b h =
      keyed k start b
      (ap (λ (x : Bracket). is_bad_argument k (argument_from c (argument_in x))) b ∙ keyword_argument k (argument_from c start) s (judged_zero _ _ _ h))

  read_told : (b : Bracket) → bracket_of c ≡ b → (bracket_step b c s).rule ≡ 0 → Told s.place c
  unfolding breaks key_at
  read_told Plain b h = worded (ap key_in b)
  read_told Indented b h = worded (ap key_in b)
  read_told Bad b h = absurd (omega (arith, h))
  read_told Unknown b h = absurd (omega (arith, h))
  read_told Later b h = absurd (omega (arith, h))
  read_told (Keyword k start) b h = key_told k start b h

  early_told : (b : Bracket) → bracket_of c ≡ b → s.place ≡ before → (before_step b c s).rule ≡ 0 → Told s.place c
  unfolding key_at
  early_told Plain b p h = worded (ap key_in b)
  early_told Indented b p h = worded (ap key_in b)
  early_told Bad b p h = passed (unread_before p 40 (ap key_in b) (λ (x : 40 ≡ begin_header). omega arith))
  early_told Unknown b p h = passed (unread_before p 40 (ap key_in b) (λ (x : 40 ≡ begin_header). omega arith))
  early_told Later b p h = passed (unread_before p 40 (ap key_in b) (λ (x : 40 ≡ begin_header). omega arith))
  early_told (Keyword k start) b p h =
      by_cases (Told s.place c) (eqb k begin_header)
      (λ (t : eqb k begin_header ≡ true). key_told k start b (ap (λ (y : LineResult). y.rule) (sym (if_true _ _ t)) ∙ h))
      (λ (t : eqb k begin_header ≡ false). passed (unread_before p k (ap key_in b) (eqb-false _ _ t)))

  told : is_blank_line c ≡ false → (line_result c s).rule ≡ 0 → Told s.place c
  told blank h =
      by_cases (Told s.place c) (eqb s.place done)
      (λ (d : eqb s.place done ≡ true). passed (unread_done (eqb-true _ _ d)))
      (λ (d : eqb s.place done ≡ false).
      by_cases (Told s.place c) (eqb s.place before)
      (λ (p : eqb s.place before ≡ true).
      let x : line_result c s ≡ before_step (bracket_of c) c s = result_steps c s ∙ if_false _ _ blank ∙ if_false _ _ d ∙ if_true _ _ p in
      early_told (bracket_of c) refl (eqb-true _ _ p) (ap (λ (y : LineResult). y.rule) (sym x) ∙ h))
      (λ (p : eqb s.place before ≡ false).
      let x : line_result c s ≡ bracket_step (bracket_of c) c s = result_steps c s ∙ if_false _ _ blank ∙ if_false _ _ d ∙ if_false _ _ p in
      read_told (bracket_of c) refl (ap (λ (y : LineResult). y.rule) (sym x) ∙ h)))

-- ---- a line that does not open with a bracket in column 1

no_byte : is_open 0 ≡ false
unfolding is_open
no_byte = refl

blank_no_bracket : (b : ℕ) → is_blank b ≡ true → is_open b ≡ false
unfolding is_open
blank_no_bracket b e = ne_eqb b (code "[") (λ (q : b ≡ code "["). true≢false (sym e ∙ ap is_blank q ∙ bracket_filled))

-- it has no keyword: if its first byte that is not blank is a `[`, a blank stands before it
column_plain : (c : List ℕ) → is_open (get_or c 0 0) ≡ false → key_at c ≡ plain
unfolding key_at bracket_of
column_plain c e =
    by_cases _ (is_open (get_or c (run is_blank c) 0))
    (λ (h : is_open (get_or c (run is_blank c) 0) ≡ true).
    by_cases _ (ltb 0 (run is_blank c)) (λ (l : ltb 0 (run is_blank c) ≡ true). ap key_in (if_false _ _ (ap not h) ∙ if_true _ _ l))
    (λ (l : ltb 0 (run is_blank c) ≡ false).
    let z : run is_blank c ≡ 0 = let m : run is_blank c ≤ 0 = ltb-false 0 (run is_blank c) l in omega arith in
    absurd (true≢false (sym h ∙ ap (λ (n : ℕ). is_open (get_or c n 0)) z ∙ e))))
    (λ (h : is_open (get_or c (run is_blank c) 0) ≡ false). ap key_in (if_true _ _ (not_via h)))

parted_column : (c : List ℕ) → is_parted c ≡ true → is_open (get_or c 0 0) ≡ false
unfolding is_parted
parted_column [] e = no_byte
parted_column (b ∷ c) e = blank_no_bracket b e

unparted_first : (c : List ℕ) → is_parted c ≡ false → run is_blank c ≡ 0
unfolding is_parted
unparted_first [] e = absurd (true≢false e)
unparted_first (b ∷ c) e = run_stops is_blank b c e

content_first : (c : List ℕ) → is_open (get_or c 0 0) ≡ false → is_open (get_or (content c) 0 0) ≡ false
content_first [] e = ap (λ (x : List ℕ). is_open (get_or x 0 0)) content_none ∙ no_byte
content_first (b ∷ c) e =
    by_cases _ (is_content comment_byte b) (λ (h : is_content comment_byte b ≡ true). ap (λ (x : List ℕ). is_open (get_or x 0 0)) (content_more b c h) ∙ e)
    (λ (h : is_content comment_byte b ≡ false). ap (λ (x : List ℕ). is_open (get_or x 0 0)) (content_ends b c h) ∙ no_byte)

-- ---- a line that opens with a bracket in column 1

data Split (d : List ℕ) : Type 0 where
  closed : (name x : List ℕ) → d ≡ name ++ (code "]" ∷ x) → all is_not_closing name ≡ true → Split d
  unclosed : all is_not_closing d ≡ true → Split d

split_more : (b : ℕ) (d : List ℕ) → is_not_closing b ≡ true → Split d → Split (b ∷ d)
split_more b d e (closed name x h i) = closed (b ∷ name) x (ap (λ (y : List ℕ). b ∷ y) h) (all_cons is_not_closing b name ∙ both_true _ _ e i)
split_more b d e (unclosed i) = unclosed (all_cons is_not_closing b d ∙ both_true _ _ e i)

is_closing : (b : ℕ) → is_not_closing b ≡ false → b ≡ code "]"
unfolding is_not_closing
is_closing b e = eqb-true _ _ (not-false _ e)

split : (d : List ℕ) → Split d
split [] = unclosed (all_nil is_not_closing)
split (b ∷ d) =
    by_cases (Split (b ∷ d)) (is_not_closing b) (λ (e : is_not_closing b ≡ true). split_more b d e (split d))
    (λ (e : is_not_closing b ≡ false). closed [] d (ap (λ (x : ℕ). x ∷ d) (is_closing b e)) (all_nil is_not_closing))

opening_inside : is_not_closing (code "[") ≡ true
unfolding is_not_closing
opening_inside = refl

closing_outside : is_not_closing (code "]") ≡ false
unfolding is_not_closing
closing_outside = refl

is_opening : (b : ℕ) → is_open b ≡ true → b ≡ code "["
unfolding is_open
is_opening b e = eqb-true _ _ e

-- the content ends inside the bracket
content_stopped : (name z : List ℕ) → all (is_content comment_byte) name ≡ false → content (name ++ z) ≡ content name
content_stopped [] z e = absurd (true≢false (sym (all_nil (is_content comment_byte)) ∙ e))
content_stopped (b ∷ name) z e =
    by_cases _ (is_content comment_byte b)
    (λ (h : is_content comment_byte b ≡ true).
    content_more b (name ++ z) h ∙ ap (λ (y : List ℕ). b ∷ y) (content_stopped name z (sym (both_rest _ _ h) ∙ sym (all_cons (is_content comment_byte) b name) ∙ e)) ∙ sym (content_more b name h))
    (λ (h : is_content comment_byte b ≡ false). content_ends b (name ++ z) h ∙ sym (content_ends b name h))

module _ (f : List ℕ → List ℕ) where
  behind_more : (b : ℕ) (d : List ℕ) → is_not_closing b ≡ true → behind_bracket f (b ∷ d) ≡ b ∷ behind_bracket f d
  unfolding behind_bracket
  behind_more b d e = if_true _ _ e

  behind_closing : (d : List ℕ) → behind_bracket f (code "]" ∷ d) ≡ code "]" ∷ f d
  unfolding behind_bracket
  behind_closing d = if_false _ _ closing_outside

  behind_closed : (name x : List ℕ) → all is_not_closing name ≡ true → behind_bracket f (name ++ (code "]" ∷ x)) ≡ name ++ (code "]" ∷ f x)
  behind_closed [] x e = behind_closing x
  behind_closed (b ∷ name) x e =
      let h : both (is_not_closing b) (all is_not_closing name) ≡ true = sym (all_cons is_not_closing b name) ∙ e in
      behind_more b (name ++ (code "]" ∷ x)) (both_first _ _ h) ∙ ap (λ (y : List ℕ). b ∷ y) (behind_closed name x (both_second _ _ h))

  behind_unclosed : (d : List ℕ) → all is_not_closing d ≡ true → behind_bracket f d ≡ d
  unfolding behind_bracket
  behind_unclosed [] e = refl
  behind_unclosed (b ∷ d) e =
      let h : both (is_not_closing b) (all is_not_closing d) ≡ true = sym (all_cons is_not_closing b d) ∙ e in
      behind_more b d (both_first _ _ h) ∙ ap (λ (y : List ℕ). b ∷ y) (behind_unclosed d (both_second _ _ h))

  respelt_plain : (c : List ℕ) → is_open (get_or c 0 0) ≡ false → respelt f c ≡ f c
  unfolding respelt
  respelt_plain c e = if_false _ _ e

  respelt_opening : (d : List ℕ) → respelt f (code "[" ∷ d) ≡ code "[" ∷ behind_bracket f d
  unfolding respelt is_open
  respelt_opening d = if_true _ _ refl ∙ behind_more (code "[") d opening_inside

-- ---- one line

module _ (f : List ℕ → List ℕ) (r : Respells f) (p : ℕ) where
  other_plain : (c : List ℕ) → is_open (get_or c 0 0) ≡ false → key_at (f c) ≡ plain
  other_plain c e =
      by_cases _ (is_parted c) (λ (h : is_parted c ≡ true). column_plain (f c) (parted_column (f c) (r.parts c ∙ h)))
      (λ (h : is_parted c ≡ false).
      no_bracket (f c)
      (ap (λ (x : List ℕ). is_open (get_or x 0 0)) (r.squeezes c) ∙ ap is_open (sym (squeezed_first c)) ∙ ap (λ (n : ℕ). is_open (get_or c n 0)) (unparted_first c h) ∙ e))

  plain_says : (c : List ℕ) → is_open (get_or c 0 0) ≡ false → SaysIn p c (f c)
  plain_says c e =
      by_cases (SaysIn p c (f c)) (is_blank_line c) (λ (h : is_blank_line c ≡ true). both_blank h (blank_same (f c) c (r.squeezes c) ∙ h))
      (λ (h : is_blank_line c ≡ false).
      says_same h (blank_same (f c) c (r.squeezes c) ∙ h) (same_words (column_plain c e) (other_plain c e) (same_squeezed c (f c) (sym (r.squeezes c)))))

  module _ (name x : List ℕ) (inside : all is_not_closing name ≡ true) where
    key_says : Told p (bracketed name x) → SameSaying p (bracketed name x) (bracketed name (f x))
    key_says (passed u) = same_unread u (sym (unread_same p (bracketed name x) (bracketed name (f x)) (bracket_key_same name x (f x) inside (sym (r.parts x)))) ∙ u)
    key_says (worded e) = absurd (bracket_keyed name x inside e)
    key_says (keyed k start e good) =
        keyword_blanks p name name x (f x) inside inside k start (argument_at (bracketed name (f x))) e
        (bracket_kept name x (f x) inside k start e (r.parts x ∙ bracket_parted name x inside k start e)) good (sym (r.squeezes x))

  shown_says :
      (name x : List ℕ) → all is_not_closing name ≡ true → all (is_content comment_byte) name ≡ true → Told p (content (bracketed name x)) →
      SaysIn p (content (bracketed name x)) (content (bracketed name (f x)))
  shown_says name x inside shown t =
      let e : content (bracketed name x) ≡ bracketed name (content x) = content_bracket name x shown in
      let g : content (bracketed name (f x)) ≡ bracketed name (f (content x)) = content_bracket name (f x) shown ∙ ap (bracketed name) (r.contents x) in
      rw (e, g) (says_same (bracket_not_blank name (content x)) (bracket_not_blank name (f (content x))) (key_says name (content x) inside (subst (Told p) e t)))

  stopped_same : (name x y : List ℕ) → all (is_content comment_byte) name ≡ false → content (bracketed name x) ≡ content (bracketed name y)
  stopped_same name x y h =
      content_more (code "[") (name ++ (code "]" ∷ x)) opening_content
      ∙ ap (λ (z : List ℕ). code "[" ∷ z) (content_stopped name (code "]" ∷ x) h ∙ sym (content_stopped name (code "]" ∷ y) h))
      ∙ sym (content_more (code "[") (name ++ (code "]" ∷ y)) opening_content)

  bracket_says : (d : List ℕ) → Split d → Told p (content (code "[" ∷ d)) → SaysIn p (content (code "[" ∷ d)) (content (code "[" ∷ behind_bracket f d))
  bracket_says d (closed name x e inside) t =
      let g : behind_bracket f d ≡ name ++ (code "]" ∷ f x) = ap (behind_bracket f) e ∙ behind_closed f name x inside in
      let u : Told p (content (bracketed name x)) = subst (λ (z : List ℕ). Told p (content (code "[" ∷ z))) e t in
      rw (g, e)
      (by_cases (SaysIn p (content (bracketed name x)) (content (bracketed name (f x)))) (all (is_content comment_byte) name)
      (λ (h : all (is_content comment_byte) name ≡ true). shown_says name x inside h u)
      (λ (h : all (is_content comment_byte) name ≡ false). content_says p (content (bracketed name x)) (content (bracketed name (f x))) (stopped_same name x (f x) h)))
  bracket_says d (unclosed i) t = content_says p (content (code "[" ∷ d)) (content (code "[" ∷ behind_bracket f d)) (ap (λ (z : List ℕ). content (code "[" ∷ z)) (sym (behind_unclosed f d i)))

  opened_says : (c : List ℕ) → is_open (get_or c 0 0) ≡ true → Told p (content c) → SaysIn p (content c) (content (respelt f c))
  opened_says [] e t = absurd (true≢false (sym e ∙ no_byte))
  opened_says (b ∷ d) e t =
      let q : b ≡ code "[" = is_opening b e in
      subst (λ (x : ℕ). SaysIn p (content (x ∷ d)) (content (respelt f (x ∷ d)))) (sym q)
      (rw (respelt_opening f d) (bracket_says d (split d) (subst (λ (x : ℕ). Told p (content (x ∷ d))) q t)))

  opened_not_blank : (c : List ℕ) → is_open (get_or c 0 0) ≡ true → is_blank_line (content c) ≡ false
  unfolding is_blank_line
  opened_not_blank [] e = absurd (true≢false (sym e ∙ no_byte))
  opened_not_blank (b ∷ d) e =
      let q : b ≡ code "[" = is_opening b e in
      subst (λ (x : ℕ). all is_blank (content (x ∷ d)) ≡ false) (sym q)
      (ap (all is_blank) (content_more (code "[") d opening_content) ∙ all_cons is_blank (code "[") (content d) ∙ both_not_left _ _ bracket_filled)

  -- a line, if what it says is told where it is not blank
  line_says : (c : List ℕ) → (is_blank_line (content c) ≡ false → Told p (content c)) → SaysIn p (content c) (content (respelt f c))
  line_says c t =
      by_cases (SaysIn p (content c) (content (respelt f c))) (is_open (get_or c 0 0))
      (λ (e : is_open (get_or c 0 0) ≡ true). opened_says c e (t (opened_not_blank c e)))
      (λ (e : is_open (get_or c 0 0) ≡ false).
      let g : content (respelt f c) ≡ f (content c) = ap content (respelt_plain f c e) ∙ r.contents c in
      rw g (plain_says (content c) (content_first c e)))

-- ---- every line of a text that reads to its end

record Onward (n : ℕ) (r : Said) (rs : List Said) (s : State) (c : Counts) : Type 0 where
  kept : (line_result r.content s).rule ≡ 0
  rest : read_from (n + 1) rs (line_result r.content s).state ≡ Read c

run_on : (n : ℕ) (r : Said) (rs : List Said) (s : State) (c : Counts) → read_from n (r ∷ rs) s ≡ Read c → Onward n r rs s c
unfolding read_from onward
run_on n r rs s c h =
    by_cases (Onward n r rs s c) (eqb (line_result r.content s).rule 0)
    (λ (e : eqb (line_result r.content s).rule 0 ≡ true). record { kept = eqb-true _ _ e; rest = sym (if_true _ _ e) ∙ h })
    (λ (e : eqb (line_result r.content s).rule 0 ≡ false). absurd (refused_not_read _ _ c (sym (if_false _ _ e) ∙ h)))

blank_goes : (c : List ℕ) (s : State) → is_blank_line c ≡ true → (line_result c s).state ≡ s
unfolding goes
blank_goes c s e = ap (λ (y : LineResult). y.state) (result_steps c s ∙ if_true _ _ e)

-- the place after a line that is read
place_next : (c : List ℕ) (n : ℕ) (s : State) → (line_result c s).rule ≡ 0 → (line_result c s).state.place ≡ (provided is_blank_line c then s.place else place_after s.place c)
place_next c n s kept =
    by_cases _ (is_blank_line c) (λ (e : is_blank_line c ≡ true). ap (λ (x : State). x.place) (blank_goes c s e) ∙ sym (if_true _ _ e))
    (λ (e : is_blank_line c ≡ false).
    let l : Line = record { line = n; at = 0; place = s.place; content = c } in
    let m : Moved l s = line_moves l s e kept in
    ap (λ (x : State). x.place) m.is_next ∙ moves_place l s m.next m.moves ∙ sym (if_false _ _ e))

module _ (f : List ℕ → List ℕ) (r : Respells f) where
  read_says : (ls : List (List ℕ)) (n : ℕ) (s : State) (c : Counts) → read_from n (map said_of ls) s ≡ Read c → EachSays s.place ls (map (respelt f) ls)
  read_says [] n s c h = EachSays.none
  read_says (a ∷ ls) n s c h =
      let o : Onward n (said_of a) (map said_of ls) s c = run_on n (said_of a) (map said_of ls) s c h in
      EachSays.more (line_says f r s.place a (λ (b : is_blank_line (content a) ≡ false). told (content a) s b o.kept))
      (subst (λ (p : ℕ). EachSays p ls (map (respelt f) ls)) (place_next (content a) n s o.kept) (read_says ls (n + 1) (line_result (content a) s).state c o.rest))

  behind_unfed : (s : List ℕ) → all (is_before line_feed) s ≡ true → all (is_before line_feed) (behind_bracket f s) ≡ true
  unfolding behind_bracket
  behind_unfed [] h = h
  behind_unfed (b ∷ s) h =
      let p : both (is_before line_feed b) (all (is_before line_feed) s) ≡ true = sym (all_cons (is_before line_feed) b s) ∙ h in
      by_cases _ (is_not_closing b)
      (λ (e : is_not_closing b ≡ true). ap (all (is_before line_feed)) (if_true _ _ e) ∙ all_cons (is_before line_feed) b (behind_bracket f s) ∙ both_true _ _ (both_first _ _ p) (behind_unfed s (both_second _ _ p)))
      (λ (e : is_not_closing b ≡ false). ap (all (is_before line_feed)) (if_false _ _ e) ∙ all_cons (is_before line_feed) b (f s) ∙ both_true _ _ (both_first _ _ p) (r.unfed s (both_second _ _ p)))

  respelt_whole : {c : List ℕ} → Whole c → Whole (respelt f c)
  unfolding respelt
  respelt_whole {c} w =
      by_cases (Whole (respelt f c)) (is_open (get_or c 0 0))
      (λ (e : is_open (get_or c 0 0) ≡ true). record { no_feed = ap (all (is_before line_feed)) (if_true _ _ e) ∙ behind_unfed c w.no_feed })
      (λ (e : is_open (get_or c 0 0) ≡ false). record { no_feed = ap (all (is_before line_feed)) (if_false _ _ e) ∙ r.unfed c w.no_feed })

  respelts_whole : {ls : List (List ℕ)} → Each Whole ls → Each Whole (map (respelt f) ls)
  respelts_whole Each.none = Each.none
  respelts_whole (Each.more w ws) = Each.more (respelt_whole w) (respelts_whole ws)

  -- all blanks outside brackets written otherwise, in any text that breaks no rule of the reading
  pub respelt_alike : (ls : List (List ℕ)) → Each Whole ls → (c : Counts) → reading_of (text_of ls) ≡ Read c → Alike (text_of ls) (text_of (map (respelt f) ls))
  unfolding reading_of start_state
  respelt_alike ls v c h =
      each_alike ls (map (respelt f) ls) v (respelts_whole v) (read_says ls 1 start_state c (ap (λ (rs : List Said). read_from 1 rs start_state) (sym (text_contents ls v)) ∙ h))

-- every blank two
pub doubled_alike : (ls : List (List ℕ)) → Each Whole ls → (c : Counts) → reading_of (text_of ls) ≡ Read c → Alike (text_of ls) (text_of (map (respelt doubled) ls))
doubled_alike = respelt_alike doubled doubled_respells

-- a TAB for every space
pub tabbed_alike : (ls : List (List ℕ)) → Each Whole ls → (c : Counts) → reading_of (text_of ls) ≡ Read c → Alike (text_of ls) (text_of (map (respelt tabbed) ls))
tabbed_alike = respelt_alike tabbed tabbed_respells
