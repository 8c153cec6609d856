-- Laws of the lines of a path in their usual forms, recognized by their bytes.
-- Assumes nothing.
use mathlib.Core.Path.{◌≡◌, refl, sym, ◌∙◌, ap}
use mathlib.Core.Bool.{Bool, true, false, not}
use mathlib.Core.List.{List, [], ◌∷◌, ◌++◌}
use Prim.Native.Nat.{ℕ, suc, ◌+◌, ◌-◌, ◌≤◌, ◌<◌, zero-le}
use native.Mathlib.Nat.{zero-add, not-suc-le-zero}
use native.Mathlib.Omega.{arith}
use lib.ListN.{length, take, drop, get_or, length-drop, take-append-drop}
use lib.Seq.{drop-drop, length-take-le, take_all}
use lib.Dec.{eqb}
use borrow.Author.Tests.{eqb-true, not-true, not-false, lt-ltb}
use Rattle.base.specs.If.{provided◌then◌else◌, both, either}
use Rattle.base.specs.Bytes.{bytes, is_blank, is_filled, is_before}
use Rattle.base.specs.Runs.{run, all, same}
use Rattle.base.specs.Way.Class.{run_end}
use Rattle.base.specs.Way.Joined.{joined, is_byte, Joins}
use Rattle.base.proofs.IfLaws.{if_true}
use Rattle.base.proofs.RunLaws.{run_le, run_on, run_end_at, run_all, run_is}
use Rattle.base.proofs.JoinedLaws.{joined_same}
use Rattle.lex_line.specs.Words.{words_from, word_goes_on, grown, words, first_of, left_of, right_of, has_equals, to_equals}
use Rattle.lex_line.specs.Way.Spans.{word_span, first_two_of}
use Rattle.lex_line.proofs.WordLaws.{after_at, after_past, words_after}
use Rattle.lex_line.specs.declared.Span.{Span}
use Rattle.lex_line.proofs.FormLaws.{part_from}
use Rattle.line_argument.specs.Argument.{is_reserved}
use Rattle.line_path.specs.Path.{says_section, says_fork, says_endfork, saying_of}
use Rattle.line_path.specs.Way.Section.{span_from, plain_parts, wrong_section, amount_line, unit_line, is_parted, parts_line, name_right, section_parts}
use Rattle.line_path.specs.Way.Parts.{said_parts, parts_of, ParsesLine}
use Rattle.line_path.specs.Way.Usual.{mult_front, OpensMult, Paired, UsualSection, UsualFork, forks, ends}
use Rattle.line_path.specs.declared.PathParts.{PathParts}
use Rattle.line_path.proofs.PartLaws.{parses}

-- ---- bytes recognized by the number that they make

known : (xs ys : List ℕ) (w : ℕ) → length xs ≡ length ys → all is_byte ys ≡ true → Joins xs w → w ≡ joined ys → xs ≡ ys
known xs ys w long small j e = joined_same xs ys long j.bytes small (sym j.word ∙ e)

eight_long : (s : List ℕ) (at : ℕ) → at + 8 ≤ length s → length (take 8 (drop at s)) ≡ 8
eight_long s at h = length-take-le 8 (drop at s) (rw (length-drop at s) (omega arith))

four_long : (s : List ℕ) (at : ℕ) → at + 4 ≤ length s → length (take 4 (drop at s)) ≡ 4
four_long s at h = length-take-le 4 (drop at s) (rw (length-drop at s) (omega arith))

section_bytes : all is_byte (bytes "Section ") ≡ true
unfolding all is_byte both provided◌then◌else◌
section_bytes = refl

mult_bytes : all is_byte (bytes "on Mult=") ≡ true
unfolding all is_byte both provided◌then◌else◌
mult_bytes = refl

section_joined : joined (bytes "Section ") ≡ 2_336_927_755_366_786_387
unfolding joined
section_joined = refl

mult_joined : joined (bytes "on Mult=") ≡ 4_428_283_584_672_984_687
unfolding joined
mult_joined = refl

-- the front of a line, from its first eight bytes and from the eight bytes that begin at the sixth
opens_front : (c : List ℕ) → 13 ≤ length c → take 8 (drop 0 c) ≡ bytes "Section " → take 8 (drop 5 c) ≡ bytes "on Mult=" → c ≡ mult_front ++ drop 13 c
opens_front c long one two =
    let whole : c ≡ bytes "Section " ++ drop 8 c = sym (take-append-drop 8 c) ∙ ap (λ (x : List ℕ). x ++ drop 8 c) one in
    let from : drop 5 c ≡ bytes "on " ++ drop 8 c = ap (drop 5) whole in
    let more : bytes "on " ++ take 5 (drop 8 c) ≡ bytes "on Mult=" = sym (ap (take 8) from) ∙ two in
    let rest : take 5 (drop 8 c) ≡ bytes "Mult=" = ap (drop 3) more in
    let behind : drop 8 c ≡ bytes "Mult=" ++ drop 13 c =
    sym (take-append-drop 5 (drop 8 c)) ∙ ap (λ (x : List ℕ). x ++ drop 5 (drop 8 c)) rest ∙ ap (λ (x : List ℕ). bytes "Mult=" ++ x) (drop-drop 5 8 c) in
    whole ∙ ap (λ (x : List ℕ). bytes "Section " ++ x) behind

pub opens_told : (c : List ℕ) (a b : ℕ) → 13 ≤ length c → Joins (take 8 (drop 0 c)) a → a ≡ 2_336_927_755_366_786_387 → Joins (take 8 (drop 5 c)) b →
    eqb b 4_428_283_584_672_984_687 ≡ true → OpensMult c
opens_told c a b long one e two g =
    record {
      front =
          opens_front c long (known _ _ a (eight_long c 0 (omega arith)) section_bytes one (e ∙ sym section_joined))
          (known _ _ b (eight_long c 5 (omega arith)) mult_bytes two (eqb-true b _ g ∙ sym mult_joined));
      long = long;
    }

-- ---- two words with one blank between them

filled_blank : (b : ℕ) → is_filled b ≡ true → is_blank b ≡ false
unfolding is_filled
filled_blank b e = not-true (is_blank b) e

blank_filled : (b : ℕ) → is_filled b ≡ false → is_blank b ≡ true
unfolding is_filled
blank_filled b e = not-false (is_blank b) e

-- there is no blank where a word starts
no_blanks : (s : List ℕ) → 0 < run is_filled s → run is_blank s ≡ 0
no_blanks s h =
    run_is is_blank s 0 zero-le (λ k g. absurd (not-suc-le-zero g))
    (λ (g : 0 < length s). filled_blank _ (run_all is_filled s 0 h))

span : (a b c d : ℕ) → a ≡ c → b ≡ d → ◌≡◌ {A = Span} (record { start = a; end = b }) (record { start = c; end = d })
span a b c d e g = λ i. record { start = e i; end = g i }

pub pair_told : (s : List ℕ) (end name stop : ℕ) → end ≡ run_end is_filled s 0 → end < length s → name ≡ end + 1 → stop ≡ run_end is_filled s name →
    (stop ≡ name → ⊥) → stop ≡ length s → (end ≡ 0 → ⊥) → Paired s end
unfolding word_span
pair_told s end name stop is_end_lem inside is_name is_stop apart whole some =
    let zero_on : end ≡ run is_filled s = is_end_lem ∙ zero-add (run is_filled s) in
    let first_blanks : run is_blank s ≡ 0 = no_blanks s (omega arith) in
    let start : run_end is_blank s 0 ≡ 0 = zero-add (run is_blank s) ∙ first_blanks in
    let stop_is : stop ≡ run_end is_filled s (end + 1) = is_stop ∙ ap (run_end is_filled s) is_name in
    let behind : run is_blank (drop (end + 1) s) ≡ 0 = no_blanks (drop (end + 1) s) (omega arith) in
    let blank : is_blank (get_or s end 0) ≡ true = blank_filled _ (rw is_end_lem (run_end_at is_filled s 0 (rw is_end_lem at inside))) in
    let on : run is_blank (drop end s) ≡ suc (run is_blank (drop (end + 1) s)) = run_on is_blank s end inside blank in
    let next : run_end is_blank s end ≡ end + 1 = omega arith in
    record {
      some = omega arith;
      inside = let g : run is_filled (drop (end + 1) s) ≤ length (drop (end + 1) s) = run_le is_filled (drop (end + 1) s) in omega arith;
      first = span _ _ 0 end start (ap (run_end is_filled s) start ∙ sym is_end_lem);
      second = span _ _ (end + 1) (length s) next (ap (run_end is_filled s) next ∙ sym stop_is ∙ whole);
    }

module _ (s : List ℕ) (r : ℕ) (p : Paired s r) where
  pair_words : words s ≡ take (r - 0) s ∷ take (length s - (r + 1)) (drop (r + 1) s) ∷ []
  pair_words =
      let low : (word_span s 0).start < length s = rw p.first (let g : r + 1 < length s = p.inside in omega arith) in
      let up : (word_span s r).start < length s = rw p.second p.inside in
      let one : words_after s 0 ≡ take (r - 0) s ∷ words_after s r = rw p.first at (after_at s 0 low) in
      let two : words_after s r ≡ take (length s - (r + 1)) (drop (r + 1) s) ∷ words_after s (length s) = rw p.second at (after_at s r up) in
      let none : words_after s (length s) ≡ [] = after_past s (length s) (omega arith) in
      one ∙ ap (λ (ws : List (List ℕ)). take (r - 0) s ∷ ws) (two ∙ ap (λ (ws : List (List ℕ)). take (length s - (r + 1)) (drop (r + 1) s) ∷ ws) none)

-- ---- a line that starts with `Section Mult=`

front_says : (rest : List ℕ) → saying_of (first_of (words (mult_front ++ rest))) ≡ says_section
unfolding saying_of same words_from is_blank word_goes_on is_filled grown both either provided◌then◌else◌
front_says rest = refl

front_left : (rest : List ℕ) → left_of (mult_front ++ rest) ≡ bytes "Section" ∷ bytes "Mult" ∷ []
unfolding left_of run is_before words_from is_blank word_goes_on is_filled grown both either provided◌then◌else◌
front_left rest = refl

front_right : (rest : List ℕ) → right_of (mult_front ++ rest) ≡ words rest
unfolding right_of run is_before provided◌then◌else◌
front_right rest = refl

front_equals : (rest : List ℕ) → to_equals (mult_front ++ rest) ≡ 12
unfolding run is_before provided◌then◌else◌
front_equals rest = refl

module _ (c : List ℕ) (o : OpensMult c) where
  pub opens_says : says_section ≡ saying_of (first_of (words c))
  opens_says = sym (ap (λ (s : List ℕ). saying_of (first_of (words s))) o.front ∙ front_says (drop 13 c))

  opens_left : left_of c ≡ bytes "Section" ∷ bytes "Mult" ∷ []
  opens_left = ap left_of o.front ∙ front_left (drop 13 c)

  pub opens_right : right_of c ≡ words (drop 13 c)
  opens_right = ap right_of o.front ∙ front_right (drop 13 c)

  pub opens_equals : to_equals c ≡ 12
  opens_equals = ap (λ (s : List ℕ). to_equals s) o.front ∙ front_equals (drop 13 c)

  opens_has : has_equals c ≡ true
  unfolding has_equals
  opens_has =
      let e : to_equals c ≡ 12 = opens_equals in
      let g : 13 ≤ length c = o.long in
      lt-ltb (to_equals c) (length c) (omega arith)

-- ---- a Section line

parts_reserved : (a n : List ℕ) (name : Span) → is_reserved n ≡ true → parts_line (bytes "Section" ∷ bytes "Mult" ∷ []) (a ∷ n ∷ []) name ≡ wrong_section
unfolding parts_line is_parted both provided◌then◌else◌
parts_reserved a n name e = ap (λ (b : Bool). provided not b then unit_line (bytes "Mult") a name else wrong_section) e

parts_kept : (a n : List ℕ) (name : Span) → is_reserved n ≡ false → parts_line (bytes "Section" ∷ bytes "Mult" ∷ []) (a ∷ n ∷ []) name ≡ amount_line true a name
unfolding parts_line is_parted unit_line same both provided◌then◌else◌
parts_kept a n name e = ap (λ (b : Bool). provided not b then unit_line (bytes "Mult") a name else wrong_section) e

module _ (c : List ℕ) (end : ℕ) (u : UsualSection c end) where
  -- the words after the sign: its amount and its name
  pub usual_words : words (drop 13 c) ≡ take (end - 13) (drop 13 c) ∷ take (length c - (end + 1)) (drop (end + 1) c) ∷ []
  usual_words =
      let g : 13 < end = u.above in
      let long : length (drop 13 c) ≡ length c - 13 = length-drop 13 c in
      let one : end - 13 - 0 ≡ end - 13 = omega arith in
      let two : length (drop 13 c) - (end - 13 + 1) ≡ length c - (end + 1) = omega arith in
      let three : 13 + (end - 13 + 1) ≡ end + 1 = omega arith in
      let behind : drop (end - 13 + 1) (drop 13 c) ≡ drop (end + 1) c = drop-drop (end - 13 + 1) 13 c ∙ ap (λ (n : ℕ). drop n c) three in
      pair_words (drop 13 c) (end - 13) u.pair ∙ rw (one, two, behind) refl

  pub usual_right : right_of c ≡ take (end - 13) (drop 13 c) ∷ take (length c - (end + 1)) (drop (end + 1) c) ∷ []
  usual_right = opens_right c u.opens ∙ usual_words

  -- the name goes from the blank behind the amount to the end of the line
  abbrev name_span : Span
  name_span = record { start = end + 1; end = length c }

  usual_second : (first_two_of (drop 13 c)).second ≡ record { start = end - 13 + 1; end = length (drop 13 c) }
  unfolding first_two_of
  usual_second = ap (λ (w : Span). word_span (drop 13 c) w.end) u.pair.first ∙ u.pair.second

  usual_name : name_right c ≡ name_span
  usual_name =
      let g : 13 < end = u.above in
      let long : length (drop 13 c) ≡ length c - 13 = length-drop 13 c in
      let wide : 13 ≤ length c = u.opens.long in
      ap (λ (n : ℕ). span_from (n + 1) (first_two_of (drop (n + 1) c)).second) (opens_equals c u.opens)
      ∙ ap (span_from 13) usual_second
      ∙ span _ _ (end + 1) (length c) (omega arith) (omega arith)

  line_parts : parts_line (bytes "Section" ∷ bytes "Mult" ∷ []) (take (end - 13) (drop 13 c) ∷ take (length c - (end + 1)) (drop (end + 1) c) ∷ []) name_span ≡ parts_of c
  unfolding parts_of said_parts section_parts provided◌then◌else◌
  line_parts =
      (λ i. parts_line (sym (opens_left c u.opens) i) (sym usual_right i) (sym usual_name i))
      ∙ sym (if_true _ _ (opens_has c u.opens))
      ∙ ap (λ (n : ℕ). said_parts n c) (opens_says c u.opens)

  module _ (t : Bool) (tested : t ≡ is_reserved (take (length c - (end + 1)) (drop (end + 1) c))) (r : PathParts) where
    pub usual_reserved : t ≡ true → r ≡ wrong_section → r ≡ parts_of c
    usual_reserved e h = h ∙ sym (parts_reserved _ _ name_span (sym tested ∙ e)) ∙ line_parts

    pub usual_kept : t ≡ false → r ≡ amount_line true (take (end - 13) (drop 13 c)) name_span → r ≡ parts_of c
    usual_kept e h = h ∙ sym (parts_kept _ _ name_span (sym tested ∙ e)) ∙ line_parts

pub usual_told : (c : List ℕ) (t : Bool) (e : ℕ) → (t ≡ true → OpensMult c) → not t ≡ false → ((e ≡ 0 → ⊥) → Paired (take (length c - 13) (drop 13 c)) e) →
    (e ≡ 0 → ⊥) → UsualSection c (13 + e)
usual_told c t e opens g pair some =
    let e_is : 13 + e - 13 ≡ e = omega arith in
    let p : Paired (drop 13 c) e = rw (part_from c 13) at (pair some) in
    record { opens = opens (not-false t g); above = omega arith; pair = rw e_is p }

-- ---- a line of one word

fork_bytes : all is_byte (bytes "Fork") ≡ true
unfolding all is_byte both provided◌then◌else◌
fork_bytes = refl

fork_joined : joined (bytes "Fork") ≡ 1_802_661_702
unfolding joined
fork_joined = refl

endf_bytes : all is_byte (bytes "Endf") ≡ true
unfolding all is_byte both provided◌then◌else◌
endf_bytes = refl

endf_joined : joined (bytes "Endf") ≡ 1_717_857_861
unfolding joined
endf_joined = refl

small_bytes : all is_byte (bytes "fork") ≡ true
unfolding all is_byte both provided◌then◌else◌
small_bytes = refl

small_joined : joined (bytes "fork") ≡ 1_802_661_734
unfolding joined
small_joined = refl

pub fork_told : (c : List ℕ) (a : ℕ) → length c ≡ 4 → Joins (take 4 (drop 0 c)) a → a ≡ 1_802_661_702 → UsualFork c says_fork
fork_told c a long one e =
    let front : take 4 (drop 0 c) ≡ bytes "Fork" = known _ _ a (four_long c 0 (omega arith)) fork_bytes one (e ∙ sym fork_joined) in
    let whole : c ≡ bytes "Fork" = sym (take_all 4 c (omega arith)) ∙ front in
    rw whole forks

endfork_whole : (c : List ℕ) → length c ≡ 7 → take 4 (drop 0 c) ≡ bytes "Endf" → take 4 (drop 3 c) ≡ bytes "fork" → c ≡ bytes "Endfork"
endfork_whole c long one two =
    let whole : c ≡ bytes "Endf" ++ drop 4 c = sym (take-append-drop 4 c) ∙ ap (λ (x : List ℕ). x ++ drop 4 c) one in
    let short : length (drop 3 c) ≡ length c - 3 = length-drop 3 c in
    let from : drop 3 c ≡ bytes "fork" = sym (take_all 4 (drop 3 c) (omega arith)) ∙ two in
    let rest : drop 4 c ≡ bytes "ork" = ap (drop 1) (sym (ap (drop 3) whole) ∙ from) in
    whole ∙ ap (λ (x : List ℕ). bytes "Endf" ++ x) rest

pub endfork_told : (c : List ℕ) (a b : ℕ) → length c ≡ 7 → Joins (take 4 (drop 0 c)) a → a ≡ 1_717_857_861 → Joins (take 4 (drop 3 c)) b → b ≡ 1_802_661_734 →
    UsualFork c says_endfork
endfork_told c a b long one e two g =
    rw
    (endfork_whole c long (known _ _ a (four_long c 0 (omega arith)) endf_bytes one (e ∙ sym endf_joined))
    (known _ _ b (four_long c 3 (omega arith)) small_bytes two (g ∙ sym small_joined))) ends

fork_line : (c : List ℕ) (says : ℕ) (r : PathParts) → UsualFork c says → r ≡ plain_parts says true → r ≡ parts_of c
unfolding parts_of said_parts saying_of same words_from is_blank word_goes_on is_filled grown both either provided◌then◌else◌
fork_line c says r forks h = h
fork_line c says r ends h = h

-- ---- what the readers of these lines need

pub fork_parsed : (c : List ℕ) (says : ℕ) (r : PathParts) → ((says ≡ 0 → ⊥) → UsualFork c says) → (says ≡ 0 → ⊥) → r ≡ plain_parts says true → ParsesLine c r
fork_parsed c says r told n h = parses c r (fork_line c says r (told n) h)

pub opens_long : (c : List ℕ) (t : Bool) → (t ≡ true → OpensMult c) → not t ≡ false → 13 ≤ length c
opens_long c t opens g = (opens (not-false t g)).long

pub pair_above : (c : List ℕ) (e : ℕ) → ((e ≡ 0 → ⊥) → Paired (take (length c - 13) (drop 13 c)) e) → (e ≡ 0 → ⊥) → 13 + e < length c
pair_above c e pair some =
    let p : Paired (drop 13 c) e = rw (part_from c 13) at (pair some) in
    let long : length (drop 13 c) ≡ length c - 13 = length-drop 13 c in
    let g : e + 1 < length (drop 13 c) = p.inside in
    omega arith

pub usual_within : (c : List ℕ) (end : ℕ) → UsualSection c end → end + 1 < length c
usual_within c end u =
    let long : length (drop 13 c) ≡ length c - 13 = length-drop 13 c in
    let g : end - 13 + 1 < length (drop 13 c) = u.pair.inside in
    let h : 13 < end = u.above in
    omega arith

pub usual_in : (c : List ℕ) (end : ℕ) → ((end ≡ 0 → ⊥) → UsualSection c end) → (end ≡ 0 → ⊥) → UsualSection c end
usual_in c end told n = told n
