-- Laws of the names of a text that breaks no rule: each has 1 to 120 bytes and is in the text.
-- Assumes nothing.
use mathlib.Core.Path.{◌≡◌, refl, sym, ◌∙◌, ap}
use mathlib.Core.Bool.{true, false, not, true≢false}
use mathlib.Core.List.{List, [], ◌∷◌, map}
use mathlib.Core.Logic.{◌⊎◌, inl, inr}
use Prim.Native.Nat.{ℕ, suc, ◌+◌, ◌-◌, ◌≤◌, ◌<◌, zero-le, suc-le-suc}
use native.Mathlib.Nat.{add-zero, le_trans}
use native.Mathlib.Omega.{arith}
use lib.ListN.{length, drop, length-take, length-drop, length-map}
use lib.Dec.{ltb, leb, eqb}
use borrow.Author.Tests.{eqb-true, eqb-false, eq-eqb, ltb-true, ltb-false, leb-true, leb-false, not-false}
use Rattle.table_layout.specs.Codes.{end_kind, section_kind, fork_kind, endfork_kind}
use Rattle.table_layout.specs.Bounds.{most_steps}
use Rattle.base.specs.If.{provided◌then◌else◌, both, either}
use Rattle.base.specs.Bytes.{is_blank, carriage_return, is_before, is_content, is_printed}
use Rattle.base.specs.Runs.{run, all}
use Rattle.base.specs.Broken.{◌when◌, first, first_broken}
use Rattle.base.proofs.IfLaws.{
  if_true,
  if_false,
  by_cases,
  by_test,
  both_first,
  both_second,
  both_rest,
  both_not_right,
  either_rest,
  not_not_via,
}
use Rattle.base.proofs.RunLaws.{run_nil, run_cons, run_stops, run_le, all_nil, all_cons}
use Rattle.base.proofs.BrokenLaws.{all_kept, lists_yes, lists_no}
use Rattle.lex_line.specs.Lines.{lines, content_of, is_blank_line, comment_byte, contents, Raw, said}
use Rattle.lex_line.specs.Words.{Word, word_goes_on, grown, words_from, words, first_of, last_end, to_equals, right_of}
use Rattle.lex_line.specs.ByteRules.{size_rules, most_characters, without_return, characters, refused_or, lines_rule, byte_rules, raw_line_rule as raw_rule}
use Rattle.lex_line.specs.declared.Checked.{Checked}
use Rattle.lex_line.specs.declared.Span.{Span}
use Rattle.lex_line.specs.Way.Spans.{word_span}
use Rattle.lex_line.proofs.WordLaws.{start_on, end_past, word_ordered}
use Rattle.lex_line.specs.declared.Checked.TheVariants.{Fine, Refused}
use Rattle.lex_keyword.specs.Names.{icm_pin_map, begin_icm_model, begin_icm_section}
use Rattle.lex_keyword.specs.Bracket.{bracket_of}
use Rattle.line_place.specs.Place.{is_in_family, opens_matrix, is_row_or_bandwidth}
use Rattle.line_place.specs.Place as place
use Rattle.line_argument.specs.Argument.{is_one_word, is_name, takes_nothing, takes_name, is_bad_argument, is_bad_integer, is_out_of_bounds}
use Rattle.line_path.specs.Path.{saying_of, plain_line, names_one, is_section_line, section_line, line_saying, path_line_of, is_bad_fork, is_path_out_of_order, is_step_line}
use Rattle.line_path.specs.Path as path
use Rattle.line_path.specs.declared.Path.{Path}
use Rattle.line_path.proofs.RuleLaws.{path_closed, path_open_lem}
use Rattle.line_path.specs.declared.PathLine.{PathLine}
use Rattle.line_path.specs.Way.Rule.{open_rule, closed_rule, path_rule}
use Rattle.line_keyword.specs.Keywords.{is_fork_open, is_misplaced, is_shape_broken, is_past_bound}
use Rattle.line_keyword.specs.declared.State.{State}
use Rattle.line_keyword.specs.declared.Counts.{Counts}
use Rattle.line_keyword.specs.Way.Rule.{keyword_rule}
use Rattle.read_line.specs.Reading.{argument_from, reading_of}
use Rattle.read_line.specs.declared.Reading.TheVariants.{Read}
use Rattle.read_line.proofs.ResultLaws.{rule_path}
use Rattle.read_line.specs.Way.Steps.{line_rule}
use Rattle.doc.specs.Lines.{
  Line,
  plain,
  lines_from,
  lines_at,
  significant,
  key_of,
  argument_in,
  argument_of,
  words_of,
  right_words_of,
  no_word,
  first_word,
  second_word,
  stands_in,
}
use Rattle.doc.specs.Document.{Named, Step, Model, Map, Section, Document, saying_at, side_in, step_of, steps_in, opens_model, in_model, model_of, model_at, listed_at, opens_map, in_map, pin_at, map_of, map_at, opens_section, section_of, section_at, document_in, document_of}
use Rattle.doc.specs.Holds.{Each}
use Rattle.doc.specs.Way.Holds.{Stands, IsName}
use Rattle.doc.specs.Holds.Each.{none, more}
use Rattle.doc.proofs.Goes.{Goes, Moves, lines_blank, lines_said, lines_none, text_ends}
use Rattle.doc.proofs.Goes.Idle.{ended, waits}
use Rattle.doc.proofs.Goes.Moves.{idle, plainly, keyed}
use Rattle.doc.specs.Way.Found.{extent_of, extent_at}
use Rattle.doc.specs.declared.Extent.{Extent}
use Rattle.doc.proofs.ExtentLaws.{mark_none, mark_some, second_marked}
use Rattle.doc.proofs.StandsLaws.{each_map, each_join, each_gather, each_if, each_up, LineStands, words_stand, argument_stands, lines_stand}

-- ---- no line is too long

return_ends : (comment b : ℕ) → eqb b carriage_return ≡ true → is_content comment b ≡ false
unfolding is_content is_before
return_ends comment b e = both_not_right _ _ (both_not_right _ _ (not_not_via e))

-- a line's content ends before the CR of its terminator
content_run : (comment : ℕ) (s : List ℕ) → run (is_content comment) s ≤ length (without_return s)
unfolding without_return
content_run comment [] = rw (run_nil (is_content comment)) zero-le
content_run comment (b ∷ []) =
    by_test (λ (l : List ℕ). run (is_content comment) (b ∷ []) ≤ length l) (eqb b carriage_return) [] (b ∷ [])
    (λ (e : eqb b carriage_return ≡ true). rw (run_stops (is_content comment) b [] (return_ends comment b e)) zero-le)
    (λ (e : eqb b carriage_return ≡ false). run_le (is_content comment) (b ∷ []))
content_run comment (b ∷ c ∷ s) =
    rw (run_cons (is_content comment) b (c ∷ s))
    (by_test (λ (n : ℕ). n ≤ suc (length (without_return (c ∷ s)))) (is_content comment b) _ _
    (λ (e : is_content comment b ≡ true). suc-le-suc (content_run comment (c ∷ s))) (λ (e : is_content comment b ≡ false). zero-le))

content_long : (comment : ℕ) (s : List ℕ) → length (content_of comment s) ≤ run (is_content comment) s
unfolding content_of
content_long comment s = rw (length-take (run (is_content comment) s) s) (omega arith)

content_few : (comment : ℕ) (r : Raw) → length (content_of comment r.bytes) ≤ length (characters r)
unfolding characters
content_few comment r =
    by_test (λ (l : List ℕ). length (content_of comment r.bytes) ≤ length l) r.ended _ _
    (λ (e : r.ended ≡ true). le_trans (content_long comment r.bytes) (content_run comment r.bytes))
    (λ (e : r.ended ≡ false). le_trans (content_long comment r.bytes) (run_le (is_content comment) r.bytes))

refused_not_fine : (k n : ℕ) → Refused k n ≡ Fine → ⊥
refused_not_fine k n e =
    let z : ◌≡◌ {A = ℕ} 0 1 = cc in
    omega arith

module _ (k n : ℕ) (later : Checked) (h : refused_or k n later ≡ Fine) where
  judged_zero : k ≡ 0
  unfolding refused_or
  judged_zero =
      by_cases (k ≡ 0) (eqb k 0) (λ (e : eqb k 0 ≡ true). eqb-true _ _ e)
      (λ (e : eqb k 0 ≡ false). absurd (refused_not_fine k n (sym (if_false _ _ e) ∙ h)))

  judged_later : later ≡ Fine
  unfolding refused_or
  judged_later = sym (if_true later (Refused k n) (eq-eqb k 0 judged_zero)) ∙ h

line_short : (r : Raw) → raw_rule r ≡ 0 → length (said r).content ≤ most_characters
unfolding raw_rule said
line_short r h =
    let f : ltb most_characters (length (characters r)) ≡ false =
    all_kept
    (2 when not (all is_printed (characters r)) ∷ 3 when ltb most_characters (length (characters r)) ∷ 4 when not r.ended ∷ [])
    (omega arith, (omega arith, (omega arith, tt))) h 1 in
    le_trans (content_few comment_byte r) (ltb-false _ _ f)

abbrev Short : Line → Type 0
Short l = length l.content ≤ most_characters

lines_short : (n at p m : ℕ) (rs : List Raw) → lines_rule m rs ≡ Fine → Each Short (lines_from n at p (map said rs))
unfolding lines_rule
lines_short n at p m [] h = rw (lines_none n at p) none
lines_short n at p m (r ∷ rs) h =
    let z : raw_rule r ≡ 0 = judged_zero (raw_rule r) m (lines_rule (m + 1) rs) h in
    let later : lines_rule (m + 1) rs ≡ Fine = judged_later (raw_rule r) m (lines_rule (m + 1) rs) h in
    by_cases (Each Short (lines_from n at p (map said (r ∷ rs)))) (is_blank_line (said r).content)
    (λ (b : is_blank_line (said r).content ≡ true). rw (lines_blank n at p (said r) (map said rs) b) (lines_short (n + 1) _ p (m + 1) rs later))
    (λ (b : is_blank_line (said r).content ≡ false).
    rw (lines_said n at p (said r) (map said rs) b) (more (line_short r z) (lines_short (n + 1) _ _ (m + 1) rs later)))

text_short : (t : List ℕ) → byte_rules t ≡ Fine → Each Short (significant t)
unfolding byte_rules significant lines_at contents
text_short t h = lines_short 1 0 0 1 (lines t) (judged_later (first_broken (size_rules t)) 0 (lines_rule 1 (lines t)) h)

-- ---- words and their bytes

-- a word of some bytes, and of no more than n
record Sized (n : ℕ) (w : Word) : Type 0 where
  some : 1 ≤ length w.text
  few : length w.text ≤ n

sized_more : (m n : ℕ) {ws : List Word} → m ≤ n → Each (Sized m) ws → Each (Sized n) ws
sized_more m n h none = none
sized_more m n h (more k ks) = more (record { some = k.some; few = le_trans k.few h }) (sized_more m n h ks)

grown_sized : (n at b : ℕ) (ws : List Word) → Each (Sized n) ws → Each (Sized (suc n)) (grown at b ws)
unfolding grown
grown_sized n at b [] none = more (record { some = suc-le-suc zero-le; few = suc-le-suc zero-le }) none
grown_sized n at b (w ∷ ws) (more h hs) =
    more (record { some = suc-le-suc zero-le; few = suc-le-suc h.few }) (sized_more n (suc n) (omega arith) hs)

words_sized : (at : ℕ) (s : List ℕ) → Each (Sized (length s)) (words_from at s)
unfolding words_from
words_sized at [] = none
words_sized at (b ∷ s) =
    by_test (Each (Sized (suc (length s)))) (is_blank b) _ _
    (λ (e : is_blank b ≡ true). sized_more (length s) (suc (length s)) (omega arith) (words_sized (suc at) s))
    (λ (e : is_blank b ≡ false).
    by_test (Each (Sized (suc (length s)))) (word_goes_on s) _ _
    (λ (g : word_goes_on s ≡ true). grown_sized (length s) at b (words_from (suc at) s) (words_sized (suc at) s))
    (λ (g : word_goes_on s ≡ false).
    more (record {
      some =
          suc-le-suc zero-le;
      few = suc-le-suc zero-le;
    }) (sized_more (length s) (suc (length s)) (omega arith) (words_sized (suc at) s))))

grown_count : (a b c : ℕ) (ws vs : List Word) → length ws ≡ length vs → length (grown a c ws) ≡ length (grown b c vs)
unfolding grown
grown_count a b c [] [] e = refl
grown_count a b c [] (v ∷ vs) e = absurd (omega arith)
grown_count a b c (w ∷ ws) [] e = absurd (omega arith)
grown_count a b c (w ∷ ws) (v ∷ vs) e = e

-- there are as many, whatever their offset
words_count : (a b : ℕ) (s : List ℕ) → length (words_from a s) ≡ length (words_from b s)
unfolding words_from
words_count a b [] = refl
words_count a b (c ∷ s) =
    by_cases (length (words_from a (c ∷ s)) ≡ length (words_from b (c ∷ s))) (is_blank c)
    (λ (e : is_blank c ≡ true). ap length (if_true _ _ e) ∙ words_count (suc a) (suc b) s
    ∙ sym (ap length (if_true (words_from (suc b) s) _ e)))
    (λ (e : is_blank c ≡ false).
    by_cases (length (words_from a (c ∷ s)) ≡ length (words_from b (c ∷ s))) (word_goes_on s)
    (λ (g : word_goes_on s ≡ true).
    ap length (if_false _ _ e ∙ if_true _ _ g) ∙ grown_count a b c (words_from (suc a) s) (words_from (suc b) s)
    (words_count (suc a) (suc b) s)
    ∙ sym (ap length (if_false (words_from (suc b) s) _ e ∙ if_true (grown b c (words_from (suc b) s)) _ g)))
    (λ (g : word_goes_on s ≡ false).
    ap length (if_false _ _ e ∙ if_false _ _ g) ∙ ap suc (words_count (suc a) (suc b) s)
    ∙ sym (ap length (if_false (words_from (suc b) s) _ e ∙ if_false (grown b c (words_from (suc b) s)) _ g))))

grown_there : (a b : ℕ) (ws : List Word) → 1 ≤ length (grown a b ws)
unfolding grown
grown_there a b [] = suc-le-suc zero-le
grown_there a b (w ∷ ws) = suc-le-suc zero-le

-- a line that is not blank has a word
words_there : (a : ℕ) (s : List ℕ) → all is_blank s ≡ false → 1 ≤ length (words_from a s)
unfolding words_from
words_there a [] h = absurd (true≢false (sym (all_nil is_blank) ∙ h))
words_there a (b ∷ s) h =
    by_test (λ (ws : List Word). 1 ≤ length ws) (is_blank b) _ _
    (λ (e : is_blank b ≡ true). words_there (suc a) s (sym (both_rest (is_blank b) (all is_blank s) e) ∙ sym (all_cons is_blank b s) ∙ h))
    (λ (e : is_blank b ≡ false).
    by_test (λ (ws : List Word). 1 ≤ length ws) (word_goes_on s) _ _ (λ (g : word_goes_on s ≡ true). grown_there a b (words_from (suc a) s))
    (λ (g : word_goes_on s ≡ false). suc-le-suc zero-le))

-- ---- what a line that breaks no rule has

-- the argument of a keyword that takes a name is a name
module _ (k : ℕ) (argument : List ℕ) where
  bad_name : takes_name k ≡ true → is_bad_argument k argument ≡ not (is_name argument)
  unfolding is_bad_argument is_row_or_bandwidth opens_matrix takes_nothing takes_name either provided◌then◌else◌
  bad_name h =
      by_cases (is_bad_argument k argument ≡ not (is_name argument)) (eqb k begin_icm_model)
      (λ (e : eqb k begin_icm_model ≡ true). rw (eqb-true k begin_icm_model e))
      (λ (e : eqb k begin_icm_model ≡ false).
      by_cases (is_bad_argument k argument ≡ not (is_name argument)) (eqb k icm_pin_map)
      (λ (f : eqb k icm_pin_map ≡ true). rw (eqb-true k icm_pin_map f))
      (λ (f : eqb k icm_pin_map ≡ false).
      let g : eqb k begin_icm_section ≡ true = sym (either_rest _ _ e ∙ either_rest _ _ f) ∙ h in
      rw (eqb-true k begin_icm_section g)))

  keyword_named : (s : State) → keyword_rule k argument s ≡ 0 → takes_name k ≡ true → is_name argument ≡ true
  unfolding keyword_rule
  keyword_named s kept h =
      let b : is_bad_argument k argument ≡ false =
      all_kept
      (15 when is_fork_open s
      ∷ 9 when is_misplaced k s
      ∷ 11 when is_bad_argument k argument
      ∷ 13 when is_bad_integer k argument
      ∷ 14 when is_out_of_bounds k argument
      ∷ 16 when is_shape_broken k argument s
      ∷ 17 when is_past_bound k s
      ∷ [])
      (omega arith, (omega arith, (omega arith, (omega arith, (omega arith, (omega arith, (omega arith, tt))))))) kept 2 in
      not-false (is_name argument) (sym (bad_name h) ∙ b)

-- a line of a path has the form that its first word requires
module _ (l : PathLine) (p : Path) (steps : ℕ) where
  open_right : open_rule l p steps ≡ 0 → l.right ≡ true
  unfolding open_rule
  open_right kept =
      not-false l.right
      (all_kept
      (15 when is_bad_fork l p
      ∷ 11 when not l.right
      ∷ 12 when is_path_out_of_order l p
      ∷ 13 when not l.formed
      ∷ 14 when not l.bounded
      ∷ 17 when both (is_step_line l) (leb most_steps steps)
      ∷ [])
      (omega arith, (omega arith, (omega arith, (omega arith, (omega arith, (omega arith, tt)))))) kept 1)

  closed_right : closed_rule l p ≡ 0 → l.right ≡ true
  unfolding closed_rule first
  closed_right kept =
      by_cases (l.right ≡ true) (both (eqb l.says path.says_side) p.side)
      (λ (e : both (eqb l.says path.says_side) p.side ≡ true).
      not-false l.right (all_kept (11 when not l.right ∷ []) (omega arith, tt) (sym (lists_yes _ _ _ e) ∙ kept) 0))
      (λ (e : both (eqb l.says path.says_side) p.side ≡ false).
      let z : ◌≡◌ {A = ℕ} 12 0 = sym (lists_no _ _ _ e) ∙ kept in
      absurd (omega arith))

  path_right : path_rule l p steps ≡ 0 → l.right ≡ true
  path_right kept =
      by_cases (l.right ≡ true) (eqb p.stage path.closed)
      (λ (e : eqb p.stage path.closed ≡ true). closed_right (sym (path_closed l p steps e) ∙ kept))
      (λ (e : eqb p.stage path.closed ≡ false). open_right (sym (path_open_lem l p steps e) ∙ kept))

path_rule_lem : (content : List ℕ) (s : State) → s.place ≡ place.path →
    line_rule content s ≡ path_rule (path_line_of content) s.path s.counts.steps
path_rule_lem content s e = rule_path content s e

-- what the rules tell of a line that is read
record Kept (l : Line) : Type 0 where
  said : is_blank_line l.content ≡ false
  named : (l.place ≡ place.done → ⊥) → (l.place ≡ place.before → ⊥) → takes_name (key_of l) ≡ true → is_name (argument_of l).text ≡ true
  right : l.place ≡ place.path → key_of l ≡ plain → (path_line_of l.content).right ≡ true

module _ (l : Line) (s : State) (p : l.place ≡ s.place) where
  moves_named : {s' : State} → Moves l s s' → (l.place ≡ place.done → ⊥) → (l.place ≡ place.before → ⊥) →
      takes_name (key_of l) ≡ true → is_name (argument_of l).text ≡ true
  unfolding takes_name either
  moves_named (idle (ended e)) d b h = absurd (d (p ∙ e))
  moves_named (idle (waits e k)) d b h = absurd (b (p ∙ e))
  moves_named (plainly k kept) d b h =
      let z : false ≡ true = rw k at h in
      absurd (true≢false (sym z))
  moves_named (keyed k kept) d b h = keyword_named (key_of l) (argument_of l).text s kept h

  moves_right : {s' : State} → Moves l s s' → l.place ≡ place.path → key_of l ≡ plain → (path_line_of l.content).right ≡ true
  moves_right (idle (ended e)) h k = let z : ◌≡◌ {A = ℕ} 9 17 = sym h ∙ p ∙ e in absurd (omega arith)
  moves_right (idle (waits e w)) h k = let z : ◌≡◌ {A = ℕ} 9 0 = sym h ∙ p ∙ e in absurd (omega arith)
  moves_right (plainly q kept) h k =
      path_right (path_line_of l.content) s.path s.counts.steps (sym (path_rule_lem l.content s (sym p ∙ h)) ∙ kept)
  moves_right (keyed q kept) h k = absurd (eqb-false _ _ q k)

goes_kept : {s e : State} {ls : List Line} → Goes s ls e → Each Kept ls
goes_kept Goes.none = none
goes_kept (Goes.more {s = s} {l = l} p b m rest) =
    more (record { said = b; named = moves_named l s p m; right = moves_right l s p m }) (goes_kept rest)

-- ---- the names on a line

module _ {P : Word → Type 0} where
  first_is : (ws : List Word) → 1 ≤ length ws → Each P ws → P (first_word ws)
  first_is [] n none = absurd (omega arith)
  first_is (w ∷ ws) n (more h hs) = h

  second_is : (ws : List Word) → length ws ≡ 2 → Each P ws → P (second_word ws)
  second_is [] n none = absurd (omega arith)
  second_is (w ∷ ws) n (more h hs) =
      let m : 1 ≤ length ws = omega arith in
      first_is ws m hs

-- the offset of a line, and its length
record StandsShort (t : List ℕ) (l : Line) : Type 0 where
  stands : LineStands t l
  short : Short l

-- a line of a text that breaks no rule
record Written (t : List ℕ) (l : Line) : Type 0 where
  kept : Kept l
  stands : LineStands t l
  short : Short l

module _ (t : List ℕ) (l : Line) (h : Written t l) where
  -- the words from an offset of the line on
  words_named : (from : ℕ) → Each (IsName t) (words_from (l.at + from) (drop from l.content))
  words_named from =
      let s : length l.content ≤ most_characters = h.short in
      let d : length (drop from l.content) ≡ length l.content - from = length-drop from l.content in
      let m : length (drop from l.content) ≤ most_characters = omega arith in
      each_join
      (λ (w : Word) (a : Stands t w) (b : Sized (length (drop from l.content)) w).
      record { stands = a; some = b.some; few = le_trans b.few m })
      (words_stand t l.at l.content h.stands from) (words_sized (l.at + from) (drop from l.content))

  line_named : Each (IsName t) (words_of l)
  unfolding words_of
  line_named = rw (add-zero l.at) at (words_named 0)

  first_named_lem : IsName t (first_word (words_of l))
  unfolding words_of is_blank_line
  first_named_lem = first_is (words_of l) (words_there l.at l.content h.kept.said) line_named

  second_named : length (words l.content) ≡ 2 → IsName t (second_word (words_of l))
  unfolding words_of
  second_named e =
      let c : length (words l.content) ≡ length (words_from 0 l.content) =
      length-map (words_from 0 l.content) (λ (w : Word). w.text) in
      second_is (words_of l) (words_count l.at 0 l.content ∙ sym c ∙ e) line_named

  right_named : length (right_of l.content) ≡ 2 → IsName t (second_word (right_words_of l))
  unfolding right_words_of right_of
  right_named e =
      let from : ℕ = to_equals l.content + 1 in
      let c : length (words (drop from l.content)) ≡ length (words_from 0 (drop from l.content)) =
      length-map (words_from 0 (drop from l.content)) (λ (w : Word). w.text) in
      second_is (right_words_of l) (words_count (l.at + from) 0 (drop from l.content) ∙ sym c ∙ e) (words_named from)

  -- the argument of a keyword that takes a name
  argument_long : length (argument_of l).text ≤ length l.content
  unfolding argument_of argument_from
  argument_long =
      let from : ℕ = argument_in (bracket_of l.content) in
      let d : length (drop from l.content) ≡ length l.content - from = length-drop from l.content in
      rw (length-take (last_end l.content - from) (drop from l.content)) (omega arith)

  argument_named : (l.place ≡ place.done → ⊥) → (l.place ≡ place.before → ⊥) → takes_name (key_of l) ≡ true → IsName t (argument_of l)
  unfolding is_name is_one_word
  argument_named d b k =
      let n : is_name (argument_of l).text ≡ true = h.kept.named d b k in
      record {
        stands = argument_stands t l h.stands;
        some = ltb-true 0 (length (argument_of l).text) (both_first _ _ (both_first _ _ n));
        few = le_trans argument_long h.short;
      }

-- ---- the lines of a path

-- what the line says in a path
record Says (l : Line) (k : ℕ) : Type 0 where
  inside : l.place ≡ place.path
  keyless : key_of l ≡ plain
  says : saying_of (first_of (words l.content)) ≡ k

says_in : (l : Line) (k : ℕ) → 0 < k → eqb (saying_at l) k ≡ true → Says l k
unfolding saying_at stands_in
says_in l k some e =
    by_cases (Says l k) (stands_in place.path l)
    (λ (b : stands_in place.path l ≡ true).
    record {
      inside = eqb-true _ _ (both_first _ _ b);
      keyless = eqb-true _ _ (both_second _ _ b);
      says = sym (if_true _ _ b) ∙ eqb-true _ _ e;
    })
    (λ (b : stands_in place.path l ≡ false).
    let z : 0 ≡ k = sym (if_false _ _ b) ∙ eqb-true _ _ e in
    absurd (omega arith))

module _ (l : Line) (h : Kept l) where
  said_right : (k : ℕ) → Says l k → (line_saying k l.content).right ≡ true
  unfolding path_line_of
  said_right k s = ap (λ (n : ℕ). (line_saying n l.content).right) (sym s.says) ∙ h.right s.inside s.keyless

  names_two : names_one (words l.content) ≡ true → length (words l.content) ≡ 2
  unfolding names_one
  names_two e = eqb-true _ _ (both_first _ _ e)

  end_two : eqb (saying_at l) path.says_end ≡ true → length (words l.content) ≡ 2
  unfolding line_saying plain_line provided◌then◌else◌ either
  end_two e = names_two (said_right path.says_end (says_in l path.says_end (omega arith) e))

  side_two : eqb (saying_at l) path.says_side ≡ true → length (words l.content) ≡ 2
  unfolding line_saying plain_line provided◌then◌else◌ either
  side_two e = names_two (said_right path.says_side (says_in l path.says_side (omega arith) e))

module _ (t : List ℕ) (l : Line) (h : Written t l) where
  end_named : eqb (saying_at l) path.says_end ≡ true → IsName t (second_word (words_of l))
  end_named e = second_named t l h (end_two l h.kept e)

  side_named : eqb (saying_at l) path.says_side ≡ true → IsName t (second_word (words_of l))
  side_named e = second_named t l h (side_two l h.kept e)

  section_right : (section_line l.content).right ≡ true → length (right_of l.content) ≡ 2
  unfolding section_line plain_line is_section_line
  section_right e =
      by_cases (length (right_of l.content) ≡ 2) (is_section_line l.content)
      (λ (b : is_section_line l.content ≡ true). eqb-true _ _ (both_second _ _ (both_first _ _ (both_second _ _ b))))
      (λ (b : is_section_line l.content ≡ false).
      let z : false ≡ true = sym (ap (λ (x : PathLine). x.right) (if_false _ _ b)) ∙ e in
      absurd (true≢false (sym z)))

  section_named : eqb (saying_at l) path.says_section ≡ true → IsName t (second_word (right_words_of l))
  unfolding line_saying provided◌then◌else◌
  section_named e = right_named t l h (section_right (said_right l h.kept path.says_section (says_in l path.says_section (omega arith) e)))

-- ---- the names of the document

-- "side start and length or 0 0": a side, or none
pub record StepNamed (t : List ℕ) (s : Step) : Type 0 where
  pub end : s.kind ≡ end_kind → IsName t s.name
  pub section : s.kind ≡ section_kind → IsName t s.name
  pub side : (s.side ≡ no_word) ⊎ IsName t s.side

pub record ModelNamed (t : List ℕ) (m : Model) : Type 0 where
  pub name : IsName t m.name
  pub steps : Each (StepNamed t) m.steps

pub record MapNamed (t : List ℕ) (m : Map) : Type 0 where
  pub name : IsName t m.name
  pub pins : Each (λ (p : Named). IsName t p.name) m.pins

pub record AllNamed (t : List ℕ) (d : Document) : Type 0 where
  pub listed : Each (λ (n : Named). IsName t n.name) d.listed
  pub models : Each (ModelNamed t) d.models
  pub maps : Each (MapNamed t) d.maps
  pub sections : Each (λ (s : Section). IsName t s.name) d.sections

-- a line in a family is read
module _ (p : ℕ) (h : is_in_family p ≡ true) where
  family_not_done : p ≡ place.done → ⊥
  unfolding is_in_family either
  family_not_done e = let z : false ≡ true = rw e at h in true≢false (sym z)

  family_not_before : p ≡ place.before → ⊥
  unfolding is_in_family either
  family_not_before e = let z : false ≡ true = rw e at h in true≢false (sym z)

module _ (t : List ℕ) where
  listed_named : (l : Line) (ls : List Line) → Written t l → Each (Written t) ls → Each (λ (n : Named). IsName t n.name) (listed_at l ls)
  unfolding listed_at
  listed_named l ls h hs = each_if (stands_in place.list l) _ (λ (e : stands_in place.list l ≡ true). first_named_lem t l h)

  pin_named : (l : Line) (ls : List Line) → Written t l → Each (Written t) ls → Each (λ (p : Named). IsName t p.name) (pin_at l ls)
  unfolding pin_at
  pin_named l ls h hs = each_if (stands_in place.pin_list l) _ (λ (e : stands_in place.pin_list l ≡ true). first_named_lem t l h)

  side_given : {ls : List Line} → Each (Written t) ls → (side_in ls ≡ no_word) ⊎ IsName t (side_in ls)
  side_given none = inl refl
  side_given (more {x = l} h hs) =
      by_test (λ (w : Word). (w ≡ no_word) ⊎ IsName t w) (eqb (saying_at l) path.says_side) _ _
      (λ (e : eqb (saying_at l) path.says_side ≡ true). inr (side_named t l h e)) (λ (e : eqb (saying_at l) path.says_side ≡ false). inl refl)

  -- a fork, or the end of one
  fork_named : (kind line : ℕ) → 2 ≤ kind → StepNamed t (record { kind = kind; name = no_word; mult = false; amount = 0; side = no_word; line = line })
  fork_named kind line n =
      record {
        end =
            λ (e : kind ≡ end_kind). absurd (omega arith);
        section = λ (e : kind ≡ section_kind). absurd (omega arith);
        side = inl refl;
      }

  step_named : (l : Line) (ls : List Line) → Written t l → Each (Written t) ls → Each (StepNamed t) (step_of l ls)
  unfolding step_of
  step_named l ls h hs =
      by_test (Each (StepNamed t)) (eqb (saying_at l) path.says_end) _ _
      (λ (e : eqb (saying_at l) path.says_end ≡ true).
      more (record {
        end =
            λ (k : end_kind ≡ end_kind). end_named t l h e;
        section = λ (k : end_kind ≡ section_kind). absurd (omega arith);
        side =
            side_given hs;
      }) none)
      (λ (e : eqb (saying_at l) path.says_end ≡ false).
      by_test (Each (StepNamed t)) (eqb (saying_at l) path.says_section) _ _
      (λ (e : eqb (saying_at l) path.says_section ≡ true).
      more (record {
        end =
            λ (k : section_kind ≡ end_kind). absurd (omega arith);
        section =
            λ (k : section_kind ≡ section_kind). section_named t l h e;
        side = inl refl;
      }) none)
      (λ (e : eqb (saying_at l) path.says_section ≡ false).
      by_test (Each (StepNamed t)) (eqb (saying_at l) path.says_fork) _ _
      (λ (e : eqb (saying_at l) path.says_fork ≡ true). more (fork_named fork_kind l.line (omega arith)) none)
      (λ (e : eqb (saying_at l) path.says_fork ≡ false).
      each_if (eqb (saying_at l) path.says_endfork) _
      (λ (e : eqb (saying_at l) path.says_endfork ≡ true). fork_named endfork_kind l.line (omega arith)))))

  -- the name after the keyword that opens a block of the family
  family_named : (l : Line) (k : ℕ) → Written t l → takes_name k ≡ true → both (is_in_family l.place) (eqb (key_of l) k) ≡ true →
      IsName t (argument_of l)
  family_named l k h takes e =
      argument_named t l h (family_not_done l.place (both_first _ _ e)) (family_not_before l.place (both_first _ _ e))
      (ap takes_name (eqb-true _ _ (both_second _ _ e)) ∙ takes)

  model_named_lem : (l : Line) (ls : List Line) → Written t l → Each (Written t) ls → Each (ModelNamed t) (model_at l ls)
  unfolding model_at model_of steps_in opens_model takes_name either
  model_named_lem l ls h hs =
      each_if (opens_model l) _
      (λ (e : opens_model l ≡ true).
      record { name = family_named l begin_icm_model h refl e; steps = each_gather (Written t) step_of step_named (each_up in_model hs) })

  map_named : (l : Line) (ls : List Line) → Written t l → Each (Written t) ls → Each (MapNamed t) (map_at l ls)
  unfolding map_at map_of opens_map takes_name either
  map_named l ls h hs =
      each_if (opens_map l) _
      (λ (e : opens_map l ≡ true).
      record { name = family_named l icm_pin_map h refl e; pins = each_gather (Written t) pin_at pin_named (each_up in_map hs) })

  section_name_lem : (l : Line) → Written t l → opens_section l ≡ true → IsName t (argument_of l)
  unfolding opens_section takes_name either
  section_name_lem l h e =
      let p : l.place ≡ place.after = eqb-true _ _ (both_first _ _ e) in
      argument_named t l h (λ (d : l.place ≡ place.done). omega arith) (λ (b : l.place ≡ place.before). omega arith)
      (ap takes_name (eqb-true (key_of l) begin_icm_section (both_second _ _ e)))

  sections_named : (l : Line) (ls : List Line) → Written t l → Each (Written t) ls →
      Each (λ (s : Section). IsName t s.name) (section_at l ls)
  unfolding section_at section_of
  sections_named l ls h hs = each_if (opens_section l) _ (λ (e : opens_section l ≡ true). section_name_lem l h e)

  lines_written : byte_rules t ≡ Fine → (c : Counts) → reading_of t ≡ Read c → Each (Written t) (significant t)
  lines_written fine c read =
      each_join (λ (l : Line) (a : StandsShort t l) (k : Kept l). record { kept = k; stands = a.stands; short = a.short })
      (each_join (λ (l : Line) (a : LineStands t l) (b : Short l). record { stands = a; short = b }) (lines_stand t) (text_short t fine))
      (goes_kept (text_ends t c read).goes)

  -- "every name 1 to 120 bytes inside the text", of a text that is accepted
  pub all_named : byte_rules t ≡ Fine → (c : Counts) → reading_of t ≡ Read c → AllNamed t (document_of t)
  unfolding document_of document_in
  all_named fine c read =
      let lines : Each (Written t) (significant t) = lines_written fine c read in
      record {
        listed = each_gather (Written t) listed_at listed_named lines;
        models = each_gather (Written t) model_at model_named_lem lines;
        maps = each_gather (Written t) map_at map_named lines;
        sections = each_gather (Written t) section_at sections_named lines;
      }

-- ---- where the name of an end stands

-- a second word stands in its list, behind the first byte
module _ (at : ℕ) (s : List ℕ) where
  abbrev second : Span
  second = word_span s (word_span s 0).end

  second_is_at : second.start < length s → (second_word (words_from at s)).start ≡ at + second.start
  unfolding extent_of
  second_is_at h =
      ap (λ (e : Extent). e.start)
      (sym (second_marked s at (word_span s 0) refl (extent_at s at second) second refl refl) ∙ sym (mark_some s at second h))

  second_there : 1 ≤ length (second_word (words_from at s)).text → second.start < length s
  unfolding extent_of
  second_there some =
      by_cases (second.start < length s) (leb (length s) second.start)
      (λ (e : leb (length s) second.start ≡ true).
      let z : length (second_word (words_from at s)).text ≡ 0 =
      ap (λ (x : Extent). x.size)
      (sym (second_marked s at (word_span s 0) refl (extent_at s at second) second refl refl) ∙ sym (mark_none s at second (leb-true _ _ e))) in
      absurd (omega arith))
      (λ (e : leb (length s) second.start ≡ false). leb-false _ _ e)

  second_past : second.start < length s → 0 < second.start
  second_past h =
      let a : (word_span s 0).end ≤ second.start = start_on s (word_span s 0).end in
      let b : (word_span s 0).start ≤ (word_span s 0).end = word_ordered s 0 (word_span s 0) refl in
      let c : 0 < (word_span s 0).end = end_past s 0 (word_span s 0) refl (omega arith) in
      omega arith

-- a line that says something in a path has no keyword
pub says_plain : (l : Line) (k : ℕ) → 0 < k → eqb (saying_at l) k ≡ true → key_of l ≡ plain
says_plain l k some e = (says_in l k some e).keyless

-- an offset in a line, behind its first byte
pub record Inside (l : Line) (x : ℕ) : Type 0 where
  pub past : l.at < x
  pub within : x ≤ l.at + length l.content

end_inside : (l : Line) → Kept l → eqb (saying_at l) path.says_end ≡ true → Inside l (second_word (words_of l)).start
unfolding words_of
end_inside l kept e =
    let c : length (words l.content) ≡ length (words_from 0 l.content) = length-map (words_from 0 l.content) (λ (w : Word). w.text) in
    let two : length (words_from l.at l.content) ≡ 2 = words_count l.at 0 l.content ∙ sym c ∙ end_two l kept e in
    let some : 1 ≤ length (second_word (words_from l.at l.content)).text =
    (second_is {P = Sized (length l.content)} (words_from l.at l.content) two (words_sized l.at l.content)).some in
    let there : (second l.at l.content).start < length l.content = second_there l.at l.content some in
    let is : (second_word (words_from l.at l.content)).start ≡ l.at + (second l.at l.content).start = second_is_at l.at l.content there in
    let past : 0 < (second l.at l.content).start = second_past l.at l.content there in
    record { past = omega arith; within = omega arith }

-- the name of every end of a text that reads to its end stands in its line
pub ends_inside : (t : List ℕ) (c : Counts) → reading_of t ≡ Read c →
    Each (λ (l : Line). eqb (saying_at l) path.says_end ≡ true → Inside l (second_word (words_of l)).start) (significant t)
ends_inside t c read = each_map end_inside (goes_kept (text_ends t c read).goes)
