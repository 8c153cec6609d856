-- Laws of the offsets of lines and words: the significant lines lie one after the other, and every word of the document
-- of any text is in the text at its offset.
-- Assumes nothing.
use mathlib.Core.Path.{◌≡◌, refl, sym, ◌∙◌, ap}
use mathlib.Core.Bool.{Bool, true, false}
use mathlib.Core.List.{List, [], ◌∷◌, ◌++◌}
use Prim.Native.Nat.{ℕ, zero, suc, ◌+◌, ◌-◌, ◌≤◌, ◌<◌}
use native.Mathlib.Nat.{add-zero, le_refl, le_trans}
use native.Mathlib.Omega.{arith}
use lib.ListN.{length, take, drop, take-append-drop, length-take, length-drop}
use lib.Seq.{length-take-le, take-append_seam, take-append-le, drop-append-le, drop-drop}
use lib.Dec.{ltb, leb, eqb}
use borrow.Author.Tests.{ltb-true, ltb-false, leb-true, leb-false}
use Rattle.base.specs.If.{provided◌then◌else◌}
use Rattle.base.specs.Bytes.{line_feed, is_before, is_content}
use Rattle.base.specs.Runs.{run}
use Rattle.base.specs.Way.Class.{run_end}
use Rattle.base.proofs.IfLaws.{by_cases, by_test}
use Rattle.base.proofs.RunLaws.{run_wider}
use Rattle.lex_line.specs.Lines.{is_blank_line, comment_byte}
use Rattle.lex_line.specs.Way.LineEnds.{past_feed, line_at, content_at}
use Rattle.lex_line.specs.declared.Line as text
use Rattle.lex_line.specs.Words.{Word, words_from, last_end, to_equals}
use Rattle.lex_line.specs.Way.Spans.{word_span}
use Rattle.lex_line.proofs.LineLaws.{content_before_feed}
use Rattle.lex_line.proofs.WordLaws.{words_none, words_at, end_past, start_on}
use Rattle.lex_keyword.specs.Bracket.{bracket_of}
use Rattle.line_place.specs.Place as place
use Rattle.line_path.specs.Path as path
use Rattle.read_line.specs.Reading.{argument_from}
use Rattle.doc.specs.Lines.{
  Line,
  lines_at,
  significant,
  argument_in,
  argument_of,
  words_of,
  right_words_of,
  no_word,
  first_word,
  second_word,
  stands_in,
  gather,
  up_to,
}
use Rattle.doc.specs.Document.{
  Named,
  Step,
  Model,
  Map,
  Section,
  Document,
  saying_at,
  side_in,
  step_of,
  steps_in,
  opens_model,
  in_model,
  model_of,
  model_at,
  listed_at,
  opens_map,
  in_map,
  pin_at,
  map_of,
  map_at,
  opens_section,
  section_of,
  section_at,
  document_in,
  document_of,
}
use Rattle.doc.specs.Holds.{Each}
use Rattle.doc.specs.Way.Holds.{Stands}
use Rattle.doc.specs.Holds.Each.{none, more}
use Rattle.doc.proofs.FoundLaws.{pass_over, stop_here, next_further, content_ordered, content_inside, nothing_left}
use Rattle.doc.proofs.ExtentLaws.{argument_in_line}

-- ---- every one of a list

pub each_map : {A : Type 0} {P Q : A → Type 0} {xs : List A} → ((x : A) → P x → Q x) → Each P xs → Each Q xs
each_map f none = none
each_map f (more h hs) = more (f _ h) (each_map f hs)

pub each_join : {A : Type 0} {P Q R : A → Type 0} → ((x : A) → P x → Q x → R x) → {xs : List A} → Each P xs → Each Q xs → Each R xs
each_join f none none = none
each_join f (more {x = x} h hs) (more k ks) = more (f x h k) (each_join f hs ks)

module _ {A : Type 0} {P : A → Type 0} where
  pub each_append : {xs ys : List A} → Each P xs → Each P ys → Each P (xs ++ ys)
  each_append none k = k
  each_append (more h hs) k = more h (each_append hs k)

  -- what lines give has a property, if it follows for each line from what holds of it and of the lines after it
  pub each_gather : (Q : Line → Type 0) (here : Line → List Line → List A) →
      ((l : Line) (ls : List Line) → Q l → Each Q ls → Each P (here l ls)) →
      {ls : List Line} → Each Q ls → Each P (gather here ls)
  unfolding gather
  each_gather Q here gives none = none
  each_gather Q here gives (more {x = l} {xs = ls} h hs) = each_append (gives l ls h hs) (each_gather Q here gives hs)

  -- one element if the test holds, none if it does not
  pub each_if : (b : Bool) (x : A) → (b ≡ true → P x) → Each P (provided b then x ∷ [] else [])
  each_if b x h = by_test (Each P) b (x ∷ []) [] (λ (e : b ≡ true). more (h e) none) (λ (e : b ≡ false). none)

pub each_up : {P : Line → Type 0} (inside : Line → Bool) {ls : List Line} → Each P ls → Each P (up_to inside ls)
unfolding up_to
each_up inside none = none
each_up {P} inside (more {x = l} {xs = ls} h hs) =
    by_test (Each P) (inside l) (l ∷ up_to inside ls) [] (λ (e : inside l ≡ true). more h (each_up inside hs))
    (λ (e : inside l ≡ false). none)

-- ---- parts of what is in the text

take_back : (n : ℕ) (s : List ℕ) → take (length (take n s)) s ≡ take n s
take_back n s = ap (take (length (take n s))) (sym (take-append-drop n s)) ∙ take-append_seam (take n s) (drop n s)

module _ (t : List ℕ) (a : ℕ) (s : List ℕ) (h : Stands t (record { start = a; text = s })) where
  abbrev rest : List ℕ
  rest = drop (length s) (drop a t)

  stands_before : drop a t ≡ s ++ rest
  stands_before = sym (take-append-drop (length s) (drop a t)) ∙ ap (λ (l : List ℕ). l ++ rest) h.bytes

  pub part_stands : (from size : ℕ) → from ≤ length s → Stands t (record { start = a + from; text = take size (drop from s) })
  part_stands from size k =
      let l : length (drop from s) ≡ length s - from = length-drop from s in
      let m : length (take size (drop from s)) ≤ length (drop from s) = rw (length-take size (drop from s)) (omega arith) in
      let i : a + length s ≤ length t = h.inside in
      let d : drop (a + from) t ≡ drop from s ++ rest =
      sym (drop-drop from a t) ∙ ap (drop from) stands_before ∙ drop-append-le from s rest k in
      record {
        inside = omega arith;
        bytes =
            ap (take (length (take size (drop from s)))) d ∙ take-append-le (length (take size (drop from s))) (drop from s) rest m
            ∙ take_back size (drop from s);
      }

  -- the words from an offset of it on
  word_found : (from : ℕ) → (word_span s from).start < length s →
      Each (Stands t) (words_from (a + (word_span s from).end) (drop (word_span s from).end s)) →
      Each (Stands t) (words_from (a + from) (drop from s))
  word_found from l others =
      rw (words_at a s from l) (more (part_stands (word_span s from).start ((word_span s from).end - (word_span s from).start) (omega arith)) others)

  words_from_lem : (n from : ℕ) → length s - from ≤ n → Each (Stands t) (words_from (a + from) (drop from s))
  words_from_lem zero from k =
      let e : from ≤ (word_span s from).start = start_on s from in
      rw (words_none a s from (omega arith)) none
  words_from_lem (suc n) from k =
      by_cases (Each (Stands t) (words_from (a + from) (drop from s))) (leb (length s) (word_span s from).start)
      (λ (e : leb (length s) (word_span s from).start ≡ true). rw (words_none a s from (leb-true _ _ e)) none)
      (λ (e : leb (length s) (word_span s from).start ≡ false).
      let l : (word_span s from).start < length s = leb-false _ _ e in
      let f : from < (word_span s from).end = end_past s from (word_span s from) refl l in
      word_found from l (words_from_lem n (word_span s from).end (omega arith)))

  pub words_stand : (from : ℕ) → Each (Stands t) (words_from (a + from) (drop from s))
  words_stand from = words_from_lem (length s - from) from (omega arith)

-- ---- the words of a line

pub no_word_stands : (t : List ℕ) → Stands t no_word
unfolding no_word
no_word_stands t = record { inside = omega arith; bytes = refl }

first_stands : (t : List ℕ) {ws : List Word} → Each (Stands t) ws → Stands t (first_word ws)
first_stands t none = no_word_stands t
first_stands t (more h hs) = h

second_stands : (t : List ℕ) {ws : List Word} → Each (Stands t) ws → Stands t (second_word ws)
second_stands t none = no_word_stands t
second_stands t (more h hs) = first_stands t hs

-- a line is in the text at its offset
abbrev pub LineStands : List ℕ → Line → Type 0
LineStands t l = Stands t (record { start = l.at; text = l.content })

module _ (t : List ℕ) (l : Line) (h : LineStands t l) where
  line_words : Each (Stands t) (words_of l)
  unfolding words_of
  line_words = rw (add-zero l.at) at (words_stand t l.at l.content h 0)

  pub first_word_stands : Stands t (first_word (words_of l))
  first_word_stands = first_stands t line_words

  pub second_word_stands : Stands t (second_word (words_of l))
  second_word_stands = second_stands t line_words

  pub right_word_stands : Stands t (second_word (right_words_of l))
  unfolding right_words_of
  right_word_stands = second_stands t (words_stand t l.at l.content h (to_equals l.content + 1))

  pub argument_stands : Stands t (argument_of l)
  unfolding argument_of argument_from
  argument_stands =
      let from : ℕ = argument_in (bracket_of l.content) in
      part_stands t l.at l.content h from (last_end l.content - from) (argument_in_line l.content _ refl)

-- ---- the significant lines, one after the other

-- a line's content is in the text at its offset, and ends at `next` or before it
pub record Lies (t : List ℕ) (l : Line) (next : ℕ) : Type 0 where
  pub stands : LineStands t l
  pub ends : l.at + length l.content ≤ next
  pub further : l.at < next

-- lines from line n and offset `at` on
pub data Laid (t : List ℕ) : ℕ → ℕ → List Line → Type 0 where
  ended : {n at : ℕ} → Laid t n at []
  onward : {n at : ℕ} {l : Line} {ls : List Line} (end : ℕ) → n ≤ l.line → at ≤ l.at → Lies t l end → Laid t (l.line + 1) end ls →
      Laid t n at (l ∷ ls)

pub laid_wider : {t : List ℕ} {ls : List Line} (m n a b : ℕ) → m ≤ n → a ≤ b → Laid t n b ls → Laid t m a ls
laid_wider m n a b h k ended = ended
laid_wider m n a b h k (onward end u v lies rest) = onward end (le_trans h u) (le_trans k v) lies rest

-- the content of a line ends before its LF
content_first : (t : List ℕ) (at : ℕ) → (line_at comment_byte t at).content ≤ (line_at comment_byte t at).next
unfolding line_at past_feed
content_first t at =
    let w : run (is_content comment_byte) (drop at t) ≤ run (is_before line_feed) (drop at t) =
    run_wider (is_content comment_byte) (is_before line_feed) (content_before_feed comment_byte) (drop at t) in
    by_test (λ (n : ℕ). run_end (is_content comment_byte) t at ≤ n) (ltb (run_end (is_before line_feed) t at) (length t)) _ _
    (λ (e : ltb (run_end (is_before line_feed) t at) (length t) ≡ true). omega arith)
    (λ (e : ltb (run_end (is_before line_feed) t at) (length t) ≡ false). omega arith)

module _ (t : List ℕ) (n at p : ℕ) (h : at < length t) where
  abbrev ends : text.Line
  ends = line_at comment_byte t at

  abbrev content : List ℕ
  content = content_at t at

  line_lies : Lies t (record { line = n; at = at; place = p; content = content }) ends.next
  line_lies =
      let o : at ≤ ends.content = content_ordered t at h n ends refl in
      let i : ends.content ≤ length t = content_inside t at h n ends refl in
      let f : ends.content ≤ ends.next = content_first t at in
      let d : length (drop at t) ≡ length t - at = length-drop at t in
      let c : length content ≡ ends.content - at = length-take-le (ends.content - at) (drop at t) (omega arith) in
      record {
        stands = record { inside = omega arith; bytes = ap (λ (k : ℕ). take k (drop at t)) c };
        ends = omega arith;
        further = next_further t at h n ends refl;
      }

  -- by the lines from the next one on
  line_laid : ((m q : ℕ) → Laid t m ends.next (lines_at t m ends.next q)) → Laid t n at (lines_at t n at p)
  line_laid later =
      by_cases (Laid t n at (lines_at t n at p)) (is_blank_line content)
      (λ (b : is_blank_line content ≡ true).
      let f : at < ends.next = next_further t at h n ends refl in
      rw (pass_over t at h n ends refl b p) (laid_wider n (n + 1) at ends.next (omega arith) (omega arith) (later (n + 1) p)))
      (λ (b : is_blank_line content ≡ false).
      rw (stop_here t at h n ends refl b p) (onward ends.next (le_refl n) (le_refl at) line_lies (later (n + 1) _)))

laid_end : (t : List ℕ) (n at p : ℕ) → length t ≤ at → Laid t n at (lines_at t n at p)
laid_end t n at p h = rw (nothing_left t n at p h) ended

laid_from : (k : ℕ) (t : List ℕ) (at : ℕ) → length t - at ≤ k → (n p : ℕ) → Laid t n at (lines_at t n at p)
laid_from zero t at h n p = laid_end t n at p (omega arith)
laid_from (suc k) t at h n p =
    by_cases (Laid t n at (lines_at t n at p)) (ltb at (length t))
    (λ (e : ltb at (length t) ≡ true).
    let l : at < length t = ltb-true _ _ e in
    let f : at < (line_at comment_byte t at).next = next_further t at l n (line_at comment_byte t at) refl in
    line_laid t n at p l (laid_from k t (line_at comment_byte t at).next (omega arith)))
    (λ (e : ltb at (length t) ≡ false). laid_end t n at p (ltb-false _ _ e))

-- the lines from any offset of any text on
pub laid : (t : List ℕ) (n at p : ℕ) → Laid t n at (lines_at t n at p)
laid t n at p = laid_from (length t - at) t at (omega arith) n p

laid_stand : {t : List ℕ} {n at : ℕ} {ls : List Line} → Laid t n at ls → Each (LineStands t) ls
laid_stand ended = none
laid_stand (onward end u v lies rest) = more lies.stands (laid_stand rest)

pub lines_stand : (t : List ℕ) → Each (LineStands t) (significant t)
unfolding significant
lines_stand t = laid_stand (laid t 1 0 place.before)

-- ---- every word of the document is in the text at its offset

pub record StepStands (t : List ℕ) (s : Step) : Type 0 where
  pub name : Stands t s.name
  pub side : Stands t s.side

pub record ModelStands (t : List ℕ) (m : Model) : Type 0 where
  pub name : Stands t m.name
  pub steps : Each (StepStands t) m.steps

pub record MapStands (t : List ℕ) (m : Map) : Type 0 where
  pub name : Stands t m.name
  pub pins : Each (λ (p : Named). Stands t p.name) m.pins

pub record AllStand (t : List ℕ) (d : Document) : Type 0 where
  pub listed : Each (λ (n : Named). Stands t n.name) d.listed
  pub models : Each (ModelStands t) d.models
  pub maps : Each (MapStands t) d.maps
  pub sections : Each (λ (s : Section). Stands t s.name) d.sections

module _ (t : List ℕ) where
  listed_stands : (l : Line) (ls : List Line) → LineStands t l → Each (LineStands t) ls →
      Each (λ (n : Named). Stands t n.name) (listed_at l ls)
  unfolding listed_at
  listed_stands l ls h hs = each_if (stands_in place.list l) _ (λ (e : stands_in place.list l ≡ true). first_word_stands t l h)

  pin_stands : (l : Line) (ls : List Line) → LineStands t l → Each (LineStands t) ls → Each (λ (p : Named). Stands t p.name) (pin_at l ls)
  unfolding pin_at
  pin_stands l ls h hs = each_if (stands_in place.pin_list l) _ (λ (e : stands_in place.pin_list l ≡ true). first_word_stands t l h)

  side_stands : {ls : List Line} → Each (LineStands t) ls → Stands t (side_in ls)
  side_stands none = no_word_stands t
  side_stands (more {x = l} h hs) =
      by_test (Stands t) (eqb (saying_at l) path.says_side) _ _ (λ (e : eqb (saying_at l) path.says_side ≡ true). second_word_stands t l h)
      (λ (e : eqb (saying_at l) path.says_side ≡ false). no_word_stands t)

  step_stands : (l : Line) (ls : List Line) → LineStands t l → Each (LineStands t) ls → Each (StepStands t) (step_of l ls)
  unfolding step_of
  step_stands l ls h hs =
      by_test (Each (StepStands t)) (eqb (saying_at l) path.says_end) _ _
      (λ (e : eqb (saying_at l) path.says_end ≡ true). more (record { name = second_word_stands t l h; side = side_stands hs }) none)
      (λ (e : eqb (saying_at l) path.says_end ≡ false).
      by_test (Each (StepStands t)) (eqb (saying_at l) path.says_section) _ _
      (λ (e : eqb (saying_at l) path.says_section ≡ true). more (record { name = right_word_stands t l h; side = no_word_stands t }) none)
      (λ (e : eqb (saying_at l) path.says_section ≡ false).
      by_test (Each (StepStands t)) (eqb (saying_at l) path.says_fork) _ _
      (λ (e : eqb (saying_at l) path.says_fork ≡ true). more (record { name = no_word_stands t; side = no_word_stands t }) none)
      (λ (e : eqb (saying_at l) path.says_fork ≡ false).
      each_if (eqb (saying_at l) path.says_endfork) _
      (λ (e : eqb (saying_at l) path.says_endfork ≡ true). record { name = no_word_stands t; side = no_word_stands t }))))

  pub steps_stand : Each (StepStands t) (gather step_of (significant t))
  steps_stand = each_gather (LineStands t) step_of step_stands (lines_stand t)

  model_stands : (l : Line) (ls : List Line) → LineStands t l → Each (LineStands t) ls → Each (ModelStands t) (model_at l ls)
  unfolding model_at model_of steps_in
  model_stands l ls h hs =
      each_if (opens_model l) _
      (λ (e : opens_model l ≡ true).
      record { name = argument_stands t l h; steps = each_gather (LineStands t) step_of step_stands (each_up in_model hs) })

  map_stands : (l : Line) (ls : List Line) → LineStands t l → Each (LineStands t) ls → Each (MapStands t) (map_at l ls)
  unfolding map_at map_of
  map_stands l ls h hs =
      each_if (opens_map l) _
      (λ (e : opens_map l ≡ true).
      record { name = argument_stands t l h; pins = each_gather (LineStands t) pin_at pin_stands (each_up in_map hs) })

  section_stands : (l : Line) (ls : List Line) → LineStands t l → Each (LineStands t) ls →
      Each (λ (s : Section). Stands t s.name) (section_at l ls)
  unfolding section_at section_of
  section_stands l ls h hs = each_if (opens_section l) _ (λ (e : opens_section l ≡ true). argument_stands t l h)

  -- of every text, also of one that is refused
  pub all_stand : AllStand t (document_of t)
  unfolding document_of document_in
  all_stand =
      record {
        listed = each_gather (LineStands t) listed_at listed_stands (lines_stand t);
        models = each_gather (LineStands t) model_at model_stands (lines_stand t);
        maps = each_gather (LineStands t) map_at map_stands (lines_stand t);
        sections = each_gather (LineStands t) section_at section_stands (lines_stand t);
      }
