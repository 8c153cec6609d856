-- Laws of the order of lines: of two significant lines the earlier ends before the later starts. So the maps below an
-- end are those whose names are behind its own in the text.
-- Assumes nothing.
use mathlib.Core.Path.{◌≡◌, refl, sym, ◌∙◌}
use mathlib.Core.Bool.{true, false}
use mathlib.Core.List.{List, [], ◌∷◌, ◌++◌, append_assoc}
use Prim.Native.Nat.{ℕ, ◌+◌, ◌≤◌, ◌<◌}
use native.Mathlib.Nat.{le_refl, le_trans}
use native.Mathlib.Omega.{arith}
use lib.ListN.{length}
use lib.Dec.{ltb, leb, eqb}
use borrow.Author.Tests.{eqb-true, le-leb, lt-leb, lt-ltb, le-ltb}
use Rattle.table_layout.specs.Codes.{end_kind, section_kind, fork_kind, endfork_kind}
use Rattle.base.proofs.IfLaws.{both_second, by_test}
use Rattle.lex_keyword.specs.Names.{icm_pin_map}
use Rattle.lex_keyword.specs.Bracket.{bracket_of}
use Rattle.line_place.specs.Place as place
use Rattle.line_path.specs.Path as path
use Rattle.line_keyword.specs.declared.Counts.{Counts}
use Rattle.read_line.specs.Reading.{reading_of}
use Rattle.read_line.specs.declared.Reading.TheVariants.{Read}
use Rattle.doc.specs.Lines.{Line, plain, argument_in, significant, key_of, argument_of, words_of, second_word, gather}
use Rattle.doc.specs.Document.{Step, Map, saying_at, step_of, opens_map, map_of, map_at, document_in, document_of}
use Rattle.doc.specs.Holds.{Each}
use Rattle.doc.specs.Holds.Each.{none, more}
use Rattle.doc.proofs.ExtentLaws.{argument_in_line}
use Rattle.doc.proofs.NamedLaws.{says_plain, Inside, ends_inside}
use Rattle.doc.proofs.StandsLaws.{each_map, each_append, each_gather, each_if, Laid, laid}
use Rattle.doc.proofs.StandsLaws.Laid.{ended, onward}

-- ---- lines one after the other

-- a line above line n, which starts before `at` and ends there or before it
pub record Before (n at : ℕ) (l : Line) : Type 0 where
  pub lower : l.line < n
  pub starts : l.at < at
  pub ends : l.at + length l.content ≤ at

-- line n or one below it, which starts at `at` or after it
pub record Behind (n at : ℕ) (l : Line) : Type 0 where
  pub higher : n ≤ l.line
  pub starts : at ≤ l.at

laid_behind : {t : List ℕ} {n at : ℕ} {ls : List Line} (m a : ℕ) → m ≤ n → a ≤ at → Laid t n at ls → Each (Behind m a) ls
laid_behind m a h k ended = none
laid_behind m a h k (onward {l = l} end u v lies rest) =
    let e : l.at < end = lies.further in
    more (record { higher = le_trans h u; starts = le_trans k v }) (laid_behind m a (omega arith) (omega arith) rest)

laid_one : {t : List ℕ} {n at : ℕ} (before after : List Line) (l : Line) → Laid t n at (before ++ (l ∷ after)) → Behind n at l
laid_one [] after l (onward end u v lies rest) = record { higher = u; starts = v }
laid_one {t = t} {n = n} {at = at} (k ∷ before) after l (onward end u v lies rest) =
    let b : Behind (k.line + 1) end l = laid_one {n = k.line + 1} before after l rest in
    let e : k.at < end = lies.further in
    record { higher = omega arith; starts = omega arith }

laid_before : {t : List ℕ} {n at : ℕ} (before after : List Line) (l : Line) → Laid t n at (before ++ (l ∷ after)) →
    Each (Before l.line l.at) before
laid_before [] after l h = none
laid_before {t = t} {n = n} {at = at} (k ∷ before) after l (onward end u v lies rest) =
    let b : Behind (k.line + 1) end l = laid_one before after l rest in
    let e : k.at + length k.content ≤ end = lies.ends in
    let f : k.at < end = lies.further in
    more {x = k} (record { lower = omega arith; starts = omega arith; ends = omega arith }) (laid_before {n = k.line + 1} before after l rest)

laid_after : {t : List ℕ} {n at : ℕ} (before after : List Line) (l : Line) → Laid t n at (before ++ (l ∷ after)) →
    Each (Behind (l.line + 1) (l.at + length l.content)) after
laid_after [] after l (onward end u v lies rest) = laid_behind (l.line + 1) (l.at + length l.content) (le_refl _) lies.ends rest
laid_after {t = t} {n = n} {at = at} (k ∷ before) after l (onward end u v lies rest) = laid_after {n = k.line + 1} before after l rest

-- a line of a text among the others: the lines above it end before it starts, those below it start after its end
pub record Sorted (before : List Line) (l : Line) (after : List Line) : Type 0 where
  pub earlier : Each (Before l.line l.at) before
  pub later : Each (Behind (l.line + 1) (l.at + length l.content)) after

pub lines_sorted : (t : List ℕ) (before after : List Line) (l : Line) → significant t ≡ before ++ (l ∷ after) → Sorted before l after
unfolding significant
lines_sorted t before after l e =
    let h : Laid t 1 0 (before ++ (l ∷ after)) = rw e at (laid t 1 0 place.before) in
    record { earlier = laid_before before after l h; later = laid_after before after l h }

-- ---- maps below a line

-- a map that this line opens is below line n exactly if its name is at `next` or after it
abbrev Tells : ℕ → ℕ → Line → Type 0
Tells n next k = key_of k ≡ icm_pin_map → leb next (argument_of k).start ≡ ltb n k.line

module _ (n at next : ℕ) (k : Line) where
  before_tells : at < next → Before n at k → Tells n next k
  unfolding argument_of
  before_tells h b e =
      let i : argument_in (bracket_of k.content) ≤ length k.content = argument_in_line k.content _ refl in
      let l : k.line < n = b.lower in
      let m : k.at + length k.content ≤ at = b.ends in
      lt-leb next (k.at + argument_in (bracket_of k.content)) (omega arith) ∙ sym (le-ltb n k.line (omega arith))

  behind_tells : next ≤ at → Behind (n + 1) at k → Tells n next k
  unfolding argument_of
  behind_tells h b e =
      let l : n + 1 ≤ k.line = b.higher in
      let m : at ≤ k.at = b.starts in
      le-leb next (k.at + argument_in (bracket_of k.content)) (omega arith) ∙ sym (lt-ltb n k.line (omega arith))

map_told : (n next : ℕ) (k : Line) (ls : List Line) → Tells n next k → Each (Tells n next) ls →
    Each (λ (m : Map). leb next m.name.start ≡ ltb n m.line) (map_at k ls)
unfolding map_at map_of opens_map
map_told n next k ls h hs = each_if (opens_map k) _ (λ (e : opens_map k ≡ true). h (eqb-true _ _ (both_second _ _ e)))

-- for a line without a keyword, and an offset in it behind its first byte
maps_past : (t : List ℕ) (before after : List Line) (l : Line) → significant t ≡ before ++ (l ∷ after) → key_of l ≡ plain → (x : ℕ) → Inside l x →
    Each (λ (m : Map). leb x m.name.start ≡ ltb l.line m.line) (document_of t).maps
unfolding document_of document_in
maps_past t before after l split key x inside =
    let sorted : Sorted before l after = lines_sorted t before after l split in
    let earlier : Each (Tells l.line x) before =
    each_map (λ (k : Line). before_tells l.line l.at x k inside.past) sorted.earlier in
    let own : Tells l.line x l = λ (k : key_of l ≡ icm_pin_map). let z : ◌≡◌ {A = ℕ} 41 14 = sym key ∙ k in absurd (omega arith) in
    let later : Each (Tells l.line x) after =
    each_map (λ (k : Line). behind_tells l.line (l.at + length l.content) x k inside.within) sorted.later in
    let all : Each (Tells l.line x) (significant t) = rw split (each_append earlier (more own later)) in
    each_gather (Tells l.line x) map_at (map_told l.line x) all

-- ---- the maps below the ends of a text

-- of an end, a map is below its line exactly if the map's name is behind its own
abbrev pub EndOrdered : List Map → Step → Type 0
EndOrdered maps s = s.kind ≡ end_kind → Each (λ (m : Map). leb s.name.start m.name.start ≡ ltb s.line m.line) maps

abbrev EndInside : Line → Type 0
EndInside l = eqb (saying_at l) path.says_end ≡ true → Inside l (second_word (words_of l)).start

module _ (t : List ℕ) where
  abbrev maps : List Map
  maps = (document_of t).maps

  step_ordered : (before after : List Line) (l : Line) → significant t ≡ before ++ (l ∷ after) → EndInside l → Each (EndOrdered maps) (step_of l after)
  unfolding step_of
  step_ordered before after l split inside =
      by_test (Each (EndOrdered maps)) (eqb (saying_at l) path.says_end) _ _
      (λ (e : eqb (saying_at l) path.says_end ≡ true).
      more (λ (k : end_kind ≡ end_kind). maps_past t before after l split (end_plain l e) (second_word (words_of l)).start (inside e)) none)
      (λ (e : eqb (saying_at l) path.says_end ≡ false).
      by_test (Each (EndOrdered maps)) (eqb (saying_at l) path.says_section) _ _
      (λ (f : eqb (saying_at l) path.says_section ≡ true). more (λ (k : section_kind ≡ end_kind). absurd (omega arith)) none)
      (λ (f : eqb (saying_at l) path.says_section ≡ false).
      by_test (Each (EndOrdered maps)) (eqb (saying_at l) path.says_fork) _ _
      (λ (g : eqb (saying_at l) path.says_fork ≡ true). more (λ (k : fork_kind ≡ end_kind). absurd (omega arith)) none)
      (λ (g : eqb (saying_at l) path.says_fork ≡ false).
      by_test (Each (EndOrdered maps)) (eqb (saying_at l) path.says_endfork) _ _
      (λ (h : eqb (saying_at l) path.says_endfork ≡ true). more (λ (k : endfork_kind ≡ end_kind). absurd (omega arith)) none)
      (λ (h : eqb (saying_at l) path.says_endfork ≡ false). none))))
    where
      end_plain : (l : Line) → eqb (saying_at l) path.says_end ≡ true → key_of l ≡ plain
      end_plain l e = says_plain l path.says_end (omega arith) e

  steps_ordered : (before ls : List Line) → significant t ≡ before ++ ls → Each EndInside ls → Each (EndOrdered maps) (gather step_of ls)
  unfolding gather
  steps_ordered before [] split none = none
  steps_ordered before (l ∷ ls) split (more h hs) =
      each_append (step_ordered before ls l split h)
      (steps_ordered (before ++ (l ∷ [])) ls (split ∙ sym (append_assoc before (l ∷ []) ls)) hs)

  pub ends_ordered : (c : Counts) → reading_of t ≡ Read c → Each (EndOrdered maps) (gather step_of (significant t))
  ends_ordered c read = steps_ordered [] (significant t) refl (ends_inside t c read)
