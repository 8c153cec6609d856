-- Laws of `nth_line`, the search for the line of a record.
-- Assumes nothing.
use mathlib.Core.Path.{◌≡◌, refl, sym, ◌∙◌, ap}
use mathlib.Core.Bool.{Bool, true, false, not}
use mathlib.Core.List.{List, [], ◌∷◌, ◌++◌, map, map-append}
use Prim.Native.Nat.{ℕ, zero, suc, ◌+◌, ◌-◌, ◌≤◌, ◌<◌, zero-le}
use native.Mathlib.Omega.{arith}
use lib.ListN.{length, get_or}
use lib.Dec.{eqb}
use borrow.Author.Tests.{not-true, not-false, eq-eqb, ne_eqb}
use Rattle.base.specs.If.{provided◌then◌else◌, both}
use Rattle.base.proofs.IfLaws.{if_true, if_false, by_cases, both_first, both_second, both_rest}
use Rattle.line_place.specs.Place as place
use Rattle.table_layout.specs.Layout.{models, maps, pins, sections}
use Rattle.doc.specs.Lines.{Line, key_of, lines_at, significant, gather, up_to, stands_in, first_word, words_of}
use Rattle.doc.specs.Document.{Named, Model, Map, Section, opens_model, in_model, model_of, model_at, opens_map, in_map, map_of, map_at, pin_at, opens_section, in_section, section_of, section_at, document_in, document_of}
use Rattle.doc.specs.Way.Found.{line_in, lines_behind, Located, FindsLine, cursor_start, cursor_past}
use Rattle.doc.specs.declared.Found.{Found}
use Rattle.doc.specs.declared.Cursor.{Cursor}
use Rattle.cross_rules.specs.Way.Nth.{writes_at, writes_part, nth_line}

-- the loop's invariant: skipping `left` records from position `at` on leads to the same line as skipping `index` records from the start
pub record CountLeft (t : List ℕ) (part index left : ℕ) (c : Cursor) : Type 0 where
  pub same : nth_line part left (lines_at t c.line c.at c.place) ≡ nth_line part index (significant t)
  pub within : c.at ≤ length t
  pub counted : c.line ≤ c.at + 1

pub count_starts : (t : List ℕ) (part index : ℕ) (c : Cursor) → c ≡ cursor_start → CountLeft t part index index c
unfolding significant cursor_start
count_starts t part index c e = rw e (record { same = refl; within = zero-le; counted = omega arith })

module _ (part i : ℕ) (l : Line) (ls : List Line) where
  nth_found : both (writes_part part l) (eqb i 0) ≡ true → nth_line part i (l ∷ ls) ≡ l.line
  unfolding nth_line
  nth_found h = if_true _ _ (both_first _ _ h) ∙ if_true _ _ (both_second _ _ h)

  nth_on : both (writes_part part l) (eqb i 0) ≡ false → nth_line part i (l ∷ ls) ≡ nth_line part (provided writes_part part l then i - 1 else i) ls
  unfolding nth_line
  nth_on h =
      by_cases _ (writes_part part l)
      (λ (w : writes_part part l ≡ true). if_true _ _ w ∙ if_false _ _ (sym (both_rest _ _ w) ∙ h) ∙ ap (λ (k : ℕ). nth_line part k ls) (sym (if_true {A = ℕ} (i - 1) i w)))
      (λ (w : writes_part part l ≡ false). if_false _ _ w ∙ ap (λ (k : ℕ). nth_line part k ls) (sym (if_false {A = ℕ} (i - 1) i w)))

nth_none : (part i : ℕ) → nth_line part i [] ≡ 0
unfolding nth_line
nth_none part i = refl

module _ (t : List ℕ) (part index left : ℕ) (c : Cursor) (inv : CountLeft t part index left c) (line : Found) (finds : FindsLine t c.line c.at line) where
  abbrev p : ℕ
  p = c.place

  pub count_ends : not line.there ≡ true → 0 ≡ nth_line part index (significant t)
  count_ends h = sym (nth_none part left) ∙ ap (nth_line part left) (sym (finds.same_none (not-true line.there h) p)) ∙ inv.same

  module _ (there : not line.there ≡ false) where
    pub found : Located t line
    found = finds.located (not-false line.there there)

    here : lines_at t c.line c.at p ≡ line_in t line p ∷ lines_behind t line p
    here = finds.same_there (not-false line.there there) p

    module _ (writes : Bool) (is_writes : writes ≡ writes_at part p line.key) (last : Bool) (is_last : last ≡ both writes (eqb left 0)) where
      writes_here : writes_part part (line_in t line p) ≡ writes
      unfolding writes_part key_of
      writes_here = ap (writes_at part p) (sym found.key_is) ∙ sym is_writes

      pub count_found : last ≡ true → line.line ≡ nth_line part index (significant t)
      count_found h =
          let b : both (writes_part part (line_in t line p)) (eqb left 0) ≡ true = ap (λ (w : Bool). both w (eqb left 0)) writes_here ∙ sym is_last ∙ h in
          sym (nth_found part left (line_in t line p) (lines_behind t line p) b) ∙ ap (nth_line part left) (sym here) ∙ inv.same

      pub count_on : last ≡ false → (less : ℕ) → less ≡ (provided writes then left - 1 else left) → (next : Cursor) → next ≡ cursor_past t c line → CountLeft t part index less next
      unfolding cursor_past
      count_on h less is_less next is_next =
          let b : both (writes_part part (line_in t line p)) (eqb left 0) ≡ false = ap (λ (w : Bool). both w (eqb left 0)) writes_here ∙ sym is_last ∙ h in
          let m : less ≡ (provided writes_part part (line_in t line p) then left - 1 else left) = is_less ∙ ap (λ (w : Bool). provided w then left - 1 else left) (sym writes_here) in
          let k : line.line ≤ line.at + 1 = found.counted in
          let f : line.at < line.next = found.further in
          rw is_next
          (record {
            same = (λ i. nth_line part (m i) (lines_behind t line p)) ∙ sym (nth_on part left (line_in t line p) (lines_behind t line p) b) ∙ ap (nth_line part left) (sym here) ∙ inv.same;
            within = found.next_within;
            counted = omega arith;
          })

    pub count_less : (next : Cursor) → next ≡ cursor_past t c line → length t - next.at < length t - c.at
    unfolding cursor_past
    count_less next is_next =
        let b : c.at ≤ line.at = finds.behind (not-false line.there there) in
        let e : line.at < line.next = found.further in
        let d : line.next ≤ length t = found.next_within in
        rw is_next (omega arith)

-- ---- the lines of the document's records

number_of : (l : Line) (ls : List ℕ) (i : ℕ) (later : ℕ → ℕ) → ((j : ℕ) → later j ≡ get_or ls j 0) → (provided eqb i 0 then l.line else later (i - 1)) ≡ get_or (l.line ∷ ls) i 0
number_of l ls zero later e = if_true _ _ (eq-eqb 0 0 refl)
number_of l ls (suc i) later e =
    let k : suc i - 1 ≡ i = omega arith in
    if_false _ _ (ne_eqb (suc i) 0 (λ (h : suc i ≡ 0). omega arith)) ∙ ap later k ∙ e i

-- for a part of which each line writes at most one record, with that line's number
module _ {A : Type 0} (part : ℕ) (here : Line → List Line → List A) (line_of : A → ℕ) (one : (l : Line) (ls : List Line) → map line_of (here l ls) ≡ (provided writes_part part l then l.line ∷ [] else [])) where
  lines_here : (l : Line) (ls : List Line) → map line_of (gather here (l ∷ ls)) ≡ (provided writes_part part l then l.line ∷ [] else []) ++ map line_of (gather here ls)
  unfolding gather
  lines_here l ls = map-append line_of (here l ls) (gather here ls) ∙ ap (λ (ns : List ℕ). ns ++ map line_of (gather here ls)) (one l ls)

  pub nth_is : (ls : List Line) (i : ℕ) → nth_line part i ls ≡ get_or (map line_of (gather here ls)) i 0
  unfolding nth_line gather
  nth_is [] i = refl
  nth_is (l ∷ ls) i =
      by_cases _ (writes_part part l)
      (λ (w : writes_part part l ≡ true).
      let e : map line_of (gather here (l ∷ ls)) ≡ l.line ∷ map line_of (gather here ls) = lines_here l ls ∙ ap (λ (ns : List ℕ). ns ++ map line_of (gather here ls)) (if_true _ _ w) in
      if_true _ _ w ∙ number_of l (map line_of (gather here ls)) i (λ (j : ℕ). nth_line part j ls) (nth_is ls) ∙ ap (λ (ns : List ℕ). get_or ns i 0) (sym e))
      (λ (w : writes_part part l ≡ false).
      let e : map line_of (gather here (l ∷ ls)) ≡ map line_of (gather here ls) = lines_here l ls ∙ ap (λ (ns : List ℕ). ns ++ map line_of (gather here ls)) (if_false _ _ w) in
      if_false _ _ w ∙ nth_is ls i ∙ ap (λ (ns : List ℕ). get_or ns i 0) (sym e))

-- a line that gives one record or none
one_or_none : {A : Type 0} (line_of : A → ℕ) (n : ℕ) (b : Bool) (x : A) → line_of x ≡ n → map line_of (provided b then x ∷ [] else []) ≡ (provided b then n ∷ [] else [])
unfolding provided◌then◌else◌
one_or_none line_of n true x e = ap (λ (k : ℕ). k ∷ []) e
one_or_none line_of n false x e = refl

model_one : (l : Line) (ls : List Line) → map (λ (m : Model). m.line) (model_at l ls) ≡ (provided writes_part models l then l.line ∷ [] else [])
unfolding model_at model_of opens_model writes_part writes_at provided◌then◌else◌
model_one l ls = one_or_none (λ (m : Model). m.line) l.line (opens_model l) (model_of l (up_to in_model ls)) refl

map_one : (l : Line) (ls : List Line) → map (λ (m : Map). m.line) (map_at l ls) ≡ (provided writes_part maps l then l.line ∷ [] else [])
unfolding map_at map_of opens_map writes_part writes_at provided◌then◌else◌
map_one l ls = one_or_none (λ (m : Map). m.line) l.line (opens_map l) (map_of l (up_to in_map ls)) refl

section_one : (l : Line) (ls : List Line) → map (λ (s : Section). s.line) (section_at l ls) ≡ (provided writes_part sections l then l.line ∷ [] else [])
unfolding section_at section_of opens_section writes_part writes_at provided◌then◌else◌
section_one l ls = one_or_none (λ (s : Section). s.line) l.line (opens_section l) (section_of l (up_to in_section ls)) refl

pin_one : (l : Line) (ls : List Line) → map (λ (p : Named). p.line) (pin_at l ls) ≡ (provided writes_part pins l then l.line ∷ [] else [])
unfolding pin_at stands_in writes_part writes_at provided◌then◌else◌
pin_one l ls = one_or_none (λ (p : Named). p.line) l.line (stands_in place.pin_list l) (record { name = first_word (words_of l); line = l.line }) refl

module _ (t : List ℕ) (i : ℕ) where
  pub model_line_lem : nth_line models i (significant t) ≡ get_or (map (λ (m : Model). m.line) (document_of t).models) i 0
  unfolding document_of document_in
  model_line_lem = nth_is models model_at (λ (m : Model). m.line) model_one (significant t) i

  pub map_line_lem : nth_line maps i (significant t) ≡ get_or (map (λ (m : Map). m.line) (document_of t).maps) i 0
  unfolding document_of document_in
  map_line_lem = nth_is maps map_at (λ (m : Map). m.line) map_one (significant t) i

  pub section_line_lem : nth_line sections i (significant t) ≡ get_or (map (λ (s : Section). s.line) (document_of t).sections) i 0
  unfolding document_of document_in
  section_line_lem = nth_is sections section_at (λ (s : Section). s.line) section_one (significant t) i

  pub pin_line_lem : nth_line pins i (significant t) ≡ get_or (map (λ (p : Named). p.line) (gather pin_at (significant t))) i 0
  pin_line_lem = nth_is pins pin_at (λ (p : Named). p.line) pin_one (significant t) i
