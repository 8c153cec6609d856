-- The name that a step's record refers to by its target is the name written on the step's line.
-- Assumes nothing.
use mathlib.Core.Path.{◌≡◌, refl, sym, ◌∙◌, ap}
use mathlib.Core.Bool.{Bool, true, false}
use mathlib.Core.List.{List, [], ◌∷◌, ◌++◌, map}
use Prim.Native.Nat.{ℕ, zero, suc, ◌+◌, ◌<◌}
use native.Mathlib.Nat.{not-suc-le-zero, le_of_suc-le-suc}
use native.Mathlib.Omega.{arith}
use lib.ListN.{length, get_or}
use lib.Dec.{eqb}
use borrow.Author.Tests.{eqb-true, eqb-false, eq-eqb, ne_eqb}
use Rattle.table_record.specs.Records.{no_section, no_map}
use Rattle.table_layout.specs.Codes.{end_kind, section_kind}
use Rattle.base.specs.If.{provided◌then◌else◌}
use Rattle.base.proofs.IfLaws.{if_true, if_false, by_test, by_cases, both_second}
use Rattle.base.proofs.RunLaws.{same_equal}
use Rattle.line_path.specs.Path as path
use Rattle.doc.specs.Lines.{Line, no_word, significant, up_to}
use Rattle.doc.specs.Document.{Step, Model, Map, Section, Document, saying_at, step_of, steps_in, opens_model, in_model, model_of, model_at, document_in, document_of}
use Rattle.doc.specs.Records.{index_of, is_map_of, is_section_of, target_of, step_record, map_record, map_records, section_record, section_records, flatten}
use Rattle.doc.specs.Holds.{Each}
use Rattle.doc.specs.Way.Holds.{Stands}
use Rattle.doc.specs.Holds.Each.{none, more}
use Rattle.doc.proofs.StandsLaws.{MapStands, all_stand, each_gather, each_if}
use Rattle.table_name.specs.Name.{name_at}
use Rattle.cross_rules.specs.Rules.{map_index, section_index}
use Rattle.cross_rules.specs.Way.Findings.{step_rule}
use Rattle.law_sound.proofs.CrossLaws.{end_found, section_found}
use Rattle.law_third.specs.Third.{name_through, PassesSection}

-- ---- the first that passes a test

module _ {A : Type 0} (test : A → Bool) (x : A) (xs : List A) where
  pub index_here : test x ≡ true → index_of test (x ∷ xs) ≡ zero
  unfolding index_of
  index_here e = if_true _ _ e

  pub index_later : test x ≡ false → index_of test (x ∷ xs) ≡ suc (index_of test xs)
  unfolding index_of
  index_later e = if_false _ _ e

-- the element that is found passes the test, so it has this text
pub found_text :
    {A : Type 0} (test : A → Bool) (text : A → List ℕ) (name : List ℕ) → ((x : A) → test x ≡ true → text x ≡ name) → (xs : List A) →
    index_of test xs < length xs → get_or (map text xs) (index_of test xs) [] ≡ name
found_text test text name told [] h = absurd (not-suc-le-zero h)
found_text {A} test text name told (x ∷ xs) h =
    by_cases (get_or (map text (x ∷ xs)) (index_of test (x ∷ xs)) [] ≡ name) (test x)
    (λ (e : test x ≡ true). ap (λ (i : ℕ). get_or (map text (x ∷ xs)) i []) (index_here test x xs e) ∙ told x e)
    (λ (e : test x ≡ false).
    let n : index_of test (x ∷ xs) ≡ suc (index_of test xs) = index_later test x xs e in
    let l : index_of test xs < length xs = omega arith in
    ap (λ (i : ℕ). get_or (map text (x ∷ xs)) i []) n ∙ found_text test text name told xs l)

-- ---- the names of maps and sections, by their records

stands_at_lem : (t : List ℕ) (start size : ℕ) (text : List ℕ) → Stands t (record { start = start; text = text }) → length text ≡ size → name_at t start size ≡ text
unfolding name_at
stands_at_lem t start size text h e = rw (← e) h.bytes

no_name : (t : List ℕ) → name_at t 0 0 ≡ []
unfolding name_at
no_name t = refl

module _ (t : List ℕ) where
  pub map_name_lem :
      {ms : List Map} → Each (MapStands t) ms → (first i : ℕ) →
      name_at t (get_or (map_records first ms) i no_map).start (get_or (map_records first ms) i no_map).size ≡ get_or (map (λ (m : Map). m.name.text) ms) i []
  unfolding map_records map_record
  map_name_lem none first i = no_name t
  map_name_lem (more {x = m} h hs) first zero = stands_at_lem t m.name.start _ m.name.text h.name refl
  map_name_lem (more {x = m} h hs) first (suc i) = map_name_lem hs (first + length m.pins) i

  pub section_name_lem :
      {ss : List Section} → Each (λ (s : Section). Stands t s.name) ss → (first i : ℕ) →
      name_at t (get_or (section_records first ss) i no_section).start (get_or (section_records first ss) i no_section).size
      ≡ get_or (map (λ (s : Section). s.name.text) ss) i []
  unfolding section_records section_record
  section_name_lem none first i = no_name t
  section_name_lem (more {x = s} h hs) first zero = stands_at_lem t s.name.start _ s.name.text h refl
  section_name_lem (more {x = s} h hs) first (suc i) = section_name_lem hs (first + length s.matrices) i

-- ---- forks have no name

abbrev Nameless : Step → Type 0
Nameless s = (s.kind ≡ end_kind → ⊥) → (s.kind ≡ section_kind → ⊥) → s.name.text ≡ []

no_text : no_word.text ≡ []
unfolding no_word
no_text = refl

step_nameless : (l : Line) (after : List Line) → Each Nameless (step_of l after)
unfolding step_of
step_nameless l after =
    by_test (Each Nameless) (eqb (saying_at l) path.says_end) _ _
    (λ (a : eqb (saying_at l) path.says_end ≡ true). more (λ n m. absurd (n refl)) none)
    (λ (a : eqb (saying_at l) path.says_end ≡ false).
    by_test (Each Nameless) (eqb (saying_at l) path.says_section) _ _
    (λ (b : eqb (saying_at l) path.says_section ≡ true). more (λ n m. absurd (m refl)) none)
    (λ (b : eqb (saying_at l) path.says_section ≡ false).
    by_test (Each Nameless) (eqb (saying_at l) path.says_fork) _ _ (λ (c : eqb (saying_at l) path.says_fork ≡ true). more (λ n m. no_text) none)
    (λ (c : eqb (saying_at l) path.says_fork ≡ false).
    each_if (eqb (saying_at l) path.says_endfork) _ (λ (f : eqb (saying_at l) path.says_endfork ≡ true) n m. no_text))))

-- holds for every line
abbrev Some : Line → Type 0
Some l = l ≡ l

each_some : (ls : List Line) → Each Some ls
each_some [] = none
each_some (l ∷ ls) = more refl (each_some ls)

model_nameless : (l : Line) (ls : List Line) → Each (λ (m : Model). Each Nameless m.steps) (model_at l ls)
unfolding model_at model_of steps_in
model_nameless l ls =
    each_if (opens_model l) _
    (λ (e : opens_model l ≡ true).
    each_gather Some step_of (λ (k : Line) (ks : List Line) (p : Some k) (ps : Each Some ks). step_nameless k ks) (each_some (up_to in_model ls)))

pub all_nameless : (t : List ℕ) → Each (λ (m : Model). Each (λ (s : Step). (s.kind ≡ end_kind → ⊥) → (s.kind ≡ section_kind → ⊥) → s.name.text ≡ []) m.steps) (document_of t).models
unfolding document_of document_in
all_nameless t =
    each_gather Some model_at (λ (k : Line) (ks : List Line) (p : Some k) (ps : Each Some ks). model_nameless k ks) (each_some (significant t))

-- ---- the index of the first element that passes a test

pub record Split {A : Type 0} (test : A → Bool) (xs : List A) : Type 0 where
  pub before : List A
  pub one : A
  pub behind : List A
  pub stands : xs ≡ before ++ (one ∷ behind)
  pub holds : test one ≡ true
  pub index : index_of test xs ≡ length before

pub index_split : {A : Type 0} (test : A → Bool) (xs : List A) → index_of test xs < length xs → Split test xs
index_split test [] h = absurd (not-suc-le-zero h)
index_split {A} test (x ∷ xs) h =
    by_cases _ (test x)
    (λ (e : test x ≡ true). record { before = []; one = x; behind = xs; stands = refl; holds = e; index = index_here test x xs e })
    (λ (e : test x ≡ false). later e (index_split test xs (le_of_suc-le-suc (rw (index_later test x xs e) at h))))
  where
    later : test x ≡ false → Split test xs → Split test (x ∷ xs)
    later e p =
        record {
          before = x ∷ p.before;
          one = p.one;
          behind = p.behind;
          stands = ap (λ (ys : List A). x ∷ ys) p.stands;
          holds = p.holds;
          index = index_later test x xs e ∙ ap suc p.index;
        }

-- ---- the name through the target

map_named : (s : Step) (m : Map) → is_map_of s m ≡ true → m.name.text ≡ s.name.text
unfolding is_map_of
map_named s m e = sym (same_equal s.name.text m.name.text (both_second _ _ e))

section_named : (s : Step) (x : Section) → is_section_of s x ≡ true → x.name.text ≡ s.name.text
unfolding is_section_of
section_named s x e = sym (same_equal s.name.text x.name.text e)

module _ (t : List ℕ) (m : Model) (s : Step) (kept : step_rule (document_of t) m s ≡ 0)
    (nameless : (s.kind ≡ end_kind → ⊥) → (s.kind ≡ section_kind → ⊥) → s.name.text ≡ []) where
  abbrev d : Document
  d = document_of t

  end_name : s.kind ≡ end_kind → name_at t (get_or (map_records 0 d.maps) (map_index d s) no_map).start (get_or (map_records 0 d.maps) (map_index d s) no_map).size ≡ s.name.text
  end_name k =
      map_name_lem t (all_stand t).maps 0 (map_index d s)
      ∙ found_text (is_map_of s) (λ (x : Map). x.name.text) s.name.text (map_named s) d.maps (end_found d m s kept k)

  section_step_name :
      s.kind ≡ section_kind →
      name_at t (get_or (section_records 0 d.sections) (section_index d s) no_section).start (get_or (section_records 0 d.sections) (section_index d s) no_section).size ≡ s.name.text
  section_step_name k =
      section_name_lem t (all_stand t).sections 0 (section_index d s)
      ∙ found_text (is_section_of s) (λ (x : Section). x.name.text) s.name.text (section_named s) d.sections (section_found d m s kept k)

  pub name_shown : name_through t (flatten d) (step_record d.maps d.sections s) ≡ s.name.text
  unfolding name_through step_record target_of flatten
  name_shown =
      by_test (λ (n : List ℕ). n ≡ s.name.text) (eqb s.kind end_kind) _ _
      (λ (e : eqb s.kind end_kind ≡ true).
      rw (if_true (map_index d s) (provided eqb s.kind section_kind then section_index d s else 0) e) (end_name (eqb-true _ _ e)))
      (λ (e : eqb s.kind end_kind ≡ false).
      by_test (λ (n : List ℕ). n ≡ s.name.text) (eqb s.kind section_kind) _ _
      (λ (f : eqb s.kind section_kind ≡ true).
      rw (if_false (map_index d s) (provided eqb s.kind section_kind then section_index d s else 0) e, if_true (section_index d s) 0 f) (section_step_name (eqb-true _ _ f)))
      (λ (f : eqb s.kind section_kind ≡ false). sym (nameless (eqb-false _ _ e) (eqb-false _ _ f))))

  -- the section that a step passes
  pub section_passed : s.kind ≡ section_kind → PassesSection t s (target_of d.maps d.sections s)
  unfolding target_of
  section_passed k =
      let p : Split (is_section_of s) d.sections = index_split (is_section_of s) d.sections (section_found d m s kept k) in
      let n : s.kind ≡ end_kind → ⊥ = λ (q : s.kind ≡ end_kind). omega arith in
      record {
        before = p.before;
        behind = p.behind;
        section = p.one;
        stands = p.stands;
        named = section_named s p.one p.holds;
        there = if_false _ _ (ne_eqb _ _ n) ∙ if_true _ _ (eq-eqb _ _ k) ∙ p.index;
      }
