-- Laws of the model that a name finds: it is the same in the table and in the document, and two names that find one model are equal.
-- Assumes nothing.
use mathlib.Core.Path.{◌≡◌, refl, sym, ◌∙◌, ap}
use mathlib.Core.Bool.{Bool, true, false, true≢false}
use mathlib.Core.List.{List, [], ◌∷◌, map}
use Prim.Native.Nat.{ℕ, zero, suc, ◌-◌, ◌≤◌, ◌<◌, zero-le, suc-le-suc}
use native.Mathlib.Nat.{not-suc-le-zero, le_of_suc-le-suc}
use native.Mathlib.Omega.{arith}
use lib.ListN.{length, take, drop, get_or, length-drop}
use lib.Seq.{length-take-le}
use lib.Dec.{ltb, eqb, leb-suc-suc}
use borrow.Author.Tests.{le-leb, lt-leb, lt-ltb, eq-eqb, ne_eqb}
use Rattle.base.specs.If.{provided◌then◌else◌, either}
use Rattle.base.specs.Runs.{same}
use Rattle.base.proofs.IfLaws.{if_true, if_false, by_cases, either_left, either_rest, either_false}
use Rattle.base.proofs.RunLaws.{same_refl, same_equal}
use Rattle.lex_line.specs.Words.{Word, words_from}
use Rattle.base.specs.Refusal as refusal
use Rattle.table_layout.specs.Layout.{models, model_width}
use Rattle.std.specs.Prelude.{Some}
use Rattle.table_layout.specs.View.{view_of}
use Rattle.table_layout.specs.declared.View.{View}
use Rattle.table_record.specs.Way.Standing.{places, base_of, count_of}
use Rattle.doc.specs.Lines.{words_of, first_word}
use Rattle.doc.specs.Document.{Named, Model, Document, document_of}
use Rattle.doc.specs.Records.{index_of}
use Rattle.doc.specs.Way.Found.{content_in, line_in, Located, extent_of}
use Rattle.doc.specs.declared.Found.{Found}
use Rattle.doc.specs.declared.Extent.{Extent}
use Rattle.doc.specs.Holds.{Each}
use Rattle.doc.specs.Holds.Each.{none, more}
use Rattle.doc.proofs.StandsLaws.{LineStands, first_word_stands}
use Rattle.table_name.specs.Name.{name_at}
use Rattle.table_name.specs.Way.Search.{find_in}
use Rattle.cross_rules.specs.Rules.{any, same_word, is_there, model_name}
use Rattle.cross_rules.specs.Way.HoldsText.{HoldsText}
use Rattle.cross_rules.specs.Way.Repeated.{own_name}
use Rattle.cross_rules.proofs.RepeatedLaws.{found_places}
use Rattle.cross_rules.proofs.NamesLaws.{same_comm, map_by_lem, models_named}
use Rattle.cross_names.specs.Way.Listed.{model_named}
use Rattle.cross_names.specs.Way.Judged.{model_found, no_slot, judged_by, name_judged}

-- ---- the first model of a name

-- the names of the models, and the index of the first that equals a name
abbrev pub texts : List Model → List (List ℕ)
texts ms = map (λ (m : Model). m.name.text) ms

abbrev pub first : List ℕ → List Model → ℕ
first name ms = index_of (λ (m : Model). same name m.name.text) ms

pub first_has : (name : List ℕ) (ms : List Model) → first name ms < length ms → get_or (texts ms) (first name ms) [] ≡ name
unfolding index_of
first_has name [] h = absurd (not-suc-le-zero h)
first_has name (m ∷ ms) h =
    by_cases _ (same name m.name.text)
    (λ (e : same name m.name.text ≡ true). rw (if_true {A = ℕ} zero (suc (first name ms)) e) (sym (same_equal name m.name.text e)))
    (λ (e : same name m.name.text ≡ false).
    let f : first name (m ∷ ms) ≡ suc (first name ms) = if_false {A = ℕ} zero (suc (first name ms)) e in
    rw f (first_has name ms (le_of_suc-le-suc (rw f at h))))

-- if a name finds a model, another name is the same exactly if it finds that model too
first_same : (x y : List ℕ) (ms : List Model) → first y ms < length ms → same x y ≡ eqb (first x ms) (first y ms)
first_same x y ms h =
    by_cases _ (same x y)
    (λ (e : same x y ≡ true). e ∙ sym (eq-eqb _ _ (ap (λ (s : List ℕ). first s ms) (same_equal x y e))))
    (λ (e : same x y ≡ false).
    e
    ∙ sym (ne_eqb _ _
    (λ (f : first x ms ≡ first y ms).
    let k : first x ms < length ms = rw f h in
    let g : x ≡ y = sym (first_has x ms k) ∙ ap (λ (i : ℕ). get_or (texts ms) i []) f ∙ first_has y ms h in
    true≢false (sym (rw g (same_refl y)) ∙ e))))

first_there : (n : Named) (ms : List Model) → is_there (map model_name ms) n ≡ ltb (first n.name.text ms) (length ms)
unfolding is_there any index_of same_word
first_there n [] = refl
first_there n (m ∷ ms) =
    by_cases _ (same n.name.text m.name.text)
    (λ (e : same n.name.text m.name.text ≡ true).
    either_left _ _ (same_comm m.name.text n.name.text ∙ e)
    ∙ sym (ap (λ (i : ℕ). ltb i (suc (length ms))) (if_true _ _ e) ∙ lt-ltb zero (suc (length ms)) (suc-le-suc zero-le)))
    (λ (e : same n.name.text m.name.text ≡ false).
    either_rest _ _ (same_comm m.name.text n.name.text ∙ e)
    ∙ first_there n ms
    ∙ sym (ap (λ (i : ℕ). ltb i (suc (length ms))) (if_false _ _ e) ∙ leb-suc-suc (suc (first n.name.text ms)) (length ms)))

-- ---- by any of them

pub any_by : {A : Type 0} (f g : A → Bool) → ((x : A) → f x ≡ g x) → (xs : List A) → any f xs ≡ any g xs
unfolding any
any_by f g e [] = refl
any_by f g e (x ∷ xs) = λ i. either (e x i) (any_by f g e xs i)

module _ (d : Document) (n : Named) where
  -- a name that has a model is repeated exactly if a list line above finds the same model
  pub above_found : (above : List Named) → model_named d n < length d.models → is_there above n ≡ any (λ (a : Named). eqb (model_named d a) (model_named d n)) above
  unfolding is_there same_word model_named
  above_found above h = any_by _ _ (λ (a : Named). first_same a.name.text n.name.text d.models h) above

  -- a name that has no model is not repeated, if all names above have one
  pub above_none : {above : List Named} → Each (λ (a : Named). model_named d a < length d.models) above → length d.models ≤ model_named d n → is_there above n ≡ false
  unfolding is_there any same_word model_named
  above_none none h = refl
  above_none (more {x = a} k ks) h = either_false _ _ (apart a k h) (above_none ks h)
    where
      apart : (a : Named) → first a.name.text d.models < length d.models → length d.models ≤ first n.name.text d.models → same a.name.text n.name.text ≡ false
      apart a k h =
          by_cases _ (same a.name.text n.name.text)
          (λ (e : same a.name.text n.name.text ≡ true).
          let f : first a.name.text d.models ≡ first n.name.text d.models = ap (λ (s : List ℕ). first s d.models) (same_equal _ _ e) in
          absurd (omega arith))
          (λ (e : same a.name.text n.name.text ≡ false). e)

  pub there_found : is_there (map model_name d.models) n ≡ ltb (model_named d n) (length d.models)
  unfolding model_named same_word
  there_found = first_there n d.models

-- ---- in the table

module _ {A B : Type 0} (test : B → Bool) (f : A → B) where
  index_map : (xs : List A) → index_of (λ (x : A). test (f x)) xs ≡ index_of test (map f xs)
  unfolding index_of
  index_map [] = refl
  index_map (x ∷ xs) = λ i. provided test (f x) then zero else suc (index_map xs i)

module _ (t table : List ℕ) (filled : HoldsText t table) (v : View) (is_view : Some v ≡ view_of table) where
  abbrev d : Document
  d = document_of t

  -- the search of the table finds the first model of a name
  find_model : (name : List ℕ) → find_in t table (base_of v models) model_width (count_of v models) name 0 ≡ first name d.models
  find_model name =
      found_places t table name model_width (omega arith) (count_of v models) (base_of v models)
      ∙ index_map (same name) (own_name t table) (places model_width (base_of v models) (count_of v models))
      ∙ ap (index_of (same name)) (models_named t table filled v is_view ∙ sym (map_by_lem (λ (m : Model). m.name.text) (λ (n : Named). n.name.text) model_name (λ (m : Model). refl) d.models))
      ∙ sym (index_map (same name) (λ (m : Model). m.name.text) d.models)

  -- the one that the list line names
  pub model_is : (line : Found) (n : Named) → n.name ≡ first_word (words_of (line_in t line 0)) → model_found t table v line ≡ model_named d n
  unfolding model_found model_named same_word
  model_is line n e = find_model (first_word (words_of (line_in t line 0))).text ∙ ap (λ (w : Word). first w.text d.models) (sym e)

-- ---- the name that a line opens with

module _ (t : List ℕ) (line : Found) (located : Located t line) where
  line_stands : LineStands t (line_in t line 0)
  line_stands =
      let o : line.at ≤ line.end = located.ordered in
      let w : line.end ≤ length t = located.within in
      let l : length (drop line.at t) ≡ length t - line.at = length-drop line.at t in
      let c : length (content_in t line) ≡ line.end - line.at = length-take-le (line.end - line.at) (drop line.at t) (omega arith) in
      record { inside = omega arith; bytes = ap (λ (k : ℕ). take k (drop line.at t)) c }

  -- the search of the table for the first word of the line
  pub found_first :
      (table : List ℕ) (v : View) (mark : Extent) → mark ≡ extent_of (first_word (words_from line.at (content_in t line))) →
      (name : List ℕ) → name ≡ name_at t mark.start mark.size →
      (r : ℕ) → r ≡ find_in t table (base_of v models) model_width (count_of v models) name 0 → r ≡ model_found t table v line
  unfolding extent_of name_at model_found words_of
  found_first table v mark e name told r is =
      let n : name ≡ (first_word (words_of (line_in t line 0))).text =
      told ∙ ap (λ (m : Extent). take m.size (drop m.start t)) e ∙ (first_word_stands t (line_in t line 0) line_stands).bytes in
      is ∙ ap (λ (s : List ℕ). find_in t table (base_of v models) model_width (count_of v models) s 0) n

-- ---- the rule that it breaks

module _ (t table : List ℕ) (v : View) (line : Found) (listed : List Bool) (index : ℕ) (is : index ≡ model_found t table v line) where
  pub name_none : count_of v models ≤ index → record { rule = refusal.list; slot = no_slot } ≡ name_judged t table v line listed
  unfolding name_judged judged_by
  name_none h = rw (← is) (sym (if_true _ _ (le-leb _ _ h)))

  module _ (h : index < count_of v models) where
    pub name_twice : get_or listed index false ≡ true → record { rule = refusal.twice; slot = index } ≡ name_judged t table v line listed
    unfolding name_judged judged_by
    name_twice e = rw (← is) (sym (if_false _ _ (lt-leb _ _ h) ∙ if_true _ _ e))

    pub name_first : get_or listed index false ≡ false → record { rule = 0; slot = index } ≡ name_judged t table v line listed
    unfolding name_judged judged_by
    name_first e = rw (← is) (sym (if_false _ _ (lt-leb _ _ h) ∙ if_false _ _ e))
