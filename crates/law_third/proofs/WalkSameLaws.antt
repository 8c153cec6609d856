-- Two accepted texts whose documents are the same except for lines, offsets and forms: a walk from any place gets the same answer.
-- Assumes nothing.
use mathlib.Core.Path.{◌≡◌, refl, sym, ◌∙◌, ap}
use mathlib.Core.Bool.{Bool, true, false, not, true≢false}
use mathlib.Core.List.{List, [], ◌∷◌, map}
use Prim.Native.Nat.{ℕ, zero, suc, ◌+◌, ◌≤◌, ◌<◌}
use native.Mathlib.Nat.{not-suc-le-zero}
use native.Mathlib.Omega.{arith}
use lib.ListN.{length, get_or, take}
use lib.Dec.{ltb, leb, eqb}
use borrow.Author.Tests.{eqb-true, lt-ltb, ltb-true, ltb-false}
use Rattle.base.specs.Refusal as refusal
use Rattle.table_record.specs.Records.{Records, records_of, no_section, no_model, no_step, no_map, range}
use Rattle.table_record.specs.declared.StepRecord.{StepRecord}
use Rattle.table_record.specs.declared.ModelRecord.{ModelRecord}
use Rattle.table_layout.specs.Codes.{end_kind, section_kind}
use Rattle.base.specs.If.{provided◌then◌else◌, both}
use Rattle.base.specs.Runs.{same}
use Rattle.base.proofs.IfLaws.{if_true, if_false, by_cases, both_true, both_first, both_second, either_none_first, either_none_second, not_not_via}
use Rattle.base.proofs.RunLaws.{same_refl, same_equal}
use Rattle.doc.specs.Document.{Step, Model, Map, Section, Document, document_of}
use Rattle.doc.specs.Records.{index_of, is_map_of, is_section_of, target_of, step_record, step_records, model_record, model_records, flatten}
use Rattle.doc.specs.Holds.{Each}
use Rattle.doc.specs.Holds.Each.{none, more}
use Rattle.doc.proofs.StandsLaws.{StepStands, ModelStands, all_stand}
use Rattle.table_name.specs.Name.{name_at}
use Rattle.cross_rules.specs.Rules.{any, same_word, is_twice, map_name, map_index, section_index, cross_rule}
use Rattle.cross_rules.specs.Way.Findings.{map_name_rule, step_rule, list_findings, model_findings, sgr_findings, pin_findings, map_findings, section_findings, findings}
use Rattle.cross_rules.specs.declared.Finding.{Finding}
use Rattle.cross_rules.proofs.RisingLaws.{each_by}
use Rattle.cross_rules.proofs.FirstLaws.{map_tests, all_kept}
use Rattle.ask_sound.specs.Sound as sound
use Rattle.law_sound.proofs.CrossLaws.{all_steps_kept, end_found, each_front, each_behind}
use Rattle.ask_walk.specs.Walk as walk
use Rattle.ask_walk.specs.Walk.{WalkWords, stepped, done_at, walk_refused, model_at_place, step_at_place, is_depth, kinds_before, is_place, next_of, walk_over, walk_on, walk_from}
use Rattle.ask_walk.specs.declared.Place.{Place}
use Rattle.table_record.specs.declared.StepRecord.{StepRecord}
use Rattle.law_alike.specs.Way.Same.{All2, SameStep, SameModel, SameMap, SameSection, SameDocument}
use Rattle.law_alike.proofs.GatherLaws.{all2_append}
use Rattle.law_third.specs.Third.{AcceptedTable, name_through, side_of, SameAnswer}
use Rattle.law_third.proofs.TakenLaws.{taken_kept, taken_sound, taken_records}
use Rattle.law_third.proofs.WalkNameLaws.{index_here, index_later, map_name_lem, section_name_lem}

-- ---- lists that are related one by one

module _ {A B : Type 0} {Rel : A → B → Type 0} where
  all2_long : {xs : List A} {ys : List B} → All2 Rel xs ys → length xs ≡ length ys
  all2_long All2.none = refl
  all2_long (All2.more h hs) = ap suc (all2_long hs)

  all2_at : {xs : List A} {ys : List B} → All2 Rel xs ys → (a : A) (b : B) → Rel a b → (i : ℕ) → Rel (get_or xs i a) (get_or ys i b)
  all2_at All2.none a b r i = r
  all2_at (All2.more h hs) a b r zero = h
  all2_at (All2.more h hs) a b r (suc i) = all2_at hs a b r i

  all2_map : {C : Type 0} (f : A → C) (g : B → C) → ((x : A) (y : B) → Rel x y → f x ≡ g y) → {xs : List A} {ys : List B} → All2 Rel xs ys → map f xs ≡ map g ys
  all2_map f g e All2.none = refl
  all2_map f g e (All2.more {x} {y} h hs) = λ j. e x y h j ∷ all2_map f g e hs j

  -- the first element that passes has the same index
  all2_index : (f : A → Bool) (g : B → Bool) → ((x : A) (y : B) → Rel x y → f x ≡ g y) → {xs : List A} {ys : List B} → All2 Rel xs ys → index_of f xs ≡ index_of g ys
  unfolding index_of
  all2_index f g e All2.none = refl
  all2_index f g e (All2.more {x} {y} h hs) = λ j. provided e x y h j then zero else suc (all2_index f g e hs j)

-- ---- the map of an end is the only one of its name

none_found : {A : Type 0} (test : A → Bool) {xs : List A} → Each (λ (x : A). test x ≡ false) xs → index_of test xs < length xs → ⊥
unfolding index_of
none_found test none h = not-suc-le-zero h
none_found test (more {x = x} {xs = xs} e es) h =
    let n : index_of test (x ∷ xs) ≡ suc (index_of test xs) = index_later test x xs e in
    let l : index_of test xs < length xs = omega arith in
    none_found test es l

-- x is not a map on a later line with the name of m
abbrev Unlike : Map → Map → Type 0
Unlike m x = both (ltb m.line x.line) (same_word m.name x.name) ≡ false

data Fresh : List Map → Type 0 where
  empty : Fresh []
  newer : {m : Map} {ms : List Map} → Each (Unlike m) ms → Fresh ms → Fresh (m ∷ ms)

module _ (m : Map) (ms : List Map) where
  twice_head : (x : Map) → is_twice (map map_name (m ∷ ms)) (map_name x) ≡ false → Unlike m x
  unfolding is_twice any
  twice_head x e = either_none_first _ _ e

  twice_tail : (x : Map) → is_twice (map map_name (m ∷ ms)) (map_name x) ≡ false → is_twice (map map_name ms) (map_name x) ≡ false
  unfolding is_twice any
  twice_tail x e = either_none_second _ _ e

fresh : (ms : List Map) → Each (λ (x : Map). is_twice (map map_name ms) (map_name x) ≡ false) ms → Fresh ms
fresh [] h = empty
fresh (m ∷ ms) (more h hs) = newer (each_by (twice_head m ms) hs) (fresh ms (each_by (twice_tail m ms) hs))

abbrev is_named : Step → Map → Bool
is_named s m = same s.name.text m.name.text

module _ (s : Step) where
  -- if a map above the end has its name, no map below it has: 19 forbids it
  above_below : (m x : Map) → is_named s m ≡ true → is_map_of s m ≡ false → Unlike m x → is_map_of s x ≡ false
  unfolding is_map_of same_word
  above_below m x n f u =
      by_cases (is_map_of s x ≡ false) (is_map_of s x)
      (λ (e : is_map_of s x ≡ true).
      let l : s.line < x.line = ltb-true _ _ (both_first _ _ e) in
      let g : ltb s.line m.line ≡ false = not_below n f in
      let k : m.line ≤ s.line = ltb-false _ _ g in
      let o : m.line < x.line = omega arith in
      let w : m.name.text ≡ x.name.text = sym (same_equal _ _ n) ∙ same_equal _ _ (both_second _ _ e) in
      let v : same m.name.text x.name.text ≡ true = ap (λ (y : List ℕ). same m.name.text y) (sym w) ∙ same_refl m.name.text in
      absurd (true≢false (sym (both_true _ _ (lt-ltb _ _ o) v) ∙ u)))
      (λ (e : is_map_of s x ≡ false). e)
    where
      not_below : is_named s m ≡ true → both (ltb s.line m.line) (is_named s m) ≡ false → ltb s.line m.line ≡ false
      not_below a b =
          by_cases (ltb s.line m.line ≡ false) (ltb s.line m.line)
          (λ (e : ltb s.line m.line ≡ true). absurd (true≢false (sym (both_true _ _ e a) ∙ b)))
          (λ (e : ltb s.line m.line ≡ false). e)

  map_has_name : (m : Map) → is_map_of s m ≡ true → is_named s m ≡ true
  unfolding is_map_of
  map_has_name m e = both_second _ _ e

  -- so the map of an end is the first of its name
  first_named_lem : {ms : List Map} → Fresh ms → index_of (is_map_of s) ms < length ms → index_of (is_map_of s) ms ≡ index_of (is_named s) ms
  first_named_lem empty h = absurd (not-suc-le-zero h)
  first_named_lem (newer {m} {ms} u f) h =
      by_cases (index_of (is_map_of s) (m ∷ ms) ≡ index_of (is_named s) (m ∷ ms)) (is_map_of s m)
      (λ (e : is_map_of s m ≡ true). index_here (is_map_of s) m ms e ∙ sym (index_here (is_named s) m ms (map_has_name m e)))
      (λ (e : is_map_of s m ≡ false).
      let n : index_of (is_map_of s) (m ∷ ms) ≡ suc (index_of (is_map_of s) ms) = index_later (is_map_of s) m ms e in
      let l : index_of (is_map_of s) ms < length ms = omega arith in
      by_cases (index_of (is_map_of s) (m ∷ ms) ≡ index_of (is_named s) (m ∷ ms)) (is_named s m)
      (λ (g : is_named s m ≡ true). absurd (none_found (is_map_of s) (each_by (λ (x : Map) (v : Unlike m x). above_below m x g e v) u) l))
      (λ (g : is_named s m ≡ false). n ∙ ap suc (first_named_lem f l) ∙ sym (index_later (is_named s) m ms g)))

-- ---- the maps do not break 19

module _ (d : Document) where
  maps_kept : (ms : List Map) → Each (λ (f : Finding). f.rule ≡ 0) (map_findings d ms) → Each (λ (m : Map). map_name_rule d m ≡ 0) ms
  unfolding map_findings
  maps_kept [] h = none
  maps_kept (m ∷ ms) (more h hs) = more h (maps_kept ms (each_behind (pin_findings m) (map_findings d ms) hs))

  all_maps_kept : (cross_rule d).rule ≡ 0 → Each (λ (m : Map). map_name_rule d m ≡ 0) d.maps
  unfolding findings
  all_maps_kept e =
      maps_kept d.maps
      (each_front (map_findings d d.maps) (section_findings d 0 d.sections)
      (each_behind (sgr_findings d.models) _ (each_behind (model_findings d d.models) _ (each_behind (list_findings d) _ (all_kept d e)))))

  maps_fresh : (cross_rule d).rule ≡ 0 → Fresh d.maps
  maps_fresh e = fresh d.maps (each_by (λ (m : Map) (h : map_name_rule d m ≡ 0). map_tests d m h 0) (all_maps_kept e))

-- ---- records that are the same except for lines and offsets

record SameModelRecord (a b : ModelRecord) : Type 0 where
  first : a.first ≡ b.first
  steps : a.steps ≡ b.steps

record SameStepRecord (t u : List ℕ) (a b : StepRecord) : Type 0 where
  kind : a.kind ≡ b.kind
  target : a.target ≡ b.target
  amount : a.amount ≡ b.amount
  side : name_at t a.side a.side_size ≡ name_at u b.side b.side_size

same_models : (first other : ℕ) → first ≡ other → {ms ns : List Model} → All2 SameModel ms ns → All2 SameModelRecord (model_records first ms) (model_records other ns)
unfolding model_records model_record
same_models first other e All2.none = All2.none
same_models first other e (All2.more {x} {y} h hs) =
    let l : length x.steps ≡ length y.steps = all2_long h.steps in
    let f : first + length x.steps ≡ other + length y.steps = omega arith in
    All2.more (record { first = e; steps = l }) (same_models (first + length x.steps) (other + length y.steps) f hs)

module _ (t u : List ℕ) (kept : (cross_rule (document_of t)).rule ≡ 0) (also : (cross_rule (document_of u)).rule ≡ 0) (alike : SameDocument (document_of t) (document_of u)) where
  abbrev d : Document
  d = document_of t

  abbrev e : Document
  e = document_of u

  named_alike : (s z : Step) → s.name.text ≡ z.name.text → (x y : Map) → SameMap x y → is_named s x ≡ is_named z y
  named_alike s z n x y h = λ j. same (n j) (h.name j)

  section_alike : (s z : Step) → s.name.text ≡ z.name.text → (x y : Section) → SameSection x y → is_section_of s x ≡ is_section_of z y
  unfolding is_section_of
  section_alike s z n x y h = λ j. same (n j) (h.name j)

  module _ (m n : Model) (s z : Step) (h : SameStep s z) (s_kept : step_rule d m s ≡ 0) (z_kept : step_rule e n z ≡ 0) where
    end_target : s.kind ≡ end_kind → map_index d s ≡ map_index e z
    end_target k =
        first_named_lem s (maps_fresh d kept) (end_found d m s s_kept k)
        ∙ all2_index (is_named s) (is_named z) (named_alike s z h.name) alike.maps
        ∙ sym (first_named_lem z (maps_fresh e also) (end_found e n z z_kept (sym h.kind ∙ k)))

    section_target : section_index d s ≡ section_index e z
    section_target = all2_index (is_section_of s) (is_section_of z) (section_alike s z h.name) alike.sections

    same_target : target_of d.maps d.sections s ≡ target_of e.maps e.sections z
    unfolding target_of
    same_target =
        (λ j. provided eqb s.kind end_kind then map_index d s else provided eqb (h.kind j) section_kind then section_target j else 0)
        ∙ by_cases ((provided eqb s.kind end_kind then map_index d s else provided eqb z.kind section_kind then section_index e z else 0) ≡ (provided eqb s.kind end_kind then map_index e z else provided eqb z.kind section_kind then section_index e z else 0)) (eqb s.kind end_kind)
        (λ (k : eqb s.kind end_kind ≡ true). if_true _ _ k ∙ end_target (eqb-true _ _ k) ∙ sym (if_true _ _ k))
        (λ (k : eqb s.kind end_kind ≡ false). if_false _ _ k ∙ sym (if_false _ _ k))
        ∙ (λ j. provided eqb (h.kind j) end_kind then map_index e z else provided eqb z.kind section_kind then section_index e z else 0)

    same_step : StepStands t s → StepStands u z → SameStepRecord t u (step_record d.maps d.sections s) (step_record e.maps e.sections z)
    unfolding step_record name_at
    same_step a b =
        record {
          kind = h.kind;
          target = same_target;
          amount = h.amount;
          side = a.side.bytes ∙ h.side ∙ sym b.side.bytes;
        }

  model_steps :
      (m n : Model) {ss zs : List Step} → All2 SameStep ss zs → Each (λ (s : Step). step_rule d m s ≡ 0) ss → Each (λ (z : Step). step_rule e n z ≡ 0) zs →
      Each (StepStands t) ss → Each (StepStands u) zs →
      All2 (SameStepRecord t u) (map (step_record d.maps d.sections) ss) (map (step_record e.maps e.sections) zs)
  model_steps m n All2.none none none none none = All2.none
  model_steps m n (All2.more {x} {y} h hs) (more a xs) (more b ys) (more p ps) (more q qs) =
      All2.more (same_step m n x y h a b p q) (model_steps m n hs xs ys ps qs)

  same_steps :
      {ms ns : List Model} → All2 SameModel ms ns → Each (λ (m : Model). Each (λ (s : Step). step_rule d m s ≡ 0) m.steps) ms →
      Each (λ (n : Model). Each (λ (z : Step). step_rule e n z ≡ 0) n.steps) ns → Each (ModelStands t) ms → Each (ModelStands u) ns →
      All2 (SameStepRecord t u) (step_records d.maps d.sections ms) (step_records e.maps e.sections ns)
  unfolding step_records
  same_steps All2.none none none none none = All2.none
  same_steps (All2.more {x} {y} h hs) (more a xs) (more b ys) (more p ps) (more q qs) =
      all2_append (model_steps x y h.steps a b p.steps q.steps) (same_steps hs xs ys ps qs)

  steps_alike : All2 (SameStepRecord t u) (flatten d).steps (flatten e).steps
  unfolding flatten
  steps_alike = same_steps alike.models (all_steps_kept d kept) (all_steps_kept e also) (all_stand t).models (all_stand u).models

  models_alike : All2 SameModelRecord (flatten d).models (flatten e).models
  unfolding flatten
  models_alike = same_models 0 0 refl alike.models

  -- ---- names by targets

  map_names : (i : ℕ) → name_at t (get_or (flatten d).maps i no_map).start (get_or (flatten d).maps i no_map).size ≡ name_at u (get_or (flatten e).maps i no_map).start (get_or (flatten e).maps i no_map).size
  unfolding flatten
  map_names i =
      map_name_lem t (all_stand t).maps 0 i
      ∙ ap (λ (ns : List (List ℕ)). get_or ns i []) (all2_map (λ (m : Map). m.name.text) (λ (m : Map). m.name.text) (λ (x y : Map) (h : SameMap x y). h.name) alike.maps)
      ∙ sym (map_name_lem u (all_stand u).maps 0 i)

  section_names :
      (i : ℕ) →
      name_at t (get_or (flatten d).sections i no_section).start (get_or (flatten d).sections i no_section).size
      ≡ name_at u (get_or (flatten e).sections i no_section).start (get_or (flatten e).sections i no_section).size
  unfolding flatten
  section_names i =
      section_name_lem t (all_stand t).sections 0 i
      ∙ ap (λ (ns : List (List ℕ)). get_or ns i []) (all2_map (λ (s : Section). s.name.text) (λ (s : Section). s.name.text) (λ (x y : Section) (h : SameSection x y). h.name) alike.sections)
      ∙ sym (section_name_lem u (all_stand u).sections 0 i)

  same_name : (v w : StepRecord) → v.kind ≡ w.kind → v.target ≡ w.target → name_through t (flatten d) v ≡ name_through u (flatten e) w
  unfolding name_through
  same_name v w k g =
      (λ j. provided eqb v.kind end_kind then map_names v.target j else provided eqb v.kind section_kind then section_names v.target j else [])
      ∙ (λ j. provided eqb (k j) end_kind then name_at u (get_or (flatten e).maps (g j) no_map).start (get_or (flatten e).maps (g j) no_map).size else provided eqb (k j) section_kind then name_at u (get_or (flatten e).sections (g j) no_section).start (get_or (flatten e).sections (g j) no_section).size else [])

  -- ---- places

  kinds_alike : sound.record_kinds (flatten d).steps ≡ sound.record_kinds (flatten e).steps
  unfolding sound.record_kinds
  kinds_alike = all2_map (λ (s : StepRecord). s.kind) (λ (s : StepRecord). s.kind) (λ (x y : StepRecord) (h : SameStepRecord t u x y). h.kind) steps_alike

  module _ (p : Place) where
    model_alike : SameModelRecord (model_at_place (flatten d) p) (model_at_place (flatten e) p)
    model_alike = all2_at models_alike no_model no_model (record { first = refl; steps = refl }) p.model

    place_alike : is_place (flatten d) p ≡ is_place (flatten e) p
    unfolding is_place kinds_before
    place_alike =
        λ j.
        both (ltb p.model (all2_long models_alike j))
        (both (leb p.step (model_alike.steps j)) (is_depth p.depth (take p.step (range (model_alike.first j) (model_alike.steps j) (kinds_alike j)))))

    no_sides : name_at t no_step.side no_step.side_size ≡ name_at u no_step.side no_step.side_size
    unfolding name_at
    no_sides = refl

    step_alike : SameStepRecord t u (step_at_place (flatten d) p) (step_at_place (flatten e) p)
    unfolding step_at_place
    step_alike =
        rw model_alike.first
        (all2_at steps_alike no_step no_step (record { kind = refl; target = refl; amount = refl; side = no_sides }) ((model_at_place (flatten e) p).first + p.step))

-- ---- the answers

-- two answers by one test
module _ {t table u other : List ℕ} where
  by_two :
      (b c : Bool) → b ≡ c → (v v' w w' : WalkWords) → SameAnswer t table u other v w → SameAnswer t table u other v' w' →
      SameAnswer t table u other (provided b then v else v') (provided c then w else w')
  by_two b c e v v' w w' h k =
      by_cases (SameAnswer t table u other (provided b then v else v') (provided c then w else w')) b
      (λ (f : b ≡ true). rw (if_true v v' f, if_true w w' (sym e ∙ f)) h)
      (λ (f : b ≡ false). rw (if_false v v' f, if_false w w' (sym e ∙ f)) k)

-- 30 is never the answer
asked : (t table : List ℕ) → AcceptedTable t table → (p : Place) → walk.walk_answer t table p ≡ walk_from (flatten (document_of t)) p
unfolding walk.walk_answer
asked t table taken p = if_false _ _ (not_not_via (taken_sound t table taken)) ∙ ap (λ (r : Records). walk_from r p) (taken_records t table taken)

module _ (t table u other : List ℕ) (taken : AcceptedTable t table) (also : AcceptedTable u other) (alike : SameDocument (document_of t) (document_of u)) where
  abbrev r : Records
  r = flatten (document_of t)

  abbrev q : Records
  q = flatten (document_of u)

  name_too : (v w : StepRecord) → v.kind ≡ w.kind → v.target ≡ w.target → name_through t (records_of table) v ≡ name_through u (records_of other) w
  name_too v w k g =
      rw (taken_records t table taken, taken_records u other also)
      (same_name t u (taken_kept t table taken) (taken_kept u other also) alike v w k g)

  no_side : side_of t no_step ≡ side_of u no_step
  unfolding side_of name_at
  no_side = refl

  -- without a step
  stepless :
      (answered done : Bool) (number line : ℕ) (next : Place) →
      SameAnswer t table u other (record { answered = answered; rule = number; line = line; done = done; step = no_step; next = next })
      (record { answered = answered; rule = number; line = line; done = done; step = no_step; next = next })
  stepless answered done number line next =
      record {
        answered = refl;
        rule = refl;
        done = refl;
        kind = refl;
        target = refl;
        amount = refl;
        name = name_too no_step no_step refl refl;
        side = no_side;
        next = refl;
      }

  module _ (p : Place) where
    steps_here : SameStepRecord t u (step_at_place r p) (step_at_place q p)
    steps_here = step_alike t u (taken_kept t table taken) (taken_kept u other also) alike p

    sides_here : side_of t (step_at_place r p) ≡ side_of u (step_at_place q p)
    unfolding side_of
    sides_here = steps_here.side

    -- with one
    with_step : SameAnswer t table u other (stepped (step_at_place r p) (next_of p (step_at_place r p).kind)) (stepped (step_at_place q p) (next_of p (step_at_place q p).kind))
    with_step =
        record {
          answered = refl;
          rule = refl;
          done = refl;
          kind = steps_here.kind;
          target = steps_here.target;
          amount = steps_here.amount;
          name = name_too (step_at_place r p) (step_at_place q p) steps_here.kind steps_here.target;
          side = sides_here;
          next = ap (next_of p) steps_here.kind;
        }

    over_same : SameAnswer t table u other (walk_over (step_at_place r p) p) (walk_over (step_at_place q p) p)
    unfolding walk_over
    over_same = with_step

    on_same : SameAnswer t table u other (walk_on r p) (walk_on q p)
    unfolding walk_on
    on_same =
        by_two (eqb p.step (model_at_place r p).steps) (eqb p.step (model_at_place q p).steps)
        (ap (eqb p.step) (model_alike t u (taken_kept t table taken) (taken_kept u other also) alike p).steps) (done_at p) _ (done_at p) _
        (stepless true true 0 0 p) over_same

    from_same : SameAnswer t table u other (walk_from r p) (walk_from q p)
    unfolding walk_from
    from_same =
        by_two (not (is_place r p)) (not (is_place q p)) (ap not (place_alike t u (taken_kept t table taken) (taken_kept u other also) alike p))
        (walk_refused refusal.no_such) _ (walk_refused refusal.no_such) _ (stepless false false refusal.no_such 0 (record { model = 0; step = 0; depth = 0 })) on_same

    pub walk_same : SameAnswer t table u other (walk.walk_answer t table p) (walk.walk_answer u other p)
    walk_same = rw (asked t table taken p, asked u other also p) from_same

-- from every place, in range or not
pub walks_same :
    (t table u other : List ℕ) → AcceptedTable t table → AcceptedTable u other → SameDocument (document_of t) (document_of u) → (p : Place) →
    SameAnswer t table u other (walk.walk_answer t table p) (walk.walk_answer u other p)
walks_same t table u other taken also alike p = walk_same t table u other taken also alike p
