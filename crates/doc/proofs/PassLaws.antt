-- The steps of all models, the pins of all maps and the matrices of all sections of a text: each is one pass over its lines.
-- Assumes nothing.
use mathlib.Core.Path.{◌≡◌, refl, sym, ◌∙◌, ap}
use mathlib.Core.Bool.{Bool, true, false, true≢false}
use mathlib.Core.List.{List, [], ◌∷◌, ◌++◌, append-nil, map, map-append}
use Prim.Native.Nat.{ℕ}
use native.Mathlib.Omega.{arith}
use lib.Dec.{eqb}
use borrow.Author.Tests.{eq-eqb, ne_eqb, eqb-true, eqb-false}
use Rattle.table_record.specs.declared.Value.{Value}
use Rattle.table_record.specs.declared.PinRecord.{PinRecord}
use Rattle.table_record.specs.declared.StepRecord.{StepRecord}
use Rattle.base.specs.If.{provided◌then◌else◌, both, either}
use Rattle.base.proofs.IfLaws.{
  if_false,
  by_cases,
  both_first,
  both_second,
  both_not_left,
  both_not_right,
  either_right,
  either_false,
  either_rest,
  either_none_first,
  either_none_second,
}
use Rattle.lex_keyword.specs.Names.{icm_pin_map}
use Rattle.line_place.specs.Place.{is_in_family, is_in_model}
use Rattle.line_place.specs.Place as place
use Rattle.line_path.specs.Path as path
use Rattle.doc.specs.Lines.{Line, plain, key_at, significant, key_of, stands_in, gather, up_to}
use Rattle.doc.specs.Document.{Model, Map, Matrix, Section, saying_at, side_in, step_of, steps_in, opens_model, in_model, model_of, model_at, opens_map, in_map, pin_at, map_of, map_at, opens_matrix_at, in_matrix, matrix_at, opens_section, in_section, section_of, section_at, document_in, document_of}
use Rattle.doc.specs.Records.{pin_record, pin_records, step_record, step_records, matrices_of, values_of}
use Rattle.doc.proofs.LeadLaws.{OutsideMap, OutsideSection, model_entered, map_entered, section_entered}
use Rattle.doc.proofs.BlockLaws.{Follow, none, more, text_follows, joined, Blocks, of_block, Outside, parts_pass}
use Rattle.doc.proofs.StepLaws.{saying_elsewhere, silent_step}
use Rattle.doc.proofs.GatherLaws.{up_in, up_none, up_out}

-- ---- steps of models

-- outside every model a line says nothing of a path
silent : (l : Line) → in_model l ≡ false → saying_at l ≡ path.says_nothing
unfolding in_model is_in_model
silent l out = saying_elsewhere l (eqb-false _ _ (either_none_first _ _ (either_none_second _ _ out)))

-- the line after a model's last is no Side
side_cut : (after : List Line) → side_in (up_to in_model after) ≡ side_in after
side_cut [] = ap side_in (up_none in_model)
side_cut (l ∷ ls) =
    by_cases (side_in (up_to in_model (l ∷ ls)) ≡ side_in (l ∷ ls)) (in_model l)
    (λ (e : in_model l ≡ true). ap side_in (up_in in_model l ls e))
    (λ (e : in_model l ≡ false). ap side_in (up_out in_model l ls e) ∙ sym (if_false _ _ (quiet e)))
  where
    quiet : in_model l ≡ false → eqb (saying_at l) path.says_side ≡ false
    quiet e = rw (silent l e)

step_cut : (l : Line) (after : List Line) → step_of l (up_to in_model after) ≡ step_of l after
unfolding step_of
step_cut l after = rw (side_cut after)

-- no place in a model is one of the family's
model_no_family : (p : ℕ) → is_in_model p ≡ true → is_in_family p ≡ false
unfolding is_in_model is_in_family either
model_no_family p e =
    by_cases (is_in_family p ≡ false) (eqb p place.head) (λ (a : eqb p place.head ≡ true). rw (eqb-true p place.head a))
    (λ (a : eqb p place.head ≡ false).
    by_cases (is_in_family p ≡ false) (eqb p place.path) (λ (b : eqb p place.path ≡ true). rw (eqb-true p place.path b))
    (λ (b : eqb p place.path ≡ false).
    let c : eqb p place.model_text ≡ true = rw (a, b) at e in
    rw (eqb-true p place.model_text c)))

pub model_blocks : Blocks opens_model in_model step_of
unfolding opens_model in_model key_of
model_blocks =
    record {
      only = λ l after out. silent_step l after (silent l out);
      apart = λ l into. both_not_left _ _ (model_no_family l.place into);
      entered = λ l m e out shut. ap is_in_model e ∙ model_entered l.place l.content out shut;
      cut = step_cut;
    }

-- ---- pins of maps

both_left_fails : (a b : Bool) → both a b ≡ false → b ≡ true → a ≡ false
unfolding both
both_left_fails true b e h = absurd (true≢false (sym h ∙ e))
both_left_fails false b e h = refl

module _ (l : Line) where
  map_plain : in_map l ≡ true → key_of l ≡ plain
  unfolding in_map stands_in
  map_plain e =
      by_cases (key_of l ≡ plain) (stands_in place.map_head l) (λ (h : stands_in place.map_head l ≡ true). eqb-true _ _ (both_second _ _ h))
      (λ (h : stands_in place.map_head l ≡ false). eqb-true _ _ (both_second _ _ (sym (either_rest _ _ h) ∙ e)))

  map_apart : in_map l ≡ true → opens_map l ≡ false
  unfolding opens_map
  map_apart e =
      let k : key_of l ≡ plain = map_plain e in
      both_not_right _ _ (ne_eqb _ _ (λ (h : key_of l ≡ icm_pin_map). let z : plain ≡ icm_pin_map = sym k ∙ h in omega arith))

  no_pin : in_map l ≡ false → (after : List Line) → pin_at l after ≡ []
  unfolding in_map pin_at
  no_pin e after = if_false _ _ (either_none_second _ _ e)

  map_outside : in_map l ≡ false → key_at l.content ≡ plain → OutsideMap l.place
  unfolding in_map stands_in key_of
  map_outside e k =
      record {
        head = both_left_fails _ _ (either_none_first _ _ e) (eq-eqb _ _ k);
        pins = both_left_fails _ _ (either_none_second _ _ e) (eq-eqb _ _ k);
      }

  outside_map : OutsideMap l.place → in_map l ≡ false
  unfolding in_map stands_in
  outside_map o = either_false _ _ (both_not_left _ _ o.head) (both_not_left _ _ o.pins)

pub map_blocks : Blocks opens_map in_map pin_at
unfolding opens_map key_of pin_at
map_blocks =
    record {
      only = λ l after out. no_pin l out after;
      apart = map_apart;
      entered = λ l m e out shut. outside_map m (rw e (map_entered l.place l.content (map_outside l out) shut));
      cut = λ l after. refl;
    }

-- ---- matrices of sections

module _ (l : Line) where
  section_outside : in_section l ≡ false → OutsideSection l.place
  unfolding in_section
  section_outside e =
      record {
        head = either_none_first _ _ e;
        section = either_none_first _ _ (either_none_second _ _ e);
        matrix = either_none_second _ _ (either_none_second _ _ e);
      }

  outside_section : OutsideSection l.place → in_section l ≡ false
  unfolding in_section
  outside_section o = either_false _ _ o.head (either_false _ _ o.section o.matrix)

  section_apart : in_section l ≡ true → opens_section l ≡ false
  unfolding opens_section
  section_apart e =
      both_not_left _ _
      (ne_eqb _ _
      (λ (h : l.place ≡ place.after). true≢false (sym e ∙ outside_section (record { head = rw h; section = rw h; matrix = rw h }))))

  no_matrix_lem : in_section l ≡ false → (after : List Line) → matrix_at l after ≡ []
  unfolding matrix_at opens_matrix_at
  no_matrix_lem e after =
      if_false _ _ (both_not_left _ _ (either_false _ _ (section_outside e).section (section_outside e).matrix))

  matrix_in_section : in_matrix l ≡ true → in_section l ≡ true
  unfolding in_matrix in_section
  matrix_in_section e = either_right _ _ (either_right _ _ (both_first _ _ e))

-- cutting twice is cutting where the inner block ends
up_to_twice :
    (inner outer : Line → Bool) → ((l : Line) → inner l ≡ true → outer l ≡ true) → (ls : List Line) →
    up_to inner (up_to outer ls) ≡ up_to inner ls
up_to_twice inner outer h [] = ap (up_to inner) (up_none outer)
up_to_twice inner outer h (l ∷ ls) =
    by_cases (up_to inner (up_to outer (l ∷ ls)) ≡ up_to inner (l ∷ ls)) (inner l)
    (λ (e : inner l ≡ true).
    ap (up_to inner) (up_in outer l ls (h l e))
    ∙ up_in inner l (up_to outer ls) e
    ∙ ap (λ (r : List Line). l ∷ r) (up_to_twice inner outer h ls)
    ∙ sym (up_in inner l ls e))
    (λ (e : inner l ≡ false). left e (outer l) refl ∙ sym (up_out inner l ls e))
  where
    left : inner l ≡ false → (b : Bool) → outer l ≡ b → up_to inner (up_to outer (l ∷ ls)) ≡ []
    left e true o = ap (up_to inner) (up_in outer l ls o) ∙ up_out inner l (up_to outer ls) e
    left e false o = ap (up_to inner) (up_out outer l ls o) ∙ up_none inner

matrix_cut : (l : Line) (after : List Line) → matrix_at l (up_to in_section after) ≡ matrix_at l after
unfolding matrix_at
matrix_cut l after = rw (up_to_twice in_matrix in_section matrix_in_section after)

pub section_blocks : Blocks opens_section in_section matrix_at
unfolding opens_section key_of
section_blocks =
    record {
      only = λ l after out. no_matrix_lem l out after;
      apart = section_apart;
      entered = λ l m e out shut. outside_section m (rw e (section_entered l.place l.content (section_outside l out) shut));
      cut = matrix_cut;
    }

-- ---- all of them

gives_one :
    {A B : Type 0} (parts : B → List A) (b : Bool) (x : B) (xs : List A) → parts x ≡ xs →
    joined parts (provided b then x ∷ [] else []) ≡ (provided b then xs else [])
unfolding joined provided◌then◌else◌
gives_one parts true x xs e = append-nil (parts x) ∙ e
gives_one parts false x xs e = refl

model_gives :
    (l : Line) (after : List Line) → joined (λ (m : Model). m.steps) (model_at l after) ≡ of_block opens_model in_model step_of l after
unfolding model_at model_of steps_in of_block
model_gives l after =
    gives_one (λ (m : Model). m.steps) (opens_model l) (model_of l (up_to in_model after)) (gather step_of (up_to in_model after)) refl

map_gives : (l : Line) (after : List Line) → joined (λ (m : Map). m.pins) (map_at l after) ≡ of_block opens_map in_map pin_at l after
unfolding map_at map_of of_block
map_gives l after =
    gives_one (λ (m : Map). m.pins) (opens_map l) (map_of l (up_to in_map after)) (gather pin_at (up_to in_map after)) refl

section_gives :
    (l : Line) (after : List Line) →
    joined (λ (s : Section). s.matrices) (section_at l after) ≡ of_block opens_section in_section matrix_at l after
unfolding section_at section_of of_block
section_gives l after =
    gives_one (λ (s : Section). s.matrices) (opens_section l) (section_of l (up_to in_section after))
    (gather matrix_at (up_to in_section after)) refl

-- above [Begin Header] no block is open
pub starts_outside :
    (inside : Line → Bool) → ((l : Line) → l.place ≡ place.before → inside l ≡ false) → {ls : List Line} → Follow place.before ls →
    Outside inside ls
starts_outside inside h none = tt
starts_outside inside h (more e follow) = h _ e

before_models : (l : Line) → l.place ≡ place.before → in_model l ≡ false
unfolding in_model is_in_model either
before_models l e = rw e

before_maps : (l : Line) → l.place ≡ place.before → in_map l ≡ false
before_maps l e = outside_map l (record { head = rw e; pins = rw e })

before_sections : (l : Line) → l.place ≡ place.before → in_section l ≡ false
before_sections l e = outside_section l (record { head = rw e; section = rw e; matrix = rw e })

module _ (ls : List Line) (follow : Follow place.before ls) where
  pub steps_pass : joined (λ (m : Model). m.steps) (gather model_at ls) ≡ gather step_of ls
  steps_pass =
      parts_pass opens_model in_model step_of model_blocks (λ (m : Model). m.steps) model_at model_gives ls follow
      (starts_outside in_model before_models follow)

  pub pins_pass : joined (λ (m : Map). m.pins) (gather map_at ls) ≡ gather pin_at ls
  pins_pass =
      parts_pass opens_map in_map pin_at map_blocks (λ (m : Map). m.pins) map_at map_gives ls follow (starts_outside in_map before_maps follow)

  pub matrices_pass : joined (λ (s : Section). s.matrices) (gather section_at ls) ≡ gather matrix_at ls
  matrices_pass =
      parts_pass opens_section in_section matrix_at section_blocks (λ (s : Section). s.matrices) section_at section_gives ls follow
      (starts_outside in_section before_sections follow)

-- those of a text
module _ (t : List ℕ) where
  pub steps_of_text : joined (λ (m : Model). m.steps) (document_of t).models ≡ gather step_of (significant t)
  unfolding document_of document_in
  steps_of_text = steps_pass (significant t) (text_follows t)

  pub pins_of_text : joined (λ (m : Map). m.pins) (document_of t).maps ≡ gather pin_at (significant t)
  unfolding document_of document_in
  pins_of_text = pins_pass (significant t) (text_follows t)

  pub matrices_of_text : joined (λ (s : Section). s.matrices) (document_of t).sections ≡ gather matrix_at (significant t)
  unfolding document_of document_in
  matrices_of_text = matrices_pass (significant t) (text_follows t)

-- ---- the records of a document, from the parts of its blocks

pub matrices_joined : (ss : List Section) → matrices_of ss ≡ joined (λ (s : Section). s.matrices) ss
unfolding matrices_of joined
matrices_joined [] = refl
matrices_joined (s ∷ ss) = ap (λ (r : List Matrix). s.matrices ++ r) (matrices_joined ss)

pub values_joined : (ms : List Matrix) → values_of ms ≡ joined (λ (m : Matrix). m.values) ms
unfolding values_of joined
values_joined [] = refl
values_joined (m ∷ ms) = ap (λ (r : List Value). m.values ++ r) (values_joined ms)

pub pins_joined : (ms : List Map) → pin_records ms ≡ map pin_record (joined (λ (m : Map). m.pins) ms)
unfolding pin_records joined
pins_joined [] = refl
pins_joined (m ∷ ms) =
    ap (λ (r : List PinRecord). map pin_record m.pins ++ r) (pins_joined ms)
    ∙ sym (map-append pin_record m.pins (joined (λ (x : Map). x.pins) ms))

pub steps_joined :
    (maps : List Map) (sections : List Section) (ms : List Model) →
    step_records maps sections ms ≡ map (step_record maps sections) (joined (λ (m : Model). m.steps) ms)
unfolding step_records joined
steps_joined maps sections [] = refl
steps_joined maps sections (m ∷ ms) =
    ap (λ (r : List StepRecord). map (step_record maps sections) m.steps ++ r) (steps_joined maps sections ms)
    ∙ sym (map-append (step_record maps sections) m.steps (joined (λ (x : Model). x.steps) ms))
