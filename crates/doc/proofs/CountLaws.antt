-- The counts of a text that reads to its end are those of its document: as many models, steps, maps, pins, sections, matrices and values.
-- Assumes nothing.
use mathlib.Core.Path.{◌≡◌, refl, sym, ◌∙◌, ap}
use mathlib.Core.Bool.{Bool, true, false, not, true≢false}
use mathlib.Core.List.{List, [], ◌∷◌, map}
use Prim.Native.Nat.{ℕ, suc, ◌+◌, zero, ◌≤◌}
use native.Mathlib.Omega.{arith}
use lib.ListN.{length, length-append, length-map, get_or}
use lib.Dec.{eqb}
use borrow.Author.Tests.{eq-eqb, eqb-true, eqb-false}
use Rattle.table_record.specs.Records.{parts_of}
use Rattle.base.specs.If.{provided◌then◌else◌, both, either}
use Rattle.base.proofs.IfLaws.{if_false, by_cases, both_true, both_rest, both_not_left, both_not_right, either_none_first}
use Rattle.lex_keyword.specs.Names.{icm_pin_map, begin_header, begin_icm_model, begin_icm_section}
use Rattle.line_place.specs.Place.{is_in_header, is_in_family, is_in_model, opens_matrix, moved}
use Rattle.line_place.specs.Place as place
use Rattle.line_argument.specs.Argument.{form_of}
use Rattle.line_path.specs.Path.{path_line_of, is_step_line}
use Rattle.line_path.specs.Path as path
use Rattle.line_keyword.specs.Keywords.{is_misplaced, one_more_if, counts_after, keyword_next}
use Rattle.line_keyword.specs.State.{start_state, no_counts}
use Rattle.line_keyword.specs.declared.Counts.{Counts}
use Rattle.line_keyword.specs.declared.State.{State}
use Rattle.line_keyword.specs.Way.Rule.{keyword_rule}
use Rattle.read_line.specs.Reading.{line_next, counts_after_line, reading_of}
use Rattle.read_line.specs.declared.Reading.TheVariants.{Read}
use Rattle.read_line.proofs.OutsideLaws.{Met, keyword_placed}
use Rattle.doc.specs.Lines.{Line, plain, significant, key_of, argument_of, stands_in, gather, up_to}
use Rattle.doc.specs.Document.{
  Model,
  Map,
  Section,
  Document,
  Matrix,
  saying_at,
  step_of,
  opens_model,
  in_model,
  model_of,
  model_at,
  opens_map,
  in_map,
  pin_at,
  map_of,
  map_at,
  opens_matrix_at,
  in_matrix,
  matrix_of,
  matrix_at,
  opens_section,
  in_section,
  section_of,
  section_at,
  document_in,
  document_of,
}
use Rattle.doc.specs.Records.{model_records, map_records, section_records, matrix_records, matrices_of, values_of, flatten, table_of}
use Rattle.doc.specs.Way.Holds.{counts_of}
use Rattle.doc.proofs.Goes.{
  Idle,
  Moves,
  idle,
  plainly,
  keyed,
  Goes,
  none,
  more,
  MetBy,
  AllMet,
  Ends,
  idle_outside,
  moves_place,
  text_ends,
}
use Rattle.doc.proofs.LeadLaws.{is_place, place_known, Looked, model_stands, map_stands, section_stands, matrix_stands}
use Rattle.doc.proofs.BlockLaws.{text_follows, joined}
use Rattle.doc.proofs.PassLaws.{
  starts_outside,
  steps_of_text,
  pins_of_text,
  matrices_of_text,
  matrices_joined,
  values_joined,
  pins_joined,
  steps_joined,
}
use Rattle.doc.proofs.TallyLaws.{values_counted}
use Rattle.doc.proofs.StepLaws.{saying_there, saying_elsewhere, saying_keyed, path_ruled, path_says, silent_step, said_steps}
use Rattle.doc.proofs.GatherLaws.{gather_more, gather_none}
use Rattle.table_layout.specs.Layout.{widths, needed, part_count}
use Rattle.table_layout.proofs.LayoutLaws.{length_layout}
use Rattle.table_record.proofs.BackLaws.{records_wide}
use Rattle.table_layout.specs.Bounds.{bounds}
use Rattle.read_line.proofs.CountLaws.{read_within, read_matrices}
use Rattle.read_line.specs.Way.Steps.{line_rule}

-- ---- the place of a keyword that breaks no rule

pub record Placed (p k : ℕ) : Type 0 where
  pub model : k ≡ begin_icm_model → is_in_family p ≡ true
  pub map : k ≡ icm_pin_map → is_in_family p ≡ true
  pub section : k ≡ begin_icm_section → p ≡ place.after
  pub matrix : opens_matrix k ≡ true → either (eqb p place.section) (eqb p place.matrix) ≡ true

module _ (k : ℕ) (argument : List ℕ) (s : State) (known : is_place s.place ≡ true) (met : Met k s)
    (kept : keyword_rule k argument s ≡ 0) where
  not_dead : moved s.place k ≡ place.dead → ⊥
  unfolding is_misplaced
  not_dead = eqb-false _ _ (either_none_first _ _ (keyword_placed k argument s kept))

  looked : (k ≡ begin_header → ⊥) → Looked s.place
  looked n = record { known = known; not_done = met.on; not_before = λ (b : s.place ≡ place.before). n (met.first b) }

  matrix_not_header : opens_matrix k ≡ true → k ≡ begin_header → ⊥
  unfolding opens_matrix either
  matrix_not_header h e =
      let z : opens_matrix begin_header ≡ true = rw e at h in
      true≢false (sym z)

  pub placed : Placed s.place k
  placed =
      record {
        model = λ (e : k ≡ begin_icm_model).
            model_stands s.place (looked (λ (h : k ≡ begin_header). omega arith)) (rw e at not_dead);
        map = λ (e : k ≡ icm_pin_map). map_stands s.place (looked (λ (h : k ≡ begin_header). omega arith)) (rw e at not_dead);
        section = λ (e : k ≡ begin_icm_section).
            section_stands s.place (looked (λ (h : k ≡ begin_header). omega arith)) (rw e at not_dead);
        matrix = λ (h : opens_matrix k ≡ true). matrix_stands s.place (looked (matrix_not_header h)) k h not_dead;
      }

-- ---- what each line adds to a count, all lines add

-- the count rises by as many as the line gives
pub record Counted {A : Type 0} (count : State → ℕ) (here : Line → List Line → List A) : Type 0 where
  pub idly : (l : Line) (s : State) → l.place ≡ s.place → Idle l s → (after : List Line) → here l after ≡ []
  pub plainly :
      (l : Line) (s : State) → l.place ≡ s.place → key_of l ≡ plain → line_rule l.content s ≡ 0 → (after : List Line) →
      count (line_next l.content s) ≡ count s + length (here l after)
  pub keyed :
      (l : Line) (s : State) → l.place ≡ s.place → eqb (key_of l) plain ≡ false → Placed s.place (key_of l) → (after : List Line) →
      count (keyword_next (key_of l) (argument_of l).text s) ≡ count s + length (here l after)

moves_known : (l : Line) (s s' : State) → Moves l s s' → is_place s.place ≡ true → is_place s'.place ≡ true
moves_known l s s' m known = ap is_place (moves_place l s s' m) ∙ place_known s.place l.content known

module _ {A : Type 0} (count : State → ℕ) (here : Line → List Line → List A) (counted : Counted count here) where
  moves_count :
      (l : Line) (s s' : State) (m : Moves l s s') → MetBy m → is_place s.place ≡ true → l.place ≡ s.place → (after : List Line) →
      count s' ≡ count s + length (here l after)
  moves_count l s s' (idle i) met known e after =
      let z : length (here l after) ≡ 0 = ap length (counted.idly l s e i after) in
      omega arith
  moves_count l s s' (plainly k h) met known e after = counted.plainly l s e k h after
  moves_count l s s' (keyed k h) met known e after = counted.keyed l s e k (placed (key_of l) (argument_of l).text s known met h) after

  pub goes_count :
      {s e : State} {ls : List Line} (g : Goes s ls e) → AllMet g → is_place s.place ≡ true →
      count e ≡ count s + length (gather here ls)
  goes_count {s} none met known =
      let z : length (gather here []) ≡ 0 = ap length (gather_none here) in
      omega arith
  goes_count {s} {e} (more {s' = s'} {l = l} {ls = ls} p b m g) met known =
      let later : count e ≡ count s' + length (gather here ls) = goes_count g met.1 (moves_known l s s' m known) in
      let now : count s' ≡ count s + length (here l ls) = moves_count l s s' m met.0 known p ls in
      let all : length (gather here (l ∷ ls)) ≡ length (here l ls) + length (gather here ls) =
      ap length (gather_more here l ls) ∙ length-append (here l ls) (gather here ls) in
      omega arith

-- ---- a line that gives one or none

module _ {A : Type 0} (n : ℕ) (x : A) where
  one_added : (b d : Bool) → b ≡ d → one_more_if b n ≡ n + length (provided d then x ∷ [] else [])
  unfolding one_more_if provided◌then◌else◌
  one_added true true e = refl
  one_added true false e = absurd (true≢false e)
  one_added false true e = absurd (true≢false (sym e))
  one_added false false e = omega arith

  none_added : (d : Bool) → d ≡ false → n ≡ n + length (provided d then x ∷ [] else [])
  unfolding provided◌then◌else◌
  none_added true e = absurd (true≢false e)
  none_added false e = omega arith

module _ (a b : Bool) where
  both_with : b ≡ true → a ≡ both a b
  both_with e = by_cases (a ≡ both a b) a (λ (h : a ≡ true). h ∙ sym (both_true a b h e)) (λ (h : a ≡ false). h ∙ sym (both_not_left a b h))

  -- if the test of a keyword implies that of its place, the two together are the test of the keyword
  same_both : (b ≡ true → a ≡ true) → b ≡ both a b
  same_both h = by_cases (b ≡ both a b) b (λ (e : b ≡ true). sym (both_rest a b (h e))) (λ (e : b ≡ false). e ∙ sym (both_not_right a b e))

-- ---- models, maps, sections, matrices

-- what a keyword opens in its place
module _ {A : Type 0} (count : State → ℕ) (stands : ℕ → Bool) (opens : ℕ → Bool) (block : Line → List Line → A) where
  block_counted :
      stands place.done ≡ false → stands place.before ≡ false → opens plain ≡ false →
      ((content : List ℕ) (s : State) → count (line_next content s) ≡ count s) →
      ((k : ℕ) (argument : List ℕ) (s : State) → count (keyword_next k argument s) ≡ one_more_if (opens k) (count s)) →
      ((p k : ℕ) → Placed p k → opens k ≡ true → stands p ≡ true) →
      Counted count (λ (l : Line) (after : List Line). provided both (stands l.place) (opens (key_of l)) then block l after ∷ [] else [])
  block_counted done before other lines keywords there =
      record {
        idly = λ l s e i after.
            if_false _ _ (both_not_left _ _ (idle_outside stands done before l s e i));
        plainly = λ l s e k h after.
            lines l.content s
            ∙ none_added (count s) (block l after) (both (stands l.place) (opens (key_of l))) (both_not_right _ _ (ap opens k ∙ other));
        keyed = λ l s e k p after.
            keywords (key_of l) (argument_of l).text s
            ∙ one_added (count s) (block l after) (opens (key_of l)) (both (stands l.place) (opens (key_of l)))
            (same_both _ _ (λ (t : opens (key_of l) ≡ true). ap stands e ∙ there s.place (key_of l) p t));
      }

models_counted : Counted (λ (s : State). s.counts.models) model_at
unfolding model_at opens_model is_in_family either line_next counts_after_line keyword_next counts_after
models_counted =
    block_counted (λ (s : State). s.counts.models) is_in_family (λ (k : ℕ). eqb k begin_icm_model)
    (λ (l : Line) (after : List Line). model_of l (up_to in_model after)) refl refl refl (λ content s. refl) (λ k argument s. refl)
    (λ (p k : ℕ) (h : Placed p k) (t : eqb k begin_icm_model ≡ true). h.model (eqb-true _ _ t))

maps_counted : Counted (λ (s : State). s.counts.maps) map_at
unfolding map_at opens_map is_in_family either line_next counts_after_line keyword_next counts_after
maps_counted =
    block_counted (λ (s : State). s.counts.maps) is_in_family (λ (k : ℕ). eqb k icm_pin_map)
    (λ (l : Line) (after : List Line). map_of l (up_to in_map after)) refl refl refl (λ content s. refl) (λ k argument s. refl)
    (λ (p k : ℕ) (h : Placed p k) (t : eqb k icm_pin_map ≡ true). h.map (eqb-true _ _ t))

sections_counted : Counted (λ (s : State). s.counts.sections) section_at
unfolding section_at opens_section line_next counts_after_line keyword_next counts_after
sections_counted =
    block_counted (λ (s : State). s.counts.sections) (λ (p : ℕ). eqb p place.after) (λ (k : ℕ). eqb k begin_icm_section)
    (λ (l : Line) (after : List Line). section_of l (up_to in_section after)) refl refl refl (λ content s. refl) (λ k argument s. refl)
    (λ (p k : ℕ) (h : Placed p k) (t : eqb k begin_icm_section ≡ true). eq-eqb _ _ (h.section (eqb-true _ _ t)))

matrices_counted : Counted (λ (s : State). s.counts.matrices) matrix_at
unfolding matrix_at opens_matrix_at opens_matrix either line_next counts_after_line keyword_next counts_after
matrices_counted =
    block_counted (λ (s : State). s.counts.matrices) (λ (p : ℕ). either (eqb p place.section) (eqb p place.matrix)) opens_matrix
    (λ (l : Line) (after : List Line). matrix_of l (form_of (argument_of l).text) (up_to in_matrix after)) refl refl refl (λ content s. refl)
    (λ k argument s. refl) (λ (p k : ℕ) (h : Placed p k) (t : opens_matrix k ≡ true). h.matrix t)

-- ---- pins

pins_counted : Counted (λ (s : State). s.counts.pins) pin_at
unfolding pin_at stands_in line_next counts_after_line keyword_next counts_after
pins_counted =
    record {
      idly = λ l s e i after.
          if_false _ _ (both_not_left _ _ (idle_outside (λ (p : ℕ). eqb p place.pin_list) refl refl l s e i));
      plainly = λ l s e k h after.
          one_added s.counts.pins _ (eqb s.place place.pin_list) (stands_in place.pin_list l)
          (ap (λ (p : ℕ). eqb p place.pin_list) (sym e) ∙ pins_plain l k);
      keyed = λ l s e k p after.
          none_added s.counts.pins _ (stands_in place.pin_list l) (both_not_right _ _ k);
    }
  where
    pins_plain : (l : Line) → key_of l ≡ plain → eqb l.place place.pin_list ≡ both (eqb l.place place.pin_list) (eqb (key_of l) plain)
    pins_plain l k = both_with _ _ (eq-eqb (key_of l) plain k)

-- ---- steps

module _ (l : Line) (s : State) (e : l.place ≡ s.place) (k : key_of l ≡ plain) (h : line_rule l.content s ≡ 0) (after : List Line) where
  steps_in_path : s.place ≡ place.path → (line_next l.content s).counts.steps ≡ s.counts.steps + length (step_of l after)
  unfolding line_next counts_after_line is_step_line
  steps_in_path there =
      let says : saying_at l ≡ (path_line_of l.content).says = saying_there l (e ∙ there) k in
      ap (λ (b : Bool). one_more_if b s.counts.steps) (both_rest _ _ (eq-eqb s.place place.path there))
      ∙ ap (λ (v : ℕ). one_more_if (not (eqb v path.says_side)) s.counts.steps) (sym says)
      ∙ said_steps s.counts.steps l after
      (rw says (path_says (path_line_of l.content) s.path s.counts.steps (path_ruled l.content s there h)))

  steps_elsewhere :
      eqb s.place place.path ≡ false → (line_next l.content s).counts.steps ≡ s.counts.steps + length (step_of l after)
  unfolding line_next counts_after_line one_more_if
  steps_elsewhere away =
      let z : length (step_of l after) ≡ 0 =
      ap length (silent_step l after (saying_elsewhere l (λ (z : l.place ≡ place.path). eqb-false _ _ away (sym e ∙ z)))) in
      if_false _ _ (both_not_left _ _ away) ∙ omega arith

  steps_plainly : (line_next l.content s).counts.steps ≡ s.counts.steps + length (step_of l after)
  steps_plainly =
      by_cases _ (eqb s.place place.path) (λ (t : eqb s.place place.path ≡ true). steps_in_path (eqb-true _ _ t)) steps_elsewhere

steps_counted : Counted (λ (s : State). s.counts.steps) step_of
unfolding keyword_next counts_after
steps_counted =
    record {
      idly = λ l s e i after.
          silent_step l after (saying_elsewhere l (eqb-false _ _ (idle_outside (λ (p : ℕ). eqb p place.path) refl refl l s e i)));
      plainly = steps_plainly;
      keyed = λ l s e k p after.
          let z : length (step_of l after) ≡ 0 = ap length (silent_step l after (saying_keyed l k)) in
          omega arith;
    }

-- ---- as many records as parts

pub models_long : (first : ℕ) (ms : List Model) → length (model_records first ms) ≡ length ms
unfolding model_records
models_long first [] = refl
models_long first (m ∷ ms) = ap suc (models_long (first + length m.steps) ms)

pub maps_long : (first : ℕ) (ms : List Map) → length (map_records first ms) ≡ length ms
unfolding map_records
maps_long first [] = refl
maps_long first (m ∷ ms) = ap suc (maps_long (first + length m.pins) ms)

pub sections_long_lem : (first : ℕ) (ss : List Section) → length (section_records first ss) ≡ length ss
unfolding section_records
sections_long_lem first [] = refl
sections_long_lem first (s ∷ ss) = ap suc (sections_long_lem (first + length s.matrices) ss)

pub matrices_long : (first : ℕ) (ms : List Matrix) → length (matrix_records first ms) ≡ length ms
unfolding matrix_records
matrices_long first [] = refl
matrices_long first (m ∷ ms) = ap suc (matrices_long (first + length m.values) ms)

-- the parts of the records of any document are as long as its lists
pub parts_long :
    (d : Document) →
    map length (parts_of (flatten d))
    ≡ length d.models
    ∷ length (joined (λ (m : Model). m.steps) d.models)
    ∷ length d.maps
    ∷ length (joined (λ (m : Map). m.pins) d.maps)
    ∷ length d.sections
    ∷ length (matrices_of d.sections)
    ∷ length (values_of (matrices_of d.sections))
    ∷ []
unfolding parts_of flatten
parts_long d = simp (length-map, models_long, steps_joined, maps_long, pins_joined, sections_long_lem, matrices_long)

-- ---- the whole text

start_known : is_place start_state.place ≡ true
unfolding is_place start_state is_in_model is_in_family is_in_header either
start_known = refl

start_counts : start_state.counts ≡ no_counts
unfolding start_state
start_counts = refl

-- before the first line nothing is counted
from_none :
    (count : Counts → ℕ) (n : ℕ) (c : Counts) (e : State) → count no_counts ≡ 0 → e.counts ≡ c →
    count e.counts ≡ count start_state.counts + n → n ≡ count c
from_none count n c e z f h =
    let a : count start_state.counts ≡ 0 = ap count start_counts ∙ z in
    let b : count e.counts ≡ count c = ap count f in
    omega arith

before_matrices : (l : Line) → l.place ≡ place.before → in_matrix l ≡ false
unfolding in_matrix
before_matrices l e = both_not_left _ _ (ap (λ (p : ℕ). eqb p place.matrix) e)

-- the matrices of all sections, in one pass
matrices_there : (t : List ℕ) → matrices_of (document_of t).sections ≡ gather matrix_at (significant t)
matrices_there t = matrices_joined (document_of t).sections ∙ matrices_of_text t

module _ (t : List ℕ) (c : Counts) (h : reading_of t ≡ Read c) where
  by_lines :
      {A : Type 0} (count : Counts → ℕ) (here : Line → List Line → List A) → Counted (λ (s : State). count s.counts) here →
      count no_counts ≡ 0 → length (gather here (significant t)) ≡ count c
  by_lines count here counted z =
      let ends : Ends start_state (significant t) c = text_ends t c h in
      from_none count (length (gather here (significant t))) c ends.end z ends.counts
      (goes_count (λ (s : State). count s.counts) here counted ends.goes ends.met start_known)

  pub many_models : length (document_of t).models ≡ c.models
  unfolding document_of document_in no_counts
  many_models = by_lines (λ (x : Counts). x.models) model_at models_counted refl

  pub many_steps : length (joined (λ (m : Model). m.steps) (document_of t).models) ≡ c.steps
  unfolding no_counts
  many_steps = ap length (steps_of_text t) ∙ by_lines (λ (x : Counts). x.steps) step_of steps_counted refl

  pub many_maps : length (document_of t).maps ≡ c.maps
  unfolding document_of document_in no_counts
  many_maps = by_lines (λ (x : Counts). x.maps) map_at maps_counted refl

  pub many_pins : length (joined (λ (m : Map). m.pins) (document_of t).maps) ≡ c.pins
  unfolding no_counts
  many_pins = ap length (pins_of_text t) ∙ by_lines (λ (x : Counts). x.pins) pin_at pins_counted refl

  pub many_sections : length (document_of t).sections ≡ c.sections
  unfolding document_of document_in no_counts
  many_sections = by_lines (λ (x : Counts). x.sections) section_at sections_counted refl

  pub many_matrices : length (matrices_of (document_of t).sections) ≡ c.matrices
  unfolding no_counts
  many_matrices = ap length (matrices_there t) ∙ by_lines (λ (x : Counts). x.matrices) matrix_at matrices_counted refl

  pub many_values : length (values_of (matrices_of (document_of t).sections)) ≡ c.values
  unfolding no_counts
  many_values =
      let ends : Ends start_state (significant t) c = text_ends t c h in
      ap (λ (ms : List Matrix). length (values_of ms)) (matrices_there t)
      ∙ ap length (values_joined (gather matrix_at (significant t)))
      ∙ from_none (λ (x : Counts). x.values) _ c ends.end refl ends.counts
      (values_counted (significant t) ends.goes (starts_outside in_matrix before_matrices (text_follows t)))

  -- each count of the forward reading is the length of its part of the records
  pub counts_agree : map length (parts_of (flatten (document_of t))) ≡ counts_of c
  unfolding counts_of
  counts_agree =
      parts_long (document_of t)
      ∙ (λ i. many_models i ∷ many_steps i ∷ many_maps i ∷ many_pins i ∷ many_sections i ∷ many_matrices i ∷ many_values i ∷ [])

-- ---- each count is within its bound

pub counts_bounded : (t : List ℕ) (c : Counts) → reading_of t ≡ Read c → (p : ℕ) → get_or (counts_of c) p 0 ≤ get_or bounds p 0
unfolding counts_of
counts_bounded t c reads zero = (read_within t c reads).models
counts_bounded t c reads (suc zero) = (read_within t c reads).steps
counts_bounded t c reads (suc (suc zero)) = (read_within t c reads).maps
counts_bounded t c reads (suc (suc (suc zero))) = (read_within t c reads).pins
counts_bounded t c reads (suc (suc (suc (suc zero)))) = (read_within t c reads).sections
counts_bounded t c reads (suc (suc (suc (suc (suc zero))))) = read_matrices t c reads
counts_bounded t c reads (suc (suc (suc (suc (suc (suc zero)))))) = (read_within t c reads).values
counts_bounded t c reads (suc (suc (suc (suc (suc (suc (suc p))))))) = omega arith

pub counts_parts : (c : Counts) → length (counts_of c) ≡ part_count
unfolding counts_of
counts_parts c = refl

-- ---- the length of the layout

pub table_long : (t : List ℕ) → length (table_of t) ≡ needed widths (map length (parts_of (flatten (document_of t))))
unfolding table_of
table_long t = length_layout widths (parts_of (flatten (document_of t))) (records_wide (flatten (document_of t)))
