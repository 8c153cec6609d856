-- What is left of sections and matrices, line by line: a line outside sections, one that begins a section, its method, one
-- that opens a matrix, the lines of a matrix, and one that ends a section.
-- Assumes nothing.
use Rattle.std.proofs.Common.{Option, None, unwrap_or}
use mathlib.Core.Path.{◌≡◌, refl, sym, ◌∙◌, ap}
use mathlib.Core.Bool.{true, false, true≢false}
use mathlib.Core.List.{List, [], ◌∷◌, ◌++◌, append-nil}
use Prim.Native.Nat.{ℕ, suc, ◌+◌, ◌-◌, ◌*◌, ◌≤◌, ◌<◌}
use native.Mathlib.Nat.{add-zero}
use native.Mathlib.Omega.{arith}
use lib.ListN.{length, get_or, replicate, length-append}
use lib.Dec.{eqb}
use borrow.Author.Tests.{eq-eqb, ne_eqb, eqb-true}
use Rattle.base.specs.If.{provided◌then◌else◌, either}
use Rattle.base.proofs.IfLaws.{if_true, if_false, by_cases, both_true, both_first, both_second, both_not_left, both_not_right, either_right, either_rest, either_none_second}
use Rattle.lex_keyword.specs.Names.{row, bandwidth, begin_icm_section, derivation_method, end_icm_section}
use Rattle.line_place.specs.Place.{opens_matrix, is_row_or_bandwidth}
use Rattle.line_place.specs.Place as place
use Rattle.line_argument.specs.Argument.{form_of, method_of}
use Rattle.table_layout.specs.Codes.{diagonal, matrix_kinds, resistance_kind, inductance_kind, conductance_kind, capacitance_kind}
use Rattle.table_layout.specs.Layout.{section_width, matrix_width, value_width}
use Rattle.table_record.specs.Records.{section_words, matrix_words, value_words}
use Rattle.table_record.specs.Way.Stage.{put_at, Held, Whole}
use Rattle.table_record.specs.declared.SectionRecord.{SectionRecord}
use Rattle.table_record.specs.declared.MatrixRecord.{MatrixRecord}
use Rattle.table_record.specs.declared.Value.{Value}
use Rattle.table_record.proofs.StageLaws.{held_start, held_one, held_all}
use Rattle.doc.specs.Lines.{Line, plain, key_of, argument_of, gather, up_to}
use Rattle.doc.specs.Document.{
  Matrix,
  Section,
  kind_of,
  in_matrix,
  values_from,
  bandwidth_in,
  greatest_in,
  conductors_in,
  matrix_of,
  matrix_at,
  opens_matrix_at,
  opens_section,
  in_section,
  method_in,
  section_of,
  section_at,
  conductors_of,
}
use Rattle.doc.specs.Records.{index_of_kind, section_record, section_records, matrices_of, matrix_record, matrix_records, values_of}
use Rattle.doc.proofs.BlockLaws.{Follow, joined, of_block, Outside, parts_pass}
use Rattle.doc.proofs.PassLaws.{section_blocks, matrices_joined}
use Rattle.doc.proofs.GatherLaws.{up_in, up_none, up_out, gather_none, gather_more, gather_quiet}
use Rattle.doc.proofs.SpanLaws.{section_head_lem, matrix_inside, matrices_skip, matrices_open, end_opens, method_opens}
use Rattle.doc.proofs.SectionLaws.{section_open, section_skip}
use Rattle.read_numbers.specs.Way.Staging.{HeldValues}
use Rattle.read_numbers.proofs.GivenLaws.{told_first}
use Rattle.read_sections.specs.declared.OpenSection.{OpenSection}
use Rattle.read_sections.specs.Way.Open.{
  kept_or,
  kinds_with,
  Reached,
  is_in_section,
  closed_sections,
  closed_matrices,
  open_matrix,
  open_matrices,
  own_matrices,
  matrices_left,
  method_left,
  record_with,
  open_record,
  open_records,
  sections_left,
  Stands,
  with_kind,
  matrix_closed,
  section_with,
}
use Rattle.read_sections.proofs.KindLaws.{kinds_long, kinds_more, none_kept, kept_none}

-- ---- lines that open nothing

module _ (l : Line) (ls : List Line) where
  sections_none : opens_section l ≡ false → gather section_at (l ∷ ls) ≡ gather section_at ls
  sections_none h = gather_quiet section_at l ls (section_skip l ls h)

  matrices_none : opens_matrix_at l ≡ false → gather matrix_at (l ∷ ls) ≡ gather matrix_at ls
  unfolding matrix_at
  matrices_none h = gather_quiet matrix_at l ls (if_false _ _ h)

  matrices_one : opens_matrix_at l ≡ true → gather matrix_at (l ∷ ls) ≡ matrix_of l (form_of (argument_of l).text) (up_to in_matrix ls) ∷ gather matrix_at ls
  unfolding matrix_at
  matrices_one h = gather_more matrix_at l ls ∙ ap (λ (x : List Matrix). x ++ gather matrix_at ls) (if_true _ _ h)

-- only behind the family a line opens a section
not_after : (l : Line) (p : ℕ) → l.place ≡ p → eqb p place.after ≡ false → opens_section l ≡ false
unfolding opens_section
not_after l p e h = both_not_left _ _ (rw e h)

-- only in a section a line opens a matrix
not_inside : (l : Line) (p : ℕ) → l.place ≡ p → either (eqb p place.section) (eqb p place.matrix) ≡ false → opens_matrix_at l ≡ false
unfolding opens_matrix_at
not_inside l p e h = both_not_left _ _ (rw e h)

not_keyed : (l : Line) → opens_matrix (key_of l) ≡ false → opens_matrix_at l ≡ false
unfolding opens_matrix_at
not_keyed l h = both_not_right _ _ h

-- ---- the same, told otherwise

module _ (ss : List Section) (o o' : OpenSection) (w w' : Reached) (ls ls' : List Line) (table sections matrices : List ℕ)
    (stands : Stands ss o w ls table sections matrices) where
  stands_same : sections_left o w ls ≡ sections_left o' w' ls' → closed_sections w ≡ closed_sections w' → matrices_left o w ls ≡ matrices_left o' w' ls' →
      closed_matrices w ≡ closed_matrices w' → w.values ≡ w'.values → length o'.kinds ≡ matrix_kinds → (is_in_section w'.place ≡ true → 1 ≤ w'.sections) →
      (w'.place ≡ place.matrix → 1 ≤ w'.matrices) → Stands ss o' w' ls' table sections matrices
  stands_same a b c d e kinds begun opened =
      record {
        sections = rw (a, b) at stands.sections;
        matrices = rw (c, d, e) at stands.matrices;
        values = rw (c, e) at stands.values;
        all_kinds = kinds;
        begun = begun;
        opened = opened;
      }

-- ---- what is left, by the place

-- the record of the open section, and the records of the sections after it
abbrev shown : OpenSection → ℕ → ℕ → List Matrix → List Section → List SectionRecord
shown o method first own later =
    record_with o method (unwrap_or o.conductors (conductors_of own)) (λ (k : ℕ). kept_or (get_or o.kinds k 0) (index_of_kind k first own))
    ∷ section_records (first + length own) later

module _ (o : OpenSection) (w : Reached) (ls : List Line) where
  module _ (away : eqb w.place place.matrix ≡ false) where
    own_away : own_matrices o w ls ≡ gather matrix_at (up_to in_section ls)
    unfolding own_matrices open_matrices
    own_away = ap (λ (x : List Matrix). x ++ gather matrix_at (up_to in_section ls)) (if_false _ _ away)

    matrices_away : matrices_left o w ls ≡ gather matrix_at ls
    unfolding matrices_left open_matrices
    matrices_away = ap (λ (x : List Matrix). x ++ gather matrix_at ls) (if_false _ _ away)

    closed_away : closed_matrices w ≡ w.matrices
    unfolding closed_matrices
    closed_away = if_false _ _ away

  module _ (here : w.place ≡ place.matrix) where
    own_here : own_matrices o w ls ≡ open_matrix o w ls ∷ gather matrix_at (up_to in_section ls)
    unfolding own_matrices open_matrices
    own_here = ap (λ (x : List Matrix). x ++ gather matrix_at (up_to in_section ls)) (if_true _ _ (eq-eqb _ _ here))

    matrices_here : matrices_left o w ls ≡ open_matrix o w ls ∷ gather matrix_at ls
    unfolding matrices_left open_matrices
    matrices_here = ap (λ (x : List Matrix). x ++ gather matrix_at ls) (if_true _ _ (eq-eqb _ _ here))

    closed_here : closed_matrices w ≡ w.matrices - 1
    unfolding closed_matrices
    closed_here = if_true _ _ (eq-eqb _ _ here)

  outside_left : is_in_section w.place ≡ false → eqb w.place place.matrix ≡ false → up_to in_section ls ≡ [] →
      sections_left o w ls ≡ section_records w.matrices (gather section_at ls)
  unfolding sections_left open_records
  outside_left out away none =
      let own : own_matrices o w ls ≡ [] = own_away away ∙ ap (gather matrix_at) none ∙ gather_none matrix_at in
      let first : closed_matrices w + length (own_matrices o w ls) ≡ w.matrices =
      (λ i. closed_away away i + length (own i)) ∙ add-zero w.matrices in
      (λ i. if_false (open_record o w ls ∷ []) [] out i ++ section_records (first i) (gather section_at ls))

  inside_left : is_in_section w.place ≡ true → (method first : ℕ) (own : List Matrix) → method_left w ls ≡ method → closed_matrices w ≡ first →
      own_matrices o w ls ≡ own → sections_left o w ls ≡ shown o method first own (gather section_at ls)
  unfolding sections_left open_records open_record
  inside_left inside method first own a b c =
      ap (λ (x : List SectionRecord). x ++ section_records (closed_matrices w + length (own_matrices o w ls)) (gather section_at ls)) (if_true _ _ inside)
      ∙ (λ i. shown o (a i) (b i) (c i) (gather section_at ls))

  outside_closed : is_in_section w.place ≡ false → closed_sections w ≡ w.sections
  unfolding closed_sections
  outside_closed out = if_false _ _ out

  inside_closed : is_in_section w.place ≡ true → closed_sections w ≡ w.sections - 1
  unfolding closed_sections
  inside_closed inside = if_true _ _ inside

  head_method : w.place ≡ place.section_head → method_left w ls ≡ method_in (up_to in_section ls)
  unfolding method_left
  head_method e = if_true _ _ (eq-eqb _ _ e)

  later_method : eqb w.place place.section_head ≡ false → method_left w ls ≡ w.method
  unfolding method_left
  later_method e = if_false _ _ e

-- the places
pub after_out : is_in_section place.after ≡ false
unfolding is_in_section either
after_out = refl

pub done_out : is_in_section place.done ≡ false
unfolding is_in_section either
done_out = refl

head_in_lem : is_in_section place.section_head ≡ true
unfolding is_in_section either
head_in_lem = refl

section_in : is_in_section place.section ≡ true
unfolding is_in_section either
section_in = refl

matrix_in : is_in_section place.matrix ≡ true
unfolding is_in_section either
matrix_in = refl

-- two records that are told otherwise
record_same : (o o' : OpenSection) → o.start ≡ o'.start → o.size ≡ o'.size → (m m' c c' : ℕ) (f g : ℕ → ℕ) → m ≡ m' → c ≡ c' → ((k : ℕ) → k < matrix_kinds → f k ≡ g k) →
    record_with o m c f ≡ record_with o' m' c' g
record_same o o' a b m m' c c' f g d e h =
    λ i.
    record {
      start = a i;
      size = b i;
      method = d i;
      conductors = e i;
      resistance = h resistance_kind (omega arith) i;
      inductance = h inductance_kind (omega arith) i;
      conductance = h conductance_kind (omega arith) i;
      capacitance = h capacitance_kind (omega arith) i;
    }

-- ---- one line

module _ (o : OpenSection) (m f c k v n : ℕ) (l : Line) (ls : List Line) where
  abbrev at : ℕ → Reached
  at p = record { place = p; method = m; form = f; sections = c; matrices = k; values = v; line = n }

  -- outside sections
  module _ (ss : List Section) (table sections matrices : List ℕ) (p p' : ℕ) (out : is_in_section p ≡ false) (out' : is_in_section p' ≡ false)
      (away : eqb p place.matrix ≡ false) (away' : eqb p' place.matrix ≡ false) (place_is : l.place ≡ p) (shut : opens_section l ≡ false)
      (none : up_to in_section ls ≡ []) where
    leaves_out : in_section l ≡ false
    unfolding in_section is_in_section
    leaves_out = ap is_in_section place_is ∙ out

    no_own : opens_matrix_at l ≡ false
    unfolding is_in_section
    no_own = not_inside l p place_is (either_none_second _ _ out)

    pub stands_outside : (n' : ℕ) → Stands ss o (at p) (l ∷ ls) table sections matrices →
        Stands ss o (record { place = p'; method = m; form = f; sections = c; matrices = k; values = v; line = n' }) ls table sections matrices
    stands_outside n' stands =
        let w' : Reached = record { place = p'; method = m; form = f; sections = c; matrices = k; values = v; line = n' } in
        stands_same ss o o (at p) w' (l ∷ ls) ls table sections matrices stands
        (outside_left o (at p) (l ∷ ls) out away (up_out in_section l ls leaves_out) ∙ ap (section_records k) (sections_none l ls shut)
        ∙ sym (outside_left o w' ls out' away' none))
        (outside_closed o (at p) ls out ∙ sym (outside_closed o w' ls out'))
        (matrices_away o (at p) (l ∷ ls) away ∙ matrices_none l ls no_own ∙ sym (matrices_away o w' ls away'))
        (closed_away o (at p) ls away ∙ sym (closed_away o w' ls away'))
        refl stands.all_kinds (λ (e : is_in_section p' ≡ true). absurd (true≢false (sym e ∙ out')))
        (λ (e : p' ≡ place.matrix). absurd (true≢false (sym (eq-eqb _ _ e) ∙ away')))

  -- a section begins
  module _ (ss : List Section) (table sections matrices : List ℕ) (place_is : l.place ≡ place.after) (key_is : key_of l ≡ begin_icm_section) (o' : OpenSection)
      (start_is : o'.start ≡ (argument_of l).start) (size_is : o'.size ≡ length (argument_of l).text) (untold_is : o'.conductors ≡ None)
      (kinds_are : o'.kinds ≡ replicate matrix_kinds 0) where
    begins : opens_section l ≡ true
    unfolding opens_section
    begins = both_true _ _ (eq-eqb _ _ place_is) (eq-eqb _ _ key_is)

    begins_out : up_to in_section (l ∷ ls) ≡ []
    unfolding in_section is_in_section
    begins_out = up_out in_section l ls (ap is_in_section place_is ∙ after_out)

    begins_matrix : opens_matrix_at l ≡ false
    unfolding either
    begins_matrix = not_inside l place.after place_is refl

    begun_record : (first : ℕ) →
        section_record first (section_of l (up_to in_section ls))
        ≡ record_with o' (method_in (up_to in_section ls)) (unwrap_or o'.conductors (conductors_of (gather matrix_at (up_to in_section ls))))
        (λ (j : ℕ). kept_or (get_or o'.kinds j 0) (index_of_kind j first (gather matrix_at (up_to in_section ls))))
    unfolding section_record section_of
    begun_record first =
        let ms : List Matrix = gather matrix_at (up_to in_section ls) in
        let told : conductors_of ms ≡ unwrap_or o'.conductors (conductors_of ms) = sym (ap (λ (x : Option ℕ). unwrap_or x (conductors_of ms)) untold_is) in
        let kept : (j : ℕ) → j < matrix_kinds → index_of_kind j first ms ≡ kept_or (get_or o'.kinds j 0) (index_of_kind j first ms) =
        λ (j : ℕ) (h : j < matrix_kinds). sym (ap (λ (x : List ℕ). kept_or (get_or x j 0) (index_of_kind j first ms)) kinds_are ∙ none_kept j (index_of_kind j first ms) h) in
        λ i.
        record {
          start = sym start_is i;
          size = sym size_is i;
          method = method_in (up_to in_section ls);
          conductors = told i;
          resistance = kept resistance_kind (omega arith) i;
          inductance = kept inductance_kind (omega arith) i;
          conductance = kept conductance_kind (omega arith) i;
          capacitance = kept capacitance_kind (omega arith) i;
        }

    begun_left : section_records k (gather section_at (l ∷ ls)) ≡ shown o' (method_in (up_to in_section ls)) k (gather matrix_at (up_to in_section ls)) (gather section_at ls)
    unfolding section_records section_of
    begun_left =
        ap (section_records k) (gather_more section_at l ls ∙ ap (λ (x : List Section). x ++ gather section_at ls) (section_open l ls begins))
        ∙ ap (λ (x : SectionRecord). x ∷ section_records (k + length (gather matrix_at (up_to in_section ls))) (gather section_at ls)) (begun_record k)

    pub stands_begun : (m' f' n' : ℕ) → Stands ss o (at place.after) (l ∷ ls) table sections matrices →
        Stands ss o' (record { place = place.section_head; method = m'; form = f'; sections = c + 1; matrices = k; values = v; line = n' }) ls table sections matrices
    stands_begun m' f' n' stands =
        let w' : Reached = record { place = place.section_head; method = m'; form = f'; sections = c + 1; matrices = k; values = v; line = n' } in
        let one : c ≡ c + 1 - 1 = omega arith in
        stands_same ss o o' (at place.after) w' (l ∷ ls) ls table sections matrices stands
        (outside_left o (at place.after) (l ∷ ls) after_out refl begins_out ∙ begun_left
        ∙ sym (inside_left o' w' ls head_in_lem _ _ _ (head_method o' w' ls refl) (closed_away o' w' ls refl) (own_away o' w' ls refl)))
        (outside_closed o (at place.after) ls after_out ∙ one ∙ sym (inside_closed o' w' ls head_in_lem))
        (matrices_away o (at place.after) (l ∷ ls) refl ∙ matrices_none l ls begins_matrix ∙ sym (matrices_away o' w' ls refl))
        (closed_away o (at place.after) ls refl ∙ sym (closed_away o' w' ls refl))
        refl (ap length kinds_are) (λ (e : is_in_section place.section_head ≡ true). omega arith)
        (λ (e : place.section_head ≡ place.matrix). absurd (omega arith))

  -- its method
  module _ (ss : List Section) (table sections matrices : List ℕ) (place_is : l.place ≡ place.section_head) (key_is : key_of l ≡ derivation_method) where
    method_matrix : opens_matrix_at l ≡ false
    method_matrix = not_keyed l (method_opens l key_is)

    method_section : opens_section l ≡ false
    method_section = not_after l place.section_head place_is refl

    method_first : method_in (up_to in_section (l ∷ ls)) ≡ method_of (argument_of l).text
    unfolding method_in
    method_first = ap method_in (up_in in_section l ls (section_head_lem l place_is)) ∙ if_true _ _ (eq-eqb _ _ key_is)

    pub stands_method : (m' f' n' : ℕ) → m' ≡ method_of (argument_of l).text → Stands ss o (at place.section_head) (l ∷ ls) table sections matrices →
        Stands ss o (record { place = place.section; method = m'; form = f'; sections = c; matrices = k; values = v; line = n' }) ls table sections matrices
    stands_method m' f' n' method_is stands =
        let w' : Reached = record { place = place.section; method = m'; form = f'; sections = c; matrices = k; values = v; line = n' } in
        stands_same ss o o (at place.section_head) w' (l ∷ ls) ls table sections matrices stands
        (inside_left o (at place.section_head) (l ∷ ls) head_in_lem m' k (gather matrix_at (up_to in_section ls))
        (head_method o (at place.section_head) (l ∷ ls) refl ∙ method_first ∙ sym method_is) (closed_away o (at place.section_head) ls refl)
        (own_away o (at place.section_head) (l ∷ ls) refl ∙ matrices_skip l ls (section_head_lem l place_is) (method_opens l key_is))
        ∙ ap (λ (x : List Section). shown o m' k (gather matrix_at (up_to in_section ls)) x) (sections_none l ls method_section)
        ∙ sym (inside_left o w' ls section_in _ _ _ (later_method o w' ls refl) (closed_away o w' ls refl) (own_away o w' ls refl)))
        (inside_closed o (at place.section_head) ls head_in_lem ∙ sym (inside_closed o w' ls section_in))
        (matrices_away o (at place.section_head) (l ∷ ls) refl ∙ matrices_none l ls method_matrix ∙ sym (matrices_away o w' ls refl))
        (closed_away o (at place.section_head) ls refl ∙ sym (closed_away o w' ls refl))
        refl stands.all_kinds (λ (e : is_in_section place.section ≡ true). stands.begun head_in_lem)
        (λ (e : place.section ≡ place.matrix). absurd (omega arith))

  -- in a section, no matrix being open
  module _ (ss : List Section) (table sections matrices : List ℕ) (inside : either (eqb l.place place.section) (eqb l.place place.matrix) ≡ true) where
    in_section_lem : in_section l ≡ true
    unfolding in_section
    in_section_lem = either_right _ _ inside

    still_section : opens_section l ≡ false
    unfolding opens_section either
    still_section = both_not_left _ _ (ne_eqb _ _ (λ (e : l.place ≡ place.after). true≢false (sym inside ∙ rw e)))

    -- a matrix opens
    module _ (opens : opens_matrix (key_of l) ≡ true) (f' : ℕ) (form_is : f' ≡ form_of (argument_of l).text) (line_is : l.line ≡ n) where
      opens_here : opens_matrix_at l ≡ true
      unfolding opens_matrix_at
      opens_here = both_true _ _ inside opens

      abbrev begun_matrix : Reached
      begun_matrix = record { place = place.matrix; method = m; form = f'; sections = c; matrices = k + 1; values = v; line = n + 1 }

      abbrev keyed : OpenSection
      keyed = with_kind (kind_of (key_of l)) o

      matrix_is : matrix_of l (form_of (argument_of l).text) (up_to in_matrix ls) ≡ open_matrix (with_kind (kind_of (key_of l)) o) begun_matrix ls
      unfolding matrix_of open_matrix
      matrix_is =
          let e : n + 1 - 1 ≡ n = omega arith in
          λ i.
          record {
            kind = kind_of (key_of l);
            form = sym form_is i;
            bandwidth = bandwidth_in (up_to in_matrix ls);
            conductors = conductors_in (sym form_is i) (up_to in_matrix ls);
            values = values_from (sym form_is i) 1 1 (up_to in_matrix ls);
            line = (line_is ∙ sym e) i;
          }

      pub stands_matrix : Stands ss o (at place.section) (l ∷ ls) table sections matrices →
          Stands ss (with_kind (kind_of (key_of l)) o) begun_matrix ls table sections matrices
      stands_matrix stands =
          let one : k ≡ k + 1 - 1 = omega arith in
          stands_same ss o keyed (at place.section) begun_matrix (l ∷ ls) ls table sections matrices stands
          (inside_left o (at place.section) (l ∷ ls) section_in m (k + 1 - 1) (open_matrix keyed begun_matrix ls ∷ gather matrix_at (up_to in_section ls))
          (later_method o (at place.section) (l ∷ ls) refl) (closed_away o (at place.section) ls refl ∙ one)
          (own_away o (at place.section) (l ∷ ls) refl ∙ matrices_open l ls in_section_lem opens_here
          ∙ ap (λ (x : Matrix). x ∷ gather matrix_at (up_to in_section ls)) matrix_is)
          ∙ ap (λ (x : List Section). shown o m (k + 1 - 1) (open_matrix keyed begun_matrix ls ∷ gather matrix_at (up_to in_section ls)) x) (sections_none l ls still_section)
          ∙ sym (inside_left keyed begun_matrix ls matrix_in _ _ _ (later_method keyed begun_matrix ls refl) (closed_here keyed begun_matrix ls refl) (own_here keyed begun_matrix ls refl)))
          (inside_closed o (at place.section) ls section_in ∙ sym (inside_closed keyed begun_matrix ls matrix_in))
          (matrices_away o (at place.section) (l ∷ ls) refl ∙ matrices_one l ls opens_here ∙ ap (λ (x : Matrix). x ∷ gather matrix_at ls) matrix_is
          ∙ sym (matrices_here keyed begun_matrix ls refl))
          (closed_away o (at place.section) ls refl ∙ one ∙ sym (closed_here keyed begun_matrix ls refl))
          refl stands.all_kinds (λ (e : is_in_section place.matrix ≡ true). stands.begun section_in)
          (λ (e : place.matrix ≡ place.matrix). omega arith)

    -- the section ends
    module _ (ends : key_of l ≡ end_icm_section) (none : up_to in_section ls ≡ []) where
      ended_own : own_matrices o (at place.section) (l ∷ ls) ≡ []
      ended_own =
          own_away o (at place.section) (l ∷ ls) refl ∙ matrices_skip l ls in_section_lem (end_opens l ends) ∙ ap (gather matrix_at) none ∙ gather_none matrix_at

      abbrev final : SectionRecord
      final = record_with o m (unwrap_or o.conductors 0) (λ (j : ℕ). get_or o.kinds j 0)

      final_is : record_with o m (unwrap_or o.conductors (conductors_of [])) (λ (j : ℕ). kept_or (get_or o.kinds j 0) (index_of_kind j k [])) ≡ final
      unfolding index_of_kind
      final_is = record_same o o refl refl m m _ _ _ _ refl refl (λ (j : ℕ) (h : j < matrix_kinds). kept_none (get_or o.kinds j 0))

      ended_left : sections_left o (at place.section) (l ∷ ls) ≡ final ∷ section_records k (gather section_at ls)
      ended_left =
          inside_left o (at place.section) (l ∷ ls) section_in m k [] (later_method o (at place.section) (l ∷ ls) refl) (closed_away o (at place.section) ls refl) ended_own
          ∙ (λ i. final_is i ∷ section_records (add-zero k i) (sections_none l ls still_section i))

      pub stands_ended : (sections' : List ℕ) → sections' ≡ put_at (section_width * (c - 1)) (section_words final) sections → (f' n' : ℕ) →
          Stands ss o (at place.section) (l ∷ ls) table sections matrices →
          Stands ss o (record { place = place.after; method = m; form = f'; sections = c; matrices = k; values = v; line = n' }) ls table sections' matrices
      stands_ended sections' stored f' n' stands =
          let w' : Reached = record { place = place.after; method = m; form = f'; sections = c; matrices = k; values = v; line = n' } in
          let some : 1 ≤ c = stands.begun section_in in
          let whole : c - 1 + 1 ≡ c = omega arith in
          let held : Held section_words section_width (section_records 0 ss) sections (c - 1) (final ∷ section_records k (gather section_at ls)) =
          rw (inside_closed o (at place.section) ls section_in, ended_left) at stands.sections in
          let next : Held section_words section_width (section_records 0 ss) sections' (c - 1 + 1) (section_records k (gather section_at ls)) =
          held_one section_words section_width (section_records 0 ss) sections (c - 1) _ held (λ (x : SectionRecord). refl) final _ refl sections' stored in
          let same : matrices_left o (at place.section) (l ∷ ls) ≡ matrices_left o w' ls =
          matrices_away o (at place.section) (l ∷ ls) refl ∙ matrices_none l ls (not_keyed l (end_opens l ends)) ∙ sym (matrices_away o w' ls refl) in
          let count : closed_matrices (at place.section) ≡ closed_matrices w' = closed_away o (at place.section) ls refl ∙ sym (closed_away o w' ls refl) in
          record {
            sections = rw (outside_closed o w' ls after_out, outside_left o w' ls after_out refl none) (rw whole at next);
            matrices = rw (same, count) at stands.matrices;
            values = rw same at stands.values;
            all_kinds = stands.all_kinds;
            begun = λ (e : is_in_section place.after ≡ true). absurd (true≢false (sym e ∙ after_out));
            opened = λ (e : place.after ≡ place.matrix). absurd (omega arith);
          }

-- ---- the lines of a matrix

-- such a line belongs to the section, and opens neither a section nor a matrix
module _ (l : Line) (inside : in_matrix l ≡ true) where
  no_opening : opens_matrix (key_of l) ≡ false
  unfolding in_matrix is_row_or_bandwidth opens_matrix either
  no_opening =
      by_cases _ (eqb (key_of l) plain)
      (λ (e : eqb (key_of l) plain ≡ true). ap opens_matrix (eqb-true (key_of l) plain e))
      (λ (e : eqb (key_of l) plain ≡ false).
      let o : either (eqb (key_of l) row) (eqb (key_of l) bandwidth) ≡ true = sym (either_rest _ _ e) ∙ both_second _ _ inside in
      by_cases _ (eqb (key_of l) row)
      (λ (f : eqb (key_of l) row ≡ true). ap opens_matrix (eqb-true (key_of l) row f))
      (λ (f : eqb (key_of l) row ≡ false). ap opens_matrix (eqb-true (key_of l) bandwidth (sym (either_rest _ _ f) ∙ o))))

  no_more : (ls : List Line) → matrix_at l ls ≡ []
  unfolding matrix_at
  no_more ls = if_false _ _ (not_keyed l no_opening)

  no_section_lem : (ls : List Line) → section_at l ls ≡ []
  unfolding in_matrix
  no_section_lem ls = section_skip l ls (not_after l place.matrix (eqb-true _ _ (both_first _ _ inside)) refl)

-- lines that give nothing may be skipped
quiet : {A : Type 0} (here : Line → List Line → List A) → ((l : Line) (ls : List Line) → in_matrix l ≡ true → here l ls ≡ []) → (ls rest : List Line) →
    gather here (up_to in_matrix ls ++ rest) ≡ gather here rest
quiet here silent [] rest = rw (up_none in_matrix)
quiet here silent (l ∷ ls) rest =
    by_cases (gather here (up_to in_matrix (l ∷ ls) ++ rest) ≡ gather here rest) (in_matrix l)
    (λ (e : in_matrix l ≡ true). rw (up_in in_matrix l ls e) (gather_quiet here l (up_to in_matrix ls ++ rest) (silent l _ e) ∙ quiet here silent ls rest))
    (λ (e : in_matrix l ≡ false). rw (up_out in_matrix l ls e))

up_through : (from rest : List Line) → up_to in_section (up_to in_matrix from ++ rest) ≡ up_to in_matrix from ++ up_to in_section rest
up_through [] rest = rw (up_none in_matrix)
up_through (l ∷ from) rest =
    by_cases _ (in_matrix l)
    (λ (e : in_matrix l ≡ true).
    rw (up_in in_matrix l from e)
    (up_in in_section l (up_to in_matrix from ++ rest) (matrix_inside l e) ∙ ap (λ (ls : List Line). l ∷ ls) (up_through from rest)))
    (λ (e : in_matrix l ≡ false). rw (up_out in_matrix l from e))

module _ (o : OpenSection) (m f c k v n : ℕ) (ls rest : List Line) (all : ls ≡ up_to in_matrix ls ++ rest) where
  abbrev w : Reached
  w = record { place = place.matrix; method = m; form = f; sections = c; matrices = k; values = v; line = n }

  abbrev vs : List Value
  vs = values_from f 1 1 (up_to in_matrix ls)

  abbrev own : List Matrix
  own = gather matrix_at (up_to in_section rest)

  matrices_through : gather matrix_at ls ≡ gather matrix_at rest
  matrices_through = ap (gather matrix_at) all ∙ quiet matrix_at (λ (l : Line) (xs : List Line) (e : in_matrix l ≡ true). no_more l e xs) ls rest

  own_through : gather matrix_at (up_to in_section ls) ≡ gather matrix_at (up_to in_section rest)
  own_through =
      ap (λ (x : List Line). gather matrix_at (up_to in_section x)) all ∙ ap (gather matrix_at) (up_through ls rest)
      ∙ quiet matrix_at (λ (l : Line) (xs : List Line) (e : in_matrix l ≡ true). no_more l e xs) ls (up_to in_section rest)

  sections_through : gather section_at ls ≡ gather section_at rest
  sections_through = ap (gather section_at) all ∙ quiet section_at (λ (l : Line) (xs : List Line) (e : in_matrix l ≡ true). no_section_lem l e xs) ls rest

  open_values : (open_matrix o w ls).values ≡ vs
  unfolding open_matrix
  open_values = refl

  values_left : values_of (matrices_left o w ls) ≡ vs ++ values_of (gather matrix_at rest)
  unfolding values_of open_matrix
  values_left =
      ap values_of (matrices_here o w ls refl) ∙ ap (λ (x : List Matrix). vs ++ values_of x) matrices_through

  module _ (ss : List Section) (table sections matrices table' : List ℕ) (v' : ℕ)
      (held : (whole left : List Value) → HeldValues whole table v (values_from f 1 1 (up_to in_matrix ls) ++ left) → HeldValues whole table' v' left)
      (stands : Stands ss o w ls table sections matrices) where
    values_before : HeldValues (values_of (matrices_of ss)) table v (vs ++ values_of (gather matrix_at rest))
    values_before = rw values_left at stands.values

    values_after_lem : HeldValues (values_of (matrices_of ss)) table' v' (values_of (gather matrix_at rest))
    values_after_lem = held (values_of (matrices_of ss)) (values_of (gather matrix_at rest)) values_before

    counted : v' ≡ v + length vs
    counted =
        let a : v + length (vs ++ values_of (gather matrix_at rest)) ≡ length (values_of (matrices_of ss)) = values_before.count in
        let b : v' + length (values_of (gather matrix_at rest)) ≡ length (values_of (matrices_of ss)) = values_after_lem.count in
        let d : length (vs ++ values_of (gather matrix_at rest)) ≡ length vs + length (values_of (gather matrix_at rest)) = length-append vs (values_of (gather matrix_at rest)) in
        omega arith

    module _ (b g : ℕ) (bandwidth_is : b ≡ bandwidth_in (up_to in_matrix ls)) (greatest_is : g ≡ greatest_in f (up_to in_matrix ls)) where
      record_is : matrix_record v (open_matrix o w ls) ≡ matrix_closed f b v v' n
      unfolding matrix_record open_matrix matrix_closed
      record_is =
          let e : v' ≡ v + length vs = counted in
          let d : length vs ≡ v' - v = omega arith in
          λ i. record { form = f; bandwidth = sym bandwidth_is i; first = v; values = d i; line = n - 1 }

      records_left : matrix_records v (matrices_left o w ls) ≡ matrix_closed f b v v' n ∷ matrix_records v' (gather matrix_at rest)
      unfolding matrix_records
      records_left =
          ap (matrix_records v) (matrices_here o w ls refl)
          ∙ (λ i. record_is i ∷ matrix_records ((ap (λ (x : List Value). v + length x) open_values ∙ sym counted) i) (matrices_through i))

      conductors_are : (provided eqb f diagonal then v' - v else g) ≡ (open_matrix o w ls).conductors
      unfolding open_matrix conductors_in
      conductors_are =
          let e : v' ≡ v + length vs = counted in
          let d : v' - v ≡ length vs = omega arith in
          λ i. provided eqb f diagonal then d i else greatest_is i

      module _ (kind : o.kind < matrix_kinds) (o' : OpenSection) (section_is : o' ≡ section_with (provided eqb f diagonal then v' - v else g) k o) where
        start_same : o.start ≡ o'.start
        unfolding section_with
        start_same = sym (ap (λ (x : OpenSection). x.start) section_is)

        size_same : o.size ≡ o'.size
        unfolding section_with
        size_same = sym (ap (λ (x : OpenSection). x.size) section_is)

        conductors_same : unwrap_or o.conductors (conductors_of (open_matrix o w ls ∷ own)) ≡ unwrap_or o'.conductors (conductors_of own)
        unfolding section_with
        conductors_same =
            ap (unwrap_or o.conductors) (sym conductors_are) ∙ sym (told_first o.conductors _ (conductors_of own))
            ∙ ap (λ (x : OpenSection). unwrap_or x.conductors (conductors_of own)) (sym section_is)

        some : 1 ≤ k
        some = stands.opened refl

        kinds_same : (j : ℕ) → j < matrix_kinds →
            kept_or (get_or o.kinds j 0) (index_of_kind j (k - 1) (open_matrix o w ls ∷ own)) ≡ kept_or (get_or o'.kinds j 0) (index_of_kind j k own)
        unfolding section_with open_matrix
        kinds_same j h =
            let s : 1 ≤ k = some in
            let e : k - 1 + 1 ≡ k = omega arith in
            sym (kinds_more o.kinds (open_matrix o w ls) own (k - 1) (rw stands.all_kinds kind) j)
            ∙ (λ i. kept_or (get_or (kinds_with o.kinds o.kind (e i)) j 0) (index_of_kind j (e i) own))
            ∙ ap (λ (x : OpenSection). kept_or (get_or x.kinds j 0) (index_of_kind j k own)) (sym section_is)

        kinds_kept : length o'.kinds ≡ matrix_kinds
        unfolding section_with
        kinds_kept = ap (λ (x : OpenSection). length x.kinds) section_is ∙ kinds_long o.kinds o.kind k ∙ stands.all_kinds

        pub stands_closed : (matrices' : List ℕ) → matrices' ≡ put_at (matrix_width * (k - 1)) (matrix_words (matrix_closed f b v v' n)) matrices → (f' n' : ℕ) →
            Stands ss o' (record { place = place.section; method = m; form = f'; sections = c; matrices = k; values = v'; line = n' }) rest table' sections matrices'
        stands_closed matrices' stored f' n' =
            let w' : Reached = record { place = place.section; method = m; form = f'; sections = c; matrices = k; values = v'; line = n' } in
            let s : 1 ≤ k = some in
            let whole : k - 1 + 1 ≡ k = omega arith in
            let size : k - 1 + suc (length own) ≡ k + length own = omega arith in
            let before : Held matrix_words matrix_width (matrix_records 0 (matrices_of ss)) matrices (k - 1) (matrix_closed f b v v' n ∷ matrix_records v' (gather matrix_at rest)) =
            rw (closed_here o w ls refl, records_left) at stands.matrices in
            let after : Held matrix_words matrix_width (matrix_records 0 (matrices_of ss)) matrices' (k - 1 + 1) (matrix_records v' (gather matrix_at rest)) =
            held_one matrix_words matrix_width (matrix_records 0 (matrices_of ss)) matrices (k - 1) _ before (λ (x : MatrixRecord). refl) (matrix_closed f b v v' n) _ refl matrices' stored in
            let left : sections_left o w ls ≡ sections_left o' w' rest =
            inside_left o w ls matrix_in m (k - 1) (open_matrix o w ls ∷ own) (later_method o w ls refl) (closed_here o w ls refl)
            (own_here o w ls refl ∙ ap (λ (x : List Matrix). open_matrix o w ls ∷ x) own_through)
            ∙ (λ i. record_same o o' start_same size_same m m _ _ _ _ refl conductors_same kinds_same i ∷ section_records (size i) (sections_through i))
            ∙ sym (inside_left o' w' rest section_in m k own (later_method o' w' rest refl) (closed_away o' w' rest refl) (own_away o' w' rest refl)) in
            let closed : closed_sections w ≡ closed_sections w' = inside_closed o w ls matrix_in ∙ sym (inside_closed o' w' rest section_in) in
            record {
              sections = rw (left, closed) at stands.sections;
              matrices = rw (closed_away o' w' rest refl, matrices_away o' w' rest refl) (rw whole at after);
              values = rw (matrices_away o' w' rest refl) values_after_lem;
              all_kinds = kinds_kept;
              begun = λ (e : is_in_section place.section ≡ true). stands.begun matrix_in;
              opened = λ (e : place.section ≡ place.matrix). absurd (omega arith);
            }

-- ---- a blank line: only the line's number changes, which tells only of an open matrix

module _ (ss : List Section) (o : OpenSection) (p m f c k v n n' : ℕ) (away : eqb p place.matrix ≡ false) (ls : List Line) (table sections matrices : List ℕ) where
  abbrev on : ℕ → Reached
  on i = record { place = p; method = m; form = f; sections = c; matrices = k; values = v; line = i }

  blank_own : own_matrices o (on n) ls ≡ own_matrices o (on n') ls
  blank_own = own_away o (on n) ls away ∙ sym (own_away o (on n') ls away)

  blank_left : sections_left o (on n) ls ≡ sections_left o (on n') ls
  unfolding sections_left open_records open_record closed_matrices method_left
  blank_left =
      λ i.
      (provided is_in_section p
      then record_with o (method_left (on n) ls) (unwrap_or o.conductors (conductors_of (blank_own i))) (λ (j : ℕ). kept_or (get_or o.kinds j 0) (index_of_kind j (closed_matrices (on n)) (blank_own i))) ∷ []
      else [])
      ++ section_records (closed_matrices (on n) + length (blank_own i)) (gather section_at ls)

  pub stands_blank : Stands ss o (on n) ls table sections matrices → Stands ss o (on n') ls table sections matrices
  unfolding closed_sections closed_matrices
  stands_blank stands =
      stands_same ss o o (on n) (on n') ls ls table sections matrices stands blank_left refl
      (matrices_away o (on n) ls away ∙ sym (matrices_away o (on n') ls away)) refl refl stands.all_kinds stands.begun
      (λ (e : p ≡ place.matrix). absurd (true≢false (sym (eq-eqb _ _ e) ∙ away)))

-- ---- no line yet, and no line more

module _ (l : Line) (after : List Line) where
  section_gives : joined (λ (x : Section). x.matrices) (section_at l after) ≡ of_block opens_section in_section matrix_at l after
  unfolding section_at section_of of_block joined
  section_gives =
      by_cases _ (opens_section l)
      (λ (e : opens_section l ≡ true).
      ap (joined (λ (x : Section). x.matrices)) (if_true _ _ e) ∙ append-nil (gather matrix_at (up_to in_section after)) ∙ sym (if_true _ _ e))
      (λ (e : opens_section l ≡ false). ap (joined (λ (x : Section). x.matrices)) (if_false _ _ e) ∙ sym (if_false _ _ e))

-- no line is in a section, if the first is in a place outside
pub follow_out : {p : ℕ} {ls : List Line} → Follow p ls → is_in_section p ≡ false → up_to in_section ls ≡ []
unfolding in_section is_in_section
follow_out Follow.none out = up_none in_section
follow_out (Follow.more {l = l} {ls = ls} e follow) out = up_out in_section l ls (ap is_in_section e ∙ out)

follow_outside : {p : ℕ} {ls : List Line} → Follow p ls → is_in_section p ≡ false → Outside in_section ls
unfolding in_section is_in_section
follow_outside Follow.none out = tt
follow_outside (Follow.more e follow) out = ap is_in_section e ∙ out

module _ (ls : List Line) (follow : Follow place.after ls) where
  none : up_to in_section ls ≡ []
  none = follow_out follow after_out

  all_matrices : matrices_of (gather section_at ls) ≡ gather matrix_at ls
  all_matrices =
      matrices_joined (gather section_at ls)
      ∙ parts_pass opens_section in_section matrix_at section_blocks (λ (x : Section). x.matrices) section_at section_gives ls follow (follow_outside follow after_out)

  pub stands_start : (o : OpenSection) (m f c k v n : ℕ) (table sections matrices : List ℕ) → c ≡ 0 → k ≡ 0 → v ≡ 0 → length o.kinds ≡ matrix_kinds →
      Stands (gather section_at ls) o (record { place = place.after; method = m; form = f; sections = c; matrices = k; values = v; line = n }) ls table sections matrices
  stands_start o m f c k v n table sections matrices c_none k_none v_none kinds =
      let w : Reached = record { place = place.after; method = m; form = f; sections = c; matrices = k; values = v; line = n } in
      record {
        sections =
            rw (outside_closed o w ls after_out, outside_left o w ls after_out refl none, c_none, k_none)
            (held_start section_words section_width (section_records 0 (gather section_at ls)) sections);
        matrices =
            rw (closed_away o w ls refl, matrices_away o w ls refl, k_none, v_none, sym all_matrices)
            (held_start matrix_words matrix_width (matrix_records 0 (matrices_of (gather section_at ls))) matrices);
        values =
            rw (matrices_away o w ls refl, v_none, sym all_matrices)
            (held_start value_words value_width (values_of (matrices_of (gather section_at ls))) table);
        all_kinds = kinds;
        begun = λ (e : is_in_section place.after ≡ true). absurd (true≢false (sym e ∙ after_out));
        opened = λ (e : place.after ≡ place.matrix). absurd (omega arith);
      }

module _ (ss : List Section) (o : OpenSection) (m f c k v n : ℕ) (table sections matrices : List ℕ) where
  abbrev end : Reached
  end = record { place = place.done; method = m; form = f; sections = c; matrices = k; values = v; line = n }

  module _ (stands : Stands ss o end [] table sections matrices) where
    left_none : matrices_left o end [] ≡ []
    left_none = matrices_away o end [] refl ∙ gather_none matrix_at

    pub whole_sections : Whole section_words section_width (section_records 0 ss) sections
    unfolding section_records
    whole_sections =
        held_all section_words section_width (section_records 0 ss) sections _ _ stands.sections
        (outside_left o end [] done_out refl (up_none in_section) ∙ ap (section_records k) (gather_none section_at))

    pub whole_matrices : Whole matrix_words matrix_width (matrix_records 0 (matrices_of ss)) matrices
    unfolding matrix_records
    whole_matrices = held_all matrix_words matrix_width (matrix_records 0 (matrices_of ss)) matrices _ _ stands.matrices (ap (matrix_records v) left_none)

    pub whole_values : Whole value_words value_width (values_of (matrices_of ss)) table
    unfolding values_of
    whole_values = held_all value_words value_width (values_of (matrices_of ss)) table _ _ stands.values (ap values_of left_none)
