-- Laws of a sound table: which sections and kinds there are, and that the values of each matrix lie inside and rise.
-- Assumes nothing.
use mathlib.Core.Path.{◌≡◌, sym, ◌∙◌, ap}
use mathlib.Core.Bool.{Bool, true, false, not}
use mathlib.Core.List.{List, [], ◌∷◌}
use Prim.Native.Nat.{ℕ, zero, suc, ◌+◌, ◌-◌, ◌*◌, ◌^◌, ◌≤◌, ◌<◌, min, max}
use native.Mathlib.Nat.{le_of_suc-le-suc, not-suc-le-zero}
use native.Mathlib.Omega.{arith}
use mir.Syntax.{w64}
use mir.Val.{Fits}
use lib.ListN.{length, get_or}
use lib.Dec.{eqb}
use borrow.Author.Tests.{eq-eqb, ne_eqb, leb-true, lt-ltb, le-ltb, ltb-true, not-true, not-false}
use Rattle.base.specs.Bytes.{within}
use Rattle.base.proofs.IfLaws.{if_true, if_false, by_test, both_rest, both_not_left, both_first, both_second}
use Rattle.lex_number.specs.ValueWord.{zero_word}
use Rattle.table_layout.specs.Layout.{sections, matrices, values, value_width}
use Rattle.table_layout.specs.Codes.{resistance_kind, inductance_kind, conductance_kind, matrix_kinds}
use Rattle.table_layout.specs.Bounds.{most_conductors}
use Rattle.table_layout.specs.declared.View.{View}
use Rattle.table_record.specs.declared.SectionRecord.{SectionRecord}
use Rattle.table_record.specs.declared.MatrixRecord.{MatrixRecord}
use Rattle.table_record.specs.Records.{Records, records_of, no_section, no_matrix, range}
use Rattle.table_record.specs.Way.Standing.{base_of, count_of, values_from, values_at, Rooms}
use Rattle.table_record.proofs.PlaceLaws.{values_range}
use Rattle.table_record.proofs.RecordLaws.{sections_long_lem, matrices_long, values_long, values_gathered}
use Rattle.doc.specs.Holds.{rises}
use Rattle.ask_sound.proofs.RangeLaws.{range_inside}
use Rattle.ask_sound.specs.Sound.{every, are_matrices, is_section, is_matrix, are_sound}
use Rattle.ask_sound.specs.Way.Judged.{SoundRecords}
use Rattle.ask_entry.specs.Entry.{matrix_index, word_at, matrix_values, entry_of, is_in_range}

-- ---- what soundness gives

every_at : {A : Type 0} (test : A → Bool) (none : A) (xs : List A) (i : ℕ) → i < length xs → every test xs ≡ true → test (get_or xs i none) ≡ true
unfolding every
every_at test none [] i h e = absurd (not-suc-le-zero h)
every_at test none (x ∷ xs) zero h e = both_first _ _ e
every_at test none (x ∷ xs) (suc i) h e = every_at test none xs i (le_of_suc-le-suc h) (both_second _ _ e)

kinds_few : (s : SectionRecord) (many kind : ℕ) → are_matrices many s ≡ true → matrix_index s kind ≤ many
unfolding are_matrices matrix_index
kinds_few s many kind e =
    by_test (λ (n : ℕ). n ≤ many) (eqb kind resistance_kind) _ _ (λ h. leb-true _ _ (both_first _ _ e))
    (λ h. by_test (λ (n : ℕ). n ≤ many) (eqb kind inductance_kind) _ _ (λ k. leb-true _ _ (both_first _ _ (both_second _ _ e)))
    (λ k. by_test (λ (n : ℕ). n ≤ many) (eqb kind conductance_kind) _ _ (λ l. leb-true _ _ (both_first _ _ (both_second _ _ (both_second _ _ e))))
    (λ l. leb-true _ _ (both_second _ _ (both_second _ _ (both_second _ _ e))))))

section_given : (bytes many : ℕ) (s : SectionRecord) → is_section bytes many s ≡ true → are_matrices many s ≡ true
unfolding is_section
section_given bytes many s e = both_second _ _ (both_second _ _ (both_second _ _ e))

section_few : (bytes many : ℕ) (s : SectionRecord) → is_section bytes many s ≡ true → s.conductors ≤ most_conductors
unfolding is_section within
section_few bytes many s e = leb-true _ _ (both_second _ _ (both_first _ _ (both_second _ _ (both_second _ _ e))))

module _ (bytes : ℕ) (r : Records) (sound : are_sound bytes r ≡ true) where
  sections_sound : every (is_section bytes (length r.matrices)) r.sections ≡ true
  unfolding are_sound
  sections_sound = both_first _ _ (both_second _ _ (both_second _ _ (both_second _ _ (both_second _ _ sound))))

  matrices_sound : every (is_matrix r.values) r.matrices ≡ true
  unfolding are_sound
  matrices_sound = both_first _ _ (both_second _ _ (both_second _ _ (both_second _ _ (both_second _ _ (both_second _ _ sound)))))

module _ (table : List ℕ) (v : View) (rooms : Rooms table v) where
  -- ---- sections

  module _ (section : ℕ) (judged : SoundRecords table) (has : section < count_of v sections) where
    section_sound : is_section judged.bytes (length (records_of table).matrices) (get_or (records_of table).sections section no_section) ≡ true
    section_sound =
        let l : section < length (records_of table).sections = rw (sections_long_lem table v rooms) has in
        every_at _ no_section (records_of table).sections section l (sections_sound judged.bytes (records_of table) judged.sound)

    module _ (s : SectionRecord) (here : s ≡ get_or (records_of table).sections section no_section) where
      -- each kind is 0 or refers to a matrix that exists
      pub matrix_few : (kind index : ℕ) → index ≡ matrix_index s kind → index ≤ count_of v matrices
      matrix_few kind index is =
          let few : matrix_index (get_or (records_of table).sections section no_section) kind ≤ length (records_of table).matrices =
          kinds_few _ _ kind (section_given judged.bytes _ _ section_sound) in
          rw (is, here, sym (matrices_long table v rooms)) few

      pub conductors_few : s.conductors ≤ most_conductors
      conductors_few = rw here (section_few judged.bytes _ _ section_sound)

  -- "section, kind, row, column (1 to N)"
  module _ (section kind row column : ℕ) where
    pub range_no_section : count_of v sections ≤ section → false ≡ is_in_range (records_of table) section kind row column
    unfolding is_in_range
    range_no_section h =
        let l : length (records_of table).sections ≤ section = rw (sections_long_lem table v rooms) h in
        sym (both_not_left _ _ (le-ltb _ _ l))

    pub range_section : (inside : Bool) → inside ≡ is_in_range (records_of table) section kind row column → not inside ≡ false → section < count_of v sections
    unfolding is_in_range
    range_section inside is e = rw (sections_long_lem table v rooms) at (ltb-true section (length (records_of table).sections) (both_first _ _ (sym is ∙ not-false inside e)))

    module _ (has : section < count_of v sections) where
      in_sections : section < length (records_of table).sections
      in_sections = rw (sections_long_lem table v rooms) has

      pub range_no_kind : matrix_kinds ≤ kind → false ≡ is_in_range (records_of table) section kind row column
      unfolding is_in_range
      range_no_kind h = sym (both_rest _ _ (lt-ltb _ _ in_sections) ∙ both_not_left _ _ (le-ltb kind matrix_kinds h))

      module _ (one : kind < matrix_kinds) (s : SectionRecord) (here : s ≡ get_or (records_of table).sections section no_section)
          (inside : Bool) (is_inside_lem : inside ≡ within 1 s.conductors row) where
        inside_is : inside ≡ within 1 (get_or (records_of table).sections section no_section).conductors row
        inside_is = is_inside_lem ∙ ap (λ (x : SectionRecord). within 1 x.conductors row) here

        pub range_no_row : not inside ≡ true → false ≡ is_in_range (records_of table) section kind row column
        unfolding is_in_range
        range_no_row e =
            sym (both_rest _ _ (lt-ltb _ _ in_sections) ∙ both_rest _ _ (lt-ltb kind matrix_kinds one) ∙ both_not_left _ _ (sym inside_is ∙ not-true inside e))

        pub range_column : not inside ≡ false → (answer : Bool) → answer ≡ within 1 s.conductors column → answer ≡ is_in_range (records_of table) section kind row column
        unfolding is_in_range
        range_column e answer is =
            is ∙ ap (λ (x : SectionRecord). within 1 x.conductors column) here
            ∙ sym (both_rest _ _ (lt-ltb _ _ in_sections) ∙ both_rest _ _ (lt-ltb kind matrix_kinds one) ∙ both_rest _ _ (sym inside_is ∙ not-false inside e))

  -- ---- matrices

  values_are : (records_of table).values ≡ values_at table v
  values_are = ap (λ (r : Records). r.values) (sym rooms.records) ∙ sym (values_gathered table v)

  module _ (index : ℕ) where
    pub entry_none : (row column : ℕ) → index ≡ 0 → zero_word ≡ entry_of (records_of table) index row column
    unfolding entry_of
    entry_none row column e = sym (if_true _ _ (eq-eqb index 0 e))

    module _ (judged : SoundRecords table) (some : index ≡ 0 → ⊥) (few : index ≤ count_of v matrices)
        (m : MatrixRecord) (here : m ≡ get_or (records_of table).matrices (index - 1) no_matrix) where
      matrix_sound : is_matrix (records_of table).values m ≡ true
      matrix_sound =
          let below : index - 1 < count_of v matrices = omega arith in
          let l : index - 1 < length (records_of table).matrices = rw (matrices_long table v rooms) below in
          rw here (every_at (is_matrix (records_of table).values) no_matrix (records_of table).matrices (index - 1) l (matrices_sound judged.bytes (records_of table) judged.sound))

      values_inside : m.first + m.values ≤ count_of v values
      unfolding is_matrix
      values_inside = rw (values_long table v rooms) at (range_inside _ _ _ (both_first _ _ (both_second _ _ (both_second _ _ matrix_sound))))

      values_rise_lem : rises most_conductors (range m.first m.values (values_at table v)) ≡ true
      unfolding is_matrix
      values_rise_lem = rw values_are at (both_second _ _ (both_second _ _ (both_second _ _ matrix_sound)))

      pub first_fits : length table * 8 < 2 ^ 63 → Fits w64 (value_width * m.first)
      first_fits l = omega (arith, values_inside, rooms.value_room)

      pub from_fits : length table * 8 < 2 ^ 63 → Fits w64 (base_of v values + value_width * m.first)
      from_fits l = omega (arith, values_inside, rooms.value_room)

      pub search_room : base_of v values + value_width * m.first + value_width * m.values ≤ length table
      search_room = omega (arith, values_inside, rooms.value_room)

      pub search_rises : rises most_conductors (values_from table (base_of v values + value_width * m.first) m.values) ≡ true
      search_rises = rw (values_range table v m.first m.values values_inside) at values_rise_lem

      pub entry_found : (row column low high word : ℕ) → low ≡ min row column → high ≡ max row column →
          word ≡ word_at low high (values_from table (base_of v values + value_width * m.first) m.values) → word ≡ entry_of (records_of table) index row column
      unfolding entry_of matrix_values
      entry_found row column low high word is_low is_high e =
          let vs : values_from table (base_of v values + value_width * m.first) m.values ≡ range m.first m.values (records_of table).values =
          sym (values_range table v m.first m.values values_inside) ∙ ap (range m.first m.values) (sym values_are) in
          let ws : range m.first m.values (records_of table).values
          ≡ range (get_or (records_of table).matrices (index - 1) no_matrix).first (get_or (records_of table).matrices (index - 1) no_matrix).values (records_of table).values =
          ap (λ (x : MatrixRecord). range x.first x.values (records_of table).values) here in
          e ∙ (λ i. word_at (is_low i) (is_high i) ((vs ∙ ws) i)) ∙ sym (if_false _ _ (ne_eqb index 0 some))
