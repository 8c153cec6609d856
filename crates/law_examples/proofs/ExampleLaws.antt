-- By computation: the paper's example is accepted, and so are two texts with the same numbers in other matrix forms and
-- with other comments and blanks. These two are alike.
-- Assumes nothing.
use mathlib.Core.Path.{◌≡◌, refl, sym, ◌∙◌, subst}
use mathlib.Core.Bool.{true, false}
use mathlib.Core.List.{List, [], ◌∷◌, ◌++◌, map}
use Prim.Native.Nat.{ℕ, ◌+◌, ◌≤◌}
use native.Mathlib.Omega.{arith}
use lib.Dec.{eqb}
use borrow.Author.Tests.{eqb-true, eqb-false}
use Rattle.table_record.specs.Records.{parts_of, records_in, records_of}
use Rattle.base.proofs.IfLaws.{by_cases}
use Rattle.base.specs.Bytes.{bytes}
use Rattle.lex_line.specs.Lines.{Said, contents, is_blank_line}
use Rattle.line_place.specs.Place.{before}
use Rattle.line_place.specs.Place as place
use Rattle.intake.specs.Verdict.{accepted_with, verdict_of}
use Rattle.doc.specs.Lines.{Line, key_of, place_after, lines_from}
use Rattle.doc.specs.Document.{opens_matrix_at, conductors_in}
use Rattle.law_alike.specs.Written.{written_at}
use Rattle.law_alike.specs.Alike.{SameSaying, same_words, same_sides, form_at, SameNumbers, Alike}
use Rattle.law_alike.proofs.WideLaws.{text_of, said_of, line_as, SameContents, other_blank, says, block, Ends, place_behind, contents_front, contents_self, texts_alike}
use Rattle.base.specs.Broken as d0
use Rattle.base.specs.Bytes as d1
use Rattle.base.specs.If as d3
use Rattle.base.specs.Runs as d4
use Rattle.lex_line.specs.ByteRules as d5
use Rattle.lex_line.specs.Lines as d6
use Rattle.lex_line.specs.Words as d7
use Rattle.lex_number.specs.Way.Capped as d8
use Rattle.lex_number.specs.Integer as d9
use Rattle.lex_number.specs.Number as d10
use Rattle.lex_number.specs.ValueWord as d11
use Rattle.lex_keyword.specs.Bracket as d12
use Rattle.lex_keyword.specs.Way.Lookup as d13
use Rattle.lex_keyword.specs.Names as d14
use Rattle.lex_keyword.specs.Way.Reading as d15
use Rattle.line_argument.specs.Argument as d17
use Rattle.line_head.specs.Head as d18
use Rattle.line_path.specs.Path as d19
use Rattle.line_path.specs.Way.Section as d20
use Rattle.line_map.specs.PinMap as d21
use Rattle.line_matrix.specs.Matrix as d22
use Rattle.line_keyword.specs.Keywords as d23
use Rattle.line_keyword.specs.State as d24
use Rattle.read_line.specs.Reading as d25
use Rattle.read_line.specs.Way.Trace as d26
use Rattle.read_line.specs.Way.Walk as d27
use Rattle.table_layout.specs.Way.Bases as d28
use Rattle.table_layout.specs.Layout as d29
use Rattle.table_layout.specs.View as d30
use Rattle.doc.specs.Document as d31
use Rattle.doc.specs.Way.Found as d32
use Rattle.doc.specs.Holds as d33
use Rattle.doc.specs.Lines as d34
use Rattle.doc.specs.Records as d35
use Rattle.intake.specs.Stored as d36
use Rattle.cross_rules.specs.Way.Nth as d37
use Rattle.cross_rules.specs.Rules as d38
use Rattle.intake.specs.Verdict as d39
use Rattle.law_alike.specs.Alike as d40
use Rattle.law_alike.specs.Written as d41
use Rattle.base.specs.If.{provided◌then◌else◌}

-- the paper's example
abbrev example_lines : List (List ℕ)
example_lines =
    bytes "[Begin Header]"
    ∷ bytes "[ICM Ver] 1.1"
    ∷ bytes "[File Name] t.icm"
    ∷ bytes "[File Rev] 0.1"
    ∷ bytes "[End Header]"
    ∷ bytes "[Begin ICM Family] D"
    ∷ bytes "[Manufacturer] O"
    ∷ bytes "[ICM Model List]"
    ∷ bytes "A"
    ∷ bytes "[Begin ICM Model] A"
    ∷ bytes "ICM_model_type MLM"
    ∷ bytes "[Tree Path Description]"
    ∷ bytes "Model_pinmap P"
    ∷ bytes "Section Mult=2 S"
    ∷ bytes "Fork"
    ∷ bytes "Section Mult=1 S"
    ∷ bytes "Endfork"
    ∷ bytes "Model_pinmap Q"
    ∷ bytes "[End ICM Model]"
    ∷ bytes "[ICM Pin Map] P"
    ∷ bytes "Pin_order Un_ordered"
    ∷ bytes "Pin_list"
    ∷ bytes "A1"
    ∷ bytes "A2"
    ∷ bytes "[ICM Pin Map] Q"
    ∷ bytes "Pin_order Un_ordered"
    ∷ bytes "Pin_list"
    ∷ bytes "1"
    ∷ bytes "2"
    ∷ bytes "[End ICM Family]"
    ∷ bytes "[Begin ICM Section] S"
    ∷ bytes "[Derivation Method] Lumped"
    ∷ bytes "[Inductance Matrix] Full_matrix"
    ∷ bytes "[Row] 1"
    ∷ bytes "4.50nH 0.8nH"
    ∷ bytes "[Row] 2"
    ∷ bytes "4.5nH"
    ∷ bytes "[End ICM Section]"
    ∷ bytes "[End]"
    ∷ []

-- two texts that share these lines
abbrev header_lines : List (List ℕ)
header_lines =
    bytes "[Begin Header]"
    ∷ bytes "[ICM Ver] 1.1"
    ∷ bytes "[File Name] t.icm"
    ∷ bytes "[File Rev] 0.1"
    ∷ bytes "[End Header]"
    ∷ []

-- and these
abbrev family_lines : List (List ℕ)
family_lines =
    bytes "[Begin ICM Family] D"
    ∷ bytes "[Manufacturer] O"
    ∷ bytes "[ICM Model List]"
    ∷ bytes "A"
    ∷ bytes "[Begin ICM Model] A"
    ∷ bytes "ICM_model_type MLM"
    ∷ bytes "[Tree Path Description]"
    ∷ []

-- and these, down to the section
abbrev path_lines : List (List ℕ)
path_lines =
    bytes "Fork"
    ∷ bytes "Section Mult=1 S"
    ∷ bytes "Endfork"
    ∷ bytes "Model_pinmap Q"
    ∷ bytes "[End ICM Model]"
    ∷ bytes "[ICM Pin Map] P"
    ∷ bytes "Pin_order Un_ordered"
    ∷ bytes "Pin_list"
    ∷ bytes "A1"
    ∷ bytes "A2"
    ∷ bytes "[ICM Pin Map] Q"
    ∷ bytes "Pin_order Un_ordered"
    ∷ bytes "Pin_list"
    ∷ bytes "1"
    ∷ bytes "2"
    ∷ bytes "[End ICM Family]"
    ∷ bytes "[Begin ICM Section] S"
    ∷ bytes "[Derivation Method] Lumped"
    ∷ []

-- and the last
abbrev closing_lines : List (List ℕ)
closing_lines =
    bytes "[End ICM Section]"
    ∷ bytes "[End]"
    ∷ []

-- R in full
abbrev resistance : List (List ℕ)
resistance =
    bytes "[Row] 1"
    ∷ bytes "1 0"
    ∷ bytes "[Row] 2"
    ∷ bytes "2"
    ∷ []

-- R, sparse
abbrev other_resistance : List (List ℕ)
other_resistance =
    bytes "[Row] 1"
    ∷ bytes "1 1"
    ∷ bytes "[Row] 2"
    ∷ bytes "2 2"
    ∷ []

-- L, banded
abbrev inductance : List (List ℕ)
inductance =
    bytes "[Bandwidth] 0"
    ∷ bytes "[Row] 1"
    ∷ bytes "3n"
    ∷ bytes "[Row] 2"
    ∷ bytes "4n"
    ∷ []

-- L in full
abbrev other_inductance : List (List ℕ)
other_inductance =
    bytes "[Row] 1"
    ∷ bytes "3n 0"
    ∷ bytes "[Row] 2"
    ∷ bytes "4n"
    ∷ []

-- G, sparse
abbrev conductance : List (List ℕ)
conductance =
    bytes "[Row] 1"
    ∷ bytes "1 5"
    ∷ bytes "[Row] 2"
    ∷ bytes "2 6"
    ∷ []

-- G, the diagonal
abbrev other_conductance : List (List ℕ)
other_conductance =
    bytes "5 6"
    ∷ []

-- C, the diagonal
abbrev capacitance : List (List ℕ)
capacitance =
    bytes "7p 8p"
    ∷ []

-- C, banded
abbrev other_capacitance : List (List ℕ)
other_capacitance =
    bytes "[Bandwidth] 0"
    ∷ bytes "[Row] 1"
    ∷ bytes "7p"
    ∷ bytes "[Row] 2"
    ∷ bytes "8p"
    ∷ []

abbrev pub example : List ℕ
example = text_of example_lines

-- from the section's matrices on
abbrev matrix_lines : List (List ℕ)
matrix_lines = bytes "[Resistance Matrix] Full_matrix" ∷ (resistance ++ (bytes "[Inductance Matrix] Banded_matrix" ∷ (inductance ++ (bytes "[Conductance Matrix] Sparse_matrix" ∷ (conductance ++ (bytes "[Capacitance Matrix] Diagonal_matrix" ∷ (capacitance ++ closing_lines)))))))

abbrev other_matrix_lines : List (List ℕ)
other_matrix_lines = bytes "[Resistance Matrix] Sparse_matrix" ∷ (other_resistance ++ (bytes "[Inductance Matrix] Full_matrix" ∷ (other_inductance ++ (bytes "[Conductance Matrix] Diagonal_matrix" ∷ (other_conductance ++ (bytes "[Capacitance Matrix] Banded_matrix" ∷ (other_capacitance ++ closing_lines)))))))

abbrev first_lines : List (List ℕ)
first_lines = header_lines ++ (family_lines ++ (bytes "Model_pinmap P" ∷ bytes "Section Mult=2 S" ∷ (path_lines ++ matrix_lines)))

-- a comment line, a blank line, blanks between words and about `=`, a comment at a line's end, and each matrix in another form
abbrev second_lines : List (List ℕ)
second_lines = header_lines ++ (bytes "| from another desk" ∷ bytes "  " ∷ (family_lines ++ (bytes "Model_pinmap   P | the first end" ∷ bytes "Section  Mult = 2   S" ∷ (path_lines ++ other_matrix_lines))))

abbrev pub first : List ℕ
first = text_of first_lines

abbrev pub second : List ℕ
second = text_of second_lines

-- the lines from each matrix on
abbrev closing : List Said
closing = map said_of closing_lines

abbrev from_c : List Said
from_c = said_of (bytes "[Capacitance Matrix] Diagonal_matrix") ∷ (map said_of capacitance ++ closing)

abbrev from_other_c : List Said
from_other_c = said_of (bytes "[Capacitance Matrix] Banded_matrix") ∷ (map said_of other_capacitance ++ closing)

abbrev from_g : List Said
from_g = said_of (bytes "[Conductance Matrix] Sparse_matrix") ∷ (map said_of conductance ++ from_c)

abbrev from_other_g : List Said
from_other_g = said_of (bytes "[Conductance Matrix] Diagonal_matrix") ∷ (map said_of other_conductance ++ from_other_c)

abbrev from_l : List Said
from_l = said_of (bytes "[Inductance Matrix] Banded_matrix") ∷ (map said_of inductance ++ from_g)

abbrev from_other_l : List Said
from_other_l = said_of (bytes "[Inductance Matrix] Full_matrix") ∷ (map said_of other_inductance ++ from_other_g)

abbrev from_r : List Said
from_r = said_of (bytes "[Resistance Matrix] Full_matrix") ∷ (map said_of resistance ++ from_l)

abbrev from_other_r : List Said
from_other_r = said_of (bytes "[Resistance Matrix] Sparse_matrix") ∷ (map said_of other_resistance ++ from_other_l)

-- from the path's first section, from its first end, and from the family on
abbrev from_section : List Said
from_section = said_of (bytes "Section Mult=2 S") ∷ (map said_of path_lines ++ from_r)

abbrev from_other_section : List Said
from_other_section = said_of (bytes "Section  Mult = 2   S") ∷ (map said_of path_lines ++ from_other_r)

abbrev from_end : List Said
from_end = said_of (bytes "Model_pinmap P") ∷ from_section

abbrev from_other_end : List Said
from_other_end = said_of (bytes "Model_pinmap   P | the first end") ∷ from_other_section

abbrev from_family : List Said
from_family = map said_of family_lines ++ from_end

abbrev from_other_family : List Said
from_other_family = said_of (bytes "| from another desk") ∷ said_of (bytes "  ") ∷ (map said_of family_lines ++ from_other_end)

-- ---- what is computed

-- numbers of two rows
two_same : (f g : ℕ → ℕ → ℕ) → f 1 1 ≡ g 1 1 → f 1 2 ≡ g 1 2 → f 2 2 ≡ g 2 2 → (i j : ℕ) → 1 ≤ i → i ≤ j → j ≤ 2 → f i j ≡ g i j
two_same f g a b c i j h k l =
    by_cases _ (eqb i 1)
    (λ (e : eqb i 1 ≡ true).
    by_cases _ (eqb j 1)
    (λ (d : eqb j 1 ≡ true). subst (λ (n : ℕ). f i n ≡ g i n) (sym (eqb-true j 1 d)) (subst (λ (n : ℕ). f n 1 ≡ g n 1) (sym (eqb-true i 1 e)) a))
    (λ (d : eqb j 1 ≡ false). let n : j ≡ 1 → ⊥ = eqb-false j 1 d in let t : j ≡ 2 = omega arith in subst (λ (n : ℕ). f i n ≡ g i n) (sym t) (subst (λ (n : ℕ). f n 2 ≡ g n 2) (sym (eqb-true i 1 e)) b)))
    (λ (e : eqb i 1 ≡ false). let n : i ≡ 1 → ⊥ = eqb-false i 1 e in let t : j ≡ 2 = omega arith in let u : i ≡ 2 = omega arith in subst (λ (n : ℕ). f i n ≡ g i n) (sym t) (subst (λ (n : ℕ). f n 2 ≡ g n 2) (sym u) c))

-- two matrices of two conductors
same_two :
    (l : Line) (bs : List Line) (m : Line) (cs : List Line) → opens_matrix_at l ≡ true → l.place ≡ m.place → key_of l ≡ key_of m → conductors_in (form_at l) bs ≡ 2 → conductors_in (form_at m) cs ≡ 2 →
    written_at (form_at l) bs 1 1 ≡ written_at (form_at m) cs 1 1 → written_at (form_at l) bs 1 2 ≡ written_at (form_at m) cs 1 2 → written_at (form_at l) bs 2 2 ≡ written_at (form_at m) cs 2 2 → SameNumbers l bs m cs
same_two l bs m cs o p k c d e f g =
    record {
      opens = o;
      place = p;
      kind = k;
      conductors = c ∙ sym d;
      numbers = λ i j low mid high. two_same (written_at (form_at l) bs) (written_at (form_at m) cs) e f g i j low mid (rw c at high);
    }

-- what `block` requires of a matrix and one in another form, in place p
record Blocks (p : ℕ) (r q : Said) (bs cs rs qs : List Said) : Type 0 where
  said : is_blank_line r.content ≡ false
  other_said : is_blank_line q.content ≡ false
  numbers :
      (n at m to : ℕ) →
      SameNumbers (line_as n at p r) (lines_from (n + 1) (at + r.size + 1) (place_after p r.content) bs) (line_as m to p q) (lines_from (m + 1) (to + q.size + 1) (place_after p q.content) cs)
  ends : Ends (place_after p r.content) bs rs
  others_end : Ends (place_after p q.content) cs qs
  leads : place_behind (place_after p r.content) bs ≡ place.matrix
  others_lead : place_behind (place_after p q.content) cs ≡ place.matrix

-- a line of a path, and one that says the same
record Says (r q : Said) : Type 0 where
  said : is_blank_line r.content ≡ false
  other_said : is_blank_line q.content ≡ false
  saying : SameSaying place.path r.content q.content
  leads : place_after place.path r.content ≡ place.path

record Computed : Type 0 where
  example_accepted : verdict_of example 8_192 ≡ accepted_with 92
  first_accepted : verdict_of first 8_192 ≡ accepted_with 125
  second_accepted : verdict_of second 8_192 ≡ accepted_with 125
  first_contents : contents first ≡ map said_of header_lines ++ from_family
  second_contents : contents second ≡ map said_of header_lines ++ from_other_family
  header_leads : place_behind before (map said_of header_lines) ≡ place.between
  comment_blank : is_blank_line (said_of (bytes "| from another desk")).content ≡ true
  line_blank : is_blank_line (said_of (bytes "  ")).content ≡ true
  family_leads : place_behind place.between (map said_of family_lines) ≡ place.path
  end : Says (said_of (bytes "Model_pinmap P")) (said_of (bytes "Model_pinmap   P | the first end"))
  section : Says (said_of (bytes "Section Mult=2 S")) (said_of (bytes "Section  Mult = 2   S"))
  path_leads : place_behind place.path (map said_of path_lines) ≡ place.section
  resistances : Blocks place.section (said_of (bytes "[Resistance Matrix] Full_matrix")) (said_of (bytes "[Resistance Matrix] Sparse_matrix")) (map said_of resistance) (map said_of other_resistance) from_l from_other_l
  inductances : Blocks place.matrix (said_of (bytes "[Inductance Matrix] Banded_matrix")) (said_of (bytes "[Inductance Matrix] Full_matrix")) (map said_of inductance) (map said_of other_inductance) from_g from_other_g
  conductances : Blocks place.matrix (said_of (bytes "[Conductance Matrix] Sparse_matrix")) (said_of (bytes "[Conductance Matrix] Diagonal_matrix")) (map said_of conductance) (map said_of other_conductance) from_c from_other_c
  capacitances : Blocks place.matrix (said_of (bytes "[Capacitance Matrix] Diagonal_matrix")) (said_of (bytes "[Capacitance Matrix] Banded_matrix")) (map said_of capacitance) (map said_of other_capacitance) closing closing

-- unfolds every definition that is needed to read the texts
computed : Computed
unfolding text_of place_behind d0.first d1.within d1.is_blank d1.is_digit d1.is_capital d1.is_small d1.is_letter d1.small d1.is_filled d1.is_printed d1.is_before d1.is_content d3.provided◌then◌else◌ d3.both d3.either d4.run d4.all d4.same d5.without_return d5.characters d5.raw_line_rule d5.refused_or d5.lines_rule d5.byte_rules d6.pushed d6.lines d6.said d6.contents d6.content_of d6.is_blank_line d7.word_goes_on d7.grown d7.words_from d7.back_run d7.last_end d7.has_equals d7.left_of d7.right_of d8.capped_digits d8.capped_exponent d8.size_at d8.raising d8.lowering d9.value_of d9.is_integer d9.whole_of d10.is_sign d10.is_minus d10.is_point d10.is_e d10.past_sign d10.no_digits d10.digits_go_on d10.with_point d10.with_digit d10.with_byte d10.scan d10.no_exponent d10.exponent_at d10.exponent_of d10.power_in d10.scale_by d10.scale_of d10.raised d10.lowered d10.in_range d10.value_as d10.well_formed d10.number_from d10.digits_of d10.exponent_from d10.number_of d11.value_word d11.decimal_of d11.is_decimal d11.is_value_word d12.is_open d12.is_not_closing d12.is_separator d12.is_plain_byte d12.push d12.parted d12.is_hyphen_word d12.is_good_word d12.are_good_words d12.is_good_name d12.name_length d12.name_of d12.is_closed d12.is_good_bracket d12.argument_at d12.named_as d12.bracket_of d13.joined_names d13.letters d13.start_of d13.shorter d13.first_of_size d13.begins d13.stands_at d14.folded d14.same_name d14.name_index d14.keyword_of d14.is_later d15.opens_line d15.closes_at d15.says_name place.opens_header_text place.stands_in_header place.leads_in_header place.leads_in_family place.leads_in_model place.opens_matrix place.leads_in_section place.is_row_or_bandwidth place.leads_in_matrix place.leads_after_family place.is_in_header place.is_in_family place.is_in_model place.moved place.is_text place.moved_by_line d17.is_reserved d17.is_one_word d17.is_name d17.is_file_byte d17.is_extension d17.is_file_name d17.form_of d17.method_of d17.takes_nothing d17.takes_free_text d17.takes_name d17.is_bad_form d17.is_bad_argument d17.is_bad_integer d17.is_out_of_bounds d18.model_type_of d18.wrong_head_line d18.type_line d18.ratio_of d18.sgr_line d18.impedance_line d18.head_line_of d18.is_head_out_of_order d18.head_next d18.new_head d18.head_lacks d19.saying_of d19.plain_line d19.names_one d19.is_mult d19.is_section_line d19.amount_formed d19.amount_of d19.amount_bounded d19.section_line d19.line_saying d19.path_line_of d19.new_path d19.is_bad_fork d19.is_path_out_of_order d19.is_step_line d19.with_end d19.path_next d19.path_open d19.path_lacks d20.amount_line d20.unit_line d20.is_parted d20.parts_line d21.order_of d21.wrong_map_line d21.order_line d21.list_line d21.size_line d21.map_line_of d21.new_map d21.is_ordered d21.is_map_out_of_order d21.map_next d21.is_pin_line d21.with_pin d21.pins_lack d21.is_wrong_grid d22.new_matrix d22.is_wrong_bandwidth d22.is_wrong_row d22.with_bandwidth d22.in_row d22.stands_above d22.still_fits d22.with_row d22.number_check d22.are_formed d22.are_bounded d22.numbers_line d22.sparse_line d22.data_line_of d22.is_data_out_of_order d22.are_too_many d22.with_column d22.data_next d22.shape_conductors d22.is_shaped d22.is_wrong_shape d22.is_too_wide d23.is_seen d23.is_once d23.has_no_kind d23.kinds_lack d23.header_lacks d23.family_lacks d23.is_lacking d23.is_too_late d23.is_unclosed d23.is_repeated d23.is_misplaced d23.is_fork_open d23.is_wrong_in_matrix d23.is_matrix_broken d23.is_shape_broken d23.closes_too_wide d23.is_full d23.is_past_bound d23.seen_after d23.head_after d23.path_after d23.map_after d23.conductors_after d23.section_after d23.matrix_after d23.one_more_if d23.counts_after d23.keyword_next d24.no_counts d24.none_seen d24.new_section d24.start_state d25.counts_after_line d25.line_next d25.argument_from d25.goes d25.breaks d25.judged d25.rules_and_next d25.line_result d25.at_end d25.onward d25.read_from d25.reading_of d26.meetings d26.state_after d27.resume d28.bases_from d29.joined d29.layout d29.chopped d29.parts_in d30.are_within d30.bases_at d30.counts_at d30.end_at d30.view_of d31.saying_at d31.step_of d31.steps_in d31.head_in d31.says_sgr d31.sgr_in d31.opens_model d31.in_model d31.model_of d31.model_at d31.listed_at d31.opens_map d31.in_map d31.grid_in d31.pin_at d31.map_of d31.map_at d31.kind_of d31.opens_matrix_at d31.in_matrix d31.given_by d31.bandwidth_in d31.next_row d31.numbers_at d31.sparse_at d31.values_from d31.named_by d31.greatest_in d31.conductors_in d31.matrix_of d31.matrix_at d31.opens_section d31.in_section d31.method_in d31.section_of d31.section_at d31.document_in d31.document_of d32.extent_of d32.extent_at d33.comes_before d33.is_in_upper_half d33.rises d34.key_at d34.place_after d34.lines_from d34.lines_at d34.significant d34.key_of d34.argument_of d34.words_of d34.right_words_of d34.no_word d34.stands_in d34.gather d34.up_to d35.index_of d35.is_map_of d35.is_section_of d35.target_of d35.step_record d35.step_records d35.model_record d35.model_records d35.pin_record d35.pin_records d35.map_record d35.map_records d35.index_of_kind d35.section_record d35.section_records d35.matrices_of d35.matrix_record d35.matrix_records d35.values_of d35.flatten parts_of d35.table_of records_in records_of d36.store_answer d37.writes_at d37.writes_part d37.nth_line d38.any d38.same_word d38.is_twice d38.is_there d38.uses d38.is_used d38.pins_at d38.conductors_at d38.method_at d38.is_other_form d38.has_other_form d38.has_map d38.has_section d38.clash d38.clashes d38.is_clashing d38.is_wrong_method d38.is_single_line d38.list_rules_at_lines d38.step_rules_at_lines d38.model_rules_at_lines d38.sgr_rules_at_lines d38.pin_rules_at_lines d38.map_rules_at_lines d38.section_rules_at_lines d38.all_rules_at_lines d38.earlier d38.no_finding d38.earliest d38.cross_rule d39.verdict_of d39.table_for d40.takes_equals d40.takes_text d41.is_plain d41.row_lines d41.numbers_of d41.word_of d41.sparse_word d41.written_at
computed =
    record {
      example_accepted = refl;
      first_accepted = refl;
      second_accepted = refl;
      first_contents = refl;
      second_contents = refl;
      header_leads = refl;
      comment_blank = refl;
      line_blank = refl;
      family_leads = refl;
      end = record { said = refl; other_said = refl; saying = same_words refl refl refl; leads = refl };
      section = record { said = refl; other_said = refl; saying = same_sides refl refl refl refl refl refl; leads = refl };
      path_leads = refl;
      resistances = record { said = refl; other_said = refl; numbers = λ n at m to. same_two _ _ _ _ refl refl refl refl refl refl refl refl; ends = record { stops = λ n at m to. refl }; others_end = record { stops = λ n at m to. refl }; leads = refl; others_lead = refl };
      inductances = record { said = refl; other_said = refl; numbers = λ n at m to. same_two _ _ _ _ refl refl refl refl refl refl refl refl; ends = record { stops = λ n at m to. refl }; others_end = record { stops = λ n at m to. refl }; leads = refl; others_lead = refl };
      conductances = record { said = refl; other_said = refl; numbers = λ n at m to. same_two _ _ _ _ refl refl refl refl refl refl refl refl; ends = record { stops = λ n at m to. refl }; others_end = record { stops = λ n at m to. refl }; leads = refl; others_lead = refl };
      capacitances = record { said = refl; other_said = refl; numbers = λ n at m to. same_two _ _ _ _ refl refl refl refl refl refl refl refl; ends = record { stops = λ n at m to. refl }; others_end = record { stops = λ n at m to. refl }; leads = refl; others_lead = refl };
    }

pub example_accepted : verdict_of example 8_192 ≡ accepted_with 92
example_accepted = computed.example_accepted

pub first_accepted : verdict_of first 8_192 ≡ accepted_with 125
first_accepted = computed.first_accepted

pub second_accepted : verdict_of second 8_192 ≡ accepted_with 125
second_accepted = computed.second_accepted

-- ---- the two texts are alike

blocks_same : (p : ℕ) (r q : Said) (bs cs rs qs : List Said) → Blocks p r q bs cs rs qs → SameContents place.matrix rs qs → SameContents p (r ∷ (bs ++ rs)) (q ∷ (cs ++ qs))
blocks_same p r q bs cs rs qs f s =
    block bs cs f.said f.other_said f.numbers f.ends f.others_end (f.leads ∙ sym f.others_lead) (subst (λ (k : ℕ). SameContents k rs qs) (sym f.leads) s)

says_same : (r q : Said) (rs qs : List Said) → Says r q → SameContents place.path rs qs → SameContents place.path (r ∷ rs) (q ∷ qs)
says_same r q rs qs f s = says f.said f.other_said f.saying (subst (λ (k : ℕ). SameContents k rs qs) (sym f.leads) s)

-- the same lines in front
front_same : (p k : ℕ) (xs rs qs : List Said) → place_behind p xs ≡ k → SameContents k rs qs → SameContents p (xs ++ rs) (xs ++ qs)
front_same p k xs rs qs e s = contents_front rs qs p xs (subst (λ (n : ℕ). SameContents n rs qs) (sym e) s)

c_same : SameContents place.matrix from_c from_other_c
c_same = blocks_same place.matrix _ _ (map said_of capacitance) (map said_of other_capacitance) closing closing computed.capacitances (contents_self place.matrix closing)

g_same : SameContents place.matrix from_g from_other_g
g_same = blocks_same place.matrix _ _ (map said_of conductance) (map said_of other_conductance) from_c from_other_c computed.conductances c_same

l_same : SameContents place.matrix from_l from_other_l
l_same = blocks_same place.matrix _ _ (map said_of inductance) (map said_of other_inductance) from_g from_other_g computed.inductances g_same

r_same : SameContents place.section from_r from_other_r
r_same = blocks_same place.section _ _ (map said_of resistance) (map said_of other_resistance) from_l from_other_l computed.resistances l_same

section_same : SameContents place.path from_section from_other_section
section_same = says_same _ _ (map said_of path_lines ++ from_r) (map said_of path_lines ++ from_other_r) computed.section (front_same place.path place.section (map said_of path_lines) from_r from_other_r computed.path_leads r_same)

end_same : SameContents place.path from_end from_other_end
end_same = says_same _ _ from_section from_other_section computed.end section_same

family_same : SameContents place.between from_family from_other_family
family_same = other_blank computed.comment_blank (other_blank computed.line_blank (front_same place.between place.path (map said_of family_lines) from_end from_other_end computed.family_leads end_same))

all_same : SameContents before (map said_of header_lines ++ from_family) (map said_of header_lines ++ from_other_family)
all_same = front_same before place.between (map said_of header_lines) from_family from_other_family computed.header_leads family_same

pub first_second : Alike first second
first_second = texts_alike first second (rw (computed.first_contents, computed.second_contents) all_same)
