-- By computation: lines that carry the same entries in each form. So `Carries` is met, and a matrix of three conductors
-- may be written in each of the forms.
-- Assumes nothing.
use mathlib.Core.Path.{◌≡◌, refl, sym, ◌∙◌, subst}
use mathlib.Core.Bool.{not}
use mathlib.Core.List.{List, [], ◌∷◌, ◌++◌, map}
use Prim.Native.Nat.{ℕ, suc, ◌+◌, ◌-◌, ◌≤◌, ◌<◌, min}
use native.Mathlib.Omega.{arith}
use lib.ListN.{take, drop}
use lib.Dec.{eqb}
use borrow.Author.Tests.{ne_eqb}
use Rattle.table_layout.specs.Codes.{diagonal, banded, sparse, full}
use Rattle.base.specs.If.{provided◌then◌else◌, both}
use Rattle.base.specs.Bytes.{bytes}
use Rattle.base.proofs.IfLaws.{if_true, not_via}
use Rattle.lex_number.specs.ValueWord.{zero_word}
use Rattle.lex_keyword.specs.Names.{row}
use Rattle.line_place.specs.Place as place
use Rattle.doc.specs.Lines.{Line, key_of, lines_from}
use Rattle.doc.specs.Document.{given_by}
use Rattle.doc.specs.Holds.{Each}
use Rattle.law_alike.specs.Way.Carried.{value_of, along, down, Says, Rows, Pairs, SparseRows, Names, Carries, diagonally, fully, in_a_band, sparsely}
use Rattle.law_alike.specs.Written.{written_at}
use Rattle.law_alike.proofs.WideLaws.{said_of}
use Rattle.law_alike.proofs.FormLaws.{carried_written}
use Rattle.base.specs.Bytes as d1
use Rattle.base.specs.If as d3
use Rattle.base.specs.Runs as d4
use Rattle.lex_line.specs.Lines as d6
use Rattle.lex_line.specs.Words as d7
use Rattle.lex_number.specs.Integer as d9
use Rattle.lex_number.specs.Number as d10
use Rattle.lex_number.specs.ValueWord as d11
use Rattle.lex_keyword.specs.Bracket as d12
use Rattle.lex_keyword.specs.Names as d14
use Rattle.read_line.specs.Reading as d25
use Rattle.doc.specs.Document as d31
use Rattle.doc.specs.Lines as d34
use Rattle.law_alike.specs.Written as d41

-- the lines of a matrix, below its opening line
unfoldable pub lines_of : List (List ℕ) → List Line
lines_of cs = lines_from 1 0 place.matrix (map said_of cs)

-- 1 2 0
--   3 4
--     5
unfoldable pub entry : ℕ → ℕ → ℕ
entry i j =
    provided both (eqb i 1) (eqb j 1) then value_of (bytes "1") else
    provided both (eqb i 1) (eqb j 2) then value_of (bytes "2") else
    provided both (eqb i 2) (eqb j 2) then value_of (bytes "3") else
    provided both (eqb i 2) (eqb j 3) then value_of (bytes "4") else
    provided both (eqb i 3) (eqb j 3) then value_of (bytes "5") else zero_word

abbrev full_lines : List Line
full_lines = lines_of (bytes "[Row] 1" ∷ bytes "1 2" ∷ bytes "  0e9" ∷ bytes "[Row] 2" ∷ bytes "3   4 | a comment" ∷ bytes "| a line of comment" ∷ bytes "[Row] 3" ∷ bytes "5" ∷ [])

abbrev banded_lines : List Line
banded_lines = lines_of (bytes "[Bandwidth] 1" ∷ bytes "[Row] 1" ∷ bytes "1.0" ∷ bytes "2" ∷ bytes "[Row] 2" ∷ bytes "3 4" ∷ bytes "[row]  03" ∷ bytes "0.5e1" ∷ [])

abbrev sparse_lines : List Line
sparse_lines = lines_of (bytes "[Row] 1" ∷ bytes "1 1" ∷ bytes "2 2" ∷ bytes "[Row] 2" ∷ bytes "2 3" ∷ bytes "03  4" ∷ bytes "[Row] 3" ∷ bytes "3 5" ∷ [])

-- a row, with the next k lines as its numbers
next_row_lem :
    (v : ℕ → ℕ → ℕ) (n : ℕ) (size : ℕ → ℕ) (i k : ℕ) (l : Line) (body : List Line) → body ≡ l ∷ (take k (drop 1 body) ++ drop (suc k) body) → i ≤ n →
    key_of l ≡ row → given_by l ≡ i → Says (take k (drop 1 body)) (along v i i (size i)) → Rows v n size (suc i) (drop (suc k) body) → Rows v n size i body
next_row_lem v n size i k l body e h key given said rest = subst (Rows v n size i) (sym e) (Rows.next h key given said rest)

next_sparse :
    (v : ℕ → ℕ → ℕ) (n i k r : ℕ) (l : Line) (body : List Line) → body ≡ l ∷ (take k (drop 1 body) ++ drop (suc k) body) → i ≤ r → r ≤ n →
    key_of l ≡ row → given_by l ≡ r → ((a b : ℕ) → i ≤ a → a < r → a ≤ b → b ≤ n → v a b ≡ zero_word) → Pairs v n r r (take k (drop 1 body)) →
    SparseRows v n (suc r) (drop (suc k) body) → SparseRows v n i body
next_sparse v n i k r l body e low high key given zero pairs rest = subst (SparseRows v n i) (sym e) (SparseRows.next r low high key given zero pairs rest)

full_rows : Rows entry 3 (λ (i : ℕ). 3 - i + 1) 1 full_lines
unfolding lines_of entry along down d1.within d1.is_blank d1.is_digit d1.is_capital d1.is_small d1.is_letter d1.small d1.is_filled d1.is_before d1.is_content d3.provided◌then◌else◌ d3.both d3.either d4.run d4.all d4.same d6.said d6.content_of d6.is_blank_line d7.word_goes_on d7.grown d7.words_from d7.back_run d7.last_end d9.value_of d9.is_integer d9.whole_of d10.is_sign d10.is_minus d10.is_point d10.is_e d10.past_sign d10.no_digits d10.digits_go_on d10.with_point d10.with_digit d10.with_byte d10.scan d10.no_exponent d10.exponent_at d10.exponent_of d10.power_in d10.scale_by d10.scale_of d10.raised d10.lowered d10.in_range d10.value_as d10.well_formed d10.number_from d10.digits_of d10.exponent_from d10.number_of d11.value_word d12.is_open d12.is_not_closing d12.is_separator d12.is_plain_byte d12.push d12.parted d12.is_hyphen_word d12.is_good_word d12.are_good_words d12.is_good_name d12.name_length d12.name_of d12.is_closed d12.is_good_bracket d12.argument_at d12.named_as d12.bracket_of d14.folded d14.same_name d14.name_index d14.keyword_of d14.is_later place.is_row_or_bandwidth place.leads_in_matrix place.moved place.moved_by_line d25.argument_from d31.given_by d31.named_by d34.key_at d34.place_after d34.lines_from d34.key_of d34.argument_of d41.is_plain d41.numbers_of
full_rows =
    next_row_lem entry 3 (λ (i : ℕ). 3 - i + 1) 1 2 _ full_lines refl (omega arith) refl refl (record { plainly = Each.more refl (Each.more refl Each.none); said = refl })
    (next_row_lem entry 3 (λ (i : ℕ). 3 - i + 1) 2 1 _ _ refl (omega arith) refl refl (record { plainly = Each.more refl Each.none; said = refl })
    (next_row_lem entry 3 (λ (i : ℕ). 3 - i + 1) 3 1 _ _ refl (omega arith) refl refl (record { plainly = Each.more refl Each.none; said = refl }) (Rows.ended refl)))

pub full_carried : Carries entry 3 full full_lines
full_carried = fully full_rows

banded_rows : Rows entry 3 (λ (i : ℕ). 1 + min 1 (3 - i)) 1 (drop 1 banded_lines)
unfolding lines_of entry along down d1.within d1.is_blank d1.is_digit d1.is_capital d1.is_small d1.is_letter d1.small d1.is_filled d1.is_before d1.is_content d3.provided◌then◌else◌ d3.both d3.either d4.run d4.all d4.same d6.said d6.content_of d6.is_blank_line d7.word_goes_on d7.grown d7.words_from d7.back_run d7.last_end d9.value_of d9.is_integer d9.whole_of d10.is_sign d10.is_minus d10.is_point d10.is_e d10.past_sign d10.no_digits d10.digits_go_on d10.with_point d10.with_digit d10.with_byte d10.scan d10.no_exponent d10.exponent_at d10.exponent_of d10.power_in d10.scale_by d10.scale_of d10.raised d10.lowered d10.in_range d10.value_as d10.well_formed d10.number_from d10.digits_of d10.exponent_from d10.number_of d11.value_word d12.is_open d12.is_not_closing d12.is_separator d12.is_plain_byte d12.push d12.parted d12.is_hyphen_word d12.is_good_word d12.are_good_words d12.is_good_name d12.name_length d12.name_of d12.is_closed d12.is_good_bracket d12.argument_at d12.named_as d12.bracket_of d14.folded d14.same_name d14.name_index d14.keyword_of d14.is_later place.is_row_or_bandwidth place.leads_in_matrix place.moved place.moved_by_line d25.argument_from d31.given_by d31.named_by d34.key_at d34.place_after d34.lines_from d34.key_of d34.argument_of d41.is_plain d41.numbers_of
banded_rows =
    next_row_lem entry 3 (λ (i : ℕ). 1 + min 1 (3 - i)) 1 2 _ (drop 1 banded_lines) refl (omega arith) refl refl (record { plainly = Each.more refl (Each.more refl Each.none); said = refl })
    (next_row_lem entry 3 (λ (i : ℕ). 1 + min 1 (3 - i)) 2 1 _ _ refl (omega arith) refl refl (record { plainly = Each.more refl Each.none; said = refl })
    (next_row_lem entry 3 (λ (i : ℕ). 1 + min 1 (3 - i)) 3 1 _ _ refl (omega arith) refl refl (record { plainly = Each.more refl Each.none; said = refl }) (Rows.ended refl)))

-- the corner is zero
corner : (i j : ℕ) → i ≡ 1 → j ≡ 3 → entry i j ≡ zero_word
unfolding entry d3.provided◌then◌else◌ d3.both
corner i j e f = (λ k. entry (e k) (f k)) ∙ refl

pub banded_carried : Carries entry 3 banded banded_lines
unfolding lines_of entry along down d1.within d1.is_blank d1.is_digit d1.is_capital d1.is_small d1.is_letter d1.small d1.is_filled d1.is_before d1.is_content d3.provided◌then◌else◌ d3.both d3.either d4.run d4.all d4.same d6.said d6.content_of d6.is_blank_line d7.word_goes_on d7.grown d7.words_from d7.back_run d7.last_end d9.value_of d9.is_integer d9.whole_of d10.is_sign d10.is_minus d10.is_point d10.is_e d10.past_sign d10.no_digits d10.digits_go_on d10.with_point d10.with_digit d10.with_byte d10.scan d10.no_exponent d10.exponent_at d10.exponent_of d10.power_in d10.scale_by d10.scale_of d10.raised d10.lowered d10.in_range d10.value_as d10.well_formed d10.number_from d10.digits_of d10.exponent_from d10.number_of d11.value_word d12.is_open d12.is_not_closing d12.is_separator d12.is_plain_byte d12.push d12.parted d12.is_hyphen_word d12.is_good_word d12.are_good_words d12.is_good_name d12.name_length d12.name_of d12.is_closed d12.is_good_bracket d12.argument_at d12.named_as d12.bracket_of d14.folded d14.same_name d14.name_index d14.keyword_of d14.is_later place.is_row_or_bandwidth place.leads_in_matrix place.moved place.moved_by_line d25.argument_from d31.given_by d31.named_by d34.key_at d34.place_after d34.lines_from d34.key_of d34.argument_of d41.is_plain d41.numbers_of
banded_carried = in_a_band 1 refl refl banded_rows (λ (i j : ℕ) (low : 1 ≤ i) (far : i + 1 < j) (high : j ≤ 3). corner i j (omega arith) (omega arith))

sparse_rows_lem : SparseRows entry 3 1 sparse_lines
unfolding lines_of entry along down d1.within d1.is_blank d1.is_digit d1.is_capital d1.is_small d1.is_letter d1.small d1.is_filled d1.is_before d1.is_content d3.provided◌then◌else◌ d3.both d3.either d4.run d4.all d4.same d6.said d6.content_of d6.is_blank_line d7.word_goes_on d7.grown d7.words_from d7.back_run d7.last_end d9.value_of d9.is_integer d9.whole_of d10.is_sign d10.is_minus d10.is_point d10.is_e d10.past_sign d10.no_digits d10.digits_go_on d10.with_point d10.with_digit d10.with_byte d10.scan d10.no_exponent d10.exponent_at d10.exponent_of d10.power_in d10.scale_by d10.scale_of d10.raised d10.lowered d10.in_range d10.value_as d10.well_formed d10.number_from d10.digits_of d10.exponent_from d10.number_of d11.value_word d12.is_open d12.is_not_closing d12.is_separator d12.is_plain_byte d12.push d12.parted d12.is_hyphen_word d12.is_good_word d12.are_good_words d12.is_good_name d12.name_length d12.name_of d12.is_closed d12.is_good_bracket d12.argument_at d12.named_as d12.bracket_of d14.folded d14.same_name d14.name_index d14.keyword_of d14.is_later place.is_row_or_bandwidth place.leads_in_matrix place.moved place.moved_by_line d25.argument_from d31.given_by d31.named_by d34.key_at d34.place_after d34.lines_from d34.key_of d34.argument_of d41.is_plain d41.numbers_of
sparse_rows_lem =
    next_sparse entry 3 1 2 1 _ sparse_lines refl (omega arith) (omega arith) refl refl (λ (a b : ℕ) (low : 1 ≤ a) (less : a < 1) (mid : a ≤ b) (high : b ≤ 3). absurd (omega arith))
    (Pairs.pair 1 (omega arith) (omega arith) refl refl refl (λ (k : ℕ) (low : 1 ≤ k) (less : k < 1). absurd (omega arith))
    (Pairs.pair 2 (omega arith) (omega arith) refl refl refl (λ (k : ℕ) (low : 2 ≤ k) (less : k < 2). absurd (omega arith))
    (Pairs.ended (λ (j : ℕ) (low : 3 ≤ j) (high : j ≤ 3). corner 1 j refl (omega arith)))))
    (next_sparse entry 3 2 2 2 _ _ refl (omega arith) (omega arith) refl refl (λ (a b : ℕ) (low : 2 ≤ a) (less : a < 2) (mid : a ≤ b) (high : b ≤ 3). absurd (omega arith))
    (Pairs.pair 2 (omega arith) (omega arith) refl refl refl (λ (k : ℕ) (low : 2 ≤ k) (less : k < 2). absurd (omega arith))
    (Pairs.pair 3 (omega arith) (omega arith) refl refl refl (λ (k : ℕ) (low : 3 ≤ k) (less : k < 3). absurd (omega arith))
    (Pairs.ended (λ (j : ℕ) (low : 4 ≤ j) (high : j ≤ 3). absurd (omega arith)))))
    (next_sparse entry 3 3 1 3 _ _ refl (omega arith) (omega arith) refl refl (λ (a b : ℕ) (low : 3 ≤ a) (less : a < 3) (mid : a ≤ b) (high : b ≤ 3). absurd (omega arith))
    (Pairs.pair 3 (omega arith) (omega arith) refl refl refl (λ (k : ℕ) (low : 3 ≤ k) (less : k < 3). absurd (omega arith))
    (Pairs.ended (λ (j : ℕ) (low : 4 ≤ j) (high : j ≤ 3). absurd (omega arith))))
    (SparseRows.ended (λ (a b : ℕ) (low : 4 ≤ a) (mid : a ≤ b) (high : b ≤ 3). absurd (omega arith)))))

pub sparse_carried : Carries entry 3 sparse sparse_lines
unfolding lines_of entry along down d1.within d1.is_blank d1.is_digit d1.is_capital d1.is_small d1.is_letter d1.small d1.is_filled d1.is_before d1.is_content d3.provided◌then◌else◌ d3.both d3.either d4.run d4.all d4.same d6.said d6.content_of d6.is_blank_line d7.word_goes_on d7.grown d7.words_from d7.back_run d7.last_end d9.value_of d9.is_integer d9.whole_of d10.is_sign d10.is_minus d10.is_point d10.is_e d10.past_sign d10.no_digits d10.digits_go_on d10.with_point d10.with_digit d10.with_byte d10.scan d10.no_exponent d10.exponent_at d10.exponent_of d10.power_in d10.scale_by d10.scale_of d10.raised d10.lowered d10.in_range d10.value_as d10.well_formed d10.number_from d10.digits_of d10.exponent_from d10.number_of d11.value_word d12.is_open d12.is_not_closing d12.is_separator d12.is_plain_byte d12.push d12.parted d12.is_hyphen_word d12.is_good_word d12.are_good_words d12.is_good_name d12.name_length d12.name_of d12.is_closed d12.is_good_bracket d12.argument_at d12.named_as d12.bracket_of d14.folded d14.same_name d14.name_index d14.keyword_of d14.is_later place.is_row_or_bandwidth place.leads_in_matrix place.moved place.moved_by_line d25.argument_from d31.given_by d31.named_by d34.key_at d34.place_after d34.lines_from d34.key_of d34.argument_of d41.is_plain d41.numbers_of
sparse_carried = sparsely sparse_rows_lem (Names.later (Names.later (Names.later (Names.later (Names.later (Names.here refl))))))

-- so each of the three forms writes the other two's numbers
pub written_alike : (i j : ℕ) → 1 ≤ i → i ≤ j → j ≤ 3 → (written_at full full_lines i j ≡ written_at banded banded_lines i j) × (written_at full full_lines i j ≡ written_at sparse sparse_lines i j)
written_alike i j low mid high =
    let f : written_at full full_lines i j ≡ entry i j = carried_written entry 3 full_carried i j low mid high in
    (f ∙ sym (carried_written entry 3 banded_carried i j low mid high), f ∙ sym (carried_written entry 3 sparse_carried i j low mid high))

-- 6, 7, 8 down the diagonal
unfoldable pub diagonal_entry : ℕ → ℕ → ℕ
diagonal_entry i j =
    provided not (eqb i j) then zero_word else
    provided eqb i 1 then value_of (bytes "6") else provided eqb i 2 then value_of (bytes "7") else provided eqb i 3 then value_of (bytes "8") else zero_word

abbrev diagonal_lines : List Line
diagonal_lines = lines_of (bytes "6 7.0" ∷ [] ∷ bytes " 8 | the last" ∷ [])

off_diagonal : (i j : ℕ) → i < j → diagonal_entry i j ≡ zero_word
unfolding diagonal_entry
off_diagonal i j h = if_true _ _ (not_via (ne_eqb i j (λ (e : i ≡ j). omega arith)))

pub diagonal_carried : Carries diagonal_entry 3 diagonal diagonal_lines
unfolding lines_of entry diagonal_entry along down d1.within d1.is_blank d1.is_digit d1.is_capital d1.is_small d1.is_letter d1.small d1.is_filled d1.is_before d1.is_content d3.provided◌then◌else◌ d3.both d3.either d4.run d4.all d4.same d6.said d6.content_of d6.is_blank_line d7.word_goes_on d7.grown d7.words_from d7.back_run d7.last_end d9.value_of d9.is_integer d9.whole_of d10.is_sign d10.is_minus d10.is_point d10.is_e d10.past_sign d10.no_digits d10.digits_go_on d10.with_point d10.with_digit d10.with_byte d10.scan d10.no_exponent d10.exponent_at d10.exponent_of d10.power_in d10.scale_by d10.scale_of d10.raised d10.lowered d10.in_range d10.value_as d10.well_formed d10.number_from d10.digits_of d10.exponent_from d10.number_of d11.value_word d12.is_open d12.is_not_closing d12.is_separator d12.is_plain_byte d12.push d12.parted d12.is_hyphen_word d12.is_good_word d12.are_good_words d12.is_good_name d12.name_length d12.name_of d12.is_closed d12.is_good_bracket d12.argument_at d12.named_as d12.bracket_of d14.folded d14.same_name d14.name_index d14.keyword_of d14.is_later place.is_row_or_bandwidth place.leads_in_matrix place.moved place.moved_by_line d25.argument_from d31.given_by d31.named_by d34.key_at d34.place_after d34.lines_from d34.key_of d34.argument_of d41.is_plain d41.numbers_of
diagonal_carried =
    diagonally (record { plainly = Each.more refl (Each.more refl Each.none); said = refl }) (λ (i j : ℕ) (low : 1 ≤ i) (far : i < j) (high : j ≤ 3). off_diagonal i j far)
