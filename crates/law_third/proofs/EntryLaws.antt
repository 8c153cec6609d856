-- The third demand, its entries: "all four matrices answer at every row and column, alike when exchanged, with the number written or zero".
-- Assumes nothing.
use Prim.Native.Nat.{ℕ, ◌≤◌, ◌<◌, min, max}
use mathlib.Core.Path.{◌≡◌, refl, sym, ◌∙◌, ap}
use mathlib.Core.Bool.{true, false}
use mathlib.Core.List.{List, [], ◌∷◌, ◌++◌}
use native.Mathlib.Nat.{le_trans, min-le_left, le-max_left, le-min, max-le}
use native.Mathlib.Omega.{arith}
use lib.ListN.{length, get_or}
use Rattle.base.specs.Refusal as refusal
use Rattle.table_record.specs.Records.{Records, no_section}
use Rattle.base.proofs.IfLaws.{if_true, if_false, by_test, not_via, not_not_via}
use Rattle.doc.specs.Lines.{Line, key_of, significant, up_to}
use Rattle.doc.specs.Document.{Matrix, Section, document_of, conductors_of, kind_of, values_from, opens_matrix_at, in_matrix}
use Rattle.doc.specs.Document as document
use Rattle.doc.specs.Records.{flatten}
use Rattle.doc.specs.Holds.{Each}
use Rattle.cross_rules.proofs.RisingLaws.{each_at}
use Rattle.law_demands.proofs.AcceptedLaws as accepted
use Rattle.ask_entry.specs.Entry.{EntryWords, found_with, entry_refused, matrix_index, entry_of, is_in_range, entry_from, entry_answer}
use Rattle.ask_entry.proofs.EntryLaws.{exchange}
use Rattle.law_alike.specs.Written.{written_at}
use Rattle.law_alike.specs.Way.Found.{found_at}
use Rattle.law_alike.specs.Alike.{form_at}
use Rattle.law_alike.proofs.WrittenLaws.{Found, EachOpening, text_openings, FoundMatrix, text_found}
use Rattle.law_third.specs.Third.{AcceptedTable, WrittenBy, Entered}
use Rattle.law_third.proofs.EntryRecordLaws.{given_at, given_past, given_not, section_given, section_range}
use Rattle.law_third.proofs.EntryOnceLaws.{Once, once_above, text_once}
use Rattle.law_third.proofs.TakenLaws.{taken_passed, taken_records, taken_sound}

-- ---- the question about the table of an accepted text

module _ (t table : List ℕ) (taken : AcceptedTable t table) where
  -- 30 is never the answer
  pub answer_over :
      (section kind row column : ℕ) → entry_answer t table section kind row column ≡ entry_from (flatten (document_of t)) section kind row column
  unfolding entry_answer
  answer_over section kind row column =
      if_false _ _ (not_not_via (taken_sound t table taken))
      ∙ ap (λ (r : Records). entry_from r section kind row column) (taken_records t table taken)

module _ (r : Records) (section kind row column : ℕ) where
  pub over_inside :
      is_in_range r section kind row column ≡ true →
      entry_from r section kind row column ≡ found_with (entry_of r (matrix_index (get_or r.sections section no_section) kind) row column)
  unfolding entry_from
  over_inside h = if_false _ _ (not_not_via h)

  pub over_outside : is_in_range r section kind row column ≡ false → entry_from r section kind row column ≡ entry_refused refusal.no_such
  unfolding entry_from
  over_outside h = if_true _ _ (not_via h)

-- ---- what matrices write

opening_found :
    (before after : List Line) (line : Line) → EachOpening (before ++ (line ∷ after)) → opens_matrix_at line ≡ true →
    Found (form_at line) (up_to in_matrix after)
opening_found [] after line (EachOpening.more f fs) h = f h
opening_found (b ∷ before) after line (EachOpening.more f fs) h = opening_found before after line fs h

matrix_kind : (line : Line) (form : ℕ) (body : List Line) → (document.matrix_of line form body).kind ≡ kind_of (key_of line)
unfolding document.matrix_of
matrix_kind line form body = refl

matrix_values_lem : (line : Line) (form : ℕ) (body : List Line) → (document.matrix_of line form body).values ≡ values_from form 1 1 body
unfolding document.matrix_of
matrix_values_lem line form body = refl

kind_few : (k : ℕ) → kind_of k < 4
unfolding kind_of
kind_few k =
    by_test (λ (n : ℕ). n < 4) _ _ _ (λ e. omega arith)
    (λ e.
    by_test (λ (n : ℕ). n < 4) _ _ _ (λ e. omega arith)
    (λ e. by_test (λ (n : ℕ). n < 4) _ _ _ (λ e. omega arith) (λ e. omega arith)))

-- the lesser and the greater of row and column
module _ (row column n : ℕ) (low : 1 ≤ row) (high : row ≤ n) (left : 1 ≤ column) (right : column ≤ n) where
  pub least : 1 ≤ min row column
  least = le-min low left

  pub ordered : min row column ≤ max row column
  ordered = le_trans (min-le_left row column) (le-max_left row column)

  pub greatest : max row column ≤ n
  greatest = max-le high right

-- ---- one section

module _
    (t table : List ℕ)
    (taken : AcceptedTable t table)
    (before behind : List Section)
    (x : Section)
    (here : (document_of t).sections ≡ before ++ (x ∷ behind)) where
  -- every kind answers at every row and column
  given :
      (kind : ℕ) → kind < 4 → (row column : ℕ) → 1 ≤ row → row ≤ conductors_of x.matrices → 1 ≤ column →
      column ≤ conductors_of x.matrices →
      entry_answer t table (length before) kind row column ≡ found_with (given_at kind (min row column) (max row column) x.matrices)
  given kind few row column low high left right =
      answer_over t table taken (length before) kind row column
      ∙ over_inside (flatten (document_of t)) (length before) kind row column
      (section_range (document_of t) before behind x here kind row column few low high left right)
      ∙ ap found_with (section_given (document_of t) before behind x here kind row column few)

  once : Once x.matrices
  once =
      let k : accepted.Taken t (length taken.before) = taken_passed t table taken in
      let all : Each (λ (y : Section). Once y.matrices) (before ++ (x ∷ behind)) = rw here at (text_once t k.counts k.reads) in
      each_at before behind x all

  written :
      (above_line below_line : List Line) (line : Line) → significant t ≡ above_line ++ (line ∷ below_line) → opens_matrix_at line ≡ true →
      (above below : List Matrix) → x.matrices ≡ above ++ (document.matrix_of line (form_at line) (up_to in_matrix below_line) ∷ below) →
      (row column : ℕ) → 1 ≤ row → row ≤ conductors_of x.matrices → 1 ≤ column → column ≤ conductors_of x.matrices →
      entry_answer t table (length before) (kind_of (key_of line)) row column
      ≡ found_with (written_at (form_at line) (up_to in_matrix below_line) (min row column) (max row column))
  written above_line below_line line stands opens above below split row column low high left right =
      let k : accepted.Taken t (length taken.before) = taken_passed t table taken in
      let body : List Line = up_to in_matrix below_line in
      let i : ℕ = min row column in
      let j : ℕ = max row column in
      let n : ℕ = conductors_of x.matrices in
      let m : Matrix = document.matrix_of line (form_at line) body in
      let openings : EachOpening (above_line ++ (line ∷ below_line)) = rw stands at (text_openings t k.counts k.reads) in
      let found : written_at (form_at line) body i j ≡ found_at i j (values_from (form_at line) 1 1 body) =
      opening_found above_line below_line line openings opens i j (least row column n low high left right)
      (ordered row column n low high left right) in
      let o : Once (above ++ (m ∷ below)) = rw split at once in
      let is : m.kind ≡ kind_of (key_of line) = matrix_kind line (form_at line) body in
      given (kind_of (key_of line)) (kind_few (key_of line)) row column low high left right
      ∙ ap found_with
      (ap (given_at (kind_of (key_of line)) i j) split
      ∙ given_past (kind_of (key_of line)) i j m below (once_above above below m (kind_of (key_of line)) is o) is
      ∙ ap (found_at i j) (matrix_values_lem line (form_at line) body) ∙ sym found)

  by_lines : (above below : List Matrix) (m : Matrix) → x.matrices ≡ above ++ (m ∷ below) → WrittenBy t m
  by_lines above below m split =
      let k : accepted.Taken t (length taken.before) = taken_passed t table taken in
      let all : Each (λ (y : Section). Each (FoundMatrix t) y.matrices) (before ++ (x ∷ behind)) = rw here at (text_found t k.counts k.reads) in
      let its : Each (FoundMatrix t) (above ++ (m ∷ below)) = rw split at (each_at before behind x all) in
      let f : FoundMatrix t m = each_at above below m its in
      record { before = f.before; line = f.line; after = f.after; stands = f.stands; opens = f.opens; same = f.same }

  pub entered : Entered t table (length before) x
  entered =
      record {
        answers = λ (kind row column : ℕ) few low high left right. ap (λ (w : EntryWords). w.found) (given kind few row column low high left right);
        by_lines = by_lines;
        written = written;
        not_given =
            λ (kind : ℕ) (few : kind < 4) (h : Each (λ (m : Matrix). m.kind ≡ kind → ⊥) x.matrices) (row column : ℕ) (low : 1 ≤ row)
            (high : row ≤ conductors_of x.matrices) (left : 1 ≤ column) (right : column ≤ conductors_of x.matrices).
            given kind few row column low high left right ∙ ap found_with (given_not kind (min row column) (max row column) h);
        exchanged = λ (kind row column : ℕ). exchange t table (length before) kind row column;
      }

-- for every section of an accepted text
pub entries_shown :
    (t table : List ℕ) → AcceptedTable t table → (before behind : List Section) (x : Section) → (document_of t).sections ≡ before ++ (x ∷ behind) →
    Entered t table (length before) x
entries_shown t table taken before behind x here = entered t table taken before behind x here
