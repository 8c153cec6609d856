-- Laws of the loops that write a line for each record: writing the lines that are left completes the text.
-- Assumes nothing.
use mathlib.Core.Path.{◌≡◌, ◌∙◌, ap}
use mathlib.Core.List.{List, [], ◌++◌}
use Prim.Native.Nat.{ℕ, suc, ◌+◌, ◌-◌, ◌^◌, ◌≤◌, ◌<◌, min}
use mir.Syntax.{w64}
use mir.Val.{Fits}
use native.Mathlib.Nat.{sub-zero}
use native.Mathlib.Omega.{arith}
use lib.ListN.{length, get_or}
use Rattle.table_layout.specs.Bounds.{most_values}
use Rattle.table_record.specs.declared.SectionRecord.{SectionRecord}
use Rattle.table_record.specs.declared.MatrixRecord.{MatrixRecord}
use Rattle.table_record.specs.declared.Value.{Value}
use Rattle.table_record.specs.Records.{no_section, no_matrix, no_value}
use Rattle.out_text.specs.Written.{Written}
use Rattle.out_text.proofs.WrittenLaws.{written_is, Rest, rest_starts, rest_on, rest_done}
use Rattle.out_listing.specs.Shown.{shown, kind_in, owner_of, values_in}
use Rattle.out_listing.specs.Listing.{listed_from, listed_value, matrix_text}
use Rattle.out_listing.proofs.ShownLaws.{values_few}

lines_cons : (line : ℕ → List ℕ) (end i : ℕ) → i < end → listed_from line (end - i) i ≡ line i ++ listed_from line (end - (i + 1)) (i + 1)
unfolding listed_from
lines_cons line end i h =
    let e : end - i ≡ suc (end - (i + 1)) = omega arith in
    ap (λ (n : ℕ). listed_from line n i) e

lines_nil : (line : ℕ → List ℕ) (end i : ℕ) → end ≤ i → listed_from line (end - i) i ≡ []
unfolding listed_from
lines_nil line end i h =
    let e : end - i ≡ 0 = omega arith in
    ap (λ (n : ℕ). listed_from line n i) e

pub lines_start : (line : ℕ → List ℕ) (out : List ℕ) (at count next : ℕ) → next ≡ min at (length out) → Rest out at (listed_from line count 0) out next (listed_from line (count - 0) 0)
lines_start line out at count next e = rw (sub-zero count) (rest_starts out at (listed_from line count 0) next e)

module _ (line : ℕ → List ℕ) (out₀ : List ℕ) (at : ℕ) (whole out : List ℕ) (next end i : ℕ) (rest : Rest out₀ at whole out next (listed_from line (end - i) i)) where
  pub lines_on : i < end → (out' : List ℕ) (next' : ℕ) → Written out out' next next' (line i) →
      Rest out₀ at whole out' next' (listed_from line (end - (i + 1)) (i + 1))
  lines_on h out' next' w =
      let r : Rest out₀ at whole out next (line i ++ listed_from line (end - (i + 1)) (i + 1)) = rw (lines_cons line end i h) at rest in
      rest_on out₀ at whole out next (line i) (listed_from line (end - (i + 1)) (i + 1)) r out' next' w

  pub lines_done : end ≤ i → Written out₀ out at next whole
  lines_done h =
      let r : Rest out₀ at whole out next [] = rw (lines_nil line end i h) at rest in
      rest_done out₀ at whole out next r

-- ---- the values of a matrix

-- the index after the last value is one that a word holds, also if there is none inside the table
pub end_fits : (table : List ℕ) (m : MatrixRecord) (count : ℕ) → m.first < 2 ^ 64 → count ≡ values_in (shown table) m → Fits w64 (m.first + count)
unfolding values_in
end_fits table m count h e =
    let f : length (shown table).values ≤ most_values = values_few table in
    omega arith

-- the loop's invariant
abbrev pub ValuesLeft : (t table out₀ : List ℕ) (at matrix : ℕ) (out : List ℕ) (next : ℕ) (section : SectionRecord) (kind end i : ℕ) → Type 0
ValuesLeft t table out₀ at matrix out next section kind end i =
    Rest out₀ at (matrix_text t (shown table) matrix) out next (listed_from (λ (k : ℕ). listed_value t section kind (get_or (shown table).values k no_value)) (end - i) i)

pub values_start :
    (t table out : List ℕ) (at j next owner : ℕ) → next ≡ min at (length out) → owner ≡ owner_of (shown table) j → (section : SectionRecord) →
    section ≡ get_or (shown table).sections owner no_section → (kind : ℕ) → kind ≡ kind_in j section → (matrix : MatrixRecord) → matrix ≡ get_or (shown table).matrices j no_matrix →
    (count : ℕ) → count ≡ values_in (shown table) matrix → ValuesLeft t table out at j out next section kind (matrix.first + count) matrix.first
unfolding matrix_text
values_start t table out at j next owner e is_owner section is_section_lem kind is_kind matrix is_matrix_lem count is_count =
    let s : section ≡ get_or (shown table).sections (owner_of (shown table) j) no_section = is_section_lem ∙ ap (λ (k : ℕ). get_or (shown table).sections k no_section) is_owner in
    let k : kind ≡ kind_in j (get_or (shown table).sections (owner_of (shown table) j) no_section) = is_kind ∙ ap (kind_in j) s in
    let d : matrix.first + count - matrix.first ≡ count = omega arith in
    let l : matrix.first + count - matrix.first ≡ values_in (shown table) (get_or (shown table).matrices j no_matrix) = d ∙ is_count ∙ ap (values_in (shown table)) is_matrix_lem in
    let whole : listed_from (λ (i : ℕ). listed_value t section kind (get_or (shown table).values i no_value)) (matrix.first + count - matrix.first) matrix.first ≡ matrix_text t (shown table) j =
    λ n. listed_from (λ (i : ℕ). listed_value t (s n) (k n) (get_or (shown table).values i no_value)) (l n) (is_matrix_lem n).first in
    rw whole (rest_starts out at (matrix_text t (shown table) j) next e)

module _ (t table out₀ : List ℕ) (at matrix : ℕ) (out : List ℕ) (next : ℕ) (section : SectionRecord) (kind end i : ℕ)
    (left : ValuesLeft t table out₀ at matrix out next section kind end i) where
  abbrev line : ℕ → List ℕ
  line k = listed_value t section kind (get_or (shown table).values k no_value)

  pub values_done : end ≤ i → Written out₀ out at next (matrix_text t (shown table) matrix)
  values_done h = lines_done line out₀ at (matrix_text t (shown table) matrix) out next end i left h

  pub values_on : i < end → (v : Value) → v ≡ get_or (shown table).values i no_value → (out' : List ℕ) (next' : ℕ) → Written out out' next next' (listed_value t section kind v) →
      ValuesLeft t table out₀ at matrix out' next' section kind end (i + 1)
  values_on h v here out' next' w =
      lines_on line out₀ at (matrix_text t (shown table) matrix) out next end i left h out' next' (written_is (ap (listed_value t section kind) here) w)
