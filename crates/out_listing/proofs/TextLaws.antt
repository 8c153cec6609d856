-- Laws of the lines of a listing: the fields, written one after the other, make the line.
-- Assumes nothing.
use mathlib.Core.Path.{◌≡◌, sym, ◌∙◌, ap}
use mathlib.Core.Bool.{Bool}
use mathlib.Core.List.{List, [], ◌∷◌, ◌++◌}
use Prim.Native.Nat.{ℕ}
use lib.ListN.{length, get_or}
use borrow.Author.Tests.{eq-eqb, ne_eqb}
use Rattle.base.specs.If.{provided◌then◌else◌}
use Rattle.base.specs.Bytes.{bytes, space, line_feed}
use Rattle.base.proofs.IfLaws.{if_true, if_false, Yes, No}
use Rattle.table_layout.specs.Layout.{models, steps, maps, sections}
use Rattle.table_record.specs.declared.ModelRecord.{ModelRecord}
use Rattle.table_record.specs.declared.MapRecord.{MapRecord}
use Rattle.table_record.specs.declared.SectionRecord.{SectionRecord}
use Rattle.table_record.specs.declared.StepRecord.{StepRecord}
use Rattle.table_record.specs.Records.{Records, no_model, no_step, no_map, no_section}
use Rattle.table_name.specs.Name.{name_at}
use Rattle.out_text.specs.Printing.{line_of, decimal}
use Rattle.out_text.specs.Written.{Written}
use Rattle.out_text.proofs.WrittenLaws.{written_is, written_more}
use Rattle.out_text.proofs.LineLaws.{line_three, line_four}
use Rattle.out_listing.specs.Shown.{shown}
use Rattle.out_listing.specs.Listing.{listed_from, listed_model, listed_end, listed_section_step, listed_step, listed_map, listed_section, amount_text, listed_record, part_text, matrix_text, values_text, all_parts_text, listing}

-- ---- what is chosen by a test

module _ (a b : List ℕ) (at next : ℕ) (test : Bool) (x y : List ℕ) where
  pub line_yes : Yes test → Written a b at next x → Written a b at next (provided test then x else y)
  line_yes h w = written_is (sym (if_true x y h.holds)) w

  pub line_no : No test → Written a b at next y → Written a b at next (provided test then x else y)
  line_no h w = written_is (sym (if_false x y h.fails)) w

  pub text_yes : (after : ℕ) → Yes test → Written a b at next (x ++ (after ∷ [])) → Written a b at next ((provided test then x else y) ++ (after ∷ []))
  text_yes after h w = written_is (ap (λ (l : List ℕ). l ++ (after ∷ [])) (sym (if_true x y h.holds))) w

  pub text_no : (after : ℕ) → No test → Written a b at next (y ++ (after ∷ [])) → Written a b at next ((provided test then x else y) ++ (after ∷ []))
  text_no after h w = written_is (ap (λ (l : List ℕ). l ++ (after ∷ [])) (sym (if_false x y h.fails))) w

-- a field whose bytes are known to be a text
pub field_told : {a b : List ℕ} {at next : ℕ} (after : ℕ) {field text : List ℕ} → field ≡ text → Written a b at next (field ++ (after ∷ [])) → Written a b at next (text ++ (after ∷ []))
field_told after told w = written_is (ap (λ (l : List ℕ). l ++ (after ∷ [])) told) w

-- ---- lines

module _ (t : List ℕ) (r : Records) (s : StepRecord) (a b c d : List ℕ) (at m n o : ℕ) where
  module _ (map : MapRecord) (is_map_lem : map ≡ get_or r.maps s.target no_map)
      (first : Written a b at m (bytes "end" ++ (space ∷ []))) (second : Written b c m n (decimal s.line ++ (space ∷ []))) where
    pub end_written : s.side_size ≡ 0 → Written c d n o (name_at t map.start map.size ++ (line_feed ∷ [])) → Written a d at o (listed_end t r s)
    unfolding listed_end
    end_written e third =
        written_is (sym (if_true _ _ (eq-eqb s.side_size 0 e)))
        (line_three a b c d at m n o (bytes "end") _ _ first second (written_is (ap (λ (x : MapRecord). name_at t x.start x.size ++ (line_feed ∷ [])) is_map_lem) third))

    pub end_with_side : (s.side_size ≡ 0 → ⊥) → Written c d n o (name_at t map.start map.size ++ (space ∷ [])) → (e : List ℕ) (p : ℕ) →
        Written d e o p (name_at t s.side s.side_size ++ (line_feed ∷ [])) → Written a e at p (listed_end t r s)
    unfolding listed_end
    end_with_side f third e p fourth =
        written_is (sym (if_false _ _ (ne_eqb s.side_size 0 f)))
        (line_four a b c d e at m n o p (bytes "end") _ _ _ first second
        (written_is (ap (λ (x : MapRecord). name_at t x.start x.size ++ (space ∷ [])) is_map_lem) third) fourth)

  pub section_step_written : (section : SectionRecord) → section ≡ get_or r.sections s.target no_section → Written a b at m (bytes "section" ++ (space ∷ [])) →
      Written b c m n (decimal s.line ++ (space ∷ [])) → Written c d n o (name_at t section.start section.size ++ (space ∷ [])) →
      (e : List ℕ) (p : ℕ) → Written d e o p (amount_text section.method s.amount ++ (line_feed ∷ [])) → Written a e at p (listed_section_step t r s)
  unfolding listed_section_step
  section_step_written section told first second third e p fourth =
      line_four a b c d e at m n o p (bytes "section") _ _ _ first second
      (written_is (ap (λ (x : SectionRecord). name_at t x.start x.size ++ (space ∷ [])) told) third)
      (written_is (ap (λ (x : SectionRecord). amount_text x.method s.amount ++ (line_feed ∷ [])) told) fourth)

-- ---- the line of a record of any part

module _ (t : List ℕ) (r : Records) (part i : ℕ) (a b : List ℕ) (at next : ℕ) where
  pub model_listed : part ≡ models → (m : ModelRecord) → m ≡ get_or r.models i no_model → Written a b at next (listed_model t m) → Written a b at next (listed_record t r part i)
  unfolding listed_record
  model_listed e m here w = written_is (ap (listed_model t) here ∙ sym (if_true _ _ (eq-eqb part models e))) w

  module _ (x : part ≡ models → ⊥) where
    pub step_listed : part ≡ steps → (s : StepRecord) → s ≡ get_or r.steps i no_step → Written a b at next (listed_step t r s) → Written a b at next (listed_record t r part i)
    unfolding listed_record
    step_listed e s here w = written_is (ap (listed_step t r) here ∙ sym (if_false _ _ (ne_eqb part models x) ∙ if_true _ _ (eq-eqb part steps e))) w

    module _ (y : part ≡ steps → ⊥) where
      pub map_listed : part ≡ maps → (m : MapRecord) → m ≡ get_or r.maps i no_map → Written a b at next (listed_map t m) → Written a b at next (listed_record t r part i)
      unfolding listed_record
      map_listed e m here w =
          written_is (ap (listed_map t) here ∙ sym (if_false _ _ (ne_eqb part models x) ∙ if_false _ _ (ne_eqb part steps y) ∙ if_true _ _ (eq-eqb part maps e))) w

      pub section_listed : (part ≡ maps → ⊥) → (s : SectionRecord) → s ≡ get_or r.sections i no_section → Written a b at next (listed_section t s) → Written a b at next (listed_record t r part i)
      unfolding listed_record
      section_listed z s here w =
          written_is (ap (listed_section t) here ∙ sym (if_false _ _ (ne_eqb part models x) ∙ if_false _ _ (ne_eqb part steps y) ∙ if_false _ _ (ne_eqb part maps z))) w

-- ---- parts

module _ (t : List ℕ) (r : Records) (a b c : List ℕ) (at m n count : ℕ) where
  pub part_written : (name : List ℕ) (part : ℕ) → Written a b at m (line_of (name ∷ decimal count ∷ [])) →
      Written b c m n (listed_from (listed_record t r part) count 0) → Written a c at n (part_text t r name part count)
  unfolding part_text
  part_written name part head lines = written_more a b at m _ head c n _ lines

  pub values_written : (matrices : ℕ) → Written a b at m (line_of (bytes "values" ∷ decimal count ∷ [])) →
      Written b c m n (listed_from (matrix_text t r) matrices 0) → count ≡ length r.values → matrices ≡ length r.matrices →
      Written a c at n (values_text t r)
  unfolding values_text
  values_written matrices head lines told f =
      written_is (λ k. line_of (bytes "values" ∷ decimal (told k) ∷ []) ++ listed_from (matrix_text t r) (f k) 0)
      (written_more a b at m _ head c n _ lines)

module _ (t : List ℕ) (r : Records) (a b c d : List ℕ) (at m n o : ℕ) where
  pub parts_written : (x y z w : ℕ) → Written a b at m (part_text t r (bytes "models") models x) → Written b c m n (part_text t r (bytes "steps") steps y) →
      Written c d n o (part_text t r (bytes "maps") maps z) → (e : List ℕ) (p : ℕ) → Written d e o p (part_text t r (bytes "sections") sections w) →
      x ≡ length r.models → y ≡ length r.steps → z ≡ length r.maps → w ≡ length r.sections → Written a e at p (all_parts_text t r)
  unfolding all_parts_text
  parts_written x y z w first second third e p fourth is_x is_y is_z is_w =
      written_is
      (λ k.
      part_text t r (bytes "models") models (is_x k)
      ++ (part_text t r (bytes "steps") steps (is_y k) ++ (part_text t r (bytes "maps") maps (is_z k) ++ part_text t r (bytes "sections") sections (is_w k))))
      (written_more a b at m _ first e p _ (written_more b c m n _ second e p _ (written_more c d n o _ third e p _ fourth)))

pub listing_written : (t table : List ℕ) (a b c d : List ℕ) (at m n o words : ℕ) → Written a b at m (line_of (bytes "accepted" ∷ decimal words ∷ [])) →
    Written b c m n (all_parts_text t (shown table)) → Written c d n o (values_text t (shown table)) → Written a d at o (listing t table words)
unfolding listing
listing_written t table a b c d at m n o words head parts values = written_more a b at m _ head d o _ (written_more b c m n _ parts d o _ values)
