-- Laws of names in the table of a document: the first record of a name is that of the first map, or section, of the
-- name, and the records are in the table where their part begins.
-- Assumes nothing.
use mathlib.Core.Path.{◌≡◌, refl, ◌∙◌, ap}
use mathlib.Core.List.{List, [], ◌∷◌, map}
use Prim.Native.Nat.{ℕ, suc, ◌+◌}
use native.Mathlib.Omega.{arith}
use lib.ListN.{length, get_or}
use lib.Dec.{leb, ltb}
use borrow.Author.Tests.{le-leb}
use Rattle.table_record.specs.Records.{map_words, section_words, Records, parts_of}
use Rattle.base.specs.If.{provided◌then◌else◌, both}
use Rattle.base.specs.Runs.{same}
use Rattle.base.proofs.IfLaws.{both_rest}
use Rattle.lex_line.specs.Words.{Word}
use Rattle.table_layout.specs.Layout.{widths}
use Rattle.table_layout.specs.Way.Bases.{bases_from}
use Rattle.doc.specs.Document.{Step, Map, Section}
use Rattle.doc.specs.Records.{index_of, is_map_of, is_section_of, map_record, map_records, section_record, section_records}
use Rattle.doc.specs.Holds.{Each}
use Rattle.doc.specs.Way.Holds.{Stands}
use Rattle.doc.specs.Holds.Each.{none, more}
use Rattle.table_name.specs.Name.{name_at}
use Rattle.table_name.specs.Way.Search.{has_name, is_named}

-- ---- records by their names

-- a map whose name is in the text, at offset `after` or later exactly if the map's line is below the step's
pub record Ordered (t : List ℕ) (s : Step) (after : ℕ) (m : Map) : Type 0 where
  pub stands : Stands t m.name
  pub behind : leb after m.name.start ≡ ltb s.line m.line

module _ (t : List ℕ) (s : Step) where
  same_stands : (w : Word) → Stands t w → same s.name.text (name_at t w.start (length w.text)) ≡ same s.name.text w.text
  unfolding name_at
  same_stands w h = ap (same s.name.text) h.bytes

  map_named : (after first : ℕ) (m : Map) → Ordered t s after m →
      is_named t s.name.text after (map_words (map_record first m)) ≡ is_map_of s m
  unfolding has_name is_map_of map_record
  map_named after first m h = λ i. both (h.behind i) (same_stands m.name h.stands i)

  section_named : (first : ℕ) (x : Section) → Stands t x.name →
      is_named t s.name.text 0 (section_words (section_record first x)) ≡ is_section_of s x
  unfolding has_name is_section_of section_record
  section_named first x h = both_rest _ _ (le-leb 0 x.name.start (omega arith)) ∙ same_stands x.name h

  -- the first record of a map of the step's name, at offset `after` or later, is that of the step's map
  pub find_map : (after first : ℕ) (ms : List Map) → Each (Ordered t s after) ms →
      index_of (is_named t s.name.text after) (map map_words (map_records first ms)) ≡ index_of (is_map_of s) ms
  unfolding index_of map_records
  find_map after first [] none = refl
  find_map after first (m ∷ ms) (more h hs) =
      λ i. provided map_named after first m h i then 0 else suc (find_map after (first + length m.pins) ms hs i)

  pub find_section : (first : ℕ) (xs : List Section) → Each (λ (x : Section). Stands t x.name) xs →
      index_of (is_named t s.name.text 0) (map section_words (section_records first xs)) ≡ index_of (is_section_of s) xs
  unfolding index_of section_records
  find_section first [] none = refl
  find_section first (x ∷ xs) (more h hs) =
      λ i. provided section_named first x h i then 0 else suc (find_section (first + length x.matrices) xs hs i)

-- ---- records in a table

-- where the records of a part begin
abbrev pub base_of : Records → ℕ → ℕ
base_of r p = get_or (bases_from 0 widths (map length (parts_of r))) p 0
