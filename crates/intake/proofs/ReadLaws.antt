-- The reading of a whole text, put together from the family and what comes behind it.
-- Assumes nothing.
use mathlib.Core.Path.{◌≡◌, sym, ◌∙◌}
use mathlib.Core.Bool.{true, false}
use mathlib.Core.List.{List}
use Prim.Native.Nat.{ℕ, ◌≤◌, ◌<◌}
use native.Mathlib.Omega.{arith}
use lib.ListN.{length, drop}
use lib.Dec.{ltb}
use borrow.Author.Tests.{eq-eqb, ne_eqb, ltb-true, ltb-false}
use Rattle.base.proofs.IfLaws.{if_true, if_false, by_cases}
use Rattle.lex_line.specs.Lines.{contents}
use Rattle.lex_line.proofs.LineLaws.{contents_none}
use Rattle.line_place.specs.Place as place
use Rattle.line_keyword.specs.Way.Bounded.{NoneYet}
use Rattle.line_keyword.specs.declared.Counts.{Counts}
use Rattle.read_line.specs.Reading.{read_from, at_end, reading_of}
use Rattle.read_line.specs.Way.Walk.{resume}
use Rattle.read_line.specs.declared.Walk.{Walk}
use Rattle.read_line.specs.declared.Reading.{Reading}
use Rattle.read_line.specs.declared.Reading.TheVariants.{Read, Refused}
use Rattle.read_line.proofs.ResultLaws.{end_done}
use Rattle.doc.specs.Lines.{lines_at, gather}
use Rattle.doc.specs.Document.{section_at, document_of}
use Rattle.doc.specs.Way.Staged.{ListsFrom, StagedText}
use Rattle.doc.specs.declared.Cursor.{Cursor}
use Rattle.read_family.specs.Way.Family.{FamilyStaged, FamilyRead}
use Rattle.read_sections.specs.Way.Sections.{SectionsStaged}

-- ---- behind the family

module _ (t : List ℕ) (w : Walk) (whole : w.rule ≡ 0) (same : resume t w ≡ reading_of t) where
  from_walk : read_from w.line (contents (drop w.at t)) w.state ≡ reading_of t
  unfolding resume
  from_walk = sym (if_true _ _ (eq-eqb _ _ whole)) ∙ same

  pub rest_read : (r : Reading) → r ≡ read_from w.line (contents (drop w.at t)) w.state → r ≡ reading_of t
  rest_read r e = e ∙ from_walk

  -- the text ends within the family
  module _ (away : w.state.place ≡ place.after → ⊥) (r : Reading) (is : r ≡ at_end w.state) where
    at_the_end : length t ≤ w.at → read_from w.line (contents (drop w.at t)) w.state ≡ at_end w.state
    unfolding read_from
    at_the_end h = rw (contents_none t w.at h)

    pub rest_ends : (w.at < length t → w.state.place ≡ place.after) → r ≡ reading_of t
    rest_ends there =
        by_cases _ (ltb w.at (length t))
        (λ (e : ltb w.at (length t) ≡ true). absurd (away (there (ltb-true _ _ e))))
        (λ (e : ltb w.at (length t) ≡ false). is ∙ sym (at_the_end (ltb-false _ _ e)) ∙ from_walk)

    pub rest_broken : w.state.place ≤ place.after → (c : Counts) → r ≡ Read c → ⊥
    rest_broken early c e =
        let d : w.state.place ≡ place.done = (end_done w.state c (sym is ∙ e)).0 in
        omega arith

-- ---- the whole text

module _ (t : List ℕ) (w : Walk) (c : Cursor) (models steps maps pins : List ℕ) (family : FamilyRead t w c models steps maps pins) where
  -- a line of the family breaks a rule
  module _ (broken : w.rule ≡ 0 → ⊥) where
    pub family_broken : Refused w.rule w.line ≡ reading_of t
    unfolding resume
    family_broken = sym (if_false _ _ (ne_eqb _ _ broken)) ∙ family.same

  module _ (whole : w.rule ≡ 0) where
    pub family_none : w.state.place ≡ place.after → NoneYet w.state.counts
    family_none there = (family.staged whole there).none_yet

    pub all_staged :
        (table sections matrices : List ℕ) → (w.state.place ≡ place.after) × SectionsStaged t w.line w.at table sections matrices →
        ListsFrom t c × StagedText t table models steps maps pins sections matrices
    all_staged table sections matrices (there, rest) =
        let own : FamilyStaged t w.line w.at w.state models steps maps pins = family.staged whole there in
        let is : gather section_at (lines_at t w.line w.at place.after) ≡ (document_of t).sections = own.sections in (
          family.lists whole,
          record {
            models_are = own.models;
            steps_are = own.steps;
            maps_are = own.maps;
            pins_are = own.pins;
            sections_are = rw is at rest.sections;
            matrices_are = rw is at rest.matrices;
            values_are = rw is at rest.values;
          },
        )
