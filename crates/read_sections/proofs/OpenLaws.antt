-- Laws of the open section as the code tells it: the section that a line opens, the matrix that it knows, and the records
-- that are staged.
-- Assumes nothing.
use Rattle.std.proofs.Common.{None, Option, Some, unwrap_or}
use Rattle.std.specs.Option.{option_or}
use mathlib.Core.Path.{◌≡◌, sym, ◌∙◌, ap}
use mathlib.Core.List.{List}
use Prim.Native.Nat.{ℕ, ◌+◌, ◌-◌, ◌*◌, ◌≤◌}
use mir.Syntax.{w64}
use mir.Val.{Fits}
use native.Mathlib.Omega.{arith}
use lib.ListN.{length, get_or, replicate}
use lib.Dec.{eqb}
use borrow.Author.Tests.{eq-eqb, ne_eqb}
use Rattle.base.specs.If.{provided◌then◌else◌}
use Rattle.base.proofs.IfLaws.{if_true, if_false, both_true, both_not_left, both_not_right, not_via, not_not_via}
use Rattle.lex_keyword.specs.Bracket.{bracket_of}
use Rattle.lex_keyword.specs.declared.Bracket.{Bracket}
use Rattle.line_place.specs.Place as place
use Rattle.line_keyword.specs.Way.Bounded.{most_lines}
use Rattle.line_keyword.specs.declared.State.{State}
use Rattle.table_layout.specs.Codes.{diagonal, resistance_kind, inductance_kind, conductance_kind, capacitance_kind, matrix_kinds}
use Rattle.table_layout.specs.Layout.{section_width, matrix_width}
use Rattle.table_record.specs.Records.{section_words, matrix_words}
use Rattle.table_record.specs.Way.Stage.{put_at}
use Rattle.read_line.specs.Reading.{argument_from}
use Rattle.doc.specs.Lines.{key_in, key_at, argument_in}
use Rattle.doc.specs.Document.{kind_of}
use Rattle.doc.proofs.ExtentLaws.{argument_in_line}
use Rattle.read_sections.specs.declared.OpenSection.{OpenSection}
use Rattle.read_sections.specs.Way.Open.{kinds_with, beginning, with_kind, open_after, sections_after, matrix_closed, section_with}

-- ---- the section that is open after a line

module _ (at : ℕ) (content : List ℕ) (bracket : Bracket) (is_bracket : bracket ≡ bracket_of content) where
  module _ (start : ℕ) (is_start : start ≡ argument_in bracket) where
    pub beginning_fits : at + length content ≤ most_lines → Fits w64 (at + start)
    beginning_fits few =
        let a : argument_in bracket ≤ length content = argument_in_line content bracket (sym is_bracket) in
        omega arith

    pub beginning_told : (name : List ℕ) → name ≡ argument_from content start →
        record { start = at + start; size = length name; conductors = None; kinds = replicate matrix_kinds 0; kind = 0 } ≡ beginning at content
    beginning_told name is_name =
        let e : start ≡ argument_in (bracket_of content) = is_start ∙ ap argument_in is_bracket in
        let n : length name ≡ length (argument_from content (argument_in (bracket_of content))) = ap length (is_name ∙ ap (argument_from content) e) in
        λ i. record { start = at + e i; size = n i; conductors = None; kinds = replicate matrix_kinds 0; kind = 0 }

  module _ (before after : ℕ) (o : OpenSection) where
    pub after_matrix : after ≡ place.matrix → (key : ℕ) → key ≡ key_in bracket → (kind : ℕ) → kind ≡ kind_of key →
        record { start = o.start; size = o.size; conductors = o.conductors; kinds = o.kinds; kind = kind } ≡ open_after at content before after o
    unfolding open_after key_at
    after_matrix e key is_key kind is_kind =
        ap (λ (x : ℕ). with_kind x o) (is_kind ∙ ap kind_of (is_key ∙ ap key_in is_bracket)) ∙ sym (if_true _ _ (eq-eqb _ _ e))

    module _ (away : after ≡ place.matrix → ⊥) where
      pub after_other : (after ≡ place.section_head → ⊥) → o ≡ open_after at content before after o
      unfolding open_after
      after_other h = sym (if_false _ _ (ne_eqb _ _ away) ∙ if_false _ _ (ne_eqb _ _ h))

      module _ (h : after ≡ place.section_head) where
        pub after_same : before ≡ place.section_head → o ≡ open_after at content before after o
        unfolding open_after
        after_same e = sym (if_false _ _ (ne_eqb _ _ away) ∙ if_true _ _ (eq-eqb _ _ h) ∙ if_true _ _ (eq-eqb _ _ e))

        pub after_begun : (before ≡ place.section_head → ⊥) → (r : OpenSection) → r ≡ beginning at content → r ≡ open_after at content before after o
        unfolding open_after
        after_begun e r is = is ∙ sym (if_false _ _ (ne_eqb _ _ away) ∙ if_true _ _ (eq-eqb _ _ h) ∙ if_false _ _ (ne_eqb _ _ e))

-- ---- a section that closes

module _ (o : OpenSection) (s : State) (before after : ℕ) (sections : List ℕ) where
  pub sections_apart : (after ≡ place.after → ⊥) → sections ≡ sections_after o s before after sections
  unfolding sections_after
  sections_apart h = sym (if_false _ _ (both_not_left _ _ (ne_eqb _ _ h)))

  module _ (h : after ≡ place.after) where
    pub sections_kept : before ≡ place.after → sections ≡ sections_after o s before after sections
    unfolding sections_after
    sections_kept e = sym (if_false _ _ (both_not_right _ _ (not_not_via (eq-eqb _ _ e))))

    pub sections_closed :
        (before ≡ place.after → ⊥) → (conductors : ℕ) → conductors ≡ unwrap_or o.conductors 0 → (index : ℕ) → index ≡ s.counts.sections - 1 → (sections' : List ℕ) →
        sections'
        ≡ put_at (section_width * index)
        (section_words
        (record {
          start = o.start;
          size = o.size;
          method = s.section.method;
          conductors = conductors;
          resistance = get_or o.kinds resistance_kind 0;
          inductance = get_or o.kinds inductance_kind 0;
          conductance = get_or o.kinds conductance_kind 0;
          capacitance = get_or o.kinds capacitance_kind 0;
        })) sections →
        sections' ≡ sections_after o s before after sections
    unfolding sections_after
    sections_closed e conductors is_conductors index is_index sections' stored =
        stored
        ∙ (λ i.
        put_at (section_width * is_index i)
        (section_words
        (record {
          start = o.start;
          size = o.size;
          method = s.section.method;
          conductors = is_conductors i;
          resistance = get_or o.kinds resistance_kind 0;
          inductance = get_or o.kinds inductance_kind 0;
          conductance = get_or o.kinds conductance_kind 0;
          capacitance = get_or o.kinds capacitance_kind 0;
        })) sections)
        ∙ sym (if_true _ _ (both_true _ _ (eq-eqb _ _ h) (not_via (ne_eqb _ _ e))))

-- ---- a matrix that closes

pub section_told :
    (conductors index : ℕ) (o : OpenSection) (c : Option ℕ) → c ≡ option_or o.conductors (Some conductors) → (kinds : List ℕ) → kinds ≡ kinds_with o.kinds o.kind index →
    record { start = o.start; size = o.size; conductors = c; kinds = kinds; kind = o.kind } ≡ section_with conductors index o
unfolding section_with
section_told conductors index o c is_c kinds are = λ i. record { start = o.start; size = o.size; conductors = is_c i; kinds = are i; kind = o.kind }

pub matrix_stored :
    (form first values line matrices bandwidth : ℕ) (stage stage' : List ℕ) (count b before index : ℕ) → count ≡ values - first → b ≡ bandwidth → before ≡ line - 1 → index ≡ matrices - 1 →
    stage' ≡ put_at (matrix_width * index) (matrix_words (record { form = form; bandwidth = b; first = first; values = count; line = before })) stage →
    stage' ≡ put_at (matrix_width * (matrices - 1)) (matrix_words (matrix_closed form bandwidth first values line)) stage
unfolding matrix_closed
matrix_stored form first values line matrices bandwidth stage stage' count b before index is_count is_b is_before_lem is_index stored =
    stored
    ∙ (λ i. put_at (matrix_width * is_index i) (matrix_words (record { form = form; bandwidth = is_b i; first = first; values = is_count i; line = is_before_lem i })) stage)

pub matrix_known :
    (form count values first greatest conductors index : ℕ) (o r : OpenSection) → count ≡ values - first → conductors ≡ (provided eqb form diagonal then count else greatest) →
    r ≡ section_with conductors index o → r ≡ section_with (provided eqb form diagonal then values - first else greatest) index o
matrix_known form count values first greatest conductors index o r is_count is_conductors is =
    is ∙ ap (λ (x : ℕ). section_with x index o) (is_conductors ∙ ap (λ (x : ℕ). provided eqb form diagonal then x else greatest) is_count)
