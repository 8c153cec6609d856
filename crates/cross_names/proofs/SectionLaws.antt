-- By its record in the table a section breaks the same rules as by the document.
-- Assumes nothing.
use mathlib.Core.Path.{◌≡◌, refl, sym, ◌∙◌, ap}
use mathlib.Core.Bool.{Bool, true, false, not}
use mathlib.Core.List.{List, [], ◌∷◌, ◌++◌, map, append_assoc, append-nil}
use Prim.Native.Nat.{ℕ, suc, ◌+◌, ◌≤◌, ◌<◌}
use native.Mathlib.Omega.{arith}
use mir.Syntax.{w64}
use mir.Val.{Fits}
use lib.ListN.{length, get_or, length-append}
use lib.Dec.{eqb}
use Rattle.cross_rules.specs.Way.Findings.{section_rule, section_findings}
use Rattle.base.specs.If.{both, either}
use Rattle.base.specs.Broken.{◌when◌, first_broken}
use Rattle.base.specs.Refusal as refusal
use Rattle.table_layout.specs.Codes.{section_kind}
use Rattle.table_layout.specs.Layout.{sections, section_width}
use Rattle.std.specs.Prelude.{Some}
use Rattle.table_layout.specs.View.{view_of}
use Rattle.table_layout.specs.declared.View.{View}
use Rattle.table_record.specs.Records.{Records, records_of}
use Rattle.table_record.specs.Way.Standing.{base_of, count_of}
use Rattle.table_record.specs.declared.StepRecord.{StepRecord}
use Rattle.doc.specs.Lines.{significant}
use Rattle.doc.specs.Document.{Step, Model, Section, Document, document_of}
use Rattle.doc.specs.Records.{target_of, step_record, step_records, flatten}
use Rattle.cross_rules.specs.Rules.{any, is_twice, section_name, uses, is_used, no_finding}
use Rattle.cross_rules.specs.Way.First.{first_in}
use Rattle.cross_rules.specs.Way.HoldsText.{HoldsText}
use Rattle.cross_rules.specs.Way.Nth.{nth_line}
use Rattle.cross_rules.specs.Way.Repeated.{is_repeated}
use Rattle.cross_rules.specs.declared.Finding.{Finding}
use Rattle.cross_rules.proofs.TableLaws.{text_records, text_rooms, many_sections}
use Rattle.cross_rules.proofs.OrderLaws.{in_order}
use Rattle.cross_rules.proofs.TwiceLaws.{section_twice}
use Rattle.cross_rules.proofs.KindLaws.{first_here, first_later}
use Rattle.cross_rules.proofs.NthLaws.{section_line_lem}
use Rattle.cross_rules.proofs.NamesLaws.{mapped_here, section_repeated}
use Rattle.cross_names.specs.Way.Used.{points_at, used_in, Flags, rule_of}

-- ---- which sections are used

either_assoc : (a b c : Bool) → either a (either b c) ≡ either (either a b) c
unfolding either
either_assoc true b c = refl
either_assoc false b c = refl

any_append : {A : Type 0} (test : A → Bool) (xs ys : List A) → any test (xs ++ ys) ≡ either (any test xs) (any test ys)
unfolding any either
any_append test [] ys = refl
any_append test (x ∷ xs) ys = ap (either (test x)) (any_append test xs ys) ∙ either_assoc (test x) (any test xs) (any test ys)

module _ (d : Document) (i : ℕ) where
  step_uses : (ss : List Step) → used_in i (map (step_record d.maps d.sections) ss) ≡ any (uses d i) ss
  unfolding used_in any points_at step_record uses
  step_uses [] = refl
  step_uses (s ∷ ss) = ap (either (both (eqb s.kind section_kind) (eqb (target_of d.maps d.sections s) i))) (step_uses ss)

  none_used : used_in i [] ≡ false
  unfolding used_in any
  none_used = refl

  used_append : (xs ys : List StepRecord) → used_in i (xs ++ ys) ≡ either (used_in i xs) (used_in i ys)
  unfolding used_in
  used_append xs ys = any_append (points_at i) xs ys

  models_use : (ms : List Model) → used_in i (step_records d.maps d.sections ms) ≡ any (λ (m : Model). any (uses d i) m.steps) ms
  unfolding step_records any
  models_use [] = none_used
  models_use (m ∷ ms) = used_append _ _ ∙ (λ k. either (step_uses m.steps k) (models_use ms k))

  pub used_told : used_in i (step_records d.maps d.sections d.models) ≡ is_used d i
  unfolding is_used
  used_told = models_use d.models

-- ---- one section after another

-- the loop's invariant: the sections that are left give the first finding of all sections
pub record SectionsLeft (t : List ℕ) (i : ℕ) : Type 0 where
  pub above : List Section
  pub below : List Section
  pub all : (document_of t).sections ≡ above ++ below
  pub many_above : length above ≡ i
  pub same : first_in (section_findings (document_of t) i below) ≡ first_in (section_findings (document_of t) 0 (document_of t).sections)

pub sections_start : (t : List ℕ) → SectionsLeft t 0
sections_start t = record { above = []; below = (document_of t).sections; all = refl; many_above = refl; same = refl }

no_findings : (d : Document) (i : ℕ) → first_in (section_findings d i []) ≡ no_finding
unfolding section_findings first_in
no_findings d i = refl

finding_on : (d : Document) (i : ℕ) (x : Section) (xs : List Section) → section_findings d i (x ∷ xs) ≡ record { rule = section_rule d i x; line = x.line } ∷ section_findings d (i + 1) xs
unfolding section_findings
finding_on d i x xs = refl

module _ (t table : List ℕ) (filled : HoldsText t table) (v : View) (is_view : Some v ≡ view_of table) where
  abbrev d : Document
  d = document_of t

  abbrev whole : Finding
  whole = first_in (section_findings d 0 d.sections)

  pub index_fits : (i : ℕ) → i < count_of v sections → Fits w64 (i + 1)
  index_fits i h = omega (arith, (text_rooms t table filled v is_view).few_sections)

  many : count_of v sections ≡ length d.sections
  many = many_sections t table filled v is_view

  module _ (used : List Bool) (flags : Flags used (records_of table).steps) where
    -- the rule that the code gives for section i
    abbrev rule_at : ℕ → ℕ
    rule_at i = rule_of (is_repeated t table (base_of v sections) section_width i) (get_or used i false)

    -- a section, with those before it and after it
    module _ (above below : List Section) (x : Section) (e : d.sections ≡ above ++ (x ∷ below)) where
      here : length above < count_of v sections
      here =
          let n : length d.sections ≡ length above + suc (length below) = ap length e ∙ length-append above (x ∷ below) in
          omega (arith, many)

      twice_here : is_repeated t table (base_of v sections) section_width (length above) ≡ is_twice (map section_name d.sections) (section_name x)
      twice_here = section_repeated t table filled v is_view above below x e ∙ sym (section_twice d (in_order t) above below x e)

      used_here : get_or used (length above) false ≡ is_used d (length above)
      unfolding flatten
      used_here =
          flags.told (length above) (omega (arith, (text_rooms t table filled v is_view).few_sections, here))
          ∙ ap (λ (r : Records). used_in (length above) r.steps) (text_records t table filled)
          ∙ used_told d (length above)

      rule_here : rule_at (length above) ≡ section_rule d (length above) x
      unfolding rule_of section_rule
      rule_here = λ i. first_broken (refusal.twice when twice_here i ∷ refusal.unused when not (used_here i) ∷ [])

    none_behind : (above below : List Section) → d.sections ≡ above ++ below → count_of v sections ≤ length above → below ≡ []
    none_behind above [] e h = refl
    none_behind above (x ∷ below) e h = absurd (omega (arith, here above below x e))

    done_with : (i : ℕ) (above below : List Section) → d.sections ≡ above ++ below → length above ≡ i → first_in (section_findings d i below) ≡ whole → count_of v sections ≤ i →
        record { rule = 0; line = 0 } ≡ whole
    unfolding no_finding
    done_with i above below e n s h =
        let z : below ≡ [] = none_behind above below e (rw n h) in
        sym (no_findings d i) ∙ ap (λ (xs : List Section). first_in (section_findings d i xs)) (sym z) ∙ s

    -- no section is left, and one is
    too_far : (i : ℕ) (above : List Section) → d.sections ≡ above ++ [] → length above ≡ i → i < count_of v sections → ⊥
    too_far i above e n h =
        let k : length d.sections ≡ length above = ap length e ∙ ap length (append-nil above) in
        omega (arith, many)

    found_with_lem : (i number : ℕ) (above below : List Section) → d.sections ≡ above ++ below → length above ≡ i → first_in (section_findings d i below) ≡ whole →
        i < count_of v sections → number ≡ rule_at i → (number ≡ 0 → ⊥) → (line : ℕ) → line ≡ nth_line sections i (significant t) → record { rule = number; line = line } ≡ whole
    found_with_lem i number above [] e n s h r z line l = absurd (too_far i above e n h)
    found_with_lem i number above (x ∷ below) e n s h r z line l =
        let a : number ≡ section_rule d i x = r ∙ rw n at (rule_here above below x e) in
        let b : line ≡ x.line =
        l ∙ section_line_lem t i ∙ ap (λ (xs : List Section). get_or (map (λ (y : Section). y.line) xs) i 0) e ∙ rw n at (mapped_here (λ (y : Section). y.line) above below x 0) in
        (λ k. record { rule = a k; line = b k })
        ∙ sym (first_here (record { rule = section_rule d i x; line = x.line }) (section_findings d (i + 1) below) (λ (q : section_rule d i x ≡ 0). z (a ∙ q)))
        ∙ ap first_in (sym (finding_on d i x below))
        ∙ s

    on_with : (i number : ℕ) (above below : List Section) → d.sections ≡ above ++ below → length above ≡ i → first_in (section_findings d i below) ≡ whole →
        i < count_of v sections → number ≡ rule_at i → number ≡ 0 → SectionsLeft t (i + 1)
    on_with i number above [] e n s h r z = absurd (too_far i above e n h)
    on_with i number above (x ∷ below) e n s h r z =
        let a : number ≡ section_rule d i x = r ∙ rw n at (rule_here above below x e) in
        record {
          above = above ++ (x ∷ []);
          below = below;
          all = e ∙ sym (append_assoc above (x ∷ []) below);
          many_above = length-append above (x ∷ []) ∙ ap (λ (k : ℕ). k + 1) n;
          same =
              sym (first_later (record { rule = section_rule d i x; line = x.line }) (section_findings d (i + 1) below) (sym a ∙ z))
              ∙ ap first_in (sym (finding_on d i x below))
              ∙ s;
        }

    module _ (i : ℕ) (left : SectionsLeft t i) where
      pub finding_none : count_of v sections ≤ i → record { rule = 0; line = 0 } ≡ whole
      finding_none h = done_with i left.above left.below left.all left.many_above left.same h

      module _ (h : i < count_of v sections) (number : ℕ) (r : number ≡ rule_at i) where
        pub finding_here : (number ≡ 0 → ⊥) → (line : ℕ) → line ≡ nth_line sections i (significant t) → record { rule = number; line = line } ≡ whole
        finding_here z line l = found_with_lem i number left.above left.below left.all left.many_above left.same h r z line l

        pub finding_later : number ≡ 0 → SectionsLeft t (i + 1)
        finding_later z = on_with i number left.above left.below left.all left.many_above left.same h r z
