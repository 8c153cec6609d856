-- Document 01, "Numbers of refusal": rules 19 to 27, over the whole document, and 29 of document 02. "In the last group
-- a name means its first definition (a map's, after the line); one that has none breaks only 20, 21 or 23."
-- Assumes nothing.
use Rattle.std.specs.Prelude.{ℕ, zero, suc, ◌+◌, Bool, false, not, List, [], ◌∷◌, ◌++◌, map, length, ltb, eqb}
use Rattle.table_layout.specs.Codes.{diagonal, end_kind, section_kind, lumped, distributed, slm_general, mlm}
use Rattle.base.specs.If.{provided◌then◌else◌, both, either}
use Rattle.base.specs.Runs.{same}
use Rattle.base.specs.Broken.{Rule, ◌when◌, first_broken}
use Rattle.base.specs.Refusal as refusal
use Rattle.lex_line.specs.Words.{Word}
use Rattle.doc.specs.Document.{Named, Step, Model, Map, Matrix, Section, Document, conductors_of}
use Rattle.doc.specs.Records.{index_of, is_map_of, is_section_of, target_of}
use Rattle.cross_rules.specs.Listed.{RulesAtLine}
use Rattle.cross_rules.specs.declared.Finding.{Finding}

-- some element of the list passes the test
unfoldable pub any : {A : Type 0} → (A → Bool) → List A → Bool
any test [] = false
any test (x ∷ xs) = either (test x) (any test xs)

-- "All else is case sensitive": the same bytes
unfoldable pub same_word : Word → Word → Bool
same_word v w = same v.text w.text

-- ---- 19 TWICE: "second of one name within models, maps, sections, list or one map's pins"

-- the same name is on an earlier line
unfoldable pub is_twice : List Named → Named → Bool
is_twice names n = any (λ (m : Named). both (ltb m.line n.line) (same_word m.name n.name)) names

unfoldable pub is_there : List Named → Named → Bool
is_there names n = any (λ (m : Named). same_word m.name n.name) names

abbrev pub model_name : Model → Named
model_name m = record { name = m.name; line = m.line }

abbrev pub map_name : Map → Named
map_name m = record { name = m.name; line = m.line }

abbrev pub section_name : Section → Named
section_name s = record { name = s.name; line = s.line }

-- ---- lists and models: 20 LIST

-- "listed without one (at the list line)"
abbrev pub list_name_rules : Document → Named → List Rule
list_name_rules d n =
    refusal.twice when is_twice d.listed n
    ∷ refusal.list when not (is_there (map model_name d.models) n)
    ∷ []

-- "model not listed (at the model)"
abbrev pub model_rules : Document → Model → List Rule
model_rules d m =
    refusal.twice when is_twice (map model_name d.models) (model_name m)
    ∷ refusal.list when not (is_there d.listed (model_name m))
    ∷ []

-- document 02: "We want it turned away, at the SGR line, in every model that is not SLM_general."
abbrev pub sgr_rules : Model → List Rule
sgr_rules m = refusal.sgr when not (eqb m.type slm_general) ∷ []

-- ---- maps, pins and sections

abbrev pub map_name_rules : Document → Map → List Rule
map_name_rules d m = refusal.twice when is_twice (map map_name d.maps) (map_name m) ∷ []

abbrev pub pin_name_rules : Map → Named → List Rule
pin_name_rules m p = refusal.twice when is_twice m.pins p ∷ []

-- the step passes section i: the first section of the step's name has the index i
unfoldable pub uses : Document → ℕ → Step → Bool
uses d i s = both (eqb s.kind section_kind) (eqb (target_of d.maps d.sections s) i)

unfoldable pub is_used : Document → ℕ → Bool
is_used d i = any (λ (m : Model). any (uses d i) m.steps) d.models

-- "27 UNUSED: section no step uses, at its opening"; i is the section's index
abbrev pub section_rules : Document → ℕ → Section → List Rule
section_rules d i s =
    refusal.twice when is_twice (map section_name d.sections) (section_name s)
    ∷ refusal.unused when not (is_used d i)
    ∷ []

-- ---- steps

-- the number of pins of map i, the number of conductors of section i, and the method of section i; 0 where there is
-- none. The index i is the target of a step.
unfoldable pub pins_at : List Map → ℕ → ℕ
pins_at [] i = 0
pins_at (m ∷ ms) zero = length m.pins
pins_at (m ∷ ms) (suc i) = pins_at ms i

unfoldable pub conductors_at : List Section → ℕ → ℕ
conductors_at [] i = 0
conductors_at (s ∷ ss) zero = conductors_of s.matrices
conductors_at (s ∷ ss) (suc i) = conductors_at ss i

unfoldable pub method_at : List Section → ℕ → ℕ
method_at [] i = 0
method_at (s ∷ ss) zero = s.method
method_at (s ∷ ss) (suc i) = method_at ss i

-- a matrix "not Diagonal_matrix"
unfoldable pub is_other_form : Matrix → Bool
is_other_form m = not (eqb m.form diagonal)

unfoldable pub has_other_form : List Section → ℕ → Bool
has_other_form [] i = false
has_other_form (s ∷ ss) zero = any is_other_form s.matrices
has_other_form (s ∷ ss) (suc i) = has_other_form ss i

-- the index of the map of an end, and of the section of a Section step; the length of the list if there is none
abbrev pub map_index : Document → Step → ℕ
map_index d s = index_of (is_map_of s) d.maps

abbrev pub section_index : Document → Step → ℕ
section_index d s = index_of (is_section_of s) d.sections

unfoldable pub has_map : Document → Step → Bool
has_map d s = ltb (map_index d s) (length d.maps)

unfoldable pub has_section : Document → Step → Bool
has_section d s = ltb (section_index d s) (length d.sections)

-- "22 SIDE: two ends of a path on one map, Side lacking at either or the same": the test of the two Sides
unfoldable pub clash : Word → Word → Bool
clash a b = either (eqb (length a.text) 0) (either (eqb (length b.text) 0) (same_word a b))

-- the other end is on an earlier line and on the same map, and the Sides clash
unfoldable pub clashes : Document → Step → Step → Bool
clashes d s other =
    both (both (eqb other.kind end_kind) (ltb other.line s.line))
    (both (eqb (map_index d other) (map_index d s)) (clash other.side s.side))

unfoldable pub is_clashing : Document → Model → Step → Bool
is_clashing d m s = both (has_map d s) (any (clashes d s) m.steps)

-- "the path's first map": the map of its first end, here as a list of at most one step
abbrev pub first_end : List Step → List Step
first_end [] = []
first_end (s ∷ ss) = provided eqb s.kind end_kind then s ∷ [] else first_end ss

-- "26 COUNT: step whose pins or conductors differ from the pins of the path's first map": `many` is the count at the
-- step. If the path's first map is not found, nothing differs.
abbrev pub differs : Document → List Step → ℕ → Bool
differs d [] many = false
differs d (first ∷ more) many = both (has_map d first) (not (eqb many (pins_at d.maps (map_index d first))))

abbrev pub end_step_rules : Document → Model → Step → List Rule
end_step_rules d m s =
    refusal.no_map when not (has_map d s)
    ∷ refusal.side when is_clashing d m s
    ∷ refusal.count when both (has_map d s) (differs d (first_end m.steps) (pins_at d.maps (map_index d s)))
    ∷ []

-- "24 METHOD: Mult with Distributed, Len with Lumped"
unfoldable pub is_wrong_method : Document → Step → Bool
is_wrong_method d s = provided s.mult then eqb (method_at d.sections (section_index d s)) distributed else eqb (method_at d.sections (section_index d s)) lumped

-- SLM_general or SLM_quiescent: their numbers come before that of MLM
unfoldable pub is_single_line : Model → Bool
is_single_line m = ltb m.type mlm

abbrev pub section_step_rules : Document → Model → Step → List Rule
section_step_rules d m s =
    refusal.no_section when not (has_section d s)
    ∷ refusal.method when both (has_section d s) (is_wrong_method d s)
    ∷ refusal.kind when both (is_single_line m) (has_other_form d.sections (section_index d s))
    ∷ refusal.count when both (has_section d s) (differs d (first_end m.steps) (conductors_at d.sections (section_index d s)))
    ∷ []

-- a Fork or an Endfork line is checked for no rule
abbrev pub step_rules : Document → Model → Step → List Rule
step_rules d m s =
    provided eqb s.kind end_kind then end_step_rules d m s else
    provided eqb s.kind section_kind then section_step_rules d m s else []

-- ---- all lines with their rules, in this order: the model list, models with their steps, the SGR lines of models, maps
-- with their pins, sections

module _ (d : Document) where
  unfoldable pub list_rules_at_lines : List RulesAtLine
  list_rules_at_lines = map (λ (n : Named). record { line = n.line; rules = list_name_rules d n }) d.listed

  unfoldable pub step_rules_at_lines : Model → List RulesAtLine
  step_rules_at_lines m = map (λ (s : Step). record { line = s.line; rules = step_rules d m s }) m.steps

  unfoldable pub model_rules_at_lines : List Model → List RulesAtLine
  model_rules_at_lines [] = []
  model_rules_at_lines (m ∷ ms) = record { line = m.line; rules = model_rules d m } ∷ (step_rules_at_lines m ++ model_rules_at_lines ms)

  -- a model without SGR has no such line
  unfoldable pub sgr_rules_at_lines : List Model → List RulesAtLine
  sgr_rules_at_lines [] = []
  sgr_rules_at_lines (m ∷ ms) =
      provided eqb m.sgr 0 then sgr_rules_at_lines ms else record { line = m.sgr; rules = sgr_rules m } ∷ sgr_rules_at_lines ms

  unfoldable pub pin_rules_at_lines : Map → List RulesAtLine
  pin_rules_at_lines m = map (λ (p : Named). record { line = p.line; rules = pin_name_rules m p }) m.pins

  unfoldable pub map_rules_at_lines : List Map → List RulesAtLine
  map_rules_at_lines [] = []
  map_rules_at_lines (m ∷ ms) = record { line = m.line; rules = map_name_rules d m } ∷ (pin_rules_at_lines m ++ map_rules_at_lines ms)

  unfoldable pub section_rules_at_lines : ℕ → List Section → List RulesAtLine
  section_rules_at_lines i [] = []
  section_rules_at_lines i (s ∷ ss) = record { line = s.line; rules = section_rules d i s } ∷ section_rules_at_lines (i + 1) ss

  unfoldable pub all_rules_at_lines : List RulesAtLine
  all_rules_at_lines =
      list_rules_at_lines
      ++ (model_rules_at_lines d.models
      ++ (sgr_rules_at_lines d.models ++ (map_rules_at_lines d.maps ++ section_rules_at_lines 0 d.sections)))

-- ---- the first broken rule

-- a `Finding` is a line and the rule that it breaks, 0 for none: "on one line the lowest number"
abbrev pub finding_of : RulesAtLine → Finding
finding_of look = record { rule = first_broken look.rules; line = look.line }

-- "In each group the earliest line counts": the finding on the earlier line. A finding of rule 0 never counts.
unfoldable pub earlier : Finding → Finding → Finding
earlier a b = provided eqb a.rule 0 then b else provided eqb b.rule 0 then a else provided ltb b.line a.line then b else a

unfoldable pub no_finding : Finding
no_finding = record { rule = 0; line = 0 }

unfoldable pub earliest : List Finding → Finding
earliest [] = no_finding
earliest (f ∷ fs) = earlier f (earliest fs)

-- the first line that breaks one of the rules 19 to 27 and 29, and that rule; rule 0 and line 0 if no line does
unfoldable pub cross_rule : Document → Finding
cross_rule d = earliest (map finding_of (all_rules_at_lines d))
