-- The first rule of 19 to 29 that each line breaks, and the findings of a document by the kinds of its lines: what the
-- code goes over. A law says that they are the findings of `all_rules_at_lines`.
-- Assumes nothing.
use Rattle.std.specs.Prelude.{ℕ, ◌+◌, List, [], ◌∷◌, ◌++◌, map, eqb}
use Rattle.table_layout.specs.Codes.{end_kind, section_kind}
use Rattle.base.specs.If.{provided◌then◌else◌}
use Rattle.base.specs.Broken.{first_broken}
use Rattle.doc.specs.Document.{Named, Step, Model, Map, Section, Document}
use Rattle.cross_rules.specs.Rules.{list_name_rules, model_rules, sgr_rules, map_name_rules, pin_name_rules, section_rules, end_step_rules, section_step_rules}
use Rattle.cross_rules.specs.declared.Finding.{Finding}

-- ---- the rule of a line

unfoldable pub list_name_rule : Document → Named → ℕ
list_name_rule d n = first_broken (list_name_rules d n)

unfoldable pub model_rule : Document → Model → ℕ
model_rule d m = first_broken (model_rules d m)

unfoldable pub sgr_rule : Model → ℕ
sgr_rule m = first_broken (sgr_rules m)

unfoldable pub map_name_rule : Document → Map → ℕ
map_name_rule d m = first_broken (map_name_rules d m)

unfoldable pub pin_name_rule : Map → Named → ℕ
pin_name_rule m p = first_broken (pin_name_rules m p)

unfoldable pub section_rule : Document → ℕ → Section → ℕ
section_rule d i s = first_broken (section_rules d i s)

unfoldable pub end_rule : Document → Model → Step → ℕ
end_rule d m s = first_broken (end_step_rules d m s)

unfoldable pub section_step_rule : Document → Model → Step → ℕ
section_step_rule d m s = first_broken (section_step_rules d m s)

unfoldable pub step_rule : Document → Model → Step → ℕ
step_rule d m s =
    provided eqb s.kind end_kind then end_rule d m s else
    provided eqb s.kind section_kind then section_step_rule d m s else 0

-- ---- the findings

unfoldable pub list_findings : Document → List Finding
list_findings d = map (λ (n : Named). record { rule = list_name_rule d n; line = n.line }) d.listed

unfoldable pub step_findings : Document → Model → List Finding
step_findings d m = map (λ (s : Step). record { rule = step_rule d m s; line = s.line }) m.steps

unfoldable pub model_findings : Document → List Model → List Finding
model_findings d [] = []
model_findings d (m ∷ ms) = record { rule = model_rule d m; line = m.line } ∷ (step_findings d m ++ model_findings d ms)

unfoldable pub sgr_findings : List Model → List Finding
sgr_findings [] = []
sgr_findings (m ∷ ms) = provided eqb m.sgr 0 then sgr_findings ms else record { rule = sgr_rule m; line = m.sgr } ∷ sgr_findings ms

unfoldable pub pin_findings : Map → List Finding
pin_findings m = map (λ (p : Named). record { rule = pin_name_rule m p; line = p.line }) m.pins

unfoldable pub map_findings : Document → List Map → List Finding
map_findings d [] = []
map_findings d (m ∷ ms) = record { rule = map_name_rule d m; line = m.line } ∷ (pin_findings m ++ map_findings d ms)

unfoldable pub section_findings : Document → ℕ → List Section → List Finding
section_findings d i [] = []
section_findings d i (s ∷ ss) = record { rule = section_rule d i s; line = s.line } ∷ section_findings d (i + 1) ss

unfoldable pub findings : Document → List Finding
findings d =
    list_findings d
    ++ (model_findings d d.models ++ (sgr_findings d.models ++ (map_findings d d.maps ++ section_findings d 0 d.sections)))
