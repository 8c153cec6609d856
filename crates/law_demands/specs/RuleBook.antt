-- Document 01, "Numbers of refusal": the rule book. Each of the five groups is a list of lines in their order, each
-- with the rules that are checked there, in the order of refusal: "1; 2 to 4 over all lines; 5 to 17 reading forward;
-- 18; 19 to 27 over all lines". Document 02 adds 29 to the last group. The rules themselves stand beside their tests:
-- 1 to 4 in ByteRules.antt of `lex_line`; 5 to 17 in Reading.antt of `read_line`, with the lists of `line_head`,
-- `line_path`, `line_map`, `line_matrix` and `line_keyword`; 18 in Stored.antt of `intake`; 19 to 29 in Rules.antt of
-- `cross_rules`.
-- Assumes nothing.
use Rattle.std.specs.Prelude.{ℕ, ◌+◌, ◌*◌, ◌≤◌, ◌<◌, List, [], ◌∷◌, eqb}
use Rattle.base.specs.If.{provided◌then◌else◌, both}
use Rattle.base.specs.Broken.{Rule, first_broken}
use Rattle.base.specs.Refusal as refusal
use Rattle.lex_line.specs.Lines.{Raw, lines, Said, contents}
use Rattle.lex_line.specs.ByteRules.{size_rules, character_rules}
use Rattle.line_keyword.specs.State.{start_state}
use Rattle.line_keyword.specs.declared.State.{State}
use Rattle.read_line.specs.Reading.{rules_and_next, line_result, end_of_text_rules}
use Rattle.doc.specs.Document.{document_of}
use Rattle.intake.specs.Stored.{room_rules}
use Rattle.cross_rules.specs.Listed.{RulesAtLine, BrokenIn}
use Rattle.cross_rules.specs.Rules.{all_rules_at_lines}

-- ---- 2 to 4, over all lines

unfoldable pub character_rules_at_lines : ℕ → List Raw → List RulesAtLine
character_rules_at_lines n [] = []
character_rules_at_lines n (l ∷ ls) = record { line = n; rules = character_rules l } ∷ character_rules_at_lines (n + 1) ls

-- ---- 5 to 17, reading forward

-- the rules of a line, by the state after the lines above it
abbrev pub rules_on : List ℕ → State → List Rule
rules_on content s = (rules_and_next content s).rules

-- line by line, up to the first line that breaks a rule; the end of the text comes last, as line 0
unfoldable pub forward_rules_at_lines : ℕ → List Said → State → List RulesAtLine
forward_rules_at_lines n [] s = record { line = 0; rules = end_of_text_rules s } ∷ []
forward_rules_at_lines n (l ∷ ls) s =
    record { line = n; rules = rules_on l.content s }
    ∷ (provided eqb (first_broken (rules_on l.content s)) 0
    then forward_rules_at_lines (n + 1) ls (line_result l.content s).state
    else [])

-- ---- the groups in their order

abbrev pub forward : ℕ
forward = 3

unfoldable pub group : List ℕ → ℕ → ℕ → List RulesAtLine
group t size g =
    provided eqb g 1 then record { line = 0; rules = size_rules t } ∷ [] else
    provided eqb g 2 then character_rules_at_lines 1 (lines t) else
    provided eqb g forward then forward_rules_at_lines 1 (contents t) start_state else
    provided eqb g 4 then record { line = 0; rules = room_rules t size } ∷ [] else
    provided eqb g 5 then all_rules_at_lines (document_of t) else []

-- a rule of group g is broken on a line
abbrev pub Broken : List ℕ → ℕ → ℕ → ℕ → ℕ → Type 0
Broken t size g number line = BrokenIn (group t size g) number line

-- ---- the stated order

-- "15 FORK .. goes before 9, 11 and 12": the rank of a rule among those of one line. In the forward group 15 comes between 8 and 9.
unfoldable pub rank : ℕ → ℕ → ℕ
rank g number = provided both (eqb g forward) (eqb number refusal.fork) then 17 else 2 * number

-- the rule is broken on the line; no rule of an earlier group is broken; "In each group the earliest line counts, line
-- 0 last; on one line the lowest number"
pub record First (t : List ℕ) (size g number line : ℕ) : Type 0 where
  pub found : Broken t size g number line
  pub earlier_groups : (group_there number_there line_there : ℕ) → Broken t size group_there number_there line_there → g ≤ group_there
  pub earliest_line : (number_there line_there : ℕ) → Broken t size g number_there line_there → 0 < line_there → (0 < line) × (line ≤ line_there)
  pub lowest_number : (number_there : ℕ) → Broken t size g number_there line → rank g number ≤ rank g number_there
