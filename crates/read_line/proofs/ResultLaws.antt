-- The result of a line and of the end of the text, in the form that proofs go by: the rule of each place, the result by
-- the kind of the line, and the result by the place in which a text ends.
-- Assumes nothing.
use mathlib.Core.Path.{◌≡◌, refl, sym, ◌∙◌, ap}
use mathlib.Core.Bool.{Bool, true, false, not}
use mathlib.Core.List.{List}
use Prim.Native.Nat.{ℕ}
use native.Mathlib.Omega.{arith}
use lib.Dec.{eqb}
use borrow.Author.Tests.{eq-eqb, ne_eqb, eqb-true, not-false}
use Rattle.base.specs.If.{provided◌then◌else◌, either}
use Rattle.base.specs.Broken.{first, first_broken}
use Rattle.base.specs.Refusal as refusal
use Rattle.base.proofs.IfLaws.{if_true, if_false, by_cases, not_via, not_not_via}
use Rattle.base.proofs.BrokenLaws.{first_broken_lem, first_kept, all_kept}
use Rattle.lex_line.specs.Lines.{is_blank_line}
use Rattle.lex_keyword.specs.Names.{begin_header}
use Rattle.lex_keyword.specs.Bracket.{bracket_of}
use Rattle.lex_keyword.specs.declared.Bracket.{Bracket}
use Rattle.lex_keyword.specs.declared.Bracket.TheVariants.{Plain, Indented, Bad, Unknown, Later, Keyword}
use Rattle.line_place.specs.Place.{is_text, before, done}
use Rattle.line_place.specs.Place as place
use Rattle.line_head.specs.Head.{head_line_of}
use Rattle.line_head.specs.Way.Rule.{head_rule}
use Rattle.line_path.specs.Path.{path_line_of}
use Rattle.line_path.specs.Way.Rule.{path_rule}
use Rattle.line_map.specs.PinMap.{map_line_of}
use Rattle.line_map.specs.Way.Rule.{map_rule, pin_rule}
use Rattle.line_matrix.specs.Matrix.{data_line_of}
use Rattle.line_matrix.specs.Way.Rule.{data_rule}
use Rattle.line_keyword.specs.declared.Counts.{Counts}
use Rattle.line_keyword.specs.declared.State.{State}
use Rattle.line_keyword.specs.Way.Rule.{keyword_rule}
use Rattle.read_line.specs.Reading.{list_rules, RulesAndNext, passed_over, always_breaks, plain_rules_and_next, keyword_rules_and_next, bracket_rules_and_next, before_rules_and_next, rules_and_next, goes, breaks, judged, line_result, argument_from, end_of_text_rules, at_end}
use Rattle.read_line.specs.Way.Steps.{result_of, line_step, keyword_step, bracket_step, before_step, step_of, line_rule}
use Rattle.read_line.specs.declared.LineResult.{LineResult}
use Rattle.read_line.specs.declared.Reading.TheVariants.{Read, Refused}

-- ---- the rule of each place

module _ (content : List ℕ) (s : State) where
  pub rule_matrix : s.place ≡ place.matrix → line_rule content s ≡ data_rule (data_line_of s.matrix.form content) s.matrix s.counts.values
  unfolding line_rule data_rule is_text either provided◌then◌else◌
  rule_matrix e = rw e

  pub rule_path : s.place ≡ place.path → line_rule content s ≡ path_rule (path_line_of content) s.path s.counts.steps
  unfolding line_rule path_rule is_text either provided◌then◌else◌
  rule_path e = rw e

  pub rule_pins : s.place ≡ place.pin_list → line_rule content s ≡ pin_rule content s.map s.counts.pins
  unfolding line_rule pin_rule is_text either provided◌then◌else◌
  rule_pins e = rw e

  pub rule_map : s.place ≡ place.map_head → line_rule content s ≡ map_rule (map_line_of content) s.map
  unfolding line_rule map_rule is_text either provided◌then◌else◌
  rule_map e = rw e

  pub rule_head : s.place ≡ place.head → line_rule content s ≡ head_rule (head_line_of content) s.head
  unfolding line_rule head_rule is_text either provided◌then◌else◌
  rule_head e = rw e

  pub rule_list : s.place ≡ place.list → line_rule content s ≡ first_broken (list_rules content)
  unfolding line_rule is_text either provided◌then◌else◌
  rule_list e = rw e

-- ---- the result by the kind of the line

passed_goes : (s : State) → result_of (passed_over s) s ≡ goes s
unfolding judged
passed_goes s = if_true _ _ (eq-eqb 0 0 refl)

refused_breaks : (k : ℕ) (s : State) → (k ≡ 0 → ⊥) → result_of (always_breaks k s) s ≡ breaks k s
unfolding judged first
refused_breaks k s h = if_false _ _ (ne_eqb k 0 h)

plain_steps : (content : List ℕ) (s : State) → result_of (plain_rules_and_next content s) s ≡ line_step content s
unfolding line_step line_rule
plain_steps content s = refl

keyword_steps : (k : ℕ) (argument : List ℕ) (s : State) → result_of (keyword_rules_and_next k argument s) s ≡ keyword_step k argument s
unfolding keyword_step keyword_rule
keyword_steps k argument s = refl

-- a choice between lines is a choice between their results
result_chosen : (b : Bool) (x y : RulesAndNext) (s : State) (p q : LineResult) → result_of x s ≡ p → result_of y s ≡ q → result_of (provided b then x else y) s ≡ (provided b then p else q)
unfolding provided◌then◌else◌
result_chosen true x y s p q e f = e
result_chosen false x y s p q e f = f

bracket_steps : (b : Bracket) (content : List ℕ) (s : State) → result_of (bracket_rules_and_next b content s) s ≡ bracket_step b content s
bracket_steps Plain content s = plain_steps content s
bracket_steps Indented content s =
    result_chosen (is_text s.place) (plain_rules_and_next content s) (always_breaks refusal.keyword s) s _ _ (plain_steps content s) (refused_breaks refusal.keyword s (λ (z : refusal.keyword ≡ 0). omega arith))
bracket_steps Bad content s = refused_breaks refusal.keyword s (λ (z : refusal.keyword ≡ 0). omega arith)
bracket_steps Unknown content s = refused_breaks refusal.unknown s (λ (z : refusal.unknown ≡ 0). omega arith)
bracket_steps Later content s = refused_breaks refusal.later s (λ (z : refusal.later ≡ 0). omega arith)
bracket_steps (Keyword k start) content s = keyword_steps k (argument_from content start) s

before_steps : (b : Bracket) (content : List ℕ) (s : State) → result_of (before_rules_and_next b content s) s ≡ before_step b content s
before_steps Plain content s = passed_goes s
before_steps Indented content s = passed_goes s
before_steps Bad content s = passed_goes s
before_steps Unknown content s = passed_goes s
before_steps Later content s = passed_goes s
before_steps (Keyword k start) content s =
    result_chosen (eqb k begin_header) (keyword_rules_and_next k (argument_from content start) s) (passed_over s) s _ _ (keyword_steps k (argument_from content start) s) (passed_goes s)

pub result_steps : (content : List ℕ) (s : State) → line_result content s ≡ step_of content s
unfolding line_result rules_and_next
result_steps content s =
    result_chosen (is_blank_line content) (passed_over s) _ s _ _ (passed_goes s)
    (result_chosen (eqb s.place done) (passed_over s) _ s _ _ (passed_goes s)
    (result_chosen (eqb s.place before) (before_rules_and_next (bracket_of content) content s) (bracket_rules_and_next (bracket_of content) content s) s _ _ (before_steps (bracket_of content) content s) (bracket_steps (bracket_of content) content s)))

pub by_steps : (content : List ℕ) (s : State) (r : LineResult) → r ≡ step_of content s → r ≡ line_result content s
by_steps content s r e = e ∙ sym (result_steps content s)

-- ---- the end of the text

pub refused_not_read : (k n : ℕ) (c : Counts) → Refused k n ≡ Read c → ⊥
refused_not_read k n c e =
    let z : ◌≡◌ {A = ℕ} 0 1 = cc in
    omega arith

module _ (s : State) where
  -- the result, from the first rule that is broken there
  end_gives : (k : ℕ) → first_broken (end_of_text_rules s) ≡ k → (k ≡ 0 → ⊥) → Refused k 0 ≡ at_end s
  unfolding at_end
  end_gives k e h =
      ap (λ (n : ℕ). Refused n 0) (sym e)
      ∙ sym (if_false _ _ (ne_eqb _ _ (λ (z : first_broken (end_of_text_rules s) ≡ 0). h (sym e ∙ z))))

  pub end_read : s.place ≡ done → Read s.counts ≡ at_end s
  unfolding at_end
  end_read e =
      let b : eqb s.place before ≡ false = ne_eqb _ _ (λ (z : s.place ≡ before). omega arith) in
      let k : first_broken (end_of_text_rules s) ≡ 0 = first_kept _ _ _ _ b (first_kept _ _ _ _ (not_not_via (eq-eqb _ _ e)) refl) in
      sym (if_true _ _ (eq-eqb _ _ k))

  module _ (n : s.place ≡ done → ⊥) where
    pub end_before : s.place ≡ before → Refused refusal.header 0 ≡ at_end s
    end_before e = end_gives refusal.header (first_broken_lem _ _ _ (eq-eqb _ _ e)) (λ (z : refusal.header ≡ 0). omega arith)

    pub end_early : (s.place ≡ before → ⊥) → Refused refusal.end 0 ≡ at_end s
    end_early m =
        end_gives refusal.end (first_kept _ _ _ _ (ne_eqb _ _ m) (first_broken_lem _ _ _ (not_via (ne_eqb _ _ n))))
        (λ (z : refusal.end ≡ 0). omega arith)

  -- a text that is read to its end stops after [End]
  pub end_done : (c : Counts) → at_end s ≡ Read c → (s.place ≡ done) × (s.counts ≡ c)
  unfolding at_end
  end_done c h =
      by_cases ((s.place ≡ done) × (s.counts ≡ c)) (eqb (first_broken (end_of_text_rules s)) 0)
      (λ (e : eqb (first_broken (end_of_text_rules s)) 0 ≡ true).
      let d : not (eqb s.place done) ≡ false = all_kept (end_of_text_rules s) (omega arith, (omega arith, tt)) (eqb-true _ _ e) 1 in
      (eqb-true _ _ (not-false _ d), read_same _ _ (sym (if_true _ _ e) ∙ h)))
      (λ (e : eqb (first_broken (end_of_text_rules s)) 0 ≡ false). absurd (refused_not_read _ 0 c (sym (if_false _ _ e) ∙ h)))
    where
      read_same : (a b : Counts) → Read a ≡ Read b → a ≡ b
      read_same a b e = cc
