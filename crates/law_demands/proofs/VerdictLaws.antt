-- Demand 2: a file is accepted exactly when no listed rule is broken; otherwise the answer is the rule and line that
-- the stated order puts first. The list of rules is the rule book, specs/RuleBook.antt.
-- Assumes nothing.
use mathlib.Core.Path.{◌≡◌, refl, sym, ◌∙◌, ap}
use mathlib.Core.Bool.{Bool, true, false}
use mathlib.Core.List.{List, [], ◌∷◌}
use Prim.Native.Nat.{ℕ, zero, suc, ◌+◌, ◌*◌, ◌≤◌, ◌<◌}
use native.Mathlib.Omega.{arith}
use lib.ListN.{length}
use lib.Dec.{ltb, eqb}
use borrow.Author.Tests.{ne_eqb, eqb-true, eqb-false, ltb-true, ltb-false}
use Rattle.base.specs.If.{provided◌then◌else◌, both}
use Rattle.base.specs.Broken.{◌when◌, first_broken}
use Rattle.base.specs.Refusal as refusal
use Rattle.base.proofs.BrokenLaws.{first_broken_lem, first_kept}
use Rattle.base.proofs.IfLaws.{if_true, if_false, by_cases}
use Rattle.lex_line.specs.Lines.{lines, contents}
use Rattle.lex_line.specs.ByteRules.{most_bytes, lines_rule, size_rules}
use Rattle.lex_line.specs.declared.Checked.{Checked}
use Rattle.lex_line.specs.declared.Checked.TheVariants as bytes
use Rattle.lex_line.proofs.ByteLaws.{size_refused, size_fine}
use Rattle.line_keyword.specs.State.{start_state}
use Rattle.line_keyword.specs.declared.Counts.{Counts}
use Rattle.read_line.specs.Reading.{read_from, reading_of}
use Rattle.read_line.specs.declared.Reading.{Reading}
use Rattle.read_line.specs.declared.Reading.TheVariants as reading
use Rattle.doc.specs.Document.{Document, document_of}
use Rattle.doc.specs.Records.{table_of}
use Rattle.doc.specs.Holds.{Each}
use Rattle.doc.specs.Holds.Each.{none, more}
use Rattle.doc.proofs.StandsLaws.{each_append}
use Rattle.intake.specs.Stored.{room_rules, store_answer, after_reading}
use Rattle.intake.proofs.RoomLaws.{room_there, room_short}
use Rattle.cross_rules.specs.Rules.{all_rules_at_lines, cross_rule}
use Rattle.cross_rules.specs.Way.Findings.{findings, list_findings, model_findings, sgr_findings, map_findings, section_findings}
use Rattle.cross_rules.specs.declared.Finding.{Finding}
use Rattle.cross_rules.proofs.OrderLaws.{in_order}
use Rattle.cross_rules.specs.Listed.{RulesAtLine, BrokenIn}
use Rattle.cross_rules.proofs.RisingLaws.{all_least, each_one}
use Rattle.cross_rules.proofs.FirstLaws.{none_breaks, given_breaks, lowest_line, lowest_rule, first_found}
use Rattle.intake.specs.Verdict.{Outcome, accepted_with, refused_by, crossed, after_storing, after_bytes, verdict_of}
use Rattle.law_demands.specs.RuleBook.{Broken, First, group, rank, character_rules_at_lines, forward_rules_at_lines}
use Rattle.law_demands.proofs.BookLaws.{Given, given_by, Found, InOrder, last, followed, AllRanked, empty_gives, given_later, given_here, given_none, given_first, among_some}
use Rattle.law_demands.proofs.GroupLaws.{characters_given, characters_ranked, characters_ordered, Told, read_on_lem, refused_at, forward_told, forward_ranked, forward_ordered, size_ranked, room_ranked}

-- ---- the cases of an answer

abbrev checked_number : Checked → ℕ
checked_number bytes.Fine = 0
checked_number (bytes.Refused number line) = number

abbrev checked_line : Checked → ℕ
checked_line bytes.Fine = 0
checked_line (bytes.Refused number line) = line

abbrev is_fine : Checked → ℕ
is_fine bytes.Fine = 1
is_fine (bytes.Refused number line) = 0

fine_refused : (number line : ℕ) → bytes.Fine ≡ bytes.Refused number line → ⊥
fine_refused number line e = let z : ◌≡◌ {A = ℕ} 1 0 = ap is_fine e in omega arith

told_read : (c : Counts) (given : Given) → Told (reading.Read c) given → given.rule ≡ 0
told_read c given (read_on_lem _ e) = e

record Refuses (number line : ℕ) (given : Given) : Type 0 where
  nonzero : number ≡ 0 → ⊥
  is : given ≡ record { rule = number; line = line }

told_refused : (number line : ℕ) (given : Given) → Told (reading.Refused number line) given → Refuses number line given
told_refused number line _ (refused_at _ _ n) = record { nonzero = n; is = refl }

-- ---- each group

read_run_lem : (t : List ℕ) {answer : Reading} → reading_of t ≡ answer → read_from 1 (contents t) start_state ≡ answer
unfolding reading_of
read_run_lem t e = e

module _ (t : List ℕ) (size : ℕ) where
  abbrev size_look : RulesAtLine
  size_look = record { line = 0; rules = size_rules t }

  abbrev room_look : RulesAtLine
  room_look = record { line = 0; rules = room_rules t size }

  size_group : group t size 1 ≡ size_look ∷ []
  unfolding group provided◌then◌else◌
  size_group = refl

  character_group : group t size 2 ≡ character_rules_at_lines 1 (lines t)
  unfolding group provided◌then◌else◌
  character_group = refl

  forward_group : group t size 3 ≡ forward_rules_at_lines 1 (contents t) start_state
  unfolding group provided◌then◌else◌
  forward_group = refl

  room_group : group t size 4 ≡ room_look ∷ []
  unfolding group provided◌then◌else◌
  room_group = refl

  cross_group : group t size 5 ≡ all_rules_at_lines (document_of t)
  unfolding group provided◌then◌else◌
  cross_group = refl

  no_group : group t size 0 ≡ []
  unfolding group provided◌then◌else◌
  no_group = refl

  past_group : (g : ℕ) → 5 < g → group t size g ≡ []
  unfolding group
  past_group g h =
      if_false _ _ (ne_eqb g 1 (λ (e : g ≡ 1). omega arith))
      ∙ if_false _ _ (ne_eqb g 2 (λ (e : g ≡ 2). omega arith))
      ∙ if_false _ _ (ne_eqb g 3 (λ (e : g ≡ 3). omega arith))
      ∙ if_false _ _ (ne_eqb g 4 (λ (e : g ≡ 4). omega arith))
      ∙ if_false _ _ (ne_eqb g 5 (λ (e : g ≡ 5). omega arith))

  -- no rule of a group is broken
  abbrev Kept : ℕ → Type 0
  Kept g = (number line : ℕ) → Broken t size g number line → ⊥

  nothing_there : {number line : ℕ} → BrokenIn [] number line → ⊥
  nothing_there b = among_some b.listed

  none_kept : Kept 0
  none_kept number line b = nothing_there (rw no_group at b)

  past_kept : (g : ℕ) → 5 < g → Kept g
  past_kept g h number line b = nothing_there (rw (past_group g h) at b)

  -- if the looks of a group give no broken rule, and if they give one
  group_kept : (g : ℕ) (xs : List RulesAtLine) → group t size g ≡ xs → AllRanked g xs → (given_by xs).rule ≡ 0 → Kept g
  group_kept g xs e r z number line b = given_none g xs r z number line (rw e at b)

  group_found : (g : ℕ) (xs : List RulesAtLine) → group t size g ≡ xs → AllRanked g xs → InOrder xs → (number line : ℕ) → (number ≡ 0 → ⊥) → given_by xs ≡ record { rule = number; line = line } → Found g (group t size g) number line
  group_found g xs e r o number line n given = rw (e, sym (ap (λ (h : Given). h.rule) given), sym (ap (λ (h : Given). h.line) given)) (given_first g xs r o (λ (z : (given_by xs).rule ≡ 0). n (ap (λ (h : Given). h.rule) (sym given) ∙ z)))

  -- ---- 1

  module _ (number line : ℕ) (b : Bool) where
    abbrev one_look : RulesAtLine
    one_look = record { line = line; rules = number when b ∷ [] }

    one_kept : b ≡ false → (given_by (one_look ∷ [])).rule ≡ 0
    one_kept e = ap (λ (g : Given). g.rule) (given_later one_look [] (first_kept b number 0 0 e refl)) ∙ empty_gives

    one_given : (number ≡ 0 → ⊥) → b ≡ true → given_by (one_look ∷ []) ≡ record { rule = number; line = line }
    one_given n e =
        let f : first_broken (number when b ∷ []) ≡ number = first_broken_lem b number 0 e in
        given_here one_look [] (λ (z : first_broken (number when b ∷ []) ≡ 0). n (sym f ∙ z)) ∙ ap (λ (k : ℕ). record { rule = k; line = line }) f

  size_kept : ltb most_bytes (length t) ≡ false → Kept 1
  size_kept e = group_kept 1 (size_look ∷ []) size_group (more (size_ranked t) none) (one_kept refusal.size 0 (ltb most_bytes (length t)) e)

  size_found : ltb most_bytes (length t) ≡ true → Found 1 (group t size 1) refusal.size 0
  size_found e = group_found 1 (size_look ∷ []) size_group (more (size_ranked t) none) (followed none last) refusal.size 0 (λ (z : refusal.size ≡ 0). omega arith) (one_given refusal.size 0 (ltb most_bytes (length t)) (λ (z : refusal.size ≡ 0). omega arith) e)

  -- ---- 18

  room_kept : ltb size (length (table_of t)) ≡ false → Kept 4
  room_kept e = group_kept 4 (room_look ∷ []) room_group (more (room_ranked t size) none) (one_kept refusal.room 0 (ltb size (length (table_of t))) e)

  room_found : ltb size (length (table_of t)) ≡ true → Found 4 (group t size 4) refusal.room 0
  room_found e = group_found 4 (room_look ∷ []) room_group (more (room_ranked t size) none) (followed none last) refusal.room 0 (λ (z : refusal.room ≡ 0). omega arith) (one_given refusal.room 0 (ltb size (length (table_of t))) (λ (z : refusal.room ≡ 0). omega arith) e)

  -- ---- 2 to 4

  abbrev given2 : Given
  given2 = given_by (character_rules_at_lines 1 (lines t))

  characters_kept : lines_rule 1 (lines t) ≡ bytes.Fine → Kept 2
  characters_kept e =
      group_kept 2 (character_rules_at_lines 1 (lines t)) character_group (characters_ranked 1 (lines t))
      (by_cases _ (eqb given2.rule 0)
      (λ (z : eqb given2.rule 0 ≡ true). eqb-true _ _ z)
      (λ (z : eqb given2.rule 0 ≡ false). absurd (fine_refused _ _ (sym e ∙ characters_given 1 (lines t) ∙ if_false _ _ z))))

  characters_found : (number line : ℕ) → lines_rule 1 (lines t) ≡ bytes.Refused number line → Found 2 (group t size 2) number line
  characters_found number line e =
      by_cases _ (eqb given2.rule 0)
      (λ (z : eqb given2.rule 0 ≡ true). absurd (fine_refused number line (sym (if_true _ _ z) ∙ sym (characters_given 1 (lines t)) ∙ e)))
      (λ (z : eqb given2.rule 0 ≡ false).
      let r : bytes.Refused given2.rule given2.line ≡ bytes.Refused number line = sym (if_false _ _ z) ∙ sym (characters_given 1 (lines t)) ∙ e in
      group_found 2 (character_rules_at_lines 1 (lines t)) character_group (characters_ranked 1 (lines t)) (characters_ordered 1 (lines t) (omega arith)) number line
      (λ (q : number ≡ 0). eqb-false _ _ z (ap checked_number r ∙ q)) (λ i. record { rule = checked_number (r i); line = checked_line (r i) }))

  -- ---- 5 to 17

  abbrev given3 : Given
  given3 = given_by (forward_rules_at_lines 1 (contents t) start_state)

  forward_kept : (c : Counts) → reading_of t ≡ reading.Read c → Kept 3
  forward_kept c e = group_kept 3 (forward_rules_at_lines 1 (contents t) start_state) forward_group (forward_ranked 1 (contents t) start_state) (told_read c given3 (rw (read_run_lem t e) at (forward_told 1 (contents t) start_state)))

  forward_found : (number line : ℕ) → reading_of t ≡ reading.Refused number line → Found 3 (group t size 3) number line
  forward_found number line e =
      let told : Refuses number line given3 = told_refused number line given3 (rw (read_run_lem t e) at (forward_told 1 (contents t) start_state)) in
      group_found 3 (forward_rules_at_lines 1 (contents t) start_state) forward_group (forward_ranked 1 (contents t) start_state) (forward_ordered 1 (contents t) start_state (omega arith)) number line told.nonzero told.is

  -- ---- 19 to 29

  abbrev d : Document
  d = document_of t

  breaks_of : {number line : ℕ} → Broken t size 5 number line → BrokenIn (all_rules_at_lines d) number line
  breaks_of b = rw cross_group at b

  cross_kept : (cross_rule d).rule ≡ 0 → Kept 5
  cross_kept e number line b = none_breaks d e number line (breaks_of b)

  findings_low : Each (λ (f : Finding). 1 ≤ f.line) (findings d)
  unfolding findings
  findings_low =
      each_append (all_least (λ (f : Finding). f.line) (list_findings d) (in_order t).in_list)
      (each_append (all_least (λ (f : Finding). f.line) (model_findings d d.models) (in_order t).in_models)
      (each_append (all_least (λ (f : Finding). f.line) (sgr_findings d.models) (in_order t).in_sgrs)
      (each_append (all_least (λ (f : Finding). f.line) (map_findings d d.maps) (in_order t).in_maps) (all_least (λ (f : Finding). f.line) (section_findings d 0 d.sections) (in_order t).in_sections))))

  rank_plain : (number : ℕ) → rank 5 number ≡ 2 * number
  unfolding rank both
  rank_plain rule = if_false _ _ refl

  cross_found : ((cross_rule d).rule ≡ 0 → ⊥) → Found 5 (group t size 5) (cross_rule d).rule (cross_rule d).line
  cross_found n =
      record {
        found = rw cross_group (given_breaks d n);
        earliest = λ other_number other_line b p. (each_one findings_low (first_found d n).found, lowest_line d other_number other_line (breaks_of b));
        lowest = λ other b. let l : (cross_rule d).rule ≤ other = lowest_rule t other (breaks_of b) in rw (rank_plain (cross_rule d).rule, rank_plain other) (omega arith);
      }

  -- ---- one stage after another

  first_of : (g number line : ℕ) → ((h : ℕ) → h < g → Kept h) → Found g (group t size g) number line → First t size g number line
  first_of g number line kept f =
      record {
        found = f.found;
        earlier_groups = λ h other place b. by_cases (g ≤ h) (ltb h g) (λ (e : ltb h g ≡ true). absurd (kept h (ltb-true _ _ e) other place b)) (λ (e : ltb h g ≡ false). ltb-false _ _ e);
        earliest_line = f.earliest;
        lowest_number = f.lowest;
      }

  pub data Decided : Outcome → Type 0 where
    accepts : ((g : ℕ) → Kept g) → Decided (accepted_with (length (table_of t)))
    refuses : (g number line : ℕ) → First t size g number line → Decided (refused_by number line)

  -- the groups before a group
  below_1 : (h : ℕ) → h < 1 → Kept h
  below_1 zero l = none_kept
  below_1 (suc h) l = absurd (omega arith)

  below_more : (g : ℕ) → ((h : ℕ) → h < g → Kept h) → Kept g → (h : ℕ) → h < g + 1 → Kept h
  below_more g kept here h l = by_cases (Kept h) (eqb h g) (λ (e : eqb h g ≡ true). rw (eqb-true h g e) here) (λ (e : eqb h g ≡ false). let n : h ≡ g → ⊥ = eqb-false _ _ e in kept h (omega arith))

  all_groups : ((h : ℕ) → h < 6 → Kept h) → (g : ℕ) → Kept g
  all_groups kept g = by_cases (Kept g) (ltb g 6) (λ (e : ltb g 6 ≡ true). kept g (ltb-true _ _ e)) (λ (e : ltb g 6 ≡ false). let l : 6 ≤ g = ltb-false _ _ e in past_kept g (omega arith))

  decide_crossed : ((h : ℕ) → h < 5 → Kept h) → Decided (crossed (length (table_of t)) (cross_rule d))
  decide_crossed kept =
      by_cases _ (eqb (cross_rule d).rule 0)
      (λ (e : eqb (cross_rule d).rule 0 ≡ true). rw (if_true {A = Outcome} (accepted_with (length (table_of t))) (refused_by (cross_rule d).rule (cross_rule d).line) e) (accepts (all_groups (below_more 5 kept (cross_kept (eqb-true _ _ e))))))
      (λ (e : eqb (cross_rule d).rule 0 ≡ false). rw (if_false {A = Outcome} (accepted_with (length (table_of t))) (refused_by (cross_rule d).rule (cross_rule d).line) e) (refuses 5 _ _ (first_of 5 _ _ kept (cross_found (eqb-false _ _ e)))))

  decide_room : ((h : ℕ) → h < 4 → Kept h) → (c : Counts) → Decided (after_storing t (after_reading t size (reading.Read c)))
  decide_room kept c =
      by_cases _ (ltb size (length (table_of t)))
      (λ (e : ltb size (length (table_of t)) ≡ true). rw (room_short t size c e) (refuses 4 refusal.room 0 (first_of 4 refusal.room 0 kept (room_found e))))
      (λ (e : ltb size (length (table_of t)) ≡ false). rw (room_there t size c e) (decide_crossed (below_more 4 kept (room_kept e))))

  decide_reading : ((h : ℕ) → h < 3 → Kept h) → (answer : Reading) → reading_of t ≡ answer → Decided (after_storing t (after_reading t size answer))
  decide_reading kept (reading.Read c) e = decide_room (below_more 3 kept (forward_kept c e)) c
  decide_reading kept (reading.Refused number line) e = refuses 3 number line (first_of 3 number line kept (forward_found number line e))

  decide_filling : ((h : ℕ) → h < 3 → Kept h) → Decided (after_storing t (store_answer t size))
  unfolding store_answer
  decide_filling kept = decide_reading kept (reading_of t) refl

  decide_lines : ((h : ℕ) → h < 2 → Kept h) → (answer : Checked) → lines_rule 1 (lines t) ≡ answer → Decided (after_bytes t size answer)
  decide_lines kept bytes.Fine e = decide_filling (below_more 2 kept (characters_kept e))
  decide_lines kept (bytes.Refused number line) e = refuses 2 number line (first_of 2 number line kept (characters_found number line e))

  pub decided : Decided (verdict_of t size)
  unfolding verdict_of
  decided =
      by_cases _ (ltb most_bytes (length t))
      (λ (e : ltb most_bytes (length t) ≡ true). rw (sym (size_refused t (ltb-true _ _ e))) (refuses 1 refusal.size 0 (first_of 1 refusal.size 0 below_1 (size_found e))))
      (λ (e : ltb most_bytes (length t) ≡ false). rw (sym (size_fine t (ltb-false _ _ e))) (decide_lines (below_more 1 below_1 (size_kept e)) (lines_rule 1 (lines t)) refl))
