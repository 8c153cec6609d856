-- Rule 18 is given for room alone: no rule of the groups 1 to 4, 5 to 17 and 19 to 29 has that number.
-- Assumes nothing.
use mathlib.Core.Path.{◌≡◌, refl}
use mathlib.Core.Bool.{Bool, true, false}
use mathlib.Core.List.{List, [], ◌∷◌, map}
use Prim.Native.Nat.{ℕ, ◌+◌}
use lib.Dec.{eqb}
use borrow.Author.Tests.{eqb-false}
use Rattle.base.specs.Refusal as refusal
use Rattle.base.specs.If.{provided◌then◌else◌}
use Rattle.base.specs.Broken.{Rule, first, first_broken}
use Rattle.base.proofs.IfLaws.{by_test}
use Rattle.lex_line.specs.Lines.{Said, is_blank_line, contents, Raw, lines}
use Rattle.lex_line.specs.ByteRules as text
use Rattle.lex_line.specs.ByteRules.{lines_rule, byte_rules}
use Rattle.lex_line.specs.declared.Checked.{Checked}
use Rattle.lex_line.specs.declared.Checked.TheVariants as bytes
use Rattle.lex_keyword.specs.Names.{begin_header}
use Rattle.lex_keyword.specs.Bracket.{bracket_of}
use Rattle.lex_keyword.specs.declared.Bracket.{Bracket}
use Rattle.lex_keyword.specs.declared.Bracket.TheVariants.{Plain, Indented, Bad, Unknown, Later, Keyword}
use Rattle.line_place.specs.Place.{is_text, before, done}
use Rattle.line_keyword.specs.State.{start_state}
use Rattle.line_keyword.specs.declared.State.{State}
use Rattle.line_keyword.specs.Way.Rule.{keyword_rule}
use Rattle.read_line.specs.Reading.{goes, breaks, judged, line_result, argument_from, end_of_text_rules, at_end, onward, read_from, reading_of}
use Rattle.read_line.specs.Way.Steps.{line_step, keyword_step, bracket_step, before_step, line_rule}
use Rattle.read_line.proofs.ResultLaws.{result_steps}
use Rattle.read_line.specs.declared.LineResult.{LineResult}
use Rattle.read_line.specs.declared.Reading.{Reading}
use Rattle.read_line.specs.declared.Reading.TheVariants.{Read, Refused}
use Rattle.doc.specs.Document.{Named, Step as PathStep, Model, Map, Section, Document}
use Rattle.doc.specs.Holds.{Each}
use Rattle.doc.specs.Holds.Each.{none, more}
use Rattle.doc.proofs.StandsLaws.{each_append}
use Rattle.cross_rules.specs.Rules.{no_finding, earliest, cross_rule}
use Rattle.cross_rules.specs.Way.Findings as rules
use Rattle.cross_rules.specs.Way.Findings.{list_findings, step_findings, model_findings, sgr_findings, pin_findings, map_findings, section_findings, findings}
use Rattle.cross_rules.specs.declared.Finding.{Finding}
use Rattle.cross_rules.proofs.FindingLaws.{cross_findings}
use Rattle.cross_rules.proofs.KindLaws.{earlier_one}

pub record Other (number : ℕ) : Type 0 where
  pub apart : number ≡ refusal.room → ⊥

-- ---- a list of rules gives the number of one of them, or 0

pub other : (n : ℕ) → eqb n refusal.room ≡ false → Other n
other n e = record { apart = eqb-false n refusal.room e }

kept : Other 0
kept = other 0 refl

by_broken : (b : Bool) (n later : ℕ) → Other n → Other later → Other (first b n later)
unfolding first
by_broken true n later h k = h
by_broken false n later h k = k

rule : (n : ℕ) → eqb n refusal.room ≡ false → (b : Bool) (later : ℕ) → Other later → Other (first b n later)
rule n e b later h = by_broken b n later (other n e) h

one_of : (b : Bool) (m n : ℕ) → Other m → Other n → Other (provided b then m else n)
one_of b m n h k = by_test Other b m n (λ e. h) (λ e. k)

one_list : (b : Bool) (x y : List Rule) → Other (first_broken x) → Other (first_broken y) → Other (first_broken (provided b then x else y))
one_list b x y h k = by_test (λ (rs : List Rule). Other (first_broken rs)) b x y (λ e. h) (λ e. k)

-- ---- 1 to 4

abbrev pub OtherBytes : Checked → Type 0
OtherBytes bytes.Fine = Unit {0}
OtherBytes (bytes.Refused number line) = Other number

characters_other : (l : Raw) → Other (text.raw_line_rule l)
unfolding text.raw_line_rule
characters_other l = rule 2 refl _ _ (rule 3 refl _ _ (rule 4 refl _ _ kept))

lines_other : (n : ℕ) (ls : List Raw) → OtherBytes (lines_rule n ls)
unfolding lines_rule text.refused_or
lines_other n [] = tt
lines_other n (l ∷ ls) = by_test OtherBytes (eqb (text.raw_line_rule l) 0) _ _ (λ e. lines_other (n + 1) ls) (λ e. characters_other l)

pub bytes_other : (t : List ℕ) → OtherBytes (byte_rules t)
unfolding byte_rules text.refused_or
bytes_other t = by_test OtherBytes (eqb (first_broken (text.size_rules t)) 0) _ _ (λ e. lines_other 1 (lines t)) (λ e. rule 1 refl _ _ kept)

-- ---- 5 to 17

line_other : (content : List ℕ) (s : State) → Other (line_rule content s)
unfolding line_rule
line_other content s =
    one_list _ _ _ kept
    (one_list _ _ _ (rule 12 refl _ _ (rule 13 refl _ _ (rule 14 refl _ _ (rule 17 refl _ _ kept))))
    (one_list _ _ _ (one_list _ _ _ (one_list _ _ _ (rule 11 refl _ _ kept) (rule 12 refl _ _ kept)) (rule 15 refl _ _ (rule 11 refl _ _ (rule 12 refl _ _ (rule 13 refl _ _ (rule 14 refl _ _ (rule 17 refl _ _ kept)))))))
    (one_list _ _ _ (rule 11 refl _ _ (rule 17 refl _ _ kept))
    (one_list _ _ _ (rule 11 refl _ _ (rule 12 refl _ _ (rule 13 refl _ _ (rule 14 refl _ _ kept))))
    (one_list _ _ _ (rule 11 refl _ _ (rule 12 refl _ _ (rule 13 refl _ _ (rule 14 refl _ _ kept))))
    (one_list _ _ _ (rule 11 refl _ _ kept) (rule 12 refl _ _ kept)))))))

keyword_other : (k : ℕ) (argument : List ℕ) (s : State) → Other (keyword_rule k argument s)
unfolding keyword_rule
keyword_other k argument s = rule 15 refl _ _ (rule 9 refl _ _ (rule 11 refl _ _ (rule 13 refl _ _ (rule 14 refl _ _ (rule 16 refl _ _ (rule 17 refl _ _ kept))))))

abbrev OtherStep : LineResult → Type 0
OtherStep step = Other step.rule

goes_other : (s : State) → OtherStep (goes s)
unfolding goes
goes_other s = kept

breaks_other : (k : ℕ) (s : State) → Other k → OtherStep (breaks k s)
unfolding breaks
breaks_other k s h = h

judged_other : (k : ℕ) (next s : State) → Other k → OtherStep (judged k next s)
unfolding judged
judged_other k next s h = by_test OtherStep (eqb k 0) _ _ (λ e. goes_other next) (λ e. breaks_other k s h)

line_step_lem : (content : List ℕ) (s : State) → OtherStep (line_step content s)
unfolding line_step
line_step_lem content s = judged_other _ _ s (line_other content s)

keyword_step_lem : (k : ℕ) (argument : List ℕ) (s : State) → OtherStep (keyword_step k argument s)
unfolding keyword_step
keyword_step_lem k argument s = judged_other _ _ s (keyword_other k argument s)

bracket_step_lem : (b : Bracket) (content : List ℕ) (s : State) → OtherStep (bracket_step b content s)
bracket_step_lem Plain content s = line_step_lem content s
bracket_step_lem Indented content s = by_test OtherStep (is_text s.place) _ _ (λ e. line_step_lem content s) (λ e. breaks_other 6 s (other 6 refl))
bracket_step_lem Bad content s = breaks_other 6 s (other 6 refl)
bracket_step_lem Unknown content s = breaks_other 7 s (other 7 refl)
bracket_step_lem Later content s = breaks_other 8 s (other 8 refl)
bracket_step_lem (Keyword k start) content s = keyword_step_lem k (argument_from content start) s

before_step_lem : (b : Bracket) (content : List ℕ) (s : State) → OtherStep (before_step b content s)
before_step_lem Plain content s = goes_other s
before_step_lem Indented content s = goes_other s
before_step_lem Bad content s = goes_other s
before_step_lem Unknown content s = goes_other s
before_step_lem Later content s = goes_other s
before_step_lem (Keyword k start) content s = by_test OtherStep (eqb k begin_header) _ _ (λ e. keyword_step_lem k (argument_from content start) s) (λ e. goes_other s)

step_other : (content : List ℕ) (s : State) → OtherStep (line_result content s)
step_other content s =
    rw (result_steps content s)
    (by_test OtherStep (is_blank_line content) _ _ (λ e. goes_other s)
    (λ e. by_test OtherStep (eqb s.place done) _ _ (λ f. goes_other s)
    (λ f. by_test OtherStep (eqb s.place before) _ _ (λ g. before_step_lem (bracket_of content) content s) (λ g. bracket_step_lem (bracket_of content) content s))))

abbrev pub OtherReading : Reading → Type 0
OtherReading (Read counts) = Unit {0}
OtherReading (Refused number line) = Other number

run_other : (n : ℕ) (ls : List Said) (s : State) → OtherReading (read_from n ls s)
unfolding read_from onward at_end
run_other n [] s =
    by_test OtherReading (eqb (first_broken (end_of_text_rules s)) 0) _ _ (λ e. tt) (λ e. rule 5 refl _ _ (rule 10 refl _ _ kept))
run_other n (l ∷ ls) s =
    by_test OtherReading (eqb (line_result l.content s).rule 0) _ _
    (λ e. run_other (n + 1) ls (line_result l.content s).state) (λ e. step_other l.content s)

pub reading_other : (t : List ℕ) → OtherReading (reading_of t)
unfolding reading_of
reading_other t = run_other 1 (contents t) start_state

-- ---- 19 to 29

abbrev OtherFinding : Finding → Type 0
OtherFinding finding = Other finding.rule

each_map : {A : Type 0} (f : A → Finding) → ((x : A) → OtherFinding (f x)) → (xs : List A) → Each OtherFinding (map f xs)
each_map f h [] = none
each_map f h (x ∷ xs) = more (h x) (each_map f h xs)

earliest_other : {fs : List Finding} → Each OtherFinding fs → OtherFinding (earliest fs)
unfolding earliest no_finding
earliest_other none = kept
earliest_other (more {x = f} {xs = fs} h hs) = earlier_one OtherFinding f (earliest fs) h (earliest_other hs)

module _ (d : Document) where
  list_others : Each OtherFinding (list_findings d)
  unfolding list_findings rules.list_name_rule
  list_others = each_map _ (λ (n : Named). rule 19 refl _ _ (rule 20 refl _ _ kept)) d.listed

  step_others : (m : Model) → Each OtherFinding (step_findings d m)
  unfolding step_findings rules.step_rule rules.end_rule rules.section_step_rule
  step_others m =
      each_map _
      (λ (s : PathStep).
      one_of _ _ _ (rule 21 refl _ _ (rule 22 refl _ _ (rule 26 refl _ _ kept))) (one_of _ _ _ (rule 23 refl _ _ (rule 24 refl _ _ (rule 25 refl _ _ (rule 26 refl _ _ kept)))) kept))
      m.steps

  model_others : (ms : List Model) → Each OtherFinding (model_findings d ms)
  unfolding model_findings rules.model_rule
  model_others [] = none
  model_others (m ∷ ms) = more (rule 19 refl _ _ (rule 20 refl _ _ kept)) (each_append (step_others m) (model_others ms))

  sgr_others : (ms : List Model) → Each OtherFinding (sgr_findings ms)
  unfolding sgr_findings rules.sgr_rule
  sgr_others [] = none
  sgr_others (m ∷ ms) =
      by_test (Each OtherFinding) (eqb m.sgr 0) _ _ (λ e. sgr_others ms) (λ e. more (rule 29 refl _ _ kept) (sgr_others ms))

  pin_others : (m : Map) → Each OtherFinding (pin_findings m)
  unfolding pin_findings rules.pin_name_rule
  pin_others m = each_map _ (λ (p : Named). rule 19 refl _ _ kept) m.pins

  map_others : (ms : List Map) → Each OtherFinding (map_findings d ms)
  unfolding map_findings rules.map_name_rule
  map_others [] = none
  map_others (m ∷ ms) = more (rule 19 refl _ _ kept) (each_append (pin_others m) (map_others ms))

  section_others : (i : ℕ) (ss : List Section) → Each OtherFinding (section_findings d i ss)
  unfolding section_findings rules.section_rule
  section_others i [] = none
  section_others i (s ∷ ss) = more (rule 19 refl _ _ (rule 27 refl _ _ kept)) (section_others (i + 1) ss)

  pub cross_other : Other (cross_rule d).rule
  unfolding findings
  cross_other =
      rw (cross_findings d)
      (earliest_other
      (each_append list_others (each_append (model_others d.models) (each_append (sgr_others d.models) (each_append (map_others d.maps) (section_others 0 d.sections))))))
