-- The groups of the rule book and the stages of the intake: each stage gives what the first look of its group with a broken rule gives.
-- Assumes nothing.
use mathlib.Core.Path.{◌≡◌, refl, sym, ◌∙◌, ap}
use mathlib.Core.Bool.{Bool, true, false}
use mathlib.Core.List.{List, [], ◌∷◌}
use Prim.Native.Nat.{ℕ, ◌+◌, ◌<◌, zero-le}
use native.Mathlib.Omega.{arith}
use lib.Dec.{eqb}
use borrow.Author.Tests.{eq-eqb, eqb-true, eqb-false}
use Rattle.base.specs.If.{provided◌then◌else◌, both}
use Rattle.base.specs.Broken.{Rule, ◌when◌, first_broken}
use Rattle.base.specs.Refusal as refusal
use Rattle.base.proofs.IfLaws.{if_true, if_false, by_cases, by_test}
use Rattle.lex_line.specs.Lines.{Raw, is_blank_line, Said}
use Rattle.lex_line.specs.Words.{words, first_of}
use Rattle.lex_line.specs.ByteRules.{character_rules, raw_line_rule, lines_rule, refused_or, size_rules}
use Rattle.lex_line.specs.declared.Checked.{Checked}
use Rattle.lex_line.specs.declared.Checked.TheVariants as bytes
use Rattle.lex_keyword.specs.Names.{begin_header}
use Rattle.lex_keyword.specs.Bracket.{bracket_of}
use Rattle.lex_keyword.specs.declared.Bracket.{Bracket}
use Rattle.lex_keyword.specs.declared.Bracket.TheVariants.{Plain, Indented, Bad, Unknown, Later, Keyword}
use Rattle.line_place.specs.Place.{is_text, before, done}
use Rattle.line_place.specs.Place as place
use Rattle.line_argument.specs.Argument.{is_reserved}
use Rattle.line_head.specs.Head.{head_line_of, head_rules}
use Rattle.line_head.specs.declared.HeadLine.{HeadLine}
use Rattle.line_head.specs.declared.Head.{Head}
use Rattle.line_path.specs.Path.{path_line_of, open_rules, path_rules, closed, says_side}
use Rattle.line_path.specs.declared.PathLine.{PathLine}
use Rattle.line_path.specs.declared.Path.{Path}
use Rattle.line_map.specs.PinMap.{map_line_of, map_rules, pin_rules}
use Rattle.line_map.specs.declared.MapLine.{MapLine}
use Rattle.line_map.specs.declared.Map.{Map}
use Rattle.line_matrix.specs.Matrix.{data_line_of, data_rules}
use Rattle.line_matrix.specs.declared.DataLine.{DataLine}
use Rattle.line_matrix.specs.declared.Matrix.{Matrix}
use Rattle.line_keyword.specs.Keywords.{keyword_rules}
use Rattle.line_keyword.specs.declared.Counts.{Counts}
use Rattle.line_keyword.specs.declared.State.{State}
use Rattle.read_line.specs.Reading.{line_rules, RulesAndNext, bracket_rules_and_next, before_rules_and_next, rules_and_next, goes, breaks, judged, line_result, end_of_text_rules, at_end, onward, read_from, argument_from}
use Rattle.read_line.specs.declared.LineResult.{LineResult}
use Rattle.read_line.specs.declared.Reading.{Reading}
use Rattle.read_line.specs.declared.Reading.TheVariants.{Read, Refused}
use Rattle.doc.specs.Holds.{Each}
use Rattle.doc.specs.Holds.Each.{none, more}
use Rattle.cross_rules.specs.Listed.{RulesAtLine}
use Rattle.intake.specs.Stored.{room_rules}
use Rattle.law_demands.specs.RuleBook.{character_rules_at_lines, rules_on, forward_rules_at_lines, forward, rank}
use Rattle.law_demands.proofs.BookLaws.{Ranked, Given, given_by, given_later, given_here, Before, InOrder, last, followed, AllRanked}

-- ---- the rules of a line are those of the reading

judged_number : (k : ℕ) (next s : State) → (judged k next s).rule ≡ k
unfolding judged goes breaks
judged_number k next s =
    by_cases _ (eqb k 0)
    (λ (e : eqb k 0 ≡ true). ap (λ (x : LineResult). x.rule) (if_true _ _ e) ∙ sym (eqb-true _ _ e))
    (λ (e : eqb k 0 ≡ false). ap (λ (x : LineResult). x.rule) (if_false _ _ e))

pub step_number : (content : List ℕ) (s : State) → (line_result content s).rule ≡ first_broken (rules_on content s)
unfolding line_result
step_number content s = judged_number (first_broken (rules_on content s)) _ s

-- ---- every list is in the order of refusal

pub size_ranked : (t : List ℕ) → Ranked 1 (size_rules t)
unfolding rank provided◌then◌else◌ both
size_ranked t = record { numbered = (omega arith, tt); ascends = (omega arith, tt) }

character_ranked : (l : Raw) → Ranked 2 (character_rules l)
unfolding rank provided◌then◌else◌ both
character_ranked l = record { numbered = (omega arith, (omega arith, (omega arith, tt))); ascends = (omega arith, (omega arith, (omega arith, tt))) }

pub room_ranked : (t : List ℕ) (size : ℕ) → Ranked 4 (room_rules t size)
unfolding rank provided◌then◌else◌ both
room_ranked t size = record { numbered = (omega arith, tt); ascends = (omega arith, tt) }

none_ranked : (g : ℕ) → Ranked g []
none_ranked g = record { numbered = tt; ascends = tt }

line_refused_ranked : (b : Bool) → Ranked forward (refusal.line when b ∷ [])
unfolding rank provided◌then◌else◌ both
line_refused_ranked b = record { numbered = (omega arith, tt); ascends = (omega arith, tt) }

argument_ranked : (b : Bool) → Ranked forward (refusal.argument when b ∷ [])
unfolding rank provided◌then◌else◌ both
argument_ranked b = record { numbered = (omega arith, tt); ascends = (omega arith, tt) }

bracket_ranked : (k : ℕ) → 0 < k → (b : Bool) → Ranked forward (k when b ∷ [])
bracket_ranked k h b = record { numbered = (h, tt); ascends = (zero-le, tt) }

head_ranked : (l : HeadLine) (h : Head) → Ranked forward (head_rules l h)
unfolding rank provided◌then◌else◌ both
head_ranked l h = record { numbered = (omega arith, (omega arith, (omega arith, (omega arith, tt)))); ascends = (omega arith, (omega arith, (omega arith, (omega arith, tt)))) }

map_ranked : (l : MapLine) (m : Map) → Ranked forward (map_rules l m)
unfolding rank provided◌then◌else◌ both
map_ranked l m = record { numbered = (omega arith, (omega arith, (omega arith, (omega arith, tt)))); ascends = (omega arith, (omega arith, (omega arith, (omega arith, tt)))) }

pin_ranked : (content : List ℕ) (m : Map) (total : ℕ) → Ranked forward (pin_rules content m total)
unfolding rank provided◌then◌else◌ both
pin_ranked content m total = record { numbered = (omega arith, (omega arith, tt)); ascends = (omega arith, (omega arith, tt)) }

data_ranked : (l : DataLine) (m : Matrix) (values : ℕ) → Ranked forward (data_rules l m values)
unfolding rank provided◌then◌else◌ both
data_ranked l m values = record { numbered = (omega arith, (omega arith, (omega arith, (omega arith, tt)))); ascends = (omega arith, (omega arith, (omega arith, (omega arith, tt)))) }

open_ranked : (l : PathLine) (p : Path) (steps : ℕ) → Ranked forward (open_rules l p steps)
unfolding rank provided◌then◌else◌ both
open_ranked l p steps =
    record {
      numbered = (omega arith, (omega arith, (omega arith, (omega arith, (omega arith, (omega arith, tt))))));
      ascends = (omega arith, (omega arith, (omega arith, (omega arith, (omega arith, (omega arith, tt))))));
    }

keyword_ranked : (k : ℕ) (argument : List ℕ) (s : State) → Ranked forward (keyword_rules k argument s)
unfolding rank provided◌then◌else◌ both
keyword_ranked k argument s =
    record {
      numbered = (omega arith, (omega arith, (omega arith, (omega arith, (omega arith, (omega arith, (omega arith, tt)))))));
      ascends = (omega arith, (omega arith, (omega arith, (omega arith, (omega arith, (omega arith, (omega arith, tt)))))));
    }

end_ranked : (s : State) → Ranked forward (end_of_text_rules s)
unfolding rank provided◌then◌else◌ both
end_ranked s = record { numbered = (omega arith, (omega arith, tt)); ascends = (omega arith, (omega arith, tt)) }

-- for a choice between two lists
either_ranked : (b : Bool) (x y : List Rule) → Ranked forward x → Ranked forward y → Ranked forward (provided b then x else y)
either_ranked b x y h k = by_test (Ranked forward) b _ _ (λ e. h) (λ e. k)

path_ranked : (l : PathLine) (p : Path) (steps : ℕ) → Ranked forward (path_rules l p steps)
path_ranked l p steps =
    either_ranked (eqb p.stage closed) _ _ (either_ranked (both (eqb l.says says_side) p.side) _ _ (argument_ranked _) (line_refused_ranked true))
    (open_ranked l p steps)

line_ranked : (content : List ℕ) (s : State) → Ranked forward (line_rules content s)
line_ranked content s =
    either_ranked (is_text s.place) _ _ (none_ranked forward)
    (either_ranked (eqb s.place place.matrix) _ _ (data_ranked (data_line_of s.matrix.form content) s.matrix s.counts.values)
    (either_ranked (eqb s.place place.path) _ _ (path_ranked (path_line_of content) s.path s.counts.steps)
    (either_ranked (eqb s.place place.pin_list) _ _ (pin_ranked content s.map s.counts.pins)
    (either_ranked (eqb s.place place.map_head) _ _ (map_ranked (map_line_of content) s.map)
    (either_ranked (eqb s.place place.head) _ _ (head_ranked (head_line_of content) s.head)
    (either_ranked (eqb s.place place.list) _ _ (argument_ranked (is_reserved (first_of (words content)))) (line_refused_ranked true)))))))

-- the same for a line, by its rules
abbrev LineRanked : RulesAndNext → Type 0
LineRanked line = Ranked forward line.rules

brackets_ranked : (b : Bracket) (content : List ℕ) (s : State) → LineRanked (bracket_rules_and_next b content s)
brackets_ranked Plain content s = line_ranked content s
brackets_ranked Indented content s = by_test LineRanked (is_text s.place) _ _ (λ e. line_ranked content s) (λ e. bracket_ranked refusal.keyword (omega arith) true)
brackets_ranked Bad content s = bracket_ranked refusal.keyword (omega arith) true
brackets_ranked Unknown content s = bracket_ranked refusal.unknown (omega arith) true
brackets_ranked Later content s = bracket_ranked refusal.later (omega arith) true
brackets_ranked (Keyword k start) content s = keyword_ranked k (argument_from content start) s

before_ranked : (b : Bracket) (content : List ℕ) (s : State) → LineRanked (before_rules_and_next b content s)
before_ranked Plain content s = none_ranked forward
before_ranked Indented content s = none_ranked forward
before_ranked Bad content s = none_ranked forward
before_ranked Unknown content s = none_ranked forward
before_ranked Later content s = none_ranked forward
before_ranked (Keyword k start) content s = by_test LineRanked (eqb k begin_header) _ _ (λ e. keyword_ranked k (argument_from content start) s) (λ e. none_ranked forward)

rules_ranked : (content : List ℕ) (s : State) → Ranked forward (rules_on content s)
unfolding rules_and_next
rules_ranked content s =
    by_test LineRanked (is_blank_line content) _ _ (λ e. none_ranked forward)
    (λ e. by_test LineRanked (eqb s.place done) _ _ (λ f. none_ranked forward)
    (λ f. by_test LineRanked (eqb s.place before) _ _ (λ g. before_ranked (bracket_of content) content s) (λ g. brackets_ranked (bracket_of content) content s)))

-- ---- 2 to 4

-- the result of the byte rules, from what the looks give
abbrev pub checked_by : Given → Checked
checked_by given = provided eqb given.rule 0 then bytes.Fine else bytes.Refused given.rule given.line

pub characters_given : (n : ℕ) (ls : List Raw) → lines_rule n ls ≡ checked_by (given_by (character_rules_at_lines n ls))
unfolding lines_rule refused_or raw_line_rule character_rules_at_lines given_by
characters_given n [] = sym (if_true _ _ (eq-eqb 0 0 refl))
characters_given n (l ∷ ls) =
    by_cases _ (eqb (first_broken (character_rules l)) 0)
    (λ (e : eqb (first_broken (character_rules l)) 0 ≡ true). if_true _ _ e ∙ characters_given (n + 1) ls ∙ ap checked_by (sym (if_true _ _ e)))
    (λ (e : eqb (first_broken (character_rules l)) 0 ≡ false). if_false _ _ e ∙ sym (if_false _ _ e) ∙ ap checked_by (sym (if_false _ _ e)))

pub characters_ranked : (n : ℕ) (ls : List Raw) → AllRanked 2 (character_rules_at_lines n ls)
unfolding character_rules_at_lines
characters_ranked n [] = none
characters_ranked n (l ∷ ls) = more (character_ranked l) (characters_ranked (n + 1) ls)

-- a look on line n comes before a look on a later line
before_at : (n : ℕ) (rules : List Rule) (x : RulesAtLine) → 0 < n → n < x.line → Before (record { line = n; rules = rules }) x
before_at n rules x p l = record { above = λ q. (p, l); apart = λ (e : n ≡ x.line). omega arith }

characters_behind : (m : ℕ) (rules : List Rule) (n : ℕ) (ls : List Raw) → 0 < m → m < n → Each (Before (record { line = m; rules = rules })) (character_rules_at_lines n ls)
unfolding character_rules_at_lines
characters_behind m rules n [] p l = none
characters_behind m rules n (r ∷ ls) p l = more (before_at m rules _ p l) (characters_behind m rules (n + 1) ls p (omega arith))

pub characters_ordered : (n : ℕ) (ls : List Raw) → 0 < n → InOrder (character_rules_at_lines n ls)
unfolding character_rules_at_lines
characters_ordered n [] p = last
characters_ordered n (l ∷ ls) p = followed (characters_behind n (character_rules l) (n + 1) ls p (omega arith)) (characters_ordered (n + 1) ls (omega arith))

-- ---- 5 to 17

pub data Told : Reading → Given → Type 0 where
  read_on_lem : (c : Counts) {given : Given} → given.rule ≡ 0 → Told (Read c) given
  refused_at : (number line : ℕ) → (number ≡ 0 → ⊥) → Told (Refused number line) (record { rule = number; line = line })

-- the rules at the end of the text
module _ (s : State) where
  abbrev end_look : RulesAtLine
  end_look = record { line = 0; rules = end_of_text_rules s }

  alone : given_by (end_look ∷ []) ≡ (provided eqb (first_broken (end_of_text_rules s)) 0 then record { rule = 0; line = 0 } else record { rule = first_broken (end_of_text_rules s); line = 0 })
  unfolding given_by
  alone = refl

  end_told : Told (at_end s) (given_by (end_look ∷ []))
  unfolding at_end
  end_told =
      by_cases _ (eqb (first_broken (end_of_text_rules s)) 0)
      (λ (e : eqb (first_broken (end_of_text_rules s)) 0 ≡ true).
      rw (if_true {A = Reading} (Read s.counts) (Refused (first_broken (end_of_text_rules s)) 0) e) (read_on_lem s.counts (ap (λ (g : Given). g.rule) (alone ∙ if_true _ _ e))))
      (λ (e : eqb (first_broken (end_of_text_rules s)) 0 ≡ false).
      rw (if_false {A = Reading} (Read s.counts) (Refused (first_broken (end_of_text_rules s)) 0) e, alone ∙ if_false _ _ e) (refused_at (first_broken (end_of_text_rules s)) 0 (eqb-false _ _ e)))

module _ (step : LineResult) (n : ℕ) (more_lines : State → Reading) where
  on_kept : eqb step.rule 0 ≡ true → onward step n more_lines ≡ more_lines step.state
  unfolding onward
  on_kept e = if_true _ _ e

  on_broken : eqb step.rule 0 ≡ false → onward step n more_lines ≡ Refused step.rule n
  unfolding onward
  on_broken e = if_false _ _ e

pub forward_told : (n : ℕ) (ls : List Said) (s : State) → Told (read_from n ls s) (given_by (forward_rules_at_lines n ls s))
unfolding read_from forward_rules_at_lines
forward_told n [] s = end_told s
forward_told n (l ∷ ls) s =
    by_cases _ (eqb (first_broken (rules_on l.content s)) 0)
    (λ (e : eqb (first_broken (rules_on l.content s)) 0 ≡ true).
    let kept : eqb (line_result l.content s).rule 0 ≡ true = ap (λ (m : ℕ). eqb m 0) (step_number l.content s) ∙ e in
    rw (on_kept (line_result l.content s) n (read_from (n + 1) ls) kept, if_true {A = List RulesAtLine} (forward_rules_at_lines (n + 1) ls (line_result l.content s).state) [] e, given_later (record { line = n; rules = rules_on l.content s }) (forward_rules_at_lines (n + 1) ls (line_result l.content s).state) (eqb-true _ _ e)) (forward_told (n + 1) ls (line_result l.content s).state))
    (λ (e : eqb (first_broken (rules_on l.content s)) 0 ≡ false).
    let broken : eqb (line_result l.content s).rule 0 ≡ false = ap (λ (m : ℕ). eqb m 0) (step_number l.content s) ∙ e in
    rw (on_broken (line_result l.content s) n (read_from (n + 1) ls) broken, given_here (record { line = n; rules = rules_on l.content s }) (provided eqb (first_broken (rules_on l.content s)) 0 then forward_rules_at_lines (n + 1) ls (line_result l.content s).state else []) (eqb-false _ _ e), sym (step_number l.content s)) (refused_at (line_result l.content s).rule n (eqb-false _ _ broken)))

pub forward_ranked : (n : ℕ) (ls : List Said) (s : State) → AllRanked forward (forward_rules_at_lines n ls s)
unfolding forward_rules_at_lines
forward_ranked n [] s = more (end_ranked s) none
forward_ranked n (l ∷ ls) s =
    more (rules_ranked _ s)
    (by_test (AllRanked forward) (eqb (first_broken (rules_on l.content s)) 0) _ _ (λ e. forward_ranked (n + 1) ls (line_result l.content s).state) (λ e. none))

-- the end of the text comes last
before_end : (n : ℕ) (rules : List Rule) (s : State) → 0 < n → Before (record { line = n; rules = rules }) (end_look s)
before_end n rules s p = record { above = λ (q : 0 < 0). absurd (omega arith); apart = λ (e : n ≡ 0). omega arith }

forward_behind : (m : ℕ) (rules : List Rule) (n : ℕ) (ls : List Said) (s : State) → 0 < m → m < n → Each (Before (record { line = m; rules = rules })) (forward_rules_at_lines n ls s)
unfolding forward_rules_at_lines
forward_behind m rules n [] s p l = more (before_end m rules s p) none
forward_behind m rules n (r ∷ ls) s p l =
    more (before_at m rules _ p l)
    (by_test (Each (Before (record { line = m; rules = rules }))) (eqb (first_broken (rules_on r.content s)) 0) _ _ (λ e. forward_behind m rules (n + 1) ls (line_result r.content s).state p (omega arith)) (λ e. none))

pub forward_ordered : (n : ℕ) (ls : List Said) (s : State) → 0 < n → InOrder (forward_rules_at_lines n ls s)
unfolding forward_rules_at_lines
forward_ordered n [] s p = followed none last
forward_ordered n (l ∷ ls) s p =
    followed
    (by_test (Each (Before _)) (eqb (first_broken (rules_on l.content s)) 0) _ _ (λ e. forward_behind n _ (n + 1) ls (line_result l.content s).state p (omega arith)) (λ e. none))
    (by_test InOrder (eqb (first_broken (rules_on l.content s)) 0) _ _ (λ e. forward_ordered (n + 1) ls (line_result l.content s).state (omega arith)) (λ e. last))
