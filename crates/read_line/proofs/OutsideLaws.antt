-- Outside a path no fork is open: a keyword that leaves a path with a fork open breaks rule 15. And
-- what every line preserves holds after all lines.
-- Assumes nothing.
use mathlib.Core.Path.{◌≡◌, sym, ◌∙◌, subst}
use mathlib.Core.Bool.{Bool, true, false}
use mathlib.Core.List.{List, [], ◌∷◌}
use Prim.Native.Nat.{ℕ, ◌+◌, ◌≤◌, ◌<◌}
use native.Mathlib.Omega.{arith}
use lib.ListN.{length}
use lib.Dec.{eqb}
use borrow.Author.Tests.{ne_eqb, eqb-true, eqb-false, ltb-false}
use Rattle.base.specs.If.{provided◌then◌else◌}
use Rattle.base.specs.Refusal as refusal
use Rattle.base.proofs.IfLaws.{if_true, if_false, by_test, by_cases, both_rest}
use Rattle.base.proofs.BrokenLaws.{Numbered, all_kept}
use Rattle.lex_line.specs.Lines.{Said, is_blank_line}
use Rattle.lex_line.specs.Words.{words, first_of}
use Rattle.lex_keyword.specs.Names.{begin_header, tree_path_description}
use Rattle.lex_keyword.specs.Bracket.{bracket_of}
use Rattle.lex_keyword.specs.declared.Bracket.{Bracket}
use Rattle.lex_keyword.specs.declared.Bracket.TheVariants.{Plain, Indented, Bad, Unknown, Later, Keyword}
use Rattle.line_place.specs.Place.{is_text, before, done, moved_by_line}
use Rattle.line_place.specs.Place as place
use Rattle.line_path.specs.Path.{path_open, new_path}
use Rattle.line_path.specs.declared.Path.{Path}
use Rattle.line_path.proofs.DepthLaws.{new_outside}
use Rattle.line_keyword.specs.Keywords.{is_fork_open, is_misplaced, path_after, keyword_rules, keyword_next}
use Rattle.line_keyword.specs.State.{start_state}
use Rattle.line_keyword.specs.declared.State.{State}
use Rattle.line_keyword.specs.Way.Rule.{keyword_rule}
use Rattle.read_line.specs.Reading.{goes, breaks, judged, line_next, argument_from, line_result}
use Rattle.read_line.specs.Way.Steps.{line_step, keyword_step, bracket_step, before_step, line_rule}
use Rattle.read_line.specs.Way.Trace.{broken_at, afterwards, meeting_of, meetings, state_after, AllGo}
use Rattle.read_line.specs.declared.LineResult.{LineResult}
use Rattle.read_line.proofs.ResultLaws.{result_steps}
use Rattle.read_line.proofs.ReadingLaws.{meet_goes, meet_stops, by_broken, head_goes, tail_goes}

-- ---- what lines with and without a keyword preserve, every line preserves

-- where a keyword is looked at: not after [End], and above the header only [Begin Header]
pub record Met (k : ℕ) (s : State) : Type 0 where
  pub on : s.place ≡ done → ⊥
  pub first : s.place ≡ before → k ≡ begin_header

module _ (P : State → Type 0) where
  -- if the line breaks nothing, P holds of the state after it
  abbrev Holds : LineResult → Type 0
  Holds step = step.rule ≡ 0 → P step.state

  holds_goes : (s : State) → P s → Holds (goes s)
  unfolding goes
  holds_goes s h z = h

  holds_breaks : (k : ℕ) (s : State) → 0 < k → Holds (breaks k s)
  unfolding breaks
  holds_breaks k s h z = absurd (omega arith)

  holds_judged : (k : ℕ) (next s : State) → (k ≡ 0 → P next) → Holds (judged k next s)
  unfolding judged goes breaks
  holds_judged k next s h =
      by_cases (Holds (judged k next s)) (eqb k 0)
      (λ (e : eqb k 0 ≡ true). rw (if_true {b = eqb k 0} (goes next) (breaks k s) e) (λ (z : ◌≡◌ {A = ℕ} 0 0). h (eqb-true _ _ e)))
      (λ (e : eqb k 0 ≡ false). rw (if_false {b = eqb k 0} (goes next) (breaks k s) e) (λ (z : k ≡ 0). absurd (eqb-false k 0 e z)))

  -- whichever of two results a test chooses
  holds_if : (b : Bool) (x y : LineResult) → Holds x → Holds y → Holds (provided b then x else y)
  unfolding provided◌then◌else◌
  holds_if true x y h k = h
  holds_if false x y h k = k

  module _ (by_line : (content : List ℕ) (s : State) → P s → line_rule content s ≡ 0 → P (line_next content s)) (by_keyword : (k : ℕ) (argument : List ℕ) (s : State) → Met k s → P s → keyword_rule k argument s ≡ 0 → P (keyword_next k argument s)) where
    holds_line : (content : List ℕ) (s : State) → P s → Holds (line_step content s)
    unfolding line_step
    holds_line content s h = holds_judged (line_rule content s) (line_next content s) s (by_line content s h)

    holds_keyword : (k : ℕ) (argument : List ℕ) (s : State) → Met k s → P s → Holds (keyword_step k argument s)
    unfolding keyword_step
    holds_keyword k argument s met h = holds_judged (keyword_rule k argument s) (keyword_next k argument s) s (by_keyword k argument s met h)

    holds_bracket : (b : Bracket) (content : List ℕ) (s : State) → ((k : ℕ) → Met k s) → P s → Holds (bracket_step b content s)
    holds_bracket Plain content s met h = holds_line content s h
    holds_bracket Indented content s met h = holds_if (is_text s.place) _ _ (holds_line content s h) (holds_breaks refusal.keyword s (omega arith))
    holds_bracket Bad content s met h = holds_breaks refusal.keyword s (omega arith)
    holds_bracket Unknown content s met h = holds_breaks refusal.unknown s (omega arith)
    holds_bracket Later content s met h = holds_breaks refusal.later s (omega arith)
    holds_bracket (Keyword key start) content s met h = holds_keyword key (argument_from content start) s (met key) h

    holds_before : (b : Bracket) (content : List ℕ) (s : State) → (s.place ≡ done → ⊥) → P s → Holds (before_step b content s)
    holds_before Plain content s on h = holds_goes s h
    holds_before Indented content s on h = holds_goes s h
    holds_before Bad content s on h = holds_goes s h
    holds_before Unknown content s on h = holds_goes s h
    holds_before Later content s on h = holds_goes s h
    holds_before (Keyword key start) content s on h =
        by_test (λ (x : LineResult). Holds x) (eqb key begin_header) _ _
        (λ (e : eqb key begin_header ≡ true).
        holds_keyword key (argument_from content start) s (record { on = on; first = λ (b : s.place ≡ before). eqb-true key begin_header e }) h)
        (λ (e : eqb key begin_header ≡ false). holds_goes s h)

    pub step_holds : (content : List ℕ) (s : State) → P s → (line_result content s).rule ≡ 0 → P (line_result content s).state
    step_holds content s h =
        rw (result_steps content s)
        (holds_if (is_blank_line content) _ _ (holds_goes s h)
        (by_test (λ (x : LineResult). Holds x) (eqb s.place done) _ _
        (λ (d : eqb s.place done ≡ true). holds_goes s h)
        (λ (d : eqb s.place done ≡ false).
        by_test (λ (x : LineResult). Holds x) (eqb s.place before) _ _
        (λ (b : eqb s.place before ≡ true). holds_before (bracket_of content) content s (eqb-false _ _ d) h)
        (λ (b : eqb s.place before ≡ false).
        holds_bracket (bracket_of content) content s
        (λ (k : ℕ). record { on = eqb-false _ _ d; first = λ (e : s.place ≡ before). absurd (eqb-false _ _ b e) }) h))))

-- ---- what every line preserves holds after all lines

-- n is the first line, m is how many lines are above it
pub along_counted : (P : ℕ → State → Type 0) → ((m : ℕ) (content : List ℕ) (s : State) → P m s → (line_result content s).rule ≡ 0 → P (m + 1) (line_result content s).state) → (m n : ℕ) (ls : List Said) (s : State) → P m s → AllGo (meetings n ls s) → P (m + length ls) (state_after n ls s)
unfolding state_after
along_counted P step m n [] s h a =
    let e : m ≡ m + 0 = omega arith in
    subst (λ (k : ℕ). P k s) e h
along_counted P step m n (l ∷ ls) s h a =
    by_broken (P (m + length (l ∷ ls)) (state_after n (l ∷ ls) s)) (meeting_of n l s)
    (λ (z : broken_at (meeting_of n l s) ≡ 0).
    let b : AllGo (meeting_of n l s ∷ meetings (n + 1) ls (afterwards (meeting_of n l s))) = rw (meet_goes n l ls s z) at a in
    let e : m + 1 + length ls ≡ m + length (l ∷ ls) = omega arith in
    subst (λ (k : ℕ). P k (state_after (n + 1) ls (afterwards (meeting_of n l s)))) e
    (along_counted P step (m + 1) (n + 1) ls (afterwards (meeting_of n l s)) (step m (meeting_of n l s).content s h z) (tail_goes _ _ b)))
    (λ (z : broken_at (meeting_of n l s) ≡ 0 → ⊥).
    let b : AllGo (meeting_of n l s ∷ []) = rw (meet_stops n l ls s z) at a in
    absurd (z (head_goes _ _ b)))

pub along : (P : State → Type 0) → ((content : List ℕ) (s : State) → P s → (line_result content s).rule ≡ 0 → P (line_result content s).state) → (n : ℕ) (ls : List Said) (s : State) → P s → AllGo (meetings n ls s) → P (state_after n ls s)
along P step n ls s h a = along_counted (λ (m : ℕ) (r : State). P r) (λ (m : ℕ). step) 0 n ls s h a

-- ---- the first two rules of a keyword that breaks none

module _ (k : ℕ) (argument : List ℕ) (s : State) where
  numbered : Numbered (keyword_rules k argument s)
  numbered = (omega arith, (omega arith, (omega arith, (omega arith, (omega arith, (omega arith, (omega arith, tt)))))))

  module _ (kept : keyword_rule k argument s ≡ 0) where
    pub keyword_closed : is_fork_open s ≡ false
    unfolding keyword_rule
    keyword_closed = all_kept (keyword_rules k argument s) numbered kept 0

    pub keyword_placed : is_misplaced k s ≡ false
    unfolding keyword_rule
    keyword_placed = all_kept (keyword_rules k argument s) numbered kept 1

-- ---- outside a path no fork is open

pub record Outside (s : State) : Type 0 where
  pub flat : (s.place ≡ place.path → ⊥) → s.path.depth ≡ 0

pub start_outside : Outside start_state
unfolding start_state
start_outside = record { flat = λ (h : place.before ≡ place.path → ⊥). new_outside }

-- nor in a path whose forks are all closed
closed_flat : (s : State) → is_fork_open s ≡ false → s.place ≡ place.path → s.path.depth ≡ 0
unfolding is_fork_open path_open
closed_flat s closed e =
    let b : eqb s.place place.path ≡ true = rw e in
    let h : s.path.depth ≤ 0 = ltb-false 0 s.path.depth (sym (both_rest _ _ b) ∙ closed) in
    omega arith

pub keyword_flat : (s : State) → Outside s → is_fork_open s ≡ false → s.path.depth ≡ 0
keyword_flat s h closed =
    by_cases (s.path.depth ≡ 0) (eqb s.place place.path)
    (λ (e : eqb s.place place.path ≡ true). closed_flat s closed (eqb-true _ _ e))
    (λ (e : eqb s.place place.path ≡ false). h.flat (eqb-false _ _ e))

pub path_flat : (k : ℕ) (p : Path) → p.depth ≡ 0 → (path_after k p).depth ≡ 0
unfolding path_after
path_flat k p h =
    by_test (λ (q : Path). q.depth ≡ 0) (eqb k tree_path_description) new_path p
    (λ (e : eqb k tree_path_description ≡ true). new_outside)
    (λ (e : eqb k tree_path_description ≡ false). h)

pub keyword_outside : (k : ℕ) (argument : List ℕ) (s : State) → Met k s → Outside s → keyword_rule k argument s ≡ 0 → Outside (keyword_next k argument s)
unfolding keyword_next
keyword_outside k argument s met h kept =
    let f : s.path.depth ≡ 0 = keyword_flat s h (keyword_closed k argument s kept) in
    record { flat = λ z. path_flat k s.path f }

-- no line without a keyword leaves a path
path_stays : (p : ℕ) (first : List ℕ) → p ≡ place.path → moved_by_line p first ≡ place.path
unfolding moved_by_line
path_stays p first e =
    let n : eqb p place.map_head ≡ false = ne_eqb p place.map_head (λ (g : p ≡ place.map_head). omega arith) in
    if_false _ _ n ∙ e

pub line_outside : (content : List ℕ) (s : State) → Outside s → line_rule content s ≡ 0 → Outside (line_next content s)
unfolding line_next
line_outside content s h kept =
    record {
      flat = λ (away : moved_by_line s.place (first_of (words content)) ≡ place.path → ⊥).
          by_test (λ (p : Path). p.depth ≡ 0) (eqb s.place place.path) _ _
          (λ (e : eqb s.place place.path ≡ true). absurd (away (path_stays s.place (first_of (words content)) (eqb-true _ _ e))))
          (λ (e : eqb s.place place.path ≡ false). h.flat (eqb-false _ _ e));
    }

pub step_outside : (content : List ℕ) (s : State) → Outside s → (line_result content s).rule ≡ 0 → Outside (line_result content s).state
step_outside content s h z = step_holds Outside line_outside keyword_outside content s h z

-- so no fork is open where a model has ended, nor in any other place outside its path
pub models_end_flat : (content : List ℕ) (s : State) → Outside s → (line_result content s).rule ≡ 0 → ((line_result content s).state.place ≡ place.path → ⊥) → (line_result content s).state.path.depth ≡ 0
models_end_flat content s h z away = (step_outside content s h z).flat away
