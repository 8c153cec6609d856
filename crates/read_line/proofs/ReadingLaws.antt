-- The laws of the forward reading: a text reads to its end exactly when no line breaks a rule and
-- [End] is reached; a refusal gives the first line that breaks a rule, with the first rule of its
-- list; and what holds in every state on the way.
-- Assumes nothing.
use mathlib.Core.Path.{◌≡◌, refl, sym, ◌∙◌, ap, subst}
use mathlib.Core.Bool.{true, false}
use mathlib.Core.List.{List, [], ◌∷◌}
use Prim.Native.Nat.{ℕ, ◌+◌, ◌<◌}
use native.Mathlib.Omega.{arith}
use lib.Dec.{eqb}
use borrow.Author.Tests.{eq-eqb, ne_eqb, eqb-true, eqb-false}
use Rattle.base.specs.Broken.{first_broken}
use Rattle.base.proofs.IfLaws.{if_true, if_false, by_cases}
use Rattle.lex_line.specs.Lines.{Said, contents}
use Rattle.line_keyword.specs.State.{start_state}
use Rattle.line_keyword.specs.declared.Counts.{Counts}
use Rattle.line_keyword.specs.declared.State.{State}
use Rattle.line_place.specs.Place.{done}
use Rattle.read_line.specs.Reading.{onward, read_from, end_of_text_rules, at_end, reading_of}
use Rattle.read_line.specs.Way.Trace.{Meeting, broken_at, afterwards, meeting_of, meetings, state_after, AllGo, none, more, FirstBroken, here, later}
use Rattle.read_line.specs.declared.Reading.TheVariants.{Read, Refused}
use Rattle.read_line.proofs.ResultLaws.{refused_not_read, end_read, end_done}

-- ---- the reading, line by line

module _ (n : ℕ) (l : Said) (ls : List Said) (s : State) where
  run_goes : broken_at (meeting_of n l s) ≡ 0 → read_from n (l ∷ ls) s ≡ read_from (n + 1) ls (afterwards (meeting_of n l s))
  unfolding read_from onward
  run_goes e = if_true _ _ (eq-eqb _ _ e)

  run_stops : (broken_at (meeting_of n l s) ≡ 0 → ⊥) → read_from n (l ∷ ls) s ≡ Refused (broken_at (meeting_of n l s)) n
  unfolding read_from onward
  run_stops e = if_false _ _ (ne_eqb _ _ e)

  pub meet_goes : broken_at (meeting_of n l s) ≡ 0 → meetings n (l ∷ ls) s ≡ meeting_of n l s ∷ meetings (n + 1) ls (afterwards (meeting_of n l s))
  unfolding meetings
  meet_goes e = ap (λ (ms : List Meeting). meeting_of n l s ∷ ms) (if_true _ _ (eq-eqb _ _ e))

  pub meet_stops : (broken_at (meeting_of n l s) ≡ 0 → ⊥) → meetings n (l ∷ ls) s ≡ meeting_of n l s ∷ []
  unfolding meetings
  meet_stops e = ap (λ (ms : List Meeting). meeting_of n l s ∷ ms) (if_false _ _ (ne_eqb _ _ e))

-- by whether a line breaks something
pub by_broken : (P : Type 0) (m : Meeting) → (broken_at m ≡ 0 → P) → ((broken_at m ≡ 0 → ⊥) → P) → P
by_broken P m h k = by_cases P (eqb (broken_at m) 0) (λ (e : eqb (broken_at m) 0 ≡ true). h (eqb-true _ _ e)) (λ (e : eqb (broken_at m) 0 ≡ false). k (eqb-false _ _ e))

pub head_goes : (m : Meeting) (ms : List Meeting) → AllGo (m ∷ ms) → broken_at m ≡ 0
head_goes m ms (more e rest) = e

pub tail_goes : (m : Meeting) (ms : List Meeting) → AllGo (m ∷ ms) → AllGo ms
tail_goes m ms (more e rest) = rest

-- ---- the answers told apart

-- a refusal at the end of the text has line 0
end_not_line : (s : State) (k m : ℕ) → 0 < m → at_end s ≡ Refused k m → ⊥
unfolding at_end
end_not_line s k m h e =
    by_cases ⊥ (eqb (first_broken (end_of_text_rules s)) 0)
    (λ (d : eqb (first_broken (end_of_text_rules s)) 0 ≡ true). refused_not_read k m s.counts (sym e ∙ if_true _ _ d))
    (λ (d : eqb (first_broken (end_of_text_rules s)) 0 ≡ false).
    let r : Refused (first_broken (end_of_text_rules s)) 0 ≡ Refused k m = sym (if_false _ _ d) ∙ e in
    let z : 0 ≡ m = cc in
    omega arith)

refused_here : (m : Meeting) (k n : ℕ) → (broken_at m ≡ 0 → ⊥) → Refused (broken_at m) m.line ≡ Refused k n → FirstBroken k n (m ∷ [])
refused_here m k n z e =
    let a : broken_at m ≡ k = cc in
    let b : m.line ≡ n = cc in
    subst (λ (x : ℕ). FirstBroken x n (m ∷ [])) a (subst (λ (x : ℕ). FirstBroken (broken_at m) x (m ∷ [])) b (here z))

abbrev Filled : List Meeting → Type 0
Filled [] = ⊥
Filled (m ∷ ms) = Unit {0}

first_filled : (ms : List Meeting) (k n : ℕ) → FirstBroken k n ms → Filled ms
first_filled _ _ _ (here b) = tt
first_filled _ k n (later e f) = tt

no_first : (k n : ℕ) → FirstBroken k n [] → ⊥
no_first k n f = first_filled [] k n f

first_later : (m : Meeting) (ms : List Meeting) (k n : ℕ) → broken_at m ≡ 0 → FirstBroken k n (m ∷ ms) → FirstBroken k n ms
first_later m ms _ _ z (here b) = absurd (b z)
first_later m ms k n z (later e f) = f

first_here : (m : Meeting) (k n : ℕ) → (broken_at m ≡ 0 → ⊥) → FirstBroken k n (m ∷ []) → Refused (broken_at m) m.line ≡ Refused k n
first_here m _ _ z (here b) = refl
first_here m k n z (later e f) = absurd (z e)

-- ---- no rule broken: the last state gives the result

pub all_read : (n : ℕ) (ls : List Said) (s : State) → AllGo (meetings n ls s) → read_from n ls s ≡ at_end (state_after n ls s)
unfolding state_after read_from
all_read n [] s a = refl
all_read n (l ∷ ls) s a =
    by_broken (read_from n (l ∷ ls) s ≡ at_end (state_after n (l ∷ ls) s)) (meeting_of n l s)
    (λ (e : broken_at (meeting_of n l s) ≡ 0).
    let b : AllGo (meeting_of n l s ∷ meetings (n + 1) ls (afterwards (meeting_of n l s))) = rw (meet_goes n l ls s e) at a in
    run_goes n l ls s e ∙ all_read (n + 1) ls (afterwards (meeting_of n l s)) (tail_goes _ _ b))
    (λ (e : broken_at (meeting_of n l s) ≡ 0 → ⊥).
    let b : AllGo (meeting_of n l s ∷ []) = rw (meet_stops n l ls s e) at a in
    absurd (e (head_goes _ _ b)))

-- ---- read to its end: no rule was broken

pub read_goes : (n : ℕ) (ls : List Said) (s : State) (c : Counts) → read_from n ls s ≡ Read c → AllGo (meetings n ls s)
unfolding meetings
read_goes n [] s c e = none
read_goes n (l ∷ ls) s c e =
    by_broken (AllGo (meetings n (l ∷ ls) s)) (meeting_of n l s)
    (λ (z : broken_at (meeting_of n l s) ≡ 0). rw (meet_goes n l ls s z) (more z (read_goes (n + 1) ls (afterwards (meeting_of n l s)) c (sym (run_goes n l ls s z) ∙ e))))
    (λ (z : broken_at (meeting_of n l s) ≡ 0 → ⊥). absurd (refused_not_read _ _ c (sym (run_stops n l ls s z) ∙ e)))

-- ---- refused: the first line that breaks a rule

pub refused_first : (n : ℕ) (ls : List Said) (s : State) (k m : ℕ) → 0 < m → read_from n ls s ≡ Refused k m → FirstBroken k m (meetings n ls s)
unfolding read_from
refused_first n [] s k m h e = absurd (end_not_line s k m h e)
refused_first n (l ∷ ls) s k m h e =
    by_broken (FirstBroken k m (meetings n (l ∷ ls) s)) (meeting_of n l s)
    (λ (z : broken_at (meeting_of n l s) ≡ 0). rw (meet_goes n l ls s z) (later z (refused_first (n + 1) ls (afterwards (meeting_of n l s)) k m h (sym (run_goes n l ls s z) ∙ e))))
    (λ (z : broken_at (meeting_of n l s) ≡ 0 → ⊥).
    let r : Refused (broken_at (meeting_of n l s)) n ≡ Refused k m = sym (run_stops n l ls s z) ∙ e in
    rw (meet_stops n l ls s z) (refused_here (meeting_of n l s) k m z r))

pub first_refused : (n : ℕ) (ls : List Said) (s : State) (k m : ℕ) → FirstBroken k m (meetings n ls s) → read_from n ls s ≡ Refused k m
unfolding meetings
first_refused n [] s k m f = absurd (no_first k m f)
first_refused n (l ∷ ls) s k m f =
    by_broken (read_from n (l ∷ ls) s ≡ Refused k m) (meeting_of n l s)
    (λ (z : broken_at (meeting_of n l s) ≡ 0).
    let g : FirstBroken k m (meeting_of n l s ∷ meetings (n + 1) ls (afterwards (meeting_of n l s))) = rw (meet_goes n l ls s z) at f in
    run_goes n l ls s z ∙ first_refused (n + 1) ls (afterwards (meeting_of n l s)) k m (first_later _ _ k m z g))
    (λ (z : broken_at (meeting_of n l s) ≡ 0 → ⊥).
    let g : FirstBroken k m (meeting_of n l s ∷ []) = rw (meet_stops n l ls s z) at f in
    run_stops n l ls s z ∙ first_here _ k m z g)

-- ---- a whole text

-- it reads to its end exactly when no line that is reached breaks a rule and the last place is after [End]
pub reads_when : (t : List ℕ) → AllGo (meetings 1 (contents t) start_state) → (state_after 1 (contents t) start_state).place ≡ done → reading_of t ≡ Read (state_after 1 (contents t) start_state).counts
unfolding reading_of
reads_when t a p = all_read 1 (contents t) start_state a ∙ sym (end_read (state_after 1 (contents t) start_state) p)

pub reads_only : (t : List ℕ) (c : Counts) → reading_of t ≡ Read c → AllGo (meetings 1 (contents t) start_state)
unfolding reading_of
reads_only t c e = read_goes 1 (contents t) start_state c e

pub reads_done : (t : List ℕ) (c : Counts) → reading_of t ≡ Read c → (state_after 1 (contents t) start_state).place ≡ done
unfolding reading_of
reads_done t c e = (end_done (state_after 1 (contents t) start_state) c (sym (all_read 1 (contents t) start_state (reads_only t c e)) ∙ e)).0
