-- A text that reads to its end, line by line: how each significant line changes the state. The laws of
-- the document of such a text are proved with this.
-- Assumes nothing.
use mathlib.Core.Path.{◌≡◌, refl, sym, ◌∙◌, ap}
use mathlib.Core.Bool.{Bool, true, false}
use mathlib.Core.List.{List, [], ◌∷◌}
use Prim.Native.Nat.{ℕ, ◌+◌, ◌<◌}
use native.Mathlib.Omega.{arith}
use lib.Dec.{eqb}
use borrow.Author.Tests.{eq-eqb, ne_eqb, eqb-true, eqb-false}
use Rattle.base.specs.If.{provided◌then◌else◌, either}
use Rattle.base.proofs.IfLaws.{if_true, if_false, by_cases}
use Rattle.lex_line.specs.Lines.{Said, is_blank_line, contents}
use Rattle.lex_keyword.specs.Names.{begin_header}
use Rattle.lex_keyword.specs.Bracket.{bracket_of}
use Rattle.lex_keyword.specs.declared.Bracket.{Bracket}
use Rattle.lex_keyword.specs.declared.Bracket.TheVariants.{Plain, Indented, Bad, Unknown, Later, Keyword}
use Rattle.lex_keyword.proofs.AnswerLaws.{keyword_known}
use Rattle.line_place.specs.Place.{moved, moved_by_line, is_text, is_in_model, is_in_family, is_in_header, before, done}
use Rattle.line_keyword.specs.State.{start_state}
use Rattle.line_keyword.specs.Keywords.{keyword_next}
use Rattle.line_keyword.specs.declared.Counts.{Counts}
use Rattle.line_keyword.specs.declared.State.{State}
use Rattle.line_keyword.specs.Way.Rule.{keyword_rule}
use Rattle.read_line.specs.Reading.{line_next, argument_from, goes, breaks, judged, line_result, onward, read_from, at_end, reading_of}
use Rattle.read_line.specs.Way.Steps.{line_step, keyword_step, bracket_step, before_step, line_rule}
use Rattle.read_line.proofs.ResultLaws.{result_steps, refused_not_read, end_done}
use Rattle.read_line.proofs.OutsideLaws.{Met}
use Rattle.read_line.specs.declared.LineResult.{LineResult}
use Rattle.read_line.specs.declared.Reading.TheVariants.{Read}
use Rattle.doc.specs.Lines.{Line, plain, key_in, argument_in, key_at, place_after, lines_from, lines_at, significant, key_of, argument_of}

-- a line that is skipped: after [End], or above [Begin Header]
pub data Idle (l : Line) (s : State) : Type 0 where
  ended : s.place ≡ done → Idle l s
  waits : s.place ≡ before → eqb (key_of l) begin_header ≡ false → Idle l s

-- what a line that breaks no rule does
pub data Moves (l : Line) (s : State) : State → Type 0 where
  idle : Idle l s → Moves l s s
  plainly : key_of l ≡ plain → line_rule l.content s ≡ 0 → Moves l s (line_next l.content s)
  keyed : eqb (key_of l) plain ≡ false → keyword_rule (key_of l) (argument_of l).text s ≡ 0 → Moves l s (keyword_next (key_of l) (argument_of l).text s)

pub data Goes : State → List Line → State → Type 0 where
  none : {s : State} → Goes s [] s
  more : {s s' e : State} {l : Line} {ls : List Line} → l.place ≡ s.place → is_blank_line l.content ≡ false → Moves l s s' → Goes s' ls e → Goes s (l ∷ ls) e

-- a keyword that changes the state is one that is looked at: not after [End], and above the header only [Begin Header]
abbrev pub MetBy : {l : Line} {s s' : State} → Moves l s s' → Type 0
MetBy (idle i) = Unit {0}
MetBy (plainly k h) = Unit {0}
MetBy {l} {s} (keyed k h) = Met (key_of l) s

abbrev pub AllMet : {s e : State} {ls : List Line} → Goes s ls e → Type 0
AllMet none = Unit {0}
AllMet (more p b m g) = MetBy m × AllMet g

-- the lines lead to the end of the file, with these counts
pub record Ends (s : State) (ls : List Line) (c : Counts) : Type 0 where
  pub end : State
  pub goes : Goes s ls end
  pub met : AllMet goes
  pub done : end.place ≡ done
  pub counts : end.counts ≡ c

-- ---- one line

pub record Moved (l : Line) (s : State) : Type 0 where
  pub next : State
  pub moves : Moves l s next
  pub met : MetBy moves
  pub is_next : (line_result l.content s).state ≡ next

judged_zero : (k : ℕ) (next s : State) → (judged k next s).rule ≡ 0 → k ≡ 0
unfolding judged breaks
judged_zero k next s =
    by_cases ((judged k next s).rule ≡ 0 → k ≡ 0) (eqb k 0)
    (λ (e : eqb k 0 ≡ true) (h : (judged k next s).rule ≡ 0). eqb-true _ _ e)
    (λ (e : eqb k 0 ≡ false) (h : (judged k next s).rule ≡ 0). ap (λ (x : LineResult). x.rule) (sym (if_false (goes next) (breaks k s) e)) ∙ h)

judged_next : (k : ℕ) (next s : State) → k ≡ 0 → (judged k next s).state ≡ next
unfolding judged goes
judged_next k next s e = ap (λ (x : LineResult). x.state) (if_true (goes next) (breaks k s) (eq-eqb _ _ e))

module _ (l : Line) (s : State) where
  module _ (k start : ℕ) (b : bracket_of l.content ≡ Keyword k start) where
    key_is : key_of l ≡ k
    unfolding key_of key_at
    key_is = ap key_in b

    argument_is : (argument_of l).text ≡ argument_from l.content start
    unfolding argument_of
    argument_is = ap (λ (x : Bracket). argument_from l.content (argument_in x)) b

    key_keyed : eqb (key_of l) plain ≡ false
    key_keyed =
        let h : k < 40 = (keyword_known k start l.content b).known in
        ne_eqb _ _ (λ (e : key_of l ≡ plain). let z : k ≡ 41 = sym key_is ∙ e in omega arith)

    by_keyword : Met k s → (keyword_step k (argument_from l.content start) s).rule ≡ 0 → line_result l.content s ≡ keyword_step k (argument_from l.content start) s → Moved l s
    unfolding keyword_step
    by_keyword met h e =
        let z : keyword_rule k (argument_from l.content start) s ≡ 0 = judged_zero _ _ _ h in
        let r : keyword_rule (key_of l) (argument_of l).text s ≡ 0 = rw (key_is, argument_is) z in
        record {
          next = keyword_next (key_of l) (argument_of l).text s;
          moves = keyed key_keyed r;
          met = rw key_is met;
          is_next = ap (λ (x : LineResult). x.state) e ∙ judged_next _ _ _ z ∙ (λ i. keyword_next (sym key_is i) (sym argument_is i) s);
        }

  by_line : key_of l ≡ plain → (line_step l.content s).rule ≡ 0 → line_result l.content s ≡ line_step l.content s → Moved l s
  unfolding line_step
  by_line k h e =
      let z : line_rule l.content s ≡ 0 = judged_zero _ _ _ h in
      record { next = line_next l.content s; moves = plainly k z; met = tt; is_next = ap (λ (x : LineResult). x.state) e ∙ judged_next _ _ _ z }

  -- by its bracket, in a place in which lines are read
  read_moved : ((k : ℕ) → Met k s) → (b : Bracket) → bracket_of l.content ≡ b → line_result l.content s ≡ bracket_step b l.content s → (bracket_step b l.content s).rule ≡ 0 → Moved l s
  unfolding breaks key_of key_at
  read_moved met Plain b e h = by_line (ap key_in b) h e
  read_moved met Indented b e h =
      by_cases (Moved l s) (is_text s.place)
      (λ (t : is_text s.place ≡ true). let x : bracket_step Indented l.content s ≡ line_step l.content s = if_true _ _ t in by_line (ap key_in b) (ap (λ (y : LineResult). y.rule) (sym x) ∙ h) (e ∙ x))
      (λ (t : is_text s.place ≡ false). let x : bracket_step Indented l.content s ≡ breaks 6 s = if_false _ _ t in let z : ◌≡◌ {A = ℕ} 6 0 = ap (λ (y : LineResult). y.rule) (sym x) ∙ h in absurd (omega arith))
  read_moved met Bad b e h = absurd (omega (arith, h))
  read_moved met Unknown b e h = absurd (omega (arith, h))
  read_moved met Later b e h = absurd (omega (arith, h))
  read_moved met (Keyword k start) b e h = by_keyword k start b (met k) h e

  -- above [Begin Header]
  early_met : (k : ℕ) → k ≡ begin_header → s.place ≡ before → Met k s
  early_met k e p = record { on = λ (d : s.place ≡ done). omega arith; first = λ (b : s.place ≡ before). e }

  passed_over : s.place ≡ before → eqb (key_of l) begin_header ≡ false → line_result l.content s ≡ goes s → Moved l s
  unfolding goes
  passed_over p k e = record { next = s; moves = idle (waits p k); met = tt; is_next = ap (λ (y : LineResult). y.state) e }

  not_header : (k : ℕ) → key_of l ≡ k → (k ≡ begin_header → ⊥) → eqb (key_of l) begin_header ≡ false
  not_header k e h = ne_eqb _ _ (λ (x : key_of l ≡ begin_header). h (sym e ∙ x))

  early_moved : (b : Bracket) → bracket_of l.content ≡ b → s.place ≡ before → line_result l.content s ≡ before_step b l.content s → (before_step b l.content s).rule ≡ 0 → Moved l s
  unfolding key_of key_at
  early_moved Plain b p e h = passed_over p (not_header 41 (ap key_in b) (λ (x : 41 ≡ 15). omega arith)) e
  early_moved Indented b p e h = passed_over p (not_header 41 (ap key_in b) (λ (x : 41 ≡ 15). omega arith)) e
  early_moved Bad b p e h = passed_over p (not_header 40 (ap key_in b) (λ (x : 40 ≡ 15). omega arith)) e
  early_moved Unknown b p e h = passed_over p (not_header 40 (ap key_in b) (λ (x : 40 ≡ 15). omega arith)) e
  early_moved Later b p e h = passed_over p (not_header 40 (ap key_in b) (λ (x : 40 ≡ 15). omega arith)) e
  early_moved (Keyword k start) b p e h =
      by_cases (Moved l s) (eqb k begin_header)
      (λ (t : eqb k begin_header ≡ true). let x : before_step (Keyword k start) l.content s ≡ keyword_step k (argument_from l.content start) s = if_true _ _ t in by_keyword k start b (early_met k (eqb-true _ _ t) p) (ap (λ (y : LineResult). y.rule) (sym x) ∙ h) (e ∙ x))
      (λ (t : eqb k begin_header ≡ false). let x : before_step (Keyword k start) l.content s ≡ goes s = if_false _ _ t in passed_over p (not_header k (ap key_in b) (eqb-false _ _ t)) (e ∙ x))

  pub line_moves : is_blank_line l.content ≡ false → (line_result l.content s).rule ≡ 0 → Moved l s
  unfolding goes
  line_moves blank h =
      by_cases (Moved l s) (eqb s.place done)
      (λ (d : eqb s.place done ≡ true). record { next = s; moves = idle (ended (eqb-true _ _ d)); met = tt; is_next = ap (λ (y : LineResult). y.state) (result_steps l.content s ∙ if_false _ _ blank ∙ if_true _ _ d) })
      (λ (d : eqb s.place done ≡ false).
      by_cases (Moved l s) (eqb s.place before)
      (λ (p : eqb s.place before ≡ true).
      let x : line_result l.content s ≡ before_step (bracket_of l.content) l.content s = result_steps l.content s ∙ if_false _ _ blank ∙ if_false _ _ d ∙ if_true _ _ p in
      early_moved (bracket_of l.content) refl (eqb-true _ _ p) x (ap (λ (y : LineResult). y.rule) (sym x) ∙ h))
      (λ (p : eqb s.place before ≡ false).
      let x : line_result l.content s ≡ bracket_step (bracket_of l.content) l.content s = result_steps l.content s ∙ if_false _ _ blank ∙ if_false _ _ d ∙ if_false _ _ p in
      read_moved (λ (k : ℕ). record { on = eqb-false _ _ d; first = λ (f : s.place ≡ before). absurd (eqb-false _ _ p f) }) (bracket_of l.content) refl x (ap (λ (y : LineResult). y.rule) (sym x) ∙ h)))

-- ---- places

done_stays : (content : List ℕ) → place_after done content ≡ done
unfolding place_after moved_by_line moved provided◌then◌else◌ is_in_model is_in_family is_in_header either
done_stays content = by_cases (place_after done content ≡ done) (eqb (key_at content) plain) (λ (e : eqb (key_at content) plain ≡ true). rw e) (λ (e : eqb (key_at content) plain ≡ false). rw e)

before_stays : (content : List ℕ) → eqb (key_at content) begin_header ≡ false → place_after before content ≡ before
unfolding place_after moved_by_line moved provided◌then◌else◌ is_in_model is_in_family is_in_header either
before_stays content h =
    by_cases (place_after before content ≡ before) (eqb (key_at content) plain)
    (λ (e : eqb (key_at content) plain ≡ true). rw e)
    (λ (e : eqb (key_at content) plain ≡ false). rw (e, h))

plain_place : (l : Line) (s : State) → key_of l ≡ plain → (line_next l.content s).place ≡ place_after s.place l.content
unfolding key_of line_next place_after
plain_place l s k = sym (if_true _ _ (eq-eqb _ _ k))

keyed_place : (l : Line) (s : State) → eqb (key_of l) plain ≡ false → (keyword_next (key_of l) (argument_of l).text s).place ≡ place_after s.place l.content
unfolding key_of keyword_next place_after
keyed_place l s k = sym (if_false _ _ k)

-- no block is open at a line that is skipped
pub idle_outside : (test : ℕ → Bool) → test done ≡ false → test before ≡ false → (l : Line) (s : State) → l.place ≡ s.place → Idle l s → test l.place ≡ false
idle_outside test d b l s e (ended f) = ap test (e ∙ f) ∙ d
idle_outside test d b l s e (waits f k) = ap test (e ∙ f) ∙ b

-- the place after a line is the one to which its words lead
pub moves_place : (l : Line) (s s' : State) → Moves l s s' → s'.place ≡ place_after s.place l.content
unfolding key_of
moves_place l s s' (idle (ended e)) = rw e (sym (done_stays l.content))
moves_place l s s' (idle (waits e k)) = rw e (sym (before_stays l.content k))
moves_place l s s' (plainly k h) = plain_place l s k
moves_place l s s' (keyed k h) = keyed_place l s k

-- ---- the whole text

pub record Onward (n : ℕ) (r : Said) (rs : List Said) (s : State) (c : Counts) : Type 0 where
  pub kept : (line_result r.content s).rule ≡ 0
  pub rest : read_from (n + 1) rs (line_result r.content s).state ≡ Read c

run_on : (n : ℕ) (r : Said) (rs : List Said) (s : State) (c : Counts) → read_from n (r ∷ rs) s ≡ Read c → Onward n r rs s c
unfolding read_from onward
run_on n r rs s c h =
    by_cases (Onward n r rs s c) (eqb (line_result r.content s).rule 0)
    (λ (e : eqb (line_result r.content s).rule 0 ≡ true). record { kept = eqb-true _ _ e; rest = sym (if_true _ _ e) ∙ h })
    (λ (e : eqb (line_result r.content s).rule 0 ≡ false). absurd (refused_not_read _ _ c (sym (if_false _ _ e) ∙ h)))

blank_goes : (content : List ℕ) (s : State) → is_blank_line content ≡ true → (line_result content s).state ≡ s
unfolding goes
blank_goes content s e = ap (λ (y : LineResult). y.state) (result_steps content s ∙ if_true _ _ e)

-- one line more in front
grown : (l : Line) (s : State) (m : Moved l s) (ls : List Line) (c : Counts) → l.place ≡ s.place → is_blank_line l.content ≡ false → Ends m.next ls c → Ends s (l ∷ ls) c
grown l s m ls c p b e = record { end = e.end; goes = more p b m.moves e.goes; met = (m.met, e.met); done = e.done; counts = e.counts }

-- the lines from one line on
abbrev line_of : ℕ → ℕ → ℕ → Said → Line
line_of n at p r = record { line = n; at = at; place = p; content = r.content }

module _ (n at p : ℕ) (r : Said) (rs : List Said) where
  pub lines_blank : is_blank_line r.content ≡ true → lines_from n at p (r ∷ rs) ≡ lines_from (n + 1) (at + r.size + 1) p rs
  unfolding lines_from
  lines_blank b = if_true _ _ b

  pub lines_said : is_blank_line r.content ≡ false → lines_from n at p (r ∷ rs) ≡ line_of n at p r ∷ lines_from (n + 1) (at + r.size + 1) (place_after p r.content) rs
  unfolding lines_from
  lines_said b = if_false _ _ b

pub lines_none : (n at p : ℕ) → lines_from n at p [] ≡ []
unfolding lines_from
lines_none n at p = refl

run_none : (n : ℕ) (s : State) → read_from n [] s ≡ at_end s
unfolding read_from
run_none n s = refl

ends_none : (n at : ℕ) (s : State) (c : Counts) → read_from n [] s ≡ Read c → Ends s (lines_from n at s.place []) c
ends_none n at s c h =
    let e : (s.place ≡ done) × (s.counts ≡ c) = end_done s c (sym (run_none n s) ∙ h) in
    rw (lines_none n at s.place) (record { end = s; goes = none; met = tt; done = e.0; counts = e.1 })

module _ (n at : ℕ) (r : Said) (rs : List Said) (s : State) (c : Counts) (o : Onward n r rs s c) where
  ends_blank : is_blank_line r.content ≡ true → (read_from (n + 1) rs s ≡ Read c → Ends s (lines_from (n + 1) (at + r.size + 1) s.place rs) c) → Ends s (lines_from n at s.place (r ∷ rs)) c
  ends_blank b more_ends =
      let e : Ends s (lines_from (n + 1) (at + r.size + 1) s.place rs) c = more_ends (rw (blank_goes r.content s b) at o.rest) in
      rw (lines_blank n at s.place r rs b) e

  ends_said :
      is_blank_line r.content ≡ false →
      ((s' : State) → read_from (n + 1) rs s' ≡ Read c → Ends s' (lines_from (n + 1) (at + r.size + 1) s'.place rs) c) → Ends s (lines_from n at s.place (r ∷ rs)) c
  ends_said b more_ends =
      let m : Moved (line_of n at s.place r) s = line_moves (line_of n at s.place r) s b o.kept in
      let q : m.next.place ≡ place_after s.place r.content = moves_place (line_of n at s.place r) s m.next m.moves in
      let e : Ends m.next (lines_from (n + 1) (at + r.size + 1) m.next.place rs) c = more_ends m.next (rw m.is_next at o.rest) in
      rw (lines_said n at s.place r rs b)
      (grown (line_of n at s.place r) s m (lines_from (n + 1) (at + r.size + 1) (place_after s.place r.content) rs) c refl b (rw q at e))

pub run_ends : (n at : ℕ) (rs : List Said) (s : State) (c : Counts) → read_from n rs s ≡ Read c → Ends s (lines_from n at s.place rs) c
run_ends n at [] s c h = ends_none n at s c h
run_ends n at (r ∷ rs) s c h =
    let o : Onward n r rs s c = run_on n r rs s c h in
    by_cases (Ends s (lines_from n at s.place (r ∷ rs)) c) (is_blank_line r.content)
    (λ (b : is_blank_line r.content ≡ true). ends_blank n at r rs s c o b (run_ends (n + 1) (at + r.size + 1) rs s c))
    (λ (b : is_blank_line r.content ≡ false). ends_said n at r rs s c o b (λ (s' : State). run_ends (n + 1) (at + r.size + 1) rs s' c))

-- a text that reads to its end
pub text_ends : (t : List ℕ) (c : Counts) → reading_of t ≡ Read c → Ends start_state (significant t) c
unfolding reading_of significant lines_at start_state
text_ends t c h = run_ends 1 0 (contents t) start_state c h
