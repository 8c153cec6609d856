-- The forks of a text that reads to its end: in each model at most eight are open at once, none is
-- closed that is not open, and none is left open.
-- Assumes nothing.
use mathlib.Core.Path.{◌≡◌, refl, sym, ◌∙◌, ap}
use mathlib.Core.Bool.{true, false, true≢false}
use mathlib.Core.List.{List, [], ◌∷◌, ◌++◌}
use Prim.Native.Nat.{ℕ, ◌+◌, ◌-◌, ◌<◌}
use native.Mathlib.Omega.{arith}
use lib.Dec.{eqb}
use borrow.Author.Tests.{eq-eqb, eqb-true, eqb-false, lt-ltb}
use Rattle.table_layout.specs.Bounds.{deepest}
use Rattle.base.specs.If.{provided◌then◌else◌, either}
use Rattle.base.proofs.IfLaws.{
  if_true,
  if_false,
  by_test,
  by_cases,
  both_true,
  both_first,
  both_second,
  either_none_first,
  either_none_second,
}
use Rattle.lex_keyword.specs.Names.{begin_icm_model}
use Rattle.line_place.specs.Place.{is_in_family, is_in_model}
use Rattle.line_place.specs.Place as place
use Rattle.line_path.specs.Path.{path_line_of, path_next}
use Rattle.line_path.specs.Path as path
use Rattle.line_path.specs.declared.Path.{Path}
use Rattle.line_path.proofs.DepthLaws.{fork_raises, other_keeps, fork_below, endfork_lowers}
use Rattle.line_path.specs.Way.Rule.{path_rule}
use Rattle.line_keyword.specs.Keywords.{keyword_next}
use Rattle.line_keyword.specs.State.{start_state}
use Rattle.line_keyword.specs.declared.Counts.{Counts}
use Rattle.line_keyword.specs.declared.State.{State}
use Rattle.line_keyword.specs.Way.Rule.{keyword_rule}
use Rattle.read_line.specs.Reading.{line_next, reading_of}
use Rattle.read_line.specs.declared.Reading.TheVariants.{Read}
use Rattle.read_line.proofs.OutsideLaws.{Outside, start_outside, keyword_closed, keyword_flat, path_flat, keyword_outside, line_outside}
use Rattle.read_line.specs.Way.Steps.{line_rule}
use Rattle.doc.specs.Lines.{Line, plain, significant, key_of, argument_of, gather, up_to}
use Rattle.doc.specs.Document.{
  Step,
  Model,
  saying_at,
  step_of,
  steps_in,
  opens_model,
  in_model,
  model_of,
  model_at,
  document_in,
  document_of,
}
use Rattle.doc.specs.Holds.{Each}
use Rattle.doc.specs.Way.Holds.{depth_of_steps}
use Rattle.doc.proofs.Goes.{Moves, idle, plainly, keyed, Goes, none, more, MetBy, AllMet, Ends, idle_outside, text_ends}
use Rattle.doc.proofs.StepLaws.{saying_there, saying_elsewhere, saying_keyed, path_ruled}
use Rattle.doc.proofs.GatherLaws.{gather_more, gather_none, up_in, up_none, up_out}

-- ---- one line of a path

-- the steps of a line whose path has depth d before it and d' after it, if the steps after it are right from there
module _ (l : Line) (after : List Line) (d d' : ℕ) (rest : List Step) where
  said_deep :
      (saying_at l ≡ path.says_fork → (d < deepest) × (d' ≡ d + 1)) → (saying_at l ≡ path.says_endfork → d' + 1 ≡ d) →
      ((saying_at l ≡ path.says_fork → ⊥) → (saying_at l ≡ path.says_endfork → ⊥) → d' ≡ d) → depth_of_steps d' rest ≡ true →
      depth_of_steps d (step_of l after ++ rest) ≡ true
  unfolding step_of depth_of_steps provided◌then◌else◌
  said_deep forks endforks others h =
      by_test (λ (xs : List Step). depth_of_steps d (xs ++ rest) ≡ true) (eqb (saying_at l) path.says_end) _ _
      (λ (a : eqb (saying_at l) path.says_end ≡ true).
      stays path.says_end (eqb-true _ _ a) (λ (z : path.says_end ≡ path.says_fork). omega arith) (λ (z : path.says_end ≡ path.says_endfork). omega arith))
      (λ (a : eqb (saying_at l) path.says_end ≡ false).
      by_test (λ (xs : List Step). depth_of_steps d (xs ++ rest) ≡ true) (eqb (saying_at l) path.says_section) _ _
      (λ (b : eqb (saying_at l) path.says_section ≡ true).
      stays path.says_section (eqb-true _ _ b) (λ (z : path.says_section ≡ path.says_fork). omega arith) (λ (z : path.says_section ≡ path.says_endfork). omega arith))
      (λ (b : eqb (saying_at l) path.says_section ≡ false).
      by_test (λ (xs : List Step). depth_of_steps d (xs ++ rest) ≡ true) (eqb (saying_at l) path.says_fork) _ _
      (λ (c : eqb (saying_at l) path.says_fork ≡ true).
      let f : (d < deepest) × (d' ≡ d + 1) = forks (eqb-true _ _ c) in
      both_true _ _ (lt-ltb d deepest f.0) (rw f.1 at h))
      (λ (c : eqb (saying_at l) path.says_fork ≡ false).
      by_test (λ (xs : List Step). depth_of_steps d (xs ++ rest) ≡ true) (eqb (saying_at l) path.says_endfork) _ _
      (λ (f : eqb (saying_at l) path.says_endfork ≡ true).
      let g : d' + 1 ≡ d = endforks (eqb-true _ _ f) in
      let k : d' ≡ d - 1 = omega arith in
      both_true _ _ (lt-ltb 0 d (omega arith)) (rw k at h))
      (λ (f : eqb (saying_at l) path.says_endfork ≡ false). rw (others (eqb-false _ _ c) (eqb-false _ _ f)) at h))))
    where
      stays : (v : ℕ) → saying_at l ≡ v → (v ≡ path.says_fork → ⊥) → (v ≡ path.says_endfork → ⊥) → depth_of_steps d rest ≡ true
      stays v e n m =
          rw (others (λ (z : saying_at l ≡ path.says_fork). n (sym e ∙ z)) (λ (z : saying_at l ≡ path.says_endfork). m (sym e ∙ z))) at h

-- a line that gives no step and leaves the depth unchanged
silent_deep :
    (l : Line) (after : List Line) (d d' : ℕ) (rest : List Step) → saying_at l ≡ path.says_nothing → d' ≡ d → depth_of_steps d' rest ≡ true →
    depth_of_steps d (step_of l after ++ rest) ≡ true
silent_deep l after d d' rest e k h =
    said_deep l after d d' rest (λ (z : saying_at l ≡ path.says_fork). let f : path.says_nothing ≡ path.says_fork = sym e ∙ z in absurd (omega arith))
    (λ (z : saying_at l ≡ path.says_endfork). let f : path.says_nothing ≡ path.says_endfork = sym e ∙ z in absurd (omega arith))
    (λ (n : saying_at l ≡ path.says_fork → ⊥) (m : saying_at l ≡ path.says_endfork → ⊥). k) h

-- ---- one line of a text

path_next_lem :
    (content : List ℕ) (s : State) → eqb s.place place.path ≡ true → (line_next content s).path ≡ path_next (path_line_of content) s.path
unfolding line_next
path_next_lem content s t = if_true _ _ t

path_same : (content : List ℕ) (s : State) → eqb s.place place.path ≡ false → (line_next content s).path ≡ s.path
unfolding line_next
path_same content s t = if_false _ _ t

module _ (l : Line) (after : List Line) (s : State) (e : l.place ≡ s.place) (rest : List Step) where
  path_deep :
      key_of l ≡ plain → line_rule l.content s ≡ 0 → eqb s.place place.path ≡ true →
      depth_of_steps (line_next l.content s).path.depth rest ≡ true → depth_of_steps s.path.depth (step_of l after ++ rest) ≡ true
  path_deep k h t deep =
      let there : s.place ≡ place.path = eqb-true _ _ t in
      let says : saying_at l ≡ (path_line_of l.content).says = saying_there l (e ∙ there) k in
      let next : (line_next l.content s).path.depth ≡ (path_next (path_line_of l.content) s.path).depth =
      ap (λ (p : Path). p.depth) (path_next_lem l.content s t) in
      let kept : path_rule (path_line_of l.content) s.path s.counts.steps ≡ 0 = path_ruled l.content s there h in
      said_deep l after s.path.depth (path_next (path_line_of l.content) s.path).depth rest
      (λ (z : saying_at l ≡ path.says_fork). (
        fork_below (path_line_of l.content) s.path s.counts.steps kept (sym says ∙ z),
        fork_raises (path_line_of l.content) s.path (sym says ∙ z),
      ))
      (λ (z : saying_at l ≡ path.says_endfork). endfork_lowers (path_line_of l.content) s.path s.counts.steps kept (sym says ∙ z))
      (λ (n : saying_at l ≡ path.says_fork → ⊥) (m : saying_at l ≡ path.says_endfork → ⊥).
      other_keeps (path_line_of l.content) s.path (λ (z : (path_line_of l.content).says ≡ path.says_fork). n (says ∙ z))
      (λ (z : (path_line_of l.content).says ≡ path.says_endfork). m (says ∙ z)))
      (rw next at deep)

  line_deep :
      key_of l ≡ plain → line_rule l.content s ≡ 0 → depth_of_steps (line_next l.content s).path.depth rest ≡ true →
      depth_of_steps s.path.depth (step_of l after ++ rest) ≡ true
  line_deep k h deep =
      by_cases _ (eqb s.place place.path) (λ (t : eqb s.place place.path ≡ true). path_deep k h t deep)
      (λ (t : eqb s.place place.path ≡ false).
      silent_deep l after s.path.depth (line_next l.content s).path.depth rest
      (saying_elsewhere l (λ (z : l.place ≡ place.path). eqb-false _ _ t (sym e ∙ z)))
      (ap (λ (p : Path). p.depth) (path_same l.content s t)) deep)

-- at a keyword no fork is open, and it leaves none open
module _ (k : ℕ) (argument : List ℕ) (s : State) (out : Outside s) (kept : keyword_rule k argument s ≡ 0) where
  keyword_before : s.path.depth ≡ 0
  keyword_before = keyword_flat s out (keyword_closed k argument s kept)

  keyword_after : (keyword_next k argument s).path.depth ≡ 0
  unfolding keyword_next
  keyword_after = path_flat k s.path keyword_before

module _ (l : Line) (s : State) (e : l.place ≡ s.place) (out : Outside s) where
  moves_outside : (s' : State) (m : Moves l s s') → MetBy m → Outside s'
  moves_outside s' (idle i) met = out
  moves_outside s' (plainly k h) met = line_outside l.content s out h
  moves_outside s' (keyed k h) met = keyword_outside (key_of l) (argument_of l).text s met out h

  moves_deep :
      (s' : State) → Moves l s s' → (after : List Line) (rest : List Step) → depth_of_steps s'.path.depth rest ≡ true →
      depth_of_steps s.path.depth (step_of l after ++ rest) ≡ true
  moves_deep s' (idle i) after rest deep =
      silent_deep l after s.path.depth s.path.depth rest
      (saying_elsewhere l (eqb-false _ _ (idle_outside (λ (p : ℕ). eqb p place.path) refl refl l s e i))) refl deep
  moves_deep s' (plainly k h) after rest deep = line_deep l after s e rest k h deep
  moves_deep s' (keyed k h) after rest deep =
      silent_deep l after s.path.depth (keyword_next (key_of l) (argument_of l).text s).path.depth rest (saying_keyed l k)
      (keyword_after (key_of l) (argument_of l).text s out h ∙ sym (keyword_before (key_of l) (argument_of l).text s out h)) deep

  -- a model starts with no fork open
  opens_flat : (s' : State) → Moves l s s' → opens_model l ≡ true → s'.path.depth ≡ 0
  unfolding opens_model is_in_family either
  opens_flat s' (idle i) t = absurd (true≢false (sym (both_first _ _ t) ∙ idle_outside is_in_family refl refl l s e i))
  opens_flat s' (plainly k h) t = let z : plain ≡ begin_icm_model = sym k ∙ eqb-true _ _ (both_second _ _ t) in absurd (omega arith)
  opens_flat s' (keyed k h) t = keyword_after (key_of l) (argument_of l).text s out h

-- ---- all lines

steps_none : steps_in [] ≡ []
unfolding steps_in
steps_none = gather_none step_of

steps_more : (l : Line) (ls : List Line) → steps_in (l ∷ ls) ≡ step_of l ls ++ steps_in ls
unfolding steps_in
steps_more l ls = gather_more step_of l ls

flat_none : (d : ℕ) → d ≡ 0 → depth_of_steps d (steps_in []) ≡ true
unfolding depth_of_steps
flat_none d e = ap (depth_of_steps d) steps_none ∙ eq-eqb _ _ e

outside_flat : (l : Line) (s : State) → l.place ≡ s.place → Outside s → in_model l ≡ false → s.path.depth ≡ 0
unfolding in_model is_in_model
outside_flat l s e out t =
    out.flat (λ (z : s.place ≡ place.path). eqb-false _ _ (either_none_first _ _ (either_none_second _ _ t)) (e ∙ z))

-- the rest of a model, if as many forks are open as the state counts
model_deep :
    {s e : State} (ls : List Line) (g : Goes s ls e) → AllMet g → Outside s → e.place ≡ place.done →
    depth_of_steps s.path.depth (steps_in (up_to in_model ls)) ≡ true
model_deep {s} [] none met out end =
    ap (λ (ms : List Line). depth_of_steps s.path.depth (steps_in ms)) (up_none in_model)
    ∙ flat_none _ (out.flat (λ (z : s.place ≡ place.path). let k : place.done ≡ place.path = sym end ∙ z in omega arith))
model_deep {s} (l ∷ ls) (more {s' = s'} p b m g) met out end =
    by_cases _ (in_model l)
    (λ (t : in_model l ≡ true).
    ap (λ (ms : List Line). depth_of_steps s.path.depth (steps_in ms)) (up_in in_model l ls t)
    ∙ ap (depth_of_steps s.path.depth) (steps_more l (up_to in_model ls))
    ∙ moves_deep l s p out s' m (up_to in_model ls) (steps_in (up_to in_model ls))
    (model_deep ls g met.1 (moves_outside l s p out s' m met.0) end))
    (λ (t : in_model l ≡ false).
    ap (λ (ms : List Line). depth_of_steps s.path.depth (steps_in ms)) (up_out in_model l ls t) ∙ flat_none _ (outside_flat l s p out t))

abbrev Deep : Model → Type 0
Deep m = depth_of_steps 0 m.steps ≡ true

each_append : {A : Type 0} {P : A → Type 0} (xs ys : List A) → Each P xs → Each P ys → Each P (xs ++ ys)
each_append [] ys Each.none h = h
each_append (x ∷ xs) ys (Each.more p ps) h = Each.more p (each_append xs ys ps h)

opened_deep :
    (l : Line) (ls : List Line) → (opens_model l ≡ true → depth_of_steps 0 (steps_in (up_to in_model ls)) ≡ true) → Each Deep (model_at l ls)
unfolding model_at model_of
opened_deep l ls h =
    by_test (λ (ms : List Model). Each Deep ms) (opens_model l) _ _ (λ (t : opens_model l ≡ true). Each.more (h t) Each.none)
    (λ (t : opens_model l ≡ false). Each.none)

models_deep :
    {s e : State} (ls : List Line) (g : Goes s ls e) → AllMet g → Outside s → e.place ≡ place.done → Each Deep (gather model_at ls)
models_deep [] none met out end = rw (gather_none model_at) Each.none
models_deep {s} (l ∷ ls) (more {s' = s'} p b m g) met out end =
    let next : Outside s' = moves_outside l s p out s' m met.0 in
    rw (gather_more model_at l ls)
    (each_append (model_at l ls) (gather model_at ls)
    (opened_deep l ls (λ (t : opens_model l ≡ true). rw (opens_flat l s p out s' m t) at (model_deep ls g met.1 next end)))
    (models_deep ls g met.1 next end))

-- "each model's depth stays 0 to 8 and ends at 0"
pub read_deep :
    (t : List ℕ) (c : Counts) → reading_of t ≡ Read c → Each (λ (m : Model). depth_of_steps 0 m.steps ≡ true) (document_of t).models
unfolding document_of document_in
read_deep t c h =
    let ends : Ends start_state (significant t) c = text_ends t c h in
    models_deep (significant t) ends.goes ends.met start_outside ends.done
