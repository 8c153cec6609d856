-- Each line has at most one finding: no two findings of the document of a text are on one line.
-- Assumes nothing.
use mathlib.Core.Path.{◌≡◌, refl, sym, ◌∙◌, ap}
use mathlib.Core.Bool.{true, false}
use mathlib.Core.List.{List, [], ◌∷◌, ◌++◌, map}
use Prim.Native.Nat.{ℕ, ◌+◌}
use lib.Dec.{eqb}
use borrow.Author.Tests.{eqb-true, eqb-false}
use Rattle.base.specs.If.{provided◌then◌else◌}
use Rattle.base.proofs.IfLaws.{by_test, by_cases, both_first, both_second, if_true, if_false}
use Rattle.lex_keyword.specs.Names.{icm_pin_map, begin_icm_model, begin_icm_section}
use Rattle.line_place.specs.Place as place
use Rattle.doc.specs.Lines.{Line, plain, key_of, significant, stands_in}
use Rattle.doc.specs.Document.{
  Named,
  Step,
  Model,
  Map,
  Section,
  Document,
  saying_at,
  step_of,
  steps_in,
  says_sgr,
  sgr_in,
  opens_model,
  in_model,
  model_of,
  model_at,
  listed_at,
  opens_map,
  in_map,
  pin_at,
  map_of,
  map_at,
  opens_section,
  section_of,
  section_at,
  document_in,
  document_of,
}
use Rattle.doc.specs.Holds.{Each}
use Rattle.doc.specs.Holds.Each.{none, more}
use Rattle.doc.proofs.StandsLaws.{each_append, each_gather, each_if, each_up}
use Rattle.doc.proofs.StepLaws.{silent_step}
use Rattle.cross_rules.specs.Way.Findings.{list_findings, step_findings, model_findings, sgr_findings, pin_findings, map_findings, section_findings, findings}
use Rattle.cross_rules.specs.declared.Finding.{Finding}
use Rattle.cross_rules.specs.Listed.{Among}
use Rattle.cross_rules.specs.Listed.Among.{front, further}
use Rattle.cross_rules.proofs.RisingLaws.{Gives, each_one, each_among, same_line}
use Rattle.cross_rules.proofs.RisingLaws.Gives.{nothing, itself}
use Rattle.cross_rules.proofs.OrderLaws.{Ordered, in_order, lines_rise, step_own}

-- ---- which part of a document a line is in

data Part : Type 0 where
  list : Part
  models : Part
  sgrs : Part
  maps : Part
  sections : Part
  other : Part

-- the part of a line without a keyword, and of one with the keyword k
unfoldable plain_part : ℕ → Part
plain_part p =
    provided eqb p place.list then list else
    provided eqb p place.head then sgrs else
    provided eqb p place.path then models else
    provided eqb p place.pin_list then maps else other

unfoldable keyed_part : ℕ → Part
keyed_part k = provided eqb k begin_icm_model then models else provided eqb k icm_pin_map then maps else provided eqb k begin_icm_section then sections else other

unfoldable part_of : Line → Part
part_of l = provided eqb (key_of l) plain then plain_part l.place else keyed_part (key_of l)

module _ (l : Line) where
  plain_part_lem : (p : ℕ) → stands_in p l ≡ true → part_of l ≡ plain_part p
  unfolding stands_in part_of provided◌then◌else◌
  plain_part_lem p h = rw (both_second (eqb l.place p) _ h, eqb-true l.place p (both_first _ _ h))

  keyed_part_lem : (k : ℕ) → eqb k plain ≡ false → key_of l ≡ k → part_of l ≡ keyed_part k
  unfolding part_of provided◌then◌else◌
  keyed_part_lem k n e = rw (e, n)

-- some line of the list is in the part, and its number is n
record Comes (ls : List Line) (part : Part) (n : ℕ) : Type 0 where
  line : Line
  among : Among line ls
  numbered : line.line ≡ n
  in_part : part_of line ≡ part

-- ---- every element of a list

module _ {A B : Type 0} {P : B → Type 0} (f : A → B) where
  each_mapped : (xs : List A) → Each (λ (x : A). P (f x)) xs → Each P (map f xs)
  each_mapped [] none = none
  each_mapped (x ∷ xs) (more h hs) = more h (each_mapped xs hs)

  each_unmapped : (xs : List A) → Each P (map f xs) → Each (λ (x : A). P (f x)) xs
  each_unmapped [] none = none
  each_unmapped (x ∷ xs) (more h hs) = more h (each_unmapped xs hs)

given_each : {P : ℕ → Type 0} {n : ℕ} {xs : List ℕ} → Gives n [] xs → P n → Each P xs
given_each nothing h = none
given_each itself h = more h none

-- ---- where each line of the document comes from

record ModelComes (ls : List Line) (m : Model) : Type 0 where
  own : Comes ls models m.line
  sgr : (m.sgr ≡ 0 → ⊥) → Comes ls sgrs m.sgr
  steps : Each (λ (s : Step). Comes ls models s.line) m.steps

record MapComes (ls : List Line) (m : Map) : Type 0 where
  own : Comes ls maps m.line
  pins : Each (λ (p : Named). Comes ls maps p.line) m.pins

module _ (ls : List Line) where
  abbrev In : Line → Type 0
  In l = Among l ls

  comes : (l : Line) (part : Part) → In l → part_of l ≡ part → Comes ls part l.line
  comes l part m e = record { line = l; among = m; numbered = refl; in_part = e }

  -- its lines, and those after it
  module _ (l : Line) (after : List Line) (m : In l) (ms : Each In after) where
    plain_comes : (p : ℕ) → stands_in p l ≡ true → Comes ls (plain_part p) l.line
    plain_comes p e = comes l (plain_part p) m (plain_part_lem l p e)

    keyed_comes : (k : ℕ) → eqb k plain ≡ false → key_of l ≡ k → Comes ls (keyed_part k) l.line
    keyed_comes k n e = comes l (keyed_part k) m (keyed_part_lem l k n e)

    listed_comes : Each (λ (n : Named). Comes ls list n.line) (listed_at l after)
    unfolding listed_at plain_part provided◌then◌else◌
    listed_comes = each_if (stands_in place.list l) _ (plain_comes place.list)

    pin_comes : Each (λ (n : Named). Comes ls maps n.line) (pin_at l after)
    unfolding pin_at plain_part provided◌then◌else◌
    pin_comes = each_if (stands_in place.pin_list l) _ (plain_comes place.pin_list)

    section_comes : Each (λ (s : Section). Comes ls sections s.line) (section_at l after)
    unfolding section_at section_of opens_section keyed_part provided◌then◌else◌
    section_comes =
        each_if (opens_section l) _
        (λ (e : opens_section l ≡ true). keyed_comes begin_icm_section refl (eqb-true _ _ (both_second _ _ e)))

    path_comes : stands_in place.path l ≡ true → Comes ls models l.line
    unfolding plain_part provided◌then◌else◌
    path_comes e = plain_comes place.path e

    step_comes : Each (λ (s : Step). Comes ls models s.line) (step_of l after)
    unfolding saying_at
    step_comes =
        by_cases _ (stands_in place.path l)
        (λ (e : stands_in place.path l ≡ true).
        each_unmapped (λ (s : Step). s.line) (step_of l after) (given_each (step_own l after) (path_comes e)))
        (λ (e : stands_in place.path l ≡ false). rw (silent_step l after (if_false _ _ e)) none)

  -- the last line that says SGR, if any does
  sgr_comes : (n : ℕ) → ((n ≡ 0 → ⊥) → Comes ls sgrs n) → {body : List Line} → Each In body → (sgr_in n body ≡ 0 → ⊥) → Comes ls sgrs (sgr_in n body)
  unfolding sgr_in says_sgr plain_part provided◌then◌else◌
  sgr_comes n h none = h
  sgr_comes n h (more {x = l} {xs = after} m ms) =
      sgr_comes (provided says_sgr l then l.line else n)
      (by_test (λ (k : ℕ). (k ≡ 0 → ⊥) → Comes ls sgrs k) (says_sgr l) l.line n
      (λ (e : says_sgr l ≡ true) (z : l.line ≡ 0 → ⊥). plain_comes l after m ms place.head (both_first _ _ e)) (λ (e : says_sgr l ≡ false). h)) ms

  model_comes : (l : Line) (after : List Line) → In l → Each In after → Each (ModelComes ls) (model_at l after)
  unfolding model_at model_of steps_in opens_model keyed_part provided◌then◌else◌
  model_comes l after m ms =
      each_if (opens_model l) _
      (λ (e : opens_model l ≡ true).
      record {
        own = keyed_comes l after m ms begin_icm_model refl (eqb-true _ _ (both_second _ _ e));
        sgr = sgr_comes 0 (λ (z : ◌≡◌ {A = ℕ} 0 0 → ⊥). absurd (z refl)) (each_up in_model ms);
        steps = each_gather In step_of step_comes (each_up in_model ms);
      })

  map_comes : (l : Line) (after : List Line) → In l → Each In after → Each (MapComes ls) (map_at l after)
  unfolding map_at map_of opens_map keyed_part provided◌then◌else◌
  map_comes l after m ms =
      each_if (opens_map l) _
      (λ (e : opens_map l ≡ true).
      record {
        own = keyed_comes l after m ms icm_pin_map refl (eqb-true _ _ (both_second _ _ e));
        pins = each_gather In pin_at pin_comes (each_up in_map ms);
      })

-- ---- where each finding comes from

module _ (d : Document) (ls : List Line) where
  models_found :
      (ms : List Model) → Each (ModelComes ls) ms → Each (λ (f : Finding). Comes ls models f.line) (model_findings d ms)
  unfolding model_findings step_findings
  models_found [] none = none
  models_found (m ∷ ms) (more h hs) = more h.own (each_append (each_mapped _ m.steps h.steps) (models_found ms hs))

  sgrs_found : (ms : List Model) → Each (ModelComes ls) ms → Each (λ (f : Finding). Comes ls sgrs f.line) (sgr_findings ms)
  unfolding sgr_findings
  sgrs_found [] none = none
  sgrs_found (m ∷ ms) (more h hs) =
      by_cases _ (eqb m.sgr 0)
      (λ (e : eqb m.sgr 0 ≡ true). rw (if_true (sgr_findings ms) _ e) (sgrs_found ms hs))
      (λ (e : eqb m.sgr 0 ≡ false). rw (if_false (sgr_findings ms) _ e) (more (h.sgr (eqb-false _ _ e)) (sgrs_found ms hs)))

  maps_found : (ms : List Map) → Each (MapComes ls) ms → Each (λ (f : Finding). Comes ls maps f.line) (map_findings d ms)
  unfolding map_findings pin_findings
  maps_found [] none = none
  maps_found (m ∷ ms) (more h hs) = more h.own (each_append (each_mapped _ m.pins h.pins) (maps_found ms hs))

  sections_found :
      (i : ℕ) (ss : List Section) → Each (λ (s : Section). Comes ls sections s.line) ss →
      Each (λ (f : Finding). Comes ls sections f.line) (section_findings d i ss)
  unfolding section_findings
  sections_found i [] none = none
  sections_found i (s ∷ ss) (more h hs) = more h (sections_found (i + 1) ss hs)

  list_found :
      Each (λ (n : Named). Comes ls list n.line) d.listed → Each (λ (f : Finding). Comes ls list f.line) (list_findings d)
  unfolding list_findings
  list_found h = each_mapped _ d.listed h

-- a finding, and the part of the document that it belongs to
data InPart (d : Document) (f : Finding) : Part → Type 0 where
  in_list : Among f (list_findings d) → InPart d f list
  in_models : Among f (model_findings d d.models) → InPart d f models
  in_sgrs : Among f (sgr_findings d.models) → InPart d f sgrs
  in_maps : Among f (map_findings d d.maps) → InPart d f maps
  in_sections : Among f (section_findings d 0 d.sections) → InPart d f sections

record Somewhere (d : Document) (f : Finding) : Type 0 where
  part : Part
  lies : InPart d f part

by_append :
    {A : Type 0} (P : Type 0) {x : A} (xs ys : List A) → Among x (xs ++ ys) → (Among x xs → P) → (Among x ys → P) → P
by_append P [] ys m left right = right m
by_append P (y ∷ xs) ys front left right = left front
by_append P (y ∷ xs) ys (further m) left right = by_append P xs ys m (λ (n : Among _ xs). left (further n)) right

somewhere : (d : Document) (f : Finding) → Among f (findings d) → Somewhere d f
unfolding findings
somewhere d f m =
    by_append (Somewhere d f) (list_findings d) _ m (λ n. record { part = list; lies = in_list n })
    (λ n.
    by_append (Somewhere d f) (model_findings d d.models) _ n (λ k. record { part = models; lies = in_models k })
    (λ k.
    by_append (Somewhere d f) (sgr_findings d.models) _ k (λ j. record { part = sgrs; lies = in_sgrs j })
    (λ j.
    by_append (Somewhere d f) (map_findings d d.maps) _ j (λ i. record { part = maps; lies = in_maps i })
    (λ i. record { part = sections; lies = in_sections i }))))

same_part : {d : Document} {f g : Finding} {part : Part} → Ordered d → InPart d f part → InPart d g part → f.line ≡ g.line → f ≡ g
same_part o (in_list m) (in_list n) e = same_line (λ (f : Finding). f.line) _ o.in_list m n e
same_part o (in_models m) (in_models n) e = same_line (λ (f : Finding). f.line) _ o.in_models m n e
same_part o (in_sgrs m) (in_sgrs n) e = same_line (λ (f : Finding). f.line) _ o.in_sgrs m n e
same_part o (in_maps m) (in_maps n) e = same_line (λ (f : Finding). f.line) _ o.in_maps m n e
same_part o (in_sections m) (in_sections n) e = same_line (λ (f : Finding). f.line) _ o.in_sections m n e

module _ (t : List ℕ) where
  -- every line of the text is one of its lines
  all_in : Each (λ (l : Line). Among l (significant t)) (significant t)
  all_in = each_among (significant t)

  part_comes : {f : Finding} {part : Part} → InPart (document_of t) f part → Comes (significant t) part f.line
  unfolding document_of document_in
  part_comes (in_list m) =
      each_one (list_found (document_of t) (significant t) (each_gather _ listed_at (listed_comes (significant t)) all_in)) m
  part_comes (in_models m) =
      each_one (models_found (document_of t) (significant t) _ (each_gather _ model_at (model_comes (significant t)) all_in)) m
  part_comes (in_sgrs m) =
      each_one (sgrs_found (document_of t) (significant t) _ (each_gather _ model_at (model_comes (significant t)) all_in)) m
  part_comes (in_maps m) =
      each_one (maps_found (document_of t) (significant t) _ (each_gather _ map_at (map_comes (significant t)) all_in)) m
  part_comes (in_sections m) =
      each_one (sections_found (document_of t) (significant t) 0 _ (each_gather _ section_at (section_comes (significant t)) all_in)) m

  -- holds for every text, a refused one too
  pub one_finding :
      (f g : Finding) → Among f (findings (document_of t)) → Among g (findings (document_of t)) → f.line ≡ g.line → f ≡ g
  one_finding f g m n e =
      let p : Somewhere (document_of t) f = somewhere (document_of t) f m in
      let q : Somewhere (document_of t) g = somewhere (document_of t) g n in
      let a : Comes (significant t) p.part f.line = part_comes p.lies in
      let b : Comes (significant t) q.part g.line = part_comes q.lies in
      let l : a.line ≡ b.line =
      same_line (λ (k : Line). k.line) (significant t) (lines_rise t) a.among b.among (a.numbered ∙ e ∙ sym b.numbered) in
      let r : p.part ≡ q.part = sym a.in_part ∙ ap part_of l ∙ b.in_part in
      same_part (in_order t) (rw r at p.lies) q.lies e
