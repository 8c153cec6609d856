-- After [End ICM Family] no map and no model is allowed: the places from there on are late, no line leads from a late
-- place to an early one, and lines in late places give no map, model, pin or step.
-- Assumes nothing.
use mathlib.Core.Path.{◌≡◌, ◌∙◌, ap}
use mathlib.Core.Bool.{Bool, true, false}
use mathlib.Core.List.{List, [], ◌∷◌}
use Prim.Native.Nat.{ℕ, ◌+◌, ◌≤◌, ◌<◌}
use native.Mathlib.Omega.{arith}
use lib.ListN.{drop}
use lib.Dec.{eqb}
use borrow.Author.Tests.{ne_eqb}
use Rattle.base.specs.If.{provided◌then◌else◌}
use Rattle.base.proofs.IfLaws.{if_false, by_cases, both_not_left, either_false}
use Rattle.lex_line.specs.Lines.{Said, is_blank_line, contents}
use Rattle.line_place.specs.Place.{moved, moved_by_line, leads_in_matrix, leads_in_section, leads_after_family, is_in_model, is_in_family, is_in_header}
use Rattle.line_place.specs.Place as place
use Rattle.lex_keyword.specs.Names.{icm_ver, begin_header, begin_icm_family}
use Rattle.doc.specs.Lines.{Line, place_after, lines_from, lines_at, gather}
use Rattle.doc.specs.Lines.{stands_in}
use Rattle.doc.specs.Document.{map_at, model_at, opens_map, opens_model, pin_at, step_of}
use Rattle.doc.proofs.StepLaws.{saying_elsewhere, silent_step}
use Rattle.doc.proofs.Goes.{lines_blank, lines_said, lines_none}
use Rattle.doc.proofs.GatherLaws.{gather_none, gather_quiet}

-- a late place is none of those before
module _ (p : ℕ) (late : place.after ≤ p) where
  no_place : (q : ℕ) → q < place.after → eqb p q ≡ false
  no_place q h = ne_eqb _ _ (λ (e : p ≡ q). omega arith)

  pub not_family : is_in_family p ≡ false
  unfolding is_in_family
  not_family = either_false _ _ (no_place place.family (omega arith)) (either_false _ _ (no_place place.family_text (omega arith)) (either_false _ _ (no_place place.list (omega arith)) (either_false _ _ (no_place place.map_head (omega arith)) (no_place place.pin_list (omega arith)))))

  pub not_model : is_in_model p ≡ false
  unfolding is_in_model
  not_model = either_false _ _ (no_place place.head (omega arith)) (either_false _ _ (no_place place.path (omega arith)) (no_place place.model_text (omega arith)))

  not_header : is_in_header p ≡ false
  unfolding is_in_header
  not_header = either_false _ _ (no_place place.header (omega arith)) (no_place place.header_text (omega arith))

-- a choice between late places is late
late_if : (b : Bool) (x y : ℕ) → place.after ≤ x → place.after ≤ y → place.after ≤ (provided b then x else y)
unfolding provided◌then◌else◌
late_if true x y h k = h
late_if false x y h k = k

late_section : (k : ℕ) → place.after ≤ leads_in_section k
unfolding leads_in_section
late_section k = late_if _ _ _ (omega arith) (late_if _ _ _ (omega arith) (omega arith))

late_matrix : (k : ℕ) → place.after ≤ leads_in_matrix k
unfolding leads_in_matrix
late_matrix k = late_if _ _ _ (omega arith) (late_section k)

late_after : (k : ℕ) → place.after ≤ leads_after_family k
unfolding leads_after_family
late_after k = late_if _ _ _ (omega arith) (late_if _ _ _ (omega arith) (omega arith))

late_moved : (p k : ℕ) → place.after ≤ p → place.after ≤ moved p k
unfolding moved
late_moved p k h =
    late_if _ _ _ (late_matrix k)
    (rw (if_false {A = ℕ} (place.leads_in_model k) _ (not_model p h), if_false {A = ℕ} (place.leads_in_family k) _ (not_family p h), if_false {A = ℕ} (place.leads_in_header k) _ (not_header p h))
    (late_if _ _ _ (late_section k) (late_if _ _ _ (late_after k)
    (rw (if_false {A = ℕ} (provided eqb k icm_ver then place.header else place.dead) _ (no_place p h place.opened (omega arith)), if_false {A = ℕ} (provided eqb k begin_icm_family then place.family else place.dead) _ (no_place p h place.between (omega arith)))
    (late_if _ _ _ (late_if _ _ _ (omega arith) (omega arith))
    (rw (if_false {A = ℕ} (provided eqb k begin_header then place.opened else place.before) p (no_place p h place.before (omega arith))) h))))))

late_line : (p : ℕ) (first : List ℕ) → place.after ≤ p → place.after ≤ moved_by_line p first
unfolding moved_by_line
late_line p first h = rw (if_false {A = ℕ} _ p (no_place p h place.map_head (omega arith))) h

pub late_place : (p : ℕ) (content : List ℕ) → place.after ≤ p → place.after ≤ place_after p content
unfolding place_after
late_place p content h = late_if _ _ _ (late_line p _ h) (late_moved p _ h)

-- ---- nothing of the family is there

-- what gives nothing in a late place gives nothing from there on
module _ {B : Type 0} (block : Line → List Line → List B) (silent : (l : Line) (ls : List Line) → place.after ≤ l.place → block l ls ≡ []) where
  late_lines : (n at p : ℕ) (rs : List Said) → place.after ≤ p → gather block (lines_from n at p rs) ≡ []
  late_lines n at p [] h = ap (gather block) (lines_none n at p) ∙ gather_none block
  late_lines n at p (r ∷ rs) h =
      by_cases _ (is_blank_line r.content)
      (λ (b : is_blank_line r.content ≡ true). ap (gather block) (lines_blank n at p r rs b) ∙ late_lines (n + 1) (at + r.size + 1) p rs h)
      (λ (b : is_blank_line r.content ≡ false).
      ap (gather block) (lines_said n at p r rs b)
      ∙ gather_quiet block _ _ (silent _ _ h)
      ∙ late_lines (n + 1) (at + r.size + 1) (place_after p r.content) rs (late_place p _ h))

  pub late_quiet : (t : List ℕ) (n at p : ℕ) → place.after ≤ p → gather block (lines_at t n at p) ≡ []
  unfolding lines_at
  late_quiet t n at p h = late_lines n at p (contents (drop at t)) h

pub late_map : (l : Line) (ls : List Line) → place.after ≤ l.place → map_at l ls ≡ []
unfolding map_at opens_map
late_map l ls h = if_false _ _ (both_not_left _ _ (not_family l.place h))

pub late_model : (l : Line) (ls : List Line) → place.after ≤ l.place → model_at l ls ≡ []
unfolding model_at opens_model
late_model l ls h = if_false _ _ (both_not_left _ _ (not_family l.place h))

pub late_pin : (l : Line) (ls : List Line) → place.after ≤ l.place → pin_at l ls ≡ []
unfolding pin_at stands_in
late_pin l ls h = if_false _ _ (both_not_left _ _ (no_place l.place h place.pin_list (omega arith)))

pub late_step : (l : Line) (ls : List Line) → place.after ≤ l.place → step_of l ls ≡ []
late_step l ls h = silent_step l ls (saying_elsewhere l (λ (e : l.place ≡ place.path). omega arith))
