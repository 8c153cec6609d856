-- What a line that is read alone opens, and what it gives: no step and no pin, since it has a keyword where these stand.
-- Assumes nothing.
use mathlib.Core.Path.{◌≡◌, refl, sym, ◌∙◌, ap}
use mathlib.Core.Bool.{Bool, true, false, not}
use mathlib.Core.List.{List, []}
use Prim.Native.Nat.{ℕ, ◌<◌}
use native.Mathlib.Omega.{arith}
use lib.Dec.{eqb}
use borrow.Author.Tests.{ne_eqb, eqb-true}
use Rattle.base.specs.If.{both}
use Rattle.base.proofs.IfLaws.{if_true, if_false, by_cases, both_true, both_first, both_second, both_rest, both_not_left, both_not_right, not_via, either_left, either_rest}
use Rattle.lex_keyword.specs.Names.{icm_pin_map, begin_icm_model}
use Rattle.line_place.specs.Place.{is_in_family}
use Rattle.line_place.specs.Place as place
use Rattle.line_head.specs.Head.{head_next}
use Rattle.line_head.specs.declared.Head.{Head}
use Rattle.line_keyword.specs.declared.State.{State}
use Rattle.doc.specs.Lines.{Line, plain, key_at, key_of, stands_in}
use Rattle.doc.specs.Document.{saying_at, step_of, says_sgr, opens_model, opens_map, pin_at, opens_section, section_at}
use Rattle.doc.proofs.StepLaws.{silent_step}
use Rattle.read_family.specs.Way.Blocks.{opening, enters, open_after, with_sgr, sgr_after, sgr_taken}
use Rattle.read_family.specs.declared.Open.{Open}
use Rattle.read_family.proofs.PlaceLaws.{enters_model, enters_map}
use Rattle.read_family.proofs.TakeLaws.{head_taken, Takes}

-- the places before and after the line tell what it opens, so the code knows the open block after it; and it gives nothing
-- but the block that it opens
pub record Given (l : Line) (s s' : State) (o o' : Open) : Type 0 where
  pub model_is : opens_model l ≡ both (is_in_family s.place) (eqb (key_at l.content) begin_icm_model)
  pub map_is : opens_map l ≡ both (is_in_family s.place) (eqb (key_at l.content) icm_pin_map)
  pub open_model : opens_model l ≡ true → o' ≡ opening l.at l.content s.counts.steps
  pub open_map : opens_map l ≡ true → o' ≡ opening l.at l.content s.counts.pins
  pub open_same : opens_model l ≡ false → opens_map l ≡ false → o' ≡ sgr_taken l o
  pub no_steps : (ls : List Line) → step_of l ls ≡ []
  pub no_pins : (ls : List Line) → pin_at l ls ≡ []
  pub no_sections : (ls : List Line) → section_at l ls ≡ []

-- ---- the line of an SGR

pub not_self : (b : Bool) → both b (not b) ≡ false
unfolding both
not_self true = refl
not_self false = refl

pub sgr_unchanged : (line : ℕ) (before after : Head) (o : Open) → after.sgr ≡ before.sgr → sgr_after line before after o ≡ o
unfolding sgr_after
sgr_unchanged line before after o e = if_false _ _ (ap (λ (b : Bool). both b (not before.sgr)) e ∙ not_self before.sgr)

-- the heads before and after a line that opens no model tell whether it says SGR
module _ (l : Line) (before after : Head) (o : Open) (told : after ≡ head_taken l before) (once : says_sgr l ≡ true → before.sgr ≡ false) where
  sgr_said : says_sgr l ≡ true → sgr_after l.line before after o ≡ with_sgr l.line o
  unfolding says_sgr sgr_after head_next
  sgr_said e =
      let there : stands_in place.head l ≡ true = both_first _ _ e in
      let a : after.sgr ≡ true = ap (λ (h : Head). h.sgr) (told ∙ if_true _ _ there) ∙ either_left _ _ (both_second _ _ e) in
      if_true _ _ (both_true _ _ a (not_via (once e)))

  sgr_unsaid : says_sgr l ≡ false → after.sgr ≡ before.sgr
  unfolding says_sgr head_next
  sgr_unsaid e =
      by_cases _ (stands_in place.head l)
      (λ (there : stands_in place.head l ≡ true).
      ap (λ (h : Head). h.sgr) (told ∙ if_true _ _ there) ∙ either_rest _ _ (sym (both_rest _ _ there) ∙ e))
      (λ (away : stands_in place.head l ≡ false). ap (λ (h : Head). h.sgr) (told ∙ if_false _ _ away))

  sgr_told : sgr_after l.line before after o ≡ sgr_taken l o
  sgr_told =
      by_cases _ (says_sgr l)
      (λ (e : says_sgr l ≡ true). sgr_said e ∙ ap (λ (n : ℕ). with_sgr n o) (sym (if_true _ _ e)))
      (λ (e : says_sgr l ≡ false).
      sgr_unchanged l.line before after o (sgr_unsaid e) ∙ ap (λ (n : ℕ). with_sgr n o) (sym (if_false _ _ e)))

module _ (l : Line) (s s' : State) (takes : Takes l s s') (early : s.place < place.after) (o : Open) where
  abbrev block : Open
  block = open_after l.line l.at l.content s s'.place s'.head o

  -- ---- what the line opens

  model_is : opens_model l ≡ both (is_in_family s.place) (eqb (key_at l.content) begin_icm_model)
  unfolding opens_model key_of
  model_is = ap (λ (p : ℕ). both (is_in_family p) (eqb (key_at l.content) begin_icm_model)) takes.here

  map_is : opens_map l ≡ both (is_in_family s.place) (eqb (key_at l.content) icm_pin_map)
  unfolding opens_map key_of
  map_is = ap (λ (p : ℕ). both (is_in_family p) (eqb (key_at l.content) icm_pin_map)) takes.here

  model_told : enters place.head s.place s'.place ≡ opens_model l
  model_told = ap (enters place.head s.place) takes.there ∙ enters_model s.place l.content ∙ sym model_is

  map_told : enters place.map_head s.place s'.place ≡ opens_map l
  unfolding key_of
  map_told = ap (enters place.map_head s.place) takes.there ∙ enters_map s.place l.content shut ∙ sym map_is
    where
      shut : eqb s.place place.map_head ≡ true → both (is_in_family s.place) (eqb (key_at l.content) icm_pin_map) ≡ false
      shut e =
          let k : key_at l.content ≡ plain = takes.map_head_lem (eqb-true _ _ e) in
          both_not_right _ _ (ne_eqb _ _ (λ (z : key_at l.content ≡ icm_pin_map). let y : plain ≡ icm_pin_map = sym k ∙ z in omega arith))

  -- a line opens one block at most
  map_only : opens_map l ≡ true → opens_model l ≡ false
  unfolding opens_map opens_model
  map_only h =
      let k : key_of l ≡ icm_pin_map = eqb-true _ _ (both_second _ _ h) in
      both_not_right _ _ (ne_eqb _ _ (λ (z : key_of l ≡ begin_icm_model). let y : icm_pin_map ≡ begin_icm_model = sym k ∙ z in omega arith))

  open_model : opens_model l ≡ true → block ≡ opening l.at l.content s.counts.steps
  unfolding open_after
  open_model h = if_true _ _ (model_told ∙ h)

  open_map : opens_map l ≡ true → block ≡ opening l.at l.content s.counts.pins
  unfolding open_after
  open_map h = if_false _ _ (model_told ∙ map_only h) ∙ if_true _ _ (map_told ∙ h)

  open_same : opens_model l ≡ false → opens_map l ≡ false → block ≡ sgr_taken l o
  unfolding open_after
  open_same h k =
      if_false _ _ (model_told ∙ h) ∙ if_false _ _ (map_told ∙ k)
      ∙ sgr_told l s.head s'.head o (takes.head ∙ if_false _ _ h) takes.sgr

  -- ---- what the line gives

  no_steps : (ls : List Line) → step_of l ls ≡ []
  unfolding saying_at
  no_steps ls = silent_step l ls (if_false _ _ takes.no_step)

  no_pins : (ls : List Line) → pin_at l ls ≡ []
  unfolding pin_at
  no_pins ls = if_false _ _ takes.no_pin

  no_sections : (ls : List Line) → section_at l ls ≡ []
  unfolding section_at opens_section
  no_sections ls = if_false _ _ (both_not_left _ _ (ne_eqb _ _ (λ (e : l.place ≡ place.after). let z : s.place ≡ place.after = sym takes.here ∙ e in omega arith)))

  pub line_gives : Given l s s' o (open_after l.line l.at l.content s s'.place s'.head o)
  line_gives =
      record {
        model_is = model_is;
        map_is = map_is;
        open_model = open_model;
        open_map = open_map;
        open_same = open_same;
        no_steps = no_steps;
        no_pins = no_pins;
        no_sections = no_sections;
      }
