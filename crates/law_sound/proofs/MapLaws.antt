-- Every pin map of a text that breaks no rule of the reading has a grid within its bounds and 1 to 256 pins, an ordered
-- one at most rows times columns. The proof follows the maps line by line, as the reading goes.
-- Assumes nothing.
use mathlib.Core.Path.{◌≡◌, refl, sym, ◌∙◌, ap, subst}
use mathlib.Core.Bool.{true, false, true≢false}
use mathlib.Core.List.{List, [], ◌∷◌, ◌++◌}
use Prim.Native.Nat.{ℕ, suc, ◌+◌, ◌*◌, ◌≤◌, ◌<◌}
use native.Mathlib.Omega.{arith}
use lib.ListN.{length}
use lib.Dec.{eqb}
use borrow.Author.Tests.{eq-eqb, ne_eqb, eqb-true}
use Rattle.base.specs.If.{provided◌then◌else◌, both, either}
use Rattle.base.specs.Bytes.{bytes}
use Rattle.base.specs.Runs.{same}
use Rattle.base.proofs.IfLaws.{if_true, if_false, by_cases, both_true, both_first, both_second, both_not_left, both_not_right, either_left, either_right, either_false, either_rest, either_none_first, either_none_second}
use Rattle.lex_line.specs.Words.{words, first_of}
use Rattle.lex_keyword.specs.Names.{icm_pin_map}
use Rattle.line_place.specs.Place.{moved, moved_by_line, leads_in_family, is_in_model, is_in_family, done}
use Rattle.line_place.specs.Place as place
use Rattle.line_map.specs.PinMap.{map_line_of, map_next, new_map, is_ordered, with_pin, pins_lack, is_wrong_grid}
use Rattle.line_map.specs.declared.Map as pin_map
use Rattle.line_map.proofs.MapLaws.{pin_fits}
use Rattle.line_map.proofs.GridLaws.{Fits, fits_only}
use Rattle.line_map.specs.Way.Rule.{map_rule, pin_rule}
use Rattle.line_keyword.specs.State.{start_state}
use Rattle.line_keyword.specs.Keywords.{is_unclosed, is_misplaced, is_shape_broken, map_after, keyword_next}
use Rattle.line_keyword.specs.declared.Counts.{Counts}
use Rattle.line_keyword.specs.declared.State.{State}
use Rattle.line_keyword.specs.Way.Rule.{keyword_rule}
use Rattle.read_line.specs.Reading.{line_next, reading_of}
use Rattle.read_line.specs.declared.Reading.TheVariants.{Read}
use Rattle.read_line.proofs.ResultLaws.{rule_pins, rule_map}
use Rattle.read_line.specs.Way.Steps.{line_rule}
use Rattle.doc.specs.Lines.{Line, plain, significant, key_of, argument_of, stands_in, gather, up_to}
use Rattle.doc.specs.Document.{Named, opens_map, in_map, grid_in, pin_at, map_of, map_at, document_in, document_of}
use Rattle.doc.specs.Holds.{Each}
use Rattle.doc.proofs.Goes.{Idle, Moves, Goes, Ends, idle_outside, text_ends}
use Rattle.doc.proofs.Goes.Idle.{ended, waits}
use Rattle.doc.proofs.Goes.Moves.{idle, plainly, keyed}
use Rattle.doc.proofs.BodyLaws.{keyword_misplaced, keyword_shaped}
use Rattle.doc.proofs.GatherLaws.{gather_more, gather_none, up_in, up_out}
use Rattle.law_sound.proofs.Bounds.{RightMap}
use Rattle.law_sound.proofs.GridLaws.{Growing, new_growing, Grid, next_growing, list_keeps, list_grid}
use Rattle.table_layout.specs.Bounds.{most_map_pins}

-- ---- what one line gives

grid_none : (m : pin_map.Map) → grid_in m [] ≡ m
unfolding grid_in
grid_none m = refl

module _ (m : pin_map.Map) (l : Line) (ls : List Line) where
  grid_here : stands_in place.map_head l ≡ true → grid_in m (l ∷ ls) ≡ grid_in (map_next (map_line_of l.content) m) ls
  unfolding grid_in
  grid_here e = ap (λ (x : pin_map.Map). grid_in x ls) (if_true _ _ e)

  grid_skip : stands_in place.map_head l ≡ false → grid_in m (l ∷ ls) ≡ grid_in m ls
  unfolding grid_in
  grid_skip e = ap (λ (x : pin_map.Map). grid_in x ls) (if_false _ _ e)

module _ (l : Line) (ls : List Line) where
  pin_here : stands_in place.pin_list l ≡ true → length (gather pin_at (l ∷ ls)) ≡ suc (length (gather pin_at ls))
  unfolding pin_at
  pin_here e = ap length (gather_more pin_at l ls ∙ ap (λ (ps : List Named). ps ++ gather pin_at ls) (if_true _ _ e))

  pin_skip : stands_in place.pin_list l ≡ false → length (gather pin_at (l ∷ ls)) ≡ length (gather pin_at ls)
  unfolding pin_at
  pin_skip e = ap length (gather_more pin_at l ls ∙ ap (λ (ps : List Named). ps ++ gather pin_at ls) (if_false _ _ e))

-- the place of a line
module _ (l : Line) where
  stands_there : (p : ℕ) → l.place ≡ p → key_of l ≡ plain → stands_in p l ≡ true
  unfolding stands_in
  stands_there p e k = both_true _ _ (eq-eqb _ _ e) (eq-eqb _ _ k)

  stands_elsewhere : (p : ℕ) → (l.place ≡ p → ⊥) → stands_in p l ≡ false
  unfolding stands_in
  stands_elsewhere p n = both_not_left _ _ (ne_eqb _ _ n)

  -- a keyword closes a map
  keyed_outside : eqb (key_of l) plain ≡ false → in_map l ≡ false
  unfolding in_map stands_in
  keyed_outside k = either_false _ _ (both_not_right _ _ k) (both_not_right _ _ k)

  pins_inside : l.place ≡ place.pin_list → key_of l ≡ plain → in_map l ≡ true
  unfolding in_map
  pins_inside e k = either_right _ _ (stands_there place.pin_list e k)

  head_inside : l.place ≡ place.map_head → key_of l ≡ plain → in_map l ≡ true
  unfolding in_map
  head_inside e k = either_left _ _ (stands_there place.map_head e k)

module _ (content : List ℕ) (s : State) where
  module _ (p : s.place ≡ place.pin_list) where
    pins_rule : line_rule content s ≡ pin_rule content s.map s.counts.pins
    pins_rule = rule_pins content s p

    pins_stay : (line_next content s).place ≡ place.pin_list
    unfolding line_next moved_by_line provided◌then◌else◌
    pins_stay = rw p

    pins_next : (line_next content s).map ≡ with_pin s.map
    unfolding line_next provided◌then◌else◌
    pins_next = rw p

  module _ (p : s.place ≡ place.map_head) where
    head_rule_lem : line_rule content s ≡ map_rule (map_line_of content) s.map
    head_rule_lem = rule_map content s p

    head_next_lem : (line_next content s).map ≡ map_next (map_line_of content) s.map
    unfolding line_next provided◌then◌else◌
    head_next_lem = rw p

    head_stays : same (first_of (words content)) (bytes "Pin_list") ≡ false → (line_next content s).place ≡ place.map_head
    unfolding line_next moved_by_line provided◌then◌else◌
    head_stays e = rw (p, e)

    head_leads : same (first_of (words content)) (bytes "Pin_list") ≡ true → (line_next content s).place ≡ place.pin_list
    unfolding line_next moved_by_line provided◌then◌else◌
    head_leads e = rw (p, e)

-- a keyword that breaks no rule
module _ (k : ℕ) (argument : List ℕ) (s : State) (kept : keyword_rule k argument s ≡ 0) where
  closes_whole : is_unclosed s ≡ false
  unfolding is_misplaced
  closes_whole = either_none_first _ _ (either_none_second _ _ (keyword_misplaced k argument s kept))

  -- a map above its Pin_list is not closed by a keyword
  head_refuses : s.place ≡ place.map_head → ⊥
  unfolding is_unclosed provided◌then◌else◌
  head_refuses p =
      let z : true ≡ false = rw p at closes_whole in
      true≢false z

  -- below it the map is closed with pins that fit
  pins_fit : s.place ≡ place.pin_list → Fits s.map
  unfolding is_unclosed is_shape_broken both provided◌then◌else◌
  pins_fit p =
      let lack : pins_lack s.map ≡ false = rw p at closes_whole in
      let wrong : is_wrong_grid s.map ≡ false = rw p at (keyword_shaped k argument s kept) in
      fits_only s.map lack wrong

-- ---- below Pin_list

-- the rest of a map that has been read as far as m
record Pins (m : pin_map.Map) (ls : List Line) : Type 0 where
  grid : (g : pin_map.Map) → grid_in g (up_to in_map ls) ≡ g
  few : m.pins + length (gather pin_at (up_to in_map ls)) ≤ most_map_pins
  some : 1 ≤ m.pins + length (gather pin_at (up_to in_map ls))
  fits : is_ordered m ≡ true → m.pins + length (gather pin_at (up_to in_map ls)) ≤ m.rows * m.columns

no_pins : (m : pin_map.Map) (ls : List Line) → m.pins ≤ most_map_pins → Fits m → up_to in_map ls ≡ [] → Pins m ls
no_pins m ls h fits e =
    let k : length (gather pin_at (up_to in_map ls)) ≡ 0 = ap (λ (xs : List Line). length (gather pin_at xs)) e ∙ ap length (gather_none pin_at) in
    let one : 1 ≤ m.pins = fits.some in
    record {
      grid = λ (g : pin_map.Map). ap (grid_in g) e ∙ grid_none g;
      few = omega arith;
      some = omega arith;
      fits = λ (o : is_ordered m ≡ true).
          let f : m.pins ≤ m.rows * m.columns = fits.few o in
          omega arith;
    }

one_more : (m : pin_map.Map) → m.pins < most_map_pins → (with_pin m).pins ≤ most_map_pins
unfolding with_pin
one_more m f = omega arith

module _ (l : Line) (ls : List Line) (s : State) (q : l.place ≡ place.pin_list) (p : s.place ≡ place.pin_list) where
  pins_plain : key_of l ≡ plain → Pins (with_pin s.map) ls → Pins s.map (l ∷ ls)
  unfolding with_pin is_ordered
  pins_plain k r =
      let up : up_to in_map (l ∷ ls) ≡ l ∷ up_to in_map ls = up_in in_map l ls (pins_inside l q k) in
      let above : stands_in place.map_head l ≡ false = stands_elsewhere l place.map_head (λ (z : l.place ≡ place.map_head). omega arith) in
      let n : length (gather pin_at (up_to in_map (l ∷ ls))) ≡ suc (length (gather pin_at (up_to in_map ls))) =
      ap (λ (xs : List Line). length (gather pin_at xs)) up ∙ pin_here l (up_to in_map ls) (stands_there l place.pin_list q k) in
      let f : s.map.pins + 1 + length (gather pin_at (up_to in_map ls)) ≤ most_map_pins = r.few in
      record {
        grid = λ (g : pin_map.Map). ap (grid_in g) up ∙ grid_skip g l (up_to in_map ls) above ∙ r.grid g;
        few = omega arith;
        some = omega arith;
        fits = λ (o : is_ordered s.map ≡ true).
            let fit : s.map.pins + 1 + length (gather pin_at (up_to in_map ls)) ≤ s.map.rows * s.map.columns = r.fits o in
            omega arith;
      }

  pins_step :
      (s' : State) → Moves l s s' → s.map.pins ≤ most_map_pins → (s'.place ≡ place.pin_list → s'.map.pins ≤ most_map_pins → Pins s'.map ls) →
      Pins s.map (l ∷ ls)
  pins_step s' (idle (ended x)) h ih = absurd (omega arith)
  pins_step s' (idle (waits x k)) h ih = absurd (omega arith)
  pins_step s' (plainly k kept) h ih =
      let f : s.map.pins < most_map_pins = pin_fits l.content s.map s.counts.pins (sym (pins_rule l.content s p) ∙ kept) in
      let n : (line_next l.content s).map ≡ with_pin s.map = pins_next l.content s p in
      let g : (line_next l.content s).map.pins ≤ most_map_pins = rw n (one_more s.map f) in
      pins_plain k (subst (λ (m : pin_map.Map). Pins m ls) n (ih (pins_stay l.content s p) g))
  pins_step s' (keyed k kept) h ih =
      no_pins s.map (l ∷ ls) h (pins_fit (key_of l) (argument_of l).text s kept p) (up_out in_map l ls (keyed_outside l k))

pins_rest : {s e : State} {ls : List Line} → Goes s ls e → e.place ≡ done → s.place ≡ place.pin_list → s.map.pins ≤ most_map_pins → Pins s.map ls
pins_rest Goes.none d p h = absurd (omega arith)
pins_rest (Goes.more {s = s} {s' = s'} {l = l} {ls = ls} q blank mv g) d p h =
    pins_step l ls s (q ∙ p) p s' mv h (λ (x : s'.place ≡ place.pin_list) (f : s'.map.pins ≤ most_map_pins). pins_rest g d x f)

-- ---- above Pin_list

-- the rest of a map that has been read as far as m
record Left (m : pin_map.Map) (ls : List Line) : Type 0 where
  grid : Grid (grid_in m (up_to in_map ls))
  few : length (gather pin_at (up_to in_map ls)) ≤ most_map_pins
  some : 1 ≤ length (gather pin_at (up_to in_map ls))
  fits :
      is_ordered (grid_in m (up_to in_map ls)) ≡ true →
      length (gather pin_at (up_to in_map ls)) ≤ (grid_in m (up_to in_map ls)).rows * (grid_in m (up_to in_map ls)).columns

module _ (l : Line) (ls : List Line) (s : State) (q : l.place ≡ place.map_head) (p : s.place ≡ place.map_head) where
  module _ (k : key_of l ≡ plain) where
    up_here : up_to in_map (l ∷ ls) ≡ l ∷ up_to in_map ls
    up_here = up_in in_map l ls (head_inside l q k)

    grid_on : (m : pin_map.Map) → grid_in m (up_to in_map (l ∷ ls)) ≡ grid_in (map_next (map_line_of l.content) m) (up_to in_map ls)
    grid_on m = ap (grid_in m) up_here ∙ grid_here m l (up_to in_map ls) (stands_there l place.map_head q k)

    pins_on : length (gather pin_at (up_to in_map (l ∷ ls))) ≡ length (gather pin_at (up_to in_map ls))
    pins_on =
        ap (λ (xs : List Line). length (gather pin_at xs)) up_here
        ∙ pin_skip l (up_to in_map ls) (stands_elsewhere l place.pin_list (λ (z : l.place ≡ place.pin_list). omega arith))

    -- a line that leaves the map above its Pin_list
    head_on : Left (map_next (map_line_of l.content) s.map) ls → Left s.map (l ∷ ls)
    head_on r =
        record {
          grid = rw (grid_on s.map) r.grid;
          few = rw pins_on r.few;
          some = rw pins_on r.some;
          fits = rw (pins_on, grid_on s.map) r.fits;
        }

    -- Pin_list
    head_list :
        Grid s.map → s.map.pins ≡ 0 → map_next (map_line_of l.content) s.map ≡ s.map → Pins s.map ls →
        Left s.map (l ∷ ls)
    head_list g none same r =
        let e : grid_in s.map (up_to in_map (l ∷ ls)) ≡ s.map = grid_on s.map ∙ r.grid _ ∙ same in
        let f : s.map.pins + length (gather pin_at (up_to in_map ls)) ≤ most_map_pins = r.few in
        let one : 1 ≤ s.map.pins + length (gather pin_at (up_to in_map ls)) = r.some in
        let n : length (gather pin_at (up_to in_map (l ∷ ls))) ≡ length (gather pin_at (up_to in_map ls)) = pins_on in
        let fit : is_ordered s.map ≡ true → length (gather pin_at (up_to in_map (l ∷ ls))) ≤ s.map.rows * s.map.columns =
        λ (o : is_ordered s.map ≡ true).
        let h : s.map.pins + length (gather pin_at (up_to in_map ls)) ≤ s.map.rows * s.map.columns = r.fits o in
        omega arith
        in
        record { grid = rw e g; few = omega arith; some = omega arith; fits = rw e fit }

  module _ (e : State) (growing : Growing s.map) where
    head_plain :
        e.place ≡ done → key_of l ≡ plain → line_rule l.content s ≡ 0 → Goes (line_next l.content s) ls e →
        ((line_next l.content s).place ≡ place.map_head → Growing (line_next l.content s).map → Left (line_next l.content s).map ls) →
        Left s.map (l ∷ ls)
    head_plain d k kept g ih =
        let rule : map_rule (map_line_of l.content) s.map ≡ 0 = sym (head_rule_lem l.content s p) ∙ kept in
        let next : (line_next l.content s).map ≡ map_next (map_line_of l.content) s.map = head_next_lem l.content s p in
        by_cases (Left s.map (l ∷ ls)) (same (first_of (words l.content)) (bytes "Pin_list"))
        (λ (b : same (first_of (words l.content)) (bytes "Pin_list") ≡ true).
        let keeps : map_next (map_line_of l.content) s.map ≡ s.map = list_keeps l.content s.map rule growing b in
        let none : (line_next l.content s).map.pins ≡ 0 = ap (λ (m : pin_map.Map). m.pins) (next ∙ keeps) ∙ growing.pins in
        let few : (line_next l.content s).map.pins ≤ most_map_pins = omega arith in
        head_list k (list_grid l.content s.map rule growing b) growing.pins keeps
        (subst (λ (m : pin_map.Map). Pins m ls) (next ∙ keeps) (pins_rest g d (head_leads l.content s p b) few)))
        (λ (b : same (first_of (words l.content)) (bytes "Pin_list") ≡ false).
        let grows : Growing (line_next l.content s).map = rw next (next_growing l.content s.map rule growing) in
        head_on k (rw next at (ih (head_stays l.content s p b) grows)))

    head_step :
        (s' : State) → Moves l s s' → Goes s' ls e → e.place ≡ done → (s'.place ≡ place.map_head → Growing s'.map → Left s'.map ls) →
        Left s.map (l ∷ ls)
    head_step s' (idle (ended x)) g d ih = absurd (omega arith)
    head_step s' (idle (waits x k)) g d ih = absurd (omega arith)
    head_step s' (plainly k kept) g d ih = head_plain d k kept g ih
    head_step s' (keyed k kept) g d ih = absurd (head_refuses (key_of l) (argument_of l).text s kept p)

head_rest :
    {s e : State} {ls : List Line} → Goes s ls e → e.place ≡ done → s.place ≡ place.map_head → Growing s.map → Left s.map ls
head_rest Goes.none d p h = absurd (omega arith)
head_rest (Goes.more {s = s} {s' = s'} {e = e} {l = l} {ls = ls} q blank mv g) d p h =
    head_step l ls s (q ∙ p) p e h s' mv g d (λ (x : s'.place ≡ place.map_head) (f : Growing s'.map). head_rest g d x f)

-- ---- the line that opens a map

-- from each place of the family
record Led : Type 0 where
  family : moved place.family icm_pin_map ≡ place.map_head
  family_text : moved place.family_text icm_pin_map ≡ place.map_head
  list : moved place.list icm_pin_map ≡ place.map_head
  map_head : moved place.map_head icm_pin_map ≡ place.map_head
  pins : moved place.pin_list icm_pin_map ≡ place.map_head

led : Led
unfolding moved leads_in_family is_in_model is_in_family either provided◌then◌else◌
led = record { family = refl; family_text = refl; list = refl; map_head = refl; pins = refl }

-- "pin maps anywhere outside models"
family_leads : (p : ℕ) → is_in_family p ≡ true → moved p icm_pin_map ≡ place.map_head
unfolding is_in_family
family_leads p h =
    by_cases Leads (eqb p place.family) (λ (e : eqb p place.family ≡ true). leads place.family (eqb-true _ _ e) led.family)
    (λ (a : eqb p place.family ≡ false).
    by_cases Leads (eqb p place.family_text) (λ (e : eqb p place.family_text ≡ true). leads place.family_text (eqb-true _ _ e) led.family_text)
    (λ (b : eqb p place.family_text ≡ false).
    by_cases Leads (eqb p place.list) (λ (e : eqb p place.list ≡ true). leads place.list (eqb-true _ _ e) led.list)
    (λ (c : eqb p place.list ≡ false).
    by_cases Leads (eqb p place.map_head) (λ (e : eqb p place.map_head ≡ true). leads place.map_head (eqb-true _ _ e) led.map_head)
    (λ (d : eqb p place.map_head ≡ false).
    leads place.pin_list
    (eqb-true _ _ (sym (either_rest _ _ a ∙ either_rest _ _ b ∙ either_rest _ _ c ∙ either_rest _ _ d) ∙ h)) led.pins))))
  where
    Leads : Type 0
    Leads = moved p icm_pin_map ≡ place.map_head

    leads : (q : ℕ) → p ≡ q → moved q icm_pin_map ≡ place.map_head → moved p icm_pin_map ≡ place.map_head
    leads q e f = ap (λ (x : ℕ). moved x icm_pin_map) e ∙ f

module _ (l : Line) (s : State) (k : key_of l ≡ icm_pin_map) where
  opened_map : (keyword_next (key_of l) (argument_of l).text s).map ≡ new_map
  unfolding keyword_next map_after
  opened_map = if_true _ _ (eq-eqb _ _ k)

  opened_place : is_in_family s.place ≡ true → (keyword_next (key_of l) (argument_of l).text s).place ≡ place.map_head
  unfolding keyword_next
  opened_place h = ap (moved s.place) k ∙ family_leads s.place h

module _ (l : Line) (ls : List Line) (s e : State) (d : e.place ≡ done) (q : l.place ≡ s.place) (h : opens_map l ≡ true) where
  opens_key : key_of l ≡ icm_pin_map
  unfolding opens_map
  opens_key = eqb-true _ _ (both_second _ _ h)

  opens_family : is_in_family s.place ≡ true
  unfolding opens_map
  opens_family = ap is_in_family (sym q) ∙ both_first _ _ h

  idle_family : Idle l s → ⊥
  unfolding is_in_family either
  idle_family i = true≢false (sym (ap is_in_family q ∙ opens_family) ∙ idle_outside is_in_family refl refl l s q i)

  left_right : Left new_map ls → RightMap (map_of l (up_to in_map ls))
  unfolding map_of
  left_right r =
      record {
        order = r.grid.order;
        grid = r.grid.grid;
        pins = r.few;
        some = r.some;
        fits = λ f. r.fits (r.grid.ordered f);
      }

  map_step_lem : (s' : State) → Moves l s s' → Goes s' ls e → RightMap (map_of l (up_to in_map ls))
  map_step_lem s' (idle i) g = absurd (idle_family i)
  map_step_lem s' (plainly k kept) g =
      let z : plain ≡ icm_pin_map = sym k ∙ opens_key in
      absurd (omega arith)
  map_step_lem s' (keyed k kept) g =
      let new : (keyword_next (key_of l) (argument_of l).text s).map ≡ new_map = opened_map l s opens_key in
      let r : Left (keyword_next (key_of l) (argument_of l).text s).map ls =
      head_rest g d (opened_place l s opens_key opens_family) (rw new new_growing) in
      left_right (rw new at r)

-- ---- all lines

module _ (l : Line) (ls : List Line) where
  map_open_lem : opens_map l ≡ true → map_at l ls ≡ map_of l (up_to in_map ls) ∷ []
  unfolding map_at
  map_open_lem h = if_true _ _ h

  map_skip : opens_map l ≡ false → map_at l ls ≡ []
  unfolding map_at
  map_skip h = if_false _ _ h

  maps_step :
      (s s' e : State) → e.place ≡ done → l.place ≡ s.place → Moves l s s' → Goes s' ls e → Each RightMap (gather map_at ls) →
      Each RightMap (gather map_at (l ∷ ls))
  maps_step s s' e d q mv g ih =
      by_cases (Each RightMap (gather map_at (l ∷ ls))) (opens_map l)
      (λ (h : opens_map l ≡ true). rw (gather_more map_at l ls, map_open_lem h) (Each.more (map_step_lem l ls s e d q h s' mv g) ih))
      (λ (h : opens_map l ≡ false). rw (gather_more map_at l ls, map_skip h) ih)

maps_right : {s e : State} {ls : List Line} → Goes s ls e → e.place ≡ done → Each RightMap (gather map_at ls)
maps_right Goes.none d = rw (gather_none map_at) Each.none
maps_right (Goes.more {s = s} {s' = s'} {e = e} {l = l} {ls = ls} q blank mv g) d = maps_step l ls s s' e d q mv g (maps_right g d)

pub text_maps : (t : List ℕ) (c : Counts) → reading_of t ≡ Read c → Each RightMap (document_of t).maps
unfolding document_of document_in
text_maps t c h =
    let e : Ends start_state (significant t) c = text_ends t c h in
    maps_right e.goes e.done
