-- A line that is read alone, and the maps: it closes a map, opens one, stands in one or in none. What is staged and what
-- is left stays the whole.
-- Assumes nothing.
use mathlib.Core.Path.{◌≡◌, refl, sym, ◌∙◌, ap, subst}
use mathlib.Core.Bool.{true, false, true≢false}
use mathlib.Core.List.{List, [], ◌∷◌, ◌++◌}
use Prim.Native.Nat.{ℕ, ◌+◌, ◌-◌, ◌*◌, ◌≤◌}
use native.Mathlib.Omega.{arith}
use lib.ListN.{length}
use lib.Dec.{eqb}
use borrow.Author.Tests.{eq-eqb, ne_eqb, eqb-true, eqb-false}
use Rattle.base.proofs.IfLaws.{if_true, if_false, by_cases, both_true, both_not_left, both_not_right, either_left, either_right, either_false}
use Rattle.lex_keyword.specs.Names.{icm_pin_map, begin_icm_model}
use Rattle.line_place.specs.Place as place
use Rattle.line_map.specs.PinMap.{new_map}
use Rattle.line_map.specs.declared.Map.{Map}
use Rattle.line_keyword.specs.Keywords.{one_more_if}
use Rattle.line_keyword.specs.declared.State.{State}
use Rattle.table_layout.specs.Layout.{map_width}
use Rattle.table_record.specs.Records.{map_words}
use Rattle.table_record.specs.Way.Stage.{put_at, Held}
use Rattle.table_record.specs.declared.MapRecord.{MapRecord}
use Rattle.table_record.proofs.StageLaws.{held_same, held_one}
use Rattle.doc.specs.Lines.{Line, plain, key_at, key_of, argument_of, place_after, stands_in, gather, up_to}
use Rattle.doc.specs.Document.{Map as Mapped, opens_model, opens_map, in_map, grid_in, pin_at, map_of, map_at}
use Rattle.doc.specs.Records.{map_record, map_records}
use Rattle.doc.proofs.GatherLaws.{gather_more, gather_none, gather_quiet, up_in, up_out}
use Rattle.doc.proofs.LeadLaws.{OutsideMap, map_entered}
use Rattle.read_family.specs.Way.Blocks.{is_in_map, map_open, maps_behind, MapsOutside, MapsInside, MapsHeld, map_closed, maps_after}
use Rattle.read_family.specs.declared.Open.{Open}
use Rattle.read_family.proofs.BodyLaws.{added, grid_more, grid_none}
use Rattle.read_family.proofs.PlaceLaws.{map_leads, map_stays, map_outside}
use Rattle.read_family.proofs.TakeLaws.{Takes}
use Rattle.read_family.proofs.GivenLaws.{Given}

module _ (l : Line) (rest : List Line) (s s' : State) (takes : Takes l s s') (o o' : Open) (given : Given l s s' o o') (maps : List ℕ)
    (whole : List MapRecord) where
  abbrev maps' : List ℕ
  maps' = maps_after o s maps

  maps_kept : (s.place ≡ place.pin_list → ⊥) → maps' ≡ maps
  unfolding maps_after
  maps_kept h = if_false _ _ (ne_eqb _ _ h)

  pins_same : (ls : List Line) → s.counts.pins + length (gather pin_at (l ∷ ls)) ≡ s'.counts.pins + length (gather pin_at ls)
  pins_same ls = λ i. sym takes.pins i + length (gather_quiet pin_at l ls (given.no_pins ls) i)

  module _ (shut : opens_map l ≡ false) where
    no_map_lem : gather map_at (l ∷ rest) ≡ gather map_at rest
    unfolding map_at
    no_map_lem = gather_quiet map_at l rest (if_false _ _ shut)

    maps_same : s'.counts.maps ≡ s.counts.maps
    unfolding one_more_if
    maps_same = takes.maps ∙ if_false _ _ shut

  -- ---- in the head of a map

  module _ (there : s.place ≡ place.map_head) (held : MapsInside whole maps o s (l ∷ rest)) where
    key : key_of l ≡ plain
    key = takes.map_head_lem there

    no_key : (k : ℕ) → (plain ≡ k → ⊥) → eqb (key_of l) k ≡ false
    no_key k other = ne_eqb _ _ (λ (e : key_of l ≡ k). other (sym key ∙ e))

    shut : opens_map l ≡ false
    unfolding opens_map
    shut = both_not_right _ _ (no_key icm_pin_map (λ (z : plain ≡ icm_pin_map). omega arith))

    no_model_here : opens_model l ≡ false
    unfolding opens_model
    no_model_here = both_not_right _ _ (no_key begin_icm_model (λ (z : plain ≡ begin_icm_model). omega arith))

    in_map_lem : in_map l ≡ true
    unfolding in_map stands_in
    in_map_lem = either_left _ _ (both_true _ _ (eq-eqb _ _ (takes.here ∙ there)) (eq-eqb _ _ key))

    body : up_to in_map (l ∷ rest) ≡ l ∷ up_to in_map rest
    body = up_in in_map l rest in_map_lem

    grid_told : grid_in s.map (up_to in_map (l ∷ rest)) ≡ grid_in s'.map (up_to in_map rest)
    grid_told =
        ap (grid_in s.map) body ∙ grid_more s.map l (up_to in_map rest)
        ∙ ap (λ (m : Map). grid_in m (up_to in_map rest)) (sym (takes.map ∙ if_false _ _ shut))

    pins_told : s.counts.pins + length (gather pin_at (up_to in_map (l ∷ rest))) ≡ s'.counts.pins + length (gather pin_at (up_to in_map rest))
    pins_told = ap (λ (ls : List Line). s.counts.pins + length (gather pin_at ls)) body ∙ pins_same (up_to in_map rest)

    map_stays_open : map_open o s (up_to in_map (l ∷ rest)) ≡ map_open o s' (up_to in_map rest)
    unfolding map_open
    map_stays_open =
        λ i.
        record {
          start = o.start;
          size = o.size;
          order = (grid_told i).order - 1;
          rows = (grid_told i).rows;
          columns = (grid_told i).columns;
          first = o.first;
          pins = pins_told i - o.first;
        }

    further : maps_behind s (l ∷ rest) ≡ maps_behind s' rest
    unfolding maps_behind
    further = λ i. map_records (pins_told i) (no_map_lem shut i)

    maps_stay : MapsInside whole maps' o' s' rest
    unfolding map_open
    maps_stay =
        let same : maps' ≡ maps = maps_kept (λ (e : s.place ≡ place.pin_list). omega arith) in
        rw (same, given.open_same no_model_here shut)
        (record {
          some = rw (maps_same shut) held.some;
          held =
              subst (λ (n : ℕ). Held map_words map_width whole maps (n - 1) (map_open o s' (up_to in_map rest) ∷ maps_behind s' rest)) (sym (maps_same shut))
              (held_same map_words map_width whole maps (s.counts.maps - 1) _ held.held _ (λ i. map_stays_open i ∷ further i));
        })

  -- ---- below a Pin_list: the map is closed

  module _ (there : s.place ≡ place.pin_list) (held : MapsInside whole maps o s (l ∷ rest)) where
    not_in_map : in_map l ≡ false
    unfolding in_map stands_in
    not_in_map =
        either_false _ _ (both_not_left _ _ (ne_eqb _ _ (λ (e : l.place ≡ place.map_head). let z : place.pin_list ≡ place.map_head = sym (takes.here ∙ there) ∙ e in omega arith)))
        takes.no_pin

    nothing : up_to in_map (l ∷ rest) ≡ []
    nothing = up_out in_map l rest not_in_map

    no_more : s.counts.pins + length (gather pin_at (up_to in_map (l ∷ rest))) ≡ s.counts.pins
    no_more =
        let z : length (gather pin_at (up_to in_map (l ∷ rest))) ≡ 0 = ap length (ap (gather pin_at) nothing ∙ gather_none pin_at) in
        omega arith

    map_closed_lem : map_open o s (up_to in_map (l ∷ rest)) ≡ map_closed o s
    unfolding map_open
    map_closed_lem =
        let g : grid_in s.map (up_to in_map (l ∷ rest)) ≡ s.map = ap (grid_in s.map) nothing ∙ grid_none s.map in
        λ i.
        record {
          start = o.start;
          size = o.size;
          order = (g i).order - 1;
          rows = (g i).rows;
          columns = (g i).columns;
          first = o.first;
          pins = no_more i - o.first;
        }

    behind : maps_behind s (l ∷ rest) ≡ map_records s.counts.pins (gather map_at (l ∷ rest))
    unfolding maps_behind
    behind = ap (λ (n : ℕ). map_records n (gather map_at (l ∷ rest))) no_more

    stored : maps' ≡ put_at (map_width * (s.counts.maps - 1)) (map_words (map_closed o s)) maps
    unfolding maps_after
    stored = if_true _ _ (eq-eqb _ _ there)

    maps_close : MapsOutside whole maps' s (l ∷ rest)
    maps_close =
        let m : 1 ≤ s.counts.maps = held.some in
        let n : s.counts.maps - 1 + 1 ≡ s.counts.maps = omega arith in
        subst (λ (k : ℕ). Held map_words map_width whole maps' k (map_records s.counts.pins (gather map_at (l ∷ rest)))) n
        (held_one map_words map_width whole maps (s.counts.maps - 1) _ held.held (λ (x : MapRecord). refl) (map_closed o s)
        (map_records s.counts.pins (gather map_at (l ∷ rest))) (λ i. map_closed_lem i ∷ behind i) maps' stored)

  -- ---- no map is open, or none any longer

  module _ (away : s.place ≡ place.map_head → ⊥) (held : MapsOutside whole maps' s (l ∷ rest)) where
    apart : key_at l.content ≡ plain → OutsideMap s.place
    unfolding stands_in key_of
    apart k =
        record {
          head = ne_eqb _ _ away;
          pins =
              ne_eqb _ _
              (λ (e : s.place ≡ place.pin_list).
              true≢false (sym (both_true _ _ (eq-eqb l.place place.pin_list (takes.here ∙ e)) (eq-eqb _ _ k)) ∙ takes.no_pin));
        }

    maps_pass : opens_map l ≡ false → MapsOutside whole maps' s' rest
    maps_pass shut =
        subst (λ (k : ℕ). Held map_words map_width whole maps' k (map_records s'.counts.pins (gather map_at rest))) (sym (maps_same shut))
        (held_same map_words map_width whole maps' s.counts.maps _ held _ (λ i. map_records (sym takes.pins i) (no_map_lem shut i)))

    outside_after : opens_map l ≡ false → is_in_map s'.place ≡ false
    outside_after shut =
        ap is_in_map takes.there
        ∙ map_outside (place_after s.place l.content) (map_entered s.place l.content apart (sym given.map_is ∙ shut))

    module _ (opens : opens_map l ≡ true) where
      new_map_lem : s'.map ≡ new_map
      new_map_lem = takes.map ∙ if_true _ _ opens

      one_map : gather map_at (l ∷ rest) ≡ map_of l (up_to in_map rest) ∷ gather map_at rest
      unfolding map_at
      one_map = gather_more map_at l rest ∙ ap (λ (ms : List Mapped). ms ++ gather map_at rest) (if_true _ _ opens)

      map_opens : map_record s.counts.pins (map_of l (up_to in_map rest)) ≡ map_open o' s' (up_to in_map rest)
      unfolding map_open map_record map_of argument_of
      map_opens =
          let n : length (gather pin_at (up_to in_map rest)) ≡ s.counts.pins + length (gather pin_at (up_to in_map rest)) - s.counts.pins =
          sym (added s.counts.pins (length (gather pin_at (up_to in_map rest)))) in
          (λ i.
          record {
            start = (sym (given.open_map opens) i).start;
            size = (sym (given.open_map opens) i).size;
            order = (grid_in (sym new_map_lem i) (up_to in_map rest)).order - 1;
            rows = (grid_in (sym new_map_lem i) (up_to in_map rest)).rows;
            columns = (grid_in (sym new_map_lem i) (up_to in_map rest)).columns;
            first = (sym (given.open_map opens) i).first;
            pins = n i;
          })
          ∙ (λ i.
          record {
            start = o'.start;
            size = o'.size;
            order = (grid_in s'.map (up_to in_map rest)).order - 1;
            rows = (grid_in s'.map (up_to in_map rest)).rows;
            columns = (grid_in s'.map (up_to in_map rest)).columns;
            first = o'.first;
            pins = sym takes.pins i + length (gather pin_at (up_to in_map rest)) - (sym (given.open_map opens) i).first;
          })

      maps_told : map_records s.counts.pins (gather map_at (l ∷ rest)) ≡ map_open o' s' (up_to in_map rest) ∷ maps_behind s' rest
      unfolding map_records maps_behind map_of
      maps_told =
          ap (map_records s.counts.pins) one_map
          ∙ (λ i. map_opens i ∷ map_records (sym takes.pins i + length (gather pin_at (up_to in_map rest))) (gather map_at rest))

      maps_open : MapsInside whole maps' o' s' rest
      unfolding one_more_if
      maps_open =
          let e : s'.counts.maps ≡ s.counts.maps + 1 = takes.maps ∙ if_true _ _ opens in
          let n : s.counts.maps ≡ s'.counts.maps - 1 = omega arith in
          record {
            some = omega arith;
            held =
                subst (λ (k : ℕ). Held map_words map_width whole maps' k (map_open o' s' (up_to in_map rest) ∷ maps_behind s' rest)) n
                (held_same map_words map_width whole maps' s.counts.maps _ held _ maps_told);
          }

    inside_after : opens_map l ≡ true → is_in_map s'.place ≡ true
    unfolding is_in_map
    inside_after opens =
        either_left _ _ (eq-eqb _ _ (takes.there ∙ map_leads s.place l.content (sym given.map_is ∙ opens)))

    maps_on : MapsHeld whole maps' o' s' rest
    maps_on =
        by_cases _ (opens_map l)
        (λ (h : opens_map l ≡ true).
        record { outside = λ e. absurd (true≢false (sym (inside_after h) ∙ e)); inside = λ e. maps_open h })
        (λ (h : opens_map l ≡ false).
        record { outside = λ e. maps_pass h; inside = λ e. absurd (true≢false (sym e ∙ outside_after h)) })

  -- ---- whichever it is

  pub maps_line : MapsHeld whole maps o s (l ∷ rest) → MapsHeld whole maps' o' s' rest
  unfolding is_in_map key_of
  maps_line held =
      by_cases _ (eqb s.place place.map_head)
      (λ (a : eqb s.place place.map_head ≡ true).
      let there : s.place ≡ place.map_head = eqb-true _ _ a in
      let still : is_in_map s'.place ≡ true =
      ap is_in_map takes.there ∙ map_stays s.place l.content there (takes.map_head_lem there) in
      record {
        outside = λ e. absurd (true≢false (sym still ∙ e));
        inside = λ e. maps_stay there (held.inside (either_left _ _ a));
      })
      (λ (a : eqb s.place place.map_head ≡ false).
      by_cases _ (eqb s.place place.pin_list)
      (λ (b : eqb s.place place.pin_list ≡ true).
      maps_on (eqb-false _ _ a) (maps_close (eqb-true _ _ b) (held.inside (either_right _ _ b))))
      (λ (b : eqb s.place place.pin_list ≡ false).
      maps_on (eqb-false _ _ a) (rw (maps_kept (eqb-false _ _ b)) (held.outside (either_false _ _ a b)))))
