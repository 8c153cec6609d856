-- Laws of places: the opens and closes of the steps before a place, and the words of the table for its model and its steps.
-- Assumes nothing.
use mathlib.Core.Path.{◌≡◌, refl, sym, ◌∙◌, ap}
use mathlib.Core.Bool.{Bool, true, false}
use mathlib.Core.List.{List, ◌∷◌, map}
use Prim.Native.Nat.{ℕ, zero, suc, ◌+◌, ◌-◌, ◌*◌, ◌^◌, ◌≤◌, ◌<◌, zero-le}
use native.Mathlib.Nat.{add-zero, zero-add, sub-zero, le_of_suc-le-suc, not-suc-le-zero}
use native.Mathlib.Omega.{arith}
use mir.Syntax.{w64}
use mir.Val.{Fits}
use lib.ListN.{length, take}
use lib.Dec.{leb, eqb}
use borrow.Author.Tests.{eq-eqb, ne_eqb, eqb-true, eqb-false, le-leb, lt-leb, leb-true, lt-ltb, le-ltb, ltb-true}
use Rattle.table_record.specs.declared.StepRecord.{StepRecord}
use Rattle.table_record.specs.declared.ModelRecord.{ModelRecord}
use Rattle.table_record.specs.Records.{Records, records_of, range}
use Rattle.table_record.specs.Way.Standing.{places, base_of, count_of, step_at, kinds_from, kinds_at, Rooms}
use Rattle.table_record.proofs.PlaceLaws.{kinds_long, kinds_range}
use Rattle.table_record.proofs.RecordLaws.{models_long, kinds_are}
use Rattle.base.specs.If.{provided◌then◌else◌, both}
use Rattle.base.proofs.IfLaws.{by_cases, both_rest, both_not_left, both_first, both_second}
use Rattle.table_layout.specs.Layout.{models, steps, step_width}
use Rattle.table_layout.specs.Codes.{fork_kind, endfork_kind}
use Rattle.table_layout.specs.Bounds.{deepest, most_steps}
use Rattle.table_layout.specs.declared.View.{View}
use Rattle.ask_sound.specs.Sound.{record_kinds}
use Rattle.ask_sound.specs.Way.Judged.{SoundRecords}
use Rattle.ask_walk.specs.declared.Place.{Place}
use Rattle.ask_walk.specs.Walk.{model_at_place, count_kind, is_depth, kinds_before, is_place}
use Rattle.ask_walk.proofs.KindLaws.{depth_most}
use Rattle.ask_walk.proofs.ReadyLaws.{RightModel, right_of}

-- ---- opens and closes

none_counted : (kind : ℕ) (table : List ℕ) (at : ℕ) → count_kind kind (kinds_from table at zero) ≡ 0
unfolding count_kind kinds_from places
none_counted kind table at = refl

one_counted :
    (kind : ℕ) (table : List ℕ) (at n : ℕ) →
    count_kind kind (kinds_from table at (suc n))
    ≡ (provided eqb (step_at table at).kind kind then count_kind kind (kinds_from table (at + step_width) n) + 1 else count_kind kind (kinds_from table (at + step_width) n))
unfolding count_kind kinds_from places
one_counted kind table at n = refl

-- counted on one side or on the other
count_moves : (b : Bool) (n rest : ℕ) → (provided b then n + 1 else n) + rest ≡ n + (provided b then rest + 1 else rest)
unfolding provided◌then◌else◌
count_moves true n rest = omega arith
count_moves false n rest = refl

count_few : (b : Bool) (n i : ℕ) → n ≤ i → (provided b then n + 1 else n) ≤ i + 1
unfolding provided◌then◌else◌
count_few true n i h = omega arith
count_few false n i h = omega arith

-- the loop's invariant: after i of `many` steps, the counts so far and those of the rest are the counts of all
pub record CountLeft (table : List ℕ) (from many opens closes i : ℕ) : Type 0 where
  pub most : i ≤ many
  pub few_opens : opens ≤ i
  pub few_closes : closes ≤ i
  pub opened : opens + count_kind fork_kind (kinds_from table (from + step_width * i) (many - i)) ≡ count_kind fork_kind (kinds_from table from many)
  pub closed : closes + count_kind endfork_kind (kinds_from table (from + step_width * i) (many - i)) ≡ count_kind endfork_kind (kinds_from table from many)

pub count_starts : (table : List ℕ) (from many : ℕ) → CountLeft table from many 0 0 0
count_starts table from many =
    record {
      most = zero-le;
      few_opens = zero-le;
      few_closes = zero-le;
      opened = whole fork_kind;
      closed = whole endfork_kind;
    }
  where
    first : from + step_width * 0 ≡ from
    first = omega arith

    whole : (kind : ℕ) → 0 + count_kind kind (kinds_from table (from + step_width * 0) (many - 0)) ≡ count_kind kind (kinds_from table from many)
    whole kind = zero-add _ ∙ (λ i. count_kind kind (kinds_from table (first i) (sub-zero many i)))

module _ (table : List ℕ) (from many opens closes i : ℕ) (left : CountLeft table from many opens closes i) where
  -- the current step's place, and that of the next one
  abbrev here_at : ℕ
  here_at = from + step_width * i

  next_at : from + step_width * (i + 1) ≡ here_at + step_width
  next_at = omega arith

  moved :
      (kind n : ℕ) → i < many → n + count_kind kind (kinds_from table here_at (many - i)) ≡ count_kind kind (kinds_from table from many) →
      (provided eqb (step_at table here_at).kind kind then n + 1 else n) + count_kind kind (kinds_from table (from + step_width * (i + 1)) (many - (i + 1))) ≡ count_kind kind (kinds_from table from many)
  moved kind n h e =
      let s : many - i ≡ suc (many - (i + 1)) = omega arith in
      let f : n + count_kind kind (kinds_from table here_at (suc (many - (i + 1)))) ≡ count_kind kind (kinds_from table from many) = rw s at e in
      ap (λ (q : ℕ). (provided eqb (step_at table here_at).kind kind then n + 1 else n) + count_kind kind (kinds_from table q (many - (i + 1)))) next_at
      ∙ count_moves (eqb (step_at table here_at).kind kind) n _ ∙ ap (λ (k : ℕ). n + k) (sym (one_counted kind table here_at (many - (i + 1)))) ∙ f

  pub count_on :
      i < many → (s : StepRecord) → s ≡ step_at table here_at → (opened_now closed_now : ℕ) → opened_now ≡ (provided eqb s.kind fork_kind then opens + 1 else opens) →
      closed_now ≡ (provided eqb s.kind endfork_kind then closes + 1 else closes) →
      CountLeft table from many opened_now closed_now (i + 1)
  count_on h s here opened_now closed_now by_step also =
      let o : opened_now ≡ (provided eqb (step_at table here_at).kind fork_kind then opens + 1 else opens) =
      by_step ∙ ap (λ (x : StepRecord). provided eqb x.kind fork_kind then opens + 1 else opens) here in
      let c : closed_now ≡ (provided eqb (step_at table here_at).kind endfork_kind then closes + 1 else closes) =
      also ∙ ap (λ (x : StepRecord). provided eqb x.kind endfork_kind then closes + 1 else closes) here in
      rw (o, c)
      (record {
        most = omega arith;
        few_opens = count_few (eqb (step_at table here_at).kind fork_kind) opens i left.few_opens;
        few_closes = count_few (eqb (step_at table here_at).kind endfork_kind) closes i left.few_closes;
        opened = moved fork_kind opens h left.opened;
        closed = moved endfork_kind closes h left.closed;
      })

  module _ (h : many ≤ i) where
    all_counted : (kind n : ℕ) → n + count_kind kind (kinds_from table here_at (many - i)) ≡ count_kind kind (kinds_from table from many) → n ≡ count_kind kind (kinds_from table from many)
    all_counted kind n e =
        let s : many - i ≡ 0 = omega arith in
        let f : n + count_kind kind (kinds_from table here_at 0) ≡ count_kind kind (kinds_from table from many) = rw s at e in
        sym (ap (λ (k : ℕ). n + k) (none_counted kind table here_at) ∙ add-zero n) ∙ f

    depth_is : (depth : ℕ) → eqb (depth + closes) opens ≡ is_depth depth (kinds_from table from many)
    unfolding is_depth
    depth_is depth = λ k. eqb (depth + all_counted endfork_kind closes left.closed k) (all_counted fork_kind opens left.opened k)

    pub depth_below : (depth : ℕ) → opens < closes → false ≡ is_depth depth (kinds_from table from many)
    depth_below depth l =
        let n : depth + closes ≡ opens → ⊥ = λ (e : depth + closes ≡ opens). omega arith in
        sym (ne_eqb _ _ n) ∙ depth_is depth

    pub depth_told : (depth : ℕ) → closes ≤ opens → eqb depth (opens - closes) ≡ is_depth depth (kinds_from table from many)
    depth_told depth l = by_cases _ (eqb depth (opens - closes)) same other ∙ depth_is depth
      where
        same : eqb depth (opens - closes) ≡ true → eqb depth (opens - closes) ≡ eqb (depth + closes) opens
        same e =
            let d : depth ≡ opens - closes = eqb-true depth (opens - closes) e in
            let k : depth + closes ≡ opens = omega arith in
            e ∙ sym (eq-eqb _ _ k)

        other : eqb depth (opens - closes) ≡ false → eqb depth (opens - closes) ≡ eqb (depth + closes) opens
        other e =
            let n : depth + closes ≡ opens → ⊥ = λ (k : depth + closes ≡ opens). eqb-false depth (opens - closes) e (omega arith) in
            e ∙ sym (ne_eqb _ _ n)

-- ---- the kinds of the first steps

kinds_front : (table : List ℕ) (from many n : ℕ) → many ≤ n → take many (kinds_from table from n) ≡ kinds_from table from many
unfolding kinds_from places
kinds_front table from zero n h = refl
kinds_front table from (suc many) zero h = absurd (not-suc-le-zero h)
kinds_front table from (suc many) (suc n) h = ap (λ (ks : List ℕ). (step_at table from).kind ∷ ks) (kinds_front table (from + step_width) many n (le_of_suc-le-suc h))

-- ---- where the model and the steps of a place are in the table

module _ (table : List ℕ) (v : View) (rooms : Rooms table v) (p : Place) where
  abbrev records : Records
  records = records_of table

  kinds_there : record_kinds records.steps ≡ kinds_at table v
  unfolding record_kinds
  kinds_there = ap (λ (r : Records). map (λ (s : StepRecord). s.kind) r.steps) (sym rooms.records) ∙ sym (kinds_are table v)

  pub place_none : count_of v models ≤ p.model → false ≡ is_place records p
  unfolding is_place
  place_none h =
      let k : length records.models ≤ p.model = rw (models_long table v rooms) h in
      sym (both_not_left _ _ (le-ltb _ _ k))

  module _ (judged : SoundRecords table) (has : p.model < count_of v models) (m : ModelRecord) (here : m ≡ model_at_place records p) where
    in_models : p.model < length records.models
    in_models = rw (models_long table v rooms) has

    right : RightModel records p.model
    right = right_of judged.bytes records judged.sound p.model in_models

    steps_inside : m.first + m.steps ≤ count_of v steps
    steps_inside = rw (here, sym (kinds_long table v), sym kinds_there) right.inside

    place_rest : is_place records p ≡ both (leb p.step m.steps) (is_depth p.depth (kinds_before records p))
    unfolding is_place
    place_rest = both_rest _ _ (lt-ltb _ _ in_models) ∙ ap (λ (x : ModelRecord). both (leb p.step x.steps) (is_depth p.depth (kinds_before records p))) (sym here)

    kinds_taken : kinds_before records p ≡ take p.step (kinds_from table (base_of v steps + step_width * m.first) m.steps)
    unfolding kinds_before
    kinds_taken =
        ap (λ (x : ModelRecord). take p.step (range x.first x.steps (record_kinds records.steps))) (sym here)
        ∙ ap (λ (ks : List ℕ). take p.step (range m.first m.steps ks)) kinds_there
        ∙ ap (take p.step) (kinds_range table v m.first m.steps steps_inside)

    pub place_past : m.steps < p.step → false ≡ is_place records p
    place_past h = sym (place_rest ∙ both_not_left _ _ (lt-leb _ _ h))

    module _ (upto : p.step ≤ m.steps) where
      kinds_before_lem : kinds_before records p ≡ kinds_from table (base_of v steps + step_width * m.first) p.step
      kinds_before_lem = kinds_taken ∙ kinds_front table (base_of v steps + step_width * m.first) p.step m.steps upto

      pub before_room : base_of v steps + step_width * m.first + step_width * p.step ≤ length table
      before_room = omega (arith, rooms.step_room, steps_inside)

      pub before_product : length table * 8 < 2 ^ 63 → Fits w64 (step_width * m.first)
      before_product h = omega (arith, before_room)

      pub before_sum : length table * 8 < 2 ^ 63 → Fits w64 (base_of v steps + step_width * m.first)
      before_sum h = omega (arith, before_room)

      pub place_deep : (r : Bool) → r ≡ is_depth p.depth (kinds_from table (base_of v steps + step_width * m.first) p.step) → r ≡ is_place records p
      place_deep r e = e ∙ ap (is_depth p.depth) (sym kinds_before_lem) ∙ sym (place_rest ∙ both_rest _ _ (le-leb _ _ upto))

  -- ---- a place that is in range

  module _ (in_range_lem : is_place records p ≡ true) where
    pub model_has : p.model < count_of v models
    unfolding is_place
    model_has =
        let h : p.model < length records.models = ltb-true _ _ (both_first _ _ in_range_lem) in
        rw (models_long table v rooms) at h

    module _ (judged : SoundRecords table) where
      pub shallow : p.depth ≤ deepest
      unfolding is_place kinds_before
      shallow =
          depth_most _ (right_of judged.bytes records judged.sound p.model (ltb-true _ _ (both_first _ _ in_range_lem))).depth p.step p.depth
          (both_second _ _ (both_second _ _ in_range_lem))

      module _ (m : ModelRecord) (here : m ≡ model_at_place records p) where
        step_most : p.step ≤ m.steps
        unfolding is_place
        step_most = rw here (leb-true _ _ (both_first _ _ (both_second _ _ in_range_lem)))

        within : m.first + m.steps ≤ count_of v steps
        within = steps_inside judged model_has m here

        pub few_steps : p.step ≤ most_steps
        few_steps = omega (arith, step_most, within, rooms.few_steps)

        pub index_fits : Fits w64 (m.first + p.step)
        index_fits = omega (arith, step_most, within, rooms.few_steps)

        pub index_inside : (p.step ≡ m.steps → ⊥) → m.first + p.step < count_of v steps
        index_inside n =
            let h : p.step ≤ m.steps = step_most in
            omega (arith, within)
