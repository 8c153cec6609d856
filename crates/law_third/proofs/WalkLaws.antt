-- A walk from the start of any model of an accepted text: it shows each path line in turn as written, closes every fork, and is done after
-- exactly as many steps as the path has.
-- Assumes nothing.
use mathlib.Core.Path.{◌≡◌, refl, sym, ◌∙◌, ap, subst}
use mathlib.Core.Bool.{true}
use mathlib.Core.List.{List, [], ◌∷◌, ◌++◌, map-append}
use Prim.Native.Nat.{ℕ, zero, suc, ◌+◌, ◌≤◌, ◌<◌}
use native.Mathlib.Numerals.{add-one}
use native.Mathlib.Omega.{arith}
use lib.ListN.{length, get_or, take, length-append, length-map}
use lib.Seq.{take_at, take_all}
use borrow.Author.Tests.{eq-eqb, ne_eqb, eqb-true}
use Rattle.table_record.specs.Records.{Records, records_of, no_model, no_step, range}
use Rattle.table_record.specs.declared.StepRecord.{StepRecord}
use Rattle.table_record.specs.declared.ModelRecord.{ModelRecord}
use Rattle.table_layout.specs.Codes.{fork_kind, endfork_kind}
use Rattle.base.proofs.IfLaws.{if_true, if_false, both_first, both_second, not_not_via}
use Rattle.doc.specs.Document.{Step, Model, Document, document_of}
use Rattle.doc.specs.Records.{step_record, step_records, model_record}
use Rattle.doc.specs.Holds.{Each}
use Rattle.doc.proofs.StandsLaws.{ModelStands, StepStands, all_stand}
use Rattle.table_name.specs.Name.{name_at}
use Rattle.cross_rules.specs.Way.Findings.{step_rule}
use Rattle.cross_rules.proofs.RisingLaws.{each_at}
use Rattle.ask_sound.specs.Sound.{depth_after, depth_holds, is_sound}
use Rattle.ask_sound.specs.Sound as sound
use Rattle.law_sound.proofs.CrossLaws.{all_steps_kept}
use Rattle.ask_walk.specs.Walk as walk
use Rattle.ask_walk.specs.Walk.{WalkWords, stepped, done_at, model_at_place, step_at_place, count_kind, is_depth, kinds_before, is_place, next_of, walk_over, walk_on, walk_from}
use Rattle.ask_walk.specs.declared.Place.{Place}
use Rattle.ask_walk.proofs.KindLaws.{Moves, moves}
use Rattle.ask_walk.proofs.ReadyLaws.{right_model}
use Rattle.ask_walk.proofs.WalkLaws.{first_place, next_place}
use Rattle.law_demands.proofs.AcceptedLaws as accepted
use Rattle.law_third.specs.PathWritten.{PathWrittenBy}
use Rattle.law_third.specs.Third.{AcceptedTable, walked_to, name_through, side_of, Shown, step_kinds, WalkShown}
use Rattle.law_third.proofs.TakenLaws.{taken_passed, taken_kept, taken_sound, taken_records}
use Rattle.law_third.proofs.PathWrittenLaws.{paths_written}
use Rattle.law_third.proofs.WalkRecordLaws.{its_model, its_place, its_step, its_kinds}
use Rattle.law_third.proofs.WalkNameLaws.{all_nameless, name_shown, section_passed}

-- ---- one answer about a sound table

module _ (t table : List ℕ) (is_sound_lem : is_sound t table ≡ true) (p : Place) (inside : is_place (records_of table) p ≡ true) where
  pub answer_on :
      p.step < (model_at_place (records_of table) p).steps →
      walk.walk_answer t table p ≡ stepped (step_at_place (records_of table) p) (next_of p (step_at_place (records_of table) p).kind)
  unfolding walk.walk_answer walk_from walk_on walk_over
  answer_on h =
      let n : p.step ≡ (model_at_place (records_of table) p).steps → ⊥ = λ (e : p.step ≡ (model_at_place (records_of table) p).steps). omega arith in
      if_false _ _ (not_not_via is_sound_lem) ∙ if_false _ _ (not_not_via inside) ∙ if_false _ _ (ne_eqb _ _ n)

  pub answer_done : p.step ≡ (model_at_place (records_of table) p).steps → walk.walk_answer t table p ≡ done_at p
  unfolding walk.walk_answer walk_from walk_on
  answer_done e = if_false _ _ (not_not_via is_sound_lem) ∙ if_false _ _ (not_not_via inside) ∙ if_true _ _ (eq-eqb _ _ e)

-- ---- as many forks as endforks

balanced : (d : ℕ) (ks : List ℕ) → depth_holds d ks ≡ true → d + count_kind fork_kind ks ≡ count_kind endfork_kind ks
unfolding depth_holds count_kind
balanced d [] h =
    let e : d ≡ 0 = eqb-true d 0 h in
    omega arith
balanced d (k ∷ ks) h =
    let rest : depth_after d k + count_kind fork_kind ks ≡ count_kind endfork_kind ks = balanced (depth_after d k) ks (both_second _ _ h) in
    let m : Moves d k (count_kind fork_kind ks) (count_kind endfork_kind ks) = moves d k (both_first _ _ h) _ _ in
    omega arith

-- ---- the walk of one model

-- what holds for every element of a list holds for this one
each_of : {A : Type 0} {P : A → Type 0} (xs before behind : List A) (x : A) → xs ≡ before ++ (x ∷ behind) → Each P xs → P x
each_of {P = P} xs before behind x e h = each_at before behind x (subst (Each P) e h)

-- a place before the step k of the model i
record Comes (table : List ℕ) (i k : ℕ) (p : Place) : Type 0 where
  depth : ℕ
  is : p ≡ record { model = i; step = k; depth = depth }
  inside : is_place (records_of table) (record { model = i; step = k; depth = depth }) ≡ true

module _ (t table : List ℕ) (taken : AcceptedTable t table) (before behind : List Model) (m : Model) (stands : (document_of t).models ≡ before ++ (m ∷ behind)) where
  abbrev i : ℕ
  i = length before

  abbrev d : Document
  d = document_of t

  abbrev first : ℕ
  first = length (step_records d.maps d.sections before)

  model_there : get_or (records_of table).models i no_model ≡ model_record first m
  model_there = ap (λ (r : Records). get_or r.models i no_model) (taken_records t table taken) ∙ its_model d before behind m stands

  many : (get_or (records_of table).models i no_model).steps ≡ length m.steps
  unfolding model_record
  many = ap (λ (r : ModelRecord). r.steps) model_there

  from : (get_or (records_of table).models i no_model).first ≡ first
  unfolding model_record
  from = ap (λ (r : ModelRecord). r.first) model_there

  kinds_there :
      range (get_or (records_of table).models i no_model).first (get_or (records_of table).models i no_model).steps (sound.record_kinds (records_of table).steps)
      ≡ step_kinds m.steps
  kinds_there =
      (λ j. range (from j) (many j) (sound.record_kinds (taken_records t table taken j).steps)) ∙ its_kinds d before behind m stands

  there : i < length (records_of table).models
  there = rw (taken_records t table taken) (its_place d before behind m stands)

  -- ---- the places that it reaches

  come_on : (k : ℕ) (p : Place) → k < length m.steps → Comes table i k p → Comes table i (suc k) (walk.walk_answer t table p).next
  unfolding next_of
  come_on k p h c =
      let q : Place = record { model = i; step = k; depth = c.depth } in
      let l : k < (get_or (records_of table).models i no_model).steps = rw many h in
      let goes : walk.walk_answer t table p ≡ stepped (step_at_place (records_of table) q) (next_of q (step_at_place (records_of table) q).kind) =
      ap (walk.walk_answer t table) c.is ∙ answer_on t table (taken_sound t table taken) q c.inside l in
      record {
        depth = depth_after c.depth (step_at_place (records_of table) q).kind;
        is =
            ap (λ (w : WalkWords). w.next) goes
            ∙ ap (λ (n : ℕ). record { model = i; step = n; depth = depth_after c.depth (step_at_place (records_of table) q).kind }) (add-one k);
        inside = rw (add-one k) at (next_place t table (taken_sound t table taken) q c.inside l);
      }

  comes : (k : ℕ) → k ≤ length m.steps → Comes table i k (walked_to t table i k)
  unfolding walked_to
  comes zero h = record { depth = 0; is = refl; inside = first_place (records_of table) i there }
  comes (suc k) h = come_on k (walked_to t table i k) h (comes k (omega arith))

  -- ---- its depth

  counted :
      (k : ℕ) (p : Place) (c : Comes table i k p) (above : List Step) → take k (step_kinds m.steps) ≡ step_kinds above →
      p.depth + count_kind endfork_kind (step_kinds above) ≡ count_kind fork_kind (step_kinds above)
  unfolding is_place is_depth kinds_before
  counted k p c above e =
      let ks : List ℕ = take k (range (get_or (records_of table).models i no_model).first (get_or (records_of table).models i no_model).steps (sound.record_kinds (records_of table).steps)) in
      let f : c.depth + count_kind endfork_kind ks ≡ count_kind fork_kind ks =
      eqb-true (c.depth + count_kind endfork_kind ks) (count_kind fork_kind ks) (both_second _ _ (both_second _ _ c.inside)) in
      let g : ks ≡ step_kinds above = ap (take k) kinds_there ∙ e in
      rw (ap (λ (x : Place). x.depth) c.is) (rw g at f)

  its_deep :
      (above below : List Step) → m.steps ≡ above ++ below →
      (walked_to t table i (length above)).depth + count_kind endfork_kind (step_kinds above) ≡ count_kind fork_kind (step_kinds above)
  its_deep above below e =
      let l : length m.steps ≡ length above + length below = ap length e ∙ length-append above below in
      let h : length above ≤ length m.steps = omega arith in
      counted (length above) (walked_to t table i (length above)) (comes (length above) h) above
      (ap (λ (ss : List Step). take (length above) (step_kinds ss)) e
      ∙ ap (take (length above)) (map-append (λ (s : Step). s.kind) above below)
      ∙ take_at (step_kinds above) (step_kinds below) (length above) (length-map above (λ (s : Step). s.kind)))

  -- ---- its end

  its_balance : count_kind fork_kind (step_kinds m.steps) ≡ count_kind endfork_kind (step_kinds m.steps)
  its_balance =
      let h : depth_holds 0 (step_kinds m.steps) ≡ true = rw kinds_there at (right_model t table (taken_sound t table taken) i there).depth in
      let b : 0 + count_kind fork_kind (step_kinds m.steps) ≡ count_kind endfork_kind (step_kinds m.steps) = balanced 0 (step_kinds m.steps) h in
      omega arith

  ends_at :
      (p : Place) → Comes table i (length m.steps) p → p.depth + count_kind endfork_kind (step_kinds m.steps) ≡ count_kind fork_kind (step_kinds m.steps) →
      walk.walk_answer t table p ≡ done_at (record { model = i; step = length m.steps; depth = 0 })
  ends_at p c e =
      let b : count_kind fork_kind (step_kinds m.steps) ≡ count_kind endfork_kind (step_kinds m.steps) = its_balance in
      let f : p.depth ≡ c.depth = ap (λ (x : Place). x.depth) c.is in
      let z : c.depth ≡ 0 = omega arith in
      let q : Place = record { model = i; step = length m.steps; depth = c.depth } in
      ap (walk.walk_answer t table) c.is ∙ answer_done t table (taken_sound t table taken) q c.inside (sym many)
      ∙ ap (λ (n : ℕ). done_at (record { model = i; step = length m.steps; depth = n })) z

  its_end : walk.walk_answer t table (walked_to t table i (length m.steps)) ≡ done_at (record { model = i; step = length m.steps; depth = 0 })
  its_end =
      let c : Comes table i (length m.steps) (walked_to t table i (length m.steps)) = comes (length m.steps) (omega arith) in
      ends_at (walked_to t table i (length m.steps)) c
      (counted (length m.steps) (walked_to t table i (length m.steps)) c m.steps
      (sym (ap (λ (n : ℕ). take n (step_kinds m.steps)) (length-map m.steps (λ (s : Step). s.kind))) ∙ take_all (length (step_kinds m.steps)) (step_kinds m.steps) (omega arith)))

  -- ---- its steps

  module _ (above below : List Step) (s : Step) (e : m.steps ≡ above ++ (s ∷ below)) where
    step_there : (n : ℕ) → step_at_place (records_of table) (record { model = i; step = length above; depth = n }) ≡ step_record d.maps d.sections s
    unfolding step_at_place
    step_there n =
        (λ j. get_or (taken_records t table taken j).steps (from j + length above) no_step) ∙ its_step d before behind m stands above below s e

    below_end : length above < length m.steps
    below_end =
        let l : length m.steps ≡ length above + length (s ∷ below) = ap length e ∙ length-append above (s ∷ below) in
        omega arith

    kept : step_rule d m s ≡ 0
    kept = each_of m.steps above below s e (each_of d.models before behind m stands (all_steps_kept d (taken_kept t table taken)))

    name_there : name_through t (records_of table) (step_record d.maps d.sections s) ≡ s.name.text
    name_there =
        rw (taken_records t table taken)
        (name_shown t m s kept (each_of m.steps above below s e (each_of d.models before behind m stands (all_nameless t))))

    side_there : side_of t (step_record d.maps d.sections s) ≡ s.side.text
    unfolding side_of step_record name_at
    side_there =
        let m_stands : ModelStands t m = each_of d.models before behind m stands (all_stand t).models in
        let s_stands : StepStands t s = each_of m.steps above below s e m_stands.steps in
        s_stands.side.bytes

    shown_by : (next : Place) → Shown t table s (stepped (step_record d.maps d.sections s) next)
    unfolding step_record
    shown_by next =
        record {
          answered = refl;
          goes_on = refl;
          kind = refl;
          name = name_there;
          passes = section_passed t m s kept (each_of m.steps above below s e (each_of d.models before behind m stands (all_nameless t)));
          amount = refl;
          side = side_there;
          line = refl;
        }

    its_shown : Shown t table s (walk.walk_answer t table (walked_to t table i (length above)))
    its_shown =
        let l : length above < (get_or (records_of table).models i no_model).steps = rw many below_end in
        let c : Comes table i (length above) (walked_to t table i (length above)) = comes (length above) (omega (arith, below_end)) in
        let q : Place = record { model = i; step = length above; depth = c.depth } in
        let goes : walk.walk_answer t table (walked_to t table i (length above)) ≡ stepped (step_record d.maps d.sections s) (next_of q (step_at_place (records_of table) q).kind) =
        ap (walk.walk_answer t table) c.is ∙ answer_on t table (taken_sound t table taken) q c.inside l
        ∙ ap (λ (x : StepRecord). stepped x (next_of q (step_at_place (records_of table) q).kind)) (step_there c.depth) in
        rw goes (shown_by (next_of q (step_at_place (records_of table) q).kind))

  -- ---- its lines

  its_lines : PathWrittenBy t m
  its_lines =
      let k : accepted.Taken t (length taken.before) = taken_passed t table taken in
      each_of d.models before behind m stands (paths_written t k.counts k.reads)

  -- the walk from the start of the model, as the demand states it
  pub walk_shown : WalkShown t table (length before) m
  walk_shown = record { by_lines = its_lines; shows = its_shown; deep = its_deep; ends = its_end }

-- for every model of an accepted text
pub walks_shown :
    (t table : List ℕ) → AcceptedTable t table → (before behind : List Model) (m : Model) → (document_of t).models ≡ before ++ (m ∷ behind) →
    WalkShown t table (length before) m
walks_shown t table taken before behind m stands = walk_shown t table taken before behind m stands
