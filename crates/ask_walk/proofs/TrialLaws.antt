-- The definition of a walk tried by computation, over a text of one byte and a table of one model that opens a fork and closes it.
-- Assumes nothing.
use mathlib.Core.Path.{◌≡◌, refl}
use mathlib.Core.List.{List, [], ◌∷◌}
use Prim.Native.Nat.{ℕ}
use Rattle.base.specs.Refusal as refusal
use Rattle.table_layout.specs.Codes.{fork_kind, endfork_kind, slm_general}
use Rattle.table_record.specs.declared.ModelRecord.{ModelRecord}
use Rattle.table_record.specs.declared.StepRecord.{StepRecord}
use Rattle.table_record.specs.Records.{parts_of, to_step, records_in, records_of}
use Rattle.base.specs.If.{both, either, provided◌then◌else◌}
use Rattle.base.specs.Bytes.{within}
use Rattle.table_layout.specs.Layout.{joined, layout, chopped, parts_in}
use Rattle.table_layout.specs.View.{are_within, bases_at, counts_at, end_at, view_of}
use Rattle.ask_sound.specs.Tests.{is_range, is_name_in, has_no_side}
use Rattle.ask_sound.specs.Sound.{every, depth_stays, depth_after, depth_holds, is_model, is_fork_step, is_step, record_kinds, methods_of, are_sound, are_zeros, is_sound}
use Rattle.ask_walk.specs.declared.Place.{Place}
use Rattle.ask_walk.specs.Walk.{
  stepped,
  done_at,
  walk_refused,
  step_at_place,
  count_kind,
  is_depth,
  kinds_before,
  is_place,
  next_of,
  walk_over,
  walk_on,
  walk_from,
  walk_answer,
}

abbrev place : ℕ → ℕ → ℕ → Place
place model step depth = record { model = model; step = step; depth = depth }

abbrev text : List ℕ
text = 65 ∷ []

abbrev fork : StepRecord
fork = to_step (fork_kind ∷ 0 ∷ 0 ∷ 0 ∷ 0 ∷ 5 ∷ [])

abbrev endfork : StepRecord
endfork = to_step (endfork_kind ∷ 0 ∷ 0 ∷ 0 ∷ 0 ∷ 6 ∷ [])

abbrev model : ModelRecord
model = record { start = 0; size = 1; kind = slm_general; first = 0; steps = 2 }

abbrev table : List ℕ
table =
    layout
    (parts_of (record { models = model ∷ []; steps = fork ∷ endfork ∷ []; maps = []; pins = []; sections = []; matrices = []; values = [] }))

-- the answer expected at each place
tried :
    (walk_answer text table (place 0 0 0) ≡ stepped fork (place 0 1 1)) × (walk_answer text table (place 0 1 1) ≡ stepped endfork (place 0 2 0))
    × (walk_answer text table (place 0 2 0) ≡ done_at (place 0 2 0)) × (walk_answer text table (place 0 1 0) ≡ walk_refused refusal.no_such)
    × (walk_answer text table (place 0 2 1) ≡ walk_refused refusal.no_such) × (walk_answer text table (place 0 3 0) ≡ walk_refused refusal.no_such)
    × (walk_answer text table (place 1 0 0) ≡ walk_refused refusal.no_such) × (walk_answer [] table (place 1 0 0) ≡ walk_refused refusal.table)
unfolding provided◌then◌else◌ both either within joined layout parts_of chopped parts_in are_within bases_at counts_at end_at view_of records_in records_of is_range is_name_in has_no_side every depth_stays depth_after depth_holds is_model is_fork_step is_step record_kinds methods_of are_sound are_zeros is_sound step_at_place count_kind is_depth kinds_before is_place next_of walk_over walk_on walk_from walk_answer
tried = (refl, refl, refl, refl, refl, refl, refl, refl)
