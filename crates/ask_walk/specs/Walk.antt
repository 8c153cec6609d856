-- Document 01: the question "walk (text, table, a place handed in and the next place handed back, with the step's words)". "A walk place is
-- model, step, depth".
-- Assumes nothing.
use Rattle.std.specs.Prelude.{ℕ, ◌+◌, Bool, true, false, not, List, [], ◌∷◌, length, get_or, take, leb, ltb, eqb}
use Rattle.table_record.specs.Records.{Records, records_of, range, no_model, no_step}
use Rattle.table_record.specs.declared.StepRecord.{StepRecord}
use Rattle.table_record.specs.declared.ModelRecord.{ModelRecord}
use Rattle.table_layout.specs.Codes.{fork_kind, endfork_kind}
use Rattle.base.specs.If.{provided◌then◌else◌, both}
use Rattle.base.specs.Refusal as refusal
use Rattle.ask_sound.specs.Sound.{depth_after, record_kinds, is_sound}
use Rattle.ask_walk.specs.declared.Place.{Place}
use Rattle.ask_walk.specs.declared.Walked.{Walked}
use Rattle.ask_walk.specs.declared.Walked.TheVariants.{Step, Done, Refused}

-- ---- the answer

-- the words of the answer; `answered` and `done` distinguish its three cases. A step's words are those of its record
pub record WalkWords : Type 0 where
  pub answered : Bool
  pub rule : ℕ
  pub line : ℕ
  pub done : Bool
  pub step : StepRecord
  pub next : Place

abbrev pub stepped : StepRecord → Place → WalkWords
stepped words next = record { answered = true; rule = 0; line = 0; done = false; step = words; next = next }

-- "it says done, step words 0, and hands the same place back"
abbrev pub done_at : Place → WalkWords
done_at place = record { answered = true; rule = 0; line = 0; done = true; step = no_step; next = place }

-- "refused, they return the number and line 0, every other word 0"
abbrev pub walk_refused : ℕ → WalkWords
walk_refused rule =
    record { answered = false; rule = rule; line = 0; done = false; step = no_step; next = record { model = 0; step = 0; depth = 0 } }

-- the paper's number and words for each case
abbrev pub walk_words : Walked → WalkWords
walk_words (Step words next) = stepped words next
walk_words (Done place) = done_at place
walk_words (Refused rule) = walk_refused rule

-- ---- the model and the step of a place

abbrev pub model_at_place : Records → Place → ModelRecord
model_at_place r p = get_or r.models p.model no_model

-- the step that comes next at a place
unfoldable pub step_at_place : Records → Place → StepRecord
step_at_place r p = get_or r.steps ((model_at_place r p).first + p.step) no_step

-- ---- places

-- how many steps are of a kind
unfoldable pub count_kind : ℕ → List ℕ → ℕ
count_kind kind [] = 0
count_kind kind (k ∷ ks) = provided eqb k kind then count_kind kind ks + 1 else count_kind kind ks

-- "the depth is opens less closes" along steps of these kinds
unfoldable pub is_depth : ℕ → List ℕ → Bool
is_depth depth kinds = eqb (depth + count_kind endfork_kind kinds) (count_kind fork_kind kinds)

-- the kinds of the model's steps before the place
unfoldable pub kinds_before : Records → Place → List ℕ
kinds_before r p = take p.step (range (model_at_place r p).first (model_at_place r p).steps (record_kinds r.steps))

-- "in range if the model exists, the step is at most the model's steps and the depth is opens less closes before it"
unfoldable pub is_place : Records → Place → Bool
is_place r p =
    both (ltb p.model (length r.models))
    (both (leb p.step (model_at_place r p).steps) (is_depth p.depth (kinds_before r p)))

-- ---- one step

-- the place after a step of this kind
unfoldable pub next_of : Place → ℕ → Place
next_of p kind = record { model = p.model; step = p.step + 1; depth = depth_after p.depth kind }

-- the answer of a walk over this step
unfoldable pub walk_over : StepRecord → Place → WalkWords
walk_over s p = stepped s (next_of p s.kind)

-- ---- the whole

-- "At step equal to steps it says done"; for a place in range
unfoldable pub walk_on : Records → Place → WalkWords
walk_on r p = provided eqb p.step (model_at_place r p).steps then done_at p else walk_over (step_at_place r p) p

-- for a sound table
unfoldable pub walk_from : Records → Place → WalkWords
walk_from r p = provided not (is_place r p) then walk_refused refusal.no_such else walk_on r p

-- "Questions: 30, 31"
unfoldable pub walk_answer : List ℕ → List ℕ → Place → WalkWords
walk_answer t table p = provided not (is_sound t table) then walk_refused refusal.table else walk_from (records_of table) p
