-- Marks for the Sides of ends. Each end of a model, once it is judged, sets a mark made of its map and the bytes of its
-- Side. An end whose mark is not set has another Side than all marked ends of its map and need not be compared with them.
-- Assumes nothing.
use Rattle.std.specs.Prelude.{ℕ, ◌+◌, ◌<◌, ◌≡◌, Bool, List, [], length, get_or, eqb}
use Rattle.base.specs.If.{either}
use Rattle.table_layout.specs.Codes.{end_kind}
use Rattle.table_layout.specs.Layout.{steps}
use Rattle.table_layout.specs.declared.View.{View}
use Rattle.table_record.specs.Records.{records_of, range, no_step}
use Rattle.table_record.specs.Way.Standing.{count_of}
use Rattle.table_record.specs.declared.StepRecord.{StepRecord}
use Rattle.table_name.specs.Way.Hash.{marks_many, hash_of}
use Rattle.doc.specs.Holds.{Each}
use Rattle.cross_steps.specs.Way.StepWords.{side_of}
use Rattle.cross_steps.specs.declared.Owner.{Owner}

-- the mark of an end
unfoldable pub mark_of : List ℕ → StepRecord → ℕ
mark_of t s = hash_of s.target (side_of t s)

-- the end has no Side, or an end without a Side is marked on its map, or its own mark is set
unfoldable pub is_marked : List ℕ → List ℕ → ℕ → StepRecord → Bool
is_marked t marks stamp own =
    either (eqb own.side_size 0)
    (either (eqb (get_or marks (hash_of own.target []) 0) stamp) (eqb (get_or marks (mark_of t own) 0) stamp))

-- the ends among these steps are marked with `stamp`
pub record MarkedEnds (t marks : List ℕ) (stamp : ℕ) (above : List StepRecord) : Type 0 where
  pub whole : length marks ≡ marks_many
  pub each : Each (λ (s : StepRecord). s.kind ≡ end_kind → get_or marks (mark_of t s) 0 ≡ stamp) above

-- `above` steps of the model come before the step `own`, and their ends are marked
pub record Below (t table : List ℕ) (v : View) (marks : List ℕ) (o : Owner) (own : StepRecord) (above : ℕ) : Type 0 where
  pub inside : o.from + above < count_of v steps
  pub here : own ≡ get_or (records_of table).steps (o.from + above) no_step
  pub marked : MarkedEnds t marks o.stamp (range o.from above (records_of table).steps)

-- the rule r is the one that a definition gives; if it is 0, the step is marked too
pub record Judged (t table marks : List ℕ) (o : Owner) (above rule r : ℕ) : Type 0 where
  pub told : r ≡ rule
  pub marked : r ≡ 0 → MarkedEnds t marks o.stamp (range o.from (above + 1) (records_of table).steps)
