-- The record of a staged step: what its name means is found among the staged maps and sections.
-- Assumes nothing.
use Rattle.std.specs.Prelude.{ℕ, ◌*◌, ◌≤◌, List, length, eqb}
use Rattle.base.specs.If.{provided◌then◌else◌}
use Rattle.table_layout.specs.Codes.{end_kind, section_kind}
use Rattle.table_layout.specs.Bounds.{most_models, most_steps, most_maps, most_pins, most_sections, most_matrices}
use Rattle.table_layout.specs.Layout.{map_width, pin_width, section_width, matrix_width}
use Rattle.table_record.specs.Way.Stage.{staged_model_width, staged_step_width}
use Rattle.table_record.specs.declared.StepRecord.{StepRecord}
use Rattle.table_record.specs.declared.stage.StagedStep.{StagedStep}
use Rattle.table_name.specs.Name.{name_at}
use Rattle.table_name.specs.Way.Search.{find_in}

-- the staged maps and sections, and how many there are of each
pub record Targets : Type 0 where
  pub maps : List ℕ
  pub map_count : ℕ
  pub sections : List ℕ
  pub section_count : ℕ

-- they lie in their stages
pub record Inside (x : Targets) : Type 0 where
  pub maps : map_width * x.map_count ≤ length x.maps
  pub sections : section_width * x.section_count ≤ length x.sections

-- an end means the first map of its name behind it, a section the first section of its name
unfoldable pub target_found : List ℕ → Targets → StagedStep → ℕ
target_found t x s =
    provided eqb s.kind end_kind
    then find_in t x.maps 0 map_width x.map_count (name_at t s.name s.name_size) s.name else
    provided eqb s.kind section_kind
    then find_in t x.sections 0 section_width x.section_count (name_at t s.name s.name_size) 0 else 0

unfoldable pub record_found : List ℕ → Targets → StagedStep → StepRecord
record_found t x s =
    record { kind = s.kind; target = target_found t x s; amount = s.amount; side = s.side; side_size = s.side_size; line = s.line }

-- there is room in each stage for as many records as a text may have
pub record Roomy (models steps maps pins sections matrices : List ℕ) : Type 0 where
  pub models_fit : staged_model_width * most_models ≤ length models
  pub steps_fit : staged_step_width * most_steps ≤ length steps
  pub maps_fit : map_width * most_maps ≤ length maps
  pub pins_fit : pin_width * most_pins ≤ length pins
  pub sections_fit : section_width * most_sections ≤ length sections
  pub matrices_fit : matrix_width * most_matrices ≤ length matrices
