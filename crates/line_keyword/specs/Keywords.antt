-- A keyword line between [Begin Header] and [End]: the rules that it may break, in the order of refusal, and what is
-- remembered after it.
-- Assumes nothing.
use Rattle.std.specs.Prelude.{ℕ, ◌+◌, Bool, true, false, not, List, [], ◌∷◌, get_or, set, leb, eqb, unwrap_or, Option, is_some}
use Rattle.table_layout.specs.Bounds.{most_models, most_maps, most_sections}
use Rattle.base.specs.If.{provided◌then◌else◌, both, either}
use Rattle.base.specs.Broken.{Rule, ◌when◌}
use Rattle.base.specs.Refusal as refusal
use Rattle.lex_number.specs.Integer.{whole_of}
use Rattle.lex_keyword.specs.Names.{
  the_end,
  row,
  bandwidth,
  file_rev,
  file_name,
  end_header,
  icm_pin_map,
  manufacturer,
  end_icm_model,
  icm_model_list,
  end_icm_family,
  begin_icm_model,
  end_icm_section,
  derivation_method,
  resistance_matrix,
  inductance_matrix,
  begin_icm_section,
  conductance_matrix,
  capacitance_matrix,
  tree_path_description,
  icm_model_description,
  icm_family_description,
}
use Rattle.line_place.specs.Place.{moved, dead, opens_matrix, is_row_or_bandwidth, stands_in_header, opens_header_text}
use Rattle.line_place.specs.Place as place
use Rattle.line_argument.specs.Argument.{is_bad_argument, is_bad_integer, is_out_of_bounds, form_of, method_of}
use Rattle.line_head.specs.Head.{head_lacks, new_head}
use Rattle.line_path.specs.Path.{path_open, path_lacks, new_path}
use Rattle.line_map.specs.PinMap.{pins_lack, is_wrong_grid, new_map}
use Rattle.line_matrix.specs.Matrix.{
  new_matrix,
  is_wrong_row,
  is_wrong_bandwidth,
  is_wrong_shape,
  is_too_wide,
  with_row,
  with_bandwidth,
  shape_conductors,
}
use Rattle.line_head.specs.declared.Head.{Head}
use Rattle.line_path.specs.declared.Path.{Path}
use Rattle.line_map.specs.declared.Map.{Map}
use Rattle.line_matrix.specs.declared.Matrix.{Matrix}
use Rattle.line_keyword.specs.State.{new_section}
use Rattle.line_keyword.specs.declared.Counts.{Counts}
use Rattle.line_keyword.specs.declared.Section.{Section}
use Rattle.line_keyword.specs.declared.State.{State}
use Rattle.table_layout.specs.Codes.{distributed}

unfoldable pub is_seen : ℕ → State → Bool
is_seen k s = get_or s.seen k false

-- "each once": the keywords of the header; in the family [Manufacturer], [ICM Model List] and its description; in a
-- model its path and its description; in a section each kind of matrix. Any other keyword that comes once, such as [ICM
-- Ver], is misplaced the second time
unfoldable pub is_once : ℕ → Bool
is_once k =
    either (stands_in_header k)
    (either (opens_header_text k)
    (either (opens_matrix k)
    (either (eqb k manufacturer)
    (either (eqb k icm_model_list)
    (either (eqb k icm_family_description) (either (eqb k tree_path_description) (eqb k icm_model_description)))))))

-- no matrix of any kind has been read in the section
unfoldable pub has_no_kind : State → Bool
has_no_kind s =
    both (not (is_seen resistance_matrix s))
    (both (not (is_seen inductance_matrix s)) (both (not (is_seen conductance_matrix s)) (not (is_seen capacitance_matrix s))))

-- "at least one matrix .. Distributed needs L and C"
unfoldable pub kinds_lack : State → Bool
kinds_lack s =
    either (has_no_kind s)
    (both (eqb s.section.method distributed) (either (not (is_seen inductance_matrix s)) (not (is_seen capacitance_matrix s))))

-- "[File Name] and [File Rev] are required"
unfoldable pub header_lacks : State → Bool
header_lacks s = either (not (is_seen file_name s)) (not (is_seen file_rev s))

-- "[Manufacturer] .. once", "At least one model"
unfoldable pub family_lacks : State → Bool
family_lacks s = either (not (is_seen manufacturer s)) (eqb s.counts.models 0)

-- what must be there already: "the list stands before the first model", and what a block requires when it closes
unfoldable pub is_lacking : ℕ → State → Bool
is_lacking k s =
    provided eqb k end_header then header_lacks s else
    provided eqb k begin_icm_model then not (is_seen icm_model_list s) else
    provided eqb k end_icm_family then family_lacks s else
    provided eqb k end_icm_model then not (is_seen tree_path_description s) else
    provided eqb k end_icm_section then kinds_lack s else
    provided eqb k the_end then eqb s.counts.sections 0 else false

-- [Manufacturer] and [ICM Family Description] come before the list (F1)
unfoldable pub is_too_late : ℕ → State → Bool
is_too_late k s =
    provided eqb k manufacturer then is_seen icm_model_list s else
    provided eqb k icm_family_description then is_seen icm_model_list s else false

-- what the keyword closes is incomplete: the head of a model, a path or a pin map
unfoldable pub is_unclosed : State → Bool
is_unclosed s =
    provided eqb s.place place.head then head_lacks s.head else
    provided eqb s.place place.path then path_lacks s.path else
    provided eqb s.place place.map_head then true else
    provided eqb s.place place.pin_list then pins_lack s.map else false

-- a keyword that may appear once has been read already
unfoldable pub is_repeated : ℕ → State → Bool
is_repeated k s = both (is_once k) (is_seen k s)

-- "9 PLACE: keyword misplaced, repeated, or a required part missing when its block closes"
unfoldable pub is_misplaced : ℕ → State → Bool
is_misplaced k s =
    either (eqb (moved s.place k) dead)
    (either (is_unclosed s) (either (is_repeated k s) (either (is_lacking k s) (is_too_late k s))))

-- "15 FORK: .. closing with one open"
unfoldable pub is_fork_open : State → Bool
is_fork_open s = both (eqb s.place place.path) (path_open s.path)

-- "[Row] or [Bandwidth] missing, surplus or out of order"; a [Row] that is no integer breaks 13, and no order
unfoldable pub is_wrong_in_matrix : ℕ → Option ℕ → Matrix → Bool
is_wrong_in_matrix k given m = provided eqb k row then both (is_some given) (is_wrong_row (unwrap_or given 0) m) else is_wrong_bandwidth m

-- in a matrix, [Row] and [Bandwidth] are judged by their order, any other keyword by the matrix that it closes
unfoldable pub is_matrix_broken : ℕ → List ℕ → State → Bool
is_matrix_broken k argument s =
    provided is_row_or_bandwidth k
    then is_wrong_in_matrix k (whole_of argument) s.matrix
    else is_wrong_shape s.matrix s.section.conductors s.counts.values

-- "16 SHAPE: matrix or pin grid of the wrong shape"
unfoldable pub is_shape_broken : ℕ → List ℕ → State → Bool
is_shape_broken k argument s =
    provided eqb s.place place.matrix then is_matrix_broken k argument s else
    both (eqb s.place place.pin_list) (is_wrong_grid s.map)

-- a diagonal over 256, at the keyword that closes it
unfoldable pub closes_too_wide : ℕ → State → Bool
closes_too_wide k s =
    both (eqb s.place place.matrix) (both (not (is_row_or_bandwidth k)) (is_too_wide s.matrix s.counts.values))

-- the keyword opens a model, map or section when there are already as many as there may be
unfoldable pub is_full : ℕ → Counts → Bool
is_full k c =
    provided eqb k begin_icm_model then leb most_models c.models else
    provided eqb k icm_pin_map then leb most_maps c.maps else
    provided eqb k begin_icm_section then leb most_sections c.sections else false

-- "17 LIMIT: a count above its bound, at the line that passes it"
unfoldable pub is_past_bound : ℕ → State → Bool
is_past_bound k s = either (closes_too_wide k s) (is_full k s.counts)

abbrev pub keyword_rules : ℕ → List ℕ → State → List Rule
keyword_rules k argument s =
    refusal.fork when is_fork_open s
    ∷ refusal.place when is_misplaced k s
    ∷ refusal.argument when is_bad_argument k argument
    ∷ refusal.number when is_bad_integer k argument
    ∷ refusal.range when is_out_of_bounds k argument
    ∷ refusal.shape when is_shape_broken k argument s
    ∷ refusal.limit when is_past_bound k s
    ∷ []

-- ---- what is remembered

-- the keyword has been read. Each model has its own path and description, and each section its own matrices, so opening
-- one forgets the earlier ones. [Row] and [Bandwidth] may appear any number of times and are not remembered
unfoldable pub seen_after : ℕ → List Bool → List Bool
seen_after k seen =
    provided is_row_or_bandwidth k then seen else
    provided eqb k begin_icm_model then set (set seen tree_path_description false) icm_model_description false else
    provided eqb k begin_icm_section
    then set (set (set (set seen resistance_matrix false) inductance_matrix false) conductance_matrix false) capacitance_matrix false
    else set seen k true

unfoldable pub head_after : ℕ → Head → Head
head_after k h = provided eqb k begin_icm_model then new_head else h

unfoldable pub path_after : ℕ → Path → Path
path_after k p = provided eqb k tree_path_description then new_path else p

unfoldable pub map_after : ℕ → Map → Map
map_after k m = provided eqb k icm_pin_map then new_map else m

-- the conductors of a section are those of the matrix that is closed; a later matrix has as many, else it breaks 16
unfoldable pub conductors_after : ℕ → State → ℕ
conductors_after k s =
    provided not (eqb s.place place.matrix) then s.section.conductors else
    provided is_row_or_bandwidth k then s.section.conductors else shape_conductors s.matrix s.counts.values

unfoldable pub section_after : ℕ → List ℕ → State → Section
section_after k argument s =
    provided eqb k begin_icm_section then new_section else
    provided eqb k derivation_method then record { method = method_of argument; conductors = 0 } else
    record { method = s.section.method; conductors = conductors_after k s }

unfoldable pub matrix_after : ℕ → List ℕ → State → Matrix
matrix_after k argument s =
    provided opens_matrix k then new_matrix (form_of argument) s.counts.values else
    provided eqb k row then with_row (unwrap_or (whole_of argument) 0) s.matrix s.counts.values else
    provided eqb k bandwidth then with_bandwidth (unwrap_or (whole_of argument) 0) s.matrix else s.matrix

unfoldable pub one_more_if : Bool → ℕ → ℕ
one_more_if b n = provided b then n + 1 else n

unfoldable pub counts_after : ℕ → Counts → Counts
counts_after k c =
    record {
      models = one_more_if (eqb k begin_icm_model) c.models;
      steps = c.steps;
      maps = one_more_if (eqb k icm_pin_map) c.maps;
      pins = c.pins;
      sections = one_more_if (eqb k begin_icm_section) c.sections;
      matrices = one_more_if (opens_matrix k) c.matrices;
      values = c.values;
    }

unfoldable pub keyword_next : ℕ → List ℕ → State → State
keyword_next k argument s =
    record {
      place = moved s.place k;
      seen = seen_after k s.seen;
      head = head_after k s.head;
      path = path_after k s.path;
      map = map_after k s.map;
      section = section_after k argument s;
      matrix = matrix_after k argument s;
      counts = counts_after k s.counts;
    }
