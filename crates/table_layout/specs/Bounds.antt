-- Document 01, "Bounds: 64 models, 4,096 steps, 64 maps, 4,096 pins (256 a map), 256 sections, 65,536 values;
-- Num_of_rows, Num_of_columns, [Row], sparse columns 1 to 256; B 0 to 255; Mult 1 to 65,535"; "(matrices 1,024)"; "to a
-- depth of 8".
-- Assumes nothing.
use Rattle.std.specs.Prelude.{ℕ, List, [], ◌∷◌}

abbrev pub most_models : ℕ
most_models = 64

abbrev pub most_steps : ℕ
most_steps = 4_096

abbrev pub most_maps : ℕ
most_maps = 64

abbrev pub most_pins : ℕ
most_pins = 4_096

abbrev pub most_sections : ℕ
most_sections = 256

abbrev pub most_matrices : ℕ
most_matrices = 1_024

abbrev pub most_values : ℕ
most_values = 65_536

-- for each part, in the order of the parts
abbrev pub bounds : List ℕ
bounds = most_models ∷ most_steps ∷ most_maps ∷ most_pins ∷ most_sections ∷ most_matrices ∷ most_values ∷ []

-- the pins of one map; the rows and the columns of its grid
abbrev pub most_map_pins : ℕ
most_map_pins = 256

-- the rows and the columns of a matrix, so the conductors of a section
abbrev pub most_conductors : ℕ
most_conductors = 256

-- the forks that are open
abbrev pub deepest : ℕ
deepest = 8

abbrev pub most_bandwidth : ℕ
most_bandwidth = 255

abbrev pub most_mult : ℕ
most_mult = 65_535

-- "SGR n:1, n 1 to 65,535"
abbrev pub most_ratio : ℕ
most_ratio = 65_535

-- "every name 1 to 120 bytes"
abbrev pub longest_name : ℕ
longest_name = 120
