-- [Row] and [Bandwidth] judged by the matrix alone: the rules they break in it, and the matrix after them. They change
-- nothing else of the state.
-- Assumes nothing.
use Rattle.std.specs.Prelude.{ℕ, List, [], ◌∷◌, eqb, unwrap_or}
use Rattle.base.specs.If.{provided◌then◌else◌}
use Rattle.base.specs.Broken.{Rule, ◌when◌, first_broken}
use Rattle.base.specs.Refusal as refusal
use Rattle.lex_number.specs.Integer.{whole_of}
use Rattle.lex_keyword.specs.Names.{row}
use Rattle.line_argument.specs.Argument.{is_bad_argument, is_bad_integer, is_out_of_bounds}
use Rattle.line_matrix.specs.Matrix.{with_row, with_bandwidth}
use Rattle.line_matrix.specs.declared.Matrix.{Matrix}
use Rattle.line_keyword.specs.Keywords.{is_wrong_in_matrix}

-- the rules that a [Row] or [Bandwidth] in a matrix can break
abbrev pub matrix_keyword_rules : ℕ → List ℕ → Matrix → List Rule
matrix_keyword_rules k argument m =
    refusal.argument when is_bad_argument k argument
    ∷ refusal.number when is_bad_integer k argument
    ∷ refusal.range when is_out_of_bounds k argument
    ∷ refusal.shape when is_wrong_in_matrix k (whole_of argument) m
    ∷ []

unfoldable pub matrix_keyword_rule : ℕ → List ℕ → Matrix → ℕ
matrix_keyword_rule k argument m = first_broken (matrix_keyword_rules k argument m)

-- the matrix after a [Row] or [Bandwidth]
unfoldable pub matrix_keyword_next : ℕ → List ℕ → Matrix → ℕ → Matrix
matrix_keyword_next k argument m values =
    provided eqb k row then with_row (unwrap_or (whole_of argument) 0) m values else with_bandwidth (unwrap_or (whole_of argument) 0) m
