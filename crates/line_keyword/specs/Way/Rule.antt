-- The number of the first rule that a keyword line breaks, 0 for none, as code tells it.
-- Assumes nothing.
use Rattle.std.specs.Prelude.{ℕ, List}
use Rattle.base.specs.Broken.{first_broken}
use Rattle.line_keyword.specs.Keywords.{keyword_rules}
use Rattle.line_keyword.specs.declared.State.{State}

unfoldable pub keyword_rule : ℕ → List ℕ → State → ℕ
keyword_rule k argument s = first_broken (keyword_rules k argument s)
