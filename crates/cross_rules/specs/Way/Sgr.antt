-- Rule 29 in the words of request 6, beside the list of rules.
-- Assumes nothing.
use Rattle.std.specs.Prelude.{ℕ, ◌≡◌}
use Rattle.table_layout.specs.Codes.{slm_general}
use Rattle.doc.specs.Document.{Model, Document}
use Rattle.cross_rules.specs.Listed.{Among}

-- "We want it turned away, at the SGR line, in every model that is not SLM_general."
pub record WrongSgr (d : Document) (line : ℕ) : Type 0 where
  pub model : Model
  pub among : Among model d.models
  pub there : model.sgr ≡ line
  pub some : line ≡ 0 → ⊥
  pub other : model.type ≡ slm_general → ⊥
