-- The first line that breaks a rule, as the code searches for it: finding by finding, in text order.
-- Assumes nothing.
use Rattle.std.specs.Prelude.{List, [], ◌∷◌, eqb}
use Rattle.base.specs.If.{provided◌then◌else◌}
use Rattle.cross_rules.specs.declared.Finding.{Finding}
use Rattle.cross_rules.specs.Rules.{no_finding}

-- the first finding that breaks a rule; it is the earliest if the findings are in text order
unfoldable pub first_in : List Finding → Finding
first_in [] = no_finding
first_in (f ∷ fs) = provided eqb f.rule 0 then first_in fs else f
