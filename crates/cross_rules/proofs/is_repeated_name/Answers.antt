-- `cross_rules::is_repeated_name` meets its contract.
-- Assumes nothing.
use Rattle.cross_rules.proofs.RepeatedLaws.{twice_told}
use Rattle.cross_rules.proofs.is_repeated_name.Goals as goal

pub returns : goal.returns
returns c = search twice_told
