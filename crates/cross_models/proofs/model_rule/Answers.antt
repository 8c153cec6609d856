-- `cross_models::model_rule` meets its contract.
-- Assumes nothing.
use Rattle.base.proofs.BrokenLaws.{rule_list}
use Rattle.cross_models.specs.Way.Models.{model_rule_at}
use Rattle.cross_models.proofs.model_rule.Goals as goal

pub returns-then-is_repeated_name : goal.returns-then-is_repeated_name
unfolding model_rule_at
returns-then-is_repeated_name c = search rule_list

pub returns-then-not-listed-flag : goal.returns-then-not-listed-flag
unfolding model_rule_at
returns-then-not-listed-flag c = search rule_list

pub returns : goal.returns
unfolding model_rule_at
returns c = search rule_list
