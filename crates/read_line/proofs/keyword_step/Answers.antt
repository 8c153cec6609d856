-- `read_line::keyword_step` meets its contract: the rule, then what is remembered.
-- Assumes nothing.
use Rattle.read_line.proofs.StepLaws.{keyword_stops, keyword_goes, keyword_inside, all_countable}
use Rattle.read_line.proofs.KeptLaws.{grid_bounded}
use Rattle.read_line.proofs.keyword_step.Goals as goal

pub keyword_rule-rule-requires : goal.keyword_rule-rule-requires
keyword_rule-rule-requires c = search grid_bounded

pub returns-then-rule-ne0 : goal.returns-then-rule-ne0
returns-then-rule-ne0 c = search keyword_stops

pub keyword_next-requires : goal.keyword_next-requires
keyword_next-requires c = search (keyword_inside, all_countable)

pub returns : goal.returns
returns c = search keyword_goes
