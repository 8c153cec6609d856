use Rattle.read_line.proofs.StepLaws.{steps_small}
use native.Mathlib.Omega.{arith}
use Rattle.read_path.proofs.LineLaws.{line_refused, line_side, line_parsed, line_staged}
use Rattle.read_path.proofs.StepLaws.{line_ordered, line_within}
use borrow.Author.Rules.{rules}
use Rattle.read_path.proofs.path_line.Goals as goal

pub slice_bounds-path_line-count : goal.slice_bounds-path_line-count
slice_bounds-path_line-count c = search line_ordered

pub slice_bounds-path_line-start : goal.slice_bounds-path_line-start
slice_bounds-path_line-start c = search (rules, line_ordered)

pub slice_bounds-path_line-end : goal.slice_bounds-path_line-end
slice_bounds-path_line-end c = search (rules, line_within)

pub returns-then-rule-ne0 : goal.returns-then-rule-ne0
returns-then-rule-ne0 c = search line_refused

pub returns-then-said-eq-SIDE : goal.returns-then-said-eq-SIDE
returns-then-said-eq-SIDE c = search line_side

pub step_of-step-requires : goal.step_of-step-requires
step_of-step-requires c = search line_parsed

pub overflow_add-result : goal.overflow_add-result
overflow_add-result c = omega (arith, steps_small)

pub returns : goal.returns
returns c = search line_staged
