use native.Mathlib.Omega.{arith}
use Rattle.read_path.proofs.StepLaws.{side_within, side_counted, end_ordered, end_inside, section_ordered, section_inside, end_told, section_told, fork_told, endfork_told}
use Rattle.read_path.proofs.step_of.Goals as goal

pub side_after-side-requires : goal.side_after-side-requires
side_after-side-requires c = (search side_within, search side_counted)

pub named_step-requires : goal.named_step-requires
named_step-requires c = (search end_ordered, omega (arith, end_inside _ _ _ _ _ c.requires c.if-said-eq-END.true))

pub returns-then-said-eq-END : goal.returns-then-said-eq-END
returns-then-said-eq-END c = search end_told

pub named_step-requires-then-said-eq-SECTION : goal.named_step-requires-then-said-eq-SECTION
named_step-requires-then-said-eq-SECTION c = (search section_ordered, omega (arith, section_inside _ _ _ _ _ c.requires c.if-said-eq-SECTION.true))

pub returns-then-said-eq-SECTION : goal.returns-then-said-eq-SECTION
returns-then-said-eq-SECTION c = search section_told

pub returns-then-said-eq-FORK : goal.returns-then-said-eq-FORK
returns-then-said-eq-FORK c = search fork_told

pub returns : goal.returns
returns c = search endfork_told
