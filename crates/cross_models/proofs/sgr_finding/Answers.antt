use Rattle.cross_models.proofs.SgrLaws.{sgr_start, sgr_end, sgr_inside, sgr_breaks, sgr_on}
use Rattle.cross_models.proofs.sgr_finding.Goals as goal

pub loop-i-init : goal.loop-i-init
loop-i-init c = search sgr_start

pub at-staged-requires : goal.at-staged-requires
at-staged-requires c = search sgr_inside

pub returns-then-is_wrong_sgr : goal.returns-then-is_wrong_sgr
returns-then-is_wrong_sgr c = search sgr_breaks

pub loop-i-preserved : goal.loop-i-preserved
loop-i-preserved c = search sgr_on

pub returns : goal.returns
returns c = search sgr_end
