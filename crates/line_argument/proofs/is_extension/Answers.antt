-- `line_argument::is_extension` meets its contract.
-- Assumes nothing.
use Rattle.base.specs.If.{either, both, provided◌then◌else◌}
use Rattle.base.specs.Bytes.{within}
use Rattle.std.proofs.Common.{arith}
use Rattle.std.proofs.lemmas.Bool.Decides.{nat_tests}
use Rattle.line_argument.specs.Argument.{is_extension}
use Rattle.line_argument.specs.Argument.{is_file_byte}
use Rattle.line_argument.proofs.ArgumentLaws.{all_told}
use Rattle.line_argument.proofs.is_extension.Goals as goal

pub returns-then-s-le3 : goal.returns-then-s-le3
unfolding is_extension either both within provided◌then◌else◌
returns-then-s-le3 c = let told = all_told is_file_byte c.args.s.now _ c.skip.ensures in grind (arith, nat_tests)

pub returns-else-s-le3 : goal.returns-else-s-le3
unfolding is_extension either both within provided◌then◌else◌
returns-else-s-le3 c = grind (arith, nat_tests)
