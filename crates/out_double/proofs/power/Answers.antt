-- `out_double::power` meets its contract: the table is what the powers of ten list, which the checker computes.
-- Assumes nothing.
use Prim.Native.Nat.{ℕ, suc, ◌^◌}
use lib.Ieee.{nan, of_int, of_bits}
use Rattle.base.proofs.TableLaws.{listed_at}
use Rattle.out_double.specs.Double.{span, as_double}
use borrow.Author.Rules.{rules}
use Rattle.out_double.proofs.power.Goals as goal

pub returns : goal.returns
unfolding as_double of_int of_bits
returns c = listed_at (λ (k : ℕ). as_double (10 ^ k)) nan (suc span) c.args.k (search rules)
