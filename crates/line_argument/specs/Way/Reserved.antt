-- The first bytes of the reserved words, by which most words are told apart from them.
-- Assumes nothing.
use Rattle.std.specs.Prelude.{ℕ, Bool, eqb}
use Prim.Native.Char.{code}
use Rattle.base.specs.If.{either}

unfoldable pub starts_reserved : ℕ → Bool
starts_reserved b = either (eqb b (code "P")) (either (eqb b (code "G")) (eqb b (code "N")))
