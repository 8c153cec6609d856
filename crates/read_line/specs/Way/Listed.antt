-- Lines of the model list whose first byte shows that they break no rule.
-- Assumes nothing.
use Rattle.std.specs.Prelude.{ℕ, Bool, not, ltb, eqb}
use Prim.Native.Char.{code}
use Rattle.base.specs.If.{both}
use Rattle.base.specs.Bytes.{space}
use Rattle.line_argument.specs.Way.Reserved.{starts_reserved}

-- no blank, no bracket, and not the first byte of a reserved word
unfoldable pub is_free : ℕ → Bool
is_free b = both (ltb space b) (both (not (eqb b (code "["))) (not (starts_reserved b)))
