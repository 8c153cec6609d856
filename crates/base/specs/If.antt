-- The conditional that every definition of the project uses. It does not unfold by itself: proofs use its laws,
-- `if_true` and `if_false`.
-- Assumes nothing.
use Rattle.std.specs.Prelude.{Bool, true, false}

infix 1 provided◌then◌else◌
unfoldable pub provided◌then◌else◌ : {A : Type 0} → Bool → A → A → A
provided true then x else y = x
provided false then x else y = y

-- both tests hold; at least one test holds
unfoldable pub both : Bool → Bool → Bool
both true b = b
both false b = false

unfoldable pub either : Bool → Bool → Bool
either true b = true
either false b = b
