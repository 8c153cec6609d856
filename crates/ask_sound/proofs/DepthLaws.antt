-- The depth along the kinds of a document's steps is the depth along the steps themselves.
-- Assumes nothing.
use mathlib.Core.Path.{◌≡◌, refl, ◌∙◌}
use mathlib.Core.Bool.{Bool, true, false}
use mathlib.Core.List.{List, [], ◌∷◌, map}
use Prim.Native.Nat.{ℕ, ◌+◌, ◌-◌}
use lib.Dec.{ltb, eqb}
use Rattle.table_layout.specs.Codes.{fork_kind, endfork_kind}
use Rattle.table_layout.specs.Bounds.{deepest}
use Rattle.base.specs.If.{provided◌then◌else◌, both}
use Rattle.doc.specs.Document.{Step}
use Rattle.doc.specs.Way.Holds as holds
use Rattle.ask_sound.specs.Sound.{depth_stays, depth_after, depth_holds}

-- a test and the rest in each of three cases, or the test of all cases and then the rest
told_apart :
    (fork endfork a b : Bool) (opened closed kept : ℕ) (rest : ℕ → Bool) →
    (provided fork then both a (rest opened) else provided endfork then both b (rest closed) else rest kept)
    ≡ both (provided fork then a else provided endfork then b else true) (rest (provided fork then opened else provided endfork then closed else kept))
unfolding provided◌then◌else◌ both
told_apart true endfork a b opened closed kept rest = refl
told_apart false true a b opened closed kept rest = refl
told_apart false false a b opened closed kept rest = refl

pub depth_same : (d : ℕ) (ss : List Step) → holds.depth_of_steps d ss ≡ depth_holds d (map (λ (s : Step). s.kind) ss)
unfolding holds.depth_of_steps depth_holds depth_stays depth_after
depth_same d [] = refl
depth_same d (s ∷ ss) =
    (λ i.
    provided eqb s.kind fork_kind then both (ltb d deepest) (depth_same (d + 1) ss i) else
    provided eqb s.kind endfork_kind then both (ltb 0 d) (depth_same (d - 1) ss i) else depth_same d ss i)
    ∙ told_apart (eqb s.kind fork_kind) (eqb s.kind endfork_kind) (ltb d deepest) (ltb 0 d) (d + 1) (d - 1) d (λ (n : ℕ). depth_holds n (map (λ (x : Step). x.kind) ss))
