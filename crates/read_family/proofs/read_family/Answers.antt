use mathlib.Core.Path.{refl}
use native.Mathlib.Omega.{arith}
use Rattle.read_line.proofs.WalkLaws.{reading_starts, reading_whole}
use Rattle.read_family.proofs.ListedLaws.{follows_start}
use Rattle.read_family.proofs.FamilyLaws.{family_starts, family_after, family_early, family_stops, family_less, family_on, family_same, family_carries, family_follows, family_ends}
use borrow.Author.Rules.{rules}
use Rattle.read_family.proofs.read_family.Goals as goal

pub loop-at-init : goal.loop-at-init
loop-at-init c = (search reading_starts, search reading_whole, search family_starts, search follows_start, refl, refl, refl, refl)

pub returns-then-s-eq-AFTER : goal.returns-then-s-eq-AFTER
returns-then-s-eq-AFTER c = search family_after

pub read_on-next-requires : goal.read_on-next-requires
read_on-next-requires c = (search rules, search rules, search family_early)

pub returns-then-next-ne0 : goal.returns-then-next-ne0
returns-then-next-ne0 c = family_stops _ _ _ _ c.loop-at.invariant.1 _ _ _ _ _ _ _ _ _ _ c.read_on-next.ensures c.if-next-ne0.true _

pub loop-at-smaller : goal.loop-at-smaller
loop-at-smaller c = family_less _ _ _ _ _ _ _ _ _ _ _ _ _ _ c.read_on-next.ensures c.if-next-ne0.false c.loop-at-test.true

pub loop-at-preserved : goal.loop-at-preserved
loop-at-preserved c = (
  family_on _ _ _ _ _ _ _ _ _ _ _ _ _ _ c.read_on-next.ensures c.if-next-ne0.false,
  family_same _ _ _ _ _ _ _ _ _ _ _ _ _ _ c.read_on-next.ensures c.if-next-ne0.false c.loop-at.invariant.1,
  family_carries _ _ _ _ _ _ _ _ _ _ _ _ _ _ c.read_on-next.ensures c.if-next-ne0.false c.loop-at.invariant.2,
  family_follows _ _ _ _ _ _ _ _ _ _ _ _ _ _ c.read_on-next.ensures c.if-next-ne0.false _ c.loop-at.invariant.3 _ c.follow-list.ensures,
  omega (arith, c.read_on-next.auto.models, c.loop-at.invariant.4),
  omega (arith, c.read_on-next.auto.steps, c.loop-at.invariant.5),
  omega (arith, c.read_on-next.auto.maps, c.loop-at.invariant.6),
  omega (arith, c.read_on-next.auto.pins, c.loop-at.invariant.7),
)

pub returns : goal.returns
returns c = search family_ends
