-- Earlier lines are earlier elements: in a list whose lines rise, the elements on lines above x's line are those before x.
-- Assumes nothing.
use mathlib.Core.Path.{◌≡◌, refl, ◌∙◌, ap}
use mathlib.Core.Bool.{Bool, true, false}
use mathlib.Core.List.{List, [], ◌∷◌, ◌++◌, map, map-append}
use Prim.Native.Nat.{ℕ, ◌≤◌, ◌<◌}
use native.Mathlib.Nat.{le_refl, le_of_lt}
use lib.Dec.{ltb, eqb}
use borrow.Author.Tests.{lt-ltb, le-ltb}
use Rattle.table_layout.specs.Codes.{end_kind}
use Rattle.base.specs.If.{both, either}
use Rattle.base.proofs.IfLaws.{both_rest, both_not_left, both_not_right, either_false, either_comes}
use Rattle.doc.specs.Document.{Named, Step, Model, Map, Section, Document}
use Rattle.doc.specs.Holds.{Each}
use Rattle.doc.specs.Holds.Each.{none, more}
use Rattle.cross_rules.specs.Rules.{
  any,
  same_word,
  is_twice,
  is_there,
  model_name,
  map_name,
  section_name,
  map_index,
  has_map,
  clash,
  clashes,
  is_clashing,
}
use Rattle.cross_rules.proofs.RisingLaws.{Rising, each_by, each_at, above_lower, below_higher}
use Rattle.cross_rules.proofs.OrderLaws.{name_lines, step_lines, Ordered}

-- ---- some element of a list passes a test

module _ {A : Type 0} where
  any_append : (test : A → Bool) (xs ys : List A) → any test (xs ++ ys) ≡ either (any test xs) (any test ys)
  unfolding any either
  any_append test [] ys = refl
  any_append test (x ∷ xs) ys = ap (either (test x)) (any_append test xs ys) ∙ regroup (test x) (any test xs) (any test ys)
    where
      regroup : (a b c : Bool) → either a (either b c) ≡ either (either a b) c
      regroup true b c = refl
      regroup false b c = refl

  any_none : (test : A → Bool) {xs : List A} → Each (λ (x : A). test x ≡ false) xs → any test xs ≡ false
  unfolding any
  any_none test none = refl
  any_none test (more h hs) = either_false _ _ h (any_none test hs)

  any_same : (f g : A → Bool) {xs : List A} → Each (λ (x : A). f x ≡ g x) xs → any f xs ≡ any g xs
  unfolding any
  any_same f g none = refl
  any_same f g (more h hs) = λ i. either (h i) (any_same f g hs i)

  -- `wide` equals `narrow` on lines above x's line and fails on all others, so only the elements before x count
  module _ (line : A → ℕ) (wide narrow : A → Bool) (x : A) (alike : (a : A) → line a < line x → wide a ≡ narrow a)
      (unlike : (a : A) → line x ≤ line a → wide a ≡ false) where
    any_above :
        {least : ℕ} (xs above below : List A) → xs ≡ above ++ (x ∷ below) → Rising least (map line xs) → any wide xs ≡ any narrow above
    unfolding any
    any_above {least} xs above below e h =
        let k : Rising least (map line (above ++ (x ∷ below))) = rw e at h in
        let front : any wide above ≡ any narrow above = any_same wide narrow (each_by alike (above_lower line above below x k)) in
        let own : wide x ≡ false = unlike x (le_refl (line x)) in
        let later : any wide below ≡ false =
        any_none wide (each_by (λ (a : A) (l : line x < line a). unlike a (le_of_lt l)) (below_higher line above below x k)) in
        ap (any wide) e ∙ any_append wide above (x ∷ below) ∙ either_comes _ _ (either_false _ _ own later) ∙ front

-- ---- the second of one name

module _ (n : Named) where
  pub twice_above :
      {least : ℕ} (names above below : List Named) → names ≡ above ++ (n ∷ below) → Rising least (name_lines names) →
      is_twice names n ≡ is_there above n
  unfolding is_twice is_there
  twice_above names above below e h =
      any_above (λ (m : Named). m.line) (λ (m : Named). both (ltb m.line n.line) (same_word m.name n.name))
      (λ (m : Named). same_word m.name n.name) n
      (λ (m : Named) (l : m.line < n.line). both_rest _ _ (lt-ltb _ _ l))
      (λ (m : Named) (l : n.line ≤ m.line). both_not_left _ _ (le-ltb _ _ l))
      names above below e h

named_lines : {A : Type 0} (name : A → Named) (xs : List A) → name_lines (map name xs) ≡ map (λ (a : A). (name a).line) xs
named_lines name [] = refl
named_lines name (x ∷ xs) = ap (λ (ls : List ℕ). (name x).line ∷ ls) (named_lines name xs)

twice_of :
    {A : Type 0} (name : A → Named) {least : ℕ} (xs above below : List A) (x : A) → xs ≡ above ++ (x ∷ below) →
    Rising least (map (λ (a : A). (name a).line) xs) → is_twice (map name xs) (name x) ≡ is_there (map name above) (name x)
twice_of name xs above below x e h =
    twice_above (name x) (map name xs) (map name above) (map name below) (ap (map name) e ∙ map-append name above (x ∷ below))
    (rw (← named_lines name xs) at h)

module _ (d : Document) (o : Ordered d) where
  pub listed_twice :
      (above below : List Named) (n : Named) → d.listed ≡ above ++ (n ∷ below) → is_twice d.listed n ≡ is_there above n
  listed_twice above below n e = twice_above n d.listed above below e o.listed

  pub model_twice :
      (above below : List Model) (m : Model) → d.models ≡ above ++ (m ∷ below) →
      is_twice (map model_name d.models) (model_name m) ≡ is_there (map model_name above) (model_name m)
  model_twice above below m e = twice_of model_name d.models above below m e o.models

  pub map_twice :
      (above below : List Map) (m : Map) → d.maps ≡ above ++ (m ∷ below) →
      is_twice (map map_name d.maps) (map_name m) ≡ is_there (map map_name above) (map_name m)
  map_twice above below m e = twice_of map_name d.maps above below m e o.maps

  pub section_twice :
      (above below : List Section) (s : Section) → d.sections ≡ above ++ (s ∷ below) →
      is_twice (map section_name d.sections) (section_name s) ≡ is_there (map section_name above) (section_name s)
  section_twice above below s e = twice_of section_name d.sections above below s e o.sections

  -- the pins of a map
  pub pin_twice :
      (before behind : List Map) (m : Map) → d.maps ≡ before ++ (m ∷ behind) → (above below : List Named) (p : Named) →
      m.pins ≡ above ++ (p ∷ below) → is_twice m.pins p ≡ is_there above p
  pin_twice before behind m f above below p e = twice_above p m.pins above below e (each_at before behind m (rw f at o.pins))

-- ---- the ends above an end

-- `other` is an end on the same map, and a Side is lacking or both are the same; its line does not matter
unfoldable pub meets : Document → Step → Step → Bool
meets d s other = both (eqb other.kind end_kind) (both (eqb (map_index d other) (map_index d s)) (clash other.side s.side))

both_middle : (a b c : Bool) → b ≡ true → both (both a b) c ≡ both a c
unfolding both
both_middle true b c e = both_rest b c e
both_middle false b c e = refl

module _ (d : Document) (s : Step) where
  clashes_rest : (other : Step) → other.line < s.line → clashes d s other ≡ meets d s other
  unfolding clashes meets
  clashes_rest other l = both_middle _ _ _ (lt-ltb _ _ l)

  clashes_not : (other : Step) → s.line ≤ other.line → clashes d s other ≡ false
  unfolding clashes
  clashes_not other l = both_not_left _ _ (both_not_right _ _ (le-ltb _ _ l))

  pub clashes_above :
      {least : ℕ} (steps above below : List Step) → steps ≡ above ++ (s ∷ below) → Rising least (step_lines steps) →
      any (clashes d s) steps ≡ any (meets d s) above
  clashes_above steps above below e h =
      any_above (λ (x : Step). x.line) (clashes d s) (meets d s) s clashes_rest clashes_not steps above below e h

-- the ends of a model
pub clashing_above :
    (d : Document) → Ordered d → (before behind : List Model) (m : Model) → d.models ≡ before ++ (m ∷ behind) →
    (above below : List Step) (s : Step) → m.steps ≡ above ++ (s ∷ below) →
    is_clashing d m s ≡ both (has_map d s) (any (meets d s) above)
unfolding is_clashing
clashing_above d o before behind m f above below s e =
    ap (both (has_map d s)) (clashes_above d s m.steps above below e (each_at before behind m (rw f at o.steps)))
