-- A test that every element of a list passes, and the middle one of three joined lists.
-- Assumes nothing.
use mathlib.Core.Path.{◌≡◌, refl, ◌∙◌, ap}
use mathlib.Core.Bool.{Bool, true}
use mathlib.Core.List.{List, [], ◌∷◌, ◌++◌, map}
use Prim.Native.Nat.{ℕ}
use lib.ListN.{length, take}
use lib.Seq.{take_at, drop_at}
use Rattle.table_record.specs.Records.{range}
use Rattle.base.proofs.IfLaws.{both_true, both_first, both_second}
use Rattle.doc.specs.Holds.{Each}
use Rattle.doc.specs.Holds.Each.{none, more}
use Rattle.ask_sound.specs.Sound.{every}

module _ {A : Type 0} (test : A → Bool) where
  pub every_none : every test [] ≡ true
  unfolding every
  every_none = refl

  pub every_more : (x : A) (xs : List A) → test x ≡ true → every test xs ≡ true → every test (x ∷ xs) ≡ true
  unfolding every
  every_more x xs h hs = both_true _ _ h hs

  pub every_append : (xs ys : List A) → every test xs ≡ true → every test ys ≡ true → every test (xs ++ ys) ≡ true
  unfolding every
  every_append [] ys h k = k
  every_append (x ∷ xs) ys h k = both_true _ _ (both_first _ _ h) (every_append xs ys (both_second _ _ h) k)

  pub each_every : {xs : List A} → Each (λ (x : A). test x ≡ true) xs → every test xs ≡ true
  each_every none = every_none
  each_every (more {x = x} {xs = xs} h hs) = every_more x xs h (each_every hs)

-- the elements of a mapped list
pub every_map :
    {A B : Type 0} (test : B → Bool) (f : A → B) {xs : List A} → Each (λ (x : A). test (f x) ≡ true) xs → every test (map f xs) ≡ true
every_map test f none = every_none test
every_map test f (more {x = x} {xs = xs} h hs) = every_more test (f x) (map f xs) h (every_map test f hs)

-- the middle one of three lists
pub range_middle :
    {A : Type 0} (before middle after : List A) (first many : ℕ) → length before ≡ first → length middle ≡ many →
    range first many (before ++ (middle ++ after)) ≡ middle
range_middle before middle after first many e f =
    ap (take many) (drop_at before (middle ++ after) first e) ∙ take_at middle after many f
