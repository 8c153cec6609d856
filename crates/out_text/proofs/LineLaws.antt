-- Laws of lines: a line is written field by field.
-- Assumes nothing.
use mathlib.Core.Path.{◌≡◌, refl}
use mathlib.Core.List.{List, [], ◌∷◌, ◌++◌, append_assoc}
use Prim.Native.Nat.{ℕ}
use Rattle.base.specs.Bytes.{space, line_feed}
use Rattle.out_text.specs.Printing.{line_of}
use Rattle.out_text.specs.Written.{Written}
use Rattle.out_text.proofs.WrittenLaws.{written_is, written_more}

pub line_one : (x : List ℕ) → x ++ (line_feed ∷ []) ≡ line_of (x ∷ [])
unfolding line_of
line_one x = refl

pub line_cons : (x y : List ℕ) (more : List (List ℕ)) → (x ++ (space ∷ [])) ++ line_of (y ∷ more) ≡ line_of (x ∷ y ∷ more)
unfolding line_of
line_cons x y more = append_assoc x (space ∷ []) (line_of (y ∷ more))

module _ (a b : List ℕ) (at m : ℕ) (x : List ℕ) where
  pub line_last : Written a b at m (x ++ (line_feed ∷ [])) → Written a b at m (line_of (x ∷ []))
  line_last w = written_is (line_one x) w

  pub line_more : (y : List ℕ) (more : List (List ℕ)) (c : List ℕ) (n : ℕ) → Written a b at m (x ++ (space ∷ [])) →
      Written b c m n (line_of (y ∷ more)) → Written a c at n (line_of (x ∷ y ∷ more))
  line_more y more c n w v =
      written_is (line_cons x y more) (written_more a b at m (x ++ (space ∷ [])) w c n (line_of (y ∷ more)) v)

-- lines of two to five fields
pub line_two : (a b c : List ℕ) (at m n : ℕ) (x y : List ℕ) →
    Written a b at m (x ++ (space ∷ [])) → Written b c m n (y ++ (line_feed ∷ [])) → Written a c at n (line_of (x ∷ y ∷ []))
line_two a b c at m n x y first w = line_more a b at m x y [] c n first (line_last b c m n y w)

pub line_three : (a b c d : List ℕ) (at m n o : ℕ) (x y z : List ℕ) →
    Written a b at m (x ++ (space ∷ [])) → Written b c m n (y ++ (space ∷ [])) → Written c d n o (z ++ (line_feed ∷ [])) →
    Written a d at o (line_of (x ∷ y ∷ z ∷ []))
line_three a b c d at m n o x y z first second w = line_more a b at m x y (z ∷ []) d o first (line_two b c d m n o y z second w)

pub line_four : (a b c d e : List ℕ) (at m n o p : ℕ) (x y z u : List ℕ) →
    Written a b at m (x ++ (space ∷ [])) → Written b c m n (y ++ (space ∷ [])) → Written c d n o (z ++ (space ∷ [])) →
    Written d e o p (u ++ (line_feed ∷ [])) → Written a e at p (line_of (x ∷ y ∷ z ∷ u ∷ []))
line_four a b c d e at m n o p x y z u first second third w =
    line_more a b at m x y (z ∷ u ∷ []) e p first (line_three b c d e m n o p y z u second third w)

pub line_five : (a b c d e f : List ℕ) (at m n o p q : ℕ) (x y z u v : List ℕ) →
    Written a b at m (x ++ (space ∷ [])) → Written b c m n (y ++ (space ∷ [])) → Written c d n o (z ++ (space ∷ [])) →
    Written d e o p (u ++ (space ∷ [])) → Written e f p q (v ++ (line_feed ∷ [])) → Written a f at q (line_of (x ∷ y ∷ z ∷ u ∷ v ∷ []))
line_five a b c d e f at m n o p q x y z u v first second third fourth w =
    line_more a b at m x y (z ∷ u ∷ v ∷ []) f q first (line_four b c d e f m n o p q y z u v second third fourth w)
