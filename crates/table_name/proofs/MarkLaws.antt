-- Laws of the marks of names: each is an index of the array of marks, and the rest of a name completes its mark.
-- Assumes nothing.
use mathlib.Core.Path.{◌≡◌, refl}
use mathlib.Core.List.{List, [], ◌∷◌}
use Prim.Native.Nat.{ℕ, ◌+◌, ◌*◌, ◌%◌, ◌≤◌, ◌<◌}
use native.Mathlib.Nat.{mod-lt}
use native.Mathlib.Numerals.{add-one}
use native.Mathlib.Omega.{arith}
use lib.ListN.{length, drop, get_or, drop_of_length-le}
use lib.Seq.{drop-cons}
use Rattle.table_name.specs.Way.Hash.{bare_marks, name_marks, marks_many, mark_from, hash_of}

pub step_inside : (n : ℕ) → n % name_marks + bare_marks < marks_many
step_inside n =
    let h : n % name_marks < name_marks = mod-lt n (omega arith) in
    omega arith

start_inside : (number : ℕ) → number % bare_marks < marks_many
start_inside number =
    let h : number % bare_marks < bare_marks = mod-lt number (omega arith) in
    omega arith

from_inside : (mark : ℕ) (s : List ℕ) → mark < marks_many → mark_from mark s < marks_many
unfolding mark_from
from_inside mark [] h = h
from_inside mark (b ∷ s) h = from_inside ((mark * 37 + b) % name_marks + bare_marks) s (step_inside (mark * 37 + b))

pub of_inside : (number : ℕ) (name : List ℕ) (mark : ℕ) → mark ≡ hash_of number name → mark < marks_many
unfolding hash_of
of_inside number name mark is = rw is (from_inside (number % bare_marks) name (start_inside number))

-- the bytes that are left of the name complete the mark of the whole
pub record MarkLeft (number : ℕ) (name : List ℕ) (mark i : ℕ) : Type 0 where
  pub small : mark < marks_many
  pub same : mark_from mark (drop i name) ≡ hash_of number name

pub mark_starts : (number : ℕ) (name : List ℕ) → MarkLeft number name (number % bare_marks) 0
unfolding hash_of
mark_starts number name = record { small = start_inside number; same = refl }

module _ (number : ℕ) (name : List ℕ) (mark i : ℕ) (left : MarkLeft number name mark i) where
  pub mark_ends : length name ≤ i → mark ≡ hash_of number name
  unfolding mark_from
  mark_ends h = rw (drop_of_length-le name h) at left.same

  pub mark_on : i < length name → (b : ℕ) → b ≡ get_or name i 0 → MarkLeft number name ((mark * 37 + b) % name_marks + bare_marks) (i + 1)
  unfolding mark_from
  mark_on h b is =
      record { small = step_inside (mark * 37 + b); same = rw (is, add-one i) (rw (drop-cons name i 0 h) at left.same) }
