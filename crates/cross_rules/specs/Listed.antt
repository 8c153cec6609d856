-- Rules as the rule book lists them: lines in their order, each with the rules that are checked there, the lowest number
-- first; and what it means that one of them is broken.
-- Assumes nothing.
use Rattle.std.specs.Prelude.{ℕ, true, List, ◌∷◌}
use Rattle.base.specs.Broken.{Rule, ◌when◌}

-- a line, and the rules that are checked there
pub record RulesAtLine : Type 0 where
  pub line : ℕ
  pub rules : List Rule

-- ---- membership in a list

pub data Among {A : Type 0} (x : A) : List A → Type 0 where
  front : {xs : List A} → Among x (x ∷ xs)
  further : {y : A} {xs : List A} → Among x xs → Among x (y ∷ xs)

-- the book has this line, and among its rules one of this number whose test is true
pub record BrokenIn (book : List RulesAtLine) (number line : ℕ) : Type 0 where
  pub rules : List Rule
  pub listed : Among (record { line = line; rules = rules }) book
  pub broken : Among (number when true) rules
