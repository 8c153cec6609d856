-- The grammar of a path is unambiguous: lines are a path in at most one way. Which lines are items, which end belongs to
-- which block and where a block closes is read off as a tree, and two ways to take the same lines have the same tree.
-- Assumes nothing.
use Prim.Native.Nat.{ℕ}
use mathlib.Core.Path.{◌≡◌, refl, sym, ◌∙◌, ap}
use mathlib.Core.List.{List, [], ◌∷◌, ◌++◌, append_assoc}
use native.Mathlib.Omega.{arith}
use Rattle.line_path.specs.Path.{says_end, says_side, says_section, says_fork, says_endfork}
use Rattle.law_grammar.specs.Way.Grammar.{IsEnd, MayBeEnd, AreItems, IsPath}

-- items: none; a Section and those behind it; a block, by the items in it and its end, and those behind it
pub data Tree : Type 0 where
  none : Tree
  section : Tree → Tree
  block : Tree → List ℕ → Tree → Tree

unfoldable pub tree_of : {deep : ℕ} {items : List ℕ} → AreItems deep items → Tree
tree_of AreItems.none = Tree.none
tree_of (AreItems.section i) = Tree.section (tree_of i)
tree_of (AreItems.block {end} i e j) = Tree.block (tree_of i) end (tree_of j)

pub record PathTree : Type 0 where
  pub first : List ℕ
  pub items : Tree
  pub last : List ℕ

unfoldable pub path_tree_of : {path : List ℕ} → IsPath path → PathTree
path_tree_of (IsPath.path {first} {last} f i l) = record { first = first; items = tree_of i; last = last }

-- ---- lists by their first

abbrev head_of : List ℕ → ℕ
head_of [] = 0
head_of (x ∷ xs) = x

abbrev tail_of : List ℕ → List ℕ
tail_of [] = []
tail_of (x ∷ xs) = xs

-- what stands behind items opens with an end or an Endfork
data Stops : List ℕ → Type 0 where
  at_end_lem : {later : List ℕ} → Stops (says_end ∷ later)
  at_endfork : {later : List ℕ} → Stops (says_endfork ∷ later)

-- so it opens with no item
record NoItem (l : List ℕ) : Type 0 where
  no_section_lem : head_of l ≡ says_section → ⊥
  no_fork : head_of l ≡ says_fork → ⊥

stops : {l : List ℕ} → Stops l → NoItem l
stops at_end_lem = record { no_section_lem = λ (e : says_end ≡ says_section). omega arith; no_fork = λ (e : says_end ≡ says_fork). omega arith }
stops at_endfork =
    record { no_section_lem = λ (e : says_endfork ≡ says_section). omega arith; no_fork = λ (e : says_endfork ≡ says_fork). omega arith }

closes : {end : List ℕ} (later : List ℕ) → MayBeEnd end → Stops (end ++ (says_endfork ∷ later))
closes later MayBeEnd.without = at_endfork
closes later (MayBeEnd.one IsEnd.alone) = at_end_lem
closes later (MayBeEnd.one IsEnd.sided) = at_end_lem

end_stops : {end : List ℕ} → IsEnd end → Stops end
end_stops IsEnd.alone = at_end_lem
end_stops IsEnd.sided = at_end_lem

-- ---- ends

-- the end that may stand before an Endfork
one_end :
    {end other : List ℕ} (x y : List ℕ) → MayBeEnd end → MayBeEnd other →
    end ++ (says_endfork ∷ x) ≡ other ++ (says_endfork ∷ y) → (end ≡ other) × (x ≡ y)
one_end x y MayBeEnd.without MayBeEnd.without e = (refl, ap tail_of e)
one_end x y MayBeEnd.without (MayBeEnd.one IsEnd.alone) e = let z : says_endfork ≡ says_end = ap head_of e in absurd (omega arith)
one_end x y MayBeEnd.without (MayBeEnd.one IsEnd.sided) e = let z : says_endfork ≡ says_end = ap head_of e in absurd (omega arith)
one_end x y (MayBeEnd.one IsEnd.alone) MayBeEnd.without e = let z : says_end ≡ says_endfork = ap head_of e in absurd (omega arith)
one_end x y (MayBeEnd.one IsEnd.alone) (MayBeEnd.one IsEnd.alone) e = (refl, ap (λ (l : List ℕ). tail_of (tail_of l)) e)
one_end x y (MayBeEnd.one IsEnd.alone) (MayBeEnd.one IsEnd.sided) e =
    let z : says_endfork ≡ says_side = ap (λ (l : List ℕ). head_of (tail_of l)) e in
    absurd (omega arith)
one_end x y (MayBeEnd.one IsEnd.sided) MayBeEnd.without e = let z : says_end ≡ says_endfork = ap head_of e in absurd (omega arith)
one_end x y (MayBeEnd.one IsEnd.sided) (MayBeEnd.one IsEnd.alone) e =
    let z : says_side ≡ says_endfork = ap (λ (l : List ℕ). head_of (tail_of l)) e in
    absurd (omega arith)
one_end x y (MayBeEnd.one IsEnd.sided) (MayBeEnd.one IsEnd.sided) e = (refl, ap (λ (l : List ℕ). tail_of (tail_of (tail_of l))) e)

-- the first end, before a Section
one_first :
    {end other : List ℕ} (x y : List ℕ) → IsEnd end → IsEnd other → end ++ (says_section ∷ x) ≡ other ++ (says_section ∷ y) →
    (end ≡ other) × (x ≡ y)
one_first x y IsEnd.alone IsEnd.alone e = (refl, ap (λ (l : List ℕ). tail_of (tail_of l)) e)
one_first x y IsEnd.alone IsEnd.sided e =
    let z : says_section ≡ says_side = ap (λ (l : List ℕ). head_of (tail_of l)) e in
    absurd (omega arith)
one_first x y IsEnd.sided IsEnd.alone e =
    let z : says_side ≡ says_section = ap (λ (l : List ℕ). head_of (tail_of l)) e in
    absurd (omega arith)
one_first x y IsEnd.sided IsEnd.sided e = (refl, ap (λ (l : List ℕ). tail_of (tail_of (tail_of l))) e)

-- ---- items

record OneTree (a b : Tree) (u v : List ℕ) : Type 0 where
  tree : a ≡ b
  rest : u ≡ v

regroup : (inside end later rest : List ℕ) → (inside ++ (end ++ (says_endfork ∷ later))) ++ rest ≡ inside ++ (end ++ (says_endfork ∷ (later ++ rest)))
regroup inside end later rest =
    append_assoc inside (end ++ (says_endfork ∷ later)) rest ∙ ap (λ (x : List ℕ). inside ++ x) (append_assoc end (says_endfork ∷ later) rest)

one_items :
    {deep depth : ℕ} {x y : List ℕ} (a : AreItems deep x) (b : AreItems depth y) (u v : List ℕ) → Stops u → Stops v → x ++ u ≡ y ++ v →
    OneTree (tree_of a) (tree_of b) u v
unfolding tree_of
one_items AreItems.none AreItems.none u v s t e = record { tree = refl; rest = e }
one_items AreItems.none (AreItems.section b) u v s t e = absurd ((stops s).no_section_lem (ap head_of e))
one_items AreItems.none (AreItems.block b f c) u v s t e = absurd ((stops s).no_fork (ap head_of e))
one_items (AreItems.section a) AreItems.none u v s t e = absurd ((stops t).no_section_lem (ap head_of (sym e)))
one_items (AreItems.section a) (AreItems.section b) u v s t e =
    let same : OneTree (tree_of a) (tree_of b) u v = one_items a b u v s t (ap tail_of e) in
    record { tree = ap Tree.section same.tree; rest = same.rest }
one_items (AreItems.section a) (AreItems.block b f c) u v s t e = let z : says_section ≡ says_fork = ap head_of e in absurd (omega arith)
one_items (AreItems.block a f c) AreItems.none u v s t e = absurd ((stops t).no_fork (ap head_of (sym e)))
one_items (AreItems.block a f c) (AreItems.section b) u v s t e = let z : says_fork ≡ says_section = ap head_of e in absurd (omega arith)
one_items (AreItems.block {inside} {end} {later} a f c) (AreItems.block {inside = inner} {end = other} {later = behind} b g d) u v s t e =
    let whole : inside ++ (end ++ (says_endfork ∷ (later ++ u))) ≡ inner ++ (other ++ (says_endfork ∷ (behind ++ v))) =
    sym (regroup inside end later u) ∙ ap tail_of e ∙ regroup inner other behind v in
    let within : OneTree (tree_of a) (tree_of b) (end ++ (says_endfork ∷ (later ++ u))) (other ++ (says_endfork ∷ (behind ++ v))) =
    one_items a b _ _ (closes (later ++ u) f) (closes (behind ++ v) g) whole in
    let ends : (end ≡ other) × (later ++ u ≡ behind ++ v) = one_end (later ++ u) (behind ++ v) f g within.rest in
    let after : OneTree (tree_of c) (tree_of d) u v = one_items c d u v s t ends.1 in
    let first : tree_of a ≡ tree_of b = within.tree in
    let middle : end ≡ other = ends.0 in
    let final : tree_of c ≡ tree_of d = after.tree in
    record { tree = cc; rest = after.rest }

-- ---- paths

same_path : {x y : List ℕ} (a : IsPath x) (b : IsPath y) → x ≡ y → path_tree_of a ≡ path_tree_of b
unfolding path_tree_of
same_path (IsPath.path {first} {later} {last} f i l) (IsPath.path {first = other} {later = items} {last = end} g j k) e =
    let ends : (first ≡ other) × (later ++ last ≡ items ++ end) = one_first (later ++ last) (items ++ end) f g e in
    let within : OneTree (tree_of i) (tree_of j) last end = one_items i j last end (end_stops l) (end_stops k) ends.1 in
    let front : first ≡ other = ends.0 in
    let middle : tree_of i ≡ tree_of j = within.tree in
    let final : last ≡ end = within.rest in
    cc

-- lines are a path in at most one way
pub one_tree : {path : List ℕ} (a b : IsPath path) → path_tree_of a ≡ path_tree_of b
one_tree a b = same_path a b refl
