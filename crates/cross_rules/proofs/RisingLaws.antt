-- Strictly rising numbers, such as the line numbers of anything that is in text order.
-- Assumes nothing.
use mathlib.Core.Path.{◌≡◌, refl}
use mathlib.Core.Bool.{Bool, true, false}
use mathlib.Core.List.{List, [], ◌∷◌, ◌++◌, map, map-append, append_assoc}
use Prim.Native.Nat.{ℕ, ◌+◌, ◌≤◌, ◌<◌}
use native.Mathlib.Nat.{le_trans}
use native.Mathlib.Omega.{arith}
use Rattle.base.proofs.IfLaws.{by_cases}
use Rattle.doc.specs.Lines.{Line, gather, up_to}
use Rattle.doc.specs.Holds.{Each}
use Rattle.doc.specs.Holds.Each.{none, more}
use Rattle.doc.proofs.BlockLaws.{joined, joined_append}
use Rattle.doc.proofs.GatherLaws.{gather_more, gather_none, up_in, up_none, up_out}
use Rattle.cross_rules.specs.Listed.{Among}
use Rattle.cross_rules.specs.Listed.Among.{front, further}

-- ---- every element of a list

module _ {A : Type 0} {P : A → Type 0} where
  pub each_by : {Q : A → Type 0} → ((x : A) → P x → Q x) → {xs : List A} → Each P xs → Each Q xs
  each_by f none = none
  each_by f (more {x = x} h hs) = more (f x h) (each_by f hs)

  pub each_at : (before behind : List A) (x : A) → Each P (before ++ (x ∷ behind)) → P x
  each_at [] behind x (more h hs) = h
  each_at (b ∷ before) behind x (more h hs) = each_at before behind x hs

-- ---- membership in a list

module _ {A : Type 0} where
  pub each_one : {P : A → Type 0} {x : A} {xs : List A} → Each P xs → Among x xs → P x
  each_one (more h hs) front = h
  each_one (more h hs) (further m) = each_one hs m
  each_one {P = P} none m = elim m [ ]

  pub each_among : (xs : List A) → Each (λ (x : A). Among x xs) xs
  each_among [] = none
  each_among (x ∷ xs) = more front (each_by (λ (y : A) (m : Among y xs). further m) (each_among xs))

-- ---- numbers that rise

-- each number is greater than the one before it, and the first is at least `least`
pub data Rising : ℕ → List ℕ → Type 0 where
  flat : {least : ℕ} → Rising least []
  rise : {least n : ℕ} {ns : List ℕ} → least ≤ n → Rising (n + 1) ns → Rising least (n ∷ ns)

pub rising_wider : {low high : ℕ} {ns : List ℕ} → low ≤ high → Rising high ns → Rising low ns
rising_wider h flat = flat
rising_wider h (rise k rest) = rise (le_trans h k) rest

pub rising_front : {least : ℕ} (xs ys : List ℕ) → Rising least (xs ++ ys) → Rising least xs
rising_front [] ys h = flat
rising_front {least = least} (x ∷ xs) ys (rise h rest) = rise h (rising_front {least = x + 1} xs ys rest)

pub rising_behind : {least : ℕ} (xs ys : List ℕ) → Rising least (xs ++ ys) → Rising least ys
rising_behind [] ys h = h
rising_behind {least = least} (x ∷ xs) ys (rise h rest) = rising_wider (omega arith) (rising_behind {least = x + 1} xs ys rest)

-- ---- what comes before an element of a list, and what after

module _ {A : Type 0} (line : A → ℕ) where
  pub all_least : {least : ℕ} (xs : List A) → Rising least (map line xs) → Each (λ (a : A). least ≤ line a) xs
  all_least [] h = none
  all_least (x ∷ xs) (rise h rest) = more h (all_least xs (rising_wider (omega arith) rest))

  rising_at : {least : ℕ} (above below : List A) (x : A) → Rising least (map line (above ++ (x ∷ below))) → least ≤ line x
  rising_at [] below x (rise h rest) = h
  rising_at {least = least} (a ∷ above) below x (rise h rest) =
      let k : line a + 1 ≤ line x = rising_at {least = line a + 1} above below x rest in
      omega arith

  pub above_lower :
      {least : ℕ} (above below : List A) (x : A) → Rising least (map line (above ++ (x ∷ below))) → Each (λ (a : A). line a < line x) above
  above_lower [] below x h = none
  above_lower {least = least} (a ∷ above) below x (rise h rest) =
      let k : line a + 1 ≤ line x = rising_at above below x rest in
      more {x = a} (omega arith) (above_lower {least = line a + 1} above below x rest)

  pub below_higher :
      {least : ℕ} (above below : List A) (x : A) → Rising least (map line (above ++ (x ∷ below))) → Each (λ (a : A). line x < line a) below
  below_higher [] below x (rise h rest) = each_by (λ (a : A) (k : line x + 1 ≤ line a). omega arith) (all_least below rest)
  below_higher {least = least} (a ∷ above) below x (rise h rest) = below_higher {least = line a + 1} above below x rest

  higher_among : {least : ℕ} {x : A} (xs : List A) → Rising least (map line xs) → Among x xs → least ≤ line x
  higher_among xs h m = each_one (all_least xs h) m

  -- an element is determined by its line
  pub same_line : {x y : A} {least : ℕ} (xs : List A) → Rising least (map line xs) → Among x xs → Among y xs → line x ≡ line y → x ≡ y
  same_line xs h front front e = refl
  same_line {x = x} {y = y} (z ∷ xs) (rise h rest) front (further m) e =
      let k : line x + 1 ≤ line y = higher_among xs rest m in
      absurd (omega arith)
  same_line {x = x} {y = y} (z ∷ xs) (rise h rest) (further m) front e =
      let k : line y + 1 ≤ line x = higher_among xs rest m in
      absurd (omega arith)
  same_line {x = x} {y = y} {least = least} (_ ∷ _) (rise h rest) (further {y = z} {xs = xs} m) (further n) e = same_line {least = line z + 1} xs rest m n e

-- ---- what lines give

-- nothing, or a number followed by the rest
pub data Gives (n : ℕ) (rest : List ℕ) : List ℕ → Type 0 where
  nothing : Gives n rest []
  itself : Gives n rest (n ∷ rest)

pub gives_rising : {least n : ℕ} {given : List ℕ} (rest later : List ℕ) → Gives n rest given → least ≤ n → Rising (n + 1) (rest ++ later) →
    Rising least (given ++ later)
gives_rising rest later nothing h k = rising_wider (omega arith) (rising_behind rest later k)
gives_rising rest later itself h k = rise h k

-- the numbers of lines
abbrev pub numbers : List Line → List ℕ
numbers ls = map (λ (l : Line). l.line) ls

module _ {A : Type 0} (line : A → ℕ) (here : Line → List Line → List A)
    (own : (l : Line) (after : List Line) → Gives l.line [] (map line (here l after))) where
  -- each line gives at most one element, with its own line number
  pub gather_rising : {least : ℕ} (ls : List Line) → Rising least (numbers ls) → Rising least (map line (gather here ls))
  gather_rising [] flat = rw (gather_none here) flat
  gather_rising {least = least} (l ∷ ls) (rise h rest) =
      rw (gather_more here l ls, map-append line (here l ls) (gather here ls))
      (gives_rising [] (map line (gather here ls)) (own l ls) h (gather_rising {least = l.line + 1} ls rest))

  -- A kind of block: its opening line gives the whole block, whose lines are the opening line and those that its inner
  -- lines give. No line inside a block opens another.
  module _ {B : Type 0} (lines : B → List ℕ) (block_at : Line → List Line → List B) (inside : Line → Bool)
      (shut : (l : Line) (after : List Line) → inside l ≡ true → block_at l after ≡ [])
      (opened : (l : Line) (after : List Line) →
      Gives l.line (map line (gather here (up_to inside after))) (joined lines (block_at l after))) where
    inside_rising :
        {least : ℕ} (l : Line) (ls : List Line) → inside l ≡ true → least ≤ l.line →
        Rising (l.line + 1) (map line (gather here (up_to inside ls)) ++ joined lines (gather block_at ls)) →
        Rising least (map line (gather here (up_to inside (l ∷ ls))) ++ joined lines (gather block_at (l ∷ ls)))
    inside_rising l ls e h k =
        rw (
          up_in inside l ls e,
          gather_more here l (up_to inside ls),
          gather_more block_at l ls,
          shut l ls e,
          map-append line (here l (up_to inside ls)) (gather here (up_to inside ls)),
          append_assoc,
        )
        (gives_rising [] _ (own l (up_to inside ls)) h k)

    outside_rising :
        {least : ℕ} (l : Line) (ls : List Line) → inside l ≡ false → least ≤ l.line →
        Rising (l.line + 1) (map line (gather here (up_to inside ls)) ++ joined lines (gather block_at ls)) →
        Rising least (map line (gather here (up_to inside (l ∷ ls))) ++ joined lines (gather block_at (l ∷ ls)))
    outside_rising l ls e h k =
        rw (up_out inside l ls e, gather_none here, gather_more block_at l ls, joined_append lines (block_at l ls) (gather block_at ls))
        (gives_rising (map line (gather here (up_to inside ls))) _ (opened l ls) h k)

    -- the rest of an open block, and the blocks after it
    within_rising :
        {least : ℕ} (ls : List Line) → Rising least (numbers ls) →
        Rising least (map line (gather here (up_to inside ls)) ++ joined lines (gather block_at ls))
    unfolding joined
    within_rising [] flat = rw (up_none inside, gather_none here, gather_none block_at) flat
    within_rising {least = least} (l ∷ ls) (rise h rest) =
        by_cases _ (inside l) (λ (e : inside l ≡ true). inside_rising l ls e h (within_rising {least = l.line + 1} ls rest))
        (λ (e : inside l ≡ false). outside_rising l ls e h (within_rising {least = l.line + 1} ls rest))

    pub blocks_rising : {least : ℕ} (ls : List Line) → Rising least (numbers ls) → Rising least (joined lines (gather block_at ls))
    blocks_rising ls h = rising_behind (map line (gather here (up_to inside ls))) _ (within_rising ls h)
