-- Laws by which the code meets its contracts: a loop over the parts, and the counts and bases of the parts.
-- Assumes nothing.
use mathlib.Core.Path.{◌≡◌, refl, sym, ◌∙◌, ap}
use mathlib.Core.Bool.{Bool, true}
use mathlib.Core.List.{List, [], ◌∷◌}
use Prim.Native.Nat.{ℕ, zero, suc, ◌+◌, ◌*◌, ◌≤◌, ◌<◌}
use mir.Syntax.{w64}
use mir.Val.{Fits}
use native.Mathlib.Nat.{not-suc-le-zero, le_of_suc-le-suc, mul-le-mul, le_refl}
use native.Mathlib.Numerals.{add-one}
use native.Mathlib.Omega.{arith}
use lib.ListN.{length, take, drop, get_or}
use lib.Seq.{drop-cons, take_all}
use lib.Dec.{ltb, leb}
use borrow.Author.Tests.{ltb-true, leb-true}
use Rattle.base.specs.If.{both}
use Rattle.base.specs.Runs.{all}
use Rattle.base.proofs.IfLaws.{both_first, both_second}
use Rattle.table_layout.specs.Layout.{widths, part_count, needed}
use Rattle.table_layout.specs.Bounds.{bounds, most_values}
use Rattle.table_layout.specs.Way.Bases.{bases_from, part_base, BoundedCounts}

-- ---- a loop over the parts: the words before a part, and what it and those after it need

needed_on : (ws counts : List ℕ) (part at goal : ℕ) → part < length ws → part < length counts →
    at + needed (drop part ws) (drop part counts) ≡ goal →
    at + (1 + get_or ws part 0 * get_or counts part 0) + needed (drop (part + 1) ws) (drop (part + 1) counts) ≡ goal
unfolding needed
needed_on ws counts part at goal h k e =
    let n : at + needed (get_or ws part 0 ∷ drop (suc part) ws) (get_or counts part 0 ∷ drop (suc part) counts) ≡ goal =
    rw (drop-cons ws part 0 h, drop-cons counts part 0 k) at e in
    rw (add-one part) (omega arith)

module _ (counts : List ℕ) (part at : ℕ) (long : length counts ≡ part_count)
    (inv : at + needed (drop part widths) (drop part counts) ≡ needed widths counts) where
  pub part_on : part < part_count →
      at + (1 + get_or widths part 0 * get_or counts part 0) + needed (drop (part + 1) widths) (drop (part + 1) counts) ≡ needed widths counts
  part_on h =
      let k : part < length counts = omega arith in
      needed_on widths counts part at (needed widths counts) h k inv

  -- the part itself is among the words needed
  part_within : part < part_count → at + 1 + get_or widths part 0 * get_or counts part 0 ≤ needed widths counts
  part_within h =
      omega (arith, part_on h)

-- ---- the words before a part

none_needed : (ws : List ℕ) → 0 + needed ws [] ≡ 0
unfolding needed
none_needed [] = refl
none_needed (w ∷ ws) = refl

needed_split : (p : ℕ) (ws counts : List ℕ) → needed (take p ws) (take p counts) + needed (drop p ws) (drop p counts) ≡ needed ws counts
unfolding needed
needed_split zero ws counts = omega arith
needed_split (suc p) [] counts = refl
needed_split (suc p) (w ∷ ws) [] = none_needed (drop p ws)
needed_split (suc p) (w ∷ ws) (c ∷ counts) = omega (arith, needed_split p ws counts)

pub words_done : (counts : List ℕ) (part next words : ℕ) → next ≤ part → part ≤ next →
    words + needed (drop next widths) (drop next counts) ≡ needed widths counts → words ≡ needed (take part widths) (take part counts)
words_done counts part next words h k e =
    let s : next ≡ part = omega arith in
    let f : words + needed (drop part widths) (drop part counts) ≡ needed widths counts =
    ap (λ (n : ℕ). words + needed (drop n widths) (drop n counts)) (sym s) ∙ e in
    omega (arith, needed_split part widths counts)

pub words_whole : (counts : List ℕ) (words : ℕ) → length counts ≡ part_count →
    words ≡ needed (take part_count widths) (take part_count counts) → words ≡ needed widths counts
words_whole counts words long e =
    let l : length counts ≤ part_count = omega arith in
    e ∙ ap (needed widths) (take_all part_count counts l)

-- the records of a part begin behind its count
base_from : (at : ℕ) (ws counts : List ℕ) (p : ℕ) → p < length ws → p < length counts →
    at + needed (take p ws) (take p counts) + 1 ≡ get_or (bases_from at ws counts) p 0
unfolding needed bases_from
base_from at [] counts p h k = absurd (not-suc-le-zero h)
base_from at (w ∷ ws) [] p h k = absurd (not-suc-le-zero k)
base_from at (w ∷ ws) (c ∷ counts) zero h k = omega arith
base_from at (w ∷ ws) (c ∷ counts) (suc p) h k =
    omega (arith, base_from (at + 1 + w * c) ws counts p (le_of_suc-le-suc h) (le_of_suc-le-suc k))

pub base_is : (counts : List ℕ) (part words : ℕ) → length counts ≡ part_count → part < part_count →
    words ≡ needed (take part widths) (take part counts) → words + 1 ≡ part_base counts part
base_is counts part words long h e =
    let k : part < length counts = omega arith in
    let b : 0 + needed (take part widths) (take part counts) + 1 ≡ part_base counts part = base_from 0 widths counts part h k in
    omega arith

-- ---- few records need few words

-- no record is wider
abbrev pub widest : ℕ
widest = 64

-- the words that one part may need
abbrev pub most_part_words : ℕ
most_part_words = 1 + widest * most_values

each_at : (test : ℕ → Bool) (ns : List ℕ) (p : ℕ) → all test ns ≡ true → test 0 ≡ true → test (get_or ns p 0) ≡ true
unfolding all
each_at test [] p h z = z
each_at test (n ∷ ns) zero h z = both_first _ _ h
each_at test (n ∷ ns) (suc p) h z = each_at test ns p (both_second _ _ h) z

pub widths_small : (p : ℕ) → get_or widths p 0 ≤ widest
unfolding all both
widths_small p = leb-true _ _ (each_at (λ (w : ℕ). leb w widest) widths p refl refl)

pub bounds_small : (p : ℕ) → get_or bounds p 0 ≤ most_values
unfolding all both
bounds_small p = leb-true _ _ (each_at (λ (n : ℕ). leb n most_values) bounds p refl refl)

needed_small : (ws counts : List ℕ) → ((p : ℕ) → get_or ws p 0 ≤ widest) → ((p : ℕ) → get_or counts p 0 ≤ most_values) →
    needed ws counts ≤ most_part_words * length ws
unfolding needed
needed_small [] counts h k = omega arith
needed_small (w ∷ ws) [] h k = omega arith
needed_small (w ∷ ws) (c ∷ counts) h k =
    let m : w * c ≤ widest * most_values = mul-le-mul (h zero) (k zero) in
    let n : needed ws counts ≤ most_part_words * length ws = needed_small ws counts (λ (p : ℕ). h (suc p)) (λ (p : ℕ). k (suc p)) in
    omega arith

-- more records need no fewer words
pub needed_more : (ws counts most : List ℕ) → length counts ≡ length most → ((p : ℕ) → get_or counts p 0 ≤ get_or most p 0) → needed ws counts ≤ needed ws most
unfolding needed
needed_more [] counts most e h = omega arith
needed_more (w ∷ ws) [] most e h = omega arith
needed_more (w ∷ ws) (c ∷ counts) [] e h = absurd (omega arith)
needed_more (w ∷ ws) (c ∷ counts) (b ∷ most) e h =
    let l : length counts ≡ length most = omega arith in
    let m : w * c ≤ w * b = mul-le-mul (le_refl w) (h zero) in
    let r : needed ws counts ≤ needed ws most = needed_more ws counts most l (λ (p : ℕ). h (suc p)) in
    omega arith

needed_few : (counts : List ℕ) → BoundedCounts counts → needed widths counts ≤ most_part_words * part_count
needed_few counts h = needed_small widths counts widths_small h.few

pub base_fits : (counts : List ℕ) (part words : ℕ) → BoundedCounts counts →
    words ≡ needed (take part widths) (take part counts) → Fits w64 (words + 1)
base_fits counts part words few e = omega (arith, needed_split part widths counts, needed_few counts few)

module _ (counts : List ℕ) (part at : ℕ) (long : length counts ≡ part_count) (few : BoundedCounts counts) (h : part < part_count)
    (inv : at + needed (drop part widths) (drop part counts) ≡ needed widths counts) where
  pub sum_fits : Fits w64 (at + (1 + get_or widths part 0 * get_or counts part 0))
  sum_fits = omega (arith, part_within counts part at long inv h, needed_few counts few)

-- ---- every record has at least one word

each_in : (test : ℕ → Bool) (ns : List ℕ) (p : ℕ) → all test ns ≡ true → p < length ns → test (get_or ns p 0) ≡ true
unfolding all
each_in test [] p h l = absurd (not-suc-le-zero l)
each_in test (n ∷ ns) zero h l = both_first _ _ h
each_in test (n ∷ ns) (suc p) h l = each_in test ns p (both_second _ _ h) (le_of_suc-le-suc l)
