-- Laws of the layout: its length, that a table which holds it is taken apart into the same parts, and where each word
-- of a record is.
-- Assumes nothing.
use mathlib.Core.Path.{◌≡◌, refl, sym, ◌∙◌, ap}
use mathlib.Core.List.{List, [], ◌∷◌, ◌++◌, map, append_assoc}
use Prim.Native.Nat.{ℕ, zero, suc, ◌+◌, ◌-◌, ◌*◌, ◌≤◌, ◌<◌}
use native.Mathlib.Nat.{zero-add, mul-zero, mul-suc, le_of_suc-le-suc, not-suc-le-zero}
use native.Mathlib.Numerals.{one-add}
use native.Mathlib.Omega.{arith}
use lib.ListN.{length, drop, get_or, replicate, length-append}
use lib.Seq.{drop-drop, take_at, drop_at, get_or-drop}
use Rattle.table_layout.specs.Layout.{joined, layout, chopped, parts_in, needed}
use Rattle.table_layout.specs.Way.Parts.{AllLong, Wide, count_at, begins_in}
use Rattle.table_layout.specs.Way.Bases.{bases_from}

-- ---- how long

pub length_joined : {w : ℕ} {records : List (List ℕ)} → AllLong w records → length (joined records) ≡ w * length records
unfolding joined
length_joined {w} AllLong.none = sym (mul-zero w)
length_joined {w} (AllLong.more {r} {rs} e h) =
    let k : length (joined rs) ≡ w * length rs = length_joined h in
    let m : w * suc (length rs) ≡ w * length rs + w = mul-suc w (length rs) in
    let l : length (r ++ joined rs) ≡ length r + length (joined rs) = length-append r (joined rs) in
    omega arith

pub length_layout : (ws : List ℕ) (parts : List (List (List ℕ))) → Wide ws parts → length (layout parts) ≡ needed ws (map length parts)
unfolding layout needed
length_layout [] [] Wide.none = refl
length_layout (w ∷ ws) (records ∷ parts) (Wide.more h wide) =
    let k : length (layout parts) ≡ needed ws (map length parts) = length_layout ws parts wide in
    let j : length (joined records) ≡ w * length records = length_joined h in
    rw (length-append (joined records) (layout parts)) (omega arith)
length_layout [] (records ∷ parts) wide = elim wide [ ]
length_layout (w ∷ ws) [] wide = elim wide [ ]

-- ---- taken apart

pub chopped_joined : {w : ℕ} {records : List (List ℕ)} → AllLong w records → (rest : List ℕ) →
    chopped w (length records) (joined records ++ rest) ≡ records
unfolding joined chopped
chopped_joined AllLong.none rest = refl
chopped_joined {w} (AllLong.more {r} {rs} e h) rest =
    rw (append_assoc r (joined rs) rest, take_at r (joined rs ++ rest) w e, drop_at r (joined rs ++ rest) w e)
    (ap (λ (l : List (List ℕ)). r ∷ l) (chopped_joined h rest))

-- the other parts come after the first
behind_first : {w : ℕ} {records : List (List ℕ)} → AllLong w records → (parts : List (List (List ℕ))) (rest : List ℕ) →
    drop (1 + w * length records) (layout (records ∷ parts) ++ rest) ≡ layout parts ++ rest
unfolding layout
behind_first {w} {records} h parts rest =
    rw (append_assoc (joined records) (layout parts) rest, one-add (w * length records))
    (drop_at (joined records) (layout parts ++ rest) (w * length records) (length_joined h))

-- whatever comes after
pub apart : (ws : List ℕ) (parts : List (List (List ℕ))) (rest : List ℕ) → Wide ws parts → parts_in ws (layout parts ++ rest) ≡ parts
unfolding layout parts_in
apart [] [] rest Wide.none = refl
apart (w ∷ ws) (records ∷ parts) rest (Wide.more h wide) =
    rw (
      behind_first h parts rest,
      append_assoc (joined records) (layout parts) rest,
      chopped_joined h (layout parts ++ rest),
      apart ws parts rest wide,
    )
apart [] (records ∷ parts) rest wide = elim wide [ ]
apart (w ∷ ws) [] rest wide = elim wide [ ]

pub taken_apart : (ws : List ℕ) (parts : List (List (List ℕ))) (z : ℕ) → Wide ws parts → parts_in ws (layout parts ++ replicate z 0) ≡ parts
taken_apart ws parts z wide = apart ws parts (replicate z 0) wide

-- ---- where a part is

pub length_chopped : (w n : ℕ) (t : List ℕ) → length (chopped w n t) ≡ n
unfolding chopped
length_chopped w zero t = refl
length_chopped w (suc n) t = ap suc (length_chopped w n (drop w t))

-- the words before the second part
abbrev behind : ℕ → List ℕ → ℕ
behind w t = 1 + w * get_or t 0 0

count_later : (w : ℕ) (ws t : List ℕ) (p : ℕ) → count_at (w ∷ ws) t (suc p) ≡ behind w t + count_at ws (drop (behind w t) t) p
unfolding count_at
count_later w ws t zero = omega arith
count_later w ws t (suc p) =
    let e : count_at (w ∷ ws) t (suc p) ≡ behind w t + count_at ws (drop (behind w t) t) p = count_later w ws t p in
    rw (e, get_or-drop (behind w t) t (count_at ws (drop (behind w t) t) p) 0) (omega arith)

begins_later : (w : ℕ) (ws t : List ℕ) (p : ℕ) → begins_in (w ∷ ws) t (suc p) ≡ behind w t + begins_in ws (drop (behind w t) t) p
unfolding begins_in
begins_later w ws t p = rw (count_later w ws t p) (omega arith)

-- a part has as many records as its count says
pub part_long : (ws t : List ℕ) (p : ℕ) → p < length ws → length (get_or (parts_in ws t) p []) ≡ get_or t (count_at ws t p) 0
unfolding parts_in count_at
part_long [] t p h = absurd (not-suc-le-zero h)
part_long (w ∷ ws) t zero h = length_chopped w (get_or t 0 0) (drop 1 t)
part_long (w ∷ ws) t (suc p) h =
    rw (count_later w ws t p, ← get_or-drop (behind w t) t (count_at ws (drop (behind w t) t) p) 0)
    (part_long ws (drop (behind w t) t) p (le_of_suc-le-suc h))

-- ---- where the parts of a layout are

pub count_laid : (ws : List ℕ) (parts : List (List (List ℕ))) (rest : List ℕ) (p : ℕ) → Wide ws parts → p < length ws →
    get_or (layout parts ++ rest) (count_at ws (layout parts ++ rest) p) 0 ≡ length (get_or parts p [])
count_laid ws parts rest p wide h = rw (apart ws parts rest wide) at (sym (part_long ws (layout parts ++ rest) p h))

begins_from : (ws : List ℕ) (parts : List (List (List ℕ))) (rest : List ℕ) (at p : ℕ) → Wide ws parts → p < length ws →
    at + begins_in ws (layout parts ++ rest) p ≡ get_or (bases_from at ws (map length parts)) p 0
unfolding bases_from begins_in count_at layout
begins_from [] [] rest at p Wide.none h = absurd (not-suc-le-zero h)
begins_from (w ∷ ws) (records ∷ parts) rest at zero (Wide.more long wide) h = refl
begins_from (w ∷ ws) (records ∷ parts) rest at (suc p) (Wide.more long wide) h =
    let next : ℕ = at + 1 + w * length records in
    let e : next + begins_in ws (layout parts ++ rest) p ≡ get_or (bases_from next ws (map length parts)) p 0 =
    begins_from ws parts rest next p wide (le_of_suc-le-suc h) in
    rw (← e, begins_later w ws (layout (records ∷ parts) ++ rest) p, behind_first long parts rest) (omega arith)
begins_from [] (records ∷ parts) rest at p wide h = elim wide [ ]
begins_from (w ∷ ws) [] rest at p wide h = elim wide [ ]

pub begins_laid : (ws : List ℕ) (parts : List (List (List ℕ))) (rest : List ℕ) (p : ℕ) → Wide ws parts → p < length ws →
    begins_in ws (layout parts ++ rest) p ≡ get_or (bases_from 0 ws (map length parts)) p 0
begins_laid ws parts rest p wide h = sym (zero-add (begins_in ws (layout parts ++ rest) p)) ∙ begins_from ws parts rest 0 p wide h

-- ---- a part's records, one after the other from where it begins

pub part_in : (ws t : List ℕ) (p : ℕ) → p < length ws →
    get_or (parts_in ws t) p [] ≡ chopped (get_or ws p 0) (get_or t (count_at ws t p) 0) (drop (begins_in ws t p) t)
unfolding parts_in count_at begins_in
part_in [] t p h = absurd (not-suc-le-zero h)
part_in (w ∷ ws) t zero h = refl
part_in (w ∷ ws) t (suc p) h =
    rw (
      begins_later w ws t p,
      count_later w ws t p,
      ← get_or-drop (behind w t) t (count_at ws (drop (behind w t) t) p) 0,
      ← drop-drop (begins_in ws (drop (behind w t) t) p) (behind w t) t,
    )
    (part_in ws (drop (behind w t) t) p (le_of_suc-le-suc h))

module _ (ws : List ℕ) (parts : List (List (List ℕ))) (rest : List ℕ) (p : ℕ) (wide : Wide ws parts) (h : p < length ws) where
  abbrev base : ℕ
  base = get_or (bases_from 0 ws (map length parts)) p 0

  pub part_laid : chopped (get_or ws p 0) (length (get_or parts p [])) (drop base (layout parts ++ rest)) ≡ get_or parts p []
  part_laid =
      rw (← begins_laid ws parts rest p wide h, ← count_laid ws parts rest p wide h)
      (sym (part_in ws (layout parts ++ rest) p h) ∙ ap (λ (l : List (List (List ℕ))). get_or l p []) (apart ws parts rest wide))

  -- the same for a table that holds the layout only from some word on, at or before the part's first
  pub part_stands : (t : List ℕ) (m : ℕ) → m ≤ base → drop m t ≡ drop m (layout parts ++ rest) →
      chopped (get_or ws p 0) (length (get_or parts p [])) (drop base t) ≡ get_or parts p []
  part_stands t m k e =
      let b : m + (base - m) ≡ base = omega arith in
      let d : drop base t ≡ drop base (layout parts ++ rest) =
      rw (← b, ← drop-drop (base - m) m t, ← drop-drop (base - m) m (layout parts ++ rest)) (ap (drop (base - m)) e) in
      rw d part_laid
