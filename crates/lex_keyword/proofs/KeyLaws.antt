-- Laws of the search for a keyword. Names of different lengths are not the same, and the names are sorted by length. So
-- a name is found between the first name of its own length and the first longer one, or not at all.
-- Assumes nothing.
use mathlib.Core.Path.{◌≡◌, refl, sym, ◌∙◌, ap}
use mathlib.Core.Bool.{Bool, true, false}
use mathlib.Core.List.{List, [], ◌∷◌, map}
use Prim.Native.Nat.{ℕ, zero, suc, ◌+◌, ◌≤◌, ◌<◌, zero-le, suc-le-suc}
use native.Mathlib.Nat.{le_of_suc-le-suc, not-suc-le-zero, le_trans, add-suc, suc-add, zero-add}
use native.Mathlib.Numerals.{add-one}
use native.Mathlib.Omega.{arith}
use lib.ListN.{length, drop, get_or, length-map}
use lib.Seq.{drop-cons}
use lib.Dec.{ltb, leb}
use borrow.Author.Tests.{ltb-true, ltb-false, leb-true, lt-ltb}
use Rattle.base.specs.If.{provided◌then◌else◌, both}
use Rattle.base.proofs.IfLaws.{if_true, if_false, by_cases, both_first, both_second}
use Rattle.base.proofs.RunLaws.{same_equal}
use Rattle.lex_keyword.specs.Names.{folded, same_name, names, name_index, keyword_of}
use Rattle.lex_keyword.specs.Way.Lookup.{shorter, first_of_size}

pub same_long : (a n : List ℕ) → same_name a n ≡ true → length a ≡ length n
unfolding same_name
same_long a n e = sym (length-map a folded) ∙ ap length (same_equal (map folded a) (map folded n) e) ∙ length-map n folded

pub not_same : (a n : List ℕ) → (length a ≡ length n → ⊥) → same_name a n ≡ false
not_same a n h = by_cases _ (same_name a n) (λ (e : same_name a n ≡ true). absurd (h (same_long a n e))) (λ (e : same_name a n ≡ false). e)

place_nil : (a : List ℕ) → name_index a [] ≡ zero
unfolding name_index
place_nil a = refl

place_here : (a n : List ℕ) (ns : List (List ℕ)) → same_name a n ≡ true → name_index a (n ∷ ns) ≡ zero
unfolding name_index
place_here a n ns e = if_true _ _ e

place_later : (a n : List ℕ) (ns : List (List ℕ)) → same_name a n ≡ false → name_index a (n ∷ ns) ≡ suc (name_index a ns)
unfolding name_index
place_later a n ns e = if_false _ _ e

-- no name is shorter than the one before it
unfoldable rising : ℕ → List (List ℕ) → Bool
rising least [] = true
rising least (n ∷ ns) = both (leb least (length n)) (rising (length n) ns)

names_rise : rising 0 names ≡ true
unfolding rising both
names_rise = refl

module _ (least : ℕ) (n : List ℕ) (ns : List (List ℕ)) (up : rising least (n ∷ ns) ≡ true) where
  rising_first : least ≤ length n
  unfolding rising
  rising_first = leb-true least (length n) (both_first _ _ up)

  rising_rest : rising (length n) ns ≡ true
  unfolding rising
  rising_rest = both_second _ _ up

rising_least : (least : ℕ) (ns : List (List ℕ)) (k : ℕ) → rising least ns ≡ true → k < length ns → least ≤ length (get_or ns k [])
rising_least least [] k up h = absurd (not-suc-le-zero h)
rising_least least (n ∷ ns) zero up h = rising_first least n ns up
rising_least least (n ∷ ns) (suc k) up h = le_trans (rising_first least n ns up) (rising_least (length n) ns k (rising_rest least n ns up) (le_of_suc-le-suc h))

module _ (size : ℕ) (n : List ℕ) (ns : List (List ℕ)) where
  shorter_on : ltb (length n) size ≡ true → shorter size (n ∷ ns) ≡ suc (shorter size ns)
  unfolding shorter
  shorter_on e = if_true _ _ e

  shorter_stop : ltb (length n) size ≡ false → shorter size (n ∷ ns) ≡ zero
  unfolding shorter
  shorter_stop e = if_false _ _ e

shorter_nil : (size : ℕ) → shorter size [] ≡ zero
unfolding shorter
shorter_nil size = refl

shorter_le : (size : ℕ) (ns : List (List ℕ)) → shorter size ns ≤ length ns
shorter_le size [] = rw shorter_nil zero-le
shorter_le size (n ∷ ns) =
    by_cases _ (ltb (length n) size)
    (λ (e : ltb (length n) size ≡ true). rw (shorter_on size n ns e) (suc-le-suc (shorter_le size ns)))
    (λ (e : ltb (length n) size ≡ false). rw (shorter_stop size n ns e) zero-le)

-- the names before that index are shorter
shorter_all : (size : ℕ) (ns : List (List ℕ)) (k : ℕ) → k < shorter size ns → length (get_or ns k []) < size
shorter_all size [] k h = absurd (not-suc-le-zero (rw shorter_nil at h))
shorter_all size (n ∷ ns) k h =
    by_cases _ (ltb (length n) size)
    (λ (e : ltb (length n) size ≡ true). inside (shorter_all size ns) k (rw (shorter_on size n ns e) at h) e)
    (λ (e : ltb (length n) size ≡ false). absurd (not-suc-le-zero (rw (shorter_stop size n ns e) at h)))
  where
    inside : ((j : ℕ) → j < shorter size ns → length (get_or ns j []) < size) → (j : ℕ) → j < suc (shorter size ns) → ltb (length n) size ≡ true → length (get_or (n ∷ ns) j []) < size
    inside later zero g e = ltb-true (length n) size e
    inside later (suc j) g e = later j (le_of_suc-le-suc g)

-- the names from that index on are not
shorter_none : (size least : ℕ) (ns : List (List ℕ)) (k : ℕ) → rising least ns ≡ true → shorter size ns ≤ k → k < length ns → size ≤ length (get_or ns k [])
shorter_none size least [] k up g h = absurd (not-suc-le-zero h)
shorter_none size least (n ∷ ns) k up g h =
    by_cases _ (ltb (length n) size)
    (λ (e : ltb (length n) size ≡ true). inside (λ (j : ℕ). shorter_none size (length n) ns j (rising_rest least n ns up)) k (rw (shorter_on size n ns e) at g) h)
    (λ (e : ltb (length n) size ≡ false). outside e k h)
  where
    inside : ((j : ℕ) → shorter size ns ≤ j → j < length ns → size ≤ length (get_or ns j [])) → (j : ℕ) → suc (shorter size ns) ≤ j → j < length (n ∷ ns) → size ≤ length (get_or (n ∷ ns) j [])
    inside later zero a b = absurd (not-suc-le-zero a)
    inside later (suc j) a b = later j (le_of_suc-le-suc a) (le_of_suc-le-suc b)

    outside : ltb (length n) size ≡ false → (j : ℕ) → j < length (n ∷ ns) → size ≤ length (get_or (n ∷ ns) j [])
    outside e zero b = ltb-false (length n) size e
    outside e (suc j) b = le_trans (ltb-false (length n) size e) (rising_least (length n) ns j (rising_rest least n ns up) (le_of_suc-le-suc b))

-- for a greater size at least as many names are shorter
shorter_more : (size more : ℕ) (ns : List (List ℕ)) → size ≤ more → shorter size ns ≤ shorter more ns
shorter_more size more [] h = rw shorter_nil zero-le
shorter_more size more (n ∷ ns) h =
    by_cases _ (ltb (length n) size)
    (λ (e : ltb (length n) size ≡ true). rw (shorter_on size n ns e, shorter_on more n ns (lt-ltb (length n) more (le_trans (ltb-true (length n) size e) h))) (suc-le-suc (shorter_more size more ns h)))
    (λ (e : ltb (length n) size ≡ false). rw (shorter_stop size n ns e) zero-le)

module _ (a : List ℕ) where
  -- shorter names may be skipped
  place_skips : (size : ℕ) (ns : List (List ℕ)) → size ≤ length a → shorter size ns + name_index a (drop (shorter size ns) ns) ≡ name_index a ns
  place_skips size [] h = rw (shorter_nil, zero-add)
  place_skips size (n ∷ ns) h =
      by_cases _ (ltb (length n) size)
      (λ (e : ltb (length n) size ≡ true). inside (place_skips size ns h) e)
      (λ (e : ltb (length n) size ≡ false). rw (shorter_stop size n ns e) (zero-add _))
    where
      inside : shorter size ns + name_index a (drop (shorter size ns) ns) ≡ name_index a ns → ltb (length n) size ≡ true → shorter size (n ∷ ns) + name_index a (drop (shorter size (n ∷ ns)) (n ∷ ns)) ≡ name_index a (n ∷ ns)
      inside later e =
          let k : length n < size = ltb-true (length n) size e in
          rw (shorter_on size n ns e, place_later a n ns (not_same a n (λ (z : length a ≡ length n). omega arith)), suc-add) (ap suc later)

  -- the name is not among longer names
  place_none : (least : ℕ) (ns : List (List ℕ)) → rising least ns ≡ true → length a < least → name_index a ns ≡ length ns
  place_none least [] up h = place_nil a
  place_none least (n ∷ ns) up h =
      let k : least ≤ length n = rising_first least n ns up in
      rw (place_later a n ns (not_same a n (λ (z : length a ≡ length n). omega arith))) (ap suc (place_none (length n) ns (rising_rest least n ns up) (le_trans h k)))

  place_ends : (size least : ℕ) (ns : List (List ℕ)) → rising least ns ≡ true → length a < size → shorter size ns + name_index a (drop (shorter size ns) ns) ≡ length ns
  place_ends size least [] up h = rw (shorter_nil, zero-add, place_nil)
  place_ends size least (n ∷ ns) up h =
      by_cases _ (ltb (length n) size)
      (λ (e : ltb (length n) size ≡ true). rw (shorter_on size n ns e, suc-add) (ap suc (place_ends size (length n) ns (rising_rest least n ns up) h)))
      (λ (e : ltb (length n) size ≡ false). rw (shorter_stop size n ns e, zero-add) (longer e))
    where
      longer : ltb (length n) size ≡ false → name_index a (n ∷ ns) ≡ length (n ∷ ns)
      longer e =
          let k : size ≤ length n = ltb-false (length n) size e in
          rw (place_later a n ns (not_same a n (λ (z : length a ≡ length n). omega arith))) (ap suc (place_none (length n) ns (rising_rest least n ns up) (le_trans h k)))

  place_step : (ns : List (List ℕ)) (k : ℕ) → k < length ns → same_name a (get_or ns k []) ≡ false → k + name_index a (drop k ns) ≡ k + 1 + name_index a (drop (k + 1) ns)
  place_step ns k h e =
      let one : name_index a (drop k ns) ≡ suc (name_index a (drop (suc k) ns)) = rw (drop-cons ns k [] h) (place_later a (get_or ns k []) (drop (suc k) ns) e) in
      rw (one, add-one, suc-add, add-suc)

  place_found : (ns : List (List ℕ)) (k : ℕ) → k < length ns → same_name a (get_or ns k []) ≡ true → name_index a (drop k ns) ≡ 0
  place_found ns k h e = rw (drop-cons ns k [] h) (place_here a (get_or ns k []) (drop (suc k) ns) e)

-- no name is longer than 22 bytes
pub too_long : (name : List ℕ) → 22 < length name → 40 ≡ keyword_of name
unfolding keyword_of shorter provided◌then◌else◌ name_index
too_long name h = place_skips name 23 names h

-- the state of the search: the names from `key` on give the result
pub record Searching (name : List ℕ) (key : ℕ) : Type 0 where
  pub from : first_of_size (length name) ≤ key
  pub up_to : key ≤ first_of_size (length name + 1)
  pub rest : key + name_index name (drop key names) ≡ keyword_of name

pub key_first : (name : List ℕ) (key : ℕ) → key ≡ first_of_size (length name) → Searching name key
unfolding first_of_size keyword_of
key_first name key e =
    let more : shorter (length name) names ≤ shorter (length name + 1) names = shorter_more (length name) (length name + 1) names (omega arith) in
    record { from = omega arith; up_to = omega arith; rest = rw e (place_skips name (length name) names (omega arith)) }

module _ (name : List ℕ) (key end : ℕ) (at : Searching name key) (told : end ≡ first_of_size (length name + 1)) where
  -- before the first longer name
  module _ (h : key < end) where
    pub key_known : key < length names
    unfolding first_of_size
    key_known =
        let g : shorter (length name + 1) names ≤ length names = shorter_le (length name + 1) names in
        omega arith

    pub key_long : length name ≡ length (get_or names key [])
    unfolding first_of_size
    key_long =
        let most : length (get_or names key []) < length name + 1 = shorter_all (length name + 1) names key (omega arith) in
        let least : length name ≤ length (get_or names key []) = shorter_none (length name) 0 names key names_rise at.from key_known in
        omega arith

    module _ (t : Bool) (same : t ≡ same_name name (get_or names key [])) where
      pub key_found : t ≡ true → key ≡ keyword_of name
      key_found e =
          let z : name_index name (drop key names) ≡ 0 = place_found name names key key_known (sym same ∙ e) in
          omega (arith, at.rest)

      pub key_next : t ≡ false → Searching name (key + 1)
      key_next e = record { from = omega arith; up_to = omega arith; rest = sym (place_step name names key key_known (sym same ∙ e)) ∙ at.rest }

  pub key_none : end ≤ key → 40 ≡ keyword_of name
  unfolding first_of_size
  key_none h =
      let z : key ≡ shorter (length name + 1) names = omega arith in
      sym (place_ends name (length name + 1) 0 names names_rise (omega arith)) ∙ rw z at at.rest
