-- Laws of the table of letters: how a name is compared with it byte by byte, and that the letters of a keyword are
-- where its start says.
-- Assumes nothing.
use mathlib.Core.Path.{◌≡◌, refl, sym, ◌∙◌, ap}
use mathlib.Core.Bool.{Bool, true, false}
use mathlib.Core.List.{List, [], ◌∷◌, ◌++◌, map, append_assoc}
use Prim.Native.Nat.{ℕ, zero, suc, ◌+◌, ◌≤◌, ◌<◌}
use native.Mathlib.Nat.{add-suc, add-zero}
use native.Mathlib.Numerals.{add-one}
use native.Mathlib.Omega.{arith}
use lib.ListN.{length, take, drop, get_or, drop_of_length-le, length-append, length-map}
use lib.Seq.{drop-cons, drop_at}
use lib.Dec.{eqb}
use borrow.Author.Tests.{eq-eqb, ne_eqb}
use Rattle.base.specs.If.{both}
use Rattle.base.specs.Runs.{same}
use Rattle.base.proofs.IfLaws.{both_rest, both_not_left}
use Rattle.lex_keyword.specs.Names.{folded, same_name, names}
use Rattle.lex_keyword.specs.Way.Lookup.{joined_names, letters, start_of, begins, stands_at}

begins_cons : (b c : ℕ) (s t : List ℕ) → begins (b ∷ s) (c ∷ t) ≡ both (eqb b c) (begins s t)
unfolding begins
begins_cons b c s t = refl

begins_nil : (t : List ℕ) → begins [] t ≡ true
unfolding begins
begins_nil t = refl

-- the comparison from byte i of the name on; a loop may go on from there
unfoldable pub stands_from : List ℕ → List ℕ → ℕ → ℕ → Bool
stands_from table name start i = begins (map folded (drop i name)) (drop (start + i) table)

pub stands_first : (table name : List ℕ) (start : ℕ) → stands_from table name start 0 ≡ stands_at table name start
unfolding stands_from stands_at
stands_first table name start = rw add-zero

module _ (table name : List ℕ) (start i : ℕ) (whole : Bool) (f : ℕ) (inv : stands_from table name start i ≡ whole) (room : start + length name ≤ length table) (h : i < length name) (told : f ≡ folded (get_or name i 0)) where
  stands_split : both (eqb f (get_or table (start + i) 0)) (stands_from table name start (i + 1)) ≡ whole
  unfolding stands_from
  stands_split =
      let k : start + i < length table = omega arith in
      rw (told, add-one, add-suc, ← begins_cons (folded (get_or name i 0)) (get_or table (start + i) 0) (map folded (drop (suc i) name)) (drop (suc (start + i)) table)) (rw (drop-cons name i 0 h, drop-cons table (start + i) 0 k) at inv)

  pub stands_on : f ≡ get_or table (start + i) 0 → stands_from table name start (i + 1) ≡ whole
  stands_on e = sym (both_rest (eqb f (get_or table (start + i) 0)) _ (eq-eqb f (get_or table (start + i) 0) e)) ∙ stands_split

  pub stands_stop : (f ≡ get_or table (start + i) 0 → ⊥) → false ≡ whole
  stands_stop e = sym (both_not_left (eqb f (get_or table (start + i) 0)) (stands_from table name start (i + 1)) (ne_eqb f (get_or table (start + i) 0) e)) ∙ stands_split

pub stands_past : (table name : List ℕ) (start i : ℕ) (whole : Bool) → stands_from table name start i ≡ whole → length name ≤ i → true ≡ whole
unfolding stands_from
stands_past table name start i whole inv h = sym (begins_nil (drop (start + i) table)) ∙ rw (drop_of_length-le name h) at inv

-- the letters can be split before every name
joined_parts : (key : ℕ) (ns : List (List ℕ)) → joined_names ns ≡ joined_names (take key ns) ++ joined_names (drop key ns)
unfolding joined_names
joined_parts zero ns = refl
joined_parts (suc key) [] = refl
joined_parts (suc key) (n ∷ ns) = ap (λ (l : List ℕ). map folded n ++ l) (joined_parts key ns) ∙ sym (append_assoc (map folded n) (joined_names (take key ns)) (joined_names (drop key ns)))

joined_name : (key : ℕ) (ns : List (List ℕ)) → key < length ns → joined_names (drop key ns) ≡ map folded (get_or ns key []) ++ joined_names (drop (suc key) ns)
unfolding joined_names
joined_name key ns h = rw (drop-cons ns key [] h)

-- if a and n have the same length, a list that starts with n starts with a exactly when a and n are the same
pub begins_same : (a n rest : List ℕ) → length a ≡ length n → begins a (n ++ rest) ≡ same a n
unfolding begins same
begins_same [] [] rest h = refl
begins_same [] (c ∷ n) rest h = absurd (omega arith)
begins_same (b ∷ a) [] rest h = absurd (omega arith)
begins_same (b ∷ a) (c ∷ n) rest h = ap (λ (t : Bool). both (eqb b c) t) (begins_same a n rest (omega arith))

module _ (table name : List ℕ) (key start : ℕ) (all : table ≡ letters) (known : key < length names) (long : length name ≡ length (get_or names key [])) (told : start ≡ start_of key) where
  pub name_room : start + length name ≤ length table
  unfolding start_of letters
  name_room =
      let parts : length (joined_names names) ≡ length (joined_names (take key names)) + length (joined_names (drop key names)) = ap length (joined_parts key names) ∙ length-append (joined_names (take key names)) (joined_names (drop key names)) in
      let rest : length (joined_names (drop key names)) ≡ length (map folded (get_or names key [])) + length (joined_names (drop (suc key) names)) = ap length (joined_name key names known) ∙ length-append (map folded (get_or names key [])) (joined_names (drop (suc key) names)) in
      let whole : length table ≡ length (joined_names names) = ap length all in
      omega (arith, length-map (get_or names key []) folded)

  pub name_stands : (r : Bool) → r ≡ stands_at table name start → r ≡ same_name name (get_or names key [])
  unfolding start_of letters stands_at same_name
  name_stands r e =
      let from : drop start (joined_names names) ≡ map folded (get_or names key []) ++ joined_names (drop (suc key) names) = rw (joined_parts key names) (drop_at (joined_names (take key names)) (joined_names (drop key names)) start (sym told)) ∙ joined_name key names known in
      let even : length (map folded name) ≡ length (map folded (get_or names key [])) = length-map name folded ∙ long ∙ sym (length-map (get_or names key []) folded) in
      e ∙ ap (λ (l : List ℕ). begins (map folded name) (drop start l)) all ∙ ap (λ (l : List ℕ). begins (map folded name) l) from ∙ begins_same (map folded name) (map folded (get_or names key [])) (joined_names (drop (suc key) names)) even
