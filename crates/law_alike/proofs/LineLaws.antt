-- Two lines that say the same in a place are read alike: they have the same keyword, and in each place the
-- same words, head, size or saying.
-- Assumes nothing.
use mathlib.Core.Path.{◌≡◌, refl, sym, ◌∙◌, ap}
use mathlib.Core.Bool.{Bool, true, false, true≢false}
use mathlib.Core.List.{List, [], ◌∷◌}
use Prim.Native.Nat.{ℕ}
use native.Mathlib.Omega.{arith}
use lib.Dec.{eqb}
use borrow.Author.Tests.{ne_eqb}
use Rattle.base.specs.If.{provided◌then◌else◌, both, either}
use Rattle.base.specs.Bytes.{bytes, is_before}
use Rattle.base.specs.Runs.{same}
use Rattle.base.proofs.IfLaws.{if_true, if_false, by_cases, both_first, both_second, both_not_left, either_false, either_rest}
use Rattle.base.proofs.RunLaws.{same_equal}
use Rattle.lex_line.specs.Words.{words, first_of, has_equals, left_of, right_of}
use Rattle.line_place.specs.Place as place
use Rattle.line_head.specs.Head.{impedance_line, head_line_of}
use Rattle.line_path.specs.Path.{saying_of, is_mult, amount_of}
use Rattle.line_path.specs.Path as path
use Rattle.line_map.specs.PinMap.{size_line, map_line_of}
use Rattle.line_map.specs.PinMap as pin_map
use Rattle.line_map.specs.declared.MapLine.{MapLine}
use Rattle.doc.specs.Lines.{plain, key_at}
use Rattle.law_alike.specs.Alike.{takes_equals, takes_text, argument_text, is_unread, SameSaying, same_words, same_sides, same_argument, same_text, same_unread}
use Rattle.law_alike.proofs.SidesLaws.{has_sign, same_signs, same_left, same_right, other_first}

-- ---- lines that are not read

-- a place whose lines are all read
pub record Reads (p : ℕ) : Type 0 where
  pub begun : p ≡ place.before → ⊥
  pub unended : p ≡ place.done → ⊥

-- a place that passes a test which neither the place before [Begin Header] nor that after [End] passes
pub inner_reads : (test : ℕ → Bool) → test place.before ≡ false → test place.done ≡ false → (p : ℕ) → test p ≡ true → Reads p
inner_reads test b d p e =
    record { begun = λ (q : p ≡ place.before). true≢false (sym e ∙ ap test q ∙ b); unended = λ (q : p ≡ place.done). true≢false (sym e ∙ ap test q ∙ d) }

never_unread : (p : ℕ) (a : List ℕ) → Reads p → is_unread p a ≡ true → ⊥
unfolding is_unread
never_unread p a r e = true≢false (sym e ∙ either_false _ _ (ne_eqb p place.done r.unended) (both_not_left _ _ (ne_eqb p place.before r.begun)))

-- ---- the keyword

pub key_same : {p : ℕ} (a b : List ℕ) → SameSaying p a b → Reads p → key_at a ≡ key_at b
key_same a b (same_words e f w) r = e ∙ sym f
key_same a b (same_sides e f x y l q) r = e ∙ sym f
key_same a b (same_argument n k t) r = k
key_same a b (same_text n k x t) r = k
key_same {p} a b (same_unread u v) r = absurd (never_unread p a r u)

-- ---- lines without a keyword

-- the same words before `=` and after it
pub record SameSides (a b : List ℕ) : Type 0 where
  pub signs : has_equals a ≡ has_equals b
  pub left : left_of a ≡ left_of b
  pub right : right_of a ≡ right_of b

-- either the words are the same, or the form has a `=` and both sides of it are the same
pub data SamePlain (p : ℕ) (a b : List ℕ) : Type 0 where
  by_words : words a ≡ words b → SameSides a b → SamePlain p a b
  by_sides : takes_equals p a ≡ true → takes_equals p b ≡ true → SameSides a b → SamePlain p a b

has_first : (p : ℕ) (a : List ℕ) → takes_equals p a ≡ true → has_equals a ≡ true
unfolding takes_equals
has_first p a e = both_first _ _ e

pub plain_same : {p : ℕ} (a b : List ℕ) → SameSaying p a b → Reads p → key_at a ≡ plain → SamePlain p a b
plain_same a b (same_words e f w) i k = by_words w (record { signs = same_signs a b w; left = same_left a b w; right = same_right a b w })
plain_same {p} a b (same_sides e f x y l r) i k = by_sides x y (record { signs = has_first p a x ∙ sym (has_first p b y); left = l; right = r })
plain_same a b (same_argument n e t) i k = absurd (n k)
plain_same a b (same_text n e x t) i k = absurd (n k)
plain_same {p} a b (same_unread u v) i k = absurd (never_unread p a i u)

-- ---- the forms with a `=`, by their place

first_only : (x y z : Bool) → either x (either y z) ≡ true → y ≡ false → z ≡ false → x ≡ true
unfolding either
first_only true y z h f g = refl
first_only false y z h f g = absurd (true≢false (sym h ∙ (λ i. either (f i) (g i))))

second_only : (x y z : Bool) → either x (either y z) ≡ true → x ≡ false → z ≡ false → y ≡ true
unfolding either
second_only x true z h f g = refl
second_only x false z h f g = absurd (true≢false (sym h ∙ (λ i. either (f i) (either false (g i)))))

third_only : (x y z : Bool) → either x (either y z) ≡ true → x ≡ false → y ≡ false → z ≡ true
unfolding either
third_only x y true h f g = refl
third_only x y false h f g = absurd (true≢false (sym h ∙ (λ i. either (f i) (either (g i) false))))

module _ (p : ℕ) (content : List ℕ) (e : takes_equals p content ≡ true) where
  abbrev formed : Bool
  formed =
      either (both (eqb p place.head) (same (first_of (left_of content)) (bytes "Ref_impedance")))
      (either (both (eqb p place.path) (same (first_of (words content)) (bytes "Section")))
      (both (eqb p place.map_head) (either (same (first_of (left_of content)) (bytes "Num_of_columns")) (same (first_of (left_of content)) (bytes "Num_of_rows")))))

  is_formed_lem : formed ≡ true
  unfolding takes_equals
  is_formed_lem = both_second _ _ e

  pub in_head : p ≡ place.head → same (first_of (left_of content)) (bytes "Ref_impedance") ≡ true
  in_head q =
      both_second _ _
      (first_only _ _ _ is_formed_lem (both_not_left _ _ (ne_eqb p place.path (λ (r : p ≡ place.path). omega arith)))
      (both_not_left _ _ (ne_eqb p place.map_head (λ (r : p ≡ place.map_head). omega arith))))

  pub in_path : p ≡ place.path → same (first_of (words content)) (bytes "Section") ≡ true
  in_path q =
      both_second _ _
      (second_only _ _ _ is_formed_lem (both_not_left _ _ (ne_eqb p place.head (λ (r : p ≡ place.head). omega arith)))
      (both_not_left _ _ (ne_eqb p place.map_head (λ (r : p ≡ place.map_head). omega arith))))

  pub in_map : p ≡ place.map_head → either (same (first_of (left_of content)) (bytes "Num_of_columns")) (same (first_of (left_of content)) (bytes "Num_of_rows")) ≡ true
  in_map q =
      both_second _ _
      (third_only _ _ _ is_formed_lem (both_not_left _ _ (ne_eqb p place.head (λ (r : p ≡ place.head). omega arith)))
      (both_not_left _ _ (ne_eqb p place.path (λ (r : p ≡ place.path). omega arith))))

  -- no other place has such a form
  pub nowhere_else : (p ≡ place.head → ⊥) → (p ≡ place.path → ⊥) → (p ≡ place.map_head → ⊥) → ⊥
  nowhere_else a b c =
      true≢false
      (sym is_formed_lem ∙ either_false _ _ (both_not_left _ _ (ne_eqb p place.head a)) (either_false _ _ (both_not_left _ _ (ne_eqb p place.path b)) (both_not_left _ _ (ne_eqb p place.map_head c))))

-- ---- a model's head

-- the words of a model's head and of a map's head contain no `=`
type_plain : has_sign (bytes "ICM_model_type") ≡ false
unfolding has_sign is_before provided◌then◌else◌
type_plain = refl

ratio_plain : has_sign (bytes "SGR") ≡ false
unfolding has_sign is_before provided◌then◌else◌
ratio_plain = refl

order_plain : has_sign (bytes "Pin_order") ≡ false
unfolding has_sign is_before provided◌then◌else◌
order_plain = refl

list_plain : has_sign (bytes "Pin_list") ≡ false
unfolding has_sign is_before provided◌then◌else◌
list_plain = refl

pub some_bytes : {b : ℕ} {w : List ℕ} → (b ∷ w) ≡ [] → ⊥
some_bytes {b} {w} e = let z : ◌≡◌ {A = ℕ} 1 0 = ap size_of e in omega arith
  where
    size_of : List ℕ → ℕ
    size_of [] = 0
    size_of (x ∷ xs) = 1

impedance_same : (a b : List ℕ) → SameSides a b → impedance_line a ≡ impedance_line b
unfolding impedance_line
impedance_same a b s = rw (s.signs, s.left, s.right)

-- a line whose first word before `=` is this one has no other form
module _ (a : List ℕ) (e : same (first_of (left_of a)) (bytes "Ref_impedance") ≡ true) where
  head_formed : head_line_of a ≡ impedance_line a
  unfolding head_line_of same both
  head_formed =
      let f : first_of (left_of a) ≡ bytes "Ref_impedance" = same_equal _ _ e in
      if_false _ _ (other_first a (bytes "ICM_model_type") type_plain some_bytes (ap (λ (w : List ℕ). same w (bytes "ICM_model_type")) f))
      ∙ if_false _ _ (other_first a (bytes "SGR") ratio_plain some_bytes (ap (λ (w : List ℕ). same w (bytes "SGR")) f)) ∙ if_true _ _ e

pub head_same : (p : ℕ) (a b : List ℕ) → SamePlain p a b → p ≡ place.head → head_line_of a ≡ head_line_of b
unfolding head_line_of
head_same p a b (by_words w s) q = rw (w, s.left, impedance_same a b s)
head_same p a b (by_sides x y s) q = head_formed a (in_head p a x q) ∙ impedance_same a b s ∙ sym (head_formed b (in_head p b y q))

-- ---- a map's head

size_same : (says : ℕ) (a b : List ℕ) → SameSides a b → size_line says a ≡ size_line says b
unfolding size_line
size_same says a b s = rw (s.signs, s.left, s.right)

-- which of the two sizes the words before `=` name
unfoldable sizes_of : List ℕ → List ℕ → MapLine
sizes_of first a =
    provided same first (bytes "Num_of_columns") then size_line pin_map.says_columns a else
    provided same first (bytes "Num_of_rows") then size_line pin_map.says_rows a else record { says = pin_map.says_nothing; right = true; formed = true; bounded = true; value = 0 }

sizes_same : (a b : List ℕ) → SameSides a b → sizes_of (first_of (left_of a)) a ≡ sizes_of (first_of (left_of b)) b
unfolding sizes_of
sizes_same a b s = rw (s.left, size_same pin_map.says_columns a b s, size_same pin_map.says_rows a b s)

map_named : (w : List ℕ) → either (same w (bytes "Num_of_columns")) (same w (bytes "Num_of_rows")) ≡ true → (same w (bytes "Pin_order") ≡ false) × (same w (bytes "Pin_list") ≡ false)
unfolding same both either
map_named w e =
    by_cases _ (same w (bytes "Num_of_columns"))
    (λ (c : same w (bytes "Num_of_columns") ≡ true).
    let f : w ≡ bytes "Num_of_columns" = same_equal _ _ c in
    (ap (λ (v : List ℕ). same v (bytes "Pin_order")) f, ap (λ (v : List ℕ). same v (bytes "Pin_list")) f))
    (λ (c : same w (bytes "Num_of_columns") ≡ false).
    let f : w ≡ bytes "Num_of_rows" = same_equal _ _ (sym (either_rest _ _ c) ∙ e) in
    (ap (λ (v : List ℕ). same v (bytes "Pin_order")) f, ap (λ (v : List ℕ). same v (bytes "Pin_list")) f))

module _ (a : List ℕ) (e : either (same (first_of (left_of a)) (bytes "Num_of_columns")) (same (first_of (left_of a)) (bytes "Num_of_rows")) ≡ true) where
  map_formed : map_line_of a ≡ sizes_of (first_of (left_of a)) a
  unfolding map_line_of sizes_of
  map_formed =
      if_false _ _ (other_first a (bytes "Pin_order") order_plain some_bytes (map_named (first_of (left_of a)) e).0)
      ∙ if_false _ _ (other_first a (bytes "Pin_list") list_plain some_bytes (map_named (first_of (left_of a)) e).1)

pub map_same : (p : ℕ) (a b : List ℕ) → SamePlain p a b → p ≡ place.map_head → map_line_of a ≡ map_line_of b
unfolding map_line_of
map_same p a b (by_words w s) q = rw (w, s.left, size_same pin_map.says_columns a b s, size_same pin_map.says_rows a b s)
map_same p a b (by_sides x y s) q = map_formed a (in_map p a x q) ∙ sizes_same a b s ∙ sym (map_formed b (in_map p b y q))

-- ---- a path

-- two lines of a path have the same saying, and the same words about it
pub record SamePath (a b : List ℕ) : Type 0 where
  pub saying : saying_of (first_of (words a)) ≡ saying_of (first_of (words b))
  pub names : (saying_of (first_of (words a)) ≡ path.says_section → ⊥) → words a ≡ words b
  pub sides : SameSides a b

section_said : (a : List ℕ) → same (first_of (words a)) (bytes "Section") ≡ true → saying_of (first_of (words a)) ≡ path.says_section
unfolding saying_of
section_said a e = if_true _ _ e

pub path_same : (p : ℕ) (a b : List ℕ) → SamePlain p a b → p ≡ place.path → SamePath a b
path_same p a b (by_words w s) q = record { saying = ap (λ (ws : List (List ℕ)). saying_of (first_of ws)) w; names = λ n. w; sides = s }
path_same p a b (by_sides x y s) q =
    let e : saying_of (first_of (words a)) ≡ path.says_section = section_said a (in_path p a x q) in
    record { saying = e ∙ sym (section_said b (in_path p b y q)); names = λ (n : saying_of (first_of (words a)) ≡ path.says_section → ⊥). absurd (n e); sides = s }

pub mult_same : (a b : List ℕ) → SameSides a b → is_mult a ≡ is_mult b
unfolding is_mult
mult_same a b s = rw s.left

pub amount_same : (a b : List ℕ) → SameSides a b → amount_of a ≡ amount_of b
unfolding amount_of
amount_same a b s = rw (mult_same a b s, s.right)

-- ---- places without a form with `=`

pub words_same : (p : ℕ) (a b : List ℕ) → SamePlain p a b → (p ≡ place.head → ⊥) → (p ≡ place.path → ⊥) → (p ≡ place.map_head → ⊥) → words a ≡ words b
words_same p a b (by_words w s) f g h = w
words_same p a b (by_sides x y s) f g h = absurd (nowhere_else p a x f g h)

-- ---- keywords

-- for a keyword that takes no free text
pub argument_same : {p : ℕ} (a b : List ℕ) → SameSaying p a b → Reads p → (key_at a ≡ plain → ⊥) → takes_text (key_at a) ≡ false → argument_text a ≡ argument_text b
argument_same a b (same_words e f w) i n x = absurd (n e)
argument_same a b (same_sides e f g h l r) i n x = absurd (n e)
argument_same a b (same_argument m k t) i n x = t
argument_same a b (same_text m k y t) i n x = absurd (true≢false (sym y ∙ x))
argument_same {p} a b (same_unread u v) i n x = absurd (never_unread p a i u)

-- a line that gives a size is not Pin_list
pub other_lists : (p : ℕ) (a : List ℕ) → takes_equals p a ≡ true → p ≡ place.map_head → same (first_of (words a)) (bytes "Pin_list") ≡ false
other_lists p a e q = other_first a (bytes "Pin_list") list_plain some_bytes (map_named (first_of (left_of a)) (in_map p a e q)).1
