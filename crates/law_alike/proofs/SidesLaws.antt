-- The words of a line alone decide whether it has a `=`, and which words are before the first `=` and after it.
-- Assumes nothing.
use mathlib.Core.Path.{◌≡◌, refl, sym, ◌∙◌, ap, subst}
use mathlib.Core.Bool.{Bool, true, false, not, true≢false}
use mathlib.Core.List.{List, [], ◌∷◌, map}
use Prim.Native.Nat.{ℕ, zero, suc, ◌+◌, ◌≤◌, ◌<◌, zero-le}
use Prim.Native.Char.{code}
use native.Mathlib.Omega.{arith}
use lib.ListN.{length, take, drop}
use lib.Dec.{ltb, eqb}
use borrow.Author.Tests.{lt-ltb, le-ltb, ltb-true, ltb-false, eqb-true}
use Rattle.base.specs.If.{provided◌then◌else◌, either}
use Rattle.base.specs.Bytes.{is_blank, space, tab, is_before, is_filled}
use Rattle.base.specs.Runs.{run, same}
use Rattle.base.proofs.IfLaws.{if_true, if_false, by_cases}
use Rattle.base.proofs.RunLaws.{run_goes, run_stops, run_nil, same_refl, same_equal}
use Rattle.lex_line.specs.Words.{Word, word_goes_on, grown, words_from, words, first_of, to_equals, has_equals, left_of, right_of}

-- ---- words without their offsets

unfoldable pub grow : ℕ → List (List ℕ) → List (List ℕ)
grow b [] = (b ∷ []) ∷ []
grow b (w ∷ ws) = (b ∷ w) ∷ ws

unfoldable pub bare : List ℕ → List (List ℕ)
bare [] = []
bare (b ∷ s) = provided is_blank b then bare s else provided word_goes_on s then grow b (bare s) else (b ∷ []) ∷ bare s

grown_texts : (at b : ℕ) (ws : List Word) → map (λ (w : Word). w.text) (grown at b ws) ≡ grow b (map (λ (w : Word). w.text) ws)
unfolding grown grow
grown_texts at b [] = refl
grown_texts at b (w ∷ ws) = refl

map_if : (b : Bool) (x y : List Word) (p q : List (List ℕ)) → map (λ (w : Word). w.text) x ≡ p → map (λ (w : Word). w.text) y ≡ q → map (λ (w : Word). w.text) (provided b then x else y) ≡ (provided b then p else q)
unfolding provided◌then◌else◌
map_if true x y p q e f = e
map_if false x y p q e f = f

pub words_bare : (at : ℕ) (s : List ℕ) → map (λ (w : Word). w.text) (words_from at s) ≡ bare s
unfolding words_from bare
words_bare at [] = refl
words_bare at (b ∷ s) =
    map_if (is_blank b) (words_from (suc at) s) _ _ _ (words_bare (suc at) s)
    (map_if (word_goes_on s) (grown at b (words_from (suc at) s)) (record { start = at; text = b ∷ [] } ∷ words_from (suc at) s) _ _
    (grown_texts at b (words_from (suc at) s) ∙ ap (grow b) (words_bare (suc at) s)) (ap (λ (ws : List (List ℕ)). (b ∷ []) ∷ ws) (words_bare (suc at) s)))

module _ (b : ℕ) (s : List ℕ) where
  pub bare_blank : is_blank b ≡ true → bare (b ∷ s) ≡ bare s
  unfolding bare
  bare_blank e = if_true _ _ e

  pub bare_last : is_blank b ≡ false → word_goes_on s ≡ false → bare (b ∷ s) ≡ (b ∷ []) ∷ bare s
  unfolding bare
  bare_last e f = if_false _ _ e ∙ if_false _ _ f

  pub bare_on : is_blank b ≡ false → word_goes_on s ≡ true → bare (b ∷ s) ≡ grow b (bare s)
  unfolding bare
  bare_on e f = if_false _ _ e ∙ if_true _ _ f

-- the first word begins with the first byte, if that is not a blank
record Starts (c : ℕ) (ws : List (List ℕ)) : Type 0 where
  first : List ℕ
  others : List (List ℕ)
  are : ws ≡ (c ∷ first) ∷ others

grow_starts : (c : ℕ) (ws : List (List ℕ)) → Starts c (grow c ws)
unfolding grow
grow_starts c [] = record { first = []; others = []; are = refl }
grow_starts c (w ∷ ws) = record { first = w; others = ws; are = refl }

bare_starts : (c : ℕ) (s : List ℕ) → is_blank c ≡ false → Starts c (bare (c ∷ s))
bare_starts c s e =
    by_cases _ (word_goes_on s)
    (λ (f : word_goes_on s ≡ true). rw (bare_on c s e f) (grow_starts c (bare s)))
    (λ (f : word_goes_on s ≡ false). rw (bare_last c s e f) record { first = []; others = bare s; are = refl })

-- ---- the sign `=`

abbrev pub is_other : ℕ → Bool
is_other = is_before (code "=")

unfoldable pub has_sign : List ℕ → Bool
has_sign [] = false
has_sign (b ∷ s) = provided is_other b then has_sign s else true

unfoldable pub before_sign : List ℕ → List ℕ
before_sign [] = []
before_sign (b ∷ s) = provided is_other b then b ∷ before_sign s else []

unfoldable pub behind_sign : List ℕ → List ℕ
behind_sign [] = []
behind_sign (b ∷ s) = provided is_other b then behind_sign s else s

take_sign : (s : List ℕ) → take (to_equals s) s ≡ before_sign s
unfolding before_sign
take_sign [] = ap (λ (n : ℕ). take n []) (run_nil is_other)
take_sign (b ∷ s) =
    by_cases _ (is_other b)
    (λ (e : is_other b ≡ true). ap (λ (n : ℕ). take n (b ∷ s)) (run_goes is_other b s e) ∙ ap (λ (r : List ℕ). b ∷ r) (take_sign s) ∙ sym (if_true _ _ e))
    (λ (e : is_other b ≡ false). ap (λ (n : ℕ). take n (b ∷ s)) (run_stops is_other b s e) ∙ sym (if_false _ _ e))

drop_sign : (s : List ℕ) → drop (to_equals s + 1) s ≡ behind_sign s
unfolding behind_sign run
drop_sign [] = refl
drop_sign (b ∷ s) =
    by_cases _ (is_other b)
    (λ (e : is_other b ≡ true).
    let n : to_equals (b ∷ s) + 1 ≡ suc (to_equals s + 1) = ap (λ (k : ℕ). k + 1) (run_goes is_other b s e) ∙ omega arith in
    ap (λ (k : ℕ). drop k (b ∷ s)) n ∙ drop_sign s ∙ sym (if_true _ _ e))
    (λ (e : is_other b ≡ false).
    let n : to_equals (b ∷ s) + 1 ≡ suc zero = ap (λ (k : ℕ). k + 1) (run_stops is_other b s e) ∙ omega arith in
    ap (λ (k : ℕ). drop k (b ∷ s)) n ∙ sym (if_false _ _ e))

ltb_suc : (m n : ℕ) → ltb (suc m) (suc n) ≡ ltb m n
ltb_suc m n =
    by_cases _ (ltb m n)
    (λ (h : ltb m n ≡ true). let l : m < n = ltb-true m n h in lt-ltb (suc m) (suc n) (omega arith) ∙ sym h)
    (λ (h : ltb m n ≡ false). let l : n ≤ m = ltb-false m n h in le-ltb (suc m) (suc n) (omega arith) ∙ sym h)

has_sign_lem : (s : List ℕ) → has_equals s ≡ has_sign s
unfolding has_equals has_sign
has_sign_lem [] = le-ltb (to_equals []) 0 zero-le
has_sign_lem (b ∷ s) =
    by_cases _ (is_other b)
    (λ (e : is_other b ≡ true). ap (λ (n : ℕ). ltb n (suc (length s))) (run_goes is_other b s e) ∙ ltb_suc (to_equals s) (length s) ∙ has_sign_lem s ∙ sym (if_true _ _ e))
    (λ (e : is_other b ≡ false). ap (λ (n : ℕ). ltb n (suc (length s))) (run_stops is_other b s e) ∙ lt-ltb 0 (suc (length s)) (omega arith) ∙ sym (if_false _ _ e))

-- ---- the two sides of `=`, by the words

-- a word in front of others; an empty word is left out
unfoldable pub filled : List ℕ → List (List ℕ) → List (List ℕ)
filled [] ws = ws
filled (b ∷ w) ws = (b ∷ w) ∷ ws

unfoldable pub any_sign : List (List ℕ) → Bool
any_sign [] = false
any_sign (w ∷ ws) = provided has_sign w then true else any_sign ws

unfoldable pub cut_left : List (List ℕ) → List (List ℕ)
cut_left [] = []
cut_left (w ∷ ws) = provided has_sign w then filled (before_sign w) [] else w ∷ cut_left ws

unfoldable pub cut_right : List (List ℕ) → List (List ℕ)
cut_right [] = []
cut_right (w ∷ ws) = provided has_sign w then filled (behind_sign w) ws else cut_right ws

pub blank_is_other : (b : ℕ) → is_blank b ≡ true → is_other b ≡ true
unfolding is_blank is_before either
blank_is_other b e =
    by_cases _ (eqb b (code "="))
    (λ (h : eqb b (code "=") ≡ true). absurd (true≢false (sym e ∙ ap (λ (n : ℕ). either (eqb n space) (eqb n tab)) (eqb-true b (code "=") h))))
    (λ (h : eqb b (code "=") ≡ false). ap not h)

-- one byte more in front of a word
module _ (b : ℕ) (w : List ℕ) where
  has_more : is_other b ≡ true → has_sign (b ∷ w) ≡ has_sign w
  unfolding has_sign
  has_more e = if_true _ _ e

  has_here : is_other b ≡ false → has_sign (b ∷ w) ≡ true
  unfolding has_sign
  has_here e = if_false _ _ e

  before_more : is_other b ≡ true → before_sign (b ∷ w) ≡ b ∷ before_sign w
  unfolding before_sign
  before_more e = if_true _ _ e

  before_here : is_other b ≡ false → before_sign (b ∷ w) ≡ []
  unfolding before_sign
  before_here e = if_false _ _ e

  behind_more : is_other b ≡ true → behind_sign (b ∷ w) ≡ behind_sign w
  unfolding behind_sign
  behind_more e = if_true _ _ e

  behind_here : is_other b ≡ false → behind_sign (b ∷ w) ≡ w
  unfolding behind_sign
  behind_here e = if_false _ _ e

no_sign : has_sign [] ≡ false
unfolding has_sign
no_sign = refl

module _ (w : List ℕ) (ws : List (List ℕ)) where
  pub left_sign : has_sign w ≡ true → cut_left (w ∷ ws) ≡ filled (before_sign w) []
  unfolding cut_left
  left_sign e = if_true _ _ e

  pub left_on : has_sign w ≡ false → cut_left (w ∷ ws) ≡ w ∷ cut_left ws
  unfolding cut_left
  left_on e = if_false _ _ e

  right_sign : has_sign w ≡ true → cut_right (w ∷ ws) ≡ filled (behind_sign w) ws
  unfolding cut_right
  right_sign e = if_true _ _ e

  right_on : has_sign w ≡ false → cut_right (w ∷ ws) ≡ cut_right ws
  unfolding cut_right
  right_on e = if_false _ _ e

  any_sign_lem : has_sign w ≡ true → any_sign (w ∷ ws) ≡ true
  unfolding any_sign
  any_sign_lem e = if_true _ _ e

  any_on : has_sign w ≡ false → any_sign (w ∷ ws) ≡ any_sign ws
  unfolding any_sign
  any_on e = if_false _ _ e

-- a byte other than the sign, put in front of the first byte of the first word
module _ (b c : ℕ) (w : List ℕ) (ws : List (List ℕ)) (o : is_other b ≡ true) where
  any_grown : any_sign ((b ∷ c ∷ w) ∷ ws) ≡ any_sign ((c ∷ w) ∷ ws)
  unfolding any_sign
  any_grown = ap (λ (h : Bool). provided h then true else any_sign ws) (has_more b (c ∷ w) o)

  right_grown : cut_right ((b ∷ c ∷ w) ∷ ws) ≡ cut_right ((c ∷ w) ∷ ws)
  unfolding cut_right
  right_grown = λ i. provided has_more b (c ∷ w) o i then filled (behind_more b (c ∷ w) o i) ws else cut_right ws

  left_grown : is_other c ≡ true → cut_left ((b ∷ c ∷ w) ∷ ws) ≡ grow b (cut_left ((c ∷ w) ∷ ws))
  unfolding grow filled
  left_grown oc =
      by_cases _ (has_sign (c ∷ w))
      (λ (h : has_sign (c ∷ w) ≡ true).
      left_sign (b ∷ c ∷ w) ws (has_more b (c ∷ w) o ∙ h) ∙ ap (λ (v : List ℕ). filled v []) (before_more b (c ∷ w) o ∙ ap (λ (v : List ℕ). b ∷ v) (before_more c w oc))
      ∙ sym (ap (grow b) (left_sign (c ∷ w) ws h ∙ ap (λ (v : List ℕ). filled v []) (before_more c w oc))))
      (λ (h : has_sign (c ∷ w) ≡ false). left_on (b ∷ c ∷ w) ws (has_more b (c ∷ w) o ∙ h) ∙ sym (ap (grow b) (left_on (c ∷ w) ws h)))

  left_single : is_other c ≡ false → cut_left ((b ∷ c ∷ w) ∷ ws) ≡ (b ∷ []) ∷ []
  unfolding filled
  left_single oc = left_sign (b ∷ c ∷ w) ws (has_more b (c ∷ w) o ∙ has_here c w oc) ∙ ap (λ (v : List ℕ). filled v []) (before_more b (c ∷ w) o ∙ ap (λ (v : List ℕ). b ∷ v) (before_here c w oc))

-- the first byte before the sign
goes_before : (b : ℕ) (s : List ℕ) → is_other b ≡ true → word_goes_on (before_sign (b ∷ s)) ≡ word_goes_on (b ∷ s)
unfolding word_goes_on
goes_before b s o = ap word_goes_on (before_more b s o)

none_goes : word_goes_on [] ≡ false
unfolding word_goes_on
none_goes = refl

-- the byte that a word goes on with
record Next (s : List ℕ) : Type 0 where
  byte : ℕ
  others : List ℕ
  are : s ≡ byte ∷ others
  filled_byte : is_blank byte ≡ false

next_of : (s : List ℕ) → word_goes_on s ≡ true → Next s
unfolding word_goes_on is_filled
next_of [] e = absurd (true≢false (sym e))
next_of (c ∷ s) e = record { byte = c; others = s; are = refl; filled_byte = not_true_of (is_blank c) e }
  where
    not_true_of : (h : Bool) → not h ≡ true → h ≡ false
    not_true_of true q = sym q
    not_true_of false q = refl

-- if a word does not go on, neither does the part before the sign
before_ends : (s : List ℕ) → word_goes_on s ≡ false → word_goes_on (before_sign s) ≡ false
unfolding before_sign word_goes_on
before_ends [] e = refl
before_ends (c ∷ s) e =
    by_cases _ (is_other c)
    (λ (o : is_other c ≡ true). ap word_goes_on (if_true _ _ o) ∙ e)
    (λ (o : is_other c ≡ false). ap word_goes_on (if_false _ _ o))

-- a word of one byte that is no sign
one_byte : (b : ℕ) → is_other b ≡ true → has_sign (b ∷ []) ≡ false
one_byte b o = has_more b [] o ∙ no_sign

bare_nothing : bare [] ≡ []
unfolding bare
bare_nothing = refl

module _ (b : ℕ) (s : List ℕ) (o : is_other b ≡ true) (f : is_blank b ≡ false) (g : word_goes_on s ≡ true) (n : Next s) where
  abbrev c : ℕ
  c = n.byte

  starts : Starts c (bare s)
  starts = subst (λ (x : List ℕ). Starts c (bare x)) (sym n.are) (bare_starts c n.others n.filled_byte)

  grown_words : bare (b ∷ s) ≡ (b ∷ c ∷ starts.first) ∷ starts.others
  unfolding grow
  grown_words = bare_on b s f g ∙ ap (grow b) starts.are

  left_goes : bare (before_sign s) ≡ cut_left (bare s) → bare (b ∷ before_sign s) ≡ cut_left (bare (b ∷ s))
  left_goes later =
      by_cases _ (is_other c)
      (λ (oc : is_other c ≡ true).
      let q : word_goes_on (before_sign s) ≡ true = ap (λ (x : List ℕ). word_goes_on (before_sign x)) n.are ∙ goes_before c n.others oc ∙ ap word_goes_on (sym n.are) ∙ g in
      bare_on b (before_sign s) f q ∙ ap (grow b) (later ∙ ap cut_left starts.are) ∙ sym (left_grown b c starts.first starts.others o oc) ∙ ap cut_left (sym grown_words))
      (λ (oc : is_other c ≡ false).
      let q : before_sign s ≡ [] = ap before_sign n.are ∙ before_here c n.others oc in
      ap (λ (x : List ℕ). bare (b ∷ x)) q ∙ bare_last b [] f none_goes ∙ ap (λ (x : List (List ℕ)). (b ∷ []) ∷ x) bare_nothing ∙ sym (left_single b c starts.first starts.others o oc) ∙ ap cut_left (sym grown_words))

  right_goes : cut_right (bare (b ∷ s)) ≡ cut_right (bare s)
  right_goes = ap cut_right grown_words ∙ right_grown b c starts.first starts.others o ∙ ap cut_right (sym starts.are)

  any_goes : any_sign (bare (b ∷ s)) ≡ any_sign (bare s)
  any_goes = ap any_sign grown_words ∙ any_grown b c starts.first starts.others o ∙ ap any_sign (sym starts.are)

left_other : (b : ℕ) (s : List ℕ) → is_other b ≡ true → bare (before_sign s) ≡ cut_left (bare s) → bare (b ∷ before_sign s) ≡ cut_left (bare (b ∷ s))
left_other b s o later =
    by_cases _ (is_blank b)
    (λ (e : is_blank b ≡ true). bare_blank b (before_sign s) e ∙ later ∙ ap cut_left (sym (bare_blank b s e)))
    (λ (e : is_blank b ≡ false).
    by_cases _ (word_goes_on s)
    (λ (g : word_goes_on s ≡ true). left_goes b s o e g (next_of s g) later)
    (λ (g : word_goes_on s ≡ false).
    bare_last b (before_sign s) e (before_ends s g) ∙ ap (λ (ws : List (List ℕ)). (b ∷ []) ∷ ws) later ∙ sym (left_on (b ∷ []) (bare s) (one_byte b o)) ∙ ap cut_left (sym (bare_last b s e g))))

-- a sign is no blank, and opens a word
module _ (b : ℕ) (s : List ℕ) (o : is_other b ≡ false) where
  sign_filled : is_blank b ≡ false
  sign_filled =
      by_cases _ (is_blank b) (λ (e : is_blank b ≡ true). absurd (true≢false (sym (blank_is_other b e) ∙ o))) (λ (e : is_blank b ≡ false). e)

  signed : cut_left (bare (b ∷ s)) ≡ []
  unfolding filled
  signed =
      let w : Starts b (bare (b ∷ s)) = bare_starts b s sign_filled in
      ap cut_left w.are ∙ left_sign (b ∷ w.first) w.others (has_here b w.first o) ∙ ap (λ (v : List ℕ). filled v []) (before_here b w.first o)

left_is : (s : List ℕ) → bare (before_sign s) ≡ cut_left (bare s)
unfolding before_sign bare cut_left
left_is [] = refl
left_is (b ∷ s) =
    by_cases _ (is_other b)
    (λ (o : is_other b ≡ true). ap bare (before_more b s o) ∙ left_other b s o (left_is s))
    (λ (o : is_other b ≡ false). ap bare (before_here b s o) ∙ bare_nothing ∙ sym (signed b s o))

filled_none : (ws : List (List ℕ)) → filled [] ws ≡ ws
unfolding filled
filled_none ws = refl

past_next : (b : ℕ) (s : List ℕ) → is_other b ≡ false → word_goes_on s ≡ true → Next s → cut_right (bare (b ∷ s)) ≡ bare s
unfolding filled grow
past_next b s o g n =
    let w : Starts n.byte (bare s) = subst (λ (x : List ℕ). Starts n.byte (bare x)) (sym n.are) (bare_starts n.byte n.others n.filled_byte) in
    ap cut_right (bare_on b s (sign_filled b s o) g ∙ ap (grow b) w.are) ∙ right_sign (b ∷ n.byte ∷ w.first) w.others (has_here b (n.byte ∷ w.first) o)
    ∙ ap (λ (v : List ℕ). filled v w.others) (behind_here b (n.byte ∷ w.first) o) ∙ sym w.are

-- past the sign: the rest of its word, and the words after it
module _ (b : ℕ) (s : List ℕ) (o : is_other b ≡ false) where
  past_goes : word_goes_on s ≡ true → cut_right (bare (b ∷ s)) ≡ bare s
  past_goes g = past_next b s o g (next_of s g)

  past_sign_lem : cut_right (bare (b ∷ s)) ≡ bare s
  past_sign_lem =
      by_cases _ (word_goes_on s) past_goes
      (λ (g : word_goes_on s ≡ false).
      ap cut_right (bare_last b s (sign_filled b s o) g) ∙ right_sign (b ∷ []) (bare s) (has_here b [] o) ∙ ap (λ (v : List ℕ). filled v (bare s)) (behind_here b [] o) ∙ filled_none (bare s))

right_other : (b : ℕ) (s : List ℕ) → is_other b ≡ true → cut_right (bare (b ∷ s)) ≡ cut_right (bare s)
right_other b s o =
    by_cases _ (is_blank b)
    (λ (e : is_blank b ≡ true). ap cut_right (bare_blank b s e))
    (λ (e : is_blank b ≡ false).
    by_cases _ (word_goes_on s)
    (λ (g : word_goes_on s ≡ true). right_goes b s o e g (next_of s g))
    (λ (g : word_goes_on s ≡ false). ap cut_right (bare_last b s e g) ∙ right_on (b ∷ []) (bare s) (one_byte b o)))

any_other : (b : ℕ) (s : List ℕ) → is_other b ≡ true → any_sign (bare (b ∷ s)) ≡ any_sign (bare s)
any_other b s o =
    by_cases _ (is_blank b)
    (λ (e : is_blank b ≡ true). ap any_sign (bare_blank b s e))
    (λ (e : is_blank b ≡ false).
    by_cases _ (word_goes_on s)
    (λ (g : word_goes_on s ≡ true). any_goes b s o e g (next_of s g))
    (λ (g : word_goes_on s ≡ false). ap any_sign (bare_last b s e g) ∙ any_on (b ∷ []) (bare s) (one_byte b o)))

right_is : (s : List ℕ) → bare (behind_sign s) ≡ cut_right (bare s)
unfolding behind_sign bare cut_right
right_is [] = refl
right_is (b ∷ s) =
    by_cases _ (is_other b)
    (λ (o : is_other b ≡ true). ap bare (behind_more b s o) ∙ right_is s ∙ sym (right_other b s o))
    (λ (o : is_other b ≡ false). ap bare (behind_here b s o) ∙ sym (past_sign_lem b s o))

any_here : (b : ℕ) (s : List ℕ) → is_other b ≡ false → any_sign (bare (b ∷ s)) ≡ true
any_here b s o =
    let w : Starts b (bare (b ∷ s)) = bare_starts b s (sign_filled b s o) in
    ap any_sign w.are ∙ any_sign_lem (b ∷ w.first) w.others (has_here b w.first o)

has_is : (s : List ℕ) → has_sign s ≡ any_sign (bare s)
unfolding has_sign bare any_sign
has_is [] = refl
has_is (b ∷ s) =
    by_cases _ (is_other b)
    (λ (o : is_other b ≡ true). has_more b s o ∙ has_is s ∙ sym (any_other b s o))
    (λ (o : is_other b ≡ false). has_here b s o ∙ sym (any_here b s o))

-- ---- lines of the same words

module _ (a b : List ℕ) (e : words a ≡ words b) where
  same_bare : bare a ≡ bare b
  same_bare = sym (words_bare 0 a) ∙ e ∙ words_bare 0 b

  pub same_signs : has_equals a ≡ has_equals b
  same_signs = has_sign_lem a ∙ has_is a ∙ ap any_sign same_bare ∙ sym (has_sign_lem b ∙ has_is b)

  pub same_left : left_of a ≡ left_of b
  unfolding left_of
  same_left = left_words a ∙ ap cut_left same_bare ∙ sym (left_words b)
    where
      left_words : (s : List ℕ) → words (take (to_equals s) s) ≡ cut_left (bare s)
      left_words s = ap words (take_sign s) ∙ words_bare 0 (before_sign s) ∙ left_is s

  pub same_right : right_of a ≡ right_of b
  unfolding right_of
  same_right = right_words a ∙ ap cut_right same_bare ∙ sym (right_words b)
    where
      right_words : (s : List ℕ) → words (drop (to_equals s + 1) s) ≡ cut_right (bare s)
      right_words s = ap words (drop_sign s) ∙ words_bare 0 (behind_sign s) ∙ right_is s

-- if the first word of a line has no sign, it is also the first word before the sign
first_left : (ws : List (List ℕ)) (w : List ℕ) → has_sign w ≡ false → first_of ws ≡ w → (w ≡ [] → ⊥) → first_of (cut_left ws) ≡ w
first_left [] w h e n = absurd (n (sym e))
first_left (v ∷ ws) w h e n = ap first_of (left_on v ws (ap has_sign e ∙ h)) ∙ e

pub left_by_words : (s : List ℕ) → left_of s ≡ cut_left (words s)
unfolding left_of
left_by_words s = ap words (take_sign s) ∙ words_bare 0 (before_sign s) ∙ left_is s ∙ ap cut_left (sym (words_bare 0 s))

pub other_first : (s w : List ℕ) → has_sign w ≡ false → (w ≡ [] → ⊥) → same (first_of (left_of s)) w ≡ false → same (first_of (words s)) w ≡ false
other_first s w h n f =
    by_cases _ (same (first_of (words s)) w)
    (λ (e : same (first_of (words s)) w ≡ true).
    let l : first_of (left_of s) ≡ w = ap first_of (left_by_words s) ∙ first_left (words s) w h (same_equal _ _ e) n in
    absurd (true≢false (sym (ap (λ (v : List ℕ). same v w) l ∙ same_refl w) ∙ f)))
    (λ (e : same (first_of (words s)) w ≡ false). e)
