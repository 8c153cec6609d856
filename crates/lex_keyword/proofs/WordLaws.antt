-- Laws of the words of a name: which word may contain a hyphen, when a word is good, and that the words of a name are
-- its first word and the words of the rest.
-- Assumes nothing.
use mathlib.Core.Path.{◌≡◌, refl, sym, ◌∙◌, ap}
use mathlib.Core.Bool.{Bool, true, false, cond}
use mathlib.Core.List.{List, [], ◌∷◌, map, append-nil}
use Prim.Native.Nat.{ℕ, zero, suc, ◌<◌, zero-le}
use native.Mathlib.Nat.{not-suc-le-zero}
use native.Mathlib.Omega.{arith}
use lib.ListN.{length, get_or, length-map}
use borrow.Author.Tests.{lt-ltb, le-ltb}
use Rattle.base.specs.If.{provided◌then◌else◌, either}
use Rattle.base.specs.Bytes.{bytes}
use Rattle.base.specs.Runs.{all}
use Rattle.base.proofs.IfLaws.{if_true, if_false, both_true, both_rest, both_not_left, both_not_right, either_left, either_rest}
use Rattle.std.specs.Bool.{MatchBool}
use Rattle.std.specs.List.{AllWithin, HoldsAt, slice_split, onto_first}
use Rattle.lex_keyword.specs.Names.{folded, same_name}
use Rattle.lex_keyword.specs.Way.Lookup.{stands_at}
use Rattle.lex_keyword.specs.Bracket.{is_separator, push, parted, is_plain_byte, is_hyphen_word, is_good_word, are_good_words}
use Rattle.lex_keyword.proofs.LookupLaws.{begins_same}
use Rattle.lex_keyword.proofs.KeyLaws.{not_same}

-- the hyphen word, compared as the code does it
pub hyphen_stands : (letters word : List ℕ) (r : Bool) → letters ≡ map folded (bytes "S-parameter") → length word ≡ 11 → r ≡ stands_at letters word 0 → r ≡ is_hyphen_word word
unfolding stands_at is_hyphen_word same_name
hyphen_stands letters word r told long e =
    let even : length (map folded word) ≡ length (map folded (bytes "S-parameter")) = length-map word folded ∙ long in
    e ∙ rw (told, ← append-nil (map folded (bytes "S-parameter"))) (begins_same (map folded word) (map folded (bytes "S-parameter")) [] even)

pub not_hyphen : (word : List ℕ) → (length word ≡ 11 → ⊥) → false ≡ is_hyphen_word word
unfolding is_hyphen_word
not_hyphen word h = sym (not_same word (bytes "S-parameter") h)

pub good_none : (word : List ℕ) → length word ≡ 0 → false ≡ is_good_word word
unfolding is_good_word
good_none word h = sym (both_not_left _ _ (le-ltb 0 (length word) (omega arith)))

-- t says whether the word consists of letters and digits only
module _ (word : List ℕ) (t : Bool) (some : length word ≡ 0 → ⊥) (told : t ≡ all is_plain_byte word) where
  good_rest : is_good_word word ≡ either (all is_plain_byte word) (is_hyphen_word word)
  unfolding is_good_word
  good_rest = both_rest _ _ (lt-ltb 0 (length word) (omega (arith, some)))

  pub good_plain : t ≡ true → true ≡ is_good_word word
  good_plain e = sym (good_rest ∙ either_left _ _ (sym told ∙ e))

  pub good_hyphen : (r : Bool) → t ≡ false → r ≡ is_hyphen_word word → r ≡ is_good_word word
  good_hyphen r e h = h ∙ sym (good_rest ∙ either_rest _ _ (sym told ∙ e))

-- the words of a name are what the library's split gives
push_onto : (b : ℕ) (ws : List (List ℕ)) → push b ws ≡ onto_first b ws
unfolding push
push_onto b [] = refl
push_onto b (w ∷ ws) = refl

parted_split : (name : List ℕ) → parted name ≡ slice_split is_separator name
unfolding parted
parted_split [] = refl
parted_split (b ∷ s) = choose (is_separator b) (parted_split s)
  where
    choose : (t : Bool) → parted s ≡ slice_split is_separator s → (provided t then [] ∷ parted s else push b (parted s)) ≡ cond t ([] ∷ slice_split is_separator s) (onto_first b (slice_split is_separator s))
    choose true e = if_true _ _ refl ∙ ap (λ (ws : List (List ℕ)). [] ∷ ws) e
    choose false e = if_false _ _ refl ∙ push_onto b (parted s) ∙ ap (onto_first b) e

words_told : (ws : List (List ℕ)) → ((k : ℕ) → k < length ws → is_good_word (get_or ws k []) ≡ true) → are_good_words ws ≡ true
unfolding are_good_words
words_told [] all_good = refl
words_told (w ∷ ws) all_good = both_true _ _ (all_good 0 (omega arith)) (words_told ws (λ (k : ℕ) (h : k < length ws). all_good (suc k) (omega arith)))

words_fail : (ws : List (List ℕ)) (k : ℕ) → k < length ws → is_good_word (get_or ws k []) ≡ false → are_good_words ws ≡ false
unfolding are_good_words
words_fail [] k h e = absurd (not-suc-le-zero h)
words_fail (w ∷ ws) zero h e = both_not_left _ _ e
words_fail (w ∷ ws) (suc k) h e = both_not_right _ _ (words_fail ws k (omega arith) e)

-- what a search for the first bad word tells of all words
pub words_by_cases : (name : List ℕ) (r : Bool) → MatchBool r (AllWithin (λ (w : List ℕ). is_good_word w ≡ true) (slice_split is_separator name) 0 (length (slice_split is_separator name)))
    ((k : ℕ) × (k < length (slice_split is_separator name)) × HoldsAt (λ (w : List ℕ). is_good_word w ≡ false) (slice_split is_separator name) k) → r ≡ are_good_words (parted name)
words_by_cases name true told = sym (ap are_good_words (parted_split name) ∙ words_told _ (λ (k : ℕ) (h : k < length (slice_split is_separator name)). told k [] zero-le h))
words_by_cases name false told = sym (ap are_good_words (parted_split name) ∙ words_fail _ told.0 told.1 (told.2 []))
