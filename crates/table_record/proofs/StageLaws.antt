-- Laws of what is staged, whatever the records are: at the start, past lines that give none, past lines that give some, and
-- at the end.
-- Assumes nothing.
use mathlib.Core.Path.{◌≡◌, refl, sym, ◌∙◌, ap}
use mathlib.Core.Bool.{true, false}
use mathlib.Core.List.{List, [], ◌∷◌, ◌++◌, append_assoc, append-nil}
use Prim.Native.Nat.{ℕ, zero, suc, ◌+◌, ◌*◌, ◌/◌, ◌≤◌, ◌<◌}
use native.Mathlib.Nat.{add_comm, add-zero, zero-add, mul-suc, mul-add, mul-zero, le_trans, mul-le-mul, le_refl, mul_comm, lt-div-mul-add, div-mul-le_self}
use native.Mathlib.Numerals.{add-one}
use native.Mathlib.Omega.{arith}
use lib.ListN.{length, take, drop, get_or, length-append}
use lib.Seq.{sets, sets-eq, length-sets, take_at, drop_at, drop-drop, get_or-drop, get_or-take, length-take-le}
use lib.Dec.{leb}
use borrow.Author.Tests.{le-leb, lt-leb}
use Rattle.base.proofs.IfLaws.{if_true, if_false, by_cases}
use Rattle.std.proofs.Common.{subst}
use Rattle.table_layout.specs.Layout.{joined}
use Rattle.table_record.specs.Way.Stage.{words_of, put_at, Held, Whole, staged_from, staged_model_width, staged_model_words, staged_model_at, staged_step_width, staged_step_words, staged_step_at}
use Rattle.table_record.specs.declared.stage.StagedModel.{StagedModel}
use Rattle.table_record.specs.declared.stage.StagedStep.{StagedStep}

-- ---- the words of records

-- where the record behind the i-th begins
pub next_place : (width i : ℕ) → width * i + width ≡ width * (i + 1)
next_place width i = sym (ap (λ (n : ℕ). width * n) (add-one i) ∙ mul-suc width i)

pub words_none : {A : Type 0} (words : A → List ℕ) → words_of words [] ≡ []
unfolding words_of joined
words_none words = refl

pub words_cons : {A : Type 0} (words : A → List ℕ) (x : A) (xs : List A) → words_of words (x ∷ xs) ≡ words x ++ words_of words xs
unfolding words_of joined
words_cons words x xs = refl

pub words_append : {A : Type 0} (words : A → List ℕ) (xs ys : List A) → words_of words (xs ++ ys) ≡ words_of words xs ++ words_of words ys
unfolding words_of joined
words_append words [] ys = refl
words_append words (x ∷ xs) ys = ap (λ (r : List ℕ). words x ++ r) (words_append words xs ys) ∙ sym (append_assoc (words x) _ _)

pub words_long : {A : Type 0} (words : A → List ℕ) (width : ℕ) → ((x : A) → length (words x) ≡ width) → (xs : List A) →
    length (words_of words xs) ≡ width * length xs
unfolding words_of joined
words_long words width wide [] = omega arith
words_long words width wide (x ∷ xs) =
    length-append (words x) (words_of words xs)
    ∙ (λ i. wide x i + words_long words width wide xs i)
    ∙ add_comm width (width * length xs)
    ∙ sym (mul-suc width (length xs))

-- ---- a store that fits

pub put_fits : (at : ℕ) (ws stage : List ℕ) → at + length ws ≤ length stage → put_at at ws stage ≡ sets stage at ws
unfolding put_at
put_fits at ws stage h = if_true _ _ (le-leb _ _ h)

pub put_long : (at : ℕ) (ws stage : List ℕ) → length (put_at at ws stage) ≡ length stage
unfolding put_at
put_long at ws stage =
    by_cases _ (leb (at + length ws) (length stage))
    (λ (e : leb (at + length ws) (length stage) ≡ true). ap length (if_true _ _ e) ∙ length-sets stage at ws)
    (λ (e : leb (at + length ws) (length stage) ≡ false). ap length (if_false _ _ e))

-- the words in front are kept, and the new ones come behind them
pub take_stored : (at : ℕ) (ws stage : List ℕ) → at + length ws ≤ length stage → take (at + length ws) (sets stage at ws) ≡ take at stage ++ ws
take_stored at ws stage h =
    let front : length (take at stage ++ ws) ≡ at + length ws = length-append (take at stage) ws ∙ ap (λ (n : ℕ). n + length ws) (length-take-le at stage (omega arith)) in
    ap (take (at + length ws)) (sets-eq ws stage at h) ∙ take_at (take at stage ++ ws) (drop (at + length ws) stage) (at + length ws) front

-- ---- what is staged

module _ {A : Type 0} (words : A → List ℕ) (width : ℕ) (whole : List A) where
  pub held_start : (stage : List ℕ) → Held words width whole stage 0 whole
  held_start stage = record { image = λ (h : width * length whole ≤ length stage). rw (mul-zero width) refl; count = omega arith }

  module _ (stage : List ℕ) (k : ℕ) (left : List A) (held : Held words width whole stage k left) where
    -- the same records left, told otherwise
    pub held_same : (left' : List A) → left ≡ left' → Held words width whole stage k left'
    held_same left' e = rw e at held

    module _ (wide : (x : A) → length (words x) ≡ width) where
      -- some records more
      pub held_more : (xs left' : List A) → left ≡ xs ++ left' → (k' : ℕ) → k' ≡ k + length xs → (stage' : List ℕ) →
          stage' ≡ put_at (width * k) (words_of words xs) stage → Held words width whole stage' k' left'
      held_more xs left' e k' counted stage' stored =
          record {
            image = image;
            count =
                let n : k + length left ≡ length whole = held.count in
                let m : length left ≡ length xs + length left' = ap length e ∙ length-append xs left' in
                omega arith;
          }
        where
          more : length left ≡ length xs + length left'
          more = ap length e ∙ length-append xs left'

          place : width * k + length (words_of words xs) ≡ width * k'
          place = ap (λ (w : ℕ). width * k + w) (words_long words width wide xs) ∙ sym (mul-add width k (length xs)) ∙ ap (λ (m : ℕ). width * m) (sym counted)

          image : width * length whole ≤ length stage' → take (width * k') stage' ++ words_of words left' ≡ words_of words whole
          image h =
              let l : length stage' ≡ length stage = ap length stored ∙ put_long (width * k) (words_of words xs) stage in
              let fits : width * length whole ≤ length stage = rw l at h in
              let n : k + length left ≡ length whole = held.count in
              let m : length left ≡ length xs + length left' = more in
              let few : k' ≤ length whole = omega arith in
              let below : width * k' ≤ width * length whole = mul-le-mul (le_refl width) few in
              let room : width * k + length (words_of words xs) ≤ length stage = rw place (le_trans below fits) in
              let is : stage' ≡ sets stage (width * k) (words_of words xs) = stored ∙ put_fits (width * k) (words_of words xs) stage room in
              ap (λ (u : List ℕ). take (width * k') u ++ words_of words left') is
              ∙ ap (λ (p : ℕ). take p (sets stage (width * k) (words_of words xs)) ++ words_of words left') (sym place)
              ∙ ap (λ (u : List ℕ). u ++ words_of words left') (take_stored (width * k) (words_of words xs) stage room)
              ∙ append_assoc (take (width * k) stage) (words_of words xs) (words_of words left')
              ∙ ap (λ (u : List ℕ). take (width * k) stage ++ u) (sym (words_append words xs left'))
              ∙ ap (λ (u : List A). take (width * k) stage ++ words_of words u) (sym e)
              ∙ held.image fits

      -- one record more
      pub held_one : (x : A) (left' : List A) → left ≡ x ∷ left' → (stage' : List ℕ) → stage' ≡ put_at (width * k) (words x) stage →
          Held words width whole stage' (k + 1) left'
      held_one x left' e stage' stored =
          held_more (x ∷ []) left' e (k + 1) refl stage'
          (stored ∙ ap (λ (ws : List ℕ). put_at (width * k) ws stage) (sym (words_cons words x [] ∙ ap (λ (r : List ℕ). words x ++ r) (words_none words) ∙ append-nil (words x))))

    -- none is left
    pub held_all : left ≡ [] → Whole words width whole stage
    held_all e =
        record {
          all =
              λ (h : width * length whole ≤ length stage).
              let n : k + length left ≡ length whole = held.count in
              let z : length left ≡ 0 = ap length e in
              let same : k ≡ length whole = omega arith in
              ap (λ (m : ℕ). take (width * m) stage) (sym same)
              ∙ sym (append-nil (take (width * k) stage))
              ∙ ap (λ (r : List ℕ). take (width * k) stage ++ r) (sym (ap (words_of words) e ∙ words_none words))
              ∙ held.image h;
        }

-- ---- and back

pub drop_taken : (w n : ℕ) (l : List ℕ) → drop w (take (w + n) l) ≡ take n (drop w l)
drop_taken zero n l = ap (λ (k : ℕ). take k l) (zero-add n)
drop_taken (suc w) n [] = empty (suc w + n) ∙ sym (nothing n)
  where
    nothing : (k : ℕ) → take {A = ℕ} k [] ≡ []
    nothing zero = refl
    nothing (suc k) = refl

    empty : (k : ℕ) → drop (suc w) (take {A = ℕ} k []) ≡ []
    empty k = ap (drop (suc w)) (nothing k)
drop_taken (suc w) n (x ∷ l) =
    let e : suc w + n ≡ suc (w + n) = omega arith in
    ap (λ (k : ℕ). drop (suc w) (take k (x ∷ l))) e ∙ drop_taken w n l

-- the k-th of some words that stand in a stage
module _ (stage : List ℕ) (at many : ℕ) (words : List ℕ) (there : take many (drop at stage) ≡ words) where
  word_back : (k : ℕ) → k < many → get_or stage (at + k) 0 ≡ get_or words k 0
  word_back k h = sym (get_or-drop at stage k 0) ∙ sym (get_or-take many (drop at stage) k 0 h) ∙ ap (λ (u : List ℕ). get_or u k 0) there

  first_back : 0 < many → get_or stage at 0 ≡ get_or words 0 0
  first_back h = ap (λ (n : ℕ). get_or stage n 0) (sym (add-zero at)) ∙ word_back 0 h

pub model_back : (x : StagedModel) (rest stage : List ℕ) (at many : ℕ) → staged_model_width ≤ many → take many (drop at stage) ≡ staged_model_words x ++ rest → staged_model_at stage at ≡ x
model_back x rest stage at many h e =
    let word : (k : ℕ) → k < staged_model_width → get_or stage (at + k) 0 ≡ get_or (staged_model_words x ++ rest) k 0 =
    λ (k : ℕ) (l : k < staged_model_width). word_back stage at many _ e k (omega arith) in
    let z : get_or stage at 0 ≡ x.model.start = first_back stage at many _ e (omega arith) in
    rw (z, word 1 (omega arith), word 2 (omega arith), word 3 (omega arith), word 4 (omega arith), word 5 (omega arith)) refl

pub step_back : (x : StagedStep) (rest stage : List ℕ) (at many : ℕ) → staged_step_width ≤ many → take many (drop at stage) ≡ staged_step_words x ++ rest → staged_step_at stage at ≡ x
step_back x rest stage at many h e =
    let word : (k : ℕ) → k < staged_step_width → get_or stage (at + k) 0 ≡ get_or (staged_step_words x ++ rest) k 0 =
    λ (k : ℕ) (l : k < staged_step_width). word_back stage at many _ e k (omega arith) in
    let z : get_or stage at 0 ≡ x.kind = first_back stage at many _ e (omega arith) in
    rw (z, word 1 (omega arith), word 2 (omega arith), word 3 (omega arith), word 4 (omega arith)) (
    rw (word 5 (omega arith), word 6 (omega arith), word 7 (omega arith)) refl)

-- records whose words stand in a stage, read back one by one
module _ {A : Type 0} (words : A → List ℕ) (width : ℕ) (wide : (x : A) → length (words x) ≡ width) (item : List ℕ → ℕ → A)
    (back : (x : A) (rest stage : List ℕ) (at many : ℕ) → width ≤ many → take many (drop at stage) ≡ words x ++ rest → item stage at ≡ x) where
  pub staged_back : (xs : List A) (stage : List ℕ) (i : ℕ) → take (width * length xs) (drop (width * i) stage) ≡ words_of words xs →
      staged_from (item stage) width i (length xs) ≡ xs
  unfolding staged_from
  staged_back [] stage i e = refl
  staged_back (x ∷ xs) stage i e =
      let n : width * suc (length xs) ≡ width + width * length xs = mul-suc width (length xs) ∙ add_comm (width * length xs) width in
      let f : take (width + width * length xs) (drop (width * i) stage) ≡ words x ++ words_of words xs =
      ap (λ (k : ℕ). take k (drop (width * i) stage)) (sym n) ∙ e ∙ words_cons words x xs in
      let rest : take (width * length xs) (drop (width * (i + 1)) stage) ≡ words_of words xs =
      ap (λ (k : ℕ). take (width * length xs) (drop k stage)) (sym (next_place width i))
      ∙ ap (take (width * length xs)) (sym (drop-drop width (width * i) stage))
      ∙ sym (drop_taken width (width * length xs) (drop (width * i) stage))
      ∙ ap (drop width) f
      ∙ drop_at (words x) (words_of words xs) width (wide x) in
      (λ j. back x (words_of words xs) stage (width * i) (width + width * length xs) (omega arith) f j ∷ staged_back xs stage (i + 1) rest j)

-- ---- what the code stores

-- the room for the record is told by a division, which cannot wrap
room_below : (many wide index : ℕ) → 0 < wide → many / wide ≤ index → many < wide * index + wide
room_below many wide index some h =
    let a : many < many / wide * wide + wide = lt-div-mul-add some in
    let b : many / wide * wide ≤ index * wide = mul-le-mul h (le_refl wide) in
    let c : index * wide ≡ wide * index = mul_comm index wide in
    omega arith

room_above : (many wide index : ℕ) → index < many / wide → wide * index + wide ≤ many
room_above many wide index h =
    let a : many / wide * wide ≤ many = div-mul-le_self many wide in
    let b : suc index * wide ≤ many / wide * wide = mul-le-mul h (le_refl wide) in
    let c : suc index * wide ≡ wide * suc index = mul_comm (suc index) wide in
    let d : wide * suc index ≡ wide * index + wide = mul-suc wide index in
    omega arith

put_none : (stage ws : List ℕ) (index : ℕ) → 0 < length ws → length stage / length ws ≤ index → stage ≡ put_at (length ws * index) ws stage
unfolding put_at
put_none stage ws index some h = sym (if_false _ _ (lt-leb _ _ (room_below (length stage) (length ws) index some h)))

put_room : (stage ws : List ℕ) (index : ℕ) → index < length stage / length ws → length ws * index + length ws ≤ length stage
put_room stage ws index h = room_above (length stage) (length ws) index h

put_some : (stage ws : List ℕ) (index : ℕ) → index < length stage / length ws → (stage' : List ℕ) → stage' ≡ sets stage (length ws * index) ws → stage' ≡ put_at (length ws * index) ws stage
put_some stage ws index h stage' e = e ∙ sym (put_fits (length ws * index) ws stage (put_room stage ws index h))

-- what is as wide as a type says, by the width that the code reads of it
module _ (stage ws : List ℕ) (index width : ℕ) (long : length ws ≡ width) (w : ℕ) (is_width : w ≡ width) where
  as_long : w ≡ length ws
  as_long = is_width ∙ sym long

  pub put_left : 0 < width → length stage / w ≤ index → stage ≡ put_at (width * index) ws stage
  put_left some h =
      put_none stage ws index (subst (λ (n : ℕ). 0 < n) (sym long) some) (subst (λ (n : ℕ). length stage / n ≤ index) as_long h)
      ∙ ap (λ (n : ℕ). put_at (n * index) ws stage) long

  pub put_stored : index < length stage / w → (v : ℕ) → v ≡ width → (stage' : List ℕ) → stage' ≡ sets stage (v * index) ws → stage' ≡ put_at (width * index) ws stage
  put_stored h v is stage' e =
      put_some stage ws index (subst (λ (n : ℕ). index < length stage / n) as_long h) stage'
      (e ∙ ap (λ (n : ℕ). sets stage (n * index) ws) (is ∙ sym long))
      ∙ ap (λ (n : ℕ). put_at (n * index) ws stage) long
