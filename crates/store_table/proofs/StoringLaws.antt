-- Laws of staged records that are stored one after another: each is read from the stage, and its words go behind those of
-- the records before it.
-- Assumes nothing.
use mathlib.Core.Path.{◌≡◌, refl, sym, ◌∙◌, ap}
use mathlib.Core.List.{List, ◌∷◌, ◌++◌}
use Prim.Native.Nat.{ℕ, zero, suc, ◌+◌, ◌-◌, ◌*◌, ◌≤◌, ◌<◌}
use native.Mathlib.Nat.{add_assoc, add-zero, sub-zero, mul-zero, le_refl, le_trans, mul-le-mul}
use native.Mathlib.Omega.{arith}
use lib.ListN.{length}
use lib.Seq.{sets, length-sets}
use Rattle.base.proofs.StoreLaws.{sets_append}
use Rattle.table_record.specs.Way.Stage.{words_of, staged_from}
use Rattle.table_record.proofs.StageLaws.{next_place, words_none, words_cons, words_long}

-- with the records from the i-th on stored behind those before it the table is the one that is wanted
pub record Storing {A : Type 0} (item : ℕ → A) (staged : ℕ) (words : A → List ℕ) (width count at : ℕ) (table₀ : List ℕ) (i : ℕ) (table : List ℕ) : Type 0 where
  pub within : i ≤ count
  pub long : length table ≡ length table₀
  pub same : sets table (at + width * i) (words_of words (staged_from item staged i (count - i))) ≡ sets table₀ at (words_of words (staged_from item staged 0 count))

pub many_staged : {A : Type 0} (item : ℕ → A) (staged i n : ℕ) → length (staged_from item staged i n) ≡ n
unfolding staged_from
many_staged item staged i zero = refl
many_staged item staged i (suc n) = ap suc (many_staged item staged (i + 1) n)

module _ {A : Type 0} (item : ℕ → A) (staged : ℕ) (words : A → List ℕ) (width : ℕ) where
  pub stored_long : ((x : A) → length (words x) ≡ width) → (count : ℕ) → length (words_of words (staged_from item staged 0 count)) ≡ width * count
  stored_long wide count =
      words_long words width wide (staged_from item staged 0 count) ∙ ap (λ (n : ℕ). width * n) (many_staged item staged 0 count)

  module _ (count at : ℕ) (table₀ : List ℕ) where
    pub storing_start : Storing item staged words width count at table₀ 0 table₀
    storing_start =
        let w : at + width * 0 ≡ at = ap (λ (n : ℕ). at + n) (mul-zero width) ∙ add-zero at in
        record {
          within = omega arith;
          long = refl;
          same = rw w (ap (λ (n : ℕ). sets table₀ at (words_of words (staged_from item staged 0 n))) (sub-zero count));
        }

    module _ (i : ℕ) (table : List ℕ) (storing : Storing item staged words width count at table₀ i table) where
      pub storing_done : count ≤ i → table ≡ sets table₀ at (words_of words (staged_from item staged 0 count))
      unfolding staged_from
      storing_done h =
          let z : count - i ≡ 0 = omega arith in
          sym (ap (sets table (at + width * i)) (ap (λ (n : ℕ). words_of words (staged_from item staged i n)) z ∙ words_none words)) ∙ storing.same

      module _ (h : i < count) where
        -- the i-th record lies among the first `count`
        inside : (w : ℕ) → w * i + w ≤ w * count
        inside w =
            let k : i + 1 ≤ count = omega arith in
            rw (next_place w i) (mul-le-mul (le_refl w) k)

        pub from_inside : (stage : List ℕ) → staged * count ≤ length stage → staged * i + staged ≤ length stage
        from_inside stage k = le_trans (inside staged) k

        pub to_inside : at + width * count ≤ length table₀ → at + width * i + width ≤ length table
        to_inside k =
            let l : length table ≡ length table₀ = storing.long in
            let m : width * i + width ≤ width * count = inside width in
            omega arith

        pub storing_on : (wide : (x : A) → length (words x) ≡ width) → (x : A) → x ≡ item (staged * i) → (table' : List ℕ) → table' ≡ sets table (at + width * i) (words x) →
            Storing item staged words width count at table₀ (i + 1) table'
        unfolding staged_from
        storing_on wide x is_x table' stored =
            let to : ℕ = at + width * i in
            let next : to + width ≡ at + width * (i + 1) = add_assoc at (width * i) width ∙ ap (λ (k : ℕ). at + k) (next_place width i) in
            let n : count - i ≡ suc (count - (i + 1)) = omega arith in
            let behind : List A = staged_from item staged (i + 1) (count - (i + 1)) in
            let here : staged_from item staged i (count - i) ≡ x ∷ behind =
            ap (staged_from item staged i) n ∙ ap (λ (y : A). y ∷ behind) (sym is_x) in
            let all : words_of words (staged_from item staged i (count - i)) ≡ words x ++ words_of words behind =
            ap (words_of words) here ∙ words_cons words x behind in
            record {
              within = omega arith;
              long = ap length stored ∙ length-sets table to (words x) ∙ storing.long;
              same =
                  ap (λ (u : List ℕ). sets u (at + width * (i + 1)) (words_of words behind)) stored
                  ∙ ap (λ (k : ℕ). sets (sets table to (words x)) k (words_of words behind)) (sym next)
                  ∙ ap (λ (k : ℕ). sets (sets table to (words x)) (to + k) (words_of words behind)) (sym (wide x))
                  ∙ sym (sets_append table to (words x) (words_of words behind))
                  ∙ ap (sets table to) (sym all)
                  ∙ storing.same;
            }
