-- Laws of arguments, as code uses them at its returns: the end of a run of bytes decides whether the argument is one
-- word, an extension or a file name, and the integer that is read is that of the argument.
-- Assumes nothing.
use Rattle.std.proofs.Common.{unwrap_or, Option, is_some}
use mathlib.Core.Path.{◌≡◌, sym, ◌∙◌, ap, refl}
use mathlib.Core.Bool.{Bool, true, false, not, not-not}
use mathlib.Core.List.{List, [], ◌∷◌}
use Prim.Native.Nat.{ℕ, ◌+◌, ◌-◌, ◌≤◌, ◌<◌}
use native.Mathlib.Nat.{zero-add}
use native.Mathlib.Omega.{arith}
use lib.ListN.{length, take, drop, get_or, length-drop, get_or-eq_default}
use lib.Seq.{take_all}
use lib.Dec.{eqb, ltb}
use borrow.Author.Tests.{eq-eqb, ne_eqb, lt-ltb, le-ltb, ltb-true, ltb-false, not-true, not-false, eqb-false}
use Rattle.base.specs.Bytes.{is_filled}
use Rattle.base.specs.Way.Class.{run_end}
use Rattle.base.specs.Runs.{run, all, same}
use Rattle.base.proofs.IfLaws.{by_cases, both_rest, both_not_left, either_false, either_none_first, either_none_second}
use Rattle.base.specs.If.{either}
use Rattle.lex_number.specs.Integer.{whole_of, is_whole_within}
use Rattle.lex_number.proofs.AllLaws.{all_run}
use Rattle.line_place.specs.Place.{is_row_or_bandwidth}
use Rattle.line_argument.specs.Argument.{is_one_word, is_reserved, is_file_byte, is_extension, is_file_name, is_bad_integer}
use Rattle.line_argument.specs.Way.Reserved.{starts_reserved}
use Rattle.table_layout.specs.Bounds.{most_conductors, most_bandwidth}

-- every byte passes exactly when the run from the front goes to the end
pub all_told : (p : ℕ → Bool) (s : List ℕ) (end : ℕ) → end ≡ run_end p s 0 → eqb end (length s) ≡ all p s
all_told p s end told = ap (λ (n : ℕ). eqb n (length s)) (told ∙ zero-add (run p s)) ∙ sym (all_run p s)

module _ (s : List ℕ) where
  pub one_word : (end : ℕ) → 1 ≤ length s → end ≡ run_end is_filled s 0 → eqb end (length s) ≡ is_one_word s
  unfolding is_one_word
  one_word end h told = all_told is_filled s end told ∙ sym (both_rest _ _ (lt-ltb 0 (length s) (omega arith)))

-- where the base of a file name ends, and the byte there
module _ (s : List ℕ) (period there : ℕ) (told : period ≡ run_end is_file_byte s 0) where
  period_is : period ≡ run is_file_byte s
  period_is = told ∙ zero-add (run is_file_byte s)

  pub no_base : period < 1 → false ≡ is_file_name s
  unfolding is_file_name
  no_base h = sym (both_not_left _ _ (le-ltb 0 (run is_file_byte s) (omega (arith, period_is))))

  module _ (byte : there ≡ get_or s period 0) (base : 1 ≤ period) where
    base_told : ltb 0 (run is_file_byte s) ≡ true
    base_told = lt-ltb 0 (run is_file_byte s) (omega (arith, period_is))

    byte_is : get_or s (run is_file_byte s) 0 ≡ there
    byte_is = ap (λ (n : ℕ). get_or s n 0) (sym period_is) ∙ sym byte

    pub no_period : (there ≡ 46 → ⊥) → false ≡ is_file_name s
    unfolding is_file_name
    no_period h = sym (both_rest _ _ base_told ∙ both_not_left _ _ (ap (λ (b : ℕ). eqb b 46) byte_is ∙ ne_eqb there 46 h))

    module _ (is_period : there ≡ 46) where
      -- past the end there is no byte, so the period is before it
      pub past_period : period + 1 ≤ length s
      past_period =
          by_cases (period + 1 ≤ length s) (ltb period (length s))
          (λ (e : ltb period (length s) ≡ true). omega (arith, ltb-true period (length s) e))
          (λ (e : ltb period (length s) ≡ false).
          let z : get_or s period 0 ≡ 0 = get_or-eq_default s 0 (ltb-false period (length s) e) in
          absurd (omega arith))

      pub file_name_lem : (t : Bool) → t ≡ is_extension (take (length s - (period + 1)) (drop (period + 1) s)) → t ≡ is_file_name s
      unfolding is_file_name
      file_name_lem t e =
          let l : length (drop (period + 1) s) ≡ length s - (period + 1) = length-drop (period + 1) s in
          let w : take (length s - (period + 1)) (drop (period + 1) s) ≡ drop (period + 1) s = take_all (length s - (period + 1)) (drop (period + 1) s) (omega arith) in
          let n : period + 1 ≡ run is_file_byte s + 1 = ap (λ (n : ℕ). n + 1) period_is in
          e ∙ ap is_extension (w ∙ ap (λ (n : ℕ). drop n s) n) ∙ sym (both_rest _ _ base_told ∙ both_rest _ _ (ap (λ (b : ℕ). eqb b 46) byte_is ∙ eq-eqb there 46 is_period))

-- the integer that is read is that of the argument
module _ (s : List ℕ) (whole : Option ℕ) (told : whole ≡ whole_of s) where
  pub off_rows : (t : Bool) → t ≡ is_whole_within 1 most_conductors whole → not t ≡ not (is_whole_within 1 most_conductors (whole_of s))
  off_rows t e = rw (e, told)

  pub wide_band : (v : ℕ) → v ≡ unwrap_or whole 0 → ltb most_bandwidth v ≡ ltb most_bandwidth (unwrap_or (whole_of s) 0)
  wide_band v e = rw (e, told)

-- 13 for a keyword line; t says whether the keyword takes an integer
module _ (key : ℕ) (s : List ℕ) (t : Bool) (told : t ≡ is_row_or_bandwidth key) where
  pub no_integer : t ≡ false → t ≡ is_bad_integer key s
  unfolding is_bad_integer
  no_integer e = e ∙ sym (both_not_left _ _ (sym told ∙ e))

  pub integer_told : (whole : Option ℕ) (none : Bool) → t ≡ true → whole ≡ whole_of s → is_some whole ≡ not none → none ≡ is_bad_integer key s
  unfolding is_bad_integer
  integer_told whole none e read absent =
      sym (not-not none) ∙ ap not (sym absent) ∙ ap (λ (w : Option ℕ). not (is_some w)) read ∙ sym (both_rest _ _ (sym told ∙ e))

-- ---- reserved words by their first byte

-- words with different first bytes differ
other_start : (b c : ℕ) (x y : List ℕ) → (b ≡ c → ⊥) → same (b ∷ x) (c ∷ y) ≡ false
unfolding same
other_start b c x y h = both_not_left _ _ (ne_eqb b c h)

pub not_reserved : (b : ℕ) (x : List ℕ) → starts_reserved b ≡ false → is_reserved (b ∷ x) ≡ false
unfolding starts_reserved is_reserved
not_reserved b x e =
    let power : b ≡ 80 → ⊥ = eqb-false b 80 (either_none_first _ _ e) in
    let ground : b ≡ 71 → ⊥ = eqb-false b 71 (either_none_first _ _ (either_none_second _ _ e)) in
    let none : b ≡ 78 → ⊥ = eqb-false b 78 (either_none_second _ _ (either_none_second _ _ e)) in
    either_false _ _ (other_start b 80 x _ power)
    (either_false _ _ (other_start b 71 x _ ground) (either_false _ _ (other_start b 78 x _ none) (other_start b 78 x _ none)))

pub reserved_starts : (w : List ℕ) (b : ℕ) (is : Bool) → b ≡ get_or w 0 0 → is ≡ starts_reserved b → is ≡ false → is ≡ is_reserved w
unfolding is_reserved same either
reserved_starts [] b is told starts e = e
reserved_starts (c ∷ x) b is told starts e = e ∙ sym (not_reserved c x (ap starts_reserved (sym told) ∙ sym starts ∙ e))
