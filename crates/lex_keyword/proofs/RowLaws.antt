-- Laws of the bracket `[Row]`: its five bytes are recognized without a search.
-- Assumes nothing.
use mathlib.Core.Path.{◌≡◌, refl, sym, ◌∙◌, ap}
use mathlib.Core.Bool.{Bool, true, false}
use mathlib.Core.List.{List, [], ◌∷◌}
use Prim.Native.Nat.{ℕ, ◌≤◌, ◌<◌}
use native.Mathlib.Nat.{le_refl}
use native.Mathlib.Omega.{arith}
use lib.ListN.{length, take, drop, get_or}
use lib.Seq.{drop-cons}
use borrow.Author.Tests.{eqb-true, le-ltb}
use Rattle.base.specs.If.{both, either, provided◌then◌else◌}
use Rattle.base.specs.Bytes.{is_blank, is_letter, is_capital, is_small, is_digit, within, small, is_before}
use Rattle.base.specs.Way.Class.{run_end}
use Rattle.base.specs.Runs.{run, all, same}
use Rattle.base.proofs.IfLaws.{both_not_left, both_not_right, both_first, both_second}
use Rattle.lex_keyword.specs.Names.{folded, same_name, name_index, keyword_of, is_later, row}
use Rattle.lex_keyword.specs.Bracket.{is_separator, is_plain_byte, push, parted, is_hyphen_word, is_good_word, are_good_words, is_good_name, named_as, bracket_of}
use Rattle.lex_keyword.specs.Way.Reading.{closes_at, says_name, is_row}
use Rattle.lex_keyword.specs.declared.Bracket.TheVariants.{Keyword}
use Rattle.lex_keyword.proofs.BracketLaws.{closes_before, reads_name}

-- the name `Row`, whatever its argument
row_says : (argument : ℕ) → Keyword row argument ≡ says_name (82 ∷ 111 ∷ 119 ∷ []) argument
unfolding
    provided◌then◌else◌ both either small is_capital is_small is_letter is_digit within all same folded same_name name_index keyword_of is_later is_separator is_plain_byte push parted is_hyphen_word is_good_word are_good_words is_good_name named_as says_name
row_says argument = refl

-- its first `]` comes after three bytes
row_run : (rest : List ℕ) → run (is_before 93) (82 ∷ 111 ∷ 119 ∷ 93 ∷ rest) ≡ 3
unfolding run is_before provided◌then◌else◌
row_run rest = refl

-- fewer than five bytes are no `[Row]`
pub row_short : (content : List ℕ) → length content ≤ 4 → false ≡ is_row content
unfolding is_row closes_at
row_short content h =
    sym (both_not_right _ _ (both_not_right _ _ (both_not_right _ _ (both_not_right _ _ (both_not_left _ _ (le-ltb 4 (length content) h))))))

module _ (content : List ℕ) (is : is_row content ≡ true) where
  row_bytes : (get_or content 1 0 ≡ 82) × (get_or content 2 0 ≡ 111) × (get_or content 3 0 ≡ 119) × (get_or content 4 0 ≡ 93) × (closes_at content 4 ≡ true)
  unfolding is_row
  row_bytes =
      let second : _ ≡ true = both_second _ _ is in
      let third : _ ≡ true = both_second _ _ second in
      let fourth : _ ≡ true = both_second _ _ third in
      (eqb-true _ _ (both_first _ _ is), eqb-true _ _ (both_first _ _ second), eqb-true _ _ (both_first _ _ third), eqb-true _ _ (both_first _ _ fourth), both_second _ _ fourth)

  row_shape : drop 1 content ≡ 82 ∷ 111 ∷ 119 ∷ 93 ∷ drop 5 content
  row_shape =
      let there : 4 < length content = closes_before content 4 true (sym row_bytes.4) refl in
      let a : drop 1 content ≡ get_or content 1 0 ∷ drop 2 content = drop-cons content 1 0 (omega arith) in
      let b : drop 2 content ≡ get_or content 2 0 ∷ drop 3 content = drop-cons content 2 0 (omega arith) in
      let c : drop 3 content ≡ get_or content 3 0 ∷ drop 4 content = drop-cons content 3 0 (omega arith) in
      let d : drop 4 content ≡ get_or content 4 0 ∷ drop 5 content = drop-cons content 4 0 there in
      rw (a, b, c, d, row_bytes.0, row_bytes.1, row_bytes.2, row_bytes.3)

  row_name : take 3 (drop 1 content) ≡ 82 ∷ 111 ∷ 119 ∷ []
  row_name = rw row_shape

  row_end : 4 ≡ run_end (is_before 93) content 1
  row_end = rw (row_shape, row_run)

pub reads_row : (content : List ℕ) (t : Bool) (argument : ℕ) → (0 ≡ run_end is_blank content 0) × (91 ≡ get_or content 0 0) → t ≡ is_row content → t ≡ true → argument ≡ run_end is_blank content 5 → Keyword row argument ≡ bracket_of content
reads_row content t argument column told e starts =
    let is : is_row content ≡ true = sym told ∙ e in
    reads_name content 0 91 column.0 column.1 refl (le_refl 0) 4 true (row_end content is) (sym (row_bytes content is).4) argument (Keyword row argument) refl starts
    (row_says argument ∙ ap (λ (name : List ℕ). says_name name argument) (sym (row_name content is)))
