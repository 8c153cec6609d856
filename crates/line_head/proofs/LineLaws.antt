-- Laws of the lines of the head: each reader, making one test after another, returns what its definition gives.
-- Assumes nothing.
use Rattle.std.proofs.Common.{Option, is_some}
use mathlib.Core.Path.{◌≡◌, sym, ◌∙◌, ap}
use mathlib.Core.Bool.{Bool, true, false, not}
use mathlib.Core.List.{List}
use Prim.Native.Nat.{ℕ, ◌+◌, ◌-◌, ◌≤◌, ◌<◌}
use Prim.Native.Char.{code}
use native.Mathlib.Nat.{zero-add}
use native.Mathlib.Omega.{arith}
use lib.ListN.{length, take, drop}
use lib.Seq.{length-take-le}
use lib.Dec.{eqb}
use borrow.Author.Tests.{eq-eqb, ne_eqb, not-true, not-false}
use Rattle.base.specs.Bytes.{bytes, is_before}
use Rattle.base.specs.Runs.{same}
use Rattle.base.specs.Way.Class.{run_end}
use Rattle.base.proofs.IfLaws.{if_true, if_false, both_true, both_not_left, both_not_right, not_via, not_not_via}
use Rattle.base.proofs.RunLaws.{run_le}
use Rattle.lex_line.specs.Words.{words, first_of, second_of, left_of, right_of, to_equals}
use Rattle.lex_line.specs.Way.Spans.{first_two_of, marked_by}
use Rattle.lex_line.specs.declared.FirstTwo.{FirstTwo}
use Rattle.lex_line.proofs.WordLaws.{first_marked, second_marked}
use Rattle.lex_line.proofs.FormLaws.{counted, counted_not, part_from, sign_none, sign_there, left_words, right_words}
use Rattle.lex_number.specs.Number.{number_of, is_formed, is_bounded, Number}
use Rattle.lex_number.specs.Integer.{whole_of, is_whole_within}
use Rattle.line_head.specs.Head.{says_nothing, says_model_type, says_ratio, says_impedance, model_type_of, wrong_head_line, type_line, to_colon, ratio_of, sgr_line, impedance_line, head_line_of}
use Rattle.line_head.specs.declared.HeadLine.{HeadLine}
use Rattle.table_layout.specs.Bounds.{most_ratio}

-- ---- ICM_model_type

type_surplus : (ws : List (List ℕ)) → eqb (length ws) 2 ≡ false → wrong_head_line says_model_type ≡ type_line ws
unfolding type_line
type_surplus ws e = sym (if_false _ _ (both_not_left _ _ e))

type_unknown : (ws : List (List ℕ)) → model_type_of (second_of ws) ≡ 0 → wrong_head_line says_model_type ≡ type_line ws
unfolding type_line
type_unknown ws e = sym (if_false _ _ (both_not_right _ _ (not_not_via (eq-eqb _ _ e))))

type_known : (ws : List (List ℕ)) (kind : ℕ) → eqb (length ws) 2 ≡ true → kind ≡ model_type_of (second_of ws) → (kind ≡ 0 → ⊥) → record { says = says_model_type; right = true; formed = true; bounded = true; kind = kind } ≡ type_line ws
unfolding type_line
type_known ws kind e k n = rw k (sym (if_true _ _ (both_true _ _ e (not_via (ne_eqb _ _ (λ (z : model_type_of (second_of ws) ≡ 0). n (k ∙ z)))))))

-- ---- SGR

sgr_surplus : (ws : List (List ℕ)) → eqb (length ws) 2 ≡ false → wrong_head_line says_ratio ≡ sgr_line ws
unfolding sgr_line
sgr_surplus ws e = sym (if_false _ _ (both_not_left _ _ e))

-- a word split at its first colon
module _ (w : List ℕ) (colon : ℕ) (at : colon ≡ run_end (is_before (code ":")) w 0) where
  colon_is : colon ≡ to_colon w
  colon_is = at ∙ zero-add (to_colon w)

  pub colon_within : colon ≤ length w
  colon_within = rw colon_is (run_le (is_before (code ":")) w)

  pub colon_taken : colon ≡ length (take colon w)
  colon_taken = sym (length-take-le colon w colon_within)

  colon_rest : take (length w - colon) (drop colon w) ≡ drop (to_colon w) w
  colon_rest = part_from w colon ∙ ap (λ (n : ℕ). drop n w) colon_is

  colon_ratio : (ratio : Option ℕ) → ratio ≡ whole_of (take colon w) → ratio ≡ ratio_of w
  unfolding ratio_of
  colon_ratio ratio e = e ∙ ap (λ (n : ℕ). whole_of (take n w)) colon_is

-- what a reader knows of a line: its first two words and the count of words
module _ (content : List ℕ) (few : FirstTwo) (told : few ≡ first_two_of content) where
  pub type_count : (r : HeadLine) → (few.count ≡ 2 → ⊥) → r ≡ wrong_head_line says_model_type → r ≡ type_line (words content)
  type_count r n h = h ∙ type_surplus (words content) (counted_not content few told 2 (omega arith) n)

  pub sgr_count : (r : HeadLine) → (few.count ≡ 2 → ⊥) → r ≡ wrong_head_line says_ratio → r ≡ sgr_line (words content)
  sgr_count r n h = h ∙ sgr_surplus (words content) (counted_not content few told 2 (omega arith) n)

  module _ (two : few.count ≡ 2) (w : List ℕ) (there : w ≡ marked_by content few.second) where
    word_is : w ≡ second_of (words content)
    word_is = there ∙ second_marked content few told

    two_words : eqb (length (words content)) 2 ≡ true
    two_words = counted content few told 2 (omega arith) two

    pub type_wrong : (r : HeadLine) (kind : ℕ) → kind ≡ model_type_of w → kind ≡ 0 → r ≡ wrong_head_line says_model_type → r ≡ type_line (words content)
    type_wrong r kind k z h = h ∙ type_unknown (words content) (ap model_type_of (sym word_is) ∙ sym k ∙ z)

    pub type_right : (kind : ℕ) → kind ≡ model_type_of w → (kind ≡ 0 → ⊥) → record { says = says_model_type; right = true; formed = true; bounded = true; kind = kind } ≡ type_line (words content)
    type_right kind k n = type_known (words content) kind two_words (k ∙ ap model_type_of word_is) n

    module _ (colon : ℕ) (at : colon ≡ run_end (is_before (code ":")) w 0) (t : Bool) (tested : t ≡ same (take (length w - colon) (drop colon w)) (bytes ":1")) where
      rest_is : t ≡ same (drop (to_colon (second_of (words content))) (second_of (words content))) (bytes ":1")
      rest_is = tested ∙ ap (λ (s : List ℕ). same s (bytes ":1")) (colon_rest w colon at) ∙ ap (λ (s : List ℕ). same (drop (to_colon s) s) (bytes ":1")) word_is

      pub sgr_wrong : (r : HeadLine) → not t ≡ true → r ≡ wrong_head_line says_ratio → r ≡ sgr_line (words content)
      unfolding sgr_line
      sgr_wrong r e h = h ∙ sym (if_false _ _ (both_not_right _ _ (sym rest_is ∙ not-true t e)))

      pub sgr_right : (ratio : Option ℕ) (formed inside : Bool) → not t ≡ false → ratio ≡ whole_of (take colon w) → formed ≡ is_some ratio → inside ≡ is_whole_within 1 most_ratio ratio → record { says = says_ratio; right = true; formed = formed; bounded = inside; kind = 0 } ≡ sgr_line (words content)
      unfolding sgr_line
      sgr_right ratio formed inside e k g h =
          let f : ratio ≡ ratio_of (second_of (words content)) = colon_ratio w colon at ratio k ∙ ap ratio_of word_is in
          rw (h, g, f) (sym (if_true _ _ (both_true _ _ two_words (sym rest_is ∙ not-false t e))))

-- ---- Ref_impedance

-- what a reader knows of a line: the position of its `=`, and the words before and after it
module _ (content : List ℕ) (sign : ℕ) (at : sign ≡ to_equals content) where
  pub impedance_none : (r : HeadLine) → length content ≤ sign → r ≡ wrong_head_line says_impedance → r ≡ impedance_line content
  unfolding impedance_line
  impedance_none r h e = e ∙ sym (if_false _ _ (both_not_left _ _ (sign_none content sign at h)))

  module _ (left : FirstTwo) (before : left ≡ first_two_of (take sign content)) where
    pub impedance_named : (w : List ℕ) (t : Bool) → w ≡ marked_by (take sign content) left.first → t ≡ same w (bytes "Ref_impedance") → t ≡ same (first_of (left_of content)) (bytes "Ref_impedance")
    impedance_named w t there h = h ∙ ap (λ (s : List ℕ). same s (bytes "Ref_impedance")) (there ∙ first_marked (take sign content) left before ∙ ap first_of (left_words content sign at))

    pub impedance_surplus_before : (r : HeadLine) → (left.count ≡ 1 → ⊥) → r ≡ wrong_head_line says_impedance → r ≡ impedance_line content
    unfolding impedance_line
    impedance_surplus_before r n e =
        let k : eqb (length (left_of content)) 1 ≡ false = ap (λ (ws : List (List ℕ)). eqb (length ws) 1) (sym (left_words content sign at)) ∙ counted_not (take sign content) left before 1 (omega arith) n in
        e ∙ sym (if_false _ _ (both_not_right _ _ (both_not_left _ _ k)))

    module _ (right : FirstTwo) (after : right ≡ first_two_of (take (length content - (sign + 1)) (drop (sign + 1) content))) where
      pub impedance_surplus_after : (r : HeadLine) → (right.count ≡ 1 → ⊥) → r ≡ wrong_head_line says_impedance → r ≡ impedance_line content
      unfolding impedance_line
      impedance_surplus_after r n e =
          let k : eqb (length (right_of content)) 1 ≡ false = ap (λ (ws : List (List ℕ)). eqb (length ws) 1) (sym (right_words content sign at)) ∙ counted_not _ right after 1 (omega arith) n in
          e ∙ sym (if_false _ _ (both_not_right _ _ (both_not_right _ _ k)))

      pub impedance_told : (w : List ℕ) (n : Number) (formed bounded : Bool) → sign < length content → left.count ≡ 1 → right.count ≡ 1 → w ≡ marked_by (take (length content - (sign + 1)) (drop (sign + 1) content)) right.first → n ≡ number_of w → formed ≡ is_formed n → bounded ≡ is_bounded n → record { says = says_impedance; right = true; formed = formed; bounded = bounded; kind = 0 } ≡ impedance_line content
      unfolding impedance_line
      impedance_told w n formed bounded h one two there k f b =
          let l : eqb (length (left_of content)) 1 ≡ true = ap (λ (ws : List (List ℕ)). eqb (length ws) 1) (sym (left_words content sign at)) ∙ counted (take sign content) left before 1 (omega arith) one in
          let r : eqb (length (right_of content)) 1 ≡ true = ap (λ (ws : List (List ℕ)). eqb (length ws) 1) (sym (right_words content sign at)) ∙ counted _ right after 1 (omega arith) two in
          let e : n ≡ number_of (first_of (right_of content)) = k ∙ ap number_of (there ∙ first_marked _ right after ∙ ap first_of (right_words content sign at)) in
          rw (f, b, e) (sym (if_true _ _ (both_true _ _ (sign_there content sign at h) (both_true _ _ l r))))

-- ---- a line by its first word

module _ (content : List ℕ) (few : FirstTwo) (told : few ≡ first_two_of content) (w : List ℕ) (there : w ≡ marked_by content few.first) where
  named_is : (t : Bool) (name : List ℕ) → t ≡ same w name → same (first_of (words content)) name ≡ t
  named_is t name h = sym (h ∙ ap (λ (s : List ℕ). same s name) (there ∙ first_marked content few told))

  pub says_type : (t : Bool) (r : HeadLine) → t ≡ same w (bytes "ICM_model_type") → t ≡ true → r ≡ type_line (words content) → r ≡ head_line_of content
  unfolding head_line_of
  says_type t r h e k = k ∙ sym (if_true _ _ (named_is t _ h ∙ e))

  module _ (a : Bool) (first : a ≡ same w (bytes "ICM_model_type")) (other : a ≡ false) where
    pub says_sgr_lem : (t : Bool) (r : HeadLine) → t ≡ same w (bytes "SGR") → t ≡ true → r ≡ sgr_line (words content) → r ≡ head_line_of content
    unfolding head_line_of
    says_sgr_lem t r h e k = k ∙ sym (if_false _ _ (named_is a _ first ∙ other) ∙ if_true _ _ (named_is t _ h ∙ e))

    module _ (b : Bool) (second : b ≡ same w (bytes "SGR")) (another : b ≡ false) (t : Bool) (third : t ≡ same (first_of (left_of content)) (bytes "Ref_impedance")) where
      pub says_impedance_lem : (r : HeadLine) → t ≡ true → r ≡ impedance_line content → r ≡ head_line_of content
      unfolding head_line_of
      says_impedance_lem r e k = k ∙ sym (if_false _ _ (named_is a _ first ∙ other) ∙ if_false _ _ (named_is b _ second ∙ another) ∙ if_true _ _ (sym third ∙ e))

      pub says_nothing_lem : t ≡ false → record { says = says_nothing; right = true; formed = true; bounded = true; kind = 0 } ≡ head_line_of content
      unfolding head_line_of
      says_nothing_lem e = sym (if_false _ _ (named_is a _ first ∙ other) ∙ if_false _ _ (named_is b _ second ∙ another) ∙ if_false _ _ (sym third ∙ e))
