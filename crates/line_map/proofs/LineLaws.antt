-- Laws of the lines of a map, as code uses them at its returns: how the count of words, the sign and the words found
-- decide what a line says.
-- Assumes nothing.
use Rattle.std.proofs.Common.{Option, is_some, unwrap_or}
use mathlib.Core.Path.{◌≡◌, sym, ◌∙◌, ap}
use mathlib.Core.Bool.{Bool, true, false, not}
use mathlib.Core.List.{List}
use Prim.Native.Nat.{ℕ, ◌+◌, ◌-◌, ◌≤◌, ◌<◌, min}
use native.Mathlib.Omega.{arith}
use lib.ListN.{length, take, drop, length-drop}
use lib.Seq.{take_all}
use lib.Dec.{eqb}
use borrow.Author.Tests.{eq-eqb, ne_eqb, lt-ltb, le-ltb}
use Rattle.base.specs.Bytes.{bytes}
use Rattle.base.specs.Runs.{same}
use Rattle.base.proofs.IfLaws.{if_true, if_false, both_true, both_rest, both_not_left, not_via, not_not_via}
use Rattle.lex_line.specs.declared.FirstTwo.{FirstTwo}
use Rattle.lex_line.specs.Words.{words, first_of, second_of, to_equals, has_equals, left_of, right_of}
use Rattle.lex_line.specs.Way.Spans.{first_two_of, marked_by}
use Rattle.lex_line.proofs.WordLaws.{first_marked, second_marked}
use Rattle.lex_number.specs.Integer.{whole_of, is_whole_within}
use Rattle.line_map.specs.declared.MapLine.{MapLine}
use Rattle.line_map.specs.PinMap.{says_nothing, says_order, says_columns, says_rows, says_pin_list, order_of, wrong_map_line, order_line, list_line, size_line, map_line_of, is_pin_line}
use Rattle.table_layout.specs.Bounds.{most_map_pins}
use Rattle.lex_line.proofs.FormLaws.{left_words}

-- what follows for all words of a line from its first two words and a count that stops at 3
module _ (s : List ℕ) (few : FirstTwo) (told : few ≡ first_two_of s) where
  counted : few.count ≡ min 3 (length (words s))
  unfolding first_two_of
  counted = ap (λ (f : FirstTwo). f.count) told

  one_word : few.count ≡ 1 → eqb (length (words s)) 1 ≡ true
  one_word h = eq-eqb (length (words s)) 1 (omega (arith, counted))

  not_one_word : (few.count ≡ 1 → ⊥) → eqb (length (words s)) 1 ≡ false
  not_one_word h = ne_eqb (length (words s)) 1 (λ (k : length (words s) ≡ 1). h (omega (arith, counted)))

  pub first_told_lem : (word : List ℕ) → word ≡ marked_by s few.first → word ≡ first_of (words s)
  first_told_lem word e = e ∙ first_marked s few told

  pub list_other : (line : MapLine) → (few.count ≡ 1 → ⊥) → line ≡ wrong_map_line says_pin_list → line ≡ list_line (words s)
  unfolding list_line
  list_other line h e = e ∙ sym (if_false _ _ (not_one_word h))

  pub list_alone : few.count ≡ 1 → record { says = says_pin_list; right = true; formed = true; bounded = true; value = 0 } ≡ list_line (words s)
  unfolding list_line
  list_alone h = sym (if_true _ _ (one_word h))

  pub order_other : (line : MapLine) → (few.count ≡ 2 → ⊥) → line ≡ wrong_map_line says_order → line ≡ order_line (words s)
  unfolding order_line
  order_other line h e = e ∙ sym (if_false _ _ (both_not_left _ _ (ne_eqb (length (words s)) 2 (λ (k : length (words s) ≡ 2). h (omega (arith, counted))))))

  -- the order that the second word names
  module _ (two : few.count ≡ 2) (word : List ℕ) (second : word ≡ marked_by s few.second) (found : ℕ) (named : found ≡ order_of word) where
    two_words : eqb (length (words s)) 2 ≡ true
    two_words = eq-eqb (length (words s)) 2 (omega (arith, counted))

    found_is : order_of (second_of (words s)) ≡ found
    found_is = ap order_of (sym (second_marked s few told) ∙ sym second) ∙ sym named

    pub order_none : (line : MapLine) → found ≡ 0 → line ≡ wrong_map_line says_order → line ≡ order_line (words s)
    unfolding order_line
    order_none line h e = e ∙ sym (if_false _ _ (both_rest _ _ two_words ∙ not_not_via (eq-eqb (order_of (second_of (words s))) 0 (found_is ∙ h))))

    pub order_some : (found ≡ 0 → ⊥) → record { says = says_order; right = true; formed = true; bounded = true; value = found } ≡ order_line (words s)
    unfolding order_line
    order_some h =
        let n : eqb (order_of (second_of (words s))) 0 ≡ false = ne_eqb (order_of (second_of (words s))) 0 (λ (k : order_of (second_of (words s)) ≡ 0). h (sym found_is ∙ k)) in
        ap (λ (v : ℕ). record { says = says_order; right = true; formed = true; bounded = true; value = v }) (sym found_is)
        ∙ sym (if_true _ _ (both_true _ _ two_words (not_via n)))

  pub pin_short : few.count ≤ 2 → not (is_pin_line (words s)) ≡ false
  unfolding is_pin_line
  pin_short h = not_not_via (lt-ltb (length (words s)) 3 (omega (arith, counted)))

  pub pin_long : 2 < few.count → not (is_pin_line (words s)) ≡ true
  unfolding is_pin_line
  pin_long h = not_via (le-ltb (length (words s)) 3 (omega (arith, counted)))

-- a size as it is read: the integer, and whether it is within its bounds
abbrev sized : ℕ → Option ℕ → Bool → MapLine
sized says whole fits = record { says = says; right = true; formed = is_some whole; bounded = fits; value = unwrap_or whole 0 }

-- the position of the sign
module _ (content : List ℕ) (sign : ℕ) (told : sign ≡ to_equals content) where
  -- the first word before the sign
  pub left_told : (name : List ℕ) → name ≡ first_of (words (take sign content)) → name ≡ first_of (left_of content)
  left_told name e = e ∙ ap first_of (left_words content sign told)

  module _ (says : ℕ) where
    pub size_unsigned : (line : MapLine) → length content ≤ sign → line ≡ wrong_map_line says → line ≡ size_line says content
    unfolding size_line has_equals
    size_unsigned line h e = e ∙ sym (if_false _ _ (both_not_left _ _ (le-ltb (to_equals content) (length content) (omega arith))))

    module _ (signed : sign < length content) (left : FirstTwo) (told_left : left ≡ first_two_of (take sign content)) where
      has_sign_lem : has_equals content ≡ true
      unfolding has_equals
      has_sign_lem = lt-ltb (to_equals content) (length content) (omega arith)

      pub size_other : (line : MapLine) → (left.count ≡ 1 → ⊥) → line ≡ wrong_map_line says → line ≡ size_line says content
      unfolding size_line
      size_other line h e =
          let n : eqb (length (left_of content)) 1 ≡ false = ap (λ (ws : List (List ℕ)). eqb (length ws) 1) (sym (left_words content sign told)) ∙ not_one_word (take sign content) left told_left h in
          e ∙ sym (if_false _ _ (both_rest _ _ has_sign_lem ∙ both_not_left _ _ n))

      module _ (alone : left.count ≡ 1) (right : FirstTwo) (told_right : right ≡ first_two_of (take (length content - (sign + 1)) (drop (sign + 1) content))) where
        name_alone : eqb (length (left_of content)) 1 ≡ true
        name_alone = ap (λ (ws : List (List ℕ)). eqb (length ws) 1) (sym (left_words content sign told)) ∙ one_word (take sign content) left told_left alone

        right_is : words (take (length content - (sign + 1)) (drop (sign + 1) content)) ≡ right_of content
        unfolding right_of
        right_is =
            let l : length (drop (sign + 1) content) ≡ length content - (sign + 1) = length-drop (sign + 1) content in
            let w : take (length content - (sign + 1)) (drop (sign + 1) content) ≡ drop (sign + 1) content = take_all (length content - (sign + 1)) (drop (sign + 1) content) (omega arith) in
            ap words (w ∙ ap (λ (n : ℕ). drop (n + 1) content) told)

        pub size_surplus : (line : MapLine) → (right.count ≡ 1 → ⊥) → line ≡ wrong_map_line says → line ≡ size_line says content
        unfolding size_line
        size_surplus line h e =
            let n : eqb (length (right_of content)) 1 ≡ false = ap (λ (ws : List (List ℕ)). eqb (length ws) 1) (sym right_is) ∙ not_one_word _ right told_right h in
            e ∙ sym (if_false _ _ (both_rest _ _ has_sign_lem ∙ both_rest _ _ name_alone ∙ n))

        -- the integer after the sign
        pub size_given : (word : List ℕ) (whole : Option ℕ) (fits formed : Bool) (value : ℕ) → right.count ≡ 1 → word ≡ marked_by (take (length content - (sign + 1)) (drop (sign + 1) content)) right.first → whole ≡ whole_of word → fits ≡ is_whole_within 1 most_map_pins whole → formed ≡ is_some whole → value ≡ unwrap_or whole 0 → record { says = says; right = true; formed = formed; bounded = fits; value = value } ≡ size_line says content
        unfolding size_line
        size_given word whole fits formed value h first read bounds forms gives =
            let n : eqb (length (right_of content)) 1 ≡ true = ap (λ (ws : List (List ℕ)). eqb (length ws) 1) (sym right_is) ∙ one_word _ right told_right h in
            let w : whole ≡ whole_of (first_of (right_of content)) = read ∙ ap whole_of (first_told_lem _ right told_right word first ∙ ap first_of right_is) in
            let b : fits ≡ is_whole_within 1 most_map_pins (whole_of (first_of (right_of content))) = bounds ∙ ap (λ (v : Option ℕ). is_whole_within 1 most_map_pins v) w in
            let r : sized says whole fits ≡ sized says (whole_of (first_of (right_of content))) (is_whole_within 1 most_map_pins (whole_of (first_of (right_of content)))) = λ i. sized says (w i) (b i) in
            (λ i. record { says = says; right = true; formed = forms i; bounded = fits; value = gives i }) ∙ r ∙ sym (if_true _ _ (both_true _ _ has_sign_lem (both_true _ _ name_alone n)))

-- what the first word says; t is whether it is Pin_order, u whether it is Pin_list
module _ (content first : List ℕ) (t : Bool) (line : MapLine) (told : first ≡ first_of (words content)) (asked : t ≡ same first (bytes "Pin_order")) where
  order_is : same (first_of (words content)) (bytes "Pin_order") ≡ t
  order_is = ap (λ (w : List ℕ). same w (bytes "Pin_order")) (sym told) ∙ sym asked

  pub says_order_lem : t ≡ true → line ≡ order_line (words content) → line ≡ map_line_of content
  unfolding map_line_of
  says_order_lem h e = e ∙ sym (if_true _ _ (order_is ∙ h))

  module _ (other : t ≡ false) (u : Bool) (asked_list : u ≡ same first (bytes "Pin_list")) where
    list_is : same (first_of (words content)) (bytes "Pin_list") ≡ u
    list_is = ap (λ (w : List ℕ). same w (bytes "Pin_list")) (sym told) ∙ sym asked_list

    pub says_list : u ≡ true → line ≡ list_line (words content) → line ≡ map_line_of content
    unfolding map_line_of
    says_list h e = e ∙ sym (if_false _ _ (order_is ∙ other) ∙ if_true _ _ (list_is ∙ h))

    -- the word before the sign; v is whether it is Num_of_columns, w whether it is Num_of_rows
    module _ (neither : u ≡ false) (sign : ℕ) (name : List ℕ) (v : Bool) (signed : sign ≡ to_equals content) (named : name ≡ first_of (words (take sign content))) (asked_columns : v ≡ same name (bytes "Num_of_columns")) where
      columns_is : same (first_of (left_of content)) (bytes "Num_of_columns") ≡ v
      columns_is = ap (λ (n : List ℕ). same n (bytes "Num_of_columns")) (sym (left_told content sign signed name named)) ∙ sym asked_columns

      pub says_columns_lem : v ≡ true → line ≡ size_line says_columns content → line ≡ map_line_of content
      unfolding map_line_of
      says_columns_lem h e = e ∙ sym (if_false _ _ (order_is ∙ other) ∙ if_false _ _ (list_is ∙ neither) ∙ if_true _ _ (columns_is ∙ h))

      module _ (no_columns : v ≡ false) (w : Bool) (asked_rows : w ≡ same name (bytes "Num_of_rows")) where
        rows_is : same (first_of (left_of content)) (bytes "Num_of_rows") ≡ w
        rows_is = ap (λ (n : List ℕ). same n (bytes "Num_of_rows")) (sym (left_told content sign signed name named)) ∙ sym asked_rows

        pub says_rows_lem : w ≡ true → line ≡ size_line says_rows content → line ≡ map_line_of content
        unfolding map_line_of
        says_rows_lem h e =
            e ∙ sym (if_false _ _ (order_is ∙ other) ∙ if_false _ _ (list_is ∙ neither) ∙ if_false _ _ (columns_is ∙ no_columns) ∙ if_true _ _ (rows_is ∙ h))

        pub says_nothing_lem : w ≡ false → line ≡ record { says = says_nothing; right = true; formed = true; bounded = true; value = 0 } → line ≡ map_line_of content
        unfolding map_line_of
        says_nothing_lem h e =
            e ∙ sym (if_false _ _ (order_is ∙ other) ∙ if_false _ _ (list_is ∙ neither) ∙ if_false _ _ (columns_is ∙ no_columns) ∙ if_false _ _ (rows_is ∙ h))
