-- Laws of a Section line: reading it part by part gives the line of its definition, and if it is right, its parts.
-- Assumes nothing.
use Rattle.std.proofs.Common.{is_some, unwrap_or, Option}
use mathlib.Core.Path.{◌≡◌, refl, sym, ◌∙◌, ap}
use mathlib.Core.Bool.{Bool, true, false, true≢false}
use mathlib.Core.List.{List}
use Prim.Native.Nat.{ℕ, ◌+◌, ◌-◌, ◌≤◌, ◌<◌}
use native.Mathlib.Omega.{arith}
use lib.ListN.{length, take, drop}
use lib.Dec.{eqb}
use borrow.Author.Tests.{eqb-true}
use Rattle.base.specs.If.{provided◌then◌else◌, both, either}
use Rattle.base.specs.Bytes.{bytes}
use Rattle.base.specs.Runs.{same}
use Rattle.base.proofs.IfLaws.{if_true, if_false, by_cases, by_test, both_true, both_not_left, both_not_right, both_first, both_second, either_rest, either_none_first, either_none_second, not_via, not_not_via}
use Rattle.lex_line.specs.Words.{words, first_of, second_of, has_equals, left_of, right_of, to_equals}
use Rattle.lex_line.specs.Way.Spans.{first_two_of, marked_by}
use Rattle.lex_line.specs.declared.FirstTwo.{FirstTwo}
use Rattle.lex_line.specs.declared.Span.{Span}
use Rattle.lex_line.proofs.WordLaws.{second_ordered, second_within, first_marked, second_marked}
use Rattle.lex_line.proofs.FormLaws.{counted, counted_not, part_from, sign_none, sign_there, left_words, right_words}
use Rattle.lex_number.specs.Number.{number_of, is_formed, word_in, Number}
use Rattle.lex_number.specs.Integer.{whole_of, is_whole_within}
use Rattle.line_argument.specs.Argument.{is_reserved}
use Rattle.line_path.specs.Path.{says_section, is_length, is_mult, is_section_line, amount_formed, amount_bounded, section_line}
use Rattle.line_path.specs.Way.Section.{span_from, plain_parts, wrong_section, amount_in, amount_line, unit_line, is_parted, parts_line, name_right, section_parts}
use Rattle.line_path.specs.declared.PathParts.{PathParts}
use Rattle.table_layout.specs.Bounds.{most_mult}

-- ---- the amount

pub amount_mult :
    (mult : Bool) (amount : List ℕ) (name : Span) (times : Option ℕ) (formed inside : Bool) (value : ℕ) → mult ≡ true → times ≡ whole_of amount →
    formed ≡ is_some times → inside ≡ is_whole_within 1 most_mult times → value ≡ unwrap_or times 0 →
    record { line = record { says = says_section; right = true; formed = formed; bounded = inside }; name = name; amount = value; mult = mult }
    ≡ amount_line mult amount name
unfolding amount_line amount_formed amount_bounded amount_in
amount_mult mult amount name times formed inside value e k g h w =
    let f : formed ≡ (provided mult then is_some (whole_of amount) else is_formed (number_of amount)) = g ∙ ap (λ (w : Option ℕ). is_some w) k ∙ sym (if_true _ _ e) in
    let b : inside ≡ (provided mult then is_whole_within 1 most_mult (whole_of amount) else is_length (number_of amount)) = h ∙ ap (λ (w : Option ℕ). is_whole_within 1 most_mult w) k ∙ sym (if_true _ _ e) in
    let v : value ≡ (provided mult then unwrap_or (whole_of amount) 0 else word_in (number_of amount)) = w ∙ ap (λ (w : Option ℕ). unwrap_or w 0) k ∙ sym (if_true _ _ e) in
    λ i. record { line = record { says = says_section; right = true; formed = f i; bounded = b i }; name = name; amount = v i; mult = mult }

pub amount_length :
    (mult : Bool) (amount : List ℕ) (name : Span) (n : Number) (formed bounded : Bool) (word : ℕ) → mult ≡ false → n ≡ number_of amount →
    formed ≡ is_formed n → bounded ≡ is_length n → word ≡ word_in n →
    record { line = record { says = says_section; right = true; formed = formed; bounded = bounded }; name = name; amount = word; mult = mult }
    ≡ amount_line mult amount name
unfolding amount_line amount_formed amount_bounded amount_in
amount_length mult amount name n formed bounded word e k f b w =
    let g : formed ≡ (provided mult then is_some (whole_of amount) else is_formed (number_of amount)) = f ∙ ap is_formed k ∙ sym (if_false _ _ e) in
    let h : bounded ≡ (provided mult then is_whole_within 1 most_mult (whole_of amount) else is_length (number_of amount)) = b ∙ ap is_length k ∙ sym (if_false _ _ e) in
    let v : word ≡ (provided mult then unwrap_or (whole_of amount) 0 else word_in (number_of amount)) = w ∙ ap word_in k ∙ sym (if_false _ _ e) in
    λ i. record { line = record { says = says_section; right = true; formed = g i; bounded = h i }; name = name; amount = v i; mult = mult }

-- ---- the words before the sign and after it

-- the second word starts within the line, or at its end
pub second_starts : (s : List ℕ) (few : FirstTwo) → few ≡ first_two_of s → few.second.start ≤ length s
second_starts s few told =
    let a : few.second.start ≤ few.second.end = second_ordered s few told in
    let b : few.second.end ≤ length s = second_within s few told in
    omega arith

module _ (left : List ℕ) (before : FirstTwo) (one : before ≡ first_two_of left) (right : List ℕ) where
  pub parts_before : (name : Span) (r : PathParts) → (before.count ≡ 2 → ⊥) → r ≡ wrong_section → r ≡ parts_line (words left) (words right) name
  unfolding parts_line is_parted
  parts_before name r n h = h ∙ sym (if_false _ _ (both_not_left _ _ (counted_not left before one 2 (omega arith) n)))

  module _ (after : FirstTwo) (two : after ≡ first_two_of right) where
    pub parts_after : (name : Span) (r : PathParts) → (after.count ≡ 2 → ⊥) → r ≡ wrong_section → r ≡ parts_line (words left) (words right) name
    unfolding parts_line is_parted
    parts_after name r n h = h ∙ sym (if_false _ _ (both_not_right _ _ (both_not_left _ _ (counted_not right after two 2 (omega arith) n))))

    module _ (word : List ℕ) (named : word ≡ marked_by right after.second) (t : Bool) (tested : t ≡ is_reserved word) where
      reserved_is : is_reserved (second_of (words right)) ≡ t
      reserved_is = sym (tested ∙ ap is_reserved (named ∙ second_marked right after two))

      pub parts_reserved : (name : Span) (r : PathParts) → t ≡ true → r ≡ wrong_section → r ≡ parts_line (words left) (words right) name
      unfolding parts_line is_parted
      parts_reserved name r e h = h ∙ sym (if_false _ _ (both_not_right _ _ (both_not_right _ _ (not_not_via (reserved_is ∙ e)))))

      pub parts_right :
          (unit amount : List ℕ) (from : ℕ) (r : PathParts) → before.count ≡ 2 → after.count ≡ 2 → t ≡ false →
          unit ≡ marked_by left before.second → amount ≡ marked_by right after.first → r ≡ unit_line unit amount (span_from from after.second) →
          r ≡ parts_line (words left) (words right) (span_from from (first_two_of right).second)
      unfolding parts_line is_parted
      parts_right unit amount from r b a e u m h =
          let k : unit ≡ second_of (words left) = u ∙ second_marked left before one in
          let n : amount ≡ first_of (words right) = m ∙ first_marked right after two in
          h ∙ (λ i. unit_line (k i) (n i) (span_from from (two i).second))
          ∙ sym (if_true _ _ (both_true _ _ (counted left before one 2 (omega arith) b) (both_true _ _ (counted right after two 2 (omega arith) a) (not_via (reserved_is ∙ e)))))

-- ---- the line

-- if a implies b and b is false, a is false
fails : (a b : Bool) → (a ≡ true → b ≡ true) → b ≡ false → a ≡ false
fails a b h e = by_cases (a ≡ false) a (λ (f : a ≡ true). absurd (true≢false (sym (h f) ∙ e))) (λ (f : a ≡ false). f)

module _ (content : List ℕ) where
  abbrev unit_known : Bool
  unit_known = either (is_mult content) (same (second_of (left_of content)) (bytes "Len"))

  abbrev parted : Bool
  parted = is_parted (left_of content) (right_of content)

  section_sign : is_section_line content ≡ true → has_equals content ≡ true
  unfolding is_section_line
  section_sign e = both_first _ _ e

  section_parted : is_section_line content ≡ true → parted ≡ true
  unfolding is_section_line is_parted
  section_parted e =
      let counts : both (eqb (length (left_of content)) 2) (eqb (length (right_of content)) 2) ≡ true = both_first _ _ (both_second _ _ e) in
      both_true _ _ (both_first _ _ counts) (both_true _ _ (both_second _ _ counts) (both_second _ _ (both_second _ _ (both_second _ _ e))))

  section_unit : is_section_line content ≡ true → unit_known ≡ true
  unfolding is_section_line
  section_unit e = both_first _ _ (both_second _ _ (both_second _ _ e))

  section_told : has_equals content ≡ true → parted ≡ true → unit_known ≡ true → is_section_line content ≡ true
  unfolding is_section_line is_parted
  section_told s p u =
      both_true _ _ s (both_true _ _ (both_true _ _ (both_first _ _ p) (both_first _ _ (both_second _ _ p))) (both_true _ _ u (both_second _ _ (both_second _ _ p))))

  -- after the sign stand two words
  pub section_two : is_section_line content ≡ true → length (right_of content) ≡ 2
  unfolding is_parted
  section_two e = eqb-true _ _ (both_first _ _ (both_second _ _ (section_parted e)))

  -- the words before and after the sign are right; only the unit has to be decided
  parted_line : parted ≡ true → section_parts content ≡ (provided has_equals content then unit_line (second_of (left_of content)) (first_of (right_of content)) (name_right content) else wrong_section)
  unfolding section_parts parts_line
  parted_line p = ap (λ (r : PathParts). provided has_equals content then r else wrong_section) (if_true _ _ p)

  unit_right : unit_known ≡ true → unit_line (second_of (left_of content)) (first_of (right_of content)) (name_right content) ≡ amount_line (is_mult content) (first_of (right_of content)) (name_right content)
  unfolding unit_line is_mult
  unit_right u =
      by_cases _ (is_mult content)
      (λ (m : is_mult content ≡ true). if_true _ _ m ∙ ap (λ (b : Bool). amount_line b (first_of (right_of content)) (name_right content)) (sym m))
      (λ (m : is_mult content ≡ false).
      if_false _ _ m ∙ if_true _ _ (sym (either_rest _ _ m) ∙ u) ∙ ap (λ (b : Bool). amount_line b (first_of (right_of content)) (name_right content)) (sym m))

  unit_wrong : unit_known ≡ false → unit_line (second_of (left_of content)) (first_of (right_of content)) (name_right content) ≡ wrong_section
  unfolding unit_line is_mult
  unit_wrong u = if_false _ _ (either_none_first _ _ u) ∙ if_false _ _ (either_none_second _ _ u)

  -- a Section line, with its parts
  pub section_right : is_section_line content ≡ true → section_parts content ≡ amount_line (is_mult content) (first_of (right_of content)) (name_right content)
  section_right e = parted_line (section_parted e) ∙ if_true _ _ (section_sign e) ∙ unit_right (section_unit e)

  -- any other has none
  pub section_wrong : is_section_line content ≡ false → section_parts content ≡ wrong_section
  unfolding section_parts parts_line
  section_wrong e =
      by_test (λ (r : PathParts). r ≡ wrong_section) (has_equals content) _ _
      (λ (s : has_equals content ≡ true).
      by_test (λ (r : PathParts). r ≡ wrong_section) parted _ _
      (λ (p : parted ≡ true). unit_wrong (fails unit_known (is_section_line content) (section_told s p) e))
      (λ (p : parted ≡ false). refl))
      (λ (s : has_equals content ≡ false). refl)

  pub section_line_lem : (section_parts content).line ≡ section_line content
  unfolding section_line amount_line plain_parts
  section_line_lem =
      by_cases _ (is_section_line content)
      (λ (e : is_section_line content ≡ true). ap (λ (r : PathParts). r.line) (section_right e) ∙ sym (if_true _ _ e))
      (λ (e : is_section_line content ≡ false). ap (λ (r : PathParts). r.line) (section_wrong e) ∙ sym (if_false _ _ e))

  -- a line split at its first `=`
  module _ (sign : ℕ) (at : sign ≡ to_equals content) where
    pub section_none : (r : PathParts) → length content ≤ sign → r ≡ wrong_section → r ≡ section_parts content
    unfolding section_parts
    section_none r h e = e ∙ sym (if_false _ _ (sign_none content sign at h))

    pub section_parts_lem :
        (from : ℕ) (r : PathParts) → sign < length content → from ≡ sign + 1 →
        r ≡ parts_line (words (take sign content)) (words (take (length content - from) (drop from content)))
        (span_from from (first_two_of (take (length content - from) (drop from content))).second) → r ≡ section_parts content
    unfolding section_parts
    section_parts_lem from r h is e =
        let there : take (length content - (sign + 1)) (drop (sign + 1) content) ≡ drop (sign + 1) content = part_from content (sign + 1) in
        let name : span_from (sign + 1) (first_two_of (take (length content - (sign + 1)) (drop (sign + 1) content))).second ≡ name_right content =
        ap (λ (s : List ℕ). span_from (sign + 1) (first_two_of s).second) there ∙ ap (λ (n : ℕ). span_from (n + 1) (first_two_of (drop (n + 1) content)).second) at in
        e
        ∙ ap (λ (n : ℕ). parts_line (words (take sign content)) (words (take (length content - n) (drop n content))) (span_from n (first_two_of (take (length content - n) (drop n content))).second)) is
        ∙ (λ i. parts_line (left_words content sign at i) (right_words content sign at i) (name i))
        ∙ sym (if_true _ _ (sign_there content sign at h))
