-- The lines of a text that reads to its end write the paths of its models, in the paper's own words (`PathWritten`): the
-- steps of the document are the steps that these lines write.
-- Assumes nothing.
use Rattle.std.proofs.Common.{is_some, unwrap_or, Ok, Err}
use mathlib.Core.Path.{◌≡◌, refl, sym, ◌∙◌, ap}
use mathlib.Core.Bool.{true, false, not, true≢false}
use mathlib.Core.List.{List, [], ◌∷◌, ◌++◌, map, append_assoc}
use Prim.Native.Nat.{ℕ, ◌+◌}
use native.Mathlib.Omega.{arith}
use lib.ListN.{length, drop, get_or}
use lib.Dec.{eqb}
use borrow.Author.Tests.{eqb-true, eqb-false, not-false}
use Rattle.table_layout.specs.Codes.{end_kind, section_kind, fork_kind, endfork_kind}
use Rattle.base.specs.If.{provided◌then◌else◌, both, either}
use Rattle.base.specs.Bytes.{bytes, is_before}
use Rattle.base.specs.Runs.{same}
use Rattle.base.specs.Broken.{◌when◌, first}
use Rattle.base.proofs.IfLaws.{if_true, if_false, by_test, by_cases, both_first, both_second, either_rest}
use Rattle.base.proofs.RunLaws.{same_equal}
use Rattle.base.proofs.BrokenLaws.{sound, all_kept, lists_yes, lists_no}
use Rattle.lex_line.specs.Words.{Word, words_from, words, first_of, second_of, to_equals, left_of, right_of}
use Rattle.lex_number.specs.Number.{number_of, is_formed, word_in, Number}
use Rattle.lex_number.specs.Integer.{whole_of}
use Rattle.lex_number.specs.declared.NumberError.TheVariants.{Malformed, Range}
use Rattle.line_place.specs.Place as place
use Rattle.line_path.specs.Path.{saying_of, plain_line, names_one, is_length, is_mult, amount_of, is_section_line, amount_formed, amount_bounded, section_line, line_saying, path_line_of}
use Rattle.line_path.specs.Path as path
use Rattle.line_path.specs.declared.Path.{Path}
use Rattle.line_path.specs.declared.PathLine.{PathLine}
use Rattle.line_path.specs.Way.Rule.{open_rule, closed_rule, path_rule}
use Rattle.line_path.proofs.RuleLaws.{closed_other, path_closed, path_open_lem}
use Rattle.line_keyword.specs.declared.Counts.{Counts}
use Rattle.line_keyword.specs.declared.State.{State}
use Rattle.read_line.specs.Reading.{reading_of}
use Rattle.read_line.specs.declared.Reading.TheVariants.{Read}
use Rattle.doc.specs.Lines.{Line, plain, significant, key_of, words_of, right_words_of, no_word, second_word, gather}
use Rattle.doc.specs.Document.{Step, saying_at, side_in, step_of, steps_in, opens_model, in_model, model_of, model_at, document_in, document_of}
use Rattle.doc.specs.Holds.{Each}
use Rattle.doc.specs.Holds.Each.{none, more}
use Rattle.doc.proofs.Goes.{Goes, Moves, idle_outside, text_ends}
use Rattle.doc.proofs.Goes.Moves.{idle, plainly, keyed}
use Rattle.doc.proofs.StepLaws.{says_said, saying_there, saying_elsewhere, saying_keyed, path_ruled, path_says, silent_step}
use Rattle.doc.proofs.StandsLaws.{each_append, each_if, each_up}
use Rattle.law_alike.proofs.SidesLaws.{words_bare, has_sign, cut_left, left_on, left_by_words}
use Rattle.law_third.specs.PathWritten.{InPath, SideBelow, WritesStep, PathWritten, path_step_of, PathWrittenBy}

-- ---- words

-- the words of a line have the same bytes, whatever their offset
words_anywhere : (at : ℕ) (s : List ℕ) → map (λ (w : Word). w.text) (words_from at s) ≡ words s
words_anywhere at s = words_bare at s ∙ sym (words_bare 0 s)

second_text : (ws : List Word) → (second_word ws).text ≡ second_of (map (λ (w : Word). w.text) ws)
unfolding no_word
second_text [] = refl
second_text (w ∷ []) = refl
second_text (w ∷ v ∷ ws) = refl

line_second : (l : Line) → (second_word (words_of l)).text ≡ second_of (words l.content)
unfolding words_of
line_second l = second_text (words_from l.at l.content) ∙ ap second_of (words_anywhere l.at l.content)

right_second : (l : Line) → (second_word (right_words_of l)).text ≡ second_of (right_of l.content)
unfolding right_words_of right_of
right_second l =
    let from : ℕ = to_equals l.content + 1 in
    second_text (words_from (l.at + from) (drop from l.content)) ∙ ap second_of (words_anywhere (l.at + from) (drop from l.content))

one_word : (ws : List (List ℕ)) (w : List ℕ) → length ws ≡ 1 → first_of ws ≡ w → ws ≡ w ∷ []
one_word [] w n e = absurd (omega arith)
one_word (v ∷ []) w n e = ap (λ (x : List ℕ). x ∷ []) e
one_word (v ∷ x ∷ ws) w n e = absurd (omega arith)

two_words : (ws : List (List ℕ)) (w : List ℕ) → length ws ≡ 2 → first_of ws ≡ w → ws ≡ w ∷ second_of ws ∷ []
two_words [] w n e = absurd (omega arith)
two_words (v ∷ []) w n e = absurd (omega arith)
two_words (v ∷ x ∷ []) w n e = ap (λ (y : List ℕ). y ∷ x ∷ []) e
two_words (v ∷ x ∷ y ∷ ws) w n e = absurd (omega arith)

-- a line of two words, the second with its bytes as the document takes them
named_words : (l : Line) (w : List ℕ) → length (words l.content) ≡ 2 → first_of (words l.content) ≡ w →
    words l.content ≡ w ∷ (second_word (words_of l)).text ∷ []
named_words l w n e = two_words (words l.content) w n e ∙ ap (λ (x : List ℕ). w ∷ x ∷ []) (sym (line_second l))

-- Section is the first word before the `=` too
section_signless : has_sign (bytes "Section") ≡ false
unfolding has_sign is_before provided◌then◌else◌
section_signless = refl

left_section : (ws : List (List ℕ)) → first_of ws ≡ bytes "Section" → first_of (cut_left ws) ≡ bytes "Section"
unfolding cut_left
left_section [] e = e
left_section (w ∷ ws) e = ap first_of (left_on w ws (ap has_sign e ∙ section_signless)) ∙ e

-- ---- what the first word says

data Saying (w : List ℕ) (k : ℕ) : Type 0 where
  is_section_lem : k ≡ path.says_section → w ≡ bytes "Section" → Saying w k
  is_fork : k ≡ path.says_fork → w ≡ bytes "Fork" → Saying w k
  is_endfork : k ≡ path.says_endfork → w ≡ bytes "Endfork" → Saying w k
  is_end_lem : k ≡ path.says_end → w ≡ bytes "Model_pinmap" → Saying w k
  is_side_lem : k ≡ path.says_side → w ≡ bytes "Side" → Saying w k
  is_nothing : k ≡ path.says_nothing → Saying w k

what_says : (w : List ℕ) → Saying w (saying_of w)
unfolding saying_of
what_says w =
    by_test (Saying w) (same w (bytes "Section")) _ _
    (λ (e : same w (bytes "Section") ≡ true). is_section_lem refl (same_equal w (bytes "Section") e))
    (λ (e : same w (bytes "Section") ≡ false).
    by_test (Saying w) (same w (bytes "Fork")) _ _
    (λ (f : same w (bytes "Fork") ≡ true). is_fork refl (same_equal w (bytes "Fork") f))
    (λ (f : same w (bytes "Fork") ≡ false).
    by_test (Saying w) (same w (bytes "Endfork")) _ _
    (λ (g : same w (bytes "Endfork") ≡ true). is_endfork refl (same_equal w (bytes "Endfork") g))
    (λ (g : same w (bytes "Endfork") ≡ false).
    by_test (Saying w) (same w (bytes "Model_pinmap")) _ _
    (λ (h : same w (bytes "Model_pinmap") ≡ true). is_end_lem refl (same_equal w (bytes "Model_pinmap") h))
    (λ (h : same w (bytes "Model_pinmap") ≡ false).
    by_test (Saying w) (same w (bytes "Side")) _ _
    (λ (i : same w (bytes "Side") ≡ true). is_side_lem refl (same_equal w (bytes "Side") i))
    (λ (i : same w (bytes "Side") ≡ false). is_nothing refl)))))

side_word : (w : List ℕ) (k : ℕ) → Saying w k → k ≡ path.says_side → w ≡ bytes "Side"
side_word w k (is_section_lem e f) z = absurd (omega arith)
side_word w k (is_fork e f) z = absurd (omega arith)
side_word w k (is_endfork e f) z = absurd (omega arith)
side_word w k (is_end_lem e f) z = absurd (omega arith)
side_word w k (is_side_lem e f) z = f
side_word w k (is_nothing e) z = absurd (omega arith)

side_says : saying_of (bytes "Side") ≡ path.says_side
unfolding saying_of same both provided◌then◌else◌
side_says = refl

-- ---- a line that breaks no rule of a path

module _ (l : PathLine) (p : Path) (steps : ℕ) where
  open_kept : open_rule l p steps ≡ 0 → (i : ℕ) → (get_or (path.open_rules l p steps) i sound).broken ≡ false
  unfolding open_rule
  open_kept h i =
      all_kept (path.open_rules l p steps) (omega arith, (omega arith, (omega arith, (omega arith, (omega arith, (omega arith, tt)))))) h i

  closed_right : closed_rule l p ≡ 0 → l.right ≡ true
  unfolding closed_rule first
  closed_right kept =
      by_cases (l.right ≡ true) (both (eqb l.says path.says_side) p.side)
      (λ (e : both (eqb l.says path.says_side) p.side ≡ true).
      not-false l.right (all_kept (11 when not l.right ∷ []) (omega arith, tt) (sym (lists_yes _ _ _ e) ∙ kept) 0))
      (λ (e : both (eqb l.says path.says_side) p.side ≡ false).
      let z : ◌≡◌ {A = ℕ} 12 0 = sym (lists_no _ _ _ e) ∙ kept in
      absurd (omega arith))

  line_right : path_rule l p steps ≡ 0 → l.right ≡ true
  line_right kept =
      by_cases (l.right ≡ true) (eqb p.stage path.closed)
      (λ (e : eqb p.stage path.closed ≡ true). closed_right (sym (path_closed l p steps e) ∙ kept))
      (λ (e : eqb p.stage path.closed ≡ false). not-false l.right (open_kept (sym (path_open_lem l p steps e) ∙ kept) 1))

  -- a closed path takes only a Side
  line_open : path_rule l p steps ≡ 0 → (l.says ≡ path.says_side → ⊥) → open_rule l p steps ≡ 0
  line_open kept n =
      by_cases (open_rule l p steps ≡ 0) (eqb p.stage path.closed)
      (λ (e : eqb p.stage path.closed ≡ true).
      let z : 12 ≡ 0 = closed_other l p n ∙ sym (path_closed l p steps e) ∙ kept in
      absurd (omega arith))
      (λ (e : eqb p.stage path.closed ≡ false). sym (path_open_lem l p steps e) ∙ kept)

-- some state of a path takes the line
record Ruled (content : List ℕ) : Type 0 where
  path : Path
  steps : ℕ
  kept : path_rule (path_line_of content) path steps ≡ 0

-- a Section line that breaks no rule
record SectionKept (content : List ℕ) : Type 0 where
  left : length (left_of content) ≡ 2
  right : length (right_of content) ≡ 2
  which : either (is_mult content) (same (second_of (left_of content)) (bytes "Len")) ≡ true
  formed : amount_formed (is_mult content) (first_of (right_of content)) ≡ true
  bounded : amount_bounded (is_mult content) (first_of (right_of content)) ≡ true

section_kept : (content : List ℕ) (x : PathLine) → x ≡ section_line content → x.right ≡ true → x.formed ≡ true → x.bounded ≡ true → SectionKept content
unfolding section_line plain_line is_section_line
section_kept content x is r f b =
    by_cases (SectionKept content) (is_section_line content)
    (λ (e : is_section_line content ≡ true).
    let s : both (both (eqb (length (left_of content)) 2) (eqb (length (right_of content)) 2)) _ ≡ true = both_second _ _ e in
    record {
      left = eqb-true _ _ (both_first _ _ (both_first _ _ s));
      right = eqb-true _ _ (both_second _ _ (both_first _ _ s));
      which = both_first _ _ (both_second _ _ s);
      formed = sym (ap (λ (y : PathLine). y.formed) (is ∙ if_true _ _ e)) ∙ f;
      bounded = sym (ap (λ (y : PathLine). y.bounded) (is ∙ if_true _ _ e)) ∙ b;
    })
    (λ (e : is_section_line content ≡ false).
    let z : false ≡ true = sym (ap (λ (y : PathLine). y.right) (is ∙ if_false _ _ e)) ∙ r in
    absurd (true≢false (sym z)))

module _ (content : List ℕ) (r : Ruled content) where
  abbrev says : ℕ
  says = saying_of (first_of (words content))

  right_said : (k : ℕ) → says ≡ k → (line_saying k content).right ≡ true
  unfolding path_line_of
  right_said k e = ap (λ (n : ℕ). (line_saying n content).right) (sym e) ∙ line_right (path_line_of content) r.path r.steps r.kept

  end_two : says ≡ path.says_end → length (words content) ≡ 2
  unfolding line_saying plain_line provided◌then◌else◌ either names_one
  end_two e = eqb-true _ _ (both_first _ _ (right_said path.says_end e))

  side_two : says ≡ path.says_side → length (words content) ≡ 2
  unfolding line_saying plain_line provided◌then◌else◌ either names_one
  side_two e = eqb-true _ _ (both_first _ _ (right_said path.says_side e))

  fork_one : says ≡ path.says_fork → length (words content) ≡ 1
  unfolding line_saying plain_line provided◌then◌else◌ either
  fork_one e = eqb-true _ _ (right_said path.says_fork e)

  endfork_one : says ≡ path.says_endfork → length (words content) ≡ 1
  unfolding line_saying plain_line provided◌then◌else◌ either
  endfork_one e = eqb-true _ _ (right_said path.says_endfork e)

  section_line_lem : says ≡ path.says_section → path_line_of content ≡ section_line content
  unfolding path_line_of line_saying provided◌then◌else◌
  section_line_lem e = rw e

  section_two : says ≡ path.says_section → SectionKept content
  section_two e =
      let n : (path_line_of content).says ≡ path.says_side → ⊥ =
      λ (z : (path_line_of content).says ≡ path.says_side). let y : path.says_section ≡ path.says_side = sym e ∙ sym (says_said content) ∙ z in omega arith in
      let o : open_rule (path_line_of content) r.path r.steps ≡ 0 = line_open (path_line_of content) r.path r.steps r.kept n in
      section_kept content (path_line_of content) (section_line_lem e) (not-false _ (open_kept (path_line_of content) r.path r.steps o 1))
      (not-false _ (open_kept (path_line_of content) r.path r.steps o 3)) (not-false _ (open_kept (path_line_of content) r.path r.steps o 4))

  -- it says one of the five things
  says_some : says ≡ path.says_nothing → ⊥
  says_some e =
      let z : (path_line_of content).says ≡ path.says_nothing = says_said content ∙ e in
      path_says (path_line_of content) r.path r.steps r.kept (ap (λ (n : ℕ). eqb n path.says_side) z) (ap (λ (n : ℕ). eqb n path.says_section) z)
      (ap (λ (n : ℕ). eqb n path.says_fork) z) (ap (λ (n : ℕ). eqb n path.says_end) z) (ap (λ (n : ℕ). eqb n path.says_endfork) z)

-- ---- lines of a path, and others

data Whether (l : Line) : Type 0 where
  inside : InPath l → saying_at l ≡ saying_of (first_of (words l.content)) → Whether l
  outside : (InPath l → ⊥) → saying_at l ≡ path.says_nothing → Whether l

said_inside : (l : Line) → InPath l → saying_at l ≡ saying_of (first_of (words l.content))
said_inside l i = saying_there l i.there i.keyless ∙ says_said l.content

whether : (l : Line) → Whether l
whether l =
    by_cases (Whether l) (eqb l.place place.path)
    (λ (e : eqb l.place place.path ≡ true).
    by_cases (Whether l) (eqb (key_of l) plain)
    (λ (k : eqb (key_of l) plain ≡ true).
    let i : InPath l = record { there = eqb-true _ _ e; keyless = eqb-true _ _ k } in
    inside i (said_inside l i))
    (λ (k : eqb (key_of l) plain ≡ false). outside (λ (i : InPath l). eqb-false _ _ k i.keyless) (saying_keyed l k)))
    (λ (e : eqb l.place place.path ≡ false). outside (λ (i : InPath l). eqb-false _ _ e i.there) (saying_elsewhere l (eqb-false _ _ e)))

-- a line of a path breaks no rule of it
abbrev Keeps : Line → Type 0
Keeps l = InPath l → Ruled l.content

moves_keeps : (l : Line) (s s' : State) → l.place ≡ s.place → Moves l s s' → Keeps l
moves_keeps l s s' e (idle i) h = absurd (eqb-false _ _ (idle_outside (λ (p : ℕ). eqb p place.path) refl refl l s e i) h.there)
moves_keeps l s s' e (keyed k kept) h = absurd (eqb-false _ _ k h.keyless)
moves_keeps l s s' e (plainly k kept) h =
    record { path = s.path; steps = s.counts.steps; kept = path_ruled l.content s (sym e ∙ h.there) kept }

goes_keeps : {s e : State} {ls : List Line} → Goes s ls e → Each Keeps ls
goes_keeps Goes.none = none
goes_keeps (Goes.more {s = s} {s' = s'} {l = l} p b m rest) = more (moves_keeps l s s' p m) (goes_keeps rest)

-- ---- the side

side_here : (l : Line) (ls : List Line) → Keeps l → saying_at l ≡ path.says_side → Whether l → SideBelow (l ∷ ls) (second_word (words_of l)).text
side_here l ls h e (inside i s) =
    let k : saying_of (first_of (words l.content)) ≡ path.says_side = sym s ∙ e in
    SideBelow.given i (named_words l (bytes "Side") (side_two l.content (h i) k) (side_word _ _ (what_says (first_of (words l.content))) k))
side_here l ls h e (outside o s) =
    let z : path.says_nothing ≡ path.says_side = sym s ∙ e in
    absurd (omega arith)

side_below : {ls : List Line} → Each Keeps ls → SideBelow ls (side_in ls).text
unfolding no_word
side_below none = SideBelow.none_below
side_below (more {x = l} {xs = ls} h hs) =
    by_test (λ (w : Word). SideBelow (l ∷ ls) w.text) (eqb (saying_at l) path.says_side) _ _
    (λ (e : eqb (saying_at l) path.says_side ≡ true). side_here l ls h (eqb-true _ _ e) (whether l))
    (λ (e : eqb (saying_at l) path.says_side ≡ false).
    SideBelow.not_given
    (λ (i : InPath l) (f : first_of (words l.content) ≡ bytes "Side"). eqb-false _ _ e (said_inside l i ∙ ap saying_of f ∙ side_says)))

-- ---- the steps

-- the step of the document, by what the line says
abbrev end_step : Line → List Line → Step
end_step l after = record { kind = end_kind; name = second_word (words_of l); mult = false; amount = 0; side = side_in after; line = l.line }

abbrev section_step : Line → Step
section_step l =
    record { kind = section_kind; name = second_word (right_words_of l); mult = is_mult l.content; amount = amount_of l.content; side = no_word; line = l.line }

abbrev fork_step : ℕ → Line → Step
fork_step kind l = record { kind = kind; name = no_word; mult = false; amount = 0; side = no_word; line = l.line }

module _ (l : Line) (after : List Line) where
  end_step_lem : saying_at l ≡ path.says_end → step_of l after ≡ end_step l after ∷ []
  unfolding step_of provided◌then◌else◌
  end_step_lem e = rw e

  section_step_lem : saying_at l ≡ path.says_section → step_of l after ≡ section_step l ∷ []
  unfolding step_of provided◌then◌else◌
  section_step_lem e = rw e

  fork_step_lem : saying_at l ≡ path.says_fork → step_of l after ≡ fork_step fork_kind l ∷ []
  unfolding step_of provided◌then◌else◌
  fork_step_lem e = rw e

  endfork_step : saying_at l ≡ path.says_endfork → step_of l after ≡ fork_step endfork_kind l ∷ []
  unfolding step_of provided◌then◌else◌
  endfork_step e = rw e

  side_step : saying_at l ≡ path.says_side → step_of l after ≡ []
  unfolding step_of provided◌then◌else◌
  side_step e = rw e

-- ---- the amount

number_value : (x : Number) → is_formed x ≡ true → is_length x ≡ true → x ≡ Ok (word_in x)
number_value (Ok w) f b = refl
number_value (Err Malformed) f b = absurd (true≢false (sym f))
number_value (Err Range) f b = absurd (true≢false (sym b))

module _ (content : List ℕ) (k : SectionKept content) where
  module _ (m : is_mult content ≡ true) where
    mult_amount : amount_of content ≡ unwrap_or (whole_of (first_of (right_of content))) 0
    unfolding amount_of
    mult_amount = if_true _ _ m

    mult_formed : is_some (whole_of (first_of (right_of content))) ≡ true
    unfolding amount_formed
    mult_formed = sym (if_true _ _ m) ∙ k.formed

    mult_second : second_of (left_of content) ≡ bytes "Mult"
    unfolding is_mult
    mult_second = same_equal _ _ m

  module _ (m : is_mult content ≡ false) where
    len_amount : amount_of content ≡ word_in (number_of (first_of (right_of content)))
    unfolding amount_of
    len_amount = if_false _ _ m

    len_value : number_of (first_of (right_of content)) ≡ Ok (word_in (number_of (first_of (right_of content))))
    unfolding amount_formed amount_bounded
    len_value = number_value (number_of (first_of (right_of content))) (sym (if_false _ _ m) ∙ k.formed) (sym (if_false _ _ m) ∙ k.bounded)

    len_second : second_of (left_of content) ≡ bytes "Len"
    len_second = same_equal _ _ (sym (either_rest _ _ m) ∙ k.which)

module _ (l : Line) (below : List Line) (k : SectionKept l.content) (f : first_of (words l.content) ≡ bytes "Section") where
  left_words : (w : List ℕ) → second_of (left_of l.content) ≡ w → left_of l.content ≡ bytes "Section" ∷ w ∷ []
  left_words w e =
      two_words (left_of l.content) (bytes "Section") k.left (ap first_of (left_by_words l.content) ∙ left_section (words l.content) f)
      ∙ ap (λ (x : List ℕ). bytes "Section" ∷ x ∷ []) e

  right_words : right_of l.content ≡ first_of (right_of l.content) ∷ (second_word (right_words_of l)).text ∷ []
  right_words =
      two_words (right_of l.content) (first_of (right_of l.content)) k.right refl
      ∙ ap (λ (x : List ℕ). first_of (right_of l.content) ∷ x ∷ []) (sym (right_second l))

  section_writes : WritesStep l below (path_step_of (section_step l))
  unfolding no_word
  section_writes =
      by_cases (WritesStep l below (path_step_of (section_step l))) (is_mult l.content)
      (λ (m : is_mult l.content ≡ true).
      rw (mult_amount l.content k m)
      (WritesStep.section_mult (left_words (bytes "Mult") (mult_second l.content k m)) right_words (mult_formed l.content k m)))
      (λ (m : is_mult l.content ≡ false).
      rw (len_amount l.content k m)
      (WritesStep.section_len (left_words (bytes "Len") (len_second l.content k m)) right_words (len_value l.content k m)))

-- ---- the path

module _ (l : Line) (ls : List Line) (i : InPath l) (r : Ruled l.content) (below : Each Keeps ls) (steps : List Step) (later : PathWritten ls (map path_step_of steps)) where
  line_inside : Saying (first_of (words l.content)) (saying_of (first_of (words l.content))) → PathWritten (l ∷ ls) (map path_step_of (step_of l ls ++ steps))
  unfolding no_word
  line_inside (is_section_lem k f) =
      rw (section_step_lem l ls (said_inside l i ∙ k)) (PathWritten.next_step i (section_writes l ls (section_two l.content r k) f) later)
  line_inside (is_fork k f) =
      rw (fork_step_lem l ls (said_inside l i ∙ k)) (PathWritten.next_step i (WritesStep.fork (one_word _ _ (fork_one l.content r k) f)) later)
  line_inside (is_endfork k f) =
      rw (endfork_step l ls (said_inside l i ∙ k)) (PathWritten.next_step i (WritesStep.endfork (one_word _ _ (endfork_one l.content r k) f)) later)
  line_inside (is_end_lem k f) =
      rw (end_step_lem l ls (said_inside l i ∙ k))
      (PathWritten.next_step i (WritesStep.model_pinmap (named_words l (bytes "Model_pinmap") (end_two l.content r k) f) (side_below below)) later)
  line_inside (is_side_lem k f) =
      rw (side_step l ls (said_inside l i ∙ k)) (PathWritten.side_line i (named_words l (bytes "Side") (side_two l.content r k) f) later)
  line_inside (is_nothing k) = absurd (says_some l.content r k)

line_written :
    (l : Line) (ls : List Line) → Keeps l → Each Keeps ls → (steps : List Step) → PathWritten ls (map path_step_of steps) → Whether l →
    PathWritten (l ∷ ls) (map path_step_of (step_of l ls ++ steps))
line_written l ls h hs steps later (inside i s) = line_inside l ls i (h i) hs steps later (what_says (first_of (words l.content)))
line_written l ls h hs steps later (outside o s) = rw (silent_step l ls s) (PathWritten.outside_path o later)

lines_written : {ls : List Line} → Each Keeps ls → PathWritten ls (map path_step_of (gather step_of ls))
unfolding gather
lines_written none = PathWritten.no_line
lines_written (more {x = l} {xs = ls} h hs) = line_written l ls h hs (gather step_of ls) (lines_written hs) (whether l)

-- ---- the models

module _ (t : List ℕ) where
  model_written :
      (before : List Line) (l : Line) (ls : List Line) → significant t ≡ before ++ (l ∷ ls) → Each Keeps ls → Each (PathWrittenBy t) (model_at l ls)
  unfolding model_at model_of steps_in
  model_written before l ls here hs =
      each_if (opens_model l) _
      (λ (e : opens_model l ≡ true).
      record {
        before = before;
        line = l;
        after = ls;
        stands = here;
        opens = e;
        named = refl;
        numbered = refl;
        steps = lines_written (each_up in_model hs);
      })

  models_written : (before ls : List Line) → significant t ≡ before ++ ls → Each Keeps ls → Each (PathWrittenBy t) (gather model_at ls)
  unfolding gather
  models_written before [] here none = none
  models_written before (l ∷ ls) here (more h hs) =
      each_append (model_written before l ls here hs) (models_written (before ++ (l ∷ [])) ls (here ∙ sym (append_assoc before (l ∷ []) ls)) hs)

-- for every model of a text that breaks no rule of the reading
pub paths_written : (t : List ℕ) (c : Counts) → reading_of t ≡ Read c → Each (PathWrittenBy t) (document_of t).models
unfolding document_of document_in
paths_written t c read = models_written t [] (significant t) refl (goes_keeps (text_ends t c read).goes)
