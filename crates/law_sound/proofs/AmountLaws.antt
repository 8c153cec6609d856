-- The words of every step of a text that breaks no rule of the reading: the amount of a Section is a Mult of 1 to
-- 65,535 or a Len above zero, other steps have none, and only an end has a side.
-- Assumes nothing.
use mathlib.Core.Path.{◌≡◌, refl, sym, ◌∙◌, ap}
use mathlib.Core.Bool.{true, false, not, true≢false}
use mathlib.Core.List.{List, [], ◌∷◌}
use Prim.Native.Nat.{ℕ, ◌≤◌}
use native.Mathlib.Omega.{arith}
use lib.ListN.{get_or}
use lib.Dec.{eqb, leb}
use borrow.Author.Tests.{eq-eqb, eqb-true, eqb-false, not-false}
use Rattle.table_layout.specs.Codes.{end_kind, section_kind, fork_kind, endfork_kind}
use Rattle.table_layout.specs.Bounds.{most_steps, most_mult}
use Rattle.base.specs.If.{both}
use Rattle.base.specs.Bytes.{within}
use Rattle.base.specs.Broken.{Rule, ◌when◌}
use Rattle.base.proofs.IfLaws.{if_true, if_false, by_test, by_cases, both_true}
use Rattle.base.proofs.BrokenLaws.{sound, all_kept}
use Rattle.lex_line.specs.Words.{first_of, right_of}
use Rattle.lex_number.specs.Number.{number_of, is_formed, word_in, Number}
use Rattle.std.proofs.Common.{Ok, Err}
use Rattle.lex_number.specs.declared.NumberError.TheVariants.{Malformed, Range}
use Rattle.lex_number.proofs.NumberLaws.{number_word}
use Rattle.lex_number.proofs.IntegerLaws.{whole_within}
use Rattle.line_place.specs.Place as place
use Rattle.line_path.specs.Path.{plain_line, is_mult, is_section_line, amount_formed, amount_bounded, section_line, line_saying, path_line_of, closed, is_bad_fork, is_path_out_of_order, is_step_line, amount_of}
use Rattle.line_path.specs.Path as path
use Rattle.line_path.specs.declared.Path.{Path}
use Rattle.line_path.specs.declared.PathLine.{PathLine}
use Rattle.line_path.proofs.RuleLaws.{closed_other, path_closed, path_open_lem}
use Rattle.line_path.specs.Way.Rule.{open_rule, path_rule}
use Rattle.line_keyword.specs.declared.Counts.{Counts}
use Rattle.line_keyword.specs.declared.State.{State}
use Rattle.read_line.specs.Reading.{reading_of}
use Rattle.read_line.specs.declared.Reading.TheVariants.{Read}
use Rattle.doc.specs.Lines.{Line, no_word, second_word, words_of, right_words_of}
use Rattle.doc.specs.Document.{Model, saying_at, side_in, step_of, steps_in, opens_model, in_model, model_of, model_at, document_in, document_of}
use Rattle.doc.specs.Holds.{Each}
use Rattle.doc.specs.Holds.Each.{none, more}
use Rattle.doc.proofs.Goes.{Goes, Moves, idle_outside, text_ends}
use Rattle.doc.proofs.Goes.Moves.{idle, plainly, keyed}
use Rattle.doc.proofs.StepLaws.{says_said, saying_there, saying_elsewhere, saying_keyed, path_ruled}
use Rattle.doc.proofs.StandsLaws.{each_gather, each_if, each_up}
use Rattle.ask_sound.specs.Tests.{is_length_word}
use Rattle.law_sound.proofs.Bounds.{RightStep}

-- ---- the amount of a line that breaks no rule

pub record Amount (content : List ℕ) : Type 0 where
  pub mult : is_mult content ≡ true → within 1 most_mult (amount_of content) ≡ true
  pub long : is_mult content ≡ false → is_length_word (amount_of content) ≡ true

-- the value word of a number above zero is a value word above zero
length_word : (w : List ℕ) (x : Number) → number_of w ≡ x → is_formed x ≡ true → path.is_length x ≡ true → is_length_word (word_in x) ≡ true
unfolding is_length_word
length_word w (Ok v) e f b = both_true _ _ (number_word w v e) b
length_word w (Err Malformed) e f b = absurd (true≢false (sym f))
length_word w (Err Range) e f b = absurd (true≢false (sym b))

amount_told :
    (content : List ℕ) → amount_formed (is_mult content) (first_of (right_of content)) ≡ true →
    amount_bounded (is_mult content) (first_of (right_of content)) ≡ true → Amount content
unfolding amount_formed amount_bounded amount_of
amount_told content f b =
    record {
      mult = λ (m : is_mult content ≡ true). ap (within 1 most_mult) (if_true _ _ m) ∙ sym (whole_within 1 most_mult _ (sym (if_true _ _ m) ∙ f)) ∙ sym (if_true _ _ m) ∙ b;
      long =
          λ (m : is_mult content ≡ false).
          ap is_length_word (if_false _ _ m)
          ∙ length_word (first_of (right_of content)) (number_of (first_of (right_of content))) refl (sym (if_false _ _ m) ∙ f) (sym (if_false _ _ m) ∙ b);
    }

section_told :
    (content : List ℕ) → (section_line content).right ≡ true → (section_line content).formed ≡ true → (section_line content).bounded ≡ true →
    Amount content
unfolding section_line plain_line
section_told content r f b =
    by_cases (Amount content) (is_section_line content)
    (λ (e : is_section_line content ≡ true).
    amount_told content (sym (ap (λ (x : PathLine). x.formed) (if_true _ _ e)) ∙ f)
    (sym (ap (λ (x : PathLine). x.bounded) (if_true _ _ e)) ∙ b))
    (λ (e : is_section_line content ≡ false).
    let z : false ≡ true = sym (ap (λ (x : PathLine). x.right) (if_false _ _ e)) ∙ r in
    absurd (true≢false (sym z)))

module _ (l : PathLine) (p : Path) (steps : ℕ) (kept : path_rule l p steps ≡ 0) (says : l.says ≡ path.says_section) where
  -- a closed path takes no Section
  open_kept : open_rule l p steps ≡ 0
  open_kept =
      by_cases _ (eqb p.stage closed)
      (λ (e : eqb p.stage closed ≡ true).
      let z : 12 ≡ 0 = closed_other l p (λ (s : l.says ≡ path.says_side). omega arith) ∙ sym (path_closed l p steps e) ∙ kept in
      absurd (omega arith))
      (λ (e : eqb p.stage closed ≡ false). sym (path_open_lem l p steps e) ∙ kept)

  abbrev tests : List Rule
  tests =
      15 when is_bad_fork l p
      ∷ 11 when not l.right
      ∷ 12 when is_path_out_of_order l p
      ∷ 13 when not l.formed
      ∷ 14 when not l.bounded
      ∷ 17 when both (is_step_line l) (leb most_steps steps)
      ∷ []

  test_kept : (i : ℕ) → (get_or tests i sound).broken ≡ false
  unfolding open_rule
  test_kept i =
      all_kept tests (omega arith, (omega arith, (omega arith, (omega arith, (omega arith, (omega arith, tt)))))) open_kept i

section_is : (content : List ℕ) → (path_line_of content).says ≡ path.says_section → path_line_of content ≡ section_line content
unfolding path_line_of line_saying
section_is content e = if_true _ _ (eq-eqb _ _ (sym (says_said content) ∙ e))

line_amount :
    (content : List ℕ) (p : Path) (steps : ℕ) → path_rule (path_line_of content) p steps ≡ 0 → (path_line_of content).says ≡ path.says_section →
    Amount content
line_amount content p steps kept says =
    let e : path_line_of content ≡ section_line content = section_is content says in
    section_told content
    (ap (λ (x : PathLine). x.right) (sym e) ∙ not-false _ (test_kept (path_line_of content) p steps kept says 1))
    (ap (λ (x : PathLine). x.formed) (sym e) ∙ not-false _ (test_kept (path_line_of content) p steps kept says 3))
    (ap (λ (x : PathLine). x.bounded) (sym e) ∙ not-false _ (test_kept (path_line_of content) p steps kept says 4))

-- ---- every line

-- a line that says Section has an amount
abbrev Amounts : Line → Type 0
Amounts l = saying_at l ≡ path.says_section → Amount l.content

silent : (l : Line) → saying_at l ≡ path.says_nothing → Amounts l
silent l e h = let z : path.says_nothing ≡ path.says_section = sym e ∙ h in absurd (omega arith)

moves_amount : (l : Line) (s s' : State) → l.place ≡ s.place → Moves l s s' → Amounts l
moves_amount l s s' e (idle i) =
    silent l (saying_elsewhere l (eqb-false _ _ (idle_outside (λ (p : ℕ). eqb p place.path) refl refl l s e i)))
moves_amount l s s' e (keyed k kept) = silent l (saying_keyed l k)
moves_amount l s s' e (plainly k kept) =
    by_cases (Amounts l) (eqb l.place place.path)
    (λ (t : eqb l.place place.path ≡ true) (h : saying_at l ≡ path.says_section).
    let there : l.place ≡ place.path = eqb-true _ _ t in
    line_amount l.content s.path s.counts.steps (path_ruled l.content s (sym e ∙ there) kept)
    (sym (saying_there l there k) ∙ h))
    (λ (t : eqb l.place place.path ≡ false). silent l (saying_elsewhere l (eqb-false _ _ t)))

goes_amounts : {s e : State} {ls : List Line} → Goes s ls e → Each Amounts ls
goes_amounts Goes.none = none
goes_amounts (Goes.more {s = s} {s' = s'} {l = l} p b m rest) = more (moves_amount l s s' p m) (goes_amounts rest)

-- ---- the steps

end_right : (l : Line) (after : List Line) →
    RightStep (record { kind = end_kind; name = second_word (words_of l); mult = false; amount = 0; side = side_in after; line = l.line })
end_right l after =
    record {
      kind = omega arith;
      mult = λ (k : end_kind ≡ section_kind). absurd (omega arith);
      long = λ (k : end_kind ≡ section_kind). absurd (omega arith);
      amountless = λ (k : end_kind ≡ section_kind → ⊥). refl;
      sideless = λ (k : end_kind ≡ end_kind → ⊥). absurd (k refl);
    }

section_right : (l : Line) → Amount l.content →
    RightStep (record { kind = section_kind; name = second_word (right_words_of l); mult = is_mult l.content; amount = amount_of l.content; side = no_word; line = l.line })
section_right l a =
    record {
      kind = omega arith;
      mult = λ (k : section_kind ≡ section_kind). a.mult;
      long = λ (k : section_kind ≡ section_kind). a.long;
      amountless = λ (k : section_kind ≡ section_kind → ⊥). absurd (k refl);
      sideless = λ (k : section_kind ≡ end_kind → ⊥). refl;
    }

fork_right : (kind line : ℕ) → 2 ≤ kind → kind ≤ 3 →
    RightStep (record { kind = kind; name = no_word; mult = false; amount = 0; side = no_word; line = line })
fork_right kind line h g =
    record {
      kind = omega arith;
      mult = λ (k : kind ≡ section_kind). absurd (omega arith);
      long = λ (k : kind ≡ section_kind). absurd (omega arith);
      amountless = λ (k : kind ≡ section_kind → ⊥). refl;
      sideless = λ (k : kind ≡ end_kind → ⊥). refl;
    }

step_right : (l : Line) (ls : List Line) → Amounts l → Each Amounts ls → Each RightStep (step_of l ls)
unfolding step_of
step_right l ls h hs =
    by_test (Each RightStep) (eqb (saying_at l) path.says_end) _ _ (λ (e : eqb (saying_at l) path.says_end ≡ true). more (end_right l ls) none)
    (λ (e : eqb (saying_at l) path.says_end ≡ false).
    by_test (Each RightStep) (eqb (saying_at l) path.says_section) _ _
    (λ (f : eqb (saying_at l) path.says_section ≡ true). more (section_right l (h (eqb-true _ _ f))) none)
    (λ (f : eqb (saying_at l) path.says_section ≡ false).
    by_test (Each RightStep) (eqb (saying_at l) path.says_fork) _ _
    (λ (g : eqb (saying_at l) path.says_fork ≡ true). more (fork_right fork_kind l.line (omega arith) (omega arith)) none)
    (λ (g : eqb (saying_at l) path.says_fork ≡ false).
    each_if (eqb (saying_at l) path.says_endfork) _
    (λ (k : eqb (saying_at l) path.says_endfork ≡ true). fork_right endfork_kind l.line (omega arith) (omega arith)))))

model_steps : (l : Line) (ls : List Line) → Amounts l → Each Amounts ls → Each (λ (m : Model). Each RightStep m.steps) (model_at l ls)
unfolding model_at model_of steps_in
model_steps l ls h hs =
    each_if (opens_model l) _ (λ (e : opens_model l ≡ true). each_gather Amounts step_of step_right (each_up in_model hs))

pub text_steps : (t : List ℕ) (c : Counts) → reading_of t ≡ Read c → Each (λ (m : Model). Each RightStep m.steps) (document_of t).models
unfolding document_of document_in
text_steps t c read = each_gather Amounts model_at model_steps (goes_amounts (text_ends t c read).goes)
