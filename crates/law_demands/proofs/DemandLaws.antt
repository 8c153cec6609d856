-- The first and the second demand hold for every outcome that satisfies the intake's contract, and two such outcomes are equal.
-- Assumes nothing.
use mathlib.Core.Path.{◌≡◌, refl, sym, ◌∙◌, ap}
use mathlib.Core.Bool.{Bool, true, false, true≢false}
use mathlib.Core.List.{List}
use Prim.Native.Nat.{ℕ}
use lib.ListN.{length}
use Rattle.doc.specs.Records.{table_of}
use Rattle.intake.specs.Verdict.{Outcome, accepted_with, refused_by, answer_words, verdict_of, table_for, Conforms}
use Rattle.intake.specs.declared.Answer.{Answer}
use Rattle.intake.specs.declared.Answer.TheVariants.{Accepted, Refused}
use Rattle.intake.proofs.IntakeLaws.{zeros_refused, layout_accepted}
use Rattle.law_demands.specs.RuleBook.{Broken, First}
use Rattle.law_demands.specs.Demands.{Demanded}
use Rattle.law_demands.proofs.VerdictLaws.{Decided, accepts, refuses, decided}

-- ---- answers and the paper's words for them

-- the answer that has these words
abbrev answer_of : Bool → Outcome → Answer
answer_of true o = Accepted o.used
answer_of false o = Refused o.rule o.line

answer_back : (a : Answer) → answer_of (answer_words a).accepted (answer_words a) ≡ a
answer_back (Accepted words) = refl
answer_back (Refused number line) = refl

same_answer : (a b : Answer) → answer_words a ≡ answer_words b → a ≡ b
same_answer a b e = sym (answer_back a) ∙ ap (λ (o : Outcome). answer_of o.accepted o) e ∙ answer_back b

-- ---- by the results of the stages

module _ (t : List ℕ) (size : ℕ) where
  decided_accepted : (o : Outcome) → Decided t size o → (words : ℕ) → accepted_with words ≡ o → ((g number line : ℕ) → Broken t size g number line → ⊥) × (words ≡ length (table_of t))
  decided_accepted _ (accepts kept) words e = (kept, ap (λ (o : Outcome). o.used) e)
  decided_accepted _ (refuses g number line f) words e = absurd (true≢false (ap (λ (o : Outcome). o.accepted) e))

  decided_refused : (o : Outcome) → Decided t size o → (number line : ℕ) → refused_by number line ≡ o → (g : ℕ) × First t size g number line
  decided_refused _ (accepts kept) number line e = absurd (true≢false (sym (ap (λ (o : Outcome). o.accepted) e)))
  decided_refused _ (refuses g k m f) number line e = (g, rw (ap (λ (o : Outcome). o.rule) e, ap (λ (o : Outcome). o.line) e) f)

  decided_kept : (o : Outcome) → Decided t size o → ((g number line : ℕ) → Broken t size g number line → ⊥) → o ≡ accepted_with (length (table_of t))
  decided_kept _ (accepts kept) h = refl
  decided_kept _ (refuses g number line f) h = absurd (h g number line f.found)

module _ (t before : List ℕ) (answer : Answer) (after : List ℕ) (conforms : Conforms t before answer after) where
  told : (o : Outcome) → answer_words answer ≡ o → o ≡ verdict_of t (length before)
  told o e = sym e ∙ conforms.answers

  left : (o : Outcome) → answer_words answer ≡ o → after ≡ table_for t (length before) o
  left o e = conforms.leaves ∙ ap (table_for t (length before)) e

  pub demanded : Demanded t before answer after
  demanded =
      record {
        accepted_unbroken = λ words e. (decided_accepted t (length before) (verdict_of t (length before)) (decided t (length before)) words (told (accepted_with words) (ap answer_words e))).0;
        unbroken_accepted = λ h. same_answer answer (Accepted (length (table_of t))) (conforms.answers ∙ decided_kept t (length before) (verdict_of t (length before)) (decided t (length before)) h);
        refused_first = λ number line e. decided_refused t (length before) (verdict_of t (length before)) (decided t (length before)) number line (told (refused_by number line) (ap answer_words e));
        refused_zeros = λ number line e. left (refused_by number line) (ap answer_words e) ∙ zeros_refused t (length before) number line;
        accepted_holds = λ words e. left (accepted_with words) (ap answer_words e) ∙ layout_accepted t (length before) words;
        words_used = λ words e. (decided_accepted t (length before) (verdict_of t (length before)) (decided t (length before)) words (told (accepted_with words) (ap answer_words e))).1;
      }

-- "Each public function's promise leaves .. one possible answer and table"
pub one_outcome : (t before : List ℕ) (a b : Answer) (after other : List ℕ) → Conforms t before a after → Conforms t before b other → (a ≡ b) × (after ≡ other)
one_outcome t before a b after other h k =
    let e : answer_words a ≡ answer_words b = h.answers ∙ sym k.answers in
    (same_answer a b e, h.leaves ∙ ap (table_for t (length before)) e ∙ sym k.leaves)
