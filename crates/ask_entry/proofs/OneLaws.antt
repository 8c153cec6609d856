-- Laws of the question for a whole matrix: its promise leaves one answer. The words of `Short 0` and of `Refused 0` are the same, and
-- neither is ever promised.
-- Assumes nothing.
use mathlib.Core.Path.{◌≡◌, sym, ◌∙◌, ap}
use mathlib.Core.Bool.{true, false, true≢false}
use mathlib.Core.List.{List}
use Prim.Native.Nat.{ℕ, zero, suc, ◌*◌}
use native.Mathlib.Nat.{not-suc-le-zero}
use native.Mathlib.Omega.{arith}
use lib.Dec.{ltb}
use borrow.Author.Tests.{ltb-true}
use Rattle.base.specs.Refusal as refusal
use Rattle.base.proofs.IfLaws.{by_test}
use Rattle.ask_entry.specs.WholeMatrix.{MatrixWords, whole_words, matrix_from, matrix_answer}
use Rattle.ask_entry.specs.declared.WholeAnswer.{WholeAnswer}
use Rattle.ask_entry.specs.declared.WholeAnswer.TheVariants.{Found, Short, Refused}

-- words that tell apart a short room and a refusal
abbrev Clear : MatrixWords → Type 0
Clear w = w.found ≡ false → w.rule ≡ 0 → w.conductors ≡ 0 → ⊥

-- a room is too short only for an N above 0
short_clear : (room n : ℕ) → ltb room (n * n) ≡ true → n ≡ 0 → ⊥
short_clear room zero e z = not-suc-le-zero (ltb-true room 0 e)
short_clear room (suc n) e z = omega arith

answer_clear : (t table : List ℕ) (section kind room : ℕ) → Clear (matrix_answer t table section kind room)
unfolding matrix_answer matrix_from
answer_clear t table section kind room =
    by_test Clear _ _ _ (λ u f (z : refusal.table ≡ 0) n. omega arith)
    (λ u. by_test Clear _ _ _ (λ v f (z : refusal.no_such ≡ 0) n. omega arith)
    (λ v. by_test Clear _ _ _ (λ e f z n. short_clear room _ e n) (λ e f z n. absurd (true≢false f))))

one_of : (w : MatrixWords) → Clear w → (a b : WholeAnswer) → whole_words a ≡ w → whole_words b ≡ w → a ≡ b
one_of w clear (Found x) (Found y) e f = ap (λ (v : MatrixWords). Found v.conductors) (e ∙ sym f)
one_of w clear (Found x) (Short y) e f = absurd (true≢false (ap (λ (v : MatrixWords). v.found) (e ∙ sym f)))
one_of w clear (Found x) (Refused y) e f = absurd (true≢false (ap (λ (v : MatrixWords). v.found) (e ∙ sym f)))
one_of w clear (Short x) (Found y) e f = absurd (true≢false (ap (λ (v : MatrixWords). v.found) (f ∙ sym e)))
one_of w clear (Short x) (Short y) e f = ap (λ (v : MatrixWords). Short v.conductors) (e ∙ sym f)
one_of w clear (Short x) (Refused y) e f =
    absurd (clear (sym (ap (λ (v : MatrixWords). v.found) e)) (sym (ap (λ (v : MatrixWords). v.rule) e)) (sym (ap (λ (v : MatrixWords). v.conductors) f)))
one_of w clear (Refused x) (Found y) e f = absurd (true≢false (ap (λ (v : MatrixWords). v.found) (f ∙ sym e)))
one_of w clear (Refused x) (Short y) e f =
    absurd (clear (sym (ap (λ (v : MatrixWords). v.found) e)) (sym (ap (λ (v : MatrixWords). v.rule) f)) (sym (ap (λ (v : MatrixWords). v.conductors) e)))
one_of w clear (Refused x) (Refused y) e f = ap (λ (v : MatrixWords). Refused v.rule) (e ∙ sym f)

-- any two answers that keep the promise are the same
pub one_whole : (t table : List ℕ) (section kind room : ℕ) (a b : WholeAnswer) →
    whole_words a ≡ matrix_answer t table section kind room → whole_words b ≡ matrix_answer t table section kind room → a ≡ b
one_whole t table section kind room a b = one_of (matrix_answer t table section kind room) (answer_clear t table section kind room) a b
