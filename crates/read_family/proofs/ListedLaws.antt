-- Laws of the place of the model list: no line above it has one of its names.
-- Assumes nothing.
use mathlib.Core.Path.{◌≡◌, refl, sym, ◌∙◌, ap}
use mathlib.Core.Bool.{true, false}
use mathlib.Core.List.{List, [], ◌∷◌, ◌++◌, append_assoc}
use Prim.Native.Nat.{ℕ, ◌+◌, ◌≤◌}
use native.Mathlib.Omega.{arith}
use lib.Dec.{eqb}
use lib.ListN.{length}
use borrow.Author.Tests.{ne_eqb, eqb-true, eqb-false}
use Rattle.base.proofs.IfLaws.{if_true, if_false, by_cases, both_not_left}
use Rattle.line_place.specs.Place as place
use Rattle.line_keyword.specs.State.{start_state}
use Rattle.line_keyword.specs.declared.State.{State}
use Rattle.doc.specs.Lines.{Line, lines_at, significant, gather, stands_in}
use Rattle.doc.specs.Document.{listed_at, document_in, document_of}
use Rattle.doc.specs.Way.Found.{IsPlain, Plainly, cursor_start}
use Rattle.doc.specs.Way.Staged.{ListsFrom}
use Rattle.doc.specs.declared.Cursor.{Cursor}
use Rattle.doc.proofs.PlainLaws.{plainly_quiet}
use Rattle.doc.proofs.GatherLaws.{gather_quiet}
use Rattle.read_family.specs.Way.Family.{Passes, followed, Follows}

-- ---- lines that are passed

unlisted_line : (l : Line) (after : List Line) → (l.place ≡ place.list → ⊥) → listed_at l after ≡ []
unfolding listed_at stands_in
unlisted_line l after away = if_false _ _ (both_not_left _ _ (ne_eqb _ _ away))

module _ (p : ℕ) (ls rest : List Line) where
  pub passes_plainly : Plainly p ls rest → Passes p ls rest
  passes_plainly h =
      record {
        passed = h.before;
        all = h.all;
        unlisted =
            λ (away : p ≡ place.list → ⊥).
            plainly_quiet p listed_at
            (λ (l : Line) (after : List Line) (k : IsPlain p l).
            unlisted_line l after (λ (e : l.place ≡ place.list). away (sym k.place_is ∙ e))) ls rest h;
      }

  pub passes_none : ls ≡ rest → Passes p ls rest
  passes_none e = record { passed = []; all = e; unlisted = λ away. ap (gather listed_at) e }

  pub passes_line : (l : Line) → l.place ≡ p → ls ≡ l ∷ rest → Passes p ls rest
  passes_line l is e =
      record {
        passed = l ∷ [];
        all = e;
        unlisted =
            λ (away : p ≡ place.list → ⊥).
            ap (gather listed_at) e ∙ gather_quiet listed_at l rest (unlisted_line l rest (λ (k : l.place ≡ place.list). away (sym is ∙ k)));
      }

-- ---- from line to line

pub follows_start : (t : List ℕ) (c : Cursor) → c ≡ cursor_start → (s : State) → s ≡ start_state → Follows t c (record { at = 0; line = 1; place = s.place })
unfolding cursor_start start_state significant document_of document_in
follows_start t c is s is_start =
    rw (is, is_start)
    (record {
      lists = record { passed = []; all = refl; listed = refl; within = omega arith; counted = omega arith };
      above = λ away. refl;
    })

module _ (t : List ℕ) (c here next : Cursor) (follows : Follows t c here) where
  reached : (c.place ≡ place.list → ⊥) → Passes here.place (lines_at t here.line here.at here.place) (lines_at t next.line next.at next.place) →
      next.at ≤ length t → next.line ≤ next.at + 1 → ListsFrom t next
  reached away passes within counted =
      let is : c ≡ here = follows.above away in
      let lists : ListsFrom t here = rw is at follows.lists in
      record {
        passed = lists.passed ++ passes.passed;
        all = lists.all ∙ ap (λ (ls : List Line). lists.passed ++ ls) passes.all ∙ sym (append_assoc lists.passed passes.passed _);
        listed = lists.listed ∙ passes.unlisted (λ (e : here.place ≡ place.list). away (ap (λ (x : Cursor). x.place) is ∙ e));
        within = within;
        counted = counted;
      }

  pub follows_on :
      Passes here.place (lines_at t here.line here.at here.place) (lines_at t next.line next.at next.place) →
      next.at ≤ length t → next.line ≤ next.at + 1 → (c' : Cursor) → c' ≡ followed c next → Follows t c' next
  unfolding followed
  follows_on passes within counted c' is =
      by_cases _ (eqb c.place place.list)
      (λ (e : eqb c.place place.list ≡ true).
      rw (is, if_true c next e) (record { lists = follows.lists; above = λ (away : c.place ≡ place.list → ⊥). absurd (away (eqb-true _ _ e)) }))
      (λ (e : eqb c.place place.list ≡ false).
      rw (is, if_false c next e) (record { lists = reached (eqb-false _ _ e) passes within counted; above = λ away. refl }))
