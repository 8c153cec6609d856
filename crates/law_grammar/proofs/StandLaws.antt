-- The five ways in which the reading of a path can stand, and where a line leads from each. A line breaks no rule exactly
-- when it leads somewhere, is right in itself and does not pass the bound of steps.
-- Assumes nothing.
use Prim.Native.Nat.{ℕ, zero, suc, ◌≤◌, ◌<◌}
use mathlib.Core.Path.{◌≡◌, refl, sym, ◌∙◌, ap}
use mathlib.Core.Bool.{Bool, true, false, not, true≢false}
use mathlib.Core.List.{[], ◌∷◌}
use native.Mathlib.Omega.{arith}
use lib.ListN.{get_or}
use lib.Dec.{leb, eqb, eqb-suc-zero}
use borrow.Author.Tests.{eq-eqb, ne_eqb, eqb-true, leb-false, lt-leb, not-false}
use Rattle.table_layout.specs.Bounds.{deepest, most_steps}
use Rattle.base.specs.If.{provided◌then◌else◌, both, either}
use Rattle.base.specs.Broken.{◌when◌, first, first_broken}
use Rattle.base.specs.Refusal as refusal
use Rattle.base.proofs.IfLaws.{if_false, by_cases, both_true, both_rest, both_not_left, both_not_right, both_first, both_second, either_false, either_none_first, not_not_via}
use Rattle.base.proofs.BrokenLaws.{first_kept, lists_yes, lists_no, sound, all_kept}
use Rattle.line_path.specs.Path.{
  says_end,
  says_side,
  says_section,
  says_fork,
  says_endfork,
  starting,
  started,
  items,
  closed,
  new_path,
  is_bad_fork,
  is_path_out_of_order,
  is_step_line,
  open_rules,
  closed_rules,
  path_rules,
  with_end,
  path_next,
  path_open,
  path_lacks,
}
use Rattle.line_path.specs.declared.Path.{Path}
use Rattle.line_path.specs.declared.PathLine.{PathLine}
use Rattle.law_grammar.specs.Way.Accepted.{IsRight}

-- before the first end; before the first Section; among the items of a depth; behind the end of a block; behind the last
-- end. The bool says whether a Side may come next
pub data Stand : Type 0 where
  fresh : Stand
  begun : Bool → Stand
  among : ℕ → Stand
  ended : ℕ → Bool → Stand
  done : Bool → Stand

abbrev pub path_at : Stand → Path
path_at fresh = record { stage = starting; depth = 0; ended = false; side = false }
path_at (begun side) = record { stage = started; depth = 0; ended = false; side = side }
path_at (among depth) = record { stage = items; depth = depth; ended = false; side = false }
path_at (ended depth side) = record { stage = items; depth = suc depth; ended = true; side = side }
path_at (done side) = record { stage = closed; depth = 0; ended = false; side = side }

-- where what a line says leads
pub data Moves : Stand → ℕ → Stand → Type 0 where
  first_end_lem : Moves fresh says_end (begun true)
  first_side : Moves (begun true) says_side (begun false)
  first_section : {side : Bool} → Moves (begun side) says_section (among 0)
  section : {depth : ℕ} → Moves (among depth) says_section (among depth)
  fork : {depth : ℕ} → depth < deepest → Moves (among depth) says_fork (among (suc depth))
  endfork : {depth : ℕ} → Moves (among (suc depth)) says_endfork (among depth)
  block_end : {depth : ℕ} → Moves (among (suc depth)) says_end (ended depth true)
  block_side : {depth : ℕ} → Moves (ended depth true) says_side (ended depth false)
  block_endfork : {depth : ℕ} {side : Bool} → Moves (ended depth side) says_endfork (among depth)
  last_end : Moves (among 0) says_end (done true)
  last_side : Moves (done true) says_side (done false)

abbrev line_with : ℕ → Bool → Bool → Bool → PathLine
line_with says right formed bounded = record { says = says; right = right; formed = formed; bounded = bounded }

-- ---- what a line that breaks no rule tells

-- the line leads from s to `to`, which is where the reading goes
pub record Led (s : Stand) (l : PathLine) : Type 0 where
  pub to : Stand
  pub moves : Moves s l.says to
  pub next : path_next l (path_at s) ≡ path_at to

among_same : {a b : ℕ} → a ≡ b → path_at (among a) ≡ path_at (among b)
among_same e = ap (λ (depth : ℕ). path_at (among depth)) e

module _ (r f b : Bool) where
  end_led : (s : Stand) → is_path_out_of_order (line_with says_end r f b) (path_at s) ≡ false → eqb (path_at s).stage closed ≡ false → Led s (line_with says_end r f b)
  unfolding is_path_out_of_order path_next with_end provided◌then◌else◌ both either
  end_led fresh o c = record { to = begun true; moves = Moves.first_end_lem; next = refl }
  end_led (begun side) o c = absurd (true≢false o)
  end_led (among zero) o c = record { to = done true; moves = Moves.last_end; next = refl }
  end_led (among (suc depth)) o c = record { to = ended depth true; moves = Moves.block_end; next = rw (eqb-suc-zero depth) }
  end_led (ended depth side) o c = absurd (true≢false o)
  end_led (done side) o c = absurd (true≢false c)

  side_led : (s : Stand) → is_path_out_of_order (line_with says_side r f b) (path_at s) ≡ false → Led s (line_with says_side r f b)
  unfolding is_path_out_of_order path_next with_end provided◌then◌else◌ both either
  side_led fresh o = absurd (true≢false o)
  side_led (begun true) o = record { to = begun false; moves = Moves.first_side; next = refl }
  side_led (begun false) o = absurd (true≢false o)
  side_led (among depth) o = absurd (true≢false o)
  side_led (ended depth true) o = record { to = ended depth false; moves = Moves.block_side; next = refl }
  side_led (ended depth false) o = absurd (true≢false o)
  side_led (done true) o = record { to = done false; moves = Moves.last_side; next = refl }
  side_led (done false) o = absurd (true≢false o)

  section_led : (s : Stand) → is_path_out_of_order (line_with says_section r f b) (path_at s) ≡ false → eqb (path_at s).stage closed ≡ false → Led s (line_with says_section r f b)
  unfolding is_path_out_of_order path_next with_end provided◌then◌else◌ both either
  section_led fresh o c = absurd (true≢false o)
  section_led (begun side) o c = record { to = among 0; moves = Moves.first_section; next = refl }
  section_led (among depth) o c = record { to = among depth; moves = Moves.section; next = refl }
  section_led (ended depth side) o c = absurd (true≢false o)
  section_led (done side) o c = absurd (true≢false c)

  fork_led : (s : Stand) → is_bad_fork (line_with says_fork r f b) (path_at s) ≡ false → is_path_out_of_order (line_with says_fork r f b) (path_at s) ≡ false → eqb (path_at s).stage closed ≡ false → Led s (line_with says_fork r f b)
  unfolding is_bad_fork is_path_out_of_order path_next with_end provided◌then◌else◌ both either
  fork_led fresh k o c = absurd (true≢false o)
  fork_led (begun side) k o c = absurd (true≢false o)
  fork_led (among depth) k o c =
      record { to = among (suc depth); moves = Moves.fork (leb-false deepest depth (either_none_first _ _ k)); next = among_same (omega arith) }
  fork_led (ended depth side) k o c = absurd (true≢false o)
  fork_led (done side) k o c = absurd (true≢false c)

  endfork_led : (s : Stand) → is_bad_fork (line_with says_endfork r f b) (path_at s) ≡ false → eqb (path_at s).stage closed ≡ false → Led s (line_with says_endfork r f b)
  unfolding is_bad_fork is_path_out_of_order path_next with_end provided◌then◌else◌ both either
  endfork_led fresh k c = absurd (true≢false k)
  endfork_led (begun side) k c = absurd (true≢false k)
  endfork_led (among zero) k c = absurd (true≢false k)
  endfork_led (among (suc depth)) k c = record { to = among depth; moves = Moves.endfork; next = among_same (omega arith) }
  endfork_led (ended depth side) k c = record { to = among depth; moves = Moves.block_endfork; next = among_same (omega arith) }
  endfork_led (done side) k c = absurd (true≢false c)

  -- no other line is in order
  other_led : (s : Stand) (n : ℕ) → 6 ≤ n → is_path_out_of_order (line_with n r f b) (path_at s) ≡ false → Led s (line_with n r f b)
  unfolding is_path_out_of_order
  other_led s n h o =
      absurd
      (true≢false
      (sym
      (if_false _ _ (ne_eqb n says_side (λ (e : n ≡ says_side). omega arith))
      ∙ if_false _ _ (ne_eqb n says_section (λ (e : n ≡ says_section). omega arith))
      ∙ if_false _ _ (ne_eqb n says_fork (λ (e : n ≡ says_fork). omega arith))
      ∙ if_false _ _ (ne_eqb n says_end (λ (e : n ≡ says_end). omega arith))
      ∙ if_false _ _ (ne_eqb n says_endfork (λ (e : n ≡ says_endfork). omega arith)))
      ∙ o))

  nothing_led : (s : Stand) → is_path_out_of_order (line_with zero r f b) (path_at s) ≡ false → Led s (line_with zero r f b)
  unfolding is_path_out_of_order provided◌then◌else◌
  nothing_led s o = absurd (true≢false o)

  led :
      (s : Stand) (says : ℕ) → is_bad_fork (line_with says r f b) (path_at s) ≡ false →
      is_path_out_of_order (line_with says r f b) (path_at s) ≡ false → eqb (path_at s).stage closed ≡ false → Led s (line_with says r f b)
  led s zero k o c = nothing_led s o
  led s (suc zero) k o c = end_led s o c
  led s (suc (suc zero)) k o c = side_led s o
  led s (suc (suc (suc zero))) k o c = section_led s o c
  led s (suc (suc (suc (suc zero)))) k o c = fork_led s k o c
  led s (suc (suc (suc (suc (suc zero))))) k o c = endfork_led s k c
  led s (suc (suc (suc (suc (suc (suc n)))))) k o c = other_led s (suc (suc (suc (suc (suc (suc n)))))) (omega arith) o

  -- a Side behind the last end
  closed_led : (says : ℕ) (side : Bool) → says ≡ says_side → side ≡ true → Led (done side) (line_with says r f b)
  unfolding is_path_out_of_order provided◌then◌else◌
  closed_led says side e t = rw (e, t) (side_led (done true) refl)

-- a line that is taken: where it leads, that it is right in itself, and that there is room for its step. A Side behind the
-- last end is not looked at for its amount, because it has none
pub record Taken (s : Stand) (l : PathLine) (steps : ℕ) : Type 0 where
  pub leads : Led s l
  pub right : l.right ≡ true
  pub amount : (l.says ≡ says_side → ⊥) → (l.formed ≡ true) × (l.bounded ≡ true)
  pub room : is_step_line l ≡ true → steps < most_steps

module _ (s : Stand) (l : PathLine) (steps : ℕ) where
  module _ (unclosed : eqb (path_at s).stage closed ≡ false) (kept : first_broken (open_rules l (path_at s) steps) ≡ 0) where
    open_kept : (i : ℕ) → (get_or (open_rules l (path_at s) steps) i sound).broken ≡ false
    open_kept i =
        all_kept (open_rules l (path_at s) steps)
        (omega arith, (omega arith, (omega arith, (omega arith, (omega arith, (omega arith, tt)))))) kept i

    open_taken : Taken s l steps
    open_taken =
        record {
          leads = led l.right l.formed l.bounded s l.says (open_kept 0) (open_kept 2) unclosed;
          right = not-false _ (open_kept 1);
          amount = λ (n : l.says ≡ says_side → ⊥). (not-false _ (open_kept 3), not-false _ (open_kept 4));
          room = λ (e : is_step_line l ≡ true). leb-false most_steps steps (sym (both_rest _ _ e) ∙ open_kept 5);
        }

module _ (l : PathLine) (side : Bool) (steps : ℕ) (kept : first_broken (closed_rules l (path_at (done side))) ≡ 0) where
  -- only a Side is taken, if one may come
  closed_side : both (eqb l.says says_side) side ≡ true
  unfolding first
  closed_side =
      by_cases _ (both (eqb l.says says_side) side) (λ (e : both (eqb l.says says_side) side ≡ true). e)
      (λ (e : both (eqb l.says says_side) side ≡ false).
      let z : refusal.line ≡ 0 = sym (lists_no _ _ _ e) ∙ kept in
      absurd (omega arith))

  closed_right : l.right ≡ true
  closed_right =
      not-false _
      (all_kept (refusal.argument when not l.right ∷ []) (omega arith, tt) (sym (lists_yes _ _ _ closed_side) ∙ kept) 0)

  closed_taken : Taken (done side) l steps
  unfolding is_step_line
  closed_taken =
      let says : l.says ≡ says_side = eqb-true _ _ (both_first _ _ closed_side) in
      record {
        leads = closed_led l.right l.formed l.bounded l.says side says (both_second _ _ closed_side);
        right = closed_right;
        amount = λ (n : l.says ≡ says_side → ⊥). absurd (n says);
        room = λ (e : not (eqb l.says says_side) ≡ true). absurd (true≢false (sym e ∙ not_not_via (eq-eqb _ _ says)));
      }

-- a line that breaks no rule is taken
pub taken : (s : Stand) (l : PathLine) (steps : ℕ) → first_broken (path_rules l (path_at s) steps) ≡ 0 → Taken s l steps
taken fresh l steps kept = open_taken fresh l steps refl (sym (lists_no _ _ _ refl) ∙ kept)
taken (begun side) l steps kept = open_taken (begun side) l steps refl (sym (lists_no _ _ _ refl) ∙ kept)
taken (among depth) l steps kept = open_taken (among depth) l steps refl (sym (lists_no _ _ _ refl) ∙ kept)
taken (ended depth side) l steps kept = open_taken (ended depth side) l steps refl (sym (lists_no _ _ _ refl) ∙ kept)
taken (done side) l steps kept = closed_taken l side steps (sym (lists_yes _ _ _ refl) ∙ kept)

-- ---- the other way round: a line that leads somewhere

-- the line is in order and no bad fork, or it is the Side behind the last end
record Ordered (s : Stand) (l : PathLine) : Type 0 where
  fork_fits : is_bad_fork l (path_at s) ≡ false
  in_order : is_path_out_of_order l (path_at s) ≡ false

module _ (r f b : Bool) where
  ordered : {s t : Stand} {says : ℕ} → Moves s says t → Ordered s (line_with says r f b)
  unfolding is_bad_fork is_path_out_of_order provided◌then◌else◌ both either
  ordered Moves.first_end_lem = record { fork_fits = refl; in_order = refl }
  ordered Moves.first_side = record { fork_fits = refl; in_order = refl }
  ordered Moves.first_section = record { fork_fits = refl; in_order = refl }
  ordered Moves.section = record { fork_fits = refl; in_order = refl }
  ordered (Moves.fork {depth} h) = record { fork_fits = either_false _ _ (lt-leb deepest depth h) refl; in_order = refl }
  ordered (Moves.endfork {depth}) = record { fork_fits = eqb-suc-zero depth; in_order = refl }
  ordered Moves.block_end = record { fork_fits = refl; in_order = refl }
  ordered Moves.block_side = record { fork_fits = refl; in_order = refl }
  ordered (Moves.block_endfork {depth}) = record { fork_fits = eqb-suc-zero depth; in_order = refl }
  ordered Moves.last_end = record { fork_fits = refl; in_order = refl }
  ordered Moves.last_side = record { fork_fits = refl; in_order = refl }

  next_stand : {s t : Stand} {says : ℕ} → Moves s says t → path_next (line_with says r f b) (path_at s) ≡ path_at t
  unfolding path_next with_end provided◌then◌else◌
  next_stand Moves.first_end_lem = refl
  next_stand Moves.first_side = refl
  next_stand Moves.first_section = refl
  next_stand Moves.section = refl
  next_stand (Moves.fork {depth} h) = among_same (omega arith)
  next_stand (Moves.endfork {depth}) = among_same (omega arith)
  next_stand (Moves.block_end {depth}) = rw (eqb-suc-zero depth)
  next_stand Moves.block_side = refl
  next_stand (Moves.block_endfork {depth}) = among_same (omega arith)
  next_stand Moves.last_end = refl
  next_stand Moves.last_side = refl

pub next_at_lem : {s t : Stand} (l : PathLine) → Moves s l.says t → path_next l (path_at s) ≡ path_at t
next_at_lem l m = next_stand l.right l.formed l.bounded m

closed_moves : {says : ℕ} {side : Bool} {t : Stand} → Moves (done side) says t → (says ≡ says_side) × (side ≡ true)
closed_moves Moves.last_side = (refl, refl)

module _ (l : PathLine) (steps : ℕ) (right : IsRight l) (room : is_step_line l ≡ true → steps < most_steps) where
  limit_kept : both (is_step_line l) (leb most_steps steps) ≡ false
  limit_kept =
      by_cases _ (is_step_line l) (λ (e : is_step_line l ≡ true). both_not_right _ _ (lt-leb most_steps steps (room e)))
      (λ (e : is_step_line l ≡ false). both_not_left _ _ e)

  open_holds : {s t : Stand} → Moves s l.says t → first_broken (open_rules l (path_at s) steps) ≡ 0
  open_holds m =
      let o : Ordered _ l = ordered l.right l.formed l.bounded m in
      first_kept _ _ _ _ o.fork_fits
      (first_kept _ _ _ _ (not_not_via right.right)
      (first_kept _ _ _ _ o.in_order
      (first_kept _ _ _ _ (not_not_via right.formed)
      (first_kept _ _ _ _ (not_not_via right.bounded) (first_kept _ _ _ _ limit_kept refl)))))

  closed_holds : {side : Bool} {t : Stand} → Moves (done side) l.says t → first_broken (closed_rules l (path_at (done side))) ≡ 0
  closed_holds m =
      lists_yes _ _ _ (both_true _ _ (eq-eqb _ _ (closed_moves m).0) (closed_moves m).1)
      ∙ first_kept _ _ _ _ (not_not_via right.right) refl

  -- a line that leads somewhere, is right in itself and has room breaks no rule
  pub holds : (s : Stand) {t : Stand} → Moves s l.says t → first_broken (path_rules l (path_at s) steps) ≡ 0
  holds fresh m = lists_no _ _ _ refl ∙ open_holds m
  holds (begun side) m = lists_no _ _ _ refl ∙ open_holds m
  holds (among depth) m = lists_no _ _ _ refl ∙ open_holds m
  holds (ended depth side) m = lists_no _ _ _ refl ∙ open_holds m
  holds (done side) m = lists_yes _ _ _ refl ∙ closed_holds m

-- ---- the closing keyword

pub new_stand : new_path ≡ path_at fresh
unfolding new_path
new_stand = refl

pub done_closes : (side : Bool) → (path_open (path_at (done side)) ≡ false) × (path_lacks (path_at (done side)) ≡ false)
unfolding path_open path_lacks
done_closes side = (refl, refl)

-- the reading stands behind the last end
pub data IsDone : Stand → Type 0 where
  is_done : {side : Bool} → IsDone (done side)

pub closes_done : (s : Stand) → path_lacks (path_at s) ≡ false → IsDone s
unfolding path_lacks
closes_done fresh e = absurd (true≢false e)
closes_done (begun side) e = absurd (true≢false e)
closes_done (among depth) e = absurd (true≢false e)
closes_done (ended depth side) e = absurd (true≢false e)
closes_done (done side) e = IsDone.is_done
