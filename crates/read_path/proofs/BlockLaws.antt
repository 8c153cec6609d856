-- Laws of where lines of a level end and where a fork block ends: one line more, and an inner block behind lines of the
-- outer one.
-- Assumes nothing.
use mathlib.Core.Path.{◌≡◌, refl, sym, ◌∙◌, ap, subst}
use mathlib.Core.Bool.{true, false, not}
use mathlib.Core.List.{List}
use Prim.Native.Nat.{ℕ, ◌+◌, ◌≤◌, ◌<◌}
use native.Mathlib.Nat.{le_refl}
use native.Mathlib.Omega.{arith}
use lib.ListN.{length}
use lib.Dec.{eqb}
use borrow.Author.Tests.{eqb-true, eqb-false, not-true}
use Rattle.base.proofs.IfLaws.{if_true, if_false, by_cases}
use Rattle.lex_line.specs.Lines.{is_blank_line, comment_byte}
use Rattle.lex_line.specs.Way.LineEnds.{line_at, content_at}
use Rattle.lex_line.specs.declared.Line as text
use Rattle.lex_line.proofs.LineLaws.{next_on}
use Rattle.line_path.specs.Path.{says_fork, says_endfork, path_line_of, path_next}
use Rattle.line_path.specs.Way.Rule.{path_rule}
use Rattle.line_path.specs.declared.Path.{Path}
use Rattle.line_path.specs.declared.PathLine.{PathLine}
use Rattle.line_path.proofs.DepthLaws.{fork_raises, endfork_lowers, other_keeps}
use Rattle.read_line.specs.Way.Walk.{Opens}
use Rattle.read_path.specs.declared.Stepped.{Stepped}
use Rattle.read_path.specs.declared.PathWalk.{PathWalk}
use Rattle.read_path.specs.Way.Path.{next_at, rule_of_line, path_after_line, TakesStep}
use Rattle.read_path.specs.Way.Block.{
  PathCursor,
  reached,
  Meets,
  rule_from,
  behind,
  PassesAbove,
  none,
  more,
  EndsBlock,
  at_endfork,
  at_broken_rule,
  at_bracket,
  TurnsDepth,
  EndsLevel,
  turns,
  breaks,
  stops,
}

-- ---- lines passed

passes_join : {t : List ℕ} {d : ℕ} {from c e : PathCursor} → PassesAbove t d from c → PassesAbove t d c e → PassesAbove t d from e
passes_join p none = p
passes_join p (more q m k h) = more (passes_join p q) m k h

passes_lower : {t : List ℕ} {d e : ℕ} {from c : PathCursor} → e ≤ d → PassesAbove t d from c → PassesAbove t e from c
passes_lower l none = none
passes_lower l (more q m k h) = more (passes_lower l q) m k (omega arith)

passes_deep : {t : List ℕ} {d : ℕ} {from c : PathCursor} → d ≤ from.path.depth → PassesAbove t d from c → d ≤ c.path.depth
passes_deep l none = l
passes_deep l (more q m k h) = h

passes_onward : {t : List ℕ} {d : ℕ} {from c : PathCursor} → PassesAbove t d from c → from.at ≤ c.at
passes_onward none = le_refl _
passes_onward {t} {d} {from} (more {c} q m k h) =
    let a : from.at ≤ c.at = passes_onward q in
    let b : c.at < next_at t c.at = next_on comment_byte t c.at m.there in
    omega arith

-- ---- the depth after a line that breaks no rule

module _ (content : List ℕ) (p : Path) (steps : ℕ) (kept : rule_of_line content p steps ≡ 0) where
  abbrev said : PathLine
  said = path_line_of content

  after_blank : is_blank_line content ≡ true → (path_after_line content p).depth ≡ p.depth
  unfolding path_after_line
  after_blank b = ap (λ (q : Path). q.depth) (if_true _ _ b)

  after_filled : is_blank_line content ≡ false → (path_after_line content p).depth ≡ (path_next said p).depth
  unfolding path_after_line
  after_filled b = ap (λ (q : Path). q.depth) (if_false _ _ b)

  rule_filled : is_blank_line content ≡ false → path_rule said p steps ≡ 0
  unfolding rule_of_line
  rule_filled b = sym (if_false _ _ b) ∙ kept

  -- what a line may do to the depth
  by_depth : (P : Type 0) → ((path_after_line content p).depth ≡ p.depth → P) → ((path_after_line content p).depth ≡ p.depth + 1 → P) →
      (said.says ≡ says_endfork → (path_after_line content p).depth + 1 ≡ p.depth → P) → P
  by_depth P same up down =
      by_cases P (is_blank_line content)
      (λ (b : is_blank_line content ≡ true). same (after_blank b))
      (λ (b : is_blank_line content ≡ false).
      by_cases P (eqb said.says says_fork)
      (λ (e : eqb said.says says_fork ≡ true). up (after_filled b ∙ fork_raises said p (eqb-true _ _ e)))
      (λ (e : eqb said.says says_fork ≡ false).
      by_cases P (eqb said.says says_endfork)
      (λ (f : eqb said.says says_endfork ≡ true).
      down (eqb-true _ _ f) (ap (λ (n : ℕ). n + 1) (after_filled b) ∙ endfork_lowers said p steps (rule_filled b) (eqb-true _ _ f)))
      (λ (f : eqb said.says says_endfork ≡ false). same (after_filled b ∙ other_keeps said p (eqb-false _ _ e) (eqb-false _ _ f)))))

  -- only a Fork raises it, by one
  raised_by_one : p.depth < (path_after_line content p).depth → (path_after_line content p).depth ≡ p.depth + 1
  raised_by_one h =
      by_depth ((path_after_line content p).depth ≡ p.depth + 1)
      (λ (e : (path_after_line content p).depth ≡ p.depth). omega arith)
      (λ (e : (path_after_line content p).depth ≡ p.depth + 1). e)
      (λ (s : said.says ≡ says_endfork) (e : (path_after_line content p).depth + 1 ≡ p.depth). omega arith)

  -- only an Endfork lowers it, by one
  lowered_by_endfork : (path_after_line content p).depth < p.depth → (said.says ≡ says_endfork) × ((path_after_line content p).depth + 1 ≡ p.depth)
  lowered_by_endfork h =
      by_depth ((said.says ≡ says_endfork) × ((path_after_line content p).depth + 1 ≡ p.depth))
      (λ (e : (path_after_line content p).depth ≡ p.depth). absurd (omega arith))
      (λ (e : (path_after_line content p).depth ≡ p.depth + 1). absurd (omega arith))
      (λ (s : said.says ≡ says_endfork) (e : (path_after_line content p).depth + 1 ≡ p.depth). (s, e))

-- ---- lines of a level

-- lines have been passed, and the depth is the one that they began at
pub record Level (t : List ℕ) (from c : PathCursor) : Type 0 where
  pub inside : PassesAbove t from.path.depth from c
  pub level : c.path.depth ≡ from.path.depth

abbrev pub cursor_at : ℕ → ℕ → Stepped → PathCursor
cursor_at here line part = record { at = here; line = line; path = part.path; steps = part.steps }

pub level_start : (t : List ℕ) (from : PathCursor) → Level t from from
level_start t from = record { inside = none; level = refl }

-- the next line has a bracket, or there is none
module _ (t : List ℕ) (from : PathCursor) (here line : ℕ) (part : Stepped) (whole : part.rule ≡ 0) (level : Level t from (cursor_at here line part)) where
  comes : (here < length t → Opens (content_at t here)) → EndsLevel t from (record { at = here; line = line; part = part })
  comes opens = stops (record { inside = level.inside; opens = opens; whole = whole }) level.level

  pub level_ends : length t ≤ here → EndsLevel t from (record { at = here; line = line; part = part })
  level_ends h = comes (λ (k : here < length t). absurd (omega arith))

  pub level_leaves : (next : Stepped) (stage stage' : List ℕ) → TakesStep t here line part.path part.steps stage next stage' →
      not next.taken ≡ true → EndsLevel t from (record { at = here; line = line; part = part })
  level_leaves next stage stage' takes left = comes (λ (k : here < length t). takes.opens (not-true next.taken left))

-- one line more
module _ (t : List ℕ) (from c : PathCursor) (level : Level t from c) (h : c.at < length t) (ends : text.Line) (is_found : ends ≡ line_at comment_byte t c.at)
    (next : Stepped) (stage stage' : List ℕ) (takes : TakesStep t c.at c.line c.path c.steps stage next stage') (taken : next.taken ≡ true) where
  meets : Meets t c
  meets = record { there = h; plainly = (takes.judges taken).plainly }

  pub level_breaks : (next.rule ≡ 0 → ⊥) → EndsLevel t from (record { at = ends.next; line = c.line; part = next })
  level_breaks broken =
      breaks (record { last = c; inside = level.inside; meets = meets; rule_is = (takes.judges taken).rule_is; line_is = refl; broken = broken })

  module _ (z : next.rule ≡ 0) where
    kept : rule_from t c ≡ 0
    kept = sym (takes.judges taken).rule_is ∙ z

    come : cursor_at ends.next (c.line + 1) next ≡ behind t c
    come i = record { at = (is_found i).next; line = c.line + 1; path = (takes.judges taken).path_is z i; steps = (takes.judges taken).steps_is z i }

    pub level_turns : (next.path.depth ≡ from.path.depth → ⊥) → EndsLevel t from (record { at = ends.next; line = c.line + 1; part = next })
    level_turns other =
        turns (record { last = c; inside = level.inside; level = level.level; meets = meets; kept = kept; ends = come; turned = other; whole = z })

    pub level_on : next.path.depth ≡ from.path.depth → Level t from (cursor_at ends.next (c.line + 1) next)
    level_on e =
        let d : next.path.depth ≡ (behind t c).path.depth = ap (λ (r : PathCursor). r.path.depth) come in
        record { inside = subst (PassesAbove t from.path.depth from) (sym come) (more level.inside meets kept (omega arith)); level = e }

-- ---- a block

-- lines of the block's own depth, from the place `c` on, end at w
module _ (t : List ℕ) (from c : PathCursor) (level : Level t from c) (w : PathWalk) (ends : EndsLevel t c w) where
  abbrev depth : ℕ
  depth = from.path.depth

  -- lines passed from `c` on are lines of the block
  joined : {e : PathCursor} → PassesAbove t c.path.depth c e → PassesAbove t depth from e
  joined p =
      let l : c.path.depth ≡ depth = level.level in
      passes_join level.inside (passes_lower (omega arith) p)

  -- the line that breaks a rule is the block's last
  pub block_breaks : (w.part.rule ≡ 0 → ⊥) → EndsBlock t from w
  block_breaks n = by ends
    where
      by : EndsLevel t c w → EndsBlock t from w
      by (turns x) = absurd (n x.whole)
      by (breaks x) =
          at_broken_rule (record { last = x.last; inside = joined x.inside; meets = x.meets; rule_is = x.rule_is; line_is = x.line_is; broken = n })
      by (stops x l) = absurd (n x.whole)

  module _ (z : w.part.rule ≡ 0) where
    -- the depth falls or stays: the block is closed, or a bracket is met
    pub block_ends : w.part.path.depth ≤ depth → EndsBlock t from w
    block_ends h = by ends
      where
        shuts : TurnsDepth t c w → EndsBlock t from w
        shuts x =
            let l : c.path.depth ≡ depth = level.level in
            let m : x.last.path.depth ≡ c.path.depth = x.level in
            let e : w.part.path.depth ≡ (behind t x.last).path.depth = ap (λ (r : PathCursor). r.path.depth) x.ends in
            let n : w.part.path.depth ≡ c.path.depth → ⊥ = x.turned in
            let f = lowered_by_endfork _ x.last.path _ x.kept (omega arith) in
            let g : (behind t x.last).path.depth + 1 ≡ x.last.path.depth = f.1 in
            at_endfork
            (record {
              last = x.last;
              inside = joined x.inside;
              meets = x.meets;
              kept = x.kept;
              says = f.0;
              ends = x.ends;
              closed = omega arith;
              whole = z;
            })

        by : EndsLevel t c w → EndsBlock t from w
        by (turns x) = shuts x
        by (breaks x) = absurd (x.broken z)
        by (stops x l) = at_bracket (record { inside = joined x.inside; opens = x.opens; whole = z })

    -- the depth rises: an inner block begins
    module _ (h : depth < w.part.path.depth) where
      turn : TurnsDepth t c w
      turn = by ends
        where
          by : EndsLevel t c w → TurnsDepth t c w
          by (turns x) = x
          by (breaks x) = absurd (x.broken z)
          by (stops x l) =
              let m : c.path.depth ≡ depth = level.level in
              let n : w.part.path.depth ≡ c.path.depth = l in
              absurd (omega arith)

      inner_depth : w.part.path.depth ≡ depth + 1
      inner_depth =
          let l : c.path.depth ≡ depth = level.level in
          let m : turn.last.path.depth ≡ c.path.depth = turn.level in
          let e : w.part.path.depth ≡ (behind t turn.last).path.depth = ap (λ (r : PathCursor). r.path.depth) turn.ends in
          let g : (behind t turn.last).path.depth ≡ turn.last.path.depth + 1 = raised_by_one _ turn.last.path _ turn.kept (omega arith) in
          omega arith

      before_inner : PassesAbove t depth from (reached w)
      before_inner =
          let e : w.part.path.depth ≡ (behind t turn.last).path.depth = ap (λ (r : PathCursor). r.path.depth) turn.ends in
          subst (PassesAbove t depth from) (sym turn.ends) (more (joined turn.inside) turn.meets turn.kept (omega arith))

      pub inner_ahead : c.at < w.at
      inner_ahead =
          let a : c.at ≤ turn.last.at = passes_onward turn.inside in
          let b : turn.last.at < next_at t turn.last.at = next_on comment_byte t turn.last.at turn.meets.there in
          let e : w.at ≡ next_at t turn.last.at = ap (λ (r : PathCursor). r.at) turn.ends in
          omega arith

      -- it ends at u
      module _ (u : PathWalk) (inner : EndsBlock t (reached w) u) where
        within : {e : PathCursor} → PassesAbove t w.part.path.depth (reached w) e → PassesAbove t depth from e
        within p = passes_join before_inner (passes_lower (omega arith) p)

        pub inner_breaks : (u.part.rule ≡ 0 → ⊥) → EndsBlock t from u
        inner_breaks n = by inner
          where
            by : EndsBlock t (reached w) u → EndsBlock t from u
            by (at_endfork x) = absurd (n x.whole)
            by (at_broken_rule x) =
                at_broken_rule
                (record { last = x.last; inside = within x.inside; meets = x.meets; rule_is = x.rule_is; line_is = x.line_is; broken = n })
            by (at_bracket x) = absurd (n x.whole)

        module _ (y : u.part.rule ≡ 0) where
          -- at a bracket inside the inner block
          pub inner_stops : depth < u.part.path.depth → EndsBlock t from u
          inner_stops k = by inner
            where
              by : EndsBlock t (reached w) u → EndsBlock t from u
              by (at_endfork x) =
                  let e : u.part.path.depth + 1 ≡ w.part.path.depth = x.closed in
                  let d : w.part.path.depth ≡ depth + 1 = inner_depth in
                  absurd (omega arith)
              by (at_broken_rule x) = absurd (x.broken y)
              by (at_bracket x) = at_bracket (record { inside = within x.inside; opens = x.opens; whole = y })

          -- behind the Endfork that closes the inner block: the depth is that of the outer one
          pub inner_closes : u.part.path.depth ≤ depth → Level t from (reached u)
          inner_closes k = by inner
            where
              by : EndsBlock t (reached w) u → Level t from (reached u)
              by (at_endfork x) =
                  let e : u.part.path.depth + 1 ≡ w.part.path.depth = x.closed in
                  let d : w.part.path.depth ≡ depth + 1 = inner_depth in
                  let f : u.part.path.depth ≡ (behind t x.last).path.depth = ap (λ (r : PathCursor). r.path.depth) x.ends in
                  record {
                    inside = subst (PassesAbove t depth from) (sym x.ends) (more (within x.inside) x.meets x.kept (omega arith));
                    level = omega arith;
                  }
              by (at_broken_rule x) = absurd (x.broken y)
              by (at_bracket x) =
                  let d : w.part.path.depth ≤ u.part.path.depth = passes_deep (le_refl _) x.inside in
                  absurd (omega arith)
