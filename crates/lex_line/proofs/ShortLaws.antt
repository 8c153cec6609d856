-- Laws of short lines skipped together. All bytes are line bytes, and each LF ends a line that breaks nothing.
-- Assumes nothing.
use mathlib.Core.Path.{◌≡◌, refl, sym, ◌∙◌, ap}
use mathlib.Core.Bool.{Bool, true, false, not}
use mathlib.Core.Logic.{◌⊎◌}
use mathlib.Core.Logic.◌⊎◌.{inl, inr}
use mathlib.Core.List.{List, [], ◌∷◌, ◌++◌}
use Prim.Native.Nat.{ℕ, zero, suc, ◌+◌, ◌-◌, ◌≤◌, ◌<◌}
use native.Mathlib.Nat.{add-zero, sub-zero}
use native.Mathlib.Numerals.{add-one}
use native.Mathlib.Omega.{arith}
use lib.ListN.{length, take, drop, get_or, length-drop}
use lib.Seq.{drop-cons, drop-drop, take-suc, get_or-drop, take_all}
use lib.Dec.{eqb}
use borrow.Author.Tests.{ne_eqb, eqb-true, eqb-false, not-false}
use Rattle.base.specs.If.{provided◌then◌else◌, both}
use Rattle.base.specs.Runs.{run, all}
use Rattle.base.specs.Way.Class.{run_end}
use Rattle.base.specs.Bytes.{is_printed, is_before}
use Rattle.base.proofs.IfLaws.{if_true, if_false, by_cases, both_true, both_first, both_second, either_rest}
use Rattle.base.proofs.RunLaws.{run_stop, run_block, all_nil, all_cons}
use Rattle.lex_line.specs.Lines.{lines}
use Rattle.lex_line.specs.Words.{back_run}
use Rattle.lex_line.specs.ByteRules.{lines_rule, byte_rules}
use Rattle.lex_line.specs.Way.Resumes.{ResumesAfterLine}
use Rattle.lex_line.specs.declared.Checked.TheVariants.{Refused}
use Rattle.lex_line.specs.Way.LineFeeds.{line_feed_of, line_feeds, is_line_byte, ResumesLines}
use Rattle.lex_line.proofs.WordLaws.{back_zero, back_grows, back_ends}
use Rattle.lex_line.proofs.ByteLaws.{is_feed, not_feed, feed_not_printed, terminator_feed, line_fine, check_on, check_stop, size_fine}
use Rattle.lex_line.proofs.FeedLaws.{feed_one, feed_none, feeds_none, feeds_more}

usual_printed : (b : ℕ) → is_line_byte b ≡ true → (b ≡ 10 → ⊥) → is_printed b ≡ true
unfolding is_line_byte
usual_printed b e other = sym (either_rest _ _ (ne_eqb b 10 other)) ∙ e

-- one more byte after bytes that all pass
all_more : (p : ℕ → Bool) (x : List ℕ) (n : ℕ) → n < length x → all p (take n x) ≡ true → p (get_or x n 0) ≡ true → all p (take (n + 1) x) ≡ true
all_more p x n h e f =
    rw (add-one n, take-suc x n 0 h) (all_behind (take n x) e)
  where
    all_behind : (y : List ℕ) → all p y ≡ true → all p (y ++ (get_or x n 0 ∷ [])) ≡ true
    all_behind [] g = all_cons p (get_or x n 0) [] ∙ both_true _ _ f (all_nil p)
    all_behind (c ∷ y) g =
        let k : both (p c) (all p y) ≡ true = sym (all_cons p c y) ∙ g in
        all_cons p c (y ++ (get_or x n 0 ∷ [])) ∙ both_true _ _ (both_first _ _ k) (all_behind y (both_second _ _ k))

module _ (u : List ℕ) (line : ℕ) where
  -- position `at` is in a line, numbered `count`, that starts `back` bytes before it; these bytes are all good, and the
  -- lines above break nothing
  pub record Amid (count at back : ℕ) : Type 0 where
    pub inside : at ≤ length u
    pub low : back ≤ at
    pub told : back_run (is_before 10) u at ≡ back
    pub good : all is_printed (take back (drop (at - back) u)) ≡ true
    pub same : lines_rule count (lines (drop (at - back) u)) ≡ lines_rule line (lines u)
    pub counted : count ≤ line + (at - back)

  pub amid_starts : Amid line 0 0
  amid_starts =
      record {
        inside = omega arith;
        low = omega arith;
        told = back_zero (is_before 10) u;
        good = all_nil is_printed;
        same = refl;
        counted = omega arith;
      }

  pub amid_passes : (count at back : ℕ) → Amid count at back → ResumesLines u 0 line (at - back_run (is_before 10) u at) count
  amid_passes count at back m =
      let l : back ≤ at = m.low in
      let i : at ≤ length u = m.inside in
      let c : count ≤ line + (at - back) = m.counted in
      rw m.told (record { same = m.same; onward = omega arith; within = omega arith; counted = omega arith })

  module _ (count at back : ℕ) (m : Amid count at back) (h : at < length u) where
    byte_in : at - back < length u
    byte_in = let l : back ≤ at = m.low in omega arith

    back_on : drop back (drop (at - back) u) ≡ drop at u
    back_on =
        let l : back ≤ at = m.low in
        let e : at - back + back ≡ at = omega arith in
        drop-drop back (at - back) u ∙ ap (λ (k : ℕ). drop k u) e

    -- an LF ends the line
    amid_ends : get_or u at 0 ≡ 10 → back ≤ 120 → Amid (count + 1) (at + 1) 0
    amid_ends e small =
        let l : back ≤ at = m.low in
        let d : length (drop (at - back) u) ≡ length u - (at - back) = length-drop (at - back) u in
        let long : back ≤ length (drop (at - back) u) = omega arith in
        let not_printed : is_printed (get_or u at 0) ≡ false = ap is_printed e ∙ feed_not_printed in
        let ends : run is_printed (drop back (drop (at - back) u)) ≡ 0 = rw back_on (run_stop is_printed u at h not_printed) in
        let r : run is_printed (drop (at - back) u) ≡ back + run is_printed (drop back (drop (at - back) u)) =
        run_block is_printed back (drop (at - back) u) long m.good in
        let stop : at ≡ run_end is_printed u (at - back) = omega arith in
        let j : ResumesAfterLine u (at - back) 0 (at + 1) =
        line_fine u (at - back) at 1 byte_in stop (terminator_feed u at (get_or u at 0) refl e) (λ (z : 1 ≡ 0). omega arith) (omega arith) in
        let c : count ≤ line + (at - back) = m.counted in
        record {
          inside = omega arith;
          low = omega arith;
          told = back_ends (is_before 10) u at h (is_feed _ e);
          good = all_nil is_printed;
          same = rw (sub-zero (at + 1)) (check_on u (at - back) count (lines_rule line (lines u)) m.same 0 (at + 1) j refl);
          counted = omega arith;
        }

    -- any other line byte is one of its characters
    amid_grows : is_printed (get_or u at 0) ≡ true → (get_or u at 0 ≡ 10 → ⊥) → Amid count (at + 1) (back + 1)
    amid_grows f other =
        let l : back ≤ at = m.low in
        let e : at + 1 - (back + 1) ≡ at - back = omega arith in
        let g : at - back + back ≡ at = omega arith in
        let d : length (drop (at - back) u) ≡ length u - (at - back) = length-drop (at - back) u in
        let long : back < length (drop (at - back) u) = omega arith in
        let b : get_or (drop (at - back) u) back 0 ≡ get_or u at 0 = get_or-drop (at - back) u back 0 ∙ ap (λ (k : ℕ). get_or u k 0) g in
        let c : count ≤ line + (at - back) = m.counted in
        record {
          inside = omega arith;
          low = omega arith;
          told = back_grows (is_before 10) u at h (not_feed _ other) ∙ ap (λ (k : ℕ). k + 1) m.told;
          good = rw e (all_more is_printed (drop (at - back) u) back long m.good (ap is_printed b ∙ f));
          same = rw e m.same;
          counted = omega arith;
        }

  -- n more bytes, and what is known after them
  record Over (n count at back : ℕ) : Type 0 where
    behind : ℕ
    amid : Amid (count + line_feeds (take n (drop at u))) (at + n) behind
    below : behind ≤ back + n
    ended : (line_feeds (take n (drop at u)) ≡ 0 → ⊥) → behind < n

  over_byte : (n count at back count' back' : ℕ) → at < length u → count' ≡ count + line_feed_of (get_or u at 0) → Over n count' (at + 1) back' →
      back' + n ≤ back + suc n → (line_feed_of (get_or u at 0) ≡ 0 ⊎ back' ≡ 0) → Over (suc n) count at back
  over_byte n count at back count' back' h e o le either_way =
      let d : drop at u ≡ get_or u at 0 ∷ drop (at + 1) u = drop-cons u at 0 h ∙ ap (λ (i : ℕ). get_or u at 0 ∷ drop i u) (sym (add-one at)) in
      let f : line_feeds (take (suc n) (drop at u)) ≡ line_feed_of (get_or u at 0) + line_feeds (take n (drop (at + 1) u)) =
      ap (λ (x : List ℕ). line_feeds (take (suc n) x)) d ∙ feeds_more _ _ in
      let c : count + line_feeds (take (suc n) (drop at u)) ≡ count' + line_feeds (take n (drop (at + 1) u)) = omega arith in
      let q : at + suc n ≡ at + 1 + n = omega arith in
      let b : o.behind ≤ back' + n = o.below in
      record {
        behind = o.behind;
        amid = rw (c, q) o.amid;
        below = omega arith;
        ended = λ (z : line_feeds (take (suc n) (drop at u)) ≡ 0 → ⊥). last o.behind z f b o.ended either_way;
      }
    where
      last : (behind : ℕ) → (line_feeds (take (suc n) (drop at u)) ≡ 0 → ⊥) →
          line_feeds (take (suc n) (drop at u)) ≡ line_feed_of (get_or u at 0) + line_feeds (take n (drop (at + 1) u)) → behind ≤ back' + n →
          ((line_feeds (take n (drop (at + 1) u)) ≡ 0 → ⊥) → behind < n) → (line_feed_of (get_or u at 0) ≡ 0 ⊎ back' ≡ 0) → behind < suc n
      last behind z f b later (inl k) =
          let g : behind < n = later (λ (w : line_feeds (take n (drop (at + 1) u)) ≡ 0). z (omega arith)) in
          omega arith
      last behind z f b later (inr k) = omega arith

  over : (n count at back : ℕ) → at + n ≤ length u → all is_line_byte (take n (drop at u)) ≡ true → back + n ≤ 120 → Amid count at back →
      Over n count at back
  over zero count at back room a small m =
      let z : line_feeds (take 0 (drop at u)) ≡ 0 = feeds_none in
      let e : count + line_feeds (take 0 (drop at u)) ≡ count = omega arith in
      record {
        behind = back;
        amid = rw (e, add-zero at) m;
        below = omega arith;
        ended = λ (f : line_feeds (take 0 (drop at u)) ≡ 0 → ⊥). absurd (f z);
      }
  over (suc n) count at back room a small m =
      let h : at < length u = omega arith in
      let d : drop at u ≡ get_or u at 0 ∷ drop (at + 1) u = drop-cons u at 0 h ∙ ap (λ (i : ℕ). get_or u at 0 ∷ drop i u) (sym (add-one at)) in
      let b : both (is_line_byte (get_or u at 0)) (all is_line_byte (take n (drop (at + 1) u))) ≡ true =
      sym (all_cons is_line_byte (get_or u at 0) (take n (drop (at + 1) u))) ∙ ap (λ (x : List ℕ). all is_line_byte (take (suc n) x)) (sym d) ∙ a in
      by_cases _ (eqb (get_or u at 0) 10)
      (λ (e : eqb (get_or u at 0) 10 ≡ true). feeding h (both_second _ _ b) (eqb-true _ _ e) (over n (count + 1) (at + 1) 0))
      (λ (e : eqb (get_or u at 0) 10 ≡ false).
      growing h (both_second _ _ b) (eqb-false _ _ e) (usual_printed _ (both_first _ _ b) (eqb-false _ _ e)) (over n count (at + 1) (back + 1)))
    where
      feeding : at < length u → all is_line_byte (take n (drop (at + 1) u)) ≡ true → get_or u at 0 ≡ 10 →
          (at + 1 + n ≤ length u → all is_line_byte (take n (drop (at + 1) u)) ≡ true → 0 + n ≤ 120 → Amid (count + 1) (at + 1) 0 →
          Over n (count + 1) (at + 1) 0) → Over (suc n) count at back
      feeding h b e later =
          let o : Over n (count + 1) (at + 1) 0 = later (omega arith) b (omega arith) (amid_ends count at back m h e (omega arith)) in
          let f : 1 ≡ line_feed_of (get_or u at 0) = feed_one _ e in
          over_byte n count at back (count + 1) 0 h (omega arith) o (omega arith) (inr refl)

      growing : at < length u → all is_line_byte (take n (drop (at + 1) u)) ≡ true → (get_or u at 0 ≡ 10 → ⊥) → is_printed (get_or u at 0) ≡ true →
          (at + 1 + n ≤ length u → all is_line_byte (take n (drop (at + 1) u)) ≡ true → back + 1 + n ≤ 120 → Amid count (at + 1) (back + 1) →
          Over n count (at + 1) (back + 1)) → Over (suc n) count at back
      growing h b other f later =
          let o : Over n count (at + 1) (back + 1) = later (omega arith) b (omega arith) (amid_grows count at back m h f other) in
          let g : 0 ≡ line_feed_of (get_or u at 0) = feed_none _ other in
          over_byte n count at back count (back + 1) h (omega arith) o (omega arith) (inl (sym g))

  -- ---- the loop over blocks

  pub record Ending (count at : ℕ) : Type 0 where
    pub back : ℕ
    pub amid : Amid count at back
    pub short : back ≤ 15

  pub ending_starts : Ending line 0
  ending_starts = record { back = 0; amid = amid_starts; short = omega arith }

  pub ending_passes : (count at : ℕ) → Ending count at → (at ≤ length u) × ResumesLines u 0 line (at - back_run (is_before 10) u at) count
  ending_passes count at e = (e.amid.inside, amid_passes count at e.back e.amid)

  -- the state of the loop: `mark` is the end of the last block with an LF, and no line ends from there to `here`
  pub record Running (count mark here : ℕ) : Type 0 where
    pub ending : Ending count mark
    pub back : ℕ
    pub amid : Amid count here back
    pub near : back + mark ≤ 15 + here
    pub order : mark ≤ here

  pub running_starts : Running line 0 0
  running_starts =
      record { ending = ending_starts; back = 0; amid = amid_starts; near = omega arith; order = omega arith }

  pub running_passes : (count mark here : ℕ) → Running count mark here →
      (mark ≤ length u) × ResumesLines u 0 line (mark - back_run (is_before 10) u mark) count
  running_passes count mark here r = ending_passes count mark r.ending

  module _ (count mark here : ℕ) (r : Running count mark here) (room : 16 ≤ length u - here) (most : ℕ) (small : most ≤ 80)
      (apart : here - mark ≤ most) (usual : Bool) (told : usual ≡ all is_line_byte (take 16 (drop here u))) (t : not usual ≡ false) (ends : ℕ)
      (counted : ends ≡ line_feeds (take 16 (drop here u))) where
    passed_block : Over 16 count here r.back
    passed_block =
        let k : here ≤ length u = r.amid.inside in
        let n : r.back + mark ≤ 15 + here = r.near in
        let o : mark ≤ here = r.order in
        over 16 count here r.back (omega arith) (sym told ∙ not-false usual t) (omega arith) r.amid

    -- no line ends in the block
    block_none : ends ≡ 0 → Running (count + ends) mark (here + 16)
    block_none z =
        let e : count + ends ≡ count = omega arith in
        let f : count + line_feeds (take 16 (drop here u)) ≡ count = omega arith in
        let b : passed_block.behind ≤ r.back + 16 = passed_block.below in
        let n : r.back + mark ≤ 15 + here = r.near in
        let o : mark ≤ here = r.order in
        rw e
        (record {
          ending = r.ending;
          back = passed_block.behind;
          amid = rw f at passed_block.amid;
          near = omega arith;
          order = omega arith;
        })

    block_some : (ends ≡ 0 → ⊥) → Running (count + ends) (here + 16) (here + 16)
    block_some some =
        let l : passed_block.behind < 16 = passed_block.ended (λ (z : line_feeds (take 16 (drop here u)) ≡ 0). some (counted ∙ z)) in
        rw counted
        (record {
          ending = record { back = passed_block.behind; amid = passed_block.amid; short = omega arith };
          back = passed_block.behind;
          amid = passed_block.amid;
          near = omega arith;
          order = omega arith;
        })

    pub running_on : (next : ℕ) → next ≡ (provided eqb ends 0 then mark else (here + 16)) → Running (count + ends) next (here + 16)
    running_on next is =
        by_cases _ (eqb ends 0)
        (λ (e : eqb ends 0 ≡ true). rw (is ∙ if_true _ _ e) (block_none (eqb-true _ _ e)))
        (λ (e : eqb ends 0 ≡ false). rw (is ∙ if_false _ _ e) (block_some (eqb-false _ _ e)))

    pub running_order : (next : ℕ) → next ≡ (provided eqb ends 0 then mark else (here + 16)) → next ≤ here + 16
    running_order next is = (running_on next is).order

    pub running_ends : (next : ℕ) → next ≡ (provided eqb ends 0 then mark else (here + 16)) →
        (next ≤ length u) × ResumesLines u 0 line (next - back_run (is_before 10) u next) (count + ends)
    running_ends next is = running_passes (count + ends) next (here + 16) (running_on next is)

-- ---- what callers use

-- the block at the front of what is left
pub block_front : (t block : List ℕ) (here left : ℕ) → block ≡ take 16 (take (length t - here) (drop here t)) → left + 16 ≡ length (take (length t - here) (drop here t)) →
    (block ≡ take 16 (drop here t)) × (16 ≤ length t - here)
block_front t block here left is long =
    let l : length (drop here t) ≡ length t - here = length-drop here t in
    let whole : take (length t - here) (drop here t) ≡ drop here t = take_all (length t - here) (drop here t) (omega arith) in
    (rw whole at is, let n : left + 16 ≡ length (drop here t) = rw whole at long in omega arith)

pub passes_to : (u : List ℕ) (line start next number : ℕ) → ResumesLines u 0 line start number → next ≡ start → ResumesLines u 0 line next number
passes_to u line start next number p e = rw e p

pub passes_none : (t : List ℕ) (at line : ℕ) → at ≤ length t → ResumesLines t at line at line
passes_none t at line h = record { same = refl; onward = omega arith; within = h; counted = omega arith }

-- the same for a text, from the result for its part from `at` to the end
pub passes_part : (t : List ℕ) (at line next number : ℕ) → at ≤ length t →
    ResumesLines (take (length t - at) (drop at t)) 0 line next number → ResumesLines t at line (at + next) number
passes_part t at line next number h p =
    let l : length (drop at t) ≡ length t - at = length-drop at t in
    let e : take (length t - at) (drop at t) ≡ drop at t = take_all (length t - at) (drop at t) (omega arith) in
    whole (rw e at p) l
  where
    whole : ResumesLines (drop at t) 0 line next number → length (drop at t) ≡ length t - at → ResumesLines t at line (at + next) number
    whole q l =
        let w : next ≤ length (drop at t) = q.within in
        let c : number + 0 ≤ line + next = q.counted in
        record {
          same = ap (λ (x : List ℕ). lines_rule number (lines x)) (sym (drop-drop next at t)) ∙ q.same;
          onward = omega arith;
          within = omega arith;
          counted = omega arith;
        }

-- ---- the loop over a whole text

-- the state of the loop: the lines from `at` on give the result of the whole text
pub record Checking (t : List ℕ) (at line : ℕ) : Type 0 where
  pub inside : at ≤ length t
  pub counted : line ≤ at + 1
  pub small : length t ≤ 1_048_576
  pub same : lines_rule line (lines (drop at t)) ≡ byte_rules t

pub checking_starts : (t : List ℕ) → length t ≤ 1_048_576 → Checking t 0 1
checking_starts t h = record { inside = omega arith; counted = omega arith; small = h; same = size_fine t h }

module _ (t : List ℕ) (at line : ℕ) (c : Checking t at line) (k next : ℕ) (j : ResumesAfterLine t at k next) where
  pub checking_stops : (k ≡ 0 → ⊥) → Refused k line ≡ byte_rules t
  checking_stops e = check_stop t at line (byte_rules t) c.same k next j e

  module _ (e : k ≡ 0) where
    pub checking_asks : (next ≤ length t) × (line + 1 ≤ next + 1) × (length t ≤ 1_048_576)
    checking_asks =
        let h : at < next = j.on e in
        let l : line ≤ at + 1 = c.counted in
        (j.within, omega arith, c.small)

    pub checking_on : (to number : ℕ) → ResumesLines t next (line + 1) to number → Checking t to number
    checking_on to number p =
        let h : at < next = j.on e in
        let l : line ≤ at + 1 = c.counted in
        let m : number + next ≤ line + 1 + to = p.counted in
        record {
          inside = p.within;
          counted = omega arith;
          small = c.small;
          same = p.same ∙ check_on t at line (byte_rules t) c.same k next j e;
        }

    pub checking_less : (to number : ℕ) → ResumesLines t next (line + 1) to number → at < length t → length t - to < length t - at
    checking_less to number p g =
        let h : at < next = j.on e in
        let o : next ≤ to = p.onward in
        omega arith
