-- Laws of rules 1 to 4: which rule a line breaks follows from its run of allowed bytes and the byte that ends the run.
-- Assumes nothing.
use mathlib.Core.Path.{◌≡◌, refl, sym, ◌∙◌, ap, subst}
use mathlib.Core.Bool.{true, false, true≢false}
use mathlib.Core.List.{List, [], ◌∷◌, ◌++◌}
use Prim.Native.Nat.{ℕ, zero, suc, ◌+◌, ◌-◌, ◌≤◌, ◌<◌, zero-le, suc-le-suc}
use native.Mathlib.Nat.{add_assoc, le_of_lt}
use native.Mathlib.Numerals.{add-one}
use native.Mathlib.Omega.{arith}
use lib.ListN.{length, take, drop, get_or, length-drop, length-append, drop_of_length-le}
use lib.Seq.{get_or-drop, get_or-take, length-take-le, take-suc, get_or-append_seam}
use lib.Dec.{ltb, eqb}
use borrow.Author.Tests.{eqb-true, eqb-false, eq-eqb, ne_eqb, lt-ltb, le-ltb, ltb-true, ltb-false, not-false}
use borrow.Author.Count.{below_more}
use Rattle.base.specs.If.{provided◌then◌else◌, both, either}
use Rattle.base.specs.Bytes.{line_feed, carriage_return, within, is_printed, is_before}
use Rattle.base.specs.Runs.{run, all}
use Rattle.base.specs.Way.Class.{run_end}
use Rattle.base.specs.Broken.{first_broken}
use Rattle.base.specs.Refusal as refusal
use Rattle.base.proofs.IfLaws.{if_true, if_false, by_test, by_cases, both_true, both_not_left, both_not_right, both_rest, both_first, both_second, not_via, not_not_via}
use Rattle.base.proofs.RunLaws.{run_stop, run_le, run_all, run_end_lem, run_is, run_wider, run_take, all_nil, all_cons, run_short, all_take, run_append}
use Rattle.base.proofs.BrokenLaws.{first_broken_lem, first_kept}
use Rattle.lex_line.specs.Lines.{Raw, lines}
use Rattle.lex_line.specs.Way.LineEnds.{line_at, terminator_at}
use Rattle.lex_line.specs.declared.Checked.{Checked}
use Rattle.lex_line.specs.declared.Checked.TheVariants.{Fine, Refused}
use Rattle.lex_line.specs.ByteRules.{most_bytes, most_characters, without_return, characters, raw_line_rule, refused_or, lines_rule, size_rules, byte_rules}
use Rattle.lex_line.specs.Way.Resumes.{ResumesAfterLine}
use Rattle.lex_line.proofs.LineLaws.{first_of, lines_at, next_on, next_within, next_ended}

-- ---- terminators

module _ (t : List ℕ) (i b : ℕ) (at : b ≡ get_or t i 0) where
  pub terminator_feed : b ≡ line_feed → 1 ≡ terminator_at t i
  unfolding terminator_at
  terminator_feed e = sym (if_true _ _ (eq-eqb _ _ (sym at ∙ e)))

  pub terminator_other : (b ≡ line_feed → ⊥) → (b ≡ carriage_return → ⊥) → 0 ≡ terminator_at t i
  unfolding terminator_at
  terminator_other e f =
      sym (if_false _ _ (ne_eqb _ _ (λ (g : get_or t i 0 ≡ line_feed). e (at ∙ g)))
      ∙ if_false _ _ (both_not_left _ _ (ne_eqb _ _ (λ (g : get_or t i 0 ≡ carriage_return). f (at ∙ g)))))

  module _ (n : ℕ) (next : n ≡ get_or t (i + 1) 0) (e : b ≡ line_feed → ⊥) (f : b ≡ carriage_return) where
    pub terminator_pair : n ≡ line_feed → 2 ≡ terminator_at t i
    unfolding terminator_at
    terminator_pair g =
        sym (if_false _ _ (ne_eqb _ _ (λ (k : get_or t i 0 ≡ line_feed). e (at ∙ k)))
        ∙ if_true _ _ (both_true _ _ (eq-eqb _ _ (sym at ∙ f)) (eq-eqb _ _ (sym next ∙ g))))

    pub terminator_lone : (n ≡ line_feed → ⊥) → 0 ≡ terminator_at t i
    unfolding terminator_at
    terminator_lone g =
        sym (if_false _ _ (ne_eqb _ _ (λ (k : get_or t i 0 ≡ line_feed). e (at ∙ k)))
        ∙ if_false _ _ (both_not_right _ _ (ne_eqb _ _ (λ (k : get_or t (i + 1) 0 ≡ line_feed). g (next ∙ k)))))

-- the bytes at a position for each result of `terminator_at`
data Terminator (u : List ℕ) (i : ℕ) : ℕ → Type 0 where
  feed : get_or u i 0 ≡ line_feed → Terminator u i 1
  pair : get_or u i 0 ≡ carriage_return → get_or u (i + 1) 0 ≡ line_feed → Terminator u i 2
  none : (get_or u i 0 ≡ line_feed → ⊥) → (get_or u i 0 ≡ carriage_return → get_or u (i + 1) 0 ≡ line_feed → ⊥) → Terminator u i 0

terminator_view : (u : List ℕ) (i : ℕ) → Terminator u i (terminator_at u i)
unfolding terminator_at
terminator_view u i =
    by_test (Terminator u i) (eqb (get_or u i 0) line_feed) _ _ (λ (e : eqb (get_or u i 0) line_feed ≡ true). feed (eqb-true _ _ e))
    (λ (e : eqb (get_or u i 0) line_feed ≡ false).
    by_test (Terminator u i) (both (eqb (get_or u i 0) carriage_return) (eqb (get_or u (i + 1) 0) line_feed)) _ _
    (λ (f : both (eqb (get_or u i 0) carriage_return) (eqb (get_or u (i + 1) 0) line_feed) ≡ true). pair (eqb-true _ _ (both_first _ _ f)) (eqb-true _ _ (both_second _ _ f)))
    (λ (f : both (eqb (get_or u i 0) carriage_return) (eqb (get_or u (i + 1) 0) line_feed) ≡ false).
    none (eqb-false _ _ e) (λ (g : get_or u i 0 ≡ carriage_return) (h : get_or u (i + 1) 0 ≡ line_feed). true≢false (sym (both_true _ _ (eq-eqb _ _ g) (eq-eqb _ _ h)) ∙ f))))

-- ---- bytes that a line may contain

printed_not : (b : ℕ) → is_printed b ≡ true → (n : ℕ) → is_printed n ≡ false → b ≡ n → ⊥
printed_not b e n f g = true≢false (sym e ∙ ap is_printed g ∙ f)

pub feed_not_printed : is_printed line_feed ≡ false
unfolding is_printed within either both
feed_not_printed = refl

return_not_printed : is_printed carriage_return ≡ false
unfolding is_printed within either both
return_not_printed = refl

printed_before_feed : (b : ℕ) → is_printed b ≡ true → is_before line_feed b ≡ true
unfolding is_before
printed_before_feed b e = not_via (ne_eqb _ _ (printed_not b e line_feed feed_not_printed))

-- ---- a line without its CR

without_one : (b : ℕ) → without_return (b ∷ []) ≡ (provided eqb b carriage_return then [] else b ∷ [])
unfolding without_return
without_one b = refl

without_more : (b c : ℕ) (s : List ℕ) → without_return (b ∷ c ∷ s) ≡ b ∷ without_return (c ∷ s)
unfolding without_return
without_more b c s = refl

without_nil : without_return [] ≡ []
unfolding without_return
without_nil = refl

without_none : (l : List ℕ) → all is_printed l ≡ true → without_return l ≡ l
without_none [] e = without_nil
without_none (b ∷ []) e =
    let f : both (is_printed b) (all is_printed []) ≡ true = rw (all_cons is_printed b []) at e in
    without_one b ∙ if_false _ _ (ne_eqb _ _ (printed_not b (both_first _ _ f) carriage_return return_not_printed))
without_none (b ∷ c ∷ s) e =
    let f : both (is_printed b) (all is_printed (c ∷ s)) ≡ true = rw (all_cons is_printed b (c ∷ s)) at e in
    without_more b c s ∙ ap (λ (r : List ℕ). b ∷ r) (without_none (c ∷ s) (both_second _ _ f))

without_last : (l : List ℕ) → without_return (l ++ (carriage_return ∷ [])) ≡ l
without_last [] = without_one carriage_return ∙ if_true [] (carriage_return ∷ []) (eq-eqb carriage_return carriage_return refl)
without_last (b ∷ []) = without_more b carriage_return [] ∙ ap (λ (r : List ℕ). b ∷ r) (without_last [])
without_last (b ∷ c ∷ s) = without_more b c (s ++ (carriage_return ∷ [])) ∙ ap (λ (r : List ℕ). b ∷ r) (without_last (c ∷ s))

-- a line whose bytes are all good only without its last byte ends in CR
without_ends : (l : List ℕ) → all is_printed (without_return l) ≡ true → all is_printed l ≡ false → l ≡ without_return l ++ (carriage_return ∷ [])
without_ends [] e f = absurd (true≢false (sym (all_nil is_printed) ∙ f))
without_ends (b ∷ []) e f =
    by_cases (b ∷ [] ≡ without_return (b ∷ []) ++ (carriage_return ∷ [])) (eqb b carriage_return)
    (λ (g : eqb b carriage_return ≡ true). let h : b ≡ carriage_return = eqb-true _ _ g in rw (without_one b, if_true {b = eqb b carriage_return} [] (b ∷ []) g) (ap (λ (x : ℕ). x ∷ []) h))
    (λ (g : eqb b carriage_return ≡ false). absurd (true≢false (sym (rw (without_one b, if_false {b = eqb b carriage_return} [] (b ∷ []) g) at e) ∙ f)))
without_ends (b ∷ c ∷ s) e f =
    let g : both (is_printed b) (all is_printed (without_return (c ∷ s))) ≡ true = sym (all_cons _ _ _) ∙ rw (without_more b c s) at e in
    let h : both (is_printed b) (all is_printed (c ∷ s)) ≡ false = sym (all_cons _ _ _) ∙ f in
    let k : all is_printed (c ∷ s) ≡ false = sym (both_rest _ _ (both_first _ _ g)) ∙ h in
    rw (without_more b c s) (ap (λ (r : List ℕ). b ∷ r) (without_ends (c ∷ s) (both_second _ _ g) k))

-- ---- the characters of the first line of u, by the byte that ends its run

-- a position with a byte other than 0 is inside the list
inside : (u : List ℕ) (i b : ℕ) → get_or u i 0 ≡ suc b → i < length u
inside [] i b e = absurd (omega arith)
inside (x ∷ u) zero b e = suc-le-suc zero-le
inside (x ∷ u) (suc i) b e = suc-le-suc (inside u i b e)

abbrev stop_of : List ℕ → ℕ
stop_of u = run is_printed u

before_stop : (u : List ℕ) (i : ℕ) → i < stop_of u → is_before line_feed (get_or u i 0) ≡ true
before_stop u i h = printed_before_feed _ (run_all is_printed u i h)

pub is_feed : (b : ℕ) → b ≡ line_feed → is_before line_feed b ≡ false
unfolding is_before
is_feed b e = not_not_via (eq-eqb _ _ e)

pub not_feed : (b : ℕ) → (b ≡ line_feed → ⊥) → is_before line_feed b ≡ true
unfolding is_before
not_feed b e = not_via (ne_eqb _ _ e)

before_is : (b : ℕ) → is_before line_feed b ≡ false → b ≡ line_feed
unfolding is_before
before_is b e = eqb-true _ _ (not-false _ e)

return_not_feed : (b : ℕ) → b ≡ carriage_return → b ≡ line_feed → ⊥
return_not_feed b e f =
    let z : ◌≡◌ {A = ℕ} 13 10 = sym e ∙ f in
    omega arith

-- a line whose characters are all good, and how many they are
record Right (u : List ℕ) (terminator : ℕ) : Type 0 where
  good : all is_printed (characters (first_of u)) ≡ true
  count : length (characters (first_of u)) ≡ stop_of u
  ended : (first_of u).ended ≡ ltb 0 terminator
  past : suc (run (is_before line_feed) u) ≡ stop_of u + terminator

good_characters : (u : List ℕ) → all is_printed (take (stop_of u) u) ≡ true
good_characters u = all_take is_printed u

count_characters : (u : List ℕ) → length (take (stop_of u) u) ≡ stop_of u
count_characters u = length-take-le (stop_of u) u (run_le is_printed u)

right_feed : (u : List ℕ) → get_or u (stop_of u) 0 ≡ line_feed → Right u 1
unfolding characters
right_feed u e =
    let i : stop_of u < length u = inside u (stop_of u) 9 e in
    let n : run (is_before line_feed) u ≡ stop_of u = run_is (is_before line_feed) u (stop_of u) (run_le is_printed u) (before_stop u) (λ (g : stop_of u < length u). is_feed _ e) in
    let b : ltb (stop_of u) (length u) ≡ true = lt-ltb _ _ i in
    let c : characters (first_of u) ≡ take (stop_of u) u = rw (n, b) (if_true _ _ refl ∙ without_none (take (stop_of u) u) (good_characters u)) in
    record { good = rw c (good_characters u); count = rw c (count_characters u); ended = rw n (b ∙ sym (lt-ltb 0 1 (suc-le-suc zero-le))); past = omega arith }

right_pair : (u : List ℕ) → get_or u (stop_of u) 0 ≡ carriage_return → get_or u (stop_of u + 1) 0 ≡ line_feed → Right u 2
unfolding characters
right_pair u e f =
    let i : stop_of u + 1 < length u = inside u (stop_of u + 1) 9 f in
    let h : stop_of u < length u = omega arith in
    let a : (k : ℕ) → k < stop_of u + 1 → is_before line_feed (get_or u k 0) ≡ true = below_more (λ (k : ℕ). is_before line_feed (get_or u k 0) ≡ true) (stop_of u) (before_stop u) (not_feed _ (return_not_feed _ e)) in
    let n : run (is_before line_feed) u ≡ stop_of u + 1 = run_is (is_before line_feed) u (stop_of u + 1) (le_of_lt i) a (λ (g : stop_of u + 1 < length u). is_feed _ f) in
    let b : ltb (stop_of u + 1) (length u) ≡ true = lt-ltb _ _ i in
    let w : take (stop_of u + 1) u ≡ take (stop_of u) u ++ (carriage_return ∷ []) = rw (add-one, take-suc u (stop_of u) 0 h, e) in
    let c : characters (first_of u) ≡ take (stop_of u) u = rw (n, b, w) (if_true _ _ refl ∙ without_last (take (stop_of u) u)) in
    record { good = rw c (good_characters u); count = rw c (count_characters u); ended = rw n (b ∙ sym (lt-ltb 0 2 (suc-le-suc zero-le))); past = omega arith }

-- the text ends with the line
record Unended (u : List ℕ) : Type 0 where
  good : all is_printed (characters (first_of u)) ≡ true
  count : length (characters (first_of u)) ≡ stop_of u
  ended : (first_of u).ended ≡ false

unended : (u : List ℕ) → length u ≤ stop_of u → Unended u
unfolding characters
unended u h =
    let k : stop_of u ≤ length u = run_le is_printed u in
    let l : stop_of u ≡ length u = omega arith in
    let w : stop_of u ≤ run (is_before line_feed) u = run_wider is_printed (is_before line_feed) printed_before_feed u in
    let v : run (is_before line_feed) u ≤ length u = run_le _ u in
    let n : run (is_before line_feed) u ≡ stop_of u = omega arith in
    let b : ltb (stop_of u) (length u) ≡ false = le-ltb _ _ h in
    let c : characters (first_of u) ≡ take (stop_of u) u = rw (n, b) (if_false _ _ refl) in
    record { good = rw c (good_characters u); count = rw c (count_characters u); ended = rw n b }

-- the run ends at a byte that a line may not contain
bad_bytes : (u : List ℕ) → stop_of u < length u → (get_or u (stop_of u) 0 ≡ line_feed → ⊥) → stop_of u < run (is_before line_feed) u
bad_bytes u h e =
    let w : stop_of u ≤ run (is_before line_feed) u = run_wider is_printed (is_before line_feed) printed_before_feed u in
    by_cases (stop_of u < run (is_before line_feed) u) (ltb (stop_of u) (run (is_before line_feed) u)) (λ (g : ltb (stop_of u) (run (is_before line_feed) u) ≡ true). ltb-true _ _ g)
    (λ (g : ltb (stop_of u) (run (is_before line_feed) u) ≡ false).
    let v : run (is_before line_feed) u ≤ stop_of u = ltb-false _ _ g in
    let n : run (is_before line_feed) u ≡ stop_of u = omega arith in
    let q : run (is_before line_feed) u < length u = omega arith in
    let f : is_before line_feed (get_or u (stop_of u) 0) ≡ false = rw n at (run_end_lem (is_before line_feed) u q) in
    absurd (true≢false (sym (not_feed _ e) ∙ f)))

module _ (u : List ℕ) (h : stop_of u < length u) (e : get_or u (stop_of u) 0 ≡ line_feed → ⊥) (f : get_or u (stop_of u) 0 ≡ carriage_return → get_or u (stop_of u + 1) 0 ≡ line_feed → ⊥) where
  abbrev feed_of : ℕ
  feed_of = run (is_before line_feed) u

  line_bad : all is_printed (take feed_of u) ≡ false
  line_bad =
      let g : stop_of u < feed_of = bad_bytes u h e in
      let r : run is_printed (take feed_of u) ≡ stop_of u = run_take is_printed u feed_of (le_of_lt g) in
      let l : length (take feed_of u) ≡ feed_of = length-take-le feed_of u (run_le _ u) in
      let k : run is_printed (take feed_of u) < length (take feed_of u) = omega arith in
      run_short is_printed (take feed_of u) k

  -- without its last byte the line is not good either: that byte would be the CR of a terminator
  stripped_bad : feed_of < length u → all is_printed (without_return (take feed_of u)) ≡ true → ⊥
  stripped_bad q g =
      let x : List ℕ = without_return (take feed_of u) in
      let s : take feed_of u ≡ x ++ (carriage_return ∷ []) = without_ends (take feed_of u) g line_bad in
      let r : run is_printed (take feed_of u) ≡ stop_of u = run_take is_printed u feed_of (le_of_lt (bad_bytes u h e)) in
      let m : run is_printed (take feed_of u) ≡ length x = ap (run is_printed) s ∙ run_append is_printed x carriage_return [] g return_not_printed in
      let n : length x ≡ stop_of u = sym m ∙ r in
      let l : length (take feed_of u) ≡ feed_of = length-take-le feed_of u (run_le _ u) in
      let o : length (take feed_of u) ≡ length x + 1 = ap length s ∙ length-append x (carriage_return ∷ []) in
      let p : feed_of ≡ stop_of u + 1 = omega arith in
      let b : get_or u (stop_of u) 0 ≡ carriage_return = last_byte x s n in
      f b (feed_at p)
    where
      last_byte : (x : List ℕ) → take (run (is_before line_feed) u) u ≡ x ++ (carriage_return ∷ []) → length x ≡ stop_of u → get_or u (stop_of u) 0 ≡ carriage_return
      last_byte x s n =
          sym (get_or-take (run (is_before line_feed) u) u (stop_of u) 0 (bad_bytes u h e)) ∙ rw (s, ← n) (get_or-append_seam x carriage_return [] 0)

      feed_at : run (is_before line_feed) u ≡ stop_of u + 1 → get_or u (stop_of u + 1) 0 ≡ line_feed
      feed_at p = before_is _ (rw p at (run_end_lem (is_before line_feed) u q))

  characters_bad : all is_printed (characters (first_of u)) ≡ false
  unfolding characters
  characters_bad =
      by_cases (all is_printed (characters (first_of u)) ≡ false) (ltb feed_of (length u))
      (λ (q : ltb feed_of (length u) ≡ true). rw q (rw (if_true {b = true} (without_return (take feed_of u)) (take feed_of u) refl) (by_cases (all is_printed (without_return (take feed_of u)) ≡ false) (all is_printed (without_return (take feed_of u))) (λ (g : all is_printed (without_return (take feed_of u)) ≡ true). absurd (stripped_bad (ltb-true _ _ q) g)) (λ (g : all is_printed (without_return (take feed_of u)) ≡ false). g))))
      (λ (q : ltb feed_of (length u) ≡ false). rw q (rw (if_false {b = false} (without_return (take feed_of u)) (take feed_of u) refl) line_bad))

-- ---- the result that code returns for a line

judged_number : (k n : ℕ) (x y : Checked) → (k ≡ 0 → x ≡ y) → refused_or k n x ≡ refused_or k n y
unfolding refused_or
judged_number k n x y h =
    by_cases _ (eqb k 0) (λ (e : eqb k 0 ≡ true). ap (λ (z : Checked). provided eqb k 0 then z else Refused k n) (h (eqb-true _ _ e)))
    (λ (e : eqb k 0 ≡ false). if_false _ _ e ∙ sym (if_false _ _ e))

rules_cons : (n : ℕ) (l : Raw) (ls : List Raw) → lines_rule n (l ∷ ls) ≡ refused_or (raw_line_rule l) n (lines_rule (n + 1) ls)
unfolding lines_rule
rules_cons n l ls = refl

module _ (t : List ℕ) (at : ℕ) (h : at < length t) where
  judges : (k next : ℕ) → raw_line_rule (first_of (drop at t)) ≡ k → (k ≡ 0 → (line_at line_feed t at).next ≡ next) → next ≤ length t → ResumesAfterLine t at k next
  judges k next e f w =
      record {
        same = λ (n : ℕ). ap (lines_rule n) (lines_at line_feed t at h) ∙ rules_cons n _ _ ∙ ap (λ (j : ℕ). refused_or j n (lines_rule (n + 1) (lines (drop (line_at line_feed t at).next t)))) e ∙ judged_number k n _ _ (λ (z : k ≡ 0). ap (λ (j : ℕ). lines_rule (n + 1) (lines (drop j t))) (f z));
        on = λ (z : k ≡ 0). subst (λ (j : ℕ). at < j) (f z) (next_on line_feed t at h);
        within = w;
      }

module _ (l : Raw) where
  rule_bad : all is_printed (characters l) ≡ false → raw_line_rule l ≡ refusal.byte
  unfolding raw_line_rule
  rule_bad e = first_broken_lem _ _ _ (not_via e)

  module _ (good : all is_printed (characters l) ≡ true) where
    rule_long : most_characters < length (characters l) → raw_line_rule l ≡ refusal.long
    unfolding raw_line_rule
    rule_long h = first_kept _ _ _ _ (not_not_via good) (first_broken_lem _ _ _ (lt-ltb _ _ h))

    rule_unended : length (characters l) ≤ most_characters → l.ended ≡ false → raw_line_rule l ≡ refusal.unended
    unfolding raw_line_rule
    rule_unended h e = first_kept _ _ _ _ (not_not_via good) (first_kept _ _ _ _ (le-ltb _ _ h) (first_broken_lem _ _ _ (not_via e)))

    rule_none : length (characters l) ≤ most_characters → l.ended ≡ true → raw_line_rule l ≡ 0
    unfolding raw_line_rule
    rule_none h e = first_kept _ _ _ _ (not_not_via good) (first_kept _ _ _ _ (le-ltb _ _ h) (first_kept _ _ _ _ (not_not_via e) refl))

-- a byte of the line, as a byte of the text
byte_of : (t : List ℕ) (at k b : ℕ) → get_or t (at + k) 0 ≡ b → get_or (drop at t) k 0 ≡ b
byte_of t at k b e = get_or-drop at t k 0 ∙ e

byte_after : (t : List ℕ) (at k b : ℕ) → get_or t (at + k + 1) 0 ≡ b → get_or (drop at t) (k + 1) 0 ≡ b
byte_after t at k b e =
    let n : at + (k + 1) ≡ at + k + 1 = omega arith in
    get_or-drop at t (k + 1) 0 ∙ ap (λ (j : ℕ). get_or t j 0) n ∙ e

module _ (t : List ℕ) (at stop terminator : ℕ) (h : at < length t) (run_is_stop : stop ≡ run_end is_printed t at) (terminator_is : terminator ≡ terminator_at t stop) where
  abbrev line_of : List ℕ
  line_of = drop at t

  view : Terminator t stop terminator
  view = subst (Terminator t stop) (sym terminator_is) (terminator_view t stop)

  stop_within : stop ≤ length t
  stop_within =
      let l : length (drop at t) ≡ length t - at = length-drop at t in
      let k : run is_printed (drop at t) ≤ length (drop at t) = run_le is_printed (drop at t) in
      omega arith

  count_is : stop - at ≡ stop_of line_of
  count_is = omega arith

  right : (terminator ≡ 0 → ⊥) → Right line_of terminator
  right e = from terminator view e
    where
      from : (w : ℕ) → Terminator t stop w → (w ≡ 0 → ⊥) → Right (drop at t) w
      from _ (feed f) g = right_feed (drop at t) (byte_of t at (stop_of (drop at t)) line_feed (rw run_is_stop at f))
      from _ (pair f k) g = right_pair (drop at t) (byte_of t at (stop_of (drop at t)) carriage_return (rw run_is_stop at f)) (byte_after t at (stop_of (drop at t)) line_feed (rw run_is_stop at k))
      from _ (none f k) g = absurd (g refl)

  next_right : (e : terminator ≡ 0 → ⊥) → (line_at line_feed t at).next ≡ stop + terminator
  next_right e =
      let r : Right line_of terminator = right e in
      let w : 0 < terminator = omega arith in
      let p : suc (run (is_before line_feed) line_of) ≡ stop_of line_of + terminator = r.past in
      next_ended line_feed t at h (r.ended ∙ lt-ltb _ _ w) ∙ omega arith

  pub line_bad_byte : terminator ≡ 0 → stop < length t → ResumesAfterLine t at refusal.byte (stop + terminator)
  line_bad_byte e g =
      judges t at h refusal.byte (stop + terminator) (rule_bad (first_of line_of) (from terminator view e)) (λ (z : refusal.byte ≡ 0). absurd (omega arith)) (omega arith)
    where
      l : length (drop at t) ≡ length t - at
      l = length-drop at t

      from : (w : ℕ) → Terminator t stop w → w ≡ 0 → all is_printed (characters (first_of (drop at t))) ≡ false
      from _ (feed f) z = absurd (omega arith)
      from _ (pair f k) z = absurd (omega arith)
      from _ (none f k) z =
          characters_bad (drop at t) (omega (arith, l))
          (λ (x : get_or (drop at t) (stop_of (drop at t)) 0 ≡ line_feed). f (rw run_is_stop (sym (get_or-drop at t (stop_of (drop at t)) 0) ∙ x)))
          (λ (x : get_or (drop at t) (stop_of (drop at t)) 0 ≡ carriage_return) (y : get_or (drop at t) (stop_of (drop at t) + 1) 0 ≡ line_feed).
          k (rw run_is_stop (sym (get_or-drop at t (stop_of (drop at t)) 0) ∙ x)) (rw run_is_stop (ap (λ (j : ℕ). get_or t j 0) (add_assoc at (stop_of (drop at t)) 1) ∙ sym (get_or-drop at t (stop_of (drop at t) + 1) 0) ∙ y)))

  module _ (e : terminator ≡ 0) (g : length t ≤ stop) where
    whole : Unended line_of
    whole =
        let l : length (drop at t) ≡ length t - at = length-drop at t in
        let k : length line_of ≤ stop_of line_of = omega arith in
        unended line_of k

    pub last_long : most_characters < stop - at → ResumesAfterLine t at refusal.long (stop + terminator)
    last_long k =
        let c : length (characters (first_of line_of)) ≡ stop_of line_of = whole.count in
        let w : stop ≤ length t = stop_within in
        judges t at h refusal.long (stop + terminator) (rule_long (first_of line_of) whole.good (omega arith)) (λ (z : refusal.long ≡ 0). absurd (omega arith)) (omega arith)

    pub last_unended : stop - at ≤ most_characters → ResumesAfterLine t at refusal.unended (stop + terminator)
    last_unended k =
        let c : length (characters (first_of line_of)) ≡ stop_of line_of = whole.count in
        let w : stop ≤ length t = stop_within in
        judges t at h refusal.unended (stop + terminator) (rule_unended (first_of line_of) whole.good (omega arith) whole.ended) (λ (z : refusal.unended ≡ 0). absurd (omega arith)) (omega arith)

  module _ (e : terminator ≡ 0 → ⊥) where
    right_within : stop + terminator ≤ length t
    right_within = subst (λ (j : ℕ). j ≤ length t) (next_right e) (next_within line_feed t at h)

    pub line_long : most_characters < stop - at → ResumesAfterLine t at refusal.long (stop + terminator)
    line_long k =
        let c : length (characters (first_of line_of)) ≡ stop_of line_of = (right e).count in
        judges t at h refusal.long (stop + terminator) (rule_long (first_of line_of) (right e).good (omega arith)) (λ (z : refusal.long ≡ 0). absurd (omega arith)) right_within

    pub line_fine : stop - at ≤ most_characters → ResumesAfterLine t at 0 (stop + terminator)
    line_fine k =
        let c : length (characters (first_of line_of)) ≡ stop_of line_of = (right e).count in
        let w : 0 < terminator = omega arith in
        judges t at h 0 (stop + terminator) (rule_none (first_of line_of) (right e).good (omega arith) ((right e).ended ∙ lt-ltb _ _ w)) (λ (z : 0 ≡ 0). next_right e) right_within

-- an empty line
pub line_empty : (t : List ℕ) (at b : ℕ) → at < length t → b ≡ get_or t at 0 → b ≡ 10 → ResumesAfterLine t at 0 (at + 1)
unfolding is_printed either within both
line_empty t at b h told e =
    let stops : is_printed (get_or t at 0) ≡ false = ap is_printed (sym told ∙ e) in
    let k : run is_printed (drop at t) ≡ 0 = run_stop is_printed t at h stops in
    line_fine t at at 1 h (omega arith) (terminator_feed t at b told e) (λ (z : 1 ≡ 0). omega arith) (omega arith)

-- ---- the loop over the lines

pub terminator_at_most : (t : List ℕ) (i w : ℕ) → w ≡ terminator_at t i → w ≤ 2
terminator_at_most t i w e = from (terminator_at t i) (terminator_view t i) e
  where
    from : (v : ℕ) → Terminator t i v → w ≡ v → w ≤ 2
    from _ (feed f) g = omega arith
    from _ (pair f k) g = omega arith
    from _ (none f k) g = omega arith

pub stop_fits : (t : List ℕ) (at stop : ℕ) → at < length t → stop ≡ run_end is_printed t at → stop ≤ length t
stop_fits t at stop h e =
    let l : length (drop at t) ≡ length t - at = length-drop at t in
    let k : run is_printed (drop at t) ≤ length (drop at t) = run_le is_printed (drop at t) in
    omega arith

module _ (t : List ℕ) (at n : ℕ) (answer : Checked) (inv : lines_rule n (lines (drop at t)) ≡ answer) where
  pub check_past : length t ≤ at → Fine ≡ answer
  unfolding lines_rule lines
  check_past h = rw (drop_of_length-le t h) at inv

  module _ (k next : ℕ) (j : ResumesAfterLine t at k next) where
    pub check_stop : (k ≡ 0 → ⊥) → Refused k n ≡ answer
    unfolding refused_or
    check_stop e = sym (if_false _ _ (ne_eqb _ _ e)) ∙ sym (j.same n) ∙ inv

    pub check_on : k ≡ 0 → lines_rule (n + 1) (lines (drop next t)) ≡ answer
    unfolding refused_or
    check_on e = sym (if_true _ _ (eq-eqb _ _ e)) ∙ sym (j.same n) ∙ inv

-- the result of all rules, from that of rule 1
size_gives : (t : List ℕ) (k : ℕ) → first_broken (size_rules t) ≡ k → refused_or k 0 (lines_rule 1 (lines t)) ≡ byte_rules t
unfolding byte_rules
size_gives t k e = ap (λ (j : ℕ). refused_or j 0 (lines_rule 1 (lines t))) (sym e)

pub size_refused : (t : List ℕ) → most_bytes < length t → Refused refusal.size 0 ≡ byte_rules t
unfolding refused_or provided◌then◌else◌
size_refused t h = size_gives t refusal.size (first_broken_lem _ _ _ (lt-ltb _ _ h))

pub size_fine : (t : List ℕ) → length t ≤ most_bytes → lines_rule 1 (lines (drop 0 t)) ≡ byte_rules t
unfolding refused_or provided◌then◌else◌
size_fine t h = size_gives t 0 (first_kept _ _ _ _ (le-ltb _ _ h) refl)
