-- Laws of the words of a line that is not cut out of its text: they are the words of the line's content.
-- Assumes nothing.
use mathlib.Core.Path.{◌≡◌, refl, sym, ◌∙◌, ap}
use mathlib.Core.Bool.{Bool, true, false, true≢false}
use mathlib.Core.List.{List, [], ◌∷◌, map}
use Prim.Native.Nat.{ℕ, zero, suc, ◌+◌, ◌-◌, ◌≤◌, ◌<◌}
use native.Mathlib.Nat.{not-suc-le-zero}
use native.Mathlib.Omega.{arith}
use lib.ListN.{length, take, drop, get_or, length-drop}
use lib.Seq.{drop-drop, get_or-drop, get_or-take, length-take-le, take-take}
use lib.Dec.{ltb, eqb}
use borrow.Author.Tests.{ltb-true, ltb-false, lt-ltb, eqb-true}
use Rattle.base.specs.If.{provided◌then◌else◌, both}
use Rattle.base.specs.Bytes.{is_blank, is_before, is_filled, is_content}
use Rattle.base.specs.Runs.{run}
use Rattle.base.specs.Way.Class.{run_end}
use Rattle.base.proofs.IfLaws.{by_cases, both_true, both_first, both_second, both_not_left, both_not_right, either_rest, not_via}
use Rattle.base.proofs.RunLaws.{run_nil, run_goes, run_stops, run_le, run_all, run_end_lem, run_wider, run_take, run_on}
use Rattle.lex_line.specs.Way.LineEnds.{line_at, content_at}
use Rattle.lex_line.specs.Words.{Word, word_goes_on, grown, words_from, words}
use Rattle.lex_line.specs.Way.Spans.{word_span, marked_by}
use Rattle.lex_line.proofs.WordLaws.{words_after, after_at, after_none}
use Rattle.lex_line.specs.Lines.{comment_byte}
use Rattle.lex_number.specs.Way.In.{is_word}

-- ---- runs within a run

-- the run of a test within the run of another is the run of both
run_both : (p q : ℕ → Bool) (s : List ℕ) → run p (take (run q s) s) ≡ run (λ (b : ℕ). both (q b) (p b)) s
run_both p q [] = rw (run_nil q) (run_nil p ∙ sym (run_nil (λ (b : ℕ). both (q b) (p b))))
run_both p q (b ∷ s) =
    by_cases _ (q b) (λ (e : q b ≡ true). inner e (run_both p q s))
    (λ (e : q b ≡ false). rw (run_stops q b s e) (run_nil p ∙ sym (run_stops (λ (b : ℕ). both (q b) (p b)) b s (both_not_left _ _ e))))
  where
    inner : q b ≡ true → run p (take (run q s) s) ≡ run (λ (b : ℕ). both (q b) (p b)) s →
        run p (take (run q (b ∷ s)) (b ∷ s)) ≡ run (λ (b : ℕ). both (q b) (p b)) (b ∷ s)
    inner e rest =
        rw (run_goes q b s e)
        (by_cases _ (p b)
        (λ (f : p b ≡ true).
        run_goes p b (take (run q s) s) f ∙ ap suc rest ∙ sym (run_goes (λ (b : ℕ). both (q b) (p b)) b s (both_true _ _ e f)))
        (λ (f : p b ≡ false).
        run_stops p b (take (run q s) s) f ∙ sym (run_stops (λ (b : ℕ). both (q b) (p b)) b s (both_not_right _ _ f))))

-- after some bytes of a run the rest of it is left
run_later : (p : ℕ → Bool) (n : ℕ) (s : List ℕ) → n ≤ run p s → run p (drop n s) ≡ run p s - n
run_later p zero s h = omega arith
run_later p (suc n) [] h = absurd (not-suc-le-zero (rw (run_nil p) at h))
run_later p (suc n) (b ∷ s) h = by_cases _ (p b) (λ (e : p b ≡ true). goes e (run_later p n s)) (λ (e : p b ≡ false). none e)
  where
    goes : p b ≡ true → (n ≤ run p s → run p (drop n s) ≡ run p s - n) → run p (drop n s) ≡ run p (b ∷ s) - suc n
    goes e k =
        let r : run p (b ∷ s) ≡ suc (run p s) = run_goes p b s e in
        let i : run p (drop n s) ≡ run p s - n = k (omega arith) in
        omega arith

    none : p b ≡ false → run p (drop n s) ≡ run p (b ∷ s) - suc n
    none e =
        let r : run p (b ∷ s) ≡ 0 = run_stops p b s e in
        absurd (let z : suc n ≤ 0 = rw r at h in not-suc-le-zero z)

nothing_of : (k : ℕ) → take {A = ℕ} k [] ≡ []
nothing_of zero = refl
nothing_of (suc k) = refl

drop_part : (j n : ℕ) (s : List ℕ) → drop j (take n s) ≡ take (n - j) (drop j s)
drop_part zero n s =
    let e : n - 0 ≡ n = omega arith in
    rw e refl
drop_part (suc j) zero s =
    let e : 0 - suc j ≡ 0 = omega arith in
    rw e refl
drop_part (suc j) (suc n) [] = sym (nothing_of (suc n - suc j))
drop_part (suc j) (suc n) (x ∷ s) =
    let e : suc n - suc j ≡ n - j = omega arith in
    rw e (drop_part j n s)

-- ---- the words of a list, wherever it starts

abbrev texts : List Word → List (List ℕ)
texts ws = map (λ (w : Word). w.text) ws

texts_if : (b : Bool) (x y p q : List Word) → texts x ≡ texts p → texts y ≡ texts q → texts (provided b then x else y) ≡ texts (provided b then p else q)
unfolding provided◌then◌else◌
texts_if true x y p q e f = e
texts_if false x y p q e f = f

texts_grown : (a c b : ℕ) (x y : List Word) → texts x ≡ texts y → texts (grown a b x) ≡ texts (grown c b y)
unfolding grown
texts_grown a c b [] [] e = refl
texts_grown a c b [] (y ∷ ys) e = absurd (other (ap length e))
  where
    other : 0 ≡ suc (length (texts ys)) → ⊥
    other h = omega arith
texts_grown a c b (x ∷ xs) [] e = absurd (other (ap length e))
  where
    other : suc (length (texts xs)) ≡ 0 → ⊥
    other h = omega arith
texts_grown a c b (x ∷ xs) (y ∷ ys) e = ap (front b) e
  where
    front : ℕ → List (List ℕ) → List (List ℕ)
    front b [] = []
    front b (w ∷ ws) = (b ∷ w) ∷ ws

words_anywhere : (a c : ℕ) (s : List ℕ) → texts (words_from a s) ≡ texts (words_from c s)
unfolding words_from
words_anywhere a c [] = refl
words_anywhere a c (b ∷ s) =
    let rest : texts (words_from (suc a) s) ≡ texts (words_from (suc c) s) = words_anywhere (suc a) (suc c) s in
    texts_if (is_blank b) (words_from (suc a) s) _ (words_from (suc c) s) _ rest
    (texts_if (word_goes_on s) (grown a b (words_from (suc a) s)) (record { start = a; text = b ∷ [] } ∷ words_from (suc a) s)
    (grown c b (words_from (suc c) s))
    (record { start = c; text = b ∷ [] } ∷ words_from (suc c) s) (texts_grown a c b (words_from (suc a) s) (words_from (suc c) s) rest)
    (ap (λ (ws : List (List ℕ)). (b ∷ []) ∷ ws) rest))

-- ---- a line in its text

-- blanks are content
space_content : is_content comment_byte 32 ≡ true
unfolding is_content is_before both
space_content = refl

tab_content : is_content comment_byte 9 ≡ true
unfolding is_content is_before both
tab_content = refl

blank_content : (b : ℕ) → is_blank b ≡ true → is_content comment_byte b ≡ true
unfolding is_blank
blank_content b e =
    by_cases _ (eqb b 32)
    (λ (f : eqb b 32 ≡ true). ap (is_content comment_byte) (eqb-true b 32 f) ∙ space_content)
    (λ (f : eqb b 32 ≡ false). ap (is_content comment_byte) (eqb-true b 9 (sym (either_rest _ _ f) ∙ e)) ∙ tab_content)

word_content : (b : ℕ) → is_word comment_byte b ≡ true → is_content comment_byte b ≡ true
unfolding is_word
word_content b e = both_first _ _ e

word_filled : (b : ℕ) → is_content comment_byte b ≡ true → is_blank b ≡ false → is_word comment_byte b ≡ true
unfolding is_word is_filled
word_filled b e f = both_true _ _ e (not_via f)

-- the run of a word's bytes within a line
word_run : (s : List ℕ) → run is_filled (take (run (is_content comment_byte) s) s) ≡ run (is_word comment_byte) s
unfolding is_word
word_run s = run_both is_filled (is_content comment_byte) s

module _ (t : List ℕ) (at : ℕ) where
  abbrev rest : List ℕ
  rest = drop at t

  abbrev size : ℕ
  size = run (is_content comment_byte) (drop at t)

  content_is : content_at t at ≡ take size rest
  unfolding line_at
  content_is =
      let e : at + size - at ≡ size = omega arith in
      rw e refl

  content_long : length (content_at t at) ≡ size
  content_long = rw content_is (length-take-le size rest (run_le (is_content comment_byte) rest))

  -- after some bytes of the content, what is left is the content from there on
  content_later : (j : ℕ) → j ≤ size → drop j (content_at t at) ≡ content_at t (at + j)
  unfolding line_at
  content_later j h =
      let r : drop j (drop at t) ≡ drop (at + j) t = drop-drop j at t in
      let n : run (is_content comment_byte) (drop (at + j) t) ≡ size - j = rw r at (run_later (is_content comment_byte) j rest h) in
      let m : at + j + run (is_content comment_byte) (drop (at + j) t) - (at + j) ≡ size - j = omega arith in
      rw content_is (drop_part j size rest ∙ rw (m, r) refl)

  content_end : (j : ℕ) → j ≤ size → (line_at comment_byte t (at + j)).content ≡ (line_at comment_byte t at).content
  unfolding line_at
  content_end j h =
      let r : drop j (drop at t) ≡ drop (at + j) t = drop-drop j at t in
      let n : run (is_content comment_byte) (drop (at + j) t) ≡ size - j = rw r at (run_later (is_content comment_byte) j rest h) in
      omega arith

  words_later : (j : ℕ) → j ≤ size → words_after (content_at t at) j ≡ words (content_at t (at + j))
  words_later j h = words_anywhere (0 + j) 0 (drop j (content_at t at)) ∙ ap words (content_later j h)

  module _ (start : ℕ) (begins : start ≡ run_end is_blank t at) where
    abbrev pub blanks : ℕ
    blanks = run is_blank (drop at t)

    blanks_within : blanks ≤ size
    blanks_within = run_wider is_blank (is_content comment_byte) blank_content rest

    -- the blanks at the front of the content
    pub blanks_are : run_end is_blank (content_at t at) 0 ≡ blanks
    blanks_are =
        let r : run is_blank (content_at t at) ≡ blanks = rw content_is (run_take is_blank rest size blanks_within) in
        omega arith

    start_byte : get_or rest blanks 0 ≡ get_or t start 0
    start_byte = get_or-drop at t blanks 0 ∙ ap (λ (k : ℕ). get_or t k 0) (sym begins)

    -- if there is no word here, the line ends here
    module _ (none : both (ltb start (length t)) (is_word comment_byte (get_or t start 0)) ≡ false) where
      not_before : blanks < size → ⊥
      not_before h =
          let l : length rest ≡ length t - at = length-drop at t in
          let m : size ≤ length rest = run_le (is_content comment_byte) rest in
          let g : start < length t = omega arith in
          let c : is_content comment_byte (get_or rest blanks 0) ≡ true = run_all (is_content comment_byte) rest blanks h in
          let b : is_blank (get_or rest blanks 0) ≡ false = run_end_lem is_blank rest (omega arith) in
          true≢false (sym (both_true _ _ (lt-ltb start (length t) g) (rw start_byte at (word_filled (get_or rest blanks 0) c b))) ∙ none)

      blanks_all : blanks ≡ size
      blanks_all =
          let h : blanks ≤ size = blanks_within in
          by_cases _ (ltb blanks size) (λ (e : ltb blanks size ≡ true). absurd (not_before (ltb-true blanks size e)))
          (λ (e : ltb blanks size ≡ false). omega (arith, ltb-false blanks size e))

      pub front_ends : blanks ≡ length (content_at t at)
      front_ends = blanks_all ∙ sym content_long

      pub ends_here : start ≡ (line_at comment_byte t at).content
      unfolding line_at
      ends_here = let e : blanks ≡ size = blanks_all in omega arith

      pub no_words : words (content_at t at) ≡ []
      unfolding word_span
      no_words =
          let l : length (content_at t at) ≡ size = content_long in
          let e : run_end is_blank (content_at t at) 0 ≡ blanks = blanks_are in
          let f : blanks ≡ size = blanks_all in
          after_none (content_at t at) 0 (omega arith)

    -- if there is a word here, it is the first, and the others are the words from its end on
    module _ (there : both (ltb start (length t)) (is_word comment_byte (get_or t start 0)) ≡ true) where
      before : blanks < size
      before =
          let h : blanks ≤ size = blanks_within in
          let g : start < length t = ltb-true start (length t) (both_first _ _ there) in
          let l : length rest ≡ length t - at = length-drop at t in
          by_cases _ (ltb blanks size) (λ (e : ltb blanks size ≡ true). ltb-true blanks size e)
          (λ (e : ltb blanks size ≡ false).
          let k : size ≤ blanks = ltb-false blanks size e in
          let same : blanks ≡ size = omega arith in
          let out : is_content comment_byte (get_or rest size 0) ≡ false = run_end_lem (is_content comment_byte) rest (omega arith) in
          let is_in : is_content comment_byte (get_or rest size 0) ≡ true =
          rw same at (rw (sym start_byte) at (word_content (get_or t start 0) (both_second _ _ there))) in
          absurd (true≢false (sym is_in ∙ out)))

      -- the byte there is the first of the content that is no blank
      pub front_inside : blanks ≡ length (content_at t at) → ⊥
      front_inside e =
          let h : blanks < size = before in
          let l : length (content_at t at) ≡ size = content_long in
          omega arith

      pub front_byte : get_or (content_at t at) blanks 0 ≡ get_or t start 0
      front_byte = rw content_is (get_or-take size rest blanks 0 before) ∙ start_byte

      abbrev long : ℕ
      long = run (is_word comment_byte) (drop start t)

      left_is : drop blanks rest ≡ drop start t
      left_is = drop-drop blanks at t ∙ ap (λ (k : ℕ). drop k t) (sym begins)

      left_size : run (is_content comment_byte) (drop start t) ≡ size - blanks
      left_size =
          let h : blanks ≤ size = blanks_within in
          rw left_is at (run_later (is_content comment_byte) blanks rest h)

      long_within : blanks + long ≤ size
      long_within =
          let h : long ≤ run (is_content comment_byte) (drop start t) = run_wider (is_word comment_byte) (is_content comment_byte) word_content (drop start t) in
          let e : run (is_content comment_byte) (drop start t) ≡ size - blanks = left_size in
          let k : blanks ≤ size = blanks_within in
          omega arith

      left_content : drop blanks (content_at t at) ≡ take (run (is_content comment_byte) (drop start t)) (drop start t)
      left_content = rw content_is (drop_part blanks size rest ∙ rw (left_is, left_size) refl)

      word_is : word_span (content_at t at) 0 ≡ record { start = blanks; end = blanks + long }
      unfolding word_span
      word_is = rw (blanks_are, left_content, word_run (drop start t)) refl

      word_bytes : marked_by (content_at t at) (record { start = blanks; end = blanks + long }) ≡ take long (drop start t)
      word_bytes =
          let n : blanks + long - blanks ≡ long = omega arith in
          let w : long ≤ run (is_content comment_byte) (drop start t) = run_wider (is_word comment_byte) (is_content comment_byte) word_content (drop start t) in
          rw (n, left_content) (take-take long (run (is_content comment_byte) (drop start t)) (drop start t) w)

      module _ (end : ℕ) (ends : end ≡ run_end (is_word comment_byte) t start) where
        end_is : at + (blanks + long) ≡ end
        end_is = omega arith

        pub one_word : words (content_at t at) ≡ take (end - start) (drop start t) ∷ words (content_at t end)
        one_word =
            let n : end - start ≡ long = omega arith in
            let l : length (content_at t at) ≡ size = content_long in
            let e : word_span (content_at t at) 0 ≡ record { start = blanks; end = blanks + long } = word_is in
            let h : (word_span (content_at t at) 0).start < length (content_at t at) = rw (e, l) before in
            after_at (content_at t at) 0 h
            ∙ rw e (rw n (ap (λ (w : List ℕ). w ∷ words_after (content_at t at) (blanks + long)) word_bytes
            ∙ ap (λ (ws : List (List ℕ)). take long (drop start t) ∷ ws) (words_later (blanks + long) long_within ∙ ap (λ (k : ℕ). words (content_at t k)) end_is)))

        pub same_end : (line_at comment_byte t end).content ≡ (line_at comment_byte t at).content
        same_end = rw end_is at (content_end (blanks + long) long_within)

        pub word_on : at < end
        word_on =
            let g : start < length t = ltb-true start (length t) (both_first _ _ there) in
            let k : long ≡ suc (run (is_word comment_byte) (drop (start + 1) t)) = run_on (is_word comment_byte) t start g (both_second _ _ there) in
            omega arith
