-- `Alike` is reflexive, symmetric and transitive.
-- Assumes nothing.
use mathlib.Core.Path.{◌≡◌, refl, sym, ◌∙◌, ap, subst}
use mathlib.Core.Bool.{true, false, not}
use mathlib.Core.List.{List, [], ◌∷◌, ◌++◌}
use Prim.Native.Nat.{ℕ, zero, suc, ◌+◌, ◌≤◌, ◌<◌}
use native.Mathlib.Omega.{arith}
use lib.ListN.{length, drop, length-append}
use lib.Dec.{eqb}
use Rattle.base.specs.If.{both, either}
use Rattle.base.proofs.IfLaws.{by_cases}
use Rattle.lex_line.specs.Lines.{contents}
use Rattle.lex_line.specs.Words.{words, left_of, right_of}
use Rattle.lex_keyword.specs.Names.{begin_header}
use Rattle.line_place.specs.Place.{before}
use Rattle.line_place.specs.Place as place
use Rattle.doc.specs.Lines.{Line, plain, key_at, significant, up_to}
use Rattle.doc.specs.Document.{opens_matrix_at, in_matrix}
use Rattle.doc.proofs.GatherLaws.{up_in, up_none, up_out}
use Rattle.law_alike.specs.Alike.{takes_equals, takes_text, argument_text, is_unread, SameSaying, same_words, same_sides, same_argument, same_text, same_unread, SameLine, SameNumbers, AlikeLines, Alike}
use Rattle.law_alike.specs.Alike.AlikeLines.{none, line, matrix}
use Rattle.law_alike.proofs.SidesLaws.{same_signs, same_left, same_right}
use Rattle.law_alike.proofs.GatherLaws.{other_opens}
use Rattle.law_alike.proofs.MatrixLaws.{opening_out, in_matrix_same, opens_alike, lines_numbers}
use Rattle.law_alike.proofs.WideLaws.{contents_self, texts_alike}

-- every text is alike with itself
pub alike_self : (t : List ℕ) → Alike t t
alike_self t = texts_alike t t (contents_self before (contents t))

pub saying_back : (p : ℕ) (a b : List ℕ) → SameSaying p a b → SameSaying p b a
saying_back p a b (same_words e f w) = same_words f e (sym w)
saying_back p a b (same_sides e f x y l r) = same_sides f e y x (sym l) (sym r)
saying_back p a b (same_argument n k t) = same_argument (λ (q : key_at b ≡ plain). n (k ∙ q)) (sym k) (sym t)
saying_back p a b (same_text n k x t) = same_text (λ (q : key_at b ≡ plain). n (k ∙ q)) (sym k) (ap takes_text (sym k) ∙ x) (sym t)
saying_back p a b (same_unread u v) = same_unread v u

line_back : (l m : Line) → SameLine l m → SameLine m l
line_back l m s = record { place = sym s.place; saying = subst (λ (p : ℕ). SameSaying p m.content l.content) s.place (saying_back l.place l.content m.content s.saying) }

numbers_back : (l : Line) (bs : List Line) (m : Line) (cs : List Line) → SameNumbers l bs m cs → SameNumbers m cs l bs
numbers_back l bs m cs n =
    record {
      opens = other_opens l bs m cs n;
      place = sym n.place;
      kind = sym n.kind;
      conductors = sym n.conductors;
      numbers = λ i j a b c. sym (n.numbers i j a b (subst (λ (k : ℕ). j ≤ k) (sym n.conductors) c));
    }

pub lines_back : {ls ms : List Line} → AlikeLines ls ms → AlikeLines ms ls
lines_back none = none
lines_back (line {l = l} {m = m} s a) = line (line_back l m s) (lines_back a)
lines_back (matrix {l = l} {m = m} bs cs n p q a) = matrix cs bs (numbers_back l bs m cs n) q p (lines_back a)

-- of two alike texts each is alike with the other
pub alike_back : (t u : List ℕ) → Alike t u → Alike u t
alike_back t u a = lines_back a

-- ---- transitive

-- lines of the same keyword are both read, or both not
pub unread_same : (p : ℕ) (a b : List ℕ) → key_at a ≡ key_at b → is_unread p a ≡ is_unread p b
unfolding is_unread
unread_same p a b k = λ i. either (eqb p place.done) (both (eqb p place.before) (not (eqb (k i) begin_header)))

-- lines of the same words have the same form with `=`
takes_same : (p : ℕ) (a b : List ℕ) → words a ≡ words b → takes_equals p a ≡ takes_equals p b
unfolding takes_equals
takes_same p a b w = rw (same_signs a b w, same_left a b w, w)

module _ (p : ℕ) (a b c : List ℕ) where
  unread_through : is_unread p a ≡ true → is_unread p b ≡ true → SameSaying p b c → SameSaying p a c
  unread_through u v (same_words e f w) = same_unread u (sym (unread_same p b c (e ∙ sym f)) ∙ v)
  unread_through u v (same_sides e f x y l r) = same_unread u (sym (unread_same p b c (e ∙ sym f)) ∙ v)
  unread_through u v (same_argument n k t) = same_unread u (sym (unread_same p b c k) ∙ v)
  unread_through u v (same_text n k x t) = same_unread u (sym (unread_same p b c k) ∙ v)
  unread_through u v (same_unread x y) = same_unread u y

  words_through : key_at a ≡ plain → key_at b ≡ plain → words a ≡ words b → SameSaying p b c → SameSaying p a c
  words_through e f w (same_words g h z) = same_words e h (w ∙ z)
  words_through e f w (same_sides g h x y l r) = same_sides e h (takes_same p a b w ∙ x) y (same_left a b w ∙ l) (same_right a b w ∙ r)
  words_through e f w (same_argument n k t) = absurd (n f)
  words_through e f w (same_text n k x t) = absurd (n f)
  words_through e f w (same_unread x y) = same_unread (unread_same p a b (e ∙ sym f) ∙ x) y

  sides_through : key_at a ≡ plain → key_at b ≡ plain → takes_equals p a ≡ true → takes_equals p b ≡ true → left_of a ≡ left_of b → right_of a ≡ right_of b → SameSaying p b c → SameSaying p a c
  sides_through e f x y l r (same_words g h w) = same_sides e h x (sym (takes_same p b c w) ∙ y) (l ∙ same_left b c w) (r ∙ same_right b c w)
  sides_through e f x y l r (same_sides g h v w m q) = same_sides e h x w (l ∙ m) (r ∙ q)
  sides_through e f x y l r (same_argument n k t) = absurd (n f)
  sides_through e f x y l r (same_text n k w t) = absurd (n f)
  sides_through e f x y l r (same_unread u v) = same_unread (unread_same p a b (e ∙ sym f) ∙ u) v

  argument_through : (key_at a ≡ plain → ⊥) → key_at a ≡ key_at b → argument_text a ≡ argument_text b → SameSaying p b c → SameSaying p a c
  argument_through n k t (same_words e f w) = absurd (n (k ∙ e))
  argument_through n k t (same_sides e f x y l r) = absurd (n (k ∙ e))
  argument_through n k t (same_argument m j u) = same_argument n (k ∙ j) (t ∙ u)
  argument_through n k t (same_text m j x u) = same_text n (k ∙ j) (ap takes_text k ∙ x) (ap words t ∙ u)
  argument_through n k t (same_unread u v) = same_unread (unread_same p a b k ∙ u) v

  text_through : (key_at a ≡ plain → ⊥) → key_at a ≡ key_at b → takes_text (key_at a) ≡ true → words (argument_text a) ≡ words (argument_text b) → SameSaying p b c → SameSaying p a c
  text_through n k x t (same_words e f w) = absurd (n (k ∙ e))
  text_through n k x t (same_sides e f y z l r) = absurd (n (k ∙ e))
  text_through n k x t (same_argument m j u) = same_text n (k ∙ j) x (t ∙ ap words u)
  text_through n k x t (same_text m j y u) = same_text n (k ∙ j) x (t ∙ u)
  text_through n k x t (same_unread u v) = same_unread (unread_same p a b k ∙ u) v

  pub saying_through : SameSaying p a b → SameSaying p b c → SameSaying p a c
  saying_through (same_words e f w) s = words_through e f w s
  saying_through (same_sides e f x y l r) s = sides_through e f x y l r s
  saying_through (same_argument n k t) s = argument_through n k t s
  saying_through (same_text n k x t) s = text_through n k x t s
  saying_through (same_unread u v) s = unread_through u v s

line_through : (l m k : Line) → SameLine l m → SameLine m k → SameLine l k
line_through l m k s t =
    record {
      place = s.place ∙ t.place;
      saying = saying_through l.place l.content m.content k.content s.saying (subst (λ (p : ℕ). SameSaying p m.content k.content) (sym s.place) t.saying);
    }

numbers_through : (l : Line) (bs : List Line) (m : Line) (cs : List Line) (k : Line) (ds : List Line) → SameNumbers l bs m cs → SameNumbers m cs k ds → SameNumbers l bs k ds
numbers_through l bs m cs k ds n o =
    record {
      opens = n.opens;
      place = n.place ∙ o.place;
      kind = n.kind ∙ o.kind;
      conductors = n.conductors ∙ o.conductors;
      numbers = λ i j a b c. n.numbers i j a b c ∙ o.numbers i j a b (subst (λ (x : ℕ). j ≤ x) n.conductors c);
    }

-- ---- the lines of a matrix in the middle text

-- lines that are cut where a matrix ends
record Cut (xs ms : List Line) : Type 0 where
  rest : List Line
  are : xs ≡ up_to in_matrix xs ++ rest
  more : AlikeLines rest ms

abbrev tail_of : List Line → List Line
tail_of [] = []
tail_of (l ∷ ls) = ls

abbrev head_of : Line → List Line → Line
head_of d [] = d
head_of d (l ∷ ls) = l

cut : {xs ys : List Line} → AlikeLines xs ys → (ms : List Line) → ys ≡ up_to in_matrix ys ++ ms → Cut xs ms
cut none ms e =
    let q : [] ≡ ms = e ∙ ap (λ (zs : List Line). zs ++ ms) (up_none in_matrix) in
    record { rest = []; are = ap (λ (zs : List Line). zs ++ []) (sym (up_none in_matrix)); more = subst (AlikeLines []) q none }
cut (line {l = l} {m = m} {ls = ls} {ms = rs} s a) ms e =
    by_cases (Cut (l ∷ ls) ms) (in_matrix m)
    (λ (h : in_matrix m ≡ true).
    let i : in_matrix l ≡ true = in_matrix_same l m s ∙ h in
    let c : Cut ls ms = cut a ms (ap tail_of (e ∙ ap (λ (zs : List Line). zs ++ ms) (up_in in_matrix m rs h))) in
    record {
      rest = c.rest;
      are = ap (λ (zs : List Line). l ∷ zs) c.are ∙ ap (λ (zs : List Line). zs ++ c.rest) (sym (up_in in_matrix l ls i));
      more = c.more;
    })
    (λ (h : in_matrix m ≡ false).
    let i : in_matrix l ≡ false = in_matrix_same l m s ∙ h in
    record {
      rest = l ∷ ls;
      are = ap (λ (zs : List Line). zs ++ (l ∷ ls)) (sym (up_out in_matrix l ls i));
      more = subst (AlikeLines (l ∷ ls)) (e ∙ ap (λ (zs : List Line). zs ++ ms) (up_out in_matrix m rs h)) (line s a);
    })
cut (matrix {l = l} {m = m} {ls = ls} {ms = rs} bs cs n p q a) ms e =
    let i : in_matrix l ≡ false = opening_out l n.opens in
    let j : in_matrix m ≡ false = opening_out m (other_opens l bs m cs n) in
    record {
      rest = l ∷ (bs ++ ls);
      are = ap (λ (zs : List Line). zs ++ (l ∷ (bs ++ ls))) (sym (up_out in_matrix l (bs ++ ls) i));
      more = subst (AlikeLines (l ∷ (bs ++ ls))) (e ∙ ap (λ (zs : List Line). zs ++ ms) (up_out in_matrix m (cs ++ rs) j)) (matrix bs cs n p q a);
    }

-- what is left of the induction: shorter middle texts
abbrev Shorter : ℕ → Type 0
Shorter f = (ls ms ns : List Line) → length ms < f → AlikeLines ls ms → AlikeLines ms ns → AlikeLines ls ns

-- a matrix whose lines say the same as those of one that is written in another form
line_matrix_lem :
    (f : ℕ) → Shorter f → (l m k : Line) (ls cs ms ds ns : List Line) → length (cs ++ ms) < f → SameLine l m → AlikeLines ls (cs ++ ms) →
    SameNumbers m cs k ds → up_to in_matrix (cs ++ ms) ≡ cs → up_to in_matrix (ds ++ ns) ≡ ds → AlikeLines ms ns →
    AlikeLines (l ∷ ls) (k ∷ (ds ++ ns))
line_matrix_lem f shorter l m k ls cs ms ds ns less s a n p q b =
    let o : opens_matrix_at l ≡ true = opens_alike l m s ∙ n.opens in
    let c : Cut ls ms = cut a ms (ap (λ (zs : List Line). zs ++ ms) (sym p)) in
    let size : length (cs ++ ms) ≡ length cs + length ms = length-append cs ms in
    let numbers : SameNumbers l (up_to in_matrix ls) m cs = subst (SameNumbers l (up_to in_matrix ls) m) p (lines_numbers l m ls (cs ++ ms) s a o) in
    let r : AlikeLines (l ∷ (up_to in_matrix ls ++ c.rest)) (k ∷ (ds ++ ns)) =
    matrix (up_to in_matrix ls) ds (numbers_through l (up_to in_matrix ls) m cs k ds numbers n) (ap (up_to in_matrix) (sym c.are)) q (shorter c.rest ms ns (omega arith) c.more b) in
    subst (λ (zs : List Line). AlikeLines (l ∷ zs) (k ∷ (ds ++ ns))) (sym c.are) r

drop_append : (cs ms : List Line) → drop (length cs) (cs ++ ms) ≡ ms
drop_append [] ms = refl
drop_append (c ∷ cs) ms = drop_append cs ms

module _ (f : ℕ) (shorter : Shorter f) where
  -- the first of the two is a matrix
  matrix_case :
      (l m : Line) (bs ls cs ms : List Line) → length (cs ++ ms) < f → SameNumbers l bs m cs → up_to in_matrix (bs ++ ls) ≡ bs → up_to in_matrix (cs ++ ms) ≡ cs →
      AlikeLines ls ms → {ys ns : List Line} → AlikeLines ys ns → (m ∷ (cs ++ ms)) ≡ ys → AlikeLines (l ∷ (bs ++ ls)) ns
  matrix_case l m bs ls cs ms less n p q a none e = absurd (omega (arith, ap length e))
  matrix_case l m bs ls cs ms less n p q a (line {l = x} {m = k} {ls = rs} {ms = ns} t b) e =
      let i : m ≡ x = ap (head_of m) e in
      let j : cs ++ ms ≡ rs = ap tail_of e in
      let t' : SameLine k m = line_back m k (subst (λ (z : Line). SameLine z k) (sym i) t) in
      let b' : AlikeLines ns (cs ++ ms) = lines_back (subst (λ (zs : List Line). AlikeLines zs ns) (sym j) b) in
      lines_back (line_matrix_lem f shorter k m l ns cs ms bs ls less t' b' (numbers_back l bs m cs n) q p (lines_back a))
  matrix_case l m bs ls cs ms less n p q a (matrix {l = x} {m = k} {ls = rs} {ms = ns} es ds o u w b) e =
      let i : m ≡ x = ap (head_of m) e in
      let j : cs ++ ms ≡ es ++ rs = ap tail_of e in
      let c : cs ≡ es = sym q ∙ ap (up_to in_matrix) j ∙ u in
      let d : ms ≡ rs = sym (drop_append cs ms) ∙ (λ z. drop (length (c z)) (j z)) ∙ drop_append es rs in
      let size : length (cs ++ ms) ≡ length cs + length ms = length-append cs ms in
      let o' : SameNumbers m cs k ds = subst (λ (z : Line). SameNumbers z cs k ds) (sym i) (subst (λ (zs : List Line). SameNumbers x zs k ds) (sym c) o) in
      matrix bs ds (numbers_through l bs m cs k ds n o') p w (shorter ls ms ns (omega arith) a (subst (λ (zs : List Line). AlikeLines zs ns) (sym d) b))

  -- the first of the two is a line
  line_case :
      (l m : Line) (ls ms : List Line) → length ms < f → SameLine l m → AlikeLines ls ms → {ys ns : List Line} → AlikeLines ys ns → (m ∷ ms) ≡ ys → AlikeLines (l ∷ ls) ns
  line_case l m ls ms less s a none e = absurd (omega (arith, ap length e))
  line_case l m ls ms less s a (line {l = x} {m = k} {ls = rs} {ms = ns} t b) e =
      let i : m ≡ x = ap (head_of m) e in
      let j : ms ≡ rs = ap tail_of e in
      line (line_through l m k s (subst (λ (z : Line). SameLine z k) (sym i) t)) (shorter ls ms ns less a (subst (λ (zs : List Line). AlikeLines zs ns) (sym j) b))
  line_case l m ls ms less s a (matrix {l = x} {m = k} {ls = rs} {ms = ns} es ds o u w b) e =
      let i : m ≡ x = ap (head_of m) e in
      let j : ms ≡ es ++ rs = ap tail_of e in
      line_matrix_lem f shorter l x k ls es rs ds ns (rw j at less) (subst (SameLine l) i s) (subst (AlikeLines ls) j a) o u w b

none_case : {ys ns : List Line} → AlikeLines ys ns → [] ≡ ys → AlikeLines [] ns
none_case none e = none
none_case (line s a) e = absurd (omega (arith, ap length e))
none_case (matrix bs cs n p q a) e = absurd (omega (arith, ap length e))

first_case : (f : ℕ) → Shorter f → {ls ms : List Line} → length ms < suc f → AlikeLines ls ms → {ns : List Line} → AlikeLines ms ns → AlikeLines ls ns
first_case f shorter less none b = none_case b refl
first_case f shorter less (line {l = l} {m = m} {ls = ls} {ms = ms} s a) b = line_case f shorter l m ls ms (omega arith) s a b refl
first_case f shorter less (matrix {l = l} {m = m} {ls = ls} {ms = ms} bs cs n p q a) b = matrix_case f shorter l m bs ls cs ms (omega arith) n p q a b refl

lines_through : (f : ℕ) → Shorter f
lines_through zero ls ms ns less a b = absurd (omega arith)
lines_through (suc f) ls ms ns less a b = first_case f (lines_through f) less a b

-- two texts that are alike with a third are alike
pub alike_through : (t u w : List ℕ) → Alike t u → Alike u w → Alike t w
alike_through t u w a b = lines_through (suc (length (significant u))) (significant t) (significant u) (significant w) (omega arith) a b
