-- Lines that write the entries v i j in one of the four forms: the number that they write at a row and a column is
-- v there, and they have n conductors. So two matrices, in any two of the forms, that write the same entries write the
-- same numbers.
-- Assumes nothing.
use Rattle.std.proofs.Common.{unwrap_or}
use Prim.Native.Nat.{ℕ, zero, suc, ◌+◌, ◌-◌, ◌≤◌, ◌<◌, min, max}
use mathlib.Core.Path.{◌≡◌, refl, sym, ◌∙◌, ap}
use mathlib.Core.Bool.{Bool, true, false}
use mathlib.Core.List.{List, [], ◌∷◌, ◌++◌}
use native.Mathlib.Omega.{arith}
use lib.ListN.{length, get_or, length-append, length-map}
use lib.Dec.{ltb, eqb}
use borrow.Author.Tests.{eq-eqb, ne_eqb, eqb-true, eqb-false, ltb-true, ltb-false}
use Rattle.table_layout.specs.Codes.{diagonal, banded, sparse, full}
use Rattle.base.specs.If.{provided◌then◌else◌}
use Rattle.base.proofs.IfLaws.{if_true, if_false, by_test, by_cases, both_true, both_not_left}
use Rattle.lex_line.specs.Words.{words, first_of, second_of}
use Rattle.lex_number.specs.Integer.{whole_of}
use Rattle.lex_number.specs.ValueWord.{zero_word}
use Rattle.lex_keyword.specs.Names.{row}
use Rattle.doc.specs.Lines.{Line, plain, key_of, up_to}
use Rattle.doc.specs.Document.{given_by, numbers_at, values_from, named_by, greatest_in, conductors_in, opens_matrix_at}
use Rattle.doc.specs.Holds.{Each}
use Rattle.doc.proofs.GatherLaws.{up_in, up_none, up_out}
use Rattle.doc.proofs.RiseLaws.{numbers_length, values_none, values_down}
use Rattle.law_alike.specs.Written.{is_plain, row_lines, numbers_of, word_of, sparse_word, written_at}
use Rattle.law_alike.specs.Alike.{form_at, SameNumbers}
use Rattle.law_alike.specs.Way.Carried.{value_of, along, down, Says, Rows, Pairs, pair, SparseRows, Names, here, later, Carries, diagonally, fully, in_a_band, sparsely}
use Rattle.law_alike.proofs.WrittenLaws.{plain_is, row_is_not, numbers_of_none, numbers_of_plain, lines_none, lines_here, lines_other, lines_past, sparse_later}

-- ---- the entries of a row, and of the diagonal

along_inside : (v : ℕ → ℕ → ℕ) (i j n k : ℕ) → k < n → get_or (along v i j n) k zero_word ≡ v i (j + k)
unfolding along
along_inside v i j zero k h = absurd (omega arith)
along_inside v i j (suc n) zero h = let e : j ≡ j + 0 = omega arith in ap (v i) e
along_inside v i j (suc n) (suc k) h = let e : suc j + k ≡ j + suc k = omega arith in along_inside v i (suc j) n k (omega arith) ∙ ap (v i) e

along_outside : (v : ℕ → ℕ → ℕ) (i j n k : ℕ) → n ≤ k → get_or (along v i j n) k zero_word ≡ zero_word
unfolding along
along_outside v i j zero k h = refl
along_outside v i j (suc n) zero h = absurd (omega arith)
along_outside v i j (suc n) (suc k) h = along_outside v i (suc j) n k (omega arith)

down_inside : (v : ℕ → ℕ → ℕ) (i n k : ℕ) → k < n → get_or (down v i n) k zero_word ≡ v (i + k) (i + k)
unfolding down
down_inside v i zero k h = absurd (omega arith)
down_inside v i (suc n) zero h = let e : i ≡ i + 0 = omega arith in ap (λ (x : ℕ). v x x) e
down_inside v i (suc n) (suc k) h = let e : suc i + k ≡ i + suc k = omega arith in down_inside v (suc i) n k (omega arith) ∙ ap (λ (x : ℕ). v x x) e

down_length : (v : ℕ → ℕ → ℕ) (i n : ℕ) → length (down v i n) ≡ n
unfolding down
down_length v i zero = refl
down_length v i (suc n) = ap suc (down_length v (suc i) n)

-- ---- lines without a keyword

-- a keyword, or nothing, stands first
abbrev Shut : List Line → Type 0
Shut ls = up_to is_plain ls ≡ []

-- the lines that pass a test, up to a line that does not
pub passing_up : (inside : Line → Bool) {ls : List Line} → Each (λ (l : Line). inside l ≡ true) ls → (rest : List Line) → up_to inside rest ≡ [] → up_to inside (ls ++ rest) ≡ ls
passing_up inside Each.none rest h = h
passing_up inside (Each.more {x = l} {xs = ls} k ks) rest h = up_in inside l (ls ++ rest) k ∙ ap (λ (xs : List Line). l ∷ xs) (passing_up inside ks rest h)

plains_pass : {ls : List Line} → Each (λ (l : Line). key_of l ≡ plain) ls → Each (λ (l : Line). is_plain l ≡ true) ls
plains_pass Each.none = Each.none
plains_pass (Each.more {x = l} k ks) = Each.more (plain_is l k) (plains_pass ks)

plains_up : {ls : List Line} → Each (λ (l : Line). key_of l ≡ plain) ls → (rest : List Line) → Shut rest → up_to is_plain (ls ++ rest) ≡ ls
plains_up ks rest h = passing_up is_plain (plains_pass ks) rest h

plains_past : (i : ℕ) {ls : List Line} → Each (λ (l : Line). key_of l ≡ plain) ls → (rest : List Line) → row_lines i (ls ++ rest) ≡ row_lines i rest
plains_past i Each.none rest = refl
plains_past i (Each.more {x = l} {xs = ls} k ks) rest = lines_past i l (ls ++ rest) (ap (λ (x : ℕ). eqb x row) k) ∙ plains_past i ks rest

row_shut : (l : Line) (ls : List Line) → key_of l ≡ row → Shut (l ∷ ls)
row_shut l ls k = up_out is_plain l ls (row_is_not l k)

said_word : (k : ℕ) (ls : List Line) (numbers : List ℕ) → Says ls numbers → word_of k (numbers_of ls) ≡ get_or numbers k zero_word
unfolding word_of
said_word k ls numbers s = ap (λ (xs : List ℕ). get_or xs k zero_word) s.said

-- ---- the greatest row or column named

greatest_none : (form : ℕ) → greatest_in form [] ≡ 0
unfolding greatest_in
greatest_none form = refl

greatest_more : (form : ℕ) (l : Line) (ls : List Line) → greatest_in form (l ∷ ls) ≡ max (named_by form l) (greatest_in form ls)
unfolding greatest_in
greatest_more form l ls = refl

module _ (form : ℕ) (l : Line) where
  named_row : key_of l ≡ row → named_by form l ≡ given_by l
  unfolding named_by
  named_row k = if_true _ _ (eq-eqb _ _ k)

  named_other : (key_of l ≡ row → ⊥) → (form ≡ sparse → ⊥) → named_by form l ≡ 0
  unfolding named_by
  named_other k s = if_false _ _ (ne_eqb _ _ k) ∙ if_false _ _ (both_not_left _ _ (ne_eqb _ _ s))

  named_pair : key_of l ≡ plain → form ≡ sparse → named_by form l ≡ unwrap_or (whole_of (first_of (words l.content))) 0
  unfolding named_by
  named_pair k s = if_false _ _ (ap (λ (x : ℕ). eqb x row) k) ∙ if_true _ _ (both_true _ _ (eq-eqb _ _ s) (eq-eqb _ _ k))

plains_greatest : (form : ℕ) → (form ≡ sparse → ⊥) → {ls : List Line} → Each (λ (l : Line). key_of l ≡ plain) ls → (rest : List Line) → greatest_in form (ls ++ rest) ≡ greatest_in form rest
plains_greatest form s Each.none rest = refl
plains_greatest form s (Each.more {x = l} {xs = ls} k ks) rest =
    let e : named_by form l ≡ 0 = named_other form l (λ (q : key_of l ≡ row). omega (arith, k)) s in
    let g : greatest_in form (ls ++ rest) ≡ greatest_in form rest = plains_greatest form s ks rest in
    let m : max 0 (greatest_in form rest) ≡ greatest_in form rest = omega arith in
    greatest_more form l (ls ++ rest) ∙ (λ i. max (e i) (g i)) ∙ m

-- from row 1 on: n, also where there is no row
first_row : (n : ℕ) → (provided eqb 1 (suc n) then 0 else n) ≡ n
first_row n = by_test (λ (x : ℕ). x ≡ n) (eqb 1 (suc n)) _ _ (λ (e : eqb 1 (suc n) ≡ true). let q : 1 ≡ suc n = eqb-true 1 (suc n) e in omega arith) (λ (e : eqb 1 (suc n) ≡ false). refl)

pair_here : (j : ℕ) (l : Line) (ls : List Line) → unwrap_or (whole_of (first_of (words l.content))) 0 ≡ j → sparse_word j (l ∷ ls) ≡ value_of (second_of (words l.content))
unfolding sparse_word
pair_here j l ls e = if_true _ _ (eq-eqb _ _ e)

-- ---- rows in order

module _ (v : ℕ → ℕ → ℕ) (n : ℕ) (size : ℕ → ℕ) where
  rows_shut : {i : ℕ} {body : List Line} → Rows v n size i body → Shut body
  rows_shut (Rows.ended e) = up_none is_plain
  rows_shut (Rows.next {l = l} {ls = ls} {rest = rest} h k g s r) = row_shut l (ls ++ rest) k

  -- the number of row x, k columns behind the diagonal
  rows_written : {i : ℕ} {body : List Line} → Rows v n size i body → (x k : ℕ) → i ≤ x → x ≤ n → word_of k (numbers_of (row_lines x body)) ≡ get_or (along v x x (size x)) k zero_word
  rows_written (Rows.ended e) x k low high = absurd (omega arith)
  rows_written (Rows.next {i = i} {l = l} {ls = ls} {rest = rest} h key g s r) x k low high =
      by_cases _ (eqb i x)
      (λ (e : eqb i x ≡ true).
      let q : i ≡ x = eqb-true i x e in
      ap (λ (xs : List Line). word_of k (numbers_of xs)) (lines_here x l (ls ++ rest) key (g ∙ q) ∙ plains_up s.plainly rest (rows_shut r))
      ∙ said_word k ls (along v i i (size i)) s ∙ ap (λ (y : ℕ). get_or (along v y y (size y)) k zero_word) q)
      (λ (e : eqb i x ≡ false).
      let q : i ≡ x → ⊥ = eqb-false i x e in
      ap (λ (xs : List Line). word_of k (numbers_of xs)) (lines_other x l (ls ++ rest) (λ (y : given_by l ≡ x). q (sym g ∙ y)) ∙ plains_past x s.plainly rest)
      ∙ rows_written r x k (omega arith) high)

  rows_greatest : (form : ℕ) → (form ≡ sparse → ⊥) → {i : ℕ} {body : List Line} → Rows v n size i body → greatest_in form body ≡ (provided eqb i (suc n) then 0 else n)
  rows_greatest form s (Rows.ended e) = greatest_none form ∙ sym (if_true _ _ (eq-eqb _ _ e))
  rows_greatest form s (Rows.next {i = i} {l = l} {ls = ls} {rest = rest} h key g said r) =
      let a : named_by form l ≡ i = named_row form l key ∙ g in
      let b : greatest_in form (ls ++ rest) ≡ greatest_in form rest = plains_greatest form s said.plainly rest in
      let c : greatest_in form rest ≡ (provided eqb (suc i) (suc n) then 0 else n) = rows_greatest form s r in
      greatest_more form l (ls ++ rest) ∙ (λ k. max (a k) ((b ∙ c) k))
      ∙ by_cases _ (eqb (suc i) (suc n))
      (λ (e : eqb (suc i) (suc n) ≡ true). ap (max i) (if_true _ _ e) ∙ last_row (eqb-true _ _ e))
      (λ (e : eqb (suc i) (suc n) ≡ false). ap (max i) (if_false _ _ e) ∙ (let m : max i n ≡ n = omega arith in m))
      ∙ sym (if_false _ _ (ne_eqb i (suc n) (λ (q : i ≡ suc n). omega arith)))
    where
      last_row : suc i ≡ suc n → max i 0 ≡ n
      last_row e = omega arith

-- ---- a diagonal

plains_count : {ls : List Line} → Each (λ (l : Line). key_of l ≡ plain) ls → (r c : ℕ) → length (values_from diagonal r c ls) ≡ length (numbers_of ls)
plains_count Each.none r c = ap length (values_none diagonal r c) ∙ sym (ap length numbers_of_none)
plains_count (Each.more {x = l} {xs = ls} k ks) r c =
    ap length (values_down diagonal r c l ls k refl)
    ∙ length-append (numbers_at diagonal r c (words l.content)) (values_from diagonal (r + length (words l.content)) (c + length (words l.content)) ls)
    ∙ (λ i. numbers_length diagonal r c (words l.content) i + plains_count ks (r + length (words l.content)) (c + length (words l.content)) i)
    ∙ sym (ap length (numbers_of_plain l ls k) ∙ length-append (words l.content) (numbers_of ls))

-- ---- columns and rows that rise

module _ (v : ℕ → ℕ → ℕ) (n i : ℕ) where
  pub pairs_plain : {c : ℕ} {ls : List Line} → Pairs v n i c ls → Each (λ (l : Line). key_of l ≡ plain) ls
  pairs_plain (Pairs.ended z) = Each.none
  pairs_plain (pair j low high k column value z ps) = Each.more k (pairs_plain ps)

  -- no line has a column below the first that may come
  pairs_below : {c : ℕ} {ls : List Line} → Pairs v n i c ls → (x : ℕ) → x < c → sparse_word x ls ≡ zero_word
  unfolding sparse_word
  pairs_below (Pairs.ended z) x h = refl
  pairs_below (pair {l = l} {ls = ls} j low high k column value z ps) x h =
      sparse_later x l ls (λ (e : unwrap_or (whole_of (first_of (words l.content))) 0 ≡ x). omega (arith, column, e)) ∙ pairs_below ps x (omega arith)

  pairs_written : {c : ℕ} {ls : List Line} → Pairs v n i c ls → (x : ℕ) → c ≤ x → x ≤ n → sparse_word x ls ≡ v i x
  unfolding sparse_word
  pairs_written (Pairs.ended z) x low high = sym (z x low high)
  pairs_written (pair {c = c} {l = l} {ls = ls} j from most k column value z ps) x low high =
      by_cases _ (eqb j x)
      (λ (e : eqb j x ≡ true).
      let q : j ≡ x = eqb-true j x e in
      pair_here x l ls (column ∙ q) ∙ value ∙ ap (v i) q)
      (λ (e : eqb j x ≡ false).
      let q : j ≡ x → ⊥ = eqb-false j x e in
      sparse_later x l ls (λ (y : unwrap_or (whole_of (first_of (words l.content))) 0 ≡ x). q (sym column ∙ y))
      ∙ by_cases _ (ltb x j)
      (λ (h : ltb x j ≡ true). let less : x < j = ltb-true x j h in pairs_below ps x (omega arith) ∙ sym (z x low less))
      (λ (h : ltb x j ≡ false). let more : j ≤ x = ltb-false x j h in pairs_written ps x (omega arith) high))

  pairs_least : {c : ℕ} {ls : List Line} → Pairs v n i c ls → (rest : List Line) → greatest_in sparse rest ≤ n → greatest_in sparse (ls ++ rest) ≤ n
  pairs_least (Pairs.ended z) rest h = h
  pairs_least (pair {l = l} {ls = ls} j low high k column value z ps) rest h =
      let e : named_by sparse l ≡ j = named_pair sparse l k refl ∙ column in
      let g : greatest_in sparse (ls ++ rest) ≤ n = pairs_least ps rest h in
      rw (greatest_more sparse l (ls ++ rest)) (omega (arith, e, g, high))

module _ (v : ℕ → ℕ → ℕ) (n : ℕ) where
  sparse_shut : {i : ℕ} {body : List Line} → SparseRows v n i body → Shut body
  sparse_shut (SparseRows.ended z) = up_none is_plain
  sparse_shut (SparseRows.next {l = l} {ls = ls} {rest = rest} r low high k g z ps rs) = row_shut l (ls ++ rest) k

  -- no row above the first that may come
  sparse_above : {i : ℕ} {body : List Line} → SparseRows v n i body → (x : ℕ) → x < i → row_lines x body ≡ []
  sparse_above (SparseRows.ended z) x h = lines_none x
  sparse_above (SparseRows.next {l = l} {ls = ls} {rest = rest} r low high k g z ps rs) x h =
      lines_other x l (ls ++ rest) (λ (e : given_by l ≡ x). omega (arith, g, e)) ∙ plains_past x (pairs_plain v n r ps) rest ∙ sparse_above rs x (omega arith)

  sparse_written : {i : ℕ} {body : List Line} → SparseRows v n i body → (x j : ℕ) → i ≤ x → x ≤ j → j ≤ n → sparse_word j (row_lines x body) ≡ v x j
  unfolding sparse_word
  sparse_written (SparseRows.ended z) x j low mid high = ap (sparse_word j) (lines_none x) ∙ sym (z x j low mid high)
  sparse_written (SparseRows.next {i = i} {l = l} {ls = ls} {rest = rest} r from most k g z ps rs) x j low mid high =
      by_cases _ (eqb r x)
      (λ (e : eqb r x ≡ true).
      let q : r ≡ x = eqb-true r x e in
      ap (sparse_word j) (lines_here x l (ls ++ rest) k (g ∙ q) ∙ plains_up (pairs_plain v n r ps) rest (sparse_shut rs))
      ∙ pairs_written v n r ps j (omega arith) high ∙ ap (λ (y : ℕ). v y j) q)
      (λ (e : eqb r x ≡ false).
      let q : r ≡ x → ⊥ = eqb-false r x e in
      ap (sparse_word j) (lines_other x l (ls ++ rest) (λ (y : given_by l ≡ x). q (sym g ∙ y)) ∙ plains_past x (pairs_plain v n r ps) rest)
      ∙ by_cases _ (ltb x r)
      (λ (h : ltb x r ≡ true).
      let less : x < r = ltb-true x r h in
      ap (sparse_word j) (sparse_above rs x (omega arith)) ∙ sym (z x j low less mid high))
      (λ (h : ltb x r ≡ false). let more : r ≤ x = ltb-false x r h in sparse_written rs x j (omega arith) mid high))

  sparse_least : {i : ℕ} {body : List Line} → SparseRows v n i body → greatest_in sparse body ≤ n
  sparse_least (SparseRows.ended z) = rw (greatest_none sparse) (omega arith)
  sparse_least (SparseRows.next {l = l} {ls = ls} {rest = rest} r low high k g z ps rs) =
      let e : named_by sparse l ≡ r = named_row sparse l k ∙ g in
      let h : greatest_in sparse (ls ++ rest) ≤ n = pairs_least v n r ps rest (sparse_least rs) in
      rw (greatest_more sparse l (ls ++ rest)) (omega (arith, e, h, high))

names_most : {n : ℕ} {ls : List Line} → Names n ls → n ≤ greatest_in sparse ls
names_most {n} (here {l = l} {ls = ls} e) = rw (greatest_more sparse l ls) (omega (arith, e))
names_most {n} (later {l = l} {ls = ls} h) = let g : n ≤ greatest_in sparse ls = names_most h in rw (greatest_more sparse l ls) (omega (arith, g))

-- ---- in any form

module _ (v : ℕ → ℕ → ℕ) (n : ℕ) where
  module _ (body : List Line) where
    diagonal_at : (i : ℕ) → written_at diagonal body i i ≡ word_of (i - 1) (numbers_of body)
    unfolding written_at
    diagonal_at i = if_true _ _ refl ∙ if_true _ _ (eq-eqb i i refl)

    diagonal_off : (i j : ℕ) → (i ≡ j → ⊥) → written_at diagonal body i j ≡ zero_word
    unfolding written_at
    diagonal_off i j d = if_true _ _ refl ∙ if_false _ _ (ne_eqb i j d)

    sparse_at_lem : (i j : ℕ) → written_at sparse body i j ≡ sparse_word j (row_lines i body)
    unfolding written_at
    sparse_at_lem i j = if_false _ _ refl ∙ if_true _ _ refl

    banded_at : (i j : ℕ) → written_at banded body i j ≡ word_of (j - i) (numbers_of (row_lines i body))
    unfolding written_at
    banded_at i j = if_false _ _ refl ∙ if_false _ _ refl

    full_at : (i j : ℕ) → written_at full body i j ≡ word_of (j - i) (numbers_of (row_lines i body))
    unfolding written_at
    full_at i j = if_false _ _ refl ∙ if_false _ _ refl

  -- the number that the lines write at a row and a column is the entry there
  pub carried_written : {form : ℕ} {body : List Line} → Carries v n form body → (i j : ℕ) → 1 ≤ i → i ≤ j → j ≤ n → written_at form body i j ≡ v i j
  carried_written (diagonally {body = body} s off) i j low mid high =
      by_cases _ (eqb i j)
      (λ (e : eqb i j ≡ true).
      let q : i ≡ j = eqb-true i j e in
      let m : 1 + (i - 1) ≡ i = omega arith in
      ap (written_at diagonal body i) (sym q) ∙ diagonal_at body i ∙ said_word (i - 1) body (down v 1 n) s ∙ down_inside v 1 n (i - 1) (omega arith)
      ∙ ap (λ (x : ℕ). v x x) m ∙ ap (v i) q)
      (λ (e : eqb i j ≡ false).
      let q : i ≡ j → ⊥ = eqb-false i j e in
      diagonal_off body i j q ∙ sym (off i j low (omega arith) high))
  carried_written (fully {body = body} r) i j low mid high =
      let m : i + (j - i) ≡ j = omega arith in
      full_at body i j ∙ rows_written v n (λ (x : ℕ). n - x + 1) r i (j - i) low (omega arith) ∙ along_inside v i i (n - i + 1) (j - i) (omega arith) ∙ ap (v i) m
  carried_written (in_a_band {l = l} {body = body} b k g r z) i j low mid high =
      let m : i + (j - i) ≡ j = omega arith in
      banded_at (l ∷ body) i j ∙ ap (λ (xs : List Line). word_of (j - i) (numbers_of xs)) (lines_past i l body (ap (λ (x : ℕ). eqb x row) k))
      ∙ rows_written v n (λ (x : ℕ). 1 + min b (n - x)) r i (j - i) low (omega arith)
      ∙ by_cases _ (ltb (i + b) j)
      (λ (h : ltb (i + b) j ≡ true).
      let out : i + b < j = ltb-true (i + b) j h in
      along_outside v i i (1 + min b (n - i)) (j - i) (omega arith) ∙ sym (z i j low out high))
      (λ (h : ltb (i + b) j ≡ false).
      let in_band : j ≤ i + b = ltb-false (i + b) j h in
      along_inside v i i (1 + min b (n - i)) (j - i) (omega arith) ∙ ap (v i) m)
  carried_written (sparsely {body = body} r names) i j low mid high = sparse_at_lem body i j ∙ sparse_written v n r i j low mid high

  -- and they have n conductors
  pub carried_conductors : {form : ℕ} {body : List Line} → Carries v n form body → conductors_in form body ≡ n
  unfolding conductors_in
  carried_conductors (diagonally {body = body} s off) =
      if_true _ _ refl ∙ plains_count s.plainly 1 1 ∙ sym (length-map (numbers_of body) value_of) ∙ ap length s.said ∙ down_length v 1 n
  carried_conductors (fully {body = body} r) = if_false _ _ refl ∙ rows_greatest v n (λ (x : ℕ). n - x + 1) full (λ (e : full ≡ sparse). omega arith) r ∙ first_row n
  carried_conductors (in_a_band {l = l} {body = body} b k g r z) =
      let e : named_by banded l ≡ 0 = named_other banded l (λ (q : key_of l ≡ row). omega (arith, k, q)) (λ (q : banded ≡ sparse). omega arith) in
      let m : max 0 (greatest_in banded body) ≡ greatest_in banded body = omega arith in
      if_false _ _ refl ∙ greatest_more banded l body ∙ ap (λ (x : ℕ). max x (greatest_in banded body)) e ∙ m
      ∙ rows_greatest v n (λ (x : ℕ). 1 + min b (n - x)) banded (λ (q : banded ≡ sparse). omega arith) r ∙ first_row n
  carried_conductors (sparsely {body = body} r names) =
      let low : n ≤ greatest_in sparse body = names_most names in
      let high : greatest_in sparse body ≤ n = sparse_least v n r in
      if_false _ _ refl ∙ omega (arith, low, high)

  -- two matrices of one kind, in any two of the forms, that write the same entries
  pub carried_same :
      (l : Line) (bs : List Line) (m : Line) (cs : List Line) → opens_matrix_at l ≡ true → l.place ≡ m.place → key_of l ≡ key_of m →
      Carries v n (form_at l) bs → Carries v n (form_at m) cs → SameNumbers l bs m cs
  carried_same l bs m cs o p k f g =
      record {
        opens = o;
        place = p;
        kind = k;
        conductors = carried_conductors f ∙ sym (carried_conductors g);
        numbers =
            λ (i j : ℕ) (low : 1 ≤ i) (mid : i ≤ j) (high : j ≤ conductors_in (form_at l) bs).
            let top : j ≤ n = rw (carried_conductors f) at high in
            carried_written f i j low mid top ∙ sym (carried_written g i j low mid top);
      }
