-- A matrix block written in another form. Where two blocks write the same entries, the texts around them stay alike.
-- Assumes nothing.
use Prim.Native.Nat.{ℕ, ◌+◌, ◌≤◌}
use mathlib.Core.Path.{◌≡◌, refl, sym, ◌∙◌, ap, subst}
use mathlib.Core.Bool.{Bool, true, false, true≢false}
use mathlib.Core.List.{List, [], ◌∷◌, ◌++◌, map, map-append}
use lib.Dec.{eqb}
use borrow.Author.Tests.{eq-eqb, ne_eqb, eqb-true}
use Rattle.base.specs.If.{either}
use Rattle.base.proofs.IfLaws.{if_true, if_false, by_cases, both_true, both_not_right, either_left, either_right, either_rest}
use Rattle.lex_line.specs.Lines.{Said, is_blank_line, contents}
use Rattle.lex_keyword.specs.Names.{row, bandwidth}
use Rattle.line_place.specs.Place.{before, moved, moved_by_line, is_in_model, is_in_family, is_in_header, opens_matrix, is_row_or_bandwidth, leads_in_matrix, leads_in_section}
use Rattle.line_place.specs.Place as place
use Rattle.line_argument.specs.Argument.{form_of}
use Rattle.doc.specs.Lines.{Line, plain, key_at, key_of, argument_of, place_after, lines_from, up_to}
use Rattle.doc.specs.Document.{in_matrix, opens_matrix_at, given_by, conductors_in}
use Rattle.doc.specs.Holds.{Each}
use Rattle.doc.proofs.StandsLaws.{each_append}
use Rattle.doc.proofs.GatherLaws.{up_none, up_out}
use Rattle.doc.proofs.Goes.{lines_blank, lines_said, lines_none}
use Rattle.law_alike.specs.Written.{written_at}
use Rattle.law_alike.specs.Alike.{argument_text, form_at, SameNumbers, Alike}
use Rattle.law_alike.specs.Way.Same.{All2}
use Rattle.law_alike.specs.Way.Carried.{Rows, SparseRows, Carries, diagonally, fully, in_a_band, sparsely}
use Rattle.law_alike.proofs.MatrixLaws.{SameBody, conductors_same, written_same, body_keys}
use Rattle.law_alike.proofs.WideLaws.{place_behind, line_as, Ends, SameContents, block, texts_alike, text_of, Whole, said_of, contents_front, contents_self, text_contents}
use Rattle.law_alike.proofs.FormLaws.{passing_up, pairs_plain, carried_written, carried_conductors}

-- ---- the lines of a matrix

-- a line without a keyword, [Row] or [Bandwidth]
abbrev stays : ℕ → Bool
stays k = either (eqb k plain) (is_row_or_bandwidth k)

plain_stays : (k : ℕ) → k ≡ plain → stays k ≡ true
plain_stays k e = either_left _ _ (eq-eqb _ _ e)

row_stays : (k : ℕ) → k ≡ row → stays k ≡ true
unfolding is_row_or_bandwidth
row_stays k e = either_right _ _ (either_left _ _ (eq-eqb _ _ e))

width_stays : (k : ℕ) → k ≡ bandwidth → stays k ≡ true
unfolding is_row_or_bandwidth
width_stays k e = either_right _ _ (either_right _ _ (eq-eqb _ _ e))

abbrev Stays : Line → Type 0
Stays l = stays (key_of l) ≡ true

plains_stay : {ls : List Line} → Each (λ (l : Line). key_of l ≡ plain) ls → Each Stays ls
plains_stay Each.none = Each.none
plains_stay (Each.more {x = l} k ks) = Each.more (plain_stays (key_of l) k) (plains_stay ks)

module _ (v : ℕ → ℕ → ℕ) (n : ℕ) where
  rows_stay : {size : ℕ → ℕ} {i : ℕ} {body : List Line} → Rows v n size i body → Each Stays body
  rows_stay (Rows.ended e) = Each.none
  rows_stay (Rows.next {l = l} h k g s r) = Each.more (row_stays (key_of l) k) (each_append (plains_stay s.plainly) (rows_stay r))

  sparse_stay : {i : ℕ} {body : List Line} → SparseRows v n i body → Each Stays body
  sparse_stay (SparseRows.ended z) = Each.none
  sparse_stay (SparseRows.next {l = l} r low high k g z ps rs) = Each.more (row_stays (key_of l) k) (each_append (plains_stay (pairs_plain v n r ps)) (sparse_stay rs))

  carried_stay : {form : ℕ} {body : List Line} → Carries v n form body → Each Stays body
  carried_stay (diagonally s off) = plains_stay s.plainly
  carried_stay (fully r) = rows_stay r
  carried_stay (in_a_band {l = l} b k g r z) = Each.more (width_stays (key_of l) k) (rows_stay r)
  carried_stay (sparsely r names) = sparse_stay r

-- ---- the lines of a block, wherever it stands in a text

each_head : {P : Line → Type 0} {l : Line} {ls : List Line} → Each P (l ∷ ls) → P l
each_head (Each.more h hs) = h

each_tail : {P : Line → Type 0} {l : Line} {ls : List Line} → Each P (l ∷ ls) → Each P ls
each_tail (Each.more h hs) = hs

-- such a line leads back into the matrix
matrix_moved : (k : ℕ) → is_row_or_bandwidth k ≡ true → moved place.matrix k ≡ place.matrix
unfolding moved leads_in_matrix
matrix_moved k e = if_true _ _ refl ∙ if_true _ _ e

matrix_stays : (c : List ℕ) → stays (key_at c) ≡ true → place_after place.matrix c ≡ place.matrix
unfolding place_after moved_by_line
matrix_stays c e =
    by_cases _ (eqb (key_at c) plain) (λ (h : eqb (key_at c) plain ≡ true). if_true _ _ h ∙ if_false _ _ refl)
    (λ (h : eqb (key_at c) plain ≡ false). if_false _ _ h ∙ matrix_moved (key_at c) (sym (either_rest _ _ h) ∙ e))

key_of_lem : (n at p : ℕ) (r : Said) → key_of (line_as n at p r) ≡ key_at r.content
unfolding key_of
key_of_lem n at p r = refl

inside_line : (n at : ℕ) (r : Said) → stays (key_at r.content) ≡ true → in_matrix (line_as n at place.matrix r) ≡ true
unfolding in_matrix key_of
inside_line n at r e = both_true _ _ refl e

-- all lines of a block that are not blank stay in the matrix
record Block (bs : List Said) : Type 0 where
  behind : place_behind place.matrix bs ≡ place.matrix
  inside : (n at : ℕ) → Each (λ (l : Line). in_matrix l ≡ true) (lines_from n at place.matrix bs)

place_blank : (p : ℕ) (r : Said) (bs : List Said) → is_blank_line r.content ≡ true → place_behind p (r ∷ bs) ≡ place_behind p bs
unfolding place_behind
place_blank p r bs e = ap (λ (k : ℕ). place_behind k bs) (if_true _ _ e)

place_line : (p : ℕ) (r : Said) (bs : List Said) → is_blank_line r.content ≡ false → place_behind p (r ∷ bs) ≡ place_behind (place_after p r.content) bs
unfolding place_behind
place_line p r bs e = ap (λ (k : ℕ). place_behind k bs) (if_false _ _ e)

block_of : (bs : List Said) (n at : ℕ) → Each Stays (lines_from n at place.matrix bs) → Block bs
unfolding place_behind
block_of [] n at h = record { behind = refl; inside = λ (m to : ℕ). rw (lines_none m to place.matrix) Each.none }
block_of (r ∷ bs) n at h =
    by_cases (Block (r ∷ bs)) (is_blank_line r.content)
    (λ (e : is_blank_line r.content ≡ true).
    let b : Block bs = block_of bs (n + 1) (at + r.size + 1) (rw (lines_blank n at place.matrix r bs e) at h) in
    record {
      behind = place_blank place.matrix r bs e ∙ b.behind;
      inside = λ (m to : ℕ). rw (lines_blank m to place.matrix r bs e) (b.inside (m + 1) (to + r.size + 1));
    })
    (λ (e : is_blank_line r.content ≡ false).
    let g : Each Stays (line_as n at place.matrix r ∷ lines_from (n + 1) (at + r.size + 1) (place_after place.matrix r.content) bs) = rw (lines_said n at place.matrix r bs e) at h in
    let k : stays (key_at r.content) ≡ true = ap stays (sym (key_of_lem n at place.matrix r)) ∙ each_head g in
    let q : place_after place.matrix r.content ≡ place.matrix = matrix_stays r.content k in
    let b : Block bs = block_of bs (n + 1) (at + r.size + 1) (subst (λ (p : ℕ). Each Stays (lines_from (n + 1) (at + r.size + 1) p bs)) q (each_tail g)) in
    record {
      behind = place_line place.matrix r bs e ∙ ap (λ (p : ℕ). place_behind p bs) q ∙ b.behind;
      inside =
          λ (m to : ℕ).
          rw (lines_said m to place.matrix r bs e, q) (Each.more (inside_line m to r k) (b.inside (m + 1) (to + r.size + 1)));
    })

-- ---- the line behind a block

-- the first line that says something has a keyword that ends a matrix, or there is none
pub data Closes : List Said → Type 0 where
  none : Closes []
  blank : {r : Said} {rs : List Said} → is_blank_line r.content ≡ true → Closes rs → Closes (r ∷ rs)
  keyword : {r : Said} {rs : List Said} → is_blank_line r.content ≡ false → either (eqb (key_at r.content) plain) (is_row_or_bandwidth (key_at r.content)) ≡ false → Closes (r ∷ rs)

outside_line : (n at : ℕ) (r : Said) → stays (key_at r.content) ≡ false → in_matrix (line_as n at place.matrix r) ≡ false
unfolding in_matrix key_of
outside_line n at r e = both_not_right _ _ e

closes_up : {rs : List Said} → Closes rs → (n at : ℕ) → up_to in_matrix (lines_from n at place.matrix rs) ≡ []
closes_up none n at = ap (up_to in_matrix) (lines_none n at place.matrix) ∙ up_none in_matrix
closes_up (blank {r = r} {rs = rs} e c) n at = ap (up_to in_matrix) (lines_blank n at place.matrix r rs e) ∙ closes_up c (n + 1) (at + r.size + 1)
closes_up (keyword {r = r} {rs = rs} e k) n at = ap (up_to in_matrix) (lines_said n at place.matrix r rs e) ∙ up_out in_matrix _ _ (outside_line n at r k)

block_ends : {bs rs : List Said} → Block bs → Closes rs → Ends place.matrix bs rs
block_ends {bs} {rs} b c =
    record {
      stops =
          λ (n at m to : ℕ).
          passing_up in_matrix (b.inside n at) (lines_from m to (place_behind place.matrix bs) rs) (ap (λ (p : ℕ). up_to in_matrix (lines_from m to p rs)) b.behind ∙ closes_up c m to);
    }

-- ---- numbers and offsets of lines do not matter

same_content : (n at m to p : ℕ) (r : Said) → SameBody (line_as n at p r) (line_as m to p r)
unfolding key_of given_by argument_of
same_content n at m to p r = record { key = refl; said = λ e. refl; given = λ e. refl }

same_lines : (bs : List Said) (n at m to p : ℕ) → All2 SameBody (lines_from n at p bs) (lines_from m to p bs)
same_lines [] n at m to p = rw (lines_none n at p, lines_none m to p) All2.none
same_lines (r ∷ bs) n at m to p =
    by_cases _ (is_blank_line r.content)
    (λ (e : is_blank_line r.content ≡ true). rw (lines_blank n at p r bs e, lines_blank m to p r bs e) (same_lines bs (n + 1) (at + r.size + 1) (m + 1) (to + r.size + 1) p))
    (λ (e : is_blank_line r.content ≡ false).
    rw (lines_said n at p r bs e, lines_said m to p r bs e)
    (All2.more (same_content n at m to p r) (same_lines bs (n + 1) (at + r.size + 1) (m + 1) (to + r.size + 1) (place_after p r.content))))

-- ---- a block in another form

-- a matrix keyword leads into the matrix
section_leads : (k : ℕ) → opens_matrix k ≡ true → moved place.section k ≡ place.matrix
unfolding moved is_in_model is_in_family is_in_header either leads_in_section
section_leads k e = if_false _ _ refl ∙ if_false _ _ refl ∙ if_false _ _ refl ∙ if_false _ _ refl ∙ if_true _ _ refl ∙ if_true _ _ e

matrix_leads : (k : ℕ) → opens_matrix k ≡ true → moved place.matrix k ≡ place.matrix
unfolding moved leads_in_matrix leads_in_section
matrix_leads k e =
    if_true _ _ refl
    ∙ by_cases _ (is_row_or_bandwidth k) (λ (h : is_row_or_bandwidth k ≡ true). if_true _ _ h) (λ (h : is_row_or_bandwidth k ≡ false). if_false _ _ h ∙ if_true _ _ e)

opening_leads : (p : ℕ) → either (eqb p place.section) (eqb p place.matrix) ≡ true → (k : ℕ) → opens_matrix k ≡ true → moved p k ≡ place.matrix
opening_leads p o k e =
    by_cases _ (eqb p place.section)
    (λ (h : eqb p place.section ≡ true). ap (λ (x : ℕ). moved x k) (eqb-true _ _ h) ∙ section_leads k e)
    (λ (h : eqb p place.section ≡ false). ap (λ (x : ℕ). moved x k) (eqb-true p place.matrix (sym (either_rest _ _ h) ∙ o)) ∙ matrix_leads k e)

opening_keyed : (k : ℕ) → opens_matrix k ≡ true → eqb k plain ≡ false
opening_keyed k e = ne_eqb k plain (λ (q : k ≡ plain). true≢false (sym e ∙ body_keys k (plain_stays k q)))

-- the opening line of a matrix: it is no blank line, stands in a section and names a kind
pub record Opening (p : ℕ) (r : Said) : Type 0 where
  pub said : is_blank_line r.content ≡ false
  pub stands : either (eqb p place.section) (eqb p place.matrix) ≡ true
  pub opens : opens_matrix (key_at r.content) ≡ true

opening_after : (p : ℕ) (r : Said) → Opening p r → place_after p r.content ≡ place.matrix
unfolding place_after
opening_after p r o = if_false _ _ (opening_keyed _ o.opens) ∙ opening_leads p o.stands (key_at r.content) o.opens

opening_opens : (n at p : ℕ) (r : Said) → Opening p r → opens_matrix_at (line_as n at p r) ≡ true
unfolding opens_matrix_at key_of
opening_opens n at p r o = both_true _ _ o.stands o.opens

-- the form that the opening line names
abbrev pub form_in : Said → ℕ
form_in r = form_of (argument_text r.content)

form_at_lem : (n at p : ℕ) (r : Said) → form_at (line_as n at p r) ≡ form_in r
unfolding argument_of
form_at_lem n at p r = refl

-- what the lines of a block write, read from line 1 and offset 0: this does not depend on where they stand
module _ (v : ℕ → ℕ → ℕ) (n form : ℕ) (bs : List Said) (f : Carries v n form (lines_from 1 0 place.matrix bs)) where
  there_conductors : (line at : ℕ) → conductors_in form (lines_from line at place.matrix bs) ≡ n
  there_conductors line at = conductors_same form (same_lines bs line at 1 0 place.matrix) ∙ carried_conductors v n f

  there_written : (line at i j : ℕ) → 1 ≤ i → i ≤ j → j ≤ n → written_at form (lines_from line at place.matrix bs) i j ≡ v i j
  there_written line at i j low mid high = written_same form i j (same_lines bs line at 1 0 place.matrix) ∙ carried_written v n f i j low mid high

module _ (v : ℕ → ℕ → ℕ) (n p : ℕ) (r q : Said) (bs cs : List Said) (o : Opening p r) (w : Opening p q) (kinds : key_at r.content ≡ key_at q.content)
    (f : Carries v n (form_in r) (lines_from 1 0 place.matrix bs)) (g : Carries v n (form_in q) (lines_from 1 0 place.matrix cs)) where
  blocks_number :
      (line at other to : ℕ) →
      SameNumbers (line_as line at p r) (lines_from (line + 1) (at + r.size + 1) place.matrix bs) (line_as other to p q) (lines_from (other + 1) (to + q.size + 1) place.matrix cs)
  unfolding argument_of key_of
  blocks_number line at other to =
      let a : conductors_in (form_in r) (lines_from (line + 1) (at + r.size + 1) place.matrix bs) ≡ n = there_conductors v n (form_in r) bs f (line + 1) (at + r.size + 1) in
      let b : conductors_in (form_in q) (lines_from (other + 1) (to + q.size + 1) place.matrix cs) ≡ n = there_conductors v n (form_in q) cs g (other + 1) (to + q.size + 1) in
      record {
        opens = opening_opens line at p r o;
        place = refl;
        kind = kinds;
        conductors = a ∙ sym b;
        numbers =
            λ (i j : ℕ) (low : 1 ≤ i) (mid : i ≤ j) (high : j ≤ conductors_in (form_in r) (lines_from (line + 1) (at + r.size + 1) place.matrix bs)).
            let top : j ≤ n = subst (λ (x : ℕ). j ≤ x) a high in
            there_written v n (form_in r) bs f (line + 1) (at + r.size + 1) i j low mid top ∙ sym (there_written v n (form_in q) cs g (other + 1) (to + q.size + 1) i j low mid top);
      }

  -- two blocks, in any two of the forms, that write the same entries; behind them the lines say the same
  pub blocks_same : (rs qs : List Said) → Closes rs → Closes qs → SameContents place.matrix rs qs → SameContents p (r ∷ (bs ++ rs)) (q ∷ (cs ++ qs))
  blocks_same rs qs c d s =
      let a : place_after p r.content ≡ place.matrix = opening_after p r o in
      let b : place_after p q.content ≡ place.matrix = opening_after p q w in
      let x : Block bs = block_of bs 1 0 (carried_stay v n f) in
      let y : Block cs = block_of cs 1 0 (carried_stay v n g) in
      block {p = p} {r = r} {q = q} {rs = rs} {qs = qs} bs cs o.said w.said (λ (line at other to : ℕ). rw (a, b) (blocks_number line at other to)) (rw a (block_ends x c)) (rw b (block_ends y d))
      (rw (a, b) (x.behind ∙ sym y.behind)) (rw (a, x.behind) s)

-- ---- a matrix of a text in another form

module _ (xs ys : List (List ℕ)) (xs_whole : Each Whole xs) (ys_whole : Each Whole ys) where
  joined : (zs : List (List ℕ)) → Each Whole zs → contents (text_of (xs ++ zs)) ≡ map said_of xs ++ map said_of zs
  joined zs w = text_contents (xs ++ zs) (each_append xs_whole w) ∙ map-append said_of xs zs

  -- "matrix forms giving the same numbers": the block a, bs between the lines xs and ys becomes the block b, cs
  pub matrix_rewritten :
      (v : ℕ → ℕ → ℕ) (n : ℕ) (a b : List ℕ) (bs cs : List (List ℕ)) → Whole a → Whole b → Each Whole bs → Each Whole cs →
      Opening (place_behind before (map said_of xs)) (said_of a) → Opening (place_behind before (map said_of xs)) (said_of b) →
      key_at (said_of a).content ≡ key_at (said_of b).content → Carries v n (form_in (said_of a)) (lines_from 1 0 place.matrix (map said_of bs)) →
      Carries v n (form_in (said_of b)) (lines_from 1 0 place.matrix (map said_of cs)) → Closes (map said_of ys) →
      Alike (text_of (xs ++ (a ∷ (bs ++ ys)))) (text_of (xs ++ (b ∷ (cs ++ ys))))
  matrix_rewritten v n a b bs cs wa wb wbs wcs o w kinds f g c =
      texts_alike _ _
      (rw (joined (a ∷ (bs ++ ys)) (Each.more wa (each_append wbs ys_whole)), joined (b ∷ (cs ++ ys)) (Each.more wb (each_append wcs ys_whole)), map-append said_of bs ys, map-append said_of cs ys)
      (contents_front (said_of a ∷ (map said_of bs ++ map said_of ys)) (said_of b ∷ (map said_of cs ++ map said_of ys)) before (map said_of xs)
      (blocks_same v n (place_behind before (map said_of xs)) (said_of a) (said_of b) (map said_of bs) (map said_of cs) o w kinds f g (map said_of ys) (map said_of ys) c c (contents_self place.matrix (map said_of ys)))))
