-- The list, the models with their paths and the pin maps of alike lines are the same except for lines and offsets.
-- Assumes nothing.
use mathlib.Core.Path.{◌≡◌, refl, sym, ◌∙◌, ap, subst}
use mathlib.Core.Bool.{Bool, true, false, true≢false}
use mathlib.Core.List.{List, [], ◌∷◌, ◌++◌, map}
use Prim.Native.Nat.{ℕ, ◌+◌, ◌-◌}
use native.Mathlib.Omega.{arith}
use lib.ListN.{drop}
use lib.Dec.{eqb}
use borrow.Author.Tests.{ne_eqb, eqb-true, eqb-false}
use Rattle.base.specs.If.{provided◌then◌else◌, either}
use Rattle.base.proofs.IfLaws.{if_true, if_false, by_cases, both_first, both_second, both_not_left, either_false}
use Rattle.lex_line.specs.Words.{Word, words_from, words, first_of, second_of, to_equals, right_of}
use Rattle.lex_keyword.specs.Names.{begin_icm_model, icm_pin_map}
use Rattle.line_place.specs.Place.{is_in_family, is_in_model, opens_header_text}
use Rattle.line_place.specs.Place as place
use Rattle.line_head.specs.Head.{head_line_of, head_next, new_head}
use Rattle.line_head.specs.declared.Head.{Head}
use Rattle.line_head.specs.declared.HeadLine.{HeadLine}
use Rattle.line_path.specs.Path.{saying_of}
use Rattle.line_path.specs.Path as path
use Rattle.line_map.specs.PinMap.{map_line_of, map_next, new_map}
use Rattle.line_map.specs.declared.Map as pin_map
use Rattle.line_map.specs.declared.MapLine.{MapLine}
use Rattle.doc.specs.Lines.{Line, plain, key_at, key_of, argument_of, words_of, right_words_of, no_word, first_word, second_word, stands_in, gather, up_to}
use Rattle.doc.specs.Document.{saying_at, side_in, step_of, steps_in, head_in, opens_model, in_model, model_of, model_at, listed_at, opens_map, in_map, grid_in, pin_at, map_of, map_at, in_matrix}
use Rattle.doc.specs.Holds.{Each}
use Rattle.doc.specs.Holds.Each.{none as Each_none, more as each_more}
use Rattle.law_alike.specs.Alike.{takes_text, SameLine, AlikeLines}
use Rattle.law_alike.specs.Alike.AlikeLines.{none, line, matrix}
use Rattle.law_alike.specs.Way.Same.{All2, SameNamed, SameStep, SameModel, SameMap}
use Rattle.law_alike.specs.Way.Same.All2.{none as all2_none, more as all2_more}
use Rattle.law_alike.proofs.SidesLaws.{words_bare}
use Rattle.law_alike.proofs.LineLaws.{Reads, inner_reads, SameSides, SamePlain, plain_same, head_same, map_same, SamePath, path_same, mult_same, amount_same, words_same, argument_same}
use Rattle.law_alike.proofs.GatherLaws.{tests_same, stands_same, is_deep, opening_deep, body_deep, block_inside, other_opens, gather_alike, up_alike}

-- ---- words with their offsets

first_text : (ws : List Word) → (first_word ws).text ≡ first_of (map (λ (w : Word). w.text) ws)
unfolding no_word
first_text [] = refl
first_text (w ∷ ws) = refl

second_text : (ws : List Word) → (second_word ws).text ≡ second_of (map (λ (w : Word). w.text) ws)
unfolding no_word
second_text [] = refl
second_text (w ∷ ws) = first_text ws

module _ (at : ℕ) (s : List ℕ) where
  anywhere : map (λ (w : Word). w.text) (words_from at s) ≡ words s
  anywhere = words_bare at s ∙ sym (words_bare 0 s)

module _ (l : Line) where
  first_said : (first_word (words_of l)).text ≡ first_of (words l.content)
  unfolding words_of
  first_said = first_text (words_from l.at l.content) ∙ ap first_of (anywhere l.at l.content)

  second_said : (second_word (words_of l)).text ≡ second_of (words l.content)
  unfolding words_of
  second_said = second_text (words_from l.at l.content) ∙ ap second_of (anywhere l.at l.content)

  right_said : (second_word (right_words_of l)).text ≡ second_of (right_of l.content)
  unfolding right_words_of right_of
  right_said =
      second_text (words_from (l.at + (to_equals l.content + 1)) (drop (to_equals l.content + 1) l.content))
      ∙ ap second_of (anywhere (l.at + (to_equals l.content + 1)) (drop (to_equals l.content + 1) l.content))

-- a line that `stands_in` a place is in that place and has no keyword
stands_place : (p : ℕ) (l : Line) → stands_in p l ≡ true → l.place ≡ p
unfolding stands_in
stands_place p l e = eqb-true _ _ (both_first _ _ e)

stands_plain : (p : ℕ) (l : Line) → stands_in p l ≡ true → key_at l.content ≡ plain
unfolding stands_in key_of
stands_plain p l e = eqb-true _ _ (both_second _ _ e)

-- and it is read, if the place is neither that before [Begin Header] nor that after [End]
stands_reads : (p : ℕ) → eqb place.before p ≡ false → eqb place.done p ≡ false → (l : Line) → stands_in p l ≡ true → Reads l.place
unfolding stands_in
stands_reads p begun unended l e = inner_reads (λ (x : ℕ). eqb x p) begun unended l.place (both_first _ _ e)

-- a line of a matrix is in none of the places used here
module _ (l : Line) (e : is_deep l ≡ true) where
  deep_stands : (p : ℕ) → (p ≡ place.section → ⊥) → (p ≡ place.matrix → ⊥) → stands_in p l ≡ false
  unfolding stands_in is_deep
  deep_stands p a b =
      both_not_left _ _
      (ne_eqb l.place p
      (λ (h : l.place ≡ p).
      true≢false (sym e ∙ either_false _ _ (ne_eqb l.place place.section (λ (k : l.place ≡ place.section). a (sym h ∙ k))) (ne_eqb l.place place.matrix (λ (k : l.place ≡ place.matrix). b (sym h ∙ k))))))

  deep_is : (l.place ≡ place.section → ⊥) → l.place ≡ place.matrix
  unfolding is_deep
  deep_is n =
      by_cases _ (eqb l.place place.matrix) (λ (h : eqb l.place place.matrix ≡ true). eqb-true _ _ h)
      (λ (h : eqb l.place place.matrix ≡ false). absurd (true≢false (sym e ∙ either_false _ _ (ne_eqb _ _ n) h)))

  pub deep_place : (P : ℕ → Type 0) → P place.section → P place.matrix → P l.place
  deep_place P a b =
      by_cases (P l.place) (eqb l.place place.section)
      (λ (h : eqb l.place place.section ≡ true). subst P (sym (eqb-true _ _ h)) a)
      (λ (h : eqb l.place place.section ≡ false). subst P (sym (deep_is (eqb-false _ _ h))) b)

  deep_family : is_in_family l.place ≡ false
  unfolding is_in_family either
  deep_family = deep_place (λ (p : ℕ). is_in_family p ≡ false) refl refl

  deep_model : is_in_model l.place ≡ false
  unfolding is_in_model either
  deep_model = deep_place (λ (p : ℕ). is_in_model p ≡ false) refl refl

-- ---- paths

module _ (l m : Line) (s : SameLine l m) where
  same_plain : (p : ℕ) → eqb place.before p ≡ false → eqb place.done p ≡ false → stands_in p l ≡ true → SamePlain l.place l.content m.content
  same_plain p begun unended e = plain_same l.content m.content s.saying (stands_reads p begun unended l e) (stands_plain p l e)

  path_said : stands_in place.path l ≡ true → SamePath l.content m.content
  path_said e = path_same l.place l.content m.content (same_plain place.path refl refl e) (stands_place place.path l e)

  saying_same : saying_at l ≡ saying_at m
  unfolding saying_at
  saying_same =
      by_cases _ (stands_in place.path l)
      (λ (e : stands_in place.path l ≡ true). if_true _ _ e ∙ (path_said e).saying ∙ sym (if_true _ _ (sym (stands_same l m s place.path refl refl) ∙ e)))
      (λ (e : stands_in place.path l ≡ false). if_false _ _ e ∙ sym (if_false _ _ (sym (stands_same l m s place.path refl refl) ∙ e)))

  -- a line that says something of a path is in a path
  says_stands : (k : ℕ) → (k ≡ path.says_nothing → ⊥) → saying_at l ≡ k → stands_in place.path l ≡ true
  unfolding saying_at
  says_stands k n e =
      by_cases _ (stands_in place.path l) (λ (h : stands_in place.path l ≡ true). h)
      (λ (h : stands_in place.path l ≡ false). absurd (n (sym e ∙ if_false _ _ h)))

  saying_is : (h : stands_in place.path l ≡ true) → saying_at l ≡ saying_of (first_of (words l.content))
  unfolding saying_at
  saying_is h = if_true _ _ h

  -- the second word of an end or a Side
  second_same : (k : ℕ) → (k ≡ path.says_nothing → ⊥) → (k ≡ path.says_section → ⊥) → saying_at l ≡ k → (second_word (words_of l)).text ≡ (second_word (words_of m)).text
  second_same k n o e =
      let h : stands_in place.path l ≡ true = says_stands k n e in
      let w : words l.content ≡ words m.content = (path_said h).names (λ (q : saying_of (first_of (words l.content)) ≡ path.says_section). o (sym e ∙ saying_is h ∙ q)) in
      second_said l ∙ ap second_of w ∙ sym (second_said m)

deep_silent : (l : Line) → is_deep l ≡ true → saying_at l ≡ path.says_nothing
unfolding saying_at
deep_silent l e = if_false _ _ (deep_stands l e place.path (λ (h : place.path ≡ place.section). omega arith) (λ (h : place.path ≡ place.matrix). omega arith))

side_alike : {ls ms : List Line} → AlikeLines ls ms → (side_in ls).text ≡ (side_in ms).text
side_alike none = refl
side_alike (line {l = l} {m = m} s a) =
    by_cases _ (eqb (saying_at l) path.says_side)
    (λ (e : eqb (saying_at l) path.says_side ≡ true).
    ap (λ (w : Word). w.text) (if_true _ _ e) ∙ second_same l m s path.says_side (λ (h : path.says_side ≡ path.says_nothing). omega arith) (λ (h : path.says_side ≡ path.says_section). omega arith) (eqb-true _ _ e)
    ∙ ap (λ (w : Word). w.text) (sym (if_true _ _ (ap (λ (k : ℕ). eqb k path.says_side) (sym (saying_same l m s)) ∙ e))))
    (λ (e : eqb (saying_at l) path.says_side ≡ false).
    ap (λ (w : Word). w.text) (if_false _ _ e) ∙ ap (λ (w : Word). w.text) (sym (if_false _ _ (ap (λ (k : ℕ). eqb k path.says_side) (sym (saying_same l m s)) ∙ e))))
side_alike (matrix {l = l} {m = m} bs cs n p q a) = ap (λ (w : Word). w.text) (no_side l (opening_deep l n.opens) ∙ sym (no_side m (opening_deep m (other_opens l bs m cs n))))
  where
    no_side : (x : Line) → is_deep x ≡ true → (provided eqb (saying_at x) path.says_side then second_word (words_of x) else no_word) ≡ no_word
    no_side x e = if_false _ _ (ap (λ (k : ℕ). eqb k path.says_side) (deep_silent x e))

-- both sides make the same choice
pub all2_choice : {A : Type 0} {Rel : A → A → Type 0} (b c : Bool) → b ≡ c → (x y u v : List A) → (b ≡ true → All2 Rel x u) → (b ≡ false → All2 Rel y v) → All2 Rel (provided b then x else y) (provided c then u else v)
unfolding provided◌then◌else◌
all2_choice true true e x y u v h k = h refl
all2_choice true false e x y u v h k = absurd (true≢false e)
all2_choice false true e x y u v h k = absurd (true≢false (sym e))
all2_choice false false e x y u v h k = k refl

module _ (l m : Line) (ls ms : List Line) (s : SameLine l m) (a : AlikeLines ls ms) where
  says : (k : ℕ) → eqb (saying_at l) k ≡ eqb (saying_at m) k
  says k = ap (λ (n : ℕ). eqb n k) (saying_same l m s)

  step_same : All2 SameStep (step_of l ls) (step_of m ms)
  unfolding step_of no_word
  step_same =
      all2_choice (eqb (saying_at l) path.says_end) (eqb (saying_at m) path.says_end) (says path.says_end) _ _ _ _
      (λ (e : eqb (saying_at l) path.says_end ≡ true).
      all2_more
      (record { kind = refl; name = second_same l m s path.says_end (λ (h : path.says_end ≡ path.says_nothing). omega arith) (λ (h : path.says_end ≡ path.says_section). omega arith) (eqb-true _ _ e); mult = refl; amount = refl; side = side_alike a })
      all2_none)
      (λ f.
      all2_choice (eqb (saying_at l) path.says_section) (eqb (saying_at m) path.says_section) (says path.says_section) _ _ _ _
      (λ (e : eqb (saying_at l) path.says_section ≡ true).
      let h : stands_in place.path l ≡ true = says_stands l m s path.says_section (λ (q : path.says_section ≡ path.says_nothing). omega arith) (eqb-true _ _ e) in
      let r : SameSides l.content m.content = (path_said l m s h).sides in
      all2_more
      (record { kind = refl; name = right_said l ∙ ap second_of r.right ∙ sym (right_said m); mult = mult_same l.content m.content r; amount = amount_same l.content m.content r; side = refl })
      all2_none)
      (λ g.
      all2_choice (eqb (saying_at l) path.says_fork) (eqb (saying_at m) path.says_fork) (says path.says_fork) _ _ _ _
      (λ e. all2_more (record { kind = refl; name = refl; mult = refl; amount = refl; side = refl }) all2_none)
      (λ j.
      all2_choice (eqb (saying_at l) path.says_endfork) (eqb (saying_at m) path.says_endfork) (says path.says_endfork) _ _ _ _
      (λ e. all2_more (record { kind = refl; name = refl; mult = refl; amount = refl; side = refl }) all2_none) (λ e. all2_none))))

step_silent : (l : Line) (ls : List Line) → is_deep l ≡ true → step_of l ls ≡ []
unfolding step_of
step_silent l ls e =
    let z : saying_at l ≡ path.says_nothing = deep_silent l e in
    if_false _ _ (ap (λ (k : ℕ). eqb k path.says_end) z) ∙ if_false _ _ (ap (λ (k : ℕ). eqb k path.says_section) z) ∙ if_false _ _ (ap (λ (k : ℕ). eqb k path.says_fork) z) ∙ if_false _ _ (ap (λ (k : ℕ). eqb k path.says_endfork) z)

steps_alike : {ls ms : List Line} → AlikeLines ls ms → All2 SameStep (steps_in ls) (steps_in ms)
unfolding steps_in
steps_alike a = gather_alike step_of step_silent SameStep step_same a

-- ---- models

-- the lines of a matrix do not change a head or a grid
module _ {A : Type 0} (test : Line → Bool) (next : A → Line → A) (fold : A → List Line → A)
    (folds : (h : A) (l : Line) (ls : List Line) → fold h (l ∷ ls) ≡ fold (provided test l then next h l else h) ls)
    (deep : (l : Line) → is_deep l ≡ true → test l ≡ false)
    (same : (l m : Line) → SameLine l m → test l ≡ test m) (nexts : (h : A) (l m : Line) → SameLine l m → test l ≡ true → next h l ≡ next h m) where
  fold_deep : (h : A) (l : Line) (ls : List Line) → is_deep l ≡ true → fold h (l ∷ ls) ≡ fold h ls
  fold_deep h l ls e = folds h l ls ∙ ap (λ (x : A). fold x ls) (if_false _ _ (deep l e))

  fold_body : (h : A) (bs ls : List Line) → Each (λ (l : Line). in_matrix l ≡ true) bs → fold h (bs ++ ls) ≡ fold h ls
  fold_body h [] ls Each_none = refl
  fold_body h (b ∷ bs) ls (each_more p ps) = fold_deep h b (bs ++ ls) (body_deep b p) ∙ fold_body h bs ls ps

  pub fold_alike : {ls ms : List Line} → AlikeLines ls ms → (h : A) → fold h ls ≡ fold h ms
  fold_alike none h = refl
  fold_alike (line {l = l} {m = m} {ls = ls} {ms = ms} s a) h =
      let e : (provided test l then next h l else h) ≡ (provided test m then next h m else h) = by_cases _ (test l) (λ (t : test l ≡ true). if_true _ _ t ∙ nexts h l m s t ∙ sym (if_true _ _ (sym (same l m s) ∙ t))) (λ (t : test l ≡ false). if_false _ _ t ∙ sym (if_false _ _ (sym (same l m s) ∙ t))) in
      folds h l ls ∙ ap (λ (x : A). fold x ls) e ∙ fold_alike a (provided test m then next h m else h) ∙ sym (folds h m ms)
  fold_alike (matrix {l = l} {m = m} {ls = ls} {ms = ms} bs cs n p q a) h =
      fold_deep h l (bs ++ ls) (opening_deep l n.opens) ∙ fold_body h bs ls (block_inside bs ls p) ∙ fold_alike a h
      ∙ sym (fold_deep h m (cs ++ ms) (opening_deep m (other_opens l bs m cs n)) ∙ fold_body h cs ms (block_inside cs ms q))

head_folds : (h : Head) (l : Line) (ls : List Line) → head_in h (l ∷ ls) ≡ head_in (provided stands_in place.head l then head_next (head_line_of l.content) h else h) ls
unfolding head_in
head_folds h l ls = refl

head_alike : {ls ms : List Line} → AlikeLines ls ms → (h : Head) → head_in h ls ≡ head_in h ms
head_alike a h =
    fold_alike (stands_in place.head) (λ (x : Head) (l : Line). head_next (head_line_of l.content) x) head_in head_folds
    (λ (l : Line) (e : is_deep l ≡ true). deep_stands l e place.head (λ (q : place.head ≡ place.section). omega arith) (λ (q : place.head ≡ place.matrix). omega arith))
    (λ (l m : Line) (s : SameLine l m). stands_same l m s place.head refl refl)
    (λ (x : Head) (l m : Line) (s : SameLine l m) (e : stands_in place.head l ≡ true). ap (λ (r : HeadLine). head_next r x) (head_same l.place l.content m.content (same_plain l m s place.head refl refl e) (stands_place place.head l e)))
    a h

grid_folds : (g : pin_map.Map) (l : Line) (ls : List Line) → grid_in g (l ∷ ls) ≡ grid_in (provided stands_in place.map_head l then map_next (map_line_of l.content) g else g) ls
unfolding grid_in
grid_folds g l ls = refl

grid_alike : {ls ms : List Line} → AlikeLines ls ms → (g : pin_map.Map) → grid_in g ls ≡ grid_in g ms
grid_alike a g =
    fold_alike (stands_in place.map_head) (λ (x : pin_map.Map) (l : Line). map_next (map_line_of l.content) x) grid_in grid_folds
    (λ (l : Line) (e : is_deep l ≡ true). deep_stands l e place.map_head (λ (q : place.map_head ≡ place.section). omega arith) (λ (q : place.map_head ≡ place.matrix). omega arith))
    (λ (l m : Line) (s : SameLine l m). stands_same l m s place.map_head refl refl)
    (λ (x : pin_map.Map) (l m : Line) (s : SameLine l m) (e : stands_in place.map_head l ≡ true). ap (λ (r : MapLine). map_next r x) (map_same l.place l.content m.content (same_plain l m s place.map_head refl refl e) (stands_place place.map_head l e)))
    a g

-- the argument of a keyword that takes no free text
pub named_same : (l m : Line) → SameLine l m → Reads l.place → (k : ℕ) → key_of l ≡ k → (k ≡ plain → ⊥) → takes_text k ≡ false → (argument_of l).text ≡ (argument_of m).text
unfolding argument_of key_of
named_same l m s r k e n x = argument_same l.content m.content s.saying r (λ (q : key_at l.content ≡ plain). n (sym e ∙ q)) (ap takes_text e ∙ x)

in_model_same : (l m : Line) → SameLine l m → in_model l ≡ in_model m
unfolding in_model
in_model_same l m s = ap is_in_model s.place

model_deep : (l : Line) → is_deep l ≡ true → in_model l ≡ false
unfolding in_model
model_deep l e = deep_model l e

-- the family has neither of the places whose lines are not read
outside_before : is_in_family place.before ≡ false
unfolding is_in_family either
outside_before = refl

outside_done : is_in_family place.done ≡ false
unfolding is_in_family either
outside_done = refl

opens_same : (l m : Line) → SameLine l m → opens_model l ≡ opens_model m
unfolding opens_model
opens_same l m s = tests_same l m s is_in_family outside_before outside_done (λ (k : ℕ). eqb k begin_icm_model)

opens_key : (l : Line) → opens_model l ≡ true → key_of l ≡ begin_icm_model
unfolding opens_model
opens_key l e = eqb-true _ _ (both_second _ _ e)

opens_reads : (l : Line) → opens_model l ≡ true → Reads l.place
unfolding opens_model
opens_reads l e = inner_reads is_in_family outside_before outside_done l.place (both_first _ _ e)

model_same : (l m : Line) (ls ms : List Line) → SameLine l m → AlikeLines ls ms → All2 SameModel (model_at l ls) (model_at m ms)
unfolding model_at model_of takes_text opens_header_text either
model_same l m ls ms s a =
    all2_choice (opens_model l) (opens_model m) (opens_same l m s) _ _ _ _
    (λ (e : opens_model l ≡ true).
    let b : AlikeLines (up_to in_model ls) (up_to in_model ms) = up_alike in_model in_model_same model_deep a in
    all2_more
    (record {
      name = named_same l m s (opens_reads l e) begin_icm_model (opens_key l e) (λ (q : begin_icm_model ≡ plain). omega arith) refl;
      type = ap (λ (h : Head). h.kind - 1) (head_alike b new_head);
      steps = steps_alike b;
    })
    all2_none)
    (λ e. all2_none)

model_silent : (l : Line) (ls : List Line) → is_deep l ≡ true → model_at l ls ≡ []
unfolding model_at opens_model
model_silent l ls e = if_false _ _ (both_not_left _ _ (deep_family l e))

pub models_alike : {ls ms : List Line} → AlikeLines ls ms → All2 SameModel (gather model_at ls) (gather model_at ms)
models_alike a = gather_alike model_at model_silent SameModel model_same a

-- ---- names one a line: the list, and pins

module _ (p : ℕ) (begun : eqb place.before p ≡ false) (unended : eqb place.done p ≡ false) (head : p ≡ place.head → ⊥) (path_not : p ≡ place.path → ⊥) (map_not : p ≡ place.map_head → ⊥) (l m : Line) (s : SameLine l m) where
  name_same : stands_in p l ≡ true → (first_word (words_of l)).text ≡ (first_word (words_of m)).text
  name_same e =
      let q : l.place ≡ p = stands_place p l e in
      first_said l ∙ ap first_of (words_same l.place l.content m.content (same_plain l m s p begun unended e) (λ (h : l.place ≡ place.head). head (sym q ∙ h)) (λ (h : l.place ≡ place.path). path_not (sym q ∙ h)) (λ (h : l.place ≡ place.map_head). map_not (sym q ∙ h))) ∙ sym (first_said m)

  named_alike : All2 SameNamed (provided stands_in p l then record { name = first_word (words_of l); line = l.line } ∷ [] else []) (provided stands_in p m then record { name = first_word (words_of m); line = m.line } ∷ [] else [])
  named_alike = all2_choice (stands_in p l) (stands_in p m) (stands_same l m s p begun unended) _ _ _ _ (λ (e : stands_in p l ≡ true). all2_more (record { name = name_same e }) all2_none) (λ e. all2_none)

listed_same : (l m : Line) (ls ms : List Line) → SameLine l m → AlikeLines ls ms → All2 SameNamed (listed_at l ls) (listed_at m ms)
unfolding listed_at
listed_same l m ls ms s a = named_alike place.list refl refl (λ (h : place.list ≡ place.head). omega arith) (λ (h : place.list ≡ place.path). omega arith) (λ (h : place.list ≡ place.map_head). omega arith) l m s

listed_silent : (l : Line) (ls : List Line) → is_deep l ≡ true → listed_at l ls ≡ []
unfolding listed_at
listed_silent l ls e = if_false _ _ (deep_stands l e place.list (λ (h : place.list ≡ place.section). omega arith) (λ (h : place.list ≡ place.matrix). omega arith))

pub listed_alike : {ls ms : List Line} → AlikeLines ls ms → All2 SameNamed (gather listed_at ls) (gather listed_at ms)
listed_alike a = gather_alike listed_at listed_silent SameNamed listed_same a

pin_same : (l m : Line) (ls ms : List Line) → SameLine l m → AlikeLines ls ms → All2 SameNamed (pin_at l ls) (pin_at m ms)
unfolding pin_at
pin_same l m ls ms s a = named_alike place.pin_list refl refl (λ (h : place.pin_list ≡ place.head). omega arith) (λ (h : place.pin_list ≡ place.path). omega arith) (λ (h : place.pin_list ≡ place.map_head). omega arith) l m s

pin_silent : (l : Line) (ls : List Line) → is_deep l ≡ true → pin_at l ls ≡ []
unfolding pin_at
pin_silent l ls e = if_false _ _ (deep_stands l e place.pin_list (λ (h : place.pin_list ≡ place.section). omega arith) (λ (h : place.pin_list ≡ place.matrix). omega arith))

pins_alike : {ls ms : List Line} → AlikeLines ls ms → All2 SameNamed (gather pin_at ls) (gather pin_at ms)
pins_alike a = gather_alike pin_at pin_silent SameNamed pin_same a

-- ---- pin maps

in_map_same : (l m : Line) → SameLine l m → in_map l ≡ in_map m
unfolding in_map
in_map_same l m s = λ i. either (stands_same l m s place.map_head refl refl i) (stands_same l m s place.pin_list refl refl i)

map_deep : (l : Line) → is_deep l ≡ true → in_map l ≡ false
unfolding in_map
map_deep l e = either_false _ _ (deep_stands l e place.map_head (λ (q : place.map_head ≡ place.section). omega arith) (λ (q : place.map_head ≡ place.matrix). omega arith)) (deep_stands l e place.pin_list (λ (h : place.pin_list ≡ place.section). omega arith) (λ (h : place.pin_list ≡ place.matrix). omega arith))

map_opens_same : (l m : Line) → SameLine l m → opens_map l ≡ opens_map m
unfolding opens_map
map_opens_same l m s = tests_same l m s is_in_family outside_before outside_done (λ (k : ℕ). eqb k icm_pin_map)

map_opens_key : (l : Line) → opens_map l ≡ true → key_of l ≡ icm_pin_map
unfolding opens_map
map_opens_key l e = eqb-true _ _ (both_second _ _ e)

map_opens_reads : (l : Line) → opens_map l ≡ true → Reads l.place
unfolding opens_map
map_opens_reads l e = inner_reads is_in_family outside_before outside_done l.place (both_first _ _ e)

one_map_same : (l m : Line) (ls ms : List Line) → SameLine l m → AlikeLines ls ms → All2 SameMap (map_at l ls) (map_at m ms)
unfolding map_at map_of takes_text opens_header_text either
one_map_same l m ls ms s a =
    all2_choice (opens_map l) (opens_map m) (map_opens_same l m s) _ _ _ _
    (λ (e : opens_map l ≡ true).
    let b : AlikeLines (up_to in_map ls) (up_to in_map ms) = up_alike in_map in_map_same map_deep a in
    all2_more
    (record {
      name = named_same l m s (map_opens_reads l e) icm_pin_map (map_opens_key l e) (λ (q : icm_pin_map ≡ plain). omega arith) refl;
      order = ap (λ (g : pin_map.Map). g.order - 1) (grid_alike b new_map);
      rows = ap (λ (g : pin_map.Map). g.rows) (grid_alike b new_map);
      columns = ap (λ (g : pin_map.Map). g.columns) (grid_alike b new_map);
      pins = pins_alike b;
    })
    all2_none)
    (λ e. all2_none)

map_silent : (l : Line) (ls : List Line) → is_deep l ≡ true → map_at l ls ≡ []
unfolding map_at opens_map
map_silent l ls e = if_false _ _ (both_not_left _ _ (deep_family l e))

pub maps_alike : {ls ms : List Line} → AlikeLines ls ms → All2 SameMap (gather map_at ls) (gather map_at ms)
maps_alike a = gather_alike map_at map_silent SameMap one_map_same a
