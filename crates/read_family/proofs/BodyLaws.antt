-- Laws of lines that stand in front of others: up to where a block goes, how many records they give, and what the head of
-- a model and the grid of a map are after them.
-- Assumes nothing.
use mathlib.Core.Path.{◌≡◌, refl, sym, ◌∙◌, ap}
use mathlib.Core.Bool.{Bool, true, false}
use mathlib.Core.List.{List, [], ◌∷◌, ◌++◌}
use Prim.Native.Nat.{ℕ, ◌+◌, ◌-◌}
use native.Mathlib.Omega.{arith}
use lib.ListN.{length, length-append, drop}
use lib.Dec.{eqb}
use borrow.Author.Tests.{eq-eqb, ne_eqb}
use Rattle.base.specs.If.{provided◌then◌else◌}
use Rattle.base.proofs.IfLaws.{if_true, if_false, by_cases, both_true, both_not_left}
use Rattle.lex_line.specs.Lines.{contents}
use Rattle.line_place.specs.Place.{is_in_model}
use Rattle.line_place.specs.Place as place
use Rattle.line_head.specs.Head.{head_line_of, head_next}
use Rattle.line_head.specs.declared.Head.{Head}
use Rattle.line_path.specs.Path as path
use Rattle.line_map.specs.PinMap.{map_line_of, map_next, says_order, says_rows, says_columns}
use Rattle.line_map.specs.declared.Map.{Map}
use Rattle.line_map.specs.declared.MapLine.{MapLine}
use Rattle.doc.specs.Lines.{Line, lines_at, stands_in, gather, up_to}
use Rattle.doc.specs.Document.{saying_at, step_of, head_in, says_sgr, sgr_in, in_model, grid_in, pin_at}
use Rattle.doc.specs.Holds.{Each, none, more}
use Rattle.doc.specs.Way.Found.{IsPlain}
use Rattle.doc.proofs.BlockLaws.{Follow, lines_follow}
use Rattle.doc.proofs.BlockLaws as follow
use Rattle.doc.proofs.GatherLaws.{gather_more, gather_none, up_in, up_none, up_out}
use Rattle.doc.proofs.StepLaws.{saying_elsewhere, silent_step}
use Rattle.read_family.specs.Way.Pins.{SameGrid}

-- ---- how many records lines give

-- what is added and taken away again
pub added : (n m : ℕ) → n + m - n ≡ m
added n m = omega arith

module _ {A : Type 0} (here : Line → List Line → List A) (even : (l : Line) (xs ys : List Line) → length (here l xs) ≡ length (here l ys)) where
  many_cons : (l : Line) (ls : List Line) → length (gather here (l ∷ ls)) ≡ length (here l []) + length (gather here ls)
  many_cons l ls =
      ap length (gather_more here l ls) ∙ length-append (here l ls) (gather here ls)
      ∙ ap (λ (n : ℕ). n + length (gather here ls)) (even l ls [])

  many_append : (xs ys : List Line) → length (gather here (xs ++ ys)) ≡ length (gather here xs) + length (gather here ys)
  many_append [] ys =
      let z : length (gather here []) ≡ 0 = ap length (gather_none here) in
      omega arith
  many_append (l ∷ xs) ys =
      let a : length (gather here (l ∷ (xs ++ ys))) ≡ length (here l []) + length (gather here (xs ++ ys)) = many_cons l (xs ++ ys) in
      let b : length (gather here (l ∷ xs)) ≡ length (here l []) + length (gather here xs) = many_cons l xs in
      let c : length (gather here (xs ++ ys)) ≡ length (gather here xs) + length (gather here ys) = many_append xs ys in
      omega arith

  -- the same lines in front of others
  pub many_front :
      (n n' : ℕ) (front rest body : List Line) → n + length (gather here (front ++ rest)) ≡ n' + length (gather here rest) →
      n + length (gather here (front ++ body)) ≡ n' + length (gather here body)
  many_front n n' front rest body e =
      let a : length (gather here (front ++ rest)) ≡ length (gather here front) + length (gather here rest) = many_append front rest in
      let b : length (gather here (front ++ body)) ≡ length (gather here front) + length (gather here body) = many_append front body in
      omega arith

-- the lines after an end change no more than its side
pub steps_even : (l : Line) (xs ys : List Line) → length (step_of l xs) ≡ length (step_of l ys)
unfolding step_of
steps_even l xs ys =
    by_cases _ (eqb (saying_at l) path.says_end)
    (λ (e : eqb (saying_at l) path.says_end ≡ true). ap length (if_true _ _ e) ∙ sym (ap length (if_true _ _ e)))
    (λ (e : eqb (saying_at l) path.says_end ≡ false). ap length (if_false _ _ e) ∙ sym (ap length (if_false _ _ e)))

pub pins_even : (l : Line) (xs ys : List Line) → length (pin_at l xs) ≡ length (pin_at l ys)
unfolding pin_at
pins_even l xs ys = refl

-- ---- up to where a block goes

pub up_front :
    (inside : Line → Bool) (P : Line → Type 0) → ((l : Line) → P l → inside l ≡ true) → {front : List Line} → Each P front → (rest : List Line) →
    up_to inside (front ++ rest) ≡ front ++ up_to inside rest
up_front inside P h none rest = refl
up_front inside P h (more {x = l} {xs = ls} k ks) rest =
    up_in inside l (ls ++ rest) (h l k) ∙ ap (λ (r : List Line). l ∷ r) (up_front inside P h ks rest)

-- outside a block the lines up to its end are none
follow_outside : (inside : Line → Bool) (p : ℕ) → ((l : Line) → l.place ≡ p → inside l ≡ false) → {ls : List Line} → Follow p ls → up_to inside ls ≡ []
follow_outside inside p h follow.none = up_none inside
follow_outside inside p h (follow.more {l = l} {ls = ls} e rest) = up_out inside l ls (h l e)

pub models_outside : (t : List ℕ) (n at p : ℕ) → is_in_model p ≡ false → up_to in_model (lines_at t n at p) ≡ []
unfolding lines_at in_model
models_outside t n at p out =
    follow_outside in_model p (λ (l : Line) (e : l.place ≡ p). ap is_in_model e ∙ out) (lines_follow n at p (contents (drop at t)))

-- ---- lines without a keyword in a place

module _ (p : ℕ) (l : Line) (is_plain : IsPlain p l) where
  pub plain_elsewhere : (q : ℕ) → (p ≡ q → ⊥) → stands_in q l ≡ false
  unfolding stands_in
  plain_elsewhere q away = both_not_left _ _ (ne_eqb _ _ (λ (e : l.place ≡ q). away (sym is_plain.place_is ∙ e)))

  pub plain_there : stands_in p l ≡ true
  unfolding stands_in
  plain_there = both_true _ _ (eq-eqb _ _ is_plain.place_is) (eq-eqb _ _ is_plain.key_is)

  pub plain_no_step : (p ≡ place.path → ⊥) → (ls : List Line) → step_of l ls ≡ []
  plain_no_step away ls =
      silent_step l ls (saying_elsewhere l (λ (e : l.place ≡ place.path). away (sym is_plain.place_is ∙ e)))

  pub plain_no_pin : (p ≡ place.pin_list → ⊥) → (ls : List Line) → pin_at l ls ≡ []
  unfolding pin_at
  plain_no_pin away ls = if_false _ _ (plain_elsewhere place.pin_list away)

-- ---- the head of a model

pub head_more : (h : Head) (l : Line) (ls : List Line) → head_in h (l ∷ ls) ≡ head_in (provided stands_in place.head l then head_next (head_line_of l.content) h else h) ls
unfolding head_in
head_more h l ls = refl

pub head_none : (h : Head) → head_in h [] ≡ h
unfolding head_in
head_none h = refl

pub head_skip : (h : Head) (l : Line) (ls : List Line) → stands_in place.head l ≡ false → head_in h (l ∷ ls) ≡ head_in h ls
head_skip h l ls e = head_more h l ls ∙ ap (λ (x : Head). head_in x ls) (if_false _ _ e)

pub head_front : (p : ℕ) → (p ≡ place.head → ⊥) → (h : Head) → {front : List Line} → Each (IsPlain p) front → (rest : List Line) → head_in h (front ++ rest) ≡ head_in h rest
head_front p away h none rest = refl
head_front p away h (more {x = l} {xs = ls} k ks) rest =
    head_skip h l (ls ++ rest) (plain_elsewhere p l k place.head away) ∙ head_front p away h ks rest

-- ---- the SGR of a model

pub sgr_more : (n : ℕ) (l : Line) (ls : List Line) → sgr_in n (l ∷ ls) ≡ sgr_in (provided says_sgr l then l.line else n) ls
unfolding sgr_in
sgr_more n l ls = refl

pub sgr_none : (n : ℕ) → sgr_in n [] ≡ n
unfolding sgr_in
sgr_none n = refl

pub sgr_skip : (n : ℕ) (l : Line) (ls : List Line) → stands_in place.head l ≡ false → sgr_in n (l ∷ ls) ≡ sgr_in n ls
unfolding says_sgr
sgr_skip n l ls e = sgr_more n l ls ∙ ap (λ (k : ℕ). sgr_in k ls) (if_false _ _ (both_not_left _ _ e))

pub sgr_front : (p : ℕ) → (p ≡ place.head → ⊥) → (n : ℕ) → {front : List Line} → Each (IsPlain p) front → (rest : List Line) → sgr_in n (front ++ rest) ≡ sgr_in n rest
sgr_front p away n none rest = refl
sgr_front p away n (more {x = l} {xs = ls} k ks) rest =
    sgr_skip n l (ls ++ rest) (plain_elsewhere p l k place.head away) ∙ sgr_front p away n ks rest

-- ---- the grid of a map

pub grid_more : (m : Map) (l : Line) (ls : List Line) → grid_in m (l ∷ ls) ≡ grid_in (provided stands_in place.map_head l then map_next (map_line_of l.content) m else m) ls
unfolding grid_in
grid_more m l ls = refl

pub grid_none : (m : Map) → grid_in m [] ≡ m
unfolding grid_in
grid_none m = refl

pub grid_front : (p : ℕ) → (p ≡ place.map_head → ⊥) → (m : Map) → {front : List Line} → Each (IsPlain p) front → (rest : List Line) → grid_in m (front ++ rest) ≡ grid_in m rest
grid_front p away m none rest = refl
grid_front p away m (more {x = l} {xs = ls} k ks) rest =
    grid_more m l (ls ++ rest) ∙ ap (λ (x : Map). grid_in x (ls ++ rest)) (if_false _ _ (plain_elsewhere p l k place.map_head away))
    ∙ grid_front p away m ks rest

-- lines say the same of two maps of which the lines before have said the same
grid_next : (x : MapLine) {m n : Map} → SameGrid m n → SameGrid (map_next x m) (map_next x n)
unfolding map_next
grid_next x g =
    record {
      order = ap (λ (v : ℕ). provided eqb x.says says_order then x.value else v) g.order;
      rows = ap (λ (v : ℕ). provided eqb x.says says_rows then x.value else v) g.rows;
      columns = ap (λ (v : ℕ). provided eqb x.says says_columns then x.value else v) g.columns;
    }

grid_either : (b : Bool) (x : MapLine) {m n : Map} → SameGrid m n → SameGrid (provided b then map_next x m else m) (provided b then map_next x n else n)
unfolding provided◌then◌else◌
grid_either true x g = grid_next x g
grid_either false x g = g

pub grid_lines : {m n : Map} → SameGrid m n → (ls : List Line) → SameGrid (grid_in m ls) (grid_in n ls)
grid_lines {m} {n} g [] = rw (grid_none m, grid_none n) g
grid_lines {m} {n} g (l ∷ ls) =
    let inside : Bool = stands_in place.map_head l in
    let said : MapLine = map_line_of l.content in
    rw (grid_more m l ls, grid_more n l ls)
    (grid_lines {m = provided inside then map_next said m else m} {n = provided inside then map_next said n else n} (grid_either inside said g) ls)
