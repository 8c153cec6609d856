-- One pass: what all blocks hold, block after block, is what one pass over all lines gives. It holds of every text.
-- Assumes nothing.
use mathlib.Core.Path.{◌≡◌, refl, sym, ◌∙◌, ap}
use mathlib.Core.Bool.{Bool, true, false}
use mathlib.Core.List.{List, [], ◌∷◌, ◌++◌, append_assoc}
use Prim.Native.Nat.{ℕ, ◌+◌}
use Rattle.base.specs.If.{provided◌then◌else◌}
use Rattle.base.proofs.IfLaws.{if_true, if_false, by_cases}
use Rattle.lex_line.specs.Lines.{Said, is_blank_line, contents}
use Rattle.line_place.specs.Place as place
use Rattle.doc.specs.Lines.{Line, place_after, lines_from, lines_at, significant, gather, up_to}
use Rattle.doc.proofs.Goes.{lines_blank, lines_said, lines_none}
use Rattle.doc.proofs.GatherLaws.{gather_more, gather_none, up_in, up_none, up_out}

-- ---- lines that follow one another

-- each line is read in the place to which the line before it leads, the first in p
pub data Follow : ℕ → List Line → Type 0 where
  none : {p : ℕ} → Follow p []
  more : {p : ℕ} {l : Line} {ls : List Line} → l.place ≡ p → Follow (place_after p l.content) ls → Follow p (l ∷ ls)

pub lines_follow : (n at p : ℕ) (rs : List Said) → Follow p (lines_from n at p rs)
lines_follow n at p [] = rw (lines_none n at p) none
lines_follow n at p (r ∷ rs) =
    by_cases (Follow p (lines_from n at p (r ∷ rs))) (is_blank_line r.content)
    (λ (b : is_blank_line r.content ≡ true).
    rw (lines_blank n at p r rs b) (lines_follow (n + 1) (at + r.size + 1) p rs))
    (λ (b : is_blank_line r.content ≡ false).
    rw (lines_said n at p r rs b)
    (more refl (lines_follow (n + 1) (at + r.size + 1) (place_after p r.content) rs)))

pub text_follows : (t : List ℕ) → Follow place.before (significant t)
unfolding significant lines_at
text_follows t = lines_follow 1 0 place.before (contents t)

-- ---- passes

-- everything that the elements of a list hold
unfoldable pub joined : {A B : Type 0} → (B → List A) → List B → List A
joined parts [] = []
joined parts (b ∷ bs) = parts b ++ joined parts bs

pub joined_append : {A B : Type 0} (parts : B → List A) (xs ys : List B) → joined parts (xs ++ ys) ≡ joined parts xs ++ joined parts ys
unfolding joined
joined_append parts [] ys = refl
joined_append parts (x ∷ xs) ys = ap (λ (r : List _). parts x ++ r) (joined_append parts xs ys) ∙ sym (append_assoc (parts x) _ _)

-- ---- blocks

-- A kind of block: which line opens one, which lines are in one, and what each line gives. Only lines in a block give
-- anything, no line in a block opens one, a block is entered only by the line that opens it, and what a line gives does
-- not depend on the lines after its block.
pub record Blocks {A : Type 0} (opens inside : Line → Bool) (here : Line → List Line → List A) : Type 0 where
  pub only : (l : Line) (after : List Line) → inside l ≡ false → here l after ≡ []
  pub apart : (l : Line) → inside l ≡ true → opens l ≡ false
  pub entered : (l m : Line) → m.place ≡ place_after l.place l.content → inside l ≡ false → opens l ≡ false → inside m ≡ false
  pub cut : (l : Line) (after : List Line) → here l (up_to inside after) ≡ here l after

-- what the block holds that a line opens
unfoldable pub of_block : {A : Type 0} → (Line → Bool) → (Line → Bool) → (Line → List Line → List A) → Line → List Line → List A
of_block opens inside here l after = provided opens l then gather here (up_to inside after) else []

-- the first of the lines is in no block
abbrev pub Outside : (Line → Bool) → List Line → Type 0
Outside inside [] = Unit {0}
Outside inside (l ∷ ls) = inside l ≡ false

-- inside a block, the rest of it and the blocks after it are one pass; outside, the blocks are
pub record Passes {A : Type 0} (opens inside : Line → Bool) (here : Line → List Line → List A) (ls : List Line) : Type 0 where
  pub within : gather here (up_to inside ls) ++ gather (of_block opens inside here) ls ≡ gather here ls
  pub without : Outside inside ls → gather (of_block opens inside here) ls ≡ gather here ls

module _ {A : Type 0} (opens inside : Line → Bool) (here : Line → List Line → List A) (blocks : Blocks opens inside here) where
  stays_outside :
      {p : ℕ} (l : Line) (ls : List Line) → l.place ≡ p → Follow (place_after p l.content) ls → inside l ≡ false → opens l ≡ false →
      Outside inside ls
  stays_outside l [] e none out shut = tt
  stays_outside l (m ∷ ls) e (more f rest) out shut = blocks.entered l m (f ∙ (λ i. place_after (sym e i) l.content)) out shut

  module _ {p : ℕ} (l : Line) (ls : List Line) (e : l.place ≡ p) (follow : Follow (place_after p l.content) ls)
      (later : Passes opens inside here ls) where
    nothing_here : inside l ≡ false → gather here (l ∷ ls) ≡ gather here ls
    nothing_here out = gather_more here l ls ∙ ap (λ (r : List A). r ++ gather here ls) (blocks.only l ls out)

    opened : opens l ≡ true → of_block opens inside here l ls ≡ gather here (up_to inside ls)
    unfolding of_block
    opened o = if_true _ _ o

    shut : opens l ≡ false → of_block opens inside here l ls ≡ []
    unfolding of_block
    shut o = if_false _ _ o

    outside_more : inside l ≡ false → gather (of_block opens inside here) (l ∷ ls) ≡ gather here (l ∷ ls)
    outside_more out =
        gather_more (of_block opens inside here) l ls
        ∙ by_cases (of_block opens inside here l ls ++ gather (of_block opens inside here) ls ≡ gather here ls) (opens l)
        (λ (o : opens l ≡ true). ap (λ (r : List A). r ++ gather (of_block opens inside here) ls) (opened o) ∙ later.within)
        (λ (o : opens l ≡ false).
        ap (λ (r : List A). r ++ gather (of_block opens inside here) ls) (shut o) ∙ later.without (stays_outside l ls e follow out o))
        ∙ sym (nothing_here out)

    inside_more :
        inside l ≡ true → gather here (up_to inside (l ∷ ls)) ++ gather (of_block opens inside here) (l ∷ ls) ≡ gather here (l ∷ ls)
    inside_more into =
        let a : gather here (up_to inside (l ∷ ls)) ≡ here l ls ++ gather here (up_to inside ls) =
        ap (gather here) (up_in inside l ls into) ∙ gather_more here l (up_to inside ls)
        ∙ ap (λ (r : List A). r ++ gather here (up_to inside ls)) (blocks.cut l ls) in
        let b : gather (of_block opens inside here) (l ∷ ls) ≡ gather (of_block opens inside here) ls =
        gather_more (of_block opens inside here) l ls
        ∙ ap (λ (r : List A). r ++ gather (of_block opens inside here) ls) (shut (blocks.apart l into)) in
        (λ i. a i ++ b i)
        ∙ append_assoc (here l ls) (gather here (up_to inside ls)) (gather (of_block opens inside here) ls)
        ∙ ap (λ (r : List A). here l ls ++ r) later.within
        ∙ sym (gather_more here l ls)

    left_more :
        inside l ≡ false → gather here (up_to inside (l ∷ ls)) ++ gather (of_block opens inside here) (l ∷ ls) ≡ gather here (l ∷ ls)
    left_more out =
        ap (λ (r : List A). r ++ gather (of_block opens inside here) (l ∷ ls))
        (ap (gather here) (up_out inside l ls out) ∙ gather_none here)
        ∙ outside_more out

  pub one_pass : {p : ℕ} (ls : List Line) → Follow p ls → Passes opens inside here ls
  one_pass [] none =
      record {
        within = ap (λ (r : List Line). gather here r ++ gather (of_block opens inside here) []) (up_none inside)
            ∙ (λ i. gather_none here i ++ gather_none (of_block opens inside here) i)
            ∙ sym (gather_none here);
        without = λ (o : Unit {0}). gather_none (of_block opens inside here) ∙ sym (gather_none here);
      }
  one_pass {p = p} (l ∷ ls) (more e follow) =
      let later : Passes opens inside here ls = one_pass {p = place_after p l.content} ls follow in
      record {
        within = by_cases _ (inside l) (inside_more l ls e follow later) (left_more l ls e follow later);
        without = outside_more l ls e follow later;
      }

  -- blocks that hold their parts are read in one pass
  pub parts_pass :
      {B : Type 0} (parts : B → List A) (block_at : Line → List Line → List B) →
      ((l : Line) (after : List Line) → joined parts (block_at l after) ≡ of_block opens inside here l after) →
      {p : ℕ} (ls : List Line) → Follow p ls → Outside inside ls → joined parts (gather block_at ls) ≡ gather here ls
  unfolding joined
  parts_pass parts block_at gives ls follow out = gathered ls ∙ (one_pass ls follow).without out
    where
      gathered : (ms : List Line) → joined parts (gather block_at ms) ≡ gather (of_block opens inside here) ms
      gathered [] = ap (joined parts) (gather_none block_at) ∙ sym (gather_none (of_block opens inside here))
      gathered (m ∷ ms) =
          ap (joined parts) (gather_more block_at m ms)
          ∙ joined_append parts (block_at m ms) (gather block_at ms)
          ∙ (λ i. gives m ms i ++ gathered ms i)
          ∙ sym (gather_more (of_block opens inside here) m ms)
