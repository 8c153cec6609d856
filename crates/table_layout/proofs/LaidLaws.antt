-- The view of a table that a layout fills: it fits if no part has too many records.
-- Assumes nothing.
use mathlib.Core.Path.{◌≡◌, refl, sym, ◌∙◌, ap}
use mathlib.Core.Bool.{true}
use mathlib.Core.List.{List, [], ◌∷◌, ◌++◌, append_assoc}
use Prim.Native.Nat.{ℕ, suc, ◌+◌, ◌-◌, ◌*◌, ◌≤◌, zero}
use native.Mathlib.Nat.{add-zero}
use native.Mathlib.Omega.{arith}
use lib.ListN.{length, drop, get_or, length-append, length-drop}
use lib.Seq.{drop-drop, get_or-drop}
use borrow.Author.Tests.{le-leb}
use Rattle.table_layout.specs.Bounds.{bounds}
use Rattle.base.proofs.IfLaws.{both_true, if_true}
use Rattle.table_layout.specs.Layout.{widths, joined, layout}
use Rattle.table_layout.specs.Way.Parts.{AllLong, Wide}
use Rattle.table_layout.specs.Way.Parts as parts
use Rattle.table_layout.proofs.LayoutLaws.{length_joined}
use Rattle.table_layout.specs.View.{are_within, placed, view_of}
use Rattle.std.specs.Prelude.{Some}

-- no part has more records than its bound
pub data AllFew : List ℕ → List (List (List ℕ)) → Type 0 where
  none : AllFew [] []
  more : {b : ℕ} {bs : List ℕ} {records : List (List ℕ)} {parts : List (List (List ℕ))} → length records ≤ b → AllFew bs parts → AllFew (b ∷ bs) (records ∷ parts)

-- what comes after a part's records
part_behind : (w at : ℕ) (records : List (List ℕ)) (back t : List ℕ) → AllLong w records → drop at t ≡ (length records ∷ joined records) ++ back → drop (at + 1 + w * length records) t ≡ back
part_behind w at records back t long e =
    let l : length (joined records) ≡ w * length records = length_joined long in
    let n : at + 1 + w * length records ≡ at + (suc (length (joined records))) = omega arith in
    rw n (sym (drop-drop (suc (length (joined records))) at t) ∙ ap (drop (suc (length (joined records)))) e ∙ drop_front (joined records) back)
  where
    drop_front : (front behind : List ℕ) → drop (length front) (front ++ behind) ≡ behind
    drop_front [] behind = refl
    drop_front (x ∷ front) behind = drop_front front behind

pub count_here : (at n : ℕ) (back t : List ℕ) → drop at t ≡ n ∷ back → get_or t at 0 ≡ n
count_here at n back t e = ap (λ (k : ℕ). get_or t k 0) (sym (add-zero at)) ∙ sym (get_or-drop at t 0 0) ∙ ap (λ (l : List ℕ). get_or l 0 0) e

room_behind : (w at : ℕ) (records : List (List ℕ)) (back t : List ℕ) → AllLong w records → drop at t ≡ (length records ∷ joined records) ++ back → at ≤ length t → at + 1 + w * length records ≤ length t
room_behind w at records back t long e h =
    let l : length (joined records) ≡ w * length records = length_joined long in
    let d : length (drop at t) ≡ length t - at = length-drop at t in
    let n : length (drop at t) ≡ length (length records ∷ joined records) + length back = ap length e ∙ length-append (length records ∷ joined records) back in
    omega arith

laid_within : {ws bs : List ℕ} {parts : List (List (List ℕ))} (rest t : List ℕ) (at : ℕ) → Wide ws parts → AllFew bs parts → at ≤ length t → drop at t ≡ layout parts ++ rest → are_within ws bs t at ≡ true
unfolding are_within layout
laid_within rest t at parts.Wide.none AllFew.none h e = le-leb _ _ h
laid_within rest t at (parts.Wide.more {w} {ws} {records} {parts} long wide) (AllFew.more {b} few fews) h e =
    let f : drop at t ≡ (length records ∷ joined records) ++ (layout parts ++ rest) = e ∙ append_assoc (length records ∷ joined records) (layout parts) rest in
    let c : get_or t at 0 ≡ length records = count_here at (length records) (joined records ++ (layout parts ++ rest)) t f in
    let d : drop (at + 1 + w * length records) t ≡ layout parts ++ rest = part_behind w at records (layout parts ++ rest) t long f in
    let k : at + 1 + w * length records ≤ length t = room_behind w at records (layout parts ++ rest) t long f h in
    let g : get_or t at 0 ≤ b = rw c few in
    both_true _ _ (le-leb _ _ g) (rw c (laid_within rest t (at + 1 + w * length records) wide fews k d))

-- by their lengths, one after another
pub all_few : (bs : List ℕ) (parts : List (List (List ℕ))) → length bs ≡ length parts → ((p : ℕ) → length (get_or parts p []) ≤ get_or bs p 0) → AllFew bs parts
all_few [] [] e h = AllFew.none
all_few [] (records ∷ parts) e h = absurd (omega arith)
all_few (b ∷ bs) [] e h = absurd (omega arith)
all_few (b ∷ bs) (records ∷ parts) e h =
    let l : length bs ≡ length parts = omega arith in
    AllFew.more (h zero) (all_few bs parts l (λ (p : ℕ). h (suc p)))

pub laid_view : (parts : List (List (List ℕ))) (rest : List ℕ) → Wide widths parts → AllFew bounds parts → view_of (layout parts ++ rest) ≡ Some (placed (layout parts ++ rest))
unfolding view_of
laid_view parts rest wide few = if_true _ _ (laid_within rest (layout parts ++ rest) 0 wide few (omega arith) refl)
