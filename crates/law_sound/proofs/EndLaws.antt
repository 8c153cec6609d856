-- The words that a filled table uses end with the layout, and only zeros follow.
-- Assumes nothing.
use mathlib.Core.Path.{◌≡◌, refl, sym, ◌∙◌, ap}
use mathlib.Core.Bool.{true}
use mathlib.Core.List.{List, ◌∷◌, ◌++◌, append_assoc}
use Prim.Native.Nat.{ℕ, zero, suc, ◌+◌, ◌-◌, ◌*◌}
use native.Mathlib.Nat.{add-zero, zero-add}
use native.Mathlib.Omega.{arith}
use lib.ListN.{length, drop, get_or, replicate, length-append}
use lib.Seq.{drop-drop, drop_at}
use Rattle.table_record.specs.Records.{records_of}
use Rattle.base.proofs.IfLaws.{both_true}
use Rattle.table_layout.specs.Layout.{joined, layout}
use Rattle.table_layout.specs.Way.Parts.{AllLong, Wide}
use Rattle.table_layout.proofs.LayoutLaws.{length_joined}
use Rattle.table_layout.specs.View.{end_at, placed}
use Rattle.doc.specs.Document.{document_of}
use Rattle.doc.specs.Records.{flatten, table_of}
use Rattle.table_record.proofs.BackLaws.{records_wide, records_back}
use Rattle.cross_rules.specs.Way.HoldsText.{HoldsText}
use Rattle.ask_sound.specs.Sound.{every, are_zeros}
use Rattle.table_layout.proofs.LaidLaws.{count_here}

-- ---- the end of a layout

-- what follows the records of a part
part_behind :
    (w at : ℕ) (records : List (List ℕ)) (back t : List ℕ) → AllLong w records → drop at t ≡ (length records ∷ joined records) ++ back →
    drop (at + 1 + w * length records) t ≡ back
part_behind w at records back t long e =
    let l : length (joined records) ≡ w * length records = length_joined long in
    let n : at + 1 + w * length records ≡ at + (suc (length (joined records))) = omega arith in
    rw n
    (sym (drop-drop (suc (length (joined records))) at t) ∙ ap (drop (suc (length (joined records)))) e
    ∙ drop_at (length records ∷ joined records) back (suc (length (joined records))) refl)

end_laid :
    {ws : List ℕ} {parts : List (List (List ℕ))} (rest t : List ℕ) (at : ℕ) → Wide ws parts → drop at t ≡ layout parts ++ rest →
    end_at ws t at ≡ at + length (layout parts)
unfolding end_at layout
end_laid rest t at Wide.none e = sym (add-zero at)
end_laid rest t at (Wide.more {w} {ws} {records} {parts} long wide) e =
    let f : drop at t ≡ (length records ∷ joined records) ++ (layout parts ++ rest) =
    e ∙ append_assoc (length records ∷ joined records) (layout parts) rest in
    let c : get_or t at 0 ≡ length records = count_here at (length records) (joined records ++ (layout parts ++ rest)) t f in
    let d : drop (at + 1 + w * length records) t ≡ layout parts ++ rest =
    part_behind w at records (layout parts ++ rest) t long f in
    let g : end_at ws t (at + 1 + w * length records) ≡ at + 1 + w * length records + length (layout parts) =
    end_laid rest t (at + 1 + w * length records) wide d in
    let l : length (joined records) ≡ w * length records = length_joined long in
    let n : length ((length records ∷ joined records) ++ layout parts) ≡ suc (length (joined records)) + length (layout parts) =
    length-append (length records ∷ joined records) (layout parts) in
    rw c (g ∙ omega arith)

-- ---- a filled table

zeros_are : (n : ℕ) → are_zeros (replicate n 0) ≡ true
unfolding are_zeros every
zeros_are zero = refl
zeros_are (suc n) = both_true _ _ refl (zeros_are n)

module _ (t table : List ℕ) (filled : HoldsText t table) where
  abbrev zeros : ℕ
  zeros = length table - length (table_of t)

  -- the words used are those of the layout
  pub filled_end : (placed table).end ≡ length (table_of t)
  unfolding table_of
  filled_end =
      end_laid (replicate zeros 0) table 0 (records_wide (flatten (document_of t))) filled.words
      ∙ zero-add (length (table_of t))

  pub filled_zeros : are_zeros (drop (placed table).end table) ≡ true
  filled_zeros =
      let d : drop (placed table).end table ≡ replicate zeros 0 =
      (λ i. drop (filled_end i) (filled.words i)) ∙ drop_at (table_of t) (replicate zeros 0) (length (table_of t)) refl in
      ap are_zeros d ∙ zeros_are zeros

  pub filled_records : records_of table ≡ flatten (document_of t)
  unfolding table_of
  filled_records = ap records_of filled.words ∙ records_back (flatten (document_of t)) zeros
