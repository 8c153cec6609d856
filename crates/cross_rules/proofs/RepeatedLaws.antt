-- Laws of repeated names: the search of the earlier records finds one exactly if one of them has the name.
-- Assumes nothing.
use mathlib.Core.Path.{◌≡◌, refl, sym, ◌∙◌, ap}
use mathlib.Core.Bool.{Bool, true, false}
use mathlib.Core.List.{List, [], ◌∷◌}
use Prim.Native.Nat.{ℕ, zero, suc, ◌+◌, ◌*◌, ◌≤◌, zero-le, suc-le-suc}
use lib.ListN.{length, take, drop}
use lib.Seq.{drop-drop}
use lib.Dec.{ltb, leb-suc-suc}
use borrow.Author.Tests.{le-leb, lt-ltb}
use Rattle.base.specs.If.{provided◌then◌else◌}
use Rattle.base.specs.Runs.{same}
use Rattle.base.proofs.IfLaws.{if_true, if_false, by_cases, both_rest, either_left, either_rest}
use Rattle.table_layout.specs.Layout.{chopped}
use Rattle.table_record.specs.Way.Standing.{places, name_record_at, name_width}
use Rattle.table_record.specs.declared.NameRecord.{NameRecord}
use Rattle.table_record.proofs.PlaceLaws.{places_long}
use Rattle.table_record.proofs.RecordLaws.{name_here}
use Rattle.doc.specs.Records.{index_of}
use Rattle.table_name.specs.Name.{name_at}
use Rattle.table_name.specs.Way.Search.{has_name, is_named, find_in}
use Rattle.cross_rules.specs.Rules.{any}
use Rattle.cross_rules.specs.Way.Repeated.{own_name, is_repeated}

-- `index_of` is below the length exactly if some element passes the test
found_any : {A : Type 0} (test : A → Bool) (xs : List A) → ltb (index_of test xs) (length xs) ≡ any test xs
unfolding index_of any
found_any test [] = refl
found_any test (x ∷ xs) =
    by_cases _ (test x)
    (λ (e : test x ≡ true). ap (λ (i : ℕ). ltb i (suc (length xs))) (if_true _ _ e) ∙ lt-ltb zero (suc (length xs)) (suc-le-suc zero-le) ∙ sym (either_left _ _ e))
    (λ (e : test x ≡ false). ap (λ (i : ℕ). ltb i (suc (length xs))) (if_false _ _ e) ∙ leb-suc-suc (suc (index_of test xs)) (length xs) ∙ found_any test xs ∙ sym (either_rest _ _ e))

-- the records before it, by their words and by their places
module _ (t table name : List ℕ) (width : ℕ) (wide : name_width ≤ width) where
  named_here : (at : ℕ) → is_named t name 0 (take width (drop at table)) ≡ same name (own_name t table at)
  unfolding has_name own_name
  named_here at =
      both_rest _ _ (le-leb 0 (name_record_at (take width (drop at table)) 0).start zero-le)
      ∙ ap (λ (r : NameRecord). same name (name_at t r.start r.size)) (name_here table width at wide)

  -- the search goes by their names
  pub found_places : (n base : ℕ) → find_in t table base width n name 0 ≡ index_of (λ (at : ℕ). same name (own_name t table at)) (places width base n)
  unfolding find_in index_of chopped places
  found_places zero base = refl
  found_places (suc n) base =
      let rest : index_of (is_named t name 0) (chopped width n (drop width (drop base table))) ≡ index_of (λ (at : ℕ). same name (own_name t table at)) (places width (base + width) n) =
      rw (drop-drop width base table) (found_places n (base + width)) in
      λ i. provided named_here base i then zero else suc (rest i)

pub twice_told :
    (t table : List ℕ) (base width index : ℕ) → name_width ≤ width → (own : NameRecord) → own ≡ name_record_at table (base + width * index) →
    (name : List ℕ) → name ≡ name_at t own.start own.size → (found : ℕ) → found ≡ find_in t table base width index name 0 →
    ltb found index ≡ is_repeated t table base width index
unfolding is_repeated own_name
twice_told t table base width index wide own here name told found e =
    let n : name ≡ own_name t table (base + width * index) = told ∙ ap (λ (r : NameRecord). name_at t r.start r.size) here in
    (λ i. ltb ((e ∙ found_places t table name width wide index base) i) (sym (places_long width base index) i))
    ∙ found_any (λ (at : ℕ). same name (own_name t table at)) (places width base index)
    ∙ ap (λ (x : List ℕ). any (λ (at : ℕ). same x (own_name t table at)) (places width base index)) n
