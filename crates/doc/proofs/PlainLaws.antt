-- Laws of lines without a keyword: they open nothing.
-- Assumes nothing.
use mathlib.Core.Path.{◌≡◌, refl, sym, ◌∙◌, ap}
use mathlib.Core.Bool.{false}
use mathlib.Core.List.{List, [], ◌∷◌, ◌++◌, append_assoc}
use Prim.Native.Nat.{ℕ}
use native.Mathlib.Omega.{arith}
use lib.Dec.{eqb}
use borrow.Author.Tests.{eq-eqb, ne_eqb}
use Rattle.base.proofs.IfLaws.{if_true, if_false, both_not_right}
use Rattle.line_place.specs.Place.{moved_by_line, map_head}
use Rattle.lex_keyword.specs.Names.{icm_pin_map, begin_icm_model, begin_icm_section}
use Rattle.doc.specs.Lines.{Line, plain, place_after, key_at, key_of, gather}
use Rattle.doc.specs.Document.{opens_map, map_at, opens_model, model_at, opens_section, section_at}
use Rattle.doc.specs.Holds.{Each}
use Rattle.doc.specs.Holds.Each.{none, more}
use Rattle.doc.specs.Way.Found.{IsPlain, Plainly}
use Rattle.doc.proofs.StandsLaws.{each_append}

-- ---- the place

pub plain_stays : (p : ℕ) (content : List ℕ) → key_at content ≡ plain → (p ≡ map_head → ⊥) → place_after p content ≡ p
unfolding place_after moved_by_line
plain_stays p content k h = if_true _ _ (eq-eqb _ _ k) ∙ if_false _ _ (ne_eqb p map_head h)

-- ---- a line without a keyword opens nothing

module _ (l : Line) (ls : List Line) (h : key_of l ≡ plain) where
  no_key : (k : ℕ) → (k ≡ plain → ⊥) → eqb (key_of l) k ≡ false
  no_key k other = ne_eqb _ _ (λ (e : key_of l ≡ k). other (sym e ∙ h))

  pub plain_map : map_at l ls ≡ []
  unfolding map_at opens_map
  plain_map = if_false _ _ (both_not_right _ _ (no_key icm_pin_map (λ (e : 14 ≡ 41). omega arith)))

  pub plain_model : model_at l ls ≡ []
  unfolding model_at opens_model
  plain_model = if_false _ _ (both_not_right _ _ (no_key begin_icm_model (λ (e : 23 ≡ 41). omega arith)))

  pub plain_section : section_at l ls ≡ []
  unfolding section_at opens_section
  plain_section = if_false _ _ (both_not_right _ _ (no_key begin_icm_section (λ (e : 30 ≡ 41). omega arith)))

-- ---- some lines, and then the rest

module _ (p : ℕ) where
  pub plainly_none : (ls : List Line) → Plainly p ls ls
  plainly_none ls = record { before = []; all = refl; each = none }

  pub plainly_one : (l : Line) (ls : List Line) → IsPlain p l → Plainly p (l ∷ ls) ls
  plainly_one l ls k = record { before = l ∷ []; all = refl; each = more k none }

  pub plainly_same : (ls rest other : List Line) → Plainly p ls rest → rest ≡ other → Plainly p ls other
  plainly_same ls rest other h e =
      record { before = h.before; all = h.all ∙ ap (λ (x : List Line). h.before ++ x) e; each = h.each }

  pub plainly_join : (ls middle rest : List Line) → Plainly p ls middle → Plainly p middle rest → Plainly p ls rest
  plainly_join ls middle rest h k =
      record {
        before = h.before ++ k.before;
        all = h.all ∙ ap (λ (x : List Line). h.before ++ x) k.all ∙ sym (append_assoc h.before k.before rest);
        each = each_append h.each k.each;
      }

-- ---- what lines give, where those without a keyword give nothing

module _ {A : Type 0} (p : ℕ) (here : Line → List Line → List A) (silent : (l : Line) (ls : List Line) → IsPlain p l → here l ls ≡ []) where
  plain_quiet : {before : List Line} → Each (IsPlain p) before → (rest : List Line) → gather here (before ++ rest) ≡ gather here rest
  unfolding gather
  plain_quiet none rest = refl
  plain_quiet (more {x = l} {xs = ls} k ks) rest =
      ap (λ (x : List A). x ++ gather here (ls ++ rest)) (silent l (ls ++ rest) k) ∙ plain_quiet ks rest

  pub plainly_quiet : (ls rest : List Line) → Plainly p ls rest → gather here ls ≡ gather here rest
  plainly_quiet ls rest h = ap (gather here) h.all ∙ plain_quiet h.each rest
