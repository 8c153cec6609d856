-- Laws of the loop over the pins of one map: the pins that are left give the first finding of all its pins.
-- Assumes nothing.
use mathlib.Core.Path.{◌≡◌, refl, sym, ◌∙◌, ap}
use mathlib.Core.Bool.{Bool, true, false}
use mathlib.Core.List.{List, [], ◌∷◌}
use Prim.Native.Nat.{ℕ, zero, suc, ◌+◌, ◌-◌, ◌≤◌, ◌<◌}
use native.Mathlib.Nat.{sub-zero}
use native.Mathlib.Omega.{arith}
use Rattle.base.specs.Broken.{◌when◌, first_broken}
use Rattle.base.proofs.BrokenLaws.{first_broken_lem, first_kept}
use Rattle.base.specs.Refusal as refusal
use Rattle.table_layout.specs.Layout.{pins, pin_width}
use Rattle.doc.specs.Lines.{significant}
use Rattle.cross_rules.specs.Rules.{no_finding}
use Rattle.cross_rules.specs.Way.First.{first_in}
use Rattle.cross_rules.specs.Way.Nth.{nth_line}
use Rattle.cross_rules.specs.Way.Repeated.{is_repeated}
use Rattle.cross_rules.specs.declared.Finding.{Finding}
use Rattle.cross_rules.proofs.KindLaws.{first_here, first_later}
use Rattle.cross_names.specs.Way.Pins.{pin_finding, pins_from}

pub record PinsLeft (t table : List ℕ) (base first count i : ℕ) : Type 0 where
  pub same : first_in (pins_from t table base first i (count - i)) ≡ first_in (pins_from t table base first 0 count)

module _ (t table : List ℕ) (base first : ℕ) where
  none_left : (i : ℕ) → first_in (pins_from t table base first i zero) ≡ record { rule = 0; line = 0 }
  unfolding pins_from first_in no_finding
  none_left i = refl

  one_left : (i n : ℕ) → pins_from t table base first i (suc n) ≡ pin_finding t table base first i ∷ pins_from t table base first (i + 1) n
  unfolding pins_from
  one_left i n = refl

  found_here : (i line : ℕ) → is_repeated t table base pin_width i ≡ true → line ≡ nth_line pins (first + i) (significant t) → record { rule = refusal.twice; line = line } ≡ pin_finding t table base first i
  unfolding pin_finding
  found_here i line b l =
      let n : refusal.twice ≡ first_broken (refusal.twice when is_repeated t table base pin_width i ∷ []) = sym (first_broken_lem (is_repeated t table base pin_width i) refusal.twice 0 b) in
      λ j. record { rule = n j; line = l j }

  kept_here : (i : ℕ) → is_repeated t table base pin_width i ≡ false → (pin_finding t table base first i).rule ≡ 0
  unfolding pin_finding
  kept_here i b = first_kept (is_repeated t table base pin_width i) refusal.twice 0 0 b refl

module _ (t table : List ℕ) (base first count : ℕ) where
  abbrev whole : Finding
  whole = first_in (pins_from t table base first 0 count)

  pub pins_start : PinsLeft t table base first count 0
  pins_start = record { same = ap (λ (n : ℕ). first_in (pins_from t table base first 0 n)) (sub-zero count) }

  module _ (i : ℕ) (left : PinsLeft t table base first count i) where
    pub pins_end : count ≤ i → record { rule = 0; line = 0 } ≡ whole
    pins_end h =
        let z : count - i ≡ 0 = omega arith in
        sym (none_left t table base first i) ∙ ap (λ (n : ℕ). first_in (pins_from t table base first i n)) (sym z) ∙ left.same

    module _ (h : i < count) (twice : Bool) (is_repeated_lem : twice ≡ is_repeated t table base pin_width i) where
      same_here : first_in (pin_finding t table base first i ∷ pins_from t table base first (i + 1) (count - (i + 1))) ≡ whole
      same_here =
          let c : count - i ≡ suc (count - (i + 1)) = omega arith in
          ap first_in (sym (one_left t table base first i (count - (i + 1))))
          ∙ ap (λ (n : ℕ). first_in (pins_from t table base first i n)) (sym c)
          ∙ left.same

      pub pin_breaks : twice ≡ true → (line : ℕ) → line ≡ nth_line pins (first + i) (significant t) → record { rule = refusal.twice; line = line } ≡ whole
      pin_breaks e line l =
          let f : record { rule = refusal.twice; line = line } ≡ pin_finding t table base first i = found_here t table base first i line (sym is_repeated_lem ∙ e) l in
          let n : refusal.twice ≡ (pin_finding t table base first i).rule = ap (λ (x : Finding). x.rule) f in
          f ∙ sym (first_here (pin_finding t table base first i) _ (λ (z : (pin_finding t table base first i).rule ≡ 0). omega arith)) ∙ same_here

      pub pins_on : twice ≡ false → PinsLeft t table base first count (i + 1)
      pins_on e =
          record { same = sym (first_later (pin_finding t table base first i) _ (kept_here t table base first i (sym is_repeated_lem ∙ e))) ∙ same_here }
