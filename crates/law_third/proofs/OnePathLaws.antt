-- The lines of a model write one path only: two lists of steps that `PathWritten` gives to the same lines are equal. So
-- it leaves nothing open, and a wrong step of the document could not be among what it allows.
-- Assumes nothing.
use Rattle.std.proofs.Common.{unwrap_or}
use mathlib.Core.Path.{◌≡◌, refl, sym, ◌∙◌, ap}
use mathlib.Core.Bool.{false, true≢false}
use mathlib.Core.List.{List, [], ◌∷◌}
use Prim.Native.Nat.{ℕ}
use Rattle.table_layout.specs.Codes.{end_kind, section_kind}
use Rattle.base.specs.If.{provided◌then◌else◌, both}
use Rattle.base.specs.Bytes.{bytes, is_before}
use Rattle.base.specs.Runs.{same}
use Rattle.base.proofs.RunLaws.{same_refl}
use Rattle.lex_line.specs.Words.{words, first_of, second_of, left_of}
use Rattle.lex_number.specs.Number.{number_of, word_in}
use Rattle.lex_number.specs.Integer.{whole_of}
use Rattle.doc.specs.Lines.{Line}
use Rattle.law_alike.proofs.SidesLaws.{has_sign, cut_left, left_on, left_by_words}
use Rattle.law_third.specs.PathWritten.{PathStep, SideBelow, WritesStep, PathWritten}
use Rattle.law_third.specs.PathWritten.SideBelow.{given, not_given, none_below}
use Rattle.law_third.specs.PathWritten.WritesStep.{model_pinmap, section_mult, section_len, fork, endfork}
use Rattle.law_third.specs.PathWritten.PathWritten.{no_line, outside_path, side_line, next_step}

-- a list of bytes cannot be two that are not the same
clash : (a b : List ℕ) → same a b ≡ false → {w : List ℕ} → w ≡ a → w ≡ b → ⊥
clash a b h e f = true≢false (sym (same_refl a) ∙ ap (same a) (sym e ∙ f) ∙ h)

-- the first word of a line is the first before its `=` too, if it has none itself
first_left : (content w : List ℕ) (ws : List (List ℕ)) → has_sign w ≡ false → words content ≡ w ∷ ws → first_of (left_of content) ≡ w
first_left content w ws h e = ap first_of (left_by_words content ∙ ap cut_left e ∙ left_on w ws h)

-- ---- the first word of each kind of line

module _ (content : List ℕ) where
  first_end_lem : {name : List ℕ} → words content ≡ bytes "Model_pinmap" ∷ name ∷ [] → first_of (left_of content) ≡ bytes "Model_pinmap"
  unfolding has_sign is_before provided◌then◌else◌
  first_end_lem {name} e = first_left content (bytes "Model_pinmap") (name ∷ []) refl e

  first_side : {name : List ℕ} → words content ≡ bytes "Side" ∷ name ∷ [] → first_of (left_of content) ≡ bytes "Side"
  unfolding has_sign is_before provided◌then◌else◌
  first_side {name} e = first_left content (bytes "Side") (name ∷ []) refl e

  first_fork : words content ≡ bytes "Fork" ∷ [] → first_of (left_of content) ≡ bytes "Fork"
  unfolding has_sign is_before provided◌then◌else◌
  first_fork e = first_left content (bytes "Fork") [] refl e

  first_endfork : words content ≡ bytes "Endfork" ∷ [] → first_of (left_of content) ≡ bytes "Endfork"
  unfolding has_sign is_before provided◌then◌else◌
  first_endfork e = first_left content (bytes "Endfork") [] refl e

-- ---- the side

one_side : {below : List Line} {side other : List ℕ} → SideBelow below side → SideBelow below other → side ≡ other
one_side (given i e) (given j f) = ap second_of (sym e ∙ f)
one_side (given i e) (not_given n) = absurd (n i (ap first_of e))
one_side (not_given n) (given i e) = absurd (n i (ap first_of e))
one_side (not_given n) (not_given m) = refl
one_side none_below none_below = refl

-- ---- the step

module _ (line : Line) (below : List Line) where
  one_step : {step other : PathStep} → WritesStep line below step → WritesStep line below other → step ≡ other
  unfolding same both
  one_step (model_pinmap e s) (model_pinmap f r) =
      λ i. record { kind = end_kind; name = ap second_of (sym e ∙ f) i; amount = 0; side = one_side s r i; line = line.line }
  one_step (model_pinmap e s) (section_mult f g h) = absurd (clash (bytes "Model_pinmap") (bytes "Section") refl (first_end_lem line.content e) (ap first_of f))
  one_step (model_pinmap e s) (section_len f g h) = absurd (clash (bytes "Model_pinmap") (bytes "Section") refl (first_end_lem line.content e) (ap first_of f))
  one_step (model_pinmap e s) (fork f) = absurd (clash (bytes "Model_pinmap") (bytes "Fork") refl (first_end_lem line.content e) (first_fork line.content f))
  one_step (model_pinmap e s) (endfork f) = absurd (clash (bytes "Model_pinmap") (bytes "Endfork") refl (first_end_lem line.content e) (first_endfork line.content f))
  one_step (section_mult f g h) (model_pinmap e s) = absurd (clash (bytes "Model_pinmap") (bytes "Section") refl (first_end_lem line.content e) (ap first_of f))
  one_step (section_mult f g h) (section_mult p q r) =
      λ i. record { kind = section_kind; name = ap second_of (sym g ∙ q) i; amount = unwrap_or (whole_of (ap first_of (sym g ∙ q) i)) 0; side = []; line = line.line }
  one_step (section_mult f g h) (section_len p q r) = absurd (clash (bytes "Mult") (bytes "Len") refl (ap second_of f) (ap second_of p))
  one_step (section_mult f g h) (fork e) = absurd (clash (bytes "Section") (bytes "Fork") refl (ap first_of f) (first_fork line.content e))
  one_step (section_mult f g h) (endfork e) = absurd (clash (bytes "Section") (bytes "Endfork") refl (ap first_of f) (first_endfork line.content e))
  one_step (section_len f g h) (model_pinmap e s) = absurd (clash (bytes "Model_pinmap") (bytes "Section") refl (first_end_lem line.content e) (ap first_of f))
  one_step (section_len f g h) (section_mult p q r) = absurd (clash (bytes "Mult") (bytes "Len") refl (ap second_of p) (ap second_of f))
  one_step (section_len f g h) (section_len p q r) =
      λ i. record { kind = section_kind; name = ap second_of (sym g ∙ q) i; amount = ap word_in (sym h ∙ ap (λ (ws : List (List ℕ)). number_of (first_of ws)) (sym g ∙ q) ∙ r) i; side = []; line = line.line }
  one_step (section_len f g h) (fork e) = absurd (clash (bytes "Section") (bytes "Fork") refl (ap first_of f) (first_fork line.content e))
  one_step (section_len f g h) (endfork e) = absurd (clash (bytes "Section") (bytes "Endfork") refl (ap first_of f) (first_endfork line.content e))
  one_step (fork e) (model_pinmap f s) = absurd (clash (bytes "Model_pinmap") (bytes "Fork") refl (first_end_lem line.content f) (first_fork line.content e))
  one_step (fork e) (section_mult f g h) = absurd (clash (bytes "Section") (bytes "Fork") refl (ap first_of f) (first_fork line.content e))
  one_step (fork e) (section_len f g h) = absurd (clash (bytes "Section") (bytes "Fork") refl (ap first_of f) (first_fork line.content e))
  one_step (fork e) (fork f) = refl
  one_step (fork e) (endfork f) = absurd (clash (bytes "Fork") (bytes "Endfork") refl (first_fork line.content e) (first_endfork line.content f))
  one_step (endfork e) (model_pinmap f s) = absurd (clash (bytes "Model_pinmap") (bytes "Endfork") refl (first_end_lem line.content f) (first_endfork line.content e))
  one_step (endfork e) (section_mult f g h) = absurd (clash (bytes "Section") (bytes "Endfork") refl (ap first_of f) (first_endfork line.content e))
  one_step (endfork e) (section_len f g h) = absurd (clash (bytes "Section") (bytes "Endfork") refl (ap first_of f) (first_endfork line.content e))
  one_step (endfork e) (fork f) = absurd (clash (bytes "Fork") (bytes "Endfork") refl (first_fork line.content f) (first_endfork line.content e))
  one_step (endfork e) (endfork f) = refl

  -- a Side writes none
  not_side : {step : PathStep} → WritesStep line below step → first_of (left_of line.content) ≡ bytes "Side" → ⊥
  unfolding same both
  not_side (model_pinmap e s) z = clash (bytes "Model_pinmap") (bytes "Side") refl (first_end_lem line.content e) z
  not_side (section_mult e f g) z = clash (bytes "Section") (bytes "Side") refl (ap first_of e) z
  not_side (section_len e f g) z = clash (bytes "Section") (bytes "Side") refl (ap first_of e) z
  not_side (fork e) z = clash (bytes "Fork") (bytes "Side") refl (first_fork line.content e) z
  not_side (endfork e) z = clash (bytes "Endfork") (bytes "Side") refl (first_endfork line.content e) z

-- ---- the path

pub one_path : {lines : List Line} {steps others : List PathStep} → PathWritten lines steps → PathWritten lines others → steps ≡ others
one_path no_line no_line = refl
one_path (outside_path n p) (outside_path m q) = one_path p q
one_path (outside_path n p) (side_line i e q) = absurd (n i)
one_path (outside_path n p) (next_step i w q) = absurd (n i)
one_path (side_line i e p) (outside_path n q) = absurd (n i)
one_path (side_line i e p) (side_line j f q) = one_path p q
one_path (side_line i e p) (next_step {line = l} {below = ls} j w q) = absurd (not_side l ls w (first_side l.content e))
one_path (next_step i w p) (outside_path n q) = absurd (n i)
one_path (next_step {line = l} {below = ls} i w p) (side_line j e q) = absurd (not_side l ls w (first_side l.content e))
one_path (next_step {line = l} {below = ls} i w p) (next_step j v q) = λ k. one_step l ls w v k ∷ one_path p q k
