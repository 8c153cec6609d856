-- The lines of a section and of its matrices: where they end, and which matrices the document takes from them.
-- Assumes nothing.
use mathlib.Core.Path.{◌≡◌, ◌∙◌, ap}
use mathlib.Core.Bool.{true, false}
use mathlib.Core.List.{List, [], ◌∷◌, ◌++◌}
use lib.Dec.{eqb}
use borrow.Author.Tests.{eq-eqb, eqb-true}
use Rattle.base.specs.If.{either}
use Rattle.base.proofs.IfLaws.{if_true, if_false, both_true, both_first, both_second, both_not_right, either_left, either_right, either_false}
use Rattle.lex_keyword.specs.Names.{row, bandwidth, end_icm_section, derivation_method}
use Rattle.line_place.specs.Place.{opens_matrix, is_row_or_bandwidth}
use Rattle.line_place.specs.Place as place
use Rattle.line_argument.specs.Argument.{form_of}
use Rattle.doc.specs.Lines.{Line, plain, key_of, argument_of, gather, up_to}
use Rattle.doc.specs.Document.{Matrix, matrix_of, matrix_at, opens_matrix_at, in_matrix, in_section}
use Rattle.doc.proofs.GatherLaws.{up_in, up_up, gather_more}

-- ---- the lines of a matrix, and of a section

module _ (l : Line) where
  pub matrix_plain : l.place ≡ place.matrix → key_of l ≡ plain → in_matrix l ≡ true
  unfolding in_matrix
  matrix_plain p k = both_true _ _ (eq-eqb _ _ p) (either_left _ _ (eq-eqb _ _ k))

  pub matrix_kept : l.place ≡ place.matrix → is_row_or_bandwidth (key_of l) ≡ true → in_matrix l ≡ true
  unfolding in_matrix
  matrix_kept p k = both_true _ _ (eq-eqb _ _ p) (either_right _ _ k)

  pub matrix_left : eqb (key_of l) plain ≡ false → is_row_or_bandwidth (key_of l) ≡ false → in_matrix l ≡ false
  unfolding in_matrix
  matrix_left k h = both_not_right _ _ (either_false _ _ k h)

  pub section_head_lem : l.place ≡ place.section_head → in_section l ≡ true
  unfolding in_section
  section_head_lem p = either_left _ _ (eq-eqb _ _ p)

  pub section_first : l.place ≡ place.section → in_section l ≡ true
  unfolding in_section
  section_first p = either_right _ _ (either_left _ _ (eq-eqb _ _ p))

  pub section_matrix : l.place ≡ place.matrix → in_section l ≡ true
  unfolding in_section
  section_matrix p = either_right _ _ (either_right _ _ (eq-eqb _ _ p))

  pub section_left : l.place ≡ place.after → in_section l ≡ false
  unfolding in_section either
  section_left p = rw p

  pub matrix_inside : in_matrix l ≡ true → in_section l ≡ true
  unfolding in_matrix
  matrix_inside h = section_matrix (eqb-true _ _ (both_first _ _ h))

  pub opening_key : opens_matrix_at l ≡ true → opens_matrix (key_of l) ≡ true
  unfolding opens_matrix_at
  opening_key k = both_second _ _ k

-- a line of a section that opens no matrix
module _ (l : Line) (ls : List Line) where
  skip_at : (after : List Line) → opens_matrix (key_of l) ≡ false → matrix_at l after ≡ []
  unfolding matrix_at opens_matrix_at
  skip_at after k = if_false _ _ (both_not_right _ _ k)

  pub matrices_skip :
      in_section l ≡ true → opens_matrix (key_of l) ≡ false →
      gather matrix_at (up_to in_section (l ∷ ls)) ≡ gather matrix_at (up_to in_section ls)
  matrices_skip s k =
      ap (gather matrix_at) (up_in in_section l ls s) ∙ gather_more matrix_at l (up_to in_section ls)
      ∙ ap (λ (xs : List Matrix). xs ++ gather matrix_at (up_to in_section ls)) (skip_at (up_to in_section ls) k)

  open_at :
      (after : List Line) → opens_matrix_at l ≡ true →
      matrix_at l after ≡ matrix_of l (form_of (argument_of l).text) (up_to in_matrix after) ∷ []
  unfolding matrix_at
  open_at after k = if_true _ _ k

  -- one that opens a matrix
  pub matrices_open :
      in_section l ≡ true → opens_matrix_at l ≡ true →
      gather matrix_at (up_to in_section (l ∷ ls))
      ≡ matrix_of l (form_of (argument_of l).text) (up_to in_matrix ls) ∷ gather matrix_at (up_to in_section ls)
  matrices_open s k =
      ap (gather matrix_at) (up_in in_section l ls s) ∙ gather_more matrix_at l (up_to in_section ls)
      ∙ ap (λ (xs : List Matrix). xs ++ gather matrix_at (up_to in_section ls)) (open_at (up_to in_section ls) k)
      ∙ ap (λ (xs : List Line). matrix_of l (form_of (argument_of l).text) xs ∷ gather matrix_at (up_to in_section ls))
      (up_up in_matrix in_section matrix_inside ls)

  pub opens_next : l.place ≡ place.matrix → opens_matrix (key_of l) ≡ true → opens_matrix_at l ≡ true
  unfolding opens_matrix_at
  opens_next p k = both_true _ _ (either_right _ _ (eq-eqb _ _ p)) k

  pub opens_first : l.place ≡ place.section → opens_matrix (key_of l) ≡ true → opens_matrix_at l ≡ true
  unfolding opens_matrix_at
  opens_first p k = both_true _ _ (either_left _ _ (eq-eqb _ _ p)) k

-- the keys that open no matrix
module _ (l : Line) where
  pub plain_opens : key_of l ≡ plain → opens_matrix (key_of l) ≡ false
  unfolding opens_matrix either
  plain_opens k = ap opens_matrix k

  pub row_opens : key_of l ≡ row → opens_matrix (key_of l) ≡ false
  unfolding opens_matrix either
  row_opens k = ap opens_matrix k

  pub width_opens : key_of l ≡ bandwidth → opens_matrix (key_of l) ≡ false
  unfolding opens_matrix either
  width_opens k = ap opens_matrix k

  pub end_opens : key_of l ≡ end_icm_section → opens_matrix (key_of l) ≡ false
  unfolding opens_matrix either
  end_opens k = ap opens_matrix k

  pub method_opens : key_of l ≡ derivation_method → opens_matrix (key_of l) ≡ false
  unfolding opens_matrix either
  method_opens k = ap opens_matrix k

  pub row_keeps : key_of l ≡ row → is_row_or_bandwidth (key_of l) ≡ true
  unfolding is_row_or_bandwidth either
  row_keeps k = ap is_row_or_bandwidth k

  pub width_keeps : key_of l ≡ bandwidth → is_row_or_bandwidth (key_of l) ≡ true
  unfolding is_row_or_bandwidth either
  width_keeps k = ap is_row_or_bandwidth k

  pub end_closes : key_of l ≡ end_icm_section → is_row_or_bandwidth (key_of l) ≡ false
  unfolding is_row_or_bandwidth either
  end_closes k = ap is_row_or_bandwidth k
