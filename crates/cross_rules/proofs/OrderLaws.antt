-- The order of a document: in each of its lists the line numbers rise, and so do those of the findings of each
-- kind. This holds for every text.
-- Assumes nothing.
use mathlib.Core.Path.{◌≡◌, refl, sym, ◌∙◌, ap}
use mathlib.Core.Bool.{Bool, true, false}
use mathlib.Core.List.{List, [], ◌∷◌, ◌++◌, map, map-append, append-nil}
use Prim.Native.Nat.{ℕ, ◌+◌, ◌≤◌, ◌<◌}
use native.Mathlib.Omega.{arith}
use lib.Dec.{eqb}
use Rattle.base.specs.If.{provided◌then◌else◌}
use borrow.Author.Tests.{eqb-false}
use Rattle.base.proofs.IfLaws.{by_test, by_cases, if_true, if_false}
use Rattle.line_place.specs.Place as place
use Rattle.line_path.specs.Path as path
use Rattle.doc.specs.Lines.{Line, significant, stands_in, gather, up_to}
use Rattle.doc.specs.Document.{
  Named,
  Step,
  Model,
  Map,
  Section,
  Document,
  saying_at,
  step_of,
  steps_in,
  says_sgr,
  sgr_in,
  opens_model,
  in_model,
  model_of,
  model_at,
  listed_at,
  opens_map,
  in_map,
  pin_at,
  map_of,
  map_at,
  opens_section,
  section_of,
  section_at,
  document_in,
  document_of,
}
use Rattle.doc.specs.Holds.{Each}
use Rattle.doc.specs.Holds.Each.{none, more}
use Rattle.doc.proofs.BlockLaws.{joined, joined_append}
use Rattle.doc.proofs.GatherLaws.{gather_more, gather_none, up_in, up_none, up_out}
use Rattle.doc.proofs.StandsLaws.{Laid, laid}
use Rattle.doc.proofs.StandsLaws.Laid.{ended, onward}
use Rattle.doc.proofs.PassLaws.{model_blocks, map_blocks}
use Rattle.cross_rules.specs.Way.Findings.{list_findings, step_findings, model_findings, sgr_findings, pin_findings, map_findings, section_findings}
use Rattle.cross_rules.specs.declared.Finding.{Finding}
use Rattle.cross_rules.proofs.RisingLaws.{Rising, Gives, numbers, rising_wider, gives_rising, gather_rising, blocks_rising, rising_front, rising_behind}
use Rattle.cross_rules.proofs.RisingLaws.Rising.{flat, rise}
use Rattle.cross_rules.proofs.RisingLaws.Gives.{nothing, itself}

-- ---- the lines of what a document holds

abbrev pub name_lines : List Named → List ℕ
name_lines ns = map (λ (n : Named). n.line) ns

abbrev pub step_lines : List Step → List ℕ
step_lines ss = map (λ (s : Step). s.line) ss

abbrev pub openings : List Model → List ℕ
openings ms = map (λ (m : Model). m.line) ms

abbrev pub map_openings : List Map → List ℕ
map_openings ms = map (λ (m : Map). m.line) ms

abbrev pub section_openings : List Section → List ℕ
section_openings ss = map (λ (s : Section). s.line) ss

abbrev pub finding_lines : List Finding → List ℕ
finding_lines fs = map (λ (f : Finding). f.line) fs

-- a line, 0 for none; that of a model's SGR; the line of a model and that of its SGR
unfoldable pub line_or_none : ℕ → List ℕ
line_or_none n = provided eqb n 0 then [] else n ∷ []

abbrev pub sgr_line : Model → List ℕ
sgr_line m = line_or_none m.sgr

abbrev head_lines : Model → List ℕ
head_lines m = m.line ∷ sgr_line m

-- the line of a model and those of its steps; the line of a map and those of its pins
abbrev model_lines : Model → List ℕ
model_lines m = m.line ∷ step_lines m.steps

abbrev map_lines : Map → List ℕ
map_lines m = m.line ∷ name_lines m.pins

-- ---- what each line gives

module _ (l : Line) (after : List Line) where
  one_or_none :
      {A : Type 0} (line : A → ℕ) (b : Bool) (x : A) → line x ≡ l.line →
      Gives l.line [] (map line (provided b then x ∷ [] else []))
  one_or_none line b x e =
      by_test (λ (xs : List _). Gives l.line [] (map line xs)) b (x ∷ []) [] (λ (h : b ≡ true). rw e itself)
      (λ (h : b ≡ false). nothing)

  listed_own : Gives l.line [] (name_lines (listed_at l after))
  unfolding listed_at
  listed_own = one_or_none (λ (n : Named). n.line) (stands_in place.list l) _ refl

  pin_own : Gives l.line [] (name_lines (pin_at l after))
  unfolding pin_at
  pin_own = one_or_none (λ (n : Named). n.line) (stands_in place.pin_list l) _ refl

  pub model_own : Gives l.line [] (openings (model_at l after))
  unfolding model_at model_of
  model_own = one_or_none (λ (m : Model). m.line) (opens_model l) _ refl

  map_own : Gives l.line [] (map_openings (map_at l after))
  unfolding map_at map_of
  map_own = one_or_none (λ (m : Map). m.line) (opens_map l) _ refl

  pub section_own : Gives l.line [] (section_openings (section_at l after))
  unfolding section_at section_of
  section_own = one_or_none (λ (s : Section). s.line) (opens_section l) _ refl

  pub step_own : Gives l.line [] (step_lines (step_of l after))
  unfolding step_of
  step_own =
      by_test Own (eqb (saying_at l) path.says_end) _ _ (λ e. itself)
      (λ e.
      by_test Own (eqb (saying_at l) path.says_section) _ _ (λ e. itself)
      (λ e.
      by_test Own (eqb (saying_at l) path.says_fork) _ _ (λ e. itself)
      (λ e. by_test Own (eqb (saying_at l) path.says_endfork) _ _ (λ e. itself) (λ e. nothing))))
    where
      Own : List Step → Type 0
      Own ss = Gives l.line [] (step_lines ss)

  -- a line that opens a block gives the whole block
  block_whole :
      {B : Type 0} (lines : B → List ℕ) (rest : List ℕ) (b : Bool) (x : B) → lines x ≡ l.line ∷ rest →
      Gives l.line rest (joined lines (provided b then x ∷ [] else []))
  unfolding joined
  block_whole lines rest b x e =
      by_test (λ (xs : List _). Gives l.line rest (joined lines xs)) b (x ∷ []) []
      (λ (h : b ≡ true). rw (append-nil (lines x), e) itself) (λ (h : b ≡ false). nothing)

  model_whole : Gives l.line (step_lines (gather step_of (up_to in_model after))) (joined model_lines (model_at l after))
  unfolding model_at model_of steps_in
  model_whole = block_whole model_lines _ (opens_model l) _ refl

  map_whole : Gives l.line (name_lines (gather pin_at (up_to in_map after))) (joined map_lines (map_at l after))
  unfolding map_at map_of
  map_whole = block_whole map_lines _ (opens_map l) _ refl

  head_whole : Gives l.line (line_or_none (sgr_in 0 (up_to in_model after))) (joined head_lines (model_at l after))
  unfolding model_at model_of
  head_whole = block_whole head_lines _ (opens_model l) _ refl

  model_shut : in_model l ≡ true → model_at l after ≡ []
  unfolding model_at
  model_shut e = if_false _ _ (model_blocks.apart l e)

  map_shut : in_map l ≡ true → map_at l after ≡ []
  unfolding map_at
  map_shut e = if_false _ _ (map_blocks.apart l e)

-- ---- the lines of what is looked at

mapped_lines :
    {A : Type 0} (line : A → ℕ) (finding : A → Finding) → ((x : A) → (finding x).line ≡ line x) → (xs : List A) →
    finding_lines (map finding xs) ≡ map line xs
mapped_lines line finding same [] = refl
mapped_lines line finding same (x ∷ xs) = λ i. same x i ∷ mapped_lines line finding same xs i

module _ (d : Document) where
  list_lines : finding_lines (list_findings d) ≡ name_lines d.listed
  unfolding list_findings
  list_lines = mapped_lines (λ (n : Named). n.line) _ (λ (n : Named). refl) d.listed

  step_lines_lem : (m : Model) → finding_lines (step_findings d m) ≡ step_lines m.steps
  unfolding step_findings
  step_lines_lem m = mapped_lines (λ (s : Step). s.line) _ (λ (s : Step). refl) m.steps

  pin_lines : (m : Map) → finding_lines (pin_findings m) ≡ name_lines m.pins
  unfolding pin_findings
  pin_lines m = mapped_lines (λ (p : Named). p.line) _ (λ (p : Named). refl) m.pins

  model_lines_lem : (ms : List Model) → finding_lines (model_findings d ms) ≡ joined model_lines ms
  unfolding model_findings joined
  model_lines_lem [] = refl
  model_lines_lem (m ∷ ms) =
      ap (λ (ls : List ℕ). m.line ∷ ls) (map-append _ (step_findings d m) (model_findings d ms) ∙ (λ i. step_lines_lem m i ++ model_lines_lem ms i))

  sgr_lines : (ms : List Model) → finding_lines (sgr_findings ms) ≡ joined sgr_line ms
  unfolding sgr_findings line_or_none joined
  sgr_lines [] = refl
  sgr_lines (m ∷ ms) =
      by_cases _ (eqb m.sgr 0)
      (λ (e : eqb m.sgr 0 ≡ true). ap finding_lines (if_true _ _ e) ∙ sgr_lines ms ∙ sym (ap (λ (ls : List ℕ). ls ++ joined sgr_line ms) (if_true _ _ e)))
      (λ (e : eqb m.sgr 0 ≡ false).
      ap finding_lines (if_false _ _ e) ∙ ap (λ (ls : List ℕ). m.sgr ∷ ls) (sgr_lines ms)
      ∙ sym (ap (λ (ls : List ℕ). ls ++ joined sgr_line ms) (if_false _ _ e)))

  map_lines_lem : (ms : List Map) → finding_lines (map_findings d ms) ≡ joined map_lines ms
  unfolding map_findings joined
  map_lines_lem [] = refl
  map_lines_lem (m ∷ ms) =
      ap (λ (ls : List ℕ). m.line ∷ ls) (map-append _ (pin_findings m) (map_findings d ms) ∙ (λ i. pin_lines m i ++ map_lines_lem ms i))

  section_lines : (n : ℕ) (ss : List Section) → finding_lines (section_findings d n ss) ≡ section_openings ss
  unfolding section_findings
  section_lines n [] = refl
  section_lines n (s ∷ ss) = ap (λ (ls : List ℕ). s.line ∷ ls) (section_lines (n + 1) ss)

-- ---- the SGR lines of models

-- a number that may be none, above others
or_none_rising : {low high : ℕ} (n : ℕ) {ns : List ℕ} → ((n ≡ 0 → ⊥) → (low ≤ n) × (n < high)) → low ≤ high → Rising high ns → Rising low (line_or_none n ++ ns)
unfolding line_or_none
or_none_rising {low} {high} n {ns} h k rising =
    by_cases _ (eqb n 0)
    (λ (e : eqb n 0 ≡ true). rw (if_true {A = List ℕ} [] (n ∷ []) e) (rising_wider k rising))
    (λ (e : eqb n 0 ≡ false).
    let between : (low ≤ n) × (n < high) = h (eqb-false _ _ e) in
    let below : n < high = between.1 in
    rw (if_false {A = List ℕ} [] (n ∷ []) e) (rise between.0 (rising_wider (omega arith) rising)))

-- the SGR of an open model, of which these lines are left, and the models behind it; so far its SGR is line n
sgr_rising :
    {low least : ℕ} (n : ℕ) (ls : List Line) → Rising least (numbers ls) → low ≤ least → ((n ≡ 0 → ⊥) → (low ≤ n) × (n < least)) →
    Rising low (line_or_none (sgr_in n (up_to in_model ls)) ++ joined head_lines (gather model_at ls))
unfolding sgr_in joined
sgr_rising n [] flat k h = rw (up_none in_model, gather_none model_at) (or_none_rising n h k flat)
sgr_rising {low} {least} n (l ∷ ls) (rise least_here rest) k h =
    by_cases _ (in_model l)
    (λ (e : in_model l ≡ true).
    rw (up_in in_model l ls e, gather_more model_at l ls, model_shut l ls e)
    (sgr_rising {least = l.line + 1} (provided says_sgr l then l.line else n) ls rest (omega arith)
    (by_test (λ (m : ℕ). (m ≡ 0 → ⊥) → (low ≤ m) × (m < l.line + 1)) (says_sgr l) l.line n
    (λ s z. (omega arith, omega arith))
    (λ s z. let between : (low ≤ n) × (n < least) = h z in let below : n < least = between.1 in (between.0, omega arith)))))
    (λ (e : in_model l ≡ false).
    rw (up_out in_model l ls e, gather_more model_at l ls, joined_append head_lines (model_at l ls) (gather model_at ls))
    (or_none_rising n h k
    (gives_rising (line_or_none (sgr_in 0 (up_to in_model ls))) _ (head_whole l ls) least_here
    (sgr_rising {low = l.line + 1} 0 ls rest (omega arith) (λ (z : ◌≡◌ {A = ℕ} 0 0 → ⊥). absurd (z refl))))))

-- where the lines of models are left out, the others rise still
between_rising : {least : ℕ} (xs ys zs : List ℕ) → ((low : ℕ) → Rising low ys → Rising low zs) → Rising least (xs ++ ys) → Rising least (xs ++ zs)
between_rising {least} [] ys zs f h = f least h
between_rising {least = least} (x ∷ xs) ys zs f (rise k rest) = rise k (between_rising {least = x + 1} xs ys zs f rest)

only_sgr : {least : ℕ} (ms : List Model) → Rising least (joined head_lines ms) → Rising least (joined sgr_line ms)
unfolding joined
only_sgr [] h = flat
only_sgr (m ∷ ms) (rise h rest) =
    rising_wider (omega arith) (between_rising (sgr_line m) (joined head_lines ms) (joined sgr_line ms) (λ (low : ℕ) (r : Rising low (joined head_lines ms)). only_sgr ms r) rest)

-- ---- each block of its own

-- the lines of a block are its opening line and those of its parts, which are below it
each_block :
    {B : Type 0} (lines : B → List ℕ) (line : B → ℕ) (parts : B → List ℕ) → ((b : B) → lines b ≡ line b ∷ parts b) →
    {least : ℕ} (bs : List B) → Rising least (joined lines bs) → Each (λ (b : B). Rising (line b + 1) (parts b)) bs
unfolding joined
each_block lines line parts whole [] h = none
each_block lines line parts whole (b ∷ bs) h =
    more (tail (rw (whole b) at (rising_front (lines b) (joined lines bs) h)))
    (each_block lines line parts whole bs (rising_behind (lines b) (joined lines bs) h))
  where
    tail : {least n : ℕ} {ns : List ℕ} → Rising least (n ∷ ns) → Rising (n + 1) ns
    tail (rise k rest) = rest

-- ---- the whole document

-- in every list the line numbers rise, and they are at least 1
pub record Ordered (d : Document) : Type 0 where
  pub listed : Rising 1 (name_lines d.listed)
  pub models : Rising 1 (openings d.models)
  pub maps : Rising 1 (map_openings d.maps)
  pub sections : Rising 1 (section_openings d.sections)
  pub steps : Each (λ (m : Model). Rising (m.line + 1) (step_lines m.steps)) d.models
  pub sgrs : Each (λ (m : Model). Rising (m.line + 1) (sgr_line m)) d.models
  pub pins : Each (λ (m : Map). Rising (m.line + 1) (name_lines m.pins)) d.maps
  pub in_list : Rising 1 (finding_lines (list_findings d))
  pub in_models : Rising 1 (finding_lines (model_findings d d.models))
  pub in_sgrs : Rising 1 (finding_lines (sgr_findings d.models))
  pub in_maps : Rising 1 (finding_lines (map_findings d d.maps))
  pub in_sections : Rising 1 (finding_lines (section_findings d 0 d.sections))

laid_numbers : {t : List ℕ} {n at : ℕ} {ls : List Line} → Laid t n at ls → Rising n (numbers ls)
laid_numbers ended = flat
laid_numbers (onward end h k lies rest) = rise h (laid_numbers rest)

pub lines_rise : (t : List ℕ) → Rising 1 (numbers (significant t))
unfolding significant
lines_rise t = laid_numbers (laid t 1 0 place.before)

module _ (ls : List Line) (h : Rising 1 (numbers ls)) where
  models_rise : Rising 1 (joined model_lines (gather model_at ls))
  models_rise = blocks_rising (λ (s : Step). s.line) step_of step_own model_lines model_at in_model model_shut model_whole ls h

  heads_rise : Rising 1 (joined head_lines (gather model_at ls))
  heads_rise = rising_behind (line_or_none (sgr_in 0 (up_to in_model ls))) _ (sgr_rising 0 ls h (omega arith) (λ z. absurd (z refl)))

  maps_rise : Rising 1 (joined map_lines (gather map_at ls))
  maps_rise = blocks_rising (λ (p : Named). p.line) pin_at pin_own map_lines map_at in_map map_shut map_whole ls h

  in_order_of : Ordered (document_in ls)
  unfolding document_in
  in_order_of =
      record {
        listed = gather_rising (λ (n : Named). n.line) listed_at listed_own ls h;
        models = gather_rising (λ (m : Model). m.line) model_at model_own ls h;
        maps = gather_rising (λ (m : Map). m.line) map_at map_own ls h;
        sections = gather_rising (λ (s : Section). s.line) section_at section_own ls h;
        steps = each_block model_lines (λ (m : Model). m.line) (λ (m : Model). step_lines m.steps) (λ (m : Model). refl) _ models_rise;
        sgrs = each_block head_lines (λ (m : Model). m.line) sgr_line (λ (m : Model). refl) _ heads_rise;
        pins = each_block map_lines (λ (m : Map). m.line) (λ (m : Map). name_lines m.pins) (λ (m : Map). refl) _ maps_rise;
        in_list = rw (list_lines (document_in ls)) (gather_rising (λ (n : Named). n.line) listed_at listed_own ls h);
        in_models = rw (model_lines_lem (document_in ls) (gather model_at ls)) models_rise;
        in_sgrs = rw (sgr_lines (document_in ls) (gather model_at ls)) (only_sgr _ heads_rise);
        in_maps = rw (map_lines_lem (document_in ls) (gather map_at ls)) maps_rise;
        in_sections =
            rw (section_lines (document_in ls) 0 (gather section_at ls))
            (gather_rising (λ (s : Section). s.line) section_at section_own ls h);
      }

-- holds for every text, a refused one too
pub in_order : (t : List ℕ) → Ordered (document_of t)
unfolding document_of
in_order t = in_order_of (significant t) (lines_rise t)
