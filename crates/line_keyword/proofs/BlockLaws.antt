-- Laws of keyword lines by which the code of this crate is proved.
-- Assumes nothing.
use Rattle.std.proofs.Common.{unwrap_or, Option, None, Some}
use mathlib.Core.Path.{◌≡◌, sym, ◌∙◌, ap}
use mathlib.Core.Bool.{Bool, true, false}
use mathlib.Core.List.{List}
use Prim.Native.Nat.{ℕ, ◌≤◌}
use native.Mathlib.Nat.{le_trans, le_of_eq}
use native.Mathlib.Omega.{arith}
use lib.Seq.{set_out}
use lib.Dec.{ltb, eqb}
use borrow.Author.Tests.{eq-eqb, ne_eqb, eqb-true, ltb-false}
use lib.ListN.{length, get_or-eq_default}
use Rattle.base.specs.If.{both}
use Rattle.line_keyword.specs.declared.State.{State}
use Rattle.line_keyword.specs.declared.Counts.{Counts}
use Rattle.line_keyword.specs.declared.Section.{Section}
use Rattle.line_keyword.specs.State.{start_state, none_seen, no_counts, new_section}
use Rattle.line_keyword.specs.Keywords.{
  is_seen,
  is_wrong_in_matrix,
  seen_after,
  head_after,
  path_after,
  map_after,
  section_after,
  conductors_after,
  matrix_after,
  one_more_if,
  counts_after,
  keyword_next,
}
use Rattle.line_keyword.specs.Way.Row.{matrix_keyword_rules, matrix_keyword_rule, matrix_keyword_next}
use Rattle.line_head.specs.Head.{new_head}
use Rattle.line_head.specs.declared.Head.{Head}
use Rattle.line_path.specs.Path.{new_path}
use Rattle.line_path.specs.declared.Path.{Path}
use Rattle.line_map.specs.PinMap.{new_map}
use Rattle.line_map.specs.declared.Map.{Map}
use Rattle.base.proofs.IfLaws.{if_true, if_false, either_false, either_rest}
use Rattle.base.proofs.BrokenLaws.{Numbered, all_kept}
use Rattle.lex_keyword.specs.Names.{row, bandwidth, begin_icm_model, begin_icm_section, derivation_method, icm_pin_map}
use Rattle.line_place.specs.Place.{moved, is_row_or_bandwidth, opens_matrix}
use Rattle.line_argument.specs.Argument.{is_out_of_bounds, form_of, method_of}
use Rattle.line_matrix.specs.Matrix.{is_wrong_row, new_matrix, with_row, with_bandwidth}
use Rattle.line_matrix.specs.declared.Matrix.{Matrix}
use Rattle.lex_number.specs.Integer.{whole_of}
use Rattle.table_layout.specs.Bounds.{most_bandwidth}

-- a number that belongs to no keyword has not been read
pub unseen : (k : ℕ) (s : State) → length s.seen ≡ 40 → 40 ≤ k → false ≡ is_seen k s
unfolding is_seen
unseen k s l h = sym (get_or-eq_default s.seen false (le_trans (le_of_eq l) h))

-- a [Row] of this value is out of order; one that is no integer is not
abbrev pub wrong_given : Option ℕ → Matrix → Bool
wrong_given None m = false
wrong_given (Some value) m = is_wrong_row value m

pub row_judged : (k : ℕ) (given : Option ℕ) (m : Matrix) (answer : Bool) → k ≡ row → answer ≡ wrong_given given m → answer ≡ is_wrong_in_matrix k given m
unfolding is_wrong_in_matrix both
row_judged k None m answer r e = e ∙ sym (if_true _ _ (eq-eqb k row r))
row_judged k (Some value) m answer r e = e ∙ sym (if_true _ _ (eq-eqb k row r))

-- [Row] and [Bandwidth] are judged by the integer that they take
pub by_value : (k : ℕ) (argument : List ℕ) (m : Matrix) (w : Option ℕ) → w ≡ whole_of argument → (answer : Bool) → answer ≡ is_wrong_in_matrix k w m → answer ≡ is_wrong_in_matrix k (whole_of argument) m
by_value k argument m w read answer h = h ∙ ap (λ (v : Option ℕ). is_wrong_in_matrix k v m) read

-- ---- what is remembered

-- a number that belongs to no keyword is neither [Row] nor [Bandwidth]
none_keeps : (k : ℕ) → 40 ≤ k → is_row_or_bandwidth k ≡ false
unfolding is_row_or_bandwidth
none_keeps k h = either_false _ _ (ne_eqb k row (λ (e : k ≡ row). omega arith)) (ne_eqb k bandwidth (λ (e : k ≡ bandwidth). omega arith))

-- a number that belongs to no keyword is not remembered
pub seen_past : (k : ℕ) (seen : List Bool) → (k ≡ begin_icm_model → ⊥) → (k ≡ begin_icm_section → ⊥) → length seen ≡ 40 → 40 ≤ k → seen ≡ seen_after k seen
unfolding seen_after
seen_past k seen m s l h = sym (if_false _ _ (none_keeps k h) ∙ if_false _ _ (ne_eqb _ _ m) ∙ if_false _ _ (ne_eqb _ _ s) ∙ set_out seen k true (le_trans (le_of_eq l) h))

module _ (k : ℕ) (argument : List ℕ) (s : State) where
  pub method_set : (k ≡ begin_icm_section → ⊥) → k ≡ derivation_method → (m : ℕ) → m ≡ method_of argument → record { method = m; conductors = 0 } ≡ section_after k argument s
  unfolding section_after
  method_set n e m told = (λ i. record { method = told i; conductors = 0 }) ∙ sym (if_false _ _ (ne_eqb _ _ n) ∙ if_true _ _ (eq-eqb _ _ e))

  pub section_kept : (k ≡ begin_icm_section → ⊥) → (k ≡ derivation_method → ⊥) → (c : ℕ) → c ≡ conductors_after k s → record { method = s.section.method; conductors = c } ≡ section_after k argument s
  unfolding section_after
  section_kept n e c told = (λ i. record { method = s.section.method; conductors = told i }) ∙ sym (if_false _ _ (ne_eqb _ _ n) ∙ if_false _ _ (ne_eqb _ _ e))

  module _ (opens : Bool) (told : opens ≡ opens_matrix k) where
    pub matrix_opened : opens ≡ true → (form : ℕ) → form ≡ form_of argument → (m : Matrix) → m ≡ new_matrix form s.counts.values → m ≡ matrix_after k argument s
    unfolding matrix_after
    matrix_opened h form f m e = e ∙ ap (λ (x : ℕ). new_matrix x s.counts.values) f ∙ sym (if_true _ _ (sym told ∙ h))

    module _ (h : opens ≡ false) where
      pub row_opened : k ≡ row → (w : Option ℕ) → w ≡ whole_of argument → (v : ℕ) → v ≡ unwrap_or w 0 → (m : Matrix) → m ≡ with_row v s.matrix s.counts.values → m ≡ matrix_after k argument s
      unfolding matrix_after
      row_opened r w read v g m e = e ∙ ap (λ (x : ℕ). with_row x s.matrix s.counts.values) (g ∙ ap (λ (x : Option ℕ). unwrap_or x 0) read) ∙ sym (if_false _ _ (sym told ∙ h) ∙ if_true _ _ (eq-eqb _ _ r))

      module _ (r : k ≡ row → ⊥) where
        pub bandwidth_set : k ≡ bandwidth → (w : Option ℕ) → w ≡ whole_of argument → (v : ℕ) → v ≡ unwrap_or w 0 → (m : Matrix) → m ≡ with_bandwidth v s.matrix → m ≡ matrix_after k argument s
        unfolding matrix_after
        bandwidth_set b w read v g m e = e ∙ ap (λ (x : ℕ). with_bandwidth x s.matrix) (g ∙ ap (λ (x : Option ℕ). unwrap_or x 0) read) ∙ sym (if_false _ _ (sym told ∙ h) ∙ if_false _ _ (ne_eqb _ _ r) ∙ if_true _ _ (eq-eqb _ _ b))

        pub matrix_kept : (k ≡ bandwidth → ⊥) → s.matrix ≡ matrix_after k argument s
        unfolding matrix_after
        matrix_kept b = sym (if_false _ _ (sym told ∙ h) ∙ if_false _ _ (ne_eqb _ _ r) ∙ if_false _ _ (ne_eqb _ _ b))

-- a bandwidth that is not out of bounds is at most 255
pub bandwidth_small : (k : ℕ) (argument : List ℕ) → is_out_of_bounds k argument ≡ false → (k ≡ row → ⊥) → k ≡ bandwidth → (w : Option ℕ) → w ≡ whole_of argument → (v : ℕ) → v ≡ unwrap_or w 0 → v ≤ most_bandwidth
unfolding is_out_of_bounds
bandwidth_small k argument e r b w read v g =
    let f : ltb most_bandwidth (unwrap_or (whole_of argument) 0) ≡ false = sym (if_false _ _ (ne_eqb _ _ r) ∙ if_true _ _ (eq-eqb _ _ b)) ∙ e in
    rw (g, read) (ltb-false _ _ f)

-- ---- [Row] and [Bandwidth] in a matrix

module _ (k : ℕ) (argument : List ℕ) (m : Matrix) where
  numbered : Numbered (matrix_keyword_rules k argument m)
  numbered = (omega arith, (omega arith, (omega arith, (omega arith, tt))))

  kept_bounds : matrix_keyword_rule k argument m ≡ 0 → is_out_of_bounds k argument ≡ false
  unfolding matrix_keyword_rule
  kept_bounds kept = all_kept (matrix_keyword_rules k argument m) numbered kept 2

  -- a keyword of the two that is not [Row] is [Bandwidth], and its argument is at most 255
  pub kept_small : is_row_or_bandwidth k ≡ true → matrix_keyword_rule k argument m ≡ 0 → (k ≡ row → ⊥) → (w : Option ℕ) → w ≡ whole_of argument → (v : ℕ) → v ≡ unwrap_or w 0 → v ≤ most_bandwidth
  unfolding is_row_or_bandwidth
  kept_small keeps kept r w read v g =
      let b : k ≡ bandwidth = eqb-true k bandwidth (sym (either_rest _ _ (ne_eqb k row r)) ∙ keeps) in
      bandwidth_small k argument (kept_bounds kept) r b w read v g

  module _ (values : ℕ) (w : Option ℕ) (read : w ≡ whole_of argument) (v : ℕ) (given : v ≡ unwrap_or w 0) (next : Matrix) where
    v_is : v ≡ unwrap_or (whole_of argument) 0
    v_is = given ∙ ap (λ (x : Option ℕ). unwrap_or x 0) read

    pub kept_row : k ≡ row → next ≡ with_row v m values → next ≡ matrix_keyword_next k argument m values
    unfolding matrix_keyword_next
    kept_row r e = e ∙ ap (λ (x : ℕ). with_row x m values) v_is ∙ sym (if_true _ _ (eq-eqb _ _ r))

    pub kept_bandwidth : (k ≡ row → ⊥) → next ≡ with_bandwidth v m → next ≡ matrix_keyword_next k argument m values
    unfolding matrix_keyword_next
    kept_bandwidth r e = e ∙ ap (λ (x : ℕ). with_bandwidth x m) v_is ∙ sym (if_false _ _ (ne_eqb _ _ r))

pub counts_told : (k : ℕ) (c : Counts) (models maps sections matrices : ℕ) (opens : Bool) → opens ≡ opens_matrix k → models ≡ one_more_if (eqb k begin_icm_model) c.models → maps ≡ one_more_if (eqb k icm_pin_map) c.maps → sections ≡ one_more_if (eqb k begin_icm_section) c.sections → matrices ≡ one_more_if opens c.matrices → record { models = models; steps = c.steps; maps = maps; pins = c.pins; sections = sections; matrices = matrices; values = c.values } ≡ counts_after k c
unfolding counts_after
counts_told k c models maps sections matrices opens told a b d e =
    let f : matrices ≡ one_more_if (opens_matrix k) c.matrices = e ∙ ap (λ (x : Bool). one_more_if x c.matrices) told in
    λ i. record { models = a i; steps = c.steps; maps = b i; pins = c.pins; sections = d i; matrices = f i; values = c.values }

-- the state after a keyword, part by part
pub next_parts : (k : ℕ) (argument : List ℕ) (s : State) (p : ℕ) (seen : List Bool) (h : Head) (t : Path) (m : Map) (n : Section) (x : Matrix) (c : Counts) → p ≡ moved s.place k → seen ≡ seen_after k s.seen → h ≡ head_after k s.head → t ≡ path_after k s.path → m ≡ map_after k s.map → n ≡ section_after k argument s → x ≡ matrix_after k argument s → c ≡ counts_after k s.counts → record { place = p; seen = seen; head = h; path = t; map = m; section = n; matrix = x; counts = c } ≡ keyword_next k argument s
unfolding keyword_next
next_parts k argument s p seen h t m n x c ep es eh et em en ex ec =
    λ i. record { place = ep i; seen = es i; head = eh i; path = et i; map = em i; section = en i; matrix = ex i; counts = ec i }

pub start_told : (h : Head) (t : Path) (m : Map) (x : Matrix) → h ≡ new_head → t ≡ new_path → m ≡ new_map → x ≡ new_matrix 0 0 → record { place = 0; seen = none_seen; head = h; path = t; map = m; section = new_section; matrix = x; counts = no_counts } ≡ start_state
unfolding start_state
start_told h t m x eh et em ex = λ i. record { place = 0; seen = none_seen; head = eh i; path = et i; map = em i; section = new_section; matrix = ex i; counts = no_counts }
