-- The place after a line: which lines enter a model, a pin map, a section and a matrix,
-- and the places of a keyword that is not misplaced.
-- Assumes nothing.
use mathlib.Core.Path.{◌≡◌, refl, sym, ◌∙◌}
use mathlib.Core.Bool.{Bool, true, false, true≢false}
use mathlib.Core.List.{List}
use Prim.Native.Nat.{ℕ}
use lib.Dec.{eqb}
use borrow.Author.Tests.{eq-eqb, ne_eqb, eqb-true}
use Rattle.base.specs.If.{provided◌then◌else◌, both, either}
use Rattle.base.specs.Runs.{same}
use Rattle.base.specs.Bytes.{bytes}
use Rattle.base.proofs.IfLaws.{
  by_test,
  by_cases,
  both_true,
  either_left,
  either_right,
  either_false,
  either_rest,
  either_none_first,
  either_none_second,
}
use Rattle.lex_line.specs.Words.{words, first_of}
use Rattle.lex_keyword.specs.Names.{
  the_end,
  icm_ver,
  end_header,
  icm_pin_map,
  begin_header,
  manufacturer,
  end_icm_model,
  icm_model_list,
  end_icm_family,
  begin_icm_model,
  end_icm_section,
  begin_icm_family,
  derivation_method,
  resistance_matrix,
  inductance_matrix,
  begin_icm_section,
  conductance_matrix,
  capacitance_matrix,
  tree_path_description,
  icm_model_description,
  icm_family_description,
}
use Rattle.line_place.specs.Place.{
  opens_header_text,
  stands_in_header,
  leads_in_header,
  leads_in_family,
  leads_in_model,
  opens_matrix,
  leads_in_section,
  is_row_or_bandwidth,
  leads_in_matrix,
  leads_after_family,
  is_in_header,
  is_in_family,
  is_in_model,
  moved,
  moved_by_line,
}
use Rattle.line_place.specs.Place as place
use Rattle.doc.specs.Lines.{plain, key_at, place_after}

-- ---- by the place

-- none of the places in which keywords are looked up
pub record Elsewhere (p : ℕ) : Type 0 where
  pub matrix : eqb p place.matrix ≡ false
  pub model : is_in_model p ≡ false
  pub family : is_in_family p ≡ false
  pub header : is_in_header p ≡ false
  pub section : eqb p place.section ≡ false
  pub after : eqb p place.after ≡ false
  pub opened : eqb p place.opened ≡ false
  pub between : eqb p place.between ≡ false
  pub section_head : eqb p place.section_head ≡ false
  pub before : eqb p place.before ≡ false

module _ (P : ℕ → Type 0) (p k : ℕ) where
  -- what holds in each place in which keywords are looked up holds of the place after the keyword
  pub record ByPlace : Type 0 where
    pub matrix : p ≡ place.matrix → P (leads_in_matrix k)
    pub model : is_in_model p ≡ true → P (leads_in_model k)
    pub family : is_in_family p ≡ true → P (leads_in_family k)
    pub header : is_in_header p ≡ true → P (leads_in_header k)
    pub section : p ≡ place.section → P (leads_in_section k)
    pub after : p ≡ place.after → P (leads_after_family k)
    pub opened : p ≡ place.opened → P (provided eqb k icm_ver then place.header else place.dead)
    pub between : p ≡ place.between → P (provided eqb k begin_icm_family then place.family else place.dead)
    pub section_head : p ≡ place.section_head → P (provided eqb k derivation_method then place.section else place.dead)
    pub before : p ≡ place.before → P (provided eqb k begin_header then place.opened else place.before)
    pub elsewhere : Elsewhere p → P p

  pub by_place : ByPlace → P (moved p k)
  unfolding moved
  by_place w =
      by_test P (eqb p place.matrix) _ _ (λ (t : eqb p place.matrix ≡ true). w.matrix (eqb-true _ _ t))
      (λ (a : eqb p place.matrix ≡ false).
      by_test P (is_in_model p) _ _ w.model
      (λ (b : is_in_model p ≡ false).
      by_test P (is_in_family p) _ _ w.family
      (λ (c : is_in_family p ≡ false).
      by_test P (is_in_header p) _ _ w.header
      (λ (d : is_in_header p ≡ false).
      by_test P (eqb p place.section) _ _ (λ (t : eqb p place.section ≡ true). w.section (eqb-true _ _ t))
      (λ (e : eqb p place.section ≡ false).
      by_test P (eqb p place.after) _ _ (λ (t : eqb p place.after ≡ true). w.after (eqb-true _ _ t))
      (λ (f : eqb p place.after ≡ false).
      by_test P (eqb p place.opened) _ _ (λ (t : eqb p place.opened ≡ true). w.opened (eqb-true _ _ t))
      (λ (g : eqb p place.opened ≡ false).
      by_test P (eqb p place.between) _ _ (λ (t : eqb p place.between ≡ true). w.between (eqb-true _ _ t))
      (λ (h : eqb p place.between ≡ false).
      by_test P (eqb p place.section_head) _ _ (λ (t : eqb p place.section_head ≡ true). w.section_head (eqb-true _ _ t))
      (λ (i : eqb p place.section_head ≡ false).
      by_test P (eqb p place.before) _ _ (λ (t : eqb p place.before ≡ true). w.before (eqb-true _ _ t))
      (λ (j : eqb p place.before ≡ false).
      w.elsewhere
      (record {
        matrix = a;
        model = b;
        family = c;
        header = d;
        section = e;
        after = f;
        opened = g;
        between = h;
        section_head = i;
        before = j;
      })))))))))))

-- ---- by where it leads

-- whichever of two a test chooses
either_way : (P : ℕ → Type 0) (b : Bool) (x y : ℕ) → P x → P y → P (provided b then x else y)
either_way P b x y h k = by_test P b x y (λ (e : b ≡ true). h) (λ (e : b ≡ false). k)

module _ (P : ℕ → Type 0) (p k : ℕ) where
  -- the places to which keyword k may lead from p: into a block only by the keyword that opens it, elsewhere by any
  pub record Ways : Type 0 where
    pub keeps : p ≡ place.matrix → is_row_or_bandwidth k ≡ true → P place.matrix
    pub matrix : either (eqb p place.section) (eqb p place.matrix) ≡ true → opens_matrix k ≡ true → P place.matrix
    pub path : is_in_model p ≡ true → P place.path
    pub model_text : is_in_model p ≡ true → P place.model_text
    pub map_head : is_in_family p ≡ true → k ≡ icm_pin_map → P place.map_head
    pub head : is_in_family p ≡ true → k ≡ begin_icm_model → P place.head
    pub section_head : p ≡ place.after → k ≡ begin_icm_section → P place.section_head
    pub section : p ≡ place.section_head → P place.section
    pub family : P place.family
    pub list : P place.list
    pub family_text : P place.family_text
    pub after : P place.after
    pub header : P place.header
    pub header_text : P place.header_text
    pub between : P place.between
    pub opened : P place.opened
    pub before : P place.before
    pub done : P place.done
    pub dead : P place.dead
    pub elsewhere : Elsewhere p → P p

  module _ (w : Ways) where
    section_way : either (eqb p place.section) (eqb p place.matrix) ≡ true → P (leads_in_section k)
    unfolding leads_in_section
    section_way e =
        by_test P (opens_matrix k) _ _ (w.matrix e)
        (λ (n : opens_matrix k ≡ false). either_way P (eqb k end_icm_section) _ _ w.after w.dead)

    matrix_way : p ≡ place.matrix → P (leads_in_matrix k)
    unfolding leads_in_matrix
    matrix_way e =
        by_test P (is_row_or_bandwidth k) _ _ (w.keeps e)
        (λ (n : is_row_or_bandwidth k ≡ false). section_way (either_right _ _ (eq-eqb p place.matrix e)))

    model_way : is_in_model p ≡ true → P (leads_in_model k)
    unfolding leads_in_model
    model_way e =
        either_way P (eqb k tree_path_description) _ _ (w.path e)
        (either_way P (eqb k icm_model_description) _ _ (w.model_text e) (either_way P (eqb k end_icm_model) _ _ w.family w.dead))

    family_way : is_in_family p ≡ true → P (leads_in_family k)
    unfolding leads_in_family
    family_way e =
        by_test P (eqb k icm_pin_map) _ _ (λ (t : eqb k icm_pin_map ≡ true). w.map_head e (eqb-true _ _ t))
        (λ (n : eqb k icm_pin_map ≡ false).
        by_test P (eqb k begin_icm_model) _ _ (λ (t : eqb k begin_icm_model ≡ true). w.head e (eqb-true _ _ t))
        (λ (m : eqb k begin_icm_model ≡ false).
        either_way P (eqb k end_icm_family) _ _ w.after
        (either_way P (eqb k manufacturer) _ _ w.family
        (either_way P (eqb k icm_model_list) _ _ w.list (either_way P (eqb k icm_family_description) _ _ w.family_text w.dead)))))

    header_way : P (leads_in_header k)
    unfolding leads_in_header
    header_way =
        either_way P (stands_in_header k) _ _ w.header
        (either_way P (opens_header_text k) _ _ w.header_text (either_way P (eqb k end_header) _ _ w.between w.dead))

    after_way : p ≡ place.after → P (leads_after_family k)
    unfolding leads_after_family
    after_way e =
        by_test P (eqb k begin_icm_section) _ _ (λ (t : eqb k begin_icm_section ≡ true). w.section_head e (eqb-true _ _ t))
        (λ (n : eqb k begin_icm_section ≡ false). either_way P (eqb k the_end) _ _ w.done w.dead)

    pub by_way : P (moved p k)
    by_way =
        by_place P p k
        (record {
          matrix = matrix_way;
          model = model_way;
          family = family_way;
          header = λ (e : is_in_header p ≡ true). header_way;
          section = λ (e : p ≡ place.section). section_way (either_left _ _ (eq-eqb p place.section e));
          after = after_way;
          opened = λ (e : p ≡ place.opened). either_way P (eqb k icm_ver) _ _ w.header w.dead;
          between = λ (e : p ≡ place.between). either_way P (eqb k begin_icm_family) _ _ w.family w.dead;
          section_head = λ (e : p ≡ place.section_head). either_way P (eqb k derivation_method) _ _ (w.section e) w.dead;
          before = λ (e : p ≡ place.before). either_way P (eqb k begin_header) _ _ w.opened w.before;
          elsewhere = w.elsewhere;
        })

-- ---- a whole line

module _ (P : ℕ → Type 0) (p : ℕ) where
  -- without a keyword only Pin_list leads to another place
  by_line : (first : List ℕ) → (p ≡ place.map_head → P place.pin_list) → P p → P (moved_by_line p first)
  unfolding moved_by_line
  by_line first pins stay =
      by_test P (eqb p place.map_head) _ _
      (λ (t : eqb p place.map_head ≡ true).
      let e : p ≡ place.map_head = eqb-true _ _ t in
      either_way P (same first (bytes "Pin_list")) _ _ (pins e) (rw e at stay))
      (λ (n : eqb p place.map_head ≡ false). stay)

  pub by_content :
      (content : List ℕ) → (key_at content ≡ plain → (p ≡ place.map_head → P place.pin_list) × P p) →
      (eqb (key_at content) plain ≡ false → P (moved p (key_at content))) → P (place_after p content)
  unfolding place_after
  by_content content plainly keyed =
      by_test P (eqb (key_at content) plain) _ _
      (λ (t : eqb (key_at content) plain ≡ true).
      let h : (p ≡ place.map_head → P place.pin_list) × P p = plainly (eqb-true _ _ t) in
      by_line (first_of (words content)) h.0 h.1)
      keyed

-- two tests that cannot both hold
not_both : (a b : Bool) → both a b ≡ false → a ≡ true → b ≡ true → ⊥
not_both a b n h k = true≢false (sym (both_true a b h k) ∙ n)

-- a model is entered by [Begin ICM Model] alone
pub model_entered :
    (p : ℕ) (content : List ℕ) → is_in_model p ≡ false → both (is_in_family p) (eqb (key_at content) begin_icm_model) ≡ false →
    is_in_model (place_after p content) ≡ false
unfolding is_in_model either
model_entered p content out shut =
    by_content (λ (q : ℕ). is_in_model q ≡ false) p content (λ (e : key_at content ≡ plain). (λ (h : p ≡ place.map_head). refl, out))
    (λ (n : eqb (key_at content) plain ≡ false).
    by_way (λ (q : ℕ). is_in_model q ≡ false) p (key_at content)
    (record {
      keeps = λ e h. refl;
      matrix = λ e h. refl;
      path = λ e. absurd (true≢false (sym e ∙ out));
      model_text = λ e. absurd (true≢false (sym e ∙ out));
      map_head = λ e h. refl;
      head = λ e h. absurd (not_both _ _ shut e (eq-eqb _ _ h));
      section_head = λ e h. refl;
      section = λ e. refl;
      family = refl;
      list = refl;
      family_text = refl;
      after = refl;
      header = refl;
      header_text = refl;
      between = refl;
      opened = refl;
      before = refl;
      done = refl;
      dead = refl;
      elsewhere = λ e. out;
    }))

-- a pin map is entered by [ICM Pin Map] alone, and left by every keyword
pub record OutsideMap (p : ℕ) : Type 0 where
  pub head : eqb p place.map_head ≡ false
  pub pins : eqb p place.pin_list ≡ false

elsewhere_map : (p : ℕ) → is_in_family p ≡ false → OutsideMap p
unfolding is_in_family
elsewhere_map p e =
    let f : either (eqb p place.map_head) (eqb p place.pin_list) ≡ false =
    either_none_second _ _ (either_none_second _ _ (either_none_second _ _ e)) in
    record { head = either_none_first _ _ f; pins = either_none_second _ _ f }

pub map_entered :
    (p : ℕ) (content : List ℕ) → (key_at content ≡ plain → OutsideMap p) → both (is_in_family p) (eqb (key_at content) icm_pin_map) ≡ false →
    OutsideMap (place_after p content)
map_entered p content out shut =
    by_content OutsideMap p content
    (λ (e : key_at content ≡ plain). (λ (h : p ≡ place.map_head). absurd (true≢false (sym (eq-eqb _ _ h) ∙ (out e).head)), out e))
    (λ (n : eqb (key_at content) plain ≡ false).
    by_way OutsideMap p (key_at content)
    (record {
      keeps = λ e h. record { head = refl; pins = refl };
      matrix = λ e h. record { head = refl; pins = refl };
      path = λ e. record { head = refl; pins = refl };
      model_text = λ e. record { head = refl; pins = refl };
      map_head = λ e h. absurd (not_both _ _ shut e (eq-eqb _ _ h));
      head = λ e h. record { head = refl; pins = refl };
      section_head = λ e h. record { head = refl; pins = refl };
      section = λ e. record { head = refl; pins = refl };
      family = record { head = refl; pins = refl };
      list = record { head = refl; pins = refl };
      family_text = record { head = refl; pins = refl };
      after = record { head = refl; pins = refl };
      header = record { head = refl; pins = refl };
      header_text = record { head = refl; pins = refl };
      between = record { head = refl; pins = refl };
      opened = record { head = refl; pins = refl };
      before = record { head = refl; pins = refl };
      done = record { head = refl; pins = refl };
      dead = record { head = refl; pins = refl };
      elsewhere = λ e. elsewhere_map p e.family;
    }))

-- a section is entered by [Begin ICM Section] alone
pub record OutsideSection (p : ℕ) : Type 0 where
  pub head : eqb p place.section_head ≡ false
  pub section : eqb p place.section ≡ false
  pub matrix : eqb p place.matrix ≡ false

pub section_entered :
    (p : ℕ) (content : List ℕ) → OutsideSection p → both (eqb p place.after) (eqb (key_at content) begin_icm_section) ≡ false →
    OutsideSection (place_after p content)
section_entered p content out shut =
    by_content OutsideSection p content
    (λ (e : key_at content ≡ plain). (λ (h : p ≡ place.map_head). record { head = refl; section = refl; matrix = refl }, out))
    (λ (n : eqb (key_at content) plain ≡ false).
    by_way OutsideSection p (key_at content)
    (record {
      keeps = λ e h. absurd (true≢false (sym (eq-eqb _ _ e) ∙ out.matrix));
      matrix = λ e h. absurd (true≢false (sym e ∙ either_false _ _ out.section out.matrix));
      path = λ e. record { head = refl; section = refl; matrix = refl };
      model_text = λ e. record { head = refl; section = refl; matrix = refl };
      map_head = λ e h. record { head = refl; section = refl; matrix = refl };
      head = λ e h. record { head = refl; section = refl; matrix = refl };
      section_head = λ e h. absurd (not_both _ _ shut (eq-eqb _ _ e) (eq-eqb _ _ h));
      section = λ e. absurd (true≢false (sym (eq-eqb _ _ e) ∙ out.head));
      family = record { head = refl; section = refl; matrix = refl };
      list = record { head = refl; section = refl; matrix = refl };
      family_text = record { head = refl; section = refl; matrix = refl };
      after = record { head = refl; section = refl; matrix = refl };
      header = record { head = refl; section = refl; matrix = refl };
      header_text = record { head = refl; section = refl; matrix = refl };
      between = record { head = refl; section = refl; matrix = refl };
      opened = record { head = refl; section = refl; matrix = refl };
      before = record { head = refl; section = refl; matrix = refl };
      done = record { head = refl; section = refl; matrix = refl };
      dead = record { head = refl; section = refl; matrix = refl };
      elsewhere = λ e. out;
    }))

-- a matrix is entered by the keyword of its kind alone, and kept open by [Row] and [Bandwidth]
pub matrix_entered :
    (p : ℕ) (content : List ℕ) → both (eqb p place.matrix) (either (eqb (key_at content) plain) (is_row_or_bandwidth (key_at content))) ≡ false →
    both (either (eqb p place.section) (eqb p place.matrix)) (opens_matrix (key_at content)) ≡ false →
    eqb (place_after p content) place.matrix ≡ false
matrix_entered p content out shut =
    by_content (λ (q : ℕ). eqb q place.matrix ≡ false) p content
    (λ (e : key_at content ≡ plain). (
      λ (h : p ≡ place.map_head). refl,
      ne_eqb _ _ (λ (h : p ≡ place.matrix). not_both _ _ out (eq-eqb _ _ h) (either_left _ _ (eq-eqb _ _ e))),
    ))
    (λ (n : eqb (key_at content) plain ≡ false).
    by_way (λ (q : ℕ). eqb q place.matrix ≡ false) p (key_at content)
    (record {
      keeps = λ e h. absurd (not_both _ _ out (eq-eqb _ _ e) (either_right _ _ h));
      matrix = λ e h. absurd (not_both _ _ shut e h);
      path = λ e. refl;
      model_text = λ e. refl;
      map_head = λ e h. refl;
      head = λ e h. refl;
      section_head = λ e h. refl;
      section = λ e. refl;
      family = refl;
      list = refl;
      family_text = refl;
      after = refl;
      header = refl;
      header_text = refl;
      between = refl;
      opened = refl;
      before = refl;
      done = refl;
      dead = refl;
      elsewhere = λ e. e.matrix;
    }))

-- ---- the places that there are

unfoldable pub is_place : ℕ → Bool
is_place p =
    either (eqb p place.matrix)
    (either (is_in_model p)
    (either (is_in_family p)
    (either (is_in_header p)
    (either (eqb p place.section)
    (either (eqb p place.after)
    (either (eqb p place.opened)
    (either (eqb p place.between)
    (either (eqb p place.section_head) (either (eqb p place.before) (either (eqb p place.done) (eqb p place.dead)))))))))))

-- no line leads out of them
pub place_known : (p : ℕ) (content : List ℕ) → is_place p ≡ true → is_place (place_after p content) ≡ true
unfolding is_place is_in_model is_in_family is_in_header either
place_known p content known =
    by_content (λ (q : ℕ). is_place q ≡ true) p content (λ (e : key_at content ≡ plain). (λ (h : p ≡ place.map_head). refl, known))
    (λ (n : eqb (key_at content) plain ≡ false).
    by_way (λ (q : ℕ). is_place q ≡ true) p (key_at content)
    (record {
      keeps = λ e h. refl;
      matrix = λ e h. refl;
      path = λ e. refl;
      model_text = λ e. refl;
      map_head = λ e h. refl;
      head = λ e h. refl;
      section_head = λ e h. refl;
      section = λ e. refl;
      family = refl;
      list = refl;
      family_text = refl;
      after = refl;
      header = refl;
      header_text = refl;
      between = refl;
      opened = refl;
      before = refl;
      done = refl;
      dead = refl;
      elsewhere = λ e. known;
    }))

-- a known place in which no keyword is looked up is `done` or `dead`
nowhere_left : (p : ℕ) → is_place p ≡ true → Elsewhere p → (p ≡ place.done → ⊥) → p ≡ place.dead
unfolding is_place
nowhere_left p known e n =
    eqb-true _ _
    (sym
    (either_rest _ _ e.matrix
    ∙ either_rest _ _ e.model
    ∙ either_rest _ _ e.family
    ∙ either_rest _ _ e.header
    ∙ either_rest _ _ e.section
    ∙ either_rest _ _ e.after
    ∙ either_rest _ _ e.opened
    ∙ either_rest _ _ e.between
    ∙ either_rest _ _ e.section_head
    ∙ either_rest _ _ e.before
    ∙ either_rest _ _ (ne_eqb _ _ n))
    ∙ known)

-- ---- the places of a keyword that is not misplaced

-- the place is one in which keywords are looked at
pub record Looked (p : ℕ) : Type 0 where
  pub known : is_place p ≡ true
  pub not_done : p ≡ place.done → ⊥
  pub not_before : p ≡ place.before → ⊥

-- a keyword that leads to no place is misplaced
foreign : {T : Type 0} → (place.dead ≡ place.dead → ⊥) → T
foreign n = absurd (n refl)

-- a keyword that leads on only in a section
record Strange (k : ℕ) : Type 0 where
  model : leads_in_model k ≡ place.dead
  family : leads_in_family k ≡ place.dead
  header : leads_in_header k ≡ place.dead
  after : leads_after_family k ≡ place.dead
  opened : (provided eqb k icm_ver then place.header else place.dead) ≡ place.dead
  between : (provided eqb k begin_icm_family then place.family else place.dead) ≡ place.dead
  section_head : (provided eqb k derivation_method then place.section else place.dead) ≡ place.dead

strange : (k : ℕ) → opens_matrix k ≡ true → Strange k
unfolding opens_matrix leads_in_model leads_in_family leads_in_header leads_after_family stands_in_header opens_header_text either provided◌then◌else◌
strange k h =
    by_cases (Strange k) (eqb k resistance_matrix)
    (λ (e : eqb k resistance_matrix ≡ true).
    rw (eqb-true k resistance_matrix e)
    (record { model = refl; family = refl; header = refl; after = refl; opened = refl; between = refl; section_head = refl }))
    (λ (a : eqb k resistance_matrix ≡ false).
    by_cases (Strange k) (eqb k inductance_matrix)
    (λ (e : eqb k inductance_matrix ≡ true).
    rw (eqb-true k inductance_matrix e)
    (record { model = refl; family = refl; header = refl; after = refl; opened = refl; between = refl; section_head = refl }))
    (λ (b : eqb k inductance_matrix ≡ false).
    by_cases (Strange k) (eqb k conductance_matrix)
    (λ (e : eqb k conductance_matrix ≡ true).
    rw (eqb-true k conductance_matrix e)
    (record { model = refl; family = refl; header = refl; after = refl; opened = refl; between = refl; section_head = refl }))
    (λ (c : eqb k conductance_matrix ≡ false).
    let d : eqb k capacitance_matrix ≡ true = rw (a, b, c) at h in
    rw (eqb-true k capacitance_matrix d)
    (record { model = refl; family = refl; header = refl; after = refl; opened = refl; between = refl; section_head = refl }))))

module _ (p : ℕ) (looked : Looked p) where
  pub model_stands : (moved p begin_icm_model ≡ place.dead → ⊥) → is_in_family p ≡ true
  unfolding leads_in_matrix leads_in_section leads_in_model leads_in_family leads_in_header leads_after_family is_row_or_bandwidth opens_matrix stands_in_header opens_header_text either provided◌then◌else◌
  model_stands =
      by_place (λ (q : ℕ). (q ≡ place.dead → ⊥) → is_in_family p ≡ true) p begin_icm_model
      (record {
        matrix = λ e. foreign;
        model = λ e. foreign;
        family = λ e n. e;
        header = λ e. foreign;
        section = λ e. foreign;
        after = λ e. foreign;
        opened = λ e. foreign;
        between = λ e. foreign;
        section_head = λ e. foreign;
        before = λ e n. absurd (looked.not_before e);
        elsewhere = λ e n. absurd (n (nowhere_left p looked.known e looked.not_done));
      })

  pub map_stands : (moved p icm_pin_map ≡ place.dead → ⊥) → is_in_family p ≡ true
  unfolding leads_in_matrix leads_in_section leads_in_model leads_in_family leads_in_header leads_after_family is_row_or_bandwidth opens_matrix stands_in_header opens_header_text either provided◌then◌else◌
  map_stands =
      by_place (λ (q : ℕ). (q ≡ place.dead → ⊥) → is_in_family p ≡ true) p icm_pin_map
      (record {
        matrix = λ e. foreign;
        model = λ e. foreign;
        family = λ e n. e;
        header = λ e. foreign;
        section = λ e. foreign;
        after = λ e. foreign;
        opened = λ e. foreign;
        between = λ e. foreign;
        section_head = λ e. foreign;
        before = λ e n. absurd (looked.not_before e);
        elsewhere = λ e n. absurd (n (nowhere_left p looked.known e looked.not_done));
      })

  pub section_stands : (moved p begin_icm_section ≡ place.dead → ⊥) → p ≡ place.after
  unfolding leads_in_matrix leads_in_section leads_in_model leads_in_family leads_in_header leads_after_family is_row_or_bandwidth opens_matrix stands_in_header opens_header_text either provided◌then◌else◌
  section_stands =
      by_place (λ (q : ℕ). (q ≡ place.dead → ⊥) → p ≡ place.after) p begin_icm_section
      (record {
        matrix = λ e. foreign;
        model = λ e. foreign;
        family = λ e. foreign;
        header = λ e. foreign;
        section = λ e. foreign;
        after = λ e n. e;
        opened = λ e. foreign;
        between = λ e. foreign;
        section_head = λ e. foreign;
        before = λ e n. absurd (looked.not_before e);
        elsewhere = λ e n. absurd (n (nowhere_left p looked.known e looked.not_done));
      })

  pub matrix_stands :
      (k : ℕ) → opens_matrix k ≡ true → (moved p k ≡ place.dead → ⊥) → either (eqb p place.section) (eqb p place.matrix) ≡ true
  matrix_stands k h =
      by_place (λ (q : ℕ). (q ≡ place.dead → ⊥) → either (eqb p place.section) (eqb p place.matrix) ≡ true) p k
      (record {
        matrix = λ e n. either_right _ _ (eq-eqb p place.matrix e);
        model = λ e n. absurd (n (strange k h).model);
        family = λ e n. absurd (n (strange k h).family);
        header = λ e n. absurd (n (strange k h).header);
        section = λ e n. either_left _ _ (eq-eqb p place.section e);
        after = λ e n. absurd (n (strange k h).after);
        opened = λ e n. absurd (n (strange k h).opened);
        between = λ e n. absurd (n (strange k h).between);
        section_head = λ e n. absurd (n (strange k h).section_head);
        before = λ e n. absurd (looked.not_before e);
        elsewhere = λ e n. absurd (n (nowhere_left p looked.known e looked.not_done));
      })
