-- Laws of the places up to [End ICM Family]: where a line leads from there, and by which lines a model or a map is entered.
-- Assumes nothing.
use mathlib.Core.Path.{◌≡◌, refl, sym, ◌∙◌, ap}
use mathlib.Core.Bool.{Bool, true, false, true≢false}
use mathlib.Core.List.{List}
use Prim.Native.Nat.{ℕ, zero, suc, ◌≤◌, ◌<◌}
use native.Mathlib.Omega.{arith}
use lib.Dec.{eqb}
use borrow.Author.Tests.{eq-eqb, ne_eqb, eqb-true, eqb-false}
use Rattle.base.specs.If.{provided◌then◌else◌, both, either}
use Rattle.base.proofs.IfLaws.{
  if_false,
  by_test,
  by_cases,
  both_true,
  both_first,
  both_second,
  both_not_left,
  both_not_right,
  either_false,
  either_rest,
  not_via,
  not_not_via,
}
use Rattle.lex_keyword.specs.Names.{icm_pin_map, icm_ver, begin_header, end_header, begin_icm_model, begin_icm_family, end_icm_model, end_icm_family, manufacturer, icm_model_list, icm_family_description, tree_path_description, icm_model_description}
use Rattle.line_place.specs.Place.{
  stands_in_header,
  opens_header_text,
  leads_in_header,
  leads_in_family,
  leads_in_model,
  is_in_header,
  is_in_family,
  is_in_model,
  moved,
}
use Rattle.line_place.specs.Place as place
use Rattle.doc.specs.Lines.{plain, key_at, place_after}
use Rattle.doc.proofs.LeadLaws.{is_place, by_place, by_way, by_content, OutsideMap}
use Rattle.read_family.specs.Way.Blocks.{is_in_map, enters}

-- ---- early places

pub early_known : (p : ℕ) → p ≤ place.after → is_place p ≡ true
unfolding is_place is_in_model is_in_family is_in_header either
early_known zero h = refl
early_known (suc zero) h = refl
early_known (suc (suc zero)) h = refl
early_known (suc (suc (suc zero))) h = refl
early_known (suc (suc (suc (suc zero)))) h = refl
early_known (suc (suc (suc (suc (suc zero))))) h = refl
early_known (suc (suc (suc (suc (suc (suc zero)))))) h = refl
early_known (suc (suc (suc (suc (suc (suc (suc zero))))))) h = refl
early_known (suc (suc (suc (suc (suc (suc (suc (suc zero)))))))) h = refl
early_known (suc (suc (suc (suc (suc (suc (suc (suc (suc zero))))))))) h = refl
early_known (suc (suc (suc (suc (suc (suc (suc (suc (suc (suc zero)))))))))) h = refl
early_known (suc (suc (suc (suc (suc (suc (suc (suc (suc (suc (suc zero))))))))))) h = refl
early_known (suc (suc (suc (suc (suc (suc (suc (suc (suc (suc (suc (suc zero)))))))))))) h = refl
early_known (suc (suc (suc (suc (suc (suc (suc (suc (suc (suc (suc (suc (suc zero))))))))))))) h = refl
early_known (suc (suc (suc (suc (suc (suc (suc (suc (suc (suc (suc (suc (suc (suc p)))))))))))))) h = absurd (omega arith)

-- whichever of two a test chooses
whichever : (P : ℕ → Type 0) (b : Bool) (x y : ℕ) → P x → P y → P (provided b then x else y)
whichever P b x y h k = by_test P b x y (λ (e : b ≡ true). h) (λ (e : b ≡ false). k)

-- unless it is misplaced, a keyword leads no further than behind the family
module _ (p k : ℕ) (early : p < place.after) where
  abbrev Ends : ℕ → Type 0
  Ends q = (q ≡ place.dead → ⊥) → q ≤ place.after

  ends_dead : Ends place.dead
  ends_dead n = absurd (n refl)

  ends_model : Ends (leads_in_model k)
  unfolding leads_in_model
  ends_model =
      whichever Ends (eqb k tree_path_description) _ _ (λ n. omega arith)
      (whichever Ends (eqb k icm_model_description) _ _ (λ n. omega arith)
      (whichever Ends (eqb k end_icm_model) _ _ (λ n. omega arith) ends_dead))

  ends_family : Ends (leads_in_family k)
  unfolding leads_in_family
  ends_family =
      whichever Ends (eqb k icm_pin_map) _ _ (λ n. omega arith)
      (whichever Ends (eqb k begin_icm_model) _ _ (λ n. omega arith)
      (whichever Ends (eqb k end_icm_family) _ _ (λ n. omega arith)
      (whichever Ends (eqb k manufacturer) _ _ (λ n. omega arith)
      (whichever Ends (eqb k icm_model_list) _ _ (λ n. omega arith)
      (whichever Ends (eqb k icm_family_description) _ _ (λ n. omega arith) ends_dead)))))

  ends_header : Ends (leads_in_header k)
  unfolding leads_in_header
  ends_header =
      whichever Ends (stands_in_header k) _ _ (λ n. omega arith)
      (whichever Ends (opens_header_text k) _ _ (λ n. omega arith)
      (whichever Ends (eqb k end_header) _ _ (λ n. omega arith) ends_dead))

  pub early_moved : (moved p k ≡ place.dead → ⊥) → moved p k ≤ place.after
  early_moved =
      by_place Ends p k
      (record {
        matrix = λ (e : p ≡ place.matrix). absurd (omega arith);
        model = λ e. ends_model;
        family = λ e. ends_family;
        header = λ e. ends_header;
        section = λ (e : p ≡ place.section). absurd (omega arith);
        after = λ (e : p ≡ place.after). absurd (omega arith);
        opened = λ (e : p ≡ place.opened). whichever Ends (eqb k icm_ver) _ _ (λ n. omega arith) ends_dead;
        between = λ (e : p ≡ place.between). whichever Ends (eqb k begin_icm_family) _ _ (λ n. omega arith) ends_dead;
        section_head = λ (e : p ≡ place.section_head). absurd (omega arith);
        before = λ (e : p ≡ place.before). whichever Ends (eqb k begin_header) _ _ (λ n. omega arith) (λ n. omega arith);
        elsewhere = λ e n. omega arith;
      })

pub early_after :
    (p : ℕ) (content : List ℕ) → p < place.after → (eqb (key_at content) plain ≡ false → moved p (key_at content) ≡ place.dead → ⊥) →
    place_after p content ≤ place.after
early_after p content early alive =
    by_content (λ (q : ℕ). q ≤ place.after) p content
    (λ (e : key_at content ≡ plain). (λ (h : p ≡ place.map_head). omega arith, omega arith))
    (λ (n : eqb (key_at content) plain ≡ false). early_moved p (key_at content) early (alive n))

-- ---- the head of a block is entered by its keyword alone

-- what holds in each place of the family
by_family :
    (P : ℕ → Type 0) → P place.family → P place.family_text → P place.list → P place.map_head → P place.pin_list → (p : ℕ) →
    is_in_family p ≡ true → P p
unfolding is_in_family
by_family P family family_text list map_head pin_list p into =
    by_cases (P p) (eqb p place.family) (λ (a : eqb p place.family ≡ true). rw (eqb-true p place.family a) family)
    (λ (a : eqb p place.family ≡ false).
    by_cases (P p) (eqb p place.family_text) (λ (b : eqb p place.family_text ≡ true). rw (eqb-true p place.family_text b) family_text)
    (λ (b : eqb p place.family_text ≡ false).
    by_cases (P p) (eqb p place.list) (λ (c : eqb p place.list ≡ true). rw (eqb-true p place.list c) list)
    (λ (c : eqb p place.list ≡ false).
    by_cases (P p) (eqb p place.map_head) (λ (d : eqb p place.map_head ≡ true). rw (eqb-true p place.map_head d) map_head)
    (λ (d : eqb p place.map_head ≡ false).
    let e : eqb p place.pin_list ≡ true = sym (either_rest _ _ a ∙ either_rest _ _ b ∙ either_rest _ _ c ∙ either_rest _ _ d) ∙ into in
    rw (eqb-true p place.pin_list e) pin_list))))

-- where the two keywords lead, and from where
record Leads (p : ℕ) : Type 0 where
  model : moved p begin_icm_model ≡ place.head
  map : moved p icm_pin_map ≡ place.map_head
  no_head : eqb p place.head ≡ false
  no_model_lem : is_in_model p ≡ false

leads : (p : ℕ) → is_in_family p ≡ true → Leads p
unfolding moved leads_in_family is_in_family is_in_model provided◌then◌else◌ either
leads =
    by_family Leads (record { model = refl; map = refl; no_head = refl; no_model_lem = refl })
    (record { model = refl; map = refl; no_head = refl; no_model_lem = refl })
    (record { model = refl; map = refl; no_head = refl; no_model_lem = refl })
    (record { model = refl; map = refl; no_head = refl; no_model_lem = refl })
    (record { model = refl; map = refl; no_head = refl; no_model_lem = refl })

module _ (p : ℕ) (content : List ℕ) where
  abbrev model_here : Bool
  model_here = both (is_in_family p) (eqb (key_at content) begin_icm_model)

  abbrev map_here : Bool
  map_here = both (is_in_family p) (eqb (key_at content) icm_pin_map)

  keyed_after : (k : ℕ) → eqb (key_at content) k ≡ true → (k ≡ plain → ⊥) → place_after p content ≡ moved p k
  unfolding place_after
  keyed_after k e other =
      let is : key_at content ≡ k = eqb-true _ _ e in
      if_false _ _ (ne_eqb _ _ (λ (z : key_at content ≡ plain). other (sym is ∙ z))) ∙ ap (moved p) is

  pub model_leads : model_here ≡ true → place_after p content ≡ place.head
  model_leads h =
      keyed_after begin_icm_model (both_second _ _ h) (λ (z : begin_icm_model ≡ plain). omega arith) ∙ (leads p (both_first _ _ h)).model

  pub map_leads : map_here ≡ true → place_after p content ≡ place.map_head
  map_leads h = keyed_after icm_pin_map (both_second _ _ h) (λ (z : icm_pin_map ≡ plain). omega arith) ∙ (leads p (both_first _ _ h)).map

  record Entered (q : ℕ) : Type 0 where
    model : eqb q place.head ≡ true → eqb p place.head ≡ false → model_here ≡ true
    map : eqb q place.map_head ≡ true → eqb p place.map_head ≡ false → map_here ≡ true

  -- any other place
  apart : (q : ℕ) → eqb q place.head ≡ false → eqb q place.map_head ≡ false → Entered q
  apart q h m = record { model = λ e n. absurd (true≢false (sym e ∙ h)); map = λ e n. absurd (true≢false (sym e ∙ m)) }

  same_place : Entered p
  same_place = record { model = λ e n. absurd (true≢false (sym e ∙ n)); map = λ e n. absurd (true≢false (sym e ∙ n)) }

  entered : Entered (place_after p content)
  entered =
      by_content Entered p content (λ (e : key_at content ≡ plain). (λ (h : p ≡ place.map_head). apart place.pin_list refl refl, same_place))
      (λ (n : eqb (key_at content) plain ≡ false).
      by_way Entered p (key_at content)
      (record {
        keeps = λ e h. apart place.matrix refl refl;
        matrix = λ e h. apart place.matrix refl refl;
        path = λ e. apart place.path refl refl;
        model_text = λ e. apart place.model_text refl refl;
        map_head = λ e h.
            record { model = λ (z : false ≡ true). absurd (true≢false (sym z)); map = λ z m. both_true _ _ e (eq-eqb _ _ h) };
        head = λ e h.
            record { model = λ z m. both_true _ _ e (eq-eqb _ _ h); map = λ (z : false ≡ true). absurd (true≢false (sym z)) };
        section_head = λ e h. apart place.section_head refl refl;
        section = λ e. apart place.section refl refl;
        family = apart place.family refl refl;
        list = apart place.list refl refl;
        family_text = apart place.family_text refl refl;
        after = apart place.after refl refl;
        header = apart place.header refl refl;
        header_text = apart place.header_text refl refl;
        between = apart place.between refl refl;
        opened = apart place.opened refl refl;
        before = apart place.before refl refl;
        done = apart place.done refl refl;
        dead = apart place.dead refl refl;
        elsewhere = λ e. same_place;
      }))

  -- so the places before and after a line tell whether it opens a model
  pub enters_model : enters place.head p (place_after p content) ≡ model_here
  unfolding enters
  enters_model =
      by_cases _ model_here
      (λ (h : model_here ≡ true).
      both_true _ _ (eq-eqb _ _ (model_leads h)) (not_via (leads p (both_first _ _ h)).no_head) ∙ sym h)
      (λ (h : model_here ≡ false).
      by_cases _ (eqb p place.head) (λ (a : eqb p place.head ≡ true). both_not_right _ _ (not_not_via a) ∙ sym h)
      (λ (a : eqb p place.head ≡ false).
      by_cases _ (eqb (place_after p content) place.head)
      (λ (b : eqb (place_after p content) place.head ≡ true). absurd (true≢false (sym (entered.model b a) ∙ h)))
      (λ (b : eqb (place_after p content) place.head ≡ false). both_not_left _ _ b ∙ sym h)))

  -- or a map, which no keyword does in the head of a map
  pub enters_map : (eqb p place.map_head ≡ true → map_here ≡ false) → enters place.map_head p (place_after p content) ≡ map_here
  unfolding enters
  enters_map shut =
      by_cases _ (eqb p place.map_head) (λ (a : eqb p place.map_head ≡ true). both_not_right _ _ (not_not_via a) ∙ sym (shut a))
      (λ (a : eqb p place.map_head ≡ false).
      by_cases _ map_here (λ (h : map_here ≡ true). both_true _ _ (eq-eqb _ _ (map_leads h)) (not_via a) ∙ sym h)
      (λ (h : map_here ≡ false).
      by_cases _ (eqb (place_after p content) place.map_head)
      (λ (b : eqb (place_after p content) place.map_head ≡ true). absurd (true≢false (sym (entered.map b a) ∙ h)))
      (λ (b : eqb (place_after p content) place.map_head ≡ false). both_not_left _ _ b ∙ sym h)))

  -- in a model nothing is opened
  pub model_shut : is_in_model p ≡ true → (model_here ≡ false) × (map_here ≡ false)
  model_shut into = (both_not_left _ _ no_family, both_not_left _ _ no_family)
    where
      no_family : is_in_family p ≡ false
      no_family =
          by_cases _ (is_in_family p) (λ (h : is_in_family p ≡ true). absurd (true≢false (sym into ∙ (leads p h).no_model_lem))) (λ (h : is_in_family p ≡ false). h)

  -- a line without a keyword leads from the head of a map into the map
  pub map_stays : p ≡ place.map_head → key_at content ≡ plain → is_in_map (place_after p content) ≡ true
  unfolding is_in_map either
  map_stays there key =
      by_content (λ (q : ℕ). is_in_map q ≡ true) p content (λ (e : key_at content ≡ plain). (λ (h : p ≡ place.map_head). refl, rw there))
      (λ (n : eqb (key_at content) plain ≡ false). absurd (eqb-false _ _ n key))

-- the places of a map
pub map_outside : (p : ℕ) → OutsideMap p → is_in_map p ≡ false
unfolding is_in_map
map_outside p o = either_false _ _ o.head o.pins
