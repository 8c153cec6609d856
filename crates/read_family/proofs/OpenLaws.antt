-- Laws of the open block as the code tells it: the block that a line opens, and the records of blocks that a line closes.
-- Assumes nothing.
use mathlib.Core.Path.{◌≡◌, sym, ◌∙◌, ap}
use mathlib.Core.Bool.{Bool, true, false, not}
use mathlib.Core.List.{List}
use Prim.Native.Nat.{ℕ, ◌+◌, ◌-◌, ◌*◌, ◌^◌, ◌≤◌, ◌<◌}
use native.Mathlib.Omega.{arith}
use lib.ListN.{length}
use borrow.Author.Tests.{eq-eqb, ne_eqb, not-true, not-false}
use Rattle.base.proofs.IfLaws.{if_true, if_false, both_true, both_not_left, both_not_right, not_via, not_not_via}
use Rattle.lex_keyword.specs.Bracket.{bracket_of}
use Rattle.lex_keyword.specs.declared.Bracket.{Bracket}
use Rattle.line_place.specs.Place.{is_in_model}
use Rattle.line_place.specs.Place as place
use Rattle.line_head.specs.declared.Head.{Head}
use Rattle.line_keyword.specs.Way.Bounded.{most_lines}
use Rattle.line_keyword.specs.declared.State.{State}
use Rattle.table_layout.specs.Layout.{map_width}
use Rattle.table_record.specs.Records.{map_words}
use Rattle.table_record.specs.Way.Stage.{put_at, staged_model_width, staged_model_words}
use Rattle.read_line.specs.Reading.{argument_from}
use Rattle.doc.specs.Lines.{argument_in}
use Rattle.doc.proofs.ExtentLaws.{argument_in_line}
use Rattle.read_family.specs.Way.Blocks.{maps_after, models_after, opening, enters, open_after, with_sgr, sgr_after}
use Rattle.read_family.specs.declared.Open.{Open}

-- ---- the block that a line opens

module _ (at : ℕ) (content : List ℕ) (bracket : Bracket) (is_bracket : bracket ≡ bracket_of content) (start : ℕ)
    (is_start : start ≡ argument_in bracket) where
  pub opening_fits : at + length content ≤ most_lines → at + start < 2 ^ 64
  opening_fits few =
      let a : argument_in bracket ≤ length content = argument_in_line content bracket (sym is_bracket) in
      omega arith

  pub opening_told :
      (name : List ℕ) → name ≡ argument_from content start → (first : ℕ) →
      record { start = at + start; size = length name; first = first; sgr = 0 } ≡ opening at content first
  opening_told name is_name first =
      let e : start ≡ argument_in (bracket_of content) = is_start ∙ ap argument_in is_bracket in
      let n : length name ≡ length (argument_from content (argument_in (bracket_of content))) =
      ap length (is_name ∙ ap (argument_from content) e) in
      λ i. record { start = at + e i; size = n i; first = first; sgr = 0 }

module _ (line at : ℕ) (content : List ℕ) (s : State) (p : ℕ) (h : Head) (o : Open) (model : Bool) (is_model_lem : model ≡ enters place.head s.place p) where
  pub after_model : model ≡ true → (r : Open) → r ≡ opening at content s.counts.steps → r ≡ open_after line at content s p h o
  unfolding open_after
  after_model opens r e = e ∙ sym (if_true _ _ (sym is_model_lem ∙ opens))

  module _ (no_model_lem : model ≡ false) (map : Bool) (is_map_lem : map ≡ enters place.map_head s.place p) where
    pub after_map : map ≡ true → (r : Open) → r ≡ opening at content s.counts.pins → r ≡ open_after line at content s p h o
    unfolding open_after
    after_map opens r e = e ∙ sym (if_true _ _ (sym is_map_lem ∙ opens)) ∙ sym (if_false _ _ (sym is_model_lem ∙ no_model_lem))

    pub after_same : map ≡ false → (r : Open) → r ≡ sgr_after line s.head h o → r ≡ open_after line at content s p h o
    unfolding open_after
    after_same shut r e = e ∙ sym (if_false _ _ (sym is_map_lem ∙ shut)) ∙ sym (if_false _ _ (sym is_model_lem ∙ no_model_lem))

-- ---- the line of an SGR

module _ (line : ℕ) (before after : Head) (o : Open) where
  pub sgr_unsaid : not after.sgr ≡ true → o ≡ sgr_after line before after o
  unfolding sgr_after
  sgr_unsaid h = sym (if_false _ _ (both_not_left _ _ (not-true after.sgr h)))

  pub sgr_above : before.sgr ≡ true → o ≡ sgr_after line before after o
  unfolding sgr_after
  sgr_above h = sym (if_false _ _ (both_not_right _ _ (not_not_via h)))

  pub sgr_said : not after.sgr ≡ false → before.sgr ≡ false → with_sgr line o ≡ sgr_after line before after o
  unfolding sgr_after
  sgr_said h k = sym (if_true _ _ (both_true _ _ (not-false after.sgr h) (not_via k)))

-- ---- the records of blocks that a line closes

module _ (o : Open) (s : State) (maps : List ℕ) where
  pub maps_kept : (s.place ≡ place.pin_list → ⊥) → maps ≡ maps_after o s maps
  unfolding maps_after
  maps_kept h = sym (if_false _ _ (ne_eqb _ _ h))

  pub maps_closed :
      s.place ≡ place.pin_list → (order : ℕ) → order ≡ s.map.order - 1 → (pins : ℕ) → pins ≡ s.counts.pins - o.first →
      (index : ℕ) → index ≡ s.counts.maps - 1 → (maps' : List ℕ) →
      maps'
      ≡ put_at (map_width * index)
      (map_words
      (record {
        start = o.start;
        size = o.size;
        order = order;
        rows = s.map.rows;
        columns = s.map.columns;
        first = o.first;
        pins = pins;
      })) maps →
      maps' ≡ maps_after o s maps
  unfolding maps_after
  maps_closed h order is_order pins is_pins index is_index maps' e =
      e
      ∙ (λ i.
      put_at (map_width * is_index i)
      (map_words
      (record {
        start = o.start;
        size = o.size;
        order = is_order i;
        rows = s.map.rows;
        columns = s.map.columns;
        first = o.first;
        pins = is_pins i;
      })) maps)
      ∙ sym (if_true _ _ (eq-eqb _ _ h))

module _ (o : Open) (s : State) (p : ℕ) (models : List ℕ) (inside : Bool) (is_inside_lem : inside ≡ is_in_model s.place) where
  pub models_apart : not inside ≡ true → models ≡ models_after o s p models
  unfolding models_after
  models_apart h = sym (if_false _ _ (both_not_left _ _ (sym is_inside_lem ∙ not-true inside h)))

  module _ (there : not inside ≡ false) (further : Bool) (is_further : further ≡ is_in_model p) where
    pub models_kept : further ≡ true → models ≡ models_after o s p models
    unfolding models_after
    models_kept h = sym (if_false _ _ (both_not_right _ _ (not_not_via (sym is_further ∙ h))))

    pub models_closed :
        further ≡ false → (kind : ℕ) → kind ≡ s.head.kind - 1 → (steps : ℕ) → steps ≡ s.counts.steps - o.first →
        (index : ℕ) → index ≡ s.counts.models - 1 → (models' : List ℕ) →
        models'
        ≡ put_at (staged_model_width * index)
        (staged_model_words (record { model = record { start = o.start; size = o.size; kind = kind; first = o.first; steps = steps }; sgr = o.sgr })) models →
        models' ≡ models_after o s p models
    unfolding models_after
    models_closed h kind is_kind steps is_steps index is_index models' e =
        e
        ∙ (λ i.
        put_at (staged_model_width * is_index i)
        (staged_model_words (record { model = record { start = o.start; size = o.size; kind = is_kind i; first = o.first; steps = is_steps i }; sgr = o.sgr })) models)
        ∙ sym (if_true _ _ (both_true _ _ (sym is_inside_lem ∙ not-false inside there) (not_via (sym is_further ∙ h))))
