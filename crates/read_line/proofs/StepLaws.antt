-- Laws of one line: its rule and the next state in each place, and the contracts of code that judges a line.
-- Assumes nothing.
use mathlib.Core.Path.{◌≡◌, refl, sym, ◌∙◌, ap}
use mathlib.Core.Bool.{Bool, true, false, true≢false}
use mathlib.Core.List.{List, [], ◌∷◌}
use Prim.Native.Nat.{ℕ, ◌+◌, ◌-◌, ◌^◌, ◌≤◌, ◌<◌}
use native.Mathlib.Omega.{arith}
use lib.Dec.{eqb}
use borrow.Author.Tests.{eq-eqb, ne_eqb, eqb-true, eqb-false}
use Rattle.table_layout.specs.Bounds.{most_pins, most_values, most_steps, most_map_pins}
use Rattle.base.specs.If.{provided◌then◌else◌, both, either}
use Rattle.base.specs.Broken.{◌when◌, first, first_broken}
use Rattle.base.specs.Refusal as refusal
use Rattle.base.proofs.IfLaws.{if_true, if_false, by_cases, either_rest}
use Rattle.base.proofs.BrokenLaws.{first_broken_lem, first_kept, lists_yes, lists_no}
use Rattle.lex_line.specs.Words.{words, first_of, last_end}
use Rattle.lex_line.specs.Way.Spans.{last_word}
use Rattle.line_place.specs.Place.{moved_by_line, is_text}
use Rattle.line_place.specs.Place as place
use Rattle.line_argument.specs.Argument.{is_reserved, is_out_of_bounds}
use Rattle.line_head.specs.Head.{head_line_of, head_next}
use Rattle.line_head.specs.declared.Head.{Head}
use Rattle.line_head.specs.declared.HeadLine.{HeadLine}
use Rattle.line_head.specs.Way.Rule.{head_rule}
use Rattle.line_path.specs.Path.{path_line_of, path_next, is_step_line}
use Rattle.line_path.proofs.DepthLaws.{depth_within}
use Rattle.line_path.specs.declared.Path.{Path}
use Rattle.line_path.specs.declared.PathLine.{PathLine}
use Rattle.line_path.specs.Way.Rule.{path_rule}
use Rattle.line_map.specs.PinMap.{map_line_of, map_next, with_pin}
use Rattle.line_map.specs.declared.Map.{Map}
use Rattle.line_map.specs.declared.MapLine.{MapLine}
use Rattle.line_matrix.specs.Matrix.{data_line_of, data_next}
use Rattle.line_map.proofs.MapLaws.{pin_fits}
use Rattle.line_map.specs.Way.Rule.{map_rule, pin_rule}
use Rattle.read_line.proofs.KeptLaws.{data_fits, pin_total, step_room}
use Rattle.read_line.proofs.ResultLaws.{rule_matrix, rule_path, rule_pins, rule_map, rule_head, rule_list}
use Rattle.line_matrix.specs.declared.Matrix.{Matrix}
use Rattle.line_matrix.specs.declared.DataLine.{DataLine}
use Rattle.line_matrix.specs.Way.Rule.{data_rule}
use Rattle.line_keyword.specs.Keywords.{one_more_if, keyword_next}
use Rattle.line_keyword.specs.Way.Bounded.{BoundedState, Countable, most_lines}
use Rattle.line_keyword.proofs.KeptLaws.{keyword_bounds, kept_countable, more_within}
use Rattle.base.specs.Bytes.{is_blank}
use Rattle.base.specs.Runs.{run, all}
use Rattle.base.specs.Way.Class.{run_end}
use Rattle.base.proofs.RunLaws.{run_whole, all_run}
use Rattle.lex_line.specs.Lines.{is_blank_line}
use Rattle.lex_line.specs.declared.Span.{Span}
use Rattle.lex_keyword.specs.Bracket.{bracket_of}
use Rattle.lex_keyword.specs.declared.Bracket.{Bracket}
use lib.ListN.{length, take, drop}
use native.Mathlib.Nat.{zero-add}
use Rattle.line_keyword.specs.declared.State.{State}
use Rattle.line_keyword.specs.Way.Rule.{keyword_rule}
use Rattle.read_line.specs.declared.LineResult.{LineResult}
use Rattle.read_line.specs.Reading.{counts_after_line, line_next, goes, breaks, judged, argument_from}
use Rattle.read_line.specs.Way.Steps.{line_step, keyword_step, bracket_step, before_step, line_rule}
use Rattle.read_line.specs.Way.Walk.{Decides, Stepping, ReadLineByLine, with_path, with_pinned, with_matrix}

-- ---- a line judged

module _ (k : ℕ) (next s : State) where
  judged_stops : (k ≡ 0 → ⊥) → breaks k s ≡ judged k next s
  unfolding judged
  judged_stops h = sym (if_false _ _ (ne_eqb _ _ h))

  judged_goes : k ≡ 0 → goes next ≡ judged k next s
  unfolding judged
  judged_goes h = sym (if_true _ _ (eq-eqb _ _ h))

module _ (content : List ℕ) (s : State) (k : ℕ) (rule : k ≡ line_rule content s) where
  line_stops : (k ≡ 0 → ⊥) → breaks k s ≡ line_step content s
  unfolding line_step
  line_stops h = judged_stops k (line_next content s) s h ∙ ap (λ (n : ℕ). judged n (line_next content s) s) rule

  line_goes : k ≡ 0 → (next : State) → next ≡ line_next content s → goes next ≡ line_step content s
  unfolding line_step
  line_goes h next e = ap goes e ∙ judged_goes k (line_next content s) s h ∙ ap (λ (n : ℕ). judged n (line_next content s) s) rule

-- ---- the next state of each place

abbrev with_place : State → ℕ → State
with_place s p = record { place = p; seen = s.seen; head = s.head; path = s.path; map = s.map; section = s.section; matrix = s.matrix; counts = s.counts }

abbrev with_head : State → Head → State
with_head s h = record { place = s.place; seen = s.seen; head = h; path = s.path; map = s.map; section = s.section; matrix = s.matrix; counts = s.counts }

abbrev with_map : State → ℕ → Map → State
with_map s p m = record { place = p; seen = s.seen; head = s.head; path = s.path; map = m; section = s.section; matrix = s.matrix; counts = s.counts }

module _ (content : List ℕ) (s : State) where
  next_head : s.place ≡ place.head → with_head s (head_next (head_line_of content) s.head) ≡ line_next content s
  unfolding line_next counts_after_line moved_by_line one_more_if both provided◌then◌else◌
  next_head e = rw e

  next_path : s.place ≡ place.path → with_path (path_next (path_line_of content) s.path) (one_more_if (is_step_line (path_line_of content)) s.counts.steps) s ≡ line_next content s
  unfolding line_next counts_after_line moved_by_line one_more_if both provided◌then◌else◌
  next_path e = rw e

  next_map : s.place ≡ place.map_head → with_map s (moved_by_line s.place (first_of (words content))) (map_next (map_line_of content) s.map) ≡ line_next content s
  unfolding line_next counts_after_line one_more_if both provided◌then◌else◌
  next_map e = rw e

  next_pin : s.place ≡ place.pin_list → with_pinned (with_pin s.map) (s.counts.pins + 1) s ≡ line_next content s
  unfolding line_next counts_after_line moved_by_line one_more_if both provided◌then◌else◌
  next_pin e = rw e

  next_data : s.place ≡ place.matrix → with_matrix (data_next (data_line_of s.matrix.form content) s.matrix) (s.counts.values + (data_line_of s.matrix.form content).numbers) s ≡ line_next content s
  unfolding line_next counts_after_line moved_by_line one_more_if both provided◌then◌else◌
  next_data e = rw e

  -- in a place that takes a line and leaves the state unchanged
  next_same : (p : ℕ) → s.place ≡ p → with_place s p ≡ line_next content s → s ≡ line_next content s
  next_same p e h = (λ i. with_place s (e i)) ∙ h

  next_list : s.place ≡ place.list → with_place s place.list ≡ line_next content s
  unfolding line_next counts_after_line moved_by_line one_more_if both provided◌then◌else◌
  next_list e = rw e

  next_header : s.place ≡ place.header_text → with_place s place.header_text ≡ line_next content s
  unfolding line_next counts_after_line moved_by_line one_more_if both provided◌then◌else◌
  next_header e = rw e

  next_family : s.place ≡ place.family_text → with_place s place.family_text ≡ line_next content s
  unfolding line_next counts_after_line moved_by_line one_more_if both provided◌then◌else◌
  next_family e = rw e

  next_model : s.place ≡ place.model_text → with_place s place.model_text ≡ line_next content s
  unfolding line_next counts_after_line moved_by_line one_more_if both provided◌then◌else◌
  next_model e = rw e

  next_text : is_text s.place ≡ true → s ≡ line_next content s
  unfolding is_text
  next_text t =
      by_cases (s ≡ line_next content s) (eqb s.place place.header_text)
      (λ (e : eqb s.place place.header_text ≡ true). next_same place.header_text (eqb-true _ _ e) (next_header (eqb-true _ _ e)))
      (λ (e : eqb s.place place.header_text ≡ false).
      by_cases (s ≡ line_next content s) (eqb s.place place.family_text)
      (λ (f : eqb s.place place.family_text ≡ true). next_same place.family_text (eqb-true _ _ f) (next_family (eqb-true _ _ f)))
      (λ (f : eqb s.place place.family_text ≡ false).
      let g : eqb s.place place.model_text ≡ true = sym (either_rest _ _ e ∙ either_rest _ _ f) ∙ t in
      next_same place.model_text (eqb-true _ _ g) (next_model (eqb-true _ _ g))))

-- ---- the contracts of code that judges a line, place by place

module _ (content : List ℕ) (s : State) (r : LineResult) where
  module _ (here : s.place ≡ place.head) (l : HeadLine) (read : l ≡ head_line_of content) (k : ℕ) (rule : k ≡ head_rule l s.head) where
    head_rule_lem : k ≡ line_rule content s
    head_rule_lem = rule ∙ ap (λ (x : HeadLine). head_rule x s.head) read ∙ sym (rule_head content s here)

    pub head_stops : (k ≡ 0 → ⊥) → r ≡ breaks k s → r ≡ line_step content s
    head_stops h e = e ∙ line_stops content s k head_rule_lem h

    pub head_goes : k ≡ 0 → (next : Head) → next ≡ head_next l s.head → r ≡ goes (with_head s next) → r ≡ line_step content s
    head_goes h next told e =
        e ∙ line_goes content s k head_rule_lem h (with_head s next) (ap (with_head s) (told ∙ ap (λ (x : HeadLine). head_next x s.head) read) ∙ next_head content s here)

  module _ (here : s.place ≡ place.map_head) (l : MapLine) (read : l ≡ map_line_of content) (k : ℕ) (rule : k ≡ map_rule l s.map) where
    map_rule_lem : k ≡ line_rule content s
    map_rule_lem = rule ∙ ap (λ (x : MapLine). map_rule x s.map) read ∙ sym (rule_map content s here)

    pub map_stops : (k ≡ 0 → ⊥) → r ≡ breaks k s → r ≡ line_step content s
    map_stops h e = e ∙ line_stops content s k map_rule_lem h

    pub map_goes : k ≡ 0 → (first : List ℕ) → first ≡ first_of (words content) → (p : ℕ) → p ≡ moved_by_line s.place first → (next : Map) → next ≡ map_next l s.map → r ≡ goes (with_map s p next) → r ≡ line_step content s
    map_goes h first word p move next told e =
        let q : p ≡ moved_by_line s.place (first_of (words content)) = move ∙ ap (moved_by_line s.place) word in
        let m : next ≡ map_next (map_line_of content) s.map = told ∙ ap (λ (x : MapLine). map_next x s.map) read in
        e ∙ line_goes content s k map_rule_lem h (with_map s p next) ((λ i. with_map s (q i) (m i)) ∙ next_map content s here)

  module _ (here : s.place ≡ place.list) (first : List ℕ) (word : first ≡ first_of (words content)) (b : Bool) (told : b ≡ is_reserved first) where
    list_rule : (k : ℕ) → first_broken (refusal.argument when b ∷ []) ≡ k → k ≡ line_rule content s
    list_rule k e = sym (rule_list content s here ∙ ap (λ (x : Bool). first_broken (refusal.argument when x ∷ [])) (sym (told ∙ ap is_reserved word)) ∙ e)

    pub list_stops : b ≡ true → r ≡ breaks refusal.argument s → r ≡ line_step content s
    list_stops h e = e ∙ line_stops content s refusal.argument (list_rule refusal.argument (first_broken_lem _ _ _ h)) (λ (z : refusal.argument ≡ 0). omega arith)

    pub list_goes : b ≡ false → r ≡ goes s → r ≡ line_step content s
    list_goes h e = e ∙ line_goes content s 0 (list_rule 0 (first_kept _ _ _ _ h refl)) refl s (next_same content s place.list here (next_list content s here))

  pub text_goes : (b : Bool) → b ≡ is_text s.place → b ≡ true → r ≡ goes s → r ≡ line_step content s
  unfolding line_rule
  text_goes b told h e = e ∙ line_goes content s 0 (sym (lists_yes _ _ _ (sym told ∙ h))) refl s (next_text content s (sym told ∙ h))

  pub other_stops : ReadLineByLine s.place → (s.place ≡ place.list → ⊥) → (s.place ≡ place.map_head → ⊥) → (s.place ≡ place.head → ⊥) → (b : Bool) → b ≡ is_text s.place → b ≡ false → r ≡ breaks refusal.line s → r ≡ line_step content s
  unfolding line_rule first
  other_stops o l d h b told f e =
      e ∙ line_stops content s refusal.line
      (sym (lists_no _ _ _ (sym told ∙ f) ∙ lists_no _ _ _ (ne_eqb _ _ o.matrix) ∙ lists_no _ _ _ (ne_eqb _ _ o.path) ∙ lists_no _ _ _ (ne_eqb _ _ o.pins) ∙ lists_no _ _ _ (ne_eqb _ _ d) ∙ lists_no _ _ _ (ne_eqb _ _ h) ∙ lists_no _ _ _ (ne_eqb _ _ l)))
      (λ (z : refusal.line ≡ 0). omega arith)

-- a text block is none of the places whose lines are read together
text_matrix : is_text place.matrix ≡ false
unfolding is_text either provided◌then◌else◌
text_matrix = refl

text_path : is_text place.path ≡ false
unfolding is_text either provided◌then◌else◌
text_path = refl

text_pins : is_text place.pin_list ≡ false
unfolding is_text either provided◌then◌else◌
text_pins = refl

pub text_elsewhere : (p : ℕ) (b : Bool) → b ≡ is_text p → b ≡ true → ReadLineByLine p
text_elsewhere p b told e =
    record {
      matrix = λ (h : p ≡ place.matrix). true≢false (sym e ∙ told ∙ ap is_text h ∙ text_matrix);
      path = λ (h : p ≡ place.path). true≢false (sym e ∙ told ∙ ap is_text h ∙ text_path);
      pins = λ (h : p ≡ place.pin_list). true≢false (sym e ∙ told ∙ ap is_text h ∙ text_pins);
    }

-- ---- the same where a part of the state decides

module _ (here : ℕ) (put : State → State) (content : List ℕ) (k : ℕ) (rule : (s : State) → s.place ≡ here → k ≡ line_rule content (put s)) where
  part_stops : (k ≡ 0 → ⊥) → Decides here put (line_step content) k put
  part_stops h s at = sym (line_stops content (put s) k (rule s at) h)

  part_goes : k ≡ 0 → (next : State → State) → ((s : State) → s.place ≡ here → next s ≡ line_next content (put s)) → Decides here put (line_step content) 0 next
  unfolding goes breaks
  part_goes h next told s at = sym (line_goes content (put s) k (rule s at) h (next s) (told s at))

module _ (content : List ℕ) (p : Path) (steps : ℕ) (l : PathLine) (read : l ≡ path_line_of content) (k : ℕ) (rule : k ≡ path_rule l p steps) where
  path_rule_lem : (s : State) → s.place ≡ place.path → k ≡ line_rule content (with_path p steps s)
  path_rule_lem s here = rule ∙ ap (λ (x : PathLine). path_rule x p steps) read ∙ sym (rule_path content (with_path p steps s) here)

  pub path_stops : (k ≡ 0 → ⊥) → Decides place.path (with_path p steps) (line_step content) k (with_path p steps)
  path_stops = part_stops place.path (with_path p steps) content k path_rule_lem

  pub path_goes : k ≡ 0 → (b : Bool) → b ≡ is_step_line l → (more : ℕ) → more ≡ one_more_if b steps → (next : Path) → next ≡ path_next l p → Decides place.path (with_path p steps) (line_step content) 0 (with_path next more)
  path_goes h b step more count next told =
      let c : more ≡ one_more_if (is_step_line (path_line_of content)) steps = count ∙ ap (λ (x : Bool). one_more_if x steps) (step ∙ ap is_step_line read) in
      let q : next ≡ path_next (path_line_of content) p = told ∙ ap (λ (x : PathLine). path_next x p) read in
      part_goes place.path (with_path p steps) content k path_rule_lem h (with_path next more)
      (λ (s : State) (here : s.place ≡ place.path). (λ i. with_path (q i) (c i) s) ∙ next_path content (with_path p steps s) here)

module _ (content : List ℕ) (m : Map) (pins : ℕ) (k : ℕ) (rule : k ≡ pin_rule content m pins) where
  pin_rule_lem : (s : State) → s.place ≡ place.pin_list → k ≡ line_rule content (with_pinned m pins s)
  pin_rule_lem s here = rule ∙ sym (rule_pins content (with_pinned m pins s) here)

  pub pin_stops : (k ≡ 0 → ⊥) → Decides place.pin_list (with_pinned m pins) (line_step content) k (with_pinned m pins)
  pin_stops = part_stops place.pin_list (with_pinned m pins) content k pin_rule_lem

  pub pin_goes : k ≡ 0 → (next : Map) → next ≡ with_pin m → Decides place.pin_list (with_pinned m pins) (line_step content) 0 (with_pinned next (pins + 1))
  pin_goes h next told =
      part_goes place.pin_list (with_pinned m pins) content k pin_rule_lem h (with_pinned next (pins + 1))
      (λ (s : State) (here : s.place ≡ place.pin_list). (λ i. with_pinned (told i) (pins + 1) s) ∙ next_pin content (with_pinned m pins s) here)

module _ (content : List ℕ) (m : Matrix) (values : ℕ) (l : DataLine) (read : l ≡ data_line_of m.form content) (k : ℕ) (rule : k ≡ data_rule l m values) where
  data_rule_lem : (s : State) → s.place ≡ place.matrix → k ≡ line_rule content (with_matrix m values s)
  data_rule_lem s here = rule ∙ ap (λ (x : DataLine). data_rule x m values) read ∙ sym (rule_matrix content (with_matrix m values s) here)

  pub data_stops : (k ≡ 0 → ⊥) → Decides place.matrix (with_matrix m values) (line_step content) k (with_matrix m values)
  data_stops = part_stops place.matrix (with_matrix m values) content k data_rule_lem

  pub data_goes : k ≡ 0 → (next : Matrix) → next ≡ data_next l m → Decides place.matrix (with_matrix m values) (line_step content) 0 (with_matrix next (values + l.numbers))
  data_goes h next told =
      let q : next ≡ data_next (data_line_of m.form content) m = told ∙ ap (λ (x : DataLine). data_next x m) read in
      part_goes place.matrix (with_matrix m values) content k data_rule_lem h (with_matrix next (values + l.numbers))
      (λ (s : State) (here : s.place ≡ place.matrix). (λ i. with_matrix (q i) (values + (read i).numbers) s) ∙ next_data content (with_matrix m values s) here)

-- ---- sums that fit, from a rule that broke nothing

pub pins_small : (content : List ℕ) (m : Map) (total k : ℕ) → k ≡ pin_rule content m total → k ≡ 0 → m.pins < 4_294_967_296
pins_small content m total k rule e =
    let h : m.pins < most_map_pins = pin_fits content m total (sym rule ∙ e) in
    omega arith

pub pins_room : (content : List ℕ) (m : Map) (total k : ℕ) → k ≡ pin_rule content m total → k ≡ 0 → total < most_pins
pins_room content m total k rule e = pin_total content m total (sym rule ∙ e)

pub steps_small : (p : Path) (n : ℕ) → Stepping p n → n < 2 ^ 63
steps_small p n h =
    let k : n ≤ most_steps = h.steps in
    omega arith

pub stepping_on : (l : PathLine) (p : Path) (n k : ℕ) → k ≡ path_rule l p n → k ≡ 0 → Stepping p n → (b : Bool) → b ≡ is_step_line l → (more : ℕ) → more ≡ one_more_if b n → (next : Path) → next ≡ path_next l p → Stepping next more
stepping_on l p n k rule e h b step more count next told =
    record {
      depth = rw told (depth_within l p n (sym rule ∙ e) h.depth);
      steps = rw count (more_within b n most_steps (λ (t : b ≡ true). step_room l p n (sym rule ∙ e) (sym step ∙ t)) h.steps);
    }

pub values_small : (l : DataLine) (m : Matrix) (values k : ℕ) → k ≡ data_rule l m values → k ≡ 0 → values + l.numbers ≤ most_values
values_small l m values k rule e = data_fits l m values (sym rule ∙ e)

-- ---- keyword lines

module _ (k : ℕ) (argument : List ℕ) (s : State) (n : ℕ) (rule : n ≡ keyword_rule k argument s) (r : LineResult) where
  pub keyword_stops : (n ≡ 0 → ⊥) → r ≡ breaks n s → r ≡ keyword_step k argument s
  unfolding keyword_step
  keyword_stops h e = e ∙ judged_stops n (keyword_next k argument s) s h ∙ ap (λ (x : ℕ). judged x (keyword_next k argument s) s) rule

  pub keyword_goes : n ≡ 0 → (next : State) → next ≡ keyword_next k argument s → r ≡ goes next → r ≡ keyword_step k argument s
  unfolding keyword_step
  keyword_goes h next told e = e ∙ ap goes told ∙ judged_goes n (keyword_next k argument s) s h ∙ ap (λ (x : ℕ). judged x (keyword_next k argument s) s) rule

pub keyword_inside : (k : ℕ) (argument : List ℕ) (s : State) (n : ℕ) → n ≡ keyword_rule k argument s → n ≡ 0 → is_out_of_bounds k argument ≡ false
keyword_inside k argument s n rule e = keyword_bounds k argument s (sym rule ∙ e)

pub all_countable : (s : State) → BoundedState most_lines s → Countable s.counts
all_countable s kept = kept_countable most_lines s kept (omega arith)

-- ---- arguments

last_within : (content : List ℕ) → last_end content ≤ length content
unfolding last_end
last_within content = omega arith

module _ (content : List ℕ) (start : ℕ) (last : Span) (found : last ≡ last_word content) where
  end_told : last.end ≡ last_end content
  unfolding last_word
  end_told = ap (λ (w : Span). w.end) found

  pub argument_within : last.end ≤ length content
  argument_within =
      let e : last.end ≡ last_end content = end_told in
      let h : last_end content ≤ length content = last_within content in
      omega arith

  pub argument_none : last.end ≤ start → take 0 content ≡ argument_from content start
  unfolding argument_from
  argument_none h =
      let e : last.end ≡ last_end content = end_told in
      let z : last_end content - start ≡ 0 = omega arith in
      rw z

  pub argument_there : take (last.end - start) (drop start content) ≡ argument_from content start
  unfolding argument_from
  argument_there = ap (λ (n : ℕ). take (n - start) (drop start content)) end_told

-- a keyword, with the argument that was cut out
pub named_told : (k : ℕ) (content : List ℕ) (start : ℕ) (s : State) (argument : List ℕ) (r : LineResult) → argument ≡ argument_from content start → r ≡ keyword_step k argument s → r ≡ keyword_step k (argument_from content start) s
named_told k content start s argument r cut e = e ∙ ap (λ (x : List ℕ). keyword_step k x s) cut

-- ---- brackets

module _ (content : List ℕ) (s : State) (r : LineResult) (b : Bracket) (read : b ≡ bracket_of content) where
  -- by the case that was read
  pub bracket_told : (c : Bracket) → b ≡ c → r ≡ bracket_step c content s → r ≡ bracket_step (bracket_of content) content s
  bracket_told c e h = h ∙ ap (λ (x : Bracket). bracket_step x content s) (sym e ∙ read)

  pub before_told : (c : Bracket) → b ≡ c → r ≡ before_step c content s → r ≡ before_step (bracket_of content) content s
  before_told c e h = h ∙ ap (λ (x : Bracket). before_step x content s) (sym e ∙ read)

-- ---- blank lines

pub blank_told : (content : List ℕ) (n : ℕ) → n ≡ run_end is_blank content 0 → eqb n (length content) ≡ is_blank_line content
unfolding is_blank_line
blank_told content n e =
    let z : n ≡ run is_blank content = e ∙ zero-add (run is_blank content) in
    by_cases (eqb n (length content) ≡ all is_blank content) (eqb n (length content))
    (λ (h : eqb n (length content) ≡ true). h ∙ sym (run_whole is_blank content (sym z ∙ eqb-true _ _ h)))
    (λ (h : eqb n (length content) ≡ false).
    by_cases (eqb n (length content) ≡ all is_blank content) (all is_blank content)
    (λ (a : all is_blank content ≡ true). absurd (eqb-false n (length content) h (z ∙ all_run is_blank content a)))
    (λ (a : all is_blank content ≡ false). h ∙ sym a))
