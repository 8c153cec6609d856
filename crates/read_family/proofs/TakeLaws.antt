-- What a line does that is read alone and breaks no rule, up to [End ICM Family]: to the place, the counts, the head of a
-- model and the grid of a map.
-- Assumes nothing.
use mathlib.Core.Path.{◌≡◌, refl, sym, ◌∙◌, ap}
use mathlib.Core.Bool.{Bool, true, false, true≢false}
use mathlib.Core.List.{List}
use Prim.Native.Nat.{ℕ, ◌≤◌, ◌<◌}
use native.Mathlib.Omega.{arith}
use lib.Dec.{eqb}
use borrow.Author.Tests.{eq-eqb, ne_eqb, eqb-true, eqb-false}
use Rattle.base.specs.If.{provided◌then◌else◌, both, either}
use Rattle.base.specs.Refusal as refusal
use Rattle.base.proofs.IfLaws.{if_true, if_false, by_cases, both_first, both_second, both_rest, both_not_left, both_not_right, either_false, either_none_first, either_none_second}
use Rattle.lex_line.specs.Lines.{is_blank_line}
use Rattle.lex_keyword.specs.Names.{icm_pin_map, begin_icm_model, begin_icm_section}
use Rattle.lex_keyword.specs.Bracket.{bracket_of}
use Rattle.lex_keyword.specs.declared.Bracket.{Bracket}
use Rattle.lex_keyword.specs.declared.Bracket.TheVariants.{Plain, Indented, Bad, Unknown, Later, Keyword}
use Rattle.lex_keyword.proofs.AnswerLaws.{keyword_known}
use Rattle.line_place.specs.Place.{is_in_family, is_text, opens_matrix, moved}
use Rattle.line_place.specs.Place as place
use Rattle.line_head.specs.Head.{head_line_of, head_next, new_head}
use Rattle.line_head.proofs.HeadLaws.{sgr_once}
use Rattle.line_map.specs.PinMap.{map_line_of, map_next, new_map, with_pin}
use Rattle.line_head.specs.declared.Head.{Head}
use Rattle.line_map.specs.declared.Map.{Map}
use Rattle.line_keyword.specs.Keywords.{is_misplaced, is_unclosed, one_more_if, counts_after, head_after, map_after, keyword_next}
use Rattle.line_keyword.specs.Way.Bounded.{NoneYet}
use Rattle.line_keyword.specs.declared.State.{State}
use Rattle.line_keyword.specs.Way.Rule.{keyword_rule}
use Rattle.read_line.specs.Reading.{line_result, line_next, counts_after_line, breaks}
use Rattle.read_line.specs.Way.Steps.{line_rule, bracket_step}
use Rattle.read_line.specs.Way.Walk.{BracketOrLineByLine}
use Rattle.read_line.specs.declared.LineResult.{LineResult}
use Rattle.read_line.proofs.ResultLaws.{rule_head, result_steps}
use Rattle.read_line.proofs.OutsideLaws.{keyword_placed}
use Rattle.doc.specs.Lines.{Line, plain, key_in, key_at, key_of, argument_of, place_after, stands_in}
use Rattle.doc.specs.Document.{says_sgr, opens_model, opens_map}
use Rattle.doc.proofs.Goes.{ended, waits, Moves, idle, plainly, keyed, Moved, MetBy, line_moves, moves_place}
use Rattle.doc.proofs.CountLaws.{Placed, placed}
use Rattle.read_family.proofs.PlaceLaws.{early_known, early_after}

-- the head of a model and the grid of a map after a line
abbrev pub head_taken : Line → Head → Head
head_taken l h = provided stands_in place.head l then head_next (head_line_of l.content) h else h

abbrev pub grid_taken : Line → Map → Map
grid_taken l m = provided stands_in place.map_head l then map_next (map_line_of l.content) m else m

pub record Takes (l : Line) (s s' : State) : Type 0 where
  pub here : l.place ≡ s.place
  pub there : s'.place ≡ place_after s.place l.content
  pub early : s'.place ≤ place.after
  pub no_step : stands_in place.path l ≡ false
  pub no_pin : stands_in place.pin_list l ≡ false
  pub map_head_lem : s.place ≡ place.map_head → key_of l ≡ plain
  pub steps : s'.counts.steps ≡ s.counts.steps
  pub pins : s'.counts.pins ≡ s.counts.pins
  pub none_yet : NoneYet s.counts → NoneYet s'.counts
  pub models : s'.counts.models ≡ one_more_if (opens_model l) s.counts.models
  pub maps : s'.counts.maps ≡ one_more_if (opens_map l) s.counts.maps
  pub head : s'.head ≡ (provided opens_model l then new_head else head_taken l s.head)
  pub sgr : says_sgr l ≡ true → s.head.sgr ≡ false
  pub map : s'.map ≡ (provided opens_map l then new_map else grid_taken l s.map)

-- ---- a line of a path or a pin list that is read alone has a keyword

module _ (content : List ℕ) (s : State) (filled : is_blank_line content ≡ false) (kept : (line_result content s).rule ≡ 0) where
  -- a bracket that is indented is bad, but for text blocks
  indented_broken : bracket_of content ≡ Indented → (s.place ≡ place.done → ⊥) → (s.place ≡ place.before → ⊥) → is_text s.place ≡ false → ⊥
  unfolding breaks
  indented_broken b d p text =
      let e : line_result content s ≡ breaks refusal.keyword s =
      result_steps content s ∙ if_false _ _ filled ∙ if_false _ _ (ne_eqb _ _ d) ∙ if_false _ _ (ne_eqb _ _ p)
      ∙ ap (λ (x : Bracket). bracket_step x content s) b ∙ if_false _ _ text in
      let z : refusal.keyword ≡ 0 = sym (ap (λ (x : LineResult). x.rule) e) ∙ kept in
      omega arith

  module _ (alone : BracketOrLineByLine content s.place) where
    -- the place is none of those whose lines are read together
    record Apart : Type 0 where
      path : s.place ≡ place.path → ⊥
      pins : s.place ≡ place.pin_list → ⊥

    by_bracket : (b : Bracket) → bracket_of content ≡ b → key_in b ≡ plain → Apart
    unfolding is_text either
    by_bracket Plain b key = record { path = (alone filled b).path; pins = (alone filled b).pins }
    by_bracket Indented b key =
        record {
          path = λ (e : s.place ≡ place.path).
              indented_broken b (λ (z : s.place ≡ place.done). omega arith) (λ (z : s.place ≡ place.before). omega arith) (rw e);
          pins = λ (e : s.place ≡ place.pin_list).
              indented_broken b (λ (z : s.place ≡ place.done). omega arith) (λ (z : s.place ≡ place.before). omega arith) (rw e);
        }
    by_bracket Bad b key = absurd (omega (arith, key))
    by_bracket Unknown b key = absurd (omega (arith, key))
    by_bracket Later b key = absurd (omega (arith, key))
    by_bracket (Keyword k start) b key =
        let h : k < 40 = (keyword_known k start content b).known in
        absurd (omega (arith, key))

    plain_apart : key_at content ≡ plain → Apart
    unfolding key_at
    plain_apart key = by_bracket (bracket_of content) refl key

-- ---- what it does, by what it is

with_true : (a : Bool) → both a true ≡ a
unfolding both
with_true true = refl
with_true false = refl

module _ (l : Line) (s : State) (here : l.place ≡ s.place) (early : s.place < place.after) where
  not_at : (q : ℕ) → (s.place ≡ q → ⊥) → stands_in q l ≡ false
  unfolding stands_in
  not_at q away = both_not_left _ _ (ne_eqb _ _ (λ (e : l.place ≡ q). away (sym here ∙ e)))

  -- a line that is not of a head says no SGR
  unsaid : stands_in place.head l ≡ false → says_sgr l ≡ true → s.head.sgr ≡ false
  unfolding says_sgr
  unsaid e h = absurd (true≢false (sym (both_first _ _ h) ∙ e))

  -- a line above the header
  module _ (waiting : s.place ≡ place.before) where
    away : (q : ℕ) → 0 < q → s.place ≡ q → ⊥
    away q h e = omega arith

    no_model_lem : opens_model l ≡ false
    unfolding opens_model is_in_family either
    no_model_lem = both_not_left _ _ (rw (here ∙ waiting))

    no_map_lem : opens_map l ≡ false
    unfolding opens_map is_in_family either
    no_map_lem = both_not_left _ _ (rw (here ∙ waiting))

    idle_takes : Moves l s s → Takes l s s
    unfolding one_more_if
    idle_takes m =
        record {
          here = here;
          there = moves_place l s s m;
          early = omega arith;
          no_step = not_at place.path (away place.path (omega arith));
          no_pin = not_at place.pin_list (away place.pin_list (omega arith));
          map_head_lem = λ e. absurd (away place.map_head (omega arith) e);
          steps = refl;
          pins = refl;
          none_yet = λ n. n;
          models = sym (if_false _ _ no_model_lem);
          maps = sym (if_false _ _ no_map_lem);
          head = sym (if_false _ _ no_model_lem ∙ if_false _ _ (not_at place.head (away place.head (omega arith))));
          sgr = unsaid (not_at place.head (away place.head (omega arith)));
          map = sym (if_false _ _ no_map_lem ∙ if_false _ _ (not_at place.map_head (away place.map_head (omega arith))));
        }

  -- a line without a keyword
  module _ (key : key_of l ≡ plain) (no_path : s.place ≡ place.path → ⊥) (no_list : s.place ≡ place.pin_list → ⊥) where
    plain_shut : (k : ℕ) → (plain ≡ k → ⊥) → eqb (key_of l) k ≡ false
    plain_shut k other = ne_eqb _ _ (λ (e : key_of l ≡ k). other (sym key ∙ e))

    plain_model : opens_model l ≡ false
    unfolding opens_model
    plain_model = both_not_right _ _ (plain_shut begin_icm_model (λ (z : plain ≡ begin_icm_model). omega arith))

    plain_map : opens_map l ≡ false
    unfolding opens_map
    plain_map = both_not_right _ _ (plain_shut icm_pin_map (λ (z : plain ≡ icm_pin_map). omega arith))

    stands_told : (q : ℕ) → stands_in q l ≡ eqb s.place q
    unfolding stands_in
    stands_told q =
        ap (λ (b : Bool). both (eqb l.place q) b) (eq-eqb _ _ key) ∙ with_true (eqb l.place q) ∙ ap (λ (p : ℕ). eqb p q) here

    -- "repeated .. 12": an SGR line that breaks no rule is the first of its head
    first_sgr_lem : line_rule l.content s ≡ 0 → says_sgr l ≡ true → s.head.sgr ≡ false
    unfolding says_sgr stands_in
    first_sgr_lem kept e =
        let there : s.place ≡ place.head = sym here ∙ eqb-true _ _ (both_first _ _ (both_first _ _ e)) in
        sgr_once (head_line_of l.content) s.head (sym (rule_head l.content s there) ∙ kept) (eqb-true _ _ (both_second _ _ e))

    plain_takes : line_rule l.content s ≡ 0 → Moves l s (line_next l.content s) → Takes l s (line_next l.content s)
    unfolding line_next counts_after_line one_more_if key_of
    plain_takes kept m =
        record {
          here = here;
          there = moves_place l s (line_next l.content s) m;
          early =
              rw (moves_place l s (line_next l.content s) m)
              (early_after s.place l.content early (λ (n : eqb (key_of l) plain ≡ false). absurd (eqb-false _ _ n key)));
          no_step = not_at place.path no_path;
          no_pin = not_at place.pin_list no_list;
          map_head_lem = λ e. key;
          steps = if_false _ _ (both_not_left _ _ (ne_eqb _ _ no_path));
          pins = if_false _ _ (ne_eqb _ _ no_list);
          none_yet =
              λ n.
              record {
                sections = n.sections;
                matrices = n.matrices;
                values = if_false _ _ (ne_eqb _ _ (λ (e : s.place ≡ place.matrix). omega arith)) ∙ n.values;
              };
          models = sym (if_false _ _ plain_model);
          maps = sym (if_false _ _ plain_map);
          head = ap (λ (b : Bool). provided b then head_next (head_line_of l.content) s.head else s.head) (sym (stands_told place.head)) ∙ sym (if_false _ _ plain_model);
          sgr = first_sgr_lem kept;
          map =
              (λ i.
              provided sym (stands_told place.map_head) i
              then map_next (map_line_of l.content) s.map
              else if_false (with_pin s.map) s.map (ne_eqb _ _ no_list) i)
              ∙ sym (if_false _ _ plain_map);
        }

  -- a line with a keyword
  module _ (key : eqb (key_of l) plain ≡ false) (kept : keyword_rule (key_of l) (argument_of l).text s ≡ 0) (stands : Placed s.place (key_of l)) where
    keyed_apart : (q : ℕ) → stands_in q l ≡ false
    unfolding stands_in
    keyed_apart q = both_not_right _ _ key

    -- where the test of a keyword implies that of its place, the two together are the test of the keyword
    together : (a b : Bool) → (b ≡ true → a ≡ true) → both a b ≡ b
    together a b h = by_cases _ b (λ (e : b ≡ true). both_rest _ _ (h e)) (λ (e : b ≡ false). both_not_right _ _ e ∙ sym e)

    model_told : opens_model l ≡ eqb (key_of l) begin_icm_model
    unfolding opens_model
    model_told = together _ _ (λ (e : eqb (key_of l) begin_icm_model ≡ true). ap is_in_family here ∙ stands.model (eqb-true _ _ e))

    map_told : opens_map l ≡ eqb (key_of l) icm_pin_map
    unfolding opens_map
    map_told = together _ _ (λ (e : eqb (key_of l) icm_pin_map ≡ true). ap is_in_family here ∙ stands.map (eqb-true _ _ e))

    no_section_lem : eqb (key_of l) begin_icm_section ≡ false
    no_section_lem = ne_eqb _ _ (λ (e : key_of l ≡ begin_icm_section). let z : s.place ≡ place.after = stands.section e in omega arith)

    no_matrix_lem : opens_matrix (key_of l) ≡ false
    no_matrix_lem =
        by_cases _ (opens_matrix (key_of l))
        (λ (e : opens_matrix (key_of l) ≡ true).
        absurd
        (true≢false
        (sym (stands.matrix e)
        ∙ either_false _ _ (ne_eqb _ _ (λ (z : s.place ≡ place.section). omega arith)) (ne_eqb _ _ (λ (z : s.place ≡ place.matrix). omega arith)))))
        (λ (e : opens_matrix (key_of l) ≡ false). e)

    alive : moved s.place (key_of l) ≡ place.dead → ⊥
    unfolding is_misplaced
    alive = eqb-false _ _ (either_none_first _ _ (keyword_placed (key_of l) (argument_of l).text s kept))

    -- no keyword stands in the head of a map
    not_map_head : s.place ≡ place.map_head → ⊥
    unfolding is_misplaced is_unclosed
    not_map_head e =
        let open_here : is_unclosed s ≡ false =
        either_none_first _ _ (either_none_second _ _ (keyword_placed (key_of l) (argument_of l).text s kept)) in
        true≢false
        (sym
        (if_false _ _ (ne_eqb s.place place.head (λ (z : s.place ≡ place.head). omega arith))
        ∙ if_false _ _ (ne_eqb s.place place.path (λ (z : s.place ≡ place.path). omega arith))
        ∙ if_true _ _ (eq-eqb s.place place.map_head e))
        ∙ open_here)

    keyed_takes :
        Moves l s (keyword_next (key_of l) (argument_of l).text s) → Takes l s (keyword_next (key_of l) (argument_of l).text s)
    unfolding keyword_next counts_after head_after map_after one_more_if key_of
    keyed_takes m =
        record {
          here = here;
          there = moves_place l s (keyword_next (key_of l) (argument_of l).text s) m;
          early =
              rw (moves_place l s (keyword_next (key_of l) (argument_of l).text s) m)
              (early_after s.place l.content early (λ (n : eqb (key_of l) plain ≡ false). alive));
          no_step = keyed_apart place.path;
          no_pin = keyed_apart place.pin_list;
          map_head_lem = λ e. absurd (not_map_head e);
          steps = refl;
          pins = refl;
          none_yet =
              λ n.
              record {
                sections = if_false _ _ no_section_lem ∙ n.sections;
                matrices = if_false _ _ no_matrix_lem ∙ n.matrices;
                values = n.values;
              };
          models = ap (λ (b : Bool). one_more_if b s.counts.models) (sym model_told);
          maps = ap (λ (b : Bool). one_more_if b s.counts.maps) (sym map_told);
          head =
              (λ i. provided sym model_told i then new_head else sym (if_false (head_next (head_line_of l.content) s.head) s.head (keyed_apart place.head)) i);
          sgr = unsaid (keyed_apart place.head);
          map =
              (λ i. provided sym map_told i then new_map else sym (if_false (map_next (map_line_of l.content) s.map) s.map (keyed_apart place.map_head)) i);
        }

-- ---- a line that breaks no rule

module _ (l : Line) (s : State) (here : l.place ≡ s.place) (early : s.place < place.after) (filled : is_blank_line l.content ≡ false)
    (kept : (line_result l.content s).rule ≡ 0) (alone : BracketOrLineByLine l.content s.place) where
  by_moves : (s' : State) (m : Moves l s s') → MetBy m → Takes l s s'
  unfolding key_of
  by_moves s' (idle (ended e)) met = absurd (omega (arith, e, early))
  by_moves s' (idle (waits e k)) met = idle_takes l s here early e (idle (waits e k))
  by_moves s' (plainly k h) met =
      let a : Apart l.content s filled kept alone = plain_apart l.content s filled kept alone k in
      plain_takes l s here early k a.path a.pins h (plainly k h)
  by_moves s' (keyed k h) met =
      keyed_takes l s here early k h (placed (key_of l) (argument_of l).text s (early_known s.place (omega arith)) met h) (keyed k h)

  pub line_takes : Takes l s (line_result l.content s).state
  line_takes =
      let m : Moved l s = line_moves l s filled kept in
      rw m.is_next (by_moves m.next m.moves m.met)
