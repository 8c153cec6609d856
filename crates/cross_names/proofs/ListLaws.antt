-- Laws of the loop over the model list: the flags say which models the lines so far name, and the rest of the list
-- gives the first finding of the whole list.
-- Assumes nothing.
use mathlib.Core.Path.{◌≡◌, refl, sym, ◌∙◌, ap}
use mathlib.Core.Bool.{Bool, true, false, not}
use mathlib.Core.List.{List, [], ◌∷◌, ◌++◌, map, map-append, append_assoc, append-nil}
use Prim.Native.Nat.{ℕ, ◌+◌, ◌-◌, ◌≤◌, ◌<◌}
use native.Mathlib.Nat.{le_refl}
use native.Mathlib.Omega.{arith}
use lib.ListN.{length, get_or, set, replicate, length-set, get_or-replicate}
use lib.Seq.{get_or-set_same, get_or-set_other}
use lib.Dec.{leb, eqb}
use borrow.Author.Tests.{lt-ltb, le-ltb, eqb-true, eqb-false, leb-true, leb-false, not-true, not-false}
use Rattle.cross_rules.specs.Way.Findings.{list_name_rule, list_findings}
use Rattle.base.specs.If.{provided◌then◌else◌, both, either}
use Rattle.base.proofs.IfLaws.{if_true, if_false, by_cases, either_left, either_rest, not_via, not_not_via}
use Rattle.base.proofs.BrokenLaws.{first_broken_lem, first_kept}
use Rattle.lex_keyword.specs.Names.{begin_icm_model}
use Rattle.line_place.specs.Place.{is_in_family}
use Rattle.line_place.specs.Place as place
use Rattle.base.specs.Refusal as refusal
use Rattle.table_layout.specs.Layout.{models}
use Rattle.table_layout.specs.Bounds.{most_models}
use Rattle.std.specs.Prelude.{Some}
use Rattle.table_layout.specs.View.{view_of}
use Rattle.table_layout.specs.declared.View.{View}
use Rattle.table_record.specs.Way.Standing.{count_of, Rooms}
use Rattle.doc.specs.Lines.{Line, plain, key_of, lines_at, significant, gather, up_to, stands_in, words_of, first_word}
use Rattle.doc.specs.Document.{Named, Model, Document, listed_at, opens_model, model_of, model_at, in_model, document_in, document_of}
use Rattle.doc.specs.Way.Found.{line_in, lines_behind, Located, FindsLine, cursor_past}
use Rattle.doc.specs.Way.Staged.{ListsFrom}
use Rattle.doc.specs.declared.Found.{Found}
use Rattle.doc.specs.declared.Cursor.{Cursor}
use Rattle.doc.specs.Holds.{Each}
use Rattle.doc.specs.Holds.Each.{none, more}
use Rattle.doc.proofs.StandsLaws.{each_append, each_gather, each_if}
use Rattle.doc.proofs.GatherLaws.{gather_more, gather_none}
use Rattle.cross_rules.specs.Rules.{any, is_twice, is_there, no_finding}
use Rattle.cross_rules.specs.Way.First.{first_in}
use Rattle.cross_rules.specs.Way.HoldsText.{HoldsText}
use Rattle.cross_rules.specs.declared.Finding.{Finding}
use Rattle.cross_rules.specs.Listed.{Among}
use Rattle.cross_rules.specs.Listed.Among.{front, further}
use Rattle.cross_rules.proofs.RisingLaws.{Rising, each_one, numbers, rising_behind, all_least}
use Rattle.cross_rules.proofs.RisingLaws.Rising.{rise}
use Rattle.cross_rules.proofs.OrderLaws.{in_order, lines_rise}
use Rattle.cross_rules.proofs.ListLaws.{models_below}
use Rattle.cross_rules.proofs.TwiceLaws.{listed_twice}
use Rattle.cross_rules.proofs.KindLaws.{first_here, first_later}
use Rattle.cross_rules.proofs.TableLaws.{text_rooms, many_models}
use Rattle.cross_names.specs.Way.Listed.{model_named, is_listed, Listed}
use Rattle.cross_names.specs.Way.Judged.{no_slot, model_found, judged_by, name_judged, line_judged}
use Rattle.cross_names.specs.declared.list.Judged.{Judged}
use Rattle.cross_names.proofs.NamedLaws.{above_found, above_none, there_found, model_is}

-- the finding of a list line
abbrev finding : Document → Named → Finding
finding d n = record { rule = list_name_rule d n; line = n.line }

-- a list line above names model i
abbrev raised : Document → List Named → ℕ → Bool
raised d above i = any (λ (a : Named). eqb (model_named d a) i) above

-- ---- one line

-- the line l is a list line, and n is what the document has for it
pub record Names (l : Line) (ls : List Line) (n : Named) : Type 0 where
  pub one : listed_at l ls ≡ n ∷ []
  pub line : n.line ≡ l.line

-- the possible results of judging a line
pub data Outcome (d : Document) (l : Line) (ls : List Line) : Judged → Type 0 where
  silent : listed_at l ls ≡ [] → Outcome d l ls (record { rule = 0; slot = no_slot })
  broken : (n : Named) → Names l ls n → (number slot : ℕ) → list_name_rule d n ≡ number → (number ≡ 0 → ⊥) → slot ≤ most_models →
      Outcome d l ls (record { rule = number; slot = slot })
  fresh : (n : Named) → Names l ls n → (slot : ℕ) → list_name_rule d n ≡ 0 → slot ≡ model_named d n → slot < length d.models →
      Outcome d l ls (record { rule = 0; slot = slot })

-- the list lines above the name n break no rule, and they have set the flags
module _ (t : List ℕ) (listed : List Bool) (above below : List Named) (n : Named) (split : (document_of t).listed ≡ above ++ (n ∷ below)) where
  abbrev d : Document
  d = document_of t

  twice_is : is_twice d.listed n ≡ is_there above n
  twice_is = listed_twice d (in_order t) above below n split

  rule_none : Each (λ (a : Named). model_named d a < length d.models) above → length d.models ≤ model_named d n → list_name_rule d n ≡ refusal.list
  unfolding list_name_rule
  rule_none have h =
      first_kept _ refusal.twice _ refusal.list (twice_is ∙ above_none d n have h) (first_broken_lem _ refusal.list 0 (not_via (there_found d n ∙ le-ltb _ _ h)))

  module _ (few : length d.models ≤ most_models) (told : (i : ℕ) → i < most_models → get_or listed i false ≡ raised d above i) (h : model_named d n < length d.models) where
    flag_is : is_twice d.listed n ≡ get_or listed (model_named d n) false
    flag_is = twice_is ∙ above_found d n above h ∙ sym (told (model_named d n) (omega arith))

    rule_twice : get_or listed (model_named d n) false ≡ true → list_name_rule d n ≡ refusal.twice
    unfolding list_name_rule
    rule_twice e = first_broken_lem _ refusal.twice _ (flag_is ∙ e)

    rule_fresh : get_or listed (model_named d n) false ≡ false → list_name_rule d n ≡ 0
    unfolding list_name_rule
    rule_fresh e = first_kept _ refusal.twice _ 0 (flag_is ∙ e) (first_kept _ refusal.list _ 0 (not_not_via (there_found d n ∙ lt-ltb _ _ h)) refl)

small : {index many : ℕ} → index < many → many ≤ most_models → index ≤ most_models
small h few = omega arith

either_swap : (a b c : Bool) → either a (either b c) ≡ either b (either a c)
unfolding either
either_swap true true c = refl
either_swap true false c = refl
either_swap false b c = refl

-- ---- the rest of the lines

-- the lines from a cursor on
abbrev from : List ℕ → Cursor → List Line
from t c = lines_at t c.line c.at c.place

pub record ListLeft (t : List ℕ) (listed : List Bool) (c : Cursor) : Type 0 where
  pub passed : List Line
  pub all : significant t ≡ passed ++ from t c
  pub above : List Named
  pub rest : (document_of t).listed ≡ above ++ gather listed_at (from t c)
  pub same : first_in (map (finding (document_of t)) (gather listed_at (from t c))) ≡ first_in (list_findings (document_of t))
  pub have : Each (λ (a : Named). model_named (document_of t) a < length (document_of t).models) above
  pub long : length listed ≡ most_models + 1
  pub told : (i : ℕ) → i < most_models → get_or listed i false ≡ raised (document_of t) above i
  pub within : c.at ≤ length t
  pub counted : c.line ≤ c.at + 1

pub list_starts : (t : List ℕ) (c : Cursor) → ListsFrom t c → ListLeft t (replicate (most_models + 1) false) c
unfolding list_findings any
list_starts t c lists =
    record {
      passed = lists.passed;
      all = lists.all;
      above = [];
      rest = lists.listed;
      same = ap (λ (ns : List Named). first_in (map (finding (document_of t)) ns)) (sym lists.listed);
      have = none;
      long = refl;
      told = λ (i : ℕ) (h : i < most_models). get_or-replicate (most_models + 1) i false false (omega arith);
      within = lists.within;
      counted = lists.counted;
    }

-- ---- no list line comes after a line that opens a model

each_behind : {A : Type 0} {P : A → Type 0} (xs : List A) {ys : List A} → Each P (xs ++ ys) → Each P ys
each_behind [] h = h
each_behind (x ∷ xs) (more h hs) = each_behind xs hs

among_behind : {A : Type 0} {x : A} (xs : List A) {ys : List A} → Among x ys → Among x (xs ++ ys)
among_behind [] m = m
among_behind (x ∷ xs) m = further (among_behind xs m)

among_gather : {A : Type 0} {x : A} (here : Line → List Line → List A) (before ls : List Line) → Among x (gather here ls) → Among x (gather here (before ++ ls))
among_gather here [] ls m = m
among_gather here (b ∷ before) ls m = rw (gather_more here b (before ++ ls)) (among_behind (here b (before ++ ls)) (among_gather here before ls m))

none_such : {A : Type 0} {P Q : A → Type 0} → ((x : A) → P x → Q x → ⊥) → {xs : List A} → Each P xs → Each Q xs → xs ≡ []
none_such f none none = refl
none_such f (more {x = x} h hs) (more k ks) = absurd (f x h k)

from_first : {least n : ℕ} {ns : List ℕ} → Rising least (n ∷ ns) → Rising n (n ∷ ns)
from_first {n = n} (rise h rest) = rise (le_refl n) rest

module _ (t : List ℕ) (before : List Line) (l : Line) (ls : List Line) (all : significant t ≡ before ++ (l ∷ ls)) (opens : opens_model l ≡ true) where
  abbrev model : Model
  model = model_of l (up_to in_model ls)

  model_there : Among model (document_of t).models
  unfolding document_of document_in model_at
  model_there =
      let e : model_at l ls ≡ model ∷ [] = if_true _ _ opens in
      rw all (among_gather model_at before (l ∷ ls) (rw (gather_more model_at l ls, e) front))

  model_line_lem : model.line ≡ l.line
  unfolding model_of
  model_line_lem = refl

  lines_from : Each (λ (x : Line). l.line ≤ x.line) (l ∷ ls)
  lines_from =
      let h : Rising 1 (numbers before ++ numbers (l ∷ ls)) = rw (all, map-append) at (lines_rise t) in
      all_least (λ (x : Line). x.line) (l ∷ ls) (from_first (rising_behind (numbers before) (numbers (l ∷ ls)) h))

  name_from : (x : Line) (xs : List Line) → l.line ≤ x.line → Each (λ (y : Line). l.line ≤ y.line) xs → Each (λ (a : Named). l.line ≤ a.line) (listed_at x xs)
  unfolding listed_at
  name_from x xs h hs = each_if (stands_in place.list x) _ (λ (e : stands_in place.list x ≡ true). h)

  none_between : Each (λ (a : Named). Each (λ (m : Model). a.line < m.line) (document_of t).models) (gather listed_at (l ∷ ls)) → gather listed_at (l ∷ ls) ≡ []
  none_between below =
      none_such
      (λ (a : Named) (h : l.line ≤ a.line) (hs : Each (λ (m : Model). a.line < m.line) (document_of t).models).
      let k : a.line < model.line = each_one hs model_there in
      let e : model.line ≡ l.line = model_line_lem in
      omega arith)
      (each_gather (λ (x : Line). l.line ≤ x.line) listed_at name_from lines_from) below

-- ---- a line that breaks no rule, and one that does

-- what holds after a line that breaks no rule
record Kept (t : List ℕ) (listed : List Bool) (l : Line) (ls : List Line) (judged : Judged) : Type 0 where
  above : List Named
  rest : (document_of t).listed ≡ above ++ gather listed_at ls
  same : first_in (map (finding (document_of t)) (gather listed_at ls)) ≡ first_in (list_findings (document_of t))
  have : Each (λ (a : Named). model_named (document_of t) a < length (document_of t).models) above
  told : (i : ℕ) → i < most_models → get_or (set listed judged.slot true) i false ≡ raised (document_of t) above i

slot_small : {d : Document} {l : Line} {ls : List Line} {judged : Judged} → length d.models ≤ most_models → Outcome d l ls judged → judged.slot < most_models + 1
slot_small few (silent e) = omega arith
slot_small few (broken n names number slot e ne low) = omega arith
slot_small few (fresh n names slot e is h) = omega arith

breaks_by :
    {d : Document} {l : Line} {ls : List Line} {judged : Judged} {whole : Finding} (later : List Named) → Outcome d l ls judged →
    first_in (map (finding d) (listed_at l ls ++ later)) ≡ whole → (judged.rule ≡ 0 → ⊥) →
    record { rule = judged.rule; line = l.line } ≡ whole
breaks_by later (silent e) same n = absurd (n refl)
breaks_by {d} {l} {ls} later (broken m names number slot e ne low) same n =
    let f : finding d m ≡ record { rule = number; line = l.line } = λ i. record { rule = e i; line = names.line i } in
    let g : first_in (map (finding d) (listed_at l ls ++ later)) ≡ finding d m =
    ap (λ (ns : List Named). first_in (map (finding d) (ns ++ later))) names.one
    ∙ first_here (finding d m) (map (finding d) later) (λ (z : list_name_rule d m ≡ 0). ne (sym e ∙ z)) in
    sym f ∙ sym g ∙ same
breaks_by later (fresh m names slot e is h) same n = absurd (n refl)

-- one flag more
flag_other : (listed : List Bool) (slot i : ℕ) → (i ≡ slot → ⊥) → get_or (set listed slot true) i false ≡ get_or listed i false
flag_other listed slot i h = get_or-set_other listed slot i true false h

flag_more : (listed : List Bool) (slot i : ℕ) → slot < length listed → get_or (set listed slot true) i false ≡ either (eqb slot i) (get_or listed i false)
flag_more listed slot i h =
    by_cases _ (eqb slot i)
    (λ (e : eqb slot i ≡ true).
    ap (λ (k : ℕ). get_or (set listed slot true) k false) (sym (eqb-true _ _ e)) ∙ get_or-set_same listed slot true false h ∙ sym (either_left _ _ e))
    (λ (e : eqb slot i ≡ false). flag_other listed slot i (λ (z : i ≡ slot). eqb-false _ _ e (sym z)) ∙ sym (either_rest _ _ e))

any_one_more : {A : Type 0} (test : A → Bool) (xs : List A) (x : A) → any test (xs ++ (x ∷ [])) ≡ either (test x) (any test xs)
unfolding any
any_one_more test [] x = refl
any_one_more test (y ∷ xs) x = ap (either (test y)) (any_one_more test xs x) ∙ either_swap (test y) (test x) (any test xs)

kept_by :
    {t : List ℕ} {listed : List Bool} {l : Line} {ls : List Line} {judged : Judged} {above : List Named} →
    length (document_of t).models ≤ most_models → Outcome (document_of t) l ls judged → judged.rule ≡ 0 →
    (document_of t).listed ≡ above ++ (listed_at l ls ++ gather listed_at ls) →
    first_in (map (finding (document_of t)) (listed_at l ls ++ gather listed_at ls)) ≡ first_in (list_findings (document_of t)) →
    Each (λ (a : Named). model_named (document_of t) a < length (document_of t).models) above →
    length listed ≡ most_models + 1 → ((i : ℕ) → i < most_models → get_or listed i false ≡ raised (document_of t) above i) → Kept t listed l ls judged
kept_by {t} {listed} {l} {ls} {above = above} few (silent e) z rest same have long told =
    record {
      above = above;
      rest = rest ∙ ap (λ (ns : List Named). above ++ (ns ++ gather listed_at ls)) e;
      same = ap (λ (ns : List Named). first_in (map (finding (document_of t)) (ns ++ gather listed_at ls))) (sym e) ∙ same;
      have = have;
      told = λ (i : ℕ) (h : i < most_models). flag_other listed no_slot i (λ (k : i ≡ no_slot). omega arith) ∙ told i h;
    }
kept_by few (broken m names number slot e ne low) z rest same have long told = absurd (ne z)
kept_by {t} {listed} {l} {ls} {above = above} few (fresh m names slot e is h) z rest same have long told =
    record {
      above = above ++ (m ∷ []);
      rest =
          rest ∙ ap (λ (ns : List Named). above ++ (ns ++ gather listed_at ls)) names.one
          ∙ sym (append_assoc above (m ∷ []) (gather listed_at ls));
      same =
          sym (first_later (finding (document_of t) m) (map (finding (document_of t)) (gather listed_at ls)) e)
          ∙ ap (λ (ns : List Named). first_in (map (finding (document_of t)) (ns ++ gather listed_at ls))) (sym names.one)
          ∙ same;
      have = each_append have (more (rw is at h) none);
      told =
          λ (i : ℕ) (k : i < most_models).
          flag_more listed slot i (omega arith)
          ∙ (λ j. either (eqb (is j) i) (told i k j))
          ∙ sym (any_one_more (λ (a : Named). eqb (model_named (document_of t) a) i) above m);
    }

-- `number` and `line` are the first finding of the whole list; if there is none, the flags are as `Listed` says
abbrev pub Gives : List ℕ → ℕ → ℕ → List Bool → Type 0
Gives t number line listed =
    (record { rule = number; line = line } ≡ first_in (list_findings (document_of t))) × (number ≡ 0 → Listed (document_of t) listed)

module _ (t : List ℕ) (listed : List Bool) (c : Cursor) (left : ListLeft t listed c) where
  abbrev p : ℕ
  p = c.place

  -- no list line is left
  list_done : gather listed_at (from t c) ≡ [] → Gives t 0 0 listed
  unfolding first_in no_finding is_listed
  list_done e =
      let all : (document_of t).listed ≡ left.above = left.rest ∙ ap (λ (ns : List Named). left.above ++ ns) e ∙ append-nil left.above in (
        ap (λ (ns : List Named). first_in (map (finding (document_of t)) ns)) (sym e) ∙ left.same,
        λ (z : ◌≡◌ {A = ℕ} 0 0).
            record {
              long = left.long;
              told = λ (i : ℕ) (h : i < most_models). left.told i h ∙ ap (λ (ns : List Named). raised (document_of t) ns i) (sym all);
            },
      )

  module _ (line : Found) (finds : FindsLine t c.line c.at line) where
    pub list_ends : not line.there ≡ true → Gives t 0 0 listed
    list_ends h = list_done (ap (gather listed_at) (finds.same_none (not-true line.there h) p) ∙ gather_none listed_at)

    module _ (there : not line.there ≡ false) where
      pub found : Located t line
      found = finds.located (not-false line.there there)

      pub list_less : (next : Cursor) → next ≡ cursor_past t c line → length t - next.at < length t - c.at
      unfolding cursor_past
      list_less next is_next = rw is_next (omega (arith, finds.behind (not-false line.there there), found.further, found.next_within))

      abbrev l : Line
      l = line_in t line p

      abbrev ls : List Line
      ls = lines_behind t line p

      lines_here : from t c ≡ l ∷ ls
      lines_here = finds.same_there (not-false line.there there) p

      all_here : significant t ≡ left.passed ++ (l ∷ ls)
      all_here = left.all ∙ ap (λ (x : List Line). left.passed ++ x) lines_here

      here : gather listed_at (from t c) ≡ gather listed_at (l ∷ ls)
      here = ap (gather listed_at) lines_here

      names_here : gather listed_at (from t c) ≡ listed_at l ls ++ gather listed_at ls
      names_here = here ∙ gather_more listed_at l ls

      rest_here : (document_of t).listed ≡ left.above ++ (listed_at l ls ++ gather listed_at ls)
      rest_here = left.rest ∙ ap (λ (ns : List Named). left.above ++ ns) names_here

      same_here : first_in (map (finding (document_of t)) (listed_at l ls ++ gather listed_at ls)) ≡ first_in (list_findings (document_of t))
      same_here = ap (λ (ns : List Named). first_in (map (finding (document_of t)) ns)) (sym names_here) ∙ left.same

      abbrev name : Named
      name = record { name = first_word (words_of l); line = l.line }

      listed_is : listed_at l ls ≡ (provided both (eqb p place.list) (eqb line.key plain) then name ∷ [] else [])
      unfolding listed_at stands_in key_of
      listed_is = ap (λ (k : ℕ). provided both (eqb p place.list) (eqb k plain) then name ∷ [] else []) (sym found.key_is)

      module _ (table : List ℕ) (filled : HoldsText t table) (v : View) (is_view : Some v ≡ view_of table) where
        abbrev count : ℕ
        count = count_of v models

        pub line_ready : Rooms table v × Located t line
        line_ready = (text_rooms t table filled v is_view, found)

        many : count ≡ length (document_of t).models
        many = many_models t table filled v is_view

        few : length (document_of t).models ≤ most_models
        few = rw many at (text_rooms t table filled v is_view).few_models

        index_is : model_found t table v line ≡ model_named (document_of t) name
        unfolding words_of
        index_is = model_is t table filled v is_view line name refl

        -- a name, by the model that it finds
        name_outcome : Names l ls name → Outcome (document_of t) l ls (judged_by (length (document_of t).models) (model_named (document_of t) name) listed)
        unfolding judged_by
        name_outcome names =
            let split : (document_of t).listed ≡ left.above ++ (name ∷ gather listed_at ls) =
            rest_here ∙ ap (λ (ns : List Named). left.above ++ (ns ++ gather listed_at ls)) names.one in
            by_cases _ (leb (length (document_of t).models) (model_named (document_of t) name))
            (λ (e : leb (length (document_of t).models) (model_named (document_of t) name) ≡ true).
            rw (if_true {A = Judged} (record { rule = refusal.list; slot = no_slot }) _ e)
            (broken name names refusal.list no_slot (rule_none t listed left.above _ name split left.have (leb-true _ _ e)) (λ (z : ◌≡◌ {A = ℕ} refusal.list 0). omega arith) (omega arith)))
            (λ (e : leb (length (document_of t).models) (model_named (document_of t) name) ≡ false).
            let h : model_named (document_of t) name < length (document_of t).models = leb-false _ _ e in
            rw (if_false {A = Judged} (record { rule = refusal.list; slot = no_slot }) _ e)
            (by_cases _ (get_or listed (model_named (document_of t) name) false)
            (λ (f : get_or listed (model_named (document_of t) name) false ≡ true).
            rw (if_true {A = Judged} (record { rule = refusal.twice; slot = model_named (document_of t) name }) _ f)
            (broken name names refusal.twice (model_named (document_of t) name) (rule_twice t listed left.above _ name split few left.told h f) (λ (z : ◌≡◌ {A = ℕ} refusal.twice 0). omega arith) (small h few)))
            (λ (f : get_or listed (model_named (document_of t) name) false ≡ false).
            rw (if_false {A = Judged} (record { rule = refusal.twice; slot = model_named (document_of t) name }) _ f)
            (fresh name names (model_named (document_of t) name) (rule_fresh t listed left.above _ name split few left.told h f) refl h))))

        judged_outcome : Outcome (document_of t) l ls (line_judged t table v p line listed)
        unfolding line_judged name_judged
        judged_outcome =
            by_cases _ (both (eqb p place.list) (eqb line.key plain))
            (λ (e : both (eqb p place.list) (eqb line.key plain) ≡ true).
            let names : Names l ls name = record { one = listed_is ∙ if_true _ _ e; line = refl } in
            rw (if_true {A = Judged} (judged_by count (model_found t table v line) listed) (record { rule = 0; slot = no_slot }) e, many, index_is)
            (name_outcome names))
            (λ (e : both (eqb p place.list) (eqb line.key plain) ≡ false).
            rw (if_false {A = Judged} (judged_by count (model_found t table v line) listed) (record { rule = 0; slot = no_slot }) e)
            (silent (listed_is ∙ if_false _ _ e)))

        -- the line opens a model: the list is above all models
        module _ (opens : Bool) (told_opens : opens ≡ both (is_in_family p) (eqb line.key begin_icm_model)) (is_open : opens ≡ true) where
          opened : opens_model l ≡ true
          unfolding opens_model key_of
          opened = ap (λ (k : ℕ). both (is_in_family p) (eqb k begin_icm_model)) (sym found.key_is) ∙ sym told_opens ∙ is_open

          pub list_stops : Gives t 0 0 listed
          list_stops =
              let below : Each (λ (a : Named). Each (λ (m : Model). a.line < m.line) (document_of t).models) (document_of t).listed =
              models_below t filled.counts filled.reads in
              let lower : Each (λ (a : Named). Each (λ (m : Model). a.line < m.line) (document_of t).models) (gather listed_at (from t c)) =
              each_behind left.above (rw left.rest at below) in
              list_done (here ∙ none_between t left.passed l ls all_here opened (rw here at lower))

        module _ (judged : Judged) (is_judged : judged ≡ line_judged t table v p line listed) where
          outcome : Outcome (document_of t) l ls judged
          outcome = rw is_judged judged_outcome

          pub slot_in : judged.slot < most_models + 1
          slot_in = slot_small few outcome

          pub list_breaks : (judged.rule ≡ 0 → ⊥) → Gives t judged.rule line.line listed
          list_breaks n = (breaks_by (gather listed_at ls) outcome same_here n, λ (z : judged.rule ≡ 0). absurd (n z))

          pub list_on : judged.rule ≡ 0 → (next : Cursor) → next ≡ cursor_past t c line → ListLeft t (set listed judged.slot true) next
          unfolding cursor_past
          list_on z next is_next =
              let k : line.line ≤ line.at + 1 = found.counted in
              let f : line.at < line.next = found.further in
              let g : Kept t listed l ls judged = kept_by few outcome z rest_here same_here left.have left.long left.told in
              rw is_next
              (record {
                passed = left.passed ++ (l ∷ []);
                all = all_here ∙ sym (append_assoc left.passed (l ∷ []) ls);
                above = g.above;
                rest = g.rest;
                same = g.same;
                have = g.have;
                long = length-set listed judged.slot true ∙ left.long;
                told = g.told;
                within = found.next_within;
                counted = omega arith;
              })
