-- Laws of the steps of a model gone over: what is left of them, with the models behind, gives what all that is left breaks first.
-- Assumes nothing.
use mathlib.Core.Path.{◌≡◌, refl, sym, ◌∙◌, ap, subst}
use mathlib.Core.Bool.{Bool, true, false}
use mathlib.Core.List.{List, [], ◌∷◌, ◌++◌, map, append_assoc}
use Prim.Native.Nat.{ℕ, zero, suc, ◌+◌, ◌*◌, ◌≤◌, ◌<◌}
use native.Mathlib.Nat.{not-suc-le-zero, le_of_suc-le-suc}
use native.Mathlib.Omega.{arith}
use mir.Syntax.{w64}
use mir.Val.{Fits}
use lib.ListN.{length, drop, get_or, length-append}
use lib.Seq.{drop_at}
use lib.Dec.{eqb}
use Rattle.cross_rules.specs.Way.Findings.{model_rule, step_rule, step_findings, model_findings}
use Rattle.table_layout.specs.Codes.{section_kind}
use Rattle.table_layout.specs.Bounds.{most_steps}
use Rattle.table_layout.specs.Layout.{models, steps}
use Rattle.std.specs.Prelude.{Some}
use Rattle.table_layout.specs.View.{view_of}
use Rattle.table_layout.specs.declared.View.{View}
use Rattle.table_record.specs.Records.{records_of, range, no_step}
use Rattle.table_record.specs.Way.Standing.{count_of}
use Rattle.table_record.specs.Way.Stage.{staged_step_width, staged_step_at}
use Rattle.table_record.specs.declared.StepRecord.{StepRecord}
use Rattle.table_record.specs.declared.stage.StagedStep.{StagedStep}
use Rattle.doc.specs.Lines.{significant, gather}
use Rattle.doc.specs.Document.{Step, Model, Document, step_of, document_of}
use Rattle.doc.specs.Way.Staged.{mult_word, staged_step, StepsStaged}
use Rattle.doc.specs.Records.{step_record, flatten}
use Rattle.doc.specs.Holds.{Each}
use Rattle.doc.proofs.StandsLaws.{ModelStands, all_stand}
use Rattle.doc.proofs.SectionLaws.{RightSection, text_sections}
use Rattle.doc.proofs.BlockLaws.{joined, joined_append}
use Rattle.doc.proofs.PassLaws.{steps_of_text}
use Rattle.doc.proofs.StagedLaws.{step_staged_lem}
use Rattle.cross_rules.specs.Way.First.{first_in}
use Rattle.cross_rules.specs.Way.HoldsText.{HoldsText}
use Rattle.cross_rules.specs.declared.Finding.{Finding}
use Rattle.cross_rules.proofs.RisingLaws.{each_at}
use Rattle.cross_rules.proofs.OrderLaws.{in_order}
use Rattle.cross_rules.proofs.KindLaws.{first_here, first_later}
use Rattle.cross_rules.proofs.TableLaws.{text_records, text_rooms, many_models}
use Rattle.cross_names.specs.Way.Listed.{Listed}
use Rattle.cross_steps.specs.Way.StepWords.{step_rule_at}
use Rattle.table_name.specs.Way.Hash.{marks_many}
use Rattle.cross_steps.specs.Way.Marks.{MarkedEnds, Below, Judged}
use Rattle.cross_steps.specs.declared.Owner.{Owner}
use Rattle.cross_steps.proofs.MarkLaws.{marked_starts}
use Rattle.cross_steps.proofs.JoinLaws.{Owns, record_here, step_is}
use Rattle.cross_models.specs.Way.Models.{ModelRoom, mult_at, owner_at, model_rule_at, below_first, StepsTold}
use Rattle.cross_models.proofs.ModelLaws.{room_here, owns_here, owner_from_lem, owner_many, rule_here}

-- ---- lists

-- the one at an index, those before it and those behind
pub record Split {A : Type 0} (xs : List A) (i : ℕ) : Type 0 where
  pub before : List A
  pub one : A
  pub behind : List A
  pub all : xs ≡ before ++ (one ∷ behind)
  pub place : i ≡ length before

pub split_at : {A : Type 0} (xs : List A) (i : ℕ) → i < length xs → Split xs i
split_at [] i h = absurd (not-suc-le-zero h)
split_at (x ∷ xs) zero h = record { before = []; one = x; behind = xs; all = refl; place = refl }
split_at (x ∷ xs) (suc i) h =
    let s : Split xs i = split_at xs i (le_of_suc-le-suc h) in
    record {
      before = x ∷ s.before;
      one = s.one;
      behind = s.behind;
      all = ap (λ (ys : List _). x ∷ ys) s.all;
      place = ap suc s.place;
    }

module _ {A : Type 0} (xs : List A) (i : ℕ) (s : Split xs i) where
  pub drop_to : drop i xs ≡ s.one ∷ s.behind
  drop_to = ap (drop i) s.all ∙ drop_at s.before (s.one ∷ s.behind) i (sym s.place)

  pub drop_past : drop (i + 1) xs ≡ s.behind
  drop_past =
      let l : length (s.before ++ (s.one ∷ [])) ≡ length s.before + 1 = length-append s.before (s.one ∷ []) in
      let p : i ≡ length s.before = s.place in
      let e : length (s.before ++ (s.one ∷ [])) ≡ i + 1 = omega arith in
      ap (drop (i + 1)) (s.all ∙ sym (append_assoc s.before (s.one ∷ []) s.behind))
      ∙ drop_at (s.before ++ (s.one ∷ [])) s.behind (i + 1) e

pub empty_list : {A : Type 0} (xs : List A) → length xs ≤ 0 → xs ≡ []
empty_list [] h = refl
empty_list (x ∷ xs) h = absurd (not-suc-le-zero h)

pub record Front {A : Type 0} (xs : List A) : Type 0 where
  pub one : A
  pub others : List A
  pub all : xs ≡ one ∷ others

pub front_of : {A : Type 0} (xs : List A) → 0 < length xs → Front xs
front_of [] h = absurd (not-suc-le-zero h)
front_of (x ∷ xs) h = record { one = x; others = xs; all = refl }

-- ---- what is left

abbrev step_finding : Document → Model → Step → Finding
step_finding d m s = record { rule = step_rule d m s; line = s.line }

-- steps of a model, and the models behind it
abbrev rest : Document → Model → List Step → List Model → List Finding
rest d m below behind = map (step_finding d m) below ++ model_findings d behind

-- a word of 1 or 0 tells it
mult_back : (b : Bool) → eqb (mult_word b) 1 ≡ b
mult_back true = refl
mult_back false = refl

pub mult_told : (stage : List ℕ) (index : ℕ) (step : StagedStep) → step ≡ staged_step_at stage (staged_step_width * index) → eqb step.mult 1 ≡ mult_at stage index
unfolding mult_at
mult_told stage index step e = ap (λ (s : StagedStep). eqb s.mult 1) e

-- ---- the steps of a model

pub record StepsLeft (t table : List ℕ) (v : View) (marks : List ℕ) (index : ℕ) (o : Owner) (count i : ℕ) : Type 0 where
  pub split : Split (document_of t).models index
  pub owns : Owns (document_of t) o split.one
  pub from_is : o.from ≡ length (joined (λ (x : Model). x.steps) split.before)
  pub count_is : count ≡ length split.one.steps
  pub room : o.from + count ≤ count_of v steps
  pub above : List Step
  pub below : List Step
  pub all_steps : split.one.steps ≡ above ++ below
  pub place : i ≡ length above
  pub marked : MarkedEnds t marks o.stamp (range o.from i (records_of table).steps)
  pub same :
      first_in (rest (document_of t) split.one below split.behind) ≡ first_in (below_first (document_of t) (drop index (document_of t).models))

module _ (t table : List ℕ) (filled : HoldsText t table) (v : View) (is_view : Some v ≡ view_of table) where
  abbrev doc : Document
  doc = document_of t

  records_are : records_of table ≡ flatten doc
  records_are = text_records t table filled

  module _ (index : ℕ) (there : index < length (document_of t).models) where
    pub model_here : Split (document_of t).models index
    model_here = split_at (document_of t).models index there

    in_count : length model_here.before < count_of v models
    in_count = rw (many_models t table filled v is_view, ← model_here.place) there

    pub room_there : ModelRoom table v index
    room_there =
        subst (ModelRoom table v) (sym model_here.place)
        (room_here t table filled v is_view model_here.before model_here.one model_here.behind model_here.all in_count)

    owns_there : Owns doc (owner_at (records_of table) index) model_here.one
    owns_there =
        subst (λ (k : ℕ). Owns doc (owner_at (records_of table) k) model_here.one) (sym model_here.place)
        (rw records_are (owns_here doc model_here.before model_here.one model_here.behind model_here.all))

    from_there : (owner_at (records_of table) index).from ≡ length (joined (λ (x : Model). x.steps) model_here.before)
    from_there =
        subst (λ (k : ℕ). (owner_at (records_of table) k).from ≡ length (joined (λ (x : Model). x.steps) model_here.before)) (sym model_here.place)
        (rw records_are (owner_from_lem doc model_here.before model_here.one model_here.behind model_here.all))

    many_there : (owner_at (records_of table) index).many ≡ length model_here.one.steps
    many_there =
        subst (λ (k : ℕ). (owner_at (records_of table) k).many ≡ length model_here.one.steps) (sym model_here.place)
        (rw records_are (owner_many doc model_here.before model_here.one model_here.behind model_here.all))

    room_within : (owner_at (records_of table) index).from + (owner_at (records_of table) index).many ≤ count_of v steps
    unfolding owner_at
    room_within = room_there.inside

    pub rule_there : (listed : List Bool) → Listed (document_of t) listed → model_rule_at t table v listed index ≡ model_rule (document_of t) model_here.one
    rule_there listed names =
        subst (λ (k : ℕ). model_rule_at t table v listed k ≡ model_rule (document_of t) model_here.one) (sym model_here.place)
        (rule_here t table filled v is_view model_here.before model_here.one model_here.behind model_here.all in_count listed names)

    below_there : below_first (document_of t) (drop index (document_of t).models) ≡ rest (document_of t) model_here.one model_here.one.steps model_here.behind
    unfolding below_first step_findings
    below_there = ap (below_first (document_of t)) (drop_to (document_of t).models index model_here)

    first_left : (marks : List ℕ) → length marks ≡ marks_many →
        StepsLeft t table v marks index (owner_at (records_of table) index) (owner_at (records_of table) index).many 0
    first_left marks whole =
        record {
          split = model_here;
          owns = owns_there;
          from_is = from_there;
          count_is = many_there;
          room = room_within;
          above = [];
          below = model_here.one.steps;
          all_steps = refl;
          place = refl;
          marked = marked_starts t marks _ whole;
          same = ap first_in (sym below_there);
        }

    pub steps_start : (marks : List ℕ) → length marks ≡ marks_many → (o : Owner) → o ≡ owner_at (records_of table) index → StepsLeft t table v marks index o o.many 0
    steps_start marks whole o is = rw is (first_left marks whole)

  module _ (marks : List ℕ) (index : ℕ) (o : Owner) (count i : ℕ) (left : StepsLeft t table v marks index o count i) where
    abbrev m : Model
    m = left.split.one

    abbrev behind : List Model
    behind = left.split.behind

    -- no step is left
    none_left : count ≤ i → left.below ≡ []
    none_left h =
        let l : length (left.above ++ left.below) ≡ length left.above + length left.below = length-append left.above left.below in
        let c : count ≡ length (left.above ++ left.below) = left.count_is ∙ ap length left.all_steps in
        let p : i ≡ length left.above = left.place in
        empty_list left.below (omega arith)

    pub steps_end : count ≤ i → StepsTold t index (record { rule = 0; line = 0 })
    steps_end h =
        let e : left.below ≡ [] = none_left h in
        let p : drop (index + 1) (document_of t).models ≡ behind = drop_past (document_of t).models index left.split in
        record {
          broken = λ (n : ◌≡◌ {A = ℕ} 0 0 → ⊥). absurd (n refl);
          kept = λ (z : ◌≡◌ {A = ℕ} 0 0). rw p (rw e at left.same);
        }

    module _ (h : i < count) where
      pub place_fits : Fits w64 (o.from + i)
      place_fits = omega (arith, left.room, (text_rooms t table filled v is_view).few_steps)

      front : Front left.below
      front =
          let l : length (left.above ++ left.below) ≡ length left.above + length left.below = length-append left.above left.below in
          let c : count ≡ length (left.above ++ left.below) = left.count_is ∙ ap length left.all_steps in
          let p : i ≡ length left.above = left.place in
          front_of left.below (omega arith)

      abbrev s : Step
      s = front.one

      steps_here : m.steps ≡ left.above ++ (s ∷ front.others)
      steps_here = left.all_steps ∙ ap (λ (ss : List Step). left.above ++ ss) front.all

      model_stands : ModelStands t m
      model_stands = each_at left.split.before behind m (rw left.split.all at (all_stand t).models)

      right : Each RightSection doc.sections
      right = text_sections t filled.counts filled.reads

      rest_here : rest (document_of t) m left.below behind ≡ step_finding (document_of t) m s ∷ rest (document_of t) m front.others behind
      rest_here = ap (λ (ss : List Step). rest (document_of t) m ss behind) front.all

      -- all steps of the text, this one among them
      steps_split : gather step_of (significant t)
          ≡ (joined (λ (x : Model). x.steps) left.split.before ++ left.above) ++ (s ∷ (front.others ++ joined (λ (x : Model). x.steps) behind))
      unfolding joined
      steps_split =
          let pre : List Step = joined (λ (x : Model). x.steps) left.split.before in
          let post : List Step = joined (λ (x : Model). x.steps) behind in
          sym (steps_of_text t)
          ∙ ap (joined (λ (x : Model). x.steps)) left.split.all
          ∙ joined_append (λ (x : Model). x.steps) left.split.before (m ∷ behind)
          ∙ ap (λ (ss : List Step). pre ++ (ss ++ post)) steps_here
          ∙ ap (λ (ss : List Step). pre ++ ss) (append_assoc left.above (s ∷ front.others) post)
          ∙ sym (append_assoc pre left.above (s ∷ (front.others ++ post)))

      index_is : o.from + i ≡ length (joined (λ (x : Model). x.steps) left.split.before ++ left.above)
      index_is =
          let pre : List Step = joined (λ (x : Model). x.steps) left.split.before in
          let l : length (pre ++ left.above) ≡ length pre + length left.above = length-append pre left.above in
          let p : i ≡ length left.above = left.place in
          let f : o.from ≡ length pre = left.from_is in
          omega arith

      module _ (stage : List ℕ) (staged : StepsStaged t stage) where
        pub staged_inside : staged_step_width * (o.from + i) + staged_step_width ≤ length stage
        staged_inside =
            let n : o.from + count ≤ count_of v steps = left.room in
            let k : count_of v steps ≤ most_steps = (text_rooms t table filled v is_view).few_steps in
            let r : staged_step_width * most_steps ≤ length stage = staged.room in
            omega arith

        mult_is : mult_at stage (o.from + i) ≡ s.mult
        unfolding mult_at staged_step
        mult_is =
            ap (λ (k : ℕ). eqb (staged_step_at stage (staged_step_width * k)).mult 1) index_is
            ∙ ap (λ (x : StagedStep). eqb x.mult 1)
            (step_staged_lem t filled.counts filled.reads stage staged (joined (λ (x : Model). x.steps) left.split.before ++ left.above)
            (front.others ++ joined (λ (x : Model). x.steps) behind) s steps_split)
            ∙ mult_back s.mult

      -- the record of the step
      module _ (own : StepRecord) (is_own : own ≡ get_or (records_of table).steps (o.from + i) no_step) where
        own_is : own ≡ step_record doc.maps doc.sections s
        own_is =
            is_own
            ∙ (λ j. get_or (records_are j).steps (o.from + left.place j) no_step)
            ∙ record_here t doc right (in_order t) left.split.before behind m left.split.all model_stands.steps o left.owns
            left.above front.others s steps_here

        line_is : own.line ≡ s.line
        unfolding step_record
        line_is = ap (λ (x : StepRecord). x.line) own_is

        pub below_here : Below t table v marks o own i
        below_here = record { inside = omega (arith, left.room); here = is_own; marked = left.marked }

        module _ (stage : List ℕ) (staged : StepsStaged t stage) (mult : Bool) (told : mult ≡ mult_at stage (o.from + i)) (after : List ℕ) (rule : ℕ)
            (judged : Judged t table after o i (step_rule_at t (records_of table) o own i mult) rule) where
          rule_is : rule ≡ step_rule doc m s
          rule_is =
              judged.told
              ∙ (λ j. step_rule_at t (records_are j) o (own_is j) (left.place j) mult)
              ∙ step_is t doc right (in_order t) left.split.before behind m left.split.all model_stands.steps o left.owns
              left.above front.others s steps_here mult (λ (k : s.kind ≡ section_kind). told ∙ mult_is stage staged)

          same_here : first_in (step_finding (document_of t) m s ∷ rest (document_of t) m front.others behind) ≡ first_in (below_first (document_of t) (drop index (document_of t).models))
          same_here = ap first_in (sym rest_here) ∙ left.same

          pub step_breaks : (rule ≡ 0 → ⊥) → StepsTold t index (record { rule = rule; line = own.line })
          step_breaks n =
              let f : record { rule = rule; line = own.line } ≡ step_finding (document_of t) m s =
              λ j. record { rule = rule_is j; line = line_is j } in
              record {
                broken = λ (k : rule ≡ 0 → ⊥). f ∙ sym (first_here _ _ (λ (z : step_rule (document_of t) m s ≡ 0). n (rule_is ∙ z))) ∙ same_here;
                kept = λ (z : rule ≡ 0). absurd (n z);
              }

          pub steps_on : rule ≡ 0 → StepsLeft t table v after index o count (i + 1)
          steps_on z =
              let l : length (left.above ++ (s ∷ [])) ≡ length left.above + 1 = length-append left.above (s ∷ []) in
              let p : i ≡ length left.above = left.place in
              record {
                split = left.split;
                owns = left.owns;
                from_is = left.from_is;
                count_is = left.count_is;
                room = left.room;
                above = left.above ++ (s ∷ []);
                below = front.others;
                all_steps = steps_here ∙ sym (append_assoc left.above (s ∷ []) front.others);
                place = omega arith;
                marked = judged.marked z;
                same = sym (first_later _ _ (sym rule_is ∙ z)) ∙ same_here;
              }
