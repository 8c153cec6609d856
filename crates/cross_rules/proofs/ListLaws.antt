-- The model list comes first: if a text breaks no rule of the reading, every name of [ICM Model List] is above every
-- model; in any text it is above every section. So only a line of a pin map can break a rule before a list line does.
-- Assumes nothing.
use mathlib.Core.Path.{◌≡◌, refl, sym, ◌∙◌, ap}
use mathlib.Core.Bool.{Bool, true, false, true≢false}
use mathlib.Core.List.{List, [], ◌∷◌, ◌++◌, map}
use Prim.Native.Nat.{ℕ, ◌+◌, ◌≤◌, ◌<◌}
use native.Mathlib.Nat.{le_refl, le_trans, le_of_lt}
use native.Mathlib.Omega.{arith}
use lib.ListN.{get_or, set}
use lib.Seq.{get_or-set_other}
use lib.Dec.{eqb}
use borrow.Author.Tests.{ne_eqb, eqb-true, eqb-false, not-false}
use Rattle.base.specs.If.{provided◌then◌else◌, either}
use Rattle.base.specs.Runs.{same}
use Rattle.base.specs.Bytes.{bytes}
use Rattle.base.proofs.IfLaws.{
  if_true,
  if_false,
  by_test,
  by_cases,
  both_true,
  both_first,
  both_second,
  both_not_left,
  both_not_right,
  either_none_first,
  either_none_second,
}
use Rattle.lex_line.specs.Words.{words, first_of}
use Rattle.lex_keyword.specs.Names.{
  the_end,
  icm_ver,
  end_header,
  icm_pin_map,
  begin_header,
  manufacturer,
  end_icm_model,
  icm_model_list,
  end_icm_family,
  begin_icm_model,
  end_icm_section,
  begin_icm_family,
  derivation_method,
  resistance_matrix,
  inductance_matrix,
  begin_icm_section,
  conductance_matrix,
  capacitance_matrix,
  tree_path_description,
  icm_model_description,
  icm_family_description,
}
use Rattle.line_place.specs.Place.{
  opens_header_text,
  stands_in_header,
  leads_in_header,
  leads_in_family,
  leads_in_model,
  opens_matrix,
  leads_in_section,
  is_row_or_bandwidth,
  leads_in_matrix,
  leads_after_family,
  is_in_header,
  is_in_family,
  is_in_model,
  moved,
  moved_by_line,
}
use Rattle.line_place.specs.Place as place
use Rattle.line_keyword.specs.Keywords.{is_seen, is_once, is_repeated, is_lacking, is_misplaced, seen_after, keyword_next}
use Rattle.line_keyword.specs.declared.State.{State}
use Rattle.line_keyword.specs.declared.Counts.{Counts}
use Rattle.line_keyword.specs.Way.Rule.{keyword_rule}
use Rattle.read_line.specs.Reading.{line_next, reading_of}
use Rattle.read_line.specs.declared.Reading.TheVariants.{Read}
use Rattle.read_line.proofs.OutsideLaws.{keyword_placed}
use Rattle.doc.specs.Lines.{Line, plain, key_at, place_after, key_of, argument_of, significant, stands_in, gather}
use Rattle.doc.specs.Document.{
  Named,
  Model,
  Section,
  Document,
  opens_model,
  model_at,
  listed_at,
  opens_section,
  section_at,
  document_in,
  document_of,
}
use Rattle.doc.specs.Holds.{Each}
use Rattle.doc.specs.Holds.Each.{none as Each_none, more as each_more}
use Rattle.doc.proofs.Goes.{Moves, idle, plainly, keyed, Goes, none, more, idle_outside, text_ends}
use Rattle.doc.proofs.LeadLaws.{by_place, by_content}
use Rattle.doc.proofs.BlockLaws.{Follow, text_follows}
use Rattle.doc.proofs.BlockLaws.Follow.{none as empty, more as next}
use Rattle.doc.proofs.StandsLaws.{each_append, each_if}
use Rattle.doc.proofs.GatherLaws.{gather_more, gather_none}
use Rattle.cross_rules.specs.Rules.{earlier, no_finding, cross_rule}
use Rattle.cross_rules.specs.Way.Findings.{model_rule, sgr_rule, section_rule, list_findings, step_findings, model_findings, sgr_findings, map_findings, section_findings}
use Rattle.cross_rules.specs.Way.First.{first_in}
use Rattle.cross_rules.specs.declared.Finding.{Finding}
use Rattle.cross_rules.proofs.RisingLaws.{Rising, Gives, each_by, all_least, numbers, gather_rising}
use Rattle.cross_rules.proofs.RisingLaws.Rising.{rise}
use Rattle.cross_rules.proofs.OrderLaws.{line_or_none, sgr_line, finding_lines, model_own, section_own, lines_rise, Ordered, in_order}
use Rattle.cross_rules.proofs.KindLaws.{
  earlier_first,
  earlier_one,
  earlier_breaks,
  earlier_line,
  earlier_assoc,
  first_here,
  first_later,
  first_low,
  kinds_of,
}

-- ---- the places

-- only [ICM Model List] leads into the list
module _ (k : ℕ) (other : k ≡ icm_model_list → ⊥) where
  abbrev Off : ℕ → Type 0
  Off q = eqb q place.list ≡ false

  choose : (b : Bool) (x y : ℕ) → Off x → Off y → Off (provided b then x else y)
  choose b x y h e = by_test Off b x y (λ (t : b ≡ true). h) (λ (t : b ≡ false). e)

  section_off : Off (leads_in_section k)
  unfolding leads_in_section
  section_off = choose (opens_matrix k) _ _ refl (choose (eqb k end_icm_section) _ _ refl refl)

  matrix_off : Off (leads_in_matrix k)
  unfolding leads_in_matrix
  matrix_off = choose (is_row_or_bandwidth k) _ _ refl section_off

  model_off : Off (leads_in_model k)
  unfolding leads_in_model
  model_off =
      choose (eqb k tree_path_description) _ _ refl
      (choose (eqb k icm_model_description) _ _ refl (choose (eqb k end_icm_model) _ _ refl refl))

  family_off : Off (leads_in_family k)
  unfolding leads_in_family
  family_off =
      choose (eqb k icm_pin_map) _ _ refl
      (choose (eqb k begin_icm_model) _ _ refl
      (choose (eqb k end_icm_family) _ _ refl
      (choose (eqb k manufacturer) _ _ refl
      (by_test Off (eqb k icm_model_list) _ _ (λ (e : eqb k icm_model_list ≡ true). absurd (other (eqb-true _ _ e)))
      (λ (e : eqb k icm_model_list ≡ false). choose (eqb k icm_family_description) _ _ refl refl)))))

  header_off : Off (leads_in_header k)
  unfolding leads_in_header
  header_off =
      choose (stands_in_header k) _ _ refl (choose (opens_header_text k) _ _ refl (choose (eqb k end_header) _ _ refl refl))

  after_off : Off (leads_after_family k)
  unfolding leads_after_family
  after_off = choose (eqb k begin_icm_section) _ _ refl (choose (eqb k the_end) _ _ refl refl)

  moved_off : (p : ℕ) → Off (moved p k)
  unfolding is_in_family
  moved_off p =
      by_place Off p k
      (record {
        matrix = λ e. matrix_off;
        model = λ e. model_off;
        family = λ e. family_off;
        header = λ e. header_off;
        section = λ e. section_off;
        after = λ e. after_off;
        opened = λ e. choose (eqb k icm_ver) _ _ refl refl;
        between = λ e. choose (eqb k begin_icm_family) _ _ refl refl;
        section_head = λ e. choose (eqb k derivation_method) _ _ refl refl;
        before = λ e. choose (eqb k begin_header) _ _ refl refl;
        elsewhere = λ e. either_none_first _ _ (either_none_second _ _ (either_none_second _ _ e.family));
      })

-- ---- what the state remembers of the list

-- [ICM Model List] has been read
abbrev ListRead : State → Type 0
ListRead s = is_seen icm_model_list s ≡ true

list_once : is_once icm_model_list ≡ true
unfolding is_once stands_in_header opens_header_text opens_matrix either
list_once = refl

read_other : (k : ℕ) (argument : List ℕ) (s : State) → keyword_rule k argument s ≡ 0 → ListRead s → k ≡ icm_model_list → ⊥
unfolding is_misplaced is_repeated
read_other k argument s kept read e =
    let repeated : is_repeated k s ≡ false =
    either_none_first _ _ (either_none_second _ _ (either_none_second _ _ (keyword_placed k argument s kept))) in
    let once : is_once k ≡ true = rw e list_once in
    let again : is_seen k s ≡ true = rw e read in
    true≢false (sym (both_true _ _ once again) ∙ repeated)

record Has (seen : List Bool) : Type 0 where
  listed : get_or seen icm_model_list false ≡ true

still : (seen : List Bool) (k : ℕ) (b : Bool) → (icm_model_list ≡ k → ⊥) → Has seen → Has (set seen k b)
still seen k b n h = record { listed = get_or-set_other seen k icm_model_list b false n ∙ h.listed }

has_next : (k : ℕ) (seen : List Bool) → (k ≡ icm_model_list → ⊥) → Has seen → Has (seen_after k seen)
unfolding seen_after
has_next k seen other h =
    by_test Has (is_row_or_bandwidth k) _ _ (λ (g : is_row_or_bandwidth k ≡ true). h)
    (λ (g : is_row_or_bandwidth k ≡ false).
    by_test Has (eqb k begin_icm_model) _ _
    (λ (e : eqb k begin_icm_model ≡ true).
    still _ icm_model_description false (λ (z : icm_model_list ≡ icm_model_description). omega arith)
    (still seen tree_path_description false (λ (z : icm_model_list ≡ tree_path_description). omega arith) h))
    (λ (e : eqb k begin_icm_model ≡ false).
    by_test Has (eqb k begin_icm_section) _ _
    (λ (f : eqb k begin_icm_section ≡ true).
    still _ capacitance_matrix false (λ (z : icm_model_list ≡ capacitance_matrix). omega arith)
    (still _ conductance_matrix false (λ (z : icm_model_list ≡ conductance_matrix). omega arith)
    (still _ inductance_matrix false (λ (z : icm_model_list ≡ inductance_matrix). omega arith)
    (still seen resistance_matrix false (λ (z : icm_model_list ≡ resistance_matrix). omega arith) h))))
    (λ (f : eqb k begin_icm_section ≡ false). still seen k true (λ (z : icm_model_list ≡ k). other (sym z)) h)))

read_kept : (k : ℕ) (argument : List ℕ) (s : State) → (k ≡ icm_model_list → ⊥) → ListRead s → ListRead (keyword_next k argument s)
unfolding is_seen keyword_next
read_kept k argument s other read = (has_next k s.seen other (record { listed = read })).listed

-- ---- after the list is closed, no line is a list line

-- the list has been read, and it is closed
record Closed (s : State) : Type 0 where
  read : ListRead s
  left : eqb s.place place.list ≡ false

line_off : (p : ℕ) (first : List ℕ) → eqb p place.list ≡ false → eqb (moved_by_line p first) place.list ≡ false
unfolding moved_by_line
line_off p first h =
    by_test (λ (q : ℕ). eqb q place.list ≡ false) (eqb p place.map_head) _ _
    (λ (e : eqb p place.map_head ≡ true).
    by_test (λ (q : ℕ). eqb q place.list ≡ false) (same first (bytes "Pin_list")) _ _ (λ f. refl) (λ f. refl))
    (λ (e : eqb p place.map_head ≡ false). h)

closed_line : (content : List ℕ) (s : State) → Closed s → Closed (line_next content s)
unfolding line_next is_seen
closed_line content s c = record { read = c.read; left = line_off s.place (first_of (words content)) c.left }

next_left : (k : ℕ) (argument : List ℕ) (s : State) → (k ≡ icm_model_list → ⊥) → eqb (keyword_next k argument s).place place.list ≡ false
unfolding keyword_next
next_left k argument s other = moved_off k other s.place

closed_keyword : (k : ℕ) (argument : List ℕ) (s : State) → keyword_rule k argument s ≡ 0 → ListRead s → Closed (keyword_next k argument s)
closed_keyword k argument s kept read =
    let other : k ≡ icm_model_list → ⊥ = read_other k argument s kept read in
    record { read = read_kept k argument s other read; left = next_left k argument s other }

closed_moves : {l : Line} {s s' : State} → Moves l s s' → Closed s → Closed s'
closed_moves (idle i) c = c
closed_moves {l} {s} (plainly k h) c = closed_line l.content s c
closed_moves {l} {s} (keyed k h) c = closed_keyword (key_of l) (argument_of l).text s h c.read

unlisted : (l : Line) (ls : List Line) → eqb l.place place.list ≡ false → listed_at l ls ≡ []
unfolding listed_at stands_in
unlisted l ls h = if_false _ _ (both_not_left _ _ h)

none_listed : {s e : State} {ls : List Line} → Goes s ls e → Closed s → gather listed_at ls ≡ []
none_listed none c = gather_none listed_at
none_listed (more {l = l} {ls = ls} p b m g) c =
    gather_more listed_at l ls
    ∙ (λ i. unlisted l ls (ap (λ (q : ℕ). eqb q place.list) p ∙ c.left) i ++ none_listed g (closed_moves m c) i)

-- ---- at a model: the list has been read

module _ (k : ℕ) (argument : List ℕ) (s : State) (kept : keyword_rule k argument s ≡ 0) where
  not_lacking : is_lacking k s ≡ false
  unfolding is_misplaced
  not_lacking = either_none_first _ _ (either_none_second _ _ (either_none_second _ _ (either_none_second _ _ (keyword_placed k argument s kept))))

  model_read : k ≡ begin_icm_model → ListRead s
  unfolding is_lacking provided◌then◌else◌
  model_read e = not-false _ (rw e at not_lacking)

model_closes : {l : Line} {s s' : State} → l.place ≡ s.place → Moves l s s' → opens_model l ≡ true → Closed s'
unfolding opens_model is_in_family either
model_closes {l} {s} p (idle i) o = absurd (true≢false (sym (both_first _ _ o) ∙ idle_outside is_in_family refl refl l s p i))
model_closes {l} p (plainly k h) o =
    let z : plain ≡ begin_icm_model = sym k ∙ eqb-true _ _ (both_second _ _ o) in
    absurd (omega arith)
model_closes {l} {s} p (keyed k h) o =
    closed_keyword (key_of l) (argument_of l).text s h (model_read (key_of l) (argument_of l).text s h (eqb-true _ _ (both_second _ _ o)))

-- ---- at a section: the family is closed

-- a place after the family; no line leads back from it
data Late : ℕ → Type 0 where
  after : Late place.after
  head : Late place.section_head
  section : Late place.section
  matrix : Late place.matrix
  done : Late place.done
  dead : Late place.dead

late_off : {p : ℕ} → Late p → eqb p place.list ≡ false
late_off after = refl
late_off head = refl
late_off section = refl
late_off matrix = refl
late_off done = refl
late_off dead = refl

late_map : {p : ℕ} → Late p → p ≡ place.map_head → ⊥
late_map after e = omega (arith, e)
late_map head e = omega (arith, e)
late_map section e = omega (arith, e)
late_map matrix e = omega (arith, e)
late_map done e = omega (arith, e)
late_map dead e = omega (arith, e)

one_of : (b : Bool) (x y : ℕ) → Late x → Late y → Late (provided b then x else y)
one_of b x y h k = by_test Late b x y (λ (e : b ≡ true). h) (λ (e : b ≡ false). k)

module _ (k : ℕ) where
  late_section : Late (leads_in_section k)
  unfolding leads_in_section
  late_section = one_of (opens_matrix k) _ _ matrix (one_of (eqb k end_icm_section) _ _ after dead)

  late_matrix : Late (leads_in_matrix k)
  unfolding leads_in_matrix
  late_matrix = one_of (is_row_or_bandwidth k) _ _ matrix late_section

  late_family : Late (leads_after_family k)
  unfolding leads_after_family
  late_family = one_of (eqb k begin_icm_section) _ _ head (one_of (eqb k the_end) _ _ done dead)

  late_head : Late (provided eqb k derivation_method then place.section else place.dead)
  late_head = one_of (eqb k derivation_method) _ _ section dead

  late_moved : {p : ℕ} → Late p → Late (moved p k)
  unfolding moved is_in_model is_in_family is_in_header either provided◌then◌else◌
  late_moved after = late_family
  late_moved head = late_head
  late_moved section = late_section
  late_moved matrix = late_matrix
  late_moved done = done
  late_moved dead = dead

late_content : {p : ℕ} (content : List ℕ) → Late p → Late (place_after p content)
late_content {p} content h =
    by_content Late p content (λ (e : key_at content ≡ plain). (λ (f : p ≡ place.map_head). absurd (late_map h f), h))
    (λ (n : eqb (key_at content) plain ≡ false). late_moved (key_at content) h)

late_listed : {p : ℕ} {ls : List Line} → Follow p ls → Late p → gather listed_at ls ≡ []
late_listed empty h = gather_none listed_at
late_listed (next {l = l} {ls = ls} e follow) h =
    gather_more listed_at l ls
    ∙ (λ i. unlisted l ls (ap (λ (q : ℕ). eqb q place.list) e ∙ late_off h) i ++ late_listed follow (late_content l.content h) i)

-- ---- a kind of record that comes after the list

-- after the first line that gives a record of the kind, there is no list line
data Parted {A : Type 0} (here : Line → List Line → List A) : List Line → Type 0 where
  past : {ls : List Line} → gather listed_at ls ≡ [] → Parted here ls
  silent : {l : Line} {ls : List Line} → here l ls ≡ [] → Parted here ls → Parted here (l ∷ ls)

-- the opening line of a model is not a list line
model_unlisted : (l : Line) (ls : List Line) → opens_model l ≡ true → listed_at l ls ≡ []
unfolding opens_model listed_at stands_in
model_unlisted l ls o =
    if_false _ _
    (both_not_right _ _
    (ne_eqb _ _
    (λ (e : key_of l ≡ plain). let z : plain ≡ begin_icm_model = sym e ∙ eqb-true _ _ (both_second _ _ o) in omega arith)))

goes_parted : {s e : State} {ls : List Line} → Goes s ls e → Parted model_at ls
unfolding model_at
goes_parted none = past (gather_none listed_at)
goes_parted (more {l = l} {ls = ls} p b m g) =
    by_cases (Parted model_at (l ∷ ls)) (opens_model l)
    (λ (o : opens_model l ≡ true).
    past (gather_more listed_at l ls ∙ (λ i. model_unlisted l ls o i ++ none_listed g (model_closes p m o) i)))
    (λ (o : opens_model l ≡ false). silent (if_false _ _ o) (goes_parted g))

follow_parted : {p : ℕ} {ls : List Line} → Follow p ls → Parted section_at ls
unfolding section_at opens_section
follow_parted empty = past (gather_none listed_at)
follow_parted (next {l = l} {ls = ls} e follow) =
    by_cases (Parted section_at (l ∷ ls)) (opens_section l)
    (λ (o : opens_section l ≡ true).
    past (late_listed (next e follow) (rw (sym e ∙ eqb-true _ _ (both_first _ _ o)) after)))
    (λ (o : opens_section l ≡ false). silent (if_false _ _ o) (follow_parted follow))

module _ {A : Type 0} (line : A → ℕ) (here : Line → List Line → List A)
    (own : (l : Line) (after : List Line) → Gives l.line [] (map line (here l after))) where
  abbrev Below : List A → Named → Type 0
  Below xs n = Each (λ (a : A). n.line < line a) xs

  name_above : (l : Line) (ls : List Line) → Rising (l.line + 1) (numbers ls) → Each (Below (gather here ls)) (listed_at l ls)
  unfolding listed_at
  name_above l ls rest =
      each_if (stands_in place.list l) _
      (λ (e : stands_in place.list l ≡ true).
      each_by (λ (a : A) (k : l.line + 1 ≤ line a). omega arith)
      (all_least line (gather here ls) (gather_rising line here own ls rest)))

  below_list :
      {least : ℕ} (ls : List Line) → Rising least (numbers ls) → Parted here ls → Each (Below (gather here ls)) (gather listed_at ls)
  below_list ls h (past e) = rw e Each_none
  below_list {least = least} (_ ∷ _) (rise h rest) (silent {l = l} {ls = ls} e parted) =
      rw (gather_more listed_at l ls, gather_more here l ls, e) (each_append (name_above l ls rest) (below_list {least = l.line + 1} ls rest parted))

-- ---- the list of a text

pub models_below :
    (t : List ℕ) (c : Counts) → reading_of t ≡ Read c →
    Each (λ (n : Named). Each (λ (m : Model). n.line < m.line) (document_of t).models) (document_of t).listed
unfolding document_of document_in
models_below t c h =
    below_list (λ (m : Model). m.line) model_at model_own (significant t) (lines_rise t) (goes_parted (text_ends t c h).goes)

-- holds for a refused text too
pub sections_below :
    (t : List ℕ) → Each (λ (n : Named). Each (λ (s : Section). n.line < s.line) (document_of t).sections) (document_of t).listed
unfolding document_of document_in
sections_below t =
    below_list (λ (s : Section). s.line) section_at section_own (significant t) (lines_rise t) (follow_parted (text_follows t))

-- ---- a list line that breaks a rule comes first

-- what holds for the line of every finding holds for the line of the first one that breaks a rule
first_holds :
    {A : Type 0} (finding : A → Finding) (P : ℕ → Type 0) {xs : List A} → Each (λ (x : A). P (finding x).line) xs →
    ((first_in (map finding xs)).rule ≡ 0 → ⊥) → P (first_in (map finding xs)).line
unfolding first_in no_finding
first_holds finding P Each_none n = absurd (n refl)
first_holds finding P (each_more {x = x} {xs = xs} h hs) n =
    by_cases _ (eqb (finding x).rule 0)
    (λ (e : eqb (finding x).rule 0 ≡ true).
    let l : first_in (map finding (x ∷ xs)) ≡ first_in (map finding xs) = first_later (finding x) (map finding xs) (eqb-true _ _ e) in
    rw l (first_holds finding P hs (rw l at n)))
    (λ (e : eqb (finding x).rule 0 ≡ false). rw (first_here (finding x) (map finding xs) (eqb-false _ _ e)) h)

-- where lines rise, the first finding that breaks a rule is not before the first finding
above_low :
    {least : ℕ} (f : Finding) (fs : List Finding) → Rising least (finding_lines (f ∷ fs)) → ((first_in (f ∷ fs)).rule ≡ 0 → ⊥) →
    f.line ≤ (first_in (f ∷ fs)).line
above_low f fs (rise h rest) n = first_low (f ∷ fs) (rise (le_refl f.line) rest) n

least_of_lem : {least n : ℕ} {ns : List ℕ} → Rising least (n ∷ ns) → least ≤ n
least_of_lem (rise h rest) = h

module _ (d : Document) where
  models_low :
      (line : ℕ) {least : ℕ} {ms : List Model} → Each (λ (m : Model). line < m.line) ms →
      Rising least (finding_lines (model_findings d ms)) → ((first_in (model_findings d ms)).rule ≡ 0 → ⊥) →
      line < (first_in (model_findings d ms)).line
  unfolding model_findings first_in no_finding
  models_low line Each_none r n = absurd (n refl)
  models_low line (each_more {x = m} {xs = ms} h hs) r n =
      le_trans h (above_low (record { rule = model_rule d m; line = m.line }) (step_findings d m ++ model_findings d ms) r n)

  -- an SGR line stands below its model's
  sgrs_low :
      (line : ℕ) {ms : List Model} → Each (λ (m : Model). line < m.line) ms → Each (λ (m : Model). Rising (m.line + 1) (sgr_line m)) ms →
      ((first_in (sgr_findings ms)).rule ≡ 0 → ⊥) → line < (first_in (sgr_findings ms)).line
  unfolding sgr_findings line_or_none first_in no_finding
  sgrs_low line Each_none Each_none n = absurd (n refl)
  sgrs_low line (each_more {x = m} {xs = ms} h hs) (each_more k ks) n =
      by_cases _ (eqb m.sgr 0)
      (λ (e : eqb m.sgr 0 ≡ true).
      let l : first_in (sgr_findings (m ∷ ms)) ≡ first_in (sgr_findings ms) = ap first_in (if_true _ _ e) in
      rw l (sgrs_low line hs ks (rw l at n)))
      (λ (e : eqb m.sgr 0 ≡ false).
      let own : Finding = record { rule = sgr_rule m; line = m.sgr } in
      let l : first_in (sgr_findings (m ∷ ms)) ≡ first_in (own ∷ sgr_findings ms) = ap first_in (if_false _ _ e) in
      by_cases _ (eqb (sgr_rule m) 0)
      (λ (f : eqb (sgr_rule m) 0 ≡ true).
      let p : first_in (sgr_findings (m ∷ ms)) ≡ first_in (sgr_findings ms) = l ∙ first_later own (sgr_findings ms) (eqb-true _ _ f) in
      rw p (sgrs_low line hs ks (rw p at n)))
      (λ (f : eqb (sgr_rule m) 0 ≡ false).
      let p : first_in (sgr_findings (m ∷ ms)) ≡ own = l ∙ first_here own (sgr_findings ms) (eqb-false _ _ f) in
      let r : Rising (m.line + 1) (m.sgr ∷ []) = rw (if_false {A = List ℕ} [] (m.sgr ∷ []) e) at k in
      let q : m.line + 1 ≤ m.sgr = least_of_lem r in
      rw p (omega arith)))

  sections_low :
      (line i : ℕ) {least : ℕ} {ss : List Section} → Each (λ (s : Section). line < s.line) ss →
      Rising least (finding_lines (section_findings d i ss)) → ((first_in (section_findings d i ss)).rule ≡ 0 → ⊥) →
      line < (first_in (section_findings d i ss)).line
  unfolding section_findings first_in no_finding
  sections_low line i Each_none r n = absurd (n refl)
  sections_low line i (each_more {x = s} {xs = ss} h hs) r n =
      le_trans h (above_low (record { rule = section_rule d i s; line = s.line }) (section_findings d (i + 1) ss) r n)

-- findings below one that breaks a rule do not matter
module _ (first second third fourth : Finding) (n : first.rule ≡ 0 → ⊥) where
  passed_by_lem :
      ((second.rule ≡ 0 → ⊥) → first.line < second.line) → ((fourth.rule ≡ 0 → ⊥) → first.line < fourth.line) →
      earlier first (earlier second (earlier third fourth)) ≡ earlier first third
  passed_by_lem h k =
      sym (earlier_assoc first second (earlier third fourth))
      ∙ ap (λ (f : Finding). earlier f (earlier third fourth)) (earlier_first first second n (λ m. le_of_lt (h m)))
      ∙ sym (earlier_assoc first third fourth)
      ∙ earlier_first (earlier first third) fourth (earlier_breaks first third n)
      (λ m. le_trans (earlier_line first third n) (le_of_lt (k m)))

module _ (d : Document) (o : Ordered d) (n : (first_in (list_findings d)).rule ≡ 0 → ⊥) where
  first_below : {A : Type 0} (line : A → ℕ) (xs : List A) → Each (λ (m : Named). Each (λ (x : A). m.line < line x) xs) d.listed →
      Each (λ (x : A). (first_in (list_findings d)).line < line x) xs
  unfolding list_findings
  first_below line xs h = first_holds _ (λ (k : ℕ). Each (λ (x : _). k < line x) xs) h n

  first_of_list :
      Each (λ (m : Named). Each (λ (x : Model). m.line < x.line) d.models) d.listed →
      Each (λ (m : Named). Each (λ (x : Section). m.line < x.line) d.sections) d.listed →
      cross_rule d ≡ earlier (first_in (list_findings d)) (first_in (map_findings d d.maps))
  first_of_list h k =
      let below : Each (λ (m : Model). (first_in (list_findings d)).line < m.line) d.models = first_below (λ (m : Model). m.line) d.models h in
      let models : Finding = first_in (model_findings d d.models) in
      let sgrs : Finding = first_in (sgr_findings d.models) in
      kinds_of d o
      ∙ ap (earlier (first_in (list_findings d))) (sym (earlier_assoc models sgrs _))
      ∙ passed_by_lem (first_in (list_findings d)) (earlier models sgrs) (first_in (map_findings d d.maps))
      (first_in (section_findings d 0 d.sections)) n
      (earlier_one (λ (f : Finding). (f.rule ≡ 0 → ⊥) → (first_in (list_findings d)).line < f.line) models sgrs
      (models_low d (first_in (list_findings d)).line below o.in_models) (sgrs_low d (first_in (list_findings d)).line below o.sgrs))
      (sections_low d (first_in (list_findings d)).line 0 (first_below (λ (s : Section). s.line) d.sections k) o.in_sections)

pub list_first :
    (t : List ℕ) (c : Counts) → reading_of t ≡ Read c → ((first_in (list_findings (document_of t))).rule ≡ 0 → ⊥) →
    cross_rule (document_of t) ≡ earlier (first_in (list_findings (document_of t))) (first_in (map_findings (document_of t) (document_of t).maps))
list_first t c h n = first_of_list (document_of t) (in_order t) n (models_below t c h) (sections_below t)
