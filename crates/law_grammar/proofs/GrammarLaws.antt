-- A path's lines are accepted exactly when each is right in itself, there is room for their steps, and together they are
-- a path of the grammar. Between the two stands `Reads`: the sayings of the lines lead from a stand to behind the last end.
-- Assumes nothing.
use Prim.Native.Nat.{ℕ, zero, suc, ◌+◌, ◌≤◌, ◌<◌}
use mathlib.Core.Path.{◌≡◌, refl, ◌∙◌, ap}
use mathlib.Core.Bool.{Bool, true, false, not}
use mathlib.Core.List.{List, [], ◌∷◌, ◌++◌, append_assoc}
use native.Mathlib.Omega.{arith}
use lib.ListN.{length}
use lib.Dec.{eqb}
use borrow.Author.Tests.{eqb-true, eqb-false}
use Rattle.table_layout.specs.Bounds.{deepest, most_steps}
use Rattle.base.specs.If.{either}
use Rattle.base.proofs.IfLaws.{if_true, if_false, by_cases, by_test}
use Rattle.lex_line.specs.Words.{words, first_of}
use Rattle.line_path.specs.Path.{
  says_nothing,
  says_end,
  says_side,
  says_section,
  says_fork,
  says_endfork,
  new_path,
  saying_of,
  plain_line,
  names_one,
  is_section_line,
  section_line,
  line_saying,
  path_line_of,
  is_step_line,
  path_next,
}
use Rattle.line_path.specs.declared.PathLine.{PathLine}
use Rattle.law_grammar.specs.Way.Grammar.{IsEnd, MayBeEnd, AreItems, IsPath}
use Rattle.law_grammar.specs.Way.Accepted.{steps_after, Accepts, sayings, steps_in, IsRight, AreRight, lines_of, ArePath}
use Rattle.law_grammar.proofs.StandLaws.{Stand, path_at, Moves, Taken, taken, next_at_lem, holds, new_stand, done_closes, IsDone, closes_done}
use Rattle.law_grammar.proofs.StandLaws.Stand.{fresh, begun, among, ended, done}

-- the sayings lead from a stand to behind the last end
pub data Reads : Stand → List ℕ → Type 0 where
  over : {side : Bool} → Reads (done side) []
  on : {s t : Stand} {says : ℕ} {later : List ℕ} → Moves s says t → Reads t later → Reads s (says ∷ later)

-- ---- from the grammar to the reading

end_reads : {end later : List ℕ} {depth : ℕ} → MayBeEnd end → Reads (among depth) later → Reads (among (suc depth)) (end ++ (says_endfork ∷ later))
end_reads MayBeEnd.without r = on Moves.endfork r
end_reads (MayBeEnd.one IsEnd.alone) r = on Moves.block_end (on Moves.block_endfork r)
end_reads (MayBeEnd.one IsEnd.sided) r = on Moves.block_end (on Moves.block_side (on Moves.block_endfork r))

last_reads : {end : List ℕ} → IsEnd end → Reads (among 0) end
last_reads IsEnd.alone = on Moves.last_end over
last_reads IsEnd.sided = on Moves.last_end (on Moves.last_side over)

first_reads : {end later : List ℕ} → IsEnd end → Reads (among 0) later → Reads fresh (end ++ (says_section ∷ later))
first_reads IsEnd.alone r = on Moves.first_end_lem (on Moves.first_section r)
first_reads IsEnd.sided r = on Moves.first_end_lem (on Moves.first_side (on Moves.first_section r))

-- items whose blocks may be nested `deep` deep, at a depth that leaves so much
items_read :
    {deep : ℕ} {items : List ℕ} → AreItems deep items → (depth : ℕ) → depth + deep ≡ deepest → {later : List ℕ} →
    Reads (among depth) later → Reads (among depth) (items ++ later)
items_read AreItems.none depth h r = r
items_read (AreItems.section i) depth h r = on Moves.section (items_read i depth h r)
items_read (AreItems.block {deep} {inside} {end} {later = rest} i e j) depth h {later} r =
    let behind : Reads (among depth) (rest ++ later) = items_read j depth h r in
    let inner : Reads (among (suc depth)) (inside ++ (end ++ (says_endfork ∷ (rest ++ later)))) =
    items_read i (suc depth) (omega arith) (end_reads e behind) in
    let same : (inside ++ (end ++ (says_endfork ∷ rest))) ++ later ≡ inside ++ (end ++ (says_endfork ∷ (rest ++ later))) =
    append_assoc inside (end ++ (says_endfork ∷ rest)) later ∙ ap (λ (x : List ℕ). inside ++ x) (append_assoc end (says_endfork ∷ rest) later) in
    let below : depth < deepest = omega arith in
    let whole : Reads (among (suc depth)) ((inside ++ (end ++ (says_endfork ∷ rest))) ++ later) = rw same inner in
    on (Moves.fork below) whole

pub path_reads : {path : List ℕ} → IsPath path → Reads fresh path
path_reads (IsPath.path first items last) = first_reads first (items_read items 0 (omega arith) (last_reads last))

-- ---- from the reading to the grammar

-- what stands from among the items of a depth on, where blocks may be nested `deep` deeper: the items, and the end that
-- closes the path, or what closes the block and what stands behind it
data Remains : ℕ → ℕ → List ℕ → Type 0 where
  last : {deep : ℕ} {items end : List ℕ} → AreItems deep items → IsEnd end → Remains deep 0 (items ++ end)
  closing :
      {deep depth : ℕ} {items end later : List ℕ} → AreItems deep items → MayBeEnd end → Remains (suc deep) depth later →
      Remains deep (suc depth) (items ++ (end ++ (says_endfork ∷ later)))

-- a Section in front
section_more : {deep depth : ℕ} {later : List ℕ} → Remains deep depth later → Remains deep depth (says_section ∷ later)
section_more (Remains.last i e) = Remains.last (AreItems.section i) e
section_more (Remains.closing i e r) = Remains.closing (AreItems.section i) e r

-- a block in front
block_more :
    {deep depth : ℕ} {inside end later : List ℕ} → AreItems deep inside → MayBeEnd end → Remains (suc deep) depth later →
    Remains (suc deep) depth (says_fork ∷ (inside ++ (end ++ (says_endfork ∷ later))))
block_more {inside} {end} i e (Remains.last {items} {end = final} j f) =
    let same : (inside ++ (end ++ (says_endfork ∷ items))) ++ final ≡ inside ++ (end ++ (says_endfork ∷ (items ++ final))) =
    append_assoc inside (end ++ (says_endfork ∷ items)) final ∙ ap (λ (x : List ℕ). inside ++ x) (append_assoc end (says_endfork ∷ items) final) in
    rw (← same) (Remains.last (AreItems.block i e j) f)
block_more {inside} {end} i e (Remains.closing {items} {end = final} {later} j f r) =
    let tail : List ℕ = final ++ (says_endfork ∷ later) in
    let same : (inside ++ (end ++ (says_endfork ∷ items))) ++ tail ≡ inside ++ (end ++ (says_endfork ∷ (items ++ tail))) =
    append_assoc inside (end ++ (says_endfork ∷ items)) tail ∙ ap (λ (x : List ℕ). inside ++ x) (append_assoc end (says_endfork ∷ items) tail) in
    rw (← same) (Remains.closing (AreItems.block i e j) f r)

fork_more : {deep depth : ℕ} {later : List ℕ} → Remains deep (suc depth) later → Remains (suc deep) depth (says_fork ∷ later)
fork_more (Remains.closing i e r) = block_more i e r

remains : {later : List ℕ} (depth deep : ℕ) → depth + deep ≡ deepest → Reads (among depth) later → Remains deep depth later
remains depth deep h (on Moves.section r) = section_more (remains depth deep h r)
remains depth zero h (on (Moves.fork g) r) = absurd (omega arith)
remains depth (suc deep) h (on (Moves.fork g) r) = fork_more (remains (suc depth) deep (omega arith) r)
remains (suc depth) deep h (on Moves.endfork r) = Remains.closing AreItems.none MayBeEnd.without (remains depth (suc deep) (omega arith) r)
remains (suc depth) deep h (on Moves.block_end (on Moves.block_endfork r)) =
    Remains.closing AreItems.none (MayBeEnd.one IsEnd.alone) (remains depth (suc deep) (omega arith) r)
remains (suc depth) deep h (on Moves.block_end (on Moves.block_side (on Moves.block_endfork r))) =
    Remains.closing AreItems.none (MayBeEnd.one IsEnd.sided) (remains depth (suc deep) (omega arith) r)
remains zero deep h (on Moves.last_end over) = Remains.last AreItems.none IsEnd.alone
remains zero deep h (on Moves.last_end (on Moves.last_side over)) = Remains.last AreItems.none IsEnd.sided
remains zero deep h (on Rattle.law_grammar.proofs.StandLaws.last_end (on Rattle.law_grammar.proofs.StandLaws.last_side (on {t = t} {says = says} {later = later} x25 r))) = elim x25 [ ]

reads_path : {path : List ℕ} → Reads fresh path → IsPath path
reads_path (on Moves.first_end_lem (on Moves.first_section r)) = told (remains 0 deepest (omega arith) r)
  where
    told : {later : List ℕ} → Remains deepest 0 later → IsPath (says_end ∷ says_section ∷ later)
    told (Remains.last i e) = IsPath.path IsEnd.alone i e
reads_path (on Moves.first_end_lem (on Moves.first_side (on Moves.first_section r))) = told (remains 0 deepest (omega arith) r)
  where
    told : {later : List ℕ} → Remains deepest 0 later → IsPath (says_end ∷ says_side ∷ says_section ∷ later)
    told (Remains.last i e) = IsPath.path IsEnd.sided i e

-- ---- lines and their sayings

over_when : {s : Stand} → IsDone s → Reads s []
over_when IsDone.is_done = over

accepts_reads : (ls : List PathLine) (s : Stand) (steps : ℕ) → Accepts (path_at s) steps ls → Reads s (sayings ls)
unfolding sayings
accepts_reads [] s steps (Accepts.closes shut whole) = over_when (closes_done s whole)
accepts_reads (l ∷ ls) s steps (Accepts.reads kept a) =
    let t : Taken s l steps = taken s l steps kept in
    on t.leads.moves (accepts_reads ls t.leads.to (steps_after l steps) (rw t.leads.next at a))

-- a Side has no amount, so none that is wrong
abbrev Plain : PathLine → Type 0
Plain l = l.says ≡ says_side → (l.formed ≡ true) × (l.bounded ≡ true)

plain_line_lem : (says : ℕ) (right : Bool) → Plain (plain_line says right)
unfolding plain_line
plain_line_lem says right e = (refl, refl)

section_line_lem : (content : List ℕ) → Plain (section_line content)
unfolding section_line plain_line
section_line_lem content =
    by_test Plain (is_section_line content) _ _ (λ (b : is_section_line content ≡ true) (e : says_section ≡ says_side). absurd (omega arith))
    (λ (b : is_section_line content ≡ false) (e : says_section ≡ says_side). absurd (omega arith))

saying_line : (says : ℕ) (content : List ℕ) → Plain (line_saying says content)
unfolding line_saying
saying_line says content =
    by_test Plain (eqb says says_section) _ _ (λ (b : eqb says says_section ≡ true). section_line_lem content)
    (λ (b : eqb says says_section ≡ false).
    by_test Plain (either (eqb says says_fork) (eqb says says_endfork)) _ _
    (λ (c : either (eqb says says_fork) (eqb says says_endfork) ≡ true). plain_line_lem says (eqb (length (words content)) 1))
    (λ (c : either (eqb says says_fork) (eqb says says_endfork) ≡ false).
    by_test Plain (either (eqb says says_end) (eqb says says_side)) _ _
    (λ (d : either (eqb says says_end) (eqb says says_side) ≡ true). plain_line_lem says (names_one (words content)))
    (λ (d : either (eqb says says_end) (eqb says says_side) ≡ false). plain_line_lem says_nothing true)))

content_line : (content : List ℕ) → Plain (path_line_of content)
unfolding path_line_of
content_line content = saying_line (saying_of (first_of (words content))) content

taken_right : (s : Stand) (l : PathLine) (steps : ℕ) → Plain l → Taken s l steps → IsRight l
taken_right s l steps plain t =
    by_cases (IsRight l) (eqb l.says says_side)
    (λ (e : eqb l.says says_side ≡ true).
    let amount : (l.formed ≡ true) × (l.bounded ≡ true) = plain (eqb-true _ _ e) in
    record { right = t.right; formed = amount.0; bounded = amount.1 })
    (λ (e : eqb l.says says_side ≡ false).
    let amount : (l.formed ≡ true) × (l.bounded ≡ true) = t.amount (eqb-false _ _ e) in
    record { right = t.right; formed = amount.0; bounded = amount.1 })

accepts_right : (contents : List (List ℕ)) (s : Stand) (steps : ℕ) → Accepts (path_at s) steps (lines_of contents) → AreRight (lines_of contents)
unfolding lines_of
accepts_right [] s steps a = AreRight.none
accepts_right (content ∷ contents) s steps (Accepts.reads kept a) =
    let t : Taken s (path_line_of content) steps = taken s (path_line_of content) steps kept in
    AreRight.more (taken_right s (path_line_of content) steps (content_line content) t)
    (accepts_right contents t.leads.to (steps_after (path_line_of content) steps) (rw t.leads.next at a))

-- ---- the count of steps

module _ (l : PathLine) (ls : List PathLine) where
  steps_more : is_step_line l ≡ true → steps_in (l ∷ ls) ≡ suc (steps_in ls)
  unfolding steps_in
  steps_more e = if_true _ _ e

  steps_same : is_step_line l ≡ false → steps_in (l ∷ ls) ≡ steps_in ls
  unfolding steps_in
  steps_same e = if_false _ _ e

  after_more : (steps : ℕ) → is_step_line l ≡ true → steps_after l steps ≡ steps + 1
  unfolding steps_after
  after_more steps e = if_true _ _ e

  after_same : (steps : ℕ) → is_step_line l ≡ false → steps_after l steps ≡ steps
  unfolding steps_after
  after_same steps e = if_false _ _ e

  -- what is counted before and behind a line, and what the line counts
  after_steps_lem : (steps : ℕ) → steps_after l steps + steps_in ls ≡ steps + steps_in (l ∷ ls)
  after_steps_lem steps =
      by_cases _ (is_step_line l)
      (λ (e : is_step_line l ≡ true).
      let a : steps_after l steps ≡ steps + 1 = after_more steps e in
      let b : steps_in (l ∷ ls) ≡ suc (steps_in ls) = steps_more e in
      omega arith)
      (λ (e : is_step_line l ≡ false).
      let a : steps_after l steps ≡ steps = after_same steps e in
      let b : steps_in (l ∷ ls) ≡ steps_in ls = steps_same e in
      omega arith)

  step_room : (steps : ℕ) → steps + steps_in (l ∷ ls) ≤ most_steps → is_step_line l ≡ true → steps < most_steps
  step_room steps h e =
      let more : steps_in (l ∷ ls) ≡ suc (steps_in ls) = steps_more e in
      omega arith

  -- the last line that is a step
  last_room :
      (steps : ℕ) → steps_in ls ≡ 0 → 0 < steps_in (l ∷ ls) → (is_step_line l ≡ true → steps < most_steps) →
      steps + steps_in (l ∷ ls) ≤ most_steps
  last_room steps none h room =
      by_cases _ (is_step_line l)
      (λ (e : is_step_line l ≡ true).
      let a : steps_in (l ∷ ls) ≡ suc (steps_in ls) = steps_more e in
      let b : steps < most_steps = room e in
      omega arith)
      (λ (e : is_step_line l ≡ false).
      let a : steps_in (l ∷ ls) ≡ steps_in ls = steps_same e in
      absurd (omega arith))

accepts_room : (ls : List PathLine) (s : Stand) (steps : ℕ) → Accepts (path_at s) steps ls → 0 < steps_in ls → steps + steps_in ls ≤ most_steps
unfolding steps_in
accepts_room [] s steps a h = absurd (omega arith)
accepts_room (l ∷ ls) s steps (Accepts.reads kept a) h =
    let t : Taken s l steps = taken s l steps kept in
    let all : steps_after l steps + steps_in ls ≡ steps + steps_in (l ∷ ls) = after_steps_lem l ls steps in
    by_cases _ (eqb (steps_in ls) 0)
    (λ (e : eqb (steps_in ls) 0 ≡ true). let z : steps_in ls ≡ 0 = eqb-true (steps_in ls) 0 e in last_room l ls steps z h t.room)
    (λ (e : eqb (steps_in ls) 0 ≡ false).
    let z : steps_in ls ≡ 0 → ⊥ = eqb-false (steps_in ls) 0 e in
    let ih : steps_after l steps + steps_in ls ≤ most_steps =
    accepts_room ls t.leads.to (steps_after l steps) (rw t.leads.next at a) (omega arith) in
    omega arith)

fresh_says : {says : ℕ} {t : Stand} → Moves fresh says t → says ≡ says_end
fresh_says Moves.first_end_lem = refl

-- a path has a step
reads_steps : (ls : List PathLine) → Reads fresh (sayings ls) → 0 < steps_in ls
unfolding sayings is_step_line
reads_steps (l ∷ ls) (on m r) =
    let e : l.says ≡ says_end = fresh_says m in
    let b : is_step_line l ≡ true = ap (λ (says : ℕ). not (eqb says says_side)) e in
    let more : steps_in (l ∷ ls) ≡ suc (steps_in ls) = steps_more l ls b in
    omega arith
reads_steps [] r = elim r [ ]

-- ---- and back

reads_accepts : (ls : List PathLine) (s : Stand) (steps : ℕ) → Reads s (sayings ls) → AreRight ls → steps + steps_in ls ≤ most_steps → Accepts (path_at s) steps ls
unfolding sayings
reads_accepts [] (done side) steps over right room = Accepts.closes (done_closes side).0 (done_closes side).1
reads_accepts (l ∷ ls) s steps (on {t} m r) (AreRight.more here later) room =
    let all : steps_after l steps + steps_in ls ≡ steps + steps_in (l ∷ ls) = after_steps_lem l ls steps in
    let a : Accepts (path_at t) (steps_after l steps) ls = reads_accepts ls t (steps_after l steps) r later (omega arith) in
    let b : Accepts (path_next l (path_at s)) (steps_after l steps) ls = rw (next_at_lem l m) a in
    Accepts.reads (holds l steps here (step_room l ls steps room) s m) b
reads_accepts [] fresh steps r right room = elim r [ ]
reads_accepts [] (begun _) steps r right room = elim r [ ]
reads_accepts [] (among _) steps r right room = elim r [ ]
reads_accepts [] (ended _ _) steps r right room = elim r [ ]

-- ---- the law

-- of any lines, also of such as no text writes: what accepted lines say is a path
pub accepts_path : (steps : ℕ) (ls : List PathLine) → Accepts new_path steps ls → IsPath (sayings ls)
accepts_path steps ls a = reads_path (accepts_reads ls fresh steps (rw new_stand at a))

-- lines that are right in themselves, have room and say a path are accepted
pub path_accepts : (steps : ℕ) (ls : List PathLine) → IsPath (sayings ls) → AreRight ls → steps + steps_in ls ≤ most_steps → Accepts new_path steps ls
path_accepts steps ls p right room = rw new_stand (reads_accepts ls fresh steps (path_reads p) right room)

-- of the lines of a text: those that are accepted are a path
pub path_read : (steps : ℕ) (contents : List (List ℕ)) → Accepts new_path steps (lines_of contents) → ArePath steps contents
path_read steps contents a =
    let start : Accepts (path_at fresh) steps (lines_of contents) = rw new_stand at a in
    let reads : Reads fresh (sayings (lines_of contents)) = accepts_reads (lines_of contents) fresh steps start in
    record {
      right = accepts_right contents fresh steps start;
      grammar = accepts_path steps (lines_of contents) a;
      room = accepts_room (lines_of contents) fresh steps start (reads_steps (lines_of contents) reads);
    }

-- those of a path are accepted
pub read_path_lem : (steps : ℕ) (contents : List (List ℕ)) → ArePath steps contents → Accepts new_path steps (lines_of contents)
read_path_lem steps contents p = path_accepts steps (lines_of contents) p.grammar p.right p.room
