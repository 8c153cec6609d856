-- "each once": no two matrices of a section are of one kind if the text breaks no rule of the reading, since a repeated keyword is refused.
-- Assumes nothing.
use Prim.Native.Nat.{ℕ, zero, suc, ◌<◌}
use mathlib.Core.Path.{◌≡◌, refl, sym, ◌∙◌, ap, subst}
use mathlib.Core.Bool.{Bool, true, false, true≢false}
use mathlib.Core.List.{List, [], ◌∷◌, ◌++◌}
use native.Mathlib.Omega.{arith}
use lib.ListN.{length, get_or, set, length-set}
use lib.Seq.{get_or-set_same}
use lib.Dec.{eqb}
use borrow.Author.Tests.{eqb-true, ne_eqb}
use Rattle.base.specs.If.{provided◌then◌else◌, either}
use Rattle.base.proofs.IfLaws.{if_true, if_false, by_test, by_cases, both_rest, either_left, either_right, either_rest, either_none_first, either_none_second}
use Rattle.lex_keyword.specs.Names.{
  resistance_matrix,
  inductance_matrix,
  conductance_matrix,
  capacitance_matrix,
  begin_icm_model,
  begin_icm_section,
  tree_path_description,
  icm_model_description,
}
use Rattle.line_place.specs.Place.{opens_matrix, is_row_or_bandwidth, moved, dead, is_in_model, is_in_family, is_in_header}
use Rattle.line_place.specs.Place as place
use Rattle.line_keyword.specs.State.{start_state, none_seen}
use Rattle.line_keyword.specs.Keywords.{is_seen, is_once, is_repeated, is_misplaced, seen_after, keyword_next}
use Rattle.line_keyword.specs.declared.Counts.{Counts}
use Rattle.line_keyword.specs.declared.State.{State}
use Rattle.line_keyword.proofs.InsideLaws.{opens_closes}
use Rattle.line_keyword.specs.Way.Rule.{keyword_rule}
use Rattle.read_line.specs.Reading.{line_next, reading_of}
use Rattle.read_line.specs.declared.Reading.TheVariants.{Read}
use Rattle.doc.specs.Lines.{Line, key_of, argument_of, gather, up_to}
use Rattle.doc.specs.Document.{
  Matrix,
  Section,
  kind_of,
  matrix_of,
  matrix_at,
  opens_matrix_at,
  in_matrix,
  in_section,
  opens_section,
  section_of,
  section_at,
  document_in,
  document_of,
}
use Rattle.doc.specs.Holds.{Each}
use Rattle.doc.proofs.Goes.{Moves, Goes, text_ends, idle_outside}
use Rattle.doc.proofs.Goes.Moves.{idle, plainly, keyed}
use Rattle.doc.proofs.BodyLaws.{keyword_misplaced, keyword_leads}
use Rattle.doc.proofs.SpanLaws.{matrices_skip, matrices_open, plain_opens, opening_key}
use Rattle.doc.proofs.GatherLaws.{gather_more, gather_none, up_in, up_none, up_out}
use Rattle.cross_rules.proofs.RisingLaws.{each_by, each_at}
use Rattle.law_alike.specs.Alike.{form_at}
use Rattle.doc.proofs.SectionLaws.{section_matrices, section_open, section_skip}

-- ---- lists of matrices

-- no matrix has the kind of one before it
pub data Once : List Matrix → Type 0 where
  none : Once []
  more : {m : Matrix} {ms : List Matrix} → Each (λ (n : Matrix). n.kind ≡ m.kind → ⊥) ms → Once ms → Once (m ∷ ms)

-- the matrices before one of a kind have other kinds
pub once_above :
    (above below : List Matrix) (m : Matrix) (kind : ℕ) → m.kind ≡ kind → Once (above ++ (m ∷ below)) →
    Each (λ (a : Matrix). a.kind ≡ kind → ⊥) above
once_above [] below m kind same o = Each.none
once_above (a ∷ above) below m kind same (Once.more h o) =
    Each.more (λ (e : a.kind ≡ kind). each_at above below m h (same ∙ sym e)) (once_above above below m kind same o)

-- ---- the four kinds

by_kind :
    (P : ℕ → Type 0) → P resistance_matrix → P inductance_matrix → P conductance_matrix → P capacitance_matrix → (k : ℕ) →
    opens_matrix k ≡ true → P k
unfolding opens_matrix
by_kind P r l g c k e =
    by_cases (P k) (eqb k resistance_matrix)
    (λ (a : eqb k resistance_matrix ≡ true). subst P (sym (eqb-true k resistance_matrix a)) r)
    (λ (a : eqb k resistance_matrix ≡ false).
    by_cases (P k) (eqb k inductance_matrix)
    (λ (b : eqb k inductance_matrix ≡ true). subst P (sym (eqb-true k inductance_matrix b)) l)
    (λ (b : eqb k inductance_matrix ≡ false).
    by_cases (P k) (eqb k conductance_matrix)
    (λ (d : eqb k conductance_matrix ≡ true). subst P (sym (eqb-true k conductance_matrix d)) g)
    (λ (d : eqb k conductance_matrix ≡ false).
    let f : eqb k capacitance_matrix ≡ true = sym (either_rest _ _ a ∙ either_rest _ _ b ∙ either_rest _ _ d) ∙ e in
    subst P (sym (eqb-true k capacitance_matrix f)) c)))

-- the keyword of a kind
unfoldable key_for : ℕ → ℕ
key_for kind =
    provided eqb kind 0 then resistance_matrix else
    provided eqb kind 1 then inductance_matrix else
    provided eqb kind 2 then conductance_matrix else capacitance_matrix

key_back : (k : ℕ) → opens_matrix k ≡ true → key_for (kind_of k) ≡ k
unfolding key_for kind_of provided◌then◌else◌
key_back k e = by_kind (λ (n : ℕ). key_for (kind_of n) ≡ n) refl refl refl refl k e

key_known : (k : ℕ) → opens_matrix k ≡ true → k < 40
key_known k e = by_kind (λ (n : ℕ). n < 40) (omega arith) (omega arith) (omega arith) (omega arith) k e

-- ---- keywords that have been read

-- none of the matrices has a kind whose keyword has been read
record Fresh (seen : List Bool) (ms : List Matrix) : Type 0 where
  once : Once ms
  unseen : Each (λ (m : Matrix). (k : ℕ) → opens_matrix k ≡ true → get_or seen k false ≡ true → m.kind ≡ kind_of k → ⊥) ms

fresh_none : (seen : List Bool) → Fresh seen []
fresh_none seen = record { once = Once.none; unseen = Each.none }

-- the same if fewer keywords have been read
fresh_less :
    (seen later : List Bool) (ms : List Matrix) → ((k : ℕ) → get_or seen k false ≡ true → get_or later k false ≡ true) → Fresh later ms →
    Fresh seen ms
fresh_less seen later ms h f =
    record {
      once = f.once;
      unseen =
          each_by
          (λ (m : Matrix) (u : (k : ℕ) → opens_matrix k ≡ true → get_or later k false ≡ true → m.kind ≡ kind_of k → ⊥) (k : ℕ)
          (o : opens_matrix k ≡ true) (e : get_or seen k false ≡ true). u k o (h k e))
          f.unseen;
    }

still_seen : (seen : List Bool) (k j : ℕ) → get_or seen j false ≡ true → get_or (set seen k true) j false ≡ true
still_seen [] k j h = h
still_seen (b ∷ seen) zero zero h = refl
still_seen (b ∷ seen) zero (suc j) h = h
still_seen (b ∷ seen) (suc k) zero h = h
still_seen (b ∷ seen) (suc k) (suc j) h = still_seen seen k j h

-- a keyword that opens a matrix, and has not been read
module _ (seen : List Bool) (k : ℕ) (opens : opens_matrix k ≡ true) (long : length seen ≡ 40) (fresh : get_or seen k false ≡ false) where
  fresh_open : (m : Matrix) (ms : List Matrix) → m.kind ≡ kind_of k → Fresh (set seen k true) ms → Fresh seen (m ∷ ms)
  fresh_open m ms same f =
      let few : k < 40 = key_known k opens in
      let inside : k < length seen = omega arith in
      let rest : Fresh seen ms = fresh_less seen (set seen k true) ms (still_seen seen k) f in
      record {
        once =
            Once.more
            (each_by
            (λ (n : Matrix) (u : (j : ℕ) → opens_matrix j ≡ true → get_or (set seen k true) j false ≡ true → n.kind ≡ kind_of j → ⊥)
            (e : n.kind ≡ m.kind). u k opens (get_or-set_same seen k true false inside) (e ∙ same))
            f.unseen)
            f.once;
        unseen =
            Each.more
            (λ (j : ℕ) (o : opens_matrix j ≡ true) (e : get_or seen j false ≡ true) (g : m.kind ≡ kind_of j).
            let z : j ≡ k = sym (key_back j o) ∙ ap key_for (sym g ∙ same) ∙ key_back k opens in
            true≢false (sym e ∙ ap (λ (n : ℕ). get_or seen n false) z ∙ fresh))
            rest.unseen;
      }

-- ---- one line

module _ (k : ℕ) (argument : List ℕ) (s : State) where
  -- [Row] and [Bandwidth] are not recorded as read
  seen_kept : is_row_or_bandwidth k ≡ true → (keyword_next k argument s).seen ≡ s.seen
  unfolding keyword_next seen_after
  seen_kept e = if_true _ _ e

  seen_set :
      is_row_or_bandwidth k ≡ false → eqb k begin_icm_model ≡ false → eqb k begin_icm_section ≡ false →
      (keyword_next k argument s).seen ≡ set s.seen k true
  unfolding keyword_next seen_after
  seen_set e a b = if_false _ _ e ∙ if_false _ _ a ∙ if_false _ _ b

  seen_long : length (keyword_next k argument s).seen ≡ length s.seen
  unfolding keyword_next seen_after
  seen_long =
      by_test (λ (l : List Bool). length l ≡ length s.seen) (is_row_or_bandwidth k) _ _ (λ (g : is_row_or_bandwidth k ≡ true). refl)
      (λ (g : is_row_or_bandwidth k ≡ false).
      by_test (λ (l : List Bool). length l ≡ length s.seen) (eqb k begin_icm_model) _ _
      (λ (e : eqb k begin_icm_model ≡ true).
      length-set (set s.seen tree_path_description false) icm_model_description false ∙ length-set s.seen tree_path_description false)
      (λ (e : eqb k begin_icm_model ≡ false).
      by_test (λ (l : List Bool). length l ≡ length s.seen) (eqb k begin_icm_section) _ _
      (λ (f : eqb k begin_icm_section ≡ true).
      length-set (set (set (set s.seen resistance_matrix false) inductance_matrix false) conductance_matrix false) capacitance_matrix false
      ∙ length-set (set (set s.seen resistance_matrix false) inductance_matrix false) conductance_matrix false
      ∙ length-set (set s.seen resistance_matrix false) inductance_matrix false
      ∙ length-set s.seen resistance_matrix false)
      (λ (f : eqb k begin_icm_section ≡ false). length-set s.seen k true)))

  -- "repeated": a keyword that opens a matrix has not been read before
  not_repeated : keyword_rule k argument s ≡ 0 → opens_matrix k ≡ true → get_or s.seen k false ≡ false
  unfolding is_misplaced is_repeated is_once is_seen
  not_repeated kept opens =
      sym (both_rest _ _ (either_right _ _ (either_right _ _ (either_left _ _ opens))))
      ∙ either_none_first _ _ (either_none_second _ _ (either_none_second _ _ (keyword_misplaced k argument s kept)))

plain_seen : (content : List ℕ) (s : State) → (line_next content s).seen ≡ s.seen
unfolding line_next
plain_seen content s = refl

moves_long : (l : Line) (s s' : State) → Moves l s s' → length s.seen ≡ 40 → length s'.seen ≡ 40
moves_long l s s' (idle i) h = h
moves_long l s s' (plainly k kept) h = ap length (plain_seen l.content s) ∙ h
moves_long l s s' (keyed k kept) h = seen_long (key_of l) (argument_of l).text s ∙ h

-- the places of a section
abbrev is_inside : ℕ → Bool
is_inside p = either (eqb p place.section_head) (either (eqb p place.section) (eqb p place.matrix))

-- no model and no section begins there
none_begins : (p : ℕ) → is_inside p ≡ true → (moved p begin_icm_model ≡ dead) × (moved p begin_icm_section ≡ dead)
unfolding moved is_in_model is_in_family is_in_header place.leads_in_matrix place.leads_in_section opens_matrix is_row_or_bandwidth either provided◌then◌else◌
none_begins p h =
    by_cases ((moved p begin_icm_model ≡ dead) × (moved p begin_icm_section ≡ dead)) (eqb p place.section_head)
    (λ (a : eqb p place.section_head ≡ true). at place.section_head (eqb-true _ _ a) (refl, refl))
    (λ (a : eqb p place.section_head ≡ false).
    by_cases ((moved p begin_icm_model ≡ dead) × (moved p begin_icm_section ≡ dead)) (eqb p place.section)
    (λ (b : eqb p place.section ≡ true). at place.section (eqb-true _ _ b) (refl, refl))
    (λ (b : eqb p place.section ≡ false).
    let c : eqb p place.matrix ≡ true = sym (either_rest _ _ a ∙ either_rest _ _ b) ∙ h in
    at place.matrix (eqb-true _ _ c) (refl, refl)))
  where
    at :
        (q : ℕ) → p ≡ q → (moved q begin_icm_model ≡ dead) × (moved q begin_icm_section ≡ dead) →
        (moved p begin_icm_model ≡ dead) × (moved p begin_icm_section ≡ dead)
    at q e w = subst (λ (n : ℕ). (moved n begin_icm_model ≡ dead) × (moved n begin_icm_section ≡ dead)) (sym e) w

module _ (l : Line) (ls : List Line) where
  inside_place : in_section l ≡ true → is_inside l.place ≡ true
  unfolding in_section
  inside_place i = i

  matrix_kind : (form : ℕ) (body : List Line) → (matrix_of l form body).kind ≡ kind_of (key_of l)
  unfolding matrix_of
  matrix_kind form body = refl

  matrices_pass :
      in_section l ≡ true → opens_matrix_at l ≡ false →
      gather matrix_at (up_to in_section (l ∷ ls)) ≡ gather matrix_at (up_to in_section ls)
  unfolding matrix_at
  matrices_pass i h =
      ap (gather matrix_at) (up_in in_section l ls i) ∙ gather_more matrix_at l (up_to in_section ls)
      ∙ ap (λ (xs : List Matrix). xs ++ gather matrix_at (up_to in_section ls)) (if_false _ _ h)

  module _ (s : State) (q : l.place ≡ s.place) (long : length s.seen ≡ 40) (i : in_section l ≡ true) where
    -- a keyword that does not break off the section
    module _ (kept : keyword_rule (key_of l) (argument_of l).text s ≡ 0) where
      inside_seen : is_row_or_bandwidth (key_of l) ≡ false → (keyword_next (key_of l) (argument_of l).text s).seen ≡ set s.seen (key_of l) true
      inside_seen other =
          let w : (moved s.place begin_icm_model ≡ dead) × (moved s.place begin_icm_section ≡ dead) =
          none_begins s.place (ap is_inside (sym q) ∙ inside_place i) in
          let leads : moved s.place (key_of l) ≡ dead → ⊥ = keyword_leads (key_of l) (argument_of l).text s kept in
          seen_set (key_of l) (argument_of l).text s other
          (ne_eqb _ _ (λ (e : key_of l ≡ begin_icm_model). leads (ap (moved s.place) e ∙ w.0)))
          (ne_eqb _ _ (λ (e : key_of l ≡ begin_icm_section). leads (ap (moved s.place) e ∙ w.1)))

      fresh_keyed :
          Fresh (set s.seen (key_of l) true) (gather matrix_at (up_to in_section ls)) →
          Fresh s.seen (gather matrix_at (up_to in_section (l ∷ ls)))
      fresh_keyed f =
          by_cases (Fresh s.seen (gather matrix_at (up_to in_section (l ∷ ls)))) (opens_matrix_at l)
          (λ (h : opens_matrix_at l ≡ true).
          rw (matrices_open l ls i h)
          (fresh_open s.seen (key_of l) (opening_key l h) long (not_repeated (key_of l) (argument_of l).text s kept (opening_key l h))
          (matrix_of l (form_at l) (up_to in_matrix ls)) (gather matrix_at (up_to in_section ls)) (matrix_kind (form_at l) (up_to in_matrix ls)) f))
          (λ (h : opens_matrix_at l ≡ false).
          rw (matrices_pass i h)
          (fresh_less s.seen (set s.seen (key_of l) true) (gather matrix_at (up_to in_section ls)) (still_seen s.seen (key_of l)) f))

      -- [Row] and [Bandwidth] open no matrix
      fresh_keeps :
          is_row_or_bandwidth (key_of l) ≡ true → Fresh s.seen (gather matrix_at (up_to in_section ls)) →
          Fresh s.seen (gather matrix_at (up_to in_section (l ∷ ls)))
      fresh_keeps keeps f =
          by_cases (Fresh s.seen (gather matrix_at (up_to in_section (l ∷ ls)))) (opens_matrix_at l)
          (λ (h : opens_matrix_at l ≡ true). absurd (true≢false (sym keeps ∙ opens_closes (key_of l) (opening_key l h))))
          (λ (h : opens_matrix_at l ≡ false). rw (matrices_pass i h) f)

      fresh_next :
          Fresh (keyword_next (key_of l) (argument_of l).text s).seen (gather matrix_at (up_to in_section ls)) →
          Fresh s.seen (gather matrix_at (up_to in_section (l ∷ ls)))
      fresh_next f =
          by_cases (Fresh s.seen (gather matrix_at (up_to in_section (l ∷ ls)))) (is_row_or_bandwidth (key_of l))
          (λ (e : is_row_or_bandwidth (key_of l) ≡ true). fresh_keeps e (rw (seen_kept (key_of l) (argument_of l).text s e) at f))
          (λ (e : is_row_or_bandwidth (key_of l) ≡ false). fresh_keyed (rw (inside_seen e) at f))

    fresh_inside :
        (s' : State) → Moves l s s' → Fresh s'.seen (gather matrix_at (up_to in_section ls)) →
        Fresh s.seen (gather matrix_at (up_to in_section (l ∷ ls)))
    unfolding either
    fresh_inside s' (idle d) f = absurd (true≢false (sym (inside_place i) ∙ idle_outside is_inside refl refl l s q d))
    fresh_inside s' (plainly k kept) f =
        let g : Fresh s.seen (gather matrix_at (up_to in_section ls)) = rw (plain_seen l.content s) at f in
        rw (matrices_skip l ls i (plain_opens l k)) g
    fresh_inside s' (keyed k kept) f = fresh_next kept f

  fresh_step :
      (s s' : State) → l.place ≡ s.place → Moves l s s' → length s.seen ≡ 40 →
      Fresh s'.seen (gather matrix_at (up_to in_section ls)) → Fresh s.seen (gather matrix_at (up_to in_section (l ∷ ls)))
  fresh_step s s' q mv long f =
      by_cases (Fresh s.seen (gather matrix_at (up_to in_section (l ∷ ls)))) (in_section l)
      (λ (i : in_section l ≡ true). fresh_inside s q long i s' mv f)
      (λ (i : in_section l ≡ false). rw (up_out in_section l ls i, gather_none matrix_at) (fresh_none s.seen))

-- ---- line by line

goes_fresh :
    {s e : State} {ls : List Line} → Goes s ls e → length s.seen ≡ 40 → Fresh s.seen (gather matrix_at (up_to in_section ls))
goes_fresh {s = s} Goes.none long = rw (up_none in_section, gather_none matrix_at) (fresh_none s.seen)
goes_fresh (Goes.more {s = s} {s' = s'} {l = l} {ls = ls} q blank mv g) long =
    fresh_step l ls s s' q mv long (goes_fresh g (moves_long l s s' mv long))

sections_step :
    (l : Line) (ls : List Line) → Once (gather matrix_at (up_to in_section ls)) →
    Each (λ (x : Section). Once x.matrices) (gather section_at ls) →
    Each (λ (x : Section). Once x.matrices) (gather section_at (l ∷ ls))
sections_step l ls inside later =
    by_cases (Each (λ (x : Section). Once x.matrices) (gather section_at (l ∷ ls))) (opens_section l)
    (λ (h : opens_section l ≡ true).
    let all : Once (section_of l (up_to in_section ls)).matrices = rw (section_matrices l (up_to in_section ls)) inside in
    rw (gather_more section_at l ls, section_open l ls h) (Each.more all later))
    (λ (h : opens_section l ≡ false). rw (gather_more section_at l ls, section_skip l ls h) later)

goes_once :
    {s e : State} {ls : List Line} → Goes s ls e → length s.seen ≡ 40 →
    Each (λ (x : Section). Once x.matrices) (gather section_at ls)
goes_once Goes.none long = rw (gather_none section_at) Each.none
goes_once (Goes.more {s = s} {s' = s'} {l = l} {ls = ls} q blank mv g) long =
    let after : length s'.seen ≡ 40 = moves_long l s s' mv long in
    sections_step l ls (goes_fresh g after).once (goes_once g after)

start_long : length start_state.seen ≡ 40
unfolding start_state none_seen
start_long = refl

-- for every section of a text that breaks no rule of the reading
pub text_once : (t : List ℕ) (c : Counts) → reading_of t ≡ Read c → Each (λ (x : Section). Once x.matrices) (document_of t).sections
unfolding document_of document_in
text_once t c h = goes_once (text_ends t c h).goes start_long
