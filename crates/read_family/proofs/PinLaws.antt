-- Laws of the lines of a pin list, read and staged: one line, and lines one after another.
-- Assumes nothing.
use mathlib.Core.Path.{◌≡◌, refl, sym, ◌∙◌, ap}
use mathlib.Core.Bool.{true, false, not, true≢false}
use mathlib.Core.List.{List, [], ◌∷◌, ◌++◌}
use Prim.Native.Nat.{ℕ, ◌+◌, ◌-◌, ◌*◌, ◌^◌, ◌≤◌, ◌<◌, min}
use native.Mathlib.Omega.{arith}
use lib.ListN.{length, take, drop, length-drop, length-take}
use borrow.Author.Tests.{eq-eqb, not-true}
use Rattle.base.proofs.IfLaws.{by_cases, if_true, both_true}
use Rattle.lex_line.specs.Lines.{is_blank_line, comment_byte}
use Rattle.lex_line.specs.Way.LineEnds.{line_at}
use Rattle.lex_line.specs.Words.{words_from}
use Rattle.lex_line.specs.declared.Line as text
use Rattle.lex_keyword.specs.Bracket.{bracket_of}
use Rattle.lex_keyword.specs.declared.Bracket.TheVariants.{Plain}
use Rattle.line_place.specs.Place as place
use Rattle.line_map.specs.PinMap.{with_pin}
use Rattle.line_map.specs.declared.Map.{Map}
use Rattle.line_map.specs.Way.Rule.{pin_rule}
use Rattle.line_keyword.specs.Way.Bounded.{most_lines}
use Rattle.line_keyword.specs.declared.State.{State}
use Rattle.table_layout.specs.Layout.{pin_width}
use Rattle.table_record.specs.Records.{pin_words}
use Rattle.table_record.specs.Way.Stage.{put_at, Held}
use Rattle.table_record.proofs.StageLaws.{put_long, held_same, held_one}
use Rattle.read_line.specs.Reading.{breaks, line_result}
use Rattle.read_line.specs.Way.Walk.{ResumesPart, HoldsPart, Fronted, with_pinned}
use Rattle.read_line.specs.declared.Front.{Front}
use Rattle.read_line.specs.declared.Front.TheVariants.{Blanks, Words, Opening}
use Rattle.read_line.proofs.StepLaws.{pin_stops, pin_goes}
use Rattle.read_line.proofs.QuietLaws.{blanks_front, words_front, opening_opens, blanks_decide, words_decide}
use Rattle.read_line.proofs.CrossLaws.{crossed_none, crossed_on, crossed_stops, stays_opens, stays_moved, stays_ended}
use Rattle.doc.specs.Lines.{Line, plain, key_in, key_at, key_of, lines_at, stands_in, gather, first_word}
use Rattle.doc.specs.Lines as lines
use Rattle.doc.specs.Document.{Named, pin_at}
use Rattle.doc.specs.Records.{pin_record}
use Rattle.doc.specs.Way.Staged.{pin_staged}
use Rattle.doc.specs.Way.Found.{Plainly, extent_of}
use Rattle.doc.specs.declared.Extent.{Extent}
use Rattle.doc.proofs.FoundLaws.{pass_over, stop_here}
use Rattle.doc.proofs.GatherLaws.{gather_more}
use Rattle.doc.proofs.PlainLaws.{plain_stays, plainly_none, plainly_one, plainly_same, plainly_join}
use Rattle.read_family.specs.Way.Pins.{SameGrid, pin_in, pin_put, StagesPin, TakesPin, GoesPins}
use Rattle.read_family.specs.declared.pins.Pinned.{Pinned}

-- ---- the grid of a map

pub grid_same : (m : Map) → SameGrid m m
grid_same m = record { order = refl; rows = refl; columns = refl }

pub grid_join : {m n o : Map} → SameGrid m n → SameGrid n o → SameGrid m o
grid_join a b = record { order = a.order ∙ b.order; rows = a.rows ∙ b.rows; columns = a.columns ∙ b.columns }

grid_pin : (m : Map) → SameGrid m (with_pin m)
unfolding with_pin
grid_pin m = record { order = refl; rows = refl; columns = refl }

-- ---- a line with words at its front

module _ (content : List ℕ) (at : ℕ) (m : Map) (pins k : ℕ) (rule : k ≡ pin_rule content m pins) (stage : List ℕ) where
  pub pin_refused : (k ≡ 0 → ⊥) → StagesPin content at m pins stage (record { taken = true; rule = k; map = m; pins = pins }) stage
  pin_refused broken =
      record {
        taken = refl;
        decides = pin_stops content m pins k rule broken;
        grid = grid_same m;
        long = refl;
        counted = λ (z : k ≡ 0). absurd (broken z);
        stored = λ (z : k ≡ 0). absurd (broken z);
      }

  pub pin_staged_lem :
      k ≡ 0 → (next : Map) → next ≡ with_pin m → (name : Extent) → name ≡ extent_of (first_word (words_from at content)) →
      (stage' : List ℕ) → stage' ≡ put_at (pin_width * pins) (pin_words (record { start = name.start; size = name.size })) stage →
      StagesPin content at m pins stage (record { taken = true; rule = 0; map = next; pins = pins + 1 }) stage'
  pin_staged_lem z next is_next name is_name stage' stored =
      record {
        taken = refl;
        decides = pin_goes content m pins k rule z next is_next;
        grid = rw is_next (grid_pin m);
        long = ap length stored ∙ put_long (pin_width * pins) (name.start ∷ name.size ∷ []) stage;
        counted = λ (e : ◌≡◌ {A = ℕ} 0 0). refl;
        stored =
            λ (e : ◌≡◌ {A = ℕ} 0 0).
            stored ∙ (λ i. put_at (pin_width * pins) ((is_name i).start ∷ (is_name i).size ∷ []) stage);
      }

-- ---- a line of a pin list

module _ (content : List ℕ) (front : Front) (told : Fronted content front) (at : ℕ) (m : Map) (pins : ℕ) (stage : List ℕ) where
  pub take_blank : front ≡ Blanks → TakesPin content at m pins stage (record { taken = true; rule = 0; map = m; pins = pins }) stage
  take_blank e =
      record {
        decides = λ (t : true ≡ true). blanks_decide content front told place.pin_list (with_pinned m pins) e;
        opens = λ (f : true ≡ false). absurd (true≢false f);
        kept = λ (f : true ≡ false). refl;
        grid = grid_same m;
        long = refl;
        blank = λ (b : is_blank_line content ≡ true). (refl, refl);
        filled =
            λ (t : true ≡ true) (z : ◌≡◌ {A = ℕ} 0 0) (b : is_blank_line content ≡ false).
            absurd (true≢false (sym (blanks_front content front told e) ∙ b));
      }

  pub take_opens : front ≡ Opening → TakesPin content at m pins stage (record { taken = false; rule = 0; map = m; pins = pins }) stage
  take_opens e =
      record {
        decides = λ (t : false ≡ true). absurd (true≢false (sym t));
        opens = λ (f : false ≡ false). opening_opens content front told e;
        kept = λ (f : false ≡ false). refl;
        grid = grid_same m;
        long = refl;
        blank = λ (b : is_blank_line content ≡ true). (refl, refl);
        filled = λ (t : false ≡ true). absurd (true≢false (sym t));
      }

  pub take_words :
      front ≡ Words → (r : Pinned) (stage' : List ℕ) → StagesPin content at m pins stage r stage' →
      TakesPin content at m pins stage r stage'
  take_words e r stage' stages =
      let w : (is_blank_line content ≡ false) × (bracket_of content ≡ Plain) = words_front content front told e in
      record {
        decides =
            λ (t : r.taken ≡ true).
            words_decide content front told place.pin_list (with_pinned m pins) e (λ (s : State). refl)
            (λ (z : place.pin_list ≡ place.done). omega arith) (λ (z : place.pin_list ≡ place.before). omega arith) r.rule
            (with_pinned r.map r.pins) stages.decides;
        opens = λ (f : r.taken ≡ false). absurd (true≢false (sym stages.taken ∙ f));
        kept = λ (f : r.taken ≡ false). absurd (true≢false (sym stages.taken ∙ f));
        grid = stages.grid;
        long = stages.long;
        blank = λ (b : is_blank_line content ≡ true). absurd (true≢false (sym b ∙ w.0));
        filled =
            λ (t : r.taken ≡ true) (z : r.rule ≡ 0) (b : is_blank_line content ≡ false).
            (w.1, stages.counted z, stages.stored z);
      }

length_take_most : (n : ℕ) (l : List ℕ) → length (take n l) ≤ length l
length_take_most n l =
    let e : length (take n l) ≡ min n (length l) = length-take n l in
    omega arith

-- the content of a line lies within the text
pub content_few :
    (t : List ℕ) (here : ℕ) (found : text.Line) → found ≡ line_at comment_byte t here → here < length t → length t * 1 < 2 ^ 63 →
    here + length (take (found.content - here) (drop here t)) ≤ most_lines
content_few t here found told h few =
    let e : length (take (found.content - here) (drop here t)) ≤ length (drop here t) =
    length_take_most (found.content - here) (drop here t) in
    let d : length (drop here t) ≡ length t - here = length-drop here t in
    omega arith

-- ---- lines one after another

plain_key : (content : List ℕ) → bracket_of content ≡ Plain → key_at content ≡ plain
unfolding key_at
plain_key content p = ap key_in p

-- a line without a keyword in a pin list is a pin
abbrev named_at : Line → Named
named_at l = record { name = first_word (lines.words_of l); line = l.line }

one_pin : (l : Line) (ls : List Line) → l.place ≡ place.pin_list → key_at l.content ≡ plain → pin_at l ls ≡ named_at l ∷ []
unfolding pin_at stands_in key_of
one_pin l ls p k = if_true _ _ (both_true _ _ (eq-eqb _ _ p) (eq-eqb _ _ k))

pin_words_lem : (l : Line) → pin_words (pin_in l.at l.content) ≡ pin_staged (named_at l)
unfolding pin_record lines.words_of extent_of
pin_words_lem l = refl

-- how far the lines of a pin list have been read, no rule being broken
pub record Gone (t : List ℕ) (at line : ℕ) (m : Map) (pins : ℕ) (stage₀ : List ℕ) (here number : ℕ) (part : Pinned) (stage : List ℕ) :
    Type 0 where
  pub sound : part.rule ≡ 0
  pub crossed :
      ResumesPart t at line (HoldsPart place.pin_list (with_pinned m pins)) (with_pinned part.map part.pins) part.rule here number
  pub grid : SameGrid m part.map
  pub long : length stage ≡ length stage₀
  pub plain : Plainly place.pin_list (lines_at t line at place.pin_list) (lines_at t number here place.pin_list)
  pub staged :
      (whole : List Named) → Held pin_staged pin_width whole stage₀ pins (gather pin_at (lines_at t line at place.pin_list)) →
      Held pin_staged pin_width whole stage part.pins (gather pin_at (lines_at t number here place.pin_list))

pub gone_start :
    (t : List ℕ) (at line : ℕ) (m : Map) (pins : ℕ) (stage : List ℕ) → at ≤ length t →
    Gone t at line m pins stage at line (record { taken = true; rule = 0; map = m; pins = pins }) stage
gone_start t at line m pins stage h =
    record {
      sound = refl;
      crossed =
          crossed_none t at line (HoldsPart place.pin_list (with_pinned m pins)) (with_pinned m pins) h
          (λ (s : State) (f : HoldsPart place.pin_list (with_pinned m pins) s). f.1);
      grid = grid_same m;
      long = refl;
      plain = plainly_none place.pin_list _;
      staged = λ whole held. held;
    }

module _ (t : List ℕ) (at line : ℕ) (m : Map) (pins : ℕ) (stage₀ : List ℕ) (here number : ℕ) (part : Pinned) (stage : List ℕ)
    (gone : Gone t at line m pins stage₀ here number part stage) where
  abbrev fits : State → Type 0
  fits = HoldsPart place.pin_list (with_pinned m pins)

  abbrev put : State → State
  put = with_pinned part.map part.pins

  pub gone_ends : length t ≤ here → GoesPins t at line m pins stage₀ (record { at = here; line = number; part = part }) stage
  gone_ends h =
      record {
        crossed = gone.crossed;
        stays = stays_ended t at here h;
        grid = gone.grid;
        long = gone.long;
        plain = λ (z : part.rule ≡ 0). gone.plain;
        staged = λ (z : part.rule ≡ 0). gone.staged;
      }

  module _ (h : here < length t) (found : text.Line) (is_found : found ≡ line_at comment_byte t here) (next : Pinned) (stage' : List ℕ)
      (takes : TakesPin (take (found.content - here) (drop here t)) here part.map part.pins stage next stage') where
    abbrev content : List ℕ
    content = take (found.content - here) (drop here t)

    pub gone_leaves :
        not next.taken ≡ true → GoesPins t at line m pins stage₀ (record { at = here; line = number; part = part }) stage'
    gone_leaves is_left =
        let left : next.taken ≡ false = not-true next.taken is_left in
        rw (takes.kept left)
        (record {
          crossed = gone.crossed;
          stays = stays_opens t at here found is_found (takes.opens left);
          grid = gone.grid;
          long = gone.long;
          plain = λ (z : part.rule ≡ 0). gone.plain;
          staged = λ (z : part.rule ≡ 0). gone.staged;
        })

    module _ (taken : next.taken ≡ true) where
      decided : (s : State) → fits s → line_result content (put s) ≡ breaks next.rule (with_pinned next.map next.pins s)
      decided s f = takes.decides taken s f.0

      pub gone_stops :
          (next.rule ≡ 0 → ⊥) → GoesPins t at line m pins stage₀ (record { at = found.next; line = number; part = next }) stage'
      gone_stops broken =
          record {
            crossed =
                crossed_stops t at line fits put part.rule here number gone.sound gone.crossed h found is_found
                (with_pinned next.map next.pins) next.rule decided broken;
            stays = stays_moved t at here found is_found h gone.crossed.onward;
            grid = grid_join gone.grid takes.grid;
            long = takes.long ∙ gone.long;
            plain = λ (z : next.rule ≡ 0). absurd (broken z);
            staged = λ (z : next.rule ≡ 0). absurd (broken z);
          }

      module _ (z : next.rule ≡ 0) where
        abbrev here_lines : List Line
        here_lines = lines_at t number here place.pin_list

        abbrev next_lines : List Line
        next_lines = lines_at t (number + 1) found.next place.pin_list

        abbrev Goes : Type 0
        Goes =
            Plainly place.pin_list here_lines next_lines
            × ((whole : List Named) → Held pin_staged pin_width whole stage part.pins (gather pin_at here_lines) →
            Held pin_staged pin_width whole stage' next.pins (gather pin_at next_lines))

        on_blank : is_blank_line content ≡ true → Goes
        on_blank blank =
            let e : (stage' ≡ stage) × (next.pins ≡ part.pins) = takes.blank blank in
            let same : here_lines ≡ next_lines = pass_over t here h number found is_found blank place.pin_list in (
              plainly_same place.pin_list _ _ _ (plainly_none place.pin_list _) same,
              λ whole held.
                  rw (e.0, e.1) (held_same pin_staged pin_width whole stage part.pins (gather pin_at here_lines) held (gather pin_at next_lines) (ap (gather pin_at) same)),
            )

        on_filled : is_blank_line content ≡ false → Goes
        unfolding key_of
        on_filled filled =
            let e : (bracket_of content ≡ Plain) × (next.pins ≡ part.pins + 1) × (stage' ≡ pin_put here content part.pins stage) =
            takes.filled taken z filled in
            let key : key_at content ≡ plain = plain_key content e.0 in
            let l : Line = record { line = number; at = here; place = place.pin_list; content = content } in
            let one : here_lines ≡ l ∷ next_lines =
            stop_here t here h number found is_found filled place.pin_list
            ∙ ap (λ (p : ℕ). l ∷ lines_at t (number + 1) found.next p)
            (plain_stays place.pin_list content key (λ (x : place.pin_list ≡ place.map_head). omega arith)) in
            let gives : gather pin_at here_lines ≡ named_at l ∷ gather pin_at next_lines =
            ap (gather pin_at) one ∙ gather_more pin_at l next_lines
            ∙ ap (λ (xs : List Named). xs ++ gather pin_at next_lines) (one_pin l next_lines refl key) in
            let stored : stage' ≡ put_at (pin_width * part.pins) (pin_staged (named_at l)) stage =
            e.2 ∙ ap (λ (ws : List ℕ). put_at (pin_width * part.pins) ws stage) (pin_words_lem l) in (
              rw one (plainly_one place.pin_list l next_lines (record { place_is = refl; key_is = key })),
              λ whole held.
                  rw e.1
                  (held_one pin_staged pin_width whole stage part.pins (gather pin_at here_lines) held (λ (x : Named). refl) (named_at l)
                  (gather pin_at next_lines) gives stage' stored),
            )

        goes_on : Goes
        goes_on = by_cases Goes (is_blank_line content) on_blank on_filled

        pub gone_on : Gone t at line m pins stage₀ found.next (number + 1) next stage'
        gone_on =
            record {
              sound = z;
              crossed =
                  crossed_on t at line fits put part.rule here number gone.sound gone.crossed h found is_found
                  (with_pinned next.map next.pins) next.rule decided z;
              grid = grid_join gone.grid takes.grid;
              long = takes.long ∙ gone.long;
              plain = plainly_join place.pin_list _ _ _ gone.plain goes_on.0;
              staged = λ whole held. goes_on.1 whole (gone.staged whole held);
            }
