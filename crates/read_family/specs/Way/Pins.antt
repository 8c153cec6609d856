-- What the functions that read and stage the lines of a pin list promise.
-- Assumes nothing.
use Rattle.std.specs.Prelude.{ℕ, ◌+◌, ◌*◌, ◌≡◌, true, false, List, length}
use Rattle.lex_line.specs.Lines.{is_blank_line}
use Rattle.lex_line.specs.Words.{words_from}
use Rattle.lex_keyword.specs.Bracket.{bracket_of}
use Rattle.lex_keyword.specs.declared.Bracket.TheVariants.{Plain}
use Rattle.line_place.specs.Place as place
use Rattle.line_map.specs.declared.Map.{Map}
use Rattle.table_layout.specs.Layout.{pin_width}
use Rattle.table_record.specs.Records.{pin_words}
use Rattle.table_record.specs.Way.Stage.{put_at, Held}
use Rattle.table_record.specs.declared.PinRecord.{PinRecord}
use Rattle.read_line.specs.Reading.{line_result}
use Rattle.read_line.specs.Way.Steps.{line_step}
use Rattle.read_line.specs.Way.Walk.{ResumesPart, HoldsPart, Decides, Opens, NoProgressMeansBracket, with_pinned}
use Rattle.doc.specs.Lines.{lines_at, gather, first_word}
use Rattle.doc.specs.Document.{Named, pin_at}
use Rattle.doc.specs.Way.Staged.{pin_staged}
use Rattle.doc.specs.Way.Found.{Plainly, extent_of}
use Rattle.read_family.specs.declared.pins.Pinned.{Pinned}
use Rattle.read_family.specs.declared.pins.PinWalk.{PinWalk}

-- two maps of which the lines above Pin_list have said the same
pub record SameGrid (m n : Map) : Type 0 where
  pub order : m.order ≡ n.order
  pub rows : m.rows ≡ n.rows
  pub columns : m.columns ≡ n.columns

-- the pin of a line that starts at an offset
abbrev pub pin_in : ℕ → List ℕ → PinRecord
pin_in at content =
    record { start = (extent_of (first_word (words_from at content))).start; size = (extent_of (first_word (words_from at content))).size }

-- a pin more is staged
abbrev pub pin_put : ℕ → List ℕ → ℕ → List ℕ → List ℕ
pin_put at content pins stage = put_at (pin_width * pins) (pin_words (pin_in at content)) stage

-- a line with words at its front
pub record StagesPin (content : List ℕ) (at : ℕ) (m : Map) (pins : ℕ) (stage : List ℕ) (r : Pinned) (stage' : List ℕ) : Type 0 where
  pub taken : r.taken ≡ true
  pub decides : Decides place.pin_list (with_pinned m pins) (line_step content) r.rule (with_pinned r.map r.pins)
  pub grid : SameGrid m r.map
  pub long : length stage' ≡ length stage
  pub counted : r.rule ≡ 0 → r.pins ≡ pins + 1
  pub stored : r.rule ≡ 0 → stage' ≡ pin_put at content pins stage

-- a line of a pin list
pub record TakesPin (content : List ℕ) (at : ℕ) (m : Map) (pins : ℕ) (stage : List ℕ) (r : Pinned) (stage' : List ℕ) : Type 0 where
  pub decides : r.taken ≡ true → Decides place.pin_list (with_pinned m pins) (line_result content) r.rule (with_pinned r.map r.pins)
  pub opens : r.taken ≡ false → Opens content
  pub kept : r.taken ≡ false → stage' ≡ stage
  pub grid : SameGrid m r.map
  pub long : length stage' ≡ length stage
  pub blank : is_blank_line content ≡ true → (stage' ≡ stage) × (r.pins ≡ pins)
  pub filled :
      r.taken ≡ true → r.rule ≡ 0 → is_blank_line content ≡ false →
      (bracket_of content ≡ Plain) × (r.pins ≡ pins + 1) × (stage' ≡ pin_put at content pins stage)

-- the lines of a pin list
pub record GoesPins (t : List ℕ) (at line : ℕ) (m : Map) (pins : ℕ) (stage : List ℕ) (w : PinWalk) (stage' : List ℕ) : Type 0 where
  pub crossed :
      ResumesPart t at line (HoldsPart place.pin_list (with_pinned m pins)) (with_pinned w.part.map w.part.pins) w.part.rule
      w.at w.line
  pub stays : NoProgressMeansBracket t at w.at
  pub grid : SameGrid m w.part.map
  pub long : length stage' ≡ length stage
  pub plain : w.part.rule ≡ 0 → Plainly place.pin_list (lines_at t line at place.pin_list) (lines_at t w.line w.at place.pin_list)
  pub staged :
      w.part.rule ≡ 0 → (whole : List Named) → Held pin_staged pin_width whole stage pins (gather pin_at (lines_at t line at place.pin_list)) →
      Held pin_staged pin_width whole stage' w.part.pins (gather pin_at (lines_at t w.line w.at place.pin_list))
