-- Document 01, "Paths", stated a second time, straight from the lines of a text: which lines of a model write the steps
-- of its path, and what each of them writes. Nothing here uses the definitions by which the document gets its steps.
-- Assumes nothing.
use Rattle.std.specs.Prelude.{ℕ, ◌≡◌, true, List, [], ◌∷◌, ◌++◌, map, is_some, unwrap_or, Ok}
use Rattle.table_layout.specs.Codes.{end_kind, section_kind, fork_kind, endfork_kind}
use Rattle.base.specs.Bytes.{bytes}
use Rattle.lex_line.specs.Words.{words, first_of, left_of, right_of}
use Rattle.lex_number.specs.Number.{number_of}
use Rattle.lex_number.specs.Integer.{whole_of}
use Rattle.line_place.specs.Place as place
use Rattle.doc.specs.Lines.{Line, plain, significant, key_of, argument_of, up_to}
use Rattle.doc.specs.Document.{Step, Model, opens_model, in_model}

-- what a line of a path writes: the kind, the bytes of the name, the amount, the bytes of the side, and its own number
pub record PathStep : Type 0 where
  pub kind : ℕ
  pub name : List ℕ
  pub amount : ℕ
  pub side : List ℕ
  pub line : ℕ

-- a line of the path: it is read in the place of a path, and has no keyword
pub record InPath (line : Line) : Type 0 where
  pub there : line.place ≡ place.path
  pub keyless : key_of line ≡ plain

-- "perhaps with `Side name` as the next line read": the name, or no bytes if the next line is another or there is none
pub data SideBelow : List Line → List ℕ → Type 0 where
  given :
      {line : Line} {below : List Line} {name : List ℕ} → InPath line → words line.content ≡ bytes "Side" ∷ name ∷ [] →
      SideBelow (line ∷ below) name
  not_given :
      {line : Line} {below : List Line} → (InPath line → first_of (words line.content) ≡ bytes "Side" → ⊥) → SideBelow (line ∷ below) []
  none_below : SideBelow [] []

-- the step that a line writes, with the lines below it: "An end is `Model_pinmap name`"; "`Section Mult=n name`,
-- `Section Len=v name`"; "Fork"; "Endfork". The amount is the integer n, or the value word of v
pub data WritesStep (line : Line) (below : List Line) : PathStep → Type 0 where
  model_pinmap :
      {name side : List ℕ} → words line.content ≡ bytes "Model_pinmap" ∷ name ∷ [] → SideBelow below side →
      WritesStep line below (record { kind = end_kind; name = name; amount = 0; side = side; line = line.line })
  section_mult :
      {n name : List ℕ} → left_of line.content ≡ bytes "Section" ∷ bytes "Mult" ∷ [] → right_of line.content ≡ n ∷ name ∷ [] →
      is_some (whole_of n) ≡ true →
      WritesStep line below (record { kind = section_kind; name = name; amount = unwrap_or (whole_of n) 0; side = []; line = line.line })
  section_len :
      {v name : List ℕ} {word : ℕ} → left_of line.content ≡ bytes "Section" ∷ bytes "Len" ∷ [] → right_of line.content ≡ v ∷ name ∷ [] →
      number_of v ≡ Ok word →
      WritesStep line below (record { kind = section_kind; name = name; amount = word; side = []; line = line.line })
  fork :
      words line.content ≡ bytes "Fork" ∷ [] →
      WritesStep line below (record { kind = fork_kind; name = []; amount = 0; side = []; line = line.line })
  endfork :
      words line.content ≡ bytes "Endfork" ∷ [] →
      WritesStep line below (record { kind = endfork_kind; name = []; amount = 0; side = []; line = line.line })

-- the steps that the lines of a model write: a line outside the path writes none, nor does a Side; any other line of the
-- path writes the next one
pub data PathWritten : List Line → List PathStep → Type 0 where
  no_line : PathWritten [] []
  outside_path :
      {line : Line} {below : List Line} {steps : List PathStep} → (InPath line → ⊥) → PathWritten below steps → PathWritten (line ∷ below) steps
  side_line :
      {line : Line} {below : List Line} {steps : List PathStep} {name : List ℕ} → InPath line →
      words line.content ≡ bytes "Side" ∷ name ∷ [] → PathWritten below steps → PathWritten (line ∷ below) steps
  next_step :
      {line : Line} {below : List Line} {step : PathStep} {steps : List PathStep} → InPath line → WritesStep line below step →
      PathWritten below steps → PathWritten (line ∷ below) (step ∷ steps)

-- what a step of the document has of this
abbrev pub path_step_of : Step → PathStep
path_step_of s = record { kind = s.kind; name = s.name.text; amount = s.amount; side = s.side.text; line = s.line }

-- the lines of the text that write the path of a model: one opens the model, and those below it, up to the model's end,
-- write its steps
pub record PathWrittenBy (t : List ℕ) (m : Model) : Type 0 where
  pub before : List Line
  pub line : Line
  pub after : List Line
  pub stands : significant t ≡ before ++ (line ∷ after)
  pub opens : opens_model line ≡ true
  pub named : m.name ≡ argument_of line
  pub numbered : m.line ≡ line.line
  pub steps : PathWritten (up_to in_model after) (map path_step_of m.steps)
