-- The places of a file, and how a line leads from one place to the next by its words alone. Counts, forms of lines and
-- rules play no part here. A keyword that a place does not take leads to `dead`, which no line leaves.
-- Assumes nothing.
use Rattle.std.specs.Prelude.{ℕ, Bool, List, eqb}
use Rattle.base.specs.If.{provided◌then◌else◌, either}
use Rattle.base.specs.Runs.{same}
use Rattle.base.specs.Bytes.{bytes}
use Rattle.lex_keyword.specs.Names.{
  the_end,
  row,
  date,
  notes,
  source,
  support,
  icm_ver,
  file_rev,
  file_name,
  copyright,
  bandwidth,
  disclaimer,
  end_header,
  icm_pin_map,
  begin_header,
  manufacturer,
  end_icm_model,
  icm_model_list,
  end_icm_family,
  redistribution,
  begin_icm_model,
  end_icm_section,
  begin_icm_family,
  derivation_method,
  resistance_matrix,
  inductance_matrix,
  begin_icm_section,
  conductance_matrix,
  capacitance_matrix,
  redistribution_text,
  tree_path_description,
  icm_model_description,
  icm_family_description,
}

-- "Lines before [Begin Header]"
abbrev pub before : ℕ
before = 0

-- after [Begin Header]; "[ICM Ver] 1.1 comes first"
abbrev pub opened : ℕ
opened = 1

-- in the header, no text block open
abbrev pub header : ℕ
header = 2

-- in a text block of the header
abbrev pub header_text : ℕ
header_text = 3

-- after [End Header]
abbrev pub between : ℕ
between = 4

-- in the family, nothing open
abbrev pub family : ℕ
family = 5

-- in the text block of [ICM Family Description]
abbrev pub family_text : ℕ
family_text = 6

-- in [ICM Model List]
abbrev pub list : ℕ
list = 7

-- in a model, "before the model's first keyword"
abbrev pub head : ℕ
head = 8

-- in [Tree Path Description]
abbrev pub path : ℕ
path = 9

-- in the text block of [ICM Model Description]
abbrev pub model_text : ℕ
model_text = 10

-- in a pin map, above its Pin_list
abbrev pub map_head : ℕ
map_head = 11

-- in a pin map, below its Pin_list
abbrev pub pin_list : ℕ
pin_list = 12

-- after [End ICM Family], outside sections
abbrev pub after : ℕ
after = 13

-- in a section, before [Derivation Method]
abbrev pub section_head : ℕ
section_head = 14

-- in a section, after [Derivation Method] and before the first matrix
abbrev pub section : ℕ
section = 15

-- in a matrix
abbrev pub matrix : ℕ
matrix = 16

-- after [End]
abbrev pub done : ℕ
done = 17

-- the place that takes nothing, where a misplaced keyword leads
abbrev pub dead : ℕ
dead = 18

-- "as text blocks, [Source], [Notes], [Disclaimer], [Copyright], [Support], [Redistribution Text]"
unfoldable pub opens_header_text : ℕ → Bool
opens_header_text k =
    either (eqb k source)
    (either (eqb k notes)
    (either (eqb k disclaimer) (either (eqb k copyright) (either (eqb k support) (eqb k redistribution_text)))))

-- "[File Name] and [File Rev] are required; optional are [Date] .. [Redistribution]"
unfoldable pub stands_in_header : ℕ → Bool
stands_in_header k = either (eqb k file_name) (either (eqb k file_rev) (either (eqb k date) (eqb k redistribution)))

unfoldable pub leads_in_header : ℕ → ℕ
leads_in_header k =
    provided stands_in_header k then header else
    provided opens_header_text k then header_text else
    provided eqb k end_header then between else dead

-- "Family: [Manufacturer] and [ICM Model List] .. pin maps anywhere outside models"
unfoldable pub leads_in_family : ℕ → ℕ
leads_in_family k =
    provided eqb k icm_pin_map then map_head else
    provided eqb k begin_icm_model then head else
    provided eqb k end_icm_family then after else
    provided eqb k manufacturer then family else
    provided eqb k icm_model_list then list else
    provided eqb k icm_family_description then family_text else dead

-- "Model: .. Then [Tree Path Description] once, [ICM Model Description] at most once"
unfoldable pub leads_in_model : ℕ → ℕ
leads_in_model k =
    provided eqb k tree_path_description then path else
    provided eqb k icm_model_description then model_text else
    provided eqb k end_icm_model then family else dead

-- "sections with R, L, G, C matrices"
unfoldable pub opens_matrix : ℕ → Bool
opens_matrix k =
    either (eqb k resistance_matrix)
    (either (eqb k inductance_matrix) (either (eqb k conductance_matrix) (eqb k capacitance_matrix)))

unfoldable pub leads_in_section : ℕ → ℕ
leads_in_section k = provided opens_matrix k then matrix else provided eqb k end_icm_section then after else dead

-- the keywords that do not end a matrix
unfoldable pub is_row_or_bandwidth : ℕ → Bool
is_row_or_bandwidth k = either (eqb k row) (eqb k bandwidth)

unfoldable pub leads_in_matrix : ℕ → ℕ
leads_in_matrix k = provided is_row_or_bandwidth k then matrix else leads_in_section k

unfoldable pub leads_after_family : ℕ → ℕ
leads_after_family k = provided eqb k begin_icm_section then section_head else provided eqb k the_end then done else dead

-- "A path, map or list closes at the next keyword", and so does a text block. So the keywords that may follow are those
-- of the header, family or model around it
unfoldable pub is_in_header : ℕ → Bool
is_in_header p = either (eqb p header) (eqb p header_text)

unfoldable pub is_in_family : ℕ → Bool
is_in_family p =
    either (eqb p family) (either (eqb p family_text) (either (eqb p list) (either (eqb p map_head) (eqb p pin_list))))

unfoldable pub is_in_model : ℕ → Bool
is_in_model p = either (eqb p head) (either (eqb p path) (eqb p model_text))

-- where the keyword k leads from the place p
unfoldable pub moved : ℕ → ℕ → ℕ
moved p k =
    provided eqb p matrix then leads_in_matrix k else
    provided is_in_model p then leads_in_model k else
    provided is_in_family p then leads_in_family k else
    provided is_in_header p then leads_in_header k else
    provided eqb p section then leads_in_section k else
    provided eqb p after then leads_after_family k else
    provided eqb p opened then (provided eqb k icm_ver then header else dead) else
    provided eqb p between then (provided eqb k begin_icm_family then family else dead) else
    provided eqb p section_head then (provided eqb k derivation_method then section else dead) else
    provided eqb p before then (provided eqb k begin_header then opened else before) else p

-- "A first non-blank `[` outside column 1 is 6, except in a text block"
unfoldable pub is_text : ℕ → Bool
is_text p = either (eqb p header_text) (either (eqb p family_text) (eqb p model_text))

-- where a line without a keyword leads, by its first word: Pin_list opens the pins
unfoldable pub moved_by_line : ℕ → List ℕ → ℕ
moved_by_line p first = provided eqb p map_head then (provided same first (bytes "Pin_list") then pin_list else map_head) else p
