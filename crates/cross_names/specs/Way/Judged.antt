-- The rule that a list line breaks, by the model that its name finds in the table and the flags that earlier lines have set.
-- Assumes nothing.
use Rattle.std.specs.Prelude.{ℕ, Bool, false, List, get_or, leb, eqb}
use Rattle.base.specs.If.{provided◌then◌else◌, both}
use Rattle.base.specs.Refusal as refusal
use Rattle.line_place.specs.Place as place
use Rattle.table_layout.specs.Layout.{models, model_width}
use Rattle.table_layout.specs.Bounds.{most_models}
use Rattle.table_layout.specs.declared.View.{View}
use Rattle.table_record.specs.Way.Standing.{base_of, count_of}
use Rattle.doc.specs.Lines.{plain, words_of, first_word}
use Rattle.doc.specs.Way.Found.{line_in}
use Rattle.doc.specs.declared.Found.{Found}
use Rattle.table_name.specs.Way.Search.{find_in}
use Rattle.cross_names.specs.declared.list.Judged.{Judged}

-- the index of the first model whose name is the first word of the line
unfoldable pub model_found : List ℕ → List ℕ → View → Found → ℕ
model_found t table v line =
    find_in t table (base_of v models) model_width (count_of v models) (first_word (words_of (line_in t line 0))).text 0

-- the flag after those of the models
abbrev pub no_slot : ℕ
no_slot = most_models

-- a name finds model `index`; there are `count` models, and it finds none if `index` is not below `count`
unfoldable pub judged_by : ℕ → ℕ → List Bool → Judged
judged_by count index listed =
    provided leb count index then record { rule = refusal.list; slot = no_slot } else
    provided get_or listed index false then record { rule = refusal.twice; slot = index } else record { rule = 0; slot = index }

unfoldable pub name_judged : List ℕ → List ℕ → View → Found → List Bool → Judged
name_judged t table v line listed = judged_by (count_of v models) (model_found t table v line) listed

-- a line outside the list breaks no rule and names no model
unfoldable pub line_judged : List ℕ → List ℕ → View → ℕ → Found → List Bool → Judged
line_judged t table v p line listed =
    provided both (eqb p place.list) (eqb line.key plain) then name_judged t table v line listed else record { rule = 0; slot = no_slot }
