-- Marks are hashes of names, made of all their bytes. Names with different marks differ, and need not be compared.
-- Assumes nothing.
use Rattle.std.specs.Prelude.{ℕ, ◌+◌, ◌*◌, ◌%◌, List, [], ◌∷◌}
use Rattle.table_layout.specs.Bounds.{most_maps, most_steps}

-- how many marks there are: first those for what has no name, then those for names
abbrev pub bare_marks : ℕ
bare_marks = most_maps

abbrev pub name_marks : ℕ
name_marks = 4 * most_steps

abbrev pub marks_many : ℕ
marks_many = bare_marks + name_marks

-- the mark after more bytes
unfoldable pub mark_from : ℕ → List ℕ → ℕ
mark_from mark [] = mark
mark_from mark (b ∷ s) = mark_from ((mark * 37 + b) % name_marks + bare_marks) s

-- the mark of a name in a group
unfoldable pub hash_of : ℕ → List ℕ → ℕ
hash_of group name = mark_from (group % bare_marks) name
