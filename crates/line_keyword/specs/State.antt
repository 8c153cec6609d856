-- What the forward reading remembers between lines: the place, the keywords read, and what has been read of the open
-- block. It contains no line number and no offset.
--
-- It is the struct `State` of src/lib.rt: the `place` in which the next line is read; `seen`, for each keyword by its number
-- whether it has been read; of the open block its `head`, `path`, `map`, `section` or `matrix`, each explained where it is
-- defined; and `counts`, how many records of each part have been read. Of a section (`Section`) the `method` is remembered,
-- and its `conductors`, the N of its first matrix, 0 until that is closed.
-- Assumes nothing.
use Rattle.std.specs.Prelude.{Bool, false, List, replicate}
use Rattle.line_place.specs.Place.{before}
use Rattle.line_head.specs.Head.{new_head}
use Rattle.line_path.specs.Path.{new_path}
use Rattle.line_map.specs.PinMap.{new_map}
use Rattle.line_matrix.specs.Matrix.{new_matrix}
use Rattle.line_keyword.specs.declared.Counts.{Counts}
use Rattle.line_keyword.specs.declared.Section.{Section}
use Rattle.line_keyword.specs.declared.State.{State}

unfoldable pub no_counts : Counts
no_counts = record { models = 0; steps = 0; maps = 0; pins = 0; sections = 0; matrices = 0; values = 0 }

-- no keyword read
unfoldable pub none_seen : List Bool
none_seen = replicate 40 false

unfoldable pub new_section : Section
new_section = record { method = 0; conductors = 0 }

-- before the first line
unfoldable pub start_state : State
start_state =
    record {
      place = before;
      seen = none_seen;
      head = new_head;
      path = new_path;
      map = new_map;
      section = new_section;
      matrix = new_matrix 0 0;
      counts = no_counts;
    }
