-- `table_layout::most_words` meets its contract: no bound is above that of the values.
-- Assumes nothing.
use Rattle.table_layout.proofs.StoreLaws.{bounds_small}
use Rattle.table_layout.proofs.most_words.Goals as goal

pub words_needed-requires : goal.words_needed-requires
words_needed-requires c = record { few = bounds_small }
