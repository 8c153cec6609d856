-- `table_record::nth` meets its contract: the record that stands at the index's place is the record of that index.
-- Assumes nothing.
use mathlib.Core.Path.{◌∙◌}
use Prim.Native.Nat.{◌+◌, ◌*◌}
use lib.ListN.{get_or}
use Rattle.table_record.proofs.RecordLaws.{nth_is}
use Rattle.table_record.proofs.nth.Goals as goal

pub returns : goal.returns
returns g c =
    c.at.ensures
    ∙ (λ i. g.R.Words.stands c.args.table.now (get_or c.args.view.bases (c.PART.ensures i) 0 + c.WIDTH.ensures i * c.args.index))
    ∙ nth_is g.R.Record.kind g.R.Words.stands g.R.Record.none g.R.Record.PART g.R.Words.WIDTH c.args.table.now c.args.view
    (g.met.R.Record.is_kind _ _) g.met.R.Record.has_width c.requires.0 c.args.index c.requires.1
