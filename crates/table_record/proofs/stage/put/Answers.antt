-- `table_record::stage::put` meets its contract: by whether there is room.
-- Assumes nothing.
use Rattle.table_record.proofs.StageLaws.{put_left, put_stored}
use Rattle.table_record.proofs.stage.put.Goals as goal

pub returns-then-index-room : goal.returns-then-index-room
returns-then-index-room g c =
    put_stored _ _ _ _ (g.met.W.Words.all_words c.args.item) _ c.WIDTH.ensures c.if-index-room.true _ c.WIDTH-then-index-room.ensures _ c.put_at.ensures

pub returns-else-index-room : goal.returns-else-index-room
returns-else-index-room g c =
    put_left _ _ _ _ (g.met.W.Words.all_words c.args.item) _ c.WIDTH.ensures g.met.W.Words.some_words c.if-index-room.false
