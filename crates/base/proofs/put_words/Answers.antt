use Rattle.base.proofs.StoreLaws.{put_sets}
use Rattle.base.proofs.put_words.Goals as goal

pub returns : goal.returns
returns c = put_sets _ _ _ _ c.requires c.copy_from_slice.ensures.after
