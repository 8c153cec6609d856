-- `out_listing::record_of` meets its contract: a record that the table has, or zeros.
-- Assumes nothing.
use Prim.Native.Nat.{ℕ, ◌≤◌, ◌<◌}
use lib.ListN.{get_or}
use Rattle.std.proofs.Common.{subst}
use Rattle.table_record.proofs.RecordLaws.{kind_long}
use Rattle.out_listing.proofs.ShownLaws.{has_rooms, shown_none, shown_there}
use Rattle.out_listing.proofs.record_of.Goals as goal

pub returns-then-view-PART : goal.returns-then-view-PART
returns-then-view-PART g c =
    let P : ℕ → Type 0 = λ n. get_or c.args.view.counts n 0 ≤ c.args.index in
    shown_none _ _ c.requires g.R.Record.kind g.R.Record.none g.R.Record.PART g.R.Record.has_none
    (kind_long g.R.Record.kind g.R.Words.stands g.R.Record.none g.R.Record.PART g.R.Words.WIDTH _ _ (g.met.R.Record.is_kind _ _) g.met.R.Record.has_width)
    _ (subst P c.PART.ensures c.if-view-PART.true) _ (g.met.R.Record.is_none _ c.default.ensures)

pub nth-requires : goal.nth-requires
nth-requires g c =
    let P : ℕ → Type 0 = λ n. c.args.index < get_or c.args.view.counts n 0 in
    let h = subst P c.PART.ensures c.if-view-PART.false in
    (has_rooms _ _ c.requires g.R.Record.PART _ h, h)

pub returns : goal.returns
returns g c =
    let P : ℕ → Type 0 = λ n. c.args.index < get_or c.args.view.counts n 0 in
    shown_there _ _ c.requires g.R.Record.kind g.R.Record.none g.R.Record.PART g.R.Record.has_none
    (kind_long g.R.Record.kind g.R.Words.stands g.R.Record.none g.R.Record.PART g.R.Words.WIDTH _ _ (g.met.R.Record.is_kind _ _) g.met.R.Record.has_width)
    _ (subst P c.PART.ensures c.if-view-PART.false) _ c.nth.ensures
