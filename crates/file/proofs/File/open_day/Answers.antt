-- `file::File::open_day` meets its contract: each step leaves what the opening says. The file is sound on the day before, so the shortfall is at
-- most the largest total, and neither sum wraps.
-- Assumes nothing.
use Rattle.file.proofs.AtOpening.{opened-slots, opened-fit, file-opened}
use Rattle.file.proofs.File.open_day.Goals as goal

pub cover-requires : goal.cover-requires
cover-requires c = opened-slots c.args.self.now c.args.day.0 _ c.empty_lapsed.ensures _ _ c.end_calls.ensures c.take_next.ensures c.requires.0.slots

pub after-charged-requires : goal.after-charged-requires
after-charged-requires c =
    opened-fit c.args.self.now c.args.day.0 _ c.empty_lapsed.ensures _ _ c.end_calls.ensures c.take_next.ensures _ _
    c.cover.ensures c.saturating_sub-shortfall.ensures _ c.charges.ensures c.requires

pub returns : goal.returns
returns c =
    file-opened c.args.self.now c.args.day.0 _ c.empty_lapsed.ensures _ _ c.end_calls.ensures c.take_next.ensures _ _
    c.cover.ensures c.saturating_sub-shortfall.ensures _ c.charges.ensures _ c.after-charged.ensures
