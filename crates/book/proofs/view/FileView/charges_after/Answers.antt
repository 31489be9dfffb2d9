-- `book::view::FileView::charges_after` meets its contract: the file is sound today, so the shortfall is at most the largest total, and neither sum
-- wraps.
-- Assumes nothing.
use Rattle.book.specs.Seen.{file_seen, today_seen}
use Rattle.book.proofs.Functions.DaysOpened.{charges-room, charges-are}
use Rattle.book.proofs.view.FileView.charges_after.Goals as goal

pub after-requires : goal.after-requires
after-requires c =
    charges-room (file_seen c.args.self) c.args.day.0 _ _ _ _ _ c.charged.ensures c.accrued.ensures c.firm.ensures
    c.cover.ensures c.saturating_sub.ensures (today_seen c.args.self) c.args.self.sound c.requires

pub returns : goal.returns
returns c =
    charges-are (file_seen c.args.self) c.args.day.0 _ _ _ _ _ c.charged.ensures c.accrued.ensures c.firm.ensures
    c.cover.ensures c.saturating_sub.ensures _ c.after.ensures
