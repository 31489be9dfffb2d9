-- `book::settlements::put_month` meets its contract: the total is put at its month's place in the ring.
-- Assumes nothing.
use Rattle.book.proofs.Functions.SettlementsPut.{month-put}
use Rattle.book.proofs.settlements.put_month.Goals as goal

pub returns : goal.returns
returns c = month-put _ _ _ _ _ _ c.ranges.total c.ring_place.ensures c.put_row.ensures
