-- `book::days::open_days` meets its contract: as many days as were counted have been opened.
-- Assumes nothing.
use Rattle.book.proofs.Functions.DaysOpened.{turn-first, turn-within, turn-next}
use Rattle.book.proofs.days.open_days.Goals as goal

pub loop-init : goal.loop-init
loop-init c = turn-first c.args.days c.args.words.now c.requires.0 c.requires.1

pub open_day-requires : goal.open_day-requires
open_day-requires c =
    (c.loop.invariant.formed, turn-within c.args.days c.loop.counter c.args.words.now c.loop.words c.loop.invariant c.loop-test.true)

pub loop-preserved : goal.loop-preserved
loop-preserved c = turn-next c.args.days c.loop.counter c.args.words.now _ c.loop.invariant _ c.loop-test.true c.open_day.ensures
