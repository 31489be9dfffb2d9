-- `book::days::open_day` meets its contract: the day is opened for one participant after the other.
-- Assumes nothing.
use mathlib.Core.Path.{ap}
use Prim.Native.Nat.{ℕ, ◌+◌}
use Rattle.book.proofs.Functions.DaysOpened.{pass-next}
use Rattle.book.proofs.days.open_day.Goals as goal

pub loop-participant-preserved : goal.loop-participant-preserved
loop-participant-preserved c =
    pass-next c.loop-participant.participant c.args.words.now _ c.loop-participant.invariant _ (c.today_of.result.0 + 1) c.loop-participant-test.true
    (ap (λ (t : ℕ). t + 1) c.today_of.ensures) c.open_file.ensures
