-- `replay::history::replay` meets its contract: each turn adds one call, whose answer is the reading's decision.
-- Assumes nothing.
use Rattle.std.proofs.lemmas.Result.{err_from_is_err_and}
use Rattle.replay.proofs.Replaying.{turn-none, turn-first, turn-next, turn_last}
use Rattle.replay.proofs.history.replay.Goals as goal

pub returns-in_err-fresh : goal.returns-in_err-fresh
returns-in_err-fresh c =
    let e = err_from_is_err_and c.from_residual.result c.from_residual.ensures.1 in rw (e.1, e.2) (turn-none _ _ _ _ _ _ _ _ c.in_err-fresh.ensures)

pub loop-i-init : goal.loop-i-init
loop-i-init c = turn-first _ _ _ _ _ _ _ _ c.in_ok-fresh.ensures c.min-count.ensures

pub loop-i-preserved : goal.loop-i-preserved
loop-i-preserved c = turn-next _ _ _ _ _ _ _ _ _ _ c.loop-i.invariant _ _ _
    c.loop-i-test.true
    (rw c.call_at-call.ensures at c.apply_under.ensures)
    c.put.ensures

pub returns : goal.returns
returns c = turn_last _ _ _ _ _ _ _ _ _ _ _ c.in_ok-fresh.ensures c.loop-i.invariant c.loop-i-test.false
