-- `book::calls::annual_run` meets its contract: a refusal writes nothing, and the amount becomes the next amount.
-- Assumes nothing.
use mathlib.Core.Path.{refl}
use Rattle.std.proofs.lemmas.Result.{err_from_is_err_and}
use Rattle.book.proofs.Functions.OnWords.{given-unknown, given-refused, given-run}
use Rattle.book.proofs.calls.annual_run.Goals as goal

pub returns-in_err-admitted : goal.returns-in_err-admitted
returns-in_err-admitted c =
    let e = err_from_is_err_and c.from_residual.result c.from_residual.ensures.1 in rw (e.1, e.2) (given-unknown _ _ _ _ c.requires refl c.in_err-admitted.ensures)

pub returns-in_err-run : goal.returns-in_err-run
returns-in_err-run c =
    let v = c.in_ok-admitted.ensures in
    let e = err_from_is_err_and c.from_residual-in_err-run.result c.from_residual-in_err-run.ensures.1 in
    rw (e.1, e.2) (given-refused _ _ _ _ _ _ v.0 v.1 v.3 refl c.in_err-run.ensures c.requires v.2 refl)

pub returns : goal.returns
returns c = let v = c.in_ok-admitted.ensures in given-run _ _ _ _ _ _ c.requires v.0 v.1 v.2 v.3 c.in_ok-run.ensures (rw c.place.ensures at c.put_next.ensures)
