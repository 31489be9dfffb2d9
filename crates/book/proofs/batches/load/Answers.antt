-- `book::batches::load` meets its contract: a file that is no batch and a refused part leave every word, and where there is none all are settled.
-- Assumes nothing.
use mathlib.Core.Path.{sym}
use Rattle.std.proofs.lemmas.Result.{err_from_is_err_and}
use Rattle.book.proofs.Functions.OnBatches.{load-no-batch, load-refused, load-settled}
use Rattle.book.proofs.batches.load.Goals as goal

pub returns-in_err-parts : goal.returns-in_err-parts
returns-in_err-parts c =
    let e = err_from_is_err_and c.from_residual.result c.from_residual.ensures.1 in rw (e.1, e.2) (load-no-batch _ c.requires _ _ c.in_err-parts.ensures)

pub returns-in_err-judge : goal.returns-in_err-judge
returns-in_err-judge c =
    let e = err_from_is_err_and c.from_residual-in_err-judge.result c.from_residual-in_err-judge.ensures.1 in
    rw (e.1, e.2) (load-refused _ c.requires _ _ _ (sym c.in_ok-parts.ensures) c.in_err-judge.ensures)

pub returns : goal.returns
returns c = load-settled _ c.requires _ _ _ _ (sym c.in_ok-parts.ensures) c.in_ok-judge.ensures c.put_parts.ensures.0 c.put_parts.ensures.1
