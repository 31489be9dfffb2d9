-- `book::settlements::settle` meets its contract: a refusal writes nothing, and what is written is what the answer leaves.
-- Assumes nothing.
use mathlib.Core.Path.{refl}
use Rattle.std.proofs.lemmas.Result.{err_from_is_err_and}
use Rattle.book.proofs.Functions.OnWords.{given-unknown}
use Rattle.book.proofs.Functions.SettlementsPut.{settlement-given, settlement-refused}
use Rattle.book.proofs.settlements.settle.Goals as goal

pub returns-in_err-file : goal.returns-in_err-file
returns-in_err-file c =
    let e = err_from_is_err_and c.from_residual.result c.from_residual.ensures.1 in rw (e.1, e.2) (given-unknown _ _ _ _ c.requires refl c.in_err-file.ensures)

pub returns-in_err-settled : goal.returns-in_err-settled
returns-in_err-settled c =
    let v = c.in_ok-file.ensures in
    let e = err_from_is_err_and c.from_residual-in_err-settled.result c.from_residual-in_err-settled.ensures.1 in
    rw (e.1, e.2)
    (settlement-refused _ _ _ _ _ _ _ _ _ _ v.0 v.1 v.3 c.today.ensures c.due_on.ensures c.sum_figures.ensures c.in_err-settled.ensures c.requires v.2 refl)

pub returns : goal.returns
returns c =
    let v = c.in_ok-file.ensures in
    settlement-given _ _ _ _ _ _ _ _ _ _ v.0 v.1 v.3 c.today.ensures c.due_on.ensures c.sum_figures.ensures c.in_ok-settled.ensures _ c.put_settled.ensures
