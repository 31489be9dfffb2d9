-- `book::positions::lodge` meets its contract: a refusal writes nothing, and what was lodged is put at its position.
-- Assumes nothing.
use mathlib.Core.Path.{refl}
use Rattle.std.proofs.lemmas.Result.{err_from_is_err_and}
use Rattle.book.proofs.Functions.OnWords.{given-unknown, given-refused}
use Rattle.book.proofs.Functions.OnPositions.{given-lodged}
use Rattle.book.proofs.positions.lodge.Goals as goal

pub returns-in_err-admitted : goal.returns-in_err-admitted
returns-in_err-admitted c =
    let e = err_from_is_err_and c.from_residual.result c.from_residual.ensures.1 in rw (e.1, e.2) (given-unknown _ _ _ _ c.requires refl c.in_err-admitted.ensures)

pub returns-in_err-lodging : goal.returns-in_err-lodging
returns-in_err-lodging c =
    let v = c.in_ok-admitted.ensures in
    let e = err_from_is_err_and c.from_residual-in_err-lodging.result c.from_residual-in_err-lodging.ensures.1 in
    rw (e.1, e.2) (given-refused _ _ _ _ _ _ v.0 v.1 v.3 refl c.in_err-lodging.ensures c.requires v.2 refl)

pub returns : goal.returns
returns c =
    let v = c.in_ok-admitted.ensures in
    given-lodged _ _ _ _ _ _ c.requires v.0 v.1 v.2 v.3 _ c.in_ok-lodging.ensures c.put_position.ensures
