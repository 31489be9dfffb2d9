-- `book::positions::release` meets its contract: a refusal writes nothing, and what is left is put at its position.
-- Assumes nothing.
use mathlib.Core.Path.{refl}
use Rattle.std.proofs.lemmas.Result.{err_from_is_err_and}
use Rattle.book.proofs.Functions.OnWords.{given-unknown, given-refused}
use Rattle.book.proofs.Functions.OnPositions.{given-released}
use Rattle.book.proofs.positions.release.Goals as goal

pub returns-in_err-admitted : goal.returns-in_err-admitted
returns-in_err-admitted c =
    let e = err_from_is_err_and c.from_residual.result c.from_residual.ensures.1 in rw (e.1, e.2) (given-unknown _ _ _ _ c.requires refl c.in_err-admitted.ensures)

pub returns-in_err-left : goal.returns-in_err-left
returns-in_err-left c =
    let v = c.in_ok-admitted.ensures in
    let e = err_from_is_err_and c.from_residual-in_err-left.result c.from_residual-in_err-left.ensures.1 in
    rw (e.1, e.2) (given-refused _ _ _ _ _ _ v.0 v.1 v.3 refl c.in_err-left.ensures c.requires v.2 refl)

pub returns : goal.returns
returns c =
    let v = c.in_ok-admitted.ensures in
    let left = c.in_ok-left.ensures in
    given-released _ _ _ _ _ _ c.requires v.0 v.1 v.2 v.3 _ _ left.0 left.1 c.put_position.ensures
