-- `book::calls::admit` meets its contract: what the old rule refuses is refused alike, role 1 with 23, and any other role is put.
-- Assumes nothing.
use mathlib.Core.Path.{refl}
use Rattle.std.proofs.lemmas.Result.{err_from_is_err_and}
use Rattle.book.proofs.Functions.OnWords.{refused-alike, retired-role}
use Rattle.book.proofs.calls.admit.Goals as goal

pub returns-in_err-admission_answer : goal.returns-in_err-admission_answer
returns-in_err-admission_answer c =
    let e = err_from_is_err_and c.from_residual.result c.from_residual.ensures.1 in rw (e.1, e.2) (refused-alike _ _ _ _ c.requires c.in_err-admission_answer.ensures refl)

pub returns-then-role-eq1 : goal.returns-then-role-eq1
returns-then-role-eq1 c = retired-role _ _ _ c.in_ok-admission_answer.ensures c.requires c.if-role-eq1.true
