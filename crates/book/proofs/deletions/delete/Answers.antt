-- `book::deletions::delete` meets its contract: a refusal writes nothing, and an accepted deletion its file.
-- Assumes nothing.
use mathlib.Core.Path.{refl, sym, ap, ◌∙◌}
use Rattle.std.proofs.lemmas.Result.{err_from_is_err_and}
use Rattle.file.specs.Answer.{deletion_says}
use Rattle.book.proofs.Functions.OnWords.{given-unknown, given-refused}
use Rattle.book.proofs.Functions.OnDeletions.{given-deletion}
use Rattle.book.proofs.deletions.delete.Goals as goal

pub returns-in_err-admitted : goal.returns-in_err-admitted
returns-in_err-admitted c =
    let e = err_from_is_err_and c.from_residual.result c.from_residual.ensures.1 in rw (e.1, e.2) (given-unknown _ _ _ _ c.requires refl c.in_err-admitted.ensures)

pub returns-in_err-deletion : goal.returns-in_err-deletion
returns-in_err-deletion c =
    let v = c.in_ok-admitted.ensures in
    let e = err_from_is_err_and c.from_residual-in_err-deletion.result c.from_residual-in_err-deletion.ensures.1 in
    rw (e.1, e.2)
    (given-refused _ _ _ _ _ _ v.0 v.1 v.3 refl (sym (ap deletion_says c.in_err-deletion.was) ∙ c.deletion-answer.ensures.0) c.requires v.2 refl)

pub returns : goal.returns
returns c =
    let v = c.in_ok-admitted.ensures in
    given-deletion _ _ _ _ _ _ _ c.requires v.0 v.1 v.2 v.3 (sym (ap deletion_says c.in_ok-deletion.was) ∙ c.deletion-answer.ensures.0)
    c.deletion-answer.ensures.1 (rw c.place.ensures at c.put_file.ensures)
