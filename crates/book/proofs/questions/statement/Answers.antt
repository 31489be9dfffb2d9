-- `book::questions::statement` meets its contract: the words read are those of the statement.
-- Assumes nothing.
use Rattle.std.proofs.lemmas.Result.{err_from_is_err_and}
use Rattle.book.proofs.Functions.OnWords.{unknown-stated, given-statement}
use Rattle.book.proofs.questions.statement.Goals as goal

pub returns-in_err-file : goal.returns-in_err-file
returns-in_err-file c =
    let e = err_from_is_err_and c.from_residual.result c.from_residual.ensures.1 in rw (e.1, e.2) (unknown-stated _ _ _ c.in_err-file.ensures)

pub returns : goal.returns
returns c =
    let v = c.in_ok-file.ensures in
    given-statement _ _ _ _ v.0 v.1 v.2 v.3 _ _ _ _ _ _ _ _ c.firm-firm.ensures c.today.ensures c.today-2.ensures c.cover-cover.ensures c.charged.ensures
    c.accrued.ensures c.saturating_sub.ensures c.made.ensures
