-- `journal::lists::list` meets its contract: a list is its length and then its numbers.
-- Assumes nothing.
use Rattle.std.proofs.Common.{length}
use Rattle.journal.proofs.ListLaws.{list_is, list_fault, filled_err, filled_count}
use Rattle.journal.proofs.lists.list.Goals as goal

pub returns-in_err-count-clause-filled : goal.returns-in_err-count-clause-filled
returns-in_err-count-clause-filled c =
    filled_err _ _ c.from_residual.result c.in_err-count.field-0.0 _ c.take.new.words _ c.from_residual.ensures.1
    (list_fault c.args.marks _ c.args.numbers.now _ _ c.in_err-count.ensures)

pub returns-in_err-fill-clause-filled : goal.returns-in_err-fill-clause-filled
returns-in_err-fill-clause-filled c =
    rw (← list_is c.args.marks (length c.args.numbers.now) _ _ _ c.in_ok-count.ensures.0 c.in_ok-count.ensures.1)
    (filled_err _ _ c.from_residual-in_err-fill.result c.in_err-fill.field-0.0 _ c.fill.new.words _ c.from_residual-in_err-fill.ensures.1
    (rw c.in_list.ensures at c.in_err-fill.ensures.filled))

pub returns-clause-filled : goal.returns-clause-filled
returns-clause-filled c =
    rw (← list_is c.args.marks (length c.args.numbers.now) _ _ _ c.in_ok-count.ensures.0 c.in_ok-count.ensures.1)
    (filled_count _ _ _ _ _ (rw c.in_list.ensures at c.in_ok-fill.ensures.filled))

pub returns-clause-whole : goal.returns-clause-whole
returns-clause-whole c =
    rw (← list_is c.args.marks (length c.args.numbers.now) _ _ _ c.in_ok-count.ensures.0 c.in_ok-count.ensures.1) (rw c.in_list.ensures at c.in_ok-fill.ensures.whole)
