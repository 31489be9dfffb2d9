-- `journal::lists::settle` meets its contract: as many figures as words are left.
-- Assumes nothing.
use Rattle.journal.specs.declared.fields.Kind.{Kind}
use Rattle.journal.proofs.FieldLaws.{field_fault}
use Rattle.journal.proofs.ListLaws.{settle_fault, settle_err, settle_is, parsed_err}
use Rattle.journal.proofs.lists.settle.Goals as goal

pub returns-in_err-participant : goal.returns-in_err-participant
returns-in_err-participant c =
    parsed_err _ _ c.from_residual.result _ _ c.from_residual.ensures.1
    (settle_fault _ _ _ _ (field_fault Kind.Month _ _ c.in_err-participant.ensures))

pub returns-in_err-month : goal.returns-in_err-month
returns-in_err-month c =
    parsed_err _ _ c.from_residual-in_err-month.result _ _ c.from_residual-in_err-month.ensures.1
    (settle_fault _ _ _ _ (rw c.in_ok-participant.ensures.1 at c.in_err-month.ensures))

pub returns-in_err-fill : goal.returns-in_err-fill
returns-in_err-fill c =
    let q = rw c.in_ok-participant.ensures.1 at c.in_ok-month.ensures in
    parsed_err _ _ c.from_residual-in_err-fill.result _ _ c.from_residual-in_err-fill.ensures.1
    (settle_err _ _ _ _ _ c.in_ok-participant.ensures.0 q.0 q.1 _ _ c.count_words-count.ensures c.fill.new.words _ c.in_err-fill.ensures.filled)

pub returns : goal.returns
returns c =
    let q = rw c.in_ok-participant.ensures.1 at c.in_ok-month.ensures in
    settle_is _ _ _ _ _ c.in_ok-participant.ensures.0 q.0 q.1 _ _ c.count_words-count.ensures c.fill.new.words _ c.in_ok-fill.ensures.filled
    c.in_ok-fill.ensures.whole (rw c.month_numbered.ensures at c.closed.ensures.whole)
