-- `journal::calls::release` meets its contract: a fault is kept.
-- Assumes nothing.
use Rattle.journal.specs.Grammar.{release_of}
use Rattle.journal.specs.declared.fields.Kind.{Kind}
use Rattle.journal.proofs.FieldLaws.{closed_late, field_fault}
use Rattle.journal.proofs.calls.release.Goals as goal

pub returns-in_err-participant : goal.returns-in_err-participant
unfolding release_of
returns-in_err-participant c =
    closed_late c.from_residual.result _ _ _ c.from_residual.ensures.1
    (field_fault Kind.Amount _ _ (field_fault Kind.Natural _ _ c.in_err-participant.ensures))

pub returns-in_err-position : goal.returns-in_err-position
unfolding release_of
returns-in_err-position c =
    closed_late c.from_residual-in_err-position.result _ _ _ c.from_residual-in_err-position.ensures.1
    (field_fault Kind.Amount _ _ (rw c.in_ok-participant.ensures.1 at c.in_err-position.ensures))
