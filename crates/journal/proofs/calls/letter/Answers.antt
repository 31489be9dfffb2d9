-- `journal::calls::letter` meets its contract: a fault is kept.
-- Assumes nothing.
use Rattle.journal.specs.Grammar.{letter_of}
use Rattle.journal.specs.declared.fields.Kind.{Kind}
use Rattle.journal.proofs.FieldLaws.{closed_late, field_fault}
use Rattle.journal.proofs.calls.letter.Goals as goal

pub returns-in_err-amount : goal.returns-in_err-amount
unfolding letter_of
returns-in_err-amount c =
    closed_late c.from_residual.result _ _ _ c.from_residual.ensures.1
    (field_fault Kind.Day _ _ (field_fault Kind.Day _ _ c.in_err-amount.ensures))

pub returns-in_err-first : goal.returns-in_err-first
unfolding letter_of
returns-in_err-first c =
    closed_late c.from_residual-in_err-first.result _ _ _ c.from_residual-in_err-first.ensures.1
    (field_fault Kind.Day _ _ (rw c.in_ok-amount.ensures.1 at c.in_err-first.ensures))
