-- `journal::calls::lodge` meets its contract: what is lodged decides.
-- Assumes nothing.
use Rattle.std.proofs.Common.{◌≡◌, sym, ap, ◌∙◌}
use Rattle.std.specs.Cmp.Lexicographic.{pointwise}
use lib.Dec.{eqb}
use Rattle.journal.specs.declared.fields.Kind.{Kind}
use Rattle.journal.proofs.FieldLaws.{said_err, field_fault}
use Rattle.journal.proofs.LineLaws.{lodge_fault, lodge_none, lodge_cash, lodge_letter, lodge_other}
use Rattle.journal.proofs.calls.lodge.Goals as goal

pub returns-in_err-participant : goal.returns-in_err-participant
returns-in_err-participant c =
    said_err c.from_residual.result _ c.from_residual.ensures.1
    ∙ sym (lodge_fault _ _ (field_fault Kind.Natural _ _ c.in_err-participant.ensures))

pub returns-in_err-position : goal.returns-in_err-position
returns-in_err-position c =
    said_err c.from_residual-in_err-position.result _ c.from_residual-in_err-position.ensures.1
    ∙ sym (lodge_fault _ _ (rw c.in_ok-participant.ensures.1 at c.in_err-position.ensures))

pub returns-in_err-lodged : goal.returns-in_err-lodged
returns-in_err-lodged c =
    let q = rw c.in_ok-participant.ensures.1 at c.in_ok-position.ensures in
    said_err c.from_residual-in_err-lodged.result _ c.from_residual-in_err-lodged.ensures.1
    ∙ sym (lodge_none _ _ _ _ c.in_ok-participant.ensures.0 q.0 q.1 _ c.in_err-lodged.ensures.0 c.in_err-lodged.ensures.1)

pub returns-then-eq : goal.returns-then-eq
returns-then-eq c =
    let q = rw c.in_ok-participant.ensures.1 at c.in_ok-position.ensures in
    let t : c.eq.result ≡ pointwise eqb c.in_ok-lodged.lodged.now _ = c.eq.ensures ∙ ap (pointwise eqb c.in_ok-lodged.lodged.now) c.as_slice.ensures in
    c.cash.ensures ∙ sym (lodge_cash _ _ _ _ c.in_ok-participant.ensures.0 q.0 q.1 _ _ c.in_ok-lodged.ensures _ t c.if-eq.true)

pub returns-then-eq-2 : goal.returns-then-eq-2
returns-then-eq-2 c =
    let q = rw c.in_ok-participant.ensures.1 at c.in_ok-position.ensures in
    let t : c.eq.result ≡ pointwise eqb c.in_ok-lodged.lodged.now _ = c.eq.ensures ∙ ap (pointwise eqb c.in_ok-lodged.lodged.now) c.as_slice.ensures in
    let u : c.eq-else-eq.result ≡ pointwise eqb c.in_ok-lodged.lodged.now _ = c.eq-else-eq.ensures ∙ ap (pointwise eqb c.in_ok-lodged.lodged.now) c.as_slice-else-eq.ensures in
    c.letter.ensures
    ∙ sym (lodge_letter _ _ _ _ c.in_ok-participant.ensures.0 q.0 q.1 _ _ c.in_ok-lodged.ensures _ t _ u c.if-eq.false c.if-eq-2.true)

pub returns-else-eq-2 : goal.returns-else-eq-2
returns-else-eq-2 c =
    let q = rw c.in_ok-participant.ensures.1 at c.in_ok-position.ensures in
    let t : c.eq.result ≡ pointwise eqb c.in_ok-lodged.lodged.now _ = c.eq.ensures ∙ ap (pointwise eqb c.in_ok-lodged.lodged.now) c.as_slice.ensures in
    let u : c.eq-else-eq.result ≡ pointwise eqb c.in_ok-lodged.lodged.now _ = c.eq-else-eq.ensures ∙ ap (pointwise eqb c.in_ok-lodged.lodged.now) c.as_slice-else-eq.ensures in
    sym (lodge_other _ _ _ _ c.in_ok-participant.ensures.0 q.0 q.1 _ _ c.in_ok-lodged.ensures _ t _ u c.if-eq.false c.if-eq-2.false)
