-- `journal::batch::batch` meets its contract: what is wrong with a file's word, and its bytes.
-- Assumes nothing.
use Rattle.std.proofs.Common.{refl}
use Rattle.journal.proofs.ListLaws.{parsed_err}
use Rattle.journal.proofs.BatchLaws.{file_is, batch_not_hex, batch_long, batch_more, batch_is}
use Rattle.journal.proofs.batch.batch.Goals as goal

pub returns-then-not-is_hexadecimal : goal.returns-then-not-is_hexadecimal
returns-then-not-is_hexadecimal c =
    batch_not_hex _ _ _ (file_is c.next.result _ _ _ _ c.next.ensures.steps c.unwrap_or-file.ensures refl) _ _ c.is_hexadecimal.ensures
    c.if-not-is_hexadecimal.true

pub returns-then-numbers-file : goal.returns-then-numbers-file
returns-then-numbers-file c =
    batch_long _ _ _ (file_is c.next.result _ _ _ _ c.next.ensures.steps c.unwrap_or-file.ensures refl) _ _ c.is_hexadecimal.ensures
    c.if-not-is_hexadecimal.false c.if-numbers-file.true

pub returns-in_err-call : goal.returns-in_err-call
returns-in_err-call c =
    parsed_err _ _ c.from_residual.result _ _ c.from_residual.ensures.1
    (batch_more _ _ _ (file_is c.next.result _ _ _ _ c.next.ensures.steps c.unwrap_or-file.ensures refl) _ _ c.is_hexadecimal.ensures
    c.if-not-is_hexadecimal.false c.if-numbers-file.false _ _ c.in_err-call.ensures.whole)

pub returns : goal.returns
returns c =
    batch_is _ _ _ (file_is c.next.result _ _ _ _ c.next.ensures.steps c.unwrap_or-file.ensures refl) _ _ c.is_hexadecimal.ensures
    c.if-not-is_hexadecimal.false c.if-numbers-file.false _ _ c.in_ok-call.ensures.whole c.in_ok-call.ensures.none_left c.write_bytes.ensures
