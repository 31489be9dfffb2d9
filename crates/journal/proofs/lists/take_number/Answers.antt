-- `journal::lists::take_number` meets its contract: the next word as a number of a list.
-- Assumes nothing.
use Rattle.std.proofs.Common.{refl}
use Rattle.journal.proofs.ListLaws.{number_is, number_none, number_err}
use Rattle.journal.proofs.lists.take_number.Goals as goal

pub returns-in_err-word : goal.returns-in_err-word
returns-in_err-word c =
    number_err c.args.due _ c.from_residual.result c.in_err-word.field-0.0 c.take_word.new.words c.from_residual.ensures.1
    (number_none c.args.due _ _ c.in_err-word.ensures.0 c.in_err-word.ensures.1)

pub returns : goal.returns
returns c = rw c.ok_or.ensures.value (number_is c.args.due _ _ _ _ c.take_word.new.words c.in_ok-word.ensures refl c.read_number.ensures)
