-- `answering::calls::apply_by_old_rule` meets its contract: any request but an admission is answered alike.
-- Assumes nothing.
use Rattle.answering.proofs.CallLaws.{alike_otherwise}
use Rattle.answering.proofs.calls.apply_by_old_rule.Goals as goal

pub returns-in_default : goal.returns-in_default
returns-in_default c =
    alike_otherwise c.args.book.now c.apply.new.book c.args.line c.args.request c.args.numbers.now c.apply.result c.in_default.not-Admit c.requires
    c.apply.ensures
