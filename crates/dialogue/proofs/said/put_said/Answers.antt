-- `dialogue::said::put_said` meets its contract: the answer, its wording and the newline are put one after the other, or nothing.
-- Assumes nothing.
use Rattle.dialogue.proofs.SaidLaws.{said_put, said_nothing}
use Rattle.dialogue.proofs.said.put_said.Goals as goal

pub returns-then-speaks : goal.returns-then-speaks
returns-then-speaks c =
    said_put c.args.words c.args.answer c.args.text.now c.speaks.result c.speaks.ensures _ _ _ _ c.if-speaks.true c.put.ensures
    c.put_wording_if.ensures c.byte.ensures

pub returns-else-speaks : goal.returns-else-speaks
returns-else-speaks c = said_nothing c.args.words c.args.answer c.args.text.now c.speaks.result c.speaks.ensures _ c.if-speaks.false
