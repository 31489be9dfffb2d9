-- `dialogue::passes::make_but_days` meets its contract: an advance is answered and writes nothing, and any other request is applied.
-- Assumes nothing.
use Rattle.dialogue.proofs.PassLaws.{advance-made, other-made}
use Rattle.dialogue.proofs.passes.make_but_days.Goals as goal

pub returns-in-Advance : goal.returns-in-Advance
returns-in-Advance c =
    advance-made c.args.place c.args.book.now c.args.request c.args.numbers.now c.in-Advance.day c.in-Advance.budget _ c.advance_answer.result
    c.requires c.in-Advance.is c.days_to_open.ensures c.advance_answer.ensures

pub returns-in_default : goal.returns-in_default
returns-in_default c =
    other-made c.args.place c.args.book.now c.apply_at.new.book c.args.request c.args.numbers.now c.apply_at.result c.replaying.result
    c.in_default.not-Advance c.replaying.ensures c.apply_at.ensures
