-- `dialogue::passes::make_line` meets its contract: the line is asked and made but for its days, which are those of its answer.
-- Assumes nothing.
use Rattle.dialogue.proofs.PassLaws.{made-line}
use Rattle.dialogue.proofs.passes.make_line.Goals as goal

pub returns-clause-made : goal.returns-clause-made
returns-clause-made c =
    made-line c.args.place c.place_behind.result c.args.book.now c.make_but_days-answer.new.book c.args.line.now c.args.numbers.now _
    c.ask-request.result c.make_but_days-answer.result c.days_of.result c.replaying.result c.replaying.ensures c.ask-request.ensures
    c.make_but_days-answer.ensures c.place_behind.ensures c.days_of.ensures
