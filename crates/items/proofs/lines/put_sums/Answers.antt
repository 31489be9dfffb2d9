-- `items::lines::put_sums` meets its contract: the sums of the items, and the figures of the statement where there is one.
-- Assumes nothing.
use Rattle.items.proofs.StatedLaws.{sums_none, sums_some}
use Rattle.items.proofs.lines.put_sums.Goals as goal

pub returns-in-Ok : goal.returns-in-Ok
returns-in-Ok c =
    sums_some c.args.words.now c.args.participant c.statement.result c.statement.ensures c.args.items c.args.out.now c.put_sum.new.out
    c.put_sum-in-Ok.new.out c.in-Ok.s c.in-Ok.is (rw (c.all_days.ensures, c.all_mills.ensures) at c.put_sum.ensures) c.put_sum-in-Ok.ensures

pub returns-in_default : goal.returns-in_default
returns-in_default c =
    sums_none c.args.words.now c.args.participant c.statement.result c.statement.ensures c.args.items c.args.out.now c.put_sum.new.out c.put_sum.new.out
    c.in_default.field-0 c.in_default.is (rw (c.all_days.ensures, c.all_mills.ensures) at c.put_sum.ensures)
