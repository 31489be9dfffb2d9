-- `items::lines::put_sum` meets its contract: three columns and the end of the line.
-- Assumes nothing.
use Rattle.printing.specs.Decimals.{decimal}
use Rattle.printing.specs.Columns.{padded, fixed}
use Rattle.items.specs.Lines.{sum_line}
use Rattle.items.proofs.LineLaws.{three_columns}
use Rattle.items.proofs.lines.put_sum.Goals as goal

pub returns : goal.returns
unfolding sum_line
returns c =
    three_columns _ _ _ _ _ c.args.label.now (padded 6 (decimal c.args.days)) (padded 93 (fixed 5 c.args.mills)) c.text.ensures c.spaced.ensures
    (rw c.charge_in.ensures at c.spaced-2.ensures) c.byte.ensures
