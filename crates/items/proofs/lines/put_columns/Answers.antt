-- `items::lines::put_columns` meets its contract: eight columns and the end of the line.
-- Assumes nothing.
use Rattle.printing.specs.Decimals.{decimal}
use Rattle.printing.specs.Columns.{padded, fixed}
use Rattle.printing.specs.Dates.{date_text}
use Rattle.items.specs.Items.{days_of, shortfall_of, charge_a_day, charge_of}
use Rattle.items.specs.State.{in_word}
use Rattle.items.specs.Lines.{line}
use Rattle.items.proofs.LineLaws.{eight_columns}
use Rattle.items.proofs.lines.put_columns.Goals as goal

pub returns : goal.returns
unfolding line
returns c =
    let run = c.args.run in
    let days = rw c.days.ensures at c.spaced-2.ensures in
    let amounts = rw (c.euros.ensures, c.euros-2.ensures, c.euros-3.ensures, c.shortfall.ensures) at c.each_spaced.ensures in
    let charges = rw (c.charge_in.ensures, c.charge_in-2.ensures, c.charge_a_day.ensures, c.charge.ensures) at c.each_spaced-2.ensures in
    eight_columns _ _ _ _ _ _ _ (date_text run.from.0) (date_text run.to.0) (padded 6 (decimal (days_of run))) (padded 17 (fixed 2 run.firm))
    (padded 17 (fixed 2 run.cover)) (padded 17 (fixed 2 (shortfall_of run))) (padded 17 (fixed 5 (charge_a_day run)))
    (padded 21 (fixed 5 (in_word (charge_of run)))) c.put.ensures c.spaced.ensures days amounts charges c.byte.ensures
