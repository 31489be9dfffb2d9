-- `items::lines::put_csv` meets its contract: eight texts with a comma between each two, and the end of the line.
-- Assumes nothing.
use Rattle.printing.specs.Decimals.{decimal}
use Rattle.printing.specs.Columns.{fixed}
use Rattle.printing.specs.Dates.{date_text}
use Rattle.items.specs.Items.{days_of, shortfall_of, charge_a_day, charge_of}
use Rattle.items.specs.State.{in_word}
use Rattle.items.specs.Lines.{line}
use Rattle.items.proofs.LineLaws.{eight_listed}
use Rattle.items.proofs.lines.put_csv.Goals as goal

pub returns : goal.returns
unfolding line
returns c =
    let run = c.args.run in
    let days = rw c.days.ensures at c.put_listed-2.ensures in
    let shortfall = rw c.shortfall.ensures at c.put_listed-5.ensures in
    let charge_a_day_put = rw c.charge_a_day.ensures at c.put_listed-6.ensures in
    let charge_put = rw c.charge.ensures at c.put_listed-7.ensures in
    eight_listed _ _ _ _ _ _ _ _ _ _ (date_text run.from.0) (date_text run.to.0) (decimal (days_of run)) (fixed 2 run.firm) (fixed 2 run.cover)
    (fixed 2 (shortfall_of run)) (fixed 5 (charge_a_day run)) (fixed 5 (in_word (charge_of run))) c.put.ensures c.put_listed.ensures days
    c.put_listed-3.ensures c.put_listed-4.ensures shortfall charge_a_day_put charge_put c.byte.ensures
