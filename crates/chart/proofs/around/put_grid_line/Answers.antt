-- `chart::around::put_grid_line` meets its contract: its parts stand one behind the other.
-- Assumes nothing.
use Rattle.chart.specs.Picture.{grid_line}
use Rattle.chart.proofs.Pieces.{written}
use Rattle.chart.proofs.around.put_grid_line.Goals as goal

pub returns : goal.returns
unfolding grid_line
returns c =
    let amount = rw c.top_of.ensures at c.put-3.ensures in
    let two = written _ _ _ _ _ c.text.ensures c.put.ensures in
    let three = written _ _ _ _ _ two c.text-2.ensures in
    let four = written _ _ _ _ _ three c.put-2.ensures in
    let five = written _ _ _ _ _ four c.text-3.ensures in
    let six = written _ _ _ _ _ five amount in
    written _ _ _ _ _ six c.text-4.ensures
