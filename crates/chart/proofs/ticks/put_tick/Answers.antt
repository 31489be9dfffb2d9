-- `chart::ticks::put_tick` meets its contract: its parts stand one behind the other.
-- Assumes nothing.
use Rattle.chart.specs.Ticks.{tick}
use Rattle.chart.proofs.Pieces.{written}
use Rattle.chart.proofs.ticks.put_tick.Goals as goal

pub returns : goal.returns
unfolding tick
returns c =
    let stroke = rw c.x_of-x.ensures at c.put_placed.ensures in
    let label = rw c.x_of-x.ensures at c.put_placed-2.ensures in
    let two = written _ _ _ _ _ stroke label in
    let three = written _ _ _ _ _ two c.text.ensures in
    let four = written _ _ _ _ _ three c.put.ensures in
    written _ _ _ _ _ four c.text-2.ensures
