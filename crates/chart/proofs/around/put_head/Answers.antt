-- `chart::around::put_head` meets its contract: its parts stand one behind the other.
-- Assumes nothing.
use Rattle.chart.specs.Picture.{head}
use Rattle.chart.proofs.Pieces.{written}
use Rattle.chart.proofs.around.put_head.Goals as goal

pub returns : goal.returns
unfolding head
returns c =
    let two = written _ _ _ _ _ c.put_opening.ensures c.put_title.ensures in
    let three = written _ _ _ _ _ two c.put_grid.ensures in
    let four = written _ _ _ _ _ three c.put_axes.ensures in
    let five = written _ _ _ _ _ four c.put_ticks.ensures in
    written _ _ _ _ _ five c.put_legend.ensures
