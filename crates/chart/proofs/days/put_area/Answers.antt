-- `chart::days::put_area` meets its contract: its parts stand one behind the other.
-- Assumes nothing.
use Rattle.chart.specs.Picture.{area}
use Rattle.chart.proofs.Pieces.{written}
use Rattle.chart.proofs.days.put_area.Goals as goal

pub returns : goal.returns
unfolding area
returns c =
    let left = rw c.x_of-x.ensures at c.put_placed.ensures in
    let width = rw (c.max-width.ensures, c.saturating_sub.ensures, c.x_end.ensures, c.x_of-x.ensures) at c.put_placed-2.ensures in
    let two = written _ _ _ _ _ left width in
    written _ _ _ _ _ two c.text.ensures
