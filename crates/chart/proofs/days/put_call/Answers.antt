-- `chart::days::put_call` meets its contract: its parts stand one behind the other.
-- Assumes nothing.
use Rattle.chart.specs.Picture.{call_mark}
use Rattle.chart.proofs.Pieces.{written}
use Rattle.chart.proofs.days.put_call.Goals as goal

pub returns : goal.returns
unfolding call_mark
returns c =
    let made = rw c.x_of.ensures at c.put_placed.ensures in
    let height = rw c.y_of.ensures at c.put_placed-2.ensures in
    let last = rw c.x_end.ensures at c.put_placed-3.ensures in
    let two = written _ _ _ _ _ made height in
    let three = written _ _ _ _ _ two last in
    let four = written _ _ _ _ _ three c.put_last_stroke.ensures in
    let five = written _ _ _ _ _ four c.text.ensures in
    let six = written _ _ _ _ _ five c.put.ensures in
    let seven = written _ _ _ _ _ six c.text-2.ensures in
    let eight = written _ _ _ _ _ seven c.put-2.ensures in
    written _ _ _ _ _ eight c.text-3.ensures
