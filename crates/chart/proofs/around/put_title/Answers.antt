-- `chart::around::put_title` meets its contract: its parts stand one behind the other.
-- Assumes nothing.
use Rattle.chart.specs.Picture.{title_text}
use Rattle.chart.proofs.Pieces.{written}
use Rattle.chart.proofs.around.put_title.Goals as goal

pub returns : goal.returns
unfolding title_text
returns c =
    let last = rw c.last_shown.ensures at c.put-2.ensures in
    let two = written _ _ _ _ _ c.text.ensures c.put_subject.ensures in
    let three = written _ _ _ _ _ two c.put.ensures in
    let four = written _ _ _ _ _ three c.text-2.ensures in
    let five = written _ _ _ _ _ four last in
    written _ _ _ _ _ five c.text-3.ensures
