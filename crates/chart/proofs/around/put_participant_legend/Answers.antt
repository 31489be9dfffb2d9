-- `chart::around::put_participant_legend` meets its contract: its parts stand one behind the other.
-- Assumes nothing.
use Rattle.chart.specs.Picture.{participant_legend}
use Rattle.chart.proofs.Pieces.{written}
use Rattle.chart.proofs.around.put_participant_legend.Goals as goal

pub returns : goal.returns
unfolding participant_legend
returns c =
    let two = written _ _ _ _ _ c.put_line_key.ensures c.put_line_key-2.ensures in
    let three = written _ _ _ _ _ two c.text.ensures in
    let four = written _ _ _ _ _ three c.text-2.ensures in
    let five = written _ _ _ _ _ four c.text-3.ensures in
    written _ _ _ _ _ five c.text-4.ensures
