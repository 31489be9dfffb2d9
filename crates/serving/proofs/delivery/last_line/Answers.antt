-- `serving::delivery::last_line` meets its contract: what stands behind the last newline is the rest of the lines.
-- Assumes nothing.
use Rattle.serving.proofs.LastLine.{last_rest}
use Rattle.serving.proofs.delivery.last_line.Goals as goal

pub returns : goal.returns
returns c =
    let place = c.behind_newline.ensures in
    last_rest _ _ _ c.saturating_sub.ensures place.within place.newline place.behind
