-- `report::file_text::put_standing` meets its contract: three lines.
-- Assumes nothing.
use Rattle.report.proofs.FileLaws.{standing_put}
use Rattle.report.proofs.file_text.put_standing.Goals as goal

pub returns : goal.returns
returns c =
    standing_put _ _ _ _ _ _ _ _ c.cover-cover.ensures c.saturating_sub.ensures c.put_amount.ensures c.put_amount-2.ensures c.put_amount-3.ensures
