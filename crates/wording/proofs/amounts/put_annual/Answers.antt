-- `wording::amounts::put_annual` meets its contract: two texts, one behind the other.
-- Assumes nothing.
use Rattle.wording.specs.Wording.{annual_text}
use Rattle.wording.proofs.WordingLaws.{two_put}
use Rattle.wording.proofs.amounts.put_annual.Goals as goal

pub returns : goal.returns
unfolding annual_text
returns c = two_put _ _ _ _ _ c.put_labelled.ensures c.put_counted.ensures
