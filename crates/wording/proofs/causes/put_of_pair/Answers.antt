-- `wording::causes::put_of_pair` meets its contract: three texts, one behind the other.
-- Assumes nothing.
use Rattle.wording.specs.Wording.{of_pair}
use Rattle.wording.proofs.WordingLaws.{three_put}
use Rattle.wording.proofs.causes.put_of_pair.Goals as goal

pub returns : goal.returns
unfolding of_pair
returns c = three_put _ _ _ _ _ _ _ c.text.ensures c.put.ensures c.text-2.ensures
