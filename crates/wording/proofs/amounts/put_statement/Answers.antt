-- `wording::amounts::put_statement` meets its contract: six texts, one behind the other.
-- Assumes nothing.
use Rattle.wording.specs.Wording.{statement_text}
use Rattle.wording.proofs.WordingLaws.{six_put}
use Rattle.wording.proofs.amounts.put_statement.Goals as goal

pub returns : goal.returns
unfolding statement_text
returns c =
    six_put _ _ _ _ _ _ _ _ _ _ _ _ _ c.put_labelled.ensures c.put_labelled-2.ensures c.put_labelled-3.ensures c.put_counted.ensures c.put.ensures
    c.put_counted-2.ensures
