-- `book::batches::part_answer` meets its contract: the sum is that of the part's figures, and it is answered as their settlement.
-- Assumes nothing.
use Rattle.book.proofs.Functions.OnBatches.{part-judged}
use Rattle.book.proofs.batches.part_answer.Goals as goal

pub returns : goal.returns
returns c =
    let v = c.in_ok-admitted.ensures in
    part-judged _ _ _ _ _ _ _ _ _ c.part_at-part.ensures v.0 v.1 v.2 v.3 c.requires.1 c.sum_part.ensures c.settlement.ensures
