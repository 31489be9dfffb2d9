-- `book::batches::put_parts` meets its contract: what is kept of a part is what its settlement leaves behind the parts before it.
-- Assumes nothing.
use Rattle.book.proofs.Functions.OnBatches.{part_low, part-given, judges_there, kept_there, made-next}
use Rattle.book.proofs.batches.put_parts.Goals as goal

pub put_settled-requires : goal.put_settled-requires
put_settled-requires c = (c.loop-i.invariant.0, part_low _ _ _ _ _ c.requires.2 c.loop-i-test.true _ c.part_at-participant.ensures)

pub loop-i-preserved : goal.loop-i-preserved
loop-i-preserved c = let made =
    part-given _ _ _ _ _ c.requires.2 c.loop-i-test.true _ c.part_at-participant.ensures c.requires.1 _ c.loop-i.invariant.1 _ _ _
    c.month.ensures (kept_there c.args.answers.now c.loop-i.i _ (judges_there _ _ _ _ _ c.requires.2 c.loop-i-test.true)) c.put_settled.ensures in
    (made.formed, made-next _ _ _ _ _ _ c.loop-i.invariant.1 made)
