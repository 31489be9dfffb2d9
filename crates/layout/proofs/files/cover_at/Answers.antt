-- `layout::files::cover_at` meets its contract. Each position is sound, so the sum fits.
-- Assumes nothing.
use Rattle.layout.proofs.CoverLaws.{cover-step, cover-fits, cover-end}
use Rattle.layout.proofs.files.cover_at.Goals as goal

pub overflow_add-sum : goal.overflow_add-sum
overflow_add-sum c =
    cover-fits c.args.words.now c.args.at c.args.from.0 c.args.through.0 c.loop-k.k _ _ c.loop-k-test.true c.read_row-slot.ensures c.counts-sum.ensures _
    c.loop-k.invariant c.requires.1

pub loop-k-preserved : goal.loop-k-preserved
loop-k-preserved c =
    cover-step c.args.words.now c.args.at c.args.from.0 c.args.through.0 c.loop-k.k _ _ c.loop-k-test.true c.read_row-slot.ensures c.counts-sum.ensures _
    c.loop-k.invariant

pub returns : goal.returns
returns c = cover-end c.args.words.now c.args.at c.args.from.0 c.args.through.0 c.loop-k.k _ c.loop-k-test.false c.loop-k.invariant
