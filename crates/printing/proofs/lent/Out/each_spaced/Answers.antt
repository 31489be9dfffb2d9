-- `printing::lent::Out::each_spaced` meets its contract: each turn takes the first of what is left.
-- Assumes nothing.
use Rattle.printing.specs.WrittenLaws.{followed_part, followed_all}
use Rattle.printing.proofs.OutLaws.{spaced_first, spaced_done}
use Rattle.printing.proofs.lent.Out.each_spaced.Goals as goal

pub loop-x-preserved : goal.loop-x-preserved
loop-x-preserved g c =
    followed_part _ _ _ _ _ _ c.loop-x.invariant (spaced_first g.T.Puts.text _ _ _ c.loop-x-test.true c.x-item.is) c.spaced.ensures

pub returns : goal.returns
returns g c = followed_all _ _ _ c.loop-x.invariant (spaced_done g.T.Puts.text _ _ c.loop-x-test.false)
